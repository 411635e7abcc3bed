use Rattle.std.proofs.Common.{◌≡◌, ℕ, ◌+◌, ◌-◌, ◌≤◌, List, ◌∷◌, ◌++◌, take, drop, arith, ap, sym, subst, ◌∙◌, length-take}
use Rattle.grid_model.specs.Lines.{IsLine}
use Rattle.req_lines.proofs.LineLemmas.{line_found, rest_found, rest_behind, no_newline}
use Rattle.req_lines.proofs.line_reader.LineReader.take_line.Goals as goal

pub returns-in_ok-add_held-in-Some-clause-found : goal.returns-in_ok-add_held-in-Some-clause-found
returns-in_ok-add_held-in-Some-clause-found c =
    let s = c.self.inside.start in
    let e = c.self.inside.end in
    let n = c.in-Some.length in
    let bs = take (e - s) (drop s c.deref.result.now) in
    let found = sym c.in-Some.ensures.place in
    let before : c.args.self.now.unread ≡ take (e - s) (drop s c.self.inside.block.items) = sym (ap (λ r. r.unread) c.self.view_is) in
    let same : take (e - s) (drop s c.self.inside.block.items) ≡ bs = ap (λ (xs : List ℕ). take (e - s) (drop s xs)) (sym c.deref.ensures.value) in
    let inside : s + (n + 1) ≤ e = omega (arith, c.in-Some.ensures.within, length-take (e - s) (drop s c.deref.result.now), c.self.invariant.1) in
    record {
      line = take n bs;
      is = line_found bs n found;
      split = before ∙ same ∙ rest_found bs n found ∙ ap (λ (xs : List ℕ). take n bs ++ 10 ∷ xs)
          (rest_behind s e n c.deref.result.now inside ∙ ap (λ (xs : List ℕ). take (e - (s + (n + 1))) (drop (s + (n + 1)) xs)) c.deref.ensures.value);
      added = c.in_ok-add_held-in-Some.ensures.added;
    }

pub returns-in_ok-add_held-in-None-clause-found : goal.returns-in_ok-add_held-in-None-clause-found
returns-in_ok-add_held-in-None-clause-found c =
    let s = c.self.inside.start in
    let e = c.self.inside.end in
    let bs = take (e - s) (drop s c.deref.result.now) in
    let same : c.args.self.now.unread ≡ bs = sym (ap (λ r. r.unread) c.self.view_is) ∙ ap (λ (xs : List ℕ). take (e - s) (drop s xs)) (sym c.deref.ensures.value) in
    let none : e - e ≡ 0 = omega arith in
    record {
      is = subst IsLine (sym same) (no_newline bs (sym c.in-None.ensures.place));
      all = ap (λ (k : ℕ). take k (drop e c.self.inside.block.items)) none;
      added = c.in_ok-add_held-in-None.ensures.added ∙ ap (λ (xs : List ℕ). take 4097 (c.args.line.now.items ++ xs)) (sym same);
    }
