use Rattle.std.proofs.Common.{◌≡◌, ℕ, min, List, ◌++◌, length, take, arith, refl, ap, ◌∙◌}
use Rattle.req_lines.proofs.LineLemmas.{none_passed, held_passed, block_passed, none_held, stops_here, stops_passing}
use Rattle.req_lines.proofs.line_reader.LineReader.read_body.Goals as goal

pub parts-init : goal.parts-init
parts-init g c = record { so_far = none_passed c.args.self.now _ c.args.count c.requires; body = c.in_ok-reserve.ensures.items ∙ c.clear.ensures.items; tells = refl; later = omega arith; at_once = λ fits. (refl, fits) }

pub parts-preserved : goal.parts-preserved
parts-preserved g c =
    let held = held_passed _ _ _ _ _ _ c.parts.invariant.so_far c.take_held.new.self c.in_ok-left.left c.in_ok-left.ensures.unread c.in_ok-left.ensures.taken c.in_ok-left.ensures.left in
    let n = min c.parts.left (length c.parts.self.unread) in
    let is : c.take_held.new.body.items ≡ held.body = c.in_ok-left.ensures.added ∙ ap (λ (xs : List ℕ). xs ++ take n c.parts.self.unread) c.parts.invariant.body in
    let filled = rw c.in-More.is at c.in_ok-fill.ensures.fills in
    let empty = none_held c.parts.left c.in_ok-left.left c.parts.self.unread c.take_held.new.self.unread c.in_ok-left.ensures.left c.if-left-eq0.false c.in_ok-left.ensures.unread in
    record {
      so_far = block_passed _ _ _ _ _ _ held c.fill.new.self _ empty c.parts.invariant.tells filled.1;
      body = is;
      tells = c.in_ok-fill.ensures.tells ∙ c.parts.invariant.tells;
      later = omega (arith, c.parts.invariant.later, c.in_ok-fill.ensures.cause.later);
      at_once = λ fits. let no : ⊥ = omega (arith, c.if-left-eq0.false, c.in_ok-left.ensures.left, (c.parts.invariant.at_once fits).1) in absurd no;
    }

pub returns-in_err-reserve-clause-stopped : goal.returns-in_err-reserve-clause-stopped
returns-in_err-reserve-clause-stopped g c failed = stops_here c.args.self.now (g.S.Source.source c.args.source.now) c.requires

pub returns-in_err-left-clause-stopped : goal.returns-in_err-left-clause-stopped
returns-in_err-left-clause-stopped g c failed = stops_passing _ _ _ _ _ _ c.parts.invariant.so_far
