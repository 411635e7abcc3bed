-- Reading a line byte by byte: what it spells is what was read, and then what follows.
use Rattle.std.proofs.Common.{◌≡◌, ℕ, suc, ◌+◌, ◌-◌, ◌<◌, ◌≤◌, Bool, true, false, List, [], ◌∷◌, ◌++◌, Some, None, length, take, drop, get_or, refl, sym, ap, ◌∙◌, subst, arith, length-append, append_assoc}
use Rattle.std.specs.Prelude.{Option}
use Rattle.std.proofs.lemmas.List.{append-nil, take_all, take-append-drop, drop_more, length-take-le}
use Rattle.std.proofs.Math.Seq.{take-append-add}
use Rattle.grid_model.specs.Names.{Text}
use Rattle.grid_model.specs.Places.{Begins, IsRefusedAt}
use Rattle.grid_model.specs.Words.{SpellsLine, line_end, nothing}
use Rattle.req_words.specs.Going.{Follows, StepsTo, Moves, Finishes}
use Rattle.req_words.specs.declared.reading.Place.{Place}
use Rattle.req_words.specs.declared.reading.Place.TheVariants.{Gap, Bare, Quoted, Escape, Closed}
use Rattle.req_words.proofs.Steps.{bare_ends_line}

-- the front of a line leads to the place, behind the words that ended in it
pub record Leads (front : Text) (ended : List Text) (place : Place) : Type 0 where
  pub to : (rest : Text) (words : List Text) → Follows place rest words → SpellsLine (front ++ rest) (ended ++ words)
  pub from : (rest : Text) (words : List Text) → SpellsLine (front ++ rest) words → (later : List Text) × (words ≡ ended ++ later) × Follows place rest later

pub Leads-start : (ended : List Text) → ended ≡ [] → Leads [] ended Gap
Leads-start ended none = subst (λ ws. Leads [] ws Gap) (sym none) (record { to = λ rest words line. line; from = λ rest words line. (words, refl, line) })

pub Leads-more : (front : Text) (b : ℕ) (before after : List Text) (place next : Place) → Leads front before place → Moves place before b (Some next) after → Leads (front ++ b ∷ []) after next
Leads-more front b before after place next l m = record {
  to = λ rest words f.
      subst (λ ws. SpellsLine (front ++ b ∷ [] ++ rest) ws) (sym (append_assoc before m.0 words) ∙ ap (λ ws. ws ++ words) (sym m.1))
      (subst (λ t. SpellsLine t (before ++ (m.0 ++ words))) (sym (append_assoc front (b ∷ []) rest)) (l.to (b ∷ rest) (m.0 ++ words) (m.2.to rest words f)));
  from = λ rest words line.
      let first = l.from (b ∷ rest) words (subst (λ t. SpellsLine t words) (append_assoc front (b ∷ []) rest) line) in
      let then = m.2.from rest first.0 first.2 in
      (then.0, first.1 ∙ ap (λ ws. before ++ ws) then.1 ∙ sym (append_assoc before m.0 then.0) ∙ ap (λ ws. ws ++ then.0) (sym m.1), then.2);
}

-- each place has something that may follow
pub completed : (place : Place) → (rest : Text) × (words : List Text) × Follows place rest words
completed Gap = ([], [], line_end)
completed (Bare begun) = ([], begun.items ∷ [], bare_ends_line begun.items)
completed (Quoted begun) = (
  0x22 ∷ [],
  begun.items ∷ [],
  record {
    inner = [];
    more = [];
    behind = [];
    others = [];
    spells = nothing;
    split = refl;
    ends = tt;
    line = line_end;
    words_are = ap (λ t. t ∷ []) (sym (append-nil begun.items));
  },
)
completed (Escape begun) = (
  0x22 ∷ 0x22 ∷ [],
  (begun.items ++ 0x22 ∷ []) ∷ [],
  record {
    byte = 0x22;
    behind = 0x22 ∷ [];
    stands = refl;
    split = refl;
    then = record {
      inner = [];
      more = [];
      behind = [];
      others = [];
      spells = nothing;
      split = refl;
      ends = tt;
      line = line_end;
      words_are = ap (λ t. t ∷ []) (sym (append-nil (begun.items ++ 0x22 ∷ [])));
    };
  },
)
completed Closed = ([], [], (tt, line_end))

begins : (front : Text) (ended : List Text) (place : Place) → Leads front ended place → Begins SpellsLine front
begins front ended place l = let c = completed place in record { more = c.0; value = ended ++ c.1; spells = l.to c.0 c.1 c.2 }

-- a byte that may not stand there
pub IsRefusedAt-byte : (line front more : Text) (b : ℕ) (ended : List Text) (place : Place) → line ≡ front ++ b ∷ more → Leads front ended place → ((rest : Text) (words : List Text) → ¬ Follows place (b ∷ rest) words)
    → IsRefusedAt SpellsLine line (length front)
IsRefusedAt-byte line front more b ended place is l none = subst (λ t. IsRefusedAt SpellsLine t (length front)) (sym is) (record {
  spells_nothing = λ words s. let f = l.from (b ∷ more) words s in none more f.0 f.2;
  within = omega (arith, length-append front (b ∷ more));
  begins = subst (Begins SpellsLine) (sym (ap (λ n. take n (front ++ b ∷ more)) none_more ∙ take-append-add front (b ∷ more) 0 ∙ append-nil front)) (begins front ended place l);
  longest = longest;
})
  where
    none_more : length front ≡ length front + 0
    none_more = omega arith

    longest : (n : ℕ) → length front < n → n ≤ length (front ++ b ∷ more) → Begins SpellsLine (take n (front ++ b ∷ more)) → ⊥
    longest n high low begun =
        let k = n - length front - 1 in
        let count : n ≡ length front + suc k = omega (arith, high) in
        let cut : take n (front ++ b ∷ more) ≡ front ++ b ∷ take k more = ap (λ m. take m (front ++ b ∷ more)) count ∙ take-append-add front (b ∷ more) (suc k) in
        let text : take n (front ++ b ∷ more) ++ begun.more ≡ front ++ b ∷ (take k more ++ begun.more) = ap (λ t. t ++ begun.more) cut ∙ append_assoc front (b ∷ take k more) begun.more in
        let f = l.from (b ∷ (take k more ++ begun.more)) begun.value (subst (λ t. SpellsLine t begun.value) text begun.spells) in
        none (take k more ++ begun.more) f.0 f.2

-- a line that may not end there
pub IsRefusedAt-end : (line : Text) (ended : List Text) (place : Place) → Leads line ended place → ((words : List Text) → ¬ Follows place [] words) → IsRefusedAt SpellsLine line (length line)
IsRefusedAt-end line ended place l none = record {
  spells_nothing = λ words s. let f = l.from [] words (subst (λ t. SpellsLine t words) (sym (append-nil line)) s) in none f.0 f.2;
  within = omega arith;
  begins = subst (Begins SpellsLine) (sym (take_all (length line) line (omega arith))) (begins line ended place l);
  longest = λ n high low b. omega (arith, high, low);
}

pub SpellsLine-end : (line : Text) (before after : List Text) (place : Place) → Leads line before place → Finishes place before true after → SpellsLine line after
SpellsLine-end line before after place l e =
    subst (SpellsLine line) (sym e.1) (subst (λ t. SpellsLine t (before ++ e.0)) (append-nil line) (l.to [] e.0 e.2.to))

-- and only these words
pub only-end : (line : Text) (before after : List Text) (place : Place) → Leads line before place → Finishes place before true after → (others : List Text) → SpellsLine line others → others ≡ after
only-end line before after place l e others s =
    let f = l.from [] others (subst (λ t. SpellsLine t others) (sym (append-nil line)) s) in
    f.1 ∙ ap (λ ws. before ++ ws) (e.2.from f.0 f.2) ∙ sym e.1

-- the same as `words` comes to them
pub IsRefusedAt-step : (line : Text) (at : ℕ) (before after : List Text) (place : Place) (next : Option Place) → at < length line → Leads (take at line) before place → Moves place before (get_or line at 0) next after → next ≡ None
    → IsRefusedAt SpellsLine line at
IsRefusedAt-step line at before after place next within l m none =
    let split = sym (take-append-drop at line) ∙ ap (λ t. take at line ++ t) (drop_more line at 0 within) in
    subst (IsRefusedAt SpellsLine line) (length-take-le at line (omega (arith, within)))
    (IsRefusedAt-byte line (take at line) (drop (at + 1) line) (get_or line at 0) before place split l (subst (λ o. StepsTo place (get_or line at 0) o m.0) none m.2))

pub IsRefusedAt-finish : (line : Text) (at : ℕ) (before after : List Text) (place : Place) (whole : Bool) → length line ≤ at → Leads (take at line) before place → Finishes place before whole after → whole ≡ false → IsRefusedAt SpellsLine line (length line)
IsRefusedAt-finish line at before after place whole past l f none =
    IsRefusedAt-end line before place (subst (λ t. Leads t before place) (take_all at line past) l) (subst (λ x. Finishes place before x after) none f)
