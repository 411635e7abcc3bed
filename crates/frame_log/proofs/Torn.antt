-- Writes that were cut short, one after another.
use Rattle.std.proofs.Common.{◌≡◌, ℕ, ◌+◌, ◌-◌, ◌≤◌, List, take, drop, arith, sym, ap, ◌∙◌, refl}
use Rattle.std.proofs.lemmas.List.{take-take, drop-drop}
use Rattle.grid_outside.specs.Disk.{Torn}

-- nothing was written
pub torn_none : (at n : ℕ) (bytes : List ℕ) → Torn at n bytes bytes
torn_none at n bytes = record { before = refl; after = refl; no_shorter = omega arith; no_longer = omega arith }

-- in a wider range
pub torn_wider : (at n from m : ℕ) → from ≤ at → at + n ≤ from + m → (old new : List ℕ) → Torn at n old new → Torn from m old new
torn_wider at n from m low high old new torn =
    let behind : (bytes : List ℕ) → drop (from + m) bytes ≡ drop (from + m - (at + n)) (drop (at + n) bytes) =
    λ bytes. ap (λ (k : ℕ). drop k bytes) (omega arith) ∙ sym (drop-drop (from + m - (at + n)) (at + n) bytes) in
    record {
      before = sym (take-take from at new low) ∙ ap (take from) torn.before ∙ take-take from at old low;
      after = behind new ∙ ap (drop (from + m - (at + n))) torn.after ∙ sym (behind old);
      no_shorter = torn.no_shorter;
      no_longer = omega (arith, torn.no_longer);
    }

-- one after another
pub torn_on : (at n : ℕ) (old mid new : List ℕ) → Torn at n old mid → Torn at n mid new → Torn at n old new
torn_on at n old mid new one two = record {
  before = two.before ∙ one.before;
  after = two.after ∙ one.after;
  no_shorter = omega (arith, one.no_shorter, two.no_shorter);
  no_longer = omega (arith, one.no_longer, two.no_longer);
}
