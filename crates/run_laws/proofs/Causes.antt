-- Marks and the faults that they tell, one request after another, and that they are clean where nothing failed.
use Rattle.std.proofs.Common.{◌≡◌, ℕ, zero, suc, ◌+◌, ◌-◌, ◌^◌, ◌<◌, ◌≤◌, true, false, List, [], ◌∷◌, ◌++◌, length, take, inl, inr, refl, ap, subst, arith}
use Rattle.std.specs.Prelude.{◌==◌, ◌⊎◌}
use Rattle.std.proofs.lemmas.Bool.{cases_lt}
use Rattle.std.specs.List.{AllByRecursion}
use Rattle.grid_outside.specs.Fault.{Rose}
use Rattle.grid_model.specs.Completing.{AreClean, AllEndByRows}
use Rattle.grid_model.specs.Working.{Done}
use Rattle.grid_model.specs.Runs.{Marked}
use Rattle.grid_model.specs.declared.marks.Mark.{Mark}
use Rattle.grid_model.specs.declared.marks.Mark.TheVariants.{Ran, Fault, Bad, Stop}
use Rattle.grid_headline.specs.Worlds.{World, faults_of}
use Rattle.grid_headline.specs.Causes.{told_by, faults_told, AreCaused}
use Rattle.grid_headline.specs.Served.{marks_of}
use Rattle.run_laws.specs.Steps.{IsToldOf}
use Rattle.run_laws.specs.Sofar.{AllByRows}
use Rattle.run_laws.specs.Went.{Went}
use Rattle.run_laws.proofs.Goings.{faults-rise}

-- ---- counts

told-append : (slot : ℕ) (a b : List Mark) → faults_told slot (a ++ b) ≡ faults_told slot a + faults_told slot b
told-append slot [] b = omega arith
told-append slot (m ∷ a) b = let more = told-append slot a b in omega (arith, more)

module _ {B : Type 0} (old mid new : World B) where
  -- marks, and then more
  pub caused-then : (a b : List Mark) → length mid.stores ≡ length old.stores → AreCaused old mid a → AreCaused mid new b → AreCaused old new (a ++ b)
  caused-then a b count one other = record {
    counted = λ slot small.
        let two = other.counted slot small in
        let first = one.counted slot (omega (arith, two, small)) in
        omega (arith, told-append slot a b, first, two);
    there = λ slot some. by slot (omega (arith, some, told-append slot a b)) (faults_told slot a) refl;
  }
    where
      by : (slot : ℕ) → 0 < faults_told slot a + faults_told slot b → (n : ℕ) → faults_told slot a ≡ n → slot < length old.stores
      by slot some zero e = omega (arith, other.there slot (omega (arith, some, e)), count)
      by slot some (suc n) e = one.there slot (omega (arith, e))

  -- the same marks, and calls that went on
  pub caused-on : (marks : List Mark) → Went mid new → AreCaused old mid marks → AreCaused old new marks
  caused-on marks went one = record {
    counted = λ slot small.
        let rise = faults-rise mid new went slot in
        omega (arith, one.counted slot (omega (arith, rise, small)), rise);
    there = one.there;
  }

-- no marks
pub caused-none : {B : Type 0} (old new : World B) → Went old new → AreCaused old new []
caused-none old new went = record { counted = λ slot small. omega (arith, faults-rise old new went slot); there = λ slot some. absurd (omega (arith, some)) }

-- ---- where nothing failed

-- a count that did not rise, and does not stand at its last value
pub not_risen : (before now : ℕ) → ¬ Rose before now → (now ≤ before) × (now < 2 ^ 64 - 1)
not_risen before now not = by (cases_lt before now) (cases_lt now (2 ^ 64 - 1))
  where
    by : (before < now) ⊎ (now ≤ before) → (now < 2 ^ 64 - 1) ⊎ (2 ^ 64 - 1 ≤ now) → (now ≤ before) × (now < 2 ^ 64 - 1)
    by (inl rose) small = absurd (not (omega (arith, rose)))
    by (inr same) (inl small) = (same, small)
    by (inr same) (inr last) = absurd (not (omega (arith, last)))

itself : (n : ℕ) → (n == n) ≡ true
itself n = grind arith

tells_itself : (slot sent : ℕ) → told_by slot (Fault slot sent) ≡ 1
tells_itself slot sent = ap (λ b. elim b [ true ↦ 1 | false ↦ 0 ]) (itself slot)

-- marks that tell no fault, and of known files alone, are clean
pub clean-of : (known : ℕ → Type 0) (stores : ℕ) (marks : List Mark) → ((slot : ℕ) → slot < stores → known slot) → AllByRecursion (IsToldOf known stores) marks
    → ((slot : ℕ) → faults_told slot marks ≡ 0) → AreClean marks
clean-of known stores [] all told none = tt
clean-of known stores (m ∷ marks) all told none = by (clean-of known stores marks all told.1 (λ slot. omega (arith, none slot))) m told.0 (λ slot. omega (arith, none slot))
  where
    by : AreClean marks → (m : Mark) → IsToldOf known stores m → ((slot : ℕ) → told_by slot m ≡ 0) → AreClean (m ∷ marks)
    by rest (Ran word now []) told none = (refl, rest)
    by rest (Ran word now (b ∷ bad)) told none = absurd (told.2 (all told.0 told.1))
    by rest (Fault slot sent) told none = let one = tells_itself slot sent in absurd (omega (arith, one, none slot))
    by rest (Bad slot len found sent) told none = absurd (told.1 (all slot told.0))
    by rest Stop told none = absurd told

pub clean : {B : Type 0} (old new : World B) (known : ℕ → Type 0) (marks : List Mark) → ((slot : ℕ) → ¬ Rose (faults_of old slot) (faults_of new slot))
    → ((slot : ℕ) → slot < length old.stores → known slot) → AllByRecursion (IsToldOf known (length old.stores)) marks → AreCaused old new marks
    → AreClean marks
clean old new known marks none all told caused = clean-of known (length old.stores) marks all told (λ slot.
    let n = not_risen (faults_of old slot) (faults_of new slot) (none slot) in
    omega (arith, n.0, caused.counted slot n.1))

pub clean-front : (a b : List Mark) → AreClean (a ++ b) → AreClean a
clean-front [] b all = tt
clean-front (m ∷ a) b all = (all.0, clean-front a b all.1)

pub clean-back : (a b : List Mark) → AreClean (a ++ b) → AreClean b
clean-back [] b all = all
clean-back (m ∷ a) b all = clean-back a b all.1

pub clean-both : (a b : List Mark) → AreClean a → AreClean b → AreClean (a ++ b)
clean-both [] b one other = other
clean-both (m ∷ a) b one other = (one.0, clean-both a b one.1 other)

-- and each of the first requests ends by rows
pub by_rows-first : (n : ℕ) (ms : List Marked) (ds : List Done) → length ds ≡ length ms → AllByRows ms ds → AreClean (marks_of ms) → AllEndByRows (take n ds)
by_rows-first zero ms ds e rows all = tt
by_rows-first (suc n) ms [] e rows all = tt
by_rows-first (suc n) [] (d ∷ ds) e rows all = absurd (omega (arith, e))
by_rows-first (suc n) (m ∷ ms) (d ∷ ds) e rows all =
    (rows.0 (clean-front m.marks (marks_of ms) all), by_rows-first n ms ds (omega (arith, e)) rows.1 (clean-back m.marks (marks_of ms) all))

pub clean-prefix : (a b all : List Mark) → all ≡ a ++ b → AreClean all → AreClean a
clean-prefix a b all e are = clean-front a b (subst AreClean e are)
