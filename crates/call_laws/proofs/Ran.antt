-- Marks of deeds that ran and found nothing bad, behind those that were taken.
use Rattle.std.proofs.Common.{◌≡◌, ℕ, ◌≤◌, List, [], ◌∷◌, ◌++◌, IsTrue, length, refl, sym, subst, arith}
use Rattle.std.specs.List.{AllByRecursion}
use Rattle.grid_outside.specs.Ambient.{AmbientState}
use Rattle.grid_outside.specs.Disk.{DiskState}
use Rattle.grid_outside.specs.Files.{StoreState}
use Rattle.grid_outside.specs.Sink.{SinkState}
use Rattle.grid_outside.specs.Source.{SourceState}
use Rattle.grid_model.specs.declared.marks.Mark.{Mark}
use Rattle.grid_headline.specs.Causes.{AreCaused, faults_told}
use Rattle.grid_headline.specs.Worlds.{World, faults_of}
use Rattle.run_laws.specs.Passes.{Seen}
use Rattle.run_laws.specs.Steps.{IsToldOf}
use Rattle.run_laws.proofs.Causes.{caused-then}
use Rattle.run_laws.proofs.Lists.{all-append}
use Rattle.service_run.specs.Steps.{IsKnownBy}
use Rattle.call_laws.specs.Amid.{AreRan, AreTaken, Setting, world}

none_told : (slot : ℕ) (marks : List Mark) → AreRan marks → faults_told slot marks ≡ 0
none_told slot [] all = refl
none_told slot (m ∷ marks) all =
    let F : Mark → Type 0 = λ k. faults_told slot (k ∷ marks) ≡ 0 in
    subst F (sym all.0) (let rest = none_told slot marks all.1 in omega (arith, rest))

-- they tell of no fault
pub ran_caused : {B : Type 0} (old new : World B) (marks : List Mark) → ((slot : ℕ) → faults_of old slot ≤ faults_of new slot) → AreRan marks
    → AreCaused old new marks
ran_caused old new marks rise all = record {
  counted = λ slot small. omega (arith, none_told slot marks all, rise slot);
  there = λ slot some. absurd (omega (arith, some, none_told slot marks all));
}

-- and of no file
pub ran_told : (known : ℕ → Type 0) (stores : ℕ) (marks : List Mark) → AreRan marks → AllByRecursion (IsToldOf known stores) marks
ran_told known stores [] all = tt
ran_told known stores (m ∷ marks) all = (subst (IsToldOf known stores) (sym all.0) tt, ran_told known stores marks all.1)

module _ {D A P K : Type 0} (disk : D → DiskState) (ambient : A → AmbientState) (plugin : P → StoreState) (sink : K → SinkState) (source : SourceState)
    {F : Type 0} (s : Setting F) (from at : Seen D A P K) (taken rest : List Mark) (marks : AreTaken disk ambient plugin sink source s from at taken)
    (ran : AreRan rest) where
  -- what is true of marks that were taken is so with these behind them
  pub told_on : IsTrue (disk from.outside.main).tells
      → AllByRecursion (IsToldOf (IsKnownBy (world disk ambient plugin sink source from) s.found) (length from.outside.stores.items)) (taken ++ rest)
  told_on told =
      all-append (IsToldOf (IsKnownBy (world disk ambient plugin sink source from) s.found) (length from.outside.stores.items)) taken rest
      (marks.told_of told)
      (ran_told (IsKnownBy (world disk ambient plugin sink source from) s.found) (length from.outside.stores.items) rest ran)

  pub caused_on : length at.outside.stores.items ≡ length from.outside.stores.items
      → AreCaused (world disk ambient plugin sink source from) (world disk ambient plugin sink source at) (taken ++ rest)
  caused_on count =
      let now = world disk ambient plugin sink source at in
      caused-then (world disk ambient plugin sink source from) now now taken rest count marks.caused (ran_caused now now rest (λ slot. omega arith) ran)
