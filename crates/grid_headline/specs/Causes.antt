-- What lets a store's fault be told, and that nothing failed.
use Rattle.std.specs.Prelude.{ℕ, ◌+◌, ◌-◌, ◌^◌, ◌<◌, ◌≤◌, ◌==◌, true, false, List, [], ◌∷◌, length}
use Rattle.grid_outside.specs.Fault.{Rose}
use Rattle.grid_model.specs.declared.marks.Mark.{Mark}
use Rattle.grid_model.specs.declared.marks.Mark.TheVariants as mark
use Rattle.grid_headline.specs.Worlds.{World, StoreTells, faults_of}

-- how many faults of this slot a mark tells
abbrev pub told_by : ℕ → Mark → ℕ
told_by slot (mark.Fault at parts) = elim (at == slot) [ true ↦ 1 | false ↦ 0 ]
told_by slot other = 0

-- how many these marks tell
abbrev pub faults_told : ℕ → List Mark → ℕ
faults_told slot [] = 0
faults_told slot (m ∷ marks) = told_by slot m + faults_told slot marks

module _ {B : Type 0} (old new : World B) where
  -- The marks tell at most as many faults of a slot as its count rose by, unless that has come to its last value, and none of a
  -- slot without a store.
  pub record AreCaused (marks : List Mark) : Type 0 where
    pub counted : (slot : ℕ) → faults_of new slot < 2 ^ 64 - 1 → faults_of old slot + faults_told slot marks ≤ faults_of new slot
    pub there : (slot : ℕ) → 0 < faults_told slot marks → slot < length old.stores

  -- no device failed: no count rose, and none stands at its last value, at which it would not show
  pub record NoneFailed : Type 0 where
    pub of_main : ¬ Rose old.main.faults new.main.faults
    pub of_spare : ¬ Rose old.spare.faults new.spare.faults
    pub of_source : ¬ Rose old.source.faults new.source.faults
    pub of_sink : ¬ Rose old.sink.faults new.sink.faults
    pub of_stores : (slot : ℕ) → ¬ Rose (faults_of old slot) (faults_of new slot)

-- each store tells its files
abbrev pub AllTell : {B : Type 0} → World B → Type 0
AllTell w = (slot : ℕ) → slot < length w.stores → StoreTells w slot
