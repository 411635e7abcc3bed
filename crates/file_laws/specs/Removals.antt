-- Which changes of the catalogue may go with the removal of files.
use Rattle.std.specs.Prelude.{◌≡◌, ◌≢◌, ℕ, List, [], ◌∷◌, Some, IsTrue}
use Rattle.std.specs.List.{AllByRecursion, Contains}
use Rattle.grid_model.specs.Rows.{Cat}
use Rattle.grid_model.specs.Whole.{leaf_slot, HasGoodRows, IsNamed}
use Rattle.grid_model.specs.declared.deltas.Delta.{Delta}
use Rattle.grid_model.specs.declared.deltas.Delta.TheVariants as delta
use Rattle.grid_model.specs.declared.plans.NewFile.{NewFile}
use Rattle.grid_vault.specs.Vault.{IsAmong}
use Rattle.file_laws.specs.Plans.{HasFile}

-- The one catalogue may take the place of the other where these files are gone: each other file that one row named is named by
-- one row, each good replica has its file, and good replicas are as their objects.
pub record Forgets (gone : List NewFile) (c d : Cat) : Type 0 where
  pub rows : HasGoodRows c → HasGoodRows d
  pub good : (slot : ℕ) → AllByRecursion (λ r. IsTrue r.good → leaf_slot d r.leaf ≡ Some slot → HasFile c [] [] slot r) d.replicas
  pub named : (slot name : ℕ) → (¬ IsAmong gone slot name) → IsNamed c slot name → IsNamed d slot name

-- the rows of orphans are taken away
abbrev pub no_orphans : List NewFile → List Delta
no_orphans [] = []
no_orphans (f ∷ files) = delta.NoOrphan f.name ∷ no_orphans files

-- they are orphans
abbrev pub AreOrphans : Cat → List NewFile → Type 0
AreOrphans c files = AllByRecursion (λ (f : NewFile). Contains c.orphans (record { vault = f.name; slot = f.slot })) files

-- no two of them have one name
abbrev pub HaveOwnNames : List NewFile → Type 0
HaveOwnNames [] = Unit {0}
HaveOwnNames (f ∷ files) = AllByRecursion (λ (g : NewFile). g.name ≢ f.name) files × HaveOwnNames files
