-- Changes of resources that keep their slots, one after another: no file is named otherwise, and of the rest of the catalogue
-- all stays.
use Rattle.std.proofs.Common.{◌≡◌, ◌⊎◌, ℕ, true, List, [], ◌∷◌, Ok, Err, IsTrue, refl, ap, ◌∙◌}
use Rattle.std.specs.List.{list_all}
use Rattle.grid_model.specs.Names.{Text}
use Rattle.grid_model.specs.Rows.{Cat, resource_cmp, with_row}
use Rattle.grid_model.specs.RowGrids.{grid_of}
use Rattle.grid_model.specs.Applying.{apply, apply_all, where_fits, resource_fits}
use Rattle.grid_model.specs.Whole.{Naming, Names}
use Rattle.grid_model.specs.Deeds.{changes}
use Rattle.grid_model.specs.Operations.Table.{Operation, row}
use Rattle.grid_model.specs.declared.deltas.Delta.{Delta}
use Rattle.grid_model.specs.declared.deltas.Delta.TheVariants as delta
use Rattle.grid_model.specs.declared.deltas.ResourceRow.{ResourceRow}
use Rattle.grid_journal.specs.Journal.{can_be_kept}
use Rattle.file_laws.specs.Plans.{Turns}
use Rattle.file_laws.specs.Rewriting.{KeepsSlot}
use Rattle.file_laws.proofs.Turning.{turns_self, turns_then}
use Rattle.file_laws.proofs.Removing.{turns_resource, back_resourced}
use Rattle.tables_laws.proofs.Sound.{IsSound, sound-resource}
use Rattle.plan_base.specs.Plans.{Changes}
use Rattle.plan_tree.proofs.RootedResources.{IsRooted, rooted-with_resource}

-- the catalogue with a row of a resource
abbrev pub with_resource : Cat → ResourceRow → Cat
with_resource c r = record c { resources = with_row resource_cmp c.resources r }

-- what such changes leave
pub record Settles (c d : Cat) : Type 0 where
  pub sound : IsSound d
  pub rooted : IsRooted d.resources
  pub turns : Turns [] [] c d
  pub names : (slot name : ℕ) (r : Naming) → Names d slot name r → Names c slot name r
  pub numbers : d.numbers ≡ c.numbers
  pub pending : d.pending ≡ c.pending
  pub rules : d.rules ≡ c.rules
  pub stores : d.stores ≡ c.stores

pub settles_self : (c : Cat) → IsSound c → IsRooted c.resources → Settles c c
settles_self c s rooted = record {
  sound = s;
  rooted = rooted;
  turns = turns_self [] [] c;
  names = λ slot name r n. n;
  numbers = refl;
  pending = refl;
  rules = refl;
  stores = refl;
}

pub settles_then : (c d e : Cat) → Settles c d → Settles d e → Settles c e
settles_then c d e a b = record {
  sound = b.sound;
  rooted = b.rooted;
  turns = turns_then [] [] c d e a.turns b.turns;
  names = λ slot name r n. a.names slot name r (b.names slot name r n);
  numbers = b.numbers ∙ a.numbers;
  pending = b.pending ∙ a.pending;
  rules = b.rules ∙ a.rules;
  stores = b.stores ∙ a.stores;
}

pub resource_applied : (c : Cat) (r : ResourceRow) → resource_fits c r ≡ true → apply c (delta.Resource r) ≡ Ok (with_resource c r)
resource_applied c r fits = ap (λ b. where_fits b 15 (with_resource c r)) fits

module _ (c : Cat) (s : IsSound c) (rooted : IsRooted c.resources) (r : ResourceRow) (keeps : KeepsSlot c r) (fits : resource_fits c r ≡ true) where
  pub settles_resource : Settles c (with_resource c r)
  settles_resource = record {
    sound = sound-resource c s r fits;
    rooted = rooted-with_resource c s rooted r fits;
    turns = turns_resource [] [] c (with_resource c r) s r keeps (resource_applied c r fits);
    names = λ slot name x n. back_resourced [] [] c (with_resource c r) s r keeps (resource_applied c r fits) slot name x n;
    numbers = refl;
    pending = refl;
    rules = refl;
    stores = refl;
  }

-- where changes are planned the grid becomes another one
abbrev pub IsStill : Cat → Cat → List Delta → Type 0
IsStill c after deltas = (deltas ≡ []) ⊎ (¬ (grid_of after ≡ grid_of c))

-- changes that settle so and do what the operation does are a plan of it
pub plan_of : (c after : Cat) (user : Text) (op : Operation) (deltas : List Delta) → Settles c after → IsTrue (list_all can_be_kept deltas) → apply_all c deltas ≡ Ok after
    → row (grid_of c) user op ≡ Ok (changes (grid_of after)) → IsStill c after deltas → Changes c user op deltas
plan_of c after user op deltas s spelled applied row_is still = record {
  after = after;
  applied = applied;
  spelled = spelled;
  row_is = row_is;
  turns = s.turns;
  names = λ slot name r n. (r, s.names slot name r n);
  numbers = s.numbers;
  pending = s.pending;
  rules = s.rules;
  stores = s.stores;
  still = still;
}

-- a change alone
pub applied_alone : (c : Cat) (r : ResourceRow) → resource_fits c r ≡ true → (deltas : List Delta) → deltas ≡ delta.Resource r ∷ [] → apply_all c deltas ≡ Ok (with_resource c r)
applied_alone c r fits deltas are = ap (apply_all c) are ∙ ap (λ t. elim (where_fits t 15 (with_resource c r)) [ Ok next ↦ apply_all next [] | Err cause ↦ Err cause ]) fits
