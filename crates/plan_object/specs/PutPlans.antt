-- The plan of a put: which leaves it writes, and its changes.
use Rattle.std.specs.Prelude.{◌≡◌, ℕ, true, false, ◌==◌, List, [], ◌∷◌, ◌++◌, map, Some, IsTrue}
use Rattle.std.specs.List.{AllByRecursion, list_all, list_any}
use Rattle.grid_model.specs.Names.{Path, is_name}
use Rattle.grid_model.specs.Deltas.{text}
use Rattle.grid_model.specs.Rows.{Cat, has_object}
use Rattle.grid_model.specs.RowPaths.{collection_at}
use Rattle.grid_model.specs.Whole.{leaf_slot}
use Rattle.grid_model.specs.declared.deltas.Delta.TheVariants as delta
use Rattle.grid_model.specs.declared.deltas.ObjectRow.{ObjectRow}
use Rattle.grid_journal.specs.Journal.{can_be_kept}
use Rattle.file_laws.specs.Puts as laws
use Rattle.file_laws.specs.Rewriting.{replicas_placed}
use Rattle.grid_model.specs.declared.grid.ItemKind.TheVariants as kind
use Rattle.grid_model.specs.declared.plans.Plan.{Plan}
use Rattle.plan_base.specs.NewItems.{new_entries}
use Rattle.plan_object.specs.LeafNumbers.{with_numbers}
use Rattle.plan_object.specs.Writing.{Recorded}
use Rattle.plan_object.specs.declared.placing.Target.{Target}

-- ---- leaves

-- these, and one more if it is none of them
abbrev pub with_leaf : List ℕ → ℕ → List ℕ
with_leaf kept id = elim (list_any (λ k. k == id) kept) [ true ↦ kept | false ↦ kept ++ id ∷ [] ]

-- these, and each of those that is none of them yet
abbrev pub with_leaves : List ℕ → List ℕ → List ℕ
with_leaves kept [] = kept
with_leaves kept (id ∷ ids) = with_leaves (with_leaf kept id) ids

-- as the laws on files have it
abbrev pub law_target : Target → laws.Target
law_target t = record { leaf = t.leaf; slot = t.slot }

-- the leaves, each once, with their slots
pub record AreTargets (c : Cat) (leaves : List ℕ) (ts : List Target) : Type 0 where
  pub leaves_are : map (λ (t : Target). t.leaf) ts ≡ with_leaves [] leaves
  pub slots : AllByRecursion (λ (t : Target). leaf_slot c t.leaf ≡ Some t.slot) ts

-- ---- the object

-- the row of a new object at the path with what is recorded
pub record IsObjectFor (c : Cat) (p : Path) (r : Recorded) (o : ObjectRow) : Type 0 where
  pub above : Path
  pub path_is : p ≡ above ++ o.name ∷ []
  pub named : IsTrue (is_name o.name)
  pub at : collection_at c above ≡ Some o.collection
  pub fresh : has_object c o.id ≡ false
  pub size : o.size ≡ r.size
  pub digest : o.digest ≡ r.digest
  pub time : o.time ≡ r.now
  pub fits : IsTrue (text o.name).fits

-- ---- the plan of a new object

-- the plan writes this object to these leaves, as made by the user
pub record IsNewPlan (c : Cat) (user : ℕ) (o : ObjectRow) (ts : List Target) (plan : Plan) : Type 0 where
  pub before : plan.before ≡ laws.put_before c (map law_target ts)
  pub files : plan.files ≡ laws.files_from c.numbers.next_vault (map law_target ts)
  pub after : plan.after
      ≡ delta.Object o ∷ (new_entries c user o.collection kind.Object o.id ++ replicas_placed o c.numbers.next_vault (with_numbers [] (map law_target ts)))
  pub spelled_first : IsTrue (list_all can_be_kept plan.before)
  pub spelled_then : IsTrue (list_all can_be_kept plan.after)

-- the plan writes a new object of the user at the path to these leaves
pub record WritesNew (c : Cat) (user : ℕ) (p : Path) (r : Recorded) (ts : List Target) (plan : Plan) : Type 0 where
  pub row : ObjectRow
  pub is_row : IsObjectFor c p r row
  pub is_new : IsNewPlan c user row ts plan
