-- The leaves that lack a good replica, by the rows and by their names.
use Rattle.std.proofs.Common.{◌≡◌, ◌==◌, ℕ, Bool, true, false, cond, List, [], ◌∷◌, map, inl, inr, IsTrue, refl, sym, ap, ◌∙◌, subst, eqb-true, eq-eqb}
use Rattle.std.specs.Prelude.{◌&&◌, ◌||◌, not}
use Rattle.std.specs.Cmp.{both_ways}
use Rattle.std.specs.List.{AllByRecursion, list_any}
use Rattle.grid_model.specs.Names.{same_text}
use Rattle.grid_model.specs.Rows.{Cat, has_resource, replicas_of}
use Rattle.grid_model.specs.RowGrids.{object_of, resource_name}
use Rattle.grid_model.specs.Operations.Replicas.{is_good_on, lacking}
use Rattle.grid_model.specs.declared.deltas.ObjectRow.{ObjectRow}
use Rattle.grid_model.specs.declared.deltas.ReplicaRow.{ReplicaRow}
use Rattle.grid_model.proofs.Comparing.{same_text-Decides}
use Rattle.tables_laws.proofs.Places.{resource_names_apart}
use Rattle.tables_laws.proofs.Resources.{leaf_there}
use Rattle.tables_laws.proofs.Rows.{IsIn, in_from_all, in_from_filter}
use Rattle.tables_laws.proofs.Standing.{ReplicaStands}
use Rattle.tables_laws.proofs.Sound.{IsSound}
use Rattle.grid_tree.proofs.Candidates.{replicas-entries, told}
use Rattle.plan_object.specs.ReplPlans.{has_good_replica, lacking_leaves}

module _ (c : Cat) (s : IsSound c) (o : ObjectRow) where
  known_leaf : (x : ReplicaRow) → IsIn (replicas_of c o.id) x → has_resource c x.leaf ≡ true
  known_leaf x here =
      leaf_there c x.leaf (in_from_all (ReplicaStands c) c.replicas s.tied.replicas x (in_from_filter (λ (y : ReplicaRow). y.object == o.id) c.replicas x here).0).1

  module _ (id : ℕ) (known : has_resource c id ≡ true) where
    -- one name, one leaf
    named_so : (x : ReplicaRow) → has_resource c x.leaf ≡ true → same_text (resource_name c x.leaf) (resource_name c id) ≡ (x.leaf == id)
    named_so x there = both_ways (same_text (resource_name c x.leaf) (resource_name c id)) (x.leaf == id)
        (λ e. eq-eqb x.leaf id (resource_names_apart c s x.leaf id there known ((same_text-Decides (resource_name c x.leaf) (resource_name c id)).0 e)))
        (λ e. (same_text-Decides (resource_name c x.leaf) (resource_name c id)).1 (ap (resource_name c) (eqb-true x.leaf id e)))

    any_so : (rows : List ReplicaRow) → ((x : ReplicaRow) → IsIn rows x → has_resource c x.leaf ≡ true)
        → list_any (λ e. e.1.good && same_text e.1.leaf (resource_name c id)) (map (told c) rows) ≡ has_good_replica rows id
    any_so [] there = refl
    any_so (x ∷ rows) there = λ i. (x.good && named_so x (there x (inl refl)) i) || any_so rows (λ y later. there y (inr later)) i

    good_is : is_good_on (object_of c o).replicas (resource_name c id) ≡ has_good_replica (replicas_of c o.id) id
    good_is = ap (list_any (λ e. e.1.good && same_text e.1.leaf (resource_name c id))) (replicas-entries c s o) ∙ any_so (replicas_of c o.id) known_leaf

  -- the names of the leaves that lack one
  pub lacking_named : (ids : List ℕ) → AllByRecursion (λ id. IsTrue (has_resource c id)) ids
      → map (resource_name c) (lacking_leaves (replicas_of c o.id) ids) ≡ lacking (object_of c o).replicas (map (resource_name c) ids)
  lacking_named [] all = refl
  lacking_named (id ∷ ids) all =
      by (has_good_replica (replicas_of c o.id) id)
      ∙ (λ i. cond (not (sym (good_is id all.0) i)) (resource_name c id ∷ lacking_named ids all.1 i) (lacking_named ids all.1 i))
    where
      by : (b : Bool) → map (resource_name c) (cond (not b) (id ∷ lacking_leaves (replicas_of c o.id) ids) (lacking_leaves (replicas_of c o.id) ids))
          ≡ cond (not b) (resource_name c id ∷ map (resource_name c) (lacking_leaves (replicas_of c o.id) ids)) (map (resource_name c) (lacking_leaves (replicas_of c o.id) ids))
      by true = refl
      by false = refl

-- each of them is one of the leaves
pub lacking_all : (P : ℕ → Type 0) (rows : List ReplicaRow) (ids : List ℕ) → AllByRecursion P ids → AllByRecursion P (lacking_leaves rows ids)
lacking_all P rows [] all = tt
lacking_all P rows (id ∷ ids) all = by (has_good_replica rows id) (lacking_all P rows ids all.1)
  where
    by : (b : Bool) → AllByRecursion P (lacking_leaves rows ids) → AllByRecursion P (cond (not b) (id ∷ lacking_leaves rows ids) (lacking_leaves rows ids))
    by true rest = rest
    by false rest = (all.0, rest)

-- the same where the lists are told by equations
pub left_all : (P : ℕ → Type 0) (rows : List ReplicaRow) (ids given left seen : List ℕ) → AllByRecursion P ids → given ≡ ids → left ≡ lacking_leaves rows given → seen ≡ left → AllByRecursion P seen
left_all P rows ids given left seen all given_is left_is seen_is =
    subst (λ (xs : List ℕ). AllByRecursion P xs) (sym (seen_is ∙ left_is ∙ ap (lacking_leaves rows) given_is)) (lacking_all P rows ids all)
