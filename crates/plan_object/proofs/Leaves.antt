-- The leaves of a put, each once, with their slots, names and files.
use Rattle.std.proofs.Common.{◌≡◌, ◌==◌, ◌⊎◌, ℕ, zero, suc, ◌+◌, ◌<◌, ◌≤◌, Bool, true, false, List, [], ◌∷◌, ◌++◌, length, map, Some, inl, inr, IsTrue, refl, sym, ap, ◌∙◌, subst, arith, eqb-true, eq-eqb}
use Rattle.std.specs.Prelude.{◌&&◌, nat_lt, option_map, slice_get}
use Rattle.std.specs.List.{AllByRecursion, list_any}
use Rattle.std.proofs.lemmas.Bool.{and_parts, ltb-true}
use Rattle.std.proofs.lemmas.List.{append-nil, append_assoc}
use Rattle.grid_model.specs.Rows.{Cat, has_resource, resource}
use Rattle.grid_model.specs.Applying.{is_leaf, is_storage, slot_fits}
use Rattle.grid_model.specs.Whole.{leaf_slot}
use Rattle.grid_model.specs.declared.deltas.ReplicaRow.{ReplicaRow}
use Rattle.grid_model.specs.declared.deltas.ResourceRow.{ResourceRow}
use Rattle.grid_model.specs.declared.plans.NewFile.{NewFile}
use Rattle.grid_vault.specs.Copying.{AreNamedApart}
use Rattle.grid_vault.specs.Vault.{IsAmong}
use Rattle.tables_laws.proofs.Rows.{IsIn, any_from_in, in_from_all, in_from_any}
use Rattle.tables_laws.proofs.Numbered.{found_in}
use Rattle.tables_laws.proofs.Resources.{leaf_there}
use Rattle.tables_laws.proofs.Standing.{ReplicaStands, ResourceStands}
use Rattle.tables_laws.proofs.Sound.{IsSound}
use Rattle.file_laws.specs.Puts.{Target, files_from}
use Rattle.file_laws.specs.Rewriting.{NumberedTarget, targets_of}
use Rattle.grid_access.proofs.MapEntries.{map_from_in}
use Rattle.grid_tree.proofs.StepLemmas.{all_push}
use Rattle.plan_base.proofs.Sizes.{Apart}
use Rattle.plan_object.specs.PutPlans.{AreTargets, law_target, with_leaf, with_leaves}
use Rattle.plan_object.specs.declared.placing.Target as rust

-- ---- each leaf once

abbrev pub Distinct : List ℕ → Type 0
Distinct [] = Unit {0}
Distinct (x ∷ xs) = ((y : ℕ) → IsIn xs y → y ≡ x → ⊥) × Distinct xs

distinct_push : (xs : List ℕ) (x : ℕ) → Distinct xs → ((y : ℕ) → IsIn xs y → y ≡ x → ⊥) → Distinct (xs ++ x ∷ [])
distinct_push [] x distinct other = (λ y none e. none, tt)
distinct_push (z ∷ xs) x distinct other = (
  λ y here e. elim (parts xs y here) [
    | inl was ↦ distinct.0 y was e
    | inr is ↦ other z (inl refl) (sym e ∙ sym is)
  ],
  distinct_push xs x distinct.1 (λ y here. other y (inr here)),
)
  where
    parts : (ys : List ℕ) (y : ℕ) → IsIn (ys ++ x ∷ []) y → IsIn ys y ⊎ (x ≡ y)
    parts [] y (inl is) = inr is
    parts [] y (inr none) = absurd none
    parts (w ∷ ys) y (inl is) = inl (inl is)
    parts (w ∷ ys) y (inr later) = elim (parts ys y later) [ inl was ↦ inl (inr was) | inr is ↦ inr is ]

pub distinct_leaves : (kept ids : List ℕ) → Distinct kept → Distinct (with_leaves kept ids)
distinct_leaves kept [] distinct = distinct
distinct_leaves kept (id ∷ ids) distinct = distinct_leaves (with_leaf kept id) ids (by (list_any (λ k. k == id) kept) refl)
  where
    by : (b : Bool) → list_any (λ k. k == id) kept ≡ b → Distinct (elim b as (λ _. List ℕ) [ true ↦ kept | false ↦ kept ++ id ∷ [] ])
    by true is = distinct
    by false is = distinct_push kept id distinct (λ y here e. let some : list_any (λ k. k == id) kept ≡ true = any_from_in (λ k. k == id) kept y here (eq-eqb y id e) in cc)

pub all_leaves : (P : ℕ → Type 0) (kept ids : List ℕ) → AllByRecursion P kept → AllByRecursion P ids → AllByRecursion P (with_leaves kept ids)
all_leaves P kept [] all_kept all_ids = all_kept
all_leaves P kept (id ∷ ids) all_kept all_ids = all_leaves P (with_leaf kept id) ids (by (list_any (λ k. k == id) kept)) all_ids.1
  where
    by : (b : Bool) → AllByRecursion P (elim b as (λ _. List ℕ) [ true ↦ kept | false ↦ kept ++ id ∷ [] ])
    by true = all_kept
    by false = all_push P kept id all_kept all_ids.0

-- of targets by their leaves
leaves_of : (ts : List rust.Target) → map (λ (t : Target). t.leaf) (map law_target ts) ≡ map (λ (t : rust.Target). t.leaf) ts
leaves_of [] = refl
leaves_of (t ∷ ts) = ap (λ ls. t.leaf ∷ ls) (leaves_of ts)

apart_from : (ts : List Target) → Distinct (map (λ (t : Target). t.leaf) ts) → Apart (λ (t : Target). t.leaf) ts
apart_from [] distinct = tt
apart_from (t ∷ ts) distinct = (λ u here same. distinct.0 u.leaf (map_from_in (λ (x : Target). x.leaf) ts u here) same, apart_from ts distinct.1)

all_targets : (P : ℕ → Type 0) (ts : List Target) → AllByRecursion P (map (λ (t : Target). t.leaf) ts) → AllByRecursion (λ (t : Target). P t.leaf) ts
all_targets P [] all = tt
all_targets P (t ∷ ts) all = (all.0, all_targets P ts all.1)

law_slots : (c : Cat) (ts : List rust.Target) → AllByRecursion (λ (t : rust.Target). leaf_slot c t.leaf ≡ Some t.slot) ts → AllByRecursion (λ (t : Target). leaf_slot c t.leaf ≡ Some t.slot) (map law_target ts)
law_slots c [] all = tt
law_slots c (t ∷ ts) all = (all.0, law_slots c ts all.1)

-- a leaf's slot is one of a store
slot_small : (c : Cat) → IsSound c → (id slot : ℕ) → is_leaf c id ≡ true → leaf_slot c id ≡ Some slot → nat_lt slot c.stores ≡ true
slot_small c s id slot leaf at =
    let r = in_from_any (λ (x : ResourceRow). (x.id == id) && is_storage x.kind) c.resources leaf in
    let parts = and_parts (r.0.id == id) (is_storage r.0.kind) r.2 in
    let found : resource c id ≡ Some r.0 = ap (resource c) (sym (eqb-true r.0.id id parts.0)) ∙ found_in (λ (x : ResourceRow). x.id) c.resources r.0 s.cat.resources.ordered r.1 in
    let same : r.0.slot ≡ slot = same_slot (ap (option_map (λ (x : ResourceRow). x.slot)) (sym found) ∙ at) in
    let fits : slot_fits c r.0.kind r.0.slot ≡ true = (in_from_all (ResourceStands c) c.resources s.tied.resources r.0 r.1).0 in
    ap (λ n. nat_lt n c.stores) (sym same) ∙ sym (ap (λ b. elim b as (λ _. Bool) [ true ↦ nat_lt r.0.slot c.stores | false ↦ r.0.slot == 0 ]) parts.1) ∙ fits
  where
    same_slot : {a b : ℕ} → Some a ≡ Some b → a ≡ b
    same_slot e = cc

-- and so is that of a replica
pub stored_slot : (c : Cat) → IsSound c → (r : ReplicaRow) → IsIn c.replicas r → (slot : ℕ) → leaf_slot c r.leaf ≡ Some slot → slot < c.stores
stored_slot c s r here slot at = ltb-true slot c.stores (slot_small c s r.leaf slot (in_from_all (ReplicaStands c) c.replicas s.tied.replicas r here).1 at)

all_small : (c : Cat) → IsSound c → (ts : List Target) → AllByRecursion (λ (t : Target). is_leaf c t.leaf ≡ true) ts → AllByRecursion (λ (t : Target). leaf_slot c t.leaf ≡ Some t.slot) ts → AllByRecursion (λ (t : Target). nat_lt t.slot c.stores ≡ true) ts
all_small c s [] leaves slots = tt
all_small c s (t ∷ ts) leaves slots = (slot_small c s t.leaf t.slot leaves.0 slots.0, all_small c s ts leaves.1 slots.1)

-- ---- their files

pub length-files : (ts : List Target) (v : ℕ) → length (files_from v ts) ≡ length ts
length-files [] v = refl
length-files (t ∷ ts) v = ap suc (length-files ts (v + 1))

-- a file's name is that of its place
name_at : (ts : List Target) (v i : ℕ) (f : NewFile) → slice_get (files_from v ts) i ≡ Some f → f.name ≡ v + i
name_at [] v i f is = absurd cc
name_at (t ∷ ts) v zero f is = let same : record { slot = t.slot; name = v } ≡ f = cc in omega (arith, ap (λ (x : NewFile). x.name) same)
name_at (t ∷ ts) v (suc i) f is = omega (arith, name_at ts (v + 1) i f is)

pub files_apart : (v : ℕ) (ts : List Target) → AreNamedApart (files_from v ts)
files_apart v ts i j f g at_i at_j same = omega (arith, name_at ts v i f at_i, name_at ts v j g at_j, same)

pub not_below : (v : ℕ) (ts : List Target) (slot name : ℕ) → IsAmong (files_from v ts) slot name → v ≤ name
not_below v ts slot name a = omega (arith, name_at ts v a.place a.file a.is, a.name_is)

-- no file, no target
pub no_targets : (ts : List NumberedTarget) (v : ℕ) → files_from v (targets_of ts) ≡ [] → ts ≡ []
no_targets [] v none = refl
no_targets (t ∷ ts) v none = absurd cc

-- ---- those that were none before

-- these, where they are none of those and none comes twice
abbrev pub new_leaves : List ℕ → List ℕ → List ℕ
new_leaves kept [] = []
new_leaves kept (id ∷ ids) = elim (list_any (λ k. k == id) kept) [ true ↦ new_leaves kept ids | false ↦ id ∷ new_leaves (kept ++ id ∷ []) ids ]

pub with_leaves-is : (kept ids : List ℕ) → with_leaves kept ids ≡ kept ++ new_leaves kept ids
with_leaves-is kept [] = sym (append-nil kept)
with_leaves-is kept (id ∷ ids) = by (list_any (λ k. k == id) kept) (with_leaves-is kept ids) (with_leaves-is (kept ++ id ∷ []) ids)
  where
    by : (b : Bool) → with_leaves kept ids ≡ kept ++ new_leaves kept ids → with_leaves (kept ++ id ∷ []) ids ≡ (kept ++ id ∷ []) ++ new_leaves (kept ++ id ∷ []) ids
        → with_leaves (elim b as (λ _. List ℕ) [ true ↦ kept | false ↦ kept ++ id ∷ [] ]) ids
        ≡ kept ++ elim b as (λ _. List ℕ) [ true ↦ new_leaves kept ids | false ↦ id ∷ new_leaves (kept ++ id ∷ []) ids ]
    by true old new = old
    by false old new = new ∙ append_assoc kept (id ∷ []) (new_leaves (kept ++ id ∷ []) ids)

-- ---- what is known of them

module _ (c : Cat) (s : IsSound c) (leaves : List ℕ) (all : AllByRecursion (λ id. IsTrue (is_leaf c id)) leaves) (ts : List rust.Target) (are : AreTargets c leaves ts) where
  abbrev pub lts : List Target
  lts = map law_target ts

  pub leaf_ids : map (λ (t : Target). t.leaf) lts ≡ with_leaves [] leaves
  leaf_ids = leaves_of ts ∙ are.leaves_are

  pub all_lts : AllByRecursion (λ (t : Target). is_leaf c t.leaf ≡ true) lts
  all_lts = all_targets (λ id. is_leaf c id ≡ true) lts (subst (λ (ids : List ℕ). AllByRecursion (λ id. is_leaf c id ≡ true) ids) (sym leaf_ids) (all_leaves (λ id. is_leaf c id ≡ true) [] leaves tt all))

  pub slots_lts : AllByRecursion (λ (t : Target). leaf_slot c t.leaf ≡ Some t.slot) lts
  slots_lts = law_slots c ts are.slots

  pub small : AllByRecursion (λ (t : Target). nat_lt t.slot c.stores ≡ true) lts
  small = all_small c s lts all_lts slots_lts

  pub apart_lts : Apart (λ (t : Target). t.leaf) lts
  apart_lts = apart_from lts (subst Distinct (sym leaf_ids) (distinct_leaves [] leaves tt))

  pub all_known : (ids : List ℕ) → AllByRecursion (λ id. IsTrue (is_leaf c id)) ids → AllByRecursion (λ id. has_resource c id ≡ true) ids
  all_known [] leaf = tt
  all_known (id ∷ ids) leaf = (leaf_there c id leaf.0, all_known ids leaf.1)
