-- A plan of a put, from what its steps find.
use Rattle.std.proofs.Common.{◌≡◌, ◌==◌, ◌⊎◌, ℕ, zero, suc, ◌+◌, ◌≤◌, Bool, true, false, List, [], ◌∷◌, ◌++◌, length, map, Option, Some, None, Result, Ok, Err, inl, inr, IsTrue, refl, sym, ap, ◌∙◌, subst, arith}
use Rattle.std.specs.Prelude.{◌||◌, IfOk, slice_get}
use Rattle.std.specs.Option.{option_map_or}
use Rattle.std.specs.List.{list_any}
use Rattle.std.proofs.lemmas.List.{length-append, length-map}
use Rattle.grid_model.specs.Maps.{has}
use Rattle.grid_model.specs.Names.{Text, Path, parent}
use Rattle.grid_model.specs.Grid.{Grid}
use Rattle.grid_model.specs.Refusing.{◌>>=◌, there, unless}
use Rattle.grid_model.specs.Operations.Common.{collection_above}
use Rattle.grid_model.specs.declared.refusal.Refusal.TheVariants.{NoCollection, Exists}
use Rattle.grid_model.specs.Rows.{Cat, has_object, object}
use Rattle.grid_model.specs.RowPaths.{object_at}
use Rattle.grid_model.specs.RowGrids.{grid_of, user_name}
use Rattle.grid_model.specs.Applying.{IsMade, is_user}
use Rattle.grid_model.specs.declared.deltas.Item.TheVariants as item
use Rattle.grid_model.specs.declared.deltas.ObjectRow.{ObjectRow}
use Rattle.grid_model.specs.declared.plans.NewFile.{NewFile}
use Rattle.grid_model.specs.declared.plans.Plan.{Plan}
use Rattle.grid_model.specs.Whole.{leaf_slot}
use Rattle.file_laws.specs.Puts.{files_from}
use Rattle.file_laws.proofs.Members.{contains_of}
use Rattle.grid_access.proofs.MapEntries.{map_from_in}
use Rattle.tables_laws.proofs.Rows.{IsIn, in_from_all}
use Rattle.tables_laws.proofs.Places.{row_there}
use Rattle.grid_tree.proofs.Reachable.{in_from_append}
use Rattle.plan_base.proofs.AtPaths.{placed}
use Rattle.plan_object.specs.OverPlans.{WritesOver}
use Rattle.plan_object.specs.PutPlans.{AreTargets, WritesNew, law_target, with_leaf, with_leaves}
use Rattle.plan_object.specs.Writing.{GoesOnlyTo, MayWrite, PlansWriting, Recorded}
use Rattle.plan_object.specs.declared.placing.Target.{Target}
use Rattle.plan_object.proofs.NewPlans.{plans_new}
use Rattle.plan_object.proofs.PutOver.{plans_over}
use Rattle.plan_object.proofs.RoomLemmas.{object_is}

fewer : (kept ids : List ℕ) → length (with_leaves kept ids) ≤ length kept + length ids
fewer kept [] = omega arith
fewer kept (id ∷ ids) = omega (arith, fewer (with_leaf kept id) ids, by (list_any (λ k. k == id) kept))
  where
    by : (b : Bool) → length (elim b as (λ _. List ℕ) [ true ↦ kept | false ↦ kept ++ id ∷ [] ]) ≤ length kept + 1
    by true = omega arith
    by false = omega (arith, length-append kept (id ∷ []))

-- the collection above is found
pub above_is : (g : Grid) (p above : Path) → parent p ≡ Some above → has g.collections above ≡ true → collection_above g p ≡ Ok above
above_is g p above parent_is is = (λ i. there (parent_is i) Exists >>= (λ c. unless (has g.collections c) NoCollection >>= (λ _. Ok c))) ∙ ap (λ b. unless b NoCollection >>= (λ _. Ok above)) is

-- a leaf is written once
pub few_targets : (c : Cat) (leaves : List ℕ) (ts : List Target) → AreTargets c leaves ts → length ts ≤ length leaves
few_targets c leaves ts are = omega (arith, fewer [] leaves, ap length are.leaves_are, length-map ts (λ (t : Target). t.leaf))

pub planned : {E : Type 0} (c : Cat) → IsMade c → (user : ℕ) → IsTrue (is_user c user) → (p : Path) (leaves : List ℕ) → MayWrite c p leaves → object_at c p ≡ None → (rec : Recorded) (ts : List Target) → AreTargets c leaves ts
    → (r : Result Plan E) → IfOk r (WritesNew c user p rec ts) → IfOk r (PlansWriting c (user_name c user) p leaves rec)
planned c made user its_user p leaves may none rec ts are (Err e) is = tt
planned c made user its_user p leaves may none rec ts are (Ok plan) is =
    plans_new c made user its_user p (ap (λ b. b || has (grid_of c).objects p) may.free ∙ object_is c made p None (sym none)) rec is.row is.is_row leaves may.all ts are plan is.is_new

pub planned_over : {E : Type 0} (c : Cat) → IsMade c → (user : Text) (p : Path) (leaves : List ℕ) → MayWrite c p leaves → (id : ℕ) → object_at c p ≡ Some id → (rec : Recorded) (ts : List Target) → AreTargets c leaves ts
    → (r : Result Plan E) → IfOk r (WritesOver c id rec ts) → IfOk r (PlansWriting c user p leaves rec)
planned_over c made user p leaves may id at rec ts are (Err e) is = tt
planned_over c made user p leaves may id at rec ts are (Ok plan) is = plans_over c made p id at rec is.old is.found leaves may.all ts are user plan is.is_over

-- an object at a path is there
pub id_there : (c : Cat) → IsMade c → (p : Path) (id : ℕ) → Some id ≡ object_at c p → has_object c id ≡ true
id_there c made p id at = (placed c made p (item.Object id) (sym at)).there

pub row_missing : (c : Cat) (id : ℕ) → has_object c id ≡ true → None ≡ object c id → ⊥
row_missing c id has none = let row = row_there (λ (r : ObjectRow). r.id) c.objects id has in let wrong : None ≡ Some row.0 = none ∙ row.3 in cc

-- of lists that are the same
pub targets_as : (c : Cat) (leaves given : List ℕ) (ts kept : List Target) → AreTargets c given kept → given ≡ leaves → ts ≡ kept → AreTargets c leaves ts
targets_as c leaves given ts kept are leaves_is ts_is = subst (AreTargets c leaves) (sym ts_is) (subst (λ (ids : List ℕ). AreTargets c ids kept) leaves_is are)

-- ---- where its files are

in_leaves : (kept ids : List ℕ) (x : ℕ) → IsIn (with_leaves kept ids) x → IsIn kept x ⊎ IsIn ids x
in_leaves kept [] x here = inl here
in_leaves kept (id ∷ ids) x here = elim (in_leaves (with_leaf kept id) ids x here) [
  | inl one ↦ by (list_any (λ k. k == id) kept) one
  | inr more ↦ inr (inr more)
]
  where
    by : (b : Bool) → IsIn (elim b as (λ _. List ℕ) [ true ↦ kept | false ↦ kept ++ id ∷ [] ]) x → IsIn kept x ⊎ (IsIn (id ∷ ids) x)
    by true one = inl one
    by false one = elim (in_from_append kept (id ∷ []) x one) [ inl old ↦ inl old | inr new ↦ elim new [ inl is ↦ inr (inl is) | inr out ↦ absurd out ] ]

target_of_file : (v : ℕ) (ts : List Target) (i : ℕ) (f : NewFile) → slice_get (files_from v (map law_target ts)) i ≡ Some f → (t : Target) × IsIn ts t × (t.slot ≡ f.slot)
target_of_file v [] i f is = absurd cc
target_of_file v (t ∷ ts) zero f is = let same : Some (record { slot = t.slot; name = v }) ≡ Some f = is in (t, inl refl, ap (λ (g : Option NewFile). option_map_or (λ (h : NewFile). h.slot) g t.slot) same)
target_of_file v (t ∷ ts) (suc i) f is = let rest = target_of_file (v + 1) ts i f is in (rest.0, inr rest.1, rest.2)

pub goes_only : (c : Cat) (leaves : List ℕ) (ts : List Target) → AreTargets c leaves ts → (plan : Plan) → plan.files ≡ files_from c.numbers.next_vault (map law_target ts) → GoesOnlyTo c leaves plan
goes_only c leaves ts are plan files slot has =
    let t = target_of_file c.numbers.next_vault ts has.place has.file (ap (λ (fs : List NewFile). slice_get fs has.place) (sym files) ∙ has.is) in
    let its = subst (λ (ids : List ℕ). IsIn ids t.0.leaf) are.leaves_are (map_from_in (λ (x : Target). x.leaf) ts t.0 t.1) in
    let here : IsIn leaves t.0.leaf = elim (in_leaves [] leaves t.0.leaf its) [ inl out ↦ absurd out | inr here ↦ here ] in
    record {
      leaf = t.0.leaf;
      there = contains_of leaves t.0.leaf here;
      slot_is = in_from_all (λ (x : Target). leaf_slot c x.leaf ≡ Some x.slot) ts are.slots t.0 t.1 ∙ ap (λ n. Some n) (t.2 ∙ has.slot_is);
    }

pub only_to : {E : Type 0} (c : Cat) (user : ℕ) (p : Path) (rec : Recorded) (leaves : List ℕ) (ts : List Target) → AreTargets c leaves ts → (r : Result Plan E) → IfOk r (WritesNew c user p rec ts) → IfOk r (GoesOnlyTo c leaves)
only_to c user p rec leaves ts are (Err e) is = tt
only_to c user p rec leaves ts are (Ok plan) is = goes_only c leaves ts are plan is.is_new.files

pub only_over : {E : Type 0} (c : Cat) (id : ℕ) (rec : Recorded) (leaves : List ℕ) (ts : List Target) → AreTargets c leaves ts → (r : Result Plan E) → IfOk r (WritesOver c id rec ts) → IfOk r (GoesOnlyTo c leaves)
only_over c id rec leaves ts are (Err e) is = tt
only_over c id rec leaves ts are (Ok plan) is = goes_only c leaves ts are plan is.is_over.files
