-- A plan of a repl is that of the deed of the repl.
use Rattle.std.proofs.Common.{◌≡◌, ◌==◌, ℕ, ◌<◌, true, List, [], ◌∷◌, map, Some, None, Result, Ok, Err, IsTrue, refl, sym, ap, ◌∙◌, subst, arith, eq-eqb}
use Rattle.std.specs.Prelude.{IfOk, not, slice_get}
use Rattle.std.specs.List.{AllByRecursion}
use Rattle.grid_model.specs.Names.{Text, Path}
use Rattle.grid_model.specs.Grid.{Grid, Object}
use Rattle.grid_model.specs.Rows.{Cat, object, replicas_of}
use Rattle.grid_model.specs.RowPaths.{object_at}
use Rattle.grid_model.specs.RowGrids.{grid_of, object_of, resource_name}
use Rattle.grid_model.specs.Applying.{IsMade, is_leaf}
use Rattle.grid_model.specs.Trees.{Resources, possible, slot_of, slots_of, targets}
use Rattle.grid_model.specs.Deeds.{Deed, is_among}
use Rattle.grid_model.specs.Operations.Objects.{good_on_all}
use Rattle.grid_model.specs.Operations.Replicas.{is_good_on, lacking, repl_row, with_replicas}
use Rattle.grid_model.specs.declared.deltas.ObjectRow.{ObjectRow}
use Rattle.grid_model.specs.declared.deltas.ReplicaRow.{ReplicaRow}
use Rattle.grid_model.specs.declared.plans.NewFile.{NewFile}
use Rattle.grid_model.specs.declared.plans.OldFile.{OldFile}
use Rattle.grid_model.specs.declared.plans.Plan.{Plan}
use Rattle.grid_vault.specs.Vault.{HasSlot}
use Rattle.file_laws.proofs.Members.{in_of}
use Rattle.grid_access.proofs.MapEntries.{map_from_in}
use Rattle.tables_laws.proofs.Rows.{IsIn, any_from_in, filter_from_in, in_from_all, in_from_filter}
use Rattle.tables_laws.proofs.Standing.{ReplicaStands}
use Rattle.grid_tree.specs.Names.{AreNamed}
use Rattle.grid_tree.proofs.Reachable.{target_may}
use Rattle.plan_base.proofs.AtPaths.{sound_of}
use Rattle.plan_object.specs.PutPlans.{AreTargets}
use Rattle.plan_object.specs.ReplPlans.{CopiesFile, CopiesGrid, IsIdle, IsReplPlan, MayRepl, lacking_leaves}
use Rattle.plan_object.specs.Writing.{GoesOnlyTo, IsSlotOf}
use Rattle.plan_object.specs.declared.placing.Target.{Target}
use Rattle.plan_object.proofs.CopyGrids.{copies_grid}
use Rattle.plan_object.proofs.CopyMarks.{bad_fits_so, slot_fits, source_fits}
use Rattle.plan_object.proofs.LackingLeaves.{lacking_all, lacking_named}
use Rattle.plan_object.proofs.PutDeeds.{slot_is}
use Rattle.plan_object.proofs.PutLemmas.{goes_only}
use Rattle.plan_object.proofs.ReplRows.{repl_deed, repl_is}

-- the files of a plan are in the slots of its leaves
goes : (c : Cat) (o : ObjectRow) (leaves : List ℕ) (ts : List Target) → AreTargets c leaves ts → (plan : Plan) → IsReplPlan c o ts plan → GoesOnlyTo c leaves plan
goes c o leaves [] are plan idle slot has = let wrong : None ≡ Some has.file = ap (λ (fs : List NewFile). slice_get fs has.place) (sym idle.files) ∙ has.is in absurd cc
goes c o leaves (t ∷ ts) are plan is slot has = goes_only c leaves (t ∷ ts) are plan is.files slot has

no_files : (f : NewFile) (files : List NewFile) → [] ≡ f ∷ files → ⊥
no_files f files e = cc

-- a plan without files does nothing
idle_so : (c : Cat) (o : ObjectRow) (ts : List Target) (plan : Plan) → IsReplPlan c o ts plan → plan.files ≡ [] → IsIdle plan
idle_so c o [] plan idle none = idle
idle_so c o (t ∷ ts) plan is none = absurd (no_files _ _ (sym none ∙ is.files))

-- the same of what the steps of planning find
pub planned_idle : {E : Type 0} (c : Cat) (o : ObjectRow) (ts : List Target) (r : Result Plan E) → IfOk r (IsReplPlan c o ts) → IfOk r (λ plan. plan.files ≡ [] → IsIdle plan)
planned_idle c o ts (Err e) is = tt
planned_idle c o ts (Ok plan) is = idle_so c o ts plan is

module _ (c : Cat) (made : IsMade c) (user : Text) (p : Path) (r : Text) (from : OldFile) (may : MayRepl c user p r from) (word now : ℕ)
    (ids : List ℕ) (named : AreNamed c ids (targets (grid_of c).resources r word)) (all : AllByRecursion (λ id. IsTrue (is_leaf c id)) ids) where
  abbrev g : Grid
  g = grid_of c

  abbrev tree : Resources
  tree = g.resources

  abbrev o : Object
  o = object_of c may.object_row

  abbrev rows : List ReplicaRow
  rows = replicas_of c may.object_row.id

  abbrev leaves : List ℕ
  leaves = lacking_leaves rows ids

  abbrev of : Deed
  of = repl_deed c user p r o from.slot

  names : map (resource_name c) leaves ≡ lacking o.replicas (targets tree r word)
  names = lacking_named c (sound_of c made) may.object_row ids named.there ∙ ap (lacking o.replicas) named.named

  abbrev slots : List ℕ
  slots = slots_of tree (lacking o.replicas (possible tree r))

  among : (slot : ℕ) → IsSlotOf c leaves slot → is_among slots slot ≡ true
  among slot at =
      let name = resource_name c at.leaf in
      let here : IsIn (map (resource_name c) leaves) name = map_from_in (resource_name c) leaves at.leaf (in_of leaves at.leaf at.there) in
      let lacks = in_from_filter (λ (leaf : Text). not (is_good_on o.replicas leaf)) (targets tree r word) name (subst (λ (ns : List Text). IsIn ns name) names here) in
      let its = filter_from_in (λ (leaf : Text). not (is_good_on o.replicas leaf)) (possible tree r) name (target_may tree r word name lacks.0) lacks.1 in
      any_from_in (λ n. n == slot) slots (slot_of tree name) (map_from_in (slot_of tree) (lacking o.replicas (possible tree r)) name its)
      (eq-eqb (slot_of tree name) slot (slot_is c (sound_of c made) at.leaf slot at.slot_is))

  module _ (ts : List Target) (are : AreTargets c leaves ts) (plan : Plan) (is : IsReplPlan c may.object_row ts plan) where
    its_slot : (slot : ℕ) → HasSlot plan.files slot → is_among slots slot ≡ true
    its_slot slot has = among slot (goes c may.object_row leaves ts are plan is slot has)

    low : from.name < c.numbers.next_vault
    low = omega (arith, (in_from_all (ReplicaStands c) c.replicas (sound_of c made).tied.replicas may.reads.row (in_of c.replicas may.reads.row may.reads.there)).3, may.reads.vault_is)

    makes : CopiesGrid c (of.ran word now []) from plan
    makes =
        subst (λ (ns : List Text). CopiesGrid c (with_replicas g p o (good_on_all o.size o.digest o.replicas ns)) from plan) names
        (copies_grid c made p may.object_row.id may.may.at may.object_row may.found leaves (lacking_all (λ id. IsTrue (is_leaf c id)) rows ids all) ts are plan is from
        may.reads.size may.reads.digest low)

    pub copies_file : CopiesFile c (repl_row g user p r) word now from plan
    copies_file = record {
      of = of;
      row_is = repl_is c user p r made from may;
      size = sym may.reads.size;
      digest = sym may.reads.digest;
      makes = makes;
      ran = refl;
      slots = slot_fits from.slot o.size o.digest slots plan.files its_slot;
      source = source_fits from.slot o.size o.digest slots plan.files its_slot;
      bad = bad_fits_so from.slot o.size o.digest slots plan.files its_slot;
    }

-- the same of what the steps of planning find
pub planned_repl : {E : Type 0} (c : Cat) (made : IsMade c) (user : Text) (p : Path) (r : Text) (from : OldFile) (may : MayRepl c user p r from) (word now : ℕ)
    (ids : List ℕ) (named : AreNamed c ids (targets (grid_of c).resources r word)) (all : AllByRecursion (λ id. IsTrue (is_leaf c id)) ids)
    (id : ℕ) → Some id ≡ object_at c p → (o : ObjectRow) → Some o ≡ object c id → (ts : List Target) → AreTargets c (lacking_leaves (replicas_of c id) ids) ts
    → (result : Result Plan E) → IfOk result (IsReplPlan c o ts) → IfOk result (CopiesFile c (repl_row (grid_of c) user p r) word now from)
planned_repl c made user p r from may word now ids named all id at o found ts are (Err e) is = tt
planned_repl c made user p r from may word now ids named all id at o found ts are (Ok plan) is =
    copies_file c made user p r from may word now ids named all ts (subst (λ n. AreTargets c (lacking_leaves (replicas_of c n) ids) ts) same are) plan (subst (λ (x : ObjectRow). IsReplPlan c x ts plan) same_row is)
  where
    same : id ≡ may.object_row.id
    same = let both : Some id ≡ Some may.object_row.id = at ∙ may.may.at in cc

    same_row : o ≡ may.object_row
    same_row = let both : Some o ≡ Some may.object_row = found ∙ ap (object c) same ∙ may.found in cc
