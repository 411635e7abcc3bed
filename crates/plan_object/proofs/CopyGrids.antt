-- The plan of a repl may be carried out, and makes of the grid what the repl is.
use Rattle.std.proofs.Common.{◌≡◌, ◌==◌, ◌⊎◌, ℕ, ◌+◌, ◌<◌, List, [], ◌∷◌, ◌++◌, length, map, Option, Some, None, Ok, inl, inr, IsTrue, true, refl, sym, ap, ◌∙◌, subst, arith, eq-eqb}
use Rattle.std.specs.Prelude.{◌≢◌, All, slice_get}
use Rattle.std.specs.List.{AllByRecursion, Contains, list_all}
use Rattle.std.proofs.lemmas.List.{append-nil, length-map}
use Rattle.grid_model.specs.Maps.{put}
use Rattle.grid_model.specs.Names.{Path}
use Rattle.grid_model.specs.Grid.{Grid}
use Rattle.grid_model.specs.Trees.{Replicas}
use Rattle.grid_model.specs.Rows.{Cat, object}
use Rattle.grid_model.specs.RowPaths.{object_at}
use Rattle.grid_model.specs.RowGrids.{grid_of, object_of, resource_name}
use Rattle.grid_model.specs.Applying.{IsMade, apply_all, is_leaf}
use Rattle.grid_model.specs.Whole.{leaf_slot, Naming, by_orphan, by_replica, Names}
use Rattle.grid_model.specs.Operations.Objects.{good_on_all}
use Rattle.grid_model.specs.Operations.Replicas.{with_replicas}
use Rattle.grid_model.specs.declared.deltas.Delta.{Delta}
use Rattle.grid_model.specs.declared.deltas.ObjectRow.{ObjectRow}
use Rattle.grid_model.specs.declared.deltas.OrphanRow.{OrphanRow}
use Rattle.grid_model.specs.declared.deltas.ReplicaRow.{ReplicaRow}
use Rattle.grid_model.specs.declared.plans.NewFile.{NewFile}
use Rattle.grid_model.specs.declared.plans.OldFile.{OldFile}
use Rattle.grid_model.specs.declared.plans.Plan.{Plan}
use Rattle.grid_model.proofs.Comparing.{path_cmp_total, path_cmp-IsAntisymmetric}
use Rattle.grid_journal.specs.Journal.{can_be_kept}
use Rattle.grid_vault.specs.Copying.{AreNamedApart}
use Rattle.grid_vault.specs.Vault.{IsAmong}
use Rattle.tables_laws.proofs.Rows.{IsIn, all_from_in, filter_from_in, in_from_all}
use Rattle.tables_laws.proofs.Sound.{IsSound, ok-same}
use Rattle.file_laws.specs.Plans.{IsCopyPlan}
use Rattle.file_laws.specs.Puts.{Target, files_from, put_before}
use Rattle.file_laws.specs.Rewriting.{IsDropped, IsRewriting, MayRewrite, NumberedTarget, Rewriting, StoredReplica, replicas_dropped, replicas_placed, targets_of}
use Rattle.file_laws.proofs.Members.{contains_of, in_of}
use Rattle.file_laws.proofs.Puts.{AreThere}
use Rattle.file_laws.proofs.Rewritten.{copied}
use Rattle.file_laws.proofs.Turning.{turns_self}
use Rattle.grid_access.proofs.MapEntries.{in_from_map, map_from_in}
use Rattle.plan_base.proofs.Sizes.{Apart}
use Rattle.plan_object.specs.OverPlans.{slot_on}
use Rattle.plan_object.specs.PutPlans.{AreTargets, law_target}
use Rattle.plan_object.specs.ReplPlans.{CopiesGrid, IsIdle, IsReplPlan, PutsReplicas}
use Rattle.plan_object.specs.Writing.{Draws, Recorded}
use Rattle.plan_object.specs.declared.placing.Target as rust
use Rattle.plan_object.proofs.Filing.{Filed, Ready, filed_all}
use Rattle.plan_object.proofs.Leaves.{all_lts, apart_lts, length-files, new_leaves, slots_lts, small, with_leaves-is}
use Rattle.plan_object.proofs.NumberMaps.{put_itself}
use Rattle.plan_object.proofs.ObjectGrids.{HasIt}
use Rattle.plan_object.proofs.Orphans.{applied_begun, apply-append, begun_draws, begun_grid, in_orphans, some_vault, there_now}
use Rattle.plan_object.proofs.OverMaps.{copied_is, from_replaced, numbers, numbers_own, other_number, row_in, rows, slot_of_target, slot_there, to_replaced, were}
use Rattle.plan_object.proofs.PutOver as over
use Rattle.plan_object.proofs.Replacing.{Gone, removes}
use Rattle.plan_object.proofs.Taken.{are_numbered}

-- ---- a plan that does nothing

none_among : (files : List NewFile) → files ≡ [] → (slot name : ℕ) → IsAmong files slot name → ⊥
none_among files none slot name a = let wrong : None ≡ Some a.file = ap (λ (fs : List NewFile). slice_get fs a.place) (sym none) ∙ a.is in cc

none_apart : AreNamedApart []
none_apart i j f g at_i at_j same = absurd cc

module _ (c : Cat) (plan : Plan) (idle : IsIdle plan) (from : OldFile) where
  abbrev idle_plan : IsCopyPlan c c c.stores plan from
  idle_plan = record {
    mid = c;
    end = c;
    first = ap (apply_all c) idle.before;
    then = ap (apply_all c) idle.after;
    spelled_first = ap (list_all can_be_kept) idle.before;
    spelled_then = ap (list_all can_be_kept) idle.after;
    slots = subst (λ (fs : List NewFile). All (λ f. f.slot < c.stores) fs) (sym idle.files) (λ k f below. absurd (omega (arith, below)));
    apart = subst AreNamedApart (sym idle.files) none_apart;
    other = λ a. none_among plan.files idle.files from.slot from.name a;
    begins = turns_self [] [] c;
    named = λ slot name a. absurd (none_among plan.files idle.files slot name a);
    ends = λ body has. turns_self plan.files body c;
  }

  pub idle_grid : CopiesGrid c (grid_of c) from plan
  idle_grid = record { is_plan = idle_plan; before = refl; ran = refl; drawn_first = draws; drawn = draws }
    where
      draws : Draws c (length plan.files) c
      draws = record {
        numbers = λ i. record c.numbers { next_vault = same i };
        names = λ slot name row low n. (row, n);
        pending = refl;
        rules = refl;
        stores = refl;
      }
        where
          same : c.numbers.next_vault ≡ c.numbers.next_vault + length plan.files
          same = omega (arith, ap length idle.files)

-- no target, no leaf
pub no_leaves : (c : Cat) (leaves : List ℕ) → AreTargets c leaves [] → leaves ≡ []
no_leaves c [] are = refl
no_leaves c (id ∷ leaves) are = let wrong : [] ≡ id ∷ new_leaves (id ∷ []) leaves = are.leaves_are ∙ with_leaves-is (id ∷ []) leaves in absurd cc

-- ---- a plan that makes files

module _ (c : Cat) (made : IsMade c) (p : Path) (id : ℕ) (at : object_at c p ≡ Some id) (old : ObjectRow) (found : object c id ≡ Some old)
    (leaves : List ℕ) (all : AllByRecursion (λ id. IsTrue (is_leaf c id)) leaves) (ts : List rust.Target) (are : AreTargets c leaves ts) where
  -- what is recorded stays
  abbrev rec : Recorded
  rec = record { size = old.size; digest = old.digest; now = old.time }

  abbrev s : IsSound c
  s = over.s c made p id at rec old found leaves all ts are

  abbrev v : ℕ
  v = c.numbers.next_vault

  abbrev tgs : List Target
  tgs = over.tgs c made p id at rec old found leaves all ts are

  abbrev stored : List StoredReplica
  stored = over.stored c made p id at rec old found leaves all ts are

  abbrev places : List NumberedTarget
  places = over.places c made p id at rec old found leaves all ts are

  same_targets : targets_of places ≡ tgs
  same_targets = over.same_targets c made p id at rec old found leaves all ts are

  its_row : object c old.id ≡ Some old
  its_row = over.its_row c made p id at rec old found leaves all ts are

  abbrev mid : Cat
  mid = over.mid c made p id at rec old found leaves all ts are

  abbrev gone : Gone old mid stored
  gone = over.gone c made p id at rec old found leaves all ts are

  abbrev fewer : Cat
  fewer = record mid { replicas = gone.replicas; orphans = gone.orphans }

  abbrev g : Grid
  g = grid_of c

  abbrev removed : Replicas
  removed = removes (were c s old.id) stored

  has_fewer : HasIt old fewer g p removed
  has_fewer = gone.grid g p (were c s old.id) (over.has_mid c made p id at rec old found leaves all ts are)

  -- ---- those that come

  no_other : (y : ReplicaRow) → IsIn gone.replicas y → y.object ≡ old.id → (t : Target) → IsIn tgs t → y.leaf ≡ t.leaf → ⊥
  no_other y which its t there same =
      let kept = gone.kept y which in
      let row : IsIn (rows c s old.id) y = filter_from_in (λ (x : ReplicaRow). x.object == old.id) c.replicas y kept.0 (eq-eqb y.object old.id its) in
      let u = in_from_map law_target ts t there in
      let slot = slot_of_target ts u.0 y.leaf u.1 (ap (λ (w : Target). w.leaf) u.2 ∙ sym same) in
      kept.1 (record { row = y; slot = slot.0 }) (to_replaced ts (rows c s old.id) y slot.0 row slot.1) refl

  ready : Ready old fewer v places
  ready = record {
    sound = gone.sound;
    found = its_row;
    orphans = subst (λ (us : List Target). AreThere v us gone.orphans) (sym same_targets) (over.there_more tgs v mid.orphans gone.orphans gone.more (there_now tgs c.orphans v));
    leaves = subst (λ (us : List Target). AllByRecursion (λ t. is_leaf c t.leaf ≡ true) us) (sym same_targets) (all_lts c s leaves all ts are);
    apart = subst (λ (us : List Target). Apart (λ (t : Target). t.leaf) us) (sym same_targets) (apart_lts c s leaves all ts are);
    other_leaves = λ y which its t there. no_other y which its t (subst (λ (us : List Target). IsIn us t) same_targets there);
    vaults = λ y which. over.old_vault c made p id at rec old found leaves all ts are y (gone.kept y which).0;
    some_vault = some_vault c made;
    drawn = omega (arith, sym (length-map places (λ (t : NumberedTarget). t.target)) ∙ ap length same_targets);
  }

  abbrev filed : Filed old fewer v places
  filed = filed_all old places fewer v ready

  abbrev end : Cat
  end = record fewer { replicas = filed.replicas; orphans = filed.orphans }

  applied_after : apply_all mid (replicas_dropped stored ++ replicas_placed old v places) ≡ Ok end
  applied_after = apply-append (replicas_dropped stored) (replicas_placed old v places) mid fewer gone.applied ∙ filed.applied

  -- ---- the grid

  ran : grid_of end ≡ with_replicas g p (object_of c old) (good_on_all old.size old.digest (object_of c old).replicas (map (resource_name c) leaves))
  ran = (filed.grid g p removed has_fewer).grid ∙ (λ i. record g {
    objects = put g.objects p (record { size = old.size; digest = old.digest; time = old.time; replicas = copied_is c s old.id old.size old.digest leaves all ts are i });
  })

  -- ---- what is drawn

  end_draws : Draws c (length tgs) end
  end_draws = record { numbers = refl; names = names; pending = refl; rules = refl; stores = refl }
    where
      names : (slot name : ℕ) (n : Naming) → name < v → Names end slot name n → (was : Naming) × Names c slot name was
      names slot name (by_replica y) low n = elim (filed.old_replicas y (in_of end.replicas y n.0)) [
        | inl was ↦ (by_replica y, (contains_of c.replicas y (gone.kept y was).0, n.1, n.2))
        | inr new ↦ absurd (omega (arith, new, low, n.1))
      ]
      names slot name (by_orphan x) low n = elim (gone.left x (filed.old_orphans x (in_of end.orphans x n.0))) [
        | inl first ↦ elim (in_orphans tgs c.orphans v x first) [
          | inl was ↦ (by_orphan x, (contains_of c.orphans x was, n.1, n.2))
          | inr new ↦ absurd (omega (arith, new, low, n.1))
        ]
        | inr one ↦
            let its = from_replaced ts (rows c s old.id) one.0 one.1 in
            let t = slot_there ts one.0.row.leaf one.0.slot its.1 in
            let at_slot : leaf_slot c t.0.leaf ≡ Some t.0.slot = in_from_all (λ (u : rust.Target). leaf_slot c u.leaf ≡ Some u.slot) ts are.slots t.0 t.1 in (
              by_replica one.0.row,
              (
                contains_of c.replicas one.0.row (row_in c s old.id one.0.row its.0).0,
                ap (λ (w : OrphanRow). w.vault) one.2 ∙ n.1,
                ap (leaf_slot c) (sym t.2) ∙ at_slot ∙ ap (λ n. Some n) (t.3 ∙ ap (λ (w : OrphanRow). w.slot) one.2 ∙ n.2),
              ),
            )
      ]

  -- ---- the law on files

  abbrev rewriting : Rewriting
  rewriting = record { dropped = stored; staled = []; targets = places; early = []; between = []; late = [] }

  may : MayRewrite c old rewriting
  may = record {
    dropped = all_from_in (λ (f : StoredReplica). Contains c.replicas f.row × (leaf_slot c f.row.leaf ≡ Some f.slot)) stored (λ f which.
        let its = from_replaced ts (rows c s old.id) f which in
        let t = slot_there ts f.row.leaf f.slot its.1 in
        let at_slot : leaf_slot c t.0.leaf ≡ Some t.0.slot = in_from_all (λ (u : rust.Target). leaf_slot c u.leaf ≡ Some u.slot) ts are.slots t.0 t.1 in
        (contains_of c.replicas f.row (row_in c s old.id f.row its.0).0, ap (leaf_slot c) (sym t.2) ∙ at_slot ∙ ap (λ n. Some n) t.3));
    staled = tt;
    targets = are_numbered c tgs (numbers c s old.id) (numbers_own c s old.id) (apart_lts c s leaves all ts are) (slots_lts c s leaves all ts are);
    free = all_from_in (λ (r : ReplicaRow). r.object ≡ old.id → IsDropped rewriting r ⊎ AllByRecursion (λ (t : NumberedTarget). t.number ≢ r.number) places) c.replicas
        (λ r which is. by_slot r (over.its_rows c made p id at rec old found leaves all ts are r which is) (slot_on ts r.leaf) refl);
    early = refl;
    between = refl;
    late = refl;
  }
    where
      by_slot : (r : ReplicaRow) → IsIn (rows c s old.id) r → (f : Option ℕ) → slot_on ts r.leaf ≡ f → IsDropped rewriting r ⊎ AllByRecursion (λ (t : NumberedTarget). t.number ≢ r.number) places
      by_slot r which (Some slot) is =
          inl (contains_of (map (λ (f : StoredReplica). f.row) stored) r (map_from_in (λ (f : StoredReplica). f.row) stored (record { row = r; slot = slot }) (to_replaced ts (rows c s old.id) r slot which is)))
      by_slot r which None is = inr (all_from_in (λ (t : NumberedTarget). t.number ≢ r.number) places (λ u there same. other_number c s old.id old.size old.digest leaves all ts are r which is u there same))

  -- ---- all of it

  module _ (plan : Plan) (is : PutsReplicas c old ts plan) where
    first : apply_all c plan.before ≡ Ok mid
    first = ap (apply_all c) is.before ∙ applied_begun c made tgs (small c s leaves all ts are)

    last : apply_all mid plan.after ≡ Ok end
    last = ap (apply_all mid) is.after ∙ applied_after

    is_rewriting : IsRewriting c old [] rewriting plan
    is_rewriting = record {
      before = is.before ∙ ap (put_before c) (sym same_targets) ∙ sym (append-nil (put_before c (targets_of places)));
      files = is.files ∙ ap (files_from v) (sym same_targets);
      after = is.after ∙ ap (λ (ds : List Delta). replicas_dropped stored ++ ds) (sym (append-nil (replicas_placed old v places)));
      spelled_first = is.spelled_first;
      spelled_then = is.spelled_then;
    }

    count : length tgs ≡ length plan.files
    count = sym (ap length is.files ∙ length-files tgs v)

    module _ (from : OldFile) (size : from.size ≡ old.size) (digest : from.digest ≡ old.digest) (low : from.name < v) where
      is_plan : IsCopyPlan c c c.stores plan from
      is_plan = copied c s old rewriting may its_row mid end plan is_rewriting first last from size digest low

      mid_is : mid ≡ is_plan.mid
      mid_is = ok-same mid is_plan.mid (apply_all c plan.before) first is_plan.first

      end_is : end ≡ is_plan.end
      end_is = ok-same end is_plan.end (apply_all mid plan.after) last (ap (λ (x : Cat). apply_all x plan.after) mid_is ∙ is_plan.then)

      pub puts_grid : CopiesGrid c (with_replicas g p (object_of c old) (good_on_all old.size old.digest (object_of c old).replicas (map (resource_name c) leaves))) from plan
      puts_grid = record {
        is_plan = is_plan;
        before = ap (λ (x : Cat). grid_of x) (sym mid_is) ∙ begun_grid c made tgs (small c s leaves all ts are);
        ran = ap (λ (x : Cat). grid_of x) (sym end_is) ∙ ran;
        drawn_first = subst (λ (x : Cat). Draws c (length plan.files) x) mid_is (subst (λ n. Draws c n mid) count (begun_draws c made tgs (small c s leaves all ts are)));
        drawn = subst (λ (x : Cat). Draws c (length plan.files) x) end_is (subst (λ n. Draws c n end) count end_draws);
      }

  -- what is put on no leaf is nothing
  none_put : leaves ≡ [] → grid_of c ≡ with_replicas g p (object_of c old) (good_on_all old.size old.digest (object_of c old).replicas (map (resource_name c) leaves))
  none_put none =
      ap (λ m. record g { objects = m }) (sym (put_itself path_cmp_total path_cmp-IsAntisymmetric g.objects p (object_of c old) (over.get_there c made p id at rec old found leaves all ts are)))
      ∙ ap (λ (ids : List ℕ). with_replicas g p (object_of c old) (good_on_all old.size old.digest (object_of c old).replicas (map (resource_name c) ids))) (sym none)

-- ---- the plan

pub copies_grid : (c : Cat) (made : IsMade c) (p : Path) (id : ℕ) (at : object_at c p ≡ Some id) (old : ObjectRow) (found : object c id ≡ Some old)
    (leaves : List ℕ) (all : AllByRecursion (λ id. IsTrue (is_leaf c id)) leaves) (ts : List rust.Target) (are : AreTargets c leaves ts) (plan : Plan) → IsReplPlan c old ts plan
    → (from : OldFile) → from.size ≡ old.size → from.digest ≡ old.digest → from.name < c.numbers.next_vault
    → CopiesGrid c (with_replicas (grid_of c) p (object_of c old) (good_on_all old.size old.digest (object_of c old).replicas (map (resource_name c) leaves))) from plan
copies_grid c made p id at old found leaves all [] are plan idle from size digest low =
    subst (λ (h : Grid). CopiesGrid c h from plan) (none_put c made p id at old found leaves all [] are (no_leaves c leaves are)) (idle_grid c plan idle from)
copies_grid c made p id at old found leaves all (t ∷ ts) are plan is from size digest low = puts_grid c made p id at old found leaves all (t ∷ ts) are plan is from size digest low
