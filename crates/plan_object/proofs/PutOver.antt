-- The plan of a put over an object may be carried out, and makes of the grid what the put is.
use Rattle.std.proofs.Common.{◌≡◌, ◌==◌, ◌⊎◌, ℕ, ◌+◌, ◌<◌, Bool, true, false, cond, List, [], ◌∷◌, ◌++◌, length, map, Option, Some, None, Ok, inl, inr, IsTrue, refl, sym, ap, ◌∙◌, subst, arith, eqb-true, eq-eqb}
use Rattle.std.specs.Prelude.{◌≢◌, not, ◌&&◌, filter, is_some, nat_lt, option_map, unwrap_or}
use Rattle.std.specs.List.{AllByRecursion, Contains, list_any}
use Rattle.std.proofs.lemmas.Bool.{and_from, and_parts, not-true}
use Rattle.std.proofs.lemmas.List.{append-nil, length-map}
use Rattle.grid_model.specs.Digests.{HasDigest}
use Rattle.grid_model.specs.Maps.{get, has, put}
use Rattle.grid_model.specs.Names.{Text, Path}
use Rattle.grid_model.specs.Grid.{Grid}
use Rattle.grid_model.specs.Rows.{Cat, object}
use Rattle.grid_model.specs.RowPaths.{collection_path, object_at}
use Rattle.grid_model.specs.RowGrids.{grid_of, object_of, object_place, resource_name}
use Rattle.grid_model.specs.Applying.{IsMade, apply_all, is_leaf}
use Rattle.grid_model.specs.Whole.{leaf_slot, Naming, by_orphan, by_replica, Names}
use Rattle.grid_model.specs.Operations.Common.{with_new_item}
use Rattle.grid_model.specs.Operations.Objects.{good_on_all, gone_stale, replicas_there, with_object, written}
use Rattle.grid_model.specs.declared.deltas.Delta.{Delta}
use Rattle.grid_model.specs.declared.deltas.Delta.TheVariants as delta
use Rattle.grid_model.specs.declared.deltas.Item.TheVariants as item
use Rattle.grid_model.specs.declared.deltas.ObjectRow.{ObjectRow}
use Rattle.grid_model.specs.declared.deltas.OrphanRow.{OrphanRow}
use Rattle.grid_model.specs.declared.deltas.ReplicaRow.{ReplicaRow}
use Rattle.grid_model.specs.declared.plans.Plan.{Plan}
use Rattle.grid_model.proofs.Comparing.{path_cmp_total, path_cmp-IsAntisymmetric}
use Rattle.tables_laws.proofs.Rows.{IsIn, all_from_in, filter_from_in, in_from_all, in_from_filter, in_from_find}
use Rattle.tables_laws.proofs.LookUps.{get-object_at}
use Rattle.tables_laws.proofs.Grids.{paths_same}
use Rattle.tables_laws.proofs.Standing.{ReplicaStands}
use Rattle.tables_laws.proofs.Sound.{IsSound, ok-same}
use Rattle.file_laws.specs.Plans.{IsPlan}
use Rattle.file_laws.specs.Puts.{Target, files_from, put_before}
use Rattle.file_laws.specs.Rewriting.{IsDropped, IsRewriting, LeavesNoneGood, MayRewrite, NumberedTarget, Rewriting, StoredReplica, replicas_dropped, replicas_placed, replicas_staled, targets_of}
use Rattle.file_laws.proofs.Fewer.{apply_step}
use Rattle.file_laws.proofs.Members.{contains_of, in_of}
use Rattle.file_laws.proofs.Puts.{AreThere}
use Rattle.file_laws.proofs.Rewritten.{written_over}
use Rattle.grid_access.proofs.MapEntries.{in_from_map, map_from_in}
use Rattle.plan_base.proofs.AtPaths.{placed, sound_of}
use Rattle.plan_base.proofs.Sizes.{Apart}
use Rattle.plan_object.specs.OverPlans.{IsOverPlan, outdated, replaced, replaced_by, rewritten, slot_on}
use Rattle.plan_object.specs.PutPlans.{AreTargets, law_target}
use Rattle.plan_object.specs.Writing.{Draws, PlansWriting, Recorded}
use Rattle.plan_object.specs.declared.placing.Target as rust
use Rattle.plan_object.proofs.Filing.{Filed, Ready, filed_all}
use Rattle.plan_object.proofs.GoodOn.{puts}
use Rattle.plan_object.proofs.Leaves.{all_lts, apart_lts, length-files, lts, slots_lts, small}
use Rattle.plan_object.proofs.NumberMaps.{put_itself}
use Rattle.plan_object.proofs.ObjectGrids.{HasIt, applied_new, renewed, with_new}
use Rattle.plan_object.proofs.Orphans.{applied_begun, apply-append, begun, begun_draws, begun_grid, begun_made, in_orphans, made_more, some_vault, there_now}
use Rattle.plan_object.proofs.Outdating.{MayStale, Outdated, stale_all}
use Rattle.plan_object.proofs.OverMaps.{from_replaced, no_slot, nts, numbers, numbers_own, other_number, row_in, rows, rows_apart, one_row, slot_none, remaining, slot_of_target, slot_there, to_replaced, were, written_is}
use Rattle.plan_object.proofs.Replacing.{Gone, MayGo, go_all, removes}
use Rattle.plan_object.proofs.Taken.{are_numbered, targets-with_numbers}

-- ---- lists

pub apart_filter : (p : ReplicaRow → Bool) (xs : List ReplicaRow) → Apart (λ (r : ReplicaRow). r.number) xs → Apart (λ (r : ReplicaRow). r.number) (filter p xs)
apart_filter p [] apart = tt
apart_filter p (x ∷ xs) apart = elim (p x) as (λ b. Apart (λ (r : ReplicaRow). r.number) (cond b (x ∷ filter p xs) (filter p xs))) [
  | true ↦ (λ y here same. apart.0 y (in_from_filter p xs y here).0 same, apart_filter p xs apart.1)
  | false ↦ apart_filter p xs apart.1
]

apart_replaced : (ts : List rust.Target) (xs : List ReplicaRow) → Apart (λ (r : ReplicaRow). r.number) xs → Apart (λ (f : StoredReplica). f.row.number) (replaced ts xs)
apart_replaced ts [] apart = tt
apart_replaced ts (x ∷ xs) apart = by (slot_on ts x.leaf) (apart_replaced ts xs apart.1)
  where
    by : (o : Option ℕ) → Apart (λ (f : StoredReplica). f.row.number) (replaced ts xs) → Apart (λ (f : StoredReplica). f.row.number) (replaced_by x o ++ replaced ts xs)
    by None rest = rest
    by (Some slot) rest = (λ f later same. apart.0 f.row (from_replaced ts xs f later).0 same, rest)

pub there_more : (ts : List Target) (v : ℕ) (xs ys : List OrphanRow) → ((x : OrphanRow) → IsIn xs x → IsIn ys x) → AreThere v ts xs → AreThere v ts ys
there_more [] v xs ys more there = tt
there_more (t ∷ ts) v xs ys more there = (more (record { vault = v; slot = t.slot }) there.0, there_more ts (v + 1) xs ys more there.1)

-- ---- the catalogues

module _ (c : Cat) (made : IsMade c) (p : Path) (id : ℕ) (at : object_at c p ≡ Some id) (rec : Recorded) (old : ObjectRow) (found : object c id ≡ Some old)
    (leaves : List ℕ) (all : AllByRecursion (λ id. IsTrue (is_leaf c id)) leaves) (ts : List rust.Target) (are : AreTargets c leaves ts) where
  pub s : IsSound c
  s = sound_of c made

  abbrev pub v : ℕ
  v = c.numbers.next_vault

  abbrev o : ObjectRow
  o = rewritten old rec

  abbrev pub tgs : List Target
  tgs = lts c s leaves all ts are

  abbrev pub stored : List StoredReplica
  stored = replaced ts (rows c s old.id)

  abbrev staled : List ReplicaRow
  staled = outdated ts (rows c s old.id)

  abbrev pub places : List NumberedTarget
  places = nts c s old.id rec.size rec.digest leaves all ts are

  pub same_targets : targets_of places ≡ tgs
  same_targets = targets-with_numbers tgs (numbers c s old.id)

  here : IsIn c.objects old × (old.id ≡ id)
  here = let its = in_from_find (λ (x : ObjectRow). x.id == id) c.objects old found in (its.0, eqb-true old.id id its.1)

  pub its_place : object_place (collection_path c) old ≡ p
  its_place = sym (ap (λ (f : Option ObjectRow). unwrap_or (option_map (object_place (collection_path c)) f) []) found) ∙ (placed c made p (item.Object id) at).place

  pub its_row : object c old.id ≡ Some old
  its_row = ap (object c) here.1 ∙ found

  -- ---- those that go

  abbrev pub mid : Cat
  mid = begun c made tgs (small c s leaves all ts are)

  pub mid_made : IsMade mid
  mid_made = begun_made c made tgs (small c s leaves all ts are)

  small_slot : (t : rust.Target) → IsIn ts t → nat_lt t.slot c.stores ≡ true
  small_slot t there = in_from_all (λ (u : Target). nat_lt u.slot c.stores ≡ true) tgs (small c s leaves all ts are) (law_target t) (map_from_in law_target ts t there)

  may_go : MayGo old mid stored
  may_go = record {
    sound = sound_of mid mid_made;
    each = λ f which.
        let its = from_replaced ts (rows c s old.id) f which in
        let row = row_in c s old.id f.row its.0 in
        let t = slot_there ts f.row.leaf f.slot its.1 in
        (row.0, row.1, ap (λ n. nat_lt n c.stores) (sym t.3) ∙ small_slot t.0 t.1);
    differ = apart_replaced ts (rows c s old.id) (rows_apart c s old.id);
  }

  pub gone : Gone old mid stored
  gone = go_all old stored mid may_go

  abbrev pub fewer : Cat
  fewer = record mid { replicas = gone.replicas; orphans = gone.orphans }

  fewer_made : IsMade fewer
  fewer_made = made_more mid fewer (replicas_dropped stored) mid_made gone.applied

  -- ---- those that become stale

  abbrev off_target : ReplicaRow → Bool
  off_target r = r.good && not (list_any (λ (t : rust.Target). t.leaf == r.leaf) ts)

  -- a replica on no target stays
  off_stays : (r : ReplicaRow) → IsIn (rows c s old.id) r → slot_on ts r.leaf ≡ None → IsIn gone.replicas r
  off_stays r which none = gone.stays r (row_in c s old.id r which).0 (λ f there object number.
      let its = from_replaced ts (rows c s old.id) f there in
      let one : f.row ≡ r = one_row c s old.id f.row r its.0 which number in
      let wrong : None ≡ Some f.slot = sym none ∙ ap (λ (x : ReplicaRow). slot_on ts x.leaf) (sym one) ∙ its.1 in
      cc)

  staled_in : (r : ReplicaRow) → IsIn staled r → IsIn (rows c s old.id) r × (slot_on ts r.leaf ≡ None)
  staled_in r which =
      let its = in_from_filter off_target (rows c s old.id) r which in
      (its.0, slot_none ts r.leaf (not-true (list_any (λ (t : rust.Target). t.leaf == r.leaf) ts) (and_parts r.good (not (list_any (λ (t : rust.Target). t.leaf == r.leaf) ts)) its.1).1))

  may_stale : MayStale old fewer staled
  may_stale = record {
    sound = gone.sound;
    each = λ r which. let its = staled_in r which in (off_stays r its.0 its.1, (row_in c s old.id r its.0).1);
    own = apart_filter off_target (rows c s old.id) (rows_apart c s old.id);
  }

  outworn : Outdated old fewer staled
  outworn = stale_all old staled fewer may_stale

  abbrev worn : Cat
  worn = record fewer { replicas = outworn.replicas }

  worn_made : IsMade worn
  worn_made = made_more fewer worn (replicas_staled staled) fewer_made outworn.applied

  -- ---- the object's row

  abbrev pub g : Grid
  g = grid_of c

  pub get_there : get g.objects p ≡ Some (object_of c old)
  get_there = get-object_at c s p id old at found

  pub has_mid : HasIt old mid g p (were c s old.id)
  has_mid = record {
    sound = sound_of mid mid_made;
    found = its_row;
    place = ap (λ (ps : ℕ → Option Path). object_place ps old) (paths_same c mid refl) ∙ its_place;
    grid =
        begun_grid c made tgs (small c s leaves all ts are)
        ∙ ap (λ m. record g { objects = m }) (sym (put_itself path_cmp_total path_cmp-IsAntisymmetric g.objects p (object_of c old) get_there));
  }

  has_worn : HasIt old worn g p (remaining c s old.id rec.size rec.digest leaves all ts are)
  has_worn = outworn.grid g p (removes (were c s old.id) stored) (gone.grid g p (were c s old.id) has_mid)

  abbrev told : Cat
  told = renewed old rec worn worn_made g p (remaining c s old.id rec.size rec.digest leaves all ts are) has_worn

  has_told : HasIt o told g p (remaining c s old.id rec.size rec.digest leaves all ts are)
  has_told = with_new old rec worn worn_made g p (remaining c s old.id rec.size rec.digest leaves all ts are) has_worn

  -- ---- those that come

  pub old_vault : (y : ReplicaRow) → IsIn c.replicas y → y.vault < v
  old_vault y which = (in_from_all (ReplicaStands c) c.replicas s.tied.replicas y which).3

  -- a row that is left was there
  left_row : (y : ReplicaRow) → IsIn outworn.replicas y → (x : ReplicaRow) × IsIn c.replicas x × (x.object ≡ y.object) × (x.leaf ≡ y.leaf) × (x.vault ≡ y.vault)
  left_row y which = let its = outworn.from y which in (its.row, (gone.kept its.row its.there).0, its.object_is, its.leaf_is, its.vault_is)

  no_other : (y : ReplicaRow) → IsIn outworn.replicas y → y.object ≡ old.id → (t : Target) → IsIn tgs t → y.leaf ≡ t.leaf → ⊥
  no_other y which its t there same =
      let from = outworn.from y which in
      let kept = gone.kept from.row from.there in
      let row : IsIn (rows c s old.id) from.row = filter_from_in (λ (x : ReplicaRow). x.object == old.id) c.replicas from.row kept.0 (eq-eqb from.row.object old.id (from.object_is ∙ its)) in
      let u = in_from_map law_target ts t there in
      let slot = slot_of_target ts u.0 from.row.leaf u.1 (ap (λ (w : Target). w.leaf) u.2 ∙ sym same ∙ sym from.leaf_is) in
      kept.1 (record { row = from.row; slot = slot.0 }) (to_replaced ts (rows c s old.id) from.row slot.0 row slot.1) refl

  ready : Ready o told v places
  ready = record {
    sound = has_told.sound;
    found = has_told.found;
    orphans = subst (λ (us : List Target). AreThere v us gone.orphans) (sym same_targets) (there_more tgs v mid.orphans gone.orphans gone.more (there_now tgs c.orphans v));
    leaves = subst (λ (us : List Target). AllByRecursion (λ t. is_leaf c t.leaf ≡ true) us) (sym same_targets) (all_lts c s leaves all ts are);
    apart = subst (λ (us : List Target). Apart (λ (t : Target). t.leaf) us) (sym same_targets) (apart_lts c s leaves all ts are);
    other_leaves = λ y which its t there. no_other y which its t (subst (λ (us : List Target). IsIn us t) same_targets there);
    vaults = λ y which. let x = left_row y which in omega (arith, old_vault x.0 x.1, x.4);
    some_vault = some_vault c made;
    drawn = omega (arith, sym (length-map places (λ (t : NumberedTarget). t.target)) ∙ ap length same_targets);
  }

  filed : Filed o told v places
  filed = filed_all o places told v ready

  abbrev end : Cat
  end = record told { replicas = filed.replicas; orphans = filed.orphans }

  applied_after : apply_all mid (replicas_dropped stored ++ (replicas_staled staled ++ (delta.Object o ∷ replicas_placed o v places))) ≡ Ok end
  applied_after =
      apply-append (replicas_dropped stored) (replicas_staled staled ++ (delta.Object o ∷ replicas_placed o v places)) mid fewer gone.applied
      ∙ apply-append (replicas_staled staled) (delta.Object o ∷ replicas_placed o v places) fewer worn outworn.applied
      ∙ apply_step (delta.Object o) (replicas_placed o v places) worn told (applied_new old rec worn worn_made g p (remaining c s old.id rec.size rec.digest leaves all ts are) has_worn)
      ∙ filed.applied

  -- ---- the grid

  has_there : has g.objects p ≡ true
  has_there = ap is_some get_there

  replicas_are : puts rec.size rec.digest (resource_name c) (remaining c s old.id rec.size rec.digest leaves all ts are) places
      ≡ good_on_all rec.size rec.digest (gone_stale (replicas_there (get g.objects p))) (map (resource_name c) leaves)
  replicas_are =
      written_is c s old.id rec.size rec.digest leaves all ts are
      ∙ sym (ap (λ f. good_on_all rec.size rec.digest (gone_stale (replicas_there f)) (map (resource_name c) leaves)) get_there)

  ran : (user : Text) (above : Path) → grid_of end ≡ with_object g user above p (written (get g.objects p) rec.size rec.digest rec.now (map (resource_name c) leaves))
  ran user above = (filed.grid g p (remaining c s old.id rec.size rec.digest leaves all ts are) has_told).grid ∙ (λ i. record g {
    objects = put g.objects p (record { size = rec.size; digest = rec.digest; time = rec.now; replicas = replicas_are i });
    access = same_access i;
  })
    where
      same_access : g.access ≡ elim (has g.objects p) [ true ↦ g.access | false ↦ with_new_item g user above p ]
      same_access = sym (ap (λ b. elim b [ true ↦ g.access | false ↦ with_new_item g user above p ]) has_there)

  -- ---- what is drawn

  end_draws : Draws c (length tgs) end
  end_draws = record { numbers = refl; names = names; pending = refl; rules = refl; stores = refl }
    where
      names : (slot name : ℕ) (n : Naming) → name < v → Names end slot name n → (was : Naming) × Names c slot name was
      names slot name (by_replica y) low n = elim (filed.old_replicas y (in_of end.replicas y n.0)) [
        | inl was ↦ let x = left_row y was in (by_replica x.0, (contains_of c.replicas x.0 x.1, x.4 ∙ n.1, ap (leaf_slot c) x.3 ∙ n.2))
        | inr new ↦ absurd (omega (arith, new, low, n.1))
      ]
      names slot name (by_orphan x) low n = elim (gone.left x (filed.old_orphans x (in_of end.orphans x n.0))) [
        | inl first ↦ elim (in_orphans tgs c.orphans v x first) [
          | inl was ↦ (by_orphan x, (contains_of c.orphans x was, n.1, n.2))
          | inr new ↦ absurd (omega (arith, new, low, n.1))
        ]
        | inr one ↦
            let its = from_replaced ts (rows c s old.id) one.0 one.1 in
            let t = slot_there ts one.0.row.leaf one.0.slot its.1 in
            let at_slot : leaf_slot c t.0.leaf ≡ Some t.0.slot = in_from_all (λ (u : rust.Target). leaf_slot c u.leaf ≡ Some u.slot) ts are.slots t.0 t.1 in (
              by_replica one.0.row,
              (
                contains_of c.replicas one.0.row (row_in c s old.id one.0.row its.0).0,
                ap (λ (w : OrphanRow). w.vault) one.2 ∙ n.1,
                ap (leaf_slot c) (sym t.2) ∙ at_slot ∙ ap (λ n. Some n) (t.3 ∙ ap (λ (w : OrphanRow). w.slot) one.2 ∙ n.2),
              ),
            )
      ]

  -- ---- the law on files

  abbrev rewriting : Rewriting
  rewriting = record { dropped = stored; staled = staled; targets = places; early = []; between = []; late = [] }

  dropped_so : (r : ReplicaRow) → IsIn (rows c s old.id) r → (slot : ℕ) → slot_on ts r.leaf ≡ Some slot → IsDropped rewriting r
  dropped_so r which slot is =
      contains_of (map (λ (f : StoredReplica). f.row) stored) r (map_from_in (λ (f : StoredReplica). f.row) stored (record { row = r; slot = slot }) (to_replaced ts (rows c s old.id) r slot which is))

  pub its_rows : (r : ReplicaRow) → IsIn c.replicas r → r.object ≡ old.id → IsIn (rows c s old.id) r
  its_rows r which is = filter_from_in (λ (x : ReplicaRow). x.object == old.id) c.replicas r which (eq-eqb r.object old.id is)

  may : MayRewrite c o rewriting
  may = record {
    dropped = all_from_in (λ (f : StoredReplica). Contains c.replicas f.row × (leaf_slot c f.row.leaf ≡ Some f.slot)) stored (λ f which.
        let its = from_replaced ts (rows c s old.id) f which in
        let t = slot_there ts f.row.leaf f.slot its.1 in
        let at_slot : leaf_slot c t.0.leaf ≡ Some t.0.slot = in_from_all (λ (u : rust.Target). leaf_slot c u.leaf ≡ Some u.slot) ts are.slots t.0 t.1 in
        (contains_of c.replicas f.row (row_in c s old.id f.row its.0).0, ap (leaf_slot c) (sym t.2) ∙ at_slot ∙ ap (λ n. Some n) t.3));
    staled = all_from_in (λ (r : ReplicaRow). Contains c.replicas r) staled (λ r which. contains_of c.replicas r (row_in c s old.id r (staled_in r which).0).0);
    targets = are_numbered c tgs (numbers c s old.id) (numbers_own c s old.id) (apart_lts c s leaves all ts are) (slots_lts c s leaves all ts are);
    free = all_from_in (λ (r : ReplicaRow). r.object ≡ o.id → IsDropped rewriting r ⊎ AllByRecursion (λ (t : NumberedTarget). t.number ≢ r.number) places) c.replicas (λ r which is. by_slot r (its_rows r which is) (slot_on ts r.leaf) refl);
    early = refl;
    between = refl;
    late = refl;
  }
    where
      by_slot : (r : ReplicaRow) → IsIn (rows c s old.id) r → (f : Option ℕ) → slot_on ts r.leaf ≡ f → IsDropped rewriting r ⊎ AllByRecursion (λ (t : NumberedTarget). t.number ≢ r.number) places
      by_slot r which (Some slot) is = inl (dropped_so r which slot is)
      by_slot r which None is = inr (all_from_in (λ (t : NumberedTarget). t.number ≢ r.number) places (λ u there same. other_number c s old.id rec.size rec.digest leaves all ts are r which is u there same))

  none_good : LeavesNoneGood c o rewriting
  none_good = all_from_in (λ (r : ReplicaRow). r.object ≡ o.id → IsTrue r.good → IsDropped rewriting r ⊎ Contains staled r) c.replicas (λ r which is good. by_slot r (its_rows r which is) good (slot_on ts r.leaf) refl)
    where
      by_slot : (r : ReplicaRow) → IsIn (rows c s old.id) r → IsTrue r.good → (f : Option ℕ) → slot_on ts r.leaf ≡ f → IsDropped rewriting r ⊎ Contains staled r
      by_slot r which good (Some slot) is = inl (dropped_so r which slot is)
      by_slot r which good None is =
          inr (contains_of staled r (filter_from_in off_target (rows c s old.id) r which (and_from r.good (not (list_any (λ (t : rust.Target). t.leaf == r.leaf) ts)) good (ap not (no_slot ts r.leaf is)))))

  -- ---- all of it

  module _ (plan : Plan) (is : IsOverPlan c o ts plan) (body : Text) (has_it : HasDigest rec.size rec.digest body) where
    first : apply_all c plan.before ≡ Ok mid
    first = ap (apply_all c) is.before ∙ applied_begun c made tgs (small c s leaves all ts are)

    last : apply_all mid plan.after ≡ Ok end
    last = ap (apply_all mid) is.after ∙ applied_after

    is_rewriting : IsRewriting c o (delta.Object o ∷ []) rewriting plan
    is_rewriting = record {
      before = is.before ∙ ap (put_before c) (sym same_targets) ∙ sym (append-nil (put_before c (targets_of places)));
      files = is.files ∙ ap (files_from v) (sym same_targets);
      after = is.after ∙ ap (λ (ds : List Delta). replicas_dropped stored ++ (replicas_staled staled ++ (delta.Object o ∷ ds))) (sym (append-nil (replicas_placed o v places)));
      spelled_first = is.spelled_first;
      spelled_then = is.spelled_then;
    }

    is_plan : IsPlan c c c.stores plan body
    is_plan = written_over c s o rewriting may none_good body has_it mid end plan is_rewriting first last

    mid_is : mid ≡ is_plan.mid
    mid_is = ok-same mid is_plan.mid (apply_all c plan.before) first is_plan.first

    end_is : end ≡ is_plan.end
    end_is = ok-same end is_plan.end (apply_all mid plan.after) last (ap (λ (x : Cat). apply_all x plan.after) mid_is ∙ is_plan.then)

    count : length tgs ≡ length plan.files
    count = sym (ap length is.files ∙ length-files tgs v)

  pub plans_over : (user : Text) (plan : Plan) → IsOverPlan c o ts plan → PlansWriting c user p leaves rec plan
  plans_over user plan is above body above_is has_it = record {
    is_plan = is_plan plan is body has_it;
    before = ap (λ (x : Cat). grid_of x) (sym (mid_is plan is body has_it)) ∙ begun_grid c made tgs (small c s leaves all ts are);
    ran = ap (λ (x : Cat). grid_of x) (sym (end_is plan is body has_it)) ∙ ran user above;
    drawn_first = subst (λ (x : Cat). Draws c (length plan.files) x) (mid_is plan is body has_it) (subst (λ n. Draws c n mid) (count plan is body has_it) (begun_draws c made tgs (small c s leaves all ts are)));
    drawn = subst (λ (x : Cat). Draws c (length plan.files) x) (end_is plan is body has_it) (subst (λ n. Draws c n end) (count plan is body has_it) end_draws);
  }
