-- The plan of an object that is put or copied to where none is may be carried out, and makes the grid that has it.
use Rattle.std.proofs.Common.{◌≡◌, ◌==◌, ℕ, ◌<◌, true, false, List, [], ◌∷◌, ◌++◌, length, map, Option, Some, None, Result, Ok, Err, inl, inr, IsTrue, refl, sym, ap, ◌∙◌, subst, arith}
use Rattle.std.specs.Prelude.{◌≢◌, not, ◌&&◌, All, filter, is_some, nat_lt}
use Rattle.std.specs.List.{AllByRecursion, list_all}
use Rattle.std.proofs.lemmas.List.{length-map}
use Rattle.std.proofs.lemmas.List.Folds.{list_all-append}
use Rattle.grid_model.specs.Digests.{HasDigest}
use Rattle.grid_model.specs.Maps.{empty, get, has, put}
use Rattle.grid_model.specs.Names.{Text, Path, parent}
use Rattle.grid_model.specs.Grid.{Grid, Object}
use Rattle.grid_model.specs.Rows.{Cat, has_object, has_resource}
use Rattle.grid_model.specs.RowPaths.{object_at}
use Rattle.grid_model.specs.RowGrids.{grid_of, object_place, resource_name, user_name}
use Rattle.grid_model.specs.Applying.{IsMade, apply_all, is_leaf, is_user}
use Rattle.grid_model.specs.Whole.{IsNamed, Naming, by_orphan, by_replica, Names}
use Rattle.grid_model.specs.Operations.Common.{is_taken, with_new_item}
use Rattle.grid_model.specs.Operations.Objects.{good_on_all, with_object, written}
use Rattle.grid_model.specs.declared.deltas.Delta.{Delta}
use Rattle.grid_model.specs.declared.deltas.Delta.TheVariants as delta
use Rattle.grid_model.specs.declared.deltas.EntryRow.{EntryRow}
use Rattle.grid_model.specs.declared.deltas.ObjectRow.{ObjectRow}
use Rattle.grid_model.specs.declared.deltas.ReplicaRow.{ReplicaRow}
use Rattle.grid_model.specs.declared.grid.ItemKind.TheVariants as kind
use Rattle.grid_model.specs.declared.plans.NewFile.{NewFile}
use Rattle.grid_model.specs.declared.plans.OldFile.{OldFile}
use Rattle.grid_model.specs.declared.plans.Plan.{Plan}
use Rattle.grid_model.proofs.Below.{parent-push}
use Rattle.grid_vault.specs.Copying.{AreNamedApart}
use Rattle.grid_vault.specs.Vault.{IsAmong}
use Rattle.tables_laws.proofs.Rows.{IsIn, in_from_all}
use Rattle.tables_laws.proofs.Grids.{paths_same}
use Rattle.tables_laws.proofs.Places.{resource_names_apart}
use Rattle.tables_laws.proofs.Standing.{ReplicaStands}
use Rattle.tables_laws.proofs.Sound.{IsSound, sound-apply_all}
use Rattle.file_laws.specs.Plans.{IsCopyPlan, Turns, names_no_file}
use Rattle.file_laws.specs.Puts.{Target, files_from}
use Rattle.file_laws.specs.Rewriting.{NumberedTarget, replicas_placed, targets_of}
use Rattle.file_laws.proofs.Members.{contains_of, in_of}
use Rattle.file_laws.proofs.Placing.{numbered_as, place_all}
use Rattle.file_laws.proofs.Puts.{AreThere, made_all, put_begins, put_named, put_slots}
use Rattle.file_laws.proofs.Turning.{turns_apply_all, turns_new_object, turns_then}
use Rattle.plan_base.specs.Found.{LiesIn}
use Rattle.plan_base.specs.NewItems.{handed_rows, handed_to, new_entries}
use Rattle.plan_base.proofs.AtPaths.{above_some, free-not_taken, sound_of}
use Rattle.plan_base.proofs.NewAccess.{GivesNew}
use Rattle.plan_base.proofs.PutEntries.{with_entries}
use Rattle.plan_base.proofs.Sizes.{Apart}
use Rattle.plan_object.specs.LeafNumbers.{with_numbers}
use Rattle.plan_object.specs.PutPlans.{AreTargets, IsNewPlan, IsObjectFor}
use Rattle.plan_object.specs.ReplPlans.{CopiesGrid}
use Rattle.plan_object.specs.Writing.{Draws, MakesGrid, PlansWriting, Recorded}
use Rattle.plan_object.specs.declared.placing.Target as rust
use Rattle.plan_object.proofs.Filing.{Filed, Ready, filed_all}
use Rattle.plan_object.proofs.GoodOn.{good_all, none_stand, puts}
use Rattle.plan_object.proofs.Leaves.{all_known, all_lts, apart_lts, files_apart, leaf_ids, length-files, lts, no_targets, not_below, slots_lts, small, with_leaves-is}
use Rattle.plan_object.proofs.NewObjects.{applied_one, given, grid_one, object_found, one, one_place, one_sound}
use Rattle.plan_object.proofs.ObjectGrids.{HasIt}
use Rattle.plan_object.proofs.Orphans.{applied_begun, apply-append, begun, begun_draws, begun_grid, begun_made, in_orphans, some_vault, there_now}
use Rattle.plan_object.proofs.RoomLemmas.{object_is}
use Rattle.plan_object.proofs.Taken.{are_numbered, none_own, targets-with_numbers}

-- ---- entries name no file

handed_named : (id : ℕ) (rows : List EntryRow) → list_all names_no_file (handed_to kind.Object id rows) ≡ true
handed_named id [] = refl
handed_named id (r ∷ rows) = handed_named id rows

entries_named : (c : Cat) (user cid id : ℕ) → list_all names_no_file (new_entries c user cid kind.Object id) ≡ true
entries_named c user cid id =
    list_all-append names_no_file (handed_to kind.Object id (filter (λ e. not (e.user == user)) (handed_rows c cid))) _
    ∙ ap (λ b. b && true) (handed_named id (filter (λ e. not (e.user == user)) (handed_rows c cid)))

-- ---- of a file and of a body

-- a plan that copies a file writes each body that is recorded so
pub makes_grid : (c : Cat) (g : Grid) (from : OldFile) (plan : Plan) (body : Text) → HasDigest from.size from.digest body → CopiesGrid c g from plan → MakesGrid c g body plan
makes_grid c g from plan body has copies = record {
  is_plan = record {
    mid = copies.is_plan.mid;
    end = copies.is_plan.end;
    first = copies.is_plan.first;
    then = copies.is_plan.then;
    spelled_first = copies.is_plan.spelled_first;
    spelled_then = copies.is_plan.spelled_then;
    slots = copies.is_plan.slots;
    begins = copies.is_plan.begins;
    named = copies.is_plan.named;
    ends = copies.is_plan.ends body (λ some. has);
  };
  before = copies.before;
  ran = copies.ran;
  drawn_first = copies.drawn_first;
  drawn = copies.drawn;
}

-- ---- the plan

module _ (c : Cat) (made : IsMade c) (user : ℕ) (its_user : is_user c user ≡ true) (p : Path) (none : is_taken (grid_of c) p ≡ false) (rec : Recorded) (o : ObjectRow) (is_row : IsObjectFor c p rec o)
    (leaves : List ℕ) (all : AllByRecursion (λ id. IsTrue (is_leaf c id)) leaves) (ts : List rust.Target) (are : AreTargets c leaves ts) where
  s : IsSound c
  s = sound_of c made

  abbrev tgs : List Target
  tgs = lts c s leaves all ts are

  abbrev fits : AllByRecursion (λ (t : Target). nat_lt t.slot c.stores ≡ true) tgs
  fits = small c s leaves all ts are

  abbrev v : ℕ
  v = c.numbers.next_vault

  abbrev places : List NumberedTarget
  places = with_numbers [] tgs

  same_targets : targets_of places ≡ tgs
  same_targets = targets-with_numbers tgs []

  -- ---- the path

  up : Some is_row.above ≡ parent p
  up = sym (parent-push is_row.above o.name) ∙ ap parent (sym is_row.path_is)

  inside : LiesIn c p o.collection
  inside = above_some c made p is_row.above up o.collection (sym is_row.at)

  above_same : (above : Path) → parent p ≡ Some above → above ≡ inside.above
  above_same above is = let both : Some above ≡ Some inside.above = sym is ∙ inside.parent_is in cc

  path_is : p ≡ inside.above ++ o.name ∷ []
  path_is = is_row.path_is ∙ ap (λ (q : Path). q ++ o.name ∷ []) (above_same is_row.above (sym up))

  -- ---- the catalogues

  abbrev mid : Cat
  mid = begun c made tgs fits

  abbrev row : Cat
  row = one c made p o.collection inside none o is_row.fresh refl path_is is_row.named mid.orphans mid.numbers (begun_made c made tgs fits) (begun_grid c made tgs fits)

  gives : GivesNew c row (with_new_item (grid_of c) (user_name c user) inside.above p) (new_entries c user o.collection kind.Object o.id)
  gives = given c made p o.collection inside none o is_row.fresh refl path_is is_row.named mid.orphans mid.numbers (begun_made c made tgs fits) (begun_grid c made tgs fits) user its_user

  abbrev listed : Cat
  listed = with_entries row gives.rows

  listed_sound : IsSound listed
  listed_sound =
      sound-apply_all (new_entries c user o.collection kind.Object o.id) row listed
      (one_sound c made p o.collection inside none o is_row.fresh refl path_is is_row.named mid.orphans mid.numbers (begun_made c made tgs fits) (begun_grid c made tgs fits)) gives.applied

  not_yet : (y : ReplicaRow) → IsIn c.replicas y → y.object ≡ o.id → ⊥
  not_yet y here is =
      let there : has_object c y.object ≡ true = (in_from_all (ReplicaStands c) c.replicas s.tied.replicas y here).0 in
      let wrong : has_object c o.id ≡ true = ap (has_object c) (sym is) ∙ there in
      let fresh = is_row.fresh in
      cc

  old_vault : (y : ReplicaRow) → IsIn c.replicas y → y.vault < v
  old_vault y here = (in_from_all (ReplicaStands c) c.replicas s.tied.replicas y here).3

  ready : Ready o listed v places
  ready = record {
    sound = listed_sound;
    found = object_found c made p o.collection inside none o is_row.fresh refl path_is is_row.named mid.orphans mid.numbers (begun_made c made tgs fits) (begun_grid c made tgs fits);
    orphans = subst (λ (us : List Target). AreThere v us mid.orphans) (sym same_targets) (there_now tgs c.orphans v);
    leaves = subst (λ (us : List Target). AllByRecursion (λ t. is_leaf c t.leaf ≡ true) us) (sym same_targets) (all_lts c s leaves all ts are);
    apart = subst (λ (us : List Target). Apart (λ (t : Target). t.leaf) us) (sym same_targets) (apart_lts c s leaves all ts are);
    other_leaves = λ y here is t later same. not_yet y here is;
    vaults = old_vault;
    some_vault = some_vault c made;
    drawn = omega (arith, sym (length-map places (λ (t : NumberedTarget). t.target)) ∙ ap length same_targets);
  }

  filed : Filed o listed v places
  filed = filed_all o places listed v ready

  abbrev end : Cat
  end = record listed { replicas = filed.replicas; orphans = filed.orphans }

  -- ---- the changes

  abbrev entries : List Delta
  entries = new_entries c user o.collection kind.Object o.id

  abbrev reps : List Delta
  reps = replicas_placed o v places

  applied_after : apply_all mid (delta.Object o ∷ (entries ++ reps)) ≡ Ok end
  applied_after =
      ap (λ (r : Result Cat ℕ). elim r as (λ _. Result Cat ℕ) [ Ok n ↦ apply_all n (entries ++ reps) | Err cause ↦ Err cause ])
      (applied_one c made p o.collection inside none o is_row.fresh refl path_is is_row.named mid.orphans mid.numbers (begun_made c made tgs fits) (begun_grid c made tgs fits))
      ∙ apply-append entries reps row listed gives.applied ∙ filed.applied

  -- ---- the law on files

  abbrev files : List NewFile
  files = files_from v (targets_of places)

  -- once the files are made of a body that is recorded so, if there are any
  turns : (body : Text) → (places ≢ [] → HasDigest o.size o.digest body) → Turns files body mid end
  turns body has =
      turns_then files body mid row end
      (turns_new_object files body mid (sound_of mid (begun_made c made tgs fits)) o is_row.fresh)
      (turns_then files body row listed end
      (turns_apply_all files body entries row listed (entries_named c user o.collection o.id) gives.applied)
      (place_all files body o places has v listed end listed_sound ready.orphans (made_all (targets_of places) v)
      (numbered_as c listed refl places (are_numbered c tgs [] none_own (apart_lts c s leaves all ts are) (slots_lts c s leaves all ts are)))
      ready.found (λ y here is. absurd (not_yet y here is)) filed.applied))

  -- ---- the grid

  abbrev g : Grid
  g = grid_of c

  no_object : object_at c p ≡ None
  no_object = (free-not_taken c made p none).no_object

  has_none : has g.objects p ≡ false
  has_none = object_is c made p None (sym no_object)

  get_none : get g.objects p ≡ None
  get_none = by (get g.objects p) has_none
    where
      by : (f : Option Object) → is_some f ≡ false → f ≡ None
      by None e = refl
      by (Some x) e = absurd cc

  abbrev access : Grid
  access = record g { access = with_new_item g (user_name c user) inside.above p }

  has_listed : HasIt o listed access p empty
  has_listed = record {
    sound = listed_sound;
    found = ready.found;
    place = ap (λ (ps : ℕ → Option Path). object_place ps o) (paths_same row listed refl)
        ∙ one_place c made p o.collection inside none o is_row.fresh refl path_is is_row.named mid.orphans mid.numbers (begun_made c made tgs fits) (begun_grid c made tgs fits);
    grid = gives.grid ∙ ap (λ (h : Grid). record h { access = with_new_item g (user_name c user) inside.above p })
        (grid_one c made p o.collection inside none o is_row.fresh refl path_is is_row.named mid.orphans mid.numbers (begun_made c made tgs fits) (begun_grid c made tgs fits));
  }

  replicas_are : puts o.size o.digest (resource_name c) empty places ≡ good_on_all rec.size rec.digest empty (map (resource_name c) leaves)
  replicas_are =
      (λ i. puts (is_row.size i) (is_row.digest i) (resource_name c) empty places)
      ∙ sym (good_all rec.size rec.digest (resource_name c) (λ id. has_resource c id ≡ true) (resource_names_apart c s) leaves empty [] tgs
      (none_stand rec.size rec.digest (resource_name c) (λ id. has_resource c id ≡ true) (resource_names_apart c s)) (all_known c s leaves all ts are leaves all)
      (leaf_ids c s leaves all ts are ∙ with_leaves-is [] leaves))

  ran : (above : Path) → parent p ≡ Some above → grid_of end ≡ with_object g (user_name c user) above p (written None rec.size rec.digest rec.now (map (resource_name c) leaves))
  ran above is = (filed.grid access p empty has_listed).grid ∙ (λ i. record g {
    objects = put g.objects p (record { size = is_row.size i; digest = is_row.digest i; time = is_row.time i; replicas = replicas_are i });
    access = given_access i;
  })
    where
      given_access : with_new_item g (user_name c user) inside.above p ≡ elim (has g.objects p) [ true ↦ g.access | false ↦ with_new_item g (user_name c user) above p ]
      given_access =
          ap (λ (q : Path). with_new_item g (user_name c user) q p) (sym (above_same above is))
          ∙ sym (ap (λ b. elim b [ true ↦ g.access | false ↦ with_new_item g (user_name c user) above p ]) has_none)

  -- ---- what is drawn

  end_draws : Draws c (length tgs) end
  end_draws = record { numbers = refl; names = names; pending = refl; rules = refl; stores = refl }
    where
      names : (slot name : ℕ) (n : Naming) → name < v → Names end slot name n → (was : Naming) × Names c slot name was
      names slot name (by_replica y) low n = elim (filed.old_replicas y (in_of end.replicas y n.0)) [
        | inl was ↦ (by_replica y, (contains_of c.replicas y was, n.1, n.2))
        | inr new ↦ absurd (omega (arith, new, low, n.1))
      ]
      names slot name (by_orphan x) low n = elim (in_orphans tgs c.orphans v x (filed.old_orphans x (in_of end.orphans x n.0))) [
        | inl was ↦ (by_orphan x, (contains_of c.orphans x was, n.1, n.2))
        | inr new ↦ absurd (omega (arith, new, low, n.1))
      ]

  -- ---- all of it

  module _ (plan : Plan) (is : IsNewPlan c user o ts plan) where
    first : apply_all c plan.before ≡ Ok mid
    first = ap (apply_all c) is.before ∙ applied_begun c made tgs fits

    last : apply_all mid plan.after ≡ Ok end
    last = ap (apply_all mid) is.after ∙ applied_after

    files_are : plan.files ≡ files
    files_are = is.files ∙ ap (files_from v) (sym same_targets)

    count : length tgs ≡ length plan.files
    count = sym (ap length is.files ∙ length-files tgs v)

    -- its files may be copied from an older one of what is recorded
    module _ (from : OldFile) (size : from.size ≡ rec.size) (digest : from.digest ≡ rec.digest) (low : from.name < v) where
      its_digest : (body : Text) → HasDigest from.size from.digest body → HasDigest o.size o.digest body
      its_digest body has = record { size = has.size ∙ size ∙ sym is_row.size; digest = has.digest ∙ digest ∙ sym is_row.digest }

      some_files : places ≢ [] → plan.files ≢ []
      some_files some none = some (no_targets places v (sym files_are ∙ none))

      abbrev is_plan : IsCopyPlan c c c.stores plan from
      is_plan = record {
        mid = mid;
        end = end;
        first = first;
        then = last;
        spelled_first = is.spelled_first;
        spelled_then = is.spelled_then;
        slots = subst (λ (fs : List NewFile). All (λ f. f.slot < c.stores) fs) (sym is.files) (put_slots c tgs mid (applied_begun c made tgs fits) s c.stores refl);
        apart = subst AreNamedApart (sym is.files) (files_apart v tgs);
        other = λ a. omega (arith, not_below v tgs from.slot from.name (subst (λ (fs : List NewFile). IsAmong fs from.slot from.name) is.files a), low);
        begins = put_begins c tgs mid (applied_begun c made tgs fits);
        named = subst (λ (fs : List NewFile). (slot name : ℕ) → IsAmong fs slot name → IsNamed mid slot name) (sym is.files) (put_named c tgs mid (applied_begun c made tgs fits));
        ends = λ body has. subst (λ (fs : List NewFile). Turns fs body mid end) (sym files_are) (turns body (λ some. its_digest body (has (some_files some))));
      }

      pub copies_new : (above : Path) → parent p ≡ Some above
          → CopiesGrid c (with_object g (user_name c user) above p (written None rec.size rec.digest rec.now (map (resource_name c) leaves))) from plan
      copies_new above above_is = record {
        is_plan = is_plan;
        before = begun_grid c made tgs fits;
        ran = ran above above_is;
        drawn_first = subst (λ n. Draws c n mid) count (begun_draws c made tgs fits);
        drawn = subst (λ n. Draws c n end) count end_draws;
      }

  -- a file of what is recorded, older than all
  abbrev oldest : OldFile
  oldest = record { slot = 0; name = 0; number = 0; size = rec.size; digest = rec.digest }

  pub plans_new : (plan : Plan) → IsNewPlan c user o ts plan → PlansWriting c (user_name c user) p leaves rec plan
  plans_new plan is above body above_is has =
      subst (λ (f : Option Object). MakesGrid c (with_object g (user_name c user) above p (written f rec.size rec.digest rec.now (map (resource_name c) leaves))) body plan) (sym get_none)
      (makes_grid c (with_object g (user_name c user) above p (written None rec.size rec.digest rec.now (map (resource_name c) leaves))) oldest plan body has
      (copies_new plan is oldest refl refl (some_vault c made) above above_is))
