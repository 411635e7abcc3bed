-- The plan of an object that is written over, or gets more replicas.
use Rattle.std.proofs.Common.{◌≡◌, ◌⊎◌, inl, inr, ℕ, zero, suc, ◌+◌, ◌<◌, ◌≤◌, List, [], ◌∷◌, ◌++◌, Some, Ok, IsTrue, refl, sym, ap, ◌∙◌, subst, arith}
use Rattle.std.specs.Prelude.{◌≢◌, ◌==◌, All, find, map, slice_get}
use Rattle.std.specs.List.{AllByRecursion, Contains}
use Rattle.grid_model.specs.Digests.{HasDigest}
use Rattle.grid_model.specs.Names.{Text}
use Rattle.grid_model.specs.Rows.{Cat, object, object_cmp, with_row}
use Rattle.grid_model.specs.Applying.{apply, apply_all, object_fits}
use Rattle.grid_model.specs.Whole.{leaf_slot, IsNamed}
use Rattle.grid_model.specs.declared.deltas.Delta.{Delta}
use Rattle.grid_model.specs.declared.deltas.Delta.TheVariants as delta
use Rattle.grid_model.specs.declared.deltas.ObjectRow.{ObjectRow}
use Rattle.grid_model.specs.declared.deltas.OrphanRow.{OrphanRow}
use Rattle.grid_model.specs.declared.deltas.ReplicaRow.{ReplicaRow}
use Rattle.grid_model.specs.declared.plans.NewFile.{NewFile}
use Rattle.grid_model.specs.declared.plans.OldFile.{OldFile}
use Rattle.grid_model.specs.declared.plans.Plan.{Plan}
use Rattle.grid_vault.specs.Copying.{AreNamedApart}
use Rattle.grid_vault.specs.Vault.{IsAmong}
use Rattle.tables_laws.proofs.Rows.{IsIn, in_from_all}
use Rattle.tables_laws.proofs.Numbered.{put_found}
use Rattle.tables_laws.proofs.Sound.{IsSound, sound-apply_all, fits_so, ok-same, after_first}
use Rattle.file_laws.specs.Plans.{Turns, IsCopyPlan, IsPlan}
use Rattle.file_laws.specs.Puts.{Target, files_from, put_before}
use Rattle.file_laws.specs.Rewriting.{StoredReplica, NumberedTarget, targets_of, replicas_dropped, replicas_staled, replicas_placed, Rewriting, IsDropped, MayRewrite, LeavesNoneGood, IsRewriting}
use Rattle.file_laws.proofs.Members.{in_of}
use Rattle.file_laws.proofs.Puts.{AreThere, made_all, mid_same, mid_there, put_begins, put_named, put_slots}
use Rattle.file_laws.proofs.Turning.{turns_then, turns_self, turns_apply_all, turns_object}
use Rattle.file_laws.proofs.Fewer.{Fewer, Unmoved, fewer_then, HasKey, split_applied, unmoved-apply_all, slot_as}
use Rattle.file_laws.proofs.Dropping.{IsHeldBy, Dropped, drop_all}
use Rattle.file_laws.proofs.Staling.{HasItsFile, Staled, stale_all}
use Rattle.file_laws.proofs.Placing.{AreFree, numbered_as, place_all}

-- the object's row is as it is to be, and the rows that name files are as before
pub record RowDone (made : List NewFile) (body : Text) (o : ObjectRow) (c d : Cat) : Type 0 where
  pub turns : Turns made body c d
  pub found : object d o.id ≡ Some o
  pub replicas : d.replicas ≡ c.replicas
  pub orphans : d.orphans ≡ c.orphans
  pub resources : d.resources ≡ c.resources

-- one that goes has its slot
gone_of : (stored : List StoredReplica) (r : ReplicaRow) → IsIn (map (λ (s : StoredReplica). s.row) stored) r → (s : StoredReplica) × IsIn stored s × (s.row ≡ r)
gone_of [] r none = absurd none
gone_of (s ∷ stored) r (inl is) = (s, inl refl, is)
gone_of (s ∷ stored) r (inr later) = let its = gone_of stored r later in (its.0, inr its.1, its.2)

module _ (c : Cat) (s : IsSound c) (o : ObjectRow) (w : Rewriting) (may : MayRewrite c o w) (body : Text) (row : List Delta) (mid end : Cat)
    (first : apply_all c (put_before c (targets_of w.targets) ++ w.early) ≡ Ok mid)
    (then : apply_all mid (replicas_dropped w.dropped ++ (replicas_staled w.staled ++ (row ++ (w.between ++ (replicas_placed o c.numbers.next_vault w.targets ++ w.late))))) ≡ Ok end) where
  abbrev v : ℕ
  v = c.numbers.next_vault

  abbrev ts : List Target
  ts = targets_of w.targets

  abbrev files : List NewFile
  files = files_from v ts

  -- ---- before

  begun : (e : Cat) × (apply_all c (put_before c ts) ≡ Ok e) × (apply_all e w.early ≡ Ok mid)
  begun = split_applied (put_before c ts) w.early c mid first

  early : Unmoved begun.0 mid
  early = unmoved-apply_all w.early begun.0 mid may.early begun.2

  begins : Turns [] [] c mid
  begins = turns_then [] [] c begun.0 mid (put_begins c ts begun.0 begun.1) (turns_apply_all [] [] w.early begun.0 mid may.early begun.2)

  named : (slot name : ℕ) → IsAmong files slot name → IsNamed mid slot name
  named slot name a = (turns_apply_all [] [] w.early begun.0 mid may.early begun.2).named slot name (put_named c ts begun.0 begun.1 slot name a)

  pub slots : All (λ f. f.slot < c.stores) files
  slots = put_slots c ts begun.0 begun.1 s c.stores refl

  sound_mid : IsSound mid
  sound_mid = sound-apply_all (put_before c ts ++ w.early) c mid s first

  pub same_objects : mid.objects ≡ c.objects
  same_objects = early.objects ∙ (mid_same c ts begun.0 begun.1).objects

  pub same_replicas : mid.replicas ≡ c.replicas
  same_replicas = early.replicas ∙ (mid_same c ts begun.0 begun.1).replicas

  same_resources : mid.resources ≡ c.resources
  same_resources = early.resources ∙ (mid_same c ts begun.0 begun.1).resources

  there : AreThere v ts mid.orphans
  there = let P : List OrphanRow → Type 0 = λ rows. AreThere v ts rows in subst P (sym early.orphans) (mid_there c ts begun.0 begun.1)

  to_mid : (r : ReplicaRow) → IsIn c.replicas r → IsIn mid.replicas r
  to_mid r here = let P : List ReplicaRow → Type 0 = λ rows. IsIn rows r in subst P (sym same_replicas) here

  pub from_mid : (r : ReplicaRow) → IsIn mid.replicas r → IsIn c.replicas r
  from_mid r here = let P : List ReplicaRow → Type 0 = λ rows. IsIn rows r in subst P same_replicas here

  -- ---- after

  pub one : (e : Cat) × (apply_all mid (replicas_dropped w.dropped) ≡ Ok e) × (apply_all e (replicas_staled w.staled ++ (row ++ (w.between ++ (replicas_placed o v w.targets ++ w.late)))) ≡ Ok end)
  one = split_applied (replicas_dropped w.dropped) (replicas_staled w.staled ++ (row ++ (w.between ++ (replicas_placed o v w.targets ++ w.late)))) mid end then

  held : (f : StoredReplica) → IsIn w.dropped f → IsHeldBy mid f
  held f here =
      let its = in_from_all (λ (s : StoredReplica). Contains c.replicas s.row × (leaf_slot c s.row.leaf ≡ Some s.slot)) w.dropped may.dropped f here in
      record { here = inl (to_mid f.row (in_of c.replicas f.row its.0)); slot_is = slot_as c mid same_resources f.row.leaf ∙ its.1 }

  gone : Turns files body mid one.0 × Dropped mid w.dropped one.0
  gone = drop_all files body w.dropped mid one.0 sound_mid held one.1

  pub two : (e : Cat) × (apply_all one.0 (replicas_staled w.staled) ≡ Ok e) × (apply_all e (row ++ (w.between ++ (replicas_placed o v w.targets ++ w.late))) ≡ Ok end)
  two = split_applied (replicas_staled w.staled) (row ++ (w.between ++ (replicas_placed o v w.targets ++ w.late))) one.0 end one.2

  has_file : (r : ReplicaRow) → IsIn w.staled r → HasItsFile one.0 r
  has_file r here = record {
    here = elim (gone.1.stays r (to_mid r (in_of c.replicas r (in_from_all (λ (x : ReplicaRow). Contains c.replicas x) w.staled may.staled r here)))) [
      | inl stays ↦ inl (r, stays, (refl, refl), refl, refl)
      | inr orphan ↦ inr orphan
    ];
  }

  stale : Turns files body one.0 two.0 × Staled one.0 w.staled two.0
  stale = stale_all files body w.staled one.0 two.0 gone.1.sound has_file two.1

  pub three : (e : Cat) × (apply_all two.0 row ≡ Ok e) × (apply_all e (w.between ++ (replicas_placed o v w.targets ++ w.late)) ≡ Ok end)
  three = split_applied row (w.between ++ (replicas_placed o v w.targets ++ w.late)) two.0 end two.2

  pub fewer : Fewer mid two.0
  fewer = fewer_then mid one.0 two.0 gone.1.fewer stale.1.fewer

  -- a replica of a key that goes is not there
  gone_two : (r : ReplicaRow) → IsDropped w r → (q : ReplicaRow) → IsIn two.0.replicas q → HasKey q r.object r.number → ⊥
  gone_two r goes q here key =
      let f = gone_of w.dropped r (in_of (map (λ (s : StoredReplica). s.row) w.dropped) r goes) in
      let was = stale.1.fewer.keys q here in
      gone.1.gone f.0 f.1 was.0 was.1 (was.2.0 ∙ key.0 ∙ ap (λ (x : ReplicaRow). x.object) (sym f.2), was.2.1 ∙ key.1 ∙ ap (λ (x : ReplicaRow). x.number) (sym f.2))

  free : AreFree two.0 o w.targets
  free q here its =
      let was = fewer.keys q here in
      let N : ℕ → Type 0 = λ n. AllByRecursion (λ (t : NumberedTarget). t.number ≢ n) w.targets in
      elim (in_from_all (λ (r : ReplicaRow). r.object ≡ o.id → IsDropped w r ⊎ AllByRecursion (λ (t : NumberedTarget). t.number ≢ r.number) w.targets) c.replicas may.free was.0 (from_mid was.0 was.1) (was.2.0 ∙ its)) [
        | inl goes ↦ absurd (gone_two was.0 goes q here (sym was.2.0, sym was.2.1))
        | inr other ↦ subst N was.2.1 other
      ]

  -- no good replica of the object is left
  pub none_good : LeavesNoneGood c o w → (q : ReplicaRow) → IsIn two.0.replicas q → IsTrue q.good → q.object ≡ o.id → ⊥
  none_good leaves q here is its =
      elim (in_from_all (λ (r : ReplicaRow). r.object ≡ o.id → IsTrue r.good → IsDropped w r ⊎ Contains w.staled r) c.replicas leaves q (from_mid q (fewer.good q here is)) its is) [
        | inl goes ↦ gone_two q goes q here (refl, refl)
        | inr staled ↦ stale.1.stale q (in_of w.staled q staled) q here is (refl, refl)
      ]

  module _ (has : w.targets ≢ [] → HasDigest o.size o.digest body) (done : RowDone files body o two.0 three.0) where
    four : (e : Cat) × (apply_all three.0 w.between ≡ Ok e) × (apply_all e (replicas_placed o v w.targets ++ w.late) ≡ Ok end)
    four = split_applied w.between (replicas_placed o v w.targets ++ w.late) three.0 end three.2

    between : Unmoved three.0 four.0
    between = unmoved-apply_all w.between three.0 four.0 may.between four.1

    five : (e : Cat) × (apply_all four.0 (replicas_placed o v w.targets) ≡ Ok e) × (apply_all e w.late ≡ Ok end)
    five = split_applied (replicas_placed o v w.targets) w.late four.0 end four.2

    sound_four : IsSound four.0
    sound_four = sound-apply_all w.between three.0 four.0 (sound-apply_all row two.0 three.0 stale.1.sound three.1) four.1

    there_two : (us : List Target) (n : ℕ) → AreThere n us mid.orphans → AreThere n us two.0.orphans
    there_two [] n all = tt
    there_two (u ∷ us) n all = (fewer.orphans (record { vault = n; slot = u.slot }) all.0, there_two us (n + 1) all.1)

    there_four : AreThere v ts four.0.orphans
    there_four = let P : List OrphanRow → Type 0 = λ rows. AreThere v ts rows in subst P (sym (between.orphans ∙ done.orphans)) (there_two ts v there)

    free_four : AreFree four.0 o w.targets
    free_four = let P : List ReplicaRow → Type 0 = λ rows. (r : ReplicaRow) → IsIn rows r → r.object ≡ o.id → AllByRecursion (λ (t : NumberedTarget). t.number ≢ r.number) w.targets in subst P (sym (between.replicas ∙ done.replicas)) free

    found_four : object four.0 o.id ≡ Some o
    found_four = ap (λ (rows : List ObjectRow). find (λ (r : ObjectRow). r.id == o.id) rows) between.objects ∙ done.found

    placed : Turns files body four.0 five.0
    placed = place_all files body o w.targets has v four.0 five.0 sound_four there_four (made_all ts v) (numbered_as c four.0 (between.resources ∙ done.resources ∙ fewer.resources ∙ same_resources) w.targets may.targets) found_four free_four five.1

    ends : Turns files body mid end
    ends =
        turns_then files body mid one.0 end gone.0
        (turns_then files body one.0 two.0 end stale.0
        (turns_then files body two.0 three.0 end done.turns
        (turns_then files body three.0 four.0 end (turns_apply_all files body w.between three.0 four.0 may.between four.1)
        (turns_then files body four.0 five.0 end placed (turns_apply_all files body w.late five.0 end may.late five.2)))))

    pub rewriting_plan : (plan : Plan) → IsRewriting c o row w plan → IsPlan c c c.stores plan body
    rewriting_plan plan is =
        let N : List NewFile → Type 0 = λ fs. (slot name : ℕ) → IsAmong fs slot name → IsNamed mid slot name in
        let T : List NewFile → Type 0 = λ fs. Turns fs body mid end in
        let S : List NewFile → Type 0 = λ fs. All (λ f. f.slot < c.stores) fs in
        record {
          mid = mid;
          end = end;
          first = ap (apply_all c) is.before ∙ first;
          then = ap (apply_all mid) is.after ∙ then;
          spelled_first = is.spelled_first;
          spelled_then = is.spelled_then;
          slots = subst S (sym is.files) slots;
          begins = begins;
          named = subst N (sym is.files) named;
          ends = subst T (sym is.files) ends;
        }

-- the object's row is put: no good replica of it is left
pub written_over : (c : Cat) (s : IsSound c) (o : ObjectRow) (w : Rewriting) (may : MayRewrite c o w) → LeavesNoneGood c o w → (body : Text) → HasDigest o.size o.digest body → (mid end : Cat) (plan : Plan)
    → IsRewriting c o (delta.Object o ∷ []) w plan → apply_all c plan.before ≡ Ok mid → apply_all mid plan.after ≡ Ok end → IsPlan c c c.stores plan body
written_over c s o w may leaves body has mid end plan is first then =
    rewriting_plan c s o w may body (delta.Object o ∷ []) mid end begins ends (λ some. has) done plan is
  where
    begins : apply_all c (put_before c (targets_of w.targets) ++ w.early) ≡ Ok mid
    begins = ap (apply_all c) (sym is.before) ∙ first

    ends : apply_all mid (replicas_dropped w.dropped ++ (replicas_staled w.staled ++ (delta.Object o ∷ (w.between ++ (replicas_placed o c.numbers.next_vault w.targets ++ w.late))))) ≡ Ok end
    ends = ap (apply_all mid) (sym is.after) ∙ then

    stale_at : Cat
    stale_at = (two c s o w may body (delta.Object o ∷ []) mid end begins ends).0

    row : (e : Cat) × (apply_all stale_at (delta.Object o ∷ []) ≡ Ok e) × (apply_all e (w.between ++ (replicas_placed o c.numbers.next_vault w.targets ++ w.late)) ≡ Ok end)
    row = three c s o w may body (delta.Object o ∷ []) mid end begins ends

    put : (e : Cat) × (apply stale_at (delta.Object o) ≡ Ok e) × (apply_all e [] ≡ Ok row.0)
    put = after_first (apply stale_at (delta.Object o)) [] row.0 row.1

    is_row : record stale_at { objects = with_row object_cmp stale_at.objects o } ≡ row.0
    is_row = (fits_so (object_fits stale_at o) 7 (record stale_at { objects = with_row object_cmp stale_at.objects o }) put.0 put.1).1 ∙ ok-same put.0 row.0 (apply_all put.0 []) refl put.2

    done : RowDone (files_from c.numbers.next_vault (targets_of w.targets)) body o stale_at row.0
    done =
        let P : Cat → Type 0 = λ x. RowDone (files_from c.numbers.next_vault (targets_of w.targets)) body o stale_at x in
        subst P is_row (record {
          turns = turns_object (files_from c.numbers.next_vault (targets_of w.targets)) body stale_at o (λ r here good its. absurd (none_good c s o w may body (delta.Object o ∷ []) mid end begins ends leaves r here good its));
          found = put_found (λ (x : ObjectRow). x.id) stale_at.objects o;
          replicas = refl;
          orphans = refl;
          resources = refl;
        })

-- ---- the files of the targets

-- a file's name is that of its place
name_at : (ts : List Target) (v i : ℕ) (f : NewFile) → slice_get (files_from v ts) i ≡ Some f → f.name ≡ v + i
name_at [] v i f is = absurd cc
name_at (t ∷ ts) v zero f is = let same : record { slot = t.slot; name = v } ≡ f = cc in omega (arith, ap (λ (x : NewFile). x.name) same)
name_at (t ∷ ts) v (suc i) f is = omega (arith, name_at ts (v + 1) i f is)

files_apart : (v : ℕ) (ts : List Target) → AreNamedApart (files_from v ts)
files_apart v ts i j f g at_i at_j same = omega (arith, name_at ts v i f at_i, name_at ts v j g at_j, same)

not_below : (v : ℕ) (ts : List Target) (slot name : ℕ) → IsAmong (files_from v ts) slot name → v ≤ name
not_below v ts slot name a = omega (arith, name_at ts v a.place a.file a.is, a.name_is)

some_files : (ts : List NumberedTarget) (v : ℕ) → ts ≢ [] → files_from v (targets_of ts) ≢ []
some_files [] v some = absurd (some refl)
some_files (t ∷ ts) v some = λ e. absurd cc

-- ---- more replicas

-- the object's row stays
module _ (c : Cat) (s : IsSound c) (o : ObjectRow) (w : Rewriting) (may : MayRewrite c o w) (found : object c o.id ≡ Some o) (mid end : Cat) (plan : Plan) (is : IsRewriting c o [] w plan)
    (first : apply_all c plan.before ≡ Ok mid) (then : apply_all mid plan.after ≡ Ok end) where
  begins_so : apply_all c (put_before c (targets_of w.targets) ++ w.early) ≡ Ok mid
  begins_so = ap (apply_all c) (sym is.before) ∙ first

  ends_so : apply_all mid (replicas_dropped w.dropped ++ (replicas_staled w.staled ++ (w.between ++ (replicas_placed o c.numbers.next_vault w.targets ++ w.late)))) ≡ Ok end
  ends_so = ap (apply_all mid) (sym is.after) ∙ then

  abbrev stale_at : Text → Cat
  stale_at body = (two c s o w may body [] mid end begins_so ends_so).0

  still : (body : Text) → object (stale_at body) o.id ≡ Some o
  still body = ap (λ (rows : List ObjectRow). find (λ (r : ObjectRow). r.id == o.id) rows) ((fewer c s o w may body [] mid end begins_so ends_so).objects ∙ same_objects c s o w may body [] mid end begins_so ends_so) ∙ found

  abbrev row_so : (body : Text) → (e : Cat) × (apply_all (stale_at body) [] ≡ Ok e) × (apply_all e (w.between ++ (replicas_placed o c.numbers.next_vault w.targets ++ w.late)) ≡ Ok end)
  row_so body = three c s o w may body [] mid end begins_so ends_so

  done_so : (body : Text) → RowDone (files_from c.numbers.next_vault (targets_of w.targets)) body o (stale_at body) (row_so body).0
  done_so body =
      let P : Cat → Type 0 = λ x. RowDone (files_from c.numbers.next_vault (targets_of w.targets)) body o (stale_at body) x in
      subst P (ok-same (stale_at body) (row_so body).0 (apply_all (stale_at body) []) refl (row_so body).1) (record { turns = turns_self (files_from c.numbers.next_vault (targets_of w.targets)) body (stale_at body); found = still body; replicas = refl; orphans = refl; resources = refl })

  pub replicated : (body : Text) → HasDigest o.size o.digest body → IsPlan c c c.stores plan body
  replicated body has = rewriting_plan c s o w may body [] mid end begins_so ends_so (λ some. has) (done_so body) plan is

  -- its files are new, so none is the one that they are copied from
  pub copied : (from : OldFile) → from.size ≡ o.size → from.digest ≡ o.digest → from.name < c.numbers.next_vault → IsCopyPlan c c c.stores plan from
  copied from size digest old = record {
    mid = mid;
    end = end;
    first = first;
    then = then;
    spelled_first = is.spelled_first;
    spelled_then = is.spelled_then;
    slots = subst S (sym is.files) (slots c s o w may [] [] mid end begins_so ends_so);
    apart = subst AreNamedApart (sym is.files) (files_apart c.numbers.next_vault (targets_of w.targets));
    other = λ a. let its = subst A is.files a in omega (arith, not_below c.numbers.next_vault (targets_of w.targets) from.slot from.name its, old);
    begins = begins c s o w may [] [] mid end begins_so ends_so;
    named = subst N (sym is.files) (named c s o w may [] [] mid end begins_so ends_so);
    ends = λ body has. subst (λ (fs : List NewFile). Turns fs body mid end) (sym is.files)
        (ends c s o w may body [] mid end begins_so ends_so (λ some. has_so body (has (λ none. some_files w.targets c.numbers.next_vault some (sym is.files ∙ none)))) (done_so body));
  }
    where
      S : List NewFile → Type 0
      S fs = All (λ f. f.slot < c.stores) fs

      A : List NewFile → Type 0
      A fs = IsAmong fs from.slot from.name

      N : List NewFile → Type 0
      N fs = (slot name : ℕ) → IsAmong fs slot name → IsNamed mid slot name

      has_so : (body : Text) → HasDigest from.size from.digest body → HasDigest o.size o.digest body
      has_so body its = subst (λ n. HasDigest n o.digest body) size (subst (λ d. HasDigest from.size d body) digest its)
