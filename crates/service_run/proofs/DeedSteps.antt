-- How a deed ends that copies a file, by how its plan was carried out.
use Rattle.std.proofs.Common.{◌≡◌, ◌⊎◌, inl, inr, ℕ, ◌<◌, ◌≤◌, Bool, true, [], ◌∷◌, ◌++◌, length, List, None, Some, Ok, Err, IsTrue, refl, sym, ap, ◌∙◌, subst, arith}
use Rattle.std.specs.Prelude.{All, IfOk, Result, ⊤, ◌≢◌, Option}
use Rattle.std.specs.List.{Contains}
use Rattle.std.proofs.lemmas.List.{append-nil}
use Rattle.grid_outside.specs.Ambient.{AmbientState, GivesTime, GivesWord}
use Rattle.grid_outside.specs.Device.{IsSettled, EachMember, EachPair, Looks}
use Rattle.grid_outside.specs.Disk.{DiskState}
use Rattle.grid_outside.specs.Files.{StoreState}
use Rattle.grid_outside.specs.Source.{SourceState}
use Rattle.grid_outside.specs.Sink.{SinkState}
use Rattle.grid_outside.specs.declared.outside.Outside.{Outside}
use Rattle.grid_outside.specs.declared.outside.Wear.{Wear}
use Rattle.grid_outside.proofs.Spans.{at_place, same_place}
use Rattle.grid_model.specs.Names.{Text, Path}
use Rattle.grid_model.specs.Grid.{Grid}
use Rattle.grid_model.specs.Rows.{Cat, object}
use Rattle.grid_model.specs.RowGrids.{grid_of, user_name}
use Rattle.grid_model.specs.Applying.{is_user}
use Rattle.grid_model.specs.Whole.{HasGoodRows, IsLikeObject}
use Rattle.grid_model.specs.Deeds.{Act, Deed, deed, differs, fault_fits, fits}
use Rattle.grid_model.specs.Doing.{Course, Did, did_fail, did_well, take_mark, taking, where_mark_fits}
use Rattle.grid_model.specs.Meanings.{Meaning, gives}
use Rattle.grid_model.specs.Refusing.{Or}
use Rattle.grid_model.specs.Replies.{mark_line}
use Rattle.grid_model.specs.declared.calls.Call.{Call}
use Rattle.grid_model.specs.declared.deltas.Numbers.{Numbers}
use Rattle.grid_model.specs.declared.deltas.ObjectRow.{ObjectRow}
use Rattle.grid_model.specs.declared.deltas.Pending.{Pending}
use Rattle.grid_model.specs.declared.deltas.ReplicaRow.{ReplicaRow}
use Rattle.grid_model.specs.declared.marks.Mark.{Mark}
use Rattle.grid_model.specs.declared.marks.Mark.TheVariants as mark
use Rattle.grid_model.specs.declared.plans.NewFile.{NewFile}
use Rattle.grid_model.specs.declared.plans.OldFile.{OldFile}
use Rattle.grid_model.specs.declared.plans.Plan.{Plan}
use Rattle.grid_model.specs.declared.refusal.Failure.{Failure}
use Rattle.grid_model.specs.declared.refusal.Failure.TheVariants.{Refused}
use Rattle.grid_model.specs.declared.refusal.Refusal.TheVariants as refusal
use Rattle.grid_journal.specs.Journal.{Journal}
use Rattle.grid_journal.specs.Stands.{StandsEither}
use Rattle.grid_vault.specs.Copying.{Copies}
use Rattle.grid_vault.specs.Vault.{HasSlot}
use Rattle.grid_vault.specs.declared.reading.Found.{Found}
use Rattle.grid_vault.proofs.Writing.{all_at}
use Rattle.file_laws.specs.Plans.{IsCopyPlan, Turns}
use Rattle.file_laws.proofs.Members.{in_of}
use Rattle.tables_laws.proofs.Rows.{in_from_all}
use Rattle.grid_deed.specs.Deeds.{CopySays}
use Rattle.grid_deed.specs.Frame.{StoresGo}
use Rattle.grid_deed.specs.Held.{IsHeld}
use Rattle.grid_deed.specs.Safe.{AreWhole, KeepBothWhole}
use Rattle.grid_deed.specs.declared.copying.Copied.{Copied}
use Rattle.grid_deed.specs.declared.copying.Copied.TheVariants as copied
use Rattle.grid_deed.proofs.Wholes.{whole_turned_none}
use Rattle.grid_headline.specs.Causes.{AreCaused}
use Rattle.grid_headline.specs.Files.{KeepsNamed}
use Rattle.grid_headline.specs.Numbers.{leaf_count}
use Rattle.grid_headline.specs.Worlds.{World}
use Rattle.count_laws.specs.GivenNumbers.{GivesFew}
use Rattle.count_laws.proofs.GivenNumbers.{gives_alike, gives_behind, gives_drawn, gives_planned}
use Rattle.chain_run.specs.Places.{course_at}
use Rattle.plan_object.specs.CopyPlans.{MayCopy}
use Rattle.plan_object.specs.ReplPlans.{CopiesFile, MayRepl}
use Rattle.plan_object.specs.Sending.{ReadsFirst, Sends}
use Rattle.plan_object.specs.Writing.{Draws}
use Rattle.run_laws.specs.Around.{around}
use Rattle.run_laws.specs.Passes.{Seen}
use Rattle.run_laws.specs.Steps.{Gave, IsToldOf}
use Rattle.run_laws.proofs.OneMark.{caused_fault, caused_none, gave_ran, gave_untold}
use Rattle.run_laws.proofs.Users.{KeepsUsers, users_apply_all, users_same, users_then}
use Rattle.size_laws.specs.Within.{IsWithin}
use Rattle.service_run.specs.declared.command.Command.{Command}
use Rattle.service_run.specs.declared.ending.Ending.{Ending}
use Rattle.service_run.specs.declared.ending.Ending.TheVariants as ending
use Rattle.service_run.specs.Changes.{mark_fits, with_mark}
use Rattle.service_run.specs.Commands.{IsNoted, KeepsBeside, WaitsAt, noted_in, place_by}
use Rattle.service_run.specs.Copying.{IsCopiedMarked, IsCopiedNoted, copied_mark, copied_ran}
use Rattle.service_run.specs.Noting.{NoteLeaves, OneOfNote, unnoted, noted, IsOutOfRoom, with_pending}
use Rattle.service_run.specs.Steps.{ComesTo, IsKnownBy, IsStep, IsStepDone, IsWornSo, LeavesMain, OneOfStep, StepEnds, in_call, left_so, noted_so, unseen}
use Rattle.service_run.proofs.NamedFiles.{IsNamedFile, differs_so, not_known}
use Rattle.service_run.proofs.SameRows.{grid_pending, names_pending, turns_pending}
use Rattle.service_run.proofs.StillSteps.{one_fits}

-- ---- the file that is copied

-- where its object has this row
like_object : (c : Cat) (row : ReplicaRow) (o : ObjectRow) → Contains c.replicas row → IsTrue row.good → object c row.object ≡ Some o → HasGoodRows c → (row.size ≡ o.size) × (row.digest ≡ o.digest)
like_object c row o there good of_object rows =
    let like = in_from_all (λ (r : ReplicaRow). IsTrue r.good → IsLikeObject c r) c.replicas rows row (in_of c.replicas row there) good in
    let both : Some like.row ≡ Some o = sym like.there ∙ of_object in
    let same : like.row ≡ o = cc in
    (like.size ∙ ap (λ (r : ObjectRow). r.size) same, like.digest ∙ ap (λ (r : ObjectRow). r.digest) same)

-- the first one that can be read of an object is one that the rows name
first_named : (c : Cat) (o : ObjectRow) (asked : Option Text) (file : OldFile) → object c o.id ≡ Some o → ReadsFirst c o asked file → IsNamedFile c file
first_named c o asked file found s = record {
  row = s.row;
  there = s.there;
  good = s.good;
  vault_is = s.vault_is;
  slot_is = s.slot_is;
  like = λ rows.
      let of_it = like_object c s.row o s.there s.good (ap (object c) s.of_object ∙ found) rows in
      (of_it.0 ∙ sym s.size, of_it.1 ∙ sym s.digest);
}

-- that of a repl
pub repl_named : (c : Cat) (user : Text) (path : Path) (resource : Text) (file : OldFile) → MayRepl c user path resource file → IsNamedFile c file
repl_named c user path resource file may = first_named c may.object_row None file may.found may.reads

-- the one that a get reads is such a one
sent_named : (c : Cat) (user : Text) (path : Path) (asked : Option Text) (file : OldFile) → Sends c user path asked file → IsNamedFile c file
sent_named c user path asked file s = record {
  row = s.row;
  there = s.there;
  good = s.good;
  vault_is = s.vault_is;
  slot_is = s.slot_is;
  like = λ rows.
      let of_it = like_object c s.row s.object_row s.there s.good s.of_object rows in
      (of_it.0 ∙ sym s.size_row, of_it.1 ∙ sym s.digest_row);
}

-- that of a copy
pub copy_named : (c : Cat) (user : Text) (from to : Path) (resource : Text) (file : OldFile) → MayCopy c user from to resource file → IsNamedFile c file
copy_named c user from to resource file may = sent_named c user from None file may.reads

-- stores that were not called
pub looks_same : {B : Type 0} (state : B → StoreState) (stores : List B) → EachPair (λ i before after. Looks (state before) (state after)) stores stores
looks_same state stores i before after was is =
    let Q : _ → Type 0 = λ b. Looks (state before) (state b) in
    subst Q (sym (same_place stores i before after was is)) (record { last = refl; tells = refl; holds = λ told. refl; left = λ t image. (λ x. x, λ x. x) })

-- what holds of a plan holds of it where it comes back
pub if_same : {E : Type 0} (P : Plan → Type 0) (plan : Plan) (result : Result Plan E) → IfOk result (λ same. same ≡ plan) → P plan → IfOk result P
if_same P plan (Ok same) is holds = subst P (sym is) holds
if_same P plan (Err e) is holds = tt

-- the same plan, where the stores are counted otherwise
abbrev pub copy_plan_as : (c : Cat) (plan : Plan) (stores count : ℕ) (from : OldFile) → stores ≡ count → IsCopyPlan c c stores plan from → IsCopyPlan c c count plan from
copy_plan_as c plan stores count from same p = record {
  mid = p.mid;
  end = p.end;
  first = p.first;
  then = p.then;
  spelled_first = p.spelled_first;
  spelled_then = p.spelled_then;
  slots = (let S : ℕ → Type 0 = λ k. All (λ (f : NewFile). f.slot < k) plan.files in subst S same p.slots);
  apart = p.apart;
  other = p.other;
  begins = p.begins;
  named = p.named;
  ends = p.ends;
}

-- ---- a deed of a call that was noted

module _ {B : Type 0} (old new : World B) (kept : Cat) (rows : Journal) (x : Command) (call : Call) (undo : List Call) (d : Deed) (mid : Cat) (its_note : IsNoted rows.cat x call undo mid) where
  abbrev pub does : Course → Meaning Did
  does s = take_mark call s d s.marks

  waits_there : WaitsAt does (place_by rows.cat x) call
  waits_there begun = (refl, refl)

  -- a stop in it leaves it waiting
  one_of : (shown main sink : Text) → OneOfNote kept mid x.untold shown main sink → OneOfStep does kept rows.cat x call undo shown main sink
  one_of shown main sink (unnoted stands same) = unseen stands same
  one_of shown main sink (noted stands part) = in_call mid its_note waits_there stands part

  -- of main alone
  leaves_one : (main : Text) → StandsEither kept mid main → LeavesMain kept rows.cat x call undo main
  leaves_one main (inl stands) = left_so stands
  leaves_one main (inr stands) = noted_so mid its_note stands

  -- how it ended is to be said beside what the note leaves
  pub step_noted : NoteLeaves old.main new.main old.sink new.sink kept mid old.moments x.untold → (IsTrue new.ambient.tells → Gave [] old.ambient new.ambient) → KeepBothWhole old.plugin old.moments kept rows.cat old.main new.main old.stores new.stores
      → (y : Command) (after : Journal) (result : Result (Result ⊤ Failure) Ending) → StepEnds old new kept rows x call undo y after does result → IsStep old new kept rows x call undo y after does result
  step_noted leaves asked whole y after result ends = record {
    ends = ends;
    asked = asked;
    shown = leaves.shown;
    main = λ told settled t main late left. leaves_one main (leaves.main told settled t main late left);
    images = λ told sink_told settled sink_settled t main sink late left sink_left.
        one_of old.sink.holds main sink (leaves.images told sink_told settled sink_settled t main sink late left sink_left);
    whole = whole;
  }

  -- how it came out of room
  pub worn_of : (y : Command) (after : Journal) (e : Ending) → IsOutOfRoom old.main new.main old.sink new.sink e → IsWornSo old new kept rows x call undo y after e
  worn_of y after ending.Disk out = tt
  worn_of y after ending.Sink out = tt
  worn_of y after ending.Memory out = tt
  worn_of y after (ending.Worn what place) out =
      let W : Wear → Type 0 = λ v. IsWornSo old new kept rows x call undo y after (ending.Worn v place) in
      subst W (sym out.0) (out.1, out.2)

  -- what the mark is behind
  abbrev told : Command
  told = record x { untold = [] }

  -- one mark was taken
  module _ (m : Mark) (after : Journal) (ran : Result ⊤ Failure)
      (did : (more : List Mark) (begun : ℕ) (stopped : Bool) → ComesTo does ran (course_at (place_by rows.cat x) (m ∷ more) begun stopped) (course_at (place_by after.cat (with_mark told m)) more begun stopped))
      (user : user_name after.cat x.user ≡ user_name rows.cat x.user) (beside : KeepsBeside rows.cat after.cat 1) (spelled : IsTrue (mark_fits m)) (pending : after.cat.pending ≡ Some (noted_in x call undo))
      (numbers : after.cat.numbers ≡ mid.numbers) (held : IsHeld mid new.main after)
      (settled : IsTrue old.main.tells → IsSettled new.main) (sink_told : IsTrue old.sink.tells → new.sink.holds ≡ old.sink.holds ++ x.untold) (sink_settled : IsTrue old.sink.tells → IsSettled old.sink → IsSettled new.sink)
      (told_of : IsToldOf (IsKnownBy old rows.cat) (length old.stores) m) (caused : AreCaused old new (m ∷ [])) (gave : IsTrue new.ambient.tells → Gave (m ∷ []) old.ambient new.ambient)
      (whole : ((t : ℕ) → old.moments < t → AreWhole old.plugin t rows.cat old.stores) → IsTrue old.main.tells → (t : ℕ) → new.moments < t → AreWhole new.plugin t after.cat new.stores) where
    pub step_done : IsStepDone old new kept rows x call undo (with_mark told m) after does ran
    step_done = record {
      did = record { user = user; marks = m ∷ []; taken = refl; did = λ more begun stopped. (stopped, did more begun stopped) };
      beside = beside;
      marks = m ∷ [];
      marks_are = refl;
      rest = refl;
      spelled = one_fits m spelled;
      is_kept = inr (record {
        cat = mid;
        noted = its_note;
        waits = waits_there;
        pending = pending;
        numbers = numbers;
        held = held;
        settled = settled;
        sink = sink_told;
        sink_settled = sink_settled;
        untold = sym (append-nil (mark_line x.number m));
      });
      told_of = (told_of, tt);
      caused = caused;
      gave = gave;
      whole = λ by_kept by_memory main_told main_settled. whole by_memory main_told;
    }

-- ---- the rows of a command that is noted

module _ (c : Cat) (x : Command) (call : Call) (undo : List Call) (c1 : Cat) (c1_is : c1 ≡ with_pending c (noted_in x call undo)) where
  abbrev p : Pending
  p = noted_in x call undo

  pub grid_before : grid_of c1 ≡ grid_of c
  grid_before = ap grid_of c1_is ∙ grid_pending c p

  pub turns_before : IsTrue (is_user c x.user) → Turns [] [] c c1
  turns_before user = let T : Cat → Type 0 = λ e. Turns [] [] c e in subst T (sym c1_is) (turns_pending c p user)

  users_before : KeepsUsers c c1
  users_before = users_same c c1 (ap (λ (e : Cat). e.users) c1_is)

  gives_noted : GivesFew c c1 0
  gives_noted = gives_alike c c1 (ap (λ (e : Cat). e.resources) c1_is) (ap (λ (e : Cat). e.numbers.next_vault) c1_is)

  module _ (files : ℕ) (d : Cat) (draws : Draws c1 files d) (users : KeepsUsers c1 d) where
    draws_since : Draws (with_pending c p) files d
    draws_since = let D : Cat → Type 0 = λ e. Draws e files d in subst D c1_is draws

    pub pending_since : d.pending ≡ Some (noted_in x call undo)
    pending_since = draws_since.pending

    pub beside_since : IsTrue (is_user c x.user) → KeepsNamed c1 d → GivesFew c1 d 1 → (IsWithin (grid_of c) → IsWithin (grid_of d)) → KeepsBeside c d 1
    beside_since user named few within =
        let all = users_then c c1 d users_before users in
        let s = draws_since in
        record {
          run = ap (λ (k : Numbers). k.run) s.numbers;
          last = ap (λ (k : Numbers). k.last) s.numbers;
          rules = s.rules;
          stores = s.stores;
          keeps = record {
            rises = omega (arith, ap (λ (k : Numbers). k.next_vault) s.numbers);
            names = λ slot name row before named. (let was = s.names slot name row before named in (was.0, names_pending c p slot name was.0 was.1));
          };
          few = gives_behind gives_noted few;
          named = λ slot name is. named slot name ((turns_before user).named slot name is);
          within = within;
          users = all.there;
          names = all.names;
        }

-- ---- the deed

module _ {D A P K : Type 0} (disk : D → DiskState) (ambient : A → AmbientState) (plugin : P → StoreState) (sink : K → SinkState) (source : SourceState) (o n : Outside D A P) (a : A) (k l : K) (kept : Cat) (rows : Journal) (x : Command) (call : Call) (undo : List Call)
    (user : IsTrue (is_user rows.cat x.user)) (s1 : Journal) (announced : s1.cat ≡ with_pending rows.cat (noted_in x call undo)) (row : Or Act) (file : OldFile) (named : IsNamedFile rows.cat file) (within : file.slot < rows.cat.stores)
    (count : ℕ) (count_is : s1.cat.stores ≡ count) (slots : rows.cat.stores ≡ length o.stores.items) (word now : ℕ) (plan : Plan) (w : CopiesFile s1.cat row word now file plan)
    (few : length plan.files ≤ leaf_count s1.cat) (ran_within : IsWithin (grid_of rows.cat) → IsWithin (w.of.ran word now [])) where
  abbrev pub its_plan : IsCopyPlan s1.cat s1.cat count plan file
  its_plan = copy_plan_as s1.cat plan s1.cat.stores count file count_is w.makes.is_plan

  abbrev mid : Cat
  mid = w.makes.is_plan.mid

  abbrev end : Cat
  end = w.makes.is_plan.end

  abbrev old : World P
  old = around disk ambient plugin o (sink k) source

  abbrev new : World P
  new = around disk ambient plugin n (sink l) source

  users_mid : KeepsUsers s1.cat mid
  users_mid = users_apply_all plan.before s1.cat mid w.makes.is_plan.first

  users_end : KeepsUsers s1.cat end
  users_end = users_then s1.cat mid end users_mid (users_apply_all plan.after mid end w.makes.is_plan.then)

  -- files that were named before the last changes are so behind them
  named_last : {olds news : List P} → CopySays plugin plan.files file olds news copied.Done → KeepsNamed mid end
  named_last (inl idle) = (w.makes.is_plan.ends [] (λ some. absurd (some idle))).named
  named_last (inr copies) = (w.makes.is_plan.ends copies.bytes (λ some. copies.says)).named

  few_mid : GivesFew s1.cat mid 1
  few_mid = gives_drawn s1.cat mid (length plan.files) w.makes.drawn_first.numbers few plan.before w.makes.is_plan.first

  few_end : GivesFew s1.cat end 1
  few_end = gives_planned s1.cat end (length plan.files) w.makes.drawn.numbers few mid plan.before plan.after w.makes.is_plan.first w.makes.is_plan.then

  grid_mid : grid_of mid ≡ grid_of rows.cat
  grid_mid = w.makes.before ∙ grid_before rows.cat x call undo s1.cat announced

  beside_mid : KeepsBeside rows.cat mid 1
  beside_mid =
      beside_since rows.cat x call undo s1.cat announced (length plan.files) mid w.makes.drawn_first users_mid user
      w.makes.is_plan.begins.named few_mid (λ within. subst IsWithin (sym grid_mid) within)

  pending_mid : mid.pending ≡ Some (noted_in x call undo)
  pending_mid = pending_since rows.cat x call undo s1.cat announced (length plan.files) mid w.makes.drawn_first users_mid

  pub its_note : IsNoted rows.cat x call undo mid
  its_note = record { grid = grid_mid; beside = beside_mid; pending = pending_mid }

  numbers_end : end.numbers ≡ mid.numbers
  numbers_end = w.makes.drawn.numbers ∙ sym w.makes.drawn_first.numbers

  -- where the file was copied
  beside_end : {olds news : List P} → CopySays plugin plan.files file olds news copied.Done → KeepsBeside rows.cat end 1
  beside_end says =
      let p = w.makes.is_plan in
      beside_since rows.cat x call undo s1.cat announced (length plan.files) end w.makes.drawn users_end user (λ slot name is. named_last says slot name (p.begins.named slot name is))
      few_end (λ within. subst IsWithin (sym w.makes.ran) (ran_within within))

  pending_end : end.pending ≡ Some (noted_in x call undo)
  pending_end = pending_since rows.cat x call undo s1.cat announced (length plan.files) end w.makes.drawn users_end

  abbrev its_does : Course → Meaning Did
  its_does = does old new kept rows x call undo w.of mid its_note

  abbrev first : Seen D A P K
  first = record { outside = record o { ambient = a }; sink = k }

  abbrev last : Seen D A P K
  last = record { outside = n; sink = l }

  -- what stays whole of what was so by the rows before it
  whole_before : KeepBothWhole plugin o.moments kept s1.cat (disk o.main) (disk n.main) o.stores.items n.stores.items → KeepBothWhole plugin o.moments kept rows.cat (disk o.main) (disk n.main) o.stores.items n.stores.items
  whole_before whole by_memory = whole (λ t late. whole_turned_none plugin t rows.cat s1.cat o.stores.items (turns_before rows.cat x call undo s1.cat announced user) (by_memory t late))

  -- ---- the deed is that of the row

  of_row : (d : Deed) → row ≡ Ok (deed d) → (y : Command) (after : Journal) (r : Result (Result ⊤ Failure) Ending)
      → IsStep old new kept rows x call undo y after its_does r → IsStep old new kept rows x call undo y after (λ s. take_mark call s d s.marks) r
  of_row d row_is y after r step =
      let both : Ok (deed d) ≡ Ok (deed w.of) = sym row_is ∙ w.row_is in
      let same : d ≡ w.of = cc in
      let S : Deed → Type 0 = λ e. IsStep old new kept rows x call undo y after (λ s. take_mark call s e s.marks) r in
      subst S (sym same) step

  -- ---- it came to no end

  cut_so : {r : Result Copied Ending} {s2 : Journal} → IsCopiedNoted disk plugin sink its_plan x.untold first last kept r s2 → (IsTrue (ambient n.ambient).tells → Gave [] (ambient o.ambient) (ambient n.ambient))
      → KeepBothWhole plugin o.moments kept s1.cat (disk o.main) (disk n.main) o.stores.items n.stores.items → (y : Command) (after : Journal) (e : Ending) → IsOutOfRoom (disk o.main) (disk n.main) (sink k) (sink l) e → IsStep old new kept rows x call undo y after its_does (Err e)
  cut_so copied asked whole y after e out =
      step_noted old new kept rows x call undo w.of mid its_note copied.leaves asked (whole_before whole) y after (Err e) (worn_of old new kept rows x call undo w.of mid its_note y after e out)

  -- ---- it came to its mark

  module _ (drawn : AmbientState) (gives_word : IsTrue drawn.tells → GivesWord (ambient o.ambient) word drawn) (gives_time : IsTrue (ambient n.ambient).tells → GivesTime drawn now (ambient n.ambient))
      (stores_last : EachMember (λ i store. (plugin store).last ≤ o.moments) o.stores.items) (go : StoresGo plugin o.moments o.stores.items n.stores.items) where
    later : EachPair (λ i before after. (plugin before).faults ≤ (plugin after).faults) o.stores.items n.stores.items
    later i before after was is = (go.later i before after was is).faults

    -- the word and the time are told by no mark
    asked_so : IsTrue (ambient n.ambient).tells → Gave [] (ambient o.ambient) (ambient n.ambient)
    asked_so = gave_untold word now (ambient o.ambient) drawn (ambient n.ambient) gives_word gives_time [] refl refl

    slot_within : (slot : ℕ) → HasSlot plan.files slot ⊎ (slot ≡ file.slot) → slot < length o.stores.items
    slot_within slot (inl among) =
        omega (arith, all_at (λ (f : NewFile). f.slot < s1.cat.stores) plan.files among.place among.file w.makes.is_plan.slots among.is, among.slot_is, ap (λ (e : Cat). e.stores) announced, slots)
    slot_within slot (inr same) = omega (arith, same, within, slots)

    -- a file of a known slot has the recorded bytes
    never : (found : Found) → Copies plugin file plan.files o.stores.items n.stores.items (Some found) → ¬ IsKnownBy old rows.cat file.slot
    never found it =
        let there = at_place o.stores.items file.slot (slot_within file.slot (inr refl)) in
        not_known old rows.cat file named there.0 there.1 (stores_last file.slot there.0 there.1) it.bytes it.says.not_recorded (it.of_file there.0 there.1)

    fault_fits_so : plan.files ≢ [] → (slot : ℕ) → HasSlot plan.files slot ⊎ (slot ≡ file.slot) → fits w.of (mark.Fault slot 0) ≡ true
    fault_fits_so some slot (inl among) = w.slots slot among
    fault_fits_so some slot (inr same) = subst (λ i. fault_fits w.of.touch w.of.size i 0 ≡ true) (sym same) (w.source some)

    module _ (s2 : Journal) (whole : KeepBothWhole plugin o.moments kept s1.cat (disk o.main) (disk n.main) o.stores.items n.stores.items) where
      -- the catalogue behind it leads on from the noted one
      done_so : (answer : Copied) → IsCopiedNoted disk plugin sink its_plan x.untold first last kept (Ok answer) s2 → (m : Mark) (ran : Result ⊤ Failure) (fin : Cat) → s2.cat ≡ fin → KeepsBeside rows.cat fin 1 → IsTrue (mark_fits m) → fin.pending ≡ Some (noted_in x call undo) → fin.numbers ≡ mid.numbers
          → ((grid : Grid) → grid ≡ grid_of fin → (more : List Mark) (begun : ℕ) (stopped : Bool) → ComesTo its_does ran (course_at (place_by rows.cat x) (m ∷ more) begun stopped)
          (record (course_at (place_by fin (with_mark x m)) more begun stopped) { grid = grid }))
          → IsToldOf (IsKnownBy old rows.cat) (length o.stores.items) m → AreCaused old new (m ∷ []) → (IsTrue (ambient n.ambient).tells → Gave (m ∷ []) (ambient o.ambient) (ambient n.ambient))
          → IsStep old new kept rows x call undo (with_mark (record x { untold = [] }) m) s2 its_does (Ok ran)
      done_so answer it m ran fin fin_is beside spelled pending numbers did told_of caused gave =
          let Q : Cat → Type 0 = λ e. KeepsBeside rows.cat e 1 in
          let N : Cat → Type 0 = λ e. e.pending ≡ Some (noted_in x call undo) in
          let U : Cat → Type 0 = λ e. e.numbers ≡ mid.numbers in
          let beside_now = subst Q (sym fin_is) beside in
          let G : Cat → Type 0 = λ e. (more : List Mark) (begun : ℕ) (stopped : Bool) → ComesTo its_does ran (course_at (place_by rows.cat x) (m ∷ more) begun stopped) (course_at (place_by e (with_mark x m)) more begun stopped) in
          step_noted old new kept rows x call undo w.of mid its_note it.leaves asked_so (whole_before whole) (with_mark (record x { untold = [] }) m) s2 (Ok ran)
          (step_done old new kept rows x call undo w.of mid its_note m s2 ran (subst G (sym fin_is) (did (grid_of fin) refl)) (beside_now.names x.user user) beside_now spelled (subst N (sym fin_is) pending) (subst U (sym fin_is) numbers)
          it.ends.held it.ends.settled it.ends.told it.ends.sink_settled told_of caused gave (λ by_memory. it.ends.whole (λ t late. whole_turned_none plugin t rows.cat s1.cat o.stores.items (turns_before rows.cat x call undo s1.cat announced user) (by_memory t late))))

      -- the grid stayed, and it failed so
      failed_so : (m : Mark) (f : Failure) → fits w.of m ≡ true → ((s : Course) (more : List Mark) → take_mark call s w.of (m ∷ more) ≡ where_mark_fits (fits w.of m) (did_fail (taking s m more) f)) → ((s : Course) (more : List Mark) → (taking s m more).stopped ≡ s.stopped)
          → (grid : Grid) → grid ≡ grid_of mid → (more : List Mark) (begun : ℕ) (stopped : Bool)
          → ComesTo its_does (Err f) (course_at (place_by rows.cat x) (m ∷ more) begun stopped) (record (course_at (place_by mid (with_mark x m)) more begun stopped) { grid = grid })
      failed_so m f it_fits takes unstopped grid grid_is more begun stopped =
          let s = course_at (place_by rows.cat x) (m ∷ more) begun stopped in
          takes s more ∙ ap (λ b. where_mark_fits b (did_fail (taking s m more) f)) it_fits
          ∙ (λ i. gives (did_fail (record (taking s m more) { grid = sym (grid_is ∙ grid_mid) i; stopped = unstopped s more i }) f))

      ran_so : (grid : Grid) → grid ≡ grid_of end → (more : List Mark) (begun : ℕ) (stopped : Bool)
          → ComesTo its_does (Ok tt) (course_at (place_by rows.cat x) (mark.Ran word now [] ∷ more) begun stopped) (record (course_at (place_by end (with_mark x (mark.Ran word now []))) more begun stopped) { grid = grid })
      ran_so grid grid_is more begun stopped =
          let m = mark.Ran word now [] in
          let s = course_at (place_by rows.cat x) (m ∷ more) begun stopped in
          ap (λ b. where_mark_fits b (did_well (record (taking s m more) { grid = w.of.ran word now [] }))) w.ran
          ∙ (λ i. gives (did_well (record (taking s m more) { grid = sym (grid_is ∙ w.makes.ran) i })))

      by_answer : (answer : Copied) → IsTrue (mark_fits (copied_mark word now file answer)) → IsCopiedNoted disk plugin sink its_plan x.untold first last kept (Ok answer) s2
          → IsStep old new kept rows x call undo (with_mark (record x { untold = [] }) (copied_mark word now file answer)) s2 its_does (Ok (copied_ran file answer))
      by_answer copied.Done spelled it =
          done_so copied.Done it (mark.Ran word now []) (Ok tt) end it.ends.cat_is (beside_end it.ends.says) spelled pending_end numbers_end ran_so tt
          (caused_none old new go.count later (mark.Ran word now [] ∷ []) (λ slot. refl)) (gave_ran word now (ambient o.ambient) drawn (ambient n.ambient) gives_word gives_time [])
      by_answer (copied.Fault fault) spelled it =
          let m = mark.Fault fault.slot 0 in
          let says = it.ends.says in
          done_so (copied.Fault fault) it m (Err (Refused (refusal.Fault fault.slot))) mid it.ends.cat_is beside_mid spelled pending_mid refl
          (failed_so m (Refused (refusal.Fault fault.slot)) (fault_fits_so says.0 fault.slot says.1) (λ s more. refl) (λ s more. refl)) tt
          (caused_fault old new go.count later fault.slot 0 (slot_within fault.slot says.1) says.2) (gave_untold word now (ambient o.ambient) drawn (ambient n.ambient) gives_word gives_time (m ∷ []) refl refl)
      by_answer (copied.Bad found) spelled it =
          let m = mark.Bad file.slot found.len found.digest 0 in
          let says = it.ends.says in
          let other : differs found.len found.digest w.of.size w.of.digest ≡ true = subst (λ i. differs found.len found.digest i w.of.digest ≡ true) (sym w.size) (subst (λ e. differs found.len found.digest file.size e ≡ true) (sym w.digest)
          (differs_so file says.1.bytes found says.1.says says.1.one_more)) in
          let R : Result (Result ⊤ Failure) Ending → Type 0 = λ r. IsStep old new kept rows x call undo (with_mark (record x { untold = [] }) m) s2 its_does r in
          subst R (λ i. Ok (Err (Refused (refusal.Damaged file.slot (w.size i) (w.digest i) found.len found.digest))))
          (done_so (copied.Bad found) it m (Err (Refused (refusal.Damaged file.slot w.of.size w.of.digest found.len found.digest))) mid it.ends.cat_is beside_mid spelled pending_mid refl
          (failed_so m (Refused (refusal.Damaged file.slot w.of.size w.of.digest found.len found.digest)) (w.bad says.0 found.len found.digest other) (λ s more. refl) (λ s more. refl)) (slot_within file.slot (inr refl), never found says.1)
          (caused_none old new go.count later (m ∷ []) (λ slot. refl)) (gave_untold word now (ambient o.ambient) drawn (ambient n.ambient) gives_word gives_time (m ∷ []) refl refl))

    -- how it came out, with its mark
    pub marked_step : (d : Deed) → row ≡ Ok (deed d) → (result : Result (Result ⊤ Failure) Ending) (y : Command) (s2 : Journal)
        → IsCopiedMarked disk plugin sink its_plan x.untold first last kept x (record { word = word; now = now }) result y s2
        → KeepBothWhole plugin o.moments kept s1.cat (disk o.main) (disk n.main) o.stores.items n.stores.items → IsStep old new kept rows x call undo y s2 (λ s. take_mark call s d s.marks) result
    marked_step d row_is (Err e) y s2 it whole = of_row d row_is y s2 (Err e) (cut_so {r = Err e} {s2 = s2} (record { ends = it.ends; leaves = it.leaves }) asked_so whole y s2 e it.ends)
    marked_step d row_is (Ok ran) y s2 it whole =
        let took = it.ends in
        let Y : Command → Type 0 = λ c. IsStep old new kept rows x call undo c s2 its_does (Ok (copied_ran file took.answer)) in
        let R : Result ⊤ Failure → Type 0 = λ r. IsStep old new kept rows x call undo y s2 its_does (Ok r) in
        of_row d row_is y s2 (Ok ran) (subst R (sym took.ran_is) (subst Y (sym took.command) (by_answer s2 whole took.answer took.spelled (record { ends = took.staged; leaves = it.leaves }))))
