-- How a call that looks at files ends.
use Rattle.std.proofs.Common.{◌≡◌, inl, ℕ, ◌+◌, ◌<◌, ◌≤◌, Bool, true, List, [], ◌∷◌, ◌++◌, length, None, Some, Result, Ok, Err, IsTrue, refl, sym, ap, ◌∙◌, subst, arith}
use Rattle.std.specs.Prelude.{⊤, OnOk, map}
use Rattle.std.proofs.lemmas.List.{append-nil}
use Rattle.grid_outside.specs.Ambient.{AmbientState, GivesTime, GivesWord}
use Rattle.grid_outside.specs.Device.{EachMember, EachPair, Looks}
use Rattle.grid_outside.specs.Disk.{DiskState}
use Rattle.grid_outside.specs.Files.{StoreState}
use Rattle.grid_outside.specs.Sink.{SinkState}
use Rattle.grid_outside.specs.Source.{SourceState}
use Rattle.grid_outside.specs.declared.outside.Outside.{Outside}
use Rattle.chain_run.specs.Places.{course_at}
use Rattle.grid_model.specs.Names.{Text, Path}
use Rattle.grid_model.specs.Grid.{Grid}
use Rattle.grid_model.specs.Rows.{Cat}
use Rattle.grid_model.specs.RowGrids.{grid_of, user_name}
use Rattle.grid_model.specs.Applying.{is_user}
use Rattle.grid_model.specs.Deeds.{Deed, deed, fault_fits, fits}
use Rattle.grid_model.specs.Meanings.{gives}
use Rattle.grid_model.specs.Doing.{did_fail, did_well, take_mark, taking, where_mark_fits}
use Rattle.grid_model.specs.Operations.Replicas.{chksum_row}
use Rattle.grid_model.specs.Operations.Table.{chksum}
use Rattle.grid_model.specs.Replies.{mark_line}
use Rattle.grid_model.specs.declared.calls.Call.{Call}
use Rattle.grid_model.specs.declared.deltas.Delta.{Delta}
use Rattle.grid_model.specs.declared.marks.BadReplica.{BadReplica}
use Rattle.grid_model.specs.declared.marks.Mark.{Mark}
use Rattle.grid_model.specs.declared.marks.Mark.TheVariants as mark
use Rattle.grid_model.specs.declared.plans.OldFile.{OldFile}
use Rattle.grid_model.specs.declared.refusal.Failure.{Failure}
use Rattle.grid_model.specs.declared.refusal.Failure.TheVariants.{Refused}
use Rattle.grid_model.specs.declared.refusal.Refusal.TheVariants as refusal
use Rattle.grid_journal.specs.Journal.{Journal}
use Rattle.grid_vault.specs.Vault.{RoseAt}
use Rattle.grid_deed.specs.Frame.{Frame}
use Rattle.grid_deed.specs.Held.{IsHeld, IsStaged}
use Rattle.grid_deed.specs.Safe.{AreWhole}
use Rattle.grid_deed.proofs.Wholes.{whole_turned_none}
use Rattle.file_laws.specs.Plans.{Turns}
use Rattle.grid_headline.specs.Worlds.{World}
use Rattle.plan_object.specs.ChksumPlans.{MarksBad, MayChksum}
use Rattle.run_laws.specs.Around.{around}
use Rattle.run_laws.proofs.OneMark.{caused_fault, caused_none, gave_ran, gave_untold}
use Rattle.size_laws.specs.Within.{IsWithin}
use Rattle.service_run.specs.declared.command.Command.{Command}
use Rattle.service_run.specs.declared.ending.Ending.{Ending}
use Rattle.service_run.specs.declared.ending.Ending.TheVariants as ending
use Rattle.service_run.specs.Changes.{LeadOn, LedOn, mark_fits, with_mark}
use Rattle.service_run.specs.Commands.{KeepsBeside, place_by}
use Rattle.service_run.specs.Steps.{IsStep, StaysAway, StepEnds, lines_of}
use Rattle.service_run.specs.declared.looking.Looked.{Looked}
use Rattle.service_run.specs.declared.looking.Looked.TheVariants as looked
use Rattle.service_run.specs.Sums.{AreSeen, IsFileIn, LooksSay, TookLooked}
use Rattle.service_run.proofs.FewMoments.{ran_within}
use Rattle.service_run.proofs.SeenFiles.{at_all, found_so, slot_of_file, told_found}
use Rattle.service_run.proofs.StillSteps.{beside_led, beside_more, beside_same, one_fits, stays_away, step_still, whole_looked}

-- ---- what it stages

-- the plan of a chksum
pub leads_bad : (c : Cat) (g : Grid) (deltas : List Delta) (m : MarksBad c g deltas) → LeadOn c deltas m.end
leads_bad c g deltas m = record {
  applied = m.applied;
  spelled = m.spelled;
  turns = m.turns;
  keeps = record { rises = omega (arith, numbers); names = m.drawn.names };
  numbers = m.drawn.numbers ∙ (λ i. record c.numbers { next_vault = same i });
  pending = m.drawn.pending;
  rules = m.drawn.rules;
  stores = m.drawn.stores;
}
  where
    same : c.numbers.next_vault + 0 ≡ c.numbers.next_vault
    same = omega arith

    numbers : m.end.numbers.next_vault ≡ c.numbers.next_vault
    numbers = ap (λ (k : _). k.next_vault) m.drawn.numbers ∙ same

-- the plan for these numbers, by rows that are the same
pub bad_plan : (c t : Cat) → t ≡ c → (path : Path) (numbers : List ℕ) (deltas : List Delta) (bad : List BadReplica) → numbers ≡ map (λ (b : BadReplica). b.number) bad
    → ((user : Text) (files : List OldFile) (may : MayChksum t user path files) (word now : ℕ) (found : List BadReplica) → map (λ (b : BadReplica). b.number) found ≡ numbers → MarksBad t (may.of.ran word now found) deltas)
    → (user : Text) (files : List OldFile) (may : MayChksum c user path files) (word now : ℕ) → MarksBad c (may.of.ran word now bad) deltas
bad_plan c t same path numbers deltas bad are plan user files may word now =
    let T : Cat → Type 0 = λ x. (user : Text) (files : List OldFile) (may : MayChksum x user path files) (word now : ℕ) (found : List BadReplica) → map (λ (b : BadReplica). b.number) found ≡ numbers → MarksBad x (may.of.ran word now found) deltas in
    subst T same plan user files may word now bad (sym are)

-- where they were staged
pub led_on : (kept c : Cat) (g : Grid) (deltas : List Delta) (m : MarksBad c g deltas) (main : DiskState) (new : Journal) {E : Type 0} (result : Result ⊤ E) → OnOk result (IsStaged kept m.end main new) → OnOk result (LedOn kept c g main new)
led_on kept c g deltas m main new (Ok done) staged = record { deltas = deltas; after = m.end; leads = leads_bad c g deltas m; grid = m.grid; staged = staged }
led_on kept c g deltas m main new (Err e) staged = tt

-- ---- a command with one mark more

-- the line of the mark is behind what was still to be told
pub untold_more : (x : Command) (m : Mark) → (with_mark x m).untold ≡ x.untold ++ lines_of x.number (m ∷ [])
untold_more x m = ap (λ (t : Text). x.untold ++ t) (sym (append-nil (mark_line x.number m)))

-- ---- how it ends

module _ {D A P : Type 0} (disk : D → DiskState) (ambient : A → AmbientState) (plugin : P → StoreState) (source : SourceState) (o n : Outside D A P) (sink : SinkState) (kept : Cat) (rows : Journal) (x : Command) (call : Call) (undo : List Call)
    (held : IsHeld kept (disk o.main) rows) (main_last : (disk o.main).last ≤ o.moments) (stores_last : EachMember (λ k store. (plugin store).last ≤ o.moments) o.stores.items) (sink_last : sink.last ≤ o.moments) (main_same : n.main ≡ o.main) (drawn : A) (frame : Frame disk plugin ⊥ (record o { ambient = drawn }) n)
    (looks : EachPair (λ k before after. Looks (plugin before) (plugin after)) o.stores.items n.stores.items) (user : IsTrue (is_user rows.cat x.user)) (path : Path) (files : List OldFile) (may : MayChksum rows.cat (user_name rows.cat x.user) path files) (slots : rows.cat.stores ≡ length o.stores.items)
    (word now : ℕ) (mid : AmbientState) (gives_word : IsTrue mid.tells → GivesWord (ambient o.ambient) word mid) (gives_time : IsTrue (ambient drawn).tells → GivesTime mid now (ambient drawn)) where
  abbrev old : World P
  old = around disk ambient plugin o sink source

  abbrev new : World P
  new = around disk ambient plugin n sink source

  abbrev IsSumStep : (y : Command) (after : Journal) → Result (Result ⊤ Failure) Ending → Type 0
  IsSumStep y after result = IsStep old new kept rows x call undo y after (λ s. take_mark call s may.of s.marks) result

  gives_last : IsTrue (ambient n.ambient).tells → GivesTime mid now (ambient n.ambient)
  gives_last = let G : A → Type 0 = λ a. IsTrue (ambient a).tells → GivesTime mid now (ambient a) in subst G (sym frame.ambient) gives_time

  ends_so : (y : Command) (after : Journal) (result : Result (Result ⊤ Failure) Ending) → StepEnds old new kept rows x call undo y after (λ s. take_mark call s may.of s.marks) result → IsSumStep y after result
  ends_so y after result =
      step_still disk ambient plugin source o n sink kept rows x call undo y after held main_last sink_last main_same frame.stores.count looks
      (gave_untold word now (ambient o.ambient) mid (ambient n.ambient) gives_word gives_last [] refl refl) (λ s. take_mark call s may.of s.marks) result

  stays : (m : Mark) (after : Journal) → IsHeld kept (disk n.main) after → after.cat.pending ≡ rows.cat.pending → after.cat.numbers ≡ rows.cat.numbers → StaysAway old new kept rows x call undo (with_mark x m) after (m ∷ [])
  stays m after held_after pending numbers =
      stays_away disk ambient plugin source o n sink kept rows x call undo (with_mark x m) after held main_last sink_last main_same frame.stores.count looks (m ∷ []) held_after pending numbers (untold_more x m)

  whole_after : (after : Journal) → Turns [] [] rows.cat after.cat → ((t : ℕ) → o.moments < t → AreWhole plugin t rows.cat o.stores.items) → (t : ℕ) → n.moments < t → AreWhole plugin t after.cat n.stores.items
  whole_after after turns whole t late =
      whole_looked plugin t after.cat o.stores.items n.stores.items frame.stores.count looks (whole_turned_none plugin t rows.cat after.cat o.stores.items turns (whole t (omega (arith, late, frame.drawn))))

  later : EachPair (λ k before after. (plugin before).faults ≤ (plugin after).faults) o.stores.items n.stores.items
  later k before after was is = (frame.stores.later k before after was is).faults

  -- ---- it came to no end

  pub cut : (y : Command) (after : Journal) → IsSumStep y after (Err ending.Memory)
  cut y after = ends_so y after (Err ending.Memory) tt

  -- ---- a call of this slot failed

  module _ (slot : ℕ) (there : IsFileIn files slot) (rose : RoseAt plugin slot o.stores.items n.stores.items) (spelled : IsTrue (mark_fits (mark.Fault slot 0))) where
    abbrev fault : Mark
    fault = mark.Fault slot 0

    fault_fits_so : fits may.of fault ≡ true
    fault_fits_so =
        let F : ℕ → Type 0 = λ s. fault_fits may.of.touch may.of.size s 0 ≡ true in
        subst F there.slot_is (at_all (λ (f : OldFile). F f.slot) files there.place there.file may.faults there.is)

    fault_within : slot < length o.stores.items
    fault_within = omega (arith, slot_of_file rows.cat may.read files may.files_are there.place there.file there.is, there.slot_is, slots)

    did_fault : (more : List Mark) (begun : ℕ) (stopped : Bool) → take_mark call (course_at (place_by rows.cat x) (fault ∷ more) begun stopped) may.of (fault ∷ more)
        ≡ gives (record { state = course_at (place_by rows.cat (with_mark x fault)) more begun stopped; failure = Some (Refused (refusal.Fault slot)) })
    did_fault more begun stopped = ap (λ b. where_mark_fits b (did_fail (taking (course_at (place_by rows.cat x) (fault ∷ more) begun stopped) fault more) (Refused (refusal.Fault slot)))) fault_fits_so

    pub failed : IsSumStep (with_mark x fault) rows (Ok (Err (Refused (refusal.Fault slot))))
    failed = ends_so (with_mark x fault) rows (Ok (Err (Refused (refusal.Fault slot)))) (record {
      did = record { user = refl; marks = fault ∷ []; taken = refl; did = λ more begun stopped. (stopped, did_fault more begun stopped) };
      beside = beside_more rows.cat rows.cat 0 1 (omega arith) (beside_same rows.cat);
      marks = fault ∷ [];
      marks_are = refl;
      rest = refl;
      spelled = one_fits fault spelled;
      is_kept = inl (stays fault rows (let H : D → Type 0 = λ m. IsHeld kept (disk m) rows in subst H (sym main_same) held) refl refl);
      told_of = (tt, tt);
      caused = caused_fault old new frame.stores.count later slot 0 fault_within rose;
      gave = gave_untold word now (ambient o.ambient) mid (ambient n.ambient) gives_word gives_last (fault ∷ []) refl refl;
      whole = λ by_kept by_memory told settled t late.
          whole_looked plugin t rows.cat o.stores.items n.stores.items frame.stores.count looks (by_memory t (omega (arith, late, frame.drawn)));
    })

  -- ---- all were read

  module _ (bad : List BadReplica) (seen : AreSeen plugin o.stores.items files bad) (after : Journal) (led : LedOn kept rows.cat (may.of.ran word now bad) (disk n.main) after) (spelled : IsTrue (mark_fits (mark.Ran word now bad))) where
    abbrev ran : Mark
    ran = mark.Ran word now bad

    its_cat : after.cat ≡ led.after
    its_cat = led.staged.cat

    grid_is : grid_of after.cat ≡ may.of.ran word now bad
    grid_is = ap grid_of its_cat ∙ led.grid

    leads : LeadOn rows.cat led.deltas after.cat
    leads = let L : Cat → Type 0 = λ c. LeadOn rows.cat led.deltas c in subst L (sym its_cat) led.leads

    beside : KeepsBeside rows.cat after.cat 1
    beside = beside_more rows.cat after.cat 0 1 (omega arith) (beside_led rows.cat after.cat led.deltas leads
        (λ within. subst IsWithin (sym grid_is)
        (ran_within rows.cat rows.cat (user_name rows.cat x.user) (chksum path) may.of refl may.row_is word now bad within)))

    held_after : IsHeld kept (disk n.main) after
    held_after = led.staged.held

    did_run : (more : List Mark) (begun : ℕ) (stopped : Bool) → take_mark call (course_at (place_by rows.cat x) (ran ∷ more) begun stopped) may.of (ran ∷ more)
        ≡ gives (record { state = course_at (place_by after.cat (with_mark x ran)) more begun stopped; failure = None })
    did_run more begun stopped =
        let s = course_at (place_by rows.cat x) (ran ∷ more) begun stopped in
        ap (λ b. where_mark_fits b (did_well (record (taking s ran more) { grid = may.of.ran word now bad }))) (may.ran word now bad (found_so plugin o.stores.items seen))
        ∙ (λ i. gives (did_well (record (taking s ran more) { grid = sym grid_is i })))

    pub sums : IsSumStep (with_mark x ran) after (Ok (Ok tt))
    sums = ends_so (with_mark x ran) after (Ok (Ok tt)) (record {
      did = record { user = beside.names x.user user; marks = ran ∷ []; taken = refl; did = λ more begun stopped. (stopped, did_run more begun stopped) };
      beside = beside;
      marks = ran ∷ [];
      marks_are = refl;
      rest = refl;
      spelled = one_fits ran spelled;
      is_kept = inl (stays ran after held_after leads.pending leads.numbers);
      told_of = (told_found old rows.cat slots stores_last word now may.read bad may.files_are seen, tt);
      caused = caused_none old new frame.stores.count later (ran ∷ []) (λ slot. refl);
      gave = gave_ran word now (ambient o.ambient) mid (ambient n.ambient) gives_word gives_last bad;
      whole = λ by_kept by_memory told settled. whole_after after leads.turns by_memory;
    })

  -- ---- the deed is that of the row

  module _ (d : Deed) (row_is : chksum_row (grid_of rows.cat) (user_name rows.cat x.user) path ≡ Ok (deed d)) (y : Command) (after : Journal) where
    of_row : (result : Result (Result ⊤ Failure) Ending) → IsSumStep y after result → IsStep old new kept rows x call undo y after (λ s. take_mark call s d s.marks) result
    of_row result step =
        let both : Ok (deed d) ≡ Ok (deed may.of) = sym row_is ∙ may.row_is in
        let same : d ≡ may.of = cc in
        let S : Deed → Type 0 = λ e. IsStep old new kept rows x call undo y after (λ s. take_mark call s e s.marks) result in
        subst S (sym same) step

    pub sum_cut : IsStep old new kept rows x call undo y after (λ s. take_mark call s d s.marks) (Err ending.Memory)
    sum_cut = of_row (Err ending.Memory) (cut y after)

    pub sum_took : (l : Looked) (ran : Result ⊤ Failure) → LooksSay plugin files o.stores.items n.stores.items l → TookLooked kept (disk n.main) rows x y after may.of (record { word = word; now = now }) l ran
        → IsStep old new kept rows x call undo y after (λ s. take_mark call s d s.marks) (Ok ran)
    sum_took (looked.Fault slot) ran says took =
        let S : Result ⊤ Failure → Command → Journal → Type 0 = λ r z j. IsSumStep z j (Ok r) in
        of_row (Ok ran) (subst (λ r. S r y after) (sym took.0) (subst (λ z. S (Err (Refused (refusal.Fault slot))) z after) (sym took.1) (subst (λ j. S (Err (Refused (refusal.Fault slot))) (with_mark x (mark.Fault slot 0)) j) (sym took.2) (failed slot says.0 says.1 took.3))))
    sum_took (looked.Found bad) ran says took =
        let S : Result ⊤ Failure → Command → Type 0 = λ r z. IsSumStep z after (Ok r) in
        of_row (Ok ran) (subst (λ r. S r y) (sym took.0) (subst (λ z. S (Ok tt) z) (sym took.1) (sums bad says after took.2 took.3)))
