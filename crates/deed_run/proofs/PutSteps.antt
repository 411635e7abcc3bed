-- How a put ends that is a call of a command, by how its plan was carried out.
use Rattle.std.proofs.Common.{◌≡◌, ℕ, ◌<◌, ◌≤◌, Bool, true, [], ◌∷◌, List, Option, None, Some, Ok, Err, IsTrue, refl, sym, ap, ◌∙◌, subst, arith}
use Rattle.std.specs.Prelude.{All, IfOk, Result, ⊤, length}
use Rattle.grid_outside.specs.Ambient.{AmbientState, GivesTime, GivesWord}
use Rattle.grid_outside.specs.Device.{EachPair}
use Rattle.grid_outside.specs.Disk.{DiskState}
use Rattle.grid_outside.specs.Files.{StoreState}
use Rattle.grid_outside.specs.Source.{SourceState}
use Rattle.grid_outside.specs.Sink.{SinkState}
use Rattle.grid_outside.specs.declared.outside.Outside.{Outside}
use Rattle.grid_model.specs.Names.{Text}
use Rattle.grid_model.specs.Grid.{Grid}
use Rattle.grid_model.specs.Rows.{Cat}
use Rattle.grid_model.specs.RowGrids.{grid_of}
use Rattle.grid_model.specs.Applying.{is_user}
use Rattle.grid_model.specs.Deeds.{Act, Deed, Touch, copying, deed, fits, ran_fits, reading, sending, writing}
use Rattle.grid_model.specs.Doing.{Course, Did, did_fail, did_well, do_act, take_mark, taking, where_mark_fits}
use Rattle.grid_model.specs.Meanings.{Meaning, gives}
use Rattle.grid_model.specs.Operations.Objects.{put_row}
use Rattle.grid_model.specs.Operations.Table.{Operation, row as row_of}
use Rattle.grid_model.specs.Refusing.{Or}
use Rattle.grid_model.specs.Working.{running}
use Rattle.grid_model.specs.declared.calls.Call.{Call}
use Rattle.grid_model.specs.declared.marks.Mark.{Mark}
use Rattle.grid_model.specs.declared.marks.Mark.TheVariants as mark
use Rattle.grid_model.specs.declared.plans.NewFile.{NewFile}
use Rattle.grid_model.specs.declared.plans.Plan.{Plan}
use Rattle.grid_model.specs.declared.refusal.Failure.{Failure}
use Rattle.grid_model.specs.declared.refusal.Failure.TheVariants.{Refused}
use Rattle.grid_model.specs.declared.refusal.Refusal.{Refusal}
use Rattle.grid_model.specs.declared.refusal.Refusal.TheVariants as refusal
use Rattle.grid_journal.specs.Journal.{Journal}
use Rattle.grid_vault.specs.Vault.{HasSlot}
use Rattle.grid_vault.specs.declared.fault.Fault.{Fault}
use Rattle.grid_vault.proofs.Writing.{all_at}
use Rattle.file_laws.specs.Plans.{IsPlan}
use Rattle.grid_deed.specs.Frame.{StoresGo}
use Rattle.grid_deed.specs.Safe.{KeepBothWhole}
use Rattle.grid_deed.proofs.Wholes.{whole_turned_none}
use Rattle.grid_headline.specs.Causes.{AreCaused}
use Rattle.grid_headline.specs.Numbers.{leaf_count}
use Rattle.grid_headline.specs.Worlds.{World}
use Rattle.count_laws.specs.GivenNumbers.{GivesFew}
use Rattle.count_laws.proofs.GivenNumbers.{gives_drawn, gives_planned}
use Rattle.chain_run.specs.Places.{course_at}
use Rattle.plan_object.specs.Writing.{GoesTo, Wanted, WritesFiles}
use Rattle.run_laws.specs.Around.{around}
use Rattle.run_laws.specs.Passes.{Seen}
use Rattle.run_laws.specs.Steps.{Gave, IsToldOf}
use Rattle.run_laws.proofs.OneMark.{caused_fault, caused_none, gave_ran, gave_untold}
use Rattle.run_laws.proofs.Users.{KeepsUsers, users_apply_all, users_then}
use Rattle.service_run.specs.declared.command.Command.{Command}
use Rattle.service_run.specs.declared.ending.Ending.{Ending}
use Rattle.service_run.specs.Changes.{mark_fits, with_mark}
use Rattle.size_laws.specs.Within.{IsWithin}
use Rattle.service_run.specs.Commands.{IsNoted, KeepsBeside, noted_in, place_by}
use Rattle.service_run.specs.Noting.{IsOutOfRoom, with_pending}
use Rattle.service_run.specs.Steps.{ComesTo, IsKnownBy, IsStep}
use Rattle.service_run.proofs.DeedSteps.{beside_since, does, grid_before, pending_since, step_done, step_noted, turns_before, worn_of}
use Rattle.deed_run.specs.Puts.{does_op}
use Rattle.deed_run.specs.Written.{IsWrittenMarked, IsWrittenNoted, written_mark, written_ran}

-- the same plan, where the stores are counted otherwise
abbrev pub plan_as : (c : Cat) (plan : Plan) (stores count : ℕ) (body : Text) → stores ≡ count → IsPlan c c stores plan body → IsPlan c c count plan body
plan_as c plan stores count body same p = record {
  mid = p.mid;
  end = p.end;
  first = p.first;
  then = p.then;
  spelled_first = p.spelled_first;
  spelled_then = p.spelled_then;
  slots = (let S : ℕ → Type 0 = λ k. All (λ (f : NewFile). f.slot < k) plan.files in subst S same p.slots);
  begins = p.begins;
  named = p.named;
  ends = p.ends;
}

-- a deed that found nothing bad may have run
ran_fits_none : (t : Touch) → ran_fits t [] ≡ true
ran_fits_none (writing slots) = refl
ran_fits_none (sending slot) = refl
ran_fits_none (copying slot slots) = refl
ran_fits_none (reading [] slots) = refl
ran_fits_none (reading (e ∷ es) slots) = refl

-- what holds anyway holds where there is an answer
pub where_ok : {T E P : Type 0} (r : Result T E) → P → IfOk r (λ x. P)
where_ok (Ok x) p = p
where_ok (Err e) p = tt

-- a put that goes to some leaves is a deed
pub goes_deed : (c : Cat) (user : Text) (w : Wanted) (word : ℕ) (leaves : List ℕ) → GoesTo c user w word leaves → (body : Text) → length body ≡ w.size → (d : Deed) × (put_row (grid_of c) user w.path w.resource w.mode body ≡ Ok (deed d))
goes_deed c user w word leaves goes body size = (_, goes.row_is body size)

-- ---- what the operation does, by its row

module _ (c : Cat) (user : Text) (op : Operation) where
  -- a deed takes a mark
  pub does_deed : (d : Deed) → row_of (grid_of c) user op ≡ Ok (deed d) → (s : Course) → s.grid ≡ grid_of c → does_op user op s ≡ take_mark (running op) s d s.marks
  does_deed d is s same = ap (λ (r : Or Act). do_act (running op) s r) (ap (λ (g : Grid). row_of g user op) same ∙ is)

  -- what is refused fails whatever marks come
  pub does_refused : (r : Refusal) → row_of (grid_of c) user op ≡ Err r → (s : Course) → s.grid ≡ grid_of c → does_op user op s ≡ gives (did_fail s (Refused r))
  does_refused r is s same = ap (λ (r : Or Act). do_act (running op) s r) (ap (λ (g : Grid). row_of g user op) same ∙ is)

-- ---- the deed

module _ {D A P K : Type 0} (disk : D → DiskState) (ambient : A → AmbientState) (plugin : P → StoreState) (sink : K → SinkState) (source : SourceState) (o n : Outside D A P) (a : A) (k l : K) (kept : Cat) (rows : Journal) (x : Command) (call : Call) (undo : List Call)
    (user : IsTrue (is_user rows.cat x.user)) (s1 : Journal) (announced : s1.cat ≡ with_pending rows.cat (noted_in x call undo)) (row : Or Act) (count : ℕ) (count_is : s1.cat.stores ≡ count) (slots : rows.cat.stores ≡ length o.stores.items)
    (word now : ℕ) (body : Text) (plan : Plan) (w : WritesFiles s1.cat row word now body plan)
    (few : length plan.files ≤ leaf_count s1.cat) (ran_within : IsWithin (grid_of rows.cat) → IsWithin (w.of.ran word now [])) where
  abbrev pub its_plan : IsPlan s1.cat s1.cat count plan body
  its_plan = plan_as s1.cat plan s1.cat.stores count body count_is w.makes.is_plan

  abbrev mid : Cat
  mid = w.makes.is_plan.mid

  abbrev end : Cat
  end = w.makes.is_plan.end

  abbrev old : World P
  old = around disk ambient plugin o (sink k) source

  abbrev new : World P
  new = around disk ambient plugin n (sink l) source

  users_mid : KeepsUsers s1.cat mid
  users_mid = users_apply_all plan.before s1.cat mid w.makes.is_plan.first

  users_end : KeepsUsers s1.cat end
  users_end = users_then s1.cat mid end users_mid (users_apply_all plan.after mid end w.makes.is_plan.then)

  few_mid : GivesFew s1.cat mid 1
  few_mid = gives_drawn s1.cat mid (length plan.files) w.makes.drawn_first.numbers few plan.before w.makes.is_plan.first

  few_end : GivesFew s1.cat end 1
  few_end = gives_planned s1.cat end (length plan.files) w.makes.drawn.numbers few mid plan.before plan.after w.makes.is_plan.first w.makes.is_plan.then

  grid_mid : grid_of mid ≡ grid_of rows.cat
  grid_mid = w.makes.before ∙ grid_before rows.cat x call undo s1.cat announced

  beside_mid : KeepsBeside rows.cat mid 1
  beside_mid =
      beside_since rows.cat x call undo s1.cat announced (length plan.files) mid w.makes.drawn_first users_mid user
      w.makes.is_plan.begins.named few_mid (λ within. subst IsWithin (sym grid_mid) within)

  pending_mid : mid.pending ≡ Some (noted_in x call undo)
  pending_mid = pending_since rows.cat x call undo s1.cat announced (length plan.files) mid w.makes.drawn_first users_mid

  pub its_note : IsNoted rows.cat x call undo mid
  its_note = record { grid = grid_mid; beside = beside_mid; pending = pending_mid }

  -- where the files were written
  beside_end : KeepsBeside rows.cat end 1
  beside_end =
      let p = w.makes.is_plan in
      beside_since rows.cat x call undo s1.cat announced (length plan.files) end w.makes.drawn users_end user
      (λ slot name is. p.ends.named slot name (p.begins.named slot name is)) few_end (λ within. subst IsWithin (sym w.makes.ran) (ran_within within))

  numbers_end : end.numbers ≡ mid.numbers
  numbers_end = w.makes.drawn.numbers ∙ sym w.makes.drawn_first.numbers

  pending_end : end.pending ≡ Some (noted_in x call undo)
  pending_end = pending_since rows.cat x call undo s1.cat announced (length plan.files) end w.makes.drawn users_end

  abbrev its_does : Course → Meaning Did
  its_does = does old new kept rows x call undo w.of mid its_note

  abbrev first : Seen D A P K
  first = record { outside = record o { ambient = a }; sink = k }

  abbrev last : Seen D A P K
  last = record { outside = n; sink = l }

  -- what stays whole of what was so by the rows before it
  whole_before : KeepBothWhole plugin o.moments kept s1.cat (disk o.main) (disk n.main) o.stores.items n.stores.items → KeepBothWhole plugin o.moments kept rows.cat (disk o.main) (disk n.main) o.stores.items n.stores.items
  whole_before whole by_memory = whole (λ t late. whole_turned_none plugin t rows.cat s1.cat o.stores.items (turns_before rows.cat x call undo s1.cat announced user) (by_memory t late))

  -- ---- the deed is that of the row

  of_row : (d : Deed) → row ≡ Ok (deed d) → (y : Command) (after : Journal) (r : Result (Result ⊤ Failure) Ending)
      → IsStep old new kept rows x call undo y after its_does r → IsStep old new kept rows x call undo y after (λ s. take_mark call s d s.marks) r
  of_row d row_is y after r step =
      let both : Ok (deed d) ≡ Ok (deed w.of) = sym row_is ∙ w.row_is in
      let same : d ≡ w.of = cc in
      let S : Deed → Type 0 = λ e. IsStep old new kept rows x call undo y after (λ s. take_mark call s e s.marks) r in
      subst S (sym same) step

  -- ---- it came to no end

  cut_so : {r : Result (Option Fault) Ending} {s2 : Journal} → IsWrittenNoted disk plugin sink its_plan x.untold first last kept r s2 → (IsTrue (ambient n.ambient).tells → Gave [] (ambient o.ambient) (ambient n.ambient))
      → KeepBothWhole plugin o.moments kept s1.cat (disk o.main) (disk n.main) o.stores.items n.stores.items → (y : Command) (after : Journal) (e : Ending) → IsOutOfRoom (disk o.main) (disk n.main) (sink k) (sink l) e → IsStep old new kept rows x call undo y after its_does (Err e)
  cut_so written asked whole y after e out =
      step_noted old new kept rows x call undo w.of mid its_note written.leaves asked (whole_before whole) y after (Err e) (worn_of old new kept rows x call undo w.of mid its_note y after e out)

  -- ---- it came to its mark

  module _ (drawn : AmbientState) (gives_word : IsTrue drawn.tells → GivesWord (ambient o.ambient) word drawn) (gives_time : IsTrue (ambient n.ambient).tells → GivesTime drawn now (ambient n.ambient)) (go : StoresGo plugin o.moments o.stores.items n.stores.items) where
    later : EachPair (λ i before after. (plugin before).faults ≤ (plugin after).faults) o.stores.items n.stores.items
    later i before after was is = (go.later i before after was is).faults

    -- the word and the time are told by no mark
    asked_so : IsTrue (ambient n.ambient).tells → Gave [] (ambient o.ambient) (ambient n.ambient)
    asked_so = gave_untold word now (ambient o.ambient) drawn (ambient n.ambient) gives_word gives_time [] refl refl

    slot_within : (slot : ℕ) → HasSlot plan.files slot → slot < length o.stores.items
    slot_within slot among =
        omega (arith, all_at (λ (f : NewFile). f.slot < s1.cat.stores) plan.files among.place among.file w.makes.is_plan.slots among.is, among.slot_is, ap (λ (e : Cat). e.stores) announced, slots)

    module _ (s2 : Journal) (whole : KeepBothWhole plugin o.moments kept s1.cat (disk o.main) (disk n.main) o.stores.items n.stores.items) where
      -- the catalogue behind it leads on from the noted one
      done_so : (answer : Option Fault) → IsWrittenNoted disk plugin sink its_plan x.untold first last kept (Ok answer) s2
          → (m : Mark) (ran : Result ⊤ Failure) (fin : Cat) → s2.cat ≡ fin → KeepsBeside rows.cat fin 1 → IsTrue (mark_fits m)
          → fin.pending ≡ Some (noted_in x call undo) → fin.numbers ≡ mid.numbers
          → ((grid : Grid) → grid ≡ grid_of fin → (more : List Mark) (begun : ℕ) (stopped : Bool) → ComesTo its_does ran (course_at (place_by rows.cat x) (m ∷ more) begun stopped)
          (record (course_at (place_by fin (with_mark x m)) more begun stopped) { grid = grid }))
          → IsToldOf (IsKnownBy old rows.cat) (length o.stores.items) m → AreCaused old new (m ∷ []) → (IsTrue (ambient n.ambient).tells → Gave (m ∷ []) (ambient o.ambient) (ambient n.ambient))
          → IsStep old new kept rows x call undo (with_mark (record x { untold = [] }) m) s2 its_does (Ok ran)
      done_so answer it m ran fin fin_is beside spelled pending numbers did told_of caused gave =
          let Q : Cat → Type 0 = λ e. KeepsBeside rows.cat e 1 in
          let N : Cat → Type 0 = λ e. e.pending ≡ Some (noted_in x call undo) in
          let U : Cat → Type 0 = λ e. e.numbers ≡ mid.numbers in
          let beside_now = subst Q (sym fin_is) beside in
          let G : Cat → Type 0 = λ e. (more : List Mark) (begun : ℕ) (stopped : Bool) → ComesTo its_does ran (course_at (place_by rows.cat x) (m ∷ more) begun stopped) (course_at (place_by e (with_mark x m)) more begun stopped) in
          step_noted old new kept rows x call undo w.of mid its_note it.leaves asked_so (whole_before whole) (with_mark (record x { untold = [] }) m) s2 (Ok ran)
          (step_done old new kept rows x call undo w.of mid its_note m s2 ran (subst G (sym fin_is) (did (grid_of fin) refl)) (beside_now.names x.user user) beside_now spelled (subst N (sym fin_is) pending) (subst U (sym fin_is) numbers)
          it.ends.held it.ends.settled it.ends.told it.ends.sink_settled told_of caused gave (λ by_memory. it.ends.whole (λ t late. whole_turned_none plugin t rows.cat s1.cat o.stores.items (turns_before rows.cat x call undo s1.cat announced user) (by_memory t late))))

      -- the grid stayed, and it failed so
      failed_so : (m : Mark) (f : Failure) → fits w.of m ≡ true → ((s : Course) (more : List Mark) → take_mark call s w.of (m ∷ more) ≡ where_mark_fits (fits w.of m) (did_fail (taking s m more) f)) → ((s : Course) (more : List Mark) → (taking s m more).stopped ≡ s.stopped)
          → (grid : Grid) → grid ≡ grid_of mid → (more : List Mark) (begun : ℕ) (stopped : Bool)
          → ComesTo its_does (Err f) (course_at (place_by rows.cat x) (m ∷ more) begun stopped) (record (course_at (place_by mid (with_mark x m)) more begun stopped) { grid = grid })
      failed_so m f it_fits takes unstopped grid grid_is more begun stopped =
          let s = course_at (place_by rows.cat x) (m ∷ more) begun stopped in
          takes s more ∙ ap (λ b. where_mark_fits b (did_fail (taking s m more) f)) it_fits
          ∙ (λ i. gives (did_fail (record (taking s m more) { grid = sym (grid_is ∙ grid_mid) i; stopped = unstopped s more i }) f))

      ran_so : (grid : Grid) → grid ≡ grid_of end → (more : List Mark) (begun : ℕ) (stopped : Bool)
          → ComesTo its_does (Ok tt) (course_at (place_by rows.cat x) (mark.Ran word now [] ∷ more) begun stopped) (record (course_at (place_by end (with_mark x (mark.Ran word now []))) more begun stopped) { grid = grid })
      ran_so grid grid_is more begun stopped =
          let m = mark.Ran word now [] in
          let s = course_at (place_by rows.cat x) (m ∷ more) begun stopped in
          ap (λ b. where_mark_fits b (did_well (record (taking s m more) { grid = w.of.ran word now [] }))) (ran_fits_none w.of.touch)
          ∙ (λ i. gives (did_well (record (taking s m more) { grid = sym (grid_is ∙ w.makes.ran) i })))

      by_answer : (answer : Option Fault) → IsTrue (mark_fits (written_mark word now answer)) → IsWrittenNoted disk plugin sink its_plan x.untold first last kept (Ok answer) s2
          → IsStep old new kept rows x call undo (with_mark (record x { untold = [] }) (written_mark word now answer)) s2 its_does (Ok (written_ran answer))
      by_answer None spelled it =
          done_so None it (mark.Ran word now []) (Ok tt) end it.ends.cat_is beside_end spelled pending_end numbers_end ran_so tt
          (caused_none old new go.count later (mark.Ran word now [] ∷ []) (λ slot. refl)) (gave_ran word now (ambient o.ambient) drawn (ambient n.ambient) gives_word gives_time [])
      by_answer (Some fault) spelled it =
          let m = mark.Fault fault.slot 0 in
          let says = it.ends.says in
          done_so (Some fault) it m (Err (Refused (refusal.Fault fault.slot))) mid it.ends.cat_is beside_mid spelled pending_mid refl
          (failed_so m (Refused (refusal.Fault fault.slot)) (w.slots fault.slot says.0) (λ s more. refl) (λ s more. refl)) tt
          (caused_fault old new go.count later fault.slot 0 (slot_within fault.slot says.0) says.1) (gave_untold word now (ambient o.ambient) drawn (ambient n.ambient) gives_word gives_time (m ∷ []) refl refl)

    -- how it came out, with its mark
    pub put_step : (d : Deed) → row ≡ Ok (deed d) → (result : Result (Result ⊤ Failure) Ending) (y : Command) (s2 : Journal)
        → IsWrittenMarked disk plugin sink its_plan x.untold first last kept x (record { word = word; now = now }) result y s2
        → KeepBothWhole plugin o.moments kept s1.cat (disk o.main) (disk n.main) o.stores.items n.stores.items → IsStep old new kept rows x call undo y s2 (λ s. take_mark call s d s.marks) result
    put_step d row_is (Err e) y s2 it whole = of_row d row_is y s2 (Err e) (cut_so {r = Err e} {s2 = s2} (record { ends = it.ends; leaves = it.leaves }) asked_so whole y s2 e it.ends)
    put_step d row_is (Ok ran) y s2 it whole =
        let took = it.ends in
        let Y : Command → Type 0 = λ c. IsStep old new kept rows x call undo c s2 its_does (Ok (written_ran took.answer)) in
        let R : Result ⊤ Failure → Type 0 = λ r. IsStep old new kept rows x call undo y s2 its_does (Ok r) in
        of_row d row_is y s2 (Ok ran) (subst R (sym took.ran_is) (subst Y (sym took.command) (by_answer s2 whole took.answer took.spelled (record { ends = took.staged; leaves = it.leaves }))))
