-- What the loop over the recoveries keeps.
use Rattle.std.proofs.Common.{◌≡◌, ℕ, ◌+◌, ◌-◌, ◌*◌, ◌^◌, ◌<◌, ◌≤◌, false, List, [], ◌∷◌, ◌++◌, Option, Some, Result, Ok}
use Rattle.std.proofs.Common.{Err, IsErrOf, IsTrue, true, length, take, slice_get, refl, sym, ap, ◌∙◌, subst, length-append, arith}
use Rattle.std.specs.Prelude.{⊤, nat_lt}
use Rattle.std.specs.List.{list_all}
use Rattle.std.proofs.Math.Nat.{add-mul}
use Rattle.std.proofs.lemmas.Bool.{and_parts}
use Rattle.std.proofs.lemmas.List.{take_all}
use Rattle.std.proofs.lemmas.Option.{slice_get_within}
use Rattle.grid_outside.specs.Ambient.{AmbientState}
use Rattle.grid_outside.specs.Disk.{DiskState}
use Rattle.grid_outside.specs.Files.{StoreState}
use Rattle.grid_outside.specs.Sink.{SinkState}
use Rattle.grid_outside.specs.Source.{SourceState}
use Rattle.grid_model.specs.Applying.{is_user}
use Rattle.grid_model.specs.Deltas.{all_fit, call as call_parts, mark as mark_parts}
use Rattle.grid_model.specs.Doing.{do_call}
use Rattle.grid_model.specs.Rows.{Cat}
use Rattle.grid_model.specs.RowGrids.{user_name}
use Rattle.grid_model.specs.RuleText.{Rule}
use Rattle.grid_model.specs.declared.calls.Call.{Call}
use Rattle.grid_model.specs.declared.deltas.Delta.TheVariants as delta
use Rattle.grid_model.specs.declared.deltas.Pending.{Pending}
use Rattle.grid_model.specs.declared.marks.Mark.{Mark}
use Rattle.grid_model.specs.declared.marks.Mark.TheVariants.{Stop}
use Rattle.grid_model.specs.declared.refusal.Failure.{Failure}
use Rattle.grid_journal.specs.Journal.{IsSpelledPending, Journal, can_be_kept}
use Rattle.grid_deed.specs.Held.{IsHeld}
use Rattle.grid_headline.specs.Reads.{HasRules}
use Rattle.grid_headline.specs.Worlds.{World}
use Rattle.run_laws.specs.Passes.{AreReady, CallsPass, Seen}
use Rattle.chain_core.specs.Answers.{failure_in}
use Rattle.service_run.specs.Steps.{IsKnownBy, IsStep}
use Rattle.service_run.specs.declared.command.Command.{Command}
use Rattle.service_run.specs.declared.ending.Ending.{Ending}
use Rattle.service_run.specs.declared.ending.Ending.TheVariants as ending
use Rattle.service_run.proofs.SeenFiles.{take_next}
use Rattle.call_laws.specs.Amid.{world}
use Rattle.call_laws.specs.OneCall.{AreKeepable, IsCut, IsShown, RunsOne, cut, passed_over, ran_out}
use Rattle.call_laws.proofs.Joined.{passes_as, passes_well}
use Rattle.call_laws.proofs.Keepable.{back_of, front_of, joined_of, keepable_next, parts_of}
use Rattle.call_laws.proofs.Rounds.{amid_next}
use Rattle.undo_run.specs.Undoing.{Undoes, stopped_command}
use Rattle.undo_run.proofs.Noting.{may_call}
use Rattle.undo_run.proofs.Results.{undoes_amid, undoes_done, undoes_failed}
use Rattle.undo_run.proofs.Rounds.{goes_next}
use Rattle.undo_run.proofs.Starting.{begun}
use Rattle.undo_run.proofs.Undoings.{AreAmid, undoings}

-- ---- lists

-- a list with a last item
pub last_split : {X : Type 0} (xs ys : List X) (x : X) → ys ≡ xs → Some x ≡ slice_get ys (length ys - 1) → xs ≡ take (length xs - 1) xs ++ x ∷ []
last_split {X} xs ys x same is =
    let S : List X → Type 0 = λ l. Some x ≡ slice_get l (length l - 1) in
    let there : slice_get xs (length xs - 1) ≡ Some x = sym (subst S same is) in
    let more : (length xs - 1) + 1 ≡ length xs = omega (arith, slice_get_within xs (length xs - 1) x there) in
    sym (take_all (length xs) xs (omega arith)) ∙ sym (ap (λ n. take n xs) more) ∙ take_next xs (length xs - 1) x there

pub one_shorter : {X : Type 0} (xs ys : List X) (x : X) → xs ≡ ys ++ x ∷ [] → length xs ≡ length ys + 1
one_shorter xs ys x is = omega (arith, ap length is, length-append ys (x ∷ []))

-- with one recovery fewer left, what those before it and it took is no more than for all
pub one_drawn : (old at new all each left before now : ℕ) → left ≡ before + 1 → now ≡ before → at + left * each ≤ old + all
    → new ≤ at + each → new + now * each ≤ old + all
one_drawn old at new all each left before now one same drawn this =
    let turn : left * each ≡ before * each + each = omega (arith, ap (λ n. n * each) one, add-mul before 1 each) in
    omega (arith, turn, ap (λ n. n * each) same, drawn, this)

pub none_left : {X : Type 0} (xs ys : List X) → ys ≡ xs → length ys ≤ 0 → xs ≡ []
none_left [] ys same few = refl
none_left (x ∷ xs) ys same few = absurd (omega (arith, ap length same, few))

-- any source
pub no_source : SourceState
no_source = record { faults = 0; tells = false; left = [] }

-- ---- what may be kept

-- what is noted of the command that was stopped
keepable_begun : (p : Pending) → IsTrue (can_be_kept (delta.Pending p)) → AreKeepable (stopped_command p) p.undo
keepable_begun p kept =
    let x = parts_of p kept in
    record {
      marks = joined_of (λ m. all_fit (mark_parts m)) p.marks (Stop ∷ []) (and_parts (nat_lt (length p.marks) (2 ^ 64)) _ x.marks).1 refl;
      passed = (and_parts (nat_lt (length p.passed) (2 ^ 64)) _ x.passed).1;
      calls = (and_parts (nat_lt (length p.undo) (2 ^ 64)) _ x.undo).1;
    }

pub keepable_start : (o : Option Pending) (p : Pending) (y : Command) (undo : List Call) → o ≡ Some p → y ≡ stopped_command p → undo ≡ p.undo
    → IsSpelledPending o → AreKeepable y undo
keepable_start o p y undo has command list spelled =
    let kept : IsTrue (can_be_kept (delta.Pending p)) = subst IsSpelledPending has spelled in
    let K : Command → Type 0 = λ x. AreKeepable x undo in
    subst K (sym command) (subst (AreKeepable (stopped_command p)) (sym list) (keepable_begun p kept))

-- the last recovery, and those before it
pub last_fits : (x : Command) (left cs : List Call) (c : Call) → left ≡ cs ++ c ∷ [] → AreKeepable x left → IsTrue (all_fit (call_parts c))
last_fits x left cs c split k =
    let all = ap (list_all (λ d. all_fit (call_parts d))) (sym split) ∙ k.calls in
    (and_parts (all_fit (call_parts c)) true (back_of (λ d. all_fit (call_parts d)) cs (c ∷ []) all)).0

others_fit : (x : Command) (left cs : List Call) (c : Call) → left ≡ cs ++ c ∷ [] → AreKeepable x left → IsTrue (list_all (λ d. all_fit (call_parts d)) cs)
others_fit x left cs c split k =
    front_of (λ d. all_fit (call_parts d)) cs (c ∷ []) (ap (list_all (λ d. all_fit (call_parts d))) (sym split) ∙ k.calls)

-- one recovery further
pub keepable_after : (x y : Command) (left cs calls : List Call) (c : Call) → left ≡ cs ++ c ∷ [] → calls ≡ cs → AreKeepable x left
    → (z : Command) (ran : Result ⊤ Failure) (marks : List Mark)
    → y ≡ passed_over z c (failure_in ran) → z.marks ≡ x.marks ++ marks
    → IsTrue (list_all (λ m. all_fit (mark_parts m)) marks) → z.passed ≡ x.passed → IsShown (failure_in ran) → AreKeepable y calls
keepable_after x y left cs calls c split same k z ran marks over marks_are fit passed shown =
    let next = keepable_next x z left cs c marks (failure_in ran) k (others_fit x left cs c split k) (last_fits x left cs c split k) marks_are fit passed shown
    in
    let K : Command → Type 0 = λ w. AreKeepable w calls in
    subst K (sym over) (subst (AreKeepable (passed_over z c (failure_in ran))) (sym same) next)

-- ---- how far they have come

-- ---- answers

-- one error is another, whatever the answer would have been
same_error : {A B : Type 0} (e x : Ending) → IsErrOf {T = A} {E = Ending} (Err e) x → IsErrOf {T = B} {E = Ending} (Err e) x
same_error e x is =
    let same : e ≡ x = cc in
    ap Err same

-- calls that ended so, whatever the answer would have been
pub passes_err : {X Y D A P K : Type 0} (disk : D → DiskState) (plugin : P → StoreState) (sink : K → SinkState) (e : Ending) (a b : Seen D A P K)
    → CallsPass disk plugin sink (IsErrOf {T = X} {E = Ending} (Err e) ending.Disk) (IsErrOf {T = X} {E = Ending} (Err e) ending.Sink) a b
    → CallsPass disk plugin sink (IsErrOf {T = Y} {E = Ending} (Err e) ending.Disk) (IsErrOf {T = Y} {E = Ending} (Err e) ending.Sink) a b
passes_err disk plugin sink e a b =
    passes_as disk plugin sink _ _ _ _ a b (same_error e ending.Disk) (same_error e ending.Disk) (same_error e ending.Sink)

-- what succeeded failed in no way
ok_fails : {T : Type 0} (a : T) (x : Ending) → ¬ (IsErrOf {T = T} {E = Ending} (Ok a) x)
ok_fails a x is = absurd (cc is)

-- want of memory is no other error
memory_fails : {T : Type 0} (x : Ending) → (ending.Memory ≡ x → ⊥) → ¬ (IsErrOf {T = T} {E = Ending} (Err ending.Memory) x)
memory_fails x other is = other (cc is)

-- calls that went well, whatever the answer is
pub passes_ok : {X Y D A P K : Type 0} (disk : D → DiskState) (plugin : P → StoreState) (sink : K → SinkState) (x : X) (y : Y) (a b : Seen D A P K)
    → CallsPass disk plugin sink (IsErrOf {T = X} {E = Ending} (Ok x) ending.Disk) (IsErrOf {T = X} {E = Ending} (Ok x) ending.Sink) a b
    → CallsPass disk plugin sink (IsErrOf {T = Y} {E = Ending} (Ok y) ending.Disk) (IsErrOf {T = Y} {E = Ending} (Ok y) ending.Sink) a b
passes_ok disk plugin sink x y a b =
    passes_well disk plugin sink _ _ _ _ a b (ok_fails x ending.Disk) (ok_fails y ending.Disk) (ok_fails y ending.Sink)

-- calls that went well, where memory ran out behind them
pub passes_memory : {X Y D A P K : Type 0} (disk : D → DiskState) (plugin : P → StoreState) (sink : K → SinkState) (x : X) (a b : Seen D A P K)
    → CallsPass disk plugin sink (IsErrOf {T = X} {E = Ending} (Ok x) ending.Disk) (IsErrOf {T = X} {E = Ending} (Ok x) ending.Sink) a b
    → CallsPass disk plugin sink (IsErrOf {T = Y} {E = Ending} (Err ending.Memory) ending.Disk) (IsErrOf {T = Y} {E = Ending} (Err ending.Memory) ending.Sink) a b
passes_memory disk plugin sink x a b =
    passes_well disk plugin sink _ _ _ _ a b (ok_fails x ending.Disk) (memory_fails ending.Disk (λ e. cc e)) (memory_fails ending.Sink (λ e. cc e))

module _ {D A P K : Type 0} (disk : D → DiskState) (ambient : A → AmbientState) (plugin : P → StoreState) (sink : K → SinkState) (source : SourceState)
    (from : Seen D A P K) where
  pub amid_start : (rows : Journal) (p q : Pending) (y : Command) (undo : List Call) (more : ℕ) → rows.cat.pending ≡ Some p → rows.cat.pending ≡ Some q
      → y ≡ stopped_command q → undo ≡ q.undo → IsHeld rows.cat (disk from.outside.main) rows → AreReady disk plugin sink more from
      → AreAmid disk ambient plugin sink source from rows.cat p from undo y rows []
  amid_start rows p q y undo more has its command list held ready =
      let both : Some q ≡ Some p = sym its ∙ has in
      let same : q ≡ p = cc in
      let I : Command → List Call → Type 0 = λ x us. AreAmid disk ambient plugin sink source from rows.cat p from us x rows [] in
      subst (λ (x : Command). I x undo) (sym (command ∙ ap stopped_command same))
      (subst (I (stopped_command p)) (sym (list ∙ ap (λ (r : Pending). r.undo) same))
      (begun disk ambient plugin sink source from rows p has held more ready))

  module _ (found : Cat) (p : Pending) (mid : Seen D A P K) (left : List Call) (y : Command) (rows : Journal) (taken : List Mark)
      (are : AreAmid disk ambient plugin sink source from found p mid left y rows taken) where
    pub user_now : IsTrue (is_user rows.cat y.user)
    user_now =
        subst (λ (id : ℕ). IsTrue (is_user rows.cat id)) (sym (ap (λ (x : Command). x.user) are.amid.command)) (are.amid.beside.users p.user are.setting.user)

    pub ready_now : (more less : ℕ) → AreReady disk plugin sink more from → mid.outside.moments + less < 2 ^ 128 → AreReady disk plugin sink less mid
    ready_now more less ready room = record {
      outside = record {
        main_last = are.amid.passes.frame.main_last ready.outside.main_last;
        stores_last = are.amid.passes.frame.stores_last ready.outside.stores_last;
        room = room;
      };
      sink_last = are.amid.passes.sink_last ready.sink_last;
    }

    pub passes_done : (failed sink_failed : Type 0) → (¬ failed) → (¬ sink_failed) → CallsPass disk plugin sink failed sink_failed from mid
    passes_done failed sink_failed well sunk = passes_well disk plugin sink ⊥ ⊥ failed sink_failed from mid (λ e. e) well sunk are.amid.passes

    pub undoes_all : (rules : List Rule) → HasRules found rules → left ≡ []
        → Undoes (world disk ambient plugin sink source from) (world disk ambient plugin sink source mid) found p rules (Ok tt) y rows
    undoes_all rules rules_are none =
        let I : List Call → Type 0 = λ us. AreAmid disk ambient plugin sink source from found p mid us y rows taken in
        undoes_done disk ambient plugin sink source from found p rules rules_are mid y rows taken (subst I none are)

  pub amid_left : (found : Cat) (p : Pending) (at : Seen D A P K) (cs calls : List Call) (y : Command) (rows : Journal) → calls ≡ cs
      → (next : List Mark) × AreAmid disk ambient plugin sink source from found p at cs y rows next
      → (next : List Mark) × AreAmid disk ambient plugin sink source from found p at calls y rows next
  amid_left found p at cs calls y rows same next =
      let I : List Call → Type 0 = λ us. AreAmid disk ambient plugin sink source from found p at us y rows next.0 in
      (next.0, subst I (sym same) next.1)

  -- ---- one recovery

  module _ (found : Cat) (p : Pending) (more : ℕ) (ready : AreReady disk plugin sink more from) (mid new : Seen D A P K)
      (cs : List Call) (c : Call) (y : Command) (rows : Journal) (taken : List Mark) (z : Command) (after : Journal) where
    abbrev at_mid : World P
    at_mid = world disk ambient plugin sink source mid

    abbrev at_new : World P
    at_new = world disk ambient plugin sink source new

    -- with these recoveries left before
    Runs : List Call → Type 0
    Runs left = (are : AreAmid disk ambient plugin sink source from found p mid left y rows taken)
        → RunsOne at_mid at_new are.amid.holds.cat rows y c left after z
        → (next : List Mark) × AreAmid disk ambient plugin sink source from found p new cs z after next

    Cuts : List Rule → Ending → List Call → Type 0
    Cuts rules e left = (are : AreAmid disk ambient plugin sink source from found p mid left y rows taken)
        → IsCut at_mid at_new are.amid.holds.cat rows y c left after z e
        → Undoes (world disk ambient plugin sink source from) at_new found p rules (Err e) z after

    last_of : {left : List Call} → AreAmid disk ambient plugin sink source from found p mid left y rows taken
        → (disk mid.outside.main).last ≤ mid.outside.moments
    last_of are = are.amid.passes.frame.main_last ready.outside.main_last

    -- it was run, and passed over if it failed
    next_of : (left : Command) (ran : Result ⊤ Failure) → CallsPass disk plugin sink ⊥ ⊥ mid new
        → (are : AreAmid disk ambient plugin sink source from found p mid (cs ++ c ∷ []) y rows taken)
        → (step : IsStep at_mid at_new are.amid.holds.cat rows y c (cs ++ c ∷ []) left after (do_call (user_name rows.cat y.user) c) (Ok ran))
        → AreAmid disk ambient plugin sink source from found p new cs (passed_over left c (failure_in ran)) after (taken ++ step.ends.marks)
    next_of left ran passes are step = record {
      setting = are.setting;
      amid = amid_next disk ambient plugin sink source (undoings found p) from are.setting mid new c (cs ++ c ∷ [])
          (do_call (user_name rows.cat y.user) c) y rows taken are.amid
          (may_call found p are.setting.user rows.cat y taken cs c are.amid.command are.amid.beside are.goes) (last_of are) left after ran passes step
          (failure_in ran);
      goes = goes_next found cs c rows.cat after.cat y left ran step.ends.did taken step.ends.marks step.ends.marks_are
          (IsKnownBy at_mid rows.cat) (length mid.outside.stores.items) step.ends.told_of are.goes;
    }

    runs_last : (failed sink_failed : Type 0) → (¬ failed) → CallsPass disk plugin sink failed sink_failed mid new → Runs (cs ++ c ∷ [])
    unfolding Runs
    runs_last failed sink_failed well passes are runs =
        let next = next_of runs.left runs.ran
        (passes_well disk plugin sink failed sink_failed ⊥ ⊥ mid new well (λ e. e) (λ e. e) passes) are runs.step in
        let I : Command → Type 0 = λ x. AreAmid disk ambient plugin sink source from found p new cs x after (taken ++ runs.step.ends.marks) in
        (taken ++ runs.step.ends.marks, subst I (sym runs.over) next)

    cuts_last : (rules : List Rule) → HasRules found rules → (e : Ending)
        → CallsPass disk plugin sink (IsErrOf {T = ⊤} (Err e) ending.Disk) (IsErrOf {T = ⊤} (Err e) ending.Sink) mid new
        → Cuts rules e (cs ++ c ∷ [])
    unfolding Cuts
    cuts_last rules rules_are e passes are (cut step) =
        undoes_failed disk ambient plugin sink source from found p rules rules_are mid new cs c y rows taken are (last_of are) z after e _ _ passes step
    cuts_last rules rules_are e passes are (ran_out ran left step) =
        let well = passes_well disk plugin sink _ _ ⊥ ⊥ mid new (λ is. cc) (λ e. e) (λ e. e) passes in
        let next = next_of left ran well are step in
        undoes_amid disk ambient plugin sink source from found p rules rules_are new cs (passed_over left c (failure_in ran)) after (taken ++ step.ends.marks)
        next z after

    -- the last of these was run
    pub round_done : (left : List Call) → left ≡ cs ++ c ∷ [] → (failed sink_failed : Type 0) → (¬ failed)
        → CallsPass disk plugin sink failed sink_failed mid new
        → (are : AreAmid disk ambient plugin sink source from found p mid left y rows taken) → RunsOne at_mid at_new are.amid.holds.cat rows y c left after z
        → (next : List Mark) × AreAmid disk ambient plugin sink source from found p new cs z after next
    unfolding Runs
    round_done left split failed sink_failed well passes = subst Runs (sym split) (runs_last failed sink_failed well passes)

    -- it was cut short, or could not be noted
    pub round_cut : (rules : List Rule) → HasRules found rules → (left : List Call) → left ≡ cs ++ c ∷ [] → (e : Ending)
        → CallsPass disk plugin sink (IsErrOf {T = ⊤} (Err e) ending.Disk) (IsErrOf {T = ⊤} (Err e) ending.Sink) mid new
        → (are : AreAmid disk ambient plugin sink source from found p mid left y rows taken) → IsCut at_mid at_new are.amid.holds.cat rows y c left after z e
        → Undoes (world disk ambient plugin sink source from) at_new found p rules (Err e) z after
    unfolding Cuts
    round_cut rules rules_are left split e passes = subst (Cuts rules e) (sym split) (cuts_last rules rules_are e passes)
