-- What the calls of a run of rules show, from where they began to where they came.
use Rattle.std.proofs.Common.{◌≡◌, false, inl, inr, refl, sym, subst, ◌∙◌, ◌+◌, ◌*◌, ◌^◌, ◌≤◌, List, [], ◌++◌, Option, Some, None, Result, Ok, Err, ℕ}
use Rattle.std.proofs.Common.{IsErrOf, IsTrue, length}
use Rattle.std.specs.Prelude.{All, IfOk, ◌⊎◌}
use Rattle.std.proofs.lemmas.List.Elements.{All-weaker}
use Rattle.grid_outside.specs.Ambient.{AmbientState}
use Rattle.grid_outside.specs.Disk.{DiskState}
use Rattle.grid_outside.specs.Files.{StoreState}
use Rattle.grid_outside.specs.Sink.{SinkState}
use Rattle.grid_outside.specs.Source.{SourceState}
use Rattle.grid_model.specs.Applying.{is_user}
use Rattle.grid_model.specs.Names.{Text}
use Rattle.grid_model.specs.Rows.{Cat}
use Rattle.grid_model.specs.RowGrids.{user_name, grid_of}
use Rattle.grid_model.specs.RuleText.{Rule}
use Rattle.grid_model.specs.Values.{Env, Value}
use Rattle.grid_model.specs.Meanings.{Meaning}
use Rattle.grid_model.specs.Chains.{Named}
use Rattle.grid_model.specs.Sessions.{State}
use Rattle.grid_model.specs.Runs.{Request}
use Rattle.grid_model.specs.declared.calls.Call.{Call}
use Rattle.grid_model.specs.declared.marks.Mark.{Mark}
use Rattle.grid_deed.specs.Held.{IsHeld}
use Rattle.chain_core.specs.declared.actions.Outcome as told
use Rattle.chain_core.specs.declared.frames.Frames.{Frames}
use Rattle.chain_run.specs.Calls.{Made, MakesCalls, MakesCallsUntil, OnlyLastStops, stop_of}
use Rattle.chain_run.specs.declared.stop.RunStop.{RunStop}
use Rattle.chain_run.specs.declared.stop.RunStop.TheVariants as run
use Rattle.chain_run.specs.Places.{Place, course_at}
use Rattle.chain_run.specs.Runs.{IsDue, ReachesEnd, by_itself, whole_from}
use Rattle.chain_run.proofs.Reaching.{due_as, ends_as}
use Rattle.chain_laws.specs.Ending.{Completes, MachinesComplete}
use Rattle.run_laws.specs.Passes.{AreReady, CallsPass, Seen}
use Rattle.service_run.specs.declared.command.Command.{Command}
use Rattle.service_run.specs.declared.ending.Ending.{Ending}
use Rattle.service_run.specs.declared.ending.Ending.TheVariants as ending
use Rattle.call_laws.specs.Amid.{IsAmid, IsSetting}
use Rattle.call_laws.specs.OneCall.{AreKeepable, IsKeepable}
use Rattle.call_laws.proofs.Joined.{passes_well}
use Rattle.rule_run.specs.declared.calling.Calling.{Calling}
use Rattle.rule_run.specs.Asked.{IsAsked, asked_setting}
use Rattle.rule_run.specs.Calls.{Chain, MayGoOn, Spot}
use Rattle.rule_run.specs.Running.{RunEnds, WaitsWith, alone_from, ended_by}
use Rattle.rule_run.proofs.Chains.{drawn_all, passes_all, passes_to_stop, within_all}
use Rattle.rule_run.proofs.Passing.{same_Err}
use Rattle.rule_run.proofs.Spots.{LentAlike, place_at, spot_of}
use Rattle.rule_run.proofs.RunEnds.{ends_stopped, ends_well, ends_without_memory}
use Rattle.size_laws.specs.Within.{TakesAtMost, IsWithin}

no_disk : (e : Ending) → e ≡ ending.Memory → IsErrOf {T = told.Outcome} (Err e) ending.Disk → ⊥
no_disk e is failed = let same : e ≡ ending.Disk = same_Err e ending.Disk failed in cc

no_sink : (e : Ending) → e ≡ ending.Memory → IsErrOf {T = told.Outcome} (Err e) ending.Sink → ⊥
no_sink e is failed = let same : e ≡ ending.Sink = same_Err e ending.Sink failed in cc

module _ {D A P K : Type 0} (disk : D → DiskState) (ambient : A → AmbientState) (plugin : P → StoreState) (sink : K → SinkState) where
  -- calls may be made there
  pub may_begin : (at : Spot D A P K) → (kept : Cat) × IsHeld kept (disk at.seen.outside.main) at.rows → IsTrue (is_user at.rows.cat at.command.user)
      → at.rows.cat.stores ≡ length at.seen.outside.stores.items → IsKeepable at.command → AreKeepable at.command []
      → AreReady disk plugin sink (at.left * 2 ^ 65) at.seen → MayGoOn disk ambient plugin sink at
  may_begin at held user slots words kept ready =
      record { held = held; user = user; slots = slots; words = words; kept = kept; ready = ready }

  -- what a doer has come to by calls
  abbrev pub Went : Calling D K A P → List (Made Ending) → Calling D K A P → Type 0
  Went c calls d =
      Chain disk ambient plugin sink (spot_of c) calls (spot_of d)
      × (d.store.ghost_name ≡ c.store.ghost_name)
      × (d.outside.ghost_name ≡ c.outside.ghost_name)
      × (d.sink.ghost_name ≡ c.sink.ghost_name)
      × (d.command.ghost_name ≡ c.command.ghost_name)

  -- a size is not told for want of memory alone
  abbrev pub NoSize : Calling D K A P → Ending → Type 0
  NoSize c stop = stop ≡ ending.Memory

  went_alike : (c d : Calling D K A P) (calls : List (Made Ending)) → Went c calls d → LentAlike c d
  went_alike c d calls w = (w.1, w.2, w.3, w.4)

  -- ---- what was run, from a place on

  module _ (rules : List Rule) (env : Env) (whole : Place → List Mark → Meaning Named) where
    abbrev Due : Spot D A P K → Made Ending → Type 0
    Due s = IsDue rules env (whole (place_at s)) (place_at s)

    -- Calls were made from the one spot to the other, each of which was due. None but the last one was stopped, and it by this.
    pub record MadeSo (stop : Option Ending) (start end : Spot D A P K) : Type 0 where
      pub calls : List (Made Ending)
      pub chain : Chain disk ambient plugin sink start calls end
      pub due : All (Due start) calls
      pub stops : OnlyLastStops stop calls

    -- It was run to its end.
    pub record RanWell (outcome : told.Outcome) (m : Frames) (start end : Spot D A P K) : Type 0 where
      pub made : MadeSo None start end
      pub ends : ReachesEnd (whole (place_at start)) (place_at start) outcome m (place_at end)
      pub ready : MayGoOn disk ambient plugin sink end

    -- it was cut short: the last call was stopped so, or none was, and there was no memory.
    abbrev RanShort : Ending → Spot D A P K → Spot D A P K → Type 0
    RanShort e start end = MadeSo (Some e) start end ⊎ (MadeSo None start end × (e ≡ ending.Memory))

    -- how it ended, where the machine counts so from then on
    abbrev pub Ran : Result told.Outcome Ending → Frames → Spot D A P K → Spot D A P K → Type 0
    Ran (Ok outcome) m start end = RanWell outcome m start end
    Ran (Err e) m start end = RanShort e start end

    -- ---- by what the doer did that began with what a caller lent, and whose end the caller has

    module _ (c d : Calling D K A P) (start end : Spot D A P K) (begins : spot_of c ≡ start) (ends : LentAlike c d → spot_of d ≡ end) where
      made_of : (stop : Option Ending) → MakesCalls Went (Due (spot_of c)) stop c d → MadeSo stop (spot_of c) (spot_of d)
      made_of stop m = record { calls = m.calls; chain = m.went_so.0; due = m.due; stops = m.stops }

      there : (result : Result told.Outcome Ending) (m : Frames) → LentAlike c d → Ran result m (spot_of c) (spot_of d) → Ran result m start end
      there result m alike it =
          let B : Spot D A P K → Type 0 = λ s. Ran result m s (spot_of d) in
          subst (Ran result m start) (ends alike) (subst B begins it)

      abbrev Due0 : Made Ending → Type 0
      Due0 = Due (spot_of c)

      pub ran_to : (ran : Result told.Outcome (RunStop Ending)) (m : Frames) → MakesCallsUntil Went Due0 NoSize (stop_of ran) c d
          → IfOk ran (λ outcome. ReachesEnd (whole (place_at (spot_of c))) (place_at (spot_of c)) outcome m (place_at (spot_of d)))
          → IfOk ran (λ outcome. MayGoOn disk ambient plugin sink (spot_of d)) → Ran (ended_by ran) m start end
      ran_to (Ok outcome) m makes reaches ready =
          there (Ok outcome) m (went_alike c d makes.calls makes.went_so) (record { made = made_of None makes; ends = reaches; ready = ready })
      ran_to (Err run.Memory) m makes reaches ready =
          there (Err ending.Memory) m (went_alike c d makes.calls makes.went_so) (inr (made_of None makes, refl))
      ran_to (Err (run.Stopped e)) m (inl it) reaches ready = there (Err e) m (went_alike c d it.calls it.went_so) (inl (made_of (Some e) it))
      ran_to (Err (run.Stopped e)) m (inr it) reaches ready =
          there (Err e) m (went_alike c d it.0.calls it.0.went_so) (inr (made_of None it.0, it.1))

    -- ---- what is shown

    module _ (start end : Spot D A P K) where
      -- of the request, where the machine counts so from then on
      abbrev pub Shows : Frames → Result told.Outcome Ending → Type 0
      Shows m result =
          user_name start.rows.cat start.command.user ≡ env.user → (disk start.seen.outside.main).last ≤ start.seen.outside.moments
          → (source : SourceState) (at : State) (request : Request) (before : Cat) (x : Command) (text_of : List Mark → Text)
          (from : Seen D A P K) (taken : List Mark) → IsSetting (asked_setting at request before x text_of)
          → IsAmid disk ambient plugin sink source (asked_setting at request before x text_of) from start.seen start.command start.rows taken
          → WaitsWith at request (whole (place_at start)) taken → IsAsked at request before x
          → RunEnds disk ambient plugin sink source at request before x text_of from end.seen (whole (place_at start)) taken m result end.command end.rows

      shows_well : (outcome : told.Outcome) (m : Frames) → RanWell outcome m start end → Shows m (Ok outcome)
      shows_well outcome m it name last source at request before x text_of from taken setting amid waits asked =
          ends_well disk ambient plugin sink source at request before x asked text_of setting from taken start amid last rules env (whole (place_at start))
          name waits it.made.calls end it.made.chain it.made.due it.made.stops outcome m it.ends

      shows_short : MachinesComplete → Completes (whole (place_at start)) → (e : Ending) (m : Frames) → RanShort e start end → Shows m (Err e)
      shows_short machines completes e m (inl it) name last source at request before x text_of from taken setting amid waits asked =
          ends_stopped disk ambient plugin sink source at request before x asked text_of setting from taken start amid last rules env (whole (place_at start))
          name waits it.calls end it.chain it.due machines completes e it.stops m end.command
      shows_short machines completes e m (inr it) name last source at request before x text_of from taken setting amid waits asked =
          let R : Ending → Type 0 = λ f.
          RunEnds disk ambient plugin sink source at request before x text_of from end.seen (whole (place_at start)) taken m (Err f) end.command end.rows in
          subst R (sym it.1)
          (ends_without_memory disk ambient plugin sink source at request before x asked text_of setting from taken start amid last rules env
          (whole (place_at start)) name waits it.0.calls end it.0.chain it.0.due machines completes it.0.stops m end.command)

      pub shows : MachinesComplete → Completes (whole (place_at start)) → (result : Result told.Outcome Ending) (m : Frames) → Ran result m start end
          → Shows m result
      shows machines completes (Ok outcome) m it = shows_well outcome m it
      shows machines completes (Err e) m it = shows_short machines completes e m it

      -- of the devices
      passes_made : MadeSo None start end → (failed sink_failed : Type 0) → (¬ failed) → (¬ sink_failed)
          → CallsPass disk plugin sink failed sink_failed start.seen end.seen
      passes_made made failed sink_failed well sunk =
          passes_well disk plugin sink ⊥ ⊥ failed sink_failed start.seen end.seen (λ e. e) well sunk
          (passes_all disk ambient plugin sink start made.calls end made.chain made.stops)

      short_passes : (e : Ending) → RanShort e start end
          → CallsPass disk plugin sink (IsErrOf {T = told.Outcome} (Err e) ending.Disk) (IsErrOf {T = told.Outcome} (Err e) ending.Sink) start.seen end.seen
      short_passes e (inl made) = passes_to_stop disk ambient plugin sink start {T = told.Outcome} e made.calls end made.chain made.stops
      short_passes e (inr made) = passes_made made.0 _ _ (no_disk e made.1) (no_sink e made.1)

      pub passes : (result : Result told.Outcome Ending) (m : Frames) → Ran result m start end
          → CallsPass disk plugin sink (IsErrOf result ending.Disk) (IsErrOf result ending.Sink) start.seen end.seen
      passes (Ok outcome) m it = passes_made it.made _ _ (λ e. cc) (λ e. cc)
      passes (Err e) m it = short_passes e it

      abbrev IsDrawn : Type 0
      IsDrawn = (each : ℕ) → TakesAtMost (grid_of start.rows.cat) each
          → end.seen.outside.moments + end.left * each ≤ start.seen.outside.moments + start.left * each

      made_draws : (stop : Option Ending) → MadeSo stop start end → IsDrawn
      made_draws stop made each most = drawn_all disk ambient plugin sink start each most stop made.calls end made.chain made.stops

      pub draws : (result : Result told.Outcome Ending) (m : Frames) → Ran result m start end → IsDrawn
      draws (Ok outcome) m it = made_draws None it.made
      draws (Err e) m (inl made) = made_draws (Some e) made
      draws (Err e) m (inr made) = made_draws None made.0

      -- of what its grid is within
      pub stays : (result : Result told.Outcome Ending) (m : Frames) → Ran result m start end
          → IfOk result (λ outcome. IsWithin (grid_of start.rows.cat) → IsWithin (grid_of end.rows.cat))
      stays (Ok outcome) m it = within_all disk ambient plugin sink start it.made.calls end it.made.chain it.made.stops
      stays (Err e) m it = tt

      -- of what the command needs for its next call
      pub holds : (result : Result told.Outcome Ending) (m : Frames) → Ran result m start end
          → IfOk result (λ outcome. (kept : Cat) × IsHeld kept (disk end.seen.outside.main) end.rows)
      holds (Ok outcome) m it = it.ready.held
      holds (Err e) m it = tt

      pub keeps : (result : Result told.Outcome Ending) (m : Frames) → Ran result m start end → user_name start.rows.cat start.command.user ≡ env.user
          → start.rows.cat.stores ≡ length start.seen.outside.stores.items
          → IfOk result (λ outcome. IsTrue (is_user end.rows.cat end.command.user) × IsKeepable end.command × AreKeepable end.command []
          × (user_name end.rows.cat end.command.user ≡ env.user) × (end.rows.cat.stores ≡ start.rows.cat.stores))
      keeps (Ok outcome) m it name slots = (
        it.ready.user,
        it.ready.words,
        it.ready.kept,
        it.ends.user ∙ name,
        it.ready.slots ∙ (passes (Ok outcome) m it).frame.stores.count ∙ sym slots,
      )
      keeps (Err e) m it name slots = tt

  -- ---- what was run, said otherwise

  module _ (rules : List Rule) (env : Env) (v w : Place → List Mark → Meaning Named) (same : (p : Place) (marks : List Mark) → v p marks ≡ w p marks)
      (start end : Spot D A P K) where
    made_as : (stop : Option Ending) → MadeSo rules env v stop start end → MadeSo rules env w stop start end
    made_as stop made = record {
      calls = made.calls;
      chain = made.chain;
      due = All-weaker (IsDue rules env (v (place_at start)) (place_at start)) (IsDue rules env (w (place_at start)) (place_at start))
          (due_as rules env (v (place_at start)) (w (place_at start)) (place_at start) (same (place_at start))) made.calls made.due;
      stops = made.stops;
    }

    pub ran_as : (result : Result told.Outcome Ending) (m : Frames) → Ran rules env v result m start end → Ran rules env w result m start end
    ran_as (Ok outcome) m it = record {
      made = made_as None it.made;
      ends = ends_as (v (place_at start)) (w (place_at start)) (place_at start) outcome m (place_at end) (same (place_at start)) it.ends;
      ready = it.ready;
    }
    ran_as (Err e) m (inl made) = inl (made_as (Some e) made)
    ran_as (Err e) m (inr made) = inr (made_as None made.0, made.1)

-- ---- a call by itself

-- the end with these values
pub reaches_with : (whole : List Value → List Mark → Meaning Named) (Has : List Value → Type 0) (from to : Place) (m : Frames)
    (ran : Result told.Outcome (RunStop Ending)) → IfOk ran (λ outcome. (vs : List Value) → Has vs → ReachesEnd (whole vs) from outcome m to)
    → (vs : List Value) → Has vs → IfOk ran (λ outcome. ReachesEnd (whole vs) from outcome m to)
reaches_with whole Has from to m (Ok outcome) ends vs has = ends vs has
reaches_with whole Has from to m (Err e) ends vs has = tt

-- a call by itself is run by a machine that has counted nothing yet
pub alone_same : (rules : List Rule) (env : Env) (call : Call) (vs : List Value) (m : Frames) → m.begun ≡ 0 → m.stopped ≡ false → (p : Place)
    (later : List Mark) → whole_from (by_itself rules env call vs) m p later ≡ alone_from rules env call vs p later
alone_same rules env call vs m none_begun not_stopped p later = λ i. by_itself rules env call vs (course_at p later (none_begun i) (not_stopped i))

pub completes_as : (v w : List Mark → Meaning Named) → ((marks : List Mark) → v marks ≡ w marks) → Completes v → Completes w
completes_as v w same c = record { rest = c.rest; ran = c.ran; end = c.end; gives_so = λ later. sym (same (c.rest ++ later)) ∙ c.gives_so later }
