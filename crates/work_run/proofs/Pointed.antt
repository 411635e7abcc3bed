-- The rules of a point of a request: what there is to do behind them, and what they leave where they were cut short.
use Rattle.std.proofs.Common.{◌≡◌, ◌⊎◌, inl, inr, Bool, true, false, List, [], ◌++◌, Option, Some, None, Err, length, refl, sym, ap, ◌∙◌}
use Rattle.std.proofs.Common.{append_assoc}
use Rattle.std.proofs.lemmas.List.{append-nil}
use Rattle.std.specs.Option.{option_map_or}
use Rattle.grid_outside.specs.Ambient.{AmbientState}
use Rattle.grid_outside.specs.Disk.{DiskState}
use Rattle.grid_outside.specs.Files.{StoreState}
use Rattle.grid_outside.specs.Sink.{SinkState}
use Rattle.grid_outside.specs.Source.{SourceState}
use Rattle.grid_outside.specs.declared.outside.Wear.TheVariants as wear
use Rattle.grid_model.specs.Names.{Text}
use Rattle.grid_model.specs.Rows.{Cat}
use Rattle.grid_model.specs.RuleText.{Rule}
use Rattle.grid_model.specs.Values.{Env}
use Rattle.grid_model.specs.Meanings.{Meaning, Waiting, gives, mapped, waits, ◌>>=◌}
use Rattle.grid_model.specs.Doing.{Course, Did}
use Rattle.grid_model.specs.Chains.{Named, Outcome, call_rule, failed, halted}
use Rattle.grid_model.specs.Points.{Point, post_name, pre_name}
use Rattle.grid_model.specs.Sessions.{State}
use Rattle.grid_model.specs.Working.{Done, Sent, after_pre, done, ending, failure_of, rows_shown}
use Rattle.grid_model.specs.Runs.{Request, does}
use Rattle.grid_model.specs.declared.marks.Mark.{Mark}
use Rattle.grid_model.specs.declared.marks.Mark.TheVariants.{Ran}
use Rattle.grid_model.specs.declared.refusal.Failure.{Failure}
use Rattle.grid_model.specs.declared.refusal.Failure.TheVariants as failure
use Rattle.grid_model.specs.declared.replies.End.{End}
use Rattle.grid_model.specs.declared.replies.End.TheVariants as end
use Rattle.grid_journal.specs.Journal.{Journal}
use Rattle.chain_core.specs.Rest.{course, outcome_of}
use Rattle.chain_core.specs.declared.actions.Outcome as told
use Rattle.chain_core.specs.declared.actions.Outcome.TheVariants as outcome
use Rattle.chain_core.specs.declared.frames.Frames.{Frames}
use Rattle.chain_laws.specs.Ending.{leaving}
use Rattle.chain_run.specs.Places.{Place, course_at, course_from}
use Rattle.point_laws.specs.Names.{NamesAreStopped, NamesHalt}
use Rattle.point_laws.specs.Works.{DoneEnds, PreEnds, Work, work_of}
use Rattle.run_laws.specs.Passes.{Seen}
use Rattle.run_laws.proofs.Lists.{all-append}
use Rattle.service_run.specs.declared.command.Command.{Command}
use Rattle.service_run.specs.declared.ending.Ending.{Ending}
use Rattle.service_run.specs.declared.ending.Ending.TheVariants as ending
use Rattle.rule_run.specs.Asked.{IsAsked}
use Rattle.rule_run.specs.Executing.{Executes, HasRunOut}
use Rattle.rule_run.specs.Running.{HasRunDry, IsRunShort, WaitsWith, point_from}
use Rattle.grid_headline.specs.Files.{IsKnown}
use Rattle.call_laws.specs.Amid.{world}
use Rattle.rule_run.proofs.Handling.{IsCutEnd, cut_executes}
use Rattle.work_run.specs.Behind.{IsBehind, IsEnded, Said, from_start, from_work, from_worked}
use Rattle.work_run.specs.Pointed.{point_end, rows_told}
use Rattle.work_run.proofs.Worked.{down}

-- what rules left, as a call
abbrev pub did_of : Named → Did
did_of n = record { state = n.state; failure = failure_of n.outcome }

-- ---- stops

ending_point : (s : Course) (before : Failure → End) (f : Failure) → (s.stopped ≡ true → f ≡ failure.Stopped) → (f ≡ failure.Stopped → s.stopped ≡ true)
    → ending s (before f) ≡ point_end before f
ending_point s before f halts stops = by s.stopped refl
  where
    never : (b : Bool) → b ≡ false → b ≡ true → ⊥
    never b off on = let both : true ≡ false = sym on ∙ off in cc both

    its : (g : Failure) → (g ≡ failure.Stopped → ⊥) → before g ≡ point_end before g
    its (failure.Refused r) apart = refl
    its failure.Stopped apart = absurd (apart refl)
    its (failure.Code z) apart = refl
    its failure.NoRule apart = refl
    its failure.Depth apart = refl
    its failure.Spent apart = refl
    its failure.LongText apart = refl

    by : (b : Bool) → s.stopped ≡ b → ◌≡◌ {A = End} (elim b [ true ↦ end.Stopped | false ↦ before f ]) (point_end before f)
    by true on = sym (ap (point_end before) (halts on))
    by false off = its f (λ is. never s.stopped off (stops is))

failed_halted : (o : Outcome) (f : Failure) → o ≡ halted failure.Stopped → failure_of o ≡ Some f → f ≡ failure.Stopped
failed_halted o f is e = let both : Some f ≡ Some failure.Stopped = sym e ∙ ap failure_of is in cc both

stopped_so : (o : told.Outcome) → failure_of (outcome_of o) ≡ Some failure.Stopped
    → (outcome_of o ≡ halted failure.Stopped) ⊎ (outcome_of o ≡ failed failure.Stopped)
stopped_so outcome.EndedWell is = absurd (cc is)
stopped_so (outcome.Failed f) is = let same : f ≡ failure.Stopped = cc is in inr (ap failed same)
stopped_so (outcome.Halted f) is = let same : f ≡ failure.Stopped = cc is in inl (ap halted same)
stopped_so outcome.NoneApplied is = absurd (cc is)

module _ (at : State) (request : Request) (rules : List Rule) (env : Env) (text : Text) (m : Frames) (q : Place) (taken : List Mark) (rest : Course → Meaning Done)
    (go : Meaning Did → Meaning Done) (waits_so : (w : Waiting) → go (waits w) ≡ waits w)
    (is : (s : Course) → rest s ≡ go (mapped did_of (call_rule rules env text [] s)))
    (behind : IsBehind at request taken q m.begun rest) (off : m.stopped ≡ false) where
  abbrev pub whole : List Mark → Meaning Named
  whole = point_from rules env text m q

  comes : (more : List Mark) → does at request (taken ++ more) ≡ go (mapped did_of (whole more))
  comes more =
      behind more
      ∙ is (course_at q more m.begun false)
      ∙ ap (λ (b : Bool). go (mapped did_of (call_rule rules env text [] (course_at q more m.begun b)))) (sym off)

  -- where they wait the request does
  pub waits_with : WaitsWith at request whole taken
  waits_with more w e = comes more ∙ ap (λ (n : Meaning Named). go (mapped did_of n)) e ∙ waits_so w

  came : (more later : List Mark) (n : Named) → whole (more ++ later) ≡ gives n → does at request ((taken ++ more) ++ later) ≡ go (gives (did_of n))
  came more later n e =
      ap (does at request) (append_assoc taken more later)
      ∙ comes (more ++ later)
      ∙ ap (λ (k : Meaning Named). go (mapped did_of k)) e

  -- ---- to their end

  module _ (halts : NamesHalt) (stopped : NamesAreStopped) (more : List Mark) (o : told.Outcome) (k : Frames) (r : Place)
      (gives_so : (later : List Mark) → whole (more ++ later) ≡ gives (record { state = course k (course_from r later); outcome = outcome_of o })) where
    abbrev named : List Mark → Named
    named later = record { state = course k (course_from r later); outcome = outcome_of o }

    its_halt : k.stopped ≡ true → outcome_of o ≡ halted failure.Stopped
    its_halt on = halts rules env text [] (course m (course_from q (more ++ []))) (named []) off (gives_so []) on

    its_stop : failure_of (outcome_of o) ≡ Some failure.Stopped → k.stopped ≡ true
    its_stop e = stopped rules env text [] (course m (course_from q (more ++ []))) (named []) (gives_so []) (stopped_so o e)

    pub goes_on : (later : List Mark) → does at request ((taken ++ more) ++ later) ≡ go (gives (did_of (named later)))
    goes_on later = came more later (named later) (gives_so later)

    -- they did not fail, and no stop was taken
    pub unstopped : failure_of (outcome_of o) ≡ None → k.stopped ≡ false
    unstopped none = down k.stopped (λ on. (let both : Some failure.Stopped ≡ None = ap failure_of (sym (its_halt on)) ∙ none in cc both))

    -- they failed, where so many rows were found and this was sent
    pub ended_failed : (before : Failure → End) (found rows : List (List Text)) (sent : Option Sent) (f : Failure) → failure_of (outcome_of o) ≡ Some f
        → go (gives (did_of (named []))) ≡ gives (done at (course k (course_from r [])) [] found sent (before f))
        → ((halt : k.stopped ≡ true → f ≡ failure.Stopped) → (stop : f ≡ failure.Stopped → k.stopped ≡ true)
        → rows_shown (course k (course_from r [])) (before f) found ≡ rows)
        → IsEnded at request (taken ++ more) r rows sent (point_end before f)
    ended_failed before found rows sent f failed_so done_so rows_so = record {
      begun = k.begun;
      stopped = k.stopped;
      found = found;
      told = before f;
      does_so = ap (does at request) (sym (append-nil (taken ++ more))) ∙ goes_on [] ∙ done_so;
      rows_are = rows_so halted_so stopped_as;
      end_is = ending_point (course k (course_from r [])) before f halted_so stopped_as;
    }
      where
        halted_so : k.stopped ≡ true → f ≡ failure.Stopped
        halted_so on = failed_halted (outcome_of o) f (its_halt on) failed_so

        stopped_as : f ≡ failure.Stopped → k.stopped ≡ true
        stopped_as e = its_stop (failed_so ∙ ap Some e)

  -- ---- cut short

  -- with what was run behind them, and what is still to do
  module _ (our_end : (n : Named) → DoneEnds (λ later. go (gives (did_of (leaving later n))))) (more ran : List Mark) (n : Named)
      (gives_so : (later : List Mark) → whole (more ++ (ran ++ later)) ≡ gives (leaving later n)) where
    pub cut_does : does at request ((taken ++ more) ++ (ran ++ (our_end n).rest)) ≡ gives (our_end n).d
    cut_does = came more (ran ++ (our_end n).rest) (leaving (our_end n).rest n) (gives_so (our_end n).rest) ∙ (our_end n).gives_so

  module _ {D A P K : Type 0} (disk : D → DiskState) (ambient : A → AmbientState) (plugin : P → StoreState) (sink : K → SinkState) (source : SourceState)
      (before : Cat) (x : Command) (asked : IsAsked at request before x) (text_of : List Mark → Text) (from new : Seen D A P K)
      (our_end : (n : Named) → DoneEnds (λ later. go (gives (did_of (leaving later n)))))
      (cuts : (more ran : List Mark) (n : Named) → ((later : List Mark) → whole (more ++ (ran ++ later)) ≡ gives (leaving later n))
      → IsCutEnd x.number text_of at request (IsKnown (world disk ambient plugin sink source from) before) (taken ++ more)
      ((taken ++ more) ++ (ran ++ (our_end n).rest))) where
    out_of : (e : Ending) → HasRunDry disk ambient plugin sink source at request before x text_of from new whole taken e
        → HasRunOut disk ambient plugin sink source at request before x from new e
    out_of ending.Disk out = tt
    out_of ending.Sink out = tt
    out_of ending.Memory out = tt
    out_of (ending.Worn wear.Vaults place) out = out
    out_of (ending.Worn wear.Log place) out = out
    out_of (ending.Worn wear.Runs place) out = out

    pub cut_so : (e : Ending) → IsRunShort disk ambient plugin sink source at request before x text_of from new whole taken
        → HasRunDry disk ambient plugin sink source at request before x text_of from new whole taken e
        → length new.outside.stores.items ≡ length from.outside.stores.items → (after : Journal)
        → Executes disk ambient plugin sink source at request before x from new (Err e) after
    cut_so e short dry count after =
        let our = our_end short.end in
        cut_executes disk ambient plugin sink source at request before x asked text_of from new (taken ++ short.more) short.cut count (short.rest ++ our.rest)
        (all-append (λ (k : Mark). k ≡ Ran 0 0 []) short.rest our.rest short.ran our.ran)
        (cuts short.more short.rest short.end short.gives_so) e (out_of e dry) after

-- ---- the rules before the work

module _ (at : State) (p : Point) (user : Text) (w : Work) where
  abbrev pub go_pre : Meaning Did → Meaning Done
  go_pre n = n >>= after_pre at (Some p) (work_of user w)

  pub pre_waits : (w : Waiting) → go_pre (waits w) ≡ waits w
  pre_waits w = refl

  pub pre_as : (rules : List Rule) (env : Env) (text : Text) → at.rules ≡ rules → p.env ≡ env → pre_name p ≡ text → (s : Course)
      → from_start at (Some p) user w s ≡ go_pre (mapped did_of (call_rule rules env text [] s))
  pre_as rules env text r e t s = λ i. go_pre (mapped did_of (call_rule (r i) (e i) (t i) [] s))

  pub pre_end : PreEnds → (n : Named) → DoneEnds (λ later. go_pre (gives (did_of (leaving later n))))
  pre_end ends n = ends at (Some p) user w (did_of n)

  -- where they did not fail
  pub pre_well : (s : Course) (o : Outcome) → failure_of o ≡ None
      → go_pre (gives (did_of (record { state = s; outcome = o }))) ≡ from_work at (Some p) user w s
  pre_well s o none = ap (λ (f : Option Failure). after_pre at (Some p) (work_of user w) (record { state = s; failure = f })) none

  pub pre_failed : (s : Course) (o : Outcome) (f : Failure) → failure_of o ≡ Some f
      → go_pre (gives (did_of (record { state = s; outcome = o }))) ≡ gives (done at s [] [] None (end.PreFailed f))
  pre_failed s o f is = ap (λ (g : Option Failure). after_pre at (Some p) (work_of user w) (record { state = s; failure = g })) is

-- ---- the rules behind it

module _ (at : State) (p : Point) (said : Said) where
  abbrev pub post_done : Did → Done
  post_done d = done at d.state [] said.rows said.sent (option_map_or end.PostFailed d.failure (end.Done said.words))

  abbrev pub go_post : Meaning Did → Meaning Done
  go_post n = mapped post_done n

  pub post_waits : (w : Waiting) → go_post (waits w) ≡ waits w
  post_waits w = refl

  pub post_as : (rules : List Rule) (env : Env) (text : Text) → at.rules ≡ rules → p.env ≡ env → post_name p ≡ text → (s : Course)
      → from_worked at (Some p) said s ≡ go_post (mapped did_of (call_rule rules env text [] s))
  post_as rules env text r e t s = λ i. go_post (mapped did_of (call_rule (r i) (e i) (t i) [] s))

  abbrev pub post_end : (n : Named) → DoneEnds (λ later. go_post (gives (did_of (leaving later n))))
  post_end n = record { rest = []; ran = tt; d = post_done (did_of (leaving [] n)); gives_so = refl; all = refl }

  pub post_well : (s : Course) (o : Outcome) → failure_of o ≡ None
      → go_post (gives (did_of (record { state = s; outcome = o }))) ≡ gives (done at s [] said.rows said.sent (end.Done said.words))
  post_well s o none = ap (λ (f : Option Failure). gives (post_done (record { state = s; failure = f }))) none

  pub post_failed : (s : Course) (o : Outcome) (f : Failure) → failure_of o ≡ Some f
      → go_post (gives (did_of (record { state = s; outcome = o }))) ≡ gives (done at s [] said.rows said.sent (end.PostFailed f))
  post_failed s o f is = ap (λ (g : Option Failure). gives (post_done (record { state = s; failure = g }))) is

-- the rows that are shown where rules behind it failed so
pub post_rows : (s : Course) (f : Failure) (rows : List (List Text)) → (s.stopped ≡ true → f ≡ failure.Stopped) → (f ≡ failure.Stopped → s.stopped ≡ true)
    → rows_shown s (end.PostFailed f) rows ≡ rows_told (point_end end.PostFailed f) rows
post_rows s f rows halts stops = by s.stopped refl
  where
    never : (b : Bool) → b ≡ false → b ≡ true → ⊥
    never b off on = let both : true ≡ false = sym on ∙ off in cc both

    others : (g : Failure) → (g ≡ failure.Stopped → ⊥) → rows ≡ rows_told (point_end end.PostFailed g) rows
    others (failure.Refused r) apart = refl
    others failure.Stopped apart = absurd (apart refl)
    others (failure.Code z) apart = refl
    others failure.NoRule apart = refl
    others failure.Depth apart = refl
    others failure.Spent apart = refl
    others failure.LongText apart = refl

    by : (b : Bool) → s.stopped ≡ b
        → ◌≡◌ {A = List (List Text)} (elim b [ true ↦ [] | false ↦ rows ]) (rows_told (point_end end.PostFailed f) rows)
    by true on = sym (ap (λ (g : Failure). rows_told (point_end end.PostFailed g) rows) (halts on))
    by false off = others f (λ is. never s.stopped off (stops is))
