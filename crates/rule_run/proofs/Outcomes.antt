-- What a request comes to whose call by itself came to this.
use Rattle.std.proofs.Common.{◌≡◌, Bool, true, false, List, [], ◌++◌, refl, sym, ap, ◌∙◌, subst}
use Rattle.std.proofs.lemmas.List.{append-nil}
use Rattle.grid_model.specs.Names.{Text}
use Rattle.grid_model.specs.Rows.{Cat}
use Rattle.grid_model.specs.RuleText.{Rule}
use Rattle.grid_model.specs.Meanings.{Meaning, Waiting, gives, mapped, waits, unfit}
use Rattle.grid_model.specs.Values.{Env, Value}
use Rattle.grid_model.specs.Doing.{Course}
use Rattle.grid_model.specs.Chains.{Named, Outcome, Stepped, begin_step, call_rule, counted, cuts, ended_well, failed, fails, goes_on, halted}
use Rattle.grid_model.specs.Chains.{none_applied, succeeds}
use Rattle.grid_model.specs.Completing.{AreClean, EndsByRows}
use Rattle.grid_model.specs.Obeying.{after_exec}
use Rattle.grid_model.specs.Sessions.{State}
use Rattle.grid_model.specs.Working.{Done, answered, begun, end_of, ending, rows_shown, well}
use Rattle.grid_model.specs.Runs.{Request, does}
use Rattle.grid_model.specs.declared.calls.Call.{Call}
use Rattle.grid_model.specs.declared.marks.Mark.{Mark}
use Rattle.grid_model.specs.declared.replies.End.{End}
use Rattle.grid_model.specs.declared.replies.End.TheVariants as end
use Rattle.grid_model.specs.declared.refusal.Failure.{Failure}
use Rattle.grid_model.specs.declared.refusal.Failure.TheVariants as failure
use Rattle.grid_model.proofs.MeaningLemmas.{gives_is, waits_not_gives, unfit_not_gives}
use Rattle.chain_core.specs.Rest.{named_of_step, outcome_of}
use Rattle.chain_core.specs.declared.actions.Outcome as told
use Rattle.chain_core.specs.declared.actions.Outcome.TheVariants as outcome
use Rattle.chain_run.specs.Places.{course_from}
use Rattle.chain_run.specs.Runs.{by_itself}
use Rattle.chain_laws.specs.ByRows.{CallsEndByRows, OutcomeByRows}
use Rattle.chain_laws.specs.Stopped.{StopsHalt}
use Rattle.chain_laws.specs.Taken.{TakesInOrder}
use Rattle.service_run.specs.Commands.{place_by}
use Rattle.service_run.specs.declared.command.Command.{Command}
use Rattle.rule_run.specs.Asked.{IsAsked}
use Rattle.rule_run.specs.Executing.{DoesCall, end_by}
use Rattle.rule_run.specs.Finishing.{reply_of}
use Rattle.rule_run.specs.Running.{WaitsWith}
use Rattle.rule_run.proofs.Handling.{DoesAll}

-- ---- ends

-- how an outcome ends a request
abbrev pub ends_as : Outcome → End
ends_as ended_well = well
ends_as (failed f) = end_of f
ends_as (halted f) = end_of f
ends_as none_applied = well

pub ends_told : (o : told.Outcome) → ends_as (outcome_of o) ≡ end_by o
ends_told outcome.EndedWell = refl
ends_told (outcome.Failed f) = refl
ends_told (outcome.Halted f) = refl
ends_told outcome.NoneApplied = refl

-- no rows are shown
pub rows_none : (s : Course) (e : End) → rows_shown s e [] ≡ []
rows_none s (end.Done ws) = by s.stopped
  where
    by : (b : Bool) → ◌≡◌ {A = List (List Text)} (elim b [ true ↦ [] | false ↦ [] ]) []
    by true = refl
    by false = refl
rows_none s (end.PostFailed f) = by s.stopped
  where
    by : (b : Bool) → ◌≡◌ {A = List (List Text)} (elim b [ true ↦ [] | false ↦ [] ]) []
    by true = refl
    by false = refl
rows_none s (end.Refused r) = refl
rows_none s (end.PreFailed f) = refl
rows_none s (end.Failed f) = refl
rows_none s end.Stopped = refl

-- what is answered so is answered with this reply
pub reply_is : (at : State) (s : Course) (e d : End) → ending s e ≡ d → (answered at s e).reply ≡ reply_of s.taken s.passed [] d
reply_is at s e d same = λ i. record { marks = s.taken; shown = []; passed = s.passed; rows = rows_none s e i; end = same i }

-- a failure of a step ends it by the rows
failure_by_rows : (f : Failure) → OutcomeByRows (failed f) → EndsByRows (end_of f)
failure_by_rows (failure.Refused r) by = by
failure_by_rows failure.Stopped by = by
failure_by_rows (failure.Code z) by = by
failure_by_rows failure.NoRule by = by
failure_by_rows failure.Depth by = by
failure_by_rows failure.Spent by = by
failure_by_rows failure.LongText by = by

ends_by_rows : (o : Outcome) → OutcomeByRows o → EndsByRows (ends_as o)
ends_by_rows ended_well by = tt
ends_by_rows (failed f) by = failure_by_rows f by
ends_by_rows (halted f) by = failure_by_rows f by
ends_by_rows none_applied by = tt

-- a command that was stopped ends so anyhow
pub ending_is : (s : Course) (o : Outcome) → (s.stopped ≡ true → o ≡ halted failure.Stopped) → ending s (ends_as o) ≡ ends_as o
ending_is s o halts = by s.stopped refl
  where
    by : (b : Bool) → s.stopped ≡ b → ◌≡◌ {A = End} (elim b [ true ↦ end.Stopped | false ↦ ends_as o ]) (ends_as o)
    by true on = sym (ap ends_as (halts on))
    by false off = refl

-- ---- from the call to the request

after_named : (at : State) (x : Stepped) → after_exec at x ≡ answered at (named_of_step x).state (ends_as (named_of_step x).outcome)
after_named at (goes_on s) = refl
after_named at (cuts s) = refl
after_named at (succeeds s) = refl
after_named at (fails s f true) = refl
after_named at (fails s f false) = refl

done_as : (at : State) (m : Meaning Stepped) (k : Named) → mapped named_of_step m ≡ gives k
    → mapped (after_exec at) m ≡ gives (answered at k.state (ends_as k.outcome))
done_as at (gives x) k is = ap gives (after_named at x) ∙ ap (λ (y : Named). gives (answered at y.state (ends_as y.outcome))) (gives_is is)
done_as at (waits w) k is = absurd (waits_not_gives is)
done_as at unfit k is = absurd (unfit_not_gives is)

waits_as : (at : State) (m : Meaning Stepped) (w : Waiting) → mapped named_of_step m ≡ waits w → mapped (after_exec at) m ≡ waits w
waits_as at (gives x) w is = absurd (let no : ◌≡◌ {A = Meaning Named} (waits w) (gives (named_of_step x)) = sym is in waits_not_gives no)
waits_as at (waits v) w is = ap (λ (u : Waiting). waits u) (waits_are is)
  where
    waits_are : ◌≡◌ {A = Meaning Named} (waits v) (waits w) → v ≡ w
    waits_are e = cc e
waits_as at unfit w is = absurd (cc is)

module _ (at : State) (request : Request) (before : Cat) (x : Command) (asked : IsAsked at request before x) (rules : List Rule) (env : Env) (call : Call)
    (vs : List Value) (does_call : DoesCall at request rules env call vs) where
  abbrev pub whole : List Mark → Meaning Named
  whole later = by_itself rules env call vs (course_from (place_by before x) later)

  abbrev stepped : Course → Meaning Stepped
  stepped s = begin_step (call_rule rules env) env.user vs call (counted s)

  -- it begins where the request does
  same_course : (marks : List Mark) → course_from (place_by before x) marks ≡ begun at.grid marks
  same_course marks i = record {
    grid = asked.grid i;
    marks = marks;
    taken = ap (λ (z : Command). z.marks) asked.begun i;
    begun = 0;
    passed = ap (λ (z : Command). z.passed) asked.begun i;
    stopped = false;
  }

  does_as : (marks : List Mark) → does at request marks ≡ mapped (after_exec at) (stepped (course_from (place_by before x) marks))
  does_as marks = does_call marks ∙ ap (λ (s : Course). mapped (after_exec at) (stepped s)) (sym (same_course marks))

  -- where the call waits the request does
  pub waits_with : WaitsWith at request whole []
  waits_with more w is = does_as more ∙ waits_as at (stepped (course_from (place_by before x) more)) w is

  -- and what the call gives is what the request does
  module _ (halts : StopsHalt) (takes : TakesInOrder) (ends : CallsEndByRows) (marks : List Mark) (k : Named) (is : whole marks ≡ gives k)
      (all : k.state.marks ≡ []) where
    abbrev pub its_done : Done
    its_done = answered at k.state (ends_as k.outcome)

    pub does_so : does at request marks ≡ gives its_done
    does_so = does_as marks ∙ done_as at (stepped (course_from (place_by before x) marks)) k is

    pub end_is : ending k.state (ends_as k.outcome) ≡ ends_as k.outcome
    end_is = ending_is k.state k.outcome (halts rules env call vs (course_from (place_by before x) marks) k refl is)

    pub taken_are : k.state.taken ≡ marks
    taken_are =
        sym (append-nil k.state.taken)
        ∙ ap (λ (ms : List Mark). k.state.taken ++ ms) (sym all)
        ∙ takes rules env call vs (course_from (place_by before x) marks) k is
        ∙ ap (λ (z : Command). z.marks ++ marks) asked.begun

    pub by_rows : AreClean marks → EndsByRows its_done.reply.end
    by_rows clean =
        subst EndsByRows (sym end_is) (ends_by_rows k.outcome (ends rules env call vs (course_from (place_by before x) marks) k clean refl is))

    abbrev pub whole_end : DoesAll at request marks
    whole_end = record { d = its_done; does_so = does_so; all = all; marks_are = taken_are; by_rows = by_rows }
