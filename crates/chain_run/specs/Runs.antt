-- What a run over a doer comes to, by the recursion over chains.
use Rattle.std.specs.Prelude.{◌≡◌, ℕ, Bool, List, [], ◌∷◌, ◌++◌, ◌⊎◌}
use Rattle.grid_model.specs.RuleText.{Rule}
use Rattle.grid_model.specs.Meanings.{Meaning, Waiting, gives, waits, unfit, mapped}
use Rattle.grid_model.specs.Values.{Env, Value}
use Rattle.grid_model.specs.Doing.{Course, do_call}
use Rattle.grid_model.specs.Chains.{Named, begin_step, call_rule, counted}
use Rattle.grid_model.specs.declared.calls.Call.{Call}
use Rattle.grid_model.specs.declared.marks.Mark.{Mark}
use Rattle.chain_core.specs.declared.actions.Action.TheVariants.{Run, Undo, End}
use Rattle.chain_core.specs.declared.actions.Event.{Event}
use Rattle.chain_core.specs.declared.actions.Outcome as told
use Rattle.chain_core.specs.declared.frames.Frames.{Frames}
use Rattle.chain_core.specs.Rest.{rest, course, named_of_step, outcome_of, listed_recoveries}
use Rattle.chain_core.specs.Answers.{asked, IsAnswer}
use Rattle.chain_core.specs.Ending.{IsMet}
use Rattle.chain_run.specs.Places.{Place, course_at, course_from}
use Rattle.chain_run.specs.Calls.{Made}
use Rattle.chain_run.specs.declared.acting.Acted.{Acted}
use Rattle.chain_run.specs.declared.acting.Acted.TheVariants.{Ended, Came}

-- ---- what is run

-- a call by itself, whose arguments have these values
abbrev pub by_itself : List Rule → Env → Call → List Value → Course → Meaning Named
by_itself rules env c vs s = mapped named_of_step (begin_step (call_rule rules env) env.user vs c (counted s))

-- that from a place on, where the machine counts, with these marks still to come
abbrev pub whole_from : (Course → Meaning Named) → Frames → Place → List Mark → Meaning Named
whole_from f m p marks = f (course m (course_from p marks))

-- what is still to be done, with these marks still to come
abbrev pub rest_from : List Rule → Env → Frames → Place → List Mark → Meaning Named
rest_from rules env m p marks = rest rules env m (course_from p marks)

-- ---- how far it has come

-- From the entry on so many marks were taken that as much is to be done here as there.
pub record Reaches (rules : List Rule) (env : Env) (whole : List Mark → Meaning Named) (from : Place) (m : Frames) (to : Place) : Type 0 where
  pub user : to.user ≡ from.user
  pub marks : List Mark
  pub taken : to.taken ≡ from.taken ++ marks
  pub same : (later : List Mark) → rest_from rules env m to later ≡ whole (marks ++ later)

-- From the entry on all was done, with the marks that were taken, and ended so.
pub record ReachesEnd (whole : List Mark → Meaning Named) (from : Place) (outcome : told.Outcome) (m : Frames) (to : Place) : Type 0 where
  pub user : to.user ≡ from.user
  pub marks : List Mark
  pub taken : to.taken ≡ from.taken ++ marks
  pub gives_so : (later : List Mark) → whole (marks ++ later) ≡ gives (record { state = course m (course_from to later); outcome = outcome_of outcome })

-- ---- calls

-- the machine asks for the call, as a micro-service or as the last of the recoveries that are listed
abbrev pub AsksForCall : Frames → Call → Type 0
AsksForCall m c = (asked m ≡ Run c) ⊎ ((us : List Call) × (asked m ≡ Undo) × (m.undo ≡ us ++ c ∷ []))

-- the call was made there because the machine asked for it, with the recoveries that the machine lists
pub record IsCallAskedFor {Stop : Type 0} (m : Frames) (at : Place) (x : Made Stop) : Type 0 where
  pub asks : AsksForCall m x.call
  pub undo : x.undo ≡ listed_recoveries m
  pub place : x.place ≡ at

-- The call is one that was to be done. Where it waits for a mark all does, and a stop there has all those recoveries done that were
-- handed in with it. Where a mark does not fit it, all has no meaning.
pub record IsDue {Stop : Type 0} (rules : List Rule) (env : Env) (whole : List Mark → Meaning Named) (from : Place) (x : Made Stop) : Type 0 where
  pub machine : Frames
  pub reached : Reaches rules env whole from machine x.place
  pub asked_for : IsCallAskedFor machine x.place x
  pub waits_so : (later : List Mark) (w : Waiting) → do_call env.user x.call (course machine (course_from x.place later)) ≡ waits w
      → whole (reached.marks ++ later) ≡ waits (record w { undo = x.undo })
  pub unfit_so : (later : List Mark) → do_call env.user x.call (course machine (course_from x.place later)) ≡ unfit
      → whole (reached.marks ++ later) ≡ unfit

-- ---- one action

-- The event is what the action that was asked for came to, with the marks that it took.
pub record AnswersAction (rules : List Rule) (env : Env) (m : Frames) (e : Event) (from to : Place) : Type 0 where
  pub user : to.user ≡ from.user
  pub marks : List Mark
  pub taken : to.taken ≡ from.taken ++ marks
  pub met : IsMet (asked m) e
  pub answers : (later : List Mark)
      → (begun : ℕ) × (stopped : Bool) × IsAnswer rules env m e (course_from from (marks ++ later)) (course_at to later begun stopped)

-- nothing was left to be done, or the action was done
abbrev pub DoesAction : List Rule → Env → Frames → Acted → Place → Place → Type 0
DoesAction rules env m (Ended o) from to = (asked m ≡ End o) × (to ≡ from)
DoesAction rules env m (Came e) from to = AnswersAction rules env m e from to
