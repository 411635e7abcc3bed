-- How far a run has come, one action after another.
use Rattle.std.proofs.Common.{◌≡◌, List, [], ◌∷◌, ◌++◌, refl, sym, ap, ◌∙◌, subst, append-nil, append_assoc, inl, inr}
use Rattle.grid_model.specs.RuleText.{Rule}
use Rattle.grid_model.specs.Meanings.{Meaning, gives, waits}
use Rattle.grid_model.specs.Values.{Env}
use Rattle.grid_model.specs.Doing.{Course}
use Rattle.grid_model.specs.Chains.{Named}
use Rattle.grid_model.specs.declared.calls.Call.{Call}
use Rattle.grid_model.specs.declared.marks.Mark.{Mark}
use Rattle.chain_core.specs.declared.actions.Event.{Event}
use Rattle.chain_core.specs.declared.actions.Outcome as told
use Rattle.chain_core.specs.declared.frames.Frames.{Frames}
use Rattle.chain_core.specs.Rest.{rest, course, outcome_of}
use Rattle.chain_core.specs.Answers.{asked, Tells, WaitsWith}
use Rattle.chain_core.specs.Running.{Continues}
use Rattle.chain_run.specs.Places.{Place, course_at, course_from}
use Rattle.chain_run.specs.Calls.{Made}
use Rattle.chain_run.specs.Runs.{Reaches, ReachesEnd, IsDue, IsCallAskedFor, AsksForCall, AnswersAction, rest_from}

-- ---- the way

pub at_entry : (rules : List Rule) (env : Env) (m : Frames) (p : Place) → Reaches rules env (rest_from rules env m p) p m p
at_entry rules env m p = record { user = refl; marks = []; taken = sym (append-nil p.taken); same = λ later. refl }

-- one action more
pub one_on : (rules : List Rule) (env : Env) (whole : List Mark → Meaning Named) (from : Place) (m : Frames) (p : Place) (e : Event) (n : Frames) (q : Place)
    → Reaches rules env whole from m p → AnswersAction rules env m e p q → Continues rules m e n → Reaches rules env whole from n q
one_on rules env whole from m p e n q reached answers goes = record {
  user = answers.user ∙ reached.user;
  marks = reached.marks ++ answers.marks;
  taken = answers.taken ∙ ap (λ xs. xs ++ answers.marks) reached.taken ∙ append_assoc from.taken reached.marks answers.marks;
  same = λ later.
      goes env (course_from p (answers.marks ++ later)) (course_at q later (answers.answers later).0 (answers.answers later).1) (answers.answers later).2
      ∙ reached.same (answers.marks ++ later)
      ∙ ap whole (sym (append_assoc reached.marks answers.marks later));
}

-- nothing is left
pub ended : (rules : List Rule) (env : Env) (whole : List Mark → Meaning Named) (from : Place) (m : Frames) (p : Place) (o : told.Outcome)
    → Reaches rules env whole from m p → ((s : Course) → rest rules env m s ≡ gives (record { state = course m s; outcome = outcome_of o })) → ReachesEnd whole from o m p
ended rules env whole from m p o reached tells = record {
  user = reached.user;
  marks = reached.marks;
  taken = reached.taken;
  gives_so = λ later. sym (reached.same later) ∙ tells (course_from p later);
}

-- ---- calls

last_of : Call → List Call → Call
last_of c [] = c
last_of c (d ∷ ds) = last_of d ds

last_is : (c d : Call) (us : List Call) → last_of d (us ++ c ∷ []) ≡ c
unfolding last_of
last_is c d [] = refl
last_is c d (u ∷ us) = last_is c u us

same_last : (us vs : List Call) (c d : Call) → us ++ c ∷ [] ≡ vs ++ d ∷ [] → c ≡ d
same_last us vs c d e = sym (last_is c c us) ∙ ap (last_of c) e ∙ last_is d c vs

-- the machine waits with the call that it asks for
asked_waits : (rules : List Rule) (m : Frames) (c : Call) → Tells rules m (asked m) → AsksForCall m c → WaitsWith rules m c
asked_waits rules m c tells (inl is) = subst (Tells rules m) is tells
asked_waits rules m c tells (inr is) =
    let told = subst (Tells rules m) is.1 tells in
    subst (WaitsWith rules m) (same_last told.0 is.0 told.1 c (sym told.2 ∙ is.2)) told.3

due_there : {Stop : Type 0} (rules : List Rule) (env : Env) (whole : List Mark → Meaning Named) (from : Place) (m : Frames) (x : Made Stop)
    → Reaches rules env whole from m x.place → IsCallAskedFor m x.place x → WaitsWith rules m x.call → IsDue rules env whole from x
due_there rules env whole from m x reached asks all = record {
  machine = m;
  reached = reached;
  asked_for = asks;
  waits_so = λ later w e. sym (reached.same later) ∙ all.waits_so env (course_from x.place later) w e ∙ ap (λ us. waits (record w { undo = us })) (sym asks.undo);
  unfit_so = λ later e. sym (reached.same later) ∙ all.unfit_so env (course_from x.place later) e;
}

-- a call that the machine asks for is due
pub is_due : {Stop : Type 0} (rules : List Rule) (env : Env) (whole : List Mark → Meaning Named) (from : Place) (m : Frames) (p : Place) (x : Made Stop)
    → Reaches rules env whole from m p → Tells rules m (asked m) → IsCallAskedFor m p x → IsDue rules env whole from x
is_due rules env whole from m p x reached tells is =
    due_there rules env whole from m x (subst (Reaches rules env whole from m) (sym is.place) reached) (record { asks = is.asks; undo = is.undo; place = refl })
    (asked_waits rules m x.call tells is.asks)

-- ---- the same from another entry

module _ (rules : List Rule) (env : Env) (v w : List Mark → Meaning Named) (from : Place) (same : (marks : List Mark) → v marks ≡ w marks) where
  abbrev reaches_as : (m : Frames) (p : Place) → Reaches rules env v from m p → Reaches rules env w from m p
  reaches_as m p r = record { user = r.user; marks = r.marks; taken = r.taken; same = λ later. r.same later ∙ same (r.marks ++ later) }

  pub due_as : {Stop : Type 0} (x : Made Stop) → IsDue rules env v from x → IsDue rules env w from x
  due_as x due = record {
    machine = due.machine;
    reached = reaches_as due.machine x.place due.reached;
    asked_for = due.asked_for;
    waits_so = λ later u e. sym (same (due.reached.marks ++ later)) ∙ due.waits_so later u e;
    unfit_so = λ later e. sym (same (due.reached.marks ++ later)) ∙ due.unfit_so later e;
  }

pub ends_as : (v w : List Mark → Meaning Named) (from : Place) (o : told.Outcome) (m : Frames) (p : Place) → ((marks : List Mark) → v marks ≡ w marks)
    → ReachesEnd v from o m p → ReachesEnd w from o m p
ends_as v w from o m p same e = record { user = e.user; marks = e.marks; taken = e.taken; gives_so = λ later. sym (same (e.marks ++ later)) ∙ e.gives_so later }
