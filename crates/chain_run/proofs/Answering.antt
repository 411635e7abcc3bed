-- What one action comes to is an answer of it.
use Rattle.std.proofs.Common.{◌≡◌, ℕ, Bool, false, List, [], ◌∷◌, ◌++◌, Option, refl, sym, subst, append-nil, Result}
use Rattle.grid_model.specs.RuleText.{Rule}
use Rattle.grid_model.specs.Meanings.{gives}
use Rattle.grid_model.specs.Values.{Env, holds}
use Rattle.grid_model.specs.Doing.{do_call}
use Rattle.grid_model.specs.declared.calls.Call.{Call}
use Rattle.grid_model.specs.declared.refusal.Failure.{Failure}
use Rattle.chain_core.specs.declared.actions.Action.TheVariants.{Test, Eval, Run, Undo}
use Rattle.chain_core.specs.declared.actions.Event.{Event}
use Rattle.chain_core.specs.declared.actions.Event.TheVariants as event
use Rattle.chain_core.specs.declared.frames.Frames.{Frames}
use Rattle.chain_core.specs.Rest.{rule_at}
use Rattle.chain_core.specs.Answers.{asked, failure_in, scope_in, step_at, Undoes}
use Rattle.chain_core.specs.Ending.{IsMet}
use Rattle.chain_run.specs.Places.{Place, course_at, Performs, Recovers}
use Rattle.chain_run.specs.Runs.{AnswersAction}
use Rattle.chain_run.specs.Steps.{IsStep}

-- a condition was tested
pub tested : (rules : List Rule) (env : Env) (m : Frames) (i : ℕ) (b : Bool) (p : Place) → asked m ≡ Test i
    → holds (scope_in rules env m i) p.grid (rule_at rules i).cond ≡ b → AnswersAction rules env m (event.Tested b) p p
tested rules env m i b p is h = record {
  user = refl;
  marks = [];
  taken = sym (append-nil p.taken);
  met = subst (λ a. IsMet a (event.Tested b)) (sym is) tt;
  answers = λ later. (0, false, (i, is, h, refl));
}

-- the arguments of a step were computed
pub stepped : (rules : List Rule) (env : Env) (m : Frames) (i j : ℕ) (e : Event) (p : Place) → asked m ≡ Eval i j
    → IsStep (scope_in rules env m i) p.grid (step_at (rule_at rules i) j) e → AnswersAction rules env m e p p
stepped rules env m i j (event.Computed c recovery) p is h = record {
  user = refl;
  marks = [];
  taken = sym (append-nil p.taken);
  met = subst (λ a. IsMet a (event.Computed c recovery)) (sym is) tt;
  answers = λ later. (0, false, ((i, j, is, h), refl));
}
stepped rules env m i j event.LongText p is h = record {
  user = refl;
  marks = [];
  taken = sym (append-nil p.taken);
  met = subst (λ a. IsMet a event.LongText) (sym is) tt;
  answers = λ later. (0, false, (i, j, is, h, refl));
}
stepped rules env m i j (event.Tested b) p is h = absurd h
stepped rules env m i j (event.Ran r) p is h = absurd h
stepped rules env m i j (event.Undone y) p is h = absurd h

-- a micro-service was run
pub ran : (rules : List Rule) (env : Env) (m : Frames) (c : Call) (r : Result Unit Failure) (p q : Place) → asked m ≡ Run c → env.user ≡ p.user
    → Performs c r p q → AnswersAction rules env m (event.Ran r) p q
ran rules env m c r p q is user d = record {
  user = d.user;
  marks = d.marks;
  taken = d.taken;
  met = subst (λ a. IsMet a (event.Ran r)) (sym is) tt;
  answers = λ later. (
    m.begun,
    (d.did later m.begun m.stopped).0,
    (
      c,
      is,
      subst
          (λ u. do_call u c (course_at p (d.marks ++ later) m.begun m.stopped)
          ≡ gives (record { state = course_at q later m.begun (d.did later m.begun m.stopped).0; failure = failure_in r }))
          (sym user) (d.did later m.begun m.stopped).1,
    ),
  );
}

-- a recovery was run
pub undone : (rules : List Rule) (env : Env) (m : Frames) (us : List Call) (c : Call) (y : Option Failure) (p q : Place) → asked m ≡ Undo → m.undo ≡ us ++ c ∷ []
    → env.user ≡ p.user → Recovers c y p q → AnswersAction rules env m (event.Undone y) p q
undone rules env m us c y p q is last user d = record {
  user = d.brings.user;
  marks = d.brings.marks;
  taken = d.brings.taken;
  met = subst (λ a. IsMet a (event.Undone y)) (sym is) d.unstopped;
  answers = λ later. (
    m.begun,
    (d.brings.did later m.begun m.stopped).0,
    (
      us,
      c,
      is,
      last,
      subst
          (λ u. Undoes u c y (course_at p (d.brings.marks ++ later) m.begun m.stopped) (course_at q later m.begun (d.brings.did later m.begun m.stopped).0))
          (sym user) (d.brings.did later m.begun m.stopped).1,
    ),
  );
}
