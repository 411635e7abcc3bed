-- One turn of the machine over a doer.
use Rattle.std.proofs.Common.{◌≡◌, ℕ, zero, suc, List, [], ◌∷◌, ◌++◌, length, get_or, Option, None, Ok, Err, Result, refl, sym, ap, subst, arith}
use Rattle.std.specs.Prelude.{IfOk}
use Rattle.grid_model.specs.RuleText.{Rule}
use Rattle.grid_model.specs.Meanings.{Meaning}
use Rattle.grid_model.specs.Values.{Env}
use Rattle.grid_model.specs.Chains.{Named}
use Rattle.grid_model.specs.declared.calls.Call.{Call}
use Rattle.grid_model.specs.declared.marks.Mark.{Mark}
use Rattle.chain_core.specs.declared.actions.Action.TheVariants.{End}
use Rattle.chain_core.specs.declared.actions.Outcome as told
use Rattle.chain_core.specs.declared.frames.Frames.{Frames}
use Rattle.chain_core.specs.Rest.{listed_recoveries}
use Rattle.chain_core.specs.Answers.{asked, Tells}
use Rattle.chain_run.specs.Places.{Place}
use Rattle.chain_run.specs.Calls.{Made, MakesCalls, MakesCallsUntil}
use Rattle.chain_run.specs.Runs.{Reaches, ReachesEnd, IsDue, IsCallAskedFor, AsksForCall}
use Rattle.chain_run.specs.declared.stop.RunStop.{RunStop}
use Rattle.chain_run.proofs.Making.{one_made, then_until, until_as}
use Rattle.chain_run.proofs.Reaching.{ended, is_due}

-- the call that was asked for was made
pub call_made : {S Stop : Type 0} (went : S → List (Made Stop) → S → Type 0) (old new : S) (m : Frames) (at : Place) (c : Call) (us : List Call) (stop : Option Stop)
    → went old [] old → AsksForCall m c → us ≡ listed_recoveries m
    → ((from : S) (calls : List (Made Stop)) → went from calls old → went from (calls ++ record { call = c; undo = us; place = at; stop = stop } ∷ []) new)
    → MakesCalls went (IsCallAskedFor m at) stop old new
call_made went old new m at c us stop begins asks listed goes =
    one_made went (IsCallAskedFor m at) old new (record { call = c; undo = us; place = at; stop = stop }) begins (record { asks = asks; undo = listed; place = refl }) goes

-- calls that were due, and then that of an action
pub acted_until : {S Stop : Type 0} (went : S → List (Made Stop) → S → Type 0) (no_size : S → Stop → Type 0) (rules : List Rule) (env : Env)
    (whole : List Mark → Meaning Named) (from : Place) (m : Frames) (p : Place) (why : Option (RunStop Stop)) (a b c : S)
    → Reaches rules env whole from m p → Tells rules m (asked m) → MakesCalls went (IsDue rules env whole from) None a b
    → MakesCallsUntil went (IsCallAskedFor m p) no_size why b c → MakesCallsUntil went (IsDue rules env whole from) no_size why a c
acted_until went no_size rules env whole from m p why a b c reached tells made until =
    then_until went (IsDue rules env whole from) no_size why a b c made
    (until_as went (IsCallAskedFor m p) (IsDue rules env whole from) no_size why b c (λ x is. is_due rules env whole from m p x reached tells is) until)

-- nothing was left to be done
pub acted_end : (rules : List Rule) (env : Env) (whole : List Mark → Meaning Named) (from : Place) (m : Frames) (p q : Place) (o : told.Outcome)
    → Reaches rules env whole from m p → Tells rules m (asked m) → (asked m ≡ End o) × (q ≡ p) → ReachesEnd whole from o m q
acted_end rules env whole from m p q o reached tells is =
    subst (ReachesEnd whole from o m) (sym is.1) (ended rules env whole from m p o reached (λ s. (subst (Tells rules m) is.0 tells) env s))

-- what holds of the value of an Ok
pub IfOk-weaker : {A E : Type 0} (P Q : A → Type 0) (r : Result A E) → ((x : A) → P x → Q x) → IfOk r P → IfOk r Q
IfOk-weaker P Q (Ok x) says p = says x p
IfOk-weaker P Q (Err e) says p = tt

-- a list by its last item
pub by_last : (xs : List Call) (i : ℕ) (x : Call) → length xs ≡ suc i → x ≡ get_or xs i x → (us : List Call) × (xs ≡ us ++ x ∷ [])
by_last [] i x len is = absurd (omega (arith, len))
by_last (y ∷ []) zero x len is = ([], ap (λ z. z ∷ []) (sym is))
by_last (y ∷ []) (suc i) x len is = absurd (omega (arith, len))
by_last (y ∷ z ∷ zs) zero x len is = absurd (omega (arith, len))
by_last (y ∷ z ∷ zs) (suc i) x len is = let rest = by_last (z ∷ zs) i x (omega (arith, len)) is in (y ∷ rest.0, ap (λ us. y ∷ us) rest.1)
