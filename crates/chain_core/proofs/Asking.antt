-- From what is taken and settled to what the machine promises.
use Rattle.std.proofs.Common.{◌≡◌, List, sym, ◌∙◌, ap, subst, arith}
use Rattle.std.specs.Prelude.{Result, Ok, Err, IfOk, OnOk}
use Rattle.grid_model.specs.RuleText.{Rule}
use Rattle.chain_core.specs.declared.actions.Action.{Action}
use Rattle.chain_core.specs.declared.actions.Event.{Event}
use Rattle.chain_core.specs.declared.actions.Start.{Start}
use Rattle.chain_core.specs.declared.actions.Start.TheVariants.{Point, Exec}
use Rattle.chain_core.specs.declared.frames.Frames.{Frames}
use Rattle.chain_core.specs.Rest.{rest}
use Rattle.chain_core.specs.Answers.{asked, Tells, IsUsable}
use Rattle.chain_core.specs.Running.{BeginsCall, Continues, LeavesFewer, Starts}
use Rattle.chain_core.specs.Ending.{events_left}
use Rattle.chain_core.proofs.Fewer.{next_fewer}
use Rattle.chain_core.specs.Seen.{TakesEvent}
use Rattle.chain_core.specs.Settling.{Settles}
use Rattle.chain_core.proofs.Keeping.{next_keeps}
use Rattle.chain_core.proofs.Stepping.{point_is, call_is}
use Rattle.chain_core.proofs.Telling.{tells}
use Rattle.chain_core.proofs.Usable.{Holds, next_holds, point_holds, call_holds, usable_settled}

pub on_ok : {A E : Type 0} {P : Type 0} (r : Result A E) → P → OnOk r P
on_ok (Ok x) p = p
on_ok (Err e) p = tt

pub told : {E : Type 0} (rules : List Rule) (m : Frames) (r : Result Action E) → IfOk r (λ a. a ≡ asked m) → IsUsable rules m → IfOk r (Tells rules m)
told rules m (Ok a) is usable = subst (Tells rules m) (sym is) (tells rules m usable)
told rules m (Err e) is usable = tt

-- ---- events

pub usable_next : (rules : List Rule) (old mid new : Frames) (e : Event) → IsUsable rules old → TakesEvent rules old old.control e mid → Settles rules mid new → IsUsable rules new
usable_next rules old mid new e usable took settles = usable_settled rules mid new (subst (Holds rules) (sym took.2) (next_holds rules old e took.0 usable)) settles

pub continues : (rules : List Rule) (old mid new : Frames) (e : Event) → IsUsable rules old → TakesEvent rules old old.control e mid → Settles rules mid new → Continues rules old e new
continues rules old mid new e usable took settles env s t a =
    settles.keeps.same env t ∙ ap (λ m. rest rules env m t) took.2 ∙ next_keeps rules env old e took.0 s t usable took.1 a

pub ends : (rules : List Rule) (old mid new : Frames) (e : Event) → IsUsable rules old → TakesEvent rules old old.control e mid → Settles rules mid new → LeavesFewer rules old e new
ends rules old mid new e usable took settles met =
    omega (arith, settles.keeps.fewer, next_fewer rules old e took.0 usable met, ap (events_left rules) took.2)

-- ---- starts

pub usable_start : (rules : List Rule) (old mid new : Frames) (what : Start) → Starts rules old what mid → Settles rules mid new → IsUsable rules new
usable_start rules old mid new (Point name) is settles = usable_settled rules mid new (subst (Holds rules) (sym is) (point_holds rules old name)) settles
usable_start rules old mid new (Exec c) is settles = usable_settled rules mid new (subst (Holds rules) (sym is.2) (call_holds rules old c is.0)) settles

pub begins : (rules : List Rule) (old mid new : Frames) (what : Start) → Starts rules old what mid → Settles rules mid new → BeginsCall rules old what new
begins rules old mid new (Point name) is settles = λ env s. settles.keeps.same env s ∙ ap (λ m. rest rules env m s) is ∙ point_is rules env old name s
begins rules old mid new (Exec c) is settles = λ env vs s values. settles.keeps.same env s ∙ ap (λ m. rest rules env m s) is.2 ∙ call_is rules env old vs c is.0 s is.1 values
