-- The machine may be used after each event and each start.
use Rattle.std.proofs.Common.{◌≡◌, ℕ, suc, ◌<◌, ◌+◌, ◌-◌, Bool, true, false, List, [], ◌∷◌, ◌++◌, length, take, Option, Some, None, refl, sym, subst, arith, length-append}
use Rattle.std.specs.Prelude.{nat_lt, nat_le, ◌||◌, Ok, Err}
use Rattle.std.specs.Option.{option_to_list}
use Rattle.std.proofs.lemmas.Bool.{ltb-true}
use Rattle.std.proofs.lemmas.List.{length-take}
use Rattle.grid_model.specs.Names.{Text}
use Rattle.grid_model.specs.RuleText.{Rule}
use Rattle.grid_model.specs.Bounds.{deepest, most_steps}
use Rattle.grid_model.specs.declared.calls.Call.{Call}
use Rattle.grid_model.specs.declared.refusal.Failure.{Failure}
use Rattle.grid_model.specs.declared.refusal.Failure.TheVariants.{Depth, Spent}
use Rattle.chain_core.specs.declared.actions.Event.{Event}
use Rattle.chain_core.specs.declared.actions.Event.TheVariants.{Tested, Computed, Ran, Undone}
use Rattle.chain_core.specs.declared.actions.Event.TheVariants as event
use Rattle.chain_core.specs.declared.actions.Outcome.TheVariants.{Failed, Halted}
use Rattle.chain_core.specs.declared.kinds.Kind.{Kind}
use Rattle.chain_core.specs.declared.kinds.Kind.TheVariants.{Cut, Succeed, Fail, Serve, Name}
use Rattle.chain_core.specs.declared.stack.Frame.{Frame}
use Rattle.chain_core.specs.declared.frames.Control.{Control}
use Rattle.chain_core.specs.declared.frames.Control.TheVariants.{Tests, GoesOn, Fails, Runs, Ended}
use Rattle.chain_core.specs.declared.frames.Frames.{Frames}
use Rattle.chain_core.specs.Moves.{next_named, next_rule, first_rule, called, control_of, step_by, counted_step, waiting_for, was_stopped, is_stopped, failed_as, next_by, next, at_point, at_call}
use Rattle.chain_core.specs.Answers.{ListsRecoveries, IsThere, IsUsable, AreNested, running_frames, is_settled_by}
use Rattle.chain_core.specs.Settling.{Settles}
use Rattle.chain_core.proofs.Moving.{IsBelow, next_below}
use Rattle.chain_core.proofs.Settling.{nested_cut, next_waits, rule_there}

-- what holds of the machine whether or not it waits
abbrev pub Holds : List Rule → Frames → Type 0
Holds rules m = ListsRecoveries m × IsThere rules m.control

-- only frames that wait have recoveries, and a rule that is tested is there
abbrev Rests : List Rule → Frames → Control → Type 0
Rests rules m c = (running_frames m c ≡ m.waiting) × IsThere rules c

first_rests : (rules : List Rule) (m : Frames) (o : Option ℕ) (c : Call) → IsBelow rules o → Rests rules m (first_rule o c)
first_rests rules m None c is = (refl, tt)
first_rests rules m (Some i) c is = (refl, is)

called_rests : (rules : List Rule) (m : Frames) (n : ℕ) (c : Call) → Rests rules m (called rules n c)
called_rests rules m n c = by_depth (nat_lt n deepest)
  where
    by_depth : (b : Bool) → Rests rules m (elim b [ true ↦ first_rule (next_named rules c.name 0) c | false ↦ Ended (Failed Depth) ])
    by_depth true = first_rests rules m (next_named rules c.name 0) c (next_below rules c.name 0)
    by_depth false = (refl, tt)

control_rests : (rules : List Rule) (m : Frames) (n : ℕ) (c : Call) (k : Kind) → Rests rules m (control_of rules n c k)
control_rests rules m n c Cut = (refl, tt)
control_rests rules m n c Succeed = (refl, tt)
control_rests rules m n c (Fail z) = (refl, tt)
control_rests rules m n c Serve = (refl, tt)
control_rests rules m n c Name = called_rests rules m n c

-- a control under which only frames that wait have recoveries
rests_hold : (rules : List Rule) (m : Frames) (c : Control) → Rests rules m c → AreNested m.waiting (length m.undo) → Holds rules (record m { control = c })
rests_hold rules m c is nested = (subst (λ fs. AreNested fs (length m.undo)) (sym is.0) nested, is.1)

-- ---- a step of a frame

step_holds : (rules : List Rule) (m : Frames) (f : Frame) (c : Call) (k : Kind) → AreNested (f ∷ m.waiting) (length m.undo) → Holds rules (counted_step rules m f c k)
step_holds rules m f c k nested = by_budget (nat_le m.begun most_steps)
  where
    by_kind : (k : Kind) → Holds rules (step_by rules m f c k)
    by_kind Cut = (nested, tt)
    by_kind Succeed = (nested_cut m.waiting f.base m.undo nested.0 nested.1, tt)
    by_kind (Fail z) = (nested, tt)
    by_kind Serve = (nested, tt)
    by_kind Name = rests_hold rules (record m { waiting = f ∷ m.waiting }) (called rules (suc (length m.waiting)) c) (called_rests rules (record m { waiting = f ∷ m.waiting }) (suc (length m.waiting)) c) nested

    by_budget : (b : Bool) → Holds rules (elim b [ true ↦ step_by rules m f c k | false ↦ waiting_for m f (Ended (Halted Spent)) ])
    by_budget true = by_kind k
    by_budget false = (nested, tt)

-- ---- events

-- one recovery fewer, of those of the innermost frame
nested_less : (f : Frame) (fs : List Frame) (cs : List Call) → AreNested (f ∷ fs) (length cs) → f.base < length cs → AreNested (f ∷ fs) (length (take (length cs - 1) cs))
nested_less f fs cs is more = (omega (arith, more, length-take (length cs - 1) cs), is.1)

pub next_holds : (rules : List Rule) (m : Frames) (e : Event) (k : Kind) → IsUsable rules m → Holds rules (next rules m e k)
next_holds rules m e k usable = by_control m.control e usable.settled (usable.sound, usable.there)
  where
    HoldsBy : Control → Type 0
    HoldsBy c = AreNested (running_frames m c) (length m.undo) × IsThere rules c

    by_stop : (f : Frame) (x : Failure) (halts : Bool) (b : Bool) → AreNested (f ∷ m.waiting) (length m.undo) → f.base < length m.undo
        → Holds rules (elim b as (λ _. Frames) [ true ↦ record m { control = Fails f x halts; stopped = true } | false ↦ record m { control = Fails f x halts; undo = take (length m.undo - 1) m.undo } ])
    by_stop f x halts true is more = (is, tt)
    by_stop f x halts false is more = (nested_less f m.waiting m.undo is more, tt)

    by_control : (c : Control) (e : Event) → is_settled_by rules m c ≡ true → HoldsBy c → Holds rules (next_by rules m c e k)
    by_control (Tests f last) (Tested true) settled is = ((omega arith, is.0), tt)
    by_control (Tests f last) (Tested false) settled is = rests_hold rules m (next_rule rules f last) (next_waits m (next_named rules f.name (suc f.rule)) f last, rule_there rules f last) is.0
    by_control (Tests f last) (Computed c r) settled is = is
    by_control (Tests f last) event.LongText settled is = is
    by_control (Tests f last) (Ran r) settled is = is
    by_control (Tests f last) (Undone y) settled is = is
    by_control (GoesOn f) (Computed c r) settled is =
        step_holds rules (record m { undo = m.undo ++ option_to_list r; begun = m.begun + 1 }) (record f { step = suc f.step }) c k
        (omega (arith, is.0.0, length-append m.undo (option_to_list r)), is.0.1)
    by_control (GoesOn f) event.LongText settled is = (is.0, tt)
    by_control (GoesOn f) (Tested b) settled is = is
    by_control (GoesOn f) (Ran r) settled is = is
    by_control (GoesOn f) (Undone y) settled is = is
    by_control (Fails f x halts) (Undone y) settled is = by_stop f x halts (was_stopped y) is.0 (ltb-true f.base (length m.undo) settled)
    by_control (Fails f x halts) (Tested b) settled is = is
    by_control (Fails f x halts) (Computed c r) settled is = is
    by_control (Fails f x halts) event.LongText settled is = is
    by_control (Fails f x halts) (Ran r) settled is = is
    by_control (Runs d) (Ran (Ok u)) settled is = (is.0, tt)
    by_control (Runs d) (Ran (Err x)) settled is = by_halt (is_stopped x || m.stopped)
      where
        by_halt : (b : Bool) → Holds rules (record m { stopped = is_stopped x || m.stopped; control = Ended (failed_as x b) })
        by_halt true = (is.0, tt)
        by_halt false = (is.0, tt)
    by_control (Runs d) (Tested b) settled is = is
    by_control (Runs d) (Computed c r) settled is = is
    by_control (Runs d) event.LongText settled is = is
    by_control (Runs d) (Undone y) settled is = is
    by_control (Ended o) (Tested b) settled is = is
    by_control (Ended o) (Computed c r) settled is = is
    by_control (Ended o) event.LongText settled is = is
    by_control (Ended o) (Ran r) settled is = is
    by_control (Ended o) (Undone y) settled is = is

-- ---- the start

pub point_holds : (rules : List Rule) (m : Frames) (name : Text) → Holds rules (at_point rules m name)
point_holds rules m name =
    let n : Frames = record m { waiting = []; undo = []; by_itself = false } in
    let c : Call = record { name = name; args = [] } in
    rests_hold rules n (called rules 0 c) (called_rests rules n 0 c) tt

pub call_holds : (rules : List Rule) (m : Frames) (c : Call) (k : Kind) → Holds rules (at_call rules m c k)
call_holds rules m c k = by_budget (nat_le (m.begun + 1) most_steps)
  where
    here : Frames
    here = record m { waiting = []; undo = []; by_itself = true; begun = m.begun + 1 }

    by_budget : (b : Bool) → Holds rules (record here { control = elim b [ true ↦ control_of rules 0 c k | false ↦ Ended (Halted Spent) ] })
    by_budget true = rests_hold rules here (control_of rules 0 c k) (control_rests rules here 0 c k) tt
    by_budget false = (tt, tt)

-- once it has settled
pub usable_settled : (rules : List Rule) (old new : Frames) → Holds rules old → Settles rules old new → IsUsable rules new
usable_settled rules old new holds settles = record { settled = settles.settled; sound = settles.keeps.sound holds.0; there = settles.keeps.there holds.1 }
