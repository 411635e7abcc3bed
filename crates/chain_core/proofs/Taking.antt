-- What an event makes of the machine does not depend on what it waited for as it is written over.
use Rattle.std.proofs.Common.{◌≡◌, ◌-◌, Bool, true, false, List, length, take, Option, refl, sym, ◌∙◌, subst}
use Rattle.std.specs.Prelude.{Ok, Err}
use Rattle.grid_model.specs.RuleText.{Rule}
use Rattle.grid_model.specs.declared.calls.Call.{Call}
use Rattle.grid_model.specs.declared.refusal.Failure.{Failure}
use Rattle.chain_core.specs.declared.actions.Event.{Event}
use Rattle.chain_core.specs.declared.actions.Event.TheVariants.{Tested, Computed, LongText, Ran, Undone}
use Rattle.chain_core.specs.declared.actions.Outcome.{Outcome}
use Rattle.chain_core.specs.declared.actions.Outcome.TheVariants.{NoneApplied}
use Rattle.chain_core.specs.declared.kinds.Kind.{Kind}
use Rattle.chain_core.specs.declared.kinds.Kind.TheVariants.{Name}
use Rattle.chain_core.specs.declared.stack.Frame.{Frame}
use Rattle.chain_core.specs.declared.frames.Control.{Control}
use Rattle.chain_core.specs.declared.frames.Control.TheVariants.{Tests, Fails, Runs, Ended}
use Rattle.chain_core.specs.declared.frames.Frames.{Frames}
use Rattle.chain_core.specs.Moves.{next_by, was_stopped}
use Rattle.chain_core.specs.Seen.{TakesEvent}

tests_over : (rules : List Rule) (m : Frames) (x : Control) (f : Frame) (last : Option Failure) (e : Event) (k : Kind)
    → next_by rules (record m { control = x }) (Tests f last) e k ≡ next_by rules m (Tests f last) e k
tests_over rules m x f last (Tested true) k = refl
tests_over rules m x f last (Tested false) k = refl
tests_over rules m x f last (Computed c r) k = refl
tests_over rules m x f last LongText k = refl
tests_over rules m x f last (Ran r) k = refl
tests_over rules m x f last (Undone y) k = refl

runs_over : (rules : List Rule) (m : Frames) (x : Control) (c : Call) (e : Event) (k : Kind) → next_by rules (record m { control = x }) (Runs c) e k ≡ next_by rules m (Runs c) e k
runs_over rules m x c (Tested b) k = refl
runs_over rules m x c (Computed d r) k = refl
runs_over rules m x c LongText k = refl
runs_over rules m x c (Ran (Ok u)) k = refl
runs_over rules m x c (Ran (Err y)) k = refl
runs_over rules m x c (Undone y) k = refl

fails_over : (rules : List Rule) (m : Frames) (x : Control) (f : Frame) (y : Failure) (halts : Bool) (e : Event) (k : Kind)
    → next_by rules (record m { control = x }) (Fails f y halts) e k ≡ next_by rules m (Fails f y halts) e k
fails_over rules m x f y halts (Tested b) k = refl
fails_over rules m x f y halts (Computed d r) k = refl
fails_over rules m x f y halts LongText k = refl
fails_over rules m x f y halts (Ran r) k = refl
fails_over rules m x f y halts (Undone z) k = by_stop (was_stopped z)
  where
    as_stopped : Bool → Frames
    as_stopped b = elim b [
      | true ↦ record m { control = Fails f y halts; stopped = true }
      | false ↦ record m { control = Fails f y halts; undo = take (length m.undo - 1) m.undo }
    ]

    by_stop : (b : Bool)
        → elim b as (λ _. Frames) [
          | true ↦ record (record m { control = x }) { control = Fails f y halts; stopped = true }
          | false ↦ record (record m { control = x }) { control = Fails f y halts; undo = take (length m.undo - 1) m.undo }
        ]
        ≡ as_stopped b
    by_stop true = refl
    by_stop false = refl

ended_over : (rules : List Rule) (m : Frames) (o : Outcome) (e : Event) (k : Kind) → record m { control = Ended o } ≡ next_by rules m (Ended o) e k
ended_over rules m o (Tested b) k = refl
ended_over rules m o (Computed d r) k = refl
ended_over rules m o LongText k = refl
ended_over rules m o (Ran r) k = refl
ended_over rules m o (Undone z) k = refl

-- ---- each control

-- nothing is waited for while an event is taken
abbrev pub away : Frames → Frames
away m = record m { control = Ended NoneApplied }

module _ (rules : List Rule) (m n : Frames) (e : Event) where
  takes_as : (c : Control) → m.control ≡ c → TakesEvent rules m c e n → TakesEvent rules m m.control e n
  takes_as c is = subst (λ x. TakesEvent rules m x e n) (sym is)

  pub tests_takes : (f : Frame) (last : Option Failure) → m.control ≡ Tests f last → n ≡ next_by rules (away m) (Tests f last) e Name → TakesEvent rules m m.control e n
  tests_takes f last is made = takes_as (Tests f last) is (Name, tt, made ∙ tests_over rules m (Ended NoneApplied) f last e Name)

  pub runs_takes : (c : Call) → m.control ≡ Runs c → n ≡ next_by rules (away m) (Runs c) e Name → TakesEvent rules m m.control e n
  runs_takes c is made = takes_as (Runs c) is (Name, tt, made ∙ runs_over rules m (Ended NoneApplied) c e Name)

  pub fails_takes : (f : Frame) (y : Failure) (halts : Bool) → m.control ≡ Fails f y halts → n ≡ next_by rules (away m) (Fails f y halts) e Name → TakesEvent rules m m.control e n
  fails_takes f y halts is made = takes_as (Fails f y halts) is (Name, tt, made ∙ fails_over rules m (Ended NoneApplied) f y halts e Name)

  pub ended_takes : (o : Outcome) → m.control ≡ Ended o → n ≡ record m { control = Ended o } → TakesEvent rules m m.control e n
  ended_takes o is made = takes_as (Ended o) is (Name, tt, made ∙ ended_over rules m o e Name)
