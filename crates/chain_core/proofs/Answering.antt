-- An event changes nothing of what is still to be done, from where its action left the command.
use Rattle.std.proofs.Common.{◌≡◌, ℕ, Bool, Option, refl, ap}
use Rattle.grid_model.specs.declared.calls.Call.{Call}
use Rattle.grid_model.specs.declared.refusal.Failure.{Failure}
use Rattle.chain_core.specs.declared.actions.Action.TheVariants.{Test, Eval, Run, Undo}
use Rattle.chain_core.specs.declared.stack.Frame.{Frame}
use Rattle.chain_core.specs.declared.frames.Control.{Control}
use Rattle.chain_core.specs.declared.frames.Control.TheVariants.{Tests, GoesOn, Fails, Runs, Ended}
use Rattle.chain_core.specs.Answers.{asked_by}

-- ---- what is asked for tells where the machine stands

pub at_test : (b : Bool) (c : Control) (i : ℕ) → asked_by b c ≡ Test i → (f : Frame) × (last : Option Failure) × (c ≡ Tests f last) × (i ≡ f.rule)
at_test b (Tests f last) i e = (f, last, refl, cc e)
at_test b (GoesOn f) i e = absurd (cc e)
at_test b (Fails f x halts) i e = absurd (cc e)
at_test b (Runs c) i e = absurd (cc e)
at_test b (Ended o) i e = absurd (cc e)

pub at_eval : (b : Bool) (c : Control) (i j : ℕ) → asked_by b c ≡ Eval i j → (f : Frame) × (c ≡ GoesOn f) × (i ≡ f.rule) × (j ≡ f.step)
at_eval b (Tests f last) i j e = absurd (cc e)
at_eval b (GoesOn f) i j e = (f, refl, cc e, cc e)
at_eval b (Fails f x halts) i j e = absurd (cc e)
at_eval b (Runs c) i j e = absurd (cc e)
at_eval b (Ended o) i j e = absurd (cc e)

pub at_run : (b : Bool) (c : Control) (call : Call) → asked_by b c ≡ Run call → c ≡ Runs call
at_run b (Tests f last) call e = absurd (cc e)
at_run b (GoesOn f) call e = absurd (cc e)
at_run b (Fails f x halts) call e = absurd (cc e)
at_run b (Runs c) call e = ap Runs (cc e)
at_run b (Ended o) call e = absurd (cc e)

pub at_undo : (b : Bool) (c : Control) → asked_by b c ≡ Undo → (f : Frame) × (x : Failure) × (halts : Bool) × (c ≡ Fails f x halts)
at_undo b (Tests f last) e = absurd (cc e)
at_undo b (GoesOn f) e = absurd (cc e)
at_undo b (Fails f x halts) e = (f, x, halts, refl)
at_undo b (Runs c) e = absurd (cc e)
at_undo b (Ended o) e = absurd (cc e)
