-- What an operation leaves for the calls behind it.
use Rattle.std.proofs.Common.{◌≡◌, inl, inr, ℕ, false, List, [], Result, Ok, Err, IsTrue, refl, sym, ap, ◌∙◌, subst}
use Rattle.std.specs.Prelude.{⊤, ◌⊎◌, IfOk}
use Rattle.std.specs.List.{list_all}
use Rattle.grid_outside.specs.Source.{SourceState}
use Rattle.grid_model.specs.Applying.{is_user}
use Rattle.grid_model.specs.Deltas.{all_fit, mark as mark_parts, passed as passed_parts, text as text_part, u32, u64}
use Rattle.grid_model.specs.Rows.{Cat}
use Rattle.grid_model.specs.RowGrids.{user_name}
use Rattle.grid_model.specs.Doing.{Course, Did}
use Rattle.grid_model.specs.Meanings.{Meaning}
use Rattle.grid_model.specs.declared.calls.Call.{Call}
use Rattle.grid_model.specs.declared.refusal.Failure.{Failure}
use Rattle.grid_journal.specs.Journal.{Journal}
use Rattle.grid_deed.specs.Held.{IsHeld}
use Rattle.grid_headline.specs.Worlds.{World}
use Rattle.service_run.specs.Steps.{IsStep, IsStepDone, StaysAway, WasNoted}
use Rattle.service_run.specs.declared.command.Command.{Command}
use Rattle.service_run.specs.declared.ending.Ending.{Ending}
use Rattle.call_laws.specs.OneCall.{AreKeepable, AreShort, IsKeepable}
use Rattle.call_laws.proofs.Keepable.{joined_of, noted_kept}
use Rattle.deed_run.specs.Puts.{MayBeNoted}
use Rattle.work_run.specs.Next.{CanGoOn}

-- any source
pub no_source : SourceState
no_source = record { faults = 0; tells = false; left = [] }

-- the command may be noted in any call, with no recoveries
pub may_be_noted : (x : Command) → IsKeepable x → AreKeepable x [] → AreShort x [] → MayBeNoted x []
may_be_noted x words kept short c fits = noted_kept x x x.marks [] c words refl kept short fits

module _ {B : Type 0} (old new : World B) (kept : Cat) (rows : Journal) (x : Command) (call : Call) (undo : List Call) (y : Command) (after : Journal)
    (does : Course → Meaning Did) (ran : Result ⊤ Failure) (done : IsStepDone old new kept rows x call undo y after does ran) where
  user_is : y.user ≡ x.user
  user_is = ap (λ (z : Command). z.user) done.rest

  held_by : StaysAway old new kept rows x call undo y after done.marks ⊎ WasNoted old new kept rows x call undo y after does done.marks
      → (k : Cat) × IsHeld k new.main after
  held_by (inl a) = (kept, a.held)
  held_by (inr w) = (w.cat, w.held)

  pub name_on : IsTrue (is_user rows.cat x.user) → user_name after.cat y.user ≡ user_name rows.cat x.user
  name_on user = ap (user_name after.cat) user_is ∙ done.beside.names x.user user

  pub can_go_on : IsTrue (is_user rows.cat x.user) → IsKeepable x → AreKeepable x [] → CanGoOn new.main after y
  can_go_on user words keeps = record {
    held = held_by done.is_kept;
    user = subst (λ (id : ℕ). IsTrue (is_user after.cat id)) (sym user_is) (done.beside.users x.user user);
    words = record {
      run = ap (λ (z : Command). (u64 z.run).fits) done.rest ∙ words.run;
      number = ap (λ (z : Command). (u64 z.number).fits) done.rest ∙ words.number;
      user = ap (λ (z : Command). (u32 z.user).fits) done.rest ∙ words.user;
      line = ap (λ (z : Command). (text_part z.line).fits) done.rest ∙ words.line;
    };
    kept = record {
      marks = ap (list_all (λ m. all_fit (mark_parts m))) done.marks_are
          ∙ joined_of (λ m. all_fit (mark_parts m)) x.marks done.marks keeps.marks done.spelled;
      passed = ap (λ (z : Command). list_all (λ q. all_fit (passed_parts q)) z.passed) done.rest ∙ keeps.passed;
      calls = refl;
    };
  }

-- the same by how it ended
module _ {B : Type 0} (old new : World B) (kept : Cat) (rows : Journal) (x : Command) (call : Call) (undo : List Call) (y : Command) (after : Journal)
    (does : Course → Meaning Did) where
  pub next_by : (result : Result (Result ⊤ Failure) Ending) → IsStep old new kept rows x call undo y after does result → IsTrue (is_user rows.cat x.user)
      → IsKeepable x → AreKeepable x [] → IfOk result (λ ran. CanGoOn new.main after y)
  next_by (Ok ran) step user words keeps = can_go_on old new kept rows x call undo y after does ran step.ends user words keeps
  next_by (Err e) step user words keeps = tt

  pub name_by : (result : Result (Result ⊤ Failure) Ending) → IsStep old new kept rows x call undo y after does result → IsTrue (is_user rows.cat x.user)
      → IfOk result (λ ran. user_name after.cat y.user ≡ user_name rows.cat x.user)
  name_by (Ok ran) step user = name_on old new kept rows x call undo y after does ran step.ends user
  name_by (Err e) step user = tt

  pub stores_by : (result : Result (Result ⊤ Failure) Ending) → IsStep old new kept rows x call undo y after does result
      → IfOk result (λ ran. after.cat.stores ≡ rows.cat.stores)
  stores_by (Ok ran) step = step.ends.beside.stores
  stores_by (Err e) step = tt
