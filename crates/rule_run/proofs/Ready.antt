-- That a call may be made, and the next one behind it.
use Rattle.std.proofs.Common.{◌≡◌, inl, inr, ℕ, zero, suc, ◌+◌, ◌-◌, ◌*◌, ◌^◌, ◌≤◌, List, [], Option, Some, None, Result, Ok, IsTrue, false, refl, sym}
use Rattle.std.proofs.Common.{ap, ◌∙◌, subst, arith}
use Rattle.std.specs.Prelude.{⊤, ◌⊎◌}
use Rattle.std.specs.List.{list_all}
use Rattle.grid_outside.specs.Ambient.{AmbientState}
use Rattle.grid_outside.specs.Disk.{DiskState}
use Rattle.grid_outside.specs.Files.{StoreState}
use Rattle.grid_outside.specs.Sink.{SinkState}
use Rattle.grid_outside.specs.Source.{SourceState}
use Rattle.grid_model.specs.Applying.{is_user}
use Rattle.grid_model.specs.Deltas.{all_fit, call as call_parts, text as text_part, u32, u64}
use Rattle.grid_model.specs.Rows.{Cat}
use Rattle.grid_model.specs.RowGrids.{user_name}
use Rattle.grid_model.specs.Services.{service}
use Rattle.grid_model.specs.Doing.{do_call}
use Rattle.grid_model.specs.declared.calls.Call.{Call}
use Rattle.grid_model.specs.declared.deltas.Delta.TheVariants as delta
use Rattle.grid_model.specs.declared.refusal.Failure.{Failure}
use Rattle.grid_journal.specs.Journal.{can_be_kept}
use Rattle.grid_deed.specs.Held.{IsHeld}
use Rattle.plan_service.specs.ServicePlans.{AddsWords}
use Rattle.plan_service.proofs.AddedWords.{adds_words}
use Rattle.run_laws.specs.Passes.{AreReady, CallsPass, Seen}
use Rattle.service_run.specs.Commands.{noted_in}
use Rattle.service_run.specs.Steps.{IsStep, IsStepDone, StaysAway, WasNoted}
use Rattle.service_run.specs.declared.command.Command.{Command}
use Rattle.call_laws.specs.OneCall.{AreKeepable, AreShort, IsKeepable, IsShown, passed_over}
use Rattle.call_laws.proofs.Keepable.{args_words, keepable_next, noted_kept}
use Rattle.rule_run.specs.Calls.{MayGoOn, Spot, world_at}

-- any source
pub no_source : SourceState
no_source = record { faults = 0; tells = false; left = [] }

-- ---- before it

pub words_there : (c : Call) → IsTrue (all_fit (call_parts c)) → AddsWords (service c)
words_there c fits = adds_words c (args_words c fits)

pub noted_there : (x : Command) (undo : List Call) (c : Call) → IsKeepable x → AreKeepable x [] → AreShort x undo → IsTrue (all_fit (call_parts c))
    → IsTrue (list_all (λ d. all_fit (call_parts d)) undo) → IsTrue (can_be_kept (delta.Pending (noted_in x c undo)))
noted_there x undo c words kept short fits all =
    noted_kept x x x.marks undo c words refl (record { marks = kept.marks; passed = kept.passed; calls = all }) short fits

pub positive : (n : ℕ) → (n ≡ 0 → ⊥) → 1 ≤ n
positive zero some = absurd (some refl)
positive (suc n) some = omega arith

pub one_less : (n : ℕ) → (n ≡ 0 → ⊥) → n ≡ (n - 1) + 1
one_less n some = omega (arith, positive n some)

pub ready_one : {D A P K : Type 0} (disk : D → DiskState) (plugin : P → StoreState) (sink : K → SinkState) (at : Seen D A P K) (n : ℕ) → (n ≡ 0 → ⊥)
    → AreReady disk plugin sink (n * 2 ^ 65) at → AreReady disk plugin sink (2 ^ 65) at
ready_one disk plugin sink at n some ready = record {
  outside = record {
    main_last = ready.outside.main_last;
    stores_last = ready.outside.stores_last;
    room = omega (arith, ready.outside.room, positive n some);
  };
  sink_last = ready.sink_last;
}

-- ---- behind it

words_over : (x z : Command) (c : Call) (fr : Option Failure) → z ≡ record x { marks = z.marks; untold = z.untold } → IsKeepable x
    → IsKeepable (passed_over z c fr)
words_over x z c None rest k = record {
  run = ap (λ (y : Command). (u64 y.run).fits) rest ∙ k.run;
  number = ap (λ (y : Command). (u64 y.number).fits) rest ∙ k.number;
  user = ap (λ (y : Command). (u32 y.user).fits) rest ∙ k.user;
  line = ap (λ (y : Command). (text_part y.line).fits) rest ∙ k.line;
}
words_over x z c (Some f) rest k = record {
  run = ap (λ (y : Command). (u64 y.run).fits) rest ∙ k.run;
  number = ap (λ (y : Command). (u64 y.number).fits) rest ∙ k.number;
  user = ap (λ (y : Command). (u32 y.user).fits) rest ∙ k.user;
  line = ap (λ (y : Command). (text_part y.line).fits) rest ∙ k.line;
}

user_over : (z : Command) (c : Call) (fr : Option Failure) → (passed_over z c fr).user ≡ z.user
user_over z c None = refl
user_over z c (Some f) = refl

module _ {D A P K : Type 0} (disk : D → DiskState) (ambient : A → AmbientState) (plugin : P → StoreState) (sink : K → SinkState) (a b : Spot D A P K)
    (may : MayGoOn disk ambient plugin sink a) (c : Call) (undo : List Call) (z : Command) (ran : Result ⊤ Failure) (kept : Cat)
    (step : IsStep (world_at disk ambient plugin sink no_source a) (world_at disk ambient plugin sink no_source b) kept a.rows a.command c undo z b.rows
    (do_call (user_name a.rows.cat a.command.user) c) (Ok ran)) where
  abbrev done : IsStepDone (world_at disk ambient plugin sink no_source a) (world_at disk ambient plugin sink no_source b) kept a.rows a.command c undo z
      b.rows (do_call (user_name a.rows.cat a.command.user) c) ran
  done = step.ends

  held_by : StaysAway (world_at disk ambient plugin sink no_source a) (world_at disk ambient plugin sink no_source b) kept a.rows a.command c undo z b.rows
      done.marks
      ⊎ WasNoted (world_at disk ambient plugin sink no_source a) (world_at disk ambient plugin sink no_source b) kept a.rows a.command c undo z b.rows
      (do_call (user_name a.rows.cat a.command.user) c) done.marks
      → (k : Cat) × IsHeld k (disk b.seen.outside.main) b.rows
  held_by (inl s) = (kept, s.held)
  held_by (inr w) = (w.cat, w.held)

  pub goes_on : (failed sink_failed : Type 0) → CallsPass disk plugin sink failed sink_failed a.seen b.seen
      → b.seen.outside.moments + b.left * 2 ^ 65 ≤ a.seen.outside.moments + a.left * 2 ^ 65 → IsTrue (all_fit (call_parts c))
      → (fr : Option Failure) → IsShown fr → b.command ≡ passed_over z c fr → MayGoOn disk ambient plugin sink b
  goes_on failed sink_failed passes room fits fr shown over = record {
    held = held_by done.is_kept;
    user = subst (λ (id : ℕ). IsTrue (is_user b.rows.cat id)) (sym user_is) (done.beside.users a.command.user may.user);
    slots = done.beside.stores ∙ may.slots ∙ sym passes.frame.stores.count;
    words = subst IsKeepable (sym over) (words_over a.command z c fr done.rest may.words);
    kept = subst (λ (y : Command). AreKeepable y []) (sym over)
        (keepable_next a.command z [] [] c done.marks fr may.kept refl fits done.marks_are done.spelled (ap (λ (y : Command). y.passed) done.rest) shown);
    ready = record {
      outside = record {
        main_last = passes.frame.main_last may.ready.outside.main_last;
        stores_last = passes.frame.stores_last may.ready.outside.stores_last;
        room = omega (arith, room, may.ready.outside.room);
      };
      sink_last = passes.sink_last may.ready.sink_last;
    };
  }
    where
      user_is : b.command.user ≡ a.command.user
      user_is = ap (λ (y : Command). y.user) over ∙ user_over z c fr ∙ ap (λ (y : Command). y.user) done.rest
