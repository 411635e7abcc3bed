use Rattle.std.proofs.Common.{Err, sym, ap, ◌∙◌, subst}
use Rattle.std.specs.Prelude.{Result}
use Rattle.grid_model.specs.declared.refusal.Failure.{Failure}
use Rattle.chain_core.specs.Answers.{failure_in}
use Rattle.call_laws.specs.OneCall.{IsShown, cut, passed_over, ran_out}
use Rattle.undo_run.proofs.Loop.{passes_err, passes_memory, passes_ok}
use Rattle.undo_run.proofs.passing.undo_one.Goals as goal

pub run_call-requires-clause-held : goal.run_call-requires-clause-held
run_call-requires-clause-held g c = c.requires.held

pub run_call-requires-clause-user : goal.run_call-requires-clause-user
run_call-requires-clause-user g c = c.requires.user

pub run_call-requires-clause-words : goal.run_call-requires-clause-words
run_call-requires-clause-words g c = c.requires.words

pub run_call-requires-clause-spelled : goal.run_call-requires-clause-spelled
run_call-requires-clause-spelled g c = c.requires.spelled

pub run_call-requires-clause-slots : goal.run_call-requires-clause-slots
run_call-requires-clause-slots g c = c.requires.slots

pub run_call-requires-clause-ready : goal.run_call-requires-clause-ready
run_call-requires-clause-ready g c = c.requires.ready

pub returns-in-Ok-Ok-clause-ends : goal.returns-in-Ok-Ok-clause-ends
returns-in-Ok-Ok-clause-ends g c source kept held = (
  record {
    ran = c.in-Ok-Ok.field-0;
    left = c.run_call.new.command;
    step = c.in-Ok-Ok.ensures.step source kept held;
    over = sym (ap (λ (r : Result Unit Failure). passed_over c.run_call.new.command c.args.call.now (failure_in r)) c.in-Ok-Ok.field-0-is);
    shown = subst (λ (r : Result Unit Failure). IsShown (failure_in r)) (sym c.in-Ok-Ok.field-0-is) tt;
  },
  sym (ap failure_in c.in-Ok-Ok.field-0-is),
)

pub returns-in-Ok-clause-ends : goal.returns-in-Ok-clause-ends
returns-in-Ok-clause-ends g c source kept held = (
  record {
    ran = c.in-Ok-Err.field-0;
    left = c.run_call.new.command;
    step = c.in-Ok-Err.ensures.step source kept held;
    over = c.in-Ok.ensures.passed
        ∙ sym (ap (λ (r : Result Unit Failure). passed_over c.run_call.new.command c.args.call.now (failure_in r))
        (c.in-Ok-Err.field-0-is ∙ ap Err c.in-Ok-Err.failure-is));
    shown = subst (λ (r : Result Unit Failure). IsShown (failure_in r)) (sym (c.in-Ok-Err.field-0-is ∙ ap Err c.in-Ok-Err.failure-is)) c.in-Ok.ensures.shown;
  },
  sym (ap failure_in (c.in-Ok-Err.field-0-is ∙ ap Err c.in-Ok-Err.failure-is)),
)

pub returns-in-Err-pass_over-clause-ends : goal.returns-in-Err-pass_over-clause-ends
returns-in-Err-pass_over-clause-ends g c source kept held = ran_out c.in-Ok-Err.field-0 c.run_call.new.command (c.in-Ok-Err.ensures.step source kept held)

pub returns-in-Err-clause-ends : goal.returns-in-Err-clause-ends
returns-in-Err-clause-ends g c source kept held = cut (c.in-Err.ensures.step source kept held)

-- ---- what its calls pass

pub returns-in-Ok-Ok-clause-passes : goal.returns-in-Ok-Ok-clause-passes
returns-in-Ok-Ok-clause-passes g c = passes_ok g.D.Disk.disk g.P.Plugin.plugin g.K.Sink.sink _ _ _ _ c.in-Ok-Ok.ensures.passes

pub returns-in-Ok-clause-passes : goal.returns-in-Ok-clause-passes
returns-in-Ok-clause-passes g c = passes_ok g.D.Disk.disk g.P.Plugin.plugin g.K.Sink.sink _ _ _ _ c.in-Ok-Err.ensures.passes

pub returns-in-Err-pass_over-clause-passes : goal.returns-in-Err-pass_over-clause-passes
returns-in-Err-pass_over-clause-passes g c = passes_memory g.D.Disk.disk g.P.Plugin.plugin g.K.Sink.sink _ _ _ c.in-Ok-Err.ensures.passes

pub returns-in-Err-clause-passes : goal.returns-in-Err-clause-passes
returns-in-Err-clause-passes g c = passes_err g.D.Disk.disk g.P.Plugin.plugin g.K.Sink.sink _ _ _ c.in-Err.ensures.passes

-- ---- how many moments it takes

pub returns-in-Ok-Ok-clause-drawn : goal.returns-in-Ok-Ok-clause-drawn
returns-in-Ok-Ok-clause-drawn g c each most = c.in-Ok-Ok.ensures.drawn each most

pub returns-in-Ok-clause-drawn : goal.returns-in-Ok-clause-drawn
returns-in-Ok-clause-drawn g c each most = c.in-Ok-Err.ensures.drawn each most

pub returns-in-Err-pass_over-clause-drawn : goal.returns-in-Err-pass_over-clause-drawn
returns-in-Err-pass_over-clause-drawn g c each most = c.in-Ok-Err.ensures.drawn each most

pub returns-in-Err-clause-drawn : goal.returns-in-Err-clause-drawn
returns-in-Err-clause-drawn g c each most = c.in-Err.ensures.drawn each most
