use Rattle.std.proofs.Common.{◌≡◌, Err, ap, ◌∙◌, arith}
use Rattle.std.specs.Prelude.{⊤, Result, IsErrOf}
use Rattle.grid_outside.specs.declared.outside.Wear.TheVariants as wear
use Rattle.grid_model.specs.declared.refusal.Failure.{Failure}
use Rattle.service_run.specs.declared.command.Command.{Command}
use Rattle.service_run.specs.declared.ending.Ending.{Ending}
use Rattle.service_run.specs.declared.ending.Ending.TheVariants as ending
use Rattle.service_run.specs.Changes.{with_mark}
use Rattle.service_run.proofs.NoteSteps.{no_vaults}
use Rattle.service_run.proofs.Passing.{passes_as}
use Rattle.deed_run.specs.Written.{written_mark}
use Rattle.deed_run.proofs.writing.write_marked.Goals as goal

pub write_noted-requires-clause-ready : goal.write_noted-requires-clause-ready
write_noted-requires-clause-ready g c =
    let ready = c.requires.ready in
    record {
      outside = record { main_last = ready.outside.main_last; stores_last = ready.outside.stores_last; room = omega (arith, ready.outside.room, c.few_writes.ensures) };
      sink_last = ready.sink_last;
    }

-- ---- it came to no end

pub returns-in-Err-clause-marked : goal.returns-in-Err-clause-marked
returns-in-Err-clause-marked g c kept held p = let it = c.in-Err.ensures.written kept held p in record { ends = it.ends; leaves = it.leaves }

pub returns-in-Err-clause-passes : goal.returns-in-Err-clause-passes
returns-in-Err-clause-passes g c =
    let o = c.args.outside.now in
    passes_as g.D.Disk.disk g.P.Plugin.plugin g.K.Sink.sink _ _ _ _ o c.write_noted.new.outside o.ambient c.args.sink.now c.write_noted.new.sink (λ e. cc) (λ e. cc) (λ e. cc) c.in-Err.ensures.passes

pub returns-in-Err-clause-left : goal.returns-in-Err-clause-left
returns-in-Err-clause-left g c place is =
    let o = c.args.outside.now in
    let n = c.write_noted.new.outside in
    let same : c.in-Err.ending ≡ ending.Worn wear.Vaults place = cc in
    no_vaults (g.D.Disk.disk o.main) (g.D.Disk.disk n.main) (g.K.Sink.sink c.args.sink.now) (g.K.Sink.sink c.write_noted.new.sink) c.in-Err.ending
    (c.in-Err.ensures.written c.requires.held.0 c.requires.held.1 c.requires.plan).ends place same

pub returns-in_default-clause-marked : goal.returns-in_default-clause-marked
returns-in_default-clause-marked g c kept held p = record { ends = tt; leaves = (c.in-Ok.ensures.written kept held p).leaves }

pub returns-in_default-clause-passes : goal.returns-in_default-clause-passes
returns-in_default-clause-passes g c =
    let o = c.args.outside.now in
    let r : Result (Result ⊤ Failure) Ending = Err ending.Memory in
    passes_as g.D.Disk.disk g.P.Plugin.plugin g.K.Sink.sink _ _ (IsErrOf r ending.Disk) (IsErrOf r ending.Sink) o c.write_noted.new.outside o.ambient c.args.sink.now c.write_noted.new.sink (λ e. cc) (λ e. cc) (λ e. cc) c.in-Ok.ensures.passes

-- ---- it came to its mark

pub returns-clause-marked : goal.returns-clause-marked
returns-clause-marked g c kept held p =
    let it = c.in-Ok.ensures.written kept held p in
    record {
      ends = record {
        answer = c.in-Ok.fault;
        staged = it.ends;
        ran_is = c.written_ran.ensures;
        command = c.in-Ok-take_written.ensures.taken ∙ ap (λ (z : Command). with_mark z (written_mark c.args.word c.args.now c.in-Ok.fault)) c.in-Ok.ensures.command;
        spelled = c.written_is_kept.ensures;
      };
      leaves = it.leaves;
    }

-- ---- how many moments it takes

pub returns-in-Err-clause-drawn : goal.returns-in-Err-clause-drawn
returns-in-Err-clause-drawn g c = c.in-Err.ensures.drawn

pub returns-in-Err-clause-few : goal.returns-in-Err-clause-few
returns-in-Err-clause-few g c = c.few_writes.ensures

pub returns-in_default-clause-drawn : goal.returns-in_default-clause-drawn
returns-in_default-clause-drawn g c = c.in-Ok.ensures.drawn

pub returns-in_default-clause-few : goal.returns-in_default-clause-few
returns-in_default-clause-few g c = c.few_writes.ensures

pub returns-clause-drawn : goal.returns-clause-drawn
returns-clause-drawn g c = c.in-Ok.ensures.drawn

pub returns-clause-few : goal.returns-clause-few
returns-clause-few g c = c.few_writes.ensures
