use Rattle.std.proofs.Common.{◌≡◌, Err, IsTrue, ap, ◌∙◌, subst, arith}
use Rattle.std.specs.Prelude.{⊤, Result, [], IsErrOf}
use Rattle.grid_outside.specs.declared.outside.Wear.TheVariants as wear
use Rattle.grid_model.specs.declared.marks.Mark.{Mark}
use Rattle.grid_model.specs.declared.refusal.Failure.{Failure}
use Rattle.service_run.specs.declared.command.Command.{Command}
use Rattle.service_run.specs.declared.ending.Ending.{Ending}
use Rattle.service_run.specs.declared.ending.Ending.TheVariants as ending
use Rattle.service_run.specs.Changes.{mark_fits, with_mark}
use Rattle.service_run.proofs.NoteSteps.{no_vaults}
use Rattle.service_run.proofs.Passing.{passes_as}
use Rattle.service_run.proofs.copy_deeds.copy_marked.Goals as goal

pub few_copies-requires : goal.few_copies-requires
few_copies-requires g c = c.requires.few

pub copy_noted-requires-clause-ready : goal.copy_noted-requires-clause-ready
copy_noted-requires-clause-ready g c =
    let ready = c.requires.ready in
    record {
      outside = record { main_last = ready.outside.main_last; stores_last = ready.outside.stores_last; room = omega (arith, ready.outside.room, c.few_copies.ensures) };
      sink_last = ready.sink_last;
    }

-- ---- it came to no end

pub returns-in-Err-clause-marked : goal.returns-in-Err-clause-marked
returns-in-Err-clause-marked g c kept held p = let it = c.in-Err.ensures.copied kept held p in record { ends = it.ends; leaves = it.leaves }

pub returns-in-Err-clause-passes : goal.returns-in-Err-clause-passes
returns-in-Err-clause-passes g c =
    let o = c.args.outside.now in
    passes_as g.D.Disk.disk g.P.Plugin.plugin g.K.Sink.sink _ _ _ _ o c.copy_noted.new.outside o.ambient c.args.sink.now c.copy_noted.new.sink (λ e. cc) (λ e. cc) (λ e. cc) c.in-Err.ensures.passes

pub returns-in-Err-clause-left : goal.returns-in-Err-clause-left
returns-in-Err-clause-left g c place is =
    let o = c.args.outside.now in
    let n = c.copy_noted.new.outside in
    let same : c.in-Err.ending ≡ ending.Worn wear.Vaults place = cc in
    no_vaults (g.D.Disk.disk o.main) (g.D.Disk.disk n.main) (g.K.Sink.sink c.args.sink.now) (g.K.Sink.sink c.copy_noted.new.sink) c.in-Err.ending
    (c.in-Err.ensures.copied c.requires.held.0 c.requires.held.1 c.requires.plan).ends place same

pub returns-in_default-clause-marked : goal.returns-in_default-clause-marked
returns-in_default-clause-marked g c kept held p = record { ends = tt; leaves = (c.in-Ok.ensures.copied kept held p).leaves }

pub returns-in_default-clause-passes : goal.returns-in_default-clause-passes
returns-in_default-clause-passes g c =
    let o = c.args.outside.now in
    let r : Result (Result ⊤ Failure) Ending = Err ending.Memory in
    passes_as g.D.Disk.disk g.P.Plugin.plugin g.K.Sink.sink _ _ (IsErrOf r ending.Disk) (IsErrOf r ending.Sink) o c.copy_noted.new.outside o.ambient c.args.sink.now c.copy_noted.new.sink (λ e. cc) (λ e. cc) (λ e. cc) c.in-Ok.ensures.passes

-- ---- it came to its mark

pub returns-clause-marked : goal.returns-clause-marked
returns-clause-marked g c kept held p =
    let x = c.args.command.now in
    let it = c.in-Ok.ensures.copied kept held p in
    let F : Mark → Type 0 = λ m. IsTrue (mark_fits m) in
    record {
      ends = record {
        answer = c.in-Ok.copied;
        staged = it.ends;
        ran_is = c.copied_ran.ensures;
        command = c.in-Ok-take_mark.ensures.taken ∙ ap (λ (z : Command). with_mark z c.copied_mark.result) c.in-Ok.ensures.command ∙ ap (λ (m : Mark). with_mark (record x { untold = [] }) m) c.copied_mark.ensures;
        spelled = subst F c.copied_mark.ensures c.in-Ok-take_mark.ensures.kept;
      };
      leaves = it.leaves;
    }

-- ---- how many moments it takes

pub returns-in-Err-clause-drawn : goal.returns-in-Err-clause-drawn
returns-in-Err-clause-drawn g c = c.in-Err.ensures.drawn

pub returns-in-Err-clause-few : goal.returns-in-Err-clause-few
returns-in-Err-clause-few g c = c.few_copies.ensures

pub returns-in_default-clause-drawn : goal.returns-in_default-clause-drawn
returns-in_default-clause-drawn g c = c.in-Ok.ensures.drawn

pub returns-in_default-clause-few : goal.returns-in_default-clause-few
returns-in_default-clause-few g c = c.few_copies.ensures

pub returns-clause-drawn : goal.returns-clause-drawn
returns-clause-drawn g c = c.in-Ok.ensures.drawn

pub returns-clause-few : goal.returns-clause-few
returns-clause-few g c = c.few_copies.ensures
