use Rattle.std.proofs.Common.{◌++◌, ap, ◌∙◌}
use Rattle.std.specs.List.{list_all}
use Rattle.grid_journal.specs.Journal.{can_be_kept}
use Rattle.file_laws.specs.Rewriting.{replicas_staled}
use Rattle.plan_object.specs.ChksumPlans.{named_bad}
use Rattle.plan_object.proofs.BadMarks.{planned_sums, sums_object}
use Rattle.plan_object.proofs.checking_sums.plan_chksum.Goals as goal

pub unreachable-requires : goal.unreachable-requires
unreachable-requires c = sums_object c.args.tables.now c.requires.made c.requires.may.0 c.args.path.now c.requires.may.1 c.requires.may.2 c.in-None.ensures

pub returns : goal.returns
returns c = λ user files may word now found are.
    planned_sums c.args.tables.now c.requires.made user c.args.path.now files may c.in-Some.id c.in-Some.ensures word now found c.args.bad.now are c.from_vec.result
    (c.from_vec.ensures ∙ c.in_ok-push_bad-in-Some.ensures.bad ∙ (λ i. c.new-deltas.ensures.items i ++ replicas_staled (named_bad c.args.bad.now (c.replicas_of.ensures i))))
    (ap (list_all can_be_kept) c.from_vec.ensures ∙ c.in_ok-push_bad-in-Some.ensures.spelled (ap (list_all can_be_kept) c.new-deltas.ensures.items))
