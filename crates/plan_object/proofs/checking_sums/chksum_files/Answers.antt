use Rattle.std.proofs.Common.{sym, ap, ◌∙◌}
use Rattle.plan_object.specs.ChksumPlans.{read_files}
use Rattle.plan_object.proofs.ChksumRows.{may_chksum, no_file_read, no_sums, none_so_far, some_so_far}
use Rattle.plan_object.proofs.checking_sums.chksum_files.Goals as goal

pub returns-in-Err : goal.returns-in-Err
returns-in-Err c = no_sums c.args.tables.now _ c.args.path.now c.in-Err.refusal c.in-Err.ensures

pub returns-then-is_empty : goal.returns-then-is_empty
returns-then-is_empty c =
    no_file_read c.args.tables.now _ c.args.path.now c.requires.made c.in-Ok.id c.in-Ok.ensures
    (sym (c.as_slice.ensures.value ∙ c.in-Ok-readable_files.ensures ∙ ap (read_files c.args.tables.now) c.replicas_of.ensures) ∙ none_so_far c.as_slice.result.now c.if-is_empty.ensures)

pub returns : goal.returns
returns c =
    may_chksum c.args.tables.now _ c.args.path.now c.requires.made c.in-Ok.id c.in-Ok.ensures c.from_vec.result
    (c.from_vec.ensures ∙ c.in-Ok-readable_files.ensures ∙ ap (read_files c.args.tables.now) c.replicas_of.ensures)
    (some_so_far c.as_slice.result.now c.from_vec.result (c.as_slice.ensures.value ∙ sym c.from_vec.ensures) c.if-is_empty.ensures)
