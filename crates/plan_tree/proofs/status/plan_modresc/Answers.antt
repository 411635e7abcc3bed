use Rattle.std.proofs.Common.{sym, ◌∙◌}
use Rattle.plan_base.proofs.AtPaths.{user_known}
use Rattle.plan_tree.proofs.ChangedStatus.{unknown, coordinating, as_before, planned, name_of_row}
use Rattle.plan_tree.proofs.status.plan_modresc.Goals as goal

pub is_admin-requires-clause-user : goal.is_admin-requires-clause-user
is_admin-requires-clause-user c = user_known c.args.tables.now c.args.user c.requires.user

pub returns-in-None : goal.returns-in-None
returns-in-None c = unknown c.args.tables.now c.requires.made c.args.user c.args.name.now c.args.up (sym c.is_admin.ensures ∙ c.if-not-is_admin.false) c.in-None.ensures

pub returns-then-not-keeps_files : goal.returns-then-not-keeps_files
returns-then-not-keeps_files c =
    coordinating c.args.tables.now c.requires.made c.args.user c.args.name.now c.args.up (sym c.is_admin.ensures ∙ c.if-not-is_admin.false) c.in-Some.row.now c.in-Some.ensures
    (sym c.keeps_files.ensures ∙ c.if-not-keeps_files.true)

pub returns-then-row-up : goal.returns-then-row-up
returns-then-row-up c =
    as_before c.args.tables.now c.requires.made c.args.user c.args.name.now c.args.up (sym c.is_admin.ensures ∙ c.if-not-is_admin.false) c.in-Some.row.now c.in-Some.ensures (sym c.keeps_files.ensures ∙ c.if-not-keeps_files.false)
    c.if-row-up.true c.from_vec.result (c.from_vec.ensures ∙ c.new.ensures.items)

pub with_status-requires : goal.with_status-requires
with_status-requires c = name_of_row c.args.tables.now c.requires.made c.args.name.now c.in-Some.row.now c.in-Some.ensures

pub returns : goal.returns
returns c =
    planned c.args.tables.now c.requires.made c.args.user c.args.name.now c.args.up (sym c.is_admin.ensures ∙ c.if-not-is_admin.false) c.in-Some.row.now c.in-Some.ensures (sym c.keeps_files.ensures ∙ c.if-not-keeps_files.false)
    c.if-row-up.false c.in-Ok.next c.in-Ok.ensures.row c.in-Ok.ensures.spelled c.from_vec-in-Ok-vec.result (c.from_vec-in-Ok-vec.ensures ∙ c.in-Ok-vec.ensures.items)
