use Rattle.std.proofs.Common.{refl, sym, ap, ◌∙◌}
use Rattle.std.specs.Option.{option_copied}
use Rattle.cmd_run.proofs.LoginLemmas.{is_named, nobody, is_nobody, no_person, a_person}
use Rattle.cmd_run.proofs.logins.person_named.Goals as goal

pub unreachable-requires : goal.unreachable-requires
unreachable-requires c =
    let tables = c.args.tables.now in
    is_nobody tables c.args.name.now c.in-Some.id (is_named tables c.args.name.now c.in-Some.id c.in_order.ensures c.in-Some.ensures)
    (ap option_copied (sym c.in-None-user.is) ∙ c.user.ensures)

pub returns-in-None : goal.returns-in-None
returns-in-None c = nobody c.args.tables.now c.args.name.now c.in-None.ensures

pub returns-in-Rodsgroup : goal.returns-in-Rodsgroup
returns-in-Rodsgroup c =
    let tables = c.args.tables.now in
    no_person tables c.args.name.now c.in-Some.id (is_named tables c.args.name.now c.in-Some.id c.in_order.ensures c.in-Some.ensures) c.in-Some-user.row.now
    (ap option_copied (sym c.in-Some-user.is) ∙ c.user.ensures) (rw c.in-Rodsgroup.is refl)

pub returns-in-Rodsadmin : goal.returns-in-Rodsadmin
returns-in-Rodsadmin c =
    let tables = c.args.tables.now in
    a_person tables c.args.name.now c.in-Some.id (is_named tables c.args.name.now c.in-Some.id c.in_order.ensures c.in-Some.ensures) c.in-Some-user.row.now
    (ap option_copied (sym c.in-Some-user.is) ∙ c.user.ensures) (rw c.in-Rodsadmin.is refl)

pub returns-in-Rodsuser : goal.returns-in-Rodsuser
returns-in-Rodsuser c =
    let tables = c.args.tables.now in
    a_person tables c.args.name.now c.in-Some.id (is_named tables c.args.name.now c.in-Some.id c.in_order.ensures c.in-Some.ensures) c.in-Some-user.row.now
    (ap option_copied (sym c.in-Some-user.is) ∙ c.user.ensures) (rw c.in-Rodsuser.is refl)
