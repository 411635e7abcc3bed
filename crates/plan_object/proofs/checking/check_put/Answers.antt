use Rattle.std.proofs.Common.{sym, ◌∙◌}
use Rattle.plan_object.specs.Writing.{Wanted}
use Rattle.plan_object.proofs.GotFiles.{known_named}
use Rattle.plan_object.proofs.PutRows.{exists, free_path, may_be_put, no_access, no_resource, no_room, no_target}
use Rattle.plan_base.proofs.AtPaths.{sound_of}
use Rattle.plan_object.proofs.checking.check_put.Goals as goal

pub returns-in-None : goal.returns-in-None
returns-in-None c =
    let w : Wanted = record { path = c.args.path.now; resource = c.args.resource.now; mode = c.args.mode; size = c.args.size } in
    no_resource c.args.tables.now c.requires.made _ w c.in-Ok.parent c.in-Ok.ensures c.in-None.ensures

pub returns-then-not-may_put : goal.returns-then-not-may_put
returns-then-not-may_put c =
    let w : Wanted = record { path = c.args.path.now; resource = c.args.resource.now; mode = c.args.mode; size = c.args.size } in
    no_access c.args.tables.now c.requires.made _ w c.in-Ok.parent c.in-Ok.ensures c.in-Some.resource c.in-Some.ensures (c.if-not-may_put.ensures c.in-Ok.ensures)

pub returns-then-not-may_stand : goal.returns-then-not-may_stand
returns-then-not-may_stand c =
    let w : Wanted = record { path = c.args.path.now; resource = c.args.resource.now; mode = c.args.mode; size = c.args.size } in
    exists c.args.tables.now c.requires.made _ w c.in-Ok.parent c.in-Ok.ensures c.in-Some.resource c.in-Some.ensures (c.if-not-may_put.ensures c.in-Ok.ensures) c.if-not-may_stand.ensures

pub has_targets-requires-clause-there : goal.has_targets-requires-clause-there
has_targets-requires-clause-there c = (known_named c.args.tables.now c.args.resource.now (sound_of c.args.tables.now c.requires.made) c.in-Some.resource c.in-Some.ensures).there

pub returns-then-not-any : goal.returns-then-not-any
returns-then-not-any c =
    let w : Wanted = record { path = c.args.path.now; resource = c.args.resource.now; mode = c.args.mode; size = c.args.size } in
    no_target c.args.tables.now c.requires.made _ w c.in-Ok.parent c.in-Ok.ensures c.in-Some.resource c.in-Some.ensures (c.if-not-may_put.ensures c.in-Ok.ensures) c.if-not-may_stand.ensures
    (sym c.if-not-any.true ∙ c.in-Ok-has_targets.ensures)

pub check_room-requires-clause-free : goal.check_room-requires-clause-free
check_room-requires-clause-free c = free_path c.args.tables.now c.requires.made c.args.path.now c.args.mode c.if-not-may_stand.ensures

pub returns-in-Err-check_room : goal.returns-in-Err-check_room
returns-in-Err-check_room c =
    let w : Wanted = record { path = c.args.path.now; resource = c.args.resource.now; mode = c.args.mode; size = c.args.size } in
    no_room c.args.tables.now c.requires.made _ w c.in-Ok.parent c.in-Ok.ensures c.in-Some.resource c.in-Some.ensures (c.if-not-may_put.ensures c.in-Ok.ensures) c.if-not-may_stand.ensures
    (sym c.if-not-any.false ∙ c.in-Ok-has_targets.ensures) c.in-Err-check_room.error (c.in-Err-check_room.ensures c.in-Ok.ensures)

pub returns-in-Ok-check_room : goal.returns-in-Ok-check_room
returns-in-Ok-check_room c =
    let w : Wanted = record { path = c.args.path.now; resource = c.args.resource.now; mode = c.args.mode; size = c.args.size } in
    may_be_put c.args.tables.now c.requires.made _ w c.in-Ok.parent c.in-Ok.ensures c.in-Some.resource c.in-Some.ensures (c.if-not-may_put.ensures c.in-Ok.ensures) c.if-not-may_stand.ensures
    (sym c.if-not-any.false ∙ c.in-Ok-has_targets.ensures) c.in-Ok-check_room.field-0 (c.in-Ok-check_room.ensures c.in-Ok.ensures)
