use Rattle.plan_object.proofs.RoomLemmas.{no_room, not_taken, room_old, some_room}
use Rattle.plan_object.proofs.room.check_room.Goals as goal

pub check_new-requires-clause-free : goal.check_new-requires-clause-free
check_new-requires-clause-free c = not_taken c.args.tables.now c.requires.made c.args.path.now c.in-None.ensures c.requires.free

pub returns-in-Some : goal.returns-in-Some
returns-in-Some c = λ inside. room_old c.args.tables.now c.requires.made c.args.path.now _ inside.above c.args.size _ c.in-Some.ensures c.check_size.result c.check_size.ensures

pub returns-in-Err : goal.returns-in-Err
returns-in-Err c = λ inside. no_room c.args.tables.now c.requires.made c.args.path.now _ inside.above c.args.size c.in-None.ensures c.in-Err.error (c.in-Err.ensures inside)

pub returns-in-Ok : goal.returns-in-Ok
returns-in-Ok c = λ inside. some_room c.args.tables.now c.requires.made c.args.path.now _ inside.above c.args.size c.in-None.ensures (c.in-Ok.ensures inside) c.check_size-in-Ok.result c.check_size-in-Ok.ensures
