use Rattle.plan_object.proofs.RoomLemmas.{room_new, too_many_entries, too_many_objects}
use Rattle.plan_object.proofs.room.check_new.Goals as goal

pub returns-in-Err : goal.returns-in-Err
returns-in-Err c = λ inside. too_many_objects c.args.tables.now c.requires.made c.args.path.now _ inside.above c.in-Err.refusal c.in-Err.ensures

pub returns-in-Err-has_room : goal.returns-in-Err-has_room
returns-in-Err-has_room c = λ inside.
    too_many_entries c.args.tables.now c.requires.made c.args.path.now _ inside.above c.in-Ok.entries (c.in-Ok.ensures inside) c.in_default.field-0 c.in_default.ensures c.in-Err-has_room.refusal c.in-Err-has_room.ensures

pub returns-in-Ok-has_room : goal.returns-in-Ok-has_room
returns-in-Ok-has_room c = λ inside.
    room_new c.args.tables.now c.requires.made c.args.path.now _ inside.above c.in-Ok.entries (c.in-Ok.ensures inside) c.in_default.field-0 c.in-Ok-has_room.field-0 c.in_default.ensures c.in-Ok-has_room.ensures
