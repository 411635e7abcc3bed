use Rattle.std.proofs.Common.{◌-◌, List, length, sym, ap, ◌∙◌}
use Rattle.grid_model.specs.declared.deltas.Delta.{Delta}
use Rattle.plan_base.proofs.AtPaths.{user_known}
use Rattle.plan_coll.proofs.MadeCollections.{too_many, too_many_entries, planned}
use Rattle.plan_coll.proofs.making.plan_mkdir.Goals as goal

pub may_at-requires-clause-user : goal.may_at-requires-clause-user
may_at-requires-clause-user c = user_known c.args.tables.now c.args.user c.requires.user

pub returns-in-Err-has_room : goal.returns-in-Err-has_room
returns-in-Err-has_room c =
    too_many c.args.tables.now c.requires.made c.args.user c.in-Ok.parent c.args.path.now c.requires.user c.in-Ok.ensures
    (sym (c.may_at.ensures c.in-Ok.ensures.above c.in-Ok.ensures.at) ∙ c.if-not-may_at.false) (sym c.is_taken.ensures ∙ c.if-is_taken.false) c.in-Ok-new_collection.deltas c.in-Ok-new_collection.ensures
    c.in-Err-has_room.refusal c.in-Err-has_room.ensures

pub returns-in-Err-has_room-2 : goal.returns-in-Err-has_room-2
returns-in-Err-has_room-2 c =
    too_many_entries c.args.tables.now c.requires.made c.args.user c.in-Ok.parent c.args.path.now c.requires.user c.in-Ok.ensures
    (sym (c.may_at.ensures c.in-Ok.ensures.above c.in-Ok.ensures.at) ∙ c.if-not-may_at.false) (sym c.is_taken.ensures ∙ c.if-is_taken.false) c.in-Ok-new_collection.deltas c.in-Ok-new_collection.ensures
    c.in-Err-has_room-2.refusal c.in_default-has_room.field-0 (length c.as_slice.result.now - 1) c.in_default-has_room.ensures (ap (λ (ds : List Delta). length ds - 1) c.as_slice.ensures) c.in-Err-has_room-2.ensures

pub returns : goal.returns
returns c =
    planned c.args.tables.now c.requires.made c.args.user c.in-Ok.parent c.args.path.now c.requires.user c.in-Ok.ensures
    (sym (c.may_at.ensures c.in-Ok.ensures.above c.in-Ok.ensures.at) ∙ c.if-not-may_at.false) (sym c.is_taken.ensures ∙ c.if-is_taken.false) c.in-Ok-new_collection.deltas c.in-Ok-new_collection.ensures
    c.in_default-has_room.field-0 c.in_default-has_room-2.field-0 (length c.as_slice.result.now - 1) c.in_default-has_room.ensures (ap (λ (ds : List Delta). length ds - 1) c.as_slice.ensures) c.in_default-has_room-2.ensures
