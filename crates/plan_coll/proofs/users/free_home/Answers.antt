use Rattle.std.proofs.Common.{◌≡◌, false, [], ◌∙◌}
use Rattle.std.specs.Prelude.{unwrap_or}
use Rattle.grid_model.specs.Grid.{home_of}
use Rattle.grid_model.specs.Names.{is_name}
use Rattle.plan_coll.proofs.MadeHomes.{named_so, name_taken, no_zone, above_is_so, where_none, where_some}
use Rattle.plan_coll.proofs.users.free_home.Goals as goal

pub returns-then-is_some : goal.returns-then-is_some
returns-then-is_some c = name_taken c.args.tables.now c.requires.made c.args.name.now (named_so c.args.tables.now c.requires.made c.args.name.now c.is_some.result c.user_named.result c.user_named.ensures c.is_some.ensures ∙ c.if-is_some.true)

pub returns-in-Ok-None : goal.returns-in-Ok-None
returns-in-Ok-None c =
    let zone = unwrap_or c.args.tables.now.zone [] in
    no_zone c.args.tables.now c.requires.made c.args.name.now
    (named_so c.args.tables.now c.requires.made c.args.name.now c.is_some.result c.user_named.result c.user_named.ensures c.is_some.ensures ∙ c.if-is_some.false)
    (where_none (is_name zone ≡ false) (λ path. path ≡ home_of zone c.args.name.now) c.in-Ok-None.field-0 c.in-Ok-None.field-0-is c.in-Ok-None.ensures)

pub returns : goal.returns
returns c =
    let zone = unwrap_or c.args.tables.now.zone [] in
    above_is_so c.args.tables.now c.requires.made c.args.name.now c.in-Ok-Some.home
    (where_some (is_name zone ≡ false) (λ path. path ≡ home_of zone c.args.name.now) c.in-Ok-Some.field-0 c.in-Ok-Some.home c.in-Ok-Some.field-0-is c.in-Ok-Some.ensures)
    (named_so c.args.tables.now c.requires.made c.args.name.now c.is_some.result c.user_named.result c.user_named.ensures c.is_some.ensures ∙ c.if-is_some.false)
    c.is_taken.result c.is_taken.ensures c.if-is_taken.false c.collection_above.result c.collection_above.ensures
