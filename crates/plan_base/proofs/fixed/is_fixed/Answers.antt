use Rattle.std.proofs.Common.{sym, ap, ◌∙◌, ◌≤◌, length, subst}
use Rattle.grid_model.specs.Names.{Path}
use Rattle.grid_model.specs.Operations.Common.{is_person}
use Rattle.plan_base.proofs.FixedPaths.{one_of, two_of, three_of, tells_zone, tells_homes, tells_home, tells_elsewhere, tells_deep}
use Rattle.plan_base.proofs.fixed.is_fixed.Goals as goal

pub returns-in-len1 : goal.returns-in-len1
returns-in-len1 c =
    tells_zone c.args.tables.now c.requires c.args.path.now c.zone_name-zone.result.now c.zone_name-zone.ensures c.first-item.result c.has_bytes.result
    (sym c.names.ensures.names ∙ one_of c.names.result.now c.first-item.result c.in-len1.len_at_least c.in-len1.len_below c.first-item.is) c.has_bytes.ensures

pub returns-in-len2 : goal.returns-in-len2
returns-in-len2 c =
    tells_homes c.args.tables.now c.requires c.args.path.now c.zone_name-zone.result.now c.zone_name-zone.ensures c.first-item-then-this-lt3.result c.second-item.result c.are_homes.result
    (sym c.names.ensures.names ∙ two_of c.names.result.now c.first-item-then-this-lt3.result c.second-item.result c.in-len2.len_at_least c.in-len2.len_below c.first-item-then-this-lt3.is c.second-item.is)
    c.are_homes.ensures

pub returns-then-are_homes : goal.returns-then-are_homes
returns-then-are_homes c =
    tells_home c.args.tables.now c.requires c.args.path.now c.zone_name-zone.result.now c.zone_name-zone.ensures c.first-item-then-this-lt4.result c.second-item-then-this-lt4.result c.third-item.result
    c.are_homes-in-len3.result c.is_person.result
    (sym c.names.ensures.names
    ∙ three_of c.names.result.now c.first-item-then-this-lt4.result c.second-item-then-this-lt4.result c.third-item.result c.in-len3.len_at_least c.in-len3.len_below c.first-item-then-this-lt4.is
    c.second-item-then-this-lt4.is c.third-item.is)
    c.are_homes-in-len3.ensures c.if-are_homes.true (c.is_person.ensures ∙ ap is_person c.kind_named.ensures)

pub returns-else-are_homes : goal.returns-else-are_homes
returns-else-are_homes c =
    tells_elsewhere c.args.tables.now c.requires c.args.path.now c.zone_name-zone.result.now c.zone_name-zone.ensures c.first-item-then-this-lt4.result c.second-item-then-this-lt4.result c.third-item.result
    c.are_homes-in-len3.result
    (sym c.names.ensures.names
    ∙ three_of c.names.result.now c.first-item-then-this-lt4.result c.second-item-then-this-lt4.result c.third-item.result c.in-len3.len_at_least c.in-len3.len_below c.first-item-then-this-lt4.is
    c.second-item-then-this-lt4.is c.third-item.is)
    c.are_homes-in-len3.ensures c.if-are_homes.false

pub returns-in_default : goal.returns-in_default
returns-in_default c =
    tells_deep c.args.tables.now c.requires c.args.path.now c.zone_name-zone.result.now c.zone_name-zone.ensures
    (let P : Path → Type 0 = λ q. 4 ≤ length q in subst P c.names.ensures.names c.in_default.len_at_least)
