use Rattle.std.proofs.Common.{ap, ◌∙◌}
use Rattle.grid_model.specs.Names.{is_name}
use Rattle.plan_coll.specs.Flags.{root}
use Rattle.plan_coll.proofs.FlaggedCollections.{is_there, its_name, flagged_all}
use Rattle.plan_coll.proofs.flags.flagged_row.Goals as goal

pub returns-then-id-eq0-clause-row : goal.returns-then-id-eq0-clause-row
returns-then-id-eq0-clause-row c = root c.if-id-eq0.true (λ i. record { id = 0; parent = 0; name = (c.from_vec.ensures ∙ c.new.ensures.items) i; inherit = c.args.on })

pub unreachable-requires : goal.unreachable-requires
unreachable-requires c = is_there c.args.tables.now c.args.id c.requires c.in-None.ensures.row

pub collection_row-requires : goal.collection_row-requires
collection_row-requires c = ap is_name c.as_slice.ensures ∙ its_name c.args.tables.now c.args.id c.in-Some.row.now c.if-id-eq0.false c.in-Some.ensures.row c.in-Some.ensures.named

pub returns-clause-row : goal.returns-clause-row
returns-clause-row c =
    flagged_all c.args.tables.now c.args.id c.args.on c.in-Some.row.now c.as_slice.result.now c.if-id-eq0.false c.in-Some.ensures.row c.as_slice.ensures c.collection_row.result c.collection_row.ensures.row
