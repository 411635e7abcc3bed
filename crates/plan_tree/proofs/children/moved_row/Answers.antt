use Rattle.std.proofs.lemmas.Result.{IfOk-weaker}
use Rattle.plan_tree.proofs.PutChildren.{is_there, name_at, moved}
use Rattle.plan_tree.proofs.children.moved_row.Goals as goal

pub unreachable-requires : goal.unreachable-requires
unreachable-requires c = is_there c.args.tables.now c.args.id c.requires.there c.in-None.ensures

pub with_place-requires : goal.with_place-requires
with_place-requires c = name_at c.args.tables.now c.requires.made c.args.id c.in-Some.row.now c.in-Some.ensures

pub returns-clause-row : goal.returns-clause-row
returns-clause-row c = IfOk-weaker c.with_place.result _ _ (λ next is. moved c.args.tables.now c.args.id c.args.place c.in-Some.row.now next c.in-Some.ensures is) c.with_place.ensures.row
