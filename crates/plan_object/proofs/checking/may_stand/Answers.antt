use Rattle.std.proofs.Common.{sym, ap, ◌∙◌}
use Rattle.grid_model.specs.Operations.Objects.{may_stand}
use Rattle.grid_model.specs.RowGrids.{grid_of}
use Rattle.grid_model.specs.declared.grid.Mode.{Mode}
use Rattle.plan_object.proofs.PutRows.{stands_collection, stands_new, stands_over}
use Rattle.plan_object.proofs.checking.may_stand.Goals as goal

pub returns-in-Some : goal.returns-in-Some
returns-in-Some c = stands_collection c.args.tables.now c.requires c.args.path.now _ c.in-Some.ensures c.args.mode

pub returns-in-New : goal.returns-in-New
returns-in-New c =
    stands_new c.args.tables.now c.requires c.args.path.now c.in-None.ensures c.object_at.result c.object_at.ensures c.is_none.result c.is_none.ensures
    ∙ ap (λ (m : Mode). may_stand (grid_of c.args.tables.now) c.args.path.now m) (sym c.in-New.is)

pub returns-in-Over : goal.returns-in-Over
returns-in-Over c =
    stands_over c.args.tables.now c.requires c.args.path.now c.in-None.ensures ∙ ap (λ (m : Mode). may_stand (grid_of c.args.tables.now) c.args.path.now m) (sym c.in-Over.is)
