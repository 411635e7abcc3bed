use Rattle.std.proofs.Common.{◌++◌, sym, ap, ◌∙◌}
use Rattle.std.specs.List.{list_all}
use Rattle.std.proofs.lemmas.Result.{on_ok_weaker}
use Rattle.grid_model.specs.RowGrids.{grid_of}
use Rattle.plan_list.proofs.Listed.{leaves_there}
use Rattle.query_run.specs.Parts.{combination_of}
use Rattle.query_run.specs.Stages.{meets_at}
use Rattle.query_run.specs.declared.stages.Stage.TheVariants.{OfItem}
use Rattle.query_run.proofs.RowsOfParts.{rows_with_replicas}
use Rattle.query_run.proofs.pushing.push_item.Goals as goal

pub push_replicas-requires-clause-leaves : goal.push_replicas-requires-clause-leaves
push_replicas-requires-clause-leaves c = leaves_there c.args.tables.now c.requires.made c.in-Some.object.now.id c.replicas_of.result.now c.replicas_of.ensures

pub returns-clause-rows : goal.returns-clause-rows
returns-clause-rows c =
    on_ok_weaker c.push_replicas.result (λ added.
    added ∙ ap (λ more. c.args.rows.now.items ++ more)
    (rows_with_replicas c.args.tables.now c.args.query.now c.args.parts.now c.in-Some.object c.in-Some.is
    (sym (c.in_ok-meets_stage.ensures ∙ ap (list_all (meets_at (grid_of c.args.tables.now) OfItem (combination_of c.args.tables.now c.args.parts.now))) c.as_slice.ensures) ∙ c.if-not-branch.false)
    (sym c.names_stage.ensures ∙ c.if-not-names_stage.false) c.replicas_of.result.now c.replicas_of.ensures))
    c.push_replicas.ensures.rows
