use Rattle.std.proofs.Common.{◌≡◌, drop}
use Rattle.std.specs.List.{list_all}
use Rattle.grid_model.specs.RowGrids.{grid_of}
use Rattle.query_run.specs.Parts.{combination_of}
use Rattle.query_run.specs.Stages.{meets_at}
use Rattle.query_run.proofs.conditions.meets_stage.Given as goal

-- all conditions hold where the others do
abbrev pub invariant-loop-cond : goal.invariant-loop-cond
invariant-loop-cond l =
    list_all (meets_at (grid_of l.tables) l.stage (combination_of l.tables l.parts)) (drop l.cond-index l.conds) ≡ list_all (meets_at (grid_of l.tables) l.stage (combination_of l.tables l.parts)) l.conds
