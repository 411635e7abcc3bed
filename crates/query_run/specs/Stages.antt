-- From when on a condition of a query can be tested.
use Rattle.std.specs.Prelude.{Bool, not, ◌&&◌, ◌||◌}
use Rattle.std.specs.List.{list_all}
use Rattle.grid_model.specs.Grid.{Grid}
use Rattle.grid_model.specs.QueryRows.{Combination, is_of_replica, is_of_triple, meets}
use Rattle.grid_model.specs.declared.queries.Query.{Query}
use Rattle.grid_model.specs.declared.queries.Cond.{Cond}
use Rattle.grid_model.specs.declared.queries.Column.{Column}
use Rattle.query_run.specs.declared.stages.Stage.{Stage}
use Rattle.query_run.specs.declared.stages.Stage.TheVariants.{OfItem, OfReplica, OfTriple}

-- a condition on the column is tested at this stage
abbrev pub is_of_stage : Stage → Column → Bool
is_of_stage OfItem c = not (is_of_replica c) && not (is_of_triple c)
is_of_stage OfReplica c = is_of_replica c
is_of_stage OfTriple c = is_of_triple c

-- the combination meets the condition, or that is of another stage
abbrev pub meets_at : Grid → Stage → Combination → Cond → Bool
meets_at g s c cond = not (is_of_stage s cond.column) || meets g c cond

-- the combination meets all conditions of the stage
abbrev pub meets_stage : Grid → Stage → Query → Combination → Bool
meets_stage g s q c = list_all (meets_at g s c) q.conds
