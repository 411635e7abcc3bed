use Rattle.grid_model.specs.RowGrids.{grid_of}
use Rattle.rule_run.proofs.Sizes.{size-refused, size-spelled}
use Rattle.rule_run.proofs.sizing.recorded_size.Goals as goal

pub returns-in-Ok : goal.returns-in-Ok
returns-in-Ok c = record {
  size =
      size-spelled (grid_of c.args.tables.now) c.as_slice.result.now c.args.path.now c.as_slice.ensures
      c.size_at.result c.in-Ok.path c.in-Ok.ensures.path c.size_at.ensures;
}

pub returns-in-Err-BadPath : goal.returns-in-Err-BadPath
returns-in-Err-BadPath c = record {
  size =
      size-refused (grid_of c.args.tables.now) c.as_slice.result.now c.args.path.now c.as_slice.ensures c.in-Err-BadPath.field-0-0
      (c.in-Err-BadPath.ensures.refused c.in-Err-BadPath.field-0-0 c.in-Err-BadPath.field-0-is);
}
