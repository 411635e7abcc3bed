use Rattle.std.proofs.Common.{Some, ap}
use Rattle.service_read.proofs.OnPaths.{on_path-spelled, on_path-refused}
use Rattle.service_read.proofs.arguments.path_in.Goals as goal

pub returns-in-Ok-clause-path : goal.returns-in-Ok-clause-path
returns-in-Ok-clause-path c = λ f. on_path-spelled c.as_slice.result.now c.args.text.now c.as_slice.ensures f c.in-Ok.path c.in-Ok.ensures.path

pub returns-in-Err-BadPath-clause-refused : goal.returns-in-Err-BadPath-clause-refused
returns-in-Err-BadPath-clause-refused c = λ f.
    ap Some (on_path-refused c.as_slice.result.now c.args.text.now c.as_slice.ensures f c.in-Err-BadPath.at
    (c.in-Err-BadPath.ensures.refused c.in-Err-BadPath.at c.in-Err-BadPath.field-0-is))
