use Rattle.std.proofs.Common.{rules, append_assoc}
use Rattle.std.proofs.lemmas.Result.{IfOk-equal}
use Rattle.row_codec.proofs.putting_rows.put_resource.Goals as goal

pub returns : goal.returns
returns c = search (rules, IfOk-equal, append_assoc) depth 20
