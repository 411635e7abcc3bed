-- Columns and operators of queries. The columns have the names of iRODS (iRODS documentation, general query). Which there
-- are is this project's own.
use Rattle.std.specs.Prelude.{Bool, true, false}
use Rattle.grid_model.specs.declared.queries.Column.{Column}
use Rattle.grid_model.specs.declared.queries.Column.TheVariants.{DataModifyTime, DataSize, DataReplNum, DataReplStatus}
use Rattle.grid_model.specs.declared.queries.Op.{Op}
use Rattle.grid_model.specs.declared.queries.Op.TheVariants.{Like, NotLike}

-- printed as a number in decimal
abbrev pub is_number : Column → Bool
is_number DataModifyTime = true
is_number DataSize = true
is_number DataReplNum = true
is_number DataReplStatus = true
is_number _ = false

-- all operators but those that match patterns
abbrev pub is_comparison : Op → Bool
is_comparison Like = false
is_comparison NotLike = false
is_comparison _ = true
