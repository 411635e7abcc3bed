use Rattle.std.proofs.Common.{List, subst, sym}
use Rattle.std.specs.Prelude.{IsTrue}
use Rattle.std.specs.List.{list_all}
use Rattle.grid_model.specs.Names.{Text, is_name}
use Rattle.grid_tables.proofs.WaysUp.{all-reverse}
use Rattle.grid_tables.proofs.tables.Tables.from_top.Goals as goal

pub from_names-requires : goal.from_names-requires
from_names-requires c = subst (λ (names : List Text). IsTrue (list_all is_name names)) (sym c.reverse.ensures.items) (all-reverse c.args.names.items c.requires)
