use Rattle.std.proofs.Common.{subst}
use Rattle.grid_model.specs.Names.{SpellsPath}
use Rattle.grid_model.specs.Places.{IsRefusedAt}
use Rattle.cmd_read.proofs.words.path_of.Goals as goal

pub returns-in-Err-BadPath-clause-refused : goal.returns-in-Err-BadPath-clause-refused
returns-in-Err-BadPath-clause-refused c =
    λ other. subst (λ w. IsRefusedAt SpellsPath w c.in-Err-BadPath.at) c.as_slice.ensures (c.in-Err-BadPath.ensures.refused c.in-Err-BadPath.at c.in-Err-BadPath.field-0-is)
