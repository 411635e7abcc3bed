use Rattle.std.proofs.Common.{◌∙◌}
use Rattle.grid_model.specs.Names.{same_path}
use Rattle.grid_model.proofs.Comparing.{pointwise-same_path}
use Rattle.grid_model.proofs.path.PathPartialEq.eq.Goals as goal

pub returns : goal.returns
returns c =
    c.eq.ensures ∙ pointwise-same_path c.self.inside.names.items c.other.inside.names.items ∙ (λ i. same_path (c.self.view_is i) (c.other.view_is i))
