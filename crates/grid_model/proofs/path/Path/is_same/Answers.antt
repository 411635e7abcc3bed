use Rattle.std.proofs.Common.{sym, ◌∙◌}
use Rattle.std.proofs.lemmas.Slice.Eq.{slice_eq-Decides}
use Rattle.grid_model.proofs.Comparing.{same_text-Decides}
use Rattle.grid_model.proofs.path.Path.is_same.Goals as goal

pub returns : goal.returns
returns c =
    let same = slice_eq-Decides same_text-Decides c.self.inside.names.items c.other.inside.names.items c.eq.result c.eq.ensures in
    (λ h. sym c.self.view_is ∙ same.0 h ∙ c.other.view_is, λ e. same.1 (c.self.view_is ∙ e ∙ sym c.other.view_is))
