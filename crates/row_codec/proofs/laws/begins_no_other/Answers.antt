use Rattle.std.proofs.Common.{[], ◌∙◌, sym}
use Rattle.std.proofs.lemmas.List.{append-nil}
use Rattle.grid_model.specs.Deltas.{spelling}
use Rattle.row_codec.proofs.Spelled.{spelled_apart}
use Rattle.row_codec.proofs.laws.begins_no_other.Goals as goal

pub returns : goal.returns
returns c = λ delta other rest fits other_fits is.
    let apart = spelled_apart delta other rest [] fits other_fits (sym is ∙ sym (append-nil (spelling other))) in
    (apart.1, sym apart.0)
