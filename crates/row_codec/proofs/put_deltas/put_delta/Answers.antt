use Rattle.std.proofs.Common.{◌∙◌, [], ◌∷◌, ◌++◌, ap}
use Rattle.std.proofs.lemmas.Result.{on_ok_weaker}
use Rattle.grid_model.specs.Deltas.{code}
use Rattle.row_codec.specs.Codes.{tag_number}
use Rattle.row_codec.specs.Tagged.{tag_of, body}
use Rattle.row_codec.proofs.Adding.{adds}
use Rattle.row_codec.proofs.DeltaLaws.{spelling-tag}
use Rattle.row_codec.proofs.put_deltas.put_delta.Goals as goal

pub returns : goal.returns
returns c =
    let d = c.args.delta.now in
    let o = c.args.out.now.items in
    let tag_is = c.in_ok-put_code.ensures ∙ ap (λ t. o ++ tag_number t ∷ []) c.of_delta.ensures in
    on_ok_weaker c.put_body.result
    (λ e. adds (code (tag_number (tag_of d))) (body d) o c.put_code.new.out.items c.put_body.new.out.items tag_is e ∙ ap (λ t. o ++ t) (spelling-tag d))
    c.put_body.ensures
