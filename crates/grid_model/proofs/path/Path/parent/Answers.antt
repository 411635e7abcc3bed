use Rattle.std.proofs.Common.{◌≡◌, ◌∷◌, [], ◌++◌, Some, sym, ◌∙◌, ap}
use Rattle.grid_model.specs.Names.{parent}
use Rattle.grid_model.proofs.Below.{parent-push}
use Rattle.grid_model.proofs.path.Path.parent.Goals as goal

pub returns : goal.returns
returns c =
    let last = c.in-Some.field-0-0.now in
    let split : c.args.self.now ≡ c.in-Some.above.now ++ last ∷ [] = sym c.self.view_is ∙ sym c.deref.ensures.value ∙ c.in-Some.ensures.cases.0 in
    ap Some c.in_ok-names.ensures ∙ sym (ap parent split ∙ parent-push c.in-Some.above.now last)
