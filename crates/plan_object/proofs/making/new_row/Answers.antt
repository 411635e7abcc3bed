use Rattle.std.proofs.Common.{◌≡◌, ◌++◌, [], ◌∷◌, IsTrue, sym, ◌∙◌, subst}
use Rattle.grid_model.specs.Deltas.{text}
use Rattle.grid_model.specs.Names.{Text}
use Rattle.plan_base.proofs.NameTexts.{last_named}
use Rattle.plan_object.proofs.NewRows.{row_for}
use Rattle.plan_object.proofs.making.new_row.Goals as goal

pub returns : goal.returns
returns c =
    let path_is : c.args.path.now ≡ c.in-Some.field-0-1.now ++ c.in-Some.name.now ∷ [] = sym c.names.ensures.names ∙ c.in-Some.ensures.cases.0 in
    row_for c.args.tables.now c.args.path.now (record { size = c.args.size; digest = c.args.digest; now = c.args.now }) c.in_ok-id.id c.args.parent c.requires.inside c.in_ok-id.ensures.fresh c.in-Some.name.now c.in_ok-name-in-Some.name
    c.in-Some.field-0-1.now path_is (c.in_ok-name-in-Some.ensures ∙ c.as_slice-in-Some.ensures) (last_named c.args.path.now c.in-Some.name.now c.in-Some.field-0-1.now path_is c.names.ensures.all)
    (subst (λ (n : Text). IsTrue (text n).fits) c.as_slice.ensures c.name_is_text.ensures)
