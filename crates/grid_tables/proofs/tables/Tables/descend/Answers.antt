use Rattle.std.proofs.Common.{◌≡◌, ◌∷◌, ◌+◌, suc, drop, sym, ap, ◌∙◌, add-one, drop-cons}
use Rattle.grid_model.specs.Names.{Text}
use Rattle.grid_tables.proofs.Descending.{descend-step}
use Rattle.grid_tables.proofs.tables.Tables.descend.Goals as goal

pub loop-name-preserved : goal.loop-name-preserved
loop-name-preserved c =
    let names = c.args.names.now in
    let i = c.loop-name.name-index in
    let cut : drop i names ≡ c.name-item.result ∷ drop (i + 1) names =
    drop-cons names i c.name-item.result c.loop-name-test.true ∙ ap (λ (t : Text). t ∷ drop (suc i) names) (sym c.name-item.is) ∙ ap (λ n. c.name-item.result ∷ drop n names) (sym (add-one i)) in
    sym (descend-step c.args.self.now c.loop-name.current (drop i names) (drop (i + 1) names) c.name-item.result c.in-Some.child cut c.in-Some.ensures) ∙ c.loop-name.invariant
