use Rattle.std.proofs.Common.{List, subst}
use Rattle.grid_model.specs.declared.queries.Cond.{Cond}
use Rattle.grid_model.specs.declared.queries.Column.TheVariants as column
use Rattle.tables_laws.proofs.Sound.{sound-made}
use Rattle.query_run.specs.Narrowing.{WantsText}
use Rattle.query_run.proofs.Narrowed.{shown_with_attribute, shown_with_value}
use Rattle.query_run.proofs.narrowing.items_asked_for.Goals as goal

pub returns-in-None-literal_of : goal.returns-in-None-literal_of
returns-in-None-literal_of c = λ user.
    let t = c.args.tables.now in
    let asks = subst (λ (conds : List Cond). WantsText conds column.MetaDataAttrName c.in-Some.attribute.now) c.as_slice-conds.ensures c.in-Some.ensures in
    shown_with_attribute t (sound-made c.requires.0 t c.requires.1) user c.args.query.now c.in-Some.attribute.now asks
    c.items_with.result c.items_with.ensures

pub returns-in-Some-literal_of : goal.returns-in-Some-literal_of
returns-in-Some-literal_of c = λ user.
    let t = c.args.tables.now in
    let asks = subst (λ (conds : List Cond). WantsText conds column.MetaDataAttrName c.in-Some.attribute.now) c.as_slice-conds.ensures c.in-Some.ensures in
    let wants = subst (λ (conds : List Cond). WantsText conds column.MetaDataAttrValue c.in-Some-literal_of.value.now)
    c.as_slice-conds.ensures c.in-Some-literal_of.ensures in
    shown_with_value t (sound-made c.requires.0 t c.requires.1) user c.args.query.now c.in-Some.attribute.now asks
    c.in-Some-literal_of.value.now wants c.items_with_value.result c.items_with_value.ensures
