use Rattle.std.proofs.Common.{ℕ, List, sym, subst, ◌∙◌}
use Rattle.grid_model.specs.declared.queries.Cond.{Cond}
use Rattle.grid_model.specs.declared.queries.Column.TheVariants as column
use Rattle.tables_laws.proofs.Sound.{sound-made}
use Rattle.query_run.specs.Narrowing.{WantsText, HasShownObjects}
use Rattle.query_run.proofs.Narrowed.{no_object_named, one_object_named}
use Rattle.query_run.proofs.narrowing.objects_inside.Goals as goal

pub returns-in-None-object_named : goal.returns-in-None-object_named
returns-in-None-object_named c = λ user.
    let t = c.args.tables.now in
    let name = c.in-Some.name.now in
    let asks = subst (λ (conds : List Cond). WantsText conds column.DataName name) c.as_slice.ensures c.in-Some.ensures in
    no_object_named t (sound-made c.requires.made.0 t c.requires.made.1) user c.args.query.now c.args.id (c.requires.asked user)
    name asks (sym c.in-None-object_named.is ∙ c.object_named.ensures) c.new.result.items

pub returns-in_ok-vec-in-Some-object_named : goal.returns-in_ok-vec-in-Some-object_named
returns-in_ok-vec-in-Some-object_named c = λ user.
    let t = c.args.tables.now in
    let q = c.args.query.now in
    let name = c.in-Some.name.now in
    let asks = subst (λ (conds : List Cond). WantsText conds column.DataName name) c.as_slice.ensures c.in-Some.ensures in
    subst (λ (xs : List ℕ). HasShownObjects t user q xs) (sym c.in_ok-vec-in-Some-object_named.ensures.items)
    (one_object_named t (sound-made c.requires.made.0 t c.requires.made.1) user q c.args.id (c.requires.asked user)
    name asks c.in-Some-object_named.object (sym c.in-Some-object_named.is ∙ c.object_named.ensures))
