use Rattle.std.proofs.Common.{List, subst}
use Rattle.grid_model.specs.declared.queries.Cond.{Cond}
use Rattle.grid_model.specs.declared.queries.Column.TheVariants as column
use Rattle.tables_laws.proofs.Sound.{sound-made}
use Rattle.query_run.specs.Narrowing.{WantsText, FindsPrinted}
use Rattle.query_run.proofs.Narrowed.{shown_nowhere, shows_inside}
use Rattle.query_run.proofs.narrowing.objects_to_try.Goals as goal

pub returns-in-None-2 : goal.returns-in-None-2
returns-in-None-2 c = λ user.
    let t = c.args.tables.now in
    let text = c.in-Some.text.now in
    let asks = subst (λ (conds : List Cond). WantsText conds column.CollName text) c.as_slice.ensures c.in-Some.ensures in
    shown_nowhere t (sound-made c.requires.0 t c.requires.1) user c.args.query.now text asks
    (subst (FindsPrinted t text) c.in-None-2.is c.in_ok-collection_printed.ensures) c.new.result.items

pub objects_inside-requires-clause-asked : goal.objects_inside-requires-clause-asked
objects_inside-requires-clause-asked c = λ user.
    let t = c.args.tables.now in
    let text = c.in-Some.text.now in
    let asks = subst (λ (conds : List Cond). WantsText conds column.CollName text) c.as_slice.ensures c.in-Some.ensures in
    shows_inside t (sound-made c.requires.0 t c.requires.1) user c.args.query.now text asks
    c.in-Some-2.id (subst (FindsPrinted t text) c.in-Some-2.is c.in_ok-collection_printed.ensures)
