use Rattle.std.proofs.Common.{◌++◌, List, sym, ap, subst, ◌∙◌}
use Rattle.std.specs.List.{AllByRecursion, list_all}
use Rattle.std.proofs.lemmas.Result.{on_ok_weaker}
use Rattle.grid_model.specs.Rows.{same_item}
use Rattle.grid_model.specs.RowGrids.{grid_of}
use Rattle.grid_model.specs.declared.deltas.TripleRow.{TripleRow}
use Rattle.grid_model.specs.declared.grid.ItemKind.TheVariants as kind
use Rattle.tables_laws.proofs.Rows.{all_kept}
use Rattle.query_run.specs.Parts.{AreWords, combination_of}
use Rattle.query_run.specs.Stages.{meets_at}
use Rattle.query_run.specs.declared.stages.Stage.TheVariants.{OfReplica}
use Rattle.query_run.proofs.RowsOfParts.{rows_with_triples}
use Rattle.query_run.proofs.pushing.push_replica.Goals as goal

pub push_triples-requires-clause-words : goal.push_triples-requires-clause-words
push_triples-requires-clause-words c =
    let P : List TripleRow → Type 0 = λ ts. AllByRecursion AreWords ts in
    subst P (sym c.triples_of.ensures) (all_kept AreWords (λ (t : TripleRow). same_item t.kind t.id kind.Object c.in-Some.object.now.id) c.args.tables.now.triples c.requires.words)

pub returns-clause-rows : goal.returns-clause-rows
returns-clause-rows c =
    on_ok_weaker c.push_triples.result (λ added.
    added ∙ ap (λ more. c.args.rows.now.items ++ more)
    (rows_with_triples c.args.tables.now c.args.query.now c.args.parts.now c.in-Some.object c.in-Some.is
    (sym (c.in_ok-meets_stage.ensures ∙ ap (list_all (meets_at (grid_of c.args.tables.now) OfReplica (combination_of c.args.tables.now c.args.parts.now))) c.as_slice.ensures) ∙ c.if-not-branch.false)
    (sym c.names_stage.ensures ∙ c.if-not-names_stage.false) c.triples_of.result.now c.triples_of.ensures))
    c.push_triples.ensures.rows
