use Rattle.std.proofs.Common.{◌≡◌, ℕ, Err, IsTrue, sym, ap, ◌∙◌, subst}
use Rattle.grid_model.specs.Applying.{IsMade, is_user}
use Rattle.grid_model.specs.Names.{Text}
use Rattle.grid_model.specs.QueryRows.{query_rows}
use Rattle.grid_model.specs.QueryText.{IsQueryText, IsRefusedQuery}
use Rattle.grid_model.specs.Rows.{Cat}
use Rattle.grid_model.specs.RowGrids.{grid_of, user_name}
use Rattle.grid_model.specs.declared.refusal.Refusal.TheVariants.{BadQuery}
use Rattle.grid_journal.specs.Journal.{AreSpelled}
use Rattle.work_run.proofs.QueryTexts.{read_as_refused, read_as_spelled}
use Rattle.work_run.proofs.showing.asked_rows.Goals as goal

pub returns-in-Err-BadQuery-clause-is : goal.returns-in-Err-BadQuery-clause-is
returns-in-Err-BadQuery-clause-is c q reads =
    let at = c.in-Err-BadQuery.at in
    read_as_refused c.args.text.now q at reads
    (subst (λ (t : Text). IsRefusedQuery t at) c.as_slice.ensures
    (c.read_query.ensures.bad_query at (c.in-Err-BadQuery.is ∙ ap Err c.in-Err-BadQuery.field-0-is)))
    ∙ ap (λ (n : ℕ). Err (BadQuery n)) (sym c.in-Err-BadQuery.at-is)

pub is_spelled-requires : goal.is_spelled-requires
is_spelled-requires c = record { sound = c.requires.sound }

pub query_rows-requires-clause-made : goal.query_rows-requires-clause-made
query_rows-requires-clause-made c = subst IsMade (sym c.tables.ensures) c.requires.made

pub query_rows-requires-clause-user : goal.query_rows-requires-clause-user
query_rows-requires-clause-user c = subst (λ (k : Cat). IsTrue (is_user k c.args.user)) (sym c.tables.ensures) c.requires.user

pub query_rows-requires-clause-spelled : goal.query_rows-requires-clause-spelled
query_rows-requires-clause-spelled c = subst (λ (k : Cat). AreSpelled k.triples) (sym c.tables.ensures) c.is_spelled.ensures

pub returns-in-Ok-query_rows-clause-is : goal.returns-in-Ok-query_rows-clause-is
returns-in-Ok-query_rows-clause-is c q reads =
    let query = c.in-Ok.query in (
      query,
      read_as_spelled c.args.text.now q query reads (subst (λ (t : Text). IsQueryText t query) c.as_slice.ensures c.in-Ok.ensures.query),
      subst (λ (k : Cat). c.in-Ok-query_rows.rows ≡ query_rows (grid_of k) (user_name k c.args.user) query) c.tables.ensures c.in-Ok-query_rows.ensures.rows,
    )

pub returns-in-Ok-query_rows-clause-words : goal.returns-in-Ok-query_rows-clause-words
returns-in-Ok-query_rows-clause-words c = c.in-Ok-query_rows.ensures.words
