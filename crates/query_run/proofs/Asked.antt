-- What is said of items may stand in a reply.
use Rattle.std.proofs.Common.{◌≡◌, true, List, [], ◌∷◌}
use Rattle.std.specs.Prelude.{◌&&◌}
use Rattle.std.specs.List.{AllByRecursion}
use Rattle.std.proofs.lemmas.Bool.{and_parts}
use Rattle.grid_journal.specs.Journal.{AreSpelled, can_be_kept}
use Rattle.grid_model.specs.Writable.{is_word}
use Rattle.grid_model.specs.declared.deltas.Delta.TheVariants as delta
use Rattle.grid_model.specs.declared.deltas.TripleRow.{TripleRow}
use Rattle.plan_meta.proofs.ShownTriples.{row_words}
use Rattle.query_run.specs.Parts.{AreWords}

its_words : (t : TripleRow) → can_be_kept (delta.NoTriple t) ≡ true → AreWords t
its_words t kept =
    let one = and_parts (is_word t.attribute) (is_word t.value && (is_word t.unit && true)) (row_words t kept) in
    let two = and_parts (is_word t.value) (is_word t.unit && true) one.1 in
    let three = and_parts (is_word t.unit) true two.1 in
    record { attribute = one.0; value = two.0; unit = three.0 }

pub are_words : (rows : List TripleRow) → AreSpelled rows → AllByRecursion AreWords rows
are_words [] spelled = tt
are_words (t ∷ rows) spelled = (its_words t spelled.0, are_words rows spelled.1)
