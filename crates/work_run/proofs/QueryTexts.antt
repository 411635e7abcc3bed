-- A text is read as one query, or refused at one place.
use Rattle.std.proofs.Common.{◌≡◌, ℕ, Ok, Err, ap}
use Rattle.grid_model.specs.Names.{Text}
use Rattle.grid_model.specs.QueryOrders.{ReadsQuery}
use Rattle.grid_model.specs.QueryText.{IsQueryText, IsRefusedQuery}
use Rattle.grid_model.specs.Refusing.{Or}
use Rattle.grid_model.specs.declared.queries.Query.{Query}
use Rattle.grid_model.specs.declared.refusal.Refusal.TheVariants.{BadQuery}
use Rattle.query_parse.proofs.TextLemmas.{one_place, one_text, never_both}

pub read_as_spelled : (text : Text) (query : Or Query) (q : Query) → ReadsQuery text query → IsQueryText text q → query ≡ Ok q
read_as_spelled text (Ok other) q reads spells = ap Ok (one_text reads spells)
read_as_spelled text (Err (BadQuery place)) q reads spells = absurd (never_both reads spells)
read_as_spelled text (Err other) q reads spells = absurd reads

pub read_as_refused : (text : Text) (query : Or Query) (place : ℕ) → ReadsQuery text query → IsRefusedQuery text place → query ≡ Err (BadQuery place)
read_as_refused text (Ok other) place reads refused = absurd (never_both refused reads)
read_as_refused text (Err (BadQuery other)) place reads refused = ap (λ (n : ℕ). Err (BadQuery n)) (one_place reads refused)
read_as_refused text (Err other) place reads refused = absurd reads
