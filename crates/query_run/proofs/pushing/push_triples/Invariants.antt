use Rattle.std.proofs.Common.{◌≡◌, ◌++◌, drop}
use Rattle.std.specs.Prelude.{flat_map}
use Rattle.query_run.specs.Parts.{KeepsWords, row_with}
use Rattle.query_run.proofs.pushing.push_triples.Given as goal

-- the rows so far and those with the other triples come to those with all
abbrev pub invariant-loop-triple : goal.invariant-loop-triple
invariant-loop-triple l = record {
  rows : l.rows.items ++ flat_map (row_with l.tables l.query l.parts) (drop l.triple-index l.triples) ≡ l.initial.rows.items ++ flat_map (row_with l.tables l.query l.parts) l.triples;
  words : KeepsWords l.initial.rows.items l.rows.items;
}
