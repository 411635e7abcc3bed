use Rattle.std.proofs.Common.{◌≡◌, ◌++◌, map, drop}
use Rattle.plan_meta.specs.Showing.{triple_words}
use Rattle.plan_meta.proofs.showing.triple_rows.Given as goal

-- the rows so far and those of the other triples come to those of all
abbrev pub invariant-loop-triple : goal.invariant-loop-triple
invariant-loop-triple l = l.rows.items ++ map triple_words (drop l.triple-index l.triples) ≡ map triple_words l.triples
