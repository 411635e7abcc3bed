use Rattle.std.proofs.Common.{rules, of_calls}
use Rattle.std.specs.Ordering.{ordering_reverse}
use Rattle.std.proofs.lemmas.Fn.{always_returns_same}
use Rattle.grid_tables.proofs.Searching.{place-searched}
use Rattle.grid_tables.proofs.table.place_of.Goals as goal

pub returns-clause-place : goal.returns-clause-place
returns-clause-place g c = λ sorted.
    place-searched g.T.Row.row_cmp (g.Q.Probe.compare c.args.key) (g.met.Q.Probe.below_greater c.args.key) c.args.rows.now c.binary_search_by.result sorted
    c.binary_search_by.ensures.bound
    (c.binary_search_by.ensures.position (λ y. ordering_reverse (g.Q.Probe.compare c.args.key y)) (always_returns_same _ _ _ (λ a r f k. search (rules, of_calls))))
