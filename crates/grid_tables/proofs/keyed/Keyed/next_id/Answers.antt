use Rattle.grid_tables.proofs.Trees.{last_taken, next_free}
use Rattle.grid_tables.proofs.keyed.Keyed.next_id.Goals as goal

pub returns-then-last-clause-none : goal.returns-then-last-clause-none
returns-then-last-clause-none g c = last_taken g.T.Numbered.number g.T.Row.row_cmp g.met.T.Numbered.by_number c.self.inside.rows.entries c.self.invariant.keys c.args.self.now c.self.view_is c.in-Some.last.now 18446744073709551615 c.in-Some.field-0-1.now c.in-Some.ensures.value c.if-last.true

pub returns-else-last-clause-fresh : goal.returns-else-last-clause-fresh
returns-else-last-clause-fresh g c = next_free g.T.Numbered.number g.T.Row.row_cmp g.met.T.Numbered.by_number c.self.inside.rows.entries c.self.invariant.keys c.args.self.now c.self.view_is c.in-Some.last.now c.in-Some.ensures.greatest
