use Rattle.grid_tree.proofs.Candidates.{candidate_found, candidate_left}
use Rattle.grid_tree.proofs.reading.first_candidate.Goals as goal

pub returns-in-Some : goal.returns-in-Some
returns-in-Some c = λ o found. candidate_found c.args.tables.now c.requires.made c.args.object o found c.args.asked c.requires.asked c.in-Some.row.now c.in-Some.ensures

pub returns-in-None : goal.returns-in-None
returns-in-None c = λ o found. candidate_left c.args.tables.now c.requires.made c.args.object o found c.args.asked c.requires.asked c.in-None.ensures _ c.first_read-in-None.ensures
