use Rattle.point_laws.proofs.Rows as lemmas
use Rattle.point_laws.proofs.laws.works_end_by_rows.Goals as goal

pub returns : goal.returns
returns c = lemmas.works_end_by_rows
