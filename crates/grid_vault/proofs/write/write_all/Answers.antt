use Rattle.grid_vault.proofs.write.write_all.Goals as goal

pub returns-clause-stable : goal.returns-clause-stable
returns-clause-stable g c = rw c.as_slice.ensures at c.write_each.ensures.stable

pub returns-clause-any_moment : goal.returns-clause-any_moment
returns-clause-any_moment g c = rw c.as_slice.ensures at c.write_each.ensures.any_moment
