use Rattle.grid_vault.proofs.removal.remove_all.Goals as goal

pub returns-clause-gone : goal.returns-clause-gone
returns-clause-gone g c = rw c.from_vec.ensures c.in_ok-remove_each.ensures.gone
