use Rattle.std.proofs.Common.{List, ℕ, sym, subst, refl}
use Rattle.grid_model.proofs.TableLemmas.{IsTable-none}
use Rattle.grid_tables.specs.Trees.{IsByNumber}
use Rattle.grid_tables.proofs.keyed.Keyed.empty.Goals as goal

pub invariant_of-result : goal.invariant_of-result
invariant_of-result g c =
    subst (λ (l : List (ℕ × g.row.T.Denot)). IsByNumber g.T.Numbered.number g.T.Row.row_cmp g.T.Row.fits l) (sym c.new.ensures.empty)
    (record { keys = tt; table = IsTable-none g.T.Row.row_cmp g.T.Row.fits _ refl })
