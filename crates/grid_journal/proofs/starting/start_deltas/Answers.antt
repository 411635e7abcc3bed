use Rattle.std.proofs.Common.{◌≡◌, true, IsTrue, List, sym, subst, arith, rules}
use Rattle.std.specs.List.{list_all}
use Rattle.grid_model.specs.Names.{Text}
use Rattle.grid_model.specs.Deltas.{delta_fits, text}
use Rattle.grid_model.specs.declared.deltas.Delta.{Delta}
use Rattle.grid_journal.specs.Start.{start_deltas}
use Rattle.grid_journal.proofs.StartLemmas.{start_fits}
use Rattle.grid_journal.proofs.starting.start_deltas.Goals as goal

pub returns-clause-fit : goal.returns-clause-fit
returns-clause-fit c =
    let same : c.from_vec.result ≡ start_deltas c.args.zone.now c.args.admin.now c.args.stores = search rules in
    let P : List Delta → Type 0 = λ l. IsTrue (list_all delta_fits l) in
    let Q : Text → Type 0 = λ t. (text t).fits ≡ true in
    subst P (sym same) (start_fits c.args.zone.now c.args.admin.now c.args.stores
    (subst Q c.as_slice.ensures c.copy_of_name.ensures.fits) (subst Q c.as_slice-3.ensures c.copy_of_name-2.ensures.fits) (omega (arith, c.ranges.stores)))
