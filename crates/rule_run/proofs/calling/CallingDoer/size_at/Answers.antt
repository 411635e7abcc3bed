use Rattle.std.proofs.Common.{◌≡◌, sym, subst}
use Rattle.grid_model.specs.Applying.{IsMade}
use Rattle.grid_model.specs.Rows.{Cat}
use Rattle.grid_model.specs.RowGrids.{grid_of}
use Rattle.grid_model.specs.Values.{recorded_size}
use Rattle.grid_deed.proofs.Keeping.{made_more}
use Rattle.rule_run.proofs.calling.CallingDoer.size_at.Goals as goal

pub recorded_size-requires : goal.recorded_size-requires
recorded_size-requires g c =
    let store = c.args.self.now.store.now in
    let held = c.requires.ready.held in
    record { made = subst IsMade (sym c.tables.ensures) (made_more held.0 store.cat store.staged held.1.made held.1.staged) }

pub returns-in-Ok-clause-size : goal.returns-in-Ok-clause-size
returns-in-Ok-clause-size g c =
    let S : Cat → Type 0 = λ x. c.in-Ok.size ≡ recorded_size (grid_of x) c.args.path.now in
    subst S c.tables.ensures c.in-Ok.ensures.size
