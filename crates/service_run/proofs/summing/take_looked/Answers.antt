use Rattle.std.proofs.Common.{Ok, Err, refl, sym, subst}
use Rattle.grid_model.specs.declared.refusal.Failure.TheVariants.{Refused}
use Rattle.grid_model.specs.declared.refusal.Refusal.TheVariants as refusal
use Rattle.service_run.specs.declared.looking.Looked.{Looked}
use Rattle.service_run.specs.Sums.{TookLooked}
use Rattle.service_run.proofs.summing.take_looked.Goals as goal

pub returns-in_ok-take_mark-in-Fault : goal.returns-in_ok-take_mark-in-Fault
returns-in_ok-take_mark-in-Fault g c = λ kept user files held may.
    let L : Looked → Type 0 = λ l. TookLooked kept (g.D.Disk.disk c.args.outside.now.main) c.args.store.now c.args.command.now c.take_mark.new.self c.args.store.now may.of (record { word = c.args.word; now = c.args.now }) l (Err (Refused (refusal.Fault c.in-Fault.slot))) in
    subst L (sym c.in-Fault.is) (refl, c.in_ok-take_mark-in-Fault.ensures.taken, refl, c.in_ok-take_mark-in-Fault.ensures.kept)

pub returns-in_ok-take_mark-in-Found : goal.returns-in_ok-take_mark-in-Found
returns-in_ok-take_mark-in-Found g c = λ kept user files held may.
    let L : Looked → Type 0 = λ l. TookLooked kept (g.D.Disk.disk c.args.outside.now.main) c.args.store.now c.args.command.now c.take_mark-in-Found.new.self c.stale.new.store may.of (record { word = c.args.word; now = c.args.now }) l (Ok tt) in
    subst L (sym c.in-Found.is) (refl, c.in_ok-take_mark-in-Found.ensures.taken, c.in_ok-stale-in-Found.ensures kept user files c.args.word c.args.now held may, c.in_ok-take_mark-in-Found.ensures.kept)
