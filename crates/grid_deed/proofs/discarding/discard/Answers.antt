use Rattle.std.proofs.Common.{Ok, Err, ap, ◌∙◌, arith}
use Rattle.grid_model.specs.Applying.{apply_all}
use Rattle.grid_deed.proofs.Discards.{without, applied, not_begun, not_removed, then_taken, keep_none, keep_removed, keep_taken}
use Rattle.grid_deed.proofs.discarding.discard.Goals as goal

pub returns-in_default-clause-done : goal.returns-in_default-clause-done
returns-in_default-clause-done g c after e = not_begun g.P.Plugin.plugin c.args.store.now.cat after c.args.file c.args.outside.now.moments (g.D.Disk.disk c.args.outside.now.main) c.args.store.now c.requires.held c.requires.ready.main_last c.args.outside.now.stores.items c.args.outside.now.stores.items

pub returns-in_default-clause-whole : goal.returns-in_default-clause-whole
returns-in_default-clause-whole g c = keep_none g.P.Plugin.plugin c.args.store.now.cat (without c.args.store.now.cat c.args.file c.requires.orphan) c.args.file c.args.outside.now.moments (g.D.Disk.disk c.args.outside.now.main) c.args.store.now c.requires.held c.requires.ready.main_last c.args.outside.now.stores.items c.args.outside.now.stores.items

pub returns-in-Err-clause-done : goal.returns-in-Err-clause-done
returns-in-Err-clause-done g c after e = not_removed g.P.Plugin.plugin c.args.store.now.cat after c.args.file c.args.outside.now.moments (g.D.Disk.disk c.args.outside.now.main) c.args.store.now c.requires.held c.requires.ready.main_last c.args.outside.now.stores.items c.remove.new.stores.items c.in-Err.fault c.in-Err.ensures.slot c.in-Err.ensures.cause

pub returns-in-Err-clause-whole : goal.returns-in-Err-clause-whole
returns-in-Err-clause-whole g c = keep_removed g.P.Plugin.plugin c.args.store.now.cat (without c.args.store.now.cat c.args.file c.requires.orphan) c.args.file c.args.outside.now.moments (g.D.Disk.disk c.args.outside.now.main) c.args.store.now c.requires.held c.requires.ready.main_last c.args.outside.now.stores.items c.remove.new.stores.items c.requires.orphan c.remove.new.moments (omega (arith, c.in-Err.ensures.drawn)) c.in-Err.ensures.any_moment

pub returns-in-Ok-commit-clause-done : goal.returns-in-Ok-commit-clause-done
returns-in-Ok-commit-clause-done g c after e =
    then_taken g.P.Plugin.plugin c.args.store.now.cat after c.args.file c.args.outside.now.moments (g.D.Disk.disk c.args.outside.now.main) c.args.store.now c.requires.held c.requires.ready.main_last c.args.outside.now.stores.items c.commit.new.outside.stores.items c.remove.new.moments (g.D.Disk.disk c.commit.new.outside.main) c.commit.new.store (Ok tt) c.in-Ok-commit.ensures.frame.main
    (c.in-Ok-commit.ensures.committed c.args.store.now.cat after c.requires.held (ap (apply_all c.args.store.now.cat) c.in-Ok.ensures.changes ∙ e))

pub returns-in-Ok-commit-clause-whole : goal.returns-in-Ok-commit-clause-whole
returns-in-Ok-commit-clause-whole g c =
    keep_taken g.P.Plugin.plugin c.args.store.now.cat (without c.args.store.now.cat c.args.file c.requires.orphan) c.args.file c.args.outside.now.moments (g.D.Disk.disk c.args.outside.now.main) c.args.store.now c.requires.held c.requires.ready.main_last c.args.outside.now.stores.items c.remove.new.stores.items c.requires.orphan c.remove.new.moments (omega (arith, c.in-Ok-remove.ensures.drawn)) c.in-Ok-remove.ensures.any_moment (applied c.args.store.now.cat c.args.file c.requires.orphan) c.in-Ok-remove.ensures.last c.in-Ok-remove.ensures.gone
    (g.D.Disk.disk c.commit.new.outside.main) c.commit.new.store (Ok tt) c.commit.new.outside.stores.items (ap (λ v. v.items) c.in-Ok-commit.ensures.stores) c.in-Ok-commit.ensures.frame.main
    (c.in-Ok-commit.ensures.committed c.args.store.now.cat (without c.args.store.now.cat c.args.file c.requires.orphan) c.requires.held (ap (apply_all c.args.store.now.cat) c.in-Ok.ensures.changes ∙ (applied c.args.store.now.cat c.args.file c.requires.orphan)))

pub returns-in-Err-commit-clause-done : goal.returns-in-Err-commit-clause-done
returns-in-Err-commit-clause-done g c after e =
    then_taken g.P.Plugin.plugin c.args.store.now.cat after c.args.file c.args.outside.now.moments (g.D.Disk.disk c.args.outside.now.main) c.args.store.now c.requires.held c.requires.ready.main_last c.args.outside.now.stores.items c.commit.new.outside.stores.items c.remove.new.moments (g.D.Disk.disk c.commit.new.outside.main) c.commit.new.store (Err c.in-Err-commit.error) c.in-Err-commit.ensures.frame.main
    (c.in-Err-commit.ensures.committed c.args.store.now.cat after c.requires.held (ap (apply_all c.args.store.now.cat) c.in-Ok.ensures.changes ∙ e))

pub returns-in-Err-commit-clause-whole : goal.returns-in-Err-commit-clause-whole
returns-in-Err-commit-clause-whole g c =
    keep_taken g.P.Plugin.plugin c.args.store.now.cat (without c.args.store.now.cat c.args.file c.requires.orphan) c.args.file c.args.outside.now.moments (g.D.Disk.disk c.args.outside.now.main) c.args.store.now c.requires.held c.requires.ready.main_last c.args.outside.now.stores.items c.remove.new.stores.items c.requires.orphan c.remove.new.moments (omega (arith, c.in-Ok-remove.ensures.drawn)) c.in-Ok-remove.ensures.any_moment (applied c.args.store.now.cat c.args.file c.requires.orphan) c.in-Ok-remove.ensures.last c.in-Ok-remove.ensures.gone
    (g.D.Disk.disk c.commit.new.outside.main) c.commit.new.store (Err c.in-Err-commit.error) c.commit.new.outside.stores.items (ap (λ v. v.items) c.in-Err-commit.ensures.stores) c.in-Err-commit.ensures.frame.main
    (c.in-Err-commit.ensures.committed c.args.store.now.cat (without c.args.store.now.cat c.args.file c.requires.orphan) c.requires.held (ap (apply_all c.args.store.now.cat) c.in-Ok.ensures.changes ∙ (applied c.args.store.now.cat c.args.file c.requires.orphan)))
