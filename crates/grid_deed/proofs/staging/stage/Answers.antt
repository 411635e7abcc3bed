use Rattle.grid_deed.proofs.Keeping.{staged_so}
use Rattle.grid_deed.proofs.staging.stage.Goals as goal

pub returns : goal.returns
returns g c kept after held applied =
    staged_so kept after c.args.deltas (g.D.Disk.disk c.args.outside.now.main) c.args.store.now c.stage.new.self held applied c.stage.result c.stage.ensures.staged c.stage.ensures.keeps
