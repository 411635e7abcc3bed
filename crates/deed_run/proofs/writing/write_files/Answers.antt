use Rattle.std.proofs.Common.{refl, arith}
use Rattle.grid_vault.specs.Vault.{HasSlot, WritesAmong}
use Rattle.grid_deed.proofs.Frames.{frame_stores}
use Rattle.grid_deed.proofs.Touched.{keep_touched}
use Rattle.grid_deed.proofs.Wholes.{whole_turned}
use Rattle.deed_run.proofs.writing.write_files.Goals as goal

pub returns-clause-frame : goal.returns-clause-frame
returns-clause-frame g c =
    let o = c.args.outside.now in
    frame_stores g.D.Disk.disk g.P.Plugin.plugin ⊥ c.args.files.now o (record o { stores = c.write_each.new.stores; moments = c.write_each.new.moments }) (λ e. e)
    c.write_each.ensures.drawn_from c.write_each.ensures.any_moment refl refl refl

pub returns-clause-whole : goal.returns-clause-whole
returns-clause-whole g c kept store held named =
    let o = c.args.outside.now in
    keep_touched g.P.Plugin.plugin (WritesAmong c.args.files.now) (HasSlot c.args.files.now) c.args.files.now (λ k a b h. h) o.moments c.write_each.new.moments kept store
    (g.D.Disk.disk o.main) o.stores.items c.write_each.new.stores.items held c.requires.ready.main_last c.write_each.ensures.any_moment named

pub returns-clause-made : goal.returns-clause-made
returns-clause-made g c is before after turns t late w =
    whole_turned g.P.Plugin.plugin t c.args.files.now c.args.body.now before after c.write_each.new.stores.items turns
    (λ slot store at. omega (arith, c.write_each.ensures.last slot store at, late)) (c.write_each.ensures.stable is) w
