use Rattle.std.proofs.Common.{◌≡◌, ◌<◌, ℕ, Ok, refl, sym, ap, subst, arith}
use Rattle.grid_vault.specs.Vault.{WritesAmong}
use Rattle.grid_vault.proofs.Copied.{IsCalled}
use Rattle.grid_deed.proofs.Frames.{frame_spanned}
use Rattle.grid_deed.proofs.Touched.{keep_touched}
use Rattle.grid_deed.proofs.CopyDeeds.{taken_as_copied}
use Rattle.grid_deed.proofs.copying.copy_file.Goals as goal

pub returns-clause-frame : goal.returns-clause-frame
returns-clause-frame g c =
    let o = c.args.outside.now in
    frame_spanned g.D.Disk.disk g.P.Plugin.plugin ⊥ (WritesAmong c.args.files.now) (IsCalled g.P.Plugin.plugin c.args.from.now c.args.files.now) o
    (record o { stores = c.copy_each.new.stores; moments = c.copy_each.new.moments }) (λ e. e) c.copy_each.ensures.drawn_from c.copy_each.ensures.any_moment refl refl refl

pub returns-clause-whole : goal.returns-clause-whole
returns-clause-whole g c kept store held named =
    let o = c.args.outside.now in
    keep_touched g.P.Plugin.plugin (WritesAmong c.args.files.now) (IsCalled g.P.Plugin.plugin c.args.from.now c.args.files.now) c.args.files.now (λ k a b h. h) o.moments c.copy_each.new.moments kept store
    (g.D.Disk.disk o.main) o.stores.items c.copy_each.new.stores.items held c.requires.ready.main_last c.copy_each.ensures.any_moment named

pub returns-clause-made : goal.returns-clause-made
returns-clause-made g c is before after takes t late w =
    taken_as_copied g.P.Plugin.plugin c.args.files.now c.args.from.now c.args.outside.now.stores.items c.copy_each.new.stores.items c.copy_each.result is c.copy_each.ensures.says
    before after takes c.copy_each.new.moments c.copy_each.ensures.last t late w
