use Rattle.std.proofs.Common.{◌≡◌, [], refl, arith}
use Rattle.grid_deed.proofs.Frames.{frame_spanned}
use Rattle.grid_deed.proofs.Touched.{keep_touched, same_allows, none_named}
use Rattle.grid_deed.proofs.touching.check_file.Goals as goal

pub returns-clause-whole : goal.returns-clause-whole
returns-clause-whole g c kept store held =
    let o = c.args.outside.now in
    keep_touched g.P.Plugin.plugin (λ k a b. b ≡ a) (λ k. k ≡ c.args.file.now.slot) [] same_allows o.moments o.moments kept store (g.D.Disk.disk o.main) o.stores.items c.verify.new.stores.items held c.requires.ready.main_last
    (c.verify.ensures.any_moment o.moments c.requires.ready.stores_last).span (none_named kept)

pub returns-clause-frame : goal.returns-clause-frame
returns-clause-frame g c =
    let o = c.args.outside.now in
    frame_spanned g.D.Disk.disk g.P.Plugin.plugin ⊥ (λ k a b. b ≡ a) (λ k. k ≡ c.args.file.now.slot) o (record o { stores = c.verify.new.stores }) (λ e. e) (omega arith) (c.verify.ensures.any_moment o.moments c.requires.ready.stores_last).span refl refl refl

pub returns-clause-looks : goal.returns-clause-looks
returns-clause-looks g c = (c.verify.ensures.any_moment c.args.outside.now.moments c.requires.ready.stores_last).looks
