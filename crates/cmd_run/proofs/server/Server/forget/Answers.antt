use Rattle.std.proofs.Common.{◌<◌, ℕ, ap, refl, sym, subst, ◌∙◌}
use Rattle.std.specs.Prelude.{All, List, map, vec_len}
use Rattle.grid_model.specs.declared.deltas.OrphanRow.{OrphanRow}
use Rattle.grid_model.specs.declared.plans.NewFile.{NewFile}
use Rattle.grid_vault.specs.Removal.{FewerThanFaults}
use Rattle.file_laws.specs.Removals.{AreOrphans, HaveOwnNames}
use Rattle.cmd_run.specs.Sweeping.{orphan_files}
use Rattle.cmd_run.proofs.KeepLemmas.{of_commit}
use Rattle.cmd_run.proofs.LeftOrphans.{left_behind}
use Rattle.cmd_run.proofs.SweepLemmas.{are_orphans, have_own_names, in_slots, forgot, forgot_cat, forgot_err, forgot_none}
use Rattle.cmd_run.proofs.server.Server.forget.Goals as goal

pub discard_all-requires-clause-orphans : goal.discard_all-requires-clause-orphans
discard_all-requires-clause-orphans g c =
    let F : List NewFile → Type 0 = λ files. AreOrphans c.args.self.now.store.cat files in
    subst F (sym c.requires.all) (are_orphans c.args.self.now.store.cat)

pub discard_all-requires-clause-names : goal.discard_all-requires-clause-names
discard_all-requires-clause-names g c = subst HaveOwnNames (sym c.requires.all) (have_own_names c.args.self.now.store.cat c.requires.fits.held.made)

pub discard_all-requires-clause-slots : goal.discard_all-requires-clause-slots
discard_all-requires-clause-slots g c =
    let cat = c.args.self.now.store.cat in
    let N : ℕ → Type 0 = λ k. All (λ (f : NewFile). f.slot < k) (orphan_files cat) in
    let F : List NewFile → Type 0 = λ files. All (λ (f : NewFile). f.slot < vec_len c.args.outside.now.stores) files in
    subst F (sym c.requires.all) (subst N c.requires.slots (in_slots cat c.requires.fits.held.made))

pub returns-clause-forgets : goal.returns-clause-forgets
returns-clause-forgets g c =
    let o = c.args.outside.now in
    let n = c.discard_all.new.outside in
    forgot g.D.Disk.disk g.P.Plugin.plugin c.args.self.now.store c.args.files.now o.moments o.main n.main o.stores.items n.stores.items _
    c.discard_all.new.store c.requires.fits.staged _ refl c.in-Ok.ensures.done

pub returns-clause-few : goal.returns-clause-few
returns-clause-few g c =
    let o = c.args.outside.now in
    let n = c.discard_all.new.outside in
    let s = c.args.self.now.store in
    let done = c.in-Ok.ensures.done in
    let cat_is = forgot_cat g.D.Disk.disk g.P.Plugin.plugin s c.args.files.now o.moments o.main n.main o.stores.items n.stores.items _ c.discard_all.new.store
    done in
    let F : List NewFile → Type 0 = λ files. FewerThanFaults g.P.Plugin.plugin files o.stores.items n.stores.items in
    subst F (left_behind s.cat done.after c.args.files.now done.gone done.left c.requires.all done.split (have_own_names s.cat c.requires.fits.held.made)
    done.applied ∙ ap orphan_files (sym cat_is)) done.ends.1

pub returns-clause-still : goal.returns-clause-still
returns-clause-still g c = λ none.
    let o = c.args.outside.now in
    let n = c.discard_all.new.outside in
    forgot_none g.D.Disk.disk g.P.Plugin.plugin c.args.self.now.store c.args.files.now o.moments o.main n.main o.stores.items n.stores.items _
    c.discard_all.new.store
    (c.requires.all ∙ ap (λ (rows : List OrphanRow). map (λ (o : OrphanRow). (let f : NewFile = record { slot = o.slot; name = o.vault } in f)) rows) none)
    c.in-Ok.ensures.done

pub ending_of-requires : goal.ending_of-requires
ending_of-requires g c =
    let o = c.args.outside.now in
    let n = c.discard_all.new.outside in
    let done = c.in-Err.ensures.done in
    of_commit c.args.self.now.store.cat done.after o.moments c.args.self.now.store (g.D.Disk.disk o.main) (g.D.Disk.disk n.main) c.in-Err.error
    c.discard_all.new.store done.ends

pub returns-in-Err-clause-forgets : goal.returns-in-Err-clause-forgets
returns-in-Err-clause-forgets g c =
    let o = c.args.outside.now in
    let n = c.discard_all.new.outside in
    forgot_err g.D.Disk.disk g.P.Plugin.plugin c.args.self.now.store c.args.files.now o.moments o.main n.main o.stores.items n.stores.items c.in-Err.error
    c.ending_of.result c.discard_all.new.store _ c.ending_of.ensures c.in-Err.ensures.done
