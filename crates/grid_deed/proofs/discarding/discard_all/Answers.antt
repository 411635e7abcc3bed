use Rattle.std.proofs.Common.{Ok, Err, refl, sym, ap, ◌∙◌, length, ◌==◌}
use Rattle.std.specs.Prelude.{is_ok}
use Rattle.grid_model.specs.Applying.{apply_all}
use Rattle.grid_journal.specs.declared.error.JournalError.TheVariants.{DiskFault}
use Rattle.grid_vault.specs.Vault.{HasSlot}
use Rattle.grid_vault.specs.Removal.{RemovesAmong}
use Rattle.file_laws.specs.Removals.{no_orphans}
use Rattle.grid_deed.proofs.Frames.{frame_then, frame_spanned, frame_as}
use Rattle.grid_deed.proofs.Keeping.{err_as}
use Rattle.grid_deed.proofs.DeedLemmas.{none_there, some_there}
use Rattle.grid_deed.proofs.ManyDiscards.{keep_removes, swept_memory, swept_none, taken, swept_then, keep_taken_all}
use Rattle.grid_deed.proofs.discarding.discard_all.Goals as goal

pub returns-in-Err-clause-done : goal.returns-in-Err-clause-done
returns-in-Err-clause-done g c = swept_memory g.D.Disk.disk g.P.Plugin.plugin c.args.store.now.cat c.args.files.now c.args.outside.now.moments c.remove_all.new.moments c.args.outside.now.main c.args.store.now c.requires.held c.requires.ready.main_last c.args.outside.now.stores.items c.remove_all.new.stores.items c.requires.orphans c.requires.names c.in-Err.ensures.drawn_from c.in-Err.ensures.any_moment

pub returns-in-Err-clause-whole : goal.returns-in-Err-clause-whole
returns-in-Err-clause-whole g c = keep_removes g.D.Disk.disk g.P.Plugin.plugin c.args.store.now.cat c.args.files.now c.args.outside.now.moments c.remove_all.new.moments c.args.outside.now.main c.args.store.now c.requires.held c.requires.ready.main_last c.args.outside.now.stores.items c.remove_all.new.stores.items c.requires.orphans c.requires.names c.in-Err.ensures.drawn_from c.in-Err.ensures.any_moment

pub returns-in-Err-clause-frame : goal.returns-in-Err-clause-frame
returns-in-Err-clause-frame g c =
    let o = c.args.outside.now in
    frame_spanned g.D.Disk.disk g.P.Plugin.plugin _ (RemovesAmong c.args.files.now) (HasSlot c.args.files.now) o (record o { stores = c.remove_all.new.stores; moments = c.remove_all.new.moments }) (λ e. cc) c.in-Err.ensures.drawn_from c.in-Err.ensures.any_moment refl refl refl

pub returns-then-is_empty-clause-done : goal.returns-then-is_empty-clause-done
returns-then-is_empty-clause-done g c = swept_none g.D.Disk.disk g.P.Plugin.plugin c.args.store.now.cat c.args.files.now c.args.outside.now.moments c.remove_all.new.moments c.args.outside.now.main c.args.store.now c.requires.held c.requires.ready.main_last c.args.outside.now.stores.items c.remove_all.new.stores.items c.requires.orphans c.requires.names c.in-Ok.ensures.drawn_from c.in-Ok.ensures.any_moment c.in-Ok.removed.gone c.in-Ok.removed.left c.in-Ok.ensures.split c.in-Ok.ensures.left (none_there c.in-Ok.removed.gone (ap (λ rows. length rows == 0) (sym c.as_slice.ensures) ∙ sym c.is_empty.ensures ∙ c.if-is_empty.true))

pub returns-then-is_empty-clause-whole : goal.returns-then-is_empty-clause-whole
returns-then-is_empty-clause-whole g c = keep_removes g.D.Disk.disk g.P.Plugin.plugin c.args.store.now.cat c.args.files.now c.args.outside.now.moments c.remove_all.new.moments c.args.outside.now.main c.args.store.now c.requires.held c.requires.ready.main_last c.args.outside.now.stores.items c.remove_all.new.stores.items c.requires.orphans c.requires.names c.in-Ok.ensures.drawn_from c.in-Ok.ensures.any_moment

pub returns-then-is_empty-clause-frame : goal.returns-then-is_empty-clause-frame
returns-then-is_empty-clause-frame g c =
    let o = c.args.outside.now in
    frame_spanned g.D.Disk.disk g.P.Plugin.plugin _ (RemovesAmong c.args.files.now) (HasSlot c.args.files.now) o (record o { stores = c.remove_all.new.stores; moments = c.remove_all.new.moments }) (λ e. cc) c.in-Ok.ensures.drawn_from c.in-Ok.ensures.any_moment refl refl refl

pub returns-in_default-clause-done : goal.returns-in_default-clause-done
returns-in_default-clause-done g c = swept_memory g.D.Disk.disk g.P.Plugin.plugin c.args.store.now.cat c.args.files.now c.args.outside.now.moments c.remove_all.new.moments c.args.outside.now.main c.args.store.now c.requires.held c.requires.ready.main_last c.args.outside.now.stores.items c.remove_all.new.stores.items c.requires.orphans c.requires.names c.in-Ok.ensures.drawn_from c.in-Ok.ensures.any_moment

pub returns-in_default-clause-whole : goal.returns-in_default-clause-whole
returns-in_default-clause-whole g c = keep_removes g.D.Disk.disk g.P.Plugin.plugin c.args.store.now.cat c.args.files.now c.args.outside.now.moments c.remove_all.new.moments c.args.outside.now.main c.args.store.now c.requires.held c.requires.ready.main_last c.args.outside.now.stores.items c.remove_all.new.stores.items c.requires.orphans c.requires.names c.in-Ok.ensures.drawn_from c.in-Ok.ensures.any_moment

pub returns-in_default-clause-frame : goal.returns-in_default-clause-frame
returns-in_default-clause-frame g c =
    let o = c.args.outside.now in
    frame_spanned g.D.Disk.disk g.P.Plugin.plugin _ (RemovesAmong c.args.files.now) (HasSlot c.args.files.now) o (record o { stores = c.remove_all.new.stores; moments = c.remove_all.new.moments }) (λ e. cc) c.in-Ok.ensures.drawn_from c.in-Ok.ensures.any_moment refl refl refl

pub commit-requires-clause-apply : goal.commit-requires-clause-apply
commit-requires-clause-apply g c =
    let now = (taken g.D.Disk.disk g.P.Plugin.plugin c.args.store.now.cat c.args.files.now c.args.outside.now.moments c.remove_all.new.moments c.args.outside.now.main c.args.store.now c.requires.held c.requires.ready.main_last c.args.outside.now.stores.items c.remove_all.new.stores.items c.requires.orphans c.requires.names c.in-Ok.ensures.drawn_from c.in-Ok.ensures.any_moment c.in-Ok.removed.gone c.in-Ok.removed.left c.in-Ok.ensures.split c.in-Ok.ensures.left) in
    ap is_ok (ap (apply_all c.args.store.now.cat) (c.in-Ok-rows_taken.ensures.changes ∙ ap no_orphans c.as_slice-2.ensures) ∙ now.1)

pub returns-in-Ok-commit-clause-done : goal.returns-in-Ok-commit-clause-done
returns-in-Ok-commit-clause-done g c =
    let now = (taken g.D.Disk.disk g.P.Plugin.plugin c.args.store.now.cat c.args.files.now c.args.outside.now.moments c.remove_all.new.moments c.args.outside.now.main c.args.store.now c.requires.held c.requires.ready.main_last c.args.outside.now.stores.items c.remove_all.new.stores.items c.requires.orphans c.requires.names c.in-Ok.ensures.drawn_from c.in-Ok.ensures.any_moment c.in-Ok.removed.gone c.in-Ok.removed.left c.in-Ok.ensures.split c.in-Ok.ensures.left) in
    swept_then g.D.Disk.disk g.P.Plugin.plugin c.args.store.now.cat c.args.files.now c.args.outside.now.moments c.remove_all.new.moments c.args.outside.now.main c.args.store.now c.requires.held c.requires.ready.main_last c.args.outside.now.stores.items c.remove_all.new.stores.items c.requires.orphans c.requires.names c.in-Ok.ensures.drawn_from c.in-Ok.ensures.any_moment c.in-Ok.removed.gone c.in-Ok.removed.left c.in-Ok.ensures.split c.in-Ok.ensures.left c.commit.new.outside.main c.commit.new.store c.in-Ok-commit.ensures.frame.main c.commit.new.outside.stores.items (ap (λ v. v.items) c.in-Ok-commit.ensures.stores)
    (some_there c.in-Ok.removed.gone (ap (λ rows. length rows == 0) (sym c.as_slice.ensures) ∙ sym c.is_empty.ensures ∙ c.if-is_empty.false)) (Ok tt)
    (c.in-Ok-commit.ensures.committed c.args.store.now.cat now.0 c.requires.held (ap (apply_all c.args.store.now.cat) (c.in-Ok-rows_taken.ensures.changes ∙ ap no_orphans c.as_slice-2.ensures) ∙ now.1))

pub returns-in-Ok-commit-clause-whole : goal.returns-in-Ok-commit-clause-whole
returns-in-Ok-commit-clause-whole g c =
    let now = (taken g.D.Disk.disk g.P.Plugin.plugin c.args.store.now.cat c.args.files.now c.args.outside.now.moments c.remove_all.new.moments c.args.outside.now.main c.args.store.now c.requires.held c.requires.ready.main_last c.args.outside.now.stores.items c.remove_all.new.stores.items c.requires.orphans c.requires.names c.in-Ok.ensures.drawn_from c.in-Ok.ensures.any_moment c.in-Ok.removed.gone c.in-Ok.removed.left c.in-Ok.ensures.split c.in-Ok.ensures.left) in
    keep_taken_all g.D.Disk.disk g.P.Plugin.plugin c.args.store.now.cat c.args.files.now c.args.outside.now.moments c.remove_all.new.moments c.args.outside.now.main c.args.store.now c.requires.held c.requires.ready.main_last c.args.outside.now.stores.items c.remove_all.new.stores.items c.requires.orphans c.requires.names c.in-Ok.ensures.drawn_from c.in-Ok.ensures.any_moment c.in-Ok.removed.gone c.in-Ok.removed.left c.in-Ok.ensures.split c.in-Ok.ensures.left c.commit.new.outside.main c.commit.new.store c.in-Ok-commit.ensures.frame.main c.commit.new.outside.stores.items (ap (λ v. v.items) c.in-Ok-commit.ensures.stores) c.in-Ok.ensures.last c.in-Ok.ensures.gone (Ok tt)
    (c.in-Ok-commit.ensures.committed c.args.store.now.cat now.0 c.requires.held (ap (apply_all c.args.store.now.cat) (c.in-Ok-rows_taken.ensures.changes ∙ ap no_orphans c.as_slice-2.ensures) ∙ now.1))

pub returns-in-Ok-commit-clause-frame : goal.returns-in-Ok-commit-clause-frame
returns-in-Ok-commit-clause-frame g c =
    let o = c.args.outside.now in
    let w = (record o { stores = c.remove_all.new.stores; moments = c.remove_all.new.moments }) in
    frame_then g.D.Disk.disk g.P.Plugin.plugin ⊥ _ o w c.commit.new.outside (λ e. e)
    (frame_spanned g.D.Disk.disk g.P.Plugin.plugin ⊥ (RemovesAmong c.args.files.now) (HasSlot c.args.files.now) o w (λ e. e) c.in-Ok.ensures.drawn_from c.in-Ok.ensures.any_moment refl refl refl)
    (frame_as g.D.Disk.disk g.P.Plugin.plugin _ _ w c.commit.new.outside (λ e. cc) (λ e. cc) c.in-Ok-commit.ensures.frame)

pub returns-clause-done : goal.returns-clause-done
returns-clause-done g c =
    let now = (taken g.D.Disk.disk g.P.Plugin.plugin c.args.store.now.cat c.args.files.now c.args.outside.now.moments c.remove_all.new.moments c.args.outside.now.main c.args.store.now c.requires.held c.requires.ready.main_last c.args.outside.now.stores.items c.remove_all.new.stores.items c.requires.orphans c.requires.names c.in-Ok.ensures.drawn_from c.in-Ok.ensures.any_moment c.in-Ok.removed.gone c.in-Ok.removed.left c.in-Ok.ensures.split c.in-Ok.ensures.left) in
    swept_then g.D.Disk.disk g.P.Plugin.plugin c.args.store.now.cat c.args.files.now c.args.outside.now.moments c.remove_all.new.moments c.args.outside.now.main c.args.store.now c.requires.held c.requires.ready.main_last c.args.outside.now.stores.items c.remove_all.new.stores.items c.requires.orphans c.requires.names c.in-Ok.ensures.drawn_from c.in-Ok.ensures.any_moment c.in-Ok.removed.gone c.in-Ok.removed.left c.in-Ok.ensures.split c.in-Ok.ensures.left c.commit.new.outside.main c.commit.new.store c.in-Err-commit.ensures.frame.main c.commit.new.outside.stores.items (ap (λ v. v.items) c.in-Err-commit.ensures.stores)
    (some_there c.in-Ok.removed.gone (ap (λ rows. length rows == 0) (sym c.as_slice.ensures) ∙ sym c.is_empty.ensures ∙ c.if-is_empty.false)) (Err c.in-Err-commit.error)
    (c.in-Err-commit.ensures.committed c.args.store.now.cat now.0 c.requires.held (ap (apply_all c.args.store.now.cat) (c.in-Ok-rows_taken.ensures.changes ∙ ap no_orphans c.as_slice-2.ensures) ∙ now.1))

pub returns-clause-whole : goal.returns-clause-whole
returns-clause-whole g c =
    let now = (taken g.D.Disk.disk g.P.Plugin.plugin c.args.store.now.cat c.args.files.now c.args.outside.now.moments c.remove_all.new.moments c.args.outside.now.main c.args.store.now c.requires.held c.requires.ready.main_last c.args.outside.now.stores.items c.remove_all.new.stores.items c.requires.orphans c.requires.names c.in-Ok.ensures.drawn_from c.in-Ok.ensures.any_moment c.in-Ok.removed.gone c.in-Ok.removed.left c.in-Ok.ensures.split c.in-Ok.ensures.left) in
    keep_taken_all g.D.Disk.disk g.P.Plugin.plugin c.args.store.now.cat c.args.files.now c.args.outside.now.moments c.remove_all.new.moments c.args.outside.now.main c.args.store.now c.requires.held c.requires.ready.main_last c.args.outside.now.stores.items c.remove_all.new.stores.items c.requires.orphans c.requires.names c.in-Ok.ensures.drawn_from c.in-Ok.ensures.any_moment c.in-Ok.removed.gone c.in-Ok.removed.left c.in-Ok.ensures.split c.in-Ok.ensures.left c.commit.new.outside.main c.commit.new.store c.in-Err-commit.ensures.frame.main c.commit.new.outside.stores.items (ap (λ v. v.items) c.in-Err-commit.ensures.stores) c.in-Ok.ensures.last c.in-Ok.ensures.gone (Err c.in-Err-commit.error)
    (c.in-Err-commit.ensures.committed c.args.store.now.cat now.0 c.requires.held (ap (apply_all c.args.store.now.cat) (c.in-Ok-rows_taken.ensures.changes ∙ ap no_orphans c.as_slice-2.ensures) ∙ now.1))

pub returns-clause-frame : goal.returns-clause-frame
returns-clause-frame g c =
    let o = c.args.outside.now in
    let w = (record o { stores = c.remove_all.new.stores; moments = c.remove_all.new.moments }) in
    frame_then g.D.Disk.disk g.P.Plugin.plugin ⊥ _ o w c.commit.new.outside (λ e. e)
    (frame_spanned g.D.Disk.disk g.P.Plugin.plugin ⊥ (RemovesAmong c.args.files.now) (HasSlot c.args.files.now) o w (λ e. e) c.in-Ok.ensures.drawn_from c.in-Ok.ensures.any_moment refl refl refl)
    (frame_as g.D.Disk.disk g.P.Plugin.plugin _ _ w c.commit.new.outside (err_as c.in-Err-commit.error DiskFault) (err_as c.in-Err-commit.error DiskFault) c.in-Err-commit.ensures.frame)
