use Rattle.std.proofs.Common.{length, ◌==◌, Ok, Err, refl, sym, ap, ◌∙◌}
use Rattle.std.specs.Prelude.{is_ok}
use Rattle.grid_model.specs.Rows.{Cat}
use Rattle.grid_model.specs.Applying.{apply_all}
use Rattle.grid_journal.specs.declared.error.JournalError.TheVariants.{DiskFault}
use Rattle.grid_vault.specs.Vault.{HasSlot, WritesAmong}
use Rattle.grid_deed.proofs.Frames.{frame_then, frame_stores, frame_as, stores_went, rose_after}
use Rattle.grid_deed.proofs.Keeping.{err_as}
use Rattle.grid_deed.proofs.DeedLemmas.{none_there, none_more, first_failed, store_failed, no_more, then_kept}
use Rattle.grid_deed.proofs.DeedWholes.{keep_first, keep_files, keep_last}
use Rattle.grid_deed.proofs.performing.perform.Goals as goal

pub returns-in-Err-clause-done : goal.returns-in-Err-clause-done
returns-in-Err-clause-done g c kept held p =
    first_failed g.P.Plugin.plugin kept p.mid p.end c.args.plan.files c.args.outside.now.moments (g.D.Disk.disk c.args.outside.now.main) c.args.store.now c.args.outside.now.stores.items c.commit.new.outside.stores.items (g.D.Disk.disk c.commit.new.outside.main) c.commit.new.store
    c.in-Err.error (c.in-Err.ensures.committed kept p.mid held p.first)

pub returns-in-Err-clause-whole : goal.returns-in-Err-clause-whole
returns-in-Err-clause-whole g c kept held p =
    keep_first g.P.Plugin.plugin kept p.mid p.begins c.args.outside.now.moments c.args.store.now c.commit.new.store (g.D.Disk.disk c.args.outside.now.main) (g.D.Disk.disk c.commit.new.outside.main) c.args.outside.now.stores.items c.commit.new.outside.stores.items
    (ap (λ v. v.items) c.in-Err.ensures.stores) (Err c.in-Err.error) (c.in-Err.ensures.committed kept p.mid held p.first)

pub returns-in-Err-write_all-clause-done : goal.returns-in-Err-write_all-clause-done
returns-in-Err-write_all-clause-done g c kept held p =
    let o = c.args.outside.now in
    let m = c.commit.new.outside in
    store_failed g.P.Plugin.plugin kept p.mid p.end c.args.plan.files o.moments (g.D.Disk.disk o.main) c.args.store.now o.stores.items c.write_all.new.stores.items (g.D.Disk.disk m.main) c.commit.new.store
    (c.in-Ok.ensures.committed kept p.mid held p.first) c.in-Err-write_all.fault c.in-Err-write_all.ensures.slot
    (rose_after g.P.Plugin.plugin o.moments m.moments c.in-Ok.ensures.frame.drawn o.stores.items m.stores.items c.write_all.new.stores.items c.in-Ok.ensures.frame.stores
    (stores_went g.P.Plugin.plugin m.moments c.write_all.new.moments (WritesAmong c.args.plan.files) (HasSlot c.args.plan.files) m.stores.items c.write_all.new.stores.items c.in-Err-write_all.ensures.any_moment) c.in-Err-write_all.fault.slot c.in-Err-write_all.ensures.cause)

pub returns-in-Err-write_all-clause-whole : goal.returns-in-Err-write_all-clause-whole
returns-in-Err-write_all-clause-whole g c kept held p =
    let o = c.args.outside.now in
    let m = c.commit.new.outside in
    keep_files g.P.Plugin.plugin kept p.mid p.begins o.moments c.args.store.now c.commit.new.store (g.D.Disk.disk o.main) (g.D.Disk.disk m.main) o.stores.items m.stores.items
    (ap (λ v. v.items) c.in-Ok.ensures.stores) (c.in-Ok.ensures.committed kept p.mid held p.first) c.in-Ok.ensures.frame.main.tells m.moments c.write_all.new.moments c.in-Ok.ensures.frame.drawn (c.in-Ok.ensures.frame.main_last c.requires.ready.main_last)
    c.args.plan.files (HasSlot c.args.plan.files) c.write_all.new.stores.items c.in-Err-write_all.ensures.any_moment p.named

pub returns-in-Err-write_all-clause-frame : goal.returns-in-Err-write_all-clause-frame
returns-in-Err-write_all-clause-frame g c =
    let m = c.commit.new.outside in
    frame_then g.D.Disk.disk g.P.Plugin.plugin _ _ c.args.outside.now m (record m { stores = c.write_all.new.stores; moments = c.write_all.new.moments }) (λ e. cc) c.in-Ok.ensures.frame
    (frame_stores g.D.Disk.disk g.P.Plugin.plugin _ c.args.plan.files m (record m { stores = c.write_all.new.stores; moments = c.write_all.new.moments }) (λ e. cc) c.in-Err-write_all.ensures.drawn_from c.in-Err-write_all.ensures.any_moment refl refl refl)

pub returns-then-is_empty-clause-done : goal.returns-then-is_empty-clause-done
returns-then-is_empty-clause-done g c kept held p =
    let o = c.args.outside.now in
    let m = c.commit.new.outside in
    no_more g.P.Plugin.plugin kept p.mid p.end c.args.plan.files o.moments (g.D.Disk.disk o.main) c.args.store.now o.stores.items c.write_all.new.stores.items (g.D.Disk.disk m.main) c.commit.new.store
    (c.in-Ok.ensures.committed kept p.mid held p.first) (none_more p.mid p.end c.args.plan.after (none_there c.args.plan.after (ap (λ rows. length rows == 0) (sym c.as_slice.ensures) ∙ sym c.is_empty.ensures ∙ c.if-is_empty.true)) p.then)

pub returns-then-is_empty-clause-whole : goal.returns-then-is_empty-clause-whole
returns-then-is_empty-clause-whole g c kept held p =
    let o = c.args.outside.now in
    let m = c.commit.new.outside in
    keep_files g.P.Plugin.plugin kept p.mid p.begins o.moments c.args.store.now c.commit.new.store (g.D.Disk.disk o.main) (g.D.Disk.disk m.main) o.stores.items m.stores.items
    (ap (λ v. v.items) c.in-Ok.ensures.stores) (c.in-Ok.ensures.committed kept p.mid held p.first) c.in-Ok.ensures.frame.main.tells m.moments c.write_all.new.moments c.in-Ok.ensures.frame.drawn (c.in-Ok.ensures.frame.main_last c.requires.ready.main_last)
    c.args.plan.files (HasSlot c.args.plan.files) c.write_all.new.stores.items c.in-Ok-write_all.ensures.any_moment p.named

pub returns-then-is_empty-clause-frame : goal.returns-then-is_empty-clause-frame
returns-then-is_empty-clause-frame g c =
    let m = c.commit.new.outside in
    frame_then g.D.Disk.disk g.P.Plugin.plugin _ _ c.args.outside.now m (record m { stores = c.write_all.new.stores; moments = c.write_all.new.moments }) (λ e. cc) c.in-Ok.ensures.frame
    (frame_stores g.D.Disk.disk g.P.Plugin.plugin _ c.args.plan.files m (record m { stores = c.write_all.new.stores; moments = c.write_all.new.moments }) (λ e. cc) c.in-Ok-write_all.ensures.drawn_from c.in-Ok-write_all.ensures.any_moment refl refl refl)

pub commit-requires-2-clause-held : goal.commit-requires-2-clause-held
commit-requires-2-clause-held g c = let r = c.requires.plan in (r.2.mid, (c.in-Ok.ensures.committed r.0 r.2.mid r.1 r.2.first).ends.held)

pub commit-requires-2-clause-apply : goal.commit-requires-2-clause-apply
commit-requires-2-clause-apply g c =
    let r = c.requires.plan in
    ap is_ok (ap (λ (x : Cat). apply_all x c.args.plan.after) (c.in-Ok.ensures.committed r.0 r.2.mid r.1 r.2.first).ends.cat ∙ r.2.then)

pub returns-in-Ok-commit-clause-done : goal.returns-in-Ok-commit-clause-done
returns-in-Ok-commit-clause-done g c kept held p =
    let o = c.args.outside.now in
    let m = c.commit.new.outside in
    let first = c.in-Ok.ensures.committed kept p.mid held p.first in
    let applied = ap (λ (x : Cat). apply_all x c.args.plan.after) first.ends.cat ∙ p.then in
    then_kept g.P.Plugin.plugin kept p.mid p.end c.args.plan.files o.moments (g.D.Disk.disk o.main) c.args.store.now o.stores.items c.commit-2.new.outside.stores.items (g.D.Disk.disk m.main) c.commit.new.store first
    c.write_all.new.moments (g.D.Disk.disk c.commit-2.new.outside.main) c.commit-2.new.store c.in-Ok.ensures.frame.main.tells c.in-Ok-commit.ensures.frame.main (Ok tt) (c.in-Ok-commit.ensures.committed p.mid p.end first.ends.held applied)

pub returns-in-Ok-commit-clause-whole : goal.returns-in-Ok-commit-clause-whole
returns-in-Ok-commit-clause-whole g c kept held p =
    let o = c.args.outside.now in
    let m = c.commit.new.outside in
    let first = c.in-Ok.ensures.committed kept p.mid held p.first in
    let applied = ap (λ (x : Cat). apply_all x c.args.plan.after) first.ends.cat ∙ p.then in
    keep_last g.P.Plugin.plugin kept p.mid p.begins o.moments c.args.store.now c.commit.new.store (g.D.Disk.disk o.main) (g.D.Disk.disk m.main) o.stores.items m.stores.items
    (ap (λ v. v.items) c.in-Ok.ensures.stores) first c.in-Ok.ensures.frame.main.tells m.moments c.write_all.new.moments c.in-Ok.ensures.frame.drawn (c.in-Ok.ensures.frame.main_last c.requires.ready.main_last)
    c.args.plan.files (HasSlot c.args.plan.files) c.write_all.new.stores.items c.in-Ok-write_all.ensures.any_moment p.named
    p.end c.args.bytes.now p.ends c.in-Ok-write_all.ensures.drawn_from c.in-Ok-write_all.ensures.last c.in-Ok-write_all.ensures.stable
    (g.D.Disk.disk c.commit-2.new.outside.main) c.commit-2.new.store (Ok tt) c.commit-2.new.outside.stores.items (ap (λ v. v.items) c.in-Ok-commit.ensures.stores) c.in-Ok-commit.ensures.frame.main (c.in-Ok-commit.ensures.committed p.mid p.end first.ends.held applied)

pub returns-in-Ok-commit-clause-frame : goal.returns-in-Ok-commit-clause-frame
returns-in-Ok-commit-clause-frame g c =
    let m = c.commit.new.outside in
    let w = record m { stores = c.write_all.new.stores; moments = c.write_all.new.moments } in
    frame_then g.D.Disk.disk g.P.Plugin.plugin ⊥ _ c.args.outside.now w c.commit-2.new.outside (λ e. e)
    (frame_then g.D.Disk.disk g.P.Plugin.plugin _ ⊥ c.args.outside.now m w (λ e. cc) c.in-Ok.ensures.frame
    (frame_stores g.D.Disk.disk g.P.Plugin.plugin ⊥ c.args.plan.files m w (λ e. e) c.in-Ok-write_all.ensures.drawn_from c.in-Ok-write_all.ensures.any_moment refl refl refl))
    (frame_as g.D.Disk.disk g.P.Plugin.plugin _ _ w c.commit-2.new.outside (λ e. cc) (λ e. cc) c.in-Ok-commit.ensures.frame)

pub returns-clause-done : goal.returns-clause-done
returns-clause-done g c kept held p =
    let o = c.args.outside.now in
    let m = c.commit.new.outside in
    let first = c.in-Ok.ensures.committed kept p.mid held p.first in
    let applied = ap (λ (x : Cat). apply_all x c.args.plan.after) first.ends.cat ∙ p.then in
    then_kept g.P.Plugin.plugin kept p.mid p.end c.args.plan.files o.moments (g.D.Disk.disk o.main) c.args.store.now o.stores.items c.commit-2.new.outside.stores.items (g.D.Disk.disk m.main) c.commit.new.store first
    c.write_all.new.moments (g.D.Disk.disk c.commit-2.new.outside.main) c.commit-2.new.store c.in-Ok.ensures.frame.main.tells c.in-Err-commit.ensures.frame.main (Err c.in-Err-commit.error) (c.in-Err-commit.ensures.committed p.mid p.end first.ends.held applied)

pub returns-clause-whole : goal.returns-clause-whole
returns-clause-whole g c kept held p =
    let o = c.args.outside.now in
    let m = c.commit.new.outside in
    let first = c.in-Ok.ensures.committed kept p.mid held p.first in
    let applied = ap (λ (x : Cat). apply_all x c.args.plan.after) first.ends.cat ∙ p.then in
    keep_last g.P.Plugin.plugin kept p.mid p.begins o.moments c.args.store.now c.commit.new.store (g.D.Disk.disk o.main) (g.D.Disk.disk m.main) o.stores.items m.stores.items
    (ap (λ v. v.items) c.in-Ok.ensures.stores) first c.in-Ok.ensures.frame.main.tells m.moments c.write_all.new.moments c.in-Ok.ensures.frame.drawn (c.in-Ok.ensures.frame.main_last c.requires.ready.main_last)
    c.args.plan.files (HasSlot c.args.plan.files) c.write_all.new.stores.items c.in-Ok-write_all.ensures.any_moment p.named
    p.end c.args.bytes.now p.ends c.in-Ok-write_all.ensures.drawn_from c.in-Ok-write_all.ensures.last c.in-Ok-write_all.ensures.stable
    (g.D.Disk.disk c.commit-2.new.outside.main) c.commit-2.new.store (Err c.in-Err-commit.error) c.commit-2.new.outside.stores.items (ap (λ v. v.items) c.in-Err-commit.ensures.stores) c.in-Err-commit.ensures.frame.main (c.in-Err-commit.ensures.committed p.mid p.end first.ends.held applied)

pub returns-clause-frame : goal.returns-clause-frame
returns-clause-frame g c =
    let m = c.commit.new.outside in
    let w = record m { stores = c.write_all.new.stores; moments = c.write_all.new.moments } in
    frame_then g.D.Disk.disk g.P.Plugin.plugin ⊥ _ c.args.outside.now w c.commit-2.new.outside (λ e. e)
    (frame_then g.D.Disk.disk g.P.Plugin.plugin _ ⊥ c.args.outside.now m w (λ e. cc) c.in-Ok.ensures.frame
    (frame_stores g.D.Disk.disk g.P.Plugin.plugin ⊥ c.args.plan.files m w (λ e. e) c.in-Ok-write_all.ensures.drawn_from c.in-Ok-write_all.ensures.any_moment refl refl refl))
    (frame_as g.D.Disk.disk g.P.Plugin.plugin _ _ w c.commit-2.new.outside (err_as c.in-Err-commit.error DiskFault) (err_as c.in-Err-commit.error DiskFault) c.in-Err-commit.ensures.frame)
