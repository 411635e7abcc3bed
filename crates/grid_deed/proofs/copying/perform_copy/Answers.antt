use Rattle.std.proofs.Common.{inl, length, ◌==◌, Ok, Err, refl, sym, ap, ◌∙◌}
use Rattle.std.specs.Prelude.{is_ok}
use Rattle.grid_model.specs.Rows.{Cat}
use Rattle.grid_model.specs.Applying.{apply_all}
use Rattle.grid_journal.specs.declared.error.JournalError.TheVariants.{DiskFault}
use Rattle.grid_deed.specs.declared.copying.Copied.TheVariants.{Done, Fault, Bad}
use Rattle.grid_deed.proofs.Frames.{frame_then, frame_as}
use Rattle.grid_deed.proofs.Keeping.{err_as}
use Rattle.grid_deed.proofs.DeedLemmas.{none_there, none_more, first_failed}
use Rattle.grid_deed.proofs.DeedWholes.{keep_first}
use Rattle.grid_deed.proofs.CopyDeeds.{says_same, says_of, copy_failed, either_left, copy_stopped, copy_unmade, frame_copied, whole_copied, copy_then_none, copy_then, whole_then}
use Rattle.grid_deed.proofs.copying.perform_copy.Goals as goal

pub returns-in-Err-clause-done : goal.returns-in-Err-clause-done
returns-in-Err-clause-done g c kept held p =
    let o = c.args.outside.now in
    let m = c.commit.new.outside in
    copy_failed g.D.Disk.disk g.P.Plugin.plugin p o m c.in-Err.error c.commit.new.store
    (first_failed g.P.Plugin.plugin kept p.mid p.end c.args.plan.files o.moments (g.D.Disk.disk o.main) c.args.store.now o.stores.items m.stores.items (g.D.Disk.disk m.main) c.commit.new.store c.in-Err.error (c.in-Err.ensures.committed kept p.mid held p.first))
    (inl (either_left g.D.Disk.disk g.P.Plugin.plugin p o m c.in-Err.error c.args.store.now c.commit.new.store (c.in-Err.ensures.committed kept p.mid held p.first)))

pub returns-in-Err-clause-whole : goal.returns-in-Err-clause-whole
returns-in-Err-clause-whole g c kept held p =
    keep_first g.P.Plugin.plugin kept p.mid p.begins c.args.outside.now.moments c.args.store.now c.commit.new.store (g.D.Disk.disk c.args.outside.now.main) (g.D.Disk.disk c.commit.new.outside.main) c.args.outside.now.stores.items c.commit.new.outside.stores.items
    (ap (λ v. v.items) c.in-Err.ensures.stores) (Err c.in-Err.error) (c.in-Err.ensures.committed kept p.mid held p.first)

pub returns-in-Ok-Fault-clause-done : goal.returns-in-Ok-Fault-clause-done
returns-in-Ok-Fault-clause-done g c kept held p =
    let o = c.args.outside.now in
    let m = c.commit.new.outside in
    let w = record m { stores = c.copy_each.new.stores; moments = c.copy_each.new.moments } in
    let first = c.in-Ok.ensures.committed kept p.mid held p.first in
    let is = says_same g.P.Plugin.plugin c.args.plan.files c.args.from.now m.stores.items w.stores.items c.in-Ok-Fault.field-0 (Fault c.in-Ok-Fault.fault) c.in-Ok-Fault.field-0-is c.in-Ok-Fault.ensures.says in
    copy_unmade g.D.Disk.disk g.P.Plugin.plugin p o w c.args.store.now c.commit.new.store first (Fault c.in-Ok-Fault.fault) (λ e. cc)
    (says_of g.P.Plugin.plugin c.args.plan.files c.args.from.now o.stores.items m.stores.items w.stores.items w.stores.items (Fault c.in-Ok-Fault.fault) (ap (λ v. v.items) c.in-Ok.ensures.stores) refl is)

pub returns-in-Ok-Fault-clause-whole : goal.returns-in-Ok-Fault-clause-whole
returns-in-Ok-Fault-clause-whole g c kept held p =
    let o = c.args.outside.now in
    let m = c.commit.new.outside in
    let w = record m { stores = c.copy_each.new.stores; moments = c.copy_each.new.moments } in
    whole_copied g.D.Disk.disk g.P.Plugin.plugin o m w _ c.in-Ok.ensures.frame c.copy_each.ensures.drawn_from p c.requires.ready.main_last c.args.store.now c.commit.new.store (c.in-Ok.ensures.committed kept p.mid held p.first) (ap (λ v. v.items) c.in-Ok.ensures.stores) c.copy_each.ensures.any_moment

pub returns-in-Ok-Fault-clause-frame : goal.returns-in-Ok-Fault-clause-frame
returns-in-Ok-Fault-clause-frame g c =
    let m = c.commit.new.outside in
    let w = record m { stores = c.copy_each.new.stores; moments = c.copy_each.new.moments } in
    frame_copied g.D.Disk.disk g.P.Plugin.plugin c.args.outside.now m w _ c.in-Ok.ensures.frame c.copy_each.ensures.drawn_from c.args.from.now c.args.plan.files _ (λ e. cc) (λ e. cc) c.copy_each.ensures.any_moment refl refl refl

pub returns-in-Ok-Bad-clause-done : goal.returns-in-Ok-Bad-clause-done
returns-in-Ok-Bad-clause-done g c kept held p =
    let o = c.args.outside.now in
    let m = c.commit.new.outside in
    let w = record m { stores = c.copy_each.new.stores; moments = c.copy_each.new.moments } in
    let first = c.in-Ok.ensures.committed kept p.mid held p.first in
    let is = says_same g.P.Plugin.plugin c.args.plan.files c.args.from.now m.stores.items w.stores.items c.in-Ok-Bad.field-0 (Bad c.in-Ok-Bad.found) c.in-Ok-Bad.field-0-is c.in-Ok-Bad.ensures.says in
    copy_unmade g.D.Disk.disk g.P.Plugin.plugin p o w c.args.store.now c.commit.new.store first (Bad c.in-Ok-Bad.found) (λ e. cc)
    (says_of g.P.Plugin.plugin c.args.plan.files c.args.from.now o.stores.items m.stores.items w.stores.items w.stores.items (Bad c.in-Ok-Bad.found) (ap (λ v. v.items) c.in-Ok.ensures.stores) refl is)

pub returns-in-Ok-Bad-clause-whole : goal.returns-in-Ok-Bad-clause-whole
returns-in-Ok-Bad-clause-whole g c kept held p =
    let o = c.args.outside.now in
    let m = c.commit.new.outside in
    let w = record m { stores = c.copy_each.new.stores; moments = c.copy_each.new.moments } in
    whole_copied g.D.Disk.disk g.P.Plugin.plugin o m w _ c.in-Ok.ensures.frame c.copy_each.ensures.drawn_from p c.requires.ready.main_last c.args.store.now c.commit.new.store (c.in-Ok.ensures.committed kept p.mid held p.first) (ap (λ v. v.items) c.in-Ok.ensures.stores) c.copy_each.ensures.any_moment

pub returns-in-Ok-Bad-clause-frame : goal.returns-in-Ok-Bad-clause-frame
returns-in-Ok-Bad-clause-frame g c =
    let m = c.commit.new.outside in
    let w = record m { stores = c.copy_each.new.stores; moments = c.copy_each.new.moments } in
    frame_copied g.D.Disk.disk g.P.Plugin.plugin c.args.outside.now m w _ c.in-Ok.ensures.frame c.copy_each.ensures.drawn_from c.args.from.now c.args.plan.files _ (λ e. cc) (λ e. cc) c.copy_each.ensures.any_moment refl refl refl

pub returns-in-Err-copy_each-clause-done : goal.returns-in-Err-copy_each-clause-done
returns-in-Err-copy_each-clause-done g c kept held p =
    let o = c.args.outside.now in
    let m = c.commit.new.outside in
    let w = record m { stores = c.copy_each.new.stores; moments = c.copy_each.new.moments } in
    let first = c.in-Ok.ensures.committed kept p.mid held p.first in
    copy_stopped g.D.Disk.disk g.P.Plugin.plugin p o w c.args.store.now c.commit.new.store first c.in-Ok.ensures.frame.main.tells

pub returns-in-Err-copy_each-clause-whole : goal.returns-in-Err-copy_each-clause-whole
returns-in-Err-copy_each-clause-whole g c kept held p =
    let o = c.args.outside.now in
    let m = c.commit.new.outside in
    let w = record m { stores = c.copy_each.new.stores; moments = c.copy_each.new.moments } in
    whole_copied g.D.Disk.disk g.P.Plugin.plugin o m w _ c.in-Ok.ensures.frame c.copy_each.ensures.drawn_from p c.requires.ready.main_last c.args.store.now c.commit.new.store (c.in-Ok.ensures.committed kept p.mid held p.first) (ap (λ v. v.items) c.in-Ok.ensures.stores) c.copy_each.ensures.any_moment

pub returns-in-Err-copy_each-clause-frame : goal.returns-in-Err-copy_each-clause-frame
returns-in-Err-copy_each-clause-frame g c =
    let m = c.commit.new.outside in
    let w = record m { stores = c.copy_each.new.stores; moments = c.copy_each.new.moments } in
    frame_copied g.D.Disk.disk g.P.Plugin.plugin c.args.outside.now m w _ c.in-Ok.ensures.frame c.copy_each.ensures.drawn_from c.args.from.now c.args.plan.files _ (λ e. cc) (λ e. cc) c.copy_each.ensures.any_moment refl refl refl

pub returns-then-is_empty-clause-done : goal.returns-then-is_empty-clause-done
returns-then-is_empty-clause-done g c kept held p =
    let o = c.args.outside.now in
    let m = c.commit.new.outside in
    let w = record m { stores = c.copy_each.new.stores; moments = c.copy_each.new.moments } in
    let first = c.in-Ok.ensures.committed kept p.mid held p.first in
    let none = none_more p.mid p.end c.args.plan.after (none_there c.args.plan.after (ap (λ rows. length rows == 0) (sym c.as_slice.ensures) ∙ sym c.is_empty.ensures ∙ c.if-is_empty.true)) p.then in
    copy_then_none g.D.Disk.disk g.P.Plugin.plugin o m w _ c.in-Ok.ensures.frame c.copy_each.ensures.drawn_from p c.requires.ready.main_last c.args.store.now c.commit.new.store first (ap (λ v. v.items) c.in-Ok.ensures.stores) c.copy_each.ensures.any_moment (says_same g.P.Plugin.plugin c.args.plan.files c.args.from.now m.stores.items w.stores.items c.in-Ok-Done.field-0 Done c.in-Ok-Done.field-0-is c.in-Ok-Done.ensures.says) none

pub returns-then-is_empty-clause-whole : goal.returns-then-is_empty-clause-whole
returns-then-is_empty-clause-whole g c kept held p =
    let o = c.args.outside.now in
    let m = c.commit.new.outside in
    let w = record m { stores = c.copy_each.new.stores; moments = c.copy_each.new.moments } in
    whole_copied g.D.Disk.disk g.P.Plugin.plugin o m w _ c.in-Ok.ensures.frame c.copy_each.ensures.drawn_from p c.requires.ready.main_last c.args.store.now c.commit.new.store (c.in-Ok.ensures.committed kept p.mid held p.first) (ap (λ v. v.items) c.in-Ok.ensures.stores) c.copy_each.ensures.any_moment

pub returns-then-is_empty-clause-frame : goal.returns-then-is_empty-clause-frame
returns-then-is_empty-clause-frame g c =
    let m = c.commit.new.outside in
    let w = record m { stores = c.copy_each.new.stores; moments = c.copy_each.new.moments } in
    frame_copied g.D.Disk.disk g.P.Plugin.plugin c.args.outside.now m w _ c.in-Ok.ensures.frame c.copy_each.ensures.drawn_from c.args.from.now c.args.plan.files _ (λ e. cc) (λ e. cc) c.copy_each.ensures.any_moment refl refl refl

pub commit-requires-2-clause-held : goal.commit-requires-2-clause-held
commit-requires-2-clause-held g c = let r = c.requires.plan in (r.2.mid, (c.in-Ok.ensures.committed r.0 r.2.mid r.1 r.2.first).ends.held)

pub commit-requires-2-clause-apply : goal.commit-requires-2-clause-apply
commit-requires-2-clause-apply g c =
    let r = c.requires.plan in
    ap is_ok (ap (λ (x : Cat). apply_all x c.args.plan.after) (c.in-Ok.ensures.committed r.0 r.2.mid r.1 r.2.first).ends.cat ∙ r.2.then)

pub returns-in-Ok-commit-clause-done : goal.returns-in-Ok-commit-clause-done
returns-in-Ok-commit-clause-done g c kept held p =
    let o = c.args.outside.now in
    let m = c.commit.new.outside in
    let w = record m { stores = c.copy_each.new.stores; moments = c.copy_each.new.moments } in
    let first = c.in-Ok.ensures.committed kept p.mid held p.first in
    let applied = ap (λ (x : Cat). apply_all x c.args.plan.after) first.ends.cat ∙ p.then in
    copy_then g.D.Disk.disk g.P.Plugin.plugin o m w _ c.in-Ok.ensures.frame c.copy_each.ensures.drawn_from p c.requires.ready.main_last c.args.store.now c.commit.new.store first (ap (λ v. v.items) c.in-Ok.ensures.stores) c.copy_each.ensures.any_moment (says_same g.P.Plugin.plugin c.args.plan.files c.args.from.now m.stores.items w.stores.items c.in-Ok-Done.field-0 Done c.in-Ok-Done.field-0-is c.in-Ok-Done.ensures.says)
    c.commit-2.new.outside c.commit-2.new.store (ap (λ v. v.items) c.in-Ok-commit.ensures.stores) c.in-Ok-commit.ensures.frame.main (Ok tt) (c.in-Ok-commit.ensures.committed p.mid p.end first.ends.held applied)

pub returns-in-Ok-commit-clause-whole : goal.returns-in-Ok-commit-clause-whole
returns-in-Ok-commit-clause-whole g c kept held p =
    let o = c.args.outside.now in
    let m = c.commit.new.outside in
    let w = record m { stores = c.copy_each.new.stores; moments = c.copy_each.new.moments } in
    let first = c.in-Ok.ensures.committed kept p.mid held p.first in
    let applied = ap (λ (x : Cat). apply_all x c.args.plan.after) first.ends.cat ∙ p.then in
    whole_then g.D.Disk.disk g.P.Plugin.plugin o m w _ c.in-Ok.ensures.frame c.copy_each.ensures.drawn_from p c.requires.ready.main_last c.args.store.now c.commit.new.store first (ap (λ v. v.items) c.in-Ok.ensures.stores) c.copy_each.ensures.any_moment (says_same g.P.Plugin.plugin c.args.plan.files c.args.from.now m.stores.items w.stores.items c.in-Ok-Done.field-0 Done c.in-Ok-Done.field-0-is c.in-Ok-Done.ensures.says)
    c.commit-2.new.outside c.commit-2.new.store (ap (λ v. v.items) c.in-Ok-commit.ensures.stores) c.in-Ok-commit.ensures.frame.main c.in-Ok-Done.ensures.last (Ok tt) (c.in-Ok-commit.ensures.committed p.mid p.end first.ends.held applied)

pub returns-in-Ok-commit-clause-frame : goal.returns-in-Ok-commit-clause-frame
returns-in-Ok-commit-clause-frame g c =
    let o = c.args.outside.now in
    let m = c.commit.new.outside in
    let w = record m { stores = c.copy_each.new.stores; moments = c.copy_each.new.moments } in
    frame_then g.D.Disk.disk g.P.Plugin.plugin ⊥ _ o w c.commit-2.new.outside (λ e. e)
    (frame_copied g.D.Disk.disk g.P.Plugin.plugin o m w _ c.in-Ok.ensures.frame c.copy_each.ensures.drawn_from c.args.from.now c.args.plan.files ⊥ (λ e. cc) (λ e. e) c.copy_each.ensures.any_moment refl refl refl)
    (frame_as g.D.Disk.disk g.P.Plugin.plugin _ _ w c.commit-2.new.outside (λ e. cc) (λ e. cc) c.in-Ok-commit.ensures.frame)

pub returns-clause-done : goal.returns-clause-done
returns-clause-done g c kept held p =
    let o = c.args.outside.now in
    let m = c.commit.new.outside in
    let w = record m { stores = c.copy_each.new.stores; moments = c.copy_each.new.moments } in
    let first = c.in-Ok.ensures.committed kept p.mid held p.first in
    let applied = ap (λ (x : Cat). apply_all x c.args.plan.after) first.ends.cat ∙ p.then in
    copy_then g.D.Disk.disk g.P.Plugin.plugin o m w _ c.in-Ok.ensures.frame c.copy_each.ensures.drawn_from p c.requires.ready.main_last c.args.store.now c.commit.new.store first (ap (λ v. v.items) c.in-Ok.ensures.stores) c.copy_each.ensures.any_moment (says_same g.P.Plugin.plugin c.args.plan.files c.args.from.now m.stores.items w.stores.items c.in-Ok-Done.field-0 Done c.in-Ok-Done.field-0-is c.in-Ok-Done.ensures.says)
    c.commit-2.new.outside c.commit-2.new.store (ap (λ v. v.items) c.in-Err-commit.ensures.stores) c.in-Err-commit.ensures.frame.main (Err c.in-Err-commit.error) (c.in-Err-commit.ensures.committed p.mid p.end first.ends.held applied)

pub returns-clause-whole : goal.returns-clause-whole
returns-clause-whole g c kept held p =
    let o = c.args.outside.now in
    let m = c.commit.new.outside in
    let w = record m { stores = c.copy_each.new.stores; moments = c.copy_each.new.moments } in
    let first = c.in-Ok.ensures.committed kept p.mid held p.first in
    let applied = ap (λ (x : Cat). apply_all x c.args.plan.after) first.ends.cat ∙ p.then in
    whole_then g.D.Disk.disk g.P.Plugin.plugin o m w _ c.in-Ok.ensures.frame c.copy_each.ensures.drawn_from p c.requires.ready.main_last c.args.store.now c.commit.new.store first (ap (λ v. v.items) c.in-Ok.ensures.stores) c.copy_each.ensures.any_moment (says_same g.P.Plugin.plugin c.args.plan.files c.args.from.now m.stores.items w.stores.items c.in-Ok-Done.field-0 Done c.in-Ok-Done.field-0-is c.in-Ok-Done.ensures.says)
    c.commit-2.new.outside c.commit-2.new.store (ap (λ v. v.items) c.in-Err-commit.ensures.stores) c.in-Err-commit.ensures.frame.main c.in-Ok-Done.ensures.last (Err c.in-Err-commit.error) (c.in-Err-commit.ensures.committed p.mid p.end first.ends.held applied)

pub returns-clause-frame : goal.returns-clause-frame
returns-clause-frame g c =
    let o = c.args.outside.now in
    let m = c.commit.new.outside in
    let w = record m { stores = c.copy_each.new.stores; moments = c.copy_each.new.moments } in
    frame_then g.D.Disk.disk g.P.Plugin.plugin ⊥ _ o w c.commit-2.new.outside (λ e. e)
    (frame_copied g.D.Disk.disk g.P.Plugin.plugin o m w _ c.in-Ok.ensures.frame c.copy_each.ensures.drawn_from c.args.from.now c.args.plan.files ⊥ (λ e. cc) (λ e. e) c.copy_each.ensures.any_moment refl refl refl)
    (frame_as g.D.Disk.disk g.P.Plugin.plugin _ _ w c.commit-2.new.outside (err_as c.in-Err-commit.error DiskFault) (err_as c.in-Err-commit.error DiskFault) c.in-Err-commit.ensures.frame)
