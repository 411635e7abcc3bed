use Rattle.std.proofs.Common.{true, Err, refl, sym, ap, subst, ◌∙◌, arith}
use Rattle.grid_outside.proofs.Spans.{stays, leaves_start}
use Rattle.frame_log.proofs.Torn.{torn_none}
use Rattle.grid_journal.specs.Stands.{StandsEither}
use Rattle.grid_journal.proofs.KeepingLemmas.{untouched, journal_of, log_held, stands_either, keeps_after}
use Rattle.std.specs.List.{AllByRecursion}
use Rattle.std.proofs.lemmas.Result.{err_from_is_err_and}
use Rattle.grid_model.specs.Applying.{apply_all}
use Rattle.frame_log.specs.Extent.{Extent}
use Rattle.grid_journal.specs.Journal.{Journal, MayBeKept}
use Rattle.grid_journal.specs.declared.error.JournalError.TheVariants as error
use Rattle.grid_journal.proofs.SpelledRows.{spelled-apply_all}
use Rattle.grid_journal.proofs.ErrorLemmas.{err_same, worn_from}
use Rattle.grid_journal.proofs.store.Store.commit.Goals as goal

pub returns-then-gate-gt-LAST_GATE-clause-any_moment : goal.returns-then-gate-gt-LAST_GATE-clause-any_moment
returns-then-gate-gt-LAST_GATE-clause-any_moment g c tells settled kept after k applied =
    leaves_start c.args.moments.now (StandsEither kept after) (g.D.Disk.disk c.args.main.now) c.requires.last settled (untouched kept after c.args.self.now _ k)

pub returns-then-gate-gt-LAST_GATE-clause-afterwards : goal.returns-then-gate-gt-LAST_GATE-clause-afterwards
returns-then-gate-gt-LAST_GATE-clause-afterwards g c tells kept after k applied = untouched kept after c.args.self.now _ k

pub returns-then-gate-gt-LAST_GATE-clause-span : goal.returns-then-gate-gt-LAST_GATE-clause-span
returns-then-gate-gt-LAST_GATE-clause-span g c = stays _ _ _ _ c.requires.last (omega arith) (torn_none _ _)

pub returns-in_err-body-clause-any_moment : goal.returns-in_err-body-clause-any_moment
returns-in_err-body-clause-any_moment g c tells settled kept after k applied =
    leaves_start c.args.moments.now (StandsEither kept after) (g.D.Disk.disk c.args.main.now) c.requires.last settled (untouched kept after c.args.self.now _ k)

pub returns-in_err-body-clause-afterwards : goal.returns-in_err-body-clause-afterwards
returns-in_err-body-clause-afterwards g c tells kept after k applied = untouched kept after c.args.self.now _ k

pub returns-in_err-body-clause-span : goal.returns-in_err-body-clause-span
returns-in_err-body-clause-span g c = stays _ _ _ _ c.requires.last (omega arith) (torn_none _ _)

pub returns-in_err-apply_each-clause-any_moment : goal.returns-in_err-apply_each-clause-any_moment
returns-in_err-apply_each-clause-any_moment g c tells settled kept after k applied =
    leaves_start c.args.moments.now (StandsEither kept after) (g.D.Disk.disk c.args.main.now) c.requires.last settled (untouched kept after c.args.self.now _ k)

pub returns-in_err-apply_each-clause-afterwards : goal.returns-in_err-apply_each-clause-afterwards
returns-in_err-apply_each-clause-afterwards g c tells kept after k applied = untouched kept after c.args.self.now _ k

pub returns-in_err-apply_each-clause-span : goal.returns-in_err-apply_each-clause-span
returns-in_err-apply_each-clause-span g c = stays _ _ _ _ c.requires.last (omega arith) (torn_none _ _)

pub returns-in_err-append-clause-any_moment : goal.returns-in_err-append-clause-any_moment
returns-in_err-append-clause-any_moment g c tells settled kept after k applied t image late left =
    let held = log_held kept after c.args.self.now c.self.inside.tables c.self.inside.staged c.self.inside.log c.self.inside.sound c.self.view_is
    (g.D.Disk.disk c.args.main.now).holds c.in_ok-body.body c.as_slice.result.now c.args.deltas k c.in_ok-body.ensures.spells c.as_slice.ensures c.self.invariant.0 c.requires.spelled applied in
    stands_either kept after c.args.self.now c.self.inside.tables c.self.inside.staged c.self.inside.log c.self.inside.sound c.self.view_is
    (g.D.Disk.disk c.args.main.now).holds c.in_ok-body.body c.as_slice.result.now c.args.deltas k c.in_ok-body.ensures.spells c.as_slice.ensures c.self.invariant.0 c.requires.spelled applied
    image (c.append.ensures.any_moment tells settled held.0 held.1 t image late left)

pub returns-in_err-append-clause-afterwards : goal.returns-in_err-append-clause-afterwards
returns-in_err-append-clause-afterwards g c tells kept after k applied =
    let held = log_held kept after c.args.self.now c.self.inside.tables c.self.inside.staged c.self.inside.log c.self.inside.sound c.self.view_is
    (g.D.Disk.disk c.args.main.now).holds c.in_ok-body.body c.as_slice.result.now c.args.deltas k c.in_ok-body.ensures.spells c.as_slice.ensures c.self.invariant.0 c.requires.spelled applied in
    stands_either kept after c.args.self.now c.self.inside.tables c.self.inside.staged c.self.inside.log c.self.inside.sound c.self.view_is
    (g.D.Disk.disk c.args.main.now).holds c.in_ok-body.body c.as_slice.result.now c.args.deltas k c.in_ok-body.ensures.spells c.as_slice.ensures c.self.invariant.0 c.requires.spelled applied
    _ (c.append.ensures.afterwards tells held.0 held.1)

-- the log had room
not_worn : goal.returns-in_err-append-clause-worn
not_worn g c what at = (
  λ is.
      let p = err_from_is_err_and c.from_residual-in_err-append.result c.from_residual-in_err-append.ensures.1 in
      let from = worn_from c.in_err-append.field-0.0 p.0 what at p.2 (sym (err_same c.from_residual-in_err-append.result p.0 (error.Worn what at) p.1 is)) in
      let full = (c.append.ensures.worn what at).0 (c.in_err-append.was ∙ ap Err from) in
      absurd (omega (arith, full, c.if-gate-gt-LAST_GATE.false, c.gate-gate.ensures)),
  λ h. absurd (omega (arith, h, c.if-gate-gt-LAST_GATE.false, c.gate-gate.ensures, ap (λ (j : Journal). j.log.gate) c.self.view_is)),
)

pub returns-in_err-append-clause-worn : goal.returns-in_err-append-clause-worn
returns-in_err-append-clause-worn g c what at = not_worn g c what at

pub returns-in_err-append-clause-worn_same : goal.returns-in_err-append-clause-worn_same
returns-in_err-append-clause-worn_same g c what at is =
    let full = (not_worn g c what at).0 is in
    absurd (omega (arith, full, c.if-gate-gt-LAST_GATE.false, c.gate-gate.ensures, ap (λ (j : Journal). j.log.gate) c.self.view_is))

pub returns-clause-any_moment : goal.returns-clause-any_moment
returns-clause-any_moment g c tells settled kept after k applied t image late left =
    let held = log_held kept after c.args.self.now c.self.inside.tables c.self.inside.staged c.self.inside.log c.self.inside.sound c.self.view_is
    (g.D.Disk.disk c.args.main.now).holds c.in_ok-body.body c.as_slice.result.now c.args.deltas k c.in_ok-body.ensures.spells c.as_slice.ensures c.self.invariant.0 c.requires.spelled applied in
    stands_either kept after c.args.self.now c.self.inside.tables c.self.inside.staged c.self.inside.log c.self.inside.sound c.self.view_is
    (g.D.Disk.disk c.args.main.now).holds c.in_ok-body.body c.as_slice.result.now c.args.deltas k c.in_ok-body.ensures.spells c.as_slice.ensures c.self.invariant.0 c.requires.spelled applied
    image (c.append.ensures.any_moment tells settled held.0 held.1 t image late left)

pub returns-clause-afterwards : goal.returns-clause-afterwards
returns-clause-afterwards g c tells kept after k applied =
    let held = log_held kept after c.args.self.now c.self.inside.tables c.self.inside.staged c.self.inside.log c.self.inside.sound c.self.view_is
    (g.D.Disk.disk c.args.main.now).holds c.in_ok-body.body c.as_slice.result.now c.args.deltas k c.in_ok-body.ensures.spells c.as_slice.ensures c.self.invariant.0 c.requires.spelled applied in
    stands_either kept after c.args.self.now c.self.inside.tables c.self.inside.staged c.self.inside.log c.self.inside.sound c.self.view_is
    (g.D.Disk.disk c.args.main.now).holds c.in_ok-body.body c.as_slice.result.now c.args.deltas k c.in_ok-body.ensures.spells c.as_slice.ensures c.self.invariant.0 c.requires.spelled applied
    _ (c.append.ensures.afterwards tells held.0 held.1)

pub returns-clause-keeps : goal.returns-clause-keeps
returns-clause-keeps g c tells kept k =
    let after = c.apply_each.new.tables in
    let applied = ap (λ (j : Journal). apply_all j.cat c.args.deltas) (sym c.self.view_is) ∙ c.in_ok-apply_each.ensures in
    let held = log_held kept after c.args.self.now c.self.inside.tables c.self.inside.staged c.self.inside.log c.self.inside.sound c.self.view_is
    (g.D.Disk.disk c.args.main.now).holds c.in_ok-body.body c.as_slice.result.now c.args.deltas k c.in_ok-body.ensures.spells c.as_slice.ensures c.self.invariant.0 c.requires.spelled applied in
    keeps_after kept after c.args.self.now c.self.inside.tables c.self.inside.staged c.self.inside.log c.self.inside.sound c.self.view_is
    (g.D.Disk.disk c.args.main.now).holds c.in_ok-body.body c.as_slice.result.now c.args.deltas k c.in_ok-body.ensures.spells c.as_slice.ensures c.self.invariant.0 c.requires.spelled applied
    (journal_of after c.from_vec.result c.append.new.self true) _ (c.append.ensures.afterwards tells held.0 held.1) (c.in_ok-append.ensures.added tells held.0 held.1)
    (ap (λ (e : Extent). e.base) c.in_ok-append.ensures.extent) (c.from_vec.ensures ∙ c.new.ensures.items) refl

pub invariant_of-self-2 : goal.invariant_of-self-2
invariant_of-self-2 g c = (
  subst (AllByRecursion MayBeKept) (sym (c.from_vec.ensures ∙ c.new.ensures.items)) tt,
  λ sound. spelled-apply_all c.args.deltas c.self.inside.tables c.apply_each.new.tables c.requires.spelled (c.self.invariant.1 (ap (λ (j : Journal). j.sound) c.self.view_is ∙ c.requires.sound)) c.in_ok-apply_each.ensures,
)
