use Rattle.std.proofs.Common.{◌≡◌, IsTrue, Err, sym, ap, subst, ◌∙◌}
use Rattle.std.proofs.lemmas.Result.{err_from_is_err_and}
use Rattle.frame_log.specs.Log.{IsBroken, IsLog}
use Rattle.frame_log.specs.Extent.{bodies}
use Rattle.grid_model.specs.Names.{Text}
use Rattle.grid_model.specs.declared.grid.Side.{Side}
use Rattle.grid_journal.specs.declared.error.JournalError.TheVariants as error
use Rattle.std.specs.List.{AllByRecursion}
use Rattle.grid_journal.specs.Journal.{MayBeKept}
use Rattle.grid_journal.specs.Stands.{HasHead, Stands, no_head, no_log as broken}
use Rattle.grid_journal.proofs.ErrorLemmas.{err_same, not_a_log_from}
use Rattle.grid_journal.proofs.OpenLemmas.{head_read, fault_read, told_at, unread_at, read_stands, read_keeps}
use Rattle.grid_journal.proofs.ReplayLemmas.{Replays-made}
use Rattle.grid_journal.proofs.SpelledRows.{spelled-replays}
use Rattle.grid_journal.proofs.store.Store.open.Goals as goal

pub returns-in-Some-clause-not_a_catalogue : goal.returns-in-Some-clause-not_a_catalogue
returns-in-Some-clause-not_a_catalogue g c side at is tells other =
    let main = (g.D.Disk.disk c.args.main.now).holds in
    let fault = fault_read main c.read.new.buf c.in_ok-count.count c.in-Some.at c.read.auto.buf (c.in_ok-count.ensures.bytes tells) c.in-Some.ensures in
    let told : c.not_at.result ≡ error.NotACatalogue side at = cc in
    told_at main other c.not_at.result side at c.in-Some.at c.not_at.ensures told (no_head c.in-Some.at fault)

pub returns-in_err-log-clause-not_a_catalogue : goal.returns-in_err-log-clause-not_a_catalogue
returns-in_err-log-clause-not_a_catalogue g c side at is tells other =
    let main = (g.D.Disk.disk c.args.main.now).holds in
    let head = head_read main c.read.new.buf c.in_ok-count.count c.read.auto.buf (c.in_ok-count.ensures.bytes tells) c.in-None.ensures in
    let still = subst IsTrue (sym c.read.ensures.looks.tells) tells in
    let p = err_from_is_err_and c.from_residual-in_err-log.result c.from_residual-in_err-log.ensures.1 in
    let told = sym (err_same c.from_residual-in_err-log.result p.0 (error.NotACatalogue side at) p.1 is) in
    let from = not_a_log_from c.in_err-log.field-0.0 p.0 side at p.2 told in
    let P : Text → Type 0 = λ bytes. IsBroken 16 at bytes in
    let log = subst P (c.read.ensures.looks.holds tells) (c.open.ensures.not_a_log at (c.in_err-log.was ∙ ap Err from.0) still).reads in
    let Q : Side → Type 0 = λ k. Stands main other (Err (k, at)) in
    subst Q (sym from.1) (broken at head log)

pub returns-in_err-tables-clause-not_a_catalogue : goal.returns-in_err-tables-clause-not_a_catalogue
returns-in_err-tables-clause-not_a_catalogue g c side at is tells other =
    let main = (g.D.Disk.disk c.args.main.now).holds in
    let head = head_read main c.read.new.buf c.in_ok-count.count c.read.auto.buf (c.in_ok-count.ensures.bytes tells) c.in-None.ensures in
    let still = subst IsTrue (sym c.read.ensures.looks.tells) tells in
    let p = err_from_is_err_and c.from_residual-in_err-tables.result c.from_residual-in_err-tables.ensures.1 in
    let told = sym (err_same c.from_residual-in_err-tables.result p.0 (error.NotACatalogue side at) p.1 is) in
    let P : Text → Type 0 = λ bytes. IsLog 16 (bodies c.in_ok-log.records) bytes in
    let log = subst P (c.read.ensures.looks.holds tells) (c.in_ok-log.ensures.read still).reads in
    unread_at main other c.in_ok-log.records c.in_err-tables.field-0.0 side at head c.in_ok-log.ensures.places log c.in_err-tables.ensures (sym p.2 ∙ told)

pub returns-clause-stands : goal.returns-clause-stands
returns-clause-stands g c tells other =
    let main = (g.D.Disk.disk c.args.main.now).holds in
    let head = head_read main c.read.new.buf c.in_ok-count.count c.read.auto.buf (c.in_ok-count.ensures.bytes tells) c.in-None.ensures in
    let still = subst IsTrue (sym c.read.ensures.looks.tells) tells in
    let P : Text → Type 0 = λ bytes. IsLog 16 (bodies c.in_ok-log.records) bytes in
    let log = subst P (c.read.ensures.looks.holds tells) (c.in_ok-log.ensures.read still).reads in
    read_stands main other c.in_ok-log.records c.in_ok-tables.tables head c.in_ok-log.ensures.places log c.in_ok-tables.ensures

pub returns-clause-keeps : goal.returns-clause-keeps
returns-clause-keeps g c tells =
    let main = (g.D.Disk.disk c.args.main.now).holds in
    let head = head_read main c.read.new.buf c.in_ok-count.count c.read.auto.buf (c.in_ok-count.ensures.bytes tells) c.in-None.ensures in
    let still = subst IsTrue (sym c.read.ensures.looks.tells) tells in
    let now = c.open.ensures.looks.holds still ∙ c.read.ensures.looks.holds tells in
    let Q : Text → Type 0 = HasHead in
    read_keeps (g.D.Disk.disk c.open.new.disk).holds c.in_ok-log.records _ (subst Q (sym now) head) c.in_ok-log.ensures.places (c.in_ok-log.ensures.log still) c.in_ok-log.ensures.extent
    c.in_ok-tables.ensures (c.from_vec.ensures ∙ c.new.ensures.items)

pub returns-clause-made : goal.returns-clause-made
returns-clause-made g c = Replays-made c.in_ok-tables.ensures.replays

pub invariant_of-result : goal.invariant_of-result
invariant_of-result g c = (subst (AllByRecursion MayBeKept) (sym (c.from_vec.ensures ∙ c.new.ensures.items)) tt, λ sound. spelled-replays c.in_ok-tables.ensures.replays (tt, tt))
