use Rattle.std.proofs.Common.{◌≡◌, ℕ, List, slice_get, None, Some, Err, ap, sym, subst}
use Rattle.std.proofs.lemmas.Result.{err_from_is_err_and}
use Rattle.frame_log.specs.declared.records.Record.{Record}
use Rattle.frame_log.specs.Extent.{bodies}
use Rattle.frame_log.specs.Log.{IsBroken, IsLog}
use Rattle.frame_log.proofs.Looking.{passed_on}
use Rattle.frame_log.proofs.Reading.{reads_as_log, reads_as_none, front_log, front_none_broken, none_first, some_first}
use Rattle.frame_log.proofs.log.FrameLog.open.Goals as goal

pub returns-in_err-gate-clause-not_a_log : goal.returns-in_err-gate-clause-not_a_log
returns-in_err-gate-clause-not_a_log g c at is tells =
    let p = err_from_is_err_and c.from_residual.result c.from_residual.ensures.1 in
    reads_as_none _ _ at (c.in_err-gate.ensures.broken at (ap Err (passed_on c.from_residual.result p.0 _ _ p.1 p.2 is)) tells)

pub returns-in_err-gate-clause-not_worn : goal.returns-in_err-gate-clause-not_worn
returns-in_err-gate-clause-not_worn g c what at is =
    let p = err_from_is_err_and c.from_residual.result c.from_residual.ensures.1 in
    c.in_err-gate.ensures.not_worn what at (ap Err (passed_on c.from_residual.result p.0 _ _ p.1 p.2 is))

pub returns-in_default-clause-not_a_log : goal.returns-in_default-clause-not_a_log
returns-in_default-clause-not_a_log g c at is tells =
    let bytes = (g.D.Disk.disk c.args.disk.now).holds in
    let place : c.args.base ≡ at = cc in
    let P : List Record → Type 0 = λ list. None ≡ slice_get list 0 in
    let none = none_first c.in_ok-gate.list.items (subst P c.deref.ensures.value c.in_default.ensures.value) in
    let Q : ℕ → Type 0 = λ k. IsBroken c.args.base k bytes in
    reads_as_none _ _ at (subst Q place (front_none_broken c.args.base c.in_ok-gate.gate _ bytes (c.in_ok-gate.ensures.front tells) (c.in_ok-gate.ensures.shut tells) none))

pub returns-clause-read : goal.returns-clause-read
returns-clause-read g c tells =
    let bytes = (g.D.Disk.disk c.args.disk.now).holds in
    let P : List Record → Type 0 = λ list. Some c.in-Some.first.now ≡ slice_get list 0 in
    let some = some_first c.in_ok-gate.list.items c.in-Some.first.now (subst P c.deref.ensures.value c.in-Some.ensures.value) in
    let log = front_log c.args.base c.in_ok-gate.gate _ bytes (c.in_ok-gate.ensures.front tells) (c.in_ok-gate.ensures.shut tells) some in
    let Q : List (ℕ × List ℕ) → Type 0 = λ list. IsLog c.args.base (bodies list) bytes in
    reads_as_log _ _ _ (subst Q (sym c.from_vec.ensures) log)
