use Rattle.std.proofs.Common.{◌≡◌, ℕ, ◌+◌, List, take, drop, IsTrue}
use Rattle.frame_log.proofs.Frames.{record_read}
use Rattle.frame_log.proofs.Looking.{before_look, at_some}
use Rattle.frame_log.specs.Steps.{IsOpenAt}
use Rattle.frame_log.proofs.opening.read_record.Goals as goal

pub returns-in_ok-body-in-Some-clause-opened : goal.returns-in_ok-body-in-Some-clause-opened
returns-in_ok-body-in-Some-clause-opened g c tells =
    let bytes = (g.D.Disk.disk c.args.disk.now).holds in
    let body = c.in_ok-body-in-Some.body.items in
    let P : List ℕ → Type 0 = λ b. body ≡ take c.in-Some.len (drop (c.args.gate + 9) b) in
    let Q : ℕ → Type 0 = λ len. IsTrue (g.D.Disk.disk c.args.disk.now).tells → IsOpenAt c.args.gate len bytes in
    record_read c.args.gate c.in-Some.len body bytes (at_some Q _ c.in-Some.is c.in_ok-len.ensures.opened tells) c.in_ok-body-in-Some.ensures.length
    (before_look P _ (g.D.Disk.disk c.read_header.new.disk) c.read_header.ensures.looks c.in_ok-body-in-Some.ensures.bytes tells)
