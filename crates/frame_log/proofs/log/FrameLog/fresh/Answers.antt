use Rattle.std.proofs.Common.{◌≡◌, ◌∷◌, ◌+◌, [], arith, length, List, ℕ, subst, ap, ◌∙◌, length-append}
use Rattle.grid_outside.specs.Disk.{Torn, Holds}
use Rattle.grid_outside.specs.Device.{Between}
use Rattle.grid_outside.proofs.Spans.{stays}
use Rattle.frame_log.specs.Log.{frame}
use Rattle.frame_log.proofs.Adding.{first_log, first_extent}
use Rattle.frame_log.proofs.Frames.{length-frame}
use Rattle.frame_log.proofs.Torn.{torn_none}
use Rattle.frame_log.proofs.log.FrameLog.fresh.Goals as goal

pub returns-in_err-bytes-clause-span : goal.returns-in_err-bytes-clause-span
returns-in_err-bytes-clause-span g c = stays _ _ _ _ c.requires.last (omega arith) (torn_none _ _)

pub returns-clause-log : goal.returns-clause-log
returns-clause-log g c tells =
    let P : List ℕ → Type 0 = λ b. Holds c.args.base b (g.D.Disk.disk c.args.disk.now).holds (g.D.Disk.disk c.write_synced.new.disk).holds in
    let held = subst P (c.deref.ensures.value ∙ c.in_ok-bytes.ensures) (c.in_ok-write_synced.ensures.written tells) in
    first_extent c.args.base c.args.first.now _ (first_log c.args.base c.args.first.now _ _ (omega (arith, c.requires.size)) (c.requires.start tells) held)

pub returns-clause-span : goal.returns-clause-span
returns-clause-span g c =
    let len : length c.deref.result.now ≡ length c.args.first.now + 10 =
    ap length (c.deref.ensures.value ∙ c.in_ok-bytes.ensures) ∙ omega (arith, length-append (frame c.args.first.now) (0 ∷ []), length-frame c.args.first.now) in
    let P : ℕ → Type 0 = λ n. Between c.args.moments.now c.write_synced.new.moments (Torn c.args.base n) (g.D.Disk.disk c.args.disk.now) (g.D.Disk.disk c.write_synced.new.disk) in
    subst P len c.write_synced.ensures.span
