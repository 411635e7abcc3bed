use Rattle.std.proofs.Common.{◌≡◌, ◌+◌, ◌-◌, ◌∷◌, ◌++◌, [], ℕ, List, length, take, drop, arith, ap, sym, ◌∙◌, subst, IsTrue, length-append}
use Rattle.std.proofs.lemmas.List.{take_rest}
use Rattle.frame_log.specs.Log.{frame}
use Rattle.std.specs.Int.{w64, to_be_bytes}
use Rattle.grid_outside.specs.Disk.{Holds}
use Rattle.grid_outside.proofs.Spans.{stays}
use Rattle.frame_log.proofs.Adding.{closed}
use Rattle.frame_log.proofs.Appending.{gate_within, first_span, first_moments, first_holds, both_moments, both_hold, both_span, added}
use Rattle.frame_log.proofs.Torn.{torn_none}
use Rattle.frame_log.specs.Extent.{Extent, IsLogOf, grown}
use Rattle.frame_log.proofs.log.FrameLog.append.Goals as goal

-- the bytes of a record have 9 more than its body, behind the gate and with the closing one
sized : (bytes body : List ℕ) → bytes ≡ closed body → length bytes ≡ length body + 9
sized bytes body is = omega (arith, ap length is, length-append (to_be_bytes w64 (length body) ++ body) (0 ∷ []), length-append (to_be_bytes w64 (length body)) body)

-- what stands behind the gate of a record
behind_gate : (body bytes : List ℕ) → bytes ≡ frame body ++ 0 ∷ [] → take (length bytes - 1) (drop 1 bytes) ≡ closed body
behind_gate body bytes is = take_rest bytes 1 ∙ ap (drop 1) is

pub returns-then-self-gt-LAST_GATE-clause-span : goal.returns-then-self-gt-LAST_GATE-clause-span
returns-then-self-gt-LAST_GATE-clause-span g c = stays _ _ _ _ c.requires.last (omega arith) (torn_none _ _)

pub returns-in_err-bytes-clause-span : goal.returns-in_err-bytes-clause-span
returns-in_err-bytes-clause-span g c = stays _ _ _ _ c.requires.last (omega arith) (torn_none _ _)

pub write_synced-requires-clause-start : goal.write_synced-requires-clause-start
write_synced-requires-clause-start g c tells =
    let log = c.requires.log tells in
    let gate : c.args.self.now.gate ≡ c.self.inside.gate = ap (λ (x : Extent). x.gate) (sym c.self.view_is) in
    omega (arith, gate, gate_within c.args.self.now log.0 _ log.1)

pub returns-in_err-write_synced-clause-any_moment : goal.returns-in_err-write_synced-clause-any_moment
returns-in_err-write_synced-clause-any_moment g c tells settled records of =
    let gate : c.args.self.now.gate ≡ c.self.inside.gate = ap (λ (x : Extent). x.gate) (sym c.self.view_is) in
    let bytes = behind_gate c.args.body.now c.deref.result.now (c.deref.ensures.value ∙ c.in_ok-bytes.ensures) in
    first_moments c.args.self.now c.self.inside.gate gate c.args.body.now _ (sized _ _ bytes) _ _ _ _ c.write_synced.ensures.span records (omega (arith, c.requires.size)) c.requires.last tells of settled

pub returns-in_err-write_synced-clause-span : goal.returns-in_err-write_synced-clause-span
returns-in_err-write_synced-clause-span g c =
    let gate : c.args.self.now.gate ≡ c.self.inside.gate = ap (λ (x : Extent). x.gate) (sym c.self.view_is) in
    let bytes = behind_gate c.args.body.now c.deref.result.now (c.deref.ensures.value ∙ c.in_ok-bytes.ensures) in
    first_span c.args.self.now c.self.inside.gate gate c.args.body.now _ (sized _ _ bytes) _ _ _ _ c.write_synced.ensures.span

pub returns-in_err-write_synced-2-clause-any_moment : goal.returns-in_err-write_synced-2-clause-any_moment
returns-in_err-write_synced-2-clause-any_moment g c tells settled records of =
    let gate : c.args.self.now.gate ≡ c.self.inside.gate = ap (λ (x : Extent). x.gate) (sym c.self.view_is) in
    let bytes = behind_gate c.args.body.now c.deref.result.now (c.deref.ensures.value ∙ c.in_ok-bytes.ensures) in
    let P : List ℕ → Type 0 = λ b. Holds (c.self.inside.gate + 1) b (g.D.Disk.disk c.args.disk.now).holds (g.D.Disk.disk c.write_synced.new.disk).holds in
    both_moments c.args.self.now c.self.inside.gate gate c.args.body.now _ (sized _ _ bytes) _ _ _ _ c.write_synced.ensures.span records (omega (arith, c.requires.size)) c.requires.last tells of
    _ _ c.write_synced-2.ensures.span (subst P bytes (c.in_ok-write_synced.ensures.written tells)) settled (c.in_ok-write_synced.ensures.settled tells)

pub returns-in_err-write_synced-2-clause-span : goal.returns-in_err-write_synced-2-clause-span
returns-in_err-write_synced-2-clause-span g c =
    let gate : c.args.self.now.gate ≡ c.self.inside.gate = ap (λ (x : Extent). x.gate) (sym c.self.view_is) in
    let bytes = behind_gate c.args.body.now c.deref.result.now (c.deref.ensures.value ∙ c.in_ok-bytes.ensures) in
    both_span c.args.self.now c.self.inside.gate gate c.args.body.now _ (sized _ _ bytes) _ _ _ _ c.write_synced.ensures.span _ _ c.write_synced.ensures.drawn_from c.write_synced-2.ensures.drawn_from c.write_synced-2.ensures.span

pub returns-clause-added : goal.returns-clause-added
returns-clause-added g c tells records of =
    let gate : c.args.self.now.gate ≡ c.self.inside.gate = ap (λ (x : Extent). x.gate) (sym c.self.view_is) in
    let bytes = behind_gate c.args.body.now c.deref.result.now (c.deref.ensures.value ∙ c.in_ok-bytes.ensures) in
    let still = subst IsTrue (sym c.write_synced.ensures.span.tells) tells in
    let P : List ℕ → Type 0 = λ b. Holds (c.self.inside.gate + 1) b (g.D.Disk.disk c.args.disk.now).holds (g.D.Disk.disk c.write_synced.new.disk).holds in
    let now = added c.args.self.now c.self.inside.gate gate c.args.body.now _ (sized _ _ bytes) _ _ _ _ c.write_synced.ensures.span records (omega (arith, c.requires.size)) c.requires.last tells of
    _ _ c.write_synced-2.ensures.span (subst P bytes (c.in_ok-write_synced.ensures.written tells)) (c.in_ok-write_synced-2.ensures.written still) in
    let at : ℕ → Extent = λ k. record { base = c.self.inside.base; gate = k; first_len = c.self.inside.first_len } in
    let moved : c.self.inside.gate + 9 + length c.args.body.now ≡ c.self.inside.gate + (9 + length c.args.body.now) = omega arith in
    let Q : Extent → Type 0 = λ e. IsLogOf e (records ++ c.args.body.now ∷ []) (g.D.Disk.disk c.write_synced-2.new.disk).holds in
    subst Q (ap (λ (e : Extent). grown e (length c.args.body.now)) (sym c.self.view_is) ∙ ap at moved) now

pub returns-clause-any_moment : goal.returns-clause-any_moment
returns-clause-any_moment g c tells settled records of =
    let gate : c.args.self.now.gate ≡ c.self.inside.gate = ap (λ (x : Extent). x.gate) (sym c.self.view_is) in
    let bytes = behind_gate c.args.body.now c.deref.result.now (c.deref.ensures.value ∙ c.in_ok-bytes.ensures) in
    let P : List ℕ → Type 0 = λ b. Holds (c.self.inside.gate + 1) b (g.D.Disk.disk c.args.disk.now).holds (g.D.Disk.disk c.write_synced.new.disk).holds in
    both_moments c.args.self.now c.self.inside.gate gate c.args.body.now _ (sized _ _ bytes) _ _ _ _ c.write_synced.ensures.span records (omega (arith, c.requires.size)) c.requires.last tells of
    _ _ c.write_synced-2.ensures.span (subst P bytes (c.in_ok-write_synced.ensures.written tells)) settled (c.in_ok-write_synced.ensures.settled tells)

pub returns-clause-span : goal.returns-clause-span
returns-clause-span g c =
    let gate : c.args.self.now.gate ≡ c.self.inside.gate = ap (λ (x : Extent). x.gate) (sym c.self.view_is) in
    let bytes = behind_gate c.args.body.now c.deref.result.now (c.deref.ensures.value ∙ c.in_ok-bytes.ensures) in
    both_span c.args.self.now c.self.inside.gate gate c.args.body.now _ (sized _ _ bytes) _ _ _ _ c.write_synced.ensures.span _ _ c.write_synced.ensures.drawn_from c.write_synced-2.ensures.drawn_from c.write_synced-2.ensures.span

pub returns-in_err-write_synced-clause-afterwards : goal.returns-in_err-write_synced-clause-afterwards
returns-in_err-write_synced-clause-afterwards g c tells records of =
    let gate : c.args.self.now.gate ≡ c.self.inside.gate = ap (λ (x : Extent). x.gate) (sym c.self.view_is) in
    let bytes = behind_gate c.args.body.now c.deref.result.now (c.deref.ensures.value ∙ c.in_ok-bytes.ensures) in
    first_holds c.args.self.now c.self.inside.gate gate c.args.body.now _ (sized _ _ bytes) _ _ _ _ c.write_synced.ensures.span records (omega (arith, c.requires.size)) c.requires.last tells of

pub returns-in_err-write_synced-2-clause-afterwards : goal.returns-in_err-write_synced-2-clause-afterwards
returns-in_err-write_synced-2-clause-afterwards g c tells records of =
    let gate : c.args.self.now.gate ≡ c.self.inside.gate = ap (λ (x : Extent). x.gate) (sym c.self.view_is) in
    let bytes = behind_gate c.args.body.now c.deref.result.now (c.deref.ensures.value ∙ c.in_ok-bytes.ensures) in
    let P : List ℕ → Type 0 = λ b. Holds (c.self.inside.gate + 1) b (g.D.Disk.disk c.args.disk.now).holds (g.D.Disk.disk c.write_synced.new.disk).holds in
    both_hold c.args.self.now c.self.inside.gate gate c.args.body.now _ (sized _ _ bytes) _ _ _ _ c.write_synced.ensures.span records (omega (arith, c.requires.size)) c.requires.last tells of
    _ _ c.write_synced-2.ensures.span (subst P bytes (c.in_ok-write_synced.ensures.written tells))

pub returns-clause-afterwards : goal.returns-clause-afterwards
returns-clause-afterwards g c tells records of =
    let gate : c.args.self.now.gate ≡ c.self.inside.gate = ap (λ (x : Extent). x.gate) (sym c.self.view_is) in
    let bytes = behind_gate c.args.body.now c.deref.result.now (c.deref.ensures.value ∙ c.in_ok-bytes.ensures) in
    let P : List ℕ → Type 0 = λ b. Holds (c.self.inside.gate + 1) b (g.D.Disk.disk c.args.disk.now).holds (g.D.Disk.disk c.write_synced.new.disk).holds in
    both_hold c.args.self.now c.self.inside.gate gate c.args.body.now _ (sized _ _ bytes) _ _ _ _ c.write_synced.ensures.span records (omega (arith, c.requires.size)) c.requires.last tells of
    _ _ c.write_synced-2.ensures.span (subst P bytes (c.in_ok-write_synced.ensures.written tells))
