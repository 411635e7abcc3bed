use Rattle.std.proofs.Common.{◌≡◌, false, refl, sym, subst, arith}
use Rattle.std.proofs.lemmas.Bool.{false≢true, both_ways}
use Rattle.grid_model.specs.Names.{is_name, SpellsName}
use Rattle.grid_model.specs.Places.{IsRefusedAt}
use Rattle.grid_model.proofs.NameSpelling.{begun-computed, is_name-longer, is_name-reserved, is_name-whole, IsRefusedAt-begun}
use Rattle.grid_model.proofs.name.check_name.Goals as goal
use Rattle.grid_model.proofs.name.check_name.Goals.{Joined-then-begun-bytes, then-begun-bytes-via-then-begun-bytes, then-begun-bytes-via-else-begun-bytes+then-is_reserved}

refused : (c : Joined-then-begun-bytes) → is_name c.args.bytes.now ≡ false
refused c =
    let is = begun-computed c.args.bytes.now _ _ _ c.first_odd_byte.ensures c.unwrap_or.ensures c.min-begun.ensures in
    elim c.then-begun-bytes.branch [
      | then-begun-bytes-via-then-begun-bytes w ↦ is_name-longer c.args.bytes.now (omega (arith, is, w.if-begun-bytes.true))
      | then-begun-bytes-via-else-begun-bytes+then-is_reserved w ↦ is_name-reserved c.args.bytes.now (w.is_reserved.ensures.0 w.if-is_reserved.true)
    ]

pub returns-then-begun-bytes-clause-name : goal.returns-then-begun-bytes-clause-name
returns-then-begun-bytes-clause-name c = (λ e. absurd (false≢true e), λ h. absurd (both_ways (is_name c.args.bytes.now) (refused c) h))

pub returns-then-begun-bytes-clause-place : goal.returns-then-begun-bytes-clause-place
returns-then-begun-bytes-clause-place c =
    let is = begun-computed c.args.bytes.now _ _ _ c.first_odd_byte.ensures c.unwrap_or.ensures c.min-begun.ensures in
    subst (IsRefusedAt SpellsName c.args.bytes.now) (sym is) (IsRefusedAt-begun c.args.bytes.now (refused c))

pub returns-clause-name : goal.returns-clause-name
returns-clause-name c =
    let is = begun-computed c.args.bytes.now _ _ _ c.first_odd_byte.ensures c.unwrap_or.ensures c.min-begun.ensures in
    let name = is_name-whole c.args.bytes.now (omega (arith, is, c.if-begun-bytes.false)) (λ r. both_ways _ c.if-is_reserved.false (c.is_reserved.ensures.1 r)) in
    (λ _. name, λ _. refl)
