use Rattle.std.proofs.Common.{rules, ◌≡◌, sym, ap, subst, ◌∙◌, refl, arith, ℕ, ◌+◌, drop}
use Rattle.std.specs.Prelude.{suc}
use Rattle.std.specs.Cmp.Lexicographic.{slice_cmp}
use Rattle.std.specs.Ordering.{nat_cmp, ordering_then}
use Rattle.grid_tables.proofs.TextOrders.{DecidesFrom, decides, defers, turn, over}
use Rattle.grid_tables.proofs.texts.text_order.Goals as goal

pub loop-i-init : goal.loop-i-init
loop-i-init c = (c.min-both.ensures, search rules, refl)

pub returns-then-is_ne : goal.returns-then-is_ne
returns-then-is_ne c =
    let xs = c.args.one.now in
    let ys = c.args.other.now in
    let i : ℕ = c.loop-i.i in
    let inv = c.loop-i.invariant in
    let m = inv.0 in
    let t = c.loop-i-test.true in
    let rest = slice_cmp nat_cmp (drop (suc i) xs) (drop (suc i) ys) in
    decides c.cmp-order.result rest (sym c.is_ne.ensures ∙ c.if-is_ne.true) ∙ ap (λ o. ordering_then o rest) c.cmp-order.ensures
    ∙ turn i xs ys (omega arith) (omega arith) ∙ inv.2

pub loop-i-preserved : goal.loop-i-preserved
loop-i-preserved c =
    let xs = c.args.one.now in
    let ys = c.args.other.now in
    let i : ℕ = c.loop-i.i in
    let inv = c.loop-i.invariant in
    let m = inv.0 in
    let t = c.loop-i-test.true in
    let next : suc i ≡ i + 1 = omega arith in
    let rest = slice_cmp nat_cmp (drop (suc i) xs) (drop (suc i) ys) in (
      m,
      omega arith,
      subst (λ n. DecidesFrom n xs ys) next (defers c.cmp-order.result rest (sym c.is_ne.ensures ∙ c.if-is_ne.false) ∙ ap (λ o. ordering_then o rest) c.cmp-order.ensures
          ∙ turn i xs ys (omega arith) (omega arith) ∙ inv.2),
    )

pub returns : goal.returns
returns c =
    let inv = c.loop-i.invariant in
    let m = inv.0 in
    let p = inv.1 in
    let q = c.loop-i-test.false in
    over c.loop-i.i c.args.one.now c.args.other.now c.cmp.result (omega arith) c.cmp.ensures ∙ inv.2
