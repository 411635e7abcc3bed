use Rattle.std.proofs.Common.{◌≡◌, ◌<◌, ◌+◌, List, Vec, Result, slice_index_or, slice_set, ap, ◌∙◌, sym, arith}
use Rattle.std.specs.Prelude.{insert, is_ok, IsOk, if◌then◌else◌, vec_len, vec_capacity}
use Rattle.sorted_list.proofs.Edits.{cut_made}
use Rattle.sorted_list.proofs.blocks.cut.Goals as goal

written : {E K : Type 0} (r : Result (Unit {0}) E) (a b : List K) → IsOk r → (if is_ok r then a else b) ≡ a
written r a b ok = ap (λ t. if t then a else b) ok

pub returns-clause-cut : goal.returns-clause-cut
returns-clause-cut g c =
    cut_made c.index_mut-first.result.now c.split_off.new.self c.in_ok-back.back c.args.blocks.now.items c.insert.new.self.items c.args.block c.args.middle (c.args.block + 1) c.requires.within
    (c.index_mut-first.ensures.value ∙ ap (λ l. slice_index_or l c.args.block c.index_mut-first.result.now) c.reserve.ensures.items)
    c.in_ok-back.ensures.items c.in_ok-back.ensures.tail (omega arith)
    (c.insert.ensures.items ∙ written c.insert.result _ _ (c.insert.ensures.succeeds (omega (arith, c.in_ok-reserve.ensures.ok)))
    ∙ ap (λ l. insert (slice_set l c.args.block c.split_off.new.self) (c.args.block + 1) c.in_ok-back.back) c.reserve.ensures.items)
