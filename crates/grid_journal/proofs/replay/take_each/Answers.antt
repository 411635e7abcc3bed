use Rattle.std.proofs.Common.{inl, inr, sym, ap, ◌∙◌, map-id, arith, rules}
use Rattle.std.specs.Result.{is_err}
use Rattle.std.proofs.lemmas.Iterator.Adapters.{YieldsList-from_vec}
use Rattle.std.proofs.lemmas.Iterator.Consumers.{YieldsList-so_far, YieldsList-turn}
use Rattle.std.proofs.lemmas.List.{length_push}
use Rattle.grid_journal.proofs.TakingLemmas.{takes_more, refuses_next}
use Rattle.grid_journal.proofs.replay.take_each.Goals as goal

pub loop-delta-preserved : goal.loop-delta-preserved
loop-delta-preserved c = record {
  count_is = omega (arith, length_push c.loop-delta.yielded c.in-Some.delta, c.loop-delta.invariant.count_is);
  taken = takes_more c.loop-delta.yielded c.in-Some.delta c.args.tables.now c.loop-delta.tables c.apply.new.self c.loop-delta.invariant.taken (c.in-Ok.ensures.kept c.if-not-is_kept.false) c.in-Ok-apply.ensures.applied;
}

pub returns-then-not-is_kept : goal.returns-then-not-is_kept
returns-then-not-is_kept c =
    let all = YieldsList-from_vec {s = c.into_iter-delta-iterator.result} c.args.deltas (search rules) (search rules) in
    let front = YieldsList-so_far all c.loop-delta.yielded c.loop-delta.delta-iterator c.loop-delta.yielded_by in
    let turn = YieldsList-turn all c.loop-delta.yielded c.loop-delta.delta-iterator c.loop-delta.yielded_by c.next.result c.next.new.self c.in-Some.delta c.in-Some.is c.next.ensures.steps in
    refuses_next c.args.deltas c.loop-delta.yielded c.in-Some.delta c.loop-delta.count c.args.tables.now c.loop-delta.tables (sym (map-id c.loop-delta.yielded) ∙ front) turn
    c.loop-delta.invariant.count_is c.loop-delta.invariant.taken (inl (c.in-Ok.ensures.others c.if-not-is_kept.true))

pub returns-in-Err-BadDelta : goal.returns-in-Err-BadDelta
returns-in-Err-BadDelta c =
    let all = YieldsList-from_vec {s = c.into_iter-delta-iterator.result} c.args.deltas (search rules) (search rules) in
    let front = YieldsList-so_far all c.loop-delta.yielded c.loop-delta.delta-iterator c.loop-delta.yielded_by in
    let turn = YieldsList-turn all c.loop-delta.yielded c.loop-delta.delta-iterator c.loop-delta.yielded_by c.next.result c.next.new.self c.in-Some.delta c.in-Some.is c.next.ensures.steps in
    let refused = c.in-Err-BadDelta.ensures.refused c.in-Err-BadDelta.field-0-0 c.in-Err-BadDelta.field-0-is in
    refuses_next c.args.deltas c.loop-delta.yielded c.in-Some.delta c.loop-delta.count c.args.tables.now c.loop-delta.tables (sym (map-id c.loop-delta.yielded) ∙ front) turn
    c.loop-delta.invariant.count_is c.loop-delta.invariant.taken (inr (ap is_err refused))
