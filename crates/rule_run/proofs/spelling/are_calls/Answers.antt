use Rattle.std.proofs.Common.{Some, sym, ap, ◌∙◌}
use Rattle.std.proofs.lemmas.Option.{slice_get-get_or}
use Rattle.grid_model.specs.Deltas.{all_fit, call as call_parts}
use Rattle.grid_model.specs.declared.calls.Call.{Call}
use Rattle.rule_run.proofs.Spelled.{one_more}
use Rattle.rule_run.proofs.spelling.are_calls.Goals as goal

pub loop-call-preserved : goal.loop-call-preserved
loop-call-preserved c =
    let all = c.args.calls.now in
    let at = slice_get-get_or all c.loop-call.call-index c.call-item.result c.loop-call-test.true ∙ ap Some (sym c.call-item.is) in
    one_more (λ (k : Call). all_fit (call_parts k)) all c.loop-call.call-index c.call-item.result at c.loop-call.invariant
    (c.is_call.ensures c.if-not-is_call.false)
