use Rattle.std.proofs.Common.{IsTrue, take}
use Rattle.std.specs.List.{list_all}
use Rattle.grid_model.specs.Deltas.{all_fit, call as call_parts}
use Rattle.grid_model.specs.declared.calls.Call.{Call}
use Rattle.rule_run.proofs.spelling.are_calls.Given as goal

-- those so far
abbrev pub invariant-loop-call : goal.invariant-loop-call
invariant-loop-call l = IsTrue (list_all (λ (k : Call). all_fit (call_parts k)) (take l.call-index l.calls))
