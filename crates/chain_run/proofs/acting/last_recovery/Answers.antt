use Rattle.std.proofs.Common.{◌<◌, ◌-◌, length, List, sym, ◌∙◌, subst, arith}
use Rattle.grid_model.specs.declared.calls.Call.{Call}
use Rattle.chain_run.proofs.Turning.{by_last}
use Rattle.chain_run.proofs.acting.last_recovery.Goals as goal

pub returns : goal.returns
returns c =
    let listed = c.as_slice-calls.ensures ∙ c.undo.ensures in
    let calls = c.as_slice-calls.result.now in
    let some : 0 < length calls = subst (λ (l : List Call). 0 < length l) (sym listed) c.requires in
    let last = by_last calls (length calls - 1) c.index-calls-calls.result (omega (arith, some)) c.index-calls-calls.is in
    (last.0, sym listed ∙ last.1)
