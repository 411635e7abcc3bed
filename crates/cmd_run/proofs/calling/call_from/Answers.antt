use Rattle.std.proofs.Common.{sym, subst, ◌∙◌}
use Rattle.grid_model.specs.Names.{Text}
use Rattle.grid_model.specs.Parsed.{call_of}
use Rattle.chain_core.specs.Seen.{plain_rules}
use Rattle.rule_parse.specs.RuleOrders.{ReadsCall}
use Rattle.cmd_run.proofs.CallTexts.{checked_bad, checked_good, exec_fits, read_bad, read_good, unchecked_of_grid, unread_of_grid}
use Rattle.cmd_run.proofs.calling.call_from.Goals as goal

pub returns-in-Err-clause-is : goal.returns-in-Err-clause-is
returns-in-Err-clause-is c = λ call reads.
    read_bad (plain_rules c.args.rules.now) c.as_slice.result.now c.read_call.result c.read_call.ensures.only c.read_call.ensures.refused c.in-Err.error
    c.unread.result c.in-Err.is c.unread.ensures call
    (subst (λ (t : Text). ReadsCall (plain_rules c.args.rules.now) t call) (sym c.as_slice.ensures) reads)

pub returns-in-Err-clause-of_grid : goal.returns-in-Err-clause-of_grid
returns-in-Err-clause-of_grid c = unread_of_grid c.in-Err.error c.unread.result c.unread.ensures

pub returns-in-Ok-check_call-clause-is : goal.returns-in-Ok-check_call-clause-is
returns-in-Ok-check_call-clause-is c = λ call reads.
    read_good (plain_rules c.args.rules.now) c.as_slice.result.now c.read_call.result c.read_call.ensures.only c.read_call.ensures.refused c.in-Ok.call
    c.in-Ok.is call
    (subst (λ (t : Text). ReadsCall (plain_rules c.args.rules.now) t call) (sym c.as_slice.ensures) reads)
    ∙ checked_good _ _ c.in-Ok-check_call.ensures.ok

pub returns-in-Ok-check_call-clause-fits : goal.returns-in-Ok-check_call-clause-fits
returns-in-Ok-check_call-clause-fits c = exec_fits _ _ c.in-Ok-check_call.ensures.ok

pub returns-in-Err-check_call-clause-is : goal.returns-in-Err-check_call-clause-is
returns-in-Err-check_call-clause-is c = λ call reads.
    checked_bad _ (call_of c.in-Ok.call) c.check_call.result c.in-Err-check_call.error c.unchecked.result c.in-Err-check_call.is c.unchecked.ensures
    c.check_call.ensures.bad call
    (read_good (plain_rules c.args.rules.now) c.as_slice.result.now c.read_call.result c.read_call.ensures.only c.read_call.ensures.refused c.in-Ok.call
    c.in-Ok.is call
    (subst (λ (t : Text). ReadsCall (plain_rules c.args.rules.now) t call) (sym c.as_slice.ensures) reads))

pub returns-in-Err-check_call-clause-of_grid : goal.returns-in-Err-check_call-clause-of_grid
returns-in-Err-check_call-clause-of_grid c = unchecked_of_grid c.in-Err-check_call.error c.unchecked.result c.unchecked.ensures
