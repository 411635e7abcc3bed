use Rattle.std.proofs.Common.{subst}
use Rattle.reply_fields.specs.Fronts.{ReadsFrom}
use Rattle.reply_reader.specs.Failures.{IsBehind}
use Rattle.reply_reader.proofs.FailureLines.{failure_unread, failure_then}
use Rattle.reply_reader.proofs.failures.failure.Goals as goal

pub returns-in-Ok : goal.returns-in-Ok
returns-in-Ok c =
    failure_then c.args.text.now c.args.at c.in-Ok.next c.in-Ok.index c.in-Ok.ensures c.behind_head.result
    (subst (λ h. ReadsFrom (IsBehind h) c.args.text.now c.in-Ok.next c.behind_head.result) c.head_at.ensures c.behind_head.ensures)

pub returns-in-Err : goal.returns-in-Err
returns-in-Err c = failure_unread c.args.text.now c.args.at c.in-Err.error c.in-Err.ensures
