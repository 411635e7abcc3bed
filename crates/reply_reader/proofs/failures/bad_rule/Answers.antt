use Rattle.std.proofs.Common.{Ok, Err}
use Rattle.grid_model.specs.Printing.{print_rule_cause}
use Rattle.grid_model.specs.declared.refusal.Refusal.TheVariants as refusal
use Rattle.grid_model.specs.declared.refusal.Failure.TheVariants as failure
use Rattle.reply_reader.specs.Failures.{most_u64}
use Rattle.reply_reader.specs.Fields.{IsField, IsPrinted}
use Rattle.reply_reader.proofs.Readings.{first_unread, then_image}
use Rattle.reply_reader.proofs.FieldReading.{IsCode-field}
use Rattle.reply_reader.proofs.FailureReading.{Cause, begins_cause, mid_u64}
use Rattle.reply_reader.proofs.failures.bad_rule.Goals as goal

pub returns-in-Err : goal.returns-in-Err
returns-in-Err c = first_unread (IsField most_u64 0x20) Cause begins_cause c.args.text.now c.args.at c.in-Err.error c.in-Err.ensures

pub returns-in-Ok-rule_cause : goal.returns-in-Ok-rule_cause
returns-in-Ok-rule_cause c = then_image (IsField most_u64 0x20) (λ _. (IsPrinted print_rule_cause 0x0A)) (λ x y. failure.Refused (refusal.BadRule x y)) (IsCode-field most_u64 0x20 mid_u64) c.args.text.now c.args.at c.in-Ok.read.1 c.in-Ok.read.0 c.in-Ok.ensures (Ok (c.in-Ok-rule_cause.cause, c.in-Ok-rule_cause.last)) c.in-Ok-rule_cause.ensures

pub returns-in-Err-rule_cause : goal.returns-in-Err-rule_cause
returns-in-Err-rule_cause c = then_image (IsField most_u64 0x20) (λ _. (IsPrinted print_rule_cause 0x0A)) (λ x y. failure.Refused (refusal.BadRule x y)) (IsCode-field most_u64 0x20 mid_u64) c.args.text.now c.args.at c.in-Ok.read.1 c.in-Ok.read.0 c.in-Ok.ensures (Err c.in-Err-rule_cause.error) c.in-Err-rule_cause.ensures
