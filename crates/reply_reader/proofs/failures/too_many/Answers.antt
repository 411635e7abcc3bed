use Rattle.std.proofs.Common.{Ok, Err}
use Rattle.grid_model.specs.Printing.{print_what}
use Rattle.grid_model.specs.declared.refusal.Refusal.TheVariants as refusal
use Rattle.grid_model.specs.declared.refusal.Failure.TheVariants as failure
use Rattle.reply_reader.specs.Failures.{most_u64}
use Rattle.reply_reader.specs.Fields.{IsField, IsPrinted}
use Rattle.reply_reader.proofs.Readings.{first_unread, then_image}
use Rattle.reply_reader.proofs.CauseReading.{IsCode-what}
use Rattle.reply_reader.proofs.FailureReading.{Limit, begins_limit}
use Rattle.reply_reader.proofs.failures.too_many.Goals as goal

pub returns-in-Err : goal.returns-in-Err
returns-in-Err c = first_unread (IsPrinted print_what 0x20) Limit begins_limit c.args.text.now c.args.at c.in-Err.error c.in-Err.ensures

pub returns-in-Ok-number_field : goal.returns-in-Ok-number_field
returns-in-Ok-number_field c = then_image (IsPrinted print_what 0x20) (λ _. (IsField most_u64 0x0A)) (λ x y. failure.Refused (refusal.TooMany x y)) (IsCode-what) c.args.text.now c.args.at c.in-Ok.read.1 c.in-Ok.read.0 c.in-Ok.ensures (Ok (c.in-Ok-number_field.limit, c.in-Ok-number_field.last)) c.in-Ok-number_field.ensures

pub returns-in-Err-number_field : goal.returns-in-Err-number_field
returns-in-Err-number_field c = then_image (IsPrinted print_what 0x20) (λ _. (IsField most_u64 0x0A)) (λ x y. failure.Refused (refusal.TooMany x y)) (IsCode-what) c.args.text.now c.args.at c.in-Ok.read.1 c.in-Ok.read.0 c.in-Ok.ensures (Err c.in-Err-number_field.error) c.in-Err-number_field.ensures
