use Rattle.std.proofs.Common.{Ok, Err}
use Rattle.grid_model.specs.Printing.{print_tree_cause}
use Rattle.grid_model.specs.declared.refusal.Refusal.TheVariants as refusal
use Rattle.grid_model.specs.declared.refusal.Failure.TheVariants as failure
use Rattle.reply_reader.specs.Fields.{IsPrinted}
use Rattle.reply_reader.proofs.Readings.{reads_image}
use Rattle.reply_reader.proofs.failures.bad_tree.Goals as goal

pub returns-in-Ok : goal.returns-in-Ok
returns-in-Ok c = reads_image (λ cause. failure.Refused (refusal.BadTree cause)) (IsPrinted print_tree_cause 0x0A) c.args.text.now c.args.at (Ok (c.in-Ok.cause, c.in-Ok.next)) c.in-Ok.ensures

pub returns-in-Err : goal.returns-in-Err
returns-in-Err c = reads_image (λ cause. failure.Refused (refusal.BadTree cause)) (IsPrinted print_tree_cause 0x0A) c.args.text.now c.args.at (Err c.in-Err.error) c.in-Err.ensures
