use Rattle.std.proofs.Common.{Ok, Err, sym, subst}
use Rattle.grid_model.specs.declared.refusal.Failure.TheVariants as failure
use Rattle.reply_fields.specs.Fronts.{IsRead}
use Rattle.reply_reader.specs.Failures.{IsBehind, refusal_numbered, most_u64}
use Rattle.reply_reader.specs.Fields.{IsField}
use Rattle.reply_reader.specs.declared.heads.Head.TheVariants as head
use Rattle.reply_reader.proofs.Readings.{reads_image}
use Rattle.reply_reader.proofs.failures.numbered_refusal.Goals as goal

pub returns-in-Ok : goal.returns-in-Ok
returns-in-Ok c =
    subst (λ x. IsRead (IsBehind (head.Numbered c.args.kind)) c.args.text.now c.args.at (failure.Refused x) c.in-Ok.next) (sym c.with_number.ensures)
    (reads_image (λ n. failure.Refused (refusal_numbered c.args.kind n)) (IsField most_u64 0x0A) c.args.text.now c.args.at (Ok (c.in-Ok.number, c.in-Ok.next)) c.in-Ok.ensures)

pub returns-in-Err : goal.returns-in-Err
returns-in-Err c = reads_image (λ n. failure.Refused (refusal_numbered c.args.kind n)) (IsField most_u64 0x0A) c.args.text.now c.args.at (Err c.in-Err.error) c.in-Err.ensures
