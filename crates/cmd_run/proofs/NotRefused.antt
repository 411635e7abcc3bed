-- Requests that are not refused at once: those that are answered ok.
use Rattle.std.proofs.Common.{◌≡◌, sym, ap, ◌∙◌}
use Rattle.grid_model.specs.Runs.{Request}
use Rattle.grid_model.specs.Sessions.{State}
use Rattle.grid_model.specs.Working.{Done, well}
use Rattle.grid_model.specs.declared.replies.End.TheVariants as end
use Rattle.grid_model.specs.declared.replies.Reply.{Reply}
use Rattle.cmd_run.specs.Obeys.{IsRefusedAtOnce, SaysOnly}
use Rattle.cmd_run.proofs.Operating.{same_done}

-- one that is answered ok
pub well_not_refused : (at : State) (request : Request) → SaysOnly at request well at → ¬ IsRefusedAtOnce at request
well_not_refused at request says r =
    let same : says.d ≡ r.d = same_done says.d r.d (sym says.does_so ∙ r.does_so) in
    let ended : says.d.reply.end ≡ well = ap (λ (x : Reply). x.end) says.reply_is in
    let refused : r.d.reply.end ≡ end.Refused r.why = ap (λ (x : Reply). x.end) r.reply_is in
    let both : well ≡ end.Refused r.why = sym ended ∙ ap (λ (d : Done). d.reply.end) same ∙ refused in
    absurd cc
