-- What operations with their points send, and behind which marks.
use Rattle.std.proofs.Common.{◌≡◌, ◌<◌, List, [], ◌∷◌, ◌++◌, Option, Some, None, length, refl, sym, ap, ◌∙◌, append-nil, length-append, arith}
use Rattle.std.specs.Prelude.{Ok, Err, decimal}
use Rattle.grid_model.specs.Names.{Path, Text}
use Rattle.grid_model.specs.Refusing.{Or, ◌>>=◌}
use Rattle.grid_model.specs.Meanings.{mapped}
use Rattle.grid_model.specs.Deeds.{Deed, by_mark, deed, fits, sending}
use Rattle.grid_model.specs.Operations.Replicas.{Source, got}
use Rattle.grid_model.specs.Operations.Table.{Operation, get as fetch}
use Rattle.grid_model.specs.Doing.{Course, Did, do_act, do_operation, take_mark, taking, where_mark_fits, with_result}
use Rattle.grid_model.specs.Points.{Point, post_name}
use Rattle.grid_model.specs.Sessions.{State}
use Rattle.grid_model.specs.Working.{Done, Sent, Worked, after_post, after_pre, after_work, run_point, running, sent_by, words_of, work}
use Rattle.grid_model.specs.declared.calls.Call.{Call}
use Rattle.grid_model.specs.declared.marks.Mark.{Mark}
use Rattle.grid_model.specs.declared.refusal.Failure.{Failure}
use Rattle.chain_laws.proofs.Such.{GivesSuch, such_all, such_given, such_next}
use Rattle.point_laws.specs.Works.{AfterWorkSends, Work, WorksSendBehind, operation, query, work_of}
use Rattle.point_laws.proofs.InOrder.{DoneTakes, after_pre_takes}

-- ---- behind the operation

module _ (at : State) (p : Option Point) (w : Worked) where
  abbrev SendsAs : Done → Type 0
  SendsAs d = d.sent ≡ w.sent

  after_sends : (f : Option Failure) → GivesSuch SendsAs (after_work at p (record w { failure = f }))
  after_sends (Some f) = refl
  after_sends None = such_all SendsAs (after_post at (record w { failure = None })) (run_point at.rules p post_name w.state) (λ d. refl)

pub after_work_sends : AfterWorkSends
after_work_sends at p w d is = such_given (SendsAs at p w) (after_work at p w) d (after_sends at p w w.failure) is

-- ---- the operation

module _ (s : Course) where
  -- it sends behind the marks that were taken, and took one
  abbrev SendsHere : Option Sent → Type 0
  SendsHere o = (sent : Sent) → o ≡ Some sent → (sent.before ≡ length s.taken) × (length s.taken < length (s.taken ++ s.marks))

  abbrev WorkSends : Worked → Type 0
  WorkSends w = SendsHere w.sent

  abbrev DoneSends : Done → Type 0
  DoneSends d = SendsHere d.sent

  none_sent : SendsHere None
  none_sent sent is = absurd (cc is)

  module _ (p : Path) (asked : Option Text) (user : Text) where
    -- what it does by what was found
    abbrev sent_of : Or Source → Option Sent
    sent_of r = elim r [ Ok from ↦ Some (record { size = from.object.size; digest = from.object.digest; before = length s.taken }) | Err e ↦ None ]

    abbrev worked_as : Or Source → Did → Worked
    worked_as r d = record {
      state = d.state;
      failure = d.failure;
      words = elim r [ Ok from ↦ decimal from.number ∷ [] | Err e ↦ [] ];
      rows = [];
      sent = sent_of r;
    }

    abbrev its_deed : Source → Deed
    its_deed from = record { size = from.object.size; digest = from.object.digest; ran = λ word now _. s.grid; touch = sending from.slot }

    by_marks : (c : Call) (from : Source) (ms : List Mark)
        → GivesSuch (λ (w : Worked). (sent : Sent) → w.sent ≡ Some sent → (sent.before ≡ length s.taken) × (length s.taken < length (s.taken ++ ms)))
        (mapped (worked_as (Ok from)) (take_mark c s (its_deed from) ms))
    by_marks c from [] = tt
    by_marks c from (m ∷ rest) =
        such_all (λ (w : Worked). (sent : Sent) → w.sent ≡ Some sent → (sent.before ≡ length s.taken) × (length s.taken < length (s.taken ++ m ∷ rest)))
        (worked_as (Ok from)) (where_mark_fits (fits (its_deed from) m) (with_result (taking s m rest) (by_mark (its_deed from) m)))
        (λ d sent is. (
          let its : Sent = record { size = from.object.size; digest = from.object.digest; before = length s.taken } in
              let same : its ≡ sent = cc is in
              sym (ap (λ (t : Sent). t.before) same),
          omega (arith, length-append s.taken (m ∷ rest)),
        ))

    by_source : (c : Call) (r : Or Source)
        → GivesSuch WorkSends (mapped (worked_as r) (do_act c s (r >>= (λ from. Ok (deed (its_deed from))))))
    by_source c (Err e) = none_sent
    by_source c (Ok from) = by_marks c from s.marks

  op_sends : (c : Call) (user : Text) (op : Operation) → GivesSuch WorkSends (work c user op s)
  op_sends c user (fetch p asked) = by_source p asked user c (got s.grid user p asked)
  op_sends c user other =
      such_all WorkSends
      (λ (d : Did). record { state = d.state; failure = d.failure; words = words_of s.grid user other; rows = []; sent = sent_by s user other })
      (do_operation c user other s) (λ d. none_sent)

  work_sends : (user : Text) (w : Work) → GivesSuch WorkSends (work_of user w s)
  work_sends user (operation op) = op_sends (running op) user op
  work_sends user (query (Err r)) = none_sent
  work_sends user (query (Ok q)) = none_sent

  -- ---- with the rules of a point

  work_then : (at : State) (p : Option Point) (x : Worked) → WorkSends x → (f : Option Failure)
      → GivesSuch DoneSends (after_work at p (record x { failure = f }))
  work_then at p x h (Some f) = h
  work_then at p x h None =
      such_all DoneSends (after_post at (record x { failure = None })) (run_point at.rules p post_name x.state) (λ d. h)

  module _ (at : State) (p : Option Point) (user : Text) (w : Work) where
    pre_sends : (f : Option Failure) → GivesSuch DoneSends (after_pre at p (work_of user w) (record { state = s; failure = f }))
    pre_sends (Some f) = none_sent
    pre_sends None =
        such_next WorkSends DoneSends (after_work at p) (work_of user w s) (work_sends user w)
        (λ x k. work_then at p x k x.failure)

pub works_send_behind : WorksSendBehind
works_send_behind at p user w before d is left sent its =
    let s : Course = before.state in
    let sends = such_given (DoneSends s) (after_pre at p (work_of user w) before) d (pre_sends s at p user w before.failure) is sent its in
    let all : List Mark = s.taken ++ s.marks in
    let takes = such_given (DoneTakes all) (after_pre at p (work_of user w) before) d (after_pre_takes all at p user w s before.failure refl) is in
    let same : d.reply.marks ≡ all = sym (append-nil d.reply.marks) ∙ ap (λ (ms : List Mark). d.reply.marks ++ ms) (sym left) ∙ takes in
    (omega (arith, sends.0), omega (arith, sends.0, sends.1, ap (λ (ms : List Mark). length ms) same))
