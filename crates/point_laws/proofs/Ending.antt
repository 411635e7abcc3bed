-- Operations with their points can be brought to an end.
use Rattle.std.proofs.Common.{List, [], ◌∷◌, Option, Some, None, refl, sym, ◌∙◌, ap, append-nil}
use Rattle.std.specs.Prelude.{Ok, Err}
use Rattle.grid_model.specs.Bounds.{deepest}
use Rattle.grid_model.specs.Names.{Text}
use Rattle.grid_model.specs.RuleText.{Rule}
use Rattle.grid_model.specs.Refusing.{Or}
use Rattle.grid_model.specs.Meanings.{Meaning, ◌>>=◌}
use Rattle.grid_model.specs.Deeds.{Act, changes, deed, by_mark}
use Rattle.grid_model.specs.Operations.Table.{row}
use Rattle.grid_model.specs.Doing.{Course, Did, did_fail, did_well, do_act, do_operation, taking, where_mark_fits, with_result}
use Rattle.grid_model.specs.Chains.{Named, call_rule}
use Rattle.grid_model.specs.Points.{Point, post_name}
use Rattle.grid_model.specs.Sessions.{State}
use Rattle.grid_model.specs.QueryRows.{query_rows}
use Rattle.grid_model.specs.Working.{Done, Worked, after_post, after_pre, after_work, answered, done, end_of, failure_of, refused, run_point, running, sent_by}
use Rattle.grid_model.specs.Working.{words_of, worked}
use Rattle.grid_model.specs.declared.calls.Call.{Call}
use Rattle.grid_model.specs.declared.marks.Mark.{Mark}
use Rattle.grid_model.specs.declared.marks.Mark.TheVariants.{Ran}
use Rattle.grid_model.specs.declared.replies.End.TheVariants as end
use Rattle.grid_model.specs.declared.refusal.Failure.{Failure}
use Rattle.grid_model.specs.declared.refusal.Failure.TheVariants.{Refused}
use Rattle.chain_laws.proofs.Beginnings.{Ends, did_with, ends_at_once, ends_mapped, ends_of, ends_then, named_with, with_marks}
use Rattle.chain_laws.proofs.Chains.{begins_within}
use Rattle.chain_laws.proofs.Recoveries.{ran_fits_any}
use Rattle.point_laws.specs.Works.{AfterWorkEnds, DoneEnds, PreEnds, Work, WorkEnds, operation, query, work_of}

-- ---- the marks that are left

abbrev worked_with : List Mark → Worked → Worked
worked_with marks w = record w { state = with_marks marks w.state }

abbrev done_with : List Mark → Done → Done
done_with marks d = record d { left = marks }

done_ends : (does : List Mark → Meaning Done) → Ends done_with does → DoneEnds does
done_ends does h =
    record { rest = h.marks; ran = h.ran; d = done_with [] h.to; gives_so = ap does (sym (append-nil h.marks)) ∙ h.ends []; all = refl }

-- ---- points and the operation

point_ends : (rules : List Rule) (p : Option Point) (name : Point → Text) (s : Course) → Ends did_with (λ marks. run_point rules p name (with_marks marks s))
point_ends rules None name s = ends_at_once did_with (λ marks. run_point rules None name (with_marks marks s)) (did_well s) (λ later. refl)
point_ends rules (Some p) name s =
    ends_mapped named_with did_with (λ marks. call_rule rules p.env (name p) [] (with_marks marks s))
    (λ (n : Named). record { state = n.state; failure = failure_of n.outcome }) (λ marks n. refl)
    (ends_of named_with p.env.user (λ marks. call_rule rules p.env (name p) [] (with_marks marks s))
    (begins_within deepest rules p.env (name p) [] s))

-- a deed ends behind the mark that it ran
act_ends : (c : Call) (s : Course) (a : Or Act) → Ends did_with (λ marks. do_act c (with_marks marks s) a)
act_ends c s (Err r) = ends_at_once did_with (λ marks. do_act c (with_marks marks s) (Err r)) (did_fail s (Refused r)) (λ later. refl)
act_ends c s (Ok (changes g)) =
    ends_at_once did_with (λ marks. do_act c (with_marks marks s) (Ok (changes g))) (did_well (record s { grid = g })) (λ later. refl)
act_ends c s (Ok (deed d)) = record {
  marks = Ran 0 0 [] ∷ [];
  ran = (refl, tt);
  to = with_result (taking s (Ran 0 0 []) []) (by_mark d (Ran 0 0 []));
  ends = λ later. ap (λ b. where_mark_fits b (with_result (taking s (Ran 0 0 []) later) (by_mark d (Ran 0 0 [])))) (ran_fits_any d);
}

work_ends_so : (user : Text) (w : Work) (s : Course) → Ends worked_with (λ marks. work_of user w (with_marks marks s))
work_ends_so user (operation op) s =
    ends_mapped did_with worked_with (λ marks. do_operation (running op) user op (with_marks marks s))
    (λ (d : Did). record { state = d.state; failure = d.failure; words = words_of s.grid user op; rows = []; sent = sent_by s user op })
    (λ marks d. refl) (act_ends (running op) s (row s.grid user op))
work_ends_so user (query (Err r)) s =
    ends_at_once worked_with (λ marks. work_of user (query (Err r)) (with_marks marks s)) (refused s r) (λ later. refl)
work_ends_so user (query (Ok q)) s =
    ends_at_once worked_with (λ marks. work_of user (query (Ok q)) (with_marks marks s)) (worked s (query_rows s.grid user q)) (λ later. refl)

-- ---- what is still to do

module _ (at : State) (p : Option Point) where
  after_ends : (w : Worked) (f : Option Failure) → Ends done_with (λ marks. after_work at p (worked_with marks (record w { failure = f })))
  after_ends w (Some f) =
      ends_at_once done_with (λ marks. after_work at p (worked_with marks (record w { failure = Some f })))
      (done at w.state [] [] w.sent (end_of f)) (λ later. refl)
  after_ends w None =
      ends_mapped did_with done_with (λ marks. run_point at.rules p post_name (with_marks marks w.state)) (after_post at (record w { failure = None }))
      (λ marks d. refl) (point_ends at.rules p post_name w.state)

  work_then : (user : Text) (w : Work) (s : Course) → Ends done_with (λ marks. work_of user w (with_marks marks s) >>= after_work at p)
  work_then user w s =
      ends_then worked_with done_with (λ marks. work_of user w (with_marks marks s)) (after_work at p) (work_ends_so user w s)
      (λ x. after_ends x x.failure)

  pre_then : (user : Text) (w : Work) (s : Course) (f : Option Failure)
      → Ends done_with (λ marks. after_pre at p (work_of user w) (did_with marks (record { state = s; failure = f })))
  pre_then user w s (Some f) =
      ends_at_once done_with (λ marks. after_pre at p (work_of user w) (did_with marks (record { state = s; failure = Some f })))
      (answered at s (end.PreFailed f)) (λ later. refl)
  pre_then user w s None = work_then user w s

pub after_work_ends : AfterWorkEnds
after_work_ends at p w = done_ends (λ marks. after_work at p (worked_with marks w)) (after_ends at p w w.failure)

pub work_ends : WorkEnds
work_ends at p user w s = done_ends (λ marks. work_of user w (with_marks marks s) >>= after_work at p) (work_then at p user w s)

pub pre_ends : PreEnds
pre_ends at p user w d = done_ends (λ marks. after_pre at p (work_of user w) (did_with marks d)) (pre_then at p user w d.state d.failure)
