-- With clean marks operations with their points end by the rows and by their steps.
use Rattle.std.proofs.Common.{◌≡◌, Bool, true, false, List, [], Option, Some, None, refl, subst}
use Rattle.std.specs.Prelude.{Ok, Err}
use Rattle.grid_model.specs.Bounds.{deepest}
use Rattle.grid_model.specs.Names.{Text}
use Rattle.grid_model.specs.RuleText.{Rule}
use Rattle.grid_model.specs.Operations.Table.{row}
use Rattle.grid_model.specs.Completing.{EndsByRows, IsOfStep}
use Rattle.grid_model.specs.Doing.{Course, Did, do_operation}
use Rattle.grid_model.specs.Chains.{Named, Outcome, call_rule, ended_well, failed, halted, none_applied}
use Rattle.grid_model.specs.Points.{Point, post_name, pre_name}
use Rattle.grid_model.specs.Sessions.{State}
use Rattle.grid_model.specs.Working.{Done, Worked, after_post, after_pre, after_work, begun, end_of, ending, failure_of, run_point, running}
use Rattle.grid_model.specs.Working.{sent_by, words_of}
use Rattle.grid_model.specs.declared.replies.End.{End}
use Rattle.grid_model.specs.declared.replies.End.TheVariants as end
use Rattle.grid_model.specs.declared.refusal.Failure.{Failure}
use Rattle.grid_model.specs.declared.refusal.Failure.TheVariants.{Refused, Code, NoRule, Depth, Spent, LongText, Stopped}
use Rattle.grid_model.proofs.CleanMarks.{Clean}
use Rattle.chain_laws.specs.ByRows.{OutcomeByRows}
use Rattle.chain_laws.proofs.ByRows.{AllGive, DidSo, FailureByRows, NamedSo, act_so, mapped_give, next_gives, within_so}
use Rattle.chain_laws.proofs.OfOperations.{of_row}
use Rattle.point_laws.specs.Works.{IsAskedSo, Work, WorksEndByRows, operation, point_at, query, runs_work, work_of}

abbrev WorkSo : Worked → Type 0
WorkSo w = Clean w.state × FailureByRows w.failure

abbrev DoneSo : Done → Type 0
DoneSo d = EndsByRows d.reply.end

-- ---- ends

-- what was not stopped ends as it would
unstopped : (s : Course) (e : End) → s.stopped ≡ false → EndsByRows e → EndsByRows (ending s e)
unstopped s e off h = by s.stopped off
  where
    by : (b : Bool) → b ≡ false → EndsByRows (elim b [ true ↦ end.Stopped | false ↦ e ])
    by true on = absurd cc
    by false on = h

failed_so : (f : Failure) → IsOfStep f → EndsByRows (end_of f)
failed_so (Refused r) h = h
failed_so (Code z) h = tt
failed_so NoRule h = tt
failed_so Depth h = tt
failed_so Spent h = tt
failed_so LongText h = tt
failed_so Stopped h = absurd h

outcome_so : (o : Outcome) → OutcomeByRows o → FailureByRows (failure_of o)
outcome_so ended_well h = tt
outcome_so (failed f) h = h
outcome_so (halted f) h = h
outcome_so none_applied h = tt

-- ---- points and the operation

point_so : (rules : List Rule) (p : Option Point) (name : Point → Text) (s : Course) → Clean s → AllGive DidSo (run_point rules p name s)
point_so rules None name s h = (h, tt)
point_so rules (Some p) name s h =
    mapped_give NamedSo DidSo (λ (n : Named). record { state = n.state; failure = failure_of n.outcome }) (call_rule rules p.env (name p) [] s)
    (within_so deepest rules p.env (name p) [] s h) (λ n k. (k.0, outcome_so n.outcome k.1))

work_so : (user : Text) (w : Work) (s : Course) → IsAskedSo w → Clean s → AllGive WorkSo (work_of user w s)
work_so user (operation op) s asked h =
    mapped_give DidSo WorkSo
    (λ (d : Did). record { state = d.state; failure = d.failure; words = words_of s.grid user op; rows = []; sent = sent_by s user op })
    (do_operation (running op) user op s) (act_so (running op) s (row s.grid user op) (of_row s.grid user op) h) (λ d k. k)
work_so user (query (Err r)) s asked h = (h, asked)
work_so user (query (Ok q)) s asked h = (h, tt)

module _ (at : State) (p : Option Point) where
  post_so : (w : Worked) (s : Course) (f : Option Failure) → Clean s → FailureByRows f → DoneSo (after_post at w (record { state = s; failure = f }))
  post_so w s None clean h = unstopped s (end.Done w.words) clean.on tt
  post_so w s (Some f) clean h = unstopped s (end.PostFailed f) clean.on h

  after_work_so : (w : Worked) (f : Option Failure) → Clean w.state → FailureByRows f → AllGive DoneSo (after_work at p (record w { failure = f }))
  after_work_so w (Some f) clean h = unstopped w.state (end_of f) clean.on (failed_so f h)
  after_work_so w None clean h =
      mapped_give DidSo DoneSo (after_post at (record w { failure = None })) (run_point at.rules p post_name w.state)
      (point_so at.rules p post_name w.state clean) (λ d k. post_so (record w { failure = None }) d.state d.failure k.0 k.1)

  after_pre_so : (user : Text) (w : Work) (s : Course) (f : Option Failure) → IsAskedSo w → Clean s → FailureByRows f
      → AllGive DoneSo (after_pre at p (work_of user w) (record { state = s; failure = f }))
  after_pre_so user w s (Some f) asked clean h = unstopped s (end.PreFailed f) clean.on h
  after_pre_so user w s None asked clean h =
      next_gives WorkSo DoneSo (after_work at p) (work_of user w s) (work_so user w s asked clean) (λ x k. after_work_so x x.failure k.0 k.1)

runs_so : (at : State) (user : Text) (w : Work) (s : Course) → IsAskedSo w → Clean s → AllGive DoneSo (runs_work at user w s)
runs_so at user w s asked h =
    let p : Option Point = point_at s.grid user w in
    next_gives DidSo DoneSo (after_pre at p (work_of user w)) (run_point at.rules p pre_name s) (point_so at.rules p pre_name s h)
    (λ d k. after_pre_so at p user w d.state d.failure asked k.0 k.1)

pub works_end_by_rows : WorksEndByRows
works_end_by_rows at user w marks d asked clean is =
    subst (AllGive DoneSo) is (runs_so at user w (begun at.grid marks) asked (record { on = refl; marks = clean }))
