-- Operations with their points take their marks in order, from the first one on.
use Rattle.std.proofs.Common.{◌≡◌, List, [], Option, Some, None, ◌++◌, refl}
use Rattle.std.specs.Prelude.{Ok, Err}
use Rattle.grid_model.specs.Bounds.{deepest}
use Rattle.grid_model.specs.Names.{Text}
use Rattle.grid_model.specs.RuleText.{Rule}
use Rattle.grid_model.specs.Operations.Table.{row}
use Rattle.grid_model.specs.Doing.{Course, Did, do_operation}
use Rattle.grid_model.specs.Chains.{Named, call_rule}
use Rattle.grid_model.specs.Points.{Point, post_name, pre_name}
use Rattle.grid_model.specs.Sessions.{State}
use Rattle.grid_model.specs.Working.{Done, Worked, after_post, after_pre, after_work, begun, failure_of, run_point, running, sent_by, words_of}
use Rattle.grid_model.specs.declared.marks.Mark.{Mark}
use Rattle.grid_model.specs.declared.refusal.Failure.{Failure}
use Rattle.chain_laws.proofs.Such.{GivesSuch, such_given, such_mapped, such_next}
use Rattle.chain_laws.proofs.Taking.{DidTakes, NamedTakes, Takes, act_takes, call_takes}
use Rattle.point_laws.specs.Works.{Work, WorksTakeInOrder, operation, point_at, query, runs_work, work_of}

module _ (all : List Mark) where
  -- these are the marks that it took, with those that are left behind them
  abbrev pub DoneTakes : Done → Type 0
  DoneTakes d = d.reply.marks ++ d.left ≡ all

  abbrev WorkTakes : Worked → Type 0
  WorkTakes w = Takes all w.state

  point_takes : (rules : List Rule) (p : Option Point) (name : Point → Text) (s : Course) → Takes all s → GivesSuch (DidTakes all) (run_point rules p name s)
  point_takes rules None name s h = h
  point_takes rules (Some p) name s h =
      such_mapped (NamedTakes all) (DidTakes all) (λ (n : Named). record { state = n.state; failure = failure_of n.outcome })
      (call_rule rules p.env (name p) [] s) (call_takes all deepest rules p.env (name p) [] s h) (λ n k. k)

  work_takes : (user : Text) (w : Work) (s : Course) → Takes all s → GivesSuch WorkTakes (work_of user w s)
  work_takes user (operation op) s h =
      such_mapped (DidTakes all) WorkTakes
      (λ (d : Did). record { state = d.state; failure = d.failure; words = words_of s.grid user op; rows = []; sent = sent_by s user op })
      (do_operation (running op) user op s) (act_takes all (running op) s (row s.grid user op) h) (λ d k. k)
  work_takes user (query (Err r)) s h = h
  work_takes user (query (Ok q)) s h = h

  after_work_takes : (at : State) (p : Option Point) (w : Worked) → WorkTakes w → GivesSuch DoneTakes (after_work at p w)
  after_work_takes at p w h = by w.failure
    where
      by : (f : Option Failure) → GivesSuch DoneTakes (after_work at p (record w { failure = f }))
      by (Some f) = h
      by None =
          such_mapped (DidTakes all) DoneTakes (after_post at (record w { failure = None })) (run_point at.rules p post_name w.state)
          (point_takes at.rules p post_name w.state h) (λ d k. k)

  pub after_pre_takes : (at : State) (p : Option Point) (user : Text) (w : Work) (s : Course) (f : Option Failure) → Takes all s
      → GivesSuch DoneTakes (after_pre at p (work_of user w) (record { state = s; failure = f }))
  after_pre_takes at p user w s (Some f) h = h
  after_pre_takes at p user w s None h =
      such_next WorkTakes DoneTakes (after_work at p) (work_of user w s) (work_takes user w s h) (after_work_takes at p)

  runs_takes : (at : State) (user : Text) (w : Work) (s : Course) → Takes all s → GivesSuch DoneTakes (runs_work at user w s)
  runs_takes at user w s h =
      let p : Option Point = point_at s.grid user w in
      such_next (DidTakes all) DoneTakes (after_pre at p (work_of user w)) (run_point at.rules p pre_name s)
      (point_takes at.rules p pre_name s h) (λ d k. after_pre_takes at p user w d.state d.failure k)

pub works_take_in_order : WorksTakeInOrder
works_take_in_order at user w marks d is =
    such_given (DoneTakes marks) (runs_work at user w (begun at.grid marks)) d (runs_takes marks at user w (begun at.grid marks) refl) is
