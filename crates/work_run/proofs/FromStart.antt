-- A request can be brought to an end from its start.
use Rattle.std.proofs.Common.{◌≡◌, false, List, [], ◌++◌, Option, Some, None, sym, ap, ◌∙◌, arith}
use Rattle.grid_model.specs.Names.{Text}
use Rattle.grid_model.specs.Meanings.{Meaning, mapped, ◌>>=◌}
use Rattle.grid_model.specs.Chains.{Named, call_rule}
use Rattle.grid_model.specs.Doing.{did_well}
use Rattle.grid_model.specs.Points.{Point, pre_name}
use Rattle.grid_model.specs.Sessions.{State}
use Rattle.grid_model.specs.Working.{Done, after_pre, failure_of}
use Rattle.grid_model.specs.declared.marks.Mark.{Mark}
use Rattle.grid_model.specs.declared.marks.Mark.TheVariants.{Ran}
use Rattle.chain_core.specs.declared.frames.Frames.{Frames}
use Rattle.chain_laws.specs.Ending.{Completes, NamesComplete}
use Rattle.chain_run.specs.Places.{Place, course_at}
use Rattle.chain_run.specs.Runs.{whole_from}
use Rattle.point_laws.specs.Works.{DoneEnds, PreEnds, SendsBehind, Work, WorksSendBehind, work_of}
use Rattle.run_laws.proofs.Lists.{all-append}
use Rattle.work_run.specs.Behind.{from_start}

module _ (names : NamesComplete) (pres : PreEnds) (at : State) (user : Text) (w : Work) (m : Frames) (none : m.begun ≡ 0) (off : m.stopped ≡ false)
    (q : Place) where
  module _ (p : Point) where
    abbrev rules_do : List Mark → Meaning Named
    rules_do = whole_from (call_rule at.rules p.env (pre_name p) []) m q

    abbrev goes_on : Meaning Named → Meaning Done
    goes_on n =
        mapped (λ (k : Named). record { state = k.state; failure = failure_of k.outcome }) n >>= after_pre at (Some p) (work_of user w)

    same : (marks : List Mark) → from_start at (Some p) user w (course_at q marks 0 false) ≡ goes_on (rules_do marks)
    same marks = λ i. goes_on (call_rule at.rules p.env (pre_name p) [] (course_at q marks (sym none i) (sym off i)))

    rules_end : Completes rules_do
    rules_end = names at.rules p.env (pre_name p) [] m q

    rest_ends : DoneEnds (λ later. after_pre at (Some p) (work_of user w)
        (record { state = record rules_end.end.state { marks = later }; failure = failure_of rules_end.end.outcome }))
    rest_ends = pres at (Some p) user w (record { state = rules_end.end.state; failure = failure_of rules_end.end.outcome })

  pub starts_end : (p : Option Point) → DoneEnds (λ later. from_start at p user w (course_at q later 0 false))
  starts_end None = pres at None user w (did_well (course_at q [] 0 false))
  starts_end (Some p) = record {
    rest = (rules_end p).rest ++ (rest_ends p).rest;
    ran = all-append (λ (k : Mark). k ≡ Ran 0 0 []) (rules_end p).rest (rest_ends p).rest (rules_end p).ran (rest_ends p).ran;
    d = (rest_ends p).d;
    gives_so = same p ((rules_end p).rest ++ (rest_ends p).rest)
        ∙ ap (goes_on p) ((rules_end p).gives_so (rest_ends p).rest)
        ∙ (rest_ends p).gives_so;
    all = (rest_ends p).all;
  }

  -- and what it then sends, it sends in front of one of its marks
  pub starts_send : WorksSendBehind → (p : Option Point) → SendsBehind 0 (starts_end p).d
  unfolding rest_ends starts_end
  starts_send law None sent is =
      let its = law at None user w (record (did_well (course_at q [] 0 false)) { state = course_at q (starts_end None).rest 0 false }) (starts_end None).d
      (starts_end None).gives_so (starts_end None).all sent is in
      (omega arith, its.1)
  starts_send law (Some p) sent is =
      let its = law at (Some p) user w (record { state = record (rules_end p).end.state { marks = (rest_ends p).rest }; failure = failure_of (rules_end p).end.outcome })
      (rest_ends p).d (rest_ends p).gives_so (rest_ends p).all sent is in
      (omega arith, its.1)
