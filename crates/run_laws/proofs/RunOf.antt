-- What was undone and the requests that were handled, as a run.
use Rattle.std.proofs.Common.{ℕ, List, ◌++◌, length, sym, subst}
use Rattle.std.specs.Prelude.{◌≢◌}
use Rattle.grid_model.specs.Rows.{Cat}
use Rattle.grid_model.specs.Inputs.{Asked}
use Rattle.grid_model.specs.Sessions.{State}
use Rattle.grid_model.specs.declared.marks.Mark.{Mark}
use Rattle.grid_model.specs.declared.marks.Mark.TheVariants.{Stop}
use Rattle.grid_headline.specs.Worlds.{World}
use Rattle.grid_headline.specs.Reads.{EndsInputLast}
use Rattle.grid_headline.specs.Served.{Run, BeginsWithRequests, marks_of}
use Rattle.grid_headline.specs.Files.{IsKnown}
use Rattle.run_laws.specs.Steps.{IsToldOf}
use Rattle.run_laws.specs.Sofar.{Ran}
use Rattle.run_laws.specs.Undone.{Undone}
use Rattle.run_laws.proofs.Lists.{all-map}

-- a mark that a run tells is no stop
pub no_stop : (known : ℕ → Type 0) (stores : ℕ) (m : Mark) → IsToldOf known stores m → m ≢ Stop
no_stop known stores m told e = subst (IsToldOf known stores) e told

module _ {B : Type 0} (old new : World B) (found : Cat) (at : State) (asked : List Asked) (ran : Ran old new found at asked)
    (first : BeginsWithRequests old.source.left asked) (end_last : EndsInputLast asked) where
  abbrev u : Undone found
  u = ran.undone

  abbrev pub run-of : Run (IsKnown old found) found old.source.left
  run-of = record {
    report = u.report;
    opened = u.opened;
    opened_is = u.opened_is;
    opened_all = u.opened_all;
    rules = u.rules;
    rules_are = u.rules_are;
    begun = ran.handled.begun;
    first = subst (BeginsWithRequests old.source.left) (sym ran.asked_are) first;
    end_last = subst EndsInputLast (sym ran.asked_are) end_last;
    done = ran.handled.done;
    end = at;
    after = ran.after;
    pieces = ran.handled.pieces;
    sure = ran.handled.sure;
    are_sure = ran.are_sure;
    no_stop = all-map (IsToldOf (IsKnown old found) (length old.stores)) (λ (m : Mark). m ≢ Stop) (no_stop (IsKnown old found) (length old.stores)) (u.report ++ marks_of ran.handled.begun) ran.told_of;
  }
