-- What the opening of a run undid of a command that was stopped, and what is told of it.
use Rattle.std.specs.Prelude.{◌≡◌, ℕ, List, [], ◌++◌, drop}
use Rattle.grid_model.specs.Names.{Text}
use Rattle.grid_model.specs.Rows.{Cat}
use Rattle.grid_model.specs.RuleText.{Rule}
use Rattle.grid_model.specs.Meanings.{gives}
use Rattle.grid_model.specs.Reopening.{Unwound, reopened}
use Rattle.grid_model.specs.declared.marks.Mark.{Mark}
use Rattle.grid_headline.specs.Draws.{kept_count}
use Rattle.grid_headline.specs.Reads.{HasRules}
use Rattle.grid_headline.specs.Served.{joined_texts, report_front, report_back, report_told}

-- The marks of the recoveries of what was pending, behind the kept marks and the added `Stop`, and what they leave: none, and the grid as
-- it was, where nothing was; and the rules that there are.
pub record Undone (found : Cat) : Type 0 where
  pub rules : List Rule
  pub rules_are : HasRules found rules
  pub report : List Mark
  pub opened : Unwound
  pub opened_is : reopened found report ≡ gives opened
  pub opened_all : opened.left ≡ []

module _ (found : Cat) (u : Undone found) where
  -- what is told before the run is begun: the marks that were kept, that it was stopped, and the marks of recoveries
  abbrev pub report_begun : Text
  report_begun = joined_texts (report_front found.pending u.report)

  -- the whole report; where no command was pending there is none
  abbrev pub whole_report : Text
  whole_report = report_begun ++ report_back found.pending u.opened.passed

  -- the marks of recoveries that are told, where so many bytes were written
  abbrev pub recoveries_told : ℕ → List Mark
  recoveries_told count = drop (kept_count found.pending) (report_told found.pending u.report count)
