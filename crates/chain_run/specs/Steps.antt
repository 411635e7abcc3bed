-- What the steps of checked rules come to with their arguments.
use Rattle.std.specs.Prelude.{◌≡◌, true, List, [], ◌∷◌, codes, map}
use Rattle.std.specs.Option.{option_to_list}
use Rattle.grid_model.specs.Names.{same_text}
use Rattle.grid_model.specs.Grid.{Grid}
use Rattle.grid_model.specs.RuleText.{Step}
use Rattle.grid_model.specs.Parsed.{Shape, Term, CallAt, number, term_of}
use Rattle.grid_model.specs.Checks.{is_number_sort, sort_of}
use Rattle.grid_model.specs.Values.{Scope}
use Rattle.grid_model.specs.declared.rules.Expr.{Expr}
use Rattle.chain_core.specs.Answers.{Computes, IsInt64, IsTooLong}
use Rattle.chain_core.specs.declared.actions.Event.{Event}
use Rattle.chain_core.specs.declared.actions.Event.TheVariants as event

-- the event is the step with its arguments, or that one of them is too long
abbrev pub IsStep : Scope → Grid → Step → Event → Type 0
IsStep scope g step (event.Computed c recovery) = Computes scope g step c (option_to_list recovery)
IsStep scope g step event.LongText = IsTooLong scope g step
IsStep scope g step other = ⊥

-- no argument, or a number
abbrev pub IsNumberOrNone : List Term → Type 0
IsNumberOrNone [] = Unit {0}
IsNumberOrNone (e ∷ []) = is_number_sort (sort_of e.shape) ≡ true
IsNumberOrNone other = ⊥

-- a `fail` has no argument, or a number
pub record FitsFail (c : CallAt) : Type 0 where
  pub fits : same_text c.name (codes "fail") ≡ true → IsNumberOrNone c.args

-- what is written as a number is one of 64 bits with sign
abbrev pub FitsInt64 : Shape → Type 0
FitsInt64 (number z) = IsInt64 z
FitsInt64 other = Unit {0}

-- the same of an argument that stands alone
abbrev pub FitsInt64Alone : List Term → Type 0
FitsInt64Alone (e ∷ []) = FitsInt64 e.shape
FitsInt64Alone other = Unit {0}

-- the arguments as they stand in the text
abbrev pub terms_of : List Expr → List Term
terms_of args = map term_of args
