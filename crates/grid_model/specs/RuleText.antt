-- Rules as values, without their places in a text. They follow the rule language of iRODS, with recoveries of steps.
use Rattle.std.specs.Prelude.{ℤ, Bool, List, Option}
use Rattle.grid_model.specs.Names.{Text}
use Rattle.grid_model.specs.declared.rules.Operator.{Operator}

-- what an expression means
pub data Expr : Type 0 where
  literal : Text → Expr
  number : ℤ → Expr
  truth : Bool → Expr
  -- by their names, without `*` and `$`
  parameter : Text → Expr
  session : Text → Expr
  negated : Expr → Expr
  applied : Operator → Expr → Expr → Expr

-- a call with arguments that are still to be computed
pub record CallText : Type 0 where
  pub name : Text
  pub args : List Expr

-- a call, and the call that recovers from it
pub record Step : Type 0 where
  pub call : CallText
  pub recovery : Option CallText

-- a rule by its name, its parameters, its condition and its steps
pub record Rule : Type 0 where
  pub name : Text
  pub params : List Text
  pub cond : Option Expr
  pub steps : List Step
