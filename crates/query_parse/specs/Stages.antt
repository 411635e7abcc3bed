-- The stages of reading a query, from token to token.
use Rattle.std.specs.Prelude.{◌≡◌, Bool, true, false, IsTrue, List, [], ◌∷◌, ◌++◌}
use Rattle.grid_model.specs.QueryTokens.{Token, keyword, column, literal, comma, sign, select_word, where_word, and_word, like_word, not_word}
use Rattle.grid_model.specs.QueryText.{Fits, op_of}
use Rattle.grid_model.specs.declared.queries.Column.{Column}
use Rattle.grid_model.specs.declared.queries.Cond.{Cond}
use Rattle.grid_model.specs.declared.queries.Op.TheVariants.{Like, NotLike}
use Rattle.grid_model.specs.declared.queries.Query.{Query}
use Rattle.query_parse.specs.declared.stage.Stage.{Stage}
use Rattle.query_parse.specs.declared.stage.Stage.TheVariants.{Start, Shown, BehindColumn, Subject, Operator, Negated, Literal, BehindCond}
use Rattle.query_parse.specs.declared.stage.Step.{Step}
use Rattle.query_parse.specs.declared.stage.Step.TheVariants.{Refused, Next, Show, Ask}

-- a query may end here
abbrev pub is_done : Stage → Bool
is_done BehindColumn = true
is_done BehindCond = true
is_done _ = false

-- what a token does
abbrev pub step_from : Stage → Token → Step
step_from Start (keyword select_word) = Next Shown
step_from Shown (column c) = Show c
step_from BehindColumn comma = Next Shown
step_from BehindColumn (keyword where_word) = Next Subject
step_from Subject (column c) = Next (Operator c)
step_from (Operator c) (sign s) = Next (Literal c (op_of s))
step_from (Operator c) (keyword like_word) = Next (Literal c Like)
step_from (Operator c) (keyword not_word) = Next (Negated c)
step_from (Negated c) (keyword like_word) = Next (Literal c NotLike)
step_from (Literal c o) (literal inner) = Ask (record { column = c; op = o; literal = inner })
step_from BehindCond (keyword and_word) = Next Subject
step_from _ _ = Refused

-- what is read of a query so far
pub record QueryProgress : Type 0 where
  pub stage : Stage
  pub columns : List Column
  pub conds : List Cond

abbrev pub new_query : QueryProgress
new_query = record { stage = Start; columns = []; conds = [] }

-- with these tokens behind it, what is read so far is this query
abbrev pub CompletesQuery : Stage → List Column → List Cond → List Token → Query → Type 0
CompletesQuery s cs ds [] q = IsTrue (is_done s) × (q ≡ record { columns = cs; conds = ds })
CompletesQuery s cs ds (t ∷ ts) q = elim (step_from s t) [
  | Refused ↦ ⊥
  | Next n ↦ CompletesQuery n cs ds ts q
  | Show c ↦ CompletesQuery BehindColumn (cs ++ c ∷ []) ds ts q
  | Ask d ↦ Fits d.column d.op d.literal × CompletesQuery BehindCond cs (ds ++ d ∷ []) ts q
]

abbrev pub EndsInQuery : QueryProgress → List Token → Query → Type 0
EndsInQuery p ts q = CompletesQuery p.stage p.columns p.conds ts q

-- The token leads from the one to the other.
pub record LeadsByToken (p : QueryProgress) (t : Token) (n : QueryProgress) : Type 0 where
  pub there : (ts : List Token) (q : Query) → EndsInQuery p (t ∷ ts) q → EndsInQuery n ts q
  pub back : (ts : List Token) (q : Query) → EndsInQuery n ts q → EndsInQuery p (t ∷ ts) q

-- With the token and any behind it there is no query.
abbrev pub LeadsNowhere : QueryProgress → Token → Type 0
LeadsNowhere p t = (ts : List Token) (q : Query) → ¬ EndsInQuery p (t ∷ ts) q
