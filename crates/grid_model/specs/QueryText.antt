-- Which texts spell which queries, and where the others are refused. The grammar is this project's own, after the general
-- query of iRODS.
use Rattle.std.specs.Prelude.{◌≡◌, ℕ, zero, suc, ◌^◌, ◌<◌, List, [], ◌∷◌, ◌++◌, IsTrue, length, map, decimal}
use Rattle.grid_model.specs.Names.{Text}
use Rattle.grid_model.specs.Places.{IsRefusedAt}
use Rattle.grid_model.specs.Queries.{is_number, is_comparison}
use Rattle.grid_model.specs.QueryTokens.{Token, Placed, Sign, equal, not_equal, less, greater, at_most, at_least, keyword, column, literal}
use Rattle.grid_model.specs.QueryTokens.{comma, sign, select_word, where_word, and_word, like_word, not_word, SpellsTokens}
use Rattle.grid_model.specs.declared.queries.Column.{Column}
use Rattle.grid_model.specs.declared.queries.Cond.{Cond}
use Rattle.grid_model.specs.declared.queries.Op.{Op}
use Rattle.grid_model.specs.declared.queries.Op.TheVariants.{Equal, NotEqual, Less, Greater, AtMost, AtLeast, Like, NotLike}
use Rattle.grid_model.specs.declared.queries.Query.{Query}

-- columns with commas between them
pub data SpellsColumns : List Token → List Column → Type 0 where
  last_column : (c : Column) → SpellsColumns (column c ∷ []) (c ∷ [])
  next_column : {ts : List Token} {cs : List Column} (c : Column) → SpellsColumns ts cs → SpellsColumns (column c ∷ comma ∷ ts) (c ∷ cs)

-- the operator of a sign
abbrev pub op_of : Sign → Op
op_of equal = Equal
op_of not_equal = NotEqual
op_of less = Less
op_of greater = Greater
op_of at_most = AtMost
op_of at_least = AtLeast

-- a sign, LIKE or NOT LIKE
pub data SpellsOp : List Token → Op → Type 0 where
  compares : {o : Op} (s : Sign) → o ≡ op_of s → SpellsOp (sign s ∷ []) o
  likes : SpellsOp (keyword like_word ∷ []) Like
  likes_not : SpellsOp (keyword not_word ∷ keyword like_word ∷ []) NotLike

-- The text is a number in decimal, without leading zeros.
pub record IsDecimal (text : Text) : Type 0 where
  pub number : ℕ
  pub small : number < 2 ^ 64
  pub text_is : text ≡ decimal number

-- what a column of numbers is compared with is a number
abbrev pub Fits : Column → Op → Text → Type 0
Fits c o inner = IsTrue (is_number c) → IsTrue (is_comparison o) → IsDecimal inner

-- a column, an operator and a literal
pub data SpellsCond : List Token → Cond → Type 0 where
  a_cond : {ts os : List Token} {c : Column} {o : Op} {inner : Text} → ts ≡ column c ∷ os ++ literal inner ∷ [] → SpellsOp os o → Fits c o inner
      → SpellsCond ts (record { column = c; op = o; literal = inner })

-- conditions with AND between them
pub data SpellsConds : List Token → List Cond → Type 0 where
  last_cond : {ts : List Token} {d : Cond} → SpellsCond ts d → SpellsConds ts (d ∷ [])
  next_cond : {all ts us : List Token} {d : Cond} {ds : List Cond} → all ≡ ts ++ keyword and_word ∷ us → SpellsCond ts d → SpellsConds us ds
      → SpellsConds all (d ∷ ds)

-- SELECT and columns, with WHERE and conditions behind them or without
pub data SpellsQuery : List Token → Query → Type 0 where
  without_conds : {all ts : List Token} {cs : List Column} → all ≡ keyword select_word ∷ ts → SpellsColumns ts cs
      → SpellsQuery all (record { columns = cs; conds = [] })
  with_conds : {all ts us : List Token} {cs : List Column} {ds : List Cond} → all ≡ keyword select_word ∷ ts ++ keyword where_word ∷ us → SpellsColumns ts cs
      → SpellsConds us ds
      → SpellsQuery all (record { columns = cs; conds = ds })

-- the tokens without their places
abbrev pub kinds : List Placed → List Token
kinds ts = map (λ (t : Placed). t.token) ts

-- the place of this one of the tokens, counted from 0 on, or the end
abbrev pub token_place : List Placed → ℕ → ℕ → ℕ
token_place [] end count = end
token_place (t ∷ ts) end zero = t.at
token_place (t ∷ ts) end (suc count) = token_place ts end count

-- The tokens are no query, and this is the place of the first with which those so far begin none.
pub record StopsAt (ts : List Placed) (end place : ℕ) : Type 0 where
  pub count : ℕ
  pub refused : IsRefusedAt SpellsQuery (kinds ts) count
  pub place_is : place ≡ token_place ts end count

-- The text spells the query.
pub record IsQueryText (text : Text) (q : Query) : Type 0 where
  pub tokens : List Placed
  pub made : SpellsTokens (length text) text tokens
  pub spells : SpellsQuery (kinds tokens) q

-- The text spells no query, and is refused at this place.
pub record IsRefusedQuery (text : Text) (place : ℕ) : Type 0 where
  pub tokens : List Placed
  pub made : SpellsTokens (length text) text tokens
  pub stops : StopsAt tokens (length text) place

-- The texts are the same but for spaces between tokens and the case of keywords.
pub record HaveSameTokens (text other : Text) : Type 0 where
  pub tokens : List Placed
  pub others : List Placed
  pub made : SpellsTokens (length text) text tokens
  pub other_made : SpellsTokens (length other) other others
  pub same : kinds tokens ≡ kinds others

-- Some text is made of these tokens.
pub record HasText (ts : List Token) : Type 0 where
  pub text : Text
  pub placed : List Placed
  pub made : SpellsTokens (length text) text placed
  pub kinds_are : kinds placed ≡ ts
