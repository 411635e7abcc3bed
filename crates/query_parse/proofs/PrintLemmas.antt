-- Each list of tokens that spells a query stands in some text: with a space behind each token.
use Rattle.std.proofs.Common.{◌≡◌, ℕ, ◌<◌, Bool, true, false, List, [], ◌∷◌, ◌++◌, length, refl, sym, ap, subst, ◌∙◌, arith}
use Rattle.std.specs.Prelude.{◌==◌, ◌&&◌}
use Rattle.std.specs.List.{list_all}
use Rattle.std.proofs.lemmas.Bool.{both_ways, eqb-true}
use Rattle.std.proofs.lemmas.List.{append_assoc}
use Rattle.grid_model.specs.Names.{Text}
use Rattle.grid_model.specs.QueryTokens.{Token, Placed, Keyword, select_word, where_word, and_word, like_word, not_word, Sign, equal, not_equal, less, greater, at_most, at_least, keyword, column, literal, comma, sign, wrong, keyword_text, column_text, sign_text, makes_longer, goes_on, is_identifier_byte, quote_follows, a_keyword, a_column, Closes, closed, plain, twice, Front, a_word, a_literal, a_comma, a_sign, SpellsTokens, nothing, space, token}
use Rattle.grid_model.specs.QueryText.{SpellsColumns, last_column, next_column, SpellsOp, compares, likes, likes_not, SpellsCond, a_cond, SpellsConds, last_cond, next_cond, SpellsQuery, without_conds, with_conds, kinds, HasText}
use Rattle.grid_model.specs.declared.queries.Column.{Column}
use Rattle.grid_model.specs.declared.queries.Column.TheVariants.{CollName, DataName, MetaDataAttrName, MetaDataAttrValue, MetaDataAttrUnits, DataModifyTime, DataSize, DataReplNum, DataReplStatus, DataRescHier, DataChecksum}
use Rattle.grid_model.specs.declared.queries.Cond.{Cond}
use Rattle.grid_model.specs.declared.queries.Op.{Op}
use Rattle.grid_model.specs.declared.queries.Query.{Query}

-- ---- a token, and a space behind it

doubled : Text → Text
doubled [] = []
doubled (b ∷ inner) = elim (b == 0x27) [ true ↦ 0x27 ∷ 0x27 ∷ doubled inner | false ↦ b ∷ doubled inner ]

closes_doubled : (inner rest : Text) → quote_follows rest ≡ false → Closes (doubled inner ++ 0x27 ∷ rest) inner rest
unfolding doubled
closes_doubled [] rest ends = closed refl ends
closes_doubled (b ∷ inner) rest ends = by (b == 0x27) refl (closes_doubled inner rest ends)
  where
    by : (t : Bool) → (b == 0x27) ≡ t → Closes (doubled inner ++ 0x27 ∷ rest) inner rest → Closes (elim t as (λ _. Text) [ true ↦ 0x27 ∷ 0x27 ∷ doubled inner | false ↦ b ∷ doubled inner ] ++ 0x27 ∷ rest) (b ∷ inner) rest
    by true e h = subst (λ k. Closes (0x27 ∷ 0x27 ∷ doubled inner ++ 0x27 ∷ rest) (k ∷ inner) rest) (sym (eqb-true b 0x27 e)) (twice refl h)
    by false e h = plain b refl (λ k. both_ways (b == 0x27) e (subst (λ x. (x == 0x27) ≡ true) (sym k) refl)) h

keyword_front : (k : Keyword) (rest : Text) → Front (keyword_text k ++ 0x20 ∷ rest) (keyword k) (0x20 ∷ rest)
keyword_front select_word rest = a_word (keyword_text select_word) refl (omega arith) refl refl (a_keyword select_word refl)
keyword_front where_word rest = a_word (keyword_text where_word) refl (omega arith) refl refl (a_keyword where_word refl)
keyword_front and_word rest = a_word (keyword_text and_word) refl (omega arith) refl refl (a_keyword and_word refl)
keyword_front like_word rest = a_word (keyword_text like_word) refl (omega arith) refl refl (a_keyword like_word refl)
keyword_front not_word rest = a_word (keyword_text not_word) refl (omega arith) refl refl (a_keyword not_word refl)

column_word : (c : Column) → (0 < length (column_text c)) × (list_all is_identifier_byte (column_text c) ≡ true)
column_word CollName = (omega arith, refl)
column_word DataName = (omega arith, refl)
column_word MetaDataAttrName = (omega arith, refl)
column_word MetaDataAttrValue = (omega arith, refl)
column_word MetaDataAttrUnits = (omega arith, refl)
column_word DataModifyTime = (omega arith, refl)
column_word DataSize = (omega arith, refl)
column_word DataReplNum = (omega arith, refl)
column_word DataReplStatus = (omega arith, refl)
column_word DataRescHier = (omega arith, refl)
column_word DataChecksum = (omega arith, refl)

sign_ends : (s : Sign) (rest : Text) → goes_on (makes_longer s) (0x20 ∷ rest) ≡ false
sign_ends equal rest = refl
sign_ends not_equal rest = refl
sign_ends less rest = refl
sign_ends greater rest = refl
sign_ends at_most rest = refl
sign_ends at_least rest = refl

token_text : Token → Text
token_text (keyword k) = keyword_text k
token_text (column c) = column_text c
token_text (literal inner) = 0x27 ∷ doubled inner ++ 0x27 ∷ []
token_text comma = 0x2C ∷ []
token_text (sign s) = sign_text s
token_text wrong = []

is_right : Token → Bool
is_right wrong = false
is_right _ = true

front_of_text : (t : Token) (rest : Text) → is_right t ≡ true → Front (token_text t ++ 0x20 ∷ rest) t (0x20 ∷ rest)
unfolding token_text is_right
front_of_text (keyword k) rest h = keyword_front k rest
front_of_text (column c) rest h = let word = column_word c in a_word (column_text c) refl word.0 word.1 refl (a_column c refl)
front_of_text (literal inner) rest h = a_literal (doubled inner ++ 0x27 ∷ 0x20 ∷ rest) (ap (λ s. 0x27 ∷ s) (append_assoc (doubled inner) (0x27 ∷ []) (0x20 ∷ rest))) (closes_doubled inner (0x20 ∷ rest) refl)
front_of_text comma rest h = a_comma refl
front_of_text (sign s) rest h = a_sign s refl (sign_ends s rest)
front_of_text wrong rest h = absurd (both_ways false refl h)

-- ---- tokens

tokens_text : List Token → Text
tokens_text [] = []
tokens_text (t ∷ ts) = token_text t ++ 0x20 ∷ tokens_text ts

both_true : (a b : Bool) → a && b ≡ true → (a ≡ true) × (b ≡ true)
both_true true b h = (refl, h)
both_true false b h = absurd (both_ways false refl h)

-- these tokens from there on
record Stand (end : ℕ) (text : Text) (ts : List Token) : Type 0 where
  placed : List Placed
  made : SpellsTokens end text placed
  kinds_are : kinds placed ≡ ts

stand : (end : ℕ) (ts : List Token) → list_all is_right ts ≡ true → Stand end (tokens_text ts) ts
unfolding tokens_text
stand end [] h = record { placed = []; made = nothing; kinds_are = refl }
stand end (t ∷ ts) h =
    let right = both_true (is_right t) (list_all is_right ts) h in
    let more = stand end ts right.1 in
    record {
      placed = _;
      made = token t (front_of_text t (tokens_text ts) right.0) (space refl more.made);
      kinds_are = ap (λ x. t ∷ x) more.kinds_are;
    }

-- ---- no token of a query is wrong

all_append : (ts us : List Token) → list_all is_right ts ≡ true → list_all is_right us ≡ true → list_all is_right (ts ++ us) ≡ true
all_append [] us h g = g
all_append (t ∷ ts) us h g = let parts = both_true (is_right t) (list_all is_right ts) h in ap (λ x. x && list_all is_right (ts ++ us)) parts.0 ∙ all_append ts us parts.1 g

right_columns : {ts : List Token} {cs : List Column} → SpellsColumns ts cs → list_all is_right ts ≡ true
unfolding is_right
right_columns (last_column c) = refl
right_columns (next_column c h) = right_columns h

right_op : {ts : List Token} {o : Op} → SpellsOp ts o → list_all is_right ts ≡ true
unfolding is_right
right_op (compares s e) = refl
right_op likes = refl
right_op likes_not = refl

right_cond : {ts : List Token} {d : Cond} → SpellsCond ts d → list_all is_right ts ≡ true
unfolding is_right
right_cond (a_cond {os = os} {inner = inner} e op fits) = ap (list_all is_right) e ∙ all_append os (literal inner ∷ []) (right_op op) refl

right_conds : {ts : List Token} {ds : List Cond} → SpellsConds ts ds → list_all is_right ts ≡ true
unfolding is_right
right_conds (last_cond h) = right_cond h
right_conds (next_cond {ts = ts} {us = us} e h more) = ap (list_all is_right) e ∙ all_append ts (keyword and_word ∷ us) (right_cond h) (right_conds more)

right_query : {ts : List Token} {q : Query} → SpellsQuery ts q → list_all is_right ts ≡ true
unfolding is_right
right_query (without_conds e h) = ap (list_all is_right) e ∙ right_columns h
right_query (with_conds {ts = ts} {us = us} e h conds) = ap (list_all is_right) e ∙ all_append ts (keyword where_word ∷ us) (right_columns h) (right_conds conds)

pub has_text : {ts : List Token} {q : Query} → SpellsQuery ts q → HasText ts
has_text {ts = ts} h =
    let there = stand (length (tokens_text ts)) ts (right_query h) in
    record { text = tokens_text ts; placed = there.placed; made = there.made; kinds_are = there.kinds_are }
