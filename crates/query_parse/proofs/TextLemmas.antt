-- What a text spells, and where it is refused: one answer each.
use Rattle.std.proofs.Common.{◌≡◌, ℕ, List, [], ◌∷◌, ◌++◌, Option, Some, None, Result, Ok, Err, length, refl, sym, ap, subst, ◌∙◌, inl, inr}
use Rattle.std.specs.Prelude.{◌⊎◌, IfOk, IsErrOf, MatchResult}
use Rattle.grid_model.specs.Names.{Text}
use Rattle.grid_model.specs.QueryTokens.{Token, Placed, Sign, equal, not_equal, less, greater, at_most, at_least, keyword, column, literal, comma, sign, select_word, where_word, and_word, SpellsTokens}
use Rattle.grid_model.specs.QueryText.{SpellsColumns, last_column, next_column, op_of, SpellsOp, compares, likes, likes_not, SpellsCond, a_cond, SpellsConds, last_cond, next_cond, SpellsQuery, without_conds, with_conds, kinds, token_place, StopsAt, IsQueryText, IsRefusedQuery, HaveSameTokens}
use Rattle.grid_model.specs.declared.queries.Column.{Column}
use Rattle.grid_model.specs.declared.queries.Cond.{Cond}
use Rattle.grid_model.specs.declared.queries.Op.{Op}
use Rattle.grid_model.specs.declared.queries.Op.TheVariants.{Equal, NotEqual, Less, Greater, AtMost, AtLeast, Like, NotLike}
use Rattle.grid_model.specs.declared.queries.Query.{Query}
use Rattle.grid_model.proofs.Refusals.{IsRefusedAt-unique}
use Rattle.query_parse.specs.declared.error.QueryError.{QueryError}
use Rattle.query_parse.specs.declared.error.QueryError.TheVariants.{BadQuery, Memory}
use Rattle.query_parse.proofs.LexLemmas.{one_list}
use Rattle.query_parse.proofs.QueryLemmas.{one_query}

-- ---- one answer

pub one_text : {text : Text} {q r : Query} → IsQueryText text q → IsQueryText text r → q ≡ r
one_text {r = r} a b = one_query a.spells (subst (λ ts. SpellsQuery (kinds ts) r) (one_list b.made a.made) b.spells)

one_stop : {ts : List Placed} {end place other : ℕ} → StopsAt ts end place → StopsAt ts end other → place ≡ other
one_stop {ts = ts} {end = end} a b = a.place_is ∙ ap (token_place ts end) (IsRefusedAt-unique SpellsQuery (kinds ts) a.count b.count a.refused b.refused) ∙ sym b.place_is

pub one_place : {text : Text} {place other : ℕ} → IsRefusedQuery text place → IsRefusedQuery text other → place ≡ other
one_place {text = text} {other = other} a b = one_stop a.stops (subst (λ ts. StopsAt ts (length text) other) (one_list b.made a.made) b.stops)

pub never_both : {text : Text} {place : ℕ} {q : Query} → IsRefusedQuery text place → IsQueryText text q → ⊥
never_both {q = q} a b = a.stops.refused.spells_nothing q (subst (λ ts. SpellsQuery (kinds ts) q) (one_list b.made a.made) b.spells)

-- ---- what a reader answers

-- What was made of these tokens is right.
pub record IsRight (r : Result Query QueryError) (text : Text) (ts : List Placed) : Type 0 where
  pub made : SpellsTokens (length text) text ts
  pub read : IfOk r (λ q. SpellsQuery (kinds ts) q)
  pub stopped : (place : ℕ) → IsErrOf r (BadQuery place) → StopsAt ts (length text) place

pub only_query : (r : Result Query QueryError) (text : Text) (ts : List Placed) → IsRight r text ts → (q : Query) → IsQueryText text q → MatchResult r (λ x. x ≡ q) (λ e. e ≡ Memory)
only_query (Ok x) text ts is q h = one_text {text = text} (record { tokens = ts; made = is.made; spells = is.read }) h
only_query (Err (BadQuery place)) text ts is q h = absurd (never_both (record { tokens = ts; made = is.made; stops = is.stopped place refl }) h)
only_query (Err Memory) text ts is q h = refl

pub only_refused : (r : Result Query QueryError) (text : Text) (ts : List Placed) → IsRight r text ts → (place : ℕ) → IsRefusedQuery text place → MatchResult r (λ x. ⊥) (λ e. (e ≡ BadQuery place) ⊎ (e ≡ Memory))
only_refused (Ok x) text ts is place h = never_both h (record { tokens = ts; made = is.made; spells = is.read })
only_refused (Err (BadQuery other)) text ts is place h = inl (ap BadQuery (one_place {text = text} (record { tokens = ts; made = is.made; stops = is.stopped other refl }) h))
only_refused (Err Memory) text ts is place h = inr refl

-- ---- one list of tokens spells a query

same_columns : {ts us : List Token} {cs : List Column} → SpellsColumns ts cs → SpellsColumns us cs → ts ≡ us
same_columns (last_column c) (last_column _) = refl
same_columns (last_column c) (next_column _ h) = elim h [ ]
same_columns (next_column c h) (last_column _) = elim h [ ]
same_columns (next_column c h) (next_column _ g) = ap (λ ts. column c ∷ comma ∷ ts) (same_columns h g)

sign_for : Op → Option Sign
sign_for Equal = Some equal
sign_for NotEqual = Some not_equal
sign_for Less = Some less
sign_for Greater = Some greater
sign_for AtMost = Some at_most
sign_for AtLeast = Some at_least
sign_for Like = None
sign_for NotLike = None

sign_found : (s : Sign) → sign_for (op_of s) ≡ Some s
unfolding sign_for
sign_found equal = refl
sign_found not_equal = refl
sign_found less = refl
sign_found greater = refl
sign_found at_most = refl
sign_found at_least = refl

no_sign : (s : Sign) (o : Op) → sign_for o ≡ None → o ≡ op_of s → ⊥
no_sign s o none e = let one = sign_found s in let same = ap sign_for e in cc

same_op : {ts us : List Token} {o : Op} → SpellsOp ts o → SpellsOp us o → ts ≡ us
unfolding sign_for
same_op (compares s e) (compares t f) =
    let one = sign_found s in
    let two = sign_found t in
    let both = ap sign_for (sym e ∙ f) in
    let same : s ≡ t = cc in
    ap (λ x. sign x ∷ []) same
same_op (compares s e) likes = absurd (no_sign s Like refl e)
same_op (compares s e) likes_not = absurd (no_sign s NotLike refl e)
same_op likes (compares s e) = absurd (no_sign s Like refl e)
same_op likes likes = refl
same_op likes_not (compares s e) = absurd (no_sign s NotLike refl e)
same_op likes_not likes_not = refl

same_cond : {ts us : List Token} {d : Cond} → SpellsCond ts d → SpellsCond us d → ts ≡ us
same_cond (a_cond {c = c} {inner = inner} e op fits) (a_cond f other fits_too) = e ∙ ap (λ os. column c ∷ os ++ literal inner ∷ []) (same_op op other) ∙ sym f

same_conds : {ts us : List Token} {ds : List Cond} → SpellsConds ts ds → SpellsConds us ds → ts ≡ us
same_conds (last_cond h) (last_cond g) = same_cond h g
same_conds (last_cond h) (next_cond e g more) = elim more [ ]
same_conds (next_cond e h more) (last_cond g) = elim more [ ]
same_conds (next_cond {us = us} e h more) (next_cond {ts = vs} f g others) =
    e ∙ ap (λ ts. ts ++ keyword and_word ∷ us) (same_cond h g) ∙ ap (λ ts. vs ++ keyword and_word ∷ ts) (same_conds more others) ∙ sym f

pub same_tokens : {ts us : List Token} {q : Query} → SpellsQuery ts q → SpellsQuery us q → ts ≡ us
same_tokens (without_conds e h) (without_conds f g) = e ∙ ap (λ ts. keyword select_word ∷ ts) (same_columns h g) ∙ sym f
same_tokens (without_conds e h) (with_conds f g conds) = elim conds [ ]
same_tokens (with_conds e h conds) (without_conds f g) = elim conds [ ]
same_tokens (with_conds {us = us} e h conds) (with_conds {ts = vs} f g others) =
    e ∙ ap (λ ts. keyword select_word ∷ ts ++ keyword where_word ∷ us) (same_columns h g) ∙ ap (λ ts. keyword select_word ∷ vs ++ keyword where_word ∷ ts) (same_conds conds others) ∙ sym f

pub same_texts : {text other : Text} {q : Query} → IsQueryText text q → IsQueryText other q → HaveSameTokens text other
same_texts a b = record { tokens = a.tokens; others = b.tokens; made = a.made; other_made = b.made; same = same_tokens a.spells b.spells }

pub same_query : {text other : Text} {q : Query} → IsQueryText text q → HaveSameTokens text other → IsQueryText other q
same_query {q = q} a s = record {
  tokens = s.others;
  made = s.other_made;
  spells = subst (λ ts. SpellsQuery ts q) (ap kinds (one_list a.made s.made) ∙ s.same) a.spells;
}
