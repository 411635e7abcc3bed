-- Texts of tokens, read from token to token, and in one way.
use Rattle.std.proofs.Common.{eqb, ◌≡◌, ◌≢◌, ℕ, ◌-◌, ◌<◌, true, false, List, [], ◌∷◌, ◌++◌, length, drop, refl, sym, ap, subst, ◌∙◌, arith}
use Rattle.std.specs.Prelude.{◌==◌, slice_index}
use Rattle.std.proofs.lemmas.Bool.{both_ways, eqb-true}
use Rattle.std.proofs.lemmas.List.{append_assoc, append-nil, nil_from_length}
use Rattle.grid_model.specs.Names.{Text}
use Rattle.grid_model.specs.QueryTokens.{Token, Placed, wrong, is_identifier_byte, quote_follows, Front, SpellsTokens}
use Rattle.query_parse.specs.Seen.{is_sign}
use Rattle.grid_model.specs.QueryTokens as tokens
use Rattle.query_parse.proofs.LiteralLemmas.{head_is, tail_is}
use Rattle.query_parse.proofs.FrontLemmas.{first_and_rest, no_front, one_front, front_shorter, begins_sign, begins_word}

-- the text is these tokens and that rest
pub record Read (text : Text) (found : List Placed) (rest : Text) : Type 0 where
  pub goes_on : (ts : List Placed) → SpellsTokens (length text) rest ts → SpellsTokens (length text) text (found ++ ts)

pub read_none : (text : Text) → Read text [] text
read_none text = record { goes_on = λ ts h. h }

pub read_space : (text : Text) (found : List Placed) (rest : Text) → Read text found rest → 0 < length rest → slice_index rest 0 ≡ 0x20 → Read text found (drop 1 rest)
read_space text found rest r some first = record { goes_on = λ ts h. r.goes_on ts (tokens.space (first_and_rest rest 0x20 some first) h) }

pub read_token : (text : Text) (found : List Placed) (rest behind : Text) (t : Token) → Read text found rest → Front rest t behind → Read text (found ++ record { at = length text - length rest; token = t } ∷ []) behind
read_token text found rest behind t r front = record {
  goes_on = λ ts h. subst (λ x. SpellsTokens (length text) text x) (sym (append_assoc found (this ∷ []) ts)) (r.goes_on (this ∷ ts) (tokens.token t front h));
}
  where
    this : Placed
    this = record { at = length text - length rest; token = t }

pub read_wrong : (text : Text) (found : List Placed) (rest : Text) → Read text found rest → 0 < length rest → slice_index rest 0 ≢ 0x20 → ((t : Token) (left : Text) → ¬ Front rest t left)
    → SpellsTokens (length text) text (found ++ record { at = length text - length rest; token = wrong } ∷ [])
read_wrong text found rest r some first none = r.goes_on _ (tokens.no_token (slice_index rest 0) (first_and_rest rest (slice_index rest 0) some refl) first none)

pub read_all : (text : Text) (found : List Placed) (rest : Text) → Read text found rest → rest ≡ [] → SpellsTokens (length text) text found
read_all text found rest r none = subst (λ x. SpellsTokens (length text) text x) (append-nil found) (r.goes_on [] (subst (λ s. SpellsTokens (length text) s []) (sym none) tokens.nothing))

-- ---- one list of tokens

-- a byte that begins no token
never : (b : ℕ) → (b == 0x27) ≡ false → is_sign b ≡ false → is_identifier_byte b ≡ false → {text behind rest : Text} {t : Token} → text ≡ b ∷ behind → Front text t rest → ⊥
never b quote signed word {text = text} {rest = rest} {t = t} e f =
    no_front text (ap quote_follows e ∙ quote) (ap begins_sign e ∙ signed) (ap begins_word e ∙ word) t rest f

no_empty : {rest : Text} {t : Token} → Front [] t rest → ⊥
no_empty f = omega (arith, front_shorter f)

pub one_list : {end : ℕ} {text : Text} {ts us : List Placed} → SpellsTokens end text ts → SpellsTokens end text us → ts ≡ us
one_list tokens.nothing tokens.nothing = refl
one_list tokens.nothing (tokens.space e h) = absurd (cc)
one_list tokens.nothing (tokens.token t front h) = absurd (no_empty front)
one_list tokens.nothing (tokens.no_token b e apart none) = absurd (cc)
one_list (tokens.space e h) tokens.nothing = absurd (cc)
one_list {end = end} {us = us} (tokens.space e h) (tokens.space f g) = one_list h (subst (λ s. SpellsTokens end s us) (tail_is (sym f ∙ e)) g)
one_list (tokens.space e h) (tokens.token t front g) = absurd (never 0x20 refl refl refl e front)
one_list (tokens.space e h) (tokens.no_token b f apart none) = absurd (apart (head_is (sym f ∙ e)))
one_list (tokens.token t front h) tokens.nothing = absurd (no_empty front)
one_list (tokens.token t front h) (tokens.space e g) = absurd (never 0x20 refl refl refl e front)
one_list {end = end} {text = text} (tokens.token {ts = ts} t front h) (tokens.token {ts = us} u other g) =
    let same = one_front front other in
    let rest = one_list h (subst (λ s. SpellsTokens end s us) (sym same.rest_is) g) in
    ap (λ x. record { at = end - length text; token = x } ∷ ts) same.token_is ∙ ap (λ x. record { at = end - length text; token = u } ∷ x) rest
one_list (tokens.token {rest = rest} t front h) (tokens.no_token b e apart none) = absurd (none t rest front)
one_list (tokens.no_token b e apart none) tokens.nothing = absurd (cc)
one_list (tokens.no_token b e apart none) (tokens.space f g) = absurd (apart (head_is (sym e ∙ f)))
one_list (tokens.no_token b e apart none) (tokens.token {rest = rest} t front g) = absurd (none t rest front)
one_list (tokens.no_token b e apart none) (tokens.no_token c f differs nothing_else) = refl

-- ---- whether some is left

pub some_left : (s : Text) → false ≡ eqb (length s) 0 → 0 < length s
some_left [] h = absurd (both_ways true (sym h) refl)
some_left (b ∷ s) h = omega arith

pub none_left : (s : Text) → true ≡ eqb (length s) 0 → s ≡ []
none_left s h = nil_from_length s (eqb-true (length s) 0 (sym h))
