-- Where the tokens of a text stand in it.
use Rattle.std.proofs.Common.{◌≡◌, ℕ, ◌+◌, ◌-◌, ◌<◌, ◌≤◌, List, [], ◌∷◌, ◌++◌, length, take, drop, refl, sym, ap, ◌∙◌, arith}
use Rattle.std.specs.Prelude.{slice_range}
use Rattle.std.proofs.lemmas.List.{drop-drop, take_at, drop_at, length-append, length-drop}
use Rattle.rule_lex.specs.Bytes.{SourceText}
use Rattle.rule_lex.specs.Tokens.{PlacedToken, SpellsRuleTokens, at_end, space, comment, token}
use Rattle.rule_lex.specs.Spans.{StandInOrder}
use Rattle.rule_lex.proofs.Firsts.{starts_token, starts_length}

-- what is behind a front of a rest
behind : (text : SourceText) (place : ℕ) (f rest : SourceText) → drop place text ≡ f ++ rest → drop (place + length f) text ≡ rest
behind text place f rest e = sym (drop-drop (length f) place text) ∙ ap (drop (length f)) e ∙ drop_at f rest (length f) refl

pub in_order : {place : ℕ} {all : SourceText} {ts : List PlacedToken} (text : SourceText) (from : ℕ) → SpellsRuleTokens place all ts → drop place text ≡ all → from ≤ place → StandInOrder text from ts
in_order text from at_end e low = tt
in_order {place = place} text from (space {b = b} {rest = rest} is more) e low = in_order text from more (behind text place (b ∷ []) rest e) (omega (arith, low))
in_order {place = place} text from (comment {rest = rest} line c more) e low =
    in_order text from more (ap (λ k. drop (place + k) text) (omega arith) ∙ behind text place (0x23 ∷ line) rest (e ∙ c.split)) (omega (arith, low))
in_order {place = place} {all = all} text from (token {rest = rest} spelled t front more) e low =
    (low, some, within, spelled_is, in_order text (place + length spelled) more (behind text place spelled rest (e ∙ front.split)) (omega arith))
  where
    some : 0 < length spelled
    some = starts_length spelled (starts_token front.spells)

    size : length text - place ≡ length spelled + length rest
    size = sym (length-drop place text) ∙ ap length (e ∙ front.split) ∙ length-append spelled rest

    within : place + length spelled ≤ length text
    within = omega (arith, some, size)

    spelled_is : slice_range text place (place + length spelled) ≡ spelled
    spelled_is = ap (λ k. take k (drop place text)) (count (length spelled)) ∙ ap (take (length spelled)) (e ∙ front.split) ∙ take_at spelled rest (length spelled) refl
      where
        count : (n : ℕ) → place + n - place ≡ n
        count n = omega arith
