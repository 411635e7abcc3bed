-- Spaces and comments, a step at a time.
use Rattle.std.proofs.Common.{◌≡◌, ℕ, ◌+◌, ◌-◌, ◌<◌, ◌≤◌, true, List, [], ◌∷◌, ◌++◌, length, take, drop, get_or, sym, ap, subst, ◌∙◌, arith}
use Rattle.std.specs.Prelude.{not, slice_index, slice_range}
use Rattle.std.specs.List.{list_all}
use Rattle.std.proofs.lemmas.List.{drop_more, take_more, drop-drop, take-append-drop, get_or-drop, length-take-le, length-drop}
use Rattle.rule_lex.specs.Bytes.{SourceText, is_space}
use Rattle.rule_lex.specs.Tokens.{is_in_line, EndsLine, IsComment, PlacedToken, SpellsRuleTokens}
use Rattle.rule_lex.specs.Tokens as tokens
use Rattle.rule_lex.specs.Skipping.{SkipsBlanks, none, space, comment}
use Rattle.rule_lex.proofs.NumberLemmas.{all_more}
use Rattle.rule_lex.proofs.SignLemmas.{same_false}

-- ---- one more is skipped

skips_on : {a b c : ℕ} {all mid rest : SourceText} → SkipsBlanks a all b mid → SkipsBlanks b mid c rest → SkipsBlanks a all c rest
skips_on none h = h
skips_on (space is more) h = space is (skips_on more h)
skips_on (comment line c more) h = comment line c (skips_on more h)

pub skips_space : (text : SourceText) (from at : ℕ) → SkipsBlanks from (drop from text) at (drop at text) → at < length text → is_space (slice_index text at) ≡ true → SkipsBlanks from (drop from text) (at + 1) (drop (at + 1) text)
skips_space text from at so_far low is =
    skips_on so_far (subst (λ s. SkipsBlanks at s (at + 1) (drop (at + 1) text)) (sym (drop_more text at 0 low)) (space is none))

pub skips_comment : (text : SourceText) (from at to : ℕ) → SkipsBlanks from (drop from text) at (drop at text) → at < length text → slice_index text at ≡ 0x23 → at + 1 ≤ to → to ≤ length text → list_all is_in_line (slice_range text (at + 1) to) ≡ true → EndsLine (drop to text)
    → SkipsBlanks from (drop from text) to (drop to text)
skips_comment text from at to so_far low is behind within line ends =
    skips_on so_far (comment (slice_range text (at + 1) to) (record { split = split; one_line = line; ends = ends })
    (subst (λ k. SkipsBlanks k (drop to text) to (drop to text)) (omega (arith, size, behind)) none))
  where
    size : length (slice_range text (at + 1) to) ≡ to - (at + 1)
    size = length-take-le (to - (at + 1)) (drop (at + 1) text) (omega (arith, within, length-drop (at + 1) text))

    split : drop at text ≡ 0x23 ∷ slice_range text (at + 1) to ++ drop to text
    split =
        drop_more text at 0 low ∙ ap (λ k. k ∷ drop (at + 1) text) is
        ∙ ap (λ s. 0x23 ∷ s) (sym (take-append-drop (to - (at + 1)) (drop (at + 1) text))
        ∙ ap (λ s. slice_range text (at + 1) to ++ s) (drop-drop (to - (at + 1)) (at + 1) text ∙ ap (λ k. drop k text) (omega (arith, behind))))

-- the line so far, and a byte more
pub line_more : (text : SourceText) (from at : ℕ) → from ≤ at → at < length text → list_all is_in_line (slice_range text from at) ≡ true → (slice_index text at ≡ 0x0A → ⊥) → list_all is_in_line (slice_range text from (at + 1)) ≡ true
line_more text from at behind low so_far other = ap (list_all is_in_line) longer ∙ all_more is_in_line (slice_range text from at) (slice_index text at) so_far (ap not (same_false (slice_index text at) 0x0A other))
  where
    longer : slice_range text from (at + 1) ≡ slice_range text from at ++ slice_index text at ∷ []
    longer =
        ap (λ k. take k (drop from text)) (omega (arith, behind)) ∙ take_more (drop from text) (at - from) 0 (omega (arith, low, behind, length-drop from text))
        ∙ ap (λ b. slice_range text from at ++ b ∷ []) (get_or-drop from text (at - from) 0 ∙ ap (λ k. get_or text k 0) (omega (arith, behind)))

-- ---- what is skipped is no token

pub skipped_spells : {a b : ℕ} {all rest : SourceText} {ts : List PlacedToken} → SkipsBlanks a all b rest → SpellsRuleTokens b rest ts → SpellsRuleTokens a all ts
skipped_spells none h = h
skipped_spells (space is more) h = tokens.space is (skipped_spells more h)
skipped_spells (comment line c more) h = tokens.comment line c (skipped_spells more h)
