-- The printed text of rules spells them again.
use Rattle.std.proofs.Common.{◌≡◌, ℕ, ◌+◌, List, [], ◌∷◌, ◌++◌, length, map, refl, sym, ap, subst, ◌∙◌}
use Rattle.std.proofs.lemmas.List.{append_assoc, append-nil, map-append}
use Rattle.grid_model.specs.Names.{Text}
use Rattle.grid_model.specs.Printing.{spaced}
use Rattle.grid_model.specs.RuleText.{Rule}
use Rattle.grid_model.specs.Parsed.{RuleAt, plain_rule}
use Rattle.rule_lex.specs.Tokens.{RuleToken, named, param, symbol, PlacedToken, SpellsRuleTokens, at_end, space, comment, token}
use Rattle.rule_lex.specs.declared.token.Symbol.TheVariants as sign
use Rattle.rule_parse.specs.Grammar.{Tokens, SpellsRules, no_rules, rules}
use Rattle.rule_parse.specs.Printed.{print_token, in_parentheses, in_braces, with_commas, body_tokens, rule_tokens, print_rule, print_rules}
use Rattle.rule_parse.specs.RuleTexts.{located, IsTextOf, IsReadAgain}
use Rattle.rule_parse.specs.Seen.{open_tokens, spread}
use Rattle.rule_parse.proofs.TokenLexing.{AllWritable, written, one_more}
use Rattle.rule_parse.proofs.PrintedTerms.{kinds}
use Rattle.rule_parse.proofs.PrintedAgain.{rule_printed, front_writable, back_writable}

-- ---- a line

-- the tokens of a line that begins at this place, and where it ends
abbrev places : ℕ → List RuleToken → List PlacedToken
places p [] = []
places p (t ∷ ts) = record { at = p; spelled = print_token t; token = t } ∷ places (p + length (print_token t) + 1) ts

abbrev end_of : ℕ → List RuleToken → ℕ
end_of p [] = p
end_of p (t ∷ ts) = end_of (p + length (print_token t) + 1) ts

abbrev kind_of : PlacedToken → RuleToken
kind_of t = t.token

kinds_of_places : (p : ℕ) (ts : List RuleToken) → kinds (map located (places p ts)) ≡ ts
kinds_of_places p [] = refl
kinds_of_places p (t ∷ ts) = ap (λ l. t ∷ l) (kinds_of_places (p + length (print_token t) + 1) ts)

line : (p : ℕ) (t : RuleToken) (ts : List RuleToken) (rest : Text) (later : ℕ → List PlacedToken) → AllWritable (t ∷ ts) → ((q : ℕ) → SpellsRuleTokens q rest (later q))
    → SpellsRuleTokens p ((spaced (map print_token (t ∷ ts)) ++ 0x0A ∷ []) ++ rest) (places p (t ∷ ts) ++ later (end_of p (t ∷ ts)))
line p t [] rest later w h =
    subst (λ s. SpellsRuleTokens p s (places p (t ∷ []) ++ later (end_of p (t ∷ [])))) (sym (append_assoc (print_token t) (0x0A ∷ []) rest)) (one_more 0x0A t w.0 refl refl (h (p + length (print_token t) + 1)))
line p t (u ∷ ts) rest later w h =
    subst (λ s. SpellsRuleTokens p s (places p (t ∷ u ∷ ts) ++ later (end_of p (t ∷ u ∷ ts)))) (sym (regroup (print_token t) (spaced (map print_token (u ∷ ts))) rest))
    (one_more 0x20 t w.0 refl refl (line (p + length (print_token t) + 1) u ts rest later w.1 h))
  where
    regroup : (a b c : Text) → ((a ++ 0x20 ∷ b) ++ 0x0A ∷ []) ++ c ≡ a ++ 0x20 ∷ ((b ++ 0x0A ∷ []) ++ c)
    regroup a b c = simp append_assoc

-- ---- all lines

record Lines (rs : List RuleAt) : Type 0 where
  tokens : ℕ → List PlacedToken
  made : (p : ℕ) → SpellsRuleTokens p (print_rules (map plain_rule rs)) (tokens p)
  again : (p : ℕ) → (bs : List RuleAt) × SpellsRules (map located (tokens p)) bs × (map plain_rule bs ≡ map plain_rule rs)

lines : {us : Tokens} {rs : List RuleAt} → SpellsRules us rs → AllWritable (kinds us) → Lines rs
lines no_rules w = record { tokens = λ p. []; made = λ p. at_end; again = λ p. ([], no_rules, refl) }
lines (rules {all = all} {ts = us} {us = vs} {r = r} {rs = rs} h g split) w =
    let a = rule_printed h (front_writable all us vs split w) in
    let b = lines g (back_writable all us vs split w) in
    record {
      tokens = λ p. places p (rule_tokens (plain_rule r)) ++ b.tokens (end_of p (rule_tokens (plain_rule r)));
      made = λ p. line p (named (plain_rule r).name) (in_parentheses (with_commas (map (λ n. param n ∷ []) (plain_rule r).params)) ++ in_braces (body_tokens (plain_rule r).cond (plain_rule r).steps)) (print_rules (map plain_rule rs)) b.tokens a.writable b.made;
      again = λ p.
          let x = a.again (map located (places p (rule_tokens (plain_rule r)))) (kinds_of_places p (rule_tokens (plain_rule r))) in
          let y = b.again (end_of p (rule_tokens (plain_rule r))) in
          (x.0 ∷ y.0, rules x.1 y.1 (map-append located (places p (rule_tokens (plain_rule r))) (b.tokens (end_of p (rule_tokens (plain_rule r))))), ap (λ z. z ∷ map plain_rule y.0) x.2 ∙ ap (λ z. plain_rule r ∷ z) y.2);
    }

-- tokens of a text are printed as what spells them
text_writable : {p : ℕ} {text : Text} {ts : List PlacedToken} → SpellsRuleTokens p text ts → AllWritable (kinds (map located ts))
text_writable at_end = tt
text_writable (space is h) = text_writable h
text_writable (comment l is h) = text_writable h
text_writable (token spelled t front h) = (written front.spells, text_writable h)

pub printed_again : {text : Text} (rs : List RuleAt) → IsTextOf SpellsRules text rs → IsReadAgain (print_rules (map plain_rule rs)) rs
printed_again rs h =
    let w = lines h.spells (text_writable h.made) in
    let x = w.again 0 in
    record { again = x.0; spells = record { tokens = w.tokens 0; made = w.made 0; spells = x.1 }; same = x.2 }

-- ---- a line as it is written

spread_last : (ts : List RuleToken) (x : RuleToken) → spread ts ++ print_token x ≡ spaced (map print_token (ts ++ x ∷ []))
spread_last [] x = refl
spread_last (t ∷ []) x = regroup (print_token t) (print_token x)
  where
    regroup : (a b : Text) → ((a ++ 0x20 ∷ []) ++ []) ++ b ≡ a ++ 0x20 ∷ b
    regroup a b = simp (append_assoc, append-nil)
spread_last (t ∷ u ∷ ts) x = regroup (print_token t) (spread (u ∷ ts)) (print_token x) ∙ ap (λ l. print_token t ++ 0x20 ∷ l) (spread_last (u ∷ ts) x)
  where
    regroup : (a b c : Text) → ((a ++ 0x20 ∷ []) ++ b) ++ c ≡ a ++ 0x20 ∷ (b ++ c)
    regroup a b c = simp append_assoc

pub line_is : (r : Rule) (before : Text) → (((before ++ spread (open_tokens r)) ++ 0x7D ∷ []) ++ 0x0A ∷ []) ≡ before ++ print_rule r
line_is r before =
    regroup before (spread (open_tokens r))
    ∙ ap (λ l. before ++ (l ++ 0x0A ∷ [])) (spread_last (open_tokens r) (symbol sign.CloseBrace) ∙ ap (λ l. spaced (map print_token l)) (append_assoc (named r.name ∷ in_parentheses (with_commas (map (λ n. param n ∷ []) r.params))) (symbol sign.OpenBrace ∷ body_tokens r.cond r.steps) (symbol sign.CloseBrace ∷ [])))
  where
    regroup : (a b : Text) → ((a ++ b) ++ 0x7D ∷ []) ++ 0x0A ∷ [] ≡ a ++ ((b ++ 0x7D ∷ []) ++ 0x0A ∷ [])
    regroup a b = simp append_assoc
