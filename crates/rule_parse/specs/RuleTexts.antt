-- Which texts spell what by a grammar of tokens, and where the others are refused.
use Rattle.std.specs.Prelude.{◌≡◌, ℕ, zero, suc, List, [], ◌∷◌, length, map}
use Rattle.grid_model.specs.Names.{Text}
use Rattle.grid_model.specs.Places.{IsRefusedAt}
use Rattle.grid_model.specs.declared.refusal.RuleCause.{RuleCause}
use Rattle.grid_model.specs.declared.refusal.RuleCause.TheVariants as cause
use Rattle.rule_lex.specs.Tokens.{RuleToken, PlacedToken, SpellsRuleTokens}
use Rattle.rule_lex.specs.Places as lexed
use Rattle.grid_model.specs.Parsed.{RuleAt, plain_rule}
use Rattle.rule_parse.specs.Grammar.{Tokens, SpellsRules}

-- a token and its place, without its bytes
abbrev pub located : PlacedToken → ℕ × RuleToken
located t = (t.at, t.token)

-- the place of this one of the tokens, counted from 0 on, or the end
abbrev pub place_of_token : List PlacedToken → ℕ → ℕ → ℕ
place_of_token [] end count = end
place_of_token (t ∷ ts) end zero = t.at
place_of_token (t ∷ ts) end (suc count) = place_of_token ts end count

module _ {A : Type 0} (Spells : Tokens → A → Type 0) where
  -- The text spells this.
  pub record IsTextOf (text : Text) (a : A) : Type 0 where
    pub tokens : List PlacedToken
    pub made : SpellsRuleTokens 0 text tokens
    pub spells : Spells (map located tokens) a

  -- The tokens of a text of this length spell nothing, and this is the place of the first with which those so far begin
  -- none that do.
  pub record RulesStopAt (ts : List PlacedToken) (end place : ℕ) : Type 0 where
    pub count : ℕ
    pub refused : IsRefusedAt Spells (map located ts) count
    pub place_is : place ≡ place_of_token ts end count

  -- The text spells nothing, and is refused at this place for this cause: it is not made of tokens, or its tokens stop.
  pub data IsRefusedText (text : Text) (place : ℕ) : RuleCause → Type 0 where
    no_tokens : lexed.IsSourceRefusedAt text place → IsRefusedText text place cause.Token
    no_grammar : (tokens : List PlacedToken) → SpellsRuleTokens 0 text tokens → RulesStopAt tokens (length text) place → IsRefusedText text place cause.Grammar

-- The text spells these rules again, but for their places.
pub record IsReadAgain (text : Text) (rs : List RuleAt) : Type 0 where
  pub again : List RuleAt
  pub spells : IsTextOf SpellsRules text again
  pub same : map plain_rule again ≡ map plain_rule rs
