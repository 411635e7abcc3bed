-- Where a text stops being one that is made of tokens.
use Rattle.std.specs.Prelude.{ℕ, ◌<◌, ◌≤◌, List, ◌++◌, length, take}
use Rattle.rule_lex.specs.Bytes.{SourceText}
use Rattle.rule_lex.specs.Tokens.{PlacedToken, SpellsRuleTokens}

-- The text begins one that is made of tokens.
pub record BeginsTokens (text : SourceText) : Type 0 where
  pub more : SourceText
  pub tokens : List PlacedToken
  pub spells : SpellsRuleTokens 0 (text ++ more) tokens

-- The text is not made of tokens, and this is the length of its longest front that begins one which is.
pub record IsSourceRefusedAt (text : SourceText) (place : ℕ) : Type 0 where
  pub spells_nothing : (tokens : List PlacedToken) → ¬ SpellsRuleTokens 0 text tokens
  pub within : place ≤ length text
  pub begins : BeginsTokens (take place text)
  pub longest : (n : ℕ) → place < n → n ≤ length text → ¬ BeginsTokens (take n text)
