-- What stands at the front of the rest of a text.
use Rattle.std.specs.Prelude.{◌≡◌, ℕ, ◌+◌, ◌<◌, ◌≤◌, ◌++◌, IsTrue, length, take, drop, slice_index}
use Rattle.std.specs.List.{list_all}
use Rattle.rule_lex.specs.Bytes.{SourceText, is_digit, starts_with_letter}
use Rattle.rule_lex.specs.Seen.{meaning_of}
use Rattle.rule_lex.specs.Tokens.{RuleToken, SpellsToken, IsName, number_from}
use Rattle.rule_lex.specs.declared.front.Front.{Front}
use Rattle.rule_lex.specs.declared.front.Front.TheVariants as front

-- The bytes begin those of a token.
pub record BeginsToken (s : SourceText) : Type 0 where
  pub more : SourceText
  pub token : RuleToken
  pub spells : SpellsToken (s ++ more) token

-- The bytes are the longest token before this rest. With more of the rest they begin no token, but for one letter
-- more: `*on` is no parameter, though `*o` and `*one` are.
pub record IsLongestToken (spelled rest : SourceText) (t : RuleToken) : Type 0 where
  pub spells : SpellsToken spelled t
  pub none_longer : (k : ℕ) (u : RuleToken) → 0 < k → k ≤ length rest → ¬ SpellsToken (spelled ++ take k rest) u
  pub steady : (k : ℕ) → 0 < k → k ≤ length rest → BeginsToken (spelled ++ take k rest) → (k ≡ 1) × IsTrue (starts_with_letter rest)

-- No front of the rest is a token, and so many bytes are the longest front that begins one.
pub record IsNoFront (rest : SourceText) (n : ℕ) : Type 0 where
  pub within : n ≤ length rest
  pub no_letter : ¬ IsTrue (starts_with_letter rest)
  pub none : (k : ℕ) (u : RuleToken) → k ≤ length rest → ¬ SpellsToken (take k rest) u
  pub begins : 0 < n → BeginsToken (take n rest)
  pub longest : (k : ℕ) → n < k → k ≤ length rest → ¬ BeginsToken (take k rest)

-- The bytes are the longest name before this rest. With more of the rest they begin no name, but for one letter more.
pub record IsFirstName (name rest : SourceText) : Type 0 where
  pub is_name : IsName name
  pub none_longer : (k : ℕ) → 0 < k → k ≤ length rest → ¬ IsName (name ++ take k rest)
  pub steady : (k : ℕ) (more : SourceText) → 0 < k → k ≤ length rest → IsName (name ++ take k rest ++ more) → (k ≡ 1) × IsTrue (starts_with_letter rest)

-- So many digits at the front make a number, the longest of at most this value.
pub record AreDigits (bytes : SourceText) (most n value : ℕ) : Type 0 where
  pub within : n ≤ length bytes
  pub some : 0 < n
  pub digits : IsTrue (list_all is_digit (take n bytes))
  pub value_is : value ≡ number_from 0 (take n bytes)
  pub at_most : value ≤ most
  pub ends : n < length bytes → IsTrue (is_digit (slice_index bytes n)) → most < number_from 0 (take (n + 1) bytes)

-- what a front of the rest is
abbrev pub IsRestFront : SourceText → Front → Type 0
IsRestFront rest (front.Token n v) = (n ≤ length rest) × IsLongestToken (take n rest) (drop n rest) (meaning_of v)
IsRestFront rest (front.Bad n) = IsNoFront rest n
