-- The requests of an input: lines, some with bytes behind them that belong to them. The format is this project's own.
use Rattle.std.specs.Prelude.{◌≡◌, ℕ, ◌^◌, ◌<◌, ◌≤◌, false, List, [], ◌∷◌, ◌++◌, length, map, IsTrue, codes, decimal}
use Rattle.std.specs.List.{list_any}
use Rattle.grid_model.specs.Names.{Text, same_text}
use Rattle.grid_model.specs.Limits.{longest_line}
use Rattle.grid_model.specs.Lines.{IsLine, is_request}
use Rattle.grid_model.specs.Words.{SpellsLine}

-- the verbs behind whose line a body comes
abbrev pub verbs_with_body : List Text
verbs_with_body = map codes ("put" ∷ "part" ∷ "rules" ∷ [])

-- Words promise a body of so many bytes, whatever else is wrong with them: the second one is such a verb, and the last
-- one is the count in decimal.
pub record PromisesBody (words : List Text) (count : ℕ) : Type 0 where
  pub session : Text
  pub verb : Text
  pub more : List Text
  pub words_are : words ≡ session ∷ verb ∷ more
  pub has_one : IsTrue (list_any (same_text verb) verbs_with_body)
  pub front : List Text
  pub last_is : words ≡ front ++ decimal count ∷ []
  pub small : count < 2 ^ 64

-- so many bytes behind the newline of a line belong to its request
pub data HasBody (line : Text) : ℕ → Type 0 where
  a_body : {words : List Text} {count : ℕ} → length line ≤ longest_line → SpellsLine line words → PromisesBody words count → HasBody line count
  no_body : ((words : List Text) (count : ℕ) → length line ≤ longest_line → SpellsLine line words → ¬ PromisesBody words count) → HasBody line 0

-- a request as it was read: its line, and the bytes of its body
pub record Asked : Type 0 where
  pub line : Text
  pub body : Text

-- These requests stand whole at the front of an input, with lines without words between them, and this is left.
pub data Takes : Text → List Asked → Text → Type 0 where
  none_taken : {input : Text} → Takes input [] input
  takes_one : {input rest left : Text} {more : List Asked} (line body : Text) → input ≡ line ++ 0x0A ∷ body ++ rest → IsLine line → IsTrue (is_request line)
      → HasBody line (length body)
      → Takes rest more left → Takes input (record { line = line; body = body } ∷ more) left
  takes_blank : {input rest left : Text} {more : List Asked} (line : Text) → input ≡ line ++ 0x0A ∷ rest → IsLine line → is_request line ≡ false
      → Takes rest more left → Takes input more left

-- What the end of an input makes of what is left: the last line needs no newline, and a body may have fewer bytes than
-- were promised.
pub data EndsWith : Text → List Asked → Type 0 where
  ends_blank : {line : Text} → IsLine line → is_request line ≡ false → EndsWith line []
  ends_in_line : {line : Text} → IsLine line → IsTrue (is_request line) → EndsWith line (record { line = line; body = [] } ∷ [])
  ends_in_body : {left : Text} {count : ℕ} (line body : Text) → left ≡ line ++ 0x0A ∷ body → IsLine line → IsTrue (is_request line) → HasBody line count
      → length body < count
      → EndsWith left (record { line = line; body = body } ∷ [])

-- all requests of an input
pub record AreRequests (input : Text) (asked : List Asked) : Type 0 where
  pub whole : List Asked
  pub left : Text
  pub last : List Asked
  pub takes : Takes input whole left
  pub ends : EndsWith left last
  pub are : asked ≡ whole ++ last

-- the front of an input in which no line and no body ends
pub data IsPart : Text → Type 0 where
  of_line : {part : Text} → IsLine part → IsPart part
  of_body : {part : Text} {count : ℕ} (line body : Text) → part ≡ line ++ 0x0A ∷ body → IsLine line → IsTrue (is_request line) → HasBody line count
      → length body < count → IsPart part
