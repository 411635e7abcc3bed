-- What a request of an input is found to be, by its line and its body.
use Rattle.std.specs.Prelude.{◌≡◌, ℕ, ◌+◌, ◌^◌, ◌<◌, ◌≤◌, Bool, true, false, nat_le, List, [], ◌∷◌, ◌++◌, length, IsTrue, Some, Result, Ok, Err, MatchResult}
use Rattle.grid_outside.specs.Source.{SourceState}
use Rattle.grid_model.specs.Names.{Text}
use Rattle.grid_model.specs.Limits.{longest_line, object_size}
use Rattle.grid_model.specs.Places.{IsRefusedAt}
use Rattle.grid_model.specs.Words.{SpellsLine}
use Rattle.grid_model.specs.Inputs.{Asked, Takes, AreRequests, IsPart}
use Rattle.grid_model.specs.declared.requests.Request.{Request}
use Rattle.grid_model.specs.declared.refusal.Refusal.{Refusal}
use Rattle.grid_model.specs.declared.refusal.Refusal.TheVariants as refusal
use Rattle.cmd_read.specs.Reading.{Reads}
use Rattle.cmd_read.specs.Orders.{promised, refusal_of}
use Rattle.cmd_read.specs.declared.error.ReadError.{ReadError}
use Rattle.req_lines.specs.Reading.{Input}
use Rattle.req_lines.specs.declared.requests.Heard.{Heard}
use Rattle.req_lines.specs.declared.requests.Next.{Next}
use Rattle.req_lines.specs.declared.requests.Next.TheVariants as next

-- ---- a request

-- A line with its body is read as this request, or is refused so, whatever the state is.
pub data IsReadAs (line body : Text) : Result Request Refusal → Type 0 where
  a_request : {words : List Text} (request : Request) → length line ≤ longest_line → SpellsLine line words → Reads words (Ok request)
      → promised request.verb ≤ length body → IsReadAs line body (Ok request)
  cut_short : {words : List Text} (request : Request) → length line ≤ longest_line → SpellsLine line words → Reads words (Ok request)
      → length body < promised request.verb → IsReadAs line body (Err (refusal.Truncated (length body) (promised request.verb)))
  wrong_words : {words : List Text} {r : Refusal} (why : ReadError) → length line ≤ longest_line → SpellsLine line words → Reads words (Err why)
      → refusal_of why ≡ Some r → IsReadAs line body (Err r)
  no_words : {place : ℕ} → length line ≤ longest_line → IsRefusedAt SpellsLine line place → IsReadAs line body (Err (refusal.Syntax place))
  too_long : longest_line < length line → IsReadAs line body (Err refusal.TooLong)

-- a body of which so many bytes were promised, or nothing where these are more than an object may have
abbrev pub kept : ℕ → Text → Text
kept count body = elim (nat_le count object_size) [ true ↦ body | false ↦ [] ]

-- what is held of a body: nothing where the request is refused
abbrev pub held_of : Result Request Refusal → Text → Text
held_of (Ok request) body = kept (promised request.verb) body
held_of (Err r) body = []

-- what is kept of the line of a request: all of it, and nothing where the request is refused
abbrev pub KeepsLine : Result Request Refusal → Text → Text → Type 0
KeepsLine asked text line = MatchResult asked (λ _. text ≡ line) (λ _. text ≡ [])

-- ---- the input

-- what stands before the reader
abbrev pub ahead : Input → Text
ahead i = i.reader.unread ++ i.source.left

-- These bytes of the input were gone over, within those that are read. What stands before a reader is known where its source
-- tells what it has left.
pub record GoesOver (old new : Input) (bytes : Text) : Type 0 where
  pub split : IsTrue old.source.tells → ahead old ≡ bytes ++ ahead new
  pub count : new.reader.taken + length old.reader.unread ≡ old.reader.taken + length bytes + length new.reader.unread
  pub most : new.reader.taken ≤ 2 ^ 48

-- nothing stands before the reader
pub record IsAtEnd (at : Input) : Type 0 where
  pub unread : at.reader.unread ≡ []
  pub left : IsTrue at.source.tells → at.source.left ≡ []

-- These bytes are lines without words and then this request, whole or as the end of the input leaves it.
abbrev pub IsOneRequest : Bool → Text → Asked → Input → Type 0
IsOneRequest false bytes asked new = Takes bytes (asked ∷ []) []
IsOneRequest true bytes asked new = AreRequests bytes (asked ∷ []) × IsAtEnd new

-- lines without words were gone over
pub record Skips (old new : Input) : Type 0 where
  pub bytes : Text
  pub over : GoesOver old new bytes
  pub none : Takes bytes [] []

-- the next request of the input was heard
pub record Hears (old new : Input) (heard : Heard) : Type 0 where
  pub asked : Asked
  pub bytes : Text
  pub over : GoesOver old new bytes
  pub is_next : IsOneRequest heard.ends bytes asked new
  pub read : IsReadAs asked.line asked.body heard.asked
  pub held : heard.body ≡ held_of heard.asked asked.body
  pub fits : length heard.body ≤ object_size
  pub keeps : KeepsLine heard.asked heard.line asked.line

-- the input has no more requests
pub record HearsNone (old new : Input) : Type 0 where
  pub bytes : Text
  pub over : GoesOver old new bytes
  pub none : AreRequests bytes []
  pub ended : IsAtEnd new

-- No request ends within the bytes that are read, and behind these the input has at least one more.
pub record GoesOn (old new : Input) : Type 0 where
  pub bytes : Text
  pub byte : ℕ
  pub split : IsTrue old.source.tells → ahead old ≡ bytes ++ byte ∷ new.source.left
  pub full : old.reader.taken + length bytes ≡ 2 ^ 48 + length old.reader.unread
  pub left : Text
  pub none : Takes bytes [] left
  pub part : IsPart left
  pub taken : new.reader.taken ≡ 2 ^ 48 + 1
  pub unread : new.reader.unread ≡ []

-- These bytes of the input were taken, whatever came of them, and all are within those that are read.
pub record Stops (old : Input) (to : SourceState) : Type 0 where
  pub bytes : Text
  pub split : IsTrue old.source.tells → ahead old ≡ bytes ++ to.left
  pub within : old.reader.taken + length bytes ≤ 2 ^ 48 + length old.reader.unread

-- no request ends within the bytes that came before the source failed
pub record BreaksOff (old : Input) (to : SourceState) : Type 0 where
  pub bytes : Text
  pub split : IsTrue old.source.tells → ahead old ≡ bytes ++ to.left
  pub within : old.reader.taken + length bytes ≤ 2 ^ 48 + length old.reader.unread
  pub left : Text
  pub none : Takes bytes [] left
  pub part : IsPart left

-- what was found of the input
abbrev pub Finds : Input → Input → Next → Type 0
Finds old new (next.Request heard) = Hears old new heard
Finds old new next.End = HearsNone old new
Finds old new next.Long = GoesOn old new
