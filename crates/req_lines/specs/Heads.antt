-- What the line of a request tells of it, and what was found behind that line.
use Rattle.std.specs.Prelude.{◌≡◌, ℕ, Bool, true, false, nat_le, List, [], length, Some, Result, Ok, Err, IfOk}
use Rattle.grid_outside.specs.Source.{SourceState}
use Rattle.grid_model.specs.Names.{Text}
use Rattle.grid_model.specs.Limits.{object_size}
use Rattle.grid_model.specs.Lines.{is_request}
use Rattle.grid_model.specs.Inputs.{HasBody}
use Rattle.grid_model.specs.declared.requests.Request.{Request}
use Rattle.grid_model.specs.declared.refusal.Refusal.{Refusal}
use Rattle.grid_model.specs.declared.refusal.Refusal.TheVariants.{Truncated}
use Rattle.cmd_read.specs.Reading.{Reads}
use Rattle.cmd_read.specs.Orders.{promised, refusal_of}
use Rattle.cmd_read.specs.declared.error.ReadError.{ReadError}
use Rattle.req_lines.specs.Reading.{Input, Passes, PassesPart}
use Rattle.req_lines.specs.Hearing.{IsReadAs, held_of, KeepsLine}
use Rattle.req_lines.specs.declared.head.Head.{Head}
use Rattle.req_lines.specs.declared.line_reader.Passed.{Passed}
use Rattle.req_lines.specs.declared.line_reader.Passed.TheVariants as passed
use Rattle.req_lines.specs.declared.requests.Heard.{Heard}
use Rattle.req_lines.specs.declared.requests.Next.{Next}
use Rattle.req_lines.specs.declared.requests.Next.TheVariants as next

-- what is asked for with this body behind a line of which so many bytes are promised, and which alone asks for this
abbrev pub asked_with : Result Request Refusal → ℕ → Text → Result Request Refusal
asked_with (Ok request) count body = elim (nat_le count (length body)) [ true ↦ Ok request | false ↦ Err (Truncated (length body) count) ]
asked_with (Err r) count body = Err r

-- the body is held: there is a request, with no more bytes than an object may have
abbrev pub is_held : Result Request Refusal → ℕ → Bool
is_held (Ok request) count = nat_le count object_size
is_held (Err r) count = false

-- the words were read so
abbrev pub AreRead : List Text → Result Request Refusal → Type 0
AreRead words (Ok request) = Reads words (Ok request)
AreRead words (Err r) = (why : ReadError) × Reads words (Err why) × (refusal_of why ≡ Some r)

-- the line was read so
pub record IsHead (line : Text) (head : Head) : Type 0 where
  pub reads : (body : Text) → IsReadAs line body (asked_with head.asked head.count body)
  pub has : HasBody line head.count
  pub promises : IfOk head.asked (λ request. promised request.verb ≡ head.count)
  pub keeps : KeepsLine head.asked head.line line

-- how this body was passed over, with which the input has ended or not
abbrev pub passed_so : Bool → Text → Passed
passed_so true body = passed.Short (length body)
passed_so false body = passed.Whole

-- a request was heard, behind whose line this was passed over
pub record HearsBehind (line : Text) (old new : Input) (heard : Heard) : Type 0 where
  pub count : ℕ
  pub body : Text
  pub has : HasBody line count
  pub passes : Passes old count (passed_so heard.ends body) new body
  pub read : IsReadAs line body heard.asked
  pub held : heard.body ≡ held_of heard.asked body
  pub keeps : KeepsLine heard.asked heard.line line

-- its body goes on past the bytes that are read
pub record GoesOnBehind (line : Text) (old new : Input) : Type 0 where
  pub count : ℕ
  pub body : Text
  pub has : HasBody line count
  pub passes : Passes old count passed.Long new body

-- the source failed within its body
pub record BreaksOffBehind (line : Text) (old : Input) (to : SourceState) : Type 0 where
  pub count : ℕ
  pub has : HasBody line count
  pub passes : PassesPart old count to

-- what was found behind the line of a request
abbrev pub FindsBehind : Text → Input → Input → Next → Type 0
FindsBehind line old new (next.Request heard) = HearsBehind line old new heard
FindsBehind line old new next.End = ⊥
FindsBehind line old new next.Long = GoesOnBehind line old new

-- what the last line of the input is, behind which nothing comes
abbrev pub IsLast : Text → Next → Type 0
IsLast line (next.Request heard) =
    (is_request line ≡ true) × IsReadAs line [] heard.asked × (heard.body ≡ []) × (heard.ends ≡ true) × KeepsLine heard.asked heard.line line
IsLast line next.End = is_request line ≡ false
IsLast line next.Long = ⊥
