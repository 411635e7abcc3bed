-- What the reading of lines and bodies takes of an input.
use Rattle.std.specs.Prelude.{◌≡◌, ℕ, ◌+◌, ◌^◌, ◌<◌, ◌≤◌, List, [], ◌∷◌, ◌++◌, length, take, IsTrue, Bool, ◌==◌}
use Rattle.grid_outside.specs.Source.{SourceState}
use Rattle.grid_model.specs.Lines.{IsLine}
use Rattle.req_lines.specs.declared.line_reader.Ended.{Ended}
use Rattle.req_lines.specs.declared.line_reader.Ended.TheVariants as ended
use Rattle.req_lines.specs.declared.line_reader.Passed.{Passed}
use Rattle.req_lines.specs.declared.line_reader.Passed.TheVariants as passed
use Rattle.req_lines.specs.declared.line_reader.Filled.{Filled}
use Rattle.req_lines.specs.declared.line_reader.Filled.TheVariants as filled

-- the byte that ends a line
abbrev pub is_newline : ℕ → Bool
is_newline byte = byte == 0x0A

-- the bytes of the last block that are left, and how many were taken of the source in all
pub record Reader : Type 0 where
  pub unread : List ℕ
  pub taken : ℕ

-- an input: the reader, and the source that it reads
pub record Input : Type 0 where
  pub reader : Reader
  pub source : SourceState

-- the same, in one line
abbrev pub input : Reader → SourceState → Input
input reader source = record { reader = reader; source = source }

-- a line with a newline behind it was taken, and added to what was held
pub record TakesLine (old : Reader) (held : List ℕ) (new : Reader) (holds : List ℕ) : Type 0 where
  pub line : List ℕ
  pub is : IsLine line
  pub split : old.unread ≡ line ++ 0x0A ∷ new.unread
  pub added : holds ≡ take 4097 (held ++ line)

-- all that was left was taken and added, with no newline in it
pub record TakesRest (old : Reader) (held : List ℕ) (new : Reader) (holds : List ℕ) : Type 0 where
  pub is : IsLine old.unread
  pub all : new.unread ≡ []
  pub added : holds ≡ take 4097 (held ++ old.unread)

-- these bytes were taken of a source
abbrev pub Took : List ℕ → SourceState → SourceState → Type 0
Took bytes old new = IsTrue old.tells → old.left ≡ bytes ++ new.left

-- and there are no more
abbrev pub TookAll : List ℕ → SourceState → SourceState → Type 0
TookAll bytes old new = IsTrue old.tells → (old.left ≡ bytes) × (new.left ≡ [])

-- ---- blocks

-- these bytes were taken of the source, within those that are read
pub record Gets (old new : Input) (got : List ℕ) : Type 0 where
  pub took : Took got old.source new.source
  pub taken : new.reader.taken ≡ old.reader.taken + length got
  pub most : new.reader.taken ≤ 2 ^ 48

-- the same, and there are no more
pub record GetsAll (old new : Input) (got : List ℕ) : Type 0 where
  pub took : TookAll got old.source new.source
  pub taken : new.reader.taken ≡ old.reader.taken + length got
  pub most : new.reader.taken ≤ 2 ^ 48
  pub all : new.reader.unread ≡ []

-- these were the last bytes that are read, and one more was taken
pub record GetsMost (old new : Input) (got : List ℕ) : Type 0 where
  pub byte : ℕ
  pub took : Took (got ++ byte ∷ []) old.source new.source
  pub full : old.reader.taken + length got ≡ 2 ^ 48
  pub taken : new.reader.taken ≡ 2 ^ 48 + 1
  pub all : new.reader.unread ≡ []

-- what a read of a block gave
abbrev pub Fills : Input → Filled → Input → Type 0
Fills old filled.More new = (0 < length new.reader.unread) × Gets old new new.reader.unread
Fills old filled.End new = (new.reader ≡ old.reader) × TookAll [] old.source new.source
Fills old filled.Long new = GetsMost old new []

-- ---- lines

-- how a line ended, by the bytes that were got of the source for it
abbrev pub Ends : Input → Ended → Input → List ℕ → List ℕ → Type 0
Ends old ended.Line new got line = (old.reader.unread ++ got ≡ line ++ 0x0A ∷ new.reader.unread) × Gets old new got
Ends old ended.End new got line = (old.reader.unread ++ got ≡ line) × GetsAll old new got
Ends old ended.Long new got line = (old.reader.unread ++ got ≡ line) × GetsMost old new got

-- a line was read, and this is held of it
pub record ReadsLine (old : Input) (how : Ended) (new : Input) (holds : List ℕ) : Type 0 where
  pub got : List ℕ
  pub line : List ℕ
  pub is : IsLine line
  pub held : holds ≡ take 4097 line
  pub ends : Ends old how new got line

-- a part of a line was read
pub record ReadsPart (old : Input) (to : SourceState) : Type 0 where
  pub got : List ℕ
  pub is : IsLine (old.reader.unread ++ got)
  pub took : Took got old.source to
  pub most : old.reader.taken + length got ≤ 2 ^ 48

-- ---- bodies

-- how the passing over of so many bytes ended, by those that were passed over and those that were got of the source for it
abbrev pub PassEnds : Input → ℕ → Passed → Input → List ℕ → List ℕ → Type 0
PassEnds old count passed.Whole new got body = (old.reader.unread ++ got ≡ body ++ new.reader.unread) × (length body ≡ count) × Gets old new got
PassEnds old count (passed.Short have) new got body =
    (old.reader.unread ++ got ≡ body) × (length body < count) × GetsAll old new got × (have ≡ length body)
PassEnds old count passed.Long new got body = (old.reader.unread ++ got ≡ body) × (length body < count) × GetsMost old new got

-- these bytes were passed over
pub record Passes (old : Input) (count : ℕ) (how : Passed) (new : Input) (body : List ℕ) : Type 0 where
  pub got : List ℕ
  pub ends : PassEnds old count how new got body

-- fewer bytes than were to be passed over were got
pub record PassesPart (old : Input) (count : ℕ) (to : SourceState) : Type 0 where
  pub got : List ℕ
  pub short : length (old.reader.unread ++ got) < count
  pub took : Took got old.source to
  pub most : old.reader.taken + length got ≤ 2 ^ 48
