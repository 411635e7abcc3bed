-- Counted bytes, as data lines have them.
use Rattle.std.specs.Prelude.{◌≡◌, ℕ, ◌+◌, ◌≤◌, Result, Ok, Err, [], ◌∷◌, ◌++◌, decimal, length, slice_range}
use Rattle.grid_model.specs.Names.{Text}
use Rattle.grid_model.specs.Limits.{part_size}
use Rattle.reply_fields.specs.declared.error.ReplyError.{ReplyError}

-- so many bytes, and a newline
pub record IsCounted (count : ℕ) (text bytes : Text) : Type 0 where
  pub count_is : length bytes ≡ count
  pub is : text ≡ bytes ++ 0x0A ∷ []

-- What stands in a data line behind its name: how many bytes it has, a newline, the bytes, and a newline.
pub record IsDataPart (text bytes : Text) : Type 0 where
  pub some : 1 ≤ length bytes
  pub most : length bytes ≤ part_size
  pub is : text ≡ decimal (length bytes) ++ 0x0A ∷ bytes ++ 0x0A ∷ []

-- the bytes between two places, and the place behind the newline that follows them
abbrev pub bytes_read : Text → Result (ℕ × ℕ) ReplyError → Result (Text × ℕ) ReplyError
bytes_read text (Ok places) = Ok (slice_range text places.0 places.1, places.1 + 1)
bytes_read text (Err error) = Err error
