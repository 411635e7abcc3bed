-- Where reading stopped, told from the front.
use Rattle.std.specs.Prelude.{ℕ, ◌-◌, ◌≤◌}
use Rattle.row_codec.specs.declared.stop.Stop.{Stop}
use Rattle.row_codec.specs.declared.stop.Stop.TheVariants as stop
use Rattle.row_codec.specs.declared.error.CodecError.{CodecError}
use Rattle.row_codec.specs.declared.error.CodecError.TheVariants.{BadRecord, Memory}

-- no more bytes are left than there are
abbrev pub IsWithin : Stop → ℕ → Type 0
IsWithin stop.Memory len = Unit {0}
IsWithin (stop.Broken left) len = left ≤ len

-- the refusal of so many bytes
abbrev pub codec_error_of : Stop → ℕ → CodecError
codec_error_of stop.Memory len = Memory
codec_error_of (stop.Broken left) len = BadRecord (len - left)
