-- How much of each there may be. All limits are this project's own.
use Rattle.std.specs.Prelude.{ℕ}

-- how many bytes a request line has at most, without its newline
abbrev pub longest_line : ℕ
longest_line = 4096

-- how many bytes are sent or copied at once at most
abbrev pub part_size : ℕ
part_size = 65536

-- how many bytes an object has at most where it is put
abbrev pub object_size : ℕ
object_size = 16777216
