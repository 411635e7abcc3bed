-- A file of a store in memory, and the files of a list of them.
use Rattle.std.specs.Prelude.{◌≡◌, ℕ, List, map}
use Rattle.std.specs.FinMap.{from_entries}
use Rattle.grid_outside.specs.Files.{File, Files}
use Rattle.grid_mem.specs.declared.mem_file.MemFile.{MemFile}

-- the file without its name
abbrev pub file_of : MemFile → File
file_of m = record { bytes = m.bytes.items; finished = m.finished }

-- the name and the file
abbrev pub entry_of : MemFile → ℕ × File
entry_of m = (m.name, file_of m)

-- the files by their names; at a name that stands twice the first file counts
abbrev pub files_of : List MemFile → Files
files_of ms = from_entries (map entry_of ms)

-- the same name and the same file
abbrev pub IsCopy : MemFile → MemFile → Type 0
IsCopy old new = entry_of new ≡ entry_of old
