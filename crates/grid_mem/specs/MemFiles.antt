-- What contracts see of the files of a store in memory.
use Rattle.std.specs.Prelude.{◌≡◌}
use Rattle.grid_outside.specs.Files.{Files}
use Rattle.grid_mem.specs.declared.mem_files.MemFiles.{MemFiles}
use Rattle.grid_mem.specs.MemFile.{files_of}

-- the files by their names
abbrev pub contents : MemFiles → Files
contents m = files_of m.files.items

-- the same files
abbrev pub HaveSame : MemFiles → MemFiles → Type 0
HaveSame old new = contents new ≡ contents old
