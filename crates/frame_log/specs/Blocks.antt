-- What a block has of a disk.
use Rattle.std.specs.Prelude.{◌≡◌, ℕ, ◌-◌, ◌≤◌, List, length, take, drop}
use Rattle.frame_log.specs.declared.block.BlockReader.{BlockReader}

-- The block's first bytes are those of the disk from a place on.
pub record HasOf (bytes : List ℕ) (reader : BlockReader) : Type 0 where
  pub within : reader.count ≤ length bytes - reader.from
  pub same : take reader.count reader.block.items ≡ take reader.count (drop reader.from bytes)

-- so many bytes fit the block
pub record IsSound (reader : BlockReader) : Type 0 where
  pub size : length reader.block.items ≡ 65536
  pub count : reader.count ≤ 65536
