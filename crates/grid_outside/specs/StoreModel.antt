-- The rules of a store in whole words: what a stop may leave of one file, by what was asked of it. The rules are this
-- project's own. Files of other names stay. That the steps `Writes` and `Removes`, taken one after another, leave
-- exactly this is proved over a record of calls in the crate with the devices in memory.
use Rattle.std.specs.Prelude.{◌≡◌, ◌⊎◌, true, false, Option, Some, None}
use Rattle.grid_outside.specs.Files.{File, IsHashable}

-- what is known of one file, should the server stop
pub data Known : Type 0 where
  -- the file is so, or there is none
  exactly : Option File → Known
  -- its removal was asked and not answered Ok: it is there so or not
  there_or_not : File → Known
  -- it was begun and not finished, or a call that writes it failed: it is absent or holds any bytes
  anything : Known

-- a stop may leave this of the file
abbrev pub MayBe : Known → Option File → Type 0
MayBe (exactly known) file = file ≡ known
MayBe (there_or_not known) file = (file ≡ Some known) ⊎ (file ≡ None)
MayBe anything file = IsHashable file

-- A create, an append or a finish of the file was asked. A finished file is stable.
abbrev pub after_writing : Known → Known
after_writing (exactly None) = anything
after_writing (exactly (Some file)) = elim file.finished [ true ↦ exactly (Some file) | false ↦ anything ]
after_writing (there_or_not file) = anything
after_writing anything = anything

-- its removal was asked
abbrev pub after_removing : Known → Known
after_removing (exactly None) = exactly None
after_removing (exactly (Some file)) = there_or_not file
after_removing (there_or_not file) = there_or_not file
after_removing anything = anything
