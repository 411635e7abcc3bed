-- What the bytes of the two disks stand for: a catalogue, or none, with the side and the place where that shows. The format
-- is this project's own.
use Rattle.std.specs.Prelude.{◌≡◌, ◌≢◌, ◌⊎◌, ℕ, ◌+◌, ◌%◌, ◌<◌, List, [], ◌∷◌, ◌++◌, length, take, flat_map}
use Rattle.std.specs.Prelude.{slice_get, Some, None, IsSome, Result, Ok, Err, IsErr, codes}
use Rattle.std.specs.List.{AllByRecursion}
use Rattle.frame_log.specs.Log.{IsLog, IsBroken}
use Rattle.frame_log.specs.Extent.{placed}
use Rattle.grid_model.specs.Names.{Text}
use Rattle.grid_model.specs.Places.{IsRefusedAt}
use Rattle.grid_model.specs.Deltas.{SpellsDeltas, spelling}
use Rattle.grid_model.specs.RuleText.{Rule}
use Rattle.grid_model.specs.Rows.{Cat, empty_cat}
use Rattle.grid_model.specs.Applying.{apply, apply_all}
use Rattle.grid_model.specs.declared.deltas.Delta.{Delta}
use Rattle.grid_model.specs.declared.deltas.Delta.TheVariants as delta
use Rattle.grid_model.specs.declared.grid.Side.{Side}
use Rattle.grid_model.specs.declared.grid.Side.TheVariants.{Main}
use Rattle.rule_keep.specs.Kept.{IsKeptText}

-- ---- the head in front of the log

-- what main begins with: `iRODSgrd`
abbrev pub magic : Text
magic = codes "iRODSgrd"

-- Main begins as a catalogue does: with the magic bytes and an even root. The seven bytes behind it aren't read.
pub record HasHead (main : Text) : Type 0 where
  pub root : ℕ
  pub magic_is : take 8 main ≡ magic
  pub root_is : slice_get main 8 ≡ Some root
  pub even : root % 2 ≡ 0

-- It doesn't, and this is the first place where that shows.
pub data NoHead (main : Text) : ℕ → Type 0 where
  -- one of the magic bytes is missing or another
  no_magic : (place : ℕ) → place < 8 → take place main ≡ take place magic → slice_get main place ≢ slice_get magic place → NoHead main place
  -- The root is missing or odd. An odd one says that the log on spare stands, which is never written yet.
  no_root : take 8 main ≡ magic → ((root : ℕ) → slice_get main 8 ≡ Some root → root % 2 ≢ 0) → NoHead main 8

-- ---- the records behind it

-- the rules that a delta sets, if it sets some, are allowed and stand as they are printed
abbrev pub SetsKeptRules : Delta → Type 0
SetsKeptRules (delta.Rules text) = (rules : List Rule) × IsKeptText text rules
SetsKeptRules other = Unit {0}

-- the catalogue doesn't take this delta
abbrev pub IsRefused : Cat → Delta → Type 0
IsRefused c d = (¬ SetsKeptRules d) ⊎ IsErr (apply c d)

-- What records, each the place of its body and the body, make of a catalogue, one after another: a catalogue, or the
-- place of the first fault.
pub data Replays : Cat → List (ℕ × Text) → Result Cat ℕ → Type 0 where
  -- no record is left
  none_left : {c : Cat} → Replays c [] (Ok c)
  -- the deltas of a record are taken, one after another
  taken : {c after : Cat} {place : ℕ} {body : Text} {rest : List (ℕ × Text)} {outcome : Result Cat ℕ} → (deltas : List Delta)
      → SpellsDeltas body deltas → AllByRecursion SetsKeptRules deltas → apply_all c deltas ≡ Ok after → Replays after rest outcome
      → Replays c ((place, body) ∷ rest) outcome
  -- a body spells no deltas, from this place in it on
  unread : {c : Cat} {place : ℕ} {body : Text} {rest : List (ℕ × Text)} → (at : ℕ) → IsRefusedAt SpellsDeltas body at
      → Replays c ((place, body) ∷ rest) (Err (place + at))
  -- a delta is refused, which stands behind the spellings of those before it
  refused : {c before : Cat} {place : ℕ} {body : Text} {rest : List (ℕ × Text)} → (done : List Delta) (d : Delta) (left : List Delta)
      → SpellsDeltas body (done ++ d ∷ left) → AllByRecursion SetsKeptRules done → apply_all c done ≡ Ok before → IsRefused before d
      → Replays c ((place, body) ∷ rest) (Err (place + length (flat_map spelling done)))

-- ---- both disks

-- What main and spare stand for: a catalogue, or the side and the place of the first fault. The log is read whole
-- before its records are. Until a catalogue can be moved to spare, spare has no part in it.
pub data Stands (main spare : Text) : Result Cat (Side × ℕ) → Type 0 where
  no_head : (place : ℕ) → NoHead main place → Stands main spare (Err (Main, place))
  -- from 16 on there is no log
  no_log : (place : ℕ) → HasHead main → IsBroken 16 place main → Stands main spare (Err (Main, place))
  -- a record of the log is at fault
  no_catalogue : (records : List Text) (place : ℕ) → HasHead main → IsLog 16 records main
      → Replays empty_cat (placed 16 records) (Err place) → Stands main spare (Err (Main, place))
  -- there is no zone after all records
  no_zone : (records : List Text) (c : Cat) → HasHead main → IsLog 16 records main
      → Replays empty_cat (placed 16 records) (Ok c) → c.zone ≡ None → Stands main spare (Err (Main, 16))
  stands : (records : List Text) (c : Cat) → HasHead main → IsLog 16 records main
      → Replays empty_cat (placed 16 records) (Ok c) → IsSome c.zone → Stands main spare (Ok c)

-- with every spare, main stands for this catalogue
abbrev pub StandsFor : Text → Cat → Type 0
StandsFor main c = (spare : Text) → Stands main spare (Ok c)

-- main stands for the one catalogue or for the other
abbrev pub StandsEither : Cat → Cat → Text → Type 0
StandsEither before after main = StandsFor main before ⊎ StandsFor main after
