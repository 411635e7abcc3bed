-- How many moments the parts of a run take, over a catalogue that is within the limits.
use Rattle.std.specs.Prelude.{◌+◌, ◌^◌, ◌≤◌}
use Rattle.grid_model.specs.Rows.{Cat}
use Rattle.grid_model.specs.RowGrids.{grid_of}
use Rattle.size_laws.specs.Within.{IsWithin}
use Rattle.grid_headline.specs.Moments.{IsWithinLimits, most_moments}
use Rattle.grid_headline.specs.Worlds.{World}

module _ {B : Type 0} (old new : World B) where
  -- the opening of a run over the catalogue, with the recoveries of what is pending
  abbrev pub OpensInFew : Cat → Type 0
  OpensInFew c = IsWithinLimits c → new.moments ≤ old.moments + 2 ^ 38

  -- the sweep behind it
  abbrev pub SweepsInFew : Type 0
  SweepsInFew = new.moments ≤ old.moments + (2 ^ 39 + 2 ^ 10)

  -- a request over the catalogue
  abbrev pub GoesOnInFew : Cat → Type 0
  GoesOnInFew c = IsWithin (grid_of c) → new.moments ≤ old.moments + most_moments
