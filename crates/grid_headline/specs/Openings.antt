-- What opening again gives of what a stop leaves of a run: what it gave of the found catalogue, or the grid after a prefix of the
-- requests that holds each acknowledged one, then at most one interrupted command.
use Rattle.std.specs.Prelude.{◌≡◌, ◌⊎◌, ℕ, ◌+◌, ◌≤◌, List, [], ◌∷◌, ◌++◌, Some, Ok, length, slice_get}
use Rattle.grid_model.specs.Names.{Text}
use Rattle.grid_model.specs.Rows.{Cat}
use Rattle.grid_model.specs.Meanings.{gives, mapped}
use Rattle.grid_model.specs.Orders.{Order}
use Rattle.grid_model.specs.Obeying.{command}
use Rattle.grid_model.specs.Central.{as_unwound}
use Rattle.grid_model.specs.Runs.{Marked}
use Rattle.grid_model.specs.Reopening.{reopened}
use Rattle.grid_model.specs.declared.marks.Mark.{Mark}
use Rattle.grid_model.specs.declared.marks.Mark.TheVariants.{Stop}
use Rattle.grid_journal.specs.Stands.{Stands}
use Rattle.grid_headline.specs.Worlds.{DevicesImage}
use Rattle.grid_headline.specs.Reads.{MeansRequest}
use Rattle.grid_headline.specs.Served.{Run, state_at, acknowledged}

-- what opening again gives is as it was, with some marks behind those that were kept
pub record IsAsBefore (found c : Cat) : Type 0 where
  pub d : List Mark
  pub same : (w : List Mark) → reopened c w ≡ reopened found (d ++ w)

module _ {known : ℕ → Type 0} {found : Cat} {input : Text} (run : Run known found input) where
  -- the request behind the first n ones, with the kept marks, a `Stop` and any more marks
  pub record IsCommand (c : Cat) (n : ℕ) : Type 0 where
    pub next : Marked
    pub is_next : slice_get run.begun n ≡ Some next
    pub session : ℕ
    pub order : Order
    pub asks : MeansRequest (state_at run n) next.asked (Ok (session, order))
    pub kept : List Mark
    pub rest : List Mark
    pub are_kept : next.marks ≡ kept ++ rest
    pub same : (w : List Mark) → reopened c w ≡ mapped as_unwound (command (state_at run n) session order (kept ++ Stop ∷ w))

  -- nothing was interrupted behind the first n requests
  abbrev pub IsGridOf : Cat → ℕ → Type 0
  IsGridOf c n = (w : List Mark) → reopened c w ≡ gives (record { grid = (state_at run n).grid; passed = []; left = w })

  -- all that is acknowledged by so many bytes, at most one request more that is done, and at most one that was interrupted behind it
  pub record IsPrefix (c : Cat) (count : ℕ) : Type 0 where
    pub n : ℕ
    pub within : n ≤ length run.begun
    pub holds : acknowledged run count ≤ n
    pub near : n ≤ acknowledged run count + 1
    pub leaves : IsGridOf c n ⊎ IsCommand c n

  -- An image, where the sink had these bytes before: opening it again gives what opening the found catalogue gives, or a prefix of the
  -- requests with all that the sink acknowledges, and then at most one interrupted command.
  pub record OpensAgain (old_sink : Text) (i : DevicesImage) : Type 0 where
    pub cat : Cat
    pub stands : Stands i.main i.spare (Ok cat)
    pub part : Text
    pub sink : i.sink ≡ old_sink ++ part
    pub opens : IsAsBefore found cat ⊎ IsPrefix cat (length part)
