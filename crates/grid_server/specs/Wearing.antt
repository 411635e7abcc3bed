-- What has run out for good, by what main holds.
use Rattle.std.specs.Prelude.{◌≡◌, ◌^◌, ◌<◌, ℕ}
use Rattle.grid_outside.specs.declared.outside.Wear.{Wear}
use Rattle.grid_outside.specs.declared.outside.Wear.TheVariants as wear
use Rattle.grid_model.specs.Names.{Text}
use Rattle.grid_journal.specs.Journal.{ClosesAt}
use Rattle.grid_headline.specs.Ends.{Stand}
use Rattle.grid_headline.specs.Numbers.{last_vault}

-- the numbers of vault files, or the room behind the log on main, have run out at this number or place
abbrev pub HasWorn : Text → Wear → ℕ → Type 0
HasWorn main wear.Runs place = ⊥
HasWorn main wear.Vaults place = (last_vault < place) × ((spare : Text) → Stand (λ c. c.numbers.next_vault ≡ place) main spare)
HasWorn main wear.Log place = (2 ^ 62 < place) × ClosesAt main place
