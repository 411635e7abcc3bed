-- What replaying records says on its way.
use Rattle.std.specs.Prelude.{◌≡◌, ℕ, List, ◌∷◌, ◌++◌, length, None, IsSome, Result, Ok, Err}
use Rattle.std.specs.List.{AllByRecursion}
use Rattle.grid_model.specs.Names.{Text}
use Rattle.grid_model.specs.Rows.{Cat, empty_cat}
use Rattle.grid_model.specs.Applying.{apply_all}
use Rattle.grid_model.specs.declared.deltas.Delta.{Delta}
use Rattle.grid_journal.specs.Stands.{Replays, IsRefused, SetsKeptRules}
use Rattle.grid_model.specs.declared.grid.Side.TheVariants.{Main}
use Rattle.grid_journal.specs.declared.error.JournalError.{JournalError}
use Rattle.grid_journal.specs.declared.error.JournalError.TheVariants as error
use Rattle.grid_journal.specs.declared.replay.ReplayError.{ReplayError}
use Rattle.grid_journal.specs.declared.replay.ReplayError.TheVariants.{Fault, Memory}

-- it stopped at a place with this property, or for want of memory
abbrev pub ReplayStopsAt : (ℕ → Type 0) → ReplayError → Type 0
ReplayStopsAt P (Fault at) = P at
ReplayStopsAt P Memory = Unit {0}

-- the record leads from one catalogue to another
abbrev pub Leads : ℕ × Text → Cat → Cat → Type 0
Leads r old new = (rest : List (ℕ × Text)) (outcome : Result Cat ℕ) → Replays new rest outcome → Replays old (r ∷ rest) outcome

-- the record is at fault at this place
abbrev pub IsAtFault : ℕ × Text → Cat → ℕ → Type 0
IsAtFault r c at = (rest : List (ℕ × Text)) → Replays c (r ∷ rest) (Err at)

-- the deltas are taken, one after another
pub record TakesAll (deltas : List Delta) (old new : Cat) : Type 0 where
  pub kept : AllByRecursion SetsKeptRules deltas
  pub applied : apply_all old deltas ≡ Ok new

-- so many deltas are taken, and the next is refused
pub record RefusesNext (deltas : List Delta) (count : ℕ) (c : Cat) : Type 0 where
  pub done : List Delta
  pub next : Delta
  pub left : List Delta
  pub before : Cat
  pub split : deltas ≡ done ++ next ∷ left
  pub count_is : count ≡ length done
  pub taken : TakesAll done c before
  pub refused : IsRefused before next

-- there is a catalogue in the records, and this is it
pub record HasCatalogue (records : List (ℕ × Text)) (c : Cat) : Type 0 where
  pub replays : Replays empty_cat records (Ok c)
  pub zone : IsSome c.zone

-- There is none, which shows at this place.
pub data NoCatalogue (records : List (ℕ × Text)) (at : ℕ) : Type 0 where
  at_fault : Replays empty_cat records (Err at) → NoCatalogue records at
  no_zone : (c : Cat) → Replays empty_cat records (Ok c) → c.zone ≡ None → at ≡ 16 → NoCatalogue records at

-- records were refused so
abbrev pub IsUnread : List (ℕ × Text) → JournalError → Type 0
IsUnread records (error.NotACatalogue side at) = (side ≡ Main) × NoCatalogue records at
IsUnread records error.Memory = Unit {0}
IsUnread records other = ⊥
