-- A catalogue that is kept in a log and held in memory.
use Rattle.std.specs.Prelude.{◌≡◌, ℕ, ◌+◌, Bool, true, false, ◌&&◌, List, length, Option, Some, None, IsSome, IsTrue, Ok}
use Rattle.std.specs.List.{AllByRecursion}
use Rattle.frame_log.specs.Extent.{Extent, IsLogOf, placed}
use Rattle.frame_log.specs.Log.{IsLog, frames}
use Rattle.grid_model.specs.Names.{Text}
use Rattle.grid_model.specs.Deltas.{delta_fits}
use Rattle.grid_model.specs.RuleText.{Rule}
use Rattle.grid_model.specs.Rows.{Cat, empty_cat}
use Rattle.grid_model.specs.Applying.{apply_all}
use Rattle.grid_model.specs.declared.deltas.Delta.{Delta}
use Rattle.grid_model.specs.declared.deltas.Delta.TheVariants as delta
use Rattle.grid_model.specs.declared.deltas.Pending.{Pending}
use Rattle.grid_model.specs.declared.deltas.TripleRow.{TripleRow}
use Rattle.rule_keep.specs.Kept.{IsKeptText}
use Rattle.grid_journal.specs.Stands.{HasHead, Replays, SetsKeptRules}

-- a store as contracts see it
pub record Journal : Type 0 where
  -- the rows in memory
  pub cat : Cat
  -- the deltas that are applied to them and not yet on the disk
  pub staged : List Delta
  -- the log on main, as it is known without reading it
  pub log : Extent
  -- false after want of memory or a fault in a change: what is in memory may then be anything
  pub sound : Bool

-- Main has this catalogue in the log that the journal stands on, and the staged deltas lead from it to the rows in
-- memory.
pub record Keeps (kept : Cat) (journal : Journal) (main : Text) : Type 0 where
  pub records : List Text
  pub head : HasHead main
  pub base : journal.log.base ≡ 16
  pub log : IsLogOf journal.log records main
  pub replays : Replays empty_cat (placed 16 records) (Ok kept)
  pub zone : IsSome kept.zone
  pub staged : apply_all kept journal.staged ≡ Ok journal.cat

-- the log on main closes at this place
pub record ClosesAt (main : Text) (place : ℕ) : Type 0 where
  pub records : List (List ℕ)
  pub log : IsLog 16 records main
  pub place_is : place ≡ 16 + length (frames records)

-- the delta sets no rules
abbrev pub sets_no_rules : Delta → Bool
sets_no_rules (delta.Rules text) = false
sets_no_rules other = true

-- the delta has a spelling and sets no rules
abbrev pub can_be_kept : Delta → Bool
can_be_kept d = delta_fits d && sets_no_rules d

-- the delta has a spelling, and rules that it sets are kept ones
abbrev pub MayBeKept : Delta → Type 0
MayBeKept d = IsTrue (delta_fits d) × SetsKeptRules d

-- its rules are allowed, and stand as they are printed
abbrev pub HasKeptRules : Cat → Type 0
HasKeptRules c = (rules : List Rule) × IsKeptText c.rules rules

-- each of these may be taken away by a delta that may be kept
abbrev pub AreSpelled : List TripleRow → Type 0
AreSpelled rows = AllByRecursion (λ t. IsTrue (can_be_kept (delta.NoTriple t))) rows

-- the command that is pending, if one is, may be noted again as it is
abbrev pub IsSpelledPending : Option Pending → Type 0
IsSpelledPending None = Unit {0}
IsSpelledPending (Some p) = IsTrue (can_be_kept (delta.Pending p))

-- both hold of these rows
abbrev pub HasSpelledRows : Cat → Type 0
HasSpelledRows c = AreSpelled c.triples × IsSpelledPending c.pending
