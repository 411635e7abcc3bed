-- The sweep behind the opening of a run: files of orphans are removed, and the rows of those that are gone. Nothing is said of it.
use Rattle.std.specs.Prelude.{◌≡◌, ℕ, ◌<◌, true, [], Ok, IsTrue}
use Rattle.grid_outside.specs.Device.{IsSettled}
use Rattle.grid_model.specs.Names.{Text}
use Rattle.grid_model.specs.Rows.{Cat}
use Rattle.grid_model.specs.Orders.{quits, sweeps}
use Rattle.grid_model.specs.Uploads.{is_well}
use Rattle.grid_model.specs.Working.{Done}
use Rattle.grid_model.specs.Runs.{Request}
use Rattle.grid_journal.specs.Stands.{StandsEither, StandsFor}
use Rattle.grid_headline.specs.Worlds.{World}
use Rattle.grid_headline.specs.Files.{ReplicasStayNamed}
use Rattle.grid_headline.specs.Ends.{HasFewOrphans}
use Rattle.count_laws.specs.GivenNumbers.{GivesNone}
use Rattle.run_laws.specs.Sofar.{KeepsWhole}
use Rattle.run_laws.specs.Steps.{Gave, IsLike}
use Rattle.run_laws.specs.Went.{AreInOrder, Went}

module _ {B : Type 0} (mid new : World B) (before after : Cat) where
  -- That came so far, to this catalogue: nothing is seen of it, the files that were whole by the one before stay so, and those of replicas stay
  -- named.
  pub record Sweeps : Type 0 where
    pub order : AreInOrder mid
    pub went : Went mid new
    pub like : IsLike before after
    pub gives : GivesNone before after
    pub sink : IsTrue mid.sink.tells → new.sink.holds ≡ mid.sink.holds
    pub gave : IsTrue new.ambient.tells → Gave [] mid.ambient new.ambient
    pub images : IsTrue mid.main.tells → IsTrue mid.sink.tells → IsSettled mid.main → IsSettled mid.sink → (t : ℕ) (main sink : Text)
        → mid.moments < t → new.main.left t main → new.sink.left t sink
        → StandsEither before after main × (sink ≡ mid.sink.holds)
    pub whole : KeepsWhole mid new before
    pub named : IsTrue mid.main.tells → IsSettled mid.main → ReplicasStayNamed new mid.moments before

  -- It was done: that is the catalogue behind it. Where there were no orphans, main is as it was.
  pub record IsSwept : Type 0 where
    pub stands : IsTrue mid.main.tells → StandsFor new.main.holds after
    pub few : HasFewOrphans mid new after
    pub still : before.orphans ≡ [] → IsTrue mid.main.tells → new.main.holds ≡ mid.main.holds
    pub main_settled : IsTrue mid.main.tells → IsSettled mid.main → IsSettled new.main
    pub sink_settled : IsTrue mid.sink.tells → IsSettled mid.sink → IsSettled new.sink

-- a request that is a sweep, and was answered ok, leaves few orphans; one that ends the input leaves main as it was, whatever rules there are
abbrev pub LeavesFew : {B : Type 0} → World B → World B → Request → Done → Cat → Type 0
LeavesFew old new (Ok (session, sweeps)) d after = is_well d.reply.end ≡ true → HasFewOrphans old new after
LeavesFew old new (Ok (session, quits)) d after = IsTrue old.main.tells → new.main.holds ≡ old.main.holds
LeavesFew old new other d after = Unit {0}
