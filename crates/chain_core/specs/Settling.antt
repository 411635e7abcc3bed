-- What the machine does until it waits.
use Rattle.std.specs.Prelude.{◌≡◌, ◌≤◌, true, List}
use Rattle.grid_model.specs.RuleText.{Rule}
use Rattle.grid_model.specs.Values.{Env}
use Rattle.grid_model.specs.Doing.{Course}
use Rattle.chain_core.specs.declared.frames.Frames.{Frames}
use Rattle.chain_core.specs.Rest.{rest}
use Rattle.chain_core.specs.Ending.{events_left}
use Rattle.chain_core.specs.Answers.{is_settled, ListsRecoveries, IsThere}

-- what is still to be done is the same, and so are the counts; and no more events come
pub record KeepsRest (rules : List Rule) (old new : Frames) : Type 0 where
  pub same : (env : Env) (s : Course) → rest rules env new s ≡ rest rules env old s
  pub sound : ListsRecoveries old → ListsRecoveries new
  pub there : IsThere rules old.control → IsThere rules new.control
  pub begun : new.begun ≡ old.begun
  pub stopped : new.stopped ≡ old.stopped
  pub fewer : events_left rules new ≤ events_left rules old

-- and it waits
pub record Settles (rules : List Rule) (old new : Frames) : Type 0 where
  pub keeps : KeepsRest rules old new
  pub settled : is_settled rules new ≡ true
