-- A get as a deed, by the replica that was found for it.
use Rattle.std.specs.Prelude.{Ok}
use Rattle.grid_model.specs.Grid.{Grid}
use Rattle.grid_model.specs.Refusing.{Or, ◌>>=◌}
use Rattle.grid_model.specs.Deeds.{Act, Deed, deed, sending}
use Rattle.grid_model.specs.Operations.Replicas.{Source}

-- the deed that sends this file
abbrev pub deed_of : Grid → Source → Deed
deed_of g from = record { size = from.object.size; digest = from.object.digest; ran = λ word now _. g; touch = sending from.slot }

-- and what the get is
abbrev pub act_of : Grid → Or Source → Or Act
act_of g r = r >>= (λ from. Ok (deed (deed_of g from)))
