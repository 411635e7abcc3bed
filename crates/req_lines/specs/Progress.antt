-- What was read of an input, call by call.
use Rattle.std.specs.Prelude.{◌≡◌, ◌+◌, ◌^◌, ◌≤◌, List, [], ◌++◌, length, take}
use Rattle.grid_outside.specs.Source.{SourceState}
use Rattle.grid_model.specs.Names.{Text}
use Rattle.grid_model.specs.Inputs.{Asked, Takes, AreRequests, IsPart}
use Rattle.req_lines.specs.Reading.{Input}
use Rattle.req_lines.specs.Hearing.{ahead}

-- these requests were heard so far, of a source as it was when nothing was read
pub record HasHeard (from : SourceState) (now : Input) (asked : List Asked) : Type 0 where
  pub front : Text
  pub split : from.left ≡ front ++ ahead now
  pub count : now.reader.taken ≡ length front + length now.reader.unread
  pub takes : Takes front asked []

-- these are all requests of the source, and all was read
pub record HeardAll (from to : SourceState) (asked : List Asked) : Type 0 where
  pub fits : length from.left ≤ 2 ^ 48
  pub are : AreRequests from.left asked
  pub all : to.left ≡ []

-- these requests ended within the bytes that were taken
pub record HeardPart (from to : SourceState) (asked : List Asked) : Type 0 where
  pub taken : Text
  pub split : from.left ≡ taken ++ to.left
  pub most : length taken ≤ 2 ^ 48
  pub left : Text
  pub takes : Takes taken asked left
  pub part : IsPart left

-- they ended within the bytes that are read, and there are more
pub record HeardMost (from to : SourceState) (asked : List Asked) : Type 0 where
  pub taken : Text
  pub split : from.left ≡ taken ++ to.left
  pub size : length taken ≡ 2 ^ 48 + 1
  pub left : Text
  pub takes : Takes (take (2 ^ 48) taken) asked left
  pub part : IsPart left

-- they stand whole at the front of the bytes that were taken
pub record HeardWithin (from to : SourceState) (asked : List Asked) : Type 0 where
  pub taken : Text
  pub split : from.left ≡ taken ++ to.left
  pub most : length taken ≤ 2 ^ 48
  pub left : Text
  pub takes : Takes (take (2 ^ 48) taken) asked left
