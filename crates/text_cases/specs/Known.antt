-- What a doer on an empty grid knows and keeps.
use Rattle.std.specs.Prelude.{◌≡◌, Some, List, [], ◌∷◌, map}
use Rattle.grid_model.specs.Grid.{Grid}
use Rattle.grid_model.specs.Maps.{empty}
use Rattle.grid_model.specs.Names.{Text}
use Rattle.grid_model.specs.Printing.{print_failure}
use Rattle.grid_model.specs.Services.{service, nothing, no_path}
use Rattle.grid_model.specs.declared.calls.Call.{Call}
use Rattle.grid_model.specs.declared.replies.Passed.{Passed}
use Rattle.grid_model.specs.declared.refusal.Refusal.TheVariants.{BadPath}
use Rattle.grid_model.specs.declared.refusal.Failure.{Failure}
use Rattle.grid_model.specs.declared.refusal.Failure.TheVariants.{Refused}
use Rattle.text_cases.specs.declared.calls.KnownCall.{KnownCall}
use Rattle.text_cases.specs.declared.calls.KnownCall.TheVariants.{Nop, NoPath, Other}

-- what is known of a call is so
abbrev pub IsKnownCall : Call → KnownCall → Type 0
IsKnownCall c Nop = service c ≡ Some nothing
IsKnownCall c NoPath = service c ≡ Some (no_path 0)
IsKnownCall c Other = Unit {0}

-- a micro-service of this name is refused where it is given an empty text for its path
abbrev pub WantsPath : Text → Type 0
WantsPath name = service (record { name = name; args = [] ∷ [] }) ≡ Some (no_path 0)

-- a grid with nothing in it
abbrev pub empty_grid : Grid
empty_grid = record {
  zone = [];
  stores = 0;
  users = empty;
  members = empty;
  collections = empty;
  objects = empty;
  triples = empty;
  access = empty;
  resources = empty;
}

-- how a call fails that wants a path
abbrev pub no_path_failure : Failure
no_path_failure = Refused (BadPath 0)

-- recoveries that were refused, as they are noted
abbrev pub noted_as : List Call → List Passed
noted_as calls = map (λ c. record { call = c; failure = print_failure no_path_failure }) calls
