-- The changes that make a user with a home, or a group.
use Rattle.std.specs.Prelude.{◌≡◌, ◌≢◌, ℕ, ◌+◌, false, IsTrue, List, [], ◌∷◌, length, Err, ⊤, ◌||◌}
use Rattle.std.specs.List.{list_all}
use Rattle.grid_model.specs.Maps.{has}
use Rattle.grid_model.specs.Names.{Text}
use Rattle.grid_model.specs.Grid.{Grid, homes, home_of}
use Rattle.grid_model.specs.Refusing.{Or, ◌>>=◌, unless, refuse}
use Rattle.grid_model.specs.Bounds.{within}
use Rattle.grid_model.specs.Rows.{Cat, has_user, has_collection}
use Rattle.grid_model.specs.RowGrids.{grid_of}
use Rattle.grid_model.specs.Operations.Common.{is_taken}
use Rattle.grid_model.specs.declared.deltas.Delta.{Delta}
use Rattle.grid_model.specs.declared.deltas.Delta.TheVariants as delta
use Rattle.grid_model.specs.declared.deltas.CollectionRow.{CollectionRow}
use Rattle.grid_model.specs.declared.deltas.EntryRow.{EntryRow}
use Rattle.grid_model.specs.declared.deltas.UserRow.{UserRow}
use Rattle.grid_model.specs.declared.grid.ItemKind.TheVariants.{Collection}
use Rattle.grid_model.specs.declared.grid.Level.TheVariants.{Own}
use Rattle.grid_model.specs.declared.grid.UserKind.{UserKind}
use Rattle.grid_model.specs.declared.plans.PlanError.{PlanError}
use Rattle.grid_model.specs.declared.plans.PlanError.TheVariants.{Refused, Memory}
use Rattle.grid_model.specs.declared.refusal.Refusal.TheVariants.{Exists, NoCollection}
use Rattle.grid_model.specs.declared.refusal.What.TheVariants.{Users, Collections, Access}
use Rattle.grid_journal.specs.Journal.{can_be_kept}
use Rattle.plan_base.specs.Found.{LiesIn}

-- it has the name and the kind, and an id that none has
pub record IsUserFor (c : Cat) (name : Text) (kind : UserKind) (r : UserRow) : Type 0 where
  pub name_is : r.name ≡ name
  pub kind_is : r.kind ≡ kind
  pub fresh : has_user c r.id ≡ false
  pub spelled : IsTrue (can_be_kept (delta.User r))

-- it has the name in the collection of homes, and an id that none has, and hands no access on
pub record IsHomeFor (c : Cat) (homes : ℕ) (name : Text) (r : CollectionRow) : Type 0 where
  pub some_id : r.id ≢ 0
  pub fresh : has_collection c r.id ≡ false
  pub row_is : r ≡ record { id = r.id; parent = homes; name = name; inherit = false }
  pub spelled : IsTrue (can_be_kept (delta.Collection r))

-- the user's access at the home
abbrev pub own_entry : ℕ → ℕ → EntryRow
own_entry home user = record { kind = Collection; id = home; user = user; level = Own }

-- the user is put, and the home, and own for the user there
pub record MakesUser (c : Cat) (name : Text) (kind : UserKind) (homes : ℕ) (deltas : List Delta) : Type 0 where
  pub row : UserRow
  pub is_row : IsUserFor c name kind row
  pub home : CollectionRow
  pub is_home : IsHomeFor c homes name home
  pub deltas_are : deltas ≡ delta.User row ∷ delta.Collection home ∷ delta.Entry (own_entry home.id row.id) ∷ []
  pub spelled : IsTrue (list_all can_be_kept deltas)

-- none has the name, nothing is at the path of its home, and the collection of homes has this id
pub record IsFreeHome (c : Cat) (name : Text) (id : ℕ) : Type 0 where
  pub unnamed : has (grid_of c).users name ≡ false
  pub free : is_taken (grid_of c) (home_of (grid_of c).zone name) ≡ false
  pub inside : LiesIn c (home_of (grid_of c).zone name) id

-- what is asked of the name and of the path of its home, in order
abbrev pub home_asked : Grid → Text → Or ⊤
home_asked g name = refuse (has g.users name || is_taken g (home_of g.zone name)) Exists >>= (λ _. unless (has g.collections (homes g.zone)) NoCollection)

-- why there is no home for the name
abbrev pub IsNoHome : Cat → Text → PlanError → Type 0
IsNoHome c name (Refused r) = home_asked (grid_of c) name ≡ Err r
IsNoHome c name Memory = Unit {0}

-- whether there may be a user, a collection and an entry more
abbrev pub room_for_user : Cat → Or ⊤
room_for_user c =
    within Users (length c.users + 1) >>= (λ _. within Collections (length c.collections + 1) >>= (λ _. within Access (length c.entries + 1)))
