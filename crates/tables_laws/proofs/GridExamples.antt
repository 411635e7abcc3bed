-- The grid of a worked catalogue, by computation.
use Rattle.std.proofs.Common.{◌≡◌, ℕ, refl}
use Rattle.std.specs.Prelude.{true, false, List, [], ◌∷◌, ◌++◌, map, Option, Some, None, Result, Ok, Err, codes, replicate, option_map}
use Rattle.grid_model.specs.Maps.{get, has}
use Rattle.grid_model.specs.Moves.{moved, moved_grid}
use Rattle.grid_model.specs.Siblings.{with_resource, without_resource}
use Rattle.grid_model.specs.Renames.{renamed_grid}
use Rattle.grid_model.specs.Rows.{empty_cat}
use Rattle.grid_model.specs.Applying.{apply_all}
use Rattle.grid_model.specs.Grid.{Grid, Object, Replica, Resource}
use Rattle.grid_model.specs.RowGrids.{grid_of}
use Rattle.grid_model.specs.declared.deltas.Delta.{Delta}
use Rattle.grid_model.specs.declared.deltas.Delta.TheVariants as delta
use Rattle.grid_model.specs.declared.grid.UserKind.TheVariants.{Rodsadmin, Rodsgroup}
use Rattle.grid_model.specs.declared.grid.ResourceKind.TheVariants.{Storage, Replication}
use Rattle.grid_model.specs.declared.grid.Level.TheVariants.{Read}
use Rattle.grid_model.specs.declared.grid.ItemKind.TheVariants as kind

-- a zone, its administrator and a group; `/z/home`, whose id is below that of `/z`; a leaf and another below a node; and
-- an object with a replica, an entry and metadata
abbrev deltas : List Delta
deltas =
    delta.Zone (codes "z") 2
    ∷ delta.Numbers (record { next_vault = 3; run = 0; last = 0 })
    ∷ delta.User (record { id = 2; kind = Rodsgroup; name = codes "public" })
    ∷ delta.User (record { id = 1; kind = Rodsadmin; name = codes "rods" })
    ∷ delta.Member (record { group = 2; user = 1 })
    ∷ delta.Collection (record { id = 0; parent = 0; name = []; inherit = false })
    ∷ delta.Collection (record { id = 3; parent = 0; name = codes "z"; inherit = false })
    ∷ delta.Collection (record { id = 1; parent = 3; name = codes "home"; inherit = true })
    ∷ delta.Resource (record { id = 1; name = codes "top"; kind = Replication; slot = 0; up = true; parent = 0; place = 0 })
    ∷ delta.Resource (record { id = 2; name = codes "d0"; kind = Storage; slot = 1; up = true; parent = 1; place = 7 })
    ∷ delta.Resource (record { id = 3; name = codes "d1"; kind = Storage; slot = 0; up = false; parent = 1; place = 4 })
    ∷ delta.Object (record { id = 7; collection = 1; name = codes "o"; size = 5; digest = replicate 32 0; time = 9 })
    ∷ delta.Replica (record { object = 7; number = 3; leaf = 2; good = true; size = 5; digest = replicate 32 0; vault = 1 })
    ∷ delta.Entry (record { kind = kind.Object; id = 7; user = 2; level = Read })
    ∷ []

-- what a function tells of the grid of the catalogue that these deltas make, and then others
abbrev told_then : {A : Type 0} → List Delta → (Grid → A) → Result A ℕ
told_then more f = elim (apply_all empty_cat (deltas ++ more)) [ Ok c ↦ Ok (f (grid_of c)) | Err cause ↦ Err cause ]

abbrev told : {A : Type 0} → (Grid → A) → Result A ℕ
told f = told_then [] f

the_zone : told (λ g. g.zone) ≡ Ok (codes "z")
the_zone = refl

a_user : told (λ g. get g.users (codes "rods")) ≡ Ok (Some Rodsadmin)
a_user = refl

a_member : told (λ g. has g.members (codes "public", codes "rods")) ≡ Ok true
a_member = refl

home_inherits : told (λ g. get g.collections (codes "z" ∷ codes "home" ∷ [])) ≡ Ok (Some true)
home_inherits = refl

root_is_there : told (λ g. get g.collections []) ≡ Ok (Some false)
root_is_there = refl

no_home_in_root : told (λ g. get g.collections (codes "home" ∷ [])) ≡ Ok None
no_home_in_root = refl

the_object : told (λ g. option_map (λ (o : Object). o.time) (get g.objects (codes "z" ∷ codes "home" ∷ codes "o" ∷ []))) ≡ Ok (Some 9)
the_object = refl

access_of_the_object : told (λ g. get g.access (codes "z" ∷ codes "home" ∷ codes "o" ∷ [], codes "public")) ≡ Ok (Some Read)
access_of_the_object = refl

-- the second child of its parent by place
the_leaf : told (λ g. option_map (λ (r : Resource). r.place) (get g.resources (codes "d0"))) ≡ Ok (Some 1)
the_leaf = refl

its_node : told (λ g. option_map (λ (r : Resource). r.parent) (get g.resources (codes "d1"))) ≡ Ok (Some (Some (codes "top")))
its_node = refl

leaf_of_the_replica : told (λ g. option_map (λ (o : Object). option_map (λ (r : Replica). r.leaf) (get o.replicas 3)) (get g.objects (codes "z" ∷ codes "home" ∷ codes "o" ∷ [])))
    ≡ Ok (Some (Some (codes "d0")))
leaf_of_the_replica = refl

-- ---- `/z/home` is moved to `/h`

abbrev home_moves : List Delta
home_moves = delta.Collection (record { id = 1; parent = 0; name = codes "h"; inherit = true }) ∷ []

below_it_moves : told_then home_moves (λ g. has g.objects (codes "h" ∷ codes "o" ∷ [])) ≡ Ok true
below_it_moves = refl

nothing_is_left : told_then home_moves (λ g. has g.objects (codes "z" ∷ codes "home" ∷ codes "o" ∷ [])) ≡ Ok false
nothing_is_left = refl

access_moves : told_then home_moves (λ g. get g.access (codes "h" ∷ codes "o" ∷ [], codes "public")) ≡ Ok (Some Read)
access_moves = refl

-- and so it is of the grid itself
moved_in_the_grid : told (λ g. has (moved_grid (codes "z" ∷ codes "home" ∷ []) (codes "h" ∷ []) g).objects (codes "h" ∷ codes "o" ∷ [])) ≡ Ok true
moved_in_the_grid = refl

-- what only begins alike stays
others_stay : moved (codes "a" ∷ []) (codes "b" ∷ []) (codes "ab" ∷ []) ≡ codes "ab" ∷ []
others_stay = refl

-- ---- a third leaf, between the two

abbrev between : List Delta
between = delta.Resource (record { id = 4; name = codes "d2"; kind = Storage; slot = 0; up = true; parent = 1; place = 5 }) ∷ []

abbrev places : Grid → List (Option ℕ)
places g = map (λ name. option_map (λ (r : Resource). r.place) (get g.resources name)) (codes "d1" ∷ codes "d2" ∷ codes "d0" ∷ [])

it_stands_between : told_then between places ≡ Ok (Some 0 ∷ Some 1 ∷ Some 2 ∷ [])
it_stands_between = refl

and_in_the_grid : told (λ g. places (record g { resources = with_resource g.resources (codes "d2") (record { kind = Storage; slot = 0; up = true; parent = Some (codes "top"); place = 1 }) }))
    ≡ Ok (Some 0 ∷ Some 1 ∷ Some 2 ∷ [])
and_in_the_grid = refl

-- ---- the leaf `d1` has no parent any more, and is called `e`

abbrev leaves : List Delta
leaves = delta.Resource (record { id = 3; name = codes "e"; kind = Storage; slot = 0; up = false; parent = 0; place = 0 }) ∷ []

-- the one behind it is the first child
first_now : told_then leaves (λ g. option_map (λ (r : Resource). r.place) (get g.resources (codes "d0"))) ≡ Ok (Some 0)
first_now = refl

first_in_the_grid : told (λ g. option_map (λ (r : Resource). r.place) (get (without_resource g.resources (codes "d1")) (codes "d0"))) ≡ Ok (Some 0)
first_in_the_grid = refl

gone_by_name : told_then leaves (λ g. has g.resources (codes "d1")) ≡ Ok false
gone_by_name = refl

-- the replica says another name of its leaf, and a child one of its parent
another_leaf : told (λ g. option_map (λ (o : Object). option_map (λ (r : Replica). r.leaf) (get o.replicas 3)) (get (renamed_grid (codes "d0") (codes "f") g).objects (codes "z" ∷ codes "home" ∷ codes "o" ∷ [])))
    ≡ Ok (Some (Some (codes "f")))
another_leaf = refl

another_parent : told (λ g. option_map (λ (r : Resource). r.parent) (get (renamed_grid (codes "top") (codes "tree") g).resources (codes "d1"))) ≡ Ok (Some (Some (codes "tree")))
another_parent = refl
