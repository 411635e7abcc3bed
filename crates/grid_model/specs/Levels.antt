-- What a user may do at an object or a collection: read, write or own it (iRODS Primer, access control). What an
-- administrator may do without an entry is this project's own.
use Rattle.std.specs.Prelude.{ℕ, Bool, true, false, ◌&&◌, ◌||◌, List, [], ◌∷◌, Option, Some, nat_le, filter, map}
use Rattle.grid_model.specs.Maps.{get, has}
use Rattle.grid_model.specs.Names.{Text, Path, same_text, same_path}
use Rattle.grid_model.specs.Grid.{Grid, everybody}
use Rattle.grid_model.specs.declared.grid.Level.{Level}
use Rattle.grid_model.specs.declared.grid.Level.TheVariants.{Null, Read, Write, Own}
use Rattle.grid_model.specs.declared.grid.UserKind.{UserKind}
use Rattle.grid_model.specs.declared.grid.UserKind.TheVariants.{Rodsadmin}

-- ---- levels

-- how many levels stand before it
abbrev pub level_rank : Level → ℕ
level_rank Null = 0
level_rank Read = 1
level_rank Write = 2
level_rank Own = 3

-- each level contains itself and those before it
abbrev pub contains_level : Level → Level → Bool
contains_level big small = nat_le (level_rank small) (level_rank big)

-- the one that contains the other
abbrev pub greater_level : Level → Level → Level
greater_level a b = elim (contains_level a b) [ true ↦ a | false ↦ b ]

-- the one that contains all of these; null of none
abbrev pub greatest : List Level → Level
greatest [] = Null
greatest (l ∷ levels) = greater_level l (greatest levels)

-- ---- the level of a user at an item

-- a rodsadmin, and neither another user nor a group nor nobody
abbrev pub is_admin : Option UserKind → Bool
is_admin (Some Rodsadmin) = true
is_admin other = false

-- what this name is given, the user has: the name is the user's own, that of the group of all, or that of a group that
-- the user is in
abbrev pub speaks_for : Grid → Text → Text → Bool
speaks_for g user name = same_text name user || same_text name everybody || has g.members (name, user)

-- the levels that the item gives the user, by the entries at its path
abbrev pub levels_given : Grid → Text → Path → List Level
levels_given g user item = map (λ e. e.1) (filter (λ e. same_path e.0.0 item && speaks_for g user e.0.1) g.access.entries)

-- the level of the user of this name at the item of this path: own for a rodsadmin, and else the greatest that is given
abbrev pub level_at : Grid → Text → Path → Level
level_at g user item = elim (is_admin (get g.users user)) [ true ↦ Own | false ↦ greatest (levels_given g user item) ]

-- whether the user's level at the item contains the wanted one
abbrev pub may : Grid → Text → Path → Level → Bool
may g user item wanted = contains_level (level_at g user item) wanted
