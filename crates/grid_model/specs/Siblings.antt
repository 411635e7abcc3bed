-- The resources once another one stands among the children of its parent, or no longer stands there (iRODS documentation,
-- composable resources).
use Rattle.std.specs.Prelude.{Bool, true, false, ◌&&◌, ◌+◌, ◌-◌, nat_lt, nat_le, None, Some}
use Rattle.grid_model.specs.Maps.{Map, get, put, remove, with_values}
use Rattle.grid_model.specs.Names.{Text, text_cmp, same_text}
use Rattle.grid_model.specs.Grid.{Resource}

-- whether two resources have one parent; those without one are no siblings
abbrev pub are_siblings : Resource → Resource → Bool
are_siblings a b = elim a.parent [
  | None ↦ false
  | Some p ↦
      elim b.parent [ None ↦ false | Some q ↦ same_text p q ]
]

-- a resource beside a new one: a sibling that stood at its place, or behind it, stands one further
abbrev pub beside : Resource → Resource → Resource
beside new r = elim (are_siblings new r && nat_le new.place r.place) [ true ↦ record r { place = r.place + 1 } | false ↦ r ]

-- the resources with a new one of this name
abbrev pub with_resource : Map text_cmp Resource → Text → Resource → Map text_cmp Resource
with_resource resources name new = put (with_values (beside new) resources) name new

-- a resource where another one no longer is: a sibling that stood behind it stands one nearer
abbrev pub nearer : Resource → Resource → Resource
nearer gone r = elim (are_siblings gone r && nat_lt gone.place r.place) [ true ↦ record r { place = r.place - 1 } | false ↦ r ]

-- the resources without the one of this name
abbrev pub without_resource : Map text_cmp Resource → Text → Map text_cmp Resource
without_resource resources name = elim (get resources name) [ None ↦ resources | Some gone ↦ remove (with_values (nearer gone) resources) name ]
