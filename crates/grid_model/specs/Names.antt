-- Names and logical paths (iRODS Primer, the logical name space), as values and as texts. Which bytes a name may have,
-- and how many, is this project's own.
use Rattle.std.specs.Prelude.{◌≡◌, ℕ, Bool, true, false, not, ◌&&◌, List, [], ◌∷◌, length, flat_map, Option, Some, None, option_map, nat_lt}
use Rattle.std.specs.Prelude.{nat_le, ◌==◌, IsTrue}
use Rattle.std.specs.List.{list_all}
use Rattle.std.specs.Option.{option_map_or}
use Rattle.std.specs.declared.cmp.Ordering.{Ordering}
use Rattle.std.specs.Ordering.{nat_cmp, eq_by_cmp}
use Rattle.std.specs.Cmp.Lexicographic.{slice_cmp}

-- a list of bytes
abbrev pub Text : Type 0
Text = List ℕ

-- a place in the grid: the names from `/` down, and none for `/` itself
abbrev pub Path : Type 0
Path = List Text

-- by bytes, and a text before those that it begins
abbrev pub text_cmp : Text → Text → Ordering
text_cmp = slice_cmp nat_cmp

-- name by name, so that a collection stands before what is in it, and that before its next sibling
abbrev pub path_cmp : Path → Path → Ordering
path_cmp = slice_cmp text_cmp

-- whether two texts have the same bytes
abbrev pub same_text : Text → Text → Bool
same_text = eq_by_cmp text_cmp

-- whether two paths have the same names
abbrev pub same_path : Path → Path → Bool
same_path = eq_by_cmp path_cmp

-- a byte that a name may have: none below 0x20, not 0x7F and not `/`
abbrev pub is_name_byte : ℕ → Bool
is_name_byte b = nat_le 0x20 b && not (b == 0x7F) && not (b == 0x2F)

-- 1 to 255 bytes of a name, and neither `.` nor `..`
abbrev pub is_name : Text → Bool
is_name t = nat_lt 0 (length t) && nat_lt (length t) 256 && list_all is_name_byte t
    && not (same_text t (0x2E ∷ [])) && not (same_text t (0x2E ∷ 0x2E ∷ []))

-- the text spells a name: itself
pub record SpellsName (text : Text) (name : Text) : Type 0 where
  pub is : IsTrue (is_name name)
  pub text_is : text ≡ name

-- each of the names is one
abbrev pub is_path : Path → Bool
is_path p = list_all is_name p

-- `/` before each name, and `/` alone for none
abbrev pub print_path : Path → Text
print_path [] = 0x2F ∷ []
print_path (name ∷ names) = flat_map (λ n. 0x2F ∷ n) (name ∷ names)

-- the text spells the path
pub record SpellsPath (text : Text) (path : Path) : Type 0 where
  pub names : IsTrue (is_path path)
  pub text_is : text ≡ print_path path

-- all names but the last, or none for `/`
abbrev pub parent : Path → Option Path
parent [] = None
parent (name ∷ []) = Some []
parent (name ∷ next ∷ names) = option_map (λ p. name ∷ p) (parent (next ∷ names))

-- the rest of the second path where the first is at or above it
abbrev pub path_below : Path → Path → Option Path
path_below [] p = Some p
path_below (a ∷ above) [] = None
path_below (a ∷ above) (b ∷ rest) = elim (same_text a b) [ true ↦ path_below above rest | false ↦ None ]

-- the second path is strictly below the first
abbrev pub is_under : Path → Path → Bool
is_under a p = option_map_or (λ rest. nat_lt 0 (length rest)) (path_below a p) false
