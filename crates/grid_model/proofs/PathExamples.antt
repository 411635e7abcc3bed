-- Worked examples of names and paths.
use Rattle.std.proofs.Common.{◌≡◌, true, false, [], ◌∷◌, Some, None, refl}
use Rattle.std.specs.Prelude.{codes, replicate}
use Rattle.std.specs.declared.cmp.Ordering.TheVariants.{Less, Greater}
use Rattle.grid_model.specs.Names.{Path, is_name, is_path, print_path, parent, is_under, path_cmp, text_cmp, same_text, same_path}
use Rattle.grid_model.specs.Grid.{Grid, start_grid}
use Rattle.grid_model.specs.Maps.{Set, empty, add, has}

-- ---- names

a_name : is_name (codes "a.b c") ≡ true
a_name = refl

three_dots : is_name (codes "...") ≡ true
three_dots = refl

none_at_all : is_name [] ≡ false
none_at_all = refl

one_dot : is_name (codes ".") ≡ false
one_dot = refl

two_dots : is_name (codes "..") ≡ false
two_dots = refl

with_slash : is_name (codes "a/b") ≡ false
with_slash = refl

low_byte : is_name (0x61 ∷ 0x1F ∷ []) ≡ false
low_byte = refl

deleted_byte : is_name (0x7F ∷ []) ≡ false
deleted_byte = refl

high_byte : is_name (0xFF ∷ []) ≡ true
high_byte = refl

longest_name : is_name (replicate 255 0x61) ≡ true
longest_name = refl

too_long_a_name : is_name (replicate 256 0x61) ≡ false
too_long_a_name = refl

space_is_a_name : is_name (codes " ") ≡ true
space_is_a_name = refl

-- ---- texts

-- by bytes, and not by length
a_before_b : text_cmp (codes "ab") (codes "b") ≡ Less
a_before_b = refl

front_first : text_cmp (codes "ab") (codes "a") ≡ Greater
front_first = refl

same_bytes : same_text (codes "ab") (codes "ab") ≡ true
same_bytes = refl

other_case : same_text (codes "ab") (codes "aB") ≡ false
other_case = refl

-- ---- paths

abbrev home : Path
home = codes "z" ∷ codes "home" ∷ []

abbrev rods : Path
rods = codes "z" ∷ codes "home" ∷ codes "rods" ∷ []

root_printed : print_path [] ≡ codes "/"
root_printed = refl

home_printed : print_path home ≡ codes "/z/home"
home_printed = refl

home_is_a_path : is_path home ≡ true
home_is_a_path = refl

no_empty_name : is_path (codes "z" ∷ [] ∷ []) ≡ false
no_empty_name = refl

root_has_no_parent : parent [] ≡ None
root_has_no_parent = refl

zone_lies_in_the_root : parent (codes "z" ∷ []) ≡ Some []
zone_lies_in_the_root = refl

rods_lies_in_home : parent rods ≡ Some home
rods_lies_in_home = refl

rods_is_under_home : is_under home rods ≡ true
rods_is_under_home = refl

home_is_not_under_rods : is_under rods home ≡ false
home_is_not_under_rods = refl

home_is_not_under_itself : is_under home home ≡ false
home_is_not_under_itself = refl

-- a name that only begins with the other is no item of it
homes_is_not_under_home : is_under home (codes "z" ∷ codes "homes" ∷ codes "rods" ∷ []) ≡ false
homes_is_not_under_home = refl

-- `/z` before `/z/home` before `/z.a`
zone_first : path_cmp (codes "z" ∷ []) home ≡ Less
zone_first = refl

sibling_last : path_cmp (codes "z.a" ∷ []) home ≡ Greater
sibling_last = refl

same_names : same_path home home ≡ true
same_names = refl

split_elsewhere : same_path (codes "ab" ∷ codes "c" ∷ []) (codes "a" ∷ codes "bc" ∷ []) ≡ false
split_elsewhere = refl

-- ---- the grid from the start

abbrev first : Grid
first = start_grid (codes "z") (codes "rods") 1

root_from_the_start : has first.collections [] ≡ true
root_from_the_start = refl

zone_from_the_start : has first.collections (codes "z" ∷ []) ≡ true
zone_from_the_start = refl

homes_from_the_start : has first.collections home ≡ true
homes_from_the_start = refl

home_from_the_start : has first.collections rods ≡ true
home_from_the_start = refl

-- the group of everybody has none
no_home_of_everybody : has first.collections (codes "z" ∷ codes "home" ∷ codes "public" ∷ []) ≡ false
no_home_of_everybody = refl

-- ---- sets

abbrev two : Set path_cmp
two = add (add empty rods) home

both_are_there : has two rods ≡ true
both_are_there = refl

other_is_not : has two (codes "z" ∷ []) ≡ false
other_is_not = refl

in_any_order : two ≡ add (add empty home) rods
in_any_order = refl
