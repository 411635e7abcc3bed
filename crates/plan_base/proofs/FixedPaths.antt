-- The paths of collections that stay, and the kinds of users by their names.
use Rattle.std.proofs.Common.{◌≡◌, ◌<◌, ◌≤◌, ℕ, Bool, true, false, List, [], ◌∷◌, length, get_or, Option, Some, None, IsTrue, refl, sym, ap, ◌∙◌, arith}
use Rattle.std.specs.Prelude.{◌↔◌, find, option_map, ◌&&◌, ◌||◌}
use Rattle.std.specs.List.{list_any}
use Rattle.std.specs.Cmp.{both_ways}
use Rattle.std.proofs.lemmas.Bool.{and_parts, and_from}
use Rattle.grid_model.specs.Maps.{get}
use Rattle.grid_model.specs.Names.{Text, Path, same_path, same_text}
use Rattle.grid_model.specs.Grid.{home, homes, home_of}
use Rattle.grid_model.specs.Rows.{Cat, user}
use Rattle.grid_model.specs.RowGrids.{grid_of}
use Rattle.grid_model.specs.Applying.{IsMade}
use Rattle.grid_model.specs.Operations.Common.{is_fixed, is_person}
use Rattle.grid_model.specs.declared.deltas.UserRow.{UserRow}
use Rattle.grid_model.specs.declared.grid.UserKind.{UserKind}
use Rattle.grid_model.proofs.Comparing.{text_cmp_total, text_cmp-IsAntisymmetric, same_path-Decides, same_text-Decides}
use Rattle.tables_laws.proofs.Rows.{IsIn, in_from_any, any_from_in, in_from_find, find_from_in}
use Rattle.tables_laws.proofs.Numbered.{one_number}
use Rattle.tables_laws.proofs.LookUps.{get-users}
use Rattle.plan_base.proofs.AtPaths.{sound_of}
use Rattle.plan_base.proofs.MapRows.{any-entries}
use Rattle.plan_base.proofs.NamedUsers.{id_named, is_named}

-- ---- kinds by names

module _ (c : Cat) (made : IsMade c) (name : Text) where
  pub kind_none : None ≡ id_named c name → None ≡ get (grid_of c).users name
  kind_none none = by (find (λ r. same_text r.name name) c.users) refl none ∙ sym (get-users c name)
    where
      by : (o : Option UserRow) → find (λ r. same_text r.name name) c.users ≡ o → None ≡ option_map (λ (r : UserRow). r.id) o → None ≡ option_map (λ (r : UserRow). r.kind) (find (λ r. same_text r.name name) c.users)
      by None is e = ap (option_map (λ (r : UserRow). r.kind)) (sym is)
      by (Some x) is e = absurd cc

  pub kind_some : (id : ℕ) (k : Option UserKind) → Some id ≡ id_named c name → k ≡ option_map (λ r. r.kind) (user c id) → k ≡ get (grid_of c).users name
  kind_some id k some is = is ∙ sym (is_named c (sound_of c made) name id some).kind_is

-- ---- paths that stay

-- one of those
pub data Fixed (c : Cat) (p : Path) : Type 0 where
  root : p ≡ [] → Fixed c p
  zone : p ≡ (grid_of c).zone ∷ [] → Fixed c p
  all_homes : p ≡ (grid_of c).zone ∷ home ∷ [] → Fixed c p
  a_home : (name : Text) → is_person (get (grid_of c).users name) ≡ true → p ≡ (grid_of c).zone ∷ home ∷ name ∷ [] → Fixed c p

module _ (c : Cat) (made : IsMade c) (p : Path) where
  one_name : (x y : UserRow) → IsIn c.users x → IsIn c.users y → x.name ≡ y.name → x ≡ y
  one_name x y here there e = one_number (λ (r : UserRow). r.id) c.users x y (sound_of c made).cat.users.ordered here there ((sound_of c made).names.users_apart x y here there e)

  at_home : UserRow → Bool
  at_home r = is_person (Some r.kind) && same_path p (home_of (grid_of c).zone r.name)

  homes_by_rows : list_any (λ e. is_person (Some e.1) && same_path p (home_of (grid_of c).zone e.0)) (grid_of c).users.entries ≡ list_any (λ r. is_person (Some r.kind) && same_path p (home_of (grid_of c).zone r.name)) c.users
  homes_by_rows =
      any-entries text_cmp_total text_cmp-IsAntisymmetric (λ (r : UserRow). r.name) (λ (r : UserRow). r.kind)
      (λ e. is_person (Some e.1) && same_path p (home_of (grid_of c).zone e.0)) c.users one_name

  found_row : (x : UserRow) → IsIn c.users x → get (grid_of c).users x.name ≡ Some x.kind
  found_row x here =
      get-users c x.name ∙ ap (option_map (λ (r : UserRow). r.kind)) (find_from_in (λ (r : UserRow). same_text r.name x.name) c.users x here ((same_text-Decides x.name x.name).1 refl)
      (λ y there passes. one_name y x there here ((same_text-Decides y.name x.name).0 passes)))

  pub fixed_is : is_fixed (grid_of c) p ≡ true → Fixed c p
  fixed_is e = by (same_path p []) (same_path p ((grid_of c).zone ∷ [])) (same_path p (homes (grid_of c).zone)) refl refl refl e
    where
      by : (a b d : Bool) → same_path p [] ≡ a → same_path p ((grid_of c).zone ∷ []) ≡ b → same_path p (homes (grid_of c).zone) ≡ d
          → (((a || b) || d) || list_any (λ e. is_person (Some e.1) && same_path p (home_of (grid_of c).zone e.0)) (grid_of c).users.entries) ≡ true → Fixed c p
      by true b d a_is b_is d_is h = root ((same_path-Decides p []).0 a_is)
      by false true d a_is b_is d_is h = zone ((same_path-Decides p ((grid_of c).zone ∷ [])).0 b_is)
      by false false true a_is b_is d_is h = all_homes ((same_path-Decides p (homes (grid_of c).zone)).0 d_is)
      by false false false a_is b_is d_is h =
          let x = in_from_any (λ r. is_person (Some r.kind) && same_path p (home_of (grid_of c).zone r.name)) c.users (sym homes_by_rows ∙ h) in
          let parts = and_parts (is_person (Some x.0.kind)) (same_path p (home_of (grid_of c).zone x.0.name)) x.2 in
          a_home x.0.name (ap is_person (found_row x.0 x.1) ∙ parts.0) ((same_path-Decides p (home_of (grid_of c).zone x.0.name)).0 parts.1)

  pub is_fixed_at : Fixed c p → is_fixed (grid_of c) p ≡ true
  is_fixed_at f = by (same_path p []) (same_path p ((grid_of c).zone ∷ [])) (same_path p (homes (grid_of c).zone)) refl refl refl f
    where
      rest : Bool
      rest = list_any (λ e. is_person (Some e.1) && same_path p (home_of (grid_of c).zone e.0)) (grid_of c).users.entries

      by : (a b d : Bool) → same_path p [] ≡ a → same_path p ((grid_of c).zone ∷ []) ≡ b → same_path p (homes (grid_of c).zone) ≡ d → Fixed c p
          → (((a || b) || d) || list_any (λ e. is_person (Some e.1) && same_path p (home_of (grid_of c).zone e.0)) (grid_of c).users.entries) ≡ true
      by true b d a_is b_is d_is h = refl
      by false true d a_is b_is d_is h = refl
      by false false true a_is b_is d_is h = refl
      by false false false a_is b_is d_is (root is) = let wrong : same_path p [] ≡ true = (same_path-Decides p []).1 is in absurd cc
      by false false false a_is b_is d_is (zone is) = let wrong : same_path p ((grid_of c).zone ∷ []) ≡ true = (same_path-Decides p ((grid_of c).zone ∷ [])).1 is in absurd cc
      by false false false a_is b_is d_is (all_homes is) = let wrong : same_path p (homes (grid_of c).zone) ≡ true = (same_path-Decides p (homes (grid_of c).zone)).1 is in absurd cc
      by false false false a_is b_is d_is (a_home name person is) = homes_by_rows ∙ in_rows name person is (find (λ r. same_text r.name name) c.users) refl
        where
          in_rows : (n : Text) → is_person (get (grid_of c).users n) ≡ true → p ≡ home_of (grid_of c).zone n → (o : Option UserRow) → find (λ r. same_text r.name n) c.users ≡ o
              → list_any (λ r. is_person (Some r.kind) && same_path p (home_of (grid_of c).zone r.name)) c.users ≡ true
          in_rows n person at None none = let wrong : is_person (get (grid_of c).users n) ≡ false = ap is_person (get-users c n ∙ ap (option_map (λ (r : UserRow). r.kind)) none) in absurd cc
          in_rows n person at (Some x) some =
              let found = in_from_find (λ (r : UserRow). same_text r.name n) c.users x some in
              let named : x.name ≡ n = (same_text-Decides x.name n).0 found.1 in
              any_from_in (λ r. is_person (Some r.kind) && same_path p (home_of (grid_of c).zone r.name)) c.users x found.0
              (and_from (is_person (Some x.kind)) (same_path p (home_of (grid_of c).zone x.name)) (ap is_person (sym (get-users c n ∙ ap (option_map (λ (r : UserRow). r.kind)) some)) ∙ person)
              ((same_path-Decides p (home_of (grid_of c).zone x.name)).1 (at ∙ ap (home_of (grid_of c).zone) (sym named))))

-- ---- the tests of the names

-- a list by its items
pub one_of : {X : Type 0} (xs : List X) (a : X) → 1 ≤ length xs → length xs < 2 → a ≡ get_or xs 0 a → xs ≡ a ∷ []
one_of [] a low high is = absurd (omega arith)
one_of (x ∷ []) a low high is = ap (λ y. y ∷ []) (sym is)
one_of (x ∷ y ∷ xs) a low high is = absurd (omega arith)

pub two_of : {X : Type 0} (xs : List X) (a b : X) → 2 ≤ length xs → length xs < 3 → a ≡ get_or xs 0 a → b ≡ get_or xs 1 b → xs ≡ a ∷ b ∷ []
two_of [] a b low high is then_is = absurd (omega arith)
two_of (x ∷ []) a b low high is then_is = absurd (omega arith)
two_of (x ∷ y ∷ []) a b low high is then_is = λ i. sym is i ∷ sym then_is i ∷ []
two_of (x ∷ y ∷ z ∷ xs) a b low high is then_is = absurd (omega arith)

pub three_of : {X : Type 0} (xs : List X) (a b d : X) → 3 ≤ length xs → length xs < 4 → a ≡ get_or xs 0 a → b ≡ get_or xs 1 b → d ≡ get_or xs 2 d → xs ≡ a ∷ b ∷ d ∷ []
three_of [] a b d low high is then_is last_is = absurd (omega arith)
three_of (x ∷ []) a b d low high is then_is last_is = absurd (omega arith)
three_of (x ∷ y ∷ []) a b d low high is then_is last_is = absurd (omega arith)
three_of (x ∷ y ∷ z ∷ []) a b d low high is then_is last_is = λ i. sym is i ∷ sym then_is i ∷ sym last_is i ∷ []
three_of (x ∷ y ∷ z ∷ w ∷ xs) a b d low high is then_is last_is = absurd (omega arith)

module _ (c : Cat) (made : IsMade c) (p : Path) (z : Text) (z_is : z ≡ (grid_of c).zone) where
  pub tells_root : p ≡ [] → true ≡ is_fixed (grid_of c) p
  tells_root is = sym (is_fixed_at c made p (root is))

  pub tells_zone : (a : Text) (b : Bool) → p ≡ a ∷ [] → IsTrue b ↔ (a ≡ z) → b ≡ is_fixed (grid_of c) p
  tells_zone a b is tells = both_ways b (is_fixed (grid_of c) p) (λ e. is_fixed_at c made p (zone (is ∙ ap (λ (n : Text). n ∷ []) (tells.0 e ∙ z_is)))) (λ e. by (fixed_is c made p e))
    where
      by : Fixed c p → b ≡ true
      by (root at) = absurd cc
      by (zone at) = tells.1 (let same : a ≡ (grid_of c).zone = cc in same ∙ sym z_is)
      by (all_homes at) = absurd cc
      by (a_home name person at) = absurd cc

  pub tells_homes : (a h : Text) (b : Bool) → p ≡ a ∷ h ∷ [] → IsTrue b ↔ (a ≡ z) × (h ≡ home) → b ≡ is_fixed (grid_of c) p
  tells_homes a h b is tells =
      both_ways b (is_fixed (grid_of c) p) (λ e. let both = tells.0 e in is_fixed_at c made p (all_homes (is ∙ (λ i. (both.0 ∙ z_is) i ∷ both.1 i ∷ [])))) (λ e. by (fixed_is c made p e))
    where
      by : Fixed c p → b ≡ true
      by (root at) = absurd cc
      by (zone at) = absurd cc
      by (all_homes at) = let first : a ≡ (grid_of c).zone = cc in let second : h ≡ home = cc in tells.1 (first ∙ sym z_is, second)
      by (a_home name person at) = absurd cc

  pub tells_home : (a h n : Text) (b d : Bool) → p ≡ a ∷ h ∷ n ∷ [] → IsTrue b ↔ (a ≡ z) × (h ≡ home) → b ≡ true → d ≡ is_person (get (grid_of c).users n) → d ≡ is_fixed (grid_of c) p
  tells_home a h n b d is tells holds d_is =
      both_ways d (is_fixed (grid_of c) p) (λ e. let both = tells.0 holds in is_fixed_at c made p (a_home n (sym d_is ∙ e) (is ∙ (λ i. (both.0 ∙ z_is) i ∷ both.1 i ∷ n ∷ [])))) (λ e. by (fixed_is c made p e))
    where
      by : Fixed c p → d ≡ true
      by (root at) = absurd cc
      by (zone at) = absurd cc
      by (all_homes at) = absurd cc
      by (a_home name person at) = let same : n ≡ name = cc in d_is ∙ ap (λ (m : Text). is_person (get (grid_of c).users m)) same ∙ person

  pub tells_elsewhere : (a h n : Text) (b : Bool) → p ≡ a ∷ h ∷ n ∷ [] → IsTrue b ↔ (a ≡ z) × (h ≡ home) → b ≡ false → b ≡ is_fixed (grid_of c) p
  tells_elsewhere a h n b is tells differs = both_ways b (is_fixed (grid_of c) p) (λ e. absurd cc) (λ e. by (fixed_is c made p e))
    where
      by : Fixed c p → b ≡ true
      by (root at) = absurd cc
      by (zone at) = absurd cc
      by (all_homes at) = absurd cc
      by (a_home name person at) = let first : a ≡ (grid_of c).zone = cc in let second : h ≡ home = cc in tells.1 (first ∙ sym z_is, second)

  pub tells_deep : 4 ≤ length p → false ≡ is_fixed (grid_of c) p
  tells_deep long = both_ways false (is_fixed (grid_of c) p) (λ e. absurd cc) (λ e. by (fixed_is c made p e))
    where
      by : Fixed c p → false ≡ true
      by (root at) = absurd (let short : length p ≡ 0 = ap (λ (q : Path). length q) at in omega arith)
      by (zone at) = absurd (let short : length p ≡ 1 = ap (λ (q : Path). length q) at in omega arith)
      by (all_homes at) = absurd (let short : length p ≡ 2 = ap (λ (q : Path). length q) at in omega arith)
      by (a_home name person at) = absurd (let short : length p ≡ 3 = ap (λ (q : Path). length q) at in omega arith)
