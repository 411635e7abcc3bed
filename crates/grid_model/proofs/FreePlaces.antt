-- A new collection fits the catalogue, and so does a new object, where nothing has the path.
use Rattle.std.proofs.Common.{◌≡◌, ℕ, zero, suc, Bool, true, false, List, [], ◌∷◌, ◌++◌, length, Option, Some, None, IsTrue, refl, sym, ap, ◌∙◌}
use Rattle.std.specs.Prelude.{find, option_map, is_some, not, ◌&&◌, ◌||◌, ◌==◌, reverse}
use Rattle.std.proofs.lemmas.List.{reverse-append}
use Rattle.std.specs.List.{list_any, AllByRecursion}
use Rattle.grid_model.specs.Names.{Text, Path, same_text, is_name}
use Rattle.grid_model.specs.Rows.{Cat, IsCat, collection_cmp, collection, has_collection}
use Rattle.grid_model.specs.Applying.{collection_fits, object_fits, lies_within, lies_in, is_child_named, is_object_named, free_for_collection, free_for_object}
use Rattle.grid_model.specs.RowPaths.{is_path_of, names_within, names_up, collection_path, object_path}
use Rattle.grid_model.specs.NewRows.{HasPaths, IsFreeAt, IsNewAt, IsNewObjectAt}
use Rattle.grid_model.specs.declared.deltas.CollectionRow.{CollectionRow}
use Rattle.grid_model.specs.declared.deltas.ObjectRow.{ObjectRow}
use Rattle.grid_model.proofs.Comparing.{same_path-self, same_text-Decides}
use Rattle.grid_model.proofs.TableLemmas.{all-map}
use Rattle.grid_model.proofs.RowOrders.{lower_id}
use Rattle.grid_model.proofs.FoundRows.{none_passes, none_any, find-self}
use Rattle.grid_model.proofs.NewCollections.{eqb-eq, eqb-true, eqb-false, names-more, Up, up_of, At, at_of, at_path, walk, collection-fresh}

-- ---- rows by ids

-- a row is there
any-self : (rows : List CollectionRow) → AllByRecursion (λ x. IsTrue (list_any (λ y. y.id == x.id) rows)) rows
any-self [] = tt
any-self (r ∷ rows) = (
  ap (λ b. b || list_any (λ y. y.id == r.id) rows) (eqb-true r.id r.id refl),
  all-map (λ x. IsTrue (list_any (λ y. y.id == x.id) rows)) (λ x. IsTrue (list_any (λ y. y.id == x.id) (r ∷ rows))) (λ x e. ap (λ b. (r.id == x.id) || b) e ∙ either (r.id == x.id)) rows (any-self rows),
)
  where
    either : (b : Bool) → (b || true) ≡ true
    either true = refl
    either false = refl

-- what is so of all rows, and what follows for each
both_all : {X : Type 0} (P Q R : X → Type 0) → ((x : X) → P x → Q x → R x) → (xs : List X) → AllByRecursion P xs → AllByRecursion Q xs → AllByRecursion R xs
both_all P Q R f [] ps qs = tt
both_all P Q R f (x ∷ xs) ps qs = (f x ps.0 qs.0, both_all P Q R f xs ps.1 qs.1)

both_true : (a b : Bool) → a ≡ true → b ≡ true → (a && b) ≡ true
both_true true b e f = f
both_true false b e f = absurd (cc)

-- ---- ways up

module _ (c : Cat) where
  -- names that lead up from an id
  record Next (n : ℕ) (x : CollectionRow) (u : Path) : Type 0 where
    pub rest : Path
    pub is : names_within n c x.parent ≡ Some rest
    pub first : u ≡ x.name ∷ rest

  next_of : (n : ℕ) (x : CollectionRow) (u : Path) → option_map (λ names. x.name ∷ names) (names_within n c x.parent) ≡ Some u → Next n x u
  next_of n x u e = by_names (names_within n c x.parent) refl e
    where
      by_names : (o : Option Path) → names_within n c x.parent ≡ o → option_map (λ names. x.name ∷ names) o ≡ Some u → Next n x u
      by_names None is none = absurd (cc)
      by_names (Some rest) is some = record { rest = rest; is = is; first = cc }

  -- the same for a row that is there and is not `/`
  step_of : (n : ℕ) (x : CollectionRow) (u : Path) → (x.id == 0) ≡ false → collection c x.id ≡ Some x → names_within n c x.id ≡ Some u → Next n x u
  step_of zero x u root row e = absurd (cc)
  step_of (suc n) x u root row e =
      let at_row : option_map (λ names. x.name ∷ names) (names_within n c x.parent) ≡ Some u = sym (ap (λ b. walk b (collection c x.id) (names_within n c)) root ∙ ap (λ o. walk false o (names_within n c)) row) ∙ e in
      let next : Next n x u = next_of n x u at_row in
      record { rest = next.rest; is = names-more c n x.parent next.rest next.is; first = next.first }

-- ---- a path that nothing has

module _ (c : Cat) (paths : HasPaths c) (in_order : IsCat c) (parent : ℕ) (last : Text) (p : Path) (free : IsFreeAt c parent last p) where
  pub above_at : At c parent free.above
  above_at = at_of c parent free.above free.parent

  pub above_up : Up c parent free.above
  above_up = up_of c parent free.above above_at.path

  reversed : (up : Path) (name : Text) → reverse (name ∷ up) ≡ reverse up ++ name ∷ []
  reversed up name = reverse-append (name ∷ []) up

  -- its path, by its name and the names above
  path_of_name : (name : Text) → name ≡ last → reverse (name ∷ above_up.up) ≡ p
  path_of_name name e = reversed above_up.up name ∙ ap (λ (q : Path). q ++ name ∷ []) above_up.turned ∙ ap (λ (n : Text). free.above ++ n ∷ []) e ∙ sym free.path_is

  -- no collection there has the name
  no_other : (x : CollectionRow) → IsTrue (is_some (names_up c x.id)) → collection c x.id ≡ Some x → is_path_of (collection_path c x.id) p ≡ false → is_child_named parent last x ≡ false
  no_other x some row none = by_tests (x.parent == parent) (x.id == 0) (same_text x.name last) refl refl refl
    where
      absent : (x.parent == parent) ≡ true → (x.id == 0) ≡ false → same_text x.name last ≡ true → (u : Option Path) → names_up c x.id ≡ u → IsTrue (is_some u) → ⊥
      absent above root name None is s = cc
      absent above root name (Some u) is s =
          let next : Next c (length c.collections) x u = step_of c (length c.collections) x u root row is in
          let parent_is : x.parent ≡ parent = eqb-eq x.parent parent above in
          let rest_is : next.rest ≡ above_up.up = let both : Some next.rest ≡ Some above_up.up = sym next.is ∙ ap (names_up c) parent_is ∙ above_up.is in cc in
          let name_is : x.name ≡ last = (same_text-Decides x.name last).0 name in
          let path : collection_path c x.id ≡ Some p = at_path c x.id p u is (ap reverse next.first ∙ ap (λ (q : Path). reverse (x.name ∷ q)) rest_is ∙ path_of_name x.name name_is) in
          let there : is_path_of (collection_path c x.id) p ≡ true = ap (λ o. is_path_of o p) path ∙ same_path-self p in
          cc

      by_tests : (a root n : Bool) → (x.parent == parent) ≡ a → (x.id == 0) ≡ root → same_text x.name last ≡ n → is_child_named parent last x ≡ false
      by_tests a root n ea er en = ap (λ b. (b && not (x.id == 0)) && same_text x.name last) ea ∙ ap (λ b. (a && not b) && same_text x.name last) er ∙ ap (λ b. (a && not root) && b) en ∙ by_values a root n ea er en
        where
          by_values : (a root n : Bool) → (x.parent == parent) ≡ a → (x.id == 0) ≡ root → same_text x.name last ≡ n → ((a && not root) && n) ≡ false
          by_values false root n ea er en = refl
          by_values true true n ea er en = refl
          by_values true false false ea er en = refl
          by_values true false true ea er en = absurd (absent ea er en (names_up c x.id) refl some)

  -- and no object
  no_other_object : (o : ObjectRow) → is_path_of (object_path c o) p ≡ false → is_object_named parent last o ≡ false
  no_other_object o none = by_tests (o.collection == parent) (same_text o.name last) refl refl
    where
      absent : (o.collection == parent) ≡ true → same_text o.name last ≡ true → ⊥
      absent above name =
          let parent_is : o.collection ≡ parent = eqb-eq o.collection parent above in
          let name_is : o.name ≡ last = (same_text-Decides o.name last).0 name in
          let up_is : names_up c o.collection ≡ Some above_up.up = ap (names_up c) parent_is ∙ above_up.is in
          let path : object_path c o ≡ Some p = ap (option_map (λ names. reverse (o.name ∷ names))) up_is ∙ ap Some (path_of_name o.name name_is) in
          let there : is_path_of (object_path c o) p ≡ true = ap (λ u. is_path_of u p) path ∙ same_path-self p in
          cc

      by_tests : (a n : Bool) → (o.collection == parent) ≡ a → same_text o.name last ≡ n → ((o.collection == parent) && same_text o.name last) ≡ false
      by_tests false n ea en = ap (λ b. b && same_text o.name last) ea
      by_tests true false ea en = ap (λ b. b && same_text o.name last) ea ∙ en
      by_tests true true ea en = absurd (absent ea en)

  no_collection_before : AllByRecursion (λ x. is_path_of (collection_path c x.id) p ≡ false) c.collections
  no_collection_before = none_passes (λ x. is_path_of (collection_path c x.id) p) c.collections (by_row (find (λ x. is_path_of (collection_path c x.id) p) c.collections) refl free.no_collection)
    where
      by_row : (o : Option CollectionRow) → find (λ x. is_path_of (collection_path c x.id) p) c.collections ≡ o → option_map (λ x. x.id) o ≡ None → find (λ x. is_path_of (collection_path c x.id) p) c.collections ≡ None
      by_row None e none = e
      by_row (Some x) e none = absurd (cc)

  no_object_before : AllByRecursion (λ o. is_path_of (object_path c o) p ≡ false) c.objects
  no_object_before = none_passes (λ o. is_path_of (object_path c o) p) c.objects (by_row (find (λ o. is_path_of (object_path c o) p) c.objects) refl free.no_object)
    where
      by_row : (o : Option ObjectRow) → find (λ o. is_path_of (object_path c o) p) c.objects ≡ o → option_map (λ x. x.id) o ≡ None → find (λ o. is_path_of (object_path c o) p) c.objects ≡ None
      by_row None e none = e
      by_row (Some x) e none = absurd (cc)

  no_child : list_any (λ x. is_child_named parent last x) c.collections ≡ false
  no_child =
      let some : AllByRecursion (λ x. IsTrue (is_some (names_up c x.id))) c.collections =
      all-map (λ x. IsTrue (has_collection c x.id)) (λ x. IsTrue (is_some (names_up c x.id))) (λ x there. paths.collections x.id there) c.collections (any-self c.collections) in
      let rows : AllByRecursion (λ x. collection c x.id ≡ Some x) c.collections = find-self collection_cmp (λ x. x.id) (λ a b e. lower_id a.id b.id e) c.collections in_order.collections.ordered in
      none_any (λ x. is_child_named parent last x) c.collections
      (both_all (λ x. IsTrue (is_some (names_up c x.id)) × (collection c x.id ≡ Some x)) (λ x. is_path_of (collection_path c x.id) p ≡ false) (λ x. is_child_named parent last x ≡ false) (λ x h none. no_other x h.0 h.1 none) c.collections
      (both_all (λ x. IsTrue (is_some (names_up c x.id))) (λ x. collection c x.id ≡ Some x) (λ x. IsTrue (is_some (names_up c x.id)) × (collection c x.id ≡ Some x)) (λ x a b. (a, b)) c.collections some rows) no_collection_before)

  no_object_named : list_any (λ o. is_object_named parent last o) c.objects ≡ false
  no_object_named = none_any (λ o. is_object_named parent last o) c.objects (all-map (λ o. is_path_of (object_path c o) p ≡ false) (λ o. is_object_named parent last o ≡ false) no_other_object c.objects no_object_before)

  any-less : {X : Type 0} (first then : X → Bool) (xs : List X) → list_any then xs ≡ false → list_any (λ x. first x && then x) xs ≡ false
  any-less first then [] none = refl
  any-less {X = X} first then (x ∷ xs) none = by_tests (first x) (then x) none (any-less first then xs)
    where
      by_tests : (a b : Bool) → (b || list_any then xs) ≡ false → (list_any then xs ≡ false → list_any (λ y. first y && then y) xs ≡ false) → ((a && b) || list_any (λ y. first y && then y) xs) ≡ false
      by_tests a true none more = absurd (cc)
      by_tests true false none more = more none
      by_tests false false none more = more none

  pub free_collection : (id : ℕ) → free_for_collection c id parent last ≡ true
  free_collection id =
      both_true (not (list_any (λ o. not (o.id == id) && is_child_named parent last o) c.collections)) (not (list_any (λ o. is_object_named parent last o) c.objects))
      (ap not (any-less (λ (o : CollectionRow). not (o.id == id)) (λ o. is_child_named parent last o) c.collections no_child)) (ap not no_object_named)

  pub free_object : (id : ℕ) → free_for_object c id parent last ≡ true
  free_object id =
      both_true (not (list_any (λ o. is_child_named parent last o) c.collections)) (not (list_any (λ o. not (o.id == id) && is_object_named parent last o) c.objects))
      (ap not no_child) (ap not (any-less (λ (o : ObjectRow). not (o.id == id)) (λ o. is_object_named parent last o) c.objects no_object_named))

-- ---- what is new there

module _ (c : Cat) (paths : HasPaths c) (in_order : IsCat c) (r : CollectionRow) (p : Path) (new : IsNewAt c r p) where
  abbrev climb : Bool → Bool → Option CollectionRow → (ℕ → Bool) → Bool
  climb same root row above = elim same [ true ↦ true | false ↦ elim root [ true ↦ false | false ↦ elim row [ None ↦ false | Some x ↦ above x.parent ] ] ]

  climb-false : (same root : Bool) (row : Option CollectionRow) (above : ℕ → Bool) → (same ≡ true → ⊥) → (root ≡ false → (x : CollectionRow) → row ≡ Some x → above x.parent ≡ false) → climb same root row above ≡ false
  climb-false true root row above ne h = absurd (ne refl)
  climb-false false true row above ne h = refl
  climb-false false false None above ne h = refl
  climb-false false false (Some x) above ne h = h refl x refl

  -- no way up from what has a path leads to the new id
  not_below : (n : ℕ) (id : ℕ) (u : Path) → names_within n c id ≡ Some u → lies_within n c r.id id ≡ false
  not_below zero id u e = refl
  not_below (suc n) id u e = climb-false (id == r.id) (id == 0) (collection c id) (lies_within n c r.id) another (λ root x row. further root x row (λ v is. not_below n x.parent v is))
    where
      another : (id == r.id) ≡ true → ⊥
      another same =
          let e' : id ≡ r.id = eqb-eq id r.id same in
          let root : (id == 0) ≡ false = eqb-false id 0 (λ z. new.some_id (sym e' ∙ z)) in
          let none : collection c id ≡ None = ap (collection c) e' ∙ collection-fresh c r new.fresh in
          let w : None ≡ Some u = sym (ap (λ b. walk b (collection c id) (names_within n c)) root ∙ ap (λ o. walk false o (names_within n c)) none) ∙ e in
          cc

      further : (id == 0) ≡ false → (x : CollectionRow) → collection c id ≡ Some x → ((v : Path) → names_within n c x.parent ≡ Some v → lies_within n c r.id x.parent ≡ false) → lies_within n c r.id x.parent ≡ false
      further root x row more =
          let at_row : option_map (λ names. x.name ∷ names) (names_within n c x.parent) ≡ Some u = sym (ap (λ b. walk b (collection c id) (names_within n c)) root ∙ ap (λ o. walk false o (names_within n c)) row) ∙ e in
          let next : Next c n x u = next_of c n x u at_row in
          more next.rest next.is

  pub collection_fits-new : collection_fits c r ≡ true
  collection_fits-new =
      let at = above_at c paths in_order r.parent r.name p new.free in
      let up = above_up c paths in_order r.parent r.name p new.free in
      ap (λ b. elim b [
        | true ↦ (r.parent == 0) && (length r.name == 0)
        | false ↦ has_collection c r.parent && not (lies_in c r.id r.parent) && is_name r.name && free_for_collection c r.id r.parent r.name
      ]) (eqb-false r.id 0 new.some_id)
      ∙ both_true (has_collection c r.parent && not (lies_in c r.id r.parent) && is_name r.name) (free_for_collection c r.id r.parent r.name)
      (both_true (has_collection c r.parent && not (lies_in c r.id r.parent)) (is_name r.name)
      (both_true (has_collection c r.parent) (not (lies_in c r.id r.parent)) at.there (ap not (not_below (length c.collections) r.parent up.up up.is))) new.free.named)
      (free_collection c paths in_order r.parent r.name p new.free r.id)

pub object_fits-new : (c : Cat) → HasPaths c → IsCat c → (r : ObjectRow) (p : Path) → IsNewObjectAt c r p → object_fits c r ≡ true
object_fits-new c paths in_order r p new =
    both_true (has_collection c r.collection && is_name r.name) (free_for_object c r.id r.collection r.name)
    (both_true (has_collection c r.collection) (is_name r.name) (above_at c paths in_order r.collection r.name p new.free).there new.free.named)
    (free_object c paths in_order r.collection r.name p new.free r.id)
