-- The way down by names, and the path of the collection to which it leads.
use Rattle.std.proofs.Common.{◌≡◌, ◌==◌, ℕ, zero, suc, ◌+◌, ◌-◌, ◌<◌, ◌≤◌, Bool, true, false, [], ◌∷◌, ◌++◌, append_assoc, length, Some, None, Option, refl, sym, ap, ◌∙◌, arith, eqb-true, eq-eqb}
use Rattle.std.specs.Prelude.{find, is_some, not, ◌&&◌, option_map, reverse}
use Rattle.std.specs.List.Sorted.{IsStrictlySortedBy}
use Rattle.std.specs.Cmp.{first_so, second_so, both_ways}
use Rattle.std.proofs.lemmas.List.{append-nil, reverse-append, reverse-reverse}
use Rattle.grid_model.specs.Names.{Text, Path, same_text}
use Rattle.grid_model.specs.Rows.{Cat, collection, has_collection, collection_cmp}
use Rattle.grid_model.specs.RowPaths.{names_within, names_up, collection_path, object_path, is_path_of, collection_at, object_at}
use Rattle.grid_model.specs.Applying.{is_child_named, is_object_named}
use Rattle.grid_model.specs.declared.deltas.CollectionRow.{CollectionRow}
use Rattle.grid_model.specs.declared.deltas.ObjectRow.{ObjectRow}
use Rattle.grid_model.proofs.Comparing.{same_text-Decides, same_path-self}
use Rattle.grid_model.proofs.NewCollections.{is_path_of-true}
use Rattle.grid_model.proofs.RowOrders.{collection_cmp_total}
use Rattle.grid_model.proofs.FoundRows.{find-alike, is_some-find, none_is_found}
use Rattle.tables_laws.proofs.Rows.{in_from_find, all_from_in}
use Rattle.grid_tables.specs.Descending.{descend, is_found}
use Rattle.grid_tables.specs.Indexes.{IsPlacedOnce}
use Rattle.grid_tables.proofs.Indexes.{found_itself}
use Rattle.std.proofs.Math.Bool.{and-false}
use Rattle.grid_tables.proofs.Finding.{child_one, turned}
use Rattle.grid_tables.proofs.WaysUp.{names_further}
use Rattle.grid_tables.proofs.Locating.{last_name, object-root, no-such-path}

not_so : (b : Bool) → not b ≡ true → b ≡ false
not_so true e = absurd (cc)
not_so false e = refl

-- one name is found
pub descend-step : (c : Cat) (id : ℕ) (names rest : Path) (name : Text) (child : ℕ) → names ≡ name ∷ rest → Some child ≡ option_map (λ r. r.id) (find (λ r. is_child_named id name r) c.collections)
    → descend c id names ≡ descend c child rest
descend-step c id names rest name child is found =
    ap (descend c id) is ∙ by_child (find (λ r. is_child_named id name r) c.collections) found
  where
    by_child : (row : Option CollectionRow) → Some child ≡ option_map (λ r. r.id) row → elim row [ None ↦ None | Some r ↦ descend c r.id rest ] ≡ descend c child rest
    by_child None e = absurd (cc)
    by_child (Some r) e = let same : r.id ≡ child = cc in ap (λ n. descend c n rest) same

module _ (c : Cat) (sorted : IsStrictlySortedBy collection_cmp c.collections) (once : IsPlacedOnce (λ (r : CollectionRow). r.parent) (λ r. r.name) c.collections) where
  -- one name more
  pub descend-more : (start : ℕ) (names : Path) (id : ℕ) (name : Text) → descend c start names ≡ Some id → descend c start (names ++ name ∷ []) ≡ descend c id (name ∷ [])
  descend-more start [] id name e = let same : start ≡ id = cc in ap (λ n. descend c n (name ∷ [])) same
  descend-more start (first ∷ names) id name e =
      elim (find (λ r. is_child_named start first r) c.collections) as (λ o. elim o [ None ↦ None | Some r ↦ descend c r.id names ] ≡ Some id
      → elim o [ None ↦ None | Some r ↦ descend c r.id (names ++ name ∷ []) ] ≡ descend c id (name ∷ [])) [
        | None ↦ λ wrong. absurd (cc)
        | Some r ↦ λ more. descend-more r.id names id name more
      ] e

  -- the names up from a collection lead down to it
  pub descend-up : (steps id : ℕ) (p : Path) → names_within steps c id ≡ Some p → descend c 0 (reverse p) ≡ Some id
  descend-up zero id p e = absurd (cc)
  descend-up (suc steps) id p e =
      elim (id == 0) as (λ b. (id == 0) ≡ b → elim b [ true ↦ Some [] | false ↦ elim (collection c id) [ None ↦ None | Some r ↦ option_map (λ names. r.name ∷ names) (names_within steps c r.parent) ] ] ≡ Some p
      → descend c 0 (reverse p) ≡ Some id) [
        | true ↦ λ root is. let none : [] ≡ p = cc in ap (λ (q : Path). descend c 0 (reverse q)) (sym none) ∙ ap Some (sym (eqb-true id 0 root))
        | false ↦ λ below is. by_row (descend-up steps) (collection c id) refl below is
      ] refl e
    where
      by_up : ((n : ℕ) (q : Path) → names_within steps c n ≡ Some q → descend c 0 (reverse q) ≡ Some n) → (r : CollectionRow) → collection c id ≡ Some r → (id == 0) ≡ false → (up : Option Path) → names_within steps c r.parent ≡ up → option_map (λ names. r.name ∷ names) up ≡ Some p
          → descend c 0 (reverse p) ≡ Some id
      by_up further r row below None above is = absurd (cc)
      by_up further r row below (Some q) above is =
          let path : r.name ∷ q ≡ p = cc in
          let here = in_from_find (λ (x : CollectionRow). x.id == id) c.collections r row in
          let its : r.id ≡ id = eqb-true r.id id here.1 in
          let child = child_one c.collections once r here.0 (ap (λ n. n == 0) its ∙ below) in
          ap (λ (x : Path). descend c 0 (reverse x)) (sym path) ∙ ap (descend c 0) (reverse-append (r.name ∷ []) q)
          ∙ descend-more 0 (reverse q) r.parent r.name (further r.parent q above)
          ∙ ap (λ o. elim o [ None ↦ None | Some x ↦ Some x.id ]) child ∙ ap Some its

      by_row : ((n : ℕ) (q : Path) → names_within steps c n ≡ Some q → descend c 0 (reverse q) ≡ Some n) → (row : Option CollectionRow) → collection c id ≡ row → (id == 0) ≡ false
          → elim row [ None ↦ None | Some r ↦ option_map (λ names. r.name ∷ names) (names_within steps c r.parent) ] ≡ Some p → descend c 0 (reverse p) ≡ Some id
      by_row further None row below is = absurd (cc)
      by_row further (Some r) row below is = by_up further r row below (names_within steps c r.parent) refl is

  -- the way down from a collection is the way up to it
  pub descend-down : (names : Path) (start id steps : ℕ) (p : Path) → descend c start names ≡ Some id → names_within steps c start ≡ Some p
      → names_within (steps + length names) c id ≡ Some (reverse names ++ p)
  descend-down [] start id steps p e up =
      let same : start ≡ id = cc in
      let none : steps + 0 ≡ steps = omega arith in
      ap (λ n. names_within n c id) none ∙ ap (names_within steps c) (sym same) ∙ up
  descend-down (name ∷ names) start id steps p e up = by_child (descend-down names) (find (λ r. is_child_named start name r) c.collections) refl e
    where
      by_child : ((from to more : ℕ) (q : Path) → descend c from names ≡ Some to → names_within more c from ≡ Some q → names_within (more + length names) c to ≡ Some (reverse names ++ q))
          → (found : Option CollectionRow) → find (λ r. is_child_named start name r) c.collections ≡ found → elim found [ None ↦ None | Some r ↦ descend c r.id names ] ≡ Some id
          → names_within (steps + suc (length names)) c id ≡ Some (reverse (name ∷ names) ++ p)
      by_child further None found more = absurd (cc)
      by_child further (Some r) found more =
          let here = in_from_find (λ (x : CollectionRow). is_child_named start name x) c.collections r found in
          let child = first_so _ _ here.1 in
          let called : r.name ≡ name = (same_text-Decides r.name name).0 (second_so _ _ here.1) in
          let above : r.parent ≡ start = eqb-true r.parent start (first_so _ _ child) in
          let below : (r.id == 0) ≡ false = not_so (r.id == 0) (second_so _ _ child) in
          let row : collection c r.id ≡ Some r = found_itself (λ (x : CollectionRow). x.id) collection_cmp collection_cmp_total (λ a b. refl) c.collections sorted r here.0 in
          let next : names_within (suc steps) c r.id ≡ Some (name ∷ p) =
          names_further c r.id steps r (λ e. let zero : (r.id == 0) ≡ true = eq-eqb r.id 0 e in absurd (cc)) (sym row)
          ∙ (ap (λ n. option_map (λ names. r.name ∷ names) (names_within steps c n)) above ∙ ap (option_map (λ names. r.name ∷ names)) up ∙ ap (λ (t : Text). Some (t ∷ p)) called) in
          let count : steps + suc (length names) ≡ suc steps + length names = omega arith in
          ap (λ n. names_within n c id) count ∙ further r.id id (suc steps) (name ∷ p) more next
          ∙ ap Some (sym (ap (λ (x : Path). x ++ p) (reverse-append (name ∷ []) names) ∙ append_assoc (reverse names) (name ∷ []) p))

  -- a collection has these names on the way to it where they lead down to it
  pub path_is : (names : Path) (id : ℕ) → length names < length c.collections → is_path_of (collection_path c id) names ≡ is_found (descend c 0 names) id
  path_is names id enough = both_ways _ _ to from
    where
      to : is_path_of (collection_path c id) names ≡ true → is_found (descend c 0 names) id ≡ true
      to e = by_up (names_up c id) refl (is_path_of-true (collection_path c id) names e)
        where
          by_up : (up : Option Path) → names_up c id ≡ up → option_map reverse up ≡ Some names → is_found (descend c 0 names) id ≡ true
          by_up None is at = absurd (cc)
          by_up (Some p) is at =
              let path : reverse p ≡ names = cc in
              let down : descend c 0 names ≡ Some id = ap (descend c 0) (sym path) ∙ descend-up (length c.collections) id p is in
              ap (λ o. is_found o id) down ∙ eq-eqb id id refl

      from : is_found (descend c 0 names) id ≡ true → is_path_of (collection_path c id) names ≡ true
      from e = by_found (descend c 0 names) refl e
        where
          by_found : (found : Option ℕ) → descend c 0 names ≡ found → is_found found id ≡ true → is_path_of (collection_path c id) names ≡ true
          by_found None is at = absurd (cc)
          by_found (Some x) is at =
              let same : id ≡ x = eqb-true id x at in
              let steps : length c.collections - length names + length names ≡ length c.collections = omega arith in
              let some : length c.collections - length names ≡ suc (length c.collections - length names - 1) = omega arith in
              let root : names_within (length c.collections - length names) c 0 ≡ Some [] = ap (λ n. names_within n c 0) some in
              let up : names_up c id ≡ Some (reverse names) =
              ap (λ n. names_within n c id) (sym steps) ∙ descend-down names 0 id (length c.collections - length names) [] (is ∙ ap Some (sym same)) root ∙ ap Some (append-nil (reverse names)) in
              let path : collection_path c id ≡ Some names = ap (option_map reverse) up ∙ ap Some (reverse-reverse names) in
              ap (λ o. is_path_of o names) path ∙ same_path-self names

-- the row of an id that was found
pub at_id : (c : Cat) (found : Option ℕ) → option_map (λ r. r.id) (find (λ r. is_found found r.id) c.collections) ≡ elim found [ None ↦ None | Some id ↦ option_map (λ r. r.id) (collection c id) ]
at_id c None = ap (option_map (λ (r : CollectionRow). r.id)) (none_is_found _ c.collections (all_from_in _ c.collections (λ x here. refl)))
at_id c (Some id) = refl

pub id_there : (c : Cat) (id : ℕ) → has_collection c id ≡ true → Some id ≡ option_map (λ r. r.id) (collection c id)
id_there c id there = by (collection c id) refl (is_some-find (λ r. r.id == id) c.collections ∙ there)
  where
    by : (row : Option CollectionRow) → collection c id ≡ row → is_some (collection c id) ≡ true → Some id ≡ option_map (λ r. r.id) row
    by None e some = let none : is_some (collection c id) ≡ false = ap is_some e in absurd (cc)
    by (Some r) e some = ap Some (sym (eqb-true r.id id (in_from_find (λ (x : CollectionRow). x.id == id) c.collections r e).1))

pub id_not_there : (c : Cat) (id : ℕ) → has_collection c id ≡ false → None ≡ option_map (λ r. r.id) (collection c id)
id_not_there c id none = by (collection c id) refl (is_some-find (λ r. r.id == id) c.collections ∙ none)
  where
    by : (row : Option CollectionRow) → collection c id ≡ row → is_some (collection c id) ≡ false → None ≡ option_map (λ r. r.id) row
    by None e some = refl
    by (Some r) e some = let yes : is_some (collection c id) ≡ true = ap is_some e in absurd (cc)

-- the collection of a path is the one that was located there
pub collection_located : (c : Cat) (names : Path) (found : Option ℕ) → ((id : ℕ) → is_path_of (collection_path c id) names ≡ is_found found id)
    → collection_at c names ≡ elim found [ None ↦ None | Some id ↦ option_map (λ r. r.id) (collection c id) ]
collection_located c names found located =
    ap (option_map (λ (r : CollectionRow). r.id)) (find-alike _ _ c.collections (all_from_in _ c.collections (λ x here. located x.id))) ∙ at_id c found

-- the object of a path is the one with its last name in the collection above
pub object_located : (c : Cat) (names above : Path) (name : Text) (found : Option ℕ) → names ≡ above ++ name ∷ [] → ((id : ℕ) → is_path_of (collection_path c id) above ≡ is_found found id)
    → object_at c names ≡ elim found [ None ↦ None | Some id ↦ option_map (λ r. r.id) (find (λ r. is_object_named id name r) c.objects) ]
object_located c names above name found is located = by_found found located
  where
    at_row : (r : ObjectRow) → is_path_of (object_path c r) names ≡ (same_text r.name name && is_path_of (collection_path c r.collection) above)
    at_row r = ap (is_path_of (object_path c r)) is ∙ last_name (names_up c r.collection) r.name name above

    by_found : (found : Option ℕ) → ((id : ℕ) → is_path_of (collection_path c id) above ≡ is_found found id)
        → object_at c names ≡ elim found [ None ↦ None | Some id ↦ option_map (λ r. r.id) (find (λ r. is_object_named id name r) c.objects) ]
    by_found None none =
        ap (option_map (λ (r : ObjectRow). r.id)) (none_is_found _ c.objects (all_from_in _ c.objects (λ r here.
        at_row r ∙ ap (λ b. same_text r.name name && b) (none r.collection) ∙ and-false (same_text r.name name))))
    by_found (Some id) some =
        ap (option_map (λ (r : ObjectRow). r.id)) (find-alike _ _ c.objects (all_from_in _ c.objects (λ r here.
        at_row r ∙ ap (λ b. same_text r.name name && b) (some r.collection) ∙ turned (same_text r.name name) (r.collection == id))))

-- `/` is the path of no object
pub no_object : (c : Cat) (names : Path) → length names ≡ 0 → object_at c names ≡ None
no_object c names none = ap (option_map (λ (r : ObjectRow). r.id)) (none_is_found _ c.objects (all_from_in _ c.objects (λ r here. object-root (names_up c r.collection) r.name names none)))

-- more names than rows are no path
pub nowhere : (c : Cat) (names : Path) → length c.collections ≤ length names → (id : ℕ) → is_path_of (collection_path c id) names ≡ false
nowhere c names many id = no-such-path c names id many
