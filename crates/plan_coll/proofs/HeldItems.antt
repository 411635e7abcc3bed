-- Something is below the path of a collection where something lies in the collection.
use Rattle.std.proofs.Common.{◌≡◌, ◌==◌, ℕ, zero, suc, ◌<◌, Bool, true, false, [], ◌∷◌, ◌++◌, length, Option, Some, None, inl, inr, refl, sym, ap, ◌∙◌, eq-eqb, eqb-true, arith, append_assoc}
use Rattle.std.specs.Prelude.{not, nat_lt, ◌&&◌, ◌||◌}
use Rattle.std.specs.List.{list_any}
use Rattle.std.specs.Option.{option_map_or}
use Rattle.std.proofs.lemmas.Bool.{and_parts, and_from, ne_eqb, lt-ltb}
use Rattle.std.proofs.lemmas.Bool.Decides.{eqb_tells}
use Rattle.std.proofs.lemmas.List.{append-nil, length-append}
use Rattle.grid_model.specs.Names.{Text, Path, parent, path_below, is_under, same_text}
use Rattle.grid_model.specs.Rows.{Cat, has_collection}
use Rattle.grid_model.specs.RowPaths.{collection_path}
use Rattle.grid_model.specs.RowGrids.{grid_of, object_place, object_of}
use Rattle.grid_model.specs.Applying.{is_child, is_empty_collection}
use Rattle.grid_model.specs.Operations.Collections.{holds_items}
use Rattle.grid_model.specs.declared.deltas.CollectionRow.{CollectionRow}
use Rattle.grid_model.specs.declared.deltas.ObjectRow.{ObjectRow}
use Rattle.grid_model.proofs.Below.{parent-push}
use Rattle.grid_model.proofs.Comparing.{path_cmp_total, path_cmp-IsAntisymmetric, same_text-Decides}
use Rattle.tables_laws.proofs.Rows.{IsIn, in_from_any, any_from_in}
use Rattle.tables_laws.proofs.Numbered.{one_number, found_in}
use Rattle.tables_laws.proofs.Places.{collection_there, collections_apart, objects_apart, child_place, row_there, parent_has, root_place}
use Rattle.tables_laws.proofs.Sound.{IsSound}
use Rattle.plan_base.proofs.MapRows.{any-keys}
use Rattle.plan_coll.proofs.PlacedCollections.{place}

-- ---- paths below another one

pub below_is : (b q rest : Path) → path_below b q ≡ Some rest → q ≡ b ++ rest
below_is [] q rest is = cc
below_is (x ∷ b) [] rest is = absurd cc
below_is (x ∷ b) (y ∷ q) rest is = first (same_text x y) refl is (λ inner. below_is b q rest inner)
  where
    first : (t : Bool) → same_text x y ≡ t → elim t as (λ _. Option Path) [ true ↦ path_below b q | false ↦ None ] ≡ Some rest → (path_below b q ≡ Some rest → q ≡ b ++ rest) → y ∷ q ≡ x ∷ b ++ rest
    first true same h inner = λ i. (sym ((same_text-Decides x y).0 same)) i ∷ inner h i
    first false same h inner = absurd cc

pub under_is : (a p : Path) → is_under a p ≡ true → (n : Text) × (rest : Path) × (p ≡ a ++ n ∷ rest)
under_is a p e = by (path_below a p) refl e
  where
    by : (o : Option Path) → path_below a p ≡ o → option_map_or (λ rest. nat_lt 0 (length rest)) o false ≡ true → (n : Text) × (rest : Path) × (p ≡ a ++ n ∷ rest)
    by None is h = absurd cc
    by (Some []) is h = absurd cc
    by (Some (n ∷ rest)) is h = (n, rest, below_is a p (n ∷ rest) is)

pub below_push : (a : Path) (n : Text) (rest : Path) → is_under a (a ++ n ∷ rest) ≡ true
below_push a n rest = ap (λ (o : Option Path). option_map_or (λ r. nat_lt 0 (length r)) o false) (all a) ∙ longer (length rest)
  where
    longer : (k : ℕ) → nat_lt 0 (suc k) ≡ true
    longer k = lt-ltb 0 (suc k) (omega arith)

    all : (b : Path) → path_below b (b ++ n ∷ rest) ≡ Some (n ∷ rest)
    all [] = refl
    all (x ∷ b) = ap (λ t. elim t as (λ _. Option Path) [ true ↦ path_below b (b ++ n ∷ rest) | false ↦ None ]) ((same_text-Decides x x).1 refl) ∙ all b

-- the last name
pub ends : (n : Text) (rest : Path) → (front : Path) × (last : Text) × (n ∷ rest ≡ front ++ last ∷ [])
ends n [] = ([], n, refl)
ends n (m ∷ rest) = let more = ends m rest in (n ∷ more.0, more.1, ap (λ (q : Path). n ∷ q) more.2)

pub same_front : (a b : Path) (m n : Text) → a ++ m ∷ [] ≡ b ++ n ∷ [] → a ≡ b
same_front a b m n e = let both : Some a ≡ Some b = sym (parent-push a m) ∙ ap parent e ∙ parent-push b n in cc

module _ (c : Cat) (s : IsSound c) (id : ℕ) (there : has_collection c id ≡ true) where
  abbrev p : Path
  p = place c id

  abbrev has_child : Bool
  has_child = list_any (λ r. is_child id r) c.collections

  child_is : (r : CollectionRow) → IsIn c.collections r → (r.id ≡ 0 → ⊥) → r.parent ≡ id → has_child ≡ true
  child_is r here not_root is = any_from_in (λ x. is_child id x) c.collections r here (and_from (r.parent == id) (not (r.id == 0)) (eq-eqb r.parent id is) (ap not (ne_eqb r.id 0 not_root)))

  -- a collection further down lies in one that lies there
  down : (k i : ℕ) → has_collection c i ≡ true → (n : Text) (rest : Path) → place c i ≡ p ++ n ∷ rest → length rest < k → has_child ≡ true
  down zero i has n rest at short = absurd (omega arith)
  down (suc k) i has n rest at short =
      let row = row_there (λ (r : CollectionRow). r.id) c.collections i has in
      elim (eqb_tells i 0) [
        | inl is ↦ absurd (no_root n rest (sym at ∙ ap (place c) is.1 ∙ root_place c s (ap (has_collection c) (sym is.1) ∙ has)))
        | inr not_root ↦ by row.0 row.1 row.2 (child_place c s i row.0 not_root.1 row.3) (parent_has c s i row.0 not_root.1 row.3) (λ e. not_root.1 (sym row.2 ∙ e)) (ends n rest) (λ j has_j m more at_j less. down k j has_j m more at_j less)
      ]
    where
      no_root : (m : Text) (more : Path) → p ++ m ∷ more ≡ [] → ⊥
      no_root m more e = nothing p e
        where
          nothing : (q : Path) → q ++ m ∷ more ≡ [] → ⊥
          nothing [] f = cc
          nothing (x ∷ q) f = cc

      by : (r : CollectionRow) → IsIn c.collections r → r.id ≡ i → place c i ≡ place c r.parent ++ r.name ∷ [] → has_collection c r.parent ≡ true → (r.id ≡ 0 → ⊥)
          → (front : Path) × (last : Text) × (n ∷ rest ≡ front ++ last ∷ [])
          → ((j : ℕ) → has_collection c j ≡ true → (m : Text) (more : Path) → place c j ≡ p ++ m ∷ more → length more < k → has_child ≡ true) → has_child ≡ true
      by r here its path up not_root parts again = last parts.0 parts.2 (same_front (place c r.parent) (p ++ parts.0) r.name parts.1 (sym path ∙ at ∙ ap (λ (q : Path). p ++ q) parts.2 ∙ sym (append_assoc p parts.0 (parts.1 ∷ []))))
        where
          last : (front : Path) → n ∷ rest ≡ front ++ parts.1 ∷ [] → place c r.parent ≡ p ++ front → has_child ≡ true
          last [] e above = child_is r here not_root (collections_apart c s r.parent id up there (above ∙ append-nil p))
          last (m ∷ more) e above = again r.parent up m more above (shorter more e)
            where
              shorter : (ms : Path) → n ∷ rest ≡ m ∷ ms ++ parts.1 ∷ [] → length ms < k
              shorter ms f =
                  let long : suc (length rest) ≡ suc (length (ms ++ parts.1 ∷ [])) = ap (λ (q : Path). length q) f in
                  omega (arith, long, length-append ms (parts.1 ∷ []), short)

  abbrev has_object_in : Bool
  has_object_in = list_any (λ r. r.collection == id) c.objects

  by_rows : holds_items (grid_of c) p ≡ (list_any (λ r. is_under p (place c r.id)) c.collections || list_any (λ o. is_under p (object_place (collection_path c) o)) c.objects)
  by_rows = λ i.
      any-keys path_cmp_total path_cmp-IsAntisymmetric (λ (r : CollectionRow). place c r.id) (λ (r : CollectionRow). r.inherit) (is_under p) c.collections
      (λ x y here also e. one_number (λ (r : CollectionRow). r.id) c.collections x y s.cat.collections.ordered here also
      (collections_apart c s x.id y.id (collection_there c s x here) (collection_there c s y also) e)) i
      || any-keys path_cmp_total path_cmp-IsAntisymmetric (object_place (collection_path c)) (object_of c) (is_under p) c.objects (objects_apart c s) i

  collection_down : list_any (λ r. is_under p (place c r.id)) c.collections ≡ true → has_child ≡ true
  collection_down e =
      let x = in_from_any (λ (r : CollectionRow). is_under p (place c r.id)) c.collections e in
      let at = under_is p (place c x.0.id) x.2 in
      down (suc (length at.1)) x.0.id (collection_there c s x.0 x.1) at.0 at.1 at.2 (omega arith)

  object_down : list_any (λ o. is_under p (object_place (collection_path c) o)) c.objects ≡ true → (has_child || has_object_in) ≡ true
  object_down e =
      let x = in_from_any (λ o. is_under p (object_place (collection_path c) o)) c.objects e in
      let at = under_is p (object_place (collection_path c) x.0) x.2 in
      let parts = ends at.0 at.1 in
      let above : place c x.0.collection ≡ p ++ parts.0 = same_front (place c x.0.collection) (p ++ parts.0) x.0.name parts.1 (at.2 ∙ ap (λ (q : Path). p ++ q) parts.2 ∙ sym (append_assoc p parts.0 (parts.1 ∷ []))) in
      by x.0 x.1 parts.0 above
    where
      either : (a b : Bool) → a ≡ true → (a || b) ≡ true
      either true b e = refl
      either false b e = absurd cc

      other : (a b : Bool) → b ≡ true → (a || b) ≡ true
      other true b e = refl
      other false b e = e

      by : (o : ObjectRow) → IsIn c.objects o → (front : Path) → place c o.collection ≡ p ++ front → (has_child || has_object_in) ≡ true
      by o here [] above =
          other has_child has_object_in (any_from_in (λ r. r.collection == id) c.objects o here
          (eq-eqb o.collection id (collections_apart c s o.collection id (s.forest.housed o here) there (above ∙ append-nil p))))
      by o here (m ∷ more) above = either has_child has_object_in (down (suc (length more)) o.collection (s.forest.housed o here) m more above (omega arith))

  collection_up : has_child ≡ true → list_any (λ r. is_under p (place c r.id)) c.collections ≡ true
  collection_up e =
      let x = in_from_any (λ r. is_child id r) c.collections e in
      let parts = and_parts (x.0.parent == id) (not (x.0.id == 0)) x.2 in
      let below_root : x.0.id ≡ 0 → ⊥ = λ z. (let wrong : (x.0.id == 0) ≡ true = ap (λ n. n == 0) z in let holds : not (x.0.id == 0) ≡ true = parts.1 in cc) in
      any_from_in (λ (r : CollectionRow). is_under p (place c r.id)) c.collections x.0 x.1
      (ap (is_under p) (child_place c s x.0.id x.0 below_root (found_in (λ (r : CollectionRow). r.id) c.collections x.0 s.cat.collections.ordered x.1)
      ∙ ap (λ i. place c i ++ x.0.name ∷ []) (eqb-true x.0.parent id parts.0)) ∙ below_push p x.0.name [])

  object_up : has_object_in ≡ true → list_any (λ o. is_under p (object_place (collection_path c) o)) c.objects ≡ true
  object_up e =
      let x = in_from_any (λ (r : ObjectRow). r.collection == id) c.objects e in
      any_from_in (λ o. is_under p (object_place (collection_path c) o)) c.objects x.0 x.1
      (ap (λ i. is_under p (place c i ++ x.0.name ∷ [])) (eqb-true x.0.collection id x.2) ∙ below_push p x.0.name [])

  pub held_is : holds_items (grid_of c) p ≡ not (is_empty_collection c id)
  held_is = by_rows ∙ joined (list_any (λ r. is_under p (place c r.id)) c.collections) (list_any (λ o. is_under p (object_place (collection_path c) o)) c.objects) has_child has_object_in collection_down object_down collection_up object_up
    where
      joined : (a b d e : Bool) → (a ≡ true → d ≡ true) → (b ≡ true → (d || e) ≡ true) → (d ≡ true → a ≡ true) → (e ≡ true → b ≡ true) → (a || b) ≡ not (not d && not e)
      joined a b true e f g h k = ap (λ t. t || b) (h refl)
      joined true b false e f g h k = absurd (let wrong : false ≡ true = f refl in cc)
      joined false true false true f g h k = refl
      joined false true false false f g h k = absurd (let wrong : false ≡ true = g refl in cc)
      joined false false false true f g h k = absurd (let wrong : false ≡ true = k refl in cc)
      joined false false false false f g h k = refl
