-- When a row of a collection that is there may be put again, by the paths of the collections.
use Rattle.std.proofs.Common.{◌≡◌, ◌≢◌, ◌==◌, ℕ, zero, suc, Bool, true, false, [], ◌∷◌, ◌++◌, length, List, Option, Some, None, refl, sym, ap, ◌∙◌, eqb-true, eq-eqb, append_assoc}
use Rattle.std.specs.Prelude.{not, ◌&&◌}
use Rattle.std.specs.List.{list_any}
use Rattle.std.proofs.lemmas.Bool.{and_parts, and_from, ne_eqb}
use Rattle.std.proofs.lemmas.List.{append-nil}
use Rattle.grid_model.specs.Names.{Text, Path, is_name, same_text}
use Rattle.grid_model.specs.Rows.{Cat, collection, has_collection}
use Rattle.grid_model.specs.RowPaths.{collection_path}
use Rattle.grid_model.specs.RowGrids.{collection_place}
use Rattle.grid_model.specs.Applying.{lies_in, lies_within, is_child, is_child_named, is_object_named, free_for_collection, collection_fits}
use Rattle.grid_model.specs.declared.deltas.CollectionRow.{CollectionRow}
use Rattle.grid_model.specs.declared.deltas.ObjectRow.{ObjectRow}
use Rattle.grid_model.proofs.Comparing.{same_text-Decides}
use Rattle.tables_laws.proofs.Rows.{IsIn, in_from_any}
use Rattle.tables_laws.proofs.Ways.{its_row}
use Rattle.tables_laws.proofs.Places.{child_place, parent_has}
use Rattle.tables_laws.proofs.Sound.{IsSound}

abbrev pub place : Cat → ℕ → Path
place c id = collection_place (collection_path c) id

-- the path of the one begins the path of the other
abbrev pub Begins : Path → Path → Type 0
Begins a b = (rest : Path) × (b ≡ a ++ rest)

module _ (c : Cat) (s : IsSound c) where
  abbrev climb : Bool → Bool → Option CollectionRow → (ℕ → Bool) → Bool
  climb same root row above = elim same [ true ↦ true | false ↦ elim root [ true ↦ false | false ↦ elim row [ None ↦ false | Some x ↦ above x.parent ] ] ]

  -- what lies in a collection has a path that the collection's begins
  lies_begins : (n upper id : ℕ) → lies_within n c upper id ≡ true → Begins (place c upper) (place c id)
  lies_begins zero upper id e = absurd cc
  lies_begins (suc n) upper id e = by (λ i. lies_begins n upper i) (id == upper) (id == 0) (collection c id) refl refl refl e
    where
      by : ((i : ℕ) → lies_within n c upper i ≡ true → Begins (place c upper) (place c i)) → (same root : Bool) (row : Option CollectionRow) → (id == upper) ≡ same → (id == 0) ≡ root → collection c id ≡ row → climb same root row (lies_within n c upper) ≡ true → Begins (place c upper) (place c id)
      by up true root row is z found h = ([], ap (place c) (eqb-true id upper is) ∙ sym (append-nil (place c upper)))
      by up false true row is z found h = absurd cc
      by up false false None is z found h = absurd cc
      by up false false (Some r) is z found h =
          let way = up r.parent h in
          (way.0 ++ r.name ∷ [], child_place c s id r (λ root. let wrong : (id == 0) ≡ true = zero_is root in cc) found ∙ ap (λ (q : Path). q ++ r.name ∷ []) way.1 ∙ append_assoc (place c upper) way.0 (r.name ∷ []))
        where
          zero_is : id ≡ 0 → (id == 0) ≡ true
          zero_is root = ap (λ i. i == 0) root

  not_lies : (upper id : ℕ) → (Begins (place c upper) (place c id) → ⊥) → lies_in c upper id ≡ false
  not_lies upper id apart = by (lies_in c upper id) refl
    where
      by : (b : Bool) → lies_in c upper id ≡ b → lies_in c upper id ≡ false
      by true is = absurd (apart (lies_begins (length c.collections) upper id is))
      by false is = is

  pub fits_again : (r : CollectionRow) → r.id ≢ 0 → has_collection c r.parent ≡ true → (Begins (place c r.id) (place c r.parent) → ⊥) → is_name r.name ≡ true
      → free_for_collection c r.id r.parent r.name ≡ true → collection_fits c r ≡ true
  fits_again r not_root there apart named free =
      ap (λ b. elim b [
        | true ↦ (r.parent == 0) && (length r.name == 0)
        | false ↦ has_collection c r.parent && not (lies_in c r.id r.parent) && is_name r.name && free_for_collection c r.id r.parent r.name
      ]) (ne_eqb r.id 0 not_root)
      ∙ and_from (has_collection c r.parent && not (lies_in c r.id r.parent) && is_name r.name) (free_for_collection c r.id r.parent r.name)
      (and_from (has_collection c r.parent && not (lies_in c r.id r.parent)) (is_name r.name)
      (and_from (has_collection c r.parent) (not (lies_in c r.id r.parent)) there (ap not (not_lies r.id r.parent apart))) named) free

-- none passes where each that passes would be absurd
none_of : {X : Type 0} (p : X → Bool) (rows : List X) → ((x : X) → IsIn rows x → p x ≡ true → ⊥) → list_any p rows ≡ false
none_of p rows each = by (list_any p rows) refl
  where
    by : (b : Bool) → list_any p rows ≡ b → list_any p rows ≡ false
    by true is = let found = in_from_any p rows is in absurd (each found.0 found.1 found.2)
    by false is = is

longer : (a : Path) (n : Text) (rest : Path) → a ≡ (a ++ n ∷ []) ++ rest → ⊥
longer [] n rest e = cc
longer (m ∷ a) n rest e = longer a n rest cc

not_root_of : (id : ℕ) → not (id == 0) ≡ true → id ≡ 0 → ⊥
not_root_of id e z = let wrong : (id == 0) ≡ true = ap (λ i. i == 0) z in cc

module _ (c : Cat) (s : IsSound c) (id : ℕ) (old : CollectionRow) (not_root : id ≢ 0) (found : collection c id ≡ Some old) where
  its_id : old.id ≡ id
  its_id = (its_row c id old found).1

  here : IsIn c.collections old
  here = (its_row c id old found).0

  old_not_root : old.id ≢ 0
  old_not_root e = not_root (sym its_id ∙ e)

  old_free : free_for_collection c old.id old.parent old.name ≡ true
  old_free =
      and_from (not (list_any (λ o. not (o.id == old.id) && is_child_named old.parent old.name o) c.collections)) (not (list_any (λ o. is_object_named old.parent old.name o) c.objects))
      (ap not (none_of (λ o. not (o.id == old.id) && is_child_named old.parent old.name o) c.collections another))
      (ap not (none_of (λ o. is_object_named old.parent old.name o) c.objects an_object))
    where
      another : (o : CollectionRow) → IsIn c.collections o → (not (o.id == old.id) && is_child_named old.parent old.name o) ≡ true → ⊥
      another o there e =
          let parts = and_parts (not (o.id == old.id)) (is_child_named old.parent old.name o) e in
          let child = and_parts (is_child old.parent o) (same_text o.name old.name) parts.1 in
          let of = and_parts (o.parent == old.parent) (not (o.id == 0)) child.0 in
          let same : o.id ≡ old.id = s.forest.collections o old there here (not_root_of o.id of.1) old_not_root (eqb-true o.parent old.parent of.0) ((same_text-Decides o.name old.name).0 child.1) in
          let wrong : (o.id == old.id) ≡ true = eq-eqb o.id old.id same in
          let other : not (o.id == old.id) ≡ true = parts.0 in
          cc

      an_object : (o : ObjectRow) → IsIn c.objects o → is_object_named old.parent old.name o ≡ true → ⊥
      an_object o there e =
          let parts = and_parts (o.collection == old.parent) (same_text o.name old.name) e in
          s.forest.mixed old o here there old_not_root (eqb-true o.collection old.parent parts.0) ((same_text-Decides o.name old.name).0 parts.1)

  -- it may be put again at its place
  pub fits_there : (on : Bool) → is_name old.name ≡ true → collection_fits c (record old { inherit = on }) ≡ true
  fits_there on named =
      fits_again c s (record old { inherit = on }) old_not_root (parent_has c s id old not_root found)
      (λ b. longer (place c old.parent) old.name b.0 (b.1 ∙ ap (λ (q : Path). q ++ b.0) (ap (place c) its_id ∙ child_place c s id old not_root found))) named old_free
