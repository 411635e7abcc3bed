-- Where collections and objects are, each name on the way is a name.
use Rattle.std.proofs.Common.{◌≡◌, ◌==◌, ℕ, zero, suc, Bool, true, false, [], ◌∷◌, Option, Some, None, refl, sym, ap, ◌∙◌}
use Rattle.std.specs.Prelude.{option_map, reverse, is_some, ◌&&◌, ◌||◌}
use Rattle.std.specs.List.{list_all}
use Rattle.std.proofs.lemmas.Bool.{and_parts, and_from}
use Rattle.std.proofs.lemmas.List.{reverse-append}
use Rattle.std.proofs.lemmas.List.Folds.{list_all-append}
use Rattle.grid_model.specs.Maps.{has}
use Rattle.grid_model.specs.Names.{Text, Path, is_name, parent}
use Rattle.grid_model.specs.Rows.{Cat, collection, is_named_collection}
use Rattle.grid_model.specs.RowPaths.{names_within, collection_path, collection_at, object_at}
use Rattle.grid_model.specs.RowGrids.{grid_of}
use Rattle.grid_model.specs.declared.deltas.CollectionRow.{CollectionRow}
use Rattle.grid_model.specs.declared.deltas.Item.TheVariants as item
use Rattle.grid_model.proofs.NewCollections.{walk, up_of, at_of}
use Rattle.tables_laws.proofs.Rows.{in_from_all}
use Rattle.tables_laws.proofs.Ways.{its_row}
use Rattle.tables_laws.proofs.Places.{tree_of}
use Rattle.tables_laws.proofs.LookUps.{has-collections, has-objects}
use Rattle.tables_laws.proofs.Sound.{IsSound}

all-reverse : (names : Path) → list_all is_name names ≡ true → list_all is_name (reverse names) ≡ true
all-reverse [] all = refl
all-reverse (name ∷ names) all =
    let parts = and_parts (is_name name) (list_all is_name names) all in
    ap (list_all is_name) (reverse-append (name ∷ []) names) ∙ list_all-append is_name (reverse names) (name ∷ [])
    ∙ and_from (list_all is_name (reverse names)) (is_name name && true) (all-reverse names parts.1) (and_from (is_name name) true parts.0 refl)

second_of : (a b : Bool) → (a || b) ≡ true → a ≡ false → b ≡ true
second_of true b e none = absurd cc
second_of false b e none = e

module _ (c : Cat) (s : IsSound c) where
  names_named : (n id : ℕ) (names : Path) → names_within n c id ≡ Some names → list_all is_name names ≡ true
  names_named zero id names e = absurd cc
  names_named (suc n) id names e = by (λ i more. names_named n i more) (id == 0) (collection c id) refl refl e
    where
      by : ((i : ℕ) (more : Path) → names_within n c i ≡ Some more → list_all is_name more ≡ true) → (root : Bool) (row : Option CollectionRow) → (id == 0) ≡ root → collection c id ≡ row
          → walk root row (names_within n c) ≡ Some names → list_all is_name names ≡ true
      by up true row root is h = let none : [] ≡ names = cc in ap (list_all is_name) (sym none)
      by up false None root is h = absurd cc
      by up false (Some r) root is h = further (names_within n c r.parent) refl h
        where
          named : is_name r.name ≡ true
          named =
              let its = its_row c id r is in
              second_of (r.id == 0) (is_name r.name) (in_from_all (λ x. is_named_collection x ≡ true) c.collections s.cat.collections.fit r its.0) (ap (λ i. i == 0) its.1 ∙ root)

          further : (o : Option Path) → names_within n c r.parent ≡ o → option_map (λ more. r.name ∷ more) o ≡ Some names → list_all is_name names ≡ true
          further None way e = absurd cc
          further (Some more) way e =
              let same : r.name ∷ more ≡ names = cc in
              ap (list_all is_name) (sym same) ∙ and_from (is_name r.name) (list_all is_name more) named (up r.parent more way)

  path_named : (id : ℕ) (p : Path) → collection_path c id ≡ Some p → list_all is_name p ≡ true
  path_named id p e =
      let way = up_of c id p e in
      ap (list_all is_name) (sym way.turned) ∙ all-reverse way.up (names_named _ id way.up way.is)

  -- nothing is below what is no name
  module _ (first : Text) (rest : Path) (bad : is_name first ≡ false) where
    no_path : (id : ℕ) → collection_path c id ≡ Some (first ∷ rest) → ⊥
    no_path id e =
        let all = path_named id (first ∷ rest) e in
        let named : is_name first ≡ true = (and_parts (is_name first) (list_all is_name rest) all).0 in
        cc

    pub no_collection_below : has (grid_of c).collections (first ∷ rest) ≡ false
    no_collection_below = has-collections c s (first ∷ rest) ∙ by (collection_at c (first ∷ rest)) refl
      where
        by : (o : Option ℕ) → collection_at c (first ∷ rest) ≡ o → is_some o ≡ false
        by None is = refl
        by (Some id) is = absurd (no_path id (at_of c id (first ∷ rest) is).path)

  pub no_object_below : (first : Text) (rest : Path) → is_name first ≡ false → (p : Path) → parent p ≡ Some (first ∷ rest) → has (grid_of c).objects p ≡ false
  no_object_below first rest bad p up = has-objects c s p ∙ by (object_at c p) refl
    where
      by : (o : Option ℕ) → object_at c p ≡ o → is_some o ≡ false
      by None is = refl
      by (Some id) is =
          let tree = tree_of c s in
          let above = tree.inside (item.Object id) p (first ∷ rest) (tree.objects_only id p is) up in
          absurd (no_path first rest bad above.0 above.1)
