-- Which collection has a path that is printed so.
use Rattle.std.proofs.Common.{◌≡◌, ◌==◌, ℕ, zero, suc, Bool, true, false, [], ◌∷◌, length, Option, None, Some, IsTrue, refl, sym, ap, ◌∙◌}
use Rattle.std.specs.Prelude.{option_map, reverse, ◌&&◌, ◌||◌}
use Rattle.std.proofs.lemmas.Bool.{and_parts, and_from, ne_eqb}
use Rattle.std.proofs.lemmas.List.{reverse-append}
use Rattle.std.proofs.lemmas.List.Folds.{list_all-append}
use Rattle.grid_model.specs.Names.{Text, Path, SpellsPath, is_name, is_path, print_path}
use Rattle.grid_model.specs.Places.{IsRefusedAt}
use Rattle.grid_model.specs.Rows.{Cat, collection, has_collection, is_named_collection}
use Rattle.grid_model.specs.RowPaths.{collection_at, collection_path, names_within}
use Rattle.grid_model.specs.RowGrids.{collection_place}
use Rattle.grid_model.specs.declared.deltas.CollectionRow.{CollectionRow}
use Rattle.grid_model.proofs.NewCollections.{at_of}
use Rattle.grid_model.proofs.PathSpelling.{SpellsPath-unique}
use Rattle.tables_laws.proofs.Rows.{in_from_all}
use Rattle.tables_laws.proofs.Forest.{way_of}
use Rattle.tables_laws.proofs.Places.{collection_placed, collections_apart, place_is, tree_of}
use Rattle.tables_laws.proofs.Sound.{IsSound}
use Rattle.tables_laws.proofs.Ways.{Leads, at_root, further, its_row, leads_up}
use Rattle.query_run.specs.Narrowing.{FindsPrinted}

second_of : (a b : Bool) → (a || b) ≡ true → a ≡ false → b ≡ true
second_of true b e none = absurd cc
second_of false b e none = e

module _ (c : Cat) (s : IsSound c) where
  row_named : (id : ℕ) (r : CollectionRow) → (id ≡ 0 → ⊥) → collection c id ≡ Some r → is_name r.name ≡ true
  row_named id r not_root found =
      let its = its_row c id r found in
      second_of (r.id == 0) (is_name r.name) (in_from_all (λ x. IsTrue (is_named_collection x)) c.collections s.cat.collections.fit r its.0) (ne_eqb r.id 0 (λ e. not_root (sym its.1 ∙ e)))

  named_by : (k id : ℕ) (names : Path) → ((above : ℕ) (rest : Path) → names_within k c above ≡ Some rest → is_path rest ≡ true) → Leads c k id names → is_path names ≡ true
  named_by k id names more (at_root is none) = ap is_path none
  named_by k id names more (further not_root r rest found up is) = ap is_path is ∙ and_from (is_name r.name) (is_path rest) (row_named id r not_root found) (more r.parent rest up)

  names_named : (k id : ℕ) (names : Path) → names_within k c id ≡ Some names → is_path names ≡ true
  names_named zero id names e = absurd cc
  names_named (suc k) id names e = named_by k id names (names_named k) (leads_up c k id names e)

  turned : (p : Path) → is_path p ≡ true → is_path (reverse p) ≡ true
  turned [] all = refl
  turned (n ∷ p) all =
      let parts = and_parts (is_name n) (is_path p) all in
      ap is_path (reverse-append (n ∷ []) p) ∙ list_all-append is_name (reverse p) (n ∷ []) ∙ and_from (is_path (reverse p)) (is_name n && true) (turned p parts.1) (and_from (is_name n) true parts.0 refl)

  abbrev place : ℕ → Path
  place id = collection_place (collection_path c) id

  pub place_named : (id : ℕ) → has_collection c id ≡ true → is_path (place id) ≡ true
  place_named id has =
      let way = way_of c s.forest id has in
      ap is_path (place_is c id (reverse way.0) (ap (λ (o : Option Path). option_map reverse o) way.1)) ∙ turned way.0 (names_named (length c.collections) id way.0 way.1)

  module _ (text : Text) where
    spelled : (id : ℕ) → has_collection c id ≡ true → print_path (place id) ≡ text → SpellsPath text (place id)
    spelled id has printed = record { names = place_named id has; text_is = sym printed }

    pub none_printed : (at : ℕ) → IsRefusedAt SpellsPath text at → FindsPrinted c text None
    none_printed at refused id has printed = refused.spells_nothing (place id) (spelled id has printed)

    pub found_printed : (p : Path) → SpellsPath text p → (found : Option ℕ) → found ≡ collection_at c p → FindsPrinted c text found
    found_printed p spells None none = λ id has printed.
        let same : place id ≡ p = SpellsPath-unique text (place id) p (spelled id has printed) spells in
        let at : collection_at c p ≡ Some id = (tree_of c s).collections_found id p (collection_placed c s id has ∙ ap Some same) in
        let wrong : None ≡ Some id = none ∙ at in
        cc
    found_printed p spells (Some id) some =
        let its = at_of c id p (sym some) in (
          its.there,
          λ other has printed. collections_apart c s other id has its.there (SpellsPath-unique text (place other) p (spelled other has printed) spells ∙ sym (place_is c id p its.path)),
        )
