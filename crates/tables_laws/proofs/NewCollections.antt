-- A collection with a new id is put into the grid, and changes nothing else of it.
use Rattle.std.proofs.Common.{◌≡◌, ◌++◌, ℕ, true, false, List, [], ◌∷◌, length, Option, Some, Ok, refl, sym, ap, ◌∙◌, subst}
use Rattle.std.specs.Prelude.{option_map, reverse, unwrap_or}
use Rattle.grid_model.specs.Maps.{put}
use Rattle.grid_model.specs.Names.{Path}
use Rattle.grid_model.specs.Rows.{Cat, has_collection, empty_cat}
use Rattle.grid_model.specs.RowPaths.{names_within, names_up, collection_path}
use Rattle.grid_model.specs.Applying.{apply, apply_all, collection_fits}
use Rattle.grid_model.specs.Grid.{Grid}
use Rattle.grid_model.specs.RowGrids.{grid_of, collection_place, object_place}
use Rattle.grid_model.specs.declared.deltas.Delta.{Delta}
use Rattle.grid_model.specs.declared.deltas.Delta.TheVariants as delta
use Rattle.grid_model.specs.declared.deltas.CollectionRow.{CollectionRow}
use Rattle.grid_model.specs.declared.deltas.ObjectRow.{ObjectRow}
use Rattle.tables_laws.proofs.Rows.{IsIn}
use Rattle.tables_laws.proofs.Numbered.{put_found, put_other, put_has}
use Rattle.tables_laws.proofs.Ways.{its_row, within_all}
use Rattle.tables_laws.proofs.Moving.{within_beside}
use Rattle.tables_laws.proofs.Forest.{way_of, asks_collection, with_collection}
use Rattle.tables_laws.proofs.PutCollections.{grid-put_collection}
use Rattle.tables_laws.proofs.UnmovedGrids.{with_paths-same}
use Rattle.tables_laws.proofs.Sound.{IsSound, sound-with_collection, sound-made, fits_so}
use Rattle.tables_laws.proofs.Places.{child_place}

module _ (c : Cat) (s : IsSound c) (r : CollectionRow) (new : has_collection c r.id ≡ false) (below : r.id ≡ 0 → ⊥) (fits : collection_fits c r ≡ true) where
  abbrev after : Cat
  after = with_collection c r

  after_sound : IsSound after
  after_sound = sound-with_collection c s r fits

  not_new : (j : ℕ) → has_collection c j ≡ true → j ≡ r.id → ⊥
  not_new j has is = let wrong : has_collection c r.id ≡ true = subst (λ i. has_collection c i ≡ true) is has in cc

  stays : (j : ℕ) → has_collection c j ≡ true → has_collection after j ≡ true
  stays j has = put_has (λ (x : CollectionRow). x.id) c.collections r j has

  -- ways of the collections before
  way_kept : (j : ℕ) (names : Path) → has_collection c j ≡ true → names_within (length c.collections) c j ≡ Some names → names_within (length c.collections) after j ≡ Some names
  way_kept j names has way =
      within_beside c after r.id (λ i apart. put_other (λ (x : CollectionRow). x.id) c.collections r i apart)
      (λ x i not_root some is. let its = its_row c i x some in not_new x.parent (s.forest.parents x its.0 (λ h. not_root (sym its.1 ∙ h))) is)
      (length c.collections) j names (not_new j has) way

  path_kept : (j : ℕ) → has_collection c j ≡ true → collection_path after j ≡ collection_path c j
  path_kept j has =
      let way = way_of c s.forest j has in
      let all : names_up after j ≡ Some way.0 = within_all after after_sound.forest.parents (length c.collections) j way.0 (way_kept j way.0 has way.1) (stays j has) in
      ap (λ (o : Option Path). option_map reverse o) (all ∙ sym way.1)

  place_kept : (j : ℕ) → has_collection c j ≡ true → collection_place (collection_path after) j ≡ collection_place (collection_path c) j
  place_kept j has = ap (λ (o : Option Path). unwrap_or o []) (path_kept j has)

  new_place : collection_place (collection_path after) r.id ≡ collection_place (collection_path c) r.parent ++ r.name ∷ []
  new_place =
      child_place after after_sound r.id r below (put_found (λ (x : CollectionRow). x.id) c.collections r)
      ∙ ap (λ (p : Path). p ++ r.name ∷ []) (place_kept r.parent (asks_collection c r below fits).parent_there)

  object_kept : (o : ObjectRow) → IsIn c.objects o → object_place (collection_path after) o ≡ object_place (collection_path c) o
  object_kept o here = ap (λ (p : Path). p ++ o.name ∷ []) (place_kept o.collection (s.forest.housed o here))

  pub grid-with_collection : grid_of after ≡ record (grid_of c) { collections = put (grid_of c).collections (collection_place (collection_path c) r.parent ++ r.name ∷ []) r.inherit }
  grid-with_collection =
      grid-put_collection c s r fits (λ p. p) place_kept object_kept
      ∙ ap (λ (g : Grid). record g { collections = put g.collections (collection_place (collection_path after) r.id) r.inherit }) (with_paths-same (λ p. p) (λ p. refl) (grid_of c))
      ∙ ap (λ (p : Path). record (grid_of c) { collections = put (grid_of c).collections p r.inherit }) new_place

pub grid-new_collection : (deltas : List Delta) (c d : Cat) (row : CollectionRow) → apply_all empty_cat deltas ≡ Ok c → (row.id ≡ 0 → ⊥) → has_collection c row.id ≡ false
    → apply c (delta.Collection row) ≡ Ok d
    → grid_of d ≡ record (grid_of c) { collections = put (grid_of c).collections (collection_place (collection_path c) row.parent ++ row.name ∷ []) row.inherit }
grid-new_collection deltas c d row made below new e =
    let so = fits_so (collection_fits c row) 5 (with_collection c row) d e in
    ap (λ (x : Cat). grid_of x) (sym so.1) ∙ grid-with_collection c (sound-made deltas c made) row new below so.0
