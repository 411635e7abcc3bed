-- The grid once a collection was moved, renamed or given another flag: all that lies below it goes with it.
use Rattle.std.proofs.Common.{◌≡◌, ◌++◌, ℕ, true, length, List, [], ◌∷◌, Option, Some, Ok, ◌⊎◌, inl, inr, sym, ap, ◌∙◌}
use Rattle.std.specs.Prelude.{option_map, reverse, unwrap_or}
use Rattle.std.proofs.lemmas.Bool.Decides.{eqb_tells}
use Rattle.grid_model.specs.Maps.{put, rekey}
use Rattle.grid_model.specs.Moves.{moved, moved_grid}
use Rattle.grid_model.specs.Names.{Text, Path}
use Rattle.grid_model.specs.Grid.{Grid}
use Rattle.grid_model.specs.Rows.{Cat, collection, has_collection, empty_cat}
use Rattle.grid_model.specs.RowPaths.{names_within, names_up, collection_path}
use Rattle.grid_model.specs.RowGrids.{grid_of, collection_place, object_place}
use Rattle.grid_model.specs.Applying.{apply, apply_all, collection_fits}
use Rattle.grid_model.specs.declared.deltas.Delta.{Delta}
use Rattle.grid_model.specs.declared.deltas.Delta.TheVariants as delta
use Rattle.grid_model.specs.declared.deltas.CollectionRow.{CollectionRow}
use Rattle.grid_model.specs.declared.deltas.ObjectRow.{ObjectRow}
use Rattle.tables_laws.proofs.Rows.{IsIn}
use Rattle.tables_laws.proofs.Numbered.{put_found, put_other, put_has}
use Rattle.tables_laws.proofs.Ways.{its_row, within_all}
use Rattle.tables_laws.proofs.Moving.{within_past}
use Rattle.tables_laws.proofs.Forest.{way_of, asks_collection, with_collection}
use Rattle.tables_laws.proofs.UnmovedGrids.{moved_grid-nowhere}
use Rattle.tables_laws.proofs.MovedPaths.{moved-self, moved-root, moved-push}
use Rattle.tables_laws.proofs.MovedThings.{collections_moved}
use Rattle.tables_laws.proofs.Places.{collection_there, collections_apart, mixed_apart, child_place, row_there}
use Rattle.tables_laws.proofs.Sound.{IsSound, sound-with_collection, sound-made, fits_so}
use Rattle.tables_laws.proofs.PutCollections.{grid-put_collection}

pub some_name : (q : Path) (n : Text) → q ++ n ∷ [] ≡ [] → ⊥
some_name [] n e = cc
some_name (m ∷ q) n e = cc

module _ (c : Cat) (s : IsSound c) (r : CollectionRow) (not_root : r.id ≡ 0 → ⊥) (there : has_collection c r.id ≡ true) (fits : collection_fits c r ≡ true) where
  abbrev after : Cat
  after = with_collection c r

  sound : IsSound after
  sound = sound-with_collection c s r fits

  abbrev place : ℕ → Path
  place id = collection_place (collection_path c) id

  abbrev from : Path
  from = place r.id

  abbrev to : Path
  to = place r.parent ++ r.name ∷ []

  stays : (id : ℕ) → has_collection c id ≡ true → has_collection after id ≡ true
  stays id has = put_has (λ (x : CollectionRow). x.id) c.collections r id has

  from_named : from ≡ [] → ⊥
  from_named none =
      let old = row_there (λ (x : CollectionRow). x.id) c.collections r.id there in
      some_name (place old.0.parent) old.0.name (sym (child_place c s r.id old.0 not_root old.3) ∙ none)

  -- the new parent is not below it, and so it is where it was
  parent_place : collection_place (collection_path after) r.parent ≡ place r.parent
  parent_place =
      let asks = asks_collection c r not_root fits in
      let way = way_of c s.forest r.parent asks.parent_there in
      let past : names_within (length c.collections) after r.parent ≡ Some way.0 =
      within_past c after r.id (λ i apart. put_other (λ (x : CollectionRow). x.id) c.collections r i apart) (length c.collections) r.parent way.0 way.1 asks.not_below in
      let all : names_up after r.parent ≡ Some way.0 = within_all after sound.forest.parents (length c.collections) r.parent way.0 past (stays r.parent asks.parent_there) in
      ap (λ (o : Option Path). unwrap_or (option_map reverse o) []) (all ∙ sym way.1)

  new_place : collection_place (collection_path after) r.id ≡ to
  new_place = child_place after sound r.id r not_root (put_found (λ (x : CollectionRow). x.id) c.collections r) ∙ ap (λ (p : Path). p ++ r.name ∷ []) parent_place

  step : (id : ℕ) → has_collection c id ≡ true → (collection_place (collection_path after) id ≡ moved from to (place id))
      ⊎ ((x : CollectionRow) → (id ≡ 0 → ⊥) → collection c id ≡ Some x → (collection after id ≡ Some x) × (moved from to (place x.parent ++ x.name ∷ []) ≡ moved from to (place x.parent) ++ x.name ∷ []))
  step id has = elim (eqb_tells id r.id) [
    | inl is ↦ inl (ap (collection_place (collection_path after)) is.1 ∙ new_place ∙ sym (moved-self from to) ∙ ap (λ i. moved from to (place i)) (sym is.1))
    | inr other ↦ inr (λ x below found. (
      put_other (λ (y : CollectionRow). y.id) c.collections r id other.1 ∙ found,
      moved-push from to (place x.parent) x.name (λ same. other.1 (collections_apart c s id r.id has there (child_place c s id x below found ∙ same))),
    ))
  ]

  place_after : (id : ℕ) → has_collection c id ≡ true → collection_place (collection_path after) id ≡ moved from to (place id)
  place_after = collections_moved c after s sound (moved from to) (moved-root from to from_named) (stays 0) step

  object_after : (o : ObjectRow) → IsIn c.objects o → object_place (collection_path after) o ≡ moved from to (object_place (collection_path c) o)
  object_after o here =
      ap (λ (p : Path). p ++ o.name ∷ []) (place_after o.collection (s.forest.housed o here))
      ∙ sym (moved-push from to (place o.collection) o.name (λ same. mixed_apart c s r.id o there here (sym same)))

  pub grid-moved_collection : grid_of after ≡ record (moved_grid from to (grid_of c)) { collections = put (rekey (moved from to) (grid_of c).collections) to r.inherit }
  grid-moved_collection =
      grid-put_collection c s r fits (moved from to) place_after object_after
      ∙ ap (λ (p : Path). record (moved_grid from to (grid_of c)) { collections = put (rekey (moved from to) (grid_of c).collections) p r.inherit }) new_place

pub grid-collection_moved : (deltas : List Delta) (c d : Cat) (row : CollectionRow) → apply_all empty_cat deltas ≡ Ok c → (row.id ≡ 0 → ⊥) → has_collection c row.id ≡ true → apply c (delta.Collection row) ≡ Ok d
    → let from = collection_place (collection_path c) row.id in
    let to = collection_place (collection_path c) row.parent ++ row.name ∷ [] in
    let g = moved_grid from to (grid_of c) in
    grid_of d ≡ record g { collections = put g.collections to row.inherit }
grid-collection_moved deltas c d row made below there e =
    let so = fits_so (collection_fits c row) 5 (with_collection c row) d e in
    ap (λ (x : Cat). grid_of x) (sym so.1) ∙ grid-moved_collection c (sound-made deltas c made) row below there so.0

-- at its place: only the flag is another
pub grid-collection_changed : (deltas : List Delta) (c d : Cat) (row old : CollectionRow) → apply_all empty_cat deltas ≡ Ok c → (row.id ≡ 0 → ⊥) → collection c row.id ≡ Some old → row.parent ≡ old.parent → row.name ≡ old.name
    → apply c (delta.Collection row) ≡ Ok d → grid_of d ≡ record (grid_of c) { collections = put (grid_of c).collections (collection_place (collection_path c) row.id) row.inherit }
grid-collection_changed deltas c d row old made below found parents names e =
    let s = sound-made deltas c made in
    let its = its_row c row.id old found in
    let there : has_collection c row.id ≡ true = ap (λ i. has_collection c i) (sym its.1) ∙ collection_there c s old its.0 in
    let place : Path = collection_place (collection_path c) row.id in
    let to : Path = collection_place (collection_path c) row.parent ++ row.name ∷ [] in
    let stays : to ≡ place = (λ i. collection_place (collection_path c) (parents i) ++ names i ∷ []) ∙ sym (child_place c s row.id old below found) in
    grid-collection_moved deltas c d row made below there e
    ∙ ap (λ (p : Path). record (moved_grid place p (grid_of c)) { collections = put (moved_grid place p (grid_of c)).collections p row.inherit }) stays
    ∙ ap (λ (g : Grid). record g { collections = put g.collections place row.inherit }) (moved_grid-nowhere place (grid_of c))
