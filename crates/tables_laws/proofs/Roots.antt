-- The grid once `/` was put.
use Rattle.std.proofs.Common.{◌≡◌, ◌==◌, ◌++◌, ℕ, true, List, [], ◌∷◌, Ok, inl, inr, refl, sym, ap, ◌∙◌, eq-eqb}
use Rattle.std.proofs.lemmas.Bool.Decides.{eqb_tells}
use Rattle.grid_model.specs.Maps.{put}
use Rattle.grid_model.specs.Names.{Path}
use Rattle.grid_model.specs.Grid.{Grid}
use Rattle.grid_model.specs.Rows.{Cat, has_collection, collection_cmp, empty_cat}
use Rattle.grid_model.specs.RowPaths.{collection_path}
use Rattle.grid_model.specs.RowGrids.{grid_of, collection_place}
use Rattle.grid_model.specs.Applying.{apply, apply_all, collection_fits}
use Rattle.grid_model.specs.declared.deltas.Delta.{Delta}
use Rattle.grid_model.specs.declared.deltas.Delta.TheVariants as delta
use Rattle.grid_model.specs.declared.deltas.CollectionRow.{CollectionRow}
use Rattle.tables_laws.proofs.Rows.{any_from_in, new_in_with_row}
use Rattle.tables_laws.proofs.Numbered.{put_other, put_has}
use Rattle.tables_laws.proofs.Forest.{with_collection}
use Rattle.tables_laws.proofs.MovedThings.{collections_moved}
use Rattle.tables_laws.proofs.Places.{root_place}
use Rattle.tables_laws.proofs.PutCollections.{grid-put_collection}
use Rattle.tables_laws.proofs.UnmovedGrids.{with_paths-same}
use Rattle.tables_laws.proofs.Sound.{IsSound, sound-with_collection, sound-made, fits_so}

module _ (c : Cat) (s : IsSound c) (r : CollectionRow) (root : r.id ≡ 0) (fits : collection_fits c r ≡ true) where
  abbrev after : Cat
  after = with_collection c r

  sound : IsSound after
  sound = sound-with_collection c s r fits

  root_there : has_collection after 0 ≡ true
  root_there = any_from_in (λ x. x.id == 0) after.collections r (new_in_with_row collection_cmp c.collections r) (eq-eqb r.id 0 root)

  -- no path changes
  place_kept : (id : ℕ) → has_collection c id ≡ true → collection_place (collection_path after) id ≡ collection_place (collection_path c) id
  place_kept =
      collections_moved c after s sound (λ p. p) refl (λ has. put_has (λ (x : CollectionRow). x.id) c.collections r 0 has) (λ id has. elim (eqb_tells id 0) [
        | inl is ↦ inl (ap (collection_place (collection_path after)) is.1 ∙ root_place after sound root_there ∙ sym (root_place c s (ap (λ i. has_collection c i) (sym is.1) ∙ has))
            ∙ ap (collection_place (collection_path c)) (sym is.1))
        | inr below ↦ inr (λ x not_root found. (put_other (λ (y : CollectionRow). y.id) c.collections r id (λ is. below.1 (is ∙ root)) ∙ found, refl))
      ])

  pub grid-with_root : grid_of after ≡ record (grid_of c) { collections = put (grid_of c).collections [] r.inherit }
  grid-with_root =
      grid-put_collection c s r fits (λ p. p) place_kept (λ o here. ap (λ (p : Path). p ++ o.name ∷ []) (place_kept o.collection (s.forest.housed o here)))
      ∙ ap (λ (g : Grid). record g { collections = put g.collections (collection_place (collection_path after) r.id) r.inherit }) (with_paths-same (λ p. p) (λ p. refl) (grid_of c))
      ∙ ap (λ (p : Path). record (grid_of c) { collections = put (grid_of c).collections p r.inherit }) (ap (collection_place (collection_path after)) root ∙ root_place after sound root_there)

pub grid-root : (deltas : List Delta) (c d : Cat) (row : CollectionRow) → apply_all empty_cat deltas ≡ Ok c → row.id ≡ 0 → apply c (delta.Collection row) ≡ Ok d
    → grid_of d ≡ record (grid_of c) { collections = put (grid_of c).collections [] row.inherit }
grid-root deltas c d row made root e =
    let so = fits_so (collection_fits c row) 5 (with_collection c row) d e in
    ap (λ (x : Cat). grid_of x) (sym so.1) ∙ grid-with_root c (sound-made deltas c made) row root so.0
