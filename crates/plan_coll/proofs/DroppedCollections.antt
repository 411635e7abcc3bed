-- What the changes that take a collection away make of the grid, and what the row of the operation comes to then.
use Rattle.std.proofs.Common.{◌≡◌, ◌≢◌, inr, ℕ, Bool, true, false, cond, List, [], ◌∷◌, ◌++◌, Some, None, Ok, Err, IsTrue, refl, sym, ap, ◌∙◌}
use Rattle.std.specs.Prelude.{filter, is_some, not, ◌&&◌, ◌||◌}
use Rattle.std.specs.List.{list_all, list_any}
use Rattle.std.proofs.lemmas.Bool.{and_from}
use Rattle.grid_model.specs.Maps.{has, remove}
use Rattle.grid_model.specs.Names.{Text, Path}
use Rattle.grid_model.specs.Grid.{Grid}
use Rattle.grid_model.specs.Refusing.{Or, ◌>>=◌, unless, refuse}
use Rattle.grid_model.specs.Deeds.{Act, changes}
use Rattle.grid_model.specs.Levels.{may}
use Rattle.grid_model.specs.Rows.{Cat, has_collection, same_item}
use Rattle.grid_model.specs.RowPaths.{collection_at, collection_path}
use Rattle.grid_model.specs.RowGrids.{CollectionPaths, collection_place, grid_of, user_name}
use Rattle.grid_model.specs.Applying.{IsMade, apply_all, where_fits, is_empty_collection, is_told_of, may_drop_collection}
use Rattle.grid_model.specs.Operations.Common.{forget, is_fixed}
use Rattle.grid_model.specs.Operations.Collections.{holds_items}
use Rattle.grid_model.specs.Operations.Table.{rmdir, row}
use Rattle.grid_model.specs.declared.deltas.Delta.{Delta}
use Rattle.grid_model.specs.declared.deltas.Delta.TheVariants as delta
use Rattle.grid_model.specs.declared.grid.ItemKind.TheVariants as kind
use Rattle.grid_model.specs.declared.grid.Level.TheVariants.{Own}
use Rattle.grid_model.specs.declared.refusal.Refusal.TheVariants.{NoCollection, NoAccess, Fixed, NotEmpty}
use Rattle.grid_journal.specs.Journal.{can_be_kept}
use Rattle.grid_model.proofs.Comparing.{path_cmp_total, path_cmp-IsAntisymmetric}
use Rattle.grid_model.proofs.NewCollections.{at_of}
use Rattle.tables_laws.proofs.Dropped.{grid-without_collection}
use Rattle.tables_laws.proofs.Forest.{without_collection}
use Rattle.tables_laws.proofs.Grids.{paths_same}
use Rattle.tables_laws.proofs.LookUps.{has-collections}
use Rattle.tables_laws.proofs.Places.{place_is}
use Rattle.tables_laws.proofs.Sound.{IsSound, sound-apply_all}
use Rattle.plan_base.specs.Forgetting.{forgotten}
use Rattle.plan_base.specs.Plans.{Changes}
use Rattle.plan_base.proofs.AtPaths.{sound_of}
use Rattle.plan_base.proofs.Forgetting.{without_said, applied_forgotten, forgotten_then, forgotten-mere, grid-forgotten}
use Rattle.plan_base.proofs.Mere.{is_mere, plan_of}
use Rattle.plan_base.proofs.OtherMaps.{remove-there}
use Rattle.plan_coll.proofs.HeldItems.{held_is}

abbrev tests : Bool → Bool → Bool → Bool → Grid → Or Act
tests there allowed fixed held g =
    unless there NoCollection >>= (λ _. unless allowed NoAccess >>= (λ _. refuse fixed Fixed >>= (λ _. refuse held NotEmpty >>= (λ _. Ok (changes g)))))

none_left : {X : Type 0} (p : X → Bool) (xs : List X) → list_any p (filter (λ x. not (p x)) xs) ≡ false
none_left p [] = refl
none_left p (x ∷ xs) = by (p x) refl (none_left p xs)
  where
    by : (b : Bool) → p x ≡ b → list_any p (filter (λ y. not (p y)) xs) ≡ false → list_any p (cond (not (p x)) (x ∷ filter (λ y. not (p y)) xs) (filter (λ y. not (p y)) xs)) ≡ false
    by true is later = ap (λ b. list_any p (cond (not b) (x ∷ filter (λ y. not (p y)) xs) (filter (λ y. not (p y)) xs))) is ∙ later
    by false is later = ap (λ b. list_any p (cond (not b) (x ∷ filter (λ y. not (p y)) xs) (filter (λ y. not (p y)) xs))) is ∙ (λ i. is i || later i)

module _ (c : Cat) (made : IsMade c) (user : ℕ) (p : Path) where
  abbrev u : Text
  u = user_name c user

  abbrev after_grid : Grid
  after_grid = forget (record (grid_of c) { collections = remove (grid_of c).collections p }) p

  pub refused_nothing : None ≡ collection_at c p → row (grid_of c) u (rmdir p) ≡ Err NoCollection
  refused_nothing none i = tests ((has-collections c (sound_of c made) p ∙ ap is_some (sym none)) i) (may (grid_of c) u p Own) (is_fixed (grid_of c) p) (holds_items (grid_of c) p) after_grid

  module _ (id : ℕ) (at : collection_at c p ≡ Some id) where
    there : has (grid_of c).collections p ≡ true
    there = has-collections c (sound_of c made) p ∙ ap is_some at

    pub refused_level : may (grid_of c) u p Own ≡ false → row (grid_of c) u (rmdir p) ≡ Err NoAccess
    refused_level refused i = tests (there i) (refused i) (is_fixed (grid_of c) p) (holds_items (grid_of c) p) after_grid

    module _ (allowed : may (grid_of c) u p Own ≡ true) where
      pub refused_fixed : is_fixed (grid_of c) p ≡ true → row (grid_of c) u (rmdir p) ≡ Err Fixed
      refused_fixed stays i = tests (there i) (allowed i) (stays i) (holds_items (grid_of c) p) after_grid

      module _ (free : is_fixed (grid_of c) p ≡ false) (held : Bool) (held_as : held ≡ not (is_empty_collection c id)) where
        place : collection_place (collection_path c) id ≡ p
        place = place_is c id p (at_of c id p at).path

        holds : held ≡ holds_items (grid_of c) p
        holds = held_as ∙ sym (ap (holds_items (grid_of c)) (sym place) ∙ held_is c (sound_of c made) id (at_of c id p at).there)

        pub refused_held : held ≡ true → row (grid_of c) u (rmdir p) ≡ Err NotEmpty
        refused_held full i = tests (there i) (allowed i) (free i) ((sym holds ∙ full) i) after_grid

        module _ (bare : held ≡ false) where
          abbrev mid : Cat
          mid = without_said c (sound_of c made) kind.Collection id

          mid_sound : IsSound mid
          mid_sound = sound-apply_all (forgotten c kind.Collection id) c mid (sound_of c made) (applied_forgotten c (sound_of c made) kind.Collection id)

          empty : is_empty_collection c id ≡ true
          empty = by (is_empty_collection c id) (sym held_as ∙ bare)
            where
              by : (b : Bool) → not b ≡ false → b ≡ true
              by true e = refl
              by false e = absurd cc

          fits : may_drop_collection mid id ≡ true
          fits =
              and_from (has_collection c id && is_empty_collection c id) (not (is_told_of mid kind.Collection id)) (and_from (has_collection c id) (is_empty_collection c id) (at_of c id p at).there empty)
              (λ i. not (none_left (λ t. same_item t.kind t.id kind.Collection id) c.triples i || none_left (λ e. same_item e.kind e.id kind.Collection id) c.entries i))

          applied : apply_all c (forgotten c kind.Collection id ++ delta.NoCollection id ∷ []) ≡ Ok (without_collection mid id)
          applied =
              forgotten_then c (sound_of c made) kind.Collection id (delta.NoCollection id ∷ [])
              ∙ ap (λ b. elim (where_fits b 6 (without_collection mid id)) [ Ok next ↦ apply_all next [] | Err cause ↦ Err cause ]) fits

          grid : grid_of (without_collection mid id) ≡ after_grid
          grid =
              grid-without_collection mid mid_sound id fits
              ∙ ap (λ (paths : CollectionPaths). record (grid_of mid) { collections = remove (grid_of mid).collections (collection_place paths id) }) (paths_same c mid refl)
              ∙ ap (λ (q : Path). record (grid_of mid) { collections = remove (grid_of mid).collections q }) place
              ∙ ap (λ (g : Grid). record g { collections = remove g.collections p }) (grid-forgotten c (sound_of c made) kind.Collection id refl (at_of c id p at).there p place)

          other : grid_of (without_collection mid id) ≢ grid_of c
          other e = remove-there path_cmp_total path_cmp-IsAntisymmetric (grid_of c).collections p there (ap (λ (g : Grid). g.collections) (sym grid ∙ e))

          pub planned : (deltas : List Delta) → deltas ≡ forgotten c kind.Collection id ++ delta.NoCollection id ∷ [] → IsTrue (list_all can_be_kept deltas) → Changes c u (rmdir p) deltas
          planned deltas deltas_are spelled =
              plan_of c (without_collection mid id) u (rmdir p) deltas (ap (list_all is_mere) deltas_are ∙ forgotten-mere c kind.Collection id (delta.NoCollection id ∷ [])) spelled
              (ap (apply_all c) deltas_are ∙ applied)
              ((λ i. tests (there i) (allowed i) (free i) ((sym holds ∙ bare) i) after_grid) ∙ ap (λ (g : Grid). Ok (changes g)) (sym grid)) (inr other)
