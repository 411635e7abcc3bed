-- What the change that moves a collection or an object makes of the grid, and what the row of the operation comes to then.
use Rattle.std.proofs.Common.{◌≡◌, ◌≢◌, inr, ◌==◌, ℕ, Bool, true, false, List, [], ◌∷◌, ◌++◌, Option, Some, None, Ok, Err, IsTrue, refl, sym, ap, ◌∙◌, subst, append_assoc}
use Rattle.std.specs.Prelude.{option_map, unwrap_or, is_some, ◌&&◌}
use Rattle.std.specs.List.{list_all}
use Rattle.std.proofs.lemmas.Bool.{and_from}
use Rattle.grid_model.specs.Maps.{put, rekey}
use Rattle.grid_model.specs.Moves.{moved, moved_grid}
use Rattle.grid_model.specs.Names.{Text, Path, is_name, is_under, parent as up}
use Rattle.grid_model.specs.Grid.{Grid}
use Rattle.grid_model.specs.NewRows.{IsFreeAt}
use Rattle.grid_model.specs.Refusing.{Or, ◌>>=◌, unless, refuse}
use Rattle.grid_model.specs.Deeds.{Act, changes}
use Rattle.grid_model.specs.Levels.{may}
use Rattle.grid_model.specs.Rows.{Cat, collection, object, has_collection, has_object}
use Rattle.grid_model.specs.RowPaths.{collection_at, object_at, collection_path, object_path, item_path}
use Rattle.grid_model.specs.RowGrids.{collection_place, object_place, object_of, grid_of, user_name}
use Rattle.grid_model.specs.Applying.{IsMade, apply, apply_all, where_fits, collection_fits, object_fits, free_for_object}
use Rattle.grid_model.specs.Operations.Common.{is_taken, is_fixed, collection_above}
use Rattle.grid_model.specs.Operations.Table.{mv, row}
use Rattle.grid_model.specs.declared.deltas.Delta.{Delta}
use Rattle.grid_model.specs.declared.deltas.Delta.TheVariants as delta
use Rattle.grid_model.specs.declared.deltas.CollectionRow.{CollectionRow}
use Rattle.grid_model.specs.declared.deltas.ObjectRow.{ObjectRow}
use Rattle.grid_model.specs.declared.deltas.Item.{Item}
use Rattle.grid_model.specs.declared.deltas.Item.TheVariants as item
use Rattle.grid_model.specs.declared.grid.Level.TheVariants.{Write, Own}
use Rattle.grid_model.specs.declared.refusal.Refusal.TheVariants.{NoObject, NoAccess, Fixed, Inside, Exists}
use Rattle.grid_model.specs.declared.plans.PlanError.{PlanError}
use Rattle.grid_model.specs.declared.plans.PlanError.TheVariants.{Refused, Memory}
use Rattle.grid_model.proofs.Below.{parent-push}
use Rattle.grid_model.proofs.Comparing.{path_cmp_total, path_cmp-IsAntisymmetric}
use Rattle.grid_model.proofs.FreePlaces.{free_collection, free_object}
use Rattle.grid_model.proofs.NewCollections.{at_of}
use Rattle.tables_laws.proofs.Forest.{with_collection, with_object}
use Rattle.tables_laws.proofs.LookUps.{has-collections, has-objects}
use Rattle.tables_laws.proofs.MovedCollections.{grid-collection_moved}
use Rattle.tables_laws.proofs.MovedPaths.{moved-self}
use Rattle.tables_laws.proofs.MovedObjects.{grid-object_moved}
use Rattle.tables_laws.proofs.Numbered.{one_number}
use Rattle.tables_laws.proofs.Places.{tree_of, place_is, root_place, collection_there, collection_placed, collections_apart, objects_apart, object_placed, object_found, row_there}
use Rattle.tables_laws.proofs.Rows.{IsIn, in_from_find}
use Rattle.tables_laws.proofs.Ways.{its_row}
use Rattle.tables_laws.proofs.Sound.{IsSound}
use Rattle.plan_base.specs.Found.{IsAt, IsFree, LiesIn, FindsAbove}
use Rattle.grid_journal.specs.Journal.{can_be_kept}
use Rattle.plan_base.specs.Plans.{Changes, PlansChange}
use Rattle.plan_base.proofs.AtPaths.{sound_of, paths_of, not_taken-free, taken-at, free-not_taken, placed}
use Rattle.plan_base.proofs.FixedPaths.{tells_root}
use Rattle.plan_base.proofs.Mere.{is_mere, plan_of}
use Rattle.plan_base.proofs.OtherMaps.{put-new}
use Rattle.plan_coll.specs.Moving.{IsLastName, MovesCollection, MovesObject}
use Rattle.plan_coll.proofs.HeldItems.{below_is, below_push}
use Rattle.plan_coll.proofs.MovedFiles.{plan_of_object}
use Rattle.plan_coll.proofs.PlacedCollections.{place, Begins, fits_again}
use Rattle.plan_coll.proofs.RekeyedMaps.{put-moved, moved_hits}

abbrev inner : Grid → Text → Path → Path → Bool → Bool → Or Act
inner g u a b may_there taken = unless may_there NoAccess >>= (λ _. refuse taken Exists >>= (λ _. Ok (changes (moved_grid a b g))))

abbrev tests : Grid → Text → Path → Path → Bool → Bool → Bool → Bool → Or Path → Or Act
tests g u a b there allowed fixed under above =
    unless there NoObject >>= (λ _. unless allowed NoAccess >>= (λ _. refuse fixed Fixed >>= (λ _. refuse under Inside >>= (λ _. above >>= (λ x. inner g u a b (may g u x Write) (is_taken g b))))))

module _ (c : Cat) (made : IsMade c) (user : ℕ) (a b : Path) where
  abbrev u : Text
  u = user_name c user

  abbrev g : Grid
  g = grid_of c

  pub refused_nothing : IsFree c a → row (grid_of c) u (mv a b) ≡ Err NoObject
  refused_nothing free i = tests g u a b (not_taken-free c made a free i) (may g u a Own) (is_fixed g a) (is_under a b) (collection_above g b)

  module _ (i : Item) (at : IsAt c a i) where
    pub refused_level : may (grid_of c) u a Own ≡ false → row (grid_of c) u (mv a b) ≡ Err NoAccess
    refused_level refused j = tests g u a b (taken-at c made a i at j) (refused j) (is_fixed g a) (is_under a b) (collection_above g b)

    module _ (allowed : may (grid_of c) u a Own ≡ true) where
      pub refused_fixed : is_fixed (grid_of c) a ≡ true → row (grid_of c) u (mv a b) ≡ Err Fixed
      refused_fixed stays j = tests g u a b (taken-at c made a i at j) (allowed j) (stays j) (is_under a b) (collection_above g b)

      module _ (free : is_fixed (grid_of c) a ≡ false) where
        pub refused_inside : is_under a b ≡ true → row (grid_of c) u (mv a b) ≡ Err Inside
        refused_inside inside j = tests g u a b (taken-at c made a i at j) (allowed j) (free j) (inside j) (collection_above g b)

        module _ (outside : is_under a b ≡ false) where
          pub refused_above : (error : PlanError) → FindsAbove c b (Err error) → PlansChange c u (mv a b) (Err error)
          refused_above (Refused r) is = λ j. tests g u a b (taken-at c made a i at j) (allowed j) (free j) (outside j) (is j)
          refused_above Memory is = tt

          module _ (parent : ℕ) (inside : LiesIn c b parent) where
            to_inner : row (grid_of c) u (mv a b) ≡ inner g u a b (may g u inside.above Write) (is_taken g b)
            to_inner j = tests g u a b (taken-at c made a i at j) (allowed j) (free j) (outside j) (inside.is_above j)

            pub refused_there : may (grid_of c) u inside.above Write ≡ false → row (grid_of c) u (mv a b) ≡ Err NoAccess
            refused_there refused = to_inner ∙ ap (λ t. inner g u a b t (is_taken g b)) refused

            module _ (writes : may (grid_of c) u inside.above Write ≡ true) where
              pub refused_taken : is_taken (grid_of c) b ≡ true → row (grid_of c) u (mv a b) ≡ Err Exists
              refused_taken taken = to_inner ∙ (λ j. inner g u a b (writes j) (taken j))

              pub to_changes : is_taken (grid_of c) b ≡ false → row (grid_of c) u (mv a b) ≡ Ok (changes (moved_grid a b (grid_of c)))
              to_changes none = to_inner ∙ (λ j. inner g u a b (writes j) (none j))

-- ---- where it goes

module _ (c : Cat) (made : IsMade c) (a b : Path) (parent : ℕ) (inside : LiesIn c b parent) (none : is_taken (grid_of c) b ≡ false) (name : Text) (last : IsLastName b name) where
  s : IsSound c
  s = sound_of c made

  free_b : IsFree c b
  free_b = free-not_taken c made b none

  front_is : last.front ≡ inside.above
  front_is = let both : Some last.front ≡ Some inside.above = sym (parent-push last.front name) ∙ ap up (sym last.path_is) ∙ inside.parent_is in cc

  free_at : IsFreeAt c parent name b
  free_at = record {
    above = inside.above;
    parent = inside.at;
    path_is = last.path_is ∙ ap (λ (q : Path). q ++ name ∷ []) front_is;
    named = last.named;
    no_collection = free_b.no_collection;
    no_object = free_b.no_object;
  }

  parent_there : has_collection c parent ≡ true
  parent_there = (at_of c parent inside.above inside.at).there

  parent_place : collection_place (collection_path c) parent ≡ inside.above
  parent_place = place_is c parent inside.above (at_of c parent inside.above inside.at).path

  to_is : collection_place (collection_path c) parent ++ name ∷ [] ≡ b
  to_is = ap (λ (q : Path). q ++ name ∷ []) (parent_place ∙ sym front_is) ∙ sym last.path_is

  -- nothing is at the new path
  no_collection_there : (id : ℕ) → has_collection c id ≡ true → collection_place (collection_path c) id ≡ b → ⊥
  no_collection_there id has is =
      let at : collection_at c b ≡ Some id = (tree_of c (sound_of c made)).collections_found id b (collection_placed c (sound_of c made) id has ∙ ap Some is) in
      let nothing = free_b.no_collection in
      cc

  no_object_there : (o : ObjectRow) → IsIn c.objects o → object_place (collection_path c) o ≡ b → ⊥
  no_object_there o here is =
      let path : item_path c (item.Object o.id) ≡ Some b =
      ap (λ (f : Option ObjectRow). elim f [ None ↦ None | Some r ↦ object_path c r ]) (object_found c (sound_of c made) o here) ∙ object_placed c (sound_of c made) o here ∙ ap Some is in
      let at : object_at c b ≡ Some o.id = (tree_of c (sound_of c made)).objects_found o.id b path in
      let nothing = free_b.no_object in
      cc

  -- ---- a collection

  module _ (id : ℕ) (at : collection_at c a ≡ Some id) (fixed : is_fixed (grid_of c) a ≡ false) (outside : is_under a b ≡ false) (old : CollectionRow) (found : collection c id ≡ Some old) where
    abbrev moved_row : CollectionRow
    moved_row = record { id = id; parent = parent; name = name; inherit = old.inherit }

    there : has_collection c id ≡ true
    there = (at_of c id a at).there

    from_is : collection_place (collection_path c) id ≡ a
    from_is = place_is c id a (at_of c id a at).path

    not_root : id ≡ 0 → ⊥
    not_root z =
        let root : a ≡ [] = sym from_is ∙ ap (collection_place (collection_path c)) z ∙ root_place c (sound_of c made) (ap (has_collection c) (sym z) ∙ there) in
        let stays : true ≡ is_fixed (grid_of c) a = tells_root c made a (grid_of c).zone refl root in
        cc

    not_begun : Begins (place c id) (place c parent) → ⊥
    not_begun way = by way.0 (sym to_is ∙ ap (λ (q : Path). q ++ name ∷ []) (way.1 ∙ ap (λ (q : Path). q ++ way.0) from_is) ∙ append_assoc a way.0 (name ∷ []))
      where
        by : (rest : Path) → b ≡ a ++ (rest ++ name ∷ []) → ⊥
        by [] is = let wrong : is_under a b ≡ true = ap (is_under a) is ∙ below_push a name [] in cc
        by (n ∷ rest) is = let wrong : is_under a b ≡ true = ap (is_under a) is ∙ below_push a n (rest ++ name ∷ []) in cc

    moved_fits : collection_fits c moved_row ≡ true
    moved_fits = fits_again c (sound_of c made) moved_row not_root parent_there not_begun last.named (free_collection c (paths_of c made) (sound_of c made).cat parent name b free_at id)

    applied_collection : apply c (delta.Collection moved_row) ≡ Ok (with_collection c moved_row)
    applied_collection = ap (λ t. where_fits t 5 (with_collection c moved_row)) moved_fits

    its_id : old.id ≡ id
    its_id = (its_row c id old found).1

    kept : put (rekey (moved a b) (grid_of c).collections) b old.inherit ≡ rekey (moved a b) (grid_of c).collections
    kept =
        put-moved path_cmp_total path_cmp-IsAntisymmetric (λ (r : CollectionRow). place c r.id) (λ (r : CollectionRow). r.inherit) (moved a b) c.collections old b (its_row c id old found).0
        (ap (λ (q : Path). moved a b q) (ap (place c) its_id ∙ from_is) ∙ moved-self a b)
        (λ y here hits. one_number (λ (r : CollectionRow). r.id) c.collections y old (sound_of c made).cat.collections.ordered here (its_row c id old found).0
        (collections_apart c (sound_of c made) y.id id (collection_there c (sound_of c made) y here) there
        (moved_hits a b (place c y.id) hits (no_collection_there y.id (collection_there c (sound_of c made) y here)) (below_is a (place c y.id)) ∙ sym from_is) ∙ sym its_id))

    grid_collection : grid_of (with_collection c moved_row) ≡ moved_grid a b (grid_of c)
    grid_collection =
        grid-collection_moved made.0 c (with_collection c moved_row) moved_row made.1 not_root there applied_collection
        ∙ (λ j. record (moved_grid (from_is j) (to_is j) (grid_of c)) { collections = put (moved_grid (from_is j) (to_is j) (grid_of c)).collections (to_is j) old.inherit })
        ∙ ap (λ m. record (moved_grid a b (grid_of c)) { collections = m }) kept

    other_collection : grid_of (with_collection c moved_row) ≢ grid_of c
    other_collection e =
        let stays : rekey (moved a b) (grid_of c).collections ≡ (grid_of c).collections = ap (λ (h : Grid). h.collections) (sym grid_collection ∙ e) in
        put-new path_cmp_total path_cmp-IsAntisymmetric (grid_of c).collections b old.inherit (has-collections c s b ∙ ap is_some free_b.no_collection)
        (ap (λ m. put m b old.inherit) (sym stays) ∙ kept ∙ stays)

    pub collection_planned : (user : ℕ) (deltas : List Delta) → deltas ≡ delta.Collection moved_row ∷ [] → IsTrue (list_all can_be_kept deltas)
        → row (grid_of c) (user_name c user) (mv a b) ≡ Ok (changes (moved_grid a b (grid_of c))) → Changes c (user_name c user) (mv a b) deltas
    collection_planned user deltas are spelled is =
        plan_of c (with_collection c moved_row) (user_name c user) (mv a b) deltas (ap (list_all is_mere) are) spelled
        (ap (apply_all c) are ∙ ap (λ x. elim x [ Ok next ↦ apply_all next [] | Err cause ↦ Err cause ]) applied_collection)
        (is ∙ ap (λ (h : Grid). Ok (changes h)) (sym grid_collection)) (inr other_collection)

  -- ---- an object

  module _ (id : ℕ) (at : IsAt c a (item.Object id)) (old : ObjectRow) (found : object c id ≡ Some old) where
    abbrev moved_object : ObjectRow
    moved_object = record old { collection = parent; name = name }

    its : IsIn c.objects old × ((old.id == id) ≡ true)
    its = in_from_find (λ (o : ObjectRow). o.id == id) c.objects old found

    own : object c old.id ≡ Some old
    own = object_found c (sound_of c made) old its.0

    from_object : object_place (collection_path c) old ≡ a
    from_object = ap (λ (f : Option ObjectRow). unwrap_or (option_map (object_place (collection_path c)) f) []) (sym found) ∙ (placed c made a (item.Object id) at).place

    object_moves : object_fits c moved_object ≡ true
    object_moves =
        and_from (has_collection c parent && is_name name) (free_for_object c old.id parent name) (and_from (has_collection c parent) (is_name name) parent_there last.named)
        (free_object c (paths_of c made) (sound_of c made).cat parent name b free_at old.id)

    applied_object : apply c (delta.Object moved_object) ≡ Ok (with_object c moved_object)
    applied_object = ap (λ t. where_fits t 7 (with_object c moved_object)) object_moves

    kept_object : put (rekey (moved a b) (grid_of c).objects) b (object_of c old) ≡ rekey (moved a b) (grid_of c).objects
    kept_object =
        put-moved path_cmp_total path_cmp-IsAntisymmetric (object_place (collection_path c)) (object_of c) (moved a b) c.objects old b its.0
        (ap (λ (q : Path). moved a b q) from_object ∙ moved-self a b)
        (λ y here hits. objects_apart c (sound_of c made) y old here its.0
        (moved_hits a b (object_place (collection_path c) y) hits (no_object_there y here) (below_is a (object_place (collection_path c) y)) ∙ sym from_object))

    grid_object : grid_of (with_object c moved_object) ≡ moved_grid a b (grid_of c)
    grid_object =
        grid-object_moved made.0 c (with_object c moved_object) moved_object old made.1 own applied_object
        ∙ (λ j. record (moved_grid (from_object j) (to_is j) (grid_of c)) { objects = put (moved_grid (from_object j) (to_is j) (grid_of c)).objects (to_is j) (object_of c old) })
        ∙ ap (λ m. record (moved_grid a b (grid_of c)) { objects = m }) kept_object

    other_object : grid_of (with_object c moved_object) ≢ grid_of c
    other_object e =
        let stays : rekey (moved a b) (grid_of c).objects ≡ (grid_of c).objects = ap (λ (h : Grid). h.objects) (sym grid_object ∙ e) in
        put-new path_cmp_total path_cmp-IsAntisymmetric (grid_of c).objects b (object_of c old) (has-objects c s b ∙ ap is_some free_b.no_object)
        (ap (λ m. put m b (object_of c old)) (sym stays) ∙ kept_object ∙ stays)

    pub object_planned : (user : ℕ) (deltas : List Delta) → deltas ≡ delta.Object moved_object ∷ [] → IsTrue (list_all can_be_kept deltas)
        → row (grid_of c) (user_name c user) (mv a b) ≡ Ok (changes (moved_grid a b (grid_of c))) → Changes c (user_name c user) (mv a b) deltas
    object_planned user deltas are spelled is =
        plan_of_object c moved_object old own refl refl (user_name c user) (mv a b) deltas spelled
        (ap (apply_all c) are ∙ ap (λ x. elim x [ Ok next ↦ apply_all next [] | Err cause ↦ Err cause ]) applied_object)
        (is ∙ ap (λ (h : Grid). Ok (changes h)) (sym grid_object)) other_object

-- ---- what the calls ask

pub some_path : (c : Cat) (b : Path) (parent : ℕ) → LiesIn c b parent → b ≡ [] → ⊥
some_path c b parent inside none = let wrong : None ≡ Some inside.above = sym (ap up none) ∙ inside.parent_is in cc

pub object_there : (c : Cat) (id : ℕ) → has_object c id ≡ true → None ≡ object c id → ⊥
object_there c id has none = let row = row_there (λ (o : ObjectRow). o.id) c.objects id has in let wrong : None ≡ Some row.0 = none ∙ row.3 in cc

pub collection_asked : (c : Cat) (a : Path) (i : Item) (id : ℕ) → IsAt c a i → i ≡ item.Collection id → has_collection c id ≡ true
collection_asked c a i id at is = let P : Item → Type 0 = λ x. IsAt c a x in (at_of c id a (subst P is at)).there

pub object_asked : (c : Cat) → IsMade c → (a : Path) (i : Item) (id : ℕ) → IsAt c a i → i ≡ item.Object id → has_object c id ≡ true
object_asked c made a i id at is = let P : Item → Type 0 = λ x. IsAt c a x in (placed c made a (item.Object id) (subst P is at)).there

module _ (c : Cat) (made : IsMade c) (user : ℕ) (a b : Path) (i : Item) (at : IsAt c a i) (allowed : may (grid_of c) (user_name c user) a Own ≡ true) (free : is_fixed (grid_of c) a ≡ false)
    (outside : is_under a b ≡ false) (parent : ℕ) (inside : LiesIn c b parent) (writes : may (grid_of c) (user_name c user) inside.above Write ≡ true) (none : is_taken (grid_of c) b ≡ false) (id : ℕ) where
  pub planned_collection : i ≡ item.Collection id → (deltas : List Delta) → MovesCollection c id parent b deltas → Changes c (user_name c user) (mv a b) deltas
  planned_collection is deltas m =
      let P : Item → Type 0 = λ x. IsAt c a x in
      collection_planned c made a b parent inside none m.name m.last id (subst P is at) free outside m.old m.found user deltas m.deltas_are m.spelled
      (to_changes c made user a b i at allowed free outside parent inside writes none)

  pub planned_object : i ≡ item.Object id → (deltas : List Delta) → MovesObject c id parent b deltas → Changes c (user_name c user) (mv a b) deltas
  planned_object is deltas m =
      let P : Item → Type 0 = λ x. IsAt c a x in
      object_planned c made a b parent inside none m.name m.last id (subst P is at) m.old m.found user deltas m.deltas_are m.spelled
      (to_changes c made user a b i at allowed free outside parent inside writes none)
