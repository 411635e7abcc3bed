-- An object with a new id is put into the grid without replicas, and changes nothing else of it.
use Rattle.std.proofs.Common.{◌≡◌, ◌==◌, ◌++◌, ℕ, true, false, List, [], ◌∷◌, Option, Ok, refl, sym, ap, ◌∙◌, subst}
use Rattle.std.specs.Prelude.{map, option_map, reverse, unwrap_or}
use Rattle.std.specs.Ordering.{eq_by_cmp}
use Rattle.std.proofs.lemmas.Bool.{ne_eqb}
use Rattle.std.proofs.lemmas.List.{reverse-append}
use Rattle.std.proofs.lemmas.Option.{same_Some}
use Rattle.grid_model.specs.Maps.{Map, empty, put, from_list}
use Rattle.grid_model.specs.Names.{Text, Path, path_cmp, parent}
use Rattle.grid_model.specs.Rows.{Cat, object, has_object, item_there, object_cmp, empty_cat, replicas_of}
use Rattle.grid_model.specs.RowPaths.{collection_path}
use Rattle.grid_model.specs.Applying.{apply, apply_all, object_fits}
use Rattle.grid_model.specs.Grid.{Object, object_at}
use Rattle.grid_model.specs.RowGrids.{grid_at, grid_of, collection_place, object_place, thing_of, object_of, replica_of}
use Rattle.grid_model.specs.declared.deltas.Delta.{Delta}
use Rattle.grid_model.specs.declared.deltas.Delta.TheVariants as delta
use Rattle.grid_model.specs.declared.deltas.ObjectRow.{ObjectRow}
use Rattle.grid_model.specs.declared.deltas.ReplicaRow.{ReplicaRow}
use Rattle.grid_model.specs.declared.grid.ItemKind.{ItemKind}
use Rattle.grid_model.specs.declared.grid.ItemKind.TheVariants as kind
use Rattle.grid_model.proofs.Below.{parent-push}
use Rattle.grid_model.proofs.Comparing.{path_cmp_total, path_cmp-IsAntisymmetric, other_path}
use Rattle.tables_laws.proofs.Rows.{IsIn, in_from_all}
use Rattle.tables_laws.proofs.Numbered.{same_number, put_other}
use Rattle.tables_laws.proofs.Forest.{asks_object, with_object}
use Rattle.tables_laws.proofs.Standing.{ReplicaStands}
use Rattle.tables_laws.proofs.Sound.{IsSound, sound-made, fits_so}
use Rattle.tables_laws.proofs.Frame.{same_grid, triples_kept, access_kept}
use Rattle.tables_laws.proofs.Grids.{grid-same}
use Rattle.tables_laws.proofs.RowLists.{none_kept}
use Rattle.tables_laws.proofs.TableMaps.{from_list-new}
use Rattle.tables_laws.proofs.Places.{object_there, collections_apart}

-- what is in front of the last name, and that name
front_same : (a b : Path) (x y : Text) → a ++ x ∷ [] ≡ b ++ y ∷ [] → a ≡ b
front_same a b x y e = same_Some a b (sym (parent-push a x) ∙ ap (λ (p : Path). parent p) e ∙ parent-push b y)

last_same : (a b : Path) (x y : Text) → a ++ x ∷ [] ≡ b ++ y ∷ [] → x ≡ y
last_same a b x y e =
    let turned : x ∷ reverse a ≡ y ∷ reverse b = sym (reverse-append a (x ∷ [])) ∙ ap (λ (p : Path). reverse p) e ∙ reverse-append b (y ∷ []) in
    cc

module _ (c : Cat) (s : IsSound c) (r : ObjectRow) (new : has_object c r.id ≡ false) (fits : object_fits c r ≡ true) where
  abbrev after : Cat
  after = with_object c r

  not_new : (j : ℕ) → has_object c j ≡ true → j ≡ r.id → ⊥
  not_new j has is = let wrong : has_object c r.id ≡ true = subst (λ i. has_object c i ≡ true) is has in cc

  apart_from_new : (x : ObjectRow) → IsIn c.objects x → eq_by_cmp path_cmp (object_place (collection_path c) x) (object_place (collection_path c) r) ≡ false
  apart_from_new x here = other_path (object_place (collection_path c) x) (object_place (collection_path c) r) (λ same.
      let asks = asks_object c r fits in
      let fronts : collection_place (collection_path c) x.collection ≡ collection_place (collection_path c) r.collection =
      front_same (collection_place (collection_path c) x.collection) (collection_place (collection_path c) r.collection) x.name r.name same in
      asks.objects x here (not_new x.id (object_there c s x here)) (collections_apart c s x.collection r.collection (s.forest.housed x here) asks.house_there fronts)
      (last_same (collection_place (collection_path c) x.collection) (collection_place (collection_path c) r.collection) x.name r.name same))

  abbrev pub made : Object
  made = record { size = r.size; digest = r.digest; time = r.time; replicas = empty }

  no_replicas : replicas_of c r.id ≡ []
  no_replicas = none_kept (λ x. x.object == r.id) c.replicas (λ x here. ne_eqb x.object r.id (not_new x.object (in_from_all (ReplicaStands c) c.replicas s.tied.replicas x here).0))

  pub made_is : object_of c r ≡ made
  made_is = ap (λ (rows : List ReplicaRow). record { size = r.size; digest = r.digest; time = r.time; replicas = from_list (map (λ x. (x.number, replica_of c x)) rows) }) no_replicas

  abbrev grown : Map path_cmp Object
  grown = put (from_list (map (λ o. (object_place (collection_path c) o, object_of c o)) c.objects)) (collection_place (collection_path c) r.collection ++ r.name ∷ []) made

  objects_grown : from_list {R = path_cmp} (map (λ o. (object_place (collection_path c) o, object_of c o)) after.objects) ≡ grown
  objects_grown =
      from_list-new path_cmp_total object_cmp (λ (x : ObjectRow). object_place (collection_path c) x) (λ (x : ObjectRow). object_of c x) path_cmp-IsAntisymmetric c.objects r
      (λ x here e. not_new x.id (object_there c s x here) (sym (same_number r.id x.id e))) apart_from_new
      ∙ ap (λ (o : Object). put (from_list (map (λ x. (object_place (collection_path c) x, object_of c x)) c.objects)) (object_place (collection_path c) r) o) made_is

  found_kept : (id : ℕ) → has_object c id ≡ true → unwrap_or (option_map (object_place (collection_path c)) (object after id)) [] ≡ unwrap_or (option_map (object_place (collection_path c)) (object c id)) []
  found_kept id has = ap (λ (o : Option ObjectRow). unwrap_or (option_map (object_place (collection_path c)) o) []) (put_other (λ (x : ObjectRow). x.id) c.objects r id (not_new id has))

  thing_kept : (k : ItemKind) (id : ℕ) → item_there c k id ≡ true → thing_of after (collection_path c) k id ≡ thing_of c (collection_path c) k id
  thing_kept kind.Object id has = ap object_at (found_kept id has)
  thing_kept kind.Collection id has = refl
  thing_kept kind.Resource id has = refl
  thing_kept kind.User id has = refl

  pub grid-with_object : grid_of after ≡ record (grid_of c) { objects = grown }
  grid-with_object =
      grid-same c after refl (record (grid_of c) { objects = grown }) (
      same_grid (grid_at after (collection_path c)) (record (grid_of c) { objects = grown }) refl refl refl refl refl objects_grown (triples_kept c after s.tied (collection_path c) thing_kept)
      (access_kept c after s.tied (collection_path c) thing_kept) refl)

pub grid-new_object : (deltas : List Delta) (c d : Cat) (row : ObjectRow) → apply_all empty_cat deltas ≡ Ok c → has_object c row.id ≡ false → apply c (delta.Object row) ≡ Ok d
    → grid_of d ≡ record (grid_of c) {
      objects = put (grid_of c).objects (collection_place (collection_path c) row.collection ++ row.name ∷ []) (record { size = row.size; digest = row.digest; time = row.time; replicas = empty });
    }
grid-new_object deltas c d row made new e =
    let so = fits_so (object_fits c row) 7 (with_object c row) d e in
    ap (λ (x : Cat). grid_of x) (sym so.1) ∙ grid-with_object c (sound-made deltas c made) row new so.0
