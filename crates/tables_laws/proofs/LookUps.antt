-- What the grid of a sound catalogue answers, by the rows that are found.
use Rattle.std.proofs.Common.{◌≡◌, ℕ, Bool, Option, Some, None, refl, sym, ap, ◌∙◌}
use Rattle.std.specs.Prelude.{◌↔◌, IsTrue, find, option_map, is_some}
use Rattle.std.specs.Cmp.{both_ways}
use Rattle.std.proofs.lemmas.Option.{same_Some}
use Rattle.grid_model.specs.Maps.{get, has}
use Rattle.grid_model.specs.Names.{Text, Path, same_path, same_text}
use Rattle.grid_model.specs.Rows.{Cat, collection, object}
use Rattle.grid_model.specs.RowPaths.{is_path_of, collection_path, object_path, collection_at, object_at}
use Rattle.grid_model.specs.RowGrids.{grid_of, collection_place, object_place, object_of, resource_of}
use Rattle.grid_model.specs.declared.deltas.UserRow.{UserRow}
use Rattle.grid_model.specs.declared.deltas.CollectionRow.{CollectionRow}
use Rattle.grid_model.specs.declared.deltas.ObjectRow.{ObjectRow}
use Rattle.grid_model.specs.declared.deltas.ResourceRow.{ResourceRow}
use Rattle.grid_model.proofs.Comparing.{text_cmp_total, path_cmp_total, same_text-Decides}
use Rattle.tables_laws.proofs.Rows.{in_from_find}
use Rattle.tables_laws.proofs.Numbered.{found_in}
use Rattle.tables_laws.proofs.RowLists.{find-congr}
use Rattle.tables_laws.proofs.TableMaps.{get-rows}
use Rattle.tables_laws.proofs.Places.{collection_placed, collection_there, object_placed, object_found}
use Rattle.tables_laws.proofs.Sound.{IsSound}

is_some-option_map : {X Y : Type 0} (f : X → Y) (o : Option X) → is_some (option_map f o) ≡ is_some o
is_some-option_map f None = refl
is_some-option_map f (Some x) = refl

-- ---- by names

-- whether a name is this one
pub is_same_text : (b : Bool) (name other : Text) → IsTrue b ↔ (name ≡ other) → b ≡ same_text name other
is_same_text b name other tells = both_ways b (same_text name other) (λ e. (same_text-Decides name other).1 (tells.0 e)) (λ e. tells.1 ((same_text-Decides name other).0 e))

pub get-users : (c : Cat) (name : Text) → get (grid_of c).users name ≡ option_map (λ r. r.kind) (find (λ r. same_text r.name name) c.users)
get-users c name = get-rows text_cmp_total (λ (r : UserRow). r.name) (λ (r : UserRow). r.kind) c.users name

pub get-resources : (c : Cat) (name : Text) → get (grid_of c).resources name ≡ option_map (resource_of c) (find (λ r. same_text r.name name) c.resources)
get-resources c name = get-rows text_cmp_total (λ (r : ResourceRow). r.name) (resource_of c) c.resources name

-- ---- by paths

module _ (c : Cat) (s : IsSound c) (p : Path) where
  pub get-collections : get (grid_of c).collections p ≡ option_map (λ r. r.inherit) (find (λ r. is_path_of (collection_path c r.id) p) c.collections)
  get-collections =
      get-rows path_cmp_total (λ (r : CollectionRow). collection_place (collection_path c) r.id) (λ (r : CollectionRow). r.inherit) c.collections p
      ∙ ap (option_map (λ (r : CollectionRow). r.inherit)) (find-congr (λ r. same_path (collection_place (collection_path c) r.id) p) (λ r. is_path_of (collection_path c r.id) p) c.collections
      (λ r here. ap (λ (o : Option Path). is_path_of o p) (sym (collection_placed c s r.id (collection_there c s r here)))))

  pub get-objects : get (grid_of c).objects p ≡ option_map (object_of c) (find (λ r. is_path_of (object_path c r) p) c.objects)
  get-objects =
      get-rows path_cmp_total (object_place (collection_path c)) (object_of c) c.objects p
      ∙ ap (option_map (object_of c)) (find-congr (λ r. same_path (object_place (collection_path c) r) p) (λ r. is_path_of (object_path c r) p) c.objects
      (λ r here. ap (λ (o : Option Path). is_path_of o p) (sym (object_placed c s r here))))

  pub has-collections : has (grid_of c).collections p ≡ is_some (collection_at c p)
  has-collections =
      ap is_some get-collections ∙ is_some-option_map (λ r. r.inherit) (find (λ r. is_path_of (collection_path c r.id) p) c.collections)
      ∙ sym (is_some-option_map (λ r. r.id) (find (λ r. is_path_of (collection_path c r.id) p) c.collections))

  pub has-objects : has (grid_of c).objects p ≡ is_some (object_at c p)
  has-objects =
      ap is_some get-objects ∙ is_some-option_map (object_of c) (find (λ r. is_path_of (object_path c r) p) c.objects)
      ∙ sym (is_some-option_map (λ r. r.id) (find (λ r. is_path_of (object_path c r) p) c.objects))

  -- the row at a path is the one with the id that is found there
  pub get-collection_at : (id : ℕ) (r : CollectionRow) → collection_at c p ≡ Some id → collection c id ≡ Some r → get (grid_of c).collections p ≡ Some r.inherit
  get-collection_at id r at found = get-collections ∙ taken (find (λ x. is_path_of (collection_path c x.id) p) c.collections) refl at
    where
      taken : (o : Option CollectionRow) → find (λ x. is_path_of (collection_path c x.id) p) c.collections ≡ o → option_map (λ x. x.id) o ≡ Some id → option_map (λ x. x.inherit) o ≡ Some r.inherit
      taken None is h = absurd cc
      taken (Some x) is h =
          let its : x.id ≡ id = same_Some x.id id h in
          let here = (in_from_find (λ y. is_path_of (collection_path c y.id) p) c.collections x is).0 in
          let own : collection c id ≡ Some x = ap (λ i. collection c i) (sym its) ∙ found_in (λ (y : CollectionRow). y.id) c.collections x s.cat.collections.ordered here in
          ap (λ (y : CollectionRow). Some y.inherit) (same_Some x r (sym own ∙ found))

  pub get-object_at : (id : ℕ) (o : ObjectRow) → object_at c p ≡ Some id → object c id ≡ Some o → get (grid_of c).objects p ≡ Some (object_of c o)
  get-object_at id o at found = get-objects ∙ taken (find (λ x. is_path_of (object_path c x) p) c.objects) refl at
    where
      taken : (f : Option ObjectRow) → find (λ x. is_path_of (object_path c x) p) c.objects ≡ f → option_map (λ x. x.id) f ≡ Some id → option_map (object_of c) f ≡ Some (object_of c o)
      taken None is h = absurd cc
      taken (Some x) is h =
          let its : x.id ≡ id = same_Some x.id id h in
          let here = (in_from_find (λ y. is_path_of (object_path c y) p) c.objects x is).0 in
          let own : object c id ≡ Some x = ap (λ i. object c i) (sym its) ∙ object_found c s x here in
          ap (λ (y : ObjectRow). Some (object_of c y)) (same_Some x o (sym own ∙ found))
