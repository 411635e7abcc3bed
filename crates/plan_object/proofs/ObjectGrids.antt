-- The grid that has an object with these replicas at a path, and what changes of its replicas and its row make of it.
use Rattle.std.proofs.Common.{◌≡◌, ◌==◌, ℕ, Bool, true, false, cond, List, Option, Some, Ok, refl, sym, ap, ◌∙◌, eq-eqb, eqb-true}
use Rattle.std.specs.Prelude.{◌&&◌, filter, not, option_map}
use Rattle.std.specs.List.{list_any}
use Rattle.std.proofs.lemmas.Bool.{and_from, and_parts, false_from_ne_true}
use Rattle.grid_model.specs.Maps.{Map, get, put, remove}
use Rattle.grid_model.specs.Names.{Path, is_name, path_cmp, same_text}
use Rattle.grid_model.specs.Grid.{Grid, Object}
use Rattle.grid_model.specs.Trees.{Replicas}
use Rattle.grid_model.specs.Rows.{Cat, has_collection, is_named_object, object, object_cmp, replica_cmp, with_row}
use Rattle.grid_model.specs.RowPaths.{collection_path}
use Rattle.grid_model.specs.RowGrids.{grid_of, object_of, object_place, replica_of}
use Rattle.grid_model.specs.Applying.{IsMade, apply, free_for_object, is_child_named, is_object_named, is_replica, object_fits, where_fits}
use Rattle.grid_model.specs.declared.deltas.Delta.TheVariants as delta
use Rattle.grid_model.specs.declared.deltas.CollectionRow.{CollectionRow}
use Rattle.grid_model.specs.declared.deltas.ObjectRow.{ObjectRow}
use Rattle.grid_model.specs.declared.deltas.OrphanRow.{OrphanRow}
use Rattle.grid_model.specs.declared.deltas.ReplicaRow.{ReplicaRow}
use Rattle.grid_model.proofs.Comparing.{path_cmp_total, path_cmp-IsAntisymmetric, same_path-Decides, same_text-Decides}
use Rattle.grid_model.proofs.FoundRows.{none_any}
use Rattle.grid_model.proofs.MapLemmas.{get-put, put-again}
use Rattle.tables_laws.proofs.Rows.{IsIn, all_from_in, find_from_in, in_from_all, in_from_find}
use Rattle.tables_laws.proofs.Grids.{grid-same, paths_same}
use Rattle.tables_laws.proofs.MovedObjects.{grid-object_changed}
use Rattle.tables_laws.proofs.Numbered.{put_found}
use Rattle.tables_laws.proofs.Places.{objects_apart}
use Rattle.tables_laws.proofs.Replicas.{grid-with_replica, grid-without_replica}
use Rattle.tables_laws.proofs.TableMaps.{get-rows}
use Rattle.tables_laws.proofs.Sound.{IsSound, sound-apply}
use Rattle.plan_object.specs.OverPlans.{rewritten}
use Rattle.plan_object.specs.Writing.{Recorded}

-- no row passes where each that does is none
pub none_so : {X : Type 0} (p : X → Bool) (rows : List X) → ((x : X) → IsIn rows x → p x ≡ true → ⊥) → list_any p rows ≡ false
none_so p rows fails = none_any p rows (all_from_in (λ x. p x ≡ false) rows (λ x here. false_from_ne_true (p x) (fails x here)))

-- an object in the grid is the one of its row
pub object_in_grid : (c : Cat) → IsSound c → (o : ObjectRow) → IsIn c.objects o → get (grid_of c).objects (object_place (collection_path c) o) ≡ Some (object_of c o)
object_in_grid c s o here =
    get-rows path_cmp_total (object_place (collection_path c)) (object_of c) c.objects (object_place (collection_path c) o)
    ∙ ap (option_map (object_of c)) (find_from_in _ c.objects o here ((same_path-Decides (object_place (collection_path c) o) (object_place (collection_path c) o)).1 refl)
    (λ x there passes. objects_apart c s x o there here ((same_path-Decides (object_place (collection_path c) x) (object_place (collection_path c) o)).0 passes)))

-- the object of this row with these replicas
abbrev pub object_with : ObjectRow → Replicas → Object
object_with o rs = record { size = o.size; digest = o.digest; time = o.time; replicas = rs }

-- The object of this row has these replicas at the path, and else the grid is this one.
pub record HasIt (o : ObjectRow) (c : Cat) (g : Grid) (p : Path) (rs : Replicas) : Type 0 where
  pub sound : IsSound c
  pub found : object c o.id ≡ Some o
  pub place : object_place (collection_path c) o ≡ p
  pub grid : grid_of c ≡ record g { objects = put g.objects p (object_with o rs) }

module _ (o : ObjectRow) (c : Cat) (g : Grid) (p : Path) (rs : Replicas) (has : HasIt o c g p rs) where
  here : IsIn c.objects o
  here = (in_from_find (λ (x : ObjectRow). x.id == o.id) c.objects o has.found).0

  its_object : object_of c o ≡ object_with o rs
  its_object =
      let one : get (grid_of c).objects p ≡ Some (object_of c o) = ap (get (grid_of c).objects) (sym has.place) ∙ object_in_grid c has.sound o here in
      let other : get (grid_of c).objects p ≡ Some (object_with o rs) =
      ap (λ (h : Grid). get h.objects p) has.grid ∙ get-put path_cmp_total g.objects p (object_with o rs) p
      ∙ ap (λ b. cond b (Some (object_with o rs)) (get g.objects p)) ((same_path-Decides p p).1 refl) in
      some_same (object_of c o) (object_with o rs) (sym one ∙ other)
    where
      some_same : (a b : Object) → Some a ≡ Some b → a ≡ b
      some_same a b e = cc

  -- what is put at its place takes the place of the object
  put_there : (F : Object → Object) → record (grid_of c) { objects = put (grid_of c).objects (object_place (collection_path c) o) (F (object_of c o)) } ≡ record g { objects = put g.objects p (F (object_with o rs)) }
  put_there F =
      (λ i. record (has.grid i) { objects = put (has.grid i).objects (has.place i) (F (its_object i)) })
      ∙ ap (λ (m : Map path_cmp Object). record g { objects = m }) (put-again path_cmp_total path_cmp-IsAntisymmetric g.objects p (object_with o rs) (F (object_with o rs)))

  -- a row is where it was, if the collections are
  placed : (d : Cat) → d.collections ≡ c.collections → object_place (collection_path d) o ≡ p
  placed d same = ap (λ (ps : ℕ → Option Path). object_place ps o) (paths_same c d same) ∙ has.place

  -- ---- changes

  pub with_orphans : (orphans : List OrphanRow) → IsSound (record c { orphans = orphans }) → HasIt o (record c { orphans = orphans }) g p rs
  with_orphans orphans sound = record {
    sound = sound;
    found = has.found;
    place = placed (record c { orphans = orphans }) refl;
    grid = grid-same c (record c { orphans = orphans }) refl (grid_of c) refl ∙ has.grid;
  }

  pub with_replica : (r : ReplicaRow) → r.object ≡ o.id → IsSound (record c { replicas = with_row replica_cmp c.replicas r }) → HasIt o (record c { replicas = with_row replica_cmp c.replicas r }) g p (put rs r.number (replica_of c r))
  with_replica r its sound = record {
    sound = sound;
    found = has.found;
    place = placed (record c { replicas = with_row replica_cmp c.replicas r }) refl;
    grid =
        grid-with_replica c has.sound r o (ap (object c) its ∙ has.found) ∙ put_there (λ (x : Object). record x { replicas = put x.replicas r.number (replica_of c r) });
  }

  pub without_replica : (number : ℕ) → IsSound (record c { replicas = filter (λ x. not (is_replica o.id number x)) c.replicas }) → HasIt o (record c { replicas = filter (λ x. not (is_replica o.id number x)) c.replicas }) g p (remove rs number)
  without_replica number sound = record {
    sound = sound;
    found = has.found;
    place = placed (record c { replicas = filter (λ x. not (is_replica o.id number x)) c.replicas }) refl;
    grid = grid-without_replica c has.sound o.id number o has.found ∙ put_there (λ (x : Object). record x { replicas = remove x.replicas number });
  }

-- ---- the row

-- the object's row is put again, with what is recorded
module _ (old : ObjectRow) (r : Recorded) (c : Cat) (made : IsMade c) (g : Grid) (p : Path) (rs : Replicas) (has : HasIt old c g p rs) where
  abbrev new : ObjectRow
  new = rewritten old r

  abbrev pub renewed : Cat
  renewed = record c { objects = with_row object_cmp c.objects new }

  old_here : IsIn c.objects old
  old_here = (in_from_find (λ (x : ObjectRow). x.id == old.id) c.objects old has.found).0

  no_collection : (x : CollectionRow) → IsIn c.collections x → is_child_named old.collection old.name x ≡ true → ⊥
  no_collection x there e =
      let parts = and_parts ((x.parent == old.collection) && not (x.id == 0)) (same_text x.name old.name) e in
      let child = and_parts (x.parent == old.collection) (not (x.id == 0)) parts.0 in
      has.sound.forest.mixed x old there old_here (λ root. let zero_is : (x.id == 0) ≡ true = eq-eqb x.id 0 root in let wrong : not (x.id == 0) ≡ true = child.1 in cc)
      (sym (eqb-true x.parent old.collection child.0)) (sym ((same_text-Decides x.name old.name).0 parts.1))

  no_object : (x : ObjectRow) → IsIn c.objects x → (not (x.id == old.id) && is_object_named old.collection old.name x) ≡ true → ⊥
  no_object x there e =
      let parts = and_parts (not (x.id == old.id)) (is_object_named old.collection old.name x) e in
      let named = and_parts (x.collection == old.collection) (same_text x.name old.name) parts.1 in
      let same : x.id ≡ old.id = has.sound.forest.objects x old there old_here (eqb-true x.collection old.collection named.0) ((same_text-Decides x.name old.name).0 named.1) in
      let is : (x.id == old.id) ≡ true = eq-eqb x.id old.id same in
      let wrong : not (x.id == old.id) ≡ true = parts.0 in
      cc

  new_fits : object_fits c new ≡ true
  new_fits =
      and_from (has_collection c old.collection && is_name old.name) (free_for_object c old.id old.collection old.name)
      (and_from (has_collection c old.collection) (is_name old.name) (has.sound.forest.housed old old_here) (in_from_all (λ (x : ObjectRow). is_named_object x ≡ true) c.objects has.sound.cat.objects.fit old old_here))
      (and_from (not (list_any (λ x. is_child_named old.collection old.name x) c.collections)) (not (list_any (λ x. not (x.id == old.id) && is_object_named old.collection old.name x) c.objects))
      (ap not (none_so (λ x. is_child_named old.collection old.name x) c.collections no_collection)) (ap not (none_so (λ x. not (x.id == old.id) && is_object_named old.collection old.name x) c.objects no_object)))

  pub applied_new : apply c (delta.Object new) ≡ Ok renewed
  applied_new = ap (λ b. where_fits b 7 renewed) new_fits

  pub with_new : HasIt new renewed g p rs
  with_new = record {
    sound = sound-apply c renewed (delta.Object new) has.sound applied_new;
    found = put_found (λ (x : ObjectRow). x.id) c.objects new;
    place = placed old c g p rs has renewed refl;
    grid =
        grid-object_changed made.0 c renewed new old made.1 has.found refl refl applied_new
        ∙ put_there old c g p rs has (λ (x : Object). record x { size = r.size; digest = r.digest; time = r.now });
  }
