-- The grid once a resource was put that is new or keeps its name: what is called by a name stays.
use Rattle.std.proofs.Common.{◌≡◌, ◌==◌, ℕ, Bool, true, false, [], Option, Some, None, inl, inr, refl, sym, ap, ◌∙◌, map}
use Rattle.std.specs.Prelude.{not, option_map, unwrap_or, ◌&&◌, ◌||◌}
use Rattle.std.specs.Ordering.{nat_cmp, eq_by_cmp, is_eq}
use Rattle.std.specs.Cmp.{Equal-is}
use Rattle.std.proofs.lemmas.Bool.{and_parts}
use Rattle.std.proofs.lemmas.Bool.Decides.{eqb_tells}
use Rattle.grid_model.specs.Maps.{Map, put, from_list}
use Rattle.grid_model.specs.Names.{Text, text_cmp}
use Rattle.grid_model.specs.Grid.{Replica, Resource, resource_named}
use Rattle.grid_model.specs.Rows.{Cat, has_resource, item_there, resource_cmp, replicas_of, with_row}
use Rattle.grid_model.specs.RowPaths.{collection_path}
use Rattle.grid_model.specs.RowGrids.{grid_at, grid_of, object_place, object_of, replica_of, resource_of, resource_name, thing_of}
use Rattle.grid_model.specs.Applying.{resource_fits, is_storage, is_leaf, is_node}
use Rattle.grid_model.specs.declared.deltas.ObjectRow.{ObjectRow}
use Rattle.grid_model.specs.declared.deltas.ReplicaRow.{ReplicaRow}
use Rattle.grid_model.specs.declared.deltas.ResourceRow.{ResourceRow}
use Rattle.grid_model.specs.declared.grid.ItemKind.{ItemKind}
use Rattle.grid_model.specs.declared.grid.ItemKind.TheVariants as kind
use Rattle.grid_model.proofs.Comparing.{text_cmp_total, text_cmp-IsAntisymmetric}
use Rattle.tables_laws.proofs.Rows.{IsIn, in_from_all, in_from_filter, new_in_with_row, old_in_with_row}
use Rattle.tables_laws.proofs.Numbered.{same_number, equal_number, put_found, put_other}
use Rattle.tables_laws.proofs.TableMaps.{tied_so, from_list-same, from_list-with_row}
use Rattle.tables_laws.proofs.Standing.{ReplicaStands, ResourceStands}
use Rattle.tables_laws.proofs.Ties.{any_weaker}
use Rattle.tables_laws.proofs.Places.{row_there}
use Rattle.tables_laws.proofs.Frame.{same_grid, triples_kept, access_kept}
use Rattle.tables_laws.proofs.Sound.{IsSound, sound-resource}
use Rattle.tables_laws.proofs.Grids.{grid-same}

-- the name of a resource's parent
abbrev pub parent_of : Cat → ResourceRow → Option Text
parent_of c r = elim (r.parent == 0) [ true ↦ None | false ↦ Some (resource_name c r.parent) ]

pub leaf_there : (c : Cat) (id : ℕ) → is_leaf c id ≡ true → has_resource c id ≡ true
leaf_there c id e = any_weaker (λ (x : ResourceRow). (x.id == id) && is_storage x.kind) (λ x. x.id == id) c.resources (λ x passes. (and_parts (x.id == id) (is_storage x.kind) passes).0) e

pub node_there : (c : Cat) (id : ℕ) → is_node c id ≡ true → has_resource c id ≡ true
node_there c id e = any_weaker (λ (x : ResourceRow). (x.id == id) && not (is_storage x.kind)) (λ x. x.id == id) c.resources (λ x passes. (and_parts (x.id == id) (not (is_storage x.kind)) passes).0) e

module _ (c : Cat) (s : IsSound c) (r : ResourceRow) (fits : resource_fits c r ≡ true) (named : (x : ResourceRow) → IsIn c.resources x → x.id ≡ r.id → x.name ≡ r.name) where
  abbrev after : Cat
  after = record c { resources = with_row resource_cmp c.resources r }

  sound : IsSound after
  sound = sound-resource c s r fits

  pub names_kept : (id : ℕ) → has_resource c id ≡ true → resource_name after id ≡ resource_name c id
  names_kept id has = elim (eqb_tells id r.id) [
    | inl is ↦
        let old = row_there (λ (x : ResourceRow). x.id) c.resources id has in
        ap (resource_name after) is.1
        ∙ ap (λ (o : Option ResourceRow). unwrap_or (option_map (λ x. x.name) o) []) (put_found (λ (x : ResourceRow). x.id) c.resources r) ∙ sym (named old.0 old.1 (old.2 ∙ is.1))
        ∙ ap (λ (o : Option ResourceRow). unwrap_or (option_map (λ x. x.name) o) []) (sym old.3)
    | inr other ↦ ap (λ (o : Option ResourceRow). unwrap_or (option_map (λ x. x.name) o) []) (put_other (λ (x : ResourceRow). x.id) c.resources r id other.1)
  ]

  pub parent_kept : (x : ResourceRow) → ResourceStands c x → parent_of after x ≡ parent_of c x
  parent_kept x stands = told (x.parent == 0) stands.1
    where
      told : (b : Bool) → (b || is_node c x.parent) ≡ true → elim b as (λ _. Option Text) [ true ↦ None | false ↦ Some (resource_name after x.parent) ] ≡ elim b as (λ _. Option Text) [ true ↦ None | false ↦ Some (resource_name c x.parent) ]
      told true e = refl
      told false e = ap Some (names_kept x.parent (node_there c x.parent e))

  thing_kept : (k : ItemKind) (id : ℕ) → item_there c k id ≡ true → thing_of after (collection_path c) k id ≡ thing_of c (collection_path c) k id
  thing_kept kind.Object id has = refl
  thing_kept kind.Collection id has = refl
  thing_kept kind.Resource id has = ap resource_named (names_kept id has)
  thing_kept kind.User id has = refl

  object_kept : (o : ObjectRow) → object_of after o ≡ object_of c o
  object_kept o =
      ap (λ (m : Map nat_cmp Replica). record { size = o.size; digest = o.digest; time = o.time; replicas = m })
      (from_list-same (λ (x : ReplicaRow). x.number) (λ (x : ReplicaRow). x.number) (replica_of after) (replica_of c) (replicas_of c o.id) (λ x here. refl) (λ x here.
      let stands = in_from_all (ReplicaStands c) c.replicas s.tied.replicas x (in_from_filter (λ y. y.object == o.id) c.replicas x here).0 in
      ap (λ (n : Text). record { leaf = n; good = x.good; size = x.size; digest = x.digest }) (names_kept x.leaf (leaf_there c x.leaf stands.1))))

  own_name : (x : ResourceRow) → IsIn c.resources x → eq_by_cmp text_cmp x.name r.name ≡ is_eq (resource_cmp r x)
  own_name x here =
      tied_so text_cmp_total text_cmp-IsAntisymmetric x.name r.name (is_eq (resource_cmp r x))
      (λ same. (Equal-is (resource_cmp r x)).1 (equal_number r.id x.id (sym (one same))))
      (λ e. named x here (sym (same_number r.id x.id ((Equal-is (resource_cmp r x)).0 e))))
    where
      one : x.name ≡ r.name → x.id ≡ r.id
      one same = elim (eqb_tells x.id r.id) [
        | inl is ↦ is.1
        | inr apart ↦
            sound.names.resources_apart x r (old_in_with_row resource_cmp c.resources r x here (λ e. apart.1 (sym (same_number r.id x.id e)))) (new_in_with_row resource_cmp c.resources r) same
      ]

  -- nothing else changes than the resources
  pub grid-with_resource : (rest : Map text_cmp Resource) (new : Resource) → from_list (map (λ x. (x.name, resource_of after x)) c.resources) ≡ rest → resource_of after r ≡ new
      → grid_of after ≡ record (grid_of c) { resources = put rest r.name new }
  grid-with_resource rest new others its =
      grid-same c after refl (record (grid_of c) { resources = put rest r.name new }) (
      same_grid (grid_at after (collection_path c)) (record (grid_of c) { resources = put rest r.name new }) refl refl refl refl refl
      (from_list-same (object_place (collection_path c)) (object_place (collection_path c)) (object_of after) (object_of c) c.objects (λ o here. refl) (λ o here. object_kept o))
      (triples_kept c after s.tied (collection_path c) thing_kept) (access_kept c after s.tied (collection_path c) thing_kept)
      (from_list-with_row text_cmp_total resource_cmp (λ (x : ResourceRow). x.name) (resource_of after) text_cmp-IsAntisymmetric c.resources r own_name ∙ (λ i. put (others i) r.name (its i))))
