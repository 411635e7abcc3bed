-- What objects and metadata are once a resource was put again, under another name maybe.
use Rattle.std.proofs.Common.{◌≡◌, ◌==◌, ℕ, true, false, [], Option, Some, inl, inr, refl, sym, ap, ◌∙◌, subst, eqb-true, map}
use Rattle.std.specs.Prelude.{option_map, unwrap_or}
use Rattle.std.specs.Ordering.{nat_cmp}
use Rattle.std.specs.Cmp.{nat_cmp_total}
use Rattle.std.specs.FinMap.{nat_cmp-IsAntisymmetric}
use Rattle.std.proofs.lemmas.Bool.Decides.{eqb_tells}
use Rattle.grid_model.specs.Maps.{Map, from_list, rekey}
use Rattle.grid_model.specs.Names.{Text}
use Rattle.grid_model.specs.Renames.{renamed, renamed_thing, renamed_leaves}
use Rattle.grid_model.specs.Grid.{Replica, Thing, resource_named, thing_triple_cmp}
use Rattle.grid_model.specs.Rows.{Cat, resource, has_resource, item_there, resource_cmp, replica_cmp, replicas_of, with_row}
use Rattle.grid_model.specs.RowPaths.{collection_path}
use Rattle.grid_model.specs.RowGrids.{CollectionPaths, grid_of, object_of, replica_of, resource_name, thing_of, triple_of}
use Rattle.grid_model.specs.Applying.{resource_fits}
use Rattle.grid_model.specs.declared.deltas.ObjectRow.{ObjectRow}
use Rattle.grid_model.specs.declared.deltas.ReplicaRow.{ReplicaRow}
use Rattle.grid_model.specs.declared.deltas.ResourceRow.{ResourceRow}
use Rattle.grid_model.specs.declared.deltas.TripleRow.{TripleRow}
use Rattle.grid_model.specs.declared.grid.ItemKind.{ItemKind}
use Rattle.grid_model.specs.declared.grid.ItemKind.TheVariants as kind
use Rattle.grid_model.proofs.Comparing.{same_text-Decides, other_text}
use Rattle.grid_model.proofs.RowOrders.{replica_cmp_total}
use Rattle.tables_laws.proofs.Rows.{IsIn, in_from_all, in_from_find, in_from_filter, in_once, new_in_with_row, old_in_with_row}
use Rattle.tables_laws.proofs.Numbered.{same_number, equal_number, one_number, put_found, put_other}
use Rattle.tables_laws.proofs.Rekeyed.{from_list-rekey, from_list-values}
use Rattle.tables_laws.proofs.Resources.{leaf_there}
use Rattle.tables_laws.proofs.Standing.{ReplicaStands, TripleStands}
use Rattle.tables_laws.proofs.Places.{row_there}
use Rattle.tables_laws.proofs.Triples.{triples_apart}
use Rattle.tables_laws.proofs.GridOrders.{triple_cmp_total, triple_cmp-IsAntisymmetric}
use Rattle.tables_laws.proofs.Sound.{IsSound, sound-resource}
use Rattle.tables_laws.proofs.Grids.{paths_same}

module _ (c : Cat) (s : IsSound c) (r old : ResourceRow) (found : resource c r.id ≡ Some old) (fits : resource_fits c r ≡ true) where
  abbrev after : Cat
  after = record c { resources = with_row resource_cmp c.resources r }

  sound : IsSound after
  sound = sound-resource c s r fits

  abbrev pub called : Text → Text
  called = renamed old.name r.name

  pub was : IsIn c.resources old × (old.id ≡ r.id)
  was = let its = in_from_find (λ x. x.id == r.id) c.resources old found in (its.0, eqb-true old.id r.id its.1)

  pub is_old : (x : ResourceRow) → IsIn c.resources x → x.id ≡ r.id → x ≡ old
  is_old x here is = one_number (λ (y : ResourceRow). y.id) c.resources x old s.cat.resources.ordered here was.0 (is ∙ sym was.1)

  -- ---- names

  pub own_name : called old.name ≡ r.name
  own_name = ap (λ b. elim b as (λ _. Text) [ true ↦ r.name | false ↦ old.name ]) ((same_text-Decides old.name old.name).1 refl)

  pub other_name : (x : ResourceRow) → IsIn c.resources x → (x.id ≡ r.id → ⊥) → called x.name ≡ x.name
  other_name x here apart =
      ap (λ b. elim b as (λ _. Text) [ true ↦ r.name | false ↦ x.name ]) (other_text old.name x.name (λ same. apart (s.names.resources_apart x old here was.0 (sym same) ∙ was.1)))

  pub names_after : (id : ℕ) → has_resource c id ≡ true → resource_name after id ≡ called (resource_name c id)
  names_after id has = elim (eqb_tells id r.id) [
    | inl is ↦
        ap (resource_name after) is.1 ∙ ap (λ (o : Option ResourceRow). unwrap_or (option_map (λ x. x.name) o) []) (put_found (λ (x : ResourceRow). x.id) c.resources r) ∙ sym own_name
        ∙ ap (λ (o : Option ResourceRow). called (unwrap_or (option_map (λ x. x.name) o) [])) (sym found) ∙ ap (λ i. called (resource_name c i)) (sym is.1)
    | inr other ↦
        let row = row_there (λ (x : ResourceRow). x.id) c.resources id has in
        ap (λ (o : Option ResourceRow). unwrap_or (option_map (λ x. x.name) o) []) (put_other (λ (x : ResourceRow). x.id) c.resources r id other.1 ∙ row.3)
        ∙ sym (other_name row.0 row.1 (λ is. other.1 (sym row.2 ∙ is))) ∙ ap (λ (o : Option ResourceRow). called (unwrap_or (option_map (λ x. x.name) o) [])) (sym row.3)
  ]

  pub names_apart : (x y : ResourceRow) → IsIn c.resources x → IsIn c.resources y → called x.name ≡ called y.name → x ≡ y
  names_apart x y here there same = one_number (λ (z : ResourceRow). z.id) c.resources x y s.cat.resources.ordered here there (elim (eqb_tells x.id r.id) [
    | inl x_is ↦ elim (eqb_tells y.id r.id) [
      | inl y_is ↦ x_is.1 ∙ sym y_is.1
      | inr y_other ↦ absurd (y_other.1 (only y there (sym (other_name y there y_other.1) ∙ sym same ∙ ap (λ (z : ResourceRow). called z.name) (is_old x here x_is.1) ∙ own_name)))
    ]
    | inr x_other ↦ elim (eqb_tells y.id r.id) [
      | inl y_is ↦ absurd (x_other.1 (only x here (sym (other_name x here x_other.1) ∙ same ∙ ap (λ (z : ResourceRow). called z.name) (is_old y there y_is.1) ∙ own_name)))
      | inr y_other ↦ s.names.resources_apart x y here there (sym (other_name x here x_other.1) ∙ same ∙ other_name y there y_other.1)
    ]
  ])
    where
      -- no other resource has the new name
      only : (x : ResourceRow) → IsIn c.resources x → x.name ≡ r.name → x.id ≡ r.id
      only x here is = elim (eqb_tells x.id r.id) [
        | inl same_id ↦ same_id.1
        | inr apart ↦
            sound.names.resources_apart x r (old_in_with_row resource_cmp c.resources r x here (λ e. apart.1 (sym (same_number r.id x.id e)))) (new_in_with_row resource_cmp c.resources r) is
      ]

  -- ---- objects and metadata

  pub object_after : (o : ObjectRow) → object_of after o ≡ renamed_leaves called (object_of c o)
  object_after o =
      ap (λ (m : Map nat_cmp Replica). record { size = o.size; digest = o.digest; time = o.time; replicas = m })
      (from_list-values nat_cmp_total nat_cmp-IsAntisymmetric (λ (x : ReplicaRow). x.number) (replica_of c) (replica_of after) (λ x. record x { leaf = called x.leaf }) (replicas_of c o.id)
      (λ x here. let stands = in_from_all (ReplicaStands c) c.replicas s.tied.replicas x (of_object x here).0 in
      ap (λ (n : Text). record { leaf = n; good = x.good; size = x.size; digest = x.digest }) (names_after x.leaf (leaf_there c x.leaf stands.1)))
      (λ x y here there same. in_once replica_cmp replica_cmp_total c.replicas x y s.cat.replicas.ordered (of_object x here).0 (of_object y there).0
      (rw (equal_number x.object y.object ((of_object x here).1 ∙ sym (of_object y there).1), equal_number x.number y.number same) refl)))
    where
      of_object : (x : ReplicaRow) → IsIn (replicas_of c o.id) x → IsIn c.replicas x × (x.object ≡ o.id)
      of_object x here = let its = in_from_filter (λ y. y.object == o.id) c.replicas x here in (its.0, eqb-true x.object o.id its.1)

  thing_after : (k : ItemKind) (id : ℕ) → item_there c k id ≡ true → thing_of after (collection_path c) k id ≡ renamed_thing called (thing_of c (collection_path c) k id)
  thing_after kind.Object id has = refl
  thing_after kind.Collection id has = refl
  thing_after kind.Resource id has = ap resource_named (names_after id has)
  thing_after kind.User id has = refl

  pub triples_renamed : from_list {R = thing_triple_cmp} (map (λ x. (triple_of after (collection_path c) x, tt)) c.triples) ≡ rekey (λ x. record x { of = renamed_thing called x.of }) (grid_of c).triples
  triples_renamed =
      from_list-rekey triple_cmp_total triple_cmp-IsAntisymmetric (triple_of c (collection_path c)) (triple_of after (collection_path c)) (λ (x : TripleRow). tt) (λ x. record x { of = renamed_thing called x.of }) c.triples
      (λ x here. ap (λ (of : Thing). record { of = of; attribute = x.attribute; value = x.value; unit = x.unit }) (thing_after x.kind x.id (in_from_all (TripleStands c) c.triples s.tied.triples x here)))
      (λ x y here there same. triples_apart after sound y (in_from_all (TripleStands after) c.triples sound.tied.triples y there) x (in_from_all (TripleStands after) c.triples sound.tied.triples x here)
      (subst (λ (paths : CollectionPaths). triple_of after paths x ≡ triple_of after paths y) (sym (paths_same c after refl)) same))
