-- Where collections, metadata and access are once what was at one path is at another.
use Rattle.std.proofs.Common.{◌≡◌, ◌++◌, ℕ, zero, suc, true, length, [], ◌∷◌, Some, ◌⊎◌, inl, inr, refl, sym, ap, ◌∙◌, map}
use Rattle.std.specs.List.{AllByRecursion}
use Rattle.std.proofs.lemmas.Bool.{and_parts}
use Rattle.grid_model.specs.Maps.{from_list, rekey}
use Rattle.grid_model.specs.Moves.{moved_thing}
use Rattle.grid_model.specs.Names.{Path}
use Rattle.grid_model.specs.Grid.{Thing, thing_triple_cmp, access_cmp, thing_names}
use Rattle.grid_model.specs.Rows.{Cat, collection, has_collection, item_there, item_number, entry_cmp}
use Rattle.grid_model.specs.RowPaths.{names_within, collection_path}
use Rattle.grid_model.specs.RowGrids.{grid_of, collection_place, item_place, thing_of, triple_of, user_name}
use Rattle.grid_model.specs.Applying.{gives_access, is_given}
use Rattle.grid_model.specs.declared.grid.ItemKind.{ItemKind}
use Rattle.grid_model.specs.declared.grid.ItemKind.TheVariants as kind
use Rattle.grid_model.specs.declared.deltas.CollectionRow.{CollectionRow}
use Rattle.grid_model.specs.declared.deltas.TripleRow.{TripleRow}
use Rattle.grid_model.specs.declared.deltas.EntryRow.{EntryRow}
use Rattle.grid_model.proofs.RowOrders.{entry_cmp_total}
use Rattle.tables_laws.proofs.Rows.{in_from_all, in_once}
use Rattle.tables_laws.proofs.Numbered.{equal_number}
use Rattle.tables_laws.proofs.Ways.{at_root, further, leads_up}
use Rattle.tables_laws.proofs.Forest.{way_of}
use Rattle.tables_laws.proofs.Rekeyed.{from_list-rekey}
use Rattle.tables_laws.proofs.GridOrders.{triple_cmp_total, triple_cmp-IsAntisymmetric, access_cmp_total, access_cmp-IsAntisymmetric}
use Rattle.tables_laws.proofs.Standing.{TripleStands, EntryStands}
use Rattle.tables_laws.proofs.Places.{root_place, child_place, parent_has}
use Rattle.tables_laws.proofs.Triples.{triples_apart}
use Rattle.tables_laws.proofs.Entries.{key_of, keys_apart}
use Rattle.tables_laws.proofs.Sound.{IsSound}

module _ (c d : Cat) (s : IsSound c) (t : IsSound d) (at : Path → Path) where
  abbrev place : ℕ → Path
  place id = collection_place (collection_path c) id

  -- a collection with another row is moved, or keeps its row
  module _ (root : at [] ≡ []) (root_stays : has_collection c 0 ≡ true → has_collection d 0 ≡ true)
      (step : (id : ℕ) → has_collection c id ≡ true → (collection_place (collection_path d) id ≡ at (place id))
      ⊎ ((r : CollectionRow) → (id ≡ 0 → ⊥) → collection c id ≡ Some r → (collection d id ≡ Some r) × (at (place r.parent ++ r.name ∷ []) ≡ at (place r.parent) ++ r.name ∷ []))) where
    moved_within : (k id : ℕ) (names : Path) → names_within k c id ≡ Some names → has_collection c id ≡ true → collection_place (collection_path d) id ≡ at (place id)
    moved_within zero id names e has = absurd cc
    moved_within (suc k) id names e has = elim (step id has) [
      | inl is ↦ is
      | inr kept ↦ elim (leads_up c k id names e) [
        | at_root is none ↦
            let here : has_collection c 0 ≡ true = ap (λ i. has_collection c i) (sym is) ∙ has in
            ap (collection_place (collection_path d)) is ∙ root_place d t (root_stays here) ∙ sym root ∙ ap at (sym (root_place c s here)) ∙ ap (λ i. at (place i)) (sym is)
        | further not_root r rest found up _ ↦
            let own = kept r not_root found in
            child_place d t id r not_root own.0 ∙ ap (λ (p : Path). p ++ r.name ∷ []) (moved_within k r.parent rest up (parent_has c s id r not_root found))
            ∙ sym own.1 ∙ ap at (sym (child_place c s id r not_root found))
      ]
    ]

    pub collections_moved : (id : ℕ) → has_collection c id ≡ true → collection_place (collection_path d) id ≡ at (place id)
    collections_moved id has = let way = way_of c s.forest id has in moved_within (length c.collections) id way.0 way.1 has

  -- metadata and access go with what they are of
  module _ (triples_stand : AllByRecursion (TripleStands d) c.triples) (entries_stand : AllByRecursion (EntryStands d) c.entries) (names : (id : ℕ) → user_name d id ≡ user_name c id)
      (things : (k : ItemKind) (id : ℕ) → item_there c k id ≡ true → thing_of d (collection_path d) k id ≡ moved_thing at (thing_of c (collection_path c) k id)) where
    pub triples_moved : from_list {R = thing_triple_cmp} (map (λ x. (triple_of d (collection_path d) x, tt)) c.triples) ≡ rekey (λ x. record x { of = moved_thing at x.of }) (grid_of c).triples
    triples_moved =
        from_list-rekey triple_cmp_total triple_cmp-IsAntisymmetric (triple_of c (collection_path c)) (triple_of d (collection_path d)) (λ (x : TripleRow). tt) (λ x. record x { of = moved_thing at x.of }) c.triples
        (λ x here. ap (λ (of : Thing). record { of = of; attribute = x.attribute; value = x.value; unit = x.unit }) (things x.kind x.id (in_from_all (TripleStands c) c.triples s.tied.triples x here)))
        (λ x y here there same. triples_apart d t y (in_from_all (TripleStands d) c.triples triples_stand y there) x (in_from_all (TripleStands d) c.triples triples_stand x here) same)

    place_moved : (k : ItemKind) (id : ℕ) → gives_access k ≡ true → item_there c k id ≡ true → item_place d (collection_path d) k id ≡ at (item_place c (collection_path c) k id)
    place_moved kind.Object id gives has = ap thing_names (things kind.Object id has)
    place_moved kind.Collection id gives has = ap thing_names (things kind.Collection id has)
    place_moved kind.Resource id gives has = absurd cc
    place_moved kind.User id gives has = absurd cc

    pub access_moved : from_list {R = access_cmp} (map (λ e. ((item_place d (collection_path d) e.kind e.id, user_name d e.user), e.level)) c.entries) ≡ rekey (λ k. (at k.0, k.1)) (grid_of c).access
    access_moved =
        from_list-rekey access_cmp_total access_cmp-IsAntisymmetric (key_of c) (key_of d) (λ (e : EntryRow). e.level) (λ k. (at k.0, k.1)) c.entries
        (λ e here. let stands = in_from_all (EntryStands c) c.entries s.tied.entries e here in
        λ i. (place_moved e.kind e.id (and_parts (gives_access e.kind) (is_given e.level) stands.0).0 stands.1 i, names e.user i))
        (λ x y here there same.
        let stands = in_from_all (EntryStands d) c.entries entries_stand y there in
        let ids = keys_apart d t y.kind y.id y.user (and_parts (gives_access y.kind) (is_given y.level) stands.0).0 stands.1 stands.2 x (in_from_all (EntryStands d) c.entries entries_stand x here) same in
        in_once entry_cmp entry_cmp_total c.entries x y s.cat.entries.ordered here there
        (rw (equal_number (item_number x.kind) (item_number y.kind) (ap item_number ids.0), equal_number x.id y.id ids.1, equal_number x.user y.user ids.2) refl))
