-- The parts of the grid that stay where things and names stay.
use Rattle.std.proofs.Common.{◌≡◌, ℕ, true, [], map, refl, ap}
use Rattle.std.proofs.lemmas.Bool.{and_parts}
use Rattle.grid_model.specs.Names.{Text}
use Rattle.grid_model.specs.Maps.{from_list}
use Rattle.grid_model.specs.Rows.{Cat, has_user, item_there}
use Rattle.grid_model.specs.RowPaths.{collection_path}
use Rattle.grid_model.specs.Applying.{gives_access, is_given}
use Rattle.grid_model.specs.Grid.{Grid, Thing, object_at, collection_at, resource_named, user_named, thing_names, group_member_cmp, thing_triple_cmp, access_cmp}
use Rattle.grid_model.specs.RowGrids.{CollectionPaths, grid_of, item_place, thing_of, triple_of, user_name}
use Rattle.grid_model.specs.declared.grid.ItemKind.{ItemKind}
use Rattle.grid_model.specs.declared.grid.ItemKind.TheVariants as kind
use Rattle.grid_model.specs.declared.deltas.MemberRow.{MemberRow}
use Rattle.grid_model.specs.declared.deltas.TripleRow.{TripleRow}
use Rattle.grid_model.specs.declared.deltas.EntryRow.{EntryRow}
use Rattle.tables_laws.proofs.Rows.{IsIn, in_from_all}
use Rattle.tables_laws.proofs.Standing.{Stands, MemberStands, TripleStands, EntryStands}
use Rattle.tables_laws.proofs.TableMaps.{from_list-same}
use Rattle.tables_laws.proofs.Ties.{members_there}

pub same_grid : (g h : Grid) → g.zone ≡ h.zone → g.stores ≡ h.stores → g.users ≡ h.users → g.members ≡ h.members → g.collections ≡ h.collections → g.objects ≡ h.objects
    → g.triples ≡ h.triples → g.access ≡ h.access → g.resources ≡ h.resources → g ≡ h
same_grid g h zone stores users members collections objects triples access resources =
    λ i. record { zone = zone i; stores = stores i; users = users i; members = members i; collections = collections i; objects = objects i; triples = triples i; access = access i; resources = resources i }

-- the name of a thing that has one alone
abbrev own_name : Thing → Text
own_name (object_at p) = []
own_name (collection_at p) = []
own_name (resource_named n) = n
own_name (user_named n) = n

module _ (c d : Cat) (next : CollectionPaths) where
  -- where each row speaks of the same
  pub triples_same : ((t : TripleRow) → IsIn c.triples t → thing_of d next t.kind t.id ≡ thing_of c (collection_path c) t.kind t.id)
      → from_list {R = thing_triple_cmp} (map (λ t. (triple_of d next t, tt)) c.triples) ≡ (grid_of c).triples
  triples_same same =
      from_list-same (triple_of d next) (triple_of c (collection_path c)) (λ t. tt) (λ t. tt) c.triples
      (λ t here. ap (λ (x : Thing). record { of = x; attribute = t.attribute; value = t.value; unit = t.unit }) (same t here)) (λ t here. refl)

  pub access_same : ((e : EntryRow) → IsIn c.entries e → item_place d next e.kind e.id ≡ item_place c (collection_path c) e.kind e.id) → ((e : EntryRow) → IsIn c.entries e → user_name d e.user ≡ user_name c e.user)
      → from_list {R = access_cmp} (map (λ e. ((item_place d next e.kind e.id, user_name d e.user), e.level)) c.entries) ≡ (grid_of c).access
  access_same places names =
      from_list-same (λ (e : EntryRow). (item_place d next e.kind e.id, user_name d e.user)) (λ (e : EntryRow). (item_place c (collection_path c) e.kind e.id, user_name c e.user)) (λ (e : EntryRow). e.level)
      (λ (e : EntryRow). e.level) c.entries (λ e here i. (places e here i, names e here i)) (λ e here. refl)

-- the place of an item is that of the thing
pub place_from_thing : (c d : Cat) (next : CollectionPaths) (k : ItemKind) (id : ℕ) → gives_access k ≡ true → thing_of d next k id ≡ thing_of c (collection_path c) k id
    → item_place d next k id ≡ item_place c (collection_path c) k id
place_from_thing c d next kind.Object id gives same = ap thing_names same
place_from_thing c d next kind.Collection id gives same = ap thing_names same
place_from_thing c d next kind.Resource id gives same = absurd cc
place_from_thing c d next kind.User id gives same = absurd cc

-- where each item that is there stays the thing that it was
module _ (c d : Cat) (s : Stands c) (next : CollectionPaths) (kept : (k : ItemKind) (id : ℕ) → item_there c k id ≡ true → thing_of d next k id ≡ thing_of c (collection_path c) k id) where
  name_kept : (id : ℕ) → has_user c id ≡ true → user_name d id ≡ user_name c id
  name_kept id has = ap own_name (kept kind.User id has)

  pub place_kept : (k : ItemKind) (id : ℕ) → gives_access k ≡ true → item_there c k id ≡ true → item_place d next k id ≡ item_place c (collection_path c) k id
  place_kept k id gives has = place_from_thing c d next k id gives (kept k id has)

  pub members_kept : from_list {R = group_member_cmp} (map (λ m. ((user_name d m.group, user_name d m.user), tt)) c.members) ≡ (grid_of c).members
  members_kept =
      from_list-same (λ (m : MemberRow). (user_name d m.group, user_name d m.user)) (λ (m : MemberRow). (user_name c m.group, user_name c m.user)) (λ m. tt) (λ m. tt) c.members
      (λ m here. let both = members_there c m (in_from_all (MemberStands c) c.members s.members m here) in λ i. (name_kept m.group both.0 i, name_kept m.user both.1 i)) (λ m here. refl)

  pub triples_kept : from_list {R = thing_triple_cmp} (map (λ t. (triple_of d next t, tt)) c.triples) ≡ (grid_of c).triples
  triples_kept = triples_same c d next (λ t here. kept t.kind t.id (in_from_all (TripleStands c) c.triples s.triples t here))

  pub access_kept : from_list {R = access_cmp} (map (λ e. ((item_place d next e.kind e.id, user_name d e.user), e.level)) c.entries) ≡ (grid_of c).access
  access_kept =
      access_same c d next
      (λ e here. let stands = in_from_all (EntryStands c) c.entries s.entries e here in place_kept e.kind e.id (and_parts (gives_access e.kind) (is_given e.level) stands.0).0 stands.1)
      (λ e here. name_kept e.user (in_from_all (EntryStands c) c.entries s.entries e here).2)
