-- What holds of the empty catalogue and is kept by each delta.
use Rattle.std.proofs.Common.{◌≡◌, ◌==◌, ℕ, ◌<◌, ◌≤◌, Bool, true, false, List, [], ◌∷◌, Option, Some, None, Result, Ok, Err, refl, sym, ◌∙◌, subst, eqb-true, arith}
use Rattle.std.specs.Prelude.{find, filter, not, ◌&&◌, ◌||◌, is_none, nat_lt, nat_le}
use Rattle.std.specs.List.{list_any, AllByRecursion}
use Rattle.std.specs.Ordering.{eq_by_cmp}
use Rattle.std.proofs.lemmas.Bool.{and_parts, and_from, ltb-true, leb-true, eqb-false}
use Rattle.grid_model.specs.Names.{Text, is_name, same_text}
use Rattle.grid_model.specs.Rows.{Cat, IsCat, IsTable, empty_cat, with_row, user_cmp, member_cmp, collection_cmp, object_cmp, replica_cmp, triple_cmp, entry_cmp, resource_cmp, orphan_cmp, is_named_user, is_named_collection, is_named_object, is_named_resource, has_user, has_object, item_there, is_member}
use Rattle.grid_model.specs.RowTrees.{IsTree, IsTied, OrphanStands}
use Rattle.tables_laws.proofs.Standing.{Stands, MemberStands, ReplicaStands, TripleStands, EntryStands, ResourceStands}
use Rattle.tables_laws.proofs.Vaults.{HasOwnVaults, IsVaulted, vaults-empty, vaults-replica, vaults-fewer, vaults-fewer_orphans, vaults-orphan, vaults-drawn, vaults-stores, fits-again, orphan_free}
use Rattle.grid_model.specs.Applying.{apply, apply_all, where_fits, zone_fits, user_fits, can_join, collection_fits, may_drop_collection, object_fits, may_drop_object, is_leaf, is_drawn, is_replica, replica_fits, has_triple, gives_access, is_given, entry_fits, is_entry, resource_fits, slot_fits, parent_fits, is_storage, numbers_fit, is_user}
use Rattle.grid_model.specs.declared.deltas.Delta.{Delta}
use Rattle.grid_model.specs.declared.deltas.Delta.TheVariants as delta
use Rattle.grid_model.specs.declared.deltas.UserRow.{UserRow}
use Rattle.grid_model.specs.declared.deltas.MemberRow.{MemberRow}
use Rattle.grid_model.specs.declared.deltas.CollectionRow.{CollectionRow}
use Rattle.grid_model.specs.declared.deltas.ObjectRow.{ObjectRow}
use Rattle.grid_model.specs.declared.deltas.ReplicaRow.{ReplicaRow}
use Rattle.grid_model.specs.declared.deltas.TripleRow.{TripleRow}
use Rattle.grid_model.specs.declared.deltas.EntryRow.{EntryRow}
use Rattle.grid_model.specs.declared.deltas.ResourceRow.{ResourceRow}
use Rattle.grid_model.specs.declared.deltas.OrphanRow.{OrphanRow}
use Rattle.grid_model.specs.declared.deltas.Numbers.{Numbers}
use Rattle.grid_model.specs.declared.deltas.Pending.{Pending}
use Rattle.grid_model.proofs.RowOrders.{user_cmp_total, member_cmp_total, collection_cmp_total, object_cmp_total, replica_cmp_total, triple_cmp_total, entry_cmp_total, resource_cmp_total, orphan_cmp_total}
use Rattle.grid_model.proofs.TableLemmas.{IsTable-with_row, IsTable-none, all-with_row}
use Rattle.tables_laws.proofs.Rows.{IsIn, in_from_find, IsTable-filter, all_kept, all_from_in}
use Rattle.tables_laws.proofs.Cats.{cat-users, cat-members, cat-collections, cat-objects, cat-replicas, cat-triples, cat-entries, cat-resources, cat-orphans}
use Rattle.tables_laws.proofs.OwnNames.{HasOwnNames, names-empty, names-user, names-resource}
use Rattle.tables_laws.proofs.Forest.{IsForest, forest-same, forest-with_collection, forest-without_collection, forest-with_object, forest-without_object, with_collection, without_collection, with_object, without_object, asks_object, asks_collection}
use Rattle.tables_laws.proofs.Trees.{tree_from_forest}
use Rattle.tables_laws.proofs.Ties.{all-mapped, tied-user, tied-resource, tied-with_collection, tied-without_collection, tied-with_object, tied-without_object}

pub record IsSound (c : Cat) : Type 0 where
  pub cat : IsCat c
  pub forest : IsForest c
  pub tied : Stands c
  pub vaults : IsVaulted c
  -- without a zone there are no stores
  pub unzoned : is_none c.zone ≡ true → c.stores ≡ 0
  pub names : HasOwnNames c.users c.resources

pub sound-empty : IsSound empty_cat
sound-empty = record {
  cat = record {
    users = IsTable-none user_cmp is_named_user [] refl;
    members = IsTable-none member_cmp (λ _. true) [] refl;
    collections = IsTable-none collection_cmp is_named_collection [] refl;
    objects = IsTable-none object_cmp is_named_object [] refl;
    replicas = IsTable-none replica_cmp (λ _. true) [] refl;
    triples = IsTable-none triple_cmp (λ _. true) [] refl;
    entries = IsTable-none entry_cmp (λ _. true) [] refl;
    resources = IsTable-none resource_cmp is_named_resource [] refl;
    orphans = IsTable-none orphan_cmp (λ _. true) [] refl;
  };
  forest = record {
    parents = λ r here not_root. absurd here;
    placed = λ r here. absurd here;
    collections = λ r s here there. absurd here;
    objects = λ o p here there. absurd here;
    mixed = λ r o here there. absurd here;
    housed = λ o here. absurd here;
  };
  tied = record { members = tt; replicas = tt; triples = tt; entries = tt; resources = tt; pending = λ p e. absurd cc };
  vaults = vaults-empty 1 0;
  unzoned = λ e. refl;
  names = names-empty;
}

-- ---- what the tests ask of a new row

-- a collection with an id that is not 0 has a name
collection_named : (c : Cat) (r : CollectionRow) → (r.id == 0) ≡ false → collection_fits c r ≡ true → is_name r.name ≡ true
collection_named c r e fits = (asks_collection c r (eqb-false r.id 0 e) fits).named

resource_named : (c : Cat) (r : ResourceRow) → resource_fits c r ≡ true → is_name r.name ≡ true
resource_named c r fits =
    let a = and_parts _ (parent_fits c r) fits in
    let b = and_parts _ (slot_fits c r.kind r.slot) a.0 in
    let d = and_parts _ _ b.0 in
    let f = and_parts (nat_lt 0 r.id && is_name r.name) _ d.0 in
    (and_parts (nat_lt 0 r.id) (is_name r.name) f.0).1

replica_stands : (c : Cat) (r : ReplicaRow) → replica_fits c r ≡ true → ReplicaStands c r
replica_stands c r fits =
    let a = and_parts _ _ fits in
    let b = and_parts _ (is_drawn c r.vault) a.0 in
    let d = and_parts (has_object c r.object && is_leaf c r.leaf) _ b.0 in
    let f = and_parts (has_object c r.object) (is_leaf c r.leaf) d.0 in
    let g = and_parts (nat_lt 0 r.vault && nat_lt r.vault c.numbers.next_vault) _ b.1 in
    let h = and_parts (nat_lt 0 r.vault) (nat_lt r.vault c.numbers.next_vault) g.0 in
    (f.0, f.1, ltb-true 0 r.vault h.0, ltb-true r.vault c.numbers.next_vault h.1)

pub entry_stands : (c : Cat) (x : EntryRow) → entry_fits c x ≡ true → EntryStands c x
entry_stands c x fits =
    let a = and_parts (gives_access x.kind && is_given x.level && item_there c x.kind x.id) (has_user c x.user) fits in
    let b = and_parts (gives_access x.kind && is_given x.level) (item_there c x.kind x.id) a.0 in
    (b.0, b.1, a.1)

-- ---- one delta at a time

module _ (c : Cat) (s : IsSound c) where
  -- a slot that fits without a zone fits with one
  sound-zone : (name : Text) (stores : ℕ) → zone_fits c name stores ≡ true → IsSound (record c { zone = Some name; stores = stores })
  sound-zone name stores fits = record {
    cat = record {
      users = s.cat.users;
      members = s.cat.members;
      collections = s.cat.collections;
      objects = s.cat.objects;
      replicas = s.cat.replicas;
      triples = s.cat.triples;
      entries = s.cat.entries;
      resources = s.cat.resources;
      orphans = s.cat.orphans;
    };
    forest = forest-same c (record c { zone = Some name; stores = stores }) refl refl s.forest;
    tied = record {
      members = s.tied.members;
      replicas = s.tied.replicas;
      triples = s.tied.triples;
      entries = s.tied.entries;
      resources = all-mapped (ResourceStands c) (ResourceStands (record c { zone = Some name; stores = stores })) c.resources
          (λ r here stands. (slot (is_storage r.kind) r.slot stands.0, stands.1)) s.tied.resources;
      pending = s.tied.pending;
    };
    vaults = vaults-stores c stores none s.vaults;
    unzoned = λ e. absurd cc;
    names = s.names;
  }
    where
      none : c.stores ≡ 0
      none = s.unzoned (and_parts (is_none c.zone) (is_name name) (and_parts (is_none c.zone && is_name name) (nat_lt 0 stores) (and_parts (is_none c.zone && is_name name && nat_lt 0 stores) (nat_le stores 16) fits).0).0).0

      slot : (b : Bool) (n : ℕ) → elim b [ true ↦ nat_lt n c.stores | false ↦ n == 0 ] ≡ true → elim b [ true ↦ nat_lt n stores | false ↦ n == 0 ] ≡ true
      slot true n e = absurd (let below : n < c.stores = ltb-true n c.stores e in omega (arith, none))
      slot false n e = e

  sound-user : (r : UserRow) → user_fits c r ≡ true → IsSound (record c { users = with_row user_cmp c.users r })
  sound-user r fits = record {
    cat = cat-users c s.cat (with_row user_cmp c.users r)
        (IsTable-with_row user_cmp user_cmp_total is_named_user c.users r (and_parts (is_name r.name) (not (list_any (λ u. (u.id == r.id) || same_text u.name r.name) c.users)) fits).0 s.cat.users);
    forest = forest-same c (record c { users = with_row user_cmp c.users r }) refl refl s.forest;
    tied = tied-user c r fits s.tied;
    vaults = s.vaults;
    unzoned = s.unzoned;
    names = names-user c r fits s.names;
  }

  sound-members : (rows : List MemberRow) → IsTable member_cmp (λ _. true) rows → AllByRecursion (MemberStands c) rows → IsSound (record c { members = rows })
  sound-members rows table all = record {
    cat = cat-members c s.cat rows table;
    forest = forest-same c (record c { members = rows }) refl refl s.forest;
    tied = record { members = all; replicas = s.tied.replicas; triples = s.tied.triples; entries = s.tied.entries; resources = s.tied.resources; pending = s.tied.pending };
    vaults = s.vaults;
    unzoned = s.unzoned;
    names = s.names;
  }

  pub sound-with_collection : (r : CollectionRow) → collection_fits c r ≡ true → IsSound (with_collection c r)
  sound-with_collection r fits = record {
    cat = cat-collections c s.cat (with_row collection_cmp c.collections r)
        (IsTable-with_row collection_cmp collection_cmp_total is_named_collection c.collections r (named (r.id == 0) refl) s.cat.collections);
    forest = forest-with_collection c s.forest s.cat.collections.ordered r fits;
    tied = tied-with_collection c r s.tied;
    vaults = s.vaults;
    unzoned = s.unzoned;
    names = s.names;
  }
    where
      named : (b : Bool) → (r.id == 0) ≡ b → (b || is_name r.name) ≡ true
      named true e = refl
      named false e = collection_named c r e fits

  pub sound-without_collection : (id : ℕ) → may_drop_collection c id ≡ true → IsSound (without_collection c id)
  sound-without_collection id fits = record {
    cat = cat-collections c s.cat (filter (λ r. not (r.id == id)) c.collections) (IsTable-filter collection_cmp is_named_collection (λ r. not (r.id == id)) c.collections s.cat.collections);
    forest = forest-without_collection c s.forest s.cat.collections.ordered id fits;
    tied = tied-without_collection c id fits s.tied;
    vaults = s.vaults;
    unzoned = s.unzoned;
    names = s.names;
  }

  pub sound-with_object : (r : ObjectRow) → object_fits c r ≡ true → IsSound (with_object c r)
  sound-with_object r fits = record {
    cat = cat-objects c s.cat (with_row object_cmp c.objects r) (IsTable-with_row object_cmp object_cmp_total is_named_object c.objects r (asks_object c r fits).named s.cat.objects);
    forest = forest-with_object c s.forest s.cat.objects.ordered r fits;
    tied = tied-with_object c r s.tied;
    vaults = s.vaults;
    unzoned = s.unzoned;
    names = s.names;
  }

  sound-without_object : (id : ℕ) → may_drop_object c id ≡ true → IsSound (without_object c id)
  sound-without_object id fits = record {
    cat = cat-objects c s.cat (filter (λ r. not (r.id == id)) c.objects) (IsTable-filter object_cmp is_named_object (λ r. not (r.id == id)) c.objects s.cat.objects);
    forest = forest-without_object c s.forest s.cat.objects.ordered id;
    tied = tied-without_object c id fits s.tied;
    vaults = s.vaults;
    unzoned = s.unzoned;
    names = s.names;
  }

  sound-replicas : (rows : List ReplicaRow) → IsTable replica_cmp (λ _. true) rows → AllByRecursion (ReplicaStands c) rows → HasOwnVaults rows c.orphans c.numbers.next_vault c.stores → IsSound (record c { replicas = rows })
  sound-replicas rows table all own = record {
    cat = cat-replicas c s.cat rows table;
    forest = forest-same c (record c { replicas = rows }) refl refl s.forest;
    tied = record { members = s.tied.members; replicas = all; triples = s.tied.triples; entries = s.tied.entries; resources = s.tied.resources; pending = s.tied.pending };
    vaults = own;
    unzoned = s.unzoned;
    names = s.names;
  }

  sound-triples : (rows : List TripleRow) → IsTable triple_cmp (λ _. true) rows → AllByRecursion (TripleStands c) rows → IsSound (record c { triples = rows })
  sound-triples rows table all = record {
    cat = cat-triples c s.cat rows table;
    forest = forest-same c (record c { triples = rows }) refl refl s.forest;
    tied = record { members = s.tied.members; replicas = s.tied.replicas; triples = all; entries = s.tied.entries; resources = s.tied.resources; pending = s.tied.pending };
    vaults = s.vaults;
    unzoned = s.unzoned;
    names = s.names;
  }

  sound-entries : (rows : List EntryRow) → IsTable entry_cmp (λ _. true) rows → AllByRecursion (EntryStands c) rows → IsSound (record c { entries = rows })
  sound-entries rows table all = record {
    cat = cat-entries c s.cat rows table;
    forest = forest-same c (record c { entries = rows }) refl refl s.forest;
    tied = record { members = s.tied.members; replicas = s.tied.replicas; triples = s.tied.triples; entries = all; resources = s.tied.resources; pending = s.tied.pending };
    vaults = s.vaults;
    unzoned = s.unzoned;
    names = s.names;
  }

  pub sound-resource : (r : ResourceRow) → resource_fits c r ≡ true → IsSound (record c { resources = with_row resource_cmp c.resources r })
  sound-resource r fits = record {
    cat = cat-resources c s.cat (with_row resource_cmp c.resources r)
        (IsTable-with_row resource_cmp resource_cmp_total is_named_resource c.resources r (resource_named c r fits) s.cat.resources);
    forest = forest-same c (record c { resources = with_row resource_cmp c.resources r }) refl refl s.forest;
    tied = tied-resource c r fits s.tied;
    vaults = s.vaults;
    unzoned = s.unzoned;
    names = names-resource c r fits s.names;
  }

  sound-orphans : (rows : List OrphanRow) → IsTable orphan_cmp (λ _. true) rows → HasOwnVaults c.replicas rows c.numbers.next_vault c.stores → IsSound (record c { orphans = rows })
  sound-orphans rows table own = record {
    cat = cat-orphans c s.cat rows table;
    forest = forest-same c (record c { orphans = rows }) refl refl s.forest;
    tied = record { members = s.tied.members; replicas = s.tied.replicas; triples = s.tied.triples; entries = s.tied.entries; resources = s.tied.resources; pending = s.tied.pending };
    vaults = own;
    unzoned = s.unzoned;
    names = s.names;
  }

  sound-rules : (text : Text) → IsSound (record c { rules = text })
  sound-rules text = record {
    cat = record {
      users = s.cat.users;
      members = s.cat.members;
      collections = s.cat.collections;
      objects = s.cat.objects;
      replicas = s.cat.replicas;
      triples = s.cat.triples;
      entries = s.cat.entries;
      resources = s.cat.resources;
      orphans = s.cat.orphans;
    };
    forest = forest-same c (record c { rules = text }) refl refl s.forest;
    tied = record { members = s.tied.members; replicas = s.tied.replicas; triples = s.tied.triples; entries = s.tied.entries; resources = s.tied.resources; pending = s.tied.pending };
    vaults = s.vaults;
    unzoned = s.unzoned;
    names = s.names;
  }

  sound-numbers : (n : Numbers) → numbers_fit c n ≡ true → IsSound (record c { numbers = n })
  sound-numbers n fits = record {
    cat = record {
      users = s.cat.users;
      members = s.cat.members;
      collections = s.cat.collections;
      objects = s.cat.objects;
      replicas = s.cat.replicas;
      triples = s.cat.triples;
      entries = s.cat.entries;
      resources = s.cat.resources;
      orphans = s.cat.orphans;
    };
    forest = forest-same c (record c { numbers = n }) refl refl s.forest;
    tied = record {
      members = s.tied.members;
      replicas = all-mapped (ReplicaStands c) (ReplicaStands (record c { numbers = n })) c.replicas (λ x here stands. (stands.0, stands.1, stands.2, omega (arith, rises, stands.3))) s.tied.replicas;
      triples = s.tied.triples;
      entries = s.tied.entries;
      resources = s.tied.resources;
      pending = s.tied.pending;
    };
    vaults = vaults-drawn c n.next_vault rises s.vaults;
    unzoned = s.unzoned;
    names = s.names;
  }
    where
      rises : c.numbers.next_vault ≤ n.next_vault
      rises = leb-true c.numbers.next_vault n.next_vault (and_parts (nat_lt 0 n.next_vault) (nat_le c.numbers.next_vault n.next_vault) fits).1

  sound-pending : (p : Option Pending) → ((q : Pending) → p ≡ Some q → is_user c q.user ≡ true) → IsSound (record c { pending = p })
  sound-pending p user = record {
    cat = record {
      users = s.cat.users;
      members = s.cat.members;
      collections = s.cat.collections;
      objects = s.cat.objects;
      replicas = s.cat.replicas;
      triples = s.cat.triples;
      entries = s.cat.entries;
      resources = s.cat.resources;
      orphans = s.cat.orphans;
    };
    forest = forest-same c (record c { pending = p }) refl refl s.forest;
    tied = record { members = s.tied.members; replicas = s.tied.replicas; triples = s.tied.triples; entries = s.tied.entries; resources = s.tied.resources; pending = user };
    vaults = s.vaults;
    unzoned = s.unzoned;
    names = s.names;
  }

-- ---- all deltas

pub fits_so : (b : Bool) (cause : ℕ) (next d : Cat) → where_fits b cause next ≡ Ok d → (b ≡ true) × (next ≡ d)
fits_so true cause next d e = (refl, cc)
fits_so false cause next d e = absurd cc

pub ok-same : (a b : Cat) (r : Result Cat ℕ) → r ≡ Ok a → r ≡ Ok b → a ≡ b
ok-same a b r e g = cc

-- where the test says so, the next catalogue is sound
then_sound : (b : Bool) (cause : ℕ) (next d : Cat) → (b ≡ true → IsSound next) → where_fits b cause next ≡ Ok d → IsSound d
then_sound b cause next d sound e = let so = fits_so b cause next d e in subst IsSound so.1 (sound so.0)

pub sound-apply : (c d : Cat) (change : Delta) → IsSound c → apply c change ≡ Ok d → IsSound d
sound-apply c d (delta.Zone name stores) s e = then_sound _ 1 _ d (sound-zone c s name stores) e
sound-apply c d (delta.User r) s e = then_sound _ 2 _ d (sound-user c s r) e
sound-apply c d (delta.Member m) s e = then_sound _ 3 _ d (λ fits. sound-members c s (with_row member_cmp c.members m)
    (IsTable-with_row member_cmp member_cmp_total (λ _. true) c.members m refl s.cat.members)
    (all-with_row member_cmp (MemberStands c) c.members m s.tied.members (and_parts (can_join c m) (not (is_member c m.group m.user)) fits).0)) e
sound-apply c d (delta.NoMember m) s e = then_sound _ 4 _ d (λ fits. sound-members c s (filter (λ o. not ((o.group == m.group) && (o.user == m.user))) c.members)
    (IsTable-filter member_cmp (λ _. true) (λ o. not ((o.group == m.group) && (o.user == m.user))) c.members s.cat.members)
    (all_kept (MemberStands c) (λ o. not ((o.group == m.group) && (o.user == m.user))) c.members s.tied.members)) e
sound-apply c d (delta.Collection r) s e = then_sound _ 5 _ d (sound-with_collection c s r) e
sound-apply c d (delta.NoCollection id) s e = then_sound _ 6 _ d (sound-without_collection c s id) e
sound-apply c d (delta.Object r) s e = then_sound _ 7 _ d (sound-with_object c s r) e
sound-apply c d (delta.NoObject id) s e = then_sound _ 8 _ d (sound-without_object c s id) e
sound-apply c d (delta.Replica r) s e = then_sound _ 9 _ d (λ fits. sound-replicas c s (with_row replica_cmp c.replicas r)
    (IsTable-with_row replica_cmp replica_cmp_total (λ _. true) c.replicas r refl s.cat.replicas)
    (all-with_row replica_cmp (ReplicaStands c) c.replicas r s.tied.replicas (replica_stands c r fits))
    (vaults-replica c r fits s.vaults)) e
sound-apply c d (delta.NoReplica object number) s e = then_sound _ 10 _ d (λ fits. sound-replicas c s (filter (λ r. not (is_replica object number r)) c.replicas)
    (IsTable-filter replica_cmp (λ _. true) (λ r. not (is_replica object number r)) c.replicas s.cat.replicas)
    (all_kept (ReplicaStands c) (λ r. not (is_replica object number r)) c.replicas s.tied.replicas)
    (vaults-fewer c (λ r. not (is_replica object number r)) s.vaults)) e
sound-apply c d (delta.Triple t) s e = then_sound _ 11 _ d (λ fits. sound-triples c s (with_row triple_cmp c.triples t)
    (IsTable-with_row triple_cmp triple_cmp_total (λ _. true) c.triples t refl s.cat.triples)
    (all-with_row triple_cmp (TripleStands c) c.triples t s.tied.triples (and_parts (item_there c t.kind t.id) (not (has_triple c t)) fits).0)) e
sound-apply c d (delta.NoTriple t) s e = then_sound _ 12 _ d (λ fits. sound-triples c s (filter (λ o. not (eq_by_cmp triple_cmp o t)) c.triples)
    (IsTable-filter triple_cmp (λ _. true) (λ o. not (eq_by_cmp triple_cmp o t)) c.triples s.cat.triples)
    (all_kept (TripleStands c) (λ o. not (eq_by_cmp triple_cmp o t)) c.triples s.tied.triples)) e
sound-apply c d (delta.Entry x) s e = then_sound _ 13 _ d (λ fits. sound-entries c s (with_row entry_cmp c.entries x)
    (IsTable-with_row entry_cmp entry_cmp_total (λ _. true) c.entries x refl s.cat.entries)
    (all-with_row entry_cmp (EntryStands c) c.entries x s.tied.entries (entry_stands c x fits))) e
sound-apply c d (delta.NoEntry k id user) s e = then_sound _ 14 _ d (λ fits. sound-entries c s (filter (λ x. not (is_entry k id user x)) c.entries)
    (IsTable-filter entry_cmp (λ _. true) (λ x. not (is_entry k id user x)) c.entries s.cat.entries)
    (all_kept (EntryStands c) (λ x. not (is_entry k id user x)) c.entries s.tied.entries)) e
sound-apply c d (delta.Resource r) s e = then_sound _ 15 _ d (sound-resource c s r) e
sound-apply c d (delta.Rules text) s e = subst IsSound (ok-same _ d (apply c (delta.Rules text)) refl e) (sound-rules c s text)
sound-apply c d (delta.Orphan r) s e = then_sound _ 17 _ d (λ fits. sound-orphans c s (with_row orphan_cmp c.orphans r)
    (IsTable-with_row orphan_cmp orphan_cmp_total (λ _. true) c.orphans r refl s.cat.orphans) (vaults-orphan c r fits s.vaults)) e
sound-apply c d (delta.NoOrphan vault) s e = then_sound _ 18 _ d (λ fits. sound-orphans c s (filter (λ o. not (o.vault == vault)) c.orphans)
    (IsTable-filter orphan_cmp (λ _. true) (λ o. not (o.vault == vault)) c.orphans s.cat.orphans) (vaults-fewer_orphans c (λ o. not (o.vault == vault)) s.vaults)) e
sound-apply c d (delta.Numbers n) s e = then_sound _ 19 _ d (sound-numbers c s n) e
sound-apply c d (delta.Pending p) s e = then_sound _ 20 _ d (λ fits. sound-pending c s (Some p) (λ q is. let same : p ≡ q = cc in subst (λ (x : Pending). is_user c x.user ≡ true) same fits)) e
sound-apply c d delta.NoPending s e = then_sound _ 21 _ d (λ fits. sound-pending c s None (λ q is. absurd cc)) e

-- the catalogue between the first delta and the others
pub after_first : (r : Result Cat ℕ) (changes : List Delta) (d : Cat) → elim r as (λ _. Result Cat ℕ) [ Ok n ↦ apply_all n changes | Err cause ↦ Err cause ] ≡ Ok d
    → (n : Cat) × (r ≡ Ok n) × (apply_all n changes ≡ Ok d)
after_first (Ok n) changes d e = (n, refl, e)
after_first (Err cause) changes d e = absurd cc

pub sound-apply_all : (changes : List Delta) (c d : Cat) → IsSound c → apply_all c changes ≡ Ok d → IsSound d
sound-apply_all [] c d s e = subst IsSound (ok-same c d (apply_all c []) refl e) s
sound-apply_all (change ∷ changes) c d s e =
    let step = after_first (apply c change) changes d e in
    sound-apply_all changes step.0 d (sound-apply c step.0 change s step.1) step.2

-- so of each catalogue that deltas make
pub sound-made : (changes : List Delta) (c : Cat) → apply_all empty_cat changes ≡ Ok c → IsSound c
sound-made changes c e = sound-apply_all changes empty_cat c sound-empty e

pub tree-made : (changes : List Delta) (c : Cat) → apply_all empty_cat changes ≡ Ok c → IsTree c
tree-made changes c e = let s = sound-made changes c e in tree_from_forest c s.forest s.cat.collections.ordered s.cat.objects.ordered

tied_from_sound : (c : Cat) → IsSound c → IsTied c
tied_from_sound c s = record {
  members = s.tied.members;
  replicas = all-mapped (ReplicaStands c) (λ r. replica_fits c r ≡ true) c.replicas (λ r here stands. fits-again c r here stands s.vaults) s.tied.replicas;
  triples = s.tied.triples;
  entries = all-mapped (EntryStands c) (λ e. entry_fits c e ≡ true) c.entries (λ e here stands. and_from _ _ (and_from _ _ stands.0 stands.1) stands.2) s.tied.entries;
  resources = s.tied.resources;
  orphans = all_from_in (OrphanStands c) c.orphans (λ o here. let its = s.vaults.orphans o here in (its.0, its.1, orphan_free c o here s.vaults, its.2));
  user_names = λ a b u v a_is b_is same. let x = of_number (λ (z : UserRow). z.id) c.users a u a_is in let y = of_number (λ (z : UserRow). z.id) c.users b v b_is in
      sym x.1 ∙ s.names.users_apart u v x.0 y.0 same ∙ y.1;
  resource_names = λ a b q r a_is b_is same. let x = of_number (λ (z : ResourceRow). z.id) c.resources a q a_is in let y = of_number (λ (z : ResourceRow). z.id) c.resources b r b_is in
      sym x.1 ∙ s.names.resources_apart q r x.0 y.0 same ∙ y.1;
  pending = s.tied.pending;
}
  where
    of_number : {X : Type 0} (number : X → ℕ) (rows : List X) (id : ℕ) (x : X) → find (λ r. number r == id) rows ≡ Some x → IsIn rows x × (number x ≡ id)
    of_number number rows id x e = let found = in_from_find (λ r. number r == id) rows x e in (found.0, eqb-true (number x) id found.1)

pub ties-made : (changes : List Delta) (c : Cat) → apply_all empty_cat changes ≡ Ok c → IsTied c
ties-made changes c e = tied_from_sound c (sound-made changes c e)
