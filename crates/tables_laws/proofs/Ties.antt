-- What rows speak of stays there.
use Rattle.std.proofs.Common.{◌≡◌, ◌==◌, ℕ, Bool, true, false, List, refl, sym, ap, subst, eq-eqb}
use Rattle.std.specs.Prelude.{not, ◌&&◌, ◌||◌, nat_lt}
use Rattle.std.specs.List.{list_any, AllByRecursion}
use Rattle.std.proofs.lemmas.Bool.{and_parts, and_from, not-true}
use Rattle.grid_model.specs.Rows.{Cat, has_user, has_collection, has_object, has_resource, item_there, item_number, same_item, with_row, user_cmp, resource_cmp}
use Rattle.grid_model.specs.Applying.{is_group_kind, has_group, is_user, can_join, user_fits, is_storage, is_node, same_kind, resource_fits, slot_fits, parent_fits, is_told_of, may_drop_collection, may_drop_object, is_empty_collection}
use Rattle.tables_laws.proofs.Standing.{Stands, MemberStands, ReplicaStands, TripleStands, EntryStands, ResourceStands}
use Rattle.grid_model.specs.Names.{is_name, same_text}
use Rattle.grid_model.specs.declared.grid.ItemKind.{ItemKind}
use Rattle.grid_model.specs.declared.grid.ItemKind.TheVariants as kind
use Rattle.grid_model.specs.declared.grid.ResourceKind.{ResourceKind}
use Rattle.grid_model.specs.declared.grid.ResourceKind.TheVariants.{Storage, Passthru, Random, Replication}
use Rattle.grid_model.specs.declared.deltas.UserRow.{UserRow}
use Rattle.grid_model.specs.declared.deltas.MemberRow.{MemberRow}
use Rattle.grid_model.specs.declared.deltas.ReplicaRow.{ReplicaRow}
use Rattle.grid_model.specs.declared.deltas.TripleRow.{TripleRow}
use Rattle.grid_model.specs.declared.deltas.EntryRow.{EntryRow}
use Rattle.grid_model.specs.declared.deltas.ResourceRow.{ResourceRow}
use Rattle.tables_laws.proofs.Rows.{IsIn, in_from_any, any_from_in, in_from_all, all_from_in, any_with_row}
use Rattle.tables_laws.proofs.Numbered.{same_number, put_has, dropped_has}
use Rattle.grid_model.specs.declared.deltas.CollectionRow.{CollectionRow}
use Rattle.grid_model.specs.declared.deltas.ObjectRow.{ObjectRow}
use Rattle.grid_model.proofs.TableLemmas.{all-with_row}
use Rattle.tables_laws.proofs.Forest.{none_in, with_collection, without_collection, with_object, without_object}

pub all-mapped : {X : Type 0} (P Q : X → Type 0) (rows : List X) → ((x : X) → IsIn rows x → P x → Q x) → AllByRecursion P rows → AllByRecursion Q rows
all-mapped P Q rows f all = all_from_in Q rows (λ x here. f x here (in_from_all P rows all x here))

-- items stay where each kind of them does
pub items_stay : (c d : Cat) → ((j : ℕ) → has_object c j ≡ true → has_object d j ≡ true) → ((j : ℕ) → has_collection c j ≡ true → has_collection d j ≡ true)
    → ((j : ℕ) → has_resource c j ≡ true → has_resource d j ≡ true) → ((j : ℕ) → has_user c j ≡ true → has_user d j ≡ true)
    → (k : ItemKind) (j : ℕ) → item_there c k j ≡ true → item_there d k j ≡ true
items_stay c d objects collections resources users kind.Object j e = objects j e
items_stay c d objects collections resources users kind.Collection j e = collections j e
items_stay c d objects collections resources users kind.Resource j e = resources j e
items_stay c d objects collections resources users kind.User j e = users j e

-- ---- a new user

module _ (c : Cat) (r : UserRow) (fits : user_fits c r ≡ true) where
  abbrev with_user : Cat
  with_user = record c { users = with_row user_cmp c.users r }

  pub not_taken : (u : UserRow) → IsIn c.users u → u.id ≡ r.id → ⊥
  not_taken u here is =
      none_in (λ x. (x.id == r.id) || same_text x.name r.name) c.users
      (not-true _ (and_parts (is_name r.name) (not (list_any (λ x. (x.id == r.id) || same_text x.name r.name) c.users)) fits).1) u here
      (let same : (u.id == r.id) ≡ true = eq-eqb u.id r.id is in rw same refl)

  user_stays : (p : UserRow → Bool) → list_any p c.users ≡ true → list_any p with_user.users ≡ true
  user_stays p e = any_with_row user_cmp p c.users r e (λ u here equal passes. absurd (not_taken u here (sym (same_number r.id u.id equal))))

  pub tied-user : Stands c → Stands with_user
  tied-user t = record {
    members = all-mapped (MemberStands c) (MemberStands with_user) c.members (λ m here stands. joins m stands) t.members;
    replicas = t.replicas;
    triples = all-mapped (TripleStands c) (TripleStands with_user) c.triples (λ x here stands. items x.kind x.id stands) t.triples;
    entries = all-mapped (EntryStands c) (EntryStands with_user) c.entries (λ x here stands. (stands.0, items x.kind x.id stands.1, user_stays (λ u. u.id == x.user) stands.2)) t.entries;
    resources = t.resources;
    pending = λ p is. user_stays (λ u. (u.id == p.user) && not (is_group_kind u.kind)) (t.pending p is);
  }
    where
      joins : (m : MemberRow) → can_join c m ≡ true → can_join with_user m ≡ true
      joins m e =
          let parts = and_parts (has_group c m.group) (is_user c m.user) e in
          and_from (has_group with_user m.group) (is_user with_user m.user)
          (user_stays (λ u. (u.id == m.group) && is_group_kind u.kind) parts.0) (user_stays (λ u. (u.id == m.user) && not (is_group_kind u.kind)) parts.1)

      items : (k : ItemKind) (j : ℕ) → item_there c k j ≡ true → item_there with_user k j ≡ true
      items = items_stay c with_user (λ j e. e) (λ j e. e) (λ j e. e) (λ j e. user_stays (λ u. u.id == j) e)

-- ---- a resource

kind-is : (a b : ResourceKind) → same_kind a b ≡ true → a ≡ b
kind-is Storage Storage e = refl
kind-is Storage Passthru e = absurd cc
kind-is Storage Random e = absurd cc
kind-is Storage Replication e = absurd cc
kind-is Passthru Storage e = absurd cc
kind-is Passthru Passthru e = refl
kind-is Passthru Random e = absurd cc
kind-is Passthru Replication e = absurd cc
kind-is Random Storage e = absurd cc
kind-is Random Passthru e = absurd cc
kind-is Random Random e = refl
kind-is Random Replication e = absurd cc
kind-is Replication Storage e = absurd cc
kind-is Replication Passthru e = absurd cc
kind-is Replication Random e = absurd cc
kind-is Replication Replication e = refl

module _ (c : Cat) (r : ResourceRow) (fits : resource_fits c r ≡ true) where
  abbrev with_resource : Cat
  with_resource = record c { resources = with_row resource_cmp c.resources r }

  abbrev named_apart : Bool
  named_apart = not (list_any (λ o. not (o.id == r.id) && same_text o.name r.name) c.resources)

  abbrev kinds_same : Bool
  kinds_same = not (list_any (λ o. (o.id == r.id) && not (same_kind o.kind r.kind)) c.resources)

  pub its_parent : parent_fits c r ≡ true
  its_parent = (and_parts (nat_lt 0 r.id && is_name r.name && named_apart && kinds_same && slot_fits c r.kind r.slot) (parent_fits c r) fits).1

  front : (nat_lt 0 r.id && is_name r.name && named_apart && kinds_same && slot_fits c r.kind r.slot) ≡ true
  front = (and_parts (nat_lt 0 r.id && is_name r.name && named_apart && kinds_same && slot_fits c r.kind r.slot) (parent_fits c r) fits).0

  its_slot : slot_fits c r.kind r.slot ≡ true
  its_slot = (and_parts (nat_lt 0 r.id && is_name r.name && named_apart && kinds_same) (slot_fits c r.kind r.slot) front).1

  its_kind : kinds_same ≡ true
  its_kind = (and_parts (nat_lt 0 r.id && is_name r.name && named_apart) kinds_same (and_parts (nat_lt 0 r.id && is_name r.name && named_apart && kinds_same) (slot_fits c r.kind r.slot) front).0).1

  -- the row that it replaces has its kind
  pub replaced : (o : ResourceRow) → IsIn c.resources o → o.id ≡ r.id → o.kind ≡ r.kind
  replaced o here is = told (same_kind o.kind r.kind) refl
    where
      told : (b : Bool) → same_kind o.kind r.kind ≡ b → o.kind ≡ r.kind
      told true e = kind-is o.kind r.kind e
      told false e =
          absurd (none_in (λ x. (x.id == r.id) && not (same_kind x.kind r.kind)) c.resources (not-true _ its_kind) o here
          (let same : (o.id == r.id) ≡ true = eq-eqb o.id r.id is in rw (same, e) refl))

  kind_stays : (p : ℕ → ResourceKind → Bool) → list_any (λ o. p o.id o.kind) c.resources ≡ true → list_any (λ o. p o.id o.kind) with_resource.resources ≡ true
  kind_stays p e = any_with_row resource_cmp (λ o. p o.id o.kind) c.resources r e (λ o here equal passes.
      let id_same : o.id ≡ r.id = sym (same_number r.id o.id equal) in
      let kind_same : o.kind ≡ r.kind = replaced o here id_same in
      subst (λ k. p r.id k ≡ true) kind_same (subst (λ i. p i o.kind ≡ true) id_same passes))

  node_stays : (id : ℕ) → is_node c id ≡ true → is_node with_resource id ≡ true
  node_stays id e = kind_stays (λ i k. (i == id) && not (is_storage k)) e

  pub stands_again : (x : ResourceRow) → ResourceStands c x → ResourceStands with_resource x
  stands_again x stands = (stands.0, above (x.parent == 0) stands.1)
    where
      above : (b : Bool) → (b || is_node c x.parent) ≡ true → (b || is_node with_resource x.parent) ≡ true
      above true e = refl
      above false e = node_stays x.parent e

  pub new_stands : ResourceStands c r
  new_stands = (its_slot, above (r.parent == 0) refl)
    where
      above : (b : Bool) → (r.parent == 0) ≡ b → (b || is_node c r.parent) ≡ true
      above true e = refl
      above false e =
          let parts : (is_node c r.parent && _ && _) ≡ true = rw (e, parent_fits) at its_parent in
          (and_parts (is_node c r.parent) _ (and_parts (is_node c r.parent && _) _ parts).0).0

  pub tied-resource : Stands c → Stands with_resource
  tied-resource t = record {
    members = t.members;
    replicas = all-mapped (ReplicaStands c) (ReplicaStands with_resource) c.replicas
        (λ x here stands. (stands.0, kind_stays (λ i k. (i == x.leaf) && is_storage k) stands.1, stands.2, stands.3)) t.replicas;
    triples = all-mapped (TripleStands c) (TripleStands with_resource) c.triples (λ x here stands. items x.kind x.id stands) t.triples;
    entries = all-mapped (EntryStands c) (EntryStands with_resource) c.entries (λ x here stands. (stands.0, items x.kind x.id stands.1, stands.2)) t.entries;
    resources = all-mapped (ResourceStands c) (ResourceStands with_resource) (with_row resource_cmp c.resources r) (λ x here stands. stands_again x stands)
        (all-with_row resource_cmp (ResourceStands c) c.resources r t.resources new_stands);
    pending = t.pending;
  }
    where
      items : (k : ItemKind) (j : ℕ) → item_there c k j ≡ true → item_there with_resource k j ≡ true
      items = items_stay c with_resource (λ j e. e) (λ j e. e) (λ j e. kind_stays (λ i k. i == j) e) (λ j e. e)

-- ---- collections and objects

pub tied-with_collection : (c : Cat) (r : CollectionRow) → Stands c → Stands (with_collection c r)
tied-with_collection c r t = record {
  members = t.members;
  replicas = t.replicas;
  triples = all-mapped (TripleStands c) (TripleStands (with_collection c r)) c.triples (λ x here stands. items x.kind x.id stands) t.triples;
  entries = all-mapped (EntryStands c) (EntryStands (with_collection c r)) c.entries (λ x here stands. (stands.0, items x.kind x.id stands.1, stands.2)) t.entries;
  resources = t.resources;
  pending = t.pending;
}
  where
    items : (k : ItemKind) (j : ℕ) → item_there c k j ≡ true → item_there (with_collection c r) k j ≡ true
    items = items_stay c (with_collection c r) (λ j e. e) (λ j e. put_has (λ (x : CollectionRow). x.id) c.collections r j e) (λ j e. e) (λ j e. e)

pub tied-with_object : (c : Cat) (r : ObjectRow) → Stands c → Stands (with_object c r)
tied-with_object c r t = record {
  members = t.members;
  replicas = all-mapped (ReplicaStands c) (ReplicaStands (with_object c r)) c.replicas (λ x here stands. (stays x.object stands.0, stands.1, stands.2, stands.3)) t.replicas;
  triples = all-mapped (TripleStands c) (TripleStands (with_object c r)) c.triples (λ x here stands. items x.kind x.id stands) t.triples;
  entries = all-mapped (EntryStands c) (EntryStands (with_object c r)) c.entries (λ x here stands. (stands.0, items x.kind x.id stands.1, stands.2)) t.entries;
  resources = t.resources;
  pending = t.pending;
}
  where
    stays : (j : ℕ) → has_object c j ≡ true → has_object (with_object c r) j ≡ true
    stays j e = put_has (λ (x : ObjectRow). x.id) c.objects r j e

    items : (k : ItemKind) (j : ℕ) → item_there c k j ≡ true → item_there (with_object c r) k j ≡ true
    items = items_stay c (with_object c r) (λ j e. put_has (λ (x : ObjectRow). x.id) c.objects r j e) (λ j e. e) (λ j e. e) (λ j e. e)

-- an item of which nothing is said goes, and all others stay
or_none : (a b : Bool) → (a || b) ≡ false → (a ≡ false) × (b ≡ false)
or_none true b e = absurd cc
or_none false b e = (refl, e)

same_item_so : (k : ItemKind) (id : ℕ) (l : ItemKind) (j : ℕ) → k ≡ l → id ≡ j → same_item k id l j ≡ true
same_item_so k id l j kinds ids = and_from (item_number k == item_number l) (id == j) (eq-eqb (item_number k) (item_number l) (ap item_number kinds)) (eq-eqb id j ids)

module _ (c : Cat) (gone : ItemKind) (id : ℕ) (untold : is_told_of c gone id ≡ false) where
  pub triple_apart : (x : TripleRow) → IsIn c.triples x → x.kind ≡ gone → x.id ≡ id → ⊥
  triple_apart x here kinds ids =
      none_in (λ t. same_item t.kind t.id gone id) c.triples
      (or_none (list_any (λ t. same_item t.kind t.id gone id) c.triples) (list_any (λ e. same_item e.kind e.id gone id) c.entries) untold).0 x here (same_item_so x.kind x.id gone id kinds ids)

  pub entry_apart : (x : EntryRow) → IsIn c.entries x → x.kind ≡ gone → x.id ≡ id → ⊥
  entry_apart x here kinds ids =
      none_in (λ e. same_item e.kind e.id gone id) c.entries
      (or_none (list_any (λ t. same_item t.kind t.id gone id) c.triples) (list_any (λ e. same_item e.kind e.id gone id) c.entries) untold).1 x here (same_item_so x.kind x.id gone id kinds ids)

collection_gone : (c : Cat) (id : ℕ) (k : ItemKind) (j : ℕ) → (k ≡ kind.Collection → j ≡ id → ⊥) → item_there c k j ≡ true → item_there (without_collection c id) k j ≡ true
collection_gone c id kind.Object j apart e = e
collection_gone c id kind.Collection j apart e = dropped_has (λ (x : CollectionRow). x.id) c.collections id j (λ is. apart refl is) e
collection_gone c id kind.Resource j apart e = e
collection_gone c id kind.User j apart e = e

pub tied-without_collection : (c : Cat) (id : ℕ) → may_drop_collection c id ≡ true → Stands c → Stands (without_collection c id)
tied-without_collection c id fits t = record {
  members = t.members;
  replicas = t.replicas;
  triples = all-mapped (TripleStands c) (TripleStands (without_collection c id)) c.triples (λ x here stands. collection_gone c id x.kind x.id (triple_apart c kind.Collection id untold x here) stands) t.triples;
  entries = all-mapped (EntryStands c) (EntryStands (without_collection c id)) c.entries
      (λ x here stands. (stands.0, collection_gone c id x.kind x.id (entry_apart c kind.Collection id untold x here) stands.1, stands.2)) t.entries;
  resources = t.resources;
  pending = t.pending;
}
  where
    untold : is_told_of c kind.Collection id ≡ false
    untold = not-true _ (and_parts (has_collection c id && is_empty_collection c id) (not (is_told_of c kind.Collection id)) fits).1

object_gone : (c : Cat) (id : ℕ) (k : ItemKind) (j : ℕ) → (k ≡ kind.Object → j ≡ id → ⊥) → item_there c k j ≡ true → item_there (without_object c id) k j ≡ true
object_gone c id kind.Object j apart e = dropped_has (λ (x : ObjectRow). x.id) c.objects id j (λ is. apart refl is) e
object_gone c id kind.Collection j apart e = e
object_gone c id kind.Resource j apart e = e
object_gone c id kind.User j apart e = e

pub tied-without_object : (c : Cat) (id : ℕ) → may_drop_object c id ≡ true → Stands c → Stands (without_object c id)
tied-without_object c id fits t = record {
  members = t.members;
  replicas = all-mapped (ReplicaStands c) (ReplicaStands (without_object c id)) c.replicas
      (λ x here stands. (object_gone c id kind.Object x.object (λ _ is. no_replica x here is) stands.0, stands.1, stands.2, stands.3)) t.replicas;
  triples = all-mapped (TripleStands c) (TripleStands (without_object c id)) c.triples (λ x here stands. object_gone c id x.kind x.id (triple_apart c kind.Object id untold x here) stands) t.triples;
  entries = all-mapped (EntryStands c) (EntryStands (without_object c id)) c.entries
      (λ x here stands. (stands.0, object_gone c id x.kind x.id (entry_apart c kind.Object id untold x here) stands.1, stands.2)) t.entries;
  resources = t.resources;
  pending = t.pending;
}
  where
    untold : is_told_of c kind.Object id ≡ false
    untold = not-true _ (and_parts (has_object c id && not (list_any (λ r. r.object == id) c.replicas)) (not (is_told_of c kind.Object id)) fits).1

    no_replica : (x : ReplicaRow) → IsIn c.replicas x → x.object ≡ id → ⊥
    no_replica x here is =
        none_in (λ r. r.object == id) c.replicas
        (not-true _ (and_parts (has_object c id) (not (list_any (λ r. r.object == id) c.replicas)) (and_parts (has_object c id && not (list_any (λ r. r.object == id) c.replicas)) (not (is_told_of c kind.Object id)) fits).0).1)
        x here (eq-eqb x.object id is)

-- ---- a group and a user are there

pub any_weaker : {X : Type 0} (p q : X → Bool) (rows : List X) → ((x : X) → p x ≡ true → q x ≡ true) → list_any p rows ≡ true → list_any q rows ≡ true
any_weaker p q rows so e = let found = in_from_any p rows e in any_from_in q rows found.0 found.1 (so found.0 found.2)

pub members_there : (c : Cat) (m : MemberRow) → can_join c m ≡ true → (has_user c m.group ≡ true) × (has_user c m.user ≡ true)
members_there c m e =
    let parts = and_parts (has_group c m.group) (is_user c m.user) e in (
      any_weaker (λ u. (u.id == m.group) && is_group_kind u.kind) (λ u. u.id == m.group) c.users (λ u passes. (and_parts (u.id == m.group) (is_group_kind u.kind) passes).0) parts.0,
      any_weaker (λ u. (u.id == m.user) && not (is_group_kind u.kind)) (λ u. u.id == m.user) c.users (λ u passes. (and_parts (u.id == m.user) (not (is_group_kind u.kind)) passes).0) parts.1,
    )
