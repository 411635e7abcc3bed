-- Tables stay tables where one of them is another table.
use Rattle.std.proofs.Common.{true, List}
use Rattle.grid_model.specs.Rows.{Cat, IsCat, IsTable, user_cmp, member_cmp, collection_cmp, object_cmp, replica_cmp, triple_cmp, entry_cmp, resource_cmp, orphan_cmp, is_named_user, is_named_collection, is_named_object, is_named_resource}
use Rattle.grid_model.specs.declared.deltas.UserRow.{UserRow}
use Rattle.grid_model.specs.declared.deltas.MemberRow.{MemberRow}
use Rattle.grid_model.specs.declared.deltas.CollectionRow.{CollectionRow}
use Rattle.grid_model.specs.declared.deltas.ObjectRow.{ObjectRow}
use Rattle.grid_model.specs.declared.deltas.ReplicaRow.{ReplicaRow}
use Rattle.grid_model.specs.declared.deltas.TripleRow.{TripleRow}
use Rattle.grid_model.specs.declared.deltas.EntryRow.{EntryRow}
use Rattle.grid_model.specs.declared.deltas.ResourceRow.{ResourceRow}
use Rattle.grid_model.specs.declared.deltas.OrphanRow.{OrphanRow}

module _ (c : Cat) (i : IsCat c) where
  pub cat-users : (rows : List UserRow) → IsTable user_cmp is_named_user rows → IsCat (record c { users = rows })
  cat-users rows table = record { users = table; members = i.members; collections = i.collections; objects = i.objects; replicas = i.replicas; triples = i.triples; entries = i.entries; resources = i.resources; orphans = i.orphans }

  pub cat-members : (rows : List MemberRow) → IsTable member_cmp (λ _. true) rows → IsCat (record c { members = rows })
  cat-members rows table = record { users = i.users; members = table; collections = i.collections; objects = i.objects; replicas = i.replicas; triples = i.triples; entries = i.entries; resources = i.resources; orphans = i.orphans }

  pub cat-collections : (rows : List CollectionRow) → IsTable collection_cmp is_named_collection rows → IsCat (record c { collections = rows })
  cat-collections rows table = record { users = i.users; members = i.members; collections = table; objects = i.objects; replicas = i.replicas; triples = i.triples; entries = i.entries; resources = i.resources; orphans = i.orphans }

  pub cat-objects : (rows : List ObjectRow) → IsTable object_cmp is_named_object rows → IsCat (record c { objects = rows })
  cat-objects rows table = record { users = i.users; members = i.members; collections = i.collections; objects = table; replicas = i.replicas; triples = i.triples; entries = i.entries; resources = i.resources; orphans = i.orphans }

  pub cat-replicas : (rows : List ReplicaRow) → IsTable replica_cmp (λ _. true) rows → IsCat (record c { replicas = rows })
  cat-replicas rows table = record { users = i.users; members = i.members; collections = i.collections; objects = i.objects; replicas = table; triples = i.triples; entries = i.entries; resources = i.resources; orphans = i.orphans }

  pub cat-triples : (rows : List TripleRow) → IsTable triple_cmp (λ _. true) rows → IsCat (record c { triples = rows })
  cat-triples rows table = record { users = i.users; members = i.members; collections = i.collections; objects = i.objects; replicas = i.replicas; triples = table; entries = i.entries; resources = i.resources; orphans = i.orphans }

  pub cat-entries : (rows : List EntryRow) → IsTable entry_cmp (λ _. true) rows → IsCat (record c { entries = rows })
  cat-entries rows table = record { users = i.users; members = i.members; collections = i.collections; objects = i.objects; replicas = i.replicas; triples = i.triples; entries = table; resources = i.resources; orphans = i.orphans }

  pub cat-resources : (rows : List ResourceRow) → IsTable resource_cmp is_named_resource rows → IsCat (record c { resources = rows })
  cat-resources rows table = record { users = i.users; members = i.members; collections = i.collections; objects = i.objects; replicas = i.replicas; triples = i.triples; entries = i.entries; resources = table; orphans = i.orphans }

  pub cat-orphans : (rows : List OrphanRow) → IsTable orphan_cmp (λ _. true) rows → IsCat (record c { orphans = rows })
  cat-orphans rows table = record { users = i.users; members = i.members; collections = i.collections; objects = i.objects; replicas = i.replicas; triples = i.triples; entries = i.entries; resources = i.resources; orphans = table }
