-- What each row of a catalogue speaks of: the part of what it asks that later rows could take away.
use Rattle.std.specs.Prelude.{◌≡◌, ◌<◌, ◌==◌, ◌&&◌, ◌||◌, IsTrue, Some}
use Rattle.std.specs.List.{AllByRecursion}
use Rattle.grid_model.specs.Rows.{Cat, has_object, has_user, item_there}
use Rattle.grid_model.specs.Applying.{gives_access, is_given, can_join, is_leaf, is_user, is_node, slot_fits}
use Rattle.grid_model.specs.declared.deltas.MemberRow.{MemberRow}
use Rattle.grid_model.specs.declared.deltas.ReplicaRow.{ReplicaRow}
use Rattle.grid_model.specs.declared.deltas.TripleRow.{TripleRow}
use Rattle.grid_model.specs.declared.deltas.EntryRow.{EntryRow}
use Rattle.grid_model.specs.declared.deltas.ResourceRow.{ResourceRow}
use Rattle.grid_model.specs.declared.deltas.Pending.{Pending}

abbrev pub MemberStands : Cat → MemberRow → Type 0
MemberStands c m = IsTrue (can_join c m)

-- its vault number was drawn
abbrev pub ReplicaStands : Cat → ReplicaRow → Type 0
ReplicaStands c r = IsTrue (has_object c r.object) × IsTrue (is_leaf c r.leaf) × (0 < r.vault) × (r.vault < c.numbers.next_vault)

abbrev pub TripleStands : Cat → TripleRow → Type 0
TripleStands c t = IsTrue (item_there c t.kind t.id)

abbrev pub EntryStands : Cat → EntryRow → Type 0
EntryStands c e = IsTrue (gives_access e.kind && is_given e.level) × IsTrue (item_there c e.kind e.id) × IsTrue (has_user c e.user)

abbrev pub ResourceStands : Cat → ResourceRow → Type 0
ResourceStands c r = IsTrue (slot_fits c r.kind r.slot) × IsTrue ((r.parent == 0) || is_node c r.parent)

pub record Stands (c : Cat) : Type 0 where
  pub members : AllByRecursion (MemberStands c) c.members
  pub replicas : AllByRecursion (ReplicaStands c) c.replicas
  pub triples : AllByRecursion (TripleStands c) c.triples
  pub entries : AllByRecursion (EntryStands c) c.entries
  pub resources : AllByRecursion (ResourceStands c) c.resources
  pub pending : (p : Pending) → c.pending ≡ Some p → IsTrue (is_user c p.user)
