-- The readers of changes, each behind its tag.
use Rattle.std.proofs.Common.{◌≡◌, ℕ, true, List, ◌∷◌, ◌++◌, Ok, refl, ap, subst}
use Rattle.grid_model.specs.Names.{Text}
use Rattle.grid_model.specs.Deltas.{Part, all_fit, joined, code, parts_of, delta_fits, spelling}
use Rattle.grid_model.specs.declared.grid.ItemKind.{ItemKind}
use Rattle.grid_model.specs.declared.deltas.UserRow.{UserRow}
use Rattle.grid_model.specs.declared.deltas.MemberRow.{MemberRow}
use Rattle.grid_model.specs.declared.deltas.CollectionRow.{CollectionRow}
use Rattle.grid_model.specs.declared.deltas.ObjectRow.{ObjectRow}
use Rattle.grid_model.specs.declared.deltas.ReplicaRow.{ReplicaRow}
use Rattle.grid_model.specs.declared.deltas.TripleRow.{TripleRow}
use Rattle.grid_model.specs.declared.deltas.EntryRow.{EntryRow}
use Rattle.grid_model.specs.declared.deltas.ResourceRow.{ResourceRow}
use Rattle.grid_model.specs.declared.deltas.OrphanRow.{OrphanRow}
use Rattle.grid_model.specs.declared.deltas.Numbers.{Numbers}
use Rattle.grid_model.specs.declared.deltas.Pending.{Pending}
use Rattle.grid_model.specs.declared.deltas.Delta.{Delta}
use Rattle.grid_model.specs.declared.deltas.Delta.TheVariants as delta
use Rattle.row_codec.specs.declared.tags.Tag.{Tag}
use Rattle.row_codec.specs.declared.tags.Tag.TheVariants as tag
use Rattle.row_codec.specs.Codes.{tag_number}
use Rattle.row_codec.specs.Rows.{body_of, delta_at}
use Rattle.row_codec.specs.Tagged.{tag_of, body}
use Rattle.row_codec.proofs.ReaderLaws.{Law, Law-refit, IsRow, Any, IsRow-then, Behind, Arm, arm, lone_arm, behind, IsRow-behind}
use Rattle.row_codec.proofs.CodeLaws.{tag_part}
use Rattle.row_codec.proofs.RowLaws.{user_is, member_is, collection_is, object_is, replica_is, triple_is, entry_is, resource_is, orphan_is, numbers_is, zone_is, no_replica_is, no_entry_is, u64_is, rules_is}
use Rattle.row_codec.proofs.CommandLaws.{pending_is}

zone_arm : Arm body_of body (λ (x : Text × ℕ). delta.Zone x.0 x.1) tag.Zone
unfolding body_of
zone_arm = arm body_of body _ tag.Zone refl zone_is (λ r. refl)

user_arm : Arm body_of body (λ (x : UserRow). delta.User x) tag.User
unfolding body_of
user_arm = arm body_of body _ tag.User refl user_is (λ r. refl)

member_arm : Arm body_of body (λ (x : MemberRow). delta.Member x) tag.Member
unfolding body_of
member_arm = arm body_of body _ tag.Member refl member_is (λ r. refl)

no_member_arm : Arm body_of body (λ (x : MemberRow). delta.NoMember x) tag.NoMember
unfolding body_of
no_member_arm = arm body_of body _ tag.NoMember refl member_is (λ r. refl)

collection_arm : Arm body_of body (λ (x : CollectionRow). delta.Collection x) tag.Collection
unfolding body_of
collection_arm = arm body_of body _ tag.Collection refl collection_is (λ r. refl)

no_collection_arm : Arm body_of body (λ (x : ℕ). delta.NoCollection x) tag.NoCollection
unfolding body_of
no_collection_arm = arm body_of body _ tag.NoCollection refl u64_is (λ r. refl)

object_arm : Arm body_of body (λ (x : ObjectRow). delta.Object x) tag.Object
unfolding body_of
object_arm = arm body_of body _ tag.Object refl object_is (λ r. refl)

no_object_arm : Arm body_of body (λ (x : ℕ). delta.NoObject x) tag.NoObject
unfolding body_of
no_object_arm = arm body_of body _ tag.NoObject refl u64_is (λ r. refl)

replica_arm : Arm body_of body (λ (x : ReplicaRow). delta.Replica x) tag.Replica
unfolding body_of
replica_arm = arm body_of body _ tag.Replica refl replica_is (λ r. refl)

no_replica_arm : Arm body_of body (λ (x : ℕ × ℕ). delta.NoReplica x.0 x.1) tag.NoReplica
unfolding body_of
no_replica_arm = arm body_of body _ tag.NoReplica refl no_replica_is (λ r. refl)

triple_arm : Arm body_of body (λ (x : TripleRow). delta.Triple x) tag.Triple
unfolding body_of
triple_arm = arm body_of body _ tag.Triple refl triple_is (λ r. refl)

no_triple_arm : Arm body_of body (λ (x : TripleRow). delta.NoTriple x) tag.NoTriple
unfolding body_of
no_triple_arm = arm body_of body _ tag.NoTriple refl triple_is (λ r. refl)

entry_arm : Arm body_of body (λ (x : EntryRow). delta.Entry x) tag.Entry
unfolding body_of
entry_arm = arm body_of body _ tag.Entry refl entry_is (λ r. refl)

no_entry_arm : Arm body_of body (λ (x : ItemKind × ℕ × ℕ). delta.NoEntry x.0 x.1 x.2) tag.NoEntry
unfolding body_of
no_entry_arm = arm body_of body _ tag.NoEntry refl no_entry_is (λ r. refl)

resource_arm : Arm body_of body (λ (x : ResourceRow). delta.Resource x) tag.Resource
unfolding body_of
resource_arm = arm body_of body _ tag.Resource refl resource_is (λ r. refl)

rules_arm : Arm body_of body (λ (x : Text). delta.Rules x) tag.Rules
unfolding body_of
rules_arm = arm body_of body _ tag.Rules refl rules_is (λ r. refl)

orphan_arm : Arm body_of body (λ (x : OrphanRow). delta.Orphan x) tag.Orphan
unfolding body_of
orphan_arm = arm body_of body _ tag.Orphan refl orphan_is (λ r. refl)

no_orphan_arm : Arm body_of body (λ (x : ℕ). delta.NoOrphan x) tag.NoOrphan
unfolding body_of
no_orphan_arm = arm body_of body _ tag.NoOrphan refl u64_is (λ r. refl)

numbers_arm : Arm body_of body (λ (x : Numbers). delta.Numbers x) tag.Numbers
unfolding body_of
numbers_arm = arm body_of body _ tag.Numbers refl numbers_is (λ r. refl)

pending_arm : Arm body_of body (λ (x : Pending). delta.Pending x) tag.Pending
unfolding body_of
pending_arm = arm body_of body _ tag.Pending refl pending_is (λ r. refl)

no_pending_arm : Arm body_of body (λ (x : Unit {0}). delta.NoPending) tag.NoPending
unfolding body_of
no_pending_arm = lone_arm body_of body delta.NoPending tag.NoPending refl refl

behind_tag : (t : Tag) → Behind body_of tag_of body t
behind_tag tag.Zone = behind body_of tag_of body _ tag.Zone zone_arm (λ r. refl)
behind_tag tag.User = behind body_of tag_of body _ tag.User user_arm (λ r. refl)
behind_tag tag.Member = behind body_of tag_of body _ tag.Member member_arm (λ r. refl)
behind_tag tag.NoMember = behind body_of tag_of body _ tag.NoMember no_member_arm (λ r. refl)
behind_tag tag.Collection = behind body_of tag_of body _ tag.Collection collection_arm (λ r. refl)
behind_tag tag.NoCollection = behind body_of tag_of body _ tag.NoCollection no_collection_arm (λ r. refl)
behind_tag tag.Object = behind body_of tag_of body _ tag.Object object_arm (λ r. refl)
behind_tag tag.NoObject = behind body_of tag_of body _ tag.NoObject no_object_arm (λ r. refl)
behind_tag tag.Replica = behind body_of tag_of body _ tag.Replica replica_arm (λ r. refl)
behind_tag tag.NoReplica = behind body_of tag_of body _ tag.NoReplica no_replica_arm (λ r. refl)
behind_tag tag.Triple = behind body_of tag_of body _ tag.Triple triple_arm (λ r. refl)
behind_tag tag.NoTriple = behind body_of tag_of body _ tag.NoTriple no_triple_arm (λ r. refl)
behind_tag tag.Entry = behind body_of tag_of body _ tag.Entry entry_arm (λ r. refl)
behind_tag tag.NoEntry = behind body_of tag_of body _ tag.NoEntry no_entry_arm (λ r. refl)
behind_tag tag.Resource = behind body_of tag_of body _ tag.Resource resource_arm (λ r. refl)
behind_tag tag.Rules = behind body_of tag_of body _ tag.Rules rules_arm (λ r. refl)
behind_tag tag.Orphan = behind body_of tag_of body _ tag.Orphan orphan_arm (λ r. refl)
behind_tag tag.NoOrphan = behind body_of tag_of body _ tag.NoOrphan no_orphan_arm (λ r. refl)
behind_tag tag.Numbers = behind body_of tag_of body _ tag.Numbers numbers_arm (λ r. refl)
behind_tag tag.Pending = behind body_of tag_of body _ tag.Pending pending_arm (λ r. refl)
behind_tag tag.NoPending = behind body_of tag_of body _ tag.NoPending no_pending_arm (λ r. refl)

body_again : (d : Delta) (rest : Text) → all_fit (body d) ≡ true → body_of (tag_of d) (joined (body d) ++ rest) ≡ Ok (d, rest)
body_again (delta.Zone name stores) rest fits = zone_arm.law.again _ rest ((name, stores), refl, fits)
body_again (delta.User row) rest fits = user_arm.law.again _ rest (row, refl, fits)
body_again (delta.Member row) rest fits = member_arm.law.again _ rest (row, refl, fits)
body_again (delta.NoMember row) rest fits = no_member_arm.law.again _ rest (row, refl, fits)
body_again (delta.Collection row) rest fits = collection_arm.law.again _ rest (row, refl, fits)
body_again (delta.NoCollection id) rest fits = no_collection_arm.law.again _ rest (id, refl, fits)
body_again (delta.Object row) rest fits = object_arm.law.again _ rest (row, refl, fits)
body_again (delta.NoObject id) rest fits = no_object_arm.law.again _ rest (id, refl, fits)
body_again (delta.Replica row) rest fits = replica_arm.law.again _ rest (row, refl, fits)
body_again (delta.NoReplica object number) rest fits = no_replica_arm.law.again _ rest ((object, number), refl, fits)
body_again (delta.Triple row) rest fits = triple_arm.law.again _ rest (row, refl, fits)
body_again (delta.NoTriple row) rest fits = no_triple_arm.law.again _ rest (row, refl, fits)
body_again (delta.Entry row) rest fits = entry_arm.law.again _ rest (row, refl, fits)
body_again (delta.NoEntry item id user) rest fits = no_entry_arm.law.again _ rest ((item, id, user), refl, fits)
body_again (delta.Resource row) rest fits = resource_arm.law.again _ rest (row, refl, fits)
body_again (delta.Rules rules) rest fits = rules_arm.law.again _ rest (rules, refl, fits)
body_again (delta.Orphan row) rest fits = orphan_arm.law.again _ rest (row, refl, fits)
body_again (delta.NoOrphan vault) rest fits = no_orphan_arm.law.again _ rest (vault, refl, fits)
body_again (delta.Numbers row) rest fits = numbers_arm.law.again _ rest (row, refl, fits)
body_again (delta.Pending row) rest fits = pending_arm.law.again _ rest (row, refl, fits)
body_again delta.NoPending rest fits = no_pending_arm.law.again _ rest (tt, refl, fits)

tagged : (d : Delta) → code (tag_number (tag_of d)) ∷ body d ≡ parts_of d
tagged (delta.Zone name stores) = refl
tagged (delta.User row) = refl
tagged (delta.Member row) = refl
tagged (delta.NoMember row) = refl
tagged (delta.Collection row) = refl
tagged (delta.NoCollection id) = refl
tagged (delta.Object row) = refl
tagged (delta.NoObject id) = refl
tagged (delta.Replica row) = refl
tagged (delta.NoReplica object number) = refl
tagged (delta.Triple row) = refl
tagged (delta.NoTriple row) = refl
tagged (delta.Entry row) = refl
tagged (delta.NoEntry item id user) = refl
tagged (delta.Resource row) = refl
tagged (delta.Rules rules) = refl
tagged (delta.Orphan row) = refl
tagged (delta.NoOrphan vault) = refl
tagged (delta.Numbers row) = refl
tagged (delta.Pending row) = refl
tagged delta.NoPending = refl

-- the tag, and what stands behind it
pub spelling-tag : (d : Delta) → tag_number (tag_of d) ∷ joined (body d) ≡ spelling d
spelling-tag d = ap joined (tagged d)

delta_is : IsRow delta_at Any parts_of
unfolding delta_at
delta_is = subst (λ (row : Delta → List Part). IsRow delta_at Any row) (λ i d. tagged d i) (IsRow-then tag_of tag_part (IsRow-behind body_of tag_of body behind_tag body_again))

-- the changes that fit are read as they are spelled
pub delta_law : Law delta_at (λ d. delta_fits d ≡ true) spelling
delta_law = Law-refit (λ d h. h.1) (λ d h. (tt, h)) delta_is.law
