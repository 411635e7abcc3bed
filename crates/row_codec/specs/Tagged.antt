-- A change as its tag and the parts behind it.
use Rattle.std.specs.Prelude.{List, [], ◌∷◌}
use Rattle.grid_model.specs.Deltas.{Part, u8, u32, u64, text, sized_text, is_rule_byte, entry_kind, user_row, member_row, collection_row}
use Rattle.grid_model.specs.Deltas.{object_row, replica_row, triple_row, entry_row, resource_row, orphan_row, numbers, pending}
use Rattle.grid_model.specs.declared.deltas.Delta.{Delta}
use Rattle.grid_model.specs.declared.deltas.Delta.TheVariants as delta
use Rattle.row_codec.specs.declared.tags.Tag.{Tag}
use Rattle.row_codec.specs.declared.tags.Tag.TheVariants as tag

-- which change it is
abbrev pub tag_of : Delta → Tag
tag_of (delta.Zone name stores) = tag.Zone
tag_of (delta.User row) = tag.User
tag_of (delta.Member row) = tag.Member
tag_of (delta.NoMember row) = tag.NoMember
tag_of (delta.Collection row) = tag.Collection
tag_of (delta.NoCollection id) = tag.NoCollection
tag_of (delta.Object row) = tag.Object
tag_of (delta.NoObject id) = tag.NoObject
tag_of (delta.Replica row) = tag.Replica
tag_of (delta.NoReplica object number) = tag.NoReplica
tag_of (delta.Triple row) = tag.Triple
tag_of (delta.NoTriple row) = tag.NoTriple
tag_of (delta.Entry row) = tag.Entry
tag_of (delta.NoEntry item id user) = tag.NoEntry
tag_of (delta.Resource row) = tag.Resource
tag_of (delta.Rules rules) = tag.Rules
tag_of (delta.Orphan row) = tag.Orphan
tag_of (delta.NoOrphan vault) = tag.NoOrphan
tag_of (delta.Numbers row) = tag.Numbers
tag_of (delta.Pending row) = tag.Pending
tag_of delta.NoPending = tag.NoPending

-- the parts behind the tag
abbrev pub body : Delta → List Part
body (delta.Zone name stores) = text name ∷ u8 stores ∷ []
body (delta.User row) = user_row row
body (delta.Member row) = member_row row
body (delta.NoMember row) = member_row row
body (delta.Collection row) = collection_row row
body (delta.NoCollection id) = u64 id ∷ []
body (delta.Object row) = object_row row
body (delta.NoObject id) = u64 id ∷ []
body (delta.Replica row) = replica_row row
body (delta.NoReplica object number) = u64 object ∷ u32 number ∷ []
body (delta.Triple row) = triple_row row
body (delta.NoTriple row) = triple_row row
body (delta.Entry row) = entry_row row
body (delta.NoEntry item id user) = entry_kind item ∷ u64 id ∷ u32 user ∷ []
body (delta.Resource row) = resource_row row
body (delta.Rules rules) = sized_text is_rule_byte rules ∷ []
body (delta.Orphan row) = orphan_row row
body (delta.NoOrphan vault) = u64 vault ∷ []
body (delta.Numbers row) = numbers row
body (delta.Pending row) = pending row
body delta.NoPending = []
