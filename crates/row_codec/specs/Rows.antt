-- Readers of rows, of what a command has that is not done, and of changes.
use Rattle.std.specs.Prelude.{ℕ, Bool, true, false, List, Option, Some, None}
use Rattle.grid_model.specs.Names.{Text}
use Rattle.grid_model.specs.declared.grid.ItemKind.{ItemKind}
use Rattle.grid_model.specs.declared.calls.Call.{Call}
use Rattle.grid_model.specs.declared.marks.BadReplica.{BadReplica}
use Rattle.grid_model.specs.declared.marks.Mark.{Mark}
use Rattle.grid_model.specs.declared.marks.Mark.TheVariants as mark
use Rattle.grid_model.specs.declared.replies.Passed.{Passed}
use Rattle.grid_model.specs.declared.deltas.UserRow.{UserRow}
use Rattle.grid_model.specs.declared.deltas.MemberRow.{MemberRow}
use Rattle.grid_model.specs.declared.deltas.CollectionRow.{CollectionRow}
use Rattle.grid_model.specs.declared.deltas.ObjectRow.{ObjectRow}
use Rattle.grid_model.specs.declared.deltas.ReplicaRow.{ReplicaRow}
use Rattle.grid_model.specs.declared.deltas.TripleRow.{TripleRow}
use Rattle.grid_model.specs.declared.deltas.EntryRow.{EntryRow}
use Rattle.grid_model.specs.declared.deltas.ResourceRow.{ResourceRow}
use Rattle.grid_model.specs.declared.deltas.OrphanRow.{OrphanRow}
use Rattle.grid_model.specs.declared.deltas.Numbers.{Numbers}
use Rattle.grid_model.specs.declared.deltas.Pending.{Pending}
use Rattle.grid_model.specs.declared.deltas.Delta.{Delta}
use Rattle.grid_model.specs.declared.deltas.Delta.TheVariants as delta
use Rattle.row_codec.specs.declared.fields.Alphabet.TheVariants.{Shown, Rules}
use Rattle.row_codec.specs.declared.tags.MarkTag.{MarkTag}
use Rattle.row_codec.specs.declared.tags.MarkTag.TheVariants as mark_tag
use Rattle.row_codec.specs.declared.tags.Tag.{Tag}
use Rattle.row_codec.specs.declared.tags.Tag.TheVariants as tag
use Rattle.row_codec.specs.Codes.{known_flag, known_user_kind, known_item_kind, known_entry_kind, known_level, known_resource_kind, known_mark, known_tag}
use Rattle.row_codec.specs.Reading.{Read, ◌>>=◌, and_then, give, byte_at, fixed_at, u32_at, u64_at, coded_at, text_at, list_at}

unfoldable pub user_at : Text → Read UserRow
user_at = do
  id ← u32_at
  kind ← coded_at known_user_kind
  name ← text_at Shown
  give (record { id = id; kind = kind; name = name })

unfoldable pub member_at : Text → Read MemberRow
member_at = do
  group ← u32_at
  user ← u32_at
  give (record { group = group; user = user })

unfoldable pub collection_row_at : Text → Read CollectionRow
collection_row_at = do
  id ← u64_at
  parent ← u64_at
  name ← text_at Shown
  inherit ← coded_at known_flag
  give (record { id = id; parent = parent; name = name; inherit = inherit })

unfoldable pub object_row_at : Text → Read ObjectRow
object_row_at = do
  id ← u64_at
  collection ← u64_at
  name ← text_at Shown
  size ← u64_at
  digest ← fixed_at 32
  time ← u64_at
  give (record { id = id; collection = collection; name = name; size = size; digest = digest; time = time })

unfoldable pub replica_at : Text → Read ReplicaRow
replica_at = do
  object ← u64_at
  number ← u32_at
  leaf ← u32_at
  good ← coded_at known_flag
  size ← u64_at
  digest ← fixed_at 32
  vault ← u64_at
  give (record { object = object; number = number; leaf = leaf; good = good; size = size; digest = digest; vault = vault })

unfoldable pub triple_at : Text → Read TripleRow
triple_at = do
  kind ← coded_at known_item_kind
  id ← u64_at
  attribute ← text_at Shown
  value ← text_at Shown
  unit ← text_at Shown
  give (record { kind = kind; id = id; attribute = attribute; value = value; unit = unit })

unfoldable pub entry_at : Text → Read EntryRow
entry_at = do
  kind ← coded_at known_entry_kind
  id ← u64_at
  user ← u32_at
  level ← coded_at known_level
  give (record { kind = kind.0; id = id; user = user; level = level })

unfoldable pub resource_at : Text → Read ResourceRow
resource_at = do
  id ← u32_at
  name ← text_at Shown
  kind ← coded_at known_resource_kind
  slot ← byte_at
  up ← coded_at known_flag
  parent ← u32_at
  place ← u32_at
  give (record { id = id; name = name; kind = kind; slot = slot; up = up; parent = parent; place = place })

unfoldable pub orphan_at : Text → Read OrphanRow
orphan_at = do
  vault ← u64_at
  slot ← byte_at
  give (record { vault = vault; slot = slot })

unfoldable pub numbers_at : Text → Read Numbers
numbers_at = do
  next_vault ← u64_at
  run ← u64_at
  last ← u64_at
  give (record { next_vault = next_vault; run = run; last = last })

-- ---- the fields of the changes that have no row

unfoldable pub zone_at : Text → Read (Text × ℕ)
zone_at = do
  name ← text_at Shown
  stores ← byte_at
  give (name, stores)

unfoldable pub no_replica_at : Text → Read (ℕ × ℕ)
no_replica_at = do
  object ← u64_at
  number ← u32_at
  give (object, number)

unfoldable pub no_entry_at : Text → Read (ItemKind × ℕ × ℕ)
no_entry_at = do
  kind ← coded_at known_entry_kind
  id ← u64_at
  user ← u32_at
  give (kind.0, id, user)

-- ---- what a command has that is not done

unfoldable pub call_at : Text → Read Call
call_at = do
  name ← text_at Shown
  args ← list_at (text_at Shown)
  give (record { name = name; args = args })

unfoldable pub bad_at : Text → Read BadReplica
bad_at = do
  number ← u32_at
  len ← u64_at
  found ← fixed_at 32
  give (record { number = number; len = len; found = found })

unfoldable pub ran_at : Text → Read (ℕ × ℕ × List BadReplica)
ran_at = do
  word ← u64_at
  now ← u64_at
  bad ← list_at bad_at
  give (word, now, bad)

unfoldable pub fault_at : Text → Read (ℕ × ℕ)
fault_at = do
  slot ← byte_at
  parts ← u64_at
  give (slot, parts)

unfoldable pub bad_read_at : Text → Read (ℕ × ℕ × Text × ℕ)
bad_read_at = do
  slot ← byte_at
  len ← u64_at
  found ← fixed_at 32
  parts ← u64_at
  give (slot, len, found, parts)

unfoldable pub mark_of : MarkTag → Text → Read Mark
mark_of mark_tag.Ran = and_then ran_at (λ m. give (mark.Ran m.0 m.1 m.2))
mark_of mark_tag.Fault = and_then fault_at (λ m. give (mark.Fault m.0 m.1))
mark_of mark_tag.Bad = and_then bad_read_at (λ m. give (mark.Bad m.0 m.1 m.2 m.3))
mark_of mark_tag.Stop = give mark.Stop

unfoldable pub mark_at : Text → Read Mark
mark_at = do
  tag ← coded_at known_mark
  mark_of tag

unfoldable pub passed_at : Text → Read Passed
passed_at = do
  call ← call_at
  failure ← text_at Shown
  give (record { call = call; failure = failure })

unfoldable pub running_if : Bool → Text → Read (Option Call)
running_if false = give None
running_if true = and_then call_at (λ c. give (Some c))

unfoldable pub running_at : Text → Read (Option Call)
running_at = do
  there ← coded_at known_flag
  running_if there

unfoldable pub pending_at : Text → Read Pending
pending_at = do
  run ← u64_at
  number ← u64_at
  user ← u32_at
  line ← text_at Shown
  marks ← list_at mark_at
  passed ← list_at passed_at
  running ← running_at
  undo ← list_at call_at
  give (record { run = run; number = number; user = user; line = line; marks = marks; passed = passed; running = running; undo = undo })

-- ---- changes

unfoldable pub body_of : Tag → Text → Read Delta
body_of tag.Zone = and_then zone_at (λ x. give (delta.Zone x.0 x.1))
body_of tag.User = and_then user_at (λ row. give (delta.User row))
body_of tag.Member = and_then member_at (λ row. give (delta.Member row))
body_of tag.NoMember = and_then member_at (λ row. give (delta.NoMember row))
body_of tag.Collection = and_then collection_row_at (λ row. give (delta.Collection row))
body_of tag.NoCollection = and_then u64_at (λ id. give (delta.NoCollection id))
body_of tag.Object = and_then object_row_at (λ row. give (delta.Object row))
body_of tag.NoObject = and_then u64_at (λ id. give (delta.NoObject id))
body_of tag.Replica = and_then replica_at (λ row. give (delta.Replica row))
body_of tag.NoReplica = and_then no_replica_at (λ x. give (delta.NoReplica x.0 x.1))
body_of tag.Triple = and_then triple_at (λ row. give (delta.Triple row))
body_of tag.NoTriple = and_then triple_at (λ row. give (delta.NoTriple row))
body_of tag.Entry = and_then entry_at (λ row. give (delta.Entry row))
body_of tag.NoEntry = and_then no_entry_at (λ x. give (delta.NoEntry x.0 x.1 x.2))
body_of tag.Resource = and_then resource_at (λ row. give (delta.Resource row))
body_of tag.Rules = and_then (text_at Rules) (λ rules. give (delta.Rules rules))
body_of tag.Orphan = and_then orphan_at (λ row. give (delta.Orphan row))
body_of tag.NoOrphan = and_then u64_at (λ vault. give (delta.NoOrphan vault))
body_of tag.Numbers = and_then numbers_at (λ row. give (delta.Numbers row))
body_of tag.Pending = and_then pending_at (λ row. give (delta.Pending row))
body_of tag.NoPending = give delta.NoPending

unfoldable pub delta_at : Text → Read Delta
delta_at = do
  tag ← coded_at known_tag
  body_of tag
