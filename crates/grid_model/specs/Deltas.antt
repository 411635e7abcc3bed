-- The bytes that changes of the catalogue are kept as. Each change has one spelling: its tag, and its fields in order. The
-- format is this project's own.
use Rattle.std.specs.Prelude.{◌≡◌, ℕ, ◌^◌, Bool, true, false, ◌&&◌, ◌||◌, List, [], ◌∷◌, ◌++◌, Option, Some, None, IsTrue, length, flat_map, nat_lt, ◌==◌}
use Rattle.std.specs.List.{list_all}
use Rattle.std.specs.Int.{w32, w64, to_be_bytes}
use Rattle.grid_model.specs.Names.{Text}
use Rattle.grid_model.specs.Words.{is_word_byte}
use Rattle.grid_model.specs.Rows.{item_number}
use Rattle.grid_model.specs.Applying.{gives_access, is_given}
use Rattle.grid_model.specs.declared.grid.UserKind.{UserKind}
use Rattle.grid_model.specs.declared.grid.UserKind.TheVariants.{Rodsadmin, Rodsuser, Rodsgroup}
use Rattle.grid_model.specs.declared.grid.ResourceKind.{ResourceKind}
use Rattle.grid_model.specs.declared.grid.ResourceKind.TheVariants.{Storage, Passthru, Random, Replication}
use Rattle.grid_model.specs.declared.grid.Level.{Level}
use Rattle.grid_model.specs.declared.grid.Level.TheVariants.{Null, Read, Write, Own}
use Rattle.grid_model.specs.declared.grid.ItemKind.{ItemKind}
use Rattle.grid_model.specs.declared.calls.Call.{Call}
use Rattle.grid_model.specs.declared.marks.BadReplica.{BadReplica}
use Rattle.grid_model.specs.declared.marks.Mark.{Mark}
use Rattle.grid_model.specs.declared.marks.Mark.TheVariants.{Ran, Fault, Bad, Stop}
use Rattle.grid_model.specs.declared.replies.Passed.{Passed}
use Rattle.grid_model.specs.declared.deltas.UserRow.{UserRow}
use Rattle.grid_model.specs.declared.deltas.MemberRow.{MemberRow}
use Rattle.grid_model.specs.declared.deltas.CollectionRow.{CollectionRow}
use Rattle.grid_model.specs.declared.deltas.ObjectRow.{ObjectRow}
use Rattle.grid_model.specs.declared.deltas.ReplicaRow.{ReplicaRow}
use Rattle.grid_model.specs.declared.deltas.TripleRow.{TripleRow}
use Rattle.grid_model.specs.declared.deltas.EntryRow.{EntryRow}
use Rattle.grid_model.specs.declared.deltas.ResourceRow.{ResourceRow}
use Rattle.grid_model.specs.declared.deltas.OrphanRow.{OrphanRow}
use Rattle.grid_model.specs.declared.deltas.Numbers.{Numbers}
use Rattle.grid_model.specs.declared.deltas.Pending.{Pending}
use Rattle.grid_model.specs.declared.deltas.Delta.{Delta}
use Rattle.grid_model.specs.declared.deltas.Delta.TheVariants as delta

-- A part of a spelling: whether its value has one, and the bytes.
pub record Part : Type 0 where
  pub fits : Bool
  pub bytes : Text

-- whether all parts have a spelling
abbrev pub all_fit : List Part → Bool
all_fit = list_all (λ p. p.fits)

-- their bytes, one after the other
abbrev pub joined : List Part → Text
joined = flat_map (λ p. p.bytes)

-- several parts as one
abbrev pub whole : List Part → Part
whole parts = record { fits = all_fit parts; bytes = joined parts }

-- ---- numbers, the greatest byte first

-- a number below 2^32 in four bytes
unfoldable pub four_bytes : ℕ → Text
four_bytes n = to_be_bytes w32 n

-- a number below 2^64 in eight bytes
unfoldable pub eight_bytes : ℕ → Text
eight_bytes n = to_be_bytes w64 n

-- a number below 256
abbrev pub is_byte : ℕ → Bool
is_byte b = nat_lt b 256

-- a number in one byte
abbrev pub u8 : ℕ → Part
u8 n = record { fits = is_byte n; bytes = n ∷ [] }

-- a number in four bytes
abbrev pub u32 : ℕ → Part
u32 n = record { fits = nat_lt n (2 ^ 32); bytes = four_bytes n }

-- a number in eight bytes
abbrev pub u64 : ℕ → Part
u64 n = record { fits = nat_lt n (2 ^ 64); bytes = eight_bytes n }

-- one byte that says which of several values it is, where the value may stand there
abbrev pub code_if : Bool → ℕ → Part
code_if fits n = record { fits = fits; bytes = n ∷ [] }

-- one byte that says which of several values it is
abbrev pub code : ℕ → Part
code = code_if true

-- a truth value as a number
abbrev pub flag : Bool → ℕ
flag false = 0
flag true = 1

-- ---- texts, digests and lists

-- a byte that a text may have: one that a word may have, below 256
abbrev pub is_shown_byte : ℕ → Bool
is_shown_byte b = is_word_byte b && is_byte b

-- the text of the rules may have the newline too
abbrev pub is_rule_byte : ℕ → Bool
is_rule_byte b = is_shown_byte b || b == 0x0A

-- how many bytes it has, and the bytes
abbrev pub sized_text : (ℕ → Bool) → Text → Part
sized_text is_allowed t = record { fits = nat_lt (length t) (2 ^ 64) && list_all is_allowed t; bytes = eight_bytes (length t) ++ t }

-- a text of shown bytes
abbrev pub text : Text → Part
text = sized_text is_shown_byte

-- the 32 bytes of a digest
abbrev pub digest : Text → Part
digest d = record { fits = (length d == 32) && list_all is_byte d; bytes = d }

-- how many members there are, and the parts of each
abbrev pub each : {A : Type 0} → (A → List Part) → List A → Part
each parts xs = record {
  fits = nat_lt (length xs) (2 ^ 64) && list_all (λ x. all_fit (parts x)) xs;
  bytes = eight_bytes (length xs) ++ flat_map (λ x. joined (parts x)) xs;
}

-- ---- kinds and levels, as their numbers

-- what a user is
abbrev pub user_kind : UserKind → ℕ
user_kind Rodsadmin = 1
user_kind Rodsuser = 2
user_kind Rodsgroup = 3

-- what a user may do
abbrev pub level : Level → ℕ
level Null = 0
level Read = 1
level Write = 2
level Own = 3

-- what a resource does
abbrev pub resource_kind : ResourceKind → ℕ
resource_kind Storage = 1
resource_kind Passthru = 2
resource_kind Random = 3
resource_kind Replication = 4

-- ---- rows, each as its parts in order

-- the kind of what an entry is at, which must give access
abbrev pub entry_kind : ItemKind → Part
entry_kind k = code_if (gives_access k) (item_number k)

-- a user or a group
abbrev pub user_row : UserRow → List Part
user_row r = u32 r.id ∷ code (user_kind r.kind) ∷ text r.name ∷ []

-- who is in a group
abbrev pub member_row : MemberRow → List Part
member_row r = u32 r.group ∷ u32 r.user ∷ []

-- a collection, with the id of the one that it lies in
abbrev pub collection_row : CollectionRow → List Part
collection_row r = u64 r.id ∷ u64 r.parent ∷ text r.name ∷ code (flag r.inherit) ∷ []

-- an object, with the id of the collection that it lies in
abbrev pub object_row : ObjectRow → List Part
object_row r = u64 r.id ∷ u64 r.collection ∷ text r.name ∷ u64 r.size ∷ digest r.digest ∷ u64 r.time ∷ []

-- a stale replica has the status 0 and a good one 1 (iRODS documentation, replica status)
abbrev pub replica_row : ReplicaRow → List Part
replica_row r = u64 r.object ∷ u32 r.number ∷ u32 r.leaf ∷ code (flag r.good) ∷ u64 r.size ∷ digest r.digest ∷ u64 r.vault ∷ []

-- metadata of an item
abbrev pub triple_row : TripleRow → List Part
triple_row r = code (item_number r.kind) ∷ u64 r.id ∷ text r.attribute ∷ text r.value ∷ text r.unit ∷ []

-- the access of a user at an object or a collection, which is not null
abbrev pub entry_row : EntryRow → List Part
entry_row r = entry_kind r.kind ∷ u64 r.id ∷ u32 r.user ∷ code_if (is_given r.level) (level r.level) ∷ []

-- a resource, with the id of its parent, or 0 without one
abbrev pub resource_row : ResourceRow → List Part
resource_row r = u32 r.id ∷ text r.name ∷ code (resource_kind r.kind) ∷ u8 r.slot ∷ code (flag r.up) ∷ u32 r.parent ∷ u32 r.place ∷ []

-- a file that is no replica's, and the slot that it is in
abbrev pub orphan_row : OrphanRow → List Part
orphan_row r = u64 r.vault ∷ u8 r.slot ∷ []

-- the next vault number, the number of the run, and that of the last command
abbrev pub numbers : Numbers → List Part
numbers n = u64 n.next_vault ∷ u64 n.run ∷ u64 n.last ∷ []

-- ---- what a command that is not done has

-- its name, and its arguments
abbrev pub call : Call → List Part
call c = text c.name ∷ each (λ t. text t ∷ []) c.args ∷ []

-- a replica that was found to be other than recorded
abbrev pub bad_replica : BadReplica → List Part
bad_replica b = u32 b.number ∷ u64 b.len ∷ digest b.found ∷ []

-- which kind of mark, and its fields
abbrev pub mark : Mark → List Part
mark (Ran word now bad) = code 1 ∷ u64 word ∷ u64 now ∷ each bad_replica bad ∷ []
mark (Fault slot parts) = code 2 ∷ u8 slot ∷ u64 parts ∷ []
mark (Bad slot len found parts) = code 3 ∷ u8 slot ∷ u64 len ∷ digest found ∷ u64 parts ∷ []
mark Stop = code 4 ∷ []

-- the call, and its failure
abbrev pub passed : Passed → List Part
passed p = whole (call p.call) ∷ text p.failure ∷ []

-- a flag, and the call where there is one
abbrev pub running_call : Option Call → Part
running_call None = code (flag false)
running_call (Some c) = whole (code (flag true) ∷ call c)

-- all that is kept of the command
abbrev pub pending : Pending → List Part
pending p = u64 p.run ∷ u64 p.number ∷ u32 p.user ∷ text p.line ∷ each mark p.marks ∷ each passed p.passed ∷ running_call p.running ∷ each call p.undo ∷ []

-- ---- changes

-- the tag, and what is changed
abbrev pub parts_of : Delta → List Part
parts_of (delta.Zone name stores) = code 1 ∷ text name ∷ u8 stores ∷ []
parts_of (delta.User row) = code 2 ∷ user_row row
parts_of (delta.Member row) = code 3 ∷ member_row row
parts_of (delta.NoMember row) = code 4 ∷ member_row row
parts_of (delta.Collection row) = code 5 ∷ collection_row row
parts_of (delta.NoCollection id) = code 6 ∷ u64 id ∷ []
parts_of (delta.Object row) = code 7 ∷ object_row row
parts_of (delta.NoObject id) = code 8 ∷ u64 id ∷ []
parts_of (delta.Replica row) = code 9 ∷ replica_row row
parts_of (delta.NoReplica object number) = code 10 ∷ u64 object ∷ u32 number ∷ []
parts_of (delta.Triple row) = code 11 ∷ triple_row row
parts_of (delta.NoTriple row) = code 12 ∷ triple_row row
parts_of (delta.Entry row) = code 13 ∷ entry_row row
parts_of (delta.NoEntry item id user) = code 14 ∷ entry_kind item ∷ u64 id ∷ u32 user ∷ []
parts_of (delta.Resource row) = code 15 ∷ resource_row row
parts_of (delta.Rules rules) = code 16 ∷ sized_text is_rule_byte rules ∷ []
parts_of (delta.Orphan row) = code 17 ∷ orphan_row row
parts_of (delta.NoOrphan vault) = code 18 ∷ u64 vault ∷ []
parts_of (delta.Numbers row) = code 19 ∷ numbers row
parts_of (delta.Pending row) = code 20 ∷ pending row
parts_of delta.NoPending = code 21 ∷ []

-- whether a change has a spelling
abbrev pub delta_fits : Delta → Bool
delta_fits d = all_fit (parts_of d)

-- the one spelling of a change
abbrev pub spelling : Delta → Text
spelling d = joined (parts_of d)

-- the bytes spell these changes
pub record SpellsDeltas (bytes : Text) (deltas : List Delta) : Type 0 where
  pub fit : IsTrue (list_all delta_fits deltas)
  pub bytes_are : bytes ≡ flat_map spelling deltas
