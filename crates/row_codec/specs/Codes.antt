-- The values that one byte stands for, found by their numbers.
use Rattle.std.specs.Prelude.{ℕ, Bool, true, false, List, [], ◌∷◌, Option, ◌==◌}
use Rattle.std.specs.List.{find}
use Rattle.grid_model.specs.Deltas.{user_kind, resource_kind, level, flag}
use Rattle.grid_model.specs.Rows.{item_number}
use Rattle.grid_model.specs.declared.grid.UserKind.{UserKind}
use Rattle.grid_model.specs.declared.grid.UserKind.TheVariants.{Rodsadmin, Rodsuser, Rodsgroup}
use Rattle.grid_model.specs.declared.grid.ResourceKind.{ResourceKind}
use Rattle.grid_model.specs.declared.grid.ResourceKind.TheVariants.{Storage, Passthru, Random, Replication}
use Rattle.grid_model.specs.declared.grid.Level.{Level}
use Rattle.grid_model.specs.declared.grid.Level.TheVariants.{Read, Write, Own}
use Rattle.grid_model.specs.declared.grid.ItemKind.{ItemKind}
use Rattle.grid_model.specs.declared.grid.ItemKind.TheVariants as kind
use Rattle.row_codec.specs.declared.tags.MarkTag.{MarkTag}
use Rattle.row_codec.specs.declared.tags.MarkTag.TheVariants as mark
use Rattle.row_codec.specs.declared.tags.Tag.{Tag}
use Rattle.row_codec.specs.declared.tags.Tag.TheVariants as tag
use Rattle.row_codec.specs.declared.tags.EntryKind.{EntryKind}

-- the value with this number among these
abbrev pub value_numbered : {A : Type 0} → (A → ℕ) → List A → ℕ → Option A
value_numbered number all n = find (λ a. number a == n) all

abbrev pub all_flags : List Bool
all_flags = false ∷ true ∷ []

abbrev pub known_flag : ℕ → Option Bool
known_flag = value_numbered flag all_flags

abbrev pub all_user_kinds : List UserKind
all_user_kinds = Rodsadmin ∷ Rodsuser ∷ Rodsgroup ∷ []

abbrev pub known_user_kind : ℕ → Option UserKind
known_user_kind = value_numbered user_kind all_user_kinds

abbrev pub all_item_kinds : List ItemKind
all_item_kinds = kind.Object ∷ kind.Collection ∷ kind.Resource ∷ kind.User ∷ []

abbrev pub known_item_kind : ℕ → Option ItemKind
known_item_kind = value_numbered item_number all_item_kinds

abbrev pub entry_kind_number : EntryKind → ℕ
entry_kind_number e = item_number e.0

abbrev pub all_entry_kinds : List EntryKind
all_entry_kinds = record { 0 = kind.Object } ∷ record { 0 = kind.Collection } ∷ []

abbrev pub known_entry_kind : ℕ → Option EntryKind
known_entry_kind = value_numbered entry_kind_number all_entry_kinds

abbrev pub all_levels : List Level
all_levels = Read ∷ Write ∷ Own ∷ []

abbrev pub known_level : ℕ → Option Level
known_level = value_numbered level all_levels

abbrev pub all_resource_kinds : List ResourceKind
all_resource_kinds = Storage ∷ Passthru ∷ Random ∷ Replication ∷ []

abbrev pub known_resource_kind : ℕ → Option ResourceKind
known_resource_kind = value_numbered resource_kind all_resource_kinds

abbrev pub mark_number : MarkTag → ℕ
mark_number mark.Ran = 1
mark_number mark.Fault = 2
mark_number mark.Bad = 3
mark_number mark.Stop = 4

abbrev pub all_marks : List MarkTag
all_marks = mark.Ran ∷ mark.Fault ∷ mark.Bad ∷ mark.Stop ∷ []

abbrev pub known_mark : ℕ → Option MarkTag
known_mark = value_numbered mark_number all_marks

abbrev pub tag_number : Tag → ℕ
tag_number tag.Zone = 1
tag_number tag.User = 2
tag_number tag.Member = 3
tag_number tag.NoMember = 4
tag_number tag.Collection = 5
tag_number tag.NoCollection = 6
tag_number tag.Object = 7
tag_number tag.NoObject = 8
tag_number tag.Replica = 9
tag_number tag.NoReplica = 10
tag_number tag.Triple = 11
tag_number tag.NoTriple = 12
tag_number tag.Entry = 13
tag_number tag.NoEntry = 14
tag_number tag.Resource = 15
tag_number tag.Rules = 16
tag_number tag.Orphan = 17
tag_number tag.NoOrphan = 18
tag_number tag.Numbers = 19
tag_number tag.Pending = 20
tag_number tag.NoPending = 21

abbrev pub all_tags : List Tag
all_tags =
    tag.Zone ∷ tag.User ∷ tag.Member ∷ tag.NoMember ∷ tag.Collection ∷ tag.NoCollection ∷ tag.Object ∷ tag.NoObject ∷ tag.Replica ∷ tag.NoReplica ∷ tag.Triple
    ∷ tag.NoTriple ∷ tag.Entry ∷ tag.NoEntry ∷ tag.Resource ∷ tag.Rules ∷ tag.Orphan ∷ tag.NoOrphan ∷ tag.Numbers ∷ tag.Pending ∷ tag.NoPending ∷ []

abbrev pub known_tag : ℕ → Option Tag
known_tag = value_numbered tag_number all_tags
