-- The readers of bytes that stand for values.
use Rattle.std.proofs.Common.{◌≡◌, true, false, Bool, Some, refl}
use Rattle.grid_model.specs.Rows.{item_number}
use Rattle.grid_model.specs.Applying.{gives_access, is_given}
use Rattle.grid_model.specs.Deltas.{code, code_if, flag, user_kind, entry_kind, level, resource_kind}
use Rattle.grid_model.specs.declared.grid.UserKind.{UserKind}
use Rattle.grid_model.specs.declared.grid.UserKind.TheVariants.{Rodsadmin, Rodsuser, Rodsgroup}
use Rattle.grid_model.specs.declared.grid.ResourceKind.{ResourceKind}
use Rattle.grid_model.specs.declared.grid.ResourceKind.TheVariants.{Storage, Passthru, Random, Replication}
use Rattle.grid_model.specs.declared.grid.Level.{Level}
use Rattle.grid_model.specs.declared.grid.Level.TheVariants.{Null, Read, Write, Own}
use Rattle.grid_model.specs.declared.grid.ItemKind.{ItemKind}
use Rattle.grid_model.specs.declared.grid.ItemKind.TheVariants as kind
use Rattle.row_codec.specs.declared.tags.MarkTag.{MarkTag}
use Rattle.row_codec.specs.declared.tags.MarkTag.TheVariants as mark
use Rattle.row_codec.specs.declared.tags.Tag.{Tag}
use Rattle.row_codec.specs.declared.tags.Tag.TheVariants as tag
use Rattle.row_codec.specs.Codes.{all_flags, all_user_kinds, all_item_kinds, all_entry_kinds, all_levels, all_resource_kinds, all_marks, all_tags, known_flag, known_user_kind, known_item_kind, entry_kind_number, known_entry_kind, known_level, known_resource_kind, mark_number, known_mark, tag_number, known_tag}
use Rattle.row_codec.specs.Reading.{coded_at}
use Rattle.row_codec.proofs.ReaderLaws.{IsPart}
use Rattle.row_codec.proofs.FieldLaws.{coded_part}

pub flag_part : IsPart (coded_at known_flag) (λ b. code (flag b))
flag_part = coded_part flag (λ _. true) all_flags refl back true refl
  where
    back : (b : Bool) → true ≡ true → known_flag (flag b) ≡ Some b
    back false h = refl
    back true h = refl

pub user_kind_part : IsPart (coded_at known_user_kind) (λ k. code (user_kind k))
user_kind_part = coded_part user_kind (λ _. true) all_user_kinds refl back Rodsuser refl
  where
    back : (k : UserKind) → true ≡ true → known_user_kind (user_kind k) ≡ Some k
    back Rodsadmin h = refl
    back Rodsuser h = refl
    back Rodsgroup h = refl

pub item_kind_part : IsPart (coded_at known_item_kind) (λ k. code (item_number k))
item_kind_part = coded_part item_number (λ _. true) all_item_kinds refl back kind.Object refl
  where
    back : (k : ItemKind) → true ≡ true → known_item_kind (item_number k) ≡ Some k
    back kind.Object h = refl
    back kind.Collection h = refl
    back kind.Resource h = refl
    back kind.User h = refl

pub entry_kind_part : IsPart (coded_at known_entry_kind) (λ e. entry_kind e.0)
entry_kind_part = coded_part entry_kind_number (λ e. gives_access e.0) all_entry_kinds refl (λ e. back e.0) (record { 0 = kind.Object }) refl
  where
    back : (k : ItemKind) → gives_access k ≡ true → known_entry_kind (item_number k) ≡ Some (record { 0 = k })
    back kind.Object h = refl
    back kind.Collection h = refl
    back kind.Resource h = absurd cc
    back kind.User h = absurd cc

pub level_part : IsPart (coded_at known_level) (λ l. code_if (is_given l) (level l))
level_part = coded_part level is_given all_levels refl back Read refl
  where
    back : (l : Level) → is_given l ≡ true → known_level (level l) ≡ Some l
    back Null h = absurd cc
    back Read h = refl
    back Write h = refl
    back Own h = refl

pub resource_kind_part : IsPart (coded_at known_resource_kind) (λ k. code (resource_kind k))
resource_kind_part = coded_part resource_kind (λ _. true) all_resource_kinds refl back Storage refl
  where
    back : (k : ResourceKind) → true ≡ true → known_resource_kind (resource_kind k) ≡ Some k
    back Storage h = refl
    back Passthru h = refl
    back Random h = refl
    back Replication h = refl

pub mark_part : IsPart (coded_at known_mark) (λ t. code (mark_number t))
mark_part = coded_part mark_number (λ _. true) all_marks refl back mark.Stop refl
  where
    back : (t : MarkTag) → true ≡ true → known_mark (mark_number t) ≡ Some t
    back mark.Ran h = refl
    back mark.Fault h = refl
    back mark.Bad h = refl
    back mark.Stop h = refl

pub tag_part : IsPart (coded_at known_tag) (λ t. code (tag_number t))
tag_part = coded_part tag_number (λ _. true) all_tags refl back tag.NoPending refl
  where
    back : (t : Tag) → true ≡ true → known_tag (tag_number t) ≡ Some t
    back tag.Zone h = refl
    back tag.User h = refl
    back tag.Member h = refl
    back tag.NoMember h = refl
    back tag.Collection h = refl
    back tag.NoCollection h = refl
    back tag.Object h = refl
    back tag.NoObject h = refl
    back tag.Replica h = refl
    back tag.NoReplica h = refl
    back tag.Triple h = refl
    back tag.NoTriple h = refl
    back tag.Entry h = refl
    back tag.NoEntry h = refl
    back tag.Resource h = refl
    back tag.Rules h = refl
    back tag.Orphan h = refl
    back tag.NoOrphan h = refl
    back tag.Numbers h = refl
    back tag.Pending h = refl
    back tag.NoPending h = refl
