-- The readers of rows, and of what a command has that is not done.
use Rattle.std.proofs.Common.{◌≡◌, ℕ, true, List, [], ◌∷◌, refl, sym, subst}
use Rattle.std.proofs.lemmas.Bool.{and_parts, and_from}
use Rattle.std.proofs.lemmas.List.{append-nil}
use Rattle.grid_model.specs.Names.{Text}
use Rattle.grid_model.specs.Deltas.{Part, all_fit, u8, u32, u64, text, is_rule_byte, sized_text, entry_kind, user_row, member_row, collection_row, object_row, replica_row, triple_row, entry_row, resource_row, orphan_row, numbers}
use Rattle.grid_model.specs.declared.grid.ItemKind.{ItemKind}
use Rattle.grid_model.specs.declared.deltas.EntryRow.{EntryRow}
use Rattle.row_codec.specs.declared.fields.Alphabet.TheVariants.{Shown, Rules}
use Rattle.row_codec.specs.declared.tags.EntryKind.{EntryKind}
use Rattle.row_codec.specs.Reading.{Read, u64_at, text_at}
use Rattle.row_codec.specs.Rows.{user_at, member_at, collection_row_at, object_row_at, replica_at, triple_at, entry_at, resource_at, orphan_at, numbers_at, zone_at, no_replica_at, no_entry_at}
use Rattle.row_codec.proofs.ReaderLaws.{Law, Law-refit, IsPart, IsRow, Any, IsRow-then, IsRow-give}
use Rattle.row_codec.proofs.FieldLaws.{byte_part, u32_part, u64_part, digest_part}
use Rattle.row_codec.proofs.ListLaws.{text_part}
use Rattle.row_codec.proofs.CodeLaws.{flag_part, user_kind_part, item_kind_part, entry_kind_part, level_part, resource_kind_part}

-- a part alone
alone : {A : Type 0} {p : Text → Read A} {part : A → Part} → IsPart p part → IsRow p Any (λ a. part a ∷ [])
alone {A = A} {p = p} {part = part} h = record {
  law = subst (λ (spell : A → Text). Law p (λ a. Any a × (all_fit (part a ∷ []) ≡ true)) spell) (λ i a. sym (append-nil (part a).bytes) i) (Law-refit (λ a fits. (tt, and_from (part a).fits true fits refl)) (λ a fits. (and_parts (part a).fits true fits.1).0) h.law);
}

pub shown : IsPart (text_at Shown) text
shown = text_part Shown

pub user_is : IsRow user_at Any user_row
unfolding user_at
user_is =
    IsRow-then (λ r. r.id) u32_part (λ id.
    IsRow-then (λ r. r.kind) user_kind_part (λ kind.
    IsRow-then (λ r. r.name) shown (λ name.
    IsRow-give _ (((tt, refl), refl), refl) (λ b h i. record { id = h.0.0.1 i; kind = h.0.1 i; name = h.1 i }))))

pub member_is : IsRow member_at Any member_row
unfolding member_at
member_is =
    IsRow-then (λ r. r.group) u32_part (λ group.
    IsRow-then (λ r. r.user) u32_part (λ user.
    IsRow-give _ ((tt, refl), refl) (λ b h i. record { group = h.0.1 i; user = h.1 i })))

pub collection_is : IsRow collection_row_at Any collection_row
unfolding collection_row_at
collection_is =
    IsRow-then (λ r. r.id) u64_part (λ id.
    IsRow-then (λ r. r.parent) u64_part (λ parent.
    IsRow-then (λ r. r.name) shown (λ name.
    IsRow-then (λ r. r.inherit) flag_part (λ inherit.
    IsRow-give _ ((((tt, refl), refl), refl), refl) (λ b h i. record { id = h.0.0.0.1 i; parent = h.0.0.1 i; name = h.0.1 i; inherit = h.1 i })))))

pub object_is : IsRow object_row_at Any object_row
unfolding object_row_at
object_is =
    IsRow-then (λ r. r.id) u64_part (λ id.
    IsRow-then (λ r. r.collection) u64_part (λ collection.
    IsRow-then (λ r. r.name) shown (λ name.
    IsRow-then (λ r. r.size) u64_part (λ size.
    IsRow-then (λ r. r.digest) digest_part (λ digest.
    IsRow-then (λ r. r.time) u64_part (λ time.
    IsRow-give _ ((((((tt, refl), refl), refl), refl), refl), refl) (λ b h i. record { id = h.0.0.0.0.0.1 i; collection = h.0.0.0.0.1 i; name = h.0.0.0.1 i; size = h.0.0.1 i; digest = h.0.1 i; time = h.1 i })))))))

pub replica_is : IsRow replica_at Any replica_row
unfolding replica_at
replica_is =
    IsRow-then (λ r. r.object) u64_part (λ object.
    IsRow-then (λ r. r.number) u32_part (λ number.
    IsRow-then (λ r. r.leaf) u32_part (λ leaf.
    IsRow-then (λ r. r.good) flag_part (λ good.
    IsRow-then (λ r. r.size) u64_part (λ size.
    IsRow-then (λ r. r.digest) digest_part (λ digest.
    IsRow-then (λ r. r.vault) u64_part (λ vault.
    IsRow-give _ (((((((tt, refl), refl), refl), refl), refl), refl), refl) (λ b h i. record { object = h.0.0.0.0.0.0.1 i; number = h.0.0.0.0.0.1 i; leaf = h.0.0.0.0.1 i; good = h.0.0.0.1 i; size = h.0.0.1 i; digest = h.0.1 i; vault = h.1 i }))))))))

pub triple_is : IsRow triple_at Any triple_row
unfolding triple_at
triple_is =
    IsRow-then (λ r. r.kind) item_kind_part (λ kind.
    IsRow-then (λ r. r.id) u64_part (λ id.
    IsRow-then (λ r. r.attribute) shown (λ attribute.
    IsRow-then (λ r. r.value) shown (λ value.
    IsRow-then (λ r. r.unit) shown (λ unit.
    IsRow-give _ (((((tt, refl), refl), refl), refl), refl) (λ b h i. record { kind = h.0.0.0.0.1 i; id = h.0.0.0.1 i; attribute = h.0.0.1 i; value = h.0.1 i; unit = h.1 i }))))))

pub resource_is : IsRow resource_at Any resource_row
unfolding resource_at
resource_is =
    IsRow-then (λ r. r.id) u32_part (λ id.
    IsRow-then (λ r. r.name) shown (λ name.
    IsRow-then (λ r. r.kind) resource_kind_part (λ kind.
    IsRow-then (λ r. r.slot) byte_part (λ slot.
    IsRow-then (λ r. r.up) flag_part (λ up.
    IsRow-then (λ r. r.parent) u32_part (λ parent.
    IsRow-then (λ r. r.place) u32_part (λ place.
    IsRow-give _ (((((((tt, refl), refl), refl), refl), refl), refl), refl) (λ b h i. record { id = h.0.0.0.0.0.0.1 i; name = h.0.0.0.0.0.1 i; kind = h.0.0.0.0.1 i; slot = h.0.0.0.1 i; up = h.0.0.1 i; parent = h.0.1 i; place = h.1 i }))))))))

pub orphan_is : IsRow orphan_at Any orphan_row
unfolding orphan_at
orphan_is =
    IsRow-then (λ r. r.vault) u64_part (λ vault.
    IsRow-then (λ r. r.slot) byte_part (λ slot.
    IsRow-give _ ((tt, refl), refl) (λ b h i. record { vault = h.0.1 i; slot = h.1 i })))

pub numbers_is : IsRow numbers_at Any numbers
unfolding numbers_at
numbers_is =
    IsRow-then (λ r. r.next_vault) u64_part (λ next_vault.
    IsRow-then (λ r. r.run) u64_part (λ run.
    IsRow-then (λ r. r.last) u64_part (λ last.
    IsRow-give _ (((tt, refl), refl), refl) (λ b h i. record { next_vault = h.0.0.1 i; run = h.0.1 i; last = h.1 i }))))

abbrev kind_of : EntryRow → EntryKind
kind_of r = record { 0 = r.kind }

pub entry_is : IsRow entry_at Any entry_row
unfolding entry_at
entry_is =
    IsRow-then kind_of entry_kind_part (λ kind.
    IsRow-then (λ r. r.id) u64_part (λ id.
    IsRow-then (λ r. r.user) u32_part (λ user.
    IsRow-then (λ r. r.level) level_part (λ level.
    IsRow-give _ ((((tt, refl), refl), refl), refl) (λ b h i. record { kind = (h.0.0.0.1 i).0; id = h.0.0.1 i; user = h.0.1 i; level = h.1 i })))))

-- ---- the fields of the changes that have no row

abbrev pub zone_row : Text × ℕ → List Part
zone_row z = text z.0 ∷ u8 z.1 ∷ []

pub zone_is : IsRow zone_at Any zone_row
unfolding zone_at
zone_is =
    IsRow-then (λ z. z.0) shown (λ name.
    IsRow-then (λ z. z.1) byte_part (λ stores.
    IsRow-give _ ((tt, refl), refl) (λ b h i. (h.0.1 i, h.1 i))))

abbrev pub no_replica_row : ℕ × ℕ → List Part
no_replica_row r = u64 r.0 ∷ u32 r.1 ∷ []

pub no_replica_is : IsRow no_replica_at Any no_replica_row
unfolding no_replica_at
no_replica_is =
    IsRow-then (λ r. r.0) u64_part (λ object.
    IsRow-then (λ r. r.1) u32_part (λ number.
    IsRow-give _ ((tt, refl), refl) (λ b h i. (h.0.1 i, h.1 i))))

abbrev no_entry_kind : ItemKind × ℕ × ℕ → EntryKind
no_entry_kind r = record { 0 = r.0 }

abbrev pub no_entry_row : ItemKind × ℕ × ℕ → List Part
no_entry_row r = entry_kind r.0 ∷ u64 r.1 ∷ u32 r.2 ∷ []

pub no_entry_is : IsRow no_entry_at Any no_entry_row
unfolding no_entry_at
no_entry_is =
    IsRow-then no_entry_kind entry_kind_part (λ kind.
    IsRow-then (λ r. r.1) u64_part (λ id.
    IsRow-then (λ r. r.2) u32_part (λ user.
    IsRow-give _ (((tt, refl), refl), refl) (λ b h i. ((h.0.0.1 i).0, h.0.1 i, h.1 i)))))

-- a number alone
pub u64_is : IsRow u64_at Any (λ n. u64 n ∷ [])
u64_is = alone u64_part

-- the text of rules
pub rules_is : IsRow (text_at Rules) Any (λ t. sized_text is_rule_byte t ∷ [])
rules_is = alone (text_part Rules)

pub shown_is : IsRow (text_at Shown) Any (λ t. text t ∷ [])
shown_is = alone shown
