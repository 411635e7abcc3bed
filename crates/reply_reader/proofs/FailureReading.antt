-- Reading failures: their heads, and what stands behind them.
use Rattle.std.proofs.Common.{ℕ, [], ◌∷◌, ◌++◌, refl, sym, ◌∙◌, lit<, lit≤}
use Rattle.std.specs.Prelude.{Result, pos, decimal}
use Rattle.grid_model.specs.Names.{Text}
use Rattle.grid_model.specs.Digests.{Digest}
use Rattle.grid_model.specs.Places.{Begins}
use Rattle.grid_model.specs.Printing.{print_rule_cause, print_tree_cause, print_what}
use Rattle.grid_model.specs.declared.refusal.What.{What}
use Rattle.grid_model.specs.declared.refusal.What.TheVariants.{Users}
use Rattle.grid_model.specs.declared.refusal.TreeCause.TheVariants.{Leaf}
use Rattle.grid_model.specs.declared.refusal.RuleCause.TheVariants.{Token}
use Rattle.grid_model.specs.declared.refusal.Refusal.TheVariants as refusal
use Rattle.grid_model.specs.declared.refusal.Failure.{Failure}
use Rattle.grid_model.specs.declared.refusal.Failure.TheVariants as failure
use Rattle.reply_fields.specs.declared.error.ReplyError.{ReplyError}
use Rattle.reply_fields.specs.Fronts.{IsRead, ReadsFrom, Then}
use Rattle.reply_fields.specs.SignedLines.{IsSignedLine, at_least_zero}
use Rattle.reply_fields.proofs.Codes.{IsCode, IsCode-Then, reads_then}
use Rattle.reply_fields.proofs.SignedReading.{IsCode-signed}
use Rattle.reply_reader.specs.Failures.{IsBehind, refusal_numbered, most_u64}
use Rattle.reply_reader.specs.Fields.{IsDigestField, IsField, IsPrinted}
use Rattle.reply_reader.specs.Images.{Image}
use Rattle.reply_reader.specs.declared.heads.Head.{Head}
use Rattle.reply_reader.specs.declared.heads.Head.TheVariants as head
use Rattle.reply_reader.proofs.Readings.{IsCode-Image, begins_image, begins_then}
use Rattle.reply_reader.proofs.FieldReading.{IsBound, IsCode-field, begins_field, IsCode-digest_field, begins_digest_field, begins_printed}
use Rattle.reply_reader.proofs.CauseReading.{IsCode-what, IsCode-tree, IsCode-rule}

-- ---- numbers of 64 and of 8 bits, in a line and at its end

pub last_u64 : IsBound most_u64 0x0A
last_u64 = record { some = lit≤ tt; fits = lit< tt; apart = refl }

pub mid_u64 : IsBound most_u64 0x20
mid_u64 = record { some = lit≤ tt; fits = lit< tt; apart = refl }

pub last_u8 : IsBound 255 0x0A
last_u8 = record { some = lit≤ tt; fits = lit< tt; apart = refl }

pub mid_u8 : IsBound 255 0x20
mid_u8 = record { some = lit≤ tt; fits = lit< tt; apart = refl }

pub begins_signed : Begins IsSignedLine []
begins_signed = record { more = decimal 0 ++ 0x0A ∷ []; value = pos 0; spells = at_least_zero (lit< tt) refl }

-- ---- behind a head

abbrev pub Want : ℕ → Text → Failure → Type 0
Want have = Image (λ want. failure.Refused (refusal.Truncated have want)) (IsField most_u64 0x0A)

abbrev pub Limit : What → Text → Failure → Type 0
Limit what = Image (λ limit. failure.Refused (refusal.TooMany what limit)) (IsField most_u64 0x0A)

abbrev pub Cause : ℕ → Text → Failure → Type 0
Cause place = Image (λ cause. failure.Refused (refusal.BadRule place cause)) (IsPrinted print_rule_cause 0x0A)

abbrev pub Found : ℕ → ℕ → Digest → ℕ → Text → Failure → Type 0
Found slot size digest len = Image (λ found. failure.Refused (refusal.Damaged slot size digest len found)) (IsDigestField 0x0A)

abbrev pub Len : ℕ → ℕ → Digest → Text → Failure → Type 0
Len slot size digest = Then (IsField most_u64 0x20) (Found slot size digest)

abbrev pub Recorded : ℕ → ℕ → Text → Failure → Type 0
Recorded slot size = Then (IsDigestField 0x20) (Len slot size)

abbrev pub Size : ℕ → Text → Failure → Type 0
Size slot = Then (IsField most_u64 0x20) (Recorded slot)

pub begins_want : (have : ℕ) → Begins (Want have) []
begins_want have = begins_image (λ want. failure.Refused (refusal.Truncated have want)) (IsField most_u64 0x0A) (begins_field most_u64 0x0A)

pub begins_limit : (what : What) → Begins (Limit what) []
begins_limit what = begins_image (λ limit. failure.Refused (refusal.TooMany what limit)) (IsField most_u64 0x0A) (begins_field most_u64 0x0A)

pub begins_cause : (place : ℕ) → Begins (Cause place) []
begins_cause place = begins_image (λ cause. failure.Refused (refusal.BadRule place cause)) (IsPrinted print_rule_cause 0x0A) (begins_printed print_rule_cause 0x0A Token)

pub begins_found : (slot size : ℕ) (digest : Digest) (len : ℕ) → Begins (Found slot size digest len) []
begins_found slot size digest len = begins_image (λ found. failure.Refused (refusal.Damaged slot size digest len found)) (IsDigestField 0x0A) (begins_digest_field 0x0A)

pub begins_len : (slot size : ℕ) (digest : Digest) → Begins (Len slot size digest) []
begins_len slot size digest = begins_then (IsField most_u64 0x20) (Found slot size digest) (begins_field most_u64 0x20) (begins_found slot size digest)

pub begins_recorded : (slot size : ℕ) → Begins (Recorded slot size) []
begins_recorded slot size = begins_then (IsDigestField 0x20) (Len slot size) (begins_digest_field 0x20) (begins_len slot size)

pub begins_size : (slot : ℕ) → Begins (Size slot) []
begins_size slot = begins_then (IsField most_u64 0x20) (Recorded slot) (begins_field most_u64 0x20) (begins_recorded slot)

pub begins_behind : (h : Head) → Begins (IsBehind h) []
begins_behind (head.Plain f) = record { more = []; value = f; spells = (refl, refl) }
begins_behind (head.Numbered k) = begins_image (λ n. failure.Refused (refusal_numbered k n)) (IsField most_u64 0x0A) (begins_field most_u64 0x0A)
begins_behind head.Truncated = begins_then (IsField most_u64 0x20) Want (begins_field most_u64 0x20) begins_want
begins_behind head.TooMany = begins_then (IsPrinted print_what 0x20) Limit (begins_printed print_what 0x20 Users) begins_limit
begins_behind head.BadTree = begins_image (λ cause. failure.Refused (refusal.BadTree cause)) (IsPrinted print_tree_cause 0x0A) (begins_printed print_tree_cause 0x0A Leaf)
begins_behind head.BadRule = begins_then (IsField most_u64 0x20) Cause (begins_field most_u64 0x20) begins_cause
begins_behind head.Fault = begins_image (λ slot. failure.Refused (refusal.Fault slot)) (IsField 255 0x0A) (begins_field 255 0x0A)
begins_behind head.Damaged = begins_then (IsField 255 0x20) Size (begins_field 255 0x20) begins_size
begins_behind head.Code = begins_image failure.Code IsSignedLine begins_signed

IsCode-plain : (f : Failure) → IsCode (IsBehind (head.Plain f))
IsCode-plain f = record { only = λ s t u v a b e p q. (p.0 ∙ sym q.0, p.1 ∙ sym q.1) }

pub IsCode-behind : (h : Head) → IsCode (IsBehind h)
IsCode-behind (head.Plain f) = IsCode-plain f
IsCode-behind (head.Numbered k) = IsCode-Image (λ n. failure.Refused (refusal_numbered k n)) (IsField most_u64 0x0A) (IsCode-field most_u64 0x0A last_u64)
IsCode-behind head.Truncated =
    IsCode-Then (IsField most_u64 0x20) Want (IsCode-field most_u64 0x20 mid_u64)
    (λ have. IsCode-Image (λ want. failure.Refused (refusal.Truncated have want)) (IsField most_u64 0x0A) (IsCode-field most_u64 0x0A last_u64))
IsCode-behind head.TooMany =
    IsCode-Then (IsPrinted print_what 0x20) Limit IsCode-what
    (λ what. IsCode-Image (λ limit. failure.Refused (refusal.TooMany what limit)) (IsField most_u64 0x0A) (IsCode-field most_u64 0x0A last_u64))
IsCode-behind head.BadTree = IsCode-Image (λ cause. failure.Refused (refusal.BadTree cause)) (IsPrinted print_tree_cause 0x0A) IsCode-tree
IsCode-behind head.BadRule =
    IsCode-Then (IsField most_u64 0x20) Cause (IsCode-field most_u64 0x20 mid_u64)
    (λ place. IsCode-Image (λ cause. failure.Refused (refusal.BadRule place cause)) (IsPrinted print_rule_cause 0x0A) IsCode-rule)
IsCode-behind head.Fault = IsCode-Image (λ slot. failure.Refused (refusal.Fault slot)) (IsField 255 0x0A) (IsCode-field 255 0x0A last_u8)
IsCode-behind head.Damaged =
    IsCode-Then (IsField 255 0x20) Size (IsCode-field 255 0x20 mid_u8) (λ slot.
    IsCode-Then (IsField most_u64 0x20) (Recorded slot) (IsCode-field most_u64 0x20 mid_u64) (λ size.
    IsCode-Then (IsDigestField 0x20) (Len slot size) (IsCode-digest_field 0x20) (λ digest.
    IsCode-Then (IsField most_u64 0x20) (Found slot size digest) (IsCode-field most_u64 0x20 mid_u64) (λ len.
    IsCode-Image (λ found. failure.Refused (refusal.Damaged slot size digest len found)) (IsDigestField 0x0A) (IsCode-digest_field 0x0A)))))
IsCode-behind head.Code = IsCode-Image failure.Code IsSignedLine IsCode-signed

-- ---- the whole of a damaged file, step by step

pub damaged_size : (text : Text) (at next slot : ℕ) → IsRead (IsField 255 0x20) text at slot next → (r : Result (Failure × ℕ) ReplyError) → ReadsFrom (Size slot) text next r → ReadsFrom (IsBehind head.Damaged) text at r
damaged_size text at next slot h r = reads_then (IsField 255 0x20) Size (IsCode-field 255 0x20 mid_u8) text at next slot h r

pub damaged_recorded : (text : Text) (at next slot size : ℕ) → IsRead (IsField most_u64 0x20) text at size next → (r : Result (Failure × ℕ) ReplyError) → ReadsFrom (Recorded slot size) text next r → ReadsFrom (Size slot) text at r
damaged_recorded text at next slot size h r = reads_then (IsField most_u64 0x20) (Recorded slot) (IsCode-field most_u64 0x20 mid_u64) text at next size h r

pub damaged_len : (text : Text) (at next slot size : ℕ) (digest : Digest) → IsRead (IsDigestField 0x20) text at digest next → (r : Result (Failure × ℕ) ReplyError) → ReadsFrom (Len slot size digest) text next r → ReadsFrom (Recorded slot size) text at r
damaged_len text at next slot size digest h r = reads_then (IsDigestField 0x20) (Len slot size) (IsCode-digest_field 0x20) text at next digest h r

pub damaged_found : (text : Text) (at next slot size : ℕ) (digest : Digest) (len : ℕ) → IsRead (IsField most_u64 0x20) text at len next → (r : Result (Failure × ℕ) ReplyError) → ReadsFrom (Found slot size digest len) text next r → ReadsFrom (Len slot size digest) text at r
damaged_found text at next slot size digest len h r = reads_then (IsField most_u64 0x20) (Found slot size digest) (IsCode-field most_u64 0x20 mid_u64) text at next len h r
