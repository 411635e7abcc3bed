-- Reading bad replicas.
use Rattle.std.proofs.Common.{◌≡◌, ℕ, zero, suc, ◌<◌, true, List, [], ◌∷◌, ◌++◌, Ok, Err, length, get_or, refl, sym, ap, ◌∙◌, subst, arith, lit<, lit≤, append_assoc, inl, inr}
use Rattle.std.specs.Prelude.{◌⊎◌, Result, codes, decimal}
use Rattle.grid_model.specs.Names.{Text}
use Rattle.grid_model.specs.Digests.{Digest, SpellsDigest, checksum}
use Rattle.grid_model.specs.Places.{Begins}
use Rattle.grid_model.specs.Printing.{spaced}
use Rattle.grid_model.specs.Replies.{bad_words}
use Rattle.grid_model.specs.declared.marks.BadReplica.{BadReplica}
use Rattle.reply_fields.specs.declared.error.ReplyError.{ReplyError}
use Rattle.reply_fields.specs.Fronts.{IsRead, ReadsFrom, Then}
use Rattle.reply_fields.specs.Spelled.{IsNameOf, is_among_bytes}
use Rattle.reply_fields.proofs.Codes.{IsCode, IsCode-Then, reads_then}
use Rattle.reply_fields.proofs.DigestFronts.{IsCode-digest}
use Rattle.reply_fields.proofs.ListReading.{either_end}
use Rattle.reply_fields.proofs.NameReading.{IsCode-names}
use Rattle.reply_reader.specs.Failures.{most_u64}
use Rattle.reply_reader.specs.Fields.{IsField}
use Rattle.reply_reader.specs.Images.{Image}
use Rattle.reply_reader.specs.MarkFields.{IsBadReplica}
use Rattle.reply_reader.proofs.Readings.{mapped, reads_as, IsCode-as, begins_to, reads_image, IsCode-Image, begins_image, begins_then, first_unread}
use Rattle.reply_reader.proofs.FieldReading.{IsBound, IsCode-field, IsCode-one, begins_digest, begins_field, begins_one, name_is, one_name}
use Rattle.reply_reader.proofs.FailureReading.{mid_u64}

abbrev pub most_u32 : ℕ
most_u32 = 4294967295

mid_u32 : IsBound most_u32 0x20
mid_u32 = record { some = lit≤ tt; fits = lit< tt; apart = refl }

-- ---- one of them

abbrev pub ends : List Text
ends = (0x20 ∷ []) ∷ (0x0A ∷ []) ∷ []

abbrev end_at : ℕ → ℕ
end_at zero = 0x20
end_at (suc i) = 0x0A

abbrev pub Behind : ℕ → ℕ → Digest → Text → BadReplica × ℕ → Type 0
Behind number len found = Image (λ i. (record { number = number; len = len; found = found }, end_at i)) (IsNameOf ends)

abbrev pub FoundBad : ℕ → ℕ → Text → BadReplica × ℕ → Type 0
FoundBad number len = Then SpellsDigest (Behind number len)

abbrev pub LenBad : ℕ → Text → BadReplica × ℕ → Type 0
LenBad number = Then (IsField most_u64 0x20) (FoundBad number)

abbrev pub NumberBad : ℕ → Text → BadReplica × ℕ → Type 0
NumberBad i = Then (IsField most_u32 0x20) LenBad

abbrev pub BadThen : Text → BadReplica × ℕ → Type 0
BadThen = Then (IsNameOf (codes "bad " ∷ [])) NumberBad

bad_fields : (number len : ℕ) (found : Digest) (e : ℕ) (a b c d : Text) → a ≡ decimal number ++ 0x20 ∷ [] → b ≡ decimal len ++ 0x20 ∷ [] → c ≡ checksum found → d ≡ e ∷ []
    → a ++ (b ++ (c ++ d)) ≡ (decimal number ++ 0x20 ∷ (decimal len ++ 0x20 ∷ checksum found)) ++ e ∷ []
bad_fields number len found e a b c d ae be ce de = (λ i. ae i ++ (be i ++ (ce i ++ de i))) ∙ simp append_assoc

to_bad : (s : Text) (r : BadReplica × ℕ) → BadThen s r → IsBadReplica s r
to_bad s r t =
    let n = t.spells_second in
    let l = n.spells_second in
    let d = l.spells_second in
    let e = d.spells_second in
    subst (IsBadReplica s) (sym e.is) (record {
      fits = (omega (arith, n.spells_first.most_is), omega (arith, l.spells_first.most_is), d.spells_first.is_digest, tt);
      ends_is = among e.value e.spells;
      is = t.split ∙ (λ i. name_is (codes "bad ") t.first t.begun t.spells_first i ++ n.split i) ∙ (λ i. codes "bad " ++ (n.first ++ l.split i)) ∙ (λ i. codes "bad " ++ (n.first ++ (l.first ++ d.split i)))
          ∙ ap (λ x. codes "bad " ++ x) (bad_fields n.begun l.begun d.begun (end_at e.value) n.first l.first d.first d.second n.spells_first.is l.spells_first.is d.spells_first.text_is (last e.value d.second e.spells));
    })
  where
    among : {x : Text} (i : ℕ) → IsNameOf ends x i → is_among_bytes (0x20 ∷ 0x0A ∷ []) (end_at i) ≡ true
    among zero p = refl
    among (suc i) p = refl

    last : (i : ℕ) (x : Text) → IsNameOf ends x i → x ≡ end_at i ∷ []
    last zero x p = p.is
    last (suc zero) x p = p.is
    last (suc (suc i)) x p = absurd (omega (arith, p.within))

from_bad : (s : Text) (r : BadReplica × ℕ) → IsBadReplica s r → BadThen s r
from_bad s r p = by (either_end r.1 p.ends_is)
  where
    made : (i : ℕ) → i < length ends → r.1 ≡ end_at i → end_at i ∷ [] ≡ get_or ends i [] → BadThen s r
    made i within e last =
        let b = r.0 in
        let text : s ≡ codes "bad " ++ ((decimal b.number ++ 0x20 ∷ []) ++ ((decimal b.len ++ 0x20 ∷ []) ++ (checksum b.found ++ end_at i ∷ []))) =
        p.is ∙ ap (λ k. spaced (bad_words b) ++ k ∷ []) e
        ∙ ap (λ x. codes "bad " ++ x) (sym (bad_fields b.number b.len b.found (end_at i) (decimal b.number ++ 0x20 ∷ []) (decimal b.len ++ 0x20 ∷ []) (checksum b.found) (end_at i ∷ []) refl refl refl refl)) in
        record {
          first = codes "bad ";
          second = (decimal b.number ++ 0x20 ∷ []) ++ ((decimal b.len ++ 0x20 ∷ []) ++ (checksum b.found ++ end_at i ∷ []));
          begun = 0;
          split = text;
          spells_first = one_name (codes "bad ");
          spells_second = record {
            first = decimal b.number ++ 0x20 ∷ [];
            second = (decimal b.len ++ 0x20 ∷ []) ++ (checksum b.found ++ end_at i ∷ []);
            begun = b.number;
            split = refl;
            spells_first = record { most_is = omega (arith, p.fits.0); is = refl };
            spells_second = record {
              first = decimal b.len ++ 0x20 ∷ [];
              second = checksum b.found ++ end_at i ∷ [];
              begun = b.len;
              split = refl;
              spells_first = record { most_is = omega (arith, p.fits.1); is = refl };
              spells_second = record {
                first = checksum b.found;
                second = end_at i ∷ [];
                begun = b.found;
                split = refl;
                spells_first = record { is_digest = p.fits.2; text_is = refl };
                spells_second = record { value = i; is = (λ j. (b, e j)); spells = record { within = within; is = last } };
              };
            };
          };
        }

    by : (r.1 ≡ 0x0A) ⊎ (r.1 ≡ 0x20) → BadThen s r
    by (inl e) = made 1 (lit< tt) e refl
    by (inr e) = made 0 (lit< tt) e refl

as_bad : (text : Text) (at : ℕ) (r : Result ((BadReplica × ℕ) × ℕ) ReplyError) → ReadsFrom BadThen text at r → ReadsFrom IsBadReplica text at (mapped (λ x. x) r)
as_bad = reads_as BadThen IsBadReplica (λ x. x) to_bad (λ s r p. (r, refl, from_bad s r p))

begins_behind : (number len : ℕ) (found : Digest) → Begins (Behind number len found) []
begins_behind number len found = begins_image (λ i. (record { number = number; len = len; found = found }, end_at i)) (IsNameOf ends) (record { more = 0x20 ∷ []; value = 0; spells = record { within = lit< tt; is = refl } })

begins_found : (number len : ℕ) → Begins (FoundBad number len) []
begins_found number len = begins_then SpellsDigest (Behind number len) begins_digest (begins_behind number len)

begins_len : (number : ℕ) → Begins (LenBad number) []
begins_len number = begins_then (IsField most_u64 0x20) (FoundBad number) (begins_field most_u64 0x20) (begins_found number)

begins_number : (i : ℕ) → Begins (NumberBad i) []
begins_number i = begins_then (IsField most_u32 0x20) LenBad (begins_field most_u32 0x20) begins_len

pub begins_bad : Begins IsBadReplica []
begins_bad = begins_to BadThen IsBadReplica (λ x. x) to_bad (λ s r p. (r, refl, from_bad s r p)) [] (begins_then (IsNameOf (codes "bad " ∷ [])) NumberBad (begins_one (codes "bad ")) begins_number)

pub IsCode-bad : IsCode IsBadReplica
IsCode-bad = IsCode-as BadThen IsBadReplica (λ x. x) to_bad (λ s r p. (r, refl, from_bad s r p))
    (IsCode-Then (IsNameOf (codes "bad " ∷ [])) NumberBad (IsCode-one (codes "bad ")) (λ i.
    IsCode-Then (IsField most_u32 0x20) LenBad (IsCode-field most_u32 0x20 mid_u32) (λ number.
    IsCode-Then (IsField most_u64 0x20) (FoundBad number) (IsCode-field most_u64 0x20 mid_u64) (λ len.
    IsCode-Then SpellsDigest (Behind number len) IsCode-digest (λ found.
    IsCode-Image (λ i. (record { number = number; len = len; found = found }, end_at i)) (IsNameOf ends) (IsCode-names ends refl))))))

-- step by step
pub bad_unread : (text : Text) (at : ℕ) (e : ReplyError) → ReadsFrom (IsNameOf (codes "bad " ∷ [])) text at (Err e) → ReadsFrom IsBadReplica text at (Err e)
bad_unread text at e h = as_bad text at (Err e) (first_unread (IsNameOf (codes "bad " ∷ [])) NumberBad begins_number text at e h)

pub number_unread : (text : Text) (at : ℕ) (i : ℕ) (e : ReplyError) → ReadsFrom (IsField most_u32 0x20) text at (Err e) → ReadsFrom (NumberBad i) text at (Err e)
number_unread text at i e h = first_unread (IsField most_u32 0x20) LenBad begins_len text at e h

pub len_unread : (text : Text) (at number : ℕ) (e : ReplyError) → ReadsFrom (IsField most_u64 0x20) text at (Err e) → ReadsFrom (LenBad number) text at (Err e)
len_unread text at number e h = first_unread (IsField most_u64 0x20) (FoundBad number) (begins_found number) text at e h

pub found_unread : (text : Text) (at number len : ℕ) (e : ReplyError) → ReadsFrom SpellsDigest text at (Err e) → ReadsFrom (FoundBad number len) text at (Err e)
found_unread text at number len e h = first_unread SpellsDigest (Behind number len) (begins_behind number len) text at e h

pub bad_number : (text : Text) (at next i : ℕ) → IsRead (IsNameOf (codes "bad " ∷ [])) text at i next → (r : Result ((BadReplica × ℕ) × ℕ) ReplyError) → ReadsFrom (NumberBad i) text next r → ReadsFrom IsBadReplica text at r
bad_number text at next i h (Ok r) then = as_bad text at (Ok r) (reads_then (IsNameOf (codes "bad " ∷ [])) NumberBad (IsCode-one (codes "bad ")) text at next i h (Ok r) then)
bad_number text at next i h (Err e) then = as_bad text at (Err e) (reads_then (IsNameOf (codes "bad " ∷ [])) NumberBad (IsCode-one (codes "bad ")) text at next i h (Err e) then)

pub number_len : (text : Text) (at next i number : ℕ) → IsRead (IsField most_u32 0x20) text at number next → (r : Result ((BadReplica × ℕ) × ℕ) ReplyError) → ReadsFrom (LenBad number) text next r → ReadsFrom (NumberBad i) text at r
number_len text at next i number h r = reads_then (IsField most_u32 0x20) LenBad (IsCode-field most_u32 0x20 mid_u32) text at next number h r

pub len_found : (text : Text) (at next number len : ℕ) → IsRead (IsField most_u64 0x20) text at len next → (r : Result ((BadReplica × ℕ) × ℕ) ReplyError) → ReadsFrom (FoundBad number len) text next r → ReadsFrom (LenBad number) text at r
len_found text at next number len h r = reads_then (IsField most_u64 0x20) (FoundBad number) (IsCode-field most_u64 0x20 mid_u64) text at next len h r

pub found_behind : (text : Text) (at next number len : ℕ) (found : Digest) → IsRead SpellsDigest text at found next → (r : Result ((BadReplica × ℕ) × ℕ) ReplyError) → ReadsFrom (Behind number len found) text next r → ReadsFrom (FoundBad number len) text at r
found_behind text at next number len found h r = reads_then SpellsDigest (Behind number len) IsCode-digest text at next found h r

pub behind_unread : (text : Text) (at number len : ℕ) (found : Digest) (e : ReplyError) → ReadsFrom (IsNameOf ends) text at (Err e) → ReadsFrom (Behind number len found) text at (Err e)
behind_unread text at number len found e h = reads_image (λ i. (record { number = number; len = len; found = found }, end_at i)) (IsNameOf ends) text at (Err e) h

pub behind_space : (text : Text) (at next number len : ℕ) (found : Digest) (i : ℕ) → IsRead (IsNameOf ends) text at i next → i ≡ 0 → IsRead (Behind number len found) text at (record { number = number; len = len; found = found }, 0x20) next
behind_space text at next number len found i h is =
    reads_image (λ i. (record { number = number; len = len; found = found }, end_at i)) (IsNameOf ends) text at (Ok (0, next)) (subst (λ k. IsRead (IsNameOf ends) text at k next) is h)

pub behind_newline : (text : Text) (at next number len : ℕ) (found : Digest) (i : ℕ) → IsRead (IsNameOf ends) text at i next → 0 < i → IsRead (Behind number len found) text at (record { number = number; len = len; found = found }, 0x0A) next
behind_newline text at next number len found i h some =
    let is : i ≡ 1 = omega (arith, some, h.front.spells.within) in
    reads_image (λ i. (record { number = number; len = len; found = found }, end_at i)) (IsNameOf ends) text at (Ok (1, next)) (subst (λ k. IsRead (IsNameOf ends) text at k next) is h)
