-- Reading marks.
use Rattle.std.proofs.Common.{◌≡◌, ℕ, zero, suc, List, [], ◌∷◌, ◌++◌, Ok, Err, refl, sym, ap, ◌∙◌, subst, arith, lit<, lit≤, append_assoc}
use Rattle.std.specs.Prelude.{Result, codes, decimal, flat_map}
use Rattle.std.proofs.lemmas.List.{append-nil}
use Rattle.std.proofs.lemmas.List.Concat.{flat_map-append}
use Rattle.grid_model.specs.Names.{Text}
use Rattle.grid_model.specs.Digests.{Digest, checksum}
use Rattle.grid_model.specs.Places.{Begins}
use Rattle.grid_model.specs.Printing.{spaced}
use Rattle.grid_model.specs.Replies.{bad_words}
use Rattle.grid_model.specs.declared.marks.BadReplica.{BadReplica}
use Rattle.grid_model.specs.declared.marks.Mark.{Mark}
use Rattle.grid_model.specs.declared.marks.Mark.TheVariants as mark
use Rattle.cmd_reply.specs.Spaced.{after_space}
use Rattle.cmd_reply.proofs.Spacing.{spaced-cons}
use Rattle.reply_fields.specs.declared.error.ReplyError.{ReplyError}
use Rattle.reply_fields.specs.Fronts.{IsRead, ReadsFrom, Then}
use Rattle.reply_fields.specs.Spelled.{IsNameOf, IsNumber}
use Rattle.reply_fields.proofs.Codes.{IsCode, IsCode-Then, reads_first, reads_then}
use Rattle.reply_fields.proofs.ListReading.{either_end}
use Rattle.reply_fields.proofs.NameReading.{IsCode-names}
use Rattle.reply_fields.proofs.NumberReading.{IsCode-number}
use Rattle.reply_reader.specs.Failures.{most_u64}
use Rattle.reply_reader.specs.Fields.{IsDigestField, IsField}
use Rattle.reply_reader.specs.Images.{Image}
use Rattle.reply_reader.specs.MarkFields.{IsBadList, IsMark, IsRan, IsFault, IsBadMark}
use Rattle.reply_reader.proofs.Readings.{mapped, reads_as, IsCode-as, reads_image, IsCode-Image, begins_image, begins_then, first_unread}
use Rattle.reply_reader.proofs.FieldReading.{IsCode-field, begins_field, IsCode-digest_field, begins_digest_field}
use Rattle.reply_reader.proofs.FailureReading.{last_u64, mid_u64, mid_u8}
use Rattle.reply_reader.proofs.BadLists.{IsCode-bad_list, begins_bad_list, cut, printed}

-- ---- the fields of each

abbrev pub BadsBehind : ℕ → ℕ × ℕ → Text → Mark → Type 0
BadsBehind word now = Image (λ bad. mark.Ran word now.0 bad) (IsBadList now.1)

abbrev pub Now : ℕ → Text → Mark → Type 0
Now word = Then (IsNumber 0 most_u64 (0x20 ∷ 0x0A ∷ [])) (BadsBehind word)

abbrev pub Sent : ℕ → Text → Mark → Type 0
Sent slot = Image (λ sent. mark.Fault slot sent) (IsField most_u64 0x0A)

abbrev pub SentBad : ℕ → ℕ → Digest → Text → Mark → Type 0
SentBad slot len found = Image (λ sent. mark.Bad slot len found sent) (IsField most_u64 0x0A)

abbrev pub FoundMark : ℕ → ℕ → Text → Mark → Type 0
FoundMark slot len = Then (IsDigestField 0x20) (SentBad slot len)

abbrev pub LenMark : ℕ → Text → Mark → Type 0
LenMark slot = Then (IsField most_u64 0x20) (FoundMark slot)

IsCode-now : IsCode (IsNumber 0 most_u64 (0x20 ∷ 0x0A ∷ []))
IsCode-now = IsCode-number 0 most_u64 (0x20 ∷ 0x0A ∷ []) (record { small = omega arith; some = lit≤ tt; fits = lit< tt; any = omega arith; apart = refl })

begins_bads : (word : ℕ) (s : Text) (now : ℕ × ℕ) → IsNumber 0 most_u64 (0x20 ∷ 0x0A ∷ []) s now → Begins (BadsBehind word now) []
begins_bads word s now p = begins_image (λ bad. mark.Ran word now.0 bad) (IsBadList now.1) (begins_bad_list now.1 (either_end now.1 p.ends_is))

pub begins_now : (word : ℕ) → Begins (Now word) []
begins_now word = record {
  more = decimal 0 ++ 0x0A ∷ [];
  value = mark.Ran word 0 [];
  spells = record {
    first = decimal 0 ++ 0x0A ∷ [];
    second = [];
    begun = (0, 0x0A);
    split = sym (append-nil (decimal 0 ++ 0x0A ∷ []));
    spells_first = record { least_is = omega arith; most_is = omega arith; ends_is = refl; is = refl };
    spells_second = record { value = []; is = refl; spells = record { fits = tt; is = refl } };
  };
}

pub begins_sent : (slot : ℕ) → Begins (Sent slot) []
begins_sent slot = begins_image (λ sent. mark.Fault slot sent) (IsField most_u64 0x0A) (begins_field most_u64 0x0A)

pub begins_sent_bad : (slot len : ℕ) (found : Digest) → Begins (SentBad slot len found) []
begins_sent_bad slot len found = begins_image (λ sent. mark.Bad slot len found sent) (IsField most_u64 0x0A) (begins_field most_u64 0x0A)

pub begins_found_mark : (slot len : ℕ) → Begins (FoundMark slot len) []
begins_found_mark slot len = begins_then (IsDigestField 0x20) (SentBad slot len) (begins_digest_field 0x20) (begins_sent_bad slot len)

pub begins_len_mark : (slot : ℕ) → Begins (LenMark slot) []
begins_len_mark slot = begins_then (IsField most_u64 0x20) (FoundMark slot) (begins_field most_u64 0x20) (begins_found_mark slot)

pub IsCode-ran : IsCode IsRan
IsCode-ran =
    IsCode-Then (IsField most_u64 0x20) Now (IsCode-field most_u64 0x20 mid_u64) (λ word.
    IsCode-Then (IsNumber 0 most_u64 (0x20 ∷ 0x0A ∷ [])) (BadsBehind word) IsCode-now (λ now.
    IsCode-Image (λ bad. mark.Ran word now.0 bad) (IsBadList now.1) (IsCode-bad_list now.1)))

pub IsCode-fault : IsCode IsFault
IsCode-fault =
    IsCode-Then (IsField 255 0x20) Sent (IsCode-field 255 0x20 mid_u8) (λ slot.
    IsCode-Image (λ sent. mark.Fault slot sent) (IsField most_u64 0x0A) (IsCode-field most_u64 0x0A last_u64))

pub IsCode-bad_mark : IsCode IsBadMark
IsCode-bad_mark =
    IsCode-Then (IsField 255 0x20) LenMark (IsCode-field 255 0x20 mid_u8) (λ slot.
    IsCode-Then (IsField most_u64 0x20) (FoundMark slot) (IsCode-field most_u64 0x20 mid_u64) (λ len.
    IsCode-Then (IsDigestField 0x20) (SentBad slot len) (IsCode-digest_field 0x20) (λ found.
    IsCode-Image (λ sent. mark.Bad slot len found sent) (IsField most_u64 0x0A) (IsCode-field most_u64 0x0A last_u64))))

-- ---- step by step

pub ran_now : (text : Text) (at next word : ℕ) → IsRead (IsField most_u64 0x20) text at word next → (r : Result (Mark × ℕ) ReplyError) → ReadsFrom (Now word) text next r → ReadsFrom IsRan text at r
ran_now text at next word h r = reads_then (IsField most_u64 0x20) Now (IsCode-field most_u64 0x20 mid_u64) text at next word h r

pub now_unread : (text : Text) (at word : ℕ) (e : ReplyError) → ReadsFrom (IsNumber 0 most_u64 (0x20 ∷ 0x0A ∷ [])) text at (Err e) → ReadsFrom (Now word) text at (Err e)
now_unread text at word e h = reads_first (IsNumber 0 most_u64 (0x20 ∷ 0x0A ∷ [])) (BadsBehind word) text at e h (begins_bads word)

pub now_bads : (text : Text) (at next word : ℕ) (now : ℕ × ℕ) → IsRead (IsNumber 0 most_u64 (0x20 ∷ 0x0A ∷ [])) text at now next → (r : Result (List BadReplica × ℕ) ReplyError) → ReadsFrom (IsBadList now.1) text next r → ReadsFrom (Now word) text at (mapped (λ bad. mark.Ran word now.0 bad) r)
now_bads text at next word now h r rest = reads_then (IsNumber 0 most_u64 (0x20 ∷ 0x0A ∷ [])) (BadsBehind word) IsCode-now text at next now h (mapped (λ bad. mark.Ran word now.0 bad) r) (reads_image (λ bad. mark.Ran word now.0 bad) (IsBadList now.1) text next r rest)

pub bad_len : (text : Text) (at next slot : ℕ) → IsRead (IsField 255 0x20) text at slot next → (r : Result (Mark × ℕ) ReplyError) → ReadsFrom (LenMark slot) text next r → ReadsFrom IsBadMark text at r
bad_len text at next slot h r = reads_then (IsField 255 0x20) LenMark (IsCode-field 255 0x20 mid_u8) text at next slot h r

pub len_found : (text : Text) (at next slot len : ℕ) → IsRead (IsField most_u64 0x20) text at len next → (r : Result (Mark × ℕ) ReplyError) → ReadsFrom (FoundMark slot len) text next r → ReadsFrom (LenMark slot) text at r
len_found text at next slot len h r = reads_then (IsField most_u64 0x20) (FoundMark slot) (IsCode-field most_u64 0x20 mid_u64) text at next len h r

pub found_sent : (text : Text) (at next slot len : ℕ) (found : Digest) → IsRead (IsDigestField 0x20) text at found next → (r : Result (ℕ × ℕ) ReplyError) → ReadsFrom (IsField most_u64 0x0A) text next r → ReadsFrom (FoundMark slot len) text at (mapped (λ sent. mark.Bad slot len found sent) r)
found_sent text at next slot len found h r rest = reads_then (IsDigestField 0x20) (SentBad slot len) (IsCode-digest_field 0x20) text at next found h (mapped (λ sent. mark.Bad slot len found sent) r) (reads_image (λ sent. mark.Bad slot len found sent) (IsField most_u64 0x0A) text next r rest)

-- ---- which of them it is

abbrev pub mark_names : List Text
mark_names = codes "ran " ∷ codes "fault " ∷ codes "bad " ∷ (codes "stop" ++ 0x0A ∷ []) ∷ []

abbrev pub AfterMark : ℕ → Text → Mark → Type 0
AfterMark zero = IsRan
AfterMark (suc zero) = IsFault
AfterMark (suc (suc zero)) = IsBadMark
AfterMark (suc (suc (suc i))) = λ text m. (text ≡ []) × (m ≡ mark.Stop)

abbrev pub MarkThen : Text → Mark → Type 0
MarkThen = Then (IsNameOf mark_names) AfterMark

-- bad replicas as words behind spaces
bad_spaced : (bad : List BadReplica) → flat_map after_space (flat_map bad_words bad) ≡ flat_map (λ b. 0x20 ∷ spaced (bad_words b)) bad
bad_spaced [] = refl
bad_spaced (b ∷ bad) =
    flat_map-append after_space (bad_words b) (flat_map bad_words bad)
    ∙ (λ i. one i ++ bad_spaced bad i)
  where
    one : flat_map after_space (bad_words b) ≡ 0x20 ∷ spaced (bad_words b)
    one = ap (λ t. 0x20 ∷ codes "bad" ++ 0x20 ∷ t) (ap (λ t. decimal b.number ++ 0x20 ∷ t) (ap (λ t. decimal b.len ++ 0x20 ∷ t) (append-nil (checksum b.found))))

ran_fields : (word now end : ℕ) (bad : List BadReplica) (a b c : Text) → a ≡ decimal word ++ 0x20 ∷ [] → b ≡ decimal now ++ end ∷ [] → end ∷ c ≡ printed bad
    → a ++ (b ++ c) ≡ (decimal word ++ 0x20 ∷ spaced (decimal now ∷ flat_map bad_words bad)) ++ 0x0A ∷ []
ran_fields word now end bad a b c ae be ce =
    (λ i. ae i ++ (be i ++ c))
    ∙ ap (λ t. (decimal word ++ 0x20 ∷ []) ++ t) (append_assoc (decimal now) (end ∷ []) c ∙ ap (λ t. decimal now ++ t) ce ∙ sym (append_assoc (decimal now) (flat_map (λ b. 0x20 ∷ spaced (bad_words b)) bad) (0x0A ∷ []))
    ∙ ap (λ t. t ++ 0x0A ∷ []) (ap (λ t. decimal now ++ t) (sym (bad_spaced bad)) ∙ sym (spaced-cons (decimal now) (flat_map bad_words bad))))
    ∙ append_assoc (decimal word) (0x20 ∷ []) (spaced (decimal now ∷ flat_map bad_words bad) ++ 0x0A ∷ [])
    ∙ sym (append_assoc (decimal word) (0x20 ∷ spaced (decimal now ∷ flat_map bad_words bad)) (0x0A ∷ []))

fault_fields : (slot sent : ℕ) (a b : Text) → a ≡ decimal slot ++ 0x20 ∷ [] → b ≡ decimal sent ++ 0x0A ∷ [] → a ++ b ≡ (decimal slot ++ 0x20 ∷ decimal sent) ++ 0x0A ∷ []
fault_fields slot sent a b ae be = (λ i. ae i ++ be i) ∙ simp append_assoc

bad_mark_fields : (slot len sent : ℕ) (found : Digest) (a b c d : Text) → a ≡ decimal slot ++ 0x20 ∷ [] → b ≡ decimal len ++ 0x20 ∷ [] → c ≡ checksum found ++ 0x20 ∷ [] → d ≡ decimal sent ++ 0x0A ∷ []
    → a ++ (b ++ (c ++ d)) ≡ (decimal slot ++ 0x20 ∷ (decimal len ++ 0x20 ∷ (checksum found ++ 0x20 ∷ decimal sent))) ++ 0x0A ∷ []
bad_mark_fields slot len sent found a b c d ae be ce de = (λ i. ae i ++ (be i ++ (ce i ++ de i))) ∙ simp append_assoc

to_mark : (s : Text) (m : Mark) → MarkThen s m → IsMark s m
to_mark s m t = by t.begun t.spells_first t.spells_second
  where
    by : (i : ℕ) → IsNameOf mark_names t.first i → AfterMark i t.second m → IsMark s m
    by zero n p =
        let q = p.spells_second in
        let bad = q.spells_second in
        subst (IsMark s) (sym bad.is) (record {
          fits = (omega (arith, p.spells_first.most_is), omega (arith, q.spells_first.most_is), bad.spells.fits);
          is = t.split ∙ (λ i. n.is i ++ p.split i) ∙ (λ i. codes "ran " ++ (p.first ++ q.split i))
              ∙ ap (λ x. codes "ran " ++ x) (ran_fields p.begun q.begun.0 q.begun.1 bad.value p.first q.first q.second p.spells_first.is q.spells_first.is bad.spells.is);
        })
    by (suc zero) n p =
        let q = p.spells_second in
        subst (IsMark s) (sym q.is) (record {
          fits = (omega (arith, p.spells_first.most_is), omega (arith, q.spells.most_is));
          is = t.split ∙ (λ i. n.is i ++ p.split i) ∙ ap (λ x. codes "fault " ++ x) (fault_fields p.begun q.value p.first p.second p.spells_first.is q.spells.is);
        })
    by (suc (suc zero)) n p =
        let q = p.spells_second in
        let f = q.spells_second in
        let e = f.spells_second in
        subst (IsMark s) (sym e.is) (record {
          fits = (omega (arith, p.spells_first.most_is), omega (arith, q.spells_first.most_is), f.spells_first.is_digest, omega (arith, e.spells.most_is));
          is = t.split ∙ (λ i. n.is i ++ p.split i) ∙ (λ i. codes "bad " ++ (p.first ++ q.split i)) ∙ (λ i. codes "bad " ++ (p.first ++ (q.first ++ f.split i)))
              ∙ ap (λ x. codes "bad " ++ x) (bad_mark_fields p.begun q.begun e.value f.begun p.first q.first f.first f.second p.spells_first.is q.spells_first.is f.spells_first.is e.spells.is);
        })
    by (suc (suc (suc zero))) n p = subst (IsMark s) (sym p.1) (record { fits = tt; is = t.split ∙ (λ i. n.is i ++ p.0 i) })
    by (suc (suc (suc (suc i)))) n p = absurd (omega (arith, n.within))

from_mark : (s : Text) (m : Mark) → IsMark s m → MarkThen s m
from_mark s (mark.Ran word now bad) p =
    let c = cut bad in
    record {
      first = codes "ran ";
      second = (decimal word ++ 0x20 ∷ []) ++ ((decimal now ++ c.end ∷ []) ++ c.rest);
      begun = 0;
      split = p.is ∙ ap (λ x. codes "ran " ++ x) (sym (ran_fields word now c.end bad (decimal word ++ 0x20 ∷ []) (decimal now ++ c.end ∷ []) c.rest refl refl (sym c.is)));
      spells_first = record { within = lit< tt; is = refl };
      spells_second = record {
        first = decimal word ++ 0x20 ∷ [];
        second = (decimal now ++ c.end ∷ []) ++ c.rest;
        begun = word;
        split = refl;
        spells_first = record { most_is = omega (arith, p.fits.0); is = refl };
        spells_second = record {
          first = decimal now ++ c.end ∷ [];
          second = c.rest;
          begun = (now, c.end);
          split = refl;
          spells_first = record { least_is = omega arith; most_is = omega (arith, p.fits.1); ends_is = c.among; is = refl };
          spells_second = record { value = bad; is = refl; spells = record { fits = p.fits.2; is = sym c.is } };
        };
      };
    }
from_mark s (mark.Fault slot sent) p = record {
  first = codes "fault ";
  second = (decimal slot ++ 0x20 ∷ []) ++ (decimal sent ++ 0x0A ∷ []);
  begun = 1;
  split = p.is ∙ ap (λ x. codes "fault " ++ x) (sym (fault_fields slot sent (decimal slot ++ 0x20 ∷ []) (decimal sent ++ 0x0A ∷ []) refl refl));
  spells_first = record { within = lit< tt; is = refl };
  spells_second = record {
    first = decimal slot ++ 0x20 ∷ [];
    second = decimal sent ++ 0x0A ∷ [];
    begun = slot;
    split = refl;
    spells_first = record { most_is = omega (arith, p.fits.0); is = refl };
    spells_second = record { value = sent; is = refl; spells = record { most_is = omega (arith, p.fits.1); is = refl } };
  };
}
from_mark s (mark.Bad slot len found sent) p =
    let a = decimal slot ++ 0x20 ∷ [] in
    let b = decimal len ++ 0x20 ∷ [] in
    let c = checksum found ++ 0x20 ∷ [] in
    let d = decimal sent ++ 0x0A ∷ [] in
    record {
      first = codes "bad ";
      second = a ++ (b ++ (c ++ d));
      begun = 2;
      split = p.is ∙ ap (λ x. codes "bad " ++ x) (sym (bad_mark_fields slot len sent found a b c d refl refl refl refl));
      spells_first = record { within = lit< tt; is = refl };
      spells_second = record {
        first = a;
        second = b ++ (c ++ d);
        begun = slot;
        split = refl;
        spells_first = record { most_is = omega (arith, p.fits.0); is = refl };
        spells_second = record {
          first = b;
          second = c ++ d;
          begun = len;
          split = refl;
          spells_first = record { most_is = omega (arith, p.fits.1); is = refl };
          spells_second = record {
            first = c;
            second = d;
            begun = found;
            split = refl;
            spells_first = record { is_digest = p.fits.2; is = refl };
            spells_second = record { value = sent; is = refl; spells = record { most_is = omega (arith, p.fits.3); is = refl } };
          };
        };
      };
    }
from_mark s mark.Stop p = record { first = codes "stop" ++ 0x0A ∷ []; second = []; begun = 3; split = p.is; spells_first = record { within = lit< tt; is = refl }; spells_second = (refl, refl) }

as_mark : (text : Text) (at : ℕ) (r : Result (Mark × ℕ) ReplyError) → ReadsFrom MarkThen text at r → ReadsFrom IsMark text at (mapped (λ m. m) r)
as_mark = reads_as MarkThen IsMark (λ m. m) to_mark (λ s m p. (m, refl, from_mark s m p))

begins_after : (i : ℕ) → Begins (AfterMark i) []
begins_after zero = begins_then (IsField most_u64 0x20) Now (begins_field most_u64 0x20) begins_now
begins_after (suc zero) = begins_then (IsField 255 0x20) Sent (begins_field 255 0x20) begins_sent
begins_after (suc (suc zero)) = begins_then (IsField 255 0x20) LenMark (begins_field 255 0x20) begins_len_mark
begins_after (suc (suc (suc i))) = record { more = []; value = mark.Stop; spells = (refl, refl) }

IsCode-after : (i : ℕ) → IsCode (AfterMark i)
IsCode-after zero = IsCode-ran
IsCode-after (suc zero) = IsCode-fault
IsCode-after (suc (suc zero)) = IsCode-bad_mark
IsCode-after (suc (suc (suc i))) = record { only = λ s t u v a b e p q. (p.0 ∙ sym q.0, p.1 ∙ sym q.1) }

IsCode-mark_names : IsCode (IsNameOf mark_names)
IsCode-mark_names = IsCode-names mark_names refl

pub mark_unread : (text : Text) (at : ℕ) (e : ReplyError) → ReadsFrom (IsNameOf mark_names) text at (Err e) → ReadsFrom IsMark text at (Err e)
mark_unread text at e h = as_mark text at (Err e) (first_unread (IsNameOf mark_names) AfterMark begins_after text at e h)

pub mark_then : (text : Text) (at next i j : ℕ) → IsRead (IsNameOf mark_names) text at i next → i ≡ j → (r : Result (Mark × ℕ) ReplyError) → ReadsFrom (AfterMark j) text next r → ReadsFrom IsMark text at r
mark_then text at next i j h is (Ok r) rest = as_mark text at (Ok r) (reads_then (IsNameOf mark_names) AfterMark IsCode-mark_names text at next j (subst (λ k. IsRead (IsNameOf mark_names) text at k next) is h) (Ok r) rest)
mark_then text at next i j h is (Err e) rest = as_mark text at (Err e) (reads_then (IsNameOf mark_names) AfterMark IsCode-mark_names text at next j (subst (λ k. IsRead (IsNameOf mark_names) text at k next) is h) (Err e) rest)

pub stop_read : (text : Text) (at next i : ℕ) → IsRead (IsNameOf mark_names) text at i next → i ≡ 3 → IsRead IsMark text at mark.Stop next
stop_read text at next i h is = mark_then text at next i 3 h is (Ok (mark.Stop, next)) (record { forward = omega arith; within = h.within; front = record { spelled = []; split = refl; spells = (refl, refl) } })

pub IsCode-mark : IsCode IsMark
IsCode-mark = IsCode-as MarkThen IsMark (λ m. m) to_mark (λ s m p. (m, refl, from_mark s m p)) (IsCode-Then (IsNameOf mark_names) AfterMark IsCode-mark_names IsCode-after)

pub begins_mark : Begins IsMark []
begins_mark = record { more = codes "stop" ++ 0x0A ∷ []; value = mark.Stop; spells = record { fits = tt; is = refl } }
