-- Reading numbers and digests, and the byte that ends them.
use Rattle.std.proofs.Common.{◌≡◌, ℕ, ◌^◌, ◌<◌, ◌≤◌, Bool, true, false, List, [], ◌∷◌, ◌++◌, Ok, Err, length, get_or, map, refl, sym, ap, ◌∙◌, subst, arith}
use Rattle.std.specs.Prelude.{◌==◌, ◌||◌, Result, decimal}
use Rattle.std.proofs.lemmas.Bool.{and_from, eqb-true, false≢true}
use Rattle.std.proofs.lemmas.List.{get_or-map, length-map}
use Rattle.std.proofs.Common.{eq-eqb}
use Rattle.grid_model.specs.Names.{Text}
use Rattle.grid_model.specs.Digests.{Digest, SpellsDigest}
use Rattle.grid_model.specs.Places.{Begins}
use Rattle.reply_fields.specs.declared.error.ReplyError.{ReplyError}
use Rattle.reply_fields.specs.Fronts.{IsRead, ReadsFrom, Then}
use Rattle.reply_fields.specs.Spelled.{IsNameOf, IsNumber, is_among_bytes, is_no_digit, are_apart}
use Rattle.reply_fields.proofs.Codes.{IsCode, IsCode-Then, reads_then}
use Rattle.reply_fields.proofs.DigestFronts.{IsCode-digest, IsNoFieldFront-digest}
use Rattle.reply_fields.proofs.NameReading.{IsCode-names}
use Rattle.reply_fields.proofs.NumberReading.{IsCode-number}
use Rattle.reply_reader.specs.Fields.{IsDigestField, IsField, IsPrinted}
use Rattle.reply_reader.specs.Images.{Image}
use Rattle.reply_reader.proofs.Readings.{mapped, reads_as, IsCode-as, begins_to, reads_image, IsCode-Image, begins_image, begins_then, first_unread}

-- ---- a byte of which there is one choice

pub only_end : (e b : ℕ) → is_among_bytes (e ∷ []) b ≡ true → b ≡ e
only_end e b h = by (e == b) refl
  where
    by : (x : Bool) → (e == b) ≡ x → b ≡ e
    by true same = sym (eqb-true e b same)
    by false other = absurd (false≢true (ap (λ x. x || false) (sym other) ∙ h))

pub is_end : (e : ℕ) → is_among_bytes (e ∷ []) e ≡ true
is_end e = ap (λ x. x || false) (eq-eqb e e refl)

-- the one name that there is
pub IsCode-one : (name : Text) → IsCode (IsNameOf (name ∷ []))
IsCode-one name = IsCode-names (name ∷ []) refl

pub begins_one : (name : Text) → Begins (IsNameOf (name ∷ [])) []
begins_one name = record { more = name; value = 0; spells = record { within = omega arith; is = refl } }

pub name_is : (name s : Text) (i : ℕ) → IsNameOf (name ∷ []) s i → s ≡ name
name_is name s i p = let first : i ≡ 0 = omega (arith, p.within) in p.is ∙ ap (λ k. get_or (name ∷ []) k []) first

pub one_name : (name : Text) → IsNameOf (name ∷ []) name 0
one_name name = record { within = omega arith; is = refl }

-- ---- numbers

-- what a number and its end may be
pub record IsBound (most end : ℕ) : Type 0 where
  pub some : 1 ≤ most
  pub fits : most < 2 ^ 64
  pub apart : is_no_digit end ≡ true

module _ (most end : ℕ) where
  to_field : (s : Text) (r : ℕ × ℕ) → IsNumber 0 most (end ∷ []) s r → IsField most end s r.0
  to_field s r p = record { most_is = p.most_is; is = p.is ∙ ap (λ b. decimal r.0 ++ b ∷ []) (only_end end r.1 p.ends_is) }

  from_field : (s : Text) (n : ℕ) → IsField most end s n → (r : ℕ × ℕ) × (n ≡ r.0) × IsNumber 0 most (end ∷ []) s r
  from_field s n p = ((n, end), refl, record { least_is = omega arith; most_is = p.most_is; ends_is = is_end end; is = p.is })

  pub reads_field : (text : Text) (at : ℕ) (r : Result ((ℕ × ℕ) × ℕ) ReplyError) → ReadsFrom (IsNumber 0 most (end ∷ [])) text at r → ReadsFrom (IsField most end) text at (mapped (λ x. x.0) r)
  reads_field = reads_as (IsNumber 0 most (end ∷ [])) (IsField most end) (λ x. x.0) to_field from_field

  pub IsCode-field : IsBound most end → IsCode (IsField most end)
  IsCode-field bound = IsCode-as (IsNumber 0 most (end ∷ [])) (IsField most end) (λ x. x.0) to_field from_field
      (IsCode-number 0 most (end ∷ []) (record { small = omega arith; some = bound.some; fits = bound.fits; any = omega arith; apart = and_from (is_no_digit end) true bound.apart refl }))

  pub begins_field : Begins (IsField most end) []
  begins_field = record { more = decimal 0 ++ end ∷ []; value = 0; spells = record { most_is = omega arith; is = refl } }

-- ---- digests

pub begins_digest : Begins SpellsDigest []
begins_digest = (IsNoFieldFront-digest [] 0 (record { within = omega arith; most = omega arith; each = λ i h. absurd (omega (arith, h)); ends = λ g h. absurd (omega (arith, h)) }) (omega arith)).begins

module _ (end : ℕ) where
  DigestThen : Text → Digest → Type 0
  DigestThen = Then SpellsDigest (λ d. Image (λ _. d) (IsNameOf ((end ∷ []) ∷ [])))

  to_digest : (s : Text) (d : Digest) → Then SpellsDigest (λ d. Image (λ _. d) (IsNameOf ((end ∷ []) ∷ []))) s d → IsDigestField end s d
  to_digest s d t =
      let same : d ≡ t.begun = t.spells_second.is in
      subst (IsDigestField end s) (sym same) (record {
        is_digest = t.spells_first.is_digest;
        is = t.split ∙ (λ i. t.spells_first.text_is i ++ name_is (end ∷ []) t.second t.spells_second.value t.spells_second.spells i);
      })

  from_digest : (s : Text) (d : Digest) → IsDigestField end s d → (x : Digest) × (d ≡ x) × Then SpellsDigest (λ d. Image (λ _. d) (IsNameOf ((end ∷ []) ∷ []))) s x
  from_digest s d p = (
    d,
    refl,
    record {
      first = _;
      second = end ∷ [];
      begun = d;
      split = p.is;
      spells_first = record { is_digest = p.is_digest; text_is = refl };
      spells_second = record { value = 0; is = refl; spells = one_name (end ∷ []) };
    },
  )

  as_digest : (text : Text) (at : ℕ) (r : Result (Digest × ℕ) ReplyError) → ReadsFrom (Then SpellsDigest (λ d. Image (λ _. d) (IsNameOf ((end ∷ []) ∷ [])))) text at r → ReadsFrom (IsDigestField end) text at (mapped (λ d. d) r)
  as_digest = reads_as (Then SpellsDigest (λ d. Image (λ _. d) (IsNameOf ((end ∷ []) ∷ [])))) (IsDigestField end) (λ d. d) to_digest from_digest

  pub digest_unread : (text : Text) (at : ℕ) (e : ReplyError) → ReadsFrom SpellsDigest text at (Err e) → ReadsFrom (IsDigestField end) text at (Err e)
  digest_unread text at e r =
      as_digest text at (Err e) (first_unread SpellsDigest (λ d. Image (λ _. d) (IsNameOf ((end ∷ []) ∷ []))) (λ d. begins_image (λ _. d) (IsNameOf ((end ∷ []) ∷ [])) (begins_one (end ∷ []))) text at e r)

  pub digest_then : (text : Text) (at next : ℕ) (d : Digest) → IsRead SpellsDigest text at d next → (r : Result (ℕ × ℕ) ReplyError) → ReadsFrom (IsNameOf ((end ∷ []) ∷ [])) text next r → ReadsFrom (IsDigestField end) text at (mapped (λ _. d) r)
  digest_then text at next d first (Ok r) then =
      as_digest text at (Ok (d, r.1)) (reads_then SpellsDigest (λ d. Image (λ _. d) (IsNameOf ((end ∷ []) ∷ []))) IsCode-digest text at next d first (Ok (d, r.1)) (reads_image (λ _. d) (IsNameOf ((end ∷ []) ∷ [])) text next (Ok r) then))
  digest_then text at next d first (Err e) then =
      as_digest text at (Err e) (reads_then SpellsDigest (λ d. Image (λ _. d) (IsNameOf ((end ∷ []) ∷ []))) IsCode-digest text at next d first (Err e) (reads_image (λ _. d) (IsNameOf ((end ∷ []) ∷ [])) text next (Err e) then))

  pub IsCode-digest_field : IsCode (IsDigestField end)
  IsCode-digest_field = IsCode-as (Then SpellsDigest (λ d. Image (λ _. d) (IsNameOf ((end ∷ []) ∷ [])))) (IsDigestField end) (λ d. d) to_digest from_digest
      (IsCode-Then SpellsDigest (λ d. Image (λ _. d) (IsNameOf ((end ∷ []) ∷ []))) IsCode-digest (λ d. IsCode-Image (λ _. d) (IsNameOf ((end ∷ []) ∷ [])) (IsCode-one (end ∷ []))))

  pub begins_digest_field : Begins (IsDigestField end) []
  begins_digest_field = begins_to (Then SpellsDigest (λ d. Image (λ _. d) (IsNameOf ((end ∷ []) ∷ [])))) (IsDigestField end) (λ d. d) to_digest from_digest []
      (begins_then SpellsDigest (λ d. Image (λ _. d) (IsNameOf ((end ∷ []) ∷ []))) begins_digest (λ d. begins_image (λ _. d) (IsNameOf ((end ∷ []) ∷ [])) (begins_one (end ∷ []))))

-- ---- values by their names

module _ {V : Type 0} (print : V → Text) (end : ℕ) (values : List V) (d : V) (find : (v : V) → (i : ℕ) × (i < length values) × (get_or values i d ≡ v)) where
  abbrev pub printed_names : List Text
  printed_names = map (λ v. print v ++ end ∷ []) values

  to_printed : (s : Text) (i : ℕ) → IsNameOf printed_names s i → IsPrinted print end s (get_or values i d)
  to_printed s i p = record { is = p.is ∙ get_or-map (λ v. print v ++ end ∷ []) values i d [] (omega (arith, p.within, length-map values (λ v. print v ++ end ∷ []))) }

  from_printed : (s : Text) (v : V) → IsPrinted print end s v → (i : ℕ) × (v ≡ get_or values i d) × IsNameOf printed_names s i
  from_printed s v p =
      let f = find v in (
        f.0,
        sym f.2,
        record {
          within = omega (arith, f.1, length-map values (λ v. print v ++ end ∷ []));
          is = p.is ∙ ap (λ x. print x ++ end ∷ []) (sym f.2) ∙ sym (get_or-map (λ v. print v ++ end ∷ []) values f.0 d [] f.1);
        },
      )

  pub reads_printed : (text : Text) (at : ℕ) (r : Result (ℕ × ℕ) ReplyError) → ReadsFrom (IsNameOf printed_names) text at r → ReadsFrom (IsPrinted print end) text at (mapped (λ i. get_or values i d) r)
  reads_printed = reads_as (IsNameOf printed_names) (IsPrinted print end) (λ i. get_or values i d) to_printed from_printed

  pub IsCode-printed : are_apart printed_names ≡ true → IsCode (IsPrinted print end)
  IsCode-printed apart = IsCode-as (IsNameOf printed_names) (IsPrinted print end) (λ i. get_or values i d) to_printed from_printed (IsCode-names printed_names apart)

pub begins_printed : {V : Type 0} (print : V → Text) (end : ℕ) (v : V) → Begins (IsPrinted print end) []
begins_printed print end v = record { more = print v ++ end ∷ []; value = v; spells = record { is = refl } }
