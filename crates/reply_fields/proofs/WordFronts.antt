-- Where the reading of a word stops, and what was read.
use Rattle.std.proofs.Common.{◌≡◌, ◌≢◌, ℕ, zero, suc, ◌+◌, ◌<◌, ◌≤◌, Bool, true, false, List, [], ◌∷◌, ◌++◌, length, take, drop, get_or, refl, sym, ap, ◌∙◌, subst, arith, length-append, append_assoc, inl, inr}
use Rattle.std.specs.Prelude.{◌⊎◌, not, ◌&&◌, ◌==◌, nat_le}
use Rattle.std.specs.List.{list_all, flat_map}
use Rattle.std.proofs.lemmas.Bool.{and_parts, and_from, false≢true, leb-true, le-leb}
use Rattle.std.proofs.lemmas.List.{append-nil, take_more, take-append-drop, length-take-le}
use Rattle.std.proofs.lemmas.List.Concat.{flat_map-append}
use Rattle.std.proofs.lemmas.List.Folds.{list_all-append}
use Rattle.grid_model.specs.Names.{Text}
use Rattle.grid_model.specs.Places.{Begins}
use Rattle.grid_model.specs.Words.{is_bare, is_bare_byte, is_escaped, is_word_byte, quote_byte, quoted_word}
use Rattle.grid_model.specs.Writable.{is_word}
use Rattle.reply_fields.specs.Fronts.{IsFieldFront, IsNoFieldFront}
use Rattle.reply_fields.specs.Spelled.{IsEndedWord, IsNoInnerByte, HasBareFront, is_among_bytes}
use Rattle.reply_fields.proofs.Codes.{IsNoFieldFront-next}
use Rattle.reply_fields.proofs.Decimals.{first_among}
use Rattle.reply_fields.proofs.WordReading.{Blanks, IsCode-word, Inside, Opened, opened, GoesOn, closes, escape, stands, goes_on, same_bare, bare_word_parts, bare_from_parts, written_bare, written_quoted, ended, tells}

-- a word with such a byte stands between quotes
quotes_for : (acc : Text) (c : ℕ) → is_bare_byte c ≡ false → is_bare (acc ++ c ∷ []) ≡ false
quotes_for acc c none = by (is_bare (acc ++ c ∷ [])) refl
  where
    by : (x : Bool) → is_bare (acc ++ c ∷ []) ≡ x → is_bare (acc ++ c ∷ []) ≡ false
    by false e = e
    by true e =
        let last = (and_parts (list_all is_bare_byte acc) (list_all is_bare_byte (c ∷ [])) (sym (list_all-append is_bare_byte acc (c ∷ [])) ∙ (bare_word_parts (acc ++ c ∷ []) e).1)).1 in
        absurd (false≢true (sym none ∙ (and_parts (is_bare_byte c) true last).0))

word_more : (acc : Text) (c : ℕ) → is_word acc ≡ true → is_word_byte c ≡ true → is_word (acc ++ c ∷ []) ≡ true
word_more acc c words one = list_all-append is_word_byte acc (c ∷ []) ∙ and_from (is_word acc) (is_word_byte c && true) words (and_from (is_word_byte c) true one refl)

quote_more : (front acc : Text) (c : ℕ) → front ≡ 0x22 ∷ flat_map quote_byte acc → front ++ quote_byte c ≡ 0x22 ∷ flat_map quote_byte (acc ++ c ∷ [])
quote_more front acc c is = ap (λ t. t ++ quote_byte c) is ∙ ap (λ t. 0x22 ∷ t) (sym (flat_map-append quote_byte acc (c ∷ []) ∙ ap (λ t. flat_map quote_byte acc ++ t) (append-nil (quote_byte c))))

bare_is_word : (w : Text) → list_all is_bare_byte w ≡ true → is_word w ≡ true
bare_is_word [] h = refl
bare_is_word (b ∷ w) h =
    let parts = and_parts (is_bare_byte b) (list_all is_bare_byte w) h in
    let first = and_parts (nat_le 0x21 b && not (b == 0x7F)) (not (b == 0x22)) parts.0 in
    let both = and_parts (nat_le 0x21 b) (not (b == 0x7F)) first.0 in
    and_from (is_word_byte b) (is_word w) (and_from (nat_le 0x20 b) (not (b == 0x7F)) (le-leb 0x20 b (omega (arith, leb-true 0x21 b both.0))) both.1) (bare_is_word w parts.1)

nothing : (t : Text) (n : ℕ) → n ≡ 0 → take n t ≡ []
nothing t n e = ap (λ k. take k t) e

cases_zero : (n : ℕ) → (n ≡ 0) ⊎ (0 < n)
cases_zero zero = inl refl
cases_zero (suc n) = inr (omega arith)

module _ (ends : List ℕ) (blanks : Blanks ends) where
  first : ℕ
  first = get_or ends 0 0

  -- a closing quote and an end
  closed_word : (front acc : Text) (e : ℕ) → front ≡ 0x22 ∷ flat_map quote_byte acc → is_word acc ≡ true → is_bare acc ≡ false → is_among_bytes ends e ≡ true → IsEndedWord ends (front ++ 0x22 ∷ e ∷ []) (acc, e)
  closed_word front acc e is words quotes end = record {
    word_is = words;
    ends_is = end;
    is = ap (λ t. t ++ 0x22 ∷ e ∷ []) is ∙ sym (append_assoc (0x22 ∷ flat_map quote_byte acc) (0x22 ∷ []) (e ∷ [])) ∙ ap (λ t. t ++ e ∷ []) (sym (written_quoted acc quotes));
  }

  begun_inside : (rest acc : Text) (len : ℕ) → Inside rest len acc → Begins (IsEndedWord ends) (take len rest)
  begun_inside rest acc len i = record {
    more = 0x20 ∷ 0x22 ∷ get_or ends 0 0 ∷ [];
    value = (acc ++ 0x20 ∷ [], get_or ends 0 0);
    spells = subst (λ t. IsEndedWord ends t (acc ++ 0x20 ∷ [], get_or ends 0 0)) (append_assoc (take len rest) (0x20 ∷ []) (0x22 ∷ get_or ends 0 0 ∷ []))
        (closed_word (take len rest ++ 0x20 ∷ []) (acc ++ 0x20 ∷ []) (get_or ends 0 0) (quote_more (take len rest) acc 0x20 i.front) (word_more acc 0x20 i.words refl) (quotes_for acc 0x20 refl) (first_among ends blanks.any));
  }

  begun_escape : (rest acc : Text) (len : ℕ) → Inside rest len acc → Begins (IsEndedWord ends) (take len rest ++ 0x5C ∷ [])
  begun_escape rest acc len i = record {
    more = 0x22 ∷ 0x22 ∷ get_or ends 0 0 ∷ [];
    value = (acc ++ 0x22 ∷ [], get_or ends 0 0);
    spells = subst (λ t. IsEndedWord ends t (acc ++ 0x22 ∷ [], get_or ends 0 0))
        (append_assoc (take len rest) (0x5C ∷ 0x22 ∷ []) (0x22 ∷ get_or ends 0 0 ∷ []) ∙ sym (append_assoc (take len rest) (0x5C ∷ []) (0x22 ∷ 0x22 ∷ get_or ends 0 0 ∷ [])))
        (closed_word (take len rest ++ 0x5C ∷ 0x22 ∷ []) (acc ++ 0x22 ∷ []) (get_or ends 0 0) (quote_more (take len rest) acc 0x22 i.front) (word_more acc 0x22 i.words refl) (quotes_for acc 0x22 refl) (first_among ends blanks.any));
  }

  begun_closed : (rest acc : Text) (len : ℕ) → Inside rest len acc → is_bare acc ≡ false → Begins (IsEndedWord ends) (take len rest ++ 0x22 ∷ [])
  begun_closed rest acc len i quotes = record {
    more = get_or ends 0 0 ∷ [];
    value = (acc, get_or ends 0 0);
    spells = subst (λ t. IsEndedWord ends t (acc, get_or ends 0 0)) (sym (append_assoc (take len rest) (0x22 ∷ []) (get_or ends 0 0 ∷ [])))
        (closed_word (take len rest) acc (get_or ends 0 0) i.front i.words quotes (first_among ends blanks.any));
  }

  opened_front : (front acc tail x : Text) (a : Text × ℕ) → front ≡ 0x22 ∷ flat_map quote_byte acc ++ tail → IsEndedWord ends (front ++ x) a → Opened acc (tail ++ x) a.0 a.1
  opened_front front acc tail x a is p = opened acc (tail ++ x) a.0 a.1 (sym (append_assoc (0x22 ∷ flat_map quote_byte acc) tail x) ∙ ap (λ t. t ++ x) (sym is) ∙ p.is)

  no_front : (rest acc tail : Text) (n : ℕ) → n ≤ length rest → take n rest ≡ 0x22 ∷ flat_map quote_byte acc ++ tail → length tail ≤ 1 → Begins (IsEndedWord ends) (take n rest)
      → (n < length rest → (x : Text) (a : Text × ℕ) → Opened acc (tail ++ get_or rest n 0 ∷ x) a.0 a.1 → is_word a.0 ≡ true → is_among_bytes ends a.1 ≡ true → ⊥) → IsNoFieldFront (IsEndedWord ends) rest n
  no_front rest acc tail n within is short begun stops = IsNoFieldFront-next (IsEndedWord ends) (IsCode-word ends blanks) rest n within begun unspelled next
    where
      unspelled : (a : Text × ℕ) → ¬ IsEndedWord ends (take n rest) a
      unspelled a p =
          let o = opened_front (take n rest) acc tail [] a is (subst (λ t. IsEndedWord ends t a) (sym (append-nil (take n rest))) p) in
          omega (arith, short, ap length (append-nil tail), ap length o.rest_is, length-append (flat_map quote_byte o.more) (0x22 ∷ a.1 ∷ []))

      next : n < length rest → Begins (IsEndedWord ends) (take (n + 1) rest) → ⊥
      next h b =
          let same : take (n + 1) rest ++ b.more ≡ take n rest ++ get_or rest n 0 ∷ b.more = ap (λ t. t ++ b.more) (take_more rest n 0 h) ∙ append_assoc (take n rest) (get_or rest n 0 ∷ []) b.more in
          let p = subst (λ t. IsEndedWord ends t b.value) same b.spells in
          stops h b.more b.value (opened_front (take n rest) acc tail (get_or rest n 0 ∷ b.more) b.value is p) p.word_is p.ends_is

  module _ (rest acc : Text) (len : ℕ) (i : Inside rest len acc) where
    front_is : take len rest ≡ 0x22 ∷ flat_map quote_byte acc ++ []
    front_is = i.front ∙ ap (λ t. 0x22 ∷ t) (sym (append-nil (flat_map quote_byte acc)))

    with_next : (c : ℕ) → len < length rest → get_or rest len 0 ≡ c → take (len + 1) rest ≡ take len rest ++ c ∷ []
    with_next c h is = take_more rest len 0 h ∙ ap (λ x. take len rest ++ x ∷ []) is

    -- the text ends there
    pub IsNoFieldFront-open : len ≡ length rest → IsNoFieldFront (IsEndedWord ends) rest len
    IsNoFieldFront-open all = no_front rest acc [] len i.short front_is (omega arith) (begun_inside rest acc len i) (λ h. absurd (omega (arith, h, all)))

    -- a quote that may not close the word yet
    pub IsNoFieldFront-quote : get_or rest len 0 ≡ 0x22 → is_bare acc ≡ true → IsNoFieldFront (IsEndedWord ends) rest len
    IsNoFieldFront-quote quote bare = no_front rest acc [] len i.short front_is (omega arith) (begun_inside rest acc len i)
        (λ h x a o words end. stops x a o (goes_on (get_or rest len 0) x o.more (a.1 ∷ []) o.rest_is))
      where
        stops : (x : Text) (a : Text × ℕ) (o : Opened acc (get_or rest len 0 ∷ x) a.0 a.1) → GoesOn (get_or rest len 0) x o.more (a.1 ∷ []) → ⊥
        stops x a o (closes c none r) = false≢true (sym o.quotes ∙ ap is_bare (o.word_is ∙ ap (λ t. acc ++ t) none ∙ append-nil acc) ∙ bare)
        stops x a o (escape d u c esc r) = omega (arith, c, quote)
        stops x a o (stands v plain is) = false≢true (sym plain ∙ ap is_escaped quote)

    -- a byte that may not stand there
    pub IsNoFieldFront-inner : len < length rest → get_or rest len 0 ≢ 0x22 → (place : ℕ) → IsNoInnerByte rest len place → IsNoFieldFront (IsEndedWord ends) rest place
    IsNoFieldFront-inner h no_quote place (inl none) = subst (IsNoFieldFront (IsEndedWord ends) rest) (sym none.0)
        (no_front rest acc [] len i.short front_is (omega arith) (begun_inside rest acc len i)
        (λ h x a o words end. stops x a o words (goes_on (get_or rest len 0) x o.more (a.1 ∷ []) o.rest_is)))
      where
        stops : (x : Text) (a : Text × ℕ) (o : Opened acc (get_or rest len 0 ∷ x) a.0 a.1) → is_word a.0 ≡ true → GoesOn (get_or rest len 0) x o.more (a.1 ∷ []) → ⊥
        stops x a o words (closes c empty r) = no_quote c
        stops x a o words (escape d u c esc r) = none.1 c
        stops x a o words (stands v plain is) =
            let later = (and_parts (is_word acc) (is_word (get_or rest len 0 ∷ v)) (sym (list_all-append is_word_byte acc (get_or rest len 0 ∷ v)) ∙ ap is_word (ap (λ t. acc ++ t) (sym is) ∙ sym o.word_is) ∙ words)).1 in
            false≢true (sym none.2 ∙ (and_parts (is_word_byte (get_or rest len 0)) (is_word v) later).0)
    IsNoFieldFront-inner h no_quote place (inr none) = subst (IsNoFieldFront (IsEndedWord ends) rest) (sym none.0)
        (no_front rest acc (0x5C ∷ []) (len + 1) (omega (arith, h)) front (omega arith) (subst (Begins (IsEndedWord ends)) (sym (with_next 0x5C h none.1)) (begun_escape rest acc len i))
        (λ h x a o words end. stops h x a o (goes_on 0x5C (get_or rest (len + 1) 0 ∷ x) o.more (a.1 ∷ []) o.rest_is)))
      where
        front : take (len + 1) rest ≡ 0x22 ∷ flat_map quote_byte acc ++ 0x5C ∷ []
        front = with_next 0x5C h none.1 ∙ ap (λ t. t ++ 0x5C ∷ []) i.front

        stops : len + 1 < length rest → (x : Text) (a : Text × ℕ) (o : Opened acc (0x5C ∷ get_or rest (len + 1) 0 ∷ x) a.0 a.1) → GoesOn 0x5C (get_or rest (len + 1) 0 ∷ x) o.more (a.1 ∷ []) → ⊥
        stops h x a o (closes c empty r) = omega (arith, c)
        stops h x a o (escape d u c esc r) = let same : get_or rest (len + 1) 0 ≡ d = cc in false≢true (sym (none.2 h) ∙ ap is_escaped same ∙ esc)
        stops h x a o (stands v plain is) = false≢true (sym plain)

    -- what stands behind the quote that closed the word ends none
    pub IsNoFieldFront-closed : len < length rest → get_or rest len 0 ≡ 0x22 → is_bare acc ≡ false → (len + 1 < length rest → ¬ (is_among_bytes ends (get_or rest (len + 1) 0) ≡ true)) → IsNoFieldFront (IsEndedWord ends) rest (len + 1)
    IsNoFieldFront-closed h quote quotes none =
        no_front rest acc (0x22 ∷ []) (len + 1) (omega (arith, h)) (with_next 0x22 h quote ∙ ap (λ t. t ++ 0x22 ∷ []) i.front) (omega arith) (subst (Begins (IsEndedWord ends)) (sym (with_next 0x22 h quote)) (begun_closed rest acc len i quotes))
        (λ g x a o words end. stops g x a o end (goes_on 0x22 (get_or rest (len + 1) 0 ∷ x) o.more (a.1 ∷ []) o.rest_is))
      where
        stops : len + 1 < length rest → (x : Text) (a : Text × ℕ) (o : Opened acc (0x22 ∷ get_or rest (len + 1) 0 ∷ x) a.0 a.1) → is_among_bytes ends a.1 ≡ true → GoesOn 0x22 (get_or rest (len + 1) 0 ∷ x) o.more (a.1 ∷ []) → ⊥
        stops g x a o end (closes c empty r) = let same : a.1 ≡ get_or rest (len + 1) 0 = cc in none g (ap (is_among_bytes ends) (sym same) ∙ end)
        stops g x a o end (escape d u c esc r) = omega (arith, c)
        stops g x a o end (stands v plain is) = false≢true (sym plain)

    pub IsFieldFront-quoted : len + 1 < length rest → get_or rest len 0 ≡ 0x22 → is_bare acc ≡ false → is_among_bytes ends (get_or rest (len + 1) 0) ≡ true → IsFieldFront (IsEndedWord ends) rest (acc, get_or rest (len + 1) 0) (drop (len + 1 + 1) rest)
    IsFieldFront-quoted h quote quotes end = record {
      spelled = take (len + 1 + 1) rest;
      split = sym (take-append-drop (len + 1 + 1) rest);
      spells = subst (λ t. IsEndedWord ends t (acc, get_or rest (len + 1) 0))
          (sym (take_more rest (len + 1) 0 h ∙ ap (λ t. t ++ get_or rest (len + 1) 0 ∷ []) (with_next 0x22 (omega (arith, h)) quote) ∙ append_assoc (take len rest) (0x22 ∷ []) (get_or rest (len + 1) 0 ∷ [])))
          (closed_word (take len rest) acc (get_or rest (len + 1) 0) i.front i.words quotes end);
    }

  -- ---- words without quotes

  module _ (rest : Text) (n : ℕ) (f : HasBareFront rest n) (no_quote : 0 < length rest → get_or rest 0 0 ≢ 0x22) where
    begun_bare : Begins (IsEndedWord ends) (take n rest)
    begun_bare = by (cases_zero n)
      where
        by : (n ≡ 0) ⊎ (0 < n) → Begins (IsEndedWord ends) (take n rest)
        by (inl z) = record {
          more = 0x61 ∷ get_or ends 0 0 ∷ [];
          value = (0x61 ∷ [], get_or ends 0 0);
          spells = record { word_is = refl; ends_is = first_among ends blanks.any; is = ap (λ t. t ++ 0x61 ∷ get_or ends 0 0 ∷ []) (nothing rest n z) };
        }
        by (inr some) = record {
          more = get_or ends 0 0 ∷ [];
          value = (take n rest, get_or ends 0 0);
          spells = record { word_is = bare_is_word (take n rest) f.bare; ends_is = first_among ends blanks.any; is = ap (λ t. t ++ get_or ends 0 0 ∷ []) (sym (written_bare (take n rest) (bare some))) };
        }
          where
            bare : 0 < n → is_bare (take n rest) ≡ true
            bare some = bare_from_parts (take n rest) (omega (arith, some, length-take-le n rest f.within)) f.bare

    -- what such a front begins is a word without quotes
    begins_bare : (c : ℕ) (x : Text) (a : Text × ℕ) → (n ≡ 0 → c ≢ 0x22) → take n rest ++ c ∷ x ≡ quoted_word a.0 ++ a.1 ∷ [] → is_bare a.0 ≡ true
    begins_bare c x a first_is e = by (is_bare a.0) refl
      where
        by : (y : Bool) → is_bare a.0 ≡ y → is_bare a.0 ≡ true
        by true bare = bare
        by false quotes = absurd (starts (take n rest) f.bare (λ none. first_is (omega (arith, ap length none, length-take-le n rest f.within))) (e ∙ ap (λ t. t ++ a.1 ∷ []) (written_quoted a.0 quotes)))
          where
            starts : (v : Text) → list_all is_bare_byte v ≡ true → (v ≡ [] → c ≢ 0x22) → v ++ c ∷ x ≡ (0x22 ∷ flat_map quote_byte a.0 ++ 0x22 ∷ []) ++ a.1 ∷ [] → ⊥
            starts [] all first_is g = first_is refl cc
            starts (d ∷ v) all first_is g = let same : d ≡ 0x22 = cc in tells is_bare_byte d 0x22 (and_parts (is_bare_byte d) (list_all is_bare_byte v) all).0 refl same

    unspelled_bare : (a : Text × ℕ) → ¬ IsEndedWord ends (take n rest) a
    unspelled_bare a p = by (is_bare a.0) refl
      where
        last : (w : Text) → list_all is_bare_byte (w ++ a.1 ∷ []) ≡ true → ⊥
        last w all =
            let one = (and_parts (list_all is_bare_byte w) (list_all is_bare_byte (a.1 ∷ [])) (sym (list_all-append is_bare_byte w (a.1 ∷ [])) ∙ all)).1 in
            false≢true (sym (ended ends blanks a.1 p.ends_is) ∙ (and_parts (is_bare_byte a.1) true one).0)

        by : (y : Bool) → is_bare a.0 ≡ y → ⊥
        by x e = last (quoted_word a.0) (ap (list_all is_bare_byte) (sym p.is) ∙ f.bare)

    -- the next byte ends no word
    pub IsNoFieldFront-bare : (0 < n → n < length rest → ¬ (is_among_bytes ends (get_or rest n 0) ≡ true)) → IsNoFieldFront (IsEndedWord ends) rest n
    IsNoFieldFront-bare none = IsNoFieldFront-next (IsEndedWord ends) (IsCode-word ends blanks) rest n f.within begun_bare unspelled_bare next
      where
        next : n < length rest → Begins (IsEndedWord ends) (take (n + 1) rest) → ⊥
        next h b =
            let p = b.spells in
            let c = get_or rest n 0 in
            let whole : take n rest ++ c ∷ b.more ≡ quoted_word b.value.0 ++ b.value.1 ∷ [] =
            sym (append_assoc (take n rest) (c ∷ []) b.more) ∙ ap (λ t. t ++ b.more) (sym (take_more rest n 0 h)) ∙ p.is in
            let bare = begins_bare c b.more b.value (λ z e. no_quote (omega (arith, h)) (ap (λ k. get_or rest k 0) (sym z) ∙ e)) whole in
            let parts = bare_word_parts b.value.0 bare in
            let same = same_bare (take n rest) b.value.0 c b.value.1 b.more [] f.bare parts.1 (f.ends h) (ended ends blanks b.value.1 p.ends_is) (whole ∙ ap (λ t. t ++ b.value.1 ∷ []) (written_bare b.value.0 bare)) in
            none (omega (arith, parts.0, ap length same.0, length-take-le n rest f.within)) h (ap (is_among_bytes ends) same.1 ∙ p.ends_is)

    pub IsFieldFront-bare : 0 < n → n < length rest → is_among_bytes ends (get_or rest n 0) ≡ true → IsFieldFront (IsEndedWord ends) rest (take n rest, get_or rest n 0) (drop (n + 1) rest)
    IsFieldFront-bare some h end = record {
      spelled = take (n + 1) rest;
      split = sym (take-append-drop (n + 1) rest);
      spells = record {
        word_is = bare_is_word (take n rest) f.bare;
        ends_is = end;
        is = take_more rest n 0 h ∙ ap (λ t. t ++ get_or rest n 0 ∷ []) (sym (written_bare (take n rest) (bare_from_parts (take n rest) (omega (arith, some, length-take-le n rest f.within)) f.bare)));
      };
    }
