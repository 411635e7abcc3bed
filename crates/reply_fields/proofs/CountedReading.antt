-- Reading counted bytes.
use Rattle.std.proofs.Common.{◌≡◌, ◌≢◌, ℕ, ◌+◌, ◌-◌, ◌<◌, ◌≤◌, Bool, true, false, [], ◌∷◌, ◌++◌, Err, length, take, drop, get_or, refl, sym, ap, ◌∙◌, subst, arith, length-append, append_assoc, replicate, inl, inr}
use Rattle.std.specs.Prelude.{◌⊎◌, ◌||◌, Result, ◌==◌, decimal}
use Rattle.std.proofs.lemmas.Bool.{cases_lt, eqb-true, false≢true}
use Rattle.std.proofs.lemmas.List.{append_cancel_left, take_all, take_at, take_more, length-drop, length-take-le, length-replicate, get_or-drop}
use Rattle.grid_model.specs.Names.{Text}
use Rattle.grid_model.specs.Places.{Begins}
use Rattle.reply_fields.specs.declared.error.ReplyError.{ReplyError}
use Rattle.reply_fields.specs.Fronts.{IsNoFieldFront, IsRead, IsUnreadField, ReadsFrom, Then}
use Rattle.reply_fields.specs.Spelled.{IsNumber, is_among_bytes}
use Rattle.reply_fields.specs.Counted.{IsCounted, IsDataPart}
use Rattle.reply_fields.proofs.Codes.{IsCode, IsCode-Then, IsCode-same, IsNoFieldFront-next, ReadsFrom-same, reads_first, reads_then}
use Rattle.reply_fields.proofs.NumberReading.{Bounds, IsCode-number}

same_front : (s t u v : Text) → length s ≡ length t → s ++ u ≡ t ++ v → (s ≡ t) × (u ≡ v)
same_front s t u v size e =
    let same : s ≡ t = sym (take_at s u (length s) refl) ∙ ap (take (length s)) e ∙ ap (λ n. take n (t ++ v)) size ∙ take_at t v (length t) refl in
    (same, append_cancel_left t u v (ap (λ x. x ++ u) (sym same) ∙ e))

pub IsCode-counted : (n : ℕ) → IsCode (IsCounted n)
IsCode-counted n = record {
  only = λ s t u v a b e p q.
      let whole : a ++ (0x0A ∷ [] ++ u) ≡ b ++ (0x0A ∷ [] ++ v) = sym (append_assoc a (0x0A ∷ []) u) ∙ ap (λ x. x ++ u) (sym p.is) ∙ e ∙ ap (λ x. x ++ v) q.is ∙ append_assoc b (0x0A ∷ []) v in
      let same = same_front a b (0x0A ∷ [] ++ u) (0x0A ∷ [] ++ v) (p.count_is ∙ sym q.count_is) whole in
      (p.is ∙ ap (λ x. x ++ 0x0A ∷ []) same.0 ∙ sym q.is, same.0);
}

-- what bytes are missing may be anything
begun : (n : ℕ) (front : Text) → length front ≤ n → Begins (IsCounted n) front
begun n front less = record {
  more = replicate (n - length front) 0 ++ 0x0A ∷ [];
  value = front ++ replicate (n - length front) 0;
  spells = record {
    count_is = length-append front (replicate (n - length front) 0) ∙ omega (arith, less, length-replicate (n - length front) (let z : ℕ = 0 in z));
    is = sym (append_assoc front (replicate (n - length front) 0) (0x0A ∷ []));
  };
}

short_of : (n : ℕ) (front : Text) → length front ≤ n → (bytes : Text) → ¬ IsCounted n front bytes
short_of n front less bytes p = omega (arith, less, ap length p.is, p.count_is, length-append bytes (0x0A ∷ []))

-- the text ends within the bytes
IsNoFieldFront-missing : (n : ℕ) (rest : Text) → length rest ≤ n → IsNoFieldFront (IsCounted n) rest (length rest)
IsNoFieldFront-missing n rest less =
    let whole : take (length rest) rest ≡ rest = take_all (length rest) rest (omega arith) in
    IsNoFieldFront-next (IsCounted n) (IsCode-counted n) rest (length rest) (omega arith) (begun n (take (length rest) rest) (omega (arith, less, ap length whole)))
    (short_of n (take (length rest) rest) (omega (arith, less, ap length whole))) (λ h. absurd (omega (arith, h)))

-- another byte stands where the newline should
IsNoFieldFront-newline : (n : ℕ) (rest : Text) → n < length rest → get_or rest n 0 ≢ 0x0A → IsNoFieldFront (IsCounted n) rest n
IsNoFieldFront-newline n rest within other =
    IsNoFieldFront-next (IsCounted n) (IsCode-counted n) rest n (omega (arith, within)) (begun n (take n rest) (omega (arith, cut))) (short_of n (take n rest) (omega (arith, cut))) next
  where
    cut : length (take n rest) ≡ n
    cut = length-take-le n rest (omega (arith, within))

    next : n < length rest → Begins (IsCounted n) (take (n + 1) rest) → ⊥
    next h b =
        let p = b.spells in
        let whole : take n rest ++ get_or rest n 0 ∷ b.more ≡ b.value ++ 0x0A ∷ [] =
        sym (append_assoc (take n rest) (get_or rest n 0 ∷ []) b.more) ∙ ap (λ t. t ++ b.more) (sym (take_more rest n 0 h)) ∙ p.is in
        let same = same_front (take n rest) b.value (get_or rest n 0 ∷ b.more) (0x0A ∷ []) (cut ∙ sym p.count_is) whole in
        other (ap (λ t. get_or t 0 0) same.1)

pub counted_missing : (text : Text) (start n : ℕ) → start ≤ length text → length text - start < n → IsUnreadField (IsCounted n) text start (length text)
counted_missing text start n inside less = record {
  forward = inside;
  none = subst (IsNoFieldFront (IsCounted n) (drop start text)) (length-drop start text) (IsNoFieldFront-missing n (drop start text) (omega (arith, less, length-drop start text)));
}

pub counted_ends : (text : Text) (start n : ℕ) → start + n ≤ length text → (start + n < length text → get_or text (start + n) 0 ≢ 0x0A) → IsUnreadField (IsCounted n) text start (start + n)
counted_ends text start n inside other = record {
  forward = omega arith;
  none = subst (IsNoFieldFront (IsCounted n) (drop start text)) count (by (cases_lt n (length (drop start text))));
}
  where
    count : n ≡ start + n - start
    count = omega arith

    by : (n < length (drop start text)) ⊎ (length (drop start text) ≤ n) → IsNoFieldFront (IsCounted n) (drop start text) n
    by (inl more) = IsNoFieldFront-newline n (drop start text) more (λ e. other (omega (arith, more, length-drop start text)) (sym (get_or-drop start text n 0) ∙ e))
    by (inr all) =
        let size : length (drop start text) ≡ n = omega (arith, all, inside, length-drop start text) in
        subst (IsNoFieldFront (IsCounted n) (drop start text)) size (IsNoFieldFront-missing n (drop start text) (omega (arith, all)))

-- ---- a data line behind its name

abbrev IsCount : Text → ℕ × ℕ → Type 0
IsCount = IsNumber 1 65536 (0x0A ∷ [])

bounds : Bounds 1 65536 (0x0A ∷ [])
bounds = record { small = omega arith; some = omega arith; fits = omega arith; any = omega arith; apart = refl }

pub only_newline : (b : ℕ) → is_among_bytes (0x0A ∷ []) b ≡ true → b ≡ 0x0A
only_newline b h = by (0x0A == b) refl
  where
    by : (x : Bool) → (0x0A == b) ≡ x → b ≡ 0x0A
    by true e = sym (eqb-true 0x0A b e)
    by false e = absurd (false≢true (ap (λ x. x || false) (sym e) ∙ h))

joined : (d bytes : Text) → (d ++ 0x0A ∷ []) ++ (bytes ++ 0x0A ∷ []) ≡ d ++ 0x0A ∷ bytes ++ 0x0A ∷ []
joined d bytes = append_assoc d (0x0A ∷ []) (bytes ++ 0x0A ∷ []) ∙ sym (append_assoc d (0x0A ∷ bytes) (0x0A ∷ []))

to_part : (s bytes : Text) → Then IsCount (λ r. IsCounted r.0) s bytes → IsDataPart s bytes
to_part s bytes t =
    let n = t.spells_first in
    let b = t.spells_second in
    record {
      some = omega (arith, n.least_is, b.count_is);
      most = omega (arith, n.most_is, b.count_is);
      is = t.split ∙ (λ i. n.is i ++ b.is i) ∙ (λ i. (decimal (sym b.count_is i) ++ only_newline t.begun.1 n.ends_is i ∷ []) ++ (bytes ++ 0x0A ∷ [])) ∙ joined (decimal (length bytes)) bytes;
    }

from_part : (s bytes : Text) → IsDataPart s bytes → Then IsCount (λ r. IsCounted r.0) s bytes
from_part s bytes p = record {
  first = decimal (length bytes) ++ 0x0A ∷ [];
  second = bytes ++ 0x0A ∷ [];
  begun = (length bytes, 0x0A);
  split = p.is ∙ sym (joined (decimal (length bytes)) bytes);
  spells_first = record { least_is = p.some; most_is = p.most; ends_is = refl; is = refl };
  spells_second = record { count_is = refl; is = refl };
}

pub IsCode-data_part : IsCode IsDataPart
IsCode-data_part = IsCode-same (Then IsCount (λ r. IsCounted r.0)) IsDataPart to_part from_part (IsCode-Then IsCount (λ r. IsCounted r.0) (IsCode-number 1 65536 (0x0A ∷ []) bounds) (λ r. IsCode-counted r.0))

pub data_part_unread : (text : Text) (at : ℕ) (e : ReplyError) → ReadsFrom (IsNumber 1 65536 (0x0A ∷ [])) text at (Err e) → ReadsFrom IsDataPart text at (Err e)
data_part_unread text at e r =
    ReadsFrom-same (Then IsCount (λ r. IsCounted r.0)) IsDataPart to_part from_part text at (Err e) (reads_first IsCount (λ r. IsCounted r.0) text at e r (λ s a p. begun a.0 [] (omega arith)))

pub data_part_read : (text : Text) (at start : ℕ) (read : ℕ × ℕ) (r : Result (Text × ℕ) ReplyError) → IsRead (IsNumber 1 65536 (0x0A ∷ [])) text at read start → ReadsFrom (IsCounted read.0) text start r → ReadsFrom IsDataPart text at r
data_part_read text at start read r first then =
    ReadsFrom-same (Then IsCount (λ r. IsCounted r.0)) IsDataPart to_part from_part text at r (reads_then IsCount (λ r. IsCounted r.0) (IsCode-number 1 65536 (0x0A ∷ []) bounds) text at start read first r then)
