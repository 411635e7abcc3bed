-- What begins a name, and where a text stops beginning one.
use Rattle.std.proofs.Common.{◌≡◌, ℕ, ◌<◌, ◌≤◌, true, false, [], ◌∷◌, ◌++◌, length, take, get_or, nat_lt, min, refl, sym, ap, ◌∙◌, subst, arith, length-append, inl, inr}
use Rattle.std.specs.Prelude.{not, ◌⊎◌, position, Option, unwrap_or, IsTrue}
use Rattle.std.specs.List.{list_all, position_or_len}
use Rattle.std.proofs.lemmas.Bool.{and_from, and_parts, ltb-true, lt-ltb, not-true, not-false, not_from_false, cases_lt, both_ways, false_from_ne_true}
use Rattle.std.proofs.lemmas.List.{append-nil, same_from_push, length-take-le, get_or-take, take_all}
use Rattle.std.proofs.lemmas.List.Folds.{list_all_at}
use Rattle.std.proofs.lemmas.List.Sums.{passes_at_first}
use Rattle.grid_model.specs.Names.{Text, is_name, is_name_byte, same_text, SpellsName}
use Rattle.grid_model.specs.Places.{Begins, IsRefusedAt}
use Rattle.grid_model.proofs.Comparing.{other_text}
use Rattle.grid_model.proofs.Fronts.{position_or_len-le, unwrap_or-position, list_all-front, list_all-first, list_all-both}

abbrev dot : Text
dot = 0x2E ∷ []

abbrev dots : Text
dots = 0x2E ∷ 0x2E ∷ []

-- the tests of a name, one by one
pub record IsName (t : Text) : Type 0 where
  pub some : 0 < length t
  pub few : length t < 256
  pub bytes : list_all is_name_byte t ≡ true
  pub not_dot : same_text t dot ≡ false
  pub not_dots : same_text t dots ≡ false

pub IsName-from_test : (t : Text) → IsTrue (is_name t) → IsName t
IsName-from_test t h =
    let a = and_parts _ (not (same_text t dots)) h in
    let b = and_parts _ (not (same_text t dot)) a.0 in
    let c = and_parts _ (list_all is_name_byte t) b.0 in
    let d = and_parts (nat_lt 0 (length t)) (nat_lt (length t) 256) c.0 in
    record {
      some = ltb-true _ _ d.0;
      few = ltb-true _ _ d.1;
      bytes = c.1;
      not_dot = not-true _ b.1;
      not_dots = not-true _ a.1;
    }

pub is_name-from : (t : Text) → IsName t → IsTrue (is_name t)
is_name-from t n =
    and_from _ _ (and_from _ _ (and_from _ _ (and_from _ _ (lt-ltb _ _ n.some) (lt-ltb _ _ n.few)) n.bytes) (not_from_false _ n.not_dot)) (not_from_false _ n.not_dots)

-- what begins a name has its bytes, and no more than 255
pub record MayBegin (t : Text) : Type 0 where
  pub bytes : list_all is_name_byte t ≡ true
  pub few : length t ≤ 255

pub MayBegin-from_name : (t more : Text) → IsTrue (is_name (t ++ more)) → MayBegin t
MayBegin-from_name t more h =
    let n = IsName-from_test (t ++ more) h in
    record { bytes = list_all-first is_name_byte t more n.bytes; few = omega (arith, n.few, length-append t more) }

-- and that is enough, since an `a` completes what is short
pub begins : (t : Text) → MayBegin t → Begins SpellsName t
begins t m = by (cases_lt (length t) 3)
  where
    spelled : (more : Text) → IsTrue (is_name (t ++ more)) → Begins SpellsName t
    spelled more h = record { more = more; value = t ++ more; spells = record { is = h; text_is = refl } }

    by : (length t < 3) ⊎ (3 ≤ length t) → Begins SpellsName t
    by (inl short) = spelled (0x61 ∷ []) (is_name-from (t ++ 0x61 ∷ []) (record {
      some = omega (arith, length-append t (0x61 ∷ []));
      few = omega (arith, short, length-append t (0x61 ∷ []));
      bytes = list_all-both is_name_byte t (0x61 ∷ []) m.bytes refl;
      not_dot = other_text (t ++ 0x61 ∷ []) dot (λ e. omega (arith, (same_from_push t [] 0x61 0x2E e).1));
      not_dots = other_text (t ++ 0x61 ∷ []) dots (λ e. omega (arith, (same_from_push t dot 0x61 0x2E e).1));
    }))
    by (inr long) = spelled [] (subst (λ s. IsTrue (is_name s)) (sym (append-nil t)) (is_name-from t (record {
      some = omega arith;
      few = omega (arith, m.few);
      bytes = m.bytes;
      not_dot = other_text t dot (λ e. omega (arith, long, ap length e));
      not_dots = other_text t dots (λ e. omega (arith, long, ap length e));
    })))

-- how much of the text may begin a name
abbrev pub begun : Text → ℕ
begun t = min (position_or_len (λ b. not (is_name_byte b)) t) 255

-- as `check_name` computes it
pub begun-computed : (t : Text) (o : Option ℕ) (n k : ℕ) → o ≡ position (λ b. not (is_name_byte b)) t → n ≡ unwrap_or o (length t) → k ≡ min n 255 → k ≡ begun t
begun-computed t o n k found all few =
    few ∙ ap (λ m. min m 255) (all ∙ ap (λ x. unwrap_or x (length t)) found ∙ unwrap_or-position (λ b. not (is_name_byte b)) t)

pub begun-le : (t : Text) → begun t ≤ length t
begun-le t = omega (arith, position_or_len-le (λ b. not (is_name_byte b)) t)

pub MayBegin-front : (t : Text) → MayBegin (take (begun t) t)
MayBegin-front t = record {
  bytes = list_all-front is_name_byte (λ b. not (is_name_byte b)) (λ b. not-false (is_name_byte b)) t (begun t) (omega arith);
  few = omega (arith, length-take-le (begun t) t (begun-le t));
}

no_longer : (t : Text) (n : ℕ) → begun t < n → n ≤ length t → MayBegin (take n t) → ⊥
no_longer t n more within m =
    let size = length-take-le n t within in
    let first = position_or_len (λ b. not (is_name_byte b)) t in
    let low : first < n = omega (arith, more, m.few, size) in
    let odd = not-true (is_name_byte (get_or t first 0)) (passes_at_first (λ b. not (is_name_byte b)) t 0 (omega (arith, low, within))) in
    both_ways _ (list_all_at is_name_byte (take n t) first 0 (omega (arith, low, size)) (ap is_name_byte (get_or-take n t first 0 low) ∙ odd)) m.bytes

-- a text that is no name stops there
pub IsRefusedAt-begun : (t : Text) → is_name t ≡ false → IsRefusedAt SpellsName t (begun t)
IsRefusedAt-begun t h = record {
  spells_nothing = λ a s. both_ways (is_name t) h (subst (λ x. IsTrue (is_name x)) (sym s.text_is) s.is);
  within = begun-le t;
  begins = begins (take (begun t) t) (MayBegin-front t);
  longest = λ n more within b.
      no_longer t n more within (MayBegin-from_name (take n t) b.more (subst (λ x. IsTrue (is_name x)) (sym b.spells.text_is) b.spells.is));
}

-- where it goes on behind that place it is no name
pub is_name-longer : (t : Text) → begun t < length t → is_name t ≡ false
is_name-longer t more =
    false_from_ne_true (is_name t) (λ h. no_longer t (length t) more (omega arith)
    (subst MayBegin (sym (take_all (length t) t (omega arith))) (MayBegin-from_name t [] (subst (λ x. IsTrue (is_name x)) (sym (append-nil t)) h))))

-- the texts that no item has
abbrev pub IsReserved : Text → Type 0
IsReserved t = (t ≡ []) ⊎ (t ≡ dot) ⊎ (t ≡ dots)

pub is_name-reserved : (t : Text) → IsReserved t → is_name t ≡ false
is_name-reserved t (inl e) = ap is_name e
is_name-reserved t (inr (inl e)) = ap is_name e
is_name-reserved t (inr (inr e)) = ap is_name e

-- any other text of these bytes is a name
pub is_name-whole : (t : Text) → length t ≤ begun t → (IsReserved t → ⊥) → IsTrue (is_name t)
is_name-whole t all free =
    let m = subst MayBegin (take_all (begun t) t all) (MayBegin-front t) in
    is_name-from t (record {
      some = by (cases_lt 0 (length t));
      few = omega (arith, m.few);
      bytes = m.bytes;
      not_dot = other_text t dot (λ e. free (inr (inl e)));
      not_dots = other_text t dots (λ e. free (inr (inr e)));
    })
  where
    none : (s : Text) → length s ≤ 0 → s ≡ []
    none [] h = refl
    none (b ∷ s) h = absurd (omega (arith, h))

    by : (0 < length t) ⊎ (length t ≤ 0) → 0 < length t
    by (inl h) = h
    by (inr h) = absurd (free (inl (none t h)))
