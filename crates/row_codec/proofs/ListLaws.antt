-- The readers of lists and texts.
use Rattle.std.proofs.Common.{◌≡◌, ℕ, zero, suc, ◌+◌, ◌-◌, ◌^◌, true, false, Bool, cond, eqb, ltb, List, [], ◌∷◌, ◌++◌, length, take, drop, Option, Some, None, Ok, Err, refl, sym, ap, subst, ◌∙◌, arith}
use Rattle.std.specs.Prelude.{◌&&◌}
use Rattle.std.specs.List.{list_all, prefix_len, flat_map}
use Rattle.std.proofs.lemmas.Bool.{and_parts, and_from, eqb-true, eqb-false, eq-eqb, ne_eqb, cond-true}
use Rattle.grid_model.specs.Names.{Text}
use Rattle.grid_model.specs.Deltas.{Part, all_fit, joined, eight_bytes, is_shown_byte, is_rule_byte, sized_text, each}
use Rattle.row_codec.specs.declared.fields.Alphabet.{Alphabet}
use Rattle.row_codec.specs.declared.fields.Alphabet.TheVariants.{Shown, Rules}
use Rattle.row_codec.specs.Reading.{Read, bind, and_then, give, u64_at, known_or, coded_at, is_allowed, chars_at, text_at, many_at, list_at}
use Rattle.row_codec.proofs.ReaderLaws.{Law, ok_is, Law-refit, Law-map, Law-then, IsPart, IsRow, Any}
use Rattle.row_codec.proofs.FieldLaws.{coded_law, u64_part}

-- ---- so many members

module _ {A : Type 0} (read : Text → Read A) (may : A → Bool) (spell : A → Text) (law : Law read (λ x. may x ≡ true) spell) where
  abbrev AreSoMany : ℕ → List A → Type 0
  AreSoMany n xs = (length xs ≡ n) × (list_all may xs ≡ true)

  -- what is read behind the first member
  abbrev behind_first : List A → Text
  behind_first [] = []
  behind_first (x ∷ xs) = flat_map spell xs

  abbrev Later : ℕ → A → List A → Type 0
  Later n x b = (xs : List A) × (b ≡ x ∷ xs) × AreSoMany n xs

  none : Law (many_at read zero) (AreSoMany 0) (flat_map spell)
  unfolding many_at
  none = record {
    takes = λ s b rest bytes e. subst (λ (y : List A × Text). AreSoMany 0 y.0 × (s ≡ flat_map spell y.0 ++ y.1)) (ok_is ([], s) (b, rest) e) ((refl, refl), refl);
    again = again;
    stops = λ s left bytes e. absurd cc;
    some = [];
    some_fits = (refl, refl);
  }
    where
      again : (b : List A) (rest : Text) → AreSoMany 0 b → many_at read zero (flat_map spell b ++ rest) ≡ Ok (b, rest)
      again [] rest fits = refl
      again (x ∷ xs) rest fits = absurd (omega (arith, fits.0))

  one_more : (n : ℕ) → Law (many_at read n) (AreSoMany n) (flat_map spell) → Law (many_at read (suc n)) (AreSoMany (suc n)) (flat_map spell)
  unfolding many_at
  one_more n others = Law-then read (λ x. and_then (many_at read n) (λ xs. give (x ∷ xs))) (λ x. may x ≡ true) spell (Later n) (AreSoMany (suc n)) (flat_map spell) behind_first law (λ x fits. later x) join parts
    where
      later : (x : A) → Law (and_then (many_at read n) (λ xs. give (x ∷ xs))) (Later n x) behind_first
      later x = Law-map (λ xs. x ∷ xs) others (λ xs fits. ((xs, refl, fits), refl)) (λ b fits. (fits.0, fits.2, fits.1))

      join : (x : A) (b : List A) → may x ≡ true → Later n x b → AreSoMany (suc n) b × (flat_map spell b ≡ spell x ++ behind_first b)
      join x b fits l = subst (λ c. AreSoMany (suc n) c × (flat_map spell c ≡ spell x ++ behind_first c)) (sym l.1) ((ap suc l.2.0, and_from (may x) (list_all may l.0) fits l.2.1), refl)

      parts : (b : List A) → AreSoMany (suc n) b → (x : A) × (may x ≡ true) × Later n x b
      parts [] fits = absurd (omega (arith, fits.0))
      parts (x ∷ xs) fits = let both = and_parts (may x) (list_all may xs) fits.1 in (x, both.0, (xs, refl, (omega (arith, fits.0), both.1)))

  pub many_law : (n : ℕ) → Law (many_at read n) (λ xs. (length xs ≡ n) × (list_all may xs ≡ true)) (flat_map spell)
  many_law zero = none
  many_law (suc n) = one_more n (many_law n)

-- a number, and so many of what the second reader gives
counted : {A : Type 0} (f : ℕ → Text → Read (List A)) (may : List A → Bool) (spell : List A → Text) → ((n : ℕ) → Law (f n) (λ xs. (length xs ≡ n) × (may xs ≡ true)) spell)
    → IsPart (and_then u64_at f) (λ xs. record { fits = ltb (length xs) (2 ^ 64) && may xs; bytes = eight_bytes (length xs) ++ spell xs })
counted {A = A} f may spell laws = record {
  law = Law-then u64_at f (λ n. ltb n (2 ^ 64) ≡ true) eight_bytes (λ n xs. (length xs ≡ n) × (may xs ≡ true)) (λ xs. (ltb (length xs) (2 ^ 64) && may xs) ≡ true) (λ xs. eight_bytes (length xs) ++ spell xs) spell u64_part.law (λ n fits. laws n) join parts;
}
  where
    join : (n : ℕ) (xs : List A) → ltb n (2 ^ 64) ≡ true → (length xs ≡ n) × (may xs ≡ true) → ((ltb (length xs) (2 ^ 64) && may xs) ≡ true) × (eight_bytes (length xs) ++ spell xs ≡ eight_bytes n ++ spell xs)
    join n xs fits h = (and_from (ltb (length xs) (2 ^ 64)) (may xs) (ap (λ k. ltb k (2 ^ 64)) h.0 ∙ fits) h.1, ap (λ k. eight_bytes k ++ spell xs) h.0)

    parts : (xs : List A) → (ltb (length xs) (2 ^ 64) && may xs) ≡ true → (n : ℕ) × (ltb n (2 ^ 64) ≡ true) × ((length xs ≡ n) × (may xs ≡ true))
    parts xs h = let both = and_parts (ltb (length xs) (2 ^ 64)) (may xs) h in (length xs, both.0, (refl, both.1))

pub list_part : {A : Type 0} {read : Text → Read A} {row : A → List Part} → IsRow read Any row → IsPart (list_at read) (each row)
unfolding list_at
list_part {read = read} {row = row} r =
    counted (many_at read) (list_all (λ x. all_fit (row x))) (flat_map (λ x. joined (row x)))
    (many_law read (λ x. all_fit (row x)) (λ x. joined (row x)) (Law-refit (λ x h. h.1) (λ x h. (tt, h)) r.law))

-- ---- texts

-- a byte that passes a test
abbrev passing : (ℕ → Bool) → ℕ → Option ℕ
passing ok n = cond (ok n) (Some n) None

passes : (b : Bool) (n k : ℕ) → cond b (Some n) None ≡ Some k → (b ≡ true) × (n ≡ k)
passes true n k e = (refl, cc)
passes false n k e = absurd cc

module _ (ok : ℕ → Bool) (some : ℕ) (some_may : ok some ≡ true) where
  char_law : Law (coded_at (passing ok)) (λ b. ok b ≡ true) (λ b. b ∷ [])
  char_law = coded_law (λ n. n) ok (passing ok) (λ n h. cond-true (ok n) (Some n) None h) found some some_may
    where
      found : (n k : ℕ) → passing ok n ≡ Some k → (ok k ≡ true) × (k ≡ n)
      found n k e = let x = passes (ok n) n k e in (ap ok (sym x.1) ∙ x.0, sym x.1)

  -- the bytes of a text, one by one
  abbrev slowly : ℕ → Text → Read Text
  slowly = many_at (coded_at (passing ok))

  -- how far the bytes pass
  abbrev at_once : ℕ → Text → Read Text
  at_once n s = cond (eqb (prefix_len ok (take n s)) n) (Ok (take n s, drop n s)) (Err (length s - prefix_len ok (take n s)))

  one_char : (b : ℕ) (n : ℕ) (s : Text) → at_once n s ≡ slowly n s → at_once (suc n) (b ∷ s) ≡ slowly (suc n) (b ∷ s)
  unfolding many_at coded_at and_then give
  one_char b n s before = by (ok b) refl
    where
      goes : (t : Bool) → eqb (prefix_len ok (take n s)) n ≡ t → cond (eqb (1 + prefix_len ok (take n s)) (suc n)) (Ok (b ∷ take n s, drop n s)) (Err (suc (length s) - (1 + prefix_len ok (take n s)))) ≡ bind (at_once n s) (λ xs rest. Ok (b ∷ xs, rest))
      goes true is =
          let same : eqb (1 + prefix_len ok (take n s)) (suc n) ≡ true = eq-eqb _ _ (omega (arith, eqb-true _ _ is)) in
          rw (same, is) refl
      goes false is =
          let other : eqb (1 + prefix_len ok (take n s)) (suc n) ≡ false = ne_eqb _ _ (λ e. eqb-false _ _ is (omega (arith, e))) in
          let left : suc (length s) - (1 + prefix_len ok (take n s)) ≡ length s - prefix_len ok (take n s) = omega arith in
          rw (other, is) (ap (λ k. Err k) left)

      by : (t : Bool) → ok b ≡ t → cond (eqb (cond t (1 + prefix_len ok (take n s)) 0) (suc n)) (Ok (b ∷ take n s, drop n s)) (Err (suc (length s) - cond t (1 + prefix_len ok (take n s)) 0)) ≡ bind (known_or (cond t (Some b) None) s) (λ x rest. bind (slowly n rest) (λ xs behind. Ok (x ∷ xs, behind)))
      by true is = goes (eqb (prefix_len ok (take n s)) n) refl ∙ ap (λ r. bind r (λ xs rest. Ok (b ∷ xs, rest))) before
      by false is =
          let other : eqb 0 (suc n) ≡ false = ne_eqb _ _ (omega arith) in
          let left : suc (length s) - 0 ≡ suc (length s) = omega arith in
          rw other (ap (λ k. Err k) left)

  as_slowly : (n : ℕ) (s : Text) → at_once n s ≡ slowly n s
  unfolding many_at coded_at and_then give
  as_slowly zero s = refl
  as_slowly (suc n) [] = let other : eqb 0 (suc n) ≡ false = ne_eqb _ _ (omega arith) in rw other refl
  as_slowly (suc n) (b ∷ s) = one_char b n s (as_slowly n s)

  one_by_one : (t : Text) → flat_map (λ b. b ∷ []) t ≡ t
  one_by_one [] = refl
  one_by_one (b ∷ t) = ap (λ u. b ∷ u) (one_by_one t)

  chars_law : (n : ℕ) → Law (at_once n) (λ t. (length t ≡ n) × (list_all ok t ≡ true)) (λ t. t)
  chars_law n =
      subst (λ (r : Text → Read Text). Law r (λ t. (length t ≡ n) × (list_all ok t ≡ true)) (λ t. t)) (λ i s. sym (as_slowly n s) i)
      (subst (λ (spell : Text → Text). Law (slowly n) (λ t. (length t ≡ n) × (list_all ok t ≡ true)) spell) (λ i t. one_by_one t i) (many_law (coded_at (passing ok)) ok (λ b. b ∷ []) char_law n))

  pub text_law : IsPart (and_then u64_at at_once) (sized_text ok)
  text_law = counted at_once (list_all ok) (λ t. t) chars_law

pub text_part : (a : Alphabet) → IsPart (text_at a) (sized_text (is_allowed a))
unfolding text_at chars_at
text_part Shown = text_law is_shown_byte 0x20 refl
text_part Rules = text_law is_rule_byte 0x20 refl
