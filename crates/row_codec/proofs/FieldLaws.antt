-- The readers of fields.
use Rattle.std.proofs.Common.{◌≡◌, ℕ, zero, suc, ◌-◌, ◌^◌, ◌<◌, ◌≤◌, true, false, Bool, cond, eqb, ltb, List, [], ◌∷◌, ◌++◌, length, get_or, take, drop, Option, Some, None, Ok, Err, refl, sym, ap, subst, ◌∙◌, arith}
use Rattle.std.specs.Prelude.{replicate}
use Rattle.std.specs.List.{list_all, find}
use Rattle.std.specs.Int.{w32, w64, byte_at as byte_of, bytes_high_first, from_be_bytes, to_be_bytes}
use Rattle.std.proofs.lemmas.Bool.{and_parts, and_from, ltb-true, ltb-false, lt-ltb, le-ltb, eqb-true, eq-eqb}
use Rattle.std.proofs.lemmas.List.{append-nil, length-append, length-take, length-replicate, take-append-drop, take_at, drop_at}
use Rattle.std.proofs.lemmas.Nat.{be_bytes_4, be_bytes_8, from_be_bytes-to_be_bytes_4, from_be_bytes-to_be_bytes_8, mod_below}
use Rattle.grid_model.specs.Names.{Text}
use Rattle.grid_model.specs.Deltas.{is_byte, u8, u32, u64, four_bytes, eight_bytes, code_if, digest}
use Rattle.row_codec.specs.Codes.{value_numbered}
use Rattle.row_codec.specs.Reading.{Read, bind, and_then, give, byte_at, fixed_at, u32_at, u64_at, known_or, coded_at}
use Rattle.row_codec.proofs.ReaderLaws.{IsBytes, IsBytes-front, IsBytes-append, StopsAt, Law, ok_is, Law-refit, Law-map, IsPart}

-- ---- a byte

pub byte_part : IsPart byte_at u8
unfolding byte_at
byte_part = record { law = record { takes = takes; again = λ b rest fits. refl; stops = stops; some = 0; some_fits = refl } }
  where
    takes : (s : Text) (b : ℕ) (rest : Text) → IsBytes s → byte_at s ≡ Ok (b, rest) → (is_byte b ≡ true) × (s ≡ b ∷ [] ++ rest)
    takes [] b rest bytes e = absurd cc
    takes (c ∷ s) b rest bytes e =
        let both = and_parts (is_byte c) (list_all is_byte s) bytes in
        subst (λ (y : ℕ × Text). (is_byte y.0 ≡ true) × (c ∷ s ≡ y.0 ∷ y.1)) (ok_is (c, s) (b, rest) e) (both.0, refl)

    stops : (s : Text) (left : ℕ) → IsBytes s → byte_at s ≡ Err left → StopsAt byte_at (λ b. is_byte b ≡ true) (λ b. b ∷ []) s left
    stops [] left bytes e = record {
      front = [];
      behind = [];
      more = 0 ∷ [];
      value = 0;
      fits = refl;
      split = refl;
      left_is = cc;
      begins = refl;
      blocked = λ b tail rest is. absurd cc;
    }
    stops (c ∷ s) left bytes e = absurd cc

-- ---- a byte that stands for a value

module _ {A : Type 0} (number : A → ℕ) (may : A → Bool) (known : ℕ → Option A) (back : (a : A) → may a ≡ true → known (number a) ≡ Some a) (found : (n : ℕ) (a : A) → known n ≡ Some a → (may a ≡ true) × (number a ≡ n)) (some : A) (some_may : may some ≡ true) where
  coded_takes : (s : Text) (a : A) (rest : Text) → IsBytes s → coded_at known s ≡ Ok (a, rest) → (may a ≡ true) × (s ≡ number a ∷ [] ++ rest)
  unfolding coded_at
  coded_takes [] a rest bytes e = absurd cc
  coded_takes (b ∷ s) a rest bytes e = by (known b) refl e
    where
      by : (o : Option A) → known b ≡ o → known_or o s ≡ Ok (a, rest) → (may a ≡ true) × (b ∷ s ≡ number a ∷ rest)
      by (Some x) is h =
          let f = found b x is in
          subst (λ (y : A × Text). (may y.0 ≡ true) × (b ∷ s ≡ number y.0 ∷ y.1)) (ok_is (x, s) (a, rest) h) (f.0, ap (λ n. n ∷ s) (sym f.1))
      by None is h = absurd cc

  coded_stops : (s : Text) (left : ℕ) → IsBytes s → coded_at known s ≡ Err left → StopsAt (coded_at known) (λ a. may a ≡ true) (λ a. number a ∷ []) s left
  unfolding coded_at
  coded_stops [] left bytes e = record {
    front = [];
    behind = [];
    more = number some ∷ [];
    value = some;
    fits = some_may;
    split = refl;
    left_is = cc;
    begins = refl;
    blocked = λ b tail rest is. absurd cc;
  }
  coded_stops (b ∷ s) left bytes e = by (known b) refl e
    where
      by : (o : Option A) → known b ≡ o → known_or o s ≡ Err left → StopsAt (coded_at known) (λ a. may a ≡ true) (λ a. number a ∷ []) (b ∷ s) left
      by (Some x) is h = absurd cc
      by None is h = record {
        front = [];
        behind = b ∷ s;
        more = number some ∷ [];
        value = some;
        fits = some_may;
        split = refl;
        left_is = cc;
        begins = refl;
        blocked = λ c tail rest same. let head : c ≡ b = cc in (suc (length rest), ap (λ o. known_or o rest) (ap known head ∙ is));
      }

  pub coded_law : Law (coded_at known) (λ a. may a ≡ true) (λ a. number a ∷ [])
  unfolding coded_at
  coded_law = record { takes = coded_takes; again = λ a rest fits. ap (λ o. known_or o rest) (back a fits); stops = coded_stops; some = some; some_fits = some_may }

-- what was found passes the test, and is one of the list
find_passes : {A : Type 0} (p may : A → Bool) (all : List A) (a : A) → list_all may all ≡ true → find p all ≡ Some a → (may a ≡ true) × (p a ≡ true)
find_passes p may [] a h e = absurd cc
find_passes {A = A} p may (x ∷ all) a h e = by (p x) refl e (λ f. find_passes p may all a both.1 f)
  where
    both : (may x ≡ true) × (list_all may all ≡ true)
    both = and_parts (may x) (list_all may all) h

    by : (t : Bool) → p x ≡ t → cond t (Some x) (find p all) ≡ Some a → (find p all ≡ Some a → (may a ≡ true) × (p a ≡ true)) → (may a ≡ true) × (p a ≡ true)
    by true is f later = let same : x ≡ a = cc in (ap may (sym same) ∙ both.0, ap p (sym same) ∙ is)
    by false is f later = later f

pub coded_part : {A : Type 0} (number : A → ℕ) (may : A → Bool) (all : List A) → list_all may all ≡ true → ((a : A) → may a ≡ true → value_numbered number all (number a) ≡ Some a) → (some : A) → may some ≡ true
    → IsPart (coded_at (value_numbered number all)) (λ a. code_if (may a) (number a))
coded_part {A = A} number may all fits back some some_may = record { law = coded_law number may (value_numbered number all) back found some some_may }
  where
    found : (n : ℕ) (a : A) → value_numbered number all n ≡ Some a → (may a ≡ true) × (number a ≡ n)
    found n a e = let x = find_passes (λ b. eqb (number b) n) may all a fits e in (x.0, eqb-true _ _ x.1)

-- ---- so many bytes

guard_ok : {A : Type 0} (b : Bool) (k : ℕ) (x y : A × Text) → cond b (let r : Read A = Err k in r) (Ok x) ≡ Ok y → (b ≡ false) × (x ≡ y)
guard_ok true k x y e = absurd cc
guard_ok false k x y e = (refl, ok_is x y e)

guard_err : {A : Type 0} (b : Bool) (k left : ℕ) (x : A × Text) → cond b (let r : Read A = Err k in r) (Ok x) ≡ Err left → (b ≡ true) × (k ≡ left)
guard_err true k left x e = (refl, cc)
guard_err false k left x e = absurd cc

zeros : (n : ℕ) → IsBytes (replicate n 0)
zeros zero = refl
zeros (suc n) = zeros n

abbrev IsFixed : ℕ → Text → Type 0
IsFixed n t = (length t ≡ n) × IsBytes t

pub fixed_law : (n : ℕ) → Law (fixed_at n) (IsFixed n) (λ t. t)
unfolding fixed_at
fixed_law n = record { takes = takes; again = again; stops = stops; some = replicate n 0; some_fits = (length-replicate n 0, zeros n) }
  where
    takes : (s : Text) (t : Text) (rest : Text) → IsBytes s → fixed_at n s ≡ Ok (t, rest) → IsFixed n t × (s ≡ t ++ rest)
    takes s t rest bytes e =
        let g = guard_ok (ltb (length s) n) 0 (take n s, drop n s) (t, rest) e in
        let long : n ≤ length s = ltb-false _ _ g.0 in
        let split : s ≡ take n s ++ drop n s = sym (take-append-drop n s) in
        subst (λ (y : Text × Text). IsFixed n y.0 × (s ≡ y.0 ++ y.1)) g.1 ((omega (arith, length-take n s), IsBytes-front (take n s) (drop n s) (subst IsBytes split bytes)), split)

    again : (t rest : Text) → IsFixed n t → fixed_at n (t ++ rest) ≡ Ok (t, rest)
    again t rest fits =
        let len : length t ≡ n = fits.0 in
        let long : ltb (length (t ++ rest)) n ≡ false = le-ltb _ _ (omega (arith, length-append t rest)) in
        rw (long, take_at t rest n len, drop_at t rest n len) refl

    stops : (s : Text) (left : ℕ) → IsBytes s → fixed_at n s ≡ Err left → StopsAt (fixed_at n) (IsFixed n) (λ t. t) s left
    stops s left bytes e =
        let g = guard_err (ltb (length s) n) 0 left (take n s, drop n s) e in
        let short : length s < n = ltb-true _ _ g.0 in
        let more : Text = replicate (n - length s) 0 in
        let count : length more ≡ n - length s = length-replicate (n - length s) 0 in
        record {
          front = s;
          behind = [];
          more = more;
          value = s ++ more;
          fits = (omega (arith, length-append s more, count), IsBytes-append s more bytes (zeros (n - length s)));
          split = sym (append-nil s);
          left_is = g.1;
          begins = refl;
          blocked = λ b tail rest is. absurd cc;
        }

pub digest_part : IsPart (fixed_at 32) digest
digest_part = record {
  law = Law-refit (λ t h. and_from (eqb (length t) 32) (list_all is_byte t) (eq-eqb _ _ h.0) h.1) (λ t h. let both = and_parts (eqb (length t) 32) (list_all is_byte t) h in (eqb-true _ _ both.0, both.1)) (fixed_law 32);
}

-- ---- numbers

high_first : (k n : ℕ) → IsBytes (bytes_high_first k n)
high_first zero n = refl
high_first (suc k) n = and_from (is_byte (byte_of k n)) (list_all is_byte (bytes_high_first k n)) (by k) (high_first k n)
  where
    by : (k : ℕ) → is_byte (byte_of k n) ≡ true
    by zero = lt-ltb _ _ (mod_below n 256 (omega arith))
    by (suc k) = lt-ltb _ _ (mod_below _ 256 (omega arith))

each_below : (s : Text) → IsBytes s → (i : ℕ) → get_or s i 0 < 256
each_below [] h i = omega arith
each_below (b ∷ s) h zero = ltb-true _ _ (and_parts (is_byte b) (list_all is_byte s) h).0
each_below (b ∷ s) h (suc i) = each_below s (and_parts (is_byte b) (list_all is_byte s) h).1 i

-- a number made of so many bytes
fixed_map : (n : ℕ) (g : Text → ℕ) (s : Text) → and_then (fixed_at n) (λ t. give (g t)) s ≡ cond (ltb (length s) n) (Err 0) (Ok (g (take n s), drop n s))
unfolding fixed_at and_then give
fixed_map n g s = by (ltb (length s) n)
  where
    by : (b : Bool) → bind (cond b (let r : Read Text = Err 0 in r) (Ok (take n s, drop n s))) (λ t rest. Ok (g t, rest)) ≡ cond b (Err 0) (Ok (g (take n s), drop n s))
    by true = refl
    by false = refl

pub u32_part : IsPart u32_at u32
unfolding u32_at four_bytes
u32_part = record { law = subst (λ p. Law p (λ n. ltb n (2 ^ 32) ≡ true) four_bytes) (λ i s. fixed_map 4 (from_be_bytes w32) s i) (Law-map (from_be_bytes w32) (fixed_law 4) join parts) }
  where
    join : (t : Text) → IsFixed 4 t → (ltb (from_be_bytes w32 t) (2 ^ 32) ≡ true) × (to_be_bytes w32 (from_be_bytes w32 t) ≡ t)
    join t h =
        let below = each_below t h.1 in
        (lt-ltb _ _ (omega (arith, below 0, below 1, below 2, below 3)), be_bytes_4 t _ h.0 below refl)

    parts : (n : ℕ) → ltb n (2 ^ 32) ≡ true → (t : Text) × IsFixed 4 t × (n ≡ from_be_bytes w32 t)
    parts n h = (to_be_bytes w32 n, (refl, high_first 4 n), sym (from_be_bytes-to_be_bytes_4 n (ltb-true _ _ h)))

pub u64_part : IsPart u64_at u64
unfolding u64_at eight_bytes
u64_part = record { law = subst (λ p. Law p (λ n. ltb n (2 ^ 64) ≡ true) eight_bytes) (λ i s. fixed_map 8 (from_be_bytes w64) s i) (Law-map (from_be_bytes w64) (fixed_law 8) join parts) }
  where
    join : (t : Text) → IsFixed 8 t → (ltb (from_be_bytes w64 t) (2 ^ 64) ≡ true) × (to_be_bytes w64 (from_be_bytes w64 t) ≡ t)
    join t h =
        let below = each_below t h.1 in
        (lt-ltb _ _ (omega (arith, below 0, below 1, below 2, below 3, below 4, below 5, below 6, below 7)), be_bytes_8 t _ h.0 below refl)

    parts : (n : ℕ) → ltb n (2 ^ 64) ≡ true → (t : Text) × IsFixed 8 t × (n ≡ from_be_bytes w64 t)
    parts n h = (to_be_bytes w64 n, (refl, high_first 8 n), sym (from_be_bytes-to_be_bytes_8 n (ltb-true _ _ h)))
