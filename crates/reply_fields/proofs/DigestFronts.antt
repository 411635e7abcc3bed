-- Reading a printed digest.
use Rattle.std.proofs.Common.{◌≡◌, ℕ, zero, suc, ◌+◌, ◌-◌, ◌<◌, ◌≤◌, Bool, true, cond, [], ◌∷◌, ◌++◌, length, take, drop, get_or, refl, sym, ap, ◌∙◌, subst, arith, length-append, append_assoc, inl, inr, lt-ltb}
use Rattle.std.specs.Prelude.{◌⊎◌, ◌==◌, codes, nat_lt, replicate}
use Rattle.std.specs.List.{list_all}
use Rattle.std.proofs.lemmas.Bool.{cases_lt, and_parts, and_from, false≢true, eqb-true, le-ltb}
use Rattle.std.proofs.lemmas.List.{append-nil, append_cancel_left, append_cancel_right, take-append-drop, take_all, take_at, get_or_append_left, get_or-append-add, get_or-take, get_or-drop, length-take-le, length-drop}
use Rattle.base64.specs.Rfc4648.{encode_symbols, padding_len}
use Rattle.base64.specs.Alphabets.{standard}
use Rattle.grid_model.specs.Names.{Text}
use Rattle.grid_model.specs.Digests.{Digest, SpellsDigest, checksum}
use Rattle.reply_fields.specs.Fronts.{IsFieldFront, IsNoFieldFront}
use Rattle.reply_fields.specs.PrintedDigests.{is_symbol, is_last_symbol, may_stand_in_digest, HasDigestFront}
use Rattle.reply_fields.proofs.Codes.{IsCode}
use Rattle.reply_fields.proofs.Base64.{below, same_bytes, Decoded, decoded, Encoded, encoded}

-- the parts of a printed digest
record Parts (s : Text) : Type 0 where
  q : Text
  x : ℕ
  y : ℕ
  z : ℕ
  size : length q ≡ 40
  all : list_all is_symbol q ≡ true
  x_is : is_symbol x ≡ true
  y_is : is_symbol y ≡ true
  z_is : is_last_symbol z ≡ true
  is : s ≡ codes "sha2:" ++ (q ++ x ∷ y ∷ z ∷ 0x3D ∷ [])

padded : (d : Digest) → length d ≡ 32 → (symbols : Text) → encode_symbols standard.symbols d ≡ symbols → checksum d ≡ codes "sha2:" ++ (symbols ++ 0x3D ∷ [])
padded d size symbols e = (λ i. codes "sha2:" ++ (e i ++ replicate (padding_len (size i)) 0x3D))

parts_of : (s : Text) (d : Digest) → SpellsDigest s d → Parts s
parts_of s d p = by (encoded 10 d p.is_digest.length_is p.is_digest.bytes)
  where
    by : Encoded d 10 → Parts s
    by e = record {
      q = e.q;
      x = e.x;
      y = e.y;
      z = e.z;
      size = e.size;
      all = e.all;
      x_is = e.x_is;
      y_is = e.y_is;
      z_is = e.z_is;
      is = p.text_is ∙ padded d p.is_digest.length_is (e.q ++ e.x ∷ e.y ∷ e.z ∷ []) e.is ∙ ap (λ t. codes "sha2:" ++ t) (append_assoc e.q (e.x ∷ e.y ∷ e.z ∷ []) (0x3D ∷ []));
    }

digest_of : (s : Text) → Parts s → (d : Digest) × SpellsDigest s d
digest_of s p = by (decoded 10 p.q p.x p.y p.z p.size p.all p.x_is p.y_is p.z_is)
  where
    by : Decoded p.q p.x p.y p.z 32 → (d : Digest) × SpellsDigest s d
    by e = (
      e.m,
      record {
        is_digest = record { length_is = e.size; bytes = e.bytes };
        text_is = p.is ∙ ap (λ t. codes "sha2:" ++ t) (sym (append_assoc p.q (p.x ∷ p.y ∷ p.z ∷ []) (0x3D ∷ []))) ∙ sym (padded e.m e.size (p.q ++ p.x ∷ p.y ∷ p.z ∷ []) e.is);
      },
    )

-- ---- place by place

stands_symbol : (i b : ℕ) → 5 ≤ i → i < 47 → may_stand_in_digest i b ≡ is_symbol b
stands_symbol i b low high =
    ap (λ t. cond t (b == get_or (codes "sha2:") i 0) (cond (nat_lt i 47) (is_symbol b) (cond (nat_lt i 48) (is_last_symbol b) (b == 0x3D)))) (le-ltb i 5 low)
    ∙ ap (λ t. cond t (is_symbol b) (cond (nat_lt i 48) (is_last_symbol b) (b == 0x3D))) (lt-ltb i 47 high)

at_all : (p : ℕ → Bool) (xs : Text) (i : ℕ) → list_all p xs ≡ true → i < length xs → p (get_or xs i 0) ≡ true
at_all p [] i h within = absurd (omega (arith, within))
at_all p (x ∷ xs) zero h within = (and_parts (p x) (list_all p xs) h).0
at_all p (x ∷ xs) (suc i) h within = at_all p xs i (and_parts (p x) (list_all p xs) h).1 (omega (arith, within))

all_at : (p : ℕ → Bool) (xs : Text) → ((i : ℕ) → i < length xs → p (get_or xs i 0) ≡ true) → list_all p xs ≡ true
all_at p [] h = refl
all_at p (x ∷ xs) h = and_from (p x) (list_all p xs) (h 0 (omega arith)) (all_at p xs (λ i within. h (suc i) (omega (arith, within))))

behind : (q v : Text) (m : ℕ) → length q ≡ 40 → get_or (q ++ v) (40 + m) 0 ≡ get_or v m 0
behind q v m size = ap (λ n. get_or (q ++ v) (n + m) 0) (sym size) ∙ get_or-append-add q v m 0

stand_behind : (q : Text) (x y z j : ℕ) → length q ≡ 40 → list_all is_symbol q ≡ true → is_symbol x ≡ true → is_symbol y ≡ true → is_last_symbol z ≡ true → j < 44 → may_stand_in_digest (5 + j) (get_or (q ++ x ∷ y ∷ z ∷ 0x3D ∷ []) j 0) ≡ true
stand_behind q x y z j size all hx hy hz less = by (cases_lt j 40)
  where
    end : Text
    end = x ∷ y ∷ z ∷ 0x3D ∷ []

    last : (m : ℕ) → m < 4 → may_stand_in_digest (5 + (40 + m)) (get_or (q ++ x ∷ y ∷ z ∷ 0x3D ∷ []) (40 + m) 0) ≡ true
    last zero h = ap is_symbol (behind q (x ∷ y ∷ z ∷ 0x3D ∷ []) 0 size) ∙ hx
    last (suc zero) h = ap is_symbol (behind q (x ∷ y ∷ z ∷ 0x3D ∷ []) 1 size) ∙ hy
    last (suc (suc zero)) h = ap is_last_symbol (behind q (x ∷ y ∷ z ∷ 0x3D ∷ []) 2 size) ∙ hz
    last (suc (suc (suc zero))) h = ap (λ b. b == 0x3D) (behind q (x ∷ y ∷ z ∷ 0x3D ∷ []) 3 size)
    last (suc (suc (suc (suc m)))) h = absurd (omega (arith, h))

    by : (j < 40) ⊎ (40 ≤ j) → may_stand_in_digest (5 + j) (get_or (q ++ x ∷ y ∷ z ∷ 0x3D ∷ []) j 0) ≡ true
    by (inl low) =
        stands_symbol (5 + j) (get_or (q ++ x ∷ y ∷ z ∷ 0x3D ∷ []) j 0) (omega arith) (omega (arith, low))
        ∙ ap is_symbol (get_or_append_left q (x ∷ y ∷ z ∷ 0x3D ∷ []) 0 j (omega (arith, low, size)))
        ∙ at_all is_symbol q j all (omega (arith, low, size))
    by (inr high) =
        let count : 40 + (j - 40) ≡ j = omega (arith, high) in
        subst (λ k. may_stand_in_digest (5 + k) (get_or (q ++ x ∷ y ∷ z ∷ 0x3D ∷ []) k 0) ≡ true) count (last (j - 40) (omega (arith, less, high)))

stand_all : (q : Text) (x y z i : ℕ) → length q ≡ 40 → list_all is_symbol q ≡ true → is_symbol x ≡ true → is_symbol y ≡ true → is_last_symbol z ≡ true → i < 49 → may_stand_in_digest i (get_or (codes "sha2:" ++ (q ++ x ∷ y ∷ z ∷ 0x3D ∷ [])) i 0) ≡ true
stand_all q x y z zero size all hx hy hz less = refl
stand_all q x y z (suc zero) size all hx hy hz less = refl
stand_all q x y z (suc (suc zero)) size all hx hy hz less = refl
stand_all q x y z (suc (suc (suc zero))) size all hx hy hz less = refl
stand_all q x y z (suc (suc (suc (suc zero)))) size all hx hy hz less = refl
stand_all q x y z (suc (suc (suc (suc (suc j))))) size all hx hy hz less =
    let count : 5 + j ≡ suc (suc (suc (suc (suc j)))) = omega arith in
    subst (λ i. may_stand_in_digest i (get_or (q ++ x ∷ y ∷ z ∷ 0x3D ∷ []) j 0) ≡ true) count (stand_behind q x y z j size all hx hy hz (omega (arith, less)))

digest_stands : (s : Text) (d : Digest) → SpellsDigest s d → (i : ℕ) → i < 49 → may_stand_in_digest i (get_or s i 0) ≡ true
digest_stands s d p i less =
    let k = parts_of s d p in
    ap (λ t. may_stand_in_digest i (get_or t i 0)) k.is ∙ stand_all k.q k.x k.y k.z i k.size k.all k.x_is k.y_is k.z_is less

digest_size : (s : Text) (d : Digest) → SpellsDigest s d → length s ≡ 49
digest_size s d p = let k = parts_of s d p in omega (arith, ap length k.is, k.size, length-append k.q (k.x ∷ k.y ∷ k.z ∷ 0x3D ∷ []))

four : (v : Text) → length v ≡ 4 → v ≡ get_or v 0 0 ∷ get_or v 1 0 ∷ get_or v 2 0 ∷ get_or v 3 0 ∷ []
four [] h = absurd (omega (arith, h))
four (a ∷ []) h = absurd (omega (arith, h))
four (a ∷ b ∷ []) h = absurd (omega (arith, h))
four (a ∷ b ∷ c ∷ []) h = absurd (omega (arith, h))
four (a ∷ b ∷ c ∷ d ∷ []) h = refl
four (a ∷ b ∷ c ∷ d ∷ e ∷ v) h = absurd (omega (arith, h))

parts_from : (s : Text) → length s ≡ 49 → ((i : ℕ) → i < 49 → may_stand_in_digest i (get_or s i 0) ≡ true) → Parts s
parts_from [] size each = absurd (omega (arith, size))
parts_from (a ∷ []) size each = absurd (omega (arith, size))
parts_from (a ∷ b ∷ []) size each = absurd (omega (arith, size))
parts_from (a ∷ b ∷ c ∷ []) size each = absurd (omega (arith, size))
parts_from (a ∷ b ∷ c ∷ d ∷ []) size each = absurd (omega (arith, size))
parts_from (a ∷ b ∷ c ∷ d ∷ e ∷ u) size each = record {
  q = take 40 u;
  x = get_or (drop 40 u) 0 0;
  y = get_or (drop 40 u) 1 0;
  z = get_or (drop 40 u) 2 0;
  size = cut;
  all = all_at is_symbol (take 40 u) (λ i within.
      ap is_symbol (get_or-take 40 u i 0 (omega (arith, within, cut)))
      ∙ sym (stands_symbol (5 + i) (get_or u i 0) (omega arith) (omega (arith, within, cut)))
      ∙ at_place i (omega (arith, within, cut)));
  x_is = ap is_symbol (get_or-drop 40 u 0 0) ∙ at_place 40 (omega arith);
  y_is = ap is_symbol (get_or-drop 40 u 1 0) ∙ at_place 41 (omega arith);
  z_is = ap is_last_symbol (get_or-drop 40 u 2 0) ∙ at_place 42 (omega arith);
  is = (λ i. first i ∷ second i ∷ third i ∷ fourth i ∷ fifth i ∷ split i);
}
  where
    first : a ≡ 0x73
    first = eqb-true a 0x73 (each 0 (omega arith))

    second : b ≡ 0x68
    second = eqb-true b 0x68 (each 1 (omega arith))

    third : c ≡ 0x61
    third = eqb-true c 0x61 (each 2 (omega arith))

    fourth : d ≡ 0x32
    fourth = eqb-true d 0x32 (each 3 (omega arith))

    fifth : e ≡ 0x3A
    fifth = eqb-true e 0x3A (each 4 (omega arith))

    cut : length (take 40 u) ≡ 40
    cut = length-take-le 40 u (omega (arith, size))

    at_place : (j : ℕ) → j < 44 → may_stand_in_digest (5 + j) (get_or u j 0) ≡ true
    at_place j less =
        let count : suc (suc (suc (suc (suc j)))) ≡ 5 + j = omega arith in
        subst (λ i. may_stand_in_digest i (get_or u j 0) ≡ true) count (each (suc (suc (suc (suc (suc j))))) (omega (arith, less)))

    padding : get_or (drop 40 u) 3 0 ≡ 0x3D
    padding = eqb-true (get_or (drop 40 u) 3 0) 0x3D (ap (λ b. b == 0x3D) (get_or-drop 40 u 3 0) ∙ at_place 43 (omega arith))

    split : u ≡ take 40 u ++ get_or (drop 40 u) 0 0 ∷ get_or (drop 40 u) 1 0 ∷ get_or (drop 40 u) 2 0 ∷ 0x3D ∷ []
    split =
        sym (take-append-drop 40 u) ∙ ap (λ v. take 40 u ++ v) (four (drop 40 u) (length-drop 40 u ∙ omega (arith, size)))
        ∙ ap (λ p. take 40 u ++ get_or (drop 40 u) 0 0 ∷ get_or (drop 40 u) 1 0 ∷ get_or (drop 40 u) 2 0 ∷ p ∷ []) padding

-- ---- the front of a text

-- some printed digest
abbrev some_digest : Text
some_digest = codes "sha2:AAAAAAAAAAAAAAAAAAAAAAAAAAAAAAAAAAAAAAAAAAA="

some_stands : (i : ℕ) → i < 49 → may_stand_in_digest i (get_or some_digest i 0) ≡ true
some_stands = below 49 (λ i. may_stand_in_digest i (get_or some_digest i 0)) refl

completed : (rest : Text) (n : ℕ) → HasDigestFront rest n → Parts (take n rest ++ drop n some_digest)
completed rest n f = parts_from (take n rest ++ drop n some_digest) size each
  where
    cut : length (take n rest) ≡ n
    cut = length-take-le n rest f.within

    size : length (take n rest ++ drop n some_digest) ≡ 49
    size = length-append (take n rest) (drop n some_digest) ∙ omega (arith, cut, length-drop n some_digest, f.most)

    each : (i : ℕ) → i < 49 → may_stand_in_digest i (get_or (take n rest ++ drop n some_digest) i 0) ≡ true
    each i less = by (cases_lt i n)
      where
        by : (i < n) ⊎ (n ≤ i) → may_stand_in_digest i (get_or (take n rest ++ drop n some_digest) i 0) ≡ true
        by (inl low) = ap (may_stand_in_digest i) (get_or_append_left (take n rest) (drop n some_digest) 0 i (omega (arith, low, cut)) ∙ get_or-take n rest i 0 low) ∙ f.each i low
        by (inr high) =
            let count : i ≡ length (take n rest) + (i - n) = omega (arith, cut, high) in
            let same : n + (i - n) ≡ i = omega (arith, high) in
            ap (may_stand_in_digest i) (ap (λ k. get_or (take n rest ++ drop n some_digest) k 0) count ∙ get_or-append-add (take n rest) (drop n some_digest) (i - n) 0 ∙ get_or-drop n some_digest (i - n) 0 ∙ ap (λ k. get_or some_digest k 0) same) ∙ some_stands i less

-- a byte that may not stand there
wrong : (rest s x y : Text) (d : Digest) (n k : ℕ) → HasDigestFront rest n → n < 49 → n < k → k ≤ length rest → SpellsDigest s d → take k rest ++ x ≡ s ++ y → ⊥
wrong rest s x y d n k f small more short p e =
    let size = digest_size s d p in
    let same : get_or s n 0 ≡ get_or rest n 0 =
    sym (get_or_append_left s y 0 n (omega (arith, small, size))) ∙ ap (λ t. get_or t n 0) (sym e) ∙ get_or_append_left (take k rest) x 0 n (omega (arith, more, length-take-le k rest short)) ∙ get_or-take k rest n 0 more in
    false≢true (sym (f.ends small (omega (arith, more, short))) ∙ ap (may_stand_in_digest n) (sym same) ∙ digest_stands s d p n small)

pub IsNoFieldFront-digest : (rest : Text) (n : ℕ) → HasDigestFront rest n → n < 49 → IsNoFieldFront SpellsDigest rest n
IsNoFieldFront-digest rest n f small = record {
  within = f.within;
  begins = let d = digest_of (take n rest ++ drop n some_digest) (completed rest n f) in record { more = drop n some_digest; value = d.0; spells = d.1 };
  none = λ s last d split p.
      wrong rest s [] last d n (length rest) f small (omega (arith, small, digest_size s d p, ap length split, length-append s last)) (omega arith) p
      (append-nil (take (length rest) rest) ∙ take_all (length rest) rest (omega arith) ∙ split);
  longest = λ k more short b. wrong rest (take k rest ++ b.more) b.more [] b.value n k f small more short b.spells (sym (append-nil (take k rest ++ b.more)));
}

pub IsFieldFront-digest : (rest : Text) (d : Digest) → SpellsDigest (take 49 rest) d → IsFieldFront SpellsDigest rest d (drop 49 rest)
IsFieldFront-digest rest d p = record { spelled = take 49 rest; split = sym (take-append-drop 49 rest); spells = p }

-- what has all its bytes is a digest
pub some_digest_there : (rest : Text) (n : ℕ) → HasDigestFront rest n → 49 ≤ n → ((d : Digest) → ¬ SpellsDigest (take 49 rest) d) → ⊥
some_digest_there rest n f all none =
    let same : n ≡ 49 = omega (arith, f.most, all) in
    let whole : take n rest ++ drop n some_digest ≡ take 49 rest = (λ i. take (same i) rest ++ drop (same i) some_digest) ∙ append-nil (take 49 rest) in
    let d = digest_of (take n rest ++ drop n some_digest) (completed rest n f) in
    none d.0 (subst (λ t. SpellsDigest t d.0) whole d.1)

pub IsCode-digest : IsCode SpellsDigest
IsCode-digest = record { only = only }
  where
    only : (s t u v : Text) (a b : Digest) → s ++ u ≡ t ++ v → SpellsDigest s a → SpellsDigest t b → (s ≡ t) × (a ≡ b)
    only s t u v a b e p q =
        let size : length s ≡ length t = digest_size s a p ∙ sym (digest_size t b q) in
        let same : s ≡ t = sym (take_at s u (length s) refl) ∙ ap (take (length s)) e ∙ ap (λ n. take n (t ++ v)) size ∙ take_at t v (length t) refl in
        let whole : codes "sha2:" ++ (encode_symbols standard.symbols a ++ 0x3D ∷ []) ≡ codes "sha2:" ++ (encode_symbols standard.symbols b ++ 0x3D ∷ []) =
        sym (padded a p.is_digest.length_is (encode_symbols standard.symbols a) refl) ∙ sym p.text_is ∙ same ∙ q.text_is ∙ padded b q.is_digest.length_is (encode_symbols standard.symbols b) refl in
        let symbols = append_cancel_right (encode_symbols standard.symbols a) (encode_symbols standard.symbols b) (0x3D ∷ []) (append_cancel_left (codes "sha2:") (encode_symbols standard.symbols a ++ 0x3D ∷ []) (encode_symbols standard.symbols b ++ 0x3D ∷ []) whole) in
        (same, same_bytes 10 a b p.is_digest.length_is q.is_digest.length_is p.is_digest.bytes q.is_digest.bytes symbols)
