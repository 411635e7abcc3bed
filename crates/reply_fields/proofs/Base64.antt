-- Base64 of 32 bytes: which texts it gives.
use Rattle.std.proofs.Common.{◌≡◌, ℕ, zero, suc, ◌+◌, ◌*◌, ◌/◌, ◌%◌, ◌<◌, Bool, true, false, List, [], ◌∷◌, ◌++◌, length, get_or, refl, sym, ap, ◌∙◌, arith, length-append, eq-eqb}
use Rattle.std.specs.Prelude.{◌&&◌, ◌||◌, ◌==◌, codes}
use Rattle.std.specs.List.{list_all, list_any, position_or_len}
use Rattle.std.proofs.lemmas.Bool.{and_parts, and_from, false≢true, eqb-true}
use Rattle.base64.specs.Rfc4648.{encode_group, encode_two, encode_symbols}
use Rattle.base64.specs.Alphabets.{standard}
use Rattle.grid_model.specs.Names.{Text}
use Rattle.reply_fields.specs.PrintedDigests.{is_symbol, is_last_symbol}

-- ---- tests of all numbers below a bound

abbrev pub all_below : ℕ → (ℕ → Bool) → Bool
all_below zero p = true
all_below (suc n) p = p n && all_below n p

pub below : (n : ℕ) (p : ℕ → Bool) → all_below n p ≡ true → (i : ℕ) → i < n → p i ≡ true
below zero p h i less = absurd (omega (arith, less))
below (suc n) p h i less = by (i == n) refl (λ other. below n p (and_parts (p n) (all_below n p) h).1 i (omega (arith, less, other)))
  where
    by : (x : Bool) → (i == n) ≡ x → ((i ≡ n → ⊥) → p i ≡ true) → p i ≡ true
    by true e rest = ap p (eqb-true i n e) ∙ (and_parts (p n) (all_below n p) h).0
    by false e rest = rest (λ same. false≢true (sym e ∙ eq-eqb i n same))

-- the place of a byte in a list
pub any_at : (xs : List ℕ) (c : ℕ) → list_any (λ s. s == c) xs ≡ true → (k : ℕ) × (k < length xs) × (get_or xs k 0 ≡ c)
any_at [] c h = absurd (false≢true h)
any_at (x ∷ xs) c h = by (x == c) refl (λ g. any_at xs c g)
  where
    by : (y : Bool) → (x == c) ≡ y → (list_any (λ s. s == c) xs ≡ true → (k : ℕ) × (k < length xs) × (get_or xs k 0 ≡ c)) → (k : ℕ) × (k < length (x ∷ xs)) × (get_or (x ∷ xs) k 0 ≡ c)
    by true e rest = (0, omega arith, eqb-true x c e)
    by false e rest = let r = rest (ap (λ y. y || list_any (λ s. s == c) xs) (sym e) ∙ h) in (suc r.0, omega (arith, r.1), r.2)

-- ---- the symbols

abbrev symbols : Text
symbols = standard.symbols

abbrev index : ℕ → ℕ
index c = position_or_len (λ s. s == c) standard.symbols

symbol_at : (i : ℕ) → i < 64 → is_symbol (get_or standard.symbols i 0) ≡ true
symbol_at = below 64 (λ i. is_symbol (get_or standard.symbols i 0)) refl

index_at : (i : ℕ) → i < 64 → (index (get_or standard.symbols i 0) == i) ≡ true
index_at = below 64 (λ i. index (get_or standard.symbols i 0) == i) refl

same_index : (i j : ℕ) → i < 64 → j < 64 → get_or standard.symbols i 0 ≡ get_or standard.symbols j 0 → i ≡ j
same_index i j small also e = sym (eqb-true (index (get_or standard.symbols i 0)) i (index_at i small)) ∙ ap index e ∙ eqb-true (index (get_or standard.symbols j 0)) j (index_at j also)

pub value_of : (c : ℕ) → is_symbol c ≡ true → (v : ℕ) × (v < 64) × (get_or standard.symbols v 0 ≡ c)
value_of c h = any_at standard.symbols c h

last_at : (k : ℕ) → k < 16 → is_last_symbol (get_or standard.symbols (4 * k) 0) ≡ true
last_at = below 16 (λ k. is_last_symbol (get_or standard.symbols (4 * k) 0)) refl

last_index : (k : ℕ) → k < 16 → (get_or standard.symbols (4 * k) 0 == get_or (codes "AEIMQUYcgkosw048") k 0) ≡ true
last_index = below 16 (λ k. get_or standard.symbols (4 * k) 0 == get_or (codes "AEIMQUYcgkosw048") k 0) refl

last_value_of : (c : ℕ) → is_last_symbol c ≡ true → (k : ℕ) × (k < 16) × (get_or standard.symbols (4 * k) 0 ≡ c)
last_value_of c h = let a = any_at (codes "AEIMQUYcgkosw048") c h in (a.0, a.1, eqb-true (get_or standard.symbols (4 * a.0) 0) (get_or (codes "AEIMQUYcgkosw048") a.0 0) (last_index a.0 a.1) ∙ a.2)

-- ---- how bytes are encoded

encode-group : (a b c : ℕ) (rest : Text) → encode_symbols standard.symbols (a ∷ b ∷ c ∷ rest) ≡ encode_group standard.symbols a b c ++ encode_symbols standard.symbols rest
unfolding encode_symbols
encode-group a b c rest = refl

encode-two : (a b : ℕ) → encode_symbols standard.symbols (a ∷ b ∷ []) ≡ encode_two standard.symbols a b
unfolding encode_symbols
encode-two a b = refl

-- bytes that are encoded as these symbols, whatever follows
record Encodes (q : Text) (n : ℕ) : Type 0 where
  m : Text
  size : length m ≡ n
  bytes : (i : ℕ) → get_or m i 0 < 256
  is : (rest : Text) → encode_symbols standard.symbols (m ++ rest) ≡ q ++ encode_symbols standard.symbols rest

decode_groups : (k : ℕ) (q : Text) → length q ≡ 4 * k → list_all is_symbol q ≡ true → Encodes q (3 * k)
decode_groups zero [] size all = record { m = []; size = refl; bytes = λ i. omega arith; is = λ rest. refl }
decode_groups zero (c ∷ q) size all = absurd (omega (arith, size))
decode_groups (suc k) [] size all = absurd (omega (arith, size))
decode_groups (suc k) (c0 ∷ []) size all = absurd (omega (arith, size))
decode_groups (suc k) (c0 ∷ c1 ∷ []) size all = absurd (omega (arith, size))
decode_groups (suc k) (c0 ∷ c1 ∷ c2 ∷ []) size all = absurd (omega (arith, size))
decode_groups (suc k) (c0 ∷ c1 ∷ c2 ∷ c3 ∷ q) size all =
    let p0 = and_parts (is_symbol c0) (list_all is_symbol (c1 ∷ c2 ∷ c3 ∷ q)) all in
    let p1 = and_parts (is_symbol c1) (list_all is_symbol (c2 ∷ c3 ∷ q)) p0.1 in
    let p2 = and_parts (is_symbol c2) (list_all is_symbol (c3 ∷ q)) p1.1 in
    let p3 = and_parts (is_symbol c3) (list_all is_symbol q) p2.1 in
    with_values (value_of c0 p0.0) (value_of c1 p1.0) (value_of c2 p2.0) (value_of c3 p3.0) (decode_groups k q (omega (arith, size)) p3.1)
  where
    with_values : (v : ℕ) × (v < 64) × (get_or standard.symbols v 0 ≡ c0) → (v : ℕ) × (v < 64) × (get_or standard.symbols v 0 ≡ c1) → (v : ℕ) × (v < 64) × (get_or standard.symbols v 0 ≡ c2) → (v : ℕ) × (v < 64) × (get_or standard.symbols v 0 ≡ c3)
        → Encodes q (3 * k) → Encodes (c0 ∷ c1 ∷ c2 ∷ c3 ∷ q) (3 * suc k)
    with_values v0 v1 v2 v3 e =
        let a : ℕ = v0.0 * 4 + v1.0 / 16 in
        let b : ℕ = v1.0 % 16 * 16 + v2.0 / 4 in
        let c : ℕ = v2.0 % 4 * 64 + v3.0 in
        record { m = a ∷ b ∷ c ∷ e.m; size = omega (arith, e.size); bytes = bytes; is = is }
      where
        a : ℕ
        a = v0.0 * 4 + v1.0 / 16

        b : ℕ
        b = v1.0 % 16 * 16 + v2.0 / 4

        c : ℕ
        c = v2.0 % 4 * 64 + v3.0

        bytes : (i : ℕ) → get_or ((v0.0 * 4 + v1.0 / 16) ∷ (v1.0 % 16 * 16 + v2.0 / 4) ∷ (v2.0 % 4 * 64 + v3.0) ∷ e.m) i 0 < 256
        bytes zero = omega (arith, v0.1, v1.1)
        bytes (suc zero) = omega (arith, v1.1, v2.1)
        bytes (suc (suc zero)) = omega (arith, v2.1, v3.1)
        bytes (suc (suc (suc i))) = e.bytes i

        group : encode_group standard.symbols (v0.0 * 4 + v1.0 / 16) (v1.0 % 16 * 16 + v2.0 / 4) (v2.0 % 4 * 64 + v3.0) ≡ c0 ∷ c1 ∷ c2 ∷ c3 ∷ []
        group =
            let a : ℕ = v0.0 * 4 + v1.0 / 16 in
            let b : ℕ = v1.0 % 16 * 16 + v2.0 / 4 in
            let c : ℕ = v2.0 % 4 * 64 + v3.0 in
            let e0 : a / 4 ≡ v0.0 = omega (arith, v1.1) in
            let e1 : a % 4 * 16 + b / 16 ≡ v1.0 = omega (arith, v1.1, v2.1) in
            let e2 : b % 16 * 4 + c / 64 ≡ v2.0 = omega (arith, v2.1, v3.1) in
            let e3 : c % 64 ≡ v3.0 = omega (arith, v3.1) in
            (λ i. get_or standard.symbols (e0 i) 0 ∷ get_or standard.symbols (e1 i) 0 ∷ get_or standard.symbols (e2 i) 0 ∷ get_or standard.symbols (e3 i) 0 ∷ [])
            ∙ (λ i. v0.2 i ∷ v1.2 i ∷ v2.2 i ∷ v3.2 i ∷ [])

        is : (rest : Text) → encode_symbols standard.symbols (((v0.0 * 4 + v1.0 / 16) ∷ (v1.0 % 16 * 16 + v2.0 / 4) ∷ (v2.0 % 4 * 64 + v3.0) ∷ e.m) ++ rest) ≡ (c0 ∷ c1 ∷ c2 ∷ c3 ∷ q) ++ encode_symbols standard.symbols rest
        is rest = encode-group (v0.0 * 4 + v1.0 / 16) (v1.0 % 16 * 16 + v2.0 / 4) (v2.0 % 4 * 64 + v3.0) (e.m ++ rest) ∙ (λ i. group i ++ e.is rest i)

-- symbols, of which the last has two zero bits, are those of some bytes
pub record Decoded (q : Text) (x y z : ℕ) (n : ℕ) : Type 0 where
  pub m : Text
  pub size : length m ≡ n
  pub bytes : (i : ℕ) → get_or m i 0 < 256
  pub is : encode_symbols standard.symbols m ≡ q ++ x ∷ y ∷ z ∷ []

pub decoded : (k : ℕ) (q : Text) (x y z : ℕ) → length q ≡ 4 * k → list_all is_symbol q ≡ true → is_symbol x ≡ true → is_symbol y ≡ true → is_last_symbol z ≡ true → Decoded q x y z (3 * k + 2)
decoded k q x y z size all hx hy hz = by (decode_groups k q size all) (value_of x hx) (value_of y hy) (last_value_of z hz)
  where
    by : Encodes q (3 * k) → (v : ℕ) × (v < 64) × (get_or standard.symbols v 0 ≡ x) → (v : ℕ) × (v < 64) × (get_or standard.symbols v 0 ≡ y) → (v : ℕ) × (v < 16) × (get_or standard.symbols (4 * v) 0 ≡ z) → Decoded q x y z (3 * k + 2)
    by e v0 v1 v2 = record {
      m = e.m ++ (v0.0 * 4 + v1.0 / 16) ∷ (v1.0 % 16 * 16 + v2.0) ∷ [];
      size = length-append e.m ((v0.0 * 4 + v1.0 / 16) ∷ (v1.0 % 16 * 16 + v2.0) ∷ []) ∙ omega (arith, e.size);
      bytes = bytes e.m e.bytes;
      is = e.is ((v0.0 * 4 + v1.0 / 16) ∷ (v1.0 % 16 * 16 + v2.0) ∷ []) ∙ ap (λ t. q ++ t) (encode-two (v0.0 * 4 + v1.0 / 16) (v1.0 % 16 * 16 + v2.0) ∙ two);
    }
      where
        bytes : (m : Text) → ((i : ℕ) → get_or m i 0 < 256) → (i : ℕ) → get_or (m ++ (v0.0 * 4 + v1.0 / 16) ∷ (v1.0 % 16 * 16 + v2.0) ∷ []) i 0 < 256
        bytes [] all zero = omega (arith, v0.1, v1.1)
        bytes [] all (suc zero) = omega (arith, v1.1, v2.1)
        bytes [] all (suc (suc i)) = omega arith
        bytes (b ∷ m) all zero = all 0
        bytes (b ∷ m) all (suc i) = bytes m (λ j. all (suc j)) i

        two : encode_two standard.symbols (v0.0 * 4 + v1.0 / 16) (v1.0 % 16 * 16 + v2.0) ≡ x ∷ y ∷ z ∷ []
        two =
            let a : ℕ = v0.0 * 4 + v1.0 / 16 in
            let b : ℕ = v1.0 % 16 * 16 + v2.0 in
            let e0 : a / 4 ≡ v0.0 = omega (arith, v1.1) in
            let e1 : a % 4 * 16 + b / 16 ≡ v1.0 = omega (arith, v1.1, v2.1) in
            let e2 : b % 16 * 4 ≡ 4 * v2.0 = omega (arith, v2.1) in
            (λ i. get_or standard.symbols (e0 i) 0 ∷ get_or standard.symbols (e1 i) 0 ∷ get_or standard.symbols (e2 i) 0 ∷ []) ∙ (λ i. v0.2 i ∷ v1.2 i ∷ v2.2 i ∷ [])

-- what bytes are encoded as
pub record Encoded (d : Text) (k : ℕ) : Type 0 where
  pub q : Text
  pub x : ℕ
  pub y : ℕ
  pub z : ℕ
  pub size : length q ≡ 4 * k
  pub all : list_all is_symbol q ≡ true
  pub x_is : is_symbol x ≡ true
  pub y_is : is_symbol y ≡ true
  pub z_is : is_last_symbol z ≡ true
  pub is : encode_symbols standard.symbols d ≡ q ++ x ∷ y ∷ z ∷ []

pub encoded : (k : ℕ) (d : Text) → length d ≡ 3 * k + 2 → ((i : ℕ) → get_or d i 0 < 256) → Encoded d k
encoded zero [] size bytes = absurd (omega (arith, size))
encoded zero (a ∷ []) size bytes = absurd (omega (arith, size))
encoded zero (a ∷ b ∷ []) size bytes = record {
  q = [];
  x = get_or standard.symbols (a / 4) 0;
  y = get_or standard.symbols (a % 4 * 16 + b / 16) 0;
  z = get_or standard.symbols (b % 16 * 4) 0;
  size = refl;
  all = refl;
  x_is = symbol_at (a / 4) (omega (arith, bytes 0));
  y_is = symbol_at (a % 4 * 16 + b / 16) (omega (arith, bytes 0, bytes 1));
  z_is = let e : 4 * (b % 16) ≡ b % 16 * 4 = omega arith in ap (λ v. is_last_symbol (get_or standard.symbols v 0)) (sym e) ∙ last_at (b % 16) (omega arith);
  is = encode-two a b;
}
encoded zero (a ∷ b ∷ c ∷ d) size bytes = absurd (omega (arith, size))
encoded (suc k) [] size bytes = absurd (omega (arith, size))
encoded (suc k) (a ∷ []) size bytes = absurd (omega (arith, size))
encoded (suc k) (a ∷ b ∷ []) size bytes = absurd (omega (arith, size))
encoded (suc k) (a ∷ b ∷ c ∷ d) size bytes = by (encoded k d (omega (arith, size)) (λ i. bytes (suc (suc (suc i)))))
  where
    by : Encoded d k → Encoded (a ∷ b ∷ c ∷ d) (suc k)
    by e = record {
      q = encode_group standard.symbols a b c ++ e.q;
      x = e.x;
      y = e.y;
      z = e.z;
      size = omega (arith, e.size);
      all = and_from (is_symbol (get_or standard.symbols (a / 4) 0)) _ (symbol_at (a / 4) (omega (arith, bytes 0)))
          (and_from (is_symbol (get_or standard.symbols (a % 4 * 16 + b / 16) 0)) _ (symbol_at (a % 4 * 16 + b / 16) (omega (arith, bytes 0, bytes 1)))
          (and_from (is_symbol (get_or standard.symbols (b % 16 * 4 + c / 64) 0)) _ (symbol_at (b % 16 * 4 + c / 64) (omega (arith, bytes 1, bytes 2)))
          (and_from (is_symbol (get_or standard.symbols (c % 64) 0)) _ (symbol_at (c % 64) (omega arith)) e.all)));
      x_is = e.x_is;
      y_is = e.y_is;
      z_is = e.z_is;
      is = encode-group a b c d ∙ ap (λ t. encode_group standard.symbols a b c ++ t) e.is;
    }

-- ---- other bytes are encoded otherwise

four_same : (a b c d : ℕ) (x : Text) (e f g h : ℕ) (y : Text) → a ∷ b ∷ c ∷ d ∷ x ≡ e ∷ f ∷ g ∷ h ∷ y → (a ≡ e) × (b ≡ f) × (c ≡ g) × (d ≡ h) × (x ≡ y)
four_same a b c d x e f g h y same = (cc, cc, cc, cc, cc)

three_same : (a b c d e f : ℕ) → a ∷ b ∷ c ∷ [] ≡ d ∷ e ∷ f ∷ [] → (a ≡ d) × (b ≡ e) × (c ≡ f)
three_same a b c d e f same = (cc, cc, cc)

pub same_bytes : (k : ℕ) (d e : Text) → length d ≡ 3 * k + 2 → length e ≡ 3 * k + 2 → ((i : ℕ) → get_or d i 0 < 256) → ((i : ℕ) → get_or e i 0 < 256) → encode_symbols standard.symbols d ≡ encode_symbols standard.symbols e → d ≡ e
same_bytes k [] e size also low high same = absurd (omega (arith, size))
same_bytes k (a ∷ []) e size also low high same = absurd (omega (arith, size))
same_bytes k (a ∷ b ∷ d) [] size also low high same = absurd (omega (arith, also))
same_bytes k (a ∷ b ∷ d) (x ∷ []) size also low high same = absurd (omega (arith, also))
same_bytes zero (a ∷ b ∷ []) (x ∷ y ∷ []) size also low high same =
    let t = three_same (get_or standard.symbols (a / 4) 0) (get_or standard.symbols (a % 4 * 16 + b / 16) 0) (get_or standard.symbols (b % 16 * 4) 0) (get_or standard.symbols (x / 4) 0) (get_or standard.symbols (x % 4 * 16 + y / 16) 0) (get_or standard.symbols (y % 16 * 4) 0)
    (sym (encode-two a b) ∙ same ∙ encode-two x y) in
    let e0 = same_index (a / 4) (x / 4) (omega (arith, low 0)) (omega (arith, high 0)) t.0 in
    let e1 = same_index (a % 4 * 16 + b / 16) (x % 4 * 16 + y / 16) (omega (arith, low 0, low 1)) (omega (arith, high 0, high 1)) t.1 in
    let e2 = same_index (b % 16 * 4) (y % 16 * 4) (omega arith) (omega arith) t.2 in
    let first : a ≡ x = omega (arith, e0, e1, low 1, high 1) in
    let second : b ≡ y = omega (arith, e1, e2, low 1, high 1) in
    (λ i. first i ∷ second i ∷ [])
same_bytes zero (a ∷ b ∷ c ∷ d) (x ∷ y ∷ e) size also low high same = absurd (omega (arith, size))
same_bytes zero (a ∷ b ∷ []) (x ∷ y ∷ z ∷ e) size also low high same = absurd (omega (arith, also))
same_bytes (suc k) (a ∷ b ∷ []) (x ∷ y ∷ e) size also low high same = absurd (omega (arith, size))
same_bytes (suc k) (a ∷ b ∷ c ∷ d) (x ∷ y ∷ []) size also low high same = absurd (omega (arith, also))
same_bytes (suc k) (a ∷ b ∷ c ∷ d) (x ∷ y ∷ z ∷ e) size also low high same =
    let t = four_same (get_or standard.symbols (a / 4) 0) (get_or standard.symbols (a % 4 * 16 + b / 16) 0) (get_or standard.symbols (b % 16 * 4 + c / 64) 0) (get_or standard.symbols (c % 64) 0) (encode_symbols standard.symbols d)
    (get_or standard.symbols (x / 4) 0) (get_or standard.symbols (x % 4 * 16 + y / 16) 0) (get_or standard.symbols (y % 16 * 4 + z / 64) 0) (get_or standard.symbols (z % 64) 0) (encode_symbols standard.symbols e)
    (sym (encode-group a b c d) ∙ same ∙ encode-group x y z e) in
    let e0 = same_index (a / 4) (x / 4) (omega (arith, low 0)) (omega (arith, high 0)) t.0 in
    let e1 = same_index (a % 4 * 16 + b / 16) (x % 4 * 16 + y / 16) (omega (arith, low 0, low 1)) (omega (arith, high 0, high 1)) t.1 in
    let e2 = same_index (b % 16 * 4 + c / 64) (y % 16 * 4 + z / 64) (omega (arith, low 1, low 2)) (omega (arith, high 1, high 2)) t.2 in
    let e3 = same_index (c % 64) (z % 64) (omega arith) (omega arith) t.3 in
    let first : a ≡ x = omega (arith, e0, e1, low 1, high 1) in
    let second : b ≡ y = omega (arith, e1, e2, low 1, high 1, low 2, high 2) in
    let third : c ≡ z = omega (arith, e2, e3, low 2, high 2) in
    let rest = same_bytes k d e (omega (arith, size)) (omega (arith, also)) (λ i. low (suc (suc (suc i)))) (λ i. high (suc (suc (suc i)))) t.4 in
    (λ i. first i ∷ second i ∷ third i ∷ rest i)
