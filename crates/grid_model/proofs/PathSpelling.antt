-- A text spells at most one path, and where a text stops beginning one.
use Rattle.std.proofs.Common.{◌≡◌, ℕ, zero, suc, ◌+◌, ◌-◌, ◌<◌, ◌≤◌, Bool, true, [], ◌∷◌, ◌++◌, length, take, refl, sym, ap, ◌∙◌, subst, arith, length-append, append_assoc, inl, inr}
use Rattle.std.specs.Prelude.{not, ◌&&◌, ◌⊎◌, ◌==◌, IsTrue}
use Rattle.std.specs.List.{list_all, flat_map}
use Rattle.std.proofs.lemmas.Bool.{and_from, and_parts, both_ways, cases_lt}
use Rattle.std.proofs.lemmas.List.{append-nil, take-append-le, length-take-le}
use Rattle.std.proofs.lemmas.List.Concat.{flat_map-append}
use Rattle.std.proofs.Math.Seq.{take-append-add}
use Rattle.grid_model.specs.Names.{Text, Path, is_name, is_name_byte, is_path, print_path, SpellsName, SpellsPath}
use Rattle.grid_model.specs.Places.{Begins, IsRefusedAt}
use Rattle.grid_model.proofs.Fronts.{list_all-second, list_all-both, list_all-take}
use Rattle.grid_model.proofs.NameSpelling.{IsName-from_test}

-- a `/` before each name
abbrev pub slashed : Path → Text
slashed p = flat_map (λ n. 0x2F ∷ n) p

-- the same, and one more behind them
abbrev pub opened : Path → Text
opened p = slashed p ++ 0x2F ∷ []

abbrev pub is_slash : ℕ → Bool
is_slash b = b == 0x2F

-- has no `/`
abbrev pub is_part : Text → Bool
is_part t = list_all (λ b. not (is_slash b)) t

-- what stands behind a part: nothing, or a `/` first
abbrev pub EndsPart : Text → Type 0
EndsPart [] = Unit {0}
EndsPart (b ∷ t) = b ≡ 0x2F

EndsPart-slashed : (p : Path) → EndsPart (slashed p)
EndsPart-slashed [] = tt
EndsPart-slashed (n ∷ p) = refl

is_part-bytes : (t : Text) → list_all is_name_byte t ≡ true → is_part t ≡ true
is_part-bytes [] h = refl
is_part-bytes (b ∷ t) h =
    let parts = and_parts (is_name_byte b) (list_all is_name_byte t) h in
    and_from (not (is_slash b)) (is_part t) (and_parts _ (not (is_slash b)) parts.0).1 (is_part-bytes t parts.1)

pub is_part-name : (n : Text) → IsTrue (is_name n) → is_part n ≡ true
is_part-name n h = is_part-bytes n (IsName-from_test n h).bytes

no_slash : (b : ℕ) (t : Text) → is_part (b ∷ t) ≡ true → b ≡ 0x2F → ⊥
no_slash b t h e = both_ways (is_part (b ∷ t)) (ap (λ x. not (is_slash x) && is_part t) e) h

-- a part before what ends one is empty
no_part : (m x y : Text) → is_part m ≡ true → EndsPart x → x ≡ m ++ y → (m ≡ []) × (x ≡ y)
no_part [] x y h s e = (refl, e)
no_part (b ∷ m) [] y h s e = cc
no_part (b ∷ m) (c ∷ x) y h s e = absurd (no_slash b m h (let same : c ≡ b = cc in sym same ∙ s))

-- a part in front of a text begins the first part of the text
part_first : (a x m y : Text) → is_part a ≡ true → EndsPart y → a ++ x ≡ m ++ y → (k : Text) × (m ≡ a ++ k) × (x ≡ k ++ y)
part_first [] x m y h s e = (m, refl, e)
part_first (c ∷ a) x [] [] h s e = cc
part_first (c ∷ a) x [] (b ∷ y) h s e = absurd (no_slash c a h (let same : c ≡ b = cc in same ∙ s))
part_first (c ∷ a) x (d ∷ m) y h s e =
    let head : c ≡ d = cc in
    let tail : a ++ x ≡ m ++ y = cc in
    let rest = part_first a x m y (and_parts (not (is_slash c)) (is_part a) h).1 s tail in
    (rest.0, (λ i. sym head i ∷ rest.1 i), rest.2)

-- ---- what stands behind the names read so far

starts : (p : Path) (r : Text) → (t : Text) × (slashed p ++ 0x2F ∷ r ≡ 0x2F ∷ t)
starts [] r = (r, refl)
starts (n ∷ p) r = (n ++ slashed p ++ 0x2F ∷ r, refl)

-- a name and what ends it, in front of a text
pub record StandsFirst (r : Text) : Type 0 where
  pub name : Text
  pub rest : Text
  pub is : IsTrue (is_name name)
  pub ends : EndsPart rest
  pub split : r ≡ name ++ rest

first_name : (r : Text) (q : Path) → is_path q ≡ true → 0x2F ∷ r ≡ slashed q → StandsFirst r
first_name r [] h e = cc
first_name r (n ∷ q) h e = record {
  name = n;
  rest = slashed q;
  is = (and_parts (is_name n) (is_path q) h).0;
  ends = EndsPart-slashed q;
  split = let tail : r ≡ n ++ slashed q = cc in tail;
}

behind : (p : Path) (r : Text) (q : Path) → is_path p ≡ true → is_path q ≡ true → slashed p ++ 0x2F ∷ r ≡ slashed q → StandsFirst r
behind [] r q g h e = first_name r q h e
behind (n ∷ p) r [] g h e = cc
behind (n ∷ p) r (m ∷ q) g h e =
    let tail : n ++ slashed p ++ 0x2F ∷ r ≡ m ++ slashed q = cc in
    let names = and_parts (is_name n) (is_path p) g in
    let others = and_parts (is_name m) (is_path q) h in
    let cut = part_first n (slashed p ++ 0x2F ∷ r) m (slashed q) (is_part-name n names.0) (EndsPart-slashed q) (sym (append_assoc n (slashed p) (0x2F ∷ r)) ∙ tail) in
    let start = starts p r in
    let none = no_part cut.0 (0x2F ∷ start.0) (slashed q) (list_all-second (λ b. not (is_slash b)) n cut.0 (ap is_part (sym cut.1) ∙ is_part-name m others.0)) refl (sym start.1 ∙ cut.2) in
    behind p r q names.1 others.1 (start.1 ∙ none.1)

-- a longer text than `/` that spells a path has a name behind those that stand in front of it
pub next_name : (p : Path) (r : Text) (q : Path) → is_path p ≡ true → 1 < length (opened p ++ r) → SpellsPath (opened p ++ r) q → StandsFirst r
next_name p r q g long s = by q s.names s.text_is
  where
    by : (q : Path) → is_path q ≡ true → opened p ++ r ≡ print_path q → StandsFirst r
    by [] h e = absurd (omega (arith, long, ap length e))
    by (m ∷ q) h e = behind p r (m ∷ q) g h (sym (append_assoc (slashed p) (0x2F ∷ []) r) ∙ e)

-- a part at the front of a text that has a name first is that name
only_part : (a x : Text) → is_part a ≡ true → EndsPart x → StandsFirst (a ++ x) → IsTrue (is_name a)
only_part a x h ends s =
    let cut = part_first a x s.name s.rest h s.ends s.split in
    let none = no_part cut.0 x s.rest (list_all-second (λ b. not (is_slash b)) a cut.0 (ap is_part (sym cut.1) ∙ is_part-name s.name s.is)) ends cut.2 in
    subst (λ t. IsTrue (is_name t)) (cut.1 ∙ ap (λ k. a ++ k) none.0 ∙ append-nil a) s.is

-- ---- where it is refused

pub slashed-push : (p : Path) (n : Text) → slashed (p ++ n ∷ []) ≡ opened p ++ n
slashed-push p n = flat_map-append (λ m. 0x2F ∷ m) p (n ∷ []) ∙ ap (λ t. slashed p ++ t) (append-nil (0x2F ∷ n)) ∙ sym (append_assoc (slashed p) (0x2F ∷ []) n)

print_path-push : (p : Path) (n : Text) → print_path (p ++ n ∷ []) ≡ opened p ++ n
print_path-push p n = by p ∙ slashed-push p n
  where
    by : (p : Path) → print_path (p ++ n ∷ []) ≡ slashed (p ++ n ∷ [])
    by [] = refl
    by (m ∷ p) = refl

pub is_path-push : (p : Path) (n : Text) → is_path p ≡ true → IsTrue (is_name n) → is_path (p ++ n ∷ []) ≡ true
is_path-push p n g h = list_all-both is_name p (n ∷ []) g (and_from (is_name n) true h refl)

-- names that were read, and then what begins a name
begun_path : (p : Path) (t : Text) → is_path p ≡ true → Begins SpellsName t → Begins SpellsPath (opened p ++ t)
begun_path p t g b = record {
  more = b.more;
  value = p ++ b.value ∷ [];
  spells = record {
    names = is_path-push p b.value g b.spells.is;
    text_is = append_assoc (opened p) t b.more ∙ ap (λ s. opened p ++ s) b.spells.text_is ∙ sym (print_path-push p b.value);
  };
}

module _ (part tail : Text) (at : ℕ) (whole : is_part part ≡ true) (ends : EndsPart tail) (refused : IsRefusedAt SpellsName part at) where
  unnamed : IsTrue (is_name part) → ⊥
  unnamed h = refused.spells_nothing part (record { is = h; text_is = refl })

  -- no name begins with more of the text than the place
  none_longer : (n : ℕ) (more : Text) → at < n → n ≤ length (part ++ tail) → StandsFirst (take n (part ++ tail) ++ more) → ⊥
  none_longer n more high low s = by (cases_lt (length part) n)
    where
      inside : n ≤ length part → ⊥
      inside within =
          let cut = part_first (take n part) more s.name s.rest (list_all-take (λ b. not (is_slash b)) n part whole) s.ends (ap (λ t. t ++ more) (sym (take-append-le n part tail within)) ∙ s.split) in
          refused.longest n high within (record { more = cut.0; value = s.name; spells = record { is = s.is; text_is = sym cut.1 } })

      over : (tail : Text) → EndsPart tail → n ≤ length (part ++ tail) → length part < n → StandsFirst (take n (part ++ tail) ++ more) → ⊥
      over [] e within past t = omega (arith, within, past, length-append part [])
      over (b ∷ tail) e within past t =
          let k = n - length part - 1 in
          let size : n ≡ length part + suc k = omega (arith, past) in
          let cut : take n (part ++ b ∷ tail) ≡ part ++ b ∷ take k tail = ap (λ m. take m (part ++ b ∷ tail)) size ∙ take-append-add part (b ∷ tail) (suc k) in
          unnamed (only_part part (b ∷ take k tail ++ more) whole e (subst StandsFirst (ap (λ u. u ++ more) cut ∙ append_assoc part (b ∷ take k tail) more) t))

      by : (length part < n) ⊎ (n ≤ length part) → ⊥
      by (inl past) = over tail ends low past s
      by (inr within) = inside within

  pub IsRefusedAt-part : (p : Path) → is_path p ≡ true → 1 < length (opened p ++ (part ++ tail)) → IsRefusedAt SpellsPath (opened p ++ (part ++ tail)) (length (opened p) + at)
  IsRefusedAt-part p g long = record {
    spells_nothing = λ q s. unnamed (only_part part tail whole ends (next_name p (part ++ tail) q g long s));
    within = omega (arith, refused.within, length-append (opened p) (part ++ tail), length-append part tail);
    begins = subst (Begins SpellsPath) (sym (take-append-add (opened p) (part ++ tail) at ∙ ap (λ t. opened p ++ t) (take-append-le at part tail refused.within)))
        (begun_path p (take at part) g refused.begins);
    longest = longest;
  }
    where
      longest : (n : ℕ) → length (opened p) + at < n → n ≤ length (opened p ++ (part ++ tail)) → Begins SpellsPath (take n (opened p ++ (part ++ tail))) → ⊥
      longest n high low b =
          let k = n - length (opened p) in
          let rest = part ++ tail in
          let size = length-append (opened p) rest in
          let front : length (opened p) ≡ length (slashed p) + 1 = length-append (slashed p) (0x2F ∷ []) in
          let count : n ≡ length (opened p) + k = omega (arith, high) in
          let cut : take n (opened p ++ rest) ≡ opened p ++ take k rest = ap (λ m. take m (opened p ++ rest)) count ∙ take-append-add (opened p) rest k in
          let text : take n (opened p ++ rest) ++ b.more ≡ opened p ++ (take k rest ++ b.more) = ap (λ t. t ++ b.more) cut ∙ append_assoc (opened p) (take k rest) b.more in
          none_longer k b.more (omega (arith, high)) (omega (arith, low, size))
          (next_name p (take k rest ++ b.more) b.value g
          (omega (arith, front, high, length-append (opened p) (take k rest ++ b.more), length-append (take k rest) b.more, length-take-le k rest (omega (arith, low, size))))
          (subst (λ t. SpellsPath t b.value) text b.spells))

-- ---- where no `/` stands in front

print_starts : (q : Path) → (t : Text) × (print_path q ≡ 0x2F ∷ t)
print_starts [] = ([], refl)
print_starts (n ∷ q) = (n ++ slashed q, refl)

no_slash_first : (b : ℕ) (t : Text) (q : Path) → (b ≡ 0x2F → ⊥) → SpellsPath (b ∷ t) q → ⊥
no_slash_first b t q apart s = let e = s.text_is ∙ (print_starts q).1 in apart (let same : b ≡ 0x2F = cc in same)

none_first : (q : Path) → SpellsPath [] q → ⊥
none_first q s = omega (arith, ap length (s.text_is ∙ (print_starts q).1))

-- a text that does not begin with it is refused there
pub IsRefusedAt-first : (t : Text) → ((b : ℕ) (more : Text) → t ≡ b ∷ more → b ≡ 0x2F → ⊥) → IsRefusedAt SpellsPath t 0
IsRefusedAt-first t apart = record {
  spells_nothing = λ q s. by t q apart s;
  within = omega arith;
  begins = record { more = 0x2F ∷ []; value = []; spells = record { names = refl; text_is = refl } };
  longest = λ n high low b. longer n t high low apart b.more b.value b.spells;
}
  where
    by : (t : Text) (q : Path) → ((b : ℕ) (more : Text) → t ≡ b ∷ more → b ≡ 0x2F → ⊥) → SpellsPath t q → ⊥
    by [] q apart s = none_first q s
    by (b ∷ t) q apart s = no_slash_first b t q (apart b t refl) s

    longer : (n : ℕ) (t : Text) → 0 < n → n ≤ length t → ((b : ℕ) (more : Text) → t ≡ b ∷ more → b ≡ 0x2F → ⊥) → (more : Text) (q : Path) → SpellsPath (take n t ++ more) q → ⊥
    longer zero t high low apart more q s = omega (arith, high)
    longer (suc n) [] high low apart more q s = omega (arith, low)
    longer (suc n) (b ∷ t) high low apart more q s = no_slash_first b (take n t ++ more) q (apart b t refl) s

-- ---- a text spells at most one path

slashed_same : (p q : Path) → is_path p ≡ true → is_path q ≡ true → slashed p ≡ slashed q → p ≡ q
slashed_same [] [] g h e = refl
slashed_same [] (m ∷ q) g h e = cc
slashed_same (n ∷ p) [] g h e = cc
slashed_same (n ∷ p) (m ∷ q) g h e =
    let tail : n ++ slashed p ≡ m ++ slashed q = cc in
    let names = and_parts (is_name n) (is_path p) g in
    let others = and_parts (is_name m) (is_path q) h in
    let cut = part_first n (slashed p) m (slashed q) (is_part-name n names.0) (EndsPart-slashed q) tail in
    let none = no_part cut.0 (slashed p) (slashed q) (list_all-second (λ b. not (is_slash b)) n cut.0 (ap is_part (sym cut.1) ∙ is_part-name m others.0)) (EndsPart-slashed p) cut.2 in
    let same : m ≡ n = cut.1 ∙ ap (λ k. n ++ k) none.0 ∙ append-nil n in
    let rest = slashed_same p q names.1 others.1 none.1 in
    λ i. sym same i ∷ rest i

-- a path with names is longer than `/`
long : (n : Text) (p : Path) → is_path (n ∷ p) ≡ true → 0x2F ∷ [] ≡ slashed (n ∷ p) → ⊥
long n p h e =
    let some = (IsName-from_test n (and_parts (is_name n) (is_path p) h).0).some in
    omega (arith, some, ap length e, length-append n (slashed p))

pub SpellsPath-unique : (t : Text) (p q : Path) → SpellsPath t p → SpellsPath t q → p ≡ q
SpellsPath-unique t p q s r = by p q s.names r.names (sym s.text_is ∙ r.text_is)
  where
    by : (p q : Path) → is_path p ≡ true → is_path q ≡ true → print_path p ≡ print_path q → p ≡ q
    by [] [] g h e = refl
    by [] (m ∷ q) g h e = absurd (long m q h e)
    by (n ∷ p) [] g h e = absurd (long n p g (sym e))
    by (n ∷ p) (m ∷ q) g h e = slashed_same (n ∷ p) (m ∷ q) g h e
