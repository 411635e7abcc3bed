-- The head of main, of which only the first bytes are looked at.
use Rattle.std.proofs.lemmas.Bool.{cases_lt}
use Rattle.std.proofs.Common.{◌≡◌, ◌≢◌, inl, inr, ℕ, zero, suc, ◌<◌, ◌≤◌, ◌%◌, [], ◌∷◌, take, length, slice_get, get_or, Some, None, refl, sym, ap, subst, ◌∙◌, arith}
use Rattle.std.proofs.lemmas.Option.{slice_get-get_or, slice_get_past}
use Rattle.grid_model.specs.Names.{Text}
use Rattle.grid_journal.specs.Stands.{magic, HasHead, NoHead, no_magic, no_root}

pub take_take : (m n : ℕ) (xs : Text) → m ≤ n → take m (take n xs) ≡ take m xs
take_take zero n xs le = refl
take_take (suc m) zero xs le = absurd (omega arith)
take_take (suc m) (suc n) [] le = refl
take_take (suc m) (suc n) (x ∷ xs) le = ap (λ l. x ∷ l) (take_take m n xs (omega arith))

pub slice_get-take : (k n : ℕ) (xs : Text) → k < n → slice_get (take n xs) k ≡ slice_get xs k
slice_get-take k zero xs lt = absurd (omega arith)
slice_get-take zero (suc n) [] lt = refl
slice_get-take zero (suc n) (x ∷ xs) lt = refl
slice_get-take (suc k) (suc n) [] lt = refl
slice_get-take (suc k) (suc n) (x ∷ xs) lt = slice_get-take k n xs (omega arith)

-- main and other bytes with the same first ones have both a head or both none
module _ (n : ℕ) (nine : 9 ≤ n) (xs ys : Text) (same : take n xs ≡ take n ys) where
  same_take : (m : ℕ) → m ≤ n → take m xs ≡ take m ys
  same_take m le = sym (take_take m n xs le) ∙ ap (take m) same ∙ take_take m n ys le

  same_get : (k : ℕ) → k < n → slice_get xs k ≡ slice_get ys k
  same_get k lt = sym (slice_get-take k n xs lt) ∙ ap (λ l. slice_get l k) same ∙ slice_get-take k n ys lt

  pub same_head : HasHead xs → HasHead ys
  same_head h = record {
    root = h.root;
    magic_is = sym (same_take 8 (omega arith)) ∙ h.magic_is;
    root_is = sym (same_get 8 (omega arith)) ∙ h.root_is;
    even = h.even;
  }

  pub same_fault : (at : ℕ) → NoHead xs at → NoHead ys at
  same_fault at (no_magic place lt front differs) =
      no_magic at lt (sym (same_take at (omega arith)) ∙ front) (λ e. differs (same_get at (omega arith) ∙ e))
  same_fault at (no_root front odd) =
      no_root (sym (same_take 8 (omega arith)) ∙ front) (λ root is. odd root (same_get 8 (omega arith) ∙ is))

-- ---- the head is one thing

-- bytes that agree with others up to a place agree at each place before
agree : (a b : ℕ) (main other : Text) → a < b → take b main ≡ take b other → slice_get main a ≡ slice_get other a
agree a b main other lt same = sym (slice_get-take a b main lt) ∙ ap (λ l. slice_get l a) same ∙ slice_get-take a b other lt

whole_magic : take 8 magic ≡ magic
whole_magic = refl

no_sooner : (main : Text) (a b : ℕ) → a < b → take b main ≡ take b magic → slice_get main a ≢ slice_get magic a → ⊥
no_sooner main a b lt same differs = differs (agree a b main magic lt same)

pub NoHead-unique : (main : Text) (a b : ℕ) → NoHead main a → NoHead main b → b ≡ a
NoHead-unique main a b (no_magic p lt front differs) (no_magic q less begin other) = elim (cases_lt a b) [
  | inl sooner ↦ absurd (no_sooner main a b sooner begin differs)
  | inr le ↦ elim (cases_lt b a) [ inl later ↦ absurd (no_sooner main b a later front other) | inr ge ↦ omega arith ]
]
NoHead-unique main a b (no_magic p lt front differs) (no_root all odd) = absurd (no_sooner main a 8 lt (all ∙ sym whole_magic) differs)
NoHead-unique main a b (no_root all odd) (no_magic q less begin other) = absurd (no_sooner main b 8 less (all ∙ sym whole_magic) other)
NoHead-unique main a b (no_root all odd) (no_root also more) = refl

pub not_both : (main : Text) (at : ℕ) → HasHead main → NoHead main at → ⊥
not_both main at h (no_magic place lt front differs) = no_sooner main at 8 lt (h.magic_is ∙ sym whole_magic) differs
not_both main at h (no_root front odd) = odd h.root h.root_is h.even

-- ---- where looking at it ends

module _ (head : Text) (at : ℕ) (lt : at < 8) (front : take at head ≡ take at magic) where
  magic_there : (d : ℕ) → slice_get magic at ≡ Some (get_or magic at d)
  magic_there d = slice_get-get_or magic at d lt

  pub wrong_byte : (found d : ℕ) → slice_get head at ≡ Some found → (found ≡ get_or magic at d → ⊥) → NoHead head at
  wrong_byte found d is differs = no_magic at lt front (λ e. let same : Some found ≡ Some (get_or magic at d) = sym is ∙ e ∙ magic_there d in differs cc)

  pub missing_byte : length head ≤ at → NoHead head at
  missing_byte le = no_magic at lt front (λ e. let none : None ≡ Some (get_or magic at 0) = sym (slice_get_past head at le) ∙ e ∙ magic_there 0 in cc)

module _ (head : Text) (at : ℕ) (ge : 8 ≤ at) (le : at ≤ 8) (front : take at head ≡ take at magic) where
  all_magic : take 8 head ≡ magic
  all_magic =
      let eight : at ≡ 8 = omega arith in
      let P : ℕ → Type 0 = λ n. take n head ≡ take n magic in
      subst P eight front

  pub odd_root : (root : ℕ) → slice_get head 8 ≡ Some root → (root % 2 ≡ 0 → ⊥) → NoHead head 8
  odd_root root is odd = no_root all_magic (λ other there even.
      let same : Some other ≡ Some root = sym there ∙ is in
      let e : other ≡ root = cc in
      let P : ℕ → Type 0 = λ n. n % 2 ≡ 0 in
      odd (subst P e even))

  pub missing_root : length head ≤ 8 → NoHead head 8
  missing_root short = no_root all_magic (λ other there. let none : None ≡ Some other = sym (slice_get_past head 8 short) ∙ there in cc)

  pub even_root : (root : ℕ) → slice_get head 8 ≡ Some root → root % 2 ≡ 0 → HasHead head
  even_root root is even = record { root = root; magic_is = all_magic; root_is = is; even = even }
