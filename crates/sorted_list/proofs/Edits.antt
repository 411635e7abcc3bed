-- Blocks of which one is changed.
use Rattle.std.proofs.Common.{◌≡◌, ℕ, zero, suc, ◌<◌, ◌≤◌, ◌+◌, ◌-◌, Bool, List, [], ◌∷◌, ◌++◌, Vec, length, take, drop, slice_index_or, slice_set, refl, sym, ap, ◌∙◌, subst, arith, append_assoc}
use Rattle.std.specs.Prelude.{insert}
use Rattle.std.specs.List.{remove}
use Rattle.std.proofs.lemmas.List.{take-append-drop, length-take, length-drop, drop-drop}
use Rattle.std.proofs.Math.Seq.{take-add}
use Rattle.sorted_list.specs.Blocks.{joined, AreFilled, in_front, behind, IsWithin, IsInside, IsCutInTwo, begins}

-- ---- lists

set_parts : {K : Type 0} (xs : List K) (at : ℕ) (key : K) (rest : List K) → at < length xs → slice_set xs at key ++ rest ≡ take at xs ++ (key ∷ drop 1 (drop at xs ++ rest))
set_parts [] at key rest low = absurd (omega arith)
set_parts (x ∷ xs) zero key rest low = refl
set_parts (x ∷ xs) (suc at) key rest low = ap (λ l. x ∷ l) (set_parts xs at key rest (omega arith))

insert_parts : {K : Type 0} (xs : List K) (at : ℕ) (key : K) (rest : List K) → insert xs at key ++ rest ≡ take at xs ++ (key ∷ (drop at xs ++ rest))
insert_parts xs at key rest = append_assoc (take at xs) (key ∷ drop at xs) rest

remove_parts : {K : Type 0} (xs : List K) (at : ℕ) (rest : List K) → at < length xs → remove xs at ++ rest ≡ take at xs ++ drop 1 (drop at xs ++ rest)
remove_parts [] at rest low = absurd (omega arith)
remove_parts (x ∷ xs) zero rest low = refl
remove_parts (x ∷ xs) (suc at) rest low = ap (λ l. x ∷ l) (remove_parts xs at rest (omega arith))

only_parts : {K : Type 0} (xs : List K) (at : ℕ) (rest : List K) → length xs ≡ 1 → at < length xs → rest ≡ take at xs ++ drop 1 (drop at xs ++ rest)
only_parts [] at rest one low = absurd (omega arith)
only_parts (x ∷ []) zero rest one low = refl
only_parts (x ∷ []) (suc at) rest one low = absurd (omega arith)
only_parts (x ∷ y ∷ xs) at rest one low = absurd (omega (arith, one))

module _ {K Z : Type 0} where
  -- ---- places

  pub inside_below : (bs : List (Vec K Z)) (n at : ℕ) → IsInside bs n at → n < length bs
  inside_below [] n at h = absurd h
  inside_below (b ∷ bs) zero at h = omega arith
  inside_below (b ∷ bs) (suc n) at h = omega (arith, h.0)

  pub inside_at : (bs : List (Vec K Z)) (n at : ℕ) → IsInside bs n at → (block : Vec K Z) → block ≡ slice_index_or bs n block → at < length block.items
  inside_at [] n at h block is = absurd h
  inside_at (b ∷ bs) zero at h block is = omega (arith, h, ap (λ v. length v.items) is)
  inside_at (b ∷ bs) (suc n) at h block is = inside_at bs n at h.1 block is

  pub within_below : (bs : List (Vec K Z)) (n at : ℕ) → IsWithin bs n at → 0 < length bs → n < length bs
  within_below [] n at h some = absurd (omega arith)
  within_below (b ∷ bs) zero at h some = omega arith
  within_below (b ∷ bs) (suc n) at h some = omega (arith, h.0)

  pub within_at : (bs : List (Vec K Z)) (n at : ℕ) → IsWithin bs n at → 0 < length bs → (block : Vec K Z) → block ≡ slice_index_or bs n block → at ≤ length block.items
  within_at [] n at h some block is = absurd (omega arith)
  within_at (b ∷ bs) zero at h some block is = omega (arith, h, ap (λ v. length v.items) is)
  within_at (b ∷ bs) (suc n) at h some block is = within_at bs n at h.1 (omega (arith, h.0)) block is

  -- the key in front of a place
  pub inside_last : (bs : List (Vec K Z)) (n at : ℕ) → IsWithin bs n at → 0 < at → IsInside bs n (at - 1)
  inside_last [] n at h some = absurd (omega (arith, h.1))
  inside_last (b ∷ bs) zero at h some = omega (arith, h)
  inside_last (b ∷ bs) (suc n) at h some = (h.0, inside_last bs n at h.1 some)

  -- the keys in front of a place and those behind it are all
  pub joined_parts : (bs : List (Vec K Z)) (n at : ℕ) → IsWithin bs n at → joined bs ≡ in_front bs n at ++ behind bs n at
  joined_parts [] n at h = refl
  joined_parts (b ∷ bs) zero at h = ap (λ l. l ++ joined bs) (sym (take-append-drop at b.items)) ∙ append_assoc (take at b.items) (drop at b.items) (joined bs)
  joined_parts (b ∷ bs) (suc n) at h = ap (λ l. b.items ++ l) (joined_parts bs n at h.1) ∙ sym (append_assoc b.items (in_front bs n at) (behind bs n at))

  -- so they stay where those stay
  pub joined_kept : (old new : List (Vec K Z)) (n at m to : ℕ) → IsWithin old n at → IsWithin new m to → in_front new m to ≡ in_front old n at → behind new m to ≡ behind old n at → joined new ≡ joined old
  joined_kept old new n at m to was within front rest =
      joined_parts new m to within ∙ ap (λ l. l ++ behind new m to) front ∙ ap (λ l. in_front old n at ++ l) rest ∙ sym (joined_parts old n at was)

  -- ---- a block that is changed

  module _ (block new : Vec K Z) where
    pub joined_set : (bs : List (Vec K Z)) (n at : ℕ) (key : K) → IsInside bs n at → block ≡ slice_index_or bs n block → new.items ≡ slice_set block.items at key
        → joined (slice_set bs n new) ≡ in_front bs n at ++ (key ∷ drop 1 (behind bs n at))
    joined_set [] n at key h is made = absurd h
    joined_set (b ∷ bs) zero at key h is made =
        ap (λ l. l ++ joined bs) (made ∙ ap (λ (v : Vec K Z). slice_set v.items at key) is) ∙ set_parts b.items at key (joined bs) h
    joined_set (b ∷ bs) (suc n) at key h is made =
        ap (λ l. b.items ++ l) (joined_set bs n at key h.1 is made) ∙ sym (append_assoc b.items (in_front bs n at) (key ∷ drop 1 (behind bs n at)))

    pub joined_insert : (bs : List (Vec K Z)) (n at : ℕ) (key : K) → n < length bs → block ≡ slice_index_or bs n block → new.items ≡ insert block.items at key
        → joined (slice_set bs n new) ≡ in_front bs n at ++ (key ∷ behind bs n at)
    joined_insert [] n at key low is made = absurd (omega arith)
    joined_insert (b ∷ bs) zero at key low is made =
        ap (λ l. l ++ joined bs) (made ∙ ap (λ (v : Vec K Z). insert v.items at key) is) ∙ insert_parts b.items at key (joined bs)
    joined_insert (b ∷ bs) (suc n) at key low is made =
        ap (λ l. b.items ++ l) (joined_insert bs n at key (omega arith) is made) ∙ sym (append_assoc b.items (in_front bs n at) (key ∷ behind bs n at))

    pub joined_remove : (bs : List (Vec K Z)) (n at : ℕ) → IsInside bs n at → block ≡ slice_index_or bs n block → new.items ≡ remove block.items at
        → joined (slice_set bs n new) ≡ in_front bs n at ++ drop 1 (behind bs n at)
    joined_remove [] n at h is made = absurd h
    joined_remove (b ∷ bs) zero at h is made =
        ap (λ l. l ++ joined bs) (made ∙ ap (λ (v : Vec K Z). remove v.items at) is) ∙ remove_parts b.items at (joined bs) h
    joined_remove (b ∷ bs) (suc n) at h is made =
        ap (λ l. b.items ++ l) (joined_remove bs n at h.1 is made) ∙ sym (append_assoc b.items (in_front bs n at) (drop 1 (behind bs n at)))

    pub joined_same : (bs : List (Vec K Z)) (n : ℕ) → n < length bs → block ≡ slice_index_or bs n block → new.items ≡ block.items → joined (slice_set bs n new) ≡ joined bs
    joined_same [] n low is made = absurd (omega arith)
    joined_same (b ∷ bs) zero low is made = ap (λ l. l ++ joined bs) (made ∙ ap (λ (v : Vec K Z). v.items) is)
    joined_same (b ∷ bs) (suc n) low is made = ap (λ l. b.items ++ l) (joined_same bs n (omega arith) is made)

  -- a block goes with its only key
  pub joined_dropped : (block : Vec K Z) (bs : List (Vec K Z)) (n at : ℕ) → IsInside bs n at → block ≡ slice_index_or bs n block → length block.items ≡ 1
      → joined (remove bs n) ≡ in_front bs n at ++ drop 1 (behind bs n at)
  joined_dropped block [] n at h is one = absurd h
  joined_dropped block (b ∷ bs) zero at h is one = only_parts b.items at (joined bs) (sym (ap (λ (v : Vec K Z). length v.items) is) ∙ one) h
  joined_dropped block (b ∷ bs) (suc n) at h is one =
      ap (λ l. b.items ++ l) (joined_dropped block bs n at h.1 is one) ∙ sym (append_assoc b.items (in_front bs n at) (drop 1 (behind bs n at)))

  -- ---- a block that is cut in two

  pub cut_made : (block one other : Vec K Z) (bs new : List (Vec K Z)) (n middle next : ℕ) → n < length bs → block ≡ slice_index_or bs n block
      → one.items ≡ take middle block.items → other.items ≡ drop middle block.items → next ≡ suc n → new ≡ insert (slice_set bs n one) next other → IsCutInTwo bs n middle new
  cut_made block one other bs new n middle next low is first last behind made = by bs new n low is (made ∙ ap (λ k. insert (slice_set bs n one) k other) behind)
    where
      by : (bs new : List (Vec K Z)) (n : ℕ) → n < length bs → block ≡ slice_index_or bs n block → new ≡ insert (slice_set bs n one) (suc n) other → IsCutInTwo bs n middle new
      by [] new n low is made = absurd (omega arith)
      by (b ∷ bs) new zero low is made = (one, other, first ∙ ap (λ (v : Vec K Z). take middle v.items) is, last ∙ ap (λ (v : Vec K Z). drop middle v.items) is, made)
      by (b ∷ bs) new (suc n) low is made = (insert (slice_set bs n one) (suc n) other, by bs (insert (slice_set bs n one) (suc n) other) n (omega arith) is refl, made)

  -- What a cut leaves of a place.
  pub record IsMoved (old new : List (Vec K Z)) (n at m to : ℕ) : Type 0 where
    pub within : IsWithin new m to
    pub front : in_front new m to ≡ in_front old n at
    pub behind : behind new m to ≡ behind old n at

take_take : {K : Type 0} (xs : List K) (at mid : ℕ) → at ≤ mid → take at (take mid xs) ≡ take at xs
take_take xs zero mid low = refl
take_take [] (suc at) zero low = refl
take_take [] (suc at) (suc mid) low = refl
take_take (x ∷ xs) (suc at) zero low = absurd (omega arith)
take_take (x ∷ xs) (suc at) (suc mid) low = ap (λ l. x ∷ l) (take_take xs at mid (omega arith))

drop_take : {K : Type 0} (xs rest : List K) (at mid : ℕ) → at ≤ mid → drop at (take mid xs) ++ (drop mid xs ++ rest) ≡ drop at xs ++ rest
drop_take xs rest zero mid low = sym (append_assoc (take mid xs) (drop mid xs) rest) ∙ ap (λ l. l ++ rest) (take-append-drop mid xs)
drop_take xs rest (suc at) zero low = absurd (omega arith)
drop_take [] rest (suc at) (suc mid) low = refl
drop_take (x ∷ xs) rest (suc at) (suc mid) low = drop_take xs rest at mid (omega arith)

take_more : {K : Type 0} (xs : List K) (at mid : ℕ) → mid ≤ at → take mid xs ++ take (at - mid) (drop mid xs) ≡ take at xs
take_more xs at mid low = sym (take-add mid (at - mid) xs) ∙ ap (λ n. take n xs) (omega arith)

drop_more : {K : Type 0} (xs : List K) (at mid : ℕ) → mid ≤ at → drop (at - mid) (drop mid xs) ≡ drop at xs
drop_more xs at mid low = drop-drop (at - mid) mid xs ∙ ap (λ n. drop n xs) (omega arith)

begins_drop : {K : Type 0} (test : K → Bool) (xs : List K) (at : ℕ) (rest : List K) (k : K) → at < length xs → k ≡ slice_index_or xs at k → begins test (drop at xs ++ rest) ≡ test k
begins_drop test [] at rest k low is = absurd (omega arith)
begins_drop test (x ∷ xs) zero rest k low is = ap test (sym is)
begins_drop test (x ∷ xs) (suc at) rest k low is = begins_drop test xs at rest k (omega arith) is

module _ {K Z : Type 0} where
  -- the key at a place is the first one behind it
  pub begins_at : (test : K → Bool) (bs : List (Vec K Z)) (n at : ℕ) → IsInside bs n at → (block : Vec K Z) → block ≡ slice_index_or bs n block
      → (k : K) → k ≡ slice_index_or block.items at k → begins test (behind bs n at) ≡ test k
  begins_at test [] n at h block is k there = absurd h
  begins_at test (b ∷ bs) zero at h block is k there = begins_drop test b.items at (joined bs) k h (there ∙ ap (λ (v : Vec K Z). slice_index_or v.items at k) is)
  begins_at test (b ∷ bs) (suc n) at h block is k there = begins_at test bs n at h.1 block is k there

  pub last_parts : (bs : List (Vec K Z)) (n at : ℕ) → IsInside bs n at → (x : K) × (in_front bs n (suc at) ≡ in_front bs n at ++ x ∷ []) × (behind bs n at ≡ x ∷ behind bs n (suc at))
  last_parts [] n at h = absurd h
  last_parts (b ∷ bs) zero at h = by b.items at h
    where
      by : (xs : List K) (at : ℕ) → at < length xs → (x : K) × (take (suc at) xs ≡ take at xs ++ x ∷ []) × (drop at xs ++ joined bs ≡ x ∷ (drop (suc at) xs ++ joined bs))
      by [] at low = absurd (omega arith)
      by (x ∷ xs) zero low = (x, refl, refl)
      by (x ∷ xs) (suc at) low = let rest = by xs at (omega arith) in (rest.0, ap (λ l. x ∷ l) rest.1, rest.2)
  last_parts (b ∷ bs) (suc n) at h =
      let rest = last_parts bs n at h.1 in
      (rest.0, ap (λ l. b.items ++ l) rest.1 ∙ sym (append_assoc b.items (in_front bs n at) (rest.0 ∷ [])), rest.2)

  pub inside_within : (bs : List (Vec K Z)) (n at : ℕ) → IsInside bs n at → IsWithin bs n at
  inside_within [] n at h = absurd h
  inside_within (b ∷ bs) zero at h = omega (arith, h)
  inside_within (b ∷ bs) (suc n) at h = (h.0, inside_within bs n at h.1)

  -- ---- what a cut leaves

  pub cut_length : (bs new : List (Vec K Z)) (n mid : ℕ) → IsCutInTwo bs n mid new → length new ≡ suc (length bs)
  cut_length [] new n mid cut = absurd cut
  cut_length (b ∷ bs) new zero mid cut = ap length cut.4
  cut_length (b ∷ bs) new (suc n) mid cut = ap length cut.2 ∙ ap suc (cut_length bs cut.0 n mid cut.1)

  pub moved_low : (bs new : List (Vec K Z)) (n at mid : ℕ) → IsCutInTwo bs n mid new → IsWithin bs n at → at ≤ mid → IsMoved bs new n at n at
  moved_low [] new n at mid cut h low = absurd cut
  moved_low (b ∷ bs) new zero at mid cut h low =
      subst (λ (l : List (Vec K Z)). IsMoved (b ∷ bs) l 0 at 0 at) (sym cut.4) (record {
        within = omega (arith, h, ap length cut.2, length-take mid b.items);
        front = ap (λ l. take at l) cut.2 ∙ take_take b.items at mid low;
        behind = ap (λ l. drop at l ++ (cut.1.items ++ joined bs)) cut.2 ∙ ap (λ l. drop at (take mid b.items) ++ (l ++ joined bs)) cut.3 ∙ drop_take b.items (joined bs) at mid low;
      })
  moved_low (b ∷ bs) new (suc n) at mid cut h low =
      let rest = moved_low bs cut.0 n at mid cut.1 h.1 low in
      subst (λ (l : List (Vec K Z)). IsMoved (b ∷ bs) l (suc n) at (suc n) at) (sym cut.2) (record {
        within = (omega (arith, h.0, cut_length bs cut.0 n mid cut.1), rest.within);
        front = ap (λ l. b.items ++ l) rest.front;
        behind = rest.behind;
      })

  pub moved_high : (bs new : List (Vec K Z)) (n at mid next : ℕ) → IsCutInTwo bs n mid new → IsWithin bs n at → mid ≤ at → next ≡ suc n → IsMoved bs new n at next (at - mid)
  moved_high bs new n at mid next cut h low behind = subst (λ k. IsMoved bs new n at k (at - mid)) (sym behind) (by bs new n cut h)
    where
      by : (bs new : List (Vec K Z)) (n : ℕ) → IsCutInTwo bs n mid new → IsWithin bs n at → IsMoved bs new n at (suc n) (at - mid)
      by [] new n cut h = absurd cut
      by (b ∷ bs) new zero cut h =
          subst (λ (l : List (Vec K Z)). IsMoved (b ∷ bs) l 0 at 1 (at - mid)) (sym cut.4) (record {
            within = (omega arith, omega (arith, h, ap length cut.3, length-drop mid b.items));
            front = ap (λ l. l ++ take (at - mid) cut.1.items) cut.2 ∙ ap (λ l. take mid b.items ++ take (at - mid) l) cut.3 ∙ take_more b.items at mid low;
            behind = ap (λ l. drop (at - mid) l ++ joined bs) cut.3 ∙ ap (λ l. l ++ joined bs) (drop_more b.items at mid low);
          })
      by (b ∷ bs) new (suc n) cut h =
          let rest = by bs cut.0 n cut.1 h.1 in
          subst (λ (l : List (Vec K Z)). IsMoved (b ∷ bs) l (suc n) at (suc (suc n)) (at - mid)) (sym cut.2) (record {
            within = (omega (arith, h.0, cut_length bs cut.0 n mid cut.1), rest.within);
            front = ap (λ l. b.items ++ l) rest.front;
            behind = rest.behind;
          })

  pub cut_filled : (bs new : List (Vec K Z)) (n mid : ℕ) → IsCutInTwo bs n mid new → 0 < mid → (block : Vec K Z) → block ≡ slice_index_or bs n block → mid < length block.items → AreFilled bs → AreFilled new
  cut_filled [] new n mid cut some block is rest filled = absurd cut
  cut_filled (b ∷ bs) new zero mid cut some block is rest filled =
      let low : mid < length b.items = omega (arith, rest, ap (λ (v : Vec K Z). length v.items) is) in
      subst (λ (l : List (Vec K Z)). AreFilled l) (sym cut.4)
      (omega (arith, ap length cut.2, length-take mid b.items), (omega (arith, ap length cut.3, length-drop mid b.items), filled.1))
  cut_filled (b ∷ bs) new (suc n) mid cut some block is rest filled =
      subst (λ (l : List (Vec K Z)). AreFilled l) (sym cut.2) (filled.0, cut_filled bs cut.0 n mid cut.1 some block is rest filled.1)
