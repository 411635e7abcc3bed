-- The steps of a disk, one after another, leave what its rules allow.
use Rattle.std.proofs.Common.{◌≡◌, ◌⊎◌, inl, inr, ℕ, ◌+◌, ◌-◌, ◌<◌, ◌≤◌, min, max, Bool, true, false, ◌&&◌, ◌||◌, cond, Some, List, length, take, drop, map, get_or, slice_get, arith, refl, sym, ap, subst, ◌∙◌, length-drop}
use Rattle.std.specs.Prelude.{nat_lt, nat_le}
use Rattle.std.specs.List.{list_any, range_with_len}
use Rattle.std.proofs.lemmas.Bool.{cases_lt}
use Rattle.std.proofs.lemmas.List.{ext_get_or, length-take, get_or-take, get_or-drop}
use Rattle.std.proofs.lemmas.List.FromFn.{length-map-range_with_len, get_or-map-range_with_len}
use Rattle.std.proofs.lemmas.Option.{slice_get-get_or, get_or_from_slice_get}
use Rattle.std.proofs.Math.Seq.{take-length}
use Rattle.grid_mem.specs.CallLaws.{above_of, le_is, le_not, lt_is, lt_not}
use Rattle.grid_outside.specs.Disk.{Torn, Cut}
use Rattle.grid_outside.specs.DiskModel.{Unsynced, MayLeave, is_loose, synced_at, after_write, after_cut}

-- the list of these bytes
build : (ℕ → ℕ) → ℕ → List ℕ
build f n = map f (range_with_len 0 n)

length-build : (f : ℕ → ℕ) (n : ℕ) → length (build f n) ≡ n
unfolding build
length-build f n = length-map-range_with_len f 0 n

get_or-build : (f : ℕ → ℕ) (n k : ℕ) → k < n → get_or (build f n) k 0 ≡ f k
unfolding build
get_or-build f n k lt = get_or-map-range_with_len f 0 n k k 0 lt (omega arith)

-- an element that is the same in both lists
same_element : (xs ys : List ℕ) (k : ℕ) → k < length xs → k < length ys → get_or xs k 0 ≡ get_or ys k 0 → slice_get xs k ≡ slice_get ys k
same_element xs ys k in_xs in_ys same = slice_get-get_or xs k 0 in_xs ∙ ap Some same ∙ sym (slice_get-get_or ys k 0 in_ys)

same_number : (xs ys : List ℕ) (k : ℕ) → k < length xs → slice_get xs k ≡ slice_get ys k → get_or xs k 0 ≡ get_or ys k 0
same_number xs ys k in_xs same = sym (get_or_from_slice_get ys k (get_or xs k 0) 0 (sym same ∙ slice_get-get_or xs k 0 in_xs))

pick : (b : Bool) (x y : ℕ) → b ≡ true → cond b x y ≡ x
pick b x y e = ap (λ (b : Bool). cond b x y) e

pass : (b : Bool) (x y : ℕ) → b ≡ false → cond b x y ≡ y
pass b x y e = ap (λ (b : Bool). cond b x y) e

bool_cases : (b : Bool) → (b ≡ true) ⊎ (b ≡ false)
bool_cases true = inl refl
bool_cases false = inr refl

-- a place is in the range of n bytes from there
in_range : ℕ → ℕ → ℕ → Bool
in_range at n k = nat_le at k && nat_lt k (at + n)

before_range : (at n k : ℕ) → k < at → in_range at n k ≡ false
unfolding in_range
before_range at n k lt = ap (λ (b : Bool). b && nat_lt k (at + n)) (le_not at k lt)

both_false : (a b : Bool) → b ≡ false → (a && b) ≡ false
both_false true b e = e
both_false false b e = refl

after_range : (at n k : ℕ) → at + n ≤ k → in_range at n k ≡ false
unfolding in_range
after_range at n k le = both_false (nat_le at k) (nat_lt k (at + n)) (lt_not k (at + n) le)

or_less : (a b c : Bool) → (a || (b || c)) ≡ false → (a || c) ≡ false
or_less true b c e = e
or_less false true c e = absurd (cc e)
or_less false false c e = e

or_first : (a b c : Bool) → (a || (b || c)) ≡ false → b ≡ false
or_first true b c e = absurd (cc e)
or_first false true c e = absurd (cc e)
or_first false false c e = refl

or_more : (a b c : Bool) → (a || c) ≡ false → b ≡ false → (a || (b || c)) ≡ false
or_more true b c e f = e
or_more false true c e f = absurd (cc f)
or_more false false c e f = e

or_left : (a b : Bool) → (a || b) ≡ false → a ≡ false
or_left true b e = e
or_left false b e = refl

-- a place that is not loose after a write was not before it, and lies outside its range
firm_before : (at n k : ℕ) (u : Unsynced) → is_loose (after_write at n u) k ≡ false → is_loose u k ≡ false
unfolding in_range
firm_before at n k u firm = or_less (nat_le (length u.synced) k) (in_range at n k) (list_any (λ r. nat_le r.0 k && nat_lt k (r.0 + r.1)) u.written) firm

firm_outside : (at n k : ℕ) (u : Unsynced) → is_loose (after_write at n u) k ≡ false → in_range at n k ≡ false
unfolding in_range
firm_outside at n k u firm = or_first (nat_le (length u.synced) k) (in_range at n k) (list_any (λ r. nat_le r.0 k && nat_lt k (r.0 + r.1)) u.written) firm

firm_after : (at n k : ℕ) (u : Unsynced) → is_loose u k ≡ false → in_range at n k ≡ false → is_loose (after_write at n u) k ≡ false
unfolding in_range
firm_after at n k u firm outside = or_more (nat_le (length u.synced) k) (in_range at n k) (list_any (λ r. nat_le r.0 k && nat_lt k (r.0 + r.1)) u.written) firm outside

firm_within : (k : ℕ) (u : Unsynced) → is_loose u k ≡ false → k < length u.synced
firm_within k u firm = above_of (length u.synced) k (or_left _ _ firm)

outside_cases : (at n k : ℕ) → in_range at n k ≡ false → (k < at) ⊎ (at + n ≤ k)
unfolding in_range
outside_cases at n k outside = elim (cases_lt k at) [
  | inl lt ↦ inl lt
  | inr le ↦ elim (cases_lt k (at + n)) [
    | inl within ↦ absurd (cc (outside, ap (λ (b : Bool). b && nat_lt k (at + n)) (le_is at k le) ∙ lt_is k (at + n) within))
    | inr past ↦ inr past
  ]
]

-- a write that was cut short, by its places
torn_by : (at n : ℕ) (old new : List ℕ) → length old ≤ length new → length new ≤ max (length old) (at + n) → min at (length new) ≤ length old
    → ((k : ℕ) → k < length old → k < at → get_or old k 0 ≡ get_or new k 0) → ((k : ℕ) → k < length old → at + n ≤ k → get_or old k 0 ≡ get_or new k 0) → Torn at n old new
torn_by at n old new shorter longer reaches front back = record {
  before = ext_get_or 0 (take at new) (take at old) (omega (arith, length-take at new, length-take at old, shorter, reaches)) (λ k lt.
      let in_new : k < at = omega (arith, length-take at new, lt) in
      let in_old : k < length old = omega (arith, length-take at new, reaches, lt) in
      get_or-take at new k 0 in_new ∙ sym (front k in_old in_new) ∙ sym (get_or-take at old k 0 in_new));
  after = ext_get_or 0 (drop (at + n) new) (drop (at + n) old) (omega (arith, length-drop (at + n) new, length-drop (at + n) old, shorter, longer)) (λ k lt.
      let in_old : (at + n) + k < length old = omega (arith, length-drop (at + n) new, shorter, longer, lt) in
      get_or-drop (at + n) new k 0 ∙ sym (back ((at + n) + k) in_old (omega arith)) ∙ sym (get_or-drop (at + n) old k 0));
  no_shorter = shorter;
  no_longer = longer;
}

-- what stands outside the range of a write that was cut short
torn_element : (at n : ℕ) (old new : List ℕ) (k : ℕ) → Torn at n old new → k < length new → (k < at) ⊎ (at + n ≤ k) → (k < length old) × (get_or new k 0 ≡ get_or old k 0)
torn_element at n old new k torn in_new (inl lt) =
    let sizes : length (take at new) ≡ length (take at old) = ap length torn.before in (
      (omega (arith, length-take at new, length-take at old, sizes, in_new, lt)),
      sym (get_or-take at new k 0 lt) ∙ ap (λ (xs : List ℕ). get_or xs k 0) torn.before ∙ get_or-take at old k 0 lt,
    )
torn_element at n old new k torn in_new (inr past) =
    let sizes : length (drop (at + n) new) ≡ length (drop (at + n) old) = ap length torn.after in
    let place : (at + n) + (k - (at + n)) ≡ k = omega (arith, past) in (
      (omega (arith, length-drop (at + n) new, length-drop (at + n) old, sizes, in_new, past)),
      ap (λ (j : ℕ). get_or new j 0) (sym place) ∙ sym (get_or-drop (at + n) new (k - (at + n)) 0) ∙ ap (λ (xs : List ℕ). get_or xs (k - (at + n)) 0) torn.after
          ∙ get_or-drop (at + n) old (k - (at + n)) 0 ∙ ap (λ (j : ℕ). get_or old j 0) place,
    )

-- a write: from what the rules allowed before to what they allow after
pub write_allowed : (at n : ℕ) (u : Unsynced) (before image : List ℕ) → MayLeave u before → Torn at n before image → MayLeave (after_write at n u) image
write_allowed at n u before image was torn = record {
  no_shorter = omega (arith, was.no_shorter, torn.no_shorter);
  no_longer = omega (arith, was.no_longer, torn.no_longer);
  others_stay = λ k in_image firm.
      let old = torn_element at n before image k torn in_image (outside_cases at n k (firm_outside at n k u firm)) in
      same_element image before k in_image old.0 old.1 ∙ was.others_stay k old.0 (firm_before at n k u firm);
}

-- and back: the range gets its synced bytes again, and what is too long is cut off
module _ (at n : ℕ) (u : Unsynced) (image : List ℕ) where
  restored_byte : ℕ → ℕ
  restored_byte k = cond (in_range at n k && nat_lt k (length u.synced)) (get_or u.synced k 0) (get_or image k 0)

  restored : List ℕ
  restored = build restored_byte (min (length image) u.longest)

  restored_outside : (k : ℕ) → in_range at n k ≡ false → restored_byte k ≡ get_or image k 0
  unfolding restored_byte
  restored_outside k outside = pass (in_range at n k && nat_lt k (length u.synced)) _ _ (ap (λ (b : Bool). b && nat_lt k (length u.synced)) outside)

  restored_inside : (k : ℕ) → in_range at n k ≡ true → k < length u.synced → restored_byte k ≡ get_or u.synced k 0
  unfolding restored_byte
  restored_inside k inside within = pick (in_range at n k && nat_lt k (length u.synced)) _ _ (ap (λ (b : Bool). b && nat_lt k (length u.synced)) inside ∙ lt_is k (length u.synced) within)

  pub write_restored : (held : List ℕ) → MayLeave u held → at ≤ length held → MayLeave (after_write at n u) image → (before : List ℕ) × MayLeave u before × Torn at n before image
  unfolding restored
  write_restored held holds fits allowed =
      let m = min (length image) u.longest in
      let size : length restored ≡ m = length-build restored_byte m in
      let byte : (k : ℕ) → k < length restored → get_or restored k 0 ≡ restored_byte k = λ k lt. get_or-build restored_byte m k (omega (arith, size, lt)) in (
        restored,
        record {
          no_shorter = omega (arith, size, allowed.no_shorter, holds.no_shorter, holds.no_longer);
          no_longer = omega (arith, size);
          others_stay = λ k lt firm. elim (bool_cases (in_range at n k)) [
            | inl inside ↦ same_element restored u.synced k lt (firm_within k u firm) (byte k lt ∙ restored_inside k inside (firm_within k u firm))
            | inr outside ↦
                let in_image : k < length image = omega (arith, size, lt) in
                same_element restored image k lt in_image (byte k lt ∙ restored_outside k outside) ∙ allowed.others_stay k in_image (firm_after at n k u firm outside)
          ];
        },
        torn_by at n restored image (omega (arith, size)) (omega (arith, size, allowed.no_longer)) (omega (arith, size, fits, holds.no_longer))
            (λ k lt front. byte k lt ∙ restored_outside k (before_range at n k front)) (λ k lt back. byte k lt ∙ restored_outside k (after_range at n k back)),
      )

-- a cut: from what the rules allowed before to what they allow after
pub cut_allowed : (n : ℕ) (u : Unsynced) (before image : List ℕ) → MayLeave u before → Cut n before image → MayLeave (after_cut n u) image
cut_allowed n u before image was cut =
    let size : length image ≤ length before = omega (arith, ap length cut.front, length-take (length image) before) in
    record {
      no_shorter = omega (arith, was.no_shorter, cut.no_shorter);
      no_longer = omega (arith, was.no_longer, size);
      others_stay = λ k in_image firm.
          let in_before : k < length before = omega (arith, size, in_image) in
          same_element image before k in_image in_before (ap (λ (xs : List ℕ). get_or xs k 0) (sym cut.front) ∙ get_or-take (length image) before k 0 in_image)
          ∙ was.others_stay k in_before firm;
    }

-- and back: an image that is too short gets its synced bytes again
module _ (n : ℕ) (u : Unsynced) (image : List ℕ) where
  lengthened_byte : ℕ → ℕ
  lengthened_byte k = cond (nat_lt k (length image)) (get_or image k 0) (get_or u.synced k 0)

  lengthened : List ℕ
  lengthened = build lengthened_byte u.shortest

  lengthened_front : (k : ℕ) → k < length image → lengthened_byte k ≡ get_or image k 0
  unfolding lengthened_byte
  lengthened_front k lt = pick (nat_lt k (length image)) _ _ (lt_is k (length image) lt)

  lengthened_back : (k : ℕ) → length image ≤ k → lengthened_byte k ≡ get_or u.synced k 0
  unfolding lengthened_byte
  lengthened_back k le = pass (nat_lt k (length image)) _ _ (lt_not k (length image) le)

  pub cut_restored : (held : List ℕ) → MayLeave u held → MayLeave (after_cut n u) image → (before : List ℕ) × MayLeave u before × Cut n before image
  unfolding lengthened
  cut_restored held holds allowed = elim (cases_lt (length image) u.shortest) [
    | inr enough ↦ (image, record { no_shorter = enough; no_longer = allowed.no_longer; others_stay = allowed.others_stay }, record { no_shorter = omega arith; front = take-length image })
    | inl short ↦
        let size : length lengthened ≡ u.shortest = length-build lengthened_byte u.shortest in
        let byte : (k : ℕ) → k < length lengthened → get_or lengthened k 0 ≡ lengthened_byte k = λ k lt. get_or-build lengthened_byte u.shortest k (omega (arith, size, lt)) in (
          lengthened,
          record {
            no_shorter = omega (arith, size);
            no_longer = omega (arith, size, holds.no_shorter, holds.no_longer);
            others_stay = λ k lt firm. elim (cases_lt k (length image)) [
              | inl in_image ↦ same_element lengthened image k lt in_image (byte k lt ∙ lengthened_front k in_image) ∙ allowed.others_stay k in_image firm
              | inr past ↦ same_element lengthened u.synced k lt (firm_within k u firm) (byte k lt ∙ lengthened_back k past)
            ];
          },
          record {
            no_shorter = omega (arith, size, allowed.no_shorter, short);
            front = ext_get_or 0 (take (length image) lengthened) image (omega (arith, length-take (length image) lengthened, size, short)) (λ k lt.
                let in_image : k < length image = omega (arith, length-take (length image) lengthened, size, short, lt) in
                get_or-take (length image) lengthened k 0 in_image ∙ byte k (omega (arith, size, short, in_image)) ∙ lengthened_front k in_image);
          },
        )
  ]

-- where nothing is unsynced a stop leaves what is held and nothing else
pub only_synced : (held image : List ℕ) → MayLeave (synced_at held) image → image ≡ held
only_synced held image allowed =
    let size : length image ≡ length held = omega (arith, allowed.no_shorter, allowed.no_longer) in
    ext_get_or 0 image held size (λ k lt.
    same_number image held k lt (allowed.others_stay k lt (ap (λ (b : Bool). b || false) (le_not (length held) k (omega (arith, size, lt))))))

pub synced_allowed : (held image : List ℕ) → image ≡ held → MayLeave (synced_at held) image
synced_allowed held image is = subst (MayLeave (synced_at held)) (sym is) (record { no_shorter = omega arith; no_longer = omega arith; others_stay = λ k lt firm. refl })
