-- Look-ups by names, users and leaves.
use Rattle.std.proofs.Common.{◌≡◌, ◌==◌, ℕ, suc, ◌<◌, Bool, true, false, cond, List, [], ◌∷◌, length, Option, Some, inl, inr, refl, sym, ap, ◌∙◌, subst, arith}
use Rattle.std.specs.Prelude.{find, filter, not, option_map, ◌&&◌, ◌||◌}
use Rattle.std.specs.List.{list_any, slice_get}
use Rattle.std.specs.List.Sorted.{IsStrictlySortedBy}
use Rattle.std.specs.declared.cmp.Ordering.{Ordering}
use Rattle.std.specs.declared.cmp.Ordering.TheVariants.{Less, Equal, Greater}
use Rattle.std.specs.Ordering.{is_eq, nat_cmp, ordering_then}
use Rattle.std.specs.Cmp.{ranked}
use Rattle.std.proofs.lemmas.Cmp.{tied_itself}
use Rattle.std.proofs.lemmas.List.Kept.{IsStrictlySortedBy-filter}
use Rattle.grid_model.specs.Names.{Text, text_cmp, same_text}
use Rattle.grid_model.proofs.Comparing.{text_cmp_total, text_cmp-IsAntisymmetric}
use Rattle.tables_laws.proofs.Rows.{IsIn, in_from_all, in_from_filter}
use Rattle.grid_tables.specs.declared.index_key.NamedId.{NamedId}
use Rattle.grid_tables.specs.IndexKeys.{AreKeysOf}
use Rattle.grid_tables.specs.KeyOrders.{name_cmp}
use Rattle.grid_tables.specs.Probes.{tied, is_eq_then}
use Rattle.grid_tables.proofs.Runs.{alike}

-- a test that comes to the same
pub any_alike : {X : Type 0} (p q : X → Bool) (rows : List X) → ((x : X) → p x ≡ q x) → list_any p rows ≡ list_any q rows
any_alike p q [] same = refl
any_alike p q (r ∷ rows) same = ap (λ b. b || list_any p rows) (same r) ∙ ap (λ b. q r || b) (any_alike p q rows same)

-- one of two tests
pub any_of_two : {X : Type 0} (p q : X → Bool) (rows : List X) → list_any (λ r. p r || q r) rows ≡ (list_any p rows || list_any q rows)
any_of_two p q [] = refl
any_of_two p q (r ∷ rows) = ap (λ b. (p r || q r) || b) (any_of_two p q rows) ∙ by (p r) (q r) (list_any p rows) (list_any q rows)
  where
    by : (a b c d : Bool) → ((a || b) || (c || d)) ≡ ((a || c) || (b || d))
    by true b c d = refl
    by false true true d = refl
    by false true false d = refl
    by false false c d = refl

-- where the first of two tests has told
pub or_told : (a b : Bool) → a ≡ true → a ≡ (a || b)
or_told true b e = refl
or_told false b e = absurd (cc)

pub or_other : (a b : Bool) → a ≡ false → b ≡ (a || b)
or_other true b e = absurd (cc)
or_other false b e = refl

-- two tests in either order
pub and_turned : (a b c : Bool) → b ≡ c → (a && b) ≡ (c && a)
and_turned true b true e = e
and_turned true b false e = e
and_turned false b true e = refl
and_turned false b false e = refl

-- ---- the first of a name

pub first_found : {X : Type 0} (p : X → Bool) (rows : List X) → find p rows ≡ slice_get (filter p rows) 0
first_found p [] = refl
first_found {X = X} p (r ∷ rows) =
    elim (p r) as (λ b. cond b (Some r) (find p rows) ≡ slice_get (cond b (r ∷ filter p rows) (filter p rows)) 0) [ true ↦ refl | false ↦ first_found p rows ]

pub found_alike : {X : Type 0} (p q : X → Bool) (rows : List X) → ((x : X) → p x ≡ q x) → find p rows ≡ find q rows
found_alike p q [] same = refl
found_alike {X = X} p q (r ∷ rows) same =
    ap (λ b. cond b (Some r) (find p rows)) (same r) ∙ ap (λ (o : Option X). cond (q r) (Some r) o) (found_alike p q rows same)

module _ {X : Type 0} (number : X → ℕ) (name : X → Text) (row_cmp : X → X → Ordering)
    (by_number : (a b : X) → row_cmp a b ≡ nat_cmp (number a) (number b)) (called : Text) where
  abbrev key_of : X → NamedId
  key_of r = record { name = name r; id = number r }

  abbrev is_called : X → Bool
  is_called r = is_eq (text_cmp called (name r))

  named : (x : X) → is_called x ≡ true → name x ≡ called
  named x e = sym (text_cmp-IsAntisymmetric called (name x) (tie (text_cmp called (name x)) e))
    where
      tie : (o : Ordering) → is_eq o ≡ true → o ≡ Equal
      tie Less f = absurd (cc)
      tie Equal f = refl
      tie Greater f = absurd (cc)

  same_order : (x y : X) → name x ≡ called → name y ≡ called → name_cmp (key_of x) (key_of y) ≡ nat_cmp (number x) (number y)
  same_order x y one other =
      ap (λ (t : Text). ordering_then (text_cmp t (name y)) (nat_cmp (number x) (number y))) one
      ∙ ap (λ (t : Text). ordering_then (text_cmp called t) (nat_cmp (number x) (number y))) other
      ∙ ap (λ o. ordering_then o (nat_cmp (number x) (number y))) (tied_itself text_cmp_total called)

  first_same : (rows : List X) → IsStrictlySortedBy row_cmp rows → ((x : X) → IsIn rows x → name x ≡ called)
      → (keys : List NamedId) → AreKeysOf key_of name_cmp rows keys
      → option_map (λ k. k.id) (slice_get keys 0) ≡ option_map number (slice_get rows 0)
  unfolding IsStrictlySortedBy
  first_same [] sorted all [] are = refl
  first_same [] sorted all (k ∷ keys) are = absurd (are.none_else k (inl refl)).1
  first_same (r ∷ rows) sorted all [] are = absurd (are.all r (inl refl))
  first_same (r ∷ rows) sorted all (k ∷ keys) are = by (are.none_else k (inl refl)) (are.all r (inl refl))
    where
      apart : (x : X) → IsIn (r ∷ rows) x → number x < number r → ⊥
      apart x (inl is) low = absurd (omega (arith, low, ap number is))
      apart x (inr later) low =
          let high : number r < number x = ranked (number r) (number x) Less
          (sym (sym (by_number r x) ∙ in_from_all (λ y. row_cmp r y ≡ Less) rows sorted.0 x later)) in
          absurd (omega (arith, low, high))

      by : ((x : X) × IsIn (r ∷ rows) x × (key_of x ≡ k)) → IsIn (k ∷ keys) (key_of r) → Some k.id ≡ Some (number r)
      by x (inl is) = ap (λ (q : NamedId). Some q.id) is
      by x (inr later) =
          let less : name_cmp k (key_of r) ≡ Less = in_from_all (λ q. name_cmp k q ≡ Less) keys are.ordered.0 (key_of r) later in
          let turned : nat_cmp (number x.0) (number r) ≡ Less = sym (same_order x.0 r (all x.0 x.1) (all r (inl refl)))
          ∙ ap (λ q. name_cmp q (key_of r)) x.2 ∙ less in
          absurd (apart x.0 x.1 (ranked (number x.0) (number r) Less (sym turned)))

  -- the id of the first row with a name
  pub first_named : (rows : List X) → IsStrictlySortedBy row_cmp rows → (keys : List NamedId) → AreKeysOf key_of name_cmp (filter is_called rows) keys
      → option_map (λ k. k.id) (slice_get keys 0) ≡ option_map number (find (λ r. same_text (name r) called) rows)
  first_named rows sorted keys are =
      first_same (filter is_called rows) (IsStrictlySortedBy-filter row_cmp is_called rows sorted)
      (λ x here. named x (in_from_filter is_called rows x here).1) keys are
      ∙ ap (option_map number) (sym (first_found is_called rows)
      ∙ sym (found_alike (λ r. same_text (name r) called) is_called rows (λ x. tied text_cmp_total called (name x))))

-- ---- keys with one front

-- where a test is that of a front
pub keys_alike : {X K : Type 0} (of : X → K) (cmp : K → K → Ordering) (side : X → Ordering) (is : X → Bool)
    → ((x : X) → is x ≡ is_eq (side x)) → (rows : List X) (keys : List K)
    → AreKeysOf of cmp (filter (λ r. is_eq (side r)) rows) keys → AreKeysOf of cmp (filter is rows) keys
keys_alike {X = X} of cmp side is same rows keys are = subst (λ (l : List X). AreKeysOf of cmp l keys) (sym (alike side is same rows)) are

-- two texts are these
pub same_texts : (q r a b : Text) → (same_text a q && same_text b r) ≡ is_eq (ordering_then (text_cmp q a) (text_cmp r b))
same_texts q r a b =
    ap (λ x. x && same_text b r) (tied text_cmp_total q a) ∙ ap (λ x. is_eq (text_cmp q a) && x) (tied text_cmp_total r b)
    ∙ sym (is_eq_then (text_cmp q a) (text_cmp r b))

pub some_any : {K : Type 0} (keys : List K) → not (length keys == 0) ≡ list_any (λ _. true) keys
some_any [] = refl
some_any (k ∷ keys) = let some : (suc (length keys) == 0) ≡ false = grind arith in ap not some

pub any_and_true : {X : Type 0} (p : X → Bool) (rows : List X) → list_any (λ r. p r && true) rows ≡ list_any p rows
any_and_true p rows = any_alike (λ r. p r && true) p rows (λ x. whole (p x))
  where
    whole : (b : Bool) → (b && true) ≡ b
    whole true = refl
    whole false = refl
