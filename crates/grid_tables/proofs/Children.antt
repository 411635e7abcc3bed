-- Names in the order of parents: how a row is found by them, and how they change.
use Rattle.std.proofs.Common.{◌≡◌, ◌==◌, ℕ, Bool, true, false, cond, List, [], ◌∷◌, Option, Some, None, inl, inr, refl, sym, ap, ◌∙◌, subst, eqb-true}
use Rattle.std.specs.Prelude.{filter, find, map, not, ◌&&◌}
use Rattle.std.specs.BTreeSet.{replace_key}
use Rattle.std.specs.List.{AllByRecursion, list_any}
use Rattle.std.specs.List.Sorted.{IsStrictlySortedBy}
use Rattle.std.specs.declared.cmp.Ordering.{Ordering}
use Rattle.std.specs.declared.cmp.Ordering.TheVariants.{Less, Equal, Greater}
use Rattle.std.specs.Ordering.{is_eq, eq_by_cmp, nat_cmp, ordering_reverse, ordering_then}
use Rattle.std.specs.Cmp.{IsTotalOrder, nat_cmp_total, on_total, then_total}
use Rattle.std.proofs.lemmas.Cmp.{tied_itself}
use Rattle.grid_model.specs.Names.{Text, text_cmp}
use Rattle.grid_model.specs.Rows.{with_row}
use Rattle.grid_model.proofs.FoundRows.{none_is_found, none_passes}
use Rattle.tables_laws.proofs.Rows.{IsIn, any_from_in, in_from_all, all_from_in, in_from_find, find_from_in, in_from_filter, new_in_with_row, old_in_with_row, in_once, apart_in_with_row}
use Rattle.grid_tables.specs.declared.child_key.ChildKey.{ChildKey}
use Rattle.grid_tables.specs.ChildKeys.{AreNamed, child_cmp, child_of, child_total, child_whole}
use Rattle.grid_tables.specs.IndexKeys.{AreKeysOf, replaced_at}
use Rattle.grid_tables.specs.Indexes.{IsIndex, IsPlacedOnce, is_placed, place_cmp}
use Rattle.grid_model.proofs.Comparing.{text_cmp_total, text_cmp-IsAntisymmetric}
use Rattle.grid_tables.specs.KeyOrders.{first_tie, rest_tie, number_own, number_whole}
use Rattle.grid_tables.specs.Places.{passes}
use Rattle.grid_tables.specs.Probes.{same_number, tied}
use Rattle.grid_tables.proofs.IndexKeys.{key-forgot, key-moved, key-put, keys-at, keys-none, keys-same}
use Rattle.grid_tables.proofs.Indexes.{alike, any_found, found_itself, placed_decides}
use Rattle.grid_tables.proofs.KeyLookUps.{found_alike, keys_alike}

-- places in order
places_total : {X : Type 0} (parent : X → ℕ) (name : X → Text) → IsTotalOrder (place_cmp parent name)
places_total parent name = then_total (on_total parent nat_cmp_total) (on_total name text_cmp_total)

-- ---- rows that keys name

-- rows that are picked for keys, one for each
record ArePicked {X K : Type 0} (of : X → K) (rows : List X) (keys : List K) : Type 0 where
  named : List X
  are : map of named ≡ keys
  among : (x : X) → IsIn named x → IsIn rows x

pick : {X K : Type 0} (of : X → K) (rows : List X) (keys : List K) → ((k : K) → IsIn keys k → (x : X) × IsIn rows x × (of x ≡ k)) → ArePicked of rows keys
pick of rows [] each = record { named = []; are = refl; among = λ x here. absurd here }
pick of rows (k ∷ keys) each =
    let first = each k (inl refl) in
    let rest = pick of rows keys (λ q later. each q (inr later)) in
    record {
      named = first.0 ∷ rest.named;
      are = λ i. first.2 i ∷ rest.are i;
      among = λ x here. elim here [ inl is ↦ subst (λ y. IsIn rows y) is first.1 | inr later ↦ rest.among x later ];
    }

in_map : {X K : Type 0} (f : X → K) (rows : List X) (k : K) → IsIn (map f rows) k → (x : X) × IsIn rows x × (f x ≡ k)
in_map f [] k here = absurd here
in_map f (r ∷ rows) k (inl is) = (r, inl refl, is)
in_map f (r ∷ rows) k (inr later) = let found = in_map f rows k later in (found.0, inr found.1, found.2)

map_map : {X K : Type 0} (f : X → K) (g : K → ℕ) (rows : List X) → map g (map f rows) ≡ map (λ x. g (f x)) rows
map_map f g [] = refl
map_map f g (r ∷ rows) = ap (λ l. g (f r) ∷ l) (map_map f g rows)

module _ {X : Type 0} (number parent : X → ℕ) (name : X → Text) where
  abbrev of : X → ChildKey
  of r = child_of number parent name r

  id_of : (x : X) (k : ChildKey) → of x ≡ k → number x ≡ k.id
  id_of x k is = ap (λ q. q.id) is

  ordered_named : (named : List X) → ((x y : X) → IsIn named x → IsIn named y → place_cmp parent name x y ≡ Equal → x ≡ y) → IsStrictlySortedBy child_cmp (map of named)
      → IsStrictlySortedBy (place_cmp parent name) named
  unfolding IsStrictlySortedBy
  ordered_named [] once sorted = tt
  ordered_named (x ∷ named) once sorted = (
    each named sorted.0 (λ y later. once x y (inl refl) (inr later)),
    ordered_named named (λ y z here there. once y z (inr here) (inr there)) sorted.1,
  )
    where
      less : (y : X) → (place_cmp parent name x y ≡ Equal → x ≡ y) → child_cmp (of x) (of y) ≡ Less → (o : Ordering) → place_cmp parent name x y ≡ o → place_cmp parent name x y ≡ Less
      less y same low Less e = e
      less y same low Equal e =
          let equal : child_cmp (of x) (of y) ≡ Equal = ap (λ z. child_cmp (of x) (of z)) (sym (same e)) ∙ tied_itself child_total (of x) in
          absurd (cc (low, equal))
      less y same low Greater e = let greater : child_cmp (of x) (of y) ≡ Greater = ap (λ o. ordering_then o (nat_cmp (number x) (number y))) e in absurd (cc (low, greater))

      each : (ys : List X) → AllByRecursion (λ k. child_cmp (of x) k ≡ Less) (map of ys) → ((y : X) → IsIn ys y → place_cmp parent name x y ≡ Equal → x ≡ y)
          → AllByRecursion (λ y. place_cmp parent name x y ≡ Less) ys
      each [] all same = tt
      each (y ∷ ys) all same = (less y (same y (inl refl)) all.0 (place_cmp parent name x y) refl, each ys all.1 (λ z later. same z (inr later)))

  -- no rows have no keys
  pub named_none : (rows : List X) (keys : List ChildKey) → rows ≡ [] → keys ≡ [] → AreNamed number parent name rows keys
  named_none rows keys none empty = record {
    indexed = keys-none of child_cmp rows keys none empty;
    once = λ x y here there e. absurd (subst (λ (l : List X). IsIn l x) none here);
  }

  module _ (row_cmp : X → X → Ordering) (total : IsTotalOrder row_cmp) (by_number : (a b : X) → row_cmp a b ≡ nat_cmp (number a) (number b))
      (rows : List X) (sorted : IsStrictlySortedBy row_cmp rows) (keys : List ChildKey) (are : AreNamed number parent name rows keys) where
    same_row : (x y : X) → IsIn rows x → IsIn rows y → number x ≡ number y → x ≡ y
    same_row x y here there e = in_once row_cmp total rows x y sorted here there (by_number x y ∙ number_own (number x) (number y) e)

    own : (a b : X) → of a ≡ of b → row_cmp a b ≡ Equal
    own a b same = by_number a b ∙ number_own (number a) (number b) (ap (λ k. k.id) same)

    -- ---- a row that is looked for by its name

    module _ (above : ℕ) (called : Text) where
      abbrev side : ChildKey → Ordering
      side k = ordering_then (nat_cmp above k.parent) (text_cmp called k.name)

      abbrev placed : X → Bool
      placed r = is_placed parent name above called r

      one_placed : (x y : X) → IsIn rows x → IsIn rows y → placed x ≡ true → placed y ≡ true → x ≡ y
      one_placed x y here there one other = are.once x y here there (alike parent name above called x y one other)

      told : (x : X) → placed x ≡ is_eq (side (of x))
      told x = placed_decides parent name above called x

      pub found_by_key : (key : ChildKey) → Some key ≡ find (λ k. is_eq (side k)) keys → find (λ r. number r == key.id) rows ≡ find placed rows
      found_by_key key found =
          let here = in_from_find (λ k. is_eq (side k)) keys key (sym found) in
          let x = are.indexed.none_else key here.0 in
          let is : placed x.0 ≡ true = told x.0 ∙ ap (λ k. is_eq (side k)) x.2 ∙ here.1 in
          ap (λ n. find (λ r. number r == n) rows) (sym (id_of x.0 key x.2))
          ∙ found_itself number row_cmp total by_number rows sorted x.0 x.1
          ∙ sym (find_from_in placed rows x.0 x.1 is (λ y there other. one_placed y x.0 there x.1 other is))

      pub none_by_key : None ≡ find (λ k. is_eq (side k)) keys → None ≡ find placed rows
      none_by_key none = sym (none_is_found placed rows (all_from_in (λ x. placed x ≡ false) rows (λ x here.
          told x ∙ in_from_all (λ k. is_eq (side k) ≡ false) keys (none_passes (λ k. is_eq (side k)) keys (sym none)) (of x) (are.indexed.all x here))))

      pub placed_alone : (test : X → Bool) → list_any (λ r. placed r && test r) rows ≡ passes test (find placed rows)
      placed_alone test = any_found placed test rows one_placed

    -- ---- the rows in a parent

    pub ids_of : (above : ℕ) (ids : List ℕ) → ids ≡ map (λ k. k.id) (filter (λ k. is_eq (nat_cmp above k.parent)) keys)
        → IsIndex number (place_cmp parent name) (filter (λ r. parent r == above) rows) ids
    ids_of above ids is = record {
      named = picked.named;
      ids_are = is ∙ ap (map (λ k. k.id)) (sym picked.are) ∙ map_map of (λ k. k.id) picked.named;
      ordered = ordered_named picked.named (λ x y here there. are.once x y (was x here) (was y there)) (subst (λ (l : List ChildKey). IsStrictlySortedBy child_cmp l) (sym picked.are) inside.ordered);
      all = λ x here.
          let key = inside.all x here in
          let y = in_map of picked.named (of x) (subst (λ (l : List ChildKey). IsIn l (of x)) (sym picked.are) key) in
          let same : y.0 ≡ x = same_row y.0 x (was y.0 y.1) (in_from_filter (λ r. parent r == above) rows x here).0 (ap (λ k. k.id) y.2) in
          subst (λ z. IsIn picked.named z) same y.1;
      none_else = picked.among;
    }
      where
        inside : AreKeysOf of child_cmp (filter (λ r. parent r == above) rows) (filter (λ k. is_eq (nat_cmp above k.parent)) keys)
        inside =
            keys_alike of child_cmp (λ r. nat_cmp above (parent r)) (λ r. parent r == above) (λ r. same_number above (parent r)) rows (filter (λ k. is_eq (nat_cmp above k.parent)) keys)
            (keys-at of child_cmp (λ k. is_eq (nat_cmp above k.parent)) rows keys (filter (λ k. is_eq (nat_cmp above k.parent)) keys) refl are.indexed)

        picked : ArePicked of (filter (λ r. parent r == above) rows) (filter (λ k. is_eq (nat_cmp above k.parent)) keys)
        picked = pick of (filter (λ r. parent r == above) rows) (filter (λ k. is_eq (nat_cmp above k.parent)) keys) inside.none_else

        was : (x : X) → IsIn picked.named x → IsIn rows x
        was x here = (in_from_filter (λ r. parent r == above) rows x (picked.among x here)).0

    -- ---- a row that is put

    module _ (row : X) where
      by_id : (r : X) → (number r == number row) ≡ eq_by_cmp row_cmp r row
      by_id r = same_number (number row) (number r) ∙ ap is_eq (sym (by_number row r)) ∙ sym (tied total row r)

      -- it has another id than a row that it does not replace
      apart_id : (x : X) → (row_cmp row x ≡ Equal → ⊥) → (b : Bool) → (number x == number row) ≡ b → not b ≡ true
      apart_id x apart true e = absurd (apart (by_number row x ∙ number_own (number row) (number x) (sym (eqb-true _ _ e))))
      apart_id x apart false e = refl

      module _ (free : list_any (λ o. is_placed parent name (parent row) (name row) o && not (number o == number row)) rows ≡ false) where
        other_place : (x : X) → IsIn rows x → (row_cmp row x ≡ Equal → ⊥) → place_cmp parent name row x ≡ Equal → ⊥
        other_place x here apart same =
            let is : is_placed parent name (parent row) (name row) x ≡ true = placed_decides parent name (parent row) (name row) x ∙ ap is_eq same in
            let other : not (number x == number row) ≡ true = apart_id x apart (number x == number row) refl in
            let both : (is_placed parent name (parent row) (name row) x && not (number x == number row)) ≡ true = ap (λ b. b && not (number x == number row)) is ∙ other in
            let some = any_from_in (λ o. is_placed parent name (parent row) (name row) o && not (number o == number row)) rows x here both in
            absurd (cc (some, free))

        once_put : IsPlacedOnce parent name (with_row row_cmp rows row)
        once_put x y here there tie =
            elim (apart_in_with_row row_cmp total rows row x sorted here) [
              | inl one ↦ elim (apart_in_with_row row_cmp total rows row y sorted there) [
                | inl other ↦ sym one ∙ other
                | inr was ↦ absurd (other_place y was.0 was.1 (ap (λ z. place_cmp parent name z y) one ∙ tie))
              ]
              | inr was ↦ elim (apart_in_with_row row_cmp total rows row y sorted there) [
                | inl other ↦ absurd (other_place x was.0 was.1 (turned_place row x (ap (λ z. place_cmp parent name x z) other ∙ tie)))
                | inr also ↦ are.once x y was.0 also.0 tie
              ]
            ]
          where
            turned_place : (a b : X) → place_cmp parent name b a ≡ Equal → place_cmp parent name a b ≡ Equal
            turned_place a b e = (places_total parent name).antisymm a b ∙ ap ordering_reverse e

        module _ (key : ChildKey) (key_is : key ≡ of row) (more : List ChildKey) (put : more ≡ replace_key child_cmp keys key) where
          abbrev ties : ChildKey → Bool
          ties k = is_eq (child_cmp key k)

          replaced_by_id : replaced_at (λ r. number r == number row) rows ties keys ≡ replaced_at (λ r. eq_by_cmp row_cmp r row) rows ties keys
          replaced_by_id = ap (λ (o : Option X). cond (list_any ties keys) None o) (found_alike (λ r. number r == number row) (λ r. eq_by_cmp row_cmp r row) rows by_id)

          pub named_put : None ≡ replaced_at (λ r. number r == number row) rows ties keys → AreNamed number parent name (with_row row_cmp rows row) more
          named_put none = record {
            indexed = key-put row_cmp total of child_cmp child_total child_whole rows sorted row key key_is keys are.indexed more put own (none ∙ replaced_by_id);
            once = once_put;
          }

          pub named_moved : (old : X) → Some old ≡ replaced_at (λ r. number r == number row) rows ties keys → (left : List ChildKey) → left ≡ filter (λ k. not (is_eq (child_cmp (of old) k))) more
              → AreNamed number parent name (with_row row_cmp rows row) left
          named_moved old some left is = record {
            indexed = key-moved row_cmp total of child_cmp child_total child_whole rows sorted row key key_is keys are.indexed more put own old (some ∙ replaced_by_id) left is;
            once = once_put;
          }

      -- in the place of one with its parent and its name
      equal_only : (q : Ordering) → is_eq q ≡ true → q ≡ Equal
      equal_only Less e = absurd (cc)
      equal_only Equal e = refl
      equal_only Greater e = absurd (cc)

      module _ (old : X) (here : IsIn rows old) (same : number old ≡ number row) (place : place_cmp parent name old row ≡ Equal) where
        same_parent : parent old ≡ parent row
        same_parent = number_whole (parent old) (parent row) (first_tie (nat_cmp (parent old) (parent row)) (text_cmp (name old) (name row)) place)

        same_name : name old ≡ name row
        same_name = text_cmp-IsAntisymmetric (name old) (name row) (rest_tie (nat_cmp (parent old) (parent row)) (text_cmp (name old) (name row)) place)

        same_key : of old ≡ of row
        same_key = λ i. record { parent = same_parent i; name = same_name i; id = same i }

        tied_old : (x : X) → IsIn rows x → row_cmp row x ≡ Equal → x ≡ old
        tied_old x there e = same_row x old there here (sym (number_whole (number row) (number x) (sym (by_number row x) ∙ e)) ∙ sym same)

        apart_old : row_cmp row old ≡ Equal
        apart_old = by_number row old ∙ number_own (number row) (number old) (sym same)

        in_place : AreNamed number parent name (with_row row_cmp rows row) keys
        in_place = record {
          indexed = record {
            ordered = are.indexed.ordered;
            all = λ x there. elim (apart_in_with_row row_cmp total rows row x sorted there) [
              | inl is ↦ subst (λ k. IsIn keys k) (same_key ∙ ap of is) (are.indexed.all old here)
              | inr was ↦ are.indexed.all x was.0
            ];
            none_else = λ k there. let x = are.indexed.none_else k there in kept x.0 k x.1 x.2 (row_cmp row x.0) refl;
          };
          once = λ x y there also tie. elim (apart_in_with_row row_cmp total rows row x sorted there) [
            | inl one ↦ elim (apart_in_with_row row_cmp total rows row y sorted also) [
              | inl other ↦ sym one ∙ other
              | inr was ↦ absurd (was.1 (unmoved y was.0 (ap (λ z. place_cmp parent name z y) one ∙ tie)))
            ]
            | inr was ↦ elim (apart_in_with_row row_cmp total rows row y sorted also) [
              | inl other ↦ absurd (was.1 (unmoved x was.0 ((places_total parent name).antisymm row x ∙ ap ordering_reverse (ap (λ z. place_cmp parent name x z) other ∙ tie))))
              | inr too ↦ are.once x y was.0 too.0 tie
            ]
          ];
        }
          where
            kept : (x : X) (k : ChildKey) → IsIn rows x → of x ≡ k → (o : Ordering) → row_cmp row x ≡ o → (y : X) × IsIn (with_row row_cmp rows row) y × (of y ≡ k)
            kept x k there has Less e = (x, old_in_with_row row_cmp rows row x there (λ tie. absurd (cc (tie, e))), has)
            kept x k there has Equal e = (row, new_in_with_row row_cmp rows row, sym same_key ∙ ap of (sym (tied_old x there e)) ∙ has)
            kept x k there has Greater e = (x, old_in_with_row row_cmp rows row x there (λ tie. absurd (cc (tie, e))), has)

            unmoved : (y : X) → IsIn rows y → place_cmp parent name row y ≡ Equal → row_cmp row y ≡ Equal
            unmoved y there e =
                let moved : place_cmp parent name old y ≡ Equal =
                ap (λ n. ordering_then (nat_cmp n (parent y)) (text_cmp (name old) (name y))) same_parent
                ∙ ap (λ (t : Text). ordering_then (nat_cmp (parent row) (parent y)) (text_cmp t (name y))) same_name ∙ e in
                ap (row_cmp row) (sym (are.once old y here there moved)) ∙ apart_old

      pub named_in_place : passes (λ r. is_eq (place_cmp parent name r row)) (find (λ r. number r == number row) rows) ≡ true → AreNamed number parent name (with_row row_cmp rows row) keys
      named_in_place is = by (find (λ r. number r == number row) rows) refl is
        where
          by : (found : Option X) → find (λ r. number r == number row) rows ≡ found → passes (λ r. is_eq (place_cmp parent name r row)) found ≡ true → AreNamed number parent name (with_row row_cmp rows row) keys
          by None e so = absurd (cc)
          by (Some old) e so =
              let there = in_from_find (λ r. number r == number row) rows old e in
              in_place old there.0 (eqb-true _ _ there.1) (equal_only (place_cmp parent name old row) so)

    -- ---- a row that is taken out

    pub named_without : (id : ℕ) (row : X) → Some row ≡ find (λ r. number r == id) rows → (left : List ChildKey) → left ≡ filter (λ k. not (is_eq (child_cmp (of row) k))) keys
        → AreNamed number parent name (filter (λ r. not (number r == id)) rows) left
    named_without id row found left is = record {
      indexed = key-forgot row_cmp total of child_cmp child_total child_whole rows sorted own (λ r. number r == id) row found (λ test. any_found (λ r. number r == id) test rows one_id ∙ ap (passes test) (sym found)) keys left is are.indexed;
      once = λ x y here there. are.once x y (in_from_filter (λ r. not (number r == id)) rows x here).0 (in_from_filter (λ r. not (number r == id)) rows y there).0;
    }
      where
        one_id : (x y : X) → IsIn rows x → IsIn rows y → (number x == id) ≡ true → (number y == id) ≡ true → x ≡ y
        one_id x y here there one other = same_row x y here there (eqb-true _ _ one ∙ sym (eqb-true _ _ other))

    pub named_same : (id : ℕ) → None ≡ find (λ r. number r == id) rows → AreNamed number parent name (filter (λ r. not (number r == id)) rows) keys
    named_same id none = record {
      indexed = keys-same of child_cmp (λ r. number r == id) rows keys none are.indexed;
      once = λ x y here there. are.once x y (in_from_filter (λ r. not (number r == id)) rows x here).0 (in_from_filter (λ r. not (number r == id)) rows y there).0;
    }
