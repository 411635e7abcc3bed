-- The set of a list, by what the list has: a list that strictly rises is the keys of the set of each list with its members.
use Rattle.std.proofs.Common.{◌≡◌, Bool, List, [], ◌∷◌, Option, Some, None, refl, sym, ap, ◌∙◌}
use Rattle.std.specs.Prelude.{map, find, option_map, is_some, ⊤}
use Rattle.std.specs.List.{list_any}
use Rattle.std.specs.List.Sorted.{IsStrictlySortedBy}
use Rattle.std.specs.declared.cmp.Ordering.{Ordering}
use Rattle.std.specs.Ordering.{eq_by_cmp}
use Rattle.std.specs.Cmp.{IsTotalOrder, both_ways}
use Rattle.std.specs.FinMap.{IsAntisymmetric}
use Rattle.grid_model.specs.Maps.{Set, get, add, from_list}
use Rattle.grid_model.specs.MapLists.{keys, set_of}
use Rattle.grid_model.proofs.FoundRows.{is_some-find}
use Rattle.grid_model.proofs.MapLemmas.{same_map}
use Rattle.tables_laws.proofs.Rows.{IsIn, in_from_any, any_from_in}
use Rattle.tables_laws.proofs.TableMaps.{entries_of, get-rows}
use Rattle.grid_tree.proofs.Candidates.{entries-sorted}

abbrev here : {K : Type 0} → K → ⊤
here x = tt

told_alike : {K : Type 0} (a b : Option K) → is_some a ≡ is_some b → option_map here a ≡ option_map here b
told_alike None None e = refl
told_alike None (Some y) e = absurd cc
told_alike (Some x) None e = absurd cc
told_alike (Some x) (Some y) e = refl

module _ {K : Type 0} {R : K → K → Ordering} (o : IsTotalOrder R) (same : IsAntisymmetric R) where
  set-entries : (xs : List K) → set_of {R = R} xs ≡ from_list (entries_of (λ (x : K). x) here xs)
  set-entries [] = refl
  set-entries (x ∷ xs) = ap (λ (s : Set R). add s x) (set-entries xs)

  get-set : (xs : List K) (k : K) → get (set_of {R = R} xs) k ≡ option_map here (find (λ x. eq_by_cmp R x k) xs)
  get-set xs k = ap (λ (s : Set R). get s k) (set-entries xs) ∙ get-rows o (λ (x : K). x) here xs k

  some_alike : (p : K → Bool) (xs ys : List K) → ((x : K) → IsIn xs x → IsIn ys x) → ((x : K) → IsIn ys x → IsIn xs x) → is_some (find p xs) ≡ is_some (find p ys)
  some_alike p xs ys to from =
      is_some-find p xs
      ∙ both_ways (list_any p xs) (list_any p ys)
      (λ e. let found = in_from_any p xs e in any_from_in p ys found.0 (to found.0 found.1) found.2)
      (λ e. let found = in_from_any p ys e in any_from_in p xs found.0 (from found.0 found.1) found.2)
      ∙ sym (is_some-find p ys)

  -- lists with the same members have one set
  pub one_set : (xs ys : List K) → ((x : K) → IsIn xs x → IsIn ys x) → ((x : K) → IsIn ys x → IsIn xs x) → set_of {R = R} xs ≡ set_of ys
  one_set xs ys to from =
      same_map o same (set_of {R = R} xs) (set_of {R = R} ys) (λ k.
      get-set xs k ∙ told_alike (find (λ x. eq_by_cmp R x k) xs) (find (λ x. eq_by_cmp R x k) ys) (some_alike (λ x. eq_by_cmp R x k) xs ys to from) ∙ sym (get-set ys k))

  firsts : (xs : List K) → map (λ (e : K × ⊤). e.0) (entries_of (λ (x : K). x) here xs) ≡ xs
  firsts [] = refl
  firsts (x ∷ xs) = ap (λ (ys : List K). x ∷ ys) (firsts xs)

  -- a list that strictly rises is what its set has in order
  pub keys-sorted : (xs : List K) → IsStrictlySortedBy R xs → keys (set_of {R = R} xs) ≡ xs
  keys-sorted xs sorted =
      ap (λ (s : Set R). keys s) (set-entries xs) ∙ ap (map (λ (e : K × ⊤). e.0)) (entries-sorted R (λ (x : K). x) here o xs sorted) ∙ firsts xs

  -- and what the set of each list with its members has
  pub keys_of : (xs ys : List K) → IsStrictlySortedBy R xs → ((x : K) → IsIn xs x → IsIn ys x) → ((x : K) → IsIn ys x → IsIn xs x) → xs ≡ keys (set_of {R = R} ys)
  keys_of xs ys sorted to from = sym (keys-sorted xs sorted) ∙ ap (λ (s : Set R). keys s) (one_set xs ys to from)
