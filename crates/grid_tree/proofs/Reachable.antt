-- New data goes to leaves that it may go to.
use Rattle.std.proofs.Common.{◌≡◌, ◌⊎◌, ℕ, zero, suc, ◌/◌, ◌%◌, Bool, true, false, List, [], ◌∷◌, ◌++◌, length, map, Option, Some, None, inl, inr, refl, sym, ap, ◌∙◌, subst}
use Rattle.std.specs.Prelude.{flat_map, filter, slice_get, take}
use Rattle.std.specs.Option.{option_map_or}
use Rattle.grid_model.specs.Maps.{get}
use Rattle.grid_model.specs.Names.{Text}
use Rattle.grid_model.specs.Grid.{Resource}
use Rattle.grid_model.specs.Trees.{Resources, children, chosen_kid, depth, is_any, possible, possible_by, possible_from, targets, targets_by, targets_from}
use Rattle.grid_model.specs.declared.grid.ResourceKind.{ResourceKind}
use Rattle.grid_model.specs.declared.grid.ResourceKind.TheVariants.{Storage, Passthru, Random, Replication}
use Rattle.tables_laws.proofs.Rows.{IsIn, in_from_filter}

-- ---- lists

module _ {X : Type 0} where
  in_append_first : (xs ys : List X) (x : X) → IsIn xs x → IsIn (xs ++ ys) x
  in_append_first [] ys x here = absurd here
  in_append_first (y ∷ xs) ys x (inl is) = inl is
  in_append_first (y ∷ xs) ys x (inr here) = inr (in_append_first xs ys x here)

  in_append_second : (xs ys : List X) (x : X) → IsIn ys x → IsIn (xs ++ ys) x
  in_append_second [] ys x here = here
  in_append_second (y ∷ xs) ys x here = inr (in_append_second xs ys x here)

  pub in_from_append : (xs ys : List X) (x : X) → IsIn (xs ++ ys) x → IsIn xs x ⊎ IsIn ys x
  in_from_append [] ys x here = inr here
  in_from_append (y ∷ xs) ys x (inl is) = inl (inl is)
  in_from_append (y ∷ xs) ys x (inr here) = elim (in_from_append xs ys x here) [ inl a ↦ inl (inr a) | inr b ↦ inr b ]

  pub in_from_slice_get : (xs : List X) (i : ℕ) (x : X) → slice_get xs i ≡ Some x → IsIn xs x
  in_from_slice_get [] i x is = absurd cc
  in_from_slice_get (y ∷ xs) zero x is = inl (let same : Some y ≡ Some x = is in cc)
  in_from_slice_get (y ∷ xs) (suc i) x is = inr (in_from_slice_get xs i x is)

module _ {X Y : Type 0} (f : X → List Y) where
  flat_map_from_in : (xs : List X) (x : X) (y : Y) → IsIn xs x → IsIn (f x) y → IsIn (flat_map f xs) y
  flat_map_from_in [] x y here its = absurd here
  flat_map_from_in (z ∷ xs) x y (inl is) its = in_append_first (f z) (flat_map f xs) y (subst (λ w. IsIn (f w) y) (sym is) its)
  flat_map_from_in (z ∷ xs) x y (inr here) its = in_append_second (f z) (flat_map f xs) y (flat_map_from_in xs x y here its)

  in_from_flat_map : (xs : List X) (y : Y) → IsIn (flat_map f xs) y → (x : X) × IsIn xs x × IsIn (f x) y
  in_from_flat_map [] y here = absurd here
  in_from_flat_map (z ∷ xs) y here = elim (in_from_append (f z) (flat_map f xs) y here) [
    | inl a ↦ (z, inl refl, a)
    | inr b ↦ let rest = in_from_flat_map xs y b in (rest.0, inr rest.1, rest.2)
  ]

-- ---- trees

-- what some of these give is among what all of these may give
some_of : (f g : Text → List Text) (kids all : List Text) → ((k leaf : Text) → IsIn kids k → IsIn (f k) leaf → IsIn (g k) leaf) → ((k : Text) → IsIn kids k → IsIn all k) → (leaf : Text) → IsIn (flat_map f kids) leaf → IsIn (flat_map g all) leaf
some_of f g kids all each are leaf here =
    let k = in_from_flat_map f kids leaf here in
    flat_map_from_in g all k.0 leaf (are k.0 k.1) (each k.0 leaf k.1 k.2)

-- what the chosen one gives
one_of : (f : Text → ℕ → List Text) (kids : List Text) (word : ℕ) (leaf : Text) → IsIn (chosen_kid f kids word) leaf → (k : Text) × IsIn kids k × IsIn (f k (word / length kids)) leaf
one_of f kids word leaf = by (slice_get kids (word % length kids)) refl
  where
    by : (o : Option Text) → slice_get kids (word % length kids) ≡ o → IsIn (option_map_or (λ kid. f kid (word / length kids)) o []) leaf → (k : Text) × IsIn kids k × IsIn (f k (word / length kids)) leaf
    by None is here = absurd here
    by (Some k) is here = (k, in_from_slice_get kids (word % length kids) k is, here)

module _ (tree : Resources) where
  module _ (d : ℕ) (r : Text) (word : ℕ) (leaf : Text) (each : (k : Text) (w : ℕ) (l : Text) → IsIn (targets_from d tree k w) l → IsIn (possible_from d tree k) l) where
    of_kind : (k : ResourceKind) (slot : ℕ) (u : Bool) (p : Option Text) (pl : ℕ) → let x : Resource = record { kind = k; slot = slot; up = u; parent = p; place = pl } in
        IsIn (targets_by tree r word (targets_from d tree) (Some x)) leaf → IsIn (possible_by tree r (possible_from d tree) (Some x)) leaf
    of_kind Storage slot u p pl here = here
    of_kind Passthru slot u p pl here =
        some_of (λ k. targets_from d tree k word) (possible_from d tree) (take 1 (children tree r)) (take 1 (children tree r)) (λ k l its given. each k word l given) (λ k its. its) leaf here
    of_kind Random slot u p pl here =
        let kids = filter (λ kid. is_any (possible tree kid)) (children tree r) in
        let k = one_of (targets_from d tree) kids word leaf here in
        flat_map_from_in (possible_from d tree) (children tree r) k.0 leaf (in_from_filter (λ kid. is_any (possible tree kid)) (children tree r) k.0 k.1).0 (each k.0 (word / length kids) leaf k.2)
    of_kind Replication slot u p pl here =
        some_of (λ k. targets_from d tree k word) (possible_from d tree) (children tree r) (children tree r) (λ k l its given. each k word l given) (λ k its. its) leaf here

    of_resource : (o : Option Resource) → IsIn (targets_by tree r word (targets_from d tree) o) leaf → IsIn (possible_by tree r (possible_from d tree) o) leaf
    of_resource None here = absurd here
    of_resource (Some x) here = of_kind x.kind x.slot x.up x.parent x.place here

  may_from : (d : ℕ) (r : Text) (word : ℕ) (leaf : Text) → IsIn (targets_from d tree r word) leaf → IsIn (possible_from d tree r) leaf
  may_from zero r word leaf here = absurd here
  may_from (suc d) r word leaf here = of_resource d r word leaf (may_from d) (get tree r) here

  pub target_may : (r : Text) (word : ℕ) (leaf : Text) → IsIn (targets tree r word) leaf → IsIn (possible tree r) leaf
  target_may r word leaf here = may_from (depth tree) r word leaf here
