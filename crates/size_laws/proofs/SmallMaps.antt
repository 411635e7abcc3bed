-- What holds of all values of a map holds of those of the maps that are made of it.
use Rattle.std.proofs.Common.{◌≡◌, ◌∙◌, ◌+◌, Bool, true, false, cond, List, [], ◌∷◌, length, Option, Some, refl, ap, subst}
use Rattle.std.specs.Prelude.{map, filter, not, is_some}
use Rattle.std.specs.List.{AllByRecursion}
use Rattle.std.specs.Ordering.{eq_by_cmp}
use Rattle.std.specs.Cmp.{IsTotalOrder}
use Rattle.std.specs.FinMap as fin
use Rattle.std.specs.FinMap.{find, put as put_entry, is_sorted}
use Rattle.std.specs.FinMap.Entries.{by_order}
use Rattle.std.specs.declared.cmp.Ordering.{Ordering}
use Rattle.std.specs.declared.cmp.Ordering.TheVariants.{Less, Equal, Greater}
use Rattle.grid_model.specs.Maps.{Map, get, put, remove, from_list, if_sorted, rekey, with_values}
use Rattle.grid_model.specs.MapLists.{keep, each_value, size}
use Rattle.grid_model.proofs.MapLemmas.{entries-put}
use Rattle.tables_laws.proofs.Rows.{all_kept}

-- P of each value
abbrev pub Each : {K X : Type 0} → (X → Type 0) → List (K × X) → Type 0
Each {K} {X} P es = AllByRecursion (λ (e : K × X). P e.1) es

pub each_so : {K X : Type 0} (P Q : X → Type 0) (es : List (K × X)) → ((x : X) → P x → Q x) → Each P es → Each Q es
each_so P Q [] so all = tt
each_so P Q (e ∷ es) so all = (so e.1 all.0, each_so P Q es so all.1)

pub each_map : {K L X Y : Type 0} (P : X → Type 0) (Q : Y → Type 0) (k : K × X → L) (f : K × X → Y) (es : List (K × X))
    → ((e : K × X) → P e.1 → Q (f e)) → Each P es → Each Q (map (λ e. (k e, f e)) es)
each_map P Q k f [] so all = tt
each_map P Q k f (e ∷ es) so all = (so e all.0, each_map P Q k f es so all.1)

module _ {K X : Type 0} (R : K → K → Ordering) (P : X → Type 0) where
  each_put : (k : K) (x : X) (es : List (K × X)) → P x → Each P es → Each P (put_entry R k x es)
  each_put k x [] its all = (its, tt)
  each_put k x (e ∷ es) its all =
      elim (R k e.0) as (λ o. Each P (by_order o ((k, x) ∷ e ∷ es) ((e.0, x) ∷ es) (e ∷ put_entry R k x es))) [
        | Less ↦ (its, all)
        | Equal ↦ (its, all.1)
        | Greater ↦ (all.0, each_put k x es its all.1)
      ]

  each_found : (k : K) (es : List (K × X)) (x : X) → Each P es → find R k es ≡ Some x → P x
  each_found k [] x all e = absurd cc
  each_found k (f ∷ es) x all e =
      elim (eq_by_cmp R k f.0) as (λ b. cond b (Some f.1) (find R k es) ≡ Some x → P x) [
        | true ↦ λ h. let same : f.1 ≡ x = cc in subst P same all.0
        | false ↦ λ h. each_found k es x all.1 h
      ] e

  each_sorted : (es : List (K × X)) (b : Bool) (e : is_sorted R es ≡ b) (m : Map R X) → Each P es → Each P m.entries → Each P (if_sorted es b e m).entries
  each_sorted es true e m new old = new
  each_sorted es false e m new old = old

module _ {K X : Type 0} (R : K → K → Ordering) (P : X → Type 0) where
  pub each-from_list : (es : List (K × X)) → Each P es → Each P (from_list {R = R} es).entries
  each-from_list [] all = tt
  each-from_list (e ∷ es) all =
      each_sorted R P (put_entry R e.0 e.1 (from_list {R = R} es).entries) (is_sorted R (put_entry R e.0 e.1 (from_list {R = R} es).entries)) refl
      (from_list es) (each_put R P e.0 e.1 (from_list {R = R} es).entries all.0 (each-from_list es all.1)) (each-from_list es all.1)

module _ {K X : Type 0} {R : K → K → Ordering} (P : X → Type 0) where
  pub each-get : (m : Map R X) (k : K) (x : X) → Each P m.entries → get m k ≡ Some x → P x
  each-get m k x all found = each_found R P k m.entries x all found

  pub each-put : (m : Map R X) (k : K) (x : X) → P x → Each P m.entries → Each P (put m k x).entries
  each-put m k x its all = each_sorted R P (put_entry R k x m.entries) (is_sorted R (put_entry R k x m.entries)) refl m (each_put R P k x m.entries its all) all

  pub each-remove : (m : Map R X) (k : K) → Each P m.entries → Each P (remove m k).entries
  each-remove m k all = all_kept (λ (e : K × X). P e.1) (λ e. not (eq_by_cmp R k e.0)) m.entries all

  pub each-rekey : (f : K → K) (m : Map R X) → Each P m.entries → Each P (rekey f m).entries
  each-rekey f m all =
      each-from_list R P (map (λ e. (f e.0, e.1)) m.entries)
      (each_map P P (λ (e : K × X). f e.0) (λ (e : K × X). e.1) m.entries (λ e its. its) all)

  pub each-with_values : (f : X → X) (m : Map R X) → ((x : X) → P x → P (f x)) → Each P m.entries → Each P (with_values f m).entries
  each-with_values f m so all =
      each-from_list R P (map (λ e. (e.0, f e.1)) m.entries) (each_map P P (λ (e : K × X). e.0) (λ (e : K × X). f e.1) m.entries (λ e its. so e.1 its) all)

  pub each-each_value : (f : K → X → X) (m : Map R X) → ((k : K) (x : X) → P x → P (f k x)) → Each P m.entries → Each P (each_value f m).entries
  each-each_value f m so all =
      each-from_list R P (map (λ e. (e.0, f e.0 e.1)) m.entries)
      (each_map P P (λ (e : K × X). e.0) (λ (e : K × X). f e.0 e.1) m.entries (λ e its. so e.0 e.1 its) all)

  pub each-keep : (p : K → X → Bool) (m : Map R X) → Each P m.entries → Each P (keep p m).entries
  each-keep p m all =
      each_sorted R P (filter (λ e. p e.0 e.1) m.entries) (is_sorted R (filter (λ e. p e.0 e.1) m.entries)) refl m
      (all_kept (λ (e : K × X). P e.1) (λ e. p e.0 e.1) m.entries all) all

-- what is put at a key that is there makes the map no larger
module _ {K X : Type 0} {R : K → K → Ordering} (o : IsTotalOrder R) where
  pub size-put : (m : Map R X) (k : K) (x : X) → size (put m k x) ≡ cond (is_some (get m k)) (size m) (size m + 1)
  size-put m k x = ap length (entries-put o m k x) ∙ fin.Entries.length-put R o k x m.entries m.sorted

  pub size-put_there : (m : Map R X) (k : K) (x y : X) → get m k ≡ Some y → size (put m k x) ≡ size m
  size-put_there m k x y there = size-put m k x ∙ ap (λ (v : Option X). cond (is_some v) (size m) (size m + 1)) there
