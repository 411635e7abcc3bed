-- How many keys a map has once one is put or removed.
use Rattle.std.proofs.Common.{◌≡◌, ℕ, ◌+◌, ◌-◌, Bool, true, false, cond, Option, None, Some, length, refl, sym, ap, ◌∙◌, arith}
use Rattle.std.specs.Prelude.{is_some}
use Rattle.std.specs.declared.cmp.Ordering.{Ordering}
use Rattle.std.specs.Ordering.{eq_by_cmp}
use Rattle.std.specs.Cmp.{IsTotalOrder}
use Rattle.std.specs.FinMap.{IsAntisymmetric}
use Rattle.std.specs.FinMap.Entries.{length-put, length_without}
use Rattle.grid_model.specs.Maps.{Map, get, has, put, remove}
use Rattle.grid_model.specs.MapLists.{size}
use Rattle.grid_model.proofs.Comparing.{eq_by_cmp-Decides}
use Rattle.grid_model.proofs.MapLemmas.{entries-put, get-remove, same_map}

module _ {K X : Type 0} {R : K → K → Ordering} (o : IsTotalOrder R) where
  pub size-put : (m : Map R X) (k : K) (x : X) (had : Bool) → had ≡ has m k → size (put m k x) ≡ size m + cond had 0 1
  size-put m k x had is =
      ap length (entries-put o m k x) ∙ length-put R o k x m.entries m.sorted ∙ ap (λ b. cond b (size m) (size m + 1)) (sym is) ∙ more had (size m)
    where
      more : (b : Bool) (n : ℕ) → cond b n (n + 1) ≡ n + cond b 0 1
      more true n = omega arith
      more false n = refl

  pub size-remove : (m : Map R X) (k : K) (had : Bool) → had ≡ has m k → size (remove m k) ≡ size m - cond had 1 0
  size-remove m k had is =
      less (cond had 1 0) (size (remove m k)) (size m) (ap (λ b. cond b 1 0 + size (remove m k)) is ∙ length_without R o k m.entries m.sorted)
    where
      less : (d a n : ℕ) → d + a ≡ n → a ≡ n - d
      less d a n e = omega (arith, e)

  -- nothing is removed where nothing is
  pub remove-none : IsAntisymmetric R → (m : Map R X) (k : K) → false ≡ has m k → remove m k ≡ m
  remove-none same m k none = same_map o same (remove m k) m (λ q. get-remove o m k q ∙ by q (eq_by_cmp R q k) refl)
    where
      nothing : (v : Option X) → false ≡ is_some v → None ≡ v
      nothing None e = refl
      nothing (Some x) e = absurd cc

      by : (q : K) (b : Bool) → eq_by_cmp R q k ≡ b → cond b None (get m q) ≡ get m q
      by q false is = refl
      by q true is = nothing (get m k) none ∙ ap (get m) (sym ((eq_by_cmp-Decides o same q k).0 is))
