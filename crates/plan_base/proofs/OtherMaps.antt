-- When a map in which a key is put, or from which one is removed, is another map, and when it is the same.
use Rattle.std.proofs.Common.{◌≡◌, ◌≢◌, Bool, true, false, cond, Some, None, refl, sym, ap, ◌∙◌}
use Rattle.std.specs.Prelude.{is_some}
use Rattle.std.specs.declared.cmp.Ordering.{Ordering}
use Rattle.std.specs.Ordering.{eq_by_cmp}
use Rattle.std.specs.Cmp.{IsTotalOrder}
use Rattle.std.specs.FinMap.{IsAntisymmetric}
use Rattle.grid_model.specs.Maps.{Map, get, has, put, remove}
use Rattle.grid_model.proofs.Comparing.{eq_by_cmp-Decides}
use Rattle.grid_model.proofs.MapLemmas.{same_map, get-put, get-remove}

itself : {K : Type 0} {R : K → K → Ordering} → IsTotalOrder R → IsAntisymmetric R → (k : K) → eq_by_cmp R k k ≡ true
itself o same k = (eq_by_cmp-Decides o same k k).1 refl

module _ {K X : Type 0} {R : K → K → Ordering} (o : IsTotalOrder R) (same : IsAntisymmetric R) where
  -- a value that is there
  pub put-same : (m : Map R X) (k : K) (x : X) → get m k ≡ Some x → put m k x ≡ m
  put-same m k x there = same_map o same (put m k x) m (λ q. get-put o m k x q ∙ by q (eq_by_cmp R q k) refl)
    where
      by : (q : K) (b : Bool) → eq_by_cmp R q k ≡ b → cond b (Some x) (get m q) ≡ get m q
      by q false is = refl
      by q true is = sym (ap (get m) ((eq_by_cmp-Decides o same q k).0 is) ∙ there)

  -- a value that is not there
  pub put-other : (m : Map R X) (k : K) (x : X) → get m k ≢ Some x → put m k x ≢ m
  put-other m k x other e = other (ap (λ (n : Map R X). get n k) (sym e) ∙ get-put o m k x k ∙ ap (λ b. cond b (Some x) (get m k)) (itself o same k))

  -- a key that is not there
  pub put-new : (m : Map R X) (k : K) (x : X) → has m k ≡ false → put m k x ≢ m
  put-new m k x none = put-other m k x (λ e. let wrong : true ≡ false = ap is_some (sym e) ∙ none in cc)

  -- a key that is there
  pub remove-there : (m : Map R X) (k : K) → has m k ≡ true → remove m k ≢ m
  remove-there m k there e =
      let gone : get m k ≡ None = ap (λ (n : Map R X). get n k) (sym e) ∙ get-remove o m k k ∙ ap (λ b. cond b None (get m k)) (itself o same k) in
      let wrong : false ≡ true = ap is_some (sym gone) ∙ there in
      cc
