-- Maps whose keys are numbers: what stands among their entries, and what is put.
use Rattle.std.proofs.Common.{◌≡◌, ℕ, ◌<◌, Bool, true, false, cond, List, [], ◌∷◌, Some, None, inl, inr, refl, sym, ap, ◌∙◌, subst, arith}
use Rattle.std.specs.Prelude.{◌&&◌, T}
use Rattle.std.specs.declared.cmp.Ordering.{Ordering}
use Rattle.std.specs.declared.cmp.Ordering.TheVariants.{Less, Equal, Greater}
use Rattle.std.specs.Ordering.{nat_cmp, eq_by_cmp, is_lt}
use Rattle.std.specs.Cmp.{IsTotalOrder, nat_cmp_total, ranked}
use Rattle.std.specs.FinMap.{IsAntisymmetric, nat_cmp-IsAntisymmetric}
use Rattle.std.specs.FinMap as fin
use Rattle.std.specs.FinMap.Entries.{below_all, is_sorted}
use Rattle.std.proofs.lemmas.Bool.{false_from_ne_true}
use Rattle.grid_model.specs.Maps.{Map, get, put, remove}
use Rattle.grid_model.proofs.Comparing.{eq_by_cmp-Decides}
use Rattle.grid_model.proofs.MapLemmas.{get-put, get-remove, same_map}
use Rattle.tables_laws.proofs.Rows.{IsIn}

-- what is there may be put again
pub put_itself : {K V : Type 0} {R : K → K → Ordering} (o : IsTotalOrder R) → IsAntisymmetric R → (m : Map R V) (k : K) (x : V) → get m k ≡ Some x → put m k x ≡ m
put_itself {K = K} {V = V} {R = R} o same m k x here = same_map o same (put m k x) m (λ q. get-put o m k x q ∙ by q (eq_by_cmp R q k) refl)
  where
    by : (q : K) (b : Bool) → eq_by_cmp R q k ≡ b → cond b (Some x) (get m q) ≡ get m q
    by q true is = sym (ap (get m) ((eq_by_cmp-Decides o same q k).0 is) ∙ here)
    by q false is = refl

tied_itself : (n : ℕ) → eq_by_cmp nat_cmp n n ≡ true
tied_itself n = (eq_by_cmp-Decides nat_cmp_total nat_cmp-IsAntisymmetric n n).1 refl

not_tied : (m n : ℕ) → (m ≡ n → ⊥) → eq_by_cmp nat_cmp m n ≡ false
not_tied m n apart = false_from_ne_true (eq_by_cmp nat_cmp m n) (λ e. apart ((eq_by_cmp-Decides nat_cmp_total nat_cmp-IsAntisymmetric m n).0 e))

lower : (a b : ℕ) → T (is_lt (nat_cmp a b)) → a < b
lower a b low = elim (nat_cmp a b) as (λ o. nat_cmp a b ≡ o → T (is_lt o) → a < b) [
  | Less ↦ λ is _. ranked a b Less (sym is)
  | Equal ↦ λ is wrong. absurd wrong
  | Greater ↦ λ is wrong. absurd wrong
] refl low

both_of : (a b : Bool) → T (a && b) → T a × T b
both_of true true p = (tt, tt)
both_of true false p = absurd p
both_of false b p = absurd p

module _ {V : Type 0} where
  pub get_here : (m : Map nat_cmp V) (k : ℕ) (x : V) → get (put m k x) k ≡ Some x
  get_here m k x = get-put nat_cmp_total m k x k ∙ ap (λ b. cond b (Some x) (get m k)) (tied_itself k)

  pub get_other : (m : Map nat_cmp V) (k : ℕ) (x : V) (q : ℕ) → (q ≡ k → ⊥) → get (put m k x) q ≡ get m q
  get_other m k x q apart = get-put nat_cmp_total m k x q ∙ ap (λ b. cond b (Some x) (get m q)) (not_tied q k apart)

  pub get_removed : (m : Map nat_cmp V) (k q : ℕ) → (q ≡ k → ⊥) → get (remove m k) q ≡ get m q
  get_removed m k q apart = get-remove nat_cmp_total m k q ∙ ap (λ b. cond b None (get m q)) (not_tied q k apart)

  above : (x : ℕ) (es : List (ℕ × V)) → T (below_all nat_cmp x es) → (e : ℕ × V) → IsIn es e → x < e.0
  above x [] below e here = absurd here
  above x (f ∷ es) below e (inl is) = subst (λ (g : ℕ × V). x < g.0) is (lower x f.0 (both_of _ _ below).0)
  above x (f ∷ es) below e (inr later) = above x es (both_of _ _ below).1 e later

  found : (es : List (ℕ × V)) → T (is_sorted nat_cmp es) → (e : ℕ × V) → IsIn es e → fin.find nat_cmp e.0 es ≡ Some e.1
  found [] sorted e here = absurd here
  found (f ∷ es) sorted e (inl is) =
      ap (λ b. cond b (Some f.1) (fin.find nat_cmp e.0 es)) ((eq_by_cmp-Decides nat_cmp_total nat_cmp-IsAntisymmetric e.0 f.0).1 (ap (λ (g : ℕ × V). g.0) (sym is)))
      ∙ ap (λ (g : ℕ × V). Some g.1) is
  found (f ∷ es) sorted e (inr later) =
      let low : f.0 < e.0 = above f.0 es (both_of _ _ sorted).0 e later in
      ap (λ b. cond b (Some f.1) (fin.find nat_cmp e.0 es)) (not_tied e.0 f.0 (λ same. omega (arith, low, same))) ∙ found es (both_of _ _ sorted).1 e later

  -- an entry is what its key has
  pub get_entry : (m : Map nat_cmp V) (e : ℕ × V) → IsIn m.entries e → get m e.0 ≡ Some e.1
  get_entry m e here = found m.entries m.sorted e here
