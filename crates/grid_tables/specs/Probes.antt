-- The laws of the keys by which rows are looked for.
use Rattle.std.specs.Prelude.{◌≡◌, ◌==◌, ◌&&◌, ℕ, Bool, true, false, IsTrue}
use Rattle.std.proofs.Common.{refl, ap, ◌∙◌, arith}
use Rattle.std.proofs.lemmas.Bool.Decides.{nat_tests}
use Rattle.std.specs.declared.cmp.Ordering.{Ordering}
use Rattle.std.specs.declared.cmp.Ordering.TheVariants.{Less, Equal, Greater}
use Rattle.std.specs.Ordering.{is_eq, is_le, eq_by_cmp, nat_cmp, ordering_then, ordering_reverse}
use Rattle.std.specs.Cmp.{IsTotalOrder, nat_cmp_total, on_total, then_total}
use Rattle.std.specs.BTreeMap.Comparable.{le_lt_trans}

-- two keys tie, whichever comes first
pub tied : {K : Type 0} {R : K → K → Ordering} → IsTotalOrder R → (q r : K) → eq_by_cmp R r q ≡ is_eq (R q r)
tied {R = R} o q r = ap is_eq (o.antisymm r q) ∙ turned (R q r)
  where
    turned : (a : Ordering) → is_eq (ordering_reverse a) ≡ is_eq a
    turned Less = refl
    turned Equal = refl
    turned Greater = refl

pub same_number : (q n : ℕ) → (n == q) ≡ is_eq (nat_cmp q n)
same_number q n = grind (arith, nat_tests)

pub is_eq_then : (a b : Ordering) → is_eq (ordering_then a b) ≡ (is_eq a && is_eq b)
is_eq_then Less b = refl
is_eq_then Equal b = refl
is_eq_then Greater b = refl

pub same_pair : (q k n m : ℕ) → ((n == q) && (m == k)) ≡ is_eq (ordering_then (nat_cmp q n) (nat_cmp k m))
same_pair q k n m = rw (same_number q n, same_number k m, is_eq_then (nat_cmp q n) (nat_cmp k m)) refl

pub same_entry : (q i k n j m : ℕ) → (((n == q) && (j == i)) && (m == k)) ≡ is_eq (ordering_then (nat_cmp q n) (ordering_then (nat_cmp i j) (nat_cmp k m)))
same_entry q i k n j m =
    rw (
      same_number q n,
      same_number i j,
      same_number k m,
      is_eq_then (nat_cmp q n) (ordering_then (nat_cmp i j) (nat_cmp k m)),
      is_eq_then (nat_cmp i j)
          (nat_cmp k m),
    )
    (grouped (is_eq (nat_cmp q n)) (is_eq (nat_cmp i j)) (is_eq (nat_cmp k m)))
  where
    grouped : (a b c : Bool) → ((a && b) && c) ≡ (a && (b && c))
    grouped true b c = refl
    grouped false b c = refl

pub below_number : (q a b : ℕ) → nat_cmp a b ≡ Less → IsTrue (is_le (nat_cmp q a)) → nat_cmp q b ≡ Less
below_number q a b less le = le_lt_trans nat_cmp_total q a b le less

pub below_pair : (q k a m b n : ℕ) → IsTrue (is_le (ordering_then (nat_cmp q a) (nat_cmp k m))) → ordering_then (nat_cmp a b) (nat_cmp m n) ≡ Less
    → ordering_then (nat_cmp q b) (nat_cmp k n) ≡ Less
below_pair q k a m b n le less =
    le_lt_trans (then_total (on_total (λ (p : ℕ × ℕ). p.0) nat_cmp_total) (on_total (λ (p : ℕ × ℕ). p.1) nat_cmp_total)) (q, k) (a, m) (b, n) le less

pub below_entry : (q i k a j m b l n : ℕ) → IsTrue (is_le (ordering_then (nat_cmp q a) (ordering_then (nat_cmp i j) (nat_cmp k m))))
    → ordering_then (nat_cmp a b) (ordering_then (nat_cmp j l) (nat_cmp m n)) ≡ Less
    → ordering_then (nat_cmp q b) (ordering_then (nat_cmp i l) (nat_cmp k n)) ≡ Less
below_entry q i k a j m b l n le less =
    le_lt_trans
    (then_total (on_total (λ (p : ℕ × ℕ × ℕ). p.0) nat_cmp_total)
    (then_total (on_total (λ (p : ℕ × ℕ × ℕ). p.1) nat_cmp_total) (on_total (λ (p : ℕ × ℕ × ℕ). p.2) nat_cmp_total)))
    (q, i, k) (a, j, m) (b, l, n) le less
