-- Numbers in order, each once, are those that were there before.
use Rattle.std.proofs.Common.{◌≡◌, ◌==◌, ℕ, List, sym, subst, arith}
use Rattle.std.specs.List.{dedup}
use Rattle.std.specs.List.Sorted.{IsPermutation, IsSorted, IsStrictlySortedBy}
use Rattle.std.specs.Ordering.{nat_cmp, eq_by_cmp}
use Rattle.std.specs.Cmp.{nat_cmp_total}
use Rattle.std.proofs.lemmas.Bool.Decides.{nat_tests}
use Rattle.std.proofs.lemmas.List.Kept.{Contains-dedup_nat, Contains-from_dedup, IsStrictlySortedBy-dedup}
use Rattle.std.proofs.lemmas.List.Sorted.{Contains-permutation, IsPermutation-sym}
use Rattle.tables_laws.proofs.Rows.{IsIn}
use Rattle.grid_tree.proofs.Alike.{in_of, contains_of}
use Rattle.query_run.specs.Unsorted.{HasMembers}

tied_numbers : (m n : ℕ) → (m == n) ≡ eq_by_cmp nat_cmp m n
tied_numbers m n = grind (arith, nat_tests)

module _ (found sorted left : List ℕ) (moved : IsPermutation found sorted)
    (rises : IsSorted nat_cmp sorted) (left_is : left ≡ dedup (λ m n. m == n) sorted) where
  pub once_members : HasMembers left found
  once_members = record {
    to = λ x here.
        in_of found x (Contains-permutation sorted found x (IsPermutation-sym found sorted moved)
        (Contains-from_dedup (λ m n. m == n) sorted x (contains_of (dedup (λ m n. m == n) sorted) x (subst (λ (xs : List ℕ). IsIn xs x) left_is here))));
    from = λ x here.
        subst (λ (xs : List ℕ). IsIn xs x) (sym left_is)
        (in_of (dedup (λ m n. m == n) sorted) x (Contains-dedup_nat sorted x (Contains-permutation found sorted x moved (contains_of found x here))));
  }

  pub once_rises : IsStrictlySortedBy nat_cmp left
  once_rises = subst (IsStrictlySortedBy nat_cmp) (sym left_is) (IsStrictlySortedBy-dedup nat_cmp_total tied_numbers sorted rises)
