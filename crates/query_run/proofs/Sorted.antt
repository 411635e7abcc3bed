-- The rows in order, each once, are those of the query.
use Rattle.std.proofs.Common.{◌≡◌, Bool, true, List, [], ◌∷◌, inl, inr, refl, sym, ap, ◌∙◌, subst}
use Rattle.std.specs.List.{dedup, list_all}
use Rattle.std.specs.List.Sorted.{IsPermutation, IsSorted, IsStrictlySortedBy}
use Rattle.std.specs.Cmp.Lexicographic.{pointwise}
use Rattle.std.proofs.lemmas.Bool.{and_parts, and_from}
use Rattle.std.proofs.lemmas.List.Kept.{Contains-dedup, Contains-from_dedup, IsStrictlySortedBy-dedup}
use Rattle.std.proofs.lemmas.List.Sorted.{Contains-permutation, IsPermutation-sym}
use Rattle.std.specs.Cmp.{eq_by_cmp_equiv}
use Rattle.grid_model.specs.MapLists.{keys, set_of}
use Rattle.grid_model.specs.Names.{Text, path_cmp, same_path, same_text}
use Rattle.grid_model.proofs.Comparing.{path_cmp_total, path_cmp-IsAntisymmetric, pointwise-same_path, same_path-Decides}
use Rattle.tables_laws.proofs.Rows.{IsIn}
use Rattle.grid_tree.proofs.Alike.{in_of, contains_of}
use Rattle.query_run.specs.Unsorted.{HasMembers}
use Rattle.query_run.proofs.SetLists.{keys_of}

-- what is tested of each of these is tested of those with no other members
pub all_members : {X : Type 0} (p : X → Bool) (xs ys : List X) → ((x : X) → IsIn ys x → IsIn xs x) → list_all p xs ≡ true → list_all p ys ≡ true
all_members p xs [] from all = refl
all_members p xs (y ∷ ys) from all = and_from (p y) (list_all p ys) (each xs y (from y (inl refl)) all) (all_members p xs ys (λ x later. from x (inr later)) all)
  where
    each : (zs : List _) (z : _) → IsIn zs z → list_all p zs ≡ true → p z ≡ true
    each [] z here e = absurd here
    each (x ∷ zs) z (inl is) e = ap p (sym is) ∙ (and_parts (p x) (list_all p zs) e).0
    each (x ∷ zs) z (inr later) e = each zs z later (and_parts (p x) (list_all p zs) e).1

module _ (found sorted left : List (List Text)) (moved : IsPermutation found sorted) (rises : IsSorted path_cmp sorted) (left_is : left ≡ dedup (pointwise same_text) sorted) where
  same_rows : pointwise same_text ≡ same_path
  same_rows = λ i p q. pointwise-same_path p q i

  left_rows : left ≡ dedup same_path sorted
  left_rows = left_is ∙ ap (λ e. dedup e sorted) same_rows

  pub kept_rows : (row : List Text) → IsIn found row → IsIn left row
  kept_rows row here =
      subst (λ (rows : List (List Text)). IsIn rows row) (sym left_rows) (in_of (dedup same_path sorted) row
      (Contains-dedup (eq_by_cmp_equiv path_cmp_total) (λ p q e. (same_path-Decides p q).0 e) sorted row (Contains-permutation found sorted row moved (contains_of found row here))))

  pub left_there : (row : List Text) → IsIn left row → IsIn found row
  left_there row here =
      in_of found row (Contains-permutation sorted found row (IsPermutation-sym found sorted moved)
      (Contains-from_dedup same_path sorted row (contains_of (dedup same_path sorted) row (subst (λ (rows : List (List Text)). IsIn rows row) left_rows here))))

  strictly : IsStrictlySortedBy path_cmp left
  strictly = subst (IsStrictlySortedBy path_cmp) (sym left_rows) (IsStrictlySortedBy-dedup path_cmp_total (λ p q. refl) sorted rises)

  pub rows_are : (these : List (List Text)) → HasMembers found these → left ≡ keys (set_of {R = path_cmp} these)
  rows_are these members =
      keys_of path_cmp_total path_cmp-IsAntisymmetric left these strictly (λ row here. members.to row (left_there row here)) (λ row here. kept_rows row (members.from row here))
