-- The orders of texts and paths are total, and only equal ones tie.
use Rattle.std.proofs.Common.{◌≡◌, true, false, refl, sym, ap, ◌∙◌}
use Rattle.std.specs.Bool.{Decides}
use Rattle.std.specs.declared.cmp.Ordering.{Ordering}
use Rattle.std.specs.Cmp.{IsTotalOrder, Equal-is, tied_itself}
use Rattle.std.specs.Cmp.Lexicographic.{lists_total, nat_list_cmp_total, pointwise, lists_ties}
use Rattle.std.specs.FinMap.{IsAntisymmetric, nat_cmp-IsAntisymmetric, slice_cmp-IsAntisymmetric}
use Rattle.std.specs.Ordering.{is_eq, eq_by_cmp}
use Rattle.std.proofs.lemmas.Bool.{false_from_ne_true}
use Rattle.grid_model.specs.Names.{Text, Path, text_cmp, path_cmp, same_text, same_path}

pub text_cmp_total : IsTotalOrder text_cmp
text_cmp_total = nat_list_cmp_total

pub path_cmp_total : IsTotalOrder path_cmp
path_cmp_total = lists_total text_cmp_total

pub text_cmp-IsAntisymmetric : IsAntisymmetric text_cmp
text_cmp-IsAntisymmetric = slice_cmp-IsAntisymmetric nat_cmp-IsAntisymmetric

pub path_cmp-IsAntisymmetric : IsAntisymmetric path_cmp
path_cmp-IsAntisymmetric = slice_cmp-IsAntisymmetric text_cmp-IsAntisymmetric

-- the test of an order in which only equal values tie
pub eq_by_cmp-Decides : {K : Type 0} {R : K → K → Ordering} → IsTotalOrder R → IsAntisymmetric R → (x y : K) → Decides (eq_by_cmp R x y) (x ≡ y)
eq_by_cmp-Decides {R = R} o same x y =
    (λ e. same x y ((Equal-is (R x y)).0 e), λ e. ap (λ z. eq_by_cmp R x z) (sym e) ∙ ap is_eq (tied_itself o x))

pub same_text-Decides : (a b : Text) → Decides (same_text a b) (a ≡ b)
same_text-Decides = eq_by_cmp-Decides text_cmp_total text_cmp-IsAntisymmetric

pub same_path-Decides : (p q : Path) → Decides (same_path p q) (p ≡ q)
same_path-Decides = eq_by_cmp-Decides path_cmp_total path_cmp-IsAntisymmetric

pub same_path-self : (p : Path) → same_path p p ≡ true
same_path-self p = (same_path-Decides p p).1 refl

-- texts that differ do not pass
pub other_text : (a b : Text) → (a ≡ b → ⊥) → same_text a b ≡ false
other_text a b apart = false_from_ne_true (same_text a b) (λ e. apart ((same_text-Decides a b).0 e))

pub other_path : (p q : Path) → (p ≡ q → ⊥) → same_path p q ≡ false
other_path p q apart = false_from_ne_true (same_path p q) (λ e. apart ((same_path-Decides p q).0 e))

-- name by name
pub pointwise-same_path : (p q : Path) → pointwise same_text p q ≡ same_path p q
pointwise-same_path = lists_ties text_cmp (λ x y. refl)
