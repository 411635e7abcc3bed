-- What maps and sets answer, and when two are equal.
use Rattle.std.proofs.Common.{◌≡◌, Bool, true, false, cond, List, Option, Some, None, refl, sym, ◌∙◌, ap}
use Rattle.std.specs.Prelude.{T, not}
use mathlib.Core.HLevel.{Σ_prop_path}
use lib.Dec.{T_prop}
use Rattle.std.specs.declared.cmp.Ordering.{Ordering}
use Rattle.std.specs.Ordering.{eq_by_cmp, is_eq}
use Rattle.std.specs.Cmp.{IsTotalOrder, alike_right, eq_by_cmp_equiv}
use Rattle.std.specs.FinMap.{find, put as put_entry, is_sorted, IsAntisymmetric}
use Rattle.std.specs.FinMap as fin
use Rattle.grid_model.specs.Maps.{Map, get, put, remove, if_sorted}

module _ {K X : Type 0} {R : K → K → Ordering} where
  -- entries that are in order are kept
  entries_kept : (es : List (K × X)) (b : Bool) (e : is_sorted R es ≡ b) (m : Map R X) → T b → (if_sorted es b e m).entries ≡ es
  entries_kept es true e m h = refl
  entries_kept es false e m h = absurd h

  pub same_entries_map : (m n : Map R X) → m.entries ≡ n.entries → m ≡ n
  same_entries_map m n e =
      let pairs : ◌≡◌ {A = (es : List (K × X)) × T (is_sorted R es)} (m.entries, m.sorted) (n.entries, n.sorted) = Σ_prop_path (λ es. T_prop _) e in
      λ i. record { entries = (pairs i).0; sorted = (pairs i).1 }

module _ {K X : Type 0} {R : K → K → Ordering} (o : IsTotalOrder R) where
  pub entries-put : (m : Map R X) (k : K) (x : X) → (put m k x).entries ≡ put_entry R k x m.entries
  entries-put m k x = entries_kept (put_entry R k x m.entries) _ refl m (fin.Entries.is_sorted-put R o k x m.entries m.sorted)

  pub get-put : (m : Map R X) (k : K) (x : X) (q : K) → get (put m k x) q ≡ cond (eq_by_cmp R q k) (Some x) (get m q)
  get-put m k x q = ap (find R q) (entries-put m k x) ∙ fin.Entries.find-put R o q k x m.entries

  pub get-remove : (m : Map R X) (k q : K) → get (remove m k) q ≡ cond (eq_by_cmp R q k) None (get m q)
  get-remove m k q =
      fin.Entries.find-where_key R (λ x. not (eq_by_cmp R k x)) q (λ x tied. ap (λ r. not (is_eq r)) (sym (alike_right o q x k tied))) m.entries
      ∙ turned (eq_by_cmp R k q) ∙ ap (λ (b : Bool). cond b None (get m q)) ((eq_by_cmp_equiv o).symm k q)
    where
      turned : (b : Bool) → cond (not b) (get m q) None ≡ cond b None (get m q)
      turned true = refl
      turned false = refl

  -- two maps that answer alike are equal
  pub same_map : IsAntisymmetric R → (m n : Map R X) → ((q : K) → get m q ≡ get n q) → m ≡ n
  same_map same m n alike = same_entries_map m n (fin.Entries.same_entries R o same m.entries n.entries m.sorted n.sorted alike)

  -- what is put last at a key counts
  pub put-again : IsAntisymmetric R → (m : Map R X) (k : K) (x y : X) → put (put m k x) k y ≡ put m k y
  put-again same m k x y = same_map same (put (put m k x) k y) (put m k y) (λ q.
      get-put (put m k x) k y q ∙ ap (λ (v : Option X). cond (eq_by_cmp R q k) (Some y) v) (get-put m k x q) ∙ hidden (eq_by_cmp R q k) (get m q) ∙ sym (get-put m k y q))
    where
      hidden : (b : Bool) (v : Option X) → cond b (Some y) (cond b (Some x) v) ≡ cond b (Some y) v
      hidden true v = refl
      hidden false v = refl
