-- What a map of two lists one behind the other answers, and one of the entries of a map that pass a test.
use Rattle.std.proofs.Common.{◌≡◌, Bool, true, false, cond, List, [], ◌∷◌, ◌++◌, Option, Some, None, refl, sym, ap, ◌∙◌}
use Rattle.std.specs.Prelude.{map, filter, option_map}
use Rattle.std.specs.declared.cmp.Ordering.{Ordering}
use Rattle.std.specs.Ordering.{eq_by_cmp}
use Rattle.std.specs.Cmp.{IsTotalOrder}
use Rattle.std.specs.FinMap.{IsAntisymmetric}
use Rattle.std.specs.FinMap.Entries.{find}
use Rattle.grid_model.specs.Maps.{get, from_list}
use Rattle.grid_model.proofs.Comparing.{eq_by_cmp-Decides}
use Rattle.grid_model.proofs.MapLemmas.{get-put}
use Rattle.plan_base.proofs.PutAccess.{or_else}

module _ {K V : Type 0} {R : K → K → Ordering} (o : IsTotalOrder R) where
  pub get-append : (xs ys : List (K × V)) (q : K) → get (from_list {R = R} (xs ++ ys)) q ≡ or_else (get (from_list {R = R} xs) q) (get (from_list {R = R} ys) q)
  get-append [] ys q = refl
  get-append (x ∷ xs) ys q =
      get-put o (from_list (xs ++ ys)) x.0 x.1 q
      ∙ ap (λ (v : Option V). cond (eq_by_cmp R q x.0) (Some x.1) v) (get-append xs ys q)
      ∙ split (eq_by_cmp R q x.0) (get (from_list {R = R} xs) q) (get (from_list {R = R} ys) q)
      ∙ ap (λ (v : Option V). or_else v (get (from_list {R = R} ys) q)) (sym (get-put o (from_list xs) x.0 x.1 q))
    where
      split : (b : Bool) (v w : Option V) → cond b (Some x.1) (or_else v w) ≡ or_else (cond b (Some x.1) v) w
      split true v w = refl
      split false v w = refl

module _ {K V W : Type 0} {R : K → K → Ordering} (o : IsTotalOrder R) (same : IsAntisymmetric R) (f : K × W → V) (s : K → Bool) where
  abbrev made_of : List (K × W) → List (K × V)
  made_of es = map (λ e. (e.0, f e)) es

  pub get-kept : (es : List (K × W)) (q : K) → get (from_list {R = R} (map (λ e. (e.0, f e)) (filter (λ e. s e.0) es))) q ≡ cond (s q) (option_map (λ v. f (q, v)) (find R q es)) None
  get-kept [] q = elim (s q) as (λ b. ◌≡◌ {A = Option V} None (cond b None None)) [ true ↦ refl | false ↦ refl ]
  get-kept (e ∷ es) q = by (get-kept es q) (s e.0) refl (eq_by_cmp R q e.0) refl
    where
      by : get (from_list {R = R} (made_of (filter (λ x. s x.0) es))) q ≡ cond (s q) (option_map (λ v. f (q, v)) (find R q es)) None → (t : Bool) → s e.0 ≡ t → (b : Bool) → eq_by_cmp R q e.0 ≡ b
          → get (from_list {R = R} (made_of (cond t (e ∷ filter (λ x. s x.0) es) (filter (λ x. s x.0) es)))) q ≡ cond (s q) (option_map (λ v. f (q, v)) (cond b (Some e.1) (find R q es))) None
      by more true kept b is =
          get-put o (from_list (made_of (filter (λ x. s x.0) es))) e.0 (f e) q
          ∙ ap (λ t. cond t (Some (f e)) (get (from_list {R = R} (made_of (filter (λ x. s x.0) es))) q)) is ∙ here b is
        where
          here : (t : Bool) → eq_by_cmp R q e.0 ≡ t → cond t (Some (f e)) (get (from_list {R = R} (made_of (filter (λ x. s x.0) es))) q) ≡ cond (s q) (option_map (λ v. f (q, v)) (cond t (Some e.1) (find R q es))) None
          here false other = more
          here true tied =
              let at : q ≡ e.0 = (eq_by_cmp-Decides o same q e.0).0 tied in
              sym (λ i. cond ((ap s at ∙ kept) i) (Some (f (at i, e.1))) None)
      by more false dropped false is = more
      by more false dropped true is =
          let at : q ≡ e.0 = (eq_by_cmp-Decides o same q e.0).0 is in
          let none : s q ≡ false = ap s at ∙ dropped in
          more ∙ ap (λ t. cond t (option_map (λ v. f (q, v)) (find R q es)) None) none ∙ sym (ap (λ t. cond t (Some (f (q, e.1))) None) none)
