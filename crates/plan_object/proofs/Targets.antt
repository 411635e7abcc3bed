-- Leaves with their slots, each once.
use Rattle.std.proofs.Common.{◌≡◌, ◌==◌, ℕ, ◌+◌, ◌<◌, Bool, true, false, List, [], ◌∷◌, ◌++◌, length, get_or, map, take, Some, None, refl, sym, ap, ◌∙◌, subst}
use Rattle.std.specs.Prelude.{◌||◌}
use Rattle.std.specs.List.{list_any}
use Rattle.std.proofs.lemmas.List.{take_more}
use Rattle.grid_model.specs.Rows.{Cat, resource}
use Rattle.grid_model.specs.Applying.{is_leaf}
use Rattle.grid_model.specs.Whole.{leaf_slot}
use Rattle.grid_model.specs.declared.deltas.ResourceRow.{ResourceRow}
use Rattle.tables_laws.proofs.Resources.{leaf_there as has_leaf}
use Rattle.tables_laws.proofs.Places.{row_there}
use Rattle.grid_tree.proofs.StepLemmas.{all_push}
use Rattle.plan_object.specs.PutPlans.{AreTargets, with_leaf, with_leaves}
use Rattle.plan_object.specs.declared.placing.Target.{Target}

pub leaf_there : (c : Cat) (id : ℕ) → is_leaf c id ≡ true → None ≡ resource c id → ⊥
leaf_there c id leaf none = let r = row_there (λ (x : ResourceRow). x.id) c.resources id (has_leaf c id leaf) in let found : resource c id ≡ Some r.0 = r.3 in cc

-- what was kept of the first of these, and then of the next one
pub kept_more : (kept ids : List ℕ) (i id : ℕ) → i < length ids → id ≡ get_or ids i 0 → with_leaves kept (take (i + 1) ids) ≡ with_leaf (with_leaves kept (take i ids)) id
kept_more kept ids i id within at = ap (with_leaves kept) (take_more ids i 0 within ∙ ap (λ x. take i ids ++ x ∷ []) (sym at)) ∙ pushed kept (take i ids)
  where
    pushed : (kept xs : List ℕ) → with_leaves kept (xs ++ id ∷ []) ≡ with_leaf (with_leaves kept xs) id
    pushed kept [] = refl
    pushed kept (x ∷ xs) = pushed (with_leaf kept x) xs

any_leaf : (ts : List Target) (id : ℕ) → list_any (λ (t : Target). t.leaf == id) ts ≡ list_any (λ k. k == id) (map (λ (t : Target). t.leaf) ts)
any_leaf [] id = refl
any_leaf (t ∷ ts) id = ap (λ b. (t.leaf == id) || b) (any_leaf ts id)

map-push : (ts : List Target) (t : Target) → map (λ (x : Target). x.leaf) (ts ++ t ∷ []) ≡ map (λ (x : Target). x.leaf) ts ++ t.leaf ∷ []
map-push [] t = refl
map-push (x ∷ ts) t = ap (λ ls. x.leaf ∷ ls) (map-push ts t)

module _ (c : Cat) (leaves : List ℕ) (i id : ℕ) (within : i < length leaves) (at : id ≡ get_or leaves i 0) (ts : List Target) (are : AreTargets c (take i leaves) ts) where
  abbrev by : Bool → List ℕ
  by b = elim b [ true ↦ with_leaves [] (take i leaves) | false ↦ with_leaves [] (take i leaves) ++ id ∷ [] ]

  next : (b : Bool) → list_any (λ (t : Target). t.leaf == id) ts ≡ b → with_leaves [] (take (i + 1) leaves) ≡ by b
  next b is = kept_more [] leaves i id within at ∙ ap by (ap (list_any (λ k. k == id)) (sym are.leaves_are) ∙ sym (any_leaf ts id) ∙ is)

  pub target_there : (new : List Target) → new ≡ ts → list_any (λ (t : Target). t.leaf == id) ts ≡ true → AreTargets c (take (i + 1) leaves) new
  target_there new e is = let P : List Target → Type 0 = λ us. AreTargets c (take (i + 1) leaves) us in subst P (sym e) (record { leaves_are = are.leaves_are ∙ sym (next true is); slots = are.slots })

  pub target_new : (new : List Target) (t : Target) → new ≡ ts ++ t ∷ [] → t.leaf ≡ id → leaf_slot c id ≡ Some t.slot → list_any (λ (t : Target). t.leaf == id) ts ≡ false → AreTargets c (take (i + 1) leaves) new
  target_new new t e leaf slot is =
      let P : List Target → Type 0 = λ us. AreTargets c (take (i + 1) leaves) us in
      subst P (sym e) (record {
        leaves_are = map-push ts t ∙ (λ j. are.leaves_are j ++ leaf j ∷ []) ∙ sym (next false is);
        slots = all_push (λ (u : Target). leaf_slot c u.leaf ≡ Some u.slot) ts t are.slots (ap (leaf_slot c) leaf ∙ slot);
      })
