-- The rows of children that are put at new places, as the changes have them, and the place behind them.
use Rattle.std.proofs.Common.{◌≡◌, ◌==◌, inl, inr, ℕ, suc, ◌+◌, ◌-◌, ◌<◌, ◌≤◌, Bool, true, false, List, [], ◌∷◌, ◌++◌, length, Option, Some, None, Result, Ok, Err, refl, sym, ap, ◌∙◌, subst, arith}
use Rattle.std.specs.Prelude.{slice_get}
use Rattle.std.proofs.lemmas.Option.{same_Some}
use Rattle.grid_model.specs.Names.{is_name}
use Rattle.grid_model.specs.Rows.{Cat, resource, has_resource}
use Rattle.grid_model.specs.Applying.{IsMade, apply, apply_all}
use Rattle.grid_model.specs.declared.deltas.Delta.{Delta}
use Rattle.grid_model.specs.declared.deltas.ResourceRow.{ResourceRow}
use Rattle.grid_tree.proofs.Named.{sound_of}
use Rattle.grid_tree.specs.declared.siblings.Child.{Child}
use Rattle.tables_laws.proofs.Places.{row_there}
use Rattle.tables_laws.proofs.Rows.{IsIn, in_from_find}
use Rattle.plan_tree.specs.NewChildren.{IsMovedRow, place_after, place_behind}
use Rattle.plan_tree.proofs.FittingResources.{its_name}
use Rattle.plan_tree.proofs.NumberedChildren.{Rises}
use Rattle.plan_tree.proofs.RootedResources.{rooted-made}

pub is_there : (c : Cat) (id : ℕ) → has_resource c id ≡ true → None ≡ resource c id → ⊥
is_there c id there none = let row = row_there (λ (r : ResourceRow). r.id) c.resources id there in let wrong : None ≡ Some row.0 = none ∙ row.3 in cc

pub name_at : (c : Cat) → IsMade c → (id : ℕ) (r : ResourceRow) → Some r ≡ resource c id → is_name r.name ≡ true
name_at c made id r found = its_name c (sound_of c made) (rooted-made c made) r (in_from_find (λ (x : ResourceRow). x.id == id) c.resources r (sym found)).0

pub moved : (c : Cat) (id place : ℕ) (old r : ResourceRow) → Some old ≡ resource c id → r ≡ record old { parent = old.parent; place = place } → IsMovedRow c id place r
moved c id place old r found is = record { old = old; found = sym found; row_is = is }

-- ---- the place behind children whose places rise

behind_one : (k : Child) (q : ℕ) → place_after (Some k) ≡ Some q → k.place < q
behind_one k q e = by (k.place == 4294967295) e
  where
    by : (b : Bool) → elim b as (λ _. Option ℕ) [ true ↦ None | false ↦ Some (k.place + 1) ] ≡ Some q → k.place < q
    by true none = absurd cc
    by false is = let same : k.place + 1 ≡ q = same_Some (k.place + 1) q is in omega (arith, same)

behind_more : (k j : Child) (kids : List Child) → place_behind (k ∷ j ∷ kids) ≡ place_behind (j ∷ kids)
behind_more k j kids =
    let more : suc (suc (length kids)) - 1 ≡ suc (length kids) = omega arith in
    let one : suc (length kids) - 1 ≡ length kids = omega arith in
    ap (λ n. place_after (slice_get (k ∷ j ∷ kids) n)) more ∙ sym (ap (λ n. place_after (slice_get (j ∷ kids) n)) one)

pub behind_all : (n : ℕ) (kids : List Child) → Rises n kids → (q : ℕ) → place_behind kids ≡ Some q → (k : Child) → IsIn kids k → k.place < q
behind_all n [] rises q e k here = absurd here
behind_all n (j ∷ []) rises q e k (inl is) = subst (λ (x : Child). x.place < q) is (behind_one j q e)
behind_all n (j ∷ []) rises q e k (inr later) = absurd later
behind_all n (j ∷ i ∷ kids) rises q e k (inr later) = behind_all (j.place + 1) (i ∷ kids) rises.1 q (sym (behind_more j i kids) ∙ e) k later
behind_all n (j ∷ i ∷ kids) rises q e k (inl is) =
    let next : i.place < q = behind_all (j.place + 1) (i ∷ kids) rises.1 q (sym (behind_more j i kids) ∙ e) i (inl refl) in
    let less : j.place + 1 ≤ i.place = rises.1.0 in
    subst (λ (x : Child). x.place < q) is (omega (arith, next, less))

-- ---- changes one after another

then_all : List Delta → Result Cat ℕ → Result Cat ℕ
then_all deltas r = elim r [ Ok next ↦ apply_all next deltas | Err cause ↦ Err cause ]

ok_is : (a b : Cat) → (let r : Result Cat ℕ = Ok a in r ≡ Ok b) → a ≡ b
ok_is a b e = cc

pub applied_then : (first more : List Delta) (c d : Cat) → apply_all c first ≡ Ok d → apply_all c (first ++ more) ≡ apply_all d more
unfolding then_all
applied_then [] more c d e = ap (λ (x : Cat). apply_all x more) (ok_is c d e)
applied_then (x ∷ first) more c d e = by (λ mid. applied_then first more mid d) (apply c x) e
  where
    by : ((mid : Cat) → apply_all mid first ≡ Ok d → apply_all mid (first ++ more) ≡ apply_all d more) → (r : Result Cat ℕ) → then_all first r ≡ Ok d → then_all (first ++ more) r ≡ apply_all d more
    by later (Ok mid) is = later mid is
    by later (Err cause) is = absurd cc
