-- A catalogue that changes made, once one more was made; and rows that are there since they are found.
use Rattle.std.proofs.Common.{◌≡◌, Bool, true, false, cond, List, [], ◌∷◌, ◌++◌, Option, Some, None, Result, Ok, Err, ℕ, refl, sym, ap, ◌∙◌, subst}
use Rattle.std.specs.Prelude.{find, option_map, is_some, ◌||◌, OnOk, OnErr}
use Rattle.std.specs.List.{list_any}
use Rattle.grid_model.specs.Rows.{Cat, empty_cat}
use Rattle.grid_model.specs.Applying.{IsMade, apply, apply_all}
use Rattle.grid_model.specs.declared.deltas.Delta.{Delta}

then_all : List Delta → Result Cat ℕ → Result Cat ℕ
then_all deltas r = elim r [ Ok next ↦ apply_all next deltas | Err cause ↦ Err cause ]

ok_same : (a b : Cat) → (let r : Result Cat ℕ = Ok a in r ≡ Ok b) → a ≡ b
ok_same a b e = cc

apply_all-then : (deltas : List Delta) (x : Delta) (c mid next : Cat) → apply_all c deltas ≡ Ok mid → apply mid x ≡ Ok next → apply_all c (deltas ++ x ∷ []) ≡ Ok next
unfolding then_all
apply_all-then [] x c mid next made e = ap (λ (b : Cat). then_all [] (apply b x)) (ok_same c mid made) ∙ ap (then_all []) e
apply_all-then (d ∷ deltas) x c mid next made e = by (λ after. apply_all-then deltas x after mid next) (apply c d) made
  where
    by : ((after : Cat) → apply_all after deltas ≡ Ok mid → apply mid x ≡ Ok next → apply_all after (deltas ++ x ∷ []) ≡ Ok next)
        → (r : Result Cat ℕ) → then_all deltas r ≡ Ok mid → then_all (deltas ++ x ∷ []) r ≡ Ok next
    by later (Ok after) is = later after is e
    by later (Err cause) is = absurd cc

made-then : (c d : Cat) (x : Delta) → IsMade c → apply c x ≡ Ok d → IsMade d
made-then c d x made e = (made.0 ++ x ∷ [], apply_all-then made.0 x empty_cat c d made.1 e)

-- a change that is refused leaves it
pub made-after : {T E : Type 0} (r : Result T E) (c d : Cat) (x : Delta) → IsMade c → OnOk r (apply c x ≡ Ok d) → OnErr r (d ≡ c) → IsMade d
made-after (Ok t) c d x made applied unchanged = made-then c d x made applied
made-after (Err e) c d x made applied unchanged = subst IsMade (sym unchanged) made

-- what is found is there
any-found : {X : Type 0} (p : X → Bool) (rows : List X) → is_some (find p rows) ≡ list_any p rows
any-found p [] = refl
any-found p (x ∷ rows) = elim (p x) as (λ b. is_some (cond b (Some x) (find p rows)) ≡ (b || list_any p rows)) [ true ↦ refl | false ↦ any-found p rows ]

pub there-found : {X Y : Type 0} (p : X → Bool) (rows : List X) (f : Y → X) (o : Option Y) (b : Bool) → option_map f o ≡ find p rows → b ≡ is_some o → b ≡ true → list_any p rows ≡ true
there-found p rows f None b is some e = absurd cc
there-found p rows f (Some y) b is some e = sym (any-found p rows) ∙ ap is_some (sym is)
