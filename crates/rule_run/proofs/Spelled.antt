-- What may be kept, one item after another.
use Rattle.std.proofs.Common.{◌≡◌, ℕ, ◌+◌, ◌^◌, ◌<◌, Bool, true, List, [], ◌∷◌, Some, IsTrue, length, slice_get, take, refl, sym, ◌∙◌, subst, lt-ltb}
use Rattle.std.specs.Prelude.{nat_lt}
use Rattle.std.specs.List.{list_all}
use Rattle.std.proofs.lemmas.Bool.{and_from}
use Rattle.std.proofs.lemmas.List.Folds.{list_all-append}
use Rattle.grid_model.specs.Deltas.{all_fit, call as call_parts, each, text as text_part}
use Rattle.grid_model.specs.Names.{Text}
use Rattle.grid_model.specs.declared.calls.Call.{Call}
use Rattle.service_run.proofs.SeenFiles.{take_next}

-- one item more
pub one_more : {X : Type 0} (f : X → Bool) (xs : List X) (i : ℕ) (x : X) → slice_get xs i ≡ Some x → IsTrue (list_all f (take i xs)) → IsTrue (f x)
    → IsTrue (list_all f (take (i + 1) xs))
one_more {X} f xs i x at before this =
    let T : List X → Type 0 = λ ys. list_all f ys ≡ true in
    subst T (sym (take_next xs i x at))
    (list_all-append f (take i xs) (x ∷ []) ∙ and_from (list_all f (take i xs)) (list_all f (x ∷ [])) before (and_from (f x) true this refl))

pub text_fits : (b : Bool) (t : Text) → b ≡ (text_part t).fits → b ≡ true → IsTrue (all_fit (text_part t ∷ []))
text_fits b t is holds = and_from (text_part t).fits true (sym is ∙ holds) refl

-- a call by its texts
pub call_fits : (c : Call) (b : Bool) → b ≡ (text_part c.name).fits → b ≡ true → length c.args < 2 ^ 64
    → IsTrue (list_all (λ t. all_fit (text_part t ∷ [])) c.args) → IsTrue (all_fit (call_parts c))
call_fits c b is holds short all =
    and_from (text_part c.name).fits _ (sym is ∙ holds)
    (and_from (each (λ t. text_part t ∷ []) c.args).fits true (and_from (nat_lt (length c.args) (2 ^ 64)) _ (lt-ltb (length c.args) (2 ^ 64) short) all) refl)
