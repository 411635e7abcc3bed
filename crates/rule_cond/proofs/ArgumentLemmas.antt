-- The look-up of an argument, one parameter on.
use Rattle.std.proofs.Common.{◌≡◌, ℕ, ◌+◌, ◌<◌, ◌≤◌, Bool, true, false, List, [], ◌∷◌, length, get_or, drop, refl, ap}
use Rattle.std.proofs.lemmas.List.{drop_more, drop_all}
use Rattle.grid_model.specs.Names.{Text, same_text}
use Rattle.grid_model.specs.Values.{argument}

no_args : (params : List Text) (name : Text) → argument params [] name ≡ []
no_args [] name = refl
no_args (p ∷ params) name = refl

-- there are no more parameters, or no more arguments
pub argument-past_params : (params args : List Text) (name : Text) (i : ℕ) → length params ≤ i → argument (drop i params) (drop i args) name ≡ []
argument-past_params params args name i h = rw (drop_all i params h) refl

pub argument-past_args : (params args : List Text) (name : Text) (i : ℕ) → length args ≤ i → argument (drop i params) (drop i args) name ≡ []
argument-past_args params args name i h = rw (drop_all i args h) (no_args (drop i params) name)

at_first : (p : Text) (params : List Text) (a : Text) (args : List Text) (name : Text) (b : Bool) → same_text p name ≡ b → argument (p ∷ params) (a ∷ args) name ≡ (elim b [ true ↦ a | false ↦ argument params args name ])
at_first p params a args name b e = ap (λ (t : Bool). elim t as (λ _. Text) [ true ↦ a | false ↦ argument params args name ]) e

pub argument-here : (params args : List Text) (name p a : Text) (i : ℕ) → i < length params → i < length args → p ≡ get_or params i p → a ≡ get_or args i a → same_text p name ≡ true → argument (drop i params) (drop i args) name ≡ a
argument-here params args name p a i in_params in_args p_is a_is same =
    rw (drop_more params i p in_params, drop_more args i a in_args, ← p_is, ← a_is) (at_first p _ a _ name true same)

pub argument-later : (params args : List Text) (name p : Text) (i : ℕ) → i < length params → i < length args → p ≡ get_or params i p → same_text p name ≡ false → argument (drop i params) (drop i args) name ≡ argument (drop (i + 1) params) (drop (i + 1) args) name
argument-later params args name p i in_params in_args p_is other =
    rw (drop_more params i p in_params, drop_more args i [] in_args, ← p_is) (at_first p _ _ _ name false other)
