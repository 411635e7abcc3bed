-- A value depends on the grid by the size alone.
use Rattle.std.proofs.Common.{◌≡◌, ℕ, ◌<◌, List, [], ◌∷◌, false, not, length, get_or, map, refl, ap, subst, ◌∙◌}
use Rattle.std.proofs.lemmas.List.Folds.{list_all-map, list_all_at}
use Rattle.grid_model.specs.Grid.{Grid}
use Rattle.grid_model.specs.Names.{Text}
use Rattle.grid_model.specs.RuleText.{Expr, literal, number, truth, parameter, session, negated, applied}
use Rattle.grid_model.specs.Values as values
use Rattle.grid_model.specs.Values.{value, value_at, session_values, size_now, by_operator, truth_value, number_value, is_true, text_of, computed, is_short}
use Rattle.grid_model.specs.Parsed.{plain, term_of}
use Rattle.grid_model.specs.declared.calls.Call.{Call}
use Rattle.grid_model.specs.declared.rules.Call0.{Call0}
use Rattle.grid_model.specs.declared.rules.Expr as parsed
use Rattle.rule_cond.specs.Scopes.{HasScopeSize, scope_seen, computed_on}
use Rattle.rule_cond.specs.Sizes.{nowhere, sized, value_in, arg_in, args_in, are_short, is_short_text}
use Rattle.rule_cond.specs.declared.scope.Scope.{Scope}

same_values : (env : values.Env) (g : Grid) (size : ℕ) → size_now env g ≡ size → session_values (sized env size) nowhere ≡ session_values env g
same_values env g size is = rw is refl

pub value-sized : (scope : values.Scope) (g : Grid) (size : ℕ) → size_now scope.env g ≡ size → (e : Expr) → value (record scope { env = sized scope.env size }) nowhere e ≡ value scope g e
value-sized scope g size is (literal t) = refl
value-sized scope g size is (number z) = refl
value-sized scope g size is (truth b) = refl
value-sized scope g size is (parameter n) = refl
value-sized scope g size is (session n) = ap (λ vs. value_at vs n) (same_values scope.env g size is)
value-sized scope g size is (negated e) = ap (λ v. truth_value (not (is_true v))) (value-sized scope g size is e)
value-sized scope g size is (applied op x y) =
    ap (λ v. by_operator op v (value (record scope { env = sized scope.env size }) nowhere y)) (value-sized scope g size is x)
    ∙ ap (λ v. by_operator op (value scope g x) v) (value-sized scope g size is y)

-- the value in a scope is that on each grid that has its size
pub value_in-is : (s : Scope) (g : Grid) → HasScopeSize s g → (e : Expr) → value_in s e ≡ value (scope_seen s) g e
value_in-is s g has e = value-sized (scope_seen s) g s.size has.size e

-- and so are the arguments of a call
pub args_in-are : (s : Scope) (g : Grid) → HasScopeSize s g → (es : List parsed.Expr) → args_in s es ≡ map (λ e. text_of (value (scope_seen s) g e)) (map plain (map term_of es))
args_in-are s g has [] = refl
args_in-are s g has (e ∷ es) =
    ap (λ v. text_of v ∷ args_in s es) (value_in-is s g has (plain (term_of e)))
    ∙ ap (λ ts. text_of (value (scope_seen s) g (plain (term_of e))) ∷ ts) (args_in-are s g has es)

-- one argument that is too long makes the call refused
pub long_one : (s : Scope) (es : List parsed.Expr) (i : ℕ) (e : parsed.Expr) → i < length es → e ≡ get_or es i e → is_short_text (arg_in s e) ≡ false → are_short (args_in s es) ≡ false
long_one s es i e lt is long =
    list_all-map is_short_text (arg_in s) es
    ∙ list_all_at (λ x. is_short_text (arg_in s x)) es i e lt (subst (λ x. is_short_text (arg_in s x) ≡ false) is long)

-- the call that is made of computed arguments
pub same_call : (s : Scope) (g : Grid) → HasScopeSize s g → (call : Call0) (name : Text) (args : List Text) → name ≡ call.name → args ≡ args_in s call.args → ◌≡◌ {A = Call} record { name = name; args = args } (computed_on s g call)
same_call s g has call name args name_is args_are =
    let all = args_are ∙ args_in-are s g has call.args in
    λ i. record { name = name_is i; args = all i }

-- where an argument is too long, the call is refused
pub long_call : (s : Scope) (g : Grid) → HasScopeSize s g → (call : Call0) → are_short (args_in s call.args) ≡ false → is_short (computed_on s g call) ≡ false
long_call s g has call long = subst (λ ts. are_short ts ≡ false) (args_in-are s g has call.args) long
