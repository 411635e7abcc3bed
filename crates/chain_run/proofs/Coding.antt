-- The argument of a `fail` has a value that counts.
use Rattle.std.proofs.Common.{◌≡◌, ◌<◌, ◌^◌, Bool, true, false, List, [], ◌∷◌, Option, Some, None, map, refl, sym, ap, ◌∙◌, subst}
use Rattle.std.specs.Prelude.{codes}
use Rattle.grid_model.specs.Names.{Text, same_text}
use Rattle.grid_model.specs.Grid.{Grid}
use Rattle.grid_model.specs.Parsed.{Shape, Term, CallAt, literal, number, truth, parameter, session, negated, applied, plain, plain_shape, plain_call}
use Rattle.grid_model.specs.Checks.{Sort, a_text, a_number, is_number_sort, sort_of, result_sort}
use Rattle.grid_model.specs.Values.{Scope, value, value_at, session_values, size_now, computed}
use Rattle.grid_model.specs.Services.{Service, service}
use Rattle.grid_model.specs.Chains.{Doing, cutting, succeeding, failing, serves, doing}
use Rattle.grid_model.specs.declared.calls.Call.{Call}
use Rattle.grid_model.specs.declared.rules.Operator.{Operator}
use Rattle.grid_model.specs.declared.rules.Operator.TheVariants.{Or, And, Equal, NotEqual, Less, Greater, AtMost, AtLeast, Like, Join}
use Rattle.grid_model.proofs.Comparing.{same_text-Decides}
use Rattle.chain_core.specs.Answers.{IsCoded}
use Rattle.chain_run.specs.Steps.{FitsFail, IsNumberOrNone, FitsInt64, FitsInt64Alone}

-- ---- which calls fail

serves_other : (x : Option Service) → serves x ≡ failing → ⊥
serves_other None e = absurd (cc)
serves_other (Some x) e = absurd (cc)

fails_by : (a b f : Bool) (x : Option Service)
    → elim a as (λ _. Doing) [ true ↦ cutting | false ↦ elim b as (λ _. Doing) [ true ↦ succeeding | false ↦ elim f as (λ _. Doing) [ true ↦ failing | false ↦ serves x ] ] ] ≡ failing
    → f ≡ true
fails_by true b f x e = absurd (cc)
fails_by false true f x e = absurd (cc)
fails_by false false true x e = refl
fails_by false false false x e = absurd (serves_other x e)

fail_named : (c : Call) → doing c ≡ failing → same_text c.name (codes "fail") ≡ true
fail_named c e = fails_by (same_text c.name (codes "cut")) (same_text c.name (codes "succeed")) (same_text c.name (codes "fail")) (service c) e

-- ---- what a number is

no_number : (op : Operator) → is_number_sort (result_sort op) ≡ true → ⊥
no_number Or e = absurd (cc)
no_number And e = absurd (cc)
no_number Equal e = absurd (cc)
no_number NotEqual e = absurd (cc)
no_number Less e = absurd (cc)
no_number Greater e = absurd (cc)
no_number AtMost e = absurd (cc)
no_number AtLeast e = absurd (cc)
no_number Like e = absurd (cc)
no_number Join e = absurd (cc)

module _ (scope : Scope) (g : Grid) (fits : size_now scope.env g < 2 ^ 64) where
  size_coded : (n : Text) (b : Bool) → same_text n (codes "dataSize") ≡ b → is_number_sort (sort_of (session 0 n)) ≡ true → IsCoded (value_at (session_values scope.env g) n ∷ [])
  size_coded n true is h = subst (λ t. IsCoded (value_at (session_values scope.env g) t ∷ [])) (sym ((same_text-Decides n (codes "dataSize")).0 is)) fits
  size_coded n false is h =
      let e : ◌≡◌ {A = Bool} false true = sym (ap (λ b. is_number_sort (elim b as (λ _. Sort) [ true ↦ a_number | false ↦ a_text ])) is) ∙ h in absurd (cc)

  shape_coded : (s : Shape) → is_number_sort (sort_of s) ≡ true → FitsInt64 s → IsCoded (value scope g (plain_shape s) ∷ [])
  shape_coded (literal t) h written = absurd (cc)
  shape_coded (number z) h written = written
  shape_coded (truth b) h written = absurd (cc)
  shape_coded (parameter own n) h written = absurd (cc)
  shape_coded (session own n) h written = size_coded n (same_text n (codes "dataSize")) refl h
  shape_coded (negated p e) h written = absurd (cc)
  shape_coded (applied op p x q y) h written = absurd (no_number op h)

  args_coded : (args : List Term) → IsNumberOrNone args → FitsInt64Alone args → IsCoded (map (value scope g) (map plain args))
  args_coded [] h written = tt
  args_coded (e ∷ []) h written = shape_coded e.shape h written
  args_coded (e ∷ f ∷ rest) h written = absurd h

  pub is_coded : (c : CallAt) → FitsFail c → FitsInt64Alone c.args → doing (computed scope g (plain_call c)) ≡ failing → IsCoded (map (value scope g) (plain_call c).args)
  is_coded c fail written e = args_coded c.args (fail.fits (fail_named (computed scope g (plain_call c)) e)) written
