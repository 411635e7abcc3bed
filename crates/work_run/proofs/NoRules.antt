-- Where none of the names of a point has a rule, the point has none.
use Rattle.std.proofs.Common.{◌≡◌, List, Option, Some, None, refl, ◌∙◌}
use Rattle.std.specs.Prelude.{codes}
use Rattle.grid_model.specs.Names.{Text}
use Rattle.grid_model.specs.RuleText.{Rule}
use Rattle.grid_model.specs.Sessions.{State}
use Rattle.grid_model.specs.declared.requests.Verb.{Verb}
use Rattle.chain_core.specs.Moves.{next_named}
use Rattle.point_laws.specs.Works.{Work, point_at}
use Rattle.work_run.specs.Names.{point_name, rules_name}
use Rattle.work_run.specs.Verbs.{WorksAs}
use Rattle.work_run.proofs.Begun.{HasNone}
use Rattle.work_run.proofs.NamedPoints.{its_post, its_pre, no_point, work_named}

module _ (at : State) (rules : List Rule) (rules_is : at.rules ≡ rules) (user : Text) (v : Verb) (body : Text) (w : Work) (works : WorksAs v body w) where
  -- neither name of an operation has a rule
  abbrev pub NoneOf : Text → Type 0
  NoneOf operation =
      (next_named rules (rules_name operation (codes "_pre")) 0 ≡ None) × (next_named rules (rules_name operation (codes "_post")) 0 ≡ None)

  by_name : (name : Option Text) → point_name v ≡ name → ((operation : Text) → point_name v ≡ Some operation → NoneOf operation)
      → HasNone at (point_at at.grid user w)
  by_name None is none q point = absurd (no_point (point_at at.grid user w) (work_named at.grid user v body w works ∙ is) q point)
  by_name (Some operation) is none q point =
      let p = point_at at.grid user w in
      let name = work_named at.grid user v body w works ∙ is in
      let its = none operation is in (
        (λ i. next_named (rules_is i) (its_pre p operation name q point i) 0) ∙ its.0,
        (λ i. next_named (rules_is i) (its_post p operation name q point i) 0) ∙ its.1,
      )

  pub has_none : ((operation : Text) → point_name v ≡ Some operation → NoneOf operation) → HasNone at (point_at at.grid user w)
  has_none = by_name (point_name v) refl
