-- A point without a rule of its names does nothing.
use Rattle.std.proofs.Common.{◌≡◌, ℕ, suc, Bool, cond, true, false, List, [], ◌∷◌, Option, Some, None, refl, ap, ◌∙◌}
use Rattle.grid_model.specs.Names.{Text, same_text}
use Rattle.grid_model.specs.RuleText.{Rule}
use Rattle.grid_model.specs.Meanings.{Meaning, gives, waits, unfit, mapped, ◌>>=◌}
use Rattle.grid_model.specs.Values.{Env}
use Rattle.grid_model.specs.Doing.{Course, Did, did_well}
use Rattle.grid_model.specs.Chains.{Named, call_within, none_applied, rules_named, try_rules}
use Rattle.grid_model.specs.Points.{Point, post_name, pre_name}
use Rattle.grid_model.specs.Sessions.{State}
use Rattle.grid_model.specs.Working.{Done, Worked, after_post, after_pre, after_work, done, end_of, failure_of, run_point}
use Rattle.grid_model.specs.declared.refusal.Failure.{Failure}
use Rattle.chain_core.specs.Moves.{first_at, next_named}
use Rattle.point_laws.specs.Works.{Work, work_of}
use Rattle.work_run.specs.Behind.{from_start, from_work}

-- none of the rules has the name
none_named : (rules : List Rule) (name : Text) (i : ℕ) → first_at rules name i ≡ None → rules_named rules name ≡ []
none_named [] name i none = refl
none_named (r ∷ rules) name i none = by (same_text r.name name) (λ e. none_named rules name (suc i) e) none
  where
    by : (b : Bool) → (first_at rules name (suc i) ≡ None → rules_named rules name ≡ [])
        → ◌≡◌ {A = Option ℕ} (elim b [ true ↦ Some i | false ↦ first_at rules name (suc i) ]) None
        → cond b (r ∷ rules_named rules name) (rules_named rules name) ≡ []
    by true others e = absurd (cc e)
    by false others e = others e

none_applies : (d : ℕ) (rules : List Rule) (env : Env) (name : Text) (args : List Text) (s : Course) → next_named rules name 0 ≡ None
    → call_within (suc d) rules env name args s ≡ gives (record { state = s; outcome = none_applied })
none_applies d rules env name args s none =
    ap (λ (rs : List Rule). try_rules (call_within d rules env) env args rs none_applied s) (none_named rules name 0 none)

pub point_idle : (rules : List Rule) (p : Point) (name : Point → Text) (s : Course) → next_named rules (name p) 0 ≡ None
    → run_point rules (Some p) name s ≡ gives (did_well s)
point_idle rules p name s none =
    ap (mapped (λ (n : Named). record { state = n.state; failure = failure_of n.outcome })) (none_applies 31 rules p.env (name p) [] s none)

-- ---- what is done between such points

next_same : {A B : Type 0} (m : Meaning A) (f g : A → Meaning B) → ((x : A) → f x ≡ g x) → (m >>= f) ≡ (m >>= g)
next_same (gives x) f g same = same x
next_same (waits w) f g same = refl
next_same unfit f g same = refl

module _ (at : State) (p : Point) (no_pre : next_named at.rules (pre_name p) 0 ≡ None) (no_post : next_named at.rules (post_name p) 0 ≡ None) where
  after_same : (w : Worked) → after_work at (Some p) w ≡ after_work at None w
  after_same w = by w.failure
    where
      by : (f : Option Failure) → ◌≡◌ {A = Meaning Done}
          (elim f [ Some x ↦ gives (done at w.state [] [] w.sent (end_of x)) | None ↦ mapped (after_post at w) (run_point at.rules (Some p) post_name w.state) ])
          (elim f [ Some x ↦ gives (done at w.state [] [] w.sent (end_of x)) | None ↦ mapped (after_post at w) (run_point at.rules None post_name w.state) ])
      by (Some x) = refl
      by None = ap (mapped (after_post at w)) (point_idle at.rules p post_name w.state no_post)

  pub alone_some : (user : Text) (w : Work) (s : Course) → from_start at (Some p) user w s ≡ from_work at None user w s
  alone_some user w s =
      ap (λ (m : Meaning Did). m >>= after_pre at (Some p) (work_of user w)) (point_idle at.rules p pre_name s no_pre)
      ∙ next_same (work_of user w s) (after_work at (Some p)) (after_work at None) after_same
