-- Steps, chains and the rules of a name leave the grid within the limits.
use Rattle.std.proofs.Common.{ℕ, zero, suc, Bool, true, false, List, [], ◌∷◌, ◌++◌, Option, Some, None, map}
use Rattle.std.specs.Prelude.{◌&&◌}
use Rattle.grid_model.specs.Names.{Text}
use Rattle.grid_model.specs.Grid.{Grid}
use Rattle.grid_model.specs.RuleText.{Rule, Step}
use Rattle.grid_model.specs.Bounds.{deepest}
use Rattle.grid_model.specs.Values.{Env, Scope, Value, value, holds, computed, is_short}
use Rattle.grid_model.specs.Meanings.{Meaning, behind}
use Rattle.grid_model.specs.Doing.{Course, do_service, back}
use Rattle.grid_model.specs.Chains.{Caller, Chained, Doing, Named, Outcome, Stepped, after_chain, after_step, all_short, begin_step, call_rule, call_within}
use Rattle.grid_model.specs.Chains.{chain, counted, cuts, cutting, do_as, do_fixed, do_step, doing, ended_well, failed, failing, fails, fixed_recovery}
use Rattle.grid_model.specs.Chains.{from_did, from_named, from_outcome, goes_on, halted, has_budget, naming, none_applied, rules_named, scope_of, serving}
use Rattle.grid_model.specs.Chains.{succeeding, succeeds, try_rules, undone}
use Rattle.grid_model.specs.declared.calls.Call.{Call}
use Rattle.grid_model.specs.declared.refusal.Failure.{Failure}
use Rattle.grid_model.specs.declared.refusal.Failure.TheVariants.{LongText}
use Rattle.size_laws.specs.Laws.{grid_left, grid_here}
use Rattle.size_laws.specs.Requests.{grid_named, NamesKeepWithin}
use Rattle.size_laws.specs.Within.{IsWithin}
use Rattle.size_laws.proofs.Ending.{Ends, ends_next, ends_mapped, ends_behind, ends_either, ends_within}
use Rattle.size_laws.proofs.SmallCalls.{service_ends, back_ends}

-- ---- steps

-- the grid of what a step left
abbrev pub grid_stepped : Stepped → Grid
grid_stepped (goes_on s) = s.grid
grid_stepped (cuts s) = s.grid
grid_stepped (succeeds s) = s.grid
grid_stepped (fails s f halts) = s.grid

-- the grid of what a chain left
abbrev grid_chained : Chained → Grid
grid_chained e = e.state.grid

-- whatever is called of rules leaves the grid within the limits
abbrev pub CallerKeeps : Caller → Type 0
CallerKeeps caller = (name : Text) (args : List Text) (s : Course) → IsWithin s.grid → Ends grid_named (caller name args s)

did_step : (s : Course) (f : Option Failure) → IsWithin s.grid → IsWithin (grid_stepped (from_did (record { state = s; failure = f })))
did_step s None w = w
did_step s (Some f) w = w

outcome_step : (s : Course) (o : Outcome) → IsWithin s.grid → IsWithin (grid_stepped (from_outcome s o))
outcome_step s ended_well w = w
outcome_step s (failed f) w = w
outcome_step s (halted f) w = w
outcome_step s none_applied w = w

module _ (caller : Caller) (keeps : CallerKeeps caller) (user : Text) where
  as_ends : (d : Doing) (vs : List Value) (c : Call) (s : Course) → IsWithin s.grid → Ends grid_stepped (do_as d caller user vs c s)
  as_ends cutting vs c s w = w
  as_ends succeeding vs c s w = w
  as_ends failing vs c s w = w
  as_ends (serving x) vs c s w =
      ends_mapped grid_left grid_stepped from_did (do_service c user (Some x) s) (service_ends c user (Some x) s w)
      (λ did its. did_step did.state did.failure its)
  as_ends naming vs c s w =
      ends_mapped grid_named grid_stepped from_named (caller c.name c.args s) (keeps c.name c.args s w) (λ n its. outcome_step n.state n.outcome its)

  pub step_ends : (vs : List Value) (c : Call) (s : Course) → IsWithin s.grid → Ends grid_stepped (begin_step caller user vs c s)
  step_ends vs c s w = ends_either grid_stepped (has_budget s) (do_step caller user vs c s) _ (as_ends (doing c) vs c s w) w

  -- ---- chains

  after_ends : (fixed : List Call) (cut : Bool) (rest : Bool → Course → Meaning Chained) (x : Stepped)
      → ((b : Bool) (s : Course) → IsWithin s.grid → Ends grid_chained (rest b s)) → IsWithin (grid_stepped x)
      → Ends grid_chained (after_step user fixed cut rest x)
  after_ends fixed cut rest (goes_on s) each w = each cut s w
  after_ends fixed cut rest (cuts s) each w = each true s w
  after_ends fixed cut rest (succeeds s) each w = w
  after_ends fixed cut rest (fails s f halts) each w =
      ends_mapped grid_here grid_chained (undone f halts cut) (back user fixed s) (back_ends user fixed s w) (λ t its. its)

  fixed_ends : (vs : List Value) (c : Call) (own fixed : List Call) (cut : Bool) (rest : List Call → Bool → Course → Meaning Chained) (s : Course)
      → ((cs : List Call) (b : Bool) (t : Course) → IsWithin t.grid → Ends grid_chained (rest cs b t)) → IsWithin s.grid
      → Ends grid_chained (do_fixed caller user vs c own fixed cut rest s)
  fixed_ends vs c own fixed cut rest s each w =
      ends_either grid_chained (is_short c && all_short own) _ _
      (ends_next grid_stepped grid_chained (behind (fixed ++ own) (begin_step caller user vs c s)) (after_step user (fixed ++ own) cut (rest (fixed ++ own)))
      (ends_behind grid_stepped (fixed ++ own) (begin_step caller user vs c s) (step_ends vs c s w))
      (λ x its. after_ends (fixed ++ own) cut (rest (fixed ++ own)) x (each (fixed ++ own)) its))
      (ends_mapped grid_here grid_chained (undone LongText false cut) (back user fixed s) (back_ends user fixed s w) (λ t its. its))

  chain_ends : (scope : Scope) (steps : List Step) (fixed : List Call) (cut : Bool) (s : Course) → IsWithin s.grid
      → Ends grid_chained (chain caller user scope steps fixed cut s)
  chain_ends scope [] fixed cut s w = w
  chain_ends scope (step ∷ steps) fixed cut s w =
      fixed_ends (map (value scope s.grid) step.call.args) (computed scope s.grid step.call) (fixed_recovery scope s.grid step.recovery) fixed cut
      (chain caller user scope steps) (counted s) (chain_ends scope steps) w

-- ---- the rules of a name

chained_ends : (next : Outcome → Course → Meaning Named) (s : Course) (o : Outcome) (cut : Bool)
    → ((last : Outcome) (t : Course) → IsWithin t.grid → Ends grid_named (next last t)) → IsWithin s.grid
    → Ends grid_named (after_chain next (record { state = s; outcome = o; cut = cut }))
chained_ends next s ended_well cut each w = w
chained_ends next s (failed f) true each w = w
chained_ends next s (failed f) false each w = each (failed f) s w
chained_ends next s (halted f) cut each w = w
chained_ends next s none_applied cut each w = each none_applied s w

rules_end : (caller : Caller) → CallerKeeps caller → (env : Env) (args : List Text) (rules : List Rule) (last : Outcome) (s : Course) → IsWithin s.grid
    → Ends grid_named (try_rules caller env args rules last s)
rules_end caller keeps env args [] last s w = w
rules_end caller keeps env args (r ∷ rules) last s w =
    ends_either grid_named (holds (scope_of env args r) s.grid r.cond) _ _
    (ends_next grid_chained grid_named (chain caller env.user (scope_of env args r) r.steps [] false s) (after_chain (try_rules caller env args rules))
    (chain_ends caller keeps env.user (scope_of env args r) r.steps [] false s w)
    (λ e its. chained_ends (try_rules caller env args rules) e.state e.outcome e.cut (rules_end caller keeps env args rules) its))
    (rules_end caller keeps env args rules last s w)

deep_ends : (d : ℕ) (rules : List Rule) (env : Env) → CallerKeeps (call_within d rules env)
deep_ends zero rules env name args s w = w
deep_ends (suc d) rules env name args s w =
    rules_end (call_within d rules env) (deep_ends d rules env) env args (rules_named rules name) none_applied s w

pub names_end : (rules : List Rule) (env : Env) → CallerKeeps (call_rule rules env)
names_end rules env name args s w = deep_ends deepest rules env name args s w

pub names_keep_within : NamesKeepWithin
names_keep_within rules env name args s w = ends_within grid_named (call_rule rules env name args s) (names_end rules env name args s w)
