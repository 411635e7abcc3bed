-- Calls take marks in their order, from the first one on.
use Rattle.std.proofs.Common.{◌≡◌, ℕ, zero, suc, Bool, true, false, List, [], ◌∷◌, ◌++◌, length, Option, Some, None, refl, ◌∙◌, append_assoc}
use Rattle.std.specs.Prelude.{Result, Ok, Err, ◌&&◌, map}
use Rattle.grid_model.specs.Names.{Text}
use Rattle.grid_model.specs.RuleText.{Rule, Step}
use Rattle.grid_model.specs.Grid.{Grid}
use Rattle.grid_model.specs.Bounds.{deepest}
use Rattle.grid_model.specs.Refusing.{Or}
use Rattle.grid_model.specs.Meanings.{Meaning, gives, ◌>>=◌, behind, mapped}
use Rattle.grid_model.specs.Deeds.{Act, Deed, changes, deed, by_mark, fits}
use Rattle.grid_model.specs.Operations.Table.{row}
use Rattle.grid_model.specs.Services.{Service, nothing, operation, no_path, service}
use Rattle.grid_model.specs.Values.{Env, Scope, Value, value, holds, computed, is_short}
use Rattle.grid_model.specs.Doing.{Course, Did, with_result, where_mark_fits, taking, take_mark, do_act, do_service, do_call, undo_within, undo, back}
use Rattle.grid_model.specs.Doing.{after_undoing}
use Rattle.grid_model.specs.Chains.{Named, Outcome, Caller, Stepped, Chained, Doing, goes_on, cuts, succeeds, fails, ended_well, failed, halted, none_applied}
use Rattle.grid_model.specs.Chains.{from_did, from_outcome, from_named, cutting, succeeding, failing, serving, naming, doing, do_as, do_step, has_budget}
use Rattle.grid_model.specs.Chains.{begin_step, counted, fixed_recovery, all_short, undone, after_step, chain, after_chain, scope_of, try_rules, rules_named}
use Rattle.grid_model.specs.Chains.{call_within, call_rule}
use Rattle.grid_model.specs.declared.calls.Call.{Call}
use Rattle.grid_model.specs.declared.marks.Mark.{Mark}
use Rattle.grid_model.specs.declared.refusal.Failure.{Failure}
use Rattle.grid_model.specs.declared.refusal.Failure.TheVariants.{Refused, Code, NoRule, Depth, Spent, LongText, Stopped}
use Rattle.chain_core.specs.Rest.{named_of_step}
use Rattle.chain_run.specs.Runs.{by_itself}
use Rattle.chain_laws.specs.Taken.{TakesInOrder}
use Rattle.chain_laws.proofs.Such.{GivesSuch, such_behind, such_given, such_mapped, such_next}

module _ (all : List Mark) where
  -- these are the marks that were taken, with those that are left behind them
  abbrev pub Takes : Course → Type 0
  Takes s = s.taken ++ s.marks ≡ all

  -- ---- micro-services

  abbrev pub DidTakes : Did → Type 0
  DidTakes d = Takes d.state

  fits_takes : (b : Bool) (s : Course) (r : Result Grid Failure) → Takes s → GivesSuch DidTakes (where_mark_fits b (with_result s r))
  fits_takes true s (Ok g) h = h
  fits_takes true s (Err f) h = h
  fits_takes false s r h = tt

  take_takes : (c : Call) (s : Course) (d : Deed) (ms : List Mark) → s.taken ++ ms ≡ all → GivesSuch DidTakes (take_mark c s d ms)
  take_takes c s d [] h = tt
  take_takes c s d (m ∷ rest) h = fits_takes (fits d m) (taking s m rest) (by_mark d m) (append_assoc s.taken (m ∷ []) rest ∙ h)

  pub act_takes : (c : Call) (s : Course) (a : Or Act) → Takes s → GivesSuch DidTakes (do_act c s a)
  act_takes c s (Err r) h = h
  act_takes c s (Ok (changes g)) h = h
  act_takes c s (Ok (deed d)) h = take_takes c s d s.marks h

  service_takes : (c : Call) (user : Text) (x : Option Service) (s : Course) → Takes s → GivesSuch DidTakes (do_service c user x s)
  service_takes c user None s h = h
  service_takes c user (Some nothing) s h = h
  service_takes c user (Some (operation op)) s h = act_takes c s (row s.grid user op) h
  service_takes c user (Some (no_path place)) s h = h

  -- ---- recoveries

  undo_takes : (user : Text) (c : Call) (n : ℕ) (s : Course) → Takes s → GivesSuch Takes (undo_within n user c s)
  undo_takes user c zero s h = tt
  undo_takes user c (suc n) s h =
      such_next DidTakes Takes (λ did. after_undoing c (undo_within n user c) did.state did.failure) (behind (c ∷ []) (do_call user c s))
      (such_behind DidTakes (c ∷ []) (do_call user c s) (service_takes c user (service c) s h)) (λ did k. by (undo_takes user c n) did.state did.failure k)
    where
      by : ((t : Course) → Takes t → GivesSuch Takes (undo_within n user c t)) → (t : Course) (f : Option Failure) → Takes t
          → GivesSuch Takes (after_undoing c (undo_within n user c) t f)
      by again t None k = k
      by again t (Some Stopped) k = again t k
      by again t (Some (Refused r)) k = k
      by again t (Some (Code z)) k = k
      by again t (Some NoRule) k = k
      by again t (Some Depth) k = k
      by again t (Some Spent) k = k
      by again t (Some LongText) k = k

  back_takes : (user : Text) (cs : List Call) (s : Course) → Takes s → GivesSuch Takes (back user cs s)
  back_takes user [] s h = h
  back_takes user (c ∷ cs) s h =
      such_next Takes Takes (λ later. undo user c later) (behind (c ∷ []) (back user cs s))
      (such_behind Takes (c ∷ []) (back user cs s) (back_takes user cs s h)) (λ t k. undo_takes user c (suc (length t.marks)) t k)

  -- ---- steps

  abbrev course_of : Stepped → Course
  course_of (goes_on s) = s
  course_of (cuts s) = s
  course_of (succeeds s) = s
  course_of (fails s f halts) = s

  abbrev StepTakes : Stepped → Type 0
  StepTakes x = Takes (course_of x)

  abbrev pub NamedTakes : Named → Type 0
  NamedTakes n = Takes n.state

  abbrev pub CallsTake : Caller → Type 0
  CallsTake caller = (name : Text) (args : List Text) (s : Course) → Takes s → GivesSuch NamedTakes (caller name args s)

  did_takes : (s : Course) (f : Option Failure) → Takes s → StepTakes (from_did (record { state = s; failure = f }))
  did_takes s None h = h
  did_takes s (Some f) h = h

  outcome_takes : (s : Course) (o : Outcome) → Takes s → StepTakes (from_outcome s o)
  outcome_takes s ended_well h = h
  outcome_takes s (failed f) h = h
  outcome_takes s (halted f) h = h
  outcome_takes s none_applied h = h

  as_takes : (caller : Caller) → CallsTake caller → (user : Text) (vs : List Value) (c : Call) (s : Course) (d : Doing) → Takes s
      → GivesSuch StepTakes (do_as d caller user vs c s)
  as_takes caller ct user vs c s cutting h = h
  as_takes caller ct user vs c s succeeding h = h
  as_takes caller ct user vs c s failing h = h
  as_takes caller ct user vs c s (serving x) h =
      such_mapped DidTakes StepTakes from_did (do_service c user (Some x) s) (service_takes c user (Some x) s h)
      (λ did k. did_takes did.state did.failure k)
  as_takes caller ct user vs c s naming h =
      such_mapped NamedTakes StepTakes from_named (caller c.name c.args s) (ct c.name c.args s h) (λ n k. outcome_takes n.state n.outcome k)

  begin_takes : (caller : Caller) → CallsTake caller → (user : Text) (vs : List Value) (c : Call) (s : Course) → Takes s
      → GivesSuch StepTakes (begin_step caller user vs c s)
  begin_takes caller ct user vs c s h = by (has_budget s)
    where
      by : (b : Bool) → GivesSuch StepTakes (elim b [ true ↦ do_step caller user vs c s | false ↦ gives (fails s Spent true) ])
      by true = as_takes caller ct user vs c s (doing c) h
      by false = h

  -- ---- chains

  abbrev ChainTakes : Chained → Type 0
  ChainTakes e = Takes e.state

  module _ (caller : Caller) (ct : CallsTake caller) (user : Text) where
    abbrev GoesTake : (Bool → Course → Meaning Chained) → Type 0
    GoesTake rest = (cut : Bool) (s : Course) → Takes s → GivesSuch ChainTakes (rest cut s)

    undone_takes : (f : Failure) (halts cut : Bool) (fixed : List Call) (s : Course) → Takes s
        → GivesSuch ChainTakes (mapped (undone f halts cut) (back user fixed s))
    undone_takes f halts cut fixed s h = such_mapped Takes ChainTakes (undone f halts cut) (back user fixed s) (back_takes user fixed s h) (λ t k. k)

    after_takes : (fixed : List Call) (cut : Bool) (rest : Bool → Course → Meaning Chained) → GoesTake rest → (x : Stepped) → StepTakes x
        → GivesSuch ChainTakes (after_step user fixed cut rest x)
    after_takes fixed cut rest goes (goes_on s) h = goes cut s h
    after_takes fixed cut rest goes (cuts s) h = goes true s h
    after_takes fixed cut rest goes (succeeds s) h = h
    after_takes fixed cut rest goes (fails s f halts) h = undone_takes f halts cut fixed s h

    chain_takes : (scope : Scope) (steps : List Step) (fixed : List Call) → GoesTake (chain caller user scope steps fixed)
    chain_takes scope [] fixed cut s h = h
    chain_takes scope (step ∷ steps) fixed cut s h = by (chain_takes scope steps) (is_short c && all_short own)
      where
        own : List Call
        own = fixed_recovery scope s.grid step.recovery

        c : Call
        c = computed scope s.grid step.call

        vs : List Value
        vs = map (value scope s.grid) step.call.args

        later : Course
        later = counted s

        later_same : Takes later
        later_same = h

        by : ((all : List Call) → GoesTake (chain caller user scope steps all)) → (b : Bool)
            → GivesSuch ChainTakes (elim b [
              | false ↦ mapped (undone LongText false cut) (back user fixed later)
              | true ↦
                  behind (fixed ++ own) (begin_step caller user vs c later)
                  >>= after_step user (fixed ++ own) cut (chain caller user scope steps (fixed ++ own))
            ])
        by goes false = undone_takes LongText false cut fixed later later_same
        by goes true =
            such_next StepTakes ChainTakes (after_step user (fixed ++ own) cut (chain caller user scope steps (fixed ++ own)))
            (behind (fixed ++ own) (begin_step caller user vs c later))
            (such_behind StepTakes (fixed ++ own) (begin_step caller user vs c later) (begin_takes caller ct user vs c later later_same))
            (after_takes (fixed ++ own) cut (chain caller user scope steps (fixed ++ own)) (goes (fixed ++ own)))

  -- ---- the rules of a name

  try_takes : (caller : Caller) → CallsTake caller → (env : Env) (args : List Text) (rules : List Rule) (last : Outcome) (s : Course) → Takes s
      → GivesSuch NamedTakes (try_rules caller env args rules last s)
  try_takes caller ct env args [] last s h = h
  try_takes caller ct env args (r ∷ rules) last s h = by (try_takes caller ct env args rules) (holds (scope_of env args r) s.grid r.cond)
    where
      next : Outcome → Course → Meaning Named
      next = try_rules caller env args rules

      by_end : ((o : Outcome) (t : Course) → Takes t → GivesSuch NamedTakes (next o t)) → (t : Course) (o : Outcome) (cut : Bool) → Takes t
          → GivesSuch NamedTakes (after_chain next (record { state = t; outcome = o; cut = cut }))
      by_end goes t ended_well cut k = k
      by_end goes t (failed f) true k = k
      by_end goes t (failed f) false k = goes (failed f) t k
      by_end goes t (halted f) cut k = k
      by_end goes t none_applied cut k = goes none_applied t k

      by : ((o : Outcome) (t : Course) → Takes t → GivesSuch NamedTakes (next o t)) → (b : Bool)
          → GivesSuch NamedTakes (elim b [ true ↦ chain caller env.user (scope_of env args r) r.steps [] false s >>= after_chain next | false ↦ next last s ])
      by goes true =
          such_next ChainTakes NamedTakes (after_chain next) (chain caller env.user (scope_of env args r) r.steps [] false s)
          (chain_takes caller ct env.user (scope_of env args r) r.steps [] false s h) (λ e k. by_end goes e.state e.outcome e.cut k)
      by goes false = goes last s h

  pub call_takes : (d : ℕ) (rs : List Rule) (env : Env) → CallsTake (call_within d rs env)
  call_takes zero rs env name args s h = h
  call_takes (suc d) rs env name args s h = try_takes (call_within d rs env) (call_takes d rs env) env args (rules_named rs name) none_applied s h

  named_takes : (x : Stepped) → StepTakes x → NamedTakes (named_of_step x)
  named_takes (goes_on s) h = h
  named_takes (cuts s) h = h
  named_takes (succeeds s) h = h
  named_takes (fails s f halts) h = h

  itself_takes : (rules : List Rule) (env : Env) (c : Call) (vs : List Value) (s : Course) (n : Named) → Takes s → by_itself rules env c vs s ≡ gives n
      → NamedTakes n
  itself_takes rules env c vs s n h is =
      such_given NamedTakes (by_itself rules env c vs s) n
      (such_mapped StepTakes NamedTakes named_of_step (begin_step (call_rule rules env) env.user vs c (counted s))
      (begin_takes (call_rule rules env) (call_takes deepest rules env) env.user vs c (counted s) h) named_takes) is

pub takes_in_order : TakesInOrder
takes_in_order rules env c vs s n is = itself_takes (s.taken ++ s.marks) rules env c vs s n refl is
