-- Rules in which a stop was taken halt with it.
use Rattle.std.proofs.Common.{◌≡◌, ℕ, zero, suc, Bool, true, false, List, [], ◌∷◌, ◌++◌, Option, Some, None, refl, sym, ◌∙◌, ap}
use Rattle.std.specs.Prelude.{Ok, Err, ◌&&◌, map}
use Rattle.grid_model.specs.Names.{Text}
use Rattle.grid_model.specs.RuleText.{Rule, Step}
use Rattle.grid_model.specs.Bounds.{deepest}
use Rattle.grid_model.specs.Refusing.{Or}
use Rattle.grid_model.specs.Meanings.{Meaning, gives, ◌>>=◌, behind, mapped}
use Rattle.grid_model.specs.Deeds.{Act, Deed, changes, deed, by_mark, fits}
use Rattle.grid_model.specs.Operations.Table.{row}
use Rattle.grid_model.specs.Services.{Service, nothing, operation, no_path}
use Rattle.grid_model.specs.Values.{Env, Scope, Value, value, holds, computed, is_short}
use Rattle.grid_model.specs.Doing.{Course, Did, with_result, where_mark_fits, taking, take_mark, do_act, do_service, back}
use Rattle.grid_model.specs.Chains.{Named, Outcome, Caller, Stepped, Chained, Doing, goes_on, cuts, succeeds, fails, ended_well, failed, halted, none_applied}
use Rattle.grid_model.specs.Chains.{from_did, from_outcome, from_named, cutting, succeeding, failing, serving, naming, doing, do_as, do_step, has_budget}
use Rattle.grid_model.specs.Chains.{begin_step, counted, fixed_recovery, all_short, undone, after_step, chain, after_chain, scope_of, try_rules, rules_named}
use Rattle.grid_model.specs.Chains.{call_within, call_rule}
use Rattle.grid_model.specs.declared.calls.Call.{Call}
use Rattle.grid_model.specs.declared.marks.Mark.{Mark}
use Rattle.grid_model.specs.declared.marks.Mark.TheVariants.{Ran, Fault, Bad, Stop}
use Rattle.grid_model.specs.declared.refusal.Failure.{Failure}
use Rattle.grid_model.specs.declared.refusal.Failure.TheVariants.{Spent, LongText, Stopped}
use Rattle.chain_core.specs.Rest.{failed_so, named_of_step}
use Rattle.chain_run.specs.Runs.{by_itself}
use Rattle.chain_laws.specs.Stopped.{StopsHalt}
use Rattle.chain_laws.proofs.Such.{GivesSuch, such_all, such_behind, such_given, such_mapped, such_next}

-- ---- flags

-- it is not both
never : {Z : Type 0} (b : Bool) → b ≡ false → b ≡ true → Z
never b off on = absurd (let both : true ≡ false = sym on ∙ off in cc)

-- it is down where it may not be up
down : (b : Bool) → (b ≡ true → ⊥) → b ≡ false
down b not_up = by b refl
  where
    by : (x : Bool) → b ≡ x → b ≡ false
    by true is = absurd (not_up is)
    by false is = is

-- ---- micro-services

abbrev DidHalts : Did → Type 0
DidHalts d = d.state.stopped ≡ true → d.failure ≡ Some Stopped

fits_halts : (b : Bool) (d : Did) → DidHalts d → GivesSuch DidHalts (where_mark_fits b d)
fits_halts true d h = h
fits_halts false d h = tt

take_halts : (c : Call) (s : Course) (d : Deed) (ms : List Mark) → s.stopped ≡ false → GivesSuch DidHalts (take_mark c s d ms)
take_halts c s d [] off = tt
take_halts c s d (Ran word now bad ∷ rest) off =
    fits_halts (fits d (Ran word now bad)) (with_result (taking s (Ran word now bad) rest) (by_mark d (Ran word now bad))) (λ on. never s.stopped off on)
take_halts c s d (Fault slot sent ∷ rest) off =
    fits_halts (fits d (Fault slot sent)) (with_result (taking s (Fault slot sent) rest) (by_mark d (Fault slot sent))) (λ on. never s.stopped off on)
take_halts c s d (Bad slot len found sent ∷ rest) off =
    fits_halts (fits d (Bad slot len found sent)) (with_result (taking s (Bad slot len found sent) rest) (by_mark d (Bad slot len found sent)))
    (λ on. never s.stopped off on)
take_halts c s d (Stop ∷ rest) off = fits_halts (fits d Stop) (with_result (taking s Stop rest) (by_mark d Stop)) (λ on. refl)

act_halts : (c : Call) (s : Course) (a : Or Act) → s.stopped ≡ false → GivesSuch DidHalts (do_act c s a)
act_halts c s (Err r) off = λ on. never s.stopped off on
act_halts c s (Ok (changes g)) off = λ on. never s.stopped off on
act_halts c s (Ok (deed d)) off = take_halts c s d s.marks off

service_halts : (c : Call) (user : Text) (x : Option Service) (s : Course) → s.stopped ≡ false → GivesSuch DidHalts (do_service c user x s)
service_halts c user None s off = λ on. never s.stopped off on
service_halts c user (Some nothing) s off = λ on. never s.stopped off on
service_halts c user (Some (operation op)) s off = act_halts c s (row s.grid user op) off
service_halts c user (Some (no_path place)) s off = λ on. never s.stopped off on

-- ---- steps

-- a step behind which a chain goes on took none, and one that failed with one halts
abbrev StepHalts : Stepped → Type 0
StepHalts (goes_on s) = s.stopped ≡ false
StepHalts (cuts s) = s.stopped ≡ false
StepHalts (succeeds s) = s.stopped ≡ false
StepHalts (fails s f halts) = s.stopped ≡ true → (f ≡ Stopped) × (halts ≡ true)

abbrev pub NamedHalts : Named → Type 0
NamedHalts n = n.state.stopped ≡ true → n.outcome ≡ halted Stopped

abbrev pub CallsHalt : Caller → Type 0
CallsHalt caller = (name : Text) (args : List Text) (s : Course) → s.stopped ≡ false → GivesSuch NamedHalts (caller name args s)

did_halts : (s : Course) (f : Option Failure) → (s.stopped ≡ true → f ≡ Some Stopped) → StepHalts (from_did (record { state = s; failure = f }))
did_halts s None h = down s.stopped (λ on. (let no = h on in cc no))
did_halts s (Some f) h = λ on. (let same = h on in (let is : f ≡ Stopped = cc same in is), on)

outcome_halts : (s : Course) (o : Outcome) → (s.stopped ≡ true → o ≡ halted Stopped) → StepHalts (from_outcome s o)
outcome_halts s ended_well h = down s.stopped (λ on. (let no = h on in cc no))
outcome_halts s (failed f) h = λ on. absurd (let no = h on in cc no)
outcome_halts s (halted f) h = λ on. (let same = h on in (let is : f ≡ Stopped = cc same in is), refl)
outcome_halts s none_applied h = λ on. absurd (let no = h on in cc no)

as_halts : (caller : Caller) → CallsHalt caller → (user : Text) (vs : List Value) (c : Call) (s : Course) (d : Doing) → s.stopped ≡ false
    → GivesSuch StepHalts (do_as d caller user vs c s)
as_halts caller ch user vs c s cutting off = off
as_halts caller ch user vs c s succeeding off = off
as_halts caller ch user vs c s failing off = λ on. never s.stopped off on
as_halts caller ch user vs c s (serving x) off =
    such_mapped DidHalts StepHalts from_did (do_service c user (Some x) s) (service_halts c user (Some x) s off) (λ did k. did_halts did.state did.failure k)
as_halts caller ch user vs c s naming off =
    such_mapped NamedHalts StepHalts from_named (caller c.name c.args s) (ch c.name c.args s off) (λ n k. outcome_halts n.state n.outcome k)

begin_halts : (caller : Caller) → CallsHalt caller → (user : Text) (vs : List Value) (c : Call) (s : Course) → s.stopped ≡ false
    → GivesSuch StepHalts (begin_step caller user vs c s)
begin_halts caller ch user vs c s off = by (has_budget s)
  where
    by : (b : Bool) → GivesSuch StepHalts (elim b [ true ↦ do_step caller user vs c s | false ↦ gives (fails s Spent true) ])
    by true = as_halts caller ch user vs c s (doing c) off
    by false = λ on. never s.stopped off on

-- ---- chains

abbrev ChainHalts : Chained → Type 0
ChainHalts e = e.state.stopped ≡ true → e.outcome ≡ halted Stopped

undone_halts : (f : Failure) (halts cut : Bool) (t : Course) → ChainHalts (undone f halts cut t)
undone_halts f halts cut t on =
    ap (λ (b : Bool). elim b as (λ _. Outcome) [ true ↦ halted Stopped | false ↦ elim halts [ true ↦ halted f | false ↦ failed f ] ]) on

module _ (caller : Caller) (ch : CallsHalt caller) (user : Text) where
  abbrev GoesHalt : (Bool → Course → Meaning Chained) → Type 0
  GoesHalt rest = (cut : Bool) (s : Course) → s.stopped ≡ false → GivesSuch ChainHalts (rest cut s)

  all_halts : (f : Failure) (halts cut : Bool) (fixed : List Call) (s : Course) → GivesSuch ChainHalts (mapped (undone f halts cut) (back user fixed s))
  all_halts f halts cut fixed s = such_all ChainHalts (undone f halts cut) (back user fixed s) (undone_halts f halts cut)

  after_halts : (fixed : List Call) (cut : Bool) (rest : Bool → Course → Meaning Chained) → GoesHalt rest → (x : Stepped) → StepHalts x
      → GivesSuch ChainHalts (after_step user fixed cut rest x)
  after_halts fixed cut rest goes (goes_on s) h = goes cut s h
  after_halts fixed cut rest goes (cuts s) h = goes true s h
  after_halts fixed cut rest goes (succeeds s) h = λ on. never s.stopped h on
  after_halts fixed cut rest goes (fails s f halts) h = all_halts f halts cut fixed s

  chain_halts : (scope : Scope) (steps : List Step) (fixed : List Call) → GoesHalt (chain caller user scope steps fixed)
  chain_halts scope [] fixed cut s off = λ on. never s.stopped off on
  chain_halts scope (step ∷ steps) fixed cut s off = by (chain_halts scope steps) (is_short c && all_short own)
    where
      own : List Call
      own = fixed_recovery scope s.grid step.recovery

      c : Call
      c = computed scope s.grid step.call

      vs : List Value
      vs = map (value scope s.grid) step.call.args

      later : Course
      later = counted s

      by : ((all : List Call) → GoesHalt (chain caller user scope steps all)) → (b : Bool)
          → GivesSuch ChainHalts (elim b [
            | false ↦ mapped (undone LongText false cut) (back user fixed later)
            | true ↦
                behind (fixed ++ own) (begin_step caller user vs c later)
                >>= after_step user (fixed ++ own) cut (chain caller user scope steps (fixed ++ own))
          ])
      by goes false = all_halts LongText false cut fixed later
      by goes true =
          such_next StepHalts ChainHalts (after_step user (fixed ++ own) cut (chain caller user scope steps (fixed ++ own)))
          (behind (fixed ++ own) (begin_step caller user vs c later))
          (such_behind StepHalts (fixed ++ own) (begin_step caller user vs c later) (begin_halts caller ch user vs c later off))
          (after_halts (fixed ++ own) cut (chain caller user scope steps (fixed ++ own)) (goes (fixed ++ own)))

-- ---- the rules of a name

try_halts : (caller : Caller) → CallsHalt caller → (env : Env) (args : List Text) (rules : List Rule) (last : Outcome) (s : Course) → s.stopped ≡ false
    → GivesSuch NamedHalts (try_rules caller env args rules last s)
try_halts caller ch env args [] last s off = λ on. never s.stopped off on
try_halts caller ch env args (r ∷ rules) last s off = by (try_halts caller ch env args rules) (holds (scope_of env args r) s.grid r.cond)
  where
    next : Outcome → Course → Meaning Named
    next = try_rules caller env args rules

    by_end : ((o : Outcome) (t : Course) → t.stopped ≡ false → GivesSuch NamedHalts (next o t)) → (t : Course) (o : Outcome) (cut : Bool)
        → (t.stopped ≡ true → o ≡ halted Stopped) → GivesSuch NamedHalts (after_chain next (record { state = t; outcome = o; cut = cut }))
    by_end goes t ended_well cut k = k
    by_end goes t (failed f) true k = k
    by_end goes t (failed f) false k = goes (failed f) t (down t.stopped (λ on. (let no = k on in cc no)))
    by_end goes t (halted f) cut k = k
    by_end goes t none_applied cut k = goes none_applied t (down t.stopped (λ on. (let no = k on in cc no)))

    by : ((o : Outcome) (t : Course) → t.stopped ≡ false → GivesSuch NamedHalts (next o t)) → (b : Bool)
        → GivesSuch NamedHalts (elim b [ true ↦ chain caller env.user (scope_of env args r) r.steps [] false s >>= after_chain next | false ↦ next last s ])
    by goes true =
        such_next ChainHalts NamedHalts (after_chain next) (chain caller env.user (scope_of env args r) r.steps [] false s)
        (chain_halts caller ch env.user (scope_of env args r) r.steps [] false s off) (λ e k. by_end goes e.state e.outcome e.cut k)
    by goes false = goes last s off

pub call_halts : (d : ℕ) (rs : List Rule) (env : Env) → CallsHalt (call_within d rs env)
call_halts zero rs env name args s off = λ on. never s.stopped off on
call_halts (suc d) rs env name args s off = try_halts (call_within d rs env) (call_halts d rs env) env args (rules_named rs name) none_applied s off

-- ---- a call by itself

named_halts : (x : Stepped) → StepHalts x → NamedHalts (named_of_step x)
named_halts (goes_on s) h on = never s.stopped h on
named_halts (cuts s) h on = never s.stopped h on
named_halts (succeeds s) h on = never s.stopped h on
named_halts (fails s f halts) h on = let both = h on in (λ i. failed_so (both.0 i) (both.1 i))

pub stops_halt : StopsHalt
stops_halt rules env c vs s n off is =
    such_given NamedHalts (by_itself rules env c vs s) n
    (such_mapped StepHalts NamedHalts named_of_step (begin_step (call_rule rules env) env.user vs c (counted s))
    (begin_halts (call_rule rules env) (call_halts deepest rules env) env.user vs c (counted s) off) named_halts) is
