-- With clean marks rules end by the rows and by their steps.
use Rattle.std.proofs.Common.{◌≡◌, ℕ, zero, suc, Bool, true, false, List, [], ◌∷◌, ◌++◌, length, Option, Some, None, subst}
use Rattle.std.specs.Prelude.{Ok, Err, ◌&&◌, map}
use Rattle.grid_model.specs.Bounds.{deepest}
use Rattle.grid_model.specs.Names.{Text}
use Rattle.grid_model.specs.RuleText.{Rule, Step}
use Rattle.grid_model.specs.Refusing.{Or}
use Rattle.grid_model.specs.Meanings.{Meaning, gives, waits, unfit, ◌>>=◌, behind, mapped}
use Rattle.grid_model.specs.Deeds.{Act, Deed, changes, deed, by_mark, fits}
use Rattle.grid_model.specs.Operations.Table.{row}
use Rattle.grid_model.specs.Services.{Service, nothing, operation, no_path, service}
use Rattle.grid_model.specs.Values.{Env, Scope, Value, value, holds, computed, is_short}
use Rattle.grid_model.specs.Doing.{Course, Did, with_result, where_mark_fits, taking, take_mark, do_act, do_service}
use Rattle.grid_model.specs.Doing.{do_call, undo_within, undo, back, after_undoing}
use Rattle.grid_model.specs.Chains.{Outcome, Named, Caller, Stepped, Chained, Doing, goes_on, cuts, succeeds, fails}
use Rattle.grid_model.specs.Chains.{ended_well, failed, halted, none_applied, from_did, from_outcome, from_named}
use Rattle.grid_model.specs.Chains.{cutting, succeeding, failing, serving, naming, doing, do_as, do_step, has_budget, begin_step}
use Rattle.grid_model.specs.Chains.{counted, fixed_recovery, all_short, undone, after_step, chain, after_chain, scope_of, try_rules}
use Rattle.grid_model.specs.Chains.{rules_named, call_within, call_rule}
use Rattle.grid_model.specs.Completing.{AreClean, IsOfStep, is_clean_mark}
use Rattle.grid_model.specs.declared.calls.Call.{Call}
use Rattle.grid_model.specs.declared.marks.Mark.{Mark}
use Rattle.grid_model.specs.declared.marks.Mark.TheVariants.{Ran, Fault, Bad, Stop}
use Rattle.grid_model.specs.declared.refusal.Failure.{Failure}
use Rattle.grid_model.specs.declared.refusal.Failure.TheVariants.{Refused, Code, NoRule, Depth, Spent, LongText, Stopped}
use Rattle.grid_model.proofs.CleanMarks.{Clean}
use Rattle.chain_core.specs.Rest.{named_of_step}
use Rattle.chain_laws.specs.ByRows.{CallsEndByRows, NamesEndByRows, OutcomeByRows}
use Rattle.chain_laws.proofs.OfGrid.{OfGrid}
use Rattle.chain_laws.proofs.OfOperations.{of_row}

-- ---- what is given

-- P of what it gives, where it gives something
abbrev pub AllGive : {A : Type 0} → (A → Type 0) → Meaning A → Type 0
AllGive P (gives x) = P x
AllGive P other = Unit {0}

module _ {A B : Type 0} (P : A → Type 0) (Q : B → Type 0) where
  pub next_gives : (f : A → Meaning B) (m : Meaning A) → AllGive P m → ((x : A) → P x → AllGive Q (f x)) → AllGive Q (m >>= f)
  next_gives f (gives x) h each = each x h
  next_gives f (waits w) h each = tt
  next_gives f unfit h each = tt

  pub mapped_give : (f : A → B) (m : Meaning A) → AllGive P m → ((x : A) → P x → Q (f x)) → AllGive Q (mapped f m)
  mapped_give f (gives x) h each = each x h
  mapped_give f (waits w) h each = tt
  mapped_give f unfit h each = tt

behind_give : {A : Type 0} (P : A → Type 0) (cs : List Call) (m : Meaning A) → AllGive P m → AllGive P (behind cs m)
behind_give P cs (gives x) h = h
behind_give P cs (waits w) h = tt
behind_give P cs unfit h = tt

-- ---- calls

-- where it failed, it is by the grid or by a step
abbrev pub FailureByRows : Option Failure → Type 0
FailureByRows None = Unit {0}
FailureByRows (Some f) = IsOfStep f

-- what a call left: it goes on cleanly, and failed so
abbrev pub DidSo : Did → Type 0
DidSo d = Clean d.state × FailureByRows d.failure

fits_so : (b : Bool) (s : Course) (d : Deed) (m : Mark) (rest : List Mark) → is_clean_mark m ≡ true → s.stopped ≡ false → AreClean rest
    → AllGive DidSo (where_mark_fits b (with_result (taking s m rest) (by_mark d m)))
fits_so true s d (Ran word now []) rest m on clean = (record { on = on; marks = clean }, tt)
fits_so true s d (Ran word now (b ∷ bs)) rest m on clean = absurd cc
fits_so true s d (Fault slot sent) rest m on clean = absurd cc
fits_so true s d (Bad slot len found sent) rest m on clean = absurd cc
fits_so true s d Stop rest m on clean = absurd cc
fits_so false s d m rest h on clean = tt

take_so : (c : Call) (s : Course) (d : Deed) (ms : List Mark) → s.stopped ≡ false → AreClean ms → AllGive DidSo (take_mark c s d ms)
take_so c s d [] on clean = tt
take_so c s d (m ∷ rest) on clean = fits_so (fits d m) s d m rest clean.0 on clean.1

pub act_so : (c : Call) (s : Course) (a : Or Act) → OfGrid a → Clean s → AllGive DidSo (do_act c s a)
act_so c s (Err r) of h = (h, of)
act_so c s (Ok (changes g)) of h = (record { on = h.on; marks = h.marks }, tt)
act_so c s (Ok (deed d)) of h = take_so c s d s.marks h.on h.marks

service_so : (c : Call) (user : Text) (x : Option Service) (s : Course) → Clean s → AllGive DidSo (do_service c user x s)
service_so c user None s h = (h, tt)
service_so c user (Some nothing) s h = (h, tt)
service_so c user (Some (operation op)) s h = act_so c s (row s.grid user op) (of_row s.grid user op) h
service_so c user (Some (no_path place)) s h = (h, tt)

-- ---- recoveries

undo_so : (user : Text) (c : Call) (n : ℕ) (s : Course) → Clean s → AllGive Clean (undo_within n user c s)
undo_so user c zero s h = tt
undo_so user c (suc n) s h =
    next_gives DidSo Clean (λ did. after_undoing c (undo_within n user c) did.state did.failure) (behind (c ∷ []) (do_call user c s))
    (behind_give DidSo (c ∷ []) (do_call user c s) (service_so c user (service c) s h)) (λ did k. by_failure (undo_so user c n) did.state did.failure k.0)
  where
    by_failure : ((t : Course) → Clean t → AllGive Clean (undo_within n user c t)) → (t : Course) (f : Option Failure) → Clean t
        → AllGive Clean (after_undoing c (undo_within n user c) t f)
    by_failure again t None k = k
    by_failure again t (Some Stopped) k = again t k
    by_failure again t (Some (Refused r)) k = record { on = k.on; marks = k.marks }
    by_failure again t (Some (Code z)) k = record { on = k.on; marks = k.marks }
    by_failure again t (Some NoRule) k = record { on = k.on; marks = k.marks }
    by_failure again t (Some Depth) k = record { on = k.on; marks = k.marks }
    by_failure again t (Some Spent) k = record { on = k.on; marks = k.marks }
    by_failure again t (Some LongText) k = record { on = k.on; marks = k.marks }

back_so : (user : Text) (cs : List Call) (s : Course) → Clean s → AllGive Clean (back user cs s)
back_so user [] s h = h
back_so user (c ∷ cs) s h =
    next_gives Clean Clean (λ later. undo user c later) (behind (c ∷ []) (back user cs s)) (behind_give Clean (c ∷ []) (back user cs s) (back_so user cs s h))
    (λ t k. undo_so user c (suc (length t.marks)) t k)

-- ---- steps

-- what a step left
abbrev StepSo : Stepped → Type 0
StepSo (goes_on s) = Clean s
StepSo (cuts s) = Clean s
StepSo (succeeds s) = Clean s
StepSo (fails s f halts) = Clean s × IsOfStep f

-- what rules left
abbrev pub NamedSo : Named → Type 0
NamedSo n = Clean n.state × OutcomeByRows n.outcome

abbrev pub CallsSo : Caller → Type 0
CallsSo caller = (name : Text) (args : List Text) (s : Course) → Clean s → AllGive NamedSo (caller name args s)

from_did_so : (s : Course) (f : Option Failure) → Clean s → FailureByRows f → StepSo (from_did (record { state = s; failure = f }))
from_did_so s None h by_rows = h
from_did_so s (Some f) h by_rows = (h, by_rows)

from_outcome_so : (s : Course) (o : Outcome) → Clean s → OutcomeByRows o → StepSo (from_outcome s o)
from_outcome_so s ended_well h by_rows = h
from_outcome_so s (failed f) h by_rows = (h, by_rows)
from_outcome_so s (halted f) h by_rows = (h, by_rows)
from_outcome_so s none_applied h by_rows = (h, tt)

module _ (caller : Caller) (calls : CallsSo caller) (user : Text) where
  as_so : (vs : List Value) (c : Call) (s : Course) (d : Doing) → Clean s → AllGive StepSo (do_as d caller user vs c s)
  as_so vs c s cutting h = h
  as_so vs c s succeeding h = h
  as_so vs c s failing h = (h, tt)
  as_so vs c s (serving x) h =
      mapped_give DidSo StepSo from_did (do_service c user (Some x) s) (service_so c user (Some x) s h) (λ did k. from_did_so did.state did.failure k.0 k.1)
  as_so vs c s naming h =
      mapped_give NamedSo StepSo from_named (caller c.name c.args s) (calls c.name c.args s h) (λ n k. from_outcome_so n.state n.outcome k.0 k.1)

  begin_so : (vs : List Value) (c : Call) (s : Course) → Clean s → AllGive StepSo (begin_step caller user vs c s)
  begin_so vs c s h = by_budget (has_budget s)
    where
      by_budget : (b : Bool) → AllGive StepSo (elim b [ true ↦ do_step caller user vs c s | false ↦ gives (fails s Spent true) ])
      by_budget true = as_so vs c s (doing c) h
      by_budget false = (h, tt)

  -- ---- chains

  abbrev ChainSo : Chained → Type 0
  ChainSo e = Clean e.state × OutcomeByRows e.outcome

  abbrev RestSo : (Bool → Course → Meaning Chained) → Type 0
  RestSo rest = (cut : Bool) (s : Course) → Clean s → AllGive ChainSo (rest cut s)

  undone_by : (f : Failure) (halts cut : Bool) (t : Course) → IsOfStep f → Clean t → ChainSo (undone f halts cut t)
  undone_by f halts cut t of h = (h, by_stop t.stopped h.on halts)
    where
      by_stop : (b : Bool) → b ≡ false → (halts : Bool)
          → OutcomeByRows (elim b [ true ↦ halted Stopped | false ↦ elim halts [ true ↦ halted f | false ↦ failed f ] ])
      by_stop true on halts = absurd cc
      by_stop false on true = of
      by_stop false on false = of

  undone_so : (f : Failure) (halts cut : Bool) (fixed : List Call) (s : Course) → IsOfStep f → Clean s
      → AllGive ChainSo (mapped (undone f halts cut) (back user fixed s))
  undone_so f halts cut fixed s of h =
      mapped_give Clean ChainSo (undone f halts cut) (back user fixed s) (back_so user fixed s h) (λ t k. undone_by f halts cut t of k)

  after_so : (fixed : List Call) (cut : Bool) (rest : Bool → Course → Meaning Chained) → RestSo rest → (x : Stepped) → StepSo x
      → AllGive ChainSo (after_step user fixed cut rest x)
  after_so fixed cut rest goes (goes_on s) h = goes cut s h
  after_so fixed cut rest goes (cuts s) h = goes true s h
  after_so fixed cut rest goes (succeeds s) h = (h, tt)
  after_so fixed cut rest goes (fails s f halts) h = undone_so f halts cut fixed s h.1 h.0

  chain_so : (scope : Scope) (steps : List Step) (fixed : List Call) → RestSo (chain caller user scope steps fixed)
  chain_so scope [] fixed cut s h = (h, tt)
  chain_so scope (step ∷ steps) fixed cut s h = by_short (chain_so scope steps) (is_short c && all_short own)
    where
      own : List Call
      own = fixed_recovery scope s.grid step.recovery

      c : Call
      c = computed scope s.grid step.call

      vs : List Value
      vs = map (value scope s.grid) step.call.args

      all : List Call
      all = fixed ++ own

      rest : Bool → Course → Meaning Chained
      rest = chain caller user scope steps all

      later : Clean (counted s)
      later = record { on = h.on; marks = h.marks }

      by_short : ((fixed : List Call) → RestSo (chain caller user scope steps fixed)) → (b : Bool) → AllGive ChainSo (elim b [
        | false ↦ mapped (undone LongText false cut) (back user fixed (counted s))
        | true ↦ behind all (begin_step caller user vs c (counted s)) >>= after_step user all cut rest
      ])
      by_short goes false = undone_so LongText false cut fixed (counted s) tt later
      by_short goes true =
          next_gives StepSo ChainSo (after_step user all cut rest) (behind all (begin_step caller user vs c (counted s)))
          (behind_give StepSo all (begin_step caller user vs c (counted s)) (begin_so vs c (counted s) later)) (after_so all cut rest (goes all))

-- ---- the rules of a name

try_so : (caller : Caller) → CallsSo caller → (env : Env) (args : List Text) (rules : List Rule) (last : Outcome) (s : Course) → OutcomeByRows last → Clean s
    → AllGive NamedSo (try_rules caller env args rules last s)
try_so caller calls env args [] last s of h = (h, of)
try_so caller calls env args (r ∷ rules) last s of h = by_cond (try_so caller calls env args rules) (holds (scope_of env args r) s.grid r.cond)
  where
    next : Outcome → Course → Meaning Named
    next = try_rules caller env args rules

    Goes : Type 0
    Goes = (o : Outcome) (t : Course) → OutcomeByRows o → Clean t → AllGive NamedSo (next o t)

    by_end : Goes → (t : Course) (o : Outcome) (cut : Bool) → OutcomeByRows o → Clean t
        → AllGive NamedSo (after_chain next (record { state = t; outcome = o; cut = cut }))
    by_end goes t ended_well cut k clean = (clean, tt)
    by_end goes t (failed f) true k clean = (clean, k)
    by_end goes t (failed f) false k clean = goes (failed f) t k clean
    by_end goes t (halted f) cut k clean = (clean, k)
    by_end goes t none_applied cut k clean = goes none_applied t tt clean

    steps : Meaning Chained
    steps = chain caller env.user (scope_of env args r) r.steps [] false s

    by_cond : Goes → (b : Bool) → AllGive NamedSo (elim b [ true ↦ steps >>= after_chain next | false ↦ next last s ])
    by_cond goes true =
        next_gives (ChainSo caller calls env.user) NamedSo (after_chain next) steps
        (chain_so caller calls env.user (scope_of env args r) r.steps [] false s h) (λ e k. by_end goes e.state e.outcome e.cut k.1 k.0)
    by_cond goes false = goes last s of h

-- a call of rules, which may go so much deeper
pub within_so : (d : ℕ) (rules : List Rule) (env : Env) → CallsSo (call_within d rules env)
within_so zero rules env name args s h = (h, tt)
within_so (suc d) rules env name args s h =
    try_so (call_within d rules env) (within_so d rules env) env args (rules_named rules name) none_applied s tt h

pub names_end_by_rows : NamesEndByRows
names_end_by_rows rules env name args s n clean on e =
    (subst (AllGive NamedSo) e (within_so deepest rules env name args s (record { on = on; marks = clean }))).1

-- ---- a call by itself

of_step_so : (x : Stepped) → StepSo x → NamedSo (named_of_step x)
of_step_so (goes_on s) h = (h, tt)
of_step_so (cuts s) h = (h, tt)
of_step_so (succeeds s) h = (h, tt)
of_step_so (fails s f true) h = h
of_step_so (fails s f false) h = h

pub calls_end_by_rows : CallsEndByRows
calls_end_by_rows rules env c vs s n clean on e =
    (subst (AllGive NamedSo) e
    (mapped_give StepSo NamedSo named_of_step (begin_step (call_rule rules env) env.user vs c (counted s))
    (begin_so (call_rule rules env) (within_so deepest rules env) env.user vs c (counted s) (record { on = on; marks = clean })) of_step_so)).1
