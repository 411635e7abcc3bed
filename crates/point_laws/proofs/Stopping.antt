-- Rules fail as stopped only where a stop was taken.
use Rattle.std.proofs.Common.{◌≡◌, inl, inr, ℕ, zero, suc, Bool, true, false, List, [], ◌∷◌, ◌++◌, length, Option, Some, None, refl, ap}
use Rattle.std.specs.Prelude.{Ok, Err, ◌&&◌, map}
use Rattle.grid_model.specs.Names.{Text}
use Rattle.grid_model.specs.RuleText.{Rule, Step}
use Rattle.grid_model.specs.Bounds.{deepest}
use Rattle.grid_model.specs.Refusing.{Or}
use Rattle.grid_model.specs.Meanings.{Meaning, gives, ◌>>=◌, behind, mapped}
use Rattle.grid_model.specs.Deeds.{Act, Deed, changes, deed, by_mark, fits}
use Rattle.grid_model.specs.Operations.Table.{row}
use Rattle.grid_model.specs.Services.{Service, nothing, operation, no_path, service}
use Rattle.grid_model.specs.Values.{Env, Scope, Value, value, holds, computed, is_short}
use Rattle.grid_model.specs.Doing.{Course, Did, with_result, where_mark_fits, taking, take_mark, do_act, do_service, do_call}
use Rattle.grid_model.specs.Doing.{after_undoing, back, undo, undo_within}
use Rattle.grid_model.specs.Chains.{Named, Outcome, Caller, Stepped, Chained, Doing, goes_on, cuts, succeeds, fails, ended_well, failed, halted, none_applied}
use Rattle.grid_model.specs.Chains.{from_did, from_outcome, from_named, cutting, succeeding, failing, serving, naming, doing, do_as, do_step, has_budget}
use Rattle.grid_model.specs.Chains.{begin_step, counted, fixed_recovery, all_short, undone, after_step, chain, after_chain, scope_of, try_rules, rules_named}
use Rattle.grid_model.specs.Chains.{call_within, call_rule}
use Rattle.grid_model.specs.declared.calls.Call.{Call}
use Rattle.grid_model.specs.declared.marks.Mark.{Mark}
use Rattle.grid_model.specs.declared.marks.Mark.TheVariants.{Ran, Fault, Bad, Stop}
use Rattle.grid_model.specs.declared.refusal.Failure.{Failure}
use Rattle.grid_model.specs.declared.refusal.Failure.TheVariants.{Refused, Code, NoRule, Depth, Spent, LongText, Stopped}
use Rattle.chain_laws.proofs.Such.{GivesSuch, such_all, such_behind, such_given, such_mapped, such_next}
use Rattle.point_laws.specs.Names.{IsStoppedSo, NamesAreStopped}

-- ---- once stopped, always stopped

abbrev IsOn : Course → Type 0
IsOn s = s.stopped ≡ true

abbrev DidOn : Did → Type 0
DidOn d = IsOn d.state

fits_on : (b : Bool) (d : Did) → DidOn d → GivesSuch DidOn (where_mark_fits b d)
fits_on true d h = h
fits_on false d h = tt

take_on : (c : Call) (s : Course) (d : Deed) (ms : List Mark) → IsOn s → GivesSuch DidOn (take_mark c s d ms)
take_on c s d [] on = tt
take_on c s d (Ran word now bad ∷ rest) on =
    fits_on (fits d (Ran word now bad)) (with_result (taking s (Ran word now bad) rest) (by_mark d (Ran word now bad))) on
take_on c s d (Fault slot sent ∷ rest) on =
    fits_on (fits d (Fault slot sent)) (with_result (taking s (Fault slot sent) rest) (by_mark d (Fault slot sent))) on
take_on c s d (Bad slot len found sent ∷ rest) on =
    fits_on (fits d (Bad slot len found sent)) (with_result (taking s (Bad slot len found sent) rest) (by_mark d (Bad slot len found sent))) on
take_on c s d (Stop ∷ rest) on = fits_on (fits d Stop) (with_result (taking s Stop rest) (by_mark d Stop)) refl

act_on : (c : Call) (s : Course) (a : Or Act) → IsOn s → GivesSuch DidOn (do_act c s a)
act_on c s (Err r) on = on
act_on c s (Ok (changes g)) on = on
act_on c s (Ok (deed d)) on = take_on c s d s.marks on

service_on : (c : Call) (user : Text) (x : Option Service) (s : Course) → IsOn s → GivesSuch DidOn (do_service c user x s)
service_on c user None s on = on
service_on c user (Some nothing) s on = on
service_on c user (Some (operation op)) s on = act_on c s (row s.grid user op) on
service_on c user (Some (no_path place)) s on = on

undo_on : (user : Text) (c : Call) (n : ℕ) (s : Course) → IsOn s → GivesSuch IsOn (undo_within n user c s)
undo_on user c zero s on = tt
undo_on user c (suc n) s on =
    such_next DidOn IsOn (λ did. after_undoing c (undo_within n user c) did.state did.failure) (behind (c ∷ []) (do_call user c s))
    (such_behind DidOn (c ∷ []) (do_call user c s) (service_on c user (service c) s on)) (λ did k. by (undo_on user c n) did.state did.failure k)
  where
    by : ((t : Course) → IsOn t → GivesSuch IsOn (undo_within n user c t)) → (t : Course) (f : Option Failure) → IsOn t
        → GivesSuch IsOn (after_undoing c (undo_within n user c) t f)
    by again t None k = k
    by again t (Some Stopped) k = again t k
    by again t (Some (Refused r)) k = k
    by again t (Some (Code z)) k = k
    by again t (Some NoRule) k = k
    by again t (Some Depth) k = k
    by again t (Some Spent) k = k
    by again t (Some LongText) k = k

back_on : (user : Text) (cs : List Call) (s : Course) → IsOn s → GivesSuch IsOn (back user cs s)
back_on user [] s on = on
back_on user (c ∷ cs) s on =
    such_next IsOn IsOn (λ later. undo user c later) (behind (c ∷ []) (back user cs s))
    (such_behind IsOn (c ∷ []) (back user cs s) (back_on user cs s on)) (λ t k. undo_on user c (suc (length t.marks)) t k)

-- ---- micro-services

-- one that failed as stopped took a stop
abbrev DidStops : Did → Type 0
DidStops d = d.failure ≡ Some Stopped → IsOn d.state

fits_stops : (b : Bool) (d : Did) → DidStops d → GivesSuch DidStops (where_mark_fits b d)
fits_stops true d h = h
fits_stops false d h = tt

take_stops : (c : Call) (s : Course) (d : Deed) (ms : List Mark) → GivesSuch DidStops (take_mark c s d ms)
take_stops c s d [] = tt
take_stops c s d (Ran word now bad ∷ rest) =
    fits_stops (fits d (Ran word now bad)) (with_result (taking s (Ran word now bad) rest) (by_mark d (Ran word now bad))) (λ is. absurd cc)
take_stops c s d (Fault slot sent ∷ rest) =
    fits_stops (fits d (Fault slot sent)) (with_result (taking s (Fault slot sent) rest) (by_mark d (Fault slot sent))) (λ is. absurd cc)
take_stops c s d (Bad slot len found sent ∷ rest) =
    fits_stops (fits d (Bad slot len found sent)) (with_result (taking s (Bad slot len found sent) rest) (by_mark d (Bad slot len found sent)))
    (λ is. absurd cc)
take_stops c s d (Stop ∷ rest) = fits_stops (fits d Stop) (with_result (taking s Stop rest) (by_mark d Stop)) (λ is. refl)

act_stops : (c : Call) (s : Course) (a : Or Act) → GivesSuch DidStops (do_act c s a)
act_stops c s (Err r) = λ is. absurd cc
act_stops c s (Ok (changes g)) = λ is. absurd cc
act_stops c s (Ok (deed d)) = take_stops c s d s.marks

service_stops : (c : Call) (user : Text) (x : Option Service) (s : Course) → GivesSuch DidStops (do_service c user x s)
service_stops c user None s = λ is. absurd cc
service_stops c user (Some nothing) s = λ is. absurd cc
service_stops c user (Some (operation op)) s = act_stops c s (row s.grid user op)
service_stops c user (Some (no_path place)) s = λ is. absurd cc

-- ---- steps

-- a step that failed as stopped took a stop
abbrev StepStops : Stepped → Type 0
StepStops (goes_on s) = Unit {0}
StepStops (cuts s) = Unit {0}
StepStops (succeeds s) = Unit {0}
StepStops (fails s f halts) = f ≡ Stopped → IsOn s

abbrev NamedStops : Named → Type 0
NamedStops n = IsStoppedSo n.outcome → IsOn n.state

abbrev CallsStop : Caller → Type 0
CallsStop caller = (name : Text) (args : List Text) (s : Course) → GivesSuch NamedStops (caller name args s)

did_stops : (s : Course) (f : Option Failure) → (f ≡ Some Stopped → IsOn s) → StepStops (from_did (record { state = s; failure = f }))
did_stops s None h = tt
did_stops s (Some f) h = λ is. h (ap Some is)

outcome_stops : (s : Course) (o : Outcome) → (IsStoppedSo o → IsOn s) → StepStops (from_outcome s o)
outcome_stops s ended_well h = tt
outcome_stops s (failed f) h = λ is. h (inr (ap failed is))
outcome_stops s (halted f) h = λ is. h (inl (ap halted is))
outcome_stops s none_applied h = λ is. absurd cc

as_stops : (caller : Caller) → CallsStop caller → (user : Text) (vs : List Value) (c : Call) (s : Course) (d : Doing)
    → GivesSuch StepStops (do_as d caller user vs c s)
as_stops caller cs user vs c s cutting = tt
as_stops caller cs user vs c s succeeding = tt
as_stops caller cs user vs c s failing = λ is. absurd cc
as_stops caller cs user vs c s (serving x) =
    such_mapped DidStops StepStops from_did (do_service c user (Some x) s) (service_stops c user (Some x) s) (λ did k. did_stops did.state did.failure k)
as_stops caller cs user vs c s naming =
    such_mapped NamedStops StepStops from_named (caller c.name c.args s) (cs c.name c.args s) (λ n k. outcome_stops n.state n.outcome k)

begin_stops : (caller : Caller) → CallsStop caller → (user : Text) (vs : List Value) (c : Call) (s : Course)
    → GivesSuch StepStops (begin_step caller user vs c s)
begin_stops caller cs user vs c s = by (has_budget s)
  where
    by : (b : Bool) → GivesSuch StepStops (elim b [ true ↦ do_step caller user vs c s | false ↦ gives (fails s Spent true) ])
    by true = as_stops caller cs user vs c s (doing c)
    by false = λ is. absurd cc

-- ---- chains

abbrev ChainStops : Chained → Type 0
ChainStops e = IsStoppedSo e.outcome → IsOn e.state

-- the failure with which it ends, where none was taken
by_failure : (f : Failure) (halts : Bool) → IsStoppedSo (elim halts [ true ↦ halted f | false ↦ failed f ]) → f ≡ Stopped
by_failure f true (inl is) = cc
by_failure f true (inr is) = absurd cc
by_failure f false (inl is) = absurd cc
by_failure f false (inr is) = cc

-- once its recoveries are done
undone_stops : (f : Failure) (halts cut : Bool) (t : Course) → (f ≡ Stopped → IsOn t) → ChainStops (undone f halts cut t)
undone_stops f halts cut t h = by t.stopped refl
  where
    by : (b : Bool) → t.stopped ≡ b → IsStoppedSo (elim b [ true ↦ halted Stopped | false ↦ elim halts [ true ↦ halted f | false ↦ failed f ] ]) → IsOn t
    by true is so = is
    by false is so = h (by_failure f halts so)

-- what is undone behind a step that failed
all_stops : (user : Text) (f : Failure) (halts cut : Bool) (fixed : List Call) (s : Course) → (f ≡ Stopped → IsOn s)
    → GivesSuch ChainStops (mapped (undone f halts cut) (back user fixed s))
all_stops user f halts cut fixed s h = by f h
  where
    other : (f : Failure) → (f ≡ Stopped → ⊥) → GivesSuch ChainStops (mapped (undone f halts cut) (back user fixed s))
    other f not = such_all ChainStops (undone f halts cut) (back user fixed s) (λ t. undone_stops f halts cut t (λ is. absurd (not is)))

    by : (f : Failure) → (f ≡ Stopped → IsOn s) → GivesSuch ChainStops (mapped (undone f halts cut) (back user fixed s))
    by Stopped h =
        such_mapped IsOn ChainStops (undone Stopped halts cut) (back user fixed s) (back_on user fixed s (h refl))
        (λ t k. undone_stops Stopped halts cut t (λ is. k))
    by (Refused r) h = other (Refused r) (λ is. cc)
    by (Code z) h = other (Code z) (λ is. cc)
    by NoRule h = other NoRule (λ is. cc)
    by Depth h = other Depth (λ is. cc)
    by Spent h = other Spent (λ is. cc)
    by LongText h = other LongText (λ is. cc)

-- what ended well says nothing of a stop
well_stops : (s : Course) → IsStoppedSo ended_well → IsOn s
well_stops s (inl is) = absurd cc
well_stops s (inr is) = absurd cc

module _ (caller : Caller) (cs : CallsStop caller) (user : Text) where
  abbrev GoesStop : (Bool → Course → Meaning Chained) → Type 0
  GoesStop rest = (cut : Bool) (s : Course) → GivesSuch ChainStops (rest cut s)

  after_stops : (fixed : List Call) (cut : Bool) (rest : Bool → Course → Meaning Chained) → GoesStop rest → (x : Stepped) → StepStops x
      → GivesSuch ChainStops (after_step user fixed cut rest x)
  after_stops fixed cut rest goes (goes_on s) h = goes cut s
  after_stops fixed cut rest goes (cuts s) h = goes true s
  after_stops fixed cut rest goes (succeeds s) h = well_stops s
  after_stops fixed cut rest goes (fails s f halts) h = all_stops user f halts cut fixed s h

  chain_stops : (scope : Scope) (steps : List Step) (fixed : List Call) → GoesStop (chain caller user scope steps fixed)
  chain_stops scope [] fixed cut s = well_stops s
  chain_stops scope (step ∷ steps) fixed cut s = by (chain_stops scope steps) (is_short c && all_short own)
    where
      own : List Call
      own = fixed_recovery scope s.grid step.recovery

      c : Call
      c = computed scope s.grid step.call

      vs : List Value
      vs = map (value scope s.grid) step.call.args

      later : Course
      later = counted s

      by : ((all : List Call) → GoesStop (chain caller user scope steps all)) → (b : Bool)
          → GivesSuch ChainStops (elim b [
            | false ↦ mapped (undone LongText false cut) (back user fixed later)
            | true ↦
                behind (fixed ++ own) (begin_step caller user vs c later)
                >>= after_step user (fixed ++ own) cut (chain caller user scope steps (fixed ++ own))
          ])
      by goes false = all_stops user LongText false cut fixed later (λ is. absurd cc)
      by goes true =
          such_next StepStops ChainStops (after_step user (fixed ++ own) cut (chain caller user scope steps (fixed ++ own)))
          (behind (fixed ++ own) (begin_step caller user vs c later))
          (such_behind StepStops (fixed ++ own) (begin_step caller user vs c later) (begin_stops caller cs user vs c later))
          (after_stops (fixed ++ own) cut (chain caller user scope steps (fixed ++ own)) (goes (fixed ++ own)))

-- ---- the rules of a name

try_stops : (caller : Caller) → CallsStop caller → (env : Env) (args : List Text) (rules : List Rule) (last : Outcome) (s : Course)
    → (IsStoppedSo last → IsOn s) → GivesSuch NamedStops (try_rules caller env args rules last s)
try_stops caller cs env args [] last s h = h
try_stops caller cs env args (r ∷ rules) last s h = by (try_stops caller cs env args rules) (holds (scope_of env args r) s.grid r.cond)
  where
    next : Outcome → Course → Meaning Named
    next = try_rules caller env args rules

    Goes : Type 0
    Goes = (o : Outcome) (t : Course) → (IsStoppedSo o → IsOn t) → GivesSuch NamedStops (next o t)

    by_end : Goes → (t : Course) (o : Outcome) (cut : Bool) → (IsStoppedSo o → IsOn t)
        → GivesSuch NamedStops (after_chain next (record { state = t; outcome = o; cut = cut }))
    by_end goes t ended_well cut k = k
    by_end goes t (failed f) true k = k
    by_end goes t (failed f) false k = goes (failed f) t k
    by_end goes t (halted f) cut k = k
    by_end goes t none_applied cut k = goes none_applied t k

    by : Goes → (b : Bool)
        → GivesSuch NamedStops (elim b [ true ↦ chain caller env.user (scope_of env args r) r.steps [] false s >>= after_chain next | false ↦ next last s ])
    by goes true =
        such_next ChainStops NamedStops (after_chain next) (chain caller env.user (scope_of env args r) r.steps [] false s)
        (chain_stops caller cs env.user (scope_of env args r) r.steps [] false s) (λ e k. by_end goes e.state e.outcome e.cut k)
    by goes false = goes last s h

-- what was not stopped says nothing of a stop
none_stops : IsStoppedSo none_applied → ⊥
none_stops (inl is) = absurd cc
none_stops (inr is) = absurd cc

depth_stops : IsStoppedSo (failed Depth) → ⊥
depth_stops (inl is) = absurd cc
depth_stops (inr is) = absurd cc

call_stops : (d : ℕ) (rs : List Rule) (env : Env) → CallsStop (call_within d rs env)
call_stops zero rs env name args s = λ is. absurd (depth_stops is)
call_stops (suc d) rs env name args s =
    try_stops (call_within d rs env) (call_stops d rs env) env args (rules_named rs name) none_applied s (λ is. absurd (none_stops is))

pub names_are_stopped : NamesAreStopped
names_are_stopped rules env name args s n is =
    such_given NamedStops (call_rule rules env name args s) n (call_stops deepest rules env name args s) is
