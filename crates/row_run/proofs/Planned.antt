-- What a plan of a verb's operation does as a call of a command.
use Rattle.std.proofs.Common.{◌≡◌, ℕ, List, [], Option, Result, Ok, Err, refl, sym, ap, ◌∙◌, subst, arith, eqb-true, inl, inr}
use Rattle.std.specs.Prelude.{⊤, IfOk, true, ◌==◌, length, ◌∷◌}
use Rattle.grid_outside.specs.Disk.{DiskState}
use Rattle.grid_model.specs.Names.{Text}
use Rattle.grid_model.specs.Grid.{Grid}
use Rattle.grid_model.specs.Rows.{Cat}
use Rattle.grid_model.specs.RowGrids.{grid_of, user_name}
use Rattle.grid_model.specs.Refusing.{Or}
use Rattle.grid_model.specs.Deeds.{Act}
use Rattle.grid_model.specs.Operations.Table.{Operation, row}
use Rattle.grid_model.specs.Meanings.{gives}
use Rattle.grid_model.specs.Doing.{Course, did_fail, do_act, do_operation}
use Rattle.grid_model.specs.declared.calls.Call.{Call}
use Rattle.grid_model.specs.declared.deltas.Delta.{Delta}
use Rattle.grid_model.specs.declared.deltas.Numbers.{Numbers}
use Rattle.grid_model.specs.declared.plans.PlanError.{PlanError}
use Rattle.grid_model.specs.declared.refusal.Refusal.{Refusal}
use Rattle.grid_model.specs.declared.refusal.Failure.{Failure}
use Rattle.grid_model.specs.declared.refusal.Failure.TheVariants.{Refused}
use Rattle.grid_model.specs.declared.requests.Verb.{Verb}
use Rattle.grid_model.specs.declared.requests.Verb.TheVariants as verb
use Rattle.grid_journal.specs.Journal.{Journal}
use Rattle.grid_deed.specs.Held.{IsHeld, IsStaged}
use Rattle.plan_base.specs.Plans.{Changes, PlansChange}
use Rattle.service_run.specs.declared.ending.Ending.{Ending}
use Rattle.service_run.specs.Changes.{LeadOn, MakesGridOf}
use Rattle.row_run.specs.Planned.{PlansBy, PlansVerb}
use Rattle.row_run.specs.Verbs.{IsRowsVerb}

-- ---- plans

-- a plan of the verb is one of the operation that it does
pub plans_op : (c : Cat) (user : Text) (v : Verb) (planned : Result (List Delta) PlanError) (op : Operation) → PlansVerb c user v planned → IsRowsVerb v op → PlansChange c user op planned
plans_op c user (verb.AddMeta kind name attribute value unit) planned op plans its = let P : Operation → Type 0 = λ o. PlansChange c user o planned in subst P (sym its.2) (plans its.0 its.1)
plans_op c user (verb.RmMeta kind name attribute value unit) planned op plans its = let P : Operation → Type 0 = λ o. PlansChange c user o planned in subst P (sym its.2) (plans its.0 its.1)
plans_op c user other planned op plans is = let P : Option Operation → Type 0 = λ o. PlansBy c user o planned in subst P is plans

-- what was planned by rows that are the same, and came to this
pub planned_as : (c t : Cat) → t ≡ c → (user : ℕ) (v : Verb) (op : Operation) (planned one : Result (List Delta) PlanError) → planned ≡ one → PlansVerb t (user_name t user) v planned → IsRowsVerb v op
    → PlansChange c (user_name c user) op one
planned_as c t same user v op planned one is plans its =
    let C : Cat → Type 0 = λ x. PlansVerb x (user_name x user) v planned in
    let R : Result (List Delta) PlanError → Type 0 = λ r. PlansChange c (user_name c user) op r in
    subst R is (plans_op c (user_name c user) v planned op (subst C same plans) its)

-- changes that were planned lead on
pub leads_on : (c : Cat) (user : Text) (op : Operation) (deltas : List Delta) (p : Changes c user op deltas) → LeadOn c deltas p.after
leads_on c user op deltas p = record {
  applied = p.applied;
  spelled = p.spelled;
  turns = p.turns;
  keeps = record { rises = omega (arith, ap (λ (k : Numbers). k.next_vault) p.numbers); names = λ slot name row below named. p.names slot name row named };
  numbers = p.numbers;
  pending = p.pending;
  rules = p.rules;
  stores = p.stores;
}

-- ---- what is done

module _ (call : Call) (user : Text) (op : Operation) (c : Cat) where
  does_as : (a : Or Act) → row (grid_of c) user op ≡ a → (s : Course) → s.grid ≡ grid_of c → do_operation call user op s ≡ do_act call s a
  does_as a is s same = ap (λ (g : Grid). do_act call s (row g user op)) same ∙ ap (do_act call s) is

  -- it makes the grid that was planned
  pub makes_grid : (deltas : List Delta) (p : Changes c user op deltas) → MakesGridOf c p.after (do_operation call user op)
  makes_grid deltas p s same = does_as _ p.row_is s same

  -- it is refused
  pub refuses : (r : Refusal) → row (grid_of c) user op ≡ Err r → (s : Course) → s.grid ≡ grid_of c → do_operation call user op s ≡ gives (did_fail s (Refused r))
  refuses r is s same = does_as (Err r) is s same

-- what is refused makes no grid
pub refused_makes_none : (c : Cat) (user : Text) (op : Operation) (deltas : List Delta) (r : Refusal) → Changes c user op deltas → row (grid_of c) user op ≡ Err r → ⊥
refused_makes_none c user op deltas r p is = let e = sym p.row_is ∙ is in cc

-- ---- what is left

-- a list without items
pub empty_of : (deltas : List Delta) → (length deltas == 0) ≡ true → deltas ≡ []
empty_of [] is = refl
empty_of (d ∷ ds) is = let none : length (d ∷ ds) ≡ 0 = eqb-true (length (d ∷ ds)) 0 is in absurd (omega (arith, none))

-- no changes lead to the rows that were there
pub none_staged : (kept after : Cat) (main : DiskState) (rows : Journal) → IsHeld kept main rows → LeadOn rows.cat [] after → IsStaged kept after main rows
none_staged kept after main rows held led = record { held = held; cat = let e : Ok rows.cat ≡ Ok after = led.applied in cc }

-- Where the grid is as before nothing more is staged.
pub quiet_changes : (old new : Journal) (user : Text) (op : Operation) (deltas : List Delta) (p : Changes old.cat user op deltas) (result : Result (Result ⊤ Failure) Ending) → (deltas ≡ [] → new ≡ old)
    → IfOk result (λ ran. grid_of new.cat ≡ grid_of p.after) → IfOk result (λ ran. grid_of new.cat ≡ grid_of old.cat → new.staged ≡ old.staged)
quiet_changes old new user op deltas p (Err e) none left = tt
quiet_changes old new user op deltas p (Ok ran) none left = λ same. elim p.still [
  | inl empty ↦ ap (λ (j : Journal). j.staged) (none empty)
  | inr other ↦ absurd (other (sym left ∙ same))
]
