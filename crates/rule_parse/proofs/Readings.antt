-- Rules and calls are read just as they are spelled, and all that is begun can be ended.
use Rattle.std.proofs.Common.{◌≡◌, List, [], ◌∷◌, ◌++◌, Option, Some, None, refl, ap, ◌∙◌}
use Rattle.std.specs.Prelude.{codes}
use Rattle.grid_model.specs.Parsed.{Term, CallAt, RuleAt}
use Rattle.rule_lex.specs.Tokens.{param, symbol}
use Rattle.rule_lex.specs.declared.token.Symbol.TheVariants as sign
use Rattle.rule_parse.specs.declared.drafts.RuleStage.{RuleStage}
use Rattle.rule_parse.specs.declared.drafts.RuleStage.TheVariants.{Start, Named, FirstParam, Param, BehindParam, Head, Opened, On, Condition, BehindCondition, Steps, Call, BehindSteps}
use Rattle.rule_parse.specs.Grammar.{Tokens, SpellsCall, SpellsRules, placed_rule}
use Rattle.rule_parse.specs.Readers.{behind_operand, disjoined, step_with, new_reader, next_term, read_term, Calling, new_call, read_call, whole_call, Draft, new_draft, in_condition, with_rule, Progress, progress, new_progress, read, finish}
use Rattle.rule_parse.proofs.Machines.{run, run_cons, run_then, run_keeps, run_within, one_value, LeadsOn, Gives, IsReader}
use Rattle.rule_parse.proofs.SpelledTerms.{ends_on}
use Rattle.rule_parse.proofs.Calls.{CallHolds, call_keeps, call_spelled, call_reads, call_ends, goes_on}
use Rattle.rule_parse.proofs.ReadRules.{all_read, within, call_within, semicolon}
use Rattle.rule_parse.proofs.SpelledRules.{Reached, reached_none, reached_next, finished}

-- ---- a call by itself

call_gives : (ts : Tokens) (c : CallAt) → SpellsCall ts c → Gives read_call whole_call new_call ts c
call_gives ts c h =
    let w = call_reads h in
    record { last = w.last; runs = ap (run read_call new_call) w.split ∙ w.runs; ends = w.whole }

call_is : (ts : Tokens) (c : CallAt) → Gives read_call whole_call new_call ts c → SpellsCall ts c
call_is ts c g = call_spelled ts g.last c (run_keeps read_call CallHolds (λ front s x t h e. call_keeps front s x t h e) [] new_call ts g.last refl g.runs) g.ends

call_leads : (ts : Tokens) (c : Calling) → run read_call new_call ts ≡ Some c → LeadsOn read_call whole_call c
call_leads ts c h = let w = call_ends c in record { more = w.more; last = w.last; value = w.value; runs = w.runs; ends = w.whole }

pub calls_are_read : IsReader read_call whole_call new_call SpellsCall
calls_are_read = record { sound = call_is; complete = call_gives; leads = call_leads }

-- ---- rules

lead : (s t : Progress) (ts : Tokens) → run read s ts ≡ Some t → LeadsOn read finish t → LeadsOn read finish s
lead s t ts h w = record { more = ts ++ w.more; last = w.last; value = w.value; runs = run_then read s ts w.more t (Some w.last) h w.runs; ends = w.ends }

abbrev at : RuleStage → List RuleAt → Draft → Progress
at s done d = progress done (record d { stage = s })

from_start : (done : List RuleAt) (d : Draft) → LeadsOn read finish (at Start done d)
from_start done d = record { more = []; last = at Start done d; value = done; runs = refl; ends = refl }

from_behind_steps : (done : List RuleAt) (d : Draft) → LeadsOn read finish (at BehindSteps done d)
from_behind_steps done d = lead _ (progress (done ++ placed_rule d.place d.name d.params d.cond d.steps ∷ []) new_draft) ((0, symbol sign.CloseBrace) ∷ []) refl (from_start _ new_draft)

from_steps_with : (done : List RuleAt) (d : Draft) (o : Option Term) → LeadsOn read finish (at Steps done (record d { cond = o }))
from_steps_with done d None = lead _ (progress (done ++ placed_rule d.place d.name d.params None d.steps ∷ []) new_draft) ((0, symbol sign.CloseBrace) ∷ []) refl (from_start _ new_draft)
from_steps_with done d (Some e) = lead _ (at BehindSteps done (record d { cond = Some e })) ((0, symbol sign.CloseBrace) ∷ []) refl (from_behind_steps done (record d { cond = Some e }))

from_steps : (done : List RuleAt) (d : Draft) → LeadsOn read finish (at Steps done d)
from_steps done d = from_steps_with done d d.cond

from_call : (done : List RuleAt) (d : Draft) → LeadsOn read finish (at Call done d)
from_call done d =
    let w = call_ends d.calling in
    lead _ (within done d w.last) w.more (call_within done d d.calling w.more w.last w.runs)
    (lead _ _ ((0, symbol sign.Semicolon) ∷ []) (run_cons read (within done d w.last) (0, symbol sign.Semicolon) [] _ _ (semicolon done d w.last 0 w.value w.whole) refl) (from_steps done (record d { steps = d.steps ++ step_with d.first w.value ∷ []; first = None; calling = new_call })))

from_behind_condition : (done : List RuleAt) (d : Draft) → LeadsOn read finish (at BehindCondition done d)
from_behind_condition done d = lead _ (at Steps done d) ((0, symbol sign.OpenBrace) ∷ []) refl (from_steps done d)

from_condition : (done : List RuleAt) (d : Draft) → LeadsOn read finish (at Condition done d)
from_condition done d =
    let w = ends_on d.reader in
    lead _ (at Condition done (record d { reader = behind_operand [] w.inner w.count w.operand })) w.more
    (run_within next_term read (λ r. at Condition done (record d { reader = r })) (λ r x t k. ap (λ z. with_rule done (in_condition (record d { stage = Condition; reader = r }) z)) (goes_on (read_term r x) t k)) d.reader w.more (behind_operand [] w.inner w.count w.operand) w.runs)
    (lead _ _ ((0, symbol sign.CloseParenthesis) ∷ []) refl (from_behind_condition done (record d { cond = Some (disjoined w.inner w.operand); reader = new_reader })))

from_opened : (done : List RuleAt) (d : Draft) → LeadsOn read finish (at Opened done d)
from_opened done d = lead _ (progress (done ++ placed_rule d.place d.name d.params d.cond d.steps ∷ []) new_draft) ((0, symbol sign.CloseBrace) ∷ []) refl (from_start _ new_draft)

from_head : (done : List RuleAt) (d : Draft) → LeadsOn read finish (at Head done d)
from_head done d = lead _ (at Opened done d) ((0, symbol sign.OpenBrace) ∷ []) refl (from_opened done d)

from_stage : (s : RuleStage) (done : List RuleAt) (d : Draft) → LeadsOn read finish (at s done d)
from_stage Start done d = from_start done d
from_stage Named done d = lead _ (at Head done d) ((0, symbol sign.OpenParenthesis) ∷ (0, symbol sign.CloseParenthesis) ∷ []) refl (from_head done d)
from_stage FirstParam done d = lead _ (at Head done d) ((0, symbol sign.CloseParenthesis) ∷ []) refl (from_head done d)
from_stage Param done d =
    lead _ (at Head done (record d { params = d.params ++ codes "a" ∷ [] })) ((0, param (codes "a")) ∷ (0, symbol sign.CloseParenthesis) ∷ []) refl (from_head done (record d { params = d.params ++ codes "a" ∷ [] }))
from_stage BehindParam done d = lead _ (at Head done d) ((0, symbol sign.CloseParenthesis) ∷ []) refl (from_head done d)
from_stage Head done d = from_head done d
from_stage Opened done d = from_opened done d
from_stage On done d = lead _ (at Condition done (record d { reader = new_reader })) ((0, symbol sign.OpenParenthesis) ∷ []) refl (from_condition done (record d { reader = new_reader }))
from_stage Condition done d = from_condition done d
from_stage BehindCondition done d = from_behind_condition done d
from_stage Steps done d = from_steps done d
from_stage Call done d = from_call done d
from_stage BehindSteps done d = from_behind_steps done d

rules_give : (ts : Tokens) (rs : List RuleAt) → SpellsRules ts rs → Gives read finish new_progress ts rs
rules_give ts rs h = record { last = progress rs new_draft; runs = all_read h; ends = refl }

rules_are : (ts : Tokens) (rs : List RuleAt) → Gives read finish new_progress ts rs → SpellsRules ts rs
rules_are ts rs g = finished ts g.last rs (run_keeps read Reached reached_next [] new_progress ts g.last reached_none g.runs) g.ends

rules_lead : (ts : Tokens) (p : Progress) → run read new_progress ts ≡ Some p → LeadsOn read finish p
rules_lead ts p h = from_stage p.draft.stage p.rules p.draft

pub rules_are_read : IsReader read finish new_progress SpellsRules
rules_are_read = record { sound = rules_are; complete = rules_give; leads = rules_lead }

-- ---- one value

pub one_call : (ts : Tokens) (a b : CallAt) → SpellsCall ts a → SpellsCall ts b → a ≡ b
one_call ts a b h g = one_value read_call whole_call new_call SpellsCall calls_are_read ts a b h g

pub one_list_of_rules : (ts : Tokens) (a b : List RuleAt) → SpellsRules ts a → SpellsRules ts b → a ≡ b
one_list_of_rules ts a b h g = one_value read finish new_progress SpellsRules rules_are_read ts a b h g
