-- What is read of rules is spelled so.
use Rattle.std.proofs.Common.{◌≡◌, ℕ, List, [], ◌∷◌, ◌++◌, Option, Some, None, refl, sym, ap, subst, ◌∙◌}
use Rattle.std.proofs.lemmas.List.{append_assoc, append-nil}
use Rattle.grid_model.specs.Names.{Text}
use Rattle.grid_model.specs.Parsed.{Term, CallAt, StepAt, RuleAt}
use Rattle.rule_lex.specs.Tokens.{RuleToken, named, param, symbol}
use Rattle.rule_lex.specs.declared.token.Symbol.TheVariants as sign
use Rattle.rule_parse.specs.declared.calling.CallStage.TheVariants as call
use Rattle.rule_parse.specs.declared.drafts.RuleStage.{RuleStage}
use Rattle.rule_parse.specs.declared.drafts.RuleStage.TheVariants.{Start, Named, FirstParam, Param, BehindParam, Head, Opened, On, Condition, BehindCondition, Steps, Call, BehindSteps}
use Rattle.rule_parse.specs.Grammar.{Tokens, SpellsArgument, SpellsCall, SpellsStep, without_recovery, with_recovery, SpellsSteps, no_steps, steps, SpellsParams, no_params, last_param, params, SpellsBody, always, on_condition, SpellsRule, a_rule, SpellsRules, no_rules, rules, placed_rule}
use Rattle.rule_parse.specs.Readers.{new_reader, TermRead, at_comma, at_close, as_next, read_term, Calling, calling, new_call, read_call, whole_call, Draft, new_draft, RuleRead, ends, step_with, end_step, end_steps, begin_recovery, in_call, in_condition, with_rule, read_rule, read_rule_at, Progress, new_progress as beginning, read, finish_at, finish}
use Rattle.rule_parse.proofs.Machines.{some_is, not_some}
use Rattle.rule_parse.proofs.SpelledTerms.{Holds, nothing_holds, term_keeps, term_closes}
use Rattle.rule_parse.proofs.Calls.{CallHolds, call_keeps, call_spelled}

-- ---- lists that grow at their end

rules_more : {ts us : Tokens} {rs : List RuleAt} {r : RuleAt} → SpellsRules ts rs → SpellsRule us r → SpellsRules (ts ++ us) (rs ++ r ∷ [])
rules_more {us = us} no_rules h = rules h no_rules (sym (append-nil us))
rules_more {us = us} (rules {ts = ts} {us = vs} g more split) h = rules g (rules_more more h) (ap (λ l. l ++ us) split ∙ append_assoc ts vs us)

steps_more : {ts us : Tokens} {ss : List StepAt} {s : StepAt} → SpellsSteps ts ss → SpellsStep us s → SpellsSteps (ts ++ us) (ss ++ s ∷ [])
steps_more {us = us} no_steps h = steps h no_steps (sym (append-nil us))
steps_more {us = us} (steps {ts = ts} {us = vs} g more split) h = steps g (steps_more more h) (ap (λ l. l ++ us) split ∙ append_assoc ts vs us)

-- parameters with a comma behind each
pub data ParamsBefore : Tokens → List Text → Type 0 where
  none_before : ParamsBefore [] []
  one_before : {all front : Tokens} {ns : List Text} (p q : ℕ) (n : Text) → ParamsBefore front ns → all ≡ front ++ (p, param n) ∷ (q, symbol sign.Comma) ∷ [] → ParamsBefore all (ns ++ n ∷ [])

with_before : {front ts : Tokens} {ns ms : List Text} {m : Text} → ParamsBefore front ns → SpellsParams ts (m ∷ ms) → SpellsParams (front ++ ts) (ns ++ m ∷ ms)
with_before none_before g = g
with_before {ts = ts} {ms = ms} {m = m} (one_before {all = all} {front = front} {ns = ns} p q n h split) g =
    subst (λ l. SpellsParams (all ++ ts) l) (sym (append_assoc ns (n ∷ []) (m ∷ ms)))
    (subst (λ l. SpellsParams l (ns ++ n ∷ m ∷ ms)) (sym (ap (λ l. l ++ ts) split ∙ append_assoc front ((p, param n) ∷ (q, symbol sign.Comma) ∷ []) ts)) (with_before h (params p q n g)))

-- ---- what is read of a rule

-- it has no condition yet, and no steps
pub record IsBare (c : Option Term) (ss : List StepAt) (f : Option CallAt) : Type 0 where
  pub cond_none : c ≡ None
  pub steps_none : ss ≡ []
  pub first_none : f ≡ None

pub record BehindName (ts : Tokens) (d : Draft) : Type 0 where
  pub params_none : d.params ≡ []
  pub bare : IsBare d.cond d.steps d.first
  pub split : ts ≡ (d.place, named d.name) ∷ []

pub record BeforeFirst (ts : Tokens) (d : Draft) : Type 0 where
  pub start : ℕ
  pub params_none : d.params ≡ []
  pub bare : IsBare d.cond d.steps d.first
  pub split : ts ≡ (d.place, named d.name) ∷ (start, symbol sign.OpenParenthesis) ∷ []

pub record BeforeParam (ts : Tokens) (d : Draft) : Type 0 where
  pub start : ℕ
  pub front : Tokens
  pub before : ParamsBefore front d.params
  pub bare : IsBare d.cond d.steps d.first
  pub split : ts ≡ (d.place, named d.name) ∷ (start, symbol sign.OpenParenthesis) ∷ front

pub record AtParam (ts : Tokens) (d : Draft) : Type 0 where
  pub start : ℕ
  pub front : Tokens
  pub names : List Text
  pub place : ℕ
  pub name : Text
  pub before : ParamsBefore front names
  pub params_are : d.params ≡ names ++ name ∷ []
  pub bare : IsBare d.cond d.steps d.first
  pub split : ts ≡ (d.place, named d.name) ∷ (start, symbol sign.OpenParenthesis) ∷ (front ++ (place, param name) ∷ [])

-- up to the parenthesis behind the parameters
pub record HasHead (ts : Tokens) (p : ℕ) (n : Text) (ps : List Text) : Type 0 where
  pub start : ℕ
  pub close : ℕ
  pub us : Tokens
  pub spells : SpellsParams us ps
  pub split : ts ≡ (p, named n) ∷ (start, symbol sign.OpenParenthesis) ∷ (us ++ (close, symbol sign.CloseParenthesis) ∷ [])

-- up to the brace behind it
pub record IsOpen (ts : Tokens) (p : ℕ) (n : Text) (ps : List Text) : Type 0 where
  pub front : Tokens
  pub begin : ℕ
  pub head : HasHead front p n ps
  pub split : ts ≡ front ++ (begin, symbol sign.OpenBrace) ∷ []

pub record AtOn (ts : Tokens) (d : Draft) : Type 0 where
  pub front : Tokens
  pub on : ℕ
  pub opened : IsOpen front d.place d.name d.params
  pub bare : IsBare d.cond d.steps d.first
  pub split : ts ≡ front ++ (on, symbol sign.On) ∷ []

pub record InCondition (ts : Tokens) (d : Draft) : Type 0 where
  pub front : Tokens
  pub on : ℕ
  pub start : ℕ
  pub now : Tokens
  pub opened : IsOpen front d.place d.name d.params
  pub bare : IsBare d.cond d.steps d.first
  pub holds : Holds now d.reader
  pub split : ts ≡ front ++ ((on, symbol sign.On) ∷ (start, symbol sign.OpenParenthesis) ∷ now)

pub record AtCondition (ts : Tokens) (d : Draft) : Type 0 where
  pub front : Tokens
  pub on : ℕ
  pub start : ℕ
  pub close : ℕ
  pub us : Tokens
  pub e : Term
  pub opened : IsOpen front d.place d.name d.params
  pub spells : SpellsArgument us e
  pub cond_is : d.cond ≡ Some e
  pub steps_none : d.steps ≡ []
  pub first_none : d.first ≡ None
  pub split : ts ≡ front ++ ((on, symbol sign.On) ∷ (start, symbol sign.OpenParenthesis) ∷ (us ++ (close, symbol sign.CloseParenthesis) ∷ []))

-- what stands before the steps
pub data BeforeSteps (ts : Tokens) (p : ℕ) (n : Text) (ps : List Text) (c : Option Term) : Type 0 where
  no_condition : IsOpen ts p n ps → c ≡ None → BeforeSteps ts p n ps c
  condition : (front : Tokens) (on start close begin : ℕ) (us : Tokens) (e : Term) → IsOpen front p n ps → SpellsArgument us e → c ≡ Some e
      → ts ≡ front ++ ((on, symbol sign.On) ∷ (start, symbol sign.OpenParenthesis) ∷ (us ++ (close, symbol sign.CloseParenthesis) ∷ (begin, symbol sign.OpenBrace) ∷ [])) → BeforeSteps ts p n ps c

pub record InSteps (ts : Tokens) (d : Draft) : Type 0 where
  pub front : Tokens
  pub us : Tokens
  pub before : BeforeSteps front d.place d.name d.params d.cond
  pub spells : SpellsSteps us d.steps
  pub first_none : d.first ≡ None
  pub split : ts ≡ front ++ us

-- what is read of a step: a call, or a call and what is read of its recovery
pub data InStep (ts : Tokens) (c : Calling) : Option CallAt → Type 0 where
  of_call : CallHolds ts c → InStep ts c None
  of_recovery : {f : CallAt} (fs us : Tokens) (between : ℕ) → SpellsCall fs f → CallHolds us c → ts ≡ fs ++ (between, symbol sign.Recovery) ∷ us → InStep ts c (Some f)

pub record InCall (ts : Tokens) (d : Draft) : Type 0 where
  pub front : Tokens
  pub us : Tokens
  pub vs : Tokens
  pub before : BeforeSteps front d.place d.name d.params d.cond
  pub spells : SpellsSteps us d.steps
  pub step : InStep vs d.calling d.first
  pub split : ts ≡ (front ++ us) ++ vs

pub record AtSteps (ts : Tokens) (d : Draft) : Type 0 where
  pub front : Tokens
  pub us : Tokens
  pub end : ℕ
  pub e : Term
  pub cond_is : d.cond ≡ Some e
  pub before : BeforeSteps front d.place d.name d.params d.cond
  pub spells : SpellsSteps us d.steps
  pub split : ts ≡ (front ++ us) ++ (end, symbol sign.CloseBrace) ∷ []

pub record AtStart (ts : Tokens) (d : Draft) : Type 0 where
  pub params_none : d.params ≡ []
  pub bare : IsBare d.cond d.steps d.first
  pub split : ts ≡ []

pub record AtHead (ts : Tokens) (d : Draft) : Type 0 where
  pub head : HasHead ts d.place d.name d.params
  pub bare : IsBare d.cond d.steps d.first

pub record AtOpened (ts : Tokens) (d : Draft) : Type 0 where
  pub opened : IsOpen ts d.place d.name d.params
  pub bare : IsBare d.cond d.steps d.first

abbrev pub RuleHoldsAt : RuleStage → Tokens → Draft → Type 0
RuleHoldsAt Start ts d = AtStart ts d
RuleHoldsAt Named ts d = BehindName ts d
RuleHoldsAt FirstParam ts d = BeforeFirst ts d
RuleHoldsAt Param ts d = BeforeParam ts d
RuleHoldsAt BehindParam ts d = AtParam ts d
RuleHoldsAt Head ts d = AtHead ts d
RuleHoldsAt Opened ts d = AtOpened ts d
RuleHoldsAt On ts d = AtOn ts d
RuleHoldsAt Condition ts d = InCondition ts d
RuleHoldsAt BehindCondition ts d = AtCondition ts d
RuleHoldsAt Steps ts d = InSteps ts d
RuleHoldsAt Call ts d = InCall ts d
RuleHoldsAt BehindSteps ts d = AtSteps ts d

abbrev pub RuleHolds : Tokens → Draft → Type 0
RuleHolds ts d = RuleHoldsAt d.stage ts d

-- what is read of a rule, or the rule
abbrev After : Tokens → RuleRead → Type 0
After ts RuleRead.refused = Unit {0}
After ts (RuleRead.goes d) = RuleHolds ts d
After ts (ends r) = SpellsRule ts r

-- ---- its end

rule_spelled : {us : Tokens} {e : Option Term} {ss : List StepAt} (ts front : Tokens) (d : Draft) (end : ℕ) → IsOpen front d.place d.name d.params → SpellsBody us e ss → ts ≡ front ++ us → SpellsRule (ts ++ (end, symbol sign.CloseBrace) ∷ []) (placed_rule d.place d.name d.params e ss)
rule_spelled {us = us} ts front d end o b split =
    a_rule d.place o.head.start o.head.close o.begin end d.name o.head.spells b
    (ap (λ l. l ++ (end, symbol sign.CloseBrace) ∷ []) (split ∙ ap (λ l. l ++ us) (o.split ∙ ap (λ l. l ++ (o.begin, symbol sign.OpenBrace) ∷ []) o.head.split))
    ∙ regroup (d.place, named d.name) (o.head.start, symbol sign.OpenParenthesis) (o.head.close, symbol sign.CloseParenthesis) (o.begin, symbol sign.OpenBrace) (end, symbol sign.CloseBrace) o.head.us us)
  where
    regroup : (a b c d f : ℕ × RuleToken) (ts us : Tokens) → (((a ∷ b ∷ (ts ++ c ∷ [])) ++ d ∷ []) ++ us) ++ f ∷ [] ≡ ((a ∷ b ∷ ts) ++ (c ∷ d ∷ us)) ++ f ∷ []
    regroup a b c d f ts us = simp append_assoc

some_none : {A : Type 0} {x : A} {o : Option A} → o ≡ None → o ≡ Some x → ⊥
some_none h g = not_some (sym h ∙ g)

-- steps without a condition
always_spelled : (ts front us : Tokens) (d : Draft) (end : ℕ) → BeforeSteps front d.place d.name d.params d.cond → d.cond ≡ None → SpellsSteps us d.steps → ts ≡ front ++ us → SpellsRule (ts ++ (end, symbol sign.CloseBrace) ∷ []) (placed_rule d.place d.name d.params d.cond d.steps)
always_spelled ts front us d end (no_condition o is) none spells split =
    subst (λ c. SpellsRule (ts ++ (end, symbol sign.CloseBrace) ∷ []) (placed_rule d.place d.name d.params c d.steps)) (sym is) (rule_spelled ts front d end o (always spells) split)
always_spelled ts front us d end (condition f on start close begin vs e o a is s) none spells split = absurd (some_none none is)

-- steps with a condition, and the brace behind them
conditioned_spelled : (ts front us : Tokens) (d : Draft) (e : Term) (last end : ℕ) → BeforeSteps front d.place d.name d.params d.cond → d.cond ≡ Some e → SpellsSteps us d.steps → ts ≡ (front ++ us) ++ (last, symbol sign.CloseBrace) ∷ []
    → SpellsRule (ts ++ (end, symbol sign.CloseBrace) ∷ []) (placed_rule d.place d.name d.params d.cond d.steps)
conditioned_spelled ts front us d e last end (no_condition o is) some spells split = absurd (some_none is some)
conditioned_spelled ts front us d e last end (condition f on start close begin vs x o a is s) some spells split =
    subst (λ c. SpellsRule (ts ++ (end, symbol sign.CloseBrace) ∷ []) (placed_rule d.place d.name d.params c d.steps)) (sym is)
    (rule_spelled ts f d end o (on_condition on start close begin last a spells refl)
    (split ∙ ap (λ l. (l ++ us) ++ (last, symbol sign.CloseBrace) ∷ []) s ∙ regroup (on, symbol sign.On) (start, symbol sign.OpenParenthesis) (close, symbol sign.CloseParenthesis) (begin, symbol sign.OpenBrace) (last, symbol sign.CloseBrace) f vs us))
  where
    regroup : (a b c d g : ℕ × RuleToken) (f vs us : Tokens) → ((f ++ (a ∷ b ∷ (vs ++ c ∷ d ∷ []))) ++ us) ++ g ∷ [] ≡ f ++ (((a ∷ b ∷ vs) ++ (c ∷ d ∷ us)) ++ g ∷ [])
    regroup a b c d g f vs us = simp append_assoc

end_steps_keep : (o : Option Term) (ts : Tokens) (d : Draft) (q : ℕ) → d.cond ≡ o → InSteps ts d → After (ts ++ (q, symbol sign.CloseBrace) ∷ []) (end_steps o d)
end_steps_keep None ts d q is h = always_spelled ts h.front h.us d q h.before is h.spells h.split
end_steps_keep (Some e) ts d q is h = record { front = h.front; us = h.us; end = q; e = e; cond_is = is; before = h.before; spells = h.spells; split = ap (λ l. l ++ (q, symbol sign.CloseBrace) ∷ []) h.split }

-- ---- each token

snoc : (front ts us : Tokens) (t : ℕ × RuleToken) → ts ≡ front ++ us → ts ++ t ∷ [] ≡ front ++ (us ++ t ∷ [])
snoc front ts us t h = ap (λ l. l ++ t ∷ []) h ∙ append_assoc front us (t ∷ [])

snoc_behind : (front ts us vs : Tokens) (t : ℕ × RuleToken) → ts ≡ (front ++ us) ++ vs → ts ++ t ∷ [] ≡ (front ++ us) ++ (vs ++ t ∷ [])
snoc_behind front ts us vs t h = ap (λ l. l ++ t ∷ []) h ∙ append_assoc (front ++ us) vs (t ∷ [])

no_steps_of : {us : Tokens} {ss : List StepAt} → ss ≡ [] → us ≡ [] → SpellsSteps us ss
no_steps_of {us = us} {ss = ss} h g = subst (λ l. SpellsSteps us l) (sym h) (subst (λ l. SpellsSteps l []) (sym g) no_steps)

no_call : {f : Option CallAt} {ts : Tokens} {c : Calling} → f ≡ None → CallHolds ts c → InStep ts c f
no_call {ts = ts} {c = c} h g = subst (InStep ts c) (sym h) (of_call g)

-- a rule that ends without steps
empty_spelled : (ts : Tokens) (d : Draft) (q : ℕ) → AtOpened ts d → SpellsRule (ts ++ (q, symbol sign.CloseBrace) ∷ []) (placed_rule d.place d.name d.params d.cond d.steps)
empty_spelled ts d q h =
    always_spelled ts ts [] d q (no_condition h.opened h.bare.cond_none) h.bare.cond_none (no_steps_of h.bare.steps_none refl) (sym (append-nil ts))

first_call : (ts : Tokens) (d : Draft) (q : ℕ) (n : Text) → BeforeSteps ts d.place d.name d.params d.cond → d.steps ≡ [] → d.first ≡ None → RuleHolds (ts ++ (q, named n) ∷ []) (record d { stage = Call; calling = calling call.Named q n [] new_reader })
first_call ts d q n before none free = record {
  front = ts;
  us = [];
  vs = (q, named n) ∷ [];
  before = before;
  spells = no_steps_of none refl;
  step = no_call free (refl, refl, refl);
  split = ap (λ l. l ++ (q, named n) ∷ []) (sym (append-nil ts));
}

next_call : (ts : Tokens) (d : Draft) (q : ℕ) (n : Text) → InSteps ts d → RuleHolds (ts ++ (q, named n) ∷ []) (record d { stage = Call; calling = calling call.Named q n [] new_reader })
next_call ts d q n h = record {
  front = h.front;
  us = h.us;
  vs = (q, named n) ∷ [];
  before = h.before;
  spells = h.spells;
  step = no_call h.first_none (refl, refl, refl);
  split = ap (λ l. l ++ (q, named n) ∷ []) h.split;
}

condition_keeps : (ts : Tokens) (d : Draft) (q : ℕ) (t : RuleToken) (k : TermRead) → InCondition ts d → read_term d.reader (q, t) ≡ k → d.stage ≡ Condition → After (ts ++ (q, t) ∷ []) (in_condition d k)
condition_keeps ts d q t TermRead.refused h is at = tt
condition_keeps ts d q t (at_comma e) h is at = tt
condition_keeps ts d q t (TermRead.goes r) h is at = subst (λ s. RuleHoldsAt s (ts ++ (q, t) ∷ []) (record d { reader = r })) (sym at) (record {
  front = h.front;
  on = h.on;
  start = h.start;
  now = h.now ++ (q, t) ∷ [];
  opened = h.opened;
  bare = h.bare;
  holds = term_keeps h.now d.reader (q, t) r h.holds (ap as_next is);
  split = snoc h.front ts ((h.on, symbol sign.On) ∷ (h.start, symbol sign.OpenParenthesis) ∷ h.now) (q, t) h.split;
})
condition_keeps ts d q t (at_close e) h is at =
    let w = term_closes h.now d.reader q t e h.holds is in
    record {
      front = h.front;
      on = h.on;
      start = h.start;
      close = q;
      us = h.now;
      e = e;
      opened = h.opened;
      spells = w.spells;
      cond_is = refl;
      steps_none = h.bare.steps_none;
      first_none = h.bare.first_none;
      split = snoc h.front ts ((h.on, symbol sign.On) ∷ (h.start, symbol sign.OpenParenthesis) ∷ h.now) (q, t) h.split ∙ ap (λ s. h.front ++ ((h.on, symbol sign.On) ∷ (h.start, symbol sign.OpenParenthesis) ∷ (h.now ++ (q, s) ∷ []))) w.closes;
    }

step_spelled : {ts : Tokens} {c : Calling} {f : Option CallAt} {v : CallAt} (q : ℕ) → InStep ts c f → whole_call c ≡ Some v → SpellsStep (ts ++ (q, symbol sign.Semicolon) ∷ []) (step_with f v)
step_spelled {ts = ts} {c = c} {v = v} q (of_call h) is = without_recovery q (call_spelled ts c v h is) refl
step_spelled {ts = ts} {c = c} {v = v} q (of_recovery fs us between g h split) is = with_recovery between q g (call_spelled us c v h is) (ap (λ l. l ++ (q, symbol sign.Semicolon) ∷ []) split)

semicolon_keeps : (ts : Tokens) (d : Draft) (q : ℕ) (o : Option CallAt) → InCall ts d → whole_call d.calling ≡ o → After (ts ++ (q, symbol sign.Semicolon) ∷ []) (end_step d o)
semicolon_keeps ts d q None h is = tt
semicolon_keeps ts d q (Some v) h is = record {
  front = h.front;
  us = h.us ++ (h.vs ++ (q, symbol sign.Semicolon) ∷ []);
  before = h.before;
  spells = steps_more h.spells (step_spelled q h.step is);
  first_none = refl;
  split = snoc_behind h.front ts h.us h.vs (q, symbol sign.Semicolon) h.split ∙ append_assoc h.front h.us (h.vs ++ (q, symbol sign.Semicolon) ∷ []);
}

recovery_begins : {vs : Tokens} {c : Calling} {f : Option CallAt} {v : CallAt} (q : ℕ) → InStep vs c f → f ≡ None → whole_call c ≡ Some v → InStep (vs ++ (q, symbol sign.Recovery) ∷ []) new_call (Some v)
recovery_begins {vs = vs} {c = c} {v = v} q (of_call h) none is = of_recovery vs [] q (call_spelled vs c v h is) refl refl
recovery_begins q (of_recovery fs us between g h split) none is = absurd (not_some (sym none))

recovery_keeps : (ts : Tokens) (d : Draft) (q : ℕ) (f : Option CallAt) (o : Option CallAt) → InCall ts d → d.first ≡ f → whole_call d.calling ≡ o → d.stage ≡ Call → After (ts ++ (q, symbol sign.Recovery) ∷ []) (begin_recovery d f o)
recovery_keeps ts d q None (Some v) h none is at = subst (λ s. RuleHoldsAt s (ts ++ (q, symbol sign.Recovery) ∷ []) (record d { first = Some v; calling = new_call })) (sym at) (record {
  front = h.front;
  us = h.us;
  vs = h.vs ++ (q, symbol sign.Recovery) ∷ [];
  before = h.before;
  spells = h.spells;
  step = recovery_begins q h.step none is;
  split = snoc_behind h.front ts h.us h.vs (q, symbol sign.Recovery) h.split;
})
recovery_keeps ts d q None None h none is at = tt
recovery_keeps ts d q (Some v) _ h none is at = tt

step_grows : {vs : Tokens} {c e : Calling} {f : Option CallAt} (q : ℕ) (t : RuleToken) → InStep vs c f → read_call c (q, t) ≡ Some e → InStep (vs ++ (q, t) ∷ []) e f
step_grows {vs = vs} {c = c} {e = e} q t (of_call h) is = of_call (call_keeps vs c (q, t) e h is)
step_grows {vs = vs} {c = c} {e = e} q t (of_recovery fs us between g h split) is =
    of_recovery fs (us ++ (q, t) ∷ []) between g (call_keeps us c (q, t) e h is) (snoc fs vs ((between, symbol sign.Recovery) ∷ us) (q, t) split)

token_keeps : (ts : Tokens) (d : Draft) (q : ℕ) (t : RuleToken) (o : Option Calling) → InCall ts d → read_call d.calling (q, t) ≡ o → d.stage ≡ Call → After (ts ++ (q, t) ∷ []) (in_call d o)
token_keeps ts d q t None h is at = tt
token_keeps ts d q t (Some c) h is at = subst (λ s. RuleHoldsAt s (ts ++ (q, t) ∷ []) (record d { calling = c })) (sym at) (record {
  front = h.front;
  us = h.us;
  vs = h.vs ++ (q, t) ∷ [];
  before = h.before;
  spells = h.spells;
  step = step_grows q t h.step is;
  split = snoc_behind h.front ts h.us h.vs (q, t) h.split;
})

rule_keeps_at : (s : RuleStage) (ts : Tokens) (d : Draft) (q : ℕ) (t : RuleToken) → d.stage ≡ s → RuleHoldsAt s ts d → After (ts ++ (q, t) ∷ []) (read_rule_at s d q t)
rule_keeps_at Start ts d q (named n) at h = record { params_none = h.params_none; bare = h.bare; split = ap (λ l. l ++ (q, named n) ∷ []) h.split }
rule_keeps_at Named ts d q (symbol sign.OpenParenthesis) at h = record { start = q; params_none = h.params_none; bare = h.bare; split = ap (λ l. l ++ (q, symbol sign.OpenParenthesis) ∷ []) h.split }
rule_keeps_at FirstParam ts d q (param n) at h = record {
  start = h.start;
  front = [];
  names = [];
  place = q;
  name = n;
  before = none_before;
  params_are = ap (λ l. l ++ n ∷ []) h.params_none;
  bare = h.bare;
  split = ap (λ l. l ++ (q, param n) ∷ []) h.split;
}
rule_keeps_at FirstParam ts d q (symbol sign.CloseParenthesis) at h = record {
  head = record { start = h.start; close = q; us = []; spells = subst (λ l. SpellsParams [] l) (sym h.params_none) no_params; split = ap (λ l. l ++ (q, symbol sign.CloseParenthesis) ∷ []) h.split };
  bare = h.bare;
}
rule_keeps_at Param ts d q (param n) at h = record {
  start = h.start;
  front = h.front;
  names = d.params;
  place = q;
  name = n;
  before = h.before;
  params_are = refl;
  bare = h.bare;
  split = ap (λ l. l ++ (q, param n) ∷ []) h.split;
}
rule_keeps_at BehindParam ts d q (symbol sign.Comma) at h = record {
  start = h.start;
  front = h.front ++ (h.place, param h.name) ∷ (q, symbol sign.Comma) ∷ [];
  before = subst (ParamsBefore (h.front ++ (h.place, param h.name) ∷ (q, symbol sign.Comma) ∷ [])) (sym h.params_are) (one_before h.place q h.name h.before refl);
  bare = h.bare;
  split = ap (λ l. l ++ (q, symbol sign.Comma) ∷ []) h.split ∙ ap (λ l. (d.place, named d.name) ∷ (h.start, symbol sign.OpenParenthesis) ∷ l) (append_assoc h.front ((h.place, param h.name) ∷ []) ((q, symbol sign.Comma) ∷ []));
}
rule_keeps_at BehindParam ts d q (symbol sign.CloseParenthesis) at h = record {
  head = record {
    start = h.start;
    close = q;
    us = h.front ++ (h.place, param h.name) ∷ [];
    spells = subst (SpellsParams (h.front ++ (h.place, param h.name) ∷ [])) (sym h.params_are) (with_before h.before (last_param h.place h.name));
    split = ap (λ l. l ++ (q, symbol sign.CloseParenthesis) ∷ []) h.split;
  };
  bare = h.bare;
}
rule_keeps_at Head ts d q (symbol sign.OpenBrace) at h = record { opened = record { front = ts; begin = q; head = h.head; split = refl }; bare = h.bare }
rule_keeps_at Opened ts d q (named n) at h = first_call ts d q n (no_condition h.opened h.bare.cond_none) h.bare.steps_none h.bare.first_none
rule_keeps_at Opened ts d q (symbol sign.On) at h = record { front = ts; on = q; opened = h.opened; bare = h.bare; split = refl }
rule_keeps_at Opened ts d q (symbol sign.CloseBrace) at h = empty_spelled ts d q h
rule_keeps_at On ts d q (symbol sign.OpenParenthesis) at h = record {
  front = h.front;
  on = h.on;
  start = q;
  now = [];
  opened = h.opened;
  bare = h.bare;
  holds = nothing_holds;
  split = snoc h.front ts ((h.on, symbol sign.On) ∷ []) (q, symbol sign.OpenParenthesis) h.split;
}
rule_keeps_at Condition ts d q t at h = condition_keeps ts d q t _ h refl at
rule_keeps_at BehindCondition ts d q (symbol sign.OpenBrace) at h = record {
  front = ts ++ (q, symbol sign.OpenBrace) ∷ [];
  us = [];
  before = condition h.front h.on h.start h.close q h.us h.e h.opened h.spells h.cond_is
      (snoc h.front ts ((h.on, symbol sign.On) ∷ (h.start, symbol sign.OpenParenthesis) ∷ (h.us ++ (h.close, symbol sign.CloseParenthesis) ∷ [])) (q, symbol sign.OpenBrace) h.split
      ∙ ap (λ l. h.front ++ ((h.on, symbol sign.On) ∷ (h.start, symbol sign.OpenParenthesis) ∷ l)) (append_assoc h.us ((h.close, symbol sign.CloseParenthesis) ∷ []) ((q, symbol sign.OpenBrace) ∷ [])));
  spells = no_steps_of h.steps_none refl;
  first_none = h.first_none;
  split = sym (append-nil (ts ++ (q, symbol sign.OpenBrace) ∷ []));
}
rule_keeps_at Steps ts d q (named n) at h = next_call ts d q n h
rule_keeps_at Steps ts d q (symbol sign.CloseBrace) at h = end_steps_keep d.cond ts d q refl h
rule_keeps_at Call ts d q (symbol sign.Semicolon) at h = semicolon_keeps ts d q _ h refl
rule_keeps_at Call ts d q (symbol sign.Recovery) at h = recovery_keeps ts d q _ _ h refl refl at
rule_keeps_at Call ts d q t at h = token_keeps ts d q t _ h refl at
rule_keeps_at BehindSteps ts d q (symbol sign.CloseBrace) at h = conditioned_spelled ts h.front h.us d h.e h.end q h.before h.cond_is h.spells h.split
rule_keeps_at _ ts d q _ at h = tt

-- ---- rules

pub record Reached (ts : Tokens) (p : Progress) : Type 0 where
  pub front : Tokens
  pub now : Tokens
  pub spells : SpellsRules front p.rules
  pub holds : RuleHolds now p.draft
  pub split : ts ≡ front ++ now

fresh : RuleHolds [] new_draft
fresh = record { params_none = refl; bare = record { cond_none = refl; steps_none = refl; first_none = refl }; split = refl }

reached_after : (ts : Tokens) (p : Progress) (t : ℕ × RuleToken) (k : RuleRead) (s : Progress) → (h : Reached ts p) → After (h.now ++ t ∷ []) k → with_rule p.rules k ≡ Some s → Reached (ts ++ t ∷ []) s
reached_after ts p t RuleRead.refused s h a e = absurd (not_some e)
reached_after ts p t (RuleRead.goes d) s h a e = subst (Reached (ts ++ t ∷ [])) (some_is e) (record { front = h.front; now = h.now ++ t ∷ []; spells = h.spells; holds = a; split = snoc h.front ts h.now t h.split })
reached_after ts p t (ends r) s h a e = subst (Reached (ts ++ t ∷ [])) (some_is e) (record {
  front = h.front ++ (h.now ++ t ∷ []);
  now = [];
  spells = rules_more h.spells a;
  holds = fresh;
  split = snoc h.front ts h.now t h.split ∙ sym (append-nil (h.front ++ (h.now ++ t ∷ [])));
})

pub reached_next : (ts : Tokens) (p : Progress) (t : ℕ × RuleToken) (s : Progress) → Reached ts p → read p t ≡ Some s → Reached (ts ++ t ∷ []) s
reached_next ts p t s h e = reached_after ts p t (read_rule p.draft t) s h (rule_keeps_at p.draft.stage h.now p.draft t.0 t.1 refl h.holds) e

pub reached_none : Reached [] beginning
reached_none = record { front = []; now = []; spells = no_rules; holds = fresh; split = refl }

finished_at : (s : RuleStage) (ts front now : Tokens) (d : Draft) (rs qs : List RuleAt) → SpellsRules front rs → RuleHoldsAt s now d → ts ≡ front ++ now → finish_at s rs ≡ Some qs → SpellsRules ts qs
finished_at Start ts front now d rs qs spells h split e =
    subst (SpellsRules ts) (some_is e) (subst (λ l. SpellsRules l rs) (sym (split ∙ ap (λ l. front ++ l) h.split ∙ append-nil front)) spells)
finished_at _ ts front now d rs qs spells h split e = absurd (not_some e)

-- the rules are at their end
pub finished : (ts : Tokens) (p : Progress) (rs : List RuleAt) → Reached ts p → finish p ≡ Some rs → SpellsRules ts rs
finished ts p rs h e = finished_at p.draft.stage ts h.front h.now p.draft p.rules rs h.spells h.holds h.split e
