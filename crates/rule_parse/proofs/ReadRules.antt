-- What spells rules is read as them.
use Rattle.std.proofs.Common.{◌≡◌, ℕ, List, [], ◌∷◌, ◌++◌, Option, Some, None, refl, sym, ap, ◌∙◌}
use Rattle.std.proofs.lemmas.List.{append_assoc, append-nil}
use Rattle.grid_model.specs.Names.{Text}
use Rattle.grid_model.specs.Parsed.{Term, CallAt, StepAt, RuleAt}
use Rattle.rule_lex.specs.Tokens.{RuleToken, named, symbol}
use Rattle.rule_lex.specs.declared.token.Symbol.TheVariants as sign
use Rattle.rule_parse.specs.declared.calling.CallStage.{CallStage}
use Rattle.rule_parse.specs.declared.calling.CallStage.TheVariants as call
use Rattle.rule_parse.specs.declared.drafts.RuleStage.{RuleStage}
use Rattle.rule_parse.specs.declared.drafts.RuleStage.TheVariants.{FirstParam, Param, Head, Opened, Condition, BehindCondition, Steps, Call}
use Rattle.rule_parse.specs.Grammar.{Tokens, SpellsArgument, SpellsStep, without_recovery, with_recovery, SpellsSteps, no_steps, steps, SpellsParams, no_params, last_param, params, SpellsBody, always, on_condition, SpellsRule, a_rule, SpellsRules, no_rules, rules, placed_rule}
use Rattle.rule_parse.specs.Readers.{TermReader, new_reader, next_term, read_term, read_with, Calling, calling, new_call, read_call, read_call_at, whole_call, in_argument, Draft, new_draft, step_with, end_step, begin_recovery, in_call, in_condition, with_rule, Progress, progress, new_progress, read}
use Rattle.rule_parse.proofs.Machines.{not_some, run, run_cons, run_then, run_within}
use Rattle.rule_parse.proofs.Terms.{argument_reads}
use Rattle.rule_parse.proofs.Calls.{call_reads, reads_call, goes_on}

abbrev pub draft : RuleStage → ℕ → Text → List Text → Option Term → List StepAt → TermReader → Option CallAt → Calling → Draft
draft s p n ps e ss r f c = record { stage = s; place = p; name = n; params = ps; cond = e; steps = ss; reader = r; first = f; calling = c }

abbrev pub body : RuleStage → ℕ → Text → List Text → Option Term → List StepAt → Draft
body s p n ps e ss = draft s p n ps e ss new_reader None new_call

abbrev pub reads_rules : Progress → Tokens → Option Progress
reads_rules p ts = run read p ts

-- ---- parameters

params_read : {ts : Tokens} {m : Text} {ns : List Text} (done : List RuleAt) (p : ℕ) (n : Text) (ps : List Text) (q : ℕ) → SpellsParams ts (m ∷ ns)
    → reads_rules (progress done (body Param p n ps None [])) (ts ++ (q, symbol sign.CloseParenthesis) ∷ []) ≡ Some (progress done (body Head p n (ps ++ m ∷ ns) None []))
params_read done p n ps q (last_param place m) = refl
params_read done p n ps q (params {m = k} {ns = ns} place comma m h) =
    params_read done p n (ps ++ m ∷ []) q h ∙ ap (λ l. Some (progress done (body Head p n l None []))) (append_assoc ps (m ∷ []) (k ∷ ns))

first_params_read : {ts : Tokens} {ps : List Text} (done : List RuleAt) (p : ℕ) (n : Text) (q : ℕ) → SpellsParams ts ps
    → reads_rules (progress done (body FirstParam p n [] None [])) (ts ++ (q, symbol sign.CloseParenthesis) ∷ []) ≡ Some (progress done (body Head p n ps None []))
first_params_read done p n q no_params = refl
first_params_read done p n q (last_param place m) = refl
first_params_read done p n q (params place comma m h) = params_read done p n (m ∷ []) q h

-- ---- steps

no_semicolon_with : (r : TermReader) (o : Option Term) (q : ℕ) (p : ℕ) (n : Text) (es : List Term) → in_argument p n es (read_with r.outer r.inner r.count o q (symbol sign.Semicolon)) ≡ None
no_semicolon_with r None q p n es = refl
no_semicolon_with r (Some x) q p n es = refl

no_recovery_with : (r : TermReader) (o : Option Term) (q : ℕ) (p : ℕ) (n : Text) (es : List Term) → in_argument p n es (read_with r.outer r.inner r.count o q (symbol sign.Recovery)) ≡ None
no_recovery_with r None q p n es = refl
no_recovery_with r (Some x) q p n es = refl

no_semicolon : (s : CallStage) (c : Calling) (q : ℕ) → read_call_at s c q (symbol sign.Semicolon) ≡ None
no_semicolon call.Argument c q = no_semicolon_with c.reader c.reader.operand q c.place c.name c.args
no_semicolon call.Opened c q = no_semicolon_with c.reader c.reader.operand q c.place c.name c.args
no_semicolon call.Start c q = refl
no_semicolon call.Named c q = refl
no_semicolon call.Closed c q = refl

no_recovery : (s : CallStage) (c : Calling) (q : ℕ) → read_call_at s c q (symbol sign.Recovery) ≡ None
no_recovery call.Argument c q = no_recovery_with c.reader c.reader.operand q c.place c.name c.args
no_recovery call.Opened c q = no_recovery_with c.reader c.reader.operand q c.place c.name c.args
no_recovery call.Start c q = refl
no_recovery call.Named c q = refl
no_recovery call.Closed c q = refl

-- a rule in the middle of a call
abbrev pub within : List RuleAt → Draft → Calling → Progress
within done d c = progress done (record d { stage = Call; calling = c })

token_of_call : (done : List RuleAt) (d : Draft) (c : Calling) (q : ℕ) (t : RuleToken) (e : Calling) → read_call c (q, t) ≡ Some e → read (within done d c) (q, t) ≡ Some (within done d e)
token_of_call done d c q (symbol sign.Semicolon) e h = absurd (not_some (sym (no_semicolon c.stage c q) ∙ h))
token_of_call done d c q (symbol sign.Recovery) e h = absurd (not_some (sym (no_recovery c.stage c q) ∙ h))
token_of_call done d c q _ e h = ap (λ o. with_rule done (in_call (record d { stage = Call; calling = c }) o)) h

pub call_within : (done : List RuleAt) (d : Draft) (c : Calling) (ts : Tokens) (e : Calling) → reads_call c ts ≡ Some e → reads_rules (within done d c) ts ≡ Some (within done d e)
call_within done d c ts e h = run_within read_call read (within done d) (λ s x t k. token_of_call done d s x.0 x.1 t k) c ts e h

pub semicolon : (done : List RuleAt) (d : Draft) (c : Calling) (q : ℕ) (v : CallAt) → whole_call c ≡ Some v
    → read (within done d c) (q, symbol sign.Semicolon) ≡ Some (progress done (record d { stage = Steps; steps = d.steps ++ step_with d.first v ∷ []; first = None; calling = new_call }))
semicolon done d c q v h = ap (λ o. with_rule done (end_step (record d { stage = Call; calling = c }) o)) h

module _ (done : List RuleAt) (p : ℕ) (n : Text) (ps : List Text) (e : Option Term) where
  abbrev in_step : List StepAt → Option CallAt → Calling → Progress
  in_step ss f c = progress done (draft Call p n ps e ss new_reader f c)

  abbrev step_draft : List StepAt → Option CallAt → Draft
  step_draft ss f = draft Call p n ps e ss new_reader f new_call

  recovery : (ss : List StepAt) (c : Calling) (q : ℕ) (v : CallAt) → whole_call c ≡ Some v → read (in_step ss None c) (q, symbol sign.Recovery) ≡ Some (in_step ss (Some v) new_call)
  recovery ss c q v h = ap (λ o. with_rule done (begin_recovery (draft Call p n ps e ss new_reader None c) None o)) h

  -- a call and what ends it, behind what it is the recovery of
  call_read : (ss : List StepAt) (f : Option CallAt) (q : ℕ) (place : ℕ) (name : Text) (rest : Tokens) (last : Calling) (v : CallAt) → reads_call (calling call.Named place name [] new_reader) rest ≡ Some last → whole_call last ≡ Some v
      → reads_rules (in_step ss f (calling call.Named place name [] new_reader)) (rest ++ (q, symbol sign.Semicolon) ∷ []) ≡ Some (progress done (body Steps p n ps e (ss ++ step_with f v ∷ [])))
  call_read ss f q place name rest last v h whole =
      run_then read (in_step ss f (calling call.Named place name [] new_reader)) rest ((q, symbol sign.Semicolon) ∷ []) (in_step ss f last) _ (call_within done (step_draft ss f) (calling call.Named place name [] new_reader) rest last h)
      (run_cons read (in_step ss f last) (q, symbol sign.Semicolon) [] (progress done (body Steps p n ps e (ss ++ step_with f v ∷ []))) _ (semicolon done (step_draft ss f) last q v whole) refl)

  step_read : {ts : Tokens} {s : StepAt} (ss : List StepAt) → SpellsStep ts s → reads_rules (progress done (body Steps p n ps e ss)) ts ≡ Some (progress done (body Steps p n ps e (ss ++ s ∷ [])))
  step_read ss (without_recovery {ts = ts} end h split) =
      let w = call_reads h in
      ap (reads_rules (progress done (body Steps p n ps e ss))) (split ∙ ap (λ l. l ++ (end, symbol sign.Semicolon) ∷ []) w.split)
      ∙ call_read ss None end w.place w.name w.rest w.last _ w.runs w.whole
  step_read ss (with_recovery {ts = ts} {us = us} {c = c} {r = r} between end h g split) =
      let w = call_reads h in
      let v = call_reads g in
      ap (reads_rules (progress done (body Steps p n ps e ss))) (split ∙ append_assoc ts ((between, symbol sign.Recovery) ∷ us) ((end, symbol sign.Semicolon) ∷ []) ∙ ap (λ l. l ++ ((between, symbol sign.Recovery) ∷ us ++ (end, symbol sign.Semicolon) ∷ [])) w.split)
      ∙ run_then read (in_step ss None (calling call.Named w.place w.name [] new_reader)) w.rest ((between, symbol sign.Recovery) ∷ us ++ (end, symbol sign.Semicolon) ∷ []) (in_step ss None w.last) _ (call_within done (step_draft ss None) (calling call.Named w.place w.name [] new_reader) w.rest w.last w.runs)
      (run_cons read (in_step ss None w.last) (between, symbol sign.Recovery) (us ++ (end, symbol sign.Semicolon) ∷ []) (in_step ss (Some c) new_call) _ (recovery ss w.last between c w.whole)
      (ap (λ l. reads_rules (in_step ss (Some c) new_call) (l ++ (end, symbol sign.Semicolon) ∷ [])) v.split ∙ call_read ss (Some c) end v.place v.name v.rest v.last r v.runs v.whole))

  steps_read : {ts : Tokens} {more : List StepAt} (ss : List StepAt) → SpellsSteps ts more → reads_rules (progress done (body Steps p n ps e ss)) ts ≡ Some (progress done (body Steps p n ps e (ss ++ more)))
  steps_read ss no_steps = ap (λ l. Some (progress done (body Steps p n ps e l))) (sym (append-nil ss))
  steps_read ss (steps {ts = ts} {us = us} {s = s} {ss = more} h g split) =
      ap (reads_rules (progress done (body Steps p n ps e ss))) split
      ∙ run_then read (progress done (body Steps p n ps e ss)) ts us (progress done (body Steps p n ps e (ss ++ s ∷ []))) _ (step_read ss h)
      (steps_read (ss ++ s ∷ []) g ∙ ap (λ l. Some (progress done (body Steps p n ps e l))) (append_assoc ss (s ∷ []) more))

-- ---- a rule

-- a rule without a condition begins with its steps
opened_step : (done : List RuleAt) (p : ℕ) (n : Text) (ps : List Text) (q : ℕ) (t : RuleToken) (s : Progress) → read (progress done (body Steps p n ps None [])) (q, t) ≡ Some s → read (progress done (body Opened p n ps None [])) (q, t) ≡ Some s
opened_step done p n ps q (named m) s h = h
opened_step done p n ps q (symbol sign.CloseBrace) s h = h
opened_step done p n ps q _ s h = absurd (not_some h)

opened_read : (done : List RuleAt) (p : ℕ) (n : Text) (ps : List Text) (ts : Tokens) (last : ℕ × RuleToken) (s : Progress) → reads_rules (progress done (body Steps p n ps None [])) (ts ++ last ∷ []) ≡ Some s → reads_rules (progress done (body Opened p n ps None [])) (ts ++ last ∷ []) ≡ Some s
opened_read done p n ps ts last s h = by ts h
  where
    begun : (t : ℕ × RuleToken) (us : Tokens) → reads_rules (progress done (body Steps p n ps None [])) (t ∷ us) ≡ Some s → reads_rules (progress done (body Opened p n ps None [])) (t ∷ us) ≡ Some s
    begun t us h = on (read (progress done (body Steps p n ps None [])) t) refl h
      where
        on : (o : Option Progress) → read (progress done (body Steps p n ps None [])) t ≡ o → reads_rules (progress done (body Steps p n ps None [])) (t ∷ us) ≡ Some s → reads_rules (progress done (body Opened p n ps None [])) (t ∷ us) ≡ Some s
        on None k h = absurd (not_some (sym (ap (λ o. elim o as (λ x. Option Progress) [ None ↦ None | Some c ↦ reads_rules c us ]) k) ∙ h))
        on (Some c) k h = run_cons read (progress done (body Opened p n ps None [])) t us c _ (opened_step done p n ps t.0 t.1 c k) (sym (run_cons read (progress done (body Steps p n ps None [])) t us c _ k refl) ∙ h)

    by : (ts : Tokens) → reads_rules (progress done (body Steps p n ps None [])) (ts ++ last ∷ []) ≡ Some s → reads_rules (progress done (body Opened p n ps None [])) (ts ++ last ∷ []) ≡ Some s
    by [] h = begun last [] h
    by (t ∷ ts) h = begun t (ts ++ last ∷ []) h

abbrev pub in_condition_of : List RuleAt → ℕ → Text → List Text → TermReader → Progress
in_condition_of done p n ps r = progress done (draft Condition p n ps None [] r None new_call)

condition_read : {ts : Tokens} {e : Term} (done : List RuleAt) (p : ℕ) (n : Text) (ps : List Text) (close : ℕ) → SpellsArgument ts e → reads_rules (in_condition_of done p n ps new_reader) (ts ++ (close, symbol sign.CloseParenthesis) ∷ []) ≡ Some (progress done (body BehindCondition p n ps (Some e) []))
condition_read {ts = ts} {e = e} done p n ps close h =
    let w = argument_reads h in
    run_then read (in_condition_of done p n ps new_reader) ts ((close, symbol sign.CloseParenthesis) ∷ []) _ _
    (run_within next_term read (in_condition_of done p n ps) (λ r x t k. ap (λ z. with_rule done (in_condition (draft Condition p n ps None [] r None new_call) z)) (goes_on (read_term r x) t k)) new_reader ts _ w.runs)
    (ap (λ z. Some (progress done (body BehindCondition p n ps (Some z) []))) w.value)

-- the body and the brace behind it
body_read : {us : Tokens} {e : Option Term} {ss : List StepAt} (done : List RuleAt) (p : ℕ) (n : Text) (ps : List Text) (last : ℕ) → SpellsBody us e ss
    → reads_rules (progress done (body Opened p n ps None [])) (us ++ (last, symbol sign.CloseBrace) ∷ []) ≡ Some (progress (done ++ placed_rule p n ps e ss ∷ []) new_draft)
body_read done p n ps last (always {ts = ts} {ss = ss} h) =
    opened_read done p n ps ts (last, symbol sign.CloseBrace) _
    (run_then read (progress done (body Steps p n ps None [])) ts ((last, symbol sign.CloseBrace) ∷ []) (progress done (body Steps p n ps None ss)) _ (steps_read done p n ps None [] h) refl)
body_read done p n ps last (on_condition {all = all} {ts = ts} {us = us} {e = e} {ss = ss} on new_progress close begin end h g split) =
    ap (reads_rules (progress done (body Opened p n ps None []))) (ap (λ l. l ++ (last, symbol sign.CloseBrace) ∷ []) split ∙ regroup (on, symbol sign.On) (new_progress, symbol sign.OpenParenthesis) (close, symbol sign.CloseParenthesis) (begin, symbol sign.OpenBrace) (end, symbol sign.CloseBrace) (last, symbol sign.CloseBrace) ts us)
    ∙ run_then read (in_condition_of done p n ps new_reader) (ts ++ (close, symbol sign.CloseParenthesis) ∷ []) ((begin, symbol sign.OpenBrace) ∷ us ++ (end, symbol sign.CloseBrace) ∷ (last, symbol sign.CloseBrace) ∷ []) (progress done (body BehindCondition p n ps (Some e) [])) _ (condition_read done p n ps close h)
    (run_then read (progress done (body Steps p n ps (Some e) [])) us ((end, symbol sign.CloseBrace) ∷ (last, symbol sign.CloseBrace) ∷ []) (progress done (body Steps p n ps (Some e) ss)) _ (steps_read done p n ps (Some e) [] g) refl)
  where
    regroup : (a b c d f g : ℕ × RuleToken) (ts us : Tokens) → (((a ∷ b ∷ ts) ++ (c ∷ d ∷ us)) ++ f ∷ []) ++ g ∷ [] ≡ a ∷ b ∷ ((ts ++ c ∷ []) ++ (d ∷ us ++ f ∷ g ∷ []))
    regroup a b c d f g ts us = simp append_assoc

pub rule_read : {ts : Tokens} {r : RuleAt} (done : List RuleAt) → SpellsRule ts r → reads_rules (progress done new_draft) ts ≡ Some (progress (done ++ r ∷ []) new_draft)
rule_read done (a_rule {all = all} {ts = ts} {us = us} {ps = ps} place new_progress close begin end n h g split) =
    ap (reads_rules (progress done new_draft)) (split ∙ regroup (place, named n) (new_progress, symbol sign.OpenParenthesis) (close, symbol sign.CloseParenthesis) (begin, symbol sign.OpenBrace) (end, symbol sign.CloseBrace) ts us)
    ∙ run_then read (progress done (body FirstParam place n [] None [])) (ts ++ (close, symbol sign.CloseParenthesis) ∷ []) ((begin, symbol sign.OpenBrace) ∷ us ++ (end, symbol sign.CloseBrace) ∷ []) (progress done (body Head place n ps None [])) _ (first_params_read done place n close h)
    (body_read done place n ps end g)
  where
    regroup : (a b c d f : ℕ × RuleToken) (ts us : Tokens) → ((a ∷ b ∷ ts) ++ (c ∷ d ∷ us)) ++ f ∷ [] ≡ a ∷ b ∷ ((ts ++ c ∷ []) ++ (d ∷ us ++ f ∷ []))
    regroup a b c d f ts us = simp append_assoc

rules_read : {ts : Tokens} {rs : List RuleAt} (done : List RuleAt) → SpellsRules ts rs → reads_rules (progress done new_draft) ts ≡ Some (progress (done ++ rs) new_draft)
rules_read done no_rules = ap (λ l. Some (progress l new_draft)) (sym (append-nil done))
rules_read done (rules {ts = ts} {us = us} {r = r} {rs = rs} h g split) =
    ap (reads_rules (progress done new_draft)) split
    ∙ run_then read (progress done new_draft) ts us (progress (done ++ r ∷ []) new_draft) _ (rule_read done h) (rules_read (done ++ r ∷ []) g ∙ ap (λ l. Some (progress l new_draft)) (append_assoc done (r ∷ []) rs))

pub all_read : {ts : Tokens} {rs : List RuleAt} → SpellsRules ts rs → reads_rules new_progress ts ≡ Some (progress rs new_draft)
all_read h = rules_read [] h
