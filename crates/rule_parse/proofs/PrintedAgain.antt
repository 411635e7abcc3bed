-- The printed tokens of calls, steps and rules spell them again.
use Rattle.std.proofs.Common.{◌≡◌, ℕ, List, [], ◌∷◌, ◌++◌, Option, Some, None, map, refl, sym, ap, subst, ◌∙◌}
use Rattle.std.specs.Prelude.{flat_map, option_map}
use Rattle.std.proofs.lemmas.List.{append_assoc, append-nil, map-append}
use Rattle.grid_model.specs.Names.{Text}
use Rattle.grid_model.specs.RuleText as meaning
use Rattle.grid_model.specs.Parsed.{Term, CallAt, StepAt, RuleAt, plain, plain_call, plain_step, plain_rule}
use Rattle.rule_lex.specs.Tokens.{RuleToken, named, param, symbol}
use Rattle.rule_lex.specs.declared.token.Symbol.TheVariants as sign
use Rattle.rule_parse.specs.Grammar.{Tokens, SpellsArguments, last, more, SpellsCall, alone, of_none, of, placed_call, SpellsStep, without_recovery, with_recovery, placed_step, SpellsSteps, no_steps, steps, SpellsParams, no_params, last_param, params, SpellsBody, always, on_condition, SpellsRule, a_rule, placed_rule}
use Rattle.rule_parse.specs.Printed.{in_parentheses, in_braces, expr_tokens, with_commas, call_tokens, step_tokens, body_tokens, rule_tokens}
use Rattle.rule_parse.proofs.TokenLexing.{IsWritable, AllWritable}
use Rattle.rule_parse.proofs.PrintedTerms.{kinds, headed, parted, none_left, Printed, argument_printed, writable_append, writable_left, writable_right, writable_symbol, writable_enclosed, left_writable, right_writable}

-- ---- arguments

abbrev arg_tokens : List Term → List (List RuleToken)
arg_tokens es = map expr_tokens (map plain es)

abbrev SameTerms : List Term → List Term → Type 0
SameTerms es fs = map plain es ≡ map plain fs

some_arguments : {us : Tokens} {es : List Term} → SpellsArguments us es → arg_tokens es ≡ [] → ⊥
some_arguments (last h) e = cc
some_arguments (more p h g split) e = cc

commas : (ts : List RuleToken) (rest : List (List RuleToken)) → (rest ≡ [] → ⊥) → with_commas (ts ∷ rest) ≡ ts ++ symbol sign.Comma ∷ with_commas rest
commas ts [] some = absurd (some refl)
commas ts (us ∷ rest) some = refl

-- the tokens are all of these
all_left : (ts left : Tokens) (right : Tokens) → ts ≡ left ++ right → right ≡ [] → ts ≡ left
all_left ts left right split none = split ∙ ap (λ l. left ++ l) none ∙ append-nil left

arguments_printed : {us : Tokens} {es : List Term} → SpellsArguments us es → AllWritable (kinds us) → Printed SpellsArguments SameTerms (with_commas (arg_tokens es)) es
arguments_printed (last {e = e} h) w =
    let a = argument_printed h w in
    record {
      writable = writable_append (expr_tokens (plain e)) [] a.writable tt;
      again = λ ts k. let x = a.again ts (k ∙ append-nil (expr_tokens (plain e))) in (x.0 ∷ [], last x.1, ap (λ z. z ∷ []) x.2);
    }
arguments_printed (more {all = all} {ts = ts} {us = us} {e = e} {es = es} place h g split) w =
    let a = argument_printed h (left_writable all ts us _ split w) in
    let b = arguments_printed g (right_writable all ts us _ split w) in
    let same = commas (expr_tokens (plain e)) (arg_tokens es) (some_arguments g) in
    record {
      writable = subst AllWritable (sym same) (writable_append (expr_tokens (plain e)) (symbol sign.Comma ∷ with_commas (arg_tokens es)) a.writable (writable_symbol sign.Comma, b.writable));
      again = λ vs k.
          let p = parted vs (expr_tokens (plain e)) (symbol sign.Comma ∷ with_commas (arg_tokens es)) (k ∙ same) in
          let c = headed p.right (symbol sign.Comma) (with_commas (arg_tokens es)) p.right_are in
          let x = a.again p.left p.left_are in
          let y = b.again c.behind c.kinds_are in
          (x.0 ∷ y.0, more c.place x.1 y.1 (p.split ∙ ap (λ l. p.left ++ l) c.split), ap (λ z. z ∷ map plain y.0) x.2 ∙ ap (λ z. plain e ∷ z) y.2);
    }

-- ---- calls

abbrev SameCall : CallAt → CallAt → Type 0
SameCall c d = plain_call c ≡ plain_call d

abbrev text_of : Text → List meaning.Expr → meaning.CallText
text_of n es = record { name = n; args = es }

empty_call : (p : ℕ) (n : Text) → IsWritable (named n) → Printed SpellsCall SameCall (call_tokens (plain_call (placed_call p n []))) (placed_call p n [])
empty_call p n h = record {
  writable = (h, (writable_symbol sign.OpenParenthesis, (writable_symbol sign.CloseParenthesis, tt)));
  again = λ ts k.
      let a = headed ts (named n) (symbol sign.OpenParenthesis ∷ symbol sign.CloseParenthesis ∷ []) k in
      let b = headed a.behind (symbol sign.OpenParenthesis) (symbol sign.CloseParenthesis ∷ []) a.kinds_are in
      let c = headed b.behind (symbol sign.CloseParenthesis) [] b.kinds_are in
      let split : ts ≡ (a.place, named n) ∷ (b.place, symbol sign.OpenParenthesis) ∷ (c.place, symbol sign.CloseParenthesis) ∷ []
      = a.split ∙ ap (λ l. (a.place, named n) ∷ l) (b.split ∙ ap (λ l. (b.place, symbol sign.OpenParenthesis) ∷ l) (c.split ∙ ap (λ l. (c.place, symbol sign.CloseParenthesis) ∷ l) (none_left c.behind c.kinds_are))) in
      (placed_call a.place n [], subst (λ l. SpellsCall l (placed_call a.place n [])) (sym split) (of_none a.place b.place c.place n), refl);
}

call_printed : {us : Tokens} {c : CallAt} → SpellsCall us c → AllWritable (kinds us) → Printed SpellsCall SameCall (call_tokens (plain_call c)) c
call_printed (alone place n h) w = empty_call place n w.0
call_printed (of_none place start close n) w = empty_call place n w.0
call_printed (of {all = all} {ts = us} {es = es} place start close n h split) w =
    let u = left_writable all ((place, named n) ∷ (start, symbol sign.OpenParenthesis) ∷ us) [] (close, symbol sign.CloseParenthesis) split w in
    let a = arguments_printed h u.1.1 in
    record {
      writable = (u.0, writable_enclosed (with_commas (arg_tokens es)) a.writable);
      again = λ ts k.
          let x = headed ts (named n) (in_parentheses (with_commas (arg_tokens es))) k in
          let y = headed x.behind (symbol sign.OpenParenthesis) (with_commas (arg_tokens es) ++ symbol sign.CloseParenthesis ∷ []) x.kinds_are in
          let p = parted y.behind (with_commas (arg_tokens es)) (symbol sign.CloseParenthesis ∷ []) y.kinds_are in
          let z = headed p.right (symbol sign.CloseParenthesis) [] p.right_are in
          let b = a.again p.left p.left_are in (
            placed_call x.place n b.0,
            of x.place y.place z.place n b.1 (x.split ∙ ap (λ l. (x.place, named n) ∷ l) (y.split ∙ ap (λ l. (y.place, symbol sign.OpenParenthesis) ∷ l) (p.split ∙ ap (λ l. p.left ++ l) (z.split ∙ ap (λ l. (z.place, symbol sign.CloseParenthesis) ∷ l) (none_left z.behind z.kinds_are))))),
            ap (text_of n) b.2,
          );
    }

-- ---- steps

abbrev SameStep : StepAt → StepAt → Type 0
SameStep s t = plain_step s ≡ plain_step t

abbrev step_of : meaning.CallText → Option meaning.CallText → meaning.Step
step_of c r = record { call = c; recovery = r }

step_printed : {us : Tokens} {s : StepAt} → SpellsStep us s → AllWritable (kinds us) → Printed SpellsStep SameStep (step_tokens (plain_step s)) s
step_printed (without_recovery {all = all} {ts = us} {c = c} end h split) w =
    let a = call_printed h (left_writable all us [] _ split w) in
    let flat = ap (λ l. l ++ symbol sign.Semicolon ∷ []) (append-nil (call_tokens (plain_call c))) in
    record {
      writable = subst AllWritable (sym flat) (writable_append (call_tokens (plain_call c)) (symbol sign.Semicolon ∷ []) a.writable (writable_symbol sign.Semicolon, tt));
      again = λ ts k.
          let p = parted ts (call_tokens (plain_call c)) (symbol sign.Semicolon ∷ []) (k ∙ flat) in
          let z = headed p.right (symbol sign.Semicolon) [] p.right_are in
          let b = a.again p.left p.left_are in
          (placed_step b.0 None, without_recovery z.place b.1 (p.split ∙ ap (λ l. p.left ++ l) (z.split ∙ ap (λ l. (z.place, symbol sign.Semicolon) ∷ l) (none_left z.behind z.kinds_are))), ap (λ d. step_of d None) b.2);
    }
step_printed (with_recovery {all = all} {ts = us} {us = vs} {c = c} {r = r} between end h g split) w =
    let u = left_writable all (us ++ (between, symbol sign.Recovery) ∷ vs) [] _ split w in
    let a = call_printed h (left_writable (us ++ (between, symbol sign.Recovery) ∷ vs) us vs _ refl u) in
    let b = call_printed g (right_writable (us ++ (between, symbol sign.Recovery) ∷ vs) us vs _ refl u) in
    record {
      writable = writable_append (call_tokens (plain_call c) ++ symbol sign.Recovery ∷ call_tokens (plain_call r)) (symbol sign.Semicolon ∷ [])
          (writable_append (call_tokens (plain_call c)) (symbol sign.Recovery ∷ call_tokens (plain_call r)) a.writable (writable_symbol sign.Recovery, b.writable)) (writable_symbol sign.Semicolon, tt);
      again = λ ts k.
          let p = parted ts (call_tokens (plain_call c) ++ symbol sign.Recovery ∷ call_tokens (plain_call r)) (symbol sign.Semicolon ∷ []) k in
          let z = headed p.right (symbol sign.Semicolon) [] p.right_are in
          let q = parted p.left (call_tokens (plain_call c)) (symbol sign.Recovery ∷ call_tokens (plain_call r)) p.left_are in
          let m = headed q.right (symbol sign.Recovery) (call_tokens (plain_call r)) q.right_are in
          let x = a.again q.left q.left_are in
          let y = b.again m.behind m.kinds_are in (
            placed_step x.0 (Some y.0),
            with_recovery m.place z.place x.1 y.1 (p.split ∙ ap (λ l. l ++ p.right) (q.split ∙ ap (λ l. q.left ++ l) m.split) ∙ ap (λ l. (q.left ++ (m.place, symbol sign.Recovery) ∷ m.behind) ++ l) (z.split ∙ ap (λ l. (z.place, symbol sign.Semicolon) ∷ l) (none_left z.behind z.kinds_are))),
            ap (λ d. step_of d (Some (plain_call y.0))) x.2 ∙ ap (λ d. step_of (plain_call c) (Some d)) y.2,
          );
    }

abbrev SameSteps : List StepAt → List StepAt → Type 0
SameSteps ss ts = map plain_step ss ≡ map plain_step ts

abbrev steps_tokens : List StepAt → List RuleToken
steps_tokens ss = flat_map step_tokens (map plain_step ss)

-- the parts of tokens that were joined are writable
pub front_writable : (all ts us : Tokens) → all ≡ ts ++ us → AllWritable (kinds all) → AllWritable (kinds ts)
front_writable all ts us split h = writable_left (kinds ts) (kinds us) (subst AllWritable (ap kinds split ∙ map-append (λ (t : ℕ × RuleToken). t.1) ts us) h)

pub back_writable : (all ts us : Tokens) → all ≡ ts ++ us → AllWritable (kinds all) → AllWritable (kinds us)
back_writable all ts us split h = writable_right (kinds ts) (kinds us) (subst AllWritable (ap kinds split ∙ map-append (λ (t : ℕ × RuleToken). t.1) ts us) h)

steps_printed : {us : Tokens} {ss : List StepAt} → SpellsSteps us ss → AllWritable (kinds us) → Printed SpellsSteps SameSteps (steps_tokens ss) ss
steps_printed no_steps w = record { writable = tt; again = λ ts k. ([], subst (λ l. SpellsSteps l []) (sym (none_left ts k)) no_steps, refl) }
steps_printed (steps {all = all} {ts = us} {us = vs} {s = s} {ss = ss} h g split) w =
    let a = step_printed h (front_writable all us vs split w) in
    let b = steps_printed g (back_writable all us vs split w) in
    record {
      writable = writable_append (step_tokens (plain_step s)) (steps_tokens ss) a.writable b.writable;
      again = λ ts k.
          let p = parted ts (step_tokens (plain_step s)) (steps_tokens ss) k in
          let x = a.again p.left p.left_are in
          let y = b.again p.right p.right_are in
          (x.0 ∷ y.0, steps x.1 y.1 p.split, ap (λ z. z ∷ map plain_step y.0) x.2 ∙ ap (λ z. plain_step s ∷ z) y.2);
    }

-- ---- rules

abbrev SameNames : List Text → List Text → Type 0
SameNames ns ms = ns ≡ ms

abbrev param_tokens : List Text → List (List RuleToken)
param_tokens ns = map (λ n. param n ∷ []) ns

params_printed : {us : Tokens} {ns : List Text} → SpellsParams us ns → AllWritable (kinds us) → Printed SpellsParams SameNames (with_commas (param_tokens ns)) ns
params_printed no_params w = record { writable = tt; again = λ ts k. ([], subst (λ l. SpellsParams l []) (sym (none_left ts k)) no_params, refl) }
params_printed (last_param place n) w = record {
  writable = (w.0, tt);
  again = λ ts k.
      let x = headed ts (param n) [] k in
      (n ∷ [], subst (λ l. SpellsParams l (n ∷ [])) (sym (x.split ∙ ap (λ l. (x.place, param n) ∷ l) (none_left x.behind x.kinds_are))) (last_param x.place n), refl);
}
params_printed (params {ts = us} {m = m} {ns = ns} place comma n h) w =
    let a = params_printed h w.1.1 in
    record {
      writable = (w.0, (writable_symbol sign.Comma, a.writable));
      again = λ ts k.
          let x = headed ts (param n) (symbol sign.Comma ∷ with_commas (param_tokens (m ∷ ns))) k in
          let y = headed x.behind (symbol sign.Comma) (with_commas (param_tokens (m ∷ ns))) x.kinds_are in
          let b = a.again y.behind y.kinds_are in
          (n ∷ m ∷ ns, subst (λ l. SpellsParams l (n ∷ m ∷ ns)) (sym (x.split ∙ ap (λ l. (x.place, param n) ∷ l) y.split)) (params x.place y.place n (subst (SpellsParams y.behind) b.2 b.1)), refl);
    }

-- in parentheses, and then more
record Parenthesised (ts : Tokens) (inside later : List RuleToken) : Type 0 where
  start : ℕ
  close : ℕ
  inner : Tokens
  rest : Tokens
  split : ts ≡ ((start, symbol sign.OpenParenthesis) ∷ inner) ++ (close, symbol sign.CloseParenthesis) ∷ rest
  inner_are : kinds inner ≡ inside
  rest_are : kinds rest ≡ later

parenthesised : (ts : Tokens) (inside later : List RuleToken) → kinds ts ≡ in_parentheses inside ++ later → Parenthesised ts inside later
parenthesised ts inside later h =
    let x = headed ts (symbol sign.OpenParenthesis) (inside ++ symbol sign.CloseParenthesis ∷ later) (h ∙ ap (λ l. symbol sign.OpenParenthesis ∷ l) (append_assoc inside (symbol sign.CloseParenthesis ∷ []) later)) in
    let p = parted x.behind inside (symbol sign.CloseParenthesis ∷ later) x.kinds_are in
    let y = headed p.right (symbol sign.CloseParenthesis) later p.right_are in
    record { start = x.place; close = y.place; inner = p.left; rest = y.behind; split = x.split ∙ ap (λ l. (x.place, symbol sign.OpenParenthesis) ∷ l) (p.split ∙ ap (λ l. p.left ++ l) y.split); inner_are = p.left_are; rest_are = y.kinds_are }

-- in braces
record Braced (ts : Tokens) (inside : List RuleToken) : Type 0 where
  start : ℕ
  close : ℕ
  inner : Tokens
  split : ts ≡ (start, symbol sign.OpenBrace) ∷ (inner ++ (close, symbol sign.CloseBrace) ∷ [])
  inner_are : kinds inner ≡ inside

braced : (ts : Tokens) (inside : List RuleToken) → kinds ts ≡ in_braces inside → Braced ts inside
braced ts inside h =
    let x = headed ts (symbol sign.OpenBrace) (inside ++ symbol sign.CloseBrace ∷ []) h in
    let p = parted x.behind inside (symbol sign.CloseBrace ∷ []) x.kinds_are in
    let y = headed p.right (symbol sign.CloseBrace) [] p.right_are in
    record { start = x.place; close = y.place; inner = p.left; split = x.split ∙ ap (λ l. (x.place, symbol sign.OpenBrace) ∷ l) (p.split ∙ ap (λ l. p.left ++ l) (y.split ∙ ap (λ l. (y.place, symbol sign.CloseBrace) ∷ l) (none_left y.behind y.kinds_are))); inner_are = p.left_are }

in_braces_writable : (ts : List RuleToken) → AllWritable ts → AllWritable (in_braces ts)
in_braces_writable ts h = (writable_symbol sign.OpenBrace, writable_append ts (symbol sign.CloseBrace ∷ []) h (writable_symbol sign.CloseBrace, tt))

-- a token, parentheses and braces, joined
joined : (ts behind rest us vs : Tokens) (a b c d f : ℕ × RuleToken) → ts ≡ a ∷ behind → behind ≡ (b ∷ us) ++ c ∷ rest → rest ≡ d ∷ (vs ++ f ∷ []) → ts ≡ ((a ∷ b ∷ us) ++ c ∷ d ∷ vs) ++ f ∷ []
joined ts behind rest us vs a b c d f first second third = first ∙ ap (λ l. a ∷ l) (second ∙ ap (λ l. (b ∷ us) ++ c ∷ l) third) ∙ regroup
  where
    regroup : a ∷ ((b ∷ us) ++ c ∷ d ∷ (vs ++ f ∷ [])) ≡ ((a ∷ b ∷ us) ++ c ∷ d ∷ vs) ++ f ∷ []
    regroup = simp append_assoc

-- a body is printed as tokens that spell it again
record BodyPrinted (tokens : List RuleToken) (e : Option Term) (ss : List StepAt) : Type 0 where
  writable : AllWritable tokens
  again : (ts : Tokens) → kinds ts ≡ tokens → (f : Option Term) × (rs : List StepAt) × SpellsBody ts f rs × (option_map plain f ≡ option_map plain e) × SameSteps rs ss

body_printed : {us : Tokens} {e : Option Term} {ss : List StepAt} → SpellsBody us e ss → AllWritable (kinds us) → BodyPrinted (body_tokens (option_map plain e) (map plain_step ss)) e ss
body_printed (always {ss = ss} h) w =
    let a = steps_printed h w in
    record { writable = a.writable; again = λ ts k. let x = a.again ts k in (None, x.0, always x.1, refl, x.2) }
body_printed (on_condition {all = all} {ts = us} {us = vs} {e = e} {ss = ss} on start close begin end h g split) w =
    let inner = ((on, symbol sign.On) ∷ (start, symbol sign.OpenParenthesis) ∷ us) ++ (close, symbol sign.CloseParenthesis) ∷ (begin, symbol sign.OpenBrace) ∷ vs in
    let u = left_writable all inner [] (end, symbol sign.CloseBrace) split w in
    let a = argument_printed h (left_writable inner ((on, symbol sign.On) ∷ (start, symbol sign.OpenParenthesis) ∷ us) ((begin, symbol sign.OpenBrace) ∷ vs) (close, symbol sign.CloseParenthesis) refl u).1.1 in
    let b = steps_printed g (right_writable inner ((on, symbol sign.On) ∷ (start, symbol sign.OpenParenthesis) ∷ us) ((begin, symbol sign.OpenBrace) ∷ vs) (close, symbol sign.CloseParenthesis) refl u).1 in
    record {
      writable = (writable_symbol sign.On, writable_append (in_parentheses (expr_tokens (plain e))) (in_braces (steps_tokens ss)) (writable_enclosed (expr_tokens (plain e)) a.writable) (in_braces_writable (steps_tokens ss) b.writable));
      again = λ ts k.
          let x = headed ts (symbol sign.On) (in_parentheses (expr_tokens (plain e)) ++ in_braces (steps_tokens ss)) k in
          let y = parenthesised x.behind (expr_tokens (plain e)) (in_braces (steps_tokens ss)) x.kinds_are in
          let z = braced y.rest (steps_tokens ss) y.rest_are in
          let c = a.again y.inner y.inner_are in
          let d = b.again z.inner z.inner_are in
          (Some c.0, d.0, on_condition x.place y.start y.close z.start z.close c.1 d.1 (joined ts x.behind y.rest y.inner z.inner (x.place, symbol sign.On) (y.start, symbol sign.OpenParenthesis) (y.close, symbol sign.CloseParenthesis) (z.start, symbol sign.OpenBrace) (z.close, symbol sign.CloseBrace) x.split y.split z.split), ap Some c.2, d.2);
    }

abbrev pub SameRule : RuleAt → RuleAt → Type 0
SameRule r s = plain_rule r ≡ plain_rule s

abbrev rule_of : Text → List Text → Option meaning.Expr → List meaning.Step → meaning.Rule
rule_of n ps e ss = record { name = n; params = ps; cond = e; steps = ss }

same_rule : (n : Text) (ps qs : List Text) (e f : Option meaning.Expr) (ss ts : List meaning.Step) → ps ≡ qs → e ≡ f → ss ≡ ts → rule_of n ps e ss ≡ rule_of n qs f ts
same_rule n ps qs e f ss ts h g k = ap (λ p. rule_of n p e ss) h ∙ ap (λ x. rule_of n qs x ss) g ∙ ap (rule_of n qs f) k

pub rule_printed : {us : Tokens} {r : RuleAt} → SpellsRule us r → AllWritable (kinds us) → Printed SpellsRule SameRule (rule_tokens (plain_rule r)) r
rule_printed (a_rule {all = all} {ts = us} {us = vs} {ps = ps} {e = e} {ss = ss} place start close begin end n h g split) w =
    let inner = ((place, named n) ∷ (start, symbol sign.OpenParenthesis) ∷ us) ++ (close, symbol sign.CloseParenthesis) ∷ (begin, symbol sign.OpenBrace) ∷ vs in
    let u = left_writable all inner [] (end, symbol sign.CloseBrace) split w in
    let front = left_writable inner ((place, named n) ∷ (start, symbol sign.OpenParenthesis) ∷ us) ((begin, symbol sign.OpenBrace) ∷ vs) (close, symbol sign.CloseParenthesis) refl u in
    let a = params_printed h front.1.1 in
    let b = body_printed g (right_writable inner ((place, named n) ∷ (start, symbol sign.OpenParenthesis) ∷ us) ((begin, symbol sign.OpenBrace) ∷ vs) (close, symbol sign.CloseParenthesis) refl u).1 in
    let inside = body_tokens (option_map plain e) (map plain_step ss) in
    record {
      writable = (front.0, writable_append (in_parentheses (with_commas (param_tokens ps))) (in_braces inside) (writable_enclosed (with_commas (param_tokens ps)) a.writable) (in_braces_writable inside b.writable));
      again = λ ts k.
          let x = headed ts (named n) (in_parentheses (with_commas (param_tokens ps)) ++ in_braces inside) k in
          let y = parenthesised x.behind (with_commas (param_tokens ps)) (in_braces inside) x.kinds_are in
          let z = braced y.rest inside y.rest_are in
          let c = a.again y.inner y.inner_are in
          let d = b.again z.inner z.inner_are in (
            placed_rule x.place n c.0 d.0 d.1,
            a_rule x.place y.start y.close z.start z.close n c.1 d.2 (joined ts x.behind y.rest y.inner z.inner (x.place, named n) (y.start, symbol sign.OpenParenthesis) (y.close, symbol sign.CloseParenthesis) (z.start, symbol sign.OpenBrace) (z.close, symbol sign.CloseBrace) x.split y.split z.split),
            same_rule n c.0 ps (option_map plain d.0) (option_map plain e) (map plain_step d.1) (map plain_step ss) c.2 d.3 d.4,
          );
    }
