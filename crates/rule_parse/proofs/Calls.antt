-- A call is read just as it is spelled.
use Rattle.std.proofs.Common.{◌≡◌, ℕ, Bool, true, false, List, [], ◌∷◌, ◌++◌, Option, Some, None, refl, sym, ap, subst, ◌∙◌}
use Rattle.std.specs.Prelude.{codes}
use Rattle.std.proofs.lemmas.List.{append_assoc, append-nil}
use Rattle.grid_model.specs.Names.{Text}
use Rattle.grid_model.specs.Parsed.{Term, CallAt}
use Rattle.rule_lex.specs.Tokens.{RuleToken, named, symbol}
use Rattle.rule_lex.specs.declared.token.Symbol.TheVariants as sign
use Rattle.rule_parse.specs.declared.calling.CallStage.{CallStage}
use Rattle.rule_parse.specs.declared.calling.CallStage.TheVariants.{Start, Named, Opened, Argument, Closed}
use Rattle.rule_parse.specs.Grammar.{Tokens, SpellsArgument, SpellsArguments, last, more, SpellsCall, alone, of_none, of, is_special, placed_call}
use Rattle.rule_parse.specs.Readers.{TermReader, behind_operand, disjoined, new_reader, TermRead, refused, goes, at_comma, at_close, as_next, next_term, read_term, Calling, calling, in_argument, read_call, read_call_at, whole_call, whole_at}
use Rattle.rule_parse.proofs.Machines.{some_is, not_some, run, run_cons, run_then, run_within}
use Rattle.rule_parse.proofs.SpelledTerms.{Holds, nothing_holds, term_keeps, term_closes, term_ends_at_comma, ends_on}
use Rattle.rule_parse.proofs.Terms.{argument_reads}

abbrev pub reads_call : Calling → Tokens → Option Calling
reads_call c ts = run read_call c ts

-- ---- what is spelled is read

pub goes_on : (r : TermRead) (s : TermReader) → as_next r ≡ Some s → r ≡ goes s
goes_on refused s h = absurd (not_some h)
goes_on (goes r) s h = ap goes (some_is h)
goes_on (at_comma e) s h = absurd (not_some h)
goes_on (at_close e) s h = absurd (not_some h)

argument_within : (p : ℕ) (n : Text) (es : List Term) (ts : Tokens) (s : TermReader) → run next_term new_reader ts ≡ Some s → reads_call (calling Argument p n es new_reader) ts ≡ Some (calling Argument p n es s)
argument_within p n es ts s h = run_within next_term read_call (calling Argument p n es) (λ r x t e. ap (in_argument p n es) (goes_on (read_term r x) t e)) new_reader ts s h

arguments_read : {ts : Tokens} {fs : List Term} (p q : ℕ) (n : Text) (es : List Term) → SpellsArguments ts fs → reads_call (calling Argument p n es new_reader) (ts ++ (q, symbol sign.CloseParenthesis) ∷ []) ≡ Some (calling Closed p n (es ++ fs) new_reader)
arguments_read p q n es (last {ts = ts} {e = e} h) =
    let w = argument_reads h in
    run_then read_call (calling Argument p n es new_reader) ts ((q, symbol sign.CloseParenthesis) ∷ []) _ _ (argument_within p n es ts _ w.runs)
    (ap (λ x. Some (calling Closed p n (es ++ x ∷ []) new_reader)) w.value)
arguments_read p q n es (more {all = all} {ts = ts} {us = us} {e = e} {es = fs} place h g split) =
    let w = argument_reads h in
    ap (λ l. reads_call (calling Argument p n es new_reader) (l ++ (q, symbol sign.CloseParenthesis) ∷ [])) split
    ∙ ap (reads_call (calling Argument p n es new_reader)) (append_assoc ts ((place, symbol sign.Comma) ∷ us) ((q, symbol sign.CloseParenthesis) ∷ []))
    ∙ run_then read_call (calling Argument p n es new_reader) ts ((place, symbol sign.Comma) ∷ us ++ (q, symbol sign.CloseParenthesis) ∷ []) _ _ (argument_within p n es ts _ w.runs)
    (ap (λ x. reads_call (calling Argument p n (es ++ x ∷ []) new_reader) (us ++ (q, symbol sign.CloseParenthesis) ∷ [])) w.value
    ∙ arguments_read p q n (es ++ e ∷ []) g
    ∙ ap (λ l. Some (calling Closed p n l new_reader)) (append_assoc es (e ∷ []) fs))

-- the first argument begins right behind the parenthesis
opened_step : (p : ℕ) (n : Text) (q : ℕ) (t : RuleToken) (c : Calling) → read_call (calling Argument p n [] new_reader) (q, t) ≡ Some c → read_call (calling Opened p n [] new_reader) (q, t) ≡ Some c
opened_step p n q (symbol sign.CloseParenthesis) c h = absurd (not_some h)
opened_step p n q _ c h = h

from_opened : (p : ℕ) (n : Text) (ts : Tokens) (es : List Term) → reads_call (calling Argument p n [] new_reader) ts ≡ Some (calling Closed p n es new_reader) → reads_call (calling Opened p n [] new_reader) ts ≡ Some (calling Closed p n es new_reader)
from_opened p n [] es h = absurd (differ (ap (λ (c : Calling). c.stage) (some_is h)))
  where
    differ : Argument ≡ Closed → ⊥
    differ h = cc
from_opened p n (t ∷ ts) es h = by (read_call (calling Argument p n [] new_reader) t) refl h
  where
    by : (o : Option Calling) → read_call (calling Argument p n [] new_reader) t ≡ o → reads_call (calling Argument p n [] new_reader) (t ∷ ts) ≡ Some (calling Closed p n es new_reader) → reads_call (calling Opened p n [] new_reader) (t ∷ ts) ≡ Some (calling Closed p n es new_reader)
    by None e h = absurd (not_some (sym (ap (λ o. elim o as (λ x. Option Calling) [ None ↦ None | Some c ↦ reads_call c ts ]) e) ∙ h))
    by (Some c) e h = run_cons read_call (calling Opened p n [] new_reader) t ts c _ (opened_step p n t.0 t.1 c e) (sym (run_cons read_call (calling Argument p n [] new_reader) t ts c _ e refl) ∙ h)

-- what spells a call is its name and what is read behind it
pub record CallRead (ts : Tokens) (c : CallAt) : Type 0 where
  pub place : ℕ
  pub name : Text
  pub rest : Tokens
  pub split : ts ≡ (place, named name) ∷ rest
  pub last : Calling
  pub runs : reads_call (calling Named place name [] new_reader) rest ≡ Some last
  pub whole : whole_call last ≡ Some c

special_whole : (b : Bool) (p : ℕ) (n : Text) → b ≡ true → elim b as (λ x. Option CallAt) [ true ↦ Some (placed_call p n []) | false ↦ None ] ≡ Some (placed_call p n [])
special_whole b p n h = ap (λ x. elim x as (λ y. Option CallAt) [ true ↦ Some (placed_call p n []) | false ↦ None ]) h

pub call_reads : {ts : Tokens} {c : CallAt} → SpellsCall ts c → CallRead ts c
call_reads (alone place n h) = record { place = place; name = n; rest = []; split = refl; last = calling Named place n [] new_reader; runs = refl; whole = special_whole (is_special n) place n h }
call_reads (of_none place start close n) =
    record { place = place; name = n; rest = (start, symbol sign.OpenParenthesis) ∷ (close, symbol sign.CloseParenthesis) ∷ []; split = refl; last = calling Closed place n [] new_reader; runs = refl; whole = refl }
call_reads (of {ts = ts} {es = es} place start close n h split) = record {
  place = place;
  name = n;
  rest = (start, symbol sign.OpenParenthesis) ∷ ts ++ (close, symbol sign.CloseParenthesis) ∷ [];
  split = split;
  last = calling Closed place n es new_reader;
  runs = from_opened place n (ts ++ (close, symbol sign.CloseParenthesis) ∷ []) es (arguments_read place close n [] h);
  whole = refl;
}

-- ---- what is read is spelled

-- arguments with a comma behind each
pub data Before : Tokens → List Term → Type 0 where
  none_before : Before [] []
  one_before : {all front ts : Tokens} {es : List Term} {e : Term} (p : ℕ) → Before front es → SpellsArgument ts e → all ≡ front ++ (ts ++ (p, symbol sign.Comma) ∷ []) → Before all (es ++ e ∷ [])

with_before : {front ts : Tokens} {es fs : List Term} → Before front es → SpellsArguments ts fs → SpellsArguments (front ++ ts) (es ++ fs)
with_before none_before g = g
with_before {ts = us} {fs = fs} (one_before {all = all} {front = front} {ts = ts} {es = es} {e = e} p h a split) g =
    subst (λ l. SpellsArguments (all ++ us) l) (sym (append_assoc es (e ∷ []) fs))
    (subst (λ l. SpellsArguments l (es ++ e ∷ fs)) (sym (ap (λ l. l ++ us) split ∙ append_assoc front (ts ++ (p, symbol sign.Comma) ∷ []) us))
    (with_before h (more p a g (append_assoc ts ((p, symbol sign.Comma) ∷ []) us))))

pub record InArgument (ts : Tokens) (p : ℕ) (n : Text) (es : List Term) (r : TermReader) : Type 0 where
  pub start : ℕ
  pub front : Tokens
  pub now : Tokens
  pub before : Before front es
  pub holds : Holds now r
  pub split : ts ≡ (p, named n) ∷ (start, symbol sign.OpenParenthesis) ∷ (front ++ now)

abbrev pub CallHoldsAt : CallStage → Tokens → Calling → Type 0
CallHoldsAt Start ts c = ts ≡ []
CallHoldsAt Named ts c = (ts ≡ (c.place, named c.name) ∷ []) × (c.args ≡ []) × (c.reader ≡ new_reader)
CallHoldsAt Opened ts c = (q : ℕ) × (ts ≡ (c.place, named c.name) ∷ (q, symbol sign.OpenParenthesis) ∷ []) × (c.args ≡ []) × (c.reader ≡ new_reader)
CallHoldsAt Argument ts c = InArgument ts c.place c.name c.args c.reader
CallHoldsAt Closed ts c = SpellsCall ts (placed_call c.place c.name c.args)

-- these tokens are read to there
abbrev pub CallHolds : Tokens → Calling → Type 0
CallHolds ts c = CallHoldsAt c.stage ts c

-- the next token of an argument
in_argument_keeps : (ts : Tokens) (p : ℕ) (n : Text) (es : List Term) (r : TermReader) (q : ℕ) (t : RuleToken) (k : TermRead) (d : Calling) → InArgument ts p n es r → read_term r (q, t) ≡ k → in_argument p n es k ≡ Some d → CallHolds (ts ++ (q, t) ∷ []) d
in_argument_keeps ts p n es r q t refused d h is e = absurd (not_some e)
in_argument_keeps ts p n es r q t (goes s) d h is e = subst (CallHolds (ts ++ (q, t) ∷ [])) (some_is e) (record {
  start = h.start;
  front = h.front;
  now = h.now ++ (q, t) ∷ [];
  before = h.before;
  holds = term_keeps h.now r (q, t) s h.holds (ap as_next is);
  split = ap (λ l. l ++ (q, t) ∷ []) h.split ∙ ap (λ l. (p, named n) ∷ (h.start, symbol sign.OpenParenthesis) ∷ l) (append_assoc h.front h.now ((q, t) ∷ []));
})
in_argument_keeps ts p n es r q t (at_comma x) d h is e =
    let w = term_ends_at_comma h.now r q t x h.holds is in
    subst (CallHolds (ts ++ (q, t) ∷ [])) (some_is e) (record {
      start = h.start;
      front = h.front ++ (h.now ++ (q, t) ∷ []);
      now = [];
      before = one_before q h.before w.spells (ap (λ s. h.front ++ (h.now ++ (q, s) ∷ [])) w.closes);
      holds = nothing_holds;
      split = ap (λ l. l ++ (q, t) ∷ []) h.split ∙ ap (λ l. (p, named n) ∷ (h.start, symbol sign.OpenParenthesis) ∷ l) (append_assoc h.front h.now ((q, t) ∷ []) ∙ sym (append-nil (h.front ++ (h.now ++ (q, t) ∷ []))));
    })
in_argument_keeps ts p n es r q t (at_close x) d h is e =
    let w = term_closes h.now r q t x h.holds is in
    subst (CallHolds (ts ++ (q, t) ∷ [])) (some_is e)
    (of p h.start q n (with_before h.before (last w.spells)) (ap (λ l. l ++ (q, t) ∷ []) h.split ∙ ap (λ s. (p, named n) ∷ (h.start, symbol sign.OpenParenthesis) ∷ (h.front ++ h.now) ++ (q, s) ∷ []) w.closes))

-- right behind the parenthesis
begins_argument : (ts : Tokens) (c : Calling) → CallHoldsAt Opened ts c → InArgument ts c.place c.name c.args c.reader
begins_argument ts c h = record {
  start = h.0;
  front = [];
  now = [];
  before = subst (Before []) (sym h.2) none_before;
  holds = subst (Holds []) (sym h.3) nothing_holds;
  split = h.1;
}

call_keeps_at : (s : CallStage) (ts : Tokens) (c : Calling) (q : ℕ) (t : RuleToken) (d : Calling) → CallHoldsAt s ts c → read_call_at s c q t ≡ Some d → CallHolds (ts ++ (q, t) ∷ []) d
call_keeps_at Start ts c q (named n) d h e = subst (CallHolds (ts ++ (q, named n) ∷ [])) (some_is e) (ap (λ l. l ++ (q, named n) ∷ []) h, refl, refl)
call_keeps_at Named ts c q (symbol sign.OpenParenthesis) d h e = subst (CallHolds (ts ++ (q, symbol sign.OpenParenthesis) ∷ [])) (some_is e) (q, ap (λ l. l ++ (q, symbol sign.OpenParenthesis) ∷ []) h.0, h.1, h.2)
call_keeps_at Opened ts c q (symbol sign.CloseParenthesis) d h e =
    subst (CallHolds (ts ++ (q, symbol sign.CloseParenthesis) ∷ [])) (some_is e)
    (subst (λ l. SpellsCall (ts ++ (q, symbol sign.CloseParenthesis) ∷ []) (placed_call c.place c.name l)) (sym h.2) (subst (λ l. SpellsCall (l ++ (q, symbol sign.CloseParenthesis) ∷ []) (placed_call c.place c.name [])) (sym h.1) (of_none c.place h.0 q c.name)))
call_keeps_at Opened ts c q t d h e = in_argument_keeps ts c.place c.name c.args c.reader q t _ d (begins_argument ts c h) refl e
call_keeps_at Argument ts c q t d h e = in_argument_keeps ts c.place c.name c.args c.reader q t _ d h refl e
call_keeps_at _ ts c q _ d h e = absurd (not_some e)

pub call_keeps : (ts : Tokens) (c : Calling) (t : ℕ × RuleToken) (d : Calling) → CallHolds ts c → read_call c t ≡ Some d → CallHolds (ts ++ t ∷ []) d
call_keeps ts c t d h e = call_keeps_at c.stage ts c t.0 t.1 d h e

special_spelled : (b : Bool) (ts : Tokens) (p : ℕ) (n : Text) (es : List Term) (v : CallAt) → ts ≡ (p, named n) ∷ [] → es ≡ [] → is_special n ≡ b → elim b as (λ x. Option CallAt) [ true ↦ Some (placed_call p n es) | false ↦ None ] ≡ Some v → SpellsCall ts v
special_spelled true ts p n es v h none is e = subst (SpellsCall ts) (some_is e) (subst (λ l. SpellsCall ts (placed_call p n l)) (sym none) (subst (λ l. SpellsCall l (placed_call p n [])) (sym h) (alone p n is)))
special_spelled false ts p n es v h none is e = absurd (not_some e)

spelled_at : (s : CallStage) (ts : Tokens) (c : Calling) (v : CallAt) → CallHoldsAt s ts c → whole_at s c ≡ Some v → SpellsCall ts v
spelled_at Named ts c v h e = special_spelled (is_special c.name) ts c.place c.name c.args v h.0 h.1 refl e
spelled_at Closed ts c v h e = subst (SpellsCall ts) (some_is e) h
spelled_at _ ts c v h e = absurd (not_some e)

pub call_spelled : (ts : Tokens) (c : Calling) (v : CallAt) → CallHolds ts c → whole_call c ≡ Some v → SpellsCall ts v
call_spelled ts c v h e = spelled_at c.stage ts c v h e

-- ---- every call that is begun leads on to a whole one

pub record CallEnds (c : Calling) : Type 0 where
  pub more : Tokens
  pub last : Calling
  pub value : CallAt
  pub runs : reads_call c more ≡ Some last
  pub whole : whole_call last ≡ Some value

call_ends_at : (s : CallStage) (p : ℕ) (n : Text) (es : List Term) (r : TermReader) → CallEnds (calling s p n es r)
call_ends_at Start p n es r =
    record { more = (0, named (codes "a")) ∷ (0, symbol sign.OpenParenthesis) ∷ (0, symbol sign.CloseParenthesis) ∷ []; last = calling Closed 0 (codes "a") [] new_reader; value = placed_call 0 (codes "a") []; runs = refl; whole = refl }
call_ends_at Named p n es r =
    record { more = (0, symbol sign.OpenParenthesis) ∷ (0, symbol sign.CloseParenthesis) ∷ []; last = calling Closed p n es r; value = placed_call p n es; runs = refl; whole = refl }
call_ends_at Opened p n es r = record { more = (0, symbol sign.CloseParenthesis) ∷ []; last = calling Closed p n es r; value = placed_call p n es; runs = refl; whole = refl }
call_ends_at Argument p n es r =
    let w = ends_on r in
    record {
      more = w.more ++ (0, symbol sign.CloseParenthesis) ∷ [];
      last = calling Closed p n (es ++ disjoined w.inner w.operand ∷ []) new_reader;
      value = placed_call p n (es ++ disjoined w.inner w.operand ∷ []);
      runs = run_then read_call (calling Argument p n es r) w.more ((0, symbol sign.CloseParenthesis) ∷ []) (calling Argument p n es (behind_operand [] w.inner w.count w.operand)) _
          (run_within next_term read_call (calling Argument p n es) (λ r x t e. ap (in_argument p n es) (goes_on (read_term r x) t e)) r w.more _ w.runs) refl;
      whole = refl;
    }
call_ends_at Closed p n es r = record { more = []; last = calling Closed p n es r; value = placed_call p n es; runs = refl; whole = refl }

pub call_ends : (c : Calling) → CallEnds c
call_ends c = call_ends_at c.stage c.place c.name c.args c.reader
