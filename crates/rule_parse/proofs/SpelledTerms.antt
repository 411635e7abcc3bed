-- What is read of an expression is spelled so.
use Rattle.std.proofs.Common.{◌≡◌, ℕ, suc, ◌+◌, ◌-◌, ◌<◌, ◌≤◌, Bool, true, false, List, [], ◌∷◌, ◌++◌, length, Option, Some, None, refl, sym, ap, subst, ◌∙◌, arith}
use Rattle.std.specs.Prelude.{IsTrue, nat_lt, ◌&&◌}
use Rattle.std.proofs.lemmas.Bool.{both_ways, ltb-true}
use Rattle.std.proofs.lemmas.List.{append_assoc, append-nil, length-append}
use Rattle.grid_model.specs.Parsed.{Term, truth}
use Rattle.grid_model.specs.declared.rules.Operator.{Operator}
use Rattle.grid_model.specs.declared.rules.Operator.TheVariants as operator
use Rattle.rule_lex.specs.Tokens.{RuleToken, symbol, text, number, param, session}
use Rattle.rule_lex.specs.declared.token.Symbol.TheVariants as sign
use Rattle.rule_parse.specs.Grammar.{Tokens, Rank, disjunction, conjunction, negation, comparison, joining, atom, SpellsArgument, SpellsTerm, one_and, ors, one_not, ands, one_comparison, nots, one_join, compares, one_atom, joins, a_text, a_number, a_param, a_session, a_true, a_false, enclosing as in_parentheses, placed_term, operators, is_comparing, sign_of}
use Rattle.rule_parse.specs.Readers.{Enclosing, enclosing, Level, level_with, empty_level, TermReader, wanting, behind_operand, with_left, with_compared, with_nots, joined_term, compared, negated, conjoined, disjoined, TermRead, at_comma, at_close, when, is_free, as_next, next_term, read_term, read_with, read_close, read_comma, new_reader}
use Rattle.rule_parse.proofs.Machines.{some_is, not_some, run}

-- ---- what waits on the left of an operator

pub data Left (r : Rank) (d : ℕ) (op : Operator) : Option Term → Tokens → Type 0 where
  no_left : Left r d op None []
  on_left : {ts us : Tokens} {x : Term} (p : ℕ) → SpellsTerm r d us x → ts ≡ us ++ (p, symbol (sign_of op)) ∷ [] → Left r d op (Some x) ts

pub data Compares (d : ℕ) : Option (Operator × Term) → Tokens → Type 0 where
  no_compared : Compares d None []
  on_compared : {ts us : Tokens} {x : Term} (p : ℕ) (op : Operator) → IsTrue (is_comparing op) → SpellsTerm joining d us x → ts ≡ us ++ (p, symbol (sign_of op)) ∷ [] → Compares d (Some (op, x)) ts

abbrev pub not_tokens : List ℕ → Tokens
not_tokens [] = []
not_tokens (p ∷ ps) = (p, symbol sign.Not) ∷ not_tokens ps

-- the tokens of a level
pub record LevelSpelled (d : ℕ) (l : Level) (ts : Tokens) : Type 0 where
  pub ots : Tokens
  pub ats : Tokens
  pub cts : Tokens
  pub jts : Tokens
  pub of_or : Left disjunction d operator.Or l.or_left ots
  pub of_and : Left conjunction d operator.And l.and_left ats
  pub of_compared : Compares d l.compared cts
  pub of_join : Left joining d operator.Join l.join_left jts
  pub split : ts ≡ ots ++ (ats ++ (not_tokens l.nots ++ (cts ++ jts)))

-- ---- with what stands on the right

seam : (ts us vs : Tokens) (t : ℕ × RuleToken) → ts ≡ us ++ t ∷ [] → ts ++ vs ≡ us ++ t ∷ vs
seam ts us vs t e = ap (λ l. l ++ vs) e ∙ append_assoc us (t ∷ []) vs

joined_spelled : {d : ℕ} {j : Option Term} {ts us : Tokens} {x : Term} → Left joining d operator.Join j ts → SpellsTerm atom d us x → SpellsTerm joining d (ts ++ us) (with_left operator.Join j x)
joined_spelled no_left g = one_atom g
joined_spelled {us = us} (on_left {ts = ts} {us = vs} p h e) g = joins p h g (seam ts vs us (p, symbol sign.Join) e)

compared_spelled : {d : ℕ} {c : Option (Operator × Term)} {ts us : Tokens} {x : Term} → Compares d c ts → SpellsTerm joining d us x → SpellsTerm comparison d (ts ++ us) (with_compared c x)
compared_spelled no_compared g = one_join g
compared_spelled {us = us} (on_compared {ts = ts} {us = vs} p op is h e) g = compares p op is h g (seam ts vs us (p, symbol (sign_of op)) e)

nots_spelled : {d : ℕ} {us : Tokens} {x : Term} (ps : List ℕ) → SpellsTerm comparison d us x → SpellsTerm negation d (not_tokens ps ++ us) (with_nots ps x)
nots_spelled [] g = one_comparison g
nots_spelled (p ∷ ps) g = nots p (nots_spelled ps g)

and_spelled : {d : ℕ} {a : Option Term} {ts us : Tokens} {x : Term} → Left conjunction d operator.And a ts → SpellsTerm negation d us x → SpellsTerm conjunction d (ts ++ us) (with_left operator.And a x)
and_spelled no_left g = one_not g
and_spelled {us = us} (on_left {ts = ts} {us = vs} p h e) g = ands p h g (seam ts vs us (p, symbol sign.And) e)

or_spelled : {d : ℕ} {o : Option Term} {ts us : Tokens} {x : Term} → Left disjunction d operator.Or o ts → SpellsTerm conjunction d us x → SpellsTerm disjunction d (ts ++ us) (with_left operator.Or o x)
or_spelled no_left g = one_and g
or_spelled {us = us} (on_left {ts = ts} {us = vs} p h e) g = ors p h g (seam ts vs us (p, symbol sign.Or) e)

module _ {d : ℕ} {l : Level} {ts us : Tokens} {x : Term} (s : LevelSpelled d l ts) (g : SpellsTerm atom d us x) where
  of_joined : SpellsTerm joining d (s.jts ++ us) (joined_term l x)
  of_joined = joined_spelled s.of_join g

  of_comparison : SpellsTerm comparison d (s.cts ++ (s.jts ++ us)) (compared l x)
  of_comparison = compared_spelled s.of_compared of_joined

  of_negation : SpellsTerm negation d (not_tokens l.nots ++ (s.cts ++ (s.jts ++ us))) (negated l x)
  of_negation = nots_spelled l.nots of_comparison

  of_conjunction : SpellsTerm conjunction d (s.ats ++ (not_tokens l.nots ++ (s.cts ++ (s.jts ++ us)))) (conjoined l x)
  of_conjunction = and_spelled s.of_and of_negation

  of_disjunction : SpellsTerm disjunction d (s.ots ++ (s.ats ++ (not_tokens l.nots ++ (s.cts ++ (s.jts ++ us))))) (disjoined l x)
  of_disjunction = or_spelled s.of_or of_conjunction

-- ---- how many operators there are

abbrev pub weight : Option Term → ℕ
weight None = 0
weight (Some x) = operators x.shape + 1

abbrev pub compared_weight : Option (Operator × Term) → ℕ
compared_weight None = 0
compared_weight (Some (op, x)) = operators x.shape + 1

abbrev pub level_weight : Level → ℕ
level_weight l = weight l.or_left + (weight l.and_left + (length l.nots + (compared_weight l.compared + weight l.join_left)))

abbrev pub outer_weight : List Enclosing → ℕ
outer_weight [] = 0
outer_weight (o ∷ os) = level_weight o.around + outer_weight os

left_operators : (op : Operator) (j : Option Term) (x : Term) → operators (with_left op j x).shape ≡ weight j + operators x.shape
left_operators op None x = omega arith
left_operators op (Some y) x = omega arith

compared_operators : (c : Option (Operator × Term)) (x : Term) → operators (with_compared c x).shape ≡ compared_weight c + operators x.shape
compared_operators None x = omega arith
compared_operators (Some (op, y)) x = omega arith

nots_operators : (ps : List ℕ) (x : Term) → operators (with_nots ps x).shape ≡ length ps + operators x.shape
nots_operators [] x = omega arith
nots_operators (p ∷ ps) x = omega (arith, nots_operators ps x)

joined_operators : (l : Level) (x : Term) → operators (joined_term l x).shape ≡ weight l.join_left + operators x.shape
joined_operators l x = left_operators operator.Join l.join_left x

conjoined_operators : (l : Level) (x : Term) → operators (conjoined l x).shape ≡ weight l.and_left + (length l.nots + (compared_weight l.compared + (weight l.join_left + operators x.shape)))
conjoined_operators l x =
    omega (arith, left_operators operator.And l.and_left (negated l x), nots_operators l.nots (compared l x), compared_operators l.compared (joined_term l x), joined_operators l x)

disjoined_operators : (l : Level) (x : Term) → operators (disjoined l x).shape ≡ level_weight l + operators x.shape
disjoined_operators l x = omega (arith, left_operators operator.Or l.or_left (conjoined l x), conjoined_operators l x)

-- ---- a reader

pub data Outer (m : ℕ) : ℕ → List Enclosing → Tokens → Type 0 where
  outermost : Outer m m [] []
  within : {d e : ℕ} {o : Enclosing} {os : List Enclosing} {all ts us : Tokens} → e ≡ suc d → Outer m e os ts → LevelSpelled e o.around us → all ≡ (ts ++ us) ++ (o.place, symbol sign.OpenParenthesis) ∷ [] → Outer m d (o ∷ os) all

outer_depth : {m d : ℕ} {os : List Enclosing} {ts : Tokens} → Outer m d os ts → length os + d ≡ m
outer_depth outermost = omega arith
outer_depth (within e h l s) = omega (arith, outer_depth h, e)

pub record Expecting (ts : Tokens) (os : List Enclosing) (l : Level) (n : ℕ) : Type 0 where
  pub d : ℕ
  pub outside : Tokens
  pub here : Tokens
  pub outer : Outer 256 d os outside
  pub inner : LevelSpelled d l here
  pub split : ts ≡ outside ++ here
  pub count_is : n ≡ outer_weight os + level_weight l
  pub few : n ≤ 128

pub record Holding (ts : Tokens) (os : List Enclosing) (l : Level) (n : ℕ) (x : Term) : Type 0 where
  pub d : ℕ
  pub outside : Tokens
  pub here : Tokens
  pub us : Tokens
  pub outer : Outer 256 d os outside
  pub inner : LevelSpelled d l here
  pub operand : SpellsTerm atom d us x
  pub split : ts ≡ outside ++ (here ++ us)
  pub count_is : n ≡ outer_weight os + (level_weight l + operators x.shape)
  pub few : n ≤ 128

abbrev pub HoldsWith : Tokens → List Enclosing → Level → ℕ → Option Term → Type 0
HoldsWith ts os l n None = Expecting ts os l n
HoldsWith ts os l n (Some x) = Holding ts os l n x

-- these tokens are read to there
abbrev pub Holds : Tokens → TermReader → Type 0
Holds ts r = HoldsWith ts r.outer r.inner r.count r.operand

-- ---- each token

room_of : (b : Bool) (r s : TermReader) → as_next (when b r) ≡ Some s → (b ≡ true) × (r ≡ s)
room_of true r s h = (refl, some_is h)
room_of false r s h = absurd (not_some h)

both_of : (a b : Bool) → a && b ≡ true → (a ≡ true) × (b ≡ true)
both_of true b h = (refl, h)
both_of false b h = absurd (both_ways false refl h)

no_compared_tokens : {d : ℕ} {c : Option (Operator × Term)} {ts : Tokens} → is_free c ≡ true → Compares d c ts → ts ≡ []
no_compared_tokens h no_compared = refl
no_compared_tokens h (on_compared p op is g e) = absurd (both_ways false refl h)

no_left_tokens : {r : Rank} {d : ℕ} {op : Operator} {j : Option Term} {ts : Tokens} → is_free j ≡ true → Left r d op j ts → ts ≡ []
no_left_tokens h no_left = refl
no_left_tokens h (on_left p g e) = absurd (both_ways false refl h)

no_compared_weight : (c : Option (Operator × Term)) → is_free c ≡ true → compared_weight c ≡ 0
no_compared_weight None h = refl
no_compared_weight (Some x) h = absurd (both_ways false refl h)

no_weight : (j : Option Term) → is_free j ≡ true → weight j ≡ 0
no_weight None h = refl
no_weight (Some x) h = absurd (both_ways false refl h)

not_tokens-more : (ps : List ℕ) (p : ℕ) → not_tokens (ps ++ p ∷ []) ≡ not_tokens ps ++ (p, symbol sign.Not) ∷ []
not_tokens-more [] p = refl
not_tokens-more (q ∷ ps) p = ap (λ l. (q, symbol sign.Not) ∷ l) (not_tokens-more ps p)

move_join : (out o a n c j us : Tokens) (t : ℕ × RuleToken) → (out ++ ((o ++ (a ++ (n ++ (c ++ j)))) ++ us)) ++ t ∷ [] ≡ out ++ (o ++ (a ++ (n ++ (c ++ ((j ++ us) ++ t ∷ [])))))
move_join out o a n c j us t = simp append_assoc

move_compared : (out o a n j us : Tokens) (t : ℕ × RuleToken) → (out ++ ((o ++ (a ++ (n ++ j))) ++ us)) ++ t ∷ [] ≡ out ++ (o ++ (a ++ (n ++ (((j ++ us) ++ t ∷ []) ++ []))))
move_compared out o a n j us t = simp (append_assoc, append-nil)

move_and : (out o a n c j us : Tokens) (t : ℕ × RuleToken) → (out ++ ((o ++ (a ++ (n ++ (c ++ j)))) ++ us)) ++ t ∷ [] ≡ out ++ (o ++ (((a ++ (n ++ (c ++ (j ++ us)))) ++ t ∷ []) ++ []))
move_and out o a n c j us t = simp (append_assoc, append-nil)

move_or : (out o a n c j us : Tokens) (t : ℕ × RuleToken) → (out ++ ((o ++ (a ++ (n ++ (c ++ j)))) ++ us)) ++ t ∷ [] ≡ out ++ (((o ++ (a ++ (n ++ (c ++ (j ++ us))))) ++ t ∷ []) ++ [])
move_or out o a n c j us t = simp (append_assoc, append-nil)

move_not : (out o a n : Tokens) (t : ℕ × RuleToken) → (out ++ (o ++ (a ++ (n ++ [])))) ++ t ∷ [] ≡ out ++ (o ++ (a ++ ((n ++ t ∷ []) ++ [])))
move_not out o a n t = simp (append_assoc, append-nil)

move_close : (out around o a n c j us : Tokens) (s t : ℕ × RuleToken) → (((out ++ around) ++ s ∷ []) ++ ((o ++ (a ++ (n ++ (c ++ j)))) ++ us)) ++ t ∷ [] ≡ out ++ (around ++ (s ∷ (o ++ (a ++ (n ++ (c ++ (j ++ us))))) ++ t ∷ []))
move_close out around o a n c j us s t = simp append_assoc

-- an atom
atom_holds : {ts : Tokens} {os : List Enclosing} {l : Level} {n p : ℕ} (t : RuleToken) (x : Term) → ((d : ℕ) → SpellsTerm atom d ((p, t) ∷ []) x) → operators x.shape ≡ 0 → Expecting ts os l n → Holding (ts ++ (p, t) ∷ []) os l n x
atom_holds {p = p} t x spells none h = record {
  d = h.d;
  outside = h.outside;
  here = h.here;
  us = (p, t) ∷ [];
  outer = h.outer;
  inner = h.inner;
  operand = spells h.d;
  split = ap (λ l. l ++ (p, t) ∷ []) h.split ∙ append_assoc h.outside h.here ((p, t) ∷ []);
  count_is = omega (arith, h.count_is, none);
  few = h.few;
}

join_holds : {ts : Tokens} {os : List Enclosing} {l : Level} {n : ℕ} {x : Term} (p : ℕ) → n < 128 → Holding ts os l n x
    → Expecting (ts ++ (p, symbol sign.Join) ∷ []) os (level_with l.or_left l.and_left l.nots l.compared (Some (joined_term l x))) (n + 1)
join_holds {l = l} {x = x} p few h = record {
  d = h.d;
  outside = h.outside;
  here = h.inner.ots ++ (h.inner.ats ++ (not_tokens l.nots ++ (h.inner.cts ++ ((h.inner.jts ++ h.us) ++ (p, symbol sign.Join) ∷ []))));
  outer = h.outer;
  inner = record { ots = h.inner.ots; ats = h.inner.ats; cts = h.inner.cts; jts = (h.inner.jts ++ h.us) ++ (p, symbol sign.Join) ∷ []; of_or = h.inner.of_or; of_and = h.inner.of_and; of_compared = h.inner.of_compared; of_join = on_left p (of_joined h.inner h.operand) refl; split = refl };
  split = ap (λ z. z ++ (p, symbol sign.Join) ∷ []) (h.split ∙ ap (λ z. h.outside ++ (z ++ h.us)) h.inner.split) ∙ move_join h.outside h.inner.ots h.inner.ats (not_tokens l.nots) h.inner.cts h.inner.jts h.us (p, symbol sign.Join);
  count_is = omega (arith, h.count_is, joined_operators l x);
  few = omega (arith, few);
}

compared_holds : {ts : Tokens} {os : List Enclosing} {l : Level} {n : ℕ} {x : Term} (p : ℕ) (op : Operator) → IsTrue (is_comparing op) → is_free l.compared ≡ true → n < 128 → Holding ts os l n x
    → Expecting (ts ++ (p, symbol (sign_of op)) ∷ []) os (level_with l.or_left l.and_left l.nots (Some (op, joined_term l x)) None) (n + 1)
compared_holds {l = l} {x = x} p op is free few h = record {
  d = h.d;
  outside = h.outside;
  here = h.inner.ots ++ (h.inner.ats ++ (not_tokens l.nots ++ (((h.inner.jts ++ h.us) ++ (p, symbol (sign_of op)) ∷ []) ++ [])));
  outer = h.outer;
  inner = record { ots = h.inner.ots; ats = h.inner.ats; cts = (h.inner.jts ++ h.us) ++ (p, symbol (sign_of op)) ∷ []; jts = []; of_or = h.inner.of_or; of_and = h.inner.of_and; of_compared = on_compared p op is (of_joined h.inner h.operand) refl; of_join = no_left; split = refl };
  split = ap (λ z. z ++ (p, symbol (sign_of op)) ∷ []) (h.split ∙ ap (λ z. h.outside ++ (z ++ h.us)) (h.inner.split ∙ ap (λ z. h.inner.ots ++ (h.inner.ats ++ (not_tokens l.nots ++ (z ++ h.inner.jts)))) (no_compared_tokens free h.inner.of_compared)))
      ∙ move_compared h.outside h.inner.ots h.inner.ats (not_tokens l.nots) h.inner.jts h.us (p, symbol (sign_of op));
  count_is = omega (arith, h.count_is, joined_operators l x, no_compared_weight l.compared free);
  few = omega (arith, few);
}

and_holds : {ts : Tokens} {os : List Enclosing} {l : Level} {n : ℕ} {x : Term} (p : ℕ) → n < 128 → Holding ts os l n x
    → Expecting (ts ++ (p, symbol sign.And) ∷ []) os (level_with l.or_left (Some (conjoined l x)) [] None None) (n + 1)
and_holds {l = l} {x = x} p few h = record {
  d = h.d;
  outside = h.outside;
  here = h.inner.ots ++ (((h.inner.ats ++ (not_tokens l.nots ++ (h.inner.cts ++ (h.inner.jts ++ h.us)))) ++ (p, symbol sign.And) ∷ []) ++ []);
  outer = h.outer;
  inner = record { ots = h.inner.ots; ats = (h.inner.ats ++ (not_tokens l.nots ++ (h.inner.cts ++ (h.inner.jts ++ h.us)))) ++ (p, symbol sign.And) ∷ []; cts = []; jts = []; of_or = h.inner.of_or; of_and = on_left p (of_conjunction h.inner h.operand) refl; of_compared = no_compared; of_join = no_left; split = refl };
  split = ap (λ z. z ++ (p, symbol sign.And) ∷ []) (h.split ∙ ap (λ z. h.outside ++ (z ++ h.us)) h.inner.split) ∙ move_and h.outside h.inner.ots h.inner.ats (not_tokens l.nots) h.inner.cts h.inner.jts h.us (p, symbol sign.And);
  count_is = omega (arith, h.count_is, conjoined_operators l x);
  few = omega (arith, few);
}

or_holds : {ts : Tokens} {os : List Enclosing} {l : Level} {n : ℕ} {x : Term} (p : ℕ) → n < 128 → Holding ts os l n x
    → Expecting (ts ++ (p, symbol sign.Or) ∷ []) os (level_with (Some (disjoined l x)) None [] None None) (n + 1)
or_holds {l = l} {x = x} p few h = record {
  d = h.d;
  outside = h.outside;
  here = ((h.inner.ots ++ (h.inner.ats ++ (not_tokens l.nots ++ (h.inner.cts ++ (h.inner.jts ++ h.us))))) ++ (p, symbol sign.Or) ∷ []) ++ [];
  outer = h.outer;
  inner = record { ots = (h.inner.ots ++ (h.inner.ats ++ (not_tokens l.nots ++ (h.inner.cts ++ (h.inner.jts ++ h.us))))) ++ (p, symbol sign.Or) ∷ []; ats = []; cts = []; jts = []; of_or = on_left p (of_disjunction h.inner h.operand) refl; of_and = no_left; of_compared = no_compared; of_join = no_left; split = refl };
  split = ap (λ z. z ++ (p, symbol sign.Or) ∷ []) (h.split ∙ ap (λ z. h.outside ++ (z ++ h.us)) h.inner.split) ∙ move_or h.outside h.inner.ots h.inner.ats (not_tokens l.nots) h.inner.cts h.inner.jts h.us (p, symbol sign.Or);
  count_is = omega (arith, h.count_is, disjoined_operators l x);
  few = omega (arith, few);
}

not_holds : {ts : Tokens} {os : List Enclosing} {l : Level} {n : ℕ} (p : ℕ) → is_free l.compared ≡ true → is_free l.join_left ≡ true → n < 128 → Expecting ts os l n
    → Expecting (ts ++ (p, symbol sign.Not) ∷ []) os (level_with l.or_left l.and_left (l.nots ++ p ∷ []) l.compared l.join_left) (n + 1)
not_holds {l = l} p free clear few h = record {
  d = h.d;
  outside = h.outside;
  here = h.inner.ots ++ (h.inner.ats ++ ((not_tokens l.nots ++ (p, symbol sign.Not) ∷ []) ++ []));
  outer = h.outer;
  inner = record {
    ots = h.inner.ots;
    ats = h.inner.ats;
    cts = h.inner.cts;
    jts = h.inner.jts;
    of_or = h.inner.of_or;
    of_and = h.inner.of_and;
    of_compared = h.inner.of_compared;
    of_join = h.inner.of_join;
    split = ap (λ z. h.inner.ots ++ (h.inner.ats ++ (z ++ []))) (sym (not_tokens-more l.nots p)) ∙ ap (λ z. h.inner.ots ++ (h.inner.ats ++ (not_tokens (l.nots ++ p ∷ []) ++ z))) (sym none);
  };
  split = ap (λ z. z ++ (p, symbol sign.Not) ∷ []) (h.split ∙ ap (λ z. h.outside ++ z) (h.inner.split ∙ ap (λ z. h.inner.ots ++ (h.inner.ats ++ (not_tokens l.nots ++ z))) none)) ∙ move_not h.outside h.inner.ots h.inner.ats (not_tokens l.nots) (p, symbol sign.Not);
  count_is = omega (arith, h.count_is, length-append l.nots (p ∷ []));
  few = omega (arith, few);
}
  where
    none : h.inner.cts ++ h.inner.jts ≡ []
    none = ap (λ z. z ++ h.inner.jts) (no_compared_tokens free h.inner.of_compared) ∙ no_left_tokens clear h.inner.of_join

open_holds : {ts : Tokens} {os : List Enclosing} {l : Level} {n : ℕ} (p : ℕ) → length os < 256 → Expecting ts os l n → Expecting (ts ++ (p, symbol sign.OpenParenthesis) ∷ []) (enclosing p l ∷ os) empty_level n
open_holds {ts = ts} {os = os} {l = l} p deep h = record {
  d = h.d - 1;
  outside = ts ++ (p, symbol sign.OpenParenthesis) ∷ [];
  here = [];
  outer = within (omega (arith, outer_depth h.outer, deep)) h.outer h.inner (ap (λ z. z ++ (p, symbol sign.OpenParenthesis) ∷ []) h.split);
  inner = record { ots = []; ats = []; cts = []; jts = []; of_or = no_left; of_and = no_left; of_compared = no_compared; of_join = no_left; split = refl };
  split = sym (append-nil (ts ++ (p, symbol sign.OpenParenthesis) ∷ []));
  count_is = omega (arith, h.count_is);
  few = h.few;
}

close_holds : {ts : Tokens} {o : Enclosing} {os : List Enclosing} {l : Level} {n : ℕ} {x : Term} (p d : ℕ) (outside here us : Tokens) → Outer 256 d (o ∷ os) outside → (s : LevelSpelled d l here) → SpellsTerm atom d us x → ts ≡ outside ++ (here ++ us)
    → n ≡ outer_weight (o ∷ os) + (level_weight l + operators x.shape) → n ≤ 128 → Holding (ts ++ (p, symbol sign.CloseParenthesis) ∷ []) os o.around n (placed_term o.place (disjoined l x).shape)
close_holds {o = o} {l = l} {x = x} p d outside here us (within {e = e} {ts = out} {us = around} next outer level_with is) s operand split count few = record {
  d = e;
  outside = out;
  here = around;
  us = (o.place, symbol sign.OpenParenthesis) ∷ (s.ots ++ (s.ats ++ (not_tokens l.nots ++ (s.cts ++ (s.jts ++ us))))) ++ (p, symbol sign.CloseParenthesis) ∷ [];
  outer = outer;
  inner = level_with;
  operand = subst (λ k. SpellsTerm atom k ((o.place, symbol sign.OpenParenthesis) ∷ (s.ots ++ (s.ats ++ (not_tokens l.nots ++ (s.cts ++ (s.jts ++ us))))) ++ (p, symbol sign.CloseParenthesis) ∷ []) (placed_term o.place (disjoined l x).shape)) (sym next)
      (in_parentheses o.place p (of_disjunction s operand) refl);
  split = ap (λ z. z ++ (p, symbol sign.CloseParenthesis) ∷ []) (split ∙ ap (λ z. z ++ (here ++ us)) is ∙ ap (λ z. ((out ++ around) ++ (o.place, symbol sign.OpenParenthesis) ∷ []) ++ (z ++ us)) s.split)
      ∙ move_close out around s.ots s.ats (not_tokens l.nots) s.cts s.jts us (o.place, symbol sign.OpenParenthesis) (p, symbol sign.CloseParenthesis);
  count_is = omega (arith, count, disjoined_operators l x);
  few = few;
}

-- ---- every token

operand_keeps : (ts : Tokens) (os : List Enclosing) (l : Level) (n p : ℕ) (t : RuleToken) (s : TermReader) → Expecting ts os l n → as_next (read_with os l n None p t) ≡ Some s → Holds (ts ++ (p, t) ∷ []) s
operand_keeps ts os l n p (text m) s h e = subst (Holds (ts ++ (p, text m) ∷ [])) (some_is e) (atom_holds (text m) _ (λ d. a_text p m) refl h)
operand_keeps ts os l n p (number m) s h e = subst (Holds (ts ++ (p, number m) ∷ [])) (some_is e) (atom_holds (number m) _ (λ d. a_number p m) refl h)
operand_keeps ts os l n p (param m) s h e = subst (Holds (ts ++ (p, param m) ∷ [])) (some_is e) (atom_holds (param m) _ (λ d. a_param p m) refl h)
operand_keeps ts os l n p (session m) s h e = subst (Holds (ts ++ (p, session m) ∷ [])) (some_is e) (atom_holds (session m) _ (λ d. a_session p m) refl h)
operand_keeps ts os l n p (symbol sign.True) s h e = subst (Holds (ts ++ (p, symbol sign.True) ∷ [])) (some_is e) (atom_holds (symbol sign.True) _ (λ d. a_true p) refl h)
operand_keeps ts os l n p (symbol sign.False) s h e = subst (Holds (ts ++ (p, symbol sign.False) ∷ [])) (some_is e) (atom_holds (symbol sign.False) _ (λ d. a_false p) refl h)
operand_keeps ts os l n p (symbol sign.Not) s h e =
    let w = room_of _ _ _ e in
    let all = both_of (is_free l.compared && is_free l.join_left) (nat_lt n 128) w.0 in
    let free = both_of (is_free l.compared) (is_free l.join_left) all.0 in
    subst (Holds (ts ++ (p, symbol sign.Not) ∷ [])) w.1 (not_holds p free.0 free.1 (ltb-true n 128 all.1) h)
operand_keeps ts os l n p (symbol sign.OpenParenthesis) s h e =
    let w = room_of _ _ _ e in
    subst (Holds (ts ++ (p, symbol sign.OpenParenthesis) ∷ [])) w.1 (open_holds p (ltb-true (length os) 256 w.0) h)
operand_keeps ts os l n p _ s h e = absurd (not_some e)

compared_keeps : (ts : Tokens) (os : List Enclosing) (l : Level) (n p : ℕ) (x : Term) (op : Operator) (s : TermReader) → IsTrue (is_comparing op) → Holding ts os l n x
    → as_next (when (is_free l.compared && nat_lt n 128) (wanting os (level_with l.or_left l.and_left l.nots (Some (op, joined_term l x)) None) (n + 1))) ≡ Some s → Holds (ts ++ (p, symbol (sign_of op)) ∷ []) s
compared_keeps ts os l n p x op s is h e =
    let w = room_of _ _ _ e in
    let all = both_of (is_free l.compared) (nat_lt n 128) w.0 in
    subst (Holds (ts ++ (p, symbol (sign_of op)) ∷ [])) w.1 (compared_holds p op is all.0 (ltb-true n 128 all.1) h)

close_keeps : (ts : Tokens) (os : List Enclosing) (l : Level) (n p : ℕ) (x : Term) (s : TermReader) → Holding ts os l n x → as_next (read_close os (disjoined l x) n) ≡ Some s → Holds (ts ++ (p, symbol sign.CloseParenthesis) ∷ []) s
close_keeps ts [] l n p x s h e = absurd (not_some e)
close_keeps ts (o ∷ os) l n p x s h e = subst (Holds (ts ++ (p, symbol sign.CloseParenthesis) ∷ [])) (some_is e) (close_holds p h.d h.outside h.here h.us h.outer h.inner h.operand h.split h.count_is h.few)

comma_keeps : (os : List Enclosing) (e : Term) (s : TermReader) → as_next (read_comma os e) ≡ Some s → ⊥
comma_keeps [] x s e = not_some e
comma_keeps (o ∷ os) x s e = not_some e

operator_keeps : (ts : Tokens) (os : List Enclosing) (l : Level) (n p : ℕ) (x : Term) (t : RuleToken) (s : TermReader) → Holding ts os l n x → as_next (read_with os l n (Some x) p t) ≡ Some s → Holds (ts ++ (p, t) ∷ []) s
operator_keeps ts os l n p x (symbol sign.Join) s h e =
    let w = room_of _ _ _ e in subst (Holds (ts ++ (p, symbol sign.Join) ∷ [])) w.1 (join_holds p (ltb-true n 128 w.0) h)
operator_keeps ts os l n p x (symbol sign.And) s h e =
    let w = room_of _ _ _ e in subst (Holds (ts ++ (p, symbol sign.And) ∷ [])) w.1 (and_holds p (ltb-true n 128 w.0) h)
operator_keeps ts os l n p x (symbol sign.Or) s h e =
    let w = room_of _ _ _ e in subst (Holds (ts ++ (p, symbol sign.Or) ∷ [])) w.1 (or_holds p (ltb-true n 128 w.0) h)
operator_keeps ts os l n p x (symbol sign.Equal) s h e = compared_keeps ts os l n p x operator.Equal s refl h e
operator_keeps ts os l n p x (symbol sign.NotEqual) s h e = compared_keeps ts os l n p x operator.NotEqual s refl h e
operator_keeps ts os l n p x (symbol sign.Less) s h e = compared_keeps ts os l n p x operator.Less s refl h e
operator_keeps ts os l n p x (symbol sign.Greater) s h e = compared_keeps ts os l n p x operator.Greater s refl h e
operator_keeps ts os l n p x (symbol sign.AtMost) s h e = compared_keeps ts os l n p x operator.AtMost s refl h e
operator_keeps ts os l n p x (symbol sign.AtLeast) s h e = compared_keeps ts os l n p x operator.AtLeast s refl h e
operator_keeps ts os l n p x (symbol sign.Like) s h e = compared_keeps ts os l n p x operator.Like s refl h e
operator_keeps ts os l n p x (symbol sign.CloseParenthesis) s h e = close_keeps ts os l n p x s h e
operator_keeps ts os l n p x (symbol sign.Comma) s h e = absurd (comma_keeps os (disjoined l x) s e)
operator_keeps ts os l n p x _ s h e = absurd (not_some e)

keeps_with : (ts : Tokens) (os : List Enclosing) (l : Level) (n : ℕ) (o : Option Term) (p : ℕ) (t : RuleToken) (s : TermReader) → HoldsWith ts os l n o → as_next (read_with os l n o p t) ≡ Some s → Holds (ts ++ (p, t) ∷ []) s
keeps_with ts os l n None p t s h e = operand_keeps ts os l n p t s h e
keeps_with ts os l n (Some x) p t s h e = operator_keeps ts os l n p x t s h e

pub term_keeps : (ts : Tokens) (r : TermReader) (t : ℕ × RuleToken) (s : TermReader) → Holds ts r → next_term r t ≡ Some s → Holds (ts ++ t ∷ []) s
term_keeps ts r t s h e = keeps_with ts r.outer r.inner r.count r.operand t.0 t.1 s h e

pub nothing_holds : Holds [] new_reader
nothing_holds = record {
  d = 256;
  outside = [];
  here = [];
  outer = outermost;
  inner = record { ots = []; ats = []; cts = []; jts = []; of_or = no_left; of_and = no_left; of_compared = no_compared; of_join = no_left; split = refl };
  split = refl;
  count_is = omega arith;
  few = omega arith;
}

-- ---- the end of an argument or a condition

argument_of : {l : Level} {n : ℕ} {x : Term} {ts here us : Tokens} {outside : Tokens} {d : ℕ} → Outer 256 d [] outside → (s : LevelSpelled d l here) → SpellsTerm atom d us x → ts ≡ outside ++ (here ++ us) → n ≡ outer_weight [] + (level_weight l + operators x.shape) → n ≤ 128
    → SpellsArgument ts (disjoined l x)
argument_of {l = l} {x = x} {ts = ts} {us = us} outermost s operand split count few = record {
  spells = subst (λ z. SpellsTerm disjunction 256 z (disjoined l x)) (sym (split ∙ ap (λ z. z ++ us) s.split ∙ regroup s.ots s.ats (not_tokens l.nots) s.cts s.jts us)) (of_disjunction s operand);
  few = omega (arith, count, few, disjoined_operators l x);
}
  where
    regroup : (o a n c j us : Tokens) → (o ++ (a ++ (n ++ (c ++ j)))) ++ us ≡ o ++ (a ++ (n ++ (c ++ (j ++ us))))
    regroup o a n c j us = simp append_assoc

-- the argument is behind these tokens, and this is what closes it
pub record Closes (ts : Tokens) (t : RuleToken) (x : Term) (end : RuleToken) : Type 0 where
  pub spells : SpellsArgument ts x
  pub closes : t ≡ end

at_close_is : {e x : Term} → at_close e ≡ at_close x → e ≡ x
at_close_is h = cc

at_comma_is : {e x : Term} → at_comma e ≡ at_comma x → e ≡ x
at_comma_is h = cc

-- what is neither of the two
abbrev IsOther : TermRead → Type 0
IsOther (at_comma e) = ⊥
IsOther (at_close e) = ⊥
IsOther _ = Unit {0}

when_other : (b : Bool) (r : TermReader) → IsOther (when b r)
when_other true r = tt
when_other false r = tt

operand_other : (os : List Enclosing) (l : Level) (n p : ℕ) (t : RuleToken) → IsOther (read_with os l n None p t)
operand_other os l n p (symbol sign.Not) = when_other (is_free l.compared && is_free l.join_left && nat_lt n 128) _
operand_other os l n p (symbol sign.OpenParenthesis) = when_other (nat_lt (length os) 256) _
operand_other os l n p (text m) = tt
operand_other os l n p (number m) = tt
operand_other os l n p (param m) = tt
operand_other os l n p (session m) = tt
operand_other os l n p _ = tt

close_end : (os : List Enclosing) (e x : Term) (n : ℕ) → read_close os e n ≡ at_close x → (os ≡ []) × (e ≡ x)
close_end [] e x n h = (refl, at_close_is h)
close_end (o ∷ os) e x n h = cc

comma_end : (os : List Enclosing) (e x : Term) → read_comma os e ≡ at_comma x → (os ≡ []) × (e ≡ x)
comma_end [] e x h = (refl, at_comma_is h)
comma_end (o ∷ os) e x h = cc

close_no_comma : (os : List Enclosing) (e x : Term) (n : ℕ) → read_close os e n ≡ at_comma x → ⊥
close_no_comma [] e x n h = cc
close_no_comma (o ∷ os) e x n h = cc

comma_no_close : (os : List Enclosing) (e x : Term) → read_comma os e ≡ at_close x → ⊥
comma_no_close [] e x h = cc
comma_no_close (o ∷ os) e x h = cc

argument_behind : {ts : Tokens} {os : List Enclosing} {l : Level} {n : ℕ} {x : Term} (y : Term) → Holding ts os l n x → (os ≡ []) × (disjoined l x ≡ y) → SpellsArgument ts y
argument_behind {ts = ts} {l = l} {n = n} {x = x} y h e =
    subst (SpellsArgument ts) e.1 (argument_of (subst (λ os. Outer 256 h.d os h.outside) e.0 h.outer) h.inner h.operand h.split (subst (λ os. n ≡ outer_weight os + (level_weight l + operators x.shape)) e.0 h.count_is) h.few)

-- what ends an expression is one of the two
operator_ends : {ts : Tokens} {os : List Enclosing} {l : Level} {n : ℕ} {x : Term} (p : ℕ) (t : RuleToken) (y : Term) → Holding ts os l n x → read_with os l n (Some x) p t ≡ at_close y → Closes ts t y (symbol sign.CloseParenthesis)
operator_ends {os = os} {l = l} {n = n} {x = x} p (symbol sign.CloseParenthesis) y h e = record { spells = argument_behind y h (close_end os (disjoined l x) y n e); closes = refl }
operator_ends {os = os} {l = l} {n = n} {x = x} p (symbol sign.Comma) y h e = absurd (comma_no_close os (disjoined l x) y e)
operator_ends {n = n} p (symbol sign.Join) y h e = absurd (subst IsOther e (when_other (nat_lt n 128) _))
operator_ends {n = n} p (symbol sign.And) y h e = absurd (subst IsOther e (when_other (nat_lt n 128) _))
operator_ends {n = n} p (symbol sign.Or) y h e = absurd (subst IsOther e (when_other (nat_lt n 128) _))
operator_ends {l = l} {n = n} p (symbol sign.Equal) y h e = absurd (subst IsOther e (when_other (is_free l.compared && nat_lt n 128) _))
operator_ends {l = l} {n = n} p (symbol sign.NotEqual) y h e = absurd (subst IsOther e (when_other (is_free l.compared && nat_lt n 128) _))
operator_ends {l = l} {n = n} p (symbol sign.Less) y h e = absurd (subst IsOther e (when_other (is_free l.compared && nat_lt n 128) _))
operator_ends {l = l} {n = n} p (symbol sign.Greater) y h e = absurd (subst IsOther e (when_other (is_free l.compared && nat_lt n 128) _))
operator_ends {l = l} {n = n} p (symbol sign.AtMost) y h e = absurd (subst IsOther e (when_other (is_free l.compared && nat_lt n 128) _))
operator_ends {l = l} {n = n} p (symbol sign.AtLeast) y h e = absurd (subst IsOther e (when_other (is_free l.compared && nat_lt n 128) _))
operator_ends {l = l} {n = n} p (symbol sign.Like) y h e = absurd (subst IsOther e (when_other (is_free l.compared && nat_lt n 128) _))
operator_ends p _ y h e = absurd (subst IsOther e tt)

operator_ends_at_comma : {ts : Tokens} {os : List Enclosing} {l : Level} {n : ℕ} {x : Term} (p : ℕ) (t : RuleToken) (y : Term) → Holding ts os l n x → read_with os l n (Some x) p t ≡ at_comma y → Closes ts t y (symbol sign.Comma)
operator_ends_at_comma {os = os} {l = l} {n = n} {x = x} p (symbol sign.CloseParenthesis) y h e = absurd (close_no_comma os (disjoined l x) y n e)
operator_ends_at_comma {os = os} {l = l} {n = n} {x = x} p (symbol sign.Comma) y h e = record { spells = argument_behind y h (comma_end os (disjoined l x) y e); closes = refl }
operator_ends_at_comma {n = n} p (symbol sign.Join) y h e = absurd (subst IsOther e (when_other (nat_lt n 128) _))
operator_ends_at_comma {n = n} p (symbol sign.And) y h e = absurd (subst IsOther e (when_other (nat_lt n 128) _))
operator_ends_at_comma {n = n} p (symbol sign.Or) y h e = absurd (subst IsOther e (when_other (nat_lt n 128) _))
operator_ends_at_comma {l = l} {n = n} p (symbol sign.Equal) y h e = absurd (subst IsOther e (when_other (is_free l.compared && nat_lt n 128) _))
operator_ends_at_comma {l = l} {n = n} p (symbol sign.NotEqual) y h e = absurd (subst IsOther e (when_other (is_free l.compared && nat_lt n 128) _))
operator_ends_at_comma {l = l} {n = n} p (symbol sign.Less) y h e = absurd (subst IsOther e (when_other (is_free l.compared && nat_lt n 128) _))
operator_ends_at_comma {l = l} {n = n} p (symbol sign.Greater) y h e = absurd (subst IsOther e (when_other (is_free l.compared && nat_lt n 128) _))
operator_ends_at_comma {l = l} {n = n} p (symbol sign.AtMost) y h e = absurd (subst IsOther e (when_other (is_free l.compared && nat_lt n 128) _))
operator_ends_at_comma {l = l} {n = n} p (symbol sign.AtLeast) y h e = absurd (subst IsOther e (when_other (is_free l.compared && nat_lt n 128) _))
operator_ends_at_comma {l = l} {n = n} p (symbol sign.Like) y h e = absurd (subst IsOther e (when_other (is_free l.compared && nat_lt n 128) _))
operator_ends_at_comma p _ y h e = absurd (subst IsOther e tt)

ends_with : {ts : Tokens} (os : List Enclosing) (l : Level) (n : ℕ) (o : Option Term) (p : ℕ) (t : RuleToken) (y : Term) → HoldsWith ts os l n o → read_with os l n o p t ≡ at_close y → Closes ts t y (symbol sign.CloseParenthesis)
ends_with os l n None p t y h e = absurd (subst IsOther e (operand_other os l n p t))
ends_with os l n (Some x) p t y h e = operator_ends p t y h e

ends_at_comma_with : {ts : Tokens} (os : List Enclosing) (l : Level) (n : ℕ) (o : Option Term) (p : ℕ) (t : RuleToken) (y : Term) → HoldsWith ts os l n o → read_with os l n o p t ≡ at_comma y → Closes ts t y (symbol sign.Comma)
ends_at_comma_with os l n None p t y h e = absurd (subst IsOther e (operand_other os l n p t))
ends_at_comma_with os l n (Some x) p t y h e = operator_ends_at_comma p t y h e

pub term_closes : (ts : Tokens) (r : TermReader) (p : ℕ) (t : RuleToken) (y : Term) → Holds ts r → read_term r (p, t) ≡ at_close y → Closes ts t y (symbol sign.CloseParenthesis)
term_closes ts r p t y h e = ends_with r.outer r.inner r.count r.operand p t y h e

pub term_ends_at_comma : (ts : Tokens) (r : TermReader) (p : ℕ) (t : RuleToken) (y : Term) → Holds ts r → read_term r (p, t) ≡ at_comma y → Closes ts t y (symbol sign.Comma)
term_ends_at_comma ts r p t y h e = ends_at_comma_with r.outer r.inner r.count r.operand p t y h e

-- ---- every reader leads on to an end of its expression

-- tokens behind which the expression may end
pub record EndsOn (r : TermReader) : Type 0 where
  pub more : Tokens
  pub inner : Level
  pub count : ℕ
  pub operand : Term
  pub runs : run next_term r more ≡ Some (behind_operand [] inner count operand)

close_all : (os : List Enclosing) (l : Level) (n : ℕ) (x : Term) → EndsOn (behind_operand os l n x)
close_all [] l n x = record { more = []; inner = l; count = n; operand = x; runs = refl }
close_all (o ∷ os) l n x =
    let w = close_all os o.around n (placed_term o.place (disjoined l x).shape) in
    record { more = (0, symbol sign.CloseParenthesis) ∷ w.more; inner = w.inner; count = w.count; operand = w.operand; runs = w.runs }

ends_on_with : (os : List Enclosing) (l : Level) (n : ℕ) (o : Option Term) → EndsOn (record { outer = os; inner = l; count = n; operand = o })
ends_on_with os l n (Some x) = close_all os l n x
ends_on_with os l n None =
    let w = close_all os l n (placed_term 0 (truth true)) in
    record { more = (0, symbol sign.True) ∷ w.more; inner = w.inner; count = w.count; operand = w.operand; runs = w.runs }

pub ends_on : (r : TermReader) → EndsOn r
ends_on r = ends_on_with r.outer r.inner r.count r.operand
