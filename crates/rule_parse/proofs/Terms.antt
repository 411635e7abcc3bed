-- What spells an expression is read as it.
use Rattle.std.proofs.Common.{◌≡◌, ℕ, ◌+◌, ◌<◌, ◌≤◌, Bool, true, false, List, [], ◌∷◌, ◌++◌, length, Option, Some, None, refl, ap, subst, ◌∙◌, arith}
use Rattle.std.specs.Prelude.{IsTrue, nat_lt}
use Rattle.std.proofs.lemmas.Bool.{both_ways, lt-ltb}
use Rattle.grid_model.specs.Parsed.{Term}
use Rattle.grid_model.specs.declared.rules.Operator.{Operator}
use Rattle.grid_model.specs.declared.rules.Operator.TheVariants as operator
use Rattle.rule_lex.specs.Tokens.{symbol}
use Rattle.rule_lex.specs.declared.token.Symbol.TheVariants as sign
use Rattle.rule_parse.specs.Grammar.{Tokens, Rank, disjunction, conjunction, negation, comparison, joining, atom, SpellsArgument, SpellsTerm, one_and, ors, one_not, ands, one_comparison, nots, one_join, compares, one_atom, joins, a_text, a_number, a_param, a_session, a_true, a_false, enclosing as in_parentheses, applied_term, not_at, placed_term, operators, is_comparing, sign_of}
use Rattle.rule_parse.specs.Readers.{Enclosing, enclosing, Level, level_with, empty_level, TermReader, wanting, behind_operand, with_left, with_compared, with_nots, when, as_next, next_term}
use Rattle.rule_parse.proofs.Machines.{run, run_cons, run_then}

abbrev pub reads : TermReader → Tokens → Option TermReader
reads r ts = run next_term r ts

-- ---- single tokens

when_true : (b : Bool) (r : TermReader) → b ≡ true → as_next (when b r) ≡ Some r
when_true b r h = ap (λ x. as_next (when x r)) h

-- how many operators there may still be
room : (n : ℕ) → n < 128 → nat_lt n 128 ≡ true
room n h = lt-ltb n 128 h

join_read : (os : List Enclosing) (l : Level) (n p : ℕ) (x : Term) → n < 128
    → next_term (behind_operand os l n x) (p, symbol sign.Join) ≡ Some (wanting os (level_with l.or_left l.and_left l.nots l.compared (Some (with_left operator.Join l.join_left x))) (n + 1))
join_read os l n p x h = when_true (nat_lt n 128) _ (room n h)

compare_read : (os : List Enclosing) (o a : Option Term) (ns : List ℕ) (j : Option Term) (n p : ℕ) (op : Operator) (x : Term) → n < 128 → IsTrue (is_comparing op)
    → next_term (behind_operand os (level_with o a ns None j) n x) (p, symbol (sign_of op)) ≡ Some (wanting os (level_with o a ns (Some (op, with_left operator.Join j x)) None) (n + 1))
compare_read os o a ns j n p operator.Or x h is = absurd (both_ways false refl is)
compare_read os o a ns j n p operator.And x h is = absurd (both_ways false refl is)
compare_read os o a ns j n p operator.Join x h is = absurd (both_ways false refl is)
compare_read os o a ns j n p operator.Equal x h is = when_true (nat_lt n 128) _ (room n h)
compare_read os o a ns j n p operator.NotEqual x h is = when_true (nat_lt n 128) _ (room n h)
compare_read os o a ns j n p operator.Less x h is = when_true (nat_lt n 128) _ (room n h)
compare_read os o a ns j n p operator.Greater x h is = when_true (nat_lt n 128) _ (room n h)
compare_read os o a ns j n p operator.AtMost x h is = when_true (nat_lt n 128) _ (room n h)
compare_read os o a ns j n p operator.AtLeast x h is = when_true (nat_lt n 128) _ (room n h)
compare_read os o a ns j n p operator.Like x h is = when_true (nat_lt n 128) _ (room n h)

-- ---- what is read behind the tokens of each rank

record Joined (os : List Enclosing) (o a : Option Term) (ns : List ℕ) (c : Option (Operator × Term)) (n : ℕ) (ts : Tokens) (e : Term) : Type 0 where
  j : Option Term
  x : Term
  runs : reads (wanting os (level_with o a ns c None) n) ts ≡ Some (behind_operand os (level_with o a ns c j) (n + operators e.shape) x)
  value : with_left operator.Join j x ≡ e

record Compared (os : List Enclosing) (o a : Option Term) (ns : List ℕ) (n : ℕ) (ts : Tokens) (e : Term) : Type 0 where
  c : Option (Operator × Term)
  j : Option Term
  x : Term
  runs : reads (wanting os (level_with o a ns None None) n) ts ≡ Some (behind_operand os (level_with o a ns c j) (n + operators e.shape) x)
  value : with_compared c (with_left operator.Join j x) ≡ e

record Negated (os : List Enclosing) (o a : Option Term) (ns : List ℕ) (n : ℕ) (ts : Tokens) (e : Term) : Type 0 where
  ms : List ℕ
  c : Option (Operator × Term)
  j : Option Term
  x : Term
  runs : reads (wanting os (level_with o a ns None None) n) ts ≡ Some (behind_operand os (level_with o a ms c j) (n + operators e.shape) x)
  value : with_nots ms (with_compared c (with_left operator.Join j x)) ≡ with_nots ns e

record Conjoined (os : List Enclosing) (o : Option Term) (n : ℕ) (ts : Tokens) (e : Term) : Type 0 where
  a : Option Term
  ms : List ℕ
  c : Option (Operator × Term)
  j : Option Term
  x : Term
  runs : reads (wanting os (level_with o None [] None None) n) ts ≡ Some (behind_operand os (level_with o a ms c j) (n + operators e.shape) x)
  value : with_left operator.And a (with_nots ms (with_compared c (with_left operator.Join j x))) ≡ e

pub record Disjoined (os : List Enclosing) (n : ℕ) (ts : Tokens) (e : Term) : Type 0 where
  pub o : Option Term
  pub a : Option Term
  pub ms : List ℕ
  pub c : Option (Operator × Term)
  pub j : Option Term
  pub x : Term
  pub runs : reads (wanting os empty_level n) ts ≡ Some (behind_operand os (level_with o a ms c j) (n + operators e.shape) x)
  pub value : with_left operator.Or o (with_left operator.And a (with_nots ms (with_compared c (with_left operator.Join j x)))) ≡ e

-- what is said of the tokens of a rank, wherever they may stand
abbrev Claim : Rank → List Enclosing → ℕ → Tokens → Term → Type 0
Claim atom os n ts e = (l : Level) → reads (wanting os l n) ts ≡ Some (behind_operand os l (n + operators e.shape) e)
Claim joining os n ts e = (o a : Option Term) (ns : List ℕ) (c : Option (Operator × Term)) → Joined os o a ns c n ts e
Claim comparison os n ts e = (o a : Option Term) (ns : List ℕ) → Compared os o a ns n ts e
Claim negation os n ts e = (o a : Option Term) (ns : List ℕ) → Negated os o a ns n ts e
Claim conjunction os n ts e = (o : Option Term) → Conjoined os o n ts e
Claim disjunction os n ts e = Disjoined os n ts e

abbrev Claims : Rank → ℕ → Tokens → Term → Type 0
Claims r d ts e = (os : List Enclosing) (n : ℕ) → n + operators e.shape ≤ 128 → length os + d ≤ 256 → Claim r os n ts e

-- ---- each rule of the grammar

more_operators : (k : ℕ → TermReader) (ts : Tokens) (r : TermReader) (m n : ℕ) → m ≡ n → reads r ts ≡ Some (k m) → reads r ts ≡ Some (k n)
more_operators k ts r m n e h = h ∙ ap (λ i. Some (k i)) e

pub with_nots-more : (ns : List ℕ) (p : ℕ) (e : Term) → with_nots (ns ++ p ∷ []) e ≡ with_nots ns (not_at p e)
with_nots-more [] p e = refl
with_nots-more (m ∷ ns) p e = ap (not_at m) (with_nots-more ns p e)

-- the tokens on the left, an operator, and those on its right
three_parts : (r s t : TermReader) (k : ℕ → TermReader) (all left right : Tokens) (p : ℕ) (op : Operator) (m n : ℕ) → all ≡ left ++ (p, symbol (sign_of op)) ∷ right
    → reads r left ≡ Some s → next_term s (p, symbol (sign_of op)) ≡ Some t → reads t right ≡ Some (k m) → m ≡ n → reads r all ≡ Some (k n)
three_parts r s t k all left right p op m n split on_left step on_right e =
    ap (reads r) split ∙ run_then next_term r left ((p, symbol (sign_of op)) ∷ right) s (Some (k n)) on_left (run_cons next_term s (p, symbol (sign_of op)) right t (Some (k n)) step (on_right ∙ ap (λ i. Some (k i)) e))

joins_on : (os : List Enclosing) (o a : Option Term) (ns : List ℕ) (c : Option (Operator × Term)) (n p : ℕ) (all left right : Tokens) (x y : Term) → all ≡ left ++ (p, symbol sign.Join) ∷ right → n + operators x.shape < 128
    → Joined os o a ns c n left x → reads (wanting os (level_with o a ns c (Some x)) (n + operators x.shape + 1)) right ≡ Some (behind_operand os (level_with o a ns c (Some x)) (n + operators x.shape + 1 + operators y.shape) y)
    → Joined os o a ns c n all (applied_term operator.Join x y)
joins_on os o a ns c n p all left right x y split few l r = record {
  j = Some x;
  x = y;
  runs = three_parts _ _ (wanting os (level_with o a ns c (Some x)) (n + operators x.shape + 1)) (λ k. behind_operand os (level_with o a ns c (Some x)) k y) all left right p operator.Join (n + operators x.shape + 1 + operators y.shape) (n + (operators x.shape + operators y.shape + 1)) split l.runs
      (subst (λ z. next_term (behind_operand os (level_with o a ns c l.j) (n + operators x.shape) l.x) (p, symbol sign.Join) ≡ Some (wanting os (level_with o a ns c (Some z)) (n + operators x.shape + 1))) l.value (join_read os (level_with o a ns c l.j) (n + operators x.shape) p l.x few))
      r (omega arith);
  value = refl;
}

compares_on : (os : List Enclosing) (o a : Option Term) (ns : List ℕ) (n p : ℕ) (op : Operator) (all left right : Tokens) (x y : Term) → IsTrue (is_comparing op) → all ≡ left ++ (p, symbol (sign_of op)) ∷ right → n + operators x.shape < 128
    → Joined os o a ns None n left x → Joined os o a ns (Some (op, x)) (n + operators x.shape + 1) right y → Compared os o a ns n all (applied_term op x y)
compares_on os o a ns n p op all left right x y is split few l r = record {
  c = Some (op, x);
  j = r.j;
  x = r.x;
  runs = three_parts _ _ (wanting os (level_with o a ns (Some (op, x)) None) (n + operators x.shape + 1)) (λ k. behind_operand os (level_with o a ns (Some (op, x)) r.j) k r.x) all left right p op (n + operators x.shape + 1 + operators y.shape) (n + (operators x.shape + operators y.shape + 1)) split l.runs
      (subst (λ z. next_term (behind_operand os (level_with o a ns None l.j) (n + operators x.shape) l.x) (p, symbol (sign_of op)) ≡ Some (wanting os (level_with o a ns (Some (op, z)) None) (n + operators x.shape + 1))) l.value (compare_read os o a ns l.j (n + operators x.shape) p op l.x few is))
      r.runs (omega arith);
  value = ap (applied_term op x) r.value;
}

nots_on : (os : List Enclosing) (o a : Option Term) (ns : List ℕ) (n p : ℕ) (ts : Tokens) (e : Term) → n < 128 → Negated os o a (ns ++ p ∷ []) (n + 1) ts e → Negated os o a ns n ((p, symbol sign.Not) ∷ ts) (not_at p e)
nots_on os o a ns n p ts e few w = record {
  ms = w.ms;
  c = w.c;
  j = w.j;
  x = w.x;
  runs = run_cons next_term (wanting os (level_with o a ns None None) n) (p, symbol sign.Not) ts (wanting os (level_with o a (ns ++ p ∷ []) None None) (n + 1)) _ (when_true (nat_lt n 128) _ (room n few))
      (w.runs ∙ ap (λ k. Some (behind_operand os (level_with o a w.ms w.c w.j) k w.x)) (omega arith));
  value = w.value ∙ with_nots-more ns p e;
}

ands_on : (os : List Enclosing) (o : Option Term) (n p : ℕ) (all left right : Tokens) (x y : Term) → all ≡ left ++ (p, symbol sign.And) ∷ right → n + operators x.shape < 128
    → Conjoined os o n left x → Negated os o (Some x) [] (n + operators x.shape + 1) right y → Conjoined os o n all (applied_term operator.And x y)
ands_on os o n p all left right x y split few l r = record {
  a = Some x;
  ms = r.ms;
  c = r.c;
  j = r.j;
  x = r.x;
  runs = three_parts _ _ (wanting os (level_with o (Some x) [] None None) (n + operators x.shape + 1)) (λ k. behind_operand os (level_with o (Some x) r.ms r.c r.j) k r.x) all left right p operator.And (n + operators x.shape + 1 + operators y.shape) (n + (operators x.shape + operators y.shape + 1)) split l.runs
      (subst (λ z. next_term (behind_operand os (level_with o l.a l.ms l.c l.j) (n + operators x.shape) l.x) (p, symbol sign.And) ≡ Some (wanting os (level_with o (Some z) [] None None) (n + operators x.shape + 1))) l.value (when_true (nat_lt (n + operators x.shape) 128) _ (room (n + operators x.shape) few)))
      r.runs (omega arith);
  value = ap (applied_term operator.And x) r.value;
}

ors_on : (os : List Enclosing) (n p : ℕ) (all left right : Tokens) (x y : Term) → all ≡ left ++ (p, symbol sign.Or) ∷ right → n + operators x.shape < 128
    → Disjoined os n left x → Conjoined os (Some x) (n + operators x.shape + 1) right y → Disjoined os n all (applied_term operator.Or x y)
ors_on os n p all left right x y split few l r = record {
  o = Some x;
  a = r.a;
  ms = r.ms;
  c = r.c;
  j = r.j;
  x = r.x;
  runs = three_parts _ _ (wanting os (level_with (Some x) None [] None None) (n + operators x.shape + 1)) (λ k. behind_operand os (level_with (Some x) r.a r.ms r.c r.j) k r.x) all left right p operator.Or (n + operators x.shape + 1 + operators y.shape) (n + (operators x.shape + operators y.shape + 1)) split l.runs
      (subst (λ z. next_term (behind_operand os (level_with l.o l.a l.ms l.c l.j) (n + operators x.shape) l.x) (p, symbol sign.Or) ≡ Some (wanting os (level_with (Some z) None [] None None) (n + operators x.shape + 1))) l.value (when_true (nat_lt (n + operators x.shape) 128) _ (room (n + operators x.shape) few)))
      r.runs (omega arith);
  value = ap (applied_term operator.Or x) r.value;
}

encloses : (os : List Enclosing) (l : Level) (n start close : ℕ) (all ts : Tokens) (e : Term) → all ≡ (start, symbol sign.OpenParenthesis) ∷ ts ++ (close, symbol sign.CloseParenthesis) ∷ [] → length os < 256
    → Disjoined (enclosing start l ∷ os) n ts e → reads (wanting os l n) all ≡ Some (behind_operand os l (n + operators e.shape) (placed_term start e.shape))
encloses os l n start close all ts e split deep w =
    ap (reads (wanting os l n)) split
    ∙ run_cons next_term (wanting os l n) (start, symbol sign.OpenParenthesis) (ts ++ (close, symbol sign.CloseParenthesis) ∷ []) (wanting (enclosing start l ∷ os) empty_level n) _ (when_true (nat_lt (length os) 256) _ (lt-ltb (length os) 256 deep))
    (run_then next_term (wanting (enclosing start l ∷ os) empty_level n) ts ((close, symbol sign.CloseParenthesis) ∷ []) _ _ w.runs
    (run_cons next_term (behind_operand (enclosing start l ∷ os) (level_with w.o w.a w.ms w.c w.j) (n + operators e.shape) w.x) (close, symbol sign.CloseParenthesis) [] (behind_operand os l (n + operators e.shape) (placed_term start e.shape)) _ (ap (λ (z : Term). Some (behind_operand os l (n + operators e.shape) (placed_term start z.shape))) w.value) refl))

alone : (os : List Enclosing) (l : Level) (n : ℕ) (e : Term) → Some (behind_operand os l n e) ≡ Some (behind_operand os l (n + 0) e)
alone os l n e = ap (λ k. Some (behind_operand os l k e)) (omega arith)

claims : {r : Rank} {d : ℕ} {ts : Tokens} {e : Term} → SpellsTerm r d ts e → Claims r d ts e
claims (one_and h) os n few deep =
    let w = claims h os n few deep None in record { o = None; a = w.a; ms = w.ms; c = w.c; j = w.j; x = w.x; runs = w.runs; value = w.value }
claims (ors {all = all} {left = left} {right = right} {x = x} {y = y} place h g split) os n few deep =
    ors_on os n place all left right x y split (omega (arith, few)) (claims h os n (omega (arith, few)) deep) (claims g os (n + operators x.shape + 1) (omega (arith, few)) deep (Some x))
claims (one_not h) os n few deep = λ o.
    let w = claims h os n few deep o None [] in record { a = None; ms = w.ms; c = w.c; j = w.j; x = w.x; runs = w.runs; value = w.value }
claims (ands {all = all} {left = left} {right = right} {x = x} {y = y} place h g split) os n few deep = λ o.
    ands_on os o n place all left right x y split (omega (arith, few)) (claims h os n (omega (arith, few)) deep o) (claims g os (n + operators x.shape + 1) (omega (arith, few)) deep o (Some x) [])
claims (one_comparison h) os n few deep = λ o a ns.
    let w = claims h os n few deep o a ns in record { ms = ns; c = w.c; j = w.j; x = w.x; runs = w.runs; value = ap (with_nots ns) w.value }
claims (nots {ts = ts} {e = e} place h) os n few deep = λ o a ns.
    nots_on os o a ns n place ts e (omega (arith, few)) (claims h os (n + 1) (omega (arith, few)) deep o a (ns ++ place ∷ []))
claims (one_join h) os n few deep = λ o a ns.
    let w = claims h os n few deep o a ns None in record { c = None; j = w.j; x = w.x; runs = w.runs; value = w.value }
claims (compares {all = all} {left = left} {right = right} {x = x} {y = y} place op is h g split) os n few deep = λ o a ns.
    compares_on os o a ns n place op all left right x y is split (omega (arith, few)) (claims h os n (omega (arith, few)) deep o a ns None) (claims g os (n + operators x.shape + 1) (omega (arith, few)) deep o a ns (Some (op, x)))
claims (one_atom {e = e} h) os n few deep = λ o a ns c. record { j = None; x = e; runs = claims h os n few deep (level_with o a ns c None); value = refl }
claims (joins {all = all} {left = left} {right = right} {x = x} {y = y} place h g split) os n few deep = λ o a ns c.
    joins_on os o a ns c n place all left right x y split (omega (arith, few)) (claims h os n (omega (arith, few)) deep o a ns c) (claims g os (n + operators x.shape + 1) (omega (arith, few)) deep (level_with o a ns c (Some x)))
claims (a_text place t) os n few deep = λ l. alone os l n _
claims (a_number place z) os n few deep = λ l. alone os l n _
claims (a_param place m) os n few deep = λ l. alone os l n _
claims (a_session place m) os n few deep = λ l. alone os l n _
claims (a_true place) os n few deep = λ l. alone os l n _
claims (a_false place) os n few deep = λ l. alone os l n _
claims (in_parentheses {all = all} {ts = ts} {e = e} start close h split) os n few deep = λ l.
    encloses os l n start close all ts e split (omega (arith, deep)) (claims h (enclosing start l ∷ os) n few (omega (arith, deep)))

-- an argument or a condition, from its start to what closes it
pub argument_reads : {ts : Tokens} {e : Term} → SpellsArgument ts e → Disjoined [] 0 ts e
argument_reads h = claims h.spells [] 0 (subst (λ k. k ≤ 128) (omega arith) h.few) (omega arith)
