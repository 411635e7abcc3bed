-- The printed tokens of an expression spell it again.
use Rattle.std.proofs.Common.{◌≡◌, ℕ, zero, suc, ◌+◌, ◌<◌, ◌≤◌, Bool, true, false, List, [], ◌∷◌, ◌++◌, map, refl, sym, ap, subst, ◌∙◌, arith}
use Rattle.std.proofs.lemmas.List.{map-append}
use Rattle.grid_model.specs.RuleText.{Expr, truth, negated, applied}
use Rattle.grid_model.specs.Parsed as parsed
use Rattle.grid_model.specs.Parsed.{Shape, Term, plain_shape, plain}
use Rattle.grid_model.specs.declared.rules.Operator.{Operator}
use Rattle.grid_model.specs.declared.rules.Operator.TheVariants as operator
use Rattle.rule_lex.specs.Tokens.{RuleToken, param, session as session_token, number as number_token, text, symbol, a_symbol}
use Rattle.rule_lex.specs.declared.token.Symbol.TheVariants as sign
use Rattle.rule_parse.specs.Grammar.{Tokens, sign_of, Rank, disjunction, conjunction, comparison, atom, SpellsTerm, one_and, ors, one_not, ands, one_comparison, nots, one_join, compares, one_atom, joins, a_text, a_number, a_param, a_session, a_true, a_false, enclosing, placed_term, applied_term, not_at, operators, SpellsArgument}
use Rattle.rule_parse.specs.Printed.{in_parentheses, is_operation, as_operand, expr_tokens}
use Rattle.rule_parse.proofs.TokenLexing.{IsWritable, AllWritable}

-- tokens without their places
abbrev pub kinds : Tokens → List RuleToken
kinds ts = map (λ (t : ℕ × RuleToken). t.1) ts

-- ---- tokens that were put together, taken apart

pub record Headed (ts : Tokens) (t : RuleToken) (rest : List RuleToken) : Type 0 where
  pub place : ℕ
  pub behind : Tokens
  pub split : ts ≡ (place, t) ∷ behind
  pub kinds_are : kinds behind ≡ rest

head_is : {t u : RuleToken} {ts us : List RuleToken} → t ∷ ts ≡ u ∷ us → t ≡ u
head_is h = cc

tail_is : {t u : RuleToken} {ts us : List RuleToken} → t ∷ ts ≡ u ∷ us → ts ≡ us
tail_is h = cc

pub headed : (ts : Tokens) (t : RuleToken) (rest : List RuleToken) → kinds ts ≡ t ∷ rest → Headed ts t rest
headed [] t rest h = cc
headed (u ∷ ts) t rest h = record { place = u.0; behind = ts; split = ap (λ k. (u.0, k) ∷ ts) (head_is h); kinds_are = tail_is h }

pub record Parted (ts : Tokens) (us vs : List RuleToken) : Type 0 where
  pub left : Tokens
  pub right : Tokens
  pub split : ts ≡ left ++ right
  pub left_are : kinds left ≡ us
  pub right_are : kinds right ≡ vs

pub parted : (ts : Tokens) (us vs : List RuleToken) → kinds ts ≡ us ++ vs → Parted ts us vs
parted ts [] vs h = record { left = []; right = ts; split = refl; left_are = refl; right_are = h }
parted ts (u ∷ us) vs h =
    let w = headed ts u (us ++ vs) h in
    let p = parted w.behind us vs w.kinds_are in
    record { left = (w.place, u) ∷ p.left; right = p.right; split = w.split ∙ ap (λ l. (w.place, u) ∷ l) p.split; left_are = ap (λ l. u ∷ l) p.left_are; right_are = p.right_are }

pub none_left : (ts : Tokens) → kinds ts ≡ [] → ts ≡ []
none_left [] h = refl
none_left (t ∷ ts) h = cc

-- ---- from rank to rank

to_conjunction : {d : ℕ} {ts : Tokens} {e : Term} → SpellsTerm atom d ts e → SpellsTerm conjunction d ts e
to_conjunction h = one_not (one_comparison (one_join (one_atom h)))

to_disjunction : {d : ℕ} {ts : Tokens} {e : Term} → SpellsTerm atom d ts e → SpellsTerm disjunction d ts e
to_disjunction h = one_and (to_conjunction h)

of_comparison : {d : ℕ} {ts : Tokens} {e : Term} → SpellsTerm comparison d ts e → SpellsTerm disjunction d ts e
of_comparison h = one_and (one_not (one_comparison h))

applied_spelled : {d : ℕ} {all left right : Tokens} {x y : Term} (op : Operator) (p : ℕ) → SpellsTerm atom d left x → SpellsTerm atom d right y → all ≡ left ++ (p, symbol (sign_of op)) ∷ right → SpellsTerm disjunction d all (applied_term op x y)
applied_spelled operator.Or p h g split = ors p (to_disjunction h) (to_conjunction g) split
applied_spelled operator.And p h g split = one_and (ands p (to_conjunction h) (one_comparison (one_join (one_atom g))) split)
applied_spelled operator.Join p h g split = of_comparison (one_join (joins p (one_atom h) g split))
applied_spelled operator.Equal p h g split = of_comparison (compares p operator.Equal refl (one_atom h) (one_atom g) split)
applied_spelled operator.NotEqual p h g split = of_comparison (compares p operator.NotEqual refl (one_atom h) (one_atom g) split)
applied_spelled operator.Less p h g split = of_comparison (compares p operator.Less refl (one_atom h) (one_atom g) split)
applied_spelled operator.Greater p h g split = of_comparison (compares p operator.Greater refl (one_atom h) (one_atom g) split)
applied_spelled operator.AtMost p h g split = of_comparison (compares p operator.AtMost refl (one_atom h) (one_atom g) split)
applied_spelled operator.AtLeast p h g split = of_comparison (compares p operator.AtLeast refl (one_atom h) (one_atom g) split)
applied_spelled operator.Like p h g split = of_comparison (compares p operator.Like refl (one_atom h) (one_atom g) split)

-- ---- an expression

pub record SpelledAgain (r : Rank) (d : ℕ) (ts : Tokens) (e : Shape) : Type 0 where
  pub again : Term
  pub spells : SpellsTerm r d ts again
  pub same : plain_shape again.shape ≡ plain_shape e

abbrev Again : Shape → Type 0
Again e = (d : ℕ) (ts : Tokens) → operators e ≤ d → kinds ts ≡ expr_tokens (plain_shape e) → SpelledAgain disjunction d ts e

an_atom : (d : ℕ) (ts : Tokens) (t : RuleToken) (e : Shape) (again : ℕ → Term) → ((p : ℕ) → SpellsTerm atom d ((p, t) ∷ []) (again p)) → ((p : ℕ) → plain_shape (again p).shape ≡ plain_shape e) → kinds ts ≡ t ∷ [] → SpelledAgain atom d ts e
an_atom d ts t e again spells same h =
    let w = headed ts t [] h in
    record { again = again w.place; spells = subst (λ l. SpellsTerm atom d l (again w.place)) (sym (w.split ∙ ap (λ l. (w.place, t) ∷ l) (none_left w.behind w.kinds_are))) (spells w.place); same = same w.place }

lifted : {d : ℕ} {ts : Tokens} {e : Shape} → SpelledAgain atom d ts e → SpelledAgain disjunction d ts e
lifted h = record { again = h.again; spells = to_disjunction h.spells; same = h.same }

-- in parentheses
enclosed : (e : Shape) → Again e → (d : ℕ) (ts : Tokens) → operators e < d → kinds ts ≡ in_parentheses (expr_tokens (plain_shape e)) → SpelledAgain atom d ts e
enclosed e whole zero ts less h = absurd (omega (arith, less))
enclosed e whole (suc d) ts less h =
    let w = headed ts (symbol sign.OpenParenthesis) (expr_tokens (plain_shape e) ++ symbol sign.CloseParenthesis ∷ []) h in
    let p = parted w.behind (expr_tokens (plain_shape e)) (symbol sign.CloseParenthesis ∷ []) w.kinds_are in
    let l = headed p.right (symbol sign.CloseParenthesis) [] p.right_are in
    let inner = whole d p.left (omega (arith, less)) p.left_are in
    record {
      again = placed_term w.place inner.again.shape;
      spells = enclosing w.place l.place inner.spells (w.split ∙ ap (λ z. (w.place, symbol sign.OpenParenthesis) ∷ z) (p.split ∙ ap (λ z. p.left ++ z) (l.split ∙ ap (λ z. (l.place, symbol sign.CloseParenthesis) ∷ z) (none_left l.behind l.kinds_are))));
      same = inner.same;
    }

truth_atom : (b : Bool) (d : ℕ) (ts : Tokens) → kinds ts ≡ expr_tokens (truth b) → SpelledAgain atom d ts (parsed.truth b)
truth_atom true d ts h = an_atom d ts (symbol sign.True) (parsed.truth true) (λ p. placed_term p (parsed.truth true)) (λ p. a_true p) (λ p. refl) h
truth_atom false d ts h = an_atom d ts (symbol sign.False) (parsed.truth false) (λ p. placed_term p (parsed.truth false)) (λ p. a_false p) (λ p. refl) h

-- an operand, by what is known of it alone
operand : (e : Shape) → Again e → (d : ℕ) (ts : Tokens) → operators e < d → kinds ts ≡ as_operand (plain_shape e) (expr_tokens (plain_shape e)) → SpelledAgain atom d ts e
operand (parsed.literal t) whole d ts less h = an_atom d ts (text t) (parsed.literal t) (λ p. placed_term p (parsed.literal t)) (λ p. a_text p t) (λ p. refl) h
operand (parsed.number z) whole d ts less h = an_atom d ts (number_token z) (parsed.number z) (λ p. placed_term p (parsed.number z)) (λ p. a_number p z) (λ p. refl) h
operand (parsed.truth b) whole d ts less h = truth_atom b d ts h
operand (parsed.parameter own n) whole d ts less h = an_atom d ts (param n) (parsed.parameter own n) (λ p. placed_term p (parsed.parameter p n)) (λ p. a_param p n) (λ p. refl) h
operand (parsed.session own n) whole d ts less h = an_atom d ts (session_token n) (parsed.session own n) (λ p. placed_term p (parsed.session p n)) (λ p. a_session p n) (λ p. refl) h
operand (parsed.negated p e) whole d ts less h = enclosed (parsed.negated p e) whole d ts less h
operand (parsed.applied op p x q y) whole d ts less h = enclosed (parsed.applied op p x q y) whole d ts less h

pub term_again : (e : Shape) → Again e
term_again (parsed.literal t) d ts few h = lifted (an_atom d ts (text t) (parsed.literal t) (λ p. placed_term p (parsed.literal t)) (λ p. a_text p t) (λ p. refl) h)
term_again (parsed.number z) d ts few h = lifted (an_atom d ts (number_token z) (parsed.number z) (λ p. placed_term p (parsed.number z)) (λ p. a_number p z) (λ p. refl) h)
term_again (parsed.truth b) d ts few h = lifted (truth_atom b d ts h)
term_again (parsed.parameter own n) d ts few h = lifted (an_atom d ts (param n) (parsed.parameter own n) (λ p. placed_term p (parsed.parameter p n)) (λ p. a_param p n) (λ p. refl) h)
term_again (parsed.session own n) d ts few h = lifted (an_atom d ts (session_token n) (parsed.session own n) (λ p. placed_term p (parsed.session p n)) (λ p. a_session p n) (λ p. refl) h)
term_again (parsed.negated p e) d ts few h =
    let w = headed ts (symbol sign.Not) (as_operand (plain_shape e) (expr_tokens (plain_shape e))) h in
    let x = operand e (term_again e) d w.behind (omega (arith, few)) w.kinds_are in
    record {
      again = not_at w.place x.again;
      spells = subst (λ l. SpellsTerm disjunction d l (not_at w.place x.again)) (sym w.split) (one_and (one_not (nots w.place (one_comparison (one_join (one_atom x.spells))))));
      same = ap negated x.same;
    }
term_again (parsed.applied op p e q f) d ts few h =
    let w = parted ts (as_operand (plain_shape e) (expr_tokens (plain_shape e))) (symbol (sign_of op) ∷ as_operand (plain_shape f) (expr_tokens (plain_shape f))) h in
    let s = headed w.right (symbol (sign_of op)) (as_operand (plain_shape f) (expr_tokens (plain_shape f))) w.right_are in
    let x = operand e (term_again e) d w.left (omega (arith, few)) w.left_are in
    let y = operand f (term_again f) d s.behind (omega (arith, few)) s.kinds_are in
    record {
      again = applied_term op x.again y.again;
      spells = applied_spelled op s.place x.spells y.spells (w.split ∙ ap (λ l. w.left ++ l) s.split);
      same = ap (λ z. applied op z (plain_shape y.again.shape)) x.same ∙ ap (applied op (plain_shape e)) y.same;
    }

-- ---- its operators are as many

abbrev plain_operators : Expr → ℕ
plain_operators (negated e) = plain_operators e + 1
plain_operators (applied op x y) = plain_operators x + plain_operators y + 1
plain_operators _ = 0

operators_plain : (e : Shape) → operators e ≡ plain_operators (plain_shape e)
operators_plain (parsed.literal t) = refl
operators_plain (parsed.number z) = refl
operators_plain (parsed.truth b) = refl
operators_plain (parsed.parameter own n) = refl
operators_plain (parsed.session own n) = refl
operators_plain (parsed.negated p e) = ap (λ n. n + 1) (operators_plain e)
operators_plain (parsed.applied op p x q y) = omega (arith, operators_plain x, operators_plain y)

-- ---- what its tokens are

pub writable_append : (ts us : List RuleToken) → AllWritable ts → AllWritable us → AllWritable (ts ++ us)
writable_append [] us h g = g
writable_append (t ∷ ts) us h g = (h.0, writable_append ts us h.1 g)

pub writable_left : (ts us : List RuleToken) → AllWritable (ts ++ us) → AllWritable ts
writable_left [] us h = tt
writable_left (t ∷ ts) us h = (h.0, writable_left ts us h.1)

pub writable_right : (ts us : List RuleToken) → AllWritable (ts ++ us) → AllWritable us
writable_right [] us h = h
writable_right (t ∷ ts) us h = writable_right ts us h.1

pub writable_symbol : (x : _) → IsWritable (symbol x)
writable_symbol x = a_symbol x refl

pub writable_enclosed : (ts : List RuleToken) → AllWritable ts → AllWritable (in_parentheses ts)
writable_enclosed ts h = (writable_symbol sign.OpenParenthesis, writable_append ts (symbol sign.CloseParenthesis ∷ []) h (writable_symbol sign.CloseParenthesis, tt))

writable_operand : (e : Expr) (ts : List RuleToken) → AllWritable ts → AllWritable (as_operand e ts)
writable_operand e ts h = by (is_operation e)
  where
    by : (b : Bool) → AllWritable (elim b as (λ x. List RuleToken) [ true ↦ in_parentheses ts | false ↦ ts ])
    by true = writable_enclosed ts h
    by false = h

-- the parts of tokens that were put together are
pub left_writable : (all left right : Tokens) (t : ℕ × RuleToken) → all ≡ left ++ t ∷ right → AllWritable (kinds all) → AllWritable (kinds left)
left_writable all left right t split h = writable_left (kinds left) (kinds (t ∷ right)) (subst AllWritable (ap kinds split ∙ map-append (λ (t : ℕ × RuleToken). t.1) left (t ∷ right)) h)

pub right_writable : (all left right : Tokens) (t : ℕ × RuleToken) → all ≡ left ++ t ∷ right → AllWritable (kinds all) → AllWritable (kinds right)
right_writable all left right t split h = (writable_right (kinds left) (kinds (t ∷ right)) (subst AllWritable (ap kinds split ∙ map-append (λ (t : ℕ × RuleToken). t.1) left (t ∷ right)) h)).1

two_writable : (op : Operator) (x y : Term) → AllWritable (expr_tokens (plain x)) → AllWritable (expr_tokens (plain y)) → AllWritable (expr_tokens (plain (applied_term op x y)))
two_writable op x y h g =
    writable_append (as_operand (plain x) (expr_tokens (plain x))) (symbol (sign_of op) ∷ as_operand (plain y) (expr_tokens (plain y))) (writable_operand (plain x) (expr_tokens (plain x)) h)
    (writable_symbol (sign_of op), writable_operand (plain y) (expr_tokens (plain y)) g)

term_writable : {r : Rank} {d : ℕ} {ts : Tokens} {e : Term} → SpellsTerm r d ts e → AllWritable (kinds ts) → AllWritable (expr_tokens (plain e))
term_writable (one_and h) w = term_writable h w
term_writable (ors {all = all} {left = left} {right = right} {x = x} {y = y} p h g split) w = two_writable operator.Or x y (term_writable h (left_writable all left right _ split w)) (term_writable g (right_writable all left right _ split w))
term_writable (one_not h) w = term_writable h w
term_writable (ands {all = all} {left = left} {right = right} {x = x} {y = y} p h g split) w = two_writable operator.And x y (term_writable h (left_writable all left right _ split w)) (term_writable g (right_writable all left right _ split w))
term_writable (one_comparison h) w = term_writable h w
term_writable (nots {e = e} p h) w = (writable_symbol sign.Not, writable_operand (plain e) (expr_tokens (plain e)) (term_writable h w.1))
term_writable (one_join h) w = term_writable h w
term_writable (compares {all = all} {left = left} {right = right} {x = x} {y = y} p op is h g split) w = two_writable op x y (term_writable h (left_writable all left right _ split w)) (term_writable g (right_writable all left right _ split w))
term_writable (one_atom h) w = term_writable h w
term_writable (joins {all = all} {left = left} {right = right} {x = x} {y = y} p h g split) w = two_writable operator.Join x y (term_writable h (left_writable all left right _ split w)) (term_writable g (right_writable all left right _ split w))
term_writable (a_text p t) w = (w.0, tt)
term_writable (a_number p z) w = (w.0, tt)
term_writable (a_param p n) w = (w.0, tt)
term_writable (a_session p n) w = (w.0, tt)
term_writable (a_true p) w = (w.0, tt)
term_writable (a_false p) w = (w.0, tt)
term_writable (enclosing {all = all} {ts = ts} start close h split) w = term_writable h (left_writable all ((start, symbol sign.OpenParenthesis) ∷ ts) [] (close, symbol sign.CloseParenthesis) split w).1

-- ---- an argument or a condition

-- it is printed as tokens that spell it again
pub record Printed {A : Type 0} (Spells : Tokens → A → Type 0) (Same : A → A → Type 0) (tokens : List RuleToken) (a : A) : Type 0 where
  pub writable : AllWritable tokens
  pub again : (ts : Tokens) → kinds ts ≡ tokens → (b : A) × Spells ts b × Same b a

abbrev pub SameTerm : Term → Term → Type 0
SameTerm x y = plain x ≡ plain y

pub argument_printed : {us : Tokens} {e : Term} → SpellsArgument us e → AllWritable (kinds us) → Printed SpellsArgument SameTerm (expr_tokens (plain e)) e
argument_printed {e = e} h w = record {
  writable = term_writable h.spells w;
  again = λ ts k.
      let x = term_again e.shape 256 ts (omega (arith, h.few)) k in
      (x.again, record { spells = x.spells; few = omega (arith, h.few, operators_plain x.again.shape, operators_plain e.shape, ap plain_operators x.same) }, x.same);
}
