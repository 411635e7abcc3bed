-- Reading rules from token to token: what is read so far, and what the next token makes of it.
use Rattle.std.specs.Prelude.{ℕ, ◌+◌, Bool, true, false, List, [], ◌∷◌, ◌++◌, Option, Some, None, length, nat_lt, ◌&&◌}
use Rattle.grid_model.specs.Names.{Text}
use Rattle.grid_model.specs.Parsed.{literal, number, truth, parameter, session, Term, CallAt, StepAt, RuleAt}
use Rattle.grid_model.specs.declared.rules.Operator.{Operator}
use Rattle.grid_model.specs.declared.rules.Operator.TheVariants as operator
use Rattle.rule_lex.specs.Tokens.{RuleToken, named, param, session as session_token, number as number_token, text, symbol}
use Rattle.rule_lex.specs.declared.token.Symbol.TheVariants as sign
use Rattle.rule_parse.specs.declared.calling.CallStage.{CallStage}
use Rattle.rule_parse.specs.declared.calling.CallStage.TheVariants as call
use Rattle.rule_parse.specs.declared.drafts.RuleStage.{RuleStage}
use Rattle.rule_parse.specs.declared.drafts.RuleStage.TheVariants as rule
use Rattle.rule_parse.specs.Grammar.{placed_term, applied_term, not_at, is_special, placed_call, placed_step, placed_rule, most_operators, deepest_parentheses}

-- ---- an expression

-- What waits for its right operand between two parentheses, from the operators that bind least to those that bind most.
pub record Level : Type 0 where
  pub or_left : Option Term
  pub and_left : Option Term
  -- the places of `!`
  pub nots : List ℕ
  pub compared : Option (Operator × Term)
  pub join_left : Option Term

abbrev pub level_with : Option Term → Option Term → List ℕ → Option (Operator × Term) → Option Term → Level
level_with o a ns c j = record { or_left = o; and_left = a; nots = ns; compared = c; join_left = j }

-- the level of a parenthesis that is open, and its place
pub record Enclosing : Type 0 where
  pub place : ℕ
  pub around : Level

abbrev pub enclosing : ℕ → Level → Enclosing
enclosing p l = record { place = p; around = l }

-- what is read of an expression so far
pub record TermReader : Type 0 where
  -- the innermost first
  pub outer : List Enclosing
  pub inner : Level
  pub count : ℕ
  -- what stands before the next operator, if one may come
  pub operand : Option Term

abbrev pub wanting : List Enclosing → Level → ℕ → TermReader
wanting os l n = record { outer = os; inner = l; count = n; operand = None }

abbrev pub behind_operand : List Enclosing → Level → ℕ → Term → TermReader
behind_operand os l n e = record { outer = os; inner = l; count = n; operand = Some e }

abbrev pub empty_level : Level
empty_level = level_with None None [] None None

abbrev pub new_reader : TermReader
new_reader = wanting [] empty_level 0

-- with what waits on its left, if something does
abbrev pub with_left : Operator → Option Term → Term → Term
with_left op None e = e
with_left op (Some x) e = applied_term op x e

abbrev pub with_compared : Option (Operator × Term) → Term → Term
with_compared None e = e
with_compared (Some (op, x)) e = applied_term op x e

abbrev pub with_nots : List ℕ → Term → Term
with_nots [] e = e
with_nots (p ∷ ps) e = not_at p (with_nots ps e)

-- the operand with what binds at least as much as each of the operators
abbrev pub joined_term : Level → Term → Term
joined_term l e = with_left operator.Join l.join_left e

abbrev pub compared : Level → Term → Term
compared l e = with_compared l.compared (joined_term l e)

abbrev pub negated : Level → Term → Term
negated l e = with_nots l.nots (compared l e)

abbrev pub conjoined : Level → Term → Term
conjoined l e = with_left operator.And l.and_left (negated l e)

abbrev pub disjoined : Level → Term → Term
disjoined l e = with_left operator.Or l.or_left (conjoined l e)

-- what a token does to an expression
pub data TermRead : Type 0 where
  refused : TermRead
  goes : TermReader → TermRead
  -- it is a comma or a parenthesis behind this expression
  at_comma : Term → TermRead
  at_close : Term → TermRead

abbrev pub when : Bool → TermReader → TermRead
when true r = goes r
when false r = refused

-- nothing is held there
abbrev pub is_free : {A : Type 0} → Option A → Bool
is_free None = true
is_free (Some x) = false

-- a token where an operand is wanted. `!` stands only before what binds more.
abbrev pub read_operand : List Enclosing → Level → ℕ → ℕ → RuleToken → TermRead
read_operand os l n p (text t) = goes (behind_operand os l n (placed_term p (literal t)))
read_operand os l n p (number_token z) = goes (behind_operand os l n (placed_term p (number z)))
read_operand os l n p (param name) = goes (behind_operand os l n (placed_term p (parameter p name)))
read_operand os l n p (session_token name) = goes (behind_operand os l n (placed_term p (session p name)))
read_operand os l n p (symbol sign.True) = goes (behind_operand os l n (placed_term p (truth true)))
read_operand os l n p (symbol sign.False) = goes (behind_operand os l n (placed_term p (truth false)))
read_operand os l n p (symbol sign.Not) =
    when (is_free l.compared && is_free l.join_left && nat_lt n most_operators)
    (wanting os (level_with l.or_left l.and_left (l.nots ++ p ∷ []) l.compared l.join_left) (n + 1))
read_operand os l n p (symbol sign.OpenParenthesis) = when (nat_lt (length os) deepest_parentheses) (wanting (enclosing p l ∷ os) empty_level n)
read_operand _ _ _ _ _ = refused

-- a comparison: no other stands before it
abbrev pub read_comparison : List Enclosing → Level → ℕ → Term → Operator → TermRead
read_comparison os l n e op =
    when (is_free l.compared && nat_lt n most_operators) (wanting os (level_with l.or_left l.and_left l.nots (Some (op, joined_term l e)) None) (n + 1))

-- a parenthesis that closes the innermost that is open, or the expression's end
abbrev pub read_close : List Enclosing → Term → ℕ → TermRead
read_close [] e n = at_close e
read_close (o ∷ os) e n = goes (behind_operand os o.around n (placed_term o.place e.shape))

abbrev pub read_comma : List Enclosing → Term → TermRead
read_comma [] e = at_comma e
read_comma (o ∷ os) e = refused

-- a token behind an operand
abbrev pub read_operator : List Enclosing → Level → ℕ → Term → RuleToken → TermRead
read_operator os l n e (symbol sign.Join) =
    when (nat_lt n most_operators) (wanting os (level_with l.or_left l.and_left l.nots l.compared (Some (joined_term l e))) (n + 1))
read_operator os l n e (symbol sign.Equal) = read_comparison os l n e operator.Equal
read_operator os l n e (symbol sign.NotEqual) = read_comparison os l n e operator.NotEqual
read_operator os l n e (symbol sign.Less) = read_comparison os l n e operator.Less
read_operator os l n e (symbol sign.Greater) = read_comparison os l n e operator.Greater
read_operator os l n e (symbol sign.AtMost) = read_comparison os l n e operator.AtMost
read_operator os l n e (symbol sign.AtLeast) = read_comparison os l n e operator.AtLeast
read_operator os l n e (symbol sign.Like) = read_comparison os l n e operator.Like
read_operator os l n e (symbol sign.And) = when (nat_lt n most_operators) (wanting os (level_with l.or_left (Some (conjoined l e)) [] None None) (n + 1))
read_operator os l n e (symbol sign.Or) = when (nat_lt n most_operators) (wanting os (level_with (Some (disjoined l e)) None [] None None) (n + 1))
read_operator os l n e (symbol sign.CloseParenthesis) = read_close os (disjoined l e) n
read_operator os l n e (symbol sign.Comma) = read_comma os (disjoined l e)
read_operator _ _ _ _ _ = refused

abbrev pub read_with : List Enclosing → Level → ℕ → Option Term → ℕ → RuleToken → TermRead
read_with os l n None p t = read_operand os l n p t
read_with os l n (Some e) p t = read_operator os l n e t

abbrev pub read_term : TermReader → ℕ × RuleToken → TermRead
read_term r (p, t) = read_with r.outer r.inner r.count r.operand p t

abbrev pub as_next : TermRead → Option TermReader
as_next (goes r) = Some r
as_next _ = None

-- the expression with one more of its tokens
abbrev pub next_term : TermReader → ℕ × RuleToken → Option TermReader
next_term r t = as_next (read_term r t)

-- ---- a call

-- what is read of a call so far
pub record Calling : Type 0 where
  pub stage : CallStage
  pub place : ℕ
  pub name : Text
  pub args : List Term
  pub reader : TermReader

abbrev pub calling : CallStage → ℕ → Text → List Term → TermReader → Calling
calling s p n es r = record { stage = s; place = p; name = n; args = es; reader = r }

abbrev pub new_call : Calling
new_call = calling call.Start 0 [] [] new_reader

-- what a token of an argument does
abbrev pub in_argument : ℕ → Text → List Term → TermRead → Option Calling
in_argument p n es refused = None
in_argument p n es (goes r) = Some (calling call.Argument p n es r)
in_argument p n es (at_comma e) = Some (calling call.Argument p n (es ++ e ∷ []) new_reader)
in_argument p n es (at_close e) = Some (calling call.Closed p n (es ++ e ∷ []) new_reader)

-- a token at a stage of a call
abbrev pub read_call_at : CallStage → Calling → ℕ → RuleToken → Option Calling
read_call_at call.Start c p (named n) = Some (calling call.Named p n [] new_reader)
read_call_at call.Named c p (symbol sign.OpenParenthesis) = Some (calling call.Opened c.place c.name c.args c.reader)
read_call_at call.Opened c p (symbol sign.CloseParenthesis) = Some (calling call.Closed c.place c.name c.args c.reader)
read_call_at call.Opened c p t = in_argument c.place c.name c.args (read_term c.reader (p, t))
read_call_at call.Argument c p t = in_argument c.place c.name c.args (read_term c.reader (p, t))
read_call_at _ _ _ _ = None

abbrev pub read_call : Calling → ℕ × RuleToken → Option Calling
read_call c (p, t) = read_call_at c.stage c p t

abbrev pub whole_at : CallStage → Calling → Option CallAt
whole_at call.Named c = elim (is_special c.name) [ true ↦ Some (placed_call c.place c.name c.args) | false ↦ None ]
whole_at call.Closed c = Some (placed_call c.place c.name c.args)
whole_at _ c = None

-- the call, if it may end here
abbrev pub whole_call : Calling → Option CallAt
whole_call c = whole_at c.stage c

-- ---- a rule

-- what is read of a rule so far
pub record Draft : Type 0 where
  pub stage : RuleStage
  pub place : ℕ
  pub name : Text
  pub params : List Text
  pub cond : Option Term
  pub steps : List StepAt
  -- the condition that is being read
  pub reader : TermReader
  -- the call that a recovery is for
  pub first : Option CallAt
  -- the call that is being read
  pub calling : Calling

abbrev pub new_draft : Draft
new_draft = record { stage = rule.Start; place = 0; name = []; params = []; cond = None; steps = []; reader = new_reader; first = None; calling = new_call }

-- what a token does to a rule
pub data RuleRead : Type 0 where
  refused : RuleRead
  goes : Draft → RuleRead
  -- it is the last of this rule
  ends : RuleAt → RuleRead

abbrev pub to : RuleStage → Draft → RuleRead
to s d = RuleRead.goes (record d { stage = s })

-- the call that is read is a step, or the recovery of the one before it
abbrev pub step_with : Option CallAt → CallAt → StepAt
step_with None c = placed_step c None
step_with (Some f) c = placed_step f (Some c)

abbrev pub whole_rule : Draft → RuleRead
whole_rule d = ends (placed_rule d.place d.name d.params d.cond d.steps)

abbrev pub end_steps : Option Term → Draft → RuleRead
end_steps None d = whole_rule d
end_steps (Some e) d = to rule.BehindSteps d

abbrev pub begin_call : Draft → ℕ → Text → RuleRead
begin_call d p n = RuleRead.goes (record d { stage = rule.Call; calling = calling call.Named p n [] new_reader })

-- what a token of the condition does
abbrev pub in_condition : Draft → TermRead → RuleRead
in_condition d TermRead.refused = RuleRead.refused
in_condition d (TermRead.goes r) = RuleRead.goes (record d { reader = r })
in_condition d (at_comma e) = RuleRead.refused
in_condition d (at_close e) = RuleRead.goes (record d { stage = rule.BehindCondition; cond = Some e; reader = new_reader })

-- a semicolon behind a call, or behind what is no whole call
abbrev pub end_step : Draft → Option CallAt → RuleRead
end_step d None = RuleRead.refused
end_step d (Some c) = RuleRead.goes (record d { stage = rule.Steps; steps = d.steps ++ step_with d.first c ∷ []; first = None; calling = new_call })

-- `:::` behind a call
abbrev pub begin_recovery : Draft → Option CallAt → Option CallAt → RuleRead
begin_recovery d None (Some c) = RuleRead.goes (record d { first = Some c; calling = new_call })
begin_recovery d _ _ = RuleRead.refused

abbrev pub in_call : Draft → Option Calling → RuleRead
in_call d None = RuleRead.refused
in_call d (Some c) = RuleRead.goes (record d { calling = c })

-- a token at a stage of a rule
abbrev pub read_rule_at : RuleStage → Draft → ℕ → RuleToken → RuleRead
read_rule_at rule.Start d p (named n) = RuleRead.goes (record d { stage = rule.Named; place = p; name = n })
read_rule_at rule.Named d p (symbol sign.OpenParenthesis) = to rule.FirstParam d
read_rule_at rule.FirstParam d p (param n) = RuleRead.goes (record d { stage = rule.BehindParam; params = d.params ++ n ∷ [] })
read_rule_at rule.FirstParam d p (symbol sign.CloseParenthesis) = to rule.Head d
read_rule_at rule.Param d p (param n) = RuleRead.goes (record d { stage = rule.BehindParam; params = d.params ++ n ∷ [] })
read_rule_at rule.BehindParam d p (symbol sign.Comma) = to rule.Param d
read_rule_at rule.BehindParam d p (symbol sign.CloseParenthesis) = to rule.Head d
read_rule_at rule.Head d p (symbol sign.OpenBrace) = to rule.Opened d
read_rule_at rule.Opened d p (named n) = begin_call d p n
read_rule_at rule.Opened d p (symbol sign.On) = to rule.On d
read_rule_at rule.Opened d p (symbol sign.CloseBrace) = whole_rule d
read_rule_at rule.On d p (symbol sign.OpenParenthesis) = RuleRead.goes (record d { stage = rule.Condition; reader = new_reader })
read_rule_at rule.Condition d p t = in_condition d (read_term d.reader (p, t))
read_rule_at rule.BehindCondition d p (symbol sign.OpenBrace) = to rule.Steps d
read_rule_at rule.Steps d p (named n) = begin_call d p n
read_rule_at rule.Steps d p (symbol sign.CloseBrace) = end_steps d.cond d
read_rule_at rule.Call d p (symbol sign.Semicolon) = end_step d (whole_call d.calling)
read_rule_at rule.Call d p (symbol sign.Recovery) = begin_recovery d d.first (whole_call d.calling)
read_rule_at rule.Call d p t = in_call d (read_call d.calling (p, t))
read_rule_at rule.BehindSteps d p (symbol sign.CloseBrace) = whole_rule d
read_rule_at _ _ _ _ = RuleRead.refused

abbrev pub read_rule : Draft → ℕ × RuleToken → RuleRead
read_rule d (p, t) = read_rule_at d.stage d p t

-- ---- rules

-- the rules so far, and what is read of the next
pub record Progress : Type 0 where
  pub rules : List RuleAt
  pub draft : Draft

abbrev pub progress : List RuleAt → Draft → Progress
progress rs d = record { rules = rs; draft = d }

abbrev pub new_progress : Progress
new_progress = progress [] new_draft

abbrev pub with_rule : List RuleAt → RuleRead → Option Progress
with_rule rs RuleRead.refused = None
with_rule rs (RuleRead.goes d) = Some (progress rs d)
with_rule rs (ends r) = Some (progress (rs ++ r ∷ []) new_draft)

-- what a token makes of the rules so far
abbrev pub read : Progress → ℕ × RuleToken → Option Progress
read p t = with_rule p.rules (read_rule p.draft t)

abbrev pub finish_at : RuleStage → List RuleAt → Option (List RuleAt)
finish_at rule.Start rs = Some rs
finish_at _ rs = None

-- the rules, if they may end here
abbrev pub finish : Progress → Option (List RuleAt)
finish p = finish_at p.draft.stage p.rules
