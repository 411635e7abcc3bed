-- The grammar of queries, and reading them from stage to stage.
use Rattle.std.proofs.Common.{◌≡◌, true, false, List, [], ◌∷◌, ◌++◌, refl, sym, ap, subst, ◌∙◌, arith}
use Rattle.std.specs.Prelude.{IsTrue, decimal}
use Rattle.std.proofs.lemmas.Bool.{both_ways}
use Rattle.std.proofs.lemmas.List.{append_assoc, append-nil}
use Rattle.grid_model.specs.Names.{Text}
use Rattle.grid_model.specs.QueryTokens.{Token, equal, keyword, column, literal, comma, sign, select_word, where_word, and_word, like_word, not_word}
use Rattle.grid_model.specs.QueryText.{SpellsColumns, last_column, next_column, op_of, SpellsOp, compares, likes, likes_not, Fits, SpellsCond, a_cond, SpellsConds, last_cond, next_cond, SpellsQuery, without_conds, with_conds}
use Rattle.grid_model.specs.declared.queries.Column.{Column}
use Rattle.grid_model.specs.declared.queries.Column.TheVariants.{CollName}
use Rattle.grid_model.specs.declared.queries.Cond.{Cond}
use Rattle.grid_model.specs.declared.queries.Op.{Op}
use Rattle.grid_model.specs.declared.queries.Op.TheVariants.{Equal, Like, NotLike}
use Rattle.grid_model.specs.declared.queries.Query.{Query}
use Rattle.query_parse.specs.declared.stage.Stage.{Stage}
use Rattle.query_parse.specs.declared.stage.Stage.TheVariants.{Start, Shown, BehindColumn, Subject, Operator, Negated, Literal, BehindCond}
use Rattle.query_parse.specs.declared.stage.Step.{Step}
use Rattle.query_parse.specs.declared.stage.Step.TheVariants.{Refused, Next, Show, Ask}
use Rattle.query_parse.specs.Stages.{CompletesQuery, step_from}

abbrev pub query_of : List Column → List Cond → Query
query_of cs ds = record { columns = cs; conds = ds }

abbrev cond_of : Column → Op → Text → Cond
cond_of c o inner = record { column = c; op = o; literal = inner }

-- ---- what goes on so is spelled so

-- the tokens are conditions, which the query has behind these
record CondsBehind (cs : List Column) (ds : List Cond) (ts : List Token) (q : Query) : Type 0 where
  more : List Cond
  spells : SpellsConds ts more
  query_is : q ≡ query_of cs (ds ++ more)

one_more : {cs : List Column} {ds : List Cond} {ts os : List Token} {q : Query} (c : Column) (o : Op) (inner : Text) → SpellsOp os o → ts ≡ column c ∷ os ++ literal inner ∷ [] → Fits c o inner × (IsTrue true × (q ≡ query_of cs (ds ++ cond_of c o inner ∷ []))) → CondsBehind cs ds ts q
one_more c o inner op e h = record { more = cond_of c o inner ∷ []; spells = last_cond (a_cond e op h.0); query_is = h.1.1 }

and_more : {cs : List Column} {ds : List Cond} {all ts os us : List Token} {q : Query} (c : Column) (o : Op) (inner : Text) → SpellsOp os o → ts ≡ column c ∷ os ++ literal inner ∷ [] → all ≡ ts ++ keyword and_word ∷ us → Fits c o inner
    → CondsBehind cs (ds ++ cond_of c o inner ∷ []) us q → CondsBehind cs ds all q
and_more {cs = cs} {ds = ds} c o inner op e f fits behind = record {
  more = cond_of c o inner ∷ behind.more;
  spells = next_cond f (a_cond e op fits) behind.spells;
  query_is = behind.query_is ∙ ap (query_of cs) (append_assoc ds (cond_of c o inner ∷ []) behind.more);
}

conds_sound : (cs : List Column) (ds : List Cond) (ts : List Token) (q : Query) → CompletesQuery Subject cs ds ts q → CondsBehind cs ds ts q
conds_sound cs ds (column c ∷ sign s ∷ literal inner ∷ []) q h = one_more c (op_of s) inner (compares s refl) refl h
conds_sound cs ds (column c ∷ sign s ∷ literal inner ∷ keyword and_word ∷ ts) q h = and_more c (op_of s) inner (compares s refl) refl refl h.0 (conds_sound cs (ds ++ cond_of c (op_of s) inner ∷ []) ts q h.1)
conds_sound cs ds (column c ∷ keyword like_word ∷ literal inner ∷ []) q h = one_more c Like inner likes refl h
conds_sound cs ds (column c ∷ keyword like_word ∷ literal inner ∷ keyword and_word ∷ ts) q h = and_more c Like inner likes refl refl h.0 (conds_sound cs (ds ++ cond_of c Like inner ∷ []) ts q h.1)
conds_sound cs ds (column c ∷ keyword not_word ∷ keyword like_word ∷ literal inner ∷ []) q h = one_more c NotLike inner likes_not refl h
conds_sound cs ds (column c ∷ keyword not_word ∷ keyword like_word ∷ literal inner ∷ keyword and_word ∷ ts) q h = and_more c NotLike inner likes_not refl refl h.0 (conds_sound cs (ds ++ cond_of c NotLike inner ∷ []) ts q h.1)
conds_sound cs ds (column c ∷ sign s ∷ literal inner ∷ t ∷ ts) q h = absurd h.1
conds_sound cs ds (column c ∷ keyword like_word ∷ literal inner ∷ t ∷ ts) q h = absurd h.1
conds_sound cs ds (column c ∷ keyword not_word ∷ keyword like_word ∷ literal inner ∷ t ∷ ts) q h = absurd h.1
conds_sound cs ds [] q h = absurd (both_ways false refl h.0)
conds_sound cs ds (column c ∷ []) q h = absurd (both_ways false refl h.0)
conds_sound cs ds (column c ∷ sign s ∷ []) q h = absurd (both_ways false refl h.0)
conds_sound cs ds (column c ∷ keyword like_word ∷ []) q h = absurd (both_ways false refl h.0)
conds_sound cs ds (column c ∷ keyword not_word ∷ []) q h = absurd (both_ways false refl h.0)
conds_sound cs ds (column c ∷ keyword not_word ∷ keyword like_word ∷ []) q h = absurd (both_ways false refl h.0)
conds_sound cs ds _ q h = absurd h

-- the tokens are columns, which the query has behind these, and conditions where it has any
data ColumnsBehind (cs : List Column) (ts : List Token) (q : Query) : Type 0 where
  alone : (more : List Column) → SpellsColumns ts more → q ≡ query_of (cs ++ more) [] → ColumnsBehind cs ts q
  asking : (front us : List Token) (more : List Column) (ds : List Cond) → ts ≡ front ++ keyword where_word ∷ us → SpellsColumns front more → SpellsConds us ds → q ≡ query_of (cs ++ more) ds → ColumnsBehind cs ts q

regroup : (cs : List Column) (c : Column) (more : List Column) {q : Query} (ds : List Cond) → q ≡ query_of ((cs ++ c ∷ []) ++ more) ds → q ≡ query_of (cs ++ c ∷ more) ds
regroup cs c more ds e = e ∙ ap (λ x. query_of x ds) (append_assoc cs (c ∷ []) more)

after_comma : {cs : List Column} {ts : List Token} {q : Query} (c : Column) → ColumnsBehind (cs ++ c ∷ []) ts q → ColumnsBehind cs (column c ∷ comma ∷ ts) q
after_comma {cs = cs} c (alone more spells e) = alone (c ∷ more) (next_column c spells) (regroup cs c more [] e)
after_comma {cs = cs} c (asking front us more ds split spells conds e) = asking (column c ∷ comma ∷ front) us (c ∷ more) ds (ap (λ x. column c ∷ comma ∷ x) split) (next_column c spells) conds (regroup cs c more ds e)

columns_sound : (cs : List Column) (ts : List Token) (q : Query) → CompletesQuery Shown cs [] ts q → ColumnsBehind cs ts q
columns_sound cs (column c ∷ []) q h = alone (c ∷ []) (last_column c) h.1
columns_sound cs (column c ∷ comma ∷ ts) q h = after_comma c (columns_sound (cs ++ c ∷ []) ts q h)
columns_sound cs (column c ∷ keyword where_word ∷ ts) q h =
    let conds = conds_sound (cs ++ c ∷ []) [] ts q h in
    asking (column c ∷ []) ts (c ∷ []) conds.more refl (last_column c) conds.spells conds.query_is
columns_sound cs [] q h = absurd (both_ways false refl h.0)
columns_sound cs _ q h = absurd h

query_sound : (ts : List Token) (q : Query) → ColumnsBehind [] ts q → SpellsQuery (keyword select_word ∷ ts) q
query_sound ts q (alone more spells e) = subst (λ x. SpellsQuery (keyword select_word ∷ ts) x) (sym e) (without_conds refl spells)
query_sound ts q (asking front us more ds split spells conds e) = subst (λ x. SpellsQuery (keyword select_word ∷ ts) x) (sym e) (with_conds (ap (λ x. keyword select_word ∷ x) split) spells conds)

pub goes_sound : (ts : List Token) (q : Query) → CompletesQuery Start [] [] ts q → SpellsQuery ts q
goes_sound (keyword select_word ∷ ts) q h = query_sound ts q (columns_sound [] ts q h)
goes_sound [] q h = absurd (both_ways false refl h.0)
goes_sound _ q h = absurd h

-- ---- what is spelled so goes on so

op_goes : {os : List Token} {o : Op} (cs : List Column) (ds : List Cond) (c : Column) (inner : Text) (ts : List Token) (q : Query) → SpellsOp os o → Fits c o inner → CompletesQuery BehindCond cs (ds ++ cond_of c o inner ∷ []) ts q
    → CompletesQuery (Operator c) cs ds ((os ++ literal inner ∷ []) ++ ts) q
op_goes cs ds c inner ts q (compares s e) fits h = subst (λ o. Fits c o inner × CompletesQuery BehindCond cs (ds ++ cond_of c o inner ∷ []) ts q) e (fits, h)
op_goes cs ds c inner ts q likes fits h = (fits, h)
op_goes cs ds c inner ts q likes_not fits h = (fits, h)

cond_goes : {ts : List Token} {d : Cond} (cs : List Column) (ds : List Cond) (us : List Token) (q : Query) → SpellsCond ts d → CompletesQuery BehindCond cs (ds ++ d ∷ []) us q → CompletesQuery Subject cs ds (ts ++ us) q
cond_goes cs ds us q (a_cond {os = os} {c = c} {o = o} {inner = inner} e op fits) h = subst (λ x. CompletesQuery Subject cs ds (x ++ us) q) (sym e) (op_goes cs ds c inner us q op fits h)

conds_go : {ts : List Token} {more : List Cond} (cs : List Column) (ds : List Cond) (q : Query) → SpellsConds ts more → q ≡ query_of cs (ds ++ more) → CompletesQuery Subject cs ds ts q
conds_go cs ds q (last_cond {ts = ts} spells) e = subst (λ x. CompletesQuery Subject cs ds x q) (append-nil ts) (cond_goes cs ds [] q spells (refl, e))
conds_go cs ds q (next_cond {ts = ts} {us = us} {d = d} {ds = more} split spells behind) e =
    subst (λ x. CompletesQuery Subject cs ds x q) (sym split)
    (cond_goes cs ds (keyword and_word ∷ us) q spells (conds_go cs (ds ++ d ∷ []) q behind (e ∙ ap (query_of cs) (sym (append_assoc ds (d ∷ []) more)))))

columns_go : {ts : List Token} {more : List Column} (cs : List Column) (us : List Token) (q : Query) → SpellsColumns ts more → CompletesQuery BehindColumn (cs ++ more) [] us q → CompletesQuery Shown cs [] (ts ++ us) q
columns_go cs us q (last_column c) h = h
columns_go cs us q (next_column {cs = more} c spells) h = columns_go (cs ++ c ∷ []) us q spells (subst (λ x. CompletesQuery BehindColumn x [] us q) (sym (append_assoc cs (c ∷ []) more)) h)

pub spelled_goes : {ts : List Token} {q : Query} → SpellsQuery ts q → CompletesQuery Start [] [] ts q
spelled_goes (without_conds {ts = ts} {cs = cs} e columns) =
    subst (λ x. CompletesQuery Start [] [] x (query_of cs [])) (sym e) (subst (λ x. CompletesQuery Shown [] [] x (query_of cs [])) (append-nil ts) (columns_go [] [] (query_of cs []) columns (refl, refl)))
spelled_goes (with_conds {us = us} {cs = cs} {ds = ds} e columns conds) =
    subst (λ x. CompletesQuery Start [] [] x (query_of cs ds)) (sym e) (columns_go [] (keyword where_word ∷ us) (query_of cs ds) columns (conds_go cs [] (query_of cs ds) conds refl))

-- ---- every stage leads to some query

-- tokens that lead to a query from here
pub record LeadsOn (s : Stage) (cs : List Column) (ds : List Cond) : Type 0 where
  pub more : List Token
  pub query : Query
  pub goes : CompletesQuery s cs ds more query

zero_fits : (c : Column) (o : Op) → Fits c o (decimal 0)
zero_fits c o = λ _ _. record { number = 0; small = omega arith; text_is = refl }

pub leads_on : (s : Stage) (cs : List Column) (ds : List Cond) → LeadsOn s cs ds
leads_on Start cs ds = record { more = keyword select_word ∷ column CollName ∷ []; query = query_of (cs ++ CollName ∷ []) ds; goes = (refl, refl) }
leads_on Shown cs ds = record { more = column CollName ∷ []; query = query_of (cs ++ CollName ∷ []) ds; goes = (refl, refl) }
leads_on BehindColumn cs ds = record { more = []; query = query_of cs ds; goes = (refl, refl) }
leads_on Subject cs ds = record { more = column CollName ∷ sign equal ∷ literal (decimal 0) ∷ []; query = query_of cs (ds ++ cond_of CollName Equal (decimal 0) ∷ []); goes = (zero_fits CollName Equal, (refl, refl)) }
leads_on (Operator c) cs ds = record { more = sign equal ∷ literal (decimal 0) ∷ []; query = query_of cs (ds ++ cond_of c Equal (decimal 0) ∷ []); goes = (zero_fits c Equal, (refl, refl)) }
leads_on (Negated c) cs ds = record { more = keyword like_word ∷ literal (decimal 0) ∷ []; query = query_of cs (ds ++ cond_of c NotLike (decimal 0) ∷ []); goes = (zero_fits c NotLike, (refl, refl)) }
leads_on (Literal c o) cs ds = record { more = literal (decimal 0) ∷ []; query = query_of cs (ds ++ cond_of c o (decimal 0) ∷ []); goes = (zero_fits c o, (refl, refl)) }
leads_on BehindCond cs ds = record { more = []; query = query_of cs ds; goes = (refl, refl) }

-- ---- one query

-- what goes on behind this step
abbrev pub Behind : List Column → List Cond → List Token → Query → Step → Type 0
Behind cs ds ts q k = elim k [
  | Refused ↦ ⊥
  | Next n ↦ CompletesQuery n cs ds ts q
  | Show c ↦ CompletesQuery BehindColumn (cs ++ c ∷ []) ds ts q
  | Ask d ↦ Fits d.column d.op d.literal × CompletesQuery BehindCond cs (ds ++ d ∷ []) ts q
]

pub one_end : (s : Stage) (cs : List Column) (ds : List Cond) (ts : List Token) (q r : Query) → CompletesQuery s cs ds ts q → CompletesQuery s cs ds ts r → q ≡ r
one_end s cs ds [] q r h g = h.1 ∙ sym g.1
one_end s cs ds (t ∷ ts) q r h g = by (λ n ks es. one_end n ks es ts q r) (step_from s t) h g
  where
    by : ((n : Stage) (ks : List Column) (es : List Cond) → CompletesQuery n ks es ts q → CompletesQuery n ks es ts r → q ≡ r) → (k : Step) → Behind cs ds ts q k → Behind cs ds ts r k → q ≡ r
    by again Refused h g = absurd h
    by again (Next n) h g = again n cs ds h g
    by again (Show c) h g = again BehindColumn (cs ++ c ∷ []) ds h g
    by again (Ask d) h g = again BehindCond cs (ds ++ d ∷ []) h.1 g.1

pub one_query : {ts : List Token} {q r : Query} → SpellsQuery ts q → SpellsQuery ts r → q ≡ r
one_query {ts = ts} {q = q} {r = r} h g = one_end Start [] [] ts q r (spelled_goes h) (spelled_goes g)
