-- What requests ask for as long as few verbs are built: no upload is opened.
use Rattle.std.proofs.Common.{◌≡◌, ℕ, Bool, true, false, List, [], ◌∷◌, ◌++◌, Ok, Err, refl, sym, subst}
use Rattle.std.proofs.lemmas.Bool.{both_ways}
use Rattle.grid_model.specs.Names.{Text}
use Rattle.grid_model.specs.Inputs.{Asked}
use Rattle.grid_model.specs.Sessions.{State}
use Rattle.grid_model.specs.Orders.{Order, executes, lists, lists_triples, logs_in, logs_out, queries, quits, sets_rules, shows_rules, sweeps, works}
use Rattle.grid_model.specs.Runs.{Request}
use Rattle.grid_model.specs.declared.marks.Mark.{Mark}
use Rattle.grid_model.specs.declared.requests.Verb.{Verb}
use Rattle.grid_model.specs.declared.requests.Verb.TheVariants as verb
use Rattle.cmd_read.specs.Orders.{Asks, asks_for, not_built, cut_short, wrong_words, no_words as line_refused, too_long}
use Rattle.cmd_read.specs.Orders as orders
use Rattle.grid_headline.specs.Reads.{MeansRequest, AsksForCall, AsksToSweep, texts, is_built}
use Rattle.run_laws.specs.Steps.{IsNoCall, RemovesNoFile}
use Rattle.grid_headline.specs.Draws.{AreSomeOf, skip, keep, told_words, Words, request_words}

-- the order is one of those that are built
abbrev pub IsBuilt : Order → Type 0
IsBuilt (logs_in user) = Unit {0}
IsBuilt logs_out = Unit {0}
IsBuilt quits = Unit {0}
IsBuilt (lists path) = Unit {0}
IsBuilt (works op count) = Unit {0}
IsBuilt sweeps = Unit {0}
IsBuilt (lists_triples thing) = Unit {0}
IsBuilt (queries query) = Unit {0}
IsBuilt (executes call) = Unit {0}
IsBuilt (sets_rules rules) = Unit {0}
IsBuilt (shows_rules text) = Unit {0}
IsBuilt other = ⊥

abbrev pub IsBuiltRequest : Request → Type 0
IsBuiltRequest (Err r) = Unit {0}
IsBuiltRequest (Ok (session, order)) = IsBuilt order

built_verb : (at : State) (v : Verb) (body : Text) (order : Order) → is_built v ≡ true → orders.MeansOrder texts at v body order → IsBuilt order
built_verb at (verb.Login user) body order built means = subst IsBuilt (sym means) tt
built_verb at verb.Logout body order built means = subst IsBuilt (sym means) tt
built_verb at verb.Quit body order built means = subst IsBuilt (sym means) tt
built_verb at (verb.MkUser name kind) body order built means = subst IsBuilt (sym means) tt
built_verb at (verb.MkGroup name) body order built means = subst IsBuilt (sym means) tt
built_verb at (verb.RmDir path) body order built means = subst IsBuilt (sym means) tt
built_verb at (verb.AddMember group user) body order built means = subst IsBuilt (sym means) tt
built_verb at (verb.RmMember group user) body order built means = subst IsBuilt (sym means) tt
built_verb at (verb.MkStorage name slot) body order built means = subst IsBuilt (sym means) tt
built_verb at (verb.MkCoordinating name kind) body order built means = subst IsBuilt (sym means) tt
built_verb at (verb.AddChild parent child) body order built means = subst IsBuilt (sym means) tt
built_verb at (verb.ModResc name up) body order built means = subst IsBuilt (sym means) tt
built_verb at (verb.MkDir path) body order built means = subst IsBuilt (sym means) tt
built_verb at (verb.Mv from to) body order built means = subst IsBuilt (sym means) tt
built_verb at (verb.Ls path) body order built means = subst IsBuilt (sym means) tt
built_verb at (verb.ChMod level name path) body order built means = subst IsBuilt (sym means) tt
built_verb at (verb.Inherit path) body order built means = subst IsBuilt (sym means) tt
built_verb at (verb.NoInherit path) body order built means = subst IsBuilt (sym means) tt
built_verb at (verb.Put path resource mode count) body order built means = subst IsBuilt (sym means) tt
built_verb at (verb.Get path resource) body order built means = subst IsBuilt (sym means) tt
built_verb at (verb.Repl path resource) body order built means = subst IsBuilt (sym means) tt
built_verb at (verb.ChkSum path) body order built means = subst IsBuilt (sym means) tt
built_verb at (verb.Trim path resource) body order built means = subst IsBuilt (sym means) tt
built_verb at (verb.Rm path) body order built means = subst IsBuilt (sym means) tt
built_verb at verb.Sweep body order built means = subst IsBuilt (sym means) tt
built_verb at (verb.AddMeta kind name attribute value unit) body order built means = subst IsBuilt (sym means.2) tt
built_verb at (verb.RmMeta kind name attribute value unit) body order built means = subst IsBuilt (sym means.2) tt
built_verb at (verb.LsMeta kind name) body order built means = subst IsBuilt (sym means.2) tt
built_verb at (verb.Query text) body order built means = subst IsBuilt (sym means.2) tt
built_verb at (verb.Exec text) body order built means = subst IsBuilt (sym means.2) tt
built_verb at (verb.Rules count) body order built means = subst IsBuilt (sym means.2) tt
built_verb at verb.ShowRules body order built means = subst IsBuilt (sym means) tt
built_verb at other body order built means = absurd (both_ways false refl built)

pub built : {at : State} {line body : Text} {request : Request} → Asks texts at line body request → IsBuiltRequest request
built {at = at} {body = body} (asks_for {order = order} request short spells reads number whole is means) = built_verb at request.verb body order is means
built (not_built request short spells reads whole is) = tt
built (cut_short request short spells reads less) = tt
built (wrong_words why short spells reads is) = tt
built (line_refused short refused) = tt
built (too_long long) = tt

-- what is no sweep by its words is none
pub removes_nothing : {at : State} {asked : Asked} {request : Request} → MeansRequest at asked request → ¬ AsksToSweep asked → RemovesNoFile request
removes_nothing {at = at} {request = Ok (session, sweeps)} means none = absurd (none (record { at = at; session = session; asks = means }))
removes_nothing {request = other} means none = tt

-- nor is what is no call by its words one
pub is_no_call : {at : State} {asked : Asked} {request : Request} → MeansRequest at asked request → ¬ AsksForCall asked → IsNoCall request
is_no_call {at = at} {request = Ok (session, executes call)} means none = absurd (none (record { at = at; session = session; call = call; asks = means }))
is_no_call {request = other} means none = tt

-- ---- words

some-behind : {some all : List ℕ} (more : List ℕ) → AreSomeOf some all → AreSomeOf some (more ++ all)
some-behind [] is = is
some-behind (n ∷ more) is = skip (some-behind more is)

some-front : {some all : List ℕ} (more : List ℕ) → AreSomeOf some all → AreSomeOf (more ++ some) (more ++ all)
some-front [] is = is
some-front (n ∷ more) is = keep (some-front more is)

words_by : (at : State) (request : Request) (marks : List Mark) (ok : Bool) (w : Words) (all : List ℕ) → IsBuiltRequest request → AreSomeOf w.words all
    → AreSomeOf (request_words at request marks ok w).words (told_words marks ++ all)
words_by at (Err r) marks ok w all is some = some-behind (told_words marks) some
words_by at (Ok (n, logs_in user)) marks ok w all is some = some-front (told_words marks) some
words_by at (Ok (n, logs_out)) marks ok w all is some = some-front (told_words marks) some
words_by at (Ok (n, quits)) marks ok w all is some = some-front (told_words marks) some
words_by at (Ok (n, lists path)) marks ok w all is some = some-front (told_words marks) some
words_by at (Ok (n, works op count)) marks ok w all is some = some-front (told_words marks) some
words_by at (Ok (n, sweeps)) marks ok w all is some = some-front (told_words marks) some
words_by at (Ok (n, lists_triples thing)) marks ok w all is some = some-front (told_words marks) some
words_by at (Ok (n, queries query)) marks ok w all is some = some-front (told_words marks) some
words_by at (Ok (n, executes call)) marks ok w all is some = some-front (told_words marks) some
words_by at (Ok (n, sets_rules rules)) marks ok w all is some = some-front (told_words marks) some
words_by at (Ok (n, shows_rules text)) marks ok w all is some = some-front (told_words marks) some
words_by at (Ok (n, other)) marks ok w all is some = absurd is

-- the words of a request and of those behind it are some of those of its marks, and of all
pub words_in : (at : State) (asked : Asked) (request : Request) (marks : List Mark) (ok : Bool) (w : Words) (all : List ℕ) → MeansRequest at asked request
    → AreSomeOf w.words all
    → AreSomeOf (request_words at request marks ok w).words (told_words marks ++ all)
words_in at asked request marks ok w all means some = words_by at request marks ok w all (built means) some
