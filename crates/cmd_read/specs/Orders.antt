-- What a verb asks for of the grid, and what a line with its body asks for, or why it is refused.
use Rattle.std.specs.Prelude.{◌≡◌, ℕ, ◌<◌, ◌≤◌, Bool, true, false, List, Result, Option, Some, None, Ok, Err, length}
use Rattle.grid_model.specs.Names.{Text, Path, SpellsPath}
use Rattle.grid_model.specs.Grid.{Thing, object_at, collection_at, resource_named, user_named}
use Rattle.grid_model.specs.Limits.{longest_line}
use Rattle.grid_model.specs.Places.{IsRefusedAt}
use Rattle.grid_model.specs.Words.{SpellsLine}
use Rattle.grid_model.specs.RuleText.{Rule, CallText}
use Rattle.grid_model.specs.Refusing.{Or}
use Rattle.grid_model.specs.Operations.Table.{Operation, mkdir, rmdir, mv, put, get, repl, chksum, trim, rm, addmeta, rmmeta, chmod}
use Rattle.grid_model.specs.Operations.Table.{inherit, mkresc, addchild, modresc, mkuser, mkgroup, addmember, rmmember}
use Rattle.grid_model.specs.QueryOrders.{ReadsQuery}
use Rattle.grid_model.specs.Sessions.{State}
use Rattle.grid_model.specs.Orders.{Order, logs_in, logs_out, quits, works, sets_rules, shows_rules, sweeps, lists, lists_triples, opens}
use Rattle.grid_model.specs.Orders.{adds_part, closes, aborts, executes, queries}
use Rattle.grid_model.specs.Runs as runs
use Rattle.grid_model.specs.declared.grid.ItemKind.{ItemKind}
use Rattle.grid_model.specs.declared.grid.ItemKind.TheVariants as item
use Rattle.grid_model.specs.declared.grid.ResourceKind.TheVariants.{Storage}
use Rattle.grid_model.specs.declared.queries.Query.{Query}
use Rattle.grid_model.specs.declared.refusal.Refusal.{Refusal}
use Rattle.grid_model.specs.declared.refusal.Refusal.TheVariants as refusal
use Rattle.cmd_read.specs.Reading.{Reads}
use Rattle.cmd_read.specs.declared.error.ReadError.{ReadError}
use Rattle.cmd_read.specs.declared.error.ReadError.TheVariants as error
use Rattle.grid_model.specs.declared.requests.Request.{Request}
use Rattle.grid_model.specs.declared.requests.Verb.{Verb}
use Rattle.grid_model.specs.declared.requests.Verb.TheVariants as verb

-- ---- verbs

-- The kind and the name are those of a thing.
pub data NamesThing : ItemKind → Text → Thing → Type 0 where
  an_object : {text : Text} {path : Path} → SpellsPath text path → NamesThing item.Object text (object_at path)
  a_collection : {text : Text} {path : Path} → SpellsPath text path → NamesThing item.Collection text (collection_at path)
  a_resource : {name : Text} → NamesThing item.Resource name (resource_named name)
  a_user : {name : Text} → NamesThing item.User name (user_named name)

-- how texts of rules are read and printed, and those of calls read; and which verbs are built
pub record Texts : Type 1 where
  pub rules : Text → Or (List Rule) → Type 0
  pub call : List Rule → Text → Or CallText → Type 0
  pub printed : List Rule → Text
  pub built : Verb → Bool

-- The verb with its body asks for this, where the state is so.
abbrev pub MeansOrder : Texts → State → Verb → Text → Order → Type 0
MeansOrder texts at (verb.Login user) body order = order ≡ logs_in user
MeansOrder texts at verb.Logout body order = order ≡ logs_out
MeansOrder texts at verb.Quit body order = order ≡ quits
MeansOrder texts at (verb.MkUser name kind) body order = order ≡ works (mkuser name kind) 0
MeansOrder texts at (verb.MkGroup name) body order = order ≡ works (mkgroup name) 0
MeansOrder texts at (verb.AddMember group user) body order = order ≡ works (addmember group user) 0
MeansOrder texts at (verb.RmMember group user) body order = order ≡ works (rmmember group user) 0
MeansOrder texts at (verb.MkStorage name slot) body order = order ≡ works (mkresc name Storage slot) 0
MeansOrder texts at (verb.MkCoordinating name kind) body order = order ≡ works (mkresc name kind 0) 0
MeansOrder texts at (verb.AddChild parent child) body order = order ≡ works (addchild parent child) 0
MeansOrder texts at (verb.ModResc name up) body order = order ≡ works (modresc name up) 0
MeansOrder texts at (verb.Rules count) body order = (rules : Or (List Rule)) × texts.rules body rules × (order ≡ sets_rules rules)
MeansOrder texts at verb.ShowRules body order = order ≡ shows_rules (texts.printed at.rules)
MeansOrder texts at verb.Sweep body order = order ≡ sweeps
MeansOrder texts at (verb.MkDir path) body order = order ≡ works (mkdir path) 0
MeansOrder texts at (verb.RmDir path) body order = order ≡ works (rmdir path) 0
MeansOrder texts at (verb.Mv from to) body order = order ≡ works (mv from to) 0
MeansOrder texts at (verb.Ls path) body order = order ≡ lists path
MeansOrder texts at (verb.ChMod level name path) body order = order ≡ works (chmod level name path) 0
MeansOrder texts at (verb.Inherit path) body order = order ≡ works (inherit path true) 0
MeansOrder texts at (verb.NoInherit path) body order = order ≡ works (inherit path false) 0
MeansOrder texts at (verb.Put path resource mode count) body order = order ≡ works (put path resource mode body) count
MeansOrder texts at (verb.Open path resource mode) body order = order ≡ opens path resource mode
MeansOrder texts at (verb.Part count) body order = order ≡ adds_part body
MeansOrder texts at verb.Close body order = order ≡ closes
MeansOrder texts at verb.Abort body order = order ≡ aborts
MeansOrder texts at (verb.Get path resource) body order = order ≡ works (get path resource) 0
MeansOrder texts at (verb.Repl path resource) body order = order ≡ works (repl path resource) 0
MeansOrder texts at (verb.ChkSum path) body order = order ≡ works (chksum path) 0
MeansOrder texts at (verb.Trim path resource) body order = order ≡ works (trim path resource) 0
MeansOrder texts at (verb.Rm path) body order = order ≡ works (rm path) 0
MeansOrder texts at (verb.AddMeta kind name a v u) body order = (thing : Thing) × NamesThing kind name thing
    × (order ≡ works (addmeta (record { of = thing; attribute = a; value = v; unit = u })) 0)
MeansOrder texts at (verb.RmMeta kind name a v u) body order = (thing : Thing) × NamesThing kind name thing
    × (order ≡ works (rmmeta (record { of = thing; attribute = a; value = v; unit = u })) 0)
MeansOrder texts at (verb.LsMeta kind name) body order = (thing : Thing) × NamesThing kind name thing × (order ≡ lists_triples thing)
MeansOrder texts at (verb.Query text) body order = (query : Or Query) × ReadsQuery text query × (order ≡ queries query)
MeansOrder texts at (verb.Exec text) body order = (call : Or CallText) × texts.call at.rules text call × (order ≡ executes call)

-- ---- lines

-- how many bytes of a body are promised
abbrev pub promised : Verb → ℕ
promised (verb.Put path resource mode count) = count
promised (verb.Part count) = count
promised (verb.Rules count) = count
promised other = 0

-- why words are refused; want of memory is no refusal
abbrev pub refusal_of : ReadError → Option Refusal
refusal_of (error.BadWord index) = Some (refusal.BadWord index)
refusal_of error.UnknownCommand = Some refusal.UnknownCommand
refusal_of (error.BadPath place) = Some (refusal.BadPath place)
refusal_of (error.BadName place) = Some (refusal.BadName place)
refusal_of error.Memory = None

-- A line with its body asks for the order of a session, where the state is so, or is refused: it is too long, is no line of
-- words, its words are no verb's, the body ends before all bytes that were promised, or the verb is not built.
pub data Asks (texts : Texts) (at : State) (line body : Text) : runs.Request → Type 0 where
  asks_for : {words : List Text} {session : ℕ} {order : Order} (request : Request) → length line ≤ longest_line → SpellsLine line words
      → Reads words (Ok request) → request.session ≡ session
      → promised request.verb ≤ length body → texts.built request.verb ≡ true → MeansOrder texts at request.verb body order
      → Asks texts at line body (Ok (session, order))
  not_built : {words : List Text} (request : Request) → length line ≤ longest_line → SpellsLine line words → Reads words (Ok request)
      → promised request.verb ≤ length body → texts.built request.verb ≡ false → Asks texts at line body (Err refusal.UnknownCommand)
  cut_short : {words : List Text} (request : Request) → length line ≤ longest_line → SpellsLine line words → Reads words (Ok request)
      → length body < promised request.verb
      → Asks texts at line body (Err (refusal.Truncated (length body) (promised request.verb)))
  wrong_words : {words : List Text} {r : Refusal} (why : ReadError) → length line ≤ longest_line → SpellsLine line words → Reads words (Err why)
      → refusal_of why ≡ Some r → Asks texts at line body (Err r)
  no_words : {place : ℕ} → length line ≤ longest_line → IsRefusedAt SpellsLine line place → Asks texts at line body (Err (refusal.Syntax place))
  too_long : longest_line < length line → Asks texts at line body (Err refusal.TooLong)
