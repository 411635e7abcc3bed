-- What a request asks for, and the rules of a catalogue, by the texts of rules and calls.
use Rattle.std.specs.Prelude.{◌≡◌, ℕ, Bool, true, false, List, [], ◌∷◌, Ok}
use Rattle.grid_model.specs.RuleText.{Rule, CallText}
use Rattle.grid_model.specs.Rows.{Cat}
use Rattle.grid_model.specs.Inputs.{Asked}
use Rattle.grid_model.specs.Sessions.{State}
use Rattle.grid_model.specs.Orders.{executes, quits, sweeps}
use Rattle.grid_model.specs.Refusing.{Or}
use Rattle.grid_model.specs.Runs.{Request}
use Rattle.grid_model.specs.declared.requests.Verb.{Verb}
use Rattle.grid_model.specs.declared.requests.Verb.TheVariants as verb
use Rattle.cmd_read.specs.Orders.{Texts, Asks}
use Rattle.rule_parse.specs.RuleOrders.{ReadsRules, ReadsCall}
use Rattle.rule_parse.specs.Printed.{print_rules}

-- what is built: these verbs; all else is refused as unknown
abbrev pub is_built : Verb → Bool
is_built (verb.Login user) = true
is_built verb.Logout = true
is_built verb.Quit = true
is_built (verb.MkUser name kind) = true
is_built (verb.MkGroup name) = true
is_built (verb.AddMember group user) = true
is_built (verb.RmMember group user) = true
is_built (verb.MkStorage name slot) = true
is_built (verb.MkCoordinating name kind) = true
is_built (verb.AddChild parent child) = true
is_built (verb.ModResc name up) = true
is_built (verb.MkDir path) = true
is_built (verb.RmDir path) = true
is_built (verb.Mv from to) = true
is_built (verb.Ls path) = true
is_built (verb.ChMod level name path) = true
is_built (verb.Inherit path) = true
is_built (verb.NoInherit path) = true
is_built (verb.Put path resource mode count) = true
is_built (verb.Get path resource) = true
is_built (verb.Repl path resource) = true
is_built (verb.ChkSum path) = true
is_built (verb.Trim path resource) = true
is_built (verb.Rm path) = true
is_built verb.Sweep = true
is_built (verb.AddMeta kind name attribute value unit) = true
is_built (verb.RmMeta kind name attribute value unit) = true
is_built (verb.LsMeta kind name) = true
is_built (verb.Query text) = true
is_built (verb.Exec text) = true
is_built (verb.Rules count) = true
is_built verb.ShowRules = true
is_built other = false

-- the texts of rules and calls are read and printed so
abbrev pub texts : Texts
texts = record { rules = ReadsRules; call = ReadsCall; printed = print_rules; built = is_built }

-- a request as it was read asks for this, where the state is so
abbrev pub MeansRequest : State → Asked → Request → Type 0
MeansRequest at a request = Asks texts at a.line a.body request

-- the catalogue has the text of these rules, as they are printed
abbrev pub HasRules : Cat → List Rule → Type 0
HasRules c rules = c.rules ≡ print_rules rules

-- the request ends the input
pub record EndsInput (a : Asked) : Type 0 where
  pub at : State
  pub session : ℕ
  pub quits : MeansRequest at a (Ok (session, quits))

-- the request asks for a sweep
pub record AsksToSweep (a : Asked) : Type 0 where
  pub at : State
  pub session : ℕ
  pub asks : MeansRequest at a (Ok (session, sweeps))

-- the request asks for a call of rules
pub record AsksForCall (a : Asked) : Type 0 where
  pub at : State
  pub session : ℕ
  pub call : Or CallText
  pub asks : MeansRequest at a (Ok (session, executes call))

-- none of them but the last one ends the input
abbrev pub EndsInputLast : List Asked → Type 0
EndsInputLast [] = Unit {0}
EndsInputLast (a ∷ []) = Unit {0}
EndsInputLast (a ∷ b ∷ more) = ¬ EndsInput a × EndsInputLast (b ∷ more)
