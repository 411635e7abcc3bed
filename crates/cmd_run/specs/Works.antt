-- Operations that verbs do.
use Rattle.std.specs.Prelude.{◌≡◌, ℕ, true, nat_le, Ok}
use Rattle.grid_model.specs.Limits.{object_size}
use Rattle.grid_model.specs.Names.{Text}
use Rattle.grid_model.specs.Operations.Table.{Operation}
use Rattle.grid_model.specs.Orders.{works}
use Rattle.grid_model.specs.Runs.{Request}
use Rattle.grid_model.specs.declared.requests.Verb.{Verb}
use Rattle.grid_model.specs.declared.requests.Verb.TheVariants as verb
use Rattle.row_run.specs.Verbs.{WorksBy}

-- where the verb is built it does an operation
abbrev pub IsNoOther : Verb → Type 0
IsNoOther (verb.Login user) = ⊥
IsNoOther verb.Logout = ⊥
IsNoOther verb.Quit = ⊥
IsNoOther verb.Sweep = ⊥
IsNoOther (verb.Ls path) = ⊥
IsNoOther (verb.LsMeta kind name) = ⊥
IsNoOther (verb.Query text) = ⊥
IsNoOther (verb.Exec text) = ⊥
IsNoOther (verb.Rules count) = ⊥
IsNoOther verb.ShowRules = ⊥
IsNoOther other = Unit {0}

-- The request is the operation in the session that the verb does with this body, and its line promised no more bytes than an object may
-- have.
pub record IsWorkOf (session : ℕ) (verb : Verb) (body : Text) (request : Request) : Type 0 where
  pub op : Operation
  pub by_verb : WorksBy verb body op
  pub count : ℕ
  pub is : request ≡ Ok (session, works op count)
  pub small : nat_le count object_size ≡ true
