-- Operations that change rows alone say and send nothing.
use Rattle.std.proofs.Common.{◌≡◌, [], Option, Some, None, refl, sym, subst}
use Rattle.grid_model.specs.Names.{Text}
use Rattle.grid_model.specs.Grid.{Grid}
use Rattle.grid_model.specs.Doing.{Course}
use Rattle.grid_model.specs.Operations.Table.{Operation}
use Rattle.grid_model.specs.Working.{words_of, sent_by}
use Rattle.grid_model.specs.declared.requests.Verb.{Verb}
use Rattle.grid_model.specs.declared.requests.Verb.TheVariants as verb
use Rattle.row_run.specs.Verbs.{IsRowsVerb, operation_by}

module _ (user : Text) where
  -- it says nothing, on whatever grid, and sends nothing
  abbrev pub IsSilent : Operation → Type 0
  IsSilent op = ((g : Grid) → words_of g user op ≡ []) × ((s : Course) → sent_by s user op ≡ None)

  abbrev IsSilentBy : Option Operation → Type 0
  IsSilentBy None = Unit {0}
  IsSilentBy (Some op) = IsSilent op

  silent_by : (v : Verb) → IsSilentBy (operation_by v)
  silent_by (verb.MkUser name kind) = (λ g. refl, λ s. refl)
  silent_by (verb.MkGroup name) = (λ g. refl, λ s. refl)
  silent_by (verb.MkDir path) = (λ g. refl, λ s. refl)
  silent_by (verb.RmDir path) = (λ g. refl, λ s. refl)
  silent_by (verb.Mv from to) = (λ g. refl, λ s. refl)
  silent_by (verb.ChMod level name path) = (λ g. refl, λ s. refl)
  silent_by (verb.Inherit path) = (λ g. refl, λ s. refl)
  silent_by (verb.NoInherit path) = (λ g. refl, λ s. refl)
  silent_by (verb.AddMember group member) = (λ g. refl, λ s. refl)
  silent_by (verb.RmMember group member) = (λ g. refl, λ s. refl)
  silent_by (verb.MkStorage name slot) = (λ g. refl, λ s. refl)
  silent_by (verb.MkCoordinating name kind) = (λ g. refl, λ s. refl)
  silent_by (verb.AddChild parent child) = (λ g. refl, λ s. refl)
  silent_by (verb.ModResc name up) = (λ g. refl, λ s. refl)
  silent_by (verb.Trim path resource) = (λ g. refl, λ s. refl)
  silent_by (verb.Rm path) = (λ g. refl, λ s. refl)
  silent_by other = tt

  -- an operation that changes rows alone says and sends nothing
  pub rows_silent : (v : Verb) (op : Operation) → IsRowsVerb v op → IsSilent op
  rows_silent (verb.AddMeta kind name attribute value unit) op its = subst IsSilent (sym its.2) (λ g. refl, λ s. refl)
  rows_silent (verb.RmMeta kind name attribute value unit) op its = subst IsSilent (sym its.2) (λ g. refl, λ s. refl)
  rows_silent other op is = subst IsSilentBy is (silent_by other)
