-- What a plan of a verb is to the operation that the verb does.
use Rattle.std.specs.Prelude.{◌≡◌, List, Option, Some, None, Result, Err}
use Rattle.grid_model.specs.Names.{Text}
use Rattle.grid_model.specs.Grid.{Thing}
use Rattle.grid_model.specs.Rows.{Cat}
use Rattle.grid_model.specs.Operations.Table.{Operation, addmeta, rmmeta}
use Rattle.grid_model.specs.declared.deltas.Delta.{Delta}
use Rattle.grid_model.specs.declared.grid.ItemKind.{ItemKind}
use Rattle.grid_model.specs.declared.plans.PlanError.{PlanError}
use Rattle.grid_model.specs.declared.plans.PlanError.TheVariants.{Refused}
use Rattle.grid_model.specs.declared.refusal.Refusal.TheVariants.{UnknownCommand}
use Rattle.grid_model.specs.declared.requests.Verb.{Verb}
use Rattle.grid_model.specs.declared.requests.Verb.TheVariants as verb
use Rattle.cmd_read.specs.Orders.{NamesThing}
use Rattle.plan_base.specs.Plans.{PlansChange}
use Rattle.row_run.specs.Verbs.{operation_by}

-- a plan that this is said of the thing which is told so, or no longer
abbrev pub PlansSaid : Cat → Text → ItemKind → Text → (Thing → Operation) → Result (List Delta) PlanError → Type 0
PlansSaid c user kind name op planned = (thing : Thing) → NamesThing kind name thing → PlansChange c user (op thing) planned

-- a plan of the operation, where there is one; without one it is unknown
abbrev pub PlansBy : Cat → Text → Option Operation → Result (List Delta) PlanError → Type 0
PlansBy c user None planned = planned ≡ Err (Refused UnknownCommand)
PlansBy c user (Some op) planned = PlansChange c user op planned

-- a plan of the operation of a verb that changes rows alone
abbrev pub PlansVerb : Cat → Text → Verb → Result (List Delta) PlanError → Type 0
PlansVerb c user (verb.AddMeta kind name attribute value unit) planned =
    PlansSaid c user kind name (λ thing. addmeta (record { of = thing; attribute = attribute; value = value; unit = unit })) planned
PlansVerb c user (verb.RmMeta kind name attribute value unit) planned =
    PlansSaid c user kind name (λ thing. rmmeta (record { of = thing; attribute = attribute; value = value; unit = unit })) planned
PlansVerb c user other planned = PlansBy c user (operation_by other) planned
