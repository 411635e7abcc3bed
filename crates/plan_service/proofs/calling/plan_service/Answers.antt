use Rattle.std.proofs.Common.{List, [], Some, Result, sym, ap, ◌∙◌, subst}
use Rattle.grid_model.specs.Doing.{do_service}
use Rattle.grid_model.specs.Names.{Text}
use Rattle.grid_model.specs.Operations.Table.{addmeta, chmod, mkdir, mv, rm, rmdir, rmmeta, trim}
use Rattle.grid_model.specs.Rows.{Cat}
use Rattle.grid_model.specs.RowGrids.{user_name}
use Rattle.grid_model.specs.declared.calls.Call.{Call}
use Rattle.grid_model.specs.declared.deltas.Delta.{Delta}
use Rattle.service_read.specs.ReadServices.{service_of, whole_triple}
use Rattle.service_read.specs.declared.services.Service.{Service}
use Rattle.plan_service.specs.ServicePlans.{AddsWords, MakesChanges, PlansDoing}
use Rattle.plan_service.specs.declared.error.ServiceError.{ServiceError}
use Rattle.plan_service.specs.declared.plans.ServicePlan.{ServicePlan}
use Rattle.plan_service.proofs.PlannedCalls.{nothing_done}
use Rattle.plan_service.proofs.calling.plan_service.Goals as goal

-- what is planned of a call that asks for this
abbrev Planned : Cat → Text → Call → Result ServicePlan ServiceError → Service → Type 0
Planned c user call planned v = PlansDoing c user call (do_service call user (Some (service_of v))) planned

pub returns-in-Nothing : goal.returns-in-Nothing
returns-in-Nothing c = λ call.
    let name = user_name c.args.tables.now c.args.user in
    subst (λ (ds : List Delta). MakesChanges c.args.tables.now (do_service call name (Some (service_of c.args.service))) ds) (sym (c.from_vec.ensures ∙ c.new.ensures.items))
    (subst (λ (v : Service). MakesChanges c.args.tables.now (do_service call name (Some (service_of v))) []) (sym c.in-Nothing.is) (nothing_done c.args.tables.now name call))

pub returns-in-MkDir : goal.returns-in-MkDir
returns-in-MkDir c = λ call.
    let name = user_name c.args.tables.now c.args.user in
    subst (Planned c.args.tables.now name call c.changes_of.result) (sym c.in-MkDir.is) (c.changes_of.ensures c.args.tables.now name call (mkdir c.in-MkDir.path) c.plan_mkdir.ensures)

pub returns-in-RmDir : goal.returns-in-RmDir
returns-in-RmDir c = λ call.
    let name = user_name c.args.tables.now c.args.user in
    subst (Planned c.args.tables.now name call c.changes_of-in-RmDir.result) (sym c.in-RmDir.is) (c.changes_of-in-RmDir.ensures c.args.tables.now name call (rmdir c.in-RmDir.path) c.plan_rmdir.ensures)

pub returns-in-Mv : goal.returns-in-Mv
returns-in-Mv c = λ call.
    let name = user_name c.args.tables.now c.args.user in
    subst (Planned c.args.tables.now name call c.changes_of-in-Mv.result) (sym c.in-Mv.is) (c.changes_of-in-Mv.ensures c.args.tables.now name call (mv c.in-Mv.from c.in-Mv.to) c.plan_move.ensures)

pub returns-in-Repl : goal.returns-in-Repl
returns-in-Repl c = λ call.
    subst (Planned c.args.tables.now (user_name c.args.tables.now c.args.user) call c.repl_deed.result) (sym c.in-Repl.is) (c.repl_deed.ensures call)

pub returns-in-ChkSum : goal.returns-in-ChkSum
returns-in-ChkSum c = λ call.
    subst (Planned c.args.tables.now (user_name c.args.tables.now c.args.user) call c.chksum_deed.result) (sym c.in-ChkSum.is) (c.chksum_deed.ensures call)

pub returns-in-Copy : goal.returns-in-Copy
returns-in-Copy c = λ call.
    subst (Planned c.args.tables.now (user_name c.args.tables.now c.args.user) call c.copy_deed.result) (sym c.in-Copy.is) (c.copy_deed.ensures call)

pub returns-in-Trim : goal.returns-in-Trim
returns-in-Trim c = λ call.
    let name = user_name c.args.tables.now c.args.user in
    subst (Planned c.args.tables.now name call c.changes_of-in-Trim.result) (sym c.in-Trim.is) (c.changes_of-in-Trim.ensures c.args.tables.now name call (trim c.in-Trim.path c.in-Trim.resource.now) c.plan_trim.ensures)

pub returns-in-Rm : goal.returns-in-Rm
returns-in-Rm c = λ call.
    let name = user_name c.args.tables.now c.args.user in
    subst (Planned c.args.tables.now name call c.changes_of-in-Rm.result) (sym c.in-Rm.is) (c.changes_of-in-Rm.ensures c.args.tables.now name call (rm c.in-Rm.path) c.plan_rm.ensures)

pub plan_said-requires-clause-words : goal.plan_said-requires-clause-words
plan_said-requires-clause-words c = subst (λ (v : Service). AddsWords (Some (service_of v))) c.in-AddMeta.is c.requires.words

pub returns-in-AddMeta : goal.returns-in-AddMeta
returns-in-AddMeta c = λ call.
    let name = user_name c.args.tables.now c.args.user in
    subst (Planned c.args.tables.now name call c.changes_of-in-AddMeta.result) (sym c.in-AddMeta.is) (c.changes_of-in-AddMeta.ensures c.args.tables.now name call (addmeta (whole_triple c.in-AddMeta.triple)) c.plan_said.ensures)

pub returns-in-RmMeta : goal.returns-in-RmMeta
returns-in-RmMeta c = λ call.
    let name = user_name c.args.tables.now c.args.user in
    subst (Planned c.args.tables.now name call c.changes_of-in-RmMeta.result) (sym c.in-RmMeta.is) (c.changes_of-in-RmMeta.ensures c.args.tables.now name call (rmmeta (whole_triple c.in-RmMeta.triple)) c.plan_unsaid.ensures)

pub returns-in-ChMod : goal.returns-in-ChMod
returns-in-ChMod c = λ call.
    let name = user_name c.args.tables.now c.args.user in
    subst (Planned c.args.tables.now name call c.changes_of-in-ChMod.result) (sym c.in-ChMod.is) (c.changes_of-in-ChMod.ensures c.args.tables.now name call (chmod c.in-ChMod.level c.in-ChMod.name.now c.in-ChMod.path) c.plan_chmod.ensures)

pub returns-in-NoPath : goal.returns-in-NoPath
returns-in-NoPath c = λ call s at.
    ap (λ (v : Service). do_service call (user_name c.args.tables.now c.args.user) (Some (service_of v)) s) c.in-NoPath.is
