use Rattle.std.proofs.Common.{IsTrue, Err, refl, sym, ap, ◌∙◌, subst, arith}
use Rattle.std.specs.Prelude.{⊤, [], Result, IsErrOf}
use Rattle.grid_outside.specs.Ambient.{GivesTime}
use Rattle.grid_outside.specs.declared.outside.Wear.TheVariants as wear
use Rattle.grid_model.specs.Applying.{is_user}
use Rattle.grid_model.specs.Names.{Text}
use Rattle.grid_model.specs.Rows.{Cat}
use Rattle.grid_model.specs.Grid.{Grid}
use Rattle.grid_model.specs.RowGrids.{grid_of, user_name}
use Rattle.grid_model.specs.Operations.Replicas.{copy_row}
use Rattle.grid_model.specs.Operations.Table.{copy as copy_of}
use Rattle.grid_model.specs.Doing.{take_mark}
use Rattle.grid_model.specs.declared.refusal.Failure.{Failure}
use Rattle.grid_deed.proofs.Keeping.{made_more}
use Rattle.plan_object.specs.CopyPlans.{MayCopy}
use Rattle.plan_object.specs.ReplPlans.{CopiesFile}
use Rattle.run_laws.proofs.Draws.{gave-none}
use Rattle.run_laws.proofs.OneMark.{gave_untold}
use Rattle.size_laws.specs.Within.{TakesAtMost}
use Rattle.service_run.specs.declared.ending.Ending.{Ending}
use Rattle.service_run.specs.declared.ending.Ending.TheVariants as ending
use Rattle.service_run.specs.Commands.{noted_in}
use Rattle.service_run.proofs.Passing.{passes_none, passes_as}
use Rattle.service_run.proofs.DeedSteps.{copy_named, copy_plan_as, grid_before, looks_same, marked_step}
use Rattle.service_run.proofs.FewMoments.{copy_takes, ran_within}
use Rattle.service_run.proofs.SameRows.{may_copy_pending}
use Rattle.service_run.proofs.StillSteps.{step_still, still_same}
use Rattle.service_run.proofs.copying_objects.copy_object.Goals as goal

-- ---- the numbers of vault files have run out

pub returns-in-Some-clause-step : goal.returns-in-Some-clause-step
returns-in-Some-clause-step g c source kept from d held finds row_is =
    let o = c.args.outside.now in
    let k = g.K.Sink.sink c.args.sink.now in
    let x = c.args.command.now in
    let s = c.args.store.now in
    let call = c.args.call.now in
    let r : Result (Result ⊤ Failure) Ending = Err (ending.Worn wear.Vaults c.in-Some.at) in
    let spent = c.spent_vaults.ensures.spent c.in-Some.at c.in-Some.is in
    step_still g.D.Disk.disk g.A.Ambient.ambient g.P.Plugin.plugin source o o k kept s x call c.args.undo.now x s held c.requires.ready.outside.main_last c.requires.ready.sink_last refl refl (looks_same g.P.Plugin.plugin o.stores.items)
    (gave-none (g.A.Ambient.ambient o.ambient)) (λ t. take_mark call t d t.marks) r (spent.0, spent.1, still_same (g.D.Disk.disk o.main), still_same k)

pub returns-in-Some-clause-passes : goal.returns-in-Some-clause-passes
returns-in-Some-clause-passes g c =
    let o = c.args.outside.now in
    let r : Result (Result ⊤ Failure) Ending = Err (ending.Worn wear.Vaults c.in-Some.at) in
    passes_none g.D.Disk.disk g.P.Plugin.plugin g.K.Sink.sink (IsErrOf r ending.Disk) (IsErrOf r ending.Sink) o o.ambient c.args.sink.now (λ e. cc) (λ e. cc)

-- ---- memory ran out before main was called

pub returns-in_default-clause-step : goal.returns-in_default-clause-step
returns-in_default-clause-step g c source kept from d held finds row_is =
    let o = c.args.outside.now in
    let n = record o { ambient = c.now-now.new.self } in
    let k = g.K.Sink.sink c.args.sink.now in
    let x = c.args.command.now in
    let call = c.args.call.now in
    let r : Result (Result ⊤ Failure) Ending = Err ending.Memory in
    step_still g.D.Disk.disk g.A.Ambient.ambient g.P.Plugin.plugin source o n k kept c.args.store.now x call c.args.undo.now x c.announce.new.store held c.requires.ready.outside.main_last c.requires.ready.sink_last refl refl (looks_same g.P.Plugin.plugin o.stores.items)
    (gave_untold c.word-word.result c.now-now.result (g.A.Ambient.ambient o.ambient) (g.A.Ambient.ambient c.word-word.new.self) (g.A.Ambient.ambient c.now-now.new.self) c.word-word.ensures c.now-now.ensures [] refl refl) (λ t. take_mark call t d t.marks) r tt

pub returns-in_default-clause-passes : goal.returns-in_default-clause-passes
returns-in_default-clause-passes g c =
    let r : Result (Result ⊤ Failure) Ending = Err ending.Memory in
    passes_none g.D.Disk.disk g.P.Plugin.plugin g.K.Sink.sink (IsErrOf r ending.Disk) (IsErrOf r ending.Sink) c.args.outside.now c.now-now.new.self c.args.sink.now (λ e. cc) (λ e. cc)

pub returns-in_default-copy_plan-clause-step : goal.returns-in_default-copy_plan-clause-step
returns-in_default-copy_plan-clause-step g c source kept from d held finds row_is =
    let o = c.args.outside.now in
    let n = record o { ambient = c.now-now.new.self } in
    let k = g.K.Sink.sink c.args.sink.now in
    let x = c.args.command.now in
    let call = c.args.call.now in
    let r : Result (Result ⊤ Failure) Ending = Err ending.Memory in
    step_still g.D.Disk.disk g.A.Ambient.ambient g.P.Plugin.plugin source o n k kept c.args.store.now x call c.args.undo.now x c.announce.new.store held c.requires.ready.outside.main_last c.requires.ready.sink_last refl refl (looks_same g.P.Plugin.plugin o.stores.items)
    (gave_untold c.word-word.result c.now-now.result (g.A.Ambient.ambient o.ambient) (g.A.Ambient.ambient c.word-word.new.self) (g.A.Ambient.ambient c.now-now.new.self) c.word-word.ensures c.now-now.ensures [] refl refl) (λ t. take_mark call t d t.marks) r tt

pub returns-in_default-copy_plan-clause-passes : goal.returns-in_default-copy_plan-clause-passes
returns-in_default-copy_plan-clause-passes g c =
    let r : Result (Result ⊤ Failure) Ending = Err ending.Memory in
    passes_none g.D.Disk.disk g.P.Plugin.plugin g.K.Sink.sink (IsErrOf r ending.Disk) (IsErrOf r ending.Sink) c.args.outside.now c.now-now.new.self c.args.sink.now (λ e. cc) (λ e. cc)

-- ---- what is asked of the calls

pub copy_plan-requires-clause-made : goal.copy_plan-requires-clause-made
copy_plan-requires-clause-made g c =
    let kept = c.requires.held.0 in
    let s = c.in-Ok.ensures kept c.requires.held.1 in
    made_more kept c.announce.new.store.cat c.announce.new.store.staged s.held.made s.held.staged

pub copy_plan-requires-clause-user : goal.copy_plan-requires-clause-user
copy_plan-requires-clause-user g c =
    let x = c.args.command.now in
    let s = c.in-Ok.ensures c.requires.held.0 c.requires.held.1 in
    let U : Cat → Type 0 = λ e. IsTrue (is_user e x.user) in
    subst U (sym s.cat) c.requires.user

pub copy_plan-requires-clause-may : goal.copy_plan-requires-clause-may
copy_plan-requires-clause-may g c =
    let x = c.args.command.now in
    let cat = c.args.store.now.cat in
    let s = c.in-Ok.ensures c.requires.held.0 c.requires.held.1 in
    let from = c.requires.may.0 in
    let M : Cat → Type 0 = λ e. MayCopy e (user_name e x.user) from c.args.to.now c.args.resource.now c.args.file.now in
    (from, subst M (sym s.cat) (may_copy_pending cat (noted_in x c.args.call.now c.args.undo.now) (user_name cat x.user) from c.args.to.now c.args.resource.now c.args.file.now c.requires.may.1))

pub copy_plan-requires-clause-vault : goal.copy_plan-requires-clause-vault
copy_plan-requires-clause-vault g c =
    let s = c.in-Ok.ensures c.requires.held.0 c.requires.held.1 in
    omega (arith, ap (λ (e : Cat). e.numbers.next_vault) s.cat, c.spent_vaults.ensures.left c.in-None.is)

pub copy_marked-requires-clause-few : goal.copy_marked-requires-clause-few
copy_marked-requires-clause-few g c = c.in-Ok-copy_plan.ensures.few

pub copy_marked-requires-clause-held : goal.copy_marked-requires-clause-held
copy_marked-requires-clause-held g c = (c.requires.held.0, (c.in-Ok.ensures c.requires.held.0 c.requires.held.1).held)

pub copy_marked-requires-clause-plan : goal.copy_marked-requires-clause-plan
copy_marked-requires-clause-plan g c =
    let x = c.args.command.now in
    let cat = c.args.store.now.cat in
    let s = c.in-Ok.ensures c.requires.held.0 c.requires.held.1 in
    let from = c.requires.may.0 in
    let M : Cat → Type 0 = λ e. MayCopy e (user_name e x.user) from c.args.to.now c.args.resource.now c.args.file.now in
    let may = subst M (sym s.cat) (may_copy_pending cat (noted_in x c.args.call.now c.args.undo.now) (user_name cat x.user) from c.args.to.now c.args.resource.now c.args.file.now c.requires.may.1) in
    let w = c.in-Ok-copy_plan.ensures.plans from may in
    copy_plan_as c.announce.new.store.cat c.in-Ok-copy_plan.plan _ _ c.args.file.now (ap (λ (e : Cat). e.stores) s.cat ∙ c.requires.slots) w.makes.is_plan

pub copy_marked-requires-clause-source : goal.copy_marked-requires-clause-source
copy_marked-requires-clause-source g c = omega (arith, c.requires.may.1.within, c.requires.slots)

pub copy_marked-requires-clause-ready : goal.copy_marked-requires-clause-ready
copy_marked-requires-clause-ready g c =
    let ready = c.requires.ready in
    record {
      outside = record { main_last = ready.outside.main_last; stores_last = ready.outside.stores_last; room = ready.outside.room };
      sink_last = ready.sink_last;
    }

-- ---- the deed

pub returns-clause-step : goal.returns-clause-step
returns-clause-step g c source kept from d held finds row_is =
    let o = c.args.outside.now in
    let n = c.copy_marked.new.outside in
    let ambient = g.A.Ambient.ambient in
    let x = c.args.command.now in
    let rows = c.args.store.now in
    let cat = rows.cat in
    let name = user_name cat x.user in
    let to = c.args.to.now in
    let resource = c.args.resource.now in
    let file = c.args.file.now in
    let call = c.args.call.now in
    let undo = c.args.undo.now in
    let s = c.in-Ok.ensures kept held in
    let s1 = c.announce.new.store in
    let M : Cat → Type 0 = λ e. MayCopy e (user_name e x.user) from to resource file in
    let may = subst M (sym s.cat) (may_copy_pending cat (noted_in x call undo) name from to resource file finds) in
    let R : Text → Type 0 = λ u. CopiesFile s1.cat (copy_row (grid_of s1.cat) u from to resource) c.word-word.result c.now-now.result file c.in-Ok-copy_plan.plan in
    let w = subst R (ap (λ (e : Cat). user_name e x.user) s.cat) (c.in-Ok-copy_plan.ensures.plans from may) in
    let count_is = ap (λ (e : Cat). e.stores) s.cat ∙ c.requires.slots in
    let p = copy_plan_as s1.cat c.in-Ok-copy_plan.plan _ _ file count_is w.makes.is_plan in
    let copy = c.copy_marked.ensures in
    let T : _ → Type 0 = λ a. IsTrue (ambient a).tells → GivesTime (ambient c.word-word.new.self) c.now-now.result (ambient a) in
    marked_step g.D.Disk.disk ambient g.P.Plugin.plugin g.K.Sink.sink source o n c.now-now.new.self c.args.sink.now c.copy_marked.new.sink kept rows x call undo
    c.requires.user s1 s.cat (copy_row (grid_of s1.cat) name from to resource) file (copy_named cat name from to resource file finds) finds.within _ count_is (omega (arith, c.requires.slots, o.stores.ok.0))
    c.word-word.result c.now-now.result c.in-Ok-copy_plan.plan w c.in-Ok-copy_plan.ensures.leaves
    (ran_within s1.cat cat name (copy_of from to resource) w.of (grid_before cat x call undo s1.cat s.cat) w.row_is c.word-word.result c.now-now.result [])
    (ambient c.word-word.new.self) c.word-word.ensures (subst T (sym copy.ambient) c.now-now.ensures) c.requires.ready.outside.stores_last copy.passes.frame.stores
    d (ap (λ (grid : Grid). copy_row grid name from to resource) (grid_before cat x call undo s1.cat s.cat) ∙ row_is) c.copy_marked.result c.copy_marked.new.command c.copy_marked.new.store (copy.marked kept s.held p) (copy.whole kept s.held)

pub returns-clause-passes : goal.returns-clause-passes
returns-clause-passes g c =
    passes_as g.D.Disk.disk g.P.Plugin.plugin g.K.Sink.sink _ _ _ _ c.args.outside.now c.copy_marked.new.outside c.now-now.new.self c.args.sink.now c.copy_marked.new.sink (λ e. e) (λ e. e) (λ e. e) c.copy_marked.ensures.passes

-- ---- how many moments it takes

pub returns-in-Some-clause-drawn : goal.returns-in-Some-clause-drawn
returns-in-Some-clause-drawn g c each most = omega arith

pub returns-in_default-clause-drawn : goal.returns-in_default-clause-drawn
returns-in_default-clause-drawn g c each most = omega arith

pub returns-in_default-copy_plan-clause-drawn : goal.returns-in_default-copy_plan-clause-drawn
returns-in_default-copy_plan-clause-drawn g c each most = omega arith

pub returns-clause-drawn : goal.returns-clause-drawn
returns-clause-drawn g c each most =
    let x = c.args.command.now in
    let cat = c.args.store.now.cat in
    let to = c.args.to.now in
    let resource = c.args.resource.now in
    let file = c.args.file.now in
    let call = c.args.call.now in
    let undo = c.args.undo.now in
    let from = c.requires.may.0 in
    let s = c.in-Ok.ensures c.requires.held.0 c.requires.held.1 in
    let s1 = c.announce.new.store in
    let M : Cat → Type 0 = λ e. MayCopy e (user_name e x.user) from to resource file in
    let may = subst M (sym s.cat) (may_copy_pending cat (noted_in x call undo) (user_name cat x.user) from to resource file c.requires.may.1) in
    let w = c.in-Ok-copy_plan.ensures.plans from may in
    let T : Grid → Type 0 = λ grid. TakesAtMost grid each in
    let takes = copy_takes s1.cat (made_more c.requires.held.0 s1.cat s1.staged s.held.made s.held.staged) (user_name s1.cat x.user) (copy_of from to resource)
    c.word-word.result c.now-now.result file c.in-Ok-copy_plan.plan w c.in-Ok-copy_plan.ensures.leaves c.copy_marked.ensures.few each
    (subst T (sym (grid_before cat x call undo s1.cat s.cat)) most) in
    omega (arith, c.copy_marked.ensures.drawn, takes)

pub returns-clause-untouched : goal.returns-clause-untouched
returns-clause-untouched g c place is = absurd (c.copy_marked.ensures.left place is)
