use Rattle.std.proofs.Common.{◌≡◌, IsTrue, Err, Ok, refl, sym, ap, ◌∙◌, subst, arith}
use Rattle.std.specs.Prelude.{⊤, [], Result, IsErrOf}
use Rattle.grid_outside.specs.Ambient.{GivesTime}
use Rattle.grid_model.specs.Applying.{is_user}
use Rattle.grid_model.specs.Deeds.{deed}
use Rattle.grid_model.specs.Grid.{Grid}
use Rattle.grid_model.specs.Rows.{Cat}
use Rattle.grid_model.specs.RowGrids.{grid_of, user_name}
use Rattle.grid_model.specs.Operations.Objects.{put_row}
use Rattle.grid_model.specs.Operations.Table.{put}
use Rattle.grid_model.specs.Doing.{take_mark}
use Rattle.grid_model.specs.Working.{running}
use Rattle.grid_model.specs.declared.refusal.Failure.{Failure}
use Rattle.grid_deed.proofs.Keeping.{made_more}
use Rattle.run_laws.proofs.OneMark.{gave_untold}
use Rattle.service_run.specs.declared.ending.Ending.{Ending}
use Rattle.service_run.specs.declared.ending.Ending.TheVariants as ending
use Rattle.size_laws.specs.Within.{TakesAtMost}
use Rattle.service_run.proofs.FewMoments.{ran_within}
use Rattle.service_run.proofs.Passing.{passes_none, passes_as}
use Rattle.service_run.proofs.DeedSteps.{grid_before, looks_same}
use Rattle.service_run.proofs.StillSteps.{step_still}
use Rattle.deed_run.proofs.SmallFiles.{put_takes}
use Rattle.deed_run.proofs.PutSteps.{plan_as, put_step}
use Rattle.deed_run.proofs.putting.put_found.Goals as goal

-- ---- memory ran out before main was called

pub returns-in_default-clause-step : goal.returns-in_default-clause-step
returns-in_default-clause-step g c source kept d held row_is =
    let o = c.args.outside.now in
    let n = record o { ambient = c.now-now.new.self } in
    let k = g.K.Sink.sink c.args.sink.now in
    let x = c.args.command.now in
    let call = running (put c.args.path.now c.args.resource.now c.args.mode c.args.body.now) in
    let r : Result (Result ⊤ Failure) Ending = Err ending.Memory in
    step_still g.D.Disk.disk g.A.Ambient.ambient g.P.Plugin.plugin source o n k kept c.args.store.now x call c.args.undo.now x c.announce_put.new.store held c.requires.ready.outside.main_last c.requires.ready.sink_last refl refl (looks_same g.P.Plugin.plugin o.stores.items)
    (gave_untold c.word-word.result c.now-now.result (g.A.Ambient.ambient o.ambient) (g.A.Ambient.ambient c.word-word.new.self) (g.A.Ambient.ambient c.now-now.new.self) c.word-word.ensures c.now-now.ensures [] refl refl) (λ t. take_mark call t d t.marks) r tt

pub returns-in_default-clause-passes : goal.returns-in_default-clause-passes
returns-in_default-clause-passes g c =
    let r : Result (Result ⊤ Failure) Ending = Err ending.Memory in
    passes_none g.D.Disk.disk g.P.Plugin.plugin g.K.Sink.sink (IsErrOf r ending.Disk) (IsErrOf r ending.Sink) c.args.outside.now c.now-now.new.self c.args.sink.now (λ e. cc) (λ e. cc)

pub returns-in_default-put_plan-clause-step : goal.returns-in_default-put_plan-clause-step
returns-in_default-put_plan-clause-step g c source kept d held row_is =
    let o = c.args.outside.now in
    let n = record o { ambient = c.now-now.new.self } in
    let k = g.K.Sink.sink c.args.sink.now in
    let x = c.args.command.now in
    let call = running (put c.args.path.now c.args.resource.now c.args.mode c.args.body.now) in
    let r : Result (Result ⊤ Failure) Ending = Err ending.Memory in
    step_still g.D.Disk.disk g.A.Ambient.ambient g.P.Plugin.plugin source o n k kept c.args.store.now x call c.args.undo.now x c.announce_put.new.store held c.requires.ready.outside.main_last c.requires.ready.sink_last refl refl (looks_same g.P.Plugin.plugin o.stores.items)
    (gave_untold c.word-word.result c.now-now.result (g.A.Ambient.ambient o.ambient) (g.A.Ambient.ambient c.word-word.new.self) (g.A.Ambient.ambient c.now-now.new.self) c.word-word.ensures c.now-now.ensures [] refl refl) (λ t. take_mark call t d t.marks) r tt

pub returns-in_default-put_plan-clause-passes : goal.returns-in_default-put_plan-clause-passes
returns-in_default-put_plan-clause-passes g c =
    let r : Result (Result ⊤ Failure) Ending = Err ending.Memory in
    passes_none g.D.Disk.disk g.P.Plugin.plugin g.K.Sink.sink (IsErrOf r ending.Disk) (IsErrOf r ending.Sink) c.args.outside.now c.now-now.new.self c.args.sink.now (λ e. cc) (λ e. cc)

-- ---- what is asked of the calls

pub put_plan-requires-clause-made : goal.put_plan-requires-clause-made
put_plan-requires-clause-made g c =
    let kept = c.requires.held.0 in
    let s = c.in-Ok.ensures kept c.requires.held.1 in
    made_more kept c.announce_put.new.store.cat c.announce_put.new.store.staged s.held.made s.held.staged

pub put_plan-requires-clause-user : goal.put_plan-requires-clause-user
put_plan-requires-clause-user g c =
    let s = c.in-Ok.ensures c.requires.held.0 c.requires.held.1 in
    let U : Cat → Type 0 = λ e. IsTrue (is_user e c.args.command.now.user) in
    subst U (sym s.cat) c.requires.user

pub put_plan-requires-clause-may : goal.put_plan-requires-clause-may
put_plan-requires-clause-may g c =
    let x = c.args.command.now in
    let cat = c.args.store.now.cat in
    let s = c.in-Ok.ensures c.requires.held.0 c.requires.held.1 in
    let s1 = c.announce_put.new.store in
    let call = running (put c.args.path.now c.args.resource.now c.args.mode c.args.body.now) in
    let N : Cat → Type 0 = λ e. put_row (grid_of s1.cat) (user_name e x.user) c.args.path.now c.args.resource.now c.args.mode c.args.body.now ≡ Ok (deed c.requires.may.0) in (
      c.requires.may.0,
      subst N (sym s.cat) (ap (λ (grid : Grid). put_row grid (user_name cat x.user) c.args.path.now c.args.resource.now c.args.mode c.args.body.now) (grid_before cat x call c.args.undo.now s1.cat s.cat) ∙ c.requires.may.1),
    )

pub put_plan-requires-clause-vault : goal.put_plan-requires-clause-vault
put_plan-requires-clause-vault g c =
    let s = c.in-Ok.ensures c.requires.held.0 c.requires.held.1 in
    omega (arith, ap (λ (e : Cat). e.numbers.next_vault) s.cat, c.requires.vault)

pub write_marked-requires-clause-few : goal.write_marked-requires-clause-few
write_marked-requires-clause-few g c = c.in-Ok-put_plan.ensures.few

pub write_marked-requires-clause-held : goal.write_marked-requires-clause-held
write_marked-requires-clause-held g c = (c.requires.held.0, (c.in-Ok.ensures c.requires.held.0 c.requires.held.1).held)

pub write_marked-requires-clause-plan : goal.write_marked-requires-clause-plan
write_marked-requires-clause-plan g c =
    let s = c.in-Ok.ensures c.requires.held.0 c.requires.held.1 in
    plan_as c.announce_put.new.store.cat c.in-Ok-put_plan.plan _ _ c.args.body.now (ap (λ (e : Cat). e.stores) s.cat ∙ c.requires.slots) c.in-Ok-put_plan.ensures.plans.makes.is_plan

pub write_marked-requires-clause-ready : goal.write_marked-requires-clause-ready
write_marked-requires-clause-ready g c =
    let ready = c.requires.ready in
    record {
      outside = record { main_last = ready.outside.main_last; stores_last = ready.outside.stores_last; room = ready.outside.room };
      sink_last = ready.sink_last;
    }

-- ---- the deed

pub returns-clause-step : goal.returns-clause-step
returns-clause-step g c source kept d held row_is =
    let o = c.args.outside.now in
    let n = c.write_marked.new.outside in
    let ambient = g.A.Ambient.ambient in
    let x = c.args.command.now in
    let rows = c.args.store.now in
    let cat = rows.cat in
    let path = c.args.path.now in
    let resource = c.args.resource.now in
    let mode = c.args.mode in
    let body = c.args.body.now in
    let call = running (put path resource mode body) in
    let undo = c.args.undo.now in
    let s = c.in-Ok.ensures kept held in
    let s1 = c.announce_put.new.store in
    let w = c.in-Ok-put_plan.ensures.plans in
    let count_is = ap (λ (e : Cat). e.stores) s.cat ∙ c.requires.slots in
    let p = plan_as s1.cat c.in-Ok-put_plan.plan _ _ body count_is w.makes.is_plan in
    let write = c.write_marked.ensures in
    let T : _ → Type 0 = λ a. IsTrue (ambient a).tells → GivesTime (ambient c.word-word.new.self) c.now-now.result (ambient a) in
    let N : Cat → Type 0 = λ e. put_row (grid_of s1.cat) (user_name e x.user) path resource mode body ≡ Ok (deed d) in
    put_step g.D.Disk.disk ambient g.P.Plugin.plugin g.K.Sink.sink source o n c.now-now.new.self c.args.sink.now c.write_marked.new.sink kept rows x call undo
    c.requires.user s1 s.cat (put_row (grid_of s1.cat) (user_name s1.cat x.user) path resource mode body) _ count_is (omega (arith, c.requires.slots, o.stores.ok.0))
    c.word-word.result c.now-now.result body c.in-Ok-put_plan.plan w c.in-Ok-put_plan.ensures.leaves
    (ran_within s1.cat cat (user_name s1.cat x.user) (put path resource mode body) w.of (grid_before cat x call undo s1.cat s.cat)
    w.row_is c.word-word.result c.now-now.result [])
    (ambient c.word-word.new.self) c.word-word.ensures (subst T (sym write.ambient) c.now-now.ensures) write.passes.frame.stores
    d (subst N (sym s.cat) (ap (λ (grid : Grid). put_row grid (user_name cat x.user) path resource mode body) (grid_before cat x call undo s1.cat s.cat) ∙ row_is))
    c.write_marked.result c.write_marked.new.command c.write_marked.new.store (write.marked kept s.held p) (write.whole kept s.held)

pub returns-clause-passes : goal.returns-clause-passes
returns-clause-passes g c =
    passes_as g.D.Disk.disk g.P.Plugin.plugin g.K.Sink.sink _ _ _ _ c.args.outside.now c.write_marked.new.outside c.now-now.new.self c.args.sink.now c.write_marked.new.sink (λ e. e) (λ e. e) (λ e. e) c.write_marked.ensures.passes

pub returns-clause-untouched : goal.returns-clause-untouched
returns-clause-untouched g c place is = absurd (c.write_marked.ensures.left place is)

-- ---- how many moments it takes

pub returns-in_default-clause-drawn : goal.returns-in_default-clause-drawn
returns-in_default-clause-drawn g c each most = omega arith

pub returns-in_default-put_plan-clause-drawn : goal.returns-in_default-put_plan-clause-drawn
returns-in_default-put_plan-clause-drawn g c each most = omega arith

pub returns-clause-drawn : goal.returns-clause-drawn
returns-clause-drawn g c each most =
    let x = c.args.command.now in
    let cat = c.args.store.now.cat in
    let path = c.args.path.now in
    let resource = c.args.resource.now in
    let mode = c.args.mode in
    let body = c.args.body.now in
    let s = c.in-Ok.ensures c.requires.held.0 c.requires.held.1 in
    let s1 = c.announce_put.new.store in
    let T : Grid → Type 0 = λ grid. TakesAtMost grid each in
    let takes = put_takes s1.cat (made_more c.requires.held.0 s1.cat s1.staged s.held.made s.held.staged) (user_name s1.cat x.user) path resource mode body
    c.word-word.result c.now-now.result c.in-Ok-put_plan.plan c.in-Ok-put_plan.ensures.plans c.in-Ok-put_plan.ensures.leaves c.write_marked.ensures.few each
    (subst T (sym (grid_before cat x (running (put path resource mode body)) c.args.undo.now s1.cat s.cat)) most) in
    omega (arith, c.write_marked.ensures.drawn, takes)
