use Rattle.std.proofs.Common.{◌≡◌, ◌^◌, [], Some, refl, sym, ap, ◌∙◌, subst}
use Rattle.grid_model.specs.Applying.{IsMade}
use Rattle.grid_model.specs.Points.{Point}
use Rattle.grid_model.specs.RowGrids.{grid_of, user_name}
use Rattle.grid_model.specs.Rows.{Cat}
use Rattle.rule_cond.specs.Scopes.{env_of}
use Rattle.rule_run.proofs.Ended.{amid_first}
use Rattle.rule_run.proofs.Passing.{passes_none}
use Rattle.chain_core.specs.Rest.{steps_begun}
use Rattle.grid_model.specs.Names.{Text}
use Rattle.service_run.specs.Commands.{place_by}
use Rattle.work_run.specs.Behind.{IsBehind, from_start}
use Rattle.work_run.specs.Works.{DoesSo}
use Rattle.point_laws.specs.Works.{point_at}
use Rattle.work_run.proofs.Begun.{begins_at, cut_first}
use Rattle.work_run.proofs.Deeds.{asked_so}
use Rattle.work_run.proofs.ruled.do_ruled.Goals as goal

pub variables_of-requires-clause-made : goal.variables_of-requires-clause-made
variables_of-requires-clause-made g c = subst IsMade (sym c.tables.ensures) c.requires.held.made

pub variables_of-requires-clause-words : goal.variables_of-requires-clause-words
variables_of-requires-clause-words g c = c.requires.words

pub returns-in-Err-clause-executes : goal.returns-in-Err-clause-executes
returns-in-Err-clause-executes g c source at request w asked works does_so rules_is rules_called makes =
    let rows = c.args.store.now in
    let x = c.args.command in
    let user = user_name rows.cat x.user in
    let from_here = amid_first g.D.Disk.disk g.A.Ambient.ambient g.P.Plugin.plugin g.K.Sink.sink source at request rows.cat x asked
    (record { outside = c.args.outside.now; sink = c.args.sink.now }) rows c.requires.held refl (2 ^ 79) c.requires.ready in
    cut_first at request rows.cat x asked user w does_so g.D.Disk.disk g.A.Ambient.ambient g.P.Plugin.plugin g.K.Sink.sink source
    (record { outside = c.args.outside.now; sink = c.args.sink.now }) rows from_here c.names_complete.ensures c.pre_ends.ensures
    c.works_end_by_rows.ensures c.works_take_in_order.ensures c.works_send_behind.ensures (asked_so c.args.verb.now c.args.body.now w works)
    c.args.frames c.requires.frames.0 c.requires.frames.1 rows

pub returns-in-Err-clause-passes : goal.returns-in-Err-clause-passes
returns-in-Err-clause-passes g c =
    passes_none g.D.Disk.disk g.P.Plugin.plugin g.K.Sink.sink _ _ (λ f. cc f) (λ f. cc f) (record { outside = c.args.outside.now; sink = c.args.sink.now })

pub run_before-requires-clause-held : goal.run_before-requires-clause-held
run_before-requires-clause-held g c = c.requires.held

pub run_before-requires-clause-user : goal.run_before-requires-clause-user
run_before-requires-clause-user g c = c.requires.user

pub run_before-requires-clause-name : goal.run_before-requires-clause-name
run_before-requires-clause-name g c =
    sym (c.in-Ok.ensures.user ∙ ap (λ (k : Cat). user_name k c.args.command.user) c.tables.ensures)

pub run_before-requires-clause-keepable : goal.run_before-requires-clause-keepable
run_before-requires-clause-keepable g c = c.requires.keepable

pub run_before-requires-clause-slots : goal.run_before-requires-clause-slots
run_before-requires-clause-slots g c = c.requires.slots

pub run_before-requires-clause-words : goal.run_before-requires-clause-words
run_before-requires-clause-words g c = c.requires.words

pub run_before-requires-clause-verb : goal.run_before-requires-clause-verb
run_before-requires-clause-verb g c = c.requires.verb

pub run_before-requires-clause-frames : goal.run_before-requires-clause-frames
run_before-requires-clause-frames g c = c.requires.frames.1

pub run_before-requires-clause-checked : goal.run_before-requires-clause-checked
run_before-requires-clause-checked g c = c.requires.checked

pub run_before-requires-clause-ready : goal.run_before-requires-clause-ready
run_before-requires-clause-ready g c = c.requires.ready

pub returns-clause-executes : goal.returns-clause-executes
returns-clause-executes g c source at request w asked works does_so rules_is rules_called makes =
    let rows = c.args.store.now in
    let x = c.args.command in
    let user = user_name rows.cat x.user in
    let env = c.in-Ok.env in
    let name : env.user ≡ user = c.in-Ok.ensures.user ∙ ap (λ (k : Cat). user_name k x.user) c.tables.ensures in
    let p : Point = record { operation = c.args.names.operation; env = env_of env } in
    let is : point_at (grid_of rows.cat) user w ≡ Some p = ap (λ (k : Cat). point_at (grid_of k) (user_name k x.user) w) (sym c.tables.ensures)
    ∙ c.in-Ok.ensures.point w c.args.names.operation works c.requires.named in
    let W : Text → Type 0 = λ u. DoesSo at request u w in
    let B : Text → Type 0 = λ u. IsBehind at request [] (place_by rows.cat x) (steps_begun c.args.frames) (from_start at (Some p) u w) in
    c.run_before.ensures.executes source at request w p asked works (subst W (sym name) does_so) rules_is rules_called
    (record { env_is = refl; pre_is = sym c.requires.pre; post_is = sym c.requires.post })
    (subst B (sym name) (begins_at at request rows.cat x asked user w does_so p is (steps_begun c.args.frames) c.requires.frames.0)) makes

pub returns-clause-passes : goal.returns-clause-passes
returns-clause-passes g c = c.run_before.ensures.passes

pub returns-clause-drawn : goal.returns-clause-drawn
returns-clause-drawn g c = c.run_before.ensures.drawn
