use Rattle.std.proofs.Common.{◌^◌, List, [], refl, sym, ap, ◌∙◌, subst, arith}
use Rattle.grid_outside.specs.declared.outside.Wear.TheVariants as wear
use Rattle.grid_model.specs.Operations.Table.{Operation, put, repl, chksum, row}
use Rattle.grid_model.specs.RowGrids.{grid_of, user_name}
use Rattle.grid_model.specs.Working.{running}
use Rattle.grid_model.specs.declared.calls.Call.{Call}
use Rattle.grid_model.specs.declared.requests.Verb.{Verb}
use Rattle.deed_run.specs.Puts.{MayBeNoted, does_op}
use Rattle.row_run.specs.Verbs.{HasGoodWords, WorksBy}
use Rattle.run_laws.specs.Around.{around}
use Rattle.service_run.specs.Steps.{IsStep}
use Rattle.service_run.specs.declared.ending.Ending.TheVariants as ending
use Rattle.rule_run.proofs.Ended.{ready_less}
use Rattle.work_run.proofs.Deeds.{chksum_deed, put_deed, quiet_by, repl_deed, rows_file_less, rows_of, sum_file_less}
use Rattle.work_run.proofs.Next.{no_source}
use Rattle.work_run.proofs.VaultNeeds.{makes_as, never_worn}
use Rattle.work_run.proofs.working.dispatch.Goals as goal

-- ---- rows alone are changed

pub change_rows-requires-clause-held : goal.change_rows-requires-clause-held
change_rows-requires-clause-held g c = c.requires.held

pub change_rows-requires-clause-user : goal.change_rows-requires-clause-user
change_rows-requires-clause-user g c = c.requires.user

pub change_rows-requires-clause-words : goal.change_rows-requires-clause-words
change_rows-requires-clause-words g c = c.requires.words

pub change_rows-requires-clause-verb : goal.change_rows-requires-clause-verb
change_rows-requires-clause-verb g c =
    let its = c.requires.verb in
    (its.0, rows_of c.args.verb.now c.args.body.now its.0 c.requires.call (sym c.changes_rows.ensures ∙ c.if-changes_rows.true) its.1)

pub change_rows-requires-clause-ready : goal.change_rows-requires-clause-ready
change_rows-requires-clause-ready g c =
    ready_less g.D.Disk.disk g.P.Plugin.plugin g.K.Sink.sink (record { outside = c.args.outside.now; sink = c.args.sink.now }) (2 ^ 65) 0 (omega arith)
    c.requires.ready

pub returns-then-changes_rows-clause-step : goal.returns-then-changes_rows-clause-step
returns-then-changes_rows-clause-step g c source kept op held works =
    c.change_rows.ensures.step source kept op (running op) [] held
    (rows_of c.args.verb.now c.args.body.now op c.requires.call (sym c.changes_rows.ensures ∙ c.if-changes_rows.true) works)

pub returns-then-changes_rows-clause-refused : goal.returns-then-changes_rows-clause-refused
returns-then-changes_rows-clause-refused g c op r works refused = (
  c.change_rows.ensures.refused op r (rows_of c.args.verb.now c.args.body.now op c.requires.call (sym c.changes_rows.ensures ∙ c.if-changes_rows.true) works) refused,
  refl,
  refl,
)

pub returns-then-changes_rows-clause-files : goal.returns-then-changes_rows-clause-files
returns-then-changes_rows-clause-files g c op count place works is =
    absurd (never_worn (ending.Worn wear.Vaults place) place refl (c.change_rows.ensures.errors (ending.Worn wear.Vaults place) is))

-- ---- put

pub put-requires-clause-held : goal.put-requires-clause-held
put-requires-clause-held g c = c.requires.held

pub put-requires-clause-user : goal.put-requires-clause-user
put-requires-clause-user g c = c.requires.user

pub put-requires-clause-noted : goal.put-requires-clause-noted
put-requires-clause-noted g c = subst (λ (us : List Call). MayBeNoted c.args.command.now us) (sym c.no_calls-none.ensures) c.requires.noted

pub put-requires-clause-word : goal.put-requires-clause-word
put-requires-clause-word g c = subst HasGoodWords c.in-Put.is c.requires.words

pub put-requires-clause-slots : goal.put-requires-clause-slots
put-requires-clause-slots g c = c.requires.slots

pub put-requires-clause-ready : goal.put-requires-clause-ready
put-requires-clause-ready g c = c.requires.ready

pub returns-in-Put-clause-step : goal.returns-in-Put-clause-step
returns-in-Put-clause-step g c source kept op held works =
    let rows = c.args.store.now in
    let x = c.args.command.now in
    let user = user_name rows.cat x.user in
    let S : Operation → List Call → Type 0 = λ o us.
    IsStep (around g.D.Disk.disk g.A.Ambient.ambient g.P.Plugin.plugin c.args.outside.now (g.K.Sink.sink c.args.sink.now) source)
    (around g.D.Disk.disk g.A.Ambient.ambient g.P.Plugin.plugin c.put.new.outside (g.K.Sink.sink c.put.new.sink) source) kept rows x (running o) us
    c.put.new.command c.put.new.store (does_op user o) c.put.result in
    let its = subst (λ (v : Verb). WorksBy v c.args.body.now op) c.in-Put.is works in
    subst (λ (o : Operation). S o []) (sym its) (subst (S (put c.in-Put.path c.in-Put.resource c.in-Put.mode c.args.body.now)) c.no_calls-none.ensures (c.put.ensures.step source kept held))

pub returns-in-Put-clause-refused : goal.returns-in-Put-clause-refused
returns-in-Put-clause-refused g c op r works refused =
    let rows = c.args.store.now in
    let user = user_name rows.cat c.args.command.now.user in
    let its = subst (λ (v : Verb). WorksBy v c.args.body.now op) c.in-Put.is works in
    let all = c.put.ensures.refused r (ap (λ (o : Operation). row (grid_of rows.cat) user o) (sym its) ∙ refused) in
    (all.0, all.1, all.3)

pub returns-in-Put-clause-quiet : goal.returns-in-Put-clause-quiet
returns-in-Put-clause-quiet g c =
    let rows = c.args.store.now in
    let x = c.args.command.now in
    let user = user_name rows.cat x.user in
    quiet_by (around g.D.Disk.disk g.A.Ambient.ambient g.P.Plugin.plugin c.args.outside.now (g.K.Sink.sink c.args.sink.now) no_source)
    (around g.D.Disk.disk g.A.Ambient.ambient g.P.Plugin.plugin c.put.new.outside (g.K.Sink.sink c.put.new.sink) no_source) c.requires.held.0 rows x
    c.no_calls-none.result c.put.new.command c.put.new.store (put c.in-Put.path c.in-Put.resource c.in-Put.mode c.args.body.now) (put_deed (grid_of rows.cat) user c.in-Put.path c.in-Put.resource c.in-Put.mode c.args.body.now)
    (λ r refused. (c.put.ensures.refused r refused).0) c.put.result (c.put.ensures.step no_source c.requires.held.0 c.requires.held.1)

pub returns-in-Put-clause-files : goal.returns-in-Put-clause-files
returns-in-Put-clause-files g c op count place works is =
    makes_as op (put c.in-Put.path c.in-Put.resource c.in-Put.mode c.args.body.now) count (subst (λ (v : Verb). WorksBy v c.args.body.now op) c.in-Put.is works) tt

pub returns-in-Put-clause-passes : goal.returns-in-Put-clause-passes
returns-in-Put-clause-passes g c = c.put.ensures.passes

pub returns-in-Put-clause-drawn : goal.returns-in-Put-clause-drawn
returns-in-Put-clause-drawn g c = c.put.ensures.drawn

-- ---- repl

pub repl-requires-clause-held : goal.repl-requires-clause-held
repl-requires-clause-held g c = c.requires.held

pub repl-requires-clause-user : goal.repl-requires-clause-user
repl-requires-clause-user g c = c.requires.user

pub repl-requires-clause-noted : goal.repl-requires-clause-noted
repl-requires-clause-noted g c = subst (λ (us : List Call). MayBeNoted c.args.command.now us) (sym c.no_calls-none.ensures) c.requires.noted

pub repl-requires-clause-word : goal.repl-requires-clause-word
repl-requires-clause-word g c = subst HasGoodWords c.in-Repl.is c.requires.words

pub repl-requires-clause-slots : goal.repl-requires-clause-slots
repl-requires-clause-slots g c = c.requires.slots

pub repl-requires-clause-ready : goal.repl-requires-clause-ready
repl-requires-clause-ready g c = c.requires.ready

pub returns-in-Repl-clause-step : goal.returns-in-Repl-clause-step
returns-in-Repl-clause-step g c source kept op held works =
    let rows = c.args.store.now in
    let x = c.args.command.now in
    let user = user_name rows.cat x.user in
    let S : Operation → List Call → Type 0 = λ o us.
    IsStep (around g.D.Disk.disk g.A.Ambient.ambient g.P.Plugin.plugin c.args.outside.now (g.K.Sink.sink c.args.sink.now) source)
    (around g.D.Disk.disk g.A.Ambient.ambient g.P.Plugin.plugin c.repl.new.outside (g.K.Sink.sink c.repl.new.sink) source) kept rows x (running o) us
    c.repl.new.command c.repl.new.store (does_op user o) c.repl.result in
    let its = subst (λ (v : Verb). WorksBy v c.args.body.now op) c.in-Repl.is works in
    subst (λ (o : Operation). S o []) (sym its) (subst (S (repl c.in-Repl.path c.in-Repl.resource)) c.no_calls-none.ensures (c.repl.ensures.step source kept held))

pub returns-in-Repl-clause-refused : goal.returns-in-Repl-clause-refused
returns-in-Repl-clause-refused g c op r works refused =
    let rows = c.args.store.now in
    let user = user_name rows.cat c.args.command.now.user in
    let its = subst (λ (v : Verb). WorksBy v c.args.body.now op) c.in-Repl.is works in
    let all = c.repl.ensures.refused r (ap (λ (o : Operation). row (grid_of rows.cat) user o) (sym its) ∙ refused) in
    (all.0, all.1, all.3)

pub returns-in-Repl-clause-quiet : goal.returns-in-Repl-clause-quiet
returns-in-Repl-clause-quiet g c =
    let rows = c.args.store.now in
    let x = c.args.command.now in
    let user = user_name rows.cat x.user in
    quiet_by (around g.D.Disk.disk g.A.Ambient.ambient g.P.Plugin.plugin c.args.outside.now (g.K.Sink.sink c.args.sink.now) no_source)
    (around g.D.Disk.disk g.A.Ambient.ambient g.P.Plugin.plugin c.repl.new.outside (g.K.Sink.sink c.repl.new.sink) no_source) c.requires.held.0 rows x
    c.no_calls-none.result c.repl.new.command c.repl.new.store (repl c.in-Repl.path c.in-Repl.resource) (repl_deed (grid_of rows.cat) user c.in-Repl.path c.in-Repl.resource)
    (λ r refused. (c.repl.ensures.refused r refused).0) c.repl.result (c.repl.ensures.step no_source c.requires.held.0 c.requires.held.1)

pub returns-in-Repl-clause-files : goal.returns-in-Repl-clause-files
returns-in-Repl-clause-files g c op count place works is =
    makes_as op (repl c.in-Repl.path c.in-Repl.resource) count (subst (λ (v : Verb). WorksBy v c.args.body.now op) c.in-Repl.is works) tt

pub returns-in-Repl-clause-passes : goal.returns-in-Repl-clause-passes
returns-in-Repl-clause-passes g c = c.repl.ensures.passes

pub returns-in-Repl-clause-drawn : goal.returns-in-Repl-clause-drawn
returns-in-Repl-clause-drawn g c = c.repl.ensures.drawn

-- ---- chksum

pub chksum-requires-clause-held : goal.chksum-requires-clause-held
chksum-requires-clause-held g c = c.requires.held

pub chksum-requires-clause-user : goal.chksum-requires-clause-user
chksum-requires-clause-user g c = c.requires.user

pub chksum-requires-clause-noted : goal.chksum-requires-clause-noted
chksum-requires-clause-noted g c = subst (λ (us : List Call). MayBeNoted c.args.command.now us) (sym c.no_calls-none.ensures) c.requires.noted

pub chksum-requires-clause-slots : goal.chksum-requires-clause-slots
chksum-requires-clause-slots g c = c.requires.slots

pub chksum-requires-clause-ready : goal.chksum-requires-clause-ready
chksum-requires-clause-ready g c = c.requires.ready

pub returns-in-ChkSum-clause-step : goal.returns-in-ChkSum-clause-step
returns-in-ChkSum-clause-step g c source kept op held works =
    let rows = c.args.store.now in
    let x = c.args.command.now in
    let user = user_name rows.cat x.user in
    let S : Operation → List Call → Type 0 = λ o us.
    IsStep (around g.D.Disk.disk g.A.Ambient.ambient g.P.Plugin.plugin c.args.outside.now (g.K.Sink.sink c.args.sink.now) source)
    (around g.D.Disk.disk g.A.Ambient.ambient g.P.Plugin.plugin c.chksum.new.outside (g.K.Sink.sink c.chksum.new.sink) source) kept rows x (running o) us
    c.chksum.new.command c.chksum.new.store (does_op user o) c.chksum.result in
    let its = subst (λ (v : Verb). WorksBy v c.args.body.now op) c.in-ChkSum.is works in
    subst (λ (o : Operation). S o []) (sym its) (subst (S (chksum c.in-ChkSum.path)) c.no_calls-none.ensures (c.chksum.ensures.step source kept held))

pub returns-in-ChkSum-clause-refused : goal.returns-in-ChkSum-clause-refused
returns-in-ChkSum-clause-refused g c op r works refused =
    let rows = c.args.store.now in
    let user = user_name rows.cat c.args.command.now.user in
    let its = subst (λ (v : Verb). WorksBy v c.args.body.now op) c.in-ChkSum.is works in
    let all = c.chksum.ensures.refused r (ap (λ (o : Operation). row (grid_of rows.cat) user o) (sym its) ∙ refused) in
    (all.0, all.1, all.3)

pub returns-in-ChkSum-clause-quiet : goal.returns-in-ChkSum-clause-quiet
returns-in-ChkSum-clause-quiet g c =
    let rows = c.args.store.now in
    let x = c.args.command.now in
    let user = user_name rows.cat x.user in
    quiet_by (around g.D.Disk.disk g.A.Ambient.ambient g.P.Plugin.plugin c.args.outside.now (g.K.Sink.sink c.args.sink.now) no_source)
    (around g.D.Disk.disk g.A.Ambient.ambient g.P.Plugin.plugin c.chksum.new.outside (g.K.Sink.sink c.chksum.new.sink) no_source) c.requires.held.0 rows x
    c.no_calls-none.result c.chksum.new.command c.chksum.new.store (chksum c.in-ChkSum.path) (chksum_deed (grid_of rows.cat) user c.in-ChkSum.path)
    (λ r refused. (c.chksum.ensures.refused r refused).0) c.chksum.result (c.chksum.ensures.step no_source c.requires.held.0 c.requires.held.1)

pub returns-in-ChkSum-clause-files : goal.returns-in-ChkSum-clause-files
returns-in-ChkSum-clause-files g c op count place works is =
    absurd (never_worn (ending.Worn wear.Vaults place) place refl (c.chksum.ensures.errors (ending.Worn wear.Vaults place) is))

pub returns-in-ChkSum-clause-passes : goal.returns-in-ChkSum-clause-passes
returns-in-ChkSum-clause-passes g c = c.chksum.ensures.passes

pub returns-in-ChkSum-clause-drawn : goal.returns-in-ChkSum-clause-drawn
returns-in-ChkSum-clause-drawn g c = c.chksum.ensures.drawn

-- ---- there is a number left

pub returns-then-changes_rows-clause-number : goal.returns-then-changes_rows-clause-number
returns-then-changes_rows-clause-number g c op works makes =
    absurd (rows_file_less c.args.verb.now op
    (rows_of c.args.verb.now c.args.body.now op c.requires.call (sym c.changes_rows.ensures ∙ c.if-changes_rows.true) works) makes)

pub returns-in-Put-clause-number : goal.returns-in-Put-clause-number
returns-in-Put-clause-number g c op works makes = c.put.ensures.number

pub returns-in-Repl-clause-number : goal.returns-in-Repl-clause-number
returns-in-Repl-clause-number g c op works makes = c.repl.ensures.number

pub returns-in-ChkSum-clause-number : goal.returns-in-ChkSum-clause-number
returns-in-ChkSum-clause-number g c op works makes =
    absurd (sum_file_less c.in-ChkSum.path op (subst (λ (v : Verb). WorksBy v c.args.body.now op) c.in-ChkSum.is works) makes)
