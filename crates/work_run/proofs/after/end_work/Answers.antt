use Rattle.std.proofs.Common.{◌≡◌, ◌+◌, ◌*◌, ◌^◌, List, ◌++◌, sym, ap, ◌∙◌, subst, arith}
use Rattle.grid_model.specs.Names.{Text}
use Rattle.grid_model.specs.declared.replies.End.{End}
use Rattle.grid_model.specs.declared.replies.End.TheVariants as end
use Rattle.grid_headline.specs.Files.{IsKnown}
use Rattle.chain_core.specs.Seen.{rules_of}
use Rattle.rule_cond.specs.Scopes.{env_of}
use Rattle.service_run.specs.Commands.{place_by}
use Rattle.call_laws.specs.Amid.{world}
use Rattle.call_laws.proofs.Joined.{passes_then, passes_well}
use Rattle.rule_run.proofs.Ended.{passes_err, ready_after, ready_less}
use Rattle.rule_run.proofs.Settings.{is_setting}
use Rattle.work_run.specs.Behind.{IsEnded, Said}
use Rattle.work_run.specs.Pointed.{point_end, rows_told}
use Rattle.work_run.proofs.Ends.{tells_more}
use Rattle.work_run.proofs.Points.{post_cut, post_ended, post_ended_well, post_waits_with}
use Rattle.work_run.proofs.after.end_work.Goals as goal
use Rattle.size_laws.specs.Within.{many}

-- ---- the rules

pub run_point-requires-clause-held : goal.run_point-requires-clause-held
run_point-requires-clause-held g c = c.requires.held

pub run_point-requires-clause-user : goal.run_point-requires-clause-user
run_point-requires-clause-user g c = c.requires.user

pub run_point-requires-clause-name : goal.run_point-requires-clause-name
run_point-requires-clause-name g c = c.requires.name

pub run_point-requires-clause-slots : goal.run_point-requires-clause-slots
run_point-requires-clause-slots g c = c.requires.slots

pub run_point-requires-clause-words : goal.run_point-requires-clause-words
run_point-requires-clause-words g c = c.requires.keepable.0

pub run_point-requires-clause-kept : goal.run_point-requires-clause-kept
run_point-requires-clause-kept g c = c.requires.keepable.1

pub run_point-requires-clause-checked : goal.run_point-requires-clause-checked
run_point-requires-clause-checked g c = c.requires.checked

pub run_point-requires-clause-ready : goal.run_point-requires-clause-ready
run_point-requires-clause-ready g c =
    ready_less g.D.Disk.disk g.P.Plugin.plugin g.K.Sink.sink (record { outside = c.args.outside.now; sink = c.args.sink.now }) (c.args.after.left * 2 ^ 65 + 5)
    (c.args.after.left * 2 ^ 65) (omega arith) c.requires.ready

-- ---- they were cut short

pub returns-in-Err-clause-executes : goal.returns-in-Err-clause-executes
returns-in-Err-clause-executes g c source at request before x from taken user w p text_of sent asked does_so asked_so its amid tells behind number =
    let rules = rules_of c.args.rules.now in
    let env = env_of c.args.after.env in
    let place = place_by c.args.store.now.cat c.args.command in
    let said : Said = record { words = c.args.words; rows = c.args.rows; sent = sent } in
    let ends = c.in-Err.ensures.runs source at request before x text_of from taken (is_setting at request before x asked text_of) amid
    (post_waits_with at request rules env p its.rules_are its.env_is c.args.after.frames place taken its.unstopped c.args.after.post its.name_is said behind)
    asked in
    post_cut at request rules env p its.rules_are its.env_is c.args.after.frames place taken its.unstopped c.args.after.post its.name_is said behind
    g.D.Disk.disk g.A.Ambient.ambient g.P.Plugin.plugin g.K.Sink.sink source before x asked text_of from
    (record { outside = c.run_point.new.outside; sink = c.run_point.new.sink }) user w does_so asked_so c.works_end_by_rows.ensures
    c.works_take_in_order.ensures tells c.in-Err.ending ends.0 ends.1
    (c.run_point.ensures.passes.frame.stores.count ∙ amid.passes.frame.stores.count) c.run_point.new.store

pub returns-in-Err-clause-passes : goal.returns-in-Err-clause-passes
returns-in-Err-clause-passes g c =
    passes_err g.D.Disk.disk g.P.Plugin.plugin g.K.Sink.sink c.in-Err.ending (record { outside = c.args.outside.now; sink = c.args.sink.now })
    (record { outside = c.run_point.new.outside; sink = c.run_point.new.sink }) c.in-Err.ensures.passes

pub returns-in-Err-clause-drawn : goal.returns-in-Err-clause-drawn
returns-in-Err-clause-drawn g c each most = omega (arith, c.run_point.ensures.drawn each most)

-- ---- they failed

pub conclude-requires-clause-held : goal.conclude-requires-clause-held
conclude-requires-clause-held g c = c.in-Ok.ensures.held

pub conclude-requires-clause-writable : goal.conclude-requires-clause-writable
conclude-requires-clause-writable g c = c.failed_after-end.ensures.writable

pub conclude-requires-clause-rows : goal.conclude-requires-clause-rows
conclude-requires-clause-rows g c = c.rows_told-rows.ensures.words c.requires.rows

pub conclude-requires-clause-ready : goal.conclude-requires-clause-ready
conclude-requires-clause-ready g c =
    ready_after g.D.Disk.disk g.P.Plugin.plugin g.K.Sink.sink _ _ (record { outside = c.args.outside.now; sink = c.args.sink.now })
    (record { outside = c.run_point.new.outside; sink = c.run_point.new.sink }) (c.args.after.left * 2 ^ 65 + 5) 5 c.run_point.ensures.passes c.requires.ready
    (omega (arith, c.run_point.ensures.drawn (2 ^ 65) many))

pub returns-in-Some-clause-executes : goal.returns-in-Some-clause-executes
returns-in-Some-clause-executes g c source at request before x from taken user w p text_of sent asked does_so asked_so its amid tells behind number =
    let rules = rules_of c.args.rules.now in
    let env = env_of c.args.after.env in
    let place = place_by c.args.store.now.cat c.args.command in
    let said : Said = record { words = c.args.words; rows = c.args.rows; sent = sent } in
    let runs = c.in-Ok.ensures.runs source at request before x text_of from taken (is_setting at request before x asked text_of) amid
    (post_waits_with at request rules env p its.rules_are its.env_is c.args.after.frames place taken its.unstopped c.args.after.post its.name_is said behind)
    asked in
    let E : List (List Text) → End → Type 0 = λ rs e.
    IsEnded at request (taken ++ runs.more) (place_by c.run_point.new.store.cat c.run_point.new.command) rs sent e in
    let told : rows_told (point_end end.PostFailed c.in-Some.failure) c.args.rows ≡ c.rows_told-rows.result
    = sym (c.rows_told-rows.ensures.is ∙ ap (λ (e : End). rows_told e c.args.rows) c.failed_after-end.ensures.is) in
    c.conclude.ensures.executes source at request before x from (taken ++ runs.more) user w text_of sent asked does_so asked_so runs.amid
    (tells_more (IsKnown (world g.D.Disk.disk g.A.Ambient.ambient g.P.Plugin.plugin g.K.Sink.sink source from) before) x.number text_of sent taken runs.more
    tells)
    (subst (E c.rows_told-rows.result) (sym c.failed_after-end.ensures.is)
    (subst (λ (rs : List (List Text)). E rs (point_end end.PostFailed c.in-Some.failure)) told
    (post_ended at request rules env p its.rules_are its.env_is c.args.after.frames place taken its.unstopped c.args.after.post its.name_is said behind
    c.names_halt.ensures c.names_are_stopped.ensures runs.more c.in-Ok.outcome c.run_point.new.frames
    (place_by c.run_point.new.store.cat c.run_point.new.command) runs.gives_so c.in-Some.failure (sym c.failure_of.ensures ∙ c.in-Some.is))))
    (λ calls. absurd (its.calls calls)) (λ was. number)

pub returns-in-Some-clause-passes : goal.returns-in-Some-clause-passes
returns-in-Some-clause-passes g c =
    passes_then g.D.Disk.disk g.P.Plugin.plugin g.K.Sink.sink _ _ (record { outside = c.args.outside.now; sink = c.args.sink.now })
    (record { outside = c.run_point.new.outside; sink = c.run_point.new.sink })
    (record { outside = c.conclude.new.outside; sink = c.conclude.new.sink })
    (passes_well g.D.Disk.disk g.P.Plugin.plugin g.K.Sink.sink _ _ ⊥ ⊥ (record { outside = c.args.outside.now; sink = c.args.sink.now })
    (record { outside = c.run_point.new.outside; sink = c.run_point.new.sink }) (λ f. cc f) (λ e. e) (λ e. e) c.in-Ok.ensures.passes)
    c.conclude.ensures.passes

pub returns-in-Some-clause-drawn : goal.returns-in-Some-clause-drawn
returns-in-Some-clause-drawn g c each most = omega (arith, c.run_point.ensures.drawn each most, c.conclude.ensures.drawn)

-- ---- they held

pub conclude-requires-in-None-clause-held : goal.conclude-requires-in-None-clause-held
conclude-requires-in-None-clause-held g c = c.in-Ok.ensures.held

pub conclude-requires-in-None-clause-writable : goal.conclude-requires-in-None-clause-writable
conclude-requires-in-None-clause-writable g c = c.requires.shown

pub conclude-requires-in-None-clause-rows : goal.conclude-requires-in-None-clause-rows
conclude-requires-in-None-clause-rows g c = c.requires.rows

pub conclude-requires-in-None-clause-ready : goal.conclude-requires-in-None-clause-ready
conclude-requires-in-None-clause-ready g c =
    ready_after g.D.Disk.disk g.P.Plugin.plugin g.K.Sink.sink _ _ (record { outside = c.args.outside.now; sink = c.args.sink.now })
    (record { outside = c.run_point.new.outside; sink = c.run_point.new.sink }) (c.args.after.left * 2 ^ 65 + 5) 5 c.run_point.ensures.passes c.requires.ready
    (omega (arith, c.run_point.ensures.drawn (2 ^ 65) many))

pub returns-in-None-clause-executes : goal.returns-in-None-clause-executes
returns-in-None-clause-executes g c source at request before x from taken user w p text_of sent asked does_so asked_so its amid tells behind number =
    let rules = rules_of c.args.rules.now in
    let env = env_of c.args.after.env in
    let place = place_by c.args.store.now.cat c.args.command in
    let said : Said = record { words = c.args.words; rows = c.args.rows; sent = sent } in
    let runs = c.in-Ok.ensures.runs source at request before x text_of from taken (is_setting at request before x asked text_of) amid
    (post_waits_with at request rules env p its.rules_are its.env_is c.args.after.frames place taken its.unstopped c.args.after.post its.name_is said behind)
    asked in
    c.conclude-in-None.ensures.executes source at request before x from (taken ++ runs.more) user w text_of sent asked does_so asked_so runs.amid
    (tells_more (IsKnown (world g.D.Disk.disk g.A.Ambient.ambient g.P.Plugin.plugin g.K.Sink.sink source from) before) x.number text_of sent taken runs.more
    tells)
    (post_ended_well at request rules env p its.rules_are its.env_is c.args.after.frames place taken its.unstopped c.args.after.post its.name_is said behind
    c.names_halt.ensures c.names_are_stopped.ensures runs.more c.in-Ok.outcome c.run_point.new.frames
    (place_by c.run_point.new.store.cat c.run_point.new.command) runs.gives_so (sym c.failure_of.ensures ∙ c.in-None.is))
    (λ calls. absurd (its.calls calls)) (λ was. number)

pub returns-in-None-clause-passes : goal.returns-in-None-clause-passes
returns-in-None-clause-passes g c =
    passes_then g.D.Disk.disk g.P.Plugin.plugin g.K.Sink.sink _ _ (record { outside = c.args.outside.now; sink = c.args.sink.now })
    (record { outside = c.run_point.new.outside; sink = c.run_point.new.sink })
    (record { outside = c.conclude-in-None.new.outside; sink = c.conclude-in-None.new.sink })
    (passes_well g.D.Disk.disk g.P.Plugin.plugin g.K.Sink.sink _ _ ⊥ ⊥ (record { outside = c.args.outside.now; sink = c.args.sink.now })
    (record { outside = c.run_point.new.outside; sink = c.run_point.new.sink }) (λ f. cc f) (λ e. e) (λ e. e) c.in-Ok.ensures.passes)
    c.conclude-in-None.ensures.passes

pub returns-in-None-clause-drawn : goal.returns-in-None-clause-drawn
returns-in-None-clause-drawn g c each most = omega (arith, c.run_point.ensures.drawn each most, c.conclude-in-None.ensures.drawn)
