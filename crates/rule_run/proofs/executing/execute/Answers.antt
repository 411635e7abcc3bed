use Rattle.std.proofs.Common.{◌+◌, ◌^◌, List, [], ◌++◌, refl, ap, subst, arith}
use Rattle.std.specs.List.{list_all}
use Rattle.grid_model.specs.Names.{Text}
use Rattle.grid_model.specs.Rows.{Cat}
use Rattle.grid_model.specs.Writable.{is_word}
use Rattle.grid_deed.specs.Held.{IsHeld}
use Rattle.service_run.specs.Steps.{lines_of}
use Rattle.call_laws.proofs.Joined.{passes_then, passes_well}
use Rattle.rule_run.specs.Finishing.{Finishes, rest_text}
use Rattle.rule_run.proofs.Ended.{amid_first, ended_so, keepable_first, passes_err, ready_after, ready_less}
use Rattle.rule_run.proofs.Executed.{cut_so, its_end, its_reply}
use Rattle.rule_run.proofs.Outcomes.{waits_with}
use Rattle.rule_run.proofs.Settings.{is_setting}
use Rattle.chain_core.specs.Seen.{rules_of}
use Rattle.rule_cond.specs.Scopes.{env_of}
use Rattle.rule_run.proofs.executing.execute.Goals as goal
use Rattle.size_laws.specs.Within.{few, many}

-- ---- the call

pub run_alone-requires-clause-held : goal.run_alone-requires-clause-held
run_alone-requires-clause-held g c = (c.args.store.now.cat, c.requires.held)

pub run_alone-requires-clause-user : goal.run_alone-requires-clause-user
run_alone-requires-clause-user g c = c.requires.user

pub run_alone-requires-clause-name : goal.run_alone-requires-clause-name
run_alone-requires-clause-name g c = c.requires.name

pub run_alone-requires-clause-slots : goal.run_alone-requires-clause-slots
run_alone-requires-clause-slots g c = c.requires.slots

pub run_alone-requires-clause-values : goal.run_alone-requires-clause-values
run_alone-requires-clause-values g c = c.requires.values

pub run_alone-requires-clause-checked : goal.run_alone-requires-clause-checked
run_alone-requires-clause-checked g c = c.requires.checked

pub run_alone-requires-clause-words : goal.run_alone-requires-clause-words
run_alone-requires-clause-words g c =
    record { run = c.are_kept.ensures.0; number = c.are_kept.ensures.1; user = c.are_kept.ensures.2; line = c.requires.line }

pub run_alone-requires-clause-kept : goal.run_alone-requires-clause-kept
run_alone-requires-clause-kept g c = keepable_first c.args.command c.requires.begun.0 c.requires.begun.1

pub run_alone-requires-clause-ready : goal.run_alone-requires-clause-ready
run_alone-requires-clause-ready g c =
    ready_less g.D.Disk.disk g.P.Plugin.plugin g.K.Sink.sink (record { outside = c.args.outside.now; sink = c.args.sink.now }) (2 ^ 78 + 2 ^ 10) (2 ^ 78)
    (omega arith) c.requires.ready

-- ---- it was cut short

pub returns-in-Err-clause-executes : goal.returns-in-Err-clause-executes
returns-in-Err-clause-executes g c source at request vs asked values calls makes does =
    let disk = g.D.Disk.disk in
    let ambient = g.A.Ambient.ambient in
    let plugin = g.P.Plugin.plugin in
    let sink = g.K.Sink.sink in
    let rows = c.args.store.now in
    let x = c.args.command in
    let rules = rules_of c.args.rules.now in
    let env = env_of c.args.env.now in
    let ran = c.in-Err.ensures.runs source at request rows.cat x (lines_of x.number) (record { outside = c.args.outside.now; sink = c.args.sink.now }) [] vs
    (is_setting at request rows.cat x asked (lines_of x.number))
    (amid_first disk ambient plugin sink source at request rows.cat x asked (record { outside = c.args.outside.now; sink = c.args.sink.now }) rows
    c.requires.held refl (2 ^ 78 + 2 ^ 10) c.requires.ready)
    values (waits_with at request rows.cat x asked rules env c.args.call vs does) asked in
    cut_so disk ambient plugin sink source at request rows.cat x asked (record { outside = c.args.outside.now; sink = c.args.sink.now }) rules env
    c.args.call vs does c.stops_halt.ensures c.takes_in_order.ensures c.calls_end_by_rows.ensures
    (record { outside = c.run_alone.new.outside; sink = c.run_alone.new.sink }) c.in-Err.ending ran.0 c.run_alone.new.command c.run_alone.new.store ran.1
    c.run_alone.ensures.passes.frame.stores.count

pub returns-in-Err-clause-passes : goal.returns-in-Err-clause-passes
returns-in-Err-clause-passes g c =
    passes_err g.D.Disk.disk g.P.Plugin.plugin g.K.Sink.sink c.in-Err.ending (record { outside = c.args.outside.now; sink = c.args.sink.now })
    (record { outside = c.run_alone.new.outside; sink = c.run_alone.new.sink }) c.in-Err.ensures.passes

pub returns-in-Err-clause-drawn : goal.returns-in-Err-clause-drawn
returns-in-Err-clause-drawn g c = omega (arith, c.run_alone.ensures.drawn (2 ^ 65) many)

pub returns-in-Err-clause-few : goal.returns-in-Err-clause-few
returns-in-Err-clause-few g c within = omega (arith, c.run_alone.ensures.drawn (2 ^ 20) (few within))

-- ---- it was run to its end

pub finish-requires-clause-held : goal.finish-requires-clause-held
finish-requires-clause-held g c = c.in-Ok.ensures.held

pub finish-requires-clause-rows : goal.finish-requires-clause-rows
finish-requires-clause-rows g c = ap (λ (rs : List (List Text)). list_all (list_all is_word) rs) c.no_rows.ensures

pub finish-requires-clause-writable : goal.finish-requires-clause-writable
finish-requires-clause-writable g c = c.end_of.ensures.writable

pub finish-requires-clause-ready : goal.finish-requires-clause-ready
finish-requires-clause-ready g c =
    ready_after g.D.Disk.disk g.P.Plugin.plugin g.K.Sink.sink _ _ (record { outside = c.args.outside.now; sink = c.args.sink.now })
    (record { outside = c.run_alone.new.outside; sink = c.run_alone.new.sink }) (2 ^ 78 + 2 ^ 10) 5 c.run_alone.ensures.passes c.requires.ready
    (omega (arith, c.run_alone.ensures.drawn (2 ^ 65) many))

pub returns-clause-executes : goal.returns-clause-executes
returns-clause-executes g c source at request vs asked values calls makes does =
    let disk = g.D.Disk.disk in
    let ambient = g.A.Ambient.ambient in
    let plugin = g.P.Plugin.plugin in
    let sink = g.K.Sink.sink in
    let rows = c.args.store.now in
    let x = c.args.command in
    let y = c.run_alone.new.command in
    let left = c.run_alone.new.store in
    let rules = rules_of c.args.rules.now in
    let env = env_of c.args.env.now in
    let ran = c.in-Ok.ensures.runs source at request rows.cat x (lines_of x.number) (record { outside = c.args.outside.now; sink = c.args.sink.now }) [] vs
    (is_setting at request rows.cat x asked (lines_of x.number))
    (amid_first disk ambient plugin sink source at request rows.cat x asked (record { outside = c.args.outside.now; sink = c.args.sink.now }) rows
    c.requires.held refl (2 ^ 78 + 2 ^ 10) c.requires.ready)
    values (waits_with at request rows.cat x asked rules env c.args.call vs does) asked in
    let F : List (List Text) → Type 0 = λ shown_rows. (kept : Cat) → IsHeld kept (disk c.run_alone.new.outside.main) left
    → Finishes (disk c.run_alone.new.outside.main) (disk c.finish.new.outside.main) (sink c.run_alone.new.sink) (sink c.finish.new.sink) kept
    c.run_alone.new.outside.moments y.number left y (y.untold ++ rest_text y.number y.passed shown_rows c.end_of.result) c.finish.result c.finish.new.store in
    ended_so disk ambient plugin sink source at request rows.cat x asked (lines_of x.number) (record { outside = c.args.outside.now; sink = c.args.sink.now })
    (record { outside = c.run_alone.new.outside; sink = c.run_alone.new.sink }) y left ran.1.more ran.1.amid
    (c.run_alone.ensures.passes.frame.main_last c.requires.ready.outside.main_last) [] c.end_of.result
    (record { outside = c.finish.new.outside; sink = c.finish.new.sink }) c.finish.result c.finish.new.store _ _ c.finish.ensures.passes
    c.finish.ensures.ambient (subst F c.no_rows.ensures c.finish.ensures.finishes) c.finish.ensures.whole
    (its_end disk ambient plugin sink source at request rows.cat x asked (record { outside = c.args.outside.now; sink = c.args.sink.now }) rules env
    c.args.call vs does c.stops_halt.ensures c.takes_in_order.ensures c.calls_end_by_rows.ensures
    (record { outside = c.run_alone.new.outside; sink = c.run_alone.new.sink }) ran.0 c.in-Ok.outcome y left ran.1)
    (its_reply disk ambient plugin sink source at request rows.cat x asked (record { outside = c.args.outside.now; sink = c.args.sink.now }) rules env
    c.args.call vs does c.stops_halt.ensures c.takes_in_order.ensures c.calls_end_by_rows.ensures
    (record { outside = c.run_alone.new.outside; sink = c.run_alone.new.sink }) ran.0 c.in-Ok.outcome y left ran.1 c.end_of.result c.end_of.ensures.is)
    refl (λ session order is files some was. absurd (makes session order is files)) (λ none. absurd (calls none))

pub returns-clause-passes : goal.returns-clause-passes
returns-clause-passes g c =
    passes_then g.D.Disk.disk g.P.Plugin.plugin g.K.Sink.sink _ _ (record { outside = c.args.outside.now; sink = c.args.sink.now })
    (record { outside = c.run_alone.new.outside; sink = c.run_alone.new.sink }) (record { outside = c.finish.new.outside; sink = c.finish.new.sink })
    (passes_well g.D.Disk.disk g.P.Plugin.plugin g.K.Sink.sink _ _ ⊥ ⊥ (record { outside = c.args.outside.now; sink = c.args.sink.now })
    (record { outside = c.run_alone.new.outside; sink = c.run_alone.new.sink }) (λ f. cc f) (λ e. e) (λ e. e) c.in-Ok.ensures.passes)
    c.finish.ensures.passes

pub returns-clause-drawn : goal.returns-clause-drawn
returns-clause-drawn g c = omega (arith, c.run_alone.ensures.drawn (2 ^ 65) many, c.finish.ensures.drawn)

pub returns-clause-few : goal.returns-clause-few
returns-clause-few g c within = omega (arith, c.run_alone.ensures.drawn (2 ^ 20) (few within), c.finish.ensures.drawn)
