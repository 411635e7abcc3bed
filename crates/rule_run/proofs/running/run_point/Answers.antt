use Rattle.std.proofs.Common.{◌≡◌, ◌∙◌, refl, sym, ap, subst, arith, []}
use Rattle.grid_model.specs.RowGrids.{user_name}
use Rattle.chain_core.specs.Seen.{rules_of}
use Rattle.rule_cond.specs.Scopes.{env_of}
use Rattle.rule_run.specs.Calls.{MayGoOn, Spot}
use Rattle.rule_run.specs.Running.{point_from}
use Rattle.rule_run.proofs.RunMade.{stays, Ran, draws, holds, keeps, may_begin, passes, ran_to, shows}
use Rattle.rule_run.proofs.Spots.{begins_at, ends_at, place_at, spot, spot_of}
use Rattle.rule_run.proofs.running.run_point.Goals as goal
use Rattle.rule_run.proofs.running.run_point.Goals.{After-ended_by}

-- where the calls begin
abbrev entry : (g : _) → goal.After-ended_by g → Spot g.row.D.Denot g.row.A.Denot g.row.P.Denot g.row.K.Denot
entry g c = spot c.args.outside.now c.args.sink.now c.args.store.now c.args.command.now c.args.left.now

-- where they came
abbrev last : (g : _) → goal.After-ended_by g → Spot g.row.D.Denot g.row.A.Denot g.row.P.Denot g.row.K.Denot
last g c = spot c.outside-1.given.0 c.sink-1.given.0 c.store-1.given.0 c.command-1.given.0 c.run_point-ran.new.doer.left

begins : (g : _) (c : goal.After-ended_by g) → spot_of c.begin_calls-calling.result ≡ entry g c
begins g c =
    begins_at c.begin_calls-calling.result (entry g c) _ _ _ _ c.begin_calls-calling.ensures.store c.begin_calls-calling.ensures.outside
    c.begin_calls-calling.ensures.sink c.begin_calls-calling.ensures.command c.begin_calls-calling.ensures.left

-- what was run, from the one to the other
ran : (g : _) (c : goal.After-ended_by g) → Ran g.D.Disk.disk g.A.Ambient.ambient g.P.Plugin.plugin g.K.Sink.sink (rules_of c.args.rules.now) (env_of
    c.args.env.now)
    (point_from (rules_of c.args.rules.now) (env_of c.args.env.now) c.args.name c.args.frames.now) c.ended_by.result c.run_point-ran.new.frames (entry g c)
    (last g c)
ran g c =
    let R : _ → Type 0 = λ r. Ran g.D.Disk.disk g.A.Ambient.ambient g.P.Plugin.plugin g.K.Sink.sink (rules_of c.args.rules.now) (env_of c.args.env.now)
    (point_from (rules_of c.args.rules.now) (env_of c.args.env.now) c.args.name c.args.frames.now) r c.run_point-ran.new.frames (entry g c) (last g c) in
    subst R (sym c.ended_by.ensures) (ran_to g.D.Disk.disk g.A.Ambient.ambient g.P.Plugin.plugin g.K.Sink.sink (rules_of c.args.rules.now) (env_of
    c.args.env.now)
    (point_from (rules_of c.args.rules.now) (env_of c.args.env.now) c.args.name c.args.frames.now)
    c.begin_calls-calling.result c.run_point-ran.new.doer (entry g c) (last g c) (begins g c)
    (ends_at c.begin_calls-calling.result c.run_point-ran.new.doer (last g c) _ _ _ _ c.begin_calls-calling.ensures.store.0
    c.begin_calls-calling.ensures.outside.0
    c.begin_calls-calling.ensures.sink.0 c.begin_calls-calling.ensures.command.0 c.store-1.given.1 c.outside-1.given.1 c.sink-1.given.1
    c.command-1.given.1 refl)
    c.run_point-ran.result c.run_point-ran.new.frames c.run_point-ran.ensures.makes c.run_point-ran.ensures.ends c.run_point-ran.ensures.ready)

pub run_point-ran-requires-clause-user : goal.run_point-ran-requires-clause-user
run_point-ran-requires-clause-user g c =
    ap (λ (s : Spot g.row.D.Denot g.row.A.Denot g.row.P.Denot g.row.K.Denot). user_name s.rows.cat s.command.user)
    (begins_at c.begin_calls-calling.result (spot c.args.outside.now c.args.sink.now c.args.store.now c.args.command.now c.args.left.now) _ _ _ _
    c.begin_calls-calling.ensures.store c.begin_calls-calling.ensures.outside c.begin_calls-calling.ensures.sink c.begin_calls-calling.ensures.command
    c.begin_calls-calling.ensures.left)
    ∙ c.requires.name

pub run_point-ran-requires-clause-ready : goal.run_point-ran-requires-clause-ready
run_point-ran-requires-clause-ready g c =
    subst (MayGoOn g.D.Disk.disk g.A.Ambient.ambient g.P.Plugin.plugin g.K.Sink.sink)
    (sym (begins_at c.begin_calls-calling.result (spot c.args.outside.now c.args.sink.now c.args.store.now c.args.command.now c.args.left.now) _ _ _ _
    c.begin_calls-calling.ensures.store c.begin_calls-calling.ensures.outside c.begin_calls-calling.ensures.sink c.begin_calls-calling.ensures.command
    c.begin_calls-calling.ensures.left))
    (may_begin g.D.Disk.disk g.A.Ambient.ambient g.P.Plugin.plugin g.K.Sink.sink _ c.requires.held c.requires.user
    (omega (arith, c.requires.slots, c.args.outside.now.stores.ok.0)) c.requires.words c.requires.kept c.requires.ready)

pub returns-clause-runs : goal.returns-clause-runs
returns-clause-runs g c =
    shows g.D.Disk.disk g.A.Ambient.ambient g.P.Plugin.plugin g.K.Sink.sink (rules_of c.args.rules.now) (env_of c.args.env.now)
    (point_from (rules_of c.args.rules.now) (env_of c.args.env.now) c.args.name c.args.frames.now) (entry g c) (last g c) c.machines_complete.ensures
    (c.names_complete.ensures (rules_of c.args.rules.now) (env_of c.args.env.now) c.args.name [] c.args.frames.now
    (place_at (entry g c))) c.ended_by.result c.run_point-ran.new.frames
    (ran g c) c.requires.name c.requires.ready.outside.main_last

pub returns-clause-held : goal.returns-clause-held
returns-clause-held g c =
    holds g.D.Disk.disk g.A.Ambient.ambient g.P.Plugin.plugin g.K.Sink.sink (rules_of c.args.rules.now) (env_of c.args.env.now)
    (point_from (rules_of c.args.rules.now) (env_of c.args.env.now) c.args.name c.args.frames.now) (entry g c) (last g c) c.ended_by.result
    c.run_point-ran.new.frames (ran g c)

pub returns-clause-kept : goal.returns-clause-kept
returns-clause-kept g c =
    keeps g.D.Disk.disk g.A.Ambient.ambient g.P.Plugin.plugin g.K.Sink.sink (rules_of c.args.rules.now) (env_of c.args.env.now)
    (point_from (rules_of c.args.rules.now) (env_of c.args.env.now) c.args.name c.args.frames.now) (entry g c) (last g c) c.ended_by.result
    c.run_point-ran.new.frames (ran g c) c.requires.name (omega (arith, c.requires.slots, c.args.outside.now.stores.ok.0))

pub returns-clause-passes : goal.returns-clause-passes
returns-clause-passes g c =
    passes g.D.Disk.disk g.A.Ambient.ambient g.P.Plugin.plugin g.K.Sink.sink (rules_of c.args.rules.now) (env_of c.args.env.now)
    (point_from (rules_of c.args.rules.now) (env_of c.args.env.now) c.args.name c.args.frames.now) (entry g c) (last g c) c.ended_by.result
    c.run_point-ran.new.frames (ran g c)

pub returns-clause-drawn : goal.returns-clause-drawn
returns-clause-drawn g c =
    draws g.D.Disk.disk g.A.Ambient.ambient g.P.Plugin.plugin g.K.Sink.sink (rules_of c.args.rules.now) (env_of c.args.env.now)
    (point_from (rules_of c.args.rules.now) (env_of c.args.env.now) c.args.name c.args.frames.now) (entry g c) (last g c) c.ended_by.result
    c.run_point-ran.new.frames (ran g c)

pub returns-clause-within : goal.returns-clause-within
returns-clause-within g c =
    stays g.D.Disk.disk g.A.Ambient.ambient g.P.Plugin.plugin g.K.Sink.sink (rules_of c.args.rules.now) (env_of c.args.env.now)
    (point_from (rules_of c.args.rules.now) (env_of c.args.env.now) c.args.name c.args.frames.now) (entry g c) (last g c) c.ended_by.result
    c.run_point-ran.new.frames (ran g c)
