use Rattle.std.proofs.Common.{◌≡◌, ◌∙◌, refl, sym, ap, subst, arith, List}
use Rattle.grid_model.specs.RowGrids.{user_name}
use Rattle.grid_model.specs.Values.{Value}
use Rattle.chain_core.specs.Running.{HasValues}
use Rattle.chain_core.specs.Seen.{rules_of}
use Rattle.chain_run.specs.Runs.{by_itself, whole_from}
use Rattle.rule_cond.specs.Scopes.{env_of}
use Rattle.rule_run.specs.Calls.{MayGoOn, Spot}
use Rattle.rule_run.specs.Running.{alone_from}
use Rattle.rule_run.proofs.RunMade.{Ran, alone_same, completes_as, draws, holds, may_begin, passes, ran_as, ran_to, reaches_with, shows}
use Rattle.rule_run.proofs.Spots.{begins_at, ends_at, place_at, spot, spot_of}
use Rattle.rule_run.proofs.running.run_alone.Goals as goal
use Rattle.rule_run.proofs.running.run_alone.Goals.{After-drop-frames-5}

-- where the calls begin
abbrev entry : (g : _) → goal.After-drop-frames-5 g → Spot g.row.D.Denot g.row.A.Denot g.row.P.Denot g.row.K.Denot
entry g c = spot c.args.outside.now c.args.sink.now c.args.store.now c.args.command.now 8192

-- where they came
abbrev last : (g : _) → goal.After-drop-frames-5 g → Spot g.row.D.Denot g.row.A.Denot g.row.P.Denot g.row.K.Denot
last g c = spot c.outside-1.given.0 c.sink-1.given.0 c.store-1.given.0 c.command-1.given.0 c.run_rule-ran.new.doer.left

begins : (g : _) (c : goal.After-drop-frames-5 g) → spot_of c.begin_calls-calling.result ≡ entry g c
begins g c =
    begins_at c.begin_calls-calling.result (entry g c) _ _ _ _ c.begin_calls-calling.ensures.store c.begin_calls-calling.ensures.outside
    c.begin_calls-calling.ensures.sink c.begin_calls-calling.ensures.command c.begin_calls-calling.ensures.left

-- what was run, from the one to the other
ran : (g : _) (c : goal.After-drop-frames-5 g) → (vs : List Value) → HasValues c.args.call vs → Ran g.D.Disk.disk g.A.Ambient.ambient g.P.Plugin.plugin
    g.K.Sink.sink (rules_of c.args.rules.now) (env_of c.args.env.now)
    (alone_from (rules_of c.args.rules.now) (env_of c.args.env.now) c.args.call vs) c.ended_by.result c.run_rule-ran.new.frames (entry g c) (last g c)
ran g c vs has =
    let R : _ → Type 0 = λ r. Ran g.D.Disk.disk g.A.Ambient.ambient g.P.Plugin.plugin g.K.Sink.sink (rules_of c.args.rules.now) (env_of c.args.env.now)
    (alone_from (rules_of c.args.rules.now) (env_of c.args.env.now) c.args.call vs) r c.run_rule-ran.new.frames (entry g c) (last g c) in
    subst R (sym c.ended_by.ensures) (ran_as g.D.Disk.disk g.A.Ambient.ambient g.P.Plugin.plugin g.K.Sink.sink (rules_of c.args.rules.now) (env_of
    c.args.env.now)
    (whole_from (by_itself (rules_of c.args.rules.now) (env_of c.args.env.now) c.args.call vs) c.new-frames.result)
    (alone_from (rules_of c.args.rules.now) (env_of c.args.env.now) c.args.call vs)
    (alone_same (rules_of c.args.rules.now) (env_of c.args.env.now) c.args.call vs c.new-frames.result c.new-frames.ensures.begun
    c.new-frames.ensures.stopped) (entry g c) (last g c) _ c.run_rule-ran.new.frames
    (ran_to g.D.Disk.disk g.A.Ambient.ambient g.P.Plugin.plugin g.K.Sink.sink (rules_of c.args.rules.now) (env_of c.args.env.now)
    (whole_from (by_itself (rules_of c.args.rules.now) (env_of c.args.env.now) c.args.call vs) c.new-frames.result)
    c.begin_calls-calling.result c.run_rule-ran.new.doer (entry g c) (last g c) (begins g c)
    (ends_at c.begin_calls-calling.result c.run_rule-ran.new.doer (last g c) _ _ _ _ c.begin_calls-calling.ensures.store.0
    c.begin_calls-calling.ensures.outside.0
    c.begin_calls-calling.ensures.sink.0 c.begin_calls-calling.ensures.command.0 c.store-1.given.1 c.outside-1.given.1 c.sink-1.given.1
    c.command-1.given.1 refl)
    c.run_rule-ran.result c.run_rule-ran.new.frames (c.run_rule-ran.ensures.makes vs has)
    (reaches_with _ _ _ _ _ c.run_rule-ran.result c.run_rule-ran.ensures.ends vs has) c.run_rule-ran.ensures.ready))

pub run_rule-ran-requires-clause-user : goal.run_rule-ran-requires-clause-user
run_rule-ran-requires-clause-user g c =
    ap (λ (s : Spot g.row.D.Denot g.row.A.Denot g.row.P.Denot g.row.K.Denot). user_name s.rows.cat s.command.user)
    (begins_at c.begin_calls-calling.result (spot c.args.outside.now c.args.sink.now c.args.store.now c.args.command.now 8192) _ _ _ _
    c.begin_calls-calling.ensures.store c.begin_calls-calling.ensures.outside c.begin_calls-calling.ensures.sink c.begin_calls-calling.ensures.command
    c.begin_calls-calling.ensures.left)
    ∙ c.requires.name

pub run_rule-ran-requires-clause-ready : goal.run_rule-ran-requires-clause-ready
run_rule-ran-requires-clause-ready g c =
    subst (MayGoOn g.D.Disk.disk g.A.Ambient.ambient g.P.Plugin.plugin g.K.Sink.sink)
    (sym (begins_at c.begin_calls-calling.result (spot c.args.outside.now c.args.sink.now c.args.store.now c.args.command.now 8192) _ _ _ _
    c.begin_calls-calling.ensures.store c.begin_calls-calling.ensures.outside c.begin_calls-calling.ensures.sink c.begin_calls-calling.ensures.command
    c.begin_calls-calling.ensures.left))
    (may_begin g.D.Disk.disk g.A.Ambient.ambient g.P.Plugin.plugin g.K.Sink.sink _ c.requires.held c.requires.user
    (omega (arith, c.requires.slots, c.args.outside.now.stores.ok.0)) c.requires.words c.requires.kept c.requires.ready)

pub returns-clause-runs : goal.returns-clause-runs
returns-clause-runs g c source at request before x text_of from taken vs setting amid has waits asked = (
  c.run_rule-ran.new.frames,
  shows g.D.Disk.disk g.A.Ambient.ambient g.P.Plugin.plugin g.K.Sink.sink (rules_of c.args.rules.now) (env_of c.args.env.now)
      (alone_from (rules_of c.args.rules.now) (env_of c.args.env.now) c.args.call vs) (entry g c) (last g c) c.machines_complete.ensures
      (completes_as _ _ (alone_same (rules_of c.args.rules.now) (env_of c.args.env.now) c.args.call vs c.new-frames.result c.new-frames.ensures.begun
      c.new-frames.ensures.stopped (place_at (entry g c)))
      (c.calls_complete.ensures (rules_of c.args.rules.now) (env_of c.args.env.now) c.args.call vs c.new-frames.result (place_at (entry g c))))
      c.ended_by.result c.run_rule-ran.new.frames
      (ran g c vs has) c.requires.name c.requires.ready.outside.main_last source at request before x text_of from taken setting amid waits asked,
)

pub returns-clause-held : goal.returns-clause-held
returns-clause-held g c =
    holds g.D.Disk.disk g.A.Ambient.ambient g.P.Plugin.plugin g.K.Sink.sink (rules_of c.args.rules.now) (env_of c.args.env.now)
    (alone_from (rules_of c.args.rules.now) (env_of c.args.env.now) c.args.call c.requires.values.0) (entry g c) (last g c) c.ended_by.result
    c.run_rule-ran.new.frames (ran g c c.requires.values.0 c.requires.values.1)

pub returns-clause-passes : goal.returns-clause-passes
returns-clause-passes g c =
    passes g.D.Disk.disk g.A.Ambient.ambient g.P.Plugin.plugin g.K.Sink.sink (rules_of c.args.rules.now) (env_of c.args.env.now)
    (alone_from (rules_of c.args.rules.now) (env_of c.args.env.now) c.args.call c.requires.values.0) (entry g c) (last g c) c.ended_by.result
    c.run_rule-ran.new.frames (ran g c c.requires.values.0 c.requires.values.1)

pub returns-clause-drawn : goal.returns-clause-drawn
returns-clause-drawn g c each most =
    omega (
      arith,
      draws g.D.Disk.disk g.A.Ambient.ambient g.P.Plugin.plugin g.K.Sink.sink (rules_of c.args.rules.now) (env_of c.args.env.now)
          (alone_from (rules_of c.args.rules.now) (env_of c.args.env.now) c.args.call c.requires.values.0) (entry g c) (last g c) c.ended_by.result
          c.run_rule-ran.new.frames (ran g c c.requires.values.0 c.requires.values.1) each most,
    )
