use Rattle.std.proofs.Common.{◌≡◌, ap, inl, refl, sym, subst, ◌∙◌, Ok, IsTrue, arith}
use Rattle.std.specs.Prelude.{IsErrOf}
use Rattle.grid_outside.specs.Source.{SourceState}
use Rattle.grid_model.specs.Applying.{is_user}
use Rattle.grid_model.specs.Runs.{Request}
use Rattle.run_laws.specs.Around.{around}
use Rattle.run_laws.specs.Passes.{CallsPass}
use Rattle.service_run.specs.declared.command.Command.{Command}
use Rattle.rule_run.specs.Executing.{Executes}
use Rattle.cmd_run.specs.Fits.{state_of}
use Rattle.cmd_run.specs.Obeys.{IsWorn, MayMakeFile, Obeys}
use Rattle.cmd_run.specs.declared.server.Ending.TheVariants as ending
use Rattle.grid_model.specs.Orders.{executes}
use Rattle.grid_model.specs.RowGrids.{user_name}
use Rattle.grid_model.specs.RuleText.{CallText}
use Rattle.grid_model.specs.Values.{Env}
use Rattle.rule_cond.specs.Scopes.{env_of}
use Rattle.cmd_run.specs.Calls.{IsCalled}
use Rattle.cmd_run.proofs.Executed.{executed_call, passes_ended, request_begun, request_obeys, request_remembers, request_whole, request_worn}
use Rattle.cmd_run.proofs.server.Server.exec_computed.Goals as goal
use Rattle.cmd_run.proofs.server.Server.exec_computed.Goals.{After-ended_by}

pub execute-ran-requires-clause-user : goal.execute-ran-requires-clause-user
execute-ran-requires-clause-user g c =
    subst (λ (x : Command). IsTrue (is_user c.args.self.now.store.cat x.user)) (sym c.begin-command.ensures.is)
    (c.requires.fits.users c.args.session c.args.user c.requires.called.1.logged_in)

pub execute-ran-requires-clause-begun : goal.execute-ran-requires-clause-begun
execute-ran-requires-clause-begun g c = (ap (λ (x : Command). x.marks) c.begin-command.ensures.is, ap (λ (x : Command). x.passed) c.begin-command.ensures.is)

pub execute-ran-requires-clause-name : goal.execute-ran-requires-clause-name
execute-ran-requires-clause-name g c =
    ap (λ (x : Command). user_name c.args.self.now.store.cat x.user) c.begin-command.ensures.is ∙ sym (ap (λ (e : Env). e.user) c.requires.env)

-- what was done
executed : (g : _) (c : After-ended_by g) (request : Request) (read : CallText) → IsCalled c.args.self.now c.args.session c.args.user read c.args.call
    → request ≡ Ok (c.args.session, executes (Ok read)) → (source : SourceState)
    → Executes g.D.Disk.disk g.A.Ambient.ambient g.P.Plugin.plugin g.K.Sink.sink source (state_of c.args.self.now) request c.args.self.now.store.cat
    c.begin-command.result (record { outside = c.args.outside.now; sink = c.args.sink.now })
    (record { outside = c.execute-ran.new.outside; sink = c.execute-ran.new.sink }) c.execute-ran.result c.execute-ran.new.store
executed g c =
    executed_call g.D.Disk.disk g.A.Ambient.ambient g.P.Plugin.plugin g.K.Sink.sink c.args.self.now c.args.session c.args.user c.args.call
    (env_of c.args.env.now) c.begin-command.result c.args.number c.args.line
    (record { outside = c.args.outside.now; sink = c.args.sink.now }) (record { outside = c.execute-ran.new.outside; sink = c.execute-ran.new.sink })
    c.execute-ran.result c.execute-ran.new.store c.requires.fits
    c.begin-command.ensures.is c.requires.env c.execute-ran.ensures.executes

pub returns-clause-obeys : goal.returns-clause-obeys
returns-clause-obeys g c = λ source request read called asks.
    subst (λ r. Obeys (around g.D.Disk.disk g.A.Ambient.ambient g.P.Plugin.plugin c.args.outside.now (g.K.Sink.sink c.args.sink.now) source)
    (around g.D.Disk.disk g.A.Ambient.ambient g.P.Plugin.plugin c.execute-ran.new.outside (g.K.Sink.sink c.execute-ran.new.sink) source)
    c.args.self.now c.args.number request r (record c.args.self.now { store = c.execute-ran.new.store })) (sym c.ended_by.ensures)
    (request_obeys g.D.Disk.disk g.A.Ambient.ambient g.P.Plugin.plugin g.K.Sink.sink c.args.self.now request c.begin-command.result c.args.number c.args.user
    c.args.line
    (record { outside = c.args.outside.now; sink = c.args.sink.now }) (record { outside = c.execute-ran.new.outside; sink = c.execute-ran.new.sink })
    c.execute-ran.result c.execute-ran.new.store c.begin-command.ensures.is
    (executed g c request read called asks) source (record c.args.self.now { store = c.execute-ran.new.store }) refl c.requires.fits refl refl)

pub returns-clause-worn : goal.returns-clause-worn
returns-clause-worn g c = λ source request read called asks.
    subst (λ r. IsWorn (around g.D.Disk.disk g.A.Ambient.ambient g.P.Plugin.plugin c.execute-ran.new.outside (g.K.Sink.sink c.execute-ran.new.sink) source)
    c.args.self.now request r) (sym c.ended_by.ensures)
    (request_worn g.D.Disk.disk g.A.Ambient.ambient g.P.Plugin.plugin g.K.Sink.sink c.args.self.now request c.begin-command.result c.args.number c.args.user
    c.args.line
    (record { outside = c.args.outside.now; sink = c.args.sink.now }) (record { outside = c.execute-ran.new.outside; sink = c.execute-ran.new.sink })
    c.execute-ran.result c.execute-ran.new.store c.begin-command.ensures.is
    (executed g c request read called asks) source (record c.args.self.now { store = c.execute-ran.new.store }) refl
    c.execute-ran.ensures.passes.frame.main.tells
    (λ place dry. subst (MayMakeFile (state_of c.args.self.now)) (sym asks) (inl tt)))

pub returns-clause-dry : goal.returns-clause-dry
returns-clause-dry g c = λ place is source request read called asks.
    request_begun g.D.Disk.disk g.A.Ambient.ambient g.P.Plugin.plugin g.K.Sink.sink c.args.self.now request c.begin-command.result c.args.number c.args.user
    c.args.line
    (record { outside = c.args.outside.now; sink = c.args.sink.now }) (record { outside = c.execute-ran.new.outside; sink = c.execute-ran.new.sink })
    c.execute-ran.result c.execute-ran.new.store c.begin-command.ensures.is
    (executed g c request read called asks) source (record c.args.self.now { store = c.execute-ran.new.store }) refl

pub returns-clause-remembers : goal.returns-clause-remembers
returns-clause-remembers g c =
    request_remembers g.D.Disk.disk g.A.Ambient.ambient g.P.Plugin.plugin g.K.Sink.sink c.args.self.now
    (Ok (c.args.session, executes (Ok c.requires.called.0))) c.begin-command.result c.args.number c.args.user c.args.line
    (record { outside = c.args.outside.now; sink = c.args.sink.now }) (record { outside = c.execute-ran.new.outside; sink = c.execute-ran.new.sink })
    c.execute-ran.result c.execute-ran.new.store c.begin-command.ensures.is
    (executed g c (Ok (c.args.session, executes (Ok c.requires.called.0))) c.requires.called.0 c.requires.called.1 refl)

pub returns-clause-whole : goal.returns-clause-whole
returns-clause-whole g c =
    request_whole g.D.Disk.disk g.A.Ambient.ambient g.P.Plugin.plugin g.K.Sink.sink c.args.self.now (Ok (c.args.session, executes (Ok c.requires.called.0)))
    c.begin-command.result c.args.number c.args.user c.args.line
    (record { outside = c.args.outside.now; sink = c.args.sink.now }) (record { outside = c.execute-ran.new.outside; sink = c.execute-ran.new.sink })
    c.execute-ran.result c.execute-ran.new.store c.begin-command.ensures.is
    (executed g c (Ok (c.args.session, executes (Ok c.requires.called.0))) c.requires.called.0 c.requires.called.1 refl)

pub returns-clause-passes : goal.returns-clause-passes
returns-clause-passes g c =
    subst (λ r. CallsPass g.D.Disk.disk g.P.Plugin.plugin g.K.Sink.sink (IsErrOf r ending.Disk) (IsErrOf r ending.Sink)
    (record { outside = c.args.outside.now; sink = c.args.sink.now }) (record { outside = c.execute-ran.new.outside; sink = c.execute-ran.new.sink }))
    (sym c.ended_by.ensures)
    (passes_ended g.D.Disk.disk g.P.Plugin.plugin g.K.Sink.sink (record { outside = c.args.outside.now; sink = c.args.sink.now })
    (record { outside = c.execute-ran.new.outside; sink = c.execute-ran.new.sink })
    c.execute-ran.result c.execute-ran.ensures.passes)

pub returns-clause-in_few : goal.returns-clause-in_few
returns-clause-in_few g c within = omega (arith, c.execute-ran.ensures.few within)
