use Rattle.std.proofs.Common.{ap, refl, sym, subst, IsTrue, arith}
use Rattle.std.specs.Prelude.{IsErrOf}
use Rattle.grid_outside.specs.Source.{SourceState}
use Rattle.grid_model.specs.Applying.{is_user}
use Rattle.grid_model.specs.Runs.{Request}
use Rattle.run_laws.specs.Around.{around}
use Rattle.run_laws.specs.Passes.{CallsPass}
use Rattle.service_run.specs.declared.command.Command.{Command}
use Rattle.rule_run.specs.Executing.{Executes}
use Rattle.cmd_run.specs.Fits.{state_of}
use Rattle.cmd_run.specs.Obeys.{IsWorn, MayMakeFile, Obeys}
use Rattle.cmd_run.specs.declared.server.Ending.TheVariants as ending
use Rattle.cmd_run.specs.Asking.{QueryOf}
use Rattle.cmd_run.proofs.Executed.{passes_ended, request_begun, request_obeys, request_remembers, request_whole, request_worn}
use Rattle.cmd_run.proofs.Queried.{executed_query, some_query}
use Rattle.cmd_run.proofs.Worked.{may_rule}
use Rattle.cmd_run.proofs.server.Server.query_as.Goals as goal
use Rattle.cmd_run.proofs.server.Server.query_as.Goals.{After-ended_by}

pub ask-ran-requires-clause-user : goal.ask-ran-requires-clause-user
ask-ran-requires-clause-user g c =
    subst (λ (x : Command). IsTrue (is_user c.args.self.now.store.cat x.user)) (sym c.begin-command.ensures.is)
    (c.requires.fits.users c.args.session c.args.user c.requires.logged_in)

pub ask-ran-requires-clause-begun : goal.ask-ran-requires-clause-begun
ask-ran-requires-clause-begun g c = (
  ap (λ (x : Command). x.marks) c.begin-command.ensures.is,
  ap (λ (x : Command). x.passed) c.begin-command.ensures.is,
  ap (λ (x : Command). x.untold) c.begin-command.ensures.is,
)

-- what was done
executed : (g : _) (c : After-ended_by g) (request : Request) → QueryOf c.args.session c.args.text.now request → (source : SourceState)
    → Executes g.D.Disk.disk g.A.Ambient.ambient g.P.Plugin.plugin g.K.Sink.sink source (state_of c.args.self.now) request c.args.self.now.store.cat
    c.begin-command.result (record { outside = c.args.outside.now; sink = c.args.sink.now })
    (record { outside = c.ask-ran.new.outside; sink = c.ask-ran.new.sink }) c.ask-ran.result c.ask-ran.new.store
executed g c =
    executed_query g.D.Disk.disk g.A.Ambient.ambient g.P.Plugin.plugin g.K.Sink.sink c.args.self.now c.args.session c.args.user c.args.text.now
    c.begin-command.result c.args.number c.args.line
    (record { outside = c.args.outside.now; sink = c.args.sink.now }) (record { outside = c.ask-ran.new.outside; sink = c.ask-ran.new.sink })
    c.ask-ran.result c.ask-ran.new.store c.requires.fits
    c.requires.logged_in c.begin-command.ensures.is c.ask-ran.ensures.executes

pub returns-clause-obeys : goal.returns-clause-obeys
returns-clause-obeys g c = λ source request asks.
    subst (λ r. Obeys (around g.D.Disk.disk g.A.Ambient.ambient g.P.Plugin.plugin c.args.outside.now (g.K.Sink.sink c.args.sink.now) source)
    (around g.D.Disk.disk g.A.Ambient.ambient g.P.Plugin.plugin c.ask-ran.new.outside (g.K.Sink.sink c.ask-ran.new.sink) source)
    c.args.self.now c.args.number request r (record c.args.self.now { store = c.ask-ran.new.store })) (sym c.ended_by.ensures)
    (request_obeys g.D.Disk.disk g.A.Ambient.ambient g.P.Plugin.plugin g.K.Sink.sink c.args.self.now request c.begin-command.result c.args.number c.args.user
    c.args.line
    (record { outside = c.args.outside.now; sink = c.args.sink.now }) (record { outside = c.ask-ran.new.outside; sink = c.ask-ran.new.sink })
    c.ask-ran.result c.ask-ran.new.store c.begin-command.ensures.is
    (executed g c request asks) source (record c.args.self.now { store = c.ask-ran.new.store }) refl c.requires.fits refl refl)

pub returns-clause-worn : goal.returns-clause-worn
returns-clause-worn g c = λ source request asks.
    subst (λ r. IsWorn (around g.D.Disk.disk g.A.Ambient.ambient g.P.Plugin.plugin c.ask-ran.new.outside (g.K.Sink.sink c.ask-ran.new.sink) source)
    c.args.self.now request r) (sym c.ended_by.ensures)
    (request_worn g.D.Disk.disk g.A.Ambient.ambient g.P.Plugin.plugin g.K.Sink.sink c.args.self.now request c.begin-command.result c.args.number c.args.user
    c.args.line
    (record { outside = c.args.outside.now; sink = c.args.sink.now }) (record { outside = c.ask-ran.new.outside; sink = c.ask-ran.new.sink })
    c.ask-ran.result c.ask-ran.new.store c.begin-command.ensures.is
    (executed g c request asks) source (record c.args.self.now { store = c.ask-ran.new.store }) refl c.ask-ran.ensures.passes.frame.main.tells
    (λ place dry. subst (MayMakeFile (state_of c.args.self.now)) (sym asks.2)
    (may_rule (state_of c.args.self.now).rules (λ none. absurd (c.ask-ran.ensures.files place none dry)))))

pub returns-clause-dry : goal.returns-clause-dry
returns-clause-dry g c = λ place is source request asks.
    request_begun g.D.Disk.disk g.A.Ambient.ambient g.P.Plugin.plugin g.K.Sink.sink c.args.self.now request c.begin-command.result c.args.number c.args.user
    c.args.line
    (record { outside = c.args.outside.now; sink = c.args.sink.now }) (record { outside = c.ask-ran.new.outside; sink = c.ask-ran.new.sink })
    c.ask-ran.result c.ask-ran.new.store c.begin-command.ensures.is
    (executed g c request asks) source (record c.args.self.now { store = c.ask-ran.new.store }) refl

pub returns-clause-remembers : goal.returns-clause-remembers
returns-clause-remembers g c =
    let some = some_query c.args.session c.args.text.now in
    request_remembers g.D.Disk.disk g.A.Ambient.ambient g.P.Plugin.plugin g.K.Sink.sink c.args.self.now some.0 c.begin-command.result c.args.number c.args.user
    c.args.line
    (record { outside = c.args.outside.now; sink = c.args.sink.now }) (record { outside = c.ask-ran.new.outside; sink = c.ask-ran.new.sink })
    c.ask-ran.result c.ask-ran.new.store c.begin-command.ensures.is
    (executed g c some.0 some.1)

pub returns-clause-whole : goal.returns-clause-whole
returns-clause-whole g c =
    let some = some_query c.args.session c.args.text.now in
    request_whole g.D.Disk.disk g.A.Ambient.ambient g.P.Plugin.plugin g.K.Sink.sink c.args.self.now some.0 c.begin-command.result c.args.number c.args.user
    c.args.line
    (record { outside = c.args.outside.now; sink = c.args.sink.now }) (record { outside = c.ask-ran.new.outside; sink = c.ask-ran.new.sink })
    c.ask-ran.result c.ask-ran.new.store c.begin-command.ensures.is
    (executed g c some.0 some.1)

pub returns-clause-passes : goal.returns-clause-passes
returns-clause-passes g c =
    subst (λ r. CallsPass g.D.Disk.disk g.P.Plugin.plugin g.K.Sink.sink (IsErrOf r ending.Disk) (IsErrOf r ending.Sink)
    (record { outside = c.args.outside.now; sink = c.args.sink.now }) (record { outside = c.ask-ran.new.outside; sink = c.ask-ran.new.sink }))
    (sym c.ended_by.ensures)
    (passes_ended g.D.Disk.disk g.P.Plugin.plugin g.K.Sink.sink (record { outside = c.args.outside.now; sink = c.args.sink.now })
    (record { outside = c.ask-ran.new.outside; sink = c.ask-ran.new.sink })
    c.ask-ran.result c.ask-ran.ensures.passes)

pub returns-clause-idle : goal.returns-clause-idle
returns-clause-idle g c = λ request asks calls. c.ask-ran.ensures.idle calls.1

pub returns-clause-in_few : goal.returns-clause-in_few
returns-clause-in_few g c within = omega (arith, c.ask-ran.ensures.few within)
