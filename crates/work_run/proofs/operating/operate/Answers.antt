use Rattle.point_laws.specs.Works.{operation}
use Rattle.grid_model.specs.RowGrids.{grid_of, user_name}
use Rattle.work_run.proofs.Deeds.{has_work, idle_of, makes_of}
use Rattle.work_run.proofs.operating.operate.Goals as goal
use Rattle.size_laws.specs.Within.{few, many}
use Rattle.std.proofs.Common.{◌+◌, ◌^◌, arith}

pub begin-requires-clause-held : goal.begin-requires-clause-held
begin-requires-clause-held g c = c.requires.held

pub begin-requires-clause-staged : goal.begin-requires-clause-staged
begin-requires-clause-staged g c = c.requires.staged

pub begin-requires-clause-pending : goal.begin-requires-clause-pending
begin-requires-clause-pending g c = c.requires.pending

pub begin-requires-clause-user : goal.begin-requires-clause-user
begin-requires-clause-user g c = c.requires.user

pub begin-requires-clause-line : goal.begin-requires-clause-line
begin-requires-clause-line g c = c.requires.line

pub begin-requires-clause-begun : goal.begin-requires-clause-begun
begin-requires-clause-begun g c = c.requires.begun

pub begin-requires-clause-slots : goal.begin-requires-clause-slots
begin-requires-clause-slots g c = c.requires.slots

pub begin-requires-clause-words : goal.begin-requires-clause-words
begin-requires-clause-words g c = c.requires.words

pub begin-requires-clause-checked : goal.begin-requires-clause-checked
begin-requires-clause-checked g c = c.requires.checked

pub begin-requires-clause-ready : goal.begin-requires-clause-ready
begin-requires-clause-ready g c = c.requires.ready

pub begin-requires-clause-frames : goal.begin-requires-clause-frames
begin-requires-clause-frames g c = (c.new-frames.ensures.begun, c.new-frames.ensures.stopped)

pub begin-requires-clause-verb : goal.begin-requires-clause-verb
begin-requires-clause-verb g c = has_work c.args.verb.now c.args.body.now c.requires.verb.0 c.requires.verb.1

pub returns-clause-executes : goal.returns-clause-executes
returns-clause-executes g c source at request op asked works does_work rules_is makes =
    c.begin.ensures.executes source at request (operation op) asked works does_work rules_is makes

pub returns-clause-passes : goal.returns-clause-passes
returns-clause-passes g c = c.begin.ensures.passes

pub returns-clause-idle : goal.returns-clause-idle
returns-clause-idle g c op r works none refused =
    c.begin.ensures.idle none (idle_of (grid_of c.args.store.now.cat) (user_name c.args.store.now.cat c.args.command.user) c.args.verb.now c.args.body.now op works r
    refused)

pub returns-clause-files : goal.returns-clause-files
returns-clause-files g c op count place works none is = makes_of count c.args.verb.now c.args.body.now op works (c.begin.ensures.files count place none is)

pub returns-clause-drawn : goal.returns-clause-drawn
returns-clause-drawn g c = omega (arith, c.begin.ensures.drawn (2 ^ 65) many)

pub returns-clause-few : goal.returns-clause-few
returns-clause-few g c within = omega (arith, c.begin.ensures.drawn (2 ^ 20) (few within))
