use Rattle.std.proofs.Common.{◌-◌, refl, arith}
use Rattle.rule_run.specs.Calls.{more}
use Rattle.rule_run.proofs.Called.{called_none, called_recovered, recovers_there, ready_recovered}
use Rattle.rule_run.proofs.Ready.{noted_there, one_less, positive, ready_one, words_there}
use Rattle.rule_run.proofs.Spots.{spot, spot_of}
use Rattle.rule_run.proofs.calling.CallingDoer.undo.Goals as goal

pub returns-then-self-eq0-clause-goes : goal.returns-then-self-eq0-clause-goes
returns-then-self-eq0-clause-goes g c from calls w =
    let a = spot_of c.args.self.now in
    (more calls a _ refl w.0 (called_none g.D.Disk.disk g.A.Ambient.ambient g.P.Plugin.plugin g.K.Sink.sink a _ refl refl), w.1, w.2, w.3, w.4)

pub returns-then-not-are_spelled-clause-goes : goal.returns-then-not-are_spelled-clause-goes
returns-then-not-are_spelled-clause-goes g c from calls w =
    let a = spot_of c.args.self.now in
    (more calls a _ refl w.0 (called_none g.D.Disk.disk g.A.Ambient.ambient g.P.Plugin.plugin g.K.Sink.sink a _ refl refl), w.1, w.2, w.3, w.4)

pub overflow_sub-self : goal.overflow_sub-self
overflow_sub-self g c = positive c.args.self.now.left c.if-self-eq0.false

pub undo_one-requires-clause-held : goal.undo_one-requires-clause-held
undo_one-requires-clause-held g c = c.requires.ready.held

pub undo_one-requires-clause-user : goal.undo_one-requires-clause-user
undo_one-requires-clause-user g c = c.requires.ready.user

pub undo_one-requires-clause-words : goal.undo_one-requires-clause-words
undo_one-requires-clause-words g c = words_there c.args.call.now (c.are_spelled.ensures.call c.if-not-are_spelled.false)

pub undo_one-requires-clause-spelled : goal.undo_one-requires-clause-spelled
undo_one-requires-clause-spelled g c =
    noted_there c.args.self.now.command.now c.args.undo.now c.args.call.now c.requires.ready.words c.requires.ready.kept c.are_short.ensures
    (c.are_spelled.ensures.call c.if-not-are_spelled.false) (c.are_spelled.ensures.undo c.if-not-are_spelled.false)

pub undo_one-requires-clause-slots : goal.undo_one-requires-clause-slots
undo_one-requires-clause-slots g c = omega (arith, c.requires.ready.slots, c.args.self.now.outside.now.stores.ok.0)

pub undo_one-requires-clause-ready : goal.undo_one-requires-clause-ready
undo_one-requires-clause-ready g c =
    ready_one g.D.Disk.disk g.P.Plugin.plugin g.K.Sink.sink (record { outside = c.args.self.now.outside.now; sink = c.args.self.now.sink.now })
    c.args.self.now.left c.if-self-eq0.false c.requires.ready.ready

pub returns-clause-ready : goal.returns-clause-ready
returns-clause-ready g c =
    let a = spot_of c.args.self.now in
    let b = spot c.undo_one.new.outside c.undo_one.new.sink c.undo_one.new.store c.undo_one.new.command (c.args.self.now.left - 1) in
    ready_recovered g.D.Disk.disk g.A.Ambient.ambient g.P.Plugin.plugin g.K.Sink.sink a b c.args.call.now c.args.undo.now c.undo_one.ensures.drawn
    (one_less c.args.self.now.left c.if-self-eq0.false) c.undo_one.result c.requires.ready (c.are_spelled.ensures.call c.if-not-are_spelled.false)
    c.undo_one.ensures.passes c.undo_one.ensures.ends

pub returns-clause-recovers : goal.returns-clause-recovers
returns-clause-recovers g c =
    let a = spot_of c.args.self.now in
    let b = spot c.undo_one.new.outside c.undo_one.new.sink c.undo_one.new.store c.undo_one.new.command (c.args.self.now.left - 1) in
    recovers_there g.D.Disk.disk g.A.Ambient.ambient g.P.Plugin.plugin g.K.Sink.sink a b c.args.call.now c.args.undo.now c.undo_one.ensures.drawn
    (one_less c.args.self.now.left c.if-self-eq0.false) c.undo_one.result c.requires.ready c.undo_one.ensures.ends

pub returns-clause-goes : goal.returns-clause-goes
returns-clause-goes g c from calls w =
    let a = spot_of c.args.self.now in
    let b = spot c.undo_one.new.outside c.undo_one.new.sink c.undo_one.new.store c.undo_one.new.command (c.args.self.now.left - 1) in (
      more calls a _ refl w.0
          (called_recovered g.D.Disk.disk g.A.Ambient.ambient g.P.Plugin.plugin g.K.Sink.sink a b c.args.call.now c.args.undo.now c.undo_one.ensures.drawn
          (one_less c.args.self.now.left c.if-self-eq0.false) c.undo_one.result c.requires.ready c.undo_one.ensures.passes c.undo_one.ensures.ends),
      w.1,
      w.2,
      w.3,
      w.4,
    )
