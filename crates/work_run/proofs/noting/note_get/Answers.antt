use Rattle.std.proofs.Common.{[], refl, sym, subst}
use Rattle.std.specs.Option.{option_copied}
use Rattle.grid_model.specs.Operations.Table.{get as fetch}
use Rattle.grid_model.specs.RowGrids.{user_name}
use Rattle.grid_model.specs.Working.{running}
use Rattle.grid_model.specs.declared.calls.Call.{Call}
use Rattle.deed_run.specs.Puts.{does_op}
use Rattle.run_laws.specs.Around.{around}
use Rattle.service_run.specs.Commands.{WaitsAt, place_by}
use Rattle.service_run.specs.NotedCalls.{NotesCall}
use Rattle.call_laws.proofs.Rounds.{short_amid}
use Rattle.rule_run.specs.Asked.{asked_setting}
use Rattle.rule_run.proofs.Passing.{passes_none}
use Rattle.service_run.specs.Steps.{lines_of}
use Rattle.work_run.proofs.Next.{may_be_noted}
use Rattle.work_run.proofs.NotedGets.{cat_as, command_as, held_as, noted_so}
use Rattle.work_run.proofs.noting.note_get.Goals as goal

-- ---- nothing is to be told

pub returns-then-is_empty-clause-notes : goal.returns-then-is_empty-clause-notes
returns-then-is_empty-clause-notes g c source at request before x from taken asked amid waits_op waits_so = amid

pub returns-then-is_empty-clause-held : goal.returns-then-is_empty-clause-held
returns-then-is_empty-clause-held g c = c.requires.held

pub returns-then-is_empty-clause-rows : goal.returns-then-is_empty-clause-rows
returns-then-is_empty-clause-rows g c = refl

pub returns-then-is_empty-clause-passes : goal.returns-then-is_empty-clause-passes
returns-then-is_empty-clause-passes g c =
    passes_none g.D.Disk.disk g.P.Plugin.plugin g.K.Sink.sink _ _ (λ f. cc f) (λ f. cc f) (record { outside = c.args.outside.now; sink = c.args.sink.now })

-- ---- there was no memory for its call

pub get_call-requires : goal.get_call-requires
get_call-requires g c = record { asked = c.requires.asked }

pub returns-in-Err-clause-notes : goal.returns-in-Err-clause-notes
returns-in-Err-clause-notes g c source at request before x from taken asked amid waits_op waits_so = (
  short_amid g.D.Disk.disk g.A.Ambient.ambient g.P.Plugin.plugin g.K.Sink.sink source (asked_setting at request before x (lines_of x.number)) from (record { outside = c.args.outside.now; sink = c.args.sink.now })
      c.args.command.now c.args.store.now taken amid,
  tt,
)

pub returns-in-Err-clause-passes : goal.returns-in-Err-clause-passes
returns-in-Err-clause-passes g c =
    passes_none g.D.Disk.disk g.P.Plugin.plugin g.K.Sink.sink _ _ (λ f. cc f) (λ f. cc f) (record { outside = c.args.outside.now; sink = c.args.sink.now })

-- ---- it was noted

pub note_call-requires-clause-held : goal.note_call-requires-clause-held
note_call-requires-clause-held g c = c.requires.held

pub note_call-requires-clause-user : goal.note_call-requires-clause-user
note_call-requires-clause-user g c = c.requires.user

pub note_call-requires-clause-noted : goal.note_call-requires-clause-noted
note_call-requires-clause-noted g c = may_be_noted c.args.command.now c.requires.keepable.0 c.requires.keepable.1 c.are_short.ensures

pub note_call-requires-clause-call : goal.note_call-requires-clause-call
note_call-requires-clause-call g c = c.in-Ok.ensures.fits

pub note_call-requires-clause-ready : goal.note_call-requires-clause-ready
note_call-requires-clause-ready g c = c.requires.ready

pub returns-clause-notes : goal.returns-clause-notes
returns-clause-notes g c source at request before x from taken asked amid waits_op waits_so =
    let user = user_name c.args.store.now.cat c.args.command.now.user in
    noted_so g.D.Disk.disk g.A.Ambient.ambient g.P.Plugin.plugin g.K.Sink.sink source at request before x asked from (does_op user (fetch c.args.path.now (option_copied c.args.asked)))
    (running (fetch c.args.path.now (option_copied c.args.asked))) (record { outside = c.args.outside.now; sink = c.args.sink.now }) c.args.command.now c.args.store.now taken amid
    c.requires.ready.outside.main_last waits_so (record { outside = c.note_call.new.outside; sink = c.note_call.new.sink }) c.note_call.new.command
    c.note_call.new.store c.note_call.result c.note_call.ensures.passes
    (subst (λ (k : Call). NotesCall (around g.D.Disk.disk g.A.Ambient.ambient g.P.Plugin.plugin c.args.outside.now (g.K.Sink.sink c.args.sink.now) source)
    (around g.D.Disk.disk g.A.Ambient.ambient g.P.Plugin.plugin c.note_call.new.outside (g.K.Sink.sink c.note_call.new.sink) source) amid.holds.cat c.args.store.now c.args.command.now k []
    c.note_call.new.command c.note_call.new.store (does_op user (fetch c.args.path.now (option_copied c.args.asked))) c.note_call.result) c.in-Ok.ensures.is
    (c.note_call.ensures.notes source amid.holds.cat (does_op user (fetch c.args.path.now (option_copied c.args.asked))) amid.holds.held
    (subst (λ (k : Call). WaitsAt (does_op user (fetch c.args.path.now (option_copied c.args.asked))) (place_by c.args.store.now.cat c.args.command.now) k)
    (sym c.in-Ok.ensures.is) waits_op)))

pub returns-clause-held : goal.returns-clause-held
returns-clause-held g c = held_as (g.D.Disk.disk c.note_call.new.outside.main) c.args.store.now c.args.command.now c.in-Ok.call c.note_call.new.command c.note_call.new.store
    c.note_call.result c.note_call.ensures.next

pub returns-clause-rows : goal.returns-clause-rows
returns-clause-rows g c = cat_as (g.D.Disk.disk c.note_call.new.outside.main) c.args.store.now c.args.command.now c.in-Ok.call c.note_call.new.command c.note_call.new.store
    c.note_call.result c.note_call.ensures.next

pub returns-clause-command : goal.returns-clause-command
returns-clause-command g c = command_as (g.D.Disk.disk c.note_call.new.outside.main) c.args.store.now c.args.command.now c.in-Ok.call c.note_call.new.command c.note_call.new.store
    c.note_call.result c.note_call.ensures.next

pub returns-clause-vaults : goal.returns-clause-vaults
returns-clause-vaults g c = c.note_call.ensures.vaults

pub returns-clause-passes : goal.returns-clause-passes
returns-clause-passes g c = c.note_call.ensures.passes

pub returns-clause-stores : goal.returns-clause-stores
returns-clause-stores g c = c.note_call.ensures.stores

pub returns-clause-drawn : goal.returns-clause-drawn
returns-clause-drawn g c = c.note_call.ensures.drawn
