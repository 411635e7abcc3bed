use Rattle.std.proofs.Common.{◌≡◌, inl, inr, Err, Ok, refl, sym, ap, ◌∙◌, subst, arith}
use Rattle.std.specs.Prelude.{⊤, Result, IsErrOf}
use Rattle.grid_outside.proofs.Spans.{at_place}
use Rattle.grid_model.specs.declared.marks.Mark.{Mark}
use Rattle.grid_model.specs.declared.refusal.Failure.{Failure}
use Rattle.grid_vault.specs.Sending.{Grows}
use Rattle.grid_deed.specs.Frame.{Goes}
use Rattle.grid_deed.proofs.Frames.{goes_between, goes_nowhere}
use Rattle.service_run.specs.Changes.{with_mark}
use Rattle.service_run.specs.declared.ending.Ending.{Ending}
use Rattle.service_run.specs.declared.ending.Ending.TheVariants as ending
use Rattle.deed_run.specs.Sent.{sent_mark}
use Rattle.deed_run.proofs.SentSteps.{passes_sent, sends_cut, sends_lost, sends_none, sends_told}
use Rattle.deed_run.proofs.sending.send_file.Goals as goal

pub send-requires-clause-slot : goal.send-requires-clause-slot
send-requires-clause-slot g c = c.requires.slot

pub send-requires-clause-last : goal.send-requires-clause-last
send-requires-clause-last g c = c.requires.ready.outside.stores_last

pub send-requires-clause-sink_last : goal.send-requires-clause-sink_last
send-requires-clause-sink_last g c = c.requires.ready.sink_last

pub send-requires-clause-room : goal.send-requires-clause-room
send-requires-clause-room g c = omega (arith, c.requires.ready.outside.room, c.few_parts.ensures)

-- ---- the sink failed

pub returns-in-Err-Sink-clause-sends : goal.returns-in-Err-Sink-clause-sends
returns-in-Err-Sink-clause-sends g c source rows user path asked is =
    let o = c.args.outside.now in
    let n = record o { stores = c.send.new.stores; moments = c.send.new.moments; ambient = c.now-now.new.self } in
    sends_cut g.D.Disk.disk g.A.Ambient.ambient g.P.Plugin.plugin g.K.Sink.sink source o n c.args.sink.now c.send.new.sink refl c.args.file.now c.send.ensures.any_moment c.requires.ready.outside.stores_last (omega (arith, c.requires.slot, o.stores.ok.0))
    c.word-word.result c.now-now.result (g.A.Ambient.ambient c.word-word.new.self) c.word-word.ensures c.now-now.ensures c.args.command.now rows user path asked is
    (c.in-Err-Sink.ensures.broken (ap Err c.in-Err-Sink.field-0-is)) c.args.command.now

pub returns-in-Err-Sink-clause-next : goal.returns-in-Err-Sink-clause-next
returns-in-Err-Sink-clause-next g c = tt

pub returns-in-Err-Sink-clause-errors : goal.returns-in-Err-Sink-clause-errors
returns-in-Err-Sink-clause-errors g c e is = let same : ending.Sink ≡ e = cc in inl (sym same)

pub returns-in-Err-Sink-clause-main : goal.returns-in-Err-Sink-clause-main
returns-in-Err-Sink-clause-main g c = refl

pub returns-in-Err-Sink-clause-drawn : goal.returns-in-Err-Sink-clause-drawn
returns-in-Err-Sink-clause-drawn g c = omega (arith, c.send.ensures.drawn, c.few_parts.ensures)

pub returns-in-Err-Sink-clause-passes : goal.returns-in-Err-Sink-clause-passes
returns-in-Err-Sink-clause-passes g c =
    let o = c.args.outside.now in
    let n = record o { stores = c.send.new.stores; moments = c.send.new.moments; ambient = c.now-now.new.self } in
    let r : Result (Result ⊤ Failure) Ending = Err ending.Sink in
    passes_sent g.D.Disk.disk g.P.Plugin.plugin g.K.Sink.sink (IsErrOf r ending.Disk) (IsErrOf r ending.Sink) c.args.file.now.slot o n c.args.sink.now c.send.new.sink (λ e. cc) refl refl c.send.ensures.drawn_from
    c.send.ensures.any_moment c.send.ensures.last c.send.ensures.sink_last (goes_between o.moments n.moments Grows (g.K.Sink.sink c.args.sink.now) (g.K.Sink.sink c.send.new.sink) (c.in-Err-Sink.ensures.broken (ap Err c.in-Err-Sink.field-0-is)).holds.lines.span) (λ e. c.in-Err-Sink.ensures.cause (ap Err c.in-Err-Sink.field-0-is))

-- ---- memory ran out before anything was put

pub returns-in-Err-Memory-clause-sends : goal.returns-in-Err-Memory-clause-sends
returns-in-Err-Memory-clause-sends g c source rows user path asked is =
    let o = c.args.outside.now in
    let n = record o { stores = c.send.new.stores; moments = c.send.new.moments; ambient = c.now-now.new.self } in
    let here = at_place o.stores.items c.args.file.now.slot (omega (arith, c.requires.slot, o.stores.ok.0)) in
    sends_none g.D.Disk.disk g.A.Ambient.ambient g.P.Plugin.plugin g.K.Sink.sink source o n c.args.sink.now c.send.new.sink refl c.args.file.now c.send.ensures.any_moment c.requires.ready.outside.stores_last (omega (arith, c.requires.slot, o.stores.ok.0))
    c.word-word.result c.now-now.result (g.A.Ambient.ambient c.word-word.new.self) c.word-word.ensures c.now-now.ensures c.args.command.now rows user path asked is
    (c.in-Err-Memory.ensures.unchanged (ap Err c.in-Err-Memory.field-0-is)).0 c.requires.ready.sink_last here.0 here.1 c.args.command.now

pub returns-in-Err-Memory-clause-next : goal.returns-in-Err-Memory-clause-next
returns-in-Err-Memory-clause-next g c = tt

pub returns-in-Err-Memory-clause-errors : goal.returns-in-Err-Memory-clause-errors
returns-in-Err-Memory-clause-errors g c e is = let same : ending.Memory ≡ e = cc in inr (sym same)

pub returns-in-Err-Memory-clause-main : goal.returns-in-Err-Memory-clause-main
returns-in-Err-Memory-clause-main g c = refl

pub returns-in-Err-Memory-clause-drawn : goal.returns-in-Err-Memory-clause-drawn
returns-in-Err-Memory-clause-drawn g c = omega (arith, c.send.ensures.drawn, c.few_parts.ensures)

pub returns-in-Err-Memory-clause-passes : goal.returns-in-Err-Memory-clause-passes
returns-in-Err-Memory-clause-passes g c =
    let o = c.args.outside.now in
    let n = record o { stores = c.send.new.stores; moments = c.send.new.moments; ambient = c.now-now.new.self } in
    let r : Result (Result ⊤ Failure) Ending = Err ending.Memory in
    passes_sent g.D.Disk.disk g.P.Plugin.plugin g.K.Sink.sink (IsErrOf r ending.Disk) (IsErrOf r ending.Sink) c.args.file.now.slot o n c.args.sink.now c.send.new.sink (λ e. cc) refl refl c.send.ensures.drawn_from
    c.send.ensures.any_moment c.send.ensures.last c.send.ensures.sink_last (let G : _ → Type 0 = λ s. Goes o.moments (g.K.Sink.sink c.args.sink.now) (g.K.Sink.sink s) in subst G (sym (c.in-Err-Memory.ensures.unchanged (ap Err c.in-Err-Memory.field-0-is)).0) (goes_nowhere o.moments (g.K.Sink.sink c.args.sink.now))) (λ e. cc)

-- ---- memory ran out behind that

pub returns-in_default-clause-sends : goal.returns-in_default-clause-sends
returns-in_default-clause-sends g c source rows user path asked is =
    let o = c.args.outside.now in
    let n = record o { stores = c.send.new.stores; moments = c.send.new.moments; ambient = c.now-now.new.self } in
    sends_lost g.D.Disk.disk g.A.Ambient.ambient g.P.Plugin.plugin g.K.Sink.sink source o n c.args.sink.now c.send.new.sink refl c.args.file.now c.send.ensures.any_moment c.requires.ready.outside.stores_last (omega (arith, c.requires.slot, o.stores.ok.0))
    c.word-word.result c.now-now.result (g.A.Ambient.ambient c.word-word.new.self) c.word-word.ensures c.now-now.ensures c.args.command.now rows user path asked is
    c.in-Ok.sent c.in-Ok.ensures.sent c.in-Ok.ensures.fault c.take_mark.new.command

pub returns-in_default-clause-next : goal.returns-in_default-clause-next
returns-in_default-clause-next g c = tt

pub returns-in_default-clause-errors : goal.returns-in_default-clause-errors
returns-in_default-clause-errors g c e is = let same : ending.Memory ≡ e = cc in inr (sym same)

pub returns-in_default-clause-main : goal.returns-in_default-clause-main
returns-in_default-clause-main g c = refl

pub returns-in_default-clause-drawn : goal.returns-in_default-clause-drawn
returns-in_default-clause-drawn g c = omega (arith, c.send.ensures.drawn, c.few_parts.ensures)

pub returns-in_default-clause-passes : goal.returns-in_default-clause-passes
returns-in_default-clause-passes g c =
    let o = c.args.outside.now in
    let n = record o { stores = c.send.new.stores; moments = c.send.new.moments; ambient = c.now-now.new.self } in
    let r : Result (Result ⊤ Failure) Ending = Err ending.Memory in
    passes_sent g.D.Disk.disk g.P.Plugin.plugin g.K.Sink.sink (IsErrOf r ending.Disk) (IsErrOf r ending.Sink) c.args.file.now.slot o n c.args.sink.now c.send.new.sink (λ e. cc) refl refl c.send.ensures.drawn_from
    c.send.ensures.any_moment c.send.ensures.last c.send.ensures.sink_last (goes_between o.moments n.moments Grows (g.K.Sink.sink c.args.sink.now) (g.K.Sink.sink c.send.new.sink) c.in-Ok.ensures.sent.holds.lines.puts.span) (λ e. cc)

-- ---- its mark was taken

pub returns-clause-sends : goal.returns-clause-sends
returns-clause-sends g c source rows user path asked is =
    let o = c.args.outside.now in
    let n = record o { stores = c.send.new.stores; moments = c.send.new.moments; ambient = c.now-now.new.self } in
    sends_told g.D.Disk.disk g.A.Ambient.ambient g.P.Plugin.plugin g.K.Sink.sink source o n c.args.sink.now c.send.new.sink refl c.args.file.now c.send.ensures.any_moment c.requires.ready.outside.stores_last (omega (arith, c.requires.slot, o.stores.ok.0))
    c.word-word.result c.now-now.result (g.A.Ambient.ambient c.word-word.new.self) c.word-word.ensures c.now-now.ensures c.args.command.now rows user path asked is
    c.in-Ok.sent c.in-Ok.ensures.sent c.in-Ok.ensures.fault c.take_mark.new.command c.sent_ran.result (c.in-Ok-take_mark.ensures.taken ∙ ap (λ (m : Mark). with_mark c.args.command.now m) c.sent_mark-mark.ensures) c.sent_is_kept.ensures c.sent_ran.ensures

pub returns-clause-next : goal.returns-clause-next
returns-clause-next g c =
    record { m = sent_mark c.word-word.result c.now-now.result c.in-Ok.sent; fits = c.sent_is_kept.ensures; is = c.in-Ok-take_mark.ensures.taken ∙ ap (λ (m : Mark). with_mark c.args.command.now m) c.sent_mark-mark.ensures }

pub returns-clause-errors : goal.returns-clause-errors
returns-clause-errors g c e is = absurd (cc)

pub returns-clause-main : goal.returns-clause-main
returns-clause-main g c = refl

pub returns-clause-drawn : goal.returns-clause-drawn
returns-clause-drawn g c = omega (arith, c.send.ensures.drawn, c.few_parts.ensures)

pub returns-clause-passes : goal.returns-clause-passes
returns-clause-passes g c =
    let o = c.args.outside.now in
    let n = record o { stores = c.send.new.stores; moments = c.send.new.moments; ambient = c.now-now.new.self } in
    let r : Result (Result ⊤ Failure) Ending = Ok c.sent_ran.result in
    passes_sent g.D.Disk.disk g.P.Plugin.plugin g.K.Sink.sink (IsErrOf r ending.Disk) (IsErrOf r ending.Sink) c.args.file.now.slot o n c.args.sink.now c.send.new.sink (λ e. cc) refl refl c.send.ensures.drawn_from
    c.send.ensures.any_moment c.send.ensures.last c.send.ensures.sink_last (goes_between o.moments n.moments Grows (g.K.Sink.sink c.args.sink.now) (g.K.Sink.sink c.send.new.sink) c.in-Ok.ensures.sent.holds.lines.puts.span) (λ e. absurd (cc))

-- ---- how many moments it takes

pub returns-in-Err-Sink-clause-few : goal.returns-in-Err-Sink-clause-few
returns-in-Err-Sink-clause-few g c = c.send.ensures.drawn

pub returns-in-Err-Memory-clause-few : goal.returns-in-Err-Memory-clause-few
returns-in-Err-Memory-clause-few g c = c.send.ensures.drawn

pub returns-in_default-clause-few : goal.returns-in_default-clause-few
returns-in_default-clause-few g c = c.send.ensures.drawn

pub returns-clause-few : goal.returns-clause-few
returns-clause-few g c = c.send.ensures.drawn
