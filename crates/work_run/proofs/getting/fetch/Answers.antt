use Rattle.std.proofs.Common.{◌^◌, refl, sym, ap, ◌∙◌, length, subst, arith}
use Rattle.std.specs.Option.{option_copied}
use Rattle.grid_model.specs.RowGrids.{user_name, grid_of}
use Rattle.point_laws.specs.Works.{operation}
use Rattle.service_run.specs.Commands.{place_by}
use Rattle.service_run.specs.declared.command.Command.{Command}
use Rattle.service_run.specs.declared.ending.Ending.TheVariants as ending
use Rattle.grid_outside.specs.declared.outside.Wear.TheVariants as wear
use Rattle.grid_deed.proofs.Keeping.{made_more}
use Rattle.grid_model.specs.Operations.Table.{get as fetch}
use Rattle.chain_run.specs.Places.{Place}
use Rattle.call_laws.proofs.Joined.{passes_then, passes_well}
use Rattle.rule_run.proofs.Ended.{passes_err, ready_after, ready_less}
use Rattle.work_run.specs.Behind.{IsBehind, from_work}
use Rattle.work_run.proofs.Cut.{short_executes}
use Rattle.work_run.proofs.Fetching.{waits_op, waits_request}
use Rattle.work_run.proofs.VaultNeeds.{error_as}
use Rattle.work_run.proofs.GetSlots.{slot_small}
use Rattle.work_run.proofs.SentNext.{fetched_so, marked_so, name_so, next_so, none_worn, place_same, sends_same, stores_so, within_so}
use Rattle.work_run.proofs.getting.fetch.Goals as goal
use Rattle.work_run.proofs.Drawn.{draws_sent}
use Rattle.size_laws.proofs.Moments.{takes_some}

-- ---- it is noted

pub note_get-requires-clause-held : goal.note_get-requires-clause-held
note_get-requires-clause-held g c = c.requires.held

pub note_get-requires-clause-user : goal.note_get-requires-clause-user
note_get-requires-clause-user g c = c.requires.user

pub note_get-requires-clause-keepable : goal.note_get-requires-clause-keepable
note_get-requires-clause-keepable g c = c.requires.keepable

pub note_get-requires-clause-asked : goal.note_get-requires-clause-asked
note_get-requires-clause-asked g c = c.requires.asked

pub note_get-requires-clause-ready : goal.note_get-requires-clause-ready
note_get-requires-clause-ready g c =
    ready_less g.D.Disk.disk g.P.Plugin.plugin g.K.Sink.sink (record { outside = c.args.outside.now; sink = c.args.sink.now }) (2 ^ 65) 5 (omega arith) c.requires.ready

-- ---- it is sent

pub send_file-requires-clause-slot : goal.send_file-requires-clause-slot
send_file-requires-clause-slot g c =
    omega (
      arith,
      slot_small c.args.store.now.cat (made_more c.requires.held.0 c.args.store.now.cat c.args.store.now.staged c.requires.held.1.made c.requires.held.1.staged) _ _ _
          c.args.file.now c.requires.file,
      c.requires.slots,
      ap (λ v. length v.items) c.note_get.ensures.stores,
      c.args.outside.now.stores.ok.0,
      c.note_get.new.outside.stores.ok.0,
    )

pub send_file-requires-clause-ready : goal.send_file-requires-clause-ready
send_file-requires-clause-ready g c =
    ready_after g.D.Disk.disk g.P.Plugin.plugin g.K.Sink.sink _ _ (record { outside = c.args.outside.now; sink = c.args.sink.now }) (record { outside = c.note_get.new.outside; sink = c.note_get.new.sink }) (2 ^ 65) (2 ^ 49) c.note_get.ensures.passes c.requires.ready
    (omega (arith, c.note_get.ensures.drawn))

pub returns-in-Ok-clause-fetches : goal.returns-in-Ok-clause-fetches
returns-in-Ok-clause-fetches g c source at request before x from taken p begun asked does_so amid behind =
    let rows = c.args.store.now in
    let y = c.args.command.now in
    let path = c.args.path.now in
    let asking = option_copied c.args.asked in
    let user = user_name rows.cat y.user in
    let place = place_by rows.cat y in
    let waits = waits_op at request user path asking p taken place begun behind rows.cat refl c.args.file.now c.requires.file in
    let so = waits_request at request user path asking p taken place begun behind rows.cat refl c.args.file.now c.requires.file in
    let on = c.in-Ok.ensures.notes source at request before x from taken asked amid waits so in
    let later = c.note_get.new.store in
    let z = c.note_get.new.command in
    fetched_so g.D.Disk.disk g.A.Ambient.ambient g.P.Plugin.plugin g.K.Sink.sink source at request before x asked from user path asking p begun (record { outside = c.note_get.new.outside; sink = c.note_get.new.sink }) z later taken
    on (ap (λ (k : Command). k.untold) c.in-Ok.ensures.command) (c.note_get.ensures.passes.frame.main_last c.requires.ready.outside.main_last)
    (subst (λ (q : Place). IsBehind at request taken q begun (from_work at p user (operation (fetch path asking))))
    (sym (place_same rows later c.in-Ok.ensures.rows y z c.in-Ok.ensures.command)) behind)
    c.args.file.now (sends_same rows later c.in-Ok.ensures.rows user path asking c.args.file.now c.requires.file)
    (record { outside = c.send_file.new.outside; sink = c.send_file.new.sink }) c.send_file.new.command does_so c.works_end_by_rows.ensures
    c.works_take_in_order.ensures c.after_work_ends.ensures c.after_work_sends.ensures c.send_file.result c.send_file.ensures.passes
    (c.send_file.ensures.sends source later.cat user path asking (sends_same rows later c.in-Ok.ensures.rows user path asking c.args.file.now
    c.requires.file))

pub returns-in-Ok-clause-next : goal.returns-in-Ok-clause-next
returns-in-Ok-clause-next g c =
    next_so c.args.store.now c.args.command.now c.note_get.new.store c.note_get.new.command c.send_file.new.command g.D.Disk.disk c.note_get.new.outside.main
    c.send_file.new.outside.main c.in-Ok.ensures.held.0 c.in-Ok.ensures.held.1 c.in-Ok.ensures.rows c.in-Ok.ensures.command c.requires.user
    c.requires.keepable.0 c.requires.keepable.1 c.send_file.ensures.main c.send_file.result c.send_file.ensures.next

pub returns-in-Ok-clause-name : goal.returns-in-Ok-clause-name
returns-in-Ok-clause-name g c =
    name_so c.args.store.now c.args.command.now c.note_get.new.store c.note_get.new.command c.send_file.new.command c.in-Ok.ensures.rows
    c.in-Ok.ensures.command c.send_file.result c.send_file.ensures.next

pub returns-in-Ok-clause-stores : goal.returns-in-Ok-clause-stores
returns-in-Ok-clause-stores g c =
    stores_so c.args.store.now c.args.command.now c.note_get.new.store c.note_get.new.command c.send_file.new.command c.in-Ok.ensures.rows c.send_file.result

pub returns-in-Ok-clause-marks : goal.returns-in-Ok-clause-marks
returns-in-Ok-clause-marks g c =
    marked_so c.args.store.now c.args.command.now c.note_get.new.store c.note_get.new.command c.send_file.new.command c.send_file.result c.send_file.ensures.next

pub returns-in-Ok-clause-vaults : goal.returns-in-Ok-clause-vaults
returns-in-Ok-clause-vaults g c = none_worn c.send_file.result c.send_file.ensures.errors

pub returns-in-Ok-clause-passes : goal.returns-in-Ok-clause-passes
returns-in-Ok-clause-passes g c =
    passes_then g.D.Disk.disk g.P.Plugin.plugin g.K.Sink.sink _ _ (record { outside = c.args.outside.now; sink = c.args.sink.now }) (record { outside = c.note_get.new.outside; sink = c.note_get.new.sink }) (record { outside = c.send_file.new.outside; sink = c.send_file.new.sink })
    (passes_well g.D.Disk.disk g.P.Plugin.plugin g.K.Sink.sink _ _ ⊥ ⊥ (record { outside = c.args.outside.now; sink = c.args.sink.now })
    (record { outside = c.note_get.new.outside; sink = c.note_get.new.sink }) (λ f. cc f) (λ e. e) (λ e. e) c.in-Ok.ensures.passes) c.send_file.ensures.passes

pub returns-in-Ok-clause-drawn : goal.returns-in-Ok-clause-drawn
returns-in-Ok-clause-drawn g c each most =
    draws_sent c.args.store.now.cat _ _ _ c.args.file.now c.requires.file each most c.args.outside.now.moments c.note_get.new.outside.moments c.send_file.new.outside.moments c.note_get.ensures.drawn
    c.send_file.ensures.drawn c.send_file.ensures.few

pub returns-in-Ok-clause-within : goal.returns-in-Ok-clause-within
returns-in-Ok-clause-within g c =
    within_so c.args.store.now c.note_get.new.store c.in-Ok.ensures.rows c.send_file.result

-- ---- it was cut short before it was sent

pub returns-in-Err-clause-fetches : goal.returns-in-Err-clause-fetches
returns-in-Err-clause-fetches g c source at request before x from taken p begun asked does_so amid behind =
    let rows = c.args.store.now in
    let y = c.args.command.now in
    let path = c.args.path.now in
    let asking = option_copied c.args.asked in
    let user = user_name rows.cat y.user in
    let place = place_by rows.cat y in
    let waits = waits_op at request user path asking p taken place begun behind rows.cat refl c.args.file.now c.requires.file in
    let so = waits_request at request user path asking p taken place begun behind rows.cat refl c.args.file.now c.requires.file in
    let short = c.in-Err.ensures.notes source at request before x from taken asked amid waits so in
    short_executes g.D.Disk.disk g.A.Ambient.ambient g.P.Plugin.plugin g.K.Sink.sink source at request before x asked from user (operation (fetch path asking)) p begun (record { outside = c.args.outside.now; sink = c.args.sink.now }) y rows taken amid behind does_so tt
    c.works_end_by_rows.ensures c.works_take_in_order.ensures c.works_send_behind.ensures c.work_ends.ensures (record { outside = c.note_get.new.outside; sink = c.note_get.new.sink })
    short.0 (c.note_get.ensures.passes.frame.stores.count ∙ amid.passes.frame.stores.count) c.in-Err.ending short.1 c.note_get.new.store

pub returns-in-Err-clause-vaults : goal.returns-in-Err-clause-vaults
returns-in-Err-clause-vaults g c place is = c.in-Err.ensures.vaults place (error_as c.in-Err.ending (ending.Worn wear.Vaults place) is)

pub returns-in-Err-clause-passes : goal.returns-in-Err-clause-passes
returns-in-Err-clause-passes g c =
    passes_err g.D.Disk.disk g.P.Plugin.plugin g.K.Sink.sink c.in-Err.ending (record { outside = c.args.outside.now; sink = c.args.sink.now }) (record { outside = c.note_get.new.outside; sink = c.note_get.new.sink }) c.in-Err.ensures.passes

pub returns-in-Err-clause-drawn : goal.returns-in-Err-clause-drawn
returns-in-Err-clause-drawn g c each most = omega (arith, c.note_get.ensures.drawn, takes_some (grid_of c.args.store.now.cat) each most)

pub returns-in-Err-clause-within : goal.returns-in-Err-clause-within
returns-in-Err-clause-within g c = tt
