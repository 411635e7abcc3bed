use Rattle.std.proofs.Common.{◌≡◌, ◌+◌, ◌^◌, List, [], ◌∷◌, ◌++◌, None, Some, Ok, Err, IsTrue, refl, sym, subst, arith}
use Rattle.std.specs.Prelude.{decimal}
use Rattle.std.specs.Option.{option_copied}
use Rattle.grid_outside.specs.declared.outside.Wear.TheVariants as wear
use Rattle.grid_model.specs.Applying.{IsMade, is_user}
use Rattle.grid_model.specs.Names.{Text}
use Rattle.grid_model.specs.Operations.Replicas.{got}
use Rattle.grid_model.specs.Operations.Table.{get as get_of}
use Rattle.grid_model.specs.Rows.{Cat}
use Rattle.grid_model.specs.RowGrids.{grid_of, user_name}
use Rattle.grid_model.specs.declared.replies.End.{End}
use Rattle.grid_model.specs.declared.replies.End.TheVariants as end
use Rattle.grid_deed.proofs.Keeping.{made_more}
use Rattle.plan_object.specs.Sending.{Sends}
use Rattle.point_laws.specs.Works.{operation}
use Rattle.service_run.specs.Commands.{place_by}
use Rattle.service_run.specs.Steps.{lines_of}
use Rattle.service_run.specs.declared.ending.Ending.TheVariants as ending
use Rattle.call_laws.proofs.Joined.{passes_then, passes_well}
use Rattle.rule_run.proofs.Ended.{passes_err, ready_after, ready_less}
use Rattle.rule_run.proofs.Passing.{passes_none}
use Rattle.work_run.specs.Behind.{IsBehind, IsEnded, Said, from_worked}
use Rattle.work_run.specs.Pointed.{AreFor, begun_by, draws_by}
use Rattle.work_run.specs.Telling.{tells_lines}
use Rattle.work_run.proofs.SentNext.{sent_as}
use Rattle.work_run.proofs.Cut.{cut_here}
use Rattle.work_run.proofs.Nothing.{leaves_marked, leaves_still}
use Rattle.work_run.proofs.RefusedGets.{got_refused, refused_end}
use Rattle.work_run.proofs.VaultNeeds.{draws_five, error_as, memory_disk, memory_sink, memory_vaults}
use Rattle.work_run.proofs.getting.get_for.Goals as goal
use Rattle.size_laws.proofs.Moments.{takes_where}
use Rattle.size_laws.specs.Within.{many}

pub plan_get-requires-clause-made : goal.plan_get-requires-clause-made
plan_get-requires-clause-made g c =
    let store = c.args.store.now in
    subst IsMade (sym c.tables.ensures)
    (made_more c.requires.held.0 store.cat store.staged c.requires.held.1.made c.requires.held.1.staged)

pub plan_get-requires-clause-user : goal.plan_get-requires-clause-user
plan_get-requires-clause-user g c = subst (λ (k : Cat). IsTrue (is_user k c.args.command.user)) (sym c.tables.ensures) c.requires.user

-- ---- it is refused

pub conclude-requires-clause-held : goal.conclude-requires-clause-held
conclude-requires-clause-held g c = c.requires.held

pub conclude-requires-clause-writable : goal.conclude-requires-clause-writable
conclude-requires-clause-writable g c = refl

pub conclude-requires-clause-rows : goal.conclude-requires-clause-rows
conclude-requires-clause-rows g c = c.no_rows-rows.ensures.words

pub conclude-requires-clause-ready : goal.conclude-requires-clause-ready
conclude-requires-clause-ready g c =
    ready_less g.D.Disk.disk g.P.Plugin.plugin g.K.Sink.sink (record { outside = c.args.outside.now; sink = c.args.sink.now }) (2 ^ 65 + draws_by (2 ^ 65) c.args.after) 5 (omega arith) c.requires.ready

pub returns-in-Err-clause-executes : goal.returns-in-Err-clause-executes
returns-in-Err-clause-executes g c source at request before x from taken p asked does_so after amid behind begins makes =
    let rows = c.args.store.now in
    let x_user = user_name rows.cat c.args.command.user in
    let none : got (grid_of rows.cat) x_user c.args.path.now (option_copied c.args.asked) ≡ Err c.in-Err.refusal
    = subst (λ (k : Cat). got (grid_of k) (user_name k c.args.command.user) c.args.path.now (option_copied c.args.asked) ≡ Err c.in-Err.refusal) c.tables.ensures
    c.in-Err.ensures in
    let place = place_by rows.cat c.args.command in
    c.conclude.ensures.executes source at request before x from taken x_user (operation (get_of c.args.path.now (option_copied c.args.asked)))
    (lines_of x.number) None asked does_so tt amid (tells_lines refl refl)
    (subst (λ (rs : List (List Text)). IsEnded at request taken place rs None (end.Refused c.in-Err.refusal)) (sym c.no_rows-rows.ensures.is)
    (refused_end at request x_user c.args.path.now (option_copied c.args.asked) p taken place (begun_by c.args.after) behind c.in-Err.refusal none))
    (leaves_still at request before rows c.args.command (g.D.Disk.disk from.outside.main) (g.D.Disk.disk c.args.outside.now.main) begins)
    (λ was session order is files. absurd (makes session order is files))

pub returns-in-Err-clause-passes : goal.returns-in-Err-clause-passes
returns-in-Err-clause-passes g c = c.conclude.ensures.passes

pub returns-in-Err-clause-idle : goal.returns-in-Err-clause-idle
returns-in-Err-clause-idle g c r none nothing refused = (c.conclude.ensures.idle nothing, c.conclude.ensures.stores)

pub returns-in-Err-clause-vaults : goal.returns-in-Err-clause-vaults
returns-in-Err-clause-vaults g c place none is = c.conclude.ensures.vaults place is

pub returns-in-Err-clause-drawn : goal.returns-in-Err-clause-drawn
returns-in-Err-clause-drawn g c each most = omega (arith, c.conclude.ensures.drawn, draws_five each c.args.after)

-- ---- there was no memory for its words

pub returns-in-Err-one_number-clause-executes : goal.returns-in-Err-one_number-clause-executes
returns-in-Err-one_number-clause-executes g c source at request before x from taken p asked does_so after amid behind begins makes =
    cut_here g.D.Disk.disk g.A.Ambient.ambient g.P.Plugin.plugin g.K.Sink.sink source at request before x asked from (user_name c.args.store.now.cat c.args.command.user)
    (operation (get_of c.args.path.now (option_copied c.args.asked))) p (begun_by c.args.after) (record { outside = c.args.outside.now; sink = c.args.sink.now }) c.args.command c.args.store.now taken amid behind
    does_so tt c.works_end_by_rows.ensures c.works_take_in_order.ensures c.works_send_behind.ensures c.work_ends.ensures c.args.store.now

pub returns-in-Err-one_number-clause-passes : goal.returns-in-Err-one_number-clause-passes
returns-in-Err-one_number-clause-passes g c =
    passes_none g.D.Disk.disk g.P.Plugin.plugin g.K.Sink.sink _ _ memory_disk memory_sink (record { outside = c.args.outside.now; sink = c.args.sink.now })

pub returns-in-Err-one_number-clause-idle : goal.returns-in-Err-one_number-clause-idle
returns-in-Err-one_number-clause-idle g c r none nothing refused = (refl, refl)

pub returns-in-Err-one_number-clause-vaults : goal.returns-in-Err-one_number-clause-vaults
returns-in-Err-one_number-clause-vaults g c place none is = memory_vaults place is

pub returns-in-Err-one_number-clause-drawn : goal.returns-in-Err-one_number-clause-drawn
returns-in-Err-one_number-clause-drawn g c each most = omega arith

-- ---- the file

pub fetch-requires-clause-held : goal.fetch-requires-clause-held
fetch-requires-clause-held g c = c.requires.held

pub fetch-requires-clause-user : goal.fetch-requires-clause-user
fetch-requires-clause-user g c = c.requires.user

pub fetch-requires-clause-keepable : goal.fetch-requires-clause-keepable
fetch-requires-clause-keepable g c = c.requires.keepable

pub fetch-requires-clause-slots : goal.fetch-requires-clause-slots
fetch-requires-clause-slots g c = c.requires.slots

pub fetch-requires-clause-asked : goal.fetch-requires-clause-asked
fetch-requires-clause-asked g c = c.requires.asked

pub fetch-requires-clause-file : goal.fetch-requires-clause-file
fetch-requires-clause-file g c =
    subst (λ (k : Cat). Sends k (user_name k c.args.command.user) c.args.path.now (option_copied c.args.asked) c.in-Ok.file) c.tables.ensures c.in-Ok.ensures

pub fetch-requires-clause-ready : goal.fetch-requires-clause-ready
fetch-requires-clause-ready g c =
    ready_less g.D.Disk.disk g.P.Plugin.plugin g.K.Sink.sink (record { outside = c.args.outside.now; sink = c.args.sink.now }) (2 ^ 65 + draws_by (2 ^ 65) c.args.after) (2 ^ 65) (omega arith) c.requires.ready

-- ---- it was sent

pub finish_work-requires-clause-held : goal.finish_work-requires-clause-held
finish_work-requires-clause-held g c = c.in-Ok-Ok.ensures.next.held

pub finish_work-requires-clause-user : goal.finish_work-requires-clause-user
finish_work-requires-clause-user g c = c.in-Ok-Ok.ensures.next.user

pub finish_work-requires-clause-name : goal.finish_work-requires-clause-name
finish_work-requires-clause-name g c = subst (AreFor c.args.after) (sym c.in-Ok-Ok.ensures.name) c.requires.name

pub finish_work-requires-clause-keepable : goal.finish_work-requires-clause-keepable
finish_work-requires-clause-keepable g c = (c.in-Ok-Ok.ensures.next.words, c.in-Ok-Ok.ensures.next.kept)

pub finish_work-requires-clause-slots : goal.finish_work-requires-clause-slots
finish_work-requires-clause-slots g c =
    omega (
      arith,
      c.in-Ok-Ok.ensures.stores,
      c.requires.slots,
      c.fetch.ensures.passes.frame.stores.count,
      c.args.outside.now.stores.ok.0,
      c.fetch.new.outside.stores.ok.0,
    )

pub finish_work-requires-clause-shown : goal.finish_work-requires-clause-shown
finish_work-requires-clause-shown g c = c.in-Ok-one_number.ensures.words

pub finish_work-requires-clause-rows : goal.finish_work-requires-clause-rows
finish_work-requires-clause-rows g c = c.no_rows-rows-in-Ok-Ok.ensures.words

pub finish_work-requires-clause-checked : goal.finish_work-requires-clause-checked
finish_work-requires-clause-checked g c = c.requires.checked

pub finish_work-requires-clause-ready : goal.finish_work-requires-clause-ready
finish_work-requires-clause-ready g c =
    ready_after g.D.Disk.disk g.P.Plugin.plugin g.K.Sink.sink _ _ (record { outside = c.args.outside.now; sink = c.args.sink.now }) (record { outside = c.fetch.new.outside; sink = c.fetch.new.sink }) (2 ^ 65 + draws_by (2 ^ 65) c.args.after) (draws_by (2 ^ 65) c.args.after) c.fetch.ensures.passes
    c.requires.ready (omega (arith, c.fetch.ensures.drawn (2 ^ 65) many))

pub returns-in-Ok-Ok-clause-executes : goal.returns-in-Ok-Ok-clause-executes
returns-in-Ok-Ok-clause-executes g c source at request before x from taken p asked does_so after amid behind begins makes =
    let user = user_name c.args.store.now.cat c.args.command.user in
    let op = operation (get_of c.args.path.now (option_copied c.args.asked)) in
    let on = sent_as g.D.Disk.disk g.A.Ambient.ambient g.P.Plugin.plugin g.K.Sink.sink source at request before x from (record { outside = c.fetch.new.outside; sink = c.fetch.new.sink }) taken p (begun_by c.args.after)
    c.in-Ok.file.number c.fetch.new.store c.fetch.new.command c.in-Ok-Ok.field-0 (Ok tt) c.in-Ok-Ok.field-0-is
    (c.in-Ok-Ok.ensures.fetches source at request before x from taken p (begun_by c.args.after) asked does_so amid behind) in
    let words : decimal c.in-Ok.file.number ∷ [] ≡ c.in-Ok-one_number.words = sym c.in-Ok-one_number.ensures.is in
    let rows : [] ≡ c.no_rows-rows-in-Ok-Ok.result = sym c.no_rows-rows-in-Ok-Ok.ensures.is in
    c.finish_work.ensures.executes source at request before x from (taken ++ on.m ∷ []) user op p on.text_of (Some on.sent) asked does_so tt after on.amid
    on.tells
    (subst (λ (s : Said). IsBehind at request (taken ++ on.m ∷ []) (place_by c.fetch.new.store.cat c.fetch.new.command) (begun_by c.args.after) (from_worked at p s))
    (λ i. record { words = words i; rows = rows i; sent = Some on.sent }) on.so)
    (leaves_marked at request before c.args.store.now c.args.command (g.D.Disk.disk from.outside.main) c.fetch.new.store c.fetch.new.command
    (g.D.Disk.disk c.fetch.new.outside.main) c.in-Ok-Ok.ensures.marks)
    (λ session order is files. absurd (makes session order is files))

pub returns-in-Ok-Ok-clause-passes : goal.returns-in-Ok-Ok-clause-passes
returns-in-Ok-Ok-clause-passes g c =
    passes_then g.D.Disk.disk g.P.Plugin.plugin g.K.Sink.sink _ _ (record { outside = c.args.outside.now; sink = c.args.sink.now }) (record { outside = c.fetch.new.outside; sink = c.fetch.new.sink }) (record { outside = c.finish_work.new.outside; sink = c.finish_work.new.sink })
    (passes_well g.D.Disk.disk g.P.Plugin.plugin g.K.Sink.sink _ _ ⊥ ⊥ (record { outside = c.args.outside.now; sink = c.args.sink.now })
    (record { outside = c.fetch.new.outside; sink = c.fetch.new.sink }) (λ f. cc f) (λ e. e) (λ e. e) c.in-Ok-Ok.ensures.passes) c.finish_work.ensures.passes

pub returns-in-Ok-Ok-clause-idle : goal.returns-in-Ok-Ok-clause-idle
returns-in-Ok-Ok-clause-idle g c r none nothing refused =
    let rows = c.args.store.now in
    let its = subst (λ (k : Cat). Sends k (user_name k c.args.command.user) c.args.path.now (option_copied c.args.asked) c.in-Ok.file) c.tables.ensures
    c.in-Ok.ensures in
    absurd (got_refused (grid_of rows.cat) (user_name rows.cat c.args.command.user) c.args.path.now (option_copied c.args.asked) its.from its.is r refused)

pub returns-in-Ok-Ok-clause-vaults : goal.returns-in-Ok-Ok-clause-vaults
returns-in-Ok-Ok-clause-vaults g c place none is = c.finish_work.ensures.vaults place none is

pub returns-in-Ok-Ok-clause-drawn : goal.returns-in-Ok-Ok-clause-drawn
returns-in-Ok-Ok-clause-drawn g c each most =
    omega (
      arith,
      c.fetch.ensures.drawn each most,
      c.finish_work.ensures.drawn each (takes_where (grid_of c.args.store.now.cat) (grid_of c.fetch.new.store.cat) each c.in-Ok-Ok.ensures.within most),
    )

-- ---- it was refused by its mark

pub conclude-requires-in-Ok-Err-clause-held : goal.conclude-requires-in-Ok-Err-clause-held
conclude-requires-in-Ok-Err-clause-held g c = c.in-Ok-Err.ensures.next.held

pub conclude-requires-in-Ok-Err-clause-writable : goal.conclude-requires-in-Ok-Err-clause-writable
conclude-requires-in-Ok-Err-clause-writable g c = c.failed.ensures.writable

pub conclude-requires-in-Ok-Err-clause-rows : goal.conclude-requires-in-Ok-Err-clause-rows
conclude-requires-in-Ok-Err-clause-rows g c = c.no_rows-rows-in-Ok-Err.ensures.words

pub conclude-requires-in-Ok-Err-clause-ready : goal.conclude-requires-in-Ok-Err-clause-ready
conclude-requires-in-Ok-Err-clause-ready g c =
    ready_after g.D.Disk.disk g.P.Plugin.plugin g.K.Sink.sink _ _ (record { outside = c.args.outside.now; sink = c.args.sink.now }) (record { outside = c.fetch.new.outside; sink = c.fetch.new.sink }) (2 ^ 65 + draws_by (2 ^ 65) c.args.after) 5 c.fetch.ensures.passes c.requires.ready
    (omega (arith, c.fetch.ensures.drawn (2 ^ 65) many, draws_five (2 ^ 65) c.args.after))

pub returns-in-Ok-Err-clause-executes : goal.returns-in-Ok-Err-clause-executes
returns-in-Ok-Err-clause-executes g c source at request before x from taken p asked does_so after amid behind begins makes =
    let user = user_name c.args.store.now.cat c.args.command.user in
    let op = operation (get_of c.args.path.now (option_copied c.args.asked)) in
    let on = sent_as g.D.Disk.disk g.A.Ambient.ambient g.P.Plugin.plugin g.K.Sink.sink source at request before x from (record { outside = c.fetch.new.outside; sink = c.fetch.new.sink }) taken p (begun_by c.args.after)
    c.in-Ok.file.number c.fetch.new.store c.fetch.new.command c.in-Ok-Err.field-0 (Err c.in-Ok-Err.failure) c.in-Ok-Err.field-0-is
    (c.in-Ok-Err.ensures.fetches source at request before x from taken p (begun_by c.args.after) asked does_so amid behind) in
    let E : List (List Text) → End → Type 0 = λ rs e.
    IsEnded at request (taken ++ on.m ∷ []) (place_by c.fetch.new.store.cat c.fetch.new.command) rs (Some on.sent) e in
    c.conclude-in-Ok-Err.ensures.executes source at request before x from (taken ++ on.m ∷ []) user op on.text_of (Some on.sent) asked does_so tt on.amid on.tells
    (subst (λ (rs : List (List Text)). E rs c.failed.result) (sym c.no_rows-rows-in-Ok-Err.ensures.is) (subst (E []) (sym c.failed.ensures.is) on.so))
    (leaves_marked at request before c.args.store.now c.args.command (g.D.Disk.disk from.outside.main) c.fetch.new.store c.fetch.new.command
    (g.D.Disk.disk c.fetch.new.outside.main) c.in-Ok-Err.ensures.marks)
    (λ was session order is files. absurd (makes session order is files))

pub returns-in-Ok-Err-clause-passes : goal.returns-in-Ok-Err-clause-passes
returns-in-Ok-Err-clause-passes g c =
    passes_then g.D.Disk.disk g.P.Plugin.plugin g.K.Sink.sink _ _ (record { outside = c.args.outside.now; sink = c.args.sink.now }) (record { outside = c.fetch.new.outside; sink = c.fetch.new.sink }) (record { outside = c.conclude-in-Ok-Err.new.outside; sink = c.conclude-in-Ok-Err.new.sink })
    (passes_well g.D.Disk.disk g.P.Plugin.plugin g.K.Sink.sink _ _ ⊥ ⊥ (record { outside = c.args.outside.now; sink = c.args.sink.now })
    (record { outside = c.fetch.new.outside; sink = c.fetch.new.sink }) (λ f. cc f) (λ e. e) (λ e. e) c.in-Ok-Err.ensures.passes) c.conclude-in-Ok-Err.ensures.passes

pub returns-in-Ok-Err-clause-idle : goal.returns-in-Ok-Err-clause-idle
returns-in-Ok-Err-clause-idle g c r none nothing refused =
    let rows = c.args.store.now in
    let its = subst (λ (k : Cat). Sends k (user_name k c.args.command.user) c.args.path.now (option_copied c.args.asked) c.in-Ok.file) c.tables.ensures
    c.in-Ok.ensures in
    absurd (got_refused (grid_of rows.cat) (user_name rows.cat c.args.command.user) c.args.path.now (option_copied c.args.asked) its.from its.is r refused)

pub returns-in-Ok-Err-clause-vaults : goal.returns-in-Ok-Err-clause-vaults
returns-in-Ok-Err-clause-vaults g c place none is = c.conclude-in-Ok-Err.ensures.vaults place is

pub returns-in-Ok-Err-clause-drawn : goal.returns-in-Ok-Err-clause-drawn
returns-in-Ok-Err-clause-drawn g c each most = omega (arith, c.fetch.ensures.drawn each most, c.conclude-in-Ok-Err.ensures.drawn, draws_five each c.args.after)

-- ---- it was cut short

pub returns-in-Err-fetch-clause-executes : goal.returns-in-Err-fetch-clause-executes
returns-in-Err-fetch-clause-executes g c source at request before x from taken p asked does_so after amid behind begins makes =
    c.in-Err-fetch.ensures.fetches source at request before x from taken p (begun_by c.args.after) asked does_so amid behind

pub returns-in-Err-fetch-clause-passes : goal.returns-in-Err-fetch-clause-passes
returns-in-Err-fetch-clause-passes g c =
    passes_err g.D.Disk.disk g.P.Plugin.plugin g.K.Sink.sink c.in-Err-fetch.ending (record { outside = c.args.outside.now; sink = c.args.sink.now }) (record { outside = c.fetch.new.outside; sink = c.fetch.new.sink }) c.in-Err-fetch.ensures.passes

pub returns-in-Err-fetch-clause-idle : goal.returns-in-Err-fetch-clause-idle
returns-in-Err-fetch-clause-idle g c r none nothing refused =
    let rows = c.args.store.now in
    let its = subst (λ (k : Cat). Sends k (user_name k c.args.command.user) c.args.path.now (option_copied c.args.asked) c.in-Ok.file) c.tables.ensures
    c.in-Ok.ensures in
    absurd (got_refused (grid_of rows.cat) (user_name rows.cat c.args.command.user) c.args.path.now (option_copied c.args.asked) its.from its.is r refused)

pub returns-in-Err-fetch-clause-vaults : goal.returns-in-Err-fetch-clause-vaults
returns-in-Err-fetch-clause-vaults g c place none is =
    c.in-Err-fetch.ensures.vaults place (error_as c.in-Err-fetch.ending (ending.Worn wear.Vaults place) is)

pub returns-in-Err-fetch-clause-drawn : goal.returns-in-Err-fetch-clause-drawn
returns-in-Err-fetch-clause-drawn g c each most = omega (arith, c.fetch.ensures.drawn each most)
