use Rattle.std.proofs.Common.{◌+◌, ◌^◌, List, None, refl, sym, subst, arith}
use Rattle.grid_model.specs.Names.{Text}
use Rattle.grid_model.specs.RowGrids.{grid_of, user_name}
use Rattle.grid_model.specs.declared.refusal.Refusal.TheVariants.{BadQuery}
use Rattle.grid_model.specs.declared.replies.End.TheVariants as end
use Rattle.grid_deed.proofs.Keeping.{made_more}
use Rattle.point_laws.specs.Works.{query}
use Rattle.service_run.specs.Commands.{place_by}
use Rattle.service_run.specs.Steps.{lines_of}
use Rattle.rule_run.proofs.Ended.{ready_less}
use Rattle.rule_run.proofs.Passing.{passes_none}
use Rattle.work_run.specs.Answers.{AreWords, IsAnswer}
use Rattle.work_run.specs.Behind.{IsEnded}
use Rattle.work_run.specs.Pointed.{begun_by, draws_by}
use Rattle.work_run.specs.Telling.{tells_lines}
use Rattle.work_run.proofs.Cut.{cut_here}
use Rattle.work_run.proofs.Deeds.{query_so}
use Rattle.work_run.proofs.Nothing.{leaves_still}
use Rattle.work_run.proofs.Shown.{shown_refused, shown_rows}
use Rattle.work_run.proofs.showing.show_for.Goals as goal
use Rattle.size_laws.proofs.Moments.{takes_some}

pub asked_rows-requires-clause-sound : goal.asked_rows-requires-clause-sound
asked_rows-requires-clause-sound g c = c.requires.held.1.sound

pub asked_rows-requires-clause-made : goal.asked_rows-requires-clause-made
asked_rows-requires-clause-made g c =
    made_more c.requires.held.0 c.args.store.now.cat c.args.store.now.staged c.requires.held.1.made c.requires.held.1.staged

pub asked_rows-requires-clause-user : goal.asked_rows-requires-clause-user
asked_rows-requires-clause-user g c = c.requires.user

-- ---- there was no memory

pub returns-in-Err-clause-executes : goal.returns-in-Err-clause-executes
returns-in-Err-clause-executes g c source at request before x from taken q p asked reads does_so after amid behind begins makes =
    cut_here g.D.Disk.disk g.A.Ambient.ambient g.P.Plugin.plugin g.K.Sink.sink source at request before x asked from (user_name c.args.store.now.cat c.args.command.user) (query q) p (begun_by c.args.after) (record { outside = c.args.outside.now; sink = c.args.sink.now })
    c.args.command c.args.store.now taken amid behind does_so (query_so c.args.text.now q reads) c.works_end_by_rows.ensures
    c.works_take_in_order.ensures c.works_send_behind.ensures c.work_ends.ensures c.args.store.now

pub returns-in-Err-clause-passes : goal.returns-in-Err-clause-passes
returns-in-Err-clause-passes g c =
    passes_none g.D.Disk.disk g.P.Plugin.plugin g.K.Sink.sink _ _ (λ f. cc f) (λ f. cc f) (record { outside = c.args.outside.now; sink = c.args.sink.now })

pub returns-in-Err-clause-idle : goal.returns-in-Err-clause-idle
returns-in-Err-clause-idle g c none nothing = (refl, refl)

pub returns-in-Err-clause-vaults : goal.returns-in-Err-clause-vaults
returns-in-Err-clause-vaults g c place none is = absurd (cc is)

pub returns-in-Err-clause-drawn : goal.returns-in-Err-clause-drawn
returns-in-Err-clause-drawn g c each most = omega arith

-- ---- it has rows

pub finish_work-requires-clause-held : goal.finish_work-requires-clause-held
finish_work-requires-clause-held g c = c.requires.held

pub finish_work-requires-clause-user : goal.finish_work-requires-clause-user
finish_work-requires-clause-user g c = c.requires.user

pub finish_work-requires-clause-name : goal.finish_work-requires-clause-name
finish_work-requires-clause-name g c = c.requires.name

pub finish_work-requires-clause-keepable : goal.finish_work-requires-clause-keepable
finish_work-requires-clause-keepable g c = c.requires.keepable

pub finish_work-requires-clause-slots : goal.finish_work-requires-clause-slots
finish_work-requires-clause-slots g c = c.requires.slots

pub finish_work-requires-clause-checked : goal.finish_work-requires-clause-checked
finish_work-requires-clause-checked g c = c.requires.checked

pub finish_work-requires-clause-shown : goal.finish_work-requires-clause-shown
finish_work-requires-clause-shown g c = c.no_words-words.ensures.words

pub finish_work-requires-clause-rows : goal.finish_work-requires-clause-rows
finish_work-requires-clause-rows g c = subst AreWords c.in-Rows.is c.in-Ok.ensures.words

pub finish_work-requires-clause-ready : goal.finish_work-requires-clause-ready
finish_work-requires-clause-ready g c =
    ready_less g.D.Disk.disk g.P.Plugin.plugin g.K.Sink.sink (record { outside = c.args.outside.now; sink = c.args.sink.now }) (2 ^ 65 + draws_by (2 ^ 65) c.args.after) (draws_by (2 ^ 65) c.args.after) (omega arith) c.requires.ready

pub returns-in-Rows-clause-executes : goal.returns-in-Rows-clause-executes
returns-in-Rows-clause-executes g c source at request before x from taken q p asked reads does_so after amid behind begins makes =
    let rows = c.args.store.now in
    let user = user_name rows.cat c.args.command.user in
    let its = subst (IsAnswer (grid_of rows.cat) user q) c.in-Rows.is (c.in-Ok.ensures.is q reads) in
    c.finish_work.ensures.executes source at request before x from taken user (query q) p (lines_of x.number) None asked does_so
    (query_so c.args.text.now q reads) after amid (tells_lines refl refl)
    (shown_rows at request user q p taken (place_by rows.cat c.args.command) (begun_by c.args.after) behind its.0 its.1 c.no_words-words.result
    c.no_words-words.ensures.is c.in-Rows.rows its.2)
    (leaves_still at request before rows c.args.command (g.D.Disk.disk from.outside.main) (g.D.Disk.disk c.args.outside.now.main) begins)
    (λ session order is files. absurd (makes session order is files))

pub returns-in-Rows-clause-passes : goal.returns-in-Rows-clause-passes
returns-in-Rows-clause-passes g c = c.finish_work.ensures.passes

pub returns-in-Rows-clause-idle : goal.returns-in-Rows-clause-idle
returns-in-Rows-clause-idle g c none nothing = c.finish_work.ensures.idle none nothing

pub returns-in-Rows-clause-vaults : goal.returns-in-Rows-clause-vaults
returns-in-Rows-clause-vaults g c place none is = c.finish_work.ensures.vaults place none is

pub returns-in-Rows-clause-drawn : goal.returns-in-Rows-clause-drawn
returns-in-Rows-clause-drawn g c each most = omega (arith, c.finish_work.ensures.drawn each most)

-- ---- it is none

pub conclude-requires-clause-held : goal.conclude-requires-clause-held
conclude-requires-clause-held g c = c.requires.held

pub conclude-requires-clause-writable : goal.conclude-requires-clause-writable
conclude-requires-clause-writable g c = refl

pub conclude-requires-clause-rows : goal.conclude-requires-clause-rows
conclude-requires-clause-rows g c = c.no_rows-rows.ensures.words

pub conclude-requires-clause-ready : goal.conclude-requires-clause-ready
conclude-requires-clause-ready g c =
    ready_less g.D.Disk.disk g.P.Plugin.plugin g.K.Sink.sink (record { outside = c.args.outside.now; sink = c.args.sink.now }) (2 ^ 65 + draws_by (2 ^ 65) c.args.after) 5 (omega arith) c.requires.ready

pub returns-in-Refused-clause-executes : goal.returns-in-Refused-clause-executes
returns-in-Refused-clause-executes g c source at request before x from taken q p asked reads does_so after amid behind begins makes =
    let rows = c.args.store.now in
    let user = user_name rows.cat c.args.command.user in
    let place = place_by rows.cat c.args.command in
    let its = subst (IsAnswer (grid_of rows.cat) user q) c.in-Refused.is (c.in-Ok.ensures.is q reads) in
    c.conclude.ensures.executes source at request before x from taken user (query q) (lines_of x.number) None asked does_so
    (query_so c.args.text.now q reads) amid (tells_lines refl refl)
    (subst (λ (rs : List (List Text)). IsEnded at request taken place rs None (end.Refused (BadQuery c.in-Refused.at))) (sym c.no_rows-rows.ensures.is)
    (shown_refused at request user q p taken place (begun_by c.args.after) behind (BadQuery c.in-Refused.at) its))
    (leaves_still at request before rows c.args.command (g.D.Disk.disk from.outside.main) (g.D.Disk.disk c.args.outside.now.main) begins)
    (λ was session order is files. absurd (makes session order is files))

pub returns-in-Refused-clause-passes : goal.returns-in-Refused-clause-passes
returns-in-Refused-clause-passes g c = c.conclude.ensures.passes

pub returns-in-Refused-clause-idle : goal.returns-in-Refused-clause-idle
returns-in-Refused-clause-idle g c none nothing = (c.conclude.ensures.idle nothing, c.conclude.ensures.stores)

pub returns-in-Refused-clause-vaults : goal.returns-in-Refused-clause-vaults
returns-in-Refused-clause-vaults g c place none is = c.conclude.ensures.vaults place is

pub returns-in-Refused-clause-drawn : goal.returns-in-Refused-clause-drawn
returns-in-Refused-clause-drawn g c each most = omega (arith, c.conclude.ensures.drawn, takes_some (grid_of c.args.store.now.cat) each most)
