use Rattle.std.proofs.Common.{◌≡◌, ◌+◌, ◌≤◌, ◌^◌, List, [], ◌++◌, None, Ok, Err, IsTrue, refl, sym, ap, ◌∙◌, subst, arith}
use Rattle.grid_outside.specs.declared.outside.Outside.{Outside}
use Rattle.grid_model.specs.Applying.{IsMade}
use Rattle.grid_model.specs.Names.{Text}
use Rattle.grid_model.specs.RowGrids.{grid_of, user_name}
use Rattle.grid_model.specs.Rows.{Cat}
use Rattle.grid_model.specs.Working.{running, words_of}
use Rattle.deed_run.specs.Puts.{does_op}
use Rattle.run_laws.specs.Around.{around}
use Rattle.grid_model.specs.declared.replies.End.{End}
use Rattle.grid_deed.proofs.Keeping.{made_more}
use Rattle.grid_headline.specs.Ends.{WasDone}
use Rattle.grid_headline.specs.Numbers.{last_vault}
use Rattle.service_run.specs.Commands.{place_by}
use Rattle.service_run.specs.Steps.{lines_of}
use Rattle.service_run.specs.declared.ending.Ending.TheVariants as ending
use Rattle.grid_outside.specs.declared.outside.Wear.TheVariants as wear
use Rattle.call_laws.proofs.Joined.{passes_then, passes_well}
use Rattle.rule_run.proofs.Ended.{passes_err, ready_after, ready_less}
use Rattle.rule_run.proofs.Passing.{passes_none}
use Rattle.work_run.specs.Behind.{IsBehind, IsEnded, Said, from_worked}
use Rattle.point_laws.specs.Works.{operation}
use Rattle.work_run.specs.Pointed.{AreFor, begun_by, draws_by}
use Rattle.work_run.specs.Telling.{tells_lines}
use Rattle.work_run.proofs.Called.{cut_there, is_on}
use Rattle.work_run.proofs.Cut.{cut_here}
use Rattle.work_run.proofs.Deeds.{not_done, works_silent}
use Rattle.work_run.proofs.Nothing.{leaves_call, same_nothing}
use Rattle.work_run.proofs.VaultNeeds.{draws_five, error_as}
use Rattle.work_run.proofs.Answered.{step_as}
use Rattle.work_run.proofs.calling.call_for.Goals as goal
use Rattle.size_laws.proofs.Moments.{takes_where}
use Rattle.size_laws.specs.Within.{many}
use Rattle.work_run.proofs.Next.{no_source}

pub op_words-requires-clause-made : goal.op_words-requires-clause-made
op_words-requires-clause-made g c =
    let store = c.args.store.now in
    subst IsMade (sym c.tables.ensures) (made_more c.requires.held.0 store.cat store.staged c.requires.held.1.made c.requires.held.1.staged)

pub op_words-requires-clause-call : goal.op_words-requires-clause-call
op_words-requires-clause-call g c = c.requires.call

-- ---- there was no memory for its words

pub returns-in-Err-clause-executes : goal.returns-in-Err-clause-executes
returns-in-Err-clause-executes g c source at request before x from taken op p asked works does_so after amid behind begins makes =
    cut_here g.D.Disk.disk g.A.Ambient.ambient g.P.Plugin.plugin g.K.Sink.sink source at request before x asked from
    (user_name c.args.store.now.cat c.args.command.user) (operation op) p (begun_by c.args.after)
    (record { outside = c.args.outside.now; sink = c.args.sink.now }) c.args.command c.args.store.now taken amid behind does_so tt
    c.works_end_by_rows.ensures c.works_take_in_order.ensures c.works_send_behind.ensures c.work_ends.ensures c.args.store.now

pub returns-in-Err-clause-passes : goal.returns-in-Err-clause-passes
returns-in-Err-clause-passes g c =
    passes_none g.D.Disk.disk g.P.Plugin.plugin g.K.Sink.sink _ _ (λ f. cc f) (λ f. cc f) (record { outside = c.args.outside.now; sink = c.args.sink.now })

-- ---- the operation

pub work-requires-clause-held : goal.work-requires-clause-held
work-requires-clause-held g c = c.requires.held

pub work-requires-clause-user : goal.work-requires-clause-user
work-requires-clause-user g c = c.requires.user

pub work-requires-clause-keepable : goal.work-requires-clause-keepable
work-requires-clause-keepable g c = c.requires.keepable

pub work-requires-clause-slots : goal.work-requires-clause-slots
work-requires-clause-slots g c = c.requires.slots

pub work-requires-clause-words : goal.work-requires-clause-words
work-requires-clause-words g c = c.requires.words

pub work-requires-clause-verb : goal.work-requires-clause-verb
work-requires-clause-verb g c = c.requires.verb

pub work-requires-clause-call : goal.work-requires-clause-call
work-requires-clause-call g c = c.requires.call

pub work-requires-clause-ready : goal.work-requires-clause-ready
work-requires-clause-ready g c =
    ready_less g.D.Disk.disk g.P.Plugin.plugin g.K.Sink.sink (record { outside = c.args.outside.now; sink = c.args.sink.now })
    (2 ^ 65 + draws_by (2 ^ 65) c.args.after) (2 ^ 65) (omega arith) c.requires.ready

-- ---- it was done

pub finish_work-requires-clause-held : goal.finish_work-requires-clause-held
finish_work-requires-clause-held g c = c.in-Ok-Ok.ensures.next.held

pub finish_work-requires-clause-user : goal.finish_work-requires-clause-user
finish_work-requires-clause-user g c = c.in-Ok-Ok.ensures.next.user

pub finish_work-requires-clause-name : goal.finish_work-requires-clause-name
finish_work-requires-clause-name g c = subst (AreFor c.args.after) (sym c.in-Ok-Ok.ensures.name) c.requires.name

pub finish_work-requires-clause-keepable : goal.finish_work-requires-clause-keepable
finish_work-requires-clause-keepable g c = (c.in-Ok-Ok.ensures.next.words, c.in-Ok-Ok.ensures.next.kept)

pub finish_work-requires-clause-slots : goal.finish_work-requires-clause-slots
finish_work-requires-clause-slots g c =
    omega (
      arith,
      c.in-Ok-Ok.ensures.stores,
      c.requires.slots,
      c.work.ensures.passes.frame.stores.count,
      c.args.outside.now.stores.ok.0,
      c.work.new.outside.stores.ok.0,
    )

pub finish_work-requires-clause-shown : goal.finish_work-requires-clause-shown
finish_work-requires-clause-shown g c = c.in-Ok.ensures.words

pub finish_work-requires-clause-rows : goal.finish_work-requires-clause-rows
finish_work-requires-clause-rows g c = c.no_rows-rows.ensures.words

pub finish_work-requires-clause-checked : goal.finish_work-requires-clause-checked
finish_work-requires-clause-checked g c = c.requires.checked

pub finish_work-requires-clause-ready : goal.finish_work-requires-clause-ready
finish_work-requires-clause-ready g c =
    ready_after g.D.Disk.disk g.P.Plugin.plugin g.K.Sink.sink _ _ (record { outside = c.args.outside.now; sink = c.args.sink.now })
    (record { outside = c.work.new.outside; sink = c.work.new.sink }) (2 ^ 65 + draws_by (2 ^ 65) c.args.after) (draws_by (2 ^ 65) c.args.after)
    c.work.ensures.passes c.requires.ready (omega (arith, c.work.ensures.drawn (2 ^ 65) many))

pub returns-in-Ok-Ok-clause-executes : goal.returns-in-Ok-Ok-clause-executes
returns-in-Ok-Ok-clause-executes g c source at request before x from taken op p asked works does_so after amid behind begins makes =
    let on = is_on g.D.Disk.disk g.A.Ambient.ambient g.P.Plugin.plugin g.K.Sink.sink source at request before x asked from (user_name c.args.store.now.cat c.args.command.user) op
    (works_silent (user_name c.args.store.now.cat c.args.command.user) c.args.verb.now c.args.body.now op c.requires.call works) p (begun_by c.args.after)
    (record { outside = c.args.outside.now; sink = c.args.sink.now }) c.args.command c.args.store.now taken amid behind
    c.requires.ready.outside.main_last refl (record { outside = c.work.new.outside; sink = c.work.new.sink }) c.work.new.command c.work.new.store
    (Ok tt) (passes_well g.D.Disk.disk g.P.Plugin.plugin g.K.Sink.sink _ _ ⊥ ⊥ (record { outside = c.args.outside.now; sink = c.args.sink.now })
    (record { outside = c.work.new.outside; sink = c.work.new.sink }) (λ f. cc f) (λ e. e) (λ e. e) c.in-Ok-Ok.ensures.passes)
    (step_as c.in-Ok-Ok.field-0 (Ok tt) c.in-Ok-Ok.field-0-is (c.in-Ok-Ok.ensures.step source amid.holds.cat op amid.holds.held works)) in
    let user = user_name c.args.store.now.cat c.args.command.user in
    let said : Said = record { words = words_of (grid_of c.args.store.now.cat) user op; rows = []; sent = None } in
    let words : said.words ≡ c.in-Ok.words
    = sym (c.in-Ok.ensures.is c.args.body.now op user works ∙ ap (λ (k : Cat). words_of (grid_of k) user op) c.tables.ensures) in
    let rows : said.rows ≡ c.no_rows-rows.result = sym c.no_rows-rows.ensures.is in
    c.finish_work.ensures.executes source at request before x from (taken ++ on.more) user (operation op) p (lines_of x.number) None asked does_so tt after
    on.amid_so (tells_lines refl refl)
    (subst (λ (s : Said). IsBehind at request (taken ++ on.more) (place_by c.work.new.store.cat c.work.new.command) (begun_by c.args.after)
    (from_worked at p s)) (λ i. record { words = words i; rows = rows i; sent = None }) on.so)
    (leaves_call at request before c.args.store.now c.args.command (g.D.Disk.disk from.outside.main)
    (around g.D.Disk.disk g.A.Ambient.ambient g.P.Plugin.plugin c.args.outside.now (g.K.Sink.sink c.args.sink.now) source)
    (around g.D.Disk.disk g.A.Ambient.ambient g.P.Plugin.plugin c.work.new.outside (g.K.Sink.sink c.work.new.sink) source) amid.holds.cat (running op) []
    c.work.new.command c.work.new.store (does_op user op) (Ok tt)
    (step_as c.in-Ok-Ok.field-0 (Ok tt) c.in-Ok-Ok.field-0-is (c.in-Ok-Ok.ensures.step source amid.holds.cat op amid.holds.held works)).ends
    c.in-Ok-Ok.ensures.quiet begins (λ told. subst IsTrue (sym amid.passes.frame.main.tells) told))
    (λ session order is files.
    (let left : c.args.store.now.cat.numbers.next_vault ≤ last_vault = c.in-Ok-Ok.ensures.number op works (makes session order is files) in
    omega (arith, left, amid.beside.keeps.rises)))

pub returns-in-Ok-Ok-clause-idle : goal.returns-in-Ok-Ok-clause-idle
returns-in-Ok-Ok-clause-idle g c op r works none nothing refused =
    let its = c.work.ensures.refused op r works refused in
    let still = c.finish_work.ensures.idle none
    (same_nothing c.args.store.now c.args.command c.work.new.store c.work.new.command its.0 its.2 nothing) in (
      still.0 ∙ ap (λ (o : Outside g.row.D.Denot g.row.A.Denot g.row.P.Denot). o.main) its.1,
      still.1 ∙ ap (λ (o : Outside g.row.D.Denot g.row.A.Denot g.row.P.Denot). o.stores) its.1,
    )

pub returns-in-Ok-Ok-clause-files : goal.returns-in-Ok-Ok-clause-files
returns-in-Ok-Ok-clause-files g c op count place works none is = absurd (c.finish_work.ensures.vaults place none is)

pub returns-in-Ok-Ok-clause-passes : goal.returns-in-Ok-Ok-clause-passes
returns-in-Ok-Ok-clause-passes g c =
    passes_then g.D.Disk.disk g.P.Plugin.plugin g.K.Sink.sink _ _ (record { outside = c.args.outside.now; sink = c.args.sink.now })
    (record { outside = c.work.new.outside; sink = c.work.new.sink }) (record { outside = c.finish_work.new.outside; sink = c.finish_work.new.sink })
    (passes_well g.D.Disk.disk g.P.Plugin.plugin g.K.Sink.sink _ _ ⊥ ⊥ (record { outside = c.args.outside.now; sink = c.args.sink.now })
    (record { outside = c.work.new.outside; sink = c.work.new.sink }) (λ f. cc f) (λ e. e) (λ e. e) c.in-Ok-Ok.ensures.passes) c.finish_work.ensures.passes

pub returns-in-Ok-Ok-clause-drawn : goal.returns-in-Ok-Ok-clause-drawn
returns-in-Ok-Ok-clause-drawn g c each most =
    let step = step_as c.in-Ok-Ok.field-0 (Ok tt) c.in-Ok-Ok.field-0-is
    (c.in-Ok-Ok.ensures.step no_source c.requires.held.0 c.requires.verb.0 c.requires.held.1 c.requires.verb.1) in
    omega (
      arith,
      c.work.ensures.drawn each most,
      c.finish_work.ensures.drawn each (takes_where (grid_of c.args.store.now.cat) (grid_of c.work.new.store.cat) each step.ends.beside.within most),
    )

-- ---- it failed

pub conclude-requires-clause-held : goal.conclude-requires-clause-held
conclude-requires-clause-held g c = c.in-Ok-Err.ensures.next.held

pub conclude-requires-clause-writable : goal.conclude-requires-clause-writable
conclude-requires-clause-writable g c = c.failed.ensures.writable

pub conclude-requires-clause-rows : goal.conclude-requires-clause-rows
conclude-requires-clause-rows g c = c.no_rows-rows-in-Ok-Err.ensures.words

pub conclude-requires-clause-ready : goal.conclude-requires-clause-ready
conclude-requires-clause-ready g c =
    ready_after g.D.Disk.disk g.P.Plugin.plugin g.K.Sink.sink _ _ (record { outside = c.args.outside.now; sink = c.args.sink.now })
    (record { outside = c.work.new.outside; sink = c.work.new.sink }) (2 ^ 65 + draws_by (2 ^ 65) c.args.after) 5 c.work.ensures.passes c.requires.ready
    (omega (arith, c.work.ensures.drawn (2 ^ 65) many, draws_five (2 ^ 65) c.args.after))

pub returns-in-Ok-Err-clause-executes : goal.returns-in-Ok-Err-clause-executes
returns-in-Ok-Err-clause-executes g c source at request before x from taken op p asked works does_so after amid behind begins makes =
    let on = is_on g.D.Disk.disk g.A.Ambient.ambient g.P.Plugin.plugin g.K.Sink.sink source at request before x asked from (user_name c.args.store.now.cat c.args.command.user) op
    (works_silent (user_name c.args.store.now.cat c.args.command.user) c.args.verb.now c.args.body.now op c.requires.call works) p (begun_by c.args.after)
    (record { outside = c.args.outside.now; sink = c.args.sink.now }) c.args.command c.args.store.now taken amid behind
    c.requires.ready.outside.main_last refl (record { outside = c.work.new.outside; sink = c.work.new.sink }) c.work.new.command c.work.new.store
    (Err c.in-Ok-Err.failure) (passes_well g.D.Disk.disk g.P.Plugin.plugin g.K.Sink.sink _ _ ⊥ ⊥ (record { outside = c.args.outside.now; sink = c.args.sink.now })
    (record { outside = c.work.new.outside; sink = c.work.new.sink }) (λ f. cc f) (λ e. e) (λ e. e) c.in-Ok-Err.ensures.passes)
    (step_as c.in-Ok-Err.field-0 (Err c.in-Ok-Err.failure) c.in-Ok-Err.field-0-is
    (c.in-Ok-Err.ensures.step source amid.holds.cat op amid.holds.held works)) in
    let user = user_name c.args.store.now.cat c.args.command.user in
    let E : List (List Text) → End → Type 0 = λ rs e.
    IsEnded at request (taken ++ on.more) (place_by c.work.new.store.cat c.work.new.command) rs None e in
    c.conclude.ensures.executes source at request before x from (taken ++ on.more) user (operation op) (lines_of x.number) None asked does_so tt on.amid_so
    (tells_lines refl refl)
    (subst (λ (rs : List (List Text)). E rs c.failed.result) (sym c.no_rows-rows-in-Ok-Err.ensures.is) (subst (E []) (sym c.failed.ensures.is) on.so))
    (leaves_call at request before c.args.store.now c.args.command (g.D.Disk.disk from.outside.main)
    (around g.D.Disk.disk g.A.Ambient.ambient g.P.Plugin.plugin c.args.outside.now (g.K.Sink.sink c.args.sink.now) source)
    (around g.D.Disk.disk g.A.Ambient.ambient g.P.Plugin.plugin c.work.new.outside (g.K.Sink.sink c.work.new.sink) source) amid.holds.cat (running op) []
    c.work.new.command c.work.new.store (does_op user op) (Err c.in-Ok-Err.failure)
    (step_as c.in-Ok-Err.field-0 (Err c.in-Ok-Err.failure) c.in-Ok-Err.field-0-is
    (c.in-Ok-Err.ensures.step source amid.holds.cat op amid.holds.held works)).ends
    c.in-Ok-Err.ensures.quiet begins (λ told. subst IsTrue (sym amid.passes.frame.main.tells) told))
    (λ was. absurd (not_done c.in-Ok-Err.failure (subst WasDone c.failed.ensures.is was)))

pub returns-in-Ok-Err-clause-idle : goal.returns-in-Ok-Err-clause-idle
returns-in-Ok-Err-clause-idle g c op r works none nothing refused =
    let its = c.work.ensures.refused op r works refused in (
      c.conclude.ensures.idle (same_nothing c.args.store.now c.args.command c.work.new.store c.work.new.command its.0 its.2 nothing)
          ∙ ap (λ (o : Outside g.row.D.Denot g.row.A.Denot g.row.P.Denot). o.main) its.1,
      c.conclude.ensures.stores ∙ ap (λ (o : Outside g.row.D.Denot g.row.A.Denot g.row.P.Denot). o.stores) its.1,
    )

pub returns-in-Ok-Err-clause-files : goal.returns-in-Ok-Err-clause-files
returns-in-Ok-Err-clause-files g c op count place works none is = absurd (c.conclude.ensures.vaults place is)

pub returns-in-Ok-Err-clause-passes : goal.returns-in-Ok-Err-clause-passes
returns-in-Ok-Err-clause-passes g c =
    passes_then g.D.Disk.disk g.P.Plugin.plugin g.K.Sink.sink _ _ (record { outside = c.args.outside.now; sink = c.args.sink.now })
    (record { outside = c.work.new.outside; sink = c.work.new.sink }) (record { outside = c.conclude.new.outside; sink = c.conclude.new.sink })
    (passes_well g.D.Disk.disk g.P.Plugin.plugin g.K.Sink.sink _ _ ⊥ ⊥ (record { outside = c.args.outside.now; sink = c.args.sink.now })
    (record { outside = c.work.new.outside; sink = c.work.new.sink }) (λ f. cc f) (λ e. e) (λ e. e) c.in-Ok-Err.ensures.passes) c.conclude.ensures.passes

pub returns-in-Ok-Err-clause-drawn : goal.returns-in-Ok-Err-clause-drawn
returns-in-Ok-Err-clause-drawn g c each most = omega (arith, c.work.ensures.drawn each most, c.conclude.ensures.drawn, draws_five each c.args.after)

-- ---- it was cut short

pub returns-in-Err-work-clause-executes : goal.returns-in-Err-work-clause-executes
returns-in-Err-work-clause-executes g c source at request before x from taken op p asked works does_so after amid behind begins makes =
    cut_there g.D.Disk.disk g.A.Ambient.ambient g.P.Plugin.plugin g.K.Sink.sink source at request before x asked from (user_name c.args.store.now.cat c.args.command.user) op
    (works_silent (user_name c.args.store.now.cat c.args.command.user) c.args.verb.now c.args.body.now op c.requires.call works) p (begun_by c.args.after)
    (record { outside = c.args.outside.now; sink = c.args.sink.now }) c.args.command c.args.store.now taken amid behind
    c.requires.ready.outside.main_last refl (record { outside = c.work.new.outside; sink = c.work.new.sink }) c.work.new.command c.work.new.store does_so
    c.works_end_by_rows.ensures c.works_take_in_order.ensures c.works_send_behind.ensures c.work_ends.ensures c.in-Err-work.ending _ _ c.in-Err-work.ensures.passes
    (c.in-Err-work.ensures.step source amid.holds.cat op amid.holds.held works)

pub returns-in-Err-work-clause-passes : goal.returns-in-Err-work-clause-passes
returns-in-Err-work-clause-passes g c =
    passes_err g.D.Disk.disk g.P.Plugin.plugin g.K.Sink.sink c.in-Err-work.ending (record { outside = c.args.outside.now; sink = c.args.sink.now })
    (record { outside = c.work.new.outside; sink = c.work.new.sink }) c.in-Err-work.ensures.passes

pub returns-in-Err-work-clause-drawn : goal.returns-in-Err-work-clause-drawn
returns-in-Err-work-clause-drawn g c each most = omega (arith, c.work.ensures.drawn each most)

pub returns-in-Err-work-clause-files : goal.returns-in-Err-work-clause-files
returns-in-Err-work-clause-files g c op count place works none is =
    c.in-Err-work.ensures.files op count place works (error_as c.in-Err-work.ending (ending.Worn wear.Vaults place) is)

pub returns-in-Err-work-clause-idle : goal.returns-in-Err-work-clause-idle
returns-in-Err-work-clause-idle g c op r works none nothing refused =
    let its = c.work.ensures.refused op r works refused in (
      ap (λ (o : Outside g.row.D.Denot g.row.A.Denot g.row.P.Denot). o.main) its.1,
      ap (λ (o : Outside g.row.D.Denot g.row.A.Denot g.row.P.Denot). o.stores) its.1,
    )
