use Rattle.std.proofs.Common.{sym, ap, ◌∙◌, subst}
use Rattle.grid_model.specs.RowGrids.{grid_of, user_name}
use Rattle.grid_model.specs.declared.requests.Verb.{Verb}
use Rattle.point_laws.specs.Works.{Work, operation}
use Rattle.row_run.specs.Verbs.{HasGoodWords, IsWordIfAny}
use Rattle.service_run.specs.Commands.{place_by}
use Rattle.work_run.specs.Behind.{IsBehind, from_work}
use Rattle.work_run.specs.Pointed.{begun_by}
use Rattle.work_run.specs.Verbs.{IsIdle, MayMakeFile, WorksAs}
use Rattle.work_run.specs.Works.{DoesSo, MakesFilesBy}
use Rattle.grid_model.specs.Operations.Table.{get as get_of, row}
use Rattle.work_run.proofs.Deeds.{call_as, get_as, has_op, idle_call, makes_call, query_as}
use Rattle.work_run.proofs.between.do_work.Goals as goal

-- ---- a call

pub call_for-requires-clause-held : goal.call_for-requires-clause-held
call_for-requires-clause-held g c = c.requires.held

pub call_for-requires-clause-user : goal.call_for-requires-clause-user
call_for-requires-clause-user g c = c.requires.user

pub call_for-requires-clause-name : goal.call_for-requires-clause-name
call_for-requires-clause-name g c = c.requires.name

pub call_for-requires-clause-keepable : goal.call_for-requires-clause-keepable
call_for-requires-clause-keepable g c = c.requires.keepable

pub call_for-requires-clause-slots : goal.call_for-requires-clause-slots
call_for-requires-clause-slots g c = c.requires.slots

pub call_for-requires-clause-checked : goal.call_for-requires-clause-checked
call_for-requires-clause-checked g c = c.requires.checked

pub call_for-requires-clause-ready : goal.call_for-requires-clause-ready
call_for-requires-clause-ready g c = c.requires.ready

pub call_for-requires-clause-words : goal.call_for-requires-clause-words
call_for-requires-clause-words g c = c.requires.words

pub call_for-requires-clause-verb : goal.call_for-requires-clause-verb
call_for-requires-clause-verb g c = has_op c.args.verb.now c.args.body.now (sym c.is_call.ensures ∙ c.if-is_call.true) c.requires.verb

pub call_for-requires-clause-call : goal.call_for-requires-clause-call
call_for-requires-clause-call g c = sym c.is_call.ensures ∙ c.if-is_call.true

pub returns-then-is_call-clause-executes : goal.returns-then-is_call-clause-executes
returns-then-is_call-clause-executes g c source at request before x from taken w p asked works does_so after amid behind begins makes =
    let its = call_as c.args.verb.now c.args.body.now w (sym c.is_call.ensures ∙ c.if-is_call.true) works in
    let user = user_name c.args.store.now.cat c.args.command.user in
    c.call_for.ensures.executes source at request before x from taken its.0 p asked its.2
    (subst (λ (v : Work). DoesSo at request user v) its.1 does_so) after amid
    (subst (λ (v : Work). IsBehind at request taken (place_by c.args.store.now.cat c.args.command) (begun_by c.args.after) (from_work at p user v)) its.1 behind)
    begins (subst (MakesFilesBy request) its.1 makes)

pub returns-then-is_call-clause-passes : goal.returns-then-is_call-clause-passes
returns-then-is_call-clause-passes g c = c.call_for.ensures.passes

pub returns-then-is_call-clause-idle : goal.returns-then-is_call-clause-idle
returns-then-is_call-clause-idle g c none nothing idle =
    let its = idle_call (grid_of c.args.store.now.cat) (user_name c.args.store.now.cat c.args.command.user) c.args.verb.now c.args.body.now
    (sym c.is_call.ensures ∙ c.if-is_call.true) idle in
    c.call_for.ensures.idle its.0 its.2 its.1 none nothing its.3

pub returns-then-is_call-clause-files : goal.returns-then-is_call-clause-files
returns-then-is_call-clause-files g c count place none is =
    makes_call count c.args.verb.now c.args.body.now (sym c.is_call.ensures ∙ c.if-is_call.true) (λ op works. c.call_for.ensures.files op count place works none is)

pub returns-then-is_call-clause-drawn : goal.returns-then-is_call-clause-drawn
returns-then-is_call-clause-drawn g c = c.call_for.ensures.drawn

-- ---- a get

pub get_for-requires-clause-held : goal.get_for-requires-clause-held
get_for-requires-clause-held g c = c.requires.held

pub get_for-requires-clause-user : goal.get_for-requires-clause-user
get_for-requires-clause-user g c = c.requires.user

pub get_for-requires-clause-name : goal.get_for-requires-clause-name
get_for-requires-clause-name g c = c.requires.name

pub get_for-requires-clause-keepable : goal.get_for-requires-clause-keepable
get_for-requires-clause-keepable g c = c.requires.keepable

pub get_for-requires-clause-slots : goal.get_for-requires-clause-slots
get_for-requires-clause-slots g c = c.requires.slots

pub get_for-requires-clause-checked : goal.get_for-requires-clause-checked
get_for-requires-clause-checked g c = c.requires.checked

pub get_for-requires-clause-ready : goal.get_for-requires-clause-ready
get_for-requires-clause-ready g c = c.requires.ready

pub get_for-requires-clause-asked : goal.get_for-requires-clause-asked
get_for-requires-clause-asked g c = subst IsWordIfAny (sym c.as_ref.ensures.value) (subst HasGoodWords c.in-Get.is c.requires.words)

pub returns-in-Get-clause-executes : goal.returns-in-Get-clause-executes
returns-in-Get-clause-executes g c source at request before x from taken w p asked works does_so after amid behind begins makes =
    let its = get_as c.in-Get.path c.in-Get.resource c.args.body.now w (subst (λ (v : Verb). WorksAs v c.args.body.now w) c.in-Get.is works)
    ∙ ap (λ r. operation (get_of c.in-Get.path r)) (sym c.as_ref.ensures.value) in
    let user = user_name c.args.store.now.cat c.args.command.user in
    c.get_for.ensures.executes source at request before x from taken p asked (subst (λ (v : Work). DoesSo at request user v) its does_so) after amid
    (subst (λ (v : Work). IsBehind at request taken (place_by c.args.store.now.cat c.args.command) (begun_by c.args.after) (from_work at p user v)) its behind)
    begins (subst (MakesFilesBy request) its makes)

pub returns-in-Get-clause-passes : goal.returns-in-Get-clause-passes
returns-in-Get-clause-passes g c = c.get_for.ensures.passes

pub returns-in-Get-clause-idle : goal.returns-in-Get-clause-idle
returns-in-Get-clause-idle g c none nothing idle =
    let g_old = grid_of c.args.store.now.cat in
    let user = user_name c.args.store.now.cat c.args.command.user in
    let its = subst (λ (v : Verb). IsIdle g_old user v c.args.body.now) c.in-Get.is idle in
    c.get_for.ensures.idle its.2 none nothing (ap (row g_old user) (sym (its.1 ∙ ap (get_of c.in-Get.path) (sym c.as_ref.ensures.value))) ∙ its.3)

pub returns-in-Get-clause-files : goal.returns-in-Get-clause-files
returns-in-Get-clause-files g c count place none is =
    subst (λ (v : Verb). MayMakeFile count v c.args.body.now) (sym c.in-Get.is) (λ op works. absurd (c.get_for.ensures.vaults place none is))

pub returns-in-Get-clause-drawn : goal.returns-in-Get-clause-drawn
returns-in-Get-clause-drawn g c = c.get_for.ensures.drawn

-- ---- a query

pub show_for-requires-clause-held : goal.show_for-requires-clause-held
show_for-requires-clause-held g c = c.requires.held

pub show_for-requires-clause-user : goal.show_for-requires-clause-user
show_for-requires-clause-user g c = c.requires.user

pub show_for-requires-clause-name : goal.show_for-requires-clause-name
show_for-requires-clause-name g c = c.requires.name

pub show_for-requires-clause-keepable : goal.show_for-requires-clause-keepable
show_for-requires-clause-keepable g c = c.requires.keepable

pub show_for-requires-clause-slots : goal.show_for-requires-clause-slots
show_for-requires-clause-slots g c = c.requires.slots

pub show_for-requires-clause-checked : goal.show_for-requires-clause-checked
show_for-requires-clause-checked g c = c.requires.checked

pub show_for-requires-clause-ready : goal.show_for-requires-clause-ready
show_for-requires-clause-ready g c = c.requires.ready

pub returns-in-Query-clause-executes : goal.returns-in-Query-clause-executes
returns-in-Query-clause-executes g c source at request before x from taken w p asked works does_so after amid behind begins makes =
    let its = query_as c.in-Query.text c.args.body.now w (subst (λ (v : Verb). WorksAs v c.args.body.now w) c.in-Query.is works) in
    let user = user_name c.args.store.now.cat c.args.command.user in
    c.show_for.ensures.executes source at request before x from taken its.0 p asked its.2 (subst (λ (v : Work). DoesSo at request user v) its.1 does_so) after
    amid
    (subst (λ (v : Work). IsBehind at request taken (place_by c.args.store.now.cat c.args.command) (begun_by c.args.after) (from_work at p user v)) its.1 behind)
    begins (subst (MakesFilesBy request) its.1 makes)

pub returns-in-Query-clause-passes : goal.returns-in-Query-clause-passes
returns-in-Query-clause-passes g c = c.show_for.ensures.passes

pub returns-in-Query-clause-idle : goal.returns-in-Query-clause-idle
returns-in-Query-clause-idle g c none nothing idle = c.show_for.ensures.idle none nothing

pub returns-in-Query-clause-files : goal.returns-in-Query-clause-files
returns-in-Query-clause-files g c count place none is =
    subst (λ (v : Verb). MayMakeFile count v c.args.body.now) (sym c.in-Query.is) (absurd (c.show_for.ensures.vaults place none is))

pub returns-in-Query-clause-drawn : goal.returns-in-Query-clause-drawn
returns-in-Query-clause-drawn g c = c.show_for.ensures.drawn
