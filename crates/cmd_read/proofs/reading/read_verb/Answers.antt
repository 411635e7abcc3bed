use Rattle.std.proofs.Common.{◌≡◌, ◌≢◌, [], ◌++◌, refl}
use Rattle.std.specs.Prelude.{Err, None}
use Rattle.cmd_read.specs.Table.{among, table, of_sessions, of_users, of_resources, of_rules, of_collections, of_objects, of_uploads, of_metadata}
use Rattle.cmd_read.specs.Reading.{ReadsVerb}
use Rattle.cmd_read.specs.Finding.{AsksIn}
use Rattle.cmd_read.specs.declared.error.ReadError.TheVariants.{Memory}
use Rattle.cmd_read.proofs.Finding.{found_ok, found_err, found_none, none_both, told_none, told_some, told_err}
use Rattle.cmd_read.proofs.reading.read_verb.Goals as goal

pub returns-in_err-asked-clause-refused : goal.returns-in_err-asked-clause-refused
returns-in_err-asked-clause-refused c =
    told_err c.from_residual.result (λ why. why ≢ Memory → ReadsVerb (among table c.args.verb.now) c.args.words.now (Err why)) c.in_err-asked.field-0.0 c.from_residual.ensures
    (λ other. found_err [] of_sessions (of_users ++ of_resources ++ of_rules ++ of_collections ++ of_objects ++ of_uploads ++ of_metadata) c.args.verb.now c.args.words.now c.in_err-asked.field-0.0 refl (c.in_err-asked.ensures.refused other))

pub returns-in_err-asked-2-clause-refused : goal.returns-in_err-asked-2-clause-refused
returns-in_err-asked-2-clause-refused c =
    let none_sessions : among of_sessions c.args.verb.now ≡ None = told_none c.in_ok-asked.field-0 (among of_sessions c.args.verb.now ≡ None) c.in_ok-asked.ensures.other c.in_default.is in
    told_err c.from_residual-in_err-asked-2.result (λ why. why ≢ Memory → ReadsVerb (among table c.args.verb.now) c.args.words.now (Err why)) c.in_err-asked-2.field-0.0 c.from_residual-in_err-asked-2.ensures
    (λ other. found_err (of_sessions) of_users (of_resources ++ of_rules ++ of_collections ++ of_objects ++ of_uploads ++ of_metadata) c.args.verb.now c.args.words.now c.in_err-asked-2.field-0.0 (none_sessions) (c.in_err-asked-2.ensures.refused other))

pub returns-in-Some-2-clause-verb : goal.returns-in-Some-2-clause-verb
returns-in-Some-2-clause-verb c =
    let none_sessions : among of_sessions c.args.verb.now ≡ None = told_none c.in_ok-asked.field-0 (among of_sessions c.args.verb.now ≡ None) c.in_ok-asked.ensures.other c.in_default.is in
    found_ok (of_sessions) of_users (of_resources ++ of_rules ++ of_collections ++ of_objects ++ of_uploads ++ of_metadata) c.args.verb.now c.args.words.now c.in-Some-2.asked (none_sessions)
    (told_some c.in_ok-asked-2.field-0 (λ asked. AsksIn (among of_users c.args.verb.now) c.args.words.now asked) c.in-Some-2.asked c.in_ok-asked-2.ensures.verb c.in-Some-2.is)

pub returns-in_err-asked-3-clause-refused : goal.returns-in_err-asked-3-clause-refused
returns-in_err-asked-3-clause-refused c =
    let none_sessions : among of_sessions c.args.verb.now ≡ None = told_none c.in_ok-asked.field-0 (among of_sessions c.args.verb.now ≡ None) c.in_ok-asked.ensures.other c.in_default.is in
    let none_users : among of_users c.args.verb.now ≡ None = told_none c.in_ok-asked-2.field-0 (among of_users c.args.verb.now ≡ None) c.in_ok-asked-2.ensures.other c.in_default-2.is in
    told_err c.from_residual-in_err-asked-3.result (λ why. why ≢ Memory → ReadsVerb (among table c.args.verb.now) c.args.words.now (Err why)) c.in_err-asked-3.field-0.0 c.from_residual-in_err-asked-3.ensures
    (λ other. found_err (of_sessions ++ of_users) of_resources (of_rules ++ of_collections ++ of_objects ++ of_uploads ++ of_metadata) c.args.verb.now c.args.words.now c.in_err-asked-3.field-0.0 (none_both (of_sessions) of_users c.args.verb.now (none_sessions) none_users) (c.in_err-asked-3.ensures.refused other))

pub returns-in-Some-3-clause-verb : goal.returns-in-Some-3-clause-verb
returns-in-Some-3-clause-verb c =
    let none_sessions : among of_sessions c.args.verb.now ≡ None = told_none c.in_ok-asked.field-0 (among of_sessions c.args.verb.now ≡ None) c.in_ok-asked.ensures.other c.in_default.is in
    let none_users : among of_users c.args.verb.now ≡ None = told_none c.in_ok-asked-2.field-0 (among of_users c.args.verb.now ≡ None) c.in_ok-asked-2.ensures.other c.in_default-2.is in
    found_ok (of_sessions ++ of_users) of_resources (of_rules ++ of_collections ++ of_objects ++ of_uploads ++ of_metadata) c.args.verb.now c.args.words.now c.in-Some-3.asked (none_both (of_sessions) of_users c.args.verb.now (none_sessions) none_users)
    (told_some c.in_ok-asked-3.field-0 (λ asked. AsksIn (among of_resources c.args.verb.now) c.args.words.now asked) c.in-Some-3.asked c.in_ok-asked-3.ensures.verb c.in-Some-3.is)

pub returns-in_err-asked-4-clause-refused : goal.returns-in_err-asked-4-clause-refused
returns-in_err-asked-4-clause-refused c =
    let none_sessions : among of_sessions c.args.verb.now ≡ None = told_none c.in_ok-asked.field-0 (among of_sessions c.args.verb.now ≡ None) c.in_ok-asked.ensures.other c.in_default.is in
    let none_users : among of_users c.args.verb.now ≡ None = told_none c.in_ok-asked-2.field-0 (among of_users c.args.verb.now ≡ None) c.in_ok-asked-2.ensures.other c.in_default-2.is in
    let none_resources : among of_resources c.args.verb.now ≡ None = told_none c.in_ok-asked-3.field-0 (among of_resources c.args.verb.now ≡ None) c.in_ok-asked-3.ensures.other c.in_default-3.is in
    told_err c.from_residual-in_err-asked-4.result (λ why. why ≢ Memory → ReadsVerb (among table c.args.verb.now) c.args.words.now (Err why)) c.in_err-asked-4.field-0.0 c.from_residual-in_err-asked-4.ensures
    (λ other. found_err (of_sessions ++ of_users ++ of_resources) of_rules (of_collections ++ of_objects ++ of_uploads ++ of_metadata) c.args.verb.now c.args.words.now c.in_err-asked-4.field-0.0 (none_both (of_sessions ++ of_users) of_resources c.args.verb.now (none_both (of_sessions) of_users c.args.verb.now (none_sessions) none_users) none_resources) (c.in_err-asked-4.ensures.refused other))

pub returns-in-Some-4-clause-verb : goal.returns-in-Some-4-clause-verb
returns-in-Some-4-clause-verb c =
    let none_sessions : among of_sessions c.args.verb.now ≡ None = told_none c.in_ok-asked.field-0 (among of_sessions c.args.verb.now ≡ None) c.in_ok-asked.ensures.other c.in_default.is in
    let none_users : among of_users c.args.verb.now ≡ None = told_none c.in_ok-asked-2.field-0 (among of_users c.args.verb.now ≡ None) c.in_ok-asked-2.ensures.other c.in_default-2.is in
    let none_resources : among of_resources c.args.verb.now ≡ None = told_none c.in_ok-asked-3.field-0 (among of_resources c.args.verb.now ≡ None) c.in_ok-asked-3.ensures.other c.in_default-3.is in
    found_ok (of_sessions ++ of_users ++ of_resources) of_rules (of_collections ++ of_objects ++ of_uploads ++ of_metadata) c.args.verb.now c.args.words.now c.in-Some-4.asked (none_both (of_sessions ++ of_users) of_resources c.args.verb.now (none_both (of_sessions) of_users c.args.verb.now (none_sessions) none_users) none_resources)
    (told_some c.in_ok-asked-4.field-0 (λ asked. AsksIn (among of_rules c.args.verb.now) c.args.words.now asked) c.in-Some-4.asked c.in_ok-asked-4.ensures.verb c.in-Some-4.is)

pub returns-in_err-asked-5-clause-refused : goal.returns-in_err-asked-5-clause-refused
returns-in_err-asked-5-clause-refused c =
    let none_sessions : among of_sessions c.args.verb.now ≡ None = told_none c.in_ok-asked.field-0 (among of_sessions c.args.verb.now ≡ None) c.in_ok-asked.ensures.other c.in_default.is in
    let none_users : among of_users c.args.verb.now ≡ None = told_none c.in_ok-asked-2.field-0 (among of_users c.args.verb.now ≡ None) c.in_ok-asked-2.ensures.other c.in_default-2.is in
    let none_resources : among of_resources c.args.verb.now ≡ None = told_none c.in_ok-asked-3.field-0 (among of_resources c.args.verb.now ≡ None) c.in_ok-asked-3.ensures.other c.in_default-3.is in
    let none_rules : among of_rules c.args.verb.now ≡ None = told_none c.in_ok-asked-4.field-0 (among of_rules c.args.verb.now ≡ None) c.in_ok-asked-4.ensures.other c.in_default-4.is in
    told_err c.from_residual-in_err-asked-5.result (λ why. why ≢ Memory → ReadsVerb (among table c.args.verb.now) c.args.words.now (Err why)) c.in_err-asked-5.field-0.0 c.from_residual-in_err-asked-5.ensures
    (λ other. found_err (of_sessions ++ of_users ++ of_resources ++ of_rules) of_collections (of_objects ++ of_uploads ++ of_metadata) c.args.verb.now c.args.words.now c.in_err-asked-5.field-0.0 (none_both (of_sessions ++ of_users ++ of_resources) of_rules c.args.verb.now (none_both (of_sessions ++ of_users) of_resources c.args.verb.now (none_both (of_sessions) of_users c.args.verb.now (none_sessions) none_users) none_resources) none_rules) (c.in_err-asked-5.ensures.refused other))

pub returns-in-Some-5-clause-verb : goal.returns-in-Some-5-clause-verb
returns-in-Some-5-clause-verb c =
    let none_sessions : among of_sessions c.args.verb.now ≡ None = told_none c.in_ok-asked.field-0 (among of_sessions c.args.verb.now ≡ None) c.in_ok-asked.ensures.other c.in_default.is in
    let none_users : among of_users c.args.verb.now ≡ None = told_none c.in_ok-asked-2.field-0 (among of_users c.args.verb.now ≡ None) c.in_ok-asked-2.ensures.other c.in_default-2.is in
    let none_resources : among of_resources c.args.verb.now ≡ None = told_none c.in_ok-asked-3.field-0 (among of_resources c.args.verb.now ≡ None) c.in_ok-asked-3.ensures.other c.in_default-3.is in
    let none_rules : among of_rules c.args.verb.now ≡ None = told_none c.in_ok-asked-4.field-0 (among of_rules c.args.verb.now ≡ None) c.in_ok-asked-4.ensures.other c.in_default-4.is in
    found_ok (of_sessions ++ of_users ++ of_resources ++ of_rules) of_collections (of_objects ++ of_uploads ++ of_metadata) c.args.verb.now c.args.words.now c.in-Some-5.asked (none_both (of_sessions ++ of_users ++ of_resources) of_rules c.args.verb.now (none_both (of_sessions ++ of_users) of_resources c.args.verb.now (none_both (of_sessions) of_users c.args.verb.now (none_sessions) none_users) none_resources) none_rules)
    (told_some c.in_ok-asked-5.field-0 (λ asked. AsksIn (among of_collections c.args.verb.now) c.args.words.now asked) c.in-Some-5.asked c.in_ok-asked-5.ensures.verb c.in-Some-5.is)

pub returns-in_err-asked-6-clause-refused : goal.returns-in_err-asked-6-clause-refused
returns-in_err-asked-6-clause-refused c =
    let none_sessions : among of_sessions c.args.verb.now ≡ None = told_none c.in_ok-asked.field-0 (among of_sessions c.args.verb.now ≡ None) c.in_ok-asked.ensures.other c.in_default.is in
    let none_users : among of_users c.args.verb.now ≡ None = told_none c.in_ok-asked-2.field-0 (among of_users c.args.verb.now ≡ None) c.in_ok-asked-2.ensures.other c.in_default-2.is in
    let none_resources : among of_resources c.args.verb.now ≡ None = told_none c.in_ok-asked-3.field-0 (among of_resources c.args.verb.now ≡ None) c.in_ok-asked-3.ensures.other c.in_default-3.is in
    let none_rules : among of_rules c.args.verb.now ≡ None = told_none c.in_ok-asked-4.field-0 (among of_rules c.args.verb.now ≡ None) c.in_ok-asked-4.ensures.other c.in_default-4.is in
    let none_collections : among of_collections c.args.verb.now ≡ None = told_none c.in_ok-asked-5.field-0 (among of_collections c.args.verb.now ≡ None) c.in_ok-asked-5.ensures.other c.in_default-5.is in
    told_err c.from_residual-in_err-asked-6.result (λ why. why ≢ Memory → ReadsVerb (among table c.args.verb.now) c.args.words.now (Err why)) c.in_err-asked-6.field-0.0 c.from_residual-in_err-asked-6.ensures
    (λ other. found_err (of_sessions ++ of_users ++ of_resources ++ of_rules ++ of_collections) of_objects (of_uploads ++ of_metadata) c.args.verb.now c.args.words.now c.in_err-asked-6.field-0.0 (none_both (of_sessions ++ of_users ++ of_resources ++ of_rules) of_collections c.args.verb.now (none_both (of_sessions ++ of_users ++ of_resources) of_rules c.args.verb.now (none_both (of_sessions ++ of_users) of_resources c.args.verb.now (none_both (of_sessions) of_users c.args.verb.now (none_sessions) none_users) none_resources) none_rules) none_collections) (c.in_err-asked-6.ensures.refused other))

pub returns-in-Some-6-clause-verb : goal.returns-in-Some-6-clause-verb
returns-in-Some-6-clause-verb c =
    let none_sessions : among of_sessions c.args.verb.now ≡ None = told_none c.in_ok-asked.field-0 (among of_sessions c.args.verb.now ≡ None) c.in_ok-asked.ensures.other c.in_default.is in
    let none_users : among of_users c.args.verb.now ≡ None = told_none c.in_ok-asked-2.field-0 (among of_users c.args.verb.now ≡ None) c.in_ok-asked-2.ensures.other c.in_default-2.is in
    let none_resources : among of_resources c.args.verb.now ≡ None = told_none c.in_ok-asked-3.field-0 (among of_resources c.args.verb.now ≡ None) c.in_ok-asked-3.ensures.other c.in_default-3.is in
    let none_rules : among of_rules c.args.verb.now ≡ None = told_none c.in_ok-asked-4.field-0 (among of_rules c.args.verb.now ≡ None) c.in_ok-asked-4.ensures.other c.in_default-4.is in
    let none_collections : among of_collections c.args.verb.now ≡ None = told_none c.in_ok-asked-5.field-0 (among of_collections c.args.verb.now ≡ None) c.in_ok-asked-5.ensures.other c.in_default-5.is in
    found_ok (of_sessions ++ of_users ++ of_resources ++ of_rules ++ of_collections) of_objects (of_uploads ++ of_metadata) c.args.verb.now c.args.words.now c.in-Some-6.asked (none_both (of_sessions ++ of_users ++ of_resources ++ of_rules) of_collections c.args.verb.now (none_both (of_sessions ++ of_users ++ of_resources) of_rules c.args.verb.now (none_both (of_sessions ++ of_users) of_resources c.args.verb.now (none_both (of_sessions) of_users c.args.verb.now (none_sessions) none_users) none_resources) none_rules) none_collections)
    (told_some c.in_ok-asked-6.field-0 (λ asked. AsksIn (among of_objects c.args.verb.now) c.args.words.now asked) c.in-Some-6.asked c.in_ok-asked-6.ensures.verb c.in-Some-6.is)

pub returns-in_err-asked-7-clause-refused : goal.returns-in_err-asked-7-clause-refused
returns-in_err-asked-7-clause-refused c =
    let none_sessions : among of_sessions c.args.verb.now ≡ None = told_none c.in_ok-asked.field-0 (among of_sessions c.args.verb.now ≡ None) c.in_ok-asked.ensures.other c.in_default.is in
    let none_users : among of_users c.args.verb.now ≡ None = told_none c.in_ok-asked-2.field-0 (among of_users c.args.verb.now ≡ None) c.in_ok-asked-2.ensures.other c.in_default-2.is in
    let none_resources : among of_resources c.args.verb.now ≡ None = told_none c.in_ok-asked-3.field-0 (among of_resources c.args.verb.now ≡ None) c.in_ok-asked-3.ensures.other c.in_default-3.is in
    let none_rules : among of_rules c.args.verb.now ≡ None = told_none c.in_ok-asked-4.field-0 (among of_rules c.args.verb.now ≡ None) c.in_ok-asked-4.ensures.other c.in_default-4.is in
    let none_collections : among of_collections c.args.verb.now ≡ None = told_none c.in_ok-asked-5.field-0 (among of_collections c.args.verb.now ≡ None) c.in_ok-asked-5.ensures.other c.in_default-5.is in
    let none_objects : among of_objects c.args.verb.now ≡ None = told_none c.in_ok-asked-6.field-0 (among of_objects c.args.verb.now ≡ None) c.in_ok-asked-6.ensures.other c.in_default-6.is in
    told_err c.from_residual-in_err-asked-7.result (λ why. why ≢ Memory → ReadsVerb (among table c.args.verb.now) c.args.words.now (Err why)) c.in_err-asked-7.field-0.0 c.from_residual-in_err-asked-7.ensures
    (λ other. found_err (of_sessions ++ of_users ++ of_resources ++ of_rules ++ of_collections ++ of_objects) of_uploads (of_metadata) c.args.verb.now c.args.words.now c.in_err-asked-7.field-0.0 (none_both (of_sessions ++ of_users ++ of_resources ++ of_rules ++ of_collections) of_objects c.args.verb.now (none_both (of_sessions ++ of_users ++ of_resources ++ of_rules) of_collections c.args.verb.now (none_both (of_sessions ++ of_users ++ of_resources) of_rules c.args.verb.now (none_both (of_sessions ++ of_users) of_resources c.args.verb.now (none_both (of_sessions) of_users c.args.verb.now (none_sessions) none_users) none_resources) none_rules) none_collections) none_objects) (c.in_err-asked-7.ensures.refused other))

pub returns-in-Some-7-clause-verb : goal.returns-in-Some-7-clause-verb
returns-in-Some-7-clause-verb c =
    let none_sessions : among of_sessions c.args.verb.now ≡ None = told_none c.in_ok-asked.field-0 (among of_sessions c.args.verb.now ≡ None) c.in_ok-asked.ensures.other c.in_default.is in
    let none_users : among of_users c.args.verb.now ≡ None = told_none c.in_ok-asked-2.field-0 (among of_users c.args.verb.now ≡ None) c.in_ok-asked-2.ensures.other c.in_default-2.is in
    let none_resources : among of_resources c.args.verb.now ≡ None = told_none c.in_ok-asked-3.field-0 (among of_resources c.args.verb.now ≡ None) c.in_ok-asked-3.ensures.other c.in_default-3.is in
    let none_rules : among of_rules c.args.verb.now ≡ None = told_none c.in_ok-asked-4.field-0 (among of_rules c.args.verb.now ≡ None) c.in_ok-asked-4.ensures.other c.in_default-4.is in
    let none_collections : among of_collections c.args.verb.now ≡ None = told_none c.in_ok-asked-5.field-0 (among of_collections c.args.verb.now ≡ None) c.in_ok-asked-5.ensures.other c.in_default-5.is in
    let none_objects : among of_objects c.args.verb.now ≡ None = told_none c.in_ok-asked-6.field-0 (among of_objects c.args.verb.now ≡ None) c.in_ok-asked-6.ensures.other c.in_default-6.is in
    found_ok (of_sessions ++ of_users ++ of_resources ++ of_rules ++ of_collections ++ of_objects) of_uploads (of_metadata) c.args.verb.now c.args.words.now c.in-Some-7.asked (none_both (of_sessions ++ of_users ++ of_resources ++ of_rules ++ of_collections) of_objects c.args.verb.now (none_both (of_sessions ++ of_users ++ of_resources ++ of_rules) of_collections c.args.verb.now (none_both (of_sessions ++ of_users ++ of_resources) of_rules c.args.verb.now (none_both (of_sessions ++ of_users) of_resources c.args.verb.now (none_both (of_sessions) of_users c.args.verb.now (none_sessions) none_users) none_resources) none_rules) none_collections) none_objects)
    (told_some c.in_ok-asked-7.field-0 (λ asked. AsksIn (among of_uploads c.args.verb.now) c.args.words.now asked) c.in-Some-7.asked c.in_ok-asked-7.ensures.verb c.in-Some-7.is)

pub returns-in_err-asked-8-clause-refused : goal.returns-in_err-asked-8-clause-refused
returns-in_err-asked-8-clause-refused c =
    let none_sessions : among of_sessions c.args.verb.now ≡ None = told_none c.in_ok-asked.field-0 (among of_sessions c.args.verb.now ≡ None) c.in_ok-asked.ensures.other c.in_default.is in
    let none_users : among of_users c.args.verb.now ≡ None = told_none c.in_ok-asked-2.field-0 (among of_users c.args.verb.now ≡ None) c.in_ok-asked-2.ensures.other c.in_default-2.is in
    let none_resources : among of_resources c.args.verb.now ≡ None = told_none c.in_ok-asked-3.field-0 (among of_resources c.args.verb.now ≡ None) c.in_ok-asked-3.ensures.other c.in_default-3.is in
    let none_rules : among of_rules c.args.verb.now ≡ None = told_none c.in_ok-asked-4.field-0 (among of_rules c.args.verb.now ≡ None) c.in_ok-asked-4.ensures.other c.in_default-4.is in
    let none_collections : among of_collections c.args.verb.now ≡ None = told_none c.in_ok-asked-5.field-0 (among of_collections c.args.verb.now ≡ None) c.in_ok-asked-5.ensures.other c.in_default-5.is in
    let none_objects : among of_objects c.args.verb.now ≡ None = told_none c.in_ok-asked-6.field-0 (among of_objects c.args.verb.now ≡ None) c.in_ok-asked-6.ensures.other c.in_default-6.is in
    let none_uploads : among of_uploads c.args.verb.now ≡ None = told_none c.in_ok-asked-7.field-0 (among of_uploads c.args.verb.now ≡ None) c.in_ok-asked-7.ensures.other c.in_default-7.is in
    told_err c.from_residual-in_err-asked-8.result (λ why. why ≢ Memory → ReadsVerb (among table c.args.verb.now) c.args.words.now (Err why)) c.in_err-asked-8.field-0.0 c.from_residual-in_err-asked-8.ensures
    (λ other. found_err (of_sessions ++ of_users ++ of_resources ++ of_rules ++ of_collections ++ of_objects ++ of_uploads) of_metadata ([]) c.args.verb.now c.args.words.now c.in_err-asked-8.field-0.0 (none_both (of_sessions ++ of_users ++ of_resources ++ of_rules ++ of_collections ++ of_objects) of_uploads c.args.verb.now (none_both (of_sessions ++ of_users ++ of_resources ++ of_rules ++ of_collections) of_objects c.args.verb.now (none_both (of_sessions ++ of_users ++ of_resources ++ of_rules) of_collections c.args.verb.now (none_both (of_sessions ++ of_users ++ of_resources) of_rules c.args.verb.now (none_both (of_sessions ++ of_users) of_resources c.args.verb.now (none_both (of_sessions) of_users c.args.verb.now (none_sessions) none_users) none_resources) none_rules) none_collections) none_objects) none_uploads) (c.in_err-asked-8.ensures.refused other))

pub returns-in-Some-8-clause-verb : goal.returns-in-Some-8-clause-verb
returns-in-Some-8-clause-verb c =
    let none_sessions : among of_sessions c.args.verb.now ≡ None = told_none c.in_ok-asked.field-0 (among of_sessions c.args.verb.now ≡ None) c.in_ok-asked.ensures.other c.in_default.is in
    let none_users : among of_users c.args.verb.now ≡ None = told_none c.in_ok-asked-2.field-0 (among of_users c.args.verb.now ≡ None) c.in_ok-asked-2.ensures.other c.in_default-2.is in
    let none_resources : among of_resources c.args.verb.now ≡ None = told_none c.in_ok-asked-3.field-0 (among of_resources c.args.verb.now ≡ None) c.in_ok-asked-3.ensures.other c.in_default-3.is in
    let none_rules : among of_rules c.args.verb.now ≡ None = told_none c.in_ok-asked-4.field-0 (among of_rules c.args.verb.now ≡ None) c.in_ok-asked-4.ensures.other c.in_default-4.is in
    let none_collections : among of_collections c.args.verb.now ≡ None = told_none c.in_ok-asked-5.field-0 (among of_collections c.args.verb.now ≡ None) c.in_ok-asked-5.ensures.other c.in_default-5.is in
    let none_objects : among of_objects c.args.verb.now ≡ None = told_none c.in_ok-asked-6.field-0 (among of_objects c.args.verb.now ≡ None) c.in_ok-asked-6.ensures.other c.in_default-6.is in
    let none_uploads : among of_uploads c.args.verb.now ≡ None = told_none c.in_ok-asked-7.field-0 (among of_uploads c.args.verb.now ≡ None) c.in_ok-asked-7.ensures.other c.in_default-7.is in
    found_ok (of_sessions ++ of_users ++ of_resources ++ of_rules ++ of_collections ++ of_objects ++ of_uploads) of_metadata ([]) c.args.verb.now c.args.words.now c.in-Some-8.asked (none_both (of_sessions ++ of_users ++ of_resources ++ of_rules ++ of_collections ++ of_objects) of_uploads c.args.verb.now (none_both (of_sessions ++ of_users ++ of_resources ++ of_rules ++ of_collections) of_objects c.args.verb.now (none_both (of_sessions ++ of_users ++ of_resources ++ of_rules) of_collections c.args.verb.now (none_both (of_sessions ++ of_users ++ of_resources) of_rules c.args.verb.now (none_both (of_sessions ++ of_users) of_resources c.args.verb.now (none_both (of_sessions) of_users c.args.verb.now (none_sessions) none_users) none_resources) none_rules) none_collections) none_objects) none_uploads)
    (told_some c.in_ok-asked-8.field-0 (λ asked. AsksIn (among of_metadata c.args.verb.now) c.args.words.now asked) c.in-Some-8.asked c.in_ok-asked-8.ensures.verb c.in-Some-8.is)

pub returns-clause-refused : goal.returns-clause-refused
returns-clause-refused c =
    let none_sessions : among of_sessions c.args.verb.now ≡ None = told_none c.in_ok-asked.field-0 (among of_sessions c.args.verb.now ≡ None) c.in_ok-asked.ensures.other c.in_default.is in
    let none_users : among of_users c.args.verb.now ≡ None = told_none c.in_ok-asked-2.field-0 (among of_users c.args.verb.now ≡ None) c.in_ok-asked-2.ensures.other c.in_default-2.is in
    let none_resources : among of_resources c.args.verb.now ≡ None = told_none c.in_ok-asked-3.field-0 (among of_resources c.args.verb.now ≡ None) c.in_ok-asked-3.ensures.other c.in_default-3.is in
    let none_rules : among of_rules c.args.verb.now ≡ None = told_none c.in_ok-asked-4.field-0 (among of_rules c.args.verb.now ≡ None) c.in_ok-asked-4.ensures.other c.in_default-4.is in
    let none_collections : among of_collections c.args.verb.now ≡ None = told_none c.in_ok-asked-5.field-0 (among of_collections c.args.verb.now ≡ None) c.in_ok-asked-5.ensures.other c.in_default-5.is in
    let none_objects : among of_objects c.args.verb.now ≡ None = told_none c.in_ok-asked-6.field-0 (among of_objects c.args.verb.now ≡ None) c.in_ok-asked-6.ensures.other c.in_default-6.is in
    let none_uploads : among of_uploads c.args.verb.now ≡ None = told_none c.in_ok-asked-7.field-0 (among of_uploads c.args.verb.now ≡ None) c.in_ok-asked-7.ensures.other c.in_default-7.is in
    let none_metadata : among of_metadata c.args.verb.now ≡ None = told_none c.in_ok-asked-8.field-0 (among of_metadata c.args.verb.now ≡ None) c.in_ok-asked-8.ensures.other c.in_default-8.is in
    λ other. found_none table c.args.verb.now c.args.words.now (none_both (of_sessions ++ of_users ++ of_resources ++ of_rules ++ of_collections ++ of_objects ++ of_uploads) of_metadata c.args.verb.now (none_both (of_sessions ++ of_users ++ of_resources ++ of_rules ++ of_collections ++ of_objects) of_uploads c.args.verb.now (none_both (of_sessions ++ of_users ++ of_resources ++ of_rules ++ of_collections) of_objects c.args.verb.now (none_both (of_sessions ++ of_users ++ of_resources ++ of_rules) of_collections c.args.verb.now (none_both (of_sessions ++ of_users ++ of_resources) of_rules c.args.verb.now (none_both (of_sessions ++ of_users) of_resources c.args.verb.now (none_both (of_sessions) of_users c.args.verb.now (none_sessions) none_users) none_resources) none_rules) none_collections) none_objects) none_uploads) none_metadata)
