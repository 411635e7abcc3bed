-- A deed that took no mark was refused.
use Rattle.std.proofs.Common.{◌≡◌, ℕ, false, List, [], ◌++◌, Option, None, Some, Result, Ok, Err, true, map, refl, sym, ap, ◌∙◌, subst}
use Rattle.std.specs.Prelude.{⊤, IfOk, length}
use Rattle.grid_model.specs.Names.{Text, Path}
use Rattle.grid_model.specs.Grid.{Grid, Object}
use Rattle.grid_model.specs.Rows.{Cat}
use Rattle.grid_model.specs.RowGrids.{grid_of, user_name}
use Rattle.grid_model.specs.Trees.{candidates, is_any, possible, readable, slots_of, targets}
use Rattle.grid_model.specs.Refusing.{Or, ◌>>=◌, unless}
use Rattle.grid_model.specs.Deeds.{Act, changes, copying, deed, reading}
use Rattle.grid_model.specs.Doing.{Course, Did, do_act}
use Rattle.grid_model.specs.Meanings.{gives}
use Rattle.grid_model.specs.Operations.Common.{collection_above, needs, object_there, resource_there}
use Rattle.grid_model.specs.Operations.Objects.{good_on_all, may_put, may_stand, put_row, room_for, writes}
use Rattle.grid_model.specs.Operations.Replicas.{Source, chksum_row, first_of, lacking, marked_bad, repl_row, with_replicas}
use Rattle.grid_model.specs.Operations.Table.{Operation, chksum, get as fetch, row}
use Rattle.grid_model.specs.Orders as orders
use Rattle.grid_model.specs.QueryOrders.{ReadsQuery}
use Rattle.grid_model.specs.Working.{end_of, running, sent_by}
use Rattle.grid_model.specs.declared.queries.Query.{Query}
use Rattle.grid_model.specs.declared.calls.Call.{Call}
use Rattle.grid_model.specs.declared.grid.Level.TheVariants.{Write}
use Rattle.grid_model.specs.declared.grid.Mode.{Mode}
use Rattle.grid_model.specs.declared.marks.Mark.{Mark}
use Rattle.grid_model.specs.declared.refusal.Failure.{Failure}
use Rattle.grid_model.specs.declared.refusal.Failure.TheVariants as failure
use Rattle.grid_model.specs.declared.refusal.Refusal.{Refusal}
use Rattle.grid_model.specs.declared.refusal.Refusal.TheVariants as refusal
use Rattle.grid_model.specs.declared.replies.End.TheVariants as end
use Rattle.grid_model.proofs.MeaningLemmas.{gives_not_waits}
use Rattle.grid_journal.specs.Journal.{Journal}
use Rattle.grid_headline.specs.Ends.{WasDone}
use Rattle.grid_headline.specs.Worlds.{World}
use Rattle.chain_core.specs.Answers.{failure_in}
use Rattle.chain_run.specs.Places.{course_at}
use Rattle.deed_run.specs.Puts.{does_op}
use Rattle.service_run.specs.Commands.{place_by}
use Rattle.service_run.specs.Steps.{IsStep, IsStepDone}
use Rattle.service_run.specs.declared.command.Command.{Command}
use Rattle.service_run.specs.declared.ending.Ending.{Ending}
use Rattle.point_laws.specs.Works.{IsAskedSo, Work, operation, query}
use Rattle.row_run.specs.Verbs.{IsRowsVerb, WorksBy, operation_by}
use Rattle.row_run.proofs.Rows.{rows_silent}
use Rattle.grid_model.specs.declared.requests.Verb.{Verb}
use Rattle.grid_model.specs.declared.requests.Verb.TheVariants as verb
use Rattle.work_run.specs.Names.{changes_rows}
use Rattle.run_laws.specs.Ends.{MakesFile}
use Rattle.work_run.specs.Pointed.{point_end}
use Rattle.work_run.specs.Verbs.{AsksBy, HasWork, IsIdle, MayMakeFile, WorksAs, is_call}
use Rattle.work_run.proofs.Quiet.{no_marks}

-- it is refused, or a deed
abbrev pub IsDeed : Or Act → Type 0
IsDeed (Err r) = Unit {0}
IsDeed (Ok (changes g)) = ⊥
IsDeed (Ok (deed d)) = Unit {0}

then_deed : {A : Type 0} (x : Or A) (f : A → Or Act) → ((a : A) → IsDeed (f a)) → IsDeed (x >>= f)
then_deed (Ok a) f next = next a
then_deed (Err r) f next = tt

module _ (g : Grid) (user : Text) (p : Path) (r : Text) (mode : Mode) (body : List ℕ) where
  abbrev done : Path → Or Act
  done c = room_for g user c p (length body) >>= (λ _. Ok (writes g.resources g user c p r body))

  abbrev targeted : Path → Or Act
  targeted c = unless (is_any (possible g.resources r)) refusal.NoTarget >>= (λ _. done c)

  abbrev standing : Path → Or Act
  standing c = unless (may_stand g p mode) refusal.Exists >>= (λ _. targeted c)

  abbrev allowed : Path → Or Act
  allowed c = unless (may_put g user c p) refusal.NoAccess >>= (λ _. standing c)

  pub put_deed : IsDeed (put_row g user p r mode body)
  put_deed =
      then_deed (collection_above g p) (λ c. resource_there g r >>= (λ _. allowed c)) (λ c.
      then_deed (resource_there g r) (λ _. allowed c) (λ _.
      then_deed (unless (may_put g user c p) refusal.NoAccess) (λ _. standing c) (λ _.
      then_deed (unless (may_stand g p mode) refusal.Exists) (λ _. targeted c) (λ _.
      then_deed (unless (is_any (possible g.resources r)) refusal.NoTarget) (λ _. done c) (λ _.
      then_deed (room_for g user c p (length body)) (λ _. Ok (writes g.resources g user c p r body)) (λ _. tt))))))

module _ (g : Grid) (user : Text) (p : Path) where
  module _ (r : Text) where
    abbrev copies : Object → Source → Or Act
    copies o from = Ok (deed (record {
      size = o.size;
      digest = o.digest;
      ran = λ word now _. with_replicas g p o (good_on_all o.size o.digest o.replicas (lacking o.replicas (targets g.resources r word)));
      touch = copying from.slot (slots_of g.resources (lacking o.replicas (possible g.resources r)));
    }))

    abbrev sourced : Object → Or Act
    sourced o = first_of g o (candidates g.resources o None) >>= copies o

    abbrev with_target : Object → Or Act
    with_target o = unless (is_any (possible g.resources r)) refusal.NoTarget >>= (λ _. sourced o)

    abbrev on_resource : Object → Or Act
    on_resource o = resource_there g r >>= (λ _. with_target o)

    pub repl_deed : IsDeed (repl_row g user p r)
    repl_deed =
        then_deed (object_there g p) (λ o. needs g user p Write >>= (λ _. on_resource o)) (λ o.
        then_deed (needs g user p Write) (λ _. on_resource o) (λ _.
        then_deed (resource_there g r) (λ _. with_target o) (λ _.
        then_deed (unless (is_any (possible g.resources r)) refusal.NoTarget) (λ _. sourced o) (λ _.
        then_deed (first_of g o (candidates g.resources o None)) (copies o) (λ from. tt)))))

  abbrev looks : Object → Or Act
  looks o = Ok (deed (record {
    size = o.size;
    digest = o.digest;
    ran = λ word now bad. with_replicas g p o (marked_bad o.replicas bad);
    touch = reading (readable g.resources o) (slots_of g.resources (map (λ e. e.1.leaf) (readable g.resources o)));
  }))

  abbrev readable_there : Object → Or Act
  readable_there o = first_of g o (readable g.resources o) >>= (λ _. looks o)

  pub chksum_deed : IsDeed (chksum_row g user p)
  chksum_deed =
      then_deed (object_there g p) (λ o. needs g user p Write >>= (λ _. readable_there o)) (λ o.
      then_deed (needs g user p Write) (λ _. readable_there o) (λ _.
      then_deed (first_of g o (readable g.resources o)) (λ _. looks o) (λ _. tt)))

module _ {B : Type 0} (old new : World B) (kept : Cat) (rows : Journal) (x : Command) (undo : List Call) (y : Command) (after : Journal)
    (op : Operation) (is_deed : IsDeed (row (grid_of rows.cat) (user_name rows.cat x.user) op)) (ran : Result ⊤ Failure)
    (done : IsStepDone old new kept rows x (running op) undo y after (does_op (user_name rows.cat x.user) op) ran) (none : y.marks ≡ x.marks) where
  abbrev user : Text
  user = user_name rows.cat x.user

  came : (did : Did) × (does_op user op (course_at (place_by rows.cat x) [] 0 false) ≡ gives did)
  came =
      let did = done.did.did [] 0 false in (
        record { state = course_at (place_by after.cat y) [] 0 did.0; failure = failure_in ran },
        ap (λ (ms : List Mark). does_op user op (course_at (place_by rows.cat x) (ms ++ []) 0 false))
            (sym (no_marks old new kept rows x (running op) undo y after (does_op user op) ran done none))
            ∙ did.1,
      )

  by_act : (a : Or Act) → row (grid_of rows.cat) user op ≡ a → IsDeed a → (r : Refusal) × (row (grid_of rows.cat) user op ≡ Err r)
  by_act (Err r) is a_deed = (r, is)
  by_act (Ok (changes g)) is a_deed = absurd a_deed
  by_act (Ok (deed d)) is a_deed =
      let waiting = ap (do_act (running op) (course_at (place_by rows.cat x) [] 0 false)) is in
      absurd (gives_not_waits (sym came.1 ∙ waiting))

  pub was_refused : (r : Refusal) × (row (grid_of rows.cat) user op ≡ Err r)
  was_refused = by_act (row (grid_of rows.cat) user op) refl is_deed

-- so where it is refused it leaves the rows as they are, and took no mark, nothing more is staged
module _ {B : Type 0} (old new : World B) (kept : Cat) (rows : Journal) (x : Command) (undo : List Call) (y : Command) (after : Journal)
    (op : Operation) (is_deed : IsDeed (row (grid_of rows.cat) (user_name rows.cat x.user) op))
    (same : (r : Refusal) → row (grid_of rows.cat) (user_name rows.cat x.user) op ≡ Err r → after ≡ rows) where
  pub quiet_by : (result : Result (Result ⊤ Failure) Ending)
      → IsStep old new kept rows x (running op) undo y after (does_op (user_name rows.cat x.user) op) result
      → IfOk result (λ ran. y.marks ≡ x.marks → grid_of after.cat ≡ grid_of rows.cat → after.staged ≡ rows.staged)
  quiet_by (Ok ran) step = λ none grid.
      let r = was_refused old new kept rows x undo y after op is_deed ran step.ends none in
      ap (λ (j : Journal). j.staged) (same r.0 r.1)
  quiet_by (Err e) step = tt

-- ---- verbs

-- the verb of an operation that is no deed changes rows alone
pub rows_of : (v : Verb) (body : Text) (op : Operation) → is_call v ≡ true → changes_rows v ≡ true → WorksBy v body op → IsRowsVerb v op
rows_of (verb.Put path resource mode count) body op call is works = absurd (cc is)
rows_of (verb.Get path resource) body op call is works = absurd (cc call)
rows_of (verb.Repl path resource) body op call is works = absurd (cc is)
rows_of (verb.ChkSum path) body op call is works = absurd (cc is)
rows_of other body op call is works = works

-- what is done as a call sends no bytes
pub works_silent : (user : Text) (v : Verb) (body : Text) (op : Operation) → is_call v ≡ true → WorksBy v body op → (s : Course) → sent_by s user op ≡ None
works_silent user (verb.Put path resource mode count) body op call is s = let S : Operation → Type 0 = λ o. sent_by s user o ≡ None in subst S (sym is) refl
works_silent user (verb.Get path resource) body op call is s = absurd (cc call)
works_silent user (verb.Repl path resource) body op call is s = let S : Operation → Type 0 = λ o. sent_by s user o ≡ None in subst S (sym is) refl
works_silent user (verb.ChkSum path) body op call is s = let S : Operation → Type 0 = λ o. sent_by s user o ≡ None in subst S (sym is) refl
works_silent user other body op call its s = (rows_silent user other op its).1 s

-- ---- what verbs do

-- a get
pub get_as : (path : Path) (asked : Option Text) (body : Text) (w : Work) → WorksAs (verb.Get path asked) body w → w ≡ operation (fetch path asked)
get_as path asked body (operation op) is = ap operation is
get_as path asked body (query q) is = absurd is

-- a query
pub query_as : (text body : Text) (w : Work) → WorksAs (verb.Query text) body w → (q : Or Query) × (w ≡ query q) × ReadsQuery text q
query_as text body (operation op) is = absurd (cc is)
query_as text body (query q) reads = (q, refl, reads)

-- and any other
pub call_as : (v : Verb) (body : Text) (w : Work) → is_call v ≡ true → WorksAs v body w → (op : Operation) × (w ≡ operation op) × WorksBy v body op
call_as v body (operation op) call works = (op, refl, works)
call_as v body (query q) call asks = absurd (no_query v q call asks)
  where
    no_query : (u : Verb) (r : Or Query) → is_call u ≡ true → AsksBy u r → ⊥
    no_query (verb.Query text) r call asks = cc call
    no_query other r call asks = asks

-- there is one
pub has_op : (v : Verb) (body : Text) → is_call v ≡ true → HasWork v body → (op : Operation) × WorksBy v body op
has_op (verb.Query text) body call has = absurd (cc call)
has_op other body call has = has

pub has_work : (v : Verb) (body : Text) (op : Operation) → WorksBy v body op → HasWork v body
has_work (verb.Query text) body op works = tt
has_work other body op works = (op, works)

-- where it changes nothing
pub idle_call : (g : Grid) (user : Text) (v : Verb) (body : Text) → is_call v ≡ true → IsIdle g user v body
    → (op : Operation) × WorksBy v body op × (r : Refusal) × (row g user op ≡ Err r)
idle_call g user (verb.Query text) body call idle = absurd (cc call)
idle_call g user other body call idle = idle

pub idle_of : (g : Grid) (user : Text) (v : Verb) (body : Text) (op : Operation) → WorksBy v body op → (r : Refusal) → row g user op ≡ Err r
    → IsIdle g user v body
idle_of g user (verb.Query text) body op works r refused = tt
idle_of g user other body op works r refused = (op, works, r, refused)

-- where it makes files
pub makes_call : (count : ℕ) (v : Verb) (body : Text) → is_call v ≡ true → ((op : Operation) → WorksBy v body op → MakesFile (orders.works op count))
    → MayMakeFile count v body
makes_call count (verb.Query text) body call makes = absurd (cc call)
makes_call count other body call makes = makes

pub makes_of : (count : ℕ) (v : Verb) (body : Text) (op : Operation) → WorksBy v body op → MayMakeFile count v body → MakesFile (orders.works op count)
makes_of count (verb.Query text) body op works makes = absurd makes
makes_of count other body op works makes = makes op works

-- an operation that changes rows alone makes none
abbrev FileLess : Operation → Type 0
FileLess op = MakesFile (orders.works op 0) → ⊥

abbrev FileLessBy : Option Operation → Type 0
FileLessBy None = Unit {0}
FileLessBy (Some op) = FileLess op

file_less_by : (v : Verb) → FileLessBy (operation_by v)
file_less_by (verb.MkUser name kind) = λ makes. makes
file_less_by (verb.MkGroup name) = λ makes. makes
file_less_by (verb.MkDir path) = λ makes. makes
file_less_by (verb.RmDir path) = λ makes. makes
file_less_by (verb.Mv from to) = λ makes. makes
file_less_by (verb.ChMod level name path) = λ makes. makes
file_less_by (verb.Inherit path) = λ makes. makes
file_less_by (verb.NoInherit path) = λ makes. makes
file_less_by (verb.AddMember group user) = λ makes. makes
file_less_by (verb.RmMember group user) = λ makes. makes
file_less_by (verb.MkStorage name slot) = λ makes. makes
file_less_by (verb.MkCoordinating name kind) = λ makes. makes
file_less_by (verb.AddChild parent child) = λ makes. makes
file_less_by (verb.ModResc name up) = λ makes. makes
file_less_by (verb.Trim path resource) = λ makes. makes
file_less_by (verb.Rm path) = λ makes. makes
file_less_by other = tt

pub rows_file_less : (v : Verb) (op : Operation) → IsRowsVerb v op → MakesFile (orders.works op 0) → ⊥
rows_file_less (verb.AddMeta kind name attribute value unit) op its = subst FileLess (sym its.2) (λ makes. makes)
rows_file_less (verb.RmMeta kind name attribute value unit) op its = subst FileLess (sym its.2) (λ makes. makes)
rows_file_less other op is = subst FileLessBy is (file_less_by other)

pub sum_file_less : (path : Path) (op : Operation) → op ≡ chksum path → MakesFile (orders.works op 0) → ⊥
sum_file_less path op is = subst FileLess (sym is) (λ makes. makes)

-- ---- what was not done

-- an operation that failed
pub not_done : (f : Failure) → WasDone (end_of f) → ⊥
not_done (failure.Refused r) was = was
not_done (failure.Code z) was = was
not_done failure.NoRule was = was
not_done failure.Depth was = was
not_done failure.Spent was = was
not_done failure.LongText was = was
not_done failure.Stopped was = was

-- one of which the rules before it failed
pub not_done_before : (f : Failure) → WasDone (point_end end.PreFailed f) → ⊥
not_done_before (failure.Refused r) was = was
not_done_before (failure.Code z) was = was
not_done_before failure.NoRule was = was
not_done_before failure.Depth was = was
not_done_before failure.Spent was = was
not_done_before failure.LongText was = was
not_done_before failure.Stopped was = was

-- a query that is none is refused by its text alone
pub query_so : (text : Text) (q : Or Query) → ReadsQuery text q → IsAskedSo (query q)
query_so text (Ok q) reads = tt
query_so text (Err (refusal.BadQuery place)) reads = tt
query_so text (Err other) reads = absurd reads

pub asked_so : (v : Verb) (body : Text) (w : Work) → WorksAs v body w → IsAskedSo w
asked_so v body (operation op) works = tt
asked_so v body (query q) asks = by v asks
  where
    by : (u : Verb) → AsksBy u q → IsAskedSo (query q)
    by (verb.Query text) reads = query_so text q reads
    by other none = absurd none
