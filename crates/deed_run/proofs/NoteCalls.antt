-- A call that is noted before its deed begins.
use Rattle.std.proofs.Common.{◌≡◌, inl, inr, ℕ, ◌<◌, ◌≤◌, [], List, Result, Ok, Err, IsTrue, refl, sym, ap, ◌∙◌, subst, arith}
use Rattle.std.specs.Prelude.{⊤, OnOk}
use Rattle.grid_outside.specs.Ambient.{AmbientState}
use Rattle.grid_outside.specs.Disk.{DiskState}
use Rattle.grid_outside.specs.Files.{StoreState}
use Rattle.grid_outside.specs.Sink.{SinkState}
use Rattle.grid_outside.specs.Source.{SourceState}
use Rattle.grid_outside.specs.declared.outside.Outside.{Outside}
use Rattle.grid_outside.specs.declared.outside.Wear.{Wear}
use Rattle.grid_outside.specs.declared.outside.Wear.TheVariants as wear
use Rattle.grid_model.specs.Applying.{apply_all, is_user}
use Rattle.grid_model.specs.Doing.{Course, Did}
use Rattle.grid_model.specs.Meanings.{Meaning}
use Rattle.grid_model.specs.Names.{Text}
use Rattle.grid_model.specs.RowGrids.{grid_of, user_name}
use Rattle.grid_model.specs.Rows.{Cat}
use Rattle.grid_model.specs.declared.calls.Call.{Call}
use Rattle.grid_model.specs.declared.deltas.Delta.{Delta}
use Rattle.grid_model.specs.declared.deltas.Pending.{Pending}
use Rattle.grid_journal.specs.Journal.{Journal}
use Rattle.grid_journal.specs.Stands.{StandsEither}
use Rattle.grid_deed.specs.Safe.{AreWhole, KeepBothWhole}
use Rattle.grid_deed.proofs.Wholes.{whole_as, whole_of, whole_turned_none}
use Rattle.grid_headline.specs.Worlds.{World}
use Rattle.count_laws.proofs.GivenNumbers.{gives_alike}
use Rattle.run_laws.specs.Around.{around}
use Rattle.run_laws.specs.Steps.{Gave}
use Rattle.run_laws.proofs.Draws.{gave-none}
use Rattle.run_laws.proofs.Users.{users_same}
use Rattle.size_laws.specs.Within.{IsWithin}
use Rattle.service_run.specs.Commands.{IsNoted, KeepsBeside, WaitsAt, noted_in, place_by}
use Rattle.service_run.specs.NotedCalls.{NotesCall}
use Rattle.service_run.specs.Noting.{IsNotedSo, IsOutOfRoom, NoteLeaves, OneOfNote, unnoted, noted, with_pending}
use Rattle.service_run.specs.Steps.{IsStep, IsWornSo, LeavesMain, OneOfStep, in_call, left_so, noted_so, unseen}
use Rattle.service_run.specs.declared.command.Command.{Command}
use Rattle.service_run.specs.declared.ending.Ending.{Ending}
use Rattle.service_run.specs.declared.ending.Ending.TheVariants as ending
use Rattle.service_run.proofs.SameRows.{grid_pending, names_pending, turns_pending}
use Rattle.service_run.proofs.StillSteps.{beside_more}
use Rattle.deed_run.specs.Notes.{IsNextNoted}

module _ {D A P K : Type 0} (disk : D → DiskState) (ambient : A → AmbientState) (plugin : P → StoreState) (sink : K → SinkState) (source : SourceState) (o n : Outside D A P) (k l : K) (kept : Cat) (rows : Journal) (x : Command) (call : Call)
    (user : IsTrue (is_user rows.cat x.user)) (does : Course → Meaning Did) (waits : WaitsAt does (place_by rows.cat x) call) where
  abbrev p : Pending
  p = noted_in x call []

  abbrev after_cat : Cat
  after_cat = with_pending rows.cat p

  abbrev old : World P
  old = around disk ambient plugin o (sink k) source

  abbrev new : World P
  new = around disk ambient plugin n (sink l) source

  beside_noted : KeepsBeside rows.cat after_cat 0
  beside_noted =
      let users = users_same rows.cat after_cat refl in
      record {
        run = refl;
        last = refl;
        rules = refl;
        stores = refl;
        keeps = record { rises = omega arith; names = λ slot name row before named. (row, names_pending rows.cat p slot name row named) };
        few = gives_alike rows.cat after_cat refl refl;
        named = (turns_pending rows.cat p user).named;
        within = λ within. subst IsWithin (sym (grid_pending rows.cat p)) within;
        users = users.there;
        names = users.names;
      }

  its_note : IsNoted rows.cat x call [] after_cat
  its_note = record { grid = grid_pending rows.cat p; beside = beside_more rows.cat after_cat 0 1 (omega arith) beside_noted; pending = refl }

  -- a stop in it leaves it waiting
  one_of : (shown main sent : Text) → OneOfNote kept after_cat x.untold shown main sent → OneOfStep does kept rows.cat x call [] shown main sent
  one_of shown main sent (unnoted stands same) = unseen stands same
  one_of shown main sent (noted stands part) = in_call after_cat its_note waits stands part

  -- of main alone
  leaves_one : (main : Text) → StandsEither kept after_cat main → LeavesMain kept rows.cat x call [] main
  leaves_one main (inl stands) = left_so stands
  leaves_one main (inr stands) = noted_so after_cat its_note stands

  -- how it came out of room
  worn_of : (y : Command) (after : Journal) (e : Ending) → IsOutOfRoom (disk o.main) (disk n.main) (sink k) (sink l) e → IsWornSo old new kept rows x call [] y after e
  worn_of y after ending.Disk out = tt
  worn_of y after ending.Sink out = tt
  worn_of y after ending.Memory out = tt
  worn_of y after (ending.Worn what place) out =
      let W : Wear → Type 0 = λ v. IsWornSo old new kept rows x call [] y after (ending.Worn v place) in
      subst W (sym out.0) (out.1, out.2)

  module _ (ambient_same : n.ambient ≡ o.ambient) (y : Command) (after : Journal) where
    asked_none : IsTrue (ambient n.ambient).tells → Gave [] (ambient o.ambient) (ambient n.ambient)
    asked_none =
        let G : A → Type 0 = λ a. IsTrue (ambient a).tells → Gave [] (ambient o.ambient) (ambient a) in
        subst G (sym ambient_same) (λ told. gave-none (ambient o.ambient) told)

    -- as of a step that is cut short
    step_short : NoteLeaves (disk o.main) (disk n.main) (sink k) (sink l) kept after_cat o.moments x.untold
        → KeepBothWhole plugin o.moments kept rows.cat (disk o.main) (disk n.main) o.stores.items n.stores.items → IsStep old new kept rows x call [] y after does (Err ending.Memory)
    step_short leaves whole = record {
      ends = tt;
      asked = asked_none;
      shown = leaves.shown;
      main = λ told settled t main late left. leaves_one main (leaves.main told settled t main late left);
      images = λ told sink_told settled sink_settled t main shown late left sink_left.
          one_of (sink k).holds main shown (leaves.images told sink_told settled sink_settled t main shown late left sink_left);
      whole = whole;
    }

    -- ---- it was announced, and then noted

    module _ (s1 : Journal) (announced : s1.cat ≡ after_cat) (result : Result ⊤ Ending) (it : IsNotedSo (disk o.main) (disk n.main) (sink k) (sink l) kept s1.cat o.moments x.untold result after)
        (told_all : OnOk result (y ≡ record x { untold = [] })) (stores_same : n.stores ≡ o.stores) (drawn : o.moments ≤ n.moments)
        (whole : KeepBothWhole plugin o.moments kept s1.cat (disk o.main) (disk n.main) o.stores.items n.stores.items) where
      -- by the rows before it
      turned : (t : ℕ) → AreWhole plugin t rows.cat o.stores.items → AreWhole plugin t s1.cat o.stores.items
      turned t w = whole_of plugin t after_cat s1.cat o.stores.items announced (whole_turned_none plugin t rows.cat after_cat o.stores.items (turns_pending rows.cat p user) w)

      whole_before : KeepBothWhole plugin o.moments kept rows.cat (disk o.main) (disk n.main) o.stores.items n.stores.items
      whole_before by_memory = whole (λ t late. turned t (by_memory t late))

      it_so : IsNotedSo (disk o.main) (disk n.main) (sink k) (sink l) kept after_cat o.moments x.untold result after
      it_so = let N : Cat → Type 0 = λ c. IsNotedSo (disk o.main) (disk n.main) (sink k) (sink l) kept c o.moments x.untold result after in subst N announced it

      by_result : (r : Result ⊤ Ending) → IsNotedSo (disk o.main) (disk n.main) (sink k) (sink l) kept after_cat o.moments x.untold r after → OnOk r (y ≡ record x { untold = [] }) → NotesCall old new kept rows x call [] y after does r
      by_result (Err e) so told = record { ends = worn_of y after e so.ends; step = step_short so.leaves whole_before }
      by_result (Ok done) so told =
          let main = so.ends.main in
          let Q : Cat → Type 0 = λ c. KeepsBeside rows.cat c 0 in
          record {
            ends = record {
              noted = record {
                cat = after_cat;
                noted = its_note;
                waits = waits;
                pending = ap (λ (c : Cat). c.pending) main.cat;
                numbers = ap (λ (c : Cat). c.numbers) main.cat;
                held = main.held;
                settled = main.settled;
                sink = so.ends.sink;
                sink_settled = so.ends.sink_settled;
                untold = ap (λ (c : Command). c.untold) told;
              };
              command = told;
              beside = subst Q (sym main.cat) beside_noted;
              grid = ap grid_of main.cat ∙ grid_pending rows.cat p;
              whole = λ by_kept by_memory main_told main_settled t late.
                  let since : o.moments < t = omega (arith, drawn, late) in
                  whole_of plugin t after_cat after.cat n.stores.items main.cat
                  (whole_as plugin t after_cat o.stores.items n.stores.items (λ i. (stores_same i).items) (whole_of plugin t s1.cat after_cat o.stores.items (sym announced) (turned t (by_memory t since))));
            };
            step = step_short so.leaves whole_before;
          }

      pub notes_call : NotesCall old new kept rows x call [] y after does result
      notes_call = by_result result it_so told_all

-- the rows behind the announcing, where there are no recoveries
pub announced_as : (c s1 : Cat) (x : Command) (call : Call) (undo : List Call) → undo ≡ [] → s1 ≡ with_pending c (noted_in x call undo) → s1 ≡ with_pending c (noted_in x call [])
announced_as c s1 x call undo none is = is ∙ ap (λ (u : List Call). with_pending c (noted_in x call u)) none

-- no changes lead from rows to these
pub applied_none : (c : Cat) (deltas : List Delta) → deltas ≡ [] → apply_all c deltas ≡ Ok c
applied_none c deltas none = ap (λ (d : List Delta). apply_all c d) none

-- memory ran out before anything was called
pub notes_none : {B : Type 0} (old new : World B) (kept : Cat) (rows : Journal) (x : Command) (call : Call) (y : Command) (after : Journal) (does : Course → Meaning Did) → IsStep old new kept rows x call [] y after does (Err ending.Memory)
    → NotesCall old new kept rows x call [] y after does (Err ending.Memory)
notes_none from to kept rows x call y after does step = record { ends = tt; step = step }

-- ---- what is there afterwards

-- what is kept has the command pending
pub next_of : (main_old main_new : DiskState) (sink_old sink_new : SinkState) (kept : Cat) (from : ℕ) (rows s1 : Journal) (x : Command) (call : Call) (y : Command) (after : Journal) → IsTrue (is_user rows.cat x.user) → s1.cat ≡ with_pending rows.cat (noted_in x call [])
    → (result : Result ⊤ Ending) → IsNotedSo main_old main_new sink_old sink_new kept s1.cat from x.untold result after → OnOk result (y ≡ record x { untold = [] }) → OnOk result (IsNextNoted main_new rows x call y after)
next_of main_old main_new sink_old sink_new kept from rows s1 x call y after user announced (Err e) it told = tt
next_of main_old main_new sink_old sink_new kept from rows s1 x call y after user announced (Ok done) it told =
    let c = with_pending rows.cat (noted_in x call []) in
    let is : after.cat ≡ c = it.ends.main.cat ∙ announced in
    let same : y.user ≡ x.user = ap (λ (z : Command). z.user) told in
    let U : Cat → ℕ → Type 0 = λ d u. IsTrue (is_user d u) in
    let I : ℕ → Type 0 = λ u. IsTrue (is_user after.cat u) in
    let C : Cat → Type 0 = λ d. IsTrue (is_user d x.user) in
    let users = users_same rows.cat c refl in
    record {
      kept = s1.cat;
      held = it.ends.main.held;
      rows = is;
      command = told;
      user = subst I (sym same) (subst C (sym is) (users.there x.user user));
      name = ap (user_name after.cat) same ∙ ap (λ (d : Cat). user_name d x.user) is ∙ users.names x.user user;
      stores = ap (λ (d : Cat). d.stores) is;
    }

-- what has run out is not the numbers of vault files
pub never_vaults : (main_old main_new : DiskState) (sink_old sink_new : SinkState) (kept after_cat : Cat) (from : ℕ) (text : Text) (result : Result ⊤ Ending) (after : Journal) → IsNotedSo main_old main_new sink_old sink_new kept after_cat from text result after
    → (place : ℕ) → result ≡ Err (ending.Worn wear.Vaults place) → ⊥
never_vaults main_old main_new sink_old sink_new kept after_cat from text result after it place is =
    let N : Result ⊤ Ending → Type 0 = λ r. IsNotedSo main_old main_new sink_old sink_new kept after_cat from text r after in
    let log : wear.Vaults ≡ wear.Log = (subst N is it).ends.0 in
    cc
