-- Calls of which main and the sink know nothing.
use Rattle.std.proofs.Common.{◌≡◌, ℕ, ◌+◌, ◌<◌, ◌≤◌, Bool, true, List, [], ◌∷◌, ◌++◌, length, slice_get, take, Some, Result, IsTrue, refl, sym, ap, ◌∙◌, subst, arith}
use Rattle.std.specs.Prelude.{⊤}
use Rattle.std.specs.List.{list_all}
use Rattle.std.proofs.lemmas.Bool.{and_from}
use Rattle.std.proofs.lemmas.List.Folds.{list_all-append}
use Rattle.std.proofs.lemmas.Option.{slice_get_within}
use Rattle.grid_outside.specs.Ambient.{AmbientState}
use Rattle.grid_outside.specs.Device.{DeviceState, EachPair, IsSettled, Looks}
use Rattle.grid_outside.specs.Disk.{DiskState}
use Rattle.grid_outside.specs.Files.{StoreState}
use Rattle.grid_outside.specs.Sink.{SinkState}
use Rattle.grid_outside.specs.Source.{SourceState}
use Rattle.grid_outside.specs.declared.outside.Outside.{Outside}
use Rattle.grid_outside.proofs.Spans.{at_place}
use Rattle.grid_model.specs.Names.{Text}
use Rattle.grid_model.specs.Rows.{Cat}
use Rattle.grid_model.specs.RowGrids.{grid_of}
use Rattle.grid_model.specs.Meanings.{Meaning}
use Rattle.grid_model.specs.Doing.{Course, Did}
use Rattle.grid_model.specs.Deltas.{all_fit, bad_replica as bad_parts}
use Rattle.grid_model.specs.declared.calls.Call.{Call}
use Rattle.grid_model.specs.declared.deltas.Delta.{Delta}
use Rattle.grid_model.specs.declared.deltas.Numbers.{Numbers}
use Rattle.grid_model.specs.declared.marks.BadReplica.{BadReplica}
use Rattle.grid_model.specs.declared.marks.Mark.{Mark}
use Rattle.grid_model.specs.declared.refusal.Failure.{Failure}
use Rattle.grid_journal.specs.Journal.{Journal}
use Rattle.grid_journal.specs.Stands.{StandsFor}
use Rattle.grid_deed.specs.Held.{IsHeld}
use Rattle.grid_deed.specs.Safe.{AreWhole, KeepBothWhole}
use Rattle.grid_deed.proofs.Keeping.{held_stands}
use Rattle.grid_deed.proofs.Wholes.{one_cat, whole_of}
use Rattle.grid_headline.specs.Worlds.{World}
use Rattle.count_laws.proofs.GivenNumbers.{gives_by_changes, gives_more, gives_none}
use Rattle.run_laws.specs.Around.{around}
use Rattle.run_laws.specs.Steps.{Gave}
use Rattle.run_laws.proofs.Users.{users_apply_all}
use Rattle.size_laws.specs.Within.{IsWithin}
use Rattle.service_run.specs.declared.command.Command.{Command}
use Rattle.service_run.specs.declared.ending.Ending.{Ending}
use Rattle.service_run.specs.Changes.{LeadOn, mark_fits}
use Rattle.service_run.specs.Commands.{KeepsBeside}
use Rattle.service_run.specs.Steps.{IsStep, IsStill, OneOfStep, StaysAway, StepEnds, left_so, lines_of, unseen}
use Rattle.service_run.proofs.NoteSteps.{adds_none}
use Rattle.service_run.proofs.SeenFiles.{take_next}

-- ---- devices

pub still_same : {C : Type 0} (s : DeviceState C) → IsStill s s
still_same s = record { faults = refl; looks = record { last = refl; tells = refl; holds = λ told. refl; left = λ t image. (λ left. left, λ left. left) } }

pub still_where : {D : Type 0} (state : D → DiskState) (a b : D) → b ≡ a → IsStill (state a) (state b)
still_where {D} state a b same = let P : D → Type 0 = λ m. IsStill (state a) (state m) in subst P (sym same) (still_same (state a))

-- stores that were only looked at are as whole as before
pub whole_looked : {B : Type 0} (plugin : B → StoreState) (t : ℕ) (c : Cat) (old new : List B) → length new ≡ length old → EachPair (λ k before after. Looks (plugin before) (plugin after)) old new
    → AreWhole plugin t c old → AreWhole plugin t c new
whole_looked plugin t c old new count looks w = record {
  rows = w.rows;
  files = λ slot store image is told left.
      let was = at_place old slot (omega (arith, slice_get_within new slot store is, count)) in
      let same = looks slot was.0 store was.1 is in
      w.files slot was.0 image was.1 (subst IsTrue same.tells told) ((same.left t image).0 left);
}

-- ---- rows

-- nothing of them changed
pub beside_same : (c : Cat) → KeepsBeside c c 0
beside_same c = record {
  run = refl;
  last = refl;
  rules = refl;
  stores = refl;
  keeps = record { rises = omega arith; names = λ slot name row before named. (row, named) };
  few = gives_none c;
  named = λ slot name named. named;
  within = λ within. within;
  users = λ id is. is;
  names = λ id is. refl;
}

-- changes lead on from them
pub beside_led : (c after : Cat) (deltas : List Delta) → LeadOn c deltas after → (IsWithin (grid_of c) → IsWithin (grid_of after)) → KeepsBeside c after 0
beside_led c after deltas leads within =
    let users = users_apply_all deltas c after leads.applied in
    record {
      run = ap (λ (k : Numbers). k.run) leads.numbers;
      last = ap (λ (k : Numbers). k.last) leads.numbers;
      rules = leads.rules;
      stores = leads.stores;
      keeps = leads.keeps;
      few = gives_by_changes c after deltas leads.applied (ap (λ (k : Numbers). k.next_vault) leads.numbers);
      named = leads.turns.named;
      within = within;
      users = users.there;
      names = users.names;
    }

-- and so for more marks
pub beside_more : (c after : Cat) (j k : ℕ) → j ≤ k → KeepsBeside c after j → KeepsBeside c after k
beside_more c after j k more b = record {
  run = b.run;
  last = b.last;
  rules = b.rules;
  stores = b.stores;
  keeps = b.keeps;
  few = gives_more k more b.few;
  named = b.named;
  within = b.within;
  users = b.users;
  names = b.names;
}

-- ---- marks

-- one mark by itself may be kept
pub one_fits : (m : Mark) → IsTrue (mark_fits m) → IsTrue (list_all (λ (k : Mark). mark_fits k) (m ∷ []))
one_fits m fits = and_from (mark_fits m) true fits refl

-- one bad replica more
pub one_more_fits : (bad : List BadReplica) (i : ℕ) (b : BadReplica) → slice_get bad i ≡ Some b → IsTrue (list_all (λ (k : BadReplica). all_fit (bad_parts k)) (take i bad)) → IsTrue (all_fit (bad_parts b))
    → IsTrue (list_all (λ (k : BadReplica). all_fit (bad_parts k)) (take (i + 1) bad))
one_more_fits bad i b at before this =
    let F : BadReplica → Bool = λ k. all_fit (bad_parts k) in
    let T : List BadReplica → Type 0 = λ xs. list_all F xs ≡ true in
    subst T (sym (take_next bad i b at)) (list_all-append F (take i bad) (b ∷ []) ∙ and_from (list_all F (take i bad)) (list_all F (b ∷ [])) before (and_from (F b) true this refl))

-- ---- a call

module _ {D A P : Type 0} (disk : D → DiskState) (ambient : A → AmbientState) (plugin : P → StoreState) (source : SourceState) (o n : Outside D A P) (sink : SinkState) (kept : Cat) (rows : Journal) (x : Command) (call : Call) (undo : List Call) (y : Command) (after : Journal)
    (held : IsHeld kept (disk o.main) rows) (main_last : (disk o.main).last ≤ o.moments) (sink_last : sink.last ≤ o.moments) (main_same : n.main ≡ o.main)
    (count : length n.stores.items ≡ length o.stores.items) (looks : EachPair (λ k before after. Looks (plugin before) (plugin after)) o.stores.items n.stores.items) where
  abbrev pub old : World P
  old = around disk ambient plugin o sink source

  abbrev pub new : World P
  new = around disk ambient plugin n sink source

  -- what a stop leaves of main is what it held
  image_is : IsSettled (disk o.main) → (t : ℕ) (image : Text) → o.moments < t → (disk n.main).left t image → image ≡ (disk o.main).holds
  image_is settled t image late left =
      let L : D → Type 0 = λ m. (disk m).left t image in
      settled t image (omega (arith, late, main_last)) (subst L main_same left)

  -- the catalogue that it had
  main_still : IsTrue (disk o.main).tells → IsSettled (disk o.main) → (t : ℕ) (main : Text) → o.moments < t → (disk n.main).left t main → StandsFor main kept
  main_still told settled t main late left =
      let S : Text → Type 0 = λ m. StandsFor m kept in
      subst S (sym (image_is settled t main late left)) (held_stands kept (disk o.main) rows held told)

  images_still : (does : Course → Meaning Did) → IsTrue (disk o.main).tells → IsTrue sink.tells → IsSettled (disk o.main) → IsSettled sink → (t : ℕ) (main shown : Text)
      → o.moments < t → (disk n.main).left t main → sink.left t shown → OneOfStep does kept rows.cat x call undo sink.holds main shown
  images_still does told sink_told settled sink_settled t main shown late left shown_left =
      unseen (main_still told settled t main late left) (sink_settled t shown (omega (arith, late, sink_last)) shown_left)

  whole_still : KeepBothWhole plugin o.moments kept rows.cat (disk o.main) (disk n.main) o.stores.items n.stores.items
  whole_still by_memory told settled whole t image c late left stands =
      let S : Text → Type 0 = λ m. StandsFor m c in
      let is : c ≡ kept = one_cat (disk o.main).holds kept c (held_stands kept (disk o.main) rows held told) (subst S (image_is settled t image late left) stands) in
      whole_looked plugin t c o.stores.items n.stores.items count looks (whole_of plugin t kept c o.stores.items is (whole t late))

  -- how it ended, and what the ambient gave, is all that is still to be said
  pub step_still : (IsTrue (ambient n.ambient).tells → Gave [] (ambient o.ambient) (ambient n.ambient)) → (does : Course → Meaning Did) (result : Result (Result ⊤ Failure) Ending) → StepEnds old new kept rows x call undo y after does result
      → IsStep old new kept rows x call undo y after does result
  step_still asked does result ends = record {
    ends = ends;
    asked = asked;
    shown = λ told. adds_none x.untold sink.holds;
    main = λ told settled t main late left. left_so (main_still told settled t main late left);
    images = images_still does;
    whole = whole_still;
  }

  -- main has the catalogue that it had, where memory is still led to by what is staged
  pub stays_away : (marks : List Mark) → IsHeld kept (disk n.main) after → after.cat.pending ≡ rows.cat.pending → after.cat.numbers ≡ rows.cat.numbers → y.untold ≡ x.untold ++ lines_of x.number marks
      → StaysAway old new kept rows x call undo y after marks
  stays_away marks held pending numbers untold = record {
    main = still_where disk o.main n.main main_same;
    sink = still_same sink;
    held = held;
    pending = pending;
    numbers = numbers;
    untold = untold;
  }
