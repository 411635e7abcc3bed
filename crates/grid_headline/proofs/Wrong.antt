-- What the clauses refuse of files, rows, marks and words.
use Rattle.std.proofs.Common.{arith, ◌≡◌, ℕ, zero, ◌+◌, ◌≤◌, true, List, [], ◌∷◌, Option, Some, None, length, refl, sym, ◌∙◌, ap, subst}
use Rattle.std.specs.Prelude.{◌<◌, ◌-◌, ◌^◌, Ok, codes}
use Rattle.std.specs.Fmt.{digits}
use Rattle.std.specs.List.{Contains}
use Rattle.sha2.specs.Sha256.{sha256}
use Rattle.grid_outside.specs.Files.{File, Files, file_at, finished}
use Rattle.grid_model.specs.Names.{Text, Path}
use Rattle.grid_model.specs.Inputs.{Asked}
use Rattle.grid_model.specs.Maps.{put as put_at}
use Rattle.grid_model.specs.Rows.{Cat}
use Rattle.grid_model.specs.Whole.{Naming, by_replica, by_orphan, Names, IsNamed, IsWhole, IsFinishedAs}
use Rattle.grid_model.specs.Sessions.{State}
use Rattle.grid_model.specs.Orders.{Order, opens, closes, works}
use Rattle.grid_model.specs.Operations.Table.{put}
use Rattle.grid_model.specs.Runs.{Marked}
use Rattle.grid_model.specs.declared.grid.Mode.{Mode}
use Rattle.grid_model.specs.declared.grid.Mode.TheVariants.{New}
use Rattle.grid_model.specs.declared.marks.Mark.TheVariants.{Ran, Fault}
use Rattle.cmd_read.specs.Table.{number_of}
use Rattle.cmd_read.specs.Reading.{Reads}
use Rattle.cmd_read.specs.Orders as orders
use Rattle.cmd_read.specs.Orders.{Asks, asks_for}
use Rattle.grid_model.specs.declared.requests.Verb.{Verb}
use Rattle.grid_model.specs.declared.requests.Verb.TheVariants as verb
use Rattle.req_words.proofs.OneReading.{SpellsLine-unique}
use Rattle.grid_headline.specs.Worlds.{World, DevicesImage, faults_of}
use Rattle.grid_headline.specs.Reads.{texts, MeansRequest}
use Rattle.grid_headline.specs.Silence.{IsSilent, IsLoud, IsBetween, NoneIsSilent}
use Rattle.grid_headline.specs.Causes.{AreCaused}
use Rattle.grid_headline.specs.Ends.{HasFewOrphans}
use Rattle.grid_headline.specs.Files.{KeepsReplicas}
use Rattle.grid_headline.specs.Draws.{no_words, add_words}
use Rattle.grid_headline.proofs.Scene.{rods, f, abc, put_line, asks_put, put_words, logged}
use Rattle.grid_headline.proofs.PutStops.{run, before, behind, new_replica, the_only}

-- ---- files

-- a replica is marked good before its file is there
good_before_finish : (known : ℕ → Type 0) (files : Files) → file_at files 1 ≡ None → ¬ IsWhole (behind known) 0 files
good_before_finish known files none whole =
    let there : IsFinishedAs 3 (sha256 abc) (file_at files 1) = whole.good.0 refl refl in
    let e : None ≡ finished there.bytes = sym none ∙ there.is in
    absurd (cc e)

-- a file is there, and no row names it
nothing_in_none : {X : Type 0} (x : X) → ¬ Contains [] x
nothing_in_none x (k, few, e) = absurd (omega (arith, few))

file_without_row : (known : ℕ → Type 0) (files : Files) (file : File) → file_at files 1 ≡ Some file → ¬ IsWhole (before known) 0 files
file_without_row known files file is whole = by (whole.accounted 1 file is).row (whole.accounted 1 file is).names
  where
    by : (row : Naming) → ¬ Names (before known) 0 1 row
    by (by_replica r) h = nothing_in_none r h.0
    by (by_orphan o) h = nothing_in_none o h.0

-- ---- rows

-- between the login and the put rows are kept for the file of the put, and nothing is pending
abbrev silent : (known : ℕ → Type 0) → Cat
silent known = record (before known) { orphans = record { vault = 1; slot = 0 } ∷ [] }

abbrev put_text : List Text
put_text = codes "0" ∷ codes "put" ∷ codes "/tempZone/home/rods/f" ∷ codes "d0" ∷ codes "new" ∷ codes "3" ∷ []

put_is_loud : (at : State) (p : Path) (resource : Text) (mode : Mode) (count : ℕ) (v : Verb) (order : Order) → verb.Put p resource mode count ≡ v
    → orders.MeansOrder texts at v abc order → ¬ IsSilent order
put_is_loud at p resource mode count v order is means s =
    let P : Verb → Type 0 = λ w. orders.MeansOrder texts at w abc order in
    let m : order ≡ works (put p resource mode abc) count = subst P (sym is) means in
    subst IsSilent m s

-- the put is no order that may commit without being shown
no_silent_put : (at : State) (session : ℕ) (order : Order) → Asks texts at put_line abc (Ok (session, order)) → ¬ IsSilent order
unfolding digits number_of
no_silent_put at session order (asks_for {words = words} request le spells reads same enough built means) =
    let e : words ≡ put_text = SpellsLine-unique put_line words put_text spells put_words in
    let P : List Text → Type 0 = λ ws. Reads ws (Ok request) in
    let r : Reads put_text (Ok request) = subst P e reads in
    let x = r.1 in
    put_is_loud at x.0 x.2.0 x.2.2.0 x.2.2.2.0 request.verb order x.2.2.2.2 means

puts_loud : (known : ℕ → Type 0) {B : Type 0} (old new : World B) → IsLoud (run known) old new 1
puts_loud known old new next session order is means =
    let P : Asked → Type 0 = λ a. MeansRequest logged a (Ok (session, order)) in
    no_silent_put logged session order (subst P (ap (λ (m : Option Marked). asked_of_next m) (sym is)) means)
  where
    asked_of_next : Option Marked → Asked
    asked_of_next None = asks_put
    asked_of_next (Some m) = m.asked

-- then rows are the same
rows_in_silence : (known : ℕ → Type 0) {B : Type 0} (old new : World B) (i j : DevicesImage) → NoneIsSilent (run known) old new
    → IsBetween (run known) old new 1 i (before known) → ¬ IsBetween (run known) old new 1 j (silent known)
rows_in_silence known old new i j none b k =
    let e : before known ≡ silent known = none.one_catalogue 1 i j (before known) (silent known) (omega arith) (puts_loud known old new) b k in
    let n : 0 ≡ 1 = ap (λ (c : Cat). length c.orphans) e in
    absurd (omega (arith, n))

-- an orphan is left, and no count rose
orphan_left : (known : ℕ → Type 0) {B : Type 0} (w : World B) → faults_of w 0 < 2 ^ 64 - 1 → ¬ HasFewOrphans w w (silent known)
orphan_left known w small few = let n : faults_of w 0 + 1 ≤ faults_of w 0 = few 0 small in absurd (omega (arith, n))

-- the row of a replica is gone, and its file is no orphan
abbrev lost : (known : ℕ → Type 0) → Cat
lost known = record (behind known) { replicas = [] }

put_is_named : (known : ℕ → Type 0) → IsNamed (behind known) 0 1
put_is_named known = record { row = by_replica (new_replica known); names = ((zero, omega arith, refl), refl, refl); only = only }
  where
    only : (other : Naming) → Names (behind known) 0 1 other → other ≡ by_replica (new_replica known)
    only (by_replica r) h = ap by_replica (sym (the_only (new_replica known) r h.0))
    only (by_orphan o) h = absurd (nothing_in_none o h.0)

replica_lost : (known : ℕ → Type 0) → ¬ KeepsReplicas (behind known) (lost known)
replica_lost known keeps = let one = keeps 0 1 (new_replica known) ((zero, omega arith, refl), refl, refl) (put_is_named known) in by one.row one.names
  where
    by : (row : Naming) → ¬ Names (lost known) 0 1 row
    by (by_replica r) h = nothing_in_none r h.0
    by (by_orphan o) h = nothing_in_none o h.0

-- ---- marks and words

-- a fault is told, and no count rose
fault_untold : {B : Type 0} (w : World B) → faults_of w 0 < 2 ^ 64 - 1 → ¬ AreCaused w w (Fault 0 0 ∷ [])
fault_untold w small caused = let n : faults_of w 0 + 1 ≤ faults_of w 0 = caused.counted 0 small in absurd (omega (arith, n))

-- an upload is open in session 0
abbrev uploading : State
uploading = record logged {
  sessions = put_at logged.sessions 0 (record {
    user = rods;
    upload = Some (record {
      path = f;
      resource = codes "d0";
      mode = New;
      tree = logged.grid.resources;
      bytes = [];
    });
  });
}

-- the word 3 of a close stands where the upload was opened, before the word 5 of a put of another session
close_word_first : (add_words logged 0 (opens f (codes "d0") New) [] true
    (add_words uploading 1 (works (put f (codes "d0") New abc) 3) (Ran 5 1000 [] ∷ []) true
    (add_words uploading 0 closes (Ran 3 1001 [] ∷ []) true no_words))).words ≡ 3 ∷ 5 ∷ []
close_word_first = refl
