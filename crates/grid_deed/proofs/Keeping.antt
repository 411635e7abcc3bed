-- What a commit leaves.
use Rattle.std.proofs.Common.{◌≡◌, ◌≢◌, inl, inr, ℕ, ◌^◌, ◌<◌, ◌≤◌, List, [], ◌++◌, Result, Ok, Err, IsTrue, refl, sym, ap, ◌∙◌, subst, arith}
use Rattle.std.specs.Prelude.{⊤, ◌↔◌, ◌∷◌, flat_map, OnOk, IsErrOf}
use Rattle.frame_log.specs.Extent.{Extent, IsLogOf}
use Rattle.grid_model.specs.Deltas.{spelling}
use Rattle.grid_deed.specs.Frame.{AddsInRoom}
use Rattle.grid_deed.proofs.Frames.{room_same, room_committed, small_gate}
use Rattle.frame_log.specs.Log.{IsLog}
use Rattle.grid_outside.specs.Device.{DeviceState, IsSettled, Leaves}
use Rattle.grid_outside.specs.Disk.{DiskState}
use Rattle.grid_outside.specs.declared.outside.Wear.{Wear}
use Rattle.grid_outside.specs.declared.outside.Wear.TheVariants.{Log}
use Rattle.grid_model.specs.Names.{Text}
use Rattle.grid_model.specs.Rows.{Cat, empty_cat}
use Rattle.grid_model.specs.Applying.{IsMade, apply_all}
use Rattle.grid_model.specs.declared.deltas.Delta.{Delta}
use Rattle.grid_model.specs.declared.grid.Side.{Side}
use Rattle.grid_journal.specs.Journal.{Journal, Keeps, ClosesAt}
use Rattle.grid_journal.specs.Store.{Commits, Stages}
use Rattle.grid_journal.specs.Stands.{StandsEither, StandsFor}
use Rattle.grid_journal.proofs.KeepingLemmas.{keeps_stands as journal_stands}
use Rattle.grid_journal.proofs.DeltaLemmas.{apply_all_after}
use Rattle.grid_journal.specs.declared.error.JournalError.{JournalError}
use Rattle.grid_journal.specs.declared.error.JournalError.TheVariants as journal
use Rattle.grid_deed.specs.Held.{IsHeld, IsKept, IsStaged, CommitLeaves, IsCommitted}

-- ---- what main stands for

pub held_stands : (c : Cat) (main : DiskState) (s : Journal) → IsHeld c main s → IsTrue main.tells → StandsFor main.holds c
held_stands c main s held told spare = journal_stands c s main.holds spare (held.keeps told)

-- the log that a journal stands on closes at its gate
pub closes_at : (c : Cat) (j : Journal) (main : Text) (place : ℕ) → place ≡ j.log.gate → Keeps c j main → ClosesAt main place
closes_at c j main place is keeps =
    let P : ℕ → Type 0 = λ b. IsLog b keeps.records main in
    record {
      records = keeps.records;
      log = subst P keeps.base keeps.log.is_log;
      place_is = omega (arith, is, ap (λ (e : Extent). e.gate) keeps.log.extent, keeps.base);
    }

pub made_more : (c d : Cat) (deltas : List Delta) → IsMade c → apply_all c deltas ≡ Ok d → IsMade d
made_more c d deltas made e = (made.0 ++ deltas, apply_all_after made.0 deltas empty_cat c made.1 ∙ e)

-- the disk holds what it held, and a stop leaves nothing that it could not leave before
pub record Rests (old new : DeviceState (List ℕ)) : Type 0 where
  pub holds : new.holds ≡ old.holds
  pub left : (t : ℕ) (image : List ℕ) → new.left t image → old.left t image

pub rests_where : {M : Type 0} (state : M → DiskState) (a b : M) → b ≡ a → Rests (state a) (state b)
rests_where {M = M} state a b e = let P : M → Type 0 = λ m. Rests (state a) (state m) in subst P (sym e) (record { holds = refl; left = λ t image left. left })

-- what a commit leaves is one of two
pub either_of : (kept after : Cat) (result : Result ⊤ JournalError) (main : Text) → CommitLeaves kept after result main → StandsEither kept after main
either_of kept after (Ok done) main s = s
either_of kept after (Err journal.Memory) main s = inl s
either_of kept after (Err journal.DiskFault) main s = s
either_of kept after (Err (journal.Worn what place)) main s = inl s
either_of kept after (Err (journal.NotEmpty side len)) main s = s
either_of kept after (Err (journal.NotACatalogue side place)) main s = s

-- ---- one commit

module _ (kept after : Cat) (deltas : List Delta) (from : ℕ) (old new : Journal) (main_old main_new : DiskState) (held : IsHeld kept main_old old) (applied : apply_all old.cat deltas ≡ Ok after) (last : main_old.last ≤ from) (tells : main_new.tells ≡ main_old.tells)
    (either : IsTrue main_old.tells → IsSettled main_old → Leaves from (StandsEither kept after) main_new) where
  done_well : Commits deltas old new → (IsTrue main_old.tells → Keeps new.cat new main_new.holds) → (IsTrue main_old.tells → IsSettled main_new) → IsKept after main_old main_new new
  done_well commits keeps settled =
      let ours : apply_all old.cat deltas ≡ Ok new.cat = commits.applied in
      let same : new.cat ≡ after = (let both : Ok new.cat ≡ Ok after = sym ours ∙ applied in cc) in
      let K : Cat → Type 0 = λ x. Keeps x new main_new.holds in
      record {
        held = record {
          sound = commits.sound;
          staged = ap (apply_all after) commits.staged ∙ ap Ok (sym same);
          keeps = λ told. subst K same (keeps (subst IsTrue tells told));
          made = made_more old.cat after deltas (made_more kept old.cat old.staged held.made held.staged) applied;
        };
        cat = same;
        staged = commits.staged;
        settled = settled;
      }

  stood : Rests main_old main_new → IsTrue main_old.tells → StandsFor main_new.holds kept
  stood rests told = let P : Text → Type 0 = λ m. StandsFor m kept in subst P (sym rests.holds) (held_stands kept main_old old held told)

  stays : Rests main_old main_new → IsTrue main_old.tells → IsSettled main_old → Leaves from (λ main. StandsFor main kept) main_new
  stays rests told settled t image late left = let P : Text → Type 0 = λ m. StandsFor m kept in subst P (sym (settled t image (omega (arith, late, last)) (rests.left t image left))) (held_stands kept main_old old held told)

  pub committed_so : (result : Result ⊤ JournalError) → OnOk result (Commits deltas old new) → OnOk result (IsTrue main_old.tells → (c : Cat) → Keeps c old main_old.holds → Keeps new.cat new main_new.holds) → OnOk result (IsTrue main_old.tells → IsSettled main_new)
      → ((what : Wear) (at : ℕ) → IsErrOf result (journal.Worn what at) → (what ≡ Log) × (at ≡ old.log.gate) × (2 ^ 62 < old.log.gate)) → ((e : JournalError) → IsErrOf result e → e ≢ journal.DiskFault → Rests main_old main_new)
      → ((side : Side) (at : ℕ) → (¬ IsErrOf result (journal.NotEmpty side at)) × (¬ IsErrOf result (journal.NotACatalogue side at)))
      → IsCommitted kept after from old main_old main_new result new
  committed_so (Ok done) commits keeps settled worn rests other = record { ends = done_well commits (λ told. keeps told kept (held.keeps told)) settled; leaves = either }
  committed_so (Err journal.DiskFault) commits keeps settled worn rests other = record { ends = tt; leaves = either }
  committed_so (Err journal.Memory) commits keeps settled worn rests other = let r = rests journal.Memory refl (λ e. cc) in record { ends = stood r; leaves = stays r }
  committed_so (Err (journal.Worn what at)) commits keeps settled worn rests other =
      let r = rests (journal.Worn what at) refl (λ e. cc) in
      let w = worn what at refl in
      let P : Text → Type 0 = λ t. ClosesAt t at in
      record { ends = (w.0, omega (arith, w.1, w.2), λ told. (subst P (sym r.holds) (closes_at kept old main_old.holds at w.1 (held.keeps told)), stood r told)); leaves = stays r }
  committed_so (Err (journal.NotEmpty side len)) commits keeps settled worn rests other = absurd ((other side len).0 refl)
  committed_so (Err (journal.NotACatalogue side at)) commits keeps settled worn rests other = absurd ((other side at).1 refl)

-- its record was added where there was room, unless the disk failed
pub commit_room : {M : Type 0} (disk : M → DiskState) (kept : Cat) (deltas : List Delta) (old new : Journal) (a b : M) (result : Result ⊤ JournalError) → IsHeld kept (disk a) old → OnOk result (Commits deltas old new)
    → OnOk result (IsTrue (disk a).tells → (c : Cat) (k : Keeps c old (disk a).holds) → IsLogOf new.log (k.records ++ flat_map spelling (old.staged ++ deltas) ∷ []) (disk b).holds)
    → ((what : Wear) (at : ℕ) → IsErrOf result (journal.Worn what at) ↔ ((what ≡ Log) × (at ≡ old.log.gate) × (2 ^ 62 < old.log.gate)))
    → ((e : JournalError) → IsErrOf result e → e ≢ journal.DiskFault → b ≡ a) → (¬ IsErrOf result journal.DiskFault) → AddsInRoom (disk a) (disk b)
commit_room disk kept deltas old new a b (Ok done) held commits added worn same ok told =
    let k = held.keeps told in
    inr (room_committed kept old new deltas _ (disk a).holds (disk b).holds k commits (added told kept k) (small_gate old.log.gate (λ past. (let w = (worn Log old.log.gate).1 (refl, refl, past) in cc))))
commit_room disk kept deltas old new a b (Err e) held commits added worn same ok told = room_same disk a b (same e refl (λ is. ok (ap Err is))) told

-- an error of one result, as that of another
pub err_as : {T U : Type 0} (s e : JournalError) → IsErrOf {T = T} {E = JournalError} (Err s) e → IsErrOf {T = U} {E = JournalError} (Err s) e
err_as s e is = let same : s ≡ e = cc in ap Err same

-- ---- changes that are left to the next commit

pub staged_so : (kept after : Cat) (deltas : List Delta) (main : DiskState) (old new : Journal) → IsHeld kept main old → apply_all old.cat deltas ≡ Ok after → {E : Type 0} (result : Result ⊤ E) → OnOk result (Stages deltas old new)
    → OnOk result ((c : Cat) (main : Text) → Keeps c old main → Keeps c new main) → OnOk result (IsStaged kept after main new)
staged_so kept after deltas main old new held applied (Err e) stages keeps = tt
staged_so kept after deltas main old new held applied (Ok done) stages keeps = record {
  held = record {
    sound = stages.sound;
    staged = ap (apply_all kept) stages.staged ∙ apply_all_after old.staged deltas kept old.cat held.staged ∙ stages.applied;
    keeps = λ told. keeps kept main.holds (held.keeps told);
    made = held.made;
  };
  cat = (let both : Ok new.cat ≡ Ok after = sym stages.applied ∙ applied in cc);
}
