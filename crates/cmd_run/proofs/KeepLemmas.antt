-- The keeping of changes.
use Rattle.std.proofs.Common.{◌≡◌, inl, ℕ, ◌<◌, ◌≤◌, List, [], ◌∷◌, Ok, Err, sym, ap, ◌∙◌, subst, arith}
use Rattle.std.specs.Prelude.{Result}
use Rattle.grid_outside.specs.Disk.{DiskState}
use Rattle.grid_model.specs.Names.{Text}
use Rattle.grid_model.specs.Rows.{Cat}
use Rattle.grid_model.specs.Applying.{apply, apply_all}
use Rattle.grid_model.specs.declared.deltas.Delta.{Delta}
use Rattle.grid_model.specs.declared.deltas.Delta.TheVariants as delta
use Rattle.grid_model.specs.declared.deltas.Numbers.{Numbers}
use Rattle.grid_journal.specs.Journal.{Journal}
use Rattle.grid_journal.specs.Stands.{StandsFor}
use Rattle.grid_journal.specs.declared.error.JournalError.{JournalError}
use Rattle.grid_journal.specs.declared.error.JournalError.TheVariants as journal
use Rattle.grid_deed.specs.Held.{IsHeld, IsCommitted, CommitEnds}
use Rattle.grid_deed.proofs.Keeping.{held_stands, either_of}
use Rattle.grid_outside.specs.Files.{StoreState}
use Rattle.grid_deed.specs.Safe.{KeepWhole}
use Rattle.grid_deed.proofs.Wholes.{whole_of, one_cat}
use Rattle.cmd_run.specs.declared.server.Server.{Server}
use Rattle.cmd_run.specs.declared.server.Ending.{Ending}
use Rattle.cmd_run.specs.declared.server.Ending.TheVariants.{Memory}
use Rattle.cmd_run.specs.Errors.{IsOfCommit, ending_of}
use Rattle.cmd_run.specs.Keeps.{KeepEnds, IsKeptSo}
use Rattle.cmd_run.specs.Rules.{ruled}
use Rattle.cmd_run.proofs.RuledRows.{applied_last, with_text}

-- ---- the changes

then_none : Result Cat ℕ → Result Cat ℕ
then_none r = elim r [ Ok next ↦ apply_all next [] | Err cause ↦ Err cause ]

apply_one : (x : Delta) (c next : Cat) → apply c x ≡ Ok next → apply_all c (x ∷ []) ≡ Ok next
unfolding then_none
apply_one x c next e = ap then_none e

module _ (n : ℕ) (text : Text) (c : Cat) where
  -- another text of rules
  pub applied_text : (deltas : List Delta) → deltas ≡ delta.Rules text ∷ [] → apply_all c deltas ≡ Ok (with_text n text c)
  applied_text deltas is = ap (apply_all c) is

  -- and the number of the command
  pub applied_number : (some : 0 < c.numbers.next_vault) (staged : Cat) → staged ≡ with_text n text c → (k : Numbers) → k ≡ c.numbers → (deltas : List Delta)
      → deltas ≡ delta.Numbers (record k { last = n }) ∷ [] → apply_all staged deltas ≡ Ok (ruled n text c)
  applied_number some staged staged_is k k_is deltas is =
      ap (apply_all staged) is
      ∙ ap (λ (x : Cat). apply_all x (delta.Numbers (record k { last = n }) ∷ [])) staged_is
      ∙ ap (λ (x : Numbers). apply_all (with_text n text c) (delta.Numbers (record x { last = n }) ∷ [])) k_is
      ∙ apply_one (delta.Numbers (record c.numbers { last = n })) (with_text n text c) (ruled n text c) (applied_last n text c some)

-- ---- how it ended

module _ (c after : Cat) (from : ℕ) (old : Journal) (main_old main_new : DiskState) where
  pub kept_ok : (new : Journal) (server : Server) → server.store ≡ new → IsCommitted c after from old main_old main_new (Ok tt) new
      → IsKeptSo c after from main_old main_new (Ok tt) server
  kept_ok new server same committed = record {
    ends = (let P : Journal → Type 0 = λ j. CommitEnds c after old main_old main_new (Ok tt) j in subst P (sym same) committed.ends);
    leaves = λ told settled t image late left. either_of c after (Ok tt) image (committed.leaves told settled t image late left);
  }

  pub ends_err : (e : JournalError) (new : Journal) (server : Server) → CommitEnds c after old main_old main_new (Err e) new
      → KeepEnds c after main_old main_new (Err (ending_of e)) server
  ends_err journal.Memory new server ends = tt
  ends_err journal.DiskFault new server ends = tt
  ends_err (journal.Worn what place) new server ends = (ends.0, ends.1, λ told. (ends.2 told).0)
  ends_err (journal.NotEmpty side len) new server ends = absurd ends
  ends_err (journal.NotACatalogue side place) new server ends = absurd ends

  pub kept_err : (e : JournalError) (ending : Ending) (new : Journal) (server : Server) → ending ≡ ending_of e
      → IsCommitted c after from old main_old main_new (Err e) new → IsKeptSo c after from main_old main_new (Err ending) server
  kept_err e ending new server is committed =
      let R : Ending → Type 0 = λ x. IsKeptSo c after from main_old main_new (Err x) server in
      subst R (sym is) (record {
        ends = ends_err e new server committed.ends;
        leaves = λ told settled t image late left. either_of c after (Err e) image (committed.leaves told settled t image late left);
      })

  pub of_commit : (e : JournalError) (new : Journal) → CommitEnds c after old main_old main_new (Err e) new → IsOfCommit e
  of_commit journal.Memory new ends = tt
  of_commit journal.DiskFault new ends = tt
  of_commit (journal.Worn what place) new ends = tt
  of_commit (journal.NotEmpty side len) new ends = ends
  of_commit (journal.NotACatalogue side place) new ends = ends

-- nothing was done
pub not_kept : (c after : Cat) (from : ℕ) (main : DiskState) (s : Journal) (server : Server) → IsHeld c main s → main.last ≤ from
    → IsKeptSo c after from main main (Err Memory) server
not_kept c after from main s server held last = record {
  ends = tt;
  leaves = λ told settled t image late left. (
      let S : Text → Type 0 = λ m. StandsFor m c in
      inl (subst S (sym (settled t image (omega (arith, last, late)) left)) (held_stands c main s held told))
      );
}

pub keep_still : {B : Type 0} (plugin : B → StoreState) (c : Cat) (from : ℕ) (main : DiskState) (s : Journal) (stores : List B) → IsHeld c main s
    → main.last ≤ from → KeepWhole plugin from c main main stores stores
keep_still plugin c from main s stores held last told settled whole t image d late left stands =
    let P : Text → Type 0 = λ m. StandsFor m d in
    whole_of plugin t c d stores (one_cat main.holds c d (held_stands c main s held told) (subst P (settled t image (omega (arith, late, last)) left) stands))
    (whole t late)
