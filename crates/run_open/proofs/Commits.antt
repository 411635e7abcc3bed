-- The changes with which a run is begun, and the commit that keeps them.
use Rattle.std.proofs.Common.{◌≡◌, ℕ, ◌+◌, ◌<◌, Bool, List, [], ◌∷◌, ◌++◌, Option, Result, Ok, Err, None, Some, refl, ap, ◌∙◌, subst, arith}
use Rattle.std.specs.Prelude.{⊤, nat_lt, nat_le, flat_map, is_some, OnOk, IsErrOf, IsTrue}
use Rattle.std.proofs.lemmas.Bool.{and_from, lt-ltb, le-leb}
use Rattle.frame_log.specs.Log.{IsLog}
use Rattle.frame_log.specs.Extent.{IsLogOf}
use Rattle.grid_model.specs.Names.{Text}
use Rattle.grid_model.specs.Deltas.{spelling}
use Rattle.grid_model.specs.Rows.{Cat}
use Rattle.grid_model.specs.Applying.{IsMade, apply, apply_all, where_fits}
use Rattle.grid_model.specs.declared.grid.Side.{Side}
use Rattle.grid_model.specs.declared.deltas.Numbers.{Numbers}
use Rattle.grid_model.specs.declared.deltas.Delta.{Delta}
use Rattle.grid_model.specs.declared.deltas.Pending.{Pending}
use Rattle.grid_model.specs.declared.deltas.Delta.TheVariants as delta
use Rattle.grid_outside.specs.Disk.{DiskState}
use Rattle.grid_journal.specs.Journal.{Journal, Keeps}
use Rattle.grid_journal.specs.declared.error.JournalError.{JournalError}
use Rattle.grid_journal.specs.declared.error.JournalError.TheVariants as journal
use Rattle.grid_journal.proofs.DeltaLemmas.{then_all}
use Rattle.grid_deed.specs.Held.{IsHeld}
use Rattle.grid_deed.proofs.Keeping.{made_more}
use Rattle.grid_headline.specs.Ends.{HasOneMore}
use Rattle.service_run.specs.Errors.{IsOfCommit}
use Rattle.run_open.specs.Beginning.{begin_deltas, run_begun}
use Rattle.run_open.proofs.VaultNumbers.{vault_made}

abbrev next_run : Cat → Numbers
next_run c = record { next_vault = c.numbers.next_vault; run = c.numbers.run + 1; last = 0 }

applied_numbers : (c : Cat) → 0 < c.numbers.next_vault → apply c (delta.Numbers (next_run c)) ≡ Ok (record c { numbers = next_run c })
applied_numbers c some =
    ap (λ b. where_fits b 19 (record c { numbers = next_run c }))
    (and_from (nat_lt 0 c.numbers.next_vault) (nat_le c.numbers.next_vault c.numbers.next_vault) (lt-ltb 0 c.numbers.next_vault some) (le-leb c.numbers.next_vault c.numbers.next_vault (omega arith)))

-- the changes lead to the catalogue of the run
applied_run : (c : Cat) → 0 < c.numbers.next_vault → (o : Option Pending) → c.pending ≡ o → apply_all c (begin_deltas (is_some o) (next_run c)) ≡ Ok (run_begun c)
applied_run c some None none =
    ap (then_all []) (applied_numbers c some) ∙ ap (λ (o : Option Pending). (let d : Cat = record c { numbers = next_run c; pending = o } in Result.Ok d)) none
applied_run c some (Some p) is =
    let cleared : Cat = record c { pending = None } in
    ap (then_all (delta.Numbers (next_run c) ∷ [])) (ap (λ (o : Option Pending). where_fits (is_some o) 21 cleared) is) ∙ ap (then_all []) (applied_numbers cleared some)

-- what memory has was made by changes too
pub made_now : (kept : Cat) (main : DiskState) (rows : Journal) → IsHeld kept main rows → IsMade rows.cat
made_now kept main rows held = made_more kept rows.cat rows.staged held.made held.staged

pub is_begun : (c : Cat) → IsMade c → (tables : Cat) → tables ≡ c → (n : Numbers) → n ≡ tables.numbers → (pending : Bool) → pending ≡ is_some c.pending → (deltas : List Delta)
    → deltas ≡ begin_deltas pending (record { next_vault = n.next_vault; run = n.run + 1; last = 0 }) → apply_all c deltas ≡ Ok (run_begun c)
is_begun c m tables tables_are n n_is pending pending_is deltas deltas_are =
    let same : n ≡ c.numbers = n_is ∙ ap (λ (c : Cat). c.numbers) tables_are in
    ap (apply_all c) (deltas_are ∙ ap (λ (k : Numbers). begin_deltas pending (record { next_vault = k.next_vault; run = k.run + 1; last = 0 })) same
    ∙ ap (λ b. begin_deltas b (next_run c)) pending_is) ∙ applied_run c (vault_made m.0 c m.1) c.pending refl

-- the log has one record more
pub one_record : (kept : Cat) (old new : Journal) (deltas : List Delta) (main_old main_new : Text) (k : Keeps kept old main_old) → Keeps new.cat new main_new
    → IsLogOf new.log (k.records ++ flat_map spelling (old.staged ++ deltas) ∷ []) main_new → HasOneMore main_old main_new
one_record kept old new deltas main_old main_new k keeps added = record {
  records = k.records;
  one = flat_map spelling (old.staged ++ deltas);
  before = subst (λ (b : ℕ). IsLog b k.records main_old) k.base k.log.is_log;
  after = subst (λ (b : ℕ). IsLog b (k.records ++ flat_map spelling (old.staged ++ deltas) ∷ []) main_new) keeps.base added.is_log;
}

-- where the commit was done
pub more_where : (old new : Journal) (deltas : List Delta) (main_old main_new : DiskState) (kept : Cat) → IsHeld kept main_old old → (r : Result ⊤ JournalError)
    → OnOk r (IsTrue main_old.tells → (c : Cat) → Keeps c old main_old.holds → Keeps new.cat new main_new.holds)
    → OnOk r (IsTrue main_old.tells → (c : Cat) (k : Keeps c old main_old.holds) → IsLogOf new.log (k.records ++ flat_map spelling (old.staged ++ deltas) ∷ []) main_new.holds)
    → OnOk r (IsTrue main_old.tells → HasOneMore main_old.holds main_new.holds)
more_where old new deltas main_old main_new kept held (Ok done) keeps added = λ told. (let k = held.keeps told in
    one_record kept old new deltas main_old.holds main_new.holds k (keeps told kept k) (added told kept k))
more_where old new deltas main_old main_new kept held (Err e) keeps added = tt

-- an error that a commit may have
pub of_commit_where : (r : Result ⊤ JournalError) → ((side : Side) (at : ℕ) → (¬ IsErrOf r (journal.NotEmpty side at)) × (¬ IsErrOf r (journal.NotACatalogue side at)))
    → (e : JournalError) → IsErrOf r e → IsOfCommit e
of_commit_where r other journal.Memory is = tt
of_commit_where r other journal.DiskFault is = tt
of_commit_where r other (journal.Worn what at) is = tt
of_commit_where r other (journal.NotEmpty side len) is = absurd ((other side len).0 is)
of_commit_where r other (journal.NotACatalogue side at) is = absurd ((other side at).1 is)
