-- The catalogue with which a run is begun: it has the rows that there were, no command has changed anything, and none is pending.
use Rattle.std.proofs.Common.{◌≡◌, ℕ, ◌+◌, None, length, IsTrue, refl, ◌∙◌, arith}
use Rattle.grid_outside.specs.Files.{Files}
use Rattle.grid_model.specs.Rows.{Cat}
use Rattle.grid_model.specs.RowGrids.{grid_of}
use Rattle.grid_model.specs.Whole.{IsLikeObject, HasGoodRows, IsWhole, Names, Naming, by_replica, by_orphan}
use Rattle.grid_model.specs.declared.deltas.ReplicaRow.{ReplicaRow}
use Rattle.tables_laws.proofs.Grids.{grid-same}
use Rattle.grid_headline.specs.Ends.{HasRecovery}
use Rattle.grid_headline.specs.Files.{KeepsNamed}
use Rattle.grid_headline.specs.Numbers.{KeepsNumbers}
use Rattle.count_laws.specs.GivenNumbers.{GivesFew}
use Rattle.run_laws.specs.Opening.{IsBegunWith}
use Rattle.run_laws.specs.Undone.{Undone}
use Rattle.run_laws.proofs.Lists.{all-map}
use Rattle.run_laws.proofs.Images.{keeps-then}

-- these rows as the catalogue with which the run of this number is begun
abbrev pub run_begun : Cat → ℕ → Cat
run_begun rows n = record rows { numbers = record { next_vault = rows.numbers.next_vault; run = n; last = 0 }; pending = None }

module _ (rows : Cat) (n : ℕ) where
  -- its rows name what they named
  pub names_before : (slot name : ℕ) (row : Naming) → Names (run_begun rows n) slot name row → Names rows slot name row
  names_before slot name (by_replica r) its = its
  names_before slot name (by_orphan o) its = its

  pub names_begun : (slot name : ℕ) (row : Naming) → Names rows slot name row → Names (run_begun rows n) slot name row
  names_begun slot name (by_replica r) its = its
  names_begun slot name (by_orphan o) its = its

  pub keeps_begun : KeepsNumbers rows (run_begun rows n)
  keeps_begun = record { rises = omega arith; names = λ slot name row low its. (row, names_before slot name row its) }

  pub rows_begun : HasGoodRows rows → HasGoodRows (run_begun rows n)
  rows_begun good = all-map (λ (r : ReplicaRow). IsTrue r.good → IsLikeObject rows r) (λ (r : ReplicaRow). IsTrue r.good → IsLikeObject (run_begun rows n) r)
      (λ r is good. let like = is good in record { row = like.row; there = like.there; size = like.size; digest = like.digest }) rows.replicas good

  pub named_begun : KeepsNamed rows (run_begun rows n)
  named_begun slot name one = record { row = one.row; names = names_begun slot name one.row one.names; only = λ other its. one.only other (names_before slot name other its) }

  pub files_begun : (slot : ℕ) (files : Files) → IsWhole rows slot files → IsWhole (run_begun rows n) slot files
  files_begun slot files whole = record {
    good = whole.good;
    accounted = λ name file is. named_begun slot name (whole.accounted name file is);
  }

  pub grid-begun : grid_of (run_begun rows n) ≡ grid_of rows
  grid-begun = grid-same rows (run_begun rows n) refl (grid_of rows) refl

-- With what recoveries left, where they lost track of no file, the run is begun.
pub begun-with : (found : Cat) (u : Undone found) (rows : Cat) → rows.rules ≡ found.rules → rows.stores ≡ found.stores → grid_of rows ≡ u.opened.grid
    → KeepsNumbers found rows → GivesFew found rows (length u.report)
    → KeepsNamed found rows
    → (¬ HasRecovery found.pending → (slot name : ℕ) (r : ReplicaRow) → Names found slot name (by_replica r) → Names rows slot name (by_replica r))
    → IsBegunWith found u (run_begun rows (found.numbers.run + 1))
begun-with found u rows rules stores grid keeps few named replicas =
    let n = found.numbers.run + 1 in
    record {
      of_run = record { number = refl; none = refl; keeps = keeps-then found rows (run_begun rows n) keeps (keeps_begun rows n); stores = stores };
      last = refl;
      grid = grid-begun rows n ∙ grid;
      rules = rules ∙ u.rules_are;
      few = record { leaves = few.leaves; numbers = few.numbers };
      named = λ slot name one. named_begun rows n slot name (named slot name one);
      replicas = λ free slot name r its. names_begun rows n slot name (by_replica r) (replicas free slot name r its);
    }
