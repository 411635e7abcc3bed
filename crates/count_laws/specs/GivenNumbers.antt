-- The vault numbers that a command gives, said so that its steps can be joined.
use Rattle.std.specs.Prelude.{◌≡◌, ℕ, ◌+◌, ◌*◌, ◌≤◌}
use Rattle.grid_model.specs.Rows.{Cat}
use Rattle.grid_headline.specs.Numbers.{KeepsNumbers, leaf_count}

-- no leaf is taken away, and for each of so many marks at most as many numbers are given as there are leaves
pub record GivesFew (before after : Cat) (marks : ℕ) : Type 0 where
  pub leaves : leaf_count before ≤ leaf_count after
  pub numbers : after.numbers.next_vault ≤ before.numbers.next_vault + marks * leaf_count after

-- no number is given, there are as many leaves, and each file that is named was named before
pub record GivesNone (before after : Cat) : Type 0 where
  pub keeps : KeepsNumbers before after
  pub numbers : after.numbers.next_vault ≡ before.numbers.next_vault
  pub leaves : leaf_count after ≡ leaf_count before
