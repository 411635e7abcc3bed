-- What steps of a command give of vault numbers: nothing, what a deed that makes files is given, and one step after another.
use Rattle.std.proofs.Common.{◌≡◌, ◌∙◌, ℕ, ◌+◌, ◌*◌, ◌≤◌, List, Ok, refl, ap, arith}
use Rattle.std.proofs.Math.Nat.{mul-le-mul_left, mul-le-mul_right}
use Rattle.grid_model.specs.Rows.{Cat}
use Rattle.grid_model.specs.Applying.{IsMade, apply_all}
use Rattle.grid_model.specs.declared.deltas.Delta.{Delta}
use Rattle.grid_model.specs.declared.deltas.Numbers.{Numbers}
use Rattle.count_laws.specs.GivenNumbers.{GivesFew, GivesNone}
use Rattle.count_laws.proofs.Leaves.{leaves_stay}
use Rattle.count_laws.proofs.RowNumbers.{few_by_numbers}
use Rattle.grid_headline.specs.Numbers.{AddsFew, KeepsNumbers, leaf_count}

-- ---- one step

pub gives_none : (c : Cat) → GivesFew c c 0
gives_none c = record { leaves = omega arith; numbers = omega arith }

-- the resources and the next number stay
pub gives_alike : (a b : Cat) → b.resources ≡ a.resources → b.numbers.next_vault ≡ a.numbers.next_vault → GivesFew a b 0
gives_alike a b resources next =
    let leaves : leaf_count b ≡ leaf_count a = ap (λ rows. leaf_count (record a { resources = rows })) resources in
    record { leaves = omega (arith, leaves); numbers = omega (arith, next) }

-- changes that give no number
pub gives_by_changes : (a b : Cat) (changes : List Delta) → apply_all a changes ≡ Ok b → b.numbers.next_vault ≡ a.numbers.next_vault → GivesFew a b 0
gives_by_changes a b changes led next = record { leaves = leaves_stay a changes b led; numbers = omega (arith, next) }

-- changes of a deed that makes no more files than there are leaves
pub gives_one : (a b : Cat) (changes : List Delta) → apply_all a changes ≡ Ok b → b.numbers.next_vault ≤ a.numbers.next_vault + leaf_count a → GivesFew a b 1
gives_one a b changes led few =
    let stay : leaf_count a ≤ leaf_count b = leaves_stay a changes b led in
    record { leaves = stay; numbers = omega (arith, few, stay) }

-- ---- a plan that draws so many numbers

module _ (a b : Cat) (files : ℕ) (drawn : b.numbers ≡ record a.numbers { next_vault = a.numbers.next_vault + files }) (few : files ≤ leaf_count a) where
  next : b.numbers.next_vault ≡ a.numbers.next_vault + files
  next = ap (λ (n : Numbers). n.next_vault) drawn

  -- behind its first changes
  pub gives_drawn : (changes : List Delta) → apply_all a changes ≡ Ok b → GivesFew a b 1
  gives_drawn changes led = gives_one a b changes led (omega (arith, next, few))

  -- behind its last ones
  pub gives_planned : (mid : Cat) (first last : List Delta) → apply_all a first ≡ Ok mid → apply_all mid last ≡ Ok b → GivesFew a b 1
  gives_planned mid first last led on =
      let more : leaf_count a ≤ leaf_count mid = leaves_stay a first mid led in
      let stay : leaf_count mid ≤ leaf_count b = leaves_stay mid last b on in
      record { leaves = omega (arith, more, stay); numbers = omega (arith, next, few, more, stay) }

-- ---- several steps

pub gives_then : {a b c : Cat} {j k : ℕ} → GivesFew a b j → GivesFew b c k → GivesFew a c (j + k)
gives_then {b = b} {c = c} {j = j} one other =
    let grows : j * leaf_count b ≤ j * leaf_count c = mul-le-mul_left j other.leaves in
    record { leaves = omega (arith, one.leaves, other.leaves); numbers = omega (arith, one.numbers, other.numbers, grows) }

-- for more marks
pub gives_more : {a b : Cat} {j : ℕ} (k : ℕ) → j ≤ k → GivesFew a b j → GivesFew a b k
gives_more {b = b} {j = j} k more few =
    let grows : j * leaf_count b ≤ k * leaf_count b = mul-le-mul_right (leaf_count b) more in
    record { leaves = few.leaves; numbers = omega (arith, few.numbers, grows) }

-- before or behind steps that give none
pub gives_behind : {a b c : Cat} {k : ℕ} → GivesFew a b 0 → GivesFew b c k → GivesFew a c k
gives_behind none few = record { leaves = omega (arith, none.leaves, few.leaves); numbers = omega (arith, none.numbers, few.numbers) }

pub gives_before : {a b c : Cat} {k : ℕ} → GivesFew a b k → GivesFew b c 0 → GivesFew a c k
gives_before {b = b} {c = c} {k = k} few none =
    let grows : k * leaf_count b ≤ k * leaf_count c = mul-le-mul_left k none.leaves in
    record { leaves = omega (arith, few.leaves, none.leaves); numbers = omega (arith, few.numbers, none.numbers, grows) }

-- ---- rows

pub adds_few : {a b : Cat} {k : ℕ} → IsMade b → KeepsNumbers a b → GivesFew a b k → AddsFew a b k
adds_few {a = a} {b = b} {k = k} made keeps few = few_by_numbers a b made keeps k few.numbers

-- ---- none

pub none_few : (a b : Cat) → GivesNone a b → GivesFew a b 0
none_few a b none = record { leaves = omega (arith, none.leaves); numbers = omega (arith, none.numbers) }

keeps_both : (a b c : Cat) → KeepsNumbers a b → KeepsNumbers b c → KeepsNumbers a c
keeps_both a b c first then = record {
  rises = omega (arith, first.rises, then.rises);
  names = λ slot name row low its.
      let was = then.names slot name row (omega (arith, low, first.rises)) its in
      first.names slot name was.0 low was.1;
}

pub none_self : (c : Cat) → GivesNone c c
none_self c = record { keeps = record { rises = omega arith; names = λ slot name row low its. (row, its) }; numbers = refl; leaves = refl }

pub none_then : (a b c : Cat) → GivesNone a b → GivesNone b c → GivesNone a c
none_then a b c one two = record {
  keeps = keeps_both a b c one.keeps two.keeps;
  numbers = two.numbers ∙ one.numbers;
  leaves = two.leaves ∙ one.leaves;
}
