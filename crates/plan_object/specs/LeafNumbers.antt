-- The numbers of an object's replicas on their leaves, and of new ones.
use Rattle.std.specs.Prelude.{ℕ, zero, suc, ◌+◌, ◌^◌, max, true, false, ◌==◌, nat_lt, List, [], ◌∷◌, ◌++◌, length, find, Option, None, Some}
use Rattle.std.specs.List.{list_any}
use Rattle.grid_model.specs.declared.deltas.ReplicaRow.{ReplicaRow}
use Rattle.file_laws.specs.Puts.{Target}
use Rattle.file_laws.specs.Rewriting.{NumberedTarget}
use Rattle.plan_object.specs.declared.numbering.LeafNumber.{LeafNumber}

-- the number of a replica on its leaf
abbrev pub leaf_number_of : ReplicaRow → LeafNumber
leaf_number_of r = record { leaf = r.leaf; number = r.number }

-- one more than the greatest, and 0 without any
abbrev pub above_all : List LeafNumber → ℕ
above_all [] = 0
above_all (n ∷ taken) = max (n.number + 1) (above_all taken)

-- the least number from n on that is not taken, of so many
abbrev pub first_gap : ℕ → List LeafNumber → ℕ → ℕ
first_gap zero taken n = n
first_gap (suc d) taken n = elim (list_any (λ (t : LeafNumber). t.number == n) taken) [ true ↦ first_gap d taken (n + 1) | false ↦ n ]

-- the next number: one more than the greatest, and where that has no 32 bits the least that is not taken
abbrev pub fresh_number : List LeafNumber → ℕ
fresh_number taken = elim (nat_lt (above_all taken) (2 ^ 32)) [ true ↦ above_all taken | false ↦ first_gap (length taken) taken 0 ]

-- a leaf keeps its number, and gets the next one where it has none
abbrev pub leaf_number_by : List LeafNumber → ℕ → Option LeafNumber → LeafNumber
leaf_number_by taken leaf None = record { leaf = leaf; number = fresh_number taken }
leaf_number_by taken leaf (Some n) = n

-- the number of a leaf
abbrev pub leaf_number_on : List LeafNumber → ℕ → LeafNumber
leaf_number_on taken leaf = leaf_number_by taken leaf (find (λ (t : LeafNumber). t.leaf == leaf) taken)

-- then they are these
abbrev pub more_taken_by : List LeafNumber → ℕ → Option LeafNumber → List LeafNumber
more_taken_by taken leaf None = taken ++ leaf_number_by taken leaf None ∷ []
more_taken_by taken leaf (Some n) = taken

abbrev pub more_taken : List LeafNumber → ℕ → List LeafNumber
more_taken taken leaf = more_taken_by taken leaf (find (λ (t : LeafNumber). t.leaf == leaf) taken)

-- the targets with their numbers, one after another
abbrev pub with_numbers : List LeafNumber → List Target → List NumberedTarget
with_numbers taken [] = []
with_numbers taken (t ∷ ts) = record { target = t; number = (leaf_number_on taken t.leaf).number } ∷ with_numbers (more_taken taken t.leaf) ts
