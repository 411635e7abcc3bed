-- The greatest of some levels is the least that contains them all, so that order and repetition make no difference.
use Rattle.std.proofs.Common.{◌≡◌, ◌≤◌, true, false, List, [], ◌∷◌, inl, inr, refl, sym, ap, ◌∙◌, arith}
use Rattle.std.proofs.lemmas.Bool.{leb-true, le-leb}
use Rattle.grid_model.specs.Levels.{level_rank, contains_level, greater_level, greatest}
use Rattle.grid_model.specs.declared.grid.Level.{Level}
use Rattle.grid_model.specs.declared.grid.Level.TheVariants.{Null, Read, Write, Own}
use Rattle.tables_laws.proofs.Rows.{IsIn}

-- ---- levels contain one another

contains_itself : (a : Level) → contains_level a a ≡ true
contains_itself Null = refl
contains_itself Read = refl
contains_itself Write = refl
contains_itself Own = refl

contains_null : (a : Level) → contains_level a Null ≡ true
contains_null Null = refl
contains_null Read = refl
contains_null Write = refl
contains_null Own = refl

contains_then : (a b d : Level) → contains_level a b ≡ true → contains_level b d ≡ true → contains_level a d ≡ true
contains_then a b d first then =
    let one : level_rank b ≤ level_rank a = leb-true (level_rank b) (level_rank a) first in
    let two : level_rank d ≤ level_rank b = leb-true (level_rank d) (level_rank b) then in
    le-leb (level_rank d) (level_rank a) (omega arith)

contains_or : (a b : Level) → contains_level a b ≡ false → contains_level b a ≡ true
contains_or Null Null e = refl
contains_or Null Read e = refl
contains_or Null Write e = refl
contains_or Null Own e = refl
contains_or Read Null e = absurd cc
contains_or Read Read e = refl
contains_or Read Write e = refl
contains_or Read Own e = refl
contains_or Write Null e = absurd cc
contains_or Write Read e = absurd cc
contains_or Write Write e = refl
contains_or Write Own e = refl
contains_or Own Null e = absurd cc
contains_or Own Read e = absurd cc
contains_or Own Write e = absurd cc
contains_or Own Own e = refl

contains_both : (a b : Level) → contains_level a b ≡ true → contains_level b a ≡ true → a ≡ b
contains_both Null Null e f = refl
contains_both Null Read e f = absurd cc
contains_both Null Write e f = absurd cc
contains_both Null Own e f = absurd cc
contains_both Read Null e f = absurd cc
contains_both Read Read e f = refl
contains_both Read Write e f = absurd cc
contains_both Read Own e f = absurd cc
contains_both Write Null e f = absurd cc
contains_both Write Read e f = absurd cc
contains_both Write Write e f = refl
contains_both Write Own e f = absurd cc
contains_both Own Null e f = absurd cc
contains_both Own Read e f = absurd cc
contains_both Own Write e f = absurd cc
contains_both Own Own e f = refl

-- ---- the greater of two

greater_first : (a b : Level) → contains_level (greater_level a b) a ≡ true
greater_first a b = elim (contains_level a b) as (λ t. contains_level a b ≡ t → contains_level (elim t [ true ↦ a | false ↦ b ]) a ≡ true) [
  | true ↦ λ e. contains_itself a
  | false ↦ λ e. contains_or a b e
] refl

greater_second : (a b : Level) → contains_level (greater_level a b) b ≡ true
greater_second a b = elim (contains_level a b) as (λ t. contains_level a b ≡ t → contains_level (elim t [ true ↦ a | false ↦ b ]) b ≡ true) [
  | true ↦ λ e. e
  | false ↦ λ e. contains_itself b
] refl

greater_least : (big a b : Level) → contains_level big a ≡ true → contains_level big b ≡ true → contains_level big (greater_level a b) ≡ true
greater_least big a b first second = elim (contains_level a b) as (λ t. contains_level big (elim t [ true ↦ a | false ↦ b ]) ≡ true) [ true ↦ first | false ↦ second ]

-- ---- the greatest of some

-- it contains each
pub greatest_contains : (levels : List Level) (l : Level) → IsIn levels l → contains_level (greatest levels) l ≡ true
greatest_contains [] l here = absurd here
greatest_contains (a ∷ levels) l (inl is) = ap (contains_level (greatest (a ∷ levels))) (sym is) ∙ greater_first a (greatest levels)
greatest_contains (a ∷ levels) l (inr later) =
    contains_then (greatest (a ∷ levels)) (greatest levels) l (greater_second a (greatest levels)) (greatest_contains levels l later)

-- and what contains each contains it
pub greatest_least : (levels : List Level) (big : Level) → ((l : Level) → IsIn levels l → contains_level big l ≡ true) → contains_level big (greatest levels) ≡ true
greatest_least [] big each = contains_null big
greatest_least (a ∷ levels) big each = greater_least big a (greatest levels) (each a (inl refl)) (greatest_least levels big (λ l later. each l (inr later)))

-- the same levels have the same greatest
pub greatest-same : (one other : List Level) → ((l : Level) → IsIn one l → IsIn other l) → ((l : Level) → IsIn other l → IsIn one l) → greatest one ≡ greatest other
greatest-same one other to from =
    contains_both (greatest one) (greatest other) (greatest_least other (greatest one) (λ l here. greatest_contains one l (from l here)))
    (greatest_least one (greatest other) (λ l here. greatest_contains other l (to l here)))
