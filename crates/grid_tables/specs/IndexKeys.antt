-- Keys by which rows are looked for beside their own.
use Rattle.std.specs.Prelude.{◌≡◌, Bool, cond, List, Option, None, find}
use Rattle.std.specs.List.{list_any}
use Rattle.std.specs.List.Sorted.{IsStrictlySortedBy}
use Rattle.std.specs.declared.cmp.Ordering.{Ordering}
use Rattle.tables_laws.proofs.Rows.{IsIn}

-- The keys are those of these rows, each once, and strictly rise.
pub record AreKeysOf {X K : Type 0} (of : X → K) (cmp : K → K → Ordering) (rows : List X) (keys : List K) : Type 0 where
  pub ordered : IsStrictlySortedBy cmp keys
  pub all : (x : X) → IsIn rows x → IsIn keys (of x)
  pub none_else : (k : K) → IsIn keys k → (x : X) × IsIn rows x × (of x ≡ k)

-- the row that passes a test, where no key passes one
abbrev pub replaced_at : {X K : Type 0} → (X → Bool) → List X → (K → Bool) → List K → Option X
replaced_at test rows ties keys = cond (list_any ties keys) None (find test rows)
