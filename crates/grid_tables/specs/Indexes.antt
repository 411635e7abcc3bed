-- Ids of rows in the order of parent and name.
use Rattle.std.specs.Prelude.{◌≡◌, ◌==◌, ◌&&◌, ℕ, Bool, List, map}
use Rattle.std.specs.List.Sorted.{IsStrictlySortedBy}
use Rattle.std.specs.declared.cmp.Ordering.{Ordering}
use Rattle.std.specs.declared.cmp.Ordering.TheVariants.{Equal}
use Rattle.std.specs.Ordering.{nat_cmp, ordering_then}
use Rattle.grid_model.specs.Names.{Text, text_cmp, same_text}
use Rattle.tables_laws.proofs.Rows.{IsIn}

module _ {X : Type 0} (parent : X → ℕ) (name : X → Text) where
  -- rows by the parent, and then by the name
  abbrev pub place_cmp : X → X → Ordering
  place_cmp a b = ordering_then (nat_cmp (parent a) (parent b)) (text_cmp (name a) (name b))

  -- how a name in a parent stands to a row
  abbrev pub order_at : ℕ → Text → X → Ordering
  order_at above called r = ordering_then (nat_cmp above (parent r)) (text_cmp called (name r))

  -- a row has this name in this parent
  abbrev pub is_placed : ℕ → Text → X → Bool
  is_placed above called r = (parent r == above) && same_text (name r) called

  -- no two rows have one name in one parent
  abbrev pub IsPlacedOnce : List X → Type 0
  IsPlacedOnce rows = (x y : X) → IsIn rows x → IsIn rows y → place_cmp x y ≡ Equal → x ≡ y

-- The ids are those of these rows, which strictly rise in an order.
pub record IsIndex {X : Type 0} (number : X → ℕ) (cmp : X → X → Ordering) (rows : List X) (ids : List ℕ) : Type 0 where
  -- the rows in this order
  pub named : List X
  pub ids_are : ids ≡ map number named
  pub ordered : IsStrictlySortedBy cmp named
  pub all : (x : X) → IsIn rows x → IsIn named x
  pub none_else : (x : X) → IsIn named x → IsIn rows x
