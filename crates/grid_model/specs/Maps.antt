-- Finite maps and sets as values that compute, and are equal wherever they answer alike, over an order of the keys that is
-- total and tells all of them apart.
use Rattle.std.specs.Prelude.{◌≡◌, Bool, true, false, not, T, List, [], ◌∷◌, Option, map, filter, is_some, refl, ⊤}
use Rattle.std.specs.Bool.{passes}
use Rattle.std.specs.declared.cmp.Ordering.{Ordering}
use Rattle.std.specs.Ordering.{eq_by_cmp}
use Rattle.std.specs.FinMap.{find, put as put_entry, is_sorted}
use Rattle.std.specs.FinMap.Entries.{is_sorted-where_key}

-- entries whose keys strictly rise in the order R
pub record Map {K : Type 0} (R : K → K → Ordering) (X : Type 0) : Type 0 where
  pub entries : List (K × X)
  pub sorted : T (is_sorted R entries)

module _ {K X : Type 0} {R : K → K → Ordering} where
  -- nothing at any key
  abbrev pub empty : Map R X
  empty = record { entries = []; sorted = tt }

  -- the entries where they are in order, and else the map m
  abbrev pub if_sorted : (es : List (K × X)) (b : Bool) → is_sorted R es ≡ b → Map R X → Map R X
  if_sorted es true sorted m = record { entries = es; sorted = passes (is_sorted R es) sorted }
  if_sorted es false unsorted m = m

  -- the value at the key
  abbrev pub get : Map R X → K → Option X
  get m k = find R k m.entries

  -- whether there is one
  abbrev pub has : Map R X → K → Bool
  has m k = is_some (get m k)

  -- m with this value at the key, and at each other key what it had
  abbrev pub put : Map R X → K → X → Map R X
  put m k x = if_sorted (put_entry R k x m.entries) (is_sorted R (put_entry R k x m.entries)) refl m

  -- m without what it has at the key
  abbrev pub remove : Map R X → K → Map R X
  remove m k =
      record { entries = filter (λ e. not (eq_by_cmp R k e.0)) m.entries; sorted = is_sorted-where_key R (λ q. not (eq_by_cmp R k q)) m.entries m.sorted }

  -- the map of a list, in which the first value of a key counts
  abbrev pub from_list : List (K × X) → Map R X
  from_list [] = empty
  from_list (e ∷ es) = put (from_list es) e.0 e.1

  -- the map whose keys are f of these; where two become one, the value of the first counts
  abbrev pub rekey : (K → K) → Map R X → Map R X
  rekey f m = from_list (map (λ e. (f e.0, e.1)) m.entries)

  -- the map whose values are f of these
  abbrev pub with_values : (X → X) → Map R X → Map R X
  with_values f m = from_list (map (λ e. (e.0, f e.1)) m.entries)

-- a finite set
abbrev pub Set : {K : Type 0} → (K → K → Ordering) → Type 0
Set R = Map R ⊤

-- the set with this element
abbrev pub add : {K : Type 0} {R : K → K → Ordering} → Set R → K → Set R
add s k = put s k tt
