-- The order of names in collections.
use Rattle.std.specs.Prelude.{◌≡◌, ◌≤◌, ℕ, List}
use Rattle.std.specs.declared.cmp.Ordering.{Ordering}
use Rattle.std.specs.declared.cmp.Ordering.TheVariants.{Less, Equal}
use Rattle.std.specs.Ordering.{nat_cmp, ordering_then, ordering_index}
use Rattle.std.specs.Cmp.{IsTotalOrder, nat_cmp_total, on_total, then_total}
use Rattle.std.proofs.Common.{sym, ◌∙◌}
use Rattle.grid_model.specs.Names.{Text, text_cmp}
use Rattle.grid_model.proofs.Comparing.{text_cmp_total, text_cmp-IsAntisymmetric}
use Rattle.grid_tables.specs.declared.child_key.ChildKey.{ChildKey}
use Rattle.grid_tables.specs.IndexKeys.{AreKeysOf}
use Rattle.grid_tables.specs.Indexes.{IsPlacedOnce}
use Rattle.grid_tables.specs.Items.{falls_by, grouped}
use Rattle.grid_tables.specs.KeyOrders.{first_tie, rest_tie, number_whole}

-- by the parent, then by the name, and then by the id
abbrev pub child_cmp : ChildKey → ChildKey → Ordering
child_cmp a b = ordering_then (ordering_then (nat_cmp a.parent b.parent) (text_cmp a.name b.name)) (nat_cmp a.id b.id)

pub child_total : IsTotalOrder child_cmp
child_total =
    then_total (then_total (on_total (λ (k : ChildKey). k.parent) nat_cmp_total) (on_total (λ (k : ChildKey). k.name) text_cmp_total))
    (on_total (λ (k : ChildKey). k.id) nat_cmp_total)

pub child_whole : (a b : ChildKey) → child_cmp a b ≡ Equal → a ≡ b
child_whole a b e =
    let place = first_tie (ordering_then (nat_cmp a.parent b.parent) (text_cmp a.name b.name)) (nat_cmp a.id b.id) e in
    let parent = number_whole a.parent b.parent (first_tie (nat_cmp a.parent b.parent) (text_cmp a.name b.name) place) in
    let name = text_cmp-IsAntisymmetric a.name b.name (rest_tie (nat_cmp a.parent b.parent) (text_cmp a.name b.name) place) in
    let id = number_whole a.id b.id (rest_tie (ordering_then (nat_cmp a.parent b.parent) (text_cmp a.name b.name)) (nat_cmp a.id b.id) e) in
    λ i. record { parent = parent i; name = name i; id = id i }

pub parent_falls : (q : ℕ) (a b : ChildKey) → child_cmp a b ≡ Less → ordering_index (nat_cmp q b.parent) ≤ ordering_index (nat_cmp q a.parent)
parent_falls q a b less =
    falls_by nat_cmp_total q a.parent b.parent (ordering_then (text_cmp a.name b.name) (nat_cmp a.id b.id))
    (sym (grouped (nat_cmp a.parent b.parent) (text_cmp a.name b.name) (nat_cmp a.id b.id)) ∙ less)

pub child_falls : (q : ℕ) (r : Text) (a b : ChildKey) → child_cmp a b ≡ Less
    → ordering_index (ordering_then (nat_cmp q b.parent) (text_cmp r b.name)) ≤ ordering_index (ordering_then (nat_cmp q a.parent) (text_cmp r a.name))
child_falls q r a b less =
    falls_by (then_total (on_total (λ (p : ℕ × Text). p.0) nat_cmp_total) (on_total (λ (p : ℕ × Text). p.1) text_cmp_total)) (q, r)
    (a.parent, a.name) (b.parent, b.name) (nat_cmp a.id b.id) less

-- the key of a row
abbrev pub child_of : {X : Type 0} → (X → ℕ) → (X → ℕ) → (X → Text) → X → ChildKey
child_of number parent name r = record { parent = parent r; name = name r; id = number r }

-- The keys are those of these rows, no two of which have one name in one parent.
pub record AreNamed {X : Type 0} (number parent : X → ℕ) (name : X → Text) (rows : List X) (keys : List ChildKey) : Type 0 where
  pub indexed : AreKeysOf (child_of number parent name) child_cmp rows keys
  pub once : IsPlacedOnce parent name rows
