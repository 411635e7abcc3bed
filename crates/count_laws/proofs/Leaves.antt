-- No change takes a leaf away: a resource that is put in the place of another one is of its kind, and none is dropped.
use Rattle.std.proofs.Common.{◌≡◌, ◌∙◌, ℕ, ◌≤◌, Bool, true, false, cond, List, [], ◌∷◌, length, Ok, inl, inr, refl, sym, ap, subst, arith}
use Rattle.std.specs.Prelude.{filter}
use Rattle.std.specs.declared.cmp.Ordering.{Ordering}
use Rattle.std.specs.declared.cmp.Ordering.TheVariants.{Less, Equal, Greater}
use Rattle.grid_model.specs.Rows.{Cat, with_row, resource_cmp}
use Rattle.grid_model.specs.Applying.{apply, apply_all, is_storage, resource_fits, where_fits}
use Rattle.grid_model.specs.declared.deltas.Delta.{Delta}
use Rattle.grid_model.specs.declared.deltas.Delta.TheVariants as delta
use Rattle.grid_model.specs.declared.deltas.ResourceRow.{ResourceRow}
use Rattle.tables_laws.proofs.Rows.{IsIn}
use Rattle.tables_laws.proofs.Counting.{count}
use Rattle.tables_laws.proofs.Numbered.{same_number}
use Rattle.tables_laws.proofs.Sound.{after_first, fits_so, ok-same}
use Rattle.tables_laws.proofs.Ties.{replaced}
use Rattle.grid_headline.specs.Numbers.{leaf_count}

module _ {X : Type 0} (p : X → Bool) where
  count-one_more : (x : X) (xs : List X) → count p xs ≤ count p (x ∷ xs)
  count-one_more x xs = elim (p x) as (λ b. length (filter p xs) ≤ length (cond b (x ∷ filter p xs) (filter p xs))) [ true ↦ omega arith | false ↦ omega arith ]

  count-behind : (x : X) (xs ys : List X) → count p xs ≤ count p ys → count p (x ∷ xs) ≤ count p (x ∷ ys)
  count-behind x xs ys few =
      elim (p x) as (λ b. length (cond b (x ∷ filter p xs) (filter p xs)) ≤ length (cond b (x ∷ filter p ys) (filter p ys))) [
        | true ↦ omega (arith, few)
        | false ↦ few
      ]

  count-alike : (x y : X) (xs : List X) → p x ≡ p y → count p (x ∷ xs) ≡ count p (y ∷ xs)
  count-alike x y xs same =
      ap (λ b. length (cond b (x ∷ filter p xs) (filter p xs))) same
      ∙ elim (p y) as (λ b. length (cond b (x ∷ filter p xs) (filter p xs)) ≡ length (cond b (y ∷ filter p xs) (filter p xs))) [ true ↦ refl | false ↦ refl ]

  -- a row that is put in the place of one that passes where it does leaves no fewer that pass
  count-no_fewer : (cmp : X → X → Ordering) (rows : List X) (row : X) → ((x : X) → IsIn rows x → cmp row x ≡ Equal → p x ≡ p row)
      → count p rows ≤ count p (with_row cmp rows row)
  count-no_fewer cmp [] row alike = omega arith
  count-no_fewer cmp (r ∷ rows) row alike =
      elim (cmp row r) as (λ o. cmp row r ≡ o
      → count {X = X} p (r ∷ rows) ≤ count {X = X} p (elim o [ Less ↦ row ∷ r ∷ rows | Equal ↦ row ∷ rows | Greater ↦ r ∷ with_row cmp rows row ])) [
        | Less ↦ λ e. count-one_more row (r ∷ rows)
        | Equal ↦ λ e. let same = count-alike r row rows (alike r (inl refl) e) in omega (arith, same)
        | Greater ↦ λ e. count-behind r rows (with_row cmp rows row) (count-no_fewer cmp rows row (λ x later. alike x (inr later)))
      ] refl

-- ---- a change

resource_leaves : (c : Cat) (r : ResourceRow) → resource_fits c r ≡ true
    → leaf_count c ≤ leaf_count (record c { resources = with_row resource_cmp c.resources r })
resource_leaves c r fits =
    count-no_fewer (λ (x : ResourceRow). is_storage x.kind) resource_cmp c.resources r (λ x here equal.
    ap is_storage (replaced c r fits x here (sym (same_number r.id x.id equal))))

then_leaves : (b : Bool) (cause : ℕ) (c next d : Cat) → (b ≡ true → leaf_count c ≤ leaf_count next) → where_fits b cause next ≡ Ok d
    → leaf_count c ≤ leaf_count d
then_leaves b cause c next d stay e = let so = fits_so b cause next d e in subst (λ (x : Cat). leaf_count c ≤ leaf_count x) so.1 (stay so.0)

apply_leaves : (c d : Cat) (change : Delta) → apply c change ≡ Ok d → leaf_count c ≤ leaf_count d
apply_leaves c d (delta.Zone name stores) e = then_leaves _ 1 c _ d (λ fits. omega arith) e
apply_leaves c d (delta.User r) e = then_leaves _ 2 c _ d (λ fits. omega arith) e
apply_leaves c d (delta.Member m) e = then_leaves _ 3 c _ d (λ fits. omega arith) e
apply_leaves c d (delta.NoMember m) e = then_leaves _ 4 c _ d (λ fits. omega arith) e
apply_leaves c d (delta.Collection r) e = then_leaves _ 5 c _ d (λ fits. omega arith) e
apply_leaves c d (delta.NoCollection id) e = then_leaves _ 6 c _ d (λ fits. omega arith) e
apply_leaves c d (delta.Object r) e = then_leaves _ 7 c _ d (λ fits. omega arith) e
apply_leaves c d (delta.NoObject id) e = then_leaves _ 8 c _ d (λ fits. omega arith) e
apply_leaves c d (delta.Replica r) e = then_leaves _ 9 c _ d (λ fits. omega arith) e
apply_leaves c d (delta.NoReplica object number) e = then_leaves _ 10 c _ d (λ fits. omega arith) e
apply_leaves c d (delta.Triple t) e = then_leaves _ 11 c _ d (λ fits. omega arith) e
apply_leaves c d (delta.NoTriple t) e = then_leaves _ 12 c _ d (λ fits. omega arith) e
apply_leaves c d (delta.Entry x) e = then_leaves _ 13 c _ d (λ fits. omega arith) e
apply_leaves c d (delta.NoEntry k id user) e = then_leaves _ 14 c _ d (λ fits. omega arith) e
apply_leaves c d (delta.Resource r) e = then_leaves _ 15 c _ d (resource_leaves c r) e
apply_leaves c d (delta.Rules text) e = subst (λ (x : Cat). leaf_count c ≤ leaf_count x) (ok-same _ d (apply c (delta.Rules text)) refl e) (omega arith)
apply_leaves c d (delta.Orphan r) e = then_leaves _ 17 c _ d (λ fits. omega arith) e
apply_leaves c d (delta.NoOrphan vault) e = then_leaves _ 18 c _ d (λ fits. omega arith) e
apply_leaves c d (delta.Numbers n) e = then_leaves _ 19 c _ d (λ fits. omega arith) e
apply_leaves c d (delta.Pending p) e = then_leaves _ 20 c _ d (λ fits. omega arith) e
apply_leaves c d delta.NoPending e = then_leaves _ 21 c _ d (λ fits. omega arith) e

pub leaves_stay : (c : Cat) (deltas : List Delta) (after : Cat) → apply_all c deltas ≡ Ok after → leaf_count c ≤ leaf_count after
leaves_stay c [] after e = subst (λ (x : Cat). leaf_count c ≤ leaf_count x) (ok-same c after (apply_all c []) refl e) (omega arith)
leaves_stay c (change ∷ changes) after e =
    let step = after_first (apply c change) changes after e in
    let one : leaf_count c ≤ leaf_count step.0 = apply_leaves c step.0 change step.1 in
    let rest : leaf_count step.0 ≤ leaf_count after = leaves_stay step.0 changes after step.2 in
    omega (arith, one, rest)
