-- The order of items, in which their rows stand.
use Rattle.std.specs.Prelude.{◌≡◌, ◌≤◌, ℕ}
use Rattle.std.proofs.Common.{refl, ap, ◌∙◌, arith}
use Rattle.std.specs.declared.cmp.Ordering.{Ordering}
use Rattle.std.specs.declared.cmp.Ordering.TheVariants.{Less, Equal, Greater}
use Rattle.std.specs.Ordering.{is_eq, nat_cmp, ordering_then, ordering_index}
use Rattle.std.specs.Cmp.{IsTotalOrder, nat_cmp_total, on_total, then_total}
use Rattle.std.proofs.lemmas.Cmp.{alike_right}
use Rattle.grid_model.specs.Rows.{item_number, same_item, replica_cmp, triple_cmp, entry_cmp}
use Rattle.grid_model.specs.declared.grid.ItemKind.{ItemKind}
use Rattle.grid_model.specs.declared.grid.ItemKind.TheVariants as kinds
use Rattle.grid_model.specs.declared.deltas.ReplicaRow.{ReplicaRow}
use Rattle.grid_model.specs.declared.deltas.TripleRow.{TripleRow}
use Rattle.grid_model.specs.declared.deltas.EntryRow.{EntryRow}
use Rattle.grid_tables.specs.Probes.{same_pair}

-- by the kind, and then by the id
abbrev pub order_of_item : ItemKind → ℕ → ItemKind → ℕ → Ordering
order_of_item kind id other_kind other = ordering_then (nat_cmp (item_number kind) (item_number other_kind)) (nat_cmp id other)

-- it is the same item where they tie
pub belongs_to : (kind : ItemKind) (id : ℕ) (k : ItemKind) (i : ℕ) → same_item k i kind id ≡ is_eq (order_of_item kind id k i)
belongs_to kind id k i = same_pair (item_number kind) id (item_number k) i

-- where one key stands before another, it is not behind that one's item
pub falls_by : {K : Type 0} {R : K → K → Ordering} → IsTotalOrder R → (q a b : K) (rest : Ordering) → ordering_then (R a b) rest ≡ Less
    → ordering_index (R q b) ≤ ordering_index (R q a)
falls_by {R = R} o q a b rest less = by_order (R a b) refl less
  where
    top : (x : Ordering) → ordering_index x ≤ 2
    top Less = omega arith
    top Equal = omega arith
    top Greater = omega arith

    by_side : (x : Ordering) → R q a ≡ x → R a b ≡ Less → ordering_index (R q b) ≤ ordering_index x
    by_side Less e low = let is : R q b ≡ Less = o.trans q a b e low in omega (arith, ap ordering_index is)
    by_side Equal e low = let is : R q b ≡ Less = o.congr q a b e ∙ low in omega (arith, ap ordering_index is)
    by_side Greater e low = top (R q b)

    by_order : (x : Ordering) → R a b ≡ x → ordering_then x rest ≡ Less → ordering_index (R q b) ≤ ordering_index (R q a)
    by_order Less e h = by_side (R q a) refl e
    by_order Equal e h = omega (arith, ap ordering_index (alike_right o a b q e))
    by_order Greater e h = absurd (cc)

pub grouped : (a b c : Ordering) → ordering_then (ordering_then a b) c ≡ ordering_then a (ordering_then b c)
grouped Less b c = refl
grouped Equal b c = refl
grouped Greater b c = refl

falls_pair : (q i k m l n : ℕ) (rest : Ordering) → ordering_then (nat_cmp k l) (ordering_then (nat_cmp m n) rest) ≡ Less
    → ordering_index (ordering_then (nat_cmp q l) (nat_cmp i n)) ≤ ordering_index (ordering_then (nat_cmp q k) (nat_cmp i m))
falls_pair q i k m l n rest less =
    falls_by (then_total (on_total (λ (p : ℕ × ℕ). p.0) nat_cmp_total) (on_total (λ (p : ℕ × ℕ). p.1) nat_cmp_total)) (q, i) (k, m) (l, n) rest
    (grouped (nat_cmp k l) (nat_cmp m n) rest ∙ less)

pub replica_falls : (kind : ItemKind) (id : ℕ) (a b : ReplicaRow) → replica_cmp a b ≡ Less
    → ordering_index (order_of_item kind id kinds.Object b.object) ≤ ordering_index (order_of_item kind id kinds.Object a.object)
replica_falls kind id a b less = falls_pair (item_number kind) id 1 a.object 1 b.object (nat_cmp a.number b.number) less

pub triple_falls : (kind : ItemKind) (id : ℕ) (a b : TripleRow) → triple_cmp a b ≡ Less
    → ordering_index (order_of_item kind id b.kind b.id) ≤ ordering_index (order_of_item kind id a.kind a.id)
triple_falls kind id a b less = falls_pair (item_number kind) id (item_number a.kind) a.id (item_number b.kind) b.id _ less

pub entry_falls : (kind : ItemKind) (id : ℕ) (a b : EntryRow) → entry_cmp a b ≡ Less
    → ordering_index (order_of_item kind id b.kind b.id) ≤ ordering_index (order_of_item kind id a.kind a.id)
entry_falls kind id a b less = falls_pair (item_number kind) id (item_number a.kind) a.id (item_number b.kind) b.id _ less
