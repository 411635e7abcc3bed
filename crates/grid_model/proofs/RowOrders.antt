-- The keys of each table are in a total order.
use Rattle.std.proofs.Common.{◌≡◌, ◌==◌, ℕ, ◌<◌, ◌≤◌, ◌⊎◌, inl, inr, true, refl, sym, arith, eq-eqb}
use Rattle.std.specs.Prelude.{◌&&◌}
use Rattle.std.specs.declared.cmp.Ordering.{Ordering}
use Rattle.std.specs.declared.cmp.Ordering.TheVariants.{Less, Equal, Greater}
use Rattle.std.specs.Ordering.{nat_cmp, ordering_then}
use Rattle.std.specs.Cmp.{IsTotalOrder, ranked, first_so, second_so, unsigned_Decides, nat_cmp_total, on_total, then_total}
use Rattle.std.specs.Cmp.Lexicographic.{nat_list_cmp_total}
use Rattle.grid_model.specs.Rows.{item_number, same_item, user_cmp, member_cmp, collection_cmp, object_cmp, replica_cmp, triple_cmp, entry_cmp, resource_cmp, orphan_cmp}
use Rattle.grid_model.specs.declared.grid.ItemKind.{ItemKind}
use Rattle.grid_model.specs.declared.grid.ItemKind.TheVariants as kinds
use Rattle.grid_model.specs.declared.deltas.UserRow.{UserRow}
use Rattle.grid_model.specs.declared.deltas.MemberRow.{MemberRow}
use Rattle.grid_model.specs.declared.deltas.CollectionRow.{CollectionRow}
use Rattle.grid_model.specs.declared.deltas.ObjectRow.{ObjectRow}
use Rattle.grid_model.specs.declared.deltas.ReplicaRow.{ReplicaRow}
use Rattle.grid_model.specs.declared.deltas.TripleRow.{TripleRow}
use Rattle.grid_model.specs.declared.deltas.EntryRow.{EntryRow}
use Rattle.grid_model.specs.declared.deltas.ResourceRow.{ResourceRow}
use Rattle.grid_model.specs.declared.deltas.OrphanRow.{OrphanRow}

pub user_cmp_total : IsTotalOrder user_cmp
user_cmp_total = on_total (λ (r : UserRow). r.id) nat_cmp_total

pub member_cmp_total : IsTotalOrder member_cmp
member_cmp_total = then_total (on_total (λ (r : MemberRow). r.group) nat_cmp_total) (on_total (λ (r : MemberRow). r.user) nat_cmp_total)

pub collection_cmp_total : IsTotalOrder collection_cmp
collection_cmp_total = on_total (λ (r : CollectionRow). r.id) nat_cmp_total

pub object_cmp_total : IsTotalOrder object_cmp
object_cmp_total = on_total (λ (r : ObjectRow). r.id) nat_cmp_total

pub replica_cmp_total : IsTotalOrder replica_cmp
replica_cmp_total = then_total (on_total (λ (r : ReplicaRow). r.object) nat_cmp_total) (on_total (λ (r : ReplicaRow). r.number) nat_cmp_total)

pub triple_cmp_total : IsTotalOrder triple_cmp
triple_cmp_total =
    then_total (on_total (λ (r : TripleRow). item_number r.kind) nat_cmp_total)
    (then_total (on_total (λ (r : TripleRow). r.id) nat_cmp_total)
    (then_total (on_total (λ (r : TripleRow). r.attribute) nat_list_cmp_total)
    (then_total (on_total (λ (r : TripleRow). r.value) nat_list_cmp_total) (on_total (λ (r : TripleRow). r.unit) nat_list_cmp_total))))

pub entry_cmp_total : IsTotalOrder entry_cmp
entry_cmp_total =
    then_total (on_total (λ (r : EntryRow). item_number r.kind) nat_cmp_total)
    (then_total (on_total (λ (r : EntryRow). r.id) nat_cmp_total) (on_total (λ (r : EntryRow). r.user) nat_cmp_total))

pub resource_cmp_total : IsTotalOrder resource_cmp
resource_cmp_total = on_total (λ (r : ResourceRow). r.id) nat_cmp_total

pub orphan_cmp_total : IsTotalOrder orphan_cmp
orphan_cmp_total = on_total (λ (r : OrphanRow). r.vault) nat_cmp_total

pub lower_id : (a b : ℕ) → nat_cmp a b ≡ Less → a < b
lower_id a b e = ranked a b Less (sym e)

-- the first of two numbers in turn rises, or stays
rises : (a b : ℕ) (rest : Ordering) → ordering_then (nat_cmp a b) rest ≡ Less → (a < b) ⊎ ((a ≡ b) × (rest ≡ Less))
rises a b rest e =
    elim (nat_cmp a b) as (λ o. nat_cmp a b ≡ o → ordering_then o rest ≡ Less → (a < b) ⊎ ((a ≡ b) × (rest ≡ Less))) [
      | Less ↦ λ is _. inl (ranked a b Less (sym is))
      | Equal ↦ λ is h. inr (ranked a b Equal (sym is), h)
      | Greater ↦ λ is h. absurd (cc)
    ] refl e

-- and so it does not fall
never_falls : (a b : ℕ) (rest : Ordering) → ordering_then (nat_cmp a b) rest ≡ Less → a ≤ b
never_falls a b rest e = elim (rises a b rest e) [ inl h ↦ omega arith | inr h ↦ omega (arith, h.0) ]

-- two numbers that are not above and not below a pair are that pair
between : (k i ka kb kc ia ib ic : ℕ) (ra rb : Ordering) → ka ≡ k → ia ≡ i → kc ≡ k → ic ≡ i
    → ordering_then (nat_cmp ka kb) (ordering_then (nat_cmp ia ib) ra) ≡ Less → ordering_then (nat_cmp kb kc) (ordering_then (nat_cmp ib ic) rb) ≡ Less
    → (kb ≡ k) × (ib ≡ i)
between k i ka kb kc ia ib ic ra rb pa qa pc qc low high =
    elim (rises ka kb _ low) [
      | inl h ↦ absurd (let up : kb ≤ kc = never_falls kb kc _ high in omega arith)
      | inr h ↦ elim (rises kb kc _ high) [
        | inl g ↦ absurd (omega (arith, h.0))
        | inr g ↦
            let from : ia ≤ ib = never_falls ia ib ra h.1 in
            let to : ib ≤ ic = never_falls ib ic rb g.1 in
            (omega (arith, h.0), omega arith)
      ]
    ]

both : (a b c d : ℕ) → ((a == b) && (c == d)) ≡ true → (a ≡ b) × (c ≡ d)
both a b c d e = ((unsigned_Decides a b).0 (first_so (a == b) (c == d) e), (unsigned_Decides c d).0 (second_so (a == b) (c == d) e))

both_so : (a b c d : ℕ) → (a ≡ b) × (c ≡ d) → ((a == b) && (c == d)) ≡ true
both_so a b c d h = rw (eq-eqb a b h.0, eq-eqb c d h.1) refl

-- the rows of one item stand next to one another
pub triples_together : (a b c : TripleRow) (kind : ItemKind) (id : ℕ) → triple_cmp a b ≡ Less → triple_cmp b c ≡ Less
    → same_item a.kind a.id kind id ≡ true → same_item c.kind c.id kind id ≡ true → same_item b.kind b.id kind id ≡ true
triples_together a b c kind id low high pa pc =
    let ea = both (item_number a.kind) (item_number kind) a.id id pa in
    let ec = both (item_number c.kind) (item_number kind) c.id id pc in
    both_so (item_number b.kind) (item_number kind) b.id id
    (between (item_number kind) id (item_number a.kind) (item_number b.kind) (item_number c.kind) a.id b.id c.id _ _ ea.0 ea.1 ec.0 ec.1 low high)

pub entries_together : (a b c : EntryRow) (kind : ItemKind) (id : ℕ) → entry_cmp a b ≡ Less → entry_cmp b c ≡ Less
    → same_item a.kind a.id kind id ≡ true → same_item c.kind c.id kind id ≡ true → same_item b.kind b.id kind id ≡ true
entries_together a b c kind id low high pa pc =
    let ea = both (item_number a.kind) (item_number kind) a.id id pa in
    let ec = both (item_number c.kind) (item_number kind) c.id id pc in
    both_so (item_number b.kind) (item_number kind) b.id id
    (between (item_number kind) id (item_number a.kind) (item_number b.kind) (item_number c.kind) a.id b.id c.id _ _ ea.0 ea.1 ec.0 ec.1 low high)

pub replicas_together : (a b c : ReplicaRow) (kind : ItemKind) (id : ℕ) → replica_cmp a b ≡ Less → replica_cmp b c ≡ Less
    → same_item kinds.Object a.object kind id ≡ true → same_item kinds.Object c.object kind id ≡ true → same_item kinds.Object b.object kind id ≡ true
replicas_together a b c kind id low high pa pc =
    let ea = both 1 (item_number kind) a.object id pa in
    let ec = both 1 (item_number kind) c.object id pc in
    let up : a.object ≤ b.object = never_falls a.object b.object _ low in
    let on : b.object ≤ c.object = never_falls b.object c.object _ high in
    both_so 1 (item_number kind) b.object id (ea.0, omega (arith, ea.1, ec.1))
