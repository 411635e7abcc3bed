-- The laws of the groups of rows.
use Rattle.std.specs.Prelude.{◌≡◌, ◌==◌, ◌&&◌, ℕ, Bool, true, false}
use Rattle.std.proofs.Common.{refl, eqb-true}
use Rattle.std.specs.declared.cmp.Ordering.{Ordering}
use Rattle.std.specs.declared.cmp.Ordering.TheVariants.{Less, Equal, Greater}
use Rattle.std.specs.Ordering.{is_eq, eq_by_cmp, nat_cmp, ordering_then}
use Rattle.grid_model.specs.Applying.{is_entry, is_replica}
use Rattle.grid_model.specs.Rows.{item_number, entry_cmp, replica_cmp, same_item, triple_cmp}
use Rattle.grid_model.specs.declared.grid.ItemKind.{ItemKind}
use Rattle.grid_model.specs.declared.grid.ItemKind.TheVariants as kinds
use Rattle.grid_model.specs.declared.deltas.ReplicaRow.{ReplicaRow}
use Rattle.grid_model.specs.declared.deltas.TripleRow.{TripleRow}
use Rattle.grid_model.specs.declared.deltas.EntryRow.{EntryRow}
use Rattle.grid_tables.specs.GroupLists.{GroupId, group_id_cmp, group_id_whole}
use Rattle.grid_tables.specs.KeyOrders.{first_tie, number_whole}

equal_from : (o : Ordering) → is_eq o ≡ true → o ≡ Equal
equal_from Less e = absurd (cc)
equal_from Equal e = refl
equal_from Greater e = absurd (cc)

-- rows with one key are of one group
pub tied_group : {X : Type 0} (cmp : X → X → Ordering) (group : X → GroupId) → ((a b : X) → cmp a b ≡ Equal → group a ≡ group b)
    → (a b : X) → eq_by_cmp cmp a b ≡ true → group a ≡ group b
tied_group cmp group tied a b same = tied a b (equal_from (cmp a b) same)

less_then : (a b : Ordering) → a ≡ Less → ordering_then a b ≡ Less
less_then Less b e = refl
less_then Equal b e = absurd (cc)
less_then Greater b e = absurd (cc)

-- where the first two of three orders tell
two_of_three : (a b c : Ordering) → ordering_then a b ≡ Less → ordering_then a (ordering_then b c) ≡ Less
two_of_three Less b c e = refl
two_of_three Equal b c e = less_then b c e
two_of_three Greater b c e = absurd (cc)

two_tied : (a b c : Ordering) → ordering_then a (ordering_then b c) ≡ Equal → ordering_then a b ≡ Equal
two_tied Less b c e = absurd (cc)
two_tied Equal b c e = first_tie b c e
two_tied Greater b c e = absurd (cc)

first_holds : (a b : Bool) → (a && b) ≡ true → a ≡ true
first_holds true b e = refl
first_holds false b e = absurd (cc)

last_holds : (a b : Bool) → (a && b) ≡ true → b ≡ true
last_holds true b e = e
last_holds false b e = absurd (cc)

-- ---- replicas, by their objects

pub replica_below : (a b : ReplicaRow) → group_id_cmp (0, a.object) (0, b.object) ≡ Less → replica_cmp a b ≡ Less
replica_below a b low = less_then (nat_cmp a.object b.object) (nat_cmp a.number b.number) low

pub replica_tied : (a b : ReplicaRow) → replica_cmp a b ≡ Equal → ◌≡◌ {A = GroupId} (0, a.object) (0, b.object)
replica_tied a b same = λ i. (0, number_whole a.object b.object (first_tie (nat_cmp a.object b.object) (nat_cmp a.number b.number) same) i)

pub replica_leads : (object number : ℕ) (r : ReplicaRow) → is_replica object number r ≡ true → ◌≡◌ {A = GroupId} (0, r.object) (0, object)
replica_leads object number r same = λ i. (0, eqb-true r.object object (first_holds (r.object == object) (r.number == number) same) i)

pub object_leads : (kind : ItemKind) (id object : ℕ) → same_item kinds.Object object kind id ≡ true → ◌≡◌ {A = GroupId} (0, object) (0, id)
object_leads kind id object same = λ i. (0, eqb-true object id (last_holds (item_number kinds.Object == item_number kind) (object == id) same) i)

-- ---- metadata and access, by their items

pub item_leads : (kind : ItemKind) (id : ℕ) (k : ItemKind) (n : ℕ) → same_item k n kind id ≡ true → ◌≡◌ {A = GroupId} (item_number k, n) (item_number kind, id)
item_leads kind id k n same =
    let one = eqb-true (item_number k) (item_number kind) (first_holds (item_number k == item_number kind) (n == id) same) in
    let other = eqb-true n id (last_holds (item_number k == item_number kind) (n == id) same) in
    λ i. (one i, other i)

pub triple_below : (a b : TripleRow) → group_id_cmp (item_number a.kind, a.id) (item_number b.kind, b.id) ≡ Less → triple_cmp a b ≡ Less
triple_below a b low = two_of_three (nat_cmp (item_number a.kind) (item_number b.kind)) (nat_cmp a.id b.id) _ low

pub triple_tied : (a b : TripleRow) → triple_cmp a b ≡ Equal → ◌≡◌ {A = GroupId} (item_number a.kind, a.id) (item_number b.kind, b.id)
triple_tied a b same = group_id_whole _ _ (two_tied (nat_cmp (item_number a.kind) (item_number b.kind)) (nat_cmp a.id b.id) _ same)

pub entry_below : (a b : EntryRow) → group_id_cmp (item_number a.kind, a.id) (item_number b.kind, b.id) ≡ Less → entry_cmp a b ≡ Less
entry_below a b low = two_of_three (nat_cmp (item_number a.kind) (item_number b.kind)) (nat_cmp a.id b.id) (nat_cmp a.user b.user) low

pub entry_tied : (a b : EntryRow) → entry_cmp a b ≡ Equal → ◌≡◌ {A = GroupId} (item_number a.kind, a.id) (item_number b.kind, b.id)
entry_tied a b same = group_id_whole _ _ (two_tied (nat_cmp (item_number a.kind) (item_number b.kind)) (nat_cmp a.id b.id) (nat_cmp a.user b.user) same)

pub entry_leads : (kind : ItemKind) (id user : ℕ) (r : EntryRow) → is_entry kind id user r ≡ true → ◌≡◌ {A = GroupId} (item_number r.kind, r.id) (item_number kind, id)
entry_leads kind id user r same = item_leads kind id r.kind r.id (first_holds (same_item r.kind r.id kind id) (r.user == user) same)
