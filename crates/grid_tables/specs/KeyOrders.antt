-- The orders of the keys by which rows are looked for beside their own.
use Rattle.std.specs.Prelude.{◌≡◌, ◌≤◌, ℕ}
use Rattle.std.proofs.Common.{refl, ap, sym, ◌∙◌}
use Rattle.std.specs.declared.cmp.Ordering.{Ordering}
use Rattle.std.specs.declared.cmp.Ordering.TheVariants.{Less, Equal, Greater}
use Rattle.std.specs.Ordering.{nat_cmp, ordering_then, ordering_index}
use Rattle.std.specs.Cmp.{IsTotalOrder, nat_cmp_total, on_total, then_total, ranked}
use Rattle.std.proofs.lemmas.Cmp.{tied_itself}
use Rattle.grid_model.specs.Names.{Text, text_cmp}
use Rattle.grid_model.specs.Rows.{item_number, triple_cmp, member_cmp, entry_cmp, replica_cmp}
use Rattle.grid_model.proofs.Comparing.{text_cmp_total, text_cmp-IsAntisymmetric}
use Rattle.grid_model.specs.declared.grid.ItemKind.{ItemKind}
use Rattle.grid_model.specs.declared.grid.ItemKind.TheVariants as kinds
use Rattle.grid_model.specs.declared.deltas.MemberRow.{MemberRow}
use Rattle.grid_model.specs.declared.deltas.EntryRow.{EntryRow}
use Rattle.grid_model.specs.declared.deltas.ReplicaRow.{ReplicaRow}
use Rattle.grid_model.specs.declared.deltas.TripleRow.{TripleRow}
use Rattle.grid_tables.specs.declared.index_key.NamedId.{NamedId}
use Rattle.grid_tables.specs.declared.index_key.GroupOfUser.{GroupOfUser}
use Rattle.grid_tables.specs.declared.index_key.AccessOfUser.{AccessOfUser}
use Rattle.grid_tables.specs.declared.index_key.ReplicaOnLeaf.{ReplicaOnLeaf}
use Rattle.grid_tables.specs.declared.index_key.ItemWithValue.{ItemWithValue}
use Rattle.grid_tables.specs.Items.{falls_by, grouped}

pub first_tie : (a b : Ordering) → ordering_then a b ≡ Equal → a ≡ Equal
first_tie Less b e = absurd (cc)
first_tie Equal b e = refl
first_tie Greater b e = absurd (cc)

pub rest_tie : (a b : Ordering) → ordering_then a b ≡ Equal → b ≡ Equal
rest_tie Less b e = absurd (cc)
rest_tie Equal b e = e
rest_tie Greater b e = absurd (cc)

pub number_whole : (m n : ℕ) → nat_cmp m n ≡ Equal → m ≡ n
number_whole m n e = ranked m n Equal (sym e)

pub kind_whole : (a b : ItemKind) → item_number a ≡ item_number b → a ≡ b
kind_whole kinds.Object kinds.Object e = refl
kind_whole kinds.Object kinds.Collection e = absurd (cc)
kind_whole kinds.Object kinds.Resource e = absurd (cc)
kind_whole kinds.Object kinds.User e = absurd (cc)
kind_whole kinds.Collection kinds.Object e = absurd (cc)
kind_whole kinds.Collection kinds.Collection e = refl
kind_whole kinds.Collection kinds.Resource e = absurd (cc)
kind_whole kinds.Collection kinds.User e = absurd (cc)
kind_whole kinds.Resource kinds.Object e = absurd (cc)
kind_whole kinds.Resource kinds.Collection e = absurd (cc)
kind_whole kinds.Resource kinds.Resource e = refl
kind_whole kinds.Resource kinds.User e = absurd (cc)
kind_whole kinds.User kinds.Object e = absurd (cc)
kind_whole kinds.User kinds.Collection e = absurd (cc)
kind_whole kinds.User kinds.Resource e = absurd (cc)
kind_whole kinds.User kinds.User e = refl

-- ---- names with ids

-- by the name, and then by the id
abbrev pub name_cmp : NamedId → NamedId → Ordering
name_cmp a b = ordering_then (text_cmp a.name b.name) (nat_cmp a.id b.id)

pub name_total : IsTotalOrder name_cmp
name_total = then_total (on_total (λ (k : NamedId). k.name) text_cmp_total) (on_total (λ (k : NamedId). k.id) nat_cmp_total)

pub name_whole : (a b : NamedId) → name_cmp a b ≡ Equal → a ≡ b
name_whole a b e =
    let name = text_cmp-IsAntisymmetric a.name b.name (first_tie (text_cmp a.name b.name) (nat_cmp a.id b.id) e) in
    let id = number_whole a.id b.id (rest_tie (text_cmp a.name b.name) (nat_cmp a.id b.id) e) in
    λ i. record { name = name i; id = id i }

pub number_own : (m n : ℕ) → m ≡ n → nat_cmp m n ≡ Equal
number_own m n e = ap (nat_cmp m) (sym e) ∙ tied_itself nat_cmp_total m

pub name_falls : (q : Text) (a b : NamedId) → name_cmp a b ≡ Less → ordering_index (text_cmp q b.name) ≤ ordering_index (text_cmp q a.name)
name_falls q a b less = falls_by text_cmp_total q a.name b.name (nat_cmp a.id b.id) less

-- ---- groups of users

-- by the user, and then by the group
abbrev pub group_cmp : GroupOfUser → GroupOfUser → Ordering
group_cmp a b = ordering_then (nat_cmp a.user b.user) (nat_cmp a.group b.group)

pub group_total : IsTotalOrder group_cmp
group_total = then_total (on_total (λ (k : GroupOfUser). k.user) nat_cmp_total) (on_total (λ (k : GroupOfUser). k.group) nat_cmp_total)

pub group_whole : (a b : GroupOfUser) → group_cmp a b ≡ Equal → a ≡ b
group_whole a b e =
    let user = number_whole a.user b.user (first_tie (nat_cmp a.user b.user) (nat_cmp a.group b.group) e) in
    let group = number_whole a.group b.group (rest_tie (nat_cmp a.user b.user) (nat_cmp a.group b.group) e) in
    λ i. record { user = user i; group = group i }

abbrev pub group_of : MemberRow → GroupOfUser
group_of r = record { user = r.user; group = r.group }

pub group_own : (a b : MemberRow) → group_of a ≡ group_of b → member_cmp a b ≡ Equal
group_own a b e =
    let group : a.group ≡ b.group = ap (λ (k : GroupOfUser). k.group) e in
    let user : a.user ≡ b.user = ap (λ (k : GroupOfUser). k.user) e in
    ap (λ n. ordering_then n (nat_cmp a.user b.user)) (number_own a.group b.group group) ∙ number_own a.user b.user user

pub group_falls : (q : ℕ) (a b : GroupOfUser) → group_cmp a b ≡ Less → ordering_index (nat_cmp q b.user) ≤ ordering_index (nat_cmp q a.user)
group_falls q a b less = falls_by nat_cmp_total q a.user b.user (nat_cmp a.group b.group) less

-- ---- access of users

-- by the user, and then by the item
abbrev pub access_of_user_cmp : AccessOfUser → AccessOfUser → Ordering
access_of_user_cmp a b = ordering_then (nat_cmp a.user b.user) (ordering_then (nat_cmp (item_number a.kind) (item_number b.kind)) (nat_cmp a.id b.id))

pub access_total : IsTotalOrder access_of_user_cmp
access_total =
    then_total (on_total (λ (k : AccessOfUser). k.user) nat_cmp_total)
    (then_total (on_total (λ (k : AccessOfUser). item_number k.kind) nat_cmp_total) (on_total (λ (k : AccessOfUser). k.id) nat_cmp_total))

pub access_whole : (a b : AccessOfUser) → access_of_user_cmp a b ≡ Equal → a ≡ b
access_whole a b e =
    let rest = rest_tie (nat_cmp a.user b.user) (ordering_then (nat_cmp (item_number a.kind) (item_number b.kind)) (nat_cmp a.id b.id)) e in
    let user =
    number_whole a.user b.user
    (first_tie (nat_cmp a.user b.user) (ordering_then (nat_cmp (item_number a.kind) (item_number b.kind)) (nat_cmp a.id b.id)) e) in
    let number =
    number_whole (item_number a.kind) (item_number b.kind) (first_tie (nat_cmp (item_number a.kind) (item_number b.kind)) (nat_cmp a.id b.id) rest) in
    let id = number_whole a.id b.id (rest_tie (nat_cmp (item_number a.kind) (item_number b.kind)) (nat_cmp a.id b.id) rest) in
    λ i. record { user = user i; kind = kind_whole a.kind b.kind number i; id = id i }

abbrev pub access_of_row : EntryRow → AccessOfUser
access_of_row r = record { user = r.user; kind = r.kind; id = r.id }

pub access_own : (a b : EntryRow) → access_of_row a ≡ access_of_row b → entry_cmp a b ≡ Equal
access_own a b e =
    let kind : item_number a.kind ≡ item_number b.kind = ap (λ (k : AccessOfUser). item_number k.kind) e in
    let id : a.id ≡ b.id = ap (λ (k : AccessOfUser). k.id) e in
    let user : a.user ≡ b.user = ap (λ (k : AccessOfUser). k.user) e in
    ap (λ n. ordering_then n (ordering_then (nat_cmp a.id b.id) (nat_cmp a.user b.user))) (number_own (item_number a.kind) (item_number b.kind) kind)
    ∙ ap (λ n. ordering_then n (nat_cmp a.user b.user)) (number_own a.id b.id id) ∙ number_own a.user b.user user

pub access_falls : (q : ℕ) (a b : AccessOfUser) → access_of_user_cmp a b ≡ Less → ordering_index (nat_cmp q b.user) ≤ ordering_index (nat_cmp q a.user)
access_falls q a b less = falls_by nat_cmp_total q a.user b.user (ordering_then (nat_cmp (item_number a.kind) (item_number b.kind)) (nat_cmp a.id b.id)) less

-- ---- replicas on leaves

-- by the leaf, and then by object and number
abbrev pub leaf_cmp : ReplicaOnLeaf → ReplicaOnLeaf → Ordering
leaf_cmp a b = ordering_then (nat_cmp a.leaf b.leaf) (ordering_then (nat_cmp a.object b.object) (nat_cmp a.number b.number))

pub leaf_total : IsTotalOrder leaf_cmp
leaf_total =
    then_total (on_total (λ (k : ReplicaOnLeaf). k.leaf) nat_cmp_total)
    (then_total (on_total (λ (k : ReplicaOnLeaf). k.object) nat_cmp_total) (on_total (λ (k : ReplicaOnLeaf). k.number) nat_cmp_total))

pub leaf_whole : (a b : ReplicaOnLeaf) → leaf_cmp a b ≡ Equal → a ≡ b
leaf_whole a b e =
    let rest = rest_tie (nat_cmp a.leaf b.leaf) (ordering_then (nat_cmp a.object b.object) (nat_cmp a.number b.number)) e in
    let leaf = number_whole a.leaf b.leaf (first_tie (nat_cmp a.leaf b.leaf) (ordering_then (nat_cmp a.object b.object) (nat_cmp a.number b.number)) e) in
    let object = number_whole a.object b.object (first_tie (nat_cmp a.object b.object) (nat_cmp a.number b.number) rest) in
    let number = number_whole a.number b.number (rest_tie (nat_cmp a.object b.object) (nat_cmp a.number b.number) rest) in
    λ i. record { leaf = leaf i; object = object i; number = number i }

abbrev pub leaf_of : ReplicaRow → ReplicaOnLeaf
leaf_of r = record { leaf = r.leaf; object = r.object; number = r.number }

pub leaf_own : (a b : ReplicaRow) → leaf_of a ≡ leaf_of b → replica_cmp a b ≡ Equal
leaf_own a b e =
    let object : a.object ≡ b.object = ap (λ (k : ReplicaOnLeaf). k.object) e in
    let number : a.number ≡ b.number = ap (λ (k : ReplicaOnLeaf). k.number) e in
    ap (λ n. ordering_then n (nat_cmp a.number b.number)) (number_own a.object b.object object) ∙ number_own a.number b.number number

pub leaf_falls : (q : ℕ) (a b : ReplicaOnLeaf) → leaf_cmp a b ≡ Less → ordering_index (nat_cmp q b.leaf) ≤ ordering_index (nat_cmp q a.leaf)
leaf_falls q a b less = falls_by nat_cmp_total q a.leaf b.leaf (ordering_then (nat_cmp a.object b.object) (nat_cmp a.number b.number)) less

-- ---- items with values

-- by the kind of item, and then by the id
abbrev pub same_value_cmp : ItemWithValue → ItemWithValue → Ordering
same_value_cmp a b = ordering_then (nat_cmp (item_number a.kind) (item_number b.kind)) (nat_cmp a.id b.id)

-- by the value, and then by the item
abbrev pub same_attribute_cmp : ItemWithValue → ItemWithValue → Ordering
same_attribute_cmp a b = ordering_then (text_cmp a.value b.value) (same_value_cmp a b)

-- by the name of the attribute, then by the value, and then by the item
abbrev pub valued_cmp : ItemWithValue → ItemWithValue → Ordering
valued_cmp a b = ordering_then (text_cmp a.attribute b.attribute) (same_attribute_cmp a b)

pub valued_total : IsTotalOrder valued_cmp
valued_total =
    then_total (on_total (λ (k : ItemWithValue). k.attribute) text_cmp_total)
    (then_total (on_total (λ (k : ItemWithValue). k.value) text_cmp_total)
    (then_total (on_total (λ (k : ItemWithValue). item_number k.kind) nat_cmp_total) (on_total (λ (k : ItemWithValue). k.id) nat_cmp_total)))

pub valued_whole : (a b : ItemWithValue) → valued_cmp a b ≡ Equal → a ≡ b
valued_whole a b e =
    let rest = rest_tie (text_cmp a.attribute b.attribute) (same_attribute_cmp a b) e in
    let item = rest_tie (text_cmp a.value b.value) (same_value_cmp a b) rest in
    let attribute = text_cmp-IsAntisymmetric a.attribute b.attribute (first_tie (text_cmp a.attribute b.attribute) (same_attribute_cmp a b) e) in
    let value = text_cmp-IsAntisymmetric a.value b.value (first_tie (text_cmp a.value b.value) (same_value_cmp a b) rest) in
    let number =
    number_whole (item_number a.kind) (item_number b.kind) (first_tie (nat_cmp (item_number a.kind) (item_number b.kind)) (nat_cmp a.id b.id) item) in
    let id = number_whole a.id b.id (rest_tie (nat_cmp (item_number a.kind) (item_number b.kind)) (nat_cmp a.id b.id) item) in
    λ i. record { attribute = attribute i; value = value i; kind = kind_whole a.kind b.kind number i; id = id i }

abbrev pub valued_of : TripleRow → ItemWithValue
valued_of r = record { attribute = r.attribute; value = r.value; kind = r.kind; id = r.id }

-- one triple has one attribute and one value
pub valued_steady : (a b : TripleRow) → triple_cmp a b ≡ Equal → valued_of a ≡ valued_of b
valued_steady a b e =
    let at_id = rest_tie (nat_cmp (item_number a.kind) (item_number b.kind)) _ e in
    let at_attribute = rest_tie (nat_cmp a.id b.id) _ at_id in
    let at_value = rest_tie (text_cmp a.attribute b.attribute) _ at_attribute in
    let number = number_whole (item_number a.kind) (item_number b.kind) (first_tie (nat_cmp (item_number a.kind) (item_number b.kind)) _ e) in
    let id = number_whole a.id b.id (first_tie (nat_cmp a.id b.id) _ at_id) in
    let attribute = text_cmp-IsAntisymmetric a.attribute b.attribute (first_tie (text_cmp a.attribute b.attribute) _ at_attribute) in
    let value = text_cmp-IsAntisymmetric a.value b.value (first_tie (text_cmp a.value b.value) _ at_value) in
    λ i. record { attribute = attribute i; value = value i; kind = kind_whole a.kind b.kind number i; id = id i }

pub attribute_falls : (q : Text) (a b : ItemWithValue) → valued_cmp a b ≡ Less
    → ordering_index (text_cmp q b.attribute) ≤ ordering_index (text_cmp q a.attribute)
attribute_falls q a b less = falls_by text_cmp_total q a.attribute b.attribute (same_attribute_cmp a b) less

pub valued_falls : (q r : Text) (a b : ItemWithValue) → valued_cmp a b ≡ Less
    → ordering_index (ordering_then (text_cmp q b.attribute) (text_cmp r b.value))
    ≤ ordering_index (ordering_then (text_cmp q a.attribute) (text_cmp r a.value))
valued_falls q r a b less =
    falls_by (then_total (on_total (λ (p : Text × Text). p.0) text_cmp_total) (on_total (λ (p : Text × Text). p.1) text_cmp_total)) (q, r)
    (a.attribute, a.value) (b.attribute, b.value) (same_value_cmp a b)
    (grouped (text_cmp a.attribute b.attribute) (text_cmp a.value b.value) (same_value_cmp a b) ∙ less)
