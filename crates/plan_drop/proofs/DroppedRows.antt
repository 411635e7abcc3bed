-- The rows behind the changes that take replicas away and make their files orphans.
use Rattle.std.proofs.Common.{◌≡◌, ◌⊎◌, inl, inr, ℕ, Bool, true, false, cond, List, [], ◌∷◌, Option, Some, Ok, refl, sym, ap, ◌∙◌, eq-eqb, eqb-true}
use Rattle.std.specs.Prelude.{◌==◌, ◌&&◌, ◌||◌, not, nat_lt, filter, option_map, unwrap_or}
use Rattle.std.specs.List.{list_any}
use Rattle.std.specs.List.Sorted.{IsStrictlySortedBy}
use Rattle.std.specs.declared.cmp.Ordering.TheVariants.{Less, Equal}
use Rattle.std.proofs.lemmas.Bool.{and_parts, and_from, lt-ltb}
use Rattle.grid_model.specs.Rows.{Cat, orphan_cmp, replica_cmp, resource, with_row}
use Rattle.grid_model.specs.Applying.{apply, apply_all, is_drawn, is_leaf, is_replica, is_storage, orphan_fits, slot_fits, where_fits}
use Rattle.grid_model.specs.Whole.{leaf_slot}
use Rattle.grid_model.specs.declared.deltas.Delta.{Delta}
use Rattle.grid_model.specs.declared.deltas.Delta.TheVariants as delta
use Rattle.grid_model.specs.declared.deltas.OrphanRow.{OrphanRow}
use Rattle.grid_model.specs.declared.deltas.ReplicaRow.{ReplicaRow}
use Rattle.grid_model.specs.declared.deltas.ResourceRow.{ResourceRow}
use Rattle.tables_laws.proofs.Numbered.{found_in, same_number}
use Rattle.tables_laws.proofs.Rows.{IsIn, in_from_all, in_from_any, any_from_in, in_from_filter, filter_from_in, in_from_with_row, old_in_with_row}
use Rattle.tables_laws.proofs.Standing.{ReplicaStands, ResourceStands}
use Rattle.tables_laws.proofs.Sound.{IsSound, sound-apply}
use Rattle.file_laws.specs.Rewriting.{StoredReplica, replicas_dropped}
use Rattle.file_laws.proofs.Dropping.{orphan_of}
use Rattle.file_laws.proofs.Fewer.{HasKey, apply_step}
use Rattle.file_laws.proofs.Turning.{equal_key}
use Rattle.plan_drop.specs.Stored.{slot_behind, stored_rows}

-- ---- lists

pub none_passes : {X : Type 0} (p : X → Bool) (xs : List X) → ((x : X) → IsIn xs x → p x ≡ true → ⊥) → list_any p xs ≡ false
none_passes p [] fails = refl
none_passes {X = X} p (x ∷ xs) fails = by_first (p x) refl (none_passes p xs (λ y later. fails y (inr later)))
  where
    by_first : (b : Bool) → p x ≡ b → list_any p xs ≡ false → (b || list_any p xs) ≡ false
    by_first true is more = absurd (fails x (inl refl) is)
    by_first false is more = more

keys_alike : (r q : ReplicaRow) → HasKey q r.object r.number → is_replica r.object r.number q ≡ true
keys_alike r q key = and_from (q.object == r.object) (q.number == r.number) (eq-eqb q.object r.object key.0) (eq-eqb q.number r.number key.1)

pub its_key : (r q : ReplicaRow) → is_replica r.object r.number q ≡ true → HasKey q r.object r.number
its_key r q is = let parts = and_parts (q.object == r.object) (q.number == r.number) is in (eqb-true q.object r.object parts.0, eqb-true q.number r.number parts.1)

-- what is not of the key
other_kept : (r q : ReplicaRow) → (HasKey q r.object r.number → ⊥) → not (is_replica r.object r.number q) ≡ true
other_kept r q other = by (is_replica r.object r.number q) refl
  where
    by : (b : Bool) → is_replica r.object r.number q ≡ b → not b ≡ true
    by true is = absurd (other (its_key r q is))
    by false is = refl

-- ---- the rows

-- these without the replicas
abbrev pub without_rows : List ReplicaRow → List StoredReplica → List ReplicaRow
without_rows rows [] = rows
without_rows rows (s ∷ stored) = without_rows (filter (λ q. not (is_replica s.row.object s.row.number q)) rows) stored

-- these with their files
abbrev pub with_orphans : List OrphanRow → List StoredReplica → List OrphanRow
with_orphans rows [] = rows
with_orphans rows (s ∷ stored) = with_orphans (with_row orphan_cmp rows (orphan_of s)) stored

abbrev pub after_drop : Cat → List StoredReplica → Cat
after_drop c stored = record c { replicas = without_rows c.replicas stored; orphans = with_orphans c.orphans stored }

pub in_from_without : (stored : List StoredReplica) (rows : List ReplicaRow) (r : ReplicaRow) → IsIn (without_rows rows stored) r
    → IsIn rows r × ((s : StoredReplica) → IsIn stored s → HasKey r s.row.object s.row.number → ⊥)
in_from_without [] rows r here = (here, λ s none key. none)
in_from_without (s ∷ stored) rows r here =
    let later = in_from_without stored (filter (λ q. not (is_replica s.row.object s.row.number q)) rows) r here in
    let its = in_from_filter (λ q. not (is_replica s.row.object s.row.number q)) rows r later.0 in (
      its.0,
      λ t which key. elim which [
        | inl is ↦ gone its.1 (key.0 ∙ ap (λ (x : StoredReplica). x.row.object) (sym is), key.1 ∙ ap (λ (x : StoredReplica). x.row.number) (sym is))
        | inr rest ↦ later.1 t rest key
      ],
    )
  where
    gone : not (is_replica s.row.object s.row.number r) ≡ true → HasKey r s.row.object s.row.number → ⊥
    gone kept key = let its : is_replica s.row.object s.row.number r ≡ true = keys_alike s.row r key in cc

-- they are those that have none of the keys
pub without-is : (stored : List StoredReplica) (rows : List ReplicaRow) → without_rows rows stored ≡ filter (λ q. not (list_any (λ (s : StoredReplica). is_replica s.row.object s.row.number q) stored)) rows
without-is [] rows = all_kept rows
  where
    all_kept : (xs : List ReplicaRow) → xs ≡ filter (λ _. true) xs
    all_kept [] = refl
    all_kept (x ∷ xs) = ap (λ (ys : List ReplicaRow). x ∷ ys) (all_kept xs)
without-is (s ∷ stored) rows =
    without-is stored (filter (λ q. not (is_replica s.row.object s.row.number q)) rows)
    ∙ both (λ q. is_replica s.row.object s.row.number q) (λ q. list_any (λ (t : StoredReplica). is_replica t.row.object t.row.number q) stored) rows
  where
    both : (a b : ReplicaRow → Bool) (xs : List ReplicaRow) → filter (λ x. not (b x)) (filter (λ x. not (a x)) xs) ≡ filter (λ x. not (a x || b x)) xs
    both a b [] = refl
    both a b (x ∷ xs) =
        elim (a x) as (λ t. filter (λ y. not (b y)) (cond (not t) (x ∷ filter (λ y. not (a y)) xs) (filter (λ y. not (a y)) xs)) ≡ cond (not (t || b x)) (x ∷ filter (λ y. not (a y || b y)) xs) (filter (λ y. not (a y || b y)) xs)) [
          | true ↦ both a b xs
          | false ↦ ap (λ (ys : List ReplicaRow). cond (not (b x)) (x ∷ ys) ys) (both a b xs)
        ]

-- an orphan was one before or is of one of the files
pub in_from_orphans : (stored : List StoredReplica) (rows : List OrphanRow) (o : OrphanRow) → IsIn (with_orphans rows stored) o → IsIn rows o ⊎ ((s : StoredReplica) × IsIn stored s × (orphan_of s ≡ o))
in_from_orphans [] rows o here = inl here
in_from_orphans (s ∷ stored) rows o here = elim (in_from_orphans stored (with_row orphan_cmp rows (orphan_of s)) o here) [
  | inl was ↦ elim (in_from_with_row orphan_cmp rows (orphan_of s) o was) [ inl is ↦ inr (s, inl refl, is) | inr before ↦ inl before ]
  | inr its ↦ inr (its.0, inr its.1, its.2)
]

-- an orphan whose number none of the files has stays
pub orphan_stays : (stored : List StoredReplica) (rows : List OrphanRow) (o : OrphanRow) → IsIn rows o → ((s : StoredReplica) → IsIn stored s → s.row.vault ≡ o.vault → ⊥) → IsIn (with_orphans rows stored) o
orphan_stays [] rows o here apart = here
orphan_stays (s ∷ stored) rows o here apart =
    orphan_stays stored (with_row orphan_cmp rows (orphan_of s)) o (old_in_with_row orphan_cmp rows (orphan_of s) o here (λ e. apart s (inl refl) (same_number s.row.vault o.vault e)))
    (λ t later. apart t (inr later))

-- ---- the changes apply

-- they are replicas on leaves of these slots
abbrev pub AreHeld : Cat → List StoredReplica → Type 0
AreHeld c stored = (s : StoredReplica) → IsIn stored s → IsIn c.replicas s.row × (leaf_slot c s.row.leaf ≡ Some s.slot)

-- no two are one replica
abbrev pub HaveOwnKeys : List StoredReplica → Type 0
HaveOwnKeys [] = Unit {0}
HaveOwnKeys (s ∷ stored) = ((t : StoredReplica) → IsIn stored t → HasKey t.row s.row.object s.row.number → ⊥) × HaveOwnKeys stored

same_slot : {a b : ℕ} → Some a ≡ Some b → a ≡ b
same_slot e = cc

-- a leaf's row
leaf_row : (c : Cat) → IsSound c → (id : ℕ) → is_leaf c id ≡ true → (r : ResourceRow) × (resource c id ≡ Some r) × (nat_lt r.slot c.stores ≡ true)
leaf_row c s id leaf =
    let r = in_from_any (λ (x : ResourceRow). (x.id == id) && is_storage x.kind) c.resources leaf in
    let parts = and_parts (r.0.id == id) (is_storage r.0.kind) r.2 in
    let fits : slot_fits c r.0.kind r.0.slot ≡ true = (in_from_all (ResourceStands c) c.resources s.tied.resources r.0 r.1).0 in (
      r.0,
      ap (resource c) (sym (eqb-true r.0.id id parts.0)) ∙ found_in (λ (x : ResourceRow). x.id) c.resources r.0 s.cat.resources.ordered r.1,
      sym (ap (λ b. elim b as (λ _. Bool) [ true ↦ nat_lt r.0.slot c.stores | false ↦ r.0.slot == 0 ]) parts.1) ∙ fits,
    )

module _ (c : Cat) (s : IsSound c) where
  stands : (r : ReplicaRow) → IsIn c.replicas r → ReplicaStands c r
  stands r here = in_from_all (ReplicaStands c) c.replicas s.tied.replicas r here

  -- the slot of a replica's leaf
  pub slot_found : (r : ReplicaRow) → IsIn c.replicas r → leaf_slot c r.leaf ≡ Some (slot_behind c r.leaf)
  slot_found r here =
      let row = leaf_row c s r.leaf (stands r here).1 in
      let at : leaf_slot c r.leaf ≡ Some row.0.slot = ap (option_map (λ (x : ResourceRow). x.slot)) row.1 in
      at ∙ ap (λ (o : Option ℕ). Some (unwrap_or o 0)) (sym at)

  pub slot_small : (r : ReplicaRow) (slot : ℕ) → IsIn c.replicas r → leaf_slot c r.leaf ≡ Some slot → nat_lt slot c.stores ≡ true
  slot_small r slot here at =
      let row = leaf_row c s r.leaf (stands r here).1 in
      let same : row.0.slot ≡ slot = same_slot (ap (option_map (λ (x : ResourceRow). x.slot)) (sym row.1) ∙ at) in
      ap (λ n. nat_lt n c.stores) (sym same) ∙ row.2

  module _ (f : StoredReplica) (here : IsIn c.replicas f.row) (slot_is : leaf_slot c f.row.leaf ≡ Some f.slot) where
    abbrev mid : Cat
    mid = record c { replicas = filter (λ q. not (is_replica f.row.object f.row.number q)) c.replicas }

    abbrev next : Cat
    next = record mid { orphans = with_row orphan_cmp c.orphans (orphan_of f) }

    taken : apply c (delta.NoReplica f.row.object f.row.number) ≡ Ok mid
    taken = ap (λ b. where_fits b 10 mid) (any_from_in (λ q. is_replica f.row.object f.row.number q) c.replicas f.row here (keys_alike f.row f.row (refl, refl)))

    drawn : is_drawn mid f.row.vault ≡ true
    drawn =
        and_from _ _
        (and_from (nat_lt 0 f.row.vault) (nat_lt f.row.vault c.numbers.next_vault) (lt-ltb 0 f.row.vault (stands f.row here).2) (lt-ltb f.row.vault c.numbers.next_vault (stands f.row here).3))
        (ap not (none_passes (λ o. o.vault == f.row.vault) c.orphans (λ o there is. s.vaults.apart f.row o here there (eqb-true o.vault f.row.vault is))))

    unnamed : not (list_any (λ q. q.vault == f.row.vault) mid.replicas) ≡ true
    unnamed = ap not (none_passes (λ q. q.vault == f.row.vault) mid.replicas (λ q there is.
        let its = in_from_filter (λ x. not (is_replica f.row.object f.row.number x)) c.replicas q there in
        let same : is_replica f.row.object f.row.number q ≡ true = s.vaults.vaults f.row q here its.0 (eqb-true q.vault f.row.vault is) in
        let kept : not (is_replica f.row.object f.row.number q) ≡ true = its.1 in
        cc))

    fits : orphan_fits mid (orphan_of f) ≡ true
    fits = and_from _ (nat_lt f.slot c.stores) (and_from (is_drawn mid f.row.vault) _ drawn unnamed) (slot_small f.row f.slot here slot_is)

    orphaned : apply mid (delta.Orphan (orphan_of f)) ≡ Ok next
    orphaned = ap (λ b. where_fits b 17 next) fits

    next_sound : IsSound next
    next_sound = sound-apply mid next (delta.Orphan (orphan_of f)) (sound-apply c mid (delta.NoReplica f.row.object f.row.number) s taken) orphaned

    applied_one : (more : List Delta) → apply_all c (delta.NoReplica f.row.object f.row.number ∷ delta.Orphan (orphan_of f) ∷ more) ≡ apply_all next more
    applied_one more = apply_step (delta.NoReplica f.row.object f.row.number) (delta.Orphan (orphan_of f) ∷ more) c mid taken ∙ apply_step (delta.Orphan (orphan_of f)) more mid next orphaned

pub applied_dropped : (stored : List StoredReplica) (c : Cat) → IsSound c → AreHeld c stored → HaveOwnKeys stored → apply_all c (replicas_dropped stored) ≡ Ok (after_drop c stored)
applied_dropped [] c s held own = refl
applied_dropped (f ∷ stored) c s held own =
    let its = held f (inl refl) in
    applied_one c s f its.0 its.1 (replicas_dropped stored)
    ∙ applied_dropped stored (next c s f its.0 its.1) (next_sound c s f its.0 its.1) (λ t later.
    let was = held t (inr later) in
    (filter_from_in (λ q. not (is_replica f.row.object f.row.number q)) c.replicas t.row was.0 (other_kept f.row t.row (own.0 t later)), was.1)) own.1

-- ---- rows that rise

-- replicas in the order of their keys are each there once
pub own_keys : (c : Cat) (rows : List ReplicaRow) → IsStrictlySortedBy replica_cmp rows → HaveOwnKeys (stored_rows c rows)
unfolding IsStrictlySortedBy
own_keys c [] sorted = tt
own_keys c (r ∷ rows) sorted = (λ t later key. apart rows (λ q here. in_from_all (λ y. replica_cmp r y ≡ Less) rows sorted.0 q here) t later key, own_keys c rows sorted.1)
  where
    apart : (qs : List ReplicaRow) → ((q : ReplicaRow) → IsIn qs q → replica_cmp r q ≡ Less) → (t : StoredReplica) → IsIn (stored_rows c qs) t → HasKey t.row r.object r.number → ⊥
    apart [] less t none key = none
    apart (q ∷ qs) less t (inl is) key =
        let row : q ≡ t.row = ap (λ (x : StoredReplica). x.row) is in
        let one : replica_cmp r q ≡ Equal = equal_key r q (sym (ap (λ (x : ReplicaRow). x.object) row ∙ key.0)) (sym (ap (λ (x : ReplicaRow). x.number) row ∙ key.1)) in
        let two : replica_cmp r q ≡ Less = less q (inl refl) in
        cc
    apart (q ∷ qs) less t (inr later) key = apart qs (λ x here. less x (inr here)) t later key

-- a replica with its slot
pub in_from_stored : (c : Cat) (rows : List ReplicaRow) (s : StoredReplica) → IsIn (stored_rows c rows) s → IsIn rows s.row × (slot_behind c s.row.leaf ≡ s.slot)
in_from_stored c [] s here = absurd here
in_from_stored c (r ∷ rows) s (inl is) =
    let row : r ≡ s.row = ap (λ (x : StoredReplica). x.row) is in
    (inl row, ap (λ (x : ReplicaRow). slot_behind c x.leaf) (sym row) ∙ ap (λ (x : StoredReplica). x.slot) is)
in_from_stored c (r ∷ rows) s (inr later) = let its = in_from_stored c rows s later in (inr its.0, its.1)

pub stored_from_in : (c : Cat) (rows : List ReplicaRow) (r : ReplicaRow) → IsIn rows r → (s : StoredReplica) × IsIn (stored_rows c rows) s × (s.row ≡ r)
stored_from_in c [] r here = absurd here
stored_from_in c (q ∷ rows) r (inl is) = (record { row = q; slot = slot_behind c q.leaf }, inl refl, is)
stored_from_in c (q ∷ rows) r (inr later) = let its = stored_from_in c rows r later in (its.0, inr its.1, its.2)

pub held_rows : (c : Cat) → IsSound c → (rows : List ReplicaRow) → ((r : ReplicaRow) → IsIn rows r → IsIn c.replicas r) → AreHeld c (stored_rows c rows)
held_rows c s rows there f here =
    let its = in_from_stored c rows f here in
    (there f.row its.0, slot_found c s f.row (there f.row its.0) ∙ ap Some its.1)
