-- Vault numbers, leaves and names that no two rows have.
use Rattle.std.proofs.Common.{◌≡◌, ◌==◌, ℕ, ◌<◌, ◌≤◌, Bool, true, false, List, [], inl, inr, refl, sym, ap, ◌∙◌, subst, arith, eq-eqb, eqb-true}
use Rattle.std.specs.Prelude.{filter, not, ◌&&◌, nat_lt}
use Rattle.std.specs.List.{list_any}
use Rattle.std.proofs.lemmas.Bool.{and_parts, and_from, not-true, not_from_false, ltb-true, lt-ltb}
use Rattle.std.proofs.lemmas.Bool.Decides.{eqb_tells}
use Rattle.grid_model.specs.Rows.{Cat, with_row, has_object, replica_cmp, orphan_cmp}
use Rattle.grid_model.specs.Applying.{is_leaf, is_drawn, is_replica, replica_fits, orphan_fits}
use Rattle.grid_model.specs.declared.deltas.ReplicaRow.{ReplicaRow}
use Rattle.grid_model.specs.declared.deltas.OrphanRow.{OrphanRow}
use Rattle.tables_laws.proofs.Rows.{IsIn, in_from_any, in_from_filter, in_from_with_row}
use Rattle.tables_laws.proofs.Forest.{none_in}
use Rattle.tables_laws.proofs.Standing.{ReplicaStands}

pub record HasOwnVaults (kept : List ReplicaRow) (left : List OrphanRow) (next stores : ℕ) : Type 0 where
  -- an object has one replica on a leaf
  pub leaves : (r o : ReplicaRow) → IsIn kept r → IsIn kept o → o.object ≡ r.object → o.leaf ≡ r.leaf → o.number ≡ r.number
  -- a vault number is of one replica, or of one orphan
  pub vaults : (r o : ReplicaRow) → IsIn kept r → IsIn kept o → o.vault ≡ r.vault → is_replica r.object r.number o ≡ true
  pub apart : (r : ReplicaRow) (x : OrphanRow) → IsIn kept r → IsIn left x → x.vault ≡ r.vault → ⊥
  pub orphans : (x : OrphanRow) → IsIn left x → (0 < x.vault) × (x.vault < next) × (x.slot < stores)

abbrev pub IsVaulted : Cat → Type 0
IsVaulted c = HasOwnVaults c.replicas c.orphans c.numbers.next_vault c.stores

pub vaults-empty : (next stores : ℕ) → HasOwnVaults [] [] next stores
vaults-empty next stores = record {
  leaves = λ r o here there. absurd here;
  vaults = λ r o here there. absurd here;
  apart = λ r x here there. absurd here;
  orphans = λ x here. absurd here;
}

-- what a replica asks of the others
module _ (c : Cat) (r : ReplicaRow) (fits : replica_fits c r ≡ true) where
  abbrev leaf_free : Bool
  leaf_free = not (list_any (λ o. (o.object == r.object) && not (o.number == r.number) && (o.leaf == r.leaf)) c.replicas)

  abbrev vault_free : Bool
  vault_free = not (list_any (λ o. (o.vault == r.vault) && not (is_replica r.object r.number o)) c.replicas)

  front : (has_object c r.object && is_leaf c r.leaf && leaf_free && is_drawn c r.vault) ≡ true
  front = (and_parts (has_object c r.object && is_leaf c r.leaf && leaf_free && is_drawn c r.vault) vault_free fits).0

  its_leaf : leaf_free ≡ true
  its_leaf = (and_parts (has_object c r.object && is_leaf c r.leaf) leaf_free (and_parts (has_object c r.object && is_leaf c r.leaf && leaf_free) (is_drawn c r.vault) front).0).1

  its_drawn : is_drawn c r.vault ≡ true
  its_drawn = (and_parts (has_object c r.object && is_leaf c r.leaf && leaf_free) (is_drawn c r.vault) front).1

  other_leaf : (o : ReplicaRow) → IsIn c.replicas o → o.object ≡ r.object → o.leaf ≡ r.leaf → o.number ≡ r.number
  other_leaf o here object leaf = elim (eqb_tells o.number r.number) [
    | inl is ↦ is.1
    | inr differs ↦
        absurd (none_in (λ x. (x.object == r.object) && not (x.number == r.number) && (x.leaf == r.leaf)) c.replicas (not-true _ its_leaf) o here
        (rw (eq-eqb o.object r.object object, differs.0, eq-eqb o.leaf r.leaf leaf) refl))
  ]

  other_vault : (o : ReplicaRow) → IsIn c.replicas o → o.vault ≡ r.vault → is_replica r.object r.number o ≡ true
  other_vault o here vault = told (is_replica r.object r.number o) refl
    where
      told : (b : Bool) → is_replica r.object r.number o ≡ b → is_replica r.object r.number o ≡ true
      told true e = e
      told false e =
          absurd (none_in (λ x. (x.vault == r.vault) && not (is_replica r.object r.number x)) c.replicas
          (not-true _ (and_parts (has_object c r.object && is_leaf c r.leaf && leaf_free && is_drawn c r.vault) vault_free fits).1) o here
          (and_from (o.vault == r.vault) (not (is_replica r.object r.number o)) (eq-eqb o.vault r.vault vault) (ap not e)))

  no_orphan : (x : OrphanRow) → IsIn c.orphans x → x.vault ≡ r.vault → ⊥
  no_orphan x here is =
      none_in (λ o. o.vault == r.vault) c.orphans
      (not-true _ (and_parts (nat_lt 0 r.vault && nat_lt r.vault c.numbers.next_vault) (not (list_any (λ o. o.vault == r.vault) c.orphans)) its_drawn).1) x here (eq-eqb x.vault r.vault is)

  pub vaults-replica : IsVaulted c → HasOwnVaults (with_row replica_cmp c.replicas r) c.orphans c.numbers.next_vault c.stores
  vaults-replica v = record {
    leaves = λ x y here there object leaf. elim (in_from_with_row replica_cmp c.replicas r x here) [
      | inl x_is ↦ elim (in_from_with_row replica_cmp c.replicas r y there) [
        | inl y_is ↦ ap (λ (z : ReplicaRow). z.number) (sym y_is ∙ x_is)
        | inr y_was ↦ other_leaf y y_was (object ∙ ap (λ (z : ReplicaRow). z.object) (sym x_is)) (leaf ∙ ap (λ (z : ReplicaRow). z.leaf) (sym x_is)) ∙ ap (λ (z : ReplicaRow). z.number) x_is
      ]
      | inr x_was ↦ elim (in_from_with_row replica_cmp c.replicas r y there) [
        | inl y_is ↦ ap (λ (z : ReplicaRow). z.number) (sym y_is)
            ∙ sym (other_leaf x x_was (sym object ∙ ap (λ (z : ReplicaRow). z.object) (sym y_is)) (sym leaf ∙ ap (λ (z : ReplicaRow). z.leaf) (sym y_is)))
        | inr y_was ↦ v.leaves x y x_was y_was object leaf
      ]
    ];
    vaults = λ x y here there vault. elim (in_from_with_row replica_cmp c.replicas r x here) [
      | inl x_is ↦ elim (in_from_with_row replica_cmp c.replicas r y there) [
        | inl y_is ↦ same x y (sym y_is ∙ x_is)
        | inr y_was ↦ subst (λ (z : ReplicaRow). is_replica z.object z.number y ≡ true) x_is (other_vault y y_was (vault ∙ ap (λ (z : ReplicaRow). z.vault) (sym x_is)))
      ]
      | inr x_was ↦ elim (in_from_with_row replica_cmp c.replicas r y there) [
        | inl y_is ↦ turned x y (subst (λ (z : ReplicaRow). is_replica z.object z.number x ≡ true) y_is (other_vault x x_was (sym vault ∙ ap (λ (z : ReplicaRow). z.vault) (sym y_is))))
        | inr y_was ↦ v.vaults x y x_was y_was vault
      ]
    ];
    apart = λ x o here there vault. elim (in_from_with_row replica_cmp c.replicas r x here) [
      | inl x_is ↦ no_orphan o there (vault ∙ ap (λ (z : ReplicaRow). z.vault) (sym x_is))
      | inr x_was ↦ v.apart x o x_was there vault
    ];
    orphans = v.orphans;
  }
    where
      same : (x y : ReplicaRow) → y ≡ x → is_replica x.object x.number y ≡ true
      same x y e = and_from (y.object == x.object) (y.number == x.number) (eq-eqb y.object x.object (ap (λ (z : ReplicaRow). z.object) e)) (eq-eqb y.number x.number (ap (λ (z : ReplicaRow). z.number) e))

      turned : (x y : ReplicaRow) → is_replica y.object y.number x ≡ true → is_replica x.object x.number y ≡ true
      turned x y e =
          let parts = and_parts (x.object == y.object) (x.number == y.number) e in
          and_from (y.object == x.object) (y.number == x.number) (eq-eqb y.object x.object (sym (eqb-true x.object y.object parts.0))) (eq-eqb y.number x.number (sym (eqb-true x.number y.number parts.1)))

-- fewer replicas or orphans
pub vaults-fewer : (c : Cat) (q : ReplicaRow → Bool) → IsVaulted c → HasOwnVaults (filter q c.replicas) c.orphans c.numbers.next_vault c.stores
vaults-fewer c q v = record {
  leaves = λ x y here there. v.leaves x y (was x here) (was y there);
  vaults = λ x y here there. v.vaults x y (was x here) (was y there);
  apart = λ x o here there. v.apart x o (was x here) there;
  orphans = v.orphans;
}
  where
    was : (x : ReplicaRow) → IsIn (filter q c.replicas) x → IsIn c.replicas x
    was x here = (in_from_filter q c.replicas x here).0

pub vaults-fewer_orphans : (c : Cat) (q : OrphanRow → Bool) → IsVaulted c → HasOwnVaults c.replicas (filter q c.orphans) c.numbers.next_vault c.stores
vaults-fewer_orphans c q v = record {
  leaves = v.leaves;
  vaults = v.vaults;
  apart = λ x o here there. v.apart x o here (in_from_filter q c.orphans o there).0;
  orphans = λ o here. v.orphans o (in_from_filter q c.orphans o here).0;
}

pub vaults-orphan : (c : Cat) (o : OrphanRow) → orphan_fits c o ≡ true → IsVaulted c → HasOwnVaults c.replicas (with_row orphan_cmp c.orphans o) c.numbers.next_vault c.stores
vaults-orphan c o fits v = record {
  leaves = v.leaves;
  vaults = v.vaults;
  apart = λ x y here there vault. elim (in_from_with_row orphan_cmp c.orphans o y there) [
    | inl y_is ↦ free x here (ap (λ (z : OrphanRow). z.vault) y_is ∙ vault)
    | inr y_was ↦ v.apart x y here y_was vault
  ];
  orphans = λ y here. elim (in_from_with_row orphan_cmp c.orphans o y here) [
    | inl y_is ↦ subst (λ (z : OrphanRow). (0 < z.vault) × (z.vault < c.numbers.next_vault) × (z.slot < c.stores)) y_is drawn
    | inr y_was ↦ v.orphans y y_was
  ];
}
  where
    parts : ((is_drawn c o.vault && not (list_any (λ x. x.vault == o.vault) c.replicas)) ≡ true) × (nat_lt o.slot c.stores ≡ true)
    parts = and_parts (is_drawn c o.vault && not (list_any (λ x. x.vault == o.vault) c.replicas)) (nat_lt o.slot c.stores) fits

    free : (x : ReplicaRow) → IsIn c.replicas x → o.vault ≡ x.vault → ⊥
    free x here is =
        none_in (λ y. y.vault == o.vault) c.replicas (not-true _ (and_parts (is_drawn c o.vault) (not (list_any (λ y. y.vault == o.vault) c.replicas)) parts.0).1) x here (eq-eqb x.vault o.vault (sym is))

    drawn : (0 < o.vault) × (o.vault < c.numbers.next_vault) × (o.slot < c.stores)
    drawn =
        let its = and_parts (is_drawn c o.vault) (not (list_any (λ y. y.vault == o.vault) c.replicas)) parts.0 in
        let front = and_parts (nat_lt 0 o.vault && nat_lt o.vault c.numbers.next_vault) (not (list_any (λ y. y.vault == o.vault) c.orphans)) its.0 in
        let both = and_parts (nat_lt 0 o.vault) (nat_lt o.vault c.numbers.next_vault) front.0 in
        (ltb-true 0 o.vault both.0, ltb-true o.vault c.numbers.next_vault both.1, ltb-true o.slot c.stores parts.1)

-- more vault numbers were drawn
pub vaults-drawn : (c : Cat) (next : ℕ) → c.numbers.next_vault ≤ next → IsVaulted c → HasOwnVaults c.replicas c.orphans next c.stores
vaults-drawn c next more v = record {
  leaves = v.leaves;
  vaults = v.vaults;
  apart = v.apart;
  orphans = λ o here. let its = v.orphans o here in (its.0, omega (arith, more, its.1), its.2);
}

-- the first stores: there was no orphan
pub vaults-stores : (c : Cat) (stores : ℕ) → c.stores ≡ 0 → IsVaulted c → HasOwnVaults c.replicas c.orphans c.numbers.next_vault stores
vaults-stores c stores none v = record {
  leaves = v.leaves;
  vaults = v.vaults;
  apart = v.apart;
  orphans = λ o here. let its = v.orphans o here in absurd (omega (arith, none, its.2));
}

-- ---- each replica could be put again

no_any : {X : Type 0} (p : X → Bool) (rows : List X) → ((x : X) → IsIn rows x → p x ≡ true → ⊥) → list_any p rows ≡ false
no_any p rows none = told (list_any p rows) refl
  where
    told : (b : Bool) → list_any p rows ≡ b → list_any p rows ≡ false
    told true e = let found = in_from_any p rows e in absurd (none found.0 found.1 found.2)
    told false e = e

pub fits-again : (c : Cat) (r : ReplicaRow) → IsIn c.replicas r → ReplicaStands c r → IsVaulted c → replica_fits c r ≡ true
fits-again c r here stands v =
    and_from _ _ (and_from _ _ (and_from _ _ (and_from (has_object c r.object) (is_leaf c r.leaf) stands.0 stands.1) leaf) drawn) vault
  where
    leaf : not (list_any (λ o. (o.object == r.object) && not (o.number == r.number) && (o.leaf == r.leaf)) c.replicas) ≡ true
    leaf = not_from_false _ (no_any (λ o. (o.object == r.object) && not (o.number == r.number) && (o.leaf == r.leaf)) c.replicas (λ o there e.
        let parts = and_parts ((o.object == r.object) && not (o.number == r.number)) (o.leaf == r.leaf) e in
        let first = and_parts (o.object == r.object) (not (o.number == r.number)) parts.0 in
        let differs : (o.number == r.number) ≡ false = not-true _ first.1 in
        let same : (o.number == r.number) ≡ true = eq-eqb o.number r.number (v.leaves r o here there (eqb-true o.object r.object first.0) (eqb-true o.leaf r.leaf parts.1)) in
        cc))

    drawn : is_drawn c r.vault ≡ true
    drawn = and_from _ _ (and_from (nat_lt 0 r.vault) (nat_lt r.vault c.numbers.next_vault) (lt-ltb 0 r.vault stands.2) (lt-ltb r.vault c.numbers.next_vault stands.3))
        (not_from_false _ (no_any (λ o. o.vault == r.vault) c.orphans (λ o there e. v.apart r o here there (eqb-true o.vault r.vault e))))

    vault : not (list_any (λ o. (o.vault == r.vault) && not (is_replica r.object r.number o)) c.replicas) ≡ true
    vault = not_from_false _ (no_any (λ o. (o.vault == r.vault) && not (is_replica r.object r.number o)) c.replicas (λ o there e.
        let parts = and_parts (o.vault == r.vault) (not (is_replica r.object r.number o)) e in
        let differs : is_replica r.object r.number o ≡ false = not-true _ parts.1 in
        let same : is_replica r.object r.number o ≡ true = v.vaults r o here there (eqb-true o.vault r.vault parts.0) in
        cc))

pub orphan_free : (c : Cat) (o : OrphanRow) → IsIn c.orphans o → IsVaulted c → list_any (λ r. r.vault == o.vault) c.replicas ≡ false
orphan_free c o here v = no_any (λ r. r.vault == o.vault) c.replicas (λ r there e. v.apart r o there here (sym (eqb-true r.vault o.vault e)))
