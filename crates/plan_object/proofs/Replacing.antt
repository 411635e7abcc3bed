-- Replicas of an object go: the changes are in order, leave the other rows and make the files orphans.
use Rattle.std.proofs.Common.{◌≡◌, ◌==◌, ◌⊎◌, ℕ, Bool, true, false, List, [], ◌∷◌, Ok, inl, inr, refl, sym, ap, ◌∙◌, subst, eqb-true, eq-eqb}
use Rattle.std.specs.Prelude.{not, ◌&&◌, filter, nat_lt}
use Rattle.std.specs.List.{list_any}
use Rattle.std.proofs.lemmas.Bool.{and_from, and_parts, lt-ltb}
use Rattle.grid_model.specs.Maps.{remove}
use Rattle.grid_model.specs.Names.{Path}
use Rattle.grid_model.specs.Grid.{Grid}
use Rattle.grid_model.specs.Trees.{Replicas}
use Rattle.grid_model.specs.Rows.{Cat, orphan_cmp, with_row}
use Rattle.grid_model.specs.Applying.{apply, apply_all, is_drawn, is_replica, orphan_fits, where_fits}
use Rattle.grid_model.specs.declared.deltas.Delta.TheVariants as delta
use Rattle.grid_model.specs.declared.deltas.ObjectRow.{ObjectRow}
use Rattle.grid_model.specs.declared.deltas.OrphanRow.{OrphanRow}
use Rattle.grid_model.specs.declared.deltas.ReplicaRow.{ReplicaRow}
use Rattle.tables_laws.proofs.Rows.{IsIn, any_from_in, filter_from_in, in_from_all, in_from_filter, in_from_with_row, old_in_with_row}
use Rattle.tables_laws.proofs.Numbered.{same_number}
use Rattle.tables_laws.proofs.Standing.{ReplicaStands}
use Rattle.tables_laws.proofs.Sound.{IsSound, sound-apply}
use Rattle.file_laws.specs.Rewriting.{StoredReplica, replicas_dropped}
use Rattle.file_laws.proofs.Dropping.{orphan_of}
use Rattle.file_laws.proofs.Fewer.{apply_step}
use Rattle.plan_base.proofs.Sizes.{Apart}
use Rattle.plan_object.proofs.ObjectGrids.{HasIt, none_so, with_orphans, without_replica}

-- without these numbers
abbrev pub removes : Replicas → List StoredReplica → Replicas
removes rs [] = rs
removes rs (f ∷ stored) = removes (remove rs f.row.number) stored

module _ (o : ObjectRow) where
  -- these are replicas of the object, each in a slot of a store
  pub record MayGo (c : Cat) (stored : List StoredReplica) : Type 0 where
    pub sound : IsSound c
    pub each : (f : StoredReplica) → IsIn stored f → IsIn c.replicas f.row × (f.row.object ≡ o.id) × (nat_lt f.slot c.stores ≡ true)
    pub differ : Apart (λ (f : StoredReplica). f.row.number) stored

  -- what then is there
  pub record Gone (c : Cat) (stored : List StoredReplica) : Type 0 where
    pub replicas : List ReplicaRow
    pub orphans : List OrphanRow
    pub applied : apply_all c (replicas_dropped stored) ≡ Ok (record c { replicas = replicas; orphans = orphans })
    pub sound : IsSound (record c { replicas = replicas; orphans = orphans })
    pub grid : (g : Grid) (p : Path) (rs : Replicas) → HasIt o c g p rs → HasIt o (record c { replicas = replicas; orphans = orphans }) g p (removes rs stored)
    pub kept : (y : ReplicaRow) → IsIn replicas y → IsIn c.replicas y × ((f : StoredReplica) → IsIn stored f → f.row ≡ y → ⊥)
    pub stays : (y : ReplicaRow) → IsIn c.replicas y → ((f : StoredReplica) → IsIn stored f → f.row.object ≡ y.object → f.row.number ≡ y.number → ⊥) → IsIn replicas y
    pub more : (x : OrphanRow) → IsIn c.orphans x → IsIn orphans x
    pub left : (x : OrphanRow) → IsIn orphans x → IsIn c.orphans x ⊎ ((f : StoredReplica) × IsIn stored f × (orphan_of f ≡ x))

  -- ---- one replica

  module _ (c : Cat) (f : StoredReplica) (stored : List StoredReplica) (may : MayGo c (f ∷ stored)) where
    abbrev other : ReplicaRow → Bool
    other x = not (is_replica f.row.object f.row.number x)

    abbrev dropped : Cat
    dropped = record c { replicas = filter (λ x. not (is_replica f.row.object f.row.number x)) c.replicas }

    abbrev left_over : Cat
    left_over = record dropped { orphans = with_row orphan_cmp c.orphans (orphan_of f) }

    its : IsIn c.replicas f.row × (f.row.object ≡ o.id) × (nat_lt f.slot c.stores ≡ true)
    its = may.each f (inl refl)

    itself : is_replica f.row.object f.row.number f.row ≡ true
    itself = and_from (f.row.object == f.row.object) (f.row.number == f.row.number) (eq-eqb f.row.object f.row.object refl) (eq-eqb f.row.number f.row.number refl)

    applied_dropped : apply c (delta.NoReplica f.row.object f.row.number) ≡ Ok dropped
    applied_dropped = ap (λ b. where_fits b 10 dropped) (any_from_in (λ x. is_replica f.row.object f.row.number x) c.replicas f.row its.0 itself)

    dropped_sound : IsSound dropped
    dropped_sound = sound-apply c dropped (delta.NoReplica f.row.object f.row.number) may.sound applied_dropped

    no_orphan_yet : (x : OrphanRow) → IsIn c.orphans x → x.vault ≡ f.row.vault → ⊥
    no_orphan_yet x here same = may.sound.vaults.apart f.row x its.0 here same

    fits : orphan_fits dropped (orphan_of f) ≡ true
    fits =
        let stands : ReplicaStands c f.row = in_from_all (ReplicaStands c) c.replicas may.sound.tied.replicas f.row its.0 in
        and_from (is_drawn dropped f.row.vault && not (list_any (λ (x : ReplicaRow). x.vault == f.row.vault) dropped.replicas)) (nat_lt f.slot c.stores)
        (and_from (is_drawn dropped f.row.vault) (not (list_any (λ (x : ReplicaRow). x.vault == f.row.vault) dropped.replicas))
        (and_from (nat_lt 0 f.row.vault && nat_lt f.row.vault c.numbers.next_vault) (not (list_any (λ (x : OrphanRow). x.vault == f.row.vault) c.orphans))
        (and_from (nat_lt 0 f.row.vault) (nat_lt f.row.vault c.numbers.next_vault) (lt-ltb 0 f.row.vault stands.2) (lt-ltb f.row.vault c.numbers.next_vault stands.3))
        (ap not (none_so (λ (x : OrphanRow). x.vault == f.row.vault) c.orphans (λ x here e. no_orphan_yet x here (eqb-true x.vault f.row.vault e)))))
        (ap not (none_so (λ (x : ReplicaRow). x.vault == f.row.vault) dropped.replicas (λ x here e.
        let old = in_from_filter other c.replicas x here in
        let same : is_replica f.row.object f.row.number x ≡ true = may.sound.vaults.vaults f.row x its.0 old.0 (eqb-true x.vault f.row.vault e) in
        let wrong : not (is_replica f.row.object f.row.number x) ≡ true = old.1 in
        cc)))) its.2

    applied_left : apply dropped (delta.Orphan (orphan_of f)) ≡ Ok left_over
    applied_left = ap (λ b. where_fits b 17 left_over) fits

    left_sound : IsSound left_over
    left_sound = sound-apply dropped left_over (delta.Orphan (orphan_of f)) dropped_sound applied_left

    -- another one stays
    other_stays : (y : ReplicaRow) → IsIn c.replicas y → (f.row.object ≡ y.object → f.row.number ≡ y.number → ⊥) → IsIn dropped.replicas y
    other_stays y here apart = filter_from_in other c.replicas y here (by (is_replica f.row.object f.row.number y) refl)
      where
        by : (b : Bool) → is_replica f.row.object f.row.number y ≡ b → not b ≡ true
        by false e = refl
        by true e =
            let parts = and_parts (y.object == f.row.object) (y.number == f.row.number) e in
            absurd (apart (sym (eqb-true y.object f.row.object parts.0)) (sym (eqb-true y.number f.row.number parts.1)))

    next_may : MayGo left_over stored
    next_may = record {
      sound = left_sound;
      each = λ h later. let old = may.each h (inr later) in (other_stays h.row old.0 (λ object number. may.differ.0 h later (sym number)), old.1, old.2);
      differ = may.differ.1;
    }

    step_grid : (g : Grid) (p : Path) (rs : Replicas) → HasIt o c g p rs → HasIt o left_over g p (remove rs f.row.number)
    step_grid g p rs has =
        let D : ℕ → Type 0 = λ id. HasIt o (record c { replicas = filter (λ x. not (is_replica id f.row.number x)) c.replicas }) g p (remove rs f.row.number) in
        let S : ℕ → Type 0 = λ id. IsSound (record c { replicas = filter (λ x. not (is_replica id f.row.number x)) c.replicas }) in
        with_orphans o dropped g p (remove rs f.row.number) (subst D (sym its.1) (without_replica o c g p rs has f.row.number (subst S its.1 dropped_sound))) left_over.orphans left_sound

  pub go_all : (stored : List StoredReplica) (c : Cat) → MayGo c stored → Gone c stored
  go_all [] c may = record {
    replicas = c.replicas;
    orphans = c.orphans;
    applied = refl;
    sound = may.sound;
    grid = λ g p rs has. has;
    kept = λ y here. (here, λ f none. absurd none);
    stays = λ y here apart. here;
    more = λ x here. here;
    left = λ x here. inl here;
  }
  go_all (f ∷ stored) c may =
      let rest = go_all stored (left_over c f stored may) (next_may c f stored may) in
      record {
        replicas = rest.replicas;
        orphans = rest.orphans;
        applied =
            apply_step (delta.NoReplica f.row.object f.row.number) (delta.Orphan (orphan_of f) ∷ replicas_dropped stored) c (dropped c f stored may) (applied_dropped c f stored may)
            ∙ apply_step (delta.Orphan (orphan_of f)) (replicas_dropped stored) (dropped c f stored may) (left_over c f stored may) (applied_left c f stored may) ∙ rest.applied;
        sound = rest.sound;
        grid = λ g p rs has. rest.grid g p (remove rs f.row.number) (step_grid c f stored may g p rs has);
        kept = λ y here.
            let last = rest.kept y here in
            let old = in_from_filter (other c f stored may) c.replicas y last.0 in (
              old.0,
              λ h which same. elim which [
                | inl is ↦
                    let gone : is_replica f.row.object f.row.number y ≡ true = subst (λ (z : ReplicaRow). is_replica f.row.object f.row.number z ≡ true) (ap (λ (k : StoredReplica). k.row) is ∙ same) (itself c f stored may) in
                    let wrong : not (is_replica f.row.object f.row.number y) ≡ true = old.1 in
                    cc
                | inr later ↦ last.1 h later same
              ],
            );
        stays = λ y here apart. rest.stays y (other_stays c f stored may y here (apart f (inl refl))) (λ h later. apart h (inr later));
        more = λ x here. rest.more x (old_in_with_row orphan_cmp c.orphans (orphan_of f) x here (λ e. no_orphan_yet c f stored may x here (sym (same_number f.row.vault x.vault e))));
        left = λ x here. elim (rest.left x here) [
          | inl was ↦ elim (in_from_with_row orphan_cmp c.orphans (orphan_of f) x was) [ inl is ↦ inr (f, inl refl, is) | inr old ↦ inl old ]
          | inr one ↦ inr (one.0, inr one.1, one.2)
        ];
      }
