-- Replicas of an object become stale: the changes are in order, and the rows stay where they are.
use Rattle.std.proofs.Common.{◌≡◌, false, List, [], ◌∷◌, Ok, inl, inr, refl, sym, ap, ◌∙◌}
use Rattle.grid_model.specs.Maps.{put}
use Rattle.grid_model.specs.Names.{Path}
use Rattle.grid_model.specs.Grid.{Grid, Replica}
use Rattle.grid_model.specs.Trees.{Replicas}
use Rattle.grid_model.specs.Rows.{Cat, replica_cmp, with_row}
use Rattle.grid_model.specs.RowGrids.{replica_of}
use Rattle.grid_model.specs.Applying.{apply, apply_all, where_fits}
use Rattle.grid_model.specs.declared.deltas.Delta.TheVariants as delta
use Rattle.grid_model.specs.declared.deltas.ObjectRow.{ObjectRow}
use Rattle.grid_model.specs.declared.deltas.ReplicaRow.{ReplicaRow}
use Rattle.tables_laws.proofs.Rows.{IsIn, in_from_all, in_from_with_row, old_in_with_row}
use Rattle.tables_laws.proofs.Standing.{ReplicaStands}
use Rattle.tables_laws.proofs.Vaults.{fits-again}
use Rattle.tables_laws.proofs.Sound.{IsSound, sound-apply}
use Rattle.file_laws.specs.Rewriting.{replicas_staled}
use Rattle.file_laws.proofs.Fewer.{apply_step}
use Rattle.file_laws.proofs.Turning.{same_key}
use Rattle.plan_base.proofs.Sizes.{Apart}
use Rattle.plan_object.proofs.ObjectGrids.{HasIt, with_replica}

-- not good
abbrev pub stale : Replica → Replica
stale x = record x { good = false }

-- these rows' replicas are stale
abbrev pub stales : Cat → Replicas → List ReplicaRow → Replicas
stales c rs [] = rs
stales c rs (r ∷ rows) = stales c (put rs r.number (stale (replica_of c r))) rows

-- the row was there, but for whether it is good
pub record IsFrom (c : Cat) (y : ReplicaRow) : Type 0 where
  pub row : ReplicaRow
  pub there : IsIn c.replicas row
  pub object_is : row.object ≡ y.object
  pub number_is : row.number ≡ y.number
  pub leaf_is : row.leaf ≡ y.leaf
  pub vault_is : row.vault ≡ y.vault

module _ (o : ObjectRow) where
  -- these are replicas of the object
  pub record MayStale (c : Cat) (rows : List ReplicaRow) : Type 0 where
    pub sound : IsSound c
    pub each : (r : ReplicaRow) → IsIn rows r → IsIn c.replicas r × (r.object ≡ o.id)
    pub own : Apart (λ (r : ReplicaRow). r.number) rows

  -- what then is there
  pub record Outdated (c : Cat) (rows : List ReplicaRow) : Type 0 where
    pub replicas : List ReplicaRow
    pub applied : apply_all c (replicas_staled rows) ≡ Ok (record c { replicas = replicas })
    pub sound : IsSound (record c { replicas = replicas })
    pub grid : (g : Grid) (p : Path) (rs : Replicas) → HasIt o c g p rs → HasIt o (record c { replicas = replicas }) g p (stales c rs rows)
    pub from : (y : ReplicaRow) → IsIn replicas y → IsFrom c y

  module _ (c : Cat) (r : ReplicaRow) (rows : List ReplicaRow) (may : MayStale c (r ∷ rows)) where
    abbrev old : ReplicaRow
    old = record r { good = false }

    abbrev staled : Cat
    staled = record c { replicas = with_row replica_cmp c.replicas old }

    its : IsIn c.replicas r × (r.object ≡ o.id)
    its = may.each r (inl refl)

    applied_staled : apply c (delta.Replica old) ≡ Ok staled
    applied_staled = ap (λ b. where_fits b 9 staled) (fits-again c r its.0 (in_from_all (ReplicaStands c) c.replicas may.sound.tied.replicas r its.0) may.sound.vaults)

    staled_sound : IsSound staled
    staled_sound = sound-apply c staled (delta.Replica old) may.sound applied_staled

    next_may : MayStale staled rows
    next_may = record {
      sound = staled_sound;
      each = λ x later. let was = may.each x (inr later) in (old_in_with_row replica_cmp c.replicas old x was.0 (λ e. may.own.0 x later (sym (same_key old x e).1)), was.1);
      own = may.own.1;
    }

    step_grid : (g : Grid) (p : Path) (rs : Replicas) → HasIt o c g p rs → HasIt o staled g p (put rs r.number (stale (replica_of c r)))
    step_grid g p rs has = with_replica o c g p rs has old its.1 staled_sound

    step_from : (y : ReplicaRow) → IsIn staled.replicas y → IsFrom c y
    step_from y here = elim (in_from_with_row replica_cmp c.replicas old y here) [
      | inl is ↦ record {
        row = r;
        there = its.0;
        object_is = ap (λ (x : ReplicaRow). x.object) is;
        number_is = ap (λ (x : ReplicaRow). x.number) is;
        leaf_is = ap (λ (x : ReplicaRow). x.leaf) is;
        vault_is = ap (λ (x : ReplicaRow). x.vault) is;
      }
      | inr was ↦ record { row = y; there = was; object_is = refl; number_is = refl; leaf_is = refl; vault_is = refl }
    ]

  pub stale_all : (rows : List ReplicaRow) (c : Cat) → MayStale c rows → Outdated c rows
  stale_all [] c may = record {
    replicas = c.replicas;
    applied = refl;
    sound = may.sound;
    grid = λ g p rs has. has;
    from = λ y here. record { row = y; there = here; object_is = refl; number_is = refl; leaf_is = refl; vault_is = refl };
  }
  stale_all (r ∷ rows) c may =
      let rest = stale_all rows (staled c r rows may) (next_may c r rows may) in
      record {
        replicas = rest.replicas;
        applied =
            apply_step (delta.Replica (old c r rows may)) (replicas_staled rows) c (staled c r rows may) (applied_staled c r rows may) ∙ rest.applied;
        sound = rest.sound;
        grid = λ g p rs has. rest.grid g p (put rs r.number (stale (replica_of c r))) (step_grid c r rows may g p rs has);
        from = λ y here.
            let last = rest.from y here in
            let first = step_from c r rows may last.row last.there in
            record {
              row = first.row;
              there = first.there;
              object_is = first.object_is ∙ last.object_is;
              number_is = first.number_is ∙ last.number_is;
              leaf_is = first.leaf_is ∙ last.leaf_is;
              vault_is = first.vault_is ∙ last.vault_is;
            };
      }
