-- Files that were orphans become replicas of an object: the changes are in order, and put the replicas into the grid.
use Rattle.std.proofs.Common.{◌≡◌, ◌==◌, ◌⊎◌, ℕ, ◌+◌, ◌<◌, ◌≤◌, true, List, [], ◌∷◌, length, Some, Ok, inl, inr, refl, sym, ap, ◌∙◌, arith, eqb-true, eq-eqb}
use Rattle.std.specs.Prelude.{not, ◌&&◌, filter, nat_lt}
use Rattle.std.specs.List.{AllByRecursion, list_any}
use Rattle.std.proofs.lemmas.Bool.{and_from, and_parts, lt-ltb}
use Rattle.grid_model.specs.Names.{Path}
use Rattle.grid_model.specs.Grid.{Grid}
use Rattle.grid_model.specs.Maps.{put}
use Rattle.grid_model.specs.Trees.{Replicas}
use Rattle.grid_model.specs.Rows.{Cat, object, has_object, replica_cmp, with_row}
use Rattle.grid_model.specs.RowGrids.{resource_name}
use Rattle.grid_model.specs.Applying.{apply, apply_all, is_leaf, is_replica, replica_fits, where_fits}
use Rattle.grid_model.specs.declared.deltas.Delta.TheVariants as delta
use Rattle.grid_model.specs.declared.deltas.ObjectRow.{ObjectRow}
use Rattle.grid_model.specs.declared.deltas.OrphanRow.{OrphanRow}
use Rattle.grid_model.specs.declared.deltas.ReplicaRow.{ReplicaRow}
use Rattle.tables_laws.proofs.Rows.{IsIn, any_from_in, in_from_filter, in_from_find, in_from_with_row}
use Rattle.tables_laws.proofs.Sound.{IsSound, sound-apply}
use Rattle.file_laws.specs.Puts.{Target}
use Rattle.file_laws.specs.Rewriting.{NumberedTarget, replicas_placed, targets_of}
use Rattle.file_laws.proofs.Fewer.{apply_step}
use Rattle.file_laws.proofs.Puts.{AreThere, past}
use Rattle.plan_base.proofs.Sizes.{Apart}
use Rattle.plan_object.proofs.GoodOn.{good, puts}
use Rattle.plan_object.proofs.ObjectGrids.{HasIt, none_so, with_orphans, with_replica}

module _ (o : ObjectRow) where
  -- the files of these targets, numbered from v on, may become replicas of the object
  pub record Ready (c : Cat) (v : ℕ) (ts : List NumberedTarget) : Type 0 where
    pub sound : IsSound c
    pub found : object c o.id ≡ Some o
    pub orphans : AreThere v (targets_of ts) c.orphans
    pub leaves : AllByRecursion (λ t. is_leaf c t.leaf ≡ true) (targets_of ts)
    pub apart : Apart (λ (t : Target). t.leaf) (targets_of ts)
    pub other_leaves : (y : ReplicaRow) → IsIn c.replicas y → y.object ≡ o.id → (t : Target) → IsIn (targets_of ts) t → y.leaf ≡ t.leaf → ⊥
    pub vaults : (y : ReplicaRow) → IsIn c.replicas y → y.vault < v
    pub some_vault : 0 < v
    pub drawn : v + length ts ≤ c.numbers.next_vault

  -- what then is there
  pub record Filed (c : Cat) (v : ℕ) (ts : List NumberedTarget) : Type 0 where
    pub replicas : List ReplicaRow
    pub orphans : List OrphanRow
    pub applied : apply_all c (replicas_placed o v ts) ≡ Ok (record c { replicas = replicas; orphans = orphans })
    pub grid : (g : Grid) (p : Path) (rs : Replicas) → HasIt o c g p rs → HasIt o (record c { replicas = replicas; orphans = orphans }) g p (puts o.size o.digest (resource_name c) rs ts)
    pub old_replicas : (y : ReplicaRow) → IsIn replicas y → IsIn c.replicas y ⊎ (v ≤ y.vault)
    pub old_orphans : (x : OrphanRow) → IsIn orphans x → IsIn c.orphans x

  -- ---- one file

  module _ (c : Cat) (v : ℕ) (t : NumberedTarget) (ts : List NumberedTarget) (ready : Ready c v (t ∷ ts)) where
    abbrev r : ReplicaRow
    r = record { object = o.id; number = t.number; leaf = t.target.leaf; good = true; size = o.size; digest = o.digest; vault = v }

    abbrev freed : Cat
    freed = record c { orphans = filter (λ x. not (x.vault == v)) c.orphans }

    abbrev filed : Cat
    filed = record freed { replicas = with_row replica_cmp c.replicas r }

    applied_freed : apply c (delta.NoOrphan v) ≡ Ok freed
    applied_freed = ap (λ b. where_fits b 18 freed) (any_from_in (λ (x : OrphanRow). x.vault == v) c.orphans (record { vault = v; slot = t.target.slot }) ready.orphans.0 (eq-eqb v v refl))

    freed_sound : IsSound freed
    freed_sound = sound-apply c freed (delta.NoOrphan v) ready.sound applied_freed

    here : IsIn c.objects o × ((o.id == o.id) ≡ true)
    here = in_from_find (λ (x : ObjectRow). x.id == o.id) c.objects o ready.found

    fits : replica_fits freed r ≡ true
    fits =
        and_from _ _
        (and_from _ _ (and_from _ _ (and_from (has_object freed o.id) (is_leaf freed t.target.leaf) (any_from_in (λ (x : ObjectRow). x.id == o.id) c.objects o here.0 here.1) ready.leaves.0)
        (ap not (none_so (λ (x : ReplicaRow). (x.object == o.id) && not (x.number == t.number) && (x.leaf == t.target.leaf)) c.replicas (λ x there e.
        let parts = and_parts ((x.object == o.id) && not (x.number == t.number)) (x.leaf == t.target.leaf) e in
        ready.other_leaves x there (eqb-true x.object o.id (and_parts (x.object == o.id) (not (x.number == t.number)) parts.0).0) t.target (inl refl) (eqb-true x.leaf t.target.leaf parts.1)))))
        (and_from (nat_lt 0 v && nat_lt v c.numbers.next_vault) (not (list_any (λ (x : OrphanRow). x.vault == v) freed.orphans))
        (and_from (nat_lt 0 v) (nat_lt v c.numbers.next_vault) (lt-ltb 0 v ready.some_vault) (lt-ltb v c.numbers.next_vault (omega (arith, ready.drawn))))
        (ap not (none_so (λ (x : OrphanRow). x.vault == v) freed.orphans (λ x there e.
        let kept = (in_from_filter (λ (x : OrphanRow). not (x.vault == v)) c.orphans x there).1 in
        let off : not true ≡ true = ap not (sym e) ∙ kept in
        cc)))))
        (ap not (none_so (λ (x : ReplicaRow). (x.vault == v) && not (is_replica o.id t.number x)) c.replicas
        (λ x there e. omega (arith, ready.vaults x there, eqb-true x.vault v (and_parts (x.vault == v) (not (is_replica o.id t.number x)) e).0))))

    applied_filed : apply freed (delta.Replica r) ≡ Ok filed
    applied_filed = ap (λ b. where_fits b 9 filed) fits

    filed_sound : IsSound filed
    filed_sound = sound-apply freed filed (delta.Replica r) freed_sound applied_filed

    next_ready : Ready filed (v + 1) ts
    next_ready = record {
      sound = filed_sound;
      found = ready.found;
      orphans = past (targets_of ts) (v + 1) v c.orphans (omega arith) ready.orphans.1;
      leaves = ready.leaves.1;
      apart = ready.apart.1;
      other_leaves = λ y there its u later same. elim (in_from_with_row replica_cmp c.replicas r y there) [
        | inl is ↦ ready.apart.0 u later (sym same ∙ ap (λ (x : ReplicaRow). x.leaf) (sym is))
        | inr was ↦ ready.other_leaves y was its u (inr later) same
      ];
      vaults = λ y there. elim (in_from_with_row replica_cmp c.replicas r y there) [
        | inl is ↦ omega (arith, ap (λ (x : ReplicaRow). x.vault) is)
        | inr was ↦ omega (arith, ready.vaults y was)
      ];
      some_vault = omega arith;
      drawn = omega (arith, ready.drawn);
    }

    step_grid : (g : Grid) (p : Path) (rs : Replicas) → HasIt o c g p rs → HasIt o filed g p (put rs t.number (good o.size o.digest (resource_name c) t.target.leaf))
    step_grid g p rs has = with_replica o freed g p rs (with_orphans o c g p rs has freed.orphans freed_sound) r refl filed_sound

  pub filed_all : (ts : List NumberedTarget) (c : Cat) (v : ℕ) → Ready c v ts → Filed c v ts
  filed_all [] c v ready = record {
    replicas = c.replicas;
    orphans = c.orphans;
    applied = refl;
    grid = λ g p rs has. has;
    old_replicas = λ y here. inl here;
    old_orphans = λ x here. here;
  }
  filed_all (t ∷ ts) c v ready =
      let rest = filed_all ts (filed c v t ts ready) (v + 1) (next_ready c v t ts ready) in
      record {
        replicas = rest.replicas;
        orphans = rest.orphans;
        applied =
            apply_step (delta.NoOrphan v) (delta.Replica (r c v t ts ready) ∷ replicas_placed o (v + 1) ts) c (freed c v t ts ready) (applied_freed c v t ts ready)
            ∙ apply_step (delta.Replica (r c v t ts ready)) (replicas_placed o (v + 1) ts) (freed c v t ts ready) (filed c v t ts ready) (applied_filed c v t ts ready) ∙ rest.applied;
        grid = λ g p rs has. rest.grid g p (put rs t.number (good o.size o.digest (resource_name c) t.target.leaf)) (step_grid c v t ts ready g p rs has);
        old_replicas = λ y here. elim (rest.old_replicas y here) [
          | inl was ↦ elim (in_from_with_row replica_cmp c.replicas (r c v t ts ready) y was) [
            | inl is ↦ inr (omega (arith, ap (λ (x : ReplicaRow). x.vault) is))
            | inr old ↦ inl old
          ]
          | inr new ↦ inr (omega (arith, new))
        ];
        old_orphans = λ x here. (in_from_filter (λ (y : OrphanRow). not (y.vault == v)) c.orphans x (rest.old_orphans x here)).0;
      }
