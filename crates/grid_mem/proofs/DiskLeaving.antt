-- What a stop may leave of a disk is what its rules allow.
use Rattle.std.proofs.Common.{◌≡◌, ◌↔◌, ℕ, Bool, true, false, List, length, refl, sym, subst}
use Rattle.grid_outside.specs.DiskModel.{Unsynced, MayLeave, synced_at}
use Rattle.grid_mem.specs.declared.disk_deed.DiskDeed.{DiskDeed}
use Rattle.grid_mem.specs.declared.disk_deed.DiskDeed.TheVariants.{Write, Cut as CutTo, Sync}
use Rattle.grid_mem.specs.declared.mem_disk.MemDisk.{MemDisk}
use Rattle.grid_mem.specs.Calls.{held_after}
use Rattle.grid_mem.specs.CallLaws.{le_of}
use Rattle.grid_mem.specs.DiskCalls.{disk_kind, disk_after, deed_fits, MayDo, IsSure, unsynced_after, unsynced_at}
use Rattle.grid_mem.specs.DiskLaws.{disk_laws}
use Rattle.grid_mem.specs.MemDisk.{disk_of, disk_history}
use Rattle.grid_mem.proofs.DiskRules.{write_allowed, write_restored, cut_allowed, cut_restored, only_synced, synced_allowed}
use Rattle.grid_mem.proofs.Knowing.{left_is_known}

-- what a step leads to from an image that was allowed
abbrev pub Steps : Bool → List ℕ → DiskDeed → Bool → Unsynced → List ℕ → Type 0
Steps over held deed done u image = (before : List ℕ) × MayLeave u before × MayDo deed before image × (over ≡ true → IsSure deed done (disk_after held deed done) image)

sync_forth : (over done : Bool) (held : List ℕ) (u : Unsynced) (image : List ℕ) → Steps over held Sync done u image → MayLeave (unsynced_after over held Sync done u) image
sync_forth true true held u image step = synced_allowed held image (step.3 refl)
sync_forth true false held u image step = subst (MayLeave u) (sym step.2) step.1
sync_forth false done held u image step = subst (MayLeave u) (sym step.2) step.1

sync_back : (over done : Bool) (held : List ℕ) (u : Unsynced) → MayLeave u held → (image : List ℕ) → MayLeave (unsynced_after over held Sync done u) image → Steps over held Sync done u image
sync_back true true held u holds image allowed = let is = only_synced held image allowed in (held, holds, is, λ over. is)
sync_back true false held u holds image allowed = (image, allowed, refl, λ over. tt)
sync_back false done held u holds image allowed = (image, allowed, refl, λ over. absurd (cc over))

disk_step : (over : Bool) (held : List ℕ) (deed : DiskDeed) (done : Bool) (u : Unsynced) → MayLeave u held → deed_fits held deed ≡ true → (image : List ℕ)
    → Steps over held deed done u image ↔ MayLeave (unsynced_after over held deed done u) image
disk_step over held (Write at written) done u holds fits image = (
  (λ step. write_allowed at (length written.items) u step.0 image step.1 step.2),
  (λ allowed.
      let back = write_restored at (length written.items) u image held holds (le_of at (length held) fits) allowed in
      (back.0, back.1, back.2, λ over. tt)),
)
disk_step over held (CutTo len) done u holds fits image = (
  (λ step. cut_allowed len u step.0 image step.1 step.2),
  (λ allowed. let back = cut_restored len u image held holds allowed in (back.0, back.1, back.2, λ over. tt)),
)
disk_step over held Sync done u holds fits image = ((λ step. sync_forth over done held u image step), (λ allowed. sync_back over done held u holds image allowed))

pub disk_leaves : (d : MemDisk) (t : ℕ) (image : List ℕ) → (disk_of d).left t image ↔ MayLeave (unsynced_at t (disk_history d)) image
unfolding disk_of
disk_leaves d t image =
    left_is_known disk_kind (λ over bytes call. unsynced_after over bytes call.deed call.done) MayLeave MayLeave
    (λ over held call u holds fits image. disk_step over held call.deed call.done u holds fits image)
    (λ held call u holds fits.
    (disk_step true held call.deed call.done u holds fits (held_after disk_kind held call)).0
    (held, holds, disk_laws.may call.deed call.done held fits, λ over. disk_laws.sure call.deed call.done (held_after disk_kind held call)))
    t 0 d.last (synced_at d.start.items) (λ x. x ≡ d.start.items) d.start.items d.calls.items d.valid (synced_allowed d.start.items d.start.items refl)
    (λ x. ((λ is. synced_allowed d.start.items x is), (λ allowed. only_synced d.start.items x allowed))) image
