use Rattle.std.proofs.Common.{◌≡◌, ℕ, ◌<◌, Bool, List, true, [], ◌∷◌, ◌++◌, refl, subst}
use Rattle.grid_outside.specs.Device.{Acts}
use Rattle.grid_mem.specs.declared.call.Call.{Call}
use Rattle.grid_mem.specs.declared.disk_deed.DiskDeed.{DiskDeed}
use Rattle.grid_mem.specs.declared.mem_disk.MemDisk.{MemDisk}
use Rattle.grid_mem.specs.Calls.{held, held_after, is_record, Left}
use Rattle.grid_mem.specs.DiskCalls.{disk_kind, deed_fits, IsSure, MayDo}
use Rattle.grid_mem.specs.DiskLaws.{disk_laws, may_nothing}
use Rattle.grid_mem.specs.MemDisk.{disk_of}
use Rattle.grid_mem.specs.Recorded.{state_in}
use Rattle.grid_mem.proofs.Recording.{acts_more, sure_more, valid_more, same_more, acts_none, valid_none, same_none}
use Rattle.grid_mem.proofs.mem_disk.MemDisk.take.Goals as goal

-- a call that was recorded
module _ (d : MemDisk) (call : Call DiskDeed) (bytes : List ℕ) (calls : List (Call DiskDeed)) (after : d.last < call.moment) (fits : deed_fits d.bytes.items call.deed ≡ true)
    (calls_are : calls ≡ d.calls.items ++ call ∷ []) (bytes_are : bytes ≡ held_after disk_kind d.bytes.items call) where
  still_valid : is_record disk_kind 0 call.moment d.start.items calls ≡ true
  still_valid = valid_more disk_kind disk_laws true d.start.items d.bytes.items d.calls.items d.faults d.last d.valid d.same call.moment bytes calls call after refl fits calls_are bytes_are

  still_same : bytes ≡ held disk_kind d.start.items calls
  still_same = same_more disk_kind disk_laws true d.start.items d.bytes.items d.calls.items d.faults d.last d.valid d.same call.moment bytes calls call after refl fits calls_are bytes_are

  acts : (faults : ℕ) (is : is_record disk_kind 0 call.moment d.start.items calls ≡ true) (same : bytes ≡ held disk_kind d.start.items calls)
      → Acts call.moment (MayDo call.deed) (state_in disk_kind disk_laws true d.faults d.last d.start.items d.bytes.items d.calls.items d.valid d.same) (state_in disk_kind disk_laws true faults call.moment d.start.items bytes calls is same)
  acts = acts_more disk_kind disk_laws true d.start.items d.bytes.items d.calls.items d.faults d.last d.valid d.same call.moment bytes calls call after refl fits calls_are bytes_are

  is_sure : (t : ℕ) (image : List ℕ) → call.moment < t → Left disk_kind t (λ x. x ≡ d.start.items) d.start.items calls image → IsSure call.deed call.done bytes image
  is_sure = sure_more disk_kind disk_laws true d.start.items d.bytes.items d.calls.items d.faults d.last d.valid d.same call.moment bytes calls call after refl fits calls_are bytes_are

pub invariant_of-self : goal.invariant_of-self
invariant_of-self c = let call : Call DiskDeed = record { moment = c.args.moment; deed = c.args.deed; done = c.args.done } in record {
  valid = still_valid c.args.self.now call c.record.new.bytes.items c.record.new.calls.items c.requires.moment c.requires.fits c.in-Ok.ensures.calls c.in-Ok.ensures.bytes;
  same = still_same c.args.self.now call c.record.new.bytes.items c.record.new.calls.items c.requires.moment c.requires.fits c.in-Ok.ensures.calls c.in-Ok.ensures.bytes;
}

pub invariant_of-self-in-Ok : goal.invariant_of-self-in-Ok
invariant_of-self-in-Ok c = let call : Call DiskDeed = record { moment = c.args.moment; deed = c.args.deed; done = c.args.done } in record {
  valid = still_valid c.args.self.now call c.record.new.bytes.items c.record.new.calls.items c.requires.moment c.requires.fits c.in-Ok.ensures.calls c.in-Ok.ensures.bytes;
  same = still_same c.args.self.now call c.record.new.bytes.items c.record.new.calls.items c.requires.moment c.requires.fits c.in-Ok.ensures.calls c.in-Ok.ensures.bytes;
}

pub invariant_of-self-in-Err : goal.invariant_of-self-in-Err
invariant_of-self-in-Err c = let self = c.args.self.now in record {
  valid = valid_none disk_kind disk_laws true self.start.items self.bytes.items self.calls.items self.faults self.last self.valid self.same c.args.moment c.record.new.bytes.items c.record.new.calls.items c.requires.moment c.in-Err.ensures.err.0 c.in-Err.ensures.err.1;
  same = same_none disk_kind disk_laws true self.start.items self.bytes.items self.calls.items self.faults self.last self.valid self.same c.args.moment c.record.new.bytes.items c.record.new.calls.items c.requires.moment c.in-Err.ensures.err.0 c.in-Err.ensures.err.1;
}

pub returns-then-done-clause-acts : goal.returns-then-done-clause-acts
unfolding disk_of
returns-then-done-clause-acts c =
    acts c.args.self.now (record { moment = c.args.moment; deed = c.args.deed; done = c.args.done }) c.record.new.bytes.items c.record.new.calls.items c.requires.moment c.requires.fits c.in-Ok.ensures.calls c.in-Ok.ensures.bytes c.args.self.now.faults _ _

pub returns-else-done-clause-acts : goal.returns-else-done-clause-acts
unfolding disk_of
returns-else-done-clause-acts c =
    acts c.args.self.now (record { moment = c.args.moment; deed = c.args.deed; done = c.args.done }) c.record.new.bytes.items c.record.new.calls.items c.requires.moment c.requires.fits c.in-Ok.ensures.calls c.in-Ok.ensures.bytes c.saturating_add-self.result _ _

pub returns-in-Err-clause-acts : goal.returns-in-Err-clause-acts
unfolding disk_of
returns-in-Err-clause-acts c = let self = c.args.self.now in
    acts_none disk_kind disk_laws true self.start.items self.bytes.items self.calls.items self.faults self.last self.valid self.same c.args.moment c.record.new.bytes.items c.record.new.calls.items c.requires.moment c.in-Err.ensures.err.0 c.in-Err.ensures.err.1
    c.saturating_add-self-in-Err.result _ _ (MayDo c.args.deed) (may_nothing c.args.deed)

pub returns-then-done-clause-sure : goal.returns-then-done-clause-sure
unfolding disk_of
returns-then-done-clause-sure c t image late left =
    let Q : Bool → Type 0 = λ done. IsSure c.args.deed done c.record.new.bytes.items image in
    subst Q c.if-done.true (is_sure c.args.self.now (record { moment = c.args.moment; deed = c.args.deed; done = c.args.done }) c.record.new.bytes.items c.record.new.calls.items c.requires.moment c.requires.fits c.in-Ok.ensures.calls c.in-Ok.ensures.bytes t image late left)
