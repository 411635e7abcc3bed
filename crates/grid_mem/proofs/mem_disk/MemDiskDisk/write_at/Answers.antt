use Rattle.std.proofs.Common.{true, length, refl}
use Rattle.grid_outside.specs.Disk.{Torn}
use Rattle.grid_mem.specs.DiskCalls.{disk_kind}
use Rattle.grid_mem.specs.DiskLaws.{disk_laws, torn_nothing}
use Rattle.grid_mem.specs.MemDisk.{disk_of}
use Rattle.grid_mem.proofs.Recording.{acts_none, valid_none}
use Rattle.grid_mem.proofs.mem_disk.MemDiskDisk.write_at.Goals as goal

pub invariant_of-self-in_default : goal.invariant_of-self-in_default
unfolding disk_of
invariant_of-self-in_default c = let self = c.args.self.now in record {
  valid = valid_none disk_kind disk_laws true self.start.items self.bytes.items self.calls.items self.faults self.last self.valid self.same c.args.moment self.bytes.items self.calls.items c.requires.moment refl refl;
  same = self.same;
}

pub returns-in_default-clause-acts : goal.returns-in_default-clause-acts
unfolding disk_of
returns-in_default-clause-acts c = let self = c.args.self.now in
    acts_none disk_kind disk_laws true self.start.items self.bytes.items self.calls.items self.faults self.last self.valid self.same c.args.moment self.bytes.items self.calls.items c.requires.moment refl refl
    c.saturating_add-self.result _ _ (Torn c.args.at (length c.args.bytes.now)) (torn_nothing c.args.at (length c.args.bytes.now))
