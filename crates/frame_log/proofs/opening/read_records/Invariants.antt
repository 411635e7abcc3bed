use Rattle.std.proofs.Common.{◌≡◌, ◌+◌, ◌-◌, ◌≤◌, length, map, IsTrue}
use Rattle.grid_outside.specs.Device.{Looks}
use Rattle.frame_log.specs.Blocks.{HasOf, IsSound}
use Rattle.frame_log.specs.Extent.{placed, bodies}
use Rattle.frame_log.specs.Log.{frames}
use Rattle.frame_log.specs.Records.{placed_body}
use Rattle.frame_log.specs.Steps.{IsFront}
use Rattle.frame_log.proofs.opening.read_records.Given as goal

abbrev pub invariant-loop-records : goal.invariant-loop-records
invariant-loop-records g l = record {
  sound : IsSound l.reader;
  has : IsTrue (g.D.Disk.disk l.fn.disk).tells → HasOf (g.D.Disk.disk l.fn.disk).holds l.reader;
  gate : l.gate ≡ l.base + length (frames (bodies (map placed_body l.records.items)));
  places : map placed_body l.records.items ≡ placed l.base (bodies (map placed_body l.records.items));
  front : IsTrue (g.D.Disk.disk l.fn.disk).tells → IsFront l.base l.gate (bodies (map placed_body l.records.items)) (g.D.Disk.disk l.fn.disk).holds;
  looks : Looks (g.D.Disk.disk l.fn.disk) (g.D.Disk.disk l.disk);
  later : (g.D.Disk.disk l.fn.disk).faults ≤ (g.D.Disk.disk l.disk).faults;
  end : IsTrue (g.D.Disk.disk l.fn.disk).tells → l.end ≡ length (g.D.Disk.disk l.fn.disk).holds;
}

abbrev pub decreases-loop-records : goal.decreases-loop-records
decreases-loop-records g l = l.end - l.gate
