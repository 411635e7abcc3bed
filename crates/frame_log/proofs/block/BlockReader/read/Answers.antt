use Rattle.std.proofs.Common.{◌≡◌, ◌≤◌, ◌+◌, ◌-◌, min, length, arith, sym, subst, inl, inr, refl}
use Rattle.frame_log.specs.Blocks.{HasOf}
use Rattle.frame_log.specs.declared.block.BlockReader.{BlockReader}
use Rattle.frame_log.proofs.Blocks.{copied}
use Rattle.frame_log.proofs.block.BlockReader.read.Goals as goal
use Rattle.frame_log.proofs.block.BlockReader.read.Goals.{then-not-covers+in_ok-load, else-not-covers}

pub returns-clause-bytes : goal.returns-clause-bytes
returns-clause-bytes g c tells = elim c.if-not-covers.branch [
  | then-not-covers+in_ok-load w ↦
      let bytes = (g.D.Disk.disk c.args.disk.now).holds in
      let P : BlockReader → Type 0 = λ r. HasOf bytes r × (r.from ≡ c.args.at) × (r.count ≡ min 65536 (length bytes - c.args.at)) in
      let at : P c.if-not-covers.self = subst P (sym w.self-is) (w.load.ensures.has tells, w.in_ok-load.ensures.from, w.in_ok-load.ensures.count tells) in
      copied bytes c.copy.new.out c.if-not-covers.self c.args.at c.copy.result at.0 (omega arith) (omega arith) (inr (at.1, at.2, omega arith)) (omega arith) c.copy.ensures.same
  | else-not-covers w ↦
      let bytes = (g.D.Disk.disk c.args.disk.now).holds in
      let P : BlockReader → Type 0 = λ r. HasOf bytes r × (r.from ≤ c.args.at) × (c.args.at - r.from + length c.args.out.now ≤ r.count) in
      let at : P c.if-not-covers.self = subst P (sym w.self-is) (c.requires.has tells, (w.if-not-covers.ensures refl).0, (w.if-not-covers.ensures refl).1) in
      copied bytes c.copy.new.out c.if-not-covers.self c.args.at c.copy.result at.0 at.1 (omega arith) (inl (omega arith)) (omega arith) c.copy.ensures.same
]
