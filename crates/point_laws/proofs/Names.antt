-- Rules of a name take their marks in order, and halt where a stop was taken.
use Rattle.std.proofs.Common.{◌++◌, refl}
use Rattle.grid_model.specs.Bounds.{deepest}
use Rattle.grid_model.specs.Chains.{call_rule}
use Rattle.chain_laws.proofs.Halting.{NamedHalts, call_halts}
use Rattle.chain_laws.proofs.Such.{such_given}
use Rattle.chain_laws.proofs.Taking.{NamedTakes, call_takes}
use Rattle.point_laws.specs.Names.{NamesHalt, NamesTakeInOrder}

pub names_take_in_order : NamesTakeInOrder
names_take_in_order rules env name args s n is =
    such_given (NamedTakes (s.taken ++ s.marks)) (call_rule rules env name args s) n (call_takes (s.taken ++ s.marks) deepest rules env name args s refl) is

pub names_halt : NamesHalt
names_halt rules env name args s n off is = such_given NamedHalts (call_rule rules env name args s) n (call_halts deepest rules env name args s off) is
