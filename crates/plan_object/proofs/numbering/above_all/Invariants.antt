use Rattle.std.proofs.Common.{◌≡◌, drop, max}
use Rattle.plan_object.specs.LeafNumbers.{above_all}
use Rattle.plan_object.proofs.numbering.above_all.Given as goal

-- what is above those so far and what is above the other ones come to what is above all
abbrev pub invariant-loop-there : goal.invariant-loop-there
invariant-loop-there l = max l.above (above_all (drop l.there-index l.taken)) ≡ above_all l.taken
