use Rattle.std.proofs.Common.{◌≡◌, ◌+◌, ◌*◌, false, true, cond}
use Rattle.chain_core.specs.Answers.{is_settled}
use Rattle.chain_core.specs.Seen.{rules_of}
use Rattle.chain_core.specs.Settling.{KeepsRest}
use Rattle.chain_core.proofs.Settling.{weight}
use Rattle.chain_core.proofs.frames.Frames.settle.Given as goal

-- all is kept, and where it no longer goes on it waits
abbrev pub invariant-loop-going : goal.invariant-loop-going
invariant-loop-going l = record {
  keeps : KeepsRest (rules_of l.rules) l.fn.self l.self;
  settled : l.going ≡ false → is_settled (rules_of l.rules) l.self ≡ true;
}

abbrev pub decreases-loop-going : goal.decreases-loop-going
decreases-loop-going l = 2 * weight l.self + cond l.going 1 0
