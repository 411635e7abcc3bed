use Rattle.std.proofs.Common.{◌+◌, length}
use Rattle.text_cases.proofs.patterns.+plain.Given as goal

abbrev pub decreases-plain : goal.decreases-plain
decreases-plain l = length l.text.now + length l.pattern.now
