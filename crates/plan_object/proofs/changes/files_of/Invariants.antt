use Rattle.std.proofs.Common.{◌≡◌, ◌+◌, ◌++◌, drop, map}
use Rattle.file_laws.specs.Puts.{files_from}
use Rattle.plan_object.specs.PutPlans.{law_target}
use Rattle.plan_object.proofs.changes.files_of.Given as goal

-- the files so far and those of the other targets come to those of all
abbrev pub invariant-loop-target : goal.invariant-loop-target
invariant-loop-target l = record {
  next : l.name ≡ l.first + l.target-index;
  files : l.files.items ++ files_from l.name (map law_target (drop l.target-index l.targets)) ≡ files_from l.first (map law_target l.targets);
}
