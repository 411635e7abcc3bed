use Rattle.std.proofs.Common.{◌≡◌, [], arith}
use Rattle.std.proofs.lemmas.List.{nil_from_length}
use Rattle.grid_model.specs.Checks.{first_texts}
use Rattle.rule_check.specs.Faults.{fault_so_far}
use Rattle.rule_check.proofs.JoinedLemmas.{literal_faults-none}
use Rattle.rule_check.proofs.Keeping.{least-nil}
use Rattle.rule_check.proofs.calls.check_first.Goals as goal

pub returns-in-empty : goal.returns-in-empty
returns-in-empty c =
    let none : c.args.args.now ≡ [] = nil_from_length c.args.args.now (omega arith) in
    rw (none, literal_faults-none (first_texts c.args.name.now)) (least-nil (fault_so_far c.args.findings.now))
