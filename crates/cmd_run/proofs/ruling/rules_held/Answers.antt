use Rattle.std.proofs.Common.{◌≡◌, true, subst, arith}
use Rattle.std.specs.Prelude.{nat_le}
use Rattle.std.proofs.lemmas.Bool.{le-leb}
use Rattle.grid_model.specs.Limits.{object_size}
use Rattle.grid_model.specs.Names.{Text}
use Rattle.rule_parse.specs.RuleOrders.{ReadsRules}
use Rattle.cmd_run.proofs.SetRules.{never_read}
use Rattle.cmd_run.proofs.ruling.rules_held.Goals as goal

pub returns-then-count-gt-OBJECT_SIZE-clause-is : goal.returns-then-count-gt-OBJECT_SIZE-clause-is
returns-then-count-gt-OBJECT_SIZE-clause-is c = λ session request its.
    never_read its.text its.rules its.reads (omega (arith, its.promised, c.if-count-gt-OBJECT_SIZE.true))

pub returns-clause-is : goal.returns-clause-is
returns-clause-is c = λ session request its.
    let small : nat_le c.args.count object_size ≡ true = le-leb c.args.count object_size (omega (arith, c.if-count-gt-OBJECT_SIZE.false)) in
    let R : Text → Type 0 = λ t. ReadsRules t its.rules in
    c.rules_from.ensures.is its.rules (subst R (its.all small) its.reads)
