use Rattle.std.proofs.Common.{◌≡◌, List, length, ap, subst, ◌∙◌}
use Rattle.grid_model.specs.Checks.{known_in, repeats}
use Rattle.grid_model.specs.Names.{Text}
use Rattle.grid_model.specs.Parsed.{rule_of}
use Rattle.rule_check.specs.Faults.{fault_so_far, least}
use Rattle.rule_check.specs.Rules.{head_faults, known_of, named_rules, steps_faults}
use Rattle.rule_check.proofs.JoinedLemmas.{rule_joined, same_known}
use Rattle.rule_check.proofs.rules.check_rule.Goals as goal

pub returns : goal.returns
returns c =
    let rs = named_rules c.args.names.now in
    let rule = c.args.rule.now in
    let known = c.in_ok-known.known in
    let params : known.params.now ≡ rule.params = c.in_ok-known.ensures.params ∙ c.as_slice-params.ensures in
    let k : known_of known ≡ known_in (rule_of rule) = same_known known rule params c.in_ok-known.ensures.sessions in
    let a = fault_so_far c.args.findings.now in
    let b = fault_so_far c.check_head.new.findings in
    let h0 = subst (λ n. b ≡ least a (head_faults rs n rule.at (length c.as_slice-params.result.now) known.is_repeated)) c.as_slice.ensures c.check_head.ensures in
    let h1 = subst (λ (ps : List Text). b ≡ least a (head_faults rs rule.name rule.at (length ps) known.is_repeated)) c.as_slice-params.ensures h0 in
    let h2 = subst (λ t. b ≡ least a (head_faults rs rule.name rule.at (length rule.params) t)) (known.repeated ∙ ap repeats params) h1 in
    let s = subst (λ ss. fault_so_far c.check_steps.new.findings ≡ least (fault_so_far c.check_condition.new.findings) (steps_faults rs (known_of known) ss)) c.as_slice-2.ensures c.check_steps.ensures in
    rule_joined rs (known_of known) rule a b (fault_so_far c.check_condition.new.findings) (fault_so_far c.check_steps.new.findings) k h2 c.check_condition.ensures s
