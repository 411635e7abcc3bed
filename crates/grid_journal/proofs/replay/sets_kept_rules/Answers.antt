use Rattle.grid_journal.proofs.TakingLemmas.{found_kept, none_kept, others_kept}
use Rattle.grid_journal.proofs.replay.sets_kept_rules.Goals as goal

pub returns-in_ok-kept_rules-in-Rules-clause-kept : goal.returns-in_ok-kept_rules-in-Rules-clause-kept
returns-in_ok-kept_rules-in-Rules-clause-kept c = found_kept c.args.delta.now _ c.in_ok-kept_rules-in-Rules.field-0 c.is_some.result c.in-Rules.is c.is_some.ensures c.in_ok-kept_rules-in-Rules.ensures.some

pub returns-in_ok-kept_rules-in-Rules-clause-others : goal.returns-in_ok-kept_rules-in-Rules-clause-others
returns-in_ok-kept_rules-in-Rules-clause-others c = none_kept c.args.delta.now _ c.in_ok-kept_rules-in-Rules.field-0 c.is_some.result c.in-Rules.is c.is_some.ensures c.in_ok-kept_rules-in-Rules.ensures.none

pub returns-in_default : goal.returns-in_default
returns-in_default c = record {
  kept = λ is. others_kept c.args.delta.now c.in_default.not-Rules;
  others = λ is. cc;
}
