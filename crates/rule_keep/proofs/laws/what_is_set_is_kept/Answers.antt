use Rattle.rule_keep.proofs.KeptTexts.{kept_once_printed, one_kept}
use Rattle.rule_keep.proofs.laws.what_is_set_is_kept.Goals as goal

pub returns-clause-kept : goal.returns-clause-kept
returns-clause-kept c = λ text rs spells faultless. kept_once_printed text rs spells faultless

pub returns-clause-one : goal.returns-clause-one
returns-clause-one c = λ text rules others k j. one_kept text rules others k j
