use Rattle.count_laws.proofs.laws.few_by_numbers.Goals as goal
use Rattle.count_laws.proofs.RowNumbers.{few_by_numbers}

pub returns : goal.returns
returns c = λ before after marks made keeps numbers. few_by_numbers before after made keeps marks numbers
