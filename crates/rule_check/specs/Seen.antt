-- What the code's types are.
use Rattle.grid_model.specs.Checks as checks
use Rattle.rule_check.specs.declared.sorts.Sort.{Sort}
use Rattle.rule_check.specs.declared.sorts.Sort.TheVariants as sort

-- the type
abbrev pub sort_seen : Sort → checks.Sort
sort_seen sort.Text = checks.a_text
sort_seen sort.Number = checks.a_number
sort_seen sort.Truth = checks.a_truth
