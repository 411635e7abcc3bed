use Rattle.std.proofs.Common.{rules, ◌≡◌, ◌∷◌, [], ◌++◌, true, sym, ◌∙◌}
use Rattle.cmd_read.specs.Counting.{promises}
use Rattle.cmd_read.proofs.Counting.{counts, counts_none}
use Rattle.cmd_read.proofs.count.body_count.Goals as goal

pub returns-in-Some-clause-count : goal.returns-in-Some-clause-count
returns-in-Some-clause-count c =
    let on : promises c.args.words.now ≡ true = search rules in
    let ends : c.args.words.now ≡ c.in-Some.field-0-1.now ++ c.in-Some.last.now ∷ [] = sym c.as_slice-words.ensures ∙ c.in-Some.ensures.cases.0 in
    counts c.args.words.now c.in-Some.field-0-1.now c.in-Some.last.now c.number_of.result on ends c.number_of.ensures

pub returns-in-Some-clause-none : goal.returns-in-Some-clause-none
returns-in-Some-clause-none c =
    let ends : c.args.words.now ≡ c.in-Some.field-0-1.now ++ c.in-Some.last.now ∷ [] = sym c.as_slice-words.ensures ∙ c.in-Some.ensures.cases.0 in
    counts_none c.args.words.now c.in-Some.field-0-1.now c.in-Some.last.now c.number_of.result ends c.number_of.ensures
