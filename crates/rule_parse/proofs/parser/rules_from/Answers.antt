use Rattle.std.proofs.Common.{map, sym, ap, subst, ◌∙◌}
use Rattle.grid_model.specs.Parsed.{rule_of}
use Rattle.rule_lex.specs.Seen.{rule_token_of}
use Rattle.rule_parse.specs.Grammar.{SpellsRules}
use Rattle.rule_parse.specs.Readers.{read, finish, new_progress}
use Rattle.rule_parse.specs.RuleTexts.{located, RulesStopAt}
use Rattle.rule_parse.specs.Seen.{progress_of}
use Rattle.rule_parse.proofs.Machines.{run, run_more}
use Rattle.rule_parse.proofs.Parsing.{seen, tokens_of, tokens_more, split_more, split_all, stops_there, stops_at_last, spells_all, follows_none, follows_some, is_stop}
use Rattle.rule_parse.proofs.Readings.{rules_are_read}
use Rattle.rule_parse.proofs.parser.rules_from.Goals as goal

pub returns-in-Ok-false-clause-stops : goal.returns-in-Ok-false-clause-stops
returns-in-Ok-false-clause-stops c = λ at cause is.
    let next = rw c.in-Some.is at c.next.ensures.steps in
    let x = c.in-Some.token in
    is_stop (cc) (cc)
    (stops_there read finish new_progress SpellsRules rules_are_read x (progress_of c.loop-token.reading) c.args.end c.loop-token.invariant.split next.0 c.loop-token.invariant.runs (follows_none (progress_of c.take.new.self) c.in-Ok-false.field-0 c.in-Ok-false.field-0-test c.in-Ok-false.ensures))

pub loop-token-preserved : goal.loop-token-preserved
loop-token-preserved c =
    let next = rw c.in-Some.is at c.next.ensures.steps in
    let x = c.in-Some.token in
    let front = c.loop-token.yielded in
    record {
      runs = ap (run read new_progress) (tokens_more front x)
          ∙ run_more read new_progress (tokens_of front) (located (rule_token_of x)) (progress_of c.loop-token.reading) (progress_of c.take.new.self) c.loop-token.invariant.runs (follows_some (progress_of c.take.new.self) c.in-Ok-true.field-0 c.in-Ok-true.field-0-test c.in-Ok-true.ensures);
      split = split_more x c.loop-token.invariant.split next.0 next.1;
    }

pub returns-in-Some-finish-clause-rules : goal.returns-in-Some-finish-clause-rules
returns-in-Some-finish-clause-rules c =
    let none = rw c.in-None.is at c.next.ensures.steps in
    let all = split_all c.loop-token.invariant.split none.0 in
    subst (λ ts. SpellsRules (tokens_of ts) (map rule_of c.in-Some-finish.rules)) (sym all)
    (spells_all read finish new_progress SpellsRules rules_are_read c.loop-token.yielded (progress_of c.loop-token.reading) (map rule_of c.in-Some-finish.rules) c.loop-token.invariant.runs (sym c.in-Some-finish.ensures))

pub returns-in-None-finish-clause-stops : goal.returns-in-None-finish-clause-stops
returns-in-None-finish-clause-stops c = λ at cause is.
    let none = rw c.in-None.is at c.next.ensures.steps in
    let all = split_all c.loop-token.invariant.split none.0 in
    is_stop (cc) (cc)
    (subst (λ ts. RulesStopAt SpellsRules (seen ts) c.args.end c.args.end) (sym all)
    (stops_at_last read finish new_progress SpellsRules rules_are_read c.loop-token.yielded (progress_of c.loop-token.reading) c.args.end c.loop-token.invariant.runs (sym c.in-None-finish.ensures)))
