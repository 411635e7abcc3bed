use Rattle.std.proofs.Common.{sym, ap, subst, ◌∙◌}
use Rattle.grid_model.specs.Parsed.{call_of}
use Rattle.rule_lex.specs.Seen.{rule_token_of}
use Rattle.rule_parse.specs.Grammar.{SpellsCall}
use Rattle.rule_parse.specs.Readers.{read_call, whole_call, new_call}
use Rattle.rule_parse.specs.RuleTexts.{located, RulesStopAt}
use Rattle.rule_parse.specs.Seen.{calling_of}
use Rattle.rule_parse.proofs.Machines.{run, run_more}
use Rattle.rule_parse.proofs.Parsing.{seen, tokens_of, tokens_more, split_more, split_all, stops_there, stops_at_last, spells_all, follows_none, follows_some, is_stop}
use Rattle.rule_parse.proofs.Readings.{calls_are_read}
use Rattle.rule_parse.proofs.parser.call_from.Goals as goal

pub returns-in-Ok-false-clause-stops : goal.returns-in-Ok-false-clause-stops
returns-in-Ok-false-clause-stops c = λ at cause is.
    let next = rw c.in-Some.is at c.next.ensures.steps in
    let x = c.in-Some.token in
    is_stop (cc) (cc)
    (stops_there read_call whole_call new_call SpellsCall calls_are_read x (calling_of c.loop-token.calling) c.args.end c.loop-token.invariant.split next.0 c.loop-token.invariant.runs (follows_none (calling_of c.take.new.self) c.in-Ok-false.field-0 c.in-Ok-false.field-0-test c.in-Ok-false.ensures))

pub loop-token-preserved : goal.loop-token-preserved
loop-token-preserved c =
    let next = rw c.in-Some.is at c.next.ensures.steps in
    let x = c.in-Some.token in
    let front = c.loop-token.yielded in
    record {
      runs = ap (run read_call new_call) (tokens_more front x)
          ∙ run_more read_call new_call (tokens_of front) (located (rule_token_of x)) (calling_of c.loop-token.calling) (calling_of c.take.new.self) c.loop-token.invariant.runs (follows_some (calling_of c.take.new.self) c.in-Ok-true.field-0 c.in-Ok-true.field-0-test c.in-Ok-true.ensures);
      split = split_more x c.loop-token.invariant.split next.0 next.1;
    }

pub returns-in-Some-whole-clause-call : goal.returns-in-Some-whole-clause-call
returns-in-Some-whole-clause-call c =
    let none = rw c.in-None.is at c.next.ensures.steps in
    let all = split_all c.loop-token.invariant.split none.0 in
    subst (λ ts. SpellsCall (tokens_of ts) (call_of c.in-Some-whole.call)) (sym all)
    (spells_all read_call whole_call new_call SpellsCall calls_are_read c.loop-token.yielded (calling_of c.loop-token.calling) (call_of c.in-Some-whole.call) c.loop-token.invariant.runs (sym c.in-Some-whole.ensures))

pub returns-in-None-whole-clause-stops : goal.returns-in-None-whole-clause-stops
returns-in-None-whole-clause-stops c = λ at cause is.
    let none = rw c.in-None.is at c.next.ensures.steps in
    let all = split_all c.loop-token.invariant.split none.0 in
    is_stop (cc) (cc)
    (subst (λ ts. RulesStopAt SpellsCall (seen ts) c.args.end c.args.end) (sym all)
    (stops_at_last read_call whole_call new_call SpellsCall calls_are_read c.loop-token.yielded (calling_of c.loop-token.calling) c.args.end c.loop-token.invariant.runs (sym c.in-None-whole.ensures)))
