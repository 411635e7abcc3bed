use Rattle.std.proofs.Common.{Err, map, ap}
use Rattle.grid_model.specs.Parsed.{call_of}
use Rattle.rule_lex.specs.Seen.{rule_token_of}
use Rattle.rule_parse.specs.Grammar.{SpellsCall}
use Rattle.rule_parse.proofs.Readings.{one_call}
use Rattle.rule_parse.proofs.TextLemmas.{IsRight, right_of_tokens, right_of_error, only_value, only_refused}
use Rattle.rule_parse.proofs.texts.read_call.Goals as goal

read : (c : goal.After-call_from) → IsRight SpellsCall one_call (call_of) c.call_from.result c.args.text.now
read c = right_of_tokens SpellsCall one_call (call_of) c.call_from.result c.args.text.now (map rule_token_of c.in-Ok.tokens.items) c.in-Ok.ensures.tokens c.call_from.ensures.call c.call_from.ensures.stops

unread : (c : goal.In-Err) → IsRight SpellsCall one_call (call_of) (Err c.in-Err.error) c.args.text.now
unread c = right_of_error SpellsCall one_call (call_of) c.in-Err.error c.args.text.now (λ place cause is. c.in-Err.ensures.bad_token place cause (ap Err is))

pub returns-in-Ok-clause-only : goal.returns-in-Ok-clause-only
returns-in-Ok-clause-only c = only_value SpellsCall one_call (call_of) c.call_from.result c.args.text.now (read c)

pub returns-in-Ok-clause-bad_rule : goal.returns-in-Ok-clause-bad_rule
returns-in-Ok-clause-bad_rule c = (read c).bad

pub returns-in-Ok-clause-refused : goal.returns-in-Ok-clause-refused
returns-in-Ok-clause-refused c = only_refused SpellsCall one_call (call_of) c.call_from.result c.args.text.now (read c)

pub returns-in-Err-clause-bad_rule : goal.returns-in-Err-clause-bad_rule
returns-in-Err-clause-bad_rule c = (unread c).bad

pub returns-in-Err-clause-refused : goal.returns-in-Err-clause-refused
returns-in-Err-clause-refused c = only_refused SpellsCall one_call (call_of) (Err c.in-Err.error) c.args.text.now (unread c)
