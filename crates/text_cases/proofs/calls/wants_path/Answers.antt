use Rattle.text_cases.proofs.KnownCalls.{create_wants, remove_wants, unlink_wants}
use Rattle.text_cases.proofs.calls.wants_path.Goals as goal

pub returns-then-is_text : goal.returns-then-is_text
returns-then-is_text c = λ yes. create_wants c.args.name.now (c.is_text.ensures c.if-is_text.true)

pub returns-then-is_text-2 : goal.returns-then-is_text-2
returns-then-is_text-2 c = λ yes. remove_wants c.args.name.now (c.is_text-2.ensures c.if-is_text-2.true)

pub returns : goal.returns
returns c = λ yes. unlink_wants c.args.name.now (c.is_text-3.ensures yes)
