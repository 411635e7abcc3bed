use Rattle.std.proofs.Common.{sym, ◌∙◌, arith}
use Rattle.text_cases.proofs.KnownCalls.{only_one, path_is}
use Rattle.text_cases.proofs.calls.look_up.Goals as goal

pub returns-then-wants_path : goal.returns-then-wants_path
returns-then-wants_path c =
    path_is c.args.call.now c.path-item.result (c.wants_path.ensures c.if-wants_path.true)
    (sym c.as_slice.ensures
    ∙ only_one c.as_slice.result.now c.path-item.result (omega (arith, c.in-len1.len_at_least)) (omega (arith, c.in-len1.len_below)) c.path-item.is)
    (c.is_text-in-len1.ensures c.if-not-is_text.false)
