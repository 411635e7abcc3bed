use Rattle.std.proofs.Common.{arith}
use Rattle.std.proofs.lemmas.Grind.{common_steps}
use Rattle.req_lines.proofs.LineLemmas.{take-more}
use Rattle.req_lines.proofs.line_reader.add_held.Goals as goal

pub returns-clause-added : goal.returns-clause-added
returns-clause-added c = let e = take-more 4097 c.args.line.now.items c.args.bytes.now c.requires in let f = c.in_ok-extend_from_slice.ensures.items in grind (arith, common_steps)
