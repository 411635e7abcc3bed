use Rattle.std.proofs.Common.{arith, ◌++◌, ◌<◌, length}
use Rattle.std.proofs.lemmas.Grind.{common_steps}
use Rattle.std.proofs.lemmas.Bool.Decides.{nat_tests}
use Rattle.grid_model.specs.DataLines.{data_lines}
use Rattle.cmd_reply.proofs.DataParts.{data_lines-turn}
use Rattle.cmd_reply.proofs.data.push_data_lines.Goals as goal

pub loop-rest-preserved : goal.loop-rest-preserved
loop-rest-preserved c =
    let some : 0 < length c.loop-rest.rest.now = grind (arith, nat_tests, common_steps) in
    data_lines-turn c.args.number c.loop-rest.rest.now c.split_at.result.0.now c.split_at.result.1.now c.loop-rest.text.items c.push_data_line.new.text.items (c.args.text.now.items ++ data_lines c.args.number c.args.bytes.now) c.min.result
    some c.min.ensures c.split_at.ensures.front c.split_at.ensures.back c.loop-rest.invariant c.in_ok-push_data_line.ensures
