use Rattle.req_lines.proofs.ReadingOnce.{IsReadAs-unique}
use Rattle.req_lines.proofs.laws.requests_are_read_once.Goals as goal

pub returns : goal.returns
returns c = IsReadAs-unique
