use Rattle.req_lines.proofs.AtOnceLemmas.{body_fits}
use Rattle.req_lines.proofs.LineLemmas.{stops_here}
use Rattle.req_lines.proofs.requests.behind_line.Goals as goal

pub returns-then-is_held-clause-at_once : goal.returns-then-is_held-clause-at_once
returns-then-is_held-clause-at_once g c body more has split = c.hold_body.ensures.at_once (body_fits c.args.line.now body more c.args.reader.now.unread _ c.in-Ok.ensures.has has split)

pub returns-else-is_held-clause-at_once : goal.returns-else-is_held-clause-at_once
returns-else-is_held-clause-at_once g c body more has split = c.pass_body.ensures.at_once (body_fits c.args.line.now body more c.args.reader.now.unread _ c.in-Ok.ensures.has has split)

pub returns-in-Err-clause-stopped : goal.returns-in-Err-clause-stopped
returns-in-Err-clause-stopped g c failed = stops_here c.args.reader.now (g.S.Source.source c.args.source.now) c.requires.most
