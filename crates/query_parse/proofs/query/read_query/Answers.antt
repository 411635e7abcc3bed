use Rattle.std.proofs.Common.{map}
use Rattle.query_parse.specs.Seen.{query_token_of}
use Rattle.query_parse.proofs.TextLemmas.{only_query, only_refused}
use Rattle.query_parse.proofs.query.read_query.Goals as goal

pub returns-clause-only : goal.returns-clause-only
returns-clause-only c =
    only_query c.parse.result c.args.text.now (map query_token_of c.in_ok-tokens.tokens.items) (record { made = c.in_ok-tokens.ensures; read = c.parse.ensures.query; stopped = c.parse.ensures.stops })

pub returns-clause-refused : goal.returns-clause-refused
returns-clause-refused c =
    only_refused c.parse.result c.args.text.now (map query_token_of c.in_ok-tokens.tokens.items) (record { made = c.in_ok-tokens.ensures; read = c.parse.ensures.query; stopped = c.parse.ensures.stops })
