use Rattle.std.proofs.Common.{◌≤◌, length, map}
use Rattle.query_parse.specs.Seen.{query_token_of}
use Rattle.query_parse.proofs.LexLemmas.{Read}
use Rattle.query_parse.proofs.lexer.lex.Given as goal

abbrev pub invariant-loop-rest : goal.invariant-loop-rest
invariant-loop-rest l = record {
  within : length l.rest ≤ length l.text;
  read : Read l.text (map query_token_of l.tokens.items) l.rest;
}

abbrev pub decreases-loop-rest : goal.decreases-loop-rest
decreases-loop-rest l = length l.rest
