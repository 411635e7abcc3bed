use Rattle.std.proofs.Common.{map}
use Rattle.std.specs.Vec.Iter.{into_iter_items, into_iter_len}
use Rattle.grid_model.specs.QueryText.{kinds}
use Rattle.query_parse.specs.Seen.{query_token_of}
use Rattle.query_parse.proofs.ParseLemmas.{Reaches, IsSplit}
use Rattle.query_parse.proofs.parser.parse.Given as goal

abbrev pub invariant-loop-token : goal.invariant-loop-token
invariant-loop-token l = record {
  reached : Reaches (kinds (map query_token_of l.yielded)) l.reading;
  split : IsSplit l.fn.tokens.items l.yielded (into_iter_items l.token-iterator) (into_iter_len l.token-iterator);
}
