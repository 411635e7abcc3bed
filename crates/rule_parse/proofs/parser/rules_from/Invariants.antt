use Rattle.std.proofs.Common.{◌≡◌, Some}
use Rattle.std.specs.Vec.Iter.{into_iter_items, into_iter_len}
use Rattle.rule_parse.specs.Readers.{read, new_progress}
use Rattle.rule_parse.specs.Seen.{progress_of}
use Rattle.rule_parse.proofs.Machines.{run}
use Rattle.rule_parse.proofs.Parsing.{tokens_of, IsSplit}
use Rattle.rule_parse.proofs.parser.rules_from.Given as goal

abbrev pub invariant-loop-token : goal.invariant-loop-token
invariant-loop-token l = record {
  runs : run read new_progress (tokens_of l.yielded) ≡ Some (progress_of l.reading);
  split : IsSplit l.fn.tokens.items l.yielded (into_iter_items l.token-iterator) (into_iter_len l.token-iterator);
}
