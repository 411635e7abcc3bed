use Rattle.std.proofs.Common.{◌≡◌, ◌-◌, ◌<◌, ◌≤◌, length}
use Rattle.std.specs.Prelude.{slice_range, slice_index}
use Rattle.rule_lex.specs.Tokens.{SpellsQuoted}
use Rattle.rule_lex.proofs.quoted.quoted.Given as goal

abbrev pub invariant-pieces : goal.invariant-pieces
invariant-pieces l = record {
  within : l.at ≤ length l.rest;
  behind : 0 < l.at;
  quote_is : l.quote ≡ slice_index l.rest 0;
  spells : SpellsQuoted (slice_range l.rest 1 l.at) l.value.items;
}

abbrev pub decreases-pieces : goal.decreases-pieces
decreases-pieces l = length l.rest - l.at
