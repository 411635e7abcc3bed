use Rattle.std.proofs.Common.{◌≡◌, ◌-◌, ◌≤◌, length, take, true}
use Rattle.std.specs.List.{list_all}
use Rattle.grid_model.specs.Words.{is_bare_byte}
use Rattle.reply_fields.proofs.words.bare_len.Given as goal

abbrev pub invariant-loop-len : goal.invariant-loop-len
invariant-loop-len l = record { within : l.len ≤ length l.rest; bare : list_all is_bare_byte (take l.len l.rest) ≡ true }

abbrev pub decreases-loop-len : goal.decreases-loop-len
decreases-loop-len l = length l.initial.rest - l.len
