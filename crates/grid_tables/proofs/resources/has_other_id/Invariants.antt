use Rattle.std.proofs.Common.{◌≡◌, ◌==◌, not}
use Rattle.std.specs.List.{list_any}
use Rattle.grid_tables.proofs.resources.has_other_id.Given as goal

-- none so far had another one
abbrev pub invariant-loop-key : goal.invariant-loop-key
invariant-loop-key l = list_any (λ k. not (k.id == l.id)) l.key-iterator ≡ list_any (λ k. not (k.id == l.id)) l.fn.keys
