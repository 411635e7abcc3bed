use Rattle.std.proofs.Common.{◌≡◌, ◌==◌, not}
use Rattle.std.specs.List.{list_any}
use Rattle.grid_tables.proofs.collections.has_some_id.Given as goal

-- none so far was another one
abbrev pub invariant-loop-id : goal.invariant-loop-id
invariant-loop-id l = list_any (λ id. not (id == 0)) l.id-iterator ≡ list_any (λ id. not (id == 0)) l.fn.ids
