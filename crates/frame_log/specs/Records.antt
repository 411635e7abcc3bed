-- A record as contracts see it.
use Rattle.std.specs.Prelude.{ℕ, List}
use Rattle.frame_log.specs.declared.records.Record.{Record}

-- the place of the body and the body
abbrev pub placed_body : Record → ℕ × List ℕ
placed_body r = (r.place, r.body.items)
