use Rattle.std.proofs.Common.{◌≡◌, ◌+◌, ◌-◌, ◌^◌, ◌≤◌, ◌∷◌, [], length}
use Rattle.grid_model.specs.Names.{Text}
use Rattle.grid_model.specs.Inputs.{Asked, Takes}
use Rattle.req_lines.specs.Reading.{input}
use Rattle.req_lines.specs.Hearing.{Skips}
use Rattle.req_lines.proofs.requests.next_request.Given as goal

abbrev pub invariant-lines : goal.invariant-lines
invariant-lines g l =
    let old = g.S.Source.source l.fn.source in
    let now = g.S.Source.source l.source in
    record {
      most : l.reader.taken ≤ 2 ^ 48;
      skips : Skips (input l.fn.reader old) (input l.reader now);
      tells : now.tells ≡ old.tells;
      later : old.faults ≤ now.faults;
      at_once : (asked : Asked) (left : Text) → Takes l.fn.reader.unread (asked ∷ []) left → (l.source ≡ l.fn.source) × Takes l.reader.unread (asked ∷ []) left;
    }

abbrev pub decreases-lines : goal.decreases-lines
decreases-lines g l = 2 ^ 48 + 1 + length l.reader.unread - l.reader.taken
