-- What is written of a reply is read again as that reply.
use Rattle.std.specs.Prelude.{◌≡◌, ℕ, ◌^◌, ◌<◌, List, ◌++◌, IsTrue, flat_map, map}
use Rattle.std.specs.List.{All}
use Rattle.grid_model.specs.Names.{Text}
use Rattle.grid_model.specs.DataLines.{data_lines}
use Rattle.grid_model.specs.Replies.{mark_line, rest_lines}
use Rattle.grid_model.specs.ReplySpelling.{FitsEnd, FitsMark, SpellsReply}
use Rattle.grid_model.specs.Writable.{is_writable}
use Rattle.grid_model.specs.declared.marks.Mark.{Mark}
use Rattle.grid_model.specs.declared.replies.Reply.{Reply}

-- the lines of a mark, with the bytes that a get sent before it
abbrev pub written_mark : ℕ → Text × Mark → Text
written_mark n w = data_lines n w.0 ++ mark_line n w.1

-- For each number and each reply whose fields are within their types, and that can be written as lines: its marks, with
-- any bytes before each of them, and then its other lines spell that number and that reply.
abbrev pub WrittenIsSpelled : Type 0
WrittenIsSpelled =
    (n : ℕ) (written : List (Text × Mark)) (r : Reply) → n < 2 ^ 64 → r.marks ≡ map (λ w. w.1) written → All (λ w. FitsMark w.1) written
    → IsTrue (is_writable r) → FitsEnd r.end
    → SpellsReply (flat_map (written_mark n) written ++ rest_lines n r) (n, r)
