-- The parts of a reply, as its lines give them one after another.
use Rattle.std.specs.Prelude.{[], ◌∷◌, ◌++◌}
use Rattle.grid_model.specs.declared.replies.End.{End}
use Rattle.grid_model.specs.declared.replies.End.TheVariants as end
use Rattle.grid_model.specs.declared.replies.Reply.{Reply}
use Rattle.reply_reader.specs.declared.lines.Line.{Line}
use Rattle.reply_reader.specs.declared.lines.Line.TheVariants as line
use Rattle.reply_reader.specs.declared.parts.Parts.{Parts}

-- as a reply that has stopped there
abbrev pub reply_so_far : Parts → Reply
reply_so_far p = record { marks = p.marks.items; shown = p.shown.items; passed = p.passed.items; rows = p.rows.items; end = end.Stopped }

-- with one line more
abbrev pub with_line : Reply → Line → Reply
with_line r (line.Data bytes) = record r { shown = r.shown ++ bytes }
with_line r (line.Mark m) = record r { marks = r.marks ++ m ∷ []; shown = [] }
with_line r (line.Passed p) = record r { passed = r.passed ++ p ∷ [] }
with_line r (line.Row words) = record r { rows = r.rows ++ words ∷ [] }
with_line r (line.End e) = r

abbrev pub with_end : Reply → End → Reply
with_end r e = record r { end = e }
