-- The lines of replies. The format is this project's own.
use Rattle.std.specs.Prelude.{ℕ, List, [], ◌∷◌, ◌++◌, codes, decimal, map, flat_map}
use Rattle.grid_model.specs.Names.{Text}
use Rattle.grid_model.specs.Words.{quoted_word}
use Rattle.grid_model.specs.Digests.{checksum}
use Rattle.grid_model.specs.Printing.{line, print_refusal, print_failure}
use Rattle.grid_model.specs.DataLines.{data_lines}
use Rattle.grid_model.specs.declared.marks.BadReplica.{BadReplica}
use Rattle.grid_model.specs.declared.marks.Mark.{Mark}
use Rattle.grid_model.specs.declared.marks.Mark.TheVariants.{Ran, Fault, Bad, Stop}
use Rattle.grid_model.specs.declared.replies.Passed.{Passed}
use Rattle.grid_model.specs.declared.replies.End.{End}
use Rattle.grid_model.specs.declared.replies.End.TheVariants as end
use Rattle.grid_model.specs.declared.replies.Reply.{Reply}

-- a bad replica in the line of a mark
abbrev pub bad_words : BadReplica → List Text
bad_words b = codes "bad" ∷ decimal b.number ∷ decimal b.len ∷ checksum b.found ∷ []

-- a mark in its line: how the deed ended, and the fields of that
abbrev pub mark_words : Mark → List Text
mark_words (Ran word now bad) = codes "ran" ∷ decimal word ∷ decimal now ∷ flat_map bad_words bad
mark_words (Fault slot sent) = codes "fault" ∷ decimal slot ∷ decimal sent ∷ []
mark_words (Bad slot len found sent) = codes "bad" ∷ decimal slot ∷ decimal len ∷ checksum found ∷ decimal sent ∷ []
mark_words Stop = codes "stop" ∷ []

-- how one deed ended
abbrev pub mark_line : ℕ → Mark → Text
mark_line n m = line n (codes "mark" ∷ mark_words m)

-- a recovery that was refused: its name, its arguments, and its failure as one word
abbrev pub passed_line : ℕ → Passed → Text
passed_line n p = line n (codes "passed" ∷ map quoted_word (p.call.name ∷ p.call.args ++ p.failure ∷ []))

-- one row of an answer, word by word
abbrev pub row_line : ℕ → List Text → Text
row_line n ws = line n (codes "row" ∷ map quoted_word ws)

-- how the command ended: `ok` and what it says, or `err` and why
abbrev pub end_words : End → List Text
end_words (end.Done ws) = codes "ok" ∷ map quoted_word ws
end_words (end.Refused r) = codes "err" ∷ print_refusal r ∷ []
end_words (end.PreFailed f) = codes "err" ∷ codes "PreFailed" ∷ print_failure f ∷ []
end_words (end.PostFailed f) = codes "err" ∷ codes "PostFailed" ∷ print_failure f ∷ []
end_words (end.Failed f) = codes "err" ∷ print_failure f ∷ []
end_words end.Stopped = codes "err" ∷ codes "Stopped" ∷ []

-- the last line of a reply
abbrev pub end_line : ℕ → End → Text
end_line n e = line n (end_words e)

-- all lines after the marks
abbrev pub rest_lines : ℕ → Reply → Text
rest_lines n r = data_lines n r.shown ++ flat_map (passed_line n) r.passed ++ flat_map (row_line n) r.rows ++ end_line n r.end
