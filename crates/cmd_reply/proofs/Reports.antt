-- The parts of the report of a command that was stopped.
use Rattle.std.proofs.Common.{◌≡◌, ℕ, List, [], ◌∷◌, ◌++◌, map, refl, sym, ap, ◌∙◌, append_assoc}
use Rattle.std.specs.Prelude.{codes, decimal}
use Rattle.std.specs.List.{flat_map}
use Rattle.std.proofs.lemmas.List.{append-nil}
use Rattle.std.proofs.lemmas.Grind.{flat_map-append}
use Rattle.grid_model.specs.Names.{Text}
use Rattle.grid_model.specs.Printing.{spaced}
use Rattle.grid_model.specs.Replies.{mark_line}
use Rattle.grid_model.specs.ReplyTexts.{report_lines}
use Rattle.grid_model.specs.declared.marks.Mark.{Mark}
use Rattle.grid_model.specs.declared.marks.Mark.TheVariants.{Stop}

-- the run that it was of, and its number there
abbrev pub stopped : ℕ → ℕ → Text
stopped run n = spaced (codes "stopped" ∷ decimal run ∷ decimal n ∷ [])

-- its line
abbrev pub stopped_line : ℕ → ℕ → Text
stopped_line run n = stopped run n ++ 0x0A ∷ []

lines_joined : (n : ℕ) (ms : List Mark) → flat_map (λ (t : Text). t) (map (mark_line n) ms) ≡ flat_map (mark_line n) ms
lines_joined n [] = refl
lines_joined n (m ∷ ms) = ap (λ (t : Text). mark_line n m ++ t) (lines_joined n ms)

-- that line, those of the marks, and that of the stop
pub report_parts : (run n : ℕ) (ms : List Mark)
    → flat_map (λ (t : Text). t) (report_lines run n (ms ++ Stop ∷ [])) ≡ (stopped_line run n ++ flat_map (mark_line n) ms) ++ mark_line n Stop
report_parts run n ms =
    ap (λ (t : Text). stopped_line run n ++ t) (lines_joined n (ms ++ Stop ∷ []) ∙ flat_map-append (mark_line n) ms (Stop ∷ []) ∙ ap (λ (t : Text). flat_map (mark_line n) ms ++ t) (append-nil (mark_line n Stop)))
    ∙ sym (append_assoc (stopped_line run n) (flat_map (mark_line n) ms) (mark_line n Stop))
