use Rattle.std.proofs.Common.{ℕ, suc, List, [], ◌∷◌, refl, sym, subst, map, arith}
use Rattle.std.specs.List.{All, flat_map}
use Rattle.grid_model.specs.Names.{Text}
use Rattle.grid_model.specs.ReplySpelling.{FitsMark, SpellsMarks, no_marks, next_mark}
use Rattle.grid_model.specs.declared.marks.Mark.{Mark}
use Rattle.reply_reader.specs.Written.{written_mark}
use Rattle.reply_reader.proofs.laws.written_replies_are_spelled.Goals as goal

marks_of : (n : ℕ) (written : List (Text × Mark)) → All (λ w. FitsMark w.1) written → SpellsMarks n (flat_map (written_mark n) written) (map (λ w. w.1) written)
marks_of n [] fits = no_marks
marks_of n (w ∷ written) fits = next_mark w.0 refl (fits 0 w (omega arith)) (marks_of n written (λ k d h. fits (suc k) d (omega (arith, h))))

pub returns : goal.returns
returns c n written r small marks fits writable end_fits = record {
  number_fits = small;
  front = flat_map (written_mark n) written;
  marks = subst (SpellsMarks n (flat_map (written_mark n) written)) (sym marks) (marks_of n written fits);
  text_is = refl;
  writable = writable;
  end_fits = end_fits;
}
