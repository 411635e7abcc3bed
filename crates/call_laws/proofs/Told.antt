-- Lines of marks, one behind another, and parts of texts that are added.
use Rattle.std.proofs.Common.{◌≡◌, ℕ, ◌+◌, List, [], ◌++◌, length, take, sym, ap, ◌∙◌, append_assoc, length-append, arith}
use Rattle.std.proofs.lemmas.Grind.{flat_map-append}
use Rattle.std.proofs.lemmas.List.{append-nil, take-append-le}
use Rattle.std.proofs.Math.Seq.{take-append-add, take-append_seam}
use Rattle.grid_outside.specs.Sink.{AddsPart}
use Rattle.grid_model.specs.Names.{Text}
use Rattle.grid_model.specs.Replies.{mark_line}
use Rattle.grid_model.specs.declared.marks.Mark.{Mark}
use Rattle.service_run.specs.Steps.{lines_of}

-- ---- a part of what is added

pub adds_all : (a old new : Text) → new ≡ old ++ a → AddsPart a old new
adds_all a old new is = record {
  count = length a;
  within = omega arith;
  is = is ∙ ap (λ (t : Text). old ++ t) (sym (take-append_seam a []) ∙ ap (take (length a)) (append-nil a));
}

-- more may be added behind it
abbrev pub adds_more : (a b old new : Text) → AddsPart a old new → AddsPart (a ++ b) old new
adds_more a b old new part = record {
  count = part.count;
  within = omega (arith, part.within, length-append a b);
  is = part.is ∙ ap (λ (t : Text). old ++ t) (sym (take-append-le part.count a b part.within));
}

-- a part behind all of another text
abbrev pub adds_behind : (a b old mid new : Text) → mid ≡ old ++ a → AddsPart b mid new → AddsPart (a ++ b) old new
adds_behind a b old mid new is part = record {
  count = length a + part.count;
  within = omega (arith, part.within, length-append a b);
  is = part.is ∙ ap (λ (t : Text). t ++ take part.count b) is ∙ append_assoc old a (take part.count b) ∙ ap (λ (t : Text). old ++ t)
      (sym (take-append-add a b part.count));
}

-- ---- lines

pub lines-append : (n : ℕ) (a b : List Mark) → lines_of n (a ++ b) ≡ lines_of n a ++ lines_of n b
lines-append n a b = flat_map-append (mark_line n) a b
