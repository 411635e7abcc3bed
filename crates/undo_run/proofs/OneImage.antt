-- What a stop leaves where main has a catalogue in which the recoveries go on.
use Rattle.std.proofs.Common.{◌≡◌, ℕ, ◌+◌, ◌≤◌, List, ◌++◌, Option, Some, IsTrue, length, take, refl, sym, ap, ◌∙◌, subst, length-append, arith}
use Rattle.std.proofs.lemmas.List.{take-append-le}
use Rattle.grid_outside.specs.Sink.{AddsPart}
use Rattle.grid_model.specs.Applying.{is_user}
use Rattle.grid_model.specs.Names.{Text}
use Rattle.grid_model.specs.Rows.{Cat}
use Rattle.grid_model.specs.declared.deltas.Pending.{Pending}
use Rattle.grid_model.specs.declared.marks.Mark.{Mark}
use Rattle.grid_journal.specs.Stands.{StandsFor}
use Rattle.grid_headline.specs.Served.{joined_texts, report_front, report_told}
use Rattle.grid_headline.specs.Stops.{AreFirst, IsSame, KeepsReport}
use Rattle.run_laws.specs.Handled.{GivesBeforeRun}
use Rattle.run_laws.specs.Undone.{Undone}
use Rattle.service_run.specs.Steps.{lines_of}
use Rattle.call_laws.specs.Amid.{IsSetting}
use Rattle.call_laws.proofs.Rows.{first_then}
use Rattle.call_laws.proofs.Told.{lines-append}
use Rattle.undo_run.specs.Undoing.{OneOfUndoing, told_before}
use Rattle.undo_run.proofs.Reports.{front_joined, told_first}
use Rattle.undo_run.proofs.Undoings.{IsOnMain, undoings}

module _ (found : Cat) (p : Pending) (has : found.pending ≡ Some p) (u : Undone found) (some : List Mark) (first : AreFirst some u.report) where
  all_lines : lines_of p.number u.report ≡ lines_of p.number some ++ lines_of p.number first.rest
  all_lines = ap (lines_of p.number) first.are ∙ lines-append p.number some first.rest

  fewer : length (lines_of p.number some) ≤ length (lines_of p.number u.report)
  fewer = omega (arith, ap length all_lines, length-append (lines_of p.number some) (lines_of p.number first.rest))

  all_shown : (count : ℕ) → count ≤ length (lines_of p.number some) → length (told_before p) + count ≤ length (joined_texts (report_front (Some p) u.report))
  all_shown count le = omega (arith, le, fewer, ap length (front_joined p u.report), length-append (told_before p) (lines_of p.number u.report))

  -- a part of the lines of these marks is shown
  one_image : (c : Cat) → IsOnMain found p c some → (shown main sink : Text) → StandsFor main c → AddsPart (lines_of p.number some) shown sink
      → OneOfUndoing found p u shown main sink
  one_image c on shown main sink stands part = record {
    cat = c;
    stands = stands;
    part = record {
      count = part.count;
      within = omega (arith, part.within, fewer);
      is = part.is ∙ ap (λ (t : Text). shown ++ t)
          (sym (take-append-le part.count (lines_of p.number some) (lines_of p.number first.rest) part.within) ∙ ap (take part.count) (sym all_lines));
    };
    unbegun = record {
      before = record {
        number = on.run;
        rules = on.rules;
        same = subst (λ (o : Option Pending). IsSame found u.report c o c.pending) (sym has)
            (subst (IsSame found u.report c (Some p)) (sym on.pending) (on.undoing u.report first));
        named = on.on_the_way.named;
        shown = subst (λ (o : Option Pending). length (told_before p) + part.count ≤ length (joined_texts (report_front o u.report))) (sym has)
            (all_shown part.count part.within);
      };
      told = subst (λ (o : Option Pending). KeepsReport found u.report c (report_told o u.report (length (told_before p) + part.count)) c.pending) (sym has)
          (subst (KeepsReport found u.report c (report_told (Some p) u.report (length (told_before p) + part.count))) (sym on.pending)
          (λ same. first_then _ _ _ (told_first p some u.report (length (told_before p) + part.count) first (omega (arith, part.within))) on.told_kept));
      keeps = on.keeps;
      few = subst (λ (o : Option Pending). GivesBeforeRun found c o c.pending) (sym has)
          (subst (GivesBeforeRun found c (Some p)) (sym on.pending) on.few);
      stores = on.stores;
    };
  }

-- what main may have of the recoveries is what a stop leaves of them
pub is_setting : (found : Cat) (p : Pending) → found.pending ≡ Some p → IsTrue (is_user found p.user) → IsSetting (undoings found p)
is_setting found p has user = record {
  user = user;
  untold = refl;
  on_way = λ c told on. on.on_the_way;
  one_image = λ u told first. one_image found p has u told first;
}
