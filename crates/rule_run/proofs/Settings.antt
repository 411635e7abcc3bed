-- A request is a setting of calls, whichever text tells its marks.
use Rattle.std.proofs.Common.{List, sym, ap, subst, arith, length}
use Rattle.grid_outside.specs.Sink.{AddsPart}
use Rattle.grid_model.specs.Names.{Text}
use Rattle.grid_model.specs.Rows.{Cat}
use Rattle.grid_model.specs.Runs.{Request}
use Rattle.grid_model.specs.Sessions.{State}
use Rattle.grid_model.specs.declared.marks.Mark.{Mark}
use Rattle.grid_journal.specs.Stands.{StandsFor}
use Rattle.grid_headline.specs.Files.{NamesCall}
use Rattle.grid_headline.specs.Stops.{AreFirst}
use Rattle.run_laws.specs.Steps.{HasLine, OneOf, WaitsInDeed, in_deed_so, not_kept}
use Rattle.service_run.specs.declared.command.Command.{Command}
use Rattle.call_laws.specs.Amid.{IsSetting}
use Rattle.call_laws.proofs.Rows.{first_then}
use Rattle.rule_run.specs.Asked.{EndOf, IsAsked, IsFrontOfReply, IsOnMain, IsOnWay, asked_setting, not_noted, noted}
use Rattle.rule_run.proofs.Replies.{part_of_sure}

module _ (at : State) (request : Request) (before : Cat) (x : Command) (asked : IsAsked at request before x) where
  -- main has a command of this line pending, or none
  pub way_before : IsOnWay before x.line before
  way_before = record {
    call = subst NamesCall (sym asked.none) tt;
    line_is = subst (HasLine x.line) (sym asked.none) tt;
    named = λ slot name one. one;
  }

  pub on_way : (c : Cat) (told : List Mark) → IsOnMain at request before x c told → IsOnWay before x.line c
  on_way c told (not_noted same none) = subst (IsOnWay before x.line) (sym same) way_before
  on_way c told (noted p amid few is line marks call named waits) =
      record { call = call; line_is = subst (HasLine x.line) (sym is) line; named = named }

  module _ (text_of : List Mark → Text) where
    -- a part of the text that tells these marks is shown
    pub one_image : (e : EndOf x.number text_of at request) (told : List Mark) → AreFirst told e.reach → (c : Cat)
        → IsOnMain at request before x c told → (shown main sink : Text) → StandsFor main c → AddsPart (text_of told) shown sink
        → OneOf at before e.next x.number request e.d e.texts shown main sink
    one_image e told first c (not_noted same none) shown main sink stands part =
        let front : IsFrontOfReply x.number e.d e.texts told (text_of told) = e.fronts told first in
        not_kept (subst (StandsFor main) same stands)
        (part_of_sure x.number e.d e.texts told (text_of told) front shown sink part)
        (front.untold none part.count part.within)
    one_image e told first c (noted p amid few is line marks call named waits) shown main sink stands part =
        let front : IsFrontOfReply x.number e.d e.texts told (text_of told) = e.fronts told first in
        in_deed_so c p amid few
        (subst (λ (ms : List Mark). WaitsInDeed at x.number request ms c p) (sym e.marks_are)
        (waits e.marks (first_then told e.reach e.marks first e.reach_first))) stands
        (part_of_sure x.number e.d e.texts told (text_of told) front shown sink part)
        (record {
          cut = front.cut part.count part.within;
          few = omega (arith, front.few part.count part.within, ap (λ (ms : List Mark). length ms) marks);
        })

    pub is_setting : IsSetting (asked_setting at request before x text_of)
    is_setting = record {
      user = asked.user;
      untold = ap (λ (z : Command). z.untold) asked.begun;
      on_way = on_way;
      one_image = one_image;
    }
