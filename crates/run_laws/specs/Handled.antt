-- Requests of a run that were handled, and what a stop leaves of main and the sink while they are.
use Rattle.std.specs.Prelude.{◌≡◌, ◌≢◌, ℕ, ◌+◌, ◌-◌, ◌<◌, ◌≤◌, max, List, [], ◌∷◌, ◌++◌, Option, Some, None, Ok, length, take, slice_get}
use Rattle.grid_outside.specs.Sink.{AddsPart}
use Rattle.grid_model.specs.Names.{Text}
use Rattle.grid_model.specs.Rows.{Cat}
use Rattle.grid_model.specs.RowGrids.{grid_of}
use Rattle.grid_model.specs.Beginning.{begins}
use Rattle.grid_model.specs.Orders.{Order}
use Rattle.grid_model.specs.Sessions.{State}
use Rattle.grid_model.specs.Working.{Done}
use Rattle.grid_model.specs.Runs.{Marked, Request, state_after}
use Rattle.grid_model.specs.declared.deltas.Pending.{Pending}
use Rattle.grid_model.specs.declared.marks.Mark.{Mark}
use Rattle.grid_model.specs.declared.marks.Mark.TheVariants.{Stop}
use Rattle.grid_journal.specs.Stands.{StandsFor}
use Rattle.grid_headline.specs.Draws.{with_marks}
use Rattle.grid_headline.specs.Served.{joined_texts, marks_of, reply_texts, report_told, whole_in}
use Rattle.grid_headline.specs.Ends.{MakesFiles, WasDone}
use Rattle.grid_headline.specs.Numbers.{KeepsNumbers, last_vault}
use Rattle.grid_headline.specs.Stops.{AreFirst, IsBeforeRun, KeepsReport}
use Rattle.grid_headline.specs.Reads.{AsksToSweep, HasRules, MeansRequest}
use Rattle.count_laws.specs.GivenNumbers.{GivesFew, GivesNone}
use Rattle.run_laws.specs.Steps.{SureTexts, WaitsInDeed}
use Rattle.run_laws.specs.Undone.{Undone, report_begun, whole_report, recoveries_told}

-- requests with their marks, what each did, and the texts of its marks; the catalogue before them, and that behind each
pub record Handled : Type 0 where
  pub begun : List Marked
  pub done : List Done
  pub pieces : List (List Text)
  -- what is sure of their replies
  pub sure : Text
  pub first : Cat
  pub behind : List Cat

-- none
abbrev pub none_handled : Cat → Handled
none_handled c = record { begun = []; done = []; pieces = []; sure = []; first = c; behind = [] }

-- one more
abbrev pub with_one : Handled → Marked → Done → SureTexts → Cat → Handled
with_one h m d ts c = record {
  begun = h.begun ++ m ∷ [];
  done = h.done ++ d ∷ [];
  pieces = h.pieces ++ ts.pieces ∷ [];
  sure = h.sure ++ ts.sure;
  first = h.first;
  behind = h.behind ++ c ∷ [];
}

-- the catalogues, that before them first
abbrev pub cats_of : Handled → List Cat
cats_of h = h.first ∷ h.behind

-- A request leads from the one catalogue to the other: few numbers were given for its marks.
pub record GaveFew (c : Cat) (m : Marked) (e : Cat) : Type 0 where
  pub keeps : KeepsNumbers c e
  pub few : GivesFew c e (length m.marks)

-- each of them does, from this catalogue on
abbrev pub AllGaveFew : Cat → List Marked → List Cat → Type 0
AllGaveFew c [] [] = Unit {0}
AllGaveFew c (m ∷ ms) (e ∷ es) = GaveFew c m e × AllGaveFew e ms es
AllGaveFew c ms es = ⊥

-- The request behind so many, if it makes files and was done with a mark, had a number for them.
abbrev pub HadNumbersAt : Handled → ℕ → Type 0
HadNumbersAt h n = (c : Cat) (m : Marked) (d : Done) → slice_get (cats_of h) n ≡ Some c → slice_get h.begun n ≡ Some m → slice_get h.done n ≡ Some d
    → (at : State) (session : ℕ) (order : Order) → MeansRequest at m.asked (Ok (session, order)) → MakesFiles order → m.marks ≢ []
    → WasDone d.reply.end → c.numbers.next_vault ≤ last_vault

-- the last of so many requests did
abbrev pub LastHadNumbers : Handled → ℕ → Type 0
LastHadNumbers h count = (n : ℕ) → count ≡ n + 1 → HadNumbersAt h n

-- their replies
abbrev pub replies_of : Handled → List Text
replies_of h = reply_texts 1 h.done h.pieces

-- of the marks of a request those whose texts stand whole in so many bytes
abbrev pub marks_within : Option Marked → Option (List Text) → ℕ → List Mark
marks_within (Some m) (Some ts) count = take (whole_in ts count) m.marks
marks_within m ts count = []

-- those of the request behind the first n ones, where so many bytes were written
abbrev pub told_within : Handled → ℕ → ℕ → List Mark
told_within h n count = marks_within (slice_get h.begun n) (slice_get h.pieces n) (count - length (joined_texts (take n (replies_of h))))

-- those of all requests, where so many bytes were written
abbrev pub marks_shown : Handled → ℕ → List Mark
marks_shown h count =
    let n = whole_in (replies_of h) count in
    marks_of (take n h.begun ++ with_marks (told_within h n count) (slice_get h.begun n))

-- ---- catalogues and images

-- what the catalogues of a run that was begun have in common
pub record IsAmidRun (found c : Cat) : Type 0 where
  pub number : c.numbers.run ≡ found.numbers.run + 1
  pub keeps : KeepsNumbers found c
  pub stores : c.stores ≡ found.stores

-- and those between its requests
pub record IsOfRun (found c : Cat) : Type 0 where
  pub number : c.numbers.run ≡ found.numbers.run + 1
  pub none : c.pending ≡ None
  pub keeps : KeepsNumbers found c
  pub stores : c.stores ≡ found.stores

-- few numbers were given for the marks that recoveries took, and none where nothing was pending
abbrev pub GivesBeforeRun : Cat → Cat → Option Pending → Option Pending → Type 0
GivesBeforeRun found c (Some was) (Some now) = (d : List Mark) → was.marks ++ Stop ∷ d ≡ now.marks ++ Stop ∷ [] → GivesFew found c (length d)
GivesBeforeRun found c was now = GivesFew found c 0

-- The run is not begun: what was pending is so still, no file is lost track of, and the marks of the report that are told are kept.
pub record IsUnbegun (found : Cat) (u : Undone found) (c : Cat) (count : ℕ) : Type 0 where
  pub before : IsBeforeRun found u.report c count
  pub told : KeepsReport found u.report c (report_told found.pending u.report count) c.pending
  pub keeps : KeepsNumbers found c
  pub few : GivesBeforeRun found c found.pending c.pending
  pub stores : c.stores ≡ found.stores

module _ (found : Cat) (u : Undone found) (h : Handled) where
  -- how many requests are done where the catalogue is so and so many bytes were written
  abbrev pub reached_by : Cat → ℕ → ℕ
  reached_by c count = max (whole_in (replies_of h) count) c.numbers.last

  -- the state that the first n requests leave
  abbrev pub state_behind : ℕ → State
  state_behind n = state_after (begins u.opened.grid u.rules) h.done n

  -- The catalogue is the one behind the first n requests, or has rows of orphans that are gone in it, while the run is opened or where the next
  -- one is a sweep.
  pub data IsAt (n : ℕ) (c : Cat) : Type 0 where
    exact : slice_get (cats_of h) n ≡ Some c → IsAt n c
    opening : n ≡ 0 → GivesFew found c (length u.report) → GivesNone c h.first → IsAt n c
    amid_sweep : (e f : Cat) (m : Marked) → slice_get (cats_of h) n ≡ Some e → slice_get h.behind n ≡ Some f → slice_get h.begun n ≡ Some m
        → AsksToSweep m.asked → GivesNone e c → GivesNone c f → IsAt n c

  -- The catalogue is that of the run behind as many requests as are shown or, if these are more, as it says itself.
  pub record IsBehindSome (c : Cat) (count : ℕ) : Type 0 where
    pub of_run : IsOfRun found c
    pub within : reached_by c count ≤ length h.begun
    pub near : c.numbers.last ≤ whole_in (replies_of h) count + 1
    pub rules : HasRules c (state_behind (reached_by c count)).rules
    pub grid : grid_of c ≡ (state_behind (reached_by c count)).grid
    pub at : IsAt (reached_by c count) c
    pub had_numbers : LastHadNumbers h (reached_by c count)
    -- no mark of a request that is not done is told
    pub untold : c.numbers.last < whole_in (replies_of h) count + 1 → told_within h (whole_in (replies_of h) count) count ≡ []

  -- The request behind the first n ones is pending in the catalogue.
  pub record WaitsBehind (c : Cat) (p : Pending) (n : ℕ) : Type 0 where
    pub next : Marked
    pub is_next : slice_get h.begun n ≡ Some next
    pub line_is : p.line ≡ next.asked.line
    pub request : Request
    pub means : MeansRequest (state_behind n) next.asked request
    pub waits : WaitsInDeed (state_behind n) (n + 1) request next.marks c p

  -- The catalogue is that of the run in the request behind the first n ones, which are shown or done, and where it is pending the marks of
  -- it that are told are kept.
  pub record IsAmidSome (c : Cat) (p : Pending) (n count : ℕ) : Type 0 where
    pub of_run : IsAmidRun found c
    pub reached : reached_by c count ≡ n
    pub near : c.numbers.last ≤ whole_in (replies_of h) count + 1
    pub rules : HasRules c (state_behind n).rules
    pub waits_behind : WaitsBehind c p n
    pub told : AreFirst (told_within h (whole_in (replies_of h) count) count) p.marks
    pub since : (e : Cat) → slice_get (cats_of h) n ≡ Some e → KeepsNumbers e c × GivesFew e c (length p.marks + 1)

  -- What a stop leaves of main, and of the sink that had these bytes before: the run is not begun and no more is shown than what is told
  -- until then, or main stands for a catalogue of the run, in which the next request may be pending, and a front of the report and of
  -- what is sure of the replies is shown.
  pub data OneOfRun (old_sink main sink : Text) : Type 0 where
    not_begun : (c : Cat) → StandsFor main c → (part : AddsPart (report_begun found u) old_sink sink) → IsUnbegun found u c part.count
        → OneOfRun old_sink main sink
    in_run : (c : Cat) (part more : Text) → StandsFor main c → sink ≡ old_sink ++ part
        → whole_report found u ++ h.sure ≡ part ++ more
        → IsBehindSome c (length part - length (whole_report found u))
        → OneOfRun old_sink main sink
    in_deed_of_run : (c : Cat) (p : Pending) (n : ℕ) (part more : Text) → StandsFor main c → sink ≡ old_sink ++ part
        → whole_report found u ++ h.sure ≡ part ++ more
        → IsAmidSome c p n (length part - length (whole_report found u)) → OneOfRun old_sink main sink

  -- the marks of this run that are told, where so many bytes were written: those of recoveries, and those of requests
  abbrev pub marks_told : ℕ → List Mark
  marks_told count = recoveries_told found u count ++ marks_shown h (count - length (whole_report found u))

-- A front of this report and of what is sure of the replies is shown, with at least all but the last of these texts.
pub record ShowsMost (report : Text) (h : Handled) (old_sink sink : Text) : Type 0 where
  pub part : Text
  pub more : Text
  pub is : sink ≡ old_sink ++ part
  pub split : report ++ h.sure ≡ part ++ more
  pub report_first : 0 < length h.begun → length report ≤ length part
  pub all_but_one : length h.begun ≤ whole_in (replies_of h) (length part - length report) + 1
