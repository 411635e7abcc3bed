-- How a run ends after a turn.
use Rattle.std.proofs.Common.{append_assoc, ◌≡◌, ◌⊎◌, inl, ℕ, ◌+◌, List, [], ◌∷◌, ◌++◌, length, length-append, refl, sym, ap, ◌∙◌, arith, IsTrue}
use Rattle.std.specs.Prelude.{◌≢◌, Some, Result, Ok, Err, ⊤}
use Rattle.std.proofs.lemmas.List.{append-nil}
use Rattle.std.specs.List.{AllByRecursion}
use Rattle.grid_outside.specs.Fault.{Rose}
use Rattle.grid_outside.specs.Source.{SourceState}
use Rattle.grid_outside.specs.declared.outside.Wear.TheVariants as wear
use Rattle.grid_model.specs.Names.{Text}
use Rattle.grid_model.specs.Inputs.{Asked}
use Rattle.grid_model.specs.Rows.{Cat}
use Rattle.grid_model.specs.Orders.{Order}
use Rattle.grid_model.specs.Sessions.{State}
use Rattle.grid_model.specs.Runs.{Request}
use Rattle.grid_headline.specs.Ends.{RunEnd, read_all, worn, no_memory, disk_failed, sink_failed, EndsInRequest, EndsAtEnd, ReadsEnded, ReadsMost}
use Rattle.grid_headline.specs.Headline.{BeginsOn, Serves}
use Rattle.grid_headline.specs.Reads.{MeansRequest, EndsInput}
use Rattle.grid_headline.specs.Served.{BeginsWithRequests}
use Rattle.grid_headline.specs.Worlds.{World}
use Rattle.run_laws.specs.Ends.{MakesFile, NextMakesFile, StopsSo, IsGoodIfNoneFailed}
use Rattle.run_laws.specs.Steps.{NotesLine, RequestStep}
use Rattle.run_laws.specs.Sofar.{CallsGoOn, Sofar}
use Rattle.run_laws.proofs.RunLaws.{ends_dry, ends_idle, ends_quiet, ends_within, ends_with}
use Rattle.req_lines.specs.Reading.{Input}
use Rattle.req_lines.specs.Hearing.{Stops}
use Rattle.req_lines.specs.Progress.{HasHeard, HeardAll, HeardPart, HeardMost, HeardWithin}
use Rattle.cmd_run.specs.Fits.{state_of}
use Rattle.cmd_run.specs.Obeys.{Obeys, IsWorn, MayMakeFile, handled, quiet}
use Rattle.cmd_run.specs.Sweeping.{SweepLeavesFew}
use Rattle.cmd_run.specs.declared.server.Server.{Server}
use Rattle.cmd_run.specs.declared.server.Ending.{Ending}
use Rattle.cmd_run.specs.declared.server.Ending.TheVariants as ending
use Rattle.grid_server.specs.Serving.{TookFew}
use Rattle.grid_server.specs.Turning.{status_of}
use Rattle.grid_server.specs.RunEnds.{run_end_of}
use Rattle.grid_server.specs.declared.status.Status.{Status}
use Rattle.grid_server.proofs.AnsweredLemmas.{none_end_at}

-- ---- what was read of the input

pub reads_end : (from to : SourceState) (asked : List Asked) → HeardAll from to asked → EndsAtEnd asked from to
reads_end from to asked all = record { fits = all.fits; are = all.are; all = all.all }

pub reads_part : (from to : SourceState) (asked : List Asked) → HeardPart from to asked → ReadsEnded asked from to
reads_part from to asked part = record { taken = part.taken; split = part.split; left = part.left; takes = part.takes; part = part.part }

pub reads_most : (from to : SourceState) (asked : List Asked) → AllByRecursion (λ a. ¬ EndsInput a) asked → HeardMost from to asked → ReadsMost asked from to
reads_most from to asked none most = record { taken = most.taken; split = most.split; size = most.size; left = most.left; takes = most.takes; part = most.part; none_end = none_end_at asked none }

pub reads_to_end : (from to : SourceState) (asked : List Asked) (a : Asked) → EndsInput a → HeardWithin from to (asked ++ a ∷ []) → EndsInRequest (asked ++ a ∷ []) from to
reads_to_end from to asked a quits within = record { front = asked; last = a; are = refl; quits = quits; taken = within.taken; split = within.split; left = within.left; within = inl within.takes }

pub took_all : (from to : SourceState) (asked : List Asked) → HeardAll from to asked → TookFew from to
took_all from to asked all = record { taken = from.left; split = all_left; few = omega (arith, all.fits) }
  where
    all_left : from.left ≡ from.left ++ to.left
    all_left = sym (ap (λ (t : Text). from.left ++ t) all.all ∙ append-nil from.left)

pub took_part : (from to : SourceState) (asked : List Asked) → HeardPart from to asked → TookFew from to
took_part from to asked part = record { taken = part.taken; split = part.split; few = omega (arith, part.most) }

pub took_most : (from to : SourceState) (asked : List Asked) → HeardMost from to asked → TookFew from to
took_most from to asked most = record { taken = most.taken; split = most.split; few = omega (arith, most.size) }

pub took_within : (from to : SourceState) (asked : List Asked) → HeardWithin from to asked → TookFew from to
took_within from to asked within = record { taken = within.taken; split = within.split; few = omega (arith, within.most) }

-- where memory ran out in the reading
pub took_stopped : (from to : SourceState) (was : Input) (asked : List Asked) → HasHeard from was asked → IsTrue was.source.tells → Stops was to → TookFew from to
took_stopped from to was asked heard told stops = record {
  taken = heard.front ++ stops.bytes;
  split = heard.split ∙ ap (λ (t : Text). heard.front ++ t) (stops.split told) ∙ sym (append_assoc heard.front stops.bytes to.left);
  few = omega (arith, heard.count, stops.within, length-append heard.front stops.bytes);
}

-- ---- what has run out

-- the end that a status tells
pub end_is : (s t : Status) (x end : RunEnd) → s ≡ t → run_end_of t ≡ Some x → run_end_of s ≡ Some end → x ≡ end
end_is s t x end same is its = let e : Some x ≡ Some end = sym is ∙ sym (ap run_end_of same) ∙ its in cc

-- the end of a run that ends so
abbrev pub end_of : Ending → RunEnd
end_of ending.Disk = disk_failed
end_of ending.Sink = sink_failed
end_of ending.Memory = no_memory
end_of (ending.Worn what place) = worn what place

pub end_of_status : (e : Ending) → run_end_of (status_of e) ≡ Some (end_of e)
end_of_status ending.Disk = refl
end_of_status ending.Sink = refl
end_of_status ending.Memory = refl
end_of_status (ending.Worn what place) = refl

makes_file : (input : Text) (at : State) (asked : List Asked) (a : Asked) (request : Request) → BeginsWithRequests input (asked ++ a ∷ [])
    → MeansRequest at a request → MayMakeFile at request → NextMakesFile input at asked
makes_file input at asked a (Ok (session, order)) first means makes =
    record { next = a; first = first; session = session; order = order; asks = means; makes = makes }
makes_file input at asked a (Err r) first means makes = absurd makes

-- the order that may make a file
file_asked : (at : State) (request : Request) → MayMakeFile at request
    → (session : ℕ) × (order : Order) × (request ≡ Ok (session, order)) × (MakesFile order ⊎ (at.rules ≢ []))
file_asked at (Ok (session, order)) makes = (session, order, refl, makes)
file_asked at (Err r) makes = absurd makes

module _ {B : Type 0} {old mid new : World B} {found : Cat} {before : Server} {asked : List Asked} {a : Asked} {request : Request} (after : Server) (begin : BeginsOn old found)
    (so : Sofar old mid found before.store.cat (state_of before) asked) (goes : CallsGoOn old.source.left mid new before.store.cat) (notes : NotesLine a.line mid new) (means : MeansRequest (state_of before) a request)
    (first : BeginsWithRequests old.source.left (asked ++ a ∷ [])) where
  -- a request that ended the input was handled whole
  pub last_answered : (done : ⊤) → Obeys mid new before (length asked + 1) request (Ok done) after → SweepLeavesFew mid new before request (Ok done) after
      → EndsAtEnd (asked ++ a ∷ []) old.source new.source ⊎ EndsInRequest (asked ++ a ∷ []) old.source new.source
      → Serves old new found read_all
  last_answered done (handled step ends) few reads = ends_with begin so goes notes means step first (few step.marks step.d step.does_so) ends.0 reads (λ none fits. tt)
  last_answered done (quiet ending e q) few reads = absurd (cc e)

  -- something ran out or failed, of which nothing is said
  stopped : (r : Result ⊤ Ending) (e : Ending) → r ≡ Err e → Obeys mid new before (length asked + 1) request r after → BeginsWithRequests old.source.left asked
      → ((at : State) (all : List Asked) → StopsSo old new found at all (end_of e)) → IsGoodIfNoneFailed old new (end_of e) → Serves old new found (end_of e)
  stopped r e is (handled step ends) short stops good = ends_within begin so goes notes means step first (stops step.d.state (asked ++ a ∷ [])) good
  stopped r e is (quiet ending same q) short stops good = ends_quiet begin so goes q short (stops (state_of before) asked) good

  -- the room of the log, memory, or a device
  pub stops_in : (e : Ending) → Obeys mid new before (length asked + 1) request (Err e) after → BeginsWithRequests old.source.left asked → IsWorn new before request (Err e) → IsTrue new.main.tells
      → ((place : ℕ) → e ≡ ending.Worn wear.Vaults place → ⊥) → (e ≡ ending.Disk → Rose mid.main.faults new.main.faults) → (e ≡ ending.Sink → Rose mid.sink.faults new.sink.faults) → Serves old new found (end_of e)
  stops_in ending.Memory o short wears told not_vaults disk sink = stopped (Err ending.Memory) ending.Memory refl o short (λ at all. tt) (λ none fits. tt)
  stops_in ending.Disk o short wears told not_vaults disk sink =
      stopped (Err ending.Disk) ending.Disk refl o short (λ at all. tt) (λ none fits. absurd (none.of_main (let rose = disk refl in omega (arith, rose, so.ran.went.main.faults))))
  stops_in ending.Sink o short wears told not_vaults disk sink =
      stopped (Err ending.Sink) ending.Sink refl o short (λ at all. tt) (λ none fits. absurd (none.of_sink (let rose = sink refl in omega (arith, rose, so.ran.went.sink.faults))))
  stops_in (ending.Worn wear.Runs place) o short wears told not_vaults disk sink = absurd (wears wear.Runs place refl)
  stops_in (ending.Worn wear.Vaults place) o short wears told not_vaults disk sink = absurd (not_vaults place refl)
  stops_in (ending.Worn wear.Log place) o short wears told not_vaults disk sink =
      let w = wears wear.Log place refl in
      let closes = w.1 told in
      stopped (Err (ending.Worn wear.Log place)) (ending.Worn wear.Log place) refl o short (λ at all. ((w.0, record { records = closes.records; log = closes.log; place_is = closes.place_is }), tt)) (λ none fits. tt)

-- the numbers of vault files ran out in a request that was begun
pub stops_dry : {B : Type 0} {old mid new : World B} {found : Cat} (before : Server) {asked : List Asked} {a : Asked} {request : Request} (place : ℕ) → BeginsOn old found
    → Sofar old mid found before.store.cat (state_of before) asked → CallsGoOn old.source.left mid new before.store.cat → NotesLine a.line mid new → MeansRequest (state_of before) a request
    → BeginsWithRequests old.source.left (asked ++ a ∷ []) → RequestStep mid new (state_of before) before.store.cat (length asked + 1) request → IsTrue new.main.tells
    → IsWorn new before request (Err (ending.Worn wear.Vaults place)) → Serves old new found (worn wear.Vaults place)
stops_dry before {request = request} place begin so goes notes means first step told wears =
    let w = wears wear.Vaults place refl in
    let c = w.1 told in
    let f = file_asked (state_of before) request w.2 in
    ends_dry begin so goes notes means step first f.0 f.1 f.2 f.3 place (w.0, record { cat = c.0; stands = c.1 _; holds = c.2 }) (λ none fits. tt)

-- the numbers of vault files had run out, and nothing was done
pub stops_before : {B : Type 0} {old mid : World B} {found : Cat} (before : Server) {asked : List Asked} {a : Asked} {request : Request} (place : ℕ) → BeginsOn old found
    → Sofar old mid found before.store.cat (state_of before) asked → MeansRequest (state_of before) a request → BeginsWithRequests old.source.left (asked ++ a ∷ []) → BeginsWithRequests old.source.left asked
    → IsTrue mid.main.tells → IsWorn mid before request (Err (ending.Worn wear.Vaults place)) → Serves old mid found (worn wear.Vaults place)
stops_before {old = old} before {asked = asked} {a = a} {request = request} place begin so means first short told wears =
    let w = wears wear.Vaults place refl in
    let c = w.1 told in
    ends_idle begin so short ((w.0, record { cat = c.0; stands = c.1 _; holds = c.2 }), inl (makes_file old.source.left (state_of before) asked a request first means w.2)) (λ none fits. tt)
