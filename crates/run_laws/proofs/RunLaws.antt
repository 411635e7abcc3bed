-- The laws of a run: how it is begun, one more request, and its ends.
use Rattle.std.proofs.Common.{◌≡◌, ◌⊎◌, inl, inr, ℕ, ◌+◌, List, [], ◌∷◌, ◌++◌, Ok, length, refl, sym, ap, ◌∙◌, subst, arith}
use Rattle.std.specs.Prelude.{◌≢◌}
use Rattle.std.specs.List.{AllByRecursion}
use Rattle.grid_outside.specs.Source.{SourceState}
use Rattle.grid_outside.specs.declared.outside.Wear.TheVariants as wear
use Rattle.grid_model.specs.Rows.{Cat}
use Rattle.grid_model.specs.Beginning.{begins}
use Rattle.grid_model.specs.Inputs.{Asked, none_taken}
use Rattle.grid_model.specs.Sessions.{State}
use Rattle.grid_model.specs.Orders.{Order}
use Rattle.grid_model.specs.Runs.{Request, state_after}
use Rattle.grid_headline.specs.Worlds.{World}
use Rattle.grid_headline.specs.Reads.{MeansRequest, EndsInput, EndsInputLast}
use Rattle.grid_headline.specs.Served.{BeginsWithRequests}
use Rattle.grid_headline.specs.Ends.{HasRunOut, RunEnd, worn}
use Rattle.grid_headline.specs.Headline.{BeginsOn, Serves}
use Rattle.run_laws.specs.Ends.{MakesFile, ReadsSo, StopsSo, IsGoodIfNoneFailed}
use Rattle.run_laws.specs.Opening.{Opens, Opened}
use Rattle.run_laws.specs.Silent.{IsSwept, LeavesFew, Sweeps}
use Rattle.run_laws.specs.Sofar.{CallsGoOn, Sofar}
use Rattle.run_laws.specs.Steps.{NotesLine, RequestStep, IsHandledWhole, IsQuiet}
use Rattle.run_laws.proofs.Lists.{state-all, state-more}
use Rattle.run_laws.proofs.More.{done-many, ran-more, pieces-more, rules-more, text-more, of-run-more, stands-more, still-more, few-more, sofar-more}
use Rattle.run_laws.proofs.Opening.{ran-none}
use Rattle.run_laws.proofs.Quiet.{ran-quiet, sofar-read}
use Rattle.run_laws.proofs.Runs.{needs_last, serves, serves_dry}
use Rattle.run_laws.proofs.Silent.{ran-swept, sofar-swept}
use Rattle.run_laws.specs.Moments.{OpensInFew, SweepsInFew}

-- ---- how it goes on

-- the run is begun, and has swept
pub none_yet : {B : Type 0} {old mid now : World B} {found begun c : Cat} → BeginsOn old found → (opened : Opened old mid found begun)
    → OpensInFew old mid found → Sweeps mid now begun c → SweepsInFew mid now → IsSwept mid now begun c → Sofar old now found c (begins opened.opens.undone.opened.grid opened.opens.undone.rules) []
none_yet {old = old} {mid = mid} {now = now} {found = found} {begun = begun} {c = c} begin opened in_few sweeps swept_few swept =
    sofar-swept old mid now found begun c begin opened in_few sweeps swept_few swept

-- the source alone was read
pub read_on : {B : Type 0} {old now : World B} {found c : Cat} {at : State} {asked : List Asked} (source : SourceState) → Sofar old now found c at asked
    → Sofar old (record now { source = source }) found c at asked
read_on {old = old} {now = now} {found = found} {c = c} {at = at} {asked = asked} source so = sofar-read old now source found c at asked so

-- one more request was handled whole, which does not end the input
pub one_more : {B : Type 0} {old mid new : World B} {found c after : Cat} {at end : State} {asked : List Asked} {a : Asked} {request : Request}
    → BeginsOn old found
    → Sofar old mid found c at asked → CallsGoOn old.source.left mid new c → NotesLine a.line mid new → MeansRequest at a request → ¬ EndsInput a
    → (step : RequestStep mid new at c (length asked + 1) request) → LeavesFew mid new request step.d after
    → IsHandledWhole mid new at c (length asked + 1) request step after end → Sofar old new found after end (asked ++ a ∷ [])
one_more {old = old} {mid = mid} {new = new} {found = found} {c = c} {after = after} {at = at} {end = end} {asked = asked} {a = a} {request = request} begin so goes noted means more step few whole =
    sofar-more old mid new found c at asked begin goes.order so goes.went goes.few goes.whole goes.names a noted request means step after end whole few more

-- ---- how it ends

-- none of them ended the input
end-last : (asked : List Asked) → AllByRecursion (λ a. ¬ EndsInput a) asked → EndsInputLast asked
end-last [] none = tt
end-last (a ∷ []) none = tt
end-last (a ∷ b ∷ more) none = (none.0, end-last (b ∷ more) none.1)

-- and the one behind them may
end-behind : (asked : List Asked) (a : Asked) → AllByRecursion (λ x. ¬ EndsInput x) asked → EndsInputLast (asked ++ a ∷ [])
end-behind [] a none = tt
end-behind (x ∷ []) a none = (none.0, tt)
end-behind (x ∷ y ∷ more) a none = (none.0, end-behind (y ∷ more) a none.1)

-- nothing was asked of it, and maybe not all was undone, or it is not begun
pub ends_before : {B : Type 0} {old now : World B} {found : Cat} {end : RunEnd} → BeginsOn old found → (opens : Opens old now found)
    → OpensInFew old now found → StopsSo old now found (begins opens.undone.opened.grid opens.undone.rules) [] end → IsGoodIfNoneFailed old now end → Serves old now found end
ends_before {old = old} {now = now} {found = found} {end = end} begin opens in_few stops good =
    serves old now found (begins opens.undone.opened.grid opens.undone.rules) [] (ran-none old now found opens in_few) (inl (old.source.left, none_taken)) tt begin.main_tells end (inr stops) good

-- the run is begun, and maybe has not swept all
pub ends_swept : {B : Type 0} {old mid now : World B} {found begun left : Cat} {end : RunEnd} → BeginsOn old found → (opened : Opened old mid found begun)
    → OpensInFew old mid found → Sweeps mid now begun left → SweepsInFew mid now → StopsSo old now found (begins opened.opens.undone.opened.grid opened.opens.undone.rules) [] end → IsGoodIfNoneFailed old now end → Serves old now found end
ends_swept {old = old} {mid = mid} {now = now} {found = found} {begun = begun} {left = left} {end = end} begin opened in_few sweeps swept_few stops good =
    serves old now found (begins opened.opens.undone.opened.grid opened.opens.undone.rules) [] (ran-swept old mid now found begun left begin opened in_few sweeps swept_few)
    (inl (old.source.left, none_taken)) tt begin.main_tells end (inr stops) good

-- the input was read, and all is answered
pub ends_well : {B : Type 0} {old now : World B} {found c : Cat} {at : State} {asked : List Asked} {end : RunEnd} → BeginsOn old found
    → Sofar old now found c at asked
    → BeginsWithRequests old.source.left asked → ReadsSo asked old.source now.source end → IsGoodIfNoneFailed old now end → Serves old now found end
ends_well {old = old} {now = now} {found = found} {c = c} {at = at} {asked = asked} {end = end} begin so first reads good =
    serves old now found at asked so.ran first (end-last asked so.none_end) begin.main_tells end
    (inl (
      record {
        all = so.pieces_are;
        text = so.text;
        cat = c;
        stands = so.stands;
        of_run = so.of_run;
        grid = so.grid;
        rules = so.rules;
        still = λ no_rules none clear all. (so.still no_rules none clear all).0;
        few = so.few;
      },
      reads,
    )) good

-- something ran out before anything was done for another request
pub ends_idle : {B : Type 0} {old now : World B} {found c : Cat} {at : State} {asked : List Asked} {end : RunEnd} → BeginsOn old found
    → Sofar old now found c at asked → BeginsWithRequests old.source.left asked → StopsSo old now found at asked end → IsGoodIfNoneFailed old now end → Serves old now found end
ends_idle {old = old} {now = now} {found = found} {at = at} {asked = asked} {end = end} begin so first stops good =
    serves old now found at asked so.ran first (end-last asked so.none_end) begin.main_tells end (inr stops) good

-- something ran out or failed, and nothing is seen of what was done for it
pub ends_quiet : {B : Type 0} {old mid new : World B} {found c : Cat} {at : State} {asked : List Asked} {end : RunEnd} → BeginsOn old found
    → Sofar old mid found c at asked → CallsGoOn old.source.left mid new c → IsQuiet mid new c → BeginsWithRequests old.source.left asked → StopsSo old new found at asked end
    → IsGoodIfNoneFailed old new end → Serves old new found end
ends_quiet {old = old} {mid = mid} {new = new} {found = found} {c = c} {at = at} {asked = asked} {end = end} begin so goes quiet first stops good =
    serves old new found at asked (ran-quiet old mid new found c at asked begin goes.order so goes.went goes.few goes.whole goes.names quiet) first
    (end-last asked so.none_end) begin.main_tells end (inr stops) good

module _ {B : Type 0} {old mid new : World B} {found c : Cat} {at : State} {asked : List Asked} {a : Asked} {request : Request}
    (begin : BeginsOn old found)
    (so : Sofar old mid found c at asked) (goes : CallsGoOn old.source.left mid new c) (noted : NotesLine a.line mid new)
    (means : MeansRequest at a request) (step : RequestStep mid new at c (length asked + 1) request)
    (first : BeginsWithRequests old.source.left (asked ++ a ∷ [])) where
  -- the numbers of vault files ran out in a request, which was begun and may not be shown whole
  pub ends_dry : (session : ℕ) (order : Order) → request ≡ Ok (session, order) → MakesFile order ⊎ (at.rules ≢ []) → (place : ℕ)
      → HasRunOut found new.main.holds new.spare.holds place wear.Vaults → IsGoodIfNoneFailed old new (worn wear.Vaults place)
      → Serves old new found (worn wear.Vaults place)
  ends_dry session order is makes place out good =
      let ran = ran-more old mid new found c at asked begin goes.order so goes.went goes.few goes.whole goes.names a noted request means step in
      let many = done-many old mid found at asked so.ran in
      let ds = so.ran.handled.done in
      let now : state_after (begins so.ran.undone.opened.grid so.ran.undone.rules) (ds ++ step.d ∷ []) (length asked) ≡ at =
      state-more (begins so.ran.undone.opened.grid so.ran.undone.rules) ds step.d (length asked) (omega (arith, many))
      ∙ ap (state_after (begins so.ran.undone.opened.grid so.ran.undone.rules) ds) (sym many)
      ∙ state-all so.ran.after in
      let meant : MeansRequest at a (Ok (session, order)) = subst (MeansRequest at a) is means in
      let all = asked ++ a ∷ [] in
      serves_dry old new found step.d.state all ran first (end-behind asked a so.none_end) begin.main_tells place out
      (needs_last old new found step.d.state all ran first (end-behind asked a so.none_end) begin.main_tells asked a at session order refl now meant makes) good

module _ {B : Type 0} {old mid new : World B} {found c : Cat} {at : State} {asked : List Asked} {a : Asked} {request : Request} {end : RunEnd}
    (begin : BeginsOn old found)
    (so : Sofar old mid found c at asked) (goes : CallsGoOn old.source.left mid new c) (noted : NotesLine a.line mid new)
    (means : MeansRequest at a request) (step : RequestStep mid new at c (length asked + 1) request)
    (first : BeginsWithRequests old.source.left (asked ++ a ∷ [])) where
  -- something ran out or failed in a request, which was begun and may not be shown whole
  pub ends_within : StopsSo old new found step.d.state (asked ++ a ∷ []) end → IsGoodIfNoneFailed old new end → Serves old new found end
  ends_within stops good =
      serves old new found step.d.state (asked ++ a ∷ [])
      (ran-more old mid new found c at asked begin goes.order so goes.went goes.few goes.whole goes.names a noted request means step) first (end-behind asked a so.none_end) begin.main_tells end (inr stops) good

  -- the input ended with a request, which was handled whole
  pub ends_with : {after : Cat} {left : State} → LeavesFew mid new request step.d after → IsHandledWhole mid new at c (length asked + 1) request step after left
      → ReadsSo (asked ++ a ∷ []) old.source new.source end
      → IsGoodIfNoneFailed old new end → Serves old new found end
  ends_with {after = after} {left = left} few whole reads good =
      serves old new found step.d.state (asked ++ a ∷ [])
      (ran-more old mid new found c at asked begin goes.order so goes.went goes.few goes.whole goes.names a noted request means step) first (end-behind asked a so.none_end) begin.main_tells end
      (inl (
        record {
          all = pieces-more old mid new found c at asked begin goes.order so goes.went goes.few goes.whole goes.names a noted request means step after left whole;
          text = text-more old mid new found c at asked begin goes.order so goes.went goes.few goes.whole goes.names a noted request means step after left whole;
          cat = after;
          stands = stands-more old mid new found c at asked begin goes.order so goes.went goes.few goes.whole goes.names a noted request means step after left whole;
          of_run = of-run-more old mid new found c at asked begin goes.order so goes.went goes.few goes.whole goes.names a noted request means step after left whole;
          grid = whole.grid ∙ ap (λ (s : State). s.grid) (sym whole.state);
          rules = rules-more old mid new found c at asked begin goes.order so goes.went goes.few goes.whole goes.names a noted request means step after left whole;
          still = λ no_rules none clear all. (still-more old mid new found c at asked begin goes.order so goes.went goes.few goes.whole goes.names a noted request means step after left whole no_rules none clear all).0;
          few = few-more old mid new found c at asked begin goes.order so goes.went goes.few goes.whole goes.names a noted request means step after left whole few;
        },
        reads,
      )) good
