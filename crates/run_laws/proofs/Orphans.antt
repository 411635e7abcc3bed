-- Behind a sweep few orphans are left, and the end of the input adds none.
use Rattle.std.proofs.Common.{◌≡◌, ℕ, ◌+◌, ◌<◌, ◌≤◌, true, List, [], ◌∷◌, ◌++◌, length, slice_get, Some, Ok, IsTrue, sym, ap, ◌∙◌, subst, arith}
use Rattle.std.proofs.lemmas.Option.{same_Some}
use Rattle.grid_model.specs.Rows.{Cat}
use Rattle.grid_model.specs.Inputs.{Asked}
use Rattle.grid_model.specs.Orders.{quits, sweeps}
use Rattle.grid_model.specs.Sessions.{State}
use Rattle.grid_model.specs.Uploads.{is_well}
use Rattle.grid_model.specs.Working.{Done}
use Rattle.grid_model.specs.Runs.{Marked, Request, state_after}
use Rattle.grid_headline.specs.Worlds.{World}
use Rattle.grid_headline.specs.Reads.{MeansRequest, EndsInput}
use Rattle.grid_headline.specs.Ends.{HasFewOrphans, Swept, Quit, EndsSwept, none, by_sweep, by_quit}
use Rattle.grid_headline.proofs.OneMeaning.{sweeps-alone}
use Rattle.run_laws.specs.Silent.{LeavesFew}
use Rattle.run_laws.specs.Went.{Went}
use Rattle.run_laws.proofs.Goings.{faults-rise}
use Rattle.run_laws.proofs.Lists.{get-front, get-last, state-more}

-- ---- counts do not fall

module _ {B : Type 0} (old mid new : World B) (c : Cat) where
  pub few-before : Went old mid → HasFewOrphans mid new c → HasFewOrphans old new c
  few-before first few slot small = omega (arith, few slot small, faults-rise old mid first slot)

  pub few-behind : Went mid new → HasFewOrphans old mid c → HasFewOrphans old new c
  few-behind then few slot small =
      let rise = faults-rise mid new then slot in
      omega (arith, few slot (omega (arith, rise, small)), rise)

-- ---- what ends the input

-- a request that does so leaves main as it was
pub quit-leaves : {B : Type 0} (mid new : World B) (n : ℕ) (request : Request) (d : Done) (after : Cat) → request ≡ Ok (n, quits)
    → LeavesFew mid new request d after → IsTrue mid.main.tells → new.main.holds ≡ mid.main.holds
quit-leaves mid new n request d after is few = subst (λ (r : Request). LeavesFew mid new r d after) is few

-- ---- a sweep

-- a request that means one leaves few
pub few-swept : {B : Type 0} (mid new : World B) (at be : State) (a : Asked) (session : ℕ) (request : Request) (d : Done) (after : Cat)
    → MeansRequest at a (Ok (session, sweeps)) → MeansRequest be a request → LeavesFew mid new request d after → is_well d.reply.end ≡ true
    → HasFewOrphans mid new after
few-swept mid new at be a session request d after asks means few ok =
    let one = sweeps-alone at be a session request asks means in
    subst (λ (r : Request). LeavesFew mid new r d after) one.1 few ok

-- ---- one request more

module _ (s : State) (begun : List Marked) (done : List Done) (m : Marked) (d : Done) (many : length done ≡ length begun) where
  abbrev states : ℕ → State
  states = state_after s done

  abbrev more_states : ℕ → State
  more_states = state_after s (done ++ d ∷ [])

  swept-front : (n : ℕ) → n < length begun → Swept more_states (begun ++ m ∷ []) (done ++ d ∷ []) n → Swept states begun done n
  swept-front n less swept = record {
    m = swept.m;
    is = sym (get-front begun (m ∷ []) n less) ∙ swept.is;
    session = swept.session;
    asks = subst (λ (at : State). MeansRequest at swept.m.asked (Ok (swept.session, sweeps))) (state-more s done d n (omega (arith, less, many))) swept.asks;
    d = swept.d;
    did = sym (get-front done (d ∷ []) n (omega (arith, less, many))) ∙ swept.did;
    ok = swept.ok;
  }

  quit-front : (n : ℕ) → n < length begun → Quit more_states (begun ++ m ∷ []) (done ++ d ∷ []) n → Quit states begun done n
  quit-front n less quit = record { m = quit.m; is = sym (get-front begun (m ∷ []) n less) ∙ quit.is; quits = quit.quits }

  -- so it was of the requests before it
  ends-front : {n : ℕ} → n ≤ length begun → EndsSwept more_states (begun ++ m ∷ []) (done ++ d ∷ []) n → EndsSwept states begun done n
  ends-front le none = none
  ends-front le (by_sweep {n = n} swept) = by_sweep (swept-front n (omega (arith, le)) swept)
  ends-front le (by_quit {n = n} ends quit) = by_quit (ends-front (omega (arith, le)) ends) (quit-front n (omega (arith, le)) quit)

  -- the last one was a sweep, or it ended the input and those before it end so
  pub data LastOne : Type 0 where
    swept_last : (session : ℕ) (at : State) → MeansRequest at m.asked (Ok (session, sweeps)) → is_well d.reply.end ≡ true → LastOne
    quit_last : EndsInput m.asked → EndsSwept states begun done (length begun) → LastOne

  the_last : (n : ℕ) → n ≡ length begun → (k : Marked) → slice_get (begun ++ m ∷ []) n ≡ Some k → k ≡ m
  the_last n e k is = same_Some k m (sym is ∙ ap (slice_get (begun ++ m ∷ [])) e ∙ get-last begun m)

  the_last_done : (n : ℕ) → n ≡ length begun → (k : Done) → slice_get (done ++ d ∷ []) n ≡ Some k → k ≡ d
  the_last_done n e k is = same_Some k d (sym is ∙ ap (slice_get (done ++ d ∷ [])) (e ∙ sym many) ∙ get-last done d)

  pub last-one : {n : ℕ} → n ≡ length begun + 1 → EndsSwept more_states (begun ++ m ∷ []) (done ++ d ∷ []) n → LastOne
  last-one e none = absurd (omega (arith, e))
  last-one e (by_sweep {n = n} swept) =
      let same : n ≡ length begun = omega (arith, e) in
      swept_last swept.session (more_states n)
      (subst (λ (k : Marked). MeansRequest (more_states n) k.asked (Ok (swept.session, sweeps))) (the_last n same swept.m swept.is) swept.asks)
      (subst (λ (k : Done). is_well k.reply.end ≡ true) (the_last_done n same swept.d swept.did) swept.ok)
  last-one e (by_quit {n = n} ends quit) =
      let same : n ≡ length begun = omega (arith, e) in
      quit_last (subst (λ (k : Marked). EndsInput k.asked) (the_last n same quit.m quit.is) quit.quits)
      (subst (EndsSwept states begun done) same (ends-front (omega (arith, same)) ends))
