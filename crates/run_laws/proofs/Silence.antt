-- No row is kept in silence in a run, and no number is given past the last one.
use Rattle.std.proofs.Common.{◌≡◌, ℕ, zero, suc, ◌+◌, ◌-◌, ◌<◌, ◌≤◌, List, [], ◌∷◌, ◌++◌, length, slice_get, Option, Some, None, Ok, Err, IsTrue, refl, sym, ap}
use Rattle.std.proofs.Common.{◌∙◌, subst, arith}
use Rattle.std.proofs.lemmas.List.{append_cancel_left}
use Rattle.std.proofs.lemmas.Option.{same_Some, slice_get_within}
use Rattle.grid_model.specs.Names.{Text}
use Rattle.grid_model.specs.Rows.{Cat}
use Rattle.grid_model.specs.Applying.{IsMade}
use Rattle.grid_model.specs.Inputs.{Asked}
use Rattle.grid_model.specs.Orders.{Order, sweeps}
use Rattle.grid_model.specs.Working.{Done, begun}
use Rattle.grid_model.specs.Maps.{get}
use Rattle.grid_model.specs.Meanings.{Waiting}
use Rattle.grid_model.specs.Meanings as meaning
use Rattle.grid_model.specs.Obeying.{command, logged_in, not_logged_in}
use Rattle.grid_model.specs.Runs.{Marked, Request, After, state_after}
use Rattle.grid_model.specs.Runs as runs
use Rattle.grid_model.specs.Sessions.{Session, State}
use Rattle.grid_model.specs.declared.deltas.Pending.{Pending}
use Rattle.grid_model.specs.declared.marks.Mark.{Mark}
use Rattle.grid_journal.specs.Stands.{Stands, StandsFor}
use Rattle.grid_journal.specs.Stands as journal
use Rattle.grid_journal.proofs.ReplayLemmas.{Replays-made}
use Rattle.grid_headline.specs.Worlds.{World, DevicesImage, LeavesImage}
use Rattle.grid_headline.specs.Reads.{AsksToSweep, EndsInputLast, MeansRequest}
use Rattle.grid_headline.specs.Served.{Run, BeginsWithRequests, state_at}
use Rattle.grid_headline.specs.Files.{AreSettled, IsKnown}
use Rattle.grid_headline.specs.Numbers.{KeepsNumbers, AddsFew, last_vault}
use Rattle.grid_headline.specs.Silence.{IsBetween, IsLeft, IsLoud, NoneIsSilent, AddsBeforeRun}
use Rattle.grid_headline.specs.Ends.{HadNumbers}
use Rattle.grid_headline.proofs.OneMeaning.{sweeps-alone}
use Rattle.grid_headline.proofs.PutStops.{the_catalogue}
use Rattle.count_laws.specs.GivenNumbers.{GivesFew, GivesNone}
use Rattle.count_laws.proofs.GivenNumbers.{adds_few, gives_before, gives_behind, gives_more, none_few, none_self}
use Rattle.run_laws.specs.Handled.{Handled, GaveFew, LastHadNumbers, GivesBeforeRun, IsAt, exact, opening, amid_sweep, IsOfRun, OneOfRun, not_begun, in_run}
use Rattle.run_laws.specs.Handled.{in_deed_of_run, cats_of, reached_by, state_behind}
use Rattle.run_laws.specs.Sofar.{Ran}
use Rattle.run_laws.specs.Undone.{Undone, whole_report}
use Rattle.run_laws.proofs.Images.{keeps-then}
use Rattle.run_laws.proofs.Lists.{few-at, few-length}
use Rattle.run_laws.proofs.RunOf.{run-of}

there : {X : Type 0} (xs : List X) (n : ℕ) → n < length xs → (x : X) × (slice_get xs n ≡ Some x)
there [] n less = absurd (omega (arith, less))
there (x ∷ xs) zero less = (x, refl)
there (x ∷ xs) (suc n) less = there xs n (omega (arith, less))

-- a catalogue that disks stand for was made
made : (i : DevicesImage) (c : Cat) → Stands i.main i.spare (Ok c) → IsMade c
made i c (journal.stands records e head log replays zone) = Replays-made replays

-- a sweep waits for no mark
sweep_gives : (at : State) (n : ℕ) (marks : List Mark) → (d : Done) × (command at n sweeps marks ≡ meaning.gives d)
sweep_gives at n marks = by (get at.sessions n)
  where
    by : (o : Option Session) → (d : Done) × (elim o [
      | None ↦ not_logged_in at n sweeps (begun at.grid marks)
      | Some x ↦ logged_in at n x sweeps (begun at.grid marks)
    ] ≡ meaning.gives d)
    by None = (_, refl)
    by (Some x) = (_, refl)

never : (d : Done) (w : Waiting) → ¬ (meaning.gives d ≡ meaning.waits w)
never d w e = absurd (cc e)

abbrev asks_so : ℕ → Order → Request
asks_so n order = Ok (n, order)

abbrev parts_of : Request → ℕ × Order
parts_of (Ok parts) = parts
parts_of (Err r) = (0, sweeps)

same_session : (i n : ℕ) (o p : Order) → asks_so i o ≡ asks_so n p → i ≡ n
same_session i n o p e = ap (λ (r : Request). (parts_of r).0) e

same_order : (i n : ℕ) (o p : Order) → asks_so i o ≡ asks_so n p → o ≡ p
same_order i n o p e = ap (λ (r : Request). (parts_of r).1) e

-- so a request that is pending is none
waits_for_no_sweep : (at : State) (a : Asked) (request : Request) → MeansRequest at a request → AsksToSweep a → (session : ℕ) (order : Order)
    → request ≡ Ok (session, order) → (kept : List Mark) (waiting : Waiting) → command at session order kept ≡ meaning.waits waiting → ⊥
waits_for_no_sweep at a request means asks session order is kept waiting waits_there =
    let one = sweeps-alone asks.at at a asks.session request asks.asks means in
    let gives_so = sweep_gives at one.0 kept in
    by session order one.0 is one.1 waits_there gives_so.0 gives_so.1
  where
    by : (i : ℕ) (o : Order) (n : ℕ) → request ≡ asks_so i o → request ≡ asks_so n sweeps → command at i o kept ≡ meaning.waits waiting → (d : Done)
        → command at n sweeps kept ≡ meaning.gives d → ⊥
    by i o n one two w d g =
        let same : asks_so i o ≡ asks_so n sweeps = sym one ∙ two in
        let P : ℕ → Order → Type 0 = λ x y. command at x y kept ≡ meaning.waits waiting in
        never d waiting (sym g ∙ subst (P n) (same_order i n o sweeps same) (subst (λ x. P x o) (same_session i n o sweeps same) w))

-- what one of some requests asks for
means-at : {s end : State} {ms : List Marked} {ds : List Done} → After MeansRequest s ms ds end → (n : ℕ) (m : Marked) → slice_get ms n ≡ Some m
    → (request : Request) × MeansRequest (state_after s ds n) m.asked request
means-at runs.none n m is = absurd (cc is)
means-at {s = s} (runs.next {m = x} request means did left more) zero m is =
    (request, subst (λ (y : Marked). MeansRequest s y.asked request) (same_Some x m is) means)
means-at (runs.next request means did left more) (suc n) m is = means-at more n m is

module _ {B : Type 0} (old new : World B) (found : Cat) (at : State) (asked : List Asked) (ran : Ran old new found at asked)
    (first : BeginsWithRequests old.source.left asked) (end_last : EndsInputLast asked)
    (sink_tells : IsTrue old.sink.tells) (settled : AreSettled old) where
  abbrev r : Run (IsKnown old found) found old.source.left
  r = run-of old new found at asked ran first end_last

  abbrev h : Handled
  h = ran.handled

  abbrev u : Undone found
  u = ran.undone

  -- how many bytes of replies are shown with so many
  abbrev own : ℕ → ℕ
  own count = count - length (whole_report found u)

  -- ---- an image is one that the run leaves

  left : (i : DevicesImage) (t : ℕ) → old.moments < t → LeavesImage new t i → OneOfRun found u h old.sink.holds i.main i.sink
  left i t late leaves = ran.images sink_tells settled t i.main i.sink late leaves.disks.of_main leaves.of_sink

  -- the catalogue that an image stands for is that of the run
  same_cat : (i : DevicesImage) (c e : Cat) → Stands i.main i.spare (Ok c) → StandsFor i.main e → e ≡ c
  same_cat i c e is its = the_catalogue i.main i.spare c e is (its i.spare)

  part_of : (i : DevicesImage) (one two : Text) → i.sink ≡ old.sink.holds ++ one → i.sink ≡ old.sink.holds ++ two → one ≡ two
  part_of i one two is also = append_cancel_left old.sink.holds one two (sym is ∙ also)

  -- a catalogue between two requests, behind so many
  between : (n : ℕ) (i : DevicesImage) (c : Cat) → IsBetween r old new n i c → IsAt found u h n c × IsOfRun found c × LastHadNumbers h n
  between n i c b = by (left i b.moment b.in_run b.leaves)
    where
      by : OneOfRun found u h old.sink.holds i.main i.sink → IsAt found u h n c × IsOfRun found c × LastHadNumbers h n
      by (not_begun e stands part is) =
          let same = same_cat i c e b.stands stands in
          absurd (omega (arith, ap (λ (x : Cat). x.numbers.run) same, b.number, is.before.number))
      by (in_run e part more stands sink split is) =
          let same = same_cat i c e b.stands stands in
          let parts : part ≡ b.part = part_of i part b.part sink b.sink in
          let P : Cat → Text → Type 0 = λ x y. IsAt found u h (reached_by found u h x (own (length y))) x × IsOfRun found x
          × LastHadNumbers h (reached_by found u h x (own (length y))) in
          let so = subst (P c) parts (subst (λ x. P x part) same (is.at, is.of_run, is.had_numbers)) in
          (subst (λ k. IsAt found u h k c) b.done so.0, so.1, subst (LastHadNumbers h) b.done so.2)
      by (in_deed_of_run e p k part more stands sink split is) =
          let same = same_cat i c e b.stands stands in
          let pending : c.pending ≡ Some p = sym (ap (λ (x : Cat). x.pending) same) ∙ is.waits_behind.waits.is in
          absurd (cc (pending, b.none))

  -- ---- one catalogue between two

  loud_sweep : (n : ℕ) (m : Marked) → IsLoud r old new n → slice_get h.begun n ≡ Some m → ¬ AsksToSweep m.asked
  loud_sweep n m loud is_m asks =
      let means = means-at ran.after n m is_m in
      let one = sweeps-alone asks.at (state_at r n) m.asked asks.session means.0 asks.asks means.1 in
      loud m one.0 sweeps is_m (subst (λ (x : Request). MeansRequest (state_at r n) m.asked x) one.1 means.1) tt

  exactly : (n : ℕ) (c : Cat) → 0 < n → IsLoud r old new n → IsAt found u h n c → slice_get (cats_of h) n ≡ Some c
  exactly n c some loud (exact is) = is
  exactly n c some loud (opening zero_is few above) = absurd (omega (arith, some, zero_is))
  exactly n c some loud (amid_sweep e f m is_e is_f is_m asks since until) = absurd (loud_sweep n m loud is_m asks)

  pub one_catalogue : (n : ℕ) (i j : DevicesImage) (c d : Cat) → 0 < n → IsLoud r old new n → IsBetween r old new n i c → IsBetween r old new n j d → c ≡ d
  one_catalogue n i j c d some loud one other =
      same_Some c d (sym (exactly n c some loud (between n i c one).0) ∙ exactly n d some loud (between n j d other).0)

  -- ---- few more

  -- the catalogue behind so many requests has what is said of one that is between
  module _ (n : ℕ) (m : Marked) (is_m : slice_get h.begun n ≡ Some m) where
    -- the catalogue behind one more
    next_there : (f : Cat) × (slice_get h.behind n ≡ Some f)
    next_there = there h.behind n (omega (arith, few-length h.first h.begun h.behind ran.all_few, slice_get_within h.begun n m is_m))

    gave : (e : Cat) → slice_get (cats_of h) n ≡ Some e → GaveFew e m next_there.0
    gave e is_e = few-at h.first e next_there.0 h.begun h.behind m n ran.all_few is_e next_there.1 is_m

    -- from a catalogue between two to the one behind the next request
    onward : (c : Cat) → IsAt found u h n c → KeepsNumbers c next_there.0 × GivesFew c next_there.0 (length m.marks)
    onward c (exact is) = let g = gave c is in (g.keeps, g.few)
    onward c (opening zero_is few above) =
        let is_first : slice_get (cats_of h) n ≡ Some h.first = ap (slice_get (cats_of h)) zero_is in
        let g = gave h.first is_first in
        (keeps-then c h.first next_there.0 above.keeps g.keeps, gives_behind (none_few c h.first above) g.few)
    onward c (amid_sweep e f x is_e is_f is_x asks since until) =
        let same : f ≡ next_there.0 = same_Some f next_there.0 (sym is_f ∙ next_there.1) in
        let to : GivesNone c next_there.0 = (let P : Cat → Type 0 = λ y. GivesNone c y in subst P same until) in
        (to.keeps, gives_more (length m.marks) (omega arith) (none_few c next_there.0 to))

    next_is : slice_get (cats_of h) (n + 1) ≡ Some next_there.0
    next_is = let e : n + 1 ≡ suc n = omega arith in ap (slice_get (cats_of h)) e ∙ next_there.1

    -- and to one that is between two behind it
    behind_it : (d : Cat) → IsAt found u h (n + 1) d → GivesNone next_there.0 d
    behind_it d (exact is) = (let P : Cat → Type 0 = λ y. GivesNone y d in
        subst P (same_Some d next_there.0 (sym is ∙ next_is)) (none_self d))
    behind_it d (opening zero_is few above) = absurd (omega (arith, zero_is))
    behind_it d (amid_sweep e f x is_e is_f is_x asks since until) = (let P : Cat → Type 0 = λ y. GivesNone y d in
        subst P (same_Some e next_there.0 (sym is_e ∙ next_is)) since)

  pub later : (n : ℕ) (i j : DevicesImage) (c d : Cat) (m : Marked) → slice_get h.begun n ≡ Some m → IsBetween r old new n i c → IsBetween r old new (n + 1) j d
      → AddsFew c d (length m.marks)
  later n i j c d m is_m one other =
      let f = (next_there n m is_m).0 in
      let on = onward n m is_m c (between n i c one).0 in
      let to = behind_it n m is_m d (between (n + 1) j d other).0 in
      adds_few (made j d other.stands) (keeps-then c f d on.0 to.keeps) (gives_before on.1 (none_few f d to))

  -- the catalogue of an image with a pending command is amid the next request
  amid : (d : Cat) (p : Pending) (n : ℕ) (of : IsLeft r old new d) → d.numbers.run ≡ found.numbers.run + 1 → d.pending ≡ Some p → p.number ≡ n + 1
      → (m : Marked) × (slice_get h.begun n ≡ Some m)
      × ((e : Cat) → slice_get (cats_of h) n ≡ Some e → KeepsNumbers e d × GivesFew e d (length p.marks + 1)) × (¬ AsksToSweep m.asked)
  amid d p n of number pending of_number = by (left of.i of.moment of.in_run of.leaves)
    where
      by : OneOfRun found u h old.sink.holds of.i.main of.i.sink → (m : Marked) × (slice_get h.begun n ≡ Some m)
          × ((e : Cat) → slice_get (cats_of h) n ≡ Some e → KeepsNumbers e d × GivesFew e d (length p.marks + 1)) × (¬ AsksToSweep m.asked)
      by (not_begun e stands part is) =
          absurd (omega (arith, ap (λ (x : Cat). x.numbers.run) (same_cat of.i d e of.stands stands), number, is.before.number))
      by (in_run e part more stands sink split is) =
          let not_pending : d.pending ≡ None = sym (ap (λ (x : Cat). x.pending) (same_cat of.i d e of.stands stands)) ∙ is.of_run.none in
          absurd (cc (not_pending, pending))
      by (in_deed_of_run e q k part more stands sink split is) =
          let same = same_cat of.i d e of.stands stands in
          let w = is.waits_behind in
          let q_is : q ≡ p = same_Some q p (sym w.waits.is ∙ ap (λ (x : Cat). x.pending) same ∙ pending) in
          let k_is : k ≡ n = omega (arith, w.waits.number, ap (λ (x : Pending). x.number) q_is, of_number) in
          let P : Cat → Pending → Type 0 = λ x y. (e : Cat) → slice_get (cats_of h) k ≡ Some e → KeepsNumbers e x × GivesFew e x (length y.marks + 1) in
          let since = subst (P d) q_is (subst (λ x. P x q) same is.since) in (
            w.next,
            subst (λ j. slice_get h.begun j ≡ Some w.next) k_is w.is_next,
            λ x is_x. since x (ap (slice_get (cats_of h)) k_is ∙ is_x),
            λ asks. waits_for_no_sweep (state_behind found u h k) w.next.asked w.request w.means asks w.waits.session w.waits.order w.waits.asks
                q.marks w.waits.waiting w.waits.waits_there,
          )

  pub within : (n : ℕ) (i : DevicesImage) (c d : Cat) (p : Pending) → IsBetween r old new n i c → IsLeft r old new d
      → d.numbers.run ≡ found.numbers.run + 1 → d.pending ≡ Some p → p.number ≡ n + 1 → AddsFew c d (length p.marks + 1)
  within n i c d p one of number pending of_number =
      let a = amid d p n of number pending of_number in
      let made_d = made of.i d of.stands in
      by a (between n i c one).0
    where
      by : (m : Marked) × (slice_get h.begun n ≡ Some m)
          × ((e : Cat) → slice_get (cats_of h) n ≡ Some e → KeepsNumbers e d × GivesFew e d (length p.marks + 1)) × (¬ AsksToSweep m.asked)
          → IsAt found u h n c → AddsFew c d (length p.marks + 1)
      by a (exact is) = let s = a.2 c is in adds_few (made of.i d of.stands) s.0 s.1
      by a (opening zero_is few above) =
          let s = a.2 h.first (ap (slice_get (cats_of h)) zero_is) in
          adds_few (made of.i d of.stands) (keeps-then c h.first d above.keeps s.0)
          (gives_behind (none_few c h.first above) s.1)
      by a (amid_sweep e f m is_e is_f is_m asks since until) =
          let same : m ≡ a.0 = same_Some m a.0 (sym is_m ∙ a.1) in
          absurd (a.3 (subst (λ (x : Marked). AsksToSweep x.asked) same asks))

  -- ---- before the run was begun, and once it was

  pub before_run : (c : Cat) → IsLeft r old new c → c.numbers.run ≡ found.numbers.run → AddsBeforeRun r old new c found.pending c.pending
  before_run c of number = by (left of.i of.moment of.in_run of.leaves)
    where
      by_pending : KeepsNumbers found c → (was now : Option Pending) → GivesBeforeRun found c was now → AddsBeforeRun r old new c was now
      by_pending keeps (Some was) (Some now) few = λ d is. adds_few (made of.i c of.stands) keeps (few d is)
      by_pending keeps (Some was) None few = adds_few (made of.i c of.stands) keeps few
      by_pending keeps None now few = adds_few (made of.i c of.stands) keeps few

      by : OneOfRun found u h old.sink.holds of.i.main of.i.sink → AddsBeforeRun r old new c found.pending c.pending
      by (not_begun e stands part is) =
          let same = same_cat of.i c e of.stands stands in
          let P : Cat → Type 0 = λ x. KeepsNumbers found x × GivesBeforeRun found x found.pending x.pending in
          let so = subst P same (is.keeps, is.few) in
          by_pending so.0 found.pending c.pending so.1
      by (in_run e part more stands sink split is) =
          absurd (omega (arith, ap (λ (x : Cat). x.numbers.run) (same_cat of.i c e of.stands stands), number, is.of_run.number))
      by (in_deed_of_run e p k part more stands sink split is) =
          absurd (omega (arith, ap (λ (x : Cat). x.numbers.run) (same_cat of.i c e of.stands stands), number, is.of_run.number))

  pub opened : (i : DevicesImage) (c : Cat) → IsBetween r old new 0 i c → AddsFew found c (length u.report)
  opened i c one = let so = between 0 i c one in adds_few (made i c one.stands) so.1.keeps (by so.0)
    where
      by : IsAt found u h 0 c → GivesFew found c (length u.report)
      by (exact is) = let P : Cat → Type 0 = λ x. GivesFew found x (length u.report) in subst P (same_Some h.first c is) ran.few_before.1
      by (opening zero_is few above) = few
      by (amid_sweep e f m is_e is_f is_m asks since until) =
          let P : Cat → Type 0 = λ x. GivesFew found x (length u.report) in
          gives_before (subst P (same_Some h.first e is_e) ran.few_before.1) (none_few e c since)

  pub none_silent : NoneIsSilent r old new
  none_silent = record {
    one_catalogue = one_catalogue;
    within = within;
    later = later;
    before_run = before_run;
    opened = opened;
  }

  -- ---- numbers

  pub had_numbers : HadNumbers r old new
  had_numbers n i j c e m d session order one other is_m is_d means makes some was = by (between n i c one).0
    where
      at_start : (x : Cat) → slice_get (cats_of h) n ≡ Some x → x.numbers.next_vault ≤ last_vault
      at_start x is_x = (between (n + 1) j e other).2 n refl x m d is_x is_m is_d (state_at r n) session order means makes some was

      by : IsAt found u h n c → c.numbers.next_vault ≤ last_vault
      by (exact is) = at_start c is
      by (opening zero_is few above) = omega (arith, at_start h.first (ap (slice_get (cats_of h)) zero_is), above.numbers)
      by (amid_sweep e f x is_e is_f is_x asks since until) = omega (arith, at_start e is_e, since.numbers)
