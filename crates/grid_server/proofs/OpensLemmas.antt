-- A run that is opened, or not, over a catalogue that was read.
use Rattle.std.proofs.Common.{◌≡◌, ◌⊎◌, inl, inr, ℕ, List, [], length, Some, Ok, refl, sym, ◌∙◌, subst, arith, IsTrue}
use Rattle.grid_outside.specs.Disk.{DiskState}
use Rattle.grid_outside.specs.Fault.{Rose}
use Rattle.grid_outside.specs.declared.outside.Wear.{Wear}
use Rattle.grid_outside.specs.declared.outside.Wear.TheVariants as wear
use Rattle.grid_model.specs.Beginning.{begins}
use Rattle.grid_model.specs.Names.{Text}
use Rattle.grid_model.specs.Rows.{Cat}
use Rattle.grid_model.specs.RuleText.{Rule}
use Rattle.grid_model.specs.declared.grid.Side.{Side}
use Rattle.grid_journal.specs.Stands.{Stands}
use Rattle.grid_journal.proofs.KeptRules.{standing_rules}
use Rattle.grid_headline.specs.Ends.{RunEnd, no_memory, disk_failed, sink_failed, worn, HasRunOut, HasOneMore}
use Rattle.grid_headline.specs.Files.{DisksAreSettled, IsKnown, WereWhole}
use Rattle.grid_headline.specs.Headline.{BeginsOn, Serves}
use Rattle.grid_headline.specs.Reads.{HasRules}
use Rattle.grid_headline.specs.Worlds.{World}
use Rattle.run_laws.specs.declared.around.Around.{Around}
use Rattle.run_laws.specs.Ends.{StopsSo, IsGoodIfNoneFailed}
use Rattle.run_laws.specs.Opening.{Opened, Opens}
use Rattle.run_laws.specs.Steps.{IsToldOf}
use Rattle.run_laws.specs.Went.{AreInOrder, Rests}
use Rattle.run_laws.proofs.Goings.{rests-settled, rests-then}
use Rattle.run_laws.proofs.Known.{told-less}
use Rattle.run_laws.proofs.Lists.{all-map}
use Rattle.run_laws.proofs.RunLaws.{ends_before}
use Rattle.run_open.specs.Preparing.{OpenStops}
use Rattle.run_open.specs.declared.error.OpenError.{OpenError}
use Rattle.run_open.specs.declared.error.OpenError.TheVariants as error
use Rattle.run_open.proofs.Fronts.{opens-still}
use Rattle.grid_server.specs.RunEnds.{run_end_of, unopened}
use Rattle.grid_server.specs.Serving.{WasOpened}
use Rattle.grid_server.specs.Views.{Views, world_of}
use Rattle.grid_server.specs.Wearing.{HasWorn}
use Rattle.grid_server.specs.declared.status.Status.{Status}
use Rattle.grid_server.specs.declared.status.Status.TheVariants as status
use Rattle.grid_server.proofs.RestLemmas.{rests_where}
use Rattle.run_laws.specs.Moments.{OpensInFew}

-- ---- the rules

-- the catalogue that was found has the text of some rules
pub rules_found : {B : Type 0} (old : World B) (found : Cat) → BeginsOn old found → (rules : List Rule) × HasRules found rules
rules_found old found begin = let k = standing_rules begin.stands in (k.0, sym k.1.printed)

-- ---- behind a look at the disks

module _ {B : Type 0} (start : World B) (main spare : DiskState) (looked : Rests main start.main) (spare_looked : Rests spare start.spare) (main_tells : IsTrue main.tells) (spare_tells : IsTrue spare.tells) where
  -- what was before the disks were looked at
  abbrev pub first_world : World B
  first_world = record start { main = main; spare = spare }

  settled-so : DisksAreSettled first_world → DisksAreSettled start
  settled-so settled = record {
    of_main = rests-settled main start.main main_tells looked settled.of_main;
    of_spare = rests-settled spare start.spare spare_tells spare_looked settled.of_spare;
  }

  module _ (found : Cat) where
    whole-so : WereWhole first_world start.moments found → WereWhole start start.moments found
    whole-so whole t late =
        let was = whole t late in
        record { rows = was.rows; call = was.call; files = λ slot files its. was.files slot files (record { store = its.store; is = its.is; tells = its.tells; of_store = its.of_store }) }

    known-so : (slot : ℕ) → IsKnown first_world found slot → IsKnown start found slot
    known-so slot known = record {
      main = subst IsTrue (sym looked.tells) main_tells;
      settled = settled-so known.settled;
      whole = whole-so known.whole;
      there = record { store = known.there.store; is = known.there.is; tells = known.there.tells };
    }

    order-so : AreInOrder first_world → AreInOrder start
    order-so order = record {
      main_last = omega (arith, order.main_last, looked.last);
      spare_last = omega (arith, order.spare_last, spare_looked.last);
      sink_last = order.sink_last;
      stores_last = order.stores_last;
    }

    begin-so : BeginsOn first_world found → BeginsOn start found
    begin-so begin = record {
      main_tells = subst IsTrue (sym looked.tells) main_tells;
      spare_tells = subst IsTrue (sym spare_looked.tells) spare_tells;
      source_tells = begin.source_tells;
      stands = (let S : Text → Type 0 = λ m. Stands m start.spare.holds (Ok found) in
          let T : Text → Type 0 = λ s. Stands main.holds s (Ok found) in
          subst S (sym (looked.holds main_tells)) (subst T (sym (spare_looked.holds spare_tells)) begin.stands));
      stores = begin.stores;
    }

    module _ (now : World B) where
      pub opens-before : Opens start now found → Opens first_world now found
      opens-before o = record {
        undone = o.undone;
        taken = o.taken;
        first = o.first;
        told_of = all-map (IsToldOf (IsKnown start found) (length start.stores)) (IsToldOf (IsKnown first_world found) (length start.stores))
            (told-less (IsKnown start found) (IsKnown first_world found) known-so (length start.stores)) o.undone.report o.told_of;
        went = record {
          drawn = o.went.drawn;
          main = record {
            faults = omega (arith, looked.faults, o.went.main.faults);
            tells = o.went.main.tells ∙ looked.tells;
            earlier = λ t image early left. looked.left t image (o.went.main.earlier t image early left);
          };
          sink = o.went.sink;
          spare = rests-then spare start.spare now.spare spare_looked o.went.spare;
          count = o.went.count;
          stores = λ slot was here is_was is_here. record { goes = (o.went.stores slot was here is_was is_here).goes };
        };
        caused = record { counted = o.caused.counted; there = o.caused.there };
        gave = o.gave;
        begins = o.begins;
        keeps = o.keeps;
        few = o.few;
        shown = o.shown;
        whole = λ settled whole. o.whole (settled-so settled) (whole-so whole);
        named = λ free settled. o.named free (rests-settled main start.main main_tells looked settled);
        images = λ tells settled of_sink. o.images tells (rests-settled main start.main main_tells looked settled) of_sink;
      }

      pub opened-before : (c : Cat) → Opened start now found c → Opened first_world now found c
      unfolding opens-before
      opened-before c o = record {
        opens = opens-before o.opens;
        all = o.all;
        text = o.text;
        begins_is = o.begins_is;
        begun = o.begun;
        stands = o.stands;
        settled = λ settled. o.settled (rests-settled main start.main main_tells looked settled);
        sink_settled = o.sink_settled;
        one = λ none. subst (λ (x : Text). HasOneMore x now.main.holds) (looked.holds main_tells) (o.one none);
        orphans = o.orphans;
      }

-- ---- what has run out

pub run_out : (found : Cat) (main spare : Text) (what : Wear) (place : ℕ) → HasWorn main what place → HasRunOut found main spare place what
run_out found main spare wear.Runs place w = absurd w
run_out found main spare wear.Vaults place w = (w.0, w.1 spare)
run_out found main spare wear.Log place w = w

-- before a run was begun
pub open_out : (found : Cat) (main_old main_new : DiskState) (spare : Text) (e : OpenError) (what : Wear) (place : ℕ) → unopened e ≡ status.Worn what place → IsTrue main_old.tells
    → OpenStops found main_old main_new e → HasRunOut found main_new.holds spare place what
open_out found main_old main_new spare (error.Runs at) what place is told stops =
    let whats : wear.Runs ≡ what = cc in
    let places : at ≡ place = cc in
    let W : Wear → Type 0 = λ w. HasRunOut found main_new.holds spare place w in
    let N : ℕ → Type 0 = λ n. HasRunOut found main_new.holds spare n wear.Runs in
    subst W whats (subst N places stops)
open_out found main_old main_new spare (error.Vaults at) what place is told stops =
    let whats : wear.Vaults ≡ what = cc in
    let places : at ≡ place = cc in
    let W : Wear → Type 0 = λ w. HasRunOut found main_new.holds spare place w in
    let N : ℕ → Type 0 = λ n. HasRunOut found main_new.holds spare n wear.Vaults in
    let stood = stops.2 told in
    subst W whats (subst N places (stops.1, record { cat = stood.0; stands = stood.1 spare; holds = stood.2 }))
open_out found main_old main_new spare (error.Log at) what place is told stops =
    let whats : wear.Log ≡ what = cc in
    let places : at ≡ place = cc in
    let W : Wear → Type 0 = λ w. HasRunOut found main_new.holds spare place w in
    let N : ℕ → Type 0 = λ n. HasRunOut found main_new.holds spare n wear.Log in
    let closes = stops.1 told in
    subst W whats (subst N places (stops.0, record { records = closes.records; log = closes.log; place_is = closes.place_is }))
open_out found main_old main_new spare error.Disk what place is told stops = absurd (cc is)
open_out found main_old main_new spare error.Sink what place is told stops = absurd (cc is)
open_out found main_old main_new spare error.Memory what place is told stops = absurd (cc is)

-- ---- how a run ends that was not opened

module _ {B : Type 0} (old now : World B) (found : Cat) (begin : BeginsOn old found) (opens : Opens old now found) (in_few : OpensInFew old now found) where
  ends_so : (x : RunEnd) → StopsSo old now found (begins opens.undone.opened.grid opens.undone.rules) [] x → IsGoodIfNoneFailed old now x → Serves old now found x
  ends_so x stops good = ends_before begin opens in_few stops good

  pub serves_unopened : (e : OpenError) (end : RunEnd) → run_end_of (unopened e) ≡ Some end → OpenStops found old.main now.main e
      → (e ≡ error.Disk → Rose old.main.faults now.main.faults) → (e ≡ error.Sink → Rose old.sink.faults now.sink.faults) → Serves old now found end
  serves_unopened (error.Runs place) end its stops cause sink_cause =
      let is : worn wear.Runs place ≡ end = cc in
      subst (λ (x : RunEnd). Serves old now found x) is (ends_so (worn wear.Runs place) (stops, refl) (λ none fits. tt))
  serves_unopened (error.Vaults place) end its stops cause sink_cause =
      let is : worn wear.Vaults place ≡ end = cc in
      let out = open_out found old.main now.main now.spare.holds (error.Vaults place) wear.Vaults place refl begin.main_tells stops in
      subst (λ (x : RunEnd). Serves old now found x) is (ends_so (worn wear.Vaults place) (out, inr stops.0) (λ none fits. tt))
  serves_unopened (error.Log place) end its stops cause sink_cause =
      let is : worn wear.Log place ≡ end = cc in
      let out = open_out found old.main now.main now.spare.holds (error.Log place) wear.Log place refl begin.main_tells stops in
      subst (λ (x : RunEnd). Serves old now found x) is (ends_so (worn wear.Log place) (out, tt) (λ none fits. tt))
  serves_unopened error.Disk end its stops cause sink_cause =
      let is : disk_failed ≡ end = cc in
      subst (λ (x : RunEnd). Serves old now found x) is (ends_so disk_failed tt (λ none fits. absurd (none.of_main (cause refl))))
  serves_unopened error.Sink end its stops cause sink_cause =
      let is : sink_failed ≡ end = cc in
      subst (λ (x : RunEnd). Serves old now found x) is (ends_so sink_failed tt (λ none fits. absurd (none.of_sink (sink_cause refl))))
  serves_unopened error.Memory end its stops cause sink_cause =
      let is : no_memory ≡ end = cc in
      subst (λ (x : RunEnd). Serves old now found x) is (ends_so no_memory tt (λ none fits. tt))

-- the numbers of stores that are named
pub stores_named : (kept handed had given m n : ℕ) (s : Status) → (s ≡ status.Stores kept handed) ⊎ (s ≡ status.Memory) ⊎ (s ≡ status.SinkFault) → s ≡ status.Stores had given → kept ≡ n → handed ≡ m → (kept ≡ handed → ⊥)
    → (had ≡ given → ⊥) × (given ≡ m) × (had ≡ n)
stores_named kept handed had given m n s (inl e) is kept_is handed_is other =
    let a : kept ≡ had = cc in
    let b : handed ≡ given = cc in
    (λ x. other (a ∙ x ∙ sym b), sym b ∙ handed_is, sym a ∙ kept_is)
stores_named kept handed had given m n s (inr (inl e)) is kept_is handed_is other = absurd (cc (e, is))
stores_named kept handed had given m n s (inr (inr e)) is kept_is handed_is other = absurd (cc (e, is))

-- no disk failed where a catalogue was refused
pub not_disk : (side : Side) (at : ℕ) (s : Status) → (s ≡ status.NotACatalogue side at) ⊎ (s ≡ status.Memory) ⊎ (s ≡ status.SinkFault) → s ≡ status.DiskFault → ⊥
not_disk side at s (inl e) is = cc (e, is)
not_disk side at s (inr (inl e)) is = cc (e, is)
not_disk side at s (inr (inr e)) is = cc (e, is)

module _ {D S K A P : Type 0} (v : Views D S K A P) (start : Around D S K A P) where
  -- over the catalogue that was found
  pub serves_held : (new : Around D S K A P) (held found : Cat) (end : RunEnd) → held ≡ found → BeginsOn (world_of v start) found
      → (BeginsOn (world_of v start) held → Serves (world_of v start) (world_of v new) held end) → Serves (world_of v start) (world_of v new) found end
  serves_held new held found end same begin serves =
      let B : Cat → Type 0 = λ c. BeginsOn (world_of v start) c in
      let S : Cat → Type 0 = λ c. Serves (world_of v start) (world_of v new) c end in
      subst S same (serves (subst B (sym same) begin))

  -- what was before the disks were looked at
  abbrev pub first : D → D → Around D S K A P
  first main spare = record start { outside = record start.outside { main = main; spare = spare } }

  module _ (main spare : D) (found : Cat) (begin : BeginsOn (world_of v (first main spare)) found) (order : AreInOrder (world_of v (first main spare)))
      (looked : Rests (v.disk main) (v.disk start.outside.main)) (spare_looked : Rests (v.disk spare) (v.disk start.outside.spare)) where
    pub order_now : AreInOrder (world_of v start)
    order_now = order-so (world_of v start) (v.disk main) (v.disk spare) looked spare_looked begin.main_tells begin.spare_tells found order

    pub begin_now : BeginsOn (world_of v start) found
    begin_now = begin-so (world_of v start) (v.disk main) (v.disk spare) looked spare_looked begin.main_tells begin.spare_tells found begin

    -- it was opened
    pub opens_now : (now : Around D S K A P) (begun : Cat) (rules : List Rule) → (o : Opened (world_of v start) (world_of v now) found begun)
        → OpensInFew (world_of v start) (world_of v now) found → o.opens.undone.rules ≡ rules → WasOpened v (first main spare) now found begun rules
    unfolding opened-before opens-before
    opens_now now begun rules o in_few rules_are = record {
      begin = begin;
      opened = opened-before (world_of v start) (v.disk main) (v.disk spare) looked spare_looked begin.main_tells begin.spare_tells found (world_of v now) begun o;
      few = in_few;
      rules_are = rules_are;
    }

    -- or not
    pub serves_not : (now : Around D S K A P) (e : OpenError) (end : RunEnd) → Opens (world_of v start) (world_of v now) found → OpensInFew (world_of v start) (world_of v now) found
        → run_end_of (unopened e) ≡ Some end
        → OpenStops found (v.disk start.outside.main) (v.disk now.outside.main) e → (e ≡ error.Disk → Rose (v.disk start.outside.main).faults (v.disk now.outside.main).faults)
        → (e ≡ error.Sink → Rose (v.sink start.sink).faults (v.sink now.sink).faults) → Serves (world_of v (first main spare)) (world_of v now) found end
    serves_not now e end o in_few its stops cause sink_cause =
        serves_unopened (world_of v (first main spare)) (world_of v now) found begin
        (opens-before (world_of v start) (v.disk main) (v.disk spare) looked spare_looked begin.main_tells begin.spare_tells found (world_of v now) o) in_few
        e end its (stops_first e stops) (λ d. (let rose = cause d in omega (arith, rose, looked.faults))) sink_cause
      where
        stops_first : (x : OpenError) → OpenStops found (v.disk start.outside.main) (v.disk now.outside.main) x → OpenStops found (v.disk main) (v.disk now.outside.main) x
        stops_first (error.Runs place) s = s
        stops_first (error.Vaults place) s = (s.0, s.1, λ told. s.2 (subst IsTrue (sym looked.tells) told))
        stops_first (error.Log place) s = (s.0, λ told. s.1 (subst IsTrue (sym looked.tells) told))
        stops_first error.Disk s = s
        stops_first error.Sink s = s
        stops_first error.Memory s = s

    -- nothing was called
    pub serves_still : (end : RunEnd) → run_end_of status.Memory ≡ Some end → Serves (world_of v (first main spare)) (world_of v start) found end
    serves_still end its =
        let r = rules_found (world_of v start) found begin_now in
        serves_not start error.Memory end (opens-still (world_of v start) found r.0 begin_now order_now r.1).0 (λ within. omega arith) its tt (λ e. cc e) (λ e. cc e)

  -- the disks were only looked at
  module _ (found : Cat) (main spare : D) (begin : BeginsOn (world_of v start) found) (order : AreInOrder (world_of v start)) (looked : Rests (v.disk start.outside.main) (v.disk main)) (same : spare ≡ start.outside.spare) where
    abbrev pub seen : Around D S K A P
    seen = record start { outside = record start.outside { main = main; spare = spare } }

    spare_looked : Rests (v.disk start.outside.spare) (v.disk spare)
    spare_looked = rests_where v.disk start.outside.spare spare same

    seen_begin : BeginsOn (world_of v seen) found
    seen_begin = begin-so (world_of v seen) (v.disk start.outside.main) (v.disk start.outside.spare) looked spare_looked begin.main_tells begin.spare_tells found begin

    seen_order : AreInOrder (world_of v seen)
    seen_order = order-so (world_of v seen) (v.disk start.outside.main) (v.disk start.outside.spare) looked spare_looked begin.main_tells begin.spare_tells found order

    opens_looked : Opens (world_of v start) (world_of v seen) found
    opens_looked =
        let r = rules_found (world_of v seen) found seen_begin in
        opens-before (world_of v seen) (v.disk start.outside.main) (v.disk start.outside.spare) looked spare_looked begin.main_tells begin.spare_tells found (world_of v seen)
        (opens-still (world_of v seen) found r.0 seen_begin seen_order r.1).0

    pub serves_looked_memory : (end : RunEnd) → run_end_of status.Memory ≡ Some end → Serves (world_of v start) (world_of v seen) found end
    serves_looked_memory end its = serves_unopened (world_of v start) (world_of v seen) found begin opens_looked (λ within. omega arith) error.Memory end its tt (λ e. cc e) (λ e. cc e)

    pub serves_looked_fault : (end : RunEnd) → run_end_of status.DiskFault ≡ Some end → Rose (v.disk start.outside.main).faults (v.disk main).faults
        → Serves (world_of v start) (world_of v seen) found end
    serves_looked_fault end its rose = serves_unopened (world_of v start) (world_of v seen) found begin opens_looked (λ within. omega arith) error.Disk end its tt (λ d. rose) (λ e. cc e)
