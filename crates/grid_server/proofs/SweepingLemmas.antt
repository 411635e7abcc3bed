-- The sweep behind the opening of a run, and how the run goes on from it.
use Rattle.std.proofs.Common.{◌≡◌, ℕ, ◌+◌, ◌^◌, ◌<◌, List, [], ◌∷◌, suc, refl, sym, ap, ◌∙◌, subst, arith, IsTrue, ◌≤◌}
use Rattle.std.specs.Prelude.{Option, Some, None, Result, ⊤, vec_len, Err}
use Rattle.grid_outside.specs.Disk.{DiskState}
use Rattle.grid_outside.specs.Fault.{Rose}
use Rattle.grid_outside.specs.declared.outside.Outside.{Outside}
use Rattle.grid_outside.specs.declared.outside.Wear.{Wear}
use Rattle.grid_outside.specs.declared.outside.Wear.TheVariants as wear
use Rattle.grid_model.specs.Beginning.{begins}
use Rattle.grid_model.specs.Maps.{empty}
use Rattle.grid_model.specs.Grid.{Grid}
use Rattle.grid_model.specs.Names.{Text}
use Rattle.grid_model.specs.Rows.{Cat}
use Rattle.grid_model.specs.RowGrids.{grid_of, user_name}
use Rattle.grid_model.specs.RuleText.{Rule}
use Rattle.grid_model.specs.Sessions.{State}
use Rattle.sess.specs.Places.{Places, at, sessions_from, with_place}
use Rattle.sess.specs.declared.sessions.Session.{Session}
use Rattle.grid_journal.specs.Journal.{ClosesAt}
use Rattle.grid_deed.specs.Frame.{Frame}
use Rattle.grid_deed.specs.Safe.{KeepWhole}
use Rattle.grid_deed.proofs.Frames.{goes_nowhere}
use Rattle.grid_headline.specs.Ends.{RunEnd, worn, no_memory, disk_failed}
use Rattle.grid_headline.specs.Headline.{Serves}
use Rattle.run_laws.specs.declared.around.Around.{Around}
use Rattle.run_laws.specs.Silent.{Sweeps}
use Rattle.run_laws.specs.Sofar.{Sofar}
use Rattle.run_laws.specs.Went.{AreInOrder}
use Rattle.run_laws.proofs.RunLaws.{none_yet, ends_swept}
use Rattle.chain_core.specs.Seen.{rules_of}
use Rattle.cmd_run.specs.Fits.{state_by, state_of}
use Rattle.cmd_run.specs.Sweeping.{StandsAsBefore, SweepsMain, orphan_files}
use Rattle.cmd_run.proofs.SilentSweeps.{is_swept, sweeps}
use Rattle.grid_vault.specs.Removal.{FewerThanFaults}
use Rattle.cmd_run.specs.declared.server.Server.{Server}
use Rattle.cmd_run.specs.declared.server.Ending.{Ending}
use Rattle.cmd_run.specs.declared.server.Ending.TheVariants as ending
use Rattle.grid_server.specs.RunEnds.{run_end_of}
use Rattle.grid_server.specs.Serving.{EndsBegun, IsBegun, WasOpened, before}
use Rattle.grid_server.specs.Turning.{status_of}
use Rattle.grid_server.specs.Views.{Views, PassesOn, world_of}
use Rattle.grid_server.specs.Wearing.{HasWorn}
use Rattle.grid_server.specs.declared.status.Status.TheVariants as status
use Rattle.run_laws.specs.Moments.{SweepsInFew}

-- nobody is logged in
sessions_none : (names : ℕ → Text) (n : ℕ) (places : Places) → ((k : ℕ) → at places k ≡ None) → sessions_from names n places ≡ empty
sessions_none names n [] none = refl
sessions_none names n (x ∷ xs) none =
    ap (λ (o : Option Session). with_place names n o (sessions_from names (n + 1) xs)) (none 0) ∙ sessions_none names (n + 1) xs (λ k. none (suc k))

state_none : (c : Cat) (g : Grid) (rules began_rules : List Rule) (places : Places) → grid_of c ≡ g → began_rules ≡ rules → ((k : ℕ) → at places k ≡ None)
    → state_by c rules places ≡ begins g began_rules
state_none c g rules began_rules places grid rules_are none = λ i. record {
  grid = grid i;
  rules = sym rules_are i;
  sessions = sessions_none (user_name c) 0 places none i;
}

-- a run ends in the sweep so
pub ends_begun : (e : Ending) → EndsBegun (status_of e)
ends_begun ending.Disk = tt
ends_begun ending.Sink = tt
ends_begun ending.Memory = tt
ends_begun (ending.Worn what place) = tt

-- ---- the status of a run that ends in the sweep

pub disk_of : (e : Ending) → status_of e ≡ status.DiskFault → e ≡ ending.Disk
disk_of ending.Disk is = refl
disk_of ending.Sink is = absurd (cc is)
disk_of ending.Memory is = absurd (cc is)
disk_of (ending.Worn what place) is = absurd (cc is)

pub sink_of : (e : Ending) → status_of e ≡ status.SinkFault → e ≡ ending.Sink
sink_of ending.Disk is = absurd (cc is)
sink_of ending.Sink is = refl
sink_of ending.Memory is = absurd (cc is)
sink_of (ending.Worn what place) is = absurd (cc is)

pub worn_of : (e : Ending) (what : Wear) (place : ℕ) → status_of e ≡ status.Worn what place → e ≡ ending.Worn what place
worn_of ending.Disk what place is = absurd (cc is)
worn_of ending.Sink what place is = absurd (cc is)
worn_of ending.Memory what place is = absurd (cc is)
worn_of (ending.Worn other at) what place is = cc is

pub not_source : (e : Ending) → status_of e ≡ status.SourceFault → ⊥
not_source ending.Disk is = cc is
not_source ending.Sink is = cc is
not_source ending.Memory is = cc is
not_source (ending.Worn what place) is = cc is

-- an error is one alone
pub ended_as : (e f : Ending) → ◌≡◌ {A = Result ⊤ Ending} (Err e) (Err f) → e ≡ f
ended_as e f is = cc is

-- numbers of vault files are no room
pub not_vaults : wear.Vaults ≡ wear.Log → ⊥
not_vaults is = cc is

-- the room behind the log
pub worn_swept : (old new : DiskState) (what : Wear) (place : ℕ) → (what ≡ wear.Log) × (2 ^ 62 < place) × (IsTrue old.tells → ClosesAt new.holds place) → IsTrue old.tells
    → HasWorn new.holds what place
worn_swept old new wear.Log place its told = (its.1, its.2 told)
worn_swept old new wear.Runs place its told = absurd (cc its.0)
worn_swept old new wear.Vaults place its told = absurd (cc its.0)

module _ {D S K A P : Type 0} (v : Views D S K A P) (start : Around D S K A P) (swept : Outside D A P) (was : Server) (order : AreInOrder (world_of v start)) (failed : Type 0)
    (frame : Frame v.disk v.plugin failed start.outside swept) where
  -- all that is around the run behind the sweep
  abbrev pub behind : Around D S K A P
  behind = record start { outside = swept }

  -- the calls of a sweep, as calls of all devices but the source
  pub passes_swept : PassesOn v failed ⊥ start behind
  passes_swept = record {
    frame = record {
      drawn = frame.drawn;
      main_last = frame.main_last;
      stores_last = frame.stores_last;
      main = frame.main;
      stores = frame.stores;
      spare = frame.spare;
      ambient = refl;
      cause = frame.cause;
      in_room = frame.in_room;
    };
    sink_last = λ last. omega (arith, last, frame.drawn);
    goes = goes_nowhere start.outside.moments (v.sink start.sink);
    sink_cause = λ f. absurd f;
  }

  module _ (whole : KeepWhole v.plugin start.outside.moments was.store.cat (v.disk start.outside.main) (v.disk swept.main) start.outside.stores.items swept.stores.items)
      (result : Result ⊤ Ending) (left : Cat)
      (leaves : SweepsMain was.store.cat start.outside.moments (v.disk start.outside.main) (v.disk swept.main) result left)
      (in_few : swept.moments ≤ start.outside.moments + 2 ^ 33)
      (none : was.store.cat.pending ≡ None) where
    module _ (e : Around D S K A P) (found : Cat) (opened : WasOpened v (before v e start) start found was.store.cat (rules_of was.rules)) where
      abbrev old : Around D S K A P
      old = before v e start

      swept_few : SweepsInFew (world_of v start) (world_of v behind)
      swept_few = omega (arith, in_few)

      told : IsTrue (v.disk start.outside.main).tells
      told = subst IsTrue (sym opened.opened.opens.went.main.tells) opened.begin.main_tells

      sweeps_begun : Sweeps (world_of v start) (world_of v behind) was.store.cat leaves.after
      sweeps_begun =
          sweeps v.disk v.ambient v.plugin (v.sink start.sink) (v.source start.source) start.outside swept was.store.cat failed frame result left leaves order
          told none whole

      -- the run is begun
      pub begun_by : (now : Server) → leaves.after ≡ now.store.cat → StandsAsBefore (v.disk start.outside.main) (v.disk swept.main) was now
          → ((n : ℕ) → at was.sessions n ≡ None) → was.store.cat.stores ≡ vec_len start.outside.stores
          → FewerThanFaults v.plugin (orphan_files now.store.cat) start.outside.stores.items swept.stores.items
          → (was.store.cat.orphans ≡ [] → swept.main ≡ start.outside.main)
          → IsBegun v (before v e behind) behind found now
      begun_by now is_now stands nobody slots fewer still =
          let done = is_swept v.disk v.ambient v.plugin (v.sink start.sink) (v.source start.source) start.outside swept failed frame was now stands slots fewer still in
          let grid = opened.opened.opens.undone.opened.grid in
          let rules = opened.opened.opens.undone.rules in
          let state : state_of now ≡ begins grid rules =
          stands.state ∙ state_none was.store.cat grid (rules_of was.rules) rules was.sessions opened.opened.begun.grid opened.rules_are nobody in
          record {
            begin = opened.begin;
            so = subst (λ (s : State). Sofar (world_of v old) (world_of v behind) found now.store.cat s []) (sym state)
                (none_yet opened.begin opened.opened opened.few (subst (Sweeps (world_of v start) (world_of v behind) was.store.cat) is_now sweeps_begun) swept_few done);
          }

      -- something ran out or failed in it
      pub serves_swept : (x : Ending) (end : RunEnd) → run_end_of (status_of x) ≡ Some end → (x ≡ ending.Disk → Rose (v.disk start.outside.main).faults (v.disk swept.main).faults)
          → (x ≡ ending.Sink → ⊥)
          → ((what : Wear) (place : ℕ) → x ≡ ending.Worn what place → IsTrue (v.disk start.outside.main).tells → HasWorn (v.disk swept.main).holds what place)
          → ((place : ℕ) → x ≡ ending.Worn wear.Vaults place → ⊥)
          → Serves (world_of v old) (world_of v behind) found end
      serves_swept ending.Memory end its disk sink wears vaults =
          let is : no_memory ≡ end = cc in
          let S : RunEnd → Type 0 = λ y. Serves (world_of v old) (world_of v behind) found y in
          subst S is (ends_swept opened.begin opened.opened opened.few sweeps_begun swept_few tt (λ none fits. tt))
      serves_swept ending.Disk end its disk sink wears vaults =
          let is : disk_failed ≡ end = cc in
          let S : RunEnd → Type 0 = λ y. Serves (world_of v old) (world_of v behind) found y in
          subst S is (ends_swept opened.begin opened.opened opened.few sweeps_begun swept_few tt
          (λ none fits. absurd (none.of_main (let rose = disk refl in omega (arith, rose, opened.opened.opens.went.main.faults)))))
      serves_swept ending.Sink end its disk sink wears vaults = absurd (sink refl)
      serves_swept (ending.Worn wear.Runs place) end its disk sink wears vaults = absurd (wears wear.Runs place refl told)
      serves_swept (ending.Worn wear.Vaults place) end its disk sink wears vaults = absurd (vaults place refl)
      serves_swept (ending.Worn wear.Log place) end its disk sink wears vaults =
          let is : worn wear.Log place ≡ end = cc in
          let S : RunEnd → Type 0 = λ y. Serves (world_of v old) (world_of v behind) found y in
          let w = wears wear.Log place refl told in
          subst S is (ends_swept opened.begin opened.opened opened.few sweeps_begun swept_few
          ((w.0, record { records = w.1.records; log = w.1.log; place_is = w.1.place_is }), tt) (λ none fits. tt))
