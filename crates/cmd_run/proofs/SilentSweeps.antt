-- What a sweep is of which nothing is said, in the world around it.
use Rattle.std.proofs.Common.{◌≡◌, inl, inr, None, Ok, IsTrue, refl, sym, ap, ◌∙◌, subst, arith}
use Rattle.std.specs.Prelude.{[], Result, ⊤, vec_len}
use Rattle.grid_outside.specs.Ambient.{AmbientState}
use Rattle.grid_outside.specs.Device.{DeviceState}
use Rattle.grid_outside.specs.Disk.{DiskState}
use Rattle.grid_outside.specs.Files.{StoreState}
use Rattle.grid_outside.specs.Sink.{SinkState}
use Rattle.grid_outside.specs.Source.{SourceState}
use Rattle.grid_outside.specs.declared.outside.Outside.{Outside}
use Rattle.grid_model.specs.Names.{Text}
use Rattle.grid_model.specs.Rows.{Cat}
use Rattle.grid_journal.specs.Stands.{Stands, stands as made_of, StandsEither, StandsFor}
use Rattle.grid_vault.specs.Removal.{FewerThanFaults}
use Rattle.grid_deed.specs.Frame.{Frame}
use Rattle.grid_deed.specs.Safe.{KeepWhole}
use Rattle.grid_deed.proofs.Frames.{goes_nowhere}
use Rattle.grid_deed.proofs.Keeping.{held_stands}
use Rattle.grid_deed.proofs.Wholes.{one_cat}
use Rattle.grid_headline.specs.Files.{KeepsReplicas, NamesCall}
use Rattle.grid_headline.specs.Worlds.{World}
use Rattle.run_laws.specs.Silent.{IsSwept, Sweeps}
use Rattle.run_laws.specs.Went.{AreInOrder, Rests, Went}
use Rattle.run_laws.specs.Around.{around}
use Rattle.cmd_run.specs.Sweeping.{StandsAsBefore, SweepsMain, orphan_files}
use Rattle.cmd_run.specs.declared.server.Ending.{Ending}
use Rattle.cmd_run.specs.declared.server.Server.{Server}
use Rattle.cmd_run.proofs.LeftOrphans.{few_orphans}
use Rattle.cmd_run.proofs.Resting.{gave_same}

rests_self : {C : Type 0} (s : DeviceState C) → Rests s s
rests_self s = record { faults = omega arith; tells = refl; last = refl; holds = λ told. refl; left = λ t image left. left }

-- what the disks stand for does not hang on spare
any_spare : {main spare : Text} {c : Cat} → Stands main spare (Ok c) → StandsFor main c
any_spare (made_of records c head log replays zone) spare = made_of records c head log replays zone

module _ {D A P : Type 0} (disk : D → DiskState) (ambient : A → AmbientState) (plugin : P → StoreState) (sink : SinkState) (source : SourceState)
    (o n : Outside D A P) where
  abbrev old : World P
  old = around disk ambient plugin o sink source

  abbrev new : World P
  new = around disk ambient plugin n sink source

  module _ (c : Cat) (failed : Type 0) (frame : Frame disk plugin failed o n) where
    went : Went old new
    went = record {
      drawn = frame.drawn;
      main = frame.main;
      sink = goes_nowhere o.moments sink;
      spare = (let P : D → Type 0 = λ d. Rests (disk o.spare) (disk d) in subst P (sym frame.spare) (rests_self (disk o.spare)));
      count = frame.stores.count;
      stores = λ slot before after was is. record { goes = frame.stores.later slot before after was is };
    }

    module _ (result : Result ⊤ Ending) (now : Cat) (swept : SweepsMain c o.moments (disk o.main) (disk n.main) result now) (order : AreInOrder old) where
      -- what main stands for then, of whichever catalogue this holds
      either : (P : Cat → Type 0) → P c → P swept.after → (main : Text) (d : Cat) → StandsEither c swept.after main → StandsFor main d → P d
      either P one other main d (inl before) stands = subst P (sym (one_cat main c d before stands)) one
      either P one other main d (inr behind) stands = subst P (sym (one_cat main swept.after d behind stands)) other

      -- such a sweep is one where what is left of main, of the files and of the devices is so
      pub sweeps : IsTrue (disk o.main).tells → c.pending ≡ None → KeepWhole plugin o.moments c (disk o.main) (disk n.main) o.stores.items n.stores.items
          → Sweeps old new c swept.after
      sweeps told none whole = record {
        order = order;
        went = went;
        like = swept.like;
        gives = swept.gives;
        sink = λ sink_told. refl;
        gave = gave_same disk ambient plugin source o n frame.ambient;
        images = λ main_told sink_told settled sink_settled t main left_sink late main_left sink_left. (
          swept.leaves main_told settled t main late main_left,
          sink_settled t left_sink (omega (arith, late, order.sink_last)) sink_left,
        );
        whole = λ settled was t main spare d late left its.
            let stood = any_spare its in
            let found = swept.leaves told settled.of_main t main late left.of_main in
            let kept = whole told settled.of_main (λ s past. (
            let w = was s past in
            record {
              rows = w.rows;
              files = λ slot store image is tells store_left. w.files slot image
                  (record { store = store; is = is; tells = tells; of_store = store_left });
            }
            )) t main d late left.of_main stood in
            let pending : d.pending ≡ None = either (λ x. x.pending ≡ None) none (swept.like.pending ∙ none) main d found stood in
            record {
              rows = kept.rows;
              call = subst NamesCall (sym pending) tt;
              files = λ slot image there. kept.files slot there.store image there.is there.tells there.of_store;
            };
        named = λ main_told settled t main d late left stands.
            either (λ x. KeepsReplicas c x) (λ slot name r its was. was) swept.keeps main d (swept.leaves main_told settled t main late left) stands;
      }

  -- and it was done where the server stands as before, and few orphans are left
  pub is_swept : (failed : Type 0) → Frame disk plugin failed o n → (before after : Server) → StandsAsBefore (disk o.main) (disk n.main) before after
      → before.store.cat.stores ≡ vec_len o.stores
      → FewerThanFaults plugin (orphan_files after.store.cat) o.stores.items n.stores.items → (before.store.cat.orphans ≡ [] → n.main ≡ o.main)
      → IsSwept old new before.store.cat after.store.cat
  is_swept failed frame before after its slots fewer still = record {
    stands = λ told. held_stands after.store.cat (disk n.main) after.store its.fits.held (subst IsTrue (sym frame.main.tells) told);
    few =
        few_orphans disk ambient plugin sink sink source o n before.store.cat after.store.cat frame.stores.count slots its.like.stores its.fits.held.made fewer;
    still = λ none told. ap (λ m. (disk m).holds) (still none);
    main_settled = its.settled;
    sink_settled = λ told settled. settled;
  }
