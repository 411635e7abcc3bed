-- The carrying out of a plan that writes files, for a command that is noted.
use Rattle.std.proofs.Common.{◌≡◌, ◌≢◌, ℕ, ◌<◌, ◌≤◌, Option, None, Some, Ok, Err, IsTrue, refl, sym, ap, ◌∙◌, subst, arith}
use Rattle.std.specs.Prelude.{List}
use Rattle.grid_outside.specs.Device.{IsSettled}
use Rattle.grid_outside.specs.Disk.{DiskState}
use Rattle.grid_outside.specs.Files.{StoreState}
use Rattle.grid_outside.specs.Sink.{SinkState}
use Rattle.grid_outside.specs.declared.outside.Outside.{Outside}
use Rattle.grid_model.specs.Names.{Text}
use Rattle.grid_model.specs.Rows.{Cat}
use Rattle.grid_model.specs.Applying.{apply_all}
use Rattle.grid_model.specs.declared.plans.Plan.{Plan}
use Rattle.grid_journal.specs.Journal.{Journal}
use Rattle.grid_vault.specs.declared.fault.Fault.{Fault}
use Rattle.file_laws.specs.Plans.{IsPlan}
use Rattle.grid_deed.specs.Frame.{Frame}
use Rattle.grid_deed.specs.Held.{IsHeld, IsKept, IsStaged}
use Rattle.grid_deed.specs.Safe.{AreWhole, KeepWhole, KeepBothWhole}
use Rattle.grid_deed.proofs.Keeping.{held_stands}
use Rattle.grid_deed.proofs.Wholes.{keep_more, whole_as, whole_turned_none}
use Rattle.run_laws.specs.Passes.{Seen}
use Rattle.service_run.specs.declared.ending.Ending.{Ending}
use Rattle.service_run.specs.declared.ending.Ending.TheVariants as ending
use Rattle.service_run.specs.Noting.{IsNotedSo, NoteLeaves}
use Rattle.deed_run.specs.Written.{IsWrittenNoted, WriteSays}

module _ {D A P K : Type 0} (disk : D → DiskState) (plugin : P → StoreState) (sink : K → SinkState) {cat : Cat} {stores : ℕ} {plan : Plan} {body : Text} (p : IsPlan cat cat stores plan body) (text : Text) (kept : Cat) where
  -- the first changes were not kept, or the text was not told
  pub write_failed : (o n : Outside D A P) (k l : K) (e : Ending) (new : Journal) → IsNotedSo (disk o.main) (disk n.main) (sink k) (sink l) kept p.mid o.moments text (Err e) new
      → IsWrittenNoted disk plugin sink p text (record { outside = o; sink = k }) (record { outside = n; sink = l }) kept (Err e) new
  write_failed o n k l e new noted = record { ends = noted.ends; leaves = noted.leaves }

  module _ (o m n : Outside D A P) (k l : K) (sm : Journal) (noted : IsNotedSo (disk o.main) (disk m.main) (sink k) (sink l) kept p.mid o.moments text (Ok tt) sm) (main_same : n.main ≡ m.main) where
    abbrev old : Seen D A P K
    old = record { outside = o; sink = k }

    abbrev new : Seen D A P K
    new = record { outside = n; sink = l }

    kept_mid : IsKept p.mid (disk o.main) (disk m.main) sm
    kept_mid = noted.ends.main

    leaves_on : NoteLeaves (disk o.main) (disk n.main) (sink k) (sink l) kept p.mid o.moments text
    leaves_on = let L : D → Type 0 = λ x. NoteLeaves (disk o.main) (disk x) (sink k) (sink l) kept p.mid o.moments text in subst L (sym main_same) noted.leaves

    -- memory ran out behind that
    pub write_cut : (sn : Journal) → IsWrittenNoted disk plugin sink p text old new kept (Err ending.Memory) sn
    write_cut sn = record { ends = tt; leaves = leaves_on }

    -- main has the catalogue with the first changes still
    pub held_on : IsHeld p.mid (disk n.main) sm
    held_on = let H : D → Type 0 = λ x. IsHeld p.mid (disk x) sm in subst H (sym main_same) kept_mid.held

    -- and the last changes may be made of the rows
    pub last_applied : apply_all sm.cat plan.after ≡ Ok p.end
    last_applied = let L : Cat → Type 0 = λ c. apply_all c plan.after ≡ Ok p.end in subst L (sym kept_mid.cat) p.then

    -- ---- the files were written

    module _ (items_same : m.stores.items ≡ o.stores.items) (drawn : o.moments ≤ m.moments) (main_last : (disk m.main).last ≤ m.moments) (tells : (disk m.main).tells ≡ (disk o.main).tells) (frame : Frame disk plugin ⊥ m n)
        (whole : KeepWhole plugin m.moments p.mid (disk m.main) (disk n.main) m.stores.items n.stores.items) where
      told_mid : IsTrue (disk o.main).tells → IsTrue (disk m.main).tells
      told_mid told = subst IsTrue (sym tells) told

      -- all is as whole by the rows with the first changes
      whole_mid : ((t : ℕ) → o.moments < t → AreWhole plugin t cat o.stores.items) → IsTrue (disk o.main).tells → (t : ℕ) → n.moments < t → AreWhole plugin t p.mid n.stores.items
      whole_mid by_memory told t late =
          let L : D → Type 0 = λ x. (disk x).left t (disk m.main).holds in
          let past : m.moments < t = omega (arith, frame.drawn, late) in
          whole (told_mid told) (kept_mid.settled told)
          (λ u after. whole_turned_none plugin u cat p.mid m.stores.items p.begins (whole_as plugin u cat o.stores.items m.stores.items items_same (by_memory u (omega (arith, drawn, after)))))
          t (disk m.main).holds p.mid past (subst L (sym main_same) ((disk m.main).now (told_mid told) t (omega (arith, main_last, past)))) (held_stands p.mid (disk m.main) sm kept_mid.held (told_mid told))

      settled_on : IsTrue (disk o.main).tells → IsSettled (disk n.main)
      settled_on told = let S : D → Type 0 = λ x. IsSettled (disk x) in subst S (sym main_same) (kept_mid.settled told)

      says_since : (answer : Option Fault) → WriteSays plugin plan.files m.stores.items n.stores.items answer → WriteSays plugin plan.files o.stores.items n.stores.items answer
      says_since answer says = let C : List P → Type 0 = λ s. WriteSays plugin plan.files s n.stores.items answer in subst C items_same says

      pub write_staged : (answer : Option Fault) (sn : Journal) → WriteSays plugin plan.files m.stores.items n.stores.items answer
          → (answer ≡ None → IsStaged p.mid p.end (disk n.main) sn) → (answer ≢ None → sn ≡ sm)
          → (answer ≡ None → (t : ℕ) → n.moments < t → AreWhole plugin t p.mid n.stores.items → AreWhole plugin t p.end n.stores.items)
          → IsWrittenNoted disk plugin sink p text old new kept (Ok answer) sn
      write_staged None sn says staged other made =
          let s = staged refl in
          record {
            ends = record {
              held = s.held;
              cat_is = s.cat;
              settled = settled_on;
              told = noted.ends.sink;
              sink_settled = noted.ends.sink_settled;
              says = says_since None says;
              whole = λ by_memory told t late. (let W : Cat → Type 0 = λ c. AreWhole plugin t c n.stores.items in subst W (sym s.cat) (made refl t late (whole_mid by_memory told t late)));
            };
            leaves = leaves_on;
          }
      write_staged (Some fault) sn says staged other made =
          let same = other (λ e. cc) in
          let H : Journal → Type 0 = λ j. IsHeld p.mid (disk n.main) j in
          let cat_is : sn.cat ≡ p.mid = ap (λ (j : Journal). j.cat) same ∙ kept_mid.cat in
          record {
            ends = record {
              held = subst H (sym same) held_on;
              cat_is = cat_is;
              settled = settled_on;
              told = noted.ends.sink;
              sink_settled = noted.ends.sink_settled;
              says = says_since (Some fault) says;
              whole = λ by_memory told t late. (let W : Cat → Type 0 = λ c. AreWhole plugin t c n.stores.items in subst W (sym cat_is) (whole_mid by_memory told t late));
            };
            leaves = leaves_on;
          }

      -- what stays whole at each moment
      pub write_whole : KeepBothWhole plugin o.moments kept cat (disk o.main) (disk m.main) o.stores.items m.stores.items → KeepBothWhole plugin o.moments kept cat (disk o.main) (disk n.main) o.stores.items n.stores.items
      write_whole first by_memory =
          keep_more plugin o.moments m.moments kept p.mid sm (disk o.main) (disk m.main) (disk n.main) o.stores.items m.stores.items n.stores.items
          drawn tells (λ told settled. kept_mid.settled told) kept_mid.held main_last frame.main frame.stores (first by_memory) whole
