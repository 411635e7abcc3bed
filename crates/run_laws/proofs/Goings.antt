-- Calls of all devices, one after another.
use Rattle.std.proofs.Common.{◌≡◌, ℕ, ◌<◌, ◌≤◌, slice_get, Option, Some, None, inl, inr, refl, sym, ap, ◌∙◌, subst, arith, IsTrue}
use Rattle.std.specs.Prelude.{◌⊎◌}
use Rattle.std.specs.Option.{option_map_or}
use Rattle.std.proofs.lemmas.Bool.{cases_lt}
use Rattle.std.proofs.lemmas.Option.{slice_get_within}
use Rattle.grid_outside.specs.Device.{DeviceState, IsSettled}
use Rattle.grid_outside.specs.Files.{Files}
use Rattle.grid_outside.proofs.Spans.{at_place}
use Rattle.grid_model.specs.Names.{Text}
use Rattle.grid_model.specs.Rows.{Cat}
use Rattle.grid_deed.specs.Frame.{Goes}
use Rattle.grid_journal.specs.Stands.{StandsFor}
use Rattle.grid_headline.specs.Worlds.{World, LeavesFiles, LeavesDisks, StoreTells, faults_of}
use Rattle.grid_headline.specs.Files.{DisksAreSettled, WereWhole, AllStayWhole, AllAreWhole, IsKnown}
use Rattle.run_laws.specs.Went.{StoresRest, Rests, Went, AreInOrder}

pub goes-then : {C : Type 0} (from to : ℕ) (old mid new : DeviceState C) → from ≤ to → Goes from old mid → Goes to mid new → Goes from old new
goes-then from to old mid new le first then = record {
  faults = omega (arith, first.faults, then.faults);
  tells = then.tells ∙ first.tells;
  earlier = λ t image before left. first.earlier t image before (then.earlier t image (omega (arith, before, le)) left);
}

pub rests-then : {C : Type 0} (old mid new : DeviceState C) → Rests old mid → Rests mid new → Rests old new
rests-then old mid new first then = record {
  faults = omega (arith, first.faults, then.faults);
  tells = then.tells ∙ first.tells;
  last = then.last ∙ first.last;
  holds = λ tells. then.holds (subst IsTrue (sym first.tells) tells) ∙ first.holds tells;
  left = λ t image left. first.left t image (then.left t image left);
}

pub rests-settled : {C : Type 0} (old new : DeviceState C) → IsTrue old.tells → Rests old new → IsSettled old → IsSettled new
rests-settled old new tells rests settled t image late left =
    settled t image (omega (arith, late, rests.last)) (rests.left t image left) ∙ sym (rests.holds tells)

module _ {B : Type 0} (old mid : World B) (first : Went old mid) where
  -- the store in a slot, afterwards and before
  pub store-after : (slot : ℕ) (before : B) → slice_get old.stores slot ≡ Some before → (after : B) × (slice_get mid.stores slot ≡ Some after)
  store-after slot before is = at_place mid.stores slot (omega (arith, slice_get_within old.stores slot before is, first.count))

  pub store-before : (slot : ℕ) (after : B) → slice_get mid.stores slot ≡ Some after → (before : B) × (slice_get old.stores slot ≡ Some before)
  store-before slot after is = at_place old.stores slot (omega (arith, slice_get_within mid.stores slot after is, first.count))

  -- no count of faults fell
  pub faults-rise : (slot : ℕ) → faults_of old slot ≤ faults_of mid slot
  faults-rise slot = by (slice_get old.stores slot) refl
    where
      by : (o : Option B) → slice_get old.stores slot ≡ o → option_map_or (λ store. (old.plugin store).faults) o 0 ≤ faults_of mid slot
      by None e = omega arith
      by (Some before) e =
          let a = store-after slot before e in
          let counted : faults_of mid slot ≡ (mid.plugin a.0).faults = ap (λ (o : Option B). option_map_or (λ store. (mid.plugin store).faults) o 0) a.1 in
          omega (arith, counted, (first.stores slot before a.0 e a.1).goes.faults)

  -- a store that tells told before, and the other way round
  pub tells-after : (slot : ℕ) → StoreTells old slot → StoreTells mid slot
  tells-after slot t =
      let a = store-after slot t.store t.is in
      record { store = a.0; is = a.1; tells = subst IsTrue (sym (first.stores slot t.store a.0 t.is a.1).goes.tells) t.tells }

  -- what a stop leaves at an earlier moment it left before
  pub files-before : (t slot : ℕ) (files : Files) → t ≤ old.moments → LeavesFiles mid t slot files → LeavesFiles old t slot files
  files-before t slot files early left =
      let b = store-before slot left.store left.is in
      let g = (first.stores slot b.0 left.store b.1 left.is).goes in
      record { store = b.0; is = b.1; tells = subst IsTrue g.tells left.tells; of_store = g.earlier t files early left.of_store }

  pub disks-before : (t : ℕ) (main spare : Text) → t ≤ old.moments → LeavesDisks mid t main spare → LeavesDisks old t main spare
  disks-before t main spare early left = record { of_main = first.main.earlier t main early left.of_main; of_spare = first.spare.left t spare left.of_spare }

  -- nothing is pending on the disks
  pub disks-settled : IsTrue old.spare.tells → (IsSettled old.main → IsSettled mid.main) → DisksAreSettled old → DisksAreSettled mid
  disks-settled tells main settled = record { of_main = main settled.of_main; of_spare = rests-settled old.spare mid.spare tells first.spare settled.of_spare }

  module _ (main_tells : IsTrue old.main.tells) (spare_tells : IsTrue old.spare.tells) (order : AreInOrder mid) where
    -- where all stays whole it is so by the catalogue that main stands for
    pub whole-now : (c : Cat) (since : ℕ) → since ≤ mid.moments → StandsFor mid.main.holds c → AllStayWhole mid since → WereWhole mid mid.moments c
    whole-now c since le stands stay t late = stay t mid.main.holds mid.spare.holds c (omega (arith, le, late))
        (record {
          of_main = mid.main.now (subst IsTrue (sym first.main.tells) main_tells) t (omega (arith, order.main_last, late));
          of_spare = mid.spare.now (subst IsTrue (sym first.spare.tells) spare_tells) t (omega (arith, order.spare_last, late));
        })
        (stands mid.spare.holds)

    -- the files that were known are known by what came of them
    pub known-now : (found c : Cat) → (IsSettled old.main → IsSettled mid.main) → StandsFor mid.main.holds c
        → (DisksAreSettled old → WereWhole old old.moments found → AllStayWhole mid old.moments) → (slot : ℕ) → IsKnown old found slot → IsKnown mid c slot
    known-now found c main stands stay slot known = record {
      main = subst IsTrue (sym first.main.tells) main_tells;
      settled = disks-settled spare_tells main known.settled;
      whole = whole-now c old.moments first.drawn stands (stay known.settled known.whole);
      there = tells-after slot known.there;
    }

pub went-then : {B : Type 0} (old mid new : World B) → Went old mid → Went mid new → Went old new
went-then old mid new first then = record {
  drawn = omega (arith, first.drawn, then.drawn);
  main = goes-then old.moments mid.moments old.main mid.main new.main first.drawn first.main then.main;
  sink = goes-then old.moments mid.moments old.sink mid.sink new.sink first.drawn first.sink then.sink;
  spare = rests-then old.spare mid.spare new.spare first.spare then.spare;
  count = then.count ∙ first.count;
  stores = λ slot before after was is.
      let m = store-after old mid first slot before was in
      record {
        goes = goes-then old.moments mid.moments (old.plugin before) (mid.plugin m.0) (new.plugin after) first.drawn
            (first.stores slot before m.0 was m.1).goes (then.stores slot m.0 after m.1 is).goes;
      };
}

-- all stays whole where it did, and does from there on
pub whole-then : {B : Type 0} (old mid new : World B) → Went old mid → Went mid new → AllStayWhole mid old.moments → AllStayWhole new mid.moments
    → AllStayWhole new old.moments
whole-then old mid new first then before stay t main spare c late left its = by_time t late left (cases_lt mid.moments t)
  where
    by_time : (t : ℕ) → old.moments < t → LeavesDisks new t main spare → (mid.moments < t) ⊎ (t ≤ mid.moments) → AllAreWhole new t c
    by_time t late left (inl later) = stay t main spare c later left its
    by_time t late left (inr early) =
        let was = before t main spare c late (disks-before mid new then t main spare early left) its in
        record { rows = was.rows; call = was.call; files = λ slot files found. was.files slot files (files-before mid new then t slot files early found) }

-- a stop leaves nothing of stores that were not called but what it left before
pub files-rest : {B : Type 0} (old new : World B) → Went old new → StoresRest old new → (t slot : ℕ) (files : Files) → LeavesFiles new t slot files
    → LeavesFiles old t slot files
files-rest old new went rest t slot files left =
    let b = store-before old new went slot left.store left.is in
    let r = rest slot b.0 left.store b.1 left.is in
    record { store = b.0; is = b.1; tells = subst IsTrue r.tells left.tells; of_store = r.left t files left.of_store }
