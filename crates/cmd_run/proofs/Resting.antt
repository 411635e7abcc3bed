-- Devices that were not called, and marks that were not told.
use Rattle.std.proofs.Common.{◌≡◌, ℕ, ◌+◌, ◌<◌, ◌≤◌, List, [], IsTrue, sym, ap, subst, arith, append-nil}
use Rattle.grid_outside.specs.Ambient.{AmbientState}
use Rattle.grid_outside.specs.Device.{IsSettled}
use Rattle.grid_outside.specs.Disk.{DiskState}
use Rattle.grid_outside.specs.Files.{StoreState}
use Rattle.grid_outside.specs.Source.{SourceState}
use Rattle.grid_outside.specs.Sink.{SinkState, AddsPart}
use Rattle.grid_outside.specs.declared.outside.Outside.{Outside}
use Rattle.grid_model.specs.Names.{Text}
use Rattle.grid_model.specs.Rows.{Cat}
use Rattle.grid_journal.specs.Stands.{StandsFor}
use Rattle.grid_headline.specs.Worlds.{World, faults_of}
use Rattle.grid_headline.specs.Causes.{AreCaused}
use Rattle.grid_headline.specs.Draws.{none as no_words}
use Rattle.run_laws.specs.Steps.{Gave}
use Rattle.run_laws.specs.Around.{around}

-- the ambient was not asked
pub gave_none : (ambient : AmbientState) → IsTrue ambient.tells → Gave [] ambient ambient
gave_none ambient told = record {
  told = told;
  words = [];
  words_are = sym (append-nil ambient.words);
  words_told = no_words;
  times = [];
  times_are = sym (append-nil ambient.times);
  times_told = no_words;
}

module _ {D A P : Type 0} (disk : D → DiskState) (ambient : A → AmbientState) (plugin : P → StoreState) (source : SourceState) where
  pub gave_same : (o n : Outside D A P) → n.ambient ≡ o.ambient → IsTrue (ambient n.ambient).tells → Gave [] (ambient o.ambient) (ambient n.ambient)
  gave_same o n same told =
      let P : A → Type 0 = λ a. IsTrue (ambient a).tells → Gave [] (ambient o.ambient) (ambient a) in
      subst P (sym same) (λ t. gave_none (ambient o.ambient) t) told

  -- no store was called
  pub caused_same : (o n : Outside D A P) (from to : SinkState) → n.stores ≡ o.stores
      → AreCaused (around disk ambient plugin o from source) (around disk ambient plugin n to source) []
  caused_same o n from to same =
      let old : World P = around disk ambient plugin o from source in
      record {
        counted = λ slot less. (
            let Q : List P → Type 0 = λ xs. faults_of old slot + 0 ≤ faults_of (record old { stores = xs }) slot in
            subst Q (sym (ap (λ v. v.items) same)) (omega arith)
            );
        there = λ slot told. absurd (omega (arith, told));
      }

-- ---- images of devices on which nothing is pending

-- a disk that was not called since, whose bytes stand for a catalogue
pub stands_still : {D : Type 0} (disk : D → DiskState) (a b : D) (c : Cat) (from t : ℕ) (image : Text) → b ≡ a → (disk a).last ≤ from → from < t
    → IsSettled (disk a) → StandsFor (disk a).holds c → (disk b).left t image → StandsFor image c
stands_still disk a b c from t image same last late settled stood left =
    let L : _ → Type 0 = λ d. (disk d).left t image in
    let S : Text → Type 0 = λ x. StandsFor x c in
    subst S (sym (settled t image (omega (arith, last, late)) (subst L same left))) stood

-- nothing of a text
abbrev pub none_of : (text old : Text) → AddsPart text old old
none_of text old = record { count = 0; within = omega arith; is = sym (append-nil old) }
