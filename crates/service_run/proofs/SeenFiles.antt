-- What looking at the files of an object gives.
use Rattle.std.proofs.Common.{◌≡◌, take, ℕ, zero, suc, ◌+◌, ◌<◌, ◌≤◌, List, [], ◌∷◌, ◌++◌, length, slice_get, None, Some, IsTrue, refl, sym, ap, subst, arith}
use Rattle.std.specs.Prelude.{All}
use Rattle.std.specs.List.{AllByRecursion}
use Rattle.std.proofs.lemmas.Option.{slice_get_within}
use Rattle.grid_outside.specs.Device.{EachMember, EachPair, Looks}
use Rattle.grid_outside.specs.Files.{Files, StoreState}
use Rattle.grid_outside.proofs.Spans.{at_place, same_place}
use Rattle.grid_model.specs.Grid.{Replica}
use Rattle.grid_model.specs.Rows.{Cat}
use Rattle.grid_model.specs.declared.marks.BadReplica.{BadReplica}
use Rattle.grid_model.specs.declared.marks.Mark.TheVariants as mark
use Rattle.grid_model.specs.declared.plans.OldFile.{OldFile}
use Rattle.grid_vault.specs.Sending.{AtSlot, IsReadOf}
use Rattle.grid_vault.specs.Vault.{RoseAt}
use Rattle.grid_vault.specs.Verifying.{Verifies}
use Rattle.grid_vault.specs.declared.reading.Found.{Found}
use Rattle.grid_vault.proofs.FileReading.{looks_on}
use Rattle.grid_vault.proofs.Writing.{all_of}
use Rattle.grid_headline.specs.Worlds.{World}
use Rattle.run_laws.specs.Steps.{IsToldOf}
use Rattle.plan_object.specs.ChksumPlans.{AreFilesOf, AreFound, IsFileOf, found_bad, found_none, found_whole}
use Rattle.service_run.specs.Steps.{IsKnownBy}
use Rattle.service_run.specs.Sums.{AreSeen, ReadsOther, ReadsWhole, SawFile, seen_bad, seen_none, seen_whole}
use Rattle.service_run.proofs.NamedFiles.{IsNamedFile, differs_so, not_known}

module _ {B : Type 0} (plugin : B → StoreState) (stores : List B) where
  -- some behind others
  pub seen_then : {files more : List OldFile} {bad others : List BadReplica} → AreSeen plugin stores files bad → AreSeen plugin stores more others → AreSeen plugin stores (files ++ more) (bad ++ others)
  seen_then seen_none then = then
  seen_then (seen_whole file whole seen) then = seen_whole file whole (seen_then seen then)
  seen_then (seen_bad file b other seen) then = seen_bad file b other (seen_then seen then)

  -- what was found fits the deed
  pub found_so : {files : List OldFile} {bad : List BadReplica} → AreSeen plugin stores files bad → AreFound files bad
  found_so seen_none = found_none
  found_so (seen_whole file whole seen) = found_whole file (found_so seen)
  found_so (seen_bad file b other seen) = found_bad file b other.number (differs_so file other.bytes (record { len = b.len; digest = b.found }) other.is_other other.one_more) (found_so seen)

-- what holds of all holds of the one at a place
pub at_all : {X : Type 0} (P : X → Type 0) (xs : List X) (i : ℕ) (x : X) → AllByRecursion P xs → slice_get xs i ≡ Some x → P x
at_all P (y ∷ xs) zero x all is = let same : y ≡ x = cc in subst P same all.0
at_all P (y ∷ xs) (suc i) x all is = at_all P xs i x all.1 is
at_all P [] i x all is = absurd cc

-- the slot of each file that is looked at is that of a store
pub slot_of_file : (c : Cat) (read : List (ℕ × Replica)) (files : List OldFile) → AreFilesOf c read files → (i : ℕ) (file : OldFile) → slice_get files i ≡ Some file → file.slot < c.stores
slot_of_file c (e ∷ read) (f ∷ files) are zero file is = let same : f ≡ file = cc in subst (λ (x : OldFile). x.slot < c.stores) same are.0.within
slot_of_file c (e ∷ read) (f ∷ files) are (suc i) file is = slot_of_file c read files are.1 i file is
slot_of_file c read [] are i file is = absurd cc
slot_of_file c [] (f ∷ files) are i file is = absurd are

pub slots_within : (c : Cat) (read : List (ℕ × Replica)) (files : List OldFile) (count : ℕ) → c.stores ≡ count → AreFilesOf c read files → All (λ (f : OldFile). f.slot < count) files
slots_within c read files count same are = all_of (λ (f : OldFile). f.slot < count) files (λ i f is. omega (arith, slot_of_file c read files are i f is, same))

-- the file of a replica that is looked at
file_named : (c : Cat) (e : ℕ × Replica) (file : OldFile) → IsFileOf c e file → IsNamedFile c file
file_named c e file f = record {
  row = f.row;
  there = f.there;
  good = f.good;
  vault_is = sym (ap (λ (x : OldFile). x.name) f.file_is);
  slot_is = f.slot_is;
  like = λ rows. (sym (ap (λ (x : OldFile). x.size) f.file_is), sym (ap (λ (x : OldFile). x.digest) f.file_is));
}

module _ {B : Type 0} (w : World B) (c : Cat) (slots : c.stores ≡ length w.stores) (stores_last : EachMember (λ k store. (w.plugin store).last ≤ w.moments) w.stores) where
  -- a file that was found to be other is of no known slot
  never_known : (e : ℕ × Replica) (file : OldFile) (b : BadReplica) → IsFileOf c e file → ReadsOther w.plugin w.stores file b → ¬ IsKnownBy w c file.slot
  never_known e file b f other = not_known w c file (file_named c e file f) other.store other.is (stores_last file.slot other.store other.is) other.bytes other.is_other.not_recorded other.of_file

  -- so where one was found some slot is not known
  some_unknown : (read : List (ℕ × Replica)) {files : List OldFile} {b : BadReplica} {bad : List BadReplica} → AreFilesOf c read files → AreSeen w.plugin w.stores files (b ∷ bad) → (slot : ℕ) × (slot < length w.stores) × ¬ IsKnownBy w c slot
  some_unknown (e ∷ read) are (seen_whole file whole seen) = some_unknown read are.1 seen
  some_unknown (e ∷ read) are (seen_bad file b other seen) = (file.slot, omega (arith, are.0.within, slots), never_known e file b are.0 other)
  some_unknown [] are (seen_whole file whole seen) = absurd are
  some_unknown [] are (seen_bad file b other seen) = absurd are

  pub told_found : (word now : ℕ) (read : List (ℕ × Replica)) {files : List OldFile} (bad : List BadReplica) → AreFilesOf c read files → AreSeen w.plugin w.stores files bad → IsToldOf (IsKnownBy w c) (length w.stores) (mark.Ran word now bad)
  told_found word now read [] are seen = tt
  told_found word now read (b ∷ bad) are seen = some_unknown read are seen

-- ---- the looking at one file more

-- stores that were not called
pub looks_same : {B : Type 0} (state : B → StoreState) (stores : List B) → EachPair (λ k before after. Looks (state before) (state after)) stores stores
looks_same state stores k before after was is =
    let Q : _ → Type 0 = λ b. Looks (state before) (state b) in
    subst Q (sym (same_place stores k before after was is)) (record { last = refl; tells = refl; holds = λ told. refl; left = λ t image. (λ x. x, λ x. x) })

-- what reading it says
pub reads_other : {B : Type 0} (plugin : B → StoreState) (stores : List B) (file : OldFile) (found : Found) → AtSlot plugin file.slot stores (λ store. Verifies store file (Some found)) → ReadsOther plugin stores file (record { number = file.number; len = found.len; found = found.digest })
reads_other plugin stores file found verified = record {
  store = verified.store;
  is = verified.is;
  number = refl;
  bytes = verified.holds.bytes;
  one_more = verified.holds.one_more;
  of_file = verified.holds.of_file;
  is_other = verified.holds.says;
}

pub reads_whole : {B : Type 0} (plugin : B → StoreState) (stores : List B) (file : OldFile) → AtSlot plugin file.slot stores (λ store. Verifies store file None) → ReadsWhole plugin stores file
reads_whole plugin stores file verified = record {
  store = verified.store;
  is = verified.is;
  bytes = verified.holds.bytes;
  of_file = verified.holds.of_file;
  as_recorded = verified.holds.says;
}

-- the first ones with the next
take_one_more : {X : Type 0} (xs : List X) (i : ℕ) (x : X) → slice_get xs i ≡ Some x → take (suc i) xs ≡ take i xs ++ x ∷ []
take_one_more (y ∷ xs) zero x is = let same : y ≡ x = cc in ap (λ z. z ∷ []) same
take_one_more (y ∷ xs) (suc i) x is = ap (λ ys. y ∷ ys) (take_one_more xs i x is)
take_one_more [] i x is = absurd cc

pub take_next : {X : Type 0} (xs : List X) (i : ℕ) (x : X) → slice_get xs i ≡ Some x → take (i + 1) xs ≡ take i xs ++ x ∷ []
take_next {X} xs i x is =
    let turned : suc i ≡ i + 1 = omega arith in
    let T : ℕ → Type 0 = λ n. take n xs ≡ take i xs ++ x ∷ [] in
    subst T turned (take_one_more xs i x is)

module _ {B : Type 0} (plugin : B → StoreState) (old mid new : List B) (count : length mid ≡ length old) (looks : EachPair (λ k before after. Looks (plugin before) (plugin after)) old mid) where
  -- what was read of a file now was there at first
  other_since : (file : OldFile) (b : BadReplica) → ReadsOther plugin mid file b → ReadsOther plugin old file b
  other_since file b other =
      let was = at_place old file.slot (omega (arith, slice_get_within mid file.slot other.store other.is, count)) in
      let same = looks file.slot was.0 other.store was.1 other.is in
      record {
        store = was.0;
        is = was.1;
        number = other.number;
        bytes = other.bytes;
        one_more = other.one_more;
        of_file = λ told. (let R : Files → Type 0 = λ fs. IsReadOf file other.bytes fs in subst R (same.holds told) (other.of_file (subst IsTrue (sym same.tells) told)));
        is_other = other.is_other;
      }

  whole_since : (file : OldFile) → ReadsWhole plugin mid file → ReadsWhole plugin old file
  whole_since file whole =
      let was = at_place old file.slot (omega (arith, slice_get_within mid file.slot whole.store whole.is, count)) in
      let same = looks file.slot was.0 whole.store was.1 whole.is in
      record {
        store = was.0;
        is = was.1;
        bytes = whole.bytes;
        of_file = λ told. (let R : Files → Type 0 = λ fs. IsReadOf file whole.bytes fs in subst R (same.holds told) (whole.of_file (subst IsTrue (sym same.tells) told)));
        as_recorded = whole.as_recorded;
      }

  -- what was seen now could be seen at first
  pub seen_since : {files : List OldFile} {bad : List BadReplica} → AreSeen plugin mid files bad → AreSeen plugin old files bad
  seen_since seen_none = seen_none
  seen_since (seen_whole file whole seen) = seen_whole file (whole_since file whole) (seen_since seen)
  seen_since (seen_bad file b other seen) = seen_bad file b (other_since file b other) (seen_since seen)

  -- the looks of two calls
  pub looks_then : length new ≡ length mid → EachPair (λ k before after. Looks (plugin before) (plugin after)) mid new → EachPair (λ k before after. Looks (plugin before) (plugin after)) old new
  looks_then more then k before after was is =
      let between = at_place mid k (omega (arith, slice_get_within new k after is, more)) in
      looks_on (plugin before) (plugin between.0) (plugin after) (looks k before between.0 was between.1) (then k between.0 after between.1 is)

  -- a count that rose now rose since the first call
  pub rose_since : (slot : ℕ) → ((k : ℕ) (before after : B) → slice_get old k ≡ Some before → slice_get mid k ≡ Some after → (plugin before).faults ≤ (plugin after).faults) → length new ≡ length mid → RoseAt plugin slot mid new → RoseAt plugin slot old new
  rose_since slot later more rose before after was is =
      let between = at_place mid slot (omega (arith, slice_get_within new slot after is, more)) in
      omega (arith, later slot before between.0 was between.1, rose between.0 after between.1 is)

-- one file more was read
pub one_more : {B : Type 0} (plugin : B → StoreState) (old mid : List B) (files : List OldFile) (i : ℕ) (file : OldFile) → slice_get files i ≡ Some file → length mid ≡ length old → EachPair (λ k before after. Looks (plugin before) (plugin after)) old mid
    → (bad more : List BadReplica) → AreSeen plugin old (take i files) bad → SawFile plugin mid file bad more → AreSeen plugin old (take (i + 1) files) more
one_more plugin old mid files i file is count looks bad more seen saw =
    let first = seen_since plugin old mid mid count looks saw.1 in
    let F : List OldFile → Type 0 = λ fs. AreSeen plugin old fs more in
    let B : List BadReplica → Type 0 = λ bs. AreSeen plugin old (take i files ++ file ∷ []) bs in
    subst F (sym (take_next files i file is)) (subst B (sym saw.2) (seen_then plugin old seen first))
