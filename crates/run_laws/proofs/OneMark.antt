-- What one mark of a deed tells, and what lets it.
use Rattle.std.proofs.Common.{◌≡◌, ◌⊎◌, inl, inr, ℕ, ◌+◌, ◌-◌, ◌^◌, ◌<◌, ◌≤◌, true, false, List, [], ◌∷◌, ◌++◌, length, Some, None, IsTrue, refl, sym, ap, ◌∙◌, subst, arith, eqb-true, slice_get}
use Rattle.std.specs.Prelude.{Option, Bool, ◌==◌}
use Rattle.std.specs.Option.{option_map_or}
use Rattle.std.proofs.lemmas.Bool.{cases_lt}
use Rattle.std.proofs.lemmas.Option.{slice_get_within}
use Rattle.grid_outside.specs.Ambient.{AmbientState, GivesTime, GivesWord}
use Rattle.grid_outside.specs.Device.{EachPair}
use Rattle.grid_outside.specs.Fault.{Rose}
use Rattle.grid_outside.proofs.Spans.{at_place}
use Rattle.grid_model.specs.declared.marks.BadReplica.{BadReplica}
use Rattle.grid_model.specs.declared.marks.Mark.{Mark}
use Rattle.grid_model.specs.declared.marks.Mark.TheVariants as mark
use Rattle.grid_headline.specs.Worlds.{World, faults_of}
use Rattle.grid_headline.specs.Causes.{AreCaused, faults_told}
use Rattle.grid_headline.specs.Draws.{AreSomeOf, none, skip, keep, told_words as words_told, times_of as times_told}
use Rattle.run_laws.specs.Steps.{Gave}

-- ---- why it may be told

module _ {B : Type 0} (old new : World B) (count : length new.stores ≡ length old.stores) (later : EachPair (λ k before after. (old.plugin before).faults ≤ (new.plugin after).faults) old.stores new.stores) where
  -- the count of the store in this slot rose
  abbrev pub RoseIn : ℕ → Type 0
  RoseIn slot = (before after : B) → slice_get old.stores slot ≡ Some before → slice_get new.stores slot ≡ Some after → Rose (old.plugin before).faults (new.plugin after).faults

  abbrev of_store : World B → Option B → ℕ
  of_store w o = option_map_or (λ store. (w.plugin store).faults) o 0

  -- of each slot: nothing is there before and after, or these stores are
  by_slot : (slot : ℕ) → ((faults_of old slot ≡ 0) × (length old.stores ≤ slot)) ⊎ ((before after : B) × (slice_get old.stores slot ≡ Some before) × (slice_get new.stores slot ≡ Some after))
  by_slot slot = by (cases_lt slot (length old.stores))
    where
      at_none : length old.stores ≤ slot → (o : Option B) → slice_get old.stores slot ≡ o → of_store old o ≡ 0
      at_none past None is = refl
      at_none past (Some b) is = absurd (omega (arith, slice_get_within old.stores slot b is, past))

      by : (slot < length old.stores) ⊎ (length old.stores ≤ slot) → ((faults_of old slot ≡ 0) × (length old.stores ≤ slot)) ⊎ ((before after : B) × (slice_get old.stores slot ≡ Some before) × (slice_get new.stores slot ≡ Some after))
      by (inl within) =
          let was = at_place old.stores slot within in
          let is = at_place new.stores slot (omega (arith, within, count)) in
          inr (was.0, is.0, was.1, is.1)
      by (inr past) = inl (at_none past (slice_get old.stores slot) refl, past)

  pub caused_none : (marks : List Mark) → ((slot : ℕ) → faults_told slot marks ≡ 0) → AreCaused old new marks
  caused_none marks silent = record {
    counted = λ slot small. (elim (by_slot slot) [
      | inl nothing ↦ omega (arith, nothing.0, silent slot)
      | inr both ↦ omega (arith, silent slot, ap (of_store old) both.2, ap (of_store new) both.3, later slot both.0 both.1 both.2 both.3)
    ]);
    there = λ slot told. absurd (omega (arith, told, silent slot));
  }

  pub caused_fault : (slot parts : ℕ) → slot < length old.stores → RoseIn slot → AreCaused old new (mark.Fault slot parts ∷ [])
  caused_fault slot parts within rose = record {
    counted = λ k small. at_slot k small (slot == k) refl (by_slot k);
    there = λ k told. within_of k (slot == k) refl told;
  }
    where
      same_of : (k : ℕ) → (slot == k) ≡ true → slot ≡ k
      same_of k e = eqb-true slot k e

      at_slot : (k : ℕ) → faults_of new k < 2 ^ 64 - 1 → (b : Bool) → (slot == k) ≡ b → ((faults_of old k ≡ 0) × (length old.stores ≤ k)) ⊎ ((before after : B) × (slice_get old.stores k ≡ Some before) × (slice_get new.stores k ≡ Some after))
          → faults_of old k + (elim b [ true ↦ 1 | false ↦ 0 ] + 0) ≤ faults_of new k
      at_slot k small true e (inl nothing) = absurd (omega (arith, same_of k e, within, nothing.1))
      at_slot k small true e (inr both) =
          let R : ℕ → Type 0 = λ s. RoseIn s in
          omega (arith, small, ap (of_store old) both.2, ap (of_store new) both.3, subst R (same_of k e) rose both.0 both.1 both.2 both.3)
      at_slot k small false e (inl nothing) = omega (arith, nothing.0)
      at_slot k small false e (inr both) = omega (arith, ap (of_store old) both.2, ap (of_store new) both.3, later k both.0 both.1 both.2 both.3)

      within_of : (k : ℕ) → (b : Bool) → (slot == k) ≡ b → 0 < elim b [ true ↦ 1 | false ↦ 0 ] + 0 → k < length old.stores
      within_of k true e told = omega (arith, same_of k e, within)
      within_of k false e told = absurd (omega (arith, told))

-- ---- what was drawn for it

module _ (word now : ℕ) (old mid new : AmbientState) (gives_word : IsTrue mid.tells → GivesWord old word mid) (gives_time : IsTrue new.tells → GivesTime mid now new) where
  -- a word and a time were given
  pub record Drew : Type 0 where
    pub told : IsTrue old.tells
    pub words : new.words ≡ old.words ++ word ∷ []
    pub times : new.times ≡ old.times ++ now ∷ []

  drew : IsTrue new.tells → Drew
  drew told =
      let t = gives_time told in
      let w = gives_word t.told in
      record { told = w.told; words = t.words ∙ w.words; times = t.times ∙ ap (λ (ts : List ℕ). ts ++ now ∷ []) w.times }

  -- both are told
  pub gave_ran : (bad : List BadReplica) → IsTrue new.tells → Gave (mark.Ran word now bad ∷ []) old new
  gave_ran bad told = let d = drew told in record { told = d.told; words = word ∷ []; words_are = d.words; words_told = keep none; times = now ∷ []; times_are = d.times; times_told = keep none }

  -- or neither is
  pub gave_untold : (marks : List Mark) → words_told marks ≡ [] → times_told marks ≡ [] → IsTrue new.tells → Gave marks old new
  gave_untold marks no_word no_time told =
      let d = drew told in
      let W : List ℕ → Type 0 = λ ws. AreSomeOf ws (word ∷ []) in
      let T : List ℕ → Type 0 = λ ts. AreSomeOf ts (now ∷ []) in
      record { told = d.told; words = word ∷ []; words_are = d.words; words_told = subst W (sym no_word) (skip none); times = now ∷ []; times_are = d.times; times_told = subst T (sym no_time) (skip none) }
