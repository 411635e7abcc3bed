-- The marks that a deed may end with which copies a file to files in some slots.
use Rattle.std.proofs.Common.{◌≡◌, ◌==◌, ℕ, suc, Bool, true, false, List, [], ◌∷◌, length, IsTrue, refl, arith, eq-eqb}
use Rattle.std.specs.Prelude.{◌≢◌, ◌||◌, nat_lt}
use Rattle.std.proofs.lemmas.Bool.{and_from, lt-ltb}
use Rattle.grid_model.specs.Digests.{Digest}
use Rattle.grid_model.specs.Deeds.{bad_fits, copying, differs, fault_fits, is_among}
use Rattle.grid_model.specs.declared.plans.NewFile.{NewFile}
use Rattle.grid_vault.specs.Vault.{HasSlot}

-- where there are files one of them has a slot
some_slot : (files : List NewFile) → files ≢ [] → (slot : ℕ) × HasSlot files slot
some_slot [] some = absurd (some refl)
some_slot (f ∷ files) some = (f.slot, record { place = 0; file = f; is = refl; slot_is = refl })

some_slots : (slots : List ℕ) (slot : ℕ) → is_among slots slot ≡ true → nat_lt 0 (length slots) ≡ true
some_slots [] slot wrong = absurd cc
some_slots (x ∷ xs) slot any = lt-ltb 0 (suc (length xs)) (omega arith)

or_right : (a b : Bool) → b ≡ true → (a || b) ≡ true
or_right true b e = refl
or_right false b e = e

or_left : (a b : Bool) → a ≡ true → (a || b) ≡ true
or_left true b e = refl
or_left false b e = absurd cc

module _ (from size : ℕ) (digest : Digest) (slots : List ℕ) (files : List NewFile) (its : (slot : ℕ) → HasSlot files slot → is_among slots slot ≡ true) where
  any_slots : files ≢ [] → nat_lt 0 (length slots) ≡ true
  any_slots some = let has = some_slot files some in some_slots slots has.0 (its has.0 has.1)

  pub slot_fits : (slot : ℕ) → HasSlot files slot → IsTrue (fault_fits (copying from slots) size slot 0)
  slot_fits slot has = and_from _ _ (and_from _ _ (some_slots slots slot (its slot has)) (or_right (from == slot) (is_among slots slot) (its slot has))) refl

  pub source_fits : files ≢ [] → IsTrue (fault_fits (copying from slots) size from 0)
  source_fits some = and_from _ _ (and_from _ _ (any_slots some) (or_left (from == from) (is_among slots from) (eq-eqb from from refl))) refl

  pub bad_fits_so : files ≢ [] → (len : ℕ) (found : Digest) → IsTrue (differs len found size digest) → IsTrue (bad_fits (copying from slots) size digest from len found 0)
  bad_fits_so some len found other = and_from _ _ (and_from _ _ (and_from _ _ (any_slots some) (eq-eqb from from refl)) other) refl
