-- A call of the store in one slot.
use Rattle.std.proofs.Common.{◌≡◌, ℕ, ◌≤◌, inl, inr, List, set, slice_get, Some, refl, sym, subst, ap, ◌∙◌}
use Rattle.std.proofs.lemmas.Option.{slice_get_within}
use Rattle.grid_outside.specs.Device.{Looks, EachMember}
use Rattle.grid_outside.specs.Fault.{Rose}
use Rattle.grid_outside.specs.Files.{StoreState}
use Rattle.grid_outside.proofs.Spans.{looked, none_called, one_called, last_moments, same_place, some_is, slice_get-set_same, slice_get-set_other, nat_cases}
use Rattle.grid_vault.specs.Vault.{RoseAt}
use Rattle.grid_vault.specs.Sending.{AllKeep, OnFault}
use Rattle.grid_vault.specs.declared.sent.Sent.{Sent}
use Rattle.grid_vault.specs.declared.sent.Sent.TheVariants.{Whole, Fault, Bad}
use Rattle.grid_vault.proofs.FileReading.{looks_same}

pub on_fault : (answer : Sent) (P Q : Type 0) → (P → Q) → OnFault answer P → OnFault answer Q
on_fault Whole P Q then h = tt
on_fault (Fault slot count) P Q then h = then h
on_fault (Bad slot len found count) P Q then h = tt

module _ {B : Type 0} (state : B → StoreState) (from to slot : ℕ) (stores : List B) (le : from ≤ to) (last : EachMember (λ k store. (state store).last ≤ from) stores) where
  -- no store was asked
  pub all_kept : AllKeep state from to slot stores stores
  all_kept = record {
    span = none_called state (λ k before after. after ≡ before) (λ k c. refl) (λ k. k ≡ slot) from to stores le last;
    looks = λ k before after was is.
        let P : B → Type 0 = λ b. Looks (state before) (state b) in
        subst P (sym (same_place stores k before after was is)) (looks_same (state before));
  }

  module _ (x y : B) (at : slice_get stores slot ≡ Some x) where
    -- only looks were taken at one
    pub one_asked : Looks (state x) (state y) → (state x).faults ≤ (state y).faults → AllKeep state from to slot stores (set stores slot y)
    one_asked looks later = record {
      span = one_called state (λ k before after. after ≡ before) (λ k c. refl) (λ k. k ≡ slot) from to stores slot x y le last at refl
          (looked from to (λ before after. after ≡ before) (state x) (state y) (last slot x at) le later (λ a b same. same) looks);
      looks = λ k before after was is. elim (nat_cases k slot) [
        | inl e ↦
            let old_is : before ≡ x = same_place stores slot x before at (ap (slice_get stores) (sym e) ∙ was) in
            let new_is : after ≡ y = some_is after y (sym is ∙ ap (slice_get (set stores slot y)) e ∙ slice_get-set_same stores slot y (slice_get_within stores slot x at)) in
            let P : B → Type 0 = λ b. Looks (state b) (state after) in
            let Q : B → Type 0 = λ b. Looks (state x) (state b) in
            subst P (sym old_is) (subst Q (sym new_is) looks)
        | inr other ↦
            let same : after ≡ before = same_place stores k before after was (sym (slice_get-set_other stores slot k y other) ∙ is) in
            let P : B → Type 0 = λ b. Looks (state before) (state b) in
            subst P (sym same) (looks_same (state before))
      ];
    }

    pub one_lasts : Looks (state x) (state y) → (state x).faults ≤ (state y).faults → EachMember (λ k store. (state store).last ≤ to) (set stores slot y)
    one_lasts looks later = last_moments state from to (λ k before after. after ≡ before) (λ k. k ≡ slot) stores (set stores slot y) (one_asked looks later).span

    -- the count of that one rose
    pub one_rose : Rose (state x).faults (state y).faults → RoseAt state slot stores (set stores slot y)
    one_rose rose before after was is =
        let old_is : before ≡ x = same_place stores slot x before at was in
        let new_is : after ≡ y = some_is after y (sym is ∙ slice_get-set_same stores slot y (slice_get_within stores slot x at)) in
        let P : B → Type 0 = λ b. Rose (state b).faults (state after).faults in
        let Q : B → Type 0 = λ b. Rose (state x).faults (state b).faults in
        subst P (sym old_is) (subst Q (sym new_is) rose)

-- the count of one rose
pub rose_there : {B : Type 0} (state : B → StoreState) (slot : ℕ) (stores : List B) (x y : B) → slice_get stores slot ≡ Some x → Rose (state x).faults (state y).faults → RoseAt state slot stores (set stores slot y)
rose_there {B = B} state slot stores x y at rose before after was is =
    let old_is : before ≡ x = same_place stores slot x before at was in
    let new_is : after ≡ y = some_is after y (sym is ∙ slice_get-set_same stores slot y (slice_get_within stores slot x at)) in
    let P : B → Type 0 = λ b. Rose (state b).faults (state after).faults in
    let Q : B → Type 0 = λ b. Rose (state x).faults (state b).faults in
    subst P (sym old_is) (subst Q (sym new_is) rose)
