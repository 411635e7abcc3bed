-- A call of a store that was recorded, or that was not for want of memory.
use Rattle.std.proofs.Common.{◌≡◌, ℕ, ◌<◌, List, true, false, [], ◌∷◌, ◌++◌, is_none, refl}
use Rattle.grid_outside.specs.Device.{Acts}
use Rattle.grid_outside.specs.Files.{Files}
use Rattle.grid_mem.specs.declared.call.Call.{Call}
use Rattle.grid_mem.specs.declared.store_deed.StoreDeed.{StoreDeed}
use Rattle.grid_mem.specs.declared.mem_store.MemStore.{MemStore}
use Rattle.grid_mem.specs.Calls.{held, held_after, is_record, Left}
use Rattle.grid_mem.specs.MemFiles.{contents}
use Rattle.grid_mem.specs.StoreCalls.{call_fitted, store_kind, store_fits, StoreSure, StoreMay}
use Rattle.grid_mem.specs.StoreLaws.{store_laws, nothing_may}
use Rattle.grid_mem.specs.Recorded.{state_in}
use Rattle.grid_mem.proofs.Recording.{acts_more, sure_more, valid_more, same_more, acts_none, valid_none, same_none}

fits_if : (files : Files) (call : Call StoreDeed) → (call.done ≡ true → store_fits files call.deed ≡ true) → call_fitted files call.deed call.done ≡ true
fits_if files call fits = (elim call.done as (λ b. (b ≡ true → store_fits files call.deed ≡ true) → call_fitted files call.deed b ≡ true) [ true ↦ λ f. f refl | false ↦ λ f. refl ]) fits

-- a call that was recorded
module _ (s : MemStore) (call : Call StoreDeed) (files : Files) (calls : List (Call StoreDeed)) (after : s.last < call.moment) (fits : call.done ≡ true → store_fits (contents s.files) call.deed ≡ true)
    (calls_are : calls ≡ s.history.calls.items ++ call ∷ []) (files_are : files ≡ held_after store_kind (contents s.files) call) where
  pub still_valid : is_record store_kind 0 call.moment (contents s.history.start) calls ≡ true
  still_valid = valid_more store_kind store_laws (is_none s.lies) (contents s.history.start) (contents s.files) s.history.calls.items s.faults s.last s.valid s.same call.moment files calls call after refl (fits_if (contents s.files) call fits) calls_are files_are

  pub still_same : files ≡ held store_kind (contents s.history.start) calls
  still_same = same_more store_kind store_laws (is_none s.lies) (contents s.history.start) (contents s.files) s.history.calls.items s.faults s.last s.valid s.same call.moment files calls call after refl (fits_if (contents s.files) call fits) calls_are files_are

  pub acts : (faults : ℕ)
      → Acts call.moment (StoreMay call.deed) (state_in store_kind store_laws (is_none s.lies) s.faults s.last (contents s.history.start) (contents s.files) s.history.calls.items s.valid s.same) (state_in store_kind store_laws (is_none s.lies) faults call.moment (contents s.history.start) files calls still_valid still_same)
  acts faults = acts_more store_kind store_laws (is_none s.lies) (contents s.history.start) (contents s.files) s.history.calls.items s.faults s.last s.valid s.same call.moment files calls call after refl (fits_if (contents s.files) call fits) calls_are files_are faults still_valid still_same

  pub is_sure : (t : ℕ) (image : Files) → call.moment < t → Left store_kind t (λ x. x ≡ contents s.history.start) (contents s.history.start) calls image → StoreSure call.deed call.done files image
  is_sure = sure_more store_kind store_laws (is_none s.lies) (contents s.history.start) (contents s.files) s.history.calls.items s.faults s.last s.valid s.same call.moment files calls call after refl (fits_if (contents s.files) call fits) calls_are files_are

-- a call that was not recorded
module _ (s : MemStore) (moment : ℕ) (deed : StoreDeed) (files : Files) (calls : List (Call StoreDeed)) (after : s.last < moment) (calls_are : calls ≡ s.history.calls.items) (files_are : files ≡ contents s.files) where
  pub valid_still : is_record store_kind 0 moment (contents s.history.start) calls ≡ true
  valid_still = valid_none store_kind store_laws (is_none s.lies) (contents s.history.start) (contents s.files) s.history.calls.items s.faults s.last s.valid s.same moment files calls after calls_are files_are

  pub same_still : files ≡ held store_kind (contents s.history.start) calls
  same_still = same_none store_kind store_laws (is_none s.lies) (contents s.history.start) (contents s.files) s.history.calls.items s.faults s.last s.valid s.same moment files calls after calls_are files_are

  pub no_acts : (faults : ℕ)
      → Acts moment (StoreMay deed) (state_in store_kind store_laws (is_none s.lies) s.faults s.last (contents s.history.start) (contents s.files) s.history.calls.items s.valid s.same) (state_in store_kind store_laws (is_none s.lies) faults moment (contents s.history.start) files calls valid_still same_still)
  no_acts faults = acts_none store_kind store_laws (is_none s.lies) (contents s.history.start) (contents s.files) s.history.calls.items s.faults s.last s.valid s.same moment files calls after calls_are files_are faults valid_still same_still (StoreMay deed) (nothing_may deed)
