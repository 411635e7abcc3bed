-- Files among others, and rows in a list.
use Rattle.std.proofs.Common.{◌≡◌, ◌⊎◌, inl, inr, ℕ, zero, suc, ◌<◌, List, [], ◌∷◌, length, slice_get, slice_index_or, Some, refl, ap, ◌∙◌, arith}
use Rattle.std.specs.Prelude.{◌≢◌}
use Rattle.std.specs.List.{Contains}
use Rattle.grid_outside.proofs.Spans.{nat_cases}
use Rattle.grid_model.specs.declared.plans.NewFile.{NewFile}
use Rattle.grid_vault.specs.Vault.{IsAmong}
use Rattle.tables_laws.proofs.Rows.{IsIn}

pub in_of : {X : Type 0} (rows : List X) (x : X) → Contains rows x → IsIn rows x
in_of rows x has = by_place rows has.0 has.1 has.2
  where
    by_place : (rows : List _) (k : ℕ) → k < length rows → slice_index_or rows k x ≡ x → IsIn rows x
    by_place [] k within is = absurd (omega (arith, within))
    by_place (r ∷ rows) zero within is = inl is
    by_place (r ∷ rows) (suc k) within is = inr (by_place rows k (omega (arith, within)) is)

pub contains_of : {X : Type 0} (rows : List X) (x : X) → IsIn rows x → Contains rows x
contains_of [] x here = absurd here
contains_of (r ∷ rows) x (inl is) = (0, omega arith, is)
contains_of (r ∷ rows) x (inr later) = let at = contains_of rows x later in (suc at.0, omega (arith, at.1), at.2)

pub among_first : (file : NewFile) (files : List NewFile) (slot name : ℕ) → file.slot ≡ slot → file.name ≡ name → IsAmong (file ∷ files) slot name
among_first file files slot name slot_is name_is = record { place = 0; file = file; is = refl; slot_is = slot_is; name_is = name_is }

pub among_rest : (file : NewFile) (files : List NewFile) (slot name : ℕ) → IsAmong files slot name → IsAmong (file ∷ files) slot name
among_rest file files slot name a = record { place = suc a.place; file = a.file; is = a.is; slot_is = a.slot_is; name_is = a.name_is }

pub among_where : (file : NewFile) (files : List NewFile) (slot name : ℕ) → IsAmong (file ∷ files) slot name → ((file.slot ≡ slot) × (file.name ≡ name)) ⊎ IsAmong files slot name
among_where file files slot name a = by a.place a.is
  where
    by : (k : ℕ) → slice_get (file ∷ files) k ≡ Some a.file → ((file.slot ≡ slot) × (file.name ≡ name)) ⊎ IsAmong files slot name
    by zero is = let same : file ≡ a.file = cc in inl (ap (λ (f : NewFile). f.slot) same ∙ a.slot_is, ap (λ (f : NewFile). f.name) same ∙ a.name_is)
    by (suc k) is = inr (record { place = k; file = a.file; is = is; slot_is = a.slot_is; name_is = a.name_is })

-- none is among no files
pub no_files : (slot name : ℕ) → IsAmong [] slot name → ⊥
no_files slot name a = no_place a.place a.file a.is
  where
    no_place : (k : ℕ) (f : NewFile) → slice_get [] k ≡ Some f → ⊥
    no_place k f is = absurd cc

-- it is one of them or it is not
pub among_or_not : (files : List NewFile) (slot name : ℕ) → IsAmong files slot name ⊎ (¬ IsAmong files slot name)
among_or_not [] slot name = inr (no_files slot name)
among_or_not (file ∷ files) slot name = by (nat_cases file.slot slot) (nat_cases file.name name) (among_or_not files slot name)
  where
    none : ((file.slot ≡ slot) × (file.name ≡ name) → ⊥) → (¬ IsAmong files slot name) → ¬ IsAmong (file ∷ files) slot name
    none not_it not_rest a = elim (among_where file files slot name a) [ inl it ↦ not_it it | inr rest ↦ not_rest rest ]

    by : (file.slot ≡ slot) ⊎ (file.slot ≢ slot) → (file.name ≡ name) ⊎ (file.name ≢ name) → IsAmong files slot name ⊎ (¬ IsAmong files slot name) → IsAmong (file ∷ files) slot name ⊎ (¬ IsAmong (file ∷ files) slot name)
    by s n (inl rest) = inl (among_rest file files slot name rest)
    by (inl s) (inl n) (inr not_rest) = inl (among_first file files slot name s n)
    by (inr s) n (inr not_rest) = inr (none (λ it. s it.0) not_rest)
    by s (inr n) (inr not_rest) = inr (none (λ it. n it.1) not_rest)
