-- Entries that are put into the rows one after another: they fit, the grid has them, and each new one is one row more.
use Rattle.std.proofs.Common.{◌≡◌, ◌⊎◌, ℕ, suc, ◌+◌, true, List, [], ◌∷◌, length, Ok, Err, inl, inr, refl, ap, ◌∙◌, arith}
use Rattle.std.specs.Prelude.{map}
use Rattle.std.specs.List.{AllByRecursion}
use Rattle.std.specs.declared.cmp.Ordering.TheVariants.{Equal}
use Rattle.grid_model.specs.Maps.{put}
use Rattle.grid_model.specs.Names.{Path}
use Rattle.grid_model.specs.Grid.{Grid}
use Rattle.grid_model.specs.Rows.{Cat, entry_cmp, with_row}
use Rattle.grid_model.specs.RowPaths.{collection_path}
use Rattle.grid_model.specs.RowGrids.{CollectionPaths, grid_of, item_place, user_name}
use Rattle.grid_model.specs.Applying.{apply, apply_all, where_fits, entry_fits}
use Rattle.grid_model.specs.declared.deltas.Delta.TheVariants as delta
use Rattle.grid_model.specs.declared.deltas.EntryRow.{EntryRow}
use Rattle.grid_model.specs.declared.grid.ItemKind.{ItemKind}
use Rattle.grid_model.proofs.FoundRows.{length-new}
use Rattle.tables_laws.proofs.Rows.{IsIn, all_from_in, in_from_with_row}
use Rattle.tables_laws.proofs.Grids.{paths_same}
use Rattle.tables_laws.proofs.Entries.{key_of, grid-with_entry}
use Rattle.tables_laws.proofs.Sound.{IsSound, sound-apply}
use Rattle.plan_base.proofs.PutAccess.{puts}

-- the rows with these entries
abbrev pub put_all : List EntryRow → List EntryRow → List EntryRow
put_all rows [] = rows
put_all rows (e ∷ es) = put_all (with_row entry_cmp rows e) es

abbrev pub with_entries : Cat → List EntryRow → Cat
with_entries c rows = record c { entries = rows }

-- each fits, whatever entries there are
abbrev pub AllFit : Cat → List EntryRow → Type 0
AllFit c es = AllByRecursion (λ e. entry_fits c e ≡ true) es

applied_one : (c : Cat) (rows : List EntryRow) (e : EntryRow) → entry_fits c e ≡ true → apply (with_entries c rows) (delta.Entry e) ≡ Ok (with_entries c (with_row entry_cmp rows e))
applied_one c rows e fits = ap (λ b. where_fits b 13 (with_entries c (with_row entry_cmp rows e))) fits

pub applied-put_all : (c : Cat) (es rows : List EntryRow) → AllFit c es → apply_all (with_entries c rows) (map (λ e. delta.Entry e) es) ≡ Ok (with_entries c (put_all rows es))
applied-put_all c [] rows fit = refl
applied-put_all c (e ∷ es) rows fit =
    ap (λ r. elim r [ Ok next ↦ apply_all next (map (λ e. delta.Entry e) es) | Err cause ↦ Err cause ]) (applied_one c rows e fit.0) ∙ applied-put_all c es (with_row entry_cmp rows e) fit.1

module _ (c : Cat) (k : ItemKind) (id : ℕ) (p : Path) (place : item_place c (collection_path c) k id ≡ p) where
  key_at : (rows : List EntryRow) (e : EntryRow) → e.kind ≡ k → e.id ≡ id → key_of (with_entries c rows) e ≡ (p, user_name c e.user)
  key_at rows e kinds ids =
      let at : item_place (with_entries c rows) (collection_path (with_entries c rows)) e.kind e.id ≡ p =
      ap (λ (paths : CollectionPaths). item_place c paths e.kind e.id) (paths_same c (with_entries c rows) refl) ∙ (λ i. item_place c (collection_path c) (kinds i) (ids i)) ∙ place in
      ap (λ (q : Path). (q, user_name c e.user)) at

  abbrev of_item : List EntryRow → Type 0
  of_item es = AllByRecursion (λ e. (e.kind ≡ k) × (e.id ≡ id)) es

  pub grid-put_all : (es rows : List EntryRow) → IsSound (with_entries c rows) → AllFit c es → of_item es
      → grid_of (with_entries c (put_all rows es)) ≡ record (grid_of (with_entries c rows)) { access = puts p (user_name c) (grid_of (with_entries c rows)).access es }
  grid-put_all [] rows s fit of = refl
  grid-put_all (e ∷ es) rows s fit of =
      let next = with_row entry_cmp rows e in
      let one : grid_of (with_entries c next) ≡ record (grid_of (with_entries c rows)) { access = put (grid_of (with_entries c rows)).access (p, user_name c e.user) e.level } =
      grid-with_entry (with_entries c rows) s e fit.0 ∙ ap (λ key. record (grid_of (with_entries c rows)) { access = put (grid_of (with_entries c rows)).access key e.level }) (key_at rows e of.0.0 of.0.1) in
      grid-put_all es next (sound-apply (with_entries c rows) (with_entries c next) (delta.Entry e) s (applied_one c rows e fit.0)) fit.1 of.1
      ∙ ap (λ (g : Grid). record g { access = puts p (user_name c) g.access es }) one

-- ---- how many there are

-- none is put again
abbrev pub Distinct : List EntryRow → Type 0
Distinct [] = Unit {0}
Distinct (e ∷ es) = ((x : EntryRow) → IsIn es x → entry_cmp x e ≡ Equal → ⊥) × Distinct es

pub length-put_all : (es rows : List EntryRow) → ((x y : EntryRow) → IsIn es x → IsIn rows y → entry_cmp x y ≡ Equal → ⊥) → Distinct es → length (put_all rows es) ≡ length rows + length es
length-put_all [] rows new distinct = omega arith
length-put_all (e ∷ es) rows new distinct =
    let one : length (with_row entry_cmp rows e) ≡ suc (length rows) = length-new entry_cmp rows e (all_from_in (λ y. entry_cmp e y ≡ Equal → ⊥) rows (λ y there. new e y (inl refl) there)) in
    let rest = length-put_all es (with_row entry_cmp rows e) (λ x y here there. by x (new x) (distinct.0 x here) here y (in_from_with_row entry_cmp rows e y there)) distinct.1 in
    omega (arith, one, rest)
  where
    by : (x : EntryRow) → ((y : EntryRow) → IsIn (e ∷ es) x → IsIn rows y → entry_cmp x y ≡ Equal → ⊥) → (entry_cmp x e ≡ Equal → ⊥) → IsIn es x → (y : EntryRow) → (e ≡ y) ⊎ IsIn rows y → entry_cmp x y ≡ Equal → ⊥
    by x before apart here y (inl is) tied = apart (ap (entry_cmp x) is ∙ tied)
    by x before apart here y (inr was) tied = before y (inr here) was tied
