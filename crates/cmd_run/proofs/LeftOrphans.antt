-- Orphans whose files were not removed: as many as their store failed.
use Rattle.std.proofs.Common.{◌≡◌, ◌≢◌, inl, inr, ℕ, suc, ◌+◌, ◌-◌, ◌^◌, ◌<◌, ◌≤◌, Bool, true, false, List, [], ◌∷◌, length, slice_get, Ok, refl, sym, ap, ◌∙◌}
use Rattle.std.proofs.Common.{subst, arith}
use Rattle.std.specs.Prelude.{◌==◌, not, cond, filter, map, vec_len}
use Rattle.std.specs.List.{AllByRecursion}
use Rattle.std.specs.Option.{option_map_or}
use Rattle.std.proofs.lemmas.Bool.{cases_lt}
use Rattle.std.proofs.lemmas.Bool.Decides.{eqb_tells}
use Rattle.std.proofs.lemmas.Option.{slice_get_past}
use Rattle.grid_outside.specs.Ambient.{AmbientState}
use Rattle.grid_outside.specs.Disk.{DiskState}
use Rattle.grid_outside.specs.Files.{StoreState}
use Rattle.grid_outside.specs.Sink.{SinkState}
use Rattle.grid_outside.specs.Source.{SourceState}
use Rattle.grid_outside.specs.declared.outside.Outside.{Outside}
use Rattle.grid_outside.proofs.Spans.{at_place}
use Rattle.grid_model.specs.Applying.{IsMade, apply, apply_all, has_orphan}
use Rattle.grid_model.specs.Rows.{Cat}
use Rattle.grid_model.specs.declared.deltas.Delta.TheVariants as delta
use Rattle.grid_model.specs.declared.deltas.OrphanRow.{OrphanRow}
use Rattle.grid_model.specs.declared.plans.NewFile.{NewFile}
use Rattle.grid_vault.specs.Removal.{SplitInto, none, one_gone, one_left, count_in, FewerThanFaults}
use Rattle.tables_laws.proofs.Rows.{IsIn}
use Rattle.tables_laws.proofs.Sound.{fits_so, ok-same, after_first}
use Rattle.file_laws.specs.Removals.{HaveOwnNames, no_orphans}
use Rattle.plan_base.proofs.AtPaths.{sound_of}
use Rattle.grid_deed.proofs.ManyDiscards.{all_gone}
use Rattle.grid_headline.specs.Ends.{HasFewOrphans}
use Rattle.grid_headline.specs.Numbers.{orphan_count}
use Rattle.run_laws.specs.Around.{around}
use Rattle.cmd_run.specs.Sweeping.{orphan_files}

-- ---- lists that are filtered

passed : {X : Type 0} (q : X → Bool) (x : X) (xs : List X) → q x ≡ true → filter q (x ∷ xs) ≡ x ∷ filter q xs
passed q x xs is = ap (λ b. cond b (x ∷ filter q xs) (filter q xs)) is

dropped : {X : Type 0} (q : X → Bool) (x : X) (xs : List X) → q x ≡ false → filter q (x ∷ xs) ≡ filter q xs
dropped q x xs is = ap (λ b. cond b (x ∷ filter q xs) (filter q xs)) is

apart : (a b : ℕ) → a ≢ b → (a == b) ≡ false
apart a b other = elim (eqb_tells a b) [ inl same ↦ absurd (other same.1) | inr is ↦ is.0 ]

alike : (a : ℕ) → (a == a) ≡ true
alike a = elim (eqb_tells a a) [ inl same ↦ same.0 | inr is ↦ absurd (is.1 refl) ]

-- ---- files that are left

-- the file has another name
abbrev other_name : NewFile → NewFile → Bool
other_name g f = not (f.name == g.name)

-- the files without those that are gone
abbrev without : List NewFile → List NewFile → List NewFile
without [] files = files
without (g ∷ gone) files = without gone (filter (other_name g) files)

all_stay : (g : NewFile) (files : List NewFile) → AllByRecursion (λ (f : NewFile). f.name ≢ g.name) files → filter (other_name g) files ≡ files
all_stay g [] others = refl
all_stay g (f ∷ files) others = passed (other_name g) f files (ap not (apart f.name g.name others.0)) ∙ ap (λ fs. f ∷ fs) (all_stay g files others.1)

first_stays : (f : NewFile) (gone files : List NewFile) → AllByRecursion (λ (g : NewFile). g.name ≢ f.name) gone
    → without gone (f ∷ files) ≡ f ∷ without gone files
first_stays f [] files others = refl
first_stays f (g ∷ gone) files others =
    ap (without gone) (passed (other_name g) f files (ap not (apart f.name g.name (λ same. others.0 (sym same)))))
    ∙ first_stays f gone (filter (other_name g) files) others.1

left_are : (files gone left : List NewFile) → SplitInto files gone left → HaveOwnNames files → without gone files ≡ left
left_are [] [] [] none own = refl
left_are [] [] (g ∷ left) s own = elim s [ ]
left_are [] (g ∷ gone) left s own = elim s [ ]
left_are (f ∷ files) (g ∷ gone) left (one_gone s) own =
    ap (without gone) (dropped (other_name f) f files (ap not (alike f.name)) ∙ all_stay f files own.0)
    ∙ left_are files gone left s own.1
left_are (f ∷ files) gone (g ∷ left) (one_left s) own =
    first_stays f gone files (all_gone (λ (x : NewFile). x.name ≢ f.name) files gone left s own.0)
    ∙ ap (λ fs. f ∷ fs) (left_are files gone left s own.1)

-- ---- their rows

abbrev file_of : OrphanRow → NewFile
file_of o = record { slot = o.slot; name = o.vault }

files_filtered : (g : NewFile) (rows : List OrphanRow) → map file_of (filter (λ o. not (o.vault == g.name)) rows) ≡ filter (other_name g) (map file_of rows)
files_filtered g [] = refl
files_filtered g (o ∷ rows) =
    elim (not (o.vault == g.name)) as (λ b. map file_of (cond b (o ∷ filter (λ o. not (o.vault == g.name)) rows) (filter (λ o. not (o.vault == g.name)) rows))
    ≡ cond b (file_of o ∷ filter (other_name g) (map file_of rows)) (filter (other_name g) (map file_of rows))) [
      | true ↦ ap (λ fs. file_of o ∷ fs) (files_filtered g rows)
      | false ↦ files_filtered g rows
    ]

files_after : (gone : List NewFile) (c after : Cat) → apply_all c (no_orphans gone) ≡ Ok after → orphan_files after ≡ without gone (orphan_files c)
files_after [] c after e = ap orphan_files (sym (ok-same c after (apply_all c []) refl e))
files_after (g ∷ gone) c after e =
    let step = after_first (apply c (delta.NoOrphan g.name)) (no_orphans gone) after e in
    let is = (fits_so (has_orphan c g.name) 18 (record c { orphans = filter (λ o. not (o.vault == g.name)) c.orphans }) step.0 step.1).1 in
    files_after gone step.0 after step.2 ∙ ap (λ (x : Cat). without gone (orphan_files x)) (sym is) ∙ ap (without gone) (files_filtered g c.orphans)

-- ---- how many there are in a slot

count_same : (slot : ℕ) (rows : List OrphanRow) → count_in slot (map file_of rows) ≡ length (filter (λ (o : OrphanRow). o.slot == slot) rows)
count_same slot [] = refl
count_same slot (o ∷ rows) =
    elim (o.slot == slot) as (λ b. length (cond b (file_of o ∷ filter (λ (f : NewFile). f.slot == slot) (map file_of rows))
    (filter (λ (f : NewFile). f.slot == slot) (map file_of rows)))
    ≡ length (cond b (o ∷ filter (λ (o : OrphanRow). o.slot == slot) rows) (filter (λ (o : OrphanRow). o.slot == slot) rows))) [
      | true ↦ ap suc (count_same slot rows)
      | false ↦ count_same slot rows
    ]

none_there : (slot stores : ℕ) (rows : List OrphanRow) → stores ≤ slot → ((o : OrphanRow) → IsIn rows o → o.slot < stores)
    → length (filter (λ (o : OrphanRow). o.slot == slot) rows) ≡ 0
none_there slot stores [] past small = refl
none_there slot stores (o ∷ rows) past small =
    ap length (dropped (λ (o : OrphanRow). o.slot == slot) o rows (apart o.slot slot (λ same. absurd (omega (arith, same, past, small o (inl refl))))))
    ∙ none_there slot stores rows past (λ x here. small x (inr here))

-- ---- what is left

-- what was left of all orphans' files are those of the orphans behind it
pub left_behind : (c after : Cat) (files gone left : List NewFile) → files ≡ orphan_files c → SplitInto files gone left → HaveOwnNames (orphan_files c)
    → apply_all c (no_orphans gone) ≡ Ok after → left ≡ orphan_files after
left_behind c after files gone left all split own applied =
    let S : List NewFile → Type 0 = λ fs. SplitInto fs gone left in
    sym (files_after gone c after applied ∙ left_are (orphan_files c) gone left (subst S all split) own)

module _ {B : Type 0} (plugin : B → StoreState) (stores_old stores_new : List B) (count : length stores_new ≡ length stores_old) (c : Cat) (made : IsMade c)
    (stores_are : c.stores ≡ length stores_old) where
  abbrev faults_in : List B → ℕ → ℕ
  faults_in stores slot = option_map_or (λ store. (plugin store).faults) (slice_get stores slot) 0

  -- where there are no more than their stores failed, there are few in each slot
  few_in : FewerThanFaults plugin (orphan_files c) stores_old stores_new → (slot : ℕ) → faults_in stores_new slot < 2 ^ 64 - 1
      → faults_in stores_old slot + orphan_count c slot ≤ faults_in stores_new slot
  few_in fewer slot less = elim (cases_lt slot (length stores_old)) [
    | inl within ↦
        let was = at_place stores_old slot within in
        let now = at_place stores_new slot (omega (arith, within, count)) in
        let fault_old : faults_in stores_old slot ≡ (plugin was.0).faults = ap (λ o. option_map_or (λ store. (plugin store).faults) o 0) was.1 in
        let fault_new : faults_in stores_new slot ≡ (plugin now.0).faults = ap (λ o. option_map_or (λ store. (plugin store).faults) o 0) now.1 in
        omega (arith, less, fault_old, fault_new, count_same slot c.orphans, fewer slot was.0 now.0 was.1 now.1)
    | inr past ↦
        let absent_rows : orphan_count c slot ≡ 0 = none_there slot c.stores c.orphans (omega (arith, past, stores_are))
        (λ o here. ((sound_of c made).vaults.orphans o here).2) in
        let absent : faults_in stores_old slot ≡ 0 = ap (λ o. option_map_or (λ store. (plugin store).faults) o 0) (slice_get_past stores_old slot past) in
        omega (arith, absent_rows, absent)
  ]

-- the same in a world
pub few_orphans : {D A P : Type 0} (disk : D → DiskState) (ambient : A → AmbientState) (plugin : P → StoreState) (from to : SinkState) (source : SourceState)
    (o n : Outside D A P) (before c : Cat) → length n.stores.items ≡ length o.stores.items
    → before.stores ≡ vec_len o.stores → c.stores ≡ before.stores → IsMade c → FewerThanFaults plugin (orphan_files c) o.stores.items n.stores.items
    → HasFewOrphans (around disk ambient plugin o from source) (around disk ambient plugin n to source) c
few_orphans disk ambient plugin from to source o n before c count slots same made fewer =
    few_in plugin o.stores.items n.stores.items count c made (omega (arith, slots, same, o.stores.ok.0)) fewer
