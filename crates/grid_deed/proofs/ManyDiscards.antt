-- What the removal of many orphans' files leaves, with that of their rows.
use Rattle.std.proofs.Common.{◌≡◌, ◌⊎◌, inl, inr, ℕ, zero, suc, ◌+◌, ◌≤◌, true, false, List, [], ◌∷◌, slice_get, Some, None, Result, Ok, Err, IsTrue, refl, sym, ap, ◌∙◌, subst, eq-eqb, arith}
use Rattle.std.specs.Prelude.{⊤, All, filter, not, ◌==◌, ◌≢◌}
use Rattle.std.specs.List.{AllByRecursion, Contains}
use Rattle.std.proofs.lemmas.Bool.{cases_lt}
use Rattle.std.proofs.lemmas.Bool.Decides.{eqb_tells}
use Rattle.std.proofs.lemmas.Option.{slice_get_within}
use Rattle.grid_outside.specs.Device.{IsSettled, Leaves, EachMember}
use Rattle.grid_outside.specs.Disk.{DiskState}
use Rattle.grid_outside.specs.Files.{File, Files, StoreState, file_at}
use Rattle.grid_outside.proofs.Spans.{at_place}
use Rattle.grid_model.specs.Names.{Text}
use Rattle.grid_model.specs.Rows.{Cat}
use Rattle.grid_model.specs.Whole.{leaf_slot, IsFinishedAs, IsNamed, IsWhole}
use Rattle.grid_model.specs.Applying.{apply, apply_all, where_fits}
use Rattle.grid_model.specs.declared.deltas.Delta.TheVariants as delta
use Rattle.grid_model.specs.declared.deltas.OrphanRow.{OrphanRow}
use Rattle.grid_model.specs.declared.deltas.ReplicaRow.{ReplicaRow}
use Rattle.grid_model.specs.declared.plans.NewFile.{NewFile}
use Rattle.grid_journal.specs.Journal.{Journal}
use Rattle.grid_journal.specs.Stands.{StandsEither, StandsFor}
use Rattle.grid_journal.specs.declared.error.JournalError.{JournalError}
use Rattle.grid_journal.specs.declared.error.JournalError.TheVariants as journal
use Rattle.grid_vault.specs.Vault.{IsAmong, IsGoneAt}
use Rattle.grid_vault.specs.Removal.{RemovesAmong, SplitInto, none, one_gone, one_left, RemovesOnly, FewerThanFaults}
use Rattle.tables_laws.proofs.Rows.{IsIn, in_from_all, all_from_in, any_from_in, filter_from_in}
use Rattle.tables_laws.proofs.Numbered.{one_number}
use Rattle.tables_laws.proofs.Sound.{IsSound, sound-made}
use Rattle.file_laws.specs.Removals.{Forgets, no_orphans, AreOrphans, HaveOwnNames}
use Rattle.file_laws.proofs.Members.{in_of, contains_of}
use Rattle.file_laws.proofs.Fewer.{apply_step}
use Rattle.file_laws.proofs.Forgetting.{forgets_all}
use Rattle.grid_deed.specs.Frame.{Goes}
use Rattle.grid_deed.specs.Held.{IsHeld, IsCommitted}
use Rattle.grid_deed.specs.Safe.{KeepWhole}
use Rattle.grid_deed.specs.Deeds.{AreDiscarded}
use Rattle.grid_deed.proofs.Frames.{stores_as}
use Rattle.grid_deed.proofs.Keeping.{held_stands, either_of}
use Rattle.grid_deed.proofs.Wholes.{one_cat, whole_of, keep_commit, keep_more}
use Rattle.grid_deed.proofs.Sweeping.{whole_forgotten}

-- ---- the rows

row_of : NewFile → OrphanRow
row_of f = record { vault = f.name; slot = f.slot }

-- what all of the files are, those that are gone are
pub all_gone : (P : NewFile → Type 0) (files gone left : List NewFile) → SplitInto files gone left → AllByRecursion P files → AllByRecursion P gone
all_gone P [] [] [] none all = tt
all_gone P [] [] (g ∷ left) s all = elim s [ ]
all_gone P [] (g ∷ gone) left s all = elim s [ ]
all_gone P (f ∷ files) (g ∷ gone) left (one_gone s) all = (all.0, all_gone P files gone left s all.1)
all_gone P (f ∷ files) gone (g ∷ left) (one_left s) all = all_gone P files gone left s all.1

pub own_gone : (files gone left : List NewFile) → SplitInto files gone left → HaveOwnNames files → HaveOwnNames gone
own_gone [] [] [] none own = tt
own_gone [] [] (g ∷ left) s own = elim s [ ]
own_gone [] (g ∷ gone) left s own = elim s [ ]
own_gone (f ∷ files) (g ∷ gone) left (one_gone s) own = (all_gone (λ (g : NewFile). g.name ≢ f.name) files gone left s own.0, own_gone files gone left s own.1)
own_gone (f ∷ files) gone (g ∷ left) (one_left s) own = own_gone files gone left s own.1

all_left : (files : List NewFile) → SplitInto files [] files
all_left [] = none
all_left (f ∷ files) = one_left (all_left files)

-- their rows can be taken away
pub gone_applied : (gone : List NewFile) (c : Cat) → AreOrphans c gone → HaveOwnNames gone → (after : Cat) × (apply_all c (no_orphans gone) ≡ Ok after)
gone_applied [] c are own = (c, refl)
gone_applied (f ∷ gone) c are own =
    let without : Cat = record c { orphans = filter (λ o. not (o.vault == f.name)) c.orphans } in
    let x : OrphanRow = record { vault = f.name; slot = f.slot } in
    let one : apply c (delta.NoOrphan f.name) ≡ Ok without = ap (λ b. where_fits b 18 without) (any_from_in (λ (o : OrphanRow). o.vault == f.name) c.orphans x (in_of c.orphans x are.0) (eq-eqb f.name f.name refl)) in
    let rest = gone_applied gone without (all_from_in (λ (g : NewFile). Contains without.orphans (record { vault = g.name; slot = g.slot })) gone (λ g here.
    let y : OrphanRow = record { vault = g.name; slot = g.slot } in
    contains_of without.orphans y (filter_from_in (λ (o : OrphanRow). not (o.vault == f.name)) c.orphans y
    (in_of c.orphans y (in_from_all (λ (g : NewFile). Contains c.orphans (record { vault = g.name; slot = g.slot })) gone are.1 g here))
    (differs g.name f.name (in_from_all (λ (g : NewFile). g.name ≢ f.name) gone own.0 g here) (eqb_tells g.name f.name))))) own.1 in
    (rest.0, apply_step (delta.NoOrphan f.name) (no_orphans gone) c without one ∙ rest.1)
  where
    differs : (a b : ℕ) → a ≢ b → ((a == b) ≡ true) × (a ≡ b) ⊎ ((a == b) ≡ false) × (a ≢ b) → not (a == b) ≡ true
    differs a b other (inl same) = absurd (other same.1)
    differs a b other (inr apart) = ap not apart.0

pub forgets_gone : (gone : List NewFile) (c after : Cat) → IsSound c → AreOrphans c gone → apply_all c (no_orphans gone) ≡ Ok after → Forgets gone c after
forgets_gone gone c after s are applied = forgets_all gone c after (all_from_in _ gone (λ f here y at same.
    let x : OrphanRow = record { vault = f.name; slot = f.slot } in
    ap (λ (o : OrphanRow). o.slot) (one_number (λ (o : OrphanRow). o.vault) c.orphans y x s.cat.orphans.ordered at
    (in_of c.orphans x (in_from_all (λ (g : NewFile). Contains c.orphans (record { vault = g.name; slot = g.slot })) gone are f here)) same))) applied

-- ---- one store

-- no good replica has one of them
removed_all : (files : List NewFile) (c : Cat) (slot : ℕ) (before image : Files) → ((r : ReplicaRow) → IsIn c.replicas r → ¬ IsAmong files slot r.vault) → RemovesAmong files slot before image → IsWhole c slot before → IsWhole c slot image
removed_all files c slot before image no_replica step w = record {
  good = all_from_in _ c.replicas (λ r here is at.
      let its = in_from_all (λ (r : ReplicaRow). IsTrue r.good → leaf_slot c r.leaf ≡ Some slot → IsFinishedAs r.size r.digest (file_at before r.vault)) c.replicas w.good r here is at in
      record { bytes = its.bytes; is = step.others r.vault (no_replica r here) ∙ its.is; has = its.has });
  accounted = λ other file is. by other file is (step.there_or_not other);
}
  where
    by : (other : ℕ) (file : File) → file_at image other ≡ Some file → (file_at image other ≡ file_at before other) ⊎ (file_at image other ≡ None) → IsNamed c slot other
    by other file is (inl kept) = w.accounted other file (sym kept ∙ is)
    by other file is (inr gone) = let absent : file_at image other ≡ None = gone in absurd cc

module _ {D B : Type 0} (disk : D → DiskState) (plugin : B → StoreState) (c : Cat) (files : List NewFile) (from to : ℕ) (main_old : D) (s : Journal) (held : IsHeld c (disk main_old) s) (last : (disk main_old).last ≤ from) (stores_old stores_mid : List B) (are : AreOrphans c files) (own : HaveOwnNames files)
    (later : from ≤ to) (removes : RemovesOnly plugin from to files stores_old stores_mid) where
  sound : IsSound c
  sound = sound-made held.made.0 c held.made.1

  still : (after : Cat) → IsTrue (disk main_old).tells → IsSettled (disk main_old) → Leaves from (StandsEither c after) (disk main_old)
  still after told settled t image late left = let P : Text → Type 0 = λ m. StandsFor m c in inl (subst P (sym (settled t image (omega (arith, late, last)) left)) (held_stands c (disk main_old) s held told))

  no_replica : (slot : ℕ) (r : ReplicaRow) → IsIn c.replicas r → ¬ IsAmong files slot r.vault
  no_replica slot r here a =
      let x : OrphanRow = record { vault = a.file.name; slot = a.file.slot } in
      sound.vaults.apart r x here (in_of c.orphans x (at_member (λ (f : NewFile). Contains c.orphans (record { vault = f.name; slot = f.slot })) files are a.place a.file a.is)) a.name_is
    where
      at_member : (P : NewFile → Type 0) (fs : List NewFile) → AllByRecursion P fs → (k : ℕ) (f : NewFile) → slice_get fs k ≡ Some f → P f
      at_member P [] all k f is = absurd cc
      at_member P (g ∷ fs) all zero f is = let same : g ≡ f = cc in subst P same all.0
      at_member P (g ∷ fs) all (suc k) f is = at_member P fs all.1 k f is

  -- the files were removed, or some of them
  pub keep_removes : KeepWhole plugin from c (disk main_old) (disk main_old) stores_old stores_mid
  keep_removes told settled whole t image d late left stands =
      let P : Text → Type 0 = λ m. StandsFor m d in
      let standing : StandsFor (disk main_old).holds d = subst P (settled t image (omega (arith, late, last)) left) stands in
      whole_of plugin t c d stores_mid (one_cat (disk main_old).holds c d (held_stands c (disk main_old) s held told) standing) (record {
        rows = (whole t late).rows;
        files = λ slot store image is told left.
            let was = at_place stores_old slot (omega (arith, slice_get_within stores_mid slot store is, removes.count)) in
            let between = removes.each slot was.0 store was.1 is in
            let told_before : IsTrue (plugin was.0).tells = subst IsTrue between.tells told in
            let step = between.images told_before t image late left in
            removed_all files c slot step.0 image (no_replica slot) step.2 ((whole (from + 1) (omega arith)).files slot was.0 step.0 was.1 told_before step.1);
      })

  -- memory ran out before any row was taken away
  pub swept_memory : AreDiscarded disk plugin c files from main_old main_old stores_old stores_mid s (Err journal.Memory) s
  swept_memory = record { gone = []; left = files; after = c; split = all_left files; applied = refl; ends = held_stands c (disk main_old) s held; leaves = still c }

  module _ (gone left : List NewFile) (split : SplitInto files gone left) (fewer : FewerThanFaults plugin left stores_old stores_mid) where
    -- none is gone
    pub swept_none : gone ≡ [] → AreDiscarded disk plugin c files from main_old main_old stores_old stores_mid s (Ok left) s
    swept_none no_gone = record {
      gone = gone;
      left = left;
      after = c;
      split = split;
      applied = ap (λ (g : List NewFile). apply_all c (no_orphans g)) no_gone;
      ends = (refl, fewer, inl (no_gone, refl, held, refl));
      leaves = still c;
    }

    are_gone : AreOrphans c gone
    are_gone = all_gone (λ (f : NewFile). Contains c.orphans (record { vault = f.name; slot = f.slot })) files gone left split are

    pub taken : (after : Cat) × (apply_all c (no_orphans gone) ≡ Ok after)
    taken = gone_applied gone c are_gone (own_gone files gone left split own)

    -- the answer where the commit ended so
    abbrev pub answer_of : Result ⊤ JournalError → Result (List NewFile) JournalError
    answer_of (Ok done) = Ok left
    answer_of (Err e) = Err e

    module _ (main_new : D) (new : Journal) (goes : Goes to (disk main_old) (disk main_new)) (stores_end : List B) (same : stores_end ≡ stores_mid) where
      pub swept_then : gone ≢ [] → (result : Result ⊤ JournalError) → IsCommitted c taken.0 to s (disk main_old) (disk main_new) result new → AreDiscarded disk plugin c files from main_old main_new stores_old stores_end s (answer_of result) new
      swept_then some result again = by result again
        where
          leaves : (r : Result ⊤ JournalError) → IsCommitted c taken.0 to s (disk main_old) (disk main_new) r new → IsTrue (disk main_old).tells → IsSettled (disk main_old) → Leaves from (StandsEither c taken.0) (disk main_new)
          leaves r a told settled t image late left_then = elim (cases_lt to t) [
            | inl now ↦ either_of c taken.0 r image (a.leaves told settled t image now left_then)
            | inr le ↦ still taken.0 told settled t image late (goes.earlier t image le left_then)
          ]

          by : (r : Result ⊤ JournalError) → IsCommitted c taken.0 to s (disk main_old) (disk main_new) r new → AreDiscarded disk plugin c files from main_old main_new stores_old stores_end s (answer_of r) new
          by (Ok done) a = record {
            gone = gone;
            left = left;
            after = taken.0;
            split = split;
            applied = taken.1;
            ends = (refl, (let P : List B → Type 0 = λ x. FewerThanFaults plugin left stores_old x in subst P (sym same) fewer), inr (some, a.ends));
            leaves = leaves (Ok done) a;
          }
          by (Err e) a = record { gone = gone; left = left; after = taken.0; split = split; applied = taken.1; ends = a.ends; leaves = leaves (Err e) a }

      pub keep_taken_all : EachMember (λ k store. (plugin store).last ≤ to) stores_mid → All (IsGoneAt plugin stores_mid) gone → (result : Result ⊤ JournalError) → IsCommitted c taken.0 to s (disk main_old) (disk main_new) result new → KeepWhole plugin from c (disk main_old) (disk main_new) stores_old stores_end
      keep_taken_all lasts gone_at result again =
          keep_more plugin from to c c s (disk main_old) (disk main_old) (disk main_new) stores_old stores_mid stores_end later refl (λ told settled. settled) held (omega (arith, last, later)) goes (stores_as plugin to stores_mid stores_end same) keep_removes
          (keep_commit plugin to c taken.0 s new (disk main_old) (disk main_new) result stores_mid stores_end same again
          (λ t late w. whole_forgotten plugin t gone c taken.0 stores_mid (forgets_gone gone c taken.0 sound are_gone taken.1) (λ slot store is. omega (arith, lasts slot store is, late)) gone_at w))
