-- What the carrying out of a plan leaves whose files are copied from another.
use Rattle.std.proofs.Common.{◌≡◌, inl, inr, ℕ, List, [], None, Result, Ok, Err, IsTrue, refl, sym, subst, arith}
use Rattle.std.specs.Prelude.{⊤, ◌≢◌, ◌⊎◌, ◌<◌, ◌≤◌, All, IfOk}
use Rattle.grid_outside.specs.Device.{EachMember, IsSettled, Leaves}
use Rattle.grid_outside.specs.Disk.{DiskState}
use Rattle.grid_outside.specs.Files.{StoreState}
use Rattle.grid_outside.specs.declared.outside.Outside.{Outside}
use Rattle.grid_model.specs.Names.{Text}
use Rattle.grid_model.specs.Rows.{Cat}
use Rattle.grid_model.specs.declared.plans.NewFile.{NewFile}
use Rattle.grid_model.specs.declared.plans.OldFile.{OldFile}
use Rattle.grid_model.specs.declared.plans.Plan.{Plan}
use Rattle.grid_journal.specs.Journal.{Journal}
use Rattle.grid_journal.specs.Stands.{StandsEither}
use Rattle.grid_journal.specs.declared.error.JournalError.{JournalError}
use Rattle.grid_journal.specs.declared.error.JournalError.TheVariants as journal
use Rattle.grid_vault.specs.Copying.{CopiesOnly}
use Rattle.grid_vault.specs.Vault.{WritesAmong, IsStableAt}
use Rattle.grid_vault.proofs.Copied.{IsCalled}
use Rattle.grid_vault.proofs.Writing.{all_of}
use Rattle.file_laws.specs.Plans.{IsCopyPlan, Turns}
use Rattle.grid_deed.specs.declared.copying.Copied.{Copied}
use Rattle.grid_deed.specs.declared.copying.Copied.TheVariants.{Done, Bad}
use Rattle.grid_deed.specs.declared.copying.Copied.TheVariants as copied
use Rattle.grid_deed.specs.Frame.{Goes, Frame}
use Rattle.grid_deed.specs.Held.{IsCommitted}
use Rattle.grid_deed.specs.Safe.{AreWhole, KeepWhole}
use Rattle.grid_deed.specs.Deeds.{IsDone, CopySays, IsCopied, TakesAsCopied}
use Rattle.grid_deed.proofs.Frames.{frame_then, frame_spanned}
use Rattle.grid_deed.proofs.Keeping.{held_stands}
use Rattle.grid_deed.proofs.DeedLemmas.{no_more, then_kept}
use Rattle.grid_deed.proofs.DeedWholes.{keep_files, keep_last}
use Rattle.grid_deed.proofs.Wholes.{whole_turned}

pub says_same : {B : Type 0} (plugin : B → StoreState) (files : List NewFile) (from : OldFile) (stores_old stores_new : List B) (answer other : Copied) → answer ≡ other → CopySays plugin files from stores_old stores_new answer → CopySays plugin files from stores_old stores_new other
says_same plugin files from stores_old stores_new answer other is says = let P : Copied → Type 0 = λ a. CopySays plugin files from stores_old stores_new a in subst P is says

-- what was read of these stores, where they are those
pub says_of : {B : Type 0} (plugin : B → StoreState) (files : List NewFile) (from : OldFile) (stores_old stores_mid stores_new stores_end : List B) (answer : Copied) → stores_mid ≡ stores_old → stores_end ≡ stores_new
    → CopySays plugin files from stores_mid stores_new answer → CopySays plugin files from stores_old stores_end answer
says_of {B} plugin files from stores_old stores_mid stores_new stores_end answer same same_end says =
    let P : List B → Type 0 = λ l. CopySays plugin files from l stores_new answer in
    let Q : List B → Type 0 = λ l. CopySays plugin files from stores_old l answer in
    subst Q (sym same_end) (subst P same says)

module _ {B : Type 0} (plugin : B → StoreState) (files : List NewFile) (from : OldFile) (stores_old stores_new : List B) where
  -- each of the files stands with bytes that the rows take for copies
  pub stand_copied : (before after : Cat) → TakesAsCopied files from before after → CopySays plugin files from stores_old stores_new Done → (body : Text) × Turns files body before after × All (IsStableAt plugin stores_new body) files
  stand_copied before after takes (inl none) =
      let P : List NewFile → Type 0 = λ files. All (IsStableAt plugin stores_new []) files in
      ([], takes [] (λ some. absurd (some none)), subst P (sym none) (all_of (IsStableAt plugin stores_new []) [] (λ i file is. absurd cc)))
  stand_copied before after takes (inr copies) = (copies.bytes, takes copies.bytes (λ some. copies.says), copies.stable refl)

  -- so all is whole by them too
  pub taken_as_copied : {E : Type 0} (result : Result Copied E) → result ≡ Ok Done → IfOk result (CopySays plugin files from stores_old stores_new) → (before after : Cat) → TakesAsCopied files from before after
      → (to : ℕ) → EachMember (λ k store. (plugin store).last ≤ to) stores_new → (t : ℕ) → to < t → AreWhole plugin t before stores_new → AreWhole plugin t after stores_new
  taken_as_copied {E} result is says before after takes to lasts t late w =
      let P : Result Copied E → Type 0 = λ r. IfOk r (CopySays plugin files from stores_old stores_new) in
      let made = stand_copied before after takes (subst P is says) in
      whole_turned plugin t files made.0 before after stores_new made.1 (λ slot store at. omega (arith, lasts slot store at, late)) made.2 w

module _ {B : Type 0} (plugin : B → StoreState) {kept cat : Cat} {stores : ℕ} {plan : Plan} {from : OldFile} (p : IsCopyPlan kept cat stores plan from) (stores_old stores_new : List B) where
  -- the last changes are in order, and each of the files stands
  pub copies_made : CopySays plugin plan.files from stores_old stores_new Done → (body : Text) × Turns plan.files body p.mid p.end × All (IsStableAt plugin stores_new body) plan.files
  copies_made = stand_copied plugin plan.files from stores_old stores_new p.mid p.end p.ends

module _ {D A P : Type 0} (disk : D → DiskState) (plugin : P → StoreState) {kept cat : Cat} {stores : ℕ} {plan : Plan} {from : OldFile} (p : IsCopyPlan kept cat stores plan from) (o n : Outside D A P) where
  -- what the first commit leaves where it failed
  pub either_left : (e : JournalError) (old s : Journal) → IsCommitted kept p.mid o.moments old (disk o.main) (disk n.main) (Err e) s → IsTrue (disk o.main).tells → IsSettled (disk o.main) → Leaves o.moments (StandsEither kept p.mid) (disk n.main)
  either_left journal.Memory old s c told settled t image late left = inl (c.leaves told settled t image late left)
  either_left journal.DiskFault old s c told settled t image late left = c.leaves told settled t image late left
  either_left (journal.Worn what place) old s c told settled t image late left = inl (c.leaves told settled t image late left)
  either_left (journal.NotEmpty side len) old s c told settled t image late left = c.leaves told settled t image late left
  either_left (journal.NotACatalogue side place) old s c told settled t image late left = c.leaves told settled t image late left

  -- the last changes were not asked for, or they are in order for some body
  abbrev IsTurned : Type 0
  IsTurned = (IsTrue (disk o.main).tells → IsSettled (disk o.main) → Leaves o.moments (StandsEither kept p.mid) (disk n.main)) ⊎ ((body : Text) × Turns plan.files body p.mid p.end)

  -- a commit failed
  pub copy_failed : (e : JournalError) (s : Journal) → IsDone plugin kept p.mid p.end plan.files o.moments (disk o.main) (disk n.main) o.stores.items n.stores.items (Err e) s → IsTurned → IsCopied disk plugin p o n (Err e) s
  copy_failed e s d turned = record { ends = d.ends; says = tt; leaves = d.leaves; turned = turned }

  -- the files were made, and the last changes kept
  pub copy_done : (s : Journal) → IsDone plugin kept p.mid p.end plan.files o.moments (disk o.main) (disk n.main) o.stores.items n.stores.items (Ok None) s → CopySays plugin plan.files from o.stores.items n.stores.items Done → IsCopied disk plugin p o n (Ok Done) s
  copy_done s d says =
      let made = copies_made plugin p o.stores.items n.stores.items says in
      record { ends = d.ends; says = says; leaves = d.leaves; turned = inr (made.0, made.1) }

  module _ (old s : Journal) (c : IsCommitted kept p.mid o.moments old (disk o.main) (disk n.main) (Ok tt) s) where
    -- memory ran out after the first changes
    pub copy_stopped : (disk n.main).tells ≡ (disk o.main).tells → IsCopied disk plugin p o n (Err journal.Memory) s
    copy_stopped tells = record { ends = λ told. inr (held_stands p.mid (disk n.main) s c.ends.held (subst IsTrue (sym tells) told)); says = tt; leaves = c.leaves; turned = inl c.leaves }

    -- a store failed, or what was read is not what is recorded
    pub copy_unmade : (answer : Copied) → answer ≢ Done → CopySays plugin plan.files from o.stores.items n.stores.items answer → IsCopied disk plugin p o n (Ok answer) s
    copy_unmade Done other says = absurd (other refl)
    copy_unmade (copied.Fault fault) other says = record { ends = c.ends; says = says; leaves = c.leaves; turned = inl c.leaves }
    copy_unmade (Bad found) other says = record { ends = c.ends; says = says; leaves = c.leaves; turned = inl c.leaves }

-- the result of the last commit, as that of the deed
abbrev pub copied_as : Result ⊤ JournalError → Result Copied JournalError
copied_as (Ok done) = Ok Done
copied_as (Err e) = Err e

-- ---- the first changes were kept, and then the file was copied

module _ {D A P : Type 0} (disk : D → DiskState) (plugin : P → StoreState) (o m w : Outside D A P) (failed : Type 0) (first : Frame disk plugin failed o m) (drawn : m.moments ≤ w.moments) where
  pub frame_copied : (from : OldFile) (files : List NewFile) (fails : Type 0) → (¬ failed) → (¬ fails) → CopiesOnly plugin m.moments w.moments from.slot files m.stores.items w.stores.items → w.main ≡ m.main → w.spare ≡ m.spare → w.ambient ≡ m.ambient
      → Frame disk plugin fails o w
  frame_copied from files fails not none copies main spare ambient =
      frame_then disk plugin failed fails o m w not first (frame_spanned disk plugin fails (WritesAmong files) (IsCalled plugin from files) m w none drawn copies main spare ambient)

  module _ {kept cat : Cat} {stores : ℕ} {plan : Plan} {from : OldFile} (p : IsCopyPlan kept cat stores plan from) (last : (disk o.main).last ≤ o.moments) (old s : Journal) (c : IsCommitted kept p.mid o.moments old (disk o.main) (disk m.main) (Ok tt) s)
      (same : m.stores.items ≡ o.stores.items) (copies : CopiesOnly plugin m.moments w.moments from.slot plan.files m.stores.items w.stores.items) where
    -- whatever came of the copy
    pub whole_copied : KeepWhole plugin o.moments kept (disk o.main) (disk m.main) o.stores.items w.stores.items
    whole_copied = keep_files plugin kept p.mid p.begins o.moments old s (disk o.main) (disk m.main) o.stores.items m.stores.items same c first.main.tells m.moments w.moments first.drawn (first.main_last last) plan.files (IsCalled plugin from plan.files) w.stores.items copies p.named

    -- each file has the recorded bytes
    module _ (says : CopySays plugin plan.files from m.stores.items w.stores.items Done) where
      -- and there was no more to be kept
      pub copy_then_none : p.end ≡ p.mid → IsCopied disk plugin p o (record w { main = m.main }) (Ok Done) s
      copy_then_none none = copy_done disk plugin p o (record w { main = m.main }) s (no_more plugin kept p.mid p.end plan.files o.moments (disk o.main) old o.stores.items w.stores.items (disk m.main) s c none) (says_of plugin plan.files from o.stores.items m.stores.items w.stores.items w.stores.items Done same refl says)

      -- and then the last changes were kept, or how far that came
      module _ (e : Outside D A P) (new : Journal) (same_end : e.stores.items ≡ w.stores.items) (goes : Goes w.moments (disk m.main) (disk e.main)) where
        pub copy_then : (result : Result ⊤ JournalError) → IsCommitted p.mid p.end w.moments s (disk m.main) (disk e.main) result new → IsCopied disk plugin p o e (copied_as result) new
        copy_then (Ok done) again =
            copy_done disk plugin p o e new (then_kept plugin kept p.mid p.end plan.files o.moments (disk o.main) old o.stores.items e.stores.items (disk m.main) s c w.moments (disk e.main) new first.main.tells goes (Ok done) again)
            (says_of plugin plan.files from o.stores.items m.stores.items w.stores.items e.stores.items Done same same_end says)
        copy_then (Err x) again =
            copy_failed disk plugin p o e x new (then_kept plugin kept p.mid p.end plan.files o.moments (disk o.main) old o.stores.items e.stores.items (disk m.main) s c w.moments (disk e.main) new first.main.tells goes (Err x) again)
            (let made = copies_made plugin p m.stores.items w.stores.items says in inr (made.0, made.1))

        pub whole_then : EachMember (λ k store. (plugin store).last ≤ w.moments) w.stores.items → (result : Result ⊤ JournalError) → IsCommitted p.mid p.end w.moments s (disk m.main) (disk e.main) result new → KeepWhole plugin o.moments kept (disk o.main) (disk e.main) o.stores.items e.stores.items
        whole_then lasts result again =
            let made = copies_made plugin p m.stores.items w.stores.items says in
            keep_last plugin kept p.mid p.begins o.moments old s (disk o.main) (disk m.main) o.stores.items m.stores.items same c first.main.tells m.moments w.moments first.drawn (first.main_last last) plan.files (IsCalled plugin from plan.files) w.stores.items copies p.named
            p.end made.0 made.1 drawn lasts made.2 (disk e.main) new result e.stores.items same_end goes again
