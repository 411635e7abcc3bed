-- Rows of orphans, of which nothing is seen.
use Rattle.std.proofs.Common.{◌≡◌, ◌≢◌, inl, inr, ℕ, zero, suc, ◌<◌, ◌≤◌, List, [], ◌∷◌, Ok, Err, IsTrue, refl, sym, ap, ◌∙◌, subst, arith}
use Rattle.std.specs.Prelude.{◌==◌, not, filter, map, All, Result, OnOk, ⊤}
use Rattle.std.specs.List.{AllByRecursion, Contains}
use Rattle.std.specs.List.Sorted.{IsStrictlySortedBy}
use Rattle.std.specs.Ordering.{nat_cmp}
use Rattle.std.specs.declared.cmp.Ordering.TheVariants.{Less}
use Rattle.std.specs.Cmp.{ranked}
use Rattle.grid_model.specs.Rows.{Cat, orphan_cmp}
use Rattle.grid_model.specs.Applying.{IsMade, apply, apply_all, has_orphan}
use Rattle.grid_model.specs.Names.{Text}
use Rattle.grid_model.specs.Whole.{Naming, by_replica, by_orphan, IsNamed, Names}
use Rattle.grid_model.specs.declared.deltas.Delta.TheVariants as delta
use Rattle.grid_model.specs.declared.deltas.OrphanRow.{OrphanRow}
use Rattle.grid_model.specs.declared.deltas.ReplicaRow.{ReplicaRow}
use Rattle.grid_model.specs.declared.plans.NewFile.{NewFile}
use Rattle.grid_vault.specs.Removal.{SplitInto}
use Rattle.tables_laws.proofs.Grids.{grid-unseen}
use Rattle.tables_laws.proofs.Rows.{IsIn, in_from_filter}
use Rattle.tables_laws.proofs.Sound.{fits_so, ok-same, after_first}
use Rattle.file_laws.specs.Removals.{AreOrphans, HaveOwnNames, no_orphans}
use Rattle.file_laws.proofs.Members.{in_of, contains_of}
use Rattle.plan_base.proofs.AtPaths.{sound_of}
use Rattle.grid_headline.specs.Numbers.{leaf_count}
use Rattle.count_laws.specs.GivenNumbers.{GivesNone}
use Rattle.count_laws.proofs.GivenNumbers.{none_self, none_then}
use Rattle.run_laws.specs.Steps.{IsLike}
use Rattle.run_laws.proofs.Images.{keeps-then, like_self}
use Rattle.grid_outside.specs.Device.{IsSettled}
use Rattle.grid_outside.specs.Disk.{DiskState}
use Rattle.grid_outside.specs.Files.{StoreState}
use Rattle.grid_journal.specs.Journal.{Journal}
use Rattle.grid_journal.specs.Stands.{StandsFor}
use Rattle.grid_deed.proofs.Keeping.{held_stands}
use Rattle.grid_journal.specs.declared.error.JournalError.{JournalError}
use Rattle.grid_deed.specs.Deeds.{AreDiscarded}
use Rattle.grid_deed.specs.Held.{IsHeld, CommitEnds}
use Rattle.cmd_run.specs.declared.server.Server.{Server}
use Rattle.cmd_run.specs.declared.server.Ending.{Ending}
use Rattle.cmd_run.specs.Errors.{ending_of}
use Rattle.cmd_run.specs.Keeps.{KeepEnds}
use Rattle.cmd_run.specs.Sweeping.{ForgetEnds, ForgetsOrphans, SweepsMain, orphan_files}
use Rattle.cmd_run.proofs.KeepLemmas.{ends_err}

-- ---- rows that go

like_then : (a b c : Cat) → IsLike a b → IsLike b c → IsLike a c
like_then a b c one two = record {
  grid = two.grid ∙ one.grid;
  run = two.run ∙ one.run;
  last = two.last ∙ one.last;
  rules = two.rules ∙ one.rules;
  stores = two.stores ∙ one.stores;
  pending = two.pending ∙ one.pending;
  keeps = keeps-then a b c one.keeps two.keeps;
}

-- what names a file without it named that file with it
named_back : (c : Cat) (vault slot name : ℕ) (x : Naming) → Names (record c { orphans = filter (λ o. not (o.vault == vault)) c.orphans }) slot name x
    → Names c slot name x
named_back c vault slot name (by_replica r) n = n
named_back c vault slot name (by_orphan o) n =
    (contains_of c.orphans o (in_from_filter (λ (o : OrphanRow). not (o.vault == vault)) c.orphans o (in_of _ o n.0)).0, n.1, n.2)

-- one is taken away
gone_one : (c d : Cat) (vault : ℕ) → apply c (delta.NoOrphan vault) ≡ Ok d → IsLike c d
gone_one c d vault e =
    let is = (fits_so (has_orphan c vault) 18 (record c { orphans = filter (λ o. not (o.vault == vault)) c.orphans }) d e).1 in
    record {
      grid = grid-unseen c d (delta.NoOrphan vault) refl e;
      run = ap (λ (x : Cat). x.numbers.run) (sym is);
      last = ap (λ (x : Cat). x.numbers.last) (sym is);
      rules = ap (λ (x : Cat). x.rules) (sym is);
      stores = ap (λ (x : Cat). x.stores) (sym is);
      pending = ap (λ (x : Cat). x.pending) (sym is);
      keeps = record {
        rises = omega (arith, ap (λ (x : Cat). x.numbers.next_vault) (sym is));
        names = λ slot name row low its. (row, named_back c vault slot name row (let P : Cat → Type 0 = λ x. Names x slot name row in subst P (sym is) its));
      };
    }

-- a replica names its file as before, and no other row does
one_stays : (c d : Cat) (vault : ℕ) → apply c (delta.NoOrphan vault) ≡ Ok d → (slot name : ℕ) (r : ReplicaRow) → Names c slot name (by_replica r)
    → IsNamed c slot name
    → Names d slot name (by_replica r) × IsNamed d slot name
one_stays c d vault e slot name r its was =
    let is = (fits_so (has_orphan c vault) 18 (record c { orphans = filter (λ o. not (o.vault == vault)) c.orphans }) d e).1 in
    let P : Cat → Type 0 = λ x. Names x slot name (by_replica r) × IsNamed x slot name in
    subst P is (
      its,
      record {
        row = by_replica r;
        names = its;
        only = λ other names. was.only other (named_back c vault slot name other names) ∙ sym
            (was.only (by_replica r) its);
      },
    )

-- some are taken away
pub gone_like : (gone : List NewFile) (c d : Cat) → apply_all c (no_orphans gone) ≡ Ok d → IsLike c d
gone_like [] c d e = let P : Cat → Type 0 = λ x. IsLike c x in subst P (ok-same c d (apply_all c []) refl e) (like_self c)
gone_like (f ∷ gone) c d e =
    let step = after_first (apply c (delta.NoOrphan f.name)) (no_orphans gone) d e in
    like_then c step.0 d (gone_one c step.0 f.name step.1) (gone_like gone step.0 d step.2)

some_stay : (gone : List NewFile) (c d : Cat) → apply_all c (no_orphans gone) ≡ Ok d → (slot name : ℕ) (r : ReplicaRow) → Names c slot name (by_replica r)
    → IsNamed c slot name → IsNamed d slot name
some_stay [] c d e slot name r its was = let P : Cat → Type 0 = λ x. IsNamed x slot name in subst P (ok-same c d (apply_all c []) refl e) was
some_stay (f ∷ gone) c d e slot name r its was =
    let step = after_first (apply c (delta.NoOrphan f.name)) (no_orphans gone) d e in
    let one = one_stays c step.0 f.name step.1 slot name r its was in
    some_stay gone step.0 d step.2 slot name r one.0 one.1

-- no number is given
one_none : (c d : Cat) (vault : ℕ) → apply c (delta.NoOrphan vault) ≡ Ok d → GivesNone c d
one_none c d vault e =
    let is = (fits_so (has_orphan c vault) 18 (record c { orphans = filter (λ o. not (o.vault == vault)) c.orphans }) d e).1 in
    record {
      keeps = (gone_one c d vault e).keeps;
      numbers = ap (λ (x : Cat). x.numbers.next_vault) (sym is);
      leaves = ap leaf_count (sym is);
    }

gone_none : (gone : List NewFile) (c d : Cat) → apply_all c (no_orphans gone) ≡ Ok d → GivesNone c d
gone_none [] c d e = let P : Cat → Type 0 = λ x. GivesNone c x in subst P (ok-same c d (apply_all c []) refl e) (none_self c)
gone_none (f ∷ gone) c d e =
    let step = after_first (apply c (delta.NoOrphan f.name)) (no_orphans gone) d e in
    none_then c step.0 d (one_none c step.0 f.name step.1) (gone_none gone step.0 d step.2)

-- main was not called
pub still_main : (c now : Cat) (from : ℕ) (main : DiskState) (s : Journal) (e : Ending) → IsHeld c main s → main.last ≤ from
    → SweepsMain c from main main (Err e) now
still_main c now from main s e held last = record {
  after = c;
  like = like_self c;
  gives = none_self c;
  keeps = λ slot name r its was. was;
  is_now = tt;
  leaves = λ told settled t image late left.
      let S : Text → Type 0 = λ m. StandsFor m c in
      inl (subst S (sym (settled t image (omega (arith, last, late)) left)) (held_stands c main s held told));
}

-- they were forgotten, or how far that came
pub forgets_main : (c : Cat) (from : ℕ) (old new : DiskState) (result : Result ⊤ Ending) (server : Server) → ForgetsOrphans c from old new result server
    → SweepsMain c from old new result server.store.cat
forgets_main c from old new result server forgets = record {
  after = forgets.after;
  like = gone_like forgets.gone c forgets.after forgets.applied;
  gives = gone_none forgets.gone c forgets.after forgets.applied;
  keeps = λ slot name r its was. some_stay forgets.gone c forgets.after forgets.applied slot name r its was;
  is_now = now_so result forgets.ends;
  leaves = forgets.leaves;
}
  where
    now_so : (r : Result ⊤ Ending) → ForgetEnds forgets.after old new r server → OnOk r (forgets.after ≡ server.store.cat)
    now_so (Ok done) ends = sym ends.1
    now_so (Err e) ends = tt

-- ---- how their removal ended

-- where none is gone the rows are as they were
none_gone : (c after : Cat) (gone : List NewFile) → gone ≡ [] → apply_all c (no_orphans gone) ≡ Ok after → c ≡ after
none_gone c after gone none applied =
    let nothing : apply_all c (no_orphans gone) ≡ apply_all c [] = ap (λ g. apply_all c (no_orphans g)) none in
    ok-same c after (apply_all c []) refl (sym nothing ∙ applied)

-- none of none is gone
no_parts : (files gone left : List NewFile) → files ≡ [] → SplitInto files gone left → gone ≡ []
no_parts [] [] left none s = refl
no_parts [] (g ∷ gone) left none s = elim s [ ]
no_parts (f ∷ files) gone left none s = absurd cc

module _ {D B : Type 0} (disk : D → DiskState) (plugin : B → StoreState) (old : Journal) (files : List NewFile) (from : ℕ) (main_old main_new : D)
    (stores_old stores_new : List B) where
  -- what is left was answered
  pub forgot : (left : List NewFile) (new : Journal) → old.staged ≡ [] → (server : Server) → server.store ≡ new
      → AreDiscarded disk plugin old.cat files from main_old main_new stores_old stores_new old (Ok left) new
      → ForgetsOrphans old.cat from (disk main_old) (disk main_new) (Ok tt) server
  forgot left new staged server same swept = record {
    gone = swept.gone;
    after = swept.after;
    applied = swept.applied;
    ends =
        (let P : Journal → Type 0 = λ j. Ends j in subst P (sym same)
        (elim swept.ends.2 [
          | inl none ↦ unchanged none.0 none.1 none.2 none.3
          | inr taken ↦
              (let kept = taken.1 in (kept.held, kept.cat, kept.staged, λ told settled. kept.settled told))
        ]));
    leaves = swept.leaves;
  }
    where
      Ends : Journal → Type 0
      Ends j =
          IsHeld swept.after (disk main_new) j × (j.cat ≡ swept.after) × (j.staged ≡ []) ×
          (IsTrue (disk main_old).tells → IsSettled (disk main_old) → IsSettled (disk main_new))

      unchanged : swept.gone ≡ [] → new ≡ old → IsHeld old.cat (disk main_new) new → main_new ≡ main_old → Ends new
      unchanged none as_old held main_same =
          let is : old.cat ≡ swept.after = none_gone old.cat swept.after swept.gone none swept.applied in
          let H : Cat → Type 0 = λ x. IsHeld x (disk main_new) new in
          let S : D → Type 0 = λ m. IsSettled (disk m) in (
            subst H is held,
            ap (λ (j : Journal). j.cat) as_old ∙ is,
            ap (λ (j : Journal). j.staged) as_old ∙ staged,
            λ told settled. subst S (sym main_same)
                settled,
          )

  pub forgot_cat : (left : List NewFile) (new : Journal)
      → (swept : AreDiscarded disk plugin old.cat files from main_old main_new stores_old stores_new old (Ok left) new) → new.cat ≡ swept.after
  forgot_cat left new swept = elim swept.ends.2 [
    | inl still ↦ ap (λ (j : Journal). j.cat) still.1 ∙ none_gone old.cat swept.after swept.gone still.0 swept.applied
    | inr taken ↦ taken.1.cat
  ]

  -- where there was none, main was not called
  pub forgot_none : (left : List NewFile) (new : Journal) → files ≡ []
      → AreDiscarded disk plugin old.cat files from main_old main_new stores_old stores_new old (Ok left) new → main_new ≡ main_old
  forgot_none left new none swept = elim swept.ends.2 [
    | inl still ↦ still.3
    | inr taken ↦ absurd (taken.0 (no_parts files swept.gone swept.left none swept.split))
  ]

  -- it failed
  pub forgot_err : (e : JournalError) (ending : Ending) (new : Journal) (server : Server) → ending ≡ ending_of e
      → AreDiscarded disk plugin old.cat files from main_old main_new stores_old stores_new old (Err e) new
      → ForgetsOrphans old.cat from (disk main_old) (disk main_new) (Err ending) server
  forgot_err e ending new server is swept =
      let R : Ending → Type 0 = λ x. KeepEnds swept.after swept.after (disk main_old) (disk main_new) (Err x) server in
      record {
        gone = swept.gone;
        after = swept.after;
        applied = swept.applied;
        ends = subst R (sym is) (errors e swept.ends);
        leaves = swept.leaves;
      }
    where
      errors : (x : JournalError) → CommitEnds old.cat swept.after old (disk main_old) (disk main_new) (Err x) new
          → KeepEnds swept.after swept.after (disk main_old) (disk main_new) (Err (ending_of x)) server
      errors x ends = ends_err old.cat swept.after from old (disk main_old) (disk main_new) x new server ends

-- ---- all orphans

abbrev file_of : OrphanRow → NewFile
file_of o = record { slot = o.slot; name = o.vault }

are_all : (all rows : List OrphanRow) → ((o : OrphanRow) → IsIn rows o → IsIn all o)
    → AllByRecursion (λ (f : NewFile). Contains all (record { vault = f.name; slot = f.slot })) (map file_of rows)
are_all all [] within = tt
are_all all (o ∷ rows) within = (contains_of all o (within o (inl refl)), are_all all rows (λ x here. within x (inr here)))

-- they are orphans
pub are_orphans : (c : Cat) → AreOrphans c (orphan_files c)
are_orphans c = are_all c.orphans c.orphans (λ o here. here)

apart : (a b : ℕ) → nat_cmp a b ≡ Less → b ≢ a
apart a b less same = let low : a < b = ranked a b Less (sym less) in absurd (omega (arith, low, same))

others_apart : (o : OrphanRow) (rows : List OrphanRow) → AllByRecursion (λ (y : OrphanRow). orphan_cmp o y ≡ Less) rows
    → AllByRecursion (λ (g : NewFile). g.name ≢ o.vault) (map file_of rows)
others_apart o [] all = tt
others_apart o (y ∷ rows) all = (apart o.vault y.vault all.0, others_apart o rows all.1)

own_names : (rows : List OrphanRow) → IsStrictlySortedBy orphan_cmp rows → HaveOwnNames (map file_of rows)
unfolding IsStrictlySortedBy
own_names [] sorted = tt
own_names (o ∷ rows) sorted = (others_apart o rows sorted.0, own_names rows sorted.1)

-- no two have one name
pub have_own_names : (c : Cat) → IsMade c → HaveOwnNames (orphan_files c)
have_own_names c made = own_names c.orphans (sound_of c made).cat.orphans.ordered

slots_small : (stores : ℕ) (rows : List OrphanRow) → ((o : OrphanRow) → IsIn rows o → o.slot < stores)
    → All (λ (f : NewFile). f.slot < stores) (map file_of rows)
slots_small stores [] small k d less = absurd (omega (arith, less))
slots_small stores (o ∷ rows) small zero d less = small o (inl refl)
slots_small stores (o ∷ rows) small (suc k) d less = slots_small stores rows (λ x here. small x (inr here)) k d (omega (arith, less))

-- they are in the slots of stores
pub in_slots : (c : Cat) → IsMade c → All (λ (f : NewFile). f.slot < c.stores) (orphan_files c)
in_slots c made = slots_small c.stores c.orphans (λ o here. ((sound_of c made).vaults.orphans o here).2)
