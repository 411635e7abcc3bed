-- What calls of the outside leave, one after another.
use Rattle.std.proofs.Common.{◌≡◌, ◌⊎◌, inl, inr, ℕ, ◌+◌, ◌^◌, ◌<◌, ◌≤◌, List, [], ◌∷◌, ◌++◌, IsTrue, length, slice_get, Some, refl, sym, ap, ◌∙◌, subst, append_assoc, arith}
use Rattle.std.proofs.lemmas.List.{append-nil}
use Rattle.std.proofs.lemmas.Bool.{cases_lt}
use Rattle.std.proofs.lemmas.Option.{slice_get_within}
use Rattle.frame_log.specs.Log.{IsLog, frames, log_of}
use Rattle.frame_log.proofs.Reading.{reads_as_log}
use Rattle.frame_log.specs.Extent.{Extent, IsLogOf}
use Rattle.grid_outside.specs.Device.{DeviceState, Between, Span}
use Rattle.grid_outside.specs.Disk.{DiskState}
use Rattle.grid_outside.specs.Fault.{Rose}
use Rattle.grid_outside.specs.Files.{Files, StoreState}
use Rattle.grid_outside.specs.declared.outside.Outside.{Outside}
use Rattle.grid_outside.proofs.Spans.{at_place, same_place, last_moments}
use Rattle.grid_model.specs.Names.{Text}
use Rattle.grid_model.specs.Rows.{Cat}
use Rattle.grid_model.specs.declared.deltas.Delta.{Delta}
use Rattle.grid_model.specs.declared.plans.NewFile.{NewFile}
use Rattle.grid_journal.specs.Journal.{Journal, Keeps}
use Rattle.grid_journal.specs.Store.{Commits}
use Rattle.grid_vault.specs.Vault.{HasSlot, WritesAmong, WritesOnly, RoseAt}
use Rattle.grid_deed.specs.Frame.{Goes, StoresGo, AddsTo, AddsInRoom, Frame}

-- ---- devices

pub goes_nowhere : {C : Type 0} (from : ℕ) (s : DeviceState C) → Goes from s s
goes_nowhere from s = record { faults = omega arith; tells = refl; earlier = λ t image le left. left }

pub goes_between : {C : Type 0} (from to : ℕ) (change : C → C → Type 0) (old new : DeviceState C) → Between from to change old new → Goes from old new
goes_between from to change old new between = record { faults = between.faults; tells = between.tells; earlier = λ t image le left. (between.earlier t image le).0 left }

pub goes_more : {C : Type 0} (from to : ℕ) (old mid new : DeviceState C) → from ≤ to → Goes from old mid → Goes to mid new → Goes from old new
goes_more from to old mid new le first then = record {
  faults = omega (arith, first.faults, then.faults);
  tells = then.tells ∙ first.tells;
  earlier = λ t image before left. first.earlier t image before (then.earlier t image (omega (arith, before, le)) left);
}

-- ---- stores

module _ {B : Type 0} (state : B → StoreState) where
  pub stores_same : (from : ℕ) (stores : List B) → StoresGo state from stores stores
  stores_same from stores = record {
    count = refl;
    later = λ k before after was is. (let same : after ≡ before = same_place stores k before after was is in let P : B → Type 0 = λ b. Goes from (state before) (state b) in subst P (sym same) (goes_nowhere from (state before)));
  }

  pub stores_as : (from : ℕ) (old new : List B) → new ≡ old → StoresGo state from old new
  stores_as from old new same = let P : List B → Type 0 = λ l. StoresGo state from old l in subst P (sym same) (stores_same from old)

  pub stores_went : (from to : ℕ) (change : ℕ → Files → Files → Type 0) (touched : ℕ → Type 0) (old new : List B) → Span state from to change touched old new → StoresGo state from old new
  stores_went from to change touched old new span = record {
    count = span.count;
    later = λ k was_at is_at was is. goes_between from to (change k) (state was_at) (state is_at) (span.each k was_at is_at was is);
  }

  module _ (from to : ℕ) (le : from ≤ to) (old mid new : List B) (first : StoresGo state from old mid) (then : StoresGo state to mid new) where
    within : (k : ℕ) (before : B) → slice_get old k ≡ Some before → k < length mid
    within k before was = omega (arith, slice_get_within old k before was, first.count)

    pub stores_more : StoresGo state from old new
    stores_more = record {
      count = then.count ∙ first.count;
      later = λ k before after was is. (let between = at_place mid k (within k before was) in goes_more from to (state before) (state between.0) (state after) le (first.later k before between.0 was between.1) (then.later k between.0 after between.1 is));
    }

    -- a count that rose in the second has risen
    pub rose_after : (slot : ℕ) → RoseAt state slot mid new → RoseAt state slot old new
    rose_after slot rose before after was is = let between = at_place mid slot (within slot before was) in omega (arith, rose between.0 after between.1 is, (first.later slot before between.0 was between.1).faults)

-- ---- room behind the log

pub room_same : {M : Type 0} (state : M → DiskState) (a b : M) → b ≡ a → AddsInRoom (state a) (state b)
room_same {M = M} state a b e told = inl (ap (λ (m : M). (state m).holds) e)

pub room_more : (old mid new : DiskState) → mid.tells ≡ old.tells → AddsInRoom old mid → AddsInRoom mid new → AddsInRoom old new
room_more old mid new tells first then told = by (first told) (then (subst IsTrue (sym tells) told))
  where
    -- the records of both, where the second has those of the first
    both : (place last : ℕ) → (a : AddsTo old.holds mid.holds place) → (b : AddsTo mid.holds new.holds last) → AddsTo old.holds new.holds last
    both place last a b =
        let logs : log_of b.records ≡ log_of ((a.records ++ a.more) ++ a.body ∷ []) = (reads_as_log 16 mid.holds ((a.records ++ a.more) ++ a.body ∷ []) a.log).only (log_of b.records) b.log_old in
        let same : b.records ≡ (a.records ++ a.more) ++ a.body ∷ [] = cc in
        let all : b.records ++ b.more ≡ a.records ++ (a.more ++ a.body ∷ b.more) =
        ap (λ (r : List (List ℕ)). r ++ b.more) same ∙ append_assoc (a.records ++ a.more) (a.body ∷ []) b.more ∙ append_assoc a.records a.more (a.body ∷ b.more) in
        let L : List (List ℕ) → Type 0 = λ r. IsLog 16 (r ++ b.body ∷ []) new.holds in
        record {
          records = a.records;
          log_old = a.log_old;
          more = a.more ++ a.body ∷ b.more;
          body = b.body;
          log = subst L all b.log;
          place_is = b.place_is ∙ ap (λ (r : List (List ℕ)). 16 + length (frames r)) all;
        }

    by : (mid.holds ≡ old.holds) ⊎ ((place : ℕ) × (place ≤ 2 ^ 62) × AddsTo old.holds mid.holds place) → (new.holds ≡ mid.holds) ⊎ ((place : ℕ) × (place ≤ 2 ^ 62) × AddsTo mid.holds new.holds place)
        → (new.holds ≡ old.holds) ⊎ ((place : ℕ) × (place ≤ 2 ^ 62) × AddsTo old.holds new.holds place)
    by (inl was) (inl same) = inl (same ∙ was)
    by (inl was) (inr there) = inr (there.0, there.1, (let P : Text → Type 0 = λ t. AddsTo t new.holds there.0 in subst P was there.2))
    by (inr there) (inl same) = inr (there.0, there.1, (let P : Text → Type 0 = λ t. AddsTo old.holds t there.0 in subst P (sym same) there.2))
    by (inr one) (inr two) = inr (two.0, two.1, both one.0 two.0 one.2 two.2)

-- the gate of a log at which a record was added
pub small_gate : (gate : ℕ) → ¬ (2 ^ 62 < gate) → gate ≤ 2 ^ 62
small_gate gate not_past = elim (cases_lt (2 ^ 62) gate) [ inl past ↦ absurd (not_past past) | inr small ↦ small ]

-- a commit adds its record at the gate of the log
pub room_committed : (c : Cat) (old new : Journal) (deltas : List Delta) (body main_old main_new : Text) (k : Keeps c old main_old) → Commits deltas old new → IsLogOf new.log (k.records ++ body ∷ []) main_new → old.log.gate ≤ 2 ^ 62
    → (place : ℕ) × (place ≤ 2 ^ 62) × AddsTo main_old main_new place
room_committed c old new deltas body main_old main_new k commits added room =
    let B : ℕ → Type 0 = λ b. IsLog b k.records main_old in
    let P : ℕ → Type 0 = λ b. IsLog b ((k.records ++ []) ++ body ∷ []) main_new in
    let R : List (List ℕ) → Type 0 = λ r. IsLog new.log.base (r ++ body ∷ []) main_new in
    let none : k.records ≡ k.records ++ [] = sym (append-nil k.records) in (
      old.log.gate,
      room,
      record {
        records = k.records;
        log_old = subst B k.base k.log.is_log;
        more = [];
        body = body;
        log = subst P (ap (λ (e : Extent). e.base) commits.log ∙ k.base) (subst R none added.is_log);
        place_is = omega (arith, ap (λ (e : Extent). e.gate) k.log.extent, k.base, ap (λ (r : List (List ℕ)). length (frames r)) none);
      },
    )

-- ---- all of them

module _ {D A P : Type 0} (disk : D → DiskState) (plugin : P → StoreState) where
  -- nothing was called
  pub frame_none : (failed : Type 0) (o : Outside D A P) → (¬ failed) → Frame disk plugin failed o o
  frame_none failed o not = record {
    drawn = omega arith;
    main_last = λ last. last;
    stores_last = λ last. last;
    main = goes_nowhere o.moments (disk o.main);
    stores = stores_same plugin o.moments o.stores.items;
    spare = refl;
    ambient = refl;
    cause = λ f. absurd (not f);
    in_room = λ ok. room_same disk o.main o.main refl;
  }

  -- one after another, where the first did not fail
  pub frame_then : (first failed : Type 0) (a b c : Outside D A P) → (¬ first) → Frame disk plugin first a b → Frame disk plugin failed b c → Frame disk plugin failed a c
  frame_then first failed a b c not one two = record {
    drawn = omega (arith, one.drawn, two.drawn);
    main_last = λ last. two.main_last (one.main_last last);
    stores_last = λ last. two.stores_last (one.stores_last last);
    main = goes_more a.moments b.moments (disk a.main) (disk b.main) (disk c.main) one.drawn one.main two.main;
    stores = stores_more plugin a.moments b.moments one.drawn a.stores.items b.stores.items c.stores.items one.stores two.stores;
    spare = two.spare ∙ one.spare;
    ambient = two.ambient ∙ one.ambient;
    cause = λ f. omega (arith, two.cause f, one.main.faults);
    in_room = λ ok. room_more (disk a.main) (disk b.main) (disk c.main) one.main.tells (one.in_room not) (two.in_room ok);
  }

  -- main was called
  pub frame_main : (failed : Type 0) (o : Outside D A P) (main spare : D) (moments : ℕ) → o.moments ≤ moments → (disk main).last ≤ moments → Goes o.moments (disk o.main) (disk main) → spare ≡ o.spare
      → (failed → Rose (disk o.main).faults (disk main).faults) → ((¬ failed) → AddsInRoom (disk o.main) (disk main)) → Frame disk plugin failed o (record o { main = main; spare = spare; moments = moments })
  frame_main failed o main spare moments drawn last goes same cause room = record {
    drawn = drawn;
    main_last = λ was. last;
    stores_last = λ was k store at. omega (arith, was k store at, drawn);
    main = goes;
    stores = stores_same plugin o.moments o.stores.items;
    spare = same;
    ambient = refl;
    cause = cause;
    in_room = room;
  }

  -- the stores were called, which now are these
  pub frame_spanned : (failed : Type 0) (change : ℕ → Files → Files → Type 0) (touched : ℕ → Type 0) (o n : Outside D A P) → (¬ failed) → o.moments ≤ n.moments
      → Span plugin o.moments n.moments change touched o.stores.items n.stores.items → n.main ≡ o.main → n.spare ≡ o.spare → n.ambient ≡ o.ambient → Frame disk plugin failed o n
  frame_spanned failed change touched o n not drawn span main spare ambient =
      let last : D → Type 0 = λ m. (disk m).last ≤ n.moments in
      let goes : D → Type 0 = λ m. Goes o.moments (disk o.main) (disk m) in
      record {
        drawn = drawn;
        main_last = λ was. subst last (sym main) (omega (arith, was, drawn));
        stores_last = λ was. last_moments plugin o.moments n.moments change touched o.stores.items n.stores.items span;
        main = subst goes (sym main) (goes_nowhere o.moments (disk o.main));
        stores = stores_went plugin o.moments n.moments change touched o.stores.items n.stores.items span;
        spare = spare;
        ambient = ambient;
        cause = λ f. absurd (not f);
        in_room = λ ok. room_same disk o.main n.main main;
      }

  -- and files were made
  pub frame_stores : (failed : Type 0) (files : List NewFile) (o n : Outside D A P) → (¬ failed) → o.moments ≤ n.moments → WritesOnly plugin o.moments n.moments files o.stores.items n.stores.items → n.main ≡ o.main → n.spare ≡ o.spare → n.ambient ≡ o.ambient → Frame disk plugin failed o n
  frame_stores failed files o n not drawn writes main spare ambient = frame_spanned failed (WritesAmong files) (HasSlot files) o n not drawn writes main spare ambient

  -- with another word for the failure
  pub frame_as : (failed other : Type 0) (a b : Outside D A P) → (failed → other) → (other → failed) → Frame disk plugin failed a b → Frame disk plugin other a b
  frame_as failed other a b there back f = record {
    drawn = f.drawn;
    main_last = f.main_last;
    stores_last = f.stores_last;
    main = f.main;
    stores = f.stores;
    spare = f.spare;
    ambient = f.ambient;
    cause = λ o. f.cause (back o);
    in_room = λ not. f.in_room (λ o. not (there o));
  }
