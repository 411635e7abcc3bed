-- How the writing of one file goes on.
use Rattle.std.proofs.lemmas.List.{append-nil}
use Rattle.std.proofs.Common.{◌≡◌, ℕ, ◌+◌, ◌<◌, ◌≤◌, min, List, All, [], ◌++◌, Option, Some, None, IsTrue, arith, refl, sym, subst, ap, ◌∙◌, append_assoc}
use Rattle.std.proofs.Common.{inl, inr, set, slice_get}
use Rattle.std.proofs.lemmas.Option.{slice_get_within, get_or_from_slice_get, slice_get-get_or}
use Rattle.std.proofs.lemmas.List.Elements.{All-get_or}
use Rattle.std.proofs.lemmas.Bool.{cases_lt}
use Rattle.grid_outside.specs.Device.{Acts, Between, Span}
use Rattle.grid_outside.specs.Fault.{Rose}
use Rattle.grid_outside.specs.Files.{File, Files, StoreState, Writes, Removes, Created, Appended, Finished, IsHashable, IsStable, file_at, unfinished, finished}
use Rattle.grid_model.specs.DataLines.{parts}
use Rattle.grid_vault.specs.Write.{Extends}
use Rattle.grid_outside.proofs.Spans.{acted, goes_on, widens, nat_cases, one_called, lasts, spans_on, some_is, slice_get-set_same, at_place}
use Rattle.grid_vault.specs.Vault.{WritesAmong, HasSlot, RoseAt, IsStableAt}
use Rattle.grid_model.specs.declared.plans.NewFile.{NewFile}

pub Writes-same : (name : ℕ) (files : Files) → Writes name files files
Writes-same name files = record { others = λ other not. refl; stable = λ bytes is. is; short = λ short. short }

pub Writes-on : (name : ℕ) (a b c : Files) → Writes name a b → Writes name b c → Writes name a c
Writes-on name a b c one two = record { others = λ other not. two.others other not ∙ one.others other not; stable = λ bytes is. two.stable bytes (one.stable bytes is); short = λ short. two.short (one.short short) }

module _ (name : ℕ) where
  pub wrote_on : (a b c : ℕ) (old mid new : StoreState) → a ≤ b → b ≤ c → Between a b (Writes name) old mid → Between b c (Writes name) mid new → Between a c (Writes name) old new
  wrote_on a b c old mid new ab bc = goes_on a b c (Writes name) (Writes name) (Writes name) old mid new ab bc (λ x y h. h) (Writes-on name)

  pub wrote_more : (a b c moment : ℕ) (old mid new : StoreState) → a ≤ b → moment ≡ b + 1 → moment ≤ c → mid.faults ≤ new.faults → Between a b (Writes name) old mid → Acts moment (Writes name) mid new → Between a c (Writes name) old new
  wrote_more a b c moment old mid new ab is le faults before acts = wrote_on a b c old mid new ab (omega arith) before (acted b c moment (Writes name) mid new before.last is le faults acts)

  -- a finished file outlives what follows
  pub outlives : (a b : ℕ) (bytes : List ℕ) (change : Files → Files → Type 0) (old new : StoreState) → ((x y : Files) → change x y → file_at x name ≡ finished bytes → file_at y name ≡ finished bytes)
      → IsTrue old.tells → Between a b change old new → old.last ≤ a → IsStable name bytes old → IsStable name bytes new
  outlives a b bytes change old new keeps tells between last stable = record {
    held = keeps _ _ (between.holds tells) stable.held;
    left = λ t image late left. elim (cases_lt a t) [
      | inl lt ↦ let step = between.images tells t image lt left in keeps _ _ step.2 (stable.left (a + 1) step.0 (omega (arith, last)) step.1)
      | inr le ↦ stable.left t image (omega (arith, between.last_from, late)) ((between.earlier t image le).0 left)
    ];
  }

bytes_of : Option File → List ℕ
bytes_of None = []
bytes_of (Some file) = file.bytes

pub same_begun : (a b : List ℕ) → unfinished a ≡ unfinished b → a ≡ b
unfolding bytes_of
same_begun a b e = ap bytes_of e

-- what holds of all holds of each, and the other way round
pub all_at : {X : Type 0} (P : X → Type 0) (xs : List X) (i : ℕ) (x : X) → All P xs → slice_get xs i ≡ Some x → P x
all_at P xs i x all is = subst P (get_or_from_slice_get xs i x x is) (All-get_or P xs i x (slice_get_within xs i x is) all)

pub all_of : {X : Type 0} (P : X → Type 0) (xs : List X) → ((i : ℕ) (x : X) → slice_get xs i ≡ Some x → P x) → All P xs
all_of P xs each k d lt = each k _ (slice_get-get_or xs k d lt)

-- the slot of each file is below the number of stores
pub slot_within : (count : ℕ) (files : List NewFile) (i : ℕ) (file : NewFile) → All (λ (f : NewFile). f.slot < count) files → slice_get files i ≡ Some file → file.slot < count
slot_within count = all_at (λ (f : NewFile). f.slot < count)

-- the bytes were appended but for the rest
abbrev pub ExtendsBut : ℕ → List ℕ → List ℕ → Files → Files → Type 0
ExtendsBut name bytes rest old now = (front : List ℕ) → file_at old name ≡ unfinished front → (so_far : List ℕ) × (file_at now name ≡ unfinished so_far) × (so_far ++ rest ≡ front ++ bytes)

pub extended_more : (name : ℕ) (bytes part after rest : List ℕ) (old mid new : Files) → part ++ after ≡ rest → ExtendsBut name bytes rest old mid → Appended name part mid new → ExtendsBut name bytes after old new
extended_more name bytes part after rest old mid new split so_far appended front is =
    let was = so_far front is in
    let same : appended.front ≡ was.0 = same_begun _ _ (sym appended.was ∙ was.1) in
    (was.0 ++ part, appended.is ∙ ap (λ (xs : List ℕ). unfinished (xs ++ part)) same, append_assoc was.0 part after ∙ ap (λ (xs : List ℕ). was.0 ++ xs) split ∙ was.2)

pub extended_all : (name : ℕ) (bytes : List ℕ) (old new : Files) → ExtendsBut name bytes [] old new → Extends name bytes old new
extended_all name bytes old new so_far front is = let was = so_far front is in was.1 ∙ ap unfinished (sym (append-nil was.0) ∙ was.2)

-- so many appends are left
pub parts_more : (n m : ℕ) → 0 < n → m + min n 65536 ≡ n → parts m + 1 ≤ parts n
parts_more n m some less = omega arith

-- a file that was created, extended and finished
pub written : (name : ℕ) (bytes : List ℕ) (old empty : Files) (full new : StoreState) → Created name old empty → Extends name bytes empty full.holds → Finished name full new → IsStable name bytes new
written name bytes old empty full new created extends is_finished =
    let P : List ℕ → Type 0 = λ xs. IsStable name xs new in
    subst P (same_begun _ _ (sym is_finished.was ∙ extends [] created.empty)) is_finished.stable

-- the first so many of the files are stable
abbrev pub AreStable : {B : Type 0} → (B → StoreState) → ℕ → List NewFile → List ℕ → List B → Type 0
AreStable {B} state count files bytes stores = (i : ℕ) (file : NewFile) → i < count → slice_get files i ≡ Some file → IsStableAt state stores bytes file

module _ (files : List NewFile) where
  pub Among-same : (k : ℕ) (c : Files) → WritesAmong files k c c
  Among-same k c = record { others = λ name not. refl; stable = λ name bytes is. is; short = λ name short. short }

  pub Among-on : (k : ℕ) (a b c : Files) → WritesAmong files k a b → WritesAmong files k b c → WritesAmong files k a c
  Among-on k a b c one two = record { others = λ name not. two.others name not ∙ one.others name not; stable = λ name bytes is. two.stable name bytes (one.stable name bytes is); short = λ name short. two.short name (one.short name short) }

  -- the write of one of the files
  pub Among-one : (i : ℕ) (file : NewFile) → slice_get files i ≡ Some file → (a b : Files) → Writes file.name a b → WritesAmong files file.slot a b
  Among-one i file is a b writes = record {
    others = λ name not. writes.others name (λ e. not (record { place = i; file = file; is = is; slot_is = refl; name_is = sym e }));
    stable = λ name bytes was. elim (nat_cases name file.name) [
      | inl e ↦
          let P : ℕ → Type 0 = λ n. file_at b n ≡ finished bytes in
          let Q : ℕ → Type 0 = λ n. file_at a n ≡ finished bytes in
          subst P (sym e) (writes.stable bytes (subst Q e was))
      | inr other ↦ writes.others name other ∙ was
    ];
    short = λ name was. elim (nat_cases name file.name) [
      | inl e ↦
          let P : ℕ → Type 0 = λ n. IsHashable (file_at b n) in
          let Q : ℕ → Type 0 = λ n. IsHashable (file_at a n) in
          subst P (sym e) (writes.short (subst Q e was))
      | inr other ↦ subst IsHashable (sym (writes.others name other)) was
    ];
  }

  module _ {B : Type 0} (state : B → StoreState) (from a to : ℕ) (old mid : List B) (i : ℕ) (file : NewFile) (x y : B) (is : slice_get files i ≡ Some file)
      (later : from ≤ a) (more : a ≤ to) (so_far : Span state from a (WritesAmong files) (HasSlot files) old mid) (at : slice_get mid file.slot ≡ Some x) (one : Between a to (Writes file.name) (state x) (state y)) where
    pub wrote_next : Span state a to (WritesAmong files) (HasSlot files) mid (set mid file.slot y)
    wrote_next = one_called state (WritesAmong files) Among-same (HasSlot files) a to mid file.slot x y more (lasts state (WritesAmong files) Among-same (HasSlot files) from a old mid so_far) at
        (record { place = i; file = file; is = is; slot_is = refl })
        (widens a to (Writes file.name) (WritesAmong files file.slot) (state x) (state y) (Among-one i file is) one)

    pub wrote_one : Span state from to (WritesAmong files) (HasSlot files) old (set mid file.slot y)
    wrote_one = spans_on state (WritesAmong files) Among-same (HasSlot files) Among-on from a to old mid (set mid file.slot y) later more so_far wrote_next

    -- the count of the slot rose in all if it did at last
    pub rose_at : Rose (state x).faults (state y).faults → RoseAt state file.slot old (set mid file.slot y)
    rose_at rose before after was now =
        let faults = (so_far.each file.slot before x was at).faults in
        let new_is : after ≡ y = some_is after y (sym now ∙ slice_get-set_same mid file.slot y (slice_get_within mid file.slot x at)) in
        let P : B → Type 0 = λ b. Rose (state before).faults (state b).faults in
        subst P (sym new_is) (omega (arith, faults, rose))

    -- the files so far stay, and the next is added
    pub stable_next : (bytes : List ℕ) → AreStable state i files bytes mid → (IsTrue (state x).tells → IsStable file.name bytes (state y)) → AreStable state (i + 1) files bytes (set mid file.slot y)
    stable_next bytes before done j other below other_is store store_is tells = elim (nat_cases j i) [
      | inl e ↦
          let same : other ≡ file = some_is other file (sym other_is ∙ ap (slice_get files) e ∙ is) in
          let R : NewFile → Type 0 = λ f. slice_get (set mid file.slot y) f.slot ≡ Some store in
          let store_same : store ≡ y = some_is store y (sym (subst R same store_is) ∙ slice_get-set_same mid file.slot y (slice_get_within mid file.slot x at)) in
          let S : B → Type 0 = λ b. IsTrue (state b).tells in
          let P : B → Type 0 = λ b. IsStable file.name bytes (state b) in
          let Q : NewFile → Type 0 = λ f. IsStable f.name bytes (state store) in
          subst Q (sym same) (subst P (sym store_same) (done (subst IsTrue one.tells (subst S store_same tells))))
      | inr not ↦
          let was = at_place mid other.slot (omega (arith, slice_get_within (set mid file.slot y) other.slot store store_is, wrote_next.count)) in
          let step = wrote_next.each other.slot was.0 store was.1 store_is in
          let told = subst IsTrue step.tells tells in
          outlives other.name a to bytes (WritesAmong files other.slot) (state was.0) (state store) (λ c d h was_finished. h.stable other.name bytes was_finished) told step
          (lasts state (WritesAmong files) Among-same (HasSlot files) from a old mid so_far other.slot was.0 was.1)
          (before j other (omega arith) other_is was.0 was.1 told)
    ]

pub Removes-same : (name : ℕ) (files : Files) → Removes name files files
Removes-same name files = record { others = λ other not. refl; there_or_not = inl refl }
