-- How calls of one file after another go on, each of which takes its file from one state to another.
use Rattle.std.proofs.Common.{◌≡◌, inl, inr, ℕ, ◌+◌, ◌<◌, ◌≤◌, List, All, length, set, slice_get, Some, IsTrue, arith, sym, subst, ap, ◌∙◌}
use Rattle.std.specs.Prelude.{◌≢◌}
use Rattle.std.proofs.lemmas.Option.{slice_get_within}
use Rattle.grid_outside.specs.Device.{Between}
use Rattle.grid_outside.specs.Files.{StoreState, Writes, Finished, IsStable, file_at, unfinished}
use Rattle.grid_outside.proofs.Spans.{nat_cases, some_is, slice_get-set_same, slice_get-set_other}
use Rattle.grid_model.specs.declared.plans.NewFile.{NewFile}
use Rattle.grid_vault.specs.Copying.{AreNamedApart}
use Rattle.grid_vault.proofs.Writing.{all_of, all_at, outlives, same_begun}

-- of a file by its name: it was begun and has these bytes so far
abbrev pub IsBegun : List ℕ → ℕ → StoreState → Type 0
IsBegun bytes name s = file_at s.holds name ≡ unfinished bytes

-- nothing is said of it
abbrev pub IsAny : ℕ → StoreState → Type 0
IsAny name s = Unit {0}

-- it is finished with these bytes for good
abbrev pub IsDone : List ℕ → ℕ → StoreState → Type 0
IsDone bytes name s = IsStable name bytes s

pub keeps_begun : (bytes : List ℕ) (name other a to : ℕ) (old new : StoreState) → name ≢ other → IsTrue old.tells → old.last ≤ a → Between a to (Writes other) old new → IsBegun bytes name old → IsBegun bytes name new
keeps_begun bytes name other a to old new apart tells last between is = (between.holds tells).others name apart ∙ is

pub keeps_any : (name other a to : ℕ) (old new : StoreState) → name ≢ other → IsTrue old.tells → old.last ≤ a → Between a to (Writes other) old new → IsAny name old → IsAny name new
keeps_any name other a to old new apart tells last between is = tt

pub keeps_done : (bytes : List ℕ) (name other a to : ℕ) (old new : StoreState) → name ≢ other → IsTrue old.tells → old.last ≤ a → Between a to (Writes other) old new → IsDone bytes name old → IsDone bytes name new
keeps_done bytes name other a to old new apart tells last between is = outlives name a to bytes (Writes other) old new (λ x y h was. h.others name apart ∙ was) tells between last is

pub stable_of : (name : ℕ) (bytes : List ℕ) (old new : StoreState) → Finished name old new → IsBegun bytes name old → IsStable name bytes new
stable_of name bytes old new done was = let P : List ℕ → Type 0 = λ xs. IsStable name xs new in subst P (same_begun done.bytes bytes (sym done.was ∙ was)) done.stable

module _ {B : Type 0} (state : B → StoreState) (files : List NewFile) where
  -- its store, if that tells, has it so
  abbrev pub HasAt : (ℕ → StoreState → Type 0) → List B → NewFile → Type 0
  HasAt P stores file = (store : B) → slice_get stores file.slot ≡ Some store → IsTrue (state store).tells → P file.name (state store)

  -- the first so many files are so, and the others are still as before
  abbrev pub AreSoFar : (ℕ → StoreState → Type 0) → (ℕ → StoreState → Type 0) → ℕ → List B → Type 0
  AreSoFar P Q i stores = (j : ℕ) (f : NewFile) → slice_get files j ≡ Some f → (j < i → HasAt Q stores f) × (i ≤ j → HasAt P stores f)

  module _ (P Q : ℕ → StoreState → Type 0) where
    pub none_so_far : (stores : List B) → All (HasAt P stores) files → AreSoFar P Q 0 stores
    none_so_far stores all j f is = (λ lt. absurd (omega (arith, lt)), λ le. all_at (HasAt P stores) files j f all is)

    pub all_so_far : (i : ℕ) (stores : List B) → length files ≤ i → AreSoFar P Q i stores → All (HasAt Q stores) files
    all_so_far i stores le so_far = all_of (HasAt Q stores) files (λ j f is. (so_far j f is).0 (omega (arith, le, slice_get_within files j f is)))

    module _ (keeps_before : (name other a to : ℕ) (old new : StoreState) → name ≢ other → IsTrue old.tells → old.last ≤ a → Between a to (Writes other) old new → P name old → P name new)
        (keeps_after : (name other a to : ℕ) (old new : StoreState) → name ≢ other → IsTrue old.tells → old.last ≤ a → Between a to (Writes other) old new → Q name old → Q name new)
        (apart : AreNamedApart files) (i : ℕ) (file : NewFile) (is : slice_get files i ≡ Some file) (a to : ℕ) (mid : List B) (x y : B) (last : (state x).last ≤ a) (at : slice_get mid file.slot ≡ Some x) (one : Between a to (Writes file.name) (state x) (state y))
        (does : IsTrue (state x).tells → P file.name (state x) → Q file.name (state y)) (so_far : AreSoFar P Q i mid) where
      still : (R : ℕ → StoreState → Type 0) → ((name other a to : ℕ) (old new : StoreState) → name ≢ other → IsTrue old.tells → old.last ≤ a → Between a to (Writes other) old new → R name old → R name new)
          → (j : ℕ) (f : NewFile) → slice_get files j ≡ Some f → j ≢ i → HasAt R mid f → HasAt R (set mid file.slot y) f
      still R keeps j f f_is other has store store_is tells = elim (nat_cases f.slot file.slot) [
        | inl same ↦
            let now : store ≡ y = some_is store y (sym store_is ∙ ap (slice_get (set mid file.slot y)) same ∙ slice_get-set_same mid file.slot y (slice_get_within mid file.slot x at)) in
            let T : B → Type 0 = λ b. IsTrue (state b).tells in
            let told : IsTrue (state x).tells = subst IsTrue one.tells (subst T now tells) in
            let F : B → Type 0 = λ b. R f.name (state b) in
            subst F (sym now) (keeps f.name file.name a to (state x) (state y) (λ e. other (apart j i f file f_is is e)) told last one (has x (ap (slice_get mid) same ∙ at) told))
        | inr apart_slot ↦ has store (sym (slice_get-set_other mid file.slot f.slot y apart_slot) ∙ store_is) tells
      ]

      done_now : HasAt Q (set mid file.slot y) file
      done_now store store_is tells =
          let now : store ≡ y = some_is store y (sym store_is ∙ slice_get-set_same mid file.slot y (slice_get_within mid file.slot x at)) in
          let T : B → Type 0 = λ b. IsTrue (state b).tells in
          let told : IsTrue (state x).tells = subst IsTrue one.tells (subst T now tells) in
          let F : B → Type 0 = λ b. Q file.name (state b) in
          subst F (sym now) (does told ((so_far i file is).1 (omega arith) x at told))

      pub next_so_far : AreSoFar P Q (i + 1) (set mid file.slot y)
      next_so_far j f f_is = (
        λ lt. elim (nat_cases j i) [
          | inl e ↦
              let same : file ≡ f = some_is file f (sym is ∙ ap (slice_get files) (sym e) ∙ f_is) in
              let F : NewFile → Type 0 = λ g. HasAt Q (set mid file.slot y) g in
              subst F same done_now
          | inr other ↦ still Q keeps_after j f f_is other ((so_far j f f_is).0 (omega (arith, lt, other)))
        ],
        λ le. still P keeps_before j f f_is (λ e. omega (arith, le, e)) ((so_far j f f_is).1 (omega (arith, le))),
      )
