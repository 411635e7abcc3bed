-- How the removal of many files goes on.
use Rattle.std.proofs.Common.{◌≡◌, ◌⊎◌, inl, inr, ℕ, zero, suc, ◌+◌, ◌-◌, ◌^◌, ◌≤◌, ◌++◌, List, [], ◌∷◌, All, length, drop, min, slice_get, Bool, Some, None, IsTrue, true, false, arith, refl, sym, subst, ap, ◌∙◌, append_assoc}
use Rattle.std.specs.Prelude.{◌==◌, ◌≢◌}
use Rattle.std.proofs.lemmas.Bool.{cases_lt}
use Rattle.std.proofs.lemmas.Bool.Decides.{eqb_tells}
use Rattle.std.proofs.lemmas.List.{append-nil}
use Rattle.std.proofs.lemmas.Option.{slice_get_within}
use Rattle.grid_outside.specs.Device.{Between}
use Rattle.grid_outside.specs.Fault.{Rose}
use Rattle.grid_outside.specs.Files.{Files, StoreState, Removes, IsGone, file_at}
use Rattle.grid_outside.proofs.Spans.{stays, widens, spans_on, last_moments, at_place, same_place, nat_cases}
use Rattle.grid_model.specs.declared.plans.NewFile.{NewFile}
use Rattle.grid_vault.specs.Vault.{HasSlot, RemovesOne, RoseAt, IsGoneAt}
use Rattle.grid_vault.specs.Removal.{RemovesAmong, SplitInto, none, one_gone, one_left, count_in, RemovesOnly, FewerThanFaults}
use Rattle.grid_vault.proofs.Writing.{all_of, all_at}

-- ---- the lists

arith_suc : (i : ℕ) → suc (i + 1) ≡ suc i + 1
arith_suc i = omega arith

pub drop_at : (files : List NewFile) (i : ℕ) (file : NewFile) → slice_get files i ≡ Some file → drop i files ≡ file ∷ drop (i + 1) files
drop_at [] i file is = absurd cc
drop_at (f ∷ files) zero file is = let same : f ≡ file = cc in ap (λ (x : NewFile). x ∷ files) same
drop_at (f ∷ files) (suc i) file is = drop_at files i file is ∙ ap (λ n. file ∷ drop n (f ∷ files)) (arith_suc i)

-- however the others are split, this is how all are
abbrev pub SplitSoFar : List NewFile → ℕ → List NewFile → List NewFile → Type 0
SplitSoFar files i gone left = (g l : List NewFile) → SplitInto (drop i files) g l → SplitInto files (gone ++ g) (left ++ l)

pub split_none : (files : List NewFile) (gone left : List NewFile) → gone ≡ [] → left ≡ [] → SplitSoFar files 0 gone left
split_none files gone left no_gone no_left g l s =
    let P : List NewFile → Type 0 = λ x. SplitInto files (x ++ g) (left ++ l) in
    let Q : List NewFile → Type 0 = λ x. SplitInto files g (x ++ l) in
    subst P (sym no_gone) (subst Q (sym no_left) s)

module _ (files : List NewFile) (i : ℕ) (file : NewFile) (is : slice_get files i ≡ Some file) (gone left : List NewFile) (so_far : SplitSoFar files i gone left) where
  pub split_gone : SplitSoFar files (i + 1) (gone ++ file ∷ []) left
  split_gone g l s =
      let D : List NewFile → Type 0 = λ x. SplitInto x (file ∷ g) l in
      let A : List NewFile → Type 0 = λ x. SplitInto files x (left ++ l) in
      subst A (sym (append_assoc gone (file ∷ []) g)) (so_far (file ∷ g) l (subst D (sym (drop_at files i file is)) (one_gone s)))

  pub split_left : SplitSoFar files (i + 1) gone (left ++ file ∷ [])
  split_left g l s =
      let D : List NewFile → Type 0 = λ x. SplitInto x g (file ∷ l) in
      let A : List NewFile → Type 0 = λ x. SplitInto files (gone ++ g) x in
      subst A (sym (append_assoc left (file ∷ []) l)) (so_far g (file ∷ l) (subst D (sym (drop_at files i file is)) (one_left s)))

drop_all : (files : List NewFile) (i : ℕ) → length files ≤ i → drop i files ≡ []
drop_all [] zero le = refl
drop_all [] (suc i) le = refl
drop_all (f ∷ files) zero le = absurd (omega (arith, le))
drop_all (f ∷ files) (suc i) le = drop_all files i (omega (arith, le))

pub split_all : (files : List NewFile) (i : ℕ) (gone left : List NewFile) → length files ≤ i → SplitSoFar files i gone left → SplitInto files gone left
split_all files i gone left le so_far =
    let D : List NewFile → Type 0 = λ x. SplitInto x [] [] in
    let G : List NewFile → Type 0 = λ x. SplitInto files x (left ++ []) in
    let L : List NewFile → Type 0 = λ x. SplitInto files gone x in
    subst L (append-nil left) (subst G (append-nil gone) (so_far [] [] (subst D (sym (drop_all files i le)) none)))

count_push : (slot : ℕ) (files : List NewFile) (file : NewFile) → count_in slot (files ++ file ∷ []) ≡ count_in slot files + count_in slot (file ∷ [])
count_push slot [] file = omega arith
count_push slot (f ∷ files) file = by (count_push slot files file) (f.slot == slot) refl
  where
    by : count_in slot (files ++ file ∷ []) ≡ count_in slot files + count_in slot (file ∷ []) → (b : Bool) → (f.slot == slot) ≡ b → count_in slot (f ∷ (files ++ file ∷ [])) ≡ count_in slot (f ∷ files) + count_in slot (file ∷ [])
    by rest true is = rw is (omega (arith, rest))
    by rest false is = rw is rest

count_one : (slot : ℕ) (file : NewFile) → count_in slot (file ∷ []) ≤ 1
count_one slot file = by (file.slot == slot) refl
  where
    by : (b : Bool) → (file.slot == slot) ≡ b → count_in slot (file ∷ []) ≤ 1
    by true is = rw is (omega arith)
    by false is = rw is (omega arith)

count_other : (slot : ℕ) (file : NewFile) → (file.slot == slot) ≡ false → count_in slot (file ∷ []) ≡ 0
count_other slot file is = rw is refl

-- ---- the stores

-- no file of the name comes back
pub gone_on : (name a b : ℕ) (change : Files → Files → Type 0) (old new : StoreState) → ((x y : Files) → change x y → file_at x name ≡ None → file_at y name ≡ None) → IsTrue old.tells → Between a b change old new → old.last ≤ a → IsGone name old → IsGone name new
gone_on name a b change old new keeps tells between last gone = record {
  held = keeps _ _ (between.holds tells) gone.held;
  left = λ t image late left. elim (cases_lt a t) [
    | inl lt ↦ let step = between.images tells t image lt left in keeps _ _ step.2 (gone.left (a + 1) step.0 (omega (arith, last)) step.1)
    | inr le ↦ gone.left t image (omega (arith, between.last_from, late)) ((between.earlier t image le).0 left)
  ];
}

module _ (files : List NewFile) where
  pub Removed-same : (k : ℕ) (c : Files) → RemovesAmong files k c c
  Removed-same k c = record { others = λ name not. refl; there_or_not = λ name. inl refl }

  pub Removed-on : (k : ℕ) (a b c : Files) → RemovesAmong files k a b → RemovesAmong files k b c → RemovesAmong files k a c
  Removed-on k a b c one two = record {
    others = λ name not. two.others name not ∙ one.others name not;
    there_or_not = λ name. elim (two.there_or_not name) [
      | inr gone ↦ inr gone
      | inl same ↦ elim (one.there_or_not name) [ inl was ↦ inl (same ∙ was) | inr gone ↦ inr (same ∙ gone) ]
    ];
  }

  -- the removal of one of the files
  pub Removed-one : (i : ℕ) (file : NewFile) → slice_get files i ≡ Some file → (k : ℕ) → k ≡ file.slot → (a b : Files) → Removes file.name a b → RemovesAmong files k a b
  Removed-one i file is k at a b removes = record {
    others = λ name not. removes.others name (λ e. not (record { place = i; file = file; is = is; slot_is = sym at; name_is = sym e }));
    there_or_not = λ name. elim (nat_cases name file.name) [
      | inr other ↦ inl (removes.others name other)
      | inl e ↦ elim removes.there_or_not [ inl was ↦ inl (ap (file_at b) e ∙ was ∙ ap (file_at a) (sym e)) | inr gone ↦ inr (ap (file_at b) e ∙ gone) ]
    ];
  }

  module _ {B : Type 0} (state : B → StoreState) (from a to : ℕ) (old mid new : List B) (i : ℕ) (file : NewFile) (is : slice_get files i ≡ Some file) (later : from ≤ a) (more : a ≤ to)
      (so_far : RemovesOnly state from a files old mid) (one : RemovesOne state a to file mid new) where
    -- it is one of the removals that are asked
    pub removes_next : RemovesOnly state a to files mid new
    removes_next = record {
      count = one.count;
      untouched = λ k before after was now not. one.untouched k before after was now (λ at. not (record { place = i; file = file; is = is; slot_is = sym at }));
      each = λ k before after was now. by k before after was now (nat_cases k file.slot);
    }
      where
        by : (k : ℕ) (before after : B) → slice_get mid k ≡ Some before → slice_get new k ≡ Some after → (k ≡ file.slot) ⊎ (k ≢ file.slot) → Between a to (RemovesAmong files k) (state before) (state after)
        by k before after was now (inl at) = widens a to (Removes file.name) (RemovesAmong files k) (state before) (state after) (Removed-one i file is k at) (one.each k before after was now)
        by k before after was now (inr other) =
            let same : after ≡ before = one.untouched k before after was now other in
            let P : B → Type 0 = λ b. Between a to (RemovesAmong files k) (state before) (state b) in
            subst P (sym same) (stays a to (RemovesAmong files k) (state before) (last_moments state from a (RemovesAmong files) (HasSlot files) old mid so_far k before was) more (Removed-same k))

    pub removes_more : RemovesOnly state from to files old new
    removes_more = spans_on state (RemovesAmong files) Removed-same (HasSlot files) Removed-on from a to old mid new later more so_far removes_next

    -- files that are gone stay so
    gone_still : (f : NewFile) → IsGoneAt state mid f → IsGoneAt state new f
    gone_still f gone store at tells =
        let was = at_place mid f.slot (omega (arith, slice_get_within new f.slot store at, one.count)) in
        let between = removes_next.each f.slot was.0 store was.1 at in
        let told : IsTrue (state was.0).tells = subst IsTrue between.tells tells in
        gone_on f.name a to (RemovesAmong files f.slot) (state was.0) (state store) (λ x y h absent. elim (h.there_or_not f.name) [ inl same ↦ same ∙ absent | inr gone_now ↦ gone_now ]) told between
        (last_moments state from a (RemovesAmong files) (HasSlot files) old mid so_far f.slot was.0 was.1) (gone was.0 was.1 told)

    pub all_gone_still : (gone : List NewFile) → All (IsGoneAt state mid) gone → All (IsGoneAt state new) gone
    all_gone_still gone all = all_of (IsGoneAt state new) gone (λ k f at. gone_still f (all_at (IsGoneAt state mid) gone k f all at))

    -- the counts of the stores have not fallen
    faults_still : (k : ℕ) (before after : B) → slice_get mid k ≡ Some before → slice_get new k ≡ Some after → (state before).faults ≤ (state after).faults
    faults_still k before after was now = (one.each k before after was now).faults

    pub fewer_still : (left : List NewFile) → FewerThanFaults state left old mid → FewerThanFaults state left old new
    fewer_still left fewer slot before after was now =
        let at = at_place mid slot (omega (arith, slice_get_within new slot after now, one.count)) in
        omega (arith, fewer slot before at.0 was at.1, faults_still slot at.0 after at.1 now)

    pub fewer_more : (left : List NewFile) → FewerThanFaults state left old mid → RoseAt state file.slot mid new → FewerThanFaults state (left ++ file ∷ []) old new
    fewer_more left fewer rose slot before after was now =
        let at = at_place mid slot (omega (arith, slice_get_within new slot after now, one.count)) in
        elim (eqb_tells file.slot slot) [
          | inl same ↦
              let R : ℕ → Type 0 = λ n. slice_get mid n ≡ Some at.0 in
              let S : ℕ → Type 0 = λ n. slice_get new n ≡ Some after in
              let more_faults : Rose (state at.0).faults (state after).faults = rose at.0 after (subst R (sym same.1) at.1) (subst S (sym same.1) now) in
              omega (arith, fewer slot before at.0 was at.1, more_faults, count_push slot left file, count_one slot file)
          | inr other ↦
              omega (arith, fewer slot before at.0 was at.1, faults_still slot at.0 after at.1 now, count_push slot left file, count_other slot file other.0)
        ]

-- what holds of all holds of one more
pub all_push : {X : Type 0} (P : X → Type 0) (xs : List X) (x : X) → All P xs → P x → All P (xs ++ x ∷ [])
all_push P xs x all one = all_of P (xs ++ x ∷ []) (λ k y at. by xs k y (λ i z is. all_at P xs i z all is) at)
  where
    by : (ys : List _) (k : ℕ) (y : _) → ((i : ℕ) (z : _) → slice_get ys i ≡ Some z → P z) → slice_get (ys ++ x ∷ []) k ≡ Some y → P y
    by [] zero y each at = let same : x ≡ y = cc in subst P same one
    by [] (suc k) y each at = absurd cc
    by (z ∷ ys) zero y each at = each 0 y at
    by (z ∷ ys) (suc k) y each at = by ys k y (λ i w is. each (suc i) w is) at

-- nothing is gone or left yet
pub none_gone : {B : Type 0} (state : B → StoreState) (stores : List B) (gone : List NewFile) → gone ≡ [] → All (IsGoneAt state stores) gone
none_gone state stores gone no_gone = let P : List NewFile → Type 0 = λ x. All (IsGoneAt state stores) x in subst P (sym no_gone) (all_of (IsGoneAt state stores) [] (λ k f at. absurd cc))

pub none_fewer : {B : Type 0} (state : B → StoreState) (stores : List B) (left : List NewFile) → left ≡ [] → FewerThanFaults state left stores stores
none_fewer state stores left no_left slot before after was now =
    let P : List NewFile → Type 0 = λ x. min ((state before).faults + count_in slot x) (2 ^ 64 - 1) ≤ (state after).faults in
    let F : _ → Type 0 = λ b. min ((state before).faults + 0) (2 ^ 64 - 1) ≤ (state b).faults in
    subst P (sym no_left) (subst F (sym (same_place stores slot before after was now)) (omega arith))

-- what is gone so far and what is left, with one more of the one or of the other
module _ (files : List NewFile) {B : Type 0} (state : B → StoreState) (from a to : ℕ) (old mid new : List B) (i : ℕ) (file : NewFile) (is : slice_get files i ≡ Some file) (later : from ≤ a) (more : a ≤ to)
    (so_far : RemovesOnly state from a files old mid) (one : RemovesOne state a to file mid new) (gone left gone_now left_now : List NewFile) (split_so : SplitSoFar files i gone left) (gone_so : All (IsGoneAt state mid) gone) (fewer_so : FewerThanFaults state left old mid) where
  pub record NowSplit : Type 0 where
    pub is_split : SplitSoFar files (i + 1) gone_now left_now
    pub are_gone : All (IsGoneAt state new) gone_now
    pub are_fewer : FewerThanFaults state left_now old new

  pub one_is_gone : gone_now ≡ gone ++ file ∷ [] → left_now ≡ left → IsGoneAt state new file → NowSplit
  one_is_gone gone_is left_is its =
      let S : List NewFile → List NewFile → Type 0 = λ x y. SplitSoFar files (i + 1) x y in
      let G : List NewFile → Type 0 = λ x. All (IsGoneAt state new) x in
      let F : List NewFile → Type 0 = λ x. FewerThanFaults state x old new in
      record {
        is_split = (let T : List NewFile → Type 0 = λ x. S x left_now in let U : List NewFile → Type 0 = λ y. S (gone ++ file ∷ []) y in subst T (sym gone_is) (subst U (sym left_is) (split_gone files i file is gone left split_so)));
        are_gone = subst G (sym gone_is) (all_push (IsGoneAt state new) gone file (all_gone_still files state from a to old mid new i file is later more so_far one gone gone_so) its);
        are_fewer = subst F (sym left_is) (fewer_still files state from a to old mid new i file is later more so_far one left fewer_so);
      }

  pub one_is_left : gone_now ≡ gone → left_now ≡ left ++ file ∷ [] → RoseAt state file.slot mid new → NowSplit
  one_is_left gone_is left_is rose =
      let S : List NewFile → List NewFile → Type 0 = λ x y. SplitSoFar files (i + 1) x y in
      let G : List NewFile → Type 0 = λ x. All (IsGoneAt state new) x in
      let F : List NewFile → Type 0 = λ x. FewerThanFaults state x old new in
      record {
        is_split = (let T : List NewFile → Type 0 = λ x. S x left_now in let U : List NewFile → Type 0 = λ y. S gone y in subst T (sym gone_is) (subst U (sym left_is) (split_left files i file is gone left split_so)));
        are_gone = subst G (sym gone_is) (all_gone_still files state from a to old mid new i file is later more so_far one gone gone_so);
        are_fewer = subst F (sym left_is) (fewer_more files state from a to old mid new i file is later more so_far one left fewer_so rose);
      }
