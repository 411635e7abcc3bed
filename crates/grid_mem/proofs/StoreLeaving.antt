-- What a stop may leave of a store is what its rules allow of each file.
use Rattle.std.proofs.Common.{◌≡◌, ◌≢◌, ◌↔◌, inl, inr, ℕ, Bool, true, false, List, [], ◌∷◌, Option, if◌then◌else◌, arith, refl, sym, ap, subst, ◌∙◌}
use Rattle.std.specs.Prelude.{nat_eq}
use Rattle.std.specs.Ordering.{nat_cmp}
use Rattle.std.specs.FinMap.{get-empty}
use Rattle.std.proofs.lemmas.Bool.Decides.{nat_tests}
use Rattle.grid_outside.specs.Files.{File, Files, file_at, IsHashable, Writes, Removes}
use Rattle.grid_outside.specs.StoreModel.{Known, exactly, MayBe, after_writing, after_removing}
use Rattle.grid_mem.specs.declared.mem_file.MemFile.{MemFile}
use Rattle.grid_mem.specs.declared.mem_store.MemStore.{MemStore}
use Rattle.grid_mem.specs.declared.store_deed.StoreDeed.{StoreDeed}
use Rattle.grid_mem.specs.declared.store_deed.StoreDeed.TheVariants.{Create, Append, Finish, Remove}
use Rattle.grid_outside.proofs.Spans.{nat_cases}
use Rattle.grid_mem.specs.FilesLaws.{at_same, at_other, same_files}
use Rattle.grid_mem.specs.MemFile.{file_of, files_of}
use Rattle.grid_mem.specs.MemFiles.{contents}
use Rattle.grid_mem.specs.MemStore.{store_of, store_history}
use Rattle.grid_mem.specs.StoreCalls.{store_kind, store_after, call_fitted, name_of, StoreMay, StoreSure, known_after, known_files_after, known_files_at, MayBeFiles}
use Rattle.grid_mem.specs.StoreLaws.{store_laws}
use Rattle.grid_mem.proofs.Knowing.{left_is_known}
use Rattle.grid_mem.proofs.StoreRules.{IsKnownShort, Rewrites, Loses, written, unwritten, written_short, removed, unremoved, removed_short, replaced, at_replaced, beside_replaced}

here : (name : ℕ) → nat_eq name name ≡ true
here name = grind (arith, nat_tests)

elsewhere : (other name : ℕ) → other ≢ name → nat_eq other name ≡ false
elsewhere other name apart = grind (arith, nat_tests)

-- what holds at one name and at the others holds at each
at_each : (P : ℕ → Type 0) (name : ℕ) → P name → ((other : ℕ) → other ≢ name → P other) → (n : ℕ) → P n
at_each P name own others n = elim (nat_cases n name) [ inl e ↦ subst P (sym e) own | inr apart ↦ others n apart ]

module _ (over : Bool) (held : Files) (deed : StoreDeed) (done : Bool) (u : ℕ → Known) (image : Files) where
  -- what is known of the file that the deed is about
  unfoldable pub own_known : Known
  own_known = known_after over (file_at (store_after held deed done) (name_of deed)) deed done (u (name_of deed))

  own_is : known_files_after over held deed done u (name_of deed) ≡ own_known
  unfolding own_known
  own_is = ap (λ (b : Bool). if b then known_after over (file_at (store_after held deed done) (name_of deed)) deed done (u (name_of deed)) else u (name_of deed)) (here (name_of deed))

  other_is : (other : ℕ) → other ≢ name_of deed → known_files_after over held deed done u other ≡ u other
  other_is other apart = ap (λ (b : Bool). if b then known_after over (file_at (store_after held deed done) other) deed done (u other) else u other) (elsewhere other (name_of deed) apart)

  -- by the file that the deed is about and the others
  pub to_each : MayBe own_known (file_at image (name_of deed)) → ((other : ℕ) → other ≢ name_of deed → MayBe (u other) (file_at image other)) → MayBeFiles (known_files_after over held deed done u) image
  to_each own others =
      at_each (λ n. MayBe (known_files_after over held deed done u n) (file_at image n)) (name_of deed)
      (subst (λ k. MayBe k (file_at image (name_of deed))) (sym own_is) own) (λ other apart. subst (λ k. MayBe k (file_at image other)) (sym (other_is other apart)) (others other apart))

  pub to_own : MayBeFiles (known_files_after over held deed done u) image → MayBe own_known (file_at image (name_of deed))
  to_own all = subst (λ k. MayBe k (file_at image (name_of deed))) own_is (all (name_of deed))

  to_other : MayBeFiles (known_files_after over held deed done u) image → (other : ℕ) → other ≢ name_of deed → MayBe (u other) (file_at image other)
  to_other all other apart = subst (λ k. MayBe k (file_at image other)) (other_is other apart) (all other)

module _ (name : ℕ) (u : ℕ → Known) (image : Files) where
  rewrites_of : (before : Files) → Writes name before image → Rewrites (file_at before name) (file_at image name)
  rewrites_of before writes = record { stable = writes.stable; short = writes.short }

  -- the others stayed, if the step was back from there
  module _ (others : (other : ℕ) → other ≢ name → MayBe (u other) (file_at image other)) (old : Option File) (may_be : MayBe (u name) old) where
    allowed_before : MayBeFiles u (replaced image name old)
    allowed_before =
        at_each (λ n. MayBe (u n) (file_at (replaced image name old) n)) name (subst (MayBe (u name)) (sym (at_replaced image name old)) may_be)
        (λ other apart. subst (MayBe (u other)) (sym (beside_replaced image name old other apart)) (others other apart))

    write_back : Rewrites old (file_at image name) → (before : Files) × MayBeFiles u before × Writes name before image
    write_back rewrites = (
      replaced image name old,
      allowed_before,
      record {
        others = λ other apart. sym (beside_replaced image name old other apart);
        stable = λ bytes e. rewrites.stable bytes (sym (at_replaced image name old) ∙ e);
        short = λ short. rewrites.short (subst IsHashable (at_replaced image name old) short);
      },
    )

    remove_back : Loses old (file_at image name) → (before : Files) × MayBeFiles u before × Removes name before image
    remove_back loses = (
      replaced image name old,
      allowed_before,
      record {
        others = λ other apart. sym (beside_replaced image name old other apart);
        there_or_not = elim loses [ inl same ↦ inl (same ∙ sym (at_replaced image name old)) | inr gone ↦ inr gone ];
      },
    )

-- what is known fits what is held, and all is short
pub record IsKnown (u : ℕ → Known) (held : Files) : Type 0 where
  pub allows : MayBeFiles u held
  pub short : (name : ℕ) → IsHashable (file_at held name)
  pub known_short : (name : ℕ) → IsKnownShort (u name)

-- what a step leads to from an image that was allowed
abbrev pub Steps : Bool → Files → StoreDeed → Bool → (ℕ → Known) → Files → Type 0
Steps over held deed done u image = (before : Files) × MayBeFiles u before × StoreMay deed before image × (over ≡ true → StoreSure deed done (store_after held deed done) image)

module _ (held : Files) (u : ℕ → Known) (known : IsKnown u held) (image : Files) where
  after_write : (name : ℕ) (before : Files) → MayBeFiles u before → Writes name before image → MayBe (after_writing (u name)) (file_at image name)
  after_write name before allowed writes = written (u name) (file_at before name) (file_at image name) (known.known_short name) (allowed name) (rewrites_of name u image before writes)

  beside_write : (name : ℕ) (before : Files) → MayBeFiles u before → Writes name before image → (other : ℕ) → other ≢ name → MayBe (u other) (file_at image other)
  beside_write name before allowed writes other apart = subst (MayBe (u other)) (sym (writes.others other apart)) (allowed other)

  after_remove : (name : ℕ) (before : Files) → MayBeFiles u before → Removes name before image → MayBe (after_removing (u name)) (file_at image name)
  after_remove name before allowed removes = removed (u name) (file_at before name) (file_at image name) (allowed name) removes.there_or_not

  beside_remove : (name : ℕ) (before : Files) → MayBeFiles u before → Removes name before image → (other : ℕ) → other ≢ name → MayBe (u other) (file_at image other)
  beside_remove name before allowed removes other apart = subst (MayBe (u other)) (sym (removes.others other apart)) (allowed other)

  module _ (name : ℕ) (others : (other : ℕ) → other ≢ name → MayBe (u other) (file_at image other)) where
    before_write : MayBe (after_writing (u name)) (file_at image name) → (before : Files) × MayBeFiles u before × Writes name before image
    before_write allowed = let old = unwritten (u name) (file_at image name) allowed in write_back name u image others old.0 old.1 old.2

    before_remove : MayBe (after_removing (u name)) (file_at image name) → (before : Files) × MayBeFiles u before × Removes name before image
    before_remove allowed = let old = unremoved (u name) (file_at image name) allowed in remove_back name u image others old.0 old.1 old.2

    -- the file is what is held after the call
    before_sure_write : (next : Files) → Writes name held next → file_at image name ≡ file_at next name → (before : Files) × MayBeFiles u before × Writes name before image
    before_sure_write next writes same = write_back name u image others (file_at held name) (known.allows name) (record {
      stable = λ bytes e. same ∙ writes.stable bytes e;
      short = λ short. subst IsHashable (sym same) (writes.short short);
    })

    before_sure_remove : (next : Files) → Removes name held next → file_at image name ≡ file_at next name → (before : Files) × MayBeFiles u before × Removes name before image
    before_sure_remove next removes same = remove_back name u image others (file_at held name) (known.allows name) (elim removes.there_or_not [ inl kept ↦ inl (same ∙ kept) | inr gone ↦ inr (same ∙ gone) ])

  -- from what was allowed before to what is allowed after
  store_forth : (over : Bool) (deed : StoreDeed) (done : Bool) → Steps over held deed done u image → MayBeFiles (known_files_after over held deed done u) image
  unfolding own_known
  store_forth over (Create name) done step = to_each over held (Create name) done u image (after_write name step.0 step.1 step.2) (beside_write name step.0 step.1 step.2)
  store_forth over (Append name bytes) done step = to_each over held (Append name bytes) done u image (after_write name step.0 step.1 step.2) (beside_write name step.0 step.1 step.2)
  store_forth true (Finish name) true step = to_each true held (Finish name) true u image (step.3 refl) (beside_write name step.0 step.1 step.2)
  store_forth true (Finish name) false step = to_each true held (Finish name) false u image (after_write name step.0 step.1 step.2) (beside_write name step.0 step.1 step.2)
  store_forth false (Finish name) done step = to_each false held (Finish name) done u image (after_write name step.0 step.1 step.2) (beside_write name step.0 step.1 step.2)
  store_forth true (Remove name) true step = to_each true held (Remove name) true u image (step.3 refl) (beside_remove name step.0 step.1 step.2)
  store_forth true (Remove name) false step = to_each true held (Remove name) false u image (after_remove name step.0 step.1 step.2) (beside_remove name step.0 step.1 step.2)
  store_forth false (Remove name) done step = to_each false held (Remove name) done u image (after_remove name step.0 step.1 step.2) (beside_remove name step.0 step.1 step.2)

  -- and back
  store_back : (over : Bool) (deed : StoreDeed) (done : Bool) → call_fitted held deed done ≡ true → MayBeFiles (known_files_after over held deed done u) image → Steps over held deed done u image
  unfolding own_known
  store_back over (Create name) done fits allowed =
      let back = before_write name (to_other over held (Create name) done u image allowed) (to_own over held (Create name) done u image allowed) in (back.0, back.1, back.2, λ over. tt)
  store_back over (Append name bytes) done fits allowed =
      let back = before_write name (to_other over held (Append name bytes) done u image allowed) (to_own over held (Append name bytes) done u image allowed) in (back.0, back.1, back.2, λ over. tt)
  store_back true (Finish name) true fits allowed =
      let same = to_own true held (Finish name) true u image allowed in
      let back = before_sure_write name (to_other true held (Finish name) true u image allowed) (store_after held (Finish name) true) (store_laws.may (Finish name) true held fits) same in
      (back.0, back.1, back.2, λ over. same)
  store_back true (Finish name) false fits allowed =
      let back = before_write name (to_other true held (Finish name) false u image allowed) (to_own true held (Finish name) false u image allowed) in (back.0, back.1, back.2, λ over. tt)
  store_back false (Finish name) done fits allowed =
      let back = before_write name (to_other false held (Finish name) done u image allowed) (to_own false held (Finish name) done u image allowed) in (back.0, back.1, back.2, λ over. absurd (cc over))
  store_back true (Remove name) true fits allowed =
      let same = to_own true held (Remove name) true u image allowed in
      let back = before_sure_remove name (to_other true held (Remove name) true u image allowed) (store_after held (Remove name) true) (store_laws.may (Remove name) true held fits) same in
      (back.0, back.1, back.2, λ over. same)
  store_back true (Remove name) false fits allowed =
      let back = before_remove name (to_other true held (Remove name) false u image allowed) (to_own true held (Remove name) false u image allowed) in (back.0, back.1, back.2, λ over. tt)
  store_back false (Remove name) done fits allowed =
      let back = before_remove name (to_other false held (Remove name) done u image allowed) (to_own false held (Remove name) done u image allowed) in (back.0, back.1, back.2, λ over. absurd (cc over))

-- a call that is over leaves what is known short
known_stays_short : (deed : StoreDeed) (done : Bool) (file : Option File) (known : Known) → IsHashable file → IsKnownShort known → IsKnownShort (known_after true file deed done known)
known_stays_short (Create name) done file known short was = written_short known was
known_stays_short (Append name bytes) done file known short was = written_short known was
known_stays_short (Finish name) true file known short was = short
known_stays_short (Finish name) false file known short was = written_short known was
known_stays_short (Remove name) true file known short was = short
known_stays_short (Remove name) false file known short was = removed_short known was

write_short : (name : ℕ) (old new : Files) → Writes name old new → ((n : ℕ) → IsHashable (file_at old n)) → (n : ℕ) → IsHashable (file_at new n)
write_short name old new writes short = at_each (λ n. IsHashable (file_at new n)) name (writes.short (short name)) (λ other apart. subst IsHashable (sym (writes.others other apart)) (short other))

remove_short : (name : ℕ) (old new : Files) → Removes name old new → ((n : ℕ) → IsHashable (file_at old n)) → (n : ℕ) → IsHashable (file_at new n)
remove_short name old new removes short =
    at_each (λ n. IsHashable (file_at new n)) name (elim removes.there_or_not [ inl kept ↦ subst IsHashable (sym kept) (short name) | inr gone ↦ subst IsHashable (sym gone) tt ])
    (λ other apart. subst IsHashable (sym (removes.others other apart)) (short other))

may_short : (deed : StoreDeed) (old new : Files) → StoreMay deed old new → ((n : ℕ) → IsHashable (file_at old n)) → (n : ℕ) → IsHashable (file_at new n)
may_short (Create name) old new may short = write_short name old new may short
may_short (Append name bytes) old new may short = write_short name old new may short
may_short (Finish name) old new may short = write_short name old new may short
may_short (Remove name) old new may short = remove_short name old new may short

stays_known : (held : Files) (deed : StoreDeed) (done : Bool) (u : ℕ → Known) → IsKnown u held → call_fitted held deed done ≡ true → IsKnown (known_files_after true held deed done u) (store_after held deed done)
unfolding own_known
stays_known held deed done u known fits =
    let next = store_after held deed done in
    let may = store_laws.may deed done held fits in
    let short = may_short deed held next may known.short in
    record {
      allows = store_forth held u known next true deed done (held, known.allows, may, λ over. store_laws.sure deed done next);
      short = short;
      known_short =
          at_each (λ n. IsKnownShort (known_files_after true held deed done u n)) (name_of deed)
          (subst IsKnownShort (sym (own_is true held deed done u next)) (known_stays_short deed done (file_at next (name_of deed)) (u (name_of deed)) (short (name_of deed)) (known.known_short (name_of deed))))
          (λ other apart. subst IsKnownShort (sym (other_is true held deed done u next other apart)) (known.known_short other));
    }

-- each file of a list is short
files_short : (ms : List MemFile) (name : ℕ) → IsHashable (file_at (files_of ms) name)
files_short [] name = subst IsHashable (sym (get-empty nat_cmp name)) tt
files_short (m ∷ ms) name =
    at_each (λ n. IsHashable (file_at (files_of (m ∷ ms)) n)) m.name (subst IsHashable (sym (at_same (files_of ms) m.name (file_of m))) m.short)
    (λ other apart. subst IsHashable (sym (at_other (files_of ms) m.name other (file_of m) apart)) (files_short ms other)) name

pub store_leaves : (s : MemStore) (t : ℕ) (image : Files) → (store_of s).left t image ↔ MayBeFiles (known_files_at t (store_history s)) image
unfolding store_of
store_leaves s t image =
    let start = contents s.history.start in
    let short = files_short s.history.start.files.items in
    left_is_known store_kind (λ over files call. known_files_after over files call.deed call.done) MayBeFiles IsKnown
    (λ over held call u known fits image. ((λ step. store_forth held u known image over call.deed call.done step), (λ allowed. store_back held u known image over call.deed call.done fits allowed)))
    (λ held call u known fits. stays_known held call.deed call.done u known fits)
    t 0 s.last (λ name. exactly (file_at start name)) (λ x. x ≡ start) start s.history.calls.items s.valid (record { allows = λ name. refl; short = short; known_short = short })
    (λ x. ((λ is name. ap (λ (fs : Files). file_at fs name) is), (λ allowed. same_files x start allowed))) image
