-- What a call that was recorded, or that was not for want of memory, makes of what a device means.
use Rattle.std.proofs.Common.{◌≡◌, inl, inr, Bool, true, false, Result, ◌↔◌, ℕ, ◌<◌, Bool, true, List, [], ◌∷◌, ◌++◌, arith, refl, sym, subst, ap, ◌∙◌}
use Rattle.std.proofs.lemmas.Result.{on_ok_weaker, on_err_weaker}
use Rattle.grid_outside.specs.Device.{Acts}
use Rattle.grid_mem.specs.declared.call.Call.{Call}
use Rattle.grid_mem.specs.Calls.{Adds, History, Records, Kind, call_fits, held, held_after, is_record, Left, LeftAfter}
use Rattle.grid_mem.specs.Recorded.{state_in}
use Rattle.grid_mem.specs.CallLaws.{Laws, is_record-push, is_record-later, Left-push, held-push, steady_from}

module _ {Deed C : Type 0} (kind : Kind Deed C) (laws : Laws kind) (tells : Bool) (start now : C) (calls : List (Call Deed)) (faults last : ℕ) (is : is_record kind 0 last start calls ≡ true) (now_is : now ≡ held kind start calls) where
  module _ (moment faults_after : ℕ) (next : C) (more : List (Call Deed)) (after : last < moment) (is_more : is_record kind 0 moment start more ≡ true) (next_is : next ≡ held kind start more) where
    module _ (call : Call Deed) (at : call.moment ≡ moment) (more_is : more ≡ calls ++ call ∷ []) (may : kind.May call.deed now next) where
      to_push : (t : ℕ) (image : C) → Left kind t (λ x. x ≡ start) start more image ↔ LeftAfter kind t (Left kind t (λ x. x ≡ start) start calls) (held kind start calls) call image
      to_push t image =
          let push = Left-push kind t (λ x. x ≡ start) start calls call image in
          let P : List (Call Deed) → Type 0 = λ cs. Left kind t (λ x. x ≡ start) start cs image in
          ((λ left. push.0 (subst P more_is left)), (λ left. subst P (sym more_is) (push.1 left)))

      pub recorded : Acts moment (kind.May call.deed) (state_in kind laws tells faults last start now calls is now_is) (state_in kind laws tells faults_after moment start next more is_more next_is)
      recorded = record {
        last = refl;
        tells = refl;
        holds = λ tells. may;
        earlier = λ t image early. (
          (λ left. ((to_push t image).0 left).0 (omega (arith, at, early))),
          (λ left. (to_push t image).1 ((λ e. left), (λ late. absurd (omega (arith, at, early, late))))),
        );
        images = λ tells t image late left.
            let step = ((to_push t image).0 left).1 (omega (arith, at, late)) in
            (step.0, steady_from kind t moment 0 last (λ x. x ≡ start) (λ x. x ≡ start) start calls (omega (arith, after, late)) (omega (arith, after)) is (λ x e. e) step.0 step.1, step.2);
      }

      -- what is sure of each image after it
      pub sure_after : (t : ℕ) (image : C) → moment < t → Left kind t (λ x. x ≡ start) start more image → kind.Sure call.deed call.done (held kind start more) image
      sure_after t image late left =
          let step = ((to_push t image).0 left).1 (omega (arith, at, late)) in
          let same : held kind start more ≡ held_after kind (held kind start calls) call = ap (held kind start) more_is ∙ held-push kind start calls call in
          let P : C → Type 0 = λ x. kind.Sure call.deed call.done x image in
          subst P (sym same) (step.3 (omega (arith, at, late)))

    -- it was not recorded, and nothing was done
    pub not_recorded : (change : C → C → Type 0) → ((x : C) → change x x) → more ≡ calls → next ≡ now → Acts moment change (state_in kind laws tells faults last start now calls is now_is) (state_in kind laws tells faults_after moment start next more is_more next_is)
    not_recorded change nothing same next_same =
        let P : ℕ → C → List (Call Deed) → Type 0 = λ t image cs. Left kind t (λ x. x ≡ start) start cs image in
        record {
          last = refl;
          tells = refl;
          holds = λ tells. let Q : C → Type 0 = λ x. change now x in subst Q (sym next_same) (nothing now);
          earlier = λ t image early. ((λ left. subst (P t image) same left), (λ left. subst (P t image) (sym same) left));
          images = λ tells t image late left.
              (image, steady_from kind t moment 0 last (λ x. x ≡ start) (λ x. x ≡ start) start calls (omega (arith, after, late)) (omega (arith, after)) is (λ x e. e) image (subst (P t image) same left), nothing image);
        }

  -- one call more
  module _ (moment : ℕ) (next : C) (more : List (Call Deed)) (call : Call Deed) (after : last < moment) (at : call.moment ≡ moment) (fits : call_fits kind now call ≡ true)
      (more_is : more ≡ calls ++ call ∷ []) (next_is : next ≡ held_after kind now call) where
    pub valid_more : is_record kind 0 moment start more ≡ true
    valid_more =
        let P : List (Call Deed) → Type 0 = λ cs. is_record kind 0 moment start cs ≡ true in
        let Q : C → Type 0 = λ x. call_fits kind x call ≡ true in
        subst P (sym more_is) (is_record-push kind 0 last moment start calls call is (omega (arith, after, at)) (omega (arith, after, at)) (omega (arith, at)) (subst Q now_is fits))

    pub same_more : next ≡ held kind start more
    same_more = next_is ∙ ap (λ x. held_after kind x call) now_is ∙ sym (held-push kind start calls call) ∙ sym (ap (held kind start) more_is)

    pub may_more : kind.May call.deed now next
    may_more =
        let P : C → Type 0 = λ x. kind.May call.deed now x in
        subst P (sym next_is) (laws.may call.deed call.done now fits)

    pub acts_more : (faults_after : ℕ) (is_more : is_record kind 0 moment start more ≡ true) (now_more : next ≡ held kind start more)
        → Acts moment (kind.May call.deed) (state_in kind laws tells faults last start now calls is now_is) (state_in kind laws tells faults_after moment start next more is_more now_more)
    acts_more faults_after is_more now_more = recorded moment faults_after next more after is_more now_more call at more_is may_more

    pub sure_more : (t : ℕ) (image : C) → moment < t → Left kind t (λ x. x ≡ start) start more image → kind.Sure call.deed call.done next image
    sure_more t image late left =
        let P : C → Type 0 = λ x. kind.Sure call.deed call.done x image in
        subst P (sym same_more) (sure_after moment faults next more after valid_more same_more call at more_is may_more t image late left)

  -- none more
  module _ (moment : ℕ) (next : C) (more : List (Call Deed)) (after : last < moment) (more_is : more ≡ calls) (next_is : next ≡ now) where
    pub valid_none : is_record kind 0 moment start more ≡ true
    valid_none = let P : List (Call Deed) → Type 0 = λ cs. is_record kind 0 moment start cs ≡ true in subst P (sym more_is) (is_record-later kind 0 last moment start calls (omega (arith, after)) is)

    pub same_none : next ≡ held kind start more
    same_none = next_is ∙ now_is ∙ sym (ap (held kind start) more_is)

    pub acts_none : (faults_after : ℕ) (is_more : is_record kind 0 moment start more ≡ true) (now_more : next ≡ held kind start more) (change : C → C → Type 0) → ((x : C) → change x x)
        → Acts moment change (state_in kind laws tells faults last start now calls is now_is) (state_in kind laws tells faults_after moment start next more is_more now_more)
    acts_none faults_after is_more now_more change nothing = not_recorded moment faults_after next more after is_more now_more change nothing more_is next_is

adds_as : {Deed : Type 0} (moment : ℕ) (narrow wide : Deed → Type 0) (done : Bool) (old new : List (Call Deed)) → ((deed : Deed) → narrow deed → wide deed) → Adds moment narrow done old new → Adds moment wide done old new
adds_as moment narrow wide done old new more adds = record { call = adds.call; moment_is = adds.moment_is; deed_is = more adds.call.deed adds.deed_is; done_is = adds.done_is; added = adds.added }

-- a call was recorded, by what is known of its deed
pub records_as : {Deed C T E : Type 0} (moment : ℕ) (narrow wide : Deed → Type 0) (old new : History Deed C) (result : Result T E) → ((deed : Deed) → narrow deed → wide deed) → Records moment narrow old new result → Records moment wide old new result
records_as moment narrow wide old new result more records = record {
  start = records.start;
  done = on_ok_weaker result (adds_as moment narrow wide true old.calls new.calls more) records.done;
  failed = on_err_weaker result (λ was. elim was [ inl same ↦ inl same | inr adds ↦ inr (adds_as moment narrow wide false old.calls new.calls more adds) ]) records.failed;
}
