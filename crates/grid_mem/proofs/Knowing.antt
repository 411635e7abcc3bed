-- What a stop may leave is what is known of it, call by call.
use Rattle.std.proofs.Common.{◌≡◌, ◌↔◌, inl, inr, ℕ, ◌≤◌, Bool, true, List, [], ◌∷◌, if◌then◌else◌, arith, refl, sym, ap, subst, ◌∙◌}
use Rattle.std.specs.Prelude.{nat_lt}
use Rattle.std.proofs.lemmas.Bool.{cases_lt}
use Rattle.grid_mem.specs.declared.call.Call.{Call}
use Rattle.grid_mem.specs.Calls.{Kind, held_after, LeftAfter, Left, call_fits, is_record, known_at}
use Rattle.grid_mem.specs.CallLaws.{le_not, first_of_all, lt_of, lt_is, le_is}

module _ {Deed C U : Type 0} (kind : Kind Deed C) (after : Bool → C → Call Deed → U → U) where
  -- calls at later moments leave what was left before
  left_later : (t before last : ℕ) (P Q : C → Type 0) (c : C) (calls : List (Call Deed)) → t ≤ before → is_record kind before last c calls ≡ true → ((x : C) → P x ↔ Q x) → (image : C) → Left kind t P c calls image ↔ Q image
  left_later t before last P Q c [] le is same image = same image
  left_later t before last P Q c (call ∷ calls) le is same image =
      let one = first_of_all kind before last c call calls is in
      left_later t call.moment last (LeftAfter kind t P c call) Q (held_after kind c call) calls (omega (arith, one.above, le)) one.others
      (λ x. ((λ l. (same x).0 (l.0 (omega (arith, one.above, le)))), (λ q. ((λ early. (same x).1 q), (λ late. absurd (omega (arith, one.above, le, late))))))) image

  known_later : (t before last : ℕ) (u : U) (c : C) (calls : List (Call Deed)) → t ≤ before → is_record kind before last c calls ≡ true → known_at kind after t c calls u ≡ u
  known_later t before last u c [] le is = refl
  known_later t before last u c (call ∷ calls) le is =
      let one = first_of_all kind before last c call calls is in
      ap (λ (b : Bool). known_at kind after t (held_after kind c call) calls (if b then after (nat_lt call.moment t) c call u else u)) (le_not call.moment t (omega (arith, one.above, le)))
      ∙ known_later t call.moment last u (held_after kind c call) calls (omega (arith, one.above, le)) one.others

  module _ (Allows Inv : U → C → Type 0)
      (step : (over : Bool) (c : C) (call : Call Deed) (u : U) → Inv u c → call_fits kind c call ≡ true → (image : C)
      → ((before : C) × Allows u before × kind.May call.deed before image × (over ≡ true → kind.Sure call.deed call.done (held_after kind c call) image)) ↔ Allows (after over c call u) image)
      (keeps : (c : C) (call : Call Deed) (u : U) → Inv u c → call_fits kind c call ≡ true → Inv (after true c call u) (held_after kind c call)) where
    -- one call that has begun
    begun_step : (t : ℕ) (P : C → Type 0) (c : C) (call : Call Deed) (u : U) → call.moment ≤ t → Inv u c → call_fits kind c call ≡ true → ((x : C) → P x ↔ Allows u x)
        → (x : C) → LeftAfter kind t P c call x ↔ Allows (after (nat_lt call.moment t) c call u) x
    begun_step t P c call u le inv fits same x = (
      (λ l.
          let was = l.1 le in
          (step (nat_lt call.moment t) c call u inv fits x).0 (was.0, (same was.0).0 was.1, was.2, λ over. was.3 (lt_of call.moment t over))),
      (λ allowed.
          let was = (step (nat_lt call.moment t) c call u inv fits x).1 allowed in
          ((λ early. absurd (omega (arith, early, le))), (λ late. (was.0, (same was.0).1 was.1, was.2, λ later. was.3 (lt_is call.moment t later))))),
    )

    pub left_is_known : (t before last : ℕ) (u : U) (P : C → Type 0) (c : C) (calls : List (Call Deed)) → is_record kind before last c calls ≡ true → Inv u c → ((x : C) → P x ↔ Allows u x)
        → (image : C) → Left kind t P c calls image ↔ Allows (known_at kind after t c calls u) image
    left_is_known t before last u P c [] is inv same image = same image
    left_is_known t before last u P c (call ∷ calls) is inv same image =
        let one = first_of_all kind before last c call calls is in
        let next = held_after kind c call in
        elim (cases_lt t call.moment) [
          | inl later ↦
              let ends = left_later t call.moment last (LeftAfter kind t P c call) (Allows u) next calls (omega (arith, later)) one.others
              (λ x. ((λ l. (same x).0 (l.0 later)), (λ a. ((λ early. (same x).1 a), (λ late. absurd (omega (arith, later, late))))))) image in
              let now : known_at kind after t c (call ∷ calls) u ≡ u =
              ap (λ (b : Bool). known_at kind after t next calls (if b then after (nat_lt call.moment t) c call u else u)) (le_not call.moment t later)
              ∙ known_later t call.moment last u next calls (omega (arith, later)) one.others in
              ((λ left. subst (λ v. Allows v image) (sym now) (ends.0 left)), (λ a. ends.1 (subst (λ v. Allows v image) now a)))
          | inr le ↦
              let begun = begun_step t P c call u le inv one.fits same in
              let known : known_at kind after t c (call ∷ calls) u ≡ known_at kind after t next calls (after (nat_lt call.moment t) c call u) =
              ap (λ (b : Bool). known_at kind after t next calls (if b then after (nat_lt call.moment t) c call u else u)) (le_is call.moment t le) in
              elim (cases_lt call.moment t) [
                | inl over ↦
                    let is_over = lt_is call.moment t over in
                    let rest = left_is_known t call.moment last (after (nat_lt call.moment t) c call u) (LeftAfter kind t P c call) next calls one.others
                    (subst (λ (b : Bool). Inv (after b c call u) next) (sym is_over) (keeps c call u inv one.fits)) begun image in
                    ((λ left. subst (λ v. Allows v image) (sym known) (rest.0 left)), (λ a. rest.1 (subst (λ v. Allows v image) known a)))
                | inr not_over ↦
                    let ends = left_later t call.moment last (LeftAfter kind t P c call) (Allows (after (nat_lt call.moment t) c call u)) next calls not_over one.others begun image in
                    let now = known ∙ known_later t call.moment last (after (nat_lt call.moment t) c call u) next calls not_over one.others in
                    ((λ left. subst (λ v. Allows v image) (sym now) (ends.0 left)), (λ a. ends.1 (subst (λ v. Allows v image) now a)))
              ]
        ]
