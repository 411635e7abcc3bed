-- The laws of calls by moment, which what a device means carries with it. Proofs: no contract cites them.
use Rattle.std.proofs.Common.{◌≡◌, ◌↔◌, ℕ, ◌<◌, ◌≤◌, Bool, true, false, ◌&&◌, List, [], ◌∷◌, ◌++◌, refl, arith, ap, ◌∙◌}
use Rattle.std.specs.Prelude.{nat_lt, nat_le}
use Rattle.std.proofs.lemmas.Bool.Decides.{nat_tests}
use Rattle.grid_mem.specs.declared.call.Call.{Call}
use Rattle.grid_mem.specs.Calls.{Kind, held_after, held, LeftAfter, Left, call_fits, is_record}

-- what a call does is what it may do, and what is sure after a call holds of what is held then
pub record Laws {Deed C : Type 0} (kind : Kind Deed C) : Type 0 where
  pub may : (deed : Deed) (done : Bool) (c : C) → kind.fits c deed done ≡ true → kind.May deed c (kind.after c deed done)
  pub sure : (deed : Deed) (done : Bool) (c : C) → kind.Sure deed done c c

pub both : (a b : Bool) → (a && b) ≡ true → (a ≡ true) × (b ≡ true)
both true b e = (refl, e)
both false b e = absurd (cc e)

pub lt_of : (a b : ℕ) → nat_lt a b ≡ true → a < b
lt_of a b e = grind (arith, nat_tests)

pub le_of : (a b : ℕ) → nat_le a b ≡ true → a ≤ b
le_of a b e = grind (arith, nat_tests)

pub lt_is : (a b : ℕ) → a < b → nat_lt a b ≡ true
lt_is a b h = grind (arith, nat_tests)

pub le_is : (a b : ℕ) → a ≤ b → nat_le a b ≡ true
le_is a b h = grind (arith, nat_tests)

pub lt_not : (a b : ℕ) → b ≤ a → nat_lt a b ≡ false
lt_not a b h = grind (arith, nat_tests)

pub le_not : (a b : ℕ) → b < a → nat_le a b ≡ false
le_not a b h = grind (arith, nat_tests)

pub above_of : (a b : ℕ) → nat_le a b ≡ false → b < a
above_of a b e = grind (arith, nat_tests)

module _ {Deed C : Type 0} (kind : Kind Deed C) where
  -- what a record with a first call says of that and of the others
  pub record First (before last : ℕ) (c : C) (call : Call Deed) (calls : List (Call Deed)) : Type 0 where
    pub above : before < call.moment
    pub within : call.moment ≤ last
    pub fits : call_fits kind c call ≡ true
    pub others : is_record kind call.moment last (held_after kind c call) calls ≡ true

  pub first_of_all : (before last : ℕ) (c : C) (call : Call Deed) (calls : List (Call Deed)) → is_record kind before last c (call ∷ calls) ≡ true
      → First before last c call calls
  first_of_all before last c call calls is =
      let parts = both _ _ is in
      let own = both _ _ parts.0 in
      let times = both _ _ own.0 in
      record { above = lt_of _ _ times.0; within = le_of _ _ times.1; fits = own.1; others = parts.1 }

  record_from : (before last : ℕ) (c : C) (call : Call Deed) (calls : List (Call Deed)) → First before last c call calls
      → is_record kind before last c (call ∷ calls) ≡ true
  record_from before last c call calls parts =
      ap (λ (b : Bool). ((b && nat_le call.moment last) && call_fits kind c call) && is_record kind call.moment last (held_after kind c call) calls)
      (lt_is before call.moment parts.above)
      ∙ ap (λ (b : Bool). (b && call_fits kind c call) && is_record kind call.moment last (held_after kind c call) calls) (le_is call.moment last parts.within)
      ∙ ap (λ (b : Bool). b && is_record kind call.moment last (held_after kind c call) calls) parts.fits ∙ parts.others

  pub steady_from : (s t before last : ℕ) (P Q : C → Type 0) (c : C) (calls : List (Call Deed)) → last < s → last < t
      → is_record kind before last c calls ≡ true → ((x : C) → P x → Q x)
      → (image : C) → Left kind s P c calls image → Left kind t Q c calls image
  steady_from s t before last P Q c [] after_s after_t is more image left = more image left
  steady_from s t before last P Q c (call ∷ calls) after_s after_t is more image left =
      let one = first_of_all before last c call calls is in
      let step : (x : C) → LeftAfter kind s P c call x → LeftAfter kind t Q c call x = λ x l.
      let was = l.1 (omega (arith, one.within, after_s)) in (
        (λ early. absurd (omega (arith, one.within, after_t, early))),
        (λ late. (was.0, more was.0 was.1, was.2, λ later. was.3 (omega (arith, one.within, after_s)))),
      ) in
      steady_from s t call.moment last (LeftAfter kind s P c call) (LeftAfter kind t Q c call)
      (held_after kind c call) calls after_s after_t one.others step image left

  pub now_from : Laws kind → (t before last : ℕ) (P : C → Type 0) (c : C) (calls : List (Call Deed)) → last < t → is_record kind before last c calls ≡ true
      → P c → Left kind t P c calls (held kind c calls)
  now_from laws t before last P c [] after is here = here
  now_from laws t before last P c (call ∷ calls) after is here =
      let one = first_of_all before last c call calls is in
      let may : kind.May call.deed c (held_after kind c call) = laws.may call.deed call.done c one.fits in
      now_from laws t call.moment last (LeftAfter kind t P c call) (held_after kind c call) calls after one.others
      ((λ early. absurd (omega (arith, one.within, after, early))), (λ late. (c, here, may, λ later. laws.sure call.deed call.done (held_after kind c call))))

  pub none_at_zero : (before : ℕ) (c : C) (calls : List (Call Deed)) → is_record kind before 0 c calls ≡ true → calls ≡ []
  none_at_zero before c [] is = refl
  none_at_zero before c (call ∷ calls) is = let one = first_of_all before 0 c call calls is in absurd (omega (arith, one.above, one.within))

  -- one call more is recorded
  pub held-push : (c : C) (calls : List (Call Deed)) (call : Call Deed) → held kind c (calls ++ call ∷ []) ≡ held_after kind (held kind c calls) call
  held-push c [] call = refl
  held-push c (other ∷ calls) call = held-push (held_after kind c other) calls call

  pub is_record-push : (before old last : ℕ) (c : C) (calls : List (Call Deed)) (call : Call Deed) → is_record kind before old c calls ≡ true
      → before < call.moment → old < call.moment → call.moment ≤ last
      → call_fits kind (held kind c calls) call ≡ true → is_record kind before last c (calls ++ call ∷ []) ≡ true
  is_record-push before old last c [] call is above later within fits =
      record_from before last c call [] (record { above = above; within = within; fits = fits; others = refl })
  is_record-push before old last c (other ∷ calls) call is above later within fits =
      let parts = first_of_all before old c other calls is in
      record_from before last c other (calls ++ call ∷ []) (record {
        above = parts.above;
        within = omega (arith, parts.within, later, within);
        fits = parts.fits;
        others = is_record-push other.moment old last (held_after kind c other) calls call parts.others (omega (arith, parts.within, later)) later within fits;
      })

  pub is_record-later : (before old last : ℕ) (c : C) (calls : List (Call Deed)) → old ≤ last → is_record kind before old c calls ≡ true
      → is_record kind before last c calls ≡ true
  is_record-later before old last c [] later is = refl
  is_record-later before old last c (other ∷ calls) later is =
      let parts = first_of_all before old c other calls is in
      record_from before last c other calls (record {
        above = parts.above;
        within = omega (arith, parts.within, later);
        fits = parts.fits;
        others = is_record-later other.moment old last (held_after kind c other) calls later parts.others;
      })

  pub Left-push : (t : ℕ) (P : C → Type 0) (c : C) (calls : List (Call Deed)) (call : Call Deed) (image : C)
      → Left kind t P c (calls ++ call ∷ []) image ↔ LeftAfter kind t (Left kind t P c calls) (held kind c calls) call image
  Left-push t P c [] call image = ((λ x. x), (λ x. x))
  Left-push t P c (other ∷ calls) call image = Left-push t (LeftAfter kind t P c other) (held_after kind c other) calls call image
