-- Calls of a device by moment: what is held after them, and what a stop at a moment leaves. All of it is this
-- project's own, and so is what each device in memory does with a call that is to fail.
use Rattle.std.specs.Prelude.{◌≡◌, ◌⊎◌, ℕ, ◌<◌, ◌≤◌, Bool, true, false, ◌&&◌, List, [], ◌∷◌, ◌++◌, nat_lt, nat_le, if◌then◌else◌, Result, OnOk, OnErr}
use Rattle.grid_mem.specs.declared.call.Call.{Call}

-- A kind of device: what a call makes of the contents, by whether it was done; whether a call fits the contents; what
-- a deed may have made of them when a stop came in it; and what is sure of each image once a call is over, by whether
-- it was done and what is held then.
pub record Kind (Deed C : Type 0) : Type 1 where
  pub after : C → Deed → Bool → C
  pub fits : C → Deed → Bool → Bool
  pub May : Deed → C → C → Type 0
  pub Sure : Deed → Bool → C → C → Type 0

-- what a device held at the start, and its calls with a moment since
pub record History (Deed C : Type 0) : Type 0 where
  pub start : C
  pub calls : List (Call Deed)

-- a call was added at the end: one of this moment, of such a deed, and done or not
pub record Adds {Deed : Type 0} (moment : ℕ) (IsDeed : Deed → Type 0) (done : Bool) (old new : List (Call Deed)) : Type 0 where
  pub call : Call Deed
  pub moment_is : call.moment ≡ moment
  pub deed_is : IsDeed call.deed
  pub done_is : call.done ≡ done
  pub added : new ≡ old ++ call ∷ []

-- A call that was done is added to the history, and one that failed is added as failed, or not for want of memory.
pub record Records {Deed C T E : Type 0} (moment : ℕ) (IsDeed : Deed → Type 0) (old new : History Deed C) (result : Result T E) : Type 0 where
  pub start : new.start ≡ old.start
  pub done : OnOk result (Adds moment IsDeed true old.calls new.calls)
  pub failed : OnErr result ((new.calls ≡ old.calls) ⊎ Adds moment IsDeed false old.calls new.calls)

module _ {Deed C : Type 0} (kind : Kind Deed C) where
  -- what is held after a call
  abbrev pub held_after : C → Call Deed → C
  held_after c call = kind.after c call.deed call.done

  -- what is held after all of them
  abbrev pub held : C → List (Call Deed) → C
  held c [] = c
  held c (call ∷ calls) = held (held_after c call) calls

  -- What a stop at the moment may leave after a call, by what it may have left before it.
  abbrev pub LeftAfter : ℕ → (C → Type 0) → C → Call Deed → C → Type 0
  LeftAfter moment Before c call image =
      (moment < call.moment → Before image)
      × (call.moment ≤ moment → (before : C) × Before before × kind.May call.deed before image ×
      (call.moment < moment → kind.Sure call.deed call.done (held_after c call) image))

  -- What a stop at the moment may leave after all of them.
  abbrev pub Left : ℕ → (C → Type 0) → C → List (Call Deed) → C → Type 0
  Left moment Before c [] image = Before image
  Left moment Before c (call ∷ calls) image = Left moment (LeftAfter moment Before c call) (held_after c call) calls image

  -- the call fits what is held
  abbrev pub call_fits : C → Call Deed → Bool
  call_fits c call = kind.fits c call.deed call.done

  -- the moments rise from one after the first to the last at most, and each call fitted
  abbrev pub is_record : ℕ → ℕ → C → List (Call Deed) → Bool
  is_record first last c [] = true
  is_record first last c (call ∷ calls) =
      (nat_lt first call.moment && nat_le call.moment last && call_fits c call) && is_record call.moment last (held_after c call) calls

  -- what is held after a history
  abbrev pub held_since : History Deed C → C
  held_since history = held history.start history.calls

  -- What is known at the moment of what a stop may leave. A call that is given a later moment has not begun, and one
  -- that is given an earlier moment is over.
  abbrev pub known_at : {U : Type 0} → (Bool → C → Call Deed → U → U) → ℕ → C → List (Call Deed) → U → U
  known_at after moment c [] u = u
  known_at after moment c (call ∷ calls) u =
      known_at after moment (held_after c call) calls (if nat_le call.moment moment then after (nat_lt call.moment moment) c call u else u)
