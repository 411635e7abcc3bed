-- Calls that are made one after another.
use Rattle.std.proofs.Common.{◌≡◌, List, [], ◌∷◌, ◌++◌, Option, Some, None, refl, sym, ap, ◌∙◌, subst, arith, append-nil, append_assoc, inl, inr}
use Rattle.std.specs.Prelude.{All}
use Rattle.std.proofs.lemmas.List.Elements.{All-cons, All-append, All-weaker}
use Rattle.chain_run.specs.Calls.{Made, MakesCalls, MakesCallsUntil, OnlyLastStops, IsUnstopped}
use Rattle.chain_run.specs.declared.stop.RunStop.{RunStop}
use Rattle.chain_run.specs.declared.stop.RunStop.TheVariants.{Stopped, Memory}

none_of : {A : Type 0} (P : A → Type 0) → All P []
none_of P k d h = absurd (omega (arith, h))

one_of : {A : Type 0} (P : A → Type 0) (x : A) → P x → All P (x ∷ [])
one_of P x p = All-cons P x [] p (none_of P)

-- no call was made
pub none_made : {S Stop : Type 0} (went : S → List (Made Stop) → S → Type 0) (Due : Made Stop → Type 0) (s : S) → went s [] s → MakesCalls went Due None s s
none_made went Due s begins = record {
  calls = [];
  went_so = begins;
  due = none_of Due;
  stops = none_of IsUnstopped;
  after = λ from before w. subst (λ xs. went from xs s) (sym (append-nil before)) w;
}

one_stops : {Stop : Type 0} (s : Option Stop) (x : Made Stop) → x.stop ≡ s → OnlyLastStops s (x ∷ [])
one_stops None x e = one_of IsUnstopped x e
one_stops (Some s) x e = ([], x, refl, none_of IsUnstopped, e)

-- one call was made
pub one_made : {S Stop : Type 0} (went : S → List (Made Stop) → S → Type 0) (Due : Made Stop → Type 0) (old new : S) (x : Made Stop) → went old [] old → Due x
    → ((from : S) (calls : List (Made Stop)) → went from calls old → went from (calls ++ x ∷ []) new) → MakesCalls went Due x.stop old new
one_made went Due old new x begins due goes = record {
  calls = x ∷ [];
  went_so = goes old [] begins;
  due = one_of Due x due;
  stops = one_stops x.stop x refl;
  after = goes;
}

then_stops : {Stop : Type 0} (stop : Option Stop) (xs ys : List (Made Stop)) → OnlyLastStops None xs → OnlyLastStops stop ys → OnlyLastStops stop (xs ++ ys)
then_stops None xs ys first second = All-append IsUnstopped xs ys first second
then_stops (Some s) xs ys first second = (
  xs ++ second.0,
  second.1,
  ap (λ zs. xs ++ zs) second.2 ∙ sym (append_assoc xs second.0 (second.1 ∷ [])),
  All-append IsUnstopped xs second.0 first second.3,
  second.4,
)

-- some calls and then others
pub then_made : {S Stop : Type 0} (went : S → List (Made Stop) → S → Type 0) (Due : Made Stop → Type 0) (stop : Option Stop) (a b c : S)
    → MakesCalls went Due None a b → MakesCalls went Due stop b c → MakesCalls went Due stop a c
then_made went Due stop a b c first second = record {
  calls = first.calls ++ second.calls;
  went_so = second.after a first.calls first.went_so;
  due = All-append Due first.calls second.calls first.due second.due;
  stops = then_stops stop first.calls second.calls first.stops second.stops;
  after = λ from before w.
      subst (λ xs. went from xs c) (append_assoc before first.calls second.calls) (second.after from (before ++ first.calls) (first.after from before w));
}

-- what is said of each call says something else too
pub made_as : {S Stop : Type 0} (went : S → List (Made Stop) → S → Type 0) (D E : Made Stop → Type 0) (stop : Option Stop) (a b : S)
    → ((x : Made Stop) → D x → E x) → MakesCalls went D stop a b → MakesCalls went E stop a b
made_as went D E stop a b says made = record { calls = made.calls; went_so = made.went_so; due = All-weaker D E says made.calls made.due; stops = made.stops; after = made.after }

pub until_as : {S Stop : Type 0} (went : S → List (Made Stop) → S → Type 0) (D E : Made Stop → Type 0) (no_size : S → Stop → Type 0) (why : Option (RunStop Stop)) (a b : S)
    → ((x : Made Stop) → D x → E x) → MakesCallsUntil went D no_size why a b → MakesCallsUntil went E no_size why a b
until_as went D E no_size None a b says made = made_as went D E None a b says made
until_as went D E no_size (Some Memory) a b says made = made_as went D E None a b says made
until_as went D E no_size (Some (Stopped s)) a b says (inl made) = inl (made_as went D E (Some s) a b says made)
until_as went D E no_size (Some (Stopped s)) a b says (inr made) = inr (made_as went D E None a b says made.0, made.1)

-- some calls, and then those of the last action
pub then_until : {S Stop : Type 0} (went : S → List (Made Stop) → S → Type 0) (Due : Made Stop → Type 0) (no_size : S → Stop → Type 0) (why : Option (RunStop Stop)) (a b c : S)
    → MakesCalls went Due None a b → MakesCallsUntil went Due no_size why b c → MakesCallsUntil went Due no_size why a c
then_until went Due no_size None a b c first made = then_made went Due None a b c first made
then_until went Due no_size (Some Memory) a b c first made = then_made went Due None a b c first made
then_until went Due no_size (Some (Stopped s)) a b c first (inl made) = inl (then_made went Due (Some s) a b c first made)
then_until went Due no_size (Some (Stopped s)) a b c first (inr made) = inr (then_made went Due None a b c first made.0, made.1)
