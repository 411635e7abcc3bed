-- The count that words promise.
use Rattle.std.proofs.Common.{arith, length, get_or, ◌≤◌, ◌≡◌, ℕ, true, false, List, [], ◌∷◌, ◌++◌, refl, sym, ap, ◌∙◌}
use Rattle.std.specs.Prelude.{Option, Some, None, IfSome, IfNone, codes}
use Rattle.std.specs.List.{list_any}
use Rattle.grid_model.specs.Names.{Text, same_text}
use Rattle.grid_model.specs.Inputs.{PromisesBody, verbs_with_body}
use Rattle.cmd_read.specs.Table.{number_of}
use Rattle.std.proofs.lemmas.Bool.Decides.{same_from_decides}
use Rattle.grid_model.proofs.Comparing.{same_text-Decides}
use Rattle.cmd_read.specs.Counting.{has_body, promises}
use Rattle.cmd_read.proofs.Numbers.{number_some, number_is}

swapped : (a b : Text) → same_text a b ≡ same_text b a
swapped a b = same_from_decides (same_text a b) (same_text b a) (same_text-Decides a b) ((λ e. sym ((same_text-Decides b a).0 e)), (λ e. (same_text-Decides b a).1 (sym e)))

body_test : (verb : Text) → has_body verb ≡ list_any (same_text verb) verbs_with_body
body_test verb = rw (swapped (codes "put") verb, swapped (codes "part") verb, swapped (codes "rules") verb) refl

pub promises_at : (words : List Text) (verb : Text) → 2 ≤ length words → verb ≡ get_or words 1 verb → has_body verb ≡ promises words
promises_at [] verb two is = absurd (omega (arith, two))
promises_at (w ∷ []) verb two is = absurd (omega (arith, two))
promises_at (w ∷ v ∷ ws) verb two is = ap has_body is

pub no_promise : (words : List Text) → promises words ≡ false → (n : ℕ) → ¬ PromisesBody words n
no_promise words off n body = let on : promises words ≡ true = rw body.words_are (body_test body.verb ∙ body.has_one) in absurd (cc (on, off))

ends_once : (front other : List Text) (a b : Text) → front ++ a ∷ [] ≡ other ++ b ∷ [] → a ≡ b
ends_once [] [] a b e = cc
ends_once [] (x ∷ []) a b e = absurd (cc)
ends_once [] (x ∷ y ∷ other) a b e = absurd (cc)
ends_once (x ∷ []) [] a b e = absurd (cc)
ends_once (x ∷ y ∷ front) [] a b e = absurd (cc)
ends_once (x ∷ front) (y ∷ other) a b e = ends_once front other a b (cc)

pub counts : (words front : List Text) (last : Text) (o : Option ℕ) → promises words ≡ true → words ≡ front ++ last ∷ [] → o ≡ number_of last → IfSome o (λ n. PromisesBody words n)
counts words front last None on ends is = tt
counts [] front last (Some n) on ends is = absurd (cc on)
counts (s ∷ []) front last (Some n) on ends is = absurd (cc on)
counts (s ∷ verb ∷ more) front last (Some n) on ends is =
    let read = number_is last n (sym is) in
    record { session = s; verb = verb; more = more; words_are = refl; has_one = sym (body_test verb) ∙ on; front = front; last_is = ends ∙ ap (λ w. front ++ w ∷ []) read.0; small = read.1 }

pub counts_none : (words front : List Text) (last : Text) (o : Option ℕ) → words ≡ front ++ last ∷ [] → o ≡ number_of last → IfNone o ((n : ℕ) → ¬ PromisesBody words n)
counts_none words front last (Some n) ends is = tt
counts_none words front last None ends is = λ n body.
    let same = ends_once front body.front last _ (sym ends ∙ body.last_is) in
    let some = number_some last n body.small same in
    absurd (cc (some, is))
