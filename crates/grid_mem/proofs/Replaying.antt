-- What a store holds, call by call.
use Rattle.std.proofs.Common.{◌≡◌, ℕ, ◌+◌, ◌<◌, List, length, take, get_or, sym, ap, ◌∙◌}
use Rattle.std.proofs.lemmas.List.{take_more}
use Rattle.grid_mem.specs.declared.call.Call.{Call}
use Rattle.grid_mem.specs.Calls.{Kind, held, held_after}
use Rattle.grid_mem.specs.CallLaws.{held-push}

-- one call more
pub one_more : {Deed C : Type 0} (kind : Kind Deed C) (start now next : C) (calls : List (Call Deed)) (i : ℕ) (call : Call Deed) → call ≡ get_or calls i call → i < length calls
    → now ≡ held kind start (take i calls) → next ≡ held_after kind now call → next ≡ held kind start (take (i + 1) calls)
one_more kind start now next calls i call is lt now_is next_is =
    next_is ∙ ap (λ c. held_after kind c call) now_is ∙ ap (held_after kind (held kind start (take i calls))) is ∙ sym (held-push kind start (take i calls) (get_or calls i call))
    ∙ sym (ap (held kind start) (take_more calls i call lt))
