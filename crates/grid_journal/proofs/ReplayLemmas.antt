-- What records make of a catalogue: one thing, and with one more record more.
use Rattle.std.proofs.Common.{◌≡◌, ℕ, ◌+◌, List, [], ◌∷◌, ◌++◌, length, Result, Ok, Err, refl, sym, ap, subst, ◌∙◌}
use Rattle.std.specs.List.{AllByRecursion, flat_map}
use Rattle.grid_model.specs.Names.{Text}
use Rattle.grid_model.specs.Rows.{Cat}
use Rattle.grid_model.specs.Applying.{apply_all}
use Rattle.grid_model.specs.Deltas.{SpellsDeltas, spelling}
use Rattle.grid_model.specs.declared.deltas.Delta.{Delta}
use Rattle.grid_model.proofs.Refusals.{IsRefusedAt-unique}
use Rattle.row_codec.proofs.Spelled.{SpellsDeltas-unique}
use Rattle.grid_journal.specs.Stands.{Replays, none_left, taken, unread, refused, IsRefused, SetsKeptRules}
use Rattle.grid_journal.proofs.DeltaLemmas.{ok_same, apply_all_after, not_taken, refused_once}
use Rattle.grid_journal.proofs.KeptDeltas.{all_second}

-- a body whose deltas are taken has no refused one
apart : (c after before : Cat) (body : Text) (ds done left : List Delta) (d : Delta) → SpellsDeltas body ds → AllByRecursion SetsKeptRules ds → apply_all c ds ≡ Ok after
    → SpellsDeltas body (done ++ d ∷ left) → apply_all c done ≡ Ok before → IsRefused before d → ⊥
apart c after before body ds done left d spells none applied other first not =
    let same = SpellsDeltas-unique body ds (done ++ d ∷ left) spells other in
    let behind = all_second SetsKeptRules done (d ∷ left) (subst (AllByRecursion SetsKeptRules) (sym same) none) in
    not_taken before after d left not behind (sym (apply_all_after done (d ∷ left) c before first) ∙ ap (apply_all c) same ∙ applied)

pub Replays-same : {c : Cat} {rs : List (ℕ × Text)} {one other : Result Cat ℕ} → Replays c rs one → Replays c rs other → other ≡ one
Replays-same none_left none_left = refl
Replays-same (taken {c = c} {after = after} {body = body} {rest = rest} {outcome = one} ds p n a more) (taken {after = end} {outcome = other} es q m b also) =
    let same = SpellsDeltas-unique body ds es p q in
    let here : end ≡ after = ok_same end after (sym b ∙ ap (apply_all c) same ∙ a) in
    let P : Cat → Type 0 = λ x. Replays x rest other in
    Replays-same more (subst P here also)
Replays-same (taken ds p n a more) (unread at q) = absurd (q.spells_nothing ds p)
Replays-same (taken {c = c} {after = after} {body = body} ds p n a more) (refused {before = before} done d left q m b f) = absurd (apart c after before body ds done left d p n a q b f)
Replays-same (unread at p) (taken es q m b also) = absurd (p.spells_nothing es q)
Replays-same (unread {place = place} {body = body} at p) (unread k q) = ap (λ n. Err (place + n)) (IsRefusedAt-unique SpellsDeltas body k at q p)
Replays-same (unread at p) (refused done d left q m b f) = absurd (p.spells_nothing (done ++ d ∷ left) q)
Replays-same (refused {c = c} {before = before} {body = body} done d left p n a f) (taken {after = after} es q m b also) = absurd (apart c after before body es done left d q m b p a f)
Replays-same (refused done d left p n a f) (unread at q) = absurd (q.spells_nothing (done ++ d ∷ left) p)
Replays-same (refused {c = c} {before = before} {place = place} {body = body} xs d us p n a f) (refused {before = other} ys e vs q m b g) =
    let same = SpellsDeltas-unique body (xs ++ d ∷ us) (ys ++ e ∷ vs) p q in
    ap (λ l. Err (place + length (flat_map spelling l))) (refused_once ys xs vs us e d c other before same m n b a g f)

-- with one more record
pub Replays-push : {c kept : Cat} {rs : List (ℕ × Text)} (place : ℕ) (body : Text) (ds : List Delta) (after : Cat) → Replays c rs (Ok kept)
    → SpellsDeltas body ds → AllByRecursion SetsKeptRules ds → apply_all kept ds ≡ Ok after → Replays c (rs ++ (place, body) ∷ []) (Ok after)
Replays-push place body ds after none_left p n a = taken ds p n a none_left
Replays-push place body ds after (taken es q m b more) p n a = taken es q m b (Replays-push place body ds after more p n a)

-- what records make of a catalogue, deltas do
pub Replays-made : {c d : Cat} {rs : List (ℕ × Text)} → Replays c rs (Ok d) → (deltas : List Delta) × (apply_all c deltas ≡ Ok d)
Replays-made none_left = ([], refl)
Replays-made (taken {c = c} {after = after} ds p n a more) = let rest = Replays-made more in (ds ++ rest.0, apply_all_after ds rest.0 c after a ∙ rest.1)
