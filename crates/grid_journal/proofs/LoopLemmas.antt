-- Records that are replayed in a loop.
use Rattle.std.proofs.Common.{◌≡◌, ℕ, zero, suc, ◌+◌, ◌^◌, ◌<◌, ◌≤◌, List, [], ◌∷◌, length, get_or, map, drop, Result, Ok, Err, sym, ap, subst, ◌∙◌, add-one, length-append, arith}
use Rattle.std.proofs.Math.Seq.{drop-cons}
use Rattle.std.proofs.Math.ListN.{drop_of_length-le}
use Rattle.frame_log.specs.Log.{frame, frames}
use Rattle.frame_log.specs.Extent.{placed, bodies}
use Rattle.frame_log.proofs.Frames.{length-frame}
use Rattle.grid_model.specs.Names.{Text}
use Rattle.grid_model.specs.Rows.{Cat, empty_cat}
use Rattle.grid_model.specs.Deltas.{SpellsDeltas, spelling}
use Rattle.grid_model.specs.declared.deltas.Delta.{Delta}
use Rattle.std.specs.List.{flat_map}
use Rattle.std.proofs.Math.Seq.{take-append_seam}
use Rattle.std.specs.Prelude.{take}
use Rattle.grid_journal.specs.Stands.{Replays, none_left, taken, refused}
use Rattle.grid_journal.specs.Replaying.{Leads, IsAtFault, TakesAll, RefusesNext, ReplayStopsAt}
use Rattle.grid_journal.specs.declared.replay.ReplayError.{ReplayError}
use Rattle.grid_journal.specs.declared.replay.ReplayError.TheVariants.{Fault, Memory}
use Rattle.frame_log.specs.Records.{placed_body}
use Rattle.frame_log.specs.declared.records.Record.{Record}

-- what replaying the records from some index on gives, replaying all of them gives
abbrev pub Comes : List (ℕ × Text) → ℕ → Cat → Type 0
Comes rs i c = (outcome : Result Cat ℕ) → Replays c (drop i rs) outcome → Replays empty_cat rs outcome

at_record : (rs : List (ℕ × Text)) (i : ℕ) (r : ℕ × Text) → i < length rs → r ≡ get_or rs i r → drop i rs ≡ r ∷ drop (i + 1) rs
at_record rs i r lt is = drop-cons rs i r lt ∙ ap (λ x. x ∷ drop (suc i) rs) (sym is) ∙ ap (λ n. r ∷ drop n rs) (sym (add-one i))

pub comes_on : (rs : List (ℕ × Text)) (i : ℕ) (r : ℕ × Text) (old new : Cat) → i < length rs → r ≡ get_or rs i r → Comes rs i old → Leads r old new → Comes rs (i + 1) new
comes_on rs i r old new lt is so_far leads outcome more =
    let P : List (ℕ × Text) → Type 0 = λ l. Replays old l outcome in
    so_far outcome (subst P (sym (at_record rs i r lt is)) (leads (drop (i + 1) rs) outcome more))

pub comes_to_fault : (rs : List (ℕ × Text)) (i at : ℕ) (r : ℕ × Text) (old : Cat) → i < length rs → r ≡ get_or rs i r → Comes rs i old → IsAtFault r old at → Replays empty_cat rs (Err at)
comes_to_fault rs i at r old lt is so_far fault =
    let P : List (ℕ × Text) → Type 0 = λ l. Replays old l (Err at) in
    so_far (Err at) (subst P (sym (at_record rs i r lt is)) (fault (drop (i + 1) rs)))

pub comes_to_end : (rs : List (ℕ × Text)) (i : ℕ) (c : Cat) → length rs ≤ i → Comes rs i c → Replays empty_cat rs (Ok c)
comes_to_end rs i c le so_far =
    let P : List (ℕ × Text) → Type 0 = λ l. Replays c l (Ok c) in
    so_far (Ok c) (subst P (sym (drop_of_length-le rs le)) none_left)

-- each body ends where the log does, or before
ends_within : (records : List Text) (base i : ℕ) (d : ℕ × Text) → i < length (placed base records)
    → (get_or (placed base records) i d).0 + length (get_or (placed base records) i d).1 ≤ base + length (frames records)
ends_within [] base i d lt = absurd (omega arith)
ends_within (body ∷ records) base zero d lt = omega (arith, length-append (frame body) (frames records), length-frame body)
ends_within (body ∷ records) base (suc i) d lt =
    let rest = ends_within records (base + 9 + length body) i d (omega arith) in
    omega (arith, rest, length-append (frame body) (frames records), length-frame body)

pub fits_at : (rs : List (ℕ × Text)) (i : ℕ) (r : ℕ × Text) → rs ≡ placed 16 (bodies rs) → 16 + length (frames (bodies rs)) < 2 ^ 64 → i < length rs → r ≡ get_or rs i r
    → r.0 + length r.1 < 2 ^ 64
fits_at rs i r places end lt is =
    let lt' : i < length (placed 16 (bodies rs)) = omega (arith, lt, ap length places) in
    let e : get_or (placed 16 (bodies rs)) i r ≡ r = ap (λ l. get_or l i r) (sym places) ∙ sym is in
    let P : ℕ × Text → Type 0 = λ x. x.0 + length x.1 ≤ 16 + length (frames (bodies rs)) in
    let within = subst P e (ends_within (bodies rs) 16 i r lt') in
    omega (arith, within, end)

-- ---- one record

pub leads : (place : ℕ) (body : Text) (ds : List Delta) (old new : Cat) → SpellsDeltas body ds → TakesAll ds old new → Leads (place, body) old new
leads place body ds old new spells t rest outcome more = taken ds spells t.kept t.applied more

pub at_next : (place count n : ℕ) (body : Text) (ds : List Delta) (c : Cat) → SpellsDeltas body ds → RefusesNext ds count c → n ≡ length (flat_map spelling (take count ds))
    → IsAtFault (place, body) c (place + n)
at_next place count n body ds c spells r is rest =
    let front : take count ds ≡ r.done = ap (λ k. take k ds) r.count_is ∙ ap (take (length r.done)) r.split ∙ take-append_seam r.done (r.next ∷ r.left) in
    let P : List Delta → Type 0 = λ l. SpellsDeltas body l in
    let Q : ℕ → Type 0 = λ k. Replays c ((place, body) ∷ rest) (Err (place + k)) in
    subst Q (ap (λ l. length (flat_map spelling l)) (sym front) ∙ sym is) (refused r.done r.next r.left (subst P r.split spells) r.taken.kept r.taken.applied r.refused)

-- a part of a body has no more bytes
pub part_within : (count n : ℕ) (body : Text) (ds : List Delta) → SpellsDeltas body ds → n ≡ length (flat_map spelling (take count ds)) → n ≤ length body
part_within count n body ds spells is = omega (arith, is, ap length spells.bytes_are, shorter count ds)
  where
    shorter : (k : ℕ) (l : List Delta) → length (flat_map spelling (take k l)) ≤ length (flat_map spelling l)
    shorter zero l = omega arith
    shorter (suc k) [] = omega arith
    shorter (suc k) (d ∷ l) =
        omega (arith, shorter k l, length-append (spelling d) (flat_map spelling l), length-append (spelling d) (flat_map spelling (take k l)))

-- ---- records in memory

pub at_placed : (records : List Record) (i : ℕ) (x : Record) → i < length records → x ≡ get_or records i x
    → (i < length (map placed_body records)) × (placed_body x ≡ get_or (map placed_body records) i (placed_body x))
at_placed [] i x lt is = absurd (omega arith)
at_placed (y ∷ ys) zero x lt is = (omega arith, ap placed_body is)
at_placed (y ∷ ys) (suc i) x lt is = let rest = at_placed ys i x (omega arith) is in (omega (arith, rest.0), rest.1)

pub stops_later : (P Q : ℕ → Type 0) (error : ReplayError) → ((at : ℕ) → P at → Q at) → ReplayStopsAt P error → ReplayStopsAt Q error
stops_later P Q (Fault at) on h = on at h
stops_later P Q Memory on h = tt
