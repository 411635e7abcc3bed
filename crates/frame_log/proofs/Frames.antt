-- Records one behind another.
use Rattle.std.proofs.Common.{◌≡◌, ℕ, ◌+◌, List, [], ◌∷◌, ◌++◌, length, take, drop, arith, rules, refl, sym, ap, ◌∙◌, subst, append_assoc, length-append, take-append-drop}
use Rattle.std.proofs.lemmas.List.{append-nil, drop-drop, map_push}
use Rattle.std.proofs.lemmas.List.Elements.{All-push}
use Rattle.std.specs.Int.{w64, to_be_bytes}
use Rattle.frame_log.specs.Extent.{placed, bodies}
use Rattle.frame_log.specs.Log.{frame, frames, IsShort, IsBroken}
use Rattle.frame_log.specs.Steps.{IsOpenAt, IsRecordAt, IsFront, BreaksAt}

pub length-frame : (body : List ℕ) → length (frame body) ≡ 9 + length body
length-frame body = omega (arith, length-append (1 ∷ to_be_bytes w64 (length body)) body)

pub frames-append : (xs ys : List (List ℕ)) → frames (xs ++ ys) ≡ frames xs ++ frames ys
frames-append [] ys = refl
frames-append (x ∷ xs) ys = ap (λ (l : List ℕ). frame x ++ l) (frames-append xs ys) ∙ sym (append_assoc (frame x) (frames xs) (frames ys))

-- one record more
pub frames-push : (records : List (List ℕ)) (body : List ℕ) → frames (records ++ body ∷ []) ≡ frames records ++ frame body
frames-push records body = frames-append records (body ∷ []) ∙ ap (λ (l : List ℕ). frames records ++ l) (append-nil (frame body))

pub length-frames_push : (records : List (List ℕ)) (body : List ℕ) → length (frames (records ++ body ∷ [])) ≡ length (frames records) + 9 + length body
length-frames_push records body = omega (arith, ap length (frames-push records body), length-append (frames records) (frame body), length-frame body)

pub placed-push : (gate : ℕ) (records : List (List ℕ)) (body : List ℕ) → placed gate (records ++ body ∷ []) ≡ placed gate records ++ (gate + length (frames records) + 9, body) ∷ []
placed-push gate [] body = ap (λ (k : ℕ). (k + 9, body) ∷ []) (omega arith)
placed-push gate (x ∷ xs) body =
    let e : gate + 9 + length x + length (frames xs) ≡ gate + length (frames (x ∷ xs)) = omega (arith, length-append (frame x) (frames xs), length-frame x) in
    ap (λ (l : List (ℕ × List ℕ)). (gate + 9, x) ∷ l) (placed-push (gate + 9 + length x) xs body ∙ ap (λ (k : ℕ). placed (gate + 9 + length x) xs ++ (k + 9, body) ∷ []) e)

-- a body behind its length
pub record_read : (gate len : ℕ) (body bytes : List ℕ) → IsOpenAt gate len bytes → length body ≡ len → body ≡ take len (drop (gate + 9) bytes) → IsRecordAt gate body bytes
record_read gate len body bytes header len_is is =
    let rest : drop (gate + 9) bytes ≡ body ++ drop (gate + 9 + length body) bytes =
    sym (take-append-drop len (drop (gate + 9) bytes)) ∙ ap (λ (l : List ℕ). l ++ drop len (drop (gate + 9) bytes)) (sym is) ∙ ap (λ (l : List ℕ). body ++ l) (drop-drop len (gate + 9) bytes)
    ∙ ap (λ (k : ℕ). body ++ drop (gate + 9 + k) bytes) (sym len_is) in
    let P : ℕ → Type 0 = λ k. drop gate bytes ≡ 1 ∷ to_be_bytes w64 k ++ drop (gate + 9) bytes in
    record {
      short = omega (arith, header.short);
      is = subst P (sym len_is) header.is ∙ ap (λ (l : List ℕ). 1 ∷ to_be_bytes w64 (length body) ++ l) rest
          ∙ sym (append_assoc (1 ∷ to_be_bytes w64 (length body)) body (drop (gate + 9 + length body) bytes));
    }

-- nothing is read yet
pub front_none : (base : ℕ) (bytes : List ℕ) → IsFront base base [] bytes
front_none base bytes = record { short = search rules; gate_is = omega arith; is = refl }

-- one record more
pub front_more : (base gate next : ℕ) (records : List (List ℕ)) (body bytes : List ℕ) → IsFront base gate records bytes → IsRecordAt gate body bytes → next ≡ gate + 9 + length body
    → IsFront base next (records ++ body ∷ []) bytes
front_more base gate next records body bytes front here next_is = record {
  short = All-push IsShort records body front.short here.short;
  gate_is = omega (arith, length-frames_push records body, front.gate_is);
  is = front.is ∙ ap (λ (l : List ℕ). frames records ++ l) here.is ∙ sym (append_assoc (frames records) (frame body) (drop (gate + 9 + length body) bytes))
      ∙ ap (λ (l : List ℕ). l ++ drop (gate + 9 + length body) bytes) (sym (frames-push records body)) ∙ ap (λ (k : ℕ). frames (records ++ body ∷ []) ++ drop k bytes) (sym next_is);
}

-- where the log breaks behind whole records
pub front_breaks : (base gate at : ℕ) (records : List (List ℕ)) (bytes : List ℕ) → IsFront base gate records bytes → BreaksAt records gate at bytes → IsBroken base at bytes
front_breaks base gate at records bytes front here = record {
  before = records;
  short = front.short;
  rest = drop gate bytes;
  offset = here.offset;
  is = front.is;
  breaks = here.breaks;
  at_is = omega (arith, front.gate_is, here.at_is);
}

-- one record more, with its place
pub places_more : (base gate place next : ℕ) (found : List (ℕ × List ℕ)) (body : List ℕ) → gate ≡ base + length (frames (bodies found)) → found ≡ placed base (bodies found) → place ≡ gate + 9 → next ≡ gate + 9 + length body
    → (next ≡ base + length (frames (bodies (found ++ (place, body) ∷ [])))) × (found ++ (place, body) ∷ [] ≡ placed base (bodies (found ++ (place, body) ∷ [])))
places_more base gate place next found body gate_is places place_is next_is =
    let all : bodies (found ++ (place, body) ∷ []) ≡ bodies found ++ body ∷ [] = map_push (λ (r : ℕ × List ℕ). r.1) found (place, body) in
    let P : List (List ℕ) → Type 0 = λ l. (next ≡ base + length (frames l)) × (found ++ (place, body) ∷ [] ≡ placed base l) in
    let here : place ≡ base + length (frames (bodies found)) + 9 = omega arith in
    subst P (sym all) (
      omega (arith, length-frames_push (bodies found) body),
      ap (λ (l : List (ℕ × List ℕ)). l ++ (place, body) ∷ []) places ∙ ap (λ (k : ℕ). placed base (bodies found) ++ (k, body) ∷ []) here ∙ sym (placed-push base (bodies found) body),
    )
