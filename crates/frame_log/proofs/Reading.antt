-- Bytes are read in one way.
use Rattle.std.proofs.Common.{◌≡◌, ◌≢◌, ◌⊎◌, inl, inr, ℕ, ◌+◌, ◌^◌, ◌<◌, List, [], ◌∷◌, ◌++◌, length, take, drop, map, get_or, slice_get, Some, None, arith, refl, sym, ap, ◌∙◌, append_assoc, length-append}
use Rattle.std.proofs.lemmas.List.{take_at, drop_at}
use Rattle.std.proofs.lemmas.List.Elements.{All-nil, All-head, All-tail}
use Rattle.std.proofs.lemmas.Nat.{from_be_bytes-to_be_bytes_8}
use Rattle.std.specs.Int.{w64, to_be_bytes, from_be_bytes}
use Rattle.std.specs.List.{All}
use Rattle.frame_log.specs.declared.records.Record.{Record}
use Rattle.frame_log.specs.Extent.{bodies}
use Rattle.frame_log.specs.Records.{placed_body}
use Rattle.frame_log.specs.Steps.{IsFront, IsShutAt}
use Rattle.frame_log.specs.Log.{frame, frames, IsShort, IsLog, BreaksLog, no_gate, no_record, no_length, no_body, IsBroken, Reading, log_of, no_log, ReadsAs, ReadsOnlyAs}

-- no whole record begins here
abbrev pub Stops : List ℕ → Type 0
Stops tail = (body rest : List ℕ) → IsShort body → tail ≢ frame body ++ rest

-- a length tells itself from what follows it
same_size : (m n : ℕ) (xs ys : List ℕ) → m < 2 ^ 64 → n < 2 ^ 64 → to_be_bytes w64 m ++ xs ≡ to_be_bytes w64 n ++ ys → (m ≡ n) × (xs ≡ ys)
same_size m n xs ys small short e =
    let bytes : to_be_bytes w64 m ≡ to_be_bytes w64 n = sym (take_at (to_be_bytes w64 m) xs 8 refl) ∙ ap (take 8) e ∙ take_at (to_be_bytes w64 n) ys 8 refl in (
      sym (from_be_bytes-to_be_bytes_8 m small) ∙ ap (from_be_bytes w64) bytes ∙ from_be_bytes-to_be_bytes_8 n short,
      sym (drop_at (to_be_bytes w64 m) xs 8 refl) ∙ ap (drop 8) e ∙ drop_at (to_be_bytes w64 n) ys 8 refl,
    )

-- and so does a body of a known length
same_body : (a b xs ys : List ℕ) → length a ≡ length b → a ++ xs ≡ b ++ ys → (a ≡ b) × (xs ≡ ys)
same_body a b xs ys len e =
    (sym (take_at a xs (length a) refl) ∙ ap (take (length a)) e ∙ take_at b ys (length a) (sym len), sym (drop_at a xs (length a) refl) ∙ ap (drop (length a)) e ∙ drop_at b ys (length a) (sym len))

-- behind the gate of a record
inner : (body rest : List ℕ) (size : ℕ) (other : List ℕ) → 1 ∷ to_be_bytes w64 size ++ other ≡ frame body ++ rest → to_be_bytes w64 size ++ other ≡ to_be_bytes w64 (length body) ++ (body ++ rest)
inner body rest size other e = ap (drop 1) e ∙ append_assoc (to_be_bytes w64 (length body)) body rest

same_frame : (a b xs ys : List ℕ) → IsShort a → IsShort b → frame a ++ xs ≡ frame b ++ ys → (a ≡ b) × (xs ≡ ys)
same_frame a b xs ys small short e =
    let sizes = same_size (length a) (length b) (a ++ xs) (b ++ ys) small short (sym (append_assoc (to_be_bytes w64 (length a)) a xs) ∙ ap (drop 1) e ∙ append_assoc (to_be_bytes w64 (length b)) b ys) in
    same_body a b xs ys sizes.0 sizes.1

-- whole records and what stops them are told apart
same_front : (xs ys : List (List ℕ)) (s t : List ℕ) → All IsShort xs → All IsShort ys → Stops s → Stops t → frames xs ++ s ≡ frames ys ++ t → (xs ≡ ys) × (s ≡ t)
same_front [] [] s t small short stops ends e = (refl, e)
same_front [] (y ∷ ys) s t small short stops ends e = absurd (stops y (frames ys ++ t) (All-head IsShort y ys short) (e ∙ append_assoc (frame y) (frames ys) t))
same_front (x ∷ xs) [] s t small short stops ends e = absurd (ends x (frames xs ++ s) (All-head IsShort x xs small) (sym e ∙ append_assoc (frame x) (frames xs) s))
same_front (x ∷ xs) (y ∷ ys) s t small short stops ends e =
    let here = same_frame x y (frames xs ++ s) (frames ys ++ t) (All-head IsShort x xs small) (All-head IsShort y ys short) (sym (append_assoc (frame x) (frames xs) s) ∙ e ∙ append_assoc (frame y) (frames ys) t) in
    let rest = same_front xs ys s t (All-tail IsShort x xs small) (All-tail IsShort y ys short) stops ends here.1 in
    (ap (λ (b : List ℕ). b ∷ xs) here.0 ∙ ap (λ (bs : List (List ℕ)). y ∷ bs) rest.0, rest.1)

shut_stops : (gate : ℕ) (rest : List ℕ) → gate ≢ 1 → Stops (gate ∷ rest)
shut_stops gate rest shut body after short e = shut (ap (λ (l : List ℕ). get_or l 0 0) e)

breaks_stops : {before : List (List ℕ)} {tail : List ℕ} {offset : ℕ} → BreaksLog before tail offset → Stops tail
breaks_stops (no_gate before) body after short e = cc
breaks_stops (no_record gate rest shut) body after short e = shut (ap (λ (l : List ℕ). get_or l 0 0) e)
breaks_stops (no_length before rest less) body after short e =
    absurd (omega (arith, ap length (ap (drop 1) e), length-append (to_be_bytes w64 (length body) ++ body) after, length-append (to_be_bytes w64 (length body)) body))
breaks_stops (no_body before size rest small less) body after short e =
    let sizes = same_size size (length body) rest (body ++ after) small short (inner body after size rest e) in
    absurd (omega (arith, sizes.0, ap length sizes.1, length-append body after))

-- behind whole records a gate that isn't open ends a log
not_breaks : {before : List (List ℕ)} {tail : List ℕ} {offset : ℕ} → BreaksLog before tail offset → (gate : ℕ) (rest : List ℕ) → tail ≡ gate ∷ rest → gate ≢ 1 → before ≢ [] → ⊥
not_breaks (no_gate before) gate rest e shut some = cc
not_breaks (no_record other after closed) gate rest e shut some = some refl
not_breaks (no_length before after less) gate rest e shut some = shut (sym (ap (λ (l : List ℕ). get_or l 0 0) e))
not_breaks (no_body before size after small less) gate rest e shut some = shut (sym (ap (λ (l : List ℕ). get_or l 0 0) e))

-- the gate says how far from it the place lies
offset_is : {before : List (List ℕ)} {tail : List ℕ} {offset : ℕ} → BreaksLog before tail offset → ((offset ≡ 0) × (get_or tail 0 0 ≢ 1)) ⊎ ((offset ≡ 1) × (get_or tail 0 0 ≡ 1))
offset_is (no_gate before) = inl (refl, λ e. omega arith)
offset_is (no_record gate rest shut) = inl (refl, shut)
offset_is (no_length before rest less) = inr (refl, refl)
offset_is (no_body before size rest small less) = inr (refl, refl)

same_offset : (before after : List (List ℕ)) (s t : List ℕ) (m n : ℕ) → BreaksLog before s m → BreaksLog after t n → s ≡ t → m ≡ n
same_offset before after s t m n one two e =
    let head : get_or s 0 0 ≡ get_or t 0 0 = ap (λ (l : List ℕ). get_or l 0 0) e in
    elim (offset_is one) [
      | inl a ↦ elim (offset_is two) [ inl b ↦ a.0 ∙ sym b.0 | inr b ↦ absurd (a.1 (head ∙ b.1)) ]
      | inr a ↦ elim (offset_is two) [ inl b ↦ absurd (b.1 (sym head ∙ a.1)) | inr b ↦ a.0 ∙ sym b.0 ]
    ]

module _ (base : ℕ) (bytes : List ℕ) where
  one_log : (xs ys : List (List ℕ)) → IsLog base xs bytes → IsLog base ys bytes → xs ≡ ys
  one_log xs ys a b =
      (same_front xs ys (a.gate ∷ a.rest) (b.gate ∷ b.rest) a.short b.short (shut_stops a.gate a.rest a.closed) (shut_stops b.gate b.rest b.closed) (sym a.is ∙ b.is)).0

  not_both : (xs : List (List ℕ)) (at : ℕ) → IsLog base xs bytes → IsBroken base at bytes → ⊥
  not_both xs at a b =
      let same = same_front xs b.before (a.gate ∷ a.rest) b.rest a.short b.short (shut_stops a.gate a.rest a.closed) (breaks_stops b.breaks) (sym a.is ∙ b.is) in
      not_breaks b.breaks a.gate a.rest (sym same.1) a.closed (λ e. a.some (same.0 ∙ e))

  one_place : (m n : ℕ) → IsBroken base m bytes → IsBroken base n bytes → m ≡ n
  one_place m n a b =
      let same = same_front a.before b.before a.rest b.rest a.short b.short (breaks_stops a.breaks) (breaks_stops b.breaks) (sym a.is ∙ b.is) in
      let offset = same_offset a.before b.before a.rest b.rest a.offset b.offset a.breaks b.breaks same.1 in
      a.at_is ∙ ap (λ (l : List (List ℕ)). base + length (frames l) + a.offset) same.0 ∙ ap (λ (k : ℕ). base + length (frames b.before) + k) offset ∙ sym b.at_is

  only_log : (xs : List (List ℕ)) → IsLog base xs bytes → (other : Reading) → ReadsAs base bytes other → other ≡ log_of xs
  only_log xs a (log_of ys) b = ap log_of (one_log ys xs b a)
  only_log xs a (no_log at) b = absurd (not_both xs at a b)

  only_broken : (at : ℕ) → IsBroken base at bytes → (other : Reading) → ReadsAs base bytes other → other ≡ no_log at
  only_broken at a (log_of ys) b = absurd (not_both ys at b a)
  only_broken at a (no_log place) b = ap no_log (one_place place at b a)

  pub reads_as_log : (xs : List (List ℕ)) → IsLog base xs bytes → ReadsOnlyAs base bytes (log_of xs)
  reads_as_log xs a = record { reads = a; only = only_log xs a }

  pub reads_as_none : (at : ℕ) → IsBroken base at bytes → ReadsOnlyAs base bytes (no_log at)
  reads_as_none at a = record { reads = a; only = only_broken at a }

-- whole records and a gate that isn't open
pub front_log : (base gate : ℕ) (records : List (List ℕ)) (bytes : List ℕ) → IsFront base gate records bytes → IsShutAt gate bytes → records ≢ [] → IsLog base records bytes
front_log base gate records bytes front shut some = record {
  gate = shut.byte;
  rest = shut.rest;
  some = some;
  short = front.short;
  closed = shut.shut;
  is = front.is ∙ ap (λ (l : List ℕ). frames records ++ l) shut.is;
}

-- no record and a gate that isn't open
pub front_none_broken : (base gate : ℕ) (records : List (List ℕ)) (bytes : List ℕ) → IsFront base gate records bytes → IsShutAt gate bytes → records ≡ [] → IsBroken base base bytes
front_none_broken base gate records bytes front shut none = record {
  before = [];
  short = All-nil IsShort;
  rest = shut.byte ∷ shut.rest;
  offset = 0;
  is = front.is ∙ ap (λ (rs : List (List ℕ)). frames rs ++ drop gate bytes) none ∙ shut.is;
  breaks = no_record shut.byte shut.rest shut.shut;
  at_is = omega arith;
}

-- whether there is a first record
pub none_first : (list : List Record) → None ≡ slice_get list 0 → bodies (map placed_body list) ≡ []
none_first [] e = refl
none_first (r ∷ rs) e = cc

pub some_first : (list : List Record) (first : Record) → Some first ≡ slice_get list 0 → bodies (map placed_body list) ≢ []
some_first [] first e = cc
some_first (r ∷ rs) first e = λ none. cc
