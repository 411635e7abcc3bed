-- What the two writes of an append leave.
use Rattle.std.proofs.Common.{◌≡◌, ◌≢◌, inl, inr, ℕ, suc, ◌+◌, ◌<◌, ◌≤◌, List, [], ◌∷◌, ◌++◌, length, take, drop, arith, refl, sym, subst, ap, ◌∙◌, append_assoc, length-append, length-drop, take-append-drop, add-one, drop-cons, get_or}
use Rattle.std.proofs.lemmas.List.{take_at, drop_at, append-nil, length-take-le}
use Rattle.std.proofs.lemmas.List.Elements.{All-nil, All-push}
use Rattle.std.specs.List.{All}
use Rattle.std.specs.Int.{w64, to_be_bytes}
use Rattle.grid_outside.specs.Disk.{Holds, Torn}
use Rattle.grid_outside.proofs.Spans.{nat_cases}
use Rattle.frame_log.proofs.Frames.{length-frame, frames-push, length-frames_push}
use Rattle.frame_log.specs.Extent.{Extent, IsLogOf, grown, first_length}
use Rattle.frame_log.specs.Log.{frame, frames, IsShort, IsLog, IsOldOrNew}

-- the bytes of a record behind its gate, and the closing gate
abbrev pub closed : List ℕ → List ℕ
closed body = to_be_bytes w64 (length body) ++ body ++ 0 ∷ []

-- an open gate before them
opened_gate : (front body after : List ℕ) → front ++ 1 ∷ (closed body ++ after) ≡ (front ++ frame body) ++ 0 ∷ after
opened_gate front body after =
    ap (λ (l : List ℕ). front ++ 1 ∷ l) (append_assoc (to_be_bytes w64 (length body) ++ body) (0 ∷ []) after) ∙ sym (append_assoc front (frame body) (0 ∷ after))

module _ (front : List ℕ) (gate : ℕ) (rest : List ℕ) (e : ℕ) (e_is : length front ≡ e) where
  -- what is taken up to the gate and with it
  take_front : take e (front ++ gate ∷ rest) ≡ front
  take_front = take_at front (gate ∷ rest) e e_is

  take_gate : take (e + 1) (front ++ gate ∷ rest) ≡ front ++ gate ∷ []
  take_gate = ap (take (e + 1)) (sym (append_assoc front (gate ∷ []) rest)) ∙ take_at (front ++ gate ∷ []) rest (e + 1) (omega (arith, length-append front (gate ∷ []), e_is))

  drop_gate : drop (e + 1) (front ++ gate ∷ rest) ≡ rest
  drop_gate = ap (drop (e + 1)) (sym (append_assoc front (gate ∷ []) rest)) ∙ drop_at (front ++ gate ∷ []) rest (e + 1) (omega (arith, length-append front (gate ∷ []), e_is))

  -- a write behind the gate that was cut short keeps the front and the gate
  pub torn_behind : (n : ℕ) (image : List ℕ) → Torn (e + 1) n (front ++ gate ∷ rest) image → image ≡ front ++ gate ∷ drop (e + 1) image
  torn_behind n image torn =
      sym (take-append-drop (e + 1) image) ∙ ap (λ (l : List ℕ). l ++ drop (e + 1) image) (torn.before ∙ take_gate) ∙ append_assoc front (gate ∷ []) (drop (e + 1) image)

  -- a write of the gate that was cut short leaves any gate
  pub torn_gate : (image : List ℕ) → Torn e 1 (front ++ gate ∷ rest) image → (other : ℕ) × (image ≡ front ++ other ∷ rest)
  torn_gate image torn =
      let long : e < length image = omega (arith, torn.no_shorter, length-append front (gate ∷ rest), e_is) in
      let at : drop e image ≡ get_or image e 0 ∷ drop (suc e) image = drop-cons image e 0 long in
      let after : drop (suc e) image ≡ rest = rw (← add-one e) (torn.after ∙ drop_gate) in
      (get_or image e 0, sym (take-append-drop e image) ∙ ap (λ (l : List ℕ). l ++ drop e image) (torn.before ∙ take_front) ∙ ap (λ (l : List ℕ). front ++ l) (at ∙ ap (λ (l : List ℕ). get_or image e 0 ∷ l) after))

  pub held_behind : (bytes new : List ℕ) → Holds (e + 1) bytes (front ++ gate ∷ rest) new → (after : List ℕ) × (new ≡ front ++ gate ∷ (bytes ++ after))
  held_behind bytes new holds =
      let after = drop (e + 1 + length bytes) (front ++ gate ∷ rest) in
      (after, holds ∙ ap (λ (l : List ℕ). l ++ bytes ++ after) take_gate ∙ append_assoc (front ++ gate ∷ []) bytes after ∙ append_assoc front (gate ∷ []) (bytes ++ after))

  pub held_gate : (other : ℕ) (new : List ℕ) → Holds e (other ∷ []) (front ++ gate ∷ rest) new → new ≡ front ++ other ∷ rest
  held_gate other new holds =
      holds ∙ ap (λ (l : List ℕ). l ++ other ∷ [] ++ drop (e + 1) (front ++ gate ∷ rest)) take_front ∙ ap (λ (l : List ℕ). front ++ other ∷ [] ++ l) drop_gate ∙ append_assoc front (other ∷ []) rest

-- a list of which the last is known has one
pub not_none : (records : List (List ℕ)) (body : List ℕ) → records ++ body ∷ [] ≢ []
not_none [] body e = cc
not_none (x ∷ xs) body e = cc

-- bytes that are a log behind this head
pub log_here : (base : ℕ) (records : List (List ℕ)) (head : List ℕ) (gate : ℕ) (rest bytes : List ℕ) → length head ≡ base → records ≢ [] → All IsShort records → gate ≢ 1
    → bytes ≡ (head ++ frames records) ++ gate ∷ rest → IsLog base records bytes
log_here base records head gate rest bytes head_is some short closed is = record {
  gate = gate;
  rest = rest;
  some = some;
  short = short;
  closed = closed;
  is = ap (drop base) (is ∙ append_assoc head (frames records) (gate ∷ rest)) ∙ drop_at head (frames records ++ gate ∷ rest) base head_is;
}

module _ (base : ℕ) (records : List (List ℕ)) (body bytes : List ℕ) (short : IsShort body) (log : IsLog base records bytes) (e : ℕ) (place : e ≡ base + length (frames records)) where
  head : List ℕ
  head = take base bytes

  front : List ℕ
  front = head ++ frames records

  head_is : length head ≡ base
  unfolding head
  head_is = length-take-le base bytes (omega (arith, length-drop base bytes, ap length log.is, length-append (frames records) (log.gate ∷ log.rest)))

  front_is : length front ≡ e
  unfolding front
  front_is = omega (arith, length-append head (frames records), head_is, place)

  whole : bytes ≡ front ++ log.gate ∷ log.rest
  unfolding front head
  whole = sym (take-append-drop base bytes) ∙ ap (λ (l : List ℕ). take base bytes ++ l) log.is ∙ sym (append_assoc (take base bytes) (frames records) (log.gate ∷ log.rest))

  -- the bytes before the base are kept
  kept : (some : List (List ℕ)) (rest image : List ℕ) → image ≡ (head ++ frames some) ++ rest → take base image ≡ take base bytes
  unfolding head
  kept some rest image is = ap (take base) (is ∙ append_assoc head (frames some) rest) ∙ take_at head (frames some ++ rest) base head_is

  -- the old records
  old_log : (gate : ℕ) (rest image : List ℕ) → gate ≢ 1 → image ≡ front ++ gate ∷ rest → IsOldOrNew base records body bytes image
  unfolding front
  old_log gate rest image shut is = record { before = kept records (gate ∷ rest) image is; reads = inl (log_here base records head gate rest image head_is log.some log.short shut is) }

  -- an open gate before the record, and a closed one behind it
  with_more : (after image : List ℕ) → image ≡ front ++ 1 ∷ (closed body ++ after) → image ≡ (head ++ frames (records ++ body ∷ [])) ++ 0 ∷ after
  unfolding front
  with_more after image is =
      is ∙ opened_gate (head ++ frames records) body after ∙ ap (λ (l : List ℕ). l ++ 0 ∷ after) (append_assoc head (frames records) (frame body) ∙ ap (λ (l : List ℕ). head ++ l) (sym (frames-push records body)))

  new_log : (after image : List ℕ) → image ≡ front ++ 1 ∷ (closed body ++ after) → IsLog base (records ++ body ∷ []) image
  new_log after image is =
      log_here base (records ++ body ∷ []) head 0 after image head_is (not_none records body) (All-push IsShort records body log.short short) (λ e. omega arith) (with_more after image is)

  pub behind : (n : ℕ) (image : List ℕ) → Torn (e + 1) n bytes image → IsOldOrNew base records body bytes image
  behind n image torn =
      let P : List ℕ → Type 0 = λ b. Torn (e + 1) n b image in
      old_log log.gate (drop (e + 1) image) image log.closed (torn_behind front log.gate log.rest e front_is n image (subst P whole torn))

  module _ (mid : List ℕ) (holds : Holds (e + 1) (closed body) bytes mid) where
    staged : (after : List ℕ) × (mid ≡ front ++ log.gate ∷ (closed body ++ after))
    staged = let P : List ℕ → Type 0 = λ b. Holds (e + 1) (closed body) b mid in held_behind front log.gate log.rest e front_is (closed body) mid (subst P whole holds)

    -- any gate before the record
    either : (other : ℕ) (image : List ℕ) → image ≡ front ++ other ∷ (closed body ++ staged.0) → IsOldOrNew base records body bytes image
    either other image is = elim (nat_cases other 1) [
      | inl open_gate ↦
          let opened : image ≡ front ++ 1 ∷ (closed body ++ staged.0) = is ∙ ap (λ (g : ℕ). front ++ g ∷ (closed body ++ staged.0)) open_gate in
          record { before = kept (records ++ body ∷ []) (0 ∷ staged.0) image (with_more staged.0 image opened); reads = inr (new_log staged.0 image opened) }
      | inr shut ↦ old_log other (closed body ++ staged.0) image shut is
    ]

    pub opening : (image : List ℕ) → Torn e 1 mid image → IsOldOrNew base records body bytes image
    opening image torn =
        let P : List ℕ → Type 0 = λ b. Torn e 1 b image in
        let some = torn_gate front log.gate (closed body ++ staged.0) e front_is image (subst P staged.1 torn) in
        either some.0 image some.1

    pub opened : (new : List ℕ) → Holds e (1 ∷ []) mid new → IsLog base (records ++ body ∷ []) new
    opened new is_open =
        let P : List ℕ → Type 0 = λ b. Holds e (1 ∷ []) b new in
        new_log staged.0 new (held_gate front log.gate (closed body ++ staged.0) e front_is 1 new (subst P staged.1 is_open))

-- where nothing was written the old records stand
pub nothing_added : (base : ℕ) (records : List (List ℕ)) (body bytes : List ℕ) → IsLog base records bytes → IsOldOrNew base records body bytes bytes
nothing_added base records body bytes log = record { before = refl; reads = inl log }

-- a first record, over what stands there
pub first_log : (base : ℕ) (first old new : List ℕ) → IsShort first → base ≤ length old → Holds base (frame first ++ 0 ∷ []) old new → IsLog base (first ∷ []) new
first_log base first old new short within holds =
    let after = drop (base + length (frame first ++ 0 ∷ [])) old in
    log_here base (first ∷ []) (take base old) 0 after new (length-take-le base old within) (λ e. cc) (All-push IsShort [] first (All-nil IsShort) short) (λ e. omega arith)
    (holds ∙ ap (λ (l : List ℕ). l ++ after) (sym (append_assoc (take base old) (frame first) (0 ∷ []))) ∙ append_assoc (take base old ++ frame first) (0 ∷ []) after
    ∙ ap (λ (l : List ℕ). (take base old ++ l) ++ 0 ∷ after) (sym (append-nil (frame first))))

-- extents of equal parts
same_extent : (a b : Extent) → a.base ≡ b.base → a.gate ≡ b.gate → a.first_len ≡ b.first_len → a ≡ b
same_extent a b base gate first =
    let A : ℕ → ℕ → ℕ → Extent = λ x y z. record { base = x; gate = y; first_len = z } in
    ap (λ (k : ℕ). A k a.gate a.first_len) base ∙ ap (λ (k : ℕ). A b.base k a.first_len) gate ∙ ap (λ (k : ℕ). A b.base b.gate k) first

first_stays : (records : List (List ℕ)) (body : List ℕ) → records ≢ [] → first_length (records ++ body ∷ []) ≡ first_length records
first_stays [] body some = absurd (some refl)
first_stays (x ∷ xs) body some = refl

-- the extent of a log with one record
pub first_extent : (base : ℕ) (first bytes : List ℕ) → IsLog base (first ∷ []) bytes → IsLogOf (record { base = base; gate = base + 9 + length first; first_len = length first }) (first ∷ []) bytes
first_extent base first bytes is = record {
  is_log = is;
  extent = same_extent _ _ refl (omega (arith, length-frame first, length-append (frame first) [])) refl;
}

-- the extent of a log with one record more
pub grown_log : (log : Extent) (records : List (List ℕ)) (body old new : List ℕ) → IsLogOf log records old → IsLog log.base (records ++ body ∷ []) new → IsLogOf (grown log (length body)) (records ++ body ∷ []) new
grown_log log records body old new of is =
    let gate : log.gate ≡ log.base + length (frames records) = ap (λ (x : Extent). x.gate) of.extent in
    record {
      is_log = is;
      extent = same_extent _ _ refl (omega (arith, gate, length-frames_push records body)) (ap (λ (x : Extent). x.first_len) of.extent ∙ sym (first_stays records body of.is_log.some));
    }
