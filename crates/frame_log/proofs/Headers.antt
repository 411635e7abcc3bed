-- What the bytes of a gate and a length that were read say of the disk.
use Rattle.std.proofs.Common.{◌≡◌, ◌≢◌, ℕ, ◌+◌, ◌-◌, ◌^◌, ◌<◌, ◌≤◌, List, ◌∷◌, ◌++◌, length, take, drop, get_or, arith, sym, ap, ◌∙◌, subst, take-append-drop, length-drop}
use Rattle.std.proofs.lemmas.List.{drop_all, drop_more, drop-drop, get_or-take, get_or-drop, take_all}
use Rattle.std.proofs.lemmas.Nat.{be_bytes_8}
use Rattle.std.specs.Int.{w64, to_be_bytes, from_be_bytes}
use Rattle.grid_outside.specs.Disk.{ReadsAt}
use Rattle.frame_log.specs.Log.{BreaksLog, no_gate, no_length, no_body}
use Rattle.frame_log.specs.Steps.{IsOpenAt, BreaksAt}

-- past the end there is no gate
pub gate_missing : (before : List (List ℕ)) (gate at : ℕ) (bytes : List ℕ) → length bytes ≤ gate → at ≡ gate → BreaksAt before gate at bytes
gate_missing before gate at bytes past is =
    let P : List ℕ → Type 0 = λ rest. BreaksLog before rest 0 in
    record { offset = 0; breaks = subst P (sym (drop_all gate bytes past)) (no_gate before); at_is = omega arith }

-- a gate that was read
pub gate_read : (gate n : ℕ) (bytes buf : List ℕ) → length buf ≡ 1 → n ≢ 0 → ReadsAt bytes gate n buf → get_or buf 0 0 ≡ 1 → drop gate bytes ≡ 1 ∷ drop (gate + 1) bytes
gate_read gate n bytes buf one some read open_gate =
    let within : gate < length bytes = omega (arith, read.count_is) in
    let here : get_or bytes gate 0 ≡ get_or buf 0 0 =
    ap (λ (k : ℕ). get_or bytes k 0) (omega arith) ∙ sym (get_or-drop gate bytes 0 0) ∙ sym (get_or-take n (drop gate bytes) 0 0 (omega arith)) ∙ ap (λ (l : List ℕ). get_or l 0 0) (sym read.same) ∙ get_or-take n buf 0 0 (omega arith) in
    drop_more bytes gate 0 within ∙ ap (λ (b : ℕ). b ∷ drop (gate + 1) bytes) (here ∙ open_gate)

-- a length that was read
size_read : (place n len : ℕ) (bytes buf : List ℕ) → length buf ≡ 8 → 8 ≤ n → ReadsAt bytes place n buf → ((i : ℕ) → get_or buf i 0 < 256) → len ≡ from_be_bytes w64 buf
    → drop place bytes ≡ to_be_bytes w64 len ++ drop (place + 8) bytes
size_read place n len bytes buf eight all read small is =
    let n_is : n ≡ 8 = omega (arith, read.count_is) in
    let front : take 8 (drop place bytes) ≡ to_be_bytes w64 len =
    sym (subst (λ k. take k buf ≡ take k (drop place bytes)) n_is read.same) ∙ take_all 8 buf (omega arith) ∙ sym (be_bytes_8 buf len eight small is) in
    sym (take-append-drop 8 (drop place bytes)) ∙ ap (λ (l : List ℕ). l ++ drop 8 (drop place bytes)) front ∙ ap (λ (l : List ℕ). to_be_bytes w64 len ++ l) (drop-drop 8 place bytes)

module _ (gate n m len : ℕ) (bytes state size : List ℕ) (one : length state ≡ 1) (some : n ≢ 0) (read : ReadsAt bytes gate n state) (open_gate : get_or state 0 0 ≡ 1)
    (eight : length size ≡ 8) (next : ReadsAt bytes (gate + 1) m size) where
  -- an open gate and a length
  pub header_read : 8 ≤ m → ((i : ℕ) → get_or size i 0 < 256) → len ≡ from_be_bytes w64 size → len < 2 ^ 64 → IsOpenAt gate len bytes
  header_read all small is short = record {
    short = short;
    is = gate_read gate n bytes state one some read open_gate ∙ ap (λ (l : List ℕ). 1 ∷ l) (size_read (gate + 1) m len bytes size eight all next small is)
        ∙ ap (λ (k : ℕ). 1 ∷ to_be_bytes w64 len ++ drop k bytes) (omega arith);
  }

  -- the length runs past the end
  pub length_cut : (before : List (List ℕ)) (at : ℕ) → at ≡ gate + 1 → length bytes - (gate + 1) < 8 → BreaksAt before gate at bytes
  length_cut before at is less =
      let P : List ℕ → Type 0 = λ rest. BreaksLog before rest 1 in
      record {
        offset = 1;
        breaks = subst P (sym (gate_read gate n bytes state one some read open_gate)) (no_length before (drop (gate + 1) bytes) (omega (arith, length-drop (gate + 1) bytes)));
        at_is = is;
      }

  -- the body runs past the end
  pub body_cut : (before : List (List ℕ)) (at : ℕ) → at ≡ gate + 1 → 8 ≤ m → ((i : ℕ) → get_or size i 0 < 256) → len ≡ from_be_bytes w64 size → len < 2 ^ 64 → length bytes - (gate + 9) < len → BreaksAt before gate at bytes
  body_cut before at is all small len_is short less =
      let P : List ℕ → Type 0 = λ rest. BreaksLog before rest 1 in
      record {
        offset = 1;
        breaks = subst P (sym (header_read all small len_is short).is) (no_body before len (drop (gate + 9) bytes) short (omega (arith, length-drop (gate + 9) bytes)));
        at_is = is;
      }
