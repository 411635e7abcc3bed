-- The words of a data line, written from the part's place backwards.
use Rattle.std.proofs.Common.{◌≡◌, ℕ, suc, ◌+◌, ◌-◌, ◌<◌, ◌≤◌, List, [], ◌∷◌, ◌++◌, length, take, drop, set, slice_range, arith, sym, ap, ◌∙◌, append_assoc, length-append}
use Rattle.std.proofs.Math.Seq.{take-append_seam, drop-append_seam}
use Rattle.std.proofs.Math.ListN.{length-set}
use Rattle.std.proofs.lemmas.List.{length-take-le, length-drop, drop-drop}
use Rattle.std.specs.Fmt.{decimal}
use Rattle.std.proofs.lemmas.List.{drop-set, drop-set-add, set_split}
use Rattle.grid_model.specs.DataLines.{data_line}

-- what stands between the number and the count
abbrev pub data_word : List ℕ
data_word = 0x20 ∷ 0x64 ∷ 0x61 ∷ 0x74 ∷ 0x61 ∷ 0x20 ∷ []

-- the newlines in front of the part and behind it
pub newlines : (buf : List ℕ) (front count : ℕ) → front + 1 + count < length buf
    → (drop front (set (set buf (front + 1 + count) 0x0A) front 0x0A) ≡ 0x0A ∷ (take count (drop (front + 1) buf) ++ (0x0A ∷ drop (suc count) (drop (front + 1) buf))))
newlines buf front count room =
    let behind : drop (front + 1) (set buf (front + 1 + count) 0x0A) ≡ take count (drop (front + 1) buf) ++ (0x0A ∷ drop (suc count) (drop (front + 1) buf)) = drop-set-add (front + 1) buf count 0x0A ∙ set_split (drop (front + 1) buf) count 0x0A (omega (arith, length-drop (front + 1) buf)) in
    drop-set (set buf (front + 1 + count) 0x0A) front 0x0A (omega (arith, length-set buf (front + 1 + count) 0x0A)) ∙ ap (λ (xs : List ℕ). 0x0A ∷ xs) behind

-- the part of a list from a place on is changed
pub drop_changed : (at : ℕ) (xs ys : List ℕ) → at ≤ length xs → drop at (take at xs ++ ys) ≡ ys
drop_changed at xs ys le = ap (λ (k : ℕ). drop k (take at xs ++ ys)) (sym (length-take-le at xs le)) ∙ drop-append_seam (take at xs) ys

pub reaches : (at : ℕ) (xs ys : List ℕ) → at ≤ length xs → at ≤ length (take at xs ++ ys)
reaches at xs ys le = omega (arith, length-append (take at xs) ys, length-take-le at xs le)

-- the pieces are the line
regroup : (number word count part rest : List ℕ) → number ++ (word ++ (count ++ (0x0A ∷ (part ++ (0x0A ∷ rest))))) ≡ ((((number ++ (word ++ count)) ++ (0x0A ∷ [])) ++ part) ++ (0x0A ∷ [])) ++ rest
regroup number word count part rest = simp append_assoc

pub line_is : (number : ℕ) (part rest : List ℕ) → decimal number ++ (data_word ++ (decimal (length part) ++ (0x0A ∷ (part ++ (0x0A ∷ rest))))) ≡ data_line number part ++ rest
line_is number part rest = regroup (decimal number) data_word (decimal (length part)) part rest

measured : (number word count part : List ℕ) → length ((((number ++ (word ++ count)) ++ (0x0A ∷ [])) ++ part) ++ (0x0A ∷ [])) ≡ length number + length word + length count + length part + 2
measured number word count part = simp length-append (omega arith)

pub length-data_line : (number : ℕ) (part : List ℕ) → length (data_line number part) ≡ length (decimal number) + length (decimal (length part)) + length part + 8
length-data_line number part = measured (decimal number) data_word (decimal (length part)) part ∙ omega arith

-- what stands from the line's place on, after the words were written backwards
pub framed : (number count at data_at six front : ℕ) (buf counted worded whole : List ℕ)
    → front + 1 + count < length buf → data_at + six ≡ at → six ≡ 6 → at + length (decimal count) ≡ front → data_at ≤ length counted
    → drop at counted ≡ decimal count ++ drop front (set (set buf (front + 1 + count) 0x0A) front 0x0A)
    → worded ≡ take data_at counted ++ (data_word ++ drop six (drop data_at counted))
    → (start : ℕ) → start + length (decimal number) ≡ data_at → drop start whole ≡ decimal number ++ drop data_at worded
    → slice_range whole start (front + 1 + count + 1) ≡ data_line number (take count (drop (front + 1) buf))
framed number count at data_at six front buf counted worded whole room data_is six_is count_is within counts words start start_is numbers =
    let part : List ℕ = take count (drop (front + 1) buf) in
    let rest : List ℕ = drop (suc count) (drop (front + 1) buf) in
    let part_len : length part ≡ count = length-take-le count (drop (front + 1) buf) (omega (arith, length-drop (front + 1) buf)) in
    let behind : drop six (drop data_at counted) ≡ decimal (length part) ++ (0x0A ∷ (part ++ (0x0A ∷ rest))) =
    drop-drop six data_at counted ∙ ap (λ (k : ℕ). drop k counted) (omega arith) ∙ counts ∙ ap (λ (xs : List ℕ). decimal count ++ xs) (newlines buf front count room)
    ∙ ap (λ (n : ℕ). decimal n ++ (0x0A ∷ (part ++ (0x0A ∷ rest)))) (sym part_len) in
    let all : drop start whole ≡ data_line number part ++ rest =
    numbers ∙ ap (λ (xs : List ℕ). decimal number ++ drop data_at xs) words ∙ ap (λ (xs : List ℕ). decimal number ++ xs) (drop_changed data_at counted (data_word ++ drop six (drop data_at counted)) within)
    ∙ ap (λ (xs : List ℕ). decimal number ++ (data_word ++ xs)) behind ∙ line_is number part rest in
    let size : front + 1 + count + 1 - start ≡ length (data_line number part) = omega (arith, length-data_line number part, ap (λ (n : ℕ). length (decimal n)) part_len) in
    ap (λ (xs : List ℕ). take (front + 1 + count + 1 - start) xs) all ∙ ap (λ (k : ℕ). take k (data_line number part ++ rest)) size ∙ take-append_seam (data_line number part) rest
