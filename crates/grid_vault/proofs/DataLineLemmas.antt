-- Data lines, one after another.
use Rattle.std.proofs.Common.{◌≡◌, ℕ, zero, suc, ◌*◌, ◌<◌, ◌≤◌, List, [], ◌∷◌, ◌++◌, length, take, drop, flat_map, arith, refl, ap, ◌∙◌, length-append}
use Rattle.std.proofs.lemmas.List.{take-append-le, drop-append-le, length-drop, append-nil, take_all, drop_all}
use Rattle.std.proofs.lemmas.Grind.{flat_map-append}
use Rattle.grid_model.specs.DataLines.{parts_within, data_line, data_lines}

-- how many parts there may be does not matter where they are enough
pub parts_enough : (d e : ℕ) (bytes : List ℕ) → length bytes ≤ d → length bytes ≤ e → parts_within d bytes ≡ parts_within e bytes
parts_enough zero zero bytes one two = refl
parts_enough zero (suc e) [] one two = refl
parts_enough zero (suc e) (b ∷ bytes) one two = absurd (omega arith)
parts_enough (suc d) zero [] one two = refl
parts_enough (suc d) zero (b ∷ bytes) one two = absurd (omega arith)
parts_enough (suc d) (suc e) [] one two = refl
parts_enough (suc d) (suc e) (b ∷ bytes) one two =
    ap (λ (ps : List (List ℕ)). take 65536 (b ∷ bytes) ∷ ps) (parts_enough d e (drop 65536 (b ∷ bytes)) (omega (arith, length-drop 65536 (b ∷ bytes))) (omega (arith, length-drop 65536 (b ∷ bytes))))

-- behind whole parts come the parts of what follows
pub parts-append : (k d e f : ℕ) (bytes more : List ℕ) → length bytes ≡ k * 65536 → length (bytes ++ more) ≤ d → length bytes ≤ e → length more ≤ f → parts_within d (bytes ++ more) ≡ parts_within e bytes ++ parts_within f more
parts-append zero d e f [] more size one two three = parts_enough d f more one three ∙ ap (λ (ps : List (List ℕ)). ps ++ parts_within f more) (parts_enough 0 e [] (omega arith) two)
parts-append zero d e f (b ∷ bytes) more size one two three = absurd (omega arith)
parts-append (suc k) d e f [] more size one two three = absurd (omega arith)
parts-append (suc k) zero e f (b ∷ bytes) more size one two three = absurd (omega arith)
parts-append (suc k) (suc d) zero f (b ∷ bytes) more size one two three = absurd (omega arith)
parts-append (suc k) (suc d) (suc e) f (b ∷ bytes) more size one two three =
    let long : 65536 ≤ length (b ∷ bytes) = omega arith in
    let rest : drop 65536 (b ∷ (bytes ++ more)) ≡ drop 65536 (b ∷ bytes) ++ more = drop-append-le 65536 (b ∷ bytes) more long in
    let next : parts_within d (drop 65536 (b ∷ (bytes ++ more))) ≡ parts_within e (drop 65536 (b ∷ bytes)) ++ parts_within f more =
    ap (parts_within d) rest ∙ parts-append k d e f (drop 65536 (b ∷ bytes)) more (omega (arith, length-drop 65536 (b ∷ bytes))) (omega (arith, length-drop 65536 (b ∷ bytes), length-append (drop 65536 (b ∷ bytes)) more, length-append bytes more)) (omega (arith, length-drop 65536 (b ∷ bytes))) three in
    ap (λ (ps : List (List ℕ)). take 65536 (b ∷ (bytes ++ more)) ∷ ps) next ∙ ap (λ (p : List ℕ). p ∷ (parts_within e (drop 65536 (b ∷ bytes)) ++ parts_within f more)) (take-append-le 65536 (b ∷ bytes) more long)

pub data_lines-append : (n k : ℕ) (bytes more : List ℕ) → length bytes ≡ k * 65536 → data_lines n (bytes ++ more) ≡ data_lines n bytes ++ data_lines n more
data_lines-append n k bytes more size =
    ap (flat_map (data_line n)) (parts-append k (length (bytes ++ more)) (length bytes) (length more) bytes more size (omega arith) (omega arith) (omega arith)) ∙ flat_map-append (data_line n) (parts_within (length bytes) bytes) (parts_within (length more) more)

-- a part is one line
pub data_lines-part : (n : ℕ) (part : List ℕ) → 0 < length part → length part ≤ 65536 → data_lines n part ≡ data_line n part
data_lines-part n [] some short = absurd (omega arith)
data_lines-part n (b ∷ part) some short =
    let whole : take 65536 (b ∷ part) ≡ b ∷ part = take_all 65536 (b ∷ part) short in
    let none : drop 65536 (b ∷ part) ≡ [] = drop_all 65536 (b ∷ part) short in
    ap (λ (p : List ℕ). data_line n p ++ flat_map (data_line n) (parts_within (length part) (drop 65536 (b ∷ part)))) whole
    ∙ ap (λ (p : List ℕ). data_line n (b ∷ part) ++ flat_map (data_line n) (parts_within (length part) p)) none
    ∙ ap (λ (ps : List (List ℕ)). data_line n (b ∷ part) ++ flat_map (data_line n) ps) (parts_enough (length part) 0 [] (omega arith) (omega arith)) ∙ append-nil (data_line n (b ∷ part))
