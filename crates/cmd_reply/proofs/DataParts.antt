-- Data lines part by part.
use Rattle.std.proofs.Common.{◌≡◌, ℕ, zero, suc, ◌+◌, ◌-◌, ◌<◌, ◌≤◌, min, List, [], ◌∷◌, ◌++◌, length, take, drop, refl, sym, ap, ◌∙◌, subst, arith, append_assoc, length-drop}
use Rattle.std.specs.List.{flat_map}
use Rattle.std.proofs.lemmas.List.{take_min, drop_min}
use Rattle.grid_model.specs.Names.{Text}
use Rattle.grid_model.specs.Limits.{part_size}
use Rattle.grid_model.specs.DataLines.{data_line, data_lines, parts_within}

-- any bound that is no less than the length will do
pub parts_within-enough : (d e : ℕ) (bytes : Text) → length bytes ≤ d → length bytes ≤ e → parts_within d bytes ≡ parts_within e bytes
parts_within-enough zero zero [] g h = refl
parts_within-enough zero (suc e) [] g h = refl
parts_within-enough (suc d) zero [] g h = refl
parts_within-enough (suc d) (suc e) [] g h = refl
parts_within-enough zero e (b ∷ bytes) g h = absurd (omega (arith, g))
parts_within-enough (suc d) zero (b ∷ bytes) g h = absurd (omega (arith, h))
parts_within-enough (suc d) (suc e) (b ∷ bytes) g h =
    ap (λ ps. take part_size (b ∷ bytes) ∷ ps) (parts_within-enough d e (drop part_size (b ∷ bytes)) (omega (arith, g, length-drop part_size (b ∷ bytes))) (omega (arith, h, length-drop part_size (b ∷ bytes))))

-- the first part, and the data lines of the rest
pub data_lines-more : (n : ℕ) (bytes : Text) → 0 < length bytes → data_lines n bytes ≡ data_line n (take part_size bytes) ++ data_lines n (drop part_size bytes)
data_lines-more n [] some = absurd (omega (arith, some))
data_lines-more n (b ∷ bytes) some =
    ap (λ ps. data_line n (take part_size (b ∷ bytes)) ++ flat_map (data_line n) ps)
    (parts_within-enough (length bytes) (length (drop part_size (b ∷ bytes))) (drop part_size (b ∷ bytes)) (omega (arith, length-drop part_size (b ∷ bytes))) (omega arith))

-- a part that was written
pub data_lines-turn : (n : ℕ) (bytes part behind before after whole : Text) (k : ℕ) → 0 < length bytes → k ≡ min (length bytes) part_size → part ≡ take k bytes → behind ≡ drop k bytes
    → before ++ data_lines n bytes ≡ whole → after ≡ before ++ data_line n part → after ++ data_lines n behind ≡ whole
data_lines-turn n bytes part behind before after whole k some least is_part is_behind so_far more =
    let count : k ≡ min part_size (length bytes) = omega (arith, least) in
    let front : part ≡ take part_size bytes = is_part ∙ ap (λ m. take m bytes) count ∙ take_min part_size bytes in
    let left : behind ≡ drop part_size bytes = is_behind ∙ ap (λ m. drop m bytes) count ∙ drop_min part_size bytes in
    ap (λ t. t ++ data_lines n behind) more ∙ append_assoc before (data_line n part) (data_lines n behind)
    ∙ ap (λ t. before ++ t) ((λ i. data_line n (front i) ++ data_lines n (left i)) ∙ sym (data_lines-more n bytes some))
    ∙ so_far
