-- Reading a path part by part, each up to its `/` or the end.
use Rattle.std.proofs.Common.{◌≡◌, ℕ, suc, ◌+◌, ◌<◌, ◌≤◌, Bool, true, false, cond, [], ◌∷◌, ◌++◌, length, take, drop, refl, sym, ap, ◌∙◌, subst, arith, length-append, append_assoc, add-one, inl, inr}
use Rattle.std.specs.Prelude.{not, ◌⊎◌, ◌-◌, IsTrue}
use Rattle.std.specs.List.{position_or_len, before_first}
use Rattle.std.proofs.lemmas.Bool.{eqb-true, cases_lt}
use Rattle.std.proofs.lemmas.List.{append_cancel_right, take-append-drop, take-append-le, drop-append-le, drop_more, drop_all, length-take-le, length-drop, take_all, take_rest}
use Rattle.std.proofs.lemmas.List.Sums.{passes_at_first}
use Rattle.std.proofs.Math.Seq.{take-add}
use Rattle.grid_model.specs.Names.{Text, Path, is_name, is_path, print_path, SpellsName, SpellsPath}
use Rattle.grid_model.specs.Places.{IsRefusedAt}
use Rattle.grid_model.proofs.Fronts.{position_or_len-le, list_all-front}
use Rattle.grid_model.proofs.PathSpelling.{slashed, opened, is_slash, is_part, EndsPart, slashed-push, is_path-push, IsRefusedAt-part}

-- the part in front
abbrev pub part_of : Text → Text
part_of t = before_first is_slash t

pub length-part_of : (t : Text) → length (part_of t) ≡ position_or_len is_slash t
length-part_of t = length-take-le (position_or_len is_slash t) t (position_or_len-le is_slash t)

is_part-part_of : (t : Text) → is_part (part_of t) ≡ true
is_part-part_of t = list_all-front (λ b. not (is_slash b)) is_slash (λ b e. ap not e) t (position_or_len is_slash t) (omega arith)

EndsPart-behind : (t : Text) → EndsPart (drop (position_or_len is_slash t) t)
EndsPart-behind t = by (cases_lt (position_or_len is_slash t) (length t))
  where
    by : (position_or_len is_slash t < length t) ⊎ (length t ≤ position_or_len is_slash t) → EndsPart (drop (position_or_len is_slash t) t)
    by (inl more) = subst EndsPart (sym (drop_more t (position_or_len is_slash t) 0 more)) (eqb-true _ 0x2F (passes_at_first is_slash t 0 more))
    by (inr all) = subst EndsPart (sym (drop_all (position_or_len is_slash t) t all)) tt

-- the part and the `/` that ends it, where one stands behind the text
part_closed : (t : Text) → take (position_or_len is_slash t + 1) (t ++ 0x2F ∷ []) ≡ part_of t ++ 0x2F ∷ []
part_closed [] = refl
part_closed (b ∷ t) = by (part_closed t) (is_slash b) refl
  where
    by : take (position_or_len is_slash t + 1) (t ++ 0x2F ∷ []) ≡ part_of t ++ 0x2F ∷ [] → (x : Bool) → is_slash b ≡ x
        → take (position_or_len is_slash (b ∷ t) + 1) (b ∷ t ++ 0x2F ∷ []) ≡ take (position_or_len is_slash (b ∷ t)) (b ∷ t) ++ 0x2F ∷ []
    by rest true e =
        let n : position_or_len is_slash (b ∷ t) ≡ 0 = ap (λ x. cond (not x) (1 + position_or_len is_slash t) 0) e in
        ap (λ k. take (k + 1) (b ∷ t ++ 0x2F ∷ [])) n ∙ ap (λ x. x ∷ []) (eqb-true b 0x2F e) ∙ ap (λ k. take k (b ∷ t) ++ 0x2F ∷ []) (sym n)
    by rest false e =
        let n : position_or_len is_slash (b ∷ t) ≡ suc (position_or_len is_slash t) = ap (λ x. cond (not x) (1 + position_or_len is_slash t) 0) e ∙ omega arith in
        let m : position_or_len is_slash (b ∷ t) + 1 ≡ suc (position_or_len is_slash t + 1) = omega (arith, n) in
        ap (λ k. take k (b ∷ t ++ 0x2F ∷ [])) m ∙ ap (λ s. b ∷ s) rest ∙ ap (λ k. take k (b ∷ t) ++ 0x2F ∷ []) (sym n)

-- the text with a `/` behind it, read up to `start`
abbrev pub Read : Text → ℕ → Path → Type 0
Read rest start p = take (start + 1) (0x2F ∷ rest ++ 0x2F ∷ []) ≡ opened p

opened-push : (p : Path) (n : Text) → opened (p ++ n ∷ []) ≡ opened p ++ (n ++ 0x2F ∷ [])
opened-push p n = ap (λ t. t ++ 0x2F ∷ []) (slashed-push p n) ∙ append_assoc (opened p) n (0x2F ∷ [])

-- one part more
pub Read-more : (rest : Text) (start : ℕ) (p : Path) → start ≤ length rest → Read rest start p → Read rest (start + (length (part_of (drop start rest)) + 1)) (p ++ part_of (drop start rest) ∷ [])
Read-more rest start p within read =
    let whole = 0x2F ∷ rest ++ 0x2F ∷ [] in
    let t = drop start rest in
    let n = position_or_len is_slash t in
    let size : start + (length (part_of t) + 1) + 1 ≡ (start + 1) + (n + 1) = omega (arith, length-part_of t) in
    let behind : drop (start + 1) whole ≡ t ++ 0x2F ∷ [] = ap (λ k. drop k whole) (add-one start) ∙ drop-append-le start rest (0x2F ∷ []) within in
    ap (λ k. take k whole) size ∙ take-add (start + 1) (n + 1) whole
    ∙ (λ i. read i ++ (ap (take (n + 1)) behind ∙ part_closed t) i)
    ∙ sym (opened-push p (part_of t))

-- all parts
pub SpellsPath-from_read : (rest : Text) (start : ℕ) (p : Path) → length rest < start → is_path p ≡ true → Read rest start p → SpellsPath (0x2F ∷ rest) p
SpellsPath-from_read rest start p all names read = record { names = names; text_is = is ∙ by p (omega (arith, ap length is)) }
  where
    whole : 0x2F ∷ rest ++ 0x2F ∷ [] ≡ opened p
    whole = sym (take_all (start + 1) (0x2F ∷ rest ++ 0x2F ∷ []) (omega (arith, all, length-append rest (0x2F ∷ [])))) ∙ read

    is : 0x2F ∷ rest ≡ slashed p
    is = append_cancel_right (0x2F ∷ rest) (slashed p) (0x2F ∷ []) whole

    by : (p : Path) → 0 < length (slashed p) → slashed p ≡ print_path p
    by [] some = absurd (omega (arith, some))
    by (n ∷ p) some = refl

-- a part that is no name
pub IsRefusedAt-read : (rest : Text) (start : ℕ) (p : Path) (at : ℕ) → start ≤ length rest → 0 < length rest → is_path p ≡ true → Read rest start p → IsRefusedAt SpellsName (part_of (drop start rest)) at
    → IsRefusedAt SpellsPath (0x2F ∷ rest) (1 + start + at)
IsRefusedAt-read rest start p at within some names read refused =
    subst (IsRefusedAt SpellsPath (0x2F ∷ rest)) place (subst (λ s. IsRefusedAt SpellsPath s (length (opened p) + at)) (sym split)
    (IsRefusedAt-part (part_of (drop start rest)) (drop (position_or_len is_slash (drop start rest)) (drop start rest)) at (is_part-part_of (drop start rest)) (EndsPart-behind (drop start rest)) refused p names (omega (arith, some, ap length split))))
  where
    front : take (start + 1) (0x2F ∷ rest) ≡ opened p
    front = sym (take-append-le (start + 1) (0x2F ∷ rest) (0x2F ∷ []) (omega (arith, within))) ∙ read

    place : length (opened p) + at ≡ 1 + start + at
    place = let size = length-take-le (start + 1) (0x2F ∷ rest) (omega (arith, within)) in let same = ap length front in omega (arith, size, same)

    split : 0x2F ∷ rest ≡ opened p ++ (part_of (drop start rest) ++ drop (position_or_len is_slash (drop start rest)) (drop start rest))
    split = sym (take-append-drop (start + 1) (0x2F ∷ rest)) ∙ (λ i. front i ++ (ap (λ k. drop k (0x2F ∷ rest)) (add-one start) ∙ sym (take-append-drop (position_or_len is_slash (drop start rest)) (drop start rest))) i)

-- the names are those of the parts before `start`, which stands behind a `/` or the end
pub record IsRead (rest : Text) (start : ℕ) (p : Path) : Type 0 where
  pub in_range : start ≤ length rest + 1
  pub names : is_path p ≡ true
  pub read : Read rest start p

pub IsRead-more : (rest : Text) (start : ℕ) (p q : Path) (part : Text) → start ≤ length rest → IsRead rest start p → part ≡ part_of (take (length rest - start) (drop start rest)) → IsTrue (is_name part) → q ≡ p ++ part ∷ []
    → IsRead rest (start + (length part + 1)) q
IsRead-more rest start p q part within i first name more =
    let is = first ∙ ap part_of (take_rest rest start) in
    subst (IsRead rest (start + (length part + 1))) (sym more) (record {
      in_range = omega (arith, within, ap length is, length-part_of (drop start rest), position_or_len-le is_slash (drop start rest), length-drop start rest);
      names = is_path-push p part i.names name;
      read = subst (λ t. Read rest (start + (length t + 1)) (p ++ t ∷ [])) (sym is) (Read-more rest start p within i.read);
    })

pub IsRefusedAt-more : (text rest : Text) (start : ℕ) (p : Path) (part : Text) (at place : ℕ) → text ≡ 0x2F ∷ rest → start ≤ length rest → 0 < length rest → IsRead rest start p → part ≡ part_of (take (length rest - start) (drop start rest))
    → IsRefusedAt SpellsName part at → 1 + start + at ≡ place → IsRefusedAt SpellsPath text place
IsRefusedAt-more text rest start p part at place split within some i first refused is =
    subst (λ t. IsRefusedAt SpellsPath t place) (sym split)
    (subst (IsRefusedAt SpellsPath (0x2F ∷ rest)) is
    (IsRefusedAt-read rest start p at within some i.names i.read (subst (λ t. IsRefusedAt SpellsName t at) (first ∙ ap part_of (take_rest rest start)) refused)))
