-- What an ambient and a source give.
use Rattle.std.proofs.Common.{◌≡◌, ◌⊎◌, inl, inr, ℕ, ◌+◌, ◌-◌, min, List, [], ◌∷◌, ◌++◌, length, take, drop, replicate, get_or, IsTrue, true, ◌^◌, length-append, length-drop, arith, sym, ap, ◌∙◌, append_assoc}
use Rattle.std.proofs.lemmas.Bool.{cases_lt}
use Rattle.std.proofs.lemmas.List.{take_more, take_all, replicate_more, get_or_past, append-nil, take-append-drop, nil_from_length, take_at, drop-drop}
use Rattle.std.specs.Prelude.{nat_lt}
use Rattle.grid_outside.specs.Source.{TakesFront}
use Rattle.grid_mem.specs.CallLaws.{lt_of, lt_is}
use Rattle.grid_mem.specs.MemAmbient.{first_values}

-- one value more
pub given-add_one : (listed : List ℕ) (last count : ℕ) → first_values listed last (count + 1) ≡ first_values listed last count ++ get_or listed count last ∷ []
given-add_one listed last count = elim (cases_lt count (length listed)) [
  | inl lt ↦
      let none : (count + 1) - length listed ≡ 0 = omega arith in
      let none_before : count - length listed ≡ 0 = omega arith in
      ap (λ (n : ℕ). take (count + 1) listed ++ replicate n last) none ∙ append-nil (take (count + 1) listed) ∙ take_more listed count last lt
      ∙ ap (λ (xs : List ℕ). xs ++ get_or listed count last ∷ []) (sym (ap (λ (n : ℕ). take count listed ++ replicate n last) none_before ∙ append-nil (take count listed)))
  | inr le ↦
      let one : (count + 1) - length listed ≡ (count - length listed) + 1 = omega arith in
      ap (λ (xs : List ℕ). xs ++ replicate ((count + 1) - length listed) last) (take_all (count + 1) listed (omega arith) ∙ sym (take_all count listed le))
      ∙ ap (λ (n : ℕ). take count listed ++ replicate n last) one ∙ ap (λ (xs : List ℕ). take count listed ++ xs) (sym (replicate_more (count - length listed) last))
      ∙ sym (append_assoc (take count listed) (replicate (count - length listed) last) (last ∷ []))
      ∙ ap (λ (x : ℕ). (take count listed ++ replicate (count - length listed) last) ++ x ∷ []) (sym (get_or_past listed count last le))
]

-- the time or word that is given is the next one
pub one_given : (listed : List ℕ) (last count next value : ℕ) → next ≡ min (count + 1) (2 ^ 64 - 1) → IsTrue (nat_lt next (2 ^ 64 - 1)) → value ≡ get_or listed count last
    → first_values listed last next ≡ first_values listed last count ++ value ∷ []
one_given listed last count next value counted below is =
    let more : next ≡ count + 1 = omega (arith, lt_of next (2 ^ 64 - 1) below) in
    ap (first_values listed last) more ∙ given-add_one listed last count ∙ ap (λ (x : ℕ). first_values listed last count ++ x ∷ []) (sym is)

-- it told before
pub told : (count next : ℕ) → next ≡ min (count + 1) (2 ^ 64 - 1) → IsTrue (nat_lt next (2 ^ 64 - 1)) → nat_lt count (2 ^ 64 - 1) ≡ true
told count next counted below = lt_is count (2 ^ 64 - 1) (omega (arith, lt_of next (2 ^ 64 - 1) below))

-- a read takes what stands at the front of the buffer afterwards
pub takes_front : (bytes : List ℕ) (taken count : ℕ) (front back : List ℕ) → length front ≡ count → front ≡ take count (drop taken bytes) → (count ≡ 0 → (drop taken bytes ≡ []) ⊎ (length (front ++ back) ≡ 0))
    → TakesFront (drop taken bytes) count (front ++ back) (drop (taken + count) bytes)
takes_front bytes taken count front back size is at_end = record {
  split = sym (take-append-drop count (drop taken bytes)) ∙ ap (λ (xs : List ℕ). xs ++ drop count (drop taken bytes)) (sym is ∙ sym (take_at front back count size))
      ∙ ap (λ (xs : List ℕ). take count (front ++ back) ++ xs) (drop-drop count taken bytes);
  at_end = at_end;
}

pub at_end_of : (left buf front : List ℕ) (count : ℕ) → count ≡ min (length left) (length buf) → length front ≡ count → count ≡ 0 → (left ≡ []) ⊎ (length (front ++ drop count buf) ≡ 0)
at_end_of left buf front count is size none = elim (cases_lt 0 (length left)) [
  | inl some ↦ inr (omega (arith, length-append front (drop count buf), length-drop count buf))
  | inr le ↦ inl (nil_from_length left (omega (arith, le)))
]
