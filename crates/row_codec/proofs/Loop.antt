-- Reading members one after the other, as a loop does.
use Rattle.std.proofs.Common.{◌≡◌, ℕ, suc, ◌-◌, ◌+◌, ◌≤◌, ◌<◌, List, [], ◌∷◌, ◌++◌, Ok, Err, refl, sym, ap, ◌∙◌, append_assoc, arith}
use Rattle.std.proofs.lemmas.List.{append-nil}
use Rattle.grid_model.specs.Names.{Text}
use Rattle.row_codec.specs.declared.stop.Stop.{Stop}
use Rattle.row_codec.specs.declared.stop.Stop.TheVariants.{Memory, Broken}
use Rattle.row_codec.specs.Reading.{Read, StopsReading, bind, and_then, give, many_at}

-- what was read before, and what is still read
abbrev pub with_front : {A : Type 0} → List A → Read (List A) → Read (List A)
with_front front read = bind read (λ xs s. Ok (front ++ xs, s))

module _ {A : Type 0} (read : Text → Read A) where
  regroup : (front : List A) (x : A) (r : Read (List A)) → with_front front (bind r (λ xs s. Ok (x ∷ xs, s))) ≡ with_front (front ++ x ∷ []) r
  regroup front x (Ok r) = ap (λ (xs : List A). Ok (xs, r.1)) (simp append_assoc)
  regroup front x (Err e) = refl

  pub goes_on : (front : List A) (count i : ℕ) (s : Text) (x : A) (behind : Text) (total : Read (List A)) → i < count → read s ≡ Ok (x, behind)
      → with_front front (many_at read (count - i) s) ≡ total → with_front (front ++ x ∷ []) (many_at read (count - (i + 1)) behind) ≡ total
  unfolding many_at and_then give
  goes_on front count i s x behind total lt h so_far =
      let k : count - i ≡ suc (count - (i + 1)) = omega arith in
      let one : with_front front (many_at read (count - i) s) ≡ with_front (front ++ x ∷ []) (many_at read (count - (i + 1)) behind) = rw (k, h) (regroup front x (many_at read (count - (i + 1)) behind)) in
      sym one ∙ so_far

  pub ends : (e : Stop) (front : List A) (count i : ℕ) (s : Text) (total : Read (List A)) → i < count → StopsReading e (read s)
      → with_front front (many_at read (count - i) s) ≡ total → StopsReading e total
  unfolding many_at and_then give
  ends Memory front count i s total lt h so_far = tt
  ends (Broken left) front count i s total lt h so_far =
      let k : count - i ≡ suc (count - (i + 1)) = omega arith in
      let one : with_front front (many_at read (count - i) s) ≡ Err left = rw (k, h) refl in
      sym so_far ∙ one

  pub is_done : (front : List A) (count i : ℕ) (s : Text) (total : Read (List A)) → count ≤ i → with_front front (many_at read (count - i) s) ≡ total → total ≡ Ok (front, s)
  unfolding many_at
  is_done front count i s total le so_far =
      let k : count - i ≡ 0 = omega arith in
      let one : with_front front (many_at read (count - i) s) ≡ Ok (front, s) = rw k (ap (λ (xs : List A). Ok (xs, s)) (append-nil front)) in
      sym so_far ∙ one
