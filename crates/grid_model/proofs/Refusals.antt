-- A text is refused at one place.
use Rattle.std.proofs.Common.{◌≡◌, ℕ, ◌<◌, List, inl, inr}
use Rattle.std.specs.Prelude.{◌⊎◌}
use Rattle.std.proofs.lemmas.Bool.{cases_order}
use Rattle.grid_model.specs.Places.{IsRefusedAt}

module _ {X A : Type 0} (Spells : List X → A → Type 0) where
  pub IsRefusedAt-unique : (text : List X) (m n : ℕ) → IsRefusedAt Spells text m → IsRefusedAt Spells text n → m ≡ n
  IsRefusedAt-unique text m n at_m at_n = by (cases_order m n)
    where
      by : (m ≡ n) ⊎ ((m < n) ⊎ (n < m)) → m ≡ n
      by (inl e) = e
      by (inr (inl less)) = absurd (at_m.longest n less at_n.within at_n.begins)
      by (inr (inr more)) = absurd (at_n.longest m more at_m.within at_m.begins)
