-- Where a text stops being one that is accepted. Places count from 0, and are this project's own.
use Rattle.std.specs.Prelude.{ℕ, ◌<◌, ◌≤◌, List, ◌++◌, length, take}

module _ {X A : Type 0} (Spells : List X → A → Type 0) where
  -- the text begins one that spells something
  pub record Begins (text : List X) : Type 0 where
    pub more : List X
    pub value : A
    pub spells : Spells (text ++ more) value

  -- The text spells nothing, and this is the length of its longest prefix that begins a text which does.
  pub record IsRefusedAt (text : List X) (place : ℕ) : Type 0 where
    pub spells_nothing : (a : A) → ¬ Spells text a
    pub within : place ≤ length text
    pub begins : Begins (take place text)
    pub longest : (n : ℕ) → place < n → n ≤ length text → ¬ Begins (take n text)
