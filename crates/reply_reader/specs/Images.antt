-- What is made of a value that was spelled.
use Rattle.std.specs.Prelude.{◌≡◌}
use Rattle.grid_model.specs.Names.{Text}

-- the text spells a value of which this one is made
pub record Image {A B : Type 0} (make : A → B) (Spells : Text → A → Type 0) (text : Text) (made : B) : Type 0 where
  pub value : A
  pub is : made ≡ make value
  pub spells : Spells text value
