-- How a line may go on at a place in it, and what a byte changes of that.
use Rattle.std.specs.Prelude.{◌≡◌, ℕ, Bool, true, false, List, [], ◌∷◌, ◌++◌, Option, Some, None, IsTrue}
use Rattle.std.specs.List.{list_all}
use Rattle.grid_model.specs.Names.{Text}
use Rattle.grid_model.specs.Words.{is_bare_byte, is_escaped, SpellsInner, SpellsLine, EndsWord}
use Rattle.req_words.specs.declared.reading.Place.{Place}
use Rattle.req_words.specs.declared.reading.Place.TheVariants.{Gap, Bare, Quoted, Escape, Closed}

-- the rest of a word without quotes, which began so, and then the rest of the line
pub record GoesOnBare (begun rest : Text) (words : List Text) : Type 0 where
  pub more : Text
  pub behind : Text
  pub others : List Text
  pub bytes : IsTrue (list_all is_bare_byte more)
  pub split : rest ≡ more ++ behind
  pub ends : EndsWord behind
  pub line : SpellsLine behind others
  pub words_are : words ≡ (begun ++ more) ∷ others

-- the same between quotes, with the quote that closes
pub record GoesOnQuoted (begun rest : Text) (words : List Text) : Type 0 where
  pub inner : Text
  pub more : Text
  pub behind : Text
  pub others : List Text
  pub spells : SpellsInner inner more
  pub split : rest ≡ inner ++ 0x22 ∷ behind
  pub ends : EndsWord behind
  pub line : SpellsLine behind others
  pub words_are : words ≡ (begun ++ more) ∷ others

-- the same behind a `\`
pub record GoesOnEscaped (begun rest : Text) (words : List Text) : Type 0 where
  pub byte : ℕ
  pub behind : Text
  pub stands : IsTrue (is_escaped byte)
  pub split : rest ≡ byte ∷ behind
  pub then : GoesOnQuoted (begun ++ byte ∷ []) behind words

-- what may stand from the place on, and the words that it gives with what was begun
abbrev pub Follows : Place → Text → List Text → Type 0
Follows Gap rest words = SpellsLine rest words
Follows (Bare begun) rest words = GoesOnBare begun.items rest words
Follows (Quoted begun) rest words = GoesOnQuoted begun.items rest words
Follows (Escape begun) rest words = GoesOnEscaped begun.items rest words
Follows Closed rest words = EndsWord rest × SpellsLine rest words

-- after the byte exactly that follows which follows at the next place, behind the words that ended
pub record ByteStep (place : Place) (byte : ℕ) (next : Place) (ended : List Text) : Type 0 where
  pub to : (rest : Text) (words : List Text) → Follows next rest words → Follows place (byte ∷ rest) (ended ++ words)
  pub from : (rest : Text) (words : List Text) → Follows place (byte ∷ rest) words → (later : List Text) × (words ≡ ended ++ later) × Follows next rest later

-- where nothing is next, no such byte may stand
abbrev pub StepsTo : Place → ℕ → Option Place → List Text → Type 0
StepsTo place byte None ended = (rest : Text) (words : List Text) → ¬ Follows place (byte ∷ rest) words
StepsTo place byte (Some next) ended = ByteStep place byte next ended

-- the words before the byte and after it
abbrev pub Moves : Place → List Text → ℕ → Option Place → List Text → Type 0
Moves place before byte next after = (ended : List Text) × (after ≡ before ++ ended) × StepsTo place byte next ended

-- the line may end here, and then exactly these words end with it
pub record EndsAt (place : Place) (ended : List Text) : Type 0 where
  pub to : Follows place [] ended
  pub from : (words : List Text) → Follows place [] words → words ≡ ended

-- the words before the line's end and after it; `false` where it may not end
abbrev pub Finishes : Place → List Text → Bool → List Text → Type 0
Finishes place before true after = (ended : List Text) × (after ≡ before ++ ended) × EndsAt place ended
Finishes place before false after = (words : List Text) → ¬ Follows place [] words
