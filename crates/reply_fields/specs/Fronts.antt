-- What stands at the front of the rest of a text.
use Rattle.std.specs.Prelude.{◌≡◌, ℕ, ◌-◌, ◌<◌, ◌≤◌, ◌++◌, length, take, drop, Result, Ok, Err}
use Rattle.grid_model.specs.Names.{Text}
use Rattle.grid_model.specs.Places.{Begins}
use Rattle.reply_fields.specs.declared.error.ReplyError.{ReplyError}
use Rattle.reply_fields.specs.declared.error.ReplyError.TheVariants.{BadReply, Memory}

module _ {A : Type 0} (Spells : Text → A → Type 0) where
  -- a front of the text spells the value, and this is the rest
  pub record IsFieldFront (text : Text) (value : A) (rest : Text) : Type 0 where
    pub spelled : Text
    pub split : text ≡ spelled ++ rest
    pub spells : Spells spelled value

  -- No front of the text spells a value, and so many bytes are its longest front that begins a spelling.
  pub record IsNoFieldFront (text : Text) (n : ℕ) : Type 0 where
    pub within : n ≤ length text
    pub begins : Begins Spells (take n text)
    pub none : (spelled rest : Text) (value : A) → text ≡ spelled ++ rest → ¬ Spells spelled value
    pub longest : (k : ℕ) → n < k → k ≤ length text → ¬ Begins Spells (take k text)

  -- what was read from the first place on, up to the second
  pub record IsRead (text : Text) (from : ℕ) (value : A) (to : ℕ) : Type 0 where
    pub forward : from ≤ to
    pub within : to ≤ length text
    pub front : IsFieldFront (drop from text) value (drop to text)

  -- nothing was read from the place on, since the bytes up to the second place begin a spelling, and those beyond it none
  pub record IsUnreadField (text : Text) (from place : ℕ) : Type 0 where
    pub forward : from ≤ place
    pub none : IsNoFieldFront (drop from text) (place - from)

  -- what reading from a place on gives
  abbrev pub ReadsFrom : Text → ℕ → Result (A × ℕ) ReplyError → Type 0
  ReadsFrom text from (Ok read) = IsRead text from read.0 read.1
  ReadsFrom text from (Err (BadReply place)) = IsUnreadField text from place
  ReadsFrom text from (Err Memory) = Unit {0}

-- A value, and then what may follow it. The whole spells what the second part gives.
pub record Then {A B : Type 0} (First : Text → A → Type 0) (Second : A → Text → B → Type 0) (text : Text) (value : B) : Type 0 where
  pub first : Text
  pub second : Text
  pub begun : A
  pub split : text ≡ first ++ second
  pub spells_first : First first begun
  pub spells_second : Second begun second value
