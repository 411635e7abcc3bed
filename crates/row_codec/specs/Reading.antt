-- Readers of the parts of a spelling, as functions on lists.
use Rattle.std.specs.Prelude.{◌≡◌, ℕ, zero, suc, ◌-◌, Bool, List, [], ◌∷◌, length, take, drop, Option, Some, None, Result, Ok, Err, nat_lt, ◌==◌, if◌then◌else◌}
use Rattle.std.specs.List.{prefix_len}
use Rattle.std.specs.Int.{w32, w64, from_be_bytes}
use Rattle.grid_model.specs.Names.{Text}
use Rattle.grid_model.specs.Deltas.{is_shown_byte, is_rule_byte}
use Rattle.row_codec.specs.declared.stop.Stop.{Stop}
use Rattle.row_codec.specs.declared.stop.Stop.TheVariants.{Memory, Broken}
use Rattle.row_codec.specs.declared.fields.Alphabet.{Alphabet}
use Rattle.row_codec.specs.declared.fields.Alphabet.TheVariants.{Shown, Rules}

-- A value at the front and the bytes behind it, or how many bytes are left from the first place on that no spelling
-- goes on from.
abbrev pub Read : Type 0 → Type 0
Read A = Result (A × Text) ℕ

-- what a call answered is what reading gives, unless memory ran out
abbrev pub StopsReading : {A : Type 0} → Stop → Read A → Type 0
StopsReading Memory read = Unit {0}
StopsReading (Broken left) read = read ≡ Err left

abbrev pub Gives : {X A : Type 0} → (X → A × Text) → Result X Stop → Read A → Type 0
Gives view (Ok x) read = read ≡ Ok (view x)
Gives view (Err e) read = StopsReading e read

-- one reader, and then the reader that its value picks
abbrev pub bind : {A B : Type 0} → Read A → (A → Text → Read B) → Read B
bind (Ok x) f = f x.0 x.1
bind (Err left) f = Err left

unfoldable pub and_then : {A B : Type 0} → (Text → Read A) → (A → Text → Read B) → Text → Read B
and_then p f s = bind (p s) f

-- nothing is read
unfoldable pub give : {A : Type 0} → A → Text → Read A
give a s = Ok (a, s)

infixl 10 ◌>>=◌
abbrev pub ◌>>=◌ : {A B : Type 0} → (Text → Read A) → (A → Text → Read B) → Text → Read B
◌>>=◌ = and_then

-- ---- numbers and digests

unfoldable pub byte_at : Text → Read ℕ
byte_at [] = Err 0
byte_at (b ∷ s) = Ok (b, s)

-- so many bytes
unfoldable pub fixed_at : ℕ → Text → Read Text
fixed_at n s = if nat_lt (length s) n then Err 0 else Ok (take n s, drop n s)

unfoldable pub u32_at : Text → Read ℕ
u32_at s = if nat_lt (length s) 4 then Err 0 else Ok (from_be_bytes w32 (take 4 s), drop 4 s)

unfoldable pub u64_at : Text → Read ℕ
u64_at s = if nat_lt (length s) 8 then Err 0 else Ok (from_be_bytes w64 (take 8 s), drop 8 s)

-- the value of the byte before these bytes
abbrev pub known_or : {A : Type 0} → Option A → Text → Read A
known_or (Some a) s = Ok (a, s)
known_or None s = Err (suc (length s))

-- a byte that stands for a value
unfoldable pub coded_at : {A : Type 0} → (ℕ → Option A) → Text → Read A
coded_at known [] = Err 0
coded_at known (b ∷ s) = known_or (known b) s

-- ---- texts

abbrev pub is_allowed : Alphabet → ℕ → Bool
is_allowed Shown = is_shown_byte
is_allowed Rules = is_rule_byte

-- so many bytes, all of which may stand in the text
unfoldable pub chars_at : Alphabet → ℕ → Text → Read Text
chars_at a n s = if prefix_len (is_allowed a) (take n s) == n then Ok (take n s, drop n s) else Err (length s - prefix_len (is_allowed a) (take n s))

unfoldable pub text_at : Alphabet → Text → Read Text
text_at a = do
  n ← u64_at
  chars_at a n

-- ---- lists

-- so many members
unfoldable pub many_at : {A : Type 0} → (Text → Read A) → ℕ → Text → Read (List A)
many_at read zero s = Ok ([], s)
many_at read (suc n) s = and_then read (λ x. and_then (many_at read n) (λ xs. give (x ∷ xs))) s

unfoldable pub list_at : {A : Type 0} → (Text → Read A) → Text → Read (List A)
list_at read = do
  n ← u64_at
  many_at read n
