-- Words as texts in the catalogue, and back.
use Rattle.std.proofs.Common.{◌≡◌, ℕ, suc, ◌<◌, ◌^◌, true, [], ◌∷◌, length, get_or, IsTrue, refl}
use Rattle.std.specs.Prelude.{nat_lt}
use Rattle.std.specs.List.{list_all}
use Rattle.std.proofs.lemmas.Bool.{and_parts, and_from, lt-ltb}
use Rattle.grid_model.specs.Names.{Text}
use Rattle.grid_model.specs.Words.{is_word_byte}
use Rattle.grid_model.specs.Writable.{is_word}
use Rattle.grid_model.specs.Deltas.{is_shown_byte, is_byte, text}

all_shown : (s : Text) → ((i : ℕ) → get_or s i 0 < 256) → is_word s ≡ true → list_all is_shown_byte s ≡ true
all_shown [] below e = refl
all_shown (b ∷ s) below e =
    let parts = and_parts (is_word_byte b) (is_word s) e in
    and_from (is_shown_byte b) (list_all is_shown_byte s) (and_from (is_word_byte b) (is_byte b) parts.0 (lt-ltb b 256 (below 0))) (all_shown s (λ i. below (suc i)) parts.1)

pub word_fits : (s : Text) → ((i : ℕ) → get_or s i 0 < 256) → length s < 2 ^ 64 → IsTrue (is_word s) → IsTrue (text s).fits
word_fits s below few e = and_from (nat_lt (length s) (2 ^ 64)) (list_all is_shown_byte s) (lt-ltb (length s) (2 ^ 64) few) (all_shown s below e)

-- a text that is kept is a word
shown_word : (s : Text) → list_all is_shown_byte s ≡ true → is_word s ≡ true
shown_word [] e = refl
shown_word (b ∷ s) e =
    let parts = and_parts (is_shown_byte b) (list_all is_shown_byte s) e in
    and_from (is_word_byte b) (is_word s) (and_parts (is_word_byte b) (is_byte b) parts.0).0 (shown_word s parts.1)

pub kept_word : (s : Text) → (text s).fits ≡ true → is_word s ≡ true
kept_word s e = shown_word s (and_parts (nat_lt (length s) (2 ^ 64)) (list_all is_shown_byte s) e).1
