-- A name as a text in the catalogue, and the last name of a path.
use Rattle.std.proofs.Common.{◌≡◌, ℕ, suc, ◌^◌, ◌<◌, true, List, [], ◌∷◌, ◌++◌, length, get_or, IsTrue, refl, sym, ap, ◌∙◌, eq-eqb, arith}
use Rattle.std.specs.Prelude.{not, ◌&&◌, ◌==◌, nat_le, nat_lt}
use Rattle.std.specs.List.{list_all}
use Rattle.std.proofs.lemmas.Bool.{and_parts, and_from, lt-ltb}
use Rattle.std.proofs.lemmas.List.Folds.{list_all-append}
use Rattle.grid_model.specs.Names.{Text, Path, is_name, is_path, is_name_byte}
use Rattle.grid_model.specs.Deltas.{digest, is_shown_byte, is_byte, text}
use Rattle.grid_model.proofs.NameSpelling.{IsName, IsName-from_test}

shown_byte : (b : ℕ) → b < 256 → is_name_byte b ≡ true → is_shown_byte b ≡ true
shown_byte b lt e = and_from (nat_le 0x20 b && not (b == 0x7F)) (is_byte b) (and_parts (nat_le 0x20 b && not (b == 0x7F)) (not (b == 0x2F)) e).0 (lt-ltb b 256 lt)

all_shown : (s : Text) → ((i : ℕ) → get_or s i 0 < 256) → list_all is_name_byte s ≡ true → list_all is_shown_byte s ≡ true
all_shown [] below e = refl
all_shown (b ∷ s) below e =
    let parts = and_parts (is_name_byte b) (list_all is_name_byte s) e in
    and_from (is_shown_byte b) (list_all is_shown_byte s) (shown_byte b (below 0) parts.0) (all_shown s (λ i. below (suc i)) parts.1)

pub name_fits : (s : Text) → ((i : ℕ) → get_or s i 0 < 256) → IsTrue (is_name s) → IsTrue (text s).fits
name_fits s below e =
    let name : IsName s = IsName-from_test s e in
    and_from (nat_lt (length s) (2 ^ 64)) (list_all is_shown_byte s) (lt-ltb (length s) (2 ^ 64) (omega (arith, name.few))) (all_shown s below name.bytes)

pub last_named : (p : Path) (name : Text) (rest : Path) → p ≡ rest ++ name ∷ [] → IsTrue (is_path p) → IsTrue (is_name name)
last_named p name rest e all =
    let last : (list_all is_name rest && list_all is_name (name ∷ [])) ≡ true = sym (list_all-append is_name rest (name ∷ [])) ∙ ap (list_all is_name) (sym e) ∙ all in
    let one = (and_parts (list_all is_name rest) (list_all is_name (name ∷ [])) last).1 in
    (and_parts (is_name name) true one).0

all_bytes : (d : List ℕ) → ((i : ℕ) → get_or d i 0 < 256) → list_all is_byte d ≡ true
all_bytes [] below = refl
all_bytes (b ∷ d) below = and_from (is_byte b) (list_all is_byte d) (lt-ltb b 256 (below 0)) (all_bytes d (λ i. below (suc i)))

pub digest_fits : (d : List ℕ) → length d ≡ 32 → ((i : ℕ) → get_or d i 0 < 256) → IsTrue (digest d).fits
digest_fits d size below = and_from (length d == 32) (list_all is_byte d) (eq-eqb (length d) 32 size) (all_bytes d below)
