-- The token at the front of each text, found by its bytes, or that none stands there.
use Rattle.std.proofs.Common.{◌≡◌, ◌≢◌, ℕ, ◌<◌, Bool, true, false, [], ◌∷◌, length, drop, refl, ap, ◌∙◌, arith, inl, inr}
use Rattle.std.specs.Prelude.{◌⊎◌, ◌==◌, slice_index}
use Rattle.std.proofs.lemmas.Bool.{both_ways, eqb-true}
use Rattle.std.proofs.lemmas.Bool.Decides.{Decides-eqb}
use Rattle.grid_model.specs.Names.{Text}
use Rattle.grid_model.specs.QueryTokens.{Token, equal, not_equal, less, greater, at_most, at_least, literal, comma, sign, is_identifier_byte}
use Rattle.grid_model.specs.QueryTokens.{quote_follows, Closes, closed, Front, a_word, a_literal}
use Rattle.query_parse.specs.Seen.{is_sign, SpellsLiteralByte, itself, doubled}
use Rattle.query_parse.proofs.LiteralLemmas.{Reaches, closes_behind, closes_before, never_closed}
use Rattle.query_parse.proofs.FrontLemmas.{begins_word, no_literal, first_and_rest, comma_at, sign_of_one, sign_of_two, less_ends}
use Rattle.query_parse.proofs.FrontLemmas.{greater_ends, equal_ends, last_sign, goes_on-first, none_here}
use Rattle.query_parse.proofs.FoundWords.{word_token, WordInFront, word_in_front, some_word}

abbrev IsOrNot : ℕ → ℕ → Type 0
IsOrNot a b = (a ≡ b) ⊎ (a ≢ b)

pub equal_or_not : (a b : ℕ) → (a ≡ b) ⊎ (a ≢ b)
equal_or_not a b = by (a == b) refl
  where
    by : (t : Bool) → (a == b) ≡ t → IsOrNot a b
    by true h = inl (eqb-true a b h)
    by false h = inr (λ e. both_ways (a == b) h ((Decides-eqb a b).1 e))

-- ---- literals

-- what stands behind an opening apostrophe is closed so, or not at all
data FindsClosing (behind : Text) : Type 0 where
  closes_so : (inner rest : Text) → Closes behind inner rest → FindsClosing behind
  closes_never : ((inner rest : Text) → ¬ Closes behind inner rest) → FindsClosing behind

one_before : {rest more : Text} {b : ℕ} → SpellsLiteralByte rest b more → FindsClosing more → FindsClosing rest
one_before {b = b} stands (closes_so inner left h) = closes_so (b ∷ inner) left (closes_before stands inner left h)
one_before stands (closes_never never) = closes_never (λ inner left h. let later = closes_behind stands h in never later.0 left later.1)

quote_alone : (b : ℕ) (rest : Text) → b ≡ 0x27 → quote_follows rest ≡ false → FindsClosing (b ∷ rest)
quote_alone b rest e ends = closes_so [] rest (closed (ap (λ x. x ∷ rest) e) ends)

last_byte : (b : ℕ) → IsOrNot b 0x27 → FindsClosing [] → FindsClosing (b ∷ [])
last_byte b (inl e) none = quote_alone b [] e refl
last_byte b (inr apart) none = one_before (itself refl apart) none

two_bytes : (b c : ℕ) (more : Text) → IsOrNot b 0x27 → (t : Bool) → (c == 0x27) ≡ t → FindsClosing (c ∷ more) → FindsClosing more
    → FindsClosing (b ∷ c ∷ more)
two_bytes b c more (inr apart) t h one two = one_before (itself refl apart) one
two_bytes b c more (inl e) false h one two = quote_alone b (c ∷ more) e h
two_bytes b c more (inl e) true h one two =
    one_before {b = 0x27} (doubled (ap (λ x. x ∷ c ∷ more) e ∙ ap (λ x. 0x27 ∷ x ∷ more) (eqb-true c 0x27 h)) refl) two

nothing_closes : FindsClosing []
nothing_closes = closes_never (λ inner rest h. never_closed h)

find_closing : (text : Text) → FindsClosing text
find_closing [] = nothing_closes
find_closing (b ∷ []) = last_byte b (equal_or_not b 0x27) nothing_closes
find_closing (b ∷ c ∷ more) = two_bytes b c more (equal_or_not b 0x27) (c == 0x27) refl (find_closing (c ∷ more)) (find_closing more)

-- ---- fronts

-- this token stands in front, or none
pub data FindsFront (text : Text) : Type 0 where
  a_front : (t : Token) (rest : Text) → Front text t rest → FindsFront text
  no_front_there : ((t : Token) (rest : Text) → ¬ Front text t rest) → FindsFront text

never_reached : (behind : Text) → ((inner rest : Text) → ¬ Closes behind inner rest) → Reaches behind [] []
never_reached behind never = record { lifts = λ more left h. absurd (never_closed h); lowers = λ whole left h. absurd (never whole left h) }

find_literal : (text behind : Text) → text ≡ 0x27 ∷ behind → FindsClosing behind → FindsFront text
find_literal text behind is (closes_so inner rest h) = a_front (literal inner) rest (a_literal behind is h)
find_literal text behind is (closes_never never) = no_front_there (no_literal text [] behind is (never_reached behind never))

find_word : (text : Text) → begins_word text ≡ true → WordInFront text → FindsFront text
find_word text begins w =
    let t = word_token w.word in
    a_front t.token_is w.rest (a_word w.word w.text_is (some_word text w.word w.rest w.text_is w.ends begins) w.all w.ends t.spells)

sign_by : (text : Text) → 0 < length text → is_sign (slice_index text 0) ≡ true → IsOrNot (slice_index text 0) 0x2C
    → IsOrNot (slice_index text 0) 0x3D → IsOrNot (slice_index text 0) 0x3C → IsOrNot (slice_index text 1) 0x3E
    → IsOrNot (slice_index text 1) 0x3D → FindsFront text
sign_by text some h (inl a) b c d e = a_front comma _ (comma_at text some a)
sign_by text some h (inr a) (inl b) c d e = a_front (sign equal) _ (sign_of_one text equal 0x3D refl some b (equal_ends text))
sign_by text some h (inr a) (inr b) (inl c) (inl d) e =
    a_front (sign not_equal) _ (sign_of_two text not_equal 0x3C 0x3E refl (λ x. refl) (omega arith) c d)
sign_by text some h (inr a) (inr b) (inl c) (inr d) (inl e) =
    a_front (sign at_most) _ (sign_of_two text at_most 0x3C 0x3D refl (λ x. refl) (omega arith) c e)
sign_by text some h (inr a) (inr b) (inl c) (inr d) (inr e) = a_front (sign less) _ (sign_of_one text less 0x3C refl some c (less_ends text d e))
sign_by text some h (inr a) (inr b) (inr c) d (inl e) =
    let first = last_sign (slice_index text 0) h a b c in
    a_front (sign at_least) _ (sign_of_two text at_least 0x3E 0x3D refl (λ x. refl) (omega arith) first e)
sign_by text some h (inr a) (inr b) (inr c) d (inr e) =
    let first = last_sign (slice_index text 0) h a b c in
    a_front (sign greater) _ (sign_of_one text greater 0x3E refl some first (greater_ends text e))

find_sign : (text : Text) → 0 < length text → is_sign (slice_index text 0) ≡ true → FindsFront text
find_sign text some h = sign_by text some h (equal_or_not _ _) (equal_or_not _ _) (equal_or_not _ _) (equal_or_not _ _) (equal_or_not _ _)

front_by : (text : Text) → 0 < length text → IsOrNot (slice_index text 0) 0x27 → (s : Bool) → is_sign (slice_index text 0) ≡ s
    → (w : Bool) → is_identifier_byte (slice_index text 0) ≡ w → FindsFront text
front_by text some (inl e) s signed w word = find_literal text (drop 1 text) (first_and_rest text 0x27 some e) (find_closing (drop 1 text))
front_by text some (inr apart) true signed w word = find_sign text some signed
front_by text some (inr apart) false signed true word = find_word text (goes_on-first is_identifier_byte text some ∙ word) (word_in_front text)
front_by text some (inr apart) false signed false word = no_front_there (none_here text some apart signed word)

pub find_front : (text : Text) → 0 < length text → FindsFront text
find_front text some =
    let first = slice_index text 0 in
    front_by text some (equal_or_not first 0x27) (is_sign first) refl (is_identifier_byte first) refl
