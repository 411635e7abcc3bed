-- The token at the front of a text: by its first byte, and one at most.
use Rattle.std.proofs.Common.{◌≡◌, ◌≢◌, ℕ, zero, suc, ◌-◌, ◌<◌, ◌≤◌, Bool, true, false, [], ◌∷◌, ◌++◌, Option, Some, None, length, take, drop, refl, sym, ap, subst, ◌∙◌, arith, inl, inr}
use Rattle.std.specs.Prelude.{◌||◌, ◌==◌, ◌⊎◌, slice_index}
use Rattle.std.specs.List.{list_all}
use Rattle.std.proofs.lemmas.Bool.{both_ways, eqb-true}
use Rattle.std.proofs.lemmas.List.{append-nil, take_rest, take-append-drop, length-append}
use Rattle.grid_model.specs.Names.{Text}
use Rattle.grid_model.specs.QueryTokens.{Token, Sign, equal, not_equal, less, greater, at_most, at_least, literal, comma, sign, sign_text, makes_longer, is_identifier_byte, goes_on, quote_follows, Closes, closed, plain, twice, SpellsQueryWord, Front, a_word, a_literal, a_comma, a_sign}
use Rattle.query_parse.specs.Seen.{is_sign}
use Rattle.query_parse.proofs.WordLemmas.{one_split, word_begins, one_word}
use Rattle.query_parse.proofs.LiteralLemmas.{Reaches, never_closed, one_literal}

-- ---- by the first byte

abbrev pub begins_sign : Text → Bool
begins_sign text = goes_on is_sign text

abbrev pub begins_word : Text → Bool
begins_word text = goes_on is_identifier_byte text

quote_no_word : (b : ℕ) → (b == 0x27) ≡ true → is_identifier_byte b ≡ false
quote_no_word b h = subst (λ x. is_identifier_byte x ≡ false) (sym (eqb-true b 0x27 h)) refl

quote_no_sign : (b : ℕ) → (b == 0x27) ≡ true → is_sign b ≡ false
quote_no_sign b h = subst (λ x. is_sign x ≡ false) (sym (eqb-true b 0x27 h)) refl

sign_no_word : (b : ℕ) → is_sign b ≡ true → is_identifier_byte b ≡ false
sign_no_word b h = by (b == 0x2C) refl (b == 0x3D) refl (b == 0x3C) refl (b == 0x3E) refl h
  where
    at : (k : ℕ) → is_identifier_byte k ≡ false → (b == k) ≡ true → is_identifier_byte b ≡ false
    at k never e = subst (λ x. is_identifier_byte x ≡ false) (sym (eqb-true b k e)) never

    by : (p : Bool) → (b == 0x2C) ≡ p → (q : Bool) → (b == 0x3D) ≡ q → (r : Bool) → (b == 0x3C) ≡ r → (s : Bool) → (b == 0x3E) ≡ s → p || q || r || s ≡ true → is_identifier_byte b ≡ false
    by true e q f r g s h t = at 0x2C refl e
    by false e true f r g s h t = at 0x3D refl f
    by false e false f true g s h t = at 0x3C refl g
    by false e false f false g true h t = at 0x3E refl h
    by false e false f false g false h t = absurd (both_ways false refl t)

pub apart : (p q : ℕ → Bool) → ((b : ℕ) → p b ≡ true → q b ≡ false) → (text : Text) → goes_on p text ≡ true → goes_on q text ≡ true → ⊥
apart p q never [] a b = both_ways false refl a
apart p q never (c ∷ text) a b = both_ways (q c) (never c a) b

pub quote_or_word : (text : Text) → quote_follows text ≡ true → begins_word text ≡ true → ⊥
quote_or_word = apart (λ b. b == 0x27) is_identifier_byte quote_no_word

pub quote_or_sign : (text : Text) → quote_follows text ≡ true → begins_sign text ≡ true → ⊥
quote_or_sign = apart (λ b. b == 0x27) is_sign quote_no_sign

pub sign_or_word : (text : Text) → begins_sign text ≡ true → begins_word text ≡ true → ⊥
sign_or_word = apart is_sign is_identifier_byte sign_no_word

pub word_first : {text : Text} (word rest : Text) → text ≡ word ++ rest → 0 < length word → list_all is_identifier_byte word ≡ true → begins_word text ≡ true
word_first word rest e some all = ap begins_word e ∙ word_begins word rest some all

pub quote_first : {text behind : Text} → text ≡ 0x27 ∷ behind → quote_follows text ≡ true
quote_first e = ap quote_follows e

comma_first : {text behind : Text} → text ≡ 0x2C ∷ behind → begins_sign text ≡ true
comma_first e = ap begins_sign e

pub sign_first : {text : Text} (s : Sign) (rest : Text) → text ≡ sign_text s ++ rest → begins_sign text ≡ true
sign_first s rest e = ap begins_sign e ∙ by s
  where
    by : (s : Sign) → begins_sign (sign_text s ++ rest) ≡ true
    by equal = refl
    by not_equal = refl
    by less = refl
    by greater = refl
    by at_most = refl
    by at_least = refl

-- what stands at the front begins with one of three kinds of bytes
pub first_byte : {text rest : Text} {t : Token} → Front text t rest → (quote_follows text ≡ true) ⊎ ((begins_sign text ≡ true) ⊎ (begins_word text ≡ true))
first_byte (a_word {rest = rest} word e some all ends spells) = inr (inr (word_first word rest e some all))
first_byte (a_literal behind e closes) = inl (quote_first e)
first_byte (a_comma e) = inr (inl (comma_first e))
first_byte (a_sign {rest = rest} s e ends) = inr (inl (sign_first s rest e))

-- a literal that is not closed is no token
pub no_literal : (text inner behind : Text) → text ≡ 0x27 ∷ behind → Reaches behind inner [] → (t : Token) (rest : Text) → ¬ Front text t rest
no_literal text inner behind is reached t rest (a_word {rest = left} word e some all ends spells) = quote_or_word text (quote_first is) (word_first word left e some all)
no_literal text inner behind is reached t rest (a_literal {inner = whole} {rest = left} after e closes) =
    let same : after ≡ behind = let both = sym e ∙ is in cc in
    never_closed (reached.lowers whole left (subst (λ s. Closes s whole left) same closes)).1
no_literal text inner behind is reached t rest (a_comma e) = quote_or_sign text (quote_first is) (comma_first e)
no_literal text inner behind is reached t rest (a_sign {rest = left} s e ends) = quote_or_sign text (quote_first is) (sign_first s left e)

-- ---- one token at most

pub record SameFront (t u : Token) (rest left : Text) : Type 0 where
  pub token_is : t ≡ u
  pub rest_is : rest ≡ left

-- a sign in front, and what follows
sign_behind : Text → Sign × Text
sign_behind [] = (less, [])
sign_behind (b ∷ rest) = elim (b == 0x3D) [ true ↦ (at_most, rest) | false ↦ elim (b == 0x3E) [ true ↦ (not_equal, rest) | false ↦ (less, b ∷ rest) ] ]

greater_behind : Text → Sign × Text
greater_behind [] = (greater, [])
greater_behind (b ∷ rest) = elim (b == 0x3D) [ true ↦ (at_least, rest) | false ↦ (greater, b ∷ rest) ]

sign_in : Text → Option (Sign × Text)
sign_in [] = None
sign_in (b ∷ rest) =
    elim (b == 0x3D) [ true ↦ Some (equal, rest) | false ↦ elim (b == 0x3C) [ true ↦ Some (sign_behind rest) | false ↦ elim (b == 0x3E) [ true ↦ Some (greater_behind rest) | false ↦ None ] ] ]

less_alone : (rest : Text) → goes_on (makes_longer less) rest ≡ false → sign_behind rest ≡ (less, rest)
unfolding sign_behind
less_alone [] h = refl
less_alone (b ∷ rest) h = by (b == 0x3D) (b == 0x3E) h
  where
    by : (p q : Bool) → p || q ≡ false → elim p as (λ _. Sign × Text) [ true ↦ (at_most, rest) | false ↦ elim q as (λ _. Sign × Text) [ true ↦ (not_equal, rest) | false ↦ (less, b ∷ rest) ] ] ≡ (less, b ∷ rest)
    by true q h = absurd (both_ways true h refl)
    by false true h = absurd (both_ways true h refl)
    by false false h = refl

greater_alone : (rest : Text) → goes_on (makes_longer greater) rest ≡ false → greater_behind rest ≡ (greater, rest)
unfolding greater_behind
greater_alone [] h = refl
greater_alone (b ∷ rest) h = by (b == 0x3D) h
  where
    by : (p : Bool) → p ≡ false → elim p as (λ _. Sign × Text) [ true ↦ (at_least, rest) | false ↦ (greater, b ∷ rest) ] ≡ (greater, b ∷ rest)
    by true h = absurd (both_ways true h refl)
    by false h = refl

sign_found : {text : Text} (s : Sign) (rest : Text) → text ≡ sign_text s ++ rest → goes_on (makes_longer s) rest ≡ false → sign_in text ≡ Some (s, rest)
unfolding sign_in sign_behind greater_behind
sign_found s rest e ends = ap sign_in e ∙ by s ends
  where
    by : (s : Sign) → goes_on (makes_longer s) rest ≡ false → sign_in (sign_text s ++ rest) ≡ Some (s, rest)
    by equal ends = refl
    by not_equal ends = refl
    by less ends = ap Some (less_alone rest ends)
    by greater ends = ap Some (greater_alone rest ends)
    by at_most ends = refl
    by at_least ends = refl

-- a comma is none of them
comma_found : {text rest : Text} → text ≡ 0x2C ∷ rest → sign_in text ≡ None
unfolding sign_in
comma_found e = ap sign_in e

no_sign : {text left : Text} (s : Sign) (rest : Text) → text ≡ sign_text s ++ rest → goes_on (makes_longer s) rest ≡ false → text ≡ 0x2C ∷ left → ⊥
no_sign s rest e ends is = let one = sign_found s rest e ends in let none = comma_found is in cc

pub one_front : {text rest left : Text} {t u : Token} → Front text t rest → Front text u left → SameFront t u rest left
one_front {u = u} (a_word {rest = rest} word e some all ends spells) (a_word {rest = left} other f more every stops says) =
    let same = one_split is_identifier_byte word other rest left (sym e ∙ f) all every ends stops in
    record { token_is = one_word spells (subst (λ w. SpellsQueryWord w u) (sym same.front_is) says); rest_is = same.rest_is }
one_front {text = text} (a_word {rest = rest} word e some all ends spells) (a_literal behind f closes) = absurd (quote_or_word text (quote_first f) (word_first word rest e some all))
one_front {text = text} (a_word {rest = rest} word e some all ends spells) (a_comma f) = absurd (sign_or_word text (comma_first f) (word_first word rest e some all))
one_front {text = text} (a_word {rest = rest} word e some all ends spells) (a_sign {rest = left} s f stops) = absurd (sign_or_word text (sign_first s left f) (word_first word rest e some all))
one_front {text = text} (a_literal behind e closes) (a_word {rest = left} word f some all ends spells) = absurd (quote_or_word text (quote_first e) (word_first word left f some all))
one_front (a_literal behind e closes) (a_literal {inner = other} {rest = left} after f closes_too) =
    let same : after ≡ behind = let both = sym f ∙ e in cc in
    let one = one_literal closes (subst (λ s. Closes s other left) same closes_too) in
    record { token_is = ap literal one.inner_is; rest_is = one.rest_is }
one_front {text = text} (a_literal behind e closes) (a_comma f) = absurd (quote_or_sign text (quote_first e) (comma_first f))
one_front {text = text} (a_literal behind e closes) (a_sign {rest = left} s f ends) = absurd (quote_or_sign text (quote_first e) (sign_first s left f))
one_front {text = text} (a_comma e) (a_word {rest = left} word f some all ends spells) = absurd (sign_or_word text (comma_first e) (word_first word left f some all))
one_front {text = text} (a_comma e) (a_literal behind f closes) = absurd (quote_or_sign text (quote_first f) (comma_first e))
one_front (a_comma e) (a_comma f) = record { token_is = refl; rest_is = (let both = sym e ∙ f in cc) }
one_front (a_comma e) (a_sign {rest = left} s f ends) = absurd (no_sign s left f ends e)
one_front {text = text} (a_sign {rest = rest} s e ends) (a_word {rest = left} word f some all stops spells) = absurd (sign_or_word text (sign_first s rest e) (word_first word left f some all))
one_front {text = text} (a_sign {rest = rest} s e ends) (a_literal behind f closes) = absurd (quote_or_sign text (quote_first f) (sign_first s rest e))
one_front (a_sign {rest = rest} s e ends) (a_comma f) = absurd (no_sign s rest e ends f)
one_front {rest = rest} {left = left} (a_sign s e ends) (a_sign other f stops) =
    let found = sign_found s rest e ends in
    let also = sign_found other left f stops in
    let same : (s, rest) ≡ (other, left) = cc in
    record { token_is = ap (λ (x : Sign × Text). sign x.0) same; rest_is = ap (λ (x : Sign × Text). x.1) same }

-- ---- what the code finds in front

pub first_and_rest : (text : Text) (b : ℕ) → 0 < length text → slice_index text 0 ≡ b → text ≡ b ∷ drop 1 text
first_and_rest [] b some e = absurd (omega arith)
first_and_rest (a ∷ text) b some e = ap (λ x. x ∷ text) e

pub literal_closed : (text inner rest behind : Text) → 0 < length text → slice_index text 0 ≡ 0x27 → Reaches (drop 1 text) inner rest → rest ≡ 0x27 ∷ behind → quote_follows behind ≡ false → Front text (literal inner) behind
literal_closed text inner rest behind some first reached is ends =
    a_literal (drop 1 text) (first_and_rest text 0x27 some first) (subst (λ t. Closes (drop 1 text) t behind) (append-nil inner) (reached.lifts [] behind (closed is ends)))

-- the code's form of what follows so many bytes
behind_is : (text : Text) (n : ℕ) (t : Token) → Front text t (drop n text) → Front text t (take (length text - n) (drop n text))
behind_is text n t front = subst (λ r. Front text t r) (sym (take_rest text n)) front

pub comma_at : (text : Text) → 0 < length text → slice_index text 0 ≡ 0x2C → Front text comma (take (length text - 1) (drop 1 text))
comma_at text some first = behind_is text 1 comma (a_comma (first_and_rest text 0x2C some first))

pub sign_of_one : (text : Text) (s : Sign) (b : ℕ) → sign_text s ≡ b ∷ [] → 0 < length text → slice_index text 0 ≡ b → goes_on (makes_longer s) (drop 1 text) ≡ false → Front text (sign s) (take (length text - 1) (drop 1 text))
sign_of_one text s b is some first ends = behind_is text 1 (sign s) (a_sign s (first_and_rest text b some first ∙ ap (λ x. x ++ drop 1 text) (sym is)) ends)

two_and_rest : (text : Text) (a b : ℕ) → 0 < b → slice_index text 0 ≡ a → slice_index text 1 ≡ b → text ≡ a ∷ b ∷ drop 2 text
two_and_rest [] a b some first second = absurd (omega (arith, let e : 0 ≡ b = second in e))
two_and_rest (x ∷ []) a b some first second = absurd (omega (arith, let e : 0 ≡ b = second in e))
two_and_rest (x ∷ y ∷ text) a b some first second = ap (λ z. z ∷ y ∷ text) first ∙ ap (λ z. a ∷ z ∷ text) second

never_longer : (s : Sign) (rest : Text) → ((b : ℕ) → makes_longer s b ≡ false) → goes_on (makes_longer s) rest ≡ false
never_longer s [] never = refl
never_longer s (b ∷ rest) never = never b

pub sign_of_two : (text : Text) (s : Sign) (a b : ℕ) → sign_text s ≡ a ∷ b ∷ [] → ((c : ℕ) → makes_longer s c ≡ false) → 0 < b → slice_index text 0 ≡ a → slice_index text 1 ≡ b → Front text (sign s) (take (length text - 2) (drop 2 text))
sign_of_two text s a b is never some first second = behind_is text 2 (sign s) (a_sign s (two_and_rest text a b some first second ∙ ap (λ x. x ++ drop 2 text) (sym is)) (never_longer s (drop 2 text) never))

differs : (b k : ℕ) → b ≢ k → (b == k) ≡ false
differs b k apart = by (b == k) refl
  where
    by : (t : Bool) → (b == k) ≡ t → (b == k) ≡ false
    by true e = absurd (apart (eqb-true b k e))
    by false e = e

pub less_ends : (text : Text) → slice_index text 1 ≢ 0x3E → slice_index text 1 ≢ 0x3D → goes_on (makes_longer less) (drop 1 text) ≡ false
less_ends [] a b = refl
less_ends (x ∷ []) a b = refl
less_ends (x ∷ y ∷ text) a b = ap (λ t. t || y == 0x3E) (differs y 0x3D b) ∙ differs y 0x3E a

pub greater_ends : (text : Text) → slice_index text 1 ≢ 0x3D → goes_on (makes_longer greater) (drop 1 text) ≡ false
greater_ends [] b = refl
greater_ends (x ∷ []) b = refl
greater_ends (x ∷ y ∷ text) b = differs y 0x3D b

pub last_sign : (b : ℕ) → is_sign b ≡ true → b ≢ 0x2C → b ≢ 0x3D → b ≢ 0x3C → b ≡ 0x3E
last_sign b h no_comma no_equal no_less = eqb-true b 0x3E (sym (ap (λ t. t || b == 0x3D || b == 0x3C || b == 0x3E) (differs b 0x2C no_comma) ∙ ap (λ t. t || b == 0x3C || b == 0x3E) (differs b 0x3D no_equal) ∙ ap (λ t. t || b == 0x3E) (differs b 0x3C no_less)) ∙ h)

pub word_at : (text : Text) (n : ℕ) (t : Token) → n ≤ length text → goes_on is_identifier_byte text ≡ true → list_all is_identifier_byte (take n text) ≡ true → goes_on is_identifier_byte (drop n text) ≡ false → SpellsQueryWord (take n text) t
    → Front text t (take (length text - n) (drop n text))
word_at text n t within first all ends spells = behind_is text n t (a_word (take n text) (sym (take-append-drop n text)) (some n ends) all ends spells)
  where
    some : (k : ℕ) → goes_on is_identifier_byte (drop k text) ≡ false → 0 < length (take k text)
    some k h = by text k first h
      where
        by : (s : Text) (k : ℕ) → goes_on is_identifier_byte s ≡ true → goes_on is_identifier_byte (drop k s) ≡ false → 0 < length (take k s)
        by [] k f h = absurd (both_ways false refl f)
        by (b ∷ s) zero f h = absurd (both_ways (is_identifier_byte b) h f)
        by (b ∷ s) (suc k) f h = omega arith

-- ---- where no token begins

pub no_front : (text : Text) → quote_follows text ≡ false → begins_sign text ≡ false → begins_word text ≡ false → (t : Token) (rest : Text) → ¬ Front text t rest
no_front text quote signed word t rest front = by (first_byte front)
  where
    by : (quote_follows text ≡ true) ⊎ ((begins_sign text ≡ true) ⊎ (begins_word text ≡ true)) → ⊥
    by (inl h) = both_ways (quote_follows text) quote h
    by (inr (inl h)) = both_ways (begins_sign text) signed h
    by (inr (inr h)) = both_ways (begins_word text) word h

-- a test of the first byte
pub goes_on-first : (test : ℕ → Bool) (text : Text) → 0 < length text → goes_on test text ≡ test (slice_index text 0)
goes_on-first test [] some = absurd (omega arith)
goes_on-first test (b ∷ text) some = refl

pub none_here : (text : Text) → 0 < length text → slice_index text 0 ≢ 0x27 → is_sign (slice_index text 0) ≡ false → is_identifier_byte (slice_index text 0) ≡ false → (t : Token) (rest : Text) → ¬ Front text t rest
none_here text some quote signed word =
    no_front text (goes_on-first (λ b. b == 0x27) text some ∙ differs (slice_index text 0) 0x27 quote) (goes_on-first is_sign text some ∙ signed) (goes_on-first is_identifier_byte text some ∙ word)

-- ---- a token takes some bytes

closes_shorter : {text inner rest : Text} → Closes text inner rest → length rest < length text
closes_shorter (closed e open_still) = omega (arith, ap length e)
closes_shorter (plain b e differs h) = omega (arith, ap length e, closes_shorter h)
closes_shorter (twice e h) = omega (arith, ap length e, closes_shorter h)

some_sign : (s : Sign) → 0 < length (sign_text s)
some_sign equal = omega arith
some_sign not_equal = omega arith
some_sign less = omega arith
some_sign greater = omega arith
some_sign at_most = omega arith
some_sign at_least = omega arith

pub front_shorter : {text rest : Text} {t : Token} → Front text t rest → length rest < length text
front_shorter (a_word {rest = rest} word e some all ends spells) = omega (arith, ap length e, length-append word rest)
front_shorter (a_literal behind e closes) = omega (arith, ap length e, closes_shorter closes)
front_shorter (a_comma e) = omega (arith, ap length e)
front_shorter (a_sign {rest = rest} s e ends) = omega (arith, ap length e, length-append (sign_text s) rest, some_sign s)

pub equal_ends : (text : Text) → goes_on (makes_longer equal) (drop 1 text) ≡ false
equal_ends text = never_longer equal (drop 1 text) (λ b. refl)
