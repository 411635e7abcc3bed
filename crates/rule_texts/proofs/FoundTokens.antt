-- The token at the front of each rest of a text, found by its bytes, or where none stands there.
use Rattle.std.proofs.Common.{◌≡◌, ◌≢◌, ◌⊎◌, inl, inr, ℕ, zero, suc, ◌+◌, ◌-◌, ◌^◌, ◌<◌, ◌≤◌, Bool, true, false, [], ◌∷◌, ◌++◌, length, take, drop, refl, sym, ap, ◌∙◌, arith}
use Rattle.std.specs.Prelude.{◌&&◌, ◌==◌, slice_index, slice_range, codes, pos, nat_le, not}
use Rattle.std.specs.List.{list_all}
use Rattle.std.specs.Str.{bytes_eq}
use Rattle.std.proofs.lemmas.Bool.{both_ways, eqb-true, leb-true, leb-false}
use Rattle.std.proofs.lemmas.Bool.Decides.{Decides-eqb}
use Rattle.std.proofs.lemmas.List.{take_rest}
use Rattle.std.proofs.lemmas.Slice.Eq.{bytes_eq-Decides}
use Rattle.rule_lex.specs.Bytes.{SourceText, is_digit, is_letter, is_other, is_quote, is_rule_name_byte, needs_backslash, stands_for_itself, starts_with_letter}
use Rattle.rule_lex.specs.Fronts.{AreDigits, IsFirstName, IsLongestToken, IsNoFront}
use Rattle.rule_lex.specs.Symbols.{symbol_text}
use Rattle.rule_lex.specs.Tokens.{RuleToken, SpellsQuoted, nothing, is_identifier, minus, named, number, number_from, param, session, symbol, text}
use Rattle.rule_lex.specs.declared.token.Symbol.{Symbol}
use Rattle.rule_lex.specs.declared.token.Symbol.TheVariants.{On, Like, True, False, OpenParenthesis, CloseParenthesis, OpenBrace, CloseBrace, Comma, Semicolon, Recovery}
use Rattle.rule_lex.specs.declared.token.Symbol.TheVariants.{Join, Equal, NotEqual, AtMost, AtLeast, Less, Greater, And, Or, Not}
use Rattle.rule_lex.proofs.NumberLemmas.{digit_value, digits_more, minus_at, no_minus, positive_at, value_more, zero_at}
use Rattle.rule_lex.proofs.QuoteLemmas.{closed_at, more_at, piece_escaped, piece_plain, stuck_at, stuck_byte, stuck_escape}
use Rattle.rule_lex.proofs.SignLemmas.{begun_one, begun_two, no_bytes, no_sign_first, one_byte, same_false, three_bytes, two_bytes}
use Rattle.rule_lex.proofs.WordLemmas.{Run, first_name, first_shortened, front_name, front_symbol, no_param, no_session, param_at, run_is_word, run_of, run_starts, session_at}

-- this token stands in front, or none
pub data FindsToken (rest : SourceText) : Type 0 where
  a_token : (n : ℕ) (t : RuleToken) → (n ≤ length rest) × IsLongestToken (take n rest) (drop n rest) t → FindsToken rest
  no_token : (n : ℕ) → IsNoFront rest n → FindsToken rest

abbrev IsOrNot : ℕ → ℕ → Type 0
IsOrNot a b = (a ≡ b) ⊎ (a ≢ b)

equal_or_not : (a b : ℕ) → IsOrNot a b
equal_or_not a b = by (a == b) refl
  where
    by : (t : Bool) → (a == b) ≡ t → IsOrNot a b
    by true h = inl (eqb-true a b h)
    by false h = inr (λ e. both_ways (a == b) h ((Decides-eqb a b).1 e))

same_or_not : (s t : SourceText) → (s ≡ t) ⊎ (s ≢ t)
same_or_not s t = by (bytes_eq s t) refl
  where
    by : (b : Bool) → bytes_eq s t ≡ b → (s ≡ t) ⊎ (s ≢ t)
    by true h = inl ((bytes_eq-Decides s t).0 h)
    by false h = inr (λ e. both_ways (bytes_eq s t) h ((bytes_eq-Decides s t).1 e))

-- ---- words

-- the letters and digits at the front, at most so many
record RunFound (bytes : SourceText) (most : ℕ) : Type 0 where
  len : ℕ
  within : len ≤ length bytes
  short : len ≤ most
  words : list_all is_rule_name_byte (take len bytes) ≡ true
  ends : len < most → len < length bytes → is_rule_name_byte (slice_index bytes len) ≡ false

find_run : (bytes : SourceText) (most : ℕ) → RunFound bytes most
find_run [] most = record { len = 0; within = omega arith; short = omega arith; words = refl; ends = λ low has. absurd (omega (arith, has)) }
find_run (b ∷ bytes) zero = record { len = 0; within = omega arith; short = omega arith; words = refl; ends = λ low has. absurd (omega (arith, low)) }
find_run (b ∷ bytes) (suc most) = by (is_rule_name_byte b) refl (find_run bytes most)
  where
    by : (t : Bool) → is_rule_name_byte b ≡ t → RunFound bytes most → RunFound (b ∷ bytes) (suc most)
    by true h r = record {
      len = suc r.len;
      within = omega (arith, r.within);
      short = omega (arith, r.short);
      words = ap (λ t. t && list_all is_rule_name_byte (take r.len bytes)) h ∙ r.words;
      ends = λ low has. r.ends (omega (arith, low)) (omega (arith, has));
    }
    by false h r = record { len = 0; within = omega arith; short = omega arith; words = refl; ends = λ low has. h }

-- the word of the language that a word is, or none
data OurWord (s : SourceText) : Type 0 where
  is_ours : (x : Symbol) → s ≡ symbol_text x → OurWord s
  not_ours : ((x : Symbol) → s ≢ symbol_text x) → OurWord s

apart : true ≡ false → ⊥
apart e = cc

never_ours : (s : SourceText) → is_identifier s ≡ true → s ≢ symbol_text On → s ≢ symbol_text Like → s ≢ symbol_text True → s ≢ symbol_text False → (x : Symbol) → s ≢ symbol_text x
never_ours s word a b c d On = a
never_ours s word a b c d Like = b
never_ours s word a b c d True = c
never_ours s word a b c d False = d
never_ours s word a b c d _ = λ e. apart (sym word ∙ ap is_identifier e)

our_word_by : (s : SourceText) → is_identifier s ≡ true → (s ≡ symbol_text On) ⊎ (s ≢ symbol_text On) → (s ≡ symbol_text Like) ⊎ (s ≢ symbol_text Like)
    → (s ≡ symbol_text True) ⊎ (s ≢ symbol_text True) → (s ≡ symbol_text False) ⊎ (s ≢ symbol_text False) → OurWord s
our_word_by s word (inl h) b c d = is_ours On h
our_word_by s word (inr a) (inl h) c d = is_ours Like h
our_word_by s word (inr a) (inr b) (inl h) d = is_ours True h
our_word_by s word (inr a) (inr b) (inr c) (inl h) = is_ours False h
our_word_by s word (inr a) (inr b) (inr c) (inr d) = not_ours (never_ours s word a b c d)

our_word : (s : SourceText) → is_identifier s ≡ true → OurWord s
our_word s word = our_word_by s word (same_or_not s _) (same_or_not s _) (same_or_not s _) (same_or_not s _)

run_found : (bytes : SourceText) (r : RunFound bytes 255) → Run (take r.len bytes) (drop r.len bytes)
run_found bytes r = run_of bytes r.len r.within r.short r.words r.ends

find_word : (rest : SourceText) → starts_with_letter rest ≡ true → FindsToken rest
find_word rest letter =
    let r = find_run rest 255 in
    let run = run_found rest r in
    let begins = run_starts rest r.len run letter in
    by r run begins (our_word (take r.len rest) (run_is_word (take r.len rest) begins run.words))
  where
    by : (r : RunFound rest 255) → Run (take r.len rest) (drop r.len rest) → starts_with_letter (take r.len rest) ≡ true → OurWord (take r.len rest) → FindsToken rest
    by r run begins (is_ours x e) = a_token r.len (symbol x) (r.within, front_symbol (take r.len rest) (drop r.len rest) x run begins e)
    by r run begins (not_ours never) = a_token r.len (named (take r.len rest)) (r.within, front_name (take r.len rest) (drop r.len rest) run begins never)

-- ---- parameters and session variables

-- the name at the front of what begins with a letter
record NameFound (bytes : SourceText) : Type 0 where
  len : ℕ
  is_name : (len ≤ length bytes) × IsFirstName (take len bytes) (drop len bytes)

find_name : (bytes : SourceText) → starts_with_letter bytes ≡ true → NameFound bytes
find_name bytes letter =
    let r = find_run bytes 255 in
    let run = run_found bytes r in
    let begins = run_starts bytes r.len run letter in
    by r run begins (our_word (take r.len bytes) (run_is_word (take r.len bytes) begins run.words))
  where
    by : (r : RunFound bytes 255) → Run (take r.len bytes) (drop r.len bytes) → starts_with_letter (take r.len bytes) ≡ true → OurWord (take r.len bytes) → NameFound bytes
    by r run begins (is_ours x e) = record { len = r.len - 1; is_name = first_shortened bytes r.len x r.within run begins e }
    by r run begins (not_ours never) = record { len = r.len; is_name = (r.within, first_name (take r.len bytes) (drop r.len bytes) run begins never) }

-- what is behind the first byte
abbrev behind_first : SourceText → SourceText
behind_first rest = take (length rest - 1) (drop 1 rest)

find_param : (rest : SourceText) → 0 < length rest → slice_index rest 0 ≡ 0x2A → FindsToken rest
find_param rest some is = by (starts_with_letter (behind_first rest)) refl
  where
    by : (t : Bool) → starts_with_letter (behind_first rest) ≡ t → FindsToken rest
    by true h = let n = find_name (behind_first rest) h in a_token (n.len + 1) (param (take n.len (behind_first rest))) (param_at rest n.len some is n.is_name)
    by false h = no_token 1 (no_param rest some is (ap starts_with_letter (sym (take_rest rest 1)) ∙ h))

find_session : (rest : SourceText) → 0 < length rest → slice_index rest 0 ≡ 0x24 → FindsToken rest
find_session rest some is = by (starts_with_letter (behind_first rest)) refl
  where
    by : (t : Bool) → starts_with_letter (behind_first rest) ≡ t → FindsToken rest
    by true h = let n = find_name (behind_first rest) h in a_token (n.len + 1) (session (take n.len (behind_first rest))) (session_at rest n.len some is n.is_name)
    by false h = no_token 1 (no_session rest some is (ap starts_with_letter (sym (take_rest rest 1)) ∙ h))

-- ---- numbers

-- so many digits stand at the front, which make a number of at most this value
record SoFar (bytes : SourceText) (most n : ℕ) : Type 0 where
  some : 0 < n
  within : n ≤ length bytes
  digits : list_all is_digit (take n bytes) ≡ true
  low : number_from 0 (take n bytes) ≤ most

-- the longest such number
record DigitsFound (bytes : SourceText) (most : ℕ) : Type 0 where
  len : ℕ
  are : AreDigits bytes most len (number_from 0 (take len bytes))

stops_here : (bytes : SourceText) (most n : ℕ) → SoFar bytes most n
    → (n < length bytes → is_digit (slice_index bytes n) ≡ true → most < number_from 0 (take (n + 1) bytes)) → DigitsFound bytes most
stops_here bytes most n s ends = record {
  len = n;
  are = record { within = s.within; some = s.some; digits = s.digits; value_is = refl; at_most = s.low; ends = ends };
}

find_digits : (bytes : SourceText) (most k n : ℕ) → k + n ≡ length bytes → SoFar bytes most n → DigitsFound bytes most
find_digits bytes most zero n e s = stops_here bytes most n s (λ has digit. absurd (omega (arith, has, e)))
find_digits bytes most (suc k) n e s =
    by (is_digit (slice_index bytes n)) refl (nat_le (number_from 0 (take (n + 1) bytes)) most) refl (λ more. find_digits bytes most k (n + 1) (omega (arith, e)) more)
  where
    by : (d : Bool) → is_digit (slice_index bytes n) ≡ d → (t : Bool) → nat_le (number_from 0 (take (n + 1) bytes)) most ≡ t
        → (SoFar bytes most (n + 1) → DigitsFound bytes most) → DigitsFound bytes most
    by false other t h again = stops_here bytes most n s (λ has digit. absurd (both_ways (is_digit (slice_index bytes n)) other digit))
    by true more true h again = again (record {
      some = omega arith;
      within = omega (arith, e);
      digits = digits_more bytes n (omega (arith, e)) s.digits more;
      low = leb-true (number_from 0 (take (n + 1) bytes)) most h;
    })
    by true more false h again = stops_here bytes most n s (λ has digit. leb-false (number_from 0 (take (n + 1) bytes)) most h)

first_digits : (bytes : SourceText) (most : ℕ) → 0 < length bytes → is_digit (slice_index bytes 0) ≡ true → 9 ≤ most → DigitsFound bytes most
first_digits bytes most some digit room =
    find_digits bytes most (length bytes - 1) 1 (omega (arith, some)) (record {
      some = omega arith;
      within = omega (arith, some);
      digits = digits_more bytes 0 some refl digit;
      low = omega (arith, value_more bytes 0 some, digit_value (slice_index bytes 0) digit, room);
    })

find_positive : (rest : SourceText) → 0 < length rest → is_digit (slice_index rest 0) ≡ true → IsOrNot (slice_index rest 0) 0x30 → FindsToken rest
find_positive rest some digit (inl is) = a_token 1 (number (pos 0)) (zero_at rest some is)
find_positive rest some digit (inr apart) =
    let d = first_digits rest (2 ^ 63 - 1) some digit (omega arith) in
    a_token d.len (number (pos (number_from 0 (take d.len rest)))) (positive_at rest d.len (number_from 0 (take d.len rest)) d.are apart)

find_negative : (rest : SourceText) → 0 < length rest → slice_index rest 0 ≡ 0x2D → FindsToken rest
find_negative rest some is = by (is_digit (slice_index (behind_first rest) 0)) refl (equal_or_not (slice_index (behind_first rest) 0) 0x30)
  where
    by : (t : Bool) → is_digit (slice_index (behind_first rest) 0) ≡ t → IsOrNot (slice_index (behind_first rest) 0) 0x30 → FindsToken rest
    by false other z = no_token 1 (no_minus rest some is (λ digit. absurd (both_ways (is_digit (slice_index (behind_first rest) 0)) other digit)))
    by true first (inl e) = no_token 1 (no_minus rest some is (λ digit. e))
    by true first (inr not_zero) =
        let d = first_digits (behind_first rest) (2 ^ 63) (has_some (behind_first rest) first) first (omega arith) in
        a_token (d.len + 1) (number (minus (number_from 0 (take d.len (behind_first rest)))))
        (minus_at rest d.len (number_from 0 (take d.len (behind_first rest))) some is d.are first not_zero)
      where
        has_some : (s : SourceText) → is_digit (slice_index s 0) ≡ true → 0 < length s
        has_some [] h = absurd (both_ways (is_digit 0) refl h)
        has_some (b ∷ s) h = omega arith

-- ---- texts in quotes

some_quote : (q : ℕ) (s : SourceText) → is_quote q ≡ true → slice_index s 0 ≡ q → 0 < length s
some_quote q [] quotes e = absurd (both_ways (is_quote 0) refl (ap is_quote e ∙ quotes))
some_quote q (b ∷ s) quotes e = omega arith

module _ (rest : SourceText) (quote : ℕ) (quote_is : quote ≡ slice_index rest 0) (quotes : is_quote quote ≡ true) where
  abbrev from : ℕ → SourceText
  from at = take (length rest - at) (drop at rest)

  find_closing : (k at : ℕ) (value : SourceText) → length rest < k + at → 0 < at → at ≤ length rest → SpellsQuoted (slice_range rest 1 at) value → FindsToken rest
  find_closing zero at value low behind within spells = absurd (omega (arith, low, within))
  find_closing (suc k) at value low behind within spells =
      by (equal_or_not (slice_index (from at) 0) quote) (equal_or_not (slice_index (from at) 0) 0x5C)
      (needs_backslash (slice_index (from at) 1)) refl (stands_for_itself (slice_index (from at) 0)) refl
      (λ b n some more. find_closing k (at + n) (value ++ b ∷ []) (omega (arith, low, some)) (omega (arith, behind)) more.0 more.1)
    where
      by : IsOrNot (slice_index (from at) 0) quote → IsOrNot (slice_index (from at) 0) 0x5C → (e : Bool) → needs_backslash (slice_index (from at) 1) ≡ e
          → (p : Bool) → stands_for_itself (slice_index (from at) 0) ≡ p
          → ((b n : ℕ) → 0 < n → (at + n ≤ length rest) × SpellsQuoted (slice_range rest 1 (at + n)) (value ++ b ∷ []) → FindsToken rest) → FindsToken rest
      by (inl is) slash e escaped p plain again =
          a_token (at + 1) (text value) (closed_at rest at quote value quote_is quotes behind within spells (some_quote quote (from at) quotes is, is))
      by (inr other) (inl slash) true escaped p plain again =
          let piece = piece_escaped (from at) (slice_index (from at) 1) slash refl escaped in
          again (slice_index (from at) 1) 2 (omega arith) (more_at rest at quote value quote_is quotes behind within spells (slice_index (from at) 1) 2 piece)
      by (inr other) (inl slash) false escaped p plain again =
          no_token (at + 1) (stuck_at rest at quote value quote_is quotes behind within spells 1 (stuck_escape quote (from at) quotes slash escaped))
      by (inr other) (inr no_slash) e escaped true plain again =
          let piece = piece_plain (from at) (slice_index (from at) 0) refl plain in
          again (slice_index (from at) 0) 1 (omega arith) (more_at rest at quote value quote_is quotes behind within spells (slice_index (from at) 0) 1 piece)
      by (inr other) (inr no_slash) e escaped false plain again =
          no_token (at + 0) (stuck_at rest at quote value quote_is quotes behind within spells 0 (stuck_byte quote (from at) other no_slash plain))

find_text : (rest : SourceText) → 0 < length rest → is_quote (slice_index rest 0) ≡ true → FindsToken rest
find_text rest some quotes =
    find_closing rest (slice_index rest 0) refl quotes (length rest) 1 [] (omega arith) (omega arith) some nothing

-- ---- signs

abbrev first_of : SourceText → ℕ
first_of rest = slice_index rest 0

find_colons : (rest : SourceText) → 0 < length rest → slice_index rest 0 ≡ 0x3A → IsOrNot (slice_index rest 1) 0x3A → IsOrNot (slice_index rest 2) 0x3A → FindsToken rest
find_colons rest some is (inr b) c = no_token 1 (begun_one rest 0x3A Recovery (codes "::") some is refl refl refl (same_false (slice_index rest 1) 0x3A b))
find_colons rest some is (inl b) (inr c) =
    no_token 2 (begun_two rest 0x3A 0x3A Recovery (codes ":") is b (omega arith) refl refl refl refl (same_false (slice_index rest 2) 0x3A c))
find_colons rest some is (inl b) (inl c) = a_token 3 (symbol Recovery) (three_bytes rest 0x3A 0x3A 0x3A Recovery is b c (omega arith) (omega arith) refl refl)

-- a sign of two bytes, of which the first one is none
find_pair : (rest : SourceText) (c d : ℕ) (x : Symbol) (more : SourceText) → 0 < length rest → slice_index rest 0 ≡ c → 0 < d → is_other c ≡ true → symbol_text x ≡ c ∷ d ∷ []
    → (c == 0x3A) ≡ false → ((slice_index rest 1 ≢ d) → IsNoFront rest 1) → IsOrNot (slice_index rest 1) d → FindsToken rest
find_pair rest c d x more some is low other spelled no_colon stuck (inl e) = a_token 2 (symbol x) (two_bytes rest c d x is e low other spelled no_colon)
find_pair rest c d x more some is low other spelled no_colon stuck (inr apart) = no_token 1 (stuck apart)

-- a sign of two bytes, of which the first one is a sign too
find_either : (rest : SourceText) (c d : ℕ) (x y : Symbol) → 0 < length rest → slice_index rest 0 ≡ c → 0 < d → is_other c ≡ true → symbol_text x ≡ c ∷ d ∷ []
    → (c == 0x3A) ≡ false → ((slice_index rest 1 ≢ d) → (1 ≤ length rest) × IsLongestToken (take 1 rest) (drop 1 rest) (symbol y)) → IsOrNot (slice_index rest 1) d → FindsToken rest
find_either rest c d x y some is low other spelled no_colon one (inl e) = a_token 2 (symbol x) (two_bytes rest c d x is e low other spelled no_colon)
find_either rest c d x y some is low other spelled no_colon one (inr apart) = a_token 1 (symbol y) (one apart)

sign_by : (rest : SourceText) → 0 < length rest → is_other (slice_index rest 0) ≡ true
    → IsOrNot (slice_index rest 0) 0x28 → IsOrNot (slice_index rest 0) 0x29 → IsOrNot (slice_index rest 0) 0x7B → IsOrNot (slice_index rest 0) 0x7D → IsOrNot (slice_index rest 0) 0x2C
    → IsOrNot (slice_index rest 0) 0x3B → IsOrNot (slice_index rest 0) 0x3A → IsOrNot (slice_index rest 0) 0x2B → IsOrNot (slice_index rest 0) 0x3D → IsOrNot (slice_index rest 0) 0x26
    → IsOrNot (slice_index rest 0) 0x7C → IsOrNot (slice_index rest 0) 0x21 → IsOrNot (slice_index rest 0) 0x3C → IsOrNot (slice_index rest 0) 0x3E → FindsToken rest
sign_by rest some other (inl is) a1 a2 a3 a4 a5 a6 a7 a8 a9 a10 a11 a12 a13 = a_token 1 (symbol OpenParenthesis) (one_byte rest 0x28 OpenParenthesis some is refl refl refl)
sign_by rest some other (inr a0) (inl is) a2 a3 a4 a5 a6 a7 a8 a9 a10 a11 a12 a13 = a_token 1 (symbol CloseParenthesis) (one_byte rest 0x29 CloseParenthesis some is refl refl refl)
sign_by rest some other (inr a0) (inr a1) (inl is) a3 a4 a5 a6 a7 a8 a9 a10 a11 a12 a13 = a_token 1 (symbol OpenBrace) (one_byte rest 0x7B OpenBrace some is refl refl refl)
sign_by rest some other (inr a0) (inr a1) (inr a2) (inl is) a4 a5 a6 a7 a8 a9 a10 a11 a12 a13 = a_token 1 (symbol CloseBrace) (one_byte rest 0x7D CloseBrace some is refl refl refl)
sign_by rest some other (inr a0) (inr a1) (inr a2) (inr a3) (inl is) a5 a6 a7 a8 a9 a10 a11 a12 a13 = a_token 1 (symbol Comma) (one_byte rest 0x2C Comma some is refl refl refl)
sign_by rest some other (inr a0) (inr a1) (inr a2) (inr a3) (inr a4) (inl is) a6 a7 a8 a9 a10 a11 a12 a13 = a_token 1 (symbol Semicolon) (one_byte rest 0x3B Semicolon some is refl refl refl)
sign_by rest some other (inr a0) (inr a1) (inr a2) (inr a3) (inr a4) (inr a5) (inl is) a7 a8 a9 a10 a11 a12 a13 = find_colons rest some is (equal_or_not _ _) (equal_or_not _ _)
sign_by rest some other (inr a0) (inr a1) (inr a2) (inr a3) (inr a4) (inr a5) (inr a6) (inl is) a8 a9 a10 a11 a12 a13 =
    find_pair rest 0x2B 0x2B Join (0x2B ∷ []) some is (omega arith) refl refl refl
    (λ b. begun_one rest 0x2B Join (0x2B ∷ []) some is refl refl refl (same_false (slice_index rest 1) 0x2B b)) (equal_or_not _ _)
sign_by rest some other (inr a0) (inr a1) (inr a2) (inr a3) (inr a4) (inr a5) (inr a6) (inr a7) (inl is) a9 a10 a11 a12 a13 =
    find_pair rest 0x3D 0x3D Equal (0x3D ∷ []) some is (omega arith) refl refl refl
    (λ b. begun_one rest 0x3D Equal (0x3D ∷ []) some is refl refl refl (same_false (slice_index rest 1) 0x3D b)) (equal_or_not _ _)
sign_by rest some other (inr a0) (inr a1) (inr a2) (inr a3) (inr a4) (inr a5) (inr a6) (inr a7) (inr a8) (inl is) a10 a11 a12 a13 =
    find_pair rest 0x26 0x26 And (0x26 ∷ []) some is (omega arith) refl refl refl
    (λ b. begun_one rest 0x26 And (0x26 ∷ []) some is refl refl refl (same_false (slice_index rest 1) 0x26 b)) (equal_or_not _ _)
sign_by rest some other (inr a0) (inr a1) (inr a2) (inr a3) (inr a4) (inr a5) (inr a6) (inr a7) (inr a8) (inr a9) (inl is) a11 a12 a13 =
    find_pair rest 0x7C 0x7C Or (0x7C ∷ []) some is (omega arith) refl refl refl
    (λ b. begun_one rest 0x7C Or (0x7C ∷ []) some is refl refl refl (same_false (slice_index rest 1) 0x7C b)) (equal_or_not _ _)
sign_by rest some other (inr a0) (inr a1) (inr a2) (inr a3) (inr a4) (inr a5) (inr a6) (inr a7) (inr a8) (inr a9) (inr a10) (inl is) a12 a13 =
    find_either rest 0x21 0x3D NotEqual Not some is (omega arith) refl refl refl
    (λ b. one_byte rest 0x21 Not some is refl refl (same_false (slice_index rest 1) 0x3D b)) (equal_or_not _ _)
sign_by rest some other (inr a0) (inr a1) (inr a2) (inr a3) (inr a4) (inr a5) (inr a6) (inr a7) (inr a8) (inr a9) (inr a10) (inr a11) (inl is) a13 =
    find_either rest 0x3C 0x3D AtMost Less some is (omega arith) refl refl refl
    (λ b. one_byte rest 0x3C Less some is refl refl (same_false (slice_index rest 1) 0x3D b)) (equal_or_not _ _)
sign_by rest some other (inr a0) (inr a1) (inr a2) (inr a3) (inr a4) (inr a5) (inr a6) (inr a7) (inr a8) (inr a9) (inr a10) (inr a11) (inr a12) (inl is) =
    find_either rest 0x3E 0x3D AtLeast Greater some is (omega arith) refl refl refl
    (λ b. one_byte rest 0x3E Greater some is refl refl (same_false (slice_index rest 1) 0x3D b)) (equal_or_not _ _)
sign_by rest some other (inr a0) (inr a1) (inr a2) (inr a3) (inr a4) (inr a5) (inr a6) (inr a7) (inr a8) (inr a9) (inr a10) (inr a11) (inr a12) (inr a13) =
    no_token 0 (no_bytes rest some other (no_sign_first (slice_index rest 0) a0 a1 a2 a3 a4 a5 a6 a7 a8 a11 a12 a13 a9 a10))

find_sign : (rest : SourceText) → 0 < length rest → is_other (slice_index rest 0) ≡ true → FindsToken rest
find_sign rest some other =
    sign_by rest some other (equal_or_not _ _) (equal_or_not _ _) (equal_or_not _ _) (equal_or_not _ _) (equal_or_not _ _) (equal_or_not _ _) (equal_or_not _ _) (equal_or_not _ _) (equal_or_not _ _) (equal_or_not _ _) (equal_or_not _ _) (equal_or_not _ _) (equal_or_not _ _) (equal_or_not _ _)

-- ---- all of them

none_of : (a b c d e f : Bool) → a ≡ false → b ≡ false → c ≡ false → d ≡ false → e ≡ false → f ≡ false → (not a && not b && not c && not d && not e && not f) ≡ true
none_of a b c d e f p q r s t u = ap (λ x. not x && not b && not c && not d && not e && not f) p ∙ ap (λ x. not x && not c && not d && not e && not f) q
    ∙ ap (λ x. not x && not d && not e && not f) r ∙ ap (λ x. not x && not e && not f) s ∙ ap (λ x. not x && not f) t ∙ ap not u

letter_first : (rest : SourceText) → 0 < length rest → is_letter (slice_index rest 0) ≡ true → starts_with_letter rest ≡ true
letter_first [] some h = absurd (omega (arith, some))
letter_first (b ∷ rest) some h = h

pub find_token : (rest : SourceText) → 0 < length rest → FindsToken rest
find_token rest some =
    by (is_letter first) refl (equal_or_not first 0x2A) (equal_or_not first 0x24) (is_digit first) refl (equal_or_not first 0x2D) (is_quote first) refl
  where
    first : ℕ
    first = slice_index rest 0

    by : (l : Bool) → is_letter (slice_index rest 0) ≡ l → IsOrNot (slice_index rest 0) 0x2A → IsOrNot (slice_index rest 0) 0x24 → (d : Bool) → is_digit (slice_index rest 0) ≡ d
        → IsOrNot (slice_index rest 0) 0x2D → (q : Bool) → is_quote (slice_index rest 0) ≡ q → FindsToken rest
    by true letter s t d digit m q quotes = find_word rest (letter_first rest some letter)
    by false letter (inl is) t d digit m q quotes = find_param rest some is
    by false letter (inr s) (inl is) d digit m q quotes = find_session rest some is
    by false letter (inr s) (inr t) true digit m q quotes = find_positive rest some digit (equal_or_not _ _)
    by false letter (inr s) (inr t) false digit (inl is) q quotes = find_negative rest some is
    by false letter (inr s) (inr t) false digit (inr m) true quotes = find_text rest some quotes
    by false letter (inr s) (inr t) false digit (inr m) false quotes =
        let b = slice_index rest 0 in
        find_sign rest some (none_of (is_letter b) (is_digit b) (b == 0x2D) (is_quote b) (b == 0x2A) (b == 0x24)
        letter digit (same_false b 0x2D m) quotes (same_false b 0x2A s) (same_false b 0x24 t))
