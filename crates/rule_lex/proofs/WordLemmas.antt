-- Names and words at a front.
use Rattle.std.proofs.Common.{◌≡◌, ◌≢◌, ℕ, zero, suc, ◌+◌, ◌-◌, ◌<◌, ◌≤◌, Bool, true, false, [], ◌∷◌, ◌++◌, length, take, drop, refl, sym, ap, subst, ◌∙◌, arith, inl, inr, add-one}
use Rattle.std.specs.Prelude.{◌⊎◌, ◌&&◌, IsTrue, slice_index, codes}
use Rattle.std.specs.List.{list_all}
use Rattle.std.specs.Str.{bytes_eq}
use Rattle.std.proofs.lemmas.Bool.{both_ways, cases_lt, or_left}
use Rattle.std.proofs.lemmas.List.{append_assoc, append-nil, length-append, length-take-le, drop_more, drop_all, take_at, drop_at, take_rest, take-append-drop}
use Rattle.std.proofs.lemmas.Slice.Eq.{bytes_eq-Decides}
use Rattle.rule_lex.specs.Bytes.{SourceText, is_letter, is_digit, is_rule_name_byte, starts_with_letter}
use Rattle.rule_lex.specs.Symbols.{symbol_text}
use Rattle.rule_lex.specs.Tokens.{RuleToken, SpellsToken, IsName, is_identifier, a_name, a_param, a_session, a_symbol, named, param, session, symbol}
use Rattle.rule_lex.specs.Fronts.{BeginsToken, IsLongestToken, IsNoFront, IsFirstName}
use Rattle.rule_lex.specs.declared.token.Symbol.{Symbol}
use Rattle.rule_lex.specs.declared.token.Symbol.TheVariants.{On, Like, True, False}
use Rattle.rule_lex.proofs.Firsts.{both_true}
use Rattle.rule_lex.proofs.KindLemmas.{starts_so, letter_so, of_letter, of_star, of_dollar, front_by_end, no_front_by_end, no_empty_token}

pub all_right : (p : ℕ → Bool) (s t : SourceText) → list_all p (s ++ t) ≡ true → list_all p t ≡ true
all_right p [] t h = h
all_right p (b ∷ s) t h = all_right p s t (both_true (p b) (list_all p (s ++ t)) h).1

-- as many letters and digits as stand in a row, at most 255
pub record Run (f rest : SourceText) : Type 0 where
  pub words : list_all is_rule_name_byte f ≡ true
  pub short : length f ≤ 255
  pub ends : (b : ℕ) (r : SourceText) → rest ≡ b ∷ r → length f < 255 → is_rule_name_byte b ≡ false

pub run_of : (bytes : SourceText) (n : ℕ) → n ≤ length bytes → n ≤ 255 → list_all is_rule_name_byte (take n bytes) ≡ true → (n < 255 → n < length bytes → is_rule_name_byte (slice_index bytes n) ≡ false) → Run (take n bytes) (drop n bytes)
run_of bytes n within short words ends = record {
  words = words;
  short = omega (arith, size, short);
  ends = λ b r e low. by b r e (omega (arith, low, size)) (cases_lt n (length bytes));
}
  where
    size : length (take n bytes) ≡ n
    size = length-take-le n bytes within

    by : (b : ℕ) (r : SourceText) → drop n bytes ≡ b ∷ r → n < 255 → (n < length bytes) ⊎ (length bytes ≤ n) → is_rule_name_byte b ≡ false
    by b r e low (inl more) =
        let there = drop_more bytes n 0 more in
        let same : slice_index bytes n ≡ b = cc in
        subst (λ k. is_rule_name_byte k ≡ false) same (ends low more)
    by b r e low (inr none) = absurd (let there = drop_all n bytes none in cc)

letter_is_word : (b : ℕ) → is_letter b ≡ true → is_rule_name_byte b ≡ true
letter_is_word b h = or_left (is_letter b) (is_digit b) h

-- a run of what begins with a letter begins with it
pub run_starts : (bytes : SourceText) (n : ℕ) → Run (take n bytes) (drop n bytes) → starts_with_letter bytes ≡ true → starts_with_letter (take n bytes) ≡ true
run_starts [] n run h = absurd (both_ways false refl h)
run_starts (b ∷ bytes) zero run h = absurd (both_ways (is_rule_name_byte b) (run.ends b bytes refl (omega arith)) (letter_is_word b h))
run_starts (b ∷ bytes) (suc n) run h = h

starts_longer : (s t : SourceText) → starts_with_letter s ≡ true → starts_with_letter (s ++ t) ≡ true
starts_longer [] t h = absurd (both_ways false refl h)
starts_longer (b ∷ s) t h = h

pub run_is_word : (s : SourceText) → starts_with_letter s ≡ true → list_all is_rule_name_byte s ≡ true → is_identifier s ≡ true
run_is_word s letter all = ap (λ x. x && list_all is_rule_name_byte s) letter ∙ all

-- no word of 255 bytes goes further than a run
ends_run : {f rest : SourceText} (b : ℕ) (r more : SourceText) → Run f rest → rest ≡ b ∷ r → list_all is_rule_name_byte (f ++ b ∷ more) ≡ true → length (f ++ b ∷ more) ≤ 255 → ⊥
ends_run {f = f} b r more run is all short =
    both_ways (is_rule_name_byte b) (run.ends b r is (omega (arith, short, length-append f (b ∷ more)))) (both_true (is_rule_name_byte b) (list_all is_rule_name_byte more) (all_right is_rule_name_byte f (b ∷ more) all)).0

no_longer_token : {f rest : SourceText} → Run f rest → starts_with_letter f ≡ true → (b : ℕ) (r : SourceText) → rest ≡ b ∷ r → BeginsToken (f ++ b ∷ []) → ⊥
no_longer_token {f = f} run letter b r is h =
    let spells : SpellsToken (f ++ b ∷ h.more) h.token = subst (λ s. SpellsToken s h.token) (append_assoc f (b ∷ []) h.more) h.spells in
    let word = of_letter spells (starts_longer f (b ∷ h.more) letter) in
    ends_run b r h.more run is word.0 word.1

pub front_symbol : (f rest : SourceText) (x : Symbol) → Run f rest → starts_with_letter f ≡ true → f ≡ symbol_text x → IsLongestToken f rest (symbol x)
front_symbol f rest x run letter is = front_by_end f rest (symbol x) (a_symbol x is) (no_longer_token run letter)

run_name : {f rest : SourceText} → Run f rest → starts_with_letter f ≡ true → ((x : Symbol) → f ≢ symbol_text x) → IsName f
run_name {f = f} run letter not_ours = record { word = run_is_word f letter run.words; short = run.short; not_ours = not_ours }

pub front_name : (f rest : SourceText) → Run f rest → starts_with_letter f ≡ true → ((x : Symbol) → f ≢ symbol_text x) → IsLongestToken f rest (named f)
front_name f rest run letter not_ours = front_by_end f rest (named f) (a_name (run_name run letter not_ours)) (no_longer_token run letter)

-- ---- the longest name

name_all : {s : SourceText} → IsName s → list_all is_rule_name_byte s ≡ true
name_all {s = s} n = (both_true (starts_with_letter s) (list_all is_rule_name_byte s) n.word).1

-- a name goes no further than a run
no_longer_name : {f rest : SourceText} → Run f rest → (k : ℕ) (more : SourceText) → 0 < k → k ≤ length rest → IsName (f ++ take k rest ++ more) → ⊥
no_longer_name {f = f} {rest = rest} run k more some high n = by rest k some high (λ b r e. e) n
  where
    by : (s : SourceText) (k : ℕ) → 0 < k → k ≤ length s → ((b : ℕ) (r : SourceText) → s ≡ b ∷ r → rest ≡ b ∷ r) → IsName (f ++ take k s ++ more) → ⊥
    by [] k some high is n = omega (arith, some, high)
    by (b ∷ s) zero some high is n = omega (arith, some)
    by (b ∷ s) (suc k) some high is n =
        let name : IsName (f ++ b ∷ (take k s ++ more)) = subst IsName (append_assoc f (b ∷ take k s) more) n in
        ends_run b s (take k s ++ more) run (is b s refl) (name_all name) name.short

pub first_name : (f rest : SourceText) → Run f rest → starts_with_letter f ≡ true → ((x : Symbol) → f ≢ symbol_text x) → IsFirstName f rest
first_name f rest run letter not_ours = record {
  is_name = run_name run letter not_ours;
  none_longer = λ k some high n. no_longer_name run k [] some high (subst IsName (sym (append-nil (f ++ take k rest))) n);
  steady = λ k more some high n. absurd (no_longer_name run k more some high n);
}

-- a word of the language without its last letter is a name
record Shortened (x : Symbol) : Type 0 where
  name : SourceText
  last : ℕ
  is : symbol_text x ≡ name ++ last ∷ []
  is_name : IsName name
  letter : is_letter last ≡ true

apart : (s : SourceText) → ((x : Symbol) → bytes_eq s (symbol_text x) ≡ false) → (x : Symbol) → s ≢ symbol_text x
apart s each x same = both_ways (bytes_eq s (symbol_text x)) (each x) ((bytes_eq-Decides s (symbol_text x)).1 same)

not_o : (x : Symbol) → bytes_eq (codes "o") (symbol_text x) ≡ false
not_o On = refl
not_o _ = refl

not_lik : (x : Symbol) → bytes_eq (codes "lik") (symbol_text x) ≡ false
not_lik On = refl
not_lik _ = refl

not_tru : (x : Symbol) → bytes_eq (codes "tru") (symbol_text x) ≡ false
not_tru On = refl
not_tru _ = refl

not_fals : (x : Symbol) → bytes_eq (codes "fals") (symbol_text x) ≡ false
not_fals On = refl
not_fals _ = refl

shortened : (x : Symbol) → starts_so is_letter (symbol_text x) ≡ true → Shortened x
shortened On h = record { name = codes "o"; last = 0x6E; is = refl; is_name = record { word = refl; short = omega arith; not_ours = apart (codes "o") not_o }; letter = refl }
shortened Like h = record { name = codes "lik"; last = 0x65; is = refl; is_name = record { word = refl; short = omega arith; not_ours = apart (codes "lik") not_lik }; letter = refl }
shortened True h = record { name = codes "tru"; last = 0x65; is = refl; is_name = record { word = refl; short = omega arith; not_ours = apart (codes "tru") not_tru }; letter = refl }
shortened False h = record { name = codes "fals"; last = 0x65; is = refl; is_name = record { word = refl; short = omega arith; not_ours = apart (codes "fals") not_fals }; letter = refl }
shortened _ h = absurd (both_ways false refl h)

first_of_word : (x : Symbol) (f rest : SourceText) → Run f rest → f ≡ symbol_text x → (s : Shortened x) → IsFirstName s.name (s.last ∷ rest)
first_of_word x f rest run is s = record {
  is_name = s.is_name;
  none_longer = λ k some high n. none k some high n;
  steady = λ k more some high n. further k more some high n;
}
  where
    whole : s.name ++ s.last ∷ [] ≡ f
    whole = sym (is ∙ s.is)

    longer : (k : ℕ) (more : SourceText) → 0 < k → k ≤ length rest → IsName (s.name ++ s.last ∷ take k rest ++ more) → ⊥
    longer k more some high n =
        no_longer_name run k more some high
        (subst (λ t. IsName (t ++ take k rest ++ more)) whole (subst (λ t. IsName (t ++ more)) (sym (append_assoc s.name (s.last ∷ []) (take k rest))) n))

    none : (k : ℕ) → 0 < k → k ≤ length (s.last ∷ rest) → IsName (s.name ++ take k (s.last ∷ rest)) → ⊥
    none zero some high n = omega (arith, some)
    none (suc zero) some high n = n.not_ours x (whole ∙ is)
    none (suc (suc k)) some high n = longer (suc k) [] (omega arith) (omega (arith, high)) (subst IsName (sym (append-nil (s.name ++ s.last ∷ take (suc k) rest))) n)

    further : (k : ℕ) (more : SourceText) → 0 < k → k ≤ length (s.last ∷ rest) → IsName (s.name ++ take k (s.last ∷ rest) ++ more) → (k ≡ 1) × IsTrue (starts_with_letter (s.last ∷ rest))
    further zero more some high n = absurd (omega (arith, some))
    further (suc zero) more some high n = (refl, s.letter)
    further (suc (suc k)) more some high n = absurd (longer (suc k) more (omega arith) (omega (arith, high)) n)

pub first_shortened : (bytes : SourceText) (n : ℕ) (x : Symbol) → n ≤ length bytes → Run (take n bytes) (drop n bytes) → starts_with_letter (take n bytes) ≡ true → take n bytes ≡ symbol_text x → (n - 1 ≤ length bytes) × IsFirstName (take (n - 1) bytes) (drop (n - 1) bytes)
first_shortened bytes n x within run letter is =
    (omega (arith, within), subst (λ s. IsFirstName s (drop (n - 1) bytes)) (sym name_is) (subst (λ r. IsFirstName s.name r) (sym rest_is) (first_of_word x (take n bytes) (drop n bytes) run is s)))
  where
    s : Shortened x
    s = shortened x (letter_so (symbol_text x) (subst (λ t. starts_with_letter t ≡ true) is letter))

    whole : bytes ≡ s.name ++ s.last ∷ drop n bytes
    whole = sym (take-append-drop n bytes) ∙ ap (λ t. t ++ drop n bytes) (is ∙ s.is) ∙ append_assoc s.name (s.last ∷ []) (drop n bytes)

    size : length s.name ≡ n - 1
    size = omega (arith, length-take-le n bytes within, ap length (is ∙ s.is), length-append s.name (s.last ∷ []))

    name_is : take (n - 1) bytes ≡ s.name
    name_is = ap (take (n - 1)) whole ∙ take_at s.name (s.last ∷ drop n bytes) (n - 1) size

    rest_is : drop (n - 1) bytes ≡ s.last ∷ drop n bytes
    rest_is = ap (drop (n - 1)) whole ∙ drop_at s.name (s.last ∷ drop n bytes) (n - 1) size

-- ---- a name behind `*` or `$`

pub front_param : (name rest : SourceText) → IsFirstName name rest → IsLongestToken (0x2A ∷ name) rest (param name)
front_param name rest first = record {
  spells = a_param name refl first.is_name;
  none_longer = λ k u some high h. first.none_longer k some high (of_star h refl);
  steady = λ k some high b. first.steady k b.more some high (of_star b.spells refl);
}

pub front_session : (name rest : SourceText) → IsFirstName name rest → IsLongestToken (0x24 ∷ name) rest (session name)
front_session name rest first = record {
  spells = a_session name refl first.is_name;
  none_longer = λ k u some high h. first.none_longer k some high (of_dollar h refl);
  steady = λ k some high b. first.steady k b.more some high (of_dollar b.spells refl);
}

not_a : (x : Symbol) → bytes_eq (codes "a") (symbol_text x) ≡ false
not_a On = refl
not_a _ = refl

a_is_name : IsName (codes "a")
a_is_name = record { word = refl; short = omega arith; not_ours = apart (codes "a") not_a }

-- a sign of names that no name follows
no_sigil : (c : ℕ) (after : SourceText) → is_letter c ≡ false → ((s : SourceText) (u : RuleToken) → SpellsToken (c ∷ s) u → IsName s) → ((name : SourceText) → IsName name → (u : RuleToken) × SpellsToken (c ∷ name) u) → starts_with_letter after ≡ false → IsNoFront (c ∷ after) 1
no_sigil c after no_letter named_behind spelled never =
    no_front_by_end (c ∷ after) 1 (omega arith) (λ h. both_ways (is_letter c) no_letter h) (λ k u low h. none k u low h)
    (λ low. let a = spelled (codes "a") a_is_name in record { more = codes "a"; token = a.0; spells = a.1 })
    (λ low b. ends after b (omega (arith, low)) never)
  where
    none : (k : ℕ) (u : RuleToken) → k ≤ 1 → SpellsToken (take k (c ∷ after)) u → ⊥
    none zero u low h = no_empty_token h
    none (suc zero) u low h = both_ways false refl (named_behind [] u h).word
    none (suc (suc k)) u low h = omega (arith, low)

    ends : (s : SourceText) → BeginsToken (take 2 (c ∷ s)) → 0 < length s → starts_with_letter s ≡ false → ⊥
    ends [] b low h = omega (arith, low)
    ends (y ∷ s) b low h = both_ways (is_letter y) h (both_true (is_letter y) (list_all is_rule_name_byte (y ∷ b.more)) (named_behind (y ∷ b.more) b.token b.spells).word).0

-- what begins with the byte
pub headed : (rest : SourceText) (c : ℕ) → 0 < length rest → slice_index rest 0 ≡ c → rest ≡ c ∷ drop 1 rest
headed [] c some is = absurd (omega (arith, some))
headed (b ∷ rest) c some is = ap (λ k. k ∷ rest) is

pub no_param : (rest : SourceText) → 0 < length rest → slice_index rest 0 ≡ 0x2A → starts_with_letter (drop 1 rest) ≡ false → IsNoFront rest 1
no_param rest some is never =
    subst (λ r. IsNoFront r 1) (sym (headed rest 0x2A some is))
    (no_sigil 0x2A (drop 1 rest) refl (λ s u h. of_star h refl) (λ name n. (_, a_param name refl n)) never)

pub no_session : (rest : SourceText) → 0 < length rest → slice_index rest 0 ≡ 0x24 → starts_with_letter (drop 1 rest) ≡ false → IsNoFront rest 1
no_session rest some is never =
    subst (λ r. IsNoFront r 1) (sym (headed rest 0x24 some is))
    (no_sigil 0x24 (drop 1 rest) refl (λ s u h. of_dollar h refl) (λ name n. (_, a_session name refl n)) never)

-- a front that is one byte and the front of the rest
pub behind_byte : (rest : SourceText) (c n : ℕ) (t : RuleToken) → 0 < length rest → slice_index rest 0 ≡ c → n ≤ length (drop 1 rest) → IsLongestToken (c ∷ take n (drop 1 rest)) (drop n (drop 1 rest)) t → (n + 1 ≤ length rest) × IsLongestToken (take (n + 1) rest) (drop (n + 1) rest) t
behind_byte [] c n t some is within front = absurd (omega (arith, some))
behind_byte (b ∷ rest) c n t some is within front =
    rw add-one (omega (arith, within), subst (λ k. IsLongestToken (k ∷ take n rest) (drop n rest) t) (sym is) front)

pub letter_at : (bytes : SourceText) → is_letter (slice_index bytes 0) ≡ true → starts_with_letter bytes ≡ true
letter_at [] h = absurd (both_ways false refl h)
letter_at (b ∷ bytes) h = h

pub param_at : (rest : SourceText) (n : ℕ) → 0 < length rest → slice_index rest 0 ≡ 0x2A
    → (n ≤ length (take (length rest - 1) (drop 1 rest))) × IsFirstName (take n (take (length rest - 1) (drop 1 rest))) (drop n (take (length rest - 1) (drop 1 rest)))
    → (n + 1 ≤ length rest) × IsLongestToken (take (n + 1) rest) (drop (n + 1) rest) (param (take n (take (length rest - 1) (drop 1 rest))))
param_at rest n some is first = by (take (length rest - 1) (drop 1 rest)) (take_rest rest 1) first
  where
    by : (after : SourceText) → after ≡ drop 1 rest → (n ≤ length after) × IsFirstName (take n after) (drop n after) → (n + 1 ≤ length rest) × IsLongestToken (take (n + 1) rest) (drop (n + 1) rest) (param (take n after))
    by after e h =
        subst (λ a. (n + 1 ≤ length rest) × IsLongestToken (take (n + 1) rest) (drop (n + 1) rest) (param (take n a))) (sym e)
        (behind_byte rest 0x2A n (param (take n (drop 1 rest))) some is (subst (λ a. n ≤ length a) e h.0) (front_param (take n (drop 1 rest)) (drop n (drop 1 rest)) (subst (λ a. IsFirstName (take n a) (drop n a)) e h.1)))

pub session_at : (rest : SourceText) (n : ℕ) → 0 < length rest → slice_index rest 0 ≡ 0x24
    → (n ≤ length (take (length rest - 1) (drop 1 rest))) × IsFirstName (take n (take (length rest - 1) (drop 1 rest))) (drop n (take (length rest - 1) (drop 1 rest)))
    → (n + 1 ≤ length rest) × IsLongestToken (take (n + 1) rest) (drop (n + 1) rest) (session (take n (take (length rest - 1) (drop 1 rest))))
session_at rest n some is first = by (take (length rest - 1) (drop 1 rest)) (take_rest rest 1) first
  where
    by : (after : SourceText) → after ≡ drop 1 rest → (n ≤ length after) × IsFirstName (take n after) (drop n after) → (n + 1 ≤ length rest) × IsLongestToken (take (n + 1) rest) (drop (n + 1) rest) (session (take n after))
    by after e h =
        subst (λ a. (n + 1 ≤ length rest) × IsLongestToken (take (n + 1) rest) (drop (n + 1) rest) (session (take n a))) (sym e)
        (behind_byte rest 0x24 n (session (take n (drop 1 rest))) some is (subst (λ a. n ≤ length a) e h.0) (front_session (take n (drop 1 rest)) (drop n (drop 1 rest)) (subst (λ a. IsFirstName (take n a) (drop n a)) e h.1)))
