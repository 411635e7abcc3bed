-- Words: where they end, and which token each is.
use Rattle.std.proofs.Common.{◌≡◌, ℕ, ◌<◌, Bool, true, false, List, [], ◌∷◌, ◌++◌, Option, Some, None, length, drop, refl, sym, ap, subst, ◌∙◌, arith}
use Rattle.std.specs.Prelude.{◌&&◌, ◌==◌, if◌then◌else◌, slice_index}
use Rattle.std.specs.List.{list_all}
use Rattle.std.specs.Str.{bytes_eq, str_eq_ignore_ascii_case, str_to_ascii_lowercase}
use Rattle.std.proofs.lemmas.Bool.{both_ways}
use Rattle.std.proofs.lemmas.List.{drop_more}
use Rattle.std.proofs.lemmas.Slice.Eq.{bytes_eq-Decides}
use Rattle.grid_model.specs.Names.{Text}
use Rattle.grid_model.specs.QueryTokens.{Token, Keyword, select_word, where_word, and_word, like_word, not_word, keyword_text, column_text, is_identifier_byte, goes_on, SpellsQueryWord, a_keyword, a_column, another, keyword, column}
use Rattle.grid_model.specs.declared.queries.Column.{Column}
use Rattle.grid_model.specs.declared.queries.Column.TheVariants.{CollName, DataName, MetaDataAttrName, MetaDataAttrValue, MetaDataAttrUnits, DataModifyTime, DataSize, DataReplNum, DataReplStatus, DataRescHier, DataChecksum}

pub two_true : (a b : Bool) → a && b ≡ true → (a ≡ true) × (b ≡ true)
two_true true b h = (refl, h)
two_true false b h = absurd (both_ways false refl h)

-- ---- where a word ends

pub goes_on-drop : (test : ℕ → Bool) (text : Text) (n : ℕ) → n < length text → goes_on test (drop n text) ≡ test (slice_index text n)
goes_on-drop test text n low = ap (goes_on test) (drop_more text n 0 low)

-- the parts of a text in front of the first byte that fails the test, and from there on
pub record SameSplit (s t rest left : Text) : Type 0 where
  pub front_is : s ≡ t
  pub rest_is : rest ≡ left

pub one_split : (test : ℕ → Bool) (s t rest left : Text) → s ++ rest ≡ t ++ left → list_all test s ≡ true → list_all test t ≡ true → goes_on test rest ≡ false → goes_on test left ≡ false → SameSplit s t rest left
one_split test [] [] rest left e p q f g = record { front_is = refl; rest_is = e }
one_split test [] (b ∷ t) rest left e p q f g = absurd (both_ways (test b) (subst (λ x. goes_on test x ≡ false) e f) (two_true (test b) (list_all test t) q).0)
one_split test (a ∷ s) [] rest left e p q f g = absurd (both_ways (test a) (subst (λ x. goes_on test x ≡ false) (sym e) g) (two_true (test a) (list_all test s) p).0)
one_split test (a ∷ s) (b ∷ t) rest left e p q f g =
    let more = one_split test s t rest left (cc) (two_true (test a) (list_all test s) p).1 (two_true (test b) (list_all test t) q).1 f g in
    let same : a ≡ b = cc in
    record { front_is = (let both = more.front_is in cc); rest_is = more.rest_is }

pub word_begins : (word rest : Text) → 0 < length word → list_all is_identifier_byte word ≡ true → goes_on is_identifier_byte (word ++ rest) ≡ true
word_begins [] rest some all = absurd (omega arith)
word_begins (b ∷ word) rest some all = (two_true (is_identifier_byte b) (list_all is_identifier_byte word) all).0

-- ---- which keyword a word is

initial_of : Text → ℕ
initial_of [] = 0
initial_of (b ∷ t) = b

initial : Text → ℕ
initial word = initial_of (str_to_ascii_lowercase word)

same_initial : (word text : Text) → str_eq_ignore_ascii_case word text ≡ true → initial word ≡ initial text
unfolding initial
same_initial word text h = ap initial_of ((bytes_eq-Decides (str_to_ascii_lowercase word) (str_to_ascii_lowercase text)).0 h)

keyword_from : ℕ → Option Keyword
keyword_from b =
    if b == 0x73 then Some select_word else
    if b == 0x77 then Some where_word else
    if b == 0x61 then Some and_word else
    if b == 0x6C then Some like_word else
    if b == 0x6E then Some not_word else None

found_keyword : (k : Keyword) → keyword_from (initial (keyword_text k)) ≡ Some k
unfolding keyword_from initial initial_of
found_keyword select_word = refl
found_keyword where_word = refl
found_keyword and_word = refl
found_keyword like_word = refl
found_keyword not_word = refl

one_keyword : (word : Text) (k l : Keyword) → str_eq_ignore_ascii_case word (keyword_text k) ≡ true → str_eq_ignore_ascii_case word (keyword_text l) ≡ true → k ≡ l
one_keyword word k l a b =
    let one = found_keyword k in
    let two = found_keyword l in
    let both = ap keyword_from (sym (same_initial word (keyword_text k) a) ∙ same_initial word (keyword_text l) b) in
    cc

-- no column begins as a keyword does
no_initial : (c : Column) → keyword_from (initial (column_text c)) ≡ None
unfolding keyword_from initial initial_of
no_initial CollName = refl
no_initial DataName = refl
no_initial MetaDataAttrName = refl
no_initial MetaDataAttrValue = refl
no_initial MetaDataAttrUnits = refl
no_initial DataModifyTime = refl
no_initial DataSize = refl
no_initial DataReplNum = refl
no_initial DataReplStatus = refl
no_initial DataRescHier = refl
no_initial DataChecksum = refl

no_keyword : (word : Text) (k : Keyword) (c : Column) → str_eq_ignore_ascii_case word (keyword_text k) ≡ true → word ≡ column_text c → ⊥
no_keyword word k c a e =
    let one = found_keyword k in
    let none = no_initial c in
    let both = ap keyword_from (sym (same_initial word (keyword_text k) a) ∙ ap initial e) in
    cc

-- ---- which column

first_of : Text → List Column → Option Column
first_of s [] = None
first_of s (c ∷ cs) = if bytes_eq s (column_text c) then Some c else first_of s cs

column_from : Text → Option Column
column_from s = first_of s (CollName ∷ DataName ∷ MetaDataAttrName ∷ MetaDataAttrValue ∷ MetaDataAttrUnits ∷ DataModifyTime ∷ DataSize ∷ DataReplNum ∷ DataReplStatus ∷ DataRescHier ∷ DataChecksum ∷ [])

found_column : (c : Column) → column_from (column_text c) ≡ Some c
unfolding column_from first_of
found_column CollName = refl
found_column DataName = refl
found_column MetaDataAttrName = refl
found_column MetaDataAttrValue = refl
found_column MetaDataAttrUnits = refl
found_column DataModifyTime = refl
found_column DataSize = refl
found_column DataReplNum = refl
found_column DataReplStatus = refl
found_column DataRescHier = refl
found_column DataChecksum = refl

one_column : (c d : Column) → column_text c ≡ column_text d → c ≡ d
one_column c d e = let one = found_column c in let two = found_column d in let both = ap column_from e in cc

-- ---- which token

pub one_word : {word : Text} {t u : Token} → SpellsQueryWord word t → SpellsQueryWord word u → t ≡ u
one_word {word = word} (a_keyword k h) (a_keyword l g) = ap keyword (one_keyword word k l h g)
one_word {word = word} (a_keyword k h) (a_column c e) = absurd (no_keyword word k c h e)
one_word (a_keyword k h) (another none never) = absurd (none k h)
one_word {word = word} (a_column c e) (a_keyword k h) = absurd (no_keyword word k c h e)
one_word (a_column c e) (a_column d f) = ap column (one_column c d (sym e ∙ f))
one_word (a_column c e) (another none never) = absurd (never c e)
one_word (another none never) (a_keyword k h) = absurd (none k h)
one_word (another none never) (a_column c e) = absurd (never c e)
one_word (another none never) (another no_keyword no_column) = refl
