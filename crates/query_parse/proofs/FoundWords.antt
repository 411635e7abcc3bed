-- The word at the front of each text, and the token that it is.
use Rattle.std.proofs.Common.{◌≡◌, ◌≢◌, ◌<◌, Bool, true, false, [], ◌∷◌, ◌++◌, length, refl, sym, ap, ◌∙◌, arith, inl, inr}
use Rattle.std.specs.Prelude.{◌⊎◌, ◌&&◌}
use Rattle.std.specs.List.{list_all}
use Rattle.std.specs.Str.{bytes_eq, str_eq_ignore_ascii_case}
use Rattle.std.proofs.lemmas.Bool.{both_ways}
use Rattle.std.proofs.lemmas.Slice.Eq.{bytes_eq-Decides}
use Rattle.grid_model.specs.Names.{Text}
use Rattle.grid_model.specs.QueryTokens.{Token, Keyword, select_word, where_word, and_word, like_word, not_word, keyword, column, wrong}
use Rattle.grid_model.specs.QueryTokens.{keyword_text, column_text, is_identifier_byte, goes_on, SpellsQueryWord, a_keyword, a_column, another}
use Rattle.grid_model.specs.declared.queries.Column.{Column}
use Rattle.grid_model.specs.declared.queries.Column.TheVariants.{CollName, DataName, MetaDataAttrName, MetaDataAttrValue, MetaDataAttrUnits}
use Rattle.grid_model.specs.declared.queries.Column.TheVariants.{DataModifyTime, DataSize, DataReplNum, DataReplStatus, DataRescHier}
use Rattle.grid_model.specs.declared.queries.Column.TheVariants.{DataChecksum}
use Rattle.query_parse.proofs.FrontLemmas.{begins_word}

pub same_or_not : (s t : Text) → (s ≡ t) ⊎ (s ≢ t)
same_or_not s t = by (bytes_eq s t) refl
  where
    by : (b : Bool) → bytes_eq s t ≡ b → (s ≡ t) ⊎ (s ≢ t)
    by true h = inl ((bytes_eq-Decides s t).0 h)
    by false h = inr (λ e. both_ways (bytes_eq s t) h ((bytes_eq-Decides s t).1 e))

-- ---- which keyword

-- the word is this one, or none
data FindsKeyword (word : Text) : Type 0 where
  is_keyword : (k : Keyword) → str_eq_ignore_ascii_case word (keyword_text k) ≡ true → FindsKeyword word
  no_keyword : ((k : Keyword) → ¬ (str_eq_ignore_ascii_case word (keyword_text k) ≡ true)) → FindsKeyword word

abbrev is_read_as : Text → Keyword → Bool
is_read_as word k = str_eq_ignore_ascii_case word (keyword_text k)

keyword_by : (word : Text) (a b c d e : Bool)
    → is_read_as word select_word ≡ a → is_read_as word where_word ≡ b → is_read_as word and_word ≡ c → is_read_as word like_word ≡ d
    → is_read_as word not_word ≡ e → FindsKeyword word
keyword_by word true b c d e p q r s t = is_keyword select_word p
keyword_by word false true c d e p q r s t = is_keyword where_word q
keyword_by word false false true d e p q r s t = is_keyword and_word r
keyword_by word false false false true e p q r s t = is_keyword like_word s
keyword_by word false false false false true p q r s t = is_keyword not_word t
keyword_by word false false false false false p q r s t = no_keyword none
  where
    none : (k : Keyword) → ¬ (is_read_as word k ≡ true)
    none select_word h = both_ways (is_read_as word select_word) p h
    none where_word h = both_ways (is_read_as word where_word) q h
    none and_word h = both_ways (is_read_as word and_word) r h
    none like_word h = both_ways (is_read_as word like_word) s h
    none not_word h = both_ways (is_read_as word not_word) t h

find_keyword : (word : Text) → FindsKeyword word
find_keyword word = keyword_by word _ _ _ _ _ refl refl refl refl refl

-- ---- which column

-- the word names this one, or none
data FindsColumn (word : Text) : Type 0 where
  is_column : (c : Column) → word ≡ column_text c → FindsColumn word
  no_column : ((c : Column) → word ≢ column_text c) → FindsColumn word

abbrev NamesOrNot : Text → Column → Type 0
NamesOrNot word c = (word ≡ column_text c) ⊎ (word ≢ column_text c)

column_by : (word : Text) → NamesOrNot word CollName → NamesOrNot word DataName → NamesOrNot word MetaDataAttrName
    → NamesOrNot word MetaDataAttrValue → NamesOrNot word MetaDataAttrUnits → NamesOrNot word DataModifyTime → NamesOrNot word DataSize
    → NamesOrNot word DataReplNum → NamesOrNot word DataReplStatus → NamesOrNot word DataRescHier → NamesOrNot word DataChecksum
    → FindsColumn word
column_by word (inl h) b c d e f g i j k l = is_column CollName h
column_by word (inr a) (inl h) c d e f g i j k l = is_column DataName h
column_by word (inr a) (inr b) (inl h) d e f g i j k l = is_column MetaDataAttrName h
column_by word (inr a) (inr b) (inr c) (inl h) e f g i j k l = is_column MetaDataAttrValue h
column_by word (inr a) (inr b) (inr c) (inr d) (inl h) f g i j k l = is_column MetaDataAttrUnits h
column_by word (inr a) (inr b) (inr c) (inr d) (inr e) (inl h) g i j k l = is_column DataModifyTime h
column_by word (inr a) (inr b) (inr c) (inr d) (inr e) (inr f) (inl h) i j k l = is_column DataSize h
column_by word (inr a) (inr b) (inr c) (inr d) (inr e) (inr f) (inr g) (inl h) j k l = is_column DataReplNum h
column_by word (inr a) (inr b) (inr c) (inr d) (inr e) (inr f) (inr g) (inr i) (inl h) k l = is_column DataReplStatus h
column_by word (inr a) (inr b) (inr c) (inr d) (inr e) (inr f) (inr g) (inr i) (inr j) (inl h) l = is_column DataRescHier h
column_by word (inr a) (inr b) (inr c) (inr d) (inr e) (inr f) (inr g) (inr i) (inr j) (inr k) (inl h) = is_column DataChecksum h
column_by word (inr a) (inr b) (inr c) (inr d) (inr e) (inr f) (inr g) (inr i) (inr j) (inr k) (inr l) = no_column none
  where
    none : (n : Column) → word ≢ column_text n
    none CollName = a
    none DataName = b
    none MetaDataAttrName = c
    none MetaDataAttrValue = d
    none MetaDataAttrUnits = e
    none DataModifyTime = f
    none DataSize = g
    none DataReplNum = i
    none DataReplStatus = j
    none DataRescHier = k
    none DataChecksum = l

find_column : (word : Text) → FindsColumn word
find_column word =
    column_by word (named CollName) (named DataName) (named MetaDataAttrName) (named MetaDataAttrValue) (named MetaDataAttrUnits)
    (named DataModifyTime) (named DataSize) (named DataReplNum) (named DataReplStatus) (named DataRescHier) (named DataChecksum)
  where
    named : (c : Column) → NamesOrNot word c
    named c = same_or_not word (column_text c)

-- ---- which token

-- the token that a word is
pub record WordToken (word : Text) : Type 0 where
  pub token_is : Token
  pub spells : SpellsQueryWord word token_is

token_by : (word : Text) → FindsKeyword word → FindsColumn word → WordToken word
token_by word (is_keyword k h) c = record { token_is = keyword k; spells = a_keyword k h }
token_by word (no_keyword none) (is_column c h) = record { token_is = column c; spells = a_column c h }
token_by word (no_keyword none) (no_column never) = record { token_is = wrong; spells = another none never }

pub word_token : (word : Text) → WordToken word
word_token word = token_by word (find_keyword word) (find_column word)

-- ---- where a word ends

-- the letters, digits and `_` at the front of a text, and the rest
pub record WordInFront (text : Text) : Type 0 where
  pub word : Text
  pub rest : Text
  pub text_is : text ≡ word ++ rest
  pub all : list_all is_identifier_byte word ≡ true
  pub ends : goes_on is_identifier_byte rest ≡ false

pub word_in_front : (text : Text) → WordInFront text
word_in_front [] = record { word = []; rest = []; text_is = refl; all = refl; ends = refl }
word_in_front (b ∷ text) = by (is_identifier_byte b) refl (word_in_front text)
  where
    by : (t : Bool) → is_identifier_byte b ≡ t → WordInFront text → WordInFront (b ∷ text)
    by true h w = record {
      word = b ∷ w.word;
      rest = w.rest;
      text_is = ap (λ s. b ∷ s) w.text_is;
      all = ap (λ t. t && list_all is_identifier_byte w.word) h ∙ w.all;
      ends = w.ends;
    }
    by false h w = record { word = []; rest = b ∷ text; text_is = refl; all = refl; ends = h }

pub some_word : (text word rest : Text) → text ≡ word ++ rest → goes_on is_identifier_byte rest ≡ false → begins_word text ≡ true → 0 < length word
some_word text [] rest e ends begins = absurd (both_ways (goes_on is_identifier_byte rest) ends (sym (ap begins_word e) ∙ begins))
some_word text (b ∷ word) rest e ends begins = omega arith
