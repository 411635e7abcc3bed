-- The tokens of query texts, and which bytes spell them. Both are this project's own; the columns have the names of iRODS.
use Rattle.std.specs.Prelude.{◌≡◌, ◌≢◌, ℕ, ◌-◌, ◌<◌, Bool, false, ◌||◌, ◌&&◌, List, [], ◌∷◌, ◌++◌, IsTrue, length, codes, nat_le, ◌==◌}
use Rattle.std.specs.List.{list_all}
use Rattle.std.specs.Str.{str_eq_ignore_ascii_case}
use Rattle.grid_model.specs.Names.{Text}
use Rattle.grid_model.specs.declared.queries.Column.{Column}
use Rattle.grid_model.specs.declared.queries.Column.TheVariants.{CollName, DataName, MetaDataAttrName, MetaDataAttrValue, MetaDataAttrUnits}
use Rattle.grid_model.specs.declared.queries.Column.TheVariants.{DataModifyTime, DataSize, DataReplNum, DataReplStatus, DataRescHier}
use Rattle.grid_model.specs.declared.queries.Column.TheVariants.{DataChecksum}

-- the words of the language
pub data Keyword : Type 0 where
  select_word : Keyword
  where_word : Keyword
  and_word : Keyword
  like_word : Keyword
  not_word : Keyword

-- the signs of comparisons
pub data Sign : Type 0 where
  equal : Sign
  not_equal : Sign
  less : Sign
  greater : Sign
  at_most : Sign
  at_least : Sign

-- what a token is
pub data Token : Type 0 where
  keyword : Keyword → Token
  column : Column → Token
  -- what stands between its apostrophes
  literal : Text → Token
  comma : Token
  sign : Sign → Token
  -- what stands in no query: another word, a literal that is not closed, a byte at which no token begins
  wrong : Token

-- a token and the place of its first byte in the text
pub record Placed : Type 0 where
  pub at : ℕ
  pub token : Token

-- how a keyword is written, in any case of letters
abbrev pub keyword_text : Keyword → Text
keyword_text select_word = codes "SELECT"
keyword_text where_word = codes "WHERE"
keyword_text and_word = codes "AND"
keyword_text like_word = codes "LIKE"
keyword_text not_word = codes "NOT"

-- how a column is written
abbrev pub column_text : Column → Text
column_text CollName = codes "COLL_NAME"
column_text DataName = codes "DATA_NAME"
column_text MetaDataAttrName = codes "META_DATA_ATTR_NAME"
column_text MetaDataAttrValue = codes "META_DATA_ATTR_VALUE"
column_text MetaDataAttrUnits = codes "META_DATA_ATTR_UNITS"
column_text DataModifyTime = codes "DATA_MODIFY_TIME"
column_text DataSize = codes "DATA_SIZE"
column_text DataReplNum = codes "DATA_REPL_NUM"
column_text DataReplStatus = codes "DATA_REPL_STATUS"
column_text DataRescHier = codes "DATA_RESC_HIER"
column_text DataChecksum = codes "DATA_CHECKSUM"

-- how a sign is written
abbrev pub sign_text : Sign → Text
sign_text equal = codes "="
sign_text not_equal = codes "<>"
sign_text less = codes "<"
sign_text greater = codes ">"
sign_text at_most = codes "<="
sign_text at_least = codes ">="

-- the sign and this byte behind it make a longer one
abbrev pub makes_longer : Sign → ℕ → Bool
makes_longer less b = b == 0x3D || b == 0x3E
makes_longer greater b = b == 0x3D
makes_longer _ b = false

-- an ASCII letter, a digit or `_`
abbrev pub is_identifier_byte : ℕ → Bool
is_identifier_byte b = (nat_le 0x41 b && nat_le b 0x5A) || (nat_le 0x61 b && nat_le b 0x7A) || (nat_le 0x30 b && nat_le b 0x39) || b == 0x5F

-- the text begins with a byte that passes the test
abbrev pub goes_on : (ℕ → Bool) → Text → Bool
goes_on test [] = false
goes_on test (b ∷ rest) = test b

-- the text begins with an apostrophe
abbrev pub quote_follows : Text → Bool
quote_follows text = goes_on (λ b. b == 0x27) text

-- which word is which token
pub data SpellsQueryWord (word : Text) : Token → Type 0 where
  a_keyword : (k : Keyword) → IsTrue (str_eq_ignore_ascii_case word (keyword_text k)) → SpellsQueryWord word (keyword k)
  a_column : (c : Column) → word ≡ column_text c → SpellsQueryWord word (column c)
  another : ((k : Keyword) → ¬ IsTrue (str_eq_ignore_ascii_case word (keyword_text k))) → ((c : Column) → word ≢ column_text c) → SpellsQueryWord word wrong

-- The text behind an opening apostrophe is this literal up to the apostrophe that closes it, and that rest. Two
-- apostrophes in a literal stand for one, so the one that closes it has none behind it.
pub data Closes : Text → Text → Text → Type 0 where
  closed : {text rest : Text} → text ≡ 0x27 ∷ rest → quote_follows rest ≡ false → Closes text [] rest
  plain : {text more inner rest : Text} (b : ℕ) → text ≡ b ∷ more → b ≢ 0x27 → Closes more inner rest → Closes text (b ∷ inner) rest
  twice : {text more inner rest : Text} → text ≡ 0x27 ∷ 0x27 ∷ more → Closes more inner rest → Closes text (0x27 ∷ inner) rest

-- The text is this token and that rest. A word has as many letters, digits and `_` as there are, and of two signs the
-- longer is taken.
pub data Front (text : Text) : Token → Text → Type 0 where
  a_word : {t : Token} {rest : Text} (word : Text) → text ≡ word ++ rest → 0 < length word → IsTrue (list_all is_identifier_byte word)
      → goes_on is_identifier_byte rest ≡ false → SpellsQueryWord word t → Front text t rest
  a_literal : {inner rest : Text} (behind : Text) → text ≡ 0x27 ∷ behind → Closes behind inner rest → Front text (literal inner) rest
  a_comma : {rest : Text} → text ≡ 0x2C ∷ rest → Front text comma rest
  a_sign : {rest : Text} (s : Sign) → text ≡ sign_text s ++ rest → goes_on (makes_longer s) rest ≡ false → Front text (sign s) rest

-- The rest of a text of this length is tokens and spaces between them. What is no token is taken with all that follows.
pub data SpellsTokens (end : ℕ) : Text → List Placed → Type 0 where
  nothing : SpellsTokens end [] []
  space : {text rest : Text} {ts : List Placed} → text ≡ 0x20 ∷ rest → SpellsTokens end rest ts → SpellsTokens end text ts
  token : {text rest : Text} {ts : List Placed} (t : Token) → Front text t rest → SpellsTokens end rest ts
      → SpellsTokens end text (record { at = end - length text; token = t } ∷ ts)
  no_token : {text rest : Text} (b : ℕ) → text ≡ b ∷ rest → b ≢ 0x20 → ((t : Token) (left : Text) → ¬ Front text t left)
      → SpellsTokens end text (record { at = end - length text; token = wrong } ∷ [])
