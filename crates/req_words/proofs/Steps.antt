-- What a byte changes of how a line may go on, place by place.
use Rattle.std.proofs.Common.{length, nat_lt, ◌≡◌, ℕ, false, List, [], ◌∷◌, ◌++◌, refl, sym, ap, ◌∙◌, subst, arith}
use Rattle.std.specs.Prelude.{IsTrue}
use Rattle.std.specs.List.{list_all}
use Rattle.std.proofs.lemmas.Bool.{and_from, and_parts, both_ways, lt-ltb}
use Rattle.std.proofs.lemmas.List.{append-nil, append_assoc}
use Rattle.grid_model.specs.Names.{Text}
use Rattle.grid_model.specs.Words.{is_bare, is_bare_byte, is_plain, SpellsInner, nothing, plain, escaped, SpellsWord, bare, quoted, SpellsLine, line_end, space, word, EndsWord}
use Rattle.req_words.specs.Going.{GoesOnBare, GoesOnQuoted, GoesOnEscaped}

-- ---- between words

-- how a line that begins with the byte goes on
pub data Begun (b : ℕ) (rest : Text) (ws : List Text) : Type 0 where
  at_space : b ≡ 0x20 → SpellsLine rest ws → Begun b rest ws
  at_bare : IsTrue (is_bare_byte b) → GoesOnBare (b ∷ []) rest ws → Begun b rest ws
  at_quote : b ≡ 0x22 → GoesOnQuoted [] rest ws → Begun b rest ws

bare_word : (b : ℕ) (rest w t : Text) (ws : List Text) → IsTrue (is_bare w) → w ++ t ≡ b ∷ rest → EndsWord t → SpellsLine t ws → Begun b rest (w ∷ ws)
bare_word b rest [] t ws h e ends line = absurd (both_ways (is_bare []) refl h)
bare_word b rest (c ∷ w) t ws h e ends line =
    let head : c ≡ b = cc in
    let tail : w ++ t ≡ rest = cc in
    let bytes = and_parts (is_bare_byte c) (list_all is_bare_byte w) (and_parts _ (list_all is_bare_byte (c ∷ w)) h).1 in
    at_bare (ap is_bare_byte (sym head) ∙ bytes.0)
    (record { more = w; behind = t; others = ws; bytes = bytes.1; split = sym tail; ends = ends; line = line; words_are = λ i. (head i ∷ w) ∷ ws })

begun_word : (b : ℕ) (rest s t w : Text) (ws : List Text) → s ++ t ≡ b ∷ rest → SpellsWord s w → EndsWord t → SpellsLine t ws → Begun b rest (w ∷ ws)
begun_word b rest s t w ws e (bare h) ends line = bare_word b rest w t ws h e ends line
begun_word b rest s t w ws e (quoted {inner = inner} spells is) ends line =
    let whole : 0x22 ∷ (inner ++ 0x22 ∷ [] ++ t) ≡ b ∷ rest = sym (ap (λ x. x ++ t) is) ∙ e in
    let head : 0x22 ≡ b = cc in
    let tail : inner ++ 0x22 ∷ [] ++ t ≡ rest = cc in
    at_quote (sym head) (record { inner = inner; more = w; behind = t; others = ws; spells = spells; split = sym tail ∙ append_assoc inner (0x22 ∷ []) t; ends = ends; line = line; words_are = refl })

begun_line : (b : ℕ) (rest line : Text) (ws : List Text) → SpellsLine line ws → line ≡ b ∷ rest → Begun b rest ws
begun_line b rest line ws line_end e = cc
begun_line b rest line ws (space {t = t} more) e =
    let head : 0x20 ≡ b = cc in
    let tail : t ≡ rest = cc in
    at_space (sym head) (subst (λ x. SpellsLine x ws) tail more)
begun_line b rest line ws (word {s = s} {t = t} {w = w} {ws = vs} split spells ends more) e = begun_word b rest s t w vs (sym split ∙ e) spells ends more

pub begun : (b : ℕ) (rest : Text) (ws : List Text) → SpellsLine (b ∷ rest) ws → Begun b rest ws
begun b rest ws line = begun_line b rest (b ∷ rest) ws line refl

pub none_begun : (b : ℕ) (rest : Text) (ws : List Text) → (b ≡ 0x20 → ⊥) → (b ≡ 0x22 → ⊥) → is_bare_byte b ≡ false → SpellsLine (b ∷ rest) ws → ⊥
none_begun b rest ws no_space no_quote no_bare line = by (begun b rest ws line)
  where
    by : Begun b rest ws → ⊥
    by (at_space e more) = no_space e
    by (at_bare h more) = both_ways _ no_bare h
    by (at_quote e more) = no_quote e

pub spaced : (b : ℕ) (rest : Text) (ws : List Text) → b ≡ 0x20 → SpellsLine rest ws → SpellsLine (b ∷ rest) ws
spaced b rest ws e line = subst (λ x. SpellsLine (x ∷ rest) ws) (sym e) (space line)

pub behind_space : (b : ℕ) (rest : Text) (ws : List Text) → b ≡ 0x20 → SpellsLine (b ∷ rest) ws → SpellsLine rest ws
behind_space b rest ws is line = by (begun b rest ws line)
  where
    by : Begun b rest ws → SpellsLine rest ws
    by (at_space e more) = more
    by (at_bare h more) = absurd (both_ways (is_bare_byte b) (ap is_bare_byte is) h)
    by (at_quote e more) = absurd (omega (arith, is, e))

pub opened : (b : ℕ) (rest : Text) (ws : List Text) → b ≡ 0x22 → GoesOnQuoted [] rest ws → SpellsLine (b ∷ rest) ws
opened b rest ws is g =
    subst (SpellsLine (b ∷ rest)) (sym g.words_are)
    (word {s = 0x22 ∷ g.inner ++ 0x22 ∷ []} {t = g.behind} ((λ i. is i ∷ g.split i) ∙ ap (λ x. 0x22 ∷ x) (sym (append_assoc g.inner (0x22 ∷ []) g.behind))) (quoted g.spells refl) g.ends g.line)

pub behind_opening : (b : ℕ) (rest : Text) (ws : List Text) → b ≡ 0x22 → SpellsLine (b ∷ rest) ws → GoesOnQuoted [] rest ws
behind_opening b rest ws is line = by (begun b rest ws line)
  where
    by : Begun b rest ws → GoesOnQuoted [] rest ws
    by (at_space e more) = absurd (omega (arith, is, e))
    by (at_bare h more) = absurd (both_ways (is_bare_byte b) (ap is_bare_byte is) h)
    by (at_quote e more) = more

pub bare_begun : (b : ℕ) (rest : Text) (ws : List Text) → IsTrue (is_bare_byte b) → GoesOnBare (b ∷ []) rest ws → SpellsLine (b ∷ rest) ws
bare_begun b rest ws h g =
    subst (SpellsLine (b ∷ rest)) (sym g.words_are)
    (word {s = b ∷ g.more} {t = g.behind} (ap (λ x. b ∷ x) g.split) (bare (and_from (nat_lt 0 (length (b ∷ g.more))) (list_all is_bare_byte (b ∷ g.more)) (lt-ltb 0 (length (b ∷ g.more)) (omega arith)) (and_from (is_bare_byte b) (list_all is_bare_byte g.more) h g.bytes))) g.ends g.line)

pub behind_bare : (b : ℕ) (rest : Text) (ws : List Text) → IsTrue (is_bare_byte b) → SpellsLine (b ∷ rest) ws → GoesOnBare (b ∷ []) rest ws
behind_bare b rest ws is line = by (begun b rest ws line)
  where
    by : Begun b rest ws → GoesOnBare (b ∷ []) rest ws
    by (at_space e more) = absurd (both_ways (is_bare_byte b) (ap is_bare_byte e) is)
    by (at_bare h more) = more
    by (at_quote e more) = absurd (both_ways (is_bare_byte b) (ap is_bare_byte e) is)

-- ---- in a word without quotes

-- how it goes on with the byte
pub data BareGoesOn (begun : Text) (b : ℕ) (rest : Text) (ws : List Text) : Type 0 where
  bare_ends : (later : List Text) → b ≡ 0x20 → ws ≡ begun ∷ later → SpellsLine rest later → BareGoesOn begun b rest ws
  bare_grows : IsTrue (is_bare_byte b) → GoesOnBare (begun ++ b ∷ []) rest ws → BareGoesOn begun b rest ws

bare_from : (begun : Text) (b : ℕ) (rest : Text) (ws : List Text) (more behind : Text) (others : List Text) → IsTrue (list_all is_bare_byte more) → b ∷ rest ≡ more ++ behind → EndsWord behind → SpellsLine behind others
    → ws ≡ (begun ++ more) ∷ others → BareGoesOn begun b rest ws
bare_from begun b rest ws [] [] others h e ends line is = cc
bare_from begun b rest ws [] (c ∷ behind) others h e ends line is =
    let head : b ≡ c = cc in
    let tail : behind ≡ rest = cc in
    bare_ends others (head ∙ ends) (is ∙ ap (λ t. t ∷ others) (append-nil begun)) (subst (λ t. SpellsLine t others) tail (behind_space c behind others ends line))
bare_from begun b rest ws (c ∷ more) behind others h e ends line is =
    let head : c ≡ b = cc in
    let tail : rest ≡ more ++ behind = cc in
    let bytes = and_parts (is_bare_byte c) (list_all is_bare_byte more) h in
    bare_grows (ap is_bare_byte (sym head) ∙ bytes.0) (record {
      more = more;
      behind = behind;
      others = others;
      bytes = bytes.1;
      split = tail;
      ends = ends;
      line = line;
      words_are = is ∙ (λ i. (begun ++ head i ∷ more) ∷ others) ∙ ap (λ t. t ∷ others) (sym (append_assoc begun (b ∷ []) more));
    })

pub bare_goes_on : (begun : Text) (b : ℕ) (rest : Text) (ws : List Text) → GoesOnBare begun (b ∷ rest) ws → BareGoesOn begun b rest ws
bare_goes_on begun b rest ws g = bare_from begun b rest ws g.more g.behind g.others g.bytes g.split g.ends g.line g.words_are

pub bare_ended : (begun : Text) (b : ℕ) (rest : Text) (ws : List Text) → b ≡ 0x20 → SpellsLine rest ws → GoesOnBare begun (b ∷ rest) (begun ∷ ws)
bare_ended begun b rest ws is line = record {
  more = [];
  behind = b ∷ rest;
  others = ws;
  bytes = refl;
  split = refl;
  ends = is;
  line = spaced b rest ws is line;
  words_are = ap (λ t. t ∷ ws) (sym (append-nil begun));
}

pub behind_bare_word : (begun : Text) (b : ℕ) (rest : Text) (ws : List Text) → b ≡ 0x20 → GoesOnBare begun (b ∷ rest) ws → (later : List Text) × (ws ≡ begun ∷ later) × SpellsLine rest later
behind_bare_word begun b rest ws is g = by (bare_goes_on begun b rest ws g)
  where
    by : BareGoesOn begun b rest ws → (later : List Text) × (ws ≡ begun ∷ later) × SpellsLine rest later
    by (bare_ends later e words line) = (later, words, line)
    by (bare_grows h more) = absurd (both_ways (is_bare_byte b) (ap is_bare_byte is) h)

pub bare_grown : (begun grown : Text) (b : ℕ) (rest : Text) (ws : List Text) → IsTrue (is_bare_byte b) → grown ≡ begun ++ b ∷ [] → GoesOnBare grown rest ws → GoesOnBare begun (b ∷ rest) ws
bare_grown begun grown b rest ws h is g = record {
  more = b ∷ g.more;
  behind = g.behind;
  others = g.others;
  bytes = and_from (is_bare_byte b) (list_all is_bare_byte g.more) h g.bytes;
  split = ap (λ t. b ∷ t) g.split;
  ends = g.ends;
  line = g.line;
  words_are = g.words_are ∙ ap (λ t. t ∷ g.others) (ap (λ t. t ++ g.more) is ∙ append_assoc begun (b ∷ []) g.more);
}

pub behind_bare_byte : (begun grown : Text) (b : ℕ) (rest : Text) (ws : List Text) → IsTrue (is_bare_byte b) → grown ≡ begun ++ b ∷ [] → GoesOnBare begun (b ∷ rest) ws → GoesOnBare grown rest ws
behind_bare_byte begun grown b rest ws is grows g = by (bare_goes_on begun b rest ws g)
  where
    by : BareGoesOn begun b rest ws → GoesOnBare grown rest ws
    by (bare_ends later e words line) = absurd (both_ways (is_bare_byte b) (ap is_bare_byte e) is)
    by (bare_grows h more) = subst (λ t. GoesOnBare t rest ws) (sym grows) more

pub none_in_bare : (begun : Text) (b : ℕ) (rest : Text) (ws : List Text) → (b ≡ 0x20 → ⊥) → is_bare_byte b ≡ false → GoesOnBare begun (b ∷ rest) ws → ⊥
none_in_bare begun b rest ws no_space no_bare g = by (bare_goes_on begun b rest ws g)
  where
    by : BareGoesOn begun b rest ws → ⊥
    by (bare_ends later e words line) = no_space e
    by (bare_grows h more) = both_ways (is_bare_byte b) no_bare h

-- ---- between quotes

-- how it goes on with the byte
pub data QuotedGoesOn (begun : Text) (b : ℕ) (rest : Text) (ws : List Text) : Type 0 where
  quote_ends : (later : List Text) → b ≡ 0x22 → ws ≡ begun ∷ later → EndsWord rest → SpellsLine rest later → QuotedGoesOn begun b rest ws
  quote_grows : IsTrue (is_plain b) → GoesOnQuoted (begun ++ b ∷ []) rest ws → QuotedGoesOn begun b rest ws
  quote_escapes : b ≡ 0x5C → GoesOnEscaped begun rest ws → QuotedGoesOn begun b rest ws

quoted_from : (begun : Text) (b : ℕ) (rest : Text) (ws : List Text) (inner more behind : Text) (others : List Text) → SpellsInner inner more → b ∷ rest ≡ inner ++ 0x22 ∷ behind → EndsWord behind → SpellsLine behind others
    → ws ≡ (begun ++ more) ∷ others → QuotedGoesOn begun b rest ws
quoted_from begun b rest ws inner more behind others nothing e ends line is =
    let head : b ≡ 0x22 = cc in
    let tail : behind ≡ rest = cc in
    quote_ends others head (is ∙ ap (λ t. t ∷ others) (append-nil begun)) (subst EndsWord tail ends) (subst (λ t. SpellsLine t others) tail line)
quoted_from begun b rest ws inner more behind others (plain {b = c} {t = t} {w = w} h spells) e ends line is =
    let head : c ≡ b = cc in
    let tail : rest ≡ t ++ 0x22 ∷ behind = cc in
    quote_grows (ap is_plain (sym head) ∙ h) (record {
      inner = t;
      more = w;
      behind = behind;
      others = others;
      spells = spells;
      split = tail;
      ends = ends;
      line = line;
      words_are = is ∙ (λ i. (begun ++ head i ∷ w) ∷ others) ∙ ap (λ t. t ∷ others) (sym (append_assoc begun (b ∷ []) w));
    })
quoted_from begun b rest ws inner more behind others (escaped {b = c} {t = t} {w = w} h spells) e ends line is =
    let head : b ≡ 0x5C = cc in
    let tail : rest ≡ c ∷ t ++ 0x22 ∷ behind = cc in
    quote_escapes head (record {
      byte = c;
      behind = t ++ 0x22 ∷ behind;
      stands = h;
      split = tail;
      then = record {
        inner = t;
        more = w;
        behind = behind;
        others = others;
        spells = spells;
        split = refl;
        ends = ends;
        line = line;
        words_are = is ∙ ap (λ t. t ∷ others) (sym (append_assoc begun (c ∷ []) w));
      };
    })

pub quoted_goes_on : (begun : Text) (b : ℕ) (rest : Text) (ws : List Text) → GoesOnQuoted begun (b ∷ rest) ws → QuotedGoesOn begun b rest ws
quoted_goes_on begun b rest ws g = quoted_from begun b rest ws g.inner g.more g.behind g.others g.spells g.split g.ends g.line g.words_are

pub quote_closed : (begun : Text) (b : ℕ) (rest : Text) (ws : List Text) → b ≡ 0x22 → EndsWord rest → SpellsLine rest ws → GoesOnQuoted begun (b ∷ rest) (begun ∷ ws)
quote_closed begun b rest ws is ends line = record {
  inner = [];
  more = [];
  behind = rest;
  others = ws;
  spells = nothing;
  split = ap (λ x. x ∷ rest) is;
  ends = ends;
  line = line;
  words_are = ap (λ t. t ∷ ws) (sym (append-nil begun));
}

pub behind_closing : (begun : Text) (b : ℕ) (rest : Text) (ws : List Text) → b ≡ 0x22 → GoesOnQuoted begun (b ∷ rest) ws → (later : List Text) × (ws ≡ begun ∷ later) × (EndsWord rest × SpellsLine rest later)
behind_closing begun b rest ws is g = by (quoted_goes_on begun b rest ws g)
  where
    by : QuotedGoesOn begun b rest ws → (later : List Text) × (ws ≡ begun ∷ later) × (EndsWord rest × SpellsLine rest later)
    by (quote_ends later e words ends line) = (later, words, (ends, line))
    by (quote_grows h more) = absurd (both_ways (is_plain b) (ap is_plain is) h)
    by (quote_escapes e more) = absurd (omega (arith, is, e))

pub quote_grown : (begun grown : Text) (b : ℕ) (rest : Text) (ws : List Text) → IsTrue (is_plain b) → grown ≡ begun ++ b ∷ [] → GoesOnQuoted grown rest ws → GoesOnQuoted begun (b ∷ rest) ws
quote_grown begun grown b rest ws h is g = record {
  inner = b ∷ g.inner;
  more = b ∷ g.more;
  behind = g.behind;
  others = g.others;
  spells = plain h g.spells;
  split = ap (λ t. b ∷ t) g.split;
  ends = g.ends;
  line = g.line;
  words_are = g.words_are ∙ ap (λ t. t ∷ g.others) (ap (λ t. t ++ g.more) is ∙ append_assoc begun (b ∷ []) g.more);
}

pub behind_plain : (begun grown : Text) (b : ℕ) (rest : Text) (ws : List Text) → IsTrue (is_plain b) → grown ≡ begun ++ b ∷ [] → GoesOnQuoted begun (b ∷ rest) ws → GoesOnQuoted grown rest ws
behind_plain begun grown b rest ws is grows g = by (quoted_goes_on begun b rest ws g)
  where
    by : QuotedGoesOn begun b rest ws → GoesOnQuoted grown rest ws
    by (quote_ends later e words ends line) = absurd (both_ways (is_plain b) (ap is_plain e) is)
    by (quote_grows h more) = subst (λ t. GoesOnQuoted t rest ws) (sym grows) more
    by (quote_escapes e more) = absurd (both_ways (is_plain b) (ap is_plain e) is)

pub quote_escaped : (begun : Text) (b : ℕ) (rest : Text) (ws : List Text) → b ≡ 0x5C → GoesOnEscaped begun rest ws → GoesOnQuoted begun (b ∷ rest) ws
quote_escaped begun b rest ws is g =
    let then = g.then in
    record {
      inner = 0x5C ∷ g.byte ∷ then.inner;
      more = g.byte ∷ then.more;
      behind = then.behind;
      others = then.others;
      spells = escaped g.stands then.spells;
      split = (λ i. is i ∷ g.split i) ∙ ap (λ t. 0x5C ∷ g.byte ∷ t) then.split;
      ends = then.ends;
      line = then.line;
      words_are = then.words_are ∙ ap (λ t. t ∷ then.others) (append_assoc begun (g.byte ∷ []) then.more);
    }

pub behind_escape : (begun : Text) (b : ℕ) (rest : Text) (ws : List Text) → b ≡ 0x5C → GoesOnQuoted begun (b ∷ rest) ws → GoesOnEscaped begun rest ws
behind_escape begun b rest ws is g = by (quoted_goes_on begun b rest ws g)
  where
    by : QuotedGoesOn begun b rest ws → GoesOnEscaped begun rest ws
    by (quote_ends later e words ends line) = absurd (omega (arith, is, e))
    by (quote_grows h more) = absurd (both_ways (is_plain b) (ap is_plain is) h)
    by (quote_escapes e more) = more

pub none_in_quotes : (begun : Text) (b : ℕ) (rest : Text) (ws : List Text) → (b ≡ 0x22 → ⊥) → (b ≡ 0x5C → ⊥) → is_plain b ≡ false → GoesOnQuoted begun (b ∷ rest) ws → ⊥
none_in_quotes begun b rest ws no_quote no_escape no_plain g = by (quoted_goes_on begun b rest ws g)
  where
    by : QuotedGoesOn begun b rest ws → ⊥
    by (quote_ends later e words ends line) = no_quote e
    by (quote_grows h more) = both_ways (is_plain b) no_plain h
    by (quote_escapes e more) = no_escape e

-- ---- at the end of the line

none_left : (line s t w : Text) → line ≡ [] → line ≡ s ++ t → SpellsWord s w → ⊥
none_left line s t w none e (bare h) = by w (sym e ∙ none) h
  where
    by : (w : Text) → w ++ t ≡ [] → IsTrue (is_bare w) → ⊥
    by [] e h = both_ways (is_bare []) refl h
    by (b ∷ w) e h = cc
none_left line s t w none e (quoted {inner = inner} spells is) =
    let whole : 0x22 ∷ (inner ++ 0x22 ∷ [] ++ t) ≡ [] = sym (ap (λ x. x ++ t) is) ∙ sym e ∙ none in
    cc

-- a line of no bytes has no words
pub no_words : (line : Text) (ws : List Text) → SpellsLine line ws → line ≡ [] → ws ≡ []
no_words line ws line_end e = refl
no_words line ws (space more) e = cc
no_words line ws (word {s = s} {t = t} {w = w} split spells ends more) e = absurd (none_left line s t w e split spells)

pub bare_ends_line : (begun : Text) → GoesOnBare begun [] (begun ∷ [])
bare_ends_line begun = record {
  more = [];
  behind = [];
  others = [];
  bytes = refl;
  split = refl;
  ends = tt;
  line = line_end;
  words_are = ap (λ t. t ∷ []) (sym (append-nil begun));
}

pub last_bare : (begun : Text) (ws : List Text) → GoesOnBare begun [] ws → ws ≡ begun ∷ []
last_bare begun ws g = by g.more g.behind g.others g.split g.line g.words_are
  where
    by : (more behind : Text) (others : List Text) → [] ≡ more ++ behind → SpellsLine behind others → ws ≡ (begun ++ more) ∷ others → ws ≡ begun ∷ []
    by [] behind others e line is = is ∙ (λ i. append-nil begun i ∷ no_words behind others line (sym e) i)
    by (b ∷ more) behind others e line is = cc

-- ---- a word that ends

pub ended : (before after : List Text) (pushed begun : Text) → after ≡ before ++ pushed ∷ [] → pushed ≡ begun → after ≡ before ++ begun ∷ []
ended before after pushed begun is same = is ∙ ap (λ t. before ++ t ∷ []) same

pub none_quoted : (begun : Text) (ws : List Text) → GoesOnQuoted begun [] ws → ⊥
none_quoted begun ws g = by g.inner g.behind g.split
  where
    by : (inner behind : Text) → [] ≡ inner ++ 0x22 ∷ behind → ⊥
    by [] behind e = cc
    by (b ∷ inner) behind e = cc

pub none_escaped : (begun : Text) (ws : List Text) → GoesOnEscaped begun [] ws → ⊥
none_escaped begun ws g = let e = g.split in cc
