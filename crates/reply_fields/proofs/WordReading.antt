-- Reading a word and the byte that ends it.
use Rattle.std.proofs.Common.{◌≡◌, ℕ, ◌<◌, ◌≤◌, Bool, true, false, List, [], ◌∷◌, ◌++◌, length, take, get_or, refl, sym, ap, ◌∙◌, subst, arith, append_assoc, lt-ltb}
use Rattle.std.specs.Prelude.{◌||◌, ◌&&◌, ◌==◌, nat_lt}
use Rattle.std.specs.List.{list_all, flat_map}
use Rattle.std.proofs.lemmas.Bool.{and_parts, and_from, false≢true, eqb-true}
use Rattle.std.proofs.lemmas.List.{append-nil, take_more}
use Rattle.std.proofs.lemmas.List.Concat.{flat_map-append}
use Rattle.std.proofs.lemmas.List.Folds.{list_all-append}
use Rattle.grid_model.specs.Names.{Text}
use Rattle.grid_model.specs.Words.{is_bare, is_bare_byte, is_escaped, is_word_byte, quote_byte, quoted_word}
use Rattle.grid_model.specs.Writable.{is_word}
use Rattle.reply_fields.specs.Spelled.{IsEndedWord, IsInnerByte, is_word_end, is_among_bytes}
use Rattle.reply_fields.proofs.Codes.{IsCode}
use Rattle.reply_fields.proofs.Decimals.{among_all}

-- ---- how a word is written

pub written_bare : (w : Text) → is_bare w ≡ true → quoted_word w ≡ w
written_bare w e = ap (λ (x : Bool). elim x [ true ↦ w | false ↦ 0x22 ∷ flat_map quote_byte w ++ 0x22 ∷ [] ]) e

pub written_quoted : (w : Text) → is_bare w ≡ false → quoted_word w ≡ 0x22 ∷ flat_map quote_byte w ++ 0x22 ∷ []
written_quoted w e = ap (λ (x : Bool). elim x [ true ↦ w | false ↦ 0x22 ∷ flat_map quote_byte w ++ 0x22 ∷ [] ]) e

quote_escaped : (b : ℕ) → is_escaped b ≡ true → quote_byte b ≡ 0x5C ∷ b ∷ []
quote_escaped b e = ap (λ (x : Bool). elim x [ true ↦ 0x5C ∷ b ∷ [] | false ↦ b ∷ [] ]) e

quote_plain : (b : ℕ) → is_escaped b ≡ false → quote_byte b ≡ b ∷ []
quote_plain b e = ap (λ (x : Bool). elim x [ true ↦ 0x5C ∷ b ∷ [] | false ↦ b ∷ [] ]) e

-- a byte that passes a test is not one that fails it
pub tells : (p : ℕ → Bool) (a b : ℕ) → p a ≡ true → p b ≡ false → a ≡ b → ⊥
tells p a b passes fails e = false≢true (sym fails ∙ ap p (sym e) ∙ passes)

-- ---- words without quotes

-- what is not empty, and made of bare bytes
pub bare_word_parts : (w : Text) → is_bare w ≡ true → (0 < length w) × (list_all is_bare_byte w ≡ true)
bare_word_parts [] h = absurd (false≢true h)
bare_word_parts (b ∷ w) h = (omega arith, (and_parts (nat_lt 0 (length (b ∷ w))) (list_all is_bare_byte (b ∷ w)) h).1)

pub bare_from_parts : (w : Text) → 0 < length w → list_all is_bare_byte w ≡ true → is_bare w ≡ true
bare_from_parts [] some h = absurd (omega (arith, some))
bare_from_parts (b ∷ w) some h = and_from (nat_lt 0 (length (b ∷ w))) (list_all is_bare_byte (b ∷ w)) (lt-ltb 0 (length (b ∷ w)) some) h

-- bare bytes, and what is none behind them
pub same_bare : (v w : Text) (c b : ℕ) (x y : Text) → list_all is_bare_byte v ≡ true → list_all is_bare_byte w ≡ true → is_bare_byte c ≡ false → is_bare_byte b ≡ false → v ++ c ∷ x ≡ w ++ b ∷ y → (v ≡ w) × (c ≡ b)
same_bare [] [] c b x y g h mine also e = (refl, cc)
same_bare [] (d ∷ w) c b x y g h mine also e = let first : d ≡ c = cc in absurd (tells is_bare_byte d c (and_parts (is_bare_byte d) (list_all is_bare_byte w) h).0 mine first)
same_bare (d ∷ v) [] c b x y g h mine also e = let first : d ≡ b = cc in absurd (tells is_bare_byte d b (and_parts (is_bare_byte d) (list_all is_bare_byte v) g).0 also first)
same_bare (d ∷ v) (f ∷ w) c b x y g h mine also e =
    let first : d ≡ f = cc in
    let rest = same_bare v w c b x y (and_parts (is_bare_byte d) (list_all is_bare_byte v) g).1 (and_parts (is_bare_byte f) (list_all is_bare_byte w) h).1 mine also cc in
    ((λ i. first i ∷ rest.0 i), rest.1)

-- ---- between quotes

-- what goes on behind the first bytes of a word goes on with the rest of that word
pub quote_prefix : (acc w x y : Text) → flat_map quote_byte acc ++ x ≡ flat_map quote_byte w ++ 0x22 ∷ y → (more : Text) × (w ≡ acc ++ more) × (x ≡ flat_map quote_byte more ++ 0x22 ∷ y)
quote_prefix [] w x y e = (w, refl, e)
quote_prefix (a ∷ acc) [] x y e = by (is_escaped a) refl
  where
    by : (b : Bool) → is_escaped a ≡ b → (more : Text) × ([] ≡ a ∷ acc ++ more) × (x ≡ flat_map quote_byte more ++ 0x22 ∷ y)
    by true esc =
        let f : 0x5C ∷ a ∷ (flat_map quote_byte acc ++ x) ≡ 0x22 ∷ y = ap (λ t. t ++ flat_map quote_byte acc ++ x) (sym (quote_escaped a esc)) ∙ e in
        let first : ◌≡◌ {A = ℕ} 0x5C 0x22 = cc in absurd (omega (arith, first))
    by false plain =
        let f : a ∷ (flat_map quote_byte acc ++ x) ≡ 0x22 ∷ y = ap (λ t. t ++ flat_map quote_byte acc ++ x) (sym (quote_plain a plain)) ∙ e in
        let first : 0x22 ≡ a = cc in absurd (tells is_escaped 0x22 a refl plain first)
quote_prefix (a ∷ acc) (b ∷ w) x y e = by (λ f. quote_prefix acc w x y f) (is_escaped a) (is_escaped b) refl refl
  where
    by : (flat_map quote_byte acc ++ x ≡ flat_map quote_byte w ++ 0x22 ∷ y → (more : Text) × (w ≡ acc ++ more) × (x ≡ flat_map quote_byte more ++ 0x22 ∷ y))
        → (p q : Bool) → is_escaped a ≡ p → is_escaped b ≡ q → (more : Text) × (b ∷ w ≡ a ∷ acc ++ more) × (x ≡ flat_map quote_byte more ++ 0x22 ∷ y)
    by rest true true esc also =
        let f : 0x5C ∷ a ∷ (flat_map quote_byte acc ++ x) ≡ 0x5C ∷ b ∷ (flat_map quote_byte w ++ 0x22 ∷ y) =
        ap (λ t. t ++ flat_map quote_byte acc ++ x) (sym (quote_escaped a esc)) ∙ e ∙ ap (λ t. t ++ flat_map quote_byte w ++ 0x22 ∷ y) (quote_escaped b also) in
        let same : b ≡ a = cc in
        let more = rest cc in
        (more.0, (λ i. same i ∷ more.1 i), more.2)
    by rest false false plain also =
        let f : a ∷ (flat_map quote_byte acc ++ x) ≡ b ∷ (flat_map quote_byte w ++ 0x22 ∷ y) =
        ap (λ t. t ++ flat_map quote_byte acc ++ x) (sym (quote_plain a plain)) ∙ e ∙ ap (λ t. t ++ flat_map quote_byte w ++ 0x22 ∷ y) (quote_plain b also) in
        let same : b ≡ a = cc in
        let more = rest cc in
        (more.0, (λ i. same i ∷ more.1 i), more.2)
    by rest true false esc also =
        let f : 0x5C ∷ a ∷ (flat_map quote_byte acc ++ x) ≡ b ∷ (flat_map quote_byte w ++ 0x22 ∷ y) =
        ap (λ t. t ++ flat_map quote_byte acc ++ x) (sym (quote_escaped a esc)) ∙ e ∙ ap (λ t. t ++ flat_map quote_byte w ++ 0x22 ∷ y) (quote_plain b also) in
        let first : 0x5C ≡ b = cc in absurd (tells is_escaped 0x5C b refl also first)
    by rest false true plain also =
        let f : a ∷ (flat_map quote_byte acc ++ x) ≡ 0x5C ∷ b ∷ (flat_map quote_byte w ++ 0x22 ∷ y) =
        ap (λ t. t ++ flat_map quote_byte acc ++ x) (sym (quote_plain a plain)) ∙ e ∙ ap (λ t. t ++ flat_map quote_byte w ++ 0x22 ∷ y) (quote_escaped b also) in
        let first : 0x5C ≡ a = cc in absurd (tells is_escaped 0x5C a refl plain first)

-- how the rest of a word goes on at a byte
pub data GoesOn (c : ℕ) (x more y : Text) : Type 0 where
  closes : c ≡ 0x22 → more ≡ [] → x ≡ y → GoesOn c x more y
  escape : (d : ℕ) (u : Text) → c ≡ 0x5C → is_escaped d ≡ true → x ≡ d ∷ u → GoesOn c x more y
  stands : (v : Text) → is_escaped c ≡ false → more ≡ c ∷ v → GoesOn c x more y

pub goes_on : (c : ℕ) (x more y : Text) → c ∷ x ≡ flat_map quote_byte more ++ 0x22 ∷ y → GoesOn c x more y
goes_on c x [] y e = let first : c ≡ 0x22 = cc in let rest : x ≡ y = cc in closes first refl rest
goes_on c x (a ∷ more) y e = by (is_escaped a) refl
  where
    by : (b : Bool) → is_escaped a ≡ b → GoesOn c x (a ∷ more) y
    by true esc =
        let f : c ∷ x ≡ 0x5C ∷ a ∷ (flat_map quote_byte more ++ 0x22 ∷ y) = e ∙ ap (λ t. t ++ flat_map quote_byte more ++ 0x22 ∷ y) (quote_escaped a esc) in
        escape a (flat_map quote_byte more ++ 0x22 ∷ y) (cc) esc (cc)
    by false plain =
        let f : c ∷ x ≡ a ∷ (flat_map quote_byte more ++ 0x22 ∷ y) = e ∙ ap (λ t. t ++ flat_map quote_byte more ++ 0x22 ∷ y) (quote_plain a plain) in
        let first : a ≡ c = cc in
        stands more (ap is_escaped (sym first) ∙ plain) (ap (λ z. z ∷ more) first)

-- what is read of a word that begins with a quote
pub record Opened (acc x w : Text) (b : ℕ) : Type 0 where
  pub quotes : is_bare w ≡ false
  pub more : Text
  pub word_is : w ≡ acc ++ more
  pub rest_is : x ≡ flat_map quote_byte more ++ 0x22 ∷ b ∷ []

pub opened : (acc x w : Text) (b : ℕ) → 0x22 ∷ flat_map quote_byte acc ++ x ≡ quoted_word w ++ b ∷ [] → Opened acc x w b
opened acc x w b e = by (is_bare w) refl
  where
    by : (y : Bool) → is_bare w ≡ y → Opened acc x w b
    by true bare = absurd (starts w (bare_word_parts w bare) (e ∙ ap (λ t. t ++ b ∷ []) (written_bare w bare)))
      where
        starts : (w : Text) → (0 < length w) × (list_all is_bare_byte w ≡ true) → 0x22 ∷ flat_map quote_byte acc ++ x ≡ w ++ b ∷ [] → ⊥
        starts [] p f = omega (arith, p.0)
        starts (d ∷ w) p f = let first : d ≡ 0x22 = cc in tells is_bare_byte d 0x22 (and_parts (is_bare_byte d) (list_all is_bare_byte w) p.1).0 refl first
    by false quotes =
        let f : 0x22 ∷ (flat_map quote_byte acc ++ x) ≡ 0x22 ∷ (flat_map quote_byte w ++ 0x22 ∷ b ∷ []) = e ∙ ap (λ t. t ++ b ∷ []) (written_quoted w quotes) ∙ ap (λ t. 0x22 ∷ t) (append_assoc (flat_map quote_byte w) (0x22 ∷ []) (b ∷ [])) in
        let g = quote_prefix acc w x (b ∷ []) cc in
        record { quotes = quotes; more = g.0; word_is = g.1; rest_is = g.2 }

-- ---- the front of the rest is a quote and what stands behind it of a word

pub record Inside (rest : Text) (len : ℕ) (acc : Text) : Type 0 where
  pub short : len ≤ length rest
  pub front : take len rest ≡ 0x22 ∷ flat_map quote_byte acc
  pub words : is_word acc ≡ true

pub Inside-start : (rest : Text) (acc : Text) → 0 < length rest → get_or rest 0 0 ≡ 0x22 → acc ≡ [] → Inside rest 1 acc
Inside-start rest acc some first none = subst (Inside rest 1) (sym none) (record { short = omega (arith, some); front = take_more rest 0 0 some ∙ ap (λ b. b ∷ []) first; words = refl })

pub Inside-more : (rest acc more : Text) (len byte to : ℕ) → Inside rest len acc → IsInnerByte rest len byte to → more ≡ acc ++ byte ∷ [] → Inside rest to more
Inside-more rest acc more len byte to i b is = subst (Inside rest to) (sym is) (record {
  short = b.within;
  front = b.is ∙ ap (λ t. t ++ quote_byte byte) i.front ∙ ap (λ t. 0x22 ∷ t) (sym (flat_map-append quote_byte acc (byte ∷ []) ∙ ap (λ t. flat_map quote_byte acc ++ t) (append-nil (quote_byte byte))));
  words = list_all-append is_word_byte acc (byte ∷ []) ∙ and_from (is_word acc) (is_word_byte byte && true) i.words (and_from (is_word_byte byte) true b.may_stand refl);
})

written : (w : Text) (b : ℕ) (u : Text) → is_bare w ≡ true → quoted_word w ++ b ∷ [] ++ u ≡ w ++ b ∷ [] ++ u
written w b u f = ap (λ x. x ++ b ∷ [] ++ u) (written_bare w f)

-- what begins with a quote is no word without quotes
mixed : (v w : Text) (a b : ℕ) (x y : Text) → is_bare v ≡ true → v ++ a ∷ [] ++ x ≡ (0x22 ∷ flat_map quote_byte w ++ 0x22 ∷ []) ++ b ∷ [] ++ y → ⊥
mixed [] w a b x y f e = false≢true f
mixed (d ∷ v) w a b x y f e = let first : d ≡ 0x22 = cc in tells is_bare_byte d 0x22 (and_parts (is_bare_byte d) (list_all is_bare_byte v) (bare_word_parts (d ∷ v) f).1).0 refl first

-- what may end a word
pub record Blanks (ends : List ℕ) : Type 0 where
  pub any : 0 < length ends
  pub all : list_all is_word_end ends ≡ true

pub not_bare : (b : ℕ) → is_word_end b ≡ true → is_bare_byte b ≡ false
not_bare b h = by (b == 0x20) refl
  where
    by : (x : Bool) → (b == 0x20) ≡ x → is_bare_byte b ≡ false
    by true e = ap is_bare_byte (eqb-true b 0x20 e)
    by false e = ap is_bare_byte (eqb-true b 0x0A (ap (λ x. x || b == 0x0A) (sym e) ∙ h))

module _ (ends : List ℕ) (blanks : Blanks ends) where
  pub first_end : ℕ
  first_end = get_or ends 0 0

  pub ended : (b : ℕ) → is_among_bytes ends b ≡ true → is_bare_byte b ≡ false
  ended b h = not_bare b (among_all is_word_end ends b blanks.all h)

  pub IsCode-word : IsCode (IsEndedWord ends)
  IsCode-word = record { only = λ s t u v a b e p q. only s t u v a b e p q (is_bare a.0) (is_bare b.0) refl refl }
    where
      only : (s t u v : Text) (a b : Text × ℕ) → s ++ u ≡ t ++ v → IsEndedWord ends s a → IsEndedWord ends t b → (x y : Bool) → is_bare a.0 ≡ x → is_bare b.0 ≡ y → (s ≡ t) × (a ≡ b)
      only s t u v a b e p q true true f g =
          let whole : a.0 ++ a.1 ∷ u ≡ b.0 ++ b.1 ∷ v =
          sym (append_assoc a.0 (a.1 ∷ []) u) ∙ ap (λ x. x ++ a.1 ∷ [] ++ u) (sym (written_bare a.0 f)) ∙ ap (λ x. x ++ u) (sym p.is) ∙ e ∙ ap (λ x. x ++ v) q.is ∙ ap (λ x. x ++ b.1 ∷ [] ++ v) (written_bare b.0 g) ∙ append_assoc b.0 (b.1 ∷ []) v in
          let same = same_bare a.0 b.0 a.1 b.1 u v (bare_word_parts a.0 f).1 (bare_word_parts b.0 g).1 (ended a.1 p.ends_is) (ended b.1 q.ends_is) whole in
          (p.is ∙ (λ i. quoted_word (same.0 i) ++ same.1 i ∷ []) ∙ sym q.is, (λ i. (same.0 i, same.1 i)))
      only s t u v a b e p q false false f g =
          let one : (0x22 ∷ flat_map quote_byte a.0 ++ 0x22 ∷ []) ++ a.1 ∷ [] ++ u ≡ (0x22 ∷ flat_map quote_byte b.0 ++ 0x22 ∷ []) ++ b.1 ∷ [] ++ v =
          ap (λ x. x ++ a.1 ∷ [] ++ u) (sym (written_quoted a.0 f)) ∙ ap (λ x. x ++ u) (sym p.is) ∙ e ∙ ap (λ x. x ++ v) q.is ∙ ap (λ x. x ++ b.1 ∷ [] ++ v) (written_quoted b.0 g) in
          let whole : 0x22 ∷ (flat_map quote_byte a.0 ++ 0x22 ∷ a.1 ∷ u) ≡ 0x22 ∷ (flat_map quote_byte b.0 ++ 0x22 ∷ b.1 ∷ v) = sym (closed a.0 a.1 u) ∙ one ∙ closed b.0 b.1 v in
          let more = quote_prefix a.0 b.0 (0x22 ∷ a.1 ∷ u) (b.1 ∷ v) cc in
          let goes = goes_on 0x22 (a.1 ∷ u) more.0 (b.1 ∷ v) more.2 in
          let same = finish a.1 b.1 u v more.0 goes in
          let words : b.0 ≡ a.0 = more.1 ∙ ap (λ x. a.0 ++ x) same.0 ∙ append-nil a.0 in
          (p.is ∙ (λ i. quoted_word (sym words i) ++ same.1 i ∷ []) ∙ sym q.is, (λ i. (sym words i, same.1 i)))
        where
          closed : (w : Text) (b : ℕ) (u : Text) → (0x22 ∷ flat_map quote_byte w ++ 0x22 ∷ []) ++ b ∷ [] ++ u ≡ 0x22 ∷ (flat_map quote_byte w ++ 0x22 ∷ b ∷ u)
          closed w b u = append_assoc (0x22 ∷ flat_map quote_byte w ++ 0x22 ∷ []) (b ∷ []) u ∙ ap (λ x. 0x22 ∷ x) (append_assoc (flat_map quote_byte w) (0x22 ∷ []) (b ∷ u))

          finish : (a b : ℕ) (u v more : Text) → GoesOn 0x22 (a ∷ u) more (b ∷ v) → (more ≡ []) × (a ≡ b)
          finish a b u v more (closes c none rest) = (none, cc)
          finish a b u v more (escape d w c esc rest) = absurd (omega (arith, c))
          finish a b u v more (stands w plain is) = absurd (false≢true (sym plain))
      only s t u v a b e p q true false f g = absurd (mixed a.0 b.0 a.1 b.1 u v f (sym (written a.0 a.1 u f) ∙ ap (λ x. x ++ u) (sym p.is) ∙ e ∙ ap (λ x. x ++ v) q.is ∙ ap (λ x. x ++ b.1 ∷ [] ++ v) (written_quoted b.0 g)))
      only s t u v a b e p q false true f g = absurd (mixed b.0 a.0 b.1 a.1 v u g (sym (written b.0 b.1 v g) ∙ ap (λ x. x ++ v) (sym q.is) ∙ sym e ∙ ap (λ x. x ++ u) p.is ∙ ap (λ x. x ++ a.1 ∷ [] ++ u) (written_quoted a.0 f)))
