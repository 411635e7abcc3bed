-- A line spells at most one list of words.
use Rattle.std.proofs.Common.{◌≡◌, ℕ, true, false, List, [], ◌∷◌, ◌++◌, refl, sym, ap, ◌∙◌, subst, arith}
use Rattle.std.proofs.lemmas.Bool.{both_ways}
use Rattle.grid_model.specs.Names.{Text}
use Rattle.grid_model.specs.Words.{is_bare_byte, is_plain, SpellsLine}
use Rattle.req_words.specs.Going.{GoesOnBare, GoesOnQuoted, GoesOnEscaped}
use Rattle.req_words.proofs.Steps.{Begun, at_space, at_bare, at_quote, begun, BareGoesOn, bare_ends, bare_grows, bare_goes_on, QuotedGoesOn, quote_ends, quote_grows, quote_escapes, quoted_goes_on, no_words, last_bare, none_quoted, none_escaped}

-- at each place of it, the rest of the line gives at most one list
pub record IsReadOnce (rest : Text) : Type 0 where
  pub line : (v w : List Text) → SpellsLine rest v → SpellsLine rest w → v ≡ w
  pub bare : (begun : Text) (v w : List Text) → GoesOnBare begun rest v → GoesOnBare begun rest w → v ≡ w
  pub quoted : (begun : Text) (v w : List Text) → GoesOnQuoted begun rest v → GoesOnQuoted begun rest w → v ≡ w
  pub escaped : (begun : Text) (v w : List Text) → GoesOnEscaped begun rest v → GoesOnEscaped begun rest w → v ≡ w

-- two tests of a byte that do not agree
apart : (p : ℕ → _) (b k : ℕ) → p k ≡ false → b ≡ k → p b ≡ true → ⊥
apart p b k never is h = both_ways (p k) never (subst (λ x. p x ≡ true) is h)

module _ (b : ℕ) (rest : Text) (once : IsReadOnce rest) where
  of_line : (v w : List Text) → Begun b rest v → Begun b rest w → v ≡ w
  of_line v w (at_space e s) (at_space f t) = once.line v w s t
  of_line v w (at_space e s) (at_bare h t) = absurd (apart is_bare_byte b 0x20 refl e h)
  of_line v w (at_space e s) (at_quote f t) = absurd (omega (arith, e, f))
  of_line v w (at_bare g s) (at_space f t) = absurd (apart is_bare_byte b 0x20 refl f g)
  of_line v w (at_bare g s) (at_bare h t) = once.bare (b ∷ []) v w s t
  of_line v w (at_bare g s) (at_quote f t) = absurd (apart is_bare_byte b 0x22 refl f g)
  of_line v w (at_quote e s) (at_space f t) = absurd (omega (arith, e, f))
  of_line v w (at_quote e s) (at_bare h t) = absurd (apart is_bare_byte b 0x22 refl e h)
  of_line v w (at_quote e s) (at_quote f t) = once.quoted [] v w s t

  of_bare : (begun : Text) (v w : List Text) → BareGoesOn begun b rest v → BareGoesOn begun b rest w → v ≡ w
  of_bare begun v w (bare_ends x e is s) (bare_ends y f are t) = is ∙ ap (λ ws. begun ∷ ws) (once.line x y s t) ∙ sym are
  of_bare begun v w (bare_ends x e is s) (bare_grows h t) = absurd (apart is_bare_byte b 0x20 refl e h)
  of_bare begun v w (bare_grows g s) (bare_ends y f are t) = absurd (apart is_bare_byte b 0x20 refl f g)
  of_bare begun v w (bare_grows g s) (bare_grows h t) = once.bare (begun ++ b ∷ []) v w s t

  of_quoted : (begun : Text) (v w : List Text) → QuotedGoesOn begun b rest v → QuotedGoesOn begun b rest w → v ≡ w
  of_quoted begun v w (quote_ends x e is c s) (quote_ends y f are d t) = is ∙ ap (λ ws. begun ∷ ws) (once.line x y s t) ∙ sym are
  of_quoted begun v w (quote_ends x e is c s) (quote_grows h t) = absurd (apart is_plain b 0x22 refl e h)
  of_quoted begun v w (quote_ends x e is c s) (quote_escapes f t) = absurd (omega (arith, e, f))
  of_quoted begun v w (quote_grows g s) (quote_ends y f are d t) = absurd (apart is_plain b 0x22 refl f g)
  of_quoted begun v w (quote_grows g s) (quote_grows h t) = once.quoted (begun ++ b ∷ []) v w s t
  of_quoted begun v w (quote_grows g s) (quote_escapes f t) = absurd (apart is_plain b 0x5C refl f g)
  of_quoted begun v w (quote_escapes e s) (quote_ends y f are d t) = absurd (omega (arith, e, f))
  of_quoted begun v w (quote_escapes e s) (quote_grows h t) = absurd (apart is_plain b 0x5C refl e h)
  of_quoted begun v w (quote_escapes e s) (quote_escapes f t) = once.escaped begun v w s t

  same_byte : (begun : Text) (w : List Text) (c : ℕ) (behind : Text) → b ∷ rest ≡ c ∷ behind → GoesOnQuoted (begun ++ c ∷ []) behind w → GoesOnQuoted (begun ++ b ∷ []) rest w
  same_byte begun w c behind e g =
      let head : c ≡ b = cc in
      let tail : behind ≡ rest = cc in
      subst (λ x. GoesOnQuoted (begun ++ x ∷ []) rest w) head (subst (λ t. GoesOnQuoted (begun ++ c ∷ []) t w) tail g)

  once_more : IsReadOnce (b ∷ rest)
  once_more = record {
    line = λ v w s t. of_line v w (begun b rest v s) (begun b rest w t);
    bare = λ word v w s t. of_bare word v w (bare_goes_on word b rest v s) (bare_goes_on word b rest w t);
    quoted = λ word v w s t. of_quoted word v w (quoted_goes_on word b rest v s) (quoted_goes_on word b rest w t);
    escaped = λ word v w s t. once.quoted (word ++ b ∷ []) v w (same_byte word v s.byte s.behind s.split s.then) (same_byte word w t.byte t.behind t.split t.then);
  }

pub read_once : (line : Text) → IsReadOnce line
read_once [] = record {
  line = λ v w s t. no_words [] v s refl ∙ sym (no_words [] w t refl);
  bare = λ word v w s t. last_bare word v s ∙ sym (last_bare word w t);
  quoted = λ word v w s t. absurd (none_quoted word v s);
  escaped = λ word v w s t. absurd (none_escaped word v s);
}
read_once (b ∷ rest) = once_more b rest (read_once rest)

pub SpellsLine-unique : (line : Text) (v w : List Text) → SpellsLine line v → SpellsLine line w → v ≡ w
SpellsLine-unique line = (read_once line).line
