-- What is written of a word spells it.
use Rattle.std.proofs.Common.{◌≡◌, ℕ, Bool, true, false, [], ◌∷◌, ◌++◌, refl, sym, ap, ◌∙◌, subst}
use Rattle.std.specs.Prelude.{not}
use Rattle.std.specs.List.{list_all, flat_map}
use Rattle.std.proofs.lemmas.Bool.{and_from, and_parts, not_from_false}
use Rattle.std.proofs.lemmas.List.{append-nil}
use Rattle.grid_model.specs.Names.{Text}
use Rattle.grid_model.specs.Words.{is_word_byte, is_bare, is_escaped, quote_byte, quoted_word, SpellsInner, nothing, plain, escaped, SpellsWord, bare, quoted, SpellsLine, line_end, word}

spells_inner : (w : Text) → list_all is_word_byte w ≡ true → SpellsInner (flat_map quote_byte w) w
spells_inner [] h = nothing
spells_inner (b ∷ w) h = by (spells_inner w bytes.1) (is_escaped b) refl
  where
    bytes : (is_word_byte b ≡ true) × (list_all is_word_byte w ≡ true)
    bytes = and_parts (is_word_byte b) (list_all is_word_byte w) h

    by : SpellsInner (flat_map quote_byte w) w → (x : Bool) → is_escaped b ≡ x → SpellsInner (elim x [ true ↦ 0x5C ∷ b ∷ [] | false ↦ b ∷ [] ] ++ flat_map quote_byte w) (b ∷ w)
    by rest true e = escaped e rest
    by rest false e = plain (and_from (is_word_byte b) (not (is_escaped b)) bytes.0 (not_from_false (is_escaped b) e)) rest

-- a word alone in its line
alone : (t w : Text) → SpellsWord t w → SpellsLine t (w ∷ [])
alone t w spells = word {s = t} {t = []} (sym (append-nil t)) spells tt line_end

pub quoted_word-bare : (w : Text) → is_bare w ≡ true → quoted_word w ≡ w
quoted_word-bare w e = ap (λ (x : Bool). elim x [ true ↦ w | false ↦ 0x22 ∷ flat_map quote_byte w ++ 0x22 ∷ [] ]) e

pub quoted_word-quoted : (w : Text) → is_bare w ≡ false → quoted_word w ≡ 0x22 ∷ flat_map quote_byte w ++ 0x22 ∷ []
quoted_word-quoted w e = ap (λ (x : Bool). elim x [ true ↦ w | false ↦ 0x22 ∷ flat_map quote_byte w ++ 0x22 ∷ [] ]) e

pub SpellsLine-quoted_word : (w : Text) → list_all is_word_byte w ≡ true → SpellsLine (quoted_word w) (w ∷ [])
SpellsLine-quoted_word w h = by (is_bare w) refl
  where
    by : (x : Bool) → is_bare w ≡ x → SpellsLine (quoted_word w) (w ∷ [])
    by true e = subst (λ t. SpellsLine t (w ∷ [])) (sym (quoted_word-bare w e)) (alone w w (bare e))
    by false e = subst (λ t. SpellsLine t (w ∷ [])) (sym (quoted_word-quoted w e)) (alone (0x22 ∷ flat_map quote_byte w ++ 0x22 ∷ []) w (quoted (spells_inner w h) refl))
