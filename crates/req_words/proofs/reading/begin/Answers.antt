use Rattle.std.proofs.Common.{◌≡◌, [], ◌∷◌, ◌++◌, refl, sym, ap, ◌∙◌, subst}
use Rattle.std.specs.Prelude.{IsTrue}
use Rattle.grid_model.specs.Words.{is_bare_byte}
use Rattle.req_words.specs.Going.{GoesOnQuoted, GoesOnBare}
use Rattle.req_words.proofs.Steps.{none_begun, spaced, behind_space, opened, behind_opening, bare_begun, behind_bare}
use Rattle.req_words.proofs.reading.begin.Goals as goal

pub returns-then-byte-eq32 : goal.returns-then-byte-eq32
returns-then-byte-eq32 c = record {
  to = λ rest ws line. spaced c.args.byte rest ws c.if-byte-eq32.true line;
  from = λ rest ws line. (ws, refl, behind_space c.args.byte rest ws c.if-byte-eq32.true line);
}

pub returns-then-byte-eq34 : goal.returns-then-byte-eq34
returns-then-byte-eq34 c = record {
  to = λ rest ws g. opened c.args.byte rest ws c.if-byte-eq34.true (subst (λ t. GoesOnQuoted t rest ws) c.new.ensures.items g);
  from = λ rest ws line. (ws, refl, subst (λ t. GoesOnQuoted t rest ws) (sym c.new.ensures.items) (behind_opening c.args.byte rest ws c.if-byte-eq34.true line));
}

pub returns-then-not-is_bare_byte : goal.returns-then-not-is_bare_byte
returns-then-not-is_bare_byte c = λ rest ws. none_begun c.args.byte rest ws c.if-byte-eq32.false c.if-byte-eq34.false (sym c.is_bare_byte.ensures ∙ c.if-not-is_bare_byte.true)

pub returns : goal.returns
returns c =
    let word : c.push.new.self.items ≡ c.args.byte ∷ [] = c.in_ok-push.ensures.items ∙ ap (λ t. t ++ c.args.byte ∷ []) c.new-word.ensures.items in
    let stands : IsTrue (is_bare_byte c.args.byte) = sym c.is_bare_byte.ensures ∙ c.if-not-is_bare_byte.false in
    record {
      to = λ rest ws g. bare_begun c.args.byte rest ws stands (subst (λ t. GoesOnBare t rest ws) word g);
      from = λ rest ws line. (ws, refl, subst (λ t. GoesOnBare t rest ws) (sym word) (behind_bare c.args.byte rest ws stands line));
    }
