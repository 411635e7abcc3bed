use Rattle.std.proofs.Common.{◌≡◌, [], ◌∷◌, false, refl, sym, ◌∙◌}
use Rattle.std.specs.Prelude.{IsTrue, not, ◌==◌}
use Rattle.std.proofs.lemmas.Bool.{and_left, and_from, or_from, ne_eqb, not_from_false}
use Rattle.grid_model.specs.Words.{is_plain, is_word_byte, is_escaped}
use Rattle.std.proofs.lemmas.List.{append-nil}
use Rattle.req_words.proofs.Steps.{ended, quote_closed, behind_closing, quote_grown, behind_plain, quote_escaped, behind_escape, none_in_quotes}
use Rattle.req_words.proofs.reading.in_quoted.Goals as goal

pub returns-then-byte-eq34 : goal.returns-then-byte-eq34
returns-then-byte-eq34 c =
    let begun = c.args.word.items in (
      begun ∷ [],
      ended c.args.words.now.items c.push.new.self.items c.from_vec.result begun c.in_ok-push.ensures.items c.from_vec.ensures,
      record {
        to = λ rest ws line. quote_closed begun c.args.byte rest ws c.if-byte-eq34.true line.0 line.1;
        from = λ rest ws g. behind_closing begun c.args.byte rest ws c.if-byte-eq34.true g;
      },
    )

pub returns-then-byte-eq92 : goal.returns-then-byte-eq92
returns-then-byte-eq92 c =
    let begun = c.args.word.items in (
      [],
      sym (append-nil c.args.words.now.items),
      record {
        to = λ rest ws g. quote_escaped begun c.args.byte rest ws c.if-byte-eq92.true g;
        from = λ rest ws g. (ws, refl, behind_escape begun c.args.byte rest ws c.if-byte-eq92.true g);
      },
    )

pub returns-then-not-is_word_byte : goal.returns-then-not-is_word_byte
returns-then-not-is_word_byte c =
    ([], sym (append-nil c.args.words.now.items), λ rest ws. none_in_quotes c.args.word.items c.args.byte rest ws c.if-byte-eq34.false c.if-byte-eq92.false (and_left (is_word_byte c.args.byte) (not (is_escaped c.args.byte)) (sym c.is_word_byte.ensures ∙ c.if-not-is_word_byte.true)))

pub returns : goal.returns
returns c =
    let begun = c.args.word.items in
    let grown = c.in_ok-push-2.ensures.items in
    let apart : is_escaped c.args.byte ≡ false = or_from (c.args.byte == 0x22) (c.args.byte == 0x5C) (ne_eqb c.args.byte 0x22 c.if-byte-eq34.false) (ne_eqb c.args.byte 0x5C c.if-byte-eq92.false) in
    let stands : IsTrue (is_plain c.args.byte) =
    and_from (is_word_byte c.args.byte) (not (is_escaped c.args.byte)) (sym c.is_word_byte.ensures ∙ c.if-not-is_word_byte.false) (not_from_false (is_escaped c.args.byte) apart) in (
      [],
      sym (append-nil c.args.words.now.items),
      record {
        to = λ rest ws g. quote_grown begun c.push-2.new.self.items c.args.byte rest ws stands grown g;
        from = λ rest ws g. (ws, refl, behind_plain begun c.push-2.new.self.items c.args.byte rest ws stands grown g);
      },
    )
