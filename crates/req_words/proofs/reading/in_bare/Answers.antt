use Rattle.std.proofs.Common.{[], ◌∷◌, refl, sym, ◌∙◌}
use Rattle.std.specs.Prelude.{IsTrue}
use Rattle.grid_model.specs.Words.{is_bare_byte}
use Rattle.std.proofs.lemmas.List.{append-nil}
use Rattle.req_words.proofs.Steps.{ended, bare_ended, behind_bare_word, bare_grown, behind_bare_byte, none_in_bare}
use Rattle.req_words.proofs.reading.in_bare.Goals as goal

pub returns-then-byte-eq32 : goal.returns-then-byte-eq32
returns-then-byte-eq32 c =
    let begun = c.args.word.items in (
      begun ∷ [],
      ended c.args.words.now.items c.push.new.self.items c.from_vec.result begun c.in_ok-push.ensures.items c.from_vec.ensures,
      record {
        to = λ rest ws line. bare_ended begun c.args.byte rest ws c.if-byte-eq32.true line;
        from = λ rest ws g. behind_bare_word begun c.args.byte rest ws c.if-byte-eq32.true g;
      },
    )

pub returns-then-not-is_bare_byte : goal.returns-then-not-is_bare_byte
returns-then-not-is_bare_byte c =
    ([], sym (append-nil c.args.words.now.items), λ rest ws. none_in_bare c.args.word.items c.args.byte rest ws c.if-byte-eq32.false (sym c.is_bare_byte.ensures ∙ c.if-not-is_bare_byte.true))

pub returns : goal.returns
returns c =
    let begun = c.args.word.items in
    let grown = c.in_ok-push-2.ensures.items in
    let stands : IsTrue (is_bare_byte c.args.byte) = sym c.is_bare_byte.ensures ∙ c.if-not-is_bare_byte.false in (
      [],
      sym (append-nil c.args.words.now.items),
      record {
        to = λ rest ws g. bare_grown begun c.push-2.new.self.items c.args.byte rest ws stands grown g;
        from = λ rest ws g. (ws, refl, behind_bare_byte begun c.push-2.new.self.items c.args.byte rest ws stands grown g);
      },
    )
