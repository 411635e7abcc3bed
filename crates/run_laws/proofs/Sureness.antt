-- What is sure of replies: a front of them, and all of them where all was handled whole.
use Rattle.std.proofs.Common.{◌≡◌, ℕ, ◌+◌, ◌≤◌, List, [], ◌∷◌, ◌++◌, length, take, sym, ap, ◌∙◌, length-append, arith}
use Rattle.std.proofs.lemmas.List.{append-nil}
use Rattle.grid_model.specs.Names.{Text}
use Rattle.grid_model.specs.Replies.{rest_lines}
use Rattle.grid_model.specs.ReplyTexts.{ArePieces, reply_text}
use Rattle.grid_model.specs.Working.{Done}
use Rattle.grid_headline.specs.Served.{AreSure, IsSure, joined_texts, whole, cut, all, but_last}
use Rattle.run_laws.proofs.Images.{pieces-have, rest_has}
use Rattle.run_laws.proofs.Known.{pieces-less}
use Rattle.run_laws.proofs.Lists.{pieces-length, pieces-many}
use Rattle.run_laws.proofs.Texts.{HaveBytes}

-- ---- one reply

module _ (known : ℕ → Type 0) (n : ℕ) (d : Done) (pieces : List Text) (sure : Text) where
  -- it is a front of the whole text
  pub sure-front : IsSure known n d pieces sure → (rest : Text) × (reply_text n d.reply pieces ≡ sure ++ rest)
  sure-front (whole are is) = ([], sym is ∙ sym (append-nil sure))
  sure-front (cut less are is) = (rest_lines n d.reply, ap (λ (t : Text). t ++ rest_lines n d.reply) (sym is))

  -- no text of a mark is empty
  pub sure-have : IsSure known n d pieces sure → HaveBytes pieces
  sure-have (whole are is) = pieces-have known n 0 d.sent d.reply.marks pieces are
  sure-have (cut less are is) = pieces-have known n 0 d.sent (take (length pieces) d.reply.marks) pieces are

  -- where all of the text is sure, each mark has a text
  pub sure-many : IsSure known n d pieces sure → length (reply_text n d.reply pieces) ≤ length sure → length pieces ≡ length d.reply.marks
  sure-many (whole are is) reaches = pieces-many known n 0 d.sent d.reply.marks pieces are
  sure-many (cut less are is) reaches =
      absurd (omega (arith, reaches, ap length is, length-append (joined_texts pieces) (rest_lines n d.reply), rest_has n d.reply))

  -- where each mark has its text, all is sure
  pub sure-whole : ArePieces known n d.sent 0 d.reply.marks pieces → IsSure known n d pieces sure → sure ≡ reply_text n d.reply pieces
  sure-whole all_are (whole are is) = is
  sure-whole all_are (cut less are is) = absurd (omega (arith, less, pieces-many known n 0 d.sent d.reply.marks pieces all_are))

-- it is so where fewer slots are known
pub sure-less : (p q : ℕ → Type 0) → ((slot : ℕ) → q slot → p slot) → (n : ℕ) (d : Done) (pieces : List Text) (sure : Text)
    → IsSure p n d pieces sure → IsSure q n d pieces sure
sure-less p q less n d pieces sure (whole are is) = whole (pieces-less p q less n 0 d.sent d.reply.marks pieces are) is
sure-less p q less n d pieces sure (cut few are is) = cut few (pieces-less p q less n 0 d.sent (take (length pieces) d.reply.marks) pieces are) is

-- ---- all replies

-- each request has its texts
pub sure-pieces : (known : ℕ → Type 0) (done : List Done) (pieces : List (List Text)) (sure : Text) → AreSure known done pieces sure
    → length pieces ≡ length done
sure-pieces known done pieces sure (all are is) = pieces-length known 1 done pieces are
sure-pieces known done pieces sure (but_last front last before texts of_last done_is pieces_is are one is) =
    omega (
      arith,
      ap length done_is,
      ap length pieces_is,
      length-append front (last ∷ []),
      length-append before (texts ∷ []),
      pieces-length known 1 front before are,
    )
