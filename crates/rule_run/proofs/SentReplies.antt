-- The reply of a request that may send data in front of one of its marks: the texts of its marks, and what tells the first ones.
use Rattle.std.proofs.Common.{◌≡◌, ◌==◌, ℕ, suc, ◌+◌, ◌<◌, ◌≤◌, Bool, true, false, List, [], ◌∷◌, ◌++◌, Some, None, length, take, drop}
use Rattle.std.proofs.Common.{refl, sym, ap, ◌∙◌, subst, append_assoc, length-append, arith}
use Rattle.std.specs.Bool.{MatchBool}
use Rattle.std.specs.Prelude.{nat_le}
use Rattle.std.proofs.lemmas.Bool.{eq-eqb, leb-false, leb-true, ne_eqb}
use Rattle.std.proofs.lemmas.List.{append-nil, drop_at, length-map, map-append, take_at}
use Rattle.grid_model.specs.DataLines.{data_lines}
use Rattle.grid_model.specs.Names.{Text}
use Rattle.grid_model.specs.Replies.{mark_line, rest_lines}
use Rattle.grid_model.specs.ReplyTexts.{ArePieces, SendsBytes}
use Rattle.grid_model.specs.Working.{Done, Sent}
use Rattle.grid_model.specs.declared.marks.Mark.{Mark}
use Rattle.grid_headline.specs.Served.{joined_texts}
use Rattle.grid_headline.specs.Stops.{AreFirst}
use Rattle.run_laws.specs.Steps.{SureTexts}
use Rattle.service_run.specs.Steps.{lines_of}
use Rattle.rule_run.specs.Asked.{IsFrontOfReply, mark_lines, text_with}
use Rattle.rule_run.proofs.Replies.{front_of, joined_append, joined_lines, line_bytes, lines_front, untold_none}

-- ---- the text that tells marks

module _ (n count : ℕ) (data_sent : Text) where
  -- marks in front of the data
  pub text_before : (marks : List Mark) → length marks < count → text_with n count data_sent marks ≡ lines_of n marks
  text_before marks less = by (nat_le count (length marks)) refl
    where
      by : (b : Bool) → nat_le count (length marks) ≡ b
          → ◌≡◌ {A = Text} (elim b [
            | true ↦ lines_of n (take count marks) ++ (data_sent ++ lines_of n (drop count marks))
            | false ↦ lines_of n marks
          ]) (lines_of n marks)
      by true e = absurd (omega (arith, less, leb-true count (length marks) e))
      by false e = refl

  -- and marks behind them
  pub text_behind : (front back : List Mark) → length front ≡ count
      → text_with n count data_sent (front ++ back) ≡ lines_of n front ++ (data_sent ++ lines_of n back)
  text_behind front back many = by (nat_le count (length (front ++ back))) refl
    where
      by : (b : Bool) → nat_le count (length (front ++ back)) ≡ b
          → ◌≡◌ {A = Text} (elim b [
            | true ↦ lines_of n (take count (front ++ back)) ++ (data_sent ++ lines_of n (drop count (front ++ back)))
            | false ↦ lines_of n (front ++ back)
          ]) (lines_of n front ++ (data_sent ++ lines_of n back))
      by true e =
          (λ i. lines_of n (take_at front back count many i) ++ (data_sent ++ lines_of n (drop count (front ++ back))))
          ∙ ap (λ (ms : List Mark). lines_of n front ++ (data_sent ++ lines_of n ms)) (drop_at front back count many)
      by false e = absurd (omega (arith, many, length-append front back, leb-false count (length (front ++ back)) e))

  -- behind the data lines of marks are all that tells more of them
  pub text_more : (front more : List Mark) → length front ≡ count
      → text_with n count data_sent (front ++ more) ≡ text_with n count data_sent front ++ lines_of n more
  text_more front more many =
      text_behind front more many
      ∙ ap (λ (t : Text). lines_of n front ++ t) (ap (λ (t : Text). t ++ lines_of n more) (sym (append-nil data_sent)))
      ∙ sym (append_assoc (lines_of n front) (data_sent ++ []) (lines_of n more))
      ∙ ap (λ (t : Text). t ++ lines_of n more)
      (sym (text_behind front [] many) ∙ ap (λ (ms : List Mark). text_with n count data_sent ms) (append-nil front))

-- ---- the texts of marks

-- those of marks that send nothing
pub pieces_plain : (known : ℕ → Type 0) (n place : ℕ) (marks : List Mark) → ArePieces known n None place marks (mark_lines n marks)
pieces_plain known n place [] = tt
pieces_plain known n place (m ∷ marks) = (refl, pieces_plain known n (place + 1) marks)

module _ (known : ℕ → Type 0) (n : ℕ) (s : Sent) where
  -- those in front of the mark that sends
  pub pieces_before : (place : ℕ) (marks : List Mark) → place + length marks ≤ s.before → ArePieces known n (Some s) place marks (mark_lines n marks)
  pieces_before place [] le = tt
  pieces_before place (m ∷ marks) le = (
    subst (λ (b : Bool). MatchBool b ((bytes : List ℕ) × SendsBytes known s m bytes × (mark_line n m ≡ data_lines n bytes ++ mark_line n m))
        (mark_line n m ≡ mark_line n m)) (sym (ne_eqb place s.before (λ same. omega (arith, same, le)))) refl,
    pieces_before (place + 1) marks (omega (arith, le)),
  )

  -- and behind it
  pub pieces_behind : (place : ℕ) (marks : List Mark) → s.before < place → ArePieces known n (Some s) place marks (mark_lines n marks)
  pieces_behind place [] less = tt
  pieces_behind place (m ∷ marks) less = (
    subst (λ (b : Bool). MatchBool b ((bytes : List ℕ) × SendsBytes known s m bytes × (mark_line n m ≡ data_lines n bytes ++ mark_line n m))
        (mark_line n m ≡ mark_line n m)) (sym (ne_eqb place s.before (λ same. omega (arith, same, less)))) refl,
    pieces_behind (place + 1) marks (omega (arith, less)),
  )

-- the texts of marks, of which this one sends bytes
abbrev pub sent_pieces : ℕ → List Mark → Mark → List Mark → Text → List Text
sent_pieces n front m back bytes = mark_lines n front ++ (data_lines n bytes ++ mark_line n m) ∷ mark_lines n back

module _ (known : ℕ → Type 0) (n : ℕ) (s : Sent) (m : Mark) (back : List Mark) (bytes : Text) (sends : SendsBytes known s m bytes) where
  pub pieces_sent : (place : ℕ) (front : List Mark) → place + length front ≡ s.before
      → ArePieces known n (Some s) place (front ++ m ∷ back) (sent_pieces n front m back bytes)
  pieces_sent place [] many = (
    subst (λ (b : Bool). MatchBool b
        ((sent : List ℕ) × SendsBytes known s m sent × (data_lines n bytes ++ mark_line n m ≡ data_lines n sent ++ mark_line n m))
        (data_lines n bytes ++ mark_line n m ≡ mark_line n m)) (sym its_place) (bytes, sends, refl),
    pieces_behind known n s (place + 1) back (omega (arith, many)),
  )
    where
      its_place : (place == s.before) ≡ true
      its_place = eq-eqb place s.before (omega (arith, many))
  pieces_sent place (f ∷ front) many = (
    subst (λ (b : Bool). MatchBool b ((sent : List ℕ) × SendsBytes known s f sent × (mark_line n f ≡ data_lines n sent ++ mark_line n f))
        (mark_line n f ≡ mark_line n f)) (sym (ne_eqb place s.before (λ same. omega (arith, same, many)))) refl,
    pieces_sent (place + 1) front (omega (arith, many)),
  )

-- there are as many as marks
pub pieces_many : (known : ℕ → Type 0) (n place : ℕ) (s : _) (marks : List Mark) (ts : List Text) → ArePieces known n s place marks ts
    → length ts ≡ length marks
pieces_many known n place s [] [] are = refl
pieces_many known n place s (m ∷ marks) (t ∷ ts) are = ap (λ k. suc k) (pieces_many known n (place + 1) s marks ts are.1)
pieces_many known n place s [] (t ∷ ts) are = absurd are
pieces_many known n place s (m ∷ marks) [] are = absurd are

-- ---- fronts

-- how far the first of some marks reach: not to this mark, up to it, or beyond it
data Reaches (front : List Mark) (m : Mark) (back told : List Mark) : Type 0 where
  not_there : (next : Mark) (more : List Mark) → front ≡ told ++ next ∷ more → Reaches front m back told
  up_to : told ≡ front → Reaches front m back told
  beyond : (more rest : List Mark) → told ≡ front ++ m ∷ more → back ≡ more ++ rest → Reaches front m back told

reaches : (front : List Mark) (m : Mark) (back told : List Mark) → AreFirst told (front ++ m ∷ back) → Reaches front m back told
reaches [] m back [] first = up_to refl
reaches [] m back (t ∷ told) first =
    let one : m ≡ t = cc first.are in
    let rest : back ≡ told ++ first.rest = cc first.are in
    beyond told first.rest (ap (λ (u : Mark). u ∷ told) (sym one)) rest
reaches (f ∷ front) m back [] first = not_there f front refl
reaches (f ∷ front) m back (t ∷ told) first = more (reaches front m back told (record { rest = first.rest; are = others }))
  where
    one : f ≡ t
    one = cc first.are

    others : front ++ m ∷ back ≡ told ++ first.rest
    others = cc first.are

    more : Reaches front m back told → Reaches (f ∷ front) m back (t ∷ told)
    more (not_there next ms is) = not_there next ms (λ i. one i ∷ is i)
    more (up_to is) = up_to (λ i. sym one i ∷ is i)
    more (beyond ms rest is back_is) = beyond ms rest (λ i. sym one i ∷ is i) back_is

module _ (n : ℕ) (d : Done) (texts : SureTexts) (front : List Mark) (m : Mark) (back : List Mark) (bytes : Text) (count : ℕ)
    (many : length front ≡ count) (pieces_are : texts.pieces ≡ sent_pieces n front m back bytes)
    (sure_is : texts.sure ≡ joined_texts texts.pieces ++ rest_lines n d.reply) where
  abbrev data_sent : Text
  data_sent = data_lines n bytes

  abbrev its_piece : Text
  its_piece = data_sent ++ mark_line n m

  abbrev Front : List Mark → Text → Type 0
  Front told text = IsFrontOfReply n d texts told text

  by_lines : (told : List Mark) (next : Mark) (more : List Mark) → front ≡ told ++ next ∷ more → Front told (lines_of n told)
  by_lines told next more is =
      lines_front n d texts told (mark_lines n (next ∷ more) ++ its_piece ∷ mark_lines n back) (rest_lines n d.reply)
      (pieces_are
      ∙ ap (λ (ms : List Mark). mark_lines n ms ++ its_piece ∷ mark_lines n back) is
      ∙ ap (λ (ts : List Text). ts ++ its_piece ∷ mark_lines n back) (map-append (mark_line n) told (next ∷ more))
      ∙ append_assoc (mark_lines n told) (mark_lines n (next ∷ more)) (its_piece ∷ mark_lines n back)) sure_is
      (λ k le. omega (arith, le, line_bytes n next))

  by_data : Front front (lines_of n front ++ (data_sent ++ []))
  by_data =
      front_of n d texts (mark_lines n front) (its_piece ∷ mark_lines n back) data_sent (mark_line n m ++ joined_texts (mark_lines n back))
      (rest_lines n d.reply) front (lines_of n front ++ (data_sent ++ [])) pieces_are sure_is
      (append_assoc data_sent (mark_line n m) (joined_texts (mark_lines n back)))
      (λ k le. omega (arith, le, length-append data_sent (mark_line n m), line_bytes n m))
      (length-map front (mark_line n))
      (λ i. sym (joined_lines n front) i ++ append-nil data_sent i)

  by_mark : (more rest : List Mark) → back ≡ more ++ rest → Front (front ++ m ∷ more) (lines_of n front ++ (data_sent ++ lines_of n (m ∷ more)))
  by_mark more rest is =
      front_of n d texts (sent_pieces n front m more bytes) (mark_lines n rest) [] (joined_texts (mark_lines n rest)) (rest_lines n d.reply)
      (front ++ m ∷ more) (lines_of n front ++ (data_sent ++ lines_of n (m ∷ more)))
      (pieces_are
      ∙ ap (λ (ts : List Text). mark_lines n front ++ its_piece ∷ ts) (ap (mark_lines n) is ∙ map-append (mark_line n) more rest)
      ∙ sym (append_assoc (mark_lines n front) (its_piece ∷ mark_lines n more) (mark_lines n rest))) sure_is refl
      (λ k le. untold_none n rest k le) as_many text_is
    where
      as_many : length (sent_pieces n front m more bytes) ≡ length (front ++ m ∷ more)
      as_many =
          omega (
            arith,
            length-append (mark_lines n front) (its_piece ∷ mark_lines n more),
            length-append front (m ∷ more),
            length-map front (mark_line n),
            length-map more (mark_line n),
          )

      text_is : lines_of n front ++ (data_sent ++ lines_of n (m ∷ more)) ≡ joined_texts (sent_pieces n front m more bytes) ++ []
      text_is =
          sym (append-nil (joined_texts (sent_pieces n front m more bytes))
          ∙ joined_append (mark_lines n front) (its_piece ∷ mark_lines n more)
          ∙ (λ i. joined_lines n front i ++ (its_piece ++ joined_lines n more i))
          ∙ ap (λ (t : Text). lines_of n front ++ t) (append_assoc data_sent (mark_line n m) (lines_of n more)))

  by : (told : List Mark) → Reaches front m back told → Front told (text_with n count data_sent told)
  by told (not_there next more is) =
      let less : length told < count = omega (arith, sym many ∙ ap (λ (ms : List Mark). length ms) is, length-append told (next ∷ more)) in
      subst (Front told) (sym (text_before n count data_sent told less)) (by_lines told next more is)
  by told (up_to is) =
      let text_is : text_with n count data_sent told ≡ lines_of n front ++ (data_sent ++ []) =
      ap (λ (ms : List Mark). text_with n count data_sent ms) (is ∙ sym (append-nil front)) ∙ text_behind n count data_sent front [] many in
      subst (λ (ms : List Mark). Front ms (text_with n count data_sent told)) (sym is) (subst (Front front) (sym text_is) by_data)
  by told (beyond more rest is back_is) =
      let text_is : text_with n count data_sent told ≡ lines_of n front ++ (data_sent ++ lines_of n (m ∷ more)) =
      ap (λ (ms : List Mark). text_with n count data_sent ms) is ∙ text_behind n count data_sent front (m ∷ more) many in
      subst (λ (ms : List Mark). Front ms (text_with n count data_sent told)) (sym is)
      (subst (Front (front ++ m ∷ more)) (sym text_is) (by_mark more rest back_is))

  -- what tells the first marks, with the data, is a front of the reply
  pub sent_front : (told : List Mark) → AreFirst told (front ++ m ∷ back) → Front told (text_with n count data_sent told)
  sent_front told first = by told (reaches front m back told first)

-- all that tells the marks
pub sent_text : (n count : ℕ) (front : List Mark) (m : Mark) (back : List Mark) (bytes : Text) → length front ≡ count
    → joined_texts (sent_pieces n front m back bytes) ≡ text_with n count (data_lines n bytes) (front ++ m ∷ back)
sent_text n count front m back bytes many =
    joined_append (mark_lines n front) ((data_lines n bytes ++ mark_line n m) ∷ mark_lines n back)
    ∙ (λ i. joined_lines n front i ++ ((data_lines n bytes ++ mark_line n m) ++ joined_lines n back i))
    ∙ ap (λ (t : Text). lines_of n front ++ t) (append_assoc (data_lines n bytes) (mark_line n m) (lines_of n back))
    ∙ sym (text_behind n count (data_lines n bytes) front (m ∷ back) many)
