use Rattle.std.proofs.Common.{◌≡◌, ◌<◌, ◌-◌, ◌+◌, true, get_or, length, take, drop, refl, sym, ap, ◌∙◌, subst, arith}
use Rattle.std.proofs.lemmas.Bool.{false≢true}
use Rattle.grid_model.specs.Words.{is_bare}
use Rattle.reply_fields.specs.Fronts.{IsRead}
use Rattle.reply_fields.specs.Spelled.{IsEndedWord, is_among_bytes}
use Rattle.reply_fields.proofs.Codes.{IsUnreadField-rest, IsRead-rest}
use Rattle.reply_fields.proofs.WordReading.{Blanks}
use Rattle.reply_fields.proofs.WordFronts.{IsNoFieldFront-inner, IsNoFieldFront-open, IsNoFieldFront-quote, IsNoFieldFront-closed, IsFieldFront-quoted}
use Rattle.reply_fields.proofs.words.quoted_word.Goals as goal
use Rattle.reply_fields.proofs.words.quoted_word.Goals.{then-loop-len-test+else-rest-len-ne34, else-loop-len-test, then-end-rest-via-then-end-rest, then-end-rest-via-else-end-rest+then-not-contains}

pub returns-in-Err : goal.returns-in-Err
returns-in-Err c =
    let text = c.args.text.now in
    let rest = take (length text - c.args.at) (drop c.args.at text) in
    let blanks : Blanks c.args.ends.now = record { any = c.requires.some; all = c.requires.blank } in
    IsUnreadField-rest (IsEndedWord c.args.ends.now) text c.args.at c.in-Err.place (c.args.at + c.in-Err.place) refl
    (IsNoFieldFront-inner c.args.ends.now blanks rest c.loop-len.word.items c.loop-len.len c.loop-len.invariant c.loop-len-test.true c.if-rest-len-ne34.true c.in-Err.place c.in-Err.ensures)

pub returns-then-len-rest : goal.returns-then-len-rest
returns-then-len-rest c =
    let text = c.args.text.now in
    let rest = take (length text - c.args.at) (drop c.args.at text) in
    let blanks : Blanks c.args.ends.now = record { any = c.requires.some; all = c.requires.blank } in
    IsUnreadField-rest (IsEndedWord c.args.ends.now) text c.args.at c.loop-len.len (c.args.at + c.loop-len.len) refl
    (IsNoFieldFront-open c.args.ends.now blanks rest c.loop-len.word.items c.loop-len.len c.loop-len.invariant c.if-len-rest.true)

pub returns-then-is_bare : goal.returns-then-is_bare
returns-then-is_bare c =
    let text = c.args.text.now in
    let rest = take (length text - c.args.at) (drop c.args.at text) in
    let len = c.loop-len.len in
    let blanks : Blanks c.args.ends.now = record { any = c.requires.some; all = c.requires.blank } in
    let quote : get_or rest len 0 ≡ 0x22 = elim c.loop-len-test.branch [
      | then-loop-len-test+else-rest-len-ne34 w ↦ w.if-rest-len-ne34.false
      | else-loop-len-test w ↦ absurd (omega (arith, c.loop-len.invariant.short, w.loop-len-test.false, c.if-len-rest.false))
    ] in
    let bare : is_bare c.loop-len.word.items ≡ true = ap is_bare (sym c.as_slice.ensures.value) ∙ sym c.is_bare.ensures ∙ c.if-is_bare.true in
    IsUnreadField-rest (IsEndedWord c.args.ends.now) text c.args.at len (c.args.at + len) refl
    (IsNoFieldFront-quote c.args.ends.now blanks rest c.loop-len.word.items len c.loop-len.invariant quote bare)

pub returns-then-end-rest : goal.returns-then-end-rest
returns-then-end-rest c =
    let text = c.args.text.now in
    let rest = take (length text - c.args.at) (drop c.args.at text) in
    let len = c.loop-len.len in
    let blanks : Blanks c.args.ends.now = record { any = c.requires.some; all = c.requires.blank } in
    let within : len < length rest = omega (arith, c.loop-len.invariant.short, c.if-len-rest.false) in
    let quote : get_or rest len 0 ≡ 0x22 = elim c.loop-len-test.branch [
      | then-loop-len-test+else-rest-len-ne34 w ↦ w.if-rest-len-ne34.false
      | else-loop-len-test w ↦ absurd (omega (arith, within, w.loop-len-test.false))
    ] in
    let quotes = ap is_bare (sym c.as_slice.ensures.value) ∙ sym c.is_bare.ensures ∙ c.if-is_bare.false in
    let none : len + 1 < length rest → ¬ (is_among_bytes c.args.ends.now (get_or rest (len + 1) 0) ≡ true) = elim c.then-end-rest.branch [
      | then-end-rest-via-then-end-rest w ↦ λ h. absurd (omega (arith, h, w.if-end-rest.true))
      | then-end-rest-via-else-end-rest+then-not-contains w ↦ λ h e. false≢true (sym w.if-not-contains.true ∙ w.contains.ensures.value ∙ e)
    ] in
    IsUnreadField-rest (IsEndedWord c.args.ends.now) text c.args.at (len + 1) (c.args.at + (len + 1)) refl
    (IsNoFieldFront-closed c.args.ends.now blanks rest c.loop-len.word.items len c.loop-len.invariant within quote quotes none)

pub returns : goal.returns
returns c =
    let text = c.args.text.now in
    let rest = take (length text - c.args.at) (drop c.args.at text) in
    let len = c.loop-len.len in
    let blanks : Blanks c.args.ends.now = record { any = c.requires.some; all = c.requires.blank } in
    let within : len < length rest = omega (arith, c.loop-len.invariant.short, c.if-len-rest.false) in
    let quote : get_or rest len 0 ≡ 0x22 = elim c.loop-len-test.branch [
      | then-loop-len-test+else-rest-len-ne34 w ↦ w.if-rest-len-ne34.false
      | else-loop-len-test w ↦ absurd (omega (arith, within, w.loop-len-test.false))
    ] in
    let quotes = ap is_bare (sym c.as_slice.ensures.value) ∙ sym c.is_bare.ensures ∙ c.if-is_bare.false in
    let room : len + 1 < length rest = omega (arith, within, c.if-end-rest.false) in
    let end : is_among_bytes c.args.ends.now (get_or rest (len + 1) 0) ≡ true = sym c.contains.ensures.value ∙ c.if-not-contains.false in
    subst (λ w. IsRead (IsEndedWord c.args.ends.now) text c.args.at (w, get_or rest (len + 1) 0) (c.args.at + (len + 1) + 1)) (sym c.from_vec.ensures)
    (IsRead-rest (IsEndedWord c.args.ends.now) text c.args.at (len + 1 + 1) (c.args.at + (len + 1) + 1) (c.loop-len.word.items, get_or rest (len + 1) 0) (omega (arith, c.requires.place)) (omega (arith, room)) (omega arith)
    (IsFieldFront-quoted c.args.ends.now blanks rest c.loop-len.word.items len c.loop-len.invariant room quote quotes end))
