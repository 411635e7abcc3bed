use Rattle.std.proofs.Common.{◌≡◌, ◌≢◌, ◌<◌, ◌-◌, ◌+◌, true, get_or, length, take, drop, refl, sym, ap, ◌∙◌, subst, arith}
use Rattle.std.proofs.lemmas.List.{take_rest, get_or-drop, length-drop}
use Rattle.std.proofs.lemmas.Bool.{false≢true}
use Rattle.reply_fields.specs.Fronts.{IsRead}
use Rattle.reply_fields.specs.Spelled.{IsEndedWord, is_among_bytes}
use Rattle.reply_fields.proofs.Codes.{IsUnreadField-rest, IsRead-rest}
use Rattle.reply_fields.proofs.WordReading.{Blanks}
use Rattle.reply_fields.proofs.WordFronts.{IsNoFieldFront-bare, IsFieldFront-bare}
use Rattle.reply_fields.proofs.words.bare_word.Goals as goal
use Rattle.reply_fields.proofs.words.bare_word.Goals.{then-len-eq0-via-then-len-eq0, then-len-eq0-via-else-len-eq0+then-len-rest, then-len-eq0-via-else-len-eq0+else-len-rest+then-not-contains}

pub returns-then-len-eq0 : goal.returns-then-len-eq0
returns-then-len-eq0 c =
    let text = c.args.text.now in
    let rest = take (length text - c.args.at) (drop c.args.at text) in
    let n = c.bare_len-len.result in
    let blanks : Blanks c.args.ends.now = record { any = c.requires.some; all = c.requires.blank } in
    let plus : c.args.at ≡ c.args.at + 0 = omega arith in
    let no_quote : 0 < length rest → get_or rest 0 0 ≢ 0x22 = λ h e. c.requires.no_quote (omega (arith, h, ap length (take_rest text c.args.at), length-drop c.args.at text)) (ap (λ k. get_or text k 0) plus ∙ sym (ap (λ t. get_or t 0 0) (take_rest text c.args.at) ∙ get_or-drop c.args.at text 0 0) ∙ e) in
    let none : 0 < n → n < length rest → ¬ (is_among_bytes c.args.ends.now (get_or rest n 0) ≡ true) = elim c.then-len-eq0.branch [
      | then-len-eq0-via-then-len-eq0 w ↦ λ some h. absurd (omega (arith, some, w.if-len-eq0.true))
      | then-len-eq0-via-else-len-eq0+then-len-rest w ↦ λ some h. absurd (omega (arith, h, w.if-len-rest.true))
      | then-len-eq0-via-else-len-eq0+else-len-rest+then-not-contains w ↦ λ some h e. false≢true (sym w.if-not-contains.true ∙ w.contains.ensures.value ∙ e)
    ] in
    IsUnreadField-rest (IsEndedWord c.args.ends.now) text c.args.at n (c.args.at + n) refl (IsNoFieldFront-bare c.args.ends.now blanks rest n c.bare_len-len.ensures no_quote none)

pub returns : goal.returns
returns c =
    let text = c.args.text.now in
    let rest = take (length text - c.args.at) (drop c.args.at text) in
    let n = c.bare_len-len.result in
    let blanks : Blanks c.args.ends.now = record { any = c.requires.some; all = c.requires.blank } in
    let plus : c.args.at ≡ c.args.at + 0 = omega arith in
    let no_quote : 0 < length rest → get_or rest 0 0 ≢ 0x22 = λ h e. c.requires.no_quote (omega (arith, h, ap length (take_rest text c.args.at), length-drop c.args.at text)) (ap (λ k. get_or text k 0) plus ∙ sym (ap (λ t. get_or t 0 0) (take_rest text c.args.at) ∙ get_or-drop c.args.at text 0 0) ∙ e) in
    let within : n < length rest = omega (arith, c.bare_len-len.ensures.within, c.if-len-rest.false) in
    let some : 0 < n = omega (arith, c.if-len-eq0.false) in
    let end : is_among_bytes c.args.ends.now (get_or rest n 0) ≡ true = sym c.contains.ensures.value ∙ c.if-not-contains.false in
    let word : c.in_ok-word.word ≡ take n rest = c.in_ok-word.ensures ∙ ap (λ k. take k rest) (omega arith) in
    subst (λ w. IsRead (IsEndedWord c.args.ends.now) text c.args.at (w, get_or rest n 0) (c.args.at + n + 1)) (sym word)
    (IsRead-rest (IsEndedWord c.args.ends.now) text c.args.at (n + 1) (c.args.at + n + 1) (take n rest, get_or rest n 0) c.requires.place (omega (arith, within)) (omega arith)
    (IsFieldFront-bare c.args.ends.now blanks rest n c.bare_len-len.ensures no_quote some within end))
