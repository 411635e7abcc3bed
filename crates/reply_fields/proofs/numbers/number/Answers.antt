use Rattle.std.proofs.Common.{◌≡◌, ◌<◌, ◌-◌, true, false, get_or, length, take, drop, sym, ◌∙◌, subst, arith}
use Rattle.std.specs.Char.{is_ascii_digit}
use Rattle.std.proofs.lemmas.List.{take_rest}
use Rattle.std.proofs.lemmas.Bool.{false≢true}
use Rattle.reply_fields.specs.Fronts.{IsNoFieldFront}
use Rattle.reply_fields.specs.Spelled.{IsNumber, is_among_bytes}
use Rattle.reply_fields.proofs.Codes.{IsUnreadField-at}
use Rattle.reply_fields.proofs.NumberReading.{Bounds, IsLeast, Taken-more, IsNoFieldFront-digit, IsNoFieldFront-ended}
use Rattle.reply_fields.proofs.numbers.number.Goals as goal
use Rattle.reply_fields.proofs.numbers.number.Goals.{then-len-eq0, else-len-eq0, then-loop-len-test+else-is_ascii_digit, else-loop-len-test, then-len-eq0-2-via-then-len-eq0-2, then-len-eq0-2-via-else-len-eq0-2+then-len-rest, then-len-eq0-2-via-else-len-eq0-2+else-len-rest+then-not-contains}

pub returns-in-None : goal.returns-in-None
returns-in-None c =
    let rest = take (length c.args.text.now - c.args.at) (drop c.args.at c.args.text.now) in
    let bounds : Bounds c.args.least c.args.most c.args.ends.now = record { small = c.requires.least; some = c.requires.most; fits = c.ranges.most.fits; any = c.requires.some; apart = c.requires.no_digits } in
    let byte = get_or rest c.loop-len.len 0 in
    let digit = c.if-is_ascii_digit.ensures.cases in
    let least : IsLeast c.args.least c.loop-len.len c.if-len-eq0.first = elim c.if-len-eq0.branch [
      | then-len-eq0 w ↦ record { at_first = λ h. w.first-is; later = λ h. absurd (omega (arith, h, w.if-len-eq0.true)) }
      | else-len-eq0 w ↦ record { at_first = λ h. absurd (w.if-len-eq0.false h); later = λ h. w.first-is }
    ] in
    IsUnreadField-at (IsNumber c.args.least c.args.most c.args.ends.now) c.args.text.now c.args.at c.loop-len.len
    (subst (λ t. IsNoFieldFront (IsNumber c.args.least c.args.most c.args.ends.now) t c.loop-len.len) (take_rest c.args.text.now c.args.at)
    (IsNoFieldFront-digit c.args.least c.args.most c.args.ends.now bounds rest c.loop-len.len c.loop-len.value c.loop-len.invariant (byte - 48) c.if-len-eq0.first c.loop-len-test.true (omega (arith, digit.0)) (omega (arith, digit.1)) least c.in-None.ensures))

pub loop-len-preserved : goal.loop-len-preserved
loop-len-preserved c =
    let rest = take (length c.args.text.now - c.args.at) (drop c.args.at c.args.text.now) in
    let bounds : Bounds c.args.least c.args.most c.args.ends.now = record { small = c.requires.least; some = c.requires.most; fits = c.ranges.most.fits; any = c.requires.some; apart = c.requires.no_digits } in
    let byte = get_or rest c.loop-len.len 0 in
    let digit = c.if-is_ascii_digit.ensures.cases in
    let least : IsLeast c.args.least c.loop-len.len c.if-len-eq0.first = elim c.if-len-eq0.branch [
      | then-len-eq0 w ↦ record { at_first = λ h. w.first-is; later = λ h. absurd (omega (arith, h, w.if-len-eq0.true)) }
      | else-len-eq0 w ↦ record { at_first = λ h. absurd (w.if-len-eq0.false h); later = λ h. w.first-is }
    ] in
    Taken-more c.args.least c.args.most c.args.ends.now bounds rest c.loop-len.len c.loop-len.value c.loop-len.invariant (byte - 48) c.if-len-eq0.first c.in-Some.more c.loop-len-test.true (omega (arith, digit.0)) (omega (arith, digit.1)) least c.in-Some.ensures.0.0 c.in-Some.ensures.0.1 c.in-Some.ensures.1

pub returns-then-len-eq0-2 : goal.returns-then-len-eq0-2
returns-then-len-eq0-2 c =
    let rest = take (length c.args.text.now - c.args.at) (drop c.args.at c.args.text.now) in
    let len = c.loop-len.len in
    let bounds : Bounds c.args.least c.args.most c.args.ends.now = record { small = c.requires.least; some = c.requires.most; fits = c.ranges.most.fits; any = c.requires.some; apart = c.requires.no_digits } in
    let no_digit : len < length rest → is_ascii_digit (get_or rest len 0) ≡ false = elim c.loop-len-test.branch [
      | then-loop-len-test+else-is_ascii_digit w ↦ λ h. sym w.is_ascii_digit.ensures.value ∙ w.if-is_ascii_digit.false
      | else-loop-len-test w ↦ λ h. absurd (omega (arith, h, w.loop-len-test.false))
    ] in
    let no_end : 0 < len → len < length rest → ¬ (is_among_bytes c.args.ends.now (get_or rest len 0) ≡ true) = elim c.then-len-eq0-2.branch [
      | then-len-eq0-2-via-then-len-eq0-2 w ↦ λ some h. absurd (omega (arith, some, w.if-len-eq0-2.true))
      | then-len-eq0-2-via-else-len-eq0-2+then-len-rest w ↦ λ some h. absurd (omega (arith, h, w.if-len-rest.true))
      | then-len-eq0-2-via-else-len-eq0-2+else-len-rest+then-not-contains w ↦ λ some h e. false≢true (sym w.if-not-contains.true ∙ w.contains.ensures.value ∙ e)
    ] in
    IsUnreadField-at (IsNumber c.args.least c.args.most c.args.ends.now) c.args.text.now c.args.at len
    (subst (λ t. IsNoFieldFront (IsNumber c.args.least c.args.most c.args.ends.now) t len) (take_rest c.args.text.now c.args.at)
    (IsNoFieldFront-ended c.args.least c.args.most c.args.ends.now bounds rest len c.loop-len.value c.loop-len.invariant no_digit no_end))
