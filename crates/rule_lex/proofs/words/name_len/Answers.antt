use Rattle.std.proofs.Common.{◌≡◌, true, take, drop, sym}
use Rattle.rule_lex.specs.Bytes.{starts_with_letter}
use Rattle.rule_lex.proofs.WordLemmas.{Run, run_of, run_starts, run_is_word, letter_at, first_shortened, first_name}
use Rattle.rule_lex.proofs.words.name_len.Goals as goal

pub returns-in-Some : goal.returns-in-Some
returns-in-Some c =
    let bytes = c.args.bytes.now in
    let n = c.run_len-len.result in
    let run : Run (take n bytes) (drop n bytes) = run_of bytes n c.run_len-len.ensures.within c.run_len-len.ensures.short c.run_len-len.ensures.words c.run_len-len.ensures.ends in
    let letter : starts_with_letter bytes ≡ true = letter_at bytes (sym c.if-not-is_letter.ensures) in
    first_shortened bytes n c.in-Some.field-0 c.run_len-len.ensures.within run (run_starts bytes n run letter) c.in-Some.ensures

pub returns-in-None : goal.returns-in-None
returns-in-None c =
    let bytes = c.args.bytes.now in
    let n = c.run_len-len.result in
    let run : Run (take n bytes) (drop n bytes) = run_of bytes n c.run_len-len.ensures.within c.run_len-len.ensures.short c.run_len-len.ensures.words c.run_len-len.ensures.ends in
    let begins : starts_with_letter (take n bytes) ≡ true = run_starts bytes n run (letter_at bytes (sym c.if-not-is_letter.ensures)) in
    (c.run_len-len.ensures.within, first_name (take n bytes) (drop n bytes) run begins (c.in-None.ensures (run_is_word (take n bytes) begins run.words)))
