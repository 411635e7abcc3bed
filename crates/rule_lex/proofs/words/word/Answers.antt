use Rattle.std.proofs.Common.{◌≡◌, true, take, drop}
use Rattle.rule_lex.specs.Bytes.{starts_with_letter}
use Rattle.rule_lex.proofs.WordLemmas.{Run, run_of, run_starts, run_is_word, front_symbol, front_name}
use Rattle.rule_lex.proofs.words.word.Goals as goal

pub returns-in-Some : goal.returns-in-Some
returns-in-Some c =
    let rest = c.args.rest.now in
    let n = c.run_len-len.result in
    let run : Run (take n rest) (drop n rest) = run_of rest n c.run_len-len.ensures.within c.run_len-len.ensures.short c.run_len-len.ensures.words c.run_len-len.ensures.ends in
    (c.run_len-len.ensures.within, front_symbol (take n rest) (drop n rest) c.in-Some.symbol run (run_starts rest n run c.requires) c.in-Some.ensures)

pub returns-in-None : goal.returns-in-None
returns-in-None c =
    let rest = c.args.rest.now in
    let n = c.run_len-len.result in
    let run : Run (take n rest) (drop n rest) = run_of rest n c.run_len-len.ensures.within c.run_len-len.ensures.short c.run_len-len.ensures.words c.run_len-len.ensures.ends in
    let begins : starts_with_letter (take n rest) ≡ true = run_starts rest n run c.requires in
    (c.run_len-len.ensures.within, front_name (take n rest) (drop n rest) run begins (c.in-None.ensures (run_is_word (take n rest) begins run.words)))
