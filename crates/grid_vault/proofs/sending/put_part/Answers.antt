use Rattle.std.proofs.Common.{ℕ, List, ◌++◌, take, drop, arith, sym, subst, ap, ◌∙◌}
use Rattle.std.proofs.lemmas.List.{length-take-le, length-drop}
use Rattle.grid_vault.specs.Sending.{Puts}
use Rattle.grid_vault.proofs.DataLineLemmas.{data_lines-part}
use Rattle.grid_vault.proofs.Putting.{puts_none, puts_one}
use Rattle.grid_vault.proofs.sending.put_part.Goals as goal

pub returns-then-count-eq0-clause-lines : goal.returns-then-count-eq0-clause-lines
returns-then-count-eq0-clause-lines g c = puts_none _ _ _ c.requires.last

pub returns-in_err-put-clause-lines : goal.returns-in_err-put-clause-lines
returns-in_err-put-clause-lines g c =
    let part = take c.args.count (drop 32 c.args.buf.now) in
    let size = length-take-le c.args.count (drop 32 c.args.buf.now) (omega (arith, c.requires.room, c.requires.count, length-drop 32 c.args.buf.now)) in
    let line = c.frame_part-start.ensures.line ∙ sym (data_lines-part c.args.number part (omega (arith, size)) (omega (arith, size))) in
    let P : List ℕ → Type 0 = λ bytes. Puts c.args.moments.now c.next.new.self bytes (g.K.Sink.sink c.args.sink.now) (g.K.Sink.sink c.put.new.self) in
    subst P line (puts_one _ _ _ _ _ _ c.requires.last c.next.ensures.next c.next.ensures.drawn c.put.ensures.cause.later c.put.ensures.settled c.put.ensures.acts)

pub returns-clause-lines : goal.returns-clause-lines
returns-clause-lines g c =
    let part = take c.args.count (drop 32 c.args.buf.now) in
    let size = length-take-le c.args.count (drop 32 c.args.buf.now) (omega (arith, c.requires.room, c.requires.count, length-drop 32 c.args.buf.now)) in
    let line = c.frame_part-start.ensures.line ∙ sym (data_lines-part c.args.number part (omega (arith, size)) (omega (arith, size))) in
    let P : List ℕ → Type 0 = λ bytes. Puts c.args.moments.now c.next.new.self bytes (g.K.Sink.sink c.args.sink.now) (g.K.Sink.sink c.put.new.self) in
    subst P line (puts_one _ _ _ _ _ _ c.requires.last c.next.ensures.next c.next.ensures.drawn c.put.ensures.cause.later c.put.ensures.settled c.put.ensures.acts)

pub returns-clause-all : goal.returns-clause-all
returns-clause-all g c tells =
    let part = take c.args.count (drop 32 c.args.buf.now) in
    let size = length-take-le c.args.count (drop 32 c.args.buf.now) (omega (arith, c.requires.room, c.requires.count, length-drop 32 c.args.buf.now)) in
    let line = c.frame_part-start.ensures.line ∙ sym (data_lines-part c.args.number part (omega (arith, size)) (omega (arith, size))) in
    c.in_ok-put.ensures.added tells ∙ ap (λ (bytes : List ℕ). (g.K.Sink.sink c.args.sink.now).holds ++ bytes) line
