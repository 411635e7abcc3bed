use Rattle.std.proofs.Common.{◌-◌, arith, refl, ◌∙◌}
use Rattle.req_lines.proofs.LineLemmas.{none_passed, held_passed, block_passed, whole_passed, short_passed, long_passed, none_held}
use Rattle.req_lines.proofs.line_reader.LineReader.pass.Goals as goal

pub parts-init : goal.parts-init
parts-init g c = record { so_far = none_passed c.args.self.now _ c.args.count c.requires; tells = refl; later = omega arith; at_once = λ fits. (refl, fits) }

pub returns-then-left-eq0-clause-passes : goal.returns-then-left-eq0-clause-passes
returns-then-left-eq0-clause-passes g c =
    let held = held_passed _ _ _ _ _ _ c.parts.invariant.so_far c.pass_held-left.new.self c.pass_held-left.result c.pass_held-left.ensures.unread c.pass_held-left.ensures.taken c.pass_held-left.ensures.left in
    (held.body, whole_passed _ _ _ _ _ _ held c.if-left-eq0.true)

pub parts-preserved : goal.parts-preserved
parts-preserved g c =
    let held = held_passed _ _ _ _ _ _ c.parts.invariant.so_far c.pass_held-left.new.self c.pass_held-left.result c.pass_held-left.ensures.unread c.pass_held-left.ensures.taken c.pass_held-left.ensures.left in
    let filled = rw c.in-More.is at c.in_ok-fill.ensures.fills in
    let empty = none_held c.parts.left c.pass_held-left.result c.parts.self.unread c.pass_held-left.new.self.unread c.pass_held-left.ensures.left c.if-left-eq0.false c.pass_held-left.ensures.unread in
    record {
      so_far = block_passed _ _ _ _ _ _ held c.fill.new.self _ empty c.parts.invariant.tells filled.1;
      tells = c.in_ok-fill.ensures.tells ∙ c.parts.invariant.tells;
      later = omega (arith, c.parts.invariant.later, c.in_ok-fill.ensures.cause.later);
      at_once = λ fits. let no : ⊥ = omega (arith, c.if-left-eq0.false, c.pass_held-left.ensures.left, (c.parts.invariant.at_once fits).1) in absurd no;
    }

pub returns-in-End-clause-passes : goal.returns-in-End-clause-passes
returns-in-End-clause-passes g c =
    let held = held_passed _ _ _ _ _ _ c.parts.invariant.so_far c.pass_held-left.new.self c.pass_held-left.result c.pass_held-left.ensures.unread c.pass_held-left.ensures.taken c.pass_held-left.ensures.left in
    let filled = rw c.in-End.is at c.in_ok-fill.ensures.fills in
    let empty = none_held c.parts.left c.pass_held-left.result c.parts.self.unread c.pass_held-left.new.self.unread c.pass_held-left.ensures.left c.if-left-eq0.false c.pass_held-left.ensures.unread in
    (held.body, short_passed _ _ _ _ _ _ held c.fill.new.self _ c.if-left-eq0.false empty c.parts.invariant.tells filled.0 filled.1 (c.args.count - c.pass_held-left.result) (omega (arith, held.size)))

pub returns-in-Long-clause-passes : goal.returns-in-Long-clause-passes
returns-in-Long-clause-passes g c =
    let held = held_passed _ _ _ _ _ _ c.parts.invariant.so_far c.pass_held-left.new.self c.pass_held-left.result c.pass_held-left.ensures.unread c.pass_held-left.ensures.taken c.pass_held-left.ensures.left in
    let filled = rw c.in-Long.is at c.in_ok-fill.ensures.fills in
    let empty = none_held c.parts.left c.pass_held-left.result c.parts.self.unread c.pass_held-left.new.self.unread c.pass_held-left.ensures.left c.if-left-eq0.false c.pass_held-left.ensures.unread in
    (held.body, long_passed _ _ _ _ _ _ held c.fill.new.self _ c.if-left-eq0.false empty c.parts.invariant.tells filled)
