use Rattle.std.proofs.Common.{rules, ◌≡◌, ◌+◌, ◌≤◌, length, ◌++◌, IsTrue, arith, refl, sym, subst, take-append-drop}
use Rattle.grid_outside.proofs.Spans.{stays}
use Rattle.grid_model.specs.DataLines.{parts}
use Rattle.grid_vault.proofs.Writing.{Writes-same, wrote_more, extended_more, parts_more}
use Rattle.grid_vault.proofs.write.append_all.Goals as goal

pub loop-rest-init : goal.loop-rest-init
loop-rest-init g c = record {
  span = stays _ _ _ _ c.requires.last (omega arith) (Writes-same c.args.name);
  text = λ tells front is. (front, is, refl);
  later = omega arith;
  room = omega arith;
}

pub returns-in_err-append-clause-span : goal.returns-in_err-append-clause-span
returns-in_err-append-clause-span g c =
    let so_far = c.loop-rest.invariant in
    wrote_more c.args.name _ _ _ _ _ _ _ so_far.later c.next.ensures.next (omega arith) c.append.ensures.cause.later so_far.span c.append.ensures.acts

pub loop-rest-preserved : goal.loop-rest-preserved
loop-rest-preserved g c =
    let so_far = c.loop-rest.invariant in
    let split : c.split_at.result.0.now ++ c.split_at.result.1.now ≡ c.loop-rest.rest.now = search (rules, take-append-drop) in
    let fewer : parts (length c.split_at.result.1.now) + 1 ≤ parts (length c.loop-rest.rest.now) = parts_more _ _ (search rules) (search rules) in
    record {
      span = wrote_more c.args.name _ _ _ _ _ _ _ so_far.later c.next.ensures.next (omega arith) c.append.ensures.cause.later so_far.span c.append.ensures.acts;
      text = λ tells. extended_more c.args.name _ _ _ _ _ _ _ split (so_far.text tells) (c.in_ok-append.ensures.appended (subst IsTrue (sym so_far.span.tells) tells));
      later = omega arith;
      room = omega arith;
    }
