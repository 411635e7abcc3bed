use Rattle.std.proofs.Common.{ℕ, List, Option, ap, subst, length, arith}
use Rattle.std.specs.Option.{MatchOption}
use Rattle.grid_model.specs.Places.{IsRefusedAt}
use Rattle.grid_model.specs.Deltas.{SpellsDeltas}
use Rattle.grid_journal.specs.Stands.{unread}
use Rattle.grid_journal.specs.Replaying.{TakesAll, RefusesNext}
use Rattle.grid_journal.proofs.LoopLemmas.{leads, at_next}
use Rattle.grid_journal.proofs.replay.replay_record.Goals as goal

pub overflow_add-result : goal.overflow_add-result
overflow_add-result c =
    let within = (c.in-Err-BadRecord.ensures.refused c.in-Err-BadRecord.at c.in-Err-BadRecord.field-0-is).within in
    rw c.in-Err-BadRecord.field-0-is (omega (arith, within, ap length c.as_slice-body.ensures.value, c.requires))

pub returns-in-Err-BadRecord : goal.returns-in-Err-BadRecord
returns-in-Err-BadRecord c =
    let P : List ℕ → Type 0 = λ body. IsRefusedAt SpellsDeltas body c.in-Err-BadRecord.at in
    let at = subst P c.as_slice-body.ensures.value (c.in-Err-BadRecord.ensures.refused c.in-Err-BadRecord.at c.in-Err-BadRecord.field-0-is) in
    rw c.in-Err-BadRecord.field-0-is (λ rest. unread c.in-Err-BadRecord.at at)

pub returns-in-None : goal.returns-in-None
returns-in-None c =
    let P : List ℕ → Type 0 = λ body. SpellsDeltas body c.in-Ok.deltas in
    let Q : Option ℕ → Type 0 = λ o. MatchOption o (TakesAll c.in-Ok.deltas c.args.tables.now c.take_each.new.tables) (λ n. RefusesNext c.in-Ok.deltas n c.args.tables.now) in
    leads c.args.logged.now.place c.args.logged.now.body.items c.in-Ok.deltas c.args.tables.now c.take_each.new.tables (subst P c.as_slice-body.ensures.value c.in-Ok.ensures.spells)
    (subst Q c.in-None.is c.in_ok-take_each.ensures)

pub returns-in_ok-before-in-Some : goal.returns-in_ok-before-in-Some
returns-in_ok-before-in-Some c =
    let P : List ℕ → Type 0 = λ body. SpellsDeltas body c.in-Ok.deltas in
    let Q : Option ℕ → Type 0 = λ o. MatchOption o (TakesAll c.in-Ok.deltas c.args.tables.now c.take_each.new.tables) (λ n. RefusesNext c.in-Ok.deltas n c.args.tables.now) in
    at_next c.args.logged.now.place c.in-Some.count c.in_ok-before-in-Some.before c.args.logged.now.body.items c.in-Ok.deltas c.args.tables.now
    (subst P c.as_slice-body.ensures.value c.in-Ok.ensures.spells) (subst Q c.in-Some.is c.in_ok-take_each.ensures) (c.in_ok-before-in-Some.ensures c.in-Ok.deltas c.in-Ok.ensures.spells)
