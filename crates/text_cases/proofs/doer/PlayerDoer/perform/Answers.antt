use Rattle.text_cases.proofs.KnownCalls.{place_of, same_place, nop_performs, refused_performs}
use Rattle.text_cases.proofs.doer.PlayerDoer.perform.Goals as goal

pub returns-in-Nop-clause-performs : goal.returns-in-Nop-clause-performs
returns-in-Nop-clause-performs c =
    let old = c.args.self.now in
    let new = c.note.new.self in
    nop_performs c.args.call.now (place_of old.user old.refused.items) (place_of new.user new.refused.items)
    (same_place old.user new.user old.refused.items new.refused.items c.note.ensures.user c.note.ensures.refused) c.in-Nop.ensures

pub returns-in-NoPath-clause-performs : goal.returns-in-NoPath-clause-performs
returns-in-NoPath-clause-performs c =
    let old = c.args.self.now in
    let new = c.note.new.self in
    refused_performs c.args.call.now (place_of old.user old.refused.items) (place_of new.user new.refused.items)
    (same_place old.user new.user old.refused.items new.refused.items c.note.ensures.user c.note.ensures.refused) c.in-NoPath.ensures
