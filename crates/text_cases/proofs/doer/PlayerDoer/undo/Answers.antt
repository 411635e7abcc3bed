use Rattle.std.proofs.Common.{◌∙◌, ◌++◌, ◌∷◌, [], ap}
use Rattle.text_cases.proofs.KnownCalls.{place_of, same_place, passed_on, nop_recovers, refused_recovers}
use Rattle.text_cases.proofs.doer.PlayerDoer.undo.Goals as goal

pub returns-in-Nop-clause-recovers : goal.returns-in-Nop-clause-recovers
returns-in-Nop-clause-recovers c =
    let old = c.args.self.now in
    let new = c.note.new.self in
    nop_recovers c.args.call.now (place_of old.user old.refused.items) (place_of new.user new.refused.items)
    (same_place old.user new.user old.refused.items new.refused.items c.note.ensures.user c.note.ensures.refused) c.in-Nop.ensures

pub returns-in_ok-pass-in-NoPath-clause-recovers : goal.returns-in_ok-pass-in-NoPath-clause-recovers
returns-in_ok-pass-in-NoPath-clause-recovers c =
    let old = c.args.self.now in
    let noted = c.note.new.self in
    let new = c.pass.new.self in
    refused_recovers c.args.call.now (place_of old.user old.refused.items) (place_of new.user new.refused.items)
    (passed_on old.user new.user c.args.call.now old.refused.items new.refused.items (c.pass.ensures.user ∙ c.note.ensures.user)
    (c.in_ok-pass-in-NoPath.ensures.refused ∙ ap (λ calls. calls ++ c.args.call.now ∷ []) c.note.ensures.refused))
    c.in-NoPath.ensures
