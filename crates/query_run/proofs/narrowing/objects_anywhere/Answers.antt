use Rattle.std.proofs.Common.{ℕ, List, sym, subst, ◌∙◌}
use Rattle.std.proofs.lemmas.Result.{IfOk-weaker}
use Rattle.query_run.specs.Narrowing.{HasShownObjects, object_ids}
use Rattle.query_run.proofs.Narrowed.{all_objects, shown_among}
use Rattle.query_run.proofs.narrowing.objects_anywhere.Goals as goal

pub returns-in_ok-ids-in-None : goal.returns-in_ok-ids-in-None
returns-in_ok-ids-in-None c = λ user.
    let t = c.args.tables.now in
    let q = c.args.query.now in
    subst (λ (xs : List ℕ). HasShownObjects t user q xs) (sym (c.into_vec.ensures ∙ c.in_ok-ids-in-None.ensures.ids)) (all_objects t user q)

pub returns-in-Some : goal.returns-in-Some
returns-in-Some c =
    IfOk-weaker c.objects_once.result _ _ (λ ids has user.
    shown_among c.args.tables.now user c.args.query.now (object_ids c.in-Some.items) ids.items has.from (c.in-Some.ensures user))
    c.objects_once.ensures.members
