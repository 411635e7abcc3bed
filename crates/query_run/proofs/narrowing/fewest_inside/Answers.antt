use Rattle.std.proofs.Common.{ℕ, List, sym, subst}
use Rattle.std.proofs.lemmas.Result.{IfOk-weaker}
use Rattle.tables_laws.proofs.Sound.{sound-made}
use Rattle.query_run.specs.Narrowing.{HasShownObjects, object_ids}
use Rattle.query_run.proofs.Narrowed.{shown_among, shown_inside}
use Rattle.query_run.proofs.narrowing.fewest_inside.Goals as goal

pub returns-in-None : goal.returns-in-None
returns-in-None c =
    let t = c.args.tables.now in
    let q = c.args.query.now in
    IfOk-weaker c.list_of.result _ _ (λ ids same user.
    subst (λ (xs : List ℕ). HasShownObjects t user q xs) (sym same)
    (shown_inside t (sound-made c.requires.made.0 t c.requires.made.1) user q c.args.id (c.requires.asked user)
    c.objects_in-inside.result c.objects_in-inside.ensures)) c.list_of.ensures

pub returns-then-len : goal.returns-then-len
returns-then-len c =
    let t = c.args.tables.now in
    let q = c.args.query.now in
    IfOk-weaker c.list_of-then-len.result _ _ (λ ids same user.
    subst (λ (xs : List ℕ). HasShownObjects t user q xs) (sym same)
    (shown_inside t (sound-made c.requires.made.0 t c.requires.made.1) user q c.args.id (c.requires.asked user)
    c.objects_in-inside.result c.objects_in-inside.ensures)) c.list_of-then-len.ensures

pub returns : goal.returns
returns c =
    IfOk-weaker c.objects_once.result _ _ (λ ids has user.
    shown_among c.args.tables.now user c.args.query.now (object_ids c.in-Some.items) ids.items has.from (c.in-Some.ensures user))
    c.objects_once.ensures.members
