use Rattle.std.proofs.Common.{◌≡◌, ◌++◌, ◌∷◌, [], sym, ap, ◌∙◌}
use Rattle.grid_model.specs.Names.{Path, is_name}
use Rattle.plan_base.proofs.AtPaths.{sound_of, user_known}
use Rattle.plan_list.specs.Listing.{child_path, item_rows}
use Rattle.grid_model.specs.RowGrids.{user_name}
use Rattle.plan_list.proofs.ChildPaths.{child_at, child_named}
use Rattle.plan_list.proofs.Listed.{shown_none, shown_some}
use Rattle.plan_list.proofs.listing.push_shown.Goals as goal

pub may_at-requires-clause-user : goal.may_at-requires-clause-user
may_at-requires-clause-user c = user_known c.args.tables.now c.args.user c.requires.user

pub may_at-requires-clause-at : goal.may_at-requires-clause-at
may_at-requires-clause-at c =
    let t = c.args.tables.now in
    (child_path t c.args.above.now c.args.item, child_at t (sound_of t c.requires.made) c.args.collection c.args.above.now c.requires.at c.args.item c.requires.child)

pub returns-then-not-may_at-clause-rows : goal.returns-then-not-may_at-clause-rows
returns-then-not-may_at-clause-rows c =
    let t = c.args.tables.now in
    let at = child_at t (sound_of t c.requires.made) c.args.collection c.args.above.now c.requires.at c.args.item c.requires.child in
    shown_none t (user_name t c.args.user) c.args.above.now c.args.item (sym (c.may_at.ensures (child_path t c.args.above.now c.args.item) at) ∙ c.if-not-may_at.true) c.args.rows.now.items

pub child-requires : goal.child-requires
child-requires c =
    let t = c.args.tables.now in
    ap is_name c.item_name.ensures ∙ child_named t (sound_of t c.requires.made) c.args.collection c.args.item c.requires.child

pub returns-clause-rows : goal.returns-clause-rows
returns-clause-rows c =
    let t = c.args.tables.now in
    let at = child_at t (sound_of t c.requires.made) c.args.collection c.args.above.now c.requires.at c.args.item c.requires.child in
    let path : c.in_ok-path.path ≡ child_path t c.args.above.now c.args.item = c.in_ok-path.ensures ∙ ap (λ n. c.args.above.now ++ n ∷ []) c.item_name.ensures in
    c.in_ok-append.ensures.items
    ∙ ap (λ more. c.args.rows.now.items ++ more) (c.in_ok-more.ensures.rows ∙ ap (λ (p : Path). item_rows t p c.args.item) path
    ∙ shown_some t (user_name t c.args.user) c.args.above.now c.args.item (sym (c.may_at.ensures (child_path t c.args.above.now c.args.item) at) ∙ c.if-not-may_at.false))
