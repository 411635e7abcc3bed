use Rattle.std.proofs.Common.{Ok, sym, ap, ◌∙◌}
use Rattle.std.specs.List.{list_all}
use Rattle.grid_model.specs.Writable.{is_word}
use Rattle.grid_model.specs.RowGrids.{user_name}
use Rattle.plan_base.proofs.AtPaths.{user_known}
use Rattle.plan_list.proofs.Listed.{refused_nothing, refused_level, lists}
use Rattle.plan_list.proofs.listing.list_rows.Goals as goal

pub returns-in-None : goal.returns-in-None
returns-in-None c = refused_nothing c.args.tables.now c.requires.made (user_name c.args.tables.now c.args.user) c.args.path.now c.in-None.ensures

pub may_at-requires-clause-user : goal.may_at-requires-clause-user
may_at-requires-clause-user c = user_known c.args.tables.now c.args.user c.requires.user

pub returns-then-not-may_at : goal.returns-then-not-may_at
returns-then-not-may_at c =
    refused_level c.args.tables.now c.requires.made (user_name c.args.tables.now c.args.user) c.args.path.now c.in-Some.item c.in-Some.ensures
    (sym (c.may_at.ensures c.args.path.now c.in-Some.ensures) ∙ c.if-not-may_at.true)

pub returns-in-Ok : goal.returns-in-Ok
returns-in-Ok c = (
  lists c.args.tables.now c.requires.made (user_name c.args.tables.now c.args.user) c.args.path.now c.in-Some.item c.in-Some.ensures (sym (c.may_at.ensures c.args.path.now c.in-Some.ensures) ∙ c.if-not-may_at.false)
      c.in-Ok.rows.items c.in-Ok.ensures.rows ∙ ap Ok (sym c.from_vec.ensures),
  ap (list_all (list_all is_word)) c.from_vec.ensures ∙ c.in-Ok.ensures.words,
)
