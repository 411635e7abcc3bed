use Rattle.std.proofs.Common.{◌==◌, ap, ◌∙◌, sym}
use Rattle.std.specs.Prelude.{◌&&◌, not}
use Rattle.std.specs.List.{list_any}
use Rattle.grid_model.specs.Rows.{Cat}
use Rattle.grid_model.specs.Applying.{same_kind}
use Rattle.grid_tables.proofs.tables.Tables.is_of_another_kind.Goals as goal

pub returns-in-Some : goal.returns-in-Some
returns-in-Some c =
    ap not c.is_same_kind.ensures ∙ sym (c.in-Some.ensures.alone (λ o. not (same_kind o.kind c.args.kind)))
    ∙ ap (λ n. list_any (λ o. (o.id == n) && not (same_kind o.kind c.args.kind)) c.self.inside.resources) c.from.ensures ∙ ap (λ (t : Cat). list_any (λ o. (o.id == c.args.id) && not (same_kind o.kind c.args.kind)) t.resources) c.self.view_is

pub returns-in-None : goal.returns-in-None
returns-in-None c =
    sym (c.in-None.ensures.alone (λ o. not (same_kind o.kind c.args.kind)))
    ∙ ap (λ n. list_any (λ o. (o.id == n) && not (same_kind o.kind c.args.kind)) c.self.inside.resources) c.from.ensures ∙ ap (λ (t : Cat). list_any (λ o. (o.id == c.args.id) && not (same_kind o.kind c.args.kind)) t.resources) c.self.view_is
