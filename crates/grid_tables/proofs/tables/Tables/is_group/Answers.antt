use Rattle.std.proofs.Common.{◌==◌, ap, ◌∙◌, sym}
use Rattle.std.specs.Prelude.{◌&&◌}
use Rattle.std.specs.List.{list_any}
use Rattle.grid_model.specs.Rows.{Cat}
use Rattle.grid_model.specs.Applying.{is_group_kind}
use Rattle.grid_tables.proofs.tables.Tables.is_group.Goals as goal

pub returns-in-Some : goal.returns-in-Some
returns-in-Some c =
    c.is_group_kind.ensures ∙ sym (c.in-Some.ensures.alone (λ u. is_group_kind u.kind))
    ∙ ap (λ n. list_any (λ u. (u.id == n) && is_group_kind u.kind) c.self.inside.users) c.from.ensures ∙ ap (λ (t : Cat). list_any (λ u. (u.id == c.args.id) && is_group_kind u.kind) t.users) c.self.view_is

pub returns-in-None : goal.returns-in-None
returns-in-None c =
    sym (c.in-None.ensures.alone (λ u. is_group_kind u.kind))
    ∙ ap (λ n. list_any (λ u. (u.id == n) && is_group_kind u.kind) c.self.inside.users) c.from.ensures ∙ ap (λ (t : Cat). list_any (λ u. (u.id == c.args.id) && is_group_kind u.kind) t.users) c.self.view_is
