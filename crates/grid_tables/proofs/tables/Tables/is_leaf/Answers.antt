use Rattle.std.proofs.Common.{◌==◌, ap, ◌∙◌, sym}
use Rattle.std.specs.Prelude.{◌&&◌}
use Rattle.std.specs.List.{list_any}
use Rattle.grid_model.specs.Rows.{Cat}
use Rattle.grid_model.specs.Applying.{is_storage}
use Rattle.grid_tables.proofs.tables.Tables.is_leaf.Goals as goal

pub returns-in-Some : goal.returns-in-Some
returns-in-Some c =
    c.is_storage.ensures ∙ sym (c.in-Some.ensures.alone (λ r. is_storage r.kind))
    ∙ ap (λ n. list_any (λ r. (r.id == n) && is_storage r.kind) c.self.inside.resources) c.from.ensures ∙ ap (λ (t : Cat). list_any (λ r. (r.id == c.args.id) && is_storage r.kind) t.resources) c.self.view_is

pub returns-in-None : goal.returns-in-None
returns-in-None c =
    sym (c.in-None.ensures.alone (λ r. is_storage r.kind))
    ∙ ap (λ n. list_any (λ r. (r.id == n) && is_storage r.kind) c.self.inside.resources) c.from.ensures ∙ ap (λ (t : Cat). list_any (λ r. (r.id == c.args.id) && is_storage r.kind) t.resources) c.self.view_is
