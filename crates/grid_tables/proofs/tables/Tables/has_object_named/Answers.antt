use Rattle.std.proofs.Common.{ap, ◌∙◌}
use Rattle.std.specs.Prelude.{is_some}
use Rattle.std.specs.List.{list_any}
use Rattle.grid_model.specs.Rows.{Cat}
use Rattle.grid_model.specs.Applying.{is_object_named}
use Rattle.grid_model.proofs.FoundRows.{is_some-find}
use Rattle.grid_tables.proofs.Searching.{copied}
use Rattle.grid_tables.proofs.tables.Tables.has_object_named.Goals as goal

pub returns : goal.returns
returns c =
    c.is_some.ensures ∙ copied c.find.result ∙ ap is_some c.find.ensures.row ∙ is_some-find (λ o. is_object_named c.args.parent c.args.name.now o) c.self.inside.objects
    ∙ ap (λ (t : Cat). list_any (λ o. is_object_named c.args.parent c.args.name.now o) t.objects) c.self.view_is
