use Rattle.std.proofs.Common.{Option, [], ap, ◌∙◌}
use Rattle.std.specs.Prelude.{option_map, unwrap_or}
use Rattle.grid_model.specs.Grid.{everybody}
use Rattle.grid_model.specs.Names.{same_text}
use Rattle.grid_model.specs.declared.deltas.UserRow.{UserRow}
use Rattle.tables_laws.proofs.LookUps.{is_same_text}
use Rattle.grid_access.proofs.scan.is_everybody.Goals as goal

pub returns-in-Some : goal.returns-in-Some
returns-in-Some c =
    is_same_text c.has_bytes.result c.in-Some.row.now.name everybody c.has_bytes.ensures ∙ ap (λ (o : Option UserRow). same_text (unwrap_or (option_map (λ r. r.name) o) []) everybody) c.in-Some.ensures
