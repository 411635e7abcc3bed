use Rattle.std.proofs.Common.{◌==◌, List, length, ap, ◌∙◌}
use Rattle.std.specs.Prelude.{not}
use Rattle.std.specs.List.{list_any}
use Rattle.grid_model.specs.Rows.{Cat, same_item}
use Rattle.grid_model.specs.declared.deltas.TripleRow.{TripleRow}
use Rattle.grid_tables.proofs.Finding.{some_kept}
use Rattle.grid_tables.proofs.tables.Tables.has_triple_of.Goals as goal

pub returns : goal.returns
returns c =
    ap not c.is_empty.ensures ∙ ap (λ (l : List TripleRow). not (length l == 0)) c.of_item.ensures ∙ some_kept (λ (r : TripleRow). same_item r.kind r.id c.args.kind c.args.id) c.self.inside.triples
    ∙ ap (λ (t : Cat). list_any (λ (r : TripleRow). same_item r.kind r.id c.args.kind c.args.id) t.triples) c.self.view_is
