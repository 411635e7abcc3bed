use Rattle.std.proofs.Common.{subst}
use Rattle.std.specs.Prelude.{filter, ◌&&◌}
use Rattle.std.specs.Ordering.{ordering_then}
use Rattle.grid_model.specs.Names.{same_text, text_cmp}
use Rattle.grid_model.specs.Rows.{Cat}
use Rattle.grid_tables.specs.IndexKeys.{AreKeysOf}
use Rattle.grid_tables.specs.KeyOrders.{valued_of, valued_cmp}
use Rattle.grid_tables.proofs.KeyLookUps.{keys_alike, same_texts}
use Rattle.grid_tables.proofs.tables.Tables.items_with_value.Goals as goal

pub returns : goal.returns
returns c =
    let a = c.args.attribute.now in
    let v = c.args.value.now in
    subst (λ (d : Cat). AreKeysOf valued_of valued_cmp (filter (λ t. same_text t.attribute a && same_text t.value v) d.triples) c.at.result) c.self.view_is
    (keys_alike valued_of valued_cmp (λ t. ordering_then (text_cmp a t.attribute) (text_cmp v t.value)) (λ t. same_text t.attribute a && same_text t.value v)
    (λ t. same_texts a v t.attribute t.value) c.self.inside.triples c.at.result c.at.ensures.keys)
