use Rattle.std.proofs.Common.{subst}
use Rattle.grid_model.specs.Rows.{Cat, IsCat}
use Rattle.grid_tables.proofs.Finding.{named_table}
use Rattle.grid_tables.proofs.tables.Tables.in_order.Goals as goal

pub returns : goal.returns
returns c =
    subst (λ (t : Cat). IsCat t) c.self.view_is (record {
      users = c.as_slice-users.ensures.table;
      members = c.as_slice-members.ensures.table;
      collections = named_table c.self.inside.collections c.len-collections.ensures.table;
      objects = c.len-objects.ensures.table;
      replicas = c.in_order.ensures;
      triples = c.in_order-2.ensures;
      entries = c.in_order-3.ensures;
      resources = c.as_slice-resources.ensures.table;
      orphans = c.as_slice-orphans.ensures.table;
    })
