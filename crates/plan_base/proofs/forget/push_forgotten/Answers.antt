use Rattle.grid_model.specs.Rows.{id_of, kind_of}
use Rattle.plan_base.proofs.Forgetting.{all_give, some_spelled}
use Rattle.plan_base.proofs.forget.push_forgotten.Goals as goal

pub push_no_triples-requires : goal.push_no_triples-requires
push_no_triples-requires c = some_spelled c.args.tables.now (kind_of c.args.item) (id_of c.args.item) c.triples_of.result.now c.requires.spelled c.triples_of.ensures

pub push_no_entries-requires : goal.push_no_entries-requires
push_no_entries-requires c = all_give c.args.tables.now c.requires.made (kind_of c.args.item) (id_of c.args.item) c.access_of.result.now c.access_of.ensures
