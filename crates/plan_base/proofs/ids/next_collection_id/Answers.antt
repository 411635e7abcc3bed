use Rattle.std.proofs.Common.{◌==◌, ℕ, List, sym, ap, ◌∙◌}
use Rattle.std.specs.List.{list_any}
use Rattle.grid_model.specs.declared.deltas.CollectionRow.{CollectionRow}
use Rattle.plan_base.proofs.FreeIds.{none-ids}
use Rattle.plan_base.proofs.ids.next_collection_id.Goals as goal

pub returns-clause-fresh : goal.returns-clause-fresh
returns-clause-fresh c =
    none-ids (λ (r : CollectionRow). r.id) c.free_id.result c.args.tables.now.collections
    (ap (λ (ids : List ℕ). list_any (λ id. id == c.free_id.result) ids) (sym (c.as_slice.ensures ∙ c.in_ok-ids.ensures.ids)) ∙ c.free_id.ensures.fresh)
