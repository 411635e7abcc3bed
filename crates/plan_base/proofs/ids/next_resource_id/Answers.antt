use Rattle.std.proofs.Common.{◌≡◌, ◌==◌, ◌<◌, ℕ, List, sym, ap, ◌∙◌, arith}
use Rattle.std.specs.List.{list_any}
use Rattle.grid_model.specs.declared.deltas.ResourceRow.{ResourceRow}
use Rattle.plan_base.proofs.FreeIds.{none-ids}
use Rattle.plan_base.proofs.ids.next_resource_id.Goals as goal

pub returns : goal.returns
returns c = record {
  some = let not_none : (c.free_id.result ≡ 0 → ⊥) = c.free_id.ensures.some in omega (arith, not_none);
  fresh = none-ids (λ (r : ResourceRow). r.id) c.free_id.result c.args.tables.now.resources
      (ap (λ (ids : List ℕ). list_any (λ id. id == c.free_id.result) ids) (sym (c.as_slice.ensures ∙ c.in_ok-ids.ensures.ids)) ∙ c.free_id.ensures.fresh);
}
