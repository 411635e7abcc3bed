use Rattle.std.proofs.Common.{◌==◌, ℕ, List, sym, ap, ◌∙◌}
use Rattle.std.specs.List.{list_any}
use Rattle.grid_model.specs.declared.deltas.UserRow.{UserRow}
use Rattle.plan_base.proofs.FreeIds.{none-ids}
use Rattle.plan_base.proofs.ids.next_user_id.Goals as goal

pub returns : goal.returns
returns c = record {
  fresh = none-ids (λ (r : UserRow). r.id) c.free_id.result c.args.tables.now.users
      (ap (λ (ids : List ℕ). list_any (λ id. id == c.free_id.result) ids) (sym (c.as_slice.ensures ∙ c.in_ok-ids.ensures.ids)) ∙ c.free_id.ensures.fresh);
}
