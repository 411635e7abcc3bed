use Rattle.std.proofs.Common.{sym, ap, ◌∙◌}
use Rattle.std.specs.Map.{lookup}
use Rattle.std.specs.BTreeMap.{is_at}
use Rattle.grid_tables.specs.GroupLists.{group_id_cmp}
use Rattle.grid_tables.proofs.GroupLists.{set_none}
use Rattle.grid_tables.proofs.groups.take_out.Goals as goal

pub returns-in-None-clause-taken : goal.returns-in-None-clause-taken
returns-in-None-clause-taken g c =
    ap (λ m. m.entries) c.get_mut.follows.holds-at-none
    ∙ sym (set_none (g.Q.GroupKey.leads_to c.args.key) c.args.lists.now.entries _
    (ap (λ n. lookup (is_at (group_id_cmp n)) c.args.lists.now.entries) (sym c.row_group.ensures) ∙ sym c.in-None.ensures.value))
