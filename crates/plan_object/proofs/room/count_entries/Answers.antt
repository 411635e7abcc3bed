use Rattle.std.proofs.Common.{◌≡◌, ◌+◌, List, ◌++◌, length, ap, ◌∙◌, arith}
use Rattle.grid_model.specs.declared.deltas.Delta.{Delta}
use Rattle.grid_model.specs.declared.grid.ItemKind.TheVariants as kind
use Rattle.plan_base.specs.NewItems.{new_entries}
use Rattle.plan_object.proofs.NewObjects.{access_size}
use Rattle.plan_object.proofs.room.count_entries.Goals as goal

pub returns : goal.returns
returns c =
    let new = new_entries c.args.tables.now c.args.user c.args.parent kind.Object c.in_ok-id.id in
    let items : c.push_new_entries.new.deltas.items ≡ new = c.in_ok-push_new_entries.ensures.entries ∙ ap (λ (ds : List Delta). ds ++ new) c.new-deltas.ensures.items in
    let long : length new ≡ c.len.result = omega (arith, c.len.ensures, c.push_new_entries.new.deltas.ok.0, ap length items) in
    λ inside.
    access_size c.args.tables.now c.requires.made c.args.user c.args.parent c.args.path.now c.requires.user inside c.requires.free c.names-names.ensures.all c.in_ok-id.id c.in_ok-id.ensures.fresh
    ∙ ap (λ n. length c.args.tables.now.entries + n) long
