use Rattle.std.proofs.Common.{◌≡◌, ◌==◌, ◌++◌, List, ap, map, not, filter, rules, ◌∙◌}
use Rattle.std.specs.Ordering.{is_lt}
use Rattle.std.proofs.lemmas.Fn.{always_returns_same}
use Rattle.std.proofs.lemmas.List.Sorted.{ranks_by}
use Rattle.grid_model.specs.Names.{text_cmp}
use Rattle.grid_model.specs.declared.deltas.Item.{Item}
use Rattle.grid_model.specs.declared.deltas.Item.TheVariants as item
use Rattle.grid_model.proofs.Comparing.{text_cmp_total}
use Rattle.plan_base.proofs.AtPaths.{sound_of}
use Rattle.plan_list.specs.Inside.{item_name}
use Rattle.plan_list.proofs.InOrder.{are_children}
use Rattle.plan_list.proofs.children.child_items.Goals as goal

pub returns : goal.returns
returns c =
    let t = c.args.tables.now in
    let items : c.push_objects.new.items.items ≡ map item.Collection (filter (λ id. not (id == 0)) c.collections_in.result) ++ map item.Object c.objects_in.result =
    c.in_ok-push_objects.ensures
    ∙ ap (λ (xs : List Item). xs ++ map item.Object c.objects_in.result) (c.in_ok-push_collections.ensures ∙ ap (λ (xs : List Item). xs ++ map item.Collection (filter (λ id. not (id == 0)) c.collections_in.result)) c.new-items.ensures.items) in
    let rises = c.in_ok-sort_by.ensures.sorted (λ x y. is_lt (text_cmp (item_name t x) (item_name t y))) (ranks_by text_cmp_total (item_name t))
    (always_returns_same _ (λ a r. is_lt r ≡ is_lt (text_cmp (item_name t a.0.now) (item_name t a.1.0.now))) _ (λ a r f k. search rules)) in
    are_children t (sound_of t c.requires) c.args.id c.collections_in.result c.objects_in.result c.collections_in.ensures c.objects_in.ensures
    c.push_objects.new.items.items c.sort_by.new.self.items items c.in_ok-sort_by.ensures.permutation rises
