use Rattle.std.proofs.Common.{◌≡◌, ℕ, List, map, refl, ◌∙◌, ap}
use Rattle.std.proofs.lemmas.Result.{IfOk-weaker}
use Rattle.grid_tree.specs.declared.siblings.Child.{Child}
use Rattle.grid_tree.proofs.ChildLemmas.{children_named}
use Rattle.grid_tree.proofs.siblings.children.Goals as goal

pub returns : goal.returns
returns c =
    IfOk-weaker c.ids_of.result _ _ (λ ids are.
    children_named c.args.tables.now c.requires.made c.args.parent c.requires.there _ c.in_ok-found.found.items refl c.in_ok-found.ensures.are c.in_ok-found.ensures.rise ids.items
    (are ∙ ap (map (λ (k : Child). k.id)) c.as_slice.ensures.value)) c.ids_of.ensures
