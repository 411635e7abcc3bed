use Rattle.std.proofs.Common.{◌≡◌, Bool, true, false, List, Vec, Global, ap, ◌∙◌, sym, subst}
use Rattle.std.specs.Prelude.{not, ◌++◌, ◌∷◌, drop}
use Rattle.std.specs.List.{list_any, AllByRecursion}
use Rattle.std.specs.Ordering.{is_eq}
use Rattle.std.specs.declared.cmp.Ordering.TheVariants.{Less, Greater}
use Rattle.std.specs.BTreeSet.{replace_key}
use Rattle.sorted_list.specs.Blocks.{joined, AreBlocks, IsInside, IsWithin, in_front, behind, begins}
use Rattle.sorted_list.proofs.Orders.{IsPut, put_over, put_between}
use Rattle.sorted_list.proofs.list.SortedList.put.Goals as goal
use Rattle.sorted_list.proofs.list.SortedList.put.Goals.{After-replace, In_ok-insert-in-Err}

over : (g : _) (c : goal.After-replace g) → IsPut g.K.Key.order c.self.inside.blocks.items c.in-Ok.place.block c.in-Ok.place.at c.self.invariant c.args.key (joined c.replace.new.blocks.items) true
over g c =
    let test : g.row.K.Denot → Bool = λ k. is_eq (g.K.Key.order c.args.key k) in
    let found = subst (λ (l : List (Vec g.row.K.Denot Global)). IsInside l c.in-Ok.place.block c.in-Ok.place.at × (AreBlocks g.K.Key.order l → begins test (behind l c.in-Ok.place.block c.in-Ok.place.at) ≡ true))
    c.as_slice.ensures.value (c.in-Ok.ensures.inside, c.in-Ok.ensures.found) in
    put_over g.K.Key.order c.self.inside.blocks.items c.in-Ok.place.block c.in-Ok.place.at c.self.invariant g.met.K.Key.total c.args.key found.0 (found.1 c.self.invariant)
    (joined c.replace.new.blocks.items) c.replace.ensures.keys

between : (g : _) (c : goal.In_ok-insert-in-Err g) → IsPut g.K.Key.order c.self.inside.blocks.items c.in-Err.place.block c.in-Err.place.at c.self.invariant c.args.key (joined c.insert.new.blocks.items) false
between g c =
    let order = g.K.Key.order c.args.key in
    let found = subst (λ (l : List (Vec g.row.K.Denot Global)). IsWithin l c.in-Err.place.block c.in-Err.place.at
    × (AreBlocks g.K.Key.order l → AllByRecursion (λ k. order k ≡ Greater) (in_front l c.in-Err.place.block c.in-Err.place.at))
    × (AreBlocks g.K.Key.order l → AllByRecursion (λ k. order k ≡ Less) (behind l c.in-Err.place.block c.in-Err.place.at)))
    c.as_slice.ensures.value (c.in-Err.ensures.within, c.in-Err.ensures.before, c.in-Err.ensures.rest) in
    put_between g.K.Key.order c.self.inside.blocks.items c.in-Err.place.block c.in-Err.place.at c.self.invariant g.met.K.Key.total c.args.key found.0 (found.1 c.self.invariant) (found.2 c.self.invariant)
    (joined c.insert.new.blocks.items) c.in_ok-insert-in-Err.ensures.put

pub invariant_of-self : goal.invariant_of-self
invariant_of-self g c = record { filled = c.replace.ensures.filled c.self.invariant.filled; sorted = (over g c).sorted }

pub invariant_of-self-in-Err : goal.invariant_of-self-in-Err
invariant_of-self-in-Err g c = record { filled = c.insert.ensures.filled c.self.invariant.filled; sorted = (between g c).sorted }

pub returns-in-Ok-clause-put : goal.returns-in-Ok-clause-put
returns-in-Ok-clause-put g c = (over g c).keys ∙ ap (λ (l : List g.row.K.Denot). replace_key g.K.Key.order l c.args.key) c.self.view_is

pub returns-in-Ok-clause-new : goal.returns-in-Ok-clause-new
returns-in-Ok-clause-new g c =
    sym (ap (λ (l : List g.row.K.Denot). not (list_any (λ k. is_eq (g.K.Key.order c.args.key k)) l)) (sym c.self.view_is) ∙ ap not (over g c).tied)

pub returns-in_ok-insert-in-Err-clause-put : goal.returns-in_ok-insert-in-Err-clause-put
returns-in_ok-insert-in-Err-clause-put g c = (between g c).keys ∙ ap (λ (l : List g.row.K.Denot). replace_key g.K.Key.order l c.args.key) c.self.view_is

pub returns-in_ok-insert-in-Err-clause-new : goal.returns-in_ok-insert-in-Err-clause-new
returns-in_ok-insert-in-Err-clause-new g c =
    sym (ap (λ (l : List g.row.K.Denot). not (list_any (λ k. is_eq (g.K.Key.order c.args.key k)) l)) (sym c.self.view_is) ∙ ap not (between g c).tied)
