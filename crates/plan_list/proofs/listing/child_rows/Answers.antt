use Rattle.std.proofs.Common.{◌≡◌, ◌+◌, ◌++◌, ◌∷◌, [], List, get_or, drop, sym, ap, subst, ◌∙◌, append_assoc, arith}
use Rattle.std.specs.Prelude.{flat_map}
use Rattle.std.specs.List.{AllByRecursion, list_all}
use Rattle.std.proofs.lemmas.List.{append-nil}
use Rattle.grid_model.specs.Names.{Text}
use Rattle.grid_model.specs.RowGrids.{user_name}
use Rattle.grid_model.specs.Writable.{is_word}
use Rattle.grid_model.specs.declared.deltas.Item.{Item}
use Rattle.grid_model.specs.declared.deltas.Item.TheVariants as item
use Rattle.plan_list.specs.Inside.{IsChildOf}
use Rattle.plan_list.specs.Listing.{shown}
use Rattle.plan_list.proofs.Listed.{later_child}
use Rattle.plan_list.proofs.Turns.{drop_is, drop_none}
use Rattle.plan_list.proofs.listing.child_rows.Goals as goal

pub loop-item-init : goal.loop-item-init
loop-item-init c =
    let f = shown c.args.tables.now (user_name c.args.tables.now c.args.user) c.args.path.now in
    let P : List Item → Type 0 = λ xs. AllByRecursion (IsChildOf c.args.tables.now c.args.id) xs in
    record {
      rows = ap (λ (r : List (List Text)). r ++ flat_map f c.deref-item-items.result.now) c.new-rows.ensures.items;
      later = subst P (sym c.deref-item-items.ensures.value) (later_child c.args.tables.now c.args.id c.in_ok-items.items.items c.in_ok-items.ensures);
      words = ap (list_all (list_all is_word)) c.new-rows.ensures.items;
    }

pub push_shown-requires-clause-child : goal.push_shown-requires-clause-child
push_shown-requires-clause-child c =
    let P : List Item → Type 0 = λ xs. AllByRecursion (IsChildOf c.args.tables.now c.args.id) xs in
    (subst P (drop_is c.deref-item-items.result.now c.loop-item.item-index (item.Object 0) c.loop-item-test.true) c.loop-item.invariant.later).0

pub loop-item-preserved : goal.loop-item-preserved
loop-item-preserved c =
    let f = shown c.args.tables.now (user_name c.args.tables.now c.args.user) c.args.path.now in
    let P : List Item → Type 0 = λ xs. AllByRecursion (IsChildOf c.args.tables.now c.args.id) xs in
    let xs = c.deref-item-items.result.now in
    let x = get_or xs c.loop-item.item-index (item.Object 0) in
    let turn : drop c.loop-item.item-index xs ≡ x ∷ drop (c.loop-item.item-index + 1) xs = drop_is xs c.loop-item.item-index (item.Object 0) c.loop-item-test.true in
    record {
      rows =
          ap (λ (r : List (List Text)). r ++ flat_map f (drop (c.loop-item.item-index + 1) xs)) c.in_ok-push_shown.ensures.rows
          ∙ append_assoc c.loop-item.rows.items (f x) (flat_map f (drop (c.loop-item.item-index + 1) xs))
          ∙ ap (λ (ys : List Item). c.loop-item.rows.items ++ flat_map f ys) (sym turn) ∙ c.loop-item.invariant.rows;
      later = (subst P turn c.loop-item.invariant.later).1;
      words = c.in_ok-push_shown.ensures.words c.loop-item.invariant.words;
    }

pub returns-clause-rows : goal.returns-clause-rows
returns-clause-rows c =
    let f = shown c.args.tables.now (user_name c.args.tables.now c.args.user) c.args.path.now in
    let xs = c.deref-item-items.result.now in
    let none : drop c.loop-item.item-index xs ≡ [] = drop_none xs c.loop-item.item-index (omega (arith, c.loop-item-test.false)) in (
      c.in_ok-items.items.items,
      c.in_ok-items.ensures,
      sym (append-nil c.loop-item.rows.items) ∙ ap (λ (ys : List Item). c.loop-item.rows.items ++ flat_map f ys) (sym none) ∙ c.loop-item.invariant.rows ∙ ap (flat_map f) c.deref-item-items.ensures.value,
    )

pub returns-clause-words : goal.returns-clause-words
returns-clause-words c = c.loop-item.invariant.words
