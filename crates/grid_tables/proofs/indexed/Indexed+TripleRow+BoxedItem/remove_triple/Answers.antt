use Rattle.std.proofs.Common.{List, sym, ap, ◌∙◌, subst}
use Rattle.std.specs.Prelude.{filter, not, ◌&&◌}
use Rattle.std.specs.Ordering.{is_eq}
use Rattle.std.specs.List.{list_any}
use Rattle.grid_model.specs.Names.{same_text}
use Rattle.grid_model.specs.Rows.{triple_cmp}
use Rattle.grid_model.specs.declared.deltas.TripleRow.{TripleRow}
use Rattle.tables_laws.proofs.Rows.{IsIn}
use Rattle.grid_tables.specs.IndexKeys.{AreKeysOf}
use Rattle.grid_tables.specs.KeyOrders.{valued_of, valued_cmp, valued_total, valued_whole, valued_steady}
use Rattle.grid_tables.proofs.IndexKeys.{key-shared, key-alone}
use Rattle.grid_tables.proofs.SharedValues.{shared_row, alone_row}
use Rattle.grid_tables.proofs.indexed.Indexed+TripleRow+BoxedItem.remove_triple.Goals as goal

pub invariant_of-self : goal.invariant_of-self
invariant_of-self c =
    let row = c.args.row.now in
    let told =
    sym (c.has_value-shared.ensures
    ∙ ap (λ (l : List TripleRow). list_any (λ t. same_text t.attribute row.attribute && same_text t.value row.value) l) c.of_item-beside.ensures)
    ∙ c.if-not-shared.true in
    let more = c.remove-then-not-shared.ensures ∙ ap (λ x. filter (λ k. not (is_eq (valued_cmp (valued_of x) k))) c.self.inside.keys) c.new.ensures in
    subst (λ (l : List TripleRow). AreKeysOf valued_of valued_cmp l c.remove-then-not-shared.new.self) (sym c.remove.ensures.left)
    (key-alone triple_cmp valued_of valued_cmp valued_total valued_whole valued_steady c.self.inside.rows row c.self.inside.keys c.self.invariant
    c.remove-then-not-shared.new.self more
    (λ y here. alone_row c.remove.new.self row told y (subst (λ (l : List TripleRow). IsIn l y) (sym c.remove.ensures.left) here)))

pub invariant_of-self-else-not-shared : goal.invariant_of-self-else-not-shared
invariant_of-self-else-not-shared c =
    let row = c.args.row.now in
    let told =
    sym (c.has_value-shared.ensures
    ∙ ap (λ (l : List TripleRow). list_any (λ t. same_text t.attribute row.attribute && same_text t.value row.value) l) c.of_item-beside.ensures)
    ∙ c.if-not-shared.false in
    let other = shared_row c.remove.new.self row told in
    subst (λ (l : List TripleRow). AreKeysOf valued_of valued_cmp l c.self.inside.keys) (sym c.remove.ensures.left)
    (key-shared triple_cmp valued_of valued_cmp valued_total valued_whole valued_steady c.self.inside.rows row c.self.inside.keys c.self.invariant
    other.0 (subst (λ (l : List TripleRow). IsIn l other.0) c.remove.ensures.left other.1) other.2)
