-- Whether another triple of an item has an attribute with a value.
use Rattle.std.proofs.Common.{◌≡◌, ◌==◌, Bool, true, false, List, ap, eqb-true, eq-eqb}
use Rattle.std.specs.Prelude.{filter, ◌&&◌}
use Rattle.std.specs.List.{list_any}
use Rattle.std.specs.Cmp.{first_so, second_so}
use Rattle.std.proofs.lemmas.Bool.{and_from}
use Rattle.grid_model.specs.Names.{same_text}
use Rattle.grid_model.specs.Rows.{item_number, same_item}
use Rattle.grid_model.specs.declared.deltas.TripleRow.{TripleRow}
use Rattle.grid_model.proofs.Comparing.{same_text-Decides}
use Rattle.tables_laws.proofs.Rows.{IsIn, in_from_any, any_from_in, in_from_filter, filter_from_in}
use Rattle.grid_tables.specs.declared.index_key.ItemWithValue.{ItemWithValue}
use Rattle.grid_tables.specs.KeyOrders.{valued_of, kind_whole}

module _ (left : List TripleRow) (row : TripleRow) where
  -- the triples of its item
  abbrev beside : List TripleRow
  beside = filter (λ r. same_item r.kind r.id row.kind row.id) left

  -- it has the same attribute with the same value
  abbrev is_alike : TripleRow → Bool
  is_alike t = same_text t.attribute row.attribute && same_text t.value row.value

  pub shared_row : list_any is_alike beside ≡ true → (y : TripleRow) × IsIn left y × (valued_of y ≡ valued_of row)
  shared_row e =
      let found = in_from_any is_alike beside e in
      let kept = in_from_filter (λ r. same_item r.kind r.id row.kind row.id) left found.0 found.1 in
      let kind = kind_whole found.0.kind row.kind (eqb-true _ _ (first_so _ _ kept.1)) in
      let id = eqb-true found.0.id row.id (second_so _ _ kept.1) in
      let attribute = (same_text-Decides found.0.attribute row.attribute).0 (first_so _ _ found.2) in
      let value = (same_text-Decides found.0.value row.value).0 (second_so _ _ found.2) in
      (found.0, kept.0, λ i. record { attribute = attribute i; value = value i; kind = kind i; id = id i })

  pub alone_row : list_any is_alike beside ≡ false → (y : TripleRow) → IsIn left y → valued_of y ≡ valued_of row → ⊥
  alone_row e y here same =
      let kind : item_number y.kind ≡ item_number row.kind = ap (λ (k : ItemWithValue). item_number k.kind) same in
      let id : y.id ≡ row.id = ap (λ (k : ItemWithValue). k.id) same in
      let attribute : y.attribute ≡ row.attribute = ap (λ (k : ItemWithValue). k.attribute) same in
      let value : y.value ≡ row.value = ap (λ (k : ItemWithValue). k.value) same in
      let item : same_item y.kind y.id row.kind row.id ≡ true = and_from (item_number y.kind == item_number row.kind) (y.id == row.id)
      (eq-eqb _ _ kind) (eq-eqb _ _ id) in
      let alike : is_alike y ≡ true =
      and_from (same_text y.attribute row.attribute) (same_text y.value row.value) ((same_text-Decides y.attribute row.attribute).1 attribute)
      ((same_text-Decides y.value row.value).1 value) in
      let kept = filter_from_in (λ (r : TripleRow). same_item r.kind r.id row.kind row.id) left y here item in
      let some = any_from_in is_alike beside y kept alike in
      absurd (cc (e, some))
