-- The grid once metadata was put or taken away.
use Rattle.std.proofs.Common.{◌≡◌, true, List, Ok, refl, sym, ap, ◌∙◌}
use Rattle.std.specs.Prelude.{filter, not, ◌&&◌}
use Rattle.std.specs.Ordering.{nat_cmp, eq_by_cmp, is_eq}
use Rattle.std.specs.FinMap.{IsAntisymmetric}
use Rattle.std.specs.Cmp.{Equal-is, tied_itself}
use Rattle.std.proofs.lemmas.Bool.{and_parts}
use Rattle.grid_model.specs.Maps.{Set, add, remove}
use Rattle.grid_model.specs.Names.{text_cmp}
use Rattle.grid_model.specs.Grid.{Triple, thing_triple_cmp}
use Rattle.grid_model.specs.Rows.{Cat, item_there, item_number, with_row, empty_cat}
use Rattle.grid_model.specs.Rows as rows
use Rattle.grid_model.specs.RowPaths.{collection_path}
use Rattle.grid_model.specs.RowGrids.{grid_of, triple_of}
use Rattle.grid_model.specs.Applying.{apply, apply_all, has_triple}
use Rattle.grid_model.specs.declared.deltas.Delta.{Delta}
use Rattle.grid_model.specs.declared.deltas.Delta.TheVariants as delta
use Rattle.grid_model.specs.declared.deltas.TripleRow.{TripleRow}
use Rattle.grid_model.proofs.Comparing.{text_cmp-IsAntisymmetric}
use Rattle.grid_model.proofs.RowOrders as orders
use Rattle.tables_laws.proofs.Rows.{IsIn, in_from_all}
use Rattle.tables_laws.proofs.Numbered.{same_number}
use Rattle.tables_laws.proofs.RowLists.{not_not}
use Rattle.tables_laws.proofs.TableMaps.{tied_so, from_list-with_row, from_list-without}
use Rattle.tables_laws.proofs.GridOrders.{then_equal, kind_numbered, triple_cmp_total, triple_cmp-IsAntisymmetric}
use Rattle.tables_laws.proofs.Standing.{TripleStands}
use Rattle.tables_laws.proofs.Places.{things_apart}
use Rattle.tables_laws.proofs.Sound.{IsSound, sound-made, fits_so}
use Rattle.tables_laws.proofs.Grids.{grid-same}

-- rows that tie are one
row_same : IsAntisymmetric rows.triple_cmp
row_same a b e =
    let one = then_equal (nat_cmp (item_number a.kind) (item_number b.kind)) _ e in
    let two = then_equal (nat_cmp a.id b.id) _ one.1 in
    let three = then_equal (text_cmp a.attribute b.attribute) _ two.1 in
    let four = then_equal (text_cmp a.value b.value) (text_cmp a.unit b.unit) three.1 in
    let kinds = kind_numbered a.kind b.kind (same_number (item_number a.kind) (item_number b.kind) one.0) in
    let ids = same_number a.id b.id two.0 in
    let attributes = text_cmp-IsAntisymmetric a.attribute b.attribute three.0 in
    let values = text_cmp-IsAntisymmetric a.value b.value four.0 in
    let units = text_cmp-IsAntisymmetric a.unit b.unit four.1 in
    λ i. record { kind = kinds i; id = ids i; attribute = attributes i; value = values i; unit = units i }

module _ (c : Cat) (s : IsSound c) (t : TripleRow) (there : item_there c t.kind t.id ≡ true) where
  abbrev key : TripleRow → Triple
  key x = triple_of c (collection_path c) x

  -- other rows are other metadata
  pub triples_apart : (x : TripleRow) → TripleStands c x → key x ≡ key t → x ≡ t
  triples_apart x stands same =
      let items = things_apart c s x.kind t.kind x.id t.id stands there (ap (λ (k : Triple). k.of) same) in
      λ i. record { kind = items.0 i; id = items.1 i; attribute = (same i).attribute; value = (same i).value; unit = (same i).unit }

  row_is : (x : TripleRow) → IsIn c.triples x → key x ≡ key t → x ≡ t
  row_is x here same = triples_apart x (in_from_all (TripleStands c) c.triples s.tied.triples x here) same

  pub grid-with_triple : grid_of (record c { triples = with_row rows.triple_cmp c.triples t }) ≡ record (grid_of c) { triples = add (grid_of c).triples (key t) }
  grid-with_triple =
      grid-same c (record c { triples = with_row rows.triple_cmp c.triples t }) refl (record (grid_of c) { triples = add (grid_of c).triples (key t) }) (
      ap (λ (ts : Set thing_triple_cmp). record (grid_of c) { triples = ts }) (
      from_list-with_row triple_cmp_total rows.triple_cmp key (λ x. tt) triple_cmp-IsAntisymmetric c.triples t (λ x here.
      tied_so triple_cmp_total triple_cmp-IsAntisymmetric (key x) (key t) (is_eq (rows.triple_cmp t x))
      (λ same. ap (λ (y : TripleRow). is_eq (rows.triple_cmp t y)) (row_is x here same) ∙ ap is_eq (tied_itself orders.triple_cmp_total t))
      (λ e. ap key (sym (row_same t x ((Equal-is (rows.triple_cmp t x)).0 e)))))))

  pub grid-without_triple : grid_of (record c { triples = filter (λ o. not (eq_by_cmp rows.triple_cmp o t)) c.triples }) ≡ record (grid_of c) { triples = remove (grid_of c).triples (key t) }
  grid-without_triple =
      grid-same c (record c { triples = filter (λ o. not (eq_by_cmp rows.triple_cmp o t)) c.triples }) refl (record (grid_of c) { triples = remove (grid_of c).triples (key t) }) (
      ap (λ (ts : Set thing_triple_cmp). record (grid_of c) { triples = ts }) (
      from_list-without triple_cmp_total rows.triple_cmp key (λ x. tt) triple_cmp-IsAntisymmetric c.triples (λ o. not (eq_by_cmp rows.triple_cmp o t)) (key t) (λ x here.
      tied_so triple_cmp_total triple_cmp-IsAntisymmetric (key x) (key t) (eq_by_cmp rows.triple_cmp x t)
      (λ same. ap (λ (y : TripleRow). is_eq (rows.triple_cmp y t)) (row_is x here same) ∙ ap is_eq (tied_itself orders.triple_cmp_total t))
      (λ e. ap key (row_same x t ((Equal-is (rows.triple_cmp x t)).0 e)))
      ∙ not_not (eq_by_cmp rows.triple_cmp x t))))

pub grid-triple : (deltas : List Delta) (c d : Cat) (row : TripleRow) → apply_all empty_cat deltas ≡ Ok c → apply c (delta.Triple row) ≡ Ok d
    → grid_of d ≡ record (grid_of c) { triples = add (grid_of c).triples (triple_of c (collection_path c) row) }
grid-triple deltas c d row made e =
    let so = fits_so (item_there c row.kind row.id && not (has_triple c row)) 11 (record c { triples = with_row rows.triple_cmp c.triples row }) d e in
    ap (λ (x : Cat). grid_of x) (sym so.1) ∙ grid-with_triple c (sound-made deltas c made) row (and_parts (item_there c row.kind row.id) (not (has_triple c row)) so.0).0

pub grid-no_triple : (deltas : List Delta) (c d : Cat) (row : TripleRow) → apply_all empty_cat deltas ≡ Ok c → apply c (delta.NoTriple row) ≡ Ok d
    → grid_of d ≡ record (grid_of c) { triples = remove (grid_of c).triples (triple_of c (collection_path c) row) }
grid-no_triple deltas c d row made e =
    let so = fits_so (item_there c row.kind row.id && has_triple c row) 12 (record c { triples = filter (λ o. not (eq_by_cmp rows.triple_cmp o row)) c.triples }) d e in
    ap (λ (x : Cat). grid_of x) (sym so.1) ∙ grid-without_triple c (sound-made deltas c made) row (and_parts (item_there c row.kind row.id) (has_triple c row) so.0).0
