-- The rows of metadata: when one is there, and what the grid has of them.
use Rattle.std.proofs.Common.{◌≡◌, ◌==◌, Bool, true, false, cond, List, [], ◌∷◌, length, IsTrue, refl, sym, ap, ◌∙◌, subst, eq-eqb, eqb-true}
use Rattle.std.specs.Prelude.{filter, is_some, ◌&&◌, ◌||◌}
use Rattle.std.specs.List.{list_any}
use Rattle.std.specs.Ordering.{nat_cmp, eq_by_cmp}
use Rattle.std.specs.FinMap.{IsAntisymmetric}
use Rattle.std.specs.Cmp.{tied_itself}
use Rattle.std.proofs.lemmas.Bool.{and_parts, and_from}
use Rattle.grid_model.specs.Maps.{has}
use Rattle.grid_model.specs.MapLists.{size}
use Rattle.grid_model.specs.Names.{Text, text_cmp, same_text}
use Rattle.grid_model.specs.Grid.{Triple, thing_triple_cmp}
use Rattle.grid_model.specs.Rows.{Cat, item_there, item_number, same_item, triple_cmp, triples_of, kind_of, id_of}
use Rattle.grid_model.specs.RowPaths.{collection_path}
use Rattle.grid_model.specs.RowGrids.{grid_of, triple_of}
use Rattle.grid_model.specs.Applying.{has_triple}
use Rattle.grid_model.specs.declared.deltas.Delta.TheVariants as delta
use Rattle.grid_model.specs.declared.deltas.Item.{Item}
use Rattle.grid_model.specs.declared.deltas.TripleRow.{TripleRow}
use Rattle.grid_model.proofs.Comparing.{text_cmp-IsAntisymmetric, same_text-Decides, eq_by_cmp-Decides}
use Rattle.grid_model.proofs.RowOrders as orders
use Rattle.grid_journal.specs.Journal.{AreSpelled, can_be_kept}
use Rattle.tables_laws.proofs.Rows.{IsIn, in_from_all, in_from_any}
use Rattle.tables_laws.proofs.Numbered.{same_number}
use Rattle.tables_laws.proofs.TableMaps.{tied_so, get-rows}
use Rattle.tables_laws.proofs.GridOrders.{then_equal, kind_numbered, triple_cmp_total, triple_cmp-IsAntisymmetric}
use Rattle.tables_laws.proofs.Standing.{TripleStands}
use Rattle.tables_laws.proofs.Sound.{IsSound}
use Rattle.tables_laws.proofs.Triples.{triples_apart}
use Rattle.grid_access.proofs.MapEntries.{found-any}
use Rattle.plan_base.proofs.Sizes.{size-rows, apart_in_order}
use Rattle.plan_meta.specs.Things.{row_saying}

-- ---- rows by themselves

-- rows that tie are one
pub row_alone : IsAntisymmetric triple_cmp
row_alone a b e =
    let one = then_equal (nat_cmp (item_number a.kind) (item_number b.kind)) _ e in
    let two = then_equal (nat_cmp a.id b.id) _ one.1 in
    let three = then_equal (text_cmp a.attribute b.attribute) _ two.1 in
    let four = then_equal (text_cmp a.value b.value) (text_cmp a.unit b.unit) three.1 in
    let kinds = kind_numbered a.kind b.kind (same_number (item_number a.kind) (item_number b.kind) one.0) in
    let ids = same_number a.id b.id two.0 in
    let attributes = text_cmp-IsAntisymmetric a.attribute b.attribute three.0 in
    let values = text_cmp-IsAntisymmetric a.value b.value four.0 in
    let units = text_cmp-IsAntisymmetric a.unit b.unit four.1 in
    λ i. record { kind = kinds i; id = ids i; attribute = attributes i; value = values i; unit = units i }

-- a row with these words
abbrev pub has_words : Text → Text → Text → TripleRow → Bool
has_words attribute value unit t = same_text t.attribute attribute && (same_text t.value value && same_text t.unit unit)

-- the row is of the item and has the words
says : (t x : TripleRow) → eq_by_cmp triple_cmp x t ≡ (same_item x.kind x.id t.kind t.id && has_words t.attribute t.value t.unit x)
says t x =
    tied_so orders.triple_cmp_total row_alone x t (same_item x.kind x.id t.kind t.id && has_words t.attribute t.value t.unit x)
    (λ same. ap (λ (y : TripleRow). same_item y.kind y.id t.kind t.id && has_words t.attribute t.value t.unit y) same ∙ itself)
    (λ e. let parts = and_parts (same_item x.kind x.id t.kind t.id) (has_words t.attribute t.value t.unit x) e in
    let items = and_parts (item_number x.kind == item_number t.kind) (x.id == t.id) parts.0 in
    let words = and_parts (same_text x.attribute t.attribute) (same_text x.value t.value && same_text x.unit t.unit) parts.1 in
    let others = and_parts (same_text x.value t.value) (same_text x.unit t.unit) words.1 in
    let kinds = kind_numbered x.kind t.kind (eqb-true (item_number x.kind) (item_number t.kind) items.0) in
    let ids = eqb-true x.id t.id items.1 in
    let attributes = (same_text-Decides x.attribute t.attribute).0 words.0 in
    let values = (same_text-Decides x.value t.value).0 others.0 in
    let units = (same_text-Decides x.unit t.unit).0 others.1 in
    λ i. record { kind = kinds i; id = ids i; attribute = attributes i; value = values i; unit = units i })
  where
    itself : (same_item t.kind t.id t.kind t.id && has_words t.attribute t.value t.unit t) ≡ true
    itself =
        and_from (same_item t.kind t.id t.kind t.id) (has_words t.attribute t.value t.unit t)
        (and_from (item_number t.kind == item_number t.kind) (t.id == t.id) (eq-eqb (item_number t.kind) (item_number t.kind) refl) (eq-eqb t.id t.id refl))
        (and_from (same_text t.attribute t.attribute) (same_text t.value t.value && same_text t.unit t.unit) ((same_text-Decides t.attribute t.attribute).1 refl)
        (and_from (same_text t.value t.value) (same_text t.unit t.unit) ((same_text-Decides t.value t.value).1 refl) ((same_text-Decides t.unit t.unit).1 refl)))

any-both : {X : Type 0} (p q r : X → Bool) (xs : List X) → ((x : X) → r x ≡ (p x && q x)) → list_any q (filter p xs) ≡ list_any r xs
any-both p q r [] tells = refl
any-both p q r (x ∷ xs) tells =
    by (p x) (any-both p q r xs tells) ∙ ap (λ b. b || list_any r xs) (sym (tells x))
  where
    by : (b : Bool) → list_any q (filter p xs) ≡ list_any r xs → list_any q (cond b (x ∷ filter p xs) (filter p xs)) ≡ ((b && q x) || list_any r xs)
    by true more = ap (λ d. q x || d) more
    by false more = more

-- one of the rows of an item has the words where the row of all is there
pub said_there : (c : Cat) (i : Item) (attribute value unit : Text) (rows : List TripleRow) → rows ≡ triples_of c (kind_of i) (id_of i)
    → list_any (has_words attribute value unit) rows ≡ has_triple c (row_saying i attribute value unit)
said_there c i attribute value unit rows is =
    ap (list_any (has_words attribute value unit)) is
    ∙ any-both (λ (x : TripleRow). same_item x.kind x.id (kind_of i) (id_of i)) (has_words attribute value unit) (λ x. eq_by_cmp triple_cmp x (row_saying i attribute value unit)) c.triples
    (says (row_saying i attribute value unit))

-- a row that is there may be kept
pub there_kept : (c : Cat) (t : TripleRow) → AreSpelled c.triples → has_triple c t ≡ true → IsTrue (can_be_kept (delta.NoTriple t))
there_kept c t spelled there =
    let found = in_from_any (λ o. eq_by_cmp triple_cmp o t) c.triples there in
    let same : found.0 ≡ t = (eq_by_cmp-Decides orders.triple_cmp_total row_alone found.0 t).0 found.2 in
    let P : TripleRow → Type 0 = λ x. IsTrue (can_be_kept (delta.NoTriple x)) in
    subst P same (in_from_all P c.triples spelled found.0 found.1)

-- ---- what the grid has of them

module _ (c : Cat) (s : IsSound c) where
  abbrev pub triple_at : TripleRow → Triple
  triple_at x = triple_of c (collection_path c) x

  row_stands : (x : TripleRow) → IsIn c.triples x → TripleStands c x
  row_stands x here = in_from_all (TripleStands c) c.triples s.tied.triples x here

  pub has-triple : (t : TripleRow) → item_there c t.kind t.id ≡ true → has (grid_of c).triples (triple_at t) ≡ has_triple c t
  has-triple t there =
      ap is_some (get-rows triple_cmp_total triple_at (λ _. tt) c.triples (triple_at t))
      ∙ found-any (λ x. eq_by_cmp thing_triple_cmp (triple_at x) (triple_at t)) (λ x. eq_by_cmp triple_cmp x t) (λ _. tt) c.triples (λ x here.
      tied_so triple_cmp_total triple_cmp-IsAntisymmetric (triple_at x) (triple_at t) (eq_by_cmp triple_cmp x t)
      (λ same. (eq_by_cmp-Decides orders.triple_cmp_total row_alone x t).1 (triples_apart c s t there x (row_stands x here) same))
      (λ e. ap triple_at ((eq_by_cmp-Decides orders.triple_cmp_total row_alone x t).0 e)))

  pub size-triples : size (grid_of c).triples ≡ length c.triples
  size-triples =
      size-rows triple_cmp_total triple_cmp-IsAntisymmetric triple_at (λ (x : TripleRow). tt) c.triples
      (apart_in_order triple_at triple_cmp c.triples s.cat.triples.ordered (λ x y here there e.
      ap (triple_cmp x) (triples_apart c s x (row_stands x here) y (row_stands y there) e) ∙ tied_itself orders.triple_cmp_total x))
