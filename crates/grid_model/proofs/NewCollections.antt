-- What a new collection does to the catalogue's paths and to its grid.
use Rattle.std.proofs.Common.{◌≡◌, ◌≢◌, ℕ, zero, suc, Bool, true, false, List, [], ◌∷◌, length, Option, Some, None, IsTrue, refl, sym, ap, ◌∙◌, subst, arith}
use Rattle.std.specs.Prelude.{find, option_map, is_some, ◌||◌, ◌==◌, reverse}
use Rattle.std.specs.List.{list_any, AllByRecursion}
use Rattle.std.specs.declared.cmp.Ordering.TheVariants.{Equal}
use Rattle.std.specs.FinMap.{nat_cmp-IsAntisymmetric}
use Rattle.grid_model.specs.Names.{Path}
use Rattle.grid_model.specs.Rows.{Cat, collection_cmp, collection, has_collection}
use Rattle.grid_model.specs.RowPaths.{is_path_of, names_within, names_up, collection_path, collection_at}
use Rattle.grid_model.specs.NewRows.{with_collection_row}
use Rattle.grid_model.specs.declared.deltas.CollectionRow.{CollectionRow}
use Rattle.grid_model.proofs.FoundRows.{is_some-find, find-other, find-new, none_passes, length-new, found_passes}
use Rattle.grid_model.proofs.TableLemmas.{find-passes}
use Rattle.grid_model.proofs.Comparing.{same_path-Decides}

-- ---- rows that are there

pub eqb-eq : (a b : ℕ) → (a == b) ≡ true → a ≡ b
eqb-eq a b e = grind arith

pub eqb-true : (a b : ℕ) → a ≡ b → (a == b) ≡ true
eqb-true a b e = grind arith

pub eqb-false : (a b : ℕ) → a ≢ b → (a == b) ≡ false
eqb-false a b ne = grind arith

-- no row has the id of a fresh one
other_keys : (rows : List CollectionRow) (r : CollectionRow) → list_any (λ x. x.id == r.id) rows ≡ false → AllByRecursion (λ x. collection_cmp r x ≡ Equal → ⊥) rows
other_keys [] r e = tt
other_keys (x ∷ rows) r e = by_first (x.id == r.id) refl e (other_keys rows r)
  where
    by_first : (b : Bool) → (x.id == r.id) ≡ b → (b || list_any (λ x. x.id == r.id) rows) ≡ false → (list_any (λ x. x.id == r.id) rows ≡ false → AllByRecursion (λ x. collection_cmp r x ≡ Equal → ⊥) rows)
        → AllByRecursion (λ x. collection_cmp r x ≡ Equal → ⊥) (x ∷ rows)
    by_first true is none more = absurd (cc)
    by_first false is none more = (λ same. let e : r.id ≡ x.id = nat_cmp-IsAntisymmetric r.id x.id same in let t : (x.id == r.id) ≡ true = eqb-true x.id r.id (sym e) in cc, more none)

module _ (c : Cat) (r : CollectionRow) (fresh : has_collection c r.id ≡ false) where
  pub others : AllByRecursion (λ x. collection_cmp r x ≡ Equal → ⊥) c.collections
  others = other_keys c.collections r fresh

  -- the rows by id
  pub collection-other : (id : ℕ) → (r.id == id) ≡ false → collection (with_collection_row c r) id ≡ collection c id
  collection-other id other = find-other collection_cmp (λ x. x.id == id) c.collections r others other

  pub collection-fresh : collection c r.id ≡ None
  collection-fresh = by_option (collection c r.id) refl
    where
      by_option : (o : Option CollectionRow) → collection c r.id ≡ o → collection c r.id ≡ None
      by_option None e = e
      by_option (Some x) e = let t : is_some (collection c r.id) ≡ true = ap is_some e in let f : is_some (collection c r.id) ≡ false = is_some-find (λ x. x.id == r.id) c.collections ∙ fresh in absurd (cc)

  pub collection-new : collection (with_collection_row c r) r.id ≡ Some r
  collection-new = find-new collection_cmp (λ x. x.id == r.id) c.collections r (none_passes (λ x. x.id == r.id) c.collections collection-fresh) (eqb-true r.id r.id refl)

  collection-kept : (id : ℕ) (x : CollectionRow) → collection c id ≡ Some x → collection (with_collection_row c r) id ≡ Some x
  collection-kept id x e = by_id (r.id == id) refl
    where
      by_id : (b : Bool) → (r.id == id) ≡ b → collection (with_collection_row c r) id ≡ Some x
      by_id true same = let same_id : r.id ≡ id = eqb-eq r.id id same in let none : collection c id ≡ None = ap (collection c) (sym same_id) ∙ collection-fresh in absurd (cc)
      by_id false other = collection-other id other ∙ e

-- ---- names

-- the names from an item on, by whether it is `/`, its row, and the names from its parent on
abbrev pub walk : Bool → Option CollectionRow → (ℕ → Option Path) → Option Path
walk is_root row above = elim is_root [ true ↦ Some [] | false ↦ elim row [ None ↦ None | Some r ↦ option_map (λ names. r.name ∷ names) (above r.parent) ] ]

walk-more : (is_root : Bool) (row row' : Option CollectionRow) (above above' : ℕ → Option Path) (p : Path) → ((x : CollectionRow) → row ≡ Some x → row' ≡ Some x)
    → ((id : ℕ) (q : Path) → above id ≡ Some q → above' id ≡ Some q) → walk is_root row above ≡ Some p → walk is_root row' above' ≡ Some p
walk-more true row row' above above' p rows names e = e
walk-more false None row' above above' p rows names e = absurd (cc)
walk-more false (Some x) row' above above' p rows names e =
    ap (λ o. walk false o above') (rows x refl) ∙ by_names (above x.parent) refl e
  where
    by_names : (o : Option Path) → above x.parent ≡ o → option_map (λ names. x.name ∷ names) o ≡ Some p → option_map (λ names. x.name ∷ names) (above' x.parent) ≡ Some p
    by_names None is none = absurd (cc)
    by_names (Some q) is some = ap (option_map (λ names. x.name ∷ names)) (names x.parent q is) ∙ some

-- with one step more they are the same
pub names-more : (c : Cat) (n : ℕ) (id : ℕ) (p : Path) → names_within n c id ≡ Some p → names_within (suc n) c id ≡ Some p
names-more c zero id p e = absurd (cc)
names-more c (suc n) id p e = walk-more (id == 0) (collection c id) (collection c id) (names_within n c) (names_within (suc n) c) p (λ x is. is) (λ q x. names-more c n q x) e

-- a path of names from `/` down
pub at_path : (c : Cat) (id : ℕ) (p up : Path) → names_up c id ≡ Some up → reverse up ≡ p → collection_path c id ≡ Some p
at_path c id p up e is = ap (option_map reverse) e ∙ ap Some is

pub is_path_of-true : (o : Option Path) (q : Path) → is_path_of o q ≡ true → o ≡ Some q
is_path_of-true None q e = absurd (cc)
is_path_of-true (Some p) q e = ap Some ((same_path-Decides p q).0 e)

pub record Up (c : Cat) (id : ℕ) (p : Path) : Type 0 where
  pub up : Path
  pub is : names_up c id ≡ Some up
  pub turned : reverse up ≡ p

pub up_of : (c : Cat) (id : ℕ) (p : Path) → collection_path c id ≡ Some p → Up c id p
up_of c id p e = by_names (names_up c id) refl e
  where
    by_names : (o : Option Path) → names_up c id ≡ o → option_map reverse o ≡ Some p → Up c id p
    by_names None is none = absurd (cc)
    by_names (Some up) is some = record { up = up; is = is; turned = cc }

pub record At (c : Cat) (id : ℕ) (p : Path) : Type 0 where
  pub path : collection_path c id ≡ Some p
  pub there : has_collection c id ≡ true

-- what is looked up by its path has the path
pub at_of : (c : Cat) (id : ℕ) (p : Path) → collection_at c p ≡ Some id → At c id p
at_of c id p e = by_row (find (λ r. is_path_of (collection_path c r.id) p) c.collections) refl e
  where
    by_row : (o : Option CollectionRow) → find (λ r. is_path_of (collection_path c r.id) p) c.collections ≡ o → option_map (λ r. r.id) o ≡ Some id → At c id p
    by_row None is none = absurd (cc)
    by_row (Some x) is some =
        let same : x.id ≡ id = cc in
        record {
          path = ap (collection_path c) (sym same) ∙ is_path_of-true (collection_path c x.id) p (find-passes (λ r. is_path_of (collection_path c r.id) p) c.collections x (sym is));
          there = found_passes (λ y. y.id == id) (λ r. is_path_of (collection_path c r.id) p) c.collections x is (eqb-true x.id id same);
        }

module _ (c : Cat) (r : CollectionRow) (fresh : has_collection c r.id ≡ false) where
  -- with more rows the names that were there stay
  pub names-kept : (n : ℕ) (id : ℕ) (p : Path) → names_within n c id ≡ Some p → names_within n (with_collection_row c r) id ≡ Some p
  names-kept zero id p e = absurd (cc)
  names-kept (suc n) id p e =
      walk-more (id == 0) (collection c id) (collection (with_collection_row c r) id) (names_within n c) (names_within n (with_collection_row c r)) p (collection-kept c r fresh id) (λ q x. names-kept n q x) e

  pub one_more : length (with_collection_row c r).collections ≡ suc (length c.collections)
  one_more = length-new collection_cmp c.collections r (others c r fresh)

  pub up-kept : (id : ℕ) (p : Path) → names_up c id ≡ Some p → names_up (with_collection_row c r) id ≡ Some p
  up-kept id p e =
      subst (λ (n : ℕ). names_within n (with_collection_row c r) id ≡ Some p) (sym one_more) (names-more (with_collection_row c r) (length c.collections) id p (names-kept (length c.collections) id p e))

  pub up-new : r.id ≢ 0 → (up : Path) → names_up c r.parent ≡ Some up → names_up (with_collection_row c r) r.id ≡ Some (r.name ∷ up)
  up-new some_id up e =
      subst (λ (n : ℕ). names_within n (with_collection_row c r) r.id ≡ Some (r.name ∷ up)) (sym one_more)
      (ap (λ b. walk b (collection (with_collection_row c r) r.id) (names_within (length c.collections) (with_collection_row c r))) (eqb-false r.id 0 some_id)
      ∙ ap (λ o. walk false o (names_within (length c.collections) (with_collection_row c r))) (collection-new c r fresh)
      ∙ ap (option_map (λ names. r.name ∷ names)) (names-kept (length c.collections) r.parent up e))

  pub path-kept : (id : ℕ) → IsTrue (is_some (names_up c id)) → collection_path (with_collection_row c r) id ≡ collection_path c id
  path-kept id some = by_names (names_up c id) refl some
    where
      by_names : (o : Option Path) → names_up c id ≡ o → IsTrue (is_some o) → collection_path (with_collection_row c r) id ≡ collection_path c id
      by_names None is none = absurd (cc)
      by_names (Some up) is s = ap (option_map reverse) (up-kept id up is) ∙ sym (ap (option_map reverse) is)
