-- Rows that are found by parent and name, and what is free there.
use Rattle.std.proofs.Common.{◌≡◌, ◌==◌, ℕ, suc, Bool, true, false, cond, List, [], ◌∷◌, length, Some, None, refl, sym, ap, ◌∙◌, arith, eqb-true, eq-eqb}
use Rattle.std.specs.Prelude.{find, filter, not, ◌&&◌, ◌||◌, IsTrue}
use Rattle.std.specs.List.{list_any}
use Rattle.std.specs.Cmp.{first_so, second_so}
use Rattle.grid_model.specs.Names.{Text, is_name, same_text}
use Rattle.grid_model.specs.Rows.{Cat, IsTable, has_collection, collection_cmp, is_named_collection}
use Rattle.grid_model.specs.Applying.{is_child_named, free_for_collection, collection_fits, lies_in}
use Rattle.grid_model.specs.declared.deltas.CollectionRow.{CollectionRow}
use Rattle.grid_model.proofs.Comparing.{same_text-Decides}
use Rattle.grid_model.proofs.TableLemmas.{all-map}
use Rattle.grid_model.proofs.FoundRows.{none_is_found, none_passes, none_any}
use Rattle.tables_laws.proofs.Rows.{IsIn, any_from_in, in_from_all, all_from_in, in_from_find, find_from_in}
use Rattle.grid_tables.specs.Indexes.{is_placed, IsPlacedOnce}
use Rattle.grid_tables.specs.Roots.{is_whole_collection}
use Rattle.grid_tables.proofs.Indexes.{alike}

-- two tests that answer alike
pub any_alike : {X : Type 0} (p q : X → Bool) → ((x : X) → p x ≡ q x) → (rows : List X) → list_any p rows ≡ list_any q rows
any_alike p q same [] = refl
any_alike p q same (r ∷ rows) = ap (λ b. b || list_any p rows) (same r) ∙ ap (λ b. q r || b) (any_alike p q same rows)

-- some row is kept where one passes
pub some_kept : {X : Type 0} (p : X → Bool) (rows : List X) → not (length (filter p rows) == 0) ≡ list_any p rows
some_kept p [] = refl
some_kept {X = X} p (r ∷ rows) =
    elim (p r) as (λ b. not (length {A = X} (cond b (r ∷ filter p rows) (filter p rows)) == 0) ≡ (b || list_any p rows)) [
      | true ↦ let some : (suc (length (filter p rows)) == 0) ≡ false = grind arith in ap not some
      | false ↦ some_kept p rows
    ]

-- a test of the rows that are kept
pub any_kept : {X : Type 0} (p q : X → Bool) (rows : List X) → list_any q (filter p rows) ≡ list_any (λ r. p r && q r) rows
any_kept p q [] = refl
any_kept {X = X} p q (r ∷ rows) =
    elim (p r) as (λ b. list_any q (cond b (r ∷ filter p rows) (filter p rows)) ≡ ((b && q r) || list_any (λ x. p x && q x) rows)) [
      | true ↦ ap (λ b. q r || b) (any_kept p q rows)
      | false ↦ any_kept p q rows
    ]

pub last_first : (a b c : Bool) → ((a && b) && c) ≡ ((a && c) && b)
last_first true true true = refl
last_first true true false = refl
last_first true false true = refl
last_first true false false = refl
last_first false b c = refl

pub grouped : (a b c : Bool) → (a && (b && c)) ≡ ((a && b) && c)
grouped true b c = refl
grouped false b c = refl

pub turned : (a b : Bool) → (a && b) ≡ (b && a)
turned true true = refl
turned true false = refl
turned false true = refl
turned false false = refl

pub other_first : (a b c d : Bool) → ((a && c) && (d && b)) ≡ (d && ((a && b) && c))
other_first true b true true = turned_true b
  where
    turned_true : (b : Bool) → b ≡ (b && true)
    turned_true true = refl
    turned_true false = refl
other_first true true false true = refl
other_first true false false true = refl
other_first true b true false = refl
other_first true b false false = refl
other_first false b c true = refl
other_first false b c false = refl

-- ---- collections

whole_named : (r : CollectionRow) → IsTrue (is_whole_collection r) → IsTrue (is_named_collection r)
whole_named r = by (r.id == 0)
  where
    by : (b : Bool) → IsTrue (elim b [ true ↦ length r.name == 0 | false ↦ is_name r.name ]) → IsTrue (b || is_name r.name)
    by true h = refl
    by false h = h

pub named_table : (rows : List CollectionRow) → IsTable collection_cmp is_whole_collection rows → IsTable collection_cmp is_named_collection rows
named_table rows table = record {
  ordered = table.ordered;
  fit = all-map (λ r. IsTrue (is_whole_collection r)) (λ r. IsTrue (is_named_collection r)) whole_named rows table.fit;
}

-- what has a name has some bytes
named_some : (t : Text) → is_name t ≡ true → (length t == 0) ≡ true → ⊥
named_some [] named empty = absurd (cc)
named_some (b ∷ t) named empty = let some : (suc (length t) == 0) ≡ false = grind arith in absurd (cc)

pub free_collection : (c : Cat) (r : CollectionRow) → IsTable collection_cmp is_whole_collection c.collections → collection_fits c r ≡ true
    → list_any (λ o. is_placed (λ (x : CollectionRow). x.parent) (λ x. x.name) r.parent r.name o && not (o.id == r.id)) c.collections ≡ false
free_collection c r table fits = none_any _ c.collections (all_from_in _ c.collections (λ o here. none o here))
  where
    fits_by : (b : Bool) → (r.id == 0) ≡ b → elim b [
      | true ↦ (r.parent == 0) && (length r.name == 0)
      | false ↦ has_collection c r.parent && not (lies_in c r.id r.parent) && is_name r.name && free_for_collection c r.id r.parent r.name
    ] ≡ true → (o : CollectionRow) → IsIn c.collections o → same_text o.name r.name ≡ true → (o.parent == r.parent) ≡ true → not (o.id == r.id) ≡ true → ⊥
    fits_by true root f o here same above other =
        let names : o.name ≡ r.name = (same_text-Decides o.name r.name).0 same in
        let empty : (length o.name == 0) ≡ true = ap (λ (t : Text). length t == 0) names ∙ second_so _ _ f in
        let whole : is_whole_collection o ≡ true = in_from_all (λ x. IsTrue (is_whole_collection x)) c.collections table.fit o here in
        let apart : (o.id == 0) ≡ false = not_so (o.id == 0) (ap (λ n. not (o.id == n)) (sym (eqb-true r.id 0 root)) ∙ other) in
        let named : is_name o.name ≡ true = sym (ap (λ b. elim b [ true ↦ length o.name == 0 | false ↦ is_name o.name ]) apart) ∙ whole in
        named_some o.name named empty
      where
        not_so : (b : Bool) → not b ≡ true → b ≡ false
        not_so true e = absurd (cc)
        not_so false e = refl
    fits_by false below f o here same above other =
        let free = second_so _ _ f in
        let rest = first_so _ _ f in
        let named : is_name r.name ≡ true = second_so _ _ rest in
        let none : not (list_any (λ x. not (x.id == r.id) && is_child_named r.parent r.name x) c.collections) ≡ true = first_so _ _ free in
        by_root (o.id == 0) refl named none
      where
        by_root : (b : Bool) → (o.id == 0) ≡ b → is_name r.name ≡ true → not (list_any (λ x. not (x.id == r.id) && is_child_named r.parent r.name x) c.collections) ≡ true → ⊥
        by_root true e named none =
            let whole : is_whole_collection o ≡ true = in_from_all (λ x. IsTrue (is_whole_collection x)) c.collections table.fit o here in
            let empty : (length o.name == 0) ≡ true = sym (ap (λ b. elim b [ true ↦ length o.name == 0 | false ↦ is_name o.name ]) e) ∙ whole in
            let names : o.name ≡ r.name = (same_text-Decides o.name r.name).0 same in
            named_some r.name named (ap (λ (t : Text). length t == 0) (sym names) ∙ empty)
        by_root false e named none =
            let child : is_child_named r.parent r.name o ≡ true = rw (above, e, same) refl in
            let passed : (not (o.id == r.id) && is_child_named r.parent r.name o) ≡ true = rw (other, child) refl in
            let some = any_from_in (λ x. not (x.id == r.id) && is_child_named r.parent r.name x) c.collections o here passed in
            absurd (cc)

    none : (o : CollectionRow) → IsIn c.collections o → (is_placed (λ (x : CollectionRow). x.parent) (λ x. x.name) r.parent r.name o && not (o.id == r.id)) ≡ false
    none o here = by ((o.parent == r.parent) && same_text o.name r.name) (not (o.id == r.id)) refl refl
      where
        by : (a b : Bool) → ((o.parent == r.parent) && same_text o.name r.name) ≡ a → not (o.id == r.id) ≡ b → (a && b) ≡ false
        by true true p q = absurd (fits_by (r.id == 0) refl fits o here (second_so _ _ p) (first_so _ _ p) q)
        by true false p q = refl
        by false b p q = refl

module _ (rows : List CollectionRow) (once : IsPlacedOnce (λ (r : CollectionRow). r.parent) (λ r. r.name) rows) (above : ℕ) (called : Text) where
  abbrev placed : CollectionRow → Bool
  placed = is_placed (λ (r : CollectionRow). r.parent) (λ r. r.name) above called

  child_placed : (r : CollectionRow) → is_child_named above called r ≡ true → (placed r ≡ true) × (not (r.id == 0) ≡ true)
  child_placed r e =
      let child = first_so _ _ e in
      let at : (r.parent == above) ≡ true = first_so _ _ child in
      let same : same_text r.name called ≡ true = second_so _ _ e in
      (rw (at, same) refl, second_so _ _ child)

  placed_child : (r : CollectionRow) → placed r ≡ true → not (r.id == 0) ≡ true → is_child_named above called r ≡ true
  placed_child r e other =
      let at : (r.parent == above) ≡ true = first_so _ _ e in
      let same : same_text r.name called ≡ true = second_so _ _ e in
      rw (at, other, same) refl

  one : (x y : CollectionRow) → IsIn rows x → IsIn rows y → placed x ≡ true → placed y ≡ true → x ≡ y
  one x y here there p q = once x y here there (alike (λ (r : CollectionRow). r.parent) (λ r. r.name) above called x y p q)

  fails : (r : CollectionRow) → (is_child_named above called r ≡ true → ⊥) → is_child_named above called r ≡ false
  fails r none = by (is_child_named above called r) refl
    where
      by : (b : Bool) → is_child_named above called r ≡ b → b ≡ false
      by true e = absurd (none e)
      by false e = refl

  pub no_child : None ≡ find (λ r. placed r) rows → find (λ r. is_child_named above called r) rows ≡ None
  no_child none =
      none_is_found _ rows (all_from_in _ rows (λ x here. fails x (λ e.
      let no : placed x ≡ false = in_from_all (λ y. placed y ≡ false) rows (none_passes placed rows (sym none)) x here in
      let yes = (child_placed x e).0 in
      absurd (cc))))

  pub root_only : (r : CollectionRow) → Some r ≡ find (λ x. placed x) rows → r.id ≡ 0 → find (λ x. is_child_named above called x) rows ≡ None
  root_only r found root =
      let row = in_from_find placed rows r (sym found) in
      none_is_found _ rows (all_from_in _ rows (λ x here. fails x (λ e.
      let both = child_placed x e in
      let same : x ≡ r = one x r here row.0 both.0 row.1 in
      let zero : (x.id == 0) ≡ true = eq-eqb x.id 0 (ap (λ (y : CollectionRow). y.id) same ∙ root) in
      let no = both.1 in
      absurd (cc))))

  pub child_found : (r : CollectionRow) → Some r ≡ find (λ x. placed x) rows → (r.id ≡ 0 → ⊥) → find (λ x. is_child_named above called x) rows ≡ Some r
  child_found r found below =
      let row = in_from_find placed rows r (sym found) in
      find_from_in (λ x. is_child_named above called x) rows r row.0 (placed_child r row.1 (other (r.id == 0) refl))
      (λ y there e. one y r there row.0 (child_placed y e).0 row.1)
    where
      other : (b : Bool) → (r.id == 0) ≡ b → not b ≡ true
      other true e = absurd (below (eqb-true r.id 0 e))
      other false e = refl

-- a row is the child of its parent with its name
pub child_one : (rows : List CollectionRow) → IsPlacedOnce (λ (r : CollectionRow). r.parent) (λ r. r.name) rows → (r : CollectionRow) → IsIn rows r → (r.id == 0) ≡ false
    → find (λ x. is_child_named r.parent r.name x) rows ≡ Some r
child_one rows once r here below =
    let same : same_text r.name r.name ≡ true = (same_text-Decides r.name r.name).1 refl in
    let at : (r.parent == r.parent) ≡ true = eq-eqb r.parent r.parent refl in
    let passed : is_child_named r.parent r.name r ≡ true = rw (at, below, same) refl in
    find_from_in (λ x. is_child_named r.parent r.name x) rows r here passed
    (λ y there e. one rows once r.parent r.name y r there here (child_placed rows once r.parent r.name y e).0 (child_placed rows once r.parent r.name r passed).0)
