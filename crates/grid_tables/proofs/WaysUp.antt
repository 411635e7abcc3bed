-- Ways up, step by step: among collections to `/`, among resources to one with no parent.
use Rattle.std.proofs.Common.{◌≡◌, ◌==◌, ◌++◌, List, [], ◌∷◌, append_assoc, ℕ, suc, ◌+◌, ◌-◌, ◌<◌, true, false, Option, Some, None, refl, sym, ap, ◌∙◌, subst, arith, eq-eqb}
use Rattle.std.proofs.lemmas.Bool.{false_from_ne_true}
use Rattle.std.proofs.lemmas.List.{append-nil, reverse-append}
use Rattle.std.specs.Prelude.{option_map, reverse, IsTrue}
use Rattle.std.specs.List.{list_all}
use Rattle.std.specs.Cmp.{unsigned_Decides, first_so, second_so}
use Rattle.grid_model.specs.Names.{Text, is_name}
use Rattle.grid_model.specs.Rows.{Cat, collection, resource, is_named_collection}
use Rattle.grid_model.proofs.TableLemmas.{find-passes}
use Rattle.grid_model.specs.RowPaths.{names_within}
use Rattle.grid_model.specs.Applying.{lies_within, stands_within}
use Rattle.grid_model.specs.declared.deltas.CollectionRow.{CollectionRow}
use Rattle.grid_model.specs.declared.deltas.ResourceRow.{ResourceRow}

apart : (a b : ℕ) → (a ≡ b → ⊥) → (a == b) ≡ false
apart a b ne = false_from_ne_true (a == b) (λ e. ne ((unsigned_Decides a b).0 e))

after : (n i : ℕ) → i < n → n - i ≡ suc (n - (i + 1))
after n i h = omega arith

module _ (c : Cat) (upper id : ℕ) where
  hit : (m : ℕ) → id ≡ upper → lies_within (suc m) c upper id ≡ true
  hit m e = rw (eq-eqb id upper e, lies_within) refl

  root : (m : ℕ) → (id ≡ upper → ⊥) → id ≡ 0 → lies_within (suc m) c upper id ≡ false
  root m ne e = rw (apart id upper ne, eq-eqb id 0 e, lies_within) refl

  lost : (m : ℕ) → (id ≡ upper → ⊥) → (id ≡ 0 → ⊥) → None ≡ collection c id → lies_within (suc m) c upper id ≡ false
  lost m ne not_root none = rw (apart id upper ne, apart id 0 not_root, ← none, lies_within) refl

  up : (m : ℕ) (r : CollectionRow) → (id ≡ upper → ⊥) → (id ≡ 0 → ⊥) → Some r ≡ collection c id → lies_within (suc m) c upper id ≡ lies_within m c upper r.parent
  up m r ne not_root some = rw (apart id upper ne, apart id 0 not_root, ← some, lies_within) refl

  -- the same, where i of n steps were taken
  pub lies-hit : (n i : ℕ) → i < n → id ≡ upper → lies_within (n - i) c upper id ≡ true
  lies-hit n i h e = ap (λ k. lies_within k c upper id) (after n i h) ∙ hit _ e

  pub lies-root : (n i : ℕ) → i < n → (id ≡ upper → ⊥) → id ≡ 0 → lies_within (n - i) c upper id ≡ false
  lies-root n i h ne e = ap (λ k. lies_within k c upper id) (after n i h) ∙ root _ ne e

  pub lies-lost : (n i : ℕ) → i < n → (id ≡ upper → ⊥) → (id ≡ 0 → ⊥) → None ≡ collection c id → lies_within (n - i) c upper id ≡ false
  lies-lost n i h ne not_root none = ap (λ k. lies_within k c upper id) (after n i h) ∙ lost _ ne not_root none

  pub lies-up : (n i : ℕ) (r : CollectionRow) → i < n → (id ≡ upper → ⊥) → (id ≡ 0 → ⊥) → Some r ≡ collection c id
      → lies_within (n - i) c upper id ≡ lies_within (n - (i + 1)) c upper r.parent
  lies-up n i r h ne not_root some = ap (λ k. lies_within k c upper id) (after n i h) ∙ up _ r ne not_root some

  stand_hit : (m : ℕ) → id ≡ upper → stands_within (suc m) c upper id ≡ true
  stand_hit m e = rw (eq-eqb id upper e, stands_within) refl

  stand_lost : (m : ℕ) → (id ≡ upper → ⊥) → None ≡ resource c id → stands_within (suc m) c upper id ≡ false
  stand_lost m ne none = rw (apart id upper ne, ← none, stands_within) refl

  stand_up : (m : ℕ) (r : ResourceRow) → (id ≡ upper → ⊥) → Some r ≡ resource c id → stands_within (suc m) c upper id ≡ stands_within m c upper r.parent
  stand_up m r ne some = rw (apart id upper ne, ← some, stands_within) refl

  pub stands-hit : (n i : ℕ) → i < n → id ≡ upper → stands_within (n - i) c upper id ≡ true
  stands-hit n i h e = ap (λ k. stands_within k c upper id) (after n i h) ∙ stand_hit _ e

  pub stands-lost : (n i : ℕ) → i < n → (id ≡ upper → ⊥) → None ≡ resource c id → stands_within (n - i) c upper id ≡ false
  stands-lost n i h ne none = ap (λ k. stands_within k c upper id) (after n i h) ∙ stand_lost _ ne none

  pub stands-up : (n i : ℕ) (r : ResourceRow) → i < n → (id ≡ upper → ⊥) → Some r ≡ resource c id
      → stands_within (n - i) c upper id ≡ stands_within (n - (i + 1)) c upper r.parent
  stands-up n i r h ne some = ap (λ k. stands_within k c upper id) (after n i h) ∙ stand_up _ r ne some

-- no step is left
pub lies-done : (c : Cat) (upper id n i : ℕ) → n - i ≡ 0 → lies_within (n - i) c upper id ≡ false
lies-done c upper id n i e = ap (λ k. lies_within k c upper id) e

pub stands-done : (c : Cat) (upper id n i : ℕ) → n - i ≡ 0 → stands_within (n - i) c upper id ≡ false
stands-done c upper id n i e = ap (λ k. stands_within k c upper id) e

-- no step was taken
pub lies-start : (c : Cat) (upper id n m : ℕ) → n ≡ m → lies_within (n - 0) c upper id ≡ lies_within m c upper id
lies-start c upper id n m e = let same : n - 0 ≡ m = omega arith in ap (λ k. lies_within k c upper id) same

pub stands-start : (c : Cat) (upper id n m : ℕ) → n ≡ m → stands_within (n - 0) c upper id ≡ stands_within m c upper id
stands-start c upper id n m e = let same : n - 0 ≡ m = omega arith in ap (λ k. stands_within k c upper id) same

module _ (c : Cat) (id : ℕ) where
  names_root : (m : ℕ) → id ≡ 0 → names_within (suc m) c id ≡ Some []
  names_root m e = rw (eq-eqb id 0 e, names_within) refl

  names_lost : (m : ℕ) → (id ≡ 0 → ⊥) → None ≡ collection c id → names_within (suc m) c id ≡ None
  names_lost m not_root none = rw (apart id 0 not_root, ← none, names_within) refl

  pub names_further : (m : ℕ) (r : CollectionRow) → (id ≡ 0 → ⊥) → Some r ≡ collection c id → names_within (suc m) c id ≡ option_map (λ names. r.name ∷ names) (names_within m c r.parent)
  names_further m r not_root some = rw (apart id 0 not_root, ← some, names_within) refl

-- names so far, and behind them those further up
abbrev pub behind : List Text → Option (List Text) → Option (List Text)
behind names up = option_map (λ more. names ++ more) up

-- one name more
behind-further : (names : List Text) (name : Text) (up : Option (List Text)) → behind names (option_map (λ more. name ∷ more) up) ≡ behind (names ++ name ∷ []) up
behind-further names name None = refl
behind-further names name (Some more) = ap Some (sym (append_assoc names (name ∷ []) more))

module _ (c : Cat) (names : List Text) (id n i : ℕ) where
  pub behind-root : i < n → id ≡ 0 → Some names ≡ behind names (names_within (n - i) c id)
  behind-root h e = ap Some (sym (append-nil names)) ∙ sym (ap (λ k. behind names (names_within k c id)) (after n i h) ∙ ap (behind names) (names_root c id _ e))

  pub behind-lost : i < n → (id ≡ 0 → ⊥) → None ≡ collection c id → None ≡ behind names (names_within (n - i) c id)
  behind-lost h not_root none = sym (ap (λ k. behind names (names_within k c id)) (after n i h) ∙ ap (behind names) (names_lost c id _ not_root none))

  pub behind-up : (r : CollectionRow) → i < n → (id ≡ 0 → ⊥) → Some r ≡ collection c id
      → behind (names ++ r.name ∷ []) (names_within (n - (i + 1)) c r.parent) ≡ behind names (names_within (n - i) c id)
  behind-up r h not_root some =
      sym (ap (λ k. behind names (names_within k c id)) (after n i h) ∙ ap (behind names) (names_further c id _ r not_root some)
      ∙ behind-further names r.name (names_within (n - (i + 1)) c r.parent))

  pub behind-done : n - i ≡ 0 → None ≡ behind names (names_within (n - i) c id)
  behind-done e = sym (ap (λ k. behind names (names_within k c id)) e)

pub behind-start : (c : Cat) (names : List Text) (id n m : ℕ) → n ≡ m → behind names (names_within (n - 0) c id) ≡ behind names (names_within m c id)
behind-start c names id n m e = let same : n - 0 ≡ m = omega arith in ap (λ k. behind names (names_within k c id)) same

-- a name more, and all are names
pub all-further : (names : List Text) (name : Text) → IsTrue (list_all is_name names) → IsTrue (is_name name) → IsTrue (list_all is_name (names ++ name ∷ []))
all-further [] name all one = rw one refl
all-further (n ∷ names) name all one =
    let first : is_name n ≡ true = first_so (is_name n) (list_all is_name names) all in
    let rest : list_all is_name names ≡ true = second_so (is_name n) (list_all is_name names) all in
    rw first (all-further names name rest one)

-- a collection that is not `/` has a name
pub named-below : (c : Cat) (id : ℕ) (r : CollectionRow) → Some r ≡ collection c id → (id ≡ 0 → ⊥) → IsTrue (is_named_collection r) → IsTrue (is_name r.name)
named-below c id r some not_root named =
    let its : r.id ≡ id = (unsigned_Decides r.id id).0 (find-passes (λ (x : CollectionRow). x.id == id) c.collections r some) in
    let other : (r.id == 0) ≡ false = apart r.id 0 (λ e. not_root (sym its ∙ e)) in
    rw other at named

-- names the other way round are names
pub all-reverse : (names : List Text) → IsTrue (list_all is_name names) → IsTrue (list_all is_name (reverse names))
all-reverse [] all = refl
all-reverse (name ∷ names) all =
    let first : is_name name ≡ true = first_so (is_name name) (list_all is_name names) all in
    let rest : list_all is_name names ≡ true = second_so (is_name name) (list_all is_name names) all in
    subst (λ (l : List Text). IsTrue (list_all is_name l)) (sym (reverse-append (name ∷ []) names)) (all-further (reverse names) name (all-reverse names rest) first)
