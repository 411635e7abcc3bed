-- A path compared with the way up from a collection, from its last name on.
use Rattle.std.proofs.Common.{◌≡◌, ◌==◌, ◌++◌, List, [], ◌∷◌, ℕ, zero, suc, ◌≤◌, true, false, Option, Some, None, length, refl, sym, ap, ◌∙◌, arith, eq-eqb}
use Rattle.std.specs.Prelude.{option_map, reverse, ◌&&◌}
use Rattle.std.specs.Cmp.{tied_then, both_ways}
use Rattle.std.proofs.lemmas.Bool.{ne_eqb}
use Rattle.std.proofs.lemmas.List.{reverse-append, reverse-reverse, length-reverse}
use Rattle.std.proofs.Math.Bool.{and-false}
use Rattle.grid_model.specs.Names.{Text, Path, text_cmp, path_cmp, same_text, same_path}
use Rattle.grid_model.specs.Rows.{Cat, collection}
use Rattle.grid_model.specs.RowPaths.{names_within, names_up, collection_path, is_path_of}
use Rattle.grid_model.proofs.Comparing.{same_path-Decides}
use Rattle.grid_model.specs.declared.deltas.CollectionRow.{CollectionRow}

-- one name more
with_name : (up : Option Path) (a name : Text) (rest : Path) → is_path_of (option_map (λ names. a ∷ names) up) (name ∷ rest) ≡ (same_text a name && is_path_of up rest)
with_name None a name rest = sym (and-false (same_text a name))
with_name (Some p) a name rest = sym (tied_then (text_cmp a name) (path_cmp p rest))

-- and none is left
no_name : (up : Option Path) (a : Text) → is_path_of (option_map (λ names. a ∷ names) up) [] ≡ false
no_name None a = refl
no_name (Some p) a = refl

module _ (c : Cat) (id : ℕ) where
  at_root : (m : ℕ) (p : Path) → id ≡ 0 → is_path_of (names_within (suc m) c id) p ≡ same_path [] p
  at_root m p e = rw (eq-eqb id 0 e, names_within) refl

  at_none : (m : ℕ) (p : Path) → (id ≡ 0 → ⊥) → None ≡ collection c id → is_path_of (names_within (suc m) c id) p ≡ false
  at_none m p not_root none = rw (ne_eqb id 0 not_root, ← none, names_within) refl

  at_row : (m : ℕ) (p : Path) (r : CollectionRow) → (id ≡ 0 → ⊥) → Some r ≡ collection c id
      → is_path_of (names_within (suc m) c id) p ≡ is_path_of (option_map (λ names. r.name ∷ names) (names_within m c r.parent)) p
  at_row m p r not_root some = rw (ne_eqb id 0 not_root, ← some, names_within) refl

  -- a path with a last name
  named-root : (m : ℕ) (name : Text) (rest : Path) → id ≡ 0 → is_path_of (names_within (suc m) c id) (name ∷ rest) ≡ false
  named-root m name rest e = at_root m (name ∷ rest) e

  named-row : (m : ℕ) (name : Text) (rest : Path) (r : CollectionRow) → (id ≡ 0 → ⊥) → Some r ≡ collection c id
      → is_path_of (names_within (suc m) c id) (name ∷ rest) ≡ (same_text r.name name && is_path_of (names_within m c r.parent) rest)
  named-row m name rest r not_root some = at_row m (name ∷ rest) r not_root some ∙ with_name (names_within m c r.parent) r.name name rest

  -- a path of no names
  pub end-root : (m : ℕ) → id ≡ 0 → is_path_of (names_within (suc m) c id) [] ≡ true
  end-root m e = at_root m [] e

  pub end-below : (m : ℕ) → (id ≡ 0 → ⊥) → is_path_of (names_within (suc m) c id) [] ≡ false
  end-below m not_root =
      elim (collection c id) as (λ o. o ≡ collection c id → is_path_of (names_within (suc m) c id) [] ≡ false) [
        | None ↦ λ none. at_none m [] not_root none
        | Some r ↦ λ some. at_row m [] r not_root some ∙ no_name (names_within m c r.parent) r.name
      ] refl

-- as many names as steps, or more, are no path
too_long : (c : Cat) (n id : ℕ) (p : Path) → n ≤ length p → is_path_of (names_within n c id) p ≡ false
too_long c zero id p h = refl
too_long c (suc n) id [] h = absurd (omega arith)
too_long c (suc n) id (name ∷ rest) h =
    elim (id == 0) as (λ b. (id == 0) ≡ b → is_path_of (names_within (suc n) c id) (name ∷ rest) ≡ false) [
      | true ↦ λ e. rw (e, names_within) refl
      | false ↦ λ e.
          elim (collection c id) as (λ o. o ≡ collection c id → is_path_of (names_within (suc n) c id) (name ∷ rest) ≡ false) [
            | None ↦ λ none. rw (e, ← none, names_within) refl
            | Some r ↦ λ some.
                let first : is_path_of (names_within (suc n) c id) (name ∷ rest) ≡ is_path_of (option_map (λ names. r.name ∷ names) (names_within n c r.parent)) (name ∷ rest) =
                rw (e, ← some, names_within) refl in
                first ∙ with_name (names_within n c r.parent) r.name name rest
                ∙ ap (λ b. same_text r.name name && b) (too_long c n r.parent rest (omega arith)) ∙ and-false (same_text r.name name)
          ] refl
    ] refl

-- turned round on either side
pub turned : (p q : Path) → same_path (reverse p) q ≡ same_path p (reverse q)
turned p q =
    both_ways (same_path (reverse p) q) (same_path p (reverse q))
    (λ e. (same_path-Decides p (reverse q)).1 (sym (reverse-reverse p) ∙ ap reverse ((same_path-Decides (reverse p) q).0 e)))
    (λ e. (same_path-Decides (reverse p) q).1 (ap reverse ((same_path-Decides p (reverse q)).0 e) ∙ reverse-reverse q))

pub turned-up : (up : Option Path) (q : Path) → is_path_of (option_map reverse up) q ≡ is_path_of up (reverse q)
turned-up None q = refl
turned-up (Some p) q = turned p q

-- too many names
pub no-such-path : (c : Cat) (names : List Text) (id : ℕ) → length c.collections ≤ length names → is_path_of (collection_path c id) names ≡ false
no-such-path c names id h =
    turned-up (names_up c id) names ∙ too_long c (length c.collections) id (reverse names) (omega (arith, length-reverse {A = Text}))

fused : (up : Option Path) (a : Text) → option_map (λ names. reverse (a ∷ names)) up ≡ option_map reverse (option_map (λ names. a ∷ names) up)
fused None a = refl
fused (Some p) a = refl

-- the path of an object: its name last
pub last_name : (up : Option Path) (a name : Text) (above : Path) → is_path_of (option_map (λ names. reverse (a ∷ names)) up) (above ++ name ∷ [])
    ≡ (same_text a name && is_path_of (option_map reverse up) above)
last_name up a name above =
    ap (λ (o : Option Path). is_path_of o (above ++ name ∷ [])) (fused up a)
    ∙ turned-up (option_map (λ names. a ∷ names) up) (above ++ name ∷ [])
    ∙ ap (λ (p : Path). is_path_of (option_map (λ names. a ∷ names) up) p) (reverse-append above (name ∷ []))
    ∙ with_name up a name (reverse above)
    ∙ ap (λ b. same_text a name && b) (sym (turned-up up above))

-- `/` is the path of no object
pub object-root : (up : Option Path) (a : Text) (names : Path) → length names ≡ 0 → is_path_of (option_map (λ names. reverse (a ∷ names)) up) names ≡ false
object-root up a [] e =
    ap (λ (o : Option Path). is_path_of o []) (fused up a) ∙ turned-up (option_map (λ names. a ∷ names) up) [] ∙ no_name up a
object-root up a (name ∷ names) e = absurd (omega arith)
