-- Ways up once one collection was put or dropped.
use Rattle.std.proofs.Common.{◌≡◌, ℕ, zero, suc, true, false, [], ◌∷◌, Some, inl, inr, refl, sym, ap, ◌∙◌, subst, eq-eqb}
use Rattle.std.proofs.lemmas.Bool.{ne_eqb}
use Rattle.std.proofs.lemmas.Bool.Decides.{eqb_tells}
use Rattle.grid_model.specs.Names.{Path}
use Rattle.grid_model.specs.Rows.{Cat, collection}
use Rattle.grid_model.specs.RowPaths.{names_within}
use Rattle.grid_model.specs.Applying.{lies_within}
use Rattle.grid_model.specs.declared.deltas.CollectionRow.{CollectionRow}
use Rattle.tables_laws.proofs.Ways.{at_root, further, leads_up, within_root, within_further}

-- some way leads from a collection up to `/`
abbrev pub IsPlaced : Cat → ℕ → Type 0
IsPlaced c id = (k : ℕ) × (names : Path) × (names_within k c id ≡ Some names)

lies_hit : (m : ℕ) (c : Cat) (u id : ℕ) → id ≡ u → lies_within (suc m) c u id ≡ true
lies_hit m c u id e = rw (eq-eqb id u e, lies_within) refl

lies_row : (m : ℕ) (c : Cat) (u id : ℕ) (r : CollectionRow) → (id ≡ u → ⊥) → (id ≡ 0 → ⊥) → collection c id ≡ Some r → lies_within (suc m) c u id ≡ lies_within m c u r.parent
lies_row m c u id r apart not_root some = rw (ne_eqb id u apart, ne_eqb id 0 not_root, some, lies_within) refl

module _ (c d : Cat) where
  -- all rows are found as before
  pub within_kept : ((j : ℕ) → collection d j ≡ collection c j) → (k id : ℕ) (names : Path) → names_within k c id ≡ Some names → names_within k d id ≡ Some names
  within_kept same zero id names e = absurd cc
  within_kept same (suc k) id names e = elim (leads_up c k id names e) [
    | at_root is none ↦ within_root d k id is ∙ ap Some (sym none)
    | further not_root r rest some up is ↦ within_further d k id r rest not_root (same id ∙ some) (within_kept same k r.parent rest up) ∙ ap Some (sym is)
  ]

  module _ (u : ℕ) (same : (j : ℕ) → (j ≡ u → ⊥) → collection d j ≡ collection c j) where
    -- a way that the collection is not on
    pub within_past : (k id : ℕ) (names : Path) → names_within k c id ≡ Some names → lies_within k c u id ≡ false → names_within k d id ≡ Some names
    within_past zero id names e past = absurd cc
    within_past (suc k) id names e past = elim (eqb_tells id u) [
      | inl is ↦ let wrong : lies_within (suc k) c u id ≡ true = lies_hit k c u id is.1 in absurd cc
      | inr apart ↦ elim (leads_up c k id names e) [
        | at_root is none ↦ within_root d k id is ∙ ap Some (sym none)
        | further not_root r rest some up is ↦
            within_further d k id r rest not_root (same id apart.1 ∙ some) (within_past k r.parent rest up (sym (lies_row k c u id r apart.1 not_root some) ∙ past)) ∙ ap Some (sym is)
      ]
    ]

    -- where the collection has a way, all have one
    pub placed_again : IsPlaced d u → (k id : ℕ) (names : Path) → names_within k c id ≡ Some names → IsPlaced d id
    placed_again way zero id names e = absurd cc
    placed_again way (suc k) id names e = elim (eqb_tells id u) [
      | inl is ↦ subst (λ i. IsPlaced d i) (sym is.1) way
      | inr apart ↦ elim (leads_up c k id names e) [
        | at_root is none ↦ (1, [], within_root d 0 id is)
        | further not_root r rest some up is ↦
            let above = placed_again way k r.parent rest up in
            (suc above.0, r.name ∷ above.1, within_further d above.0 id r above.1 not_root (same id apart.1 ∙ some) above.2)
      ]
    ]

    -- nothing lies in the collection, so the others keep their ways
    pub within_beside : ((r : CollectionRow) (j : ℕ) → (j ≡ 0 → ⊥) → collection c j ≡ Some r → r.parent ≡ u → ⊥) → (k id : ℕ) (names : Path) → (id ≡ u → ⊥)
        → names_within k c id ≡ Some names → names_within k d id ≡ Some names
    within_beside empty zero id names apart e = absurd cc
    within_beside empty (suc k) id names apart e = elim (leads_up c k id names e) [
      | at_root is none ↦ within_root d k id is ∙ ap Some (sym none)
      | further not_root r rest some up is ↦
          within_further d k id r rest not_root (same id apart ∙ some) (within_beside empty k r.parent rest (empty r id not_root some) up) ∙ ap Some (sym is)
    ]
