-- The line that is made on the way up is the one of the names on it.
use Rattle.std.proofs.Common.{◌≡◌, ◌==◌, ℕ, zero, suc, Bool, true, false, List, [], ◌∷◌, ◌++◌, length, map, Option, Some, None, IsTrue, refl, sym, ap, ◌∙◌, append_assoc}
use Rattle.std.specs.Prelude.{option_and_then, option_map, reverse}
use Rattle.std.specs.List.{join_with_byte}
use Rattle.std.proofs.lemmas.List.{reverse-append, append-nil}
use Rattle.grid_model.specs.Names.{Text}
use Rattle.grid_model.specs.Grid.{Resource}
use Rattle.grid_model.specs.Rows.{Cat, resource, has_resource}
use Rattle.grid_model.specs.RowGrids.{grid_of, resource_name, resource_of}
use Rattle.grid_model.specs.Applying.{IsMade}
use Rattle.grid_model.specs.Trees.{Resources, hierarchy, parent_of, upward_by, upward_from}
use Rattle.grid_model.specs.declared.deltas.ResourceRow.{ResourceRow}
use Rattle.tables_laws.proofs.Places.{row_there}
use Rattle.tables_laws.proofs.Sound.{IsSound}
use Rattle.grid_tree.specs.Lines.{line_up}
use Rattle.grid_tree.specs.Reading.{parent_by}
use Rattle.grid_tree.proofs.Named.{sound_of, get-named}
use Rattle.grid_tree.proofs.Sizes.{resources-size}
use Rattle.grid_tree.proofs.WaysUp.{parent_is, parent_has}

-- one step
pub line-top : (c : Cat) (steps id : ℕ) (line : Text) → parent_by (resource c id) ≡ None → line_up (suc steps) c id line ≡ line
line-top c steps id line none = ap (λ (o : Option ℕ). elim o as (λ _. Text) [ None ↦ line | Some parent ↦ line_up steps c parent (resource_name c parent ++ 0x3B ∷ line) ]) none

pub line-step : (c : Cat) (steps id parent : ℕ) (line : Text) → parent_by (resource c id) ≡ Some parent → line_up (suc steps) c id line ≡ line_up steps c parent (resource_name c parent ++ 0x3B ∷ line)
line-step c steps id parent line some = ap (λ (o : Option ℕ). elim o as (λ _. Text) [ None ↦ line | Some above ↦ line_up steps c above (resource_name c above ++ 0x3B ∷ line) ]) some

module _ (c : Cat) (m : IsMade c) where
  abbrev tree : Resources
  tree = (grid_of c).resources

  -- the names above one, at most so many
  abbrev names_above : ℕ → Option ℕ → List Text
  names_above steps None = []
  names_above steps (Some parent) = upward_from steps (grid_of c).resources (resource_name c parent)

  upward_is : (steps id : ℕ) → has_resource c id ≡ true → upward_from (suc steps) tree (resource_name c id) ≡ resource_name c id ∷ names_above steps (parent_by (resource c id))
  upward_is steps id has =
      let r = row_there (λ (x : ResourceRow). x.id) c.resources id has in
      let up : parent_of tree (resource_name c id) ≡ option_map (resource_name c) (parent_by (Some r.0)) =
      ap (λ (o : Option Resource). option_and_then (λ (x : Resource). x.parent) o) (get-named c (sound_of c m) id r.0 r.3) ∙ parent_is c m id has r.0 in
      ap (λ (o : Option Text). upward_by (resource_name c id) (upward_from steps tree) o) up ∙ by (parent_by (Some r.0)) ∙ ap (λ (o : Option ResourceRow). resource_name c id ∷ names_above steps (parent_by o)) (sym r.3)
    where
      by : (o : Option ℕ) → upward_by (resource_name c id) (upward_from steps tree) (option_map (resource_name c) o) ≡ resource_name c id ∷ names_above steps o
      by None = refl
      by (Some parent) = refl

  -- what is in front of a line is put in front of its names
  line_is : (steps id : ℕ) → has_resource c id ≡ true → (first : Text) (rest : List Text)
      → line_up steps c id (join_with_byte 0x3B (first ∷ rest)) ≡ join_with_byte 0x3B (reverse (names_above steps (parent_by (resource c id))) ++ first ∷ rest)
  line_is zero id has first rest = by (parent_by (resource c id))
    where
      by : (o : Option ℕ) → join_with_byte 0x3B (first ∷ rest) ≡ join_with_byte 0x3B (reverse (names_above zero o) ++ first ∷ rest)
      by None = refl
      by (Some parent) = refl
  line_is (suc steps) id has first rest = by (λ parent known. line_is steps parent known) (parent_by (resource c id)) refl
    where
      known_above : (parent : ℕ) → parent_by (resource c id) ≡ Some parent → has_resource c parent ≡ true
      known_above parent is =
          let r = row_there (λ (x : ResourceRow). x.id) c.resources id has in
          parent_has c m id has id parent r.0 r.3 (sym (ap parent_by r.3) ∙ is)

      by : ((parent : ℕ) → has_resource c parent ≡ true → (a : Text) (b : List Text) → line_up steps c parent (join_with_byte 0x3B (a ∷ b)) ≡ join_with_byte 0x3B (reverse (names_above steps (parent_by (resource c parent))) ++ a ∷ b))
          → (o : Option ℕ) → parent_by (resource c id) ≡ o → line_up (suc steps) c id (join_with_byte 0x3B (first ∷ rest)) ≡ join_with_byte 0x3B (reverse (names_above (suc steps) o) ++ first ∷ rest)
      by more None none = line-top c steps id (join_with_byte 0x3B (first ∷ rest)) none
      by more (Some parent) some =
          line-step c steps id parent (join_with_byte 0x3B (first ∷ rest)) some
          ∙ more parent (known_above parent some) (resource_name c parent) (first ∷ rest)
          ∙ ap (join_with_byte 0x3B)
          (sym (append_assoc (reverse (names_above steps (parent_by (resource c parent)))) (resource_name c parent ∷ []) (first ∷ rest))
          ∙ ap (λ (ns : List Text). ns ++ first ∷ rest) (sym (reverse-append (resource_name c parent ∷ []) (names_above steps (parent_by (resource c parent)))) ∙ ap reverse (sym (upward_is steps parent (known_above parent some)))))

  pub hierarchy_is : (leaf : ℕ) → has_resource c leaf ≡ true → line_up (length c.resources) c leaf (resource_name c leaf) ≡ hierarchy tree (resource_name c leaf)
  hierarchy_is leaf has =
      line_is (length c.resources) leaf has (resource_name c leaf) []
      ∙ ap (join_with_byte 0x3B) (sym (reverse-append (resource_name c leaf ∷ []) (names_above (length c.resources) (parent_by (resource c leaf)))) ∙ ap reverse (sym (upward_is (length c.resources) leaf has)))
      ∙ ap (λ n. join_with_byte 0x3B (reverse (upward_from (suc n) tree (resource_name c leaf)))) (sym (resources-size c (sound_of c m)))
