-- The way up from a resource, by rows and by names.
use Rattle.std.proofs.Common.{◌≡◌, ◌==◌, ℕ, zero, suc, ◌-◌, ◌+◌, ◌<◌, Bool, true, false, List, [], ◌∷◌, length, Option, Some, None, inl, inr, IsTrue, refl, sym, ap, ◌∙◌, arith, eq-eqb}
use Rattle.std.specs.Prelude.{◌||◌, option_and_then, option_map}
use Rattle.std.specs.List.{list_any}
use Rattle.std.proofs.lemmas.Bool.{ne_eqb}
use Rattle.std.proofs.lemmas.Bool.Decides.{eqb_tells}
use Rattle.grid_model.specs.MapLists.{size}
use Rattle.grid_model.specs.Maps.{get}
use Rattle.grid_model.specs.Names.{Text, same_text}
use Rattle.grid_model.specs.Grid.{Resource}
use Rattle.grid_model.specs.Rows.{Cat, resource, has_resource}
use Rattle.grid_model.specs.RowGrids.{grid_of, resource_name, resource_of}
use Rattle.grid_model.specs.Applying.{IsMade, is_node}
use Rattle.grid_model.specs.Trees.{Resources, depth, is_in, parent_of, upward_by, upward_from}
use Rattle.grid_model.specs.declared.deltas.ResourceRow.{ResourceRow}
use Rattle.grid_model.proofs.Comparing.{same_text-Decides, other_text}
use Rattle.tables_laws.proofs.Rows.{in_from_all, in_from_find}
use Rattle.tables_laws.proofs.Places.{resource_names_apart, row_there}
use Rattle.tables_laws.proofs.Resources.{node_there}
use Rattle.tables_laws.proofs.Standing.{ResourceStands}
use Rattle.tables_laws.proofs.Sound.{IsSound}
use Rattle.grid_tree.specs.Reading.{in_within, parent_by, stands_at}
use Rattle.grid_tree.proofs.Named.{sound_of, get-named}
use Rattle.grid_tree.proofs.Sizes.{resources-size}

-- ---- by rows

module _ (c : Cat) (upper id : ℕ) where
  abbrev step : (ℕ → Bool) → Bool → Option ℕ → Bool
  step more b o = elim b [
    | true ↦ true
    | false ↦ elim o [ None ↦ false | Some parent ↦ more parent ]
  ]

  pub within-hit : (m : ℕ) → id ≡ upper → in_within (suc m) c upper id ≡ true
  within-hit m e = ap (λ b. step (in_within m c upper) b (parent_by (resource c id))) (eq-eqb id upper e)

  pub within-top : (m : ℕ) → (id ≡ upper → ⊥) → parent_by (resource c id) ≡ None → in_within (suc m) c upper id ≡ false
  within-top m apart e i = step (in_within m c upper) (ne_eqb id upper apart i) (e i)

  pub within-up : (m parent : ℕ) → (id ≡ upper → ⊥) → parent_by (resource c id) ≡ Some parent → in_within (suc m) c upper id ≡ in_within m c upper parent
  within-up m parent apart e i = step (in_within m c upper) (ne_eqb id upper apart i) (e i)

  -- no step is left
  pub within-last : in_within 1 c upper id ≡ (id == upper)
  within-last = by (id == upper) (parent_by (resource c id))
    where
      by : (b : Bool) (o : Option ℕ) → step (λ parent. false) b o ≡ b
      by true o = refl
      by false None = refl
      by false (Some parent) = refl

-- ---- by names

module _ (c : Cat) (m : IsMade c) (upper : ℕ) (upper_has : has_resource c upper ≡ true) where
  s : IsSound c
  s = sound_of c m

  abbrev tree : Resources
  tree = (grid_of c).resources

  abbrev is_upper : Text → Bool
  is_upper = same_text (resource_name c upper)

  same_one : (id : ℕ) → has_resource c id ≡ true → is_upper (resource_name c id) ≡ (id == upper)
  same_one id has = elim (eqb_tells id upper) [
    | inl is ↦ (same_text-Decides (resource_name c upper) (resource_name c id)).1 (ap (resource_name c) (sym is.1)) ∙ sym is.0
    | inr other ↦ other_text (resource_name c upper) (resource_name c id) (λ e. other.1 (sym (resource_names_apart c s upper id upper_has has e))) ∙ sym other.0
  ]

  -- the parent in the grid is that of the row
  pub parent_is : (r : ResourceRow) → (resource_of c r).parent ≡ option_map (resource_name c) (parent_by (Some r))
  parent_is r = by (r.parent == 0)
    where
      by : (b : Bool) → elim b as (λ _. Option Text) [ true ↦ None | false ↦ Some (resource_name c r.parent) ] ≡ option_map (resource_name c) (elim b as (λ _. Option ℕ) [ true ↦ None | false ↦ Some r.parent ])
      by true = refl
      by false = refl

  pub parent_has : (id parent : ℕ) (r : ResourceRow) → resource c id ≡ Some r → parent_by (Some r) ≡ Some parent → has_resource c parent ≡ true
  parent_has id parent r found e = by (r.parent == 0) refl e
    where
      stands : ResourceStands c r
      stands = in_from_all (ResourceStands c) c.resources s.tied.resources r (in_from_find (λ (x : ResourceRow). x.id == id) c.resources r found).0

      by : (b : Bool) → (r.parent == 0) ≡ b → elim b as (λ _. Option ℕ) [ true ↦ None | false ↦ Some r.parent ] ≡ Some parent → has_resource c parent ≡ true
      by true is none = absurd cc
      by false is some =
          let same : r.parent ≡ parent = cc in
          ap (λ p. has_resource c p) (sym same) ∙ node_there c r.parent (sym (ap (λ b. b || is_node c r.parent) is) ∙ stands.1)

  in-names : (d id : ℕ) → has_resource c id ≡ true → list_any is_upper (upward_from d tree (resource_name c id)) ≡ in_within d c upper id
  in-names zero id has = refl
  in-names (suc d) id has =
      let r = row_there (λ (x : ResourceRow). x.id) c.resources id has in
      let up : parent_of tree (resource_name c id) ≡ option_map (resource_name c) (parent_by (Some r.0)) =
      ap (λ (o : Option Resource). option_and_then (λ (x : Resource). x.parent) o) (get-named c s id r.0 r.3) ∙ parent_is r.0 in
      ap (λ (o : Option Text). list_any is_upper (upward_by (resource_name c id) (upward_from d tree) o)) up
      ∙ by_parent (λ parent p_has. in-names d parent p_has) (parent_by (Some r.0)) (λ parent e. parent_has id parent r.0 r.3 e)
      ∙ sym (ap (λ (o : Option ℕ). step c upper id (in_within d c upper) (id == upper) o) (ap parent_by r.3))
    where
      by_parent : ((parent : ℕ) → has_resource c parent ≡ true → list_any is_upper (upward_from d tree (resource_name c parent)) ≡ in_within d c upper parent) → (o : Option ℕ) → ((parent : ℕ) → o ≡ Some parent → has_resource c parent ≡ true)
          → list_any is_upper (upward_by (resource_name c id) (upward_from d tree) (option_map (resource_name c) o)) ≡ step c upper id (in_within d c upper) (id == upper) o
      by_parent more None parents = (λ i. same_one id has i || false) ∙ either (id == upper)
        where
          either : (b : Bool) → (b || false) ≡ step c upper id (in_within d c upper) b None
          either true = refl
          either false = refl
      by_parent more (Some parent) parents = (λ i. same_one id has i || more parent (parents parent refl) i) ∙ either (id == upper)
        where
          either : (b : Bool) → (b || in_within d c upper parent) ≡ step c upper id (in_within d c upper) b (Some parent)
          either true = refl
          either false = refl

  pub stands_is : (id : ℕ) → has_resource c id ≡ true → is_in tree (resource_name c upper) (resource_name c id) ≡ stands_at c upper id
  stands_is id has = ap (λ n. list_any is_upper (upward_from (suc n) tree (resource_name c id))) (resources-size c s) ∙ in-names (suc (length c.resources)) id has
