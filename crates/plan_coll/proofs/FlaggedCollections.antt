-- What the change of a collection's flag makes of the grid, and what the row of the operation comes to then.
use Rattle.std.proofs.Common.{◌≡◌, ◌≢◌, inl, inr, ℕ, Bool, true, false, List, [], ◌∷◌, Option, Some, None, Result, Ok, Err, IfOk, IsTrue, sym, ap, ◌∙◌}
use Rattle.std.specs.Prelude.{is_some, option_map, unwrap_or, ◌&&◌, ◌||◌}
use Rattle.std.specs.List.{list_all}
use Rattle.grid_model.specs.Maps.{get, put}
use Rattle.grid_model.specs.Names.{Text, Path, is_name}
use Rattle.grid_model.specs.Grid.{Grid}
use Rattle.grid_model.specs.Refusing.{Or, ◌>>=◌, unless}
use Rattle.grid_model.specs.Deeds.{Act, changes}
use Rattle.grid_model.specs.Levels.{may}
use Rattle.grid_model.specs.Rows.{Cat, collection, has_collection, is_named_collection}
use Rattle.grid_model.specs.RowPaths.{collection_at, collection_path}
use Rattle.grid_model.specs.RowGrids.{collection_place, grid_of, user_name}
use Rattle.grid_model.specs.Applying.{IsMade, apply, apply_all, where_fits, collection_fits}
use Rattle.grid_model.specs.Operations.Table.{inherit, row}
use Rattle.grid_model.specs.declared.deltas.Delta.{Delta}
use Rattle.grid_model.specs.declared.deltas.Delta.TheVariants as delta
use Rattle.grid_model.specs.declared.deltas.CollectionRow.{CollectionRow}
use Rattle.grid_model.specs.declared.grid.Level.TheVariants.{Own}
use Rattle.grid_model.specs.declared.refusal.Refusal.TheVariants.{NoCollection, NoAccess}
use Rattle.grid_journal.specs.Journal.{can_be_kept}
use Rattle.grid_model.proofs.Comparing.{path_cmp_total, path_cmp-IsAntisymmetric}
use Rattle.grid_model.proofs.NewCollections.{at_of}
use Rattle.std.proofs.lemmas.Bool.{ne_eqb}
use Rattle.std.proofs.lemmas.Option.{same_Some}
use Rattle.tables_laws.proofs.Rows.{in_from_all}
use Rattle.tables_laws.proofs.Ways.{its_row}
use Rattle.tables_laws.proofs.Forest.{with_collection}
use Rattle.tables_laws.proofs.LookUps.{has-collections, get-collection_at}
use Rattle.tables_laws.proofs.MovedCollections.{grid-collection_changed}
use Rattle.tables_laws.proofs.Places.{place_is, root_place, row_there}
use Rattle.tables_laws.proofs.Roots.{grid-root}
use Rattle.tables_laws.proofs.Sound.{IsSound}
use Rattle.plan_base.specs.NewItems.{hands_on}
use Rattle.plan_base.specs.Plans.{Changes}
use Rattle.plan_base.proofs.AtPaths.{sound_of}
use Rattle.plan_base.proofs.Mere.{is_mere, plan_of}
use Rattle.plan_base.proofs.OtherMaps.{put-same, put-other}
use Rattle.plan_coll.specs.Flags.{IsFlagged, root, inner}
use Rattle.plan_coll.proofs.PlacedCollections.{fits_there}

abbrev tests : Bool → Bool → Grid → Or Act
tests there allowed g = unless there NoCollection >>= (λ _. unless allowed NoAccess >>= (λ _. Ok (changes g)))

-- a collection but `/` has a name
pub named_row : (c : Cat) (s : IsSound c) (id : ℕ) (old : CollectionRow) → (id ≡ 0 → ⊥) → collection c id ≡ Some old → is_name old.name ≡ true
named_row c s id old not_root found =
    let its = its_row c id old found in
    let fits : is_named_collection old ≡ true = in_from_all (λ (r : CollectionRow). is_named_collection r ≡ true) c.collections s.cat.collections.fit old its.0 in
    ap (λ b. b || is_name old.name) (sym (ne_eqb old.id 0 (λ e. not_root (sym its.1 ∙ e)))) ∙ fits

-- ---- the row that is put

pub is_there : (c : Cat) (id : ℕ) → has_collection c id ≡ true → None ≡ collection c id → ⊥
is_there c id there none = let row = row_there (λ (r : CollectionRow). r.id) c.collections id there in let wrong : None ≡ Some row.0 = none ∙ row.3 in cc

pub its_name : (c : Cat) (id : ℕ) (old : CollectionRow) → (id ≡ 0 → ⊥) → Some old ≡ collection c id → is_named_collection old ≡ true → is_name old.name ≡ true
its_name c id old not_root found named = ap (λ b. b || is_name old.name) (sym (ne_eqb old.id 0 (λ e. not_root (sym (its_row c id old (sym found)).1 ∙ e)))) ∙ named

pub flagged : (c : Cat) (id : ℕ) (on : Bool) (r old : CollectionRow) (name : Text) → (id ≡ 0 → ⊥) → Some old ≡ collection c id → name ≡ old.name
    → r ≡ record { id = id; parent = old.parent; name = name; inherit = on } → IsFlagged c id on r
flagged c id on r old name not_root found same is =
    inner not_root old (sym found) (is ∙ (λ i. record { id = sym (its_row c id old (sym found)).1 i; parent = old.parent; name = same i; inherit = on }))

pub flagged_all : {E : Type 0} (c : Cat) (id : ℕ) (on : Bool) (old : CollectionRow) (name : Text) → (id ≡ 0 → ⊥) → Some old ≡ collection c id → name ≡ old.name
    → (r : Result CollectionRow E) → IfOk r (λ x. x ≡ record { id = id; parent = old.parent; name = name; inherit = on }) → IfOk r (IsFlagged c id on)
flagged_all c id on old name not_root found same (Ok x) is = flagged c id on x old name not_root found same is
flagged_all c id on old name not_root found same (Err e) is = tt

module _ (c : Cat) (made : IsMade c) (user : ℕ) (p : Path) (on : Bool) where
  abbrev u : Text
  u = user_name c user

  abbrev after_grid : Grid
  after_grid = record (grid_of c) { collections = put (grid_of c).collections p on }

  pub refused_nothing : None ≡ collection_at c p → row (grid_of c) u (inherit p on) ≡ Err NoCollection
  refused_nothing none i = tests ((has-collections c (sound_of c made) p ∙ ap is_some (sym none)) i) (may (grid_of c) u p Own) after_grid

  module _ (id : ℕ) (at : collection_at c p ≡ Some id) where
    pub refused_level : may (grid_of c) u p Own ≡ false → row (grid_of c) u (inherit p on) ≡ Err NoAccess
    refused_level refused i = tests ((has-collections c (sound_of c made) p ∙ ap is_some at) i) (refused i) after_grid

    place : collection_place (collection_path c) id ≡ p
    place = place_is c id p (at_of c id p at).path

    applied_of : (r : CollectionRow) → collection_fits c r ≡ true → apply c (delta.Collection r) ≡ Ok (with_collection c r)
    applied_of r fits = ap (λ b. where_fits b 5 (with_collection c r)) fits

    flagged_fits : (r : CollectionRow) → IsFlagged c id on r → collection_fits c r ≡ true
    flagged_fits r (root is r_is) = ap (collection_fits c) r_is
    flagged_fits r (inner not_root old found r_is) = ap (collection_fits c) r_is ∙ fits_there c (sound_of c made) id old not_root found on (named_row c (sound_of c made) id old not_root found)

    flagged_grid : (r : CollectionRow) → IsFlagged c id on r → grid_of (with_collection c r) ≡ after_grid
    flagged_grid r (root is r_is) =
        grid-root made.0 c (with_collection c r) r made.1 (ap (λ (x : CollectionRow). x.id) r_is) (applied_of r (flagged_fits r (root is r_is)))
        ∙ (λ i. record (grid_of c) { collections = put (grid_of c).collections (at_root i) (r_is i).inherit })
      where
        at_root : [] ≡ p
        at_root = sym (root_place c (sound_of c made) (ap (has_collection c) (sym is) ∙ (at_of c id p at).there)) ∙ ap (collection_place (collection_path c)) (sym is) ∙ place
    flagged_grid r (inner not_root old found r_is) =
        let its : r.id ≡ id = ap (λ (x : CollectionRow). x.id) r_is ∙ (its_row c id old found).1 in
        grid-collection_changed made.0 c (with_collection c r) r old made.1 (λ e. not_root (sym its ∙ e)) (ap (collection c) its ∙ found) (ap (λ (x : CollectionRow). x.parent) r_is) (ap (λ (x : CollectionRow). x.name) r_is)
        (applied_of r (flagged_fits r (inner not_root old found r_is)))
        ∙ (λ i. record (grid_of c) { collections = put (grid_of c).collections ((ap (collection_place (collection_path c)) its ∙ place) i) (r_is i).inherit })

    -- its flag is that of its row
    flag_is : get (grid_of c).collections p ≡ Some (hands_on c id)
    flag_is =
        let row = row_there (λ (x : CollectionRow). x.id) c.collections id (at_of c id p at).there in
        get-collection_at c (sound_of c made) p id row.0 at row.3
        ∙ ap (λ (o : Option CollectionRow). Some (unwrap_or (option_map (λ x. x.inherit) o) false)) (sym row.3)

    pub planned_none : may (grid_of c) u p Own ≡ true → hands_on c id ≡ on → (deltas : List Delta) → deltas ≡ [] → Changes c u (inherit p on) deltas
    planned_none allowed has deltas none =
        plan_of c c u (inherit p on) deltas (ap (list_all is_mere) none) (ap (list_all can_be_kept) none) (ap (apply_all c) none)
        ((λ i. tests ((has-collections c (sound_of c made) p ∙ ap is_some at) i) (allowed i) after_grid)
        ∙ ap (λ m. Ok (changes (record (grid_of c) { collections = m }))) (put-same path_cmp_total path_cmp-IsAntisymmetric (grid_of c).collections p on (flag_is ∙ ap Some has)))
        (inl none)

    pub planned : may (grid_of c) u p Own ≡ true → hands_on c id ≢ on → (r : CollectionRow) → IsFlagged c id on r → IsTrue (can_be_kept (delta.Collection r)) → (deltas : List Delta) → deltas ≡ delta.Collection r ∷ [] → Changes c u (inherit p on) deltas
    planned allowed other r is kept deltas deltas_are =
        plan_of c (with_collection c r) u (inherit p on) deltas (ap (list_all is_mere) deltas_are) (ap (list_all can_be_kept) deltas_are ∙ ap (λ b. b && true) kept)
        (ap (apply_all c) deltas_are ∙ ap (λ x. elim x [ Ok next ↦ apply_all next [] | Err cause ↦ Err cause ]) (applied_of r (flagged_fits r is)))
        ((λ i. tests ((has-collections c (sound_of c made) p ∙ ap is_some at) i) (allowed i) after_grid) ∙ ap (λ (g : Grid). Ok (changes g)) (sym (flagged_grid r is)))
        (inr (λ e. put-other path_cmp_total path_cmp-IsAntisymmetric (grid_of c).collections p on (λ at_on. other (same_Some (hands_on c id) on (sym flag_is ∙ at_on)))
        (ap (λ (g : Grid). g.collections) (sym (flagged_grid r is) ∙ e))))
