-- Resources by ids and by names.
use Rattle.std.proofs.Common.{◌≡◌, ℕ, true, List, [], ◌∷◌, ◌++◌, map, Option, Some, IsTrue, refl, sym, ap, ◌∙◌, eqb-true}
use Rattle.std.specs.Prelude.{◌==◌, find, option_map, unwrap_or}
use Rattle.std.specs.List.{AllByRecursion}
use Rattle.grid_model.specs.Maps.{get}
use Rattle.grid_model.specs.Names.{Text, same_text}
use Rattle.grid_model.specs.Rows.{Cat, resource, has_resource}
use Rattle.grid_model.specs.RowGrids.{grid_of, resource_of, resource_name}
use Rattle.grid_model.specs.Applying.{IsMade}
use Rattle.grid_model.specs.declared.deltas.ResourceRow.{ResourceRow}
use Rattle.grid_model.proofs.Comparing.{same_text-Decides}
use Rattle.tables_laws.proofs.Rows.{IsIn, in_from_find, find_from_in}
use Rattle.tables_laws.proofs.Numbered.{one_number}
use Rattle.tables_laws.proofs.Places.{row_there}
use Rattle.tables_laws.proofs.LookUps.{get-resources}
use Rattle.tables_laws.proofs.Sound.{IsSound, sound-made}
use Rattle.grid_tree.specs.Names.{AreNamed}

pub sound_of : (c : Cat) → IsMade c → IsSound c
sound_of c m = sound-made m.0 c m.1

-- the name of a row that is found
pub name_is : (c : Cat) (id : ℕ) (r : ResourceRow) → resource c id ≡ Some r → resource_name c id ≡ r.name
name_is c id r found = ap (λ (o : Option ResourceRow). unwrap_or (option_map (λ x. x.name) o) []) found

-- ---- several

pub named-none : (c : Cat) → AreNamed c [] []
named-none c = record { there = tt; named = refl }

pub named-append : (c : Cat) (ids more : List ℕ) (names others : List Text) → AreNamed c ids names → AreNamed c more others → AreNamed c (ids ++ more) (names ++ others)
named-append c ids more names others a b = record {
  there = all-append ids a.there;
  named = map-append ids ∙ (λ i. a.named i ++ b.named i);
}
  where
    all-append : (xs : List ℕ) → AllByRecursion (λ id. IsTrue (has_resource c id)) xs → AllByRecursion (λ id. IsTrue (has_resource c id)) (xs ++ more)
    all-append [] all = b.there
    all-append (x ∷ xs) all = (all.0, all-append xs all.1)

    map-append : (xs : List ℕ) → map (resource_name c) (xs ++ more) ≡ map (resource_name c) xs ++ map (resource_name c) more
    map-append [] = refl
    map-append (x ∷ xs) = ap (λ ys. resource_name c x ∷ ys) (map-append xs)

pub named-one : (c : Cat) (id : ℕ) → IsTrue (has_resource c id) → AreNamed c (id ∷ []) (resource_name c id ∷ [])
named-one c id has = record { there = (has, tt); named = refl }

pub named-as : (c : Cat) (ids : List ℕ) (names others : List Text) → names ≡ others → AreNamed c ids names → AreNamed c ids others
named-as c ids names others e a = record { there = a.there; named = a.named ∙ e }

-- ---- one

module _ (c : Cat) (s : IsSound c) where
  pub resource_found : (r : ResourceRow) → IsIn c.resources r → find (λ o. same_text o.name r.name) c.resources ≡ Some r
  resource_found r here =
      find_from_in (λ o. same_text o.name r.name) c.resources r here ((same_text-Decides r.name r.name).1 refl) (λ y there passes.
      one_number (λ (z : ResourceRow). z.id) c.resources y r s.cat.resources.ordered there here (s.names.resources_apart y r there here ((same_text-Decides y.name r.name).0 passes)))

  -- what the grid has under the name of a row
  pub get-row : (r : ResourceRow) → IsIn c.resources r → get (grid_of c).resources r.name ≡ Some (resource_of c r)
  get-row r here = get-resources c r.name ∙ ap (option_map (resource_of c)) (resource_found r here)

  pub get-named : (id : ℕ) (r : ResourceRow) → resource c id ≡ Some r → get (grid_of c).resources (resource_name c id) ≡ Some (resource_of c r)
  get-named id r found = ap (λ (n : Text). get (grid_of c).resources n) (name_is c id r found) ∙ get-row r (in_from_find (λ x. x.id == id) c.resources r found).0
