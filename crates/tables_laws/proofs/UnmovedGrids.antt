-- A grid whose paths stay where they are.
use Rattle.std.proofs.Common.{◌≡◌, refl, ap}
use Rattle.grid_model.specs.Moves.{moved, moved_thing, with_paths, moved_grid}
use Rattle.grid_model.specs.Names.{Path}
use Rattle.grid_model.specs.Grid.{Grid, Thing, object_at, collection_at, resource_named, user_named}
use Rattle.grid_model.proofs.Comparing.{path_cmp_total, path_cmp-IsAntisymmetric}
use Rattle.tables_laws.proofs.GridOrders.{triple_cmp_total, triple_cmp-IsAntisymmetric, access_cmp_total, access_cmp-IsAntisymmetric}
use Rattle.tables_laws.proofs.MovedPaths.{moved-nowhere}
use Rattle.tables_laws.proofs.Rekeyed.{rekey-same}
use Rattle.tables_laws.proofs.Frame.{same_grid}

module _ (at : Path → Path) (stays : (p : Path) → at p ≡ p) where
  thing-same : (t : Thing) → moved_thing at t ≡ t
  thing-same (object_at p) = ap object_at (stays p)
  thing-same (collection_at p) = ap collection_at (stays p)
  thing-same (resource_named n) = refl
  thing-same (user_named n) = refl

  pub with_paths-same : (g : Grid) → with_paths at g ≡ g
  with_paths-same g =
      same_grid (with_paths at g) g refl refl refl refl (rekey-same path_cmp_total path_cmp-IsAntisymmetric at g.collections stays) (rekey-same path_cmp_total path_cmp-IsAntisymmetric at g.objects stays)
      (rekey-same triple_cmp_total triple_cmp-IsAntisymmetric (λ t. record t { of = moved_thing at t.of }) g.triples (λ t. ap (λ (of : Thing). record t { of = of }) (thing-same t.of)))
      (rekey-same access_cmp_total access_cmp-IsAntisymmetric (λ k. (at k.0, k.1)) g.access (λ k. ap (λ (p : Path). (p, k.1)) (stays k.0))) refl

-- what is moved to where it was
pub moved_grid-nowhere : (p : Path) (g : Grid) → moved_grid p p g ≡ g
moved_grid-nowhere p g = with_paths-same (moved p p) (moved-nowhere p) g
