-- A zone is never taken away.
use Rattle.std.proofs.Common.{◌≡◌, ℕ, Bool, true, false, List, [], ◌∷◌, Result, Ok, Err, refl, subst}
use Rattle.std.specs.Prelude.{IfOk, IsSome}
use Rattle.grid_model.specs.Rows.{Cat}
use Rattle.grid_model.specs.Applying.{apply, apply_all, where_fits}
use Rattle.grid_model.specs.declared.deltas.Delta.{Delta}
use Rattle.grid_model.specs.declared.deltas.Delta.TheVariants as delta
use Rattle.grid_journal.proofs.DeltaLemmas.{then_all, ok_same}

fits_zone : (fits : Bool) (cause : ℕ) (c : Cat) → IsSome c.zone → IfOk (where_fits fits cause c) (λ a. IsSome a.zone)
fits_zone true cause c some = some
fits_zone false cause c some = tt

after_one : (c : Cat) (d : Delta) → IsSome c.zone → IfOk (apply c d) (λ a. IsSome a.zone)
after_one c (delta.Zone name stores) some = fits_zone _ 1 _ refl
after_one c (delta.User r) some = fits_zone _ 2 _ some
after_one c (delta.Member m) some = fits_zone _ 3 _ some
after_one c (delta.NoMember m) some = fits_zone _ 4 _ some
after_one c (delta.Collection r) some = fits_zone _ 5 _ some
after_one c (delta.NoCollection id) some = fits_zone _ 6 _ some
after_one c (delta.Object r) some = fits_zone _ 7 _ some
after_one c (delta.NoObject id) some = fits_zone _ 8 _ some
after_one c (delta.Replica r) some = fits_zone _ 9 _ some
after_one c (delta.NoReplica object number) some = fits_zone _ 10 _ some
after_one c (delta.Triple t) some = fits_zone _ 11 _ some
after_one c (delta.NoTriple t) some = fits_zone _ 12 _ some
after_one c (delta.Entry e) some = fits_zone _ 13 _ some
after_one c (delta.NoEntry k id user) some = fits_zone _ 14 _ some
after_one c (delta.Resource r) some = fits_zone _ 15 _ some
after_one c (delta.Rules text) some = some
after_one c (delta.Orphan r) some = fits_zone _ 17 _ some
after_one c (delta.NoOrphan vault) some = fits_zone _ 18 _ some
after_one c (delta.Numbers n) some = fits_zone _ 19 _ some
after_one c (delta.Pending p) some = fits_zone _ 20 _ some
after_one c delta.NoPending some = fits_zone _ 21 _ some

pub zone_stays : (ds : List Delta) (c after : Cat) → apply_all c ds ≡ Ok after → IsSome c.zone → IsSome after.zone
zone_stays [] c after e some = let P : Cat → Type 0 = λ x. IsSome x.zone in subst P (ok_same c after e) some
zone_stays (d ∷ ds) c after e some = by (λ next. zone_stays ds next after) (apply c d) e (after_one c d some)
  where
    by : ((next : Cat) → apply_all next ds ≡ Ok after → IsSome next.zone → IsSome after.zone)
        → (r : Result Cat ℕ) → then_all ds r ≡ Ok after → IfOk r (λ a. IsSome a.zone) → IsSome after.zone
    by then_rest (Ok next) l h = then_rest next l h
    by then_rest (Err cause) l h = cc
