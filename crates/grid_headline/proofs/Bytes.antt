-- The bytes of a disk in the middle of the put: they stand for a catalogue in which it is pending.
use Rattle.std.proofs.Common.{arith, append-nil, ◌≡◌, ℕ, zero, suc, false, List, [], ◌∷◌, ◌++◌, refl, sym, ap}
use Rattle.std.specs.Prelude.{◌<◌, ◌^◌, All, Ok, IsSome, IsTrue, codes, length, flat_map}
use Rattle.std.specs.Fmt.{digits}
use Rattle.std.specs.List.{list_all}
use Rattle.frame_log.specs.Log.{frame, IsShort}
use Rattle.grid_model.specs.Names.{Text}
use Rattle.grid_model.specs.Rows.{Cat, empty_cat}
use Rattle.grid_model.specs.Applying.{apply_all}
use Rattle.grid_model.specs.Deltas.{spelling, delta_fits, four_bytes, eight_bytes}
use Rattle.grid_model.specs.Grid.{everybody, home}
use Rattle.grid_model.specs.declared.deltas.Delta.{Delta}
use Rattle.grid_model.specs.declared.deltas.Delta.TheVariants as delta
use Rattle.grid_model.specs.declared.grid.UserKind.TheVariants.{Rodsadmin, Rodsgroup}
use Rattle.grid_model.specs.declared.grid.Level.TheVariants.{Read, Own}
use Rattle.grid_model.specs.declared.grid.ItemKind.TheVariants.{Collection}
use Rattle.grid_journal.specs.Start.{main_with}
use Rattle.grid_journal.specs.Journal.{sets_no_rules}
use Rattle.grid_journal.specs.Stands.{Stands, stands, taken, none_left}
use Rattle.grid_journal.proofs.KeptDeltas.{no_rules_kept}
use Rattle.grid_headline.specs.Stops.{OneImage}
use Rattle.grid_headline.proofs.Scene.{zone, rods, first_leaf, second_leaf}
use Rattle.grid_headline.proofs.PutStops.{run, pending, within, image_within}

one_short : (body : List ℕ) → length body < 2 ^ 64 → All IsShort (body ∷ [])
one_short body short zero d less = short
one_short body short (suc k) d less = absurd (omega (arith, less))

-- main with one record of deltas that make a catalogue stands for it
pub stands_made : (deltas : List Delta) (c : Cat) → IsTrue (list_all delta_fits deltas) → IsTrue (list_all sets_no_rules deltas)
    → apply_all empty_cat deltas ≡ Ok c → IsSome c.zone
    → length (flat_map spelling deltas) < 2 ^ 64 → (spare : Text) → Stands (main_with (flat_map spelling deltas)) spare (Ok c)
stands_made deltas c fit none made zoned short spare =
    let body = flat_map spelling deltas in
    stands (body ∷ []) c
    (record { root = 0; magic_is = refl; root_is = refl; even = refl })
    (record {
      gate = 0;
      rest = [];
      some = λ e. absurd (cc e);
      short = one_short body short;
      closed = λ e. absurd (cc e);
      is = ap (λ t. t ++ 0 ∷ []) (sym (append-nil (frame body)));
    })
    (taken deltas (record { fit = fit; bytes_are = refl }) (no_rules_kept deltas none) made none_left) zoned

-- the changes that make the catalogue
abbrev deltas : (known : ℕ → Type 0) → List Delta
deltas known =
    delta.Zone zone 2
    ∷ delta.User (record { id = 1; kind = Rodsadmin; name = rods })
    ∷ delta.User (record { id = 2; kind = Rodsgroup; name = everybody })
    ∷ delta.Collection (record { id = 0; parent = 0; name = []; inherit = false })
    ∷ delta.Collection (record { id = 1; parent = 0; name = zone; inherit = false })
    ∷ delta.Collection (record { id = 2; parent = 1; name = home; inherit = false })
    ∷ delta.Collection (record { id = 3; parent = 2; name = rods; inherit = false })
    ∷ delta.Entry (record { kind = Collection; id = 0; user = 2; level = Read })
    ∷ delta.Entry (record { kind = Collection; id = 1; user = 2; level = Read })
    ∷ delta.Entry (record { kind = Collection; id = 2; user = 2; level = Read })
    ∷ delta.Entry (record { kind = Collection; id = 3; user = 1; level = Own })
    ∷ delta.Resource first_leaf
    ∷ delta.Resource second_leaf
    ∷ delta.Numbers (record { next_vault = 2; run = 1; last = 0 })
    ∷ delta.Orphan (record { vault = 1; slot = 0 })
    ∷ delta.Pending (pending known)
    ∷ []

make_it : (known : ℕ → Type 0) → apply_all empty_cat (deltas known) ≡ Ok (within known)
make_it known = refl

all_fit : (known : ℕ → Type 0) → IsTrue (list_all delta_fits (deltas known))
unfolding four_bytes eight_bytes digits
all_fit known = refl

are_short : (known : ℕ → Type 0) → length (flat_map spelling (deltas known)) < 2 ^ 64
unfolding four_bytes eight_bytes digits
are_short known = omega arith

-- so this image is real
pub real_image : (known : ℕ → Type 0) (spare : Text)
    → OneImage (run known) [] (record { main = main_with (flat_map spelling (deltas known)); spare = spare; sink = codes "1 ok\n" })
real_image known spare = image_within known (main_with (flat_map spelling (deltas known))) spare
    (stands_made (deltas known) (within known) (all_fit known) refl (make_it known) refl (are_short known) spare)
