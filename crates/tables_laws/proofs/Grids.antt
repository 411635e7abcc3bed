-- Deltas that the grid does not show, or of which it shows little.
use Rattle.std.proofs.Common.{◌≡◌, ◌==◌, ℕ, zero, suc, true, false, List, [], ◌∷◌, length, Option, Some, None, Ok, refl, sym, ap, ◌∙◌}
use Rattle.std.specs.Prelude.{option_map, reverse}
use Rattle.grid_model.specs.Names.{Text, Path}
use Rattle.grid_model.specs.Rows.{Cat, collection}
use Rattle.grid_model.specs.RowPaths.{names_within, collection_path}
use Rattle.grid_model.specs.Applying.{apply, zone_fits, where_fits}
use Rattle.grid_model.specs.Grid.{Grid}
use Rattle.grid_model.specs.RowGrids.{grid_at, grid_of, is_seen}
use Rattle.grid_model.specs.declared.deltas.Delta.{Delta}
use Rattle.grid_model.specs.declared.deltas.Delta.TheVariants as delta
use Rattle.grid_model.specs.declared.deltas.CollectionRow.{CollectionRow}
use Rattle.tables_laws.proofs.Sound.{fits_so, ok-same}

module _ (c d : Cat) (found_same : (id : ℕ) → collection d id ≡ collection c id) where
  -- one step, on both sides
  abbrev step : (ℕ → Option Path) → ℕ → Option CollectionRow → Option Path
  step up id o = elim (id == 0) [
    | true ↦ Some []
    | false ↦ elim o [ None ↦ None | Some r ↦ option_map (λ names. r.name ∷ names) (up r.parent) ]
  ]

  within_same : (k id : ℕ) → names_within k d id ≡ names_within k c id
  within_same zero id = refl
  within_same (suc k) id =
      let ups : ◌≡◌ {A = ℕ → Option Path} (names_within k d) (names_within k c) = λ i j. within_same k j i in
      ap (λ (up : ℕ → Option Path). step up id (collection d id)) ups ∙ ap (λ (o : Option CollectionRow). step (names_within k c) id o) (found_same id)

module _ (c d : Cat) (same : d.collections ≡ c.collections) where
  -- the same collections are at the same paths
  pub paths_same : ◌≡◌ {A = ℕ → Option Path} (collection_path d) (collection_path c)
  paths_same i id = (ap (λ (rows : List CollectionRow). option_map reverse (names_within (length rows) d id)) same
      ∙ ap (λ (o : Option Path). option_map reverse o) (within_same c d (λ j. ap (λ (rows : List CollectionRow). collection (record c { collections = rows }) j) same) (length c.collections) id)) i

  -- and a catalogue whose rows look the same from there stands for the same grid
  pub grid-same : (g : Grid) → grid_at d (collection_path c) ≡ g → grid_of d ≡ g
  grid-same g e = ap (λ (p : ℕ → Option Path). grid_at d p) paths_same ∙ e

-- ---- one delta at a time

pub grid-zone : (c d : Cat) (name : Text) (stores : ℕ) → apply c (delta.Zone name stores) ≡ Ok d → grid_of d ≡ record (grid_of c) { zone = name; stores = stores }
grid-zone c d name stores e =
    let so = fits_so (zone_fits c name stores) 1 (record c { zone = Some name; stores = stores }) d e in
    ap (λ (x : Cat). grid_of x) (sym so.1) ∙ grid-same c (record c { zone = Some name; stores = stores }) refl (record (grid_of c) { zone = name; stores = stores }) refl

-- the next catalogue stands for the same grid where the rows look the same
then_same : (b : _) (cause : ℕ) (c next d : Cat) → next.collections ≡ c.collections → grid_at next (collection_path c) ≡ grid_of c → where_fits b cause next ≡ Ok d → grid_of d ≡ grid_of c
then_same b cause c next d same looks e = ap (λ (x : Cat). grid_of x) (sym (fits_so b cause next d e).1) ∙ grid-same c next same (grid_of c) looks

pub grid-unseen : (c d : Cat) (change : Delta) → is_seen change ≡ false → apply c change ≡ Ok d → grid_of d ≡ grid_of c
grid-unseen c d (delta.Zone name stores) unseen e = absurd cc
grid-unseen c d (delta.User r) unseen e = absurd cc
grid-unseen c d (delta.Member m) unseen e = absurd cc
grid-unseen c d (delta.NoMember m) unseen e = absurd cc
grid-unseen c d (delta.Collection r) unseen e = absurd cc
grid-unseen c d (delta.NoCollection id) unseen e = absurd cc
grid-unseen c d (delta.Object r) unseen e = absurd cc
grid-unseen c d (delta.NoObject id) unseen e = absurd cc
grid-unseen c d (delta.Replica r) unseen e = absurd cc
grid-unseen c d (delta.NoReplica object number) unseen e = absurd cc
grid-unseen c d (delta.Triple t) unseen e = absurd cc
grid-unseen c d (delta.NoTriple t) unseen e = absurd cc
grid-unseen c d (delta.Entry x) unseen e = absurd cc
grid-unseen c d (delta.NoEntry k id user) unseen e = absurd cc
grid-unseen c d (delta.Resource r) unseen e = absurd cc
grid-unseen c d (delta.Rules text) unseen e = absurd cc
grid-unseen c d (delta.Orphan r) unseen e = then_same _ 17 c _ d refl refl e
grid-unseen c d (delta.NoOrphan vault) unseen e = then_same _ 18 c _ d refl refl e
grid-unseen c d (delta.Numbers n) unseen e = then_same _ 19 c _ d refl refl e
grid-unseen c d (delta.Pending p) unseen e = then_same _ 20 c _ d refl refl e
grid-unseen c d delta.NoPending unseen e = then_same _ 21 c _ d refl refl e

-- the text of the rules is not in the grid
pub grid-rules : (c d : Cat) (text : Text) → apply c (delta.Rules text) ≡ Ok d → grid_of d ≡ grid_of c
grid-rules c d text e =
    ap (λ (x : Cat). grid_of x) (sym (ok-same (record c { rules = text }) d (apply c (delta.Rules text)) refl e)) ∙ grid-same c (record c { rules = text }) refl (grid_of c) refl
