-- Objects stay small by what operations make of them.
use Rattle.std.proofs.Common.{◌≡◌, ℕ, ◌≤◌, true, false, List, [], ◌∷◌, Option, Some, None, refl}
use Rattle.std.specs.Prelude.{◌&&◌, not}
use Rattle.std.specs.Option.{option_map_or}
use Rattle.grid_model.specs.Names.{Text, Path}
use Rattle.grid_model.specs.Digests.{Digest}
use Rattle.grid_model.specs.Limits.{object_size}
use Rattle.grid_model.specs.Grid.{Grid, Object, Replica}
use Rattle.grid_model.specs.Maps.{get}
use Rattle.grid_model.specs.Trees.{Replicas, Resources, readable, is_in, is_up}
use Rattle.grid_model.specs.Operations.Objects.{good_on, good_on_all, gone_stale, replicas_there, written, with_object, number_on, new_number}
use Rattle.grid_model.specs.Operations.Replicas.{with_replicas, marked_bad, is_named, trimmed}
use Rattle.grid_model.specs.declared.marks.BadReplica.{BadReplica}
use Rattle.tables_laws.proofs.Rows.{all_kept}
use Rattle.size_laws.specs.Within.{AreSmall, IsSmall, IsWithin}
use Rattle.size_laws.proofs.SmallMaps.{each-get, each-put, each-with_values, each-each_value, each-keep}

-- the replica is no larger than an object may be
abbrev pub HasSmallSize : Replica → Type 0
HasSmallSize r = r.size ≤ object_size

-- ---- replicas

pub small-stale : (rs : Replicas) → AreSmall rs.entries → AreSmall (gone_stale rs).entries
small-stale rs small = each-with_values HasSmallSize (λ (r : Replica). record r { good = false }) rs (λ r its. its) small

pub small-good_on_all : (len : ℕ) (digest : Digest) (rs : Replicas) (leaves : List Text) → len ≤ object_size → AreSmall rs.entries
    → AreSmall (good_on_all len digest rs leaves).entries
small-good_on_all len digest rs [] few small = small
small-good_on_all len digest rs (leaf ∷ leaves) few small =
    small-good_on_all len digest (good_on len digest rs leaf) leaves few
    (each-put HasSmallSize rs (option_map_or (λ n. n) (number_on rs leaf) (new_number rs))
    (record { leaf = leaf; good = true; size = len; digest = digest }) few small)

pub small-marked_bad : (rs : Replicas) (bad : List BadReplica) → AreSmall rs.entries → AreSmall (marked_bad rs bad).entries
small-marked_bad rs bad small =
    each-each_value HasSmallSize (λ n (r : Replica). record r { good = r.good && not (is_named bad n) }) rs (λ n r its. its) small

pub small-trimmed : (tree : Resources) (rs : Replicas) (r : Text) → AreSmall rs.entries → AreSmall (trimmed tree rs r).entries
small-trimmed tree rs r small = each-keep HasSmallSize (λ n x. not (is_in tree r x.leaf)) rs small

pub small-readable : (tree : Resources) (o : Object) → IsSmall o → AreSmall (readable tree o)
small-readable tree o small = all_kept (λ (e : ℕ × Replica). e.1.size ≤ object_size) (λ e. e.1.good && is_up tree e.1.leaf) o.replicas.entries small.replicas

-- ---- objects

small-there : (old : Option Object) → ((o : Object) → old ≡ Some o → IsSmall o) → AreSmall (replicas_there old).entries
small-there None each = tt
small-there (Some o) each = (each o refl).replicas

pub small-written : (old : Option Object) (len : ℕ) (digest : Digest) (now : ℕ) (leaves : List Text) → ((o : Object) → old ≡ Some o → IsSmall o)
    → len ≤ object_size → IsSmall (written old len digest now leaves)
small-written old len digest now leaves each few = record {
  size = few;
  replicas = small-good_on_all len digest (gone_stale (replicas_there old)) leaves few (small-stale (replicas_there old) (small-there old each));
}

module _ (g : Grid) (w : IsWithin g) where
  pub small-object : (p : Path) (o : Object) → get g.objects p ≡ Some o → IsSmall o
  small-object p o found = each-get IsSmall g.objects p o w.objects found

  pub within-with_object : (user : Text) (c p : Path) (o : Object) → IsSmall o → IsWithin (with_object g user c p o)
  within-with_object user c p o small = record { objects = each-put IsSmall g.objects p o small w.objects; resources = w.resources }

  pub within-with_replicas : (p : Path) (o : Object) (rs : Replicas) → IsSmall o → AreSmall rs.entries → IsWithin (with_replicas g p o rs)
  within-with_replicas p o rs small all = record {
    objects = each-put IsSmall g.objects p (record o { replicas = rs }) (record { size = small.size; replicas = all }) w.objects;
    resources = w.resources;
  }
