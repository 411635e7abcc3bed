-- What the rows of a repl, a chksum, a get and a copy refuse is of the grid.
use Rattle.std.proofs.Common.{ℕ, List, [], ◌∷◌, Option, Some, None, Ok, map}
use Rattle.grid_model.specs.Maps.{get, has}
use Rattle.grid_model.specs.Names.{Text, Path}
use Rattle.grid_model.specs.Grid.{Grid, Object, Replica}
use Rattle.grid_model.specs.Levels.{may}
use Rattle.grid_model.specs.Trees.{candidates, is_any, possible, readable, slots_of, targets}
use Rattle.grid_model.specs.Refusing.{Or, ◌>>=◌, unless}
use Rattle.grid_model.specs.Deeds.{Act, copying, deed, reading, sending}
use Rattle.grid_model.specs.Operations.Common.{collection_above, needs, object_there, resource_there}
use Rattle.grid_model.specs.Operations.Objects.{good_on_all, may_put, may_stand, room_for, with_object, written}
use Rattle.grid_model.specs.Operations.Replicas.{Source, asked_there, chksum_row, copy_row, first_of, get_row, got}
use Rattle.grid_model.specs.Operations.Replicas.{lacking, marked_bad, repl_row, with_replicas}
use Rattle.grid_model.specs.declared.grid.Level.TheVariants.{Read, Write}
use Rattle.grid_model.specs.declared.grid.Mode.TheVariants.{New}
use Rattle.grid_model.specs.declared.refusal.Refusal.TheVariants as refusal
use Rattle.chain_laws.proofs.OfGrid.{OfGrid, above_of, room_of, then_of, there_of, unless_of}

first_of_grid : (g : Grid) (o : Object) (es : List (ℕ × Replica)) → OfGrid (first_of g o es)
first_of_grid g o [] = tt
first_of_grid g o (e ∷ es) = tt

module _ (g : Grid) (user : Text) (p : Path) where
  module _ (r : Text) where
    abbrev copies : Object → Source → Or Act
    copies o from = Ok (deed (record {
      size = o.size;
      digest = o.digest;
      ran = λ word now _. with_replicas g p o (good_on_all o.size o.digest o.replicas (lacking o.replicas (targets g.resources r word)));
      touch = copying from.slot (slots_of g.resources (lacking o.replicas (possible g.resources r)));
    }))

    abbrev sourced : Object → Or Act
    sourced o = first_of g o (candidates g.resources o None) >>= copies o

    abbrev targeted : Object → Or Act
    targeted o = unless (is_any (possible g.resources r)) refusal.NoTarget >>= (λ _. sourced o)

    abbrev on_resource : Object → Or Act
    on_resource o = resource_there g r >>= (λ _. targeted o)

    pub repl_of : OfGrid (repl_row g user p r)
    repl_of =
        then_of (object_there g p) (λ o. needs g user p Write >>= (λ _. on_resource o))
        (there_of (get g.objects p) refusal.NoObject tt) (λ o.
        then_of (needs g user p Write) (λ _. on_resource o) (unless_of (may g user p Write) refusal.NoAccess tt) (λ _.
        then_of (resource_there g r) (λ _. targeted o) (unless_of (has g.resources r) refusal.NoResource tt) (λ _.
        then_of (unless (is_any (possible g.resources r)) refusal.NoTarget) (λ _. sourced o)
        (unless_of (is_any (possible g.resources r)) refusal.NoTarget tt) (λ _.
        then_of (first_of g o (candidates g.resources o None)) (copies o)
        (first_of_grid g o (candidates g.resources o None)) (λ from. tt)))))

  abbrev looks : Object → Or Act
  looks o = Ok (deed (record {
    size = o.size;
    digest = o.digest;
    ran = λ word now bad. with_replicas g p o (marked_bad o.replicas bad);
    touch = reading (readable g.resources o) (slots_of g.resources (map (λ e. e.1.leaf) (readable g.resources o)));
  }))

  abbrev readable_there : Object → Or Act
  readable_there o = first_of g o (readable g.resources o) >>= (λ _. looks o)

  pub chksum_of : OfGrid (chksum_row g user p)
  chksum_of =
      then_of (object_there g p) (λ o. needs g user p Write >>= (λ _. readable_there o)) (there_of (get g.objects p) refusal.NoObject tt) (λ o.
      then_of (needs g user p Write) (λ _. readable_there o) (unless_of (may g user p Write) refusal.NoAccess tt) (λ _.
      then_of (first_of g o (readable g.resources o)) (λ _. looks o) (first_of_grid g o (readable g.resources o)) (λ _. tt)))

  -- ---- get

  module _ (asked : Option Text) where
    abbrev sends : Source → Or Act
    sends from = Ok (deed (record { size = from.object.size; digest = from.object.digest; ran = λ word now _. g; touch = sending from.slot }))

    asked_of : (asked : Option Text) → OfGrid (asked_there g asked)
    asked_of None = tt
    asked_of (Some r) = unless_of (has g.resources r) refusal.NoResource tt

    abbrev the_first : Object → Or Source
    the_first o = first_of g o (candidates g.resources o asked)

    abbrev where_asked : Object → Or Source
    where_asked o = asked_there g asked >>= (λ _. the_first o)

    pub got_of : OfGrid (got g user p asked)
    got_of =
        then_of (object_there g p) (λ o. needs g user p Read >>= (λ _. where_asked o)) (there_of (get g.objects p) refusal.NoObject tt) (λ o.
        then_of (needs g user p Read) (λ _. where_asked o) (unless_of (may g user p Read) refusal.NoAccess tt) (λ _.
        then_of (asked_there g asked) (λ _. the_first o) (asked_of asked) (λ _. first_of_grid g o (candidates g.resources o asked))))

    pub get_of : OfGrid (get_row g user p asked)
    get_of = then_of (got g user p asked) sends got_of (λ from. tt)

  -- ---- copy

  module _ (b : Path) (r : Text) where
    abbrev copied : Object → Source → Path → Or Act
    copied o from c = Ok (deed (record {
      size = o.size;
      digest = o.digest;
      ran = λ word now _. with_object g user c b (written None o.size o.digest now (targets g.resources r word));
      touch = copying from.slot (slots_of g.resources (possible g.resources r));
    }))

    abbrev copy_room : Object → Source → Path → Or Act
    copy_room o from c = room_for g user c b o.size >>= (λ _. copied o from c)

    abbrev copy_targeted : Object → Source → Path → Or Act
    copy_targeted o from c = unless (is_any (possible g.resources r)) refusal.NoTarget >>= (λ _. copy_room o from c)

    abbrev copy_stands : Object → Source → Path → Or Act
    copy_stands o from c = unless (may_stand g b New) refusal.Exists >>= (λ _. copy_targeted o from c)

    abbrev copy_allowed : Object → Source → Path → Or Act
    copy_allowed o from c = unless (may_put g user c b) refusal.NoAccess >>= (λ _. copy_stands o from c)

    abbrev copy_there : Object → Source → Path → Or Act
    copy_there o from c = resource_there g r >>= (λ _. copy_allowed o from c)

    abbrev copy_above : Object → Source → Or Act
    copy_above o from = collection_above g b >>= copy_there o from

    abbrev copy_first : Object → Or Act
    copy_first o = first_of g o (candidates g.resources o None) >>= copy_above o

    above_copied : (o : Object) (from : Source) → OfGrid (copy_above o from)
    above_copied o from =
        then_of (collection_above g b) (copy_there o from) (above_of g b) (λ c.
        then_of (resource_there g r) (λ _. copy_allowed o from c) (unless_of (has g.resources r) refusal.NoResource tt) (λ _.
        then_of (unless (may_put g user c b) refusal.NoAccess) (λ _. copy_stands o from c) (unless_of (may_put g user c b) refusal.NoAccess tt) (λ _.
        then_of (unless (may_stand g b New) refusal.Exists) (λ _. copy_targeted o from c) (unless_of (may_stand g b New) refusal.Exists tt) (λ _.
        then_of (unless (is_any (possible g.resources r)) refusal.NoTarget) (λ _. copy_room o from c)
        (unless_of (is_any (possible g.resources r)) refusal.NoTarget tt) (λ _.
        then_of (room_for g user c b o.size) (λ _. copied o from c) (room_of g user c b o.size) (λ _. tt))))))

    pub copy_of : OfGrid (copy_row g user p b r)
    copy_of =
        then_of (object_there g p) (λ o. needs g user p Read >>= (λ _. copy_first o)) (there_of (get g.objects p) refusal.NoObject tt) (λ o.
        then_of (needs g user p Read) (λ _. copy_first o) (unless_of (may g user p Read) refusal.NoAccess tt) (λ _.
        then_of (first_of g o (candidates g.resources o None)) (copy_above o)
        (first_of_grid g o (candidates g.resources o None)) (λ from. above_copied o from)))
