-- What the rows of operations refuse that change rows alone is of the grid.
use Rattle.std.proofs.Common.{Bool, Ok}
use Rattle.std.specs.Prelude.{⊤, ℕ, ◌||◌, is_some, length, nat_le, nat_lt}
use Rattle.std.specs.List.{list_any}
use Rattle.grid_model.specs.Maps.{get, has, put, add, remove}
use Rattle.grid_model.specs.MapLists.{size}
use Rattle.grid_model.specs.Names.{Text, Path, is_under, same_text}
use Rattle.grid_model.specs.Grid.{Grid, Object, Resource, Thing, Triple, object_at, collection_at, resource_named, user_named, everybody, homes, home_of}
use Rattle.grid_model.specs.Levels.{may, is_admin}
use Rattle.grid_model.specs.Bounds.{within, triple_size}
use Rattle.grid_model.specs.Operations.Metadata.{addmeta_row, rmmeta_row, may_tag, words_fit}
use Rattle.grid_model.specs.Refusing.{Or, ◌>>=◌, unless, refuse, there}
use Rattle.grid_model.specs.Deeds.{Act, changes}
use Rattle.grid_model.specs.Moves.{moved_grid}
use Rattle.grid_model.specs.Operations.Common.{collection_above, needs, needs_admin, is_taken, is_fixed, forget, object_there, resource_there}
use Rattle.grid_model.specs.Operations.Replicas.{trim_row, rm_row, trimmed, has_good, with_replicas}
use Rattle.grid_model.specs.Operations.Collections.{mv_row, rmdir_row, holds_items}
use Rattle.grid_model.specs.Operations.Access.{chmod_row, inherit_row, with_entry}
use Rattle.grid_model.specs.Operations.Users.{mkuser_row, mkgroup_row, addmember_row, rmmember_row, with_user, with_group, can_be_member, is_in_group}
use Rattle.grid_model.specs.Operations.Resources.{mkresc_row, addchild_row, modresc_row, can_stand_at, grid_with_resource, with_child, is_full}
use Rattle.grid_model.specs.Trees.{upward, is_in}
use Rattle.grid_model.specs.Applying.{is_storage}
use Rattle.grid_model.specs.declared.grid.UserKind.{UserKind}
use Rattle.grid_model.specs.declared.grid.Level.{Level}
use Rattle.grid_model.specs.declared.grid.Level.TheVariants.{Write, Own}
use Rattle.grid_model.specs.declared.grid.ResourceKind.{ResourceKind}
use Rattle.grid_model.specs.declared.refusal.TreeCause.TheVariants.{Leaf, HasParent, Cycle, Full, Coordinating}
use Rattle.grid_model.specs.declared.refusal.What.TheVariants.{Access, Collections, Members, Resources, Triples, Users}
use Rattle.grid_model.specs.declared.refusal.Refusal.TheVariants as refusal
use Rattle.chain_laws.proofs.OfGrid.{OfGrid, then_of, unless_of, refuse_of, there_of, within_of, above_of}

module _ (g : Grid) (user : Text) where
  admin_of : OfGrid (needs_admin g user)
  admin_of = unless_of (is_admin (get g.users user)) refusal.NotAdmin tt

  module _ (p : Path) where
    abbrev removed : Or Act
    removed = Ok (changes (forget (record g { collections = remove g.collections p }) p))

    abbrev empty : Or Act
    empty = refuse (holds_items g p) refusal.NotEmpty >>= (λ _. removed)

    abbrev removing : Or Act
    removing = refuse (is_fixed g p) refusal.Fixed >>= (λ _. empty)

    pub rmdir_of : OfGrid (rmdir_row g user p)
    rmdir_of =
        then_of (unless (has g.collections p) refusal.NoCollection) (λ _. needs g user p Own >>= (λ _. removing))
        (unless_of (has g.collections p) refusal.NoCollection tt) (λ _.
        then_of (needs g user p Own) (λ _. removing) (unless_of (may g user p Own) refusal.NoAccess tt) (λ _.
        then_of (refuse (is_fixed g p) refusal.Fixed) (λ _. empty) (refuse_of (is_fixed g p) refusal.Fixed tt) (λ _.
        then_of (refuse (holds_items g p) refusal.NotEmpty) (λ _. removed) (refuse_of (holds_items g p) refusal.NotEmpty tt) (λ _. tt))))

  module _ (name : Text) (kind : UserKind) where
    abbrev with_it : Grid
    with_it = with_user g name kind

    abbrev room_access : Or Act
    room_access = within Access (size with_it.access) >>= (λ _. Ok (changes with_it))

    abbrev room_collections : Or Act
    room_collections = within Collections (size with_it.collections) >>= (λ _. room_access)

    abbrev room_users : Or Act
    room_users = within Users (size with_it.users) >>= (λ _. room_collections)

    abbrev homed : Or Act
    homed = unless (has g.collections (homes g.zone)) refusal.NoCollection >>= (λ _. room_users)

    abbrev untaken : Or Act
    untaken = refuse (has g.users name || is_taken g (home_of g.zone name)) refusal.Exists >>= (λ _. homed)

    pub mkuser_of : OfGrid (mkuser_row g user name kind)
    mkuser_of =
        then_of (needs_admin g user) (λ _. untaken) admin_of (λ _.
        then_of (refuse (has g.users name || is_taken g (home_of g.zone name)) refusal.Exists) (λ _. homed)
        (refuse_of (has g.users name || is_taken g (home_of g.zone name)) refusal.Exists tt) (λ _.
        then_of (unless (has g.collections (homes g.zone)) refusal.NoCollection) (λ _. room_users)
        (unless_of (has g.collections (homes g.zone)) refusal.NoCollection tt) (λ _.
        then_of (within Users (size with_it.users)) (λ _. room_collections) (within_of Users (size with_it.users)) (λ _.
        then_of (within Collections (size with_it.collections)) (λ _. room_access) (within_of Collections (size with_it.collections)) (λ _.
        then_of (within Access (size with_it.access)) (λ _. Ok (changes with_it)) (within_of Access (size with_it.access)) (λ _. tt))))))

  module _ (name : Text) where
    abbrev room_group : Or Act
    room_group = within Users (size (with_group g name).users) >>= (λ _. Ok (changes (with_group g name)))

    abbrev unnamed : Or Act
    unnamed = refuse (has g.users name) refusal.Exists >>= (λ _. room_group)

    pub mkgroup_of : OfGrid (mkgroup_row g user name)
    mkgroup_of =
        then_of (needs_admin g user) (λ _. unnamed) admin_of (λ _.
        then_of (refuse (has g.users name) refusal.Exists) (λ _. room_group) (refuse_of (has g.users name) refusal.Exists tt) (λ _.
        then_of (within Users (size (with_group g name).users)) (λ _. Ok (changes (with_group g name)))
        (within_of Users (size (with_group g name).users)) (λ _. tt)))

  module _ (a b : Path) where
    abbrev free : Path → Or Act
    free c = refuse (is_taken g b) refusal.Exists >>= (λ _. Ok (changes (moved_grid a b g)))

    abbrev written : Path → Or Act
    written c = needs g user c Write >>= (λ _. free c)

    abbrev above : Or Act
    above = collection_above g b >>= written

    abbrev outside : Or Act
    outside = refuse (is_under a b) refusal.Inside >>= (λ _. above)

    abbrev moving : Or Act
    moving = refuse (is_fixed g a) refusal.Fixed >>= (λ _. outside)

    abbrev owned : Or Act
    owned = needs g user a Own >>= (λ _. moving)

    pub mv_of : OfGrid (mv_row g user a b)
    mv_of =
        then_of (unless (is_taken g a) refusal.NoObject) (λ _. owned) (unless_of (is_taken g a) refusal.NoObject tt) (λ _.
        then_of (needs g user a Own) (λ _. moving) (unless_of (may g user a Own) refusal.NoAccess tt) (λ _.
        then_of (refuse (is_fixed g a) refusal.Fixed) (λ _. outside) (refuse_of (is_fixed g a) refusal.Fixed tt) (λ _.
        then_of (refuse (is_under a b) refusal.Inside) (λ _. above) (refuse_of (is_under a b) refusal.Inside tt) (λ _.
        then_of (collection_above g b) written (above_of g b) (λ c.
        then_of (needs g user c Write) (λ _. free c) (unless_of (may g user c Write) refusal.NoAccess tt) (λ _.
        then_of (refuse (is_taken g b) refusal.Exists) (λ _. Ok (changes (moved_grid a b g))) (refuse_of (is_taken g b) refusal.Exists tt) (λ _. tt)))))))

  module _ (level : Level) (name : Text) (p : Path) where
    abbrev given : Or Act
    given = Ok (changes (record g { access = with_entry g.access (p, name) level }))

    abbrev room : Or Act
    room = within Access (size (with_entry g.access (p, name) level)) >>= (λ _. given)

    abbrev known : Or Act
    known = unless (has g.users name) refusal.NoUser >>= (λ _. room)

    abbrev owner : Or Act
    owner = needs g user p Own >>= (λ _. known)

    pub chmod_of : OfGrid (chmod_row g user level name p)
    chmod_of =
        then_of (unless (is_taken g p) refusal.NoObject) (λ _. owner) (unless_of (is_taken g p) refusal.NoObject tt) (λ _.
        then_of (needs g user p Own) (λ _. known) (unless_of (may g user p Own) refusal.NoAccess tt) (λ _.
        then_of (unless (has g.users name) refusal.NoUser) (λ _. room) (unless_of (has g.users name) refusal.NoUser tt) (λ _.
        then_of (within Access (size (with_entry g.access (p, name) level))) (λ _. given)
        (within_of Access (size (with_entry g.access (p, name) level))) (λ _. tt))))

  module _ (p : Path) (on : Bool) where
    abbrev handing : Or Act
    handing = Ok (changes (record g { collections = put g.collections p on }))

    pub inherit_of : OfGrid (inherit_row g user p on)
    inherit_of =
        then_of (unless (has g.collections p) refusal.NoCollection) (λ _. needs g user p Own >>= (λ _. handing))
        (unless_of (has g.collections p) refusal.NoCollection tt) (λ _.
        then_of (needs g user p Own) (λ _. handing) (unless_of (may g user p Own) refusal.NoAccess tt) (λ _. tt))

  module _ (group member : Text) where
    abbrev joined : Or Act
    joined = Ok (changes (record g { members = add g.members (group, member) }))

    abbrev with_room : Or Act
    with_room = within Members (size (add g.members (group, member))) >>= (λ _. joined)

    abbrev not_in : Or Act
    not_in = refuse (is_in_group g group member) refusal.Exists >>= (λ _. with_room)

    abbrev joining : Or Act
    joining = unless (can_be_member g group member) refusal.NoUser >>= (λ _. not_in)

    pub addmember_of : OfGrid (addmember_row g user group member)
    addmember_of =
        then_of (needs_admin g user) (λ _. joining) admin_of (λ _.
        then_of (unless (can_be_member g group member) refusal.NoUser) (λ _. not_in) (unless_of (can_be_member g group member) refusal.NoUser tt) (λ _.
        then_of (refuse (is_in_group g group member) refusal.Exists) (λ _. with_room) (refuse_of (is_in_group g group member) refusal.Exists tt) (λ _.
        then_of (within Members (size (add g.members (group, member)))) (λ _. joined) (within_of Members (size (add g.members (group, member)))) (λ _. tt))))

    abbrev left : Or Act
    left = Ok (changes (record g { members = remove g.members (group, member) }))

    abbrev is_member : Or Act
    is_member = unless (has g.members (group, member)) refusal.NoMember >>= (λ _. left)

    abbrev may_leave : Or Act
    may_leave = refuse (same_text group everybody) refusal.Fixed >>= (λ _. is_member)

    abbrev leaving : Or Act
    leaving = unless (can_be_member g group member) refusal.NoUser >>= (λ _. may_leave)

    pub rmmember_of : OfGrid (rmmember_row g user group member)
    rmmember_of =
        then_of (needs_admin g user) (λ _. leaving) admin_of (λ _.
        then_of (unless (can_be_member g group member) refusal.NoUser) (λ _. may_leave) (unless_of (can_be_member g group member) refusal.NoUser tt) (λ _.
        then_of (refuse (same_text group everybody) refusal.Fixed) (λ _. is_member) (refuse_of (same_text group everybody) refusal.Fixed tt) (λ _.
        then_of (unless (has g.members (group, member)) refusal.NoMember) (λ _. left)
        (unless_of (has g.members (group, member)) refusal.NoMember tt) (λ _. tt))))

  module _ (name : Text) (kind : ResourceKind) (slot : ℕ) where
    abbrev with_leaf : Grid
    with_leaf = grid_with_resource g name kind slot

    abbrev in_slot : Or Act
    in_slot = unless (can_stand_at kind slot g.stores) (refusal.NoSlot slot) >>= (λ _. Ok (changes with_leaf))

    abbrev room_resources : Or Act
    room_resources = within Resources (size with_leaf.resources) >>= (λ _. in_slot)

    abbrev unlike : Or Act
    unlike = refuse (has g.resources name) refusal.Exists >>= (λ _. room_resources)

    pub mkresc_of : OfGrid (mkresc_row g user name kind slot)
    mkresc_of =
        then_of (needs_admin g user) (λ _. unlike) admin_of (λ _.
        then_of (refuse (has g.resources name) refusal.Exists) (λ _. room_resources) (refuse_of (has g.resources name) refusal.Exists tt) (λ _.
        then_of (within Resources (size with_leaf.resources)) (λ _. in_slot) (within_of Resources (size with_leaf.resources)) (λ _.
        then_of (unless (can_stand_at kind slot g.stores) (refusal.NoSlot slot)) (λ _. Ok (changes with_leaf))
        (unless_of (can_stand_at kind slot g.stores) (refusal.NoSlot slot) tt) (λ _. tt))))

  module _ (p c : Text) where
    abbrev below : Resource → Or Act
    below child = Ok (changes (record g { resources = with_child g.resources p c child }))

    abbrev not_full : Resource → Resource → Or Act
    not_full above child = refuse (is_full g.resources p above.kind) (refusal.BadTree Full) >>= (λ _. below child)

    abbrev no_cycle : Resource → Resource → Or Act
    no_cycle above child = refuse (list_any (same_text c) (upward g.resources p)) (refusal.BadTree Cycle) >>= (λ _. not_full above child)

    abbrev orphan : Resource → Resource → Or Act
    orphan above child = refuse (is_some child.parent) (refusal.BadTree HasParent) >>= (λ _. no_cycle above child)

    abbrev node : Resource → Resource → Or Act
    node above child = refuse (is_storage above.kind) (refusal.BadTree Leaf) >>= (λ _. orphan above child)

    abbrev the_child : Resource → Or Act
    the_child above = there (get g.resources c) refusal.NoResource >>= node above

    abbrev the_parent : Or Act
    the_parent = there (get g.resources p) refusal.NoResource >>= the_child

    pub addchild_of : OfGrid (addchild_row g user p c)
    addchild_of =
        then_of (needs_admin g user) (λ _. the_parent) admin_of (λ _.
        then_of (there (get g.resources p) refusal.NoResource) the_child (there_of (get g.resources p) refusal.NoResource tt) (λ above.
        then_of (there (get g.resources c) refusal.NoResource) (node above) (there_of (get g.resources c) refusal.NoResource tt) (λ child.
        then_of (refuse (is_storage above.kind) (refusal.BadTree Leaf)) (λ _. orphan above child)
        (refuse_of (is_storage above.kind) (refusal.BadTree Leaf) tt) (λ _.
        then_of (refuse (is_some child.parent) (refusal.BadTree HasParent)) (λ _. no_cycle above child)
        (refuse_of (is_some child.parent) (refusal.BadTree HasParent) tt) (λ _.
        then_of (refuse (list_any (same_text c) (upward g.resources p)) (refusal.BadTree Cycle)) (λ _. not_full above child)
        (refuse_of (list_any (same_text c) (upward g.resources p)) (refusal.BadTree Cycle) tt) (λ _.
        then_of (refuse (is_full g.resources p above.kind) (refusal.BadTree Full)) (λ _. below child)
        (refuse_of (is_full g.resources p above.kind) (refusal.BadTree Full) tt) (λ _. tt)))))))

  module _ (name : Text) (up : Bool) where
    abbrev turned : Resource → Or Act
    turned x = Ok (changes (record g { resources = put g.resources name (record x { up = up }) }))

    abbrev a_leaf : Resource → Or Act
    a_leaf x = unless (is_storage x.kind) (refusal.BadTree Coordinating) >>= (λ _. turned x)

    abbrev the_resource : Or Act
    the_resource = there (get g.resources name) refusal.NoResource >>= a_leaf

    pub modresc_of : OfGrid (modresc_row g user name up)
    modresc_of =
        then_of (needs_admin g user) (λ _. the_resource) admin_of (λ _.
        then_of (there (get g.resources name) refusal.NoResource) a_leaf (there_of (get g.resources name) refusal.NoResource tt) (λ x.
        then_of (unless (is_storage x.kind) (refusal.BadTree Coordinating)) (λ _. turned x)
        (unless_of (is_storage x.kind) (refusal.BadTree Coordinating) tt) (λ _. tt)))

  module _ (p : Path) (r : Text) where
    abbrev trim_done : Object → Or Act
    trim_done o = Ok (changes (with_replicas g p o (trimmed g.resources o.replicas r)))

    abbrev one_left : Object → Or Act
    one_left o = unless (has_good (trimmed g.resources o.replicas r)) refusal.LastGood >>= (λ _. trim_done o)

    abbrev some_there : Object → Or Act
    some_there o = unless (list_any (λ e. is_in g.resources r e.1.leaf) o.replicas.entries) refusal.NoReplica >>= (λ _. one_left o)

    abbrev on_resource : Object → Or Act
    on_resource o = resource_there g r >>= (λ _. some_there o)

    pub trim_of : OfGrid (trim_row g user p r)
    trim_of =
        then_of (object_there g p) (λ o. needs g user p Own >>= (λ _. on_resource o)) (there_of (get g.objects p) refusal.NoObject tt) (λ o.
        then_of (needs g user p Own) (λ _. on_resource o) (unless_of (may g user p Own) refusal.NoAccess tt) (λ _.
        then_of (resource_there g r) (λ _. some_there o) (unless_of (has g.resources r) refusal.NoResource tt) (λ _.
        then_of (unless (list_any (λ e. is_in g.resources r e.1.leaf) o.replicas.entries) refusal.NoReplica) (λ _. one_left o)
        (unless_of (list_any (λ e. is_in g.resources r e.1.leaf) o.replicas.entries) refusal.NoReplica tt) (λ _.
        then_of (unless (has_good (trimmed g.resources o.replicas r)) refusal.LastGood) (λ _. trim_done o)
        (unless_of (has_good (trimmed g.resources o.replicas r)) refusal.LastGood tt) (λ _. tt)))))

  module _ (p : Path) where
    abbrev rm_done : Or Act
    rm_done = Ok (changes (forget (record g { objects = remove g.objects p }) p))

    pub rm_of : OfGrid (rm_row g user p)
    rm_of =
        then_of (object_there g p) (λ _. needs g user p Own >>= (λ _. rm_done)) (there_of (get g.objects p) refusal.NoObject tt) (λ _.
        then_of (needs g user p Own) (λ _. rm_done) (unless_of (may g user p Own) refusal.NoAccess tt) (λ _. tt))

  -- ---- metadata

  may_tag_of : (thing : Thing) → OfGrid (may_tag g user thing)
  may_tag_of (object_at p) =
      then_of (object_there g p) (λ _. needs g user p Write)
      (there_of (get g.objects p) refusal.NoObject tt) (λ _. unless_of (may g user p Write) refusal.NoAccess tt)
  may_tag_of (collection_at p) =
      then_of (unless (has g.collections p) refusal.NoCollection) (λ _. needs g user p Write)
      (unless_of (has g.collections p) refusal.NoCollection tt) (λ _. unless_of (may g user p Write) refusal.NoAccess tt)
  may_tag_of (resource_named n) = then_of (needs_admin g user) (λ _. resource_there g n) admin_of (λ _. unless_of (has g.resources n) refusal.NoResource tt)
  may_tag_of (user_named n) =
      then_of (needs_admin g user) (λ _. unless (has g.users n) refusal.NoUser) admin_of (λ _. unless_of (has g.users n) refusal.NoUser tt)

  module _ (t : Triple) where
    abbrev unit_fits : Or ⊤
    unit_fits = unless (nat_le (length t.unit) triple_size) (refusal.BadTriple 2)

    abbrev value_fits : Or ⊤
    value_fits = unless (nat_le (length t.value) triple_size) (refusal.BadTriple 1) >>= (λ _. unit_fits)

    abbrev attribute_fits : Or ⊤
    attribute_fits = unless (nat_le (length t.attribute) triple_size) (refusal.BadTriple 0) >>= (λ _. value_fits)

    abbrev has_value : Or ⊤
    has_value = unless (nat_lt 0 (length t.value)) (refusal.BadTriple 1) >>= (λ _. attribute_fits)

    words_fit_of : OfGrid (words_fit t)
    words_fit_of =
        then_of (unless (nat_lt 0 (length t.attribute)) (refusal.BadTriple 0)) (λ _. has_value)
        (unless_of (nat_lt 0 (length t.attribute)) (refusal.BadTriple 0) tt) (λ _.
        then_of (unless (nat_lt 0 (length t.value)) (refusal.BadTriple 1)) (λ _. attribute_fits)
        (unless_of (nat_lt 0 (length t.value)) (refusal.BadTriple 1) tt) (λ _.
        then_of (unless (nat_le (length t.attribute) triple_size) (refusal.BadTriple 0)) (λ _. value_fits)
        (unless_of (nat_le (length t.attribute) triple_size) (refusal.BadTriple 0) tt) (λ _.
        then_of (unless (nat_le (length t.value) triple_size) (refusal.BadTriple 1)) (λ _. unit_fits)
        (unless_of (nat_le (length t.value) triple_size) (refusal.BadTriple 1) tt) (λ _.
        unless_of (nat_le (length t.unit) triple_size) (refusal.BadTriple 2) tt))))

    abbrev said : Or Act
    said = Ok (changes (record g { triples = add g.triples t }))

    abbrev room_triples : Or Act
    room_triples = within Triples (size (add g.triples t)) >>= (λ _. said)

    abbrev unsaid_yet : Or Act
    unsaid_yet = refuse (has g.triples t) refusal.Exists >>= (λ _. room_triples)

    abbrev words_so : Or Act
    words_so = words_fit t >>= (λ _. unsaid_yet)

    pub addmeta_of : OfGrid (addmeta_row g user t)
    addmeta_of =
        then_of (may_tag g user t.of) (λ _. words_so) (may_tag_of t.of) (λ _.
        then_of (words_fit t) (λ _. unsaid_yet) words_fit_of (λ _.
        then_of (refuse (has g.triples t) refusal.Exists) (λ _. room_triples) (refuse_of (has g.triples t) refusal.Exists tt) (λ _.
        then_of (within Triples (size (add g.triples t))) (λ _. said) (within_of Triples (size (add g.triples t))) (λ _. tt))))

    abbrev unsaid_now : Or Act
    unsaid_now = Ok (changes (record g { triples = remove g.triples t }))

    abbrev is_said : Or Act
    is_said = unless (has g.triples t) refusal.NoTriple >>= (λ _. unsaid_now)

    abbrev words_then : Or Act
    words_then = words_fit t >>= (λ _. is_said)

    pub rmmeta_of : OfGrid (rmmeta_row g user t)
    rmmeta_of =
        then_of (may_tag g user t.of) (λ _. words_then) (may_tag_of t.of) (λ _.
        then_of (words_fit t) (λ _. is_said) words_fit_of (λ _.
        then_of (unless (has g.triples t) refusal.NoTriple) (λ _. unsaid_now) (unless_of (has g.triples t) refusal.NoTriple tt) (λ _. tt)))
