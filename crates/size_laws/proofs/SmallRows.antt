-- Each row leaves a grid that is within the limits within them, and its deed is small.
use Rattle.std.proofs.Common.{◌≡◌, ℕ, ◌+◌, ◌≤◌, Bool, List, [], ◌∷◌, length, Option, Some, None, Ok, sym, subst, arith}
use Rattle.std.specs.Prelude.{◌||◌, nat_le, is_some}
use Rattle.std.specs.List.{list_any}
use Rattle.std.proofs.lemmas.Bool.{leb-true}
use Rattle.grid_model.specs.Names.{Text, Path, is_under, same_text}
use Rattle.grid_model.specs.Limits.{object_size}
use Rattle.grid_model.specs.Bounds.{within}
use Rattle.grid_model.specs.Maps.{get, has, put, add, remove}
use Rattle.grid_model.specs.MapLists.{size}
use Rattle.grid_model.specs.Grid.{Grid, Object, Replica, Resource, Triple, everybody, homes, home_of}
use Rattle.grid_model.specs.Trees as trees
use Rattle.grid_model.specs.Trees.{candidates, children, is_any, is_in, possible, readable, targets, upward}
use Rattle.grid_model.specs.Moves.{moved, moved_grid}
use Rattle.grid_model.specs.Deeds.{Act, changes, deed}
use Rattle.grid_model.specs.Applying.{is_storage}
use Rattle.grid_model.specs.Refusing.{Or, unless, refuse, there}
use Rattle.grid_model.specs.Operations.Table.{Operation, row}
use Rattle.grid_model.specs.Operations.Table as table
use Rattle.grid_model.specs.Operations.Common.{collection_above, object_there, resource_there, needs, needs_admin, is_taken, is_fixed, with_new_item, forget}
use Rattle.grid_model.specs.Operations.Collections.{mkdir_row, rmdir_row, mv_row, with_collection, holds_items}
use Rattle.grid_model.specs.Operations.Objects.{put_row, close_row, room_for, room_for_new, may_put, may_stand, writes}
use Rattle.grid_model.specs.Operations.Replicas.{Source, first_of, asked_there, got, get_row, repl_row, copy_row, chksum_row, trim_row, rm_row}
use Rattle.grid_model.specs.Operations.Replicas.{lacking, trimmed, has_good, with_replicas}
use Rattle.grid_model.specs.Operations.Metadata.{addmeta_row, rmmeta_row, may_tag, words_fit}
use Rattle.grid_model.specs.Operations.Access.{chmod_row, inherit_row, with_entry}
use Rattle.grid_model.specs.Operations.Resources.{mkresc_row, addchild_row, modresc_row, can_stand_at, grid_with_resource, with_child, is_full}
use Rattle.grid_model.specs.Operations.Users.{mkuser_row, mkgroup_row, addmember_row, rmmember_row, with_user, with_group, can_be_member, is_in_group}
use Rattle.grid_model.specs.declared.grid.Mode.{Mode}
use Rattle.grid_model.specs.declared.grid.Mode.TheVariants.{New}
use Rattle.grid_model.specs.declared.grid.Level.{Level}
use Rattle.grid_model.specs.declared.grid.Level.TheVariants.{Read, Write, Own}
use Rattle.grid_model.specs.declared.grid.UserKind.{UserKind}
use Rattle.grid_model.specs.declared.grid.ResourceKind.{ResourceKind}
use Rattle.grid_model.specs.declared.marks.BadReplica.{BadReplica}
use Rattle.grid_model.specs.declared.refusal.TreeCause.TheVariants.{Leaf, HasParent, Cycle, Full, Coordinating}
use Rattle.grid_model.specs.declared.refusal.What.TheVariants.{Users, Members, Collections, Resources, Triples, Access}
use Rattle.grid_model.specs.declared.refusal.Refusal.TheVariants.{NoCollection, NoObject, NoAccess, NoTarget, NoReplica, NoResource, NoSlot, NoTriple}
use Rattle.grid_model.specs.declared.refusal.Refusal.TheVariants.{NoUser, NoMember, LastGood, Exists, Fixed, NotEmpty, Inside, TooLarge, BadTree}
use Rattle.grid_model.proofs.Comparing.{text_cmp_total}
use Rattle.size_laws.specs.Laws.{OperationsKeepWithin, DeedsAreSmall}
use Rattle.size_laws.specs.Moments.{BodiesAreSmall, SourcesAreSmall}
use Rattle.size_laws.specs.Within.{IsSmall, IsWithin, ReadsSmall}
use Rattle.size_laws.proofs.Allowed.{ok_of, ok_there, ok_unless, ok_within, ok_such}
use Rattle.size_laws.proofs.SmallMaps.{each-remove, each-rekey, size-put_there}
use Rattle.size_laws.proofs.SmallObjects.{small-object, small-written, small-good_on_all, small-marked_bad, small-trimmed, small-readable}
use Rattle.size_laws.proofs.SmallObjects.{within-with_object, within-with_replicas}

-- what it leaves is within the limits, and what it records and reads is small
abbrev pub IsSmallAct : Act → Type 0
IsSmallAct (changes after) = IsWithin after
IsSmallAct (deed d) = ((word now : ℕ) (bad : List BadReplica) → IsWithin (d.ran word now bad)) × (d.size ≤ object_size) × ReadsSmall d.touch

-- there is room for no more than an object may have
room_few : (g : Grid) (user : Text) (c p : Path) (len : ℕ) (x : Unit {0}) → room_for g user c p len ≡ Ok x → len ≤ object_size
room_few g user c p len x e =
    let room = ok_of (room_for_new (has g.objects p) (size g.objects + 1) (size (with_new_item g user c p))) _ x e in
    leb-true len object_size (ok_unless (nat_le len object_size) (TooLarge object_size) x room.2)

-- it is a replica of the object
first_object : (g : Grid) (o : Object) (es : List (ℕ × Replica)) (from : Source) → first_of g o es ≡ Ok from → from.object ≡ o
first_object g o [] from e = absurd cc
first_object g o (x ∷ es) from e = cc

-- what a put that is not refused writes, in this collection, is small
abbrev IsPut : trees.Resources → Grid → Text → Path → Text → List ℕ → Act → Type 0
IsPut tree g user p r body a = (c : Path) × (◌≡◌ {A = Or Act} (Ok (writes tree g user c p r body)) (Ok a)) × (length body ≤ object_size)

put_asked : (g : Grid) (user : Text) (p : Path) (r : Text) (mode : Mode) (body : List ℕ) (a : Act) → put_row g user p r mode body ≡ Ok a
    → IsPut g.resources g user p r body a
put_asked g user p r mode body a e =
    let above = ok_of (collection_above g p) _ a e in
    let there = ok_of (resource_there g r) _ a above.2 in
    let may = ok_of (unless (may_put g user above.0 p) NoAccess) _ a there.2 in
    let stands = ok_of (unless (may_stand g p mode) Exists) _ a may.2 in
    let any = ok_of (unless (is_any (possible g.resources r)) NoTarget) _ a stands.2 in
    let room = ok_of (room_for g user above.0 p (length body)) _ a any.2 in
    (above.0, room.2, room_few g user above.0 p (length body) room.0 room.1)

close_asked : (tree : trees.Resources) (g : Grid) (user : Text) (p : Path) (r : Text) (mode : Mode) (body : List ℕ) (a : Act)
    → close_row tree g user p r mode body ≡ Ok a → IsPut tree g user p r body a
close_asked tree g user p r mode body a e =
    let above = ok_of (collection_above g p) _ a e in
    let may = ok_of (unless (may_put g user above.0 p) NoAccess) _ a above.2 in
    let stands = ok_of (unless (may_stand g p mode) Exists) _ a may.2 in
    let room = ok_of (room_for g user above.0 p (length body)) _ a stands.2 in
    (above.0, room.2, room_few g user above.0 p (length body) room.0 room.1)

module _ (g : Grid) (w : IsWithin g) (user : Text) where
  -- ---- collections

  mkdir_small : (p : Path) (a : Act) → mkdir_row g user p ≡ Ok a → IsSmallAct a
  mkdir_small p a e =
      let above = ok_of (collection_above g p) _ a e in
      let may = ok_of (needs g user above.0 Write) _ a above.2 in
      let free = ok_of (refuse (is_taken g p) Exists) _ a may.2 in
      let room = ok_of (within Collections (size (with_collection g user above.0 p).collections)) _ a free.2 in
      let access = ok_of (within Access (size (with_collection g user above.0 p).access)) _ a room.2 in
      ok_such IsSmallAct (changes (with_collection g user above.0 p)) a access.2 (record { objects = w.objects; resources = w.resources })

  rmdir_small : (p : Path) (a : Act) → rmdir_row g user p ≡ Ok a → IsSmallAct a
  rmdir_small p a e =
      let there = ok_of (unless (has g.collections p) NoCollection) _ a e in
      let may = ok_of (needs g user p Own) _ a there.2 in
      let free = ok_of (refuse (is_fixed g p) Fixed) _ a may.2 in
      let empty = ok_of (refuse (holds_items g p) NotEmpty) _ a free.2 in
      ok_such IsSmallAct (changes (forget (record g { collections = remove g.collections p }) p)) a empty.2
      (record { objects = w.objects; resources = w.resources })

  mv_small : (from to : Path) (a : Act) → mv_row g user from to ≡ Ok a → IsSmallAct a
  mv_small from to a e =
      let there = ok_of (unless (is_taken g from) NoObject) _ a e in
      let own = ok_of (needs g user from Own) _ a there.2 in
      let free = ok_of (refuse (is_fixed g from) Fixed) _ a own.2 in
      let outside = ok_of (refuse (is_under from to) Inside) _ a free.2 in
      let above = ok_of (collection_above g to) _ a outside.2 in
      let may = ok_of (needs g user above.0 Write) _ a above.2 in
      let untaken = ok_of (refuse (is_taken g to) Exists) _ a may.2 in
      ok_such IsSmallAct (changes (moved_grid from to g)) a untaken.2
      (record { objects = each-rekey IsSmall (moved from to) g.objects w.objects; resources = w.resources })

  -- ---- objects

  writes_small : (tree : trees.Resources) (c p : Path) (r : Text) (body : List ℕ) → length body ≤ object_size → IsSmallAct (writes tree g user c p r body)
  writes_small tree c p r body few = (
    λ word now bad. within-with_object g w user c p _ (small-written (get g.objects p) (length body) _ now (targets tree r word) (small-object g w p) few),
    few,
    tt,
  )

  put_small : (p : Path) (r : Text) (mode : Mode) (body : List ℕ) (a : Act) → put_row g user p r mode body ≡ Ok a → IsSmallAct a
  put_small p r mode body a e =
      let asked = put_asked g user p r mode body a e in
      ok_such IsSmallAct (writes g.resources g user asked.0 p r body) a asked.1 (writes_small g.resources asked.0 p r body asked.2)

  close_small : (tree : trees.Resources) (p : Path) (r : Text) (mode : Mode) (body : List ℕ) (a : Act) → close_row tree g user p r mode body ≡ Ok a
      → IsSmallAct a
  close_small tree p r mode body a e =
      let asked = close_asked tree g user p r mode body a e in
      ok_such IsSmallAct (writes tree g user asked.0 p r body) a asked.1 (writes_small tree asked.0 p r body asked.2)

  -- ---- replicas

  small_there : (p : Path) (o : Object) → object_there g p ≡ Ok o → IsSmall o
  small_there p o e = small-object g w p o (ok_there (get g.objects p) NoObject o e)

  got_small : (p : Path) (asked : Option Text) (from : Source) → got g user p asked ≡ Ok from → IsSmall from.object
  got_small p asked from e =
      let there = ok_of (object_there g p) _ from e in
      let may = ok_of (needs g user p Read) _ from there.2 in
      let known = ok_of (asked_there g asked) _ from may.2 in
      subst IsSmall (sym (first_object g there.0 (candidates g.resources there.0 asked) from known.2)) (small_there p there.0 there.1)

  get_small : (p : Path) (asked : Option Text) (a : Act) → get_row g user p asked ≡ Ok a → IsSmallAct a
  get_small p asked a e =
      let from = ok_of (got g user p asked) _ a e in
      ok_such IsSmallAct _ a from.2 ((λ word now bad. w), (got_small p asked from.0 from.1).size, tt)

  repl_small : (p : Path) (r : Text) (a : Act) → repl_row g user p r ≡ Ok a → IsSmallAct a
  repl_small p r a e =
      let there = ok_of (object_there g p) _ a e in
      let may = ok_of (needs g user p Write) _ a there.2 in
      let known = ok_of (resource_there g r) _ a may.2 in
      let any = ok_of (unless (is_any (possible g.resources r)) NoTarget) _ a known.2 in
      let from = ok_of (first_of g there.0 (candidates g.resources there.0 None)) _ a any.2 in
      let small = small_there p there.0 there.1 in
      ok_such IsSmallAct _ a from.2 (
        (λ word now bad.
            within-with_replicas g w p there.0 _ small
            (small-good_on_all there.0.size there.0.digest there.0.replicas (lacking there.0.replicas (targets g.resources r word)) small.size small.replicas)),
        small.size,
        tt,
      )

  copy_small : (p q : Path) (r : Text) (a : Act) → copy_row g user p q r ≡ Ok a → IsSmallAct a
  copy_small p q r a e =
      let there = ok_of (object_there g p) _ a e in
      let read = ok_of (needs g user p Read) _ a there.2 in
      let from = ok_of (first_of g there.0 (candidates g.resources there.0 None)) _ a read.2 in
      let above = ok_of (collection_above g q) _ a from.2 in
      let known = ok_of (resource_there g r) _ a above.2 in
      let may = ok_of (unless (may_put g user above.0 q) NoAccess) _ a known.2 in
      let stands = ok_of (unless (may_stand g q New) Exists) _ a may.2 in
      let any = ok_of (unless (is_any (possible g.resources r)) NoTarget) _ a stands.2 in
      let room = ok_of (room_for g user above.0 q there.0.size) _ a any.2 in
      let small = small_there p there.0 there.1 in
      ok_such IsSmallAct _ a room.2 (
        (λ word now bad.
            within-with_object g w user above.0 q _
            (small-written None there.0.size there.0.digest now (targets g.resources r word) (λ o none. absurd cc) small.size)),
        small.size,
        tt,
      )

  chksum_small : (p : Path) (a : Act) → chksum_row g user p ≡ Ok a → IsSmallAct a
  chksum_small p a e =
      let there = ok_of (object_there g p) _ a e in
      let may = ok_of (needs g user p Write) _ a there.2 in
      let first = ok_of (first_of g there.0 (readable g.resources there.0)) _ a may.2 in
      let small = small_there p there.0 there.1 in
      ok_such IsSmallAct _ a first.2 (
        (λ word now bad. within-with_replicas g w p there.0 _ small (small-marked_bad there.0.replicas bad small.replicas)),
        small.size,
        small-readable g.resources there.0 small,
      )

  trim_small : (p : Path) (r : Text) (a : Act) → trim_row g user p r ≡ Ok a → IsSmallAct a
  trim_small p r a e =
      let there = ok_of (object_there g p) _ a e in
      let own = ok_of (needs g user p Own) _ a there.2 in
      let known = ok_of (resource_there g r) _ a own.2 in
      let some = ok_of (unless (list_any (λ e. is_in g.resources r e.1.leaf) there.0.replicas.entries) NoReplica) _ a known.2 in
      let left = ok_of (unless (has_good (trimmed g.resources there.0.replicas r)) LastGood) _ a some.2 in
      let small = small_there p there.0 there.1 in
      ok_such IsSmallAct (changes (with_replicas g p there.0 (trimmed g.resources there.0.replicas r))) a left.2
      (within-with_replicas g w p there.0 (trimmed g.resources there.0.replicas r) small (small-trimmed g.resources there.0.replicas r small.replicas))

  rm_small : (p : Path) (a : Act) → rm_row g user p ≡ Ok a → IsSmallAct a
  rm_small p a e =
      let there = ok_of (object_there g p) _ a e in
      let own = ok_of (needs g user p Own) _ a there.2 in
      ok_such IsSmallAct (changes (forget (record g { objects = remove g.objects p }) p)) a own.2
      (record { objects = each-remove IsSmall g.objects p w.objects; resources = w.resources })

  -- ---- metadata and access

  addmeta_small : (t : Triple) (a : Act) → addmeta_row g user t ≡ Ok a → IsSmallAct a
  addmeta_small t a e =
      let may = ok_of (may_tag g user t.of) _ a e in
      let fit = ok_of (words_fit t) _ a may.2 in
      let new = ok_of (refuse (has g.triples t) Exists) _ a fit.2 in
      let room = ok_of (within Triples (size (add g.triples t))) _ a new.2 in
      ok_such IsSmallAct (changes (record g { triples = add g.triples t })) a room.2 (record { objects = w.objects; resources = w.resources })

  rmmeta_small : (t : Triple) (a : Act) → rmmeta_row g user t ≡ Ok a → IsSmallAct a
  rmmeta_small t a e =
      let may = ok_of (may_tag g user t.of) _ a e in
      let fit = ok_of (words_fit t) _ a may.2 in
      let said = ok_of (unless (has g.triples t) NoTriple) _ a fit.2 in
      ok_such IsSmallAct (changes (record g { triples = remove g.triples t })) a said.2 (record { objects = w.objects; resources = w.resources })

  chmod_small : (level : Level) (name : Text) (p : Path) (a : Act) → chmod_row g user level name p ≡ Ok a → IsSmallAct a
  chmod_small level name p a e =
      let taken = ok_of (unless (is_taken g p) NoObject) _ a e in
      let own = ok_of (needs g user p Own) _ a taken.2 in
      let known = ok_of (unless (has g.users name) NoUser) _ a own.2 in
      let room = ok_of (within Access (size (with_entry g.access (p, name) level))) _ a known.2 in
      ok_such IsSmallAct (changes (record g { access = with_entry g.access (p, name) level })) a room.2
      (record { objects = w.objects; resources = w.resources })

  inherit_small : (p : Path) (on : Bool) (a : Act) → inherit_row g user p on ≡ Ok a → IsSmallAct a
  inherit_small p on a e =
      let there = ok_of (unless (has g.collections p) NoCollection) _ a e in
      let own = ok_of (needs g user p Own) _ a there.2 in
      ok_such IsSmallAct (changes (record g { collections = put g.collections p on })) a own.2 (record { objects = w.objects; resources = w.resources })

  -- ---- resources

  -- what is put at the name of a resource that is there
  resource_again : (name : Text) (x y : Resource) → get g.resources name ≡ Some y → IsWithin (record g { resources = put g.resources name x })
  resource_again name x y there = record {
    objects = w.objects;
    resources = let same = size-put_there text_cmp_total g.resources name x y there in omega (arith, same, w.resources);
  }

  mkresc_small : (name : Text) (kind : ResourceKind) (slot : ℕ) (a : Act) → mkresc_row g user name kind slot ≡ Ok a → IsSmallAct a
  mkresc_small name kind slot a e =
      let admin = ok_of (needs_admin g user) _ a e in
      let new = ok_of (refuse (has g.resources name) Exists) _ a admin.2 in
      let room = ok_of (within Resources (size (grid_with_resource g name kind slot).resources)) _ a new.2 in
      let stands = ok_of (unless (can_stand_at kind slot g.stores) (NoSlot slot)) _ a room.2 in
      ok_such IsSmallAct (changes (grid_with_resource g name kind slot)) a stands.2
      (record { objects = w.objects; resources = ok_within Resources (size (grid_with_resource g name kind slot).resources) room.0 room.1 })

  addchild_small : (p c : Text) (a : Act) → addchild_row g user p c ≡ Ok a → IsSmallAct a
  addchild_small p c a e =
      let admin = ok_of (needs_admin g user) _ a e in
      let above = ok_of (there (get g.resources p) NoResource) _ a admin.2 in
      let child = ok_of (there (get g.resources c) NoResource) _ a above.2 in
      let node = ok_of (refuse (is_storage above.0.kind) (BadTree Leaf)) _ a child.2 in
      let single = ok_of (refuse (is_some child.0.parent) (BadTree HasParent)) _ a node.2 in
      let acyclic = ok_of (refuse (list_any (same_text c) (upward g.resources p)) (BadTree Cycle)) _ a single.2 in
      let room = ok_of (refuse (is_full g.resources p above.0.kind) (BadTree Full)) _ a acyclic.2 in
      ok_such IsSmallAct (changes (record g { resources = with_child g.resources p c child.0 })) a room.2 (
      resource_again c (record child.0 { parent = Some p; place = length (children g.resources p) }) child.0
      (ok_there (get g.resources c) NoResource child.0 child.1))

  modresc_small : (name : Text) (up : Bool) (a : Act) → modresc_row g user name up ≡ Ok a → IsSmallAct a
  modresc_small name up a e =
      let admin = ok_of (needs_admin g user) _ a e in
      let there = ok_of (there (get g.resources name) NoResource) _ a admin.2 in
      let leaf = ok_of (unless (is_storage there.0.kind) (BadTree Coordinating)) _ a there.2 in
      ok_such IsSmallAct (changes (record g { resources = put g.resources name (record there.0 { up = up }) })) a leaf.2
      (resource_again name (record there.0 { up = up }) there.0 (ok_there (get g.resources name) NoResource there.0 there.1))

  -- ---- users

  mkuser_small : (name : Text) (kind : UserKind) (a : Act) → mkuser_row g user name kind ≡ Ok a → IsSmallAct a
  mkuser_small name kind a e =
      let admin = ok_of (needs_admin g user) _ a e in
      let new = ok_of (refuse (has g.users name || is_taken g (home_of g.zone name)) Exists) _ a admin.2 in
      let homes = ok_of (unless (has g.collections (homes g.zone)) NoCollection) _ a new.2 in
      let users = ok_of (within Users (size (with_user g name kind).users)) _ a homes.2 in
      let collections = ok_of (within Collections (size (with_user g name kind).collections)) _ a users.2 in
      let access = ok_of (within Access (size (with_user g name kind).access)) _ a collections.2 in
      ok_such IsSmallAct (changes (with_user g name kind)) a access.2 (record { objects = w.objects; resources = w.resources })

  mkgroup_small : (name : Text) (a : Act) → mkgroup_row g user name ≡ Ok a → IsSmallAct a
  mkgroup_small name a e =
      let admin = ok_of (needs_admin g user) _ a e in
      let new = ok_of (refuse (has g.users name) Exists) _ a admin.2 in
      let users = ok_of (within Users (size (with_group g name).users)) _ a new.2 in
      ok_such IsSmallAct (changes (with_group g name)) a users.2 (record { objects = w.objects; resources = w.resources })

  addmember_small : (group member : Text) (a : Act) → addmember_row g user group member ≡ Ok a → IsSmallAct a
  addmember_small group member a e =
      let admin = ok_of (needs_admin g user) _ a e in
      let known = ok_of (unless (can_be_member g group member) NoUser) _ a admin.2 in
      let new = ok_of (refuse (is_in_group g group member) Exists) _ a known.2 in
      let room = ok_of (within Members (size (add g.members (group, member)))) _ a new.2 in
      ok_such IsSmallAct (changes (record g { members = add g.members (group, member) })) a room.2 (record { objects = w.objects; resources = w.resources })

  rmmember_small : (group member : Text) (a : Act) → rmmember_row g user group member ≡ Ok a → IsSmallAct a
  rmmember_small group member a e =
      let admin = ok_of (needs_admin g user) _ a e in
      let known = ok_of (unless (can_be_member g group member) NoUser) _ a admin.2 in
      let free = ok_of (refuse (same_text group everybody) Fixed) _ a known.2 in
      let there = ok_of (unless (has g.members (group, member)) NoMember) _ a free.2 in
      ok_such IsSmallAct (changes (record g { members = remove g.members (group, member) })) a there.2 (record { objects = w.objects; resources = w.resources })

  -- ---- all

  pub row_small : (op : Operation) (a : Act) → row g user op ≡ Ok a → IsSmallAct a
  row_small (table.mkdir p) a e = mkdir_small p a e
  row_small (table.rmdir p) a e = rmdir_small p a e
  row_small (table.mv from to) a e = mv_small from to a e
  row_small (table.put p r mode body) a e = put_small p r mode body a e
  row_small (table.close tree p r mode body) a e = close_small tree p r mode body a e
  row_small (table.get p asked) a e = get_small p asked a e
  row_small (table.repl p r) a e = repl_small p r a e
  row_small (table.copy p q r) a e = copy_small p q r a e
  row_small (table.chksum p) a e = chksum_small p a e
  row_small (table.trim p r) a e = trim_small p r a e
  row_small (table.rm p) a e = rm_small p a e
  row_small (table.addmeta t) a e = addmeta_small t a e
  row_small (table.rmmeta t) a e = rmmeta_small t a e
  row_small (table.chmod level name p) a e = chmod_small level name p a e
  row_small (table.inherit p on) a e = inherit_small p on a e
  row_small (table.mkresc name kind slot) a e = mkresc_small name kind slot a e
  row_small (table.addchild p c) a e = addchild_small p c a e
  row_small (table.modresc name up) a e = modresc_small name up a e
  row_small (table.mkuser name kind) a e = mkuser_small name kind a e
  row_small (table.mkgroup name) a e = mkgroup_small name a e
  row_small (table.addmember group member) a e = addmember_small group member a e
  row_small (table.rmmember group member) a e = rmmember_small group member a e

pub operations_keep_within : OperationsKeepWithin
operations_keep_within g user op w = (
  λ after e. row_small g w user op (changes after) e,
  λ d e. (row_small g w user op (deed d) e).0,
)

pub deeds_are_small : DeedsAreSmall
deeds_are_small g user op d w e = let small = row_small g w user op (deed d) e in (small.1, small.2)

pub bodies_are_small : BodiesAreSmall
bodies_are_small g user p r mode body a = (
  λ e. (put_asked g user p r mode body a e).2,
  λ tree e. (close_asked tree g user p r mode body a e).2,
)

pub sources_are_small : SourcesAreSmall
sources_are_small g user p asked from w e = (got_small g w user p asked from e).size
