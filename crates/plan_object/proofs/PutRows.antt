-- The row of a put, test by test.
use Rattle.std.proofs.Common.{◌≡◌, ℕ, true, false, Bool, List, length, Option, Some, None, Ok, Err, IsTrue, refl, sym, ap, ◌∙◌}
use Rattle.std.specs.Prelude.{◌&&◌, not, find, is_some, option_map, ⊤}
use Rattle.std.specs.List.{AllByRecursion}
use Rattle.std.proofs.lemmas.Bool.{and_parts}
use Rattle.grid_model.specs.Maps.{has}
use Rattle.grid_model.specs.Names.{Text, Path, same_text}
use Rattle.grid_model.specs.Grid.{Grid}
use Rattle.grid_model.specs.Levels.{may}
use Rattle.grid_model.specs.Refusing.{Or, ◌>>=◌, unless}
use Rattle.grid_model.specs.Rows.{Cat}
use Rattle.grid_model.specs.RowPaths.{collection_at, object_at}
use Rattle.grid_model.specs.RowGrids.{grid_of, resource_name}
use Rattle.grid_model.specs.Applying.{IsMade, is_leaf}
use Rattle.grid_model.specs.Trees.{is_any, possible, targets}
use Rattle.grid_model.specs.Deeds.{Act}
use Rattle.grid_model.specs.Operations.Common.{resource_there}
use Rattle.grid_model.specs.Operations.Objects.{may_put, may_stand, put_row, room_for, writes}
use Rattle.grid_model.specs.declared.deltas.ResourceRow.{ResourceRow}
use Rattle.grid_model.specs.declared.grid.Mode.{Mode}
use Rattle.grid_model.specs.declared.grid.Mode.TheVariants.{New, Over}
use Rattle.grid_model.specs.declared.grid.Level.TheVariants.{Write}
use Rattle.grid_model.specs.declared.plans.PlanError.{PlanError}
use Rattle.grid_model.specs.declared.plans.PlanError.TheVariants.{Refused, Memory}
use Rattle.grid_model.specs.declared.refusal.Refusal.TheVariants.{NoAccess, Exists, NoTarget, NoResource}
use Rattle.plan_base.specs.Found.{FindsAbove, LiesIn}
use Rattle.plan_base.proofs.AtPaths.{sound_of}
use Rattle.plan_object.specs.Room.{FindsRoom}
use Rattle.plan_object.specs.Writing.{ChecksPut, GoesTo, MayPut, Wanted}
use Rattle.grid_tree.specs.Names.{AreNamed}
use Rattle.plan_object.proofs.GotFiles.{Known, known_named, unknown}
use Rattle.plan_object.proofs.RoomLemmas.{collection_is, object_is}

-- ---- who may put, and over what

module _ (c : Cat) (made : IsMade c) (user : Text) (above p : Path) where
  abbrev by_object : Bool → Bool
  by_object b = elim b [ true ↦ may (grid_of c) user p Write | false ↦ may (grid_of c) user above Write ]

  pub may_new : (b : Bool) → None ≡ object_at c p → b ≡ may (grid_of c) user above Write → b ≡ may_put (grid_of c) user above p
  may_new b none is = is ∙ sym (ap by_object (object_is c made p None none))

  pub may_old : (b : Bool) (id : ℕ) → Some id ≡ object_at c p → b ≡ may (grid_of c) user p Write → b ≡ may_put (grid_of c) user above p
  may_old b id some is = is ∙ sym (ap by_object (object_is c made p (Some id) some))

module _ (c : Cat) (made : IsMade c) (p : Path) where
  pub stands_collection : (id : ℕ) → Some id ≡ collection_at c p → (mode : Mode) → false ≡ may_stand (grid_of c) p mode
  stands_collection id some New = sym (ap (λ b. not (has (grid_of c).objects p) && not b) (collection_is c made p (Some id) some) ∙ never (not (has (grid_of c).objects p)))
    where
      never : (b : Bool) → (b && false) ≡ false
      never true = refl
      never false = refl
  stands_collection id some Over = sym (ap not (collection_is c made p (Some id) some))

  pub stands_new : None ≡ collection_at c p → (o : Option ℕ) → o ≡ object_at c p → (b : Bool) → is_some o ≡ not b → b ≡ may_stand (grid_of c) p New
  stands_new none o is b b_is = twice b ∙ ap not (sym b_is) ∙ sym ((λ i. not (object_is c made p o is i) && not (collection_is c made p None none i)) ∙ always (not (is_some o)))
    where
      twice : (b : Bool) → b ≡ not (not b)
      twice true = refl
      twice false = refl

      always : (b : Bool) → (b && true) ≡ b
      always true = refl
      always false = refl

  pub stands_over : None ≡ collection_at c p → true ≡ may_stand (grid_of c) p Over
  stands_over none = sym (ap not (collection_is c made p None none))

-- nothing but what may be written is there, so no collection
pub stands_free : (g : Grid) (p : Path) (mode : Mode) → may_stand g p mode ≡ true → has g.collections p ≡ false
stands_free g p New e = by (has g.collections p) (and_parts (not (has g.objects p)) (not (has g.collections p)) e).1
  where
    by : (b : Bool) → not b ≡ true → b ≡ false
    by true wrong = absurd cc
    by false is = refl
stands_free g p Over e = by (has g.collections p) e
  where
    by : (b : Bool) → not b ≡ true → b ≡ false
    by true wrong = absurd cc
    by false is = refl

-- ---- the row

-- the collection above is not found
pub no_above : (c : Cat) (user : Text) (w : Wanted) (e : PlanError) → FindsAbove c w.path (Err e) → ChecksPut c user w (Err e)
no_above c user w (Refused r) none = λ body len. ap (λ (x : Or Path). x >>= (λ above.
    resource_there (grid_of c) w.resource >>= (λ _. unless (may_put (grid_of c) user above w.path) NoAccess >>= (λ _. unless (may_stand (grid_of c) w.path w.mode) Exists >>= (λ _.
    unless (is_any (possible (grid_of c).resources w.resource)) NoTarget >>= (λ _. room_for (grid_of c) user above w.path (length body) >>= (λ _.
    Ok (writes (grid_of c).resources (grid_of c) user above w.path w.resource body)))))))) none
no_above c user w Memory none = tt

module _ (c : Cat) (made : IsMade c) (user : Text) (w : Wanted) (cid : ℕ) (inside : LiesIn c w.path cid) where
  abbrev tests : List ℕ → Or ⊤ → Bool → Bool → Bool → Or ⊤ → Or Act
  tests body known allowed free any room = known >>= (λ _. unless allowed NoAccess >>= (λ _. unless free Exists >>= (λ _. unless any NoTarget >>= (λ _. room >>= (λ _.
      Ok (writes (grid_of c).resources (grid_of c) user inside.above w.path w.resource body))))))

  abbrev known : Or ⊤
  known = resource_there (grid_of c) w.resource

  abbrev allowed : Bool
  allowed = may_put (grid_of c) user inside.above w.path

  abbrev free : Bool
  free = may_stand (grid_of c) w.path w.mode

  abbrev any : Bool
  any = is_any (possible (grid_of c).resources w.resource)

  abbrev room : List ℕ → Or ⊤
  room body = room_for (grid_of c) user inside.above w.path (length body)

  in_row : (body : List ℕ) → put_row (grid_of c) user w.path w.resource w.mode body ≡ tests body known allowed free any (room body)
  in_row body = ap (λ (x : Or Path). x >>= (λ above.
      resource_there (grid_of c) w.resource >>= (λ _. unless (may_put (grid_of c) user above w.path) NoAccess >>= (λ _. unless (may_stand (grid_of c) w.path w.mode) Exists >>= (λ _.
      unless (is_any (possible (grid_of c).resources w.resource)) NoTarget >>= (λ _. room_for (grid_of c) user above w.path (length body) >>= (λ _.
      Ok (writes (grid_of c).resources (grid_of c) user above w.path w.resource body)))))))) inside.is_above

  pub no_resource : None ≡ option_map (λ (r : ResourceRow). r.id) (find (λ r. same_text r.name w.resource) c.resources) → ChecksPut c user w (Err (Refused NoResource))
  no_resource none = λ body len. in_row body ∙ ap (λ k. tests body k allowed free any (room body)) (unknown c w.resource none)

  module _ (r : ℕ) (some : Some r ≡ option_map (λ (x : ResourceRow). x.id) (find (λ x. same_text x.name w.resource) c.resources)) where
    its : Known c w.resource r
    its = known_named c w.resource (sound_of c made) r some

    with_resource : (body : List ℕ) → put_row (grid_of c) user w.path w.resource w.mode body ≡ tests body (Ok tt) allowed free any (room body)
    with_resource body = in_row body ∙ ap (λ b. tests body (unless b NoResource) allowed free any (room body)) its.in_grid

    pub no_access : false ≡ allowed → ChecksPut c user w (Err (Refused NoAccess))
    no_access is = λ body len. with_resource body ∙ ap (λ b. tests body (Ok tt) b free any (room body)) (sym is)

    module _ (may_it : true ≡ allowed) where
      pub exists : false ≡ free → ChecksPut c user w (Err (Refused Exists))
      exists is = λ body len. with_resource body ∙ (λ i. tests body (Ok tt) (sym may_it i) (sym is i) any (room body))

      module _ (may_there : true ≡ free) where
        any_is : (b : Bool) → b ≡ is_any (possible (grid_of c).resources (resource_name c r)) → b ≡ any
        any_is b is = is ∙ ap (λ (n : Text). is_any (possible (grid_of c).resources n)) its.name_is

        pub no_target : false ≡ is_any (possible (grid_of c).resources (resource_name c r)) → ChecksPut c user w (Err (Refused NoTarget))
        no_target is = λ body len. with_resource body ∙ (λ i. tests body (Ok tt) (sym may_it i) (sym may_there i) (sym (any_is false is) i) (room body))

        module _ (some_any : true ≡ is_any (possible (grid_of c).resources (resource_name c r))) where
          to_room : (body : List ℕ) → length body ≡ w.size → put_row (grid_of c) user w.path w.resource w.mode body ≡ tests body (Ok tt) true true true (room_for (grid_of c) user inside.above w.path w.size)
          to_room body len = with_resource body ∙ (λ i. tests body (Ok tt) (sym may_it i) (sym may_there i) (sym (any_is true some_any) i) (room_for (grid_of c) user inside.above w.path (len i)))

          pub no_room : (e : PlanError) → FindsRoom (grid_of c) user inside.above w.path w.size (Err e) → ChecksPut c user w (Err e)
          no_room (Refused refusal) none = λ body len. to_room body len ∙ ap (tests body (Ok tt) true true true) none
          no_room Memory none = tt

          pub may_be_put : (x : ⊤) → FindsRoom (grid_of c) user inside.above w.path w.size (Ok x) → ChecksPut c user w (Ok r)
          may_be_put x there = record {
            known = its.there;
            name_is = its.name_is;
            above = inside.above;
            parent_is = inside.parent_is;
            there = collection_is c made inside.above (Some cid) (sym inside.at);
            free = stands_free (grid_of c) w.path w.mode (sym may_there);
            row_is = λ body len. to_room body len ∙ ap (tests body (Ok tt) true true true) there;
          }

-- no collection has the path where a put may stand
pub free_path : (c : Cat) → IsMade c → (p : Path) (mode : Mode) → true ≡ may_stand (grid_of c) p mode → collection_at c p ≡ None
free_path c made p mode stands = by (collection_at c p) refl
  where
    by : (o : Option ℕ) → collection_at c p ≡ o → o ≡ None
    by None is = refl
    by (Some id) is =
        let there : has (grid_of c).collections p ≡ true = collection_is c made p (Some id) (sym is) in
        let none : has (grid_of c).collections p ≡ false = stands_free (grid_of c) p mode (sym stands) in
        cc

-- ---- the leaves

-- where the targets are found a put goes to them
pub goes_to : (c : Cat) (user : Text) (w : Wanted) (r word : ℕ) (leaves : List ℕ) → MayPut c user w r → AreNamed c leaves (targets (grid_of c).resources (resource_name c r) word)
    → AllByRecursion (λ id. IsTrue (is_leaf c id)) leaves → GoesTo c user w word leaves
goes_to c user w r word leaves may_it named all = record {
  may = record { above = may_it.above; parent_is = may_it.parent_is; there = may_it.there; free = may_it.free; all = all };
  names = named.named ∙ ap (λ (n : Text). targets (grid_of c).resources n word) may_it.name_is;
  row_is = may_it.row_is;
}
