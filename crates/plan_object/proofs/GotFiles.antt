-- The file that a get reads, in the grid and by the rows.
use Rattle.std.proofs.Common.{◌≡◌, ◌==◌, ℕ, true, false, List, [], ◌∷◌, Option, Some, None, Result, Ok, Err, IsTrue, refl, sym, ap, ◌∙◌, subst, eq-eqb, eqb-true}
use Rattle.std.specs.Prelude.{find, is_some, option_map, unwrap_or, ⊤}
use Rattle.std.specs.Option.{option_map_or}
use Rattle.grid_model.specs.Maps.{get, has}
use Rattle.grid_model.specs.Names.{Text, Path, same_text}
use Rattle.grid_model.specs.Grid.{Object, Replica, Resource}
use Rattle.grid_model.specs.Levels.{may}
use Rattle.grid_model.specs.Refusing.{Or, ◌>>=◌, there, unless}
use Rattle.grid_model.specs.Rows.{Cat, object, resource, has_resource}
use Rattle.grid_model.specs.RowPaths.{is_path_of, object_at, object_path}
use Rattle.grid_model.specs.RowGrids.{grid_of, object_of, resource_name, resource_of}
use Rattle.grid_model.specs.Applying.{IsMade}
use Rattle.grid_model.specs.Trees.{candidates, slot_of}
use Rattle.grid_model.specs.Operations.Common.{needs}
use Rattle.grid_model.specs.Operations.Replicas.{Source, asked_there, first_of, got}
use Rattle.grid_model.specs.declared.deltas.Item.TheVariants as item
use Rattle.grid_model.specs.declared.deltas.ObjectRow.{ObjectRow}
use Rattle.grid_model.specs.declared.deltas.ReplicaRow.{ReplicaRow}
use Rattle.grid_model.specs.declared.deltas.ResourceRow.{ResourceRow}
use Rattle.grid_model.specs.declared.plans.OldFile.{OldFile}
use Rattle.grid_model.specs.declared.grid.Level.TheVariants.{Read}
use Rattle.grid_model.specs.declared.refusal.Refusal.{Refusal}
use Rattle.grid_model.specs.declared.refusal.Refusal.TheVariants.{NoObject, NoAccess, NoResource, NoReplica}
use Rattle.grid_model.proofs.Comparing.{same_text-Decides}
use Rattle.tables_laws.proofs.Rows.{any_from_in, in_from_find}
use Rattle.tables_laws.proofs.Numbered.{found_in}
use Rattle.tables_laws.proofs.Places.{row_there}
use Rattle.tables_laws.proofs.LookUps.{get-objects, get-object_at, get-resources}
use Rattle.tables_laws.proofs.Sound.{IsSound}
use Rattle.grid_tree.specs.Reading.{FirstOf, up_by}
use Rattle.grid_tree.proofs.Named.{sound_of, get-named}
use Rattle.plan_base.proofs.AtPaths.{placed}
use Rattle.plan_object.specs.Sending.{FindsFile, PlansGet, ReadsFirst}

-- what is found at a path is there
pub object_there : (c : Cat) → IsMade c → (p : Path) (id : ℕ) → Some id ≡ object_at c p → None ≡ object c id → ⊥
object_there c m p id at none =
    let its = placed c m p (item.Object id) (sym at) in
    let row = row_there (λ (o : ObjectRow). o.id) c.objects id its.there in
    let found : object c id ≡ Some row.0 = row.3 in
    cc

-- where nothing is found the grid has no object
pub nothing_at : (c : Cat) → IsMade c → (p : Path) → None ≡ object_at c p → get (grid_of c).objects p ≡ None
nothing_at c m p none = get-objects c (sound_of c m) p ∙ ap (option_map (object_of c)) (by (find (λ r. is_path_of (object_path c r) p) c.objects) none)
  where
    by : (f : Option ObjectRow) → None ≡ option_map (λ (r : ObjectRow). r.id) f → f ≡ None
    by None e = refl
    by (Some r) e = absurd cc

-- a row that is found is found at its own id
pub found_row : (c : Cat) (id : ℕ) (o : ObjectRow) → Some o ≡ object c id → object c o.id ≡ Some o
found_row c id o found = ap (object c) (eqb-true o.id id (in_from_find (λ x. x.id == id) c.objects o (sym found)).1) ∙ sym found

-- ---- the file

module _ (c : Cat) (m : IsMade c) (o : ObjectRow) (asked : Option Text) where
  abbrev all : List (ℕ × Replica)
  all = candidates (grid_of c).resources (object_of c o) asked

  pub no_file : FirstOf c o.id all None → first_of (grid_of c) (object_of c o) all ≡ Err NoReplica
  no_file none = ap (first_of (grid_of c) (object_of c o)) none

  pub leaf_known : (x : ReplicaRow) → FirstOf c o.id all (Some x) → None ≡ resource c x.leaf → ⊥
  leaf_known x first none = by all first
    where
      by : (es : List (ℕ × Replica)) → FirstOf c o.id es (Some x) → ⊥
      by [] wrong = wrong
      by (e ∷ es) its = let up : up_by (resource c x.leaf) ≡ true = its.up in let down : up_by (resource c x.leaf) ≡ false = ap up_by (sym none) in cc

  pub is_file : (x : ReplicaRow) (leaf : ResourceRow) (file : OldFile) → FirstOf c o.id all (Some x) → Some leaf ≡ resource c x.leaf
      → file ≡ record { slot = leaf.slot; name = x.vault; number = x.number; size = o.size; digest = o.digest } → ReadsFirst c o asked file
  is_file x leaf file first found is = subst (ReadsFirst c o asked) (sym is) (by all refl first)
    where
      slot_is : slot_of (grid_of c).resources (resource_name c x.leaf) ≡ leaf.slot
      slot_is = ap (λ (f : Option Resource). option_map_or (λ (r : Resource). r.slot) f 0) (get-named c (sound_of c m) x.leaf leaf (sym found))

      by : (es : List (ℕ × Replica)) → all ≡ es → FirstOf c o.id es (Some x) → ReadsFirst c o asked (record { slot = leaf.slot; name = x.vault; number = x.number; size = o.size; digest = o.digest })
      by [] e wrong = absurd wrong
      by (e ∷ es) is_all its = record {
        is = ap (first_of (grid_of c) (object_of c o)) (is_all ∙ ap (λ (f : ℕ × Replica). f ∷ es) its.is) ∙ ap (λ s. Ok (record { object = object_of c o; number = x.number; slot = s })) slot_is;
        size = refl;
        digest = refl;
        row = x;
        there = its.there;
        of_object = its.object_is;
        good = its.good;
        vault_is = refl;
        slot_is = ap (option_map (λ (r : ResourceRow). r.slot)) (sym found);
      }

-- ---- the get

module _ (c : Cat) (m : IsMade c) (user : Text) (p : Path) (asked : Option Text) where
  abbrev tests : Option Object → (Object → Or ⊤) → (Object → Or ⊤) → (Object → Or Source) → Or Source
  tests o allowed known first = there o NoObject >>= (λ o. allowed o >>= (λ _. known o >>= (λ _. first o)))

  abbrev first : Object → Or Source
  first o = first_of (grid_of c) o (candidates (grid_of c).resources o asked)

  got_by : (o : Option Object) → get (grid_of c).objects p ≡ o → got (grid_of c) user p asked ≡ tests o (λ _. needs (grid_of c) user p Read) (λ _. asked_there (grid_of c) asked) first
  got_by o is = ap (λ (f : Option Object). tests f (λ _. needs (grid_of c) user p Read) (λ _. asked_there (grid_of c) asked) first) is

  pub no_object : None ≡ object_at c p → got (grid_of c) user p asked ≡ Err NoObject
  no_object none = got_by None (nothing_at c m p none)

  module _ (id : ℕ) (o : ObjectRow) (at : Some id ≡ object_at c p) (found : Some o ≡ object c id) where
    got_row : got (grid_of c) user p asked ≡ tests (Some (object_of c o)) (λ _. needs (grid_of c) user p Read) (λ _. asked_there (grid_of c) asked) first
    got_row = got_by (Some (object_of c o)) (get-object_at c (sound_of c m) p id o (sym at) (sym found))

    pub denied : may (grid_of c) user p Read ≡ false → got (grid_of c) user p asked ≡ Err NoAccess
    denied may_not = got_row ∙ ap (λ b. tests (Some (object_of c o)) (λ _. unless b NoAccess) (λ _. asked_there (grid_of c) asked) first) may_not

    got_allowed : may (grid_of c) user p Read ≡ true → got (grid_of c) user p asked ≡ asked_there (grid_of c) asked >>= (λ _. first (object_of c o))
    got_allowed allowed = got_row ∙ ap (λ b. tests (Some (object_of c o)) (λ _. unless b NoAccess) (λ _. asked_there (grid_of c) asked) first) allowed

    pub not_there : may (grid_of c) user p Read ≡ true → asked_there (grid_of c) asked ≡ Err NoResource → got (grid_of c) user p asked ≡ Err NoResource
    not_there allowed none = got_allowed allowed ∙ ap (λ x. x >>= (λ _. first (object_of c o))) none

    pub planned : may (grid_of c) user p Read ≡ true → asked_there (grid_of c) asked ≡ Ok tt → (file : Result OldFile Refusal) → FindsFile c o asked file → PlansGet c user p asked file
    planned allowed known (Err refusal) none = got_allowed allowed ∙ ap (λ x. x >>= (λ _. first (object_of c o))) known ∙ none
    planned allowed known (Ok file) its = record {
      from = record { object = object_of c o; number = file.number; slot = file.slot };
      is = got_allowed allowed ∙ ap (λ x. x >>= (λ _. first (object_of c o))) known ∙ its.is;
      number = refl;
      slot = refl;
      size = its.size;
      digest = its.digest;
      row = its.row;
      there = its.there;
      good = its.good;
      vault_is = its.vault_is;
      slot_is = its.slot_is;
      object_row = o;
      of_object = ap (object c) its.of_object ∙ found_row c id o found;
      size_row = its.size;
      digest_row = its.digest;
    }

-- ---- the asked resource

module _ (c : Cat) (name : Text) where
  pub unknown : None ≡ option_map (λ (r : ResourceRow). r.id) (find (λ r. same_text r.name name) c.resources) → asked_there (grid_of c) (Some name) ≡ Err NoResource
  unknown none = ap (λ (f : Option Resource). unless (is_some f) NoResource) (get-resources c name ∙ ap (option_map (resource_of c)) (by (find (λ r. same_text r.name name) c.resources) none))
    where
      by : (f : Option ResourceRow) → None ≡ option_map (λ (r : ResourceRow). r.id) f → f ≡ None
      by None e = refl
      by (Some r) e = absurd cc

  pub record Known (id : ℕ) : Type 0 where
    pub there : IsTrue (has_resource c id)
    pub name_is : resource_name c id ≡ name
    pub in_grid : has (grid_of c).resources name ≡ true

  pub known_named : IsSound c → (id : ℕ) → Some id ≡ option_map (λ (r : ResourceRow). r.id) (find (λ r. same_text r.name name) c.resources) → Known id
  known_named s id some = by (find (λ r. same_text r.name name) c.resources) refl some
    where
      by : (f : Option ResourceRow) → find (λ r. same_text r.name name) c.resources ≡ f → Some id ≡ option_map (λ (r : ResourceRow). r.id) f → Known id
      by None is e = absurd cc
      by (Some r) is e =
          let its = in_from_find (λ r. same_text r.name name) c.resources r is in
          let same : id ≡ r.id = cc in
          let found : resource c id ≡ Some r = ap (resource c) same ∙ found_in (λ (x : ResourceRow). x.id) c.resources r s.cat.resources.ordered its.0 in
          record {
            there = any_from_in (λ x. x.id == id) c.resources r its.0 (eq-eqb r.id id (sym same));
            name_is = ap (λ (o : Option ResourceRow). unwrap_or (option_map (λ x. x.name) o) []) found ∙ (same_text-Decides r.name name).0 its.1;
            in_grid = ap is_some (get-resources c name) ∙ ap (λ (f : Option ResourceRow). is_some (option_map (resource_of c) f)) is;
          }

-- ---- what was asked

module _ (c : Cat) (m : IsMade c) (user : Text) (p : Path) (asked : Option Text) (id : ℕ) (o : ObjectRow) (at : Some id ≡ object_at c p) (found : Some o ≡ object c id) (allowed : true ≡ may (grid_of c) user p Read) where
  pub planned_any : asked ≡ None → (file : Result OldFile Refusal) → FindsFile c o None file → PlansGet c user p asked file
  planned_any is file finds = subst (λ (a : Option Text). PlansGet c user p a file) (sym is) (planned c m user p None id o at found (sym allowed) refl file finds)

  module _ (name : Text) (is : asked ≡ Some name) where
    pub planned_named : (r : ℕ) → Some r ≡ option_map (λ (x : ResourceRow). x.id) (find (λ x. same_text x.name name) c.resources) → (file : Result OldFile Refusal)
        → FindsFile c o (Some (resource_name c r)) file → PlansGet c user p asked file
    planned_named r some file finds =
        let its = known_named c name (sound_of c m) r some in
        subst (λ (a : Option Text). PlansGet c user p a file) (sym (is ∙ ap Some (sym its.name_is)))
        (planned c m user p (Some (resource_name c r)) id o at found (sym allowed) (ap (λ (n : Text). unless (has (grid_of c).resources n) NoResource) its.name_is ∙ ap (λ b. unless b NoResource) its.in_grid) file finds)

    pub not_named : None ≡ option_map (λ (x : ResourceRow). x.id) (find (λ x. same_text x.name name) c.resources) → got (grid_of c) user p asked ≡ Err NoResource
    not_named none = ap (got (grid_of c) user p) is ∙ not_there c m user p (Some name) id o at found (sym allowed) (unknown c name none)
