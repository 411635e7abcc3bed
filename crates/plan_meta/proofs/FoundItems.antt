-- The items that things are, by what the look-ups tell.
use Rattle.std.proofs.Common.{◌≡◌, ◌==◌, ℕ, Bool, true, false, [], Option, Some, None, Ok, Err, refl, sym, ap, ◌∙◌, eq-eqb}
use Rattle.std.specs.Prelude.{find, option_map, unwrap_or, is_some, ⊤}
use Rattle.std.proofs.lemmas.Option.{same_Some}
use Rattle.grid_model.specs.Maps.{get, has}
use Rattle.grid_model.specs.Names.{Text, Path, same_text}
use Rattle.grid_model.specs.Grid.{Object, object_at, collection_at, resource_named, user_named}
use Rattle.grid_model.specs.Levels.{may}
use Rattle.grid_model.specs.Refusing.{Or, ◌>>=◌, unless, there}
use Rattle.grid_model.specs.Rows.{Cat, resource}
use Rattle.grid_model.specs.RowPaths as paths
use Rattle.grid_model.specs.RowGrids.{grid_of, resource_of}
use Rattle.grid_model.specs.Applying.{IsMade}
use Rattle.grid_model.specs.Operations.Common.{needs, resource_there}
use Rattle.grid_model.specs.declared.deltas.Item.TheVariants as item
use Rattle.grid_model.specs.declared.deltas.ResourceRow.{ResourceRow}
use Rattle.grid_model.specs.declared.grid.Level.{Level}
use Rattle.grid_model.specs.declared.refusal.Refusal.TheVariants.{NoObject, NoCollection, NoAccess, NoResource, NoUser}
use Rattle.grid_model.proofs.Comparing.{same_text-Decides}
use Rattle.tables_laws.proofs.Rows.{in_from_find, any_from_in}
use Rattle.tables_laws.proofs.Numbered.{found_in}
use Rattle.tables_laws.proofs.LookUps.{get-resources, has-collections, has-objects}
use Rattle.grid_access.proofs.MapEntries.{found-any}
use Rattle.plan_base.proofs.AtPaths.{sound_of, placed}
use Rattle.plan_base.proofs.NamedUsers.{id_named, has-users, is_named}
use Rattle.plan_meta.specs.Things.{IsItemOf, FindsItem, asked_of_object, asked_of_collection}

-- ---- objects and collections

none_there : (o : Option Object) (rest : Or ⊤) → is_some o ≡ false → (there o NoObject >>= (λ _. rest)) ≡ Err NoObject
none_there None rest e = refl
none_there (Some x) rest e = absurd cc

one_there : (o : Option Object) (rest : Or ⊤) → is_some o ≡ true → (there o NoObject >>= (λ _. rest)) ≡ rest
one_there None rest e = absurd cc
one_there (Some x) rest e = refl

abbrev where_may : Bool → Or ⊤
where_may allowed = unless allowed NoAccess

abbrev where_there : Bool → Bool → Or ⊤
where_there known allowed = unless known NoCollection >>= (λ _. where_may allowed)

module _ (c : Cat) (made : IsMade c) (user : Text) (p : Path) (wanted : Level) where
  pub no_object : None ≡ paths.object_at c p → asked_of_object (grid_of c) user p wanted ≡ Err NoObject
  no_object none = none_there (get (grid_of c).objects p) (needs (grid_of c) user p wanted) (has-objects c (sound_of c made) p ∙ ap is_some (sym none))

  pub no_collection : None ≡ paths.collection_at c p → asked_of_collection (grid_of c) user p wanted ≡ Err NoCollection
  no_collection none = ap (λ b. where_there b (may (grid_of c) user p wanted)) (has-collections c (sound_of c made) p ∙ ap is_some (sym none))

  module _ (id : ℕ) where
    module _ (found : Some id ≡ paths.object_at c p) where
      to_level : (b : Bool) → may (grid_of c) user p wanted ≡ b → asked_of_object (grid_of c) user p wanted ≡ where_may b
      to_level b is = one_there (get (grid_of c).objects p) (needs (grid_of c) user p wanted) (has-objects c (sound_of c made) p ∙ ap is_some (sym found)) ∙ ap where_may is

      pub object_closed : may (grid_of c) user p wanted ≡ false → asked_of_object (grid_of c) user p wanted ≡ Err NoAccess
      object_closed = to_level false

      pub object_found : may (grid_of c) user p wanted ≡ true → FindsItem c (object_at p) (asked_of_object (grid_of c) user p wanted) (Ok (item.Object id))
      object_found allowed =
          let its = placed c made p (item.Object id) (sym found) in
          (to_level true allowed, record { there = its.there; thing_is = ap object_at its.place })

    module _ (found : Some id ≡ paths.collection_at c p) where
      to_access : (b : Bool) → may (grid_of c) user p wanted ≡ b → asked_of_collection (grid_of c) user p wanted ≡ where_may b
      to_access b is i = where_there ((has-collections c (sound_of c made) p ∙ ap is_some (sym found)) i) (is i)

      pub collection_closed : may (grid_of c) user p wanted ≡ false → asked_of_collection (grid_of c) user p wanted ≡ Err NoAccess
      collection_closed = to_access false

      pub collection_found : may (grid_of c) user p wanted ≡ true → FindsItem c (collection_at p) (asked_of_collection (grid_of c) user p wanted) (Ok (item.Collection id))
      collection_found allowed =
          let its = placed c made p (item.Collection id) (sym found) in
          (to_access true allowed, record { there = its.there; thing_is = ap collection_at its.place })

-- ---- resources and users

module _ (c : Cat) (made : IsMade c) (n : Text) where
  abbrev id_of_resource : Option ℕ
  id_of_resource = option_map (λ (r : ResourceRow). r.id) (find (λ r. same_text r.name n) c.resources)

  known_resource : has (grid_of c).resources n ≡ is_some id_of_resource
  known_resource =
      ap is_some (get-resources c n) ∙ found-any (λ (r : ResourceRow). same_text r.name n) (λ r. same_text r.name n) (resource_of c) c.resources (λ r here. refl)
      ∙ sym (found-any (λ (r : ResourceRow). same_text r.name n) (λ r. same_text r.name n) (λ r. r.id) c.resources (λ r here. refl))

  asked_resource : (o : Option ℕ) → o ≡ id_of_resource → resource_there (grid_of c) n ≡ unless (is_some o) NoResource
  asked_resource o is = ap (λ b. unless b NoResource) (known_resource ∙ ap is_some (sym is))

  pub no_resource : None ≡ id_of_resource → resource_there (grid_of c) n ≡ Err NoResource
  no_resource = asked_resource None

  pub resource_found : (id : ℕ) → Some id ≡ id_of_resource → FindsItem c (resource_named n) (resource_there (grid_of c) n) (Ok (item.Resource id))
  resource_found id found = (asked_resource (Some id) found, by (find (λ r. same_text r.name n) c.resources) refl found)
    where
      by : (o : Option ResourceRow) → find (λ r. same_text r.name n) c.resources ≡ o → Some id ≡ option_map (λ (r : ResourceRow). r.id) o → IsItemOf c (resource_named n) (item.Resource id)
      by None none e = absurd cc
      by (Some x) some e =
          let its : x.id ≡ id = same_Some x.id id (sym e) in
          let row = in_from_find (λ (r : ResourceRow). same_text r.name n) c.resources x some in
          let own : resource c id ≡ Some x = ap (resource c) (sym its) ∙ found_in (λ (r : ResourceRow). r.id) c.resources x (sound_of c made).cat.resources.ordered row.0 in
          record {
            there = any_from_in (λ (r : ResourceRow). r.id == id) c.resources x row.0 (eq-eqb x.id id its);
            thing_is = ap resource_named (ap (λ (o : Option ResourceRow). unwrap_or (option_map (λ r. r.name) o) []) own ∙ (same_text-Decides x.name n).0 row.1);
          }

  asked_user : (o : Option ℕ) → o ≡ id_named c n → unless (has (grid_of c).users n) NoUser ≡ unless (is_some o) NoUser
  asked_user o is = ap (λ b. unless b NoUser) (has-users c n ∙ ap is_some (sym is))

  pub no_user : None ≡ id_named c n → unless (has (grid_of c).users n) NoUser ≡ Err NoUser
  no_user = asked_user None

  pub user_found : (id : ℕ) → Some id ≡ id_named c n → FindsItem c (user_named n) (unless (has (grid_of c).users n) NoUser) (Ok (item.User id))
  user_found id found =
      let its = is_named c (sound_of c made) n id found in
      (asked_user (Some id) found, record { there = its.known; thing_is = ap user_named its.name_is })
