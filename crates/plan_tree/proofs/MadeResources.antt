-- What a new resource makes of the grid, and what the row of the operation comes to then.
use Rattle.std.proofs.Common.{◌≡◌, ◌==◌, inr, ℕ, ◌+◌, ◌<◌, ◌≤◌, Bool, true, false, cond, List, [], ◌∷◌, length, Option, Some, None, Ok, Err, refl, sym, ap, ◌∙◌, arith, eq-eqb, eqb-true}
use Rattle.std.specs.Prelude.{find, option_map, is_some, ⊤, nat_le, ◌&&◌}
use Rattle.std.specs.List.{list_all}
use Rattle.std.proofs.lemmas.Bool.{leb-true}
use Rattle.grid_model.specs.Maps.{Map, get, has, put, with_values}
use Rattle.grid_model.specs.MapLists.{size}
use Rattle.grid_model.specs.Names.{Text, text_cmp, same_text, is_name}
use Rattle.grid_model.specs.Grid.{Grid, Resource}
use Rattle.grid_model.specs.Refusing.{Or, ◌>>=◌, unless, refuse}
use Rattle.grid_model.specs.Bounds.{within}
use Rattle.grid_model.specs.Deeds.{Act, changes}
use Rattle.grid_model.specs.Levels.{is_admin}
use Rattle.grid_model.specs.Rows.{Cat}
use Rattle.grid_model.specs.RowGrids.{grid_of, resource_of, user_name}
use Rattle.grid_model.specs.Applying as rows
use Rattle.grid_model.specs.Applying.{IsMade, is_storage, resource_fits}
use Rattle.grid_model.specs.Operations.Resources as operations
use Rattle.grid_model.specs.Operations.Resources.{new_resource, can_stand_at}
use Rattle.grid_model.specs.Operations.Table.{mkresc, row}
use Rattle.grid_model.specs.Siblings.{beside}
use Rattle.grid_model.specs.declared.deltas.Delta.{Delta}
use Rattle.grid_model.specs.declared.deltas.Delta.TheVariants as delta
use Rattle.grid_model.specs.declared.deltas.ResourceRow.{ResourceRow}
use Rattle.grid_model.specs.declared.grid.ResourceKind.{ResourceKind}
use Rattle.grid_model.specs.declared.grid.ResourceKind.TheVariants.{Storage, Passthru, Random, Replication}
use Rattle.grid_model.specs.declared.refusal.Refusal.{Refusal}
use Rattle.grid_model.specs.declared.refusal.Refusal.TheVariants.{NotAdmin, Exists, NoSlot, TooMany}
use Rattle.grid_model.specs.declared.refusal.What.TheVariants as what
use Rattle.grid_model.proofs.Comparing.{text_cmp_total, text_cmp-IsAntisymmetric, same_text-Decides}
use Rattle.grid_model.proofs.MapLemmas.{get-put}
use Rattle.grid_journal.specs.Journal.{can_be_kept}
use Rattle.tables_laws.proofs.Forest.{none_in}
use Rattle.tables_laws.proofs.LookUps.{get-resources}
use Rattle.tables_laws.proofs.NewResources.{grid-put_resource}
use Rattle.tables_laws.proofs.Numbered.{one_number}
use Rattle.tables_laws.proofs.Rekeyed.{from_list-values}
use Rattle.tables_laws.proofs.Rows.{IsIn, in_from_find}
use Rattle.tables_laws.proofs.Sound.{IsSound}
use Rattle.grid_tree.proofs.Named.{sound_of, resource_found}
use Rattle.grid_tree.proofs.Sizes.{resources-size}
use Rattle.plan_base.specs.Plans.{Changes}
use Rattle.plan_base.proofs.MapSizes.{size-put}
use Rattle.plan_tree.specs.NewResources.{IsResourceFor, IsSlotFor}
use Rattle.plan_tree.proofs.FittingResources.{OwnsItsName, fits_all, parent_none}
use Rattle.plan_tree.proofs.ResourcePlans.{with_resource, settles_resource, plan_of, applied_alone}
use Rattle.plan_tree.proofs.RootedResources.{IsRooted, rooted-made}

-- resources of which none moves for a new one
pub unmoved : (c : Cat) (s : IsSound c) (new : Resource) → ((x : ResourceRow) → IsIn c.resources x → beside new (resource_of c x) ≡ resource_of c x) → with_values (beside new) (grid_of c).resources ≡ (grid_of c).resources
unmoved c s new stays = sym (from_list-values text_cmp_total text_cmp-IsAntisymmetric (λ (x : ResourceRow). x.name) (resource_of c) (resource_of c) (beside new) c.resources (λ x here. sym (stays x here))
    (λ x y here there same. one_number (λ (z : ResourceRow). z.id) c.resources x y s.cat.resources.ordered here there (s.names.resources_apart x y here there same)))

abbrev tests : Bool → Bool → Or ⊤ → Or ⊤ → Grid → Or Act
tests admin taken room slots g = unless admin NotAdmin >>= (λ _. refuse taken Exists >>= (λ _. room >>= (λ _. slots >>= (λ _. Ok (changes g)))))

is_some-option_map : {X Y : Type 0} (f : X → Y) (o : Option X) → is_some (option_map f o) ≡ is_some o
is_some-option_map f None = refl
is_some-option_map f (Some x) = refl

-- the id of the resource of the name
abbrev pub resource_id_named : Cat → Text → Option ℕ
resource_id_named c name = option_map (λ r. r.id) (find (λ r. same_text r.name name) c.resources)

pub has-resources : (c : Cat) (name : Text) → has (grid_of c).resources name ≡ is_some (resource_id_named c name)
has-resources c name =
    ap is_some (get-resources c name) ∙ is_some-option_map (resource_of c) (find (λ r. same_text r.name name) c.resources)
    ∙ sym (is_some-option_map (λ (r : ResourceRow). r.id) (find (λ r. same_text r.name name) c.resources))

-- so many more are few
pub few_resources : (n : ℕ) (x : ⊤) → Ok x ≡ within what.Resources (n + 1) → n < 4294967295
few_resources n x room = by (nat_le (n + 1) 256) refl room
  where
    by : (b : Bool) → nat_le (n + 1) 256 ≡ b → Ok x ≡ unless b (TooMany what.Resources 256) → n < 4294967295
    by true is e = let few : n + 1 ≤ 256 = leb-true (n + 1) 256 is in omega (arith, few)
    by false is e = absurd cc

-- a slot that the definition lets pass fits the row
slot_so : (c : Cat) (kind : ResourceKind) (slot : ℕ) → ((kind ≡ Storage → ⊥) → slot ≡ 0) → can_stand_at kind slot c.stores ≡ true → rows.slot_fits c kind slot ≡ true
slot_so c Storage slot plain fits = fits
slot_so c Passthru slot plain fits = eq-eqb slot 0 (plain (λ e. absurd cc))
slot_so c Random slot plain fits = eq-eqb slot 0 (plain (λ e. absurd cc))
slot_so c Replication slot plain fits = eq-eqb slot 0 (plain (λ e. absurd cc))

module _ (c : Cat) (made : IsMade c) (u : ℕ) (name : Text) (kind : ResourceKind) (slot : ℕ) (named : is_name name ≡ true) (plain : (kind ≡ Storage → ⊥) → slot ≡ 0) (one : is_admin (get (grid_of c).users (user_name c u)) ≡ true) where
  s : IsSound c
  s = sound_of c made

  rooted : IsRooted c.resources
  rooted = rooted-made c made

  abbrev new : Grid
  new = operations.grid_with_resource (grid_of c) name kind slot

  abbrev room_is : Or ⊤
  room_is = within what.Resources (size new.resources)

  abbrev slot_is : Or ⊤
  slot_is = unless (can_stand_at kind slot c.stores) (NoSlot slot)

  pub taken : (b : Bool) (found : Option ℕ) → found ≡ resource_id_named c name → b ≡ is_some found → b ≡ true → row (grid_of c) (user_name c u) (mkresc name kind slot) ≡ Err Exists
  taken b found is b_is so i = tests (one i) ((has-resources c name ∙ ap is_some (sym is) ∙ sym b_is ∙ so) i) room_is slot_is new

  module _ (b : Bool) (found : Option ℕ) (is : found ≡ resource_id_named c name) (b_is : b ≡ is_some found) (none : b ≡ false) where
    free : has (grid_of c).resources name ≡ false
    free = has-resources c name ∙ ap is_some (sym is) ∙ sym b_is ∙ none

    to_room : (room : Or ⊤) → room ≡ within what.Resources (length c.resources + 1) → row (grid_of c) (user_name c u) (mkresc name kind slot) ≡ (room >>= (λ _. slot_is >>= (λ _. Ok (changes new))))
    to_room room room_as =
        (λ i. tests (one i) (free i) room_is slot_is new)
        ∙ ap (λ (r : Or ⊤). r >>= (λ _. slot_is >>= (λ _. Ok (changes new))))
        (ap (within what.Resources) (size-put text_cmp_total (grid_of c).resources name (new_resource kind slot) false (sym free) ∙ ap (λ n. n + 1) (resources-size c s)) ∙ sym room_as)

    pub full : (refusal : Refusal) → Err refusal ≡ within what.Resources (length c.resources + 1) → row (grid_of c) (user_name c u) (mkresc name kind slot) ≡ Err refusal
    full refusal room = to_room (Err refusal) room

    module _ (x : ⊤) (room : Ok x ≡ within what.Resources (length c.resources + 1)) where
      to_slot : row (grid_of c) (user_name c u) (mkresc name kind slot) ≡ (slot_is >>= (λ _. Ok (changes new)))
      to_slot = to_room (Ok x) room

      pub no_slot : can_stand_at kind slot c.stores ≡ false → row (grid_of c) (user_name c u) (mkresc name kind slot) ≡ Err (NoSlot slot)
      no_slot none = to_slot ∙ ap (λ t. unless t (NoSlot slot) >>= (λ _. Ok (changes new))) none

      module _ (own : ℕ) (has_slot : IsSlotFor c kind slot own) (given : ResourceRow) (its : IsResourceFor c name kind own given) where
        abbrev r : ResourceRow
        r = record { id = given.id; name = name; kind = kind; slot = slot; up = true; parent = 0; place = 0 }

        given_is : given ≡ r
        given_is = its.row_is ∙ (λ i. record { id = given.id; name = name; kind = kind; slot = has_slot.is i; up = true; parent = 0; place = 0 })

        fresh : (y : ResourceRow) → IsIn c.resources y → y.id ≡ given.id → ⊥
        fresh y here same = none_in (λ o. o.id == given.id) c.resources its.fresh y here (eq-eqb y.id given.id same)

        unnamed : (y : ResourceRow) → IsIn c.resources y → y.name ≡ name → ⊥
        unnamed y here same =
            let there : find (λ o. same_text o.name name) c.resources ≡ Some y = ap (λ (n : Text). find (λ (o : ResourceRow). same_text o.name n) c.resources) (sym same) ∙ resource_found c s y here in
            let wrong : true ≡ false = sym (ap (λ (o : Option ResourceRow). is_some (option_map (λ (q : ResourceRow). q.id) o)) there) ∙ sym (has-resources c name) ∙ free in
            cc

        owns : OwnsItsName c r
        owns = record {
          some = λ e. omega (arith, its.some_id, e);
          named = named;
          alone = λ o here apart same. unnamed o here same;
          kind = λ o here same. absurd (fresh o here same);
          slot = slot_so c kind slot plain has_slot.fits;
        }

        fits : resource_fits c r ≡ true
        fits = fits_all c r owns (parent_none c r refl refl)

        grid_is : grid_of (with_resource c r) ≡ new
        grid_is =
            grid-put_resource c s r fits (λ y here same. absurd (fresh y here same)) (λ y here same. absurd (fresh y here same))
            ∙ ap (λ (m : Map text_cmp Resource). record (grid_of c) { resources = put m name (new_resource kind slot) }) (unmoved c s (resource_of c r) (λ y here. refl))

        other : grid_of (with_resource c r) ≡ grid_of c → ⊥
        other same =
            let there : has new.resources name ≡ true = ap is_some (get-put text_cmp_total (grid_of c).resources name (new_resource kind slot) name
            ∙ ap (λ b. cond b (Some (new_resource kind slot)) (get (grid_of c).resources name)) ((same_text-Decides name name).1 refl)) in
            let wrong : true ≡ false = sym there ∙ ap (λ (g : Grid). has g.resources name) (sym grid_is ∙ same) ∙ free in
            cc

        pub planned : (deltas : List Delta) → deltas ≡ delta.Resource given ∷ [] → Changes c (user_name c u) (mkresc name kind slot) deltas
        planned deltas are =
            let alone : deltas ≡ delta.Resource r ∷ [] = are ∙ ap (λ (y : ResourceRow). delta.Resource y ∷ []) given_is in
            plan_of c (with_resource c r) (user_name c u) (mkresc name kind slot) deltas
            (settles_resource c s rooted r (λ old found. let there = in_from_find (λ (y : ResourceRow). y.id == given.id) c.resources old found in absurd (fresh old there.0 (eqb-true old.id given.id there.1))) fits)
            (ap (list_all can_be_kept) are ∙ ap (λ t. t && true) its.spelled) (applied_alone c r fits deltas alone)
            (to_slot ∙ ap (λ t. unless t (NoSlot slot) >>= (λ _. Ok (changes new))) has_slot.fits ∙ ap (λ (g : Grid). Ok (changes g)) (sym grid_is)) (inr other)
