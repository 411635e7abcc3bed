-- A plan of a put is that of the deed of the put.
use Rattle.std.proofs.Common.{◌≡◌, ◌==◌, ℕ, true, List, [], map, Option, Some, None, Ok, refl, ap, ◌∙◌, subst, eq-eqb}
use Rattle.std.specs.Prelude.{option_map}
use Rattle.std.specs.Option.{option_map_or}
use Rattle.std.proofs.lemmas.Bool.{and_from}
use Rattle.grid_model.specs.Digests.{Digest, HasDigest}
use Rattle.grid_model.specs.Maps.{get}
use Rattle.grid_model.specs.Names.{Text}
use Rattle.grid_model.specs.Grid.{Grid, Resource}
use Rattle.grid_model.specs.Rows.{Cat, resource}
use Rattle.grid_model.specs.RowGrids.{grid_of, resource_name}
use Rattle.grid_model.specs.Applying.{IsMade}
use Rattle.grid_model.specs.Whole.{leaf_slot}
use Rattle.grid_model.specs.Trees.{Resources, possible, slot_of, slots_of, targets}
use Rattle.grid_model.specs.Deeds.{Deed, deed, is_among, writing}
use Rattle.grid_model.specs.Operations.Objects.{put_row, with_object, written}
use Rattle.grid_model.specs.declared.deltas.ResourceRow.{ResourceRow}
use Rattle.grid_model.specs.declared.plans.Plan.{Plan}
use Rattle.file_laws.proofs.Members.{in_of}
use Rattle.grid_access.proofs.MapEntries.{map_from_in}
use Rattle.tables_laws.proofs.Rows.{IsIn, any_from_in}
use Rattle.tables_laws.proofs.Sound.{IsSound}
use Rattle.grid_tree.proofs.Named.{get-named}
use Rattle.grid_tree.proofs.Reachable.{target_may}
use Rattle.plan_base.proofs.AtPaths.{sound_of}
use Rattle.plan_object.specs.Writing.{GoesOnlyTo, GoesTo, IsSlotOf, MakesGrid, PlansWriting, Wanted, WritesFiles}

-- the slot of a leaf is that of its name
pub slot_is : (c : Cat) → IsSound c → (id slot : ℕ) → leaf_slot c id ≡ Some slot → slot_of (grid_of c).resources (resource_name c id) ≡ slot
slot_is c s id slot = by (resource c id) refl
  where
    by : (o : Option ResourceRow) → resource c id ≡ o → option_map (λ (r : ResourceRow). r.slot) o ≡ Some slot → slot_of (grid_of c).resources (resource_name c id) ≡ slot
    by None found is = absurd cc
    by (Some r) found is =
        ap (λ (x : Option Resource). option_map_or (λ (y : Resource). y.slot) x 0) (get-named c s id r found)
        ∙ ap (λ (x : Option ℕ). option_map_or (λ (n : ℕ). n) x 0) is

module _ (c : Cat) (made : IsMade c) (user : Text) (w : Wanted) (word : ℕ) (leaves : List ℕ) (goes : GoesTo c user w word leaves) where
  abbrev g : Grid
  g = grid_of c

  abbrev tree : Resources
  tree = g.resources

  -- the slots of its leaves are those of leaves that new data of its resource may go to
  pub among : (slot : ℕ) → IsSlotOf c leaves slot → is_among (slots_of tree (possible tree w.resource)) slot ≡ true
  among slot at =
      let name = resource_name c at.leaf in
      let named : IsIn (map (resource_name c) leaves) name = map_from_in (resource_name c) leaves at.leaf (in_of leaves at.leaf at.there) in
      let may = target_may tree w.resource word name (subst (λ (names : List Text). IsIn names name) goes.names named) in
      any_from_in (λ s. s == slot) (slots_of tree (possible tree w.resource)) (slot_of tree name) (map_from_in (slot_of tree) (possible tree w.resource) name may)
      (eq-eqb (slot_of tree name) slot (slot_is c (sound_of c made) at.leaf slot at.slot_is))

  module _ (digest : Digest) (now : ℕ) (plan : Plan) (body : Text) (has : HasDigest w.size digest body) where
    -- the deed of writing a body of this size and digest
    abbrev written_so : ℕ → Digest → Deed
    written_so size d = record {
      size = size;
      digest = d;
      ran = λ word now _. with_object g user goes.may.above w.path (written (get g.objects w.path) size d now (targets tree w.resource word));
      touch = writing (slots_of tree (possible tree w.resource));
    }

    row_is : put_row g user w.path w.resource w.mode body ≡ Ok (deed (written_so w.size digest))
    row_is = goes.row_is body has.size ∙ (λ i. Ok (deed (written_so (has.size i) (has.digest i))))

    makes : PlansWriting c user w.path leaves (record { size = w.size; digest = digest; now = now }) plan → MakesGrid c ((written_so w.size digest).ran word now []) body plan
    makes plans =
        subst (λ (names : List Text). MakesGrid c (with_object g user goes.may.above w.path (written (get g.objects w.path) w.size digest now names)) body plan) goes.names (plans goes.may.above body goes.may.parent_is has)

    -- the plan is one of the deed of the put
    pub writes_put : PlansWriting c user w.path leaves (record { size = w.size; digest = digest; now = now }) plan → GoesOnlyTo c leaves plan → WritesFiles c (put_row g user w.path w.resource w.mode body) word now body plan
    writes_put plans only = record {
      of = written_so w.size digest;
      row_is = row_is;
      makes = makes plans;
      slots = λ slot here. and_from (is_among (slots_of tree (possible tree w.resource)) slot) true (among slot (only slot here)) refl;
    }
