-- The row of a repl, test by test.
use Rattle.std.proofs.Common.{◌≡◌, ◌==◌, ℕ, false, true, Bool, Some, None, Ok, Err, sym, ap, ◌∙◌, eqb-true}
use Rattle.std.specs.Prelude.{find, option_map, ⊤}
use Rattle.grid_model.specs.Names.{Text, Path, same_text}
use Rattle.grid_model.specs.Grid.{Grid, Object}
use Rattle.grid_model.specs.Refusing.{Or, ◌>>=◌, unless}
use Rattle.grid_model.specs.Rows.{Cat, has_object, object}
use Rattle.grid_model.specs.RowGrids.{grid_of, object_of, resource_name}
use Rattle.grid_model.specs.Applying.{IsMade}
use Rattle.grid_model.specs.Trees.{candidates, is_any, possible, slots_of, targets}
use Rattle.grid_model.specs.Deeds.{Act, Deed, copying, deed}
use Rattle.grid_model.specs.Operations.Common.{resource_there}
use Rattle.grid_model.specs.Operations.Objects.{good_on_all}
use Rattle.grid_model.specs.Operations.Replicas.{Source, first_of, lacking, repl_row, with_replicas}
use Rattle.grid_model.specs.declared.deltas.ObjectRow.{ObjectRow}
use Rattle.grid_model.specs.declared.deltas.ResourceRow.{ResourceRow}
use Rattle.grid_model.specs.declared.grid.Level.TheVariants.{Write}
use Rattle.grid_model.specs.declared.plans.OldFile.{OldFile}
use Rattle.grid_model.specs.declared.plans.PlanError.TheVariants.{Refused}
use Rattle.grid_model.specs.declared.refusal.Refusal.{Refusal}
use Rattle.grid_model.specs.declared.refusal.Refusal.TheVariants.{NoResource, NoTarget}
use Rattle.tables_laws.proofs.Rows.{in_from_find}
use Rattle.file_laws.proofs.Members.{in_of}
use Rattle.plan_base.proofs.AtPaths.{sound_of}
use Rattle.plan_object.specs.Allowing.{FindsObject, IsAllowed}
use Rattle.plan_object.specs.ReplPlans.{FindsRepl, MayRepl}
use Rattle.plan_object.specs.Sending.{FindsFile}
use Rattle.plan_object.proofs.AllowedRows.{allowed_row, row_at}
use Rattle.plan_object.proofs.Leaves.{stored_slot}
use Rattle.plan_object.proofs.GotFiles.{Known, known_named, unknown}

module _ (c : Cat) (user : Text) (p : Path) (r : Text) where
  abbrev g : Grid
  g = grid_of c

  -- the deed of a repl of this object from the file in this slot
  abbrev pub repl_deed : Object → ℕ → Deed
  repl_deed o slot = record {
    size = o.size;
    digest = o.digest;
    ran = λ word now _. with_replicas g p o (good_on_all o.size o.digest o.replicas (lacking o.replicas (targets g.resources r word)));
    touch = copying slot (slots_of g.resources (lacking o.replicas (possible g.resources r)));
  }

  abbrev tests : Object → Or ⊤ → Bool → Or Source → Or Act
  tests o known any first = known >>= (λ _. unless any NoTarget >>= (λ _. first >>= (λ from. Ok (deed (repl_deed o from.slot)))))

  abbrev known : Or ⊤
  known = resource_there g r

  abbrev any : Bool
  any = is_any (possible g.resources r)

  abbrev first : Object → Or Source
  first o = first_of g o (candidates g.resources o None)

  pub not_found : (e : Refusal) → FindsObject c user p Write (Err e) → FindsRepl c user p r (Err (Refused e))
  not_found e none = none (λ o. tests o known any (first o))

  module _ (made : IsMade c) (id : ℕ) (its : IsAllowed c user p Write id) where
    row_is : (o : ObjectRow) → object c id ≡ Some o → repl_row g user p r ≡ tests (object_of c o) known any (first (object_of c o))
    row_is o found = allowed_row c made user p Write id its o found (λ o. tests o known any (first o))

    its_row : (o : ObjectRow) × (object c id ≡ Some o)
    its_row = row_at c made user p Write id (sym its.at)

    pub no_repl_resource : None ≡ option_map (λ (x : ResourceRow). x.id) (find (λ x. same_text x.name r) c.resources) → FindsRepl c user p r (Err (Refused NoResource))
    no_repl_resource none = row_is its_row.0 its_row.1 ∙ ap (λ k. tests (object_of c its_row.0) k any (first (object_of c its_row.0))) (unknown c r none)

    module _ (q : ℕ) (some : Some q ≡ option_map (λ (x : ResourceRow). x.id) (find (λ x. same_text x.name r) c.resources)) where
      its_resource : Known c r q
      its_resource = known_named c r (sound_of c made) q some

      is_known : known ≡ Ok tt
      is_known = ap (λ b. unless b NoResource) its_resource.in_grid

      any_is : (b : Bool) → b ≡ is_any (possible g.resources (resource_name c q)) → any ≡ b
      any_is b is = ap (λ (n : Text). is_any (possible g.resources n)) (sym its_resource.name_is) ∙ sym is

      pub no_repl_target : false ≡ is_any (possible g.resources (resource_name c q)) → FindsRepl c user p r (Err (Refused NoTarget))
      no_repl_target none = row_is its_row.0 its_row.1 ∙ (λ i. tests (object_of c its_row.0) (is_known i) (any_is false none i) (first (object_of c its_row.0)))

      module _ (some_any : true ≡ is_any (possible g.resources (resource_name c q))) (o : ObjectRow) (found : Some o ≡ object c id) where
        to_first : repl_row g user p r ≡ tests (object_of c o) (Ok tt) true (first (object_of c o))
        to_first = row_is o (sym found) ∙ (λ i. tests (object_of c o) (is_known i) (any_is true some_any i) (first (object_of c o)))

        pub no_repl_file : (e : Refusal) → FindsFile c o None (Err e) → FindsRepl c user p r (Err (Refused e))
        no_repl_file e none = to_first ∙ ap (tests (object_of c o) (Ok tt) true) none

        id_is : o.id ≡ id
        id_is = eqb-true o.id id (in_from_find (λ (x : ObjectRow). x.id == id) c.objects o (sym found)).1

        pub may_repl : (file : OldFile) → FindsFile c o None (Ok file) → FindsRepl c user p r (Ok file)
        may_repl file reads = record {
          object_row = o;
          found = ap (object c) id_is ∙ sym found;
          may = record { at = its.at ∙ ap (λ n. Some n) (sym id_is); there = ap (λ n. has_object c n) id_is ∙ its.there; allowed = its.allowed };
          known = is_known;
          any = any_is true some_any;
          reads = reads;
          within = stored_slot c (sound_of c made) reads.row (in_of c.replicas reads.row reads.there) file.slot reads.slot_is;
        }

  -- the row of what may be done
  pub repl_is : IsMade c → (file : OldFile) → (its : MayRepl c user p r file) → repl_row g user p r ≡ Ok (deed (repl_deed (object_of c its.object_row) file.slot))
  repl_is made file its =
      row_is made its.object_row.id its.may its.object_row its.found
      ∙ (λ i. tests (object_of c its.object_row) (its.known i) (its.any i) (its.reads.is i))

  -- its resource is there
  pub resource_missing : (file : OldFile) → MayRepl c user p r file → None ≡ option_map (λ (x : ResourceRow). x.id) (find (λ x. same_text x.name r) c.resources) → ⊥
  resource_missing file its none = let wrong : Ok tt ≡ Err NoResource = sym its.known ∙ unknown c r none in cc
