-- What a resource that is up or down from now on makes of the grid, and what the row of the operation comes to then.
use Rattle.std.proofs.Common.{◌≡◌, inl, inr, ℕ, Bool, true, false, cond, List, [], ◌∷◌, Option, Some, None, Ok, Err, IsTrue, refl, sym, ap, ◌∙◌, subst}
use Rattle.std.specs.Prelude.{find, option_map, ◌&&◌}
use Rattle.std.specs.List.{list_all}
use Rattle.std.specs.Ordering.{eq_by_cmp}
use mathlib.Core.Bool.{beq}
use Rattle.std.specs.Cmp.{IsTotalOrder}
use Rattle.std.specs.declared.cmp.Ordering.{Ordering}
use Rattle.std.specs.FinMap.{IsAntisymmetric}
use Rattle.std.proofs.lemmas.Option.{same_Some}
use Rattle.grid_model.specs.Maps.{Map, get, put}
use Rattle.grid_model.specs.Names.{Text, same_text, is_name}
use Rattle.grid_model.specs.Grid.{Grid, Resource}
use Rattle.grid_model.specs.Refusing.{Or, ◌>>=◌, unless, there}
use Rattle.grid_model.specs.Deeds.{Act, changes}
use Rattle.grid_model.specs.Levels.{is_admin}
use Rattle.grid_model.specs.Rows.{Cat, resource}
use Rattle.grid_model.specs.RowGrids.{grid_of, resource_of, user_name}
use Rattle.grid_model.specs.Applying.{IsMade, is_storage, resource_fits}
use Rattle.grid_model.specs.Operations.Table.{modresc, row}
use Rattle.grid_model.specs.declared.deltas.Delta.{Delta}
use Rattle.grid_model.specs.declared.deltas.Delta.TheVariants as delta
use Rattle.grid_model.specs.declared.deltas.ResourceRow.{ResourceRow}
use Rattle.grid_model.specs.declared.refusal.Refusal.TheVariants.{NoResource, NotAdmin, BadTree}
use Rattle.grid_model.specs.declared.refusal.TreeCause.TheVariants.{Coordinating}
use Rattle.grid_model.proofs.Comparing.{text_cmp_total, text_cmp-IsAntisymmetric, same_text-Decides, eq_by_cmp-Decides}
use Rattle.grid_model.proofs.MapLemmas.{same_map, get-put}
use Rattle.grid_journal.specs.Journal.{can_be_kept}
use Rattle.tables_laws.proofs.ChangedResources.{grid-changed_resource}
use Rattle.tables_laws.proofs.LookUps.{get-resources}
use Rattle.tables_laws.proofs.Numbered.{found_in}
use Rattle.tables_laws.proofs.Rows.{IsIn, in_from_find}
use Rattle.tables_laws.proofs.Sound.{IsSound}
use Rattle.grid_tree.proofs.Named.{sound_of}
use Rattle.grid_tree.proofs.OwnPlaces.{places-made}
use Rattle.plan_base.specs.Plans.{Changes}
use Rattle.plan_tree.proofs.FittingResources.{fits_all, its_name, owns_still, parent_still}
use Rattle.plan_tree.proofs.ResourcePlans.{with_resource, settles_self, settles_resource, plan_of, applied_alone}
use Rattle.plan_tree.proofs.RootedResources.{IsRooted, rooted-made}

-- what is there put again
pub put-itself : {K X : Type 0} {R : K → K → Ordering} → IsTotalOrder R → IsAntisymmetric R → (m : Map R X) (k : K) (x : X) → get m k ≡ Some x → put m k x ≡ m
put-itself {K} {X} {R} o same m k x found = same_map o same (put m k x) m (λ q. get-put o m k x q ∙ by q (eq_by_cmp R q k) refl)
  where
    by : (q : K) (b : Bool) → eq_by_cmp R q k ≡ b → cond b (Some x) (get m q) ≡ get m q
    by q true is = sym found ∙ ap (λ j. get m j) (sym ((eq_by_cmp-Decides o same q k).0 is))
    by q false is = refl

same_status : (a b : Bool) → beq a b ≡ true → a ≡ b
same_status true true e = refl
same_status true false e = absurd cc
same_status false true e = absurd cc
same_status false false e = refl

other_status : (a b : Bool) → beq a b ≡ false → a ≡ b → ⊥
other_status a b e is = by a (ap (beq a) is ∙ e)
  where
    by : (x : Bool) → beq x x ≡ false → ⊥
    by true f = absurd cc
    by false f = absurd cc

abbrev tests : Bool → Option Resource → (Resource → Grid) → Or Act
tests admin found next = unless admin NotAdmin >>= (λ _. there found NoResource >>= (λ x. unless (is_storage x.kind) (BadTree Coordinating) >>= (λ _. Ok (changes (next x)))))

-- the row of a name
pub record HasRow (c : Cat) (name : Text) (r : ResourceRow) : Type 0 where
  pub here : IsIn c.resources r
  pub name_is : r.name ≡ name
  pub own : resource c r.id ≡ Some r
  pub gives : get (grid_of c).resources name ≡ Some (resource_of c r)

pub row_named : (c : Cat) (s : IsSound c) (name : Text) (r : ResourceRow) → find (λ x. same_text x.name name) c.resources ≡ Some r → HasRow c name r
row_named c s name r found =
    let its = in_from_find (λ (x : ResourceRow). same_text x.name name) c.resources r found in
    record {
      here = its.0;
      name_is = (same_text-Decides r.name name).0 its.1;
      own = found_in (λ (x : ResourceRow). x.id) c.resources r s.cat.resources.ordered its.0;
      gives = get-resources c name ∙ ap (option_map (resource_of c)) found;
    }

-- the row of an id that was found by a name
pub found_again : (c : Cat) → IsMade c → (name : Text) (id : ℕ) → Some id ≡ option_map (λ r. r.id) (find (λ (x : ResourceRow). same_text x.name name) c.resources) → (o : Option ResourceRow) → o ≡ resource c id
    → o ≡ find (λ x. same_text x.name name) c.resources
found_again c made name id is o o_is = by (find (λ (x : ResourceRow). same_text x.name name) c.resources) refl is
  where
    by : (f : Option ResourceRow) → find (λ (x : ResourceRow). same_text x.name name) c.resources ≡ f → Some id ≡ option_map (λ r. r.id) f → o ≡ f
    by None none e = absurd cc
    by (Some r) some e = o_is ∙ ap (resource c) (same_Some id r.id e) ∙ (row_named c (sound_of c made) name r some).own

pub name_of_row : (c : Cat) → IsMade c → (name : Text) (r : ResourceRow) → Some r ≡ find (λ (x : ResourceRow). same_text x.name name) c.resources → is_name r.name ≡ true
name_of_row c made name r found = its_name c (sound_of c made) (rooted-made c made) r (row_named c (sound_of c made) name r (sym found)).here

-- the grid becomes another one where the resource was not so
pub differs : (c after : Cat) (s : IsSound c) (name : Text) (up : Bool) (r : ResourceRow) → HasRow c name r → (r.up ≡ up → ⊥)
    → grid_of after ≡ record (grid_of c) { resources = put (grid_of c).resources name (record (resource_of c r) { up = up }) } → grid_of after ≡ grid_of c → ⊥
differs c after s name up r has other is same =
    let found : get (put (grid_of c).resources name (record (resource_of c r) { up = up })) name ≡ get (grid_of c).resources name = ap (λ (g : Grid). get g.resources name) (sym is ∙ same) in
    let put_there : get (put (grid_of c).resources name (record (resource_of c r) { up = up })) name ≡ Some (record (resource_of c r) { up = up }) =
    get-put text_cmp_total (grid_of c).resources name (record (resource_of c r) { up = up }) name ∙ ap (λ b. cond b (Some (record (resource_of c r) { up = up })) (get (grid_of c).resources name)) ((same_text-Decides name name).1 refl) in
    other (sym (ap (λ (x : Resource). x.up) (same_Some (record (resource_of c r) { up = up }) (resource_of c r) (sym put_there ∙ found ∙ has.gives))))

module _ (c : Cat) (made : IsMade c) (u : ℕ) (name : Text) (up : Bool) (one : is_admin (get (grid_of c).users (user_name c u)) ≡ true) where
  s : IsSound c
  s = sound_of c made

  rooted : IsRooted c.resources
  rooted = rooted-made c made

  abbrev next : Resource → Grid
  next x = record (grid_of c) { resources = put (grid_of c).resources name (record x { up = up }) }

  pub unknown : None ≡ find (λ (x : ResourceRow). same_text x.name name) c.resources → row (grid_of c) (user_name c u) (modresc name up) ≡ Err NoResource
  unknown none i = tests (one i) ((get-resources c name ∙ ap (option_map (resource_of c)) (sym none)) i) next

  module _ (r : ResourceRow) (found : Some r ≡ find (λ (x : ResourceRow). same_text x.name name) c.resources) where
    has : HasRow c name r
    has = row_named c s name r (sym found)

    abbrev checked : Bool → Or Act
    checked stores = unless stores (BadTree Coordinating) >>= (λ _. Ok (changes (next (resource_of c r))))

    to_kind : row (grid_of c) (user_name c u) (modresc name up) ≡ checked (is_storage r.kind)
    to_kind i = tests (one i) (has.gives i) next

    pub coordinating : is_storage r.kind ≡ false → row (grid_of c) (user_name c u) (modresc name up) ≡ Err (BadTree Coordinating)
    coordinating none = to_kind ∙ ap checked none

    module _ (stores : is_storage r.kind ≡ true) where
      -- it is so already
      pub as_before : beq r.up up ≡ true → (deltas : List Delta) → deltas ≡ [] → Changes c (user_name c u) (modresc name up) deltas
      as_before alike deltas none =
          let same : r.up ≡ up = same_status r.up up alike in
          let P : List Delta → Type 0 = λ ds. Changes c (user_name c u) (modresc name up) ds in
          subst P (sym none) (plan_of c c (user_name c u) (modresc name up) [] (settles_self c s rooted) refl refl
          (to_kind ∙ ap checked stores ∙ ap (λ (b : Bool). Ok (changes (record (grid_of c) { resources = put (grid_of c).resources name (record (resource_of c r) { up = b }) }))) (sym same)
          ∙ ap (λ m. Ok (changes (record (grid_of c) { resources = m }))) (put-itself text_cmp_total text_cmp-IsAntisymmetric (grid_of c).resources name (resource_of c r) has.gives)) (inl refl))

      fits : resource_fits c (record r { up = up }) ≡ true
      fits = fits_all c (record r { up = up }) (owns_still c s rooted r has.here up r.parent r.place) (parent_still c s rooted r has.here (places-made c made) up)

      grid_is : grid_of (with_resource c (record r { up = up })) ≡ next (resource_of c r)
      grid_is =
          grid-changed_resource c s (record r { up = up }) r has.own refl refl refl fits
          ∙ ap (λ (n : Text). record (grid_of c) { resources = put (grid_of c).resources n (record (resource_of c r) { up = up }) }) has.name_is

      pub planned : beq r.up up ≡ false → (new : ResourceRow) → new ≡ record r { up = up } → IsTrue (can_be_kept (delta.Resource new)) → (deltas : List Delta) → deltas ≡ delta.Resource new ∷ []
          → Changes c (user_name c u) (modresc name up) deltas
      planned other new is kept deltas are =
          let alone : deltas ≡ delta.Resource (record r { up = up }) ∷ [] = are ∙ ap (λ (x : ResourceRow). delta.Resource x ∷ []) is in
          plan_of c (with_resource c (record r { up = up })) (user_name c u) (modresc name up) deltas
          (settles_resource c s rooted (record r { up = up }) (λ old found. ap (λ (x : ResourceRow). x.slot) (same_Some old r (sym found ∙ has.own))) fits)
          (ap (list_all can_be_kept) are ∙ ap (λ b. b && true) kept) (applied_alone c (record r { up = up }) fits deltas alone)
          (to_kind ∙ ap checked stores ∙ ap (λ (g : Grid). Ok (changes g)) (sym grid_is))
          (inr (differs c (with_resource c (record r { up = up })) s name up r has (other_status r.up up other) grid_is))
