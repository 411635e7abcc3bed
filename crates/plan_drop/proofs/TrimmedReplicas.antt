-- What the changes that take an object's replicas at or below a resource away make of the grid, and what the row of the operation
-- comes to then.
use Rattle.std.proofs.Common.{◌≡◌, ◌≢◌, inr, ℕ, Bool, true, false, List, [], Option, Some, None, Ok, Err, IsTrue, length, refl, sym, ap, ◌∙◌, subst, eq-eqb, eqb-true}
use Rattle.std.specs.Prelude.{◌==◌, ◌&&◌, find, is_some, not, filter, unwrap_or, option_map}
use Rattle.std.specs.List.{AllByRecursion, list_all, list_any}
use Rattle.std.specs.Cmp.{both_ways}
use Rattle.std.proofs.lemmas.Option.{same_Some}
use Rattle.grid_model.specs.Maps.{has}
use Rattle.grid_model.specs.Names.{Text, Path, same_text}
use Rattle.grid_model.specs.Grid.{Grid, Object}
use Rattle.grid_model.specs.Refusing.{Or, ◌>>=◌, unless, there}
use Rattle.grid_model.specs.Deeds.{Act, changes}
use Rattle.grid_model.specs.Levels.{may}
use Rattle.grid_model.specs.Rows.{Cat, has_resource, replica_cmp, replicas_of, resource}
use Rattle.grid_model.specs.RowPaths.{object_at}
use Rattle.grid_model.specs.RowGrids.{grid_of, object_of, resource_name, resource_of, user_name}
use Rattle.grid_model.specs.Applying.{IsMade, apply_all, is_replica}
use Rattle.grid_model.specs.Trees.{Replicas, is_in}
use Rattle.grid_model.specs.Operations.Replicas.{has_good, trimmed, with_replicas}
use Rattle.grid_model.specs.Operations.Table.{row, trim}
use Rattle.grid_model.specs.declared.deltas.ReplicaRow.{ReplicaRow}
use Rattle.grid_model.specs.declared.deltas.ResourceRow.{ResourceRow}
use Rattle.grid_model.specs.declared.grid.Level.TheVariants.{Own}
use Rattle.grid_model.specs.declared.refusal.Refusal.TheVariants.{NoObject, NoAccess, NoResource, NoReplica, LastGood}
use Rattle.grid_model.proofs.Comparing.{path_cmp_total, path_cmp-IsAntisymmetric, same_text-Decides}
use Rattle.grid_journal.specs.Journal.{can_be_kept}
use Rattle.tables_laws.proofs.LookUps.{get-resources}
use Rattle.tables_laws.proofs.Numbered.{found_in}
use Rattle.tables_laws.proofs.Resources.{leaf_there}
use Rattle.tables_laws.proofs.RowLists.{filter-swap}
use Rattle.tables_laws.proofs.Rows.{IsIn, IsTable-filter, all_from_in, any_from_in, filter_from_in, in_from_all, in_from_any, in_from_filter, in_from_find}
use Rattle.tables_laws.proofs.Standing.{ReplicaStands}
use Rattle.tables_laws.proofs.Sound.{IsSound}
use Rattle.grid_model.specs.declared.deltas.Delta.{Delta}
use Rattle.file_laws.specs.Rewriting.{StoredReplica, replicas_dropped}
use Rattle.file_laws.proofs.Fewer.{same_row}
use Rattle.plan_base.specs.Plans.{Changes}
use Rattle.plan_base.proofs.AtPaths.{sound_of}
use Rattle.plan_base.proofs.OtherMaps.{put-other}
use Rattle.plan_drop.specs.Stored.{is_row_in, stored_rows}
use Rattle.plan_drop.proofs.DropPlans.{drop_turns}
use Rattle.plan_drop.proofs.DroppedFiles.{names_before}
use Rattle.plan_drop.proofs.DroppedRows.{AreHeld, HaveOwnKeys, after_drop, applied_dropped, held_rows, in_from_stored, its_key, own_keys, stored_from_in, without-is, without_rows}
use Rattle.plan_drop.proofs.ObjectsAt.{StandsAt, nothing_there, stands_there}
use Rattle.plan_drop.proofs.RowMaps.{any-filter, any-kept, any-replicas, filter-alike, grid-dropped, none_fails, some_pass, told-kept, told_of}

-- ---- a resource by its name

no_row : (f : Option ResourceRow) → None ≡ option_map (λ (r : ResourceRow). r.id) f → f ≡ None
no_row None e = refl
no_row (Some r) e = absurd cc

record IsKnown (c : Cat) (name : Text) (id : ℕ) : Type 0 where
  pub there : IsTrue (has_resource c id)
  pub name_is : resource_name c id ≡ name
  pub in_grid : has (grid_of c).resources name ≡ true

known_so : (c : Cat) → IsSound c → (name : Text) (id : ℕ) → Some id ≡ option_map (λ (r : ResourceRow). r.id) (find (λ r. same_text r.name name) c.resources) → IsKnown c name id
known_so c s name id some = by (find (λ (r : ResourceRow). same_text r.name name) c.resources) refl some
  where
    by : (f : Option ResourceRow) → find (λ (r : ResourceRow). same_text r.name name) c.resources ≡ f → Some id ≡ option_map (λ (r : ResourceRow). r.id) f → IsKnown c name id
    by None is e = absurd cc
    by (Some r) is e =
        let its = in_from_find (λ (r : ResourceRow). same_text r.name name) c.resources r is in
        let same : id ≡ r.id = same_Some id r.id e in
        let found : resource c id ≡ Some r = ap (resource c) same ∙ found_in (λ (x : ResourceRow). x.id) c.resources r s.cat.resources.ordered its.0 in
        record {
          there = any_from_in (λ (x : ResourceRow). x.id == id) c.resources r its.0 (eq-eqb r.id id (sym same));
          name_is = ap (λ (o : Option ResourceRow). unwrap_or (option_map (λ (x : ResourceRow). x.name) o) []) found ∙ (same_text-Decides r.name name).0 its.1;
          in_grid = ap is_some (get-resources c name) ∙ ap (λ (f : Option ResourceRow). is_some (option_map (resource_of c) f)) is;
        }

pub known_there : (c : Cat) → IsMade c → (name : Text) (id : ℕ) → Some id ≡ option_map (λ (r : ResourceRow). r.id) (find (λ r. same_text r.name name) c.resources) → has_resource c id ≡ true
known_there c made name id some = (known_so c (sound_of c made) name id some).there

-- each replica is on a resource that is there
pub leaves_there : (c : Cat) → IsMade c → (id : ℕ) (rows : List ReplicaRow) → rows ≡ replicas_of c id → AllByRecursion (λ r. IsTrue (has_resource c r.leaf)) rows
leaves_there c made id rows is =
    let P : List ReplicaRow → Type 0 = λ xs. AllByRecursion (λ (r : ReplicaRow). IsTrue (has_resource c r.leaf)) xs in
    subst P (sym is) (all_from_in (λ (r : ReplicaRow). IsTrue (has_resource c r.leaf)) (replicas_of c id) (λ r here.
    leaf_there c r.leaf (in_from_all (ReplicaStands c) c.replicas (sound_of c made).tied.replicas r (in_from_filter (λ x. x.object == id) c.replicas r here).0).1))

-- ---- the operation

abbrev tests : Option Object → Bool → Bool → (Object → Bool) → (Object → Bool) → (Object → Grid) → Or Act
tests found allowed known some good next =
    there found NoObject >>= (λ o. unless allowed NoAccess >>= (λ _. unless known NoResource >>= (λ _. unless (some o) NoReplica >>= (λ _. unless (good o) LastGood >>= (λ _. Ok (changes (next o)))))))

module _ (c : Cat) (made : IsMade c) (user : ℕ) (p : Path) where
  abbrev u : Text
  u = user_name c user

  module _ (name : Text) where
    abbrev some : Object → Bool
    some o = list_any (λ e. is_in (grid_of c).resources name e.1.leaf) o.replicas.entries

    abbrev good : Object → Bool
    good o = has_good (trimmed (grid_of c).resources o.replicas name)

    abbrev next : Object → Grid
    next o = with_replicas (grid_of c) p o (trimmed (grid_of c).resources o.replicas name)

    pub refused_nothing : None ≡ object_at c p → row (grid_of c) u (trim p name) ≡ Err NoObject
    refused_nothing none i = tests (nothing_there c made p none i) (may (grid_of c) u p Own) (has (grid_of c).resources name) some good next

    pub refused_level : (id : ℕ) → Some id ≡ object_at c p → may (grid_of c) u p Own ≡ false → row (grid_of c) u (trim p name) ≡ Err NoAccess
    refused_level id at refused i = tests ((stands_there c made p id at).gives i) (refused i) (has (grid_of c).resources name) some good next

    pub refused_unknown : (id : ℕ) → Some id ≡ object_at c p → may (grid_of c) u p Own ≡ true → None ≡ option_map (λ (r : ResourceRow). r.id) (find (λ r. same_text r.name name) c.resources)
        → row (grid_of c) u (trim p name) ≡ Err NoResource
    refused_unknown id at allowed none i =
        tests ((stands_there c made p id at).gives i) (allowed i)
        ((ap is_some (get-resources c name) ∙ ap (λ (f : Option ResourceRow). is_some (option_map (resource_of c) f)) (no_row (find (λ (r : ResourceRow). same_text r.name name) c.resources) none)) i) some good next

  module _ (id : ℕ) (at : Some id ≡ object_at c p) (allowed : may (grid_of c) u p Own ≡ true) (upper : ℕ) (known : has (grid_of c).resources (resource_name c upper) ≡ true) where
    s : IsSound c
    s = sound_of c made

    abbrev it : StandsAt c p id
    it = stands_there c made p id at

    abbrev name_of : Text
    name_of = resource_name c upper

    abbrev its : List ReplicaRow
    its = replicas_of c it.row.id

    abbrev below : ReplicaRow → Bool
    below = is_row_in c upper

    some_is : some name_of (object_of c it.row) ≡ list_any below its
    some_is = any-replicas c s it.row (λ x. is_in (grid_of c).resources name_of x.leaf)

    abbrev kept : Replicas
    kept = told_of c s it.row (filter (λ r. not (below r)) its)

    kept_is : kept ≡ trimmed (grid_of c).resources (object_of c it.row).replicas name_of
    kept_is = told-kept c s it.row (λ x. not (is_in (grid_of c).resources name_of x.leaf))

    good_is : good name_of (object_of c it.row) ≡ list_any (λ r. r.good && not (below r)) its
    good_is =
        ap (λ (m : Replicas). has_good m) (sym kept_is)
        ∙ any-kept c s it.row (λ x. x.good) (λ r. not (below r))
        ∙ any-filter (λ (r : ReplicaRow). r.good) (λ r. not (below r)) its

    refused_none : list_any below its ≡ false → row (grid_of c) u (trim p name_of) ≡ Err NoReplica
    refused_none none =
        (λ i. tests (it.gives i) (allowed i) (known i) (some name_of) (good name_of) (next name_of))
        ∙ ap (λ b. unless b NoReplica >>= (λ _. unless (good name_of (object_of c it.row)) LastGood >>= (λ _. Ok (changes (next name_of (object_of c it.row)))))) (some_is ∙ none)

    module _ (any : list_any below its ≡ true) where
      rest : row (grid_of c) u (trim p name_of) ≡ unless (good name_of (object_of c it.row)) LastGood >>= (λ _. Ok (changes (next name_of (object_of c it.row))))
      rest =
          (λ i. tests (it.gives i) (allowed i) (known i) (some name_of) (good name_of) (next name_of))
          ∙ ap (λ b. unless b NoReplica >>= (λ _. unless (good name_of (object_of c it.row)) LastGood >>= (λ _. Ok (changes (next name_of (object_of c it.row)))))) (some_is ∙ any)

      refused_last : list_any (λ r. r.good && not (below r)) its ≡ false → row (grid_of c) u (trim p name_of) ≡ Err LastGood
      refused_last none = rest ∙ ap (λ b. unless b LastGood >>= (λ _. Ok (changes (next name_of (object_of c it.row))))) (good_is ∙ none)

      module _ (left : list_any (λ r. r.good && not (below r)) its ≡ true) where
        row_is : row (grid_of c) u (trim p name_of) ≡ Ok (changes (next name_of (object_of c it.row)))
        row_is = rest ∙ ap (λ b. unless b LastGood >>= (λ _. Ok (changes (next name_of (object_of c it.row))))) (good_is ∙ left)

        abbrev gone : List ReplicaRow
        gone = filter below its

        abbrev stored : List StoredReplica
        stored = stored_rows c gone

        was : (r : ReplicaRow) → IsIn gone r → IsIn c.replicas r × (r.object ≡ it.row.id) × (below r ≡ true)
        was r here =
            let one = in_from_filter below its r here in
            let two = in_from_filter (λ x. x.object == it.row.id) c.replicas r one.0 in
            (two.0, eqb-true r.object it.row.id two.1, one.1)

        held : AreHeld c stored
        held = held_rows c s gone (λ r here. (was r here).0)

        own : HaveOwnKeys stored
        own = own_keys c gone (IsTable-filter replica_cmp (λ _. true) below its (IsTable-filter replica_cmp (λ _. true) (λ x. x.object == it.row.id) c.replicas s.cat.replicas)).ordered

        abbrev end : Cat
        end = after_drop c stored

        -- ---- the grid

        of_it : (f : StoredReplica) → IsIn stored f → f.row.object ≡ it.row.id
        of_it f here = (was f.row (in_from_stored c gone f here).0).1

        -- those that go are those below
        goes_is : (r : ReplicaRow) → IsIn its r → list_any (λ (f : StoredReplica). is_replica f.row.object f.row.number r) stored ≡ below r
        goes_is r here = both_ways (list_any (λ (f : StoredReplica). is_replica f.row.object f.row.number r) stored) (below r)
            (λ e. let f = in_from_any (λ (f : StoredReplica). is_replica f.row.object f.row.number r) stored e in
            let row_was = was f.0.row (in_from_stored c gone f.0 f.1).0 in
            ap below (same_row c s r f.0.row (in_from_filter (λ x. x.object == it.row.id) c.replicas r here).0 row_was.0 (its_key f.0.row r f.2)) ∙ row_was.2)
            (λ e. let f = stored_from_in c gone r (filter_from_in below its r here e) in
            any_from_in (λ (f : StoredReplica). is_replica f.row.object f.row.number r) stored f.0 f.1 (itself f.0.row r f.2))
          where
            itself : (q r : ReplicaRow) → q ≡ r → is_replica q.object q.number r ≡ true
            itself q r same = ap (λ (x : ReplicaRow). is_replica x.object x.number r) same ∙ (λ i. eq-eqb r.object r.object refl i && eq-eqb r.number r.number refl i)

        left_is : filter (λ r. r.object == it.row.id) (without_rows c.replicas stored) ≡ filter (λ r. not (below r)) its
        left_is =
            ap (filter (λ r. r.object == it.row.id)) (without-is stored c.replicas)
            ∙ filter-swap (λ r. r.object == it.row.id) (λ r. not (list_any (λ (f : StoredReplica). is_replica f.row.object f.row.number r) stored)) c.replicas
            ∙ filter-alike (λ r. not (list_any (λ (f : StoredReplica). is_replica f.row.object f.row.number r) stored)) (λ r. not (below r)) its (λ r here. ap not (goes_is r here))

        grid_end : grid_of end ≡ next name_of (object_of c it.row)
        grid_end =
            grid-dropped c s it.row it.here stored of_it (trimmed (grid_of c).resources (object_of c it.row).replicas name_of) (ap (told_of c s it.row) left_is ∙ kept_is)
            ∙ ap (λ (q : Path). with_replicas (grid_of c) q (object_of c it.row) (trimmed (grid_of c).resources (object_of c it.row).replicas name_of)) it.place

        -- one of its replicas went
        other : grid_of end ≢ grid_of c
        other e =
            put-other path_cmp_total path_cmp-IsAntisymmetric (grid_of c).objects p (record (object_of c it.row) { replicas = trimmed (grid_of c).resources (object_of c it.row).replicas name_of })
            (λ same. as_before (same_Some _ _ (sym it.gives ∙ same))) (ap (λ (g : Grid). g.objects) (sym grid_end ∙ e))
          where
            as_before : object_of c it.row ≡ record (object_of c it.row) { replicas = trimmed (grid_of c).resources (object_of c it.row).replicas name_of } → ⊥
            as_before same =
                let fewer : some name_of (object_of c it.row) ≡ false =
                ap (some name_of) same ∙ ap (λ (m : Replicas). list_any (λ e. is_in (grid_of c).resources name_of e.1.leaf) m.entries) (sym kept_is)
                ∙ any-kept c s it.row (λ x. is_in (grid_of c).resources name_of x.leaf) (λ r. not (below r)) ∙ none_fails below its in
                let more : some name_of (object_of c it.row) ≡ true = some_is ∙ any in
                cc

        planned_so : (deltas : List Delta) → deltas ≡ replicas_dropped stored → IsTrue (list_all can_be_kept deltas) → Changes c u (trim p name_of) deltas
        planned_so deltas deltas_are spelled = record {
          after = end;
          applied = ap (apply_all c) deltas_are ∙ applied_dropped stored c s held own;
          spelled = spelled;
          row_is = row_is ∙ ap (λ (g : Grid). Ok (changes g)) (sym grid_end);
          turns = drop_turns c s stored held own;
          names = names_before c s stored held own end refl refl (λ leaf. refl);
          numbers = refl;
          pending = refl;
          rules = refl;
          stores = refl;
          still = inr other;
        }

-- ---- the same of a resource by its name, and of the rows that are looked at

module _ (c : Cat) (made : IsMade c) (user : ℕ) (p : Path) (id : ℕ) (at : Some id ≡ object_at c p) (allowed : may (grid_of c) (user_name c user) p Own ≡ true) (name : Text) (upper : ℕ)
    (some : Some upper ≡ option_map (λ (r : ResourceRow). r.id) (find (λ r. same_text r.name name) c.resources)) (rows : List ReplicaRow) (rows_are : rows ≡ replicas_of c id)
    (found : List ReplicaRow) (found_are : found ≡ filter (is_row_in c upper) rows) where
  by_name : IsKnown c name upper
  by_name = known_so c (sound_of c made) name upper some

  known : has (grid_of c).resources (resource_name c upper) ≡ true
  known = ap (λ (n : Text). has (grid_of c).resources n) by_name.name_is ∙ by_name.in_grid

  same_rows : rows ≡ replicas_of c (stands_there c made p id at).row.id
  same_rows = rows_are ∙ ap (λ n. replicas_of c n) (sym (stands_there c made p id at).id_is)

  any_is : not (length found == 0) ≡ list_any (is_row_in c upper) (replicas_of c (stands_there c made p id at).row.id)
  any_is = ap (λ (xs : List ReplicaRow). not (length xs == 0)) found_are ∙ some_pass (is_row_in c upper) rows ∙ ap (list_any (is_row_in c upper)) same_rows

  pub no_replica : (length found == 0) ≡ true → row (grid_of c) (user_name c user) (trim p name) ≡ Err NoReplica
  no_replica empty =
      let P : Text → Type 0 = λ n. row (grid_of c) (user_name c user) (trim p n) ≡ Err NoReplica in
      subst P by_name.name_is (refused_none c made user p id at allowed upper known (sym any_is ∙ ap not empty))

  module _ (some_found : (length found == 0) ≡ false) (good : Bool) (good_is : good ≡ list_any (λ r. r.good && not (is_row_in c upper r)) rows) where
    any : list_any (is_row_in c upper) (replicas_of c (stands_there c made p id at).row.id) ≡ true
    any = sym any_is ∙ ap not some_found

    left : good ≡ list_any (λ r. r.good && not (is_row_in c upper r)) (replicas_of c (stands_there c made p id at).row.id)
    left = good_is ∙ ap (list_any (λ (r : ReplicaRow). r.good && not (is_row_in c upper r))) same_rows

    pub last_good : good ≡ false → row (grid_of c) (user_name c user) (trim p name) ≡ Err LastGood
    last_good none =
        let P : Text → Type 0 = λ n. row (grid_of c) (user_name c user) (trim p n) ≡ Err LastGood in
        subst P by_name.name_is (refused_last c made user p id at allowed upper known any (sym left ∙ none))

    pub planned : good ≡ true → (deltas : List Delta) → deltas ≡ replicas_dropped (stored_rows c found) → IsTrue (list_all can_be_kept deltas)
        → Changes c (user_name c user) (trim p name) deltas
    planned is deltas deltas_are spelled =
        let P : Text → Type 0 = λ n. Changes c (user_name c user) (trim p n) deltas in
        let same : found ≡ filter (is_row_in c upper) (replicas_of c (stands_there c made p id at).row.id) = found_are ∙ ap (filter (is_row_in c upper)) same_rows in
        subst P by_name.name_is (planned_so c made user p id at allowed upper known any (sym left ∙ is) deltas
        (deltas_are ∙ ap (λ (xs : List ReplicaRow). replicas_dropped (stored_rows c xs)) same) spelled)
