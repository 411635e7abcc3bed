-- What the changes that take an object away make of the grid, and what the row of the operation comes to then.
use Rattle.std.proofs.Common.{◌≡◌, ◌≢◌, inr, ℕ, Bool, true, false, cond, List, [], ◌∷◌, ◌++◌, Option, Some, None, Ok, Err, IsTrue, refl, sym, ap, ◌∙◌, eqb-true}
use Rattle.std.specs.Prelude.{◌==◌, ◌&&◌, ◌||◌, is_some, not, filter, unwrap_or, option_map}
use Rattle.std.specs.List.{list_all, list_any}
use Rattle.std.specs.declared.cmp.Ordering.{Ordering}
use Rattle.std.specs.Ordering.{eq_by_cmp}
use Rattle.std.specs.Cmp.{IsTotalOrder}
use Rattle.std.specs.FinMap.{IsAntisymmetric}
use Rattle.std.proofs.lemmas.Bool.{and_from}
use Rattle.std.proofs.lemmas.List.Folds.{list_all-append}
use Rattle.grid_model.specs.Maps.{Map, get, put, remove}
use Rattle.grid_model.specs.Names.{Text, Path, path_cmp}
use Rattle.grid_model.specs.Grid.{Grid, Object}
use Rattle.grid_model.specs.Refusing.{Or, ◌>>=◌, unless, there}
use Rattle.grid_model.specs.Deeds.{Act, changes}
use Rattle.grid_model.specs.Levels.{may}
use Rattle.grid_model.specs.Rows.{Cat, access_of, has_object, object, replica_cmp, replicas_of, same_item, triples_of}
use Rattle.grid_model.specs.RowPaths.{collection_path, object_at}
use Rattle.grid_model.specs.RowGrids.{CollectionPaths, grid_of, object_of, object_place, user_name}
use Rattle.grid_model.specs.Applying.{IsMade, apply, apply_all, is_told_of, may_drop_object, where_fits}
use Rattle.grid_model.specs.Operations.Common.{forget}
use Rattle.grid_model.specs.Operations.Table.{rm, row}
use Rattle.grid_model.specs.declared.deltas.Delta.{Delta}
use Rattle.grid_model.specs.declared.deltas.Delta.TheVariants as delta
use Rattle.grid_model.specs.declared.deltas.EntryRow.{EntryRow}
use Rattle.grid_model.specs.declared.deltas.ObjectRow.{ObjectRow}
use Rattle.grid_model.specs.declared.deltas.ReplicaRow.{ReplicaRow}
use Rattle.grid_model.specs.declared.deltas.TripleRow.{TripleRow}
use Rattle.grid_model.specs.declared.grid.ItemKind.TheVariants as kind
use Rattle.grid_model.specs.declared.grid.Level.TheVariants.{Own}
use Rattle.grid_model.specs.declared.refusal.Refusal.TheVariants.{NoObject, NoAccess}
use Rattle.grid_model.proofs.Comparing.{path_cmp_total, path_cmp-IsAntisymmetric}
use Rattle.grid_model.proofs.MapLemmas.{get-put, get-remove, same_map}
use Rattle.grid_journal.specs.Journal.{can_be_kept}
use Rattle.tables_laws.proofs.Dropped.{grid-without_object}
use Rattle.tables_laws.proofs.Forest.{without_object}
use Rattle.tables_laws.proofs.Grids.{paths_same}
use Rattle.tables_laws.proofs.Rows.{IsIn, IsTable-filter, filter_from_in, in_from_filter}
use Rattle.tables_laws.proofs.Sound.{IsSound, sound-apply_all}
use Rattle.file_laws.specs.Plans.{Turns, names_no_file}
use Rattle.file_laws.specs.Rewriting.{StoredReplica, replicas_dropped}
use Rattle.file_laws.proofs.Removing.{turns_no_object}
use Rattle.file_laws.proofs.Turning.{turns_apply_all, turns_then}
use Rattle.plan_base.specs.Forgetting.{forgotten, no_entries, no_triples}
use Rattle.plan_base.specs.Plans.{Changes}
use Rattle.plan_base.proofs.AtPaths.{sound_of}
use Rattle.plan_base.proofs.Forgetting.{applied_forgotten, grid-forgotten, without_said}
use Rattle.plan_base.proofs.OtherMaps.{remove-there}
use Rattle.plan_drop.specs.Stored.{stored_rows}
use Rattle.plan_drop.proofs.DropPlans.{apply_more, drop_sound, drop_turns}
use Rattle.plan_drop.proofs.DroppedFiles.{names_before}
use Rattle.plan_drop.proofs.DroppedRows.{AreHeld, HaveOwnKeys, after_drop, applied_dropped, held_rows, in_from_stored, in_from_without, none_passes, own_keys, stored_from_in, without_rows}
use Rattle.plan_drop.proofs.ObjectsAt.{StandsAt, nothing_there, stands_there}
use Rattle.plan_drop.proofs.RowMaps.{grid-dropped, none_fails, told_of}

-- ---- changes that name no file

unnamed_triples : (xs : List TripleRow) → list_all names_no_file (no_triples xs) ≡ true
unnamed_triples [] = refl
unnamed_triples (x ∷ xs) = unnamed_triples xs

unnamed_entries : (xs : List EntryRow) → list_all names_no_file (no_entries xs) ≡ true
unnamed_entries [] = refl
unnamed_entries (x ∷ xs) = unnamed_entries xs

-- ---- a key that is removed

remove-put : {K X : Type 0} {R : K → K → Ordering} → IsTotalOrder R → IsAntisymmetric R → (m : Map R X) (k : K) (x : X) → remove (put m k x) k ≡ remove m k
remove-put {K} {X} {R} o same m k x = same_map o same (remove (put m k x) k) (remove m k) (λ q.
    get-remove o (put m k x) k q ∙ ap (λ (v : Option X). cond (eq_by_cmp R q k) None v) (get-put o m k x q) ∙ hidden (eq_by_cmp R q k) (get m q) ∙ sym (get-remove o m k q))
  where
    hidden : (b : Bool) (v : Option X) → cond b None (cond b (Some x) v) ≡ cond b None v
    hidden true v = refl
    hidden false v = refl

-- ---- the operation

abbrev tests : Option Object → Bool → Grid → Or Act
tests found allowed g = there found NoObject >>= (λ _. unless allowed NoAccess >>= (λ _. Ok (changes g)))

module _ (c : Cat) (made : IsMade c) (user : ℕ) (p : Path) where
  abbrev u : Text
  u = user_name c user

  abbrev after_grid : Grid
  after_grid = forget (record (grid_of c) { objects = remove (grid_of c).objects p }) p

  pub refused_nothing : None ≡ object_at c p → row (grid_of c) u (rm p) ≡ Err NoObject
  refused_nothing none i = tests (nothing_there c made p none i) (may (grid_of c) u p Own) after_grid

  module _ (id : ℕ) (at : Some id ≡ object_at c p) where
    it : StandsAt c p id
    it = stands_there c made p id at

    pub refused_level : may (grid_of c) u p Own ≡ false → row (grid_of c) u (rm p) ≡ Err NoAccess
    refused_level refused i = tests (it.gives i) (refused i) after_grid

    module _ (allowed : may (grid_of c) u p Own ≡ true) where
      s : IsSound c
      s = sound_of c made

      abbrev stored : List StoredReplica
      stored = stored_rows c (replicas_of c id)

      held : AreHeld c stored
      held = held_rows c s (replicas_of c id) (λ r here. (in_from_filter (λ x. x.object == id) c.replicas r here).0)

      own : HaveOwnKeys stored
      own = own_keys c (replicas_of c id) (IsTable-filter replica_cmp (λ _. true) (λ x. x.object == id) c.replicas s.cat.replicas).ordered

      -- without the replicas, then without metadata and access, and then without the object
      abbrev one : Cat
      one = after_drop c stored

      one_sound : IsSound one
      one_sound = drop_sound c s stored held own

      abbrev two : Cat
      two = without_said one one_sound kind.Object id

      two_sound : IsSound two
      two_sound = sound-apply_all (forgotten one kind.Object id) one two one_sound (applied_forgotten one one_sound kind.Object id)

      abbrev three : Cat
      three = without_object two id

      no_replica : list_any (λ r. r.object == id) (without_rows c.replicas stored) ≡ false
      no_replica = none_passes (λ r. r.object == id) (without_rows c.replicas stored) (λ r here is.
          let was = in_from_without stored c.replicas r here in
          let its = stored_from_in c (replicas_of c id) r (filter_from_in (λ x. x.object == id) c.replicas r was.0 is) in
          was.1 its.0 its.1 (ap (λ (x : ReplicaRow). x.object) (sym its.2), ap (λ (x : ReplicaRow). x.number) (sym its.2)))

      untold : is_told_of two kind.Object id ≡ false
      untold i = none_fails (λ (t : TripleRow). same_item t.kind t.id kind.Object id) c.triples i || none_fails (λ (e : EntryRow). same_item e.kind e.id kind.Object id) c.entries i

      fits : may_drop_object two id ≡ true
      fits =
          and_from (has_object c id && not (list_any (λ r. r.object == id) (without_rows c.replicas stored))) (not (is_told_of two kind.Object id))
          (and_from (has_object c id) (not (list_any (λ r. r.object == id) (without_rows c.replicas stored))) it.there (ap not no_replica)) (ap not untold)

      removed : apply two (delta.NoObject id) ≡ Ok three
      removed = ap (λ b. where_fits b 8 three) fits

      abbrev all : List Delta
      all = (replicas_dropped stored ++ forgotten c kind.Object id) ++ delta.NoObject id ∷ []

      applied_two : apply_all c (replicas_dropped stored ++ forgotten c kind.Object id) ≡ Ok two
      applied_two = apply_more c one (replicas_dropped stored) (forgotten c kind.Object id) (applied_dropped stored c s held own) ∙ applied_forgotten one one_sound kind.Object id

      applied : apply_all c all ≡ Ok three
      applied =
          apply_more c two (replicas_dropped stored ++ forgotten c kind.Object id) (delta.NoObject id ∷ []) applied_two
          ∙ ap (λ b. elim (where_fits b 8 three) [ Ok next ↦ apply_all next [] | Err cause ↦ Err cause ]) fits

      turns : Turns [] [] c three
      turns =
          turns_then [] [] c one three (drop_turns c s stored held own)
          (turns_then [] [] one two three
          (turns_apply_all [] [] (forgotten c kind.Object id) one two
          (list_all-append names_no_file (no_triples (triples_of c kind.Object id)) (no_entries (access_of c kind.Object id)) ∙ (λ i. unnamed_triples (triples_of c kind.Object id) i && unnamed_entries (access_of c kind.Object id) i))
          (applied_forgotten one one_sound kind.Object id))
          (turns_no_object [] [] two three id removed))

      -- ---- the grid

      of_it : (f : StoredReplica) → IsIn stored f → f.row.object ≡ it.row.id
      of_it f here = eqb-true f.row.object id (in_from_filter (λ x. x.object == id) c.replicas f.row (in_from_stored c (replicas_of c id) f here).0).1 ∙ sym it.id_is

      abbrev thinned : Object
      thinned = record (object_of c it.row) { replicas = told_of c s it.row (filter (λ r. r.object == it.row.id) (without_rows c.replicas stored)) }

      grid_one : grid_of one ≡ record (grid_of c) { objects = put (grid_of c).objects p thinned }
      grid_one =
          grid-dropped c s it.row it.here stored of_it (told_of c s it.row (filter (λ r. r.object == it.row.id) (without_rows c.replicas stored))) refl
          ∙ ap (λ (q : Path). record (grid_of c) { objects = put (grid_of c).objects q thinned }) it.place

      paths_one : ◌≡◌ {A = ℕ → Option Path} (collection_path one) (collection_path c)
      paths_one = paths_same c one refl

      paths_two : ◌≡◌ {A = ℕ → Option Path} (collection_path two) (collection_path c)
      paths_two = paths_same c two refl

      grid_two : grid_of two ≡ forget (grid_of one) p
      grid_two =
          grid-forgotten one one_sound kind.Object id refl it.there p
          (ap (λ (paths : CollectionPaths). unwrap_or (option_map (object_place paths) (object c id)) []) paths_one ∙ ap (λ (o : Option ObjectRow). unwrap_or (option_map (object_place (collection_path c)) o) []) it.found ∙ it.place)

      grid_three : grid_of three ≡ after_grid
      grid_three =
          grid-without_object two two_sound id it.row it.found untold
          ∙ ap (λ (paths : CollectionPaths). record (grid_of two) { objects = remove (grid_of two).objects (object_place paths it.row) }) paths_two
          ∙ ap (λ (q : Path). record (grid_of two) { objects = remove (grid_of two).objects q }) it.place
          ∙ ap (λ (g : Grid). record g { objects = remove g.objects p }) (grid_two ∙ ap (λ (g : Grid). forget g p) grid_one)
          ∙ ap (λ (m : Map path_cmp Object). forget (record (grid_of c) { objects = m }) p) (remove-put path_cmp_total path_cmp-IsAntisymmetric (grid_of c).objects p thinned)

      other : grid_of three ≢ grid_of c
      other e = remove-there path_cmp_total path_cmp-IsAntisymmetric (grid_of c).objects p (ap is_some it.gives) (ap (λ (g : Grid). g.objects) (sym grid_three ∙ e))

      pub planned : (deltas : List Delta) → deltas ≡ all → IsTrue (list_all can_be_kept deltas) → Changes c u (rm p) deltas
      planned deltas deltas_are spelled = record {
        after = three;
        applied = ap (apply_all c) deltas_are ∙ applied;
        spelled = spelled;
        row_is = (λ i. tests (it.gives i) (allowed i) after_grid) ∙ ap (λ (g : Grid). Ok (changes g)) (sym grid_three);
        turns = turns;
        names = names_before c s stored held own three refl refl (λ leaf. refl);
        numbers = refl;
        pending = refl;
        rules = refl;
        stores = refl;
        still = inr other;
      }
