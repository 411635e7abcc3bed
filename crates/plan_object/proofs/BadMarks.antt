-- The plan of a chksum makes of the grid what the chksum is: those that were found bad are stale.
use Rattle.std.proofs.Common.{◌≡◌, ◌==◌, ℕ, ◌+◌, ◌<◌, false, true, Bool, List, [], ◌∷◌, map, Option, Some, None, Ok, Err, inr, IsTrue, refl, sym, ap, ◌∙◌, subst, arith, eqb-true}
use Rattle.std.specs.Prelude.{◌&&◌, ◌||◌, not, find, option_map, unwrap_or, ⊤}
use Rattle.std.specs.List.{Contains, list_all}
use Rattle.std.specs.Ordering.{nat_cmp, eq_by_cmp}
use Rattle.std.specs.Cmp.{nat_cmp_total}
use Rattle.std.specs.FinMap.{nat_cmp-IsAntisymmetric}
use Rattle.grid_model.specs.Maps.{from_list, get, put}
use Rattle.grid_model.specs.Names.{Text, Path}
use Rattle.grid_model.specs.Grid.{Grid, Object, Replica}
use Rattle.grid_model.specs.Refusing.{Or, ◌>>=◌}
use Rattle.grid_model.specs.Trees.{Replicas, readable}
use Rattle.grid_model.specs.Rows.{Cat, object, replicas_of}
use Rattle.grid_model.specs.RowPaths.{collection_path, object_at}
use Rattle.grid_model.specs.RowGrids.{grid_of, object_of, object_place, replica_of}
use Rattle.grid_model.specs.Applying.{IsMade, apply_all}
use Rattle.grid_model.specs.Whole.{leaf_slot, Naming, by_orphan, by_replica, Names}
use Rattle.grid_model.specs.Deeds.{Act, Deed, deed, is_among}
use Rattle.grid_model.specs.Operations.Common.{needs}
use Rattle.grid_model.specs.Operations.Replicas.{Source, chksum_row, first_of, is_named, marked_bad, with_replicas}
use Rattle.grid_model.specs.declared.deltas.Delta.{Delta}
use Rattle.grid_model.specs.declared.deltas.Item.TheVariants as item
use Rattle.grid_model.specs.declared.deltas.ObjectRow.{ObjectRow}
use Rattle.grid_model.specs.declared.deltas.ReplicaRow.{ReplicaRow}
use Rattle.grid_model.specs.declared.grid.Level.TheVariants.{Write}
use Rattle.grid_model.specs.declared.marks.BadReplica.{BadReplica}
use Rattle.grid_model.specs.declared.plans.OldFile.{OldFile}
use Rattle.grid_model.specs.declared.refusal.Refusal.TheVariants.{NoObject}
use Rattle.grid_model.proofs.Comparing.{path_cmp_total, path_cmp-IsAntisymmetric}
use Rattle.grid_model.proofs.MapLemmas.{same_map}
use Rattle.grid_journal.specs.Journal.{can_be_kept}
use Rattle.tables_laws.proofs.LookUps.{get-object_at}
use Rattle.tables_laws.proofs.Rows.{IsIn, all_from_in, filter_from_in, in_from_filter, in_from_find}
use Rattle.tables_laws.proofs.Sound.{IsSound}
use Rattle.tables_laws.proofs.TableMaps.{entries_of, get-rows}
use Rattle.file_laws.specs.Plans.{Turns}
use Rattle.file_laws.specs.Rewriting.{replicas_staled}
use Rattle.file_laws.proofs.Members.{contains_of, in_of}
use Rattle.file_laws.proofs.Publics.{staled_turns}
use Rattle.grid_tree.proofs.Candidates.{replicas-entries, told}
use Rattle.plan_base.proofs.AtPaths.{placed, sound_of}
use Rattle.plan_object.specs.ChksumPlans.{MarksBad, MayChksum, named_bad}
use Rattle.plan_object.specs.Writing.{Draws}
use Rattle.plan_object.proofs.AllowedRows.{none_allowed, row_at, tests}
use Rattle.plan_object.proofs.ChksumRows.{chksum_deed, sum_tests}
use Rattle.plan_object.proofs.NumberMaps.{put_itself}
use Rattle.plan_object.proofs.ObjectGrids.{HasIt}
use Rattle.plan_object.proofs.Outdating.{MayStale, Outdated, stale_all, stales}
use Rattle.plan_object.proofs.OverMaps.{at_number, get_were, one_row, row_in, rows_apart, stales_at, stales_other, tied, were}
use Rattle.plan_object.proofs.PutOver.{apart_filter}

-- ---- which are bad

stays_good : (good bad : Bool) → (good && bad) ≡ false → good ≡ (good && not bad)
stays_good true true e = absurd cc
stays_good true false e = refl
stays_good false bad e = refl

goes_stale : (good bad : Bool) → (good && bad) ≡ true → false ≡ (good && not bad)
goes_stale true true e = refl
goes_stale true false e = absurd cc
goes_stale false bad e = absurd cc

-- by their numbers
named_so : (found : List BadReplica) (n : ℕ) → is_among (map (λ (b : BadReplica). b.number) found) n ≡ is_named found n
named_so [] n = refl
named_so (b ∷ found) n = ap (λ t. (b.number == n) || t) (named_so found n)

module _ (c : Cat) (made : IsMade c) (p : Path) (id : ℕ) (at : object_at c p ≡ Some id) (old : ObjectRow) (found : object c id ≡ Some old) (numbers : List ℕ) where
  abbrev s : IsSound c
  s = sound_of c made

  abbrev g : Grid
  g = grid_of c

  abbrev rows : List ReplicaRow
  rows = replicas_of c old.id

  abbrev bad_rows : List ReplicaRow
  bad_rows = named_bad numbers rows

  abbrev is_bad : ReplicaRow → Bool
  is_bad r = r.good && is_among numbers r.number

  bad_in : (r : ReplicaRow) → IsIn bad_rows r → IsIn rows r
  bad_in r here = (in_from_filter is_bad rows r here).0

  -- ---- the catalogue

  id_is : old.id ≡ id
  id_is = eqb-true old.id id (in_from_find (λ (x : ObjectRow). x.id == id) c.objects old found).1

  has : HasIt old c g p (were c s old.id)
  has = record {
    sound = s;
    found = ap (object c) id_is ∙ found;
    place = sym (ap (λ (f : Option ObjectRow). unwrap_or (option_map (object_place (collection_path c)) f) []) found) ∙ (placed c made p (item.Object id) at).place;
    grid = ap (λ m. record g { objects = m }) (sym (put_itself path_cmp_total path_cmp-IsAntisymmetric g.objects p (object_of c old) (get-object_at c s p id old at found)));
  }

  may_stale : MayStale old c bad_rows
  may_stale = record { sound = s; each = λ r which. row_in c s old.id r (bad_in r which); own = apart_filter is_bad rows (rows_apart c s old.id) }

  abbrev outworn : Outdated old c bad_rows
  outworn = stale_all old bad_rows c may_stale

  abbrev end : Cat
  end = record c { replicas = outworn.replicas }

  turns : Turns [] [] c end
  turns =
      staled_turns made.0 [] [] bad_rows c end made.1 (all_from_in (λ (r : ReplicaRow). Contains c.replicas r) bad_rows (λ r which. contains_of c.replicas r (row_in c s old.id r (bad_in r which)).0)) outworn.applied

  drawn : Draws c 0 end
  drawn = record { numbers = λ i. record c.numbers { next_vault = same i }; names = names; pending = refl; rules = refl; stores = refl }
    where
      same : c.numbers.next_vault ≡ c.numbers.next_vault + 0
      same = omega arith

      names : (slot name : ℕ) (n : Naming) → name < c.numbers.next_vault → Names end slot name n → (was : Naming) × Names c slot name was
      names slot name (by_replica y) low n =
          let its = outworn.from y (in_of end.replicas y n.0) in
          (by_replica its.row, (contains_of c.replicas its.row its.there, its.vault_is ∙ n.1, ap (leaf_slot c) its.leaf_is ∙ n.2))
      names slot name (by_orphan x) low n = (by_orphan x, n)

  -- ---- the grid

  module _ (marks : List BadReplica) (are : map (λ (b : BadReplica). b.number) marks ≡ numbers) where
    abbrev value : ReplicaRow → Replica
    value r = record (replica_of c r) { good = r.good && not (is_named marks r.number) }

    abbrev marked : ℕ × Replica → ℕ × Replica
    marked e = (e.0, record e.1 { good = e.1.good && not (is_named marks e.0) })

    named_is : (r : ReplicaRow) → is_among numbers r.number ≡ is_named marks r.number
    named_is r = ap (λ ns. is_among ns r.number) (sym are) ∙ named_so marks r.number

    told_so : (xs : List ReplicaRow) → map marked (map (told c) xs) ≡ entries_of (λ (x : ReplicaRow). x.number) value xs
    told_so [] = refl
    told_so (x ∷ xs) = ap (λ es. (x.number, value x) ∷ es) (told_so xs)

    abbrev by_rows : Replicas
    by_rows = from_list (entries_of (λ (x : ReplicaRow). x.number) value rows)

    marked_is : by_rows ≡ marked_bad (object_of c old).replicas marks
    marked_is = ap from_list (sym (told_so rows) ∙ ap (map marked) (sym (replicas-entries c s old)))

    at_row : (r : ReplicaRow) → IsIn rows r → get (stales c (were c s old.id) bad_rows) r.number ≡ Some (value r)
    at_row r here = by (is_bad r) refl
      where
        by : (b : Bool) → is_bad r ≡ b → get (stales c (were c s old.id) bad_rows) r.number ≡ Some (value r)
        by true is =
            stales_at c bad_rows (were c s old.id) r (λ x there same. one_row c s old.id x r (bad_in x there) here same) (inr (filter_from_in is_bad rows r here is))
            ∙ ap (λ t. Some (record (replica_of c r) { good = t })) (goes_stale r.good (is_named marks r.number) (ap (λ t. r.good && t) (sym (named_is r)) ∙ is))
        by false is =
            stales_other c bad_rows (were c s old.id) r.number (λ x there same.
            let one : x ≡ r = one_row c s old.id x r (bad_in x there) here same in
            let wrong : is_bad r ≡ true = ap is_bad (sym one) ∙ (in_from_filter is_bad rows x there).1 in
            cc)
            ∙ get_were c s old.id r.number ∙ ap (option_map (replica_of c)) (at_number c s old.id r here)
            ∙ ap (λ t. Some (record (replica_of c r) { good = t })) (stays_good r.good (is_named marks r.number) (ap (λ t. r.good && t) (sym (named_is r)) ∙ is))

    same_at : (q : ℕ) → get (stales c (were c s old.id) bad_rows) q ≡ get by_rows q
    same_at q = by (find (λ (x : ReplicaRow). eq_by_cmp nat_cmp x.number q) rows) refl ∙ sym (get-rows nat_cmp_total (λ (x : ReplicaRow). x.number) value rows q)
      where
        by : (o : Option ReplicaRow) → find (λ (x : ReplicaRow). eq_by_cmp nat_cmp x.number q) rows ≡ o
            → get (stales c (were c s old.id) bad_rows) q ≡ option_map value (find (λ (x : ReplicaRow). eq_by_cmp nat_cmp x.number q) rows)
        by None is =
            stales_other c bad_rows (were c s old.id) q (λ r there same.
            let wrong : None ≡ Some r = sym is ∙ ap (λ k. find (λ (x : ReplicaRow). eq_by_cmp nat_cmp x.number k) rows) (sym same) ∙ at_number c s old.id r (bad_in r there) in
            cc)
            ∙ get_were c s old.id q ∙ ap (option_map (replica_of c)) is ∙ sym (ap (option_map value) is)
        by (Some r) is =
            let its = in_from_find (λ (x : ReplicaRow). eq_by_cmp nat_cmp x.number q) rows r is in
            ap (get (stales c (were c s old.id) bad_rows)) (sym (tied c s old.id r.number q its.1)) ∙ at_row r its.0 ∙ sym (ap (option_map value) is)

    stale_is : stales c (were c s old.id) bad_rows ≡ marked_bad (object_of c old).replicas marks
    stale_is = same_map nat_cmp_total nat_cmp-IsAntisymmetric (stales c (were c s old.id) bad_rows) by_rows same_at ∙ marked_is

    ran : grid_of end ≡ with_replicas g p (object_of c old) (marked_bad (object_of c old).replicas marks)
    ran = (outworn.grid g p (were c s old.id) has).grid ∙ (λ i. record g {
      objects = put g.objects p (record { size = old.size; digest = old.digest; time = old.time; replicas = stale_is i });
    })

    pub marks_bad : (changes : List Delta) → changes ≡ replicas_staled bad_rows → IsTrue (list_all can_be_kept changes)
        → MarksBad c (with_replicas g p (object_of c old) (marked_bad (object_of c old).replicas marks)) changes
    marks_bad changes is spelled = record { end = end; applied = ap (apply_all c) is ∙ outworn.applied; spelled = spelled; grid = ran; turns = turns; drawn = drawn }

-- ---- the deed

module _ (c : Cat) (made : IsMade c) (user : Text) (p : Path) (files : List OldFile) (may : MayChksum c user p files) where
  abbrev rest : Object → Or Act
  rest o = sum_tests c user p (first_of (grid_of c) o (readable (grid_of c).resources o)) o

  -- the object is there
  pub sums_object : None ≡ object_at c p → ⊥
  sums_object none = let wrong : Ok (deed may.of) ≡ Err NoObject = sym may.row_is ∙ none_allowed c made user p Write none rest in cc

  module _ (id : ℕ) (at : Some id ≡ object_at c p) where
    its_row : (o : ObjectRow) × (object c id ≡ Some o)
    its_row = row_at c made user p Write id at

    abbrev o : Object
    o = object_of c its_row.0

    deed_is : chksum_deed c user p o ≡ may.of
    deed_is = by (needs (grid_of c) user p Write) (first_of (grid_of c) o (readable (grid_of c).resources o)) (sym to_row ∙ may.row_is)
      where
        to_row : chksum_row (grid_of c) user p ≡ needs (grid_of c) user p Write >>= (λ _. rest o)
        to_row = ap (λ x. tests c made user p Write rest x (needs (grid_of c) user p Write)) (get-object_at c (sound_of c made) p id its_row.0 (sym at) its_row.1)

        by : (allowed : Or ⊤) (first : Or Source) → allowed >>= (λ _. sum_tests c user p first o) ≡ Ok (deed may.of) → chksum_deed c user p o ≡ may.of
        by (Ok x) (Ok from) e = cc
        by (Ok x) (Err r) e = absurd cc
        by (Err r) first e = absurd cc

    pub planned_sums : (word now : ℕ) (found : List BadReplica) (numbers : List ℕ) → map (λ (b : BadReplica). b.number) found ≡ numbers → (changes : List Delta) → changes ≡ replicas_staled (named_bad numbers (replicas_of c id))
        → IsTrue (list_all can_be_kept changes) → MarksBad c (may.of.ran word now found) changes
    planned_sums word now found numbers are changes is spelled =
        subst (λ (d : Deed). MarksBad c (d.ran word now found) changes) deed_is
        (marks_bad c made p id (sym at) its_row.0 its_row.1 numbers found are changes (is ∙ ap (λ n. replicas_staled (named_bad numbers (replicas_of c n))) (sym same_id)) spelled)
      where
        same_id : its_row.0.id ≡ id
        same_id = eqb-true its_row.0.id id (in_from_find (λ (x : ObjectRow). x.id == id) c.objects its_row.0 its_row.1).1
