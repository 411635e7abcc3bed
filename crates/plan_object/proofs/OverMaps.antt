-- The replicas of an object that is written over: those that go, those that become stale, and those that come.
use Rattle.std.proofs.Common.{◌≡◌, ◌==◌, ◌⊎◌, ℕ, Bool, true, false, List, [], ◌∷◌, map, Option, Some, None, inl, inr, IsTrue, refl, sym, ap, ◌∙◌, subst, eqb-true, eq-eqb}
use Rattle.std.specs.Prelude.{not, ◌&&◌, find, is_some, option_map}
use Rattle.std.specs.List.{AllByRecursion, list_any}
use Rattle.std.specs.Ordering.{nat_cmp, eq_by_cmp}
use Rattle.std.specs.Cmp.{nat_cmp_total}
use Rattle.std.specs.FinMap.{nat_cmp-IsAntisymmetric}
use Rattle.std.proofs.lemmas.Bool.{and_from}
use Rattle.std.proofs.lemmas.Bool.Decides.{eqb_tells}
use Rattle.std.proofs.lemmas.List.{length-map}
use Rattle.grid_model.specs.Maps.{from_list, get, put, remove}
use Rattle.grid_model.specs.Digests.{Digest}
use Rattle.grid_model.specs.Grid.{Replica}
use Rattle.grid_model.specs.Trees.{Replicas}
use Rattle.grid_model.specs.Rows.{Cat, has_resource, replica_cmp, replicas_of}
use Rattle.grid_model.specs.RowGrids.{replica_of, resource_name}
use Rattle.grid_model.specs.Applying.{is_leaf}
use Rattle.grid_model.specs.Operations.Objects.{good_on_all, gone_stale}
use Rattle.grid_model.specs.declared.deltas.ReplicaRow.{ReplicaRow}
use Rattle.grid_model.proofs.Comparing.{eq_by_cmp-Decides}
use Rattle.grid_model.proofs.FoundRows.{is_some-find}
use Rattle.grid_model.proofs.MapLemmas.{same_map}
use Rattle.tables_laws.proofs.Rows.{IsIn, IsTable-filter, any_from_in, filter_from_in, find_from_in, in_from_all, in_from_filter, in_from_find}
use Rattle.tables_laws.proofs.Places.{resource_names_apart}
use Rattle.tables_laws.proofs.Rekeyed.{from_list-values}
use Rattle.tables_laws.proofs.Resources.{leaf_there}
use Rattle.tables_laws.proofs.Standing.{ReplicaStands}
use Rattle.tables_laws.proofs.TableMaps.{entries_of, get-rows}
use Rattle.tables_laws.proofs.Sound.{IsSound}
use Rattle.file_laws.specs.Puts.{Target}
use Rattle.file_laws.specs.Rewriting.{NumberedTarget, StoredReplica}
use Rattle.file_laws.proofs.Fewer.{same_row}
use Rattle.file_laws.proofs.Turning.{equal_key}
use Rattle.grid_access.proofs.MapEntries.{in_from_map, map_from_in}
use Rattle.grid_tree.proofs.Reachable.{in_from_append}
use Rattle.plan_base.proofs.Sizes.{Apart, apart_in_order, size-rows}
use Rattle.plan_object.specs.LeafNumbers.{leaf_number_of, with_numbers}
use Rattle.plan_object.specs.OverPlans.{outdated, replaced, replaced_by, slot_on}
use Rattle.plan_object.specs.PutPlans.{AreTargets, law_target}
use Rattle.plan_object.specs.declared.numbering.LeafNumber.{LeafNumber}
use Rattle.plan_object.specs.declared.placing.Target as rust
use Rattle.plan_object.proofs.GoodOn.{Stand, good_all, puts, puts_same}
use Rattle.plan_object.proofs.Leaves.{all_known, leaf_ids, lts, with_leaves-is}
use Rattle.plan_object.proofs.NumberMaps.{get_here, get_other, get_removed}
use Rattle.plan_object.proofs.Outdating.{stale, stales}
use Rattle.plan_object.proofs.Replacing.{removes}
use Rattle.plan_object.proofs.Taken.{AllTaken, AreOwn, all_taken, first_in, second_in, targets-with_numbers}

-- ---- which replicas are on a target

pub slot_there : (ts : List rust.Target) (leaf slot : ℕ) → slot_on ts leaf ≡ Some slot → (t : rust.Target) × IsIn ts t × (t.leaf ≡ leaf) × (t.slot ≡ slot)
slot_there ts leaf slot is = by (find (λ (t : rust.Target). t.leaf == leaf) ts) refl is
  where
    by : (o : Option rust.Target) → find (λ (t : rust.Target). t.leaf == leaf) ts ≡ o → option_map (λ (t : rust.Target). t.slot) o ≡ Some slot → (t : rust.Target) × IsIn ts t × (t.leaf ≡ leaf) × (t.slot ≡ slot)
    by None found e = absurd cc
    by (Some t) found e = let its = in_from_find (λ (t : rust.Target). t.leaf == leaf) ts t found in (t, its.0, eqb-true t.leaf leaf its.1, cc)

pub no_slot : (ts : List rust.Target) (leaf : ℕ) → slot_on ts leaf ≡ None → list_any (λ (t : rust.Target). t.leaf == leaf) ts ≡ false
no_slot ts leaf is = by (find (λ (t : rust.Target). t.leaf == leaf) ts) refl is
  where
    by : (o : Option rust.Target) → find (λ (t : rust.Target). t.leaf == leaf) ts ≡ o → option_map (λ (t : rust.Target). t.slot) o ≡ None → list_any (λ (t : rust.Target). t.leaf == leaf) ts ≡ false
    by None found e = sym (is_some-find (λ (t : rust.Target). t.leaf == leaf) ts) ∙ ap is_some found
    by (Some t) found e = absurd cc

-- a leaf of a target has a slot, and where none is the leaf there is none
pub slot_of_target : (ts : List rust.Target) (t : rust.Target) (leaf : ℕ) → IsIn ts t → t.leaf ≡ leaf → (slot : ℕ) × (slot_on ts leaf ≡ Some slot)
slot_of_target ts t leaf here is = by (slot_on ts leaf) refl
  where
    by : (o : Option ℕ) → slot_on ts leaf ≡ o → (slot : ℕ) × (slot_on ts leaf ≡ Some slot)
    by (Some slot) on = (slot, on)
    by None on =
        let none : list_any (λ (u : rust.Target). u.leaf == leaf) ts ≡ false = no_slot ts leaf on in
        let some : list_any (λ (u : rust.Target). u.leaf == leaf) ts ≡ true = any_from_in (λ (u : rust.Target). u.leaf == leaf) ts t here (eq-eqb t.leaf leaf is) in
        absurd cc

pub slot_none : (ts : List rust.Target) (leaf : ℕ) → list_any (λ (t : rust.Target). t.leaf == leaf) ts ≡ false → slot_on ts leaf ≡ None
slot_none ts leaf none = by (slot_on ts leaf) refl
  where
    by : (o : Option ℕ) → slot_on ts leaf ≡ o → slot_on ts leaf ≡ None
    by None on = on
    by (Some slot) on =
        let t = slot_there ts leaf slot on in
        let some : list_any (λ (u : rust.Target). u.leaf == leaf) ts ≡ true = any_from_in (λ (u : rust.Target). u.leaf == leaf) ts t.0 t.1 (eq-eqb t.0.leaf leaf t.2) in
        absurd cc

of_replaced : (r : ReplicaRow) (o : Option ℕ) (f : StoredReplica) → IsIn (replaced_by r o) f → (f.row ≡ r) × (o ≡ Some f.slot)
of_replaced r None f here = absurd here
of_replaced r (Some slot) f (inl is) = (ap (λ (g : StoredReplica). g.row) (sym is), ap (λ (g : StoredReplica). Some g.slot) is)
of_replaced r (Some slot) f (inr none) = absurd none

pub from_replaced : (ts : List rust.Target) (rows : List ReplicaRow) (f : StoredReplica) → IsIn (replaced ts rows) f → IsIn rows f.row × (slot_on ts f.row.leaf ≡ Some f.slot)
from_replaced ts [] f here = absurd here
from_replaced ts (r ∷ rows) f here = elim (in_from_append (replaced_by r (slot_on ts r.leaf)) (replaced ts rows) f here) [
  | inl first ↦ let its = of_replaced r (slot_on ts r.leaf) f first in (inl (sym its.0), ap (λ (x : ReplicaRow). slot_on ts x.leaf) its.0 ∙ its.1)
  | inr later ↦ let its = from_replaced ts rows f later in (inr its.0, its.1)
]

pub to_replaced : (ts : List rust.Target) (rows : List ReplicaRow) (r : ReplicaRow) (slot : ℕ) → IsIn rows r → slot_on ts r.leaf ≡ Some slot → IsIn (replaced ts rows) (record { row = r; slot = slot })
to_replaced ts [] r slot here is = absurd here
to_replaced ts (x ∷ rows) r slot (inl same) is =
    let its : slot_on ts x.leaf ≡ Some slot = ap (λ (y : ReplicaRow). slot_on ts y.leaf) same ∙ is in
    first_in (replaced_by x (slot_on ts x.leaf)) (replaced ts rows) (record { row = r; slot = slot })
    (subst (λ (o : Option ℕ). IsIn (replaced_by x o) (record { row = r; slot = slot })) (sym its) (inl (ap (λ (y : ReplicaRow). record { row = y; slot = slot }) same)))
to_replaced ts (x ∷ rows) r slot (inr later) is = second_in (replaced_by x (slot_on ts x.leaf)) (replaced ts rows) (record { row = r; slot = slot }) (to_replaced ts rows r slot later is)

-- ---- maps

removes_other : (stored : List StoredReplica) (rs : Replicas) (q : ℕ) → ((f : StoredReplica) → IsIn stored f → f.row.number ≡ q → ⊥) → get (removes rs stored) q ≡ get rs q
removes_other [] rs q none = refl
removes_other (f ∷ stored) rs q none =
    removes_other stored (remove rs f.row.number) q (λ g later. none g (inr later)) ∙ get_removed rs f.row.number q (λ same. none f (inl refl) (sym same))

module _ (c : Cat) where
  pub stales_other : (rows : List ReplicaRow) (rs : Replicas) (q : ℕ) → ((r : ReplicaRow) → IsIn rows r → r.number ≡ q → ⊥) → get (stales c rs rows) q ≡ get rs q
  stales_other [] rs q none = refl
  stales_other (r ∷ rows) rs q none =
      stales_other rows (put rs r.number (stale (replica_of c r))) q (λ x later. none x (inr later)) ∙ get_other rs r.number (stale (replica_of c r)) q (λ same. none r (inl refl) (sym same))

  pub stales_at : (rows : List ReplicaRow) (rs : Replicas) (r : ReplicaRow) → ((x : ReplicaRow) → IsIn rows x → x.number ≡ r.number → x ≡ r)
      → (get rs r.number ≡ Some (stale (replica_of c r))) ⊎ IsIn rows r → get (stales c rs rows) r.number ≡ Some (stale (replica_of c r))
  stales_at [] rs r alone (inl e) = e
  stales_at [] rs r alone (inr none) = absurd none
  stales_at (x ∷ rows) rs r alone has =
      stales_at rows (put rs x.number (stale (replica_of c x))) r (λ y later. alone y (inr later)) (elim (eqb_tells r.number x.number) [
        | inl is ↦
            inl (ap (get (put rs x.number (stale (replica_of c x)))) is.1 ∙ get_here rs x.number (stale (replica_of c x))
            ∙ ap (λ (y : ReplicaRow). Some (stale (replica_of c y))) (alone x (inl refl) (sym is.1)))
        | inr other ↦ elim has [
          | inl e ↦ inl (get_other rs x.number (stale (replica_of c x)) r.number other.1 ∙ e)
          | inr here ↦ elim here [ inl same ↦ absurd (other.1 (ap (λ (y : ReplicaRow). y.number) (sym same))) | inr later ↦ inr later ]
        ]
      ])

-- ---- an object's replicas

module _ (c : Cat) (s : IsSound c) (id : ℕ) where
  abbrev pub rows : List ReplicaRow
  rows = replicas_of c id

  -- as they are
  abbrev pub were : Replicas
  were = from_list (map (λ x. (x.number, replica_of c x)) rows)

  pub row_in : (r : ReplicaRow) → IsIn rows r → IsIn c.replicas r × (r.object ≡ id)
  row_in r here = let its = in_from_filter (λ (x : ReplicaRow). x.object == id) c.replicas r here in (its.0, eqb-true r.object id its.1)

  pub one_row : (x y : ReplicaRow) → IsIn rows x → IsIn rows y → x.number ≡ y.number → x ≡ y
  one_row x y here there same = let a = row_in x here in let b = row_in y there in same_row c s x y a.0 b.0 (a.1 ∙ sym b.1, same)

  pub rows_apart : Apart (λ (r : ReplicaRow). r.number) rows
  rows_apart =
      apart_in_order (λ (r : ReplicaRow). r.number) replica_cmp rows (IsTable-filter replica_cmp (λ _. true) (λ (r : ReplicaRow). r.object == id) c.replicas s.cat.replicas).ordered
      (λ x y here there same. equal_key x y ((row_in x here).1 ∙ sym (row_in y there).1) (sym same))

  pub tied : (a b : ℕ) → eq_by_cmp nat_cmp a b ≡ true → a ≡ b
  tied a b e = (eq_by_cmp-Decides nat_cmp_total nat_cmp-IsAntisymmetric a b).0 e

  pub at_number : (r : ReplicaRow) → IsIn rows r → find (λ (x : ReplicaRow). eq_by_cmp nat_cmp x.number r.number) rows ≡ Some r
  at_number r here =
      find_from_in (λ (x : ReplicaRow). eq_by_cmp nat_cmp x.number r.number) rows r here ((eq_by_cmp-Decides nat_cmp_total nat_cmp-IsAntisymmetric r.number r.number).1 refl)
      (λ x there passes. one_row x r there here (tied x.number r.number passes))

  -- as they are once all are stale
  abbrev as_stale : ReplicaRow → Replica
  as_stale r = stale (replica_of c r)

  abbrev all_stale : Replicas
  all_stale = from_list (entries_of (λ (x : ReplicaRow). x.number) as_stale rows)

  stale_is : all_stale ≡ gone_stale were
  stale_is = from_list-values nat_cmp_total nat_cmp-IsAntisymmetric (λ (x : ReplicaRow). x.number) (replica_of c) as_stale stale rows (λ x here. refl) one_row

  pub get_were : (q : ℕ) → get were q ≡ option_map (replica_of c) (find (λ (x : ReplicaRow). eq_by_cmp nat_cmp x.number q) rows)
  get_were q = get-rows nat_cmp_total (λ (x : ReplicaRow). x.number) (replica_of c) rows q

  get_stale : (q : ℕ) → get all_stale q ≡ option_map as_stale (find (λ (x : ReplicaRow). eq_by_cmp nat_cmp x.number q) rows)
  get_stale q = get-rows nat_cmp_total (λ (x : ReplicaRow). x.number) as_stale rows q

  -- ---- their numbers

  abbrev pub numbers : List LeafNumber
  numbers = map leaf_number_of rows

  pub number_in : (r : ReplicaRow) → IsIn rows r → IsIn numbers (leaf_number_of r)
  number_in r here = map_from_in leaf_number_of rows r here

  pub numbers_own : AreOwn numbers
  numbers_own = record {
    leaves = λ x y here there same.
        let a = in_from_map leaf_number_of rows x here in
        let b = in_from_map leaf_number_of rows y there in
        let a_in = row_in a.0 a.1 in
        let b_in = row_in b.0 b.1 in
        let leaf : a.0.leaf ≡ b.0.leaf = ap (λ (z : LeafNumber). z.leaf) a.2 ∙ same ∙ ap (λ (z : LeafNumber). z.leaf) (sym b.2) in
        sym a.2 ∙ ap leaf_number_of (one_row a.0 b.0 a.1 b.1 (s.vaults.leaves b.0 a.0 b_in.0 a_in.0 (a_in.1 ∙ sym b_in.1) leaf)) ∙ b.2;
    numbers = λ x y here there same.
        let a = in_from_map leaf_number_of rows x here in
        let b = in_from_map leaf_number_of rows y there in
        let number : a.0.number ≡ b.0.number = ap (λ (z : LeafNumber). z.number) a.2 ∙ same ∙ ap (λ (z : LeafNumber). z.number) (sym b.2) in
        sym a.2 ∙ ap leaf_number_of (one_row a.0 b.0 a.1 b.1 number) ∙ b.2;
  }

  known_leaf : (r : ReplicaRow) → IsIn rows r → has_resource c r.leaf ≡ true
  known_leaf r here = leaf_there c r.leaf (in_from_all (ReplicaStands c) c.replicas s.tied.replicas r (row_in r here).0).1

  module _ (len : ℕ) (digest : Digest) where
    abbrev IsThere : ℕ → Type 0
    IsThere id = has_resource c id ≡ true

    -- whatever becomes of them, if they stay on their leaves
    stand_as : (value : ReplicaRow → Replica) → ((r : ReplicaRow) → (value r).leaf ≡ resource_name c r.leaf)
        → Stand len digest (resource_name c) IsThere (resource_names_apart c s) (from_list (entries_of (λ (x : ReplicaRow). x.number) value rows)) numbers
    stand_as value leaf_is = record {
      at = λ n here.
          let r = in_from_map leaf_number_of rows n here in
          (value r.0, ap (λ (z : LeafNumber). get there z.number) (sym r.2) ∙ get_there r.0.number ∙ ap (option_map value) (at_number r.0 r.1), leaf_is r.0 ∙ ap (λ (z : LeafNumber). resource_name c z.leaf) r.2);
      from = λ q x e. from q x (find (λ (r : ReplicaRow). eq_by_cmp nat_cmp r.number q) rows) refl (sym (get_there q) ∙ e);
      count =
          size-rows nat_cmp_total nat_cmp-IsAntisymmetric (λ (x : ReplicaRow). x.number) value rows rows_apart ∙ sym (length-map rows leaf_number_of);
      own = numbers_own;
      all = λ n here. let r = in_from_map leaf_number_of rows n here in ap (λ (z : LeafNumber). has_resource c z.leaf) (sym r.2) ∙ known_leaf r.0 r.1;
    }
      where
        there : Replicas
        there = from_list (entries_of (λ (x : ReplicaRow). x.number) value rows)

        get_there : (q : ℕ) → get there q ≡ option_map value (find (λ (x : ReplicaRow). eq_by_cmp nat_cmp x.number q) rows)
        get_there q = get-rows nat_cmp_total (λ (x : ReplicaRow). x.number) value rows q

        from : (q : ℕ) (x : Replica) (o : Option ReplicaRow) → find (λ (r : ReplicaRow). eq_by_cmp nat_cmp r.number q) rows ≡ o → option_map value o ≡ Some x
            → (n : LeafNumber) × IsIn numbers n × (n.number ≡ q) × (x.leaf ≡ resource_name c n.leaf)
        from q x None is e = absurd cc
        from q x (Some r) is e =
            let its = in_from_find (λ (y : ReplicaRow). eq_by_cmp nat_cmp y.number q) rows r is in
            let same : value r ≡ x = cc in
            (leaf_number_of r, number_in r its.0, tied r.number q its.1, ap (λ (y : Replica). y.leaf) (sym same) ∙ leaf_is r)

    stand : Stand len digest (resource_name c) IsThere (resource_names_apart c s) (gone_stale were) numbers
    stand = subst (λ (m : Replicas). Stand len digest (resource_name c) IsThere (resource_names_apart c s) m numbers) stale_is (stand_as as_stale (λ r. refl))

    stand_were : Stand len digest (resource_name c) IsThere (resource_names_apart c s) were numbers
    stand_were = stand_as (replica_of c) (λ r. refl)

    -- ---- the targets

    module _ (leaves : List ℕ) (all : AllByRecursion (λ id. IsTrue (is_leaf c id)) leaves) (ts : List rust.Target) (are : AreTargets c leaves ts) where
      abbrev its : List Target
      its = lts c s leaves all ts are

      abbrev pub nts : List NumberedTarget
      nts = with_numbers numbers its

      last : AllTaken numbers its
      last = all_taken its numbers numbers_own

      -- the number of a replica on a target is that of the target
      pub taken_over : (r : ReplicaRow) → IsIn rows r → (slot : ℕ) → slot_on ts r.leaf ≡ Some slot → (u : NumberedTarget) × IsIn nts u × (u.number ≡ r.number)
      taken_over r here slot is =
          let t = slot_there ts r.leaf slot is in
          let there : IsIn its (law_target t.0) = map_from_in law_target ts t.0 t.1 in
          let u = in_from_map (λ (w : NumberedTarget). w.target) nts (law_target t.0) (subst (λ (us : List Target). IsIn us (law_target t.0)) (sym (targets-with_numbers its numbers)) there) in
          let x = last.at u.0 u.1 in
          let one : x.0 ≡ leaf_number_of r = last.own.leaves x.0 (leaf_number_of r) x.1 (last.stays (leaf_number_of r) (number_in r here)) (x.2 ∙ ap (λ (w : Target). w.leaf) u.2 ∙ t.2) in
          (u.0, u.1, sym x.3 ∙ ap (λ (z : LeafNumber). z.number) one)

      -- no target has the number of one that stays
      pub other_number : (r : ReplicaRow) → IsIn rows r → slot_on ts r.leaf ≡ None → (u : NumberedTarget) → IsIn nts u → u.number ≡ r.number → ⊥
      other_number r here none u there same =
          let x = last.at u there in
          let one : x.0 ≡ leaf_number_of r = last.own.numbers x.0 (leaf_number_of r) x.1 (last.stays (leaf_number_of r) (number_in r here)) (x.3 ∙ same) in
          let t = in_from_map law_target ts u.target (subst (λ (us : List Target). IsIn us u.target) (targets-with_numbers its numbers) (map_from_in (λ (w : NumberedTarget). w.target) nts u there)) in
          let leaf : t.0.leaf ≡ r.leaf = ap (λ (w : Target). w.leaf) t.2 ∙ sym x.2 ∙ ap (λ (z : LeafNumber). z.leaf) one in
          let on = slot_of_target ts t.0 r.leaf t.1 leaf in
          let wrong : None ≡ Some on.0 = sym none ∙ on.1 in
          cc

      -- ---- once some went and the others are stale

      abbrev pub remaining : Replicas
      remaining = stales c (removes were (replaced ts rows)) (outdated ts rows)

      same_number : (q : ℕ) → ((u : NumberedTarget) → IsIn nts u → u.number ≡ q → ⊥) → get remaining q ≡ get (gone_stale were) q
      same_number q none = by (find (λ (x : ReplicaRow). eq_by_cmp nat_cmp x.number q) rows) refl ∙ ap (λ (m : Replicas). get m q) stale_is
        where
          out_in : (r : ReplicaRow) → IsIn (outdated ts rows) r → IsIn rows r
          out_in r here = (in_from_filter (λ (x : ReplicaRow). x.good && not (list_any (λ (t : rust.Target). t.leaf == x.leaf) ts)) rows r here).0

          by : (o : Option ReplicaRow) → find (λ (x : ReplicaRow). eq_by_cmp nat_cmp x.number q) rows ≡ o → get remaining q ≡ get all_stale q
          by None is =
              let no_row : (r : ReplicaRow) → IsIn rows r → r.number ≡ q → ⊥ = λ r here same. (
              let found : None ≡ Some r = sym is ∙ ap (λ k. find (λ (x : ReplicaRow). eq_by_cmp nat_cmp x.number k) rows) (sym same) ∙ at_number r here in cc) in
              stales_other c (outdated ts rows) (removes were (replaced ts rows)) q (λ r here. no_row r (out_in r here))
              ∙ removes_other (replaced ts rows) were q (λ f here. no_row f.row (from_replaced ts rows f here).0)
              ∙ get_were q ∙ ap (option_map (replica_of c)) is ∙ sym (get_stale q ∙ ap (option_map as_stale) is)
          by (Some r) is =
              let found = in_from_find (λ (x : ReplicaRow). eq_by_cmp nat_cmp x.number q) rows r is in
              let number : r.number ≡ q = tied r.number q found.1 in
              ap (get remaining) (sym number) ∙ kept r found.0 number (slot_on ts r.leaf) refl ∙ sym (get_stale q ∙ ap (option_map as_stale) is)
            where
              kept : (r : ReplicaRow) → IsIn rows r → r.number ≡ q → (o : Option ℕ) → slot_on ts r.leaf ≡ o → get remaining r.number ≡ Some (as_stale r)
              kept r here number (Some slot) on = let u = taken_over r here slot on in absurd (none u.0 u.1 (u.2 ∙ number))
              kept r here number None on =
                  stales_at c (outdated ts rows) (removes were (replaced ts rows)) r (λ x there same. one_row x r (out_in x there) here same) (by_good r.good refl)
                where
                  still : get (removes were (replaced ts rows)) r.number ≡ Some (replica_of c r)
                  still =
                      removes_other (replaced ts rows) were r.number (λ f there same.
                      let its_row = from_replaced ts rows f there in
                      let one : f.row ≡ r = one_row f.row r its_row.0 here same in
                      let wrong : None ≡ Some f.slot = sym on ∙ ap (λ (x : ReplicaRow). slot_on ts x.leaf) (sym one) ∙ its_row.1 in
                      cc)
                      ∙ get_were r.number ∙ ap (option_map (replica_of c)) (at_number r here)

                  by_good : (b : Bool) → r.good ≡ b → (get (removes were (replaced ts rows)) r.number ≡ Some (as_stale r)) ⊎ IsIn (outdated ts rows) r
                  by_good true good =
                      inr (filter_from_in (λ (x : ReplicaRow). x.good && not (list_any (λ (t : rust.Target). t.leaf == x.leaf) ts)) rows r here
                      (and_from r.good (not (list_any (λ (t : rust.Target). t.leaf == r.leaf) ts)) good (ap not (no_slot ts r.leaf on))))
                  by_good false bad = inl (still ∙ ap (λ b. Some (record (replica_of c r) { good = b })) bad)

      -- and then the new ones come
      pub written_is : puts len digest (resource_name c) remaining nts ≡ good_on_all len digest (gone_stale were) (map (resource_name c) leaves)
      written_is =
          same_map nat_cmp_total nat_cmp-IsAntisymmetric (puts len digest (resource_name c) remaining nts) (puts len digest (resource_name c) (gone_stale were) nts)
          (λ q. puts_same len digest (resource_name c) nts remaining (gone_stale were) same_number q)
          ∙ sym (good_all len digest (resource_name c) IsThere (resource_names_apart c s) leaves (gone_stale were) numbers its stand (all_known c s leaves all ts are leaves all)
          (leaf_ids c s leaves all ts are ∙ with_leaves-is [] leaves))

      -- ---- once some went and new ones come, where the others stay as they are

      other_numbers : (q : ℕ) → ((u : NumberedTarget) → IsIn nts u → u.number ≡ q → ⊥) → get (removes were (replaced ts rows)) q ≡ get were q
      other_numbers q none = removes_other (replaced ts rows) were q (λ f there same.
          let its_row = from_replaced ts rows f there in
          let u = taken_over f.row its_row.0 f.slot its_row.1 in
          none u.0 u.1 (u.2 ∙ same))

      pub copied_is : puts len digest (resource_name c) (removes were (replaced ts rows)) nts ≡ good_on_all len digest were (map (resource_name c) leaves)
      copied_is =
          same_map nat_cmp_total nat_cmp-IsAntisymmetric (puts len digest (resource_name c) (removes were (replaced ts rows)) nts) (puts len digest (resource_name c) were nts)
          (λ q. puts_same len digest (resource_name c) nts (removes were (replaced ts rows)) were other_numbers q)
          ∙ sym (good_all len digest (resource_name c) IsThere (resource_names_apart c s) leaves were numbers its stand_were (all_known c s leaves all ts are leaves all)
          (leaf_ids c s leaves all ts are ∙ with_leaves-is [] leaves))
