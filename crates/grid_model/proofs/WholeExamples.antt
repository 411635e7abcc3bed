-- What files are to a catalogue, on worked examples.
use Rattle.std.proofs.Common.{◌≡◌, ℕ, zero, suc, true, false, List, [], ◌∷◌, length, Option, Some, slice_index_or, refl, sym, ap, ◌∙◌, ◌<◌, arith}
use Rattle.std.specs.List.{Contains}
use Rattle.sha2.specs.Sha256.{sha256}
use Rattle.grid_outside.specs.Files.{File, Files, file_at, unfinished, finished}
use Rattle.grid_model.specs.Rows.{Cat, empty_cat}
use Rattle.grid_model.specs.Whole.{leaf_slot, HasGoodRows, IsWhole, Naming, by_replica, by_orphan, Names}
use Rattle.grid_model.specs.declared.deltas.ObjectRow.{ObjectRow}
use Rattle.grid_model.specs.declared.deltas.ReplicaRow.{ReplicaRow}
use Rattle.grid_model.specs.declared.deltas.OrphanRow.{OrphanRow}
use Rattle.grid_model.specs.declared.deltas.ResourceRow.{ResourceRow}
use Rattle.grid_model.specs.declared.grid.ResourceKind.TheVariants.{Storage}

-- three bytes
abbrev abc : List ℕ
abc = 97 ∷ 98 ∷ 99 ∷ []

-- an object of these on the leaf 1 of the first store, under the number 1, and an orphan of the number 2 in the second
abbrev leaf : ResourceRow
leaf = record { id = 1; name = []; kind = Storage; slot = 0; up = true; parent = 0; place = 0 }

abbrev object_row : ObjectRow
object_row = record { id = 5; collection = 3; name = []; size = 3; digest = sha256 abc; time = 1000 }

abbrev replica_row : ReplicaRow
replica_row = record { object = 5; number = 0; leaf = 1; good = true; size = 3; digest = sha256 abc; vault = 1 }

abbrev orphan_row : OrphanRow
orphan_row = record { vault = 2; slot = 1 }

abbrev cat : Cat
cat = record empty_cat { objects = object_row ∷ []; replicas = replica_row ∷ []; resources = leaf ∷ []; orphans = orphan_row ∷ [] }

good_rows : HasGoodRows cat
good_rows = (λ good. record { row = object_row; there = refl; size = refl; digest = refl }, tt)

-- the only row of a table of one
one_of : {X : Type 0} (r x : X) → Contains (r ∷ []) x → r ≡ x
one_of r x has = by_place has.0 has.1 has.2
  where
    by_place : (k : ℕ) → k < length (r ∷ []) → slice_index_or (r ∷ []) k x ≡ x → r ≡ x
    by_place zero within is = is
    by_place (suc k) within is = absurd (omega (arith, within))

-- the first store has the file of the replica, finished
a_whole_store : (files : Files) → file_at files 1 ≡ finished abc → ((name : ℕ) (file : File) → file_at files name ≡ Some file → name ≡ 1) → IsWhole cat 0 files
a_whole_store files there only = record {
  good = ((λ good at. record { bytes = abc; is = there; has = record { size = refl; digest = refl } }), tt);
  accounted = λ name file is. record {
    row = by_replica replica_row;
    names = ((0, omega arith, refl), sym (only name file is), refl);
    only = λ x n. by_row name (only name file is) x n;
  };
}
  where
    by_row : (name : ℕ) → name ≡ 1 → (x : Naming) → Names cat 0 name x → x ≡ by_replica replica_row
    by_row name is (by_replica r) n = ap by_replica (sym (one_of replica_row r n.0))
    by_row name is (by_orphan o) n = let slot : 1 ≡ 0 = ap (λ (o : OrphanRow). o.slot) (one_of orphan_row o n.0) ∙ n.2 in absurd (omega (arith, slot))

of_some : (a b : File) → ◌≡◌ {A = Option File} (Some a) (Some b) → a ≡ b
of_some a b e = cc

-- it has the file and has not finished it
a_file_that_is_not_finished : (files : Files) → file_at files 1 ≡ unfinished abc → ¬ IsWhole cat 0 files
a_file_that_is_not_finished files there whole =
    let its = whole.good.0 refl refl in
    let both : unfinished abc ≡ finished its.bytes = sym there ∙ its.is in
    let same : record { bytes = abc; finished = false } ≡ record { bytes = its.bytes; finished = true } = of_some (record { bytes = abc; finished = false }) (record { bytes = its.bytes; finished = true }) both in
    let wrong : false ≡ true = ap (λ (f : File). f.finished) same in
    absurd (cc)

-- it has other bytes, finished
a_file_with_other_bytes : (files : Files) → file_at files 1 ≡ finished [] → ¬ IsWhole cat 0 files
a_file_with_other_bytes files there whole =
    let its = whole.good.0 refl refl in
    let both : finished [] ≡ finished its.bytes = sym there ∙ its.is in
    let none : [] ≡ its.bytes = ap (λ (f : File). f.bytes) (of_some (record { bytes = []; finished = true }) (record { bytes = its.bytes; finished = true }) both) in
    absurd (omega (arith, ap length none, its.has.size))

-- it has a file that no row names: that of the orphan belongs to the second store
a_file_that_nothing_names : (files : Files) (file : File) → file_at files 2 ≡ Some file → ¬ IsWhole cat 0 files
a_file_that_nothing_names files file there whole = let named = whole.accounted 2 file there in by_row named.row named.names
  where
    by_row : (x : Naming) → Names cat 0 2 x → ⊥
    by_row (by_replica r) n = let vault : 1 ≡ 2 = ap (λ (r : ReplicaRow). r.vault) (one_of replica_row r n.0) ∙ n.1 in omega (arith, vault)
    by_row (by_orphan o) n = let slot : 1 ≡ 0 = ap (λ (o : OrphanRow). o.slot) (one_of orphan_row o n.0) ∙ n.2 in omega (arith, slot)

-- where it may be of any bytes
an_orphan : (files : Files) → ((name : ℕ) (file : File) → file_at files name ≡ Some file → name ≡ 2) → IsWhole cat 1 files
an_orphan files only = record {
  good = ((λ good at. absurd (cc)), tt);
  accounted = λ name file is. record {
    row = by_orphan orphan_row;
    names = ((0, omega arith, refl), sym (only name file is), refl);
    only = λ x n. by_row name x n;
  };
}
  where
    by_leaf : (r : ReplicaRow) → replica_row ≡ r → leaf_slot cat r.leaf ≡ Some 1 → by_replica r ≡ by_orphan orphan_row
    by_leaf r is at = let zero_is : Some 0 ≡ Some 1 = ap (λ (x : ReplicaRow). leaf_slot cat x.leaf) is ∙ at in absurd (cc)

    by_row : (name : ℕ) (x : Naming) → Names cat 1 name x → x ≡ by_orphan orphan_row
    by_row name (by_orphan o) n = ap by_orphan (sym (one_of orphan_row o n.0))
    by_row name (by_replica r) n = by_leaf r (one_of replica_row r n.0) n.2
