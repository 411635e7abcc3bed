-- Which changes of a catalogue keep each file named, and each good replica with its file.
use Rattle.std.proofs.Common.{◌≡◌, ◌⊎◌, inl, inr, ℕ, Bool, true, false, List, [], ◌∷◌, Option, Some, None, Ok, IsTrue, refl, sym, ap, ◌∙◌, subst, eq-eqb, eqb-true}
use Rattle.std.specs.Prelude.{◌≢◌, ◌==◌, not, nat_lt, filter}
use Rattle.std.specs.List.{list_any, list_all}
use Rattle.std.specs.declared.cmp.Ordering.TheVariants.{Equal}
use Rattle.std.specs.declared.cmp.Ordering.{Ordering}
use Rattle.std.specs.Ordering.{nat_cmp, ordering_then}
use Rattle.std.proofs.lemmas.Bool.{and_parts, and_from, not-true}
use Rattle.std.proofs.lemmas.Bool.Decides.{eqb_tells}
use Rattle.grid_model.specs.Digests.{HasDigest}
use Rattle.grid_model.specs.Names.{Text}
use Rattle.grid_model.specs.Rows.{Cat, object, has_object, with_row, object_cmp, orphan_cmp, replica_cmp}
use Rattle.grid_model.specs.Applying.{apply, apply_all, is_replica, is_drawn, orphan_fits, where_fits}
use Rattle.grid_model.specs.Whole.{leaf_slot, IsLikeObject, Naming, by_replica, by_orphan, Names, IsNamed}
use Rattle.grid_model.specs.declared.deltas.Delta.{Delta}
use Rattle.grid_model.specs.declared.deltas.Delta.TheVariants as delta
use Rattle.grid_model.specs.declared.deltas.ObjectRow.{ObjectRow}
use Rattle.grid_model.specs.declared.deltas.ReplicaRow.{ReplicaRow}
use Rattle.grid_model.specs.declared.deltas.OrphanRow.{OrphanRow}
use Rattle.grid_model.specs.declared.deltas.UserRow.{UserRow}
use Rattle.grid_model.specs.declared.deltas.MemberRow.{MemberRow}
use Rattle.grid_model.specs.declared.deltas.CollectionRow.{CollectionRow}
use Rattle.grid_model.specs.declared.deltas.TripleRow.{TripleRow}
use Rattle.grid_model.specs.declared.deltas.EntryRow.{EntryRow}
use Rattle.grid_model.specs.declared.deltas.Numbers.{Numbers}
use Rattle.grid_model.specs.declared.deltas.Pending.{Pending}
use Rattle.grid_model.specs.declared.plans.NewFile.{NewFile}
use Rattle.grid_model.proofs.RowOrders.{replica_cmp_total}
use Rattle.grid_vault.specs.Vault.{IsAmong}
use Rattle.tables_laws.proofs.Rows.{IsIn, in_from_all, all_from_in, in_from_with_row, new_in_with_row, old_in_with_row, apart_in_with_row, in_once, in_from_filter, filter_from_in}
use Rattle.tables_laws.proofs.Numbered.{same_number, equal_number, put_found, put_other}
use Rattle.tables_laws.proofs.Forest.{none_in}
use Rattle.tables_laws.proofs.GridOrders.{then_equal}
use Rattle.tables_laws.proofs.Standing.{ReplicaStands}
use Rattle.tables_laws.proofs.Sound.{IsSound, fits_so, ok-same, after_first}
use Rattle.file_laws.specs.Plans.{HasFile, old_file, new_file, Turns, names_no_file}
use Rattle.file_laws.proofs.Members.{in_of, contains_of, no_files}

-- ---- one after another

module _ (made : List NewFile) (body : Text) where
  carried : (c : Cat) (slot : ℕ) (h r : ReplicaRow) → h.vault ≡ r.vault → h.size ≡ r.size → h.digest ≡ r.digest → HasFile c made body slot h → HasFile c made body slot r
  carried c slot h r vault size digest (old_file f) = old_file (record { row = f.row; there = f.there; good = f.good; slot_is = f.slot_is; vault_is = f.vault_is ∙ vault; size_is = f.size_is ∙ size; digest_is = f.digest_is ∙ digest })
  carried c slot h r vault size digest (new_file a has) =
      let A : ℕ → Type 0 = λ v. IsAmong made slot v in
      let S : ℕ → Type 0 = λ n. HasDigest n h.digest body in
      let D : List ℕ → Type 0 = λ x. HasDigest r.size x body in
      new_file (subst A vault a) (subst D digest (subst S size has))

  pub file_as_before : (c : Cat) (slot : ℕ) (r : ReplicaRow) → IsIn c.replicas r → IsTrue r.good → leaf_slot c r.leaf ≡ Some slot → HasFile c made body slot r
  file_as_before c slot r here good at = old_file (record { row = r; there = contains_of c.replicas r here; good = good; slot_is = at; vault_is = refl; size_is = refl; digest_is = refl })

  pub turns_self : (c : Cat) → Turns made body c c
  turns_self c = record { rows = λ good. good; good = λ slot. all_from_in _ c.replicas (λ r here good at. file_as_before c slot r here good at); named = λ slot name n. n }

  pub turns_then : (c d e : Cat) → Turns made body c d → Turns made body d e → Turns made body c e
  turns_then c d e first then = record {
    rows = λ good. then.rows (first.rows good);
    good = λ slot. all_from_in _ e.replicas (λ r here good at. by slot r (in_from_all (λ (r : ReplicaRow). IsTrue r.good → leaf_slot e r.leaf ≡ Some slot → HasFile d made body slot r) e.replicas (then.good slot) r here good at));
    named = λ slot name n. then.named slot name (first.named slot name n);
  }
    where
      by : (slot : ℕ) (r : ReplicaRow) → HasFile d made body slot r → HasFile c made body slot r
      by slot r (old_file f) = carried c slot f.row r f.vault_is f.size_is f.digest_is (in_from_all (λ (r : ReplicaRow). IsTrue r.good → leaf_slot d r.leaf ≡ Some slot → HasFile c made body slot r) d.replicas (first.good slot) f.row (in_of d.replicas f.row f.there) f.good f.slot_is)
      by slot r (new_file a has) = new_file a has

-- what needs no new files needs none where some were made
pub turns_more : (made : List NewFile) (body : Text) (c d : Cat) → Turns [] [] c d → Turns made body c d
turns_more made body c d t = record { rows = t.rows; good = λ slot. all_from_in _ d.replicas (λ r here good at. by slot r (in_from_all (λ (r : ReplicaRow). IsTrue r.good → leaf_slot d r.leaf ≡ Some slot → HasFile c [] [] slot r) d.replicas (t.good slot) r here good at)); named = t.named }
  where
    by : (slot : ℕ) (r : ReplicaRow) → HasFile c [] [] slot r → HasFile c made body slot r
    by slot r (old_file f) = old_file f
    by slot r (new_file a has) = absurd (no_files slot r.vault a)

pub turns_as : (made : List NewFile) (body : Text) (c d e : Cat) → d ≡ e → Turns made body c d → Turns made body c e
turns_as made body c d e same t = let P : Cat → Type 0 = λ x. Turns made body c x in subst P same t

-- ---- rows that name no file

module _ (c : Cat) (zone : Option Text) (stores : ℕ) (users : List UserRow) (members : List MemberRow) (collections : List CollectionRow) (triples : List TripleRow) (entries : List EntryRow) (rules : Text) (numbers : Numbers) (pending : Option Pending) where
  -- the same rows of objects, replicas, orphans and resources
  abbrev unseen : Cat
  unseen = record c { zone = zone; stores = stores; users = users; members = members; collections = collections; triples = triples; entries = entries; rules = rules; numbers = numbers; pending = pending }

  still : (slot name : ℕ) (x : Naming) → Names c slot name x → Names unseen slot name x
  still slot name (by_replica r) n = n
  still slot name (by_orphan o) n = n

  back : (slot name : ℕ) (x : Naming) → Names unseen slot name x → Names c slot name x
  back slot name (by_replica r) n = n
  back slot name (by_orphan o) n = n

  pub turns_unseen : (made : List NewFile) (body : Text) → Turns made body c unseen
  turns_unseen made body = record {
    rows = λ good. all_from_in _ c.replicas (λ r here is. let its = in_from_all (λ (r : ReplicaRow). IsTrue r.good → IsLikeObject c r) c.replicas good r here is in record { row = its.row; there = its.there; size = its.size; digest = its.digest });
    good = λ slot. all_from_in _ c.replicas (λ r here good at. file_as_before made body c slot r here good at);
    named = λ slot name n. record { row = n.row; names = still slot name n.row n.names; only = λ x its. n.only x (back slot name x its) };
  }

module _ (made : List NewFile) (body : Text) where
  so : (b : Bool) (cause : ℕ) (c next d : Cat) → where_fits b cause next ≡ Ok d → Turns made body c next → Turns made body c d
  so b cause c next d e t = turns_as made body c next d (fits_so b cause next d e).1 t

  pub turns_apply : (c d : Cat) (x : Delta) → names_no_file x ≡ true → apply c x ≡ Ok d → Turns made body c d
  turns_apply c d (delta.Zone name stores) unnamed e = so _ 1 c _ d e (turns_unseen c (Some name) stores c.users c.members c.collections c.triples c.entries c.rules c.numbers c.pending made body)
  turns_apply c d (delta.User r) unnamed e = so _ 2 c _ d e (turns_unseen c c.zone c.stores _ c.members c.collections c.triples c.entries c.rules c.numbers c.pending made body)
  turns_apply c d (delta.Member m) unnamed e = so _ 3 c _ d e (turns_unseen c c.zone c.stores c.users _ c.collections c.triples c.entries c.rules c.numbers c.pending made body)
  turns_apply c d (delta.NoMember m) unnamed e = so _ 4 c _ d e (turns_unseen c c.zone c.stores c.users _ c.collections c.triples c.entries c.rules c.numbers c.pending made body)
  turns_apply c d (delta.Collection r) unnamed e = so _ 5 c _ d e (turns_unseen c c.zone c.stores c.users c.members _ c.triples c.entries c.rules c.numbers c.pending made body)
  turns_apply c d (delta.NoCollection id) unnamed e = so _ 6 c _ d e (turns_unseen c c.zone c.stores c.users c.members _ c.triples c.entries c.rules c.numbers c.pending made body)
  turns_apply c d (delta.Object r) unnamed e = absurd cc
  turns_apply c d (delta.NoObject id) unnamed e = absurd cc
  turns_apply c d (delta.Replica r) unnamed e = absurd cc
  turns_apply c d (delta.NoReplica of number) unnamed e = absurd cc
  turns_apply c d (delta.Triple t) unnamed e = so _ 11 c _ d e (turns_unseen c c.zone c.stores c.users c.members c.collections _ c.entries c.rules c.numbers c.pending made body)
  turns_apply c d (delta.NoTriple t) unnamed e = so _ 12 c _ d e (turns_unseen c c.zone c.stores c.users c.members c.collections _ c.entries c.rules c.numbers c.pending made body)
  turns_apply c d (delta.Entry x) unnamed e = so _ 13 c _ d e (turns_unseen c c.zone c.stores c.users c.members c.collections c.triples _ c.rules c.numbers c.pending made body)
  turns_apply c d (delta.NoEntry kind id user) unnamed e = so _ 14 c _ d e (turns_unseen c c.zone c.stores c.users c.members c.collections c.triples _ c.rules c.numbers c.pending made body)
  turns_apply c d (delta.Resource r) unnamed e = absurd cc
  turns_apply c d (delta.Rules text) unnamed e = turns_as made body c _ d (ok-same _ d (apply c (delta.Rules text)) refl e) (turns_unseen c c.zone c.stores c.users c.members c.collections c.triples c.entries text c.numbers c.pending made body)
  turns_apply c d (delta.Orphan r) unnamed e = absurd cc
  turns_apply c d (delta.NoOrphan vault) unnamed e = absurd cc
  turns_apply c d (delta.Numbers n) unnamed e = so _ 19 c _ d e (turns_unseen c c.zone c.stores c.users c.members c.collections c.triples c.entries c.rules n c.pending made body)
  turns_apply c d (delta.Pending p) unnamed e = so _ 20 c _ d e (turns_unseen c c.zone c.stores c.users c.members c.collections c.triples c.entries c.rules c.numbers (Some p) made body)
  turns_apply c d delta.NoPending unnamed e = so _ 21 c _ d e (turns_unseen c c.zone c.stores c.users c.members c.collections c.triples c.entries c.rules c.numbers None made body)

  -- a list of them
  pub turns_apply_all : (deltas : List Delta) (c d : Cat) → list_all names_no_file deltas ≡ true → apply_all c deltas ≡ Ok d → Turns made body c d
  turns_apply_all [] c d unnamed e = turns_as made body c c d (ok-same c d (apply_all c []) refl e) (turns_self made body c)
  turns_apply_all (x ∷ deltas) c d unnamed e =
      let parts = and_parts (names_no_file x) (list_all names_no_file deltas) unnamed in
      let step = after_first (apply c x) deltas d e in
      turns_then made body c step.0 d (turns_apply c step.0 x parts.0 step.1) (turns_apply_all deltas step.0 d parts.1 step.2)

-- ---- rows that name files

-- one row took the place of another in naming a file, and all others name what they named
pub named_swapped : (c d : Cat) (x y : Naming) (at_slot at_name : ℕ) → Names c at_slot at_name x → Names d at_slot at_name y
    → ((slot name : ℕ) (row : Naming) → Names c slot name row → ((row ≡ x) × (slot ≡ at_slot) × (name ≡ at_name)) ⊎ Names d slot name row)
    → ((slot name : ℕ) (row : Naming) → Names d slot name row → ((row ≡ y) × (slot ≡ at_slot) × (name ≡ at_name)) ⊎ (Names c slot name row × (row ≡ x → ⊥)))
    → (slot name : ℕ) → IsNamed c slot name → IsNamed d slot name
named_swapped c d x y at_slot at_name was there to from slot name n = by (to slot name n.row n.names)
  where
    D : ℕ → ℕ → Type 0
    D s m = Names d s m y

    C : ℕ → ℕ → Type 0
    C s m = Names c s m x

    by : ((n.row ≡ x) × (slot ≡ at_slot) × (name ≡ at_name)) ⊎ Names d slot name n.row → IsNamed d slot name
    by (inl it) = record {
      row = y;
      names = (let P : ℕ → Type 0 = λ s. Names d s name y in let Q : ℕ → Type 0 = λ m. Names d at_slot m y in subst P (sym it.1) (subst Q (sym it.2) there));
      only = λ other its. elim (from slot name other its) [
        | inl new ↦ new.0
        | inr old ↦ absurd (old.1 (n.only other old.0 ∙ it.0))
      ];
    }
    by (inr still) = record {
      row = n.row;
      names = still;
      only = λ other its. elim (from slot name other its) [
        | inl new ↦ elim (from slot name n.row still) [
          | inl mine ↦ new.0 ∙ sym mine.0
          | inr mine ↦ absurd (mine.1 (sym (n.only x (let P : ℕ → Type 0 = λ s. Names c s name x in let Q : ℕ → Type 0 = λ m. Names c at_slot m x in subst P (sym new.1) (subst Q (sym new.2) was)))))
        ]
        | inr old ↦ n.only other old.0
      ];
    }

not_it : (a b : ℕ) → a ≡ b → not (a == b) ≡ true → ⊥
not_it a b e is = let same : (a == b) ≡ true = eq-eqb a b e in cc

pub same_key : (r x : ReplicaRow) → replica_cmp r x ≡ Equal → (r.object ≡ x.object) × (r.number ≡ x.number)
same_key r x e = let both = then_equal (nat_cmp r.object x.object) (nat_cmp r.number x.number) e in (same_number r.object x.object both.0, same_number r.number x.number both.1)

pub equal_key : (a b : ReplicaRow) → a.object ≡ b.object → a.number ≡ b.number → replica_cmp a b ≡ Equal
equal_key a b object number = ap (λ (x : Ordering). ordering_then x (nat_cmp a.number b.number)) (equal_number a.object b.object object) ∙ equal_number a.number b.number number

pub key_or_not : (a b : ReplicaRow) → ((a.object ≡ b.object) × (a.number ≡ b.number)) ⊎ (replica_cmp a b ≡ Equal → ⊥)
key_or_not a b = by (eqb_tells a.object b.object) (eqb_tells a.number b.number)
  where
    by : ((a.object == b.object) ≡ true) × (a.object ≡ b.object) ⊎ ((a.object == b.object) ≡ false) × (a.object ≢ b.object) → ((a.number == b.number) ≡ true) × (a.number ≡ b.number) ⊎ ((a.number == b.number) ≡ false) × (a.number ≢ b.number)
        → ((a.object ≡ b.object) × (a.number ≡ b.number)) ⊎ (replica_cmp a b ≡ Equal → ⊥)
    by (inl o) (inl n) = inl (o.1, n.1)
    by (inr o) n = inr (λ e. o.1 (same_key a b e).0)
    by (inl o) (inr n) = inr (λ e. n.1 (same_key a b e).1)

pub true_or_not : (b : Bool) → (b ≡ true) ⊎ (b ≡ false)
true_or_not true = inl refl
true_or_not false = inr refl

one_slot : (c : Cat) (leaf a b : ℕ) → leaf_slot c leaf ≡ Some a → leaf_slot c leaf ≡ Some b → b ≡ a
one_slot c leaf a b one two = let both : Some b ≡ Some a = sym two ∙ one in cc

module _ (made : List NewFile) (body : Text) (c : Cat) where
  -- an object's row is put, with which all its good replicas agree
  module _ (o : ObjectRow) (agree : (r : ReplicaRow) → IsIn c.replicas r → IsTrue r.good → r.object ≡ o.id → (r.size ≡ o.size) × (r.digest ≡ o.digest)) where
    abbrev changed : Cat
    changed = record c { objects = with_row object_cmp c.objects o }

    still_changed : (slot name : ℕ) (x : Naming) → Names c slot name x → Names changed slot name x
    still_changed slot name (by_replica r) n = n
    still_changed slot name (by_orphan x) n = n

    back_changed : (slot name : ℕ) (x : Naming) → Names changed slot name x → Names c slot name x
    back_changed slot name (by_replica r) n = n
    back_changed slot name (by_orphan x) n = n

    like_changed : (r : ReplicaRow) → IsIn c.replicas r → IsTrue r.good → IsLikeObject c r → ((r.object == o.id) ≡ true) × (r.object ≡ o.id) ⊎ ((r.object == o.id) ≡ false) × (r.object ≢ o.id) → IsLikeObject changed r
    like_changed r here is its (inl same) = let a = agree r here is same.1 in record { row = o; there = ap (λ i. object changed i) same.1 ∙ put_found (λ (x : ObjectRow). x.id) c.objects o; size = a.0; digest = a.1 }
    like_changed r here is its (inr other) = record { row = its.row; there = put_other (λ (x : ObjectRow). x.id) c.objects o r.object other.1 ∙ its.there; size = its.size; digest = its.digest }

    pub turns_object : Turns made body c changed
    turns_object = record {
      rows = λ good. all_from_in _ c.replicas (λ r here is. like_changed r here is (in_from_all (λ (r : ReplicaRow). IsTrue r.good → IsLikeObject c r) c.replicas good r here is) (eqb_tells r.object o.id));
      good = λ slot. all_from_in _ c.replicas (λ r here good at. file_as_before made body c slot r here good at);
      named = λ slot name n. record { row = n.row; names = still_changed slot name n.row n.names; only = λ x its. n.only x (back_changed slot name x its) };
    }

  -- a new object has no replicas
  pub turns_new_object : (s : IsSound c) (o : ObjectRow) → has_object c o.id ≡ false → Turns made body c (record c { objects = with_row object_cmp c.objects o })
  turns_new_object s o fresh = turns_object o (λ r here is e. absurd (
      let there : has_object c r.object ≡ true = (in_from_all (ReplicaStands c) c.replicas s.tied.replicas r here).0 in
      let is : has_object c o.id ≡ true = ap (has_object c) (sym e) ∙ there in
      cc))

  -- an orphan's row is put, of a number that no row has
  module _ (o : OrphanRow) (fits : orphan_fits c o ≡ true) where
    abbrev orphaned : Cat
    orphaned = record c { orphans = with_row orphan_cmp c.orphans o }

    no_replica : (r : ReplicaRow) → IsIn c.replicas r → r.vault ≡ o.vault → ⊥
    no_replica r here e = none_in (λ (x : ReplicaRow). x.vault == o.vault) c.replicas (not-true _ (and_parts (is_drawn c o.vault) _ (and_parts _ (nat_lt o.slot c.stores) fits).0).1) r here (eq-eqb r.vault o.vault e)

    pub no_orphan : (x : OrphanRow) → IsIn c.orphans x → x.vault ≡ o.vault → ⊥
    no_orphan x here e = none_in (λ (y : OrphanRow). y.vault == o.vault) c.orphans (not-true _ (and_parts _ (not (list_any (λ (y : OrphanRow). y.vault == o.vault) c.orphans)) (and_parts (is_drawn c o.vault) _ (and_parts _ (nat_lt o.slot c.stores) fits).0).0).1) x here (eq-eqb x.vault o.vault e)

    free : (slot : ℕ) (x : Naming) → Names c slot o.vault x → ⊥
    free slot (by_replica r) n = no_replica r (in_of c.replicas r n.0) n.1
    free slot (by_orphan x) n = no_orphan x (in_of c.orphans x n.0) n.1

    still_orphan : (slot name : ℕ) (x : Naming) → Names c slot name x → Names orphaned slot name x
    still_orphan slot name (by_replica r) n = n
    still_orphan slot name (by_orphan x) n = (contains_of orphaned.orphans x (old_in_with_row orphan_cmp c.orphans o x (in_of c.orphans x n.0) (λ e. no_orphan x (in_of c.orphans x n.0) (sym (same_number o.vault x.vault e)))), n.1, n.2)

    orphan_names : (slot name : ℕ) (x : Naming) → Names orphaned slot name x → ((x ≡ by_orphan o) × (slot ≡ o.slot) × (name ≡ o.vault)) ⊎ Names c slot name x
    orphan_names slot name (by_replica r) n = inr n
    orphan_names slot name (by_orphan x) n = elim (in_from_with_row orphan_cmp c.orphans o x (in_of orphaned.orphans x n.0)) [
      | inl is ↦ inl (ap by_orphan (sym is), sym n.2 ∙ ap (λ (y : OrphanRow). y.slot) (sym is), sym n.1 ∙ ap (λ (y : OrphanRow). y.vault) (sym is))
      | inr was ↦ inr (contains_of c.orphans x was, n.1, n.2)
    ]

    pub turns_orphan : Turns made body c orphaned
    turns_orphan = record {
      rows = λ good. all_from_in _ c.replicas (λ r here is. let its = in_from_all (λ (r : ReplicaRow). IsTrue r.good → IsLikeObject c r) c.replicas good r here is in record { row = its.row; there = its.there; size = its.size; digest = its.digest });
      good = λ slot. all_from_in _ c.replicas (λ r here good at. file_as_before made body c slot r here good at);
      named = λ slot name n. record {
        row = n.row;
        names = still_orphan slot name n.row n.names;
        only = λ x its. elim (orphan_names slot name x its) [
          | inl new ↦ absurd (free slot n.row (let P : ℕ → Type 0 = λ m. Names c slot m n.row in subst P new.2 n.names))
          | inr old ↦ n.only x old
        ];
      };
    }

    -- it alone names its file
    pub orphan_named : IsNamed orphaned o.slot o.vault
    orphan_named = record {
      row = by_orphan o;
      names = (contains_of orphaned.orphans o (new_in_with_row orphan_cmp c.orphans o), refl, refl);
      only = λ x n. elim (orphan_names o.slot o.vault x n) [ inl its ↦ its.0 | inr old ↦ absurd (free o.slot x old) ];
    }

  -- the file of an orphan becomes that of a new replica
  module _ (x : OrphanRow) (here : IsIn c.orphans x) (only_orphan : (y : OrphanRow) → IsIn c.orphans y → y.vault ≡ x.vault → y ≡ x) (r : ReplicaRow) (vault_is : r.vault ≡ x.vault) (leaf_is : leaf_slot c r.leaf ≡ Some x.slot) (fresh : (y : ReplicaRow) → IsIn c.replicas y → replica_cmp r y ≡ Equal → ⊥)
      (like : IsTrue r.good → IsLikeObject c r) (file : IsTrue r.good → HasFile c made body x.slot r) where
    abbrev filed : Cat
    filed = record c { replicas = with_row replica_cmp c.replicas r; orphans = filter (λ o. not (o.vault == x.vault)) c.orphans }

    to_filed : (slot name : ℕ) (row : Naming) → Names c slot name row → ((row ≡ by_orphan x) × (slot ≡ x.slot) × (name ≡ x.vault)) ⊎ Names filed slot name row
    to_filed slot name (by_replica q) n = inr (contains_of filed.replicas q (old_in_with_row replica_cmp c.replicas r q (in_of c.replicas q n.0) (fresh q (in_of c.replicas q n.0))), n.1, n.2)
    to_filed slot name (by_orphan q) n = elim (eqb_tells q.vault x.vault) [
      | inl same ↦ let it = only_orphan q (in_of c.orphans q n.0) same.1 in inl (ap by_orphan it, sym n.2 ∙ ap (λ (o : OrphanRow). o.slot) it, sym n.1 ∙ same.1)
      | inr other ↦ inr (contains_of filed.orphans q (filter_from_in (λ (o : OrphanRow). not (o.vault == x.vault)) c.orphans q (in_of c.orphans q n.0) (ap not other.0)), n.1, n.2)
    ]

    from_filed : (slot name : ℕ) (row : Naming) → Names filed slot name row → ((row ≡ by_replica r) × (slot ≡ x.slot) × (name ≡ x.vault)) ⊎ (Names c slot name row × (row ≡ by_orphan x → ⊥))
    from_filed slot name (by_replica q) n = elim (in_from_with_row replica_cmp c.replicas r q (in_of filed.replicas q n.0)) [
      | inl is ↦ inl (ap by_replica (sym is), one_slot c r.leaf x.slot slot leaf_is (ap (λ (y : ReplicaRow). leaf_slot c y.leaf) is ∙ n.2), sym n.1 ∙ ap (λ (y : ReplicaRow). y.vault) (sym is) ∙ vault_is)
      | inr was ↦ inr ((contains_of c.replicas q was, n.1, n.2), λ e. cc)
    ]
    from_filed slot name (by_orphan q) n =
        let old = in_from_filter (λ (o : OrphanRow). not (o.vault == x.vault)) c.orphans q (in_of filed.orphans q n.0) in
        inr ((contains_of c.orphans q old.0, n.1, n.2), λ e. not_it q.vault x.vault (let same : q ≡ x = cc in ap (λ (o : OrphanRow). o.vault) same) old.1)

    pub turns_filed : Turns made body c filed
    turns_filed = record {
      rows = λ good. all_from_in _ filed.replicas (λ q there is. elim (in_from_with_row replica_cmp c.replicas r q there) [
        | inl same ↦
            let G : ReplicaRow → Type 0 = λ y. IsTrue y.good in
            let L : ReplicaRow → Type 0 = λ y. IsLikeObject filed y in
            let its = like (subst G (sym same) is) in
            subst L same (record { row = its.row; there = its.there; size = its.size; digest = its.digest })
        | inr was ↦ let its = in_from_all (λ (r : ReplicaRow). IsTrue r.good → IsLikeObject c r) c.replicas good q was is in record { row = its.row; there = its.there; size = its.size; digest = its.digest }
      ]);
      good = λ slot. all_from_in _ filed.replicas (λ q there is at. elim (in_from_with_row replica_cmp c.replicas r q there) [
        | inl same ↦
            let G : ReplicaRow → Type 0 = λ y. IsTrue y.good in
            let F : ReplicaRow → Type 0 = λ y. HasFile c made body slot y in
            let S : ℕ → Type 0 = λ i. HasFile c made body i r in
            let slot_is : slot ≡ x.slot = one_slot c r.leaf x.slot slot leaf_is (ap (λ (y : ReplicaRow). leaf_slot c y.leaf) same ∙ at) in
            subst F same (subst S (sym slot_is) (file (subst G (sym same) is)))
        | inr was ↦ file_as_before made body c slot q was is at
      ]);
      named = named_swapped c filed (by_orphan x) (by_replica r) x.slot x.vault (contains_of c.orphans x here, refl, refl) (contains_of filed.replicas r (new_in_with_row replica_cmp c.replicas r), vault_is, leaf_is) to_filed from_filed;
    }

  -- the file of a replica that is dropped becomes an orphan
  module _ (s : IsSound c) (r : ReplicaRow) (here : IsIn c.replicas r) (o : OrphanRow) (vault_is : o.vault ≡ r.vault) (leaf_is : leaf_slot c r.leaf ≡ Some o.slot) where
    abbrev dropped : Cat
    dropped = record c { replicas = filter (λ q. not (is_replica r.object r.number q)) c.replicas; orphans = with_row orphan_cmp c.orphans o }

    only_replica : (q : ReplicaRow) → IsIn c.replicas q → is_replica r.object r.number q ≡ true → q ≡ r
    only_replica q there is = let key = and_parts (q.object == r.object) (q.number == r.number) is in in_once replica_cmp replica_cmp_total c.replicas q r s.cat.replicas.ordered there here (equal_key q r (eqb-true q.object r.object key.0) (eqb-true q.number r.number key.1))

    its_own : (q : ReplicaRow) → q ≡ r → not (is_replica r.object r.number q) ≡ true → ⊥
    its_own q same apart =
        let object : (q.object == r.object) ≡ true = eq-eqb q.object r.object (ap (λ (y : ReplicaRow). y.object) same) in
        let number : (q.number == r.number) ≡ true = eq-eqb q.number r.number (ap (λ (y : ReplicaRow). y.number) same) in
        let both : is_replica r.object r.number q ≡ true = and_from (q.object == r.object) (q.number == r.number) object number in
        cc

    to_dropped : (slot name : ℕ) (row : Naming) → Names c slot name row → ((row ≡ by_replica r) × (slot ≡ o.slot) × (name ≡ o.vault)) ⊎ Names dropped slot name row
    to_dropped slot name (by_replica q) n = elim (true_or_not (is_replica r.object r.number q)) [
      | inl same ↦ let it = only_replica q (in_of c.replicas q n.0) same in inl (ap by_replica it, one_slot c r.leaf o.slot slot leaf_is (ap (λ (y : ReplicaRow). leaf_slot c y.leaf) (sym it) ∙ n.2), sym n.1 ∙ ap (λ (y : ReplicaRow). y.vault) it ∙ sym vault_is)
      | inr other ↦ inr (contains_of dropped.replicas q (filter_from_in (λ q. not (is_replica r.object r.number q)) c.replicas q (in_of c.replicas q n.0) (ap not other)), n.1, n.2)
    ]
    to_dropped slot name (by_orphan q) n = inr (contains_of dropped.orphans q (old_in_with_row orphan_cmp c.orphans o q (in_of c.orphans q n.0) (λ e. s.vaults.apart r q here (in_of c.orphans q n.0) (sym (same_number o.vault q.vault e) ∙ vault_is))), n.1, n.2)

    from_dropped : (slot name : ℕ) (row : Naming) → Names dropped slot name row → ((row ≡ by_orphan o) × (slot ≡ o.slot) × (name ≡ o.vault)) ⊎ (Names c slot name row × (row ≡ by_replica r → ⊥))
    from_dropped slot name (by_replica q) n =
        let old = in_from_filter (λ q. not (is_replica r.object r.number q)) c.replicas q (in_of dropped.replicas q n.0) in
        inr ((contains_of c.replicas q old.0, n.1, n.2), λ e. its_own q (let same : q ≡ r = cc in same) old.1)
    from_dropped slot name (by_orphan q) n = elim (in_from_with_row orphan_cmp c.orphans o q (in_of dropped.orphans q n.0)) [
      | inl is ↦ inl (ap by_orphan (sym is), sym n.2 ∙ ap (λ (y : OrphanRow). y.slot) (sym is), sym n.1 ∙ ap (λ (y : OrphanRow). y.vault) (sym is))
      | inr was ↦ inr ((contains_of c.orphans q was, n.1, n.2), λ e. cc)
    ]

    pub turns_dropped : Turns made body c dropped
    turns_dropped = record {
      rows = λ good. all_from_in _ dropped.replicas (λ q there is. let its = in_from_all (λ (r : ReplicaRow). IsTrue r.good → IsLikeObject c r) c.replicas good q (in_from_filter (λ q. not (is_replica r.object r.number q)) c.replicas q there).0 is in record { row = its.row; there = its.there; size = its.size; digest = its.digest });
      good = λ slot. all_from_in _ dropped.replicas (λ q there is at. file_as_before made body c slot q (in_from_filter (λ q. not (is_replica r.object r.number q)) c.replicas q there).0 is at);
      named = named_swapped c dropped (by_replica r) (by_orphan o) o.slot o.vault (contains_of c.replicas r here, sym vault_is, leaf_is) (contains_of dropped.orphans o (new_in_with_row orphan_cmp c.orphans o), refl, refl) to_dropped from_dropped;
    }

  -- a replica is no longer good
  module _ (s : IsSound c) (r : ReplicaRow) (here : IsIn c.replicas r) (at_slot : ℕ) (leaf_is : leaf_slot c r.leaf ≡ Some at_slot) where
    abbrev old : ReplicaRow
    old = record r { good = false }

    abbrev staled : Cat
    staled = record c { replicas = with_row replica_cmp c.replicas old }

    to_staled : (slot name : ℕ) (row : Naming) → Names c slot name row → ((row ≡ by_replica r) × (slot ≡ at_slot) × (name ≡ r.vault)) ⊎ Names staled slot name row
    to_staled slot name (by_replica q) n = elim (key_or_not old q) [
      | inl same ↦
          let it : q ≡ r = in_once replica_cmp replica_cmp_total c.replicas q r s.cat.replicas.ordered (in_of c.replicas q n.0) here (equal_key q r (sym same.0) (sym same.1)) in
          inl (ap by_replica it, one_slot c r.leaf at_slot slot leaf_is (ap (λ (y : ReplicaRow). leaf_slot c y.leaf) (sym it) ∙ n.2), sym n.1 ∙ ap (λ (y : ReplicaRow). y.vault) it)
      | inr other ↦ inr (contains_of staled.replicas q (old_in_with_row replica_cmp c.replicas old q (in_of c.replicas q n.0) other), n.1, n.2)
    ]
    to_staled slot name (by_orphan q) n = inr n

    from_staled : (slot name : ℕ) (row : Naming) → Names staled slot name row → ((row ≡ by_replica old) × (slot ≡ at_slot) × (name ≡ r.vault)) ⊎ (Names c slot name row × (row ≡ by_replica r → ⊥))
    from_staled slot name (by_replica q) n = elim (apart_in_with_row replica_cmp replica_cmp_total c.replicas old q s.cat.replicas.ordered (in_of staled.replicas q n.0)) [
      | inl is ↦ inl (ap by_replica (sym is), one_slot c r.leaf at_slot slot leaf_is (ap (λ (y : ReplicaRow). leaf_slot c y.leaf) is ∙ n.2), sym n.1 ∙ ap (λ (y : ReplicaRow). y.vault) (sym is))
      | inr was ↦ inr ((contains_of c.replicas q was.0, n.1, n.2), λ e. was.1 (let same : q ≡ r = cc in equal_key old q (ap (λ (y : ReplicaRow). y.object) (sym same)) (ap (λ (y : ReplicaRow). y.number) (sym same))))
    ]
    from_staled slot name (by_orphan q) n = inr (n, λ e. cc)

    no_good : (q : ReplicaRow) → old ≡ q → IsTrue q.good → ⊥
    no_good q same is = let wrong : false ≡ true = ap (λ (y : ReplicaRow). y.good) same ∙ is in cc

    pub turns_staled : Turns made body c staled
    turns_staled = record {
      rows = λ good. all_from_in _ staled.replicas (λ q there is. elim (in_from_with_row replica_cmp c.replicas old q there) [
        | inl same ↦ absurd (no_good q same is)
        | inr was ↦ let its = in_from_all (λ (r : ReplicaRow). IsTrue r.good → IsLikeObject c r) c.replicas good q was is in record { row = its.row; there = its.there; size = its.size; digest = its.digest }
      ]);
      good = λ slot. all_from_in _ staled.replicas (λ q there is at. elim (in_from_with_row replica_cmp c.replicas old q there) [
        | inl same ↦ absurd (no_good q same is)
        | inr was ↦ file_as_before made body c slot q was is at
      ]);
      named = named_swapped c staled (by_replica r) (by_replica old) at_slot r.vault (contains_of c.replicas r here, refl, leaf_is) (contains_of staled.replicas old (new_in_with_row replica_cmp c.replicas old), refl, leaf_is) to_staled from_staled;
    }
