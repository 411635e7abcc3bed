-- Changes of users, members, collections, metadata and access alone: no file is named otherwise, and of the rest of the
-- catalogue all stays.
use Rattle.std.proofs.Common.{◌≡◌, ◌≢◌, ◌⊎◌, ℕ, Bool, true, false, List, [], ◌∷◌, Ok, IsTrue, refl, sym, ap, ◌∙◌, subst}
use Rattle.std.specs.Prelude.{find, filter, not, option_map, ◌&&◌, ◌==◌}
use Rattle.std.specs.List.{list_all, Contains}
use Rattle.std.proofs.lemmas.Bool.{and_parts, and_from}
use Rattle.std.proofs.lemmas.List.Folds.{list_all-append}
use Rattle.grid_model.specs.Names.{Text}
use Rattle.grid_model.specs.Rows.{Cat}
use Rattle.grid_model.specs.RowGrids.{grid_of}
use Rattle.grid_model.specs.Applying.{apply, apply_all, where_fits}
use Rattle.grid_model.specs.Whole.{Naming, by_replica, by_orphan, Names}
use Rattle.grid_model.specs.Deeds.{changes}
use Rattle.grid_model.specs.Operations.Table.{Operation, row}
use Rattle.grid_model.specs.declared.deltas.Delta.{Delta}
use Rattle.grid_model.specs.declared.deltas.Delta.TheVariants as delta
use Rattle.grid_model.specs.declared.deltas.UserRow.{UserRow}
use Rattle.grid_model.specs.declared.deltas.MemberRow.{MemberRow}
use Rattle.grid_model.specs.declared.deltas.CollectionRow.{CollectionRow}
use Rattle.grid_model.specs.declared.deltas.TripleRow.{TripleRow}
use Rattle.grid_model.specs.declared.deltas.EntryRow.{EntryRow}
use Rattle.grid_model.specs.declared.deltas.ReplicaRow.{ReplicaRow}
use Rattle.grid_model.specs.declared.deltas.OrphanRow.{OrphanRow}
use Rattle.grid_model.specs.declared.deltas.ResourceRow.{ResourceRow}
use Rattle.grid_journal.specs.Journal.{can_be_kept}
use Rattle.file_laws.specs.Plans.{names_no_file}
use Rattle.file_laws.proofs.Turning.{turns_apply_all}
use Rattle.tables_laws.proofs.Sound.{fits_so, ok-same, after_first}
use Rattle.grid_model.specs.declared.grid.ItemKind.{ItemKind}
use Rattle.grid_model.specs.declared.grid.Level.TheVariants.{Own}
use Rattle.plan_base.specs.NewItems.{handed_rows, handed_to, new_entries}
use Rattle.plan_base.specs.Plans.{Changes}

-- it changes such rows alone
abbrev pub is_mere : Delta → Bool
is_mere (delta.User r) = true
is_mere (delta.Member m) = true
is_mere (delta.NoMember m) = true
is_mere (delta.Collection r) = true
is_mere (delta.NoCollection id) = true
is_mere (delta.Triple t) = true
is_mere (delta.NoTriple t) = true
is_mere (delta.Entry e) = true
is_mere (delta.NoEntry k id user) = true
is_mere other = false

-- what such changes leave
record Stays (c d : Cat) : Type 0 where
  pub replicas : d.replicas ≡ c.replicas
  pub orphans : d.orphans ≡ c.orphans
  pub resources : d.resources ≡ c.resources
  pub numbers : d.numbers ≡ c.numbers
  pub pending : d.pending ≡ c.pending
  pub rules : d.rules ≡ c.rules
  pub stores : d.stores ≡ c.stores

module _ (c : Cat) (users : List UserRow) (members : List MemberRow) (collections : List CollectionRow) (triples : List TripleRow) (entries : List EntryRow) where
  mere : Stays c (record c { users = users; members = members; collections = collections; triples = triples; entries = entries })
  mere = record { replicas = refl; orphans = refl; resources = refl; numbers = refl; pending = refl; rules = refl; stores = refl }

stays_then : (c d e : Cat) → Stays c d → Stays d e → Stays c e
stays_then c d e a b = record {
  replicas = b.replicas ∙ a.replicas;
  orphans = b.orphans ∙ a.orphans;
  resources = b.resources ∙ a.resources;
  numbers = b.numbers ∙ a.numbers;
  pending = b.pending ∙ a.pending;
  rules = b.rules ∙ a.rules;
  stores = b.stores ∙ a.stores;
}

so : (b : Bool) (cause : ℕ) (c next d : Cat) → where_fits b cause next ≡ Ok d → Stays c next → Stays c d
so b cause c next d e s = let P : Cat → Type 0 = λ x. Stays c x in subst P (fits_so b cause next d e).1 s

stays : (c d : Cat) (x : Delta) → is_mere x ≡ true → apply c x ≡ Ok d → Stays c d
stays c d (delta.Zone name stores) is e = absurd cc
stays c d (delta.User r) is e = so _ 2 c _ d e (mere c _ c.members c.collections c.triples c.entries)
stays c d (delta.Member m) is e = so _ 3 c _ d e (mere c c.users _ c.collections c.triples c.entries)
stays c d (delta.NoMember m) is e = so _ 4 c _ d e (mere c c.users _ c.collections c.triples c.entries)
stays c d (delta.Collection r) is e = so _ 5 c _ d e (mere c c.users c.members _ c.triples c.entries)
stays c d (delta.NoCollection id) is e = so _ 6 c _ d e (mere c c.users c.members _ c.triples c.entries)
stays c d (delta.Object r) is e = absurd cc
stays c d (delta.NoObject id) is e = absurd cc
stays c d (delta.Replica r) is e = absurd cc
stays c d (delta.NoReplica of number) is e = absurd cc
stays c d (delta.Triple t) is e = so _ 11 c _ d e (mere c c.users c.members c.collections _ c.entries)
stays c d (delta.NoTriple t) is e = so _ 12 c _ d e (mere c c.users c.members c.collections _ c.entries)
stays c d (delta.Entry x) is e = so _ 13 c _ d e (mere c c.users c.members c.collections c.triples _)
stays c d (delta.NoEntry k id user) is e = so _ 14 c _ d e (mere c c.users c.members c.collections c.triples _)
stays c d (delta.Resource r) is e = absurd cc
stays c d (delta.Rules text) is e = absurd cc
stays c d (delta.Orphan r) is e = absurd cc
stays c d (delta.NoOrphan vault) is e = absurd cc
stays c d (delta.Numbers n) is e = absurd cc
stays c d (delta.Pending p) is e = absurd cc
stays c d delta.NoPending is e = absurd cc

stays_all : (deltas : List Delta) (c d : Cat) → list_all is_mere deltas ≡ true → apply_all c deltas ≡ Ok d → Stays c d
stays_all [] c d is e = let P : Cat → Type 0 = λ x. Stays c x in subst P (ok-same c d (apply_all c []) refl e) (mere c c.users c.members c.collections c.triples c.entries)
stays_all (x ∷ deltas) c d is e =
    let parts = and_parts (is_mere x) (list_all is_mere deltas) is in
    let step = after_first (apply c x) deltas d e in
    stays_then c step.0 d (stays c step.0 x parts.0 step.1) (stays_all deltas step.0 d parts.1 step.2)

-- rows name the files that they named
names_before : (c d : Cat) → Stays c d → (slot name : ℕ) (r : Naming) → Names d slot name r → Names c slot name r
names_before c d s slot name (by_replica r) n =
    let P : List ReplicaRow → Type 0 = λ rows. Contains rows r in
    (subst P s.replicas n.0, n.1, ap (λ (rows : List ResourceRow). option_map (λ x. x.slot) (find (λ x. x.id == r.leaf) rows)) (sym s.resources) ∙ n.2)
names_before c d s slot name (by_orphan o) n = let P : List OrphanRow → Type 0 = λ rows. Contains rows o in (subst P s.orphans n.0, n.1, n.2)

-- ---- what names no file

no_file : (x : Delta) → is_mere x ≡ true → names_no_file x ≡ true
no_file (delta.Zone name stores) is = absurd cc
no_file (delta.User r) is = refl
no_file (delta.Member m) is = refl
no_file (delta.NoMember m) is = refl
no_file (delta.Collection r) is = refl
no_file (delta.NoCollection id) is = refl
no_file (delta.Object r) is = absurd cc
no_file (delta.NoObject id) is = absurd cc
no_file (delta.Replica r) is = absurd cc
no_file (delta.NoReplica of number) is = absurd cc
no_file (delta.Triple t) is = refl
no_file (delta.NoTriple t) is = refl
no_file (delta.Entry e) is = refl
no_file (delta.NoEntry k id user) is = refl
no_file (delta.Resource r) is = absurd cc
no_file (delta.Rules text) is = absurd cc
no_file (delta.Orphan r) is = absurd cc
no_file (delta.NoOrphan vault) is = absurd cc
no_file (delta.Numbers n) is = absurd cc
no_file (delta.Pending p) is = absurd cc
no_file delta.NoPending is = absurd cc

no_files : (deltas : List Delta) → list_all is_mere deltas ≡ true → list_all names_no_file deltas ≡ true
no_files [] is = refl
no_files (x ∷ deltas) is =
    let parts = and_parts (is_mere x) (list_all is_mere deltas) is in
    and_from (names_no_file x) (list_all names_no_file deltas) (no_file x parts.0) (no_files deltas parts.1)

-- changes of such rows that do what the operation does, and make another grid or are none, are a plan of it
pub plan_of : (c after : Cat) (user : Text) (op : Operation) (deltas : List Delta) → IsTrue (list_all is_mere deltas) → IsTrue (list_all can_be_kept deltas) → apply_all c deltas ≡ Ok after
    → row (grid_of c) user op ≡ Ok (changes (grid_of after)) → (deltas ≡ []) ⊎ (grid_of after ≢ grid_of c) → Changes c user op deltas
plan_of c after user op deltas mere_all spelled applied row_is still =
    let s = stays_all deltas c after mere_all applied in
    record {
      after = after;
      applied = applied;
      spelled = spelled;
      row_is = row_is;
      turns = turns_apply_all [] [] deltas c after (no_files deltas mere_all) applied;
      names = λ slot name r n. (r, names_before c after s slot name r n);
      numbers = s.numbers;
      pending = s.pending;
      rules = s.rules;
      stores = s.stores;
      still = still;
    }

-- ---- the changes of a new item's access

handed_mere : (k : ItemKind) (id : ℕ) (rows : List EntryRow) → list_all is_mere (handed_to k id rows) ≡ true
handed_mere k id [] = refl
handed_mere k id (e ∷ rows) = handed_mere k id rows

pub new_entries-mere : (c : Cat) (user collection : ℕ) (k : ItemKind) (id : ℕ) → list_all is_mere (new_entries c user collection k id) ≡ true
new_entries-mere c user collection k id =
    list_all-append is_mere (handed_to k id (filter (λ e. not (e.user == user)) (handed_rows c collection))) (delta.Entry (record { kind = k; id = id; user = user; level = Own }) ∷ [])
    ∙ ap (λ b. b && true) (handed_mere k id (filter (λ e. not (e.user == user)) (handed_rows c collection)))
