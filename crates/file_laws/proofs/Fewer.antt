-- What changes that name files may leave alone, and how they follow one another.
use Rattle.std.proofs.Common.{◌≡◌, ℕ, true, List, [], ◌∷◌, ◌++◌, Some, Result, Ok, Err, IsTrue, refl, sym, ap, ◌∙◌, subst, eqb-true}
use Rattle.std.specs.Prelude.{◌==◌, find, option_map}
use Rattle.std.specs.List.{list_all}
use Rattle.std.proofs.lemmas.Bool.{and_parts}
use Rattle.grid_model.specs.Names.{Text}
use Rattle.grid_model.specs.Rows.{Cat, replica_cmp}
use Rattle.grid_model.specs.Applying.{apply, apply_all, where_fits}
use Rattle.grid_model.specs.Whole.{leaf_slot, HasGoodRows, Naming, by_replica, by_orphan, Names}
use Rattle.grid_model.specs.declared.deltas.Delta.{Delta}
use Rattle.grid_model.specs.declared.deltas.Delta.TheVariants as delta
use Rattle.grid_model.specs.declared.deltas.OrphanRow.{OrphanRow}
use Rattle.grid_model.specs.declared.deltas.ReplicaRow.{ReplicaRow}
use Rattle.grid_model.specs.declared.deltas.ResourceRow.{ResourceRow}
use Rattle.grid_model.specs.declared.plans.NewFile.{NewFile}
use Rattle.grid_model.proofs.RowOrders.{replica_cmp_total}
use Rattle.tables_laws.proofs.Rows.{IsIn, all_from_in, in_once}
use Rattle.tables_laws.proofs.Numbered.{one_number}
use Rattle.tables_laws.proofs.Sound.{IsSound, fits_so, ok-same, after_first}
use Rattle.file_laws.specs.Plans.{HasFile, Turns, names_no_file}
use Rattle.file_laws.proofs.Members.{in_of}
use Rattle.file_laws.proofs.Turning.{equal_key}

-- ---- changes one after another

pub apply_step : (x : Delta) (more : List Delta) (c d : Cat) → apply c x ≡ Ok d → apply_all c (x ∷ more) ≡ apply_all d more
apply_step x more c d applied = ap (λ (r : Result Cat ℕ). elim r as (λ _. Result Cat ℕ) [ Ok n ↦ apply_all n more | Err cause ↦ Err cause ]) applied

pub split_applied : (first more : List Delta) (c d : Cat) → apply_all c (first ++ more) ≡ Ok d → (e : Cat) × (apply_all c first ≡ Ok e) × (apply_all e more ≡ Ok d)
split_applied [] more c d applied = (c, refl, applied)
split_applied (x ∷ first) more c d applied =
    let step = after_first (apply c x) (first ++ more) d applied in
    let rest = split_applied first more step.0 d step.2 in
    (rest.0, apply_step x first c step.0 step.1 ∙ rest.1, rest.2)

-- ---- the rows that changes of other rows leave alone

pub record Unmoved (c d : Cat) : Type 0 where
  pub objects : d.objects ≡ c.objects
  pub replicas : d.replicas ≡ c.replicas
  pub orphans : d.orphans ≡ c.orphans
  pub resources : d.resources ≡ c.resources

pub unmoved_as : (c d e : Cat) → d ≡ e → Unmoved c d → Unmoved c e
unmoved_as c d e same u = let P : Cat → Type 0 = λ x. Unmoved c x in subst P same u

unmoved_then : (c d e : Cat) → Unmoved c d → Unmoved d e → Unmoved c e
unmoved_then c d e one two = record { objects = two.objects ∙ one.objects; replicas = two.replicas ∙ one.replicas; orphans = two.orphans ∙ one.orphans; resources = two.resources ∙ one.resources }

fitted : (c next d : Cat) (b : _) (cause : ℕ) → where_fits b cause next ≡ Ok d → Unmoved c next → Unmoved c d
fitted c next d b cause applied u = unmoved_as c next d (fits_so b cause next d applied).1 u

unmoved-apply : (c d : Cat) (x : Delta) → names_no_file x ≡ true → apply c x ≡ Ok d → Unmoved c d
unmoved-apply c d (delta.Zone name stores) unnamed e = fitted c _ d _ 1 e (record { objects = refl; replicas = refl; orphans = refl; resources = refl })
unmoved-apply c d (delta.User r) unnamed e = fitted c _ d _ 2 e (record { objects = refl; replicas = refl; orphans = refl; resources = refl })
unmoved-apply c d (delta.Member m) unnamed e = fitted c _ d _ 3 e (record { objects = refl; replicas = refl; orphans = refl; resources = refl })
unmoved-apply c d (delta.NoMember m) unnamed e = fitted c _ d _ 4 e (record { objects = refl; replicas = refl; orphans = refl; resources = refl })
unmoved-apply c d (delta.Collection r) unnamed e = fitted c _ d _ 5 e (record { objects = refl; replicas = refl; orphans = refl; resources = refl })
unmoved-apply c d (delta.NoCollection id) unnamed e = fitted c _ d _ 6 e (record { objects = refl; replicas = refl; orphans = refl; resources = refl })
unmoved-apply c d (delta.Object r) unnamed e = absurd cc
unmoved-apply c d (delta.NoObject id) unnamed e = absurd cc
unmoved-apply c d (delta.Replica r) unnamed e = absurd cc
unmoved-apply c d (delta.NoReplica of number) unnamed e = absurd cc
unmoved-apply c d (delta.Triple t) unnamed e = fitted c _ d _ 11 e (record { objects = refl; replicas = refl; orphans = refl; resources = refl })
unmoved-apply c d (delta.NoTriple t) unnamed e = fitted c _ d _ 12 e (record { objects = refl; replicas = refl; orphans = refl; resources = refl })
unmoved-apply c d (delta.Entry x) unnamed e = fitted c _ d _ 13 e (record { objects = refl; replicas = refl; orphans = refl; resources = refl })
unmoved-apply c d (delta.NoEntry kind id user) unnamed e = fitted c _ d _ 14 e (record { objects = refl; replicas = refl; orphans = refl; resources = refl })
unmoved-apply c d (delta.Resource r) unnamed e = absurd cc
unmoved-apply c d (delta.Rules text) unnamed e = unmoved_as c _ d (ok-same _ d (apply c (delta.Rules text)) refl e) (record { objects = refl; replicas = refl; orphans = refl; resources = refl })
unmoved-apply c d (delta.Orphan r) unnamed e = absurd cc
unmoved-apply c d (delta.NoOrphan vault) unnamed e = absurd cc
unmoved-apply c d (delta.Numbers n) unnamed e = fitted c _ d _ 19 e (record { objects = refl; replicas = refl; orphans = refl; resources = refl })
unmoved-apply c d (delta.Pending p) unnamed e = fitted c _ d _ 20 e (record { objects = refl; replicas = refl; orphans = refl; resources = refl })
unmoved-apply c d delta.NoPending unnamed e = fitted c _ d _ 21 e (record { objects = refl; replicas = refl; orphans = refl; resources = refl })

pub unmoved-apply_all : (deltas : List Delta) (c d : Cat) → list_all names_no_file deltas ≡ true → apply_all c deltas ≡ Ok d → Unmoved c d
unmoved-apply_all [] c d unnamed e = unmoved_as c c d (ok-same c d (apply_all c []) refl e) (record { objects = refl; replicas = refl; orphans = refl; resources = refl })
unmoved-apply_all (x ∷ deltas) c d unnamed e =
    let parts = and_parts (names_no_file x) (list_all names_no_file deltas) unnamed in
    let step = after_first (apply c x) deltas d e in
    unmoved_then c step.0 d (unmoved-apply c step.0 x parts.0 step.1) (unmoved-apply_all deltas step.0 d parts.1 step.2)

-- ---- fewer good replicas

pub slot_as : (c d : Cat) → d.resources ≡ c.resources → (leaf : ℕ) → leaf_slot d leaf ≡ leaf_slot c leaf
slot_as c d same leaf = ap (λ (rows : List ResourceRow). option_map (λ (r : ResourceRow). r.slot) (find (λ (r : ResourceRow). r.id == leaf) rows)) same

abbrev pub HasKey : ReplicaRow → ℕ → ℕ → Type 0
HasKey r object number = (r.object ≡ object) × (r.number ≡ number)

-- Objects and resources are the same, no orphan is gone, the good replicas were there, and no replica has a new key.
pub record Fewer (c d : Cat) : Type 0 where
  pub objects : d.objects ≡ c.objects
  pub resources : d.resources ≡ c.resources
  pub orphans : (x : OrphanRow) → IsIn c.orphans x → IsIn d.orphans x
  pub good : (r : ReplicaRow) → IsIn d.replicas r → IsTrue r.good → IsIn c.replicas r
  pub keys : (r : ReplicaRow) → IsIn d.replicas r → (was : ReplicaRow) × IsIn c.replicas was × HasKey was r.object r.number

pub fewer_self : (c : Cat) → Fewer c c
fewer_self c = record { objects = refl; resources = refl; orphans = λ x here. here; good = λ r here is. here; keys = λ r here. (r, here, (refl, refl)) }

pub fewer_as : (c d e : Cat) → d ≡ e → Fewer c d → Fewer c e
fewer_as c d e same f = let P : Cat → Type 0 = λ x. Fewer c x in subst P same f

pub fewer_then : (c d e : Cat) → Fewer c d → Fewer d e → Fewer c e
fewer_then c d e one two = record {
  objects = two.objects ∙ one.objects;
  resources = two.resources ∙ one.resources;
  orphans = λ x here. two.orphans x (one.orphans x here);
  good = λ r here is. one.good r (two.good r here is) is;
  keys = λ r here. let q = two.keys r here in let p = one.keys q.0 q.1 in (p.0, p.1, (p.2.0 ∙ q.2.0, p.2.1 ∙ q.2.1));
}

-- one row a key
pub same_row : (c : Cat) → IsSound c → (a b : ReplicaRow) → IsIn c.replicas a → IsIn c.replicas b → HasKey a b.object b.number → a ≡ b
same_row c s a b here there key = in_once replica_cmp replica_cmp_total c.replicas a b s.cat.replicas.ordered here there (equal_key a b key.0 key.1)

-- ---- one row a file

pub once : (c : Cat) → IsSound c → (slot name : ℕ) (x y : Naming) → Names c slot name x → Names c slot name y → y ≡ x
once c s slot name (by_replica r) (by_replica q) n m =
    let r_in = in_of c.replicas r n.0 in
    let q_in = in_of c.replicas q m.0 in
    let key = and_parts (q.object == r.object) (q.number == r.number) (s.vaults.vaults r q r_in q_in (m.1 ∙ sym n.1)) in
    ap by_replica (same_row c s q r q_in r_in (eqb-true q.object r.object key.0, eqb-true q.number r.number key.1))
once c s slot name (by_replica r) (by_orphan o) n m = absurd (s.vaults.apart r o (in_of c.replicas r n.0) (in_of c.orphans o m.0) (m.1 ∙ sym n.1))
once c s slot name (by_orphan o) (by_replica r) n m = absurd (s.vaults.apart r o (in_of c.replicas r m.0) (in_of c.orphans o n.0) (n.1 ∙ sym m.1))
once c s slot name (by_orphan o) (by_orphan x) n m = ap by_orphan (one_number (λ (y : OrphanRow). y.vault) c.orphans x o s.cat.orphans.ordered (in_of c.orphans x m.0) (in_of c.orphans o n.0) (m.1 ∙ sym n.1))

-- where each file that was named is named, it is named once
pub turns_sound : (made : List NewFile) (body : Text) (c d : Cat) → IsSound d → (HasGoodRows c → HasGoodRows d)
    → ((slot : ℕ) (r : ReplicaRow) → IsIn d.replicas r → IsTrue r.good → leaf_slot d r.leaf ≡ Some slot → HasFile c made body slot r)
    → ((slot name : ℕ) (x : Naming) → Names c slot name x → (y : Naming) × Names d slot name y) → Turns made body c d
turns_sound made body c d s rows good still = record {
  rows = rows;
  good = λ slot. all_from_in _ d.replicas (good slot);
  named = λ slot name n. let its = still slot name n.row n.names in record { row = its.0; names = its.1; only = λ x x_names. once d s slot name its.0 x its.1 x_names };
}
