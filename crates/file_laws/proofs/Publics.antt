-- The laws as their callers see them: of catalogues that changes made.
use Rattle.std.proofs.Common.{◌≡◌, inl, ℕ, ◌<◌, false, List, [], ◌∷◌, ◌++◌, Some, Ok, IsTrue, refl, sym, ap, ◌∙◌}
use Rattle.std.specs.List.{AllByRecursion, Contains, list_all}
use Rattle.grid_model.specs.Digests.{HasDigest}
use Rattle.grid_model.specs.Names.{Text}
use Rattle.grid_model.specs.Rows.{Cat, empty_cat, has_object, object}
use Rattle.grid_model.specs.Applying.{apply, apply_all}
use Rattle.grid_model.specs.Whole.{leaf_slot}
use Rattle.grid_model.specs.declared.deltas.Delta.{Delta}
use Rattle.grid_model.specs.declared.deltas.Delta.TheVariants as delta
use Rattle.grid_model.specs.declared.deltas.Numbers.{Numbers}
use Rattle.grid_model.specs.declared.deltas.ObjectRow.{ObjectRow}
use Rattle.grid_model.specs.declared.deltas.OrphanRow.{OrphanRow}
use Rattle.grid_model.specs.declared.deltas.ReplicaRow.{ReplicaRow}
use Rattle.grid_model.specs.declared.deltas.ResourceRow.{ResourceRow}
use Rattle.grid_model.specs.declared.plans.NewFile.{NewFile}
use Rattle.grid_model.specs.declared.plans.OldFile.{OldFile}
use Rattle.grid_model.specs.declared.plans.Plan.{Plan}
use Rattle.grid_journal.specs.Journal.{can_be_kept}
use Rattle.tables_laws.proofs.Rows.{IsIn, in_from_all, all_from_in}
use Rattle.tables_laws.proofs.Numbered.{one_number}
use Rattle.tables_laws.proofs.Sound.{sound-made}
use Rattle.file_laws.specs.Plans.{Turns, IsCopyPlan, IsPlan}
use Rattle.file_laws.specs.Puts.{Target, AreLeaves, IsPut}
use Rattle.file_laws.specs.Rewriting.{StoredReplica, AreStored, AreReplicas, replicas_dropped, replicas_staled, KeepsSlot, Rewriting, MayRewrite, LeavesNoneGood, IsRewriting}
use Rattle.file_laws.specs.Removals.{Forgets, no_orphans}
use Rattle.file_laws.proofs.Members.{in_of}
use Rattle.file_laws.proofs.Puts.{put_plan}
use Rattle.file_laws.proofs.Plain.{trim}
use Rattle.file_laws.proofs.Turning.{turns_then}
use Rattle.file_laws.proofs.Fewer.{split_applied}
use Rattle.file_laws.proofs.Dropping.{drop_all}
use Rattle.file_laws.proofs.Staling.{stale_all}
use Rattle.file_laws.proofs.Removing.{turns_resource, forgets_replica}
use Rattle.file_laws.proofs.Rewritten.{written_over, replicated, copied}
use Rattle.file_laws.proofs.Forgetting.{forgets_all}

pub put_is_plan : (deltas : List Delta) (c mid end : Cat) (o : ObjectRow) (targets : List Target) (last : ℕ) (plan : Plan) (body : Text) → apply_all empty_cat deltas ≡ Ok c
    → has_object c o.id ≡ false → HasDigest o.size o.digest body → AreLeaves c targets → IsPut c o targets last plan → apply_all c plan.before ≡ Ok mid → apply_all mid plan.after ≡ Ok end → IsPlan c c c.stores plan body
put_is_plan deltas c mid end o targets last plan body made fresh has leaves put first then =
    put_plan c (sound-made deltas c made) c.stores refl o fresh body has targets (in_from_all (λ t. leaf_slot c t.leaf ≡ Some t.slot) targets leaves) last mid end
    (ap (apply_all c) (sym put.before) ∙ first) (ap (apply_all mid) (sym put.after) ∙ then) plan put.before put.files put.after put.spelled_first put.spelled_then

pub trim_is_plan : (deltas : List Delta) (c mid : Cat) (r : ReplicaRow) (slot : ℕ) (numbers : Numbers) (plan : Plan) (body : Text) → apply_all empty_cat deltas ≡ Ok c → Contains c.replicas r → leaf_slot c r.leaf ≡ Some slot → plan.files ≡ [] → plan.after ≡ []
    → plan.before ≡ delta.NoReplica r.object r.number ∷ delta.Orphan (record { vault = r.vault; slot = slot }) ∷ delta.Numbers numbers ∷ [] → IsTrue (list_all can_be_kept plan.before) → apply_all c plan.before ≡ Ok mid → IsPlan c c c.stores plan body
trim_is_plan deltas c mid r slot numbers plan body made here leaf files after before spelled first =
    trim c mid (sound-made deltas c made) r slot numbers c.stores plan body (in_of c.replicas r here) leaf before files after first spelled

pub gone_forgotten : (deltas : List Delta) (c d : Cat) (gone : List NewFile) → apply_all empty_cat deltas ≡ Ok c → AllByRecursion (λ f. Contains c.orphans (record { vault = f.name; slot = f.slot })) gone → apply_all c (no_orphans gone) ≡ Ok d → Forgets gone c d
gone_forgotten deltas c d gone made there e = forgets_all gone c d (all_from_in _ gone (λ f here y at same. its_slot f (in_of c.orphans (row_of f) (in_from_all (λ f. Contains c.orphans (row_of f)) gone there f here)) y at same)) e
  where
    row_of : NewFile → OrphanRow
    row_of f = record { vault = f.name; slot = f.slot }

    its_slot : (f : NewFile) → IsIn c.orphans (row_of f) → (y : OrphanRow) → IsIn c.orphans y → y.vault ≡ f.name → y.slot ≡ f.slot
    its_slot f here y at same = ap (λ (x : OrphanRow). x.slot) (one_number (λ (x : OrphanRow). x.vault) c.orphans y (row_of f) (sound-made deltas c made).cat.orphans.ordered at here same)

pub staged_then : (kept cat : Cat) (stores : ℕ) (plan : Plan) (body : Text) → Turns [] [] kept cat → IsPlan cat cat stores plan body → IsPlan kept cat stores plan body
staged_then kept cat stores plan body staged is = record {
  mid = is.mid;
  end = is.end;
  first = is.first;
  then = is.then;
  spelled_first = is.spelled_first;
  spelled_then = is.spelled_then;
  slots = is.slots;
  begins = turns_then [] [] kept cat is.mid staged is.begins;
  named = is.named;
  ends = is.ends;
}

pub dropped_turns : (deltas : List Delta) (made : List NewFile) (body : Text) (stored : List StoredReplica) (c d : Cat) → apply_all empty_cat deltas ≡ Ok c → AreStored c stored → apply_all c (replicas_dropped stored) ≡ Ok d → Turns made body c d
dropped_turns deltas made body stored c d is_made are applied =
    (drop_all made body stored c d (sound-made deltas c is_made) (λ f here.
    let its = in_from_all (λ (s : StoredReplica). Contains c.replicas s.row × (leaf_slot c s.row.leaf ≡ Some s.slot)) stored are f here in
    record { here = inl (in_of c.replicas f.row its.0); slot_is = its.1 }) applied).0

pub staled_turns : (deltas : List Delta) (made : List NewFile) (body : Text) (rows : List ReplicaRow) (c d : Cat) → apply_all empty_cat deltas ≡ Ok c → AreReplicas c rows → apply_all c (replicas_staled rows) ≡ Ok d → Turns made body c d
staled_turns deltas made body rows c d is_made are applied =
    (stale_all made body rows c d (sound-made deltas c is_made) (λ r here.
    let its = in_from_all (λ (x : ReplicaRow). Contains c.replicas x) rows are r here in
    record { here = inl (r, in_of c.replicas r its, (refl, refl), refl, refl) }) applied).0

pub resource_turns : (deltas : List Delta) (made : List NewFile) (body : Text) (r : ResourceRow) (c d : Cat) → apply_all empty_cat deltas ≡ Ok c → KeepsSlot c r → apply c (delta.Resource r) ≡ Ok d → Turns made body c d
resource_turns deltas made body r c d is_made keeps applied = turns_resource made body c d (sound-made deltas c is_made) r keeps applied

pub over_is_plan : (deltas : List Delta) (c mid end : Cat) (o : ObjectRow) (w : Rewriting) (plan : Plan) (body : Text) → apply_all empty_cat deltas ≡ Ok c → MayRewrite c o w → LeavesNoneGood c o w → HasDigest o.size o.digest body
    → IsRewriting c o (delta.Object o ∷ []) w plan → apply_all c plan.before ≡ Ok mid → apply_all mid plan.after ≡ Ok end → IsPlan c c c.stores plan body
over_is_plan deltas c mid end o w plan body is_made may leaves has is first then = written_over c (sound-made deltas c is_made) o w may leaves body has mid end plan is first then

pub repl_is_plan : (deltas : List Delta) (c mid end : Cat) (o : ObjectRow) (w : Rewriting) (plan : Plan) (body : Text) → apply_all empty_cat deltas ≡ Ok c → MayRewrite c o w → object c o.id ≡ Some o → HasDigest o.size o.digest body
    → IsRewriting c o [] w plan → apply_all c plan.before ≡ Ok mid → apply_all mid plan.after ≡ Ok end → IsPlan c c c.stores plan body
repl_is_plan deltas c mid end o w plan body is_made may found has is first then = replicated c (sound-made deltas c is_made) o w may found mid end plan is first then body has

pub copies_is_plan : (deltas : List Delta) (c mid end : Cat) (o : ObjectRow) (w : Rewriting) (plan : Plan) (from : OldFile) → apply_all empty_cat deltas ≡ Ok c → MayRewrite c o w → object c o.id ≡ Some o
    → from.size ≡ o.size → from.digest ≡ o.digest → from.name < c.numbers.next_vault → IsRewriting c o [] w plan → apply_all c plan.before ≡ Ok mid → apply_all mid plan.after ≡ Ok end → IsCopyPlan c c c.stores plan from
copies_is_plan deltas c mid end o w plan from is_made may found size digest old is first then = copied c (sound-made deltas c is_made) o w may found mid end plan is first then from size digest old

pub replica_forgotten : (deltas : List Delta) (r : ReplicaRow) (slot : ℕ) (c d : Cat) → apply_all empty_cat deltas ≡ Ok c → Contains c.replicas r → leaf_slot c r.leaf ≡ Some slot → apply c (delta.NoReplica r.object r.number) ≡ Ok d → Forgets (record { slot = slot; name = r.vault } ∷ []) c d
replica_forgotten deltas r slot c d is_made here at applied = forgets_replica c d (sound-made deltas c is_made) r slot (in_of c.replicas r here) at applied

pub split_turns : (made : List NewFile) (body : Text) (first more : List Delta) (c d : Cat) → apply_all c (first ++ more) ≡ Ok d
    → ((e : Cat) → apply_all c first ≡ Ok e → apply_all e more ≡ Ok d → Turns made body c e × Turns made body e d) → Turns made body c d
split_turns made body first more c d applied each =
    let mid = split_applied first more c d applied in
    let both = each mid.0 mid.1 mid.2 in
    turns_then made body c mid.0 d both.0 both.1
