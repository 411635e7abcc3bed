-- Files that were orphans become an object's replicas, under numbers that none of it has.
use Rattle.std.proofs.Common.{◌≡◌, inl, inr, ℕ, ◌+◌, true, List, [], ◌∷◌, Some, Ok, refl, sym, ap, ◌∙◌, subst, arith}
use Rattle.std.specs.Prelude.{◌≢◌, ◌==◌, not, filter}
use Rattle.std.specs.List.{AllByRecursion}
use Rattle.std.specs.declared.cmp.Ordering.TheVariants.{Equal}
use Rattle.grid_model.specs.Digests.{HasDigest}
use Rattle.grid_model.specs.Names.{Text}
use Rattle.grid_model.specs.Rows.{Cat, object, replica_cmp, with_row}
use Rattle.grid_model.specs.Applying.{apply, apply_all, has_orphan, replica_fits}
use Rattle.grid_model.specs.declared.deltas.Delta.TheVariants as delta
use Rattle.grid_model.specs.declared.deltas.ObjectRow.{ObjectRow}
use Rattle.grid_model.specs.declared.deltas.OrphanRow.{OrphanRow}
use Rattle.grid_model.specs.declared.deltas.ReplicaRow.{ReplicaRow}
use Rattle.grid_model.specs.declared.plans.NewFile.{NewFile}
use Rattle.tables_laws.proofs.Rows.{IsIn, in_from_with_row}
use Rattle.tables_laws.proofs.Numbered.{one_number}
use Rattle.tables_laws.proofs.Sound.{IsSound, sound-apply, fits_so, ok-same, after_first}
use Rattle.file_laws.specs.Plans.{new_file, Turns}
use Rattle.file_laws.specs.Rewriting.{NumberedTarget, AreNumbered, replicas_placed, targets_of}
use Rattle.file_laws.proofs.Puts.{AreThere, AreMade, past}
use Rattle.file_laws.proofs.Turning.{turns_then, turns_self, turns_as, turns_filed, same_key}
use Rattle.file_laws.proofs.Fewer.{slot_as}

-- no replica of the object has one of these numbers
abbrev pub AreFree : Cat → ObjectRow → List NumberedTarget → Type 0
AreFree c o ts = (r : ReplicaRow) → IsIn c.replicas r → r.object ≡ o.id → AllByRecursion (λ (t : NumberedTarget). t.number ≢ r.number) ts

pub numbered_as : (c d : Cat) → d.resources ≡ c.resources → (ts : List NumberedTarget) → AreNumbered c ts → AreNumbered d ts
numbered_as c d same [] all = tt
numbered_as c d same (t ∷ ts) all = (slot_as c d same t.target.leaf ∙ all.0, all.1, numbered_as c d same ts all.2)

module _ (made : List NewFile) (body : Text) (o : ObjectRow) where
  pub place_all : (ts : List NumberedTarget) → (ts ≢ [] → HasDigest o.size o.digest body) → (v : ℕ) (c d : Cat) → IsSound c → AreThere v (targets_of ts) c.orphans → AreMade v (targets_of ts) made → AreNumbered c ts → object c o.id ≡ Some o → AreFree c o ts
      → apply_all c (replicas_placed o v ts) ≡ Ok d → Turns made body c d
  place_all [] has v c d s there files leaves found free applied = turns_as made body c c d (ok-same c d (apply_all c []) refl applied) (turns_self made body c)
  place_all (t ∷ ts) has v c d s there files leaves found free applied =
      let r : ReplicaRow = record { object = o.id; number = t.number; leaf = t.target.leaf; good = true; size = o.size; digest = o.digest; vault = v } in
      let x : OrphanRow = record { vault = v; slot = t.target.slot } in
      let one = after_first (apply c (delta.NoOrphan v)) (delta.Replica r ∷ replicas_placed o (v + 1) ts) d applied in
      let two = after_first (apply one.0 (delta.Replica r)) (replicas_placed o (v + 1) ts) d one.2 in
      let left = fits_so (has_orphan c v) 18 (record c { orphans = filter (λ o. not (o.vault == v)) c.orphans }) one.0 one.1 in
      let kept = fits_so (replica_fits one.0 r) 9 (record one.0 { replicas = with_row replica_cmp one.0.replicas r }) two.0 two.1 in
      let filed : Cat = record c { replicas = with_row replica_cmp c.replicas r; orphans = filter (λ o. not (o.vault == v)) c.orphans } in
      let F : Cat → Type 0 = λ y. record y { replicas = with_row replica_cmp y.replicas r } ≡ two.0 in
      let is : filed ≡ two.0 = subst F (sym left.1) kept.1 in
      let new : (y : ReplicaRow) → IsIn c.replicas y → replica_cmp r y ≡ Equal → ⊥ = λ y here same. (let k = same_key r y same in (free y here (sym k.0)).0 k.1) in
      let step : Turns made body c filed = turns_filed made body c x there.0 (λ y here e. one_number (λ (o : OrphanRow). o.vault) c.orphans y x s.cat.orphans.ordered here there.0 e) r refl leaves.0 new (λ good. record { row = o; there = found; size = refl; digest = refl }) (λ good. new_file files.0 (has (λ e. absurd cc))) in
      let T : Cat → Type 0 = λ y. AreThere (v + 1) (targets_of ts) y.orphans in
      let L : Cat → Type 0 = λ y. AreNumbered y ts in
      let O : Cat → Type 0 = λ y. object y o.id ≡ Some o in
      let B : Cat → Type 0 = λ y. AreFree y o ts in
      let rest = place_all ts (λ some. has (λ e. absurd cc)) (v + 1) two.0 d (sound-apply one.0 two.0 (delta.Replica r) (sound-apply c one.0 (delta.NoOrphan v) s one.1) two.1)
      (subst T is (past (targets_of ts) (v + 1) v c.orphans (omega arith) there.1)) files.1 (subst L is (numbered_as c filed refl ts leaves.2)) (subst O is found)
      (subst B is (λ z here its. elim (in_from_with_row replica_cmp c.replicas r z here) [
        | inl same ↦ (let N : ℕ → Type 0 = λ n. AllByRecursion (λ (u : NumberedTarget). u.number ≢ n) ts in subst N (ap (λ (y : ReplicaRow). y.number) same) leaves.1)
        | inr was ↦ (free z was its).1
      ])) two.2 in
      turns_then made body c two.0 d (turns_as made body c filed two.0 is step) rest
