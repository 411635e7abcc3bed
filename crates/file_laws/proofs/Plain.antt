-- Plans without new files: mere changes, and the trimming of a replica. And a body that is put on one leaf, or on three.
use Rattle.std.proofs.Common.{◌≡◌, inl, inr, ℕ, ◌<◌, false, List, [], ◌∷◌, Ok, IsTrue, refl, sym, ap, ◌∙◌, subst, arith}
use Rattle.std.specs.Prelude.{All, filter, not, Some}
use Rattle.std.specs.List.{list_all}
use Rattle.grid_model.specs.Digests.{HasDigest}
use Rattle.grid_model.specs.Names.{Text}
use Rattle.grid_model.specs.Rows.{Cat, has_object, with_row, orphan_cmp}
use Rattle.grid_model.specs.Applying.{apply, apply_all, is_replica, has_replica, orphan_fits}
use Rattle.grid_model.specs.Whole.{leaf_slot, IsNamed}
use Rattle.grid_model.specs.declared.deltas.Delta.{Delta}
use Rattle.grid_model.specs.declared.deltas.Delta.TheVariants as delta
use Rattle.grid_model.specs.declared.deltas.ObjectRow.{ObjectRow}
use Rattle.grid_model.specs.declared.deltas.ReplicaRow.{ReplicaRow}
use Rattle.grid_model.specs.declared.deltas.OrphanRow.{OrphanRow}
use Rattle.grid_model.specs.declared.deltas.Numbers.{Numbers}
use Rattle.grid_model.specs.declared.plans.NewFile.{NewFile}
use Rattle.grid_model.specs.declared.plans.Plan.{Plan}
use Rattle.grid_journal.specs.Journal.{can_be_kept}
use Rattle.grid_vault.specs.Vault.{IsAmong}
use Rattle.tables_laws.proofs.Rows.{IsIn}
use Rattle.tables_laws.proofs.Sound.{IsSound, fits_so, ok-same, after_first}
use Rattle.file_laws.specs.Plans.{Turns, IsPlan, names_no_file}
use Rattle.file_laws.proofs.Members.{no_files}
use Rattle.file_laws.specs.Puts.{Target, files_from, put_before, put_after}
use Rattle.file_laws.proofs.Turning.{turns_then, turns_self, turns_as, turns_apply, turns_apply_all, turns_dropped}
use Rattle.file_laws.proofs.Puts.{put_plan}

-- a plan that makes no file, where the first changes keep each file named
pub one_commit : (kept cat mid : Cat) (stores : ℕ) (plan : Plan) (body : Text) → plan.files ≡ [] → plan.after ≡ [] → apply_all cat plan.before ≡ Ok mid → IsTrue (list_all can_be_kept plan.before) → Turns [] [] kept mid → IsPlan kept cat stores plan body
one_commit kept cat mid stores plan body no_files_are none first spelled turns =
    let F : List NewFile → Type 0 = λ fs. (slot name : ℕ) → IsAmong fs slot name → IsNamed mid slot name in
    let S : List NewFile → Type 0 = λ fs. All (λ f. f.slot < stores) fs in
    let K : List Delta → Type 0 = λ ds. IsTrue (list_all can_be_kept ds) in
    record {
      mid = mid;
      end = mid;
      first = first;
      then = ap (apply_all mid) none;
      spelled_first = spelled;
      spelled_then = subst K (sym none) refl;
      slots = subst S (sym no_files_are) (λ k f within. absurd (omega (arith, within)));
      begins = turns;
      named = subst F (sym no_files_are) (λ slot name a. absurd (no_files slot name a));
      ends = turns_self plan.files body mid;
    }

-- changes of rows that name no file, behind staged ones that name none
pub mere_change : (kept cat mid : Cat) (staged : List Delta) (stores : ℕ) (plan : Plan) (body : Text) → apply_all kept staged ≡ Ok cat → IsTrue (list_all names_no_file staged) → plan.files ≡ [] → plan.after ≡ [] → IsTrue (list_all names_no_file plan.before)
    → apply_all cat plan.before ≡ Ok mid → IsTrue (list_all can_be_kept plan.before) → IsPlan kept cat stores plan body
mere_change kept cat mid staged stores plan body before unnamed files none also first spelled =
    one_commit kept cat mid stores plan body files none first spelled (turns_then [] [] kept cat mid (turns_apply_all [] [] staged kept cat unnamed before) (turns_apply_all [] [] plan.before cat mid also first))

-- a replica is trimmed: its row is taken away, and its file is an orphan
pub trim : (c mid : Cat) (s : IsSound c) (r : ReplicaRow) (slot : ℕ) (numbers : Numbers) (stores : ℕ) (plan : Plan) (body : Text) → IsIn c.replicas r → leaf_slot c r.leaf ≡ Some slot
    → plan.before ≡ delta.NoReplica r.object r.number ∷ delta.Orphan (record { vault = r.vault; slot = slot }) ∷ delta.Numbers numbers ∷ [] → plan.files ≡ [] → plan.after ≡ []
    → apply_all c plan.before ≡ Ok mid → IsTrue (list_all can_be_kept plan.before) → IsPlan c c stores plan body
trim c mid s r slot numbers stores plan body here leaf before files none first spelled =
    let o : OrphanRow = record { vault = r.vault; slot = slot } in
    let applied : apply_all c (delta.NoReplica r.object r.number ∷ delta.Orphan o ∷ delta.Numbers numbers ∷ []) ≡ Ok mid = ap (apply_all c) (sym before) ∙ first in
    let one = after_first (apply c (delta.NoReplica r.object r.number)) (delta.Orphan o ∷ delta.Numbers numbers ∷ []) mid applied in
    let two = after_first (apply one.0 (delta.Orphan o)) (delta.Numbers numbers ∷ []) mid one.2 in
    let three = after_first (apply two.0 (delta.Numbers numbers)) [] mid two.2 in
    let gone = fits_so (has_replica c r.object r.number) 10 (record c { replicas = filter (λ q. not (is_replica r.object r.number q)) c.replicas }) one.0 one.1 in
    let left = fits_so (orphan_fits one.0 o) 17 (record one.0 { orphans = with_row orphan_cmp one.0.orphans o }) two.0 two.1 in
    let F : Cat → Type 0 = λ y. record y { orphans = with_row orphan_cmp y.orphans o } ≡ two.0 in
    let is : record c { replicas = filter (λ q. not (is_replica r.object r.number q)) c.replicas; orphans = with_row orphan_cmp c.orphans o } ≡ two.0 = subst F (sym gone.1) left.1 in
    one_commit c c mid stores plan body files none first spelled
    (turns_then [] [] c two.0 mid (turns_as [] [] c (record c { replicas = filter (λ q. not (is_replica r.object r.number q)) c.replicas; orphans = with_row orphan_cmp c.orphans o }) two.0 is (turns_dropped [] [] c s r here o refl leaf))
    (turns_as [] [] two.0 three.0 mid (ok-same three.0 mid (apply_all three.0 []) refl three.2) (turns_apply [] [] two.0 three.0 (delta.Numbers numbers) refl three.1)))

-- ---- a new object on one leaf, and on three

module _ (c : Cat) (s : IsSound c) (stores : ℕ) (stores_are : c.stores ≡ stores) (o : ObjectRow) (fresh : has_object c o.id ≡ false) (body : Text) (has : HasDigest o.size o.digest body) (n : ℕ) (mid end : Cat) (plan : Plan) (spelled_first : IsTrue (list_all can_be_kept plan.before)) (spelled_then : IsTrue (list_all can_be_kept plan.after)) where
  pub put_on_one : (a : Target) → leaf_slot c a.leaf ≡ Some a.slot → apply_all c (put_before c (a ∷ [])) ≡ Ok mid → apply_all mid (put_after c o (a ∷ []) n) ≡ Ok end
      → plan.before ≡ put_before c (a ∷ []) → plan.files ≡ files_from c.numbers.next_vault (a ∷ []) → plan.after ≡ put_after c o (a ∷ []) n → IsPlan c c stores plan body
  put_on_one a at first then before files after = put_plan c s stores stores_are o fresh body has (a ∷ []) (λ t here. by t here) n mid end first then plan before files after spelled_first spelled_then
    where
      by : (t : Target) → IsIn (a ∷ []) t → leaf_slot c t.leaf ≡ Some t.slot
      by t (inl is) = let P : Target → Type 0 = λ x. leaf_slot c x.leaf ≡ Some x.slot in subst P is at
      by t (inr none) = absurd none

  pub put_on_three : (a b d : Target) → leaf_slot c a.leaf ≡ Some a.slot → leaf_slot c b.leaf ≡ Some b.slot → leaf_slot c d.leaf ≡ Some d.slot
      → apply_all c (put_before c (a ∷ b ∷ d ∷ [])) ≡ Ok mid → apply_all mid (put_after c o (a ∷ b ∷ d ∷ []) n) ≡ Ok end
      → plan.before ≡ put_before c (a ∷ b ∷ d ∷ []) → plan.files ≡ files_from c.numbers.next_vault (a ∷ b ∷ d ∷ []) → plan.after ≡ put_after c o (a ∷ b ∷ d ∷ []) n → IsPlan c c stores plan body
  put_on_three a b d at_a at_b at_d first then before files after = put_plan c s stores stores_are o fresh body has (a ∷ b ∷ d ∷ []) (λ t here. by t here) n mid end first then plan before files after spelled_first spelled_then
    where
      P : Target → Type 0
      P x = leaf_slot c x.leaf ≡ Some x.slot

      by : (t : Target) → IsIn (a ∷ b ∷ d ∷ []) t → leaf_slot c t.leaf ≡ Some t.slot
      by t (inl is) = subst P is at_a
      by t (inr (inl is)) = subst P is at_b
      by t (inr (inr (inl is))) = subst P is at_d
      by t (inr (inr (inr none))) = absurd none
