-- An object with one replica is written over: its file becomes an orphan, and it gets new replicas.
use Rattle.std.proofs.Common.{◌≡◌, ℕ, ◌+◌, ◌<◌, true, List, [], ◌∷◌, ◌++◌, Some, Ok, refl, sym, ap, ◌∙◌, subst, eq-eqb}
use Rattle.std.specs.Prelude.{filter, not, ◌==◌}
use Rattle.std.proofs.lemmas.Bool.{and_from}
use Rattle.grid_model.specs.Digests.{HasDigest}
use Rattle.grid_model.specs.Names.{Text}
use Rattle.grid_model.specs.Rows.{Cat, object, with_row, object_cmp, orphan_cmp}
use Rattle.grid_model.specs.Applying.{apply, apply_all, is_replica, has_replica, orphan_fits, object_fits}
use Rattle.grid_model.specs.Whole.{leaf_slot}
use Rattle.grid_model.specs.declared.deltas.Delta.{Delta}
use Rattle.grid_model.specs.declared.deltas.Delta.TheVariants as delta
use Rattle.grid_model.specs.declared.deltas.ObjectRow.{ObjectRow}
use Rattle.grid_model.specs.declared.deltas.ReplicaRow.{ReplicaRow}
use Rattle.grid_model.specs.declared.deltas.OrphanRow.{OrphanRow}
use Rattle.grid_model.specs.declared.plans.NewFile.{NewFile}
use Rattle.tables_laws.proofs.Rows.{IsIn, in_from_filter, old_in_with_row}
use Rattle.tables_laws.proofs.Numbered.{same_number, put_found}
use Rattle.tables_laws.proofs.Sound.{IsSound, sound-apply, fits_so, after_first}
use Rattle.file_laws.specs.Plans.{Turns}
use Rattle.file_laws.specs.Puts.{Target, replicas_from}
use Rattle.file_laws.proofs.Puts.{AreThere, AreMade, turns_replicas}
use Rattle.file_laws.proofs.Turning.{turns_then, turns_as, turns_dropped, turns_object}

-- the orphans of the files stand there, once there is one of another number
there_more : (ts : List Target) (v : ℕ) (rows : List OrphanRow) (o : OrphanRow) → ((x : OrphanRow) → IsIn rows x → x.vault ≡ o.vault → ⊥) → AreThere v ts rows → AreThere v ts (with_row orphan_cmp rows o)
there_more [] v rows o apart there = tt
there_more (t ∷ ts) v rows o apart there = (old_in_with_row orphan_cmp rows o (record { vault = v; slot = t.slot }) there.0 (λ e. apart (record { vault = v; slot = t.slot }) there.0 (sym (same_number o.vault v e))), there_more ts (v + 1) rows o apart there.1)

module _ (made : List NewFile) (body : Text) (c end : Cat) (s : IsSound c) (r : ReplicaRow) (here : IsIn c.replicas r) (only : (y : ReplicaRow) → IsIn c.replicas y → y.object ≡ r.object → y ≡ r) (slot : ℕ) (leaf_is : leaf_slot c r.leaf ≡ Some slot)
    (o : ObjectRow) (its : o.id ≡ r.object) (has : HasDigest o.size o.digest body) (ts : List Target) (v : ℕ) (there : AreThere v ts c.orphans) (files : AreMade v ts made) (leaves : (t : Target) → IsIn ts t → leaf_slot c t.leaf ≡ Some t.slot) (more : List Delta)
    (applied : apply_all c (delta.NoReplica r.object r.number ∷ delta.Orphan (record { vault = r.vault; slot = slot }) ∷ delta.Object o ∷ (replicas_from o 0 v ts ++ more)) ≡ Ok end) where
  abbrev left : OrphanRow
  left = record { vault = r.vault; slot = slot }

  abbrev dropped : Cat
  dropped = record c { replicas = filter (λ q. not (is_replica r.object r.number q)) c.replicas; orphans = with_row orphan_cmp c.orphans left }

  abbrev changed : Cat
  changed = record dropped { objects = with_row object_cmp c.objects o }

  none_left : (y : ReplicaRow) → IsIn dropped.replicas y → y.object ≡ o.id → ⊥
  none_left y there is =
      let old = in_from_filter (λ q. not (is_replica r.object r.number q)) c.replicas y there in
      let same : y ≡ r = only y old.0 (is ∙ its) in
      let object : (y.object == r.object) ≡ true = eq-eqb y.object r.object (ap (λ (q : ReplicaRow). q.object) same) in
      let number : (y.number == r.number) ≡ true = eq-eqb y.number r.number (ap (λ (q : ReplicaRow). q.number) same) in
      let both : is_replica r.object r.number y ≡ true = and_from (y.object == r.object) (y.number == r.number) object number in
      let off : not (is_replica r.object r.number y) ≡ true = old.1 in
      cc

  -- and then come the other changes
  pub turns_over : (e : Cat) × Turns made body c e × (apply_all e more ≡ Ok end)
  turns_over =
      let one = after_first (apply c (delta.NoReplica r.object r.number)) (delta.Orphan left ∷ delta.Object o ∷ (replicas_from o 0 v ts ++ more)) end applied in
      let two = after_first (apply one.0 (delta.Orphan left)) (delta.Object o ∷ (replicas_from o 0 v ts ++ more)) end one.2 in
      let three = after_first (apply two.0 (delta.Object o)) (replicas_from o 0 v ts ++ more) end two.2 in
      let gone = fits_so (has_replica c r.object r.number) 10 (record c { replicas = filter (λ q. not (is_replica r.object r.number q)) c.replicas }) one.0 one.1 in
      let orphan = fits_so (orphan_fits one.0 left) 17 (record one.0 { orphans = with_row orphan_cmp one.0.orphans left }) two.0 two.1 in
      let named = fits_so (object_fits two.0 o) 7 (record two.0 { objects = with_row object_cmp two.0.objects o }) three.0 three.1 in
      let F : Cat → Type 0 = λ y. record y { orphans = with_row orphan_cmp y.orphans left } ≡ two.0 in
      let is_dropped : dropped ≡ two.0 = subst F (sym gone.1) orphan.1 in
      let G : Cat → Type 0 = λ y. record y { objects = with_row object_cmp y.objects o } ≡ three.0 in
      let is : changed ≡ three.0 = subst G (sym is_dropped) named.1 in
      let sound : IsSound three.0 = sound-apply two.0 three.0 (delta.Object o) (sound-apply one.0 two.0 (delta.Orphan left) (sound-apply c one.0 (delta.NoReplica r.object r.number) s one.1) two.1) three.1 in
      let T : Cat → Type 0 = λ y. AreThere v ts y.orphans in
      let L : Cat → Type 0 = λ y. (u : Target) → IsIn ts u → leaf_slot y u.leaf ≡ Some u.slot in
      let O : Cat → Type 0 = λ y. object y o.id ≡ Some o in
      let B : Cat → Type 0 = λ y. (z : ReplicaRow) → IsIn y.replicas z → z.object ≡ o.id → z.number < 0 in
      let rest = turns_replicas made body o has ts 0 v three.0 end sound (subst T is (there_more ts v c.orphans left (λ x at e. s.vaults.apart r x here at e) there)) files (subst L is leaves) (subst O is (put_found (λ (x : ObjectRow). x.id) c.objects o))
      (subst B is (λ z at e. absurd (none_left z at e))) more three.2 in (
        rest.0,
        turns_then made body c dropped rest.0 (turns_dropped made body c s r here left refl leaf_is)
            (turns_then made body dropped three.0 rest.0 (turns_as made body dropped changed three.0 is (turns_object made body dropped o (λ y at good e. absurd (none_left y at e)))) rest.1),
        rest.2,
      )
