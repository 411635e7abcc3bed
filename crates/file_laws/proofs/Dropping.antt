-- Replicas go: their files become orphans.
use Rattle.std.proofs.Common.{◌≡◌, ◌⊎◌, inl, inr, ℕ, Bool, true, false, List, [], ◌∷◌, Some, Ok, refl, sym, ap, ◌∙◌, subst, eq-eqb, eqb-true}
use Rattle.std.specs.Prelude.{◌==◌, not, filter}
use Rattle.std.proofs.lemmas.Bool.{and_parts, and_from}
use Rattle.grid_model.specs.Names.{Text}
use Rattle.grid_model.specs.Rows.{Cat, orphan_cmp, with_row}
use Rattle.grid_model.specs.Applying.{apply, apply_all, has_replica, is_replica, orphan_fits}
use Rattle.grid_model.specs.Whole.{leaf_slot}
use Rattle.grid_model.specs.declared.deltas.Delta.TheVariants as delta
use Rattle.grid_model.specs.declared.deltas.OrphanRow.{OrphanRow}
use Rattle.grid_model.specs.declared.deltas.ReplicaRow.{ReplicaRow}
use Rattle.grid_model.specs.declared.plans.NewFile.{NewFile}
use Rattle.tables_laws.proofs.Rows.{IsIn, in_from_filter, filter_from_in, new_in_with_row, old_in_with_row}
use Rattle.tables_laws.proofs.Numbered.{same_number}
use Rattle.tables_laws.proofs.Sound.{IsSound, sound-apply, fits_so, ok-same, after_first}
use Rattle.file_laws.specs.Plans.{Turns}
use Rattle.file_laws.specs.Rewriting.{StoredReplica, replicas_dropped}
use Rattle.file_laws.proofs.Turning.{turns_then, turns_self, turns_as, turns_dropped, no_orphan, true_or_not}
use Rattle.file_laws.proofs.Fewer.{Fewer, fewer_self, fewer_as, fewer_then, HasKey, same_row, slot_as, apply_step}

-- the orphan that it leaves
abbrev pub orphan_of : StoredReplica → OrphanRow
orphan_of s = record { vault = s.row.vault; slot = s.slot }

-- it is a replica on a leaf of its slot, or its file is an orphan already
pub record IsHeldBy (c : Cat) (s : StoredReplica) : Type 0 where
  pub here : IsIn c.replicas s.row ⊎ IsIn c.orphans (orphan_of s)
  pub slot_is : leaf_slot c s.row.leaf ≡ Some s.slot

-- Replicas with these keys are gone.
pub record Dropped (c : Cat) (stored : List StoredReplica) (d : Cat) : Type 0 where
  pub sound : IsSound d
  pub fewer : Fewer c d
  pub gone : (s : StoredReplica) → IsIn stored s → (r : ReplicaRow) → IsIn d.replicas r → HasKey r s.row.object s.row.number → ⊥
  -- each replica stays, or its file is an orphan
  pub stays : (r : ReplicaRow) → IsIn c.replicas r → IsIn d.replicas r ⊎ ((x : OrphanRow) × IsIn d.orphans x × (x.vault ≡ r.vault))

module _ (made : List NewFile) (body : Text) where
  module _ (c d : Cat) (s : IsSound c) (f : StoredReplica) (held : IsHeldBy c f) (applied : apply_all c (delta.NoReplica f.row.object f.row.number ∷ delta.Orphan (orphan_of f) ∷ []) ≡ Ok d) where
    one : (e : Cat) × (apply c (delta.NoReplica f.row.object f.row.number) ≡ Ok e) × (apply_all e (delta.Orphan (orphan_of f) ∷ []) ≡ Ok d)
    one = after_first (apply c (delta.NoReplica f.row.object f.row.number)) (delta.Orphan (orphan_of f) ∷ []) d applied

    two : (e : Cat) × (apply one.0 (delta.Orphan (orphan_of f)) ≡ Ok e) × (apply_all e [] ≡ Ok d)
    two = after_first (apply one.0 (delta.Orphan (orphan_of f))) [] d one.2

    abbrev other_key : ReplicaRow → Bool
    other_key q = not (is_replica f.row.object f.row.number q)

    left_out : record c { replicas = filter (λ q. not (is_replica f.row.object f.row.number q)) c.replicas } ≡ one.0
    left_out = (fits_so (has_replica c f.row.object f.row.number) 10 (record c { replicas = filter (λ q. not (is_replica f.row.object f.row.number q)) c.replicas }) one.0 one.1).1

    orphaned : (orphan_fits one.0 (orphan_of f) ≡ true) × (record one.0 { orphans = with_row orphan_cmp one.0.orphans (orphan_of f) } ≡ two.0)
    orphaned = fits_so (orphan_fits one.0 (orphan_of f)) 17 (record one.0 { orphans = with_row orphan_cmp one.0.orphans (orphan_of f) }) two.0 two.1

    abbrev after : Cat
    after = record c { replicas = filter (λ q. not (is_replica f.row.object f.row.number q)) c.replicas; orphans = with_row orphan_cmp c.orphans (orphan_of f) }

    is_after : after ≡ d
    is_after =
        let F : Cat → Type 0 = λ y. record y { orphans = with_row orphan_cmp y.orphans (orphan_of f) } ≡ two.0 in
        subst F (sym left_out) orphaned.1 ∙ ok-same two.0 d (apply_all two.0 []) refl two.2

    -- its file is no orphan yet
    no_orphan_yet : (x : OrphanRow) → IsIn c.orphans x → x.vault ≡ f.row.vault → ⊥
    no_orphan_yet x here same =
        let O : Cat → Type 0 = λ y. IsIn y.orphans x in
        no_orphan [] [] one.0 (orphan_of f) orphaned.0 x (subst O left_out here) same

    its_row : IsIn c.replicas f.row
    its_row = elim held.here [ inl here ↦ here | inr orphan ↦ absurd (no_orphan_yet (orphan_of f) orphan refl) ]

    step_turns : Turns made body c d
    step_turns = turns_as made body c after d is_after (turns_dropped made body c s f.row its_row (orphan_of f) refl held.slot_is)

    step_fewer : Fewer c d
    step_fewer = fewer_as c after d is_after (record {
      objects = refl;
      resources = refl;
      orphans = λ x here. old_in_with_row orphan_cmp c.orphans (orphan_of f) x here (λ e. no_orphan_yet x here (sym (same_number f.row.vault x.vault e)));
      good = λ r here is. (in_from_filter other_key c.replicas r here).0;
      keys = λ r here. (r, (in_from_filter other_key c.replicas r here).0, (refl, refl));
    })

    step_gone : (r : ReplicaRow) → IsIn d.replicas r → HasKey r f.row.object f.row.number → ⊥
    step_gone r here key =
        let D : Cat → Type 0 = λ y. IsIn y.replicas r in
        let kept : not (is_replica f.row.object f.row.number r) ≡ true = (in_from_filter other_key c.replicas r (subst D (sym is_after) here)).1 in
        let its : is_replica f.row.object f.row.number r ≡ true = and_from (r.object == f.row.object) (r.number == f.row.number) (eq-eqb r.object f.row.object key.0) (eq-eqb r.number f.row.number key.1) in
        cc

    step_stays : (r : ReplicaRow) → IsIn c.replicas r → IsIn d.replicas r ⊎ (r ≡ f.row) × IsIn d.orphans (orphan_of f)
    step_stays r here = by (true_or_not (is_replica f.row.object f.row.number r))
      where
        D : Cat → Type 0
        D y = IsIn y.replicas r

        O : Cat → Type 0
        O y = IsIn y.orphans (orphan_of f)

        by : (is_replica f.row.object f.row.number r ≡ true) ⊎ (is_replica f.row.object f.row.number r ≡ false) → IsIn d.replicas r ⊎ (r ≡ f.row) × IsIn d.orphans (orphan_of f)
        by (inl its) =
            let key = and_parts (r.object == f.row.object) (r.number == f.row.number) its in
            inr (same_row c s r f.row here its_row (eqb-true r.object f.row.object key.0, eqb-true r.number f.row.number key.1), subst O is_after (new_in_with_row orphan_cmp c.orphans (orphan_of f)))
        by (inr apart) = inl (subst D is_after (filter_from_in other_key c.replicas r here (ap not apart)))

    step_sound : IsSound d
    step_sound = let P : Cat → Type 0 = λ y. IsSound y in subst P (ok-same two.0 d (apply_all two.0 []) refl two.2) (sound-apply one.0 two.0 (delta.Orphan (orphan_of f)) (sound-apply c one.0 (delta.NoReplica f.row.object f.row.number) s one.1) two.1)

    -- what holds of another one still does
    step_held : (g : StoredReplica) → IsHeldBy c g → IsHeldBy d g
    step_held g its = record { here = by its.here; slot_is = slot_as c d step_fewer.resources g.row.leaf ∙ its.slot_is }
      where
        one_place : (a b : ℕ) → leaf_slot c g.row.leaf ≡ Some a → leaf_slot c g.row.leaf ≡ Some b → a ≡ b
        one_place a b p q = let both : Some a ≡ Some b = sym p ∙ q in cc

        by : IsIn c.replicas g.row ⊎ IsIn c.orphans (orphan_of g) → IsIn d.replicas g.row ⊎ IsIn d.orphans (orphan_of g)
        by (inr orphan) = inr (step_fewer.orphans (orphan_of g) orphan)
        by (inl here) = elim (step_stays g.row here) [
          | inl stays ↦ inl stays
          | inr went ↦
              let slots : f.slot ≡ g.slot = one_place f.slot g.slot (ap (λ (r : ReplicaRow). leaf_slot c r.leaf) went.0 ∙ held.slot_is) its.slot_is in
              let V : OrphanRow → Type 0 = λ x. IsIn d.orphans x in
              let same : orphan_of f ≡ orphan_of g = λ i. record { vault = (sym went.0 i).vault; slot = slots i } in
              inr (subst V same went.1)
        ]

  pub drop_all : (stored : List StoredReplica) (c d : Cat) → IsSound c → ((s : StoredReplica) → IsIn stored s → IsHeldBy c s) → apply_all c (replicas_dropped stored) ≡ Ok d → Turns made body c d × Dropped c stored d
  drop_all [] c d s held applied =
      let same = ok-same c d (apply_all c []) refl applied in
      let P : Cat → Type 0 = λ x. Dropped c [] x in
      (turns_as made body c c d same (turns_self made body c), subst P same (record { sound = s; fewer = fewer_self c; gone = λ f none. absurd none; stays = λ r here. inl here }))
  drop_all (f ∷ stored) c d s held applied =
      let one = after_first (apply c (delta.NoReplica f.row.object f.row.number)) (delta.Orphan (orphan_of f) ∷ replicas_dropped stored) d applied in
      let two = after_first (apply one.0 (delta.Orphan (orphan_of f))) (replicas_dropped stored) d one.2 in
      let first : apply_all c (delta.NoReplica f.row.object f.row.number ∷ delta.Orphan (orphan_of f) ∷ []) ≡ Ok two.0 = apply_step (delta.NoReplica f.row.object f.row.number) (delta.Orphan (orphan_of f) ∷ []) c one.0 one.1 ∙ apply_step (delta.Orphan (orphan_of f)) [] one.0 two.0 two.1 in
      let its = held f (inl refl) in
      let rest = drop_all stored two.0 d (step_sound c two.0 s f its first) (λ g later. step_held c two.0 s f its first g (held g (inr later))) two.2 in
      let fewer = step_fewer c two.0 s f its first in (
        turns_then made body c two.0 d (step_turns c two.0 s f its first) rest.0,
        record {
          sound = rest.1.sound;
          fewer = fewer_then c two.0 d fewer rest.1.fewer;
          gone = λ g which r here key. elim which [
            | inl is ↦
                let was = rest.1.fewer.keys r here in
                step_gone c two.0 s f its first was.0 was.1 (was.2.0 ∙ key.0 ∙ ap (λ (x : StoredReplica). x.row.object) (sym is), was.2.1 ∙ key.1 ∙ ap (λ (x : StoredReplica). x.row.number) (sym is))
            | inr later ↦ rest.1.gone g later r here key
          ];
          stays = λ r here. elim (step_stays c two.0 s f its first r here) [
            | inl still ↦ rest.1.stays r still
            | inr went ↦ inr (orphan_of f, rest.1.fewer.orphans (orphan_of f) went.1, ap (λ (q : ReplicaRow). q.vault) (sym went.0))
          ];
        },
      )
