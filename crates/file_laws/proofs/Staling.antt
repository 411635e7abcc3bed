-- Replicas are no longer good.
use Rattle.std.proofs.Common.{◌≡◌, ◌⊎◌, inl, inr, ℕ, true, false, List, [], ◌∷◌, Ok, IsTrue, refl, sym, ap, ◌∙◌, subst, eq-eqb}
use Rattle.std.specs.Prelude.{◌==◌, ◌&&◌, not, nat_lt}
use Rattle.std.specs.List.{list_any}
use Rattle.std.proofs.lemmas.Bool.{and_parts, not-true}
use Rattle.grid_model.specs.Names.{Text}
use Rattle.grid_model.specs.Rows.{Cat, replica_cmp, with_row}
use Rattle.grid_model.specs.Applying.{apply, apply_all, is_drawn, is_replica, replica_fits}
use Rattle.grid_model.specs.Whole.{leaf_slot, IsLikeObject, Naming, by_replica, by_orphan, Names}
use Rattle.grid_model.specs.declared.deltas.Delta.TheVariants as delta
use Rattle.grid_model.specs.declared.deltas.OrphanRow.{OrphanRow}
use Rattle.grid_model.specs.declared.deltas.ReplicaRow.{ReplicaRow}
use Rattle.grid_model.specs.declared.plans.NewFile.{NewFile}
use Rattle.tables_laws.proofs.Rows.{IsIn, in_from_all, all_from_in, in_from_with_row, new_in_with_row, old_in_with_row}
use Rattle.tables_laws.proofs.Sound.{IsSound, sound-apply, fits_so, ok-same, after_first}
use Rattle.tables_laws.proofs.Forest.{none_in}
use Rattle.file_laws.specs.Plans.{Turns}
use Rattle.file_laws.specs.Rewriting.{replicas_staled}
use Rattle.file_laws.proofs.Members.{in_of, contains_of}
use Rattle.file_laws.proofs.Turning.{file_as_before, turns_then, turns_self, turns_as, key_or_not}
use Rattle.file_laws.proofs.Fewer.{Fewer, fewer_self, fewer_as, fewer_then, HasKey, same_row, turns_sound}

-- A replica with its key has its file on a leaf of the same slot, or its file is an orphan.
pub record HasItsFile (c : Cat) (r : ReplicaRow) : Type 0 where
  pub here : ((q : ReplicaRow) × IsIn c.replicas q × HasKey q r.object r.number × (q.vault ≡ r.vault) × (leaf_slot c q.leaf ≡ leaf_slot c r.leaf)) ⊎ ((x : OrphanRow) × IsIn c.orphans x × (x.vault ≡ r.vault))

-- what a replica asks of the orphans
no_orphan_of : (c : Cat) (r : ReplicaRow) → replica_fits c r ≡ true → (x : OrphanRow) → IsIn c.orphans x → x.vault ≡ r.vault → ⊥
no_orphan_of c r fits x here is =
    let front = (and_parts _ (not (list_any (λ o. (o.vault == r.vault) && not (is_replica r.object r.number o)) c.replicas)) fits).0 in
    let drawn = (and_parts _ (is_drawn c r.vault) front).1 in
    none_in (λ o. o.vault == r.vault) c.orphans (not-true _ (and_parts (nat_lt 0 r.vault && nat_lt r.vault c.numbers.next_vault) (not (list_any (λ o. o.vault == r.vault) c.orphans)) drawn).1) x here (eq-eqb x.vault r.vault is)

-- Replicas with these keys are not good.
pub record Staled (c : Cat) (rows : List ReplicaRow) (d : Cat) : Type 0 where
  pub sound : IsSound d
  pub fewer : Fewer c d
  pub stale : (s : ReplicaRow) → IsIn rows s → (r : ReplicaRow) → IsIn d.replicas r → IsTrue r.good → HasKey r s.object s.number → ⊥

module _ (made : List NewFile) (body : Text) where
  module _ (c d : Cat) (s : IsSound c) (r : ReplicaRow) (held : HasItsFile c r) (applied : apply c (delta.Replica (record r { good = false })) ≡ Ok d) where
    abbrev old : ReplicaRow
    old = record r { good = false }

    abbrev after : Cat
    after = record c { replicas = with_row replica_cmp c.replicas old }

    fits : (replica_fits c old ≡ true) × (after ≡ d)
    fits = fits_so (replica_fits c old) 9 after d applied

    was : (q : ReplicaRow) × IsIn c.replicas q × HasKey q r.object r.number × (q.vault ≡ r.vault) × (leaf_slot c q.leaf ≡ leaf_slot c r.leaf)
    was = elim held.here [ inl its ↦ its | inr x ↦ absurd (no_orphan_of c old fits.0 x.0 x.1 x.2) ]

    no_good : (q : ReplicaRow) → old ≡ q → IsTrue q.good → ⊥
    no_good q same is = let wrong : false ≡ true = ap (λ (y : ReplicaRow). y.good) same ∙ is in cc

    sound_after : IsSound after
    sound_after = let P : Cat → Type 0 = λ y. IsSound y in subst P (sym fits.1) (sound-apply c d (delta.Replica old) s applied)

    still : (slot name : ℕ) (x : Naming) → Names c slot name x → (y : Naming) × Names after slot name y
    still slot name (by_orphan x) n = (by_orphan x, n)
    still slot name (by_replica q) n = elim (key_or_not old q) [
      | inl same ↦
          let it : q ≡ was.0 = same_row c s q was.0 (in_of c.replicas q n.0) was.1 (sym same.0 ∙ sym was.2.0, sym same.1 ∙ sym was.2.1) in (
            by_replica old,
            (
              contains_of after.replicas old (new_in_with_row replica_cmp c.replicas old),
              sym was.3 ∙ ap (λ (y : ReplicaRow). y.vault) (sym it) ∙ n.1,
              sym was.4 ∙ ap (λ (y : ReplicaRow). leaf_slot c y.leaf) (sym it) ∙ n.2,
            ),
          )
      | inr other ↦ (by_replica q, (contains_of after.replicas q (old_in_with_row replica_cmp c.replicas old q (in_of c.replicas q n.0) other), n.1, n.2))
    ]

    step_turns : Turns made body c d
    step_turns = turns_as made body c after d fits.1 (turns_sound made body c after sound_after
        (λ good. all_from_in _ after.replicas (λ q there is. elim (in_from_with_row replica_cmp c.replicas old q there) [
          | inl same ↦ absurd (no_good q same is)
          | inr before ↦ let its = in_from_all (λ (r : ReplicaRow). IsTrue r.good → IsLikeObject c r) c.replicas good q before is in record { row = its.row; there = its.there; size = its.size; digest = its.digest }
        ]))
        (λ slot q there is at. elim (in_from_with_row replica_cmp c.replicas old q there) [
          | inl same ↦ absurd (no_good q same is)
          | inr before ↦ file_as_before made body c slot q before is at
        ])
        still)

    step_fewer : Fewer c d
    step_fewer = fewer_as c after d fits.1 (record {
      objects = refl;
      resources = refl;
      orphans = λ x here. here;
      good = λ q here is. elim (in_from_with_row replica_cmp c.replicas old q here) [ inl same ↦ absurd (no_good q same is) | inr before ↦ before ];
      keys = λ q here. elim (in_from_with_row replica_cmp c.replicas old q here) [
        | inl same ↦ (was.0, was.1, (was.2.0 ∙ ap (λ (y : ReplicaRow). y.object) same, was.2.1 ∙ ap (λ (y : ReplicaRow). y.number) same))
        | inr before ↦ (q, before, (refl, refl))
      ];
    })

    step_stale : (q : ReplicaRow) → IsIn d.replicas q → IsTrue q.good → HasKey q r.object r.number → ⊥
    step_stale q here is key =
        let D : Cat → Type 0 = λ y. IsIn y.replicas q in
        let P : ReplicaRow → Type 0 = λ y. IsTrue y.good in
        let same : q ≡ old = same_row d (sound-apply c d (delta.Replica old) s applied) q old here (let N : Cat → Type 0 = λ y. IsIn y.replicas old in subst N fits.1 (new_in_with_row replica_cmp c.replicas old)) key in
        no_good q (sym same) is

    -- what holds of another one still does
    step_held : (t : ReplicaRow) → HasItsFile c t → HasItsFile d t
    step_held t its = let P : Cat → Type 0 = λ y. HasItsFile y t in subst P fits.1 (record { here = by its.here })
      where
        by : ((q : ReplicaRow) × IsIn c.replicas q × HasKey q t.object t.number × (q.vault ≡ t.vault) × (leaf_slot c q.leaf ≡ leaf_slot c t.leaf)) ⊎ ((x : OrphanRow) × IsIn c.orphans x × (x.vault ≡ t.vault))
            → ((q : ReplicaRow) × IsIn after.replicas q × HasKey q t.object t.number × (q.vault ≡ t.vault) × (leaf_slot after q.leaf ≡ leaf_slot after t.leaf)) ⊎ ((x : OrphanRow) × IsIn after.orphans x × (x.vault ≡ t.vault))
        by (inr x) = inr x
        by (inl q) = elim (key_or_not old q.0) [
          | inl same ↦
              let it : q.0 ≡ was.0 = same_row c s q.0 was.0 q.1 was.1 (sym same.0 ∙ sym was.2.0, sym same.1 ∙ sym was.2.1) in
              inl (old, new_in_with_row replica_cmp c.replicas old, (same.0 ∙ q.2.0, same.1 ∙ q.2.1), sym was.3 ∙ ap (λ (y : ReplicaRow). y.vault) (sym it) ∙ q.3, sym was.4 ∙ ap (λ (y : ReplicaRow). leaf_slot c y.leaf) (sym it) ∙ q.4)
          | inr other ↦ inl (q.0, old_in_with_row replica_cmp c.replicas old q.0 q.1 other, q.2, q.3, q.4)
        ]

  pub stale_all : (rows : List ReplicaRow) (c d : Cat) → IsSound c → ((r : ReplicaRow) → IsIn rows r → HasItsFile c r) → apply_all c (replicas_staled rows) ≡ Ok d → Turns made body c d × Staled c rows d
  stale_all [] c d s held applied =
      let same = ok-same c d (apply_all c []) refl applied in
      let P : Cat → Type 0 = λ x. Staled c [] x in
      (turns_as made body c c d same (turns_self made body c), subst P same (record { sound = s; fewer = fewer_self c; stale = λ r none. absurd none }))
  stale_all (r ∷ rows) c d s held applied =
      let one = after_first (apply c (delta.Replica (record r { good = false }))) (replicas_staled rows) d applied in
      let its = held r (inl refl) in
      let rest = stale_all rows one.0 d (sound-apply c one.0 (delta.Replica (record r { good = false })) s one.1) (λ t later. step_held c one.0 s r its one.1 t (held t (inr later))) one.2 in (
        turns_then made body c one.0 d (step_turns c one.0 s r its one.1) rest.0,
        record {
          sound = rest.1.sound;
          fewer = fewer_then c one.0 d (step_fewer c one.0 s r its one.1) rest.1.fewer;
          stale = λ t which q here is key. elim which [
            | inl same ↦ step_stale c one.0 s r its one.1 q (rest.1.fewer.good q here is) is (key.0 ∙ ap (λ (y : ReplicaRow). y.object) (sym same), key.1 ∙ ap (λ (y : ReplicaRow). y.number) (sym same))
            | inr later ↦ rest.1.stale t later q here is key
          ];
        },
      )
