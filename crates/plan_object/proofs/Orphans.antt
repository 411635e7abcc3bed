-- Before files are made: their numbers are drawn, and they are orphans.
use Rattle.std.proofs.Common.{◌≡◌, ◌==◌, ◌⊎◌, ℕ, ◌+◌, ◌<◌, ◌≤◌, Bool, true, List, [], ◌∷◌, ◌++◌, length, Result, Ok, Err, inl, inr, refl, ap, ◌∙◌, subst, arith, eqb-true}
use Rattle.std.specs.Prelude.{not, ◌&&◌, nat_le, nat_lt}
use Rattle.std.specs.List.{AllByRecursion, list_any}
use Rattle.std.proofs.lemmas.Bool.{and_from, and_parts, le-leb, lt-ltb, ltb-true}
use Rattle.grid_model.specs.Rows.{Cat, empty_cat, orphan_cmp, with_row}
use Rattle.grid_model.specs.Applying.{IsMade, apply, apply_all, numbers_fit, orphan_fits, where_fits}
use Rattle.grid_model.specs.RowGrids.{grid_of}
use Rattle.grid_model.specs.Whole.{Naming, by_orphan, by_replica, Names}
use Rattle.grid_model.specs.declared.deltas.Delta.{Delta}
use Rattle.grid_model.specs.declared.deltas.Delta.TheVariants as delta
use Rattle.grid_model.specs.declared.deltas.OrphanRow.{OrphanRow}
use Rattle.grid_model.specs.declared.deltas.ReplicaRow.{ReplicaRow}
use Rattle.tables_laws.proofs.Rows.{IsIn, in_from_all, in_from_with_row, new_in_with_row, old_in_with_row}
use Rattle.tables_laws.proofs.Grids.{grid-same}
use Rattle.tables_laws.proofs.Numbered.{same_number}
use Rattle.tables_laws.proofs.Standing.{ReplicaStands}
use Rattle.tables_laws.proofs.Sound.{fits_so, ok-same, after_first}
use Rattle.file_laws.specs.Puts.{Target, orphans_from, put_before}
use Rattle.file_laws.proofs.Members.{contains_of, in_of}
use Rattle.file_laws.proofs.Puts.{AreThere}
use Rattle.plan_base.proofs.AtPaths.{sound_of}
use Rattle.plan_object.specs.Writing.{Draws}
use Rattle.plan_object.proofs.ObjectGrids.{none_so}

-- ---- changes one after another

pub apply-append : (xs ys : List Delta) (c d : Cat) → apply_all c xs ≡ Ok d → apply_all c (xs ++ ys) ≡ apply_all d ys
apply-append [] ys c d e = ap (λ x. apply_all x ys) (ok-same c d (apply_all c []) refl e)
apply-append (x ∷ xs) ys c d e =
    let step = after_first (apply c x) xs d e in
    ap (λ (r : Result Cat ℕ). elim r as (λ _. Result Cat ℕ) [ Ok n ↦ apply_all n (xs ++ ys) | Err cause ↦ Err cause ]) step.1 ∙ apply-append xs ys step.0 d step.2

pub made_more : (c d : Cat) (deltas : List Delta) → IsMade c → apply_all c deltas ≡ Ok d → IsMade d
made_more c d deltas made e = (made.0 ++ deltas, apply-append made.0 deltas empty_cat c made.1 ∙ e)

-- ---- the next vault number is above 0

kept : (b : Bool) (cause : ℕ) (next d : Cat) → (b ≡ true → 0 < next.numbers.next_vault) → where_fits b cause next ≡ Ok d → 0 < d.numbers.next_vault
kept b cause next d some e = let so = fits_so b cause next d e in subst (λ (x : Cat). 0 < x.numbers.next_vault) so.1 (some so.0)

vault-apply : (c d : Cat) (change : Delta) → 0 < c.numbers.next_vault → apply c change ≡ Ok d → 0 < d.numbers.next_vault
vault-apply c d (delta.Zone name stores) some e = kept _ 1 _ d (λ fits. some) e
vault-apply c d (delta.User r) some e = kept _ 2 _ d (λ fits. some) e
vault-apply c d (delta.Member m) some e = kept _ 3 _ d (λ fits. some) e
vault-apply c d (delta.NoMember m) some e = kept _ 4 _ d (λ fits. some) e
vault-apply c d (delta.Collection r) some e = kept _ 5 _ d (λ fits. some) e
vault-apply c d (delta.NoCollection id) some e = kept _ 6 _ d (λ fits. some) e
vault-apply c d (delta.Object r) some e = kept _ 7 _ d (λ fits. some) e
vault-apply c d (delta.NoObject id) some e = kept _ 8 _ d (λ fits. some) e
vault-apply c d (delta.Replica r) some e = kept _ 9 _ d (λ fits. some) e
vault-apply c d (delta.NoReplica object number) some e = kept _ 10 _ d (λ fits. some) e
vault-apply c d (delta.Triple t) some e = kept _ 11 _ d (λ fits. some) e
vault-apply c d (delta.NoTriple t) some e = kept _ 12 _ d (λ fits. some) e
vault-apply c d (delta.Entry x) some e = kept _ 13 _ d (λ fits. some) e
vault-apply c d (delta.NoEntry k id user) some e = kept _ 14 _ d (λ fits. some) e
vault-apply c d (delta.Resource r) some e = kept _ 15 _ d (λ fits. some) e
vault-apply c d (delta.Rules text) some e = subst (λ (x : Cat). 0 < x.numbers.next_vault) (ok-same _ d (apply c (delta.Rules text)) refl e) some
vault-apply c d (delta.Orphan r) some e = kept _ 17 _ d (λ fits. some) e
vault-apply c d (delta.NoOrphan vault) some e = kept _ 18 _ d (λ fits. some) e
vault-apply c d (delta.Numbers n) some e = kept (numbers_fit c n) 19 _ d (λ fits. ltb-true 0 n.next_vault (and_parts (nat_lt 0 n.next_vault) (nat_le c.numbers.next_vault n.next_vault) fits).0) e
vault-apply c d (delta.Pending p) some e = kept _ 20 _ d (λ fits. some) e
vault-apply c d delta.NoPending some e = kept _ 21 _ d (λ fits. some) e

vault-apply_all : (changes : List Delta) (c d : Cat) → 0 < c.numbers.next_vault → apply_all c changes ≡ Ok d → 0 < d.numbers.next_vault
vault-apply_all [] c d some e = subst (λ (x : Cat). 0 < x.numbers.next_vault) (ok-same c d (apply_all c []) refl e) some
vault-apply_all (change ∷ changes) c d some e =
    let step = after_first (apply c change) changes d e in
    vault-apply_all changes step.0 d (vault-apply c step.0 change some step.1) step.2

pub some_vault : (c : Cat) → IsMade c → 0 < c.numbers.next_vault
some_vault c made = vault-apply_all made.0 empty_cat c (omega arith) made.1

-- ---- the orphans

abbrev pub put_orphans : List OrphanRow → ℕ → List Target → List OrphanRow
put_orphans rows v [] = rows
put_orphans rows v (t ∷ ts) = put_orphans (with_row orphan_cmp rows (record { vault = v; slot = t.slot })) (v + 1) ts

pub in_orphans : (ts : List Target) (rows : List OrphanRow) (v : ℕ) (x : OrphanRow) → IsIn (put_orphans rows v ts) x → IsIn rows x ⊎ (v ≤ x.vault)
in_orphans [] rows v x here = inl here
in_orphans (t ∷ ts) rows v x here = elim (in_orphans ts (with_row orphan_cmp rows (record { vault = v; slot = t.slot })) (v + 1) x here) [
  | inl was ↦ elim (in_from_with_row orphan_cmp rows (record { vault = v; slot = t.slot }) x was) [
    | inl is ↦ inr (omega (arith, ap (λ (y : OrphanRow). y.vault) is))
    | inr old ↦ inl old
  ]
  | inr new ↦ inr (omega (arith, new))
]

stays : (ts : List Target) (rows : List OrphanRow) (v : ℕ) (x : OrphanRow) → x.vault < v → IsIn rows x → IsIn (put_orphans rows v ts) x
stays [] rows v x low here = here
stays (t ∷ ts) rows v x low here =
    stays ts (with_row orphan_cmp rows (record { vault = v; slot = t.slot })) (v + 1) x (omega (arith, low))
    (old_in_with_row orphan_cmp rows (record { vault = v; slot = t.slot }) x here (λ e. let same : v ≡ x.vault = same_number v x.vault e in omega (arith, low, same)))

pub there_now : (ts : List Target) (rows : List OrphanRow) (v : ℕ) → AreThere v ts (put_orphans rows v ts)
there_now [] rows v = tt
there_now (t ∷ ts) rows v = (
  stays ts (with_row orphan_cmp rows (record { vault = v; slot = t.slot })) (v + 1) (record { vault = v; slot = t.slot }) (omega arith) (new_in_with_row orphan_cmp rows (record { vault = v; slot = t.slot })),
  there_now ts (with_row orphan_cmp rows (record { vault = v; slot = t.slot })) (v + 1),
)

-- ---- before

module _ (c : Cat) (made : IsMade c) (ts : List Target) (slots : AllByRecursion (λ t. nat_lt t.slot c.stores ≡ true) ts) where
  abbrev v : ℕ
  v = c.numbers.next_vault

  abbrev counted : Cat
  counted = record c { numbers = record c.numbers { next_vault = v + length ts } }

  abbrev pub begun : Cat
  begun = record counted { orphans = put_orphans c.orphans v ts }

  old_vault : (r : ReplicaRow) → IsIn c.replicas r → r.vault < v
  old_vault r here = (in_from_all (ReplicaStands c) c.replicas (sound_of c made).tied.replicas r here).3

  applied_counted : apply c (delta.Numbers (record c.numbers { next_vault = v + length ts })) ≡ Ok counted
  applied_counted =
      ap (λ b. where_fits b 19 counted) (and_from (nat_lt 0 (v + length ts)) (nat_le v (v + length ts)) (lt-ltb 0 (v + length ts) (omega (arith, some_vault c made))) (le-leb v (v + length ts) (omega arith)))

  applied_orphans : (us : List Target) (rows : List OrphanRow) (w : ℕ) → AllByRecursion (λ t. nat_lt t.slot c.stores ≡ true) us → ((x : OrphanRow) → IsIn rows x → x.vault < w) → v ≤ w → w + length us ≤ v + length ts
      → apply_all (record counted { orphans = rows }) (orphans_from w us) ≡ Ok (record counted { orphans = put_orphans rows w us })
  applied_orphans [] rows w fits below from few = refl
  applied_orphans (u ∷ us) rows w fits below from few =
      let next : List OrphanRow = with_row orphan_cmp rows (record { vault = w; slot = u.slot }) in
      ap (λ (r : Result Cat ℕ). elim r as (λ _. Result Cat ℕ) [ Ok n ↦ apply_all n (orphans_from (w + 1) us) | Err cause ↦ Err cause ]) (ap (λ b. where_fits b 17 (record counted { orphans = next })) fit)
      ∙ applied_orphans us next (w + 1) fits.1 (λ x here. elim (in_from_with_row orphan_cmp rows (record { vault = w; slot = u.slot }) x here) [
        | inl is ↦ omega (arith, ap (λ (y : OrphanRow). y.vault) is)
        | inr was ↦ omega (arith, below x was)
      ]) (omega (arith, from)) (omega (arith, few))
    where
      fit : orphan_fits (record counted { orphans = rows }) (record { vault = w; slot = u.slot }) ≡ true
      fit =
          and_from _ (nat_lt u.slot c.stores)
          (and_from _ (not (list_any (λ (r : ReplicaRow). r.vault == w) c.replicas))
          (and_from (nat_lt 0 w && nat_lt w (v + length ts)) (not (list_any (λ (x : OrphanRow). x.vault == w) rows))
          (and_from (nat_lt 0 w) (nat_lt w (v + length ts)) (lt-ltb 0 w (omega (arith, some_vault c made, from))) (lt-ltb w (v + length ts) (omega (arith, few))))
          (ap not (none_so (λ (x : OrphanRow). x.vault == w) rows (λ x here e. omega (arith, below x here, eqb-true x.vault w e)))))
          (ap not (none_so (λ (r : ReplicaRow). r.vault == w) c.replicas (λ r here e. omega (arith, old_vault r here, from, eqb-true r.vault w e))))) fits.0

  pub applied_begun : apply_all c (put_before c ts) ≡ Ok begun
  applied_begun =
      ap (λ (r : Result Cat ℕ). elim r as (λ _. Result Cat ℕ) [ Ok n ↦ apply_all n (orphans_from v ts) | Err cause ↦ Err cause ]) applied_counted
      ∙ applied_orphans ts c.orphans v slots (λ x here. ((sound_of c made).vaults.orphans x here).1) (omega arith) (omega arith)

  pub begun_made : IsMade begun
  begun_made = made_more c begun (put_before c ts) made applied_begun

  pub begun_grid : grid_of begun ≡ grid_of c
  begun_grid = grid-same c begun refl (grid_of c) refl

  pub begun_draws : Draws c (length ts) begun
  begun_draws = record { numbers = refl; names = names; pending = refl; rules = refl; stores = refl }
    where
      names : (slot name : ℕ) (row : Naming) → name < v → Names begun slot name row → (was : Naming) × Names c slot name was
      names slot name (by_replica r) low n = (by_replica r, n)
      names slot name (by_orphan x) low n = elim (in_orphans ts c.orphans v x (in_of begun.orphans x n.0)) [
        | inl was ↦ (by_orphan x, (contains_of c.orphans x was, n.1, n.2))
        | inr new ↦ absurd (omega (arith, new, low, n.1))
      ]
