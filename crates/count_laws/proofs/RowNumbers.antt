-- The vault numbers of rows: none stands twice, each was given, and those that were given before are of rows from before.
use Rattle.std.proofs.Common.{◌≡◌, ◌∙◌, ◌==◌, ℕ, zero, suc, ◌+◌, ◌*◌, ◌-◌, ◌<◌, ◌≤◌, true, false, cond, List, [], ◌∷◌, ◌++◌}
use Rattle.std.proofs.Common.{length, length-append, Some, ◌⊎◌, inl, inr, refl, sym, ap, subst, arith, eqb-true}
use Rattle.std.proofs.lemmas.List.{length-map}
use Rattle.std.specs.Prelude.{map, find, option_map, ◌&&◌, ◌||◌}
use Rattle.std.specs.List.{list_any, range_with_len}
use Rattle.std.specs.Ordering.{nat_cmp}
use Rattle.std.specs.declared.cmp.Ordering.TheVariants.{Equal}
use Rattle.std.proofs.lemmas.Bool.{and_parts}
use Rattle.std.proofs.lemmas.List.FromFn.{length-range_with_len}
use Rattle.grid_model.specs.Rows.{Cat, replica_cmp, orphan_cmp}
use Rattle.grid_model.specs.Whole.{Naming, by_replica, by_orphan, Names, leaf_slot}
use Rattle.grid_model.specs.Applying.{IsMade, is_leaf, is_replica, is_storage}
use Rattle.grid_model.specs.declared.deltas.ReplicaRow.{ReplicaRow}
use Rattle.grid_model.specs.declared.deltas.OrphanRow.{OrphanRow}
use Rattle.grid_model.specs.declared.deltas.ResourceRow.{ResourceRow}
use Rattle.tables_laws.proofs.Rows.{IsIn, in_from_all}
use Rattle.tables_laws.proofs.Numbered.{equal_number}
use Rattle.tables_laws.proofs.Standing.{ReplicaStands}
use Rattle.tables_laws.proofs.Sound.{IsSound, sound-made}
use Rattle.grid_access.proofs.MapEntries.{in_from_map, map_from_in}
use Rattle.grid_tree.proofs.Alike.{in_of, contains_of}
use Rattle.grid_tree.proofs.Reachable.{in_from_append}
use Rattle.count_laws.proofs.Fewer.{AreApart, no_longer, apart-append, apart-rows}
use Rattle.grid_headline.specs.Numbers.{KeepsNumbers, AddsFew, leaf_count, row_count}

abbrev replica_vault : ReplicaRow → ℕ
replica_vault r = r.vault

abbrev orphan_vault : OrphanRow → ℕ
orphan_vault o = o.vault

-- the vault numbers of a catalogue
abbrev vaults : Cat → List ℕ
vaults c = map replica_vault c.replicas ++ map orphan_vault c.orphans

vaults-count : (c : Cat) → length (vaults c) ≡ row_count c
vaults-count c =
    length-append (map replica_vault c.replicas) (map orphan_vault c.orphans)
    ∙ ap (λ n. n + length (map orphan_vault c.orphans)) (length-map c.replicas replica_vault)
    ∙ ap (λ n. length c.replicas + n) (length-map c.orphans orphan_vault)

-- ---- members of two lists, and of a range

in_first : (ns ms : List ℕ) (n : ℕ) → IsIn ns n → IsIn (ns ++ ms) n
in_first [] ms n here = absurd here
in_first (m ∷ ns) ms n (inl is) = inl is
in_first (m ∷ ns) ms n (inr later) = inr (in_first ns ms n later)

in_second : (ns ms : List ℕ) (n : ℕ) → IsIn ms n → IsIn (ns ++ ms) n
in_second [] ms n here = here
in_second (m ∷ ns) ms n here = inr (in_second ns ms n here)

in_range : (from many n : ℕ) → from ≤ n → n < from + many → IsIn (range_with_len from many) n
in_range from zero n above below = absurd (omega (arith, above, below))
in_range from (suc many) n above below = elim (at_or_behind from n above) [
  | inl is ↦ inl is
  | inr behind ↦ inr (in_range (from + 1) many n behind (omega (arith, below)))
]
  where
    at_or_behind : (a b : ℕ) → a ≤ b → (a ≡ b) ⊎ (a + 1 ≤ b)
    at_or_behind zero zero low = inl refl
    at_or_behind zero (suc b) low = inr (omega arith)
    at_or_behind (suc a) zero low = absurd (omega (arith, low))
    at_or_behind (suc a) (suc b) low = elim (at_or_behind a b (omega (arith, low))) [ inl is ↦ inl (ap suc is) | inr more ↦ inr (omega (arith, more)) ]

-- ---- no number stands twice

module _ (c : Cat) (s : IsSound c) where
  one_key : (x y : ReplicaRow) → is_replica x.object x.number y ≡ true → replica_cmp x y ≡ Equal
  one_key x y is =
      let parts = and_parts (y.object == x.object) (y.number == x.number) is in
      let objects : nat_cmp x.object y.object ≡ Equal = equal_number x.object y.object (sym (eqb-true y.object x.object parts.0)) in
      let numbers : nat_cmp x.number y.number ≡ Equal = equal_number x.number y.number (sym (eqb-true y.number x.number parts.1)) in
      rw (objects, numbers) refl

  vaults-apart : AreApart (vaults c)
  vaults-apart = apart-append (map replica_vault c.replicas) (map orphan_vault c.orphans)
      (apart-rows replica_cmp replica_vault c.replicas s.cat.replicas.ordered (λ x y here there same. one_key x y (s.vaults.vaults x y here there same)))
      (apart-rows orphan_cmp orphan_vault c.orphans s.cat.orphans.ordered (λ x y here there same. equal_number x.vault y.vault (sym same)))
      (λ n one other.
      let r = in_from_map replica_vault c.replicas n one in
      let o = in_from_map orphan_vault c.orphans n other in
      s.vaults.apart r.0 o.0 r.1 o.1 (o.2 ∙ sym r.2))

  -- ---- each number names a file by its row

  leaf_found : (id : ℕ) → is_leaf c id ≡ true → (slot : ℕ) × (leaf_slot c id ≡ Some slot)
  leaf_found id e = found c.resources e
    where
      found : (rows : List ResourceRow) → list_any (λ r. (r.id == id) && is_storage r.kind) rows ≡ true
          → (slot : ℕ) × (option_map (λ (r : ResourceRow). r.slot) (find (λ r. r.id == id) rows) ≡ Some slot)
      found [] e = absurd cc
      found (r ∷ rows) e =
          elim (r.id == id) as (λ b. ((b && is_storage r.kind) || list_any (λ r. (r.id == id) && is_storage r.kind) rows) ≡ true
          → (slot : ℕ) × (option_map (λ (r : ResourceRow). r.slot) (cond b (Some r) (find (λ r. r.id == id) rows)) ≡ Some slot)) [
            | true ↦ λ h. (r.slot, refl)
            | false ↦ λ h. found rows h
          ] e

  named_so : (n : ℕ) → IsIn (vaults c) n → (slot : ℕ) × (row : Naming) × Names c slot n row × (n < c.numbers.next_vault)
  named_so n here = elim (in_from_append (map replica_vault c.replicas) (map orphan_vault c.orphans) n here) [
    | inl one ↦
        let r = in_from_map replica_vault c.replicas n one in
        let stands : ReplicaStands c r.0 = in_from_all (ReplicaStands c) c.replicas s.tied.replicas r.0 r.1 in
        let at = leaf_found r.0.leaf stands.1 in
        (at.0, by_replica r.0, (contains_of c.replicas r.0 r.1, r.2, at.1), subst (λ k. k < c.numbers.next_vault) r.2 stands.3)
    | inr other ↦
        let o = in_from_map orphan_vault c.orphans n other in
        (o.0.slot, by_orphan o.0, (contains_of c.orphans o.0 o.1, o.2, refl), subst (λ k. k < c.numbers.next_vault) o.2 (s.vaults.orphans o.0 o.1).1)
  ]

vault_in : (c : Cat) (slot n : ℕ) (row : Naming) → Names c slot n row → IsIn (vaults c) n
vault_in c slot n (by_replica r) names =
    in_first (map replica_vault c.replicas) (map orphan_vault c.orphans) n
    (subst (IsIn (map replica_vault c.replicas)) names.1 (map_from_in replica_vault c.replicas r (in_of c.replicas r names.0)))
vault_in c slot n (by_orphan o) names =
    in_second (map replica_vault c.replicas) (map orphan_vault c.orphans) n
    (subst (IsIn (map orphan_vault c.orphans)) names.1 (map_from_in orphan_vault c.orphans o (in_of c.orphans o names.0)))

-- ---- rows are no more than numbers

below_or_not : (a b : ℕ) → (a < b) ⊎ (b ≤ a)
below_or_not a zero = inr (omega arith)
below_or_not zero (suc b) = inl (omega arith)
below_or_not (suc a) (suc b) = elim (below_or_not a b) [ inl low ↦ inl (omega (arith, low)) | inr high ↦ inr (omega (arith, high)) ]

module _ (c after : Cat) (made : IsMade after) (keeps : KeepsNumbers c after) where
  abbrev given : List ℕ
  given = range_with_len c.numbers.next_vault (after.numbers.next_vault - c.numbers.next_vault)

  sound : IsSound after
  sound = sound-made made.0 after made.1

  old_or_given : (n : ℕ) → IsIn (vaults after) n → IsIn (vaults c ++ given) n
  old_or_given n here =
      let so = named_so after sound n here in
      elim (below_or_not n c.numbers.next_vault) [
        | inl low ↦ let was = keeps.names so.0 n so.1 low so.2 in in_first (vaults c) given n (vault_in c so.0 n was.0 was.1)
        | inr high ↦
            in_second (vaults c) given n (in_range c.numbers.next_vault (after.numbers.next_vault - c.numbers.next_vault) n high
            (omega (arith, so.3, keeps.rises)))
      ]

  pub rows_are_few : row_count after ≤ row_count c + (after.numbers.next_vault - c.numbers.next_vault)
  rows_are_few =
      let few = no_longer (vaults after) (vaults c ++ given) (vaults-apart after sound) old_or_given in
      let rows = length-append (vaults c) given in
      let more = length-range_with_len c.numbers.next_vault (after.numbers.next_vault - c.numbers.next_vault) in
      omega (arith, few, rows, more, vaults-count c, vaults-count after)

  pub few_by_numbers : (marks : ℕ) → after.numbers.next_vault ≤ c.numbers.next_vault + marks * leaf_count after → AddsFew c after marks
  few_by_numbers marks numbers = record {
    rows = omega (arith, rows_are_few, numbers);
    numbers = numbers;
  }
