-- The number of the next vault file of a catalogue that changes made.
use Rattle.std.proofs.Common.{◌≡◌, ℕ, ◌<◌, Bool, true, false, List, [], ◌∷◌, Result, Ok, Err, refl, subst, arith}
use Rattle.std.specs.Prelude.{nat_lt, nat_le, ◌&&◌}
use Rattle.std.proofs.lemmas.Bool.{ltb-true}
use Rattle.grid_model.specs.Rows.{Cat, empty_cat}
use Rattle.grid_model.specs.Applying.{IsMade, apply, apply_all, where_fits, numbers_fit}
use Rattle.grid_model.specs.declared.deltas.Delta.{Delta}
use Rattle.grid_model.specs.declared.deltas.Delta.TheVariants as delta

where_kept : (b : Bool) (cause : ℕ) (next d : Cat) → (b ≡ true → 0 < next.numbers.next_vault) → where_fits b cause next ≡ Ok d → 0 < d.numbers.next_vault
where_kept true cause next d some is = let same : next ≡ d = cc in subst (λ (c : Cat). 0 < c.numbers.next_vault) same (some refl)
where_kept false cause next d some is = absurd (cc)

first_of : (a b : Bool) → (a && b) ≡ true → a ≡ true
first_of true b e = refl
first_of false b e = absurd (cc)

vault_after : (c d : Cat) (change : Delta) → 0 < c.numbers.next_vault → apply c change ≡ Ok d → 0 < d.numbers.next_vault
vault_after c d (delta.Zone name stores) some is = where_kept _ 1 _ d (λ fits. some) is
vault_after c d (delta.User r) some is = where_kept _ 2 _ d (λ fits. some) is
vault_after c d (delta.Member m) some is = where_kept _ 3 _ d (λ fits. some) is
vault_after c d (delta.NoMember m) some is = where_kept _ 4 _ d (λ fits. some) is
vault_after c d (delta.Collection r) some is = where_kept _ 5 _ d (λ fits. some) is
vault_after c d (delta.NoCollection id) some is = where_kept _ 6 _ d (λ fits. some) is
vault_after c d (delta.Object r) some is = where_kept _ 7 _ d (λ fits. some) is
vault_after c d (delta.NoObject id) some is = where_kept _ 8 _ d (λ fits. some) is
vault_after c d (delta.Replica r) some is = where_kept _ 9 _ d (λ fits. some) is
vault_after c d (delta.NoReplica object number) some is = where_kept _ 10 _ d (λ fits. some) is
vault_after c d (delta.Triple t) some is = where_kept _ 11 _ d (λ fits. some) is
vault_after c d (delta.NoTriple t) some is = where_kept _ 12 _ d (λ fits. some) is
vault_after c d (delta.Entry e) some is = where_kept _ 13 _ d (λ fits. some) is
vault_after c d (delta.NoEntry k id user) some is = where_kept _ 14 _ d (λ fits. some) is
vault_after c d (delta.Resource r) some is = where_kept _ 15 _ d (λ fits. some) is
vault_after c d (delta.Rules text) some is = let same : record c { rules = text } ≡ d = cc in subst (λ (c : Cat). 0 < c.numbers.next_vault) same some
vault_after c d (delta.Orphan r) some is = where_kept _ 17 _ d (λ fits. some) is
vault_after c d (delta.NoOrphan vault) some is = where_kept _ 18 _ d (λ fits. some) is
vault_after c d (delta.Numbers n) some is =
    where_kept (numbers_fit c n) 19 _ d (λ fits. ltb-true 0 n.next_vault (first_of (nat_lt 0 n.next_vault) (nat_le c.numbers.next_vault n.next_vault) fits)) is
vault_after c d (delta.Pending p) some is = where_kept _ 20 _ d (λ fits. some) is
vault_after c d delta.NoPending some is = where_kept _ 21 _ d (λ fits. some) is

vault_after-all : (deltas : List Delta) (c d : Cat) → 0 < c.numbers.next_vault → apply_all c deltas ≡ Ok d → 0 < d.numbers.next_vault
vault_after-all [] c d some is = let same : c ≡ d = cc in subst (λ (c : Cat). 0 < c.numbers.next_vault) same some
vault_after-all (change ∷ deltas) c d some is = by (λ next. vault_after-all deltas next d) (apply c change) refl is
  where
    by : ((next : Cat) → 0 < next.numbers.next_vault → apply_all next deltas ≡ Ok d → 0 < d.numbers.next_vault) → (r : Result Cat ℕ) → apply c change ≡ r
        → elim r as (λ _. Result Cat ℕ) [ Ok next ↦ apply_all next deltas | Err cause ↦ Err cause ] ≡ Ok d → 0 < d.numbers.next_vault
    by more (Ok next) e rest = more next (vault_after c next change some e) rest
    by more (Err cause) e rest = absurd (cc)

vault_made : (deltas : List Delta) (c : Cat) → apply_all empty_cat deltas ≡ Ok c → 0 < c.numbers.next_vault
vault_made deltas c made = vault_after-all deltas empty_cat c (omega arith) made

-- some number is still to be drawn
pub some_vault : (c : Cat) → IsMade c → 0 < c.numbers.next_vault
some_vault c made = vault_made made.0 c made.1
