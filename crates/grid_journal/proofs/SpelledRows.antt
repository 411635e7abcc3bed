-- What changes made which may be kept may be changed by others that may be kept: metadata taken away, and a pending command noted again.
use Rattle.std.proofs.Common.{◌≡◌, ℕ, Bool, true, false, IsTrue, List, [], ◌∷◌, Result, Ok, Err, refl, subst}
use Rattle.std.specs.Prelude.{filter, not, cond}
use Rattle.std.specs.List.{AllByRecursion}
use Rattle.std.specs.Ordering.{eq_by_cmp}
use Rattle.std.proofs.lemmas.Bool.{and_from}
use Rattle.grid_model.specs.Names.{Text}
use Rattle.grid_model.specs.Deltas.{delta_fits}
use Rattle.grid_model.specs.Rows.{Cat, triple_cmp}
use Rattle.grid_model.specs.Applying.{apply, apply_all, where_fits}
use Rattle.grid_model.specs.declared.deltas.Delta.{Delta}
use Rattle.grid_model.specs.declared.deltas.Delta.TheVariants as delta
use Rattle.grid_model.proofs.TableLemmas.{all-with_row}
use Rattle.grid_journal.specs.Journal.{can_be_kept, HasSpelledRows, MayBeKept}
use Rattle.grid_journal.specs.Stands.{Replays, none_left, taken}
use Rattle.grid_journal.proofs.KeptDeltas.{both_kept}

all_kept : {X : Type 0} (P : X → Type 0) (q : X → Bool) (rows : List X) → AllByRecursion P rows → AllByRecursion P (filter q rows)
all_kept P q [] all = tt
all_kept P q (x ∷ rows) all = elim (q x) as (λ b. AllByRecursion P (cond b (x ∷ filter q rows) (filter q rows))) [
  | true ↦ (all.0, all_kept P q rows all.1)
  | false ↦ all_kept P q rows all.1
]

then_spelled : (b : Bool) (cause : ℕ) (next d : Cat) → HasSpelledRows next → where_fits b cause next ≡ Ok d → HasSpelledRows d
then_spelled true cause next d all e = let same : next ≡ d = cc in subst HasSpelledRows same all
then_spelled false cause next d all e = absurd cc

spelled-apply : (c d : Cat) (x : Delta) → MayBeKept x → HasSpelledRows c → apply c x ≡ Ok d → HasSpelledRows d
spelled-apply c d (delta.Zone name stores) may all e = then_spelled _ 1 _ d all e
spelled-apply c d (delta.User r) may all e = then_spelled _ 2 _ d all e
spelled-apply c d (delta.Member m) may all e = then_spelled _ 3 _ d all e
spelled-apply c d (delta.NoMember m) may all e = then_spelled _ 4 _ d all e
spelled-apply c d (delta.Collection r) may all e = then_spelled _ 5 _ d all e
spelled-apply c d (delta.NoCollection id) may all e = then_spelled _ 6 _ d all e
spelled-apply c d (delta.Object r) may all e = then_spelled _ 7 _ d all e
spelled-apply c d (delta.NoObject id) may all e = then_spelled _ 8 _ d all e
spelled-apply c d (delta.Replica r) may all e = then_spelled _ 9 _ d all e
spelled-apply c d (delta.NoReplica object number) may all e = then_spelled _ 10 _ d all e
spelled-apply c d (delta.Triple t) may all e = then_spelled _ 11 _ d (all-with_row triple_cmp (λ t. IsTrue (can_be_kept (delta.NoTriple t))) c.triples t all.0 (and_from (delta_fits (delta.NoTriple t)) true may.0 refl), all.1) e
spelled-apply c d (delta.NoTriple t) may all e = then_spelled _ 12 _ d (all_kept (λ t. IsTrue (can_be_kept (delta.NoTriple t))) (λ o. not (eq_by_cmp triple_cmp o t)) c.triples all.0, all.1) e
spelled-apply c d (delta.Entry x) may all e = then_spelled _ 13 _ d all e
spelled-apply c d (delta.NoEntry k id user) may all e = then_spelled _ 14 _ d all e
spelled-apply c d (delta.Resource r) may all e = then_spelled _ 15 _ d all e
spelled-apply c d (delta.Rules text) may all e = then_spelled true 16 (record c { rules = text }) d all e
spelled-apply c d (delta.Orphan r) may all e = then_spelled _ 17 _ d all e
spelled-apply c d (delta.NoOrphan vault) may all e = then_spelled _ 18 _ d all e
spelled-apply c d (delta.Numbers n) may all e = then_spelled _ 19 _ d all e
spelled-apply c d (delta.Pending p) may all e = then_spelled _ 20 _ d (all.0, and_from (delta_fits (delta.Pending p)) true may.0 refl) e
spelled-apply c d delta.NoPending may all e = then_spelled _ 21 _ d (all.0, tt) e

-- after more changes that may be kept
pub spelled-apply_all : (deltas : List Delta) (c d : Cat) → AllByRecursion MayBeKept deltas → HasSpelledRows c → apply_all c deltas ≡ Ok d → HasSpelledRows d
spelled-apply_all [] c d may all e = let same : c ≡ d = cc in subst HasSpelledRows same all
spelled-apply_all (x ∷ deltas) c d may all e =
    by (λ next rest step. spelled-apply_all deltas next d may.1 rest step) (apply c x) (λ next is. spelled-apply c next x may.0 all is) e
  where
    by : ((next : Cat) → HasSpelledRows next → apply_all next deltas ≡ Ok d → HasSpelledRows d) → (r : Result Cat ℕ) → ((next : Cat) → r ≡ Ok next → HasSpelledRows next)
        → elim r as (λ _. Result Cat ℕ) [ Ok next ↦ apply_all next deltas | Err cause ↦ Err cause ] ≡ Ok d → HasSpelledRows d
    by more (Ok next) one h = more next (one next refl) h
    by more (Err cause) one h = absurd cc

-- after records
pub spelled-replays : {c d : Cat} {rs : List (ℕ × Text)} → Replays c rs (Ok d) → HasSpelledRows c → HasSpelledRows d
spelled-replays none_left all = all
spelled-replays (taken {c = c} {after = after} ds p n a more) all = spelled-replays more (spelled-apply_all ds c after (both_kept ds p.fit n) all a)
