-- Changes that take replicas away.
use Rattle.std.proofs.Common.{◌≡◌, inl, ℕ, ◌<◌, List, [], ◌∷◌, ◌++◌, Result, Ok, Err, sym, ap, subst}
use Rattle.grid_model.specs.Rows.{Cat}
use Rattle.grid_model.specs.Applying.{apply, apply_all}
use Rattle.grid_model.specs.declared.deltas.Delta.{Delta}
use Rattle.tables_laws.proofs.Sound.{IsSound, sound-apply_all}
use Rattle.file_laws.specs.Plans.{Turns}
use Rattle.file_laws.specs.Rewriting.{StoredReplica, replicas_dropped}
use Rattle.file_laws.proofs.Dropping.{drop_all}
use Rattle.plan_drop.proofs.DroppedRows.{AreHeld, HaveOwnKeys, after_drop, applied_dropped}

pub apply_more : (c d : Cat) (xs ys : List Delta) → apply_all c xs ≡ Ok d → apply_all c (xs ++ ys) ≡ apply_all d ys
apply_more c d [] ys e = let same : c ≡ d = cc in ap (λ (x : Cat). apply_all x ys) same
apply_more c d (x ∷ xs) ys e = by (apply c x) e (λ next h. apply_more next d xs ys h)
  where
    by : (r : Result Cat ℕ) → elim r as (λ _. Result Cat ℕ) [ Ok next ↦ apply_all next xs | Err cause ↦ Err cause ] ≡ Ok d → ((next : Cat) → apply_all next xs ≡ Ok d → apply_all next (xs ++ ys) ≡ apply_all d ys)
        → elim r as (λ _. Result Cat ℕ) [ Ok next ↦ apply_all next (xs ++ ys) | Err cause ↦ Err cause ] ≡ apply_all d ys
    by (Ok next) h more = more next h
    by (Err cause) h more = absurd cc

module _ (c : Cat) (s : IsSound c) (stored : List StoredReplica) (held : AreHeld c stored) (own : HaveOwnKeys stored) where
  pub drop_turns : Turns [] [] c (after_drop c stored)
  drop_turns = (drop_all [] [] stored c (after_drop c stored) s (λ f here. record { here = inl (held f here).0; slot_is = (held f here).1 }) (applied_dropped stored c s held own)).0

  pub drop_sound : IsSound (after_drop c stored)
  drop_sound = sound-apply_all (replicas_dropped stored) c (after_drop c stored) s (applied_dropped stored c s held own)
