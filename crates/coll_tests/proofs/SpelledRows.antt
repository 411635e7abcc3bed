-- What changes may take away or note again stays such once one more change was made that may be kept.
use Rattle.std.proofs.Common.{◌≡◌, true, List, [], ◌∷◌, Result, Ok, Err, ℕ, IsTrue, refl, sym, ap, subst}
use Rattle.std.specs.Prelude.{OnOk, OnErr}
use Rattle.std.proofs.lemmas.Bool.{and_from}
use Rattle.grid_model.specs.Rows.{Cat}
use Rattle.grid_model.specs.Applying.{apply, apply_all}
use Rattle.grid_model.specs.declared.deltas.Delta.{Delta}
use Rattle.grid_journal.specs.Journal.{HasSpelledRows, can_be_kept}
use Rattle.grid_journal.proofs.KeptDeltas.{plain_kept}
use Rattle.grid_journal.proofs.SpelledRows.{spelled-apply_all}

pub spelled-after : {T E : Type 0} (r : Result T E) (c d : Cat) (x : Delta) → IsTrue (can_be_kept x) → HasSpelledRows c
    → OnOk r (apply c x ≡ Ok d) → OnErr r (d ≡ c) → HasSpelledRows d
spelled-after (Ok t) c d x may all applied unchanged =
    spelled-apply_all (x ∷ []) c d (plain_kept (x ∷ []) (and_from (can_be_kept x) true may refl)) all
    (ap (λ (r : Result Cat ℕ). elim r as (λ _. Result Cat ℕ) [ Ok next ↦ apply_all next [] | Err cause ↦ Err cause ]) applied)
spelled-after (Err e) c d x may all applied unchanged = subst HasSpelledRows (sym unchanged) all
