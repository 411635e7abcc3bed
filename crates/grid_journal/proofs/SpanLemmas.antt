-- What a stop leaves of main while a grid is begun.
use Rattle.std.proofs.Common.{◌≡◌, ℕ, ◌+◌, ◌≤◌, [], ◌∷◌, ◌++◌, length, take, drop, refl, sym, ap, subst, ◌∙◌, arith}
use Rattle.std.proofs.Math.ListN.{drop_of_length-le}
use Rattle.std.proofs.lemmas.List.{append-nil}
use Rattle.grid_outside.specs.Device.{Looks, Between}
use Rattle.grid_outside.specs.Disk.{DiskState, Torn, Holds}
use Rattle.grid_outside.proofs.Spans.{looked, goes_on}
use Rattle.frame_log.proofs.Torn.{torn_none, torn_on}
use Rattle.grid_model.specs.Names.{Text}

torn_same : (n : ℕ) (a b : Text) → b ≡ a → Torn 0 n a b
torn_same n a b same = let P : Text → Type 0 = λ x. Torn 0 n a x in subst P (sym same) (torn_none 0 n a)

pub only_looked : (n from to : ℕ) (old new : DiskState) → old.last ≤ from → from ≡ to → old.faults ≤ new.faults → Looks old new → Between from to (Torn 0 n) old new
only_looked n from to old new last same later looks = looked from to (Torn 0 n) old new last (omega arith) later (torn_same n) looks

pub then_written : (n from to : ℕ) (old mid new : DiskState) → old.last ≤ from → from ≤ to → old.faults ≤ mid.faults → Looks old mid → Between from to (Torn 0 n) mid new
    → Between from to (Torn 0 n) old new
then_written n from to old mid new last le later looks written =
    goes_on from from to (Torn 0 n) (Torn 0 n) (Torn 0 n) old mid new (omega arith) le (λ x y h. h) (torn_on 0 n)
    (only_looked n from from old mid last refl later looks) written

pub nothing : (bytes : Text) → length bytes ≡ 0 → bytes ≡ []
nothing [] e = refl
nothing (b ∷ bytes) e = absurd (omega arith)

pub held_on_empty : (bytes old new : Text) → old ≡ [] → Holds 0 bytes old new → new ≡ bytes
held_on_empty bytes old new empty holds =
    holds ∙ ap (λ l. take 0 l ++ bytes ++ drop (0 + length bytes) l) empty ∙ ap (λ l. bytes ++ l) (drop_of_length-le [] (omega arith)) ∙ append-nil bytes
