-- Bytes that stand for no catalogue, and where that shows.
use Rattle.std.proofs.Common.{◌≡◌, ◌≢◌, ℕ, [], ◌∷◌, ◌++◌, Some, Err, refl, arith}
use Rattle.std.specs.Prelude.{codes}
use Rattle.std.proofs.lemmas.List.Elements.{All-nil}
use Rattle.frame_log.specs.Log.{IsShort, no_gate}
use Rattle.grid_model.specs.Names.{Text}
use Rattle.grid_model.specs.declared.grid.Side.TheVariants.{Main}
use Rattle.grid_journal.specs.Stands.{magic, HasHead, no_magic, no_root, Stands, no_head, no_log}

differ : (a b : ℕ) → (a ≡ b → ⊥) → Some a ≢ Some b
differ a b other same = other cc

-- a file of another kind, and none
another : (spare : Text) → Stands (codes "hello") spare (Err (Main, 0))
another spare = no_head 0 (no_magic 0 (omega arith) refl (differ 0x68 0x69 (λ e. omega arith)))

nothing : (spare : Text) → Stands [] spare (Err (Main, 0))
nothing spare = no_head 0 (no_magic 0 (omega arith) refl (λ e. cc))

-- the magic bytes with the last one wrong
last_byte : (spare : Text) → Stands (codes "iRODSgre" ++ 0 ∷ []) spare (Err (Main, 7))
last_byte spare = no_head 7 (no_magic 7 (omega arith) refl (differ 0x65 0x64 (λ e. omega arith)))

-- no root, and one that says spare
no_byte : (spare : Text) → Stands magic spare (Err (Main, 8))
no_byte spare = no_head 8 (no_root refl (λ root is. absurd cc))

odd : (spare : Text) → Stands (magic ++ 1 ∷ []) spare (Err (Main, 8))
odd spare = no_head 8 (no_root refl (λ root is even. let one : Some 1 ≡ Some root = is in let e : 1 ≡ root = cc in absurd (omega (arith, e, even))))

-- a head alone, and a first gate that is closed
head : HasHead (magic ++ 2 ∷ [])
head = record { root = 2; magic_is = refl; root_is = refl; even = refl }

no_first_gate : (spare : Text) → Stands (magic ++ 2 ∷ []) spare (Err (Main, 16))
no_first_gate spare = no_log 16 head (record { before = []; short = All-nil IsShort; rest = []; offset = 0; is = refl; breaks = no_gate []; at_is = refl })
