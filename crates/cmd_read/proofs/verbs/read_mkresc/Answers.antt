use Rattle.std.proofs.Common.{rules, ◌≡◌, [], ◌∷◌, refl, true}
use Rattle.std.specs.Prelude.{codes}
use Rattle.grid_model.specs.Names.{same_text}
use Rattle.grid_model.proofs.Comparing.{same_text-Decides}
use Rattle.cmd_read.specs.Table.{a_new_name, the_word, a_number, a_coordinating_kind, way}
use Rattle.grid_model.specs.declared.requests.Verb.TheVariants.{MkStorage, MkCoordinating}
use Rattle.cmd_read.proofs.Asking.{asks_first}
use Rattle.cmd_read.proofs.verbs.read_mkresc.Goals as goal

pub returns-then-is_storage-clause-verb : goal.returns-then-is_storage-clause-verb
returns-then-is_storage-clause-verb c =
    let words : c.args.words.now ≡ c.in_ok-name.name.now ∷ c.in_ok-kind.kind.now ∷ c.in_ok-slot.slot.now ∷ [] = search rules in
    let kind : same_text (codes "unixfilesystem") c.in_ok-kind.kind.now ≡ true = search rules in
    rw words (asks_first (a_new_name ∷ the_word (codes "unixfilesystem") ∷ a_number ∷ []) (λ name kind slot. MkStorage name slot) (way (a_new_name ∷ a_coordinating_kind ∷ []) MkCoordinating ∷ [])
    (c.in_ok-name.name.now ∷ c.in_ok-kind.kind.now ∷ c.in_ok-slot.slot.now ∷ []) (MkStorage c.in_ok-name-2.name c.in_ok-slot-2.slot)
    (c.in_ok-name-2.name, search rules, (tt, (same_text-Decides (codes "unixfilesystem") c.in_ok-kind.kind.now).0 kind, (c.in_ok-slot-2.slot, search rules, refl))))
