use Rattle.std.proofs.Common.{rules, ◌≡◌, [], ◌∷◌, refl}
use Rattle.cmd_read.specs.Table.{a_level, a_path, a_text}
use Rattle.grid_model.specs.declared.requests.Verb.TheVariants.{ChMod}
use Rattle.cmd_read.proofs.Asking.{asks_first}
use Rattle.cmd_read.proofs.verbs.read_chmod.Goals as goal

pub returns-clause-verb : goal.returns-clause-verb
returns-clause-verb c =
    let words : c.args.words.now ≡ c.in_ok-level.level.now ∷ c.in_ok-name.name.now ∷ c.in_ok-path.path.now ∷ [] = search rules in
    rw words (asks_first (a_level ∷ a_text ∷ a_path ∷ []) ChMod [] (c.in_ok-level.level.now ∷ c.in_ok-name.name.now ∷ c.in_ok-path.path.now ∷ []) (ChMod c.in_ok-level-2.level c.in_ok-name-2.name c.in_ok-path-2.path)
    (c.in_ok-level-2.level, search rules, (c.in_ok-name-2.name, search rules, (c.in_ok-path-2.path, search rules, refl))))
