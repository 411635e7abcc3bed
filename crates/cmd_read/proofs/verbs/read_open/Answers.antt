use Rattle.std.proofs.Common.{rules, ◌≡◌, [], ◌∷◌, refl}
use Rattle.cmd_read.specs.Table.{a_mode, a_path, a_text}
use Rattle.grid_model.specs.declared.requests.Verb.TheVariants.{Open}
use Rattle.cmd_read.proofs.Asking.{asks_first}
use Rattle.cmd_read.proofs.verbs.read_open.Goals as goal

pub returns-clause-verb : goal.returns-clause-verb
returns-clause-verb c =
    let words : c.args.words.now ≡ c.in_ok-path.path.now ∷ c.in_ok-resource.resource.now ∷ c.in_ok-mode.mode.now ∷ [] = search rules in
    rw words (asks_first (a_path ∷ a_text ∷ a_mode ∷ []) Open [] (c.in_ok-path.path.now ∷ c.in_ok-resource.resource.now ∷ c.in_ok-mode.mode.now ∷ []) (Open c.in_ok-path-2.path c.in_ok-resource-2.resource c.in_ok-mode-2.mode)
    (c.in_ok-path-2.path, search rules, (c.in_ok-resource-2.resource, search rules, (c.in_ok-mode-2.mode, search rules, refl))))
