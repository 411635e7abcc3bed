use Rattle.std.proofs.Common.{rules, ◌≡◌, [], ◌∷◌, refl, true, ap}
use Rattle.std.specs.Prelude.{None, is_some, ◌&&◌}
use Rattle.cmd_read.specs.Table.{a_kind_with_path, a_path_text, a_kind_with_name, a_text, way, among, kinds_with_path}
use Rattle.cmd_read.proofs.Asking.{asks_first, asks_second}
use Rattle.cmd_read.proofs.verbs.read_triple.Goals as goal

pub returns-in-Some-clause-triple : goal.returns-in-Some-clause-triple
returns-in-Some-clause-triple c = λ verb.
    let words : c.args.words.now ≡ c.in_ok-item.item.now ∷ c.in_ok-name.name.now ∷ c.in_ok-attribute.attribute.now ∷ c.in_ok-value.value.now ∷ c.in_ok-unit.unit.now ∷ [] = search rules in
    rw words (asks_first (a_kind_with_path ∷ a_path_text ∷ a_text ∷ a_text ∷ a_text ∷ []) verb (way (a_kind_with_name ∷ a_text ∷ a_text ∷ a_text ∷ a_text ∷ []) verb ∷ [])
    (c.in_ok-item.item.now ∷ c.in_ok-name.name.now ∷ c.in_ok-attribute.attribute.now ∷ c.in_ok-value.value.now ∷ c.in_ok-unit.unit.now ∷ [])
    (verb c.in-Some.item c.in_ok-name-2.name c.in_ok-attribute-2.attribute c.in_ok-value-2.value c.in_ok-unit-2.unit)
    (c.in-Some.item, search rules, (c.in_ok-name-2.name, search rules, (c.in_ok-attribute-2.attribute, search rules, (c.in_ok-value-2.value, search rules, (c.in_ok-unit-2.unit, search rules, refl))))))

pub returns-clause-triple : goal.returns-clause-triple
returns-clause-triple c = λ verb.
    let words : c.args.words.now ≡ c.in_ok-item.item.now ∷ c.in_ok-name-3.name.now ∷ c.in_ok-attribute-3.attribute.now ∷ c.in_ok-value-3.value.now ∷ c.in_ok-unit-3.unit.now ∷ [] = search rules in
    let other : among kinds_with_path c.in_ok-item.item.now ≡ None = search rules in
    rw words (asks_second (a_kind_with_path ∷ a_path_text ∷ a_text ∷ a_text ∷ a_text ∷ []) (a_kind_with_name ∷ a_text ∷ a_text ∷ a_text ∷ a_text ∷ []) verb verb []
    (c.in_ok-item.item.now ∷ c.in_ok-name-3.name.now ∷ c.in_ok-attribute-3.attribute.now ∷ c.in_ok-value-3.value.now ∷ c.in_ok-unit-3.unit.now ∷ [])
    (verb c.in_ok-item-2.item c.in_ok-name-4.name c.in_ok-attribute-4.attribute c.in_ok-value-4.value c.in_ok-unit-4.unit)
    (ap (λ o. is_some o && (true && (true && (true && (true && true))))) other)
    (c.in_ok-item-2.item, search rules, (c.in_ok-name-4.name, search rules, (c.in_ok-attribute-4.attribute, search rules, (c.in_ok-value-4.value, search rules, (c.in_ok-unit-4.unit, search rules, refl))))))
