use Rattle.std.proofs.Common.{◌<◌, ◌≤◌, length, sym, ◌∙◌, arith}
use Rattle.std.specs.List.{starts_with}
use Rattle.std.proofs.lemmas.Bool.{le-ltb}
use Rattle.grid_model.specs.Names.{is_under, same_text}
use Rattle.grid_model.proofs.Below.{is_under-long, is_under-short}
use Rattle.grid_model.proofs.path.Path.is_under.Goals as goal

pub returns-then-len : goal.returns-then-len
returns-then-len c =
    let names = c.self.inside.names.items in
    let above = c.other.inside.names.items in
    let long : length above < length names = omega (arith, c.self.inside.names.ok.0, c.other.inside.names.ok.0) in
    is_under-long above names c.starts_with.result long (c.starts_with.ensures.value ∙ (λ i. starts_with same_text (c.deref.ensures.value i) (c.deref-then-len.ensures.value i)))
    ∙ (λ i. is_under (c.other.view_is i) (c.self.view_is i))

pub returns-else-len : goal.returns-else-len
returns-else-len c =
    let names = c.self.inside.names.items in
    let above = c.other.inside.names.items in
    let short : length names ≤ length above = omega (arith, c.self.inside.names.ok.0, c.other.inside.names.ok.0) in
    le-ltb c.len.result c.len-2.result c.if-len.false ∙ sym (is_under-short above names short) ∙ (λ i. is_under (c.other.view_is i) (c.self.view_is i))
