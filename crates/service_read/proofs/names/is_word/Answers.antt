use Rattle.std.proofs.Common.{◌∙◌, ap}
use Rattle.std.specs.Cmp.Lexicographic.{texts_ties}
use Rattle.grid_model.specs.Names.{same_text}
use Rattle.service_read.proofs.names.is_word.Goals as goal

pub returns : goal.returns
returns c = c.eq.ensures ∙ texts_ties c.args.bytes.now c.as_slice.result.now ∙ ap (same_text c.args.bytes.now) c.as_slice.ensures
