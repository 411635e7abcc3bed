use Rattle.std.proofs.Common.{◌∙◌, sym, ap}
use Rattle.chain_core.specs.Readings.{fits_reading}
use Rattle.chain_core.proofs.Serving.{access_takes}
use Rattle.chain_core.proofs.services.takes.Goals as goal

pub returns-in-len3 : goal.returns-in-len3
returns-in-len3 c =
    c.is_level.ensures ∙ access_takes c.args.args.now _ c.in-len3.len_at_least c.in-len3.len_below c.word-item-then-args-lt4.is
    ∙ ap (λ r. fits_reading r c.args.args.now) (sym c.in-Access.is)
