use Rattle.std.proofs.Common.{◌∙◌, sym, ap, false}
use Rattle.std.specs.Option.{option_map_or}
use Rattle.chain_core.specs.Readings.{fits_reading}
use Rattle.chain_core.proofs.Serving.{serves}
use Rattle.chain_core.proofs.services.is_service.Goals as goal

pub returns-in-None : goal.returns-in-None
returns-in-None c = ap (λ o. option_map_or (λ r. fits_reading r c.args.call.now.args) o false) (sym c.in-None.is ∙ c.reading_of.ensures) ∙ sym (serves c.args.call.now)

pub returns-in-Some : goal.returns-in-Some
returns-in-Some c =
    c.takes.ensures ∙ ap (fits_reading c.in-Some.reading) c.as_slice.ensures
    ∙ ap (λ o. option_map_or (λ r. fits_reading r c.args.call.now.args) o false) (sym c.in-Some.is ∙ c.reading_of.ensures) ∙ sym (serves c.args.call.now)
