use Rattle.std.proofs.Common.{Some, None, sym, ap, ◌∙◌, subst}
use Rattle.service_read.specs.ReadServices.{Explains, reading_by}
use Rattle.service_read.proofs.ServiceNames.{service_by_name}
use Rattle.service_read.proofs.reading.read_service.Goals as goal

pub returns-in-None : goal.returns-in-None
returns-in-None c = service_by_name c.args.call.now None (sym c.in-None.is ∙ c.service_named.ensures)

pub returns-in-Ok : goal.returns-in-Ok
returns-in-Ok c =
    sym c.in-Ok.ensures.service ∙ ap (reading_by c.in-Some.name) c.as_slice.ensures
    ∙ service_by_name c.args.call.now (Some c.in-Some.name) (sym c.in-Some.is ∙ c.service_named.ensures)

pub returns-in-Err-NoService : goal.returns-in-Err-NoService
returns-in-Err-NoService c =
    let why = subst (λ e. Explains e (reading_by c.in-Some.name c.as_slice.result.now)) c.in-Err-NoService.field-0-is c.in-Err-NoService.ensures.refused in
    sym why ∙ ap (reading_by c.in-Some.name) c.as_slice.ensures
    ∙ service_by_name c.args.call.now (Some c.in-Some.name) (sym c.in-Some.is ∙ c.service_named.ensures)

pub returns-in-Err-NoPath : goal.returns-in-Err-NoPath
returns-in-Err-NoPath c =
    let why = subst (λ e. Explains e (reading_by c.in-Some.name c.as_slice.result.now)) c.in-Err-NoPath.field-0-is c.in-Err-NoPath.ensures.refused in
    sym why ∙ ap (reading_by c.in-Some.name) c.as_slice.ensures
    ∙ service_by_name c.args.call.now (Some c.in-Some.name) (sym c.in-Some.is ∙ c.service_named.ensures)
