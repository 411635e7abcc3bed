use Rattle.std.proofs.Common.{sym, subst}
use Rattle.req_lines.specs.Reading.{Reader, input}
use Rattle.req_lines.specs.Hearing.{Finds, Hears}
use Rattle.req_lines.specs.declared.requests.Next.{Next}
use Rattle.grid_server.specs.Turning.{handled}
use Rattle.grid_server.proofs.AnsweredLemmas.{uncalled_or_begun}
use Rattle.grid_server.proofs.AskLemmas.{form_of, kept_word}
use Rattle.grid_server.proofs.service.Service.turn.Goals as goal

pub handle-requires-clause-form : goal.handle-requires-clause-form
handle-requires-clause-form g c =
    let F : Next → Type 0 = λ n. Finds (input c.args.self.now.requests (g.S.Source.source c.args.source.now)) (input c.next.new.self (g.S.Source.source c.next.new.source)) n in
    let hears = subst F c.in-Ok-Request.field-0-is c.in-Ok-Request.ensures.finds in
    form_of hears.asked.line hears.asked.body c.in-Ok-Request.heard.asked hears.read

pub handle-requires-clause-line : goal.handle-requires-clause-line
handle-requires-clause-line g c =
    let F : Next → Type 0 = λ n. Finds (input c.args.self.now.requests (g.S.Source.source c.args.source.now)) (input c.next.new.self (g.S.Source.source c.next.new.source)) n in
    let hears = subst F c.in-Ok-Request.field-0-is c.in-Ok-Request.ensures.finds in
    kept_word hears.asked.line hears.asked.body c.in-Ok-Request.heard.asked c.in-Ok-Request.heard.line hears.read hears.keeps

pub handle-requires-clause-small : goal.handle-requires-clause-small
handle-requires-clause-small g c =
    let F : Next → Type 0 = λ n. Finds (input c.args.self.now.requests (g.S.Source.source c.args.source.now)) (input c.next.new.self (g.S.Source.source c.next.new.source)) n in
    (subst F c.in-Ok-Request.field-0-is c.in-Ok-Request.ensures.finds).fits

pub returns-in-Ok-Request-clause-turns : goal.returns-in-Ok-Request-clause-turns
returns-in-Ok-Request-clause-turns g c =
    let from = g.S.Source.source c.args.source.now in
    let to = g.S.Source.source c.next.new.source in
    let F : Next → Type 0 = λ n. Finds (input c.args.self.now.requests from) (input c.next.new.self to) n in
    let H : Reader → Type 0 = λ r. Hears (input c.args.self.now.requests from) (input r to) c.in-Ok-Request.heard in
    let commands = c.handle.ensures.commands in
    handled c.in-Ok-Request.heard commands.0 commands.1 (subst H (sym c.handle.ensures.requests) (subst F c.in-Ok-Request.field-0-is c.in-Ok-Request.ensures.finds)) c.handle.ensures.number (commands.2 to)
    (λ place is. uncalled_or_begun to (commands.3 place is))
