use Rattle.std.proofs.Common.{◌∙◌, sym}
use Rattle.chain_core.proofs.Serving.{is_served, is_named}
use Rattle.chain_core.proofs.kinds.kind_of.Goals as goal

pub returns-then-is_service : goal.returns-then-is_service
returns-then-is_service c =
    is_served c.args.call.now (sym c.is_named.ensures ∙ c.if-is_named.false) (sym c.is_named-2.ensures ∙ c.if-is_named-2.false) (sym c.is_named-3.ensures ∙ c.if-is_named-3.false)
    (sym c.is_service.ensures ∙ c.if-is_service.true)

pub returns : goal.returns
returns c =
    is_named c.args.call.now (sym c.is_named.ensures ∙ c.if-is_named.false) (sym c.is_named-2.ensures ∙ c.if-is_named-2.false) (sym c.is_named-3.ensures ∙ c.if-is_named-3.false)
    (sym c.is_service.ensures ∙ c.if-is_service.false)
