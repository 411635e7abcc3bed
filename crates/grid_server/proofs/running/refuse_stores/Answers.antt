use Rattle.std.proofs.Common.{inl, ◌∙◌}
use Rattle.grid_server.proofs.RunLemmas.{says_as}
use Rattle.grid_server.proofs.running.refuse_stores.Goals as goal

pub returns-clause-refuses : goal.returns-clause-refuses
returns-clause-refuses g c = inl (says_as _ _ (c.deref.ensures.value ∙ c.in-Ok.ensures) _ (g.K.Sink.sink c.args.sink.now) (g.K.Sink.sink c.say.new.sink) c.say.result c.say.ensures.says)
