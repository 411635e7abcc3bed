use Rattle.std.proofs.Common.{◌∷◌, [], ap}
use Rattle.grid_model.specs.Names.{Text}
use Rattle.grid_server.specs.Tasks.{to_init}
use Rattle.grid_server.proofs.TaskLemmas.{init_asked, not_true, not_both}
use Rattle.grid_server.proofs.words.is_init.Goals as goal

pub returns-then-not-is_named-2 : goal.returns-then-not-is_named-2
returns-then-not-is_named-2 c = (
  λ no. absurd (cc),
  λ asked. let named = c.is_named-2.ensures.1 (init_asked _ _ _ asked).admin_is in cc (named, c.if-not-is_named-2.true),
)

pub returns : goal.returns
returns c = (
  λ yes. to_init (ap (λ (t : Text). t ∷ c.args.zone.now ∷ c.args.admin.now ∷ []) (c.is_text.ensures.0 c.if-not-is_text.false)) (c.is_named.ensures.0 c.if-not-is_named.false) (c.is_named-2.ensures.0 c.if-not-is_named-2.false)
      (λ e. not_both c.is_text-2.result (c.is_text-2.ensures.1 e) yes),
  λ asked. not_true c.is_text-2.result (λ yes. (init_asked _ _ _ asked).not_everybody (c.is_text-2.ensures.0 yes)),
)
