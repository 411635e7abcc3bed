-- Rules as contracts see them.
use Rattle.std.specs.Prelude.{◌≡◌, List, map}
use Rattle.grid_model.specs.Parsed.{rule_of, plain_rule}
use Rattle.grid_model.specs.RuleText as meaning
use Rattle.grid_model.specs.declared.rules.Rule.{Rule}
use Rattle.chain_core.specs.declared.actions.Event.{Event}
use Rattle.chain_core.specs.declared.base.RuleBase.{RuleBase}
use Rattle.chain_core.specs.declared.frames.Frames.{Frames}
use Rattle.chain_core.specs.declared.frames.Control.{Control}
use Rattle.chain_core.specs.declared.kinds.Kind.{Kind}
use Rattle.chain_core.specs.Moves.{next_by}
use Rattle.chain_core.specs.Answers.{KindFits}

-- rules without their places
abbrev pub plain_rules : List Rule → List meaning.Rule
plain_rules rules = map (λ r. plain_rule (rule_of r)) rules

-- what the rules of a base mean
abbrev pub rules_of : RuleBase → List meaning.Rule
rules_of b = plain_rules b.rules

-- the machine, which waited for this, took the event
abbrev pub TakesEvent : List meaning.Rule → Frames → Control → Event → Frames → Type 0
TakesEvent rules old c e new = (k : Kind) × KindFits c e k × (new ≡ next_by rules old c e k)
